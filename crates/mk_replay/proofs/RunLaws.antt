-- What a run's steps say of the histories that it stands for.
use Rattle.std.proofs.{Common.{IsTrue, set}, lemmas.List.{append_cancel_left, get_or_default, get_or_push}}
use Rattle.std.proofs.lemmas.List.Sums.{sum_by-append}
use Rattle.std.specs.{Option.option_or, Prelude.count_by}
use Rattle.mk_replay.proofs.Vocabulary.{Answer, AreEnabled, ArePlayersOf, Config, Decided, Entry, Event}
use Rattle.mk_replay.proofs.Vocabulary.{IsPlayerOf, Item, Op, TakesStep, answer_decided, calls, config_of, ends_call}
use Rattle.mk_replay.proofs.Vocabulary.{entry_of, event_of_entry, first_world, flight_of, is_same_seat, left}
use Rattle.mk_replay.proofs.{Vocabulary.{length-append, nat_tests, served_to}, ServedMore.{served_first, served_more}}
use Rattle.mk_laws.proofs.Vocabulary.{IsEnabled, List, None, Option, Seat, Some, ℕ, ap, arith, caller_number, cases_eq}
use Rattle.mk_laws.proofs.Vocabulary.{enabled_meets, false, get_or, get_or-set_other, get_or-set_same}
use Rattle.mk_laws.proofs.Vocabulary.{cond, get_or_append_left, inl, inr, length, refl, seat_exists, slice_index_or}
use Rattle.mk_laws.proofs.Vocabulary.{slice_set, subst, sym, true, [], ◌++◌, ◌+◌, ◌<◌, ◌∙◌, ◌∷◌, ◌≡◌, ◌≢◌}
use Rattle.mk_core.proofs.Histories.{calls_more, last_enabled}
use Rattle.mk_core.specs.{Enabled.failing, History.{CoreStandsFor, CoreState}}
use Rattle.mk_check.proofs.{FeedLaws.{feed_push, feed_push-ended}, GivenAnswers.same_number}
use Rattle.mk_check.specs.{Feed.{feed, has_ended, is_refusal}, declared.text.Text.Text}
use Rattle.mk_replay.specs.Replays.{FeedsOn, IsFed, IsRunAfter, Served, TakeEvent, TakesEntry, served_by}
use Rattle.mk_replay.specs.{Replays.IsReplayedText, declared.{players.Player.Player, replaying.Run.Run}}
use Rattle.mk_check.specs.Feeding.{FeedStandsFor, FeedState, TakesAnswer as FeedTakesAnswer}

-- A feed that waits takes the answer.
pub fed_more : {program : List Item} {k : ℕ} {old : FeedState} (new : FeedState) {answers : List Answer} (a : Answer)
    → FeedTakesAnswer old a new → IsFed program k old answers → IsFed program k new (answers ++ a ∷ [])
fed_more {program} {k} new {answers} a takes h = grind (arith, feed_push)

-- One that has ended stays as it is.
pub fed_ended : {program : List Item} {k : ℕ} {s : FeedState} {answers : List Answer} (a : Answer)
    → ((taken : List Answer) → FeedStandsFor program k s taken → has_ended (feed program k taken) ≡ true)
    → IsFed program k s answers → IsFed program k s (answers ++ a ∷ [])
fed_ended {program} {k} {answers} a ended h = grind (arith, feed_push-ended)

first_answer : List Decided → Option Answer
first_answer [] = None
first_answer (x ∷ xs) = Some x.answer

-- The answer that makes this history's calls is the one that the event decides.
pub answer_is : (c : Config) (es : List Event) (e : Event) (caller : ℕ) (o : Op) (a : Option Answer)
    → calls c (es ++ e ∷ []) ≡ calls c es ++ entry_of caller o a → a ≡ answer_decided c (left c es).now e
answer_is c es e caller o a h = grind (arith, append_cancel_left, calls_more, first_answer)

mine : (players : List Player) (j : ℕ) (old new : Player) (e : Event) (a : Option Answer) → j < length players
    → old ≡ slice_index_or players j old → e.seat ≡ Seat.Caller j → TakesStep (ends_call e.step) a old new
    → (program : List Item) (d : Player) (x : Served) → IsPlayerOf program j x (get_or players j d)
    → IsPlayerOf program j (served_by j e a x) (get_or (set players j new) j d)
mine players j old new e a lt at is takes program d x h =
    let mine : is_same_seat (Seat.Caller j) e.seat ≡ true = ap (is_same_seat (Seat.Caller j)) is ∙ same_number j in
    let here : get_or players j d ≡ old = get_or_default players j d old lt ∙ sym at in
    rw (mine, get_or-set_same players j new d lt) (takes program j x (subst (IsPlayerOf program j x) here h))

others : (players : List Player) (j : ℕ) (new : Player) (e : Event) (a : Option Answer) → e.seat ≡ Seat.Caller j
    → {program : List Item} {k : ℕ} (d : Player) {x : Served} → j ≢ k → IsPlayerOf program k x (get_or players k d)
    → IsPlayerOf program k (served_by k e a x) (get_or (set players j new) k d)
others players j new e a is {k} d other h =
    let not_mine : is_same_seat (Seat.Caller k) e.seat ≡ false = ap (is_same_seat (Seat.Caller k)) is
    ∙ (grind (arith, nat_tests)) in
    rw (not_mine, get_or-set_other players j k new d (λ same. other (sym same))) h

-- One player takes a step of its caller.
pub one_takes : (players : List Player) (j : ℕ) (old new : Player) (e : Event) (a : Option Answer)
    → j < length players → old ≡ slice_index_or players j old → e.seat ≡ Seat.Caller j
    → TakesStep (ends_call e.step) a old new → TakeEvent e a players (slice_set players j new)
one_takes players j old new e a lt at is takes = λ program k d x less h. elim (cases_eq j k) [
  | inl same ↦ subst (λ (i : ℕ). IsPlayerOf program i (served_by i e a x) (get_or (set players j new) i d)) same
      (mine players j old new e a lt at is takes program d x
      (subst (λ (i : ℕ). IsPlayerOf program i x (get_or players i d)) (sym same) h))
  | inr other ↦ others players j new e a is d other h
]

-- At a call's last step the answer that was kept, or is decided there, is given and counted.
pub last_takes : (old : Player) (fed : FeedState) (decided : Option Answer) (a : Answer)
    → option_or decided old.kept ≡ Some a → FeedsOn a old.feed fed → TakesStep true decided old
    (record { feed = fed; kept = None; ops = old.ops + 1; refused = count_by is_refusal (a ∷ []) + old.refused })
last_takes old fed decided a is feeds = λ program k x h.
    let given : option_or decided x.kept ≡ Some a = ap (option_or decided) (sym h.kept) ∙ is in
    rw given (record {
      fed = feeds program k x.answers h.fed;
      kept = refl;
      ops = omega (arith, h.ops, length-append x.answers (a ∷ []));
      refused = omega (arith, h.refused, sum_by-append (λ (y : Answer). cond (is_refusal y) 1 0) x.answers (a ∷ []));
    })

-- One player more.
pub players_push : {program : List Item} (players : List Player) {p : Player} → ArePlayersOf program [] players
    → IsPlayerOf program (length players) (record { answers = []; kept = None }) p
    → ArePlayersOf program [] (players ++ p ∷ [])
players_push {program} players {p} h new = λ k d less.
    let total = length-append players (p ∷ []) in
    elim (cases_eq k (length players)) [
      | inl e ↦ rw (get_or_push players p d k (sym e))
          (subst (λ (i : ℕ). IsPlayerOf program i (served_to (config_of program 8) [] i) p) (sym e)
          (subst (λ (x : Served). IsPlayerOf program (length players) x p)
          (sym (served_first (config_of program 8) (length players))) new))
      | inr ne ↦ (let lt : k < length players = omega arith in rw (get_or_append_left players (p ∷ []) d k lt)
          (h k d lt))
    ]

-- the texts of the first scripts, in order
abbrev pub AreFirstTexts : List Item → List Event → List Text → Type 0
AreFirstTexts program es texts = (k : ℕ) (d : Text) → k < length texts
    → IsReplayedText program es k (slice_index_or texts k d)

-- One text more.
pub texts_push : {program : List Item} {es : List Event} (texts : List Text) (t : Text) → AreFirstTexts program es texts
    → IsReplayedText program es (length texts) t → AreFirstTexts program es (texts ++ t ∷ [])
texts_push {program} {es} texts t h new = λ k d less.
    let total = length-append texts (t ∷ []) in
    elim (cases_eq k (length texts)) [
      | inl e ↦ rw (get_or_push texts t d k (sym e))
          (subst (λ (i : ℕ). IsReplayedText program es i t) (sym e) new)
      | inr ne ↦ (let lt : k < length texts = omega arith in rw (get_or_append_left texts (t ∷ []) d k lt) (h k d lt))
    ]

-- A run goes on after an event of the core.
pub run_goes : {program : List Item} {es : List Event} (x : Entry) {old : Run} (new : Run) {core : CoreState}
    (e : Event) (a : Option Answer)
    → IsRunAfter program es old → (IsTrue (seat_exists (config_of program 8) x.seat) → e ≡ event_of_entry program es x)
    → e.seat ≡ x.seat → core.config ≡ old.core.config → CoreStandsFor core (es ++ e ∷ [])
    → calls old.core.config (es ++ e ∷ [])
    ≡ calls old.core.config es ++ entry_of (caller_number e.seat) (flight_of (left old.core.config es).now e.seat).op a
    → new.core ≡ core → length new.players.items ≡ length old.players.items
    → TakeEvent e a old.players.items new.players.items → TakesEntry program es x new
run_goes {program} {es} x {old} new {core} e a h event seat same stands answers keeps count takes =
    let c = config_of program 8 in
    let config : core.config ≡ c = same ∙ h.config in
    let all : AreEnabled c (es ++ e ∷ []) = subst (λ (k : Config). AreEnabled k (es ++ e ∷ [])) config stands.enabled in
    let enabled : IsEnabled c (left c es).now e = last_enabled c (first_world c) es e all in
    let is : e ≡ event_of_entry program es x = event (ap (seat_exists c) (sym seat)
    ∙ (enabled_meets c (left c es).now e enabled).seat) in
    let decided : a ≡ answer_decided c (left c es).now e = grind (arith, answer_is) in
    record {
      enabled = subst (λ (y : Event). failing c (left c es).now y ≡ 0) is enabled;
      run = subst (λ (y : Event). IsRunAfter program (es ++ y ∷ []) new) is (record {
        config = ap (λ (k : CoreState). k.config) keeps ∙ config;
        stands = subst (λ (k : CoreState). CoreStandsFor k (es ++ e ∷ [])) (sym keeps) stands;
        count = count ∙ h.count;
        players = λ k d less.
            let lt : k < length old.players.items = omega arith in
            let c = config_of program 8 in
            subst (λ (x : Served). IsPlayerOf program k x (get_or new.players.items k d))
            (ap (λ (b : Option Answer). served_by k e b (served_to c es k)) decided ∙ sym (served_more c es k e all))
            (takes program k d (served_to c es k) lt (h.players k d lt));
      });
    }
