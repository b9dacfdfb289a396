-- A run after the first entries of a schedule.
use Rattle.std.proofs.{Common.{All, add-one, drop-cons}, Math.ListN.drop_of_length-le}
use Rattle.std.proofs.lemmas.List.Sums.{count_by-le-length}
use Rattle.mk_replay.proofs.Vocabulary.{AreEnabled, Entry, Event, Item, answers_given, config_of, event_of_entry}
use Rattle.mk_replay.proofs.Vocabulary.{history_of, length-append, nat_tests}
use Rattle.mk_laws.proofs.Vocabulary.{List, None, Some, ℕ, ap, arith, drop, false, get_or, length, refl, subst, sym, []}
use Rattle.mk_laws.proofs.Vocabulary.{◌++◌, ◌+◌, ◌<◌, ◌==◌, ◌∙◌, ◌∷◌, ◌≡◌, ◌≤◌}
use Rattle.mk_check.{proofs.GivenAnswers.{few_answers}, specs.Feed.{is_refusal}}
use Rattle.mk_replay.specs.Replays.{IsNotEnabled, IsRunAfter, PlayerHasRoom, TakesEntry}
use Rattle.mk_replay.specs.Replays.{failing_entry, history_from, refusal_from, refusal_of}
use Rattle.mk_replay.specs.declared.replaying.ReplayStop.{ReplayStop}
use Rattle.mk_replay.specs.declared.replaying.{ReplayStop.TheVariants.NotEnabled, Run.Run}

-- the run after the first entries of a schedule
pub record IsUnderWay (program : List Item) (schedule : List Entry) (count : ℕ) (run : Run) : Type 0 where
  pub events : List Event
  pub is_run : IsRunAfter program events run
  pub so_many : length events ≡ count
  pub refusal : refusal_from program events (drop count schedule) ≡ refusal_of program schedule
  pub history : history_from program events (drop count schedule) ≡ history_of program schedule

-- There are fewer answers than the counts can hold.
pub room_of : {program : List Item} {schedule : List Entry} {n : ℕ} {run : Run} → IsUnderWay program schedule n run
    → n < 18446744073709551615 → All PlayerHasRoom run.players.items
room_of {program} h few = λ k d less.
    let p = h.is_run.players k d less in
    let answers = answers_given (config_of program 8) h.events k in
    let so_few : length answers ≤ length h.events = few_answers (config_of program 8) h.events k in
    let fewer = count_by-le-length is_refusal answers in
    let ops = p.ops in
    let refused = p.refused in
    let so_many = h.so_many in
    record { ops = omega arith; refused = omega arith }

refusal_more : (program : List Item) (es : List Event) (x : Entry) (xs : List Entry) → failing_entry program es x ≡ 0
    → refusal_from program es (x ∷ xs) ≡ refusal_from program (es ++ event_of_entry program es x ∷ []) xs
unfolding refusal_from
refusal_more program es x xs h = rw h refl

refusal_here : (program : List Item) (es : List Event) (x : Entry) (xs : List Entry) → (failing_entry program es x == 0)
    ≡ false → refusal_from program es (x ∷ xs) ≡ Some (NotEnabled x.line x.place (failing_entry program es x))
unfolding refusal_from
refusal_here program es x xs h = rw h refl

history_more : (program : List Item) (es : List Event) (x : Entry) (xs : List Entry)
    → history_from program es (x ∷ xs) ≡ history_from program (es ++ event_of_entry program es x ∷ []) xs
unfolding history_from
history_more program es x xs = refl

refusal_none : (program : List Item) (es : List Event) → refusal_from program es [] ≡ None
unfolding refusal_from
refusal_none program es = refl

history_none : (program : List Item) (es : List Event) → history_from program es [] ≡ es
unfolding history_from
history_none program es = refl

item_at : (schedule entries : List Entry) (n : ℕ) (d : Entry) → entries ≡ schedule → n < length entries
    → drop n schedule ≡ get_or entries n d ∷ drop (n + 1) schedule
item_at schedule entries n d same lt =
    let less : n < length schedule = subst (λ (xs : List Entry). n < length xs) same lt in
    rw (same, add-one) (drop-cons schedule n d less)

pub next_under_way : {program : List Item} {schedule : List Entry} (entries : List Entry) {n : ℕ} {old new : Run}
    (d : Entry) → entries ≡ schedule → n < length entries → (h : IsUnderWay program schedule n old)
    → TakesEntry program h.events (get_or entries n d) new → IsUnderWay program schedule (n + 1) new
next_under_way {program} {schedule} entries {n} d same lt h t =
    let x = get_or entries n d in
    let at = item_at schedule entries n d same lt in
    record {
      events = h.events ++ event_of_entry program h.events x ∷ [];
      is_run = t.run;
      so_many = (let e = length-append h.events (event_of_entry program h.events x ∷ []) in let s =
          h.so_many in omega arith);
      refusal = sym (refusal_more program h.events x (drop (n + 1) schedule) t.enabled)
          ∙ (ap (refusal_from program h.events) (sym at) ∙ h.refusal);
      history = sym (history_more program h.events x (drop (n + 1) schedule))
          ∙ (ap (history_from program h.events) (sym at) ∙ h.history);
    }

pub refused_here : {program : List Item} {schedule : List Entry} (entries : List Entry) {n : ℕ} {run : Run} (d : Entry)
    {stop : ReplayStop} → entries ≡ schedule → n < length entries → (h : IsUnderWay program schedule n run)
    → IsNotEnabled program h.events (get_or entries n d) stop → refusal_of program schedule ≡ Some stop
refused_here {program} {schedule} entries {n} d same lt h t = grind (arith, nat_tests, item_at, refusal_here)

pub record IsOver (program : List Item) (schedule : List Entry) (run : Run) : Type 0 where
  pub is_run : IsRunAfter program (history_of program schedule) run
  pub refusal : refusal_of program schedule ≡ None
  pub enabled : AreEnabled (config_of program 8) (history_of program schedule)

pub over : {program : List Item} {schedule : List Entry} (entries : List Entry) {n : ℕ} {run : Run}
    → entries ≡ schedule → length entries ≤ n → IsUnderWay program schedule n run → IsOver program schedule run
over {program} {schedule} entries {n} {run} same le h = grind (arith, drop_of_length-le, history_none, refusal_none)
