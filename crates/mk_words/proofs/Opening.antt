-- All gates are opened, one after the other.
use Rattle.std.proofs.Common.{⊎_elim}
use Rattle.mk_laws.proofs.Vocabulary.{Caller, Config, Event, Flight, Holds, Host, IsEnabled, List, Marker, MarkerState}
use Rattle.mk_laws.proofs.Vocabulary.{MeetsAll, Moment, Protocol, Seat, Step, World, ℕ, ap, append-nil, append_assoc}
use Rattle.mk_laws.proofs.Vocabulary.{arith, at_rest, cases_Bool, cases_eq, cases_lt, enabled_meets, ends, eqb-false}
use Rattle.mk_laws.proofs.Vocabulary.{eqb-true, false, false_from_ne_true, first_world, flight_of, get_or-set_other}
use Rattle.mk_laws.proofs.Vocabulary.{get_or-set_same, get_or_past, inl, inr, is_held, is_number_of, left, length}
use Rattle.mk_laws.proofs.Vocabulary.{length-set, ne_eqb, not, outside, refl, set-get_or, slice_index, slice_set, subst}
use Rattle.mk_laws.proofs.Vocabulary.{sym, true, [], ◌++◌, ◌+◌, ◌<◌, ◌==◌, ◌∙◌, ◌∷◌, ◌≡◌, ◌≢◌, ◌≤◌, ◌⊎◌}
use Rattle.mk_laws.proofs.{Tallies.{same_ends, same_fulls}, Protocols.lists_keep_the_protocol, TallySteps.CountsNothing}
use Rattle.mk_core.proofs.{Conditions.meets_enabled, Histories.last_enabled}
use Rattle.mk_core.specs.{Frames.{CountsAreLeft, steady_of}, Counts.full_answers, Effects.moment_behind}
use Rattle.mk_core.specs.{History.AreOfOthers, Moments.none_is_held}
use Rattle.mk_words.proofs.{Made.{made, pass_before}, LongerLists.longer_lists, Owed.history_more, TurnSteps.all_from}
use Rattle.mk_words.specs.{Steps.{OnlyOpen, Opens, OthersMayOpen}, States.{IsTurn, PassState, event_of}}
use Rattle.mk_words.specs.{States.now_of, Steps.IsEnabledTo, TurnSteps.{Acts, world_at}}

-- The gates of the callers below this one aren't held, but for the holder's.
abbrev pub AreOpened : PassState → ℕ → Type 0
AreOpened p end = (j : ℕ) → j < end → is_number_of p.seat j ≡ false → is_held (now_of p).words j ≡ false

-- one gate that is opened leaves the others to be opened

behind_open : (c : Config) (m : Moment) (seat : Seat) (k : ℕ) → moment_behind c m (record
    { seat = seat; step = Step.Open k }) ≡ record m { words = record m.words { gates = slice_set m.words.gates k 0 } }
behind_open c m (Caller i) k = ap (λ (fs : List Flight). record {
  words = record m.words { gates = slice_set m.words.gates k 0 };
  seats = record m.seats { flights = fs };
  fresh_words = m.fresh_words;
}) (set-get_or m.seats.flights i at_rest)
behind_open c m (Marker i) k = ap (λ (xs : List MarkerState). record {
  words = record m.words { gates = slice_set m.words.gates k 0 };
  seats = record m.seats { markers = xs };
  fresh_words = m.fresh_words;
}) (set-get_or m.seats.markers i outside)
behind_open c m Host k = refl

open_elsewhere : (c : Config) (m : Moment) (seat : Seat) (j : ℕ) (gs : List ℕ)
    → slice_index gs j ≡ slice_index m.words.gates j → MeetsAll c m (record { seat = seat; step = Step.Open j })
    → MeetsAll c (record m { words = record m.words { gates = gs } }) (record { seat = seat; step = Step.Open j })
open_elsewhere c m (Caller i) j gs same h = grind arith
open_elsewhere c m (Marker i) j gs same h = (let kind = h.kind in cc)
open_elsewhere c m Host j gs same h = grind arith

-- What was seen goes on by others' events and the gate that is opened.

only_others : (seats : List Seat) (es : List Event) → AreOfOthers seats es → OnlyOpen seats es
unfolding OnlyOpen AreOfOthers
only_others seats [] h = tt
only_others seats (e ∷ es) h = (inl h.0, only_others seats es h.1)

only_one : (seats : List Seat) (seat : Seat) (k : ℕ) → OnlyOpen seats (record { seat = seat; step = Step.Open k } ∷ [])
unfolding OnlyOpen
only_one seats seat k = (inr refl, tt)

only_append : (seats : List Seat) (es fs : List Event) → OnlyOpen seats es → OnlyOpen seats fs
    → OnlyOpen seats (es ++ fs)
unfolding OnlyOpen
only_append seats [] fs h k = k
only_append seats (e ∷ es) fs h k = (h.0, only_append seats es fs h.1 k)

pub opens_none : (p : PassState) → Opens p p
unfolding OnlyOpen
opens_none p = grind (arith, append-nil)

-- An `open` counts nothing.

open_counts_nothing : (c : Config) (w : World) (seat : Seat) (k : ℕ)
    → CountsNothing c w (record { seat = seat; step = Step.Open k })
open_counts_nothing c w seat k = grind arith

opens_more : (p q r : PassState) (k : ℕ) → Opens p q → Acts q (Step.Open k) r → Opens p r
opens_more p q r k o a =
    let seats_are : q.seats ≡ p.seats = ap (λ (x : PassState). x.seats) o.is in
    let seen_is : q.seen ≡ p.seen ++ o.more = ap (λ (x : PassState). x.seen) o.is in
    let last : Event = event_of q (Step.Open k) in
    let more : List Event = o.more ++ (a.makes.others ++ last ∷ []) in
    let c : Config = p.table.config in
    let config_is : q.table.config ≡ c = ap (λ (x : PassState). x.table.config) o.is in
    let there : World = world_at a.makes in
    let opened = behind_open q.table.config there.now q.seat k in
    let fs : List Event = q.seen ++ a.makes.others in
    let nothing : CountsNothing c (left c fs) last = open_counts_nothing c (left c fs) q.seat k in
    let counts : CountsAreLeft c q.seen fs = subst (λ (d : Config). CountsAreLeft d q.seen fs) config_is a.counts in
    let seen_then : r.seen ≡ fs ++ last ∷ [] = ap (λ (x : PassState). x.seen) a.makes.is in
    record {
      steady = ap (λ (w : World). steady_of w) a.world ∙ a.turn.steady ∙ o.steady;
      holding =
          ap (λ (w : World). w.now.seats.holding) a.world ∙ ap (λ (m : Moment). m.seats.holding) opened ∙ a.holding
          ∙ o.holding;
      call =
          ap (λ (s : Seat). flight_of (now_of r) s) (ap (λ (x : PassState). x.seat) a.makes.is)
          ∙ ap (λ (w : World). flight_of w.now q.seat) a.world ∙ ap (λ (m : Moment). flight_of m q.seat) opened
          ∙ a.own.flight ∙ o.call;
      counts = record {
        ends = ap ends seen_then ∙ sym (same_ends c fs last nothing) ∙ counts.ends ∙ o.counts.ends;
        fulls = ap (λ (es : List Event). full_answers c es) seen_then ∙ sym (same_fulls c fs last nothing)
            ∙ counts.fulls ∙ o.counts.fulls;
      };
      more = more;
      is =
          a.makes.is ∙ ap (λ (x : PassState). record x { seen = q.seen ++ a.makes.others ++ last ∷ [] }) o.is
          ∙ ap (λ (es : List Event). record p { seen = es })
          (ap (λ (es : List Event). es ++ a.makes.others ++ last ∷ []) seen_is ∙ append_assoc
          (p.seen ++ o.more) a.makes.others (last ∷ []) ∙ append_assoc p.seen o.more (a.makes.others ++ last ∷ []));
      only = only_append p.seats o.more (a.makes.others ++ last ∷ []) o.only
          (only_append p.seats a.makes.others (last ∷ []) (only_others p.seats a.makes.others
          (subst (λ (seats : List Seat). AreOfOthers seats a.makes.others) seats_are a.makes.of_others))
          (only_one p.seats q.seat k));
    }

-- The others may still be opened.
still_may : (p q : PassState) (k : ℕ) → Acts p (Step.Open k) q
    → (j : ℕ) → j ≢ k → IsEnabledTo p (Step.Open j) → IsEnabledTo q (Step.Open j)
still_may p q k a j other on =
    let c : Config = p.table.config in
    let d = made p (Step.Open k) q a.makes in
    let e : Event = event_of p (Step.Open j) in
    let short = history_more p (Step.Open j) (pass_before a.makes).history
    (record { enabled = on; admitted = λ h. cc; tidy = λ h. cc; home = λ h. cc }) in
    let long = longer_lists c p.seen a.makes.others e short d.history d.others in
    let then_on = last_enabled c (first_world c) (p.seen ++ a.makes.others) e long.history.enabled in
    let m : Moment = (world_at a.makes).now in
    let meets = open_elsewhere c m p.seat j (slice_set m.words.gates k 0) (get_or-set_other m.words.gates k j 0 0 other)
    (enabled_meets c m e then_on) in
    let now : IsEnabled c (moment_behind c m (event_of p (Step.Open k))) e =
    grind (arith, behind_open, meets_enabled) in
    let there : IsEnabled c (now_of q) e = subst (λ (w : World). IsEnabled c w.now e) (sym a.world) now in
    subst (λ (r : PassState). IsEnabled r.table.config (now_of q) (event_of r (Step.Open j))) (sym a.makes.is) there

-- the gates after it
gates_behind : (p q : PassState) (k : ℕ) (a : Acts p (Step.Open k) q)
    → (now_of q).words.gates ≡ slice_set (world_at a.makes).now.words.gates k 0
gates_behind p q k a = ap (λ (w : World). w.now.words.gates) a.world

not_held : (gs : List ℕ) (j : ℕ) → (slice_index gs j == 2) ≡ false → slice_index gs j ≢ 2
not_held gs j h = eqb-false (slice_index gs j) 2 h

opened_then : (p q : PassState) (k j : ℕ) → Acts p (Step.Open k) q → (is_held (now_of p).words j ≡ false) ⊎ (j ≡ k)
    → is_held (now_of q).words j ≡ false
opened_then p q k j a h = by (cases_eq j k)
  where
    gs : List ℕ
    gs = (world_at a.makes).now.words.gates

    zero_there : (xs : List ℕ) (i : ℕ) → slice_index (slice_set xs i 0) i ≡ 0
    zero_there xs i = elim (cases_lt i (length xs)) [
      | inl lt ↦ get_or-set_same xs i 0 0 lt
      | inr past ↦ get_or_past (slice_set xs i 0) i 0 (subst (λ (n : ℕ). n ≤ i) (sym (length-set xs i 0)) past)
    ]

    by : (j ≡ k) ⊎ (j ≢ k) → is_held (now_of q).words j ≡ false
    by (inl same) = grind (arith, gates_behind, gs, same, zero_there)
    by (inr other) =
        let free_now : is_held (now_of p).words j ≡ false =
        ⊎_elim (λ (t : is_held (now_of p).words j ≡ false). t) (λ (t : j ≡ k). absurd (other t)) h in
        let free = a.turn.other_gates j (not_held (now_of p).words.gates j free_now) in
        cc (gates_behind p q k a, get_or-set_other gs k j 0 0 other, ne_eqb (slice_index gs j) 2 free)

-- one round, where the gate is opened or the holder's own

pub record Round (p q r : PassState) (k : ℕ) : Type 0 where
  pub opens : Opens p r
  pub may : OthersMayOpen r (k + 1)
  pub opened : AreOpened r (k + 1)

pub one_round : (p q r : PassState) (k : ℕ) → Opens p q → OthersMayOpen q k → AreOpened q k
    → (is_number_of q.seat k ≡ false → Acts q (Step.Open k) r) → (is_number_of q.seat k ≡ true → r ≡ q) → Round p q r k
one_round p q r k o may opened acts same = elim (cases_Bool (is_number_of q.seat k)) [
  | inl mine ↦ subst (λ (x : PassState). Round p q x k) (sym (same mine)) (record {
    opens = o;
    may = λ j le lt other. may j (omega arith) lt other;
    opened = λ j lt other. elim (cases_eq j k) [
      | inl e ↦ (let x : true ≡ false = sym mine ∙ subst (λ (i : ℕ). is_number_of q.seat i ≡ false) e other in cc)
      | inr ne ↦ opened j (omega arith) other
    ];
  })
  | inr another ↦ (
      let a = acts another in
      let seat_is : r.seat ≡ q.seat = ap (λ (x : PassState). x.seat) a.makes.is in
      let callers_are : r.table.config.callers ≡ q.table.config.callers =
      ap (λ (x : PassState). x.table.config.callers) a.makes.is in
      record {
        opens = opens_more p q r k o a;
        may = λ j le lt other. still_may q r k a j (λ e. absurd (omega arith))
            (may j (omega arith) (omega arith) (subst (λ (s : Seat). is_number_of s j ≡ false) seat_is other));
        opened = λ j lt other. opened_then q r k j a (elim (cases_eq j k) [
          | inl e ↦ inr e
          | inr ne ↦ inl (opened j (omega arith) (subst (λ (s : Seat). is_number_of s j ≡ false) seat_is other))
        ]);
      })
]

-- at the end
pub all_opened : (p q : PassState) → Opens p q → AreOpened q p.table.config.callers → IsTurn q
    → none_is_held p.table.config.callers (now_of q).words ≡ true
all_opened p q opens opened t =
    all_from p.table.config.callers (λ j. not (is_held (now_of q).words j))
    (λ j lt. ap not (elim (cases_Bool (is_number_of q.seat j)) [
      | inl mine ↦ false_from_ne_true (is_held (now_of q).words j)
          (λ two. own_held q.seat j mine t.holds lt (eqb-true (slice_index (now_of q).words.gates j) 2 two))
      | inr another ↦ opened j lt another
    ]))
  where
    same : q.table.config ≡ p.table.config
    same = ap (λ (x : PassState). x.table.config) opens.is

    protocol : Protocol q.table.config (now_of q)
    protocol = lists_keep_the_protocol q.table.config q.seen t.history.within_limits t.history.enabled

    own_held : (s : Seat) (j : ℕ) → is_number_of s j ≡ true → Holds q.table.config (now_of q) s
        → j < p.table.config.callers → slice_index (now_of q).words.gates j ≡ 2 → ⊥
    own_held x0 j mine holds lt two = grind (arith, eqb-true, protocol, same)
