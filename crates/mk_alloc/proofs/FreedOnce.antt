-- Of the events of a Free's turn one frees its object: a `quar` of its own.
use Rattle.std.proofs.{Common.length-append, lemmas.List.append_cancel_left}
use Rattle.mk_caller.proofs.Below.Laws.Vocabulary.{Bool, Config, Event, Flight, Holds, IsHistory, List, Moment}
use Rattle.mk_caller.proofs.Below.Laws.Vocabulary.{PlacedAllocation, Seat, Step, World, and_parts, ap, append-nil}
use Rattle.mk_caller.proofs.Below.Laws.Vocabulary.{append_assoc, arith, cases_Bool, earlier_part_is_history, false}
use Rattle.mk_caller.proofs.Below.Laws.Vocabulary.{false_from_ne_true, first_world, flight_of, found, if◌then◌else◌}
use Rattle.mk_caller.proofs.Below.Laws.Vocabulary.{inl, inr, is_one_of, left, left_more, length, not, not-true, refl}
use Rattle.mk_caller.proofs.Below.Laws.Vocabulary.{subst, sym, true, true≢false, world_behind, [], ◌&&◌, ◌++◌, ◌||◌}
use Rattle.mk_caller.proofs.Below.Laws.{Vocabulary.{◌∙◌, ◌∷◌, ◌≡◌, ◌⊎◌}, LastEvents.{comes_last, stands}}
use Rattle.mk_caller.proofs.Below.Laws.{Actors.is_holders, FramesHolders.acts_as_holder}
use Rattle.mk_caller.proofs.Below.Laws.{Known.holds_turn, Orderly.same_holder}
use Rattle.mk_caller.proofs.Below.Laws.{OrderlyLists.actor_of, ProtocolFrames.{other_seat, others_leave}}
use Rattle.mk_caller.proofs.Below.{Laws.Views.view_of, Words.Doing.none_own}
use Rattle.mk_caller.proofs.Below.Words.{Seats.{only_one, same_seat, same_self}, TurnSteps.still_turn}
use Rattle.mk_alloc.proofs.ObjectVocabulary.{Does, FreesOnce, IsAsLeft, IsOverQuarter, IsTurn, PassState, WordsState}
use Rattle.mk_alloc.proofs.{ObjectVocabulary.{event_of, now_of, turn_stays, world_of}, Reaching.MadeIn}
use Rattle.mk_alloc.specs.{FreeParts.{FreesOnly, event_frees}, Retiring.IsDueSince}
use Rattle.mk_caller.specs.Below.Words.{Steps.are_of, States.Has}
use Rattle.mk_core.specs.{History.{AreOfOthers, Finding, is_same_seat, own_from}, Allocations.unreleased_storage}
use Rattle.mk_core.specs.Counts.{decides_freed}

-- Two ways to part one list.

-- The element stands in the first part, or the first part stands before it.

pub record StandsIn {A : Type 0} (xs : List A) (ys : List A) (x : A) : Type 0 where
  pub rest : List A
  pub is : xs ≡ ys ++ x ∷ rest

pub record StandsBefore {A : Type 0} (xs : List A) (ys : List A) : Type 0 where
  pub rest : List A
  pub is : ys ≡ xs ++ rest

pub in_parts : {A : Type 0} (xs more ys : List A) (x : A) (zs : List A) → xs ++ more ≡ ys ++ x ∷ zs
    → StandsIn xs ys x ⊎ StandsBefore xs ys
in_parts [] more ys x zs is = inr (record { rest = ys; is = refl })
in_parts (a ∷ xs) more [] x zs is = grind arith
in_parts (a ∷ xs) more (y ∷ ys) x zs is =
    let first : a ≡ y = cc in
    let rest : xs ++ more ≡ ys ++ x ∷ zs = cc in
    elim (in_parts xs more ys x zs rest) [
      | inl l ↦ inl (record { rest = l.rest; is = (ap (λ c. c ∷ xs) first ∙ ap (λ l. y ∷ l) l.is) })
      | inr b ↦ inr (record { rest = b.rest; is = (ap (λ c. c ∷ ys) (sym first) ∙ ap (λ l. a ∷ l) b.is) })
    ]

-- No element stands after a whole list,
pub none_behind : {A : Type 0} {xs : List A} (ys : List A) (x : A) (zs : List A) → xs ≡ xs ++ ys ++ x ∷ zs → ⊥
none_behind {xs} ys x zs is =
    let all : length xs ≡ length (xs ++ ys ++ x ∷ zs) = ap length is in
    let outer = length-append (xs ++ ys) (x ∷ zs) in
    let inner = length-append xs ys in
    omega arith

-- and after a list with one element more, that one.
alone : {A : Type 0} (e : A) (ys : List A) (x : A) (zs : List A) → e ∷ [] ≡ ys ++ x ∷ zs → (ys ≡ []) × (e ≡ x)
alone e [] x zs is = let it : e ≡ x = cc in (refl, it)
alone e (y ∷ ys) x zs is =
    let n : length (e ∷ []) ≡ length (y ∷ (ys ++ x ∷ zs)) = ap length is in
    let inner = length-append ys (x ∷ zs) in
    absurd (omega arith)

pub one_behind : {A : Type 0} (xs : List A) (e : A) (ys : List A) (x : A) (zs : List A)
    → xs ++ e ∷ [] ≡ xs ++ ys ++ x ∷ zs → (ys ≡ []) × (e ≡ x)
one_behind xs e ys x zs is = grind (arith, alone, append_cancel_left, append_assoc)

-- What each event keeps stands along all that a turn's holder has seen since: the events of others, and its own.

-- An event is the seat's own, and of these kinds, or another's.
pub data ComesBy (s : Seat) (kinds : Step → Bool) (e : Event) : Type 0 where
  Own : e.seat ≡ s → kinds e.step ≡ true → ComesBy s kinds e
  Another : is_one_of (s ∷ []) e.seat ≡ false → ComesBy s kinds e

-- Each event keeps the claim, where the seat holds the turn.
abbrev pub KeptInTurn : Config → Seat → (Step → Bool) → (List Event → Type 0) → Type 0
KeptInTurn c s kinds claim =
    (es : List Event) (e : Event) → IsHistory c (es ++ e ∷ []) → Holds c (left c es).now s → ComesBy s kinds e
    → claim es → claim (es ++ e ∷ [])

comes_first : (b : Bool) (x : Finding) (xs : List Finding) (kinds : Step → Bool)
    → are_of kinds (if b then x ∷ xs else xs) ≡ true → (b ≡ true → kinds x.event.step ≡ true) × (are_of kinds xs ≡ true)
comes_first true x xs kinds h = let both = and_parts (kinds x.event.step) (are_of kinds xs) h in (λ is. both.0, both.1)
comes_first false x xs kinds h = (λ is. absurd (true≢false (sym is)), h)

module _ (p : PassState) (kinds : Step → Bool) (stays : (x : Step) → kinds x ≡ true → turn_stays x ≡ true)
    (claim : List Event → Type 0) (kept : KeptInTurn p.table.config p.seat kinds claim) where
  abbrev c : Config
  c = p.table.config

  -- the pass, where it has seen these, and has no seat but its own
  abbrev seeing : List Event → PassState
  seeing es = record p { seats = p.seat ∷ []; seen = es }

  own_here : Has (p.seat ∷ []) p.seat
  own_here = ap (λ b. b || false) (same_self p.seat)

  holds_more : (es : List Event) {e : Event} → IsHistory c (es ++ e ∷ []) → Holds c (left c es).now p.seat
      → ComesBy p.seat kinds e → Holds c (left c (es ++ e ∷ [])).now p.seat
  unfolding AreOfOthers
  holds_more es {e} h holds (Another other) =
      let before = earlier_part_is_history c es (e ∷ []) h in
      ((others_leave c es (e ∷ []) p.seat before.within_limits h.enabled (other, tt)).own.holding holds).0
  holds_more es {e} h holds (Own same of_kind) =
      let it : event_of p e.step ≡ e = ap (λ (s : Seat). record { seat = s; step = e.step }) (sym same) in
      subst (λ (x : Event). Holds c (left c (es ++ x ∷ [])).now p.seat) it
      (still_turn (seeing es) e.step (seeing (es ++ event_of p e.step ∷ [])) (record {
        others = [];
        of_others = tt;
        is = ap (λ (xs : List Event). seeing (xs ++ event_of p e.step ∷ [])) (sym (append-nil es));
        pass = record { own = own_here; history = subst (λ (x : Event). IsHistory c (es ++ x ∷ [])) (sym it) h };
      }) (stays e.step of_kind) (record {
        own = own_here;
        holds = holds;
        history = earlier_part_is_history c es (e ∷ []) h;
      })).holds

  comes_by : (e : Event) → (is_same_seat p.seat e.seat ≡ true → kinds e.step ≡ true) → ComesBy p.seat kinds e
  comes_by e of_kind = grind (arith, same_seat, false_from_ne_true, same_self, only_one, Own, Another)

  along : (es more : List Event) → IsHistory c (es ++ more) → Holds c (left c es).now p.seat
      → are_of kinds (own_from c p.seat (left c es) more) ≡ true → claim es → claim (es ++ more)
  unfolding own_from
  along es [] h holds of_kinds there = rw (append-nil es) there
  along es (e ∷ more) h holds of_kinds there =
      let split : (es ++ e ∷ []) ++ more ≡ es ++ e ∷ more = append_assoc es (e ∷ []) more in
      let whole : IsHistory c ((es ++ e ∷ []) ++ more) = rw split h in
      let first : IsHistory c (es ++ e ∷ []) = earlier_part_is_history c (es ++ e ∷ []) more whole in
      let on : World = world_behind c (left c es) e in
      let kinds_of = comes_first (is_same_seat p.seat e.seat) (record { event = e; found = found c (left c es).now e })
      (own_from c p.seat on more) kinds of_kinds in
      let comes = comes_by e kinds_of.0 in
      let rest : are_of kinds (own_from c p.seat (left c (es ++ e ∷ [])) more) ≡ true =
      ap (λ (w : World). are_of kinds (own_from c p.seat w more)) (left_more c (first_world c) es e) ∙ kinds_of.1 in
      rw split at (along (es ++ e ∷ []) more whole (holds_more es first holds comes) rest (kept es e first holds comes
      there))

  -- from what the pass had seen to what it has seen now
  pub along_turn : {q : PassState} → Does kinds p q → IsTurn p → IsTurn q → claim p.seen → claim q.seen
  along_turn d turn behind there = rw d.is (along p.seen d.more (rw d.is at behind.history) turn.holds d.of_kinds there)

  -- and over events of others alone
  pub along_others : (others : List Event) → IsHistory c (p.seen ++ others) → Holds c (now_of p) p.seat
      → AreOfOthers (p.seat ∷ []) others → claim p.seen → claim (p.seen ++ others)
  along_others others h holds of_others there =
      along p.seen others h holds (ap (λ (xs : List Finding). are_of kinds xs)
      (none_own c (p.seat ∷ []) p.seat (left c p.seen) others own_here of_others)) there

abbrev pub is_quar : Step → Bool
is_quar (Step.Quar p v) = true
is_quar _ = false

frees_none : (c : Config) (m : Moment) (f : Flight) (x : Step) → is_quar x ≡ false → decides_freed c m f x ≡ false
frees_none c m f x3 h = grind arith

-- Only the turn's holder frees.
others_free_none : {c : Config} (s : Seat) (es : List Event) (e : Event) → IsHistory c (es ++ e ∷ [])
    → Holds c (left c es).now s → is_one_of (s ∷ []) e.seat ≡ false → is_quar e.step ≡ false
others_free_none {c} s es e h holds other = elim (cases_Bool (is_quar e.step)) [
  | inr other_kind ↦ other_kind
  | inl same_kind ↦
      let last = comes_last c es e h in
      let m : Moment = (left c es).now in
      let holders : is_holders e.step ≡ true = grind arith in
      let orderly = (stands c es last.before).known.now.orderly in
      absurd (other_seat s e.seat other (same_holder c (view_of m) e.seat s orderly (acts_as_holder c m e.seat e.step
      (actor_of c m e.seat e.step orderly last.meets) holders) (holds_turn c m s orderly holds)))
]

-- nothing after a list
frees_at_once : (c : Config) (seen : List Event) (xs : List PlacedAllocation) → FreesOnly c seen xs seen
frees_at_once c seen xs before e behind is frees = absurd (none_behind before e behind is)

-- one event more
frees_more : (c : Config) (seen : List Event) {es : List Event} {xs : List PlacedAllocation} (e : Event)
    → FreesOnly c seen xs es
    → (event_frees c es e ≡ true → (left c (es ++ e ∷ [])).allocations ≡ xs) → FreesOnly c seen xs (es ++ e ∷ [])
frees_more c seen {es} e only last before x behind is frees = elim (in_parts es (e ∷ []) (seen ++ before) x behind is) [
  | inl here ↦ only before x here.rest here.is frees
  | inr there ↦
      let one = one_behind es e there.rest x behind (is ∙ ap (λ (l : List Event). l ++ x ∷ behind) there.is) in
      let front : seen ++ before ≡ es = there.is ∙ ap (λ (l : List Event). es ++ l) one.0 ∙ append-nil es in
      let it : x ≡ e = sym one.1 in
      ap (λ (l : List Event). (left c (l ++ x ∷ [])).allocations) front
      ∙ ap (λ (y : Event). (left c (es ++ y ∷ [])).allocations) it ∙ last
      (ap (λ (y : Event). event_frees c es y) one.1 ∙ ap (λ (l : List Event). event_frees c l x) (sym front) ∙ frees)
]

-- and a list after another
frees_then : (c : Config) (seen more rest : List Event) {xs : List PlacedAllocation} → FreesOnly c seen xs
    (seen ++ more) → FreesOnly c (seen ++ more) xs (seen ++ more ++ rest) → FreesOnly c seen xs (seen ++ more ++ rest)
frees_then c seen more rest first second before x behind is frees =
    elim (in_parts (seen ++ more) rest (seen ++ before) x behind is) [
      | inl here ↦ first before x here.rest here.is frees
      | inr there ↦ ap (λ (l : List Event). (left c (l ++ x ∷ [])).allocations) there.is
          ∙ second there.rest x behind (is ∙ ap (λ (l : List Event). l ++ x ∷ behind) there.is)
          (ap (λ (l : List Event). event_frees c l x) (sym there.is) ∙ frees)
    ]

-- Over a part of the turn without a `quar` none frees.

abbrev pub FreesNot : (Step → Bool) → Type 0
FreesNot kinds = (x : Step) → kinds x ≡ true → (turn_stays x && not (is_quar x)) ≡ true

none_kept : (c : Config) (s : Seat) (kinds : Step → Bool) (seen : List Event) (xs : List PlacedAllocation)
    → ((x : Step) → kinds x ≡ true → is_quar x ≡ false) → KeptInTurn c s kinds (FreesOnly c seen xs)
none_kept c s kinds seen xs no_quar es e h holds comes only =
    frees_more c seen e only (λ frees. absurd (true≢false
    (sym frees ∙ frees_none c (left c es).now (flight_of (left c es).now e.seat) e.step (kind comes))))
  where
    kind : ComesBy s kinds e → is_quar e.step ≡ false
    kind x0 = grind (arith, others_free_none)

none_frees : {kinds : Step → Bool} {p q : PassState} (xs : List PlacedAllocation) → FreesNot kinds → Does kinds p q
    → IsTurn p → IsTurn q → FreesOnly p.table.config p.seen xs q.seen
none_frees {kinds} {p} xs not_one d turn behind =
    along_turn p kinds (λ x kind. (and_parts _ _ (not_one x kind)).0) _ (none_kept _ _ kinds _ xs (λ x kind. not-true _
    (and_parts _ _ (not_one x kind)).1)) d turn behind (frees_at_once _ _ xs)

-- The `quar` frees once,

abbrev none : Step → Bool
none x = false

abbrev FreesAt : PassState → Step → Type 0
FreesAt p x =
    (v : World) → IsAsLeft p.seat (world_of p) v → decides_freed p.table.config v.now (flight_of v.now p.seat) x ≡ true

pub frees_now : {p q : PassState} {x : Step} → MadeIn p p.seen x q → IsHistory q.table.config q.seen → IsTurn p
    → FreesAt p x → FreesOnce p q
frees_now {p} {q} {x} m h turn frees =
    let c : Config = p.table.config in
    let e : Event = event_of p x in
    let es : List Event = p.seen ++ m.others in
    let seen : q.seen ≡ es ++ e ∷ [] = ap (λ (y : PassState). y.seen) m.same in
    let whole : IsHistory c (es ++ e ∷ []) = subst (λ (y : PassState). IsHistory y.table.config y.seen) m.same h in
    let left_now : (left c (es ++ e ∷ [])).allocations ≡ (world_of q).allocations = grind arith in
    let xs : List PlacedAllocation = (world_of q).allocations in
    let before : FreesOnly c p.seen xs es = along_others p none (λ y (no : none y ≡ true). absurd (true≢false (sym no)))
    (FreesOnly c p.seen xs) (none_kept c p.seat none p.seen xs (λ y (no : none y ≡ true). absurd (true≢false (sym no))))
    m.others (earlier_part_is_history c es (e ∷ []) whole) turn.holds m.of_others (frees_at_once c p.seen xs) in
    record {
      before = m.others;
      event = e;
      behind = [];
      is = seen;
      frees = frees (left c es) m.kept;
      leaves = left_now;
      only = subst (λ (l : List Event). FreesOnly c p.seen xs l) (sym seen) (frees_more c _ e before (λ f. left_now));
    }

-- with a part of the turn before it,

pub once_behind : {kinds : Step → Bool} {p q r : PassState} → FreesNot kinds → Does kinds p q → IsTurn p → IsTurn q
    → FreesOnce q r → FreesOnce p r
once_behind {p} {q} {r} not d turn behind o =
    let c : Config = p.table.config in
    let xs : List PlacedAllocation = (world_of r).allocations in
    let more : List Event = d.more in
    let there : FreesOnce (record p { seen = p.seen ++ more }) r = subst (λ (x : PassState). FreesOnce x r) d.is o in
    let first : FreesOnly c p.seen xs (p.seen ++ more) = subst (λ (l : List Event). FreesOnly c p.seen xs l)
    (ap (λ (x : PassState). x.seen) d.is) (none_frees xs not d turn behind) in
    let rest : List Event = there.before ++ there.event ∷ there.behind in
    let parts : (p.seen ++ more) ++ rest ≡ r.seen = grind (arith, append_assoc) in
    let joined : p.seen ++ (more ++ there.before) ≡ p.seen ++ more ++ there.before = grind (arith, append_assoc) in
    record {
      before = more ++ there.before;
      event = there.event;
      behind = there.behind;
      is = there.is ∙ ap (λ (l : List Event). l ++ there.event ∷ there.behind) (sym joined);
      frees = ap (λ (l : List Event). event_frees c l there.event) joined ∙ there.frees;
      leaves = ap (λ (l : List Event). (left c (l ++ there.event ∷ [])).allocations) joined ∙ there.leaves;
      only = subst (λ (l : List Event). FreesOnly c p.seen xs l) parts (frees_then c p.seen more rest first
          (subst (λ (l : List Event). FreesOnly c (p.seen ++ more) xs l) (sym parts) there.only));
    }

-- and with one after it, which leaves the allocations.
pub once_before : {kinds : Step → Bool} {p q r : PassState} → FreesNot kinds → FreesOnce p q → p.table ≡ q.table
    → Does kinds q r → IsTurn q → IsTurn r → (world_of r).allocations ≡ (world_of q).allocations → FreesOnce p r
once_before {p} {q} {r} not o table d turn behind same =
    let c : Config = p.table.config in
    let xs : List PlacedAllocation = (world_of r).allocations in
    let seen : r.seen ≡ q.seen ++ d.more = ap (λ (x : PassState). x.seen) d.is in
    let was : q.seen ≡ p.seen ++ (o.before ++ o.event ∷ o.behind) = grind (arith, append_assoc) in
    let second : FreesOnly c q.seen xs r.seen =
    subst (λ (t : WordsState). FreesOnly t.config q.seen xs r.seen) (sym table) (none_frees xs not d turn behind) in
    record {
      before = o.before;
      event = o.event;
      behind = o.behind ++ d.more;
      is = cc (seen, o.is, append_assoc (p.seen ++ o.before) (o.event ∷ o.behind) d.more);
      frees = o.frees;
      leaves = o.leaves ∙ sym same;
      only = subst (λ (l : List Event). FreesOnly c p.seen xs l) (ap (λ (l : List Event). l ++ d.more) (sym was) ∙ sym
          seen) (frees_then c _ (o.before ++ o.event ∷ o.behind) d.more (subst (λ (l : List Event). FreesOnly c p.seen
          xs l) was (subst (λ (ys : List PlacedAllocation). FreesOnly c p.seen ys q.seen) (sym same) o.only)) (subst (λ
          (l : List Event). FreesOnly c l xs (l ++ d.more)) was (subst (λ (l : List Event). FreesOnly c q.seen xs l)
          seen second)));
    }

-- So it is due, where more than a quarter of the held words is fresh now,

pub due_since : {p q : PassState} → FreesOnce p q → IsOverQuarter p.table.config (world_of q).allocations
    → IsDueSince p q
due_since o quarter = grind arith

-- and only there.
pub due_then : {p q : PassState} → FreesOnce p q → IsDueSince p q
    → IsOverQuarter p.table.config (world_of q).allocations
due_then o d = grind arith

-- Where none frees, none is due.

no_quarter : (c : Config) → IsOverQuarter c [] → ⊥
unfolding unreleased_storage
no_quarter c q = absurd (omega arith)

pub none_due : {kinds : Step → Bool} {p q : PassState} → FreesNot kinds → Does kinds p q → IsTurn p → IsTurn q
    → IsDueSince p q → ⊥
none_due {p} not d turn behind x =
    let free = none_frees [] not d turn behind x.before x.event x.behind x.is x.due.decides in
    no_quarter _ (subst (λ (xs : List PlacedAllocation). IsOverQuarter p.table.config xs) free x.due.quarter)
