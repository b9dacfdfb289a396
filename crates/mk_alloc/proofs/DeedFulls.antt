-- Why a New is full, over deeds.
use Rattle.mk_core.specs.{Cycles.{Cycle, is_begin, is_end, is_give, is_release}, Calls.flagged}
use Rattle.mk_core.specs.{Allocations.FitsAmongAllocations, Words.is_some_and, Counts.is_full_answer}
use Rattle.mk_core.specs.{Calls.{progress_reg, progress_read, begun, onward, refused, still}, History.left_from}
use Rattle.mk_core.specs.{Placement.FindsNoPlace, declared.seats.Progress.Progress, Cells.is_unmapped_header}
use Rattle.mk_core.specs.{NewPlaces.{object_of, target}, Effects.{decided, progress_freed, sees_double}}
use Rattle.mk_caller.proofs.Below.Laws.PlacementTheorems.{fulls_fit_nowhere}
use Rattle.mk_alloc.proofs.QuarantineVocabulary.{Bool, Caller, Cell, Config, Event, Flight, Host, IsHistory, List}
use Rattle.mk_alloc.proofs.QuarantineVocabulary.{Marker, Moment, None, Op, Option, PlacedAllocation, Seat, Some, Step}
use Rattle.mk_alloc.proofs.QuarantineVocabulary.{TurnOf, World, ap, append-nil, append_assoc, arith, cell_freed, false}
use Rattle.mk_alloc.proofs.QuarantineVocabulary.{first_world, flight_of, has_step, left, list_any, list_any-append}
use Rattle.mk_alloc.proofs.QuarantineVocabulary.{or_from, or_parts, refl, subst, sym, taken, true, true≢false, ℕ, []}
use Rattle.mk_alloc.proofs.QuarantineVocabulary.{◌++◌, ◌∙◌, ◌∷◌, Lacks, before_it, cases_Bool, if◌then◌else◌, inl, inr}
use Rattle.mk_alloc.proofs.{QuarantineVocabulary.◌≡◌, Vocabulary.{Answer, Stage, asked, entry_of, found, map}}
use Rattle.mk_alloc.proofs.Vocabulary.{object_made, progress, at_rest, and_from, eq-eqb, ◌==◌}
use Rattle.mk_alloc.proofs.{HeldTurns.{first_giver, next_of, taker_exists, turn_held_in}, OwnGives.own_give}
use Rattle.mk_alloc.proofs.{DeedBounds.{begins_alone, releases_alone}, Deeds.deeds_leave_the_storage}
use Rattle.mk_alloc.proofs.DeedParts.{deeds_at, done_alone, done_at, ends_at_gives, of_steps, stands_in}
use Rattle.mk_alloc.specs.Deeds.{bases_released, DeedsSayWhyFull, deeds_by, deeds_from, deeds_of, done_by, frees_at}
use Rattle.mk_alloc.specs.Deeds.{Deed, HasWholeCycle, ends_turn, storage_after}
use Rattle.mk_never.specs.{declared.operations.Op.TheVariants.New, NeverHeap.Call, Types.kinds_of}
use Rattle.mk_geom.specs.Addresses.{header_of}

-- Only `full` answers Full.

abbrev answers_full : Option Answer → Bool
answers_full a = is_some_and is_full_answer a

either_answer : (b : Bool) (p q : Progress) → answers_full p.answer ≡ false → answers_full q.answer ≡ false
    → answers_full (if b then p else q).answer ≡ false
either_answer true p q hp hq = hp
either_answer false p q hp hq = hq

reg_answer : (f : Flight) (s : Stage) (n : ℕ) → answers_full (progress_reg f s n).answer ≡ false
reg_answer f Stage.LoadQ n = grind (arith, either_answer)
reg_answer f Stage.LoadP n = grind (arith, either_answer)
reg_answer f _ n = refl

read_answer : (f : Flight) (o : Op) (n : ℕ) → answers_full (progress_read f o n).answer ≡ false
read_answer f (Op.GetPtr d q i) n = refl
read_answer f _ n = refl

abbrev is_full_step : Step → Bool
is_full_step Step.Full = true
is_full_step _ = false

never_full : (c : Config) (m : Moment) (f : Flight) (n : ℕ) (x : Step) → is_full_step x ≡ false
    → answers_full (progress c m f n x).answer ≡ false
never_full c m f n (Step.Enter o) h =
    either_answer (n == 0) (record { flight = begun o; answer = None }) (still f) refl refl
never_full c m f n (Step.Take (Some o)) h =
    either_answer (n == 0) (record { flight = begun o; answer = None }) (still f) refl refl
never_full c m f n Step.Reg h = reg_answer f f.stage n
never_full c m f n Step.Probe h =
    either_answer (is_unmapped_header (header_of n)) (refused f Answer.Fault) (onward f None) refl refl
never_full c m f n Step.Read h = read_answer f f.op n
never_full c m f n (Step.Look y) h =
    either_answer (sees_double m.words (target c.pages m.words f) y) (decided f Answer.Double) (still f) refl refl
never_full c m f n (Step.Quar p v) h = by (cell_freed c.pages m.words f p v)
  where
    by : (cell : Option Cell) → answers_full (progress_freed f cell).answer ≡ false
    by None = refl
    by (Some cell) = refl
never_full c m f n Step.Full h = cc
never_full c m f n _ h = refl

full_is : (x : Step) → is_full_step x ≡ true → x ≡ Step.Full
full_is x h = grind arith

full_steps : (c : Config) (m : Moment) (f : Flight) (n : ℕ) (x : Step)
    → (progress c m f n x).answer ≡ Some Answer.Full → x ≡ Step.Full
full_steps c m f n x is = elim (cases_Bool (is_full_step x)) [
  | inl full ↦ full_is x full
  | inr none ↦ absurd (true≢false (sym (ap answers_full is) ∙ never_full c m f n x none))
]

-- A call that is a full New is what its event decides, by that answer.

abbrev is_asked : Deed → Bool
is_asked (Deed.Asked x) = true
is_asked _ = false

abbrev full_new : ℕ → ℕ → ℕ → Deed
full_new k d ty = Deed.Asked (record { caller = k; op = New d ty true })

record IsNew (o : Op) (d ty : ℕ) : Type 0 where
  pub full : Bool
  pub is : o ≡ New d ty full

record DecidesFull (o : Op) (a : Option Answer) (first : List Deed) (d ty : ℕ) : Type 0 where
  pub first_is : first ≡ []
  pub answer : a ≡ Some Answer.Full
  pub new : IsNew o d ty

flag_is : (o : Op) (a : Answer) (d ty : ℕ) → flagged o a ≡ New d ty true → (a ≡ Answer.Full) × IsNew o d ty
flag_is (Op.New d' ty' full) Answer.Full d ty h =
    let same : New d' ty' full ≡ New d ty full = cc in (refl, record { full = full; is = same })
flag_is (Op.New d' ty' full) a d ty h = cc
flag_is o a d ty h = cc

decides_full : (k j d ty : ℕ) (o : Op) (a : Option Answer) (ds first rest : List Deed) → list_any is_asked ds ≡ false
    → map Deed.Asked (asked (entry_of k o a)) ++ ds ≡ first ++ full_new j d ty ∷ rest → DecidesFull o a first d ty
decides_full k j d ty o None ds first rest none h =
    absurd (true≢false (sym (stands_in is_asked first (full_new j d ty) rest refl)
    ∙ ap (λ (l : List Deed). list_any is_asked l) (sym h) ∙ none))
decides_full k j d ty o (Some a) ds [] rest none h =
    let calls : record { caller = k; op = flagged o a } ≡ record { caller = j; op = New d ty true } = cc in
    let same : flagged o a ≡ New d ty true = ap (λ (x : Call). x.op) calls in
    let parts = flag_is o a d ty same in
    record { first_is = refl; answer = ap (λ (y : Answer). Some y) parts.0; new = parts.1 }
decides_full k j d ty o (Some a) ds (x ∷ first) rest none h =
    let tail : ds ≡ first ++ full_new j d ty ∷ rest = cc in
    absurd (true≢false (sym (stands_in is_asked first (full_new j d ty) rest refl)
    ∙ ap (λ (l : List Deed). list_any is_asked l) (sym tail) ∙ none))

none_asked_by : (c : Config) (w : World) (f : Flight) (x : Step) → list_any is_asked (done_by c w f x) ≡ false
none_asked_by c w f (Step.Quar p v) = by (cell_freed c.pages w.now.words f p v)
  where
    by : (cell : Option Cell) → list_any is_asked (frees_at w.now.words cell) ≡ false
    by None = refl
    by (Some cell) = refl
none_asked_by c w f _ = refl

-- The cycle of its turn, in deeds.

lacks_parts : (kind : Step → Bool) {es : List Event} (xs : List Event) (e : Event) (ys : List Event) → Lacks kind es
    → es ≡ xs ++ e ∷ ys → Lacks kind xs × Lacks kind ys
lacks_parts kind xs e ys none is =
    let whole : has_step kind (xs ++ e ∷ ys) ≡ false =
    subst (λ (l : List Event). has_step kind l ≡ false) is none in
    let parts = or_parts (has_step kind xs) (has_step kind (e ∷ ys))
    (sym (list_any-append (λ (x : Event). kind x.step) xs (e ∷ ys)) ∙ whole) in
    (parts.0, (or_parts (kind e.step) (has_step kind ys) parts.1).1)

none_at : (test : Event → Bool) (xs : List Event) (e : Event) (ys : List Event) → list_any test (xs ++ e ∷ ys) ≡ false
    → test e ≡ false
none_at test xs e ys none = grind (arith, or_parts, list_any-append)

own_give_is : (k : ℕ) (e : Event) → e.step ≡ Step.Give → e.seat ≡ Caller k → own_give (Caller k) e ≡ true
own_give_is k e gives at = grind (arith, and_from, eq-eqb)

-- In the caller's turn nobody gives a turn back.
gives_none : {c : Config} {k : ℕ} {es : List Event} (t : TurnOf c (Caller k) es) → IsHistory c es
    → Lacks is_give t.behind
gives_none {c} {k} {es} t h = elim (cases_Bool (has_step is_give t.behind)) [
  | inr none ↦ none
  | inl some ↦
      let g = next_of is_give t.behind (λ lacks. true≢false (sym some ∙ lacks)) in
      let whole : es ≡ (t.before ++ taken t ∷ []) ++ t.behind =
      t.is ∙ sym (append_assoc t.before (taken t ∷ []) t.behind) in
      let giver = first_giver c (t.before ++ taken t ∷ []) k (subst (λ (l : List Event). IsHistory c l) whole h)
      (taker_exists h t) (turn_held_in h t [] t.behind refl) g in
      absurd (true≢false (sym (own_give_is k g.at.event giver.0 giver.1)
      ∙ none_at (own_give (Caller k)) g.at.before g.at.event g.at.behind
      (subst (λ (l : List Event). list_any (own_give (Caller k)) l ≡ false) g.at.is t.goes_on)))
]

ends_alone : (c : Config) (w : World) (e : Event) → is_end e.step ≡ true → deeds_by c w e ≡ Deed.Ends ∷ []
ends_alone c w e is = by e.seat e.step is
  where
    by : (seat : Seat) (x : Step) → is_end x ≡ true → deeds_by c w (record { seat = seat; step = x }) ≡ Deed.Ends ∷ []
    by seat Step.End is = done_alone c w seat Step.End refl
    by seat _ is = cc

module _ (c : Config) (es first since marking later freeing behind : List Event) (b r e : Event)
    (in_turn : es ≡ first ++ b ∷ since) (in_marking : since ≡ marking ++ r ∷ later)
    (in_freeing : later ≡ freeing ++ e ∷ behind) (begins : is_begin b.step ≡ true) (releases : is_release r.step ≡ true)
    (ends : is_end e.step ≡ true) (none : Lacks is_give since) where
  abbrev then_begun : World
  then_begun = left_from c (first_world c) (first ++ b ∷ [])

  abbrev then_marked : World
  then_marked = left_from c then_begun marking

  abbrev then_released : World
  then_released = left_from c then_begun (marking ++ r ∷ [])

  abbrev then_ended : World
  then_ended = left_from c then_released (freeing ++ e ∷ [])

  at_begin : deeds_of c es ≡ deeds_of c first ++ Deed.Begins ∷ deeds_from c then_begun since
  at_begin = deeds_at c (first_world c) es first b since Deed.Begins in_turn
      (begins_alone c (left_from c (first_world c) first) b begins)

  at_release : deeds_from c then_begun since ≡ deeds_from c then_begun marking
      ++ Deed.Releases (bases_released c then_marked) ∷ deeds_from c then_released later
  at_release = deeds_at c then_begun since marking r later (Deed.Releases (bases_released c then_marked)) in_marking
      (releases_alone c then_marked r releases)

  at_end : deeds_from c then_released later
      ≡ deeds_from c then_released freeing ++ Deed.Ends ∷ deeds_from c then_ended behind
  at_end = deeds_at c then_released later freeing e behind Deed.Ends in_freeing
      (ends_alone c (left_from c then_released freeing) e ends)

  abbrev then_behind : List Deed
  then_behind = deeds_from c then_released freeing ++ deeds_from c then_ended behind

  in_one : list_any ends_turn (deeds_from c then_begun marking ++ then_behind)
      ≡ false
  in_one =
      let parts = lacks_parts is_give marking r later none in_marking in
      let freed = lacks_parts is_give freeing e behind parts.1 in_freeing in
      list_any-append ends_turn (deeds_from c then_begun marking) then_behind
      ∙ or_from (list_any ends_turn (deeds_from c then_begun marking)) _
      (of_steps ends_turn is_give ends_at_gives c then_begun marking ∙ parts.0)
      (list_any-append ends_turn (deeds_from c then_released freeing) (deeds_from c then_ended behind)
      ∙ or_from (list_any ends_turn (deeds_from c then_released freeing)) _
      (of_steps ends_turn is_give ends_at_gives c then_released freeing ∙ freed.0)
      (of_steps ends_turn is_give ends_at_gives c then_ended behind ∙ freed.1))

  pub cycle_in_deeds : HasWholeCycle (deeds_of c es)
  cycle_in_deeds = record {
    before = deeds_of c first;
    marking = deeds_from c then_begun marking;
    bases = bases_released c then_marked;
    freeing = deeds_from c then_released freeing;
    behind = deeds_from c then_ended behind;
    is = at_begin ∙ ap (λ (l : List Deed). deeds_of c first ++ Deed.Begins ∷ l) (at_release ∙ ap (λ (l : List Deed).
        deeds_from c then_begun marking ++ Deed.Releases (bases_released c then_marked) ∷ l) at_end);
    in_one_turn = in_one;
  }

whole_cycle : {c : Config} {k : ℕ} {es : List Event} (t : TurnOf c (Caller k) es) → IsHistory c es → Cycle t.behind
    → HasWholeCycle (deeds_of c es)
whole_cycle {c} {k} {es} t h cycle =
    let begin = cycle.releasing.marking.begin in
    let close = cycle.releasing.marking.close.at in
    let release = cycle.releasing.release.at in
    let end = cycle.end.at in
    cycle_in_deeds c es (t.before ++ taken t ∷ begin.before) begin.behind (close.before ++ close.event ∷ release.before)
    release.behind end.before end.behind begin.event release.event end.event
    (t.is ∙ ap (λ (l : List Event). t.before ++ taken t ∷ l) begin.is
    ∙ sym (append_assoc t.before (taken t ∷ begin.before) (begin.event ∷ begin.behind)))
    (close.is ∙ ap (λ (l : List Event). close.before ++ close.event ∷ l) release.is
    ∙ sym (append_assoc close.before (close.event ∷ release.before) (release.event ∷ release.behind)))
    end.is begin.of_kind release.of_kind end.of_kind
    (lacks_parts is_give begin.before begin.event begin.behind (gives_none t h) begin.is).1

-- Nothing fits, and there was a cycle.
abbrev IsCause : Config → ℕ → List Deed → Type 0
IsCause c ty front = HasWholeCycle front
    × (FitsAmongAllocations c (object_of (kinds_of c.types ty)).words (object_of (kinds_of c.types ty)).leaf
    (storage_after front) → ⊥)

caller_has_cause : (c : Config) (before : List Event) (k d ty : ℕ) → IsHistory c before
    → IsNew (flight_of (left c before).now (Caller k)).op d ty → FindsNoPlace c before (Caller k)
    → IsCause c ty (deeds_of c before)
caller_has_cause c before k d ty h new finds = (
  whole_cycle finds.turn h finds.cycle,
  λ fits. finds.no_fit (subst (λ (o : Op). FitsAmongAllocations c (object_made c o).words (object_made c o).leaf
      (left c before).allocations) (sym new.is) (subst (λ (xs : List PlacedAllocation). FitsAmongAllocations c
      (object_of (kinds_of c.types ty)).words (object_of (kinds_of c.types ty)).leaf xs)
      (deeds_leave_the_storage c before) fits)),
)

cause_at : (c : Config) (es before : List Event) (seat : Seat) (x : Step) (behind : List Event) (first rest : List Deed)
    (k d ty : ℕ) → IsHistory c es → es ≡ before ++ record { seat = seat; step = x } ∷ behind
    → deeds_by c (left c before) (record { seat = seat; step = x }) ≡ first ++ full_new k d ty ∷ rest
    → IsCause c ty (deeds_of c before ++ first)
cause_at c es before (Caller j) x behind first rest k d ty h is by =
    let m : Moment = (left c before).now in
    let f : Flight = flight_of m (Caller j) in
    let e : Event = record { seat = Caller j; step = x } in
    let full = decides_full j k d ty f.op (progress c m f (found c m e) x).answer (done_by c (left c before) f x) first
    rest (none_asked_by c (left c before) f x) by in
    let step = full_steps c m f (found c m e) x full.answer in
    subst (λ (l : List Deed). IsCause c ty l)
    (sym (ap (λ (l : List Deed). deeds_of c before ++ l) full.first_is ∙ append-nil (deeds_of c before)))
    (caller_has_cause c before j d ty (before_it c es before e behind h is).0 full.new
    (fulls_fit_nowhere c es h before e behind is step))
cause_at c es before (Marker j) x behind first rest k d ty h is by =
    let full = decides_full 0 k d ty at_rest.op None (done_by c (left c before) at_rest x) first rest
    (none_asked_by c (left c before) at_rest x) by in
    let none = full.answer in cc
cause_at c es before Host x behind first rest k d ty h is by =
    let full = decides_full 0 k d ty at_rest.op None (done_by c (left c before) at_rest x) first rest
    (none_asked_by c (left c before) at_rest x) by in
    let none = full.answer in cc

pub deeds_say_why_full : DeedsSayWhyFull
deeds_say_why_full c es h front more k d ty is =
    let at = done_at c (first_world c) es front (full_new k d ty) more is in
    subst (λ (l : List Deed). IsCause c ty l) (sym at.front_is)
    (cause_at c es at.before at.event.seat at.event.step at.behind at.first at.rest k d ty h at.is at.by)
