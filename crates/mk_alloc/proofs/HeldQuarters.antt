-- What was freed since the last `begin` is a quarter of what is held alone, where no `release` came in a later turn.
use Rattle.mk_alloc.proofs.QuarantineVocabulary.{At, Bool, Caller, Config, Event, IsHistory, KeptByEvents, Lacks, List}
use Rattle.mk_alloc.proofs.QuarantineVocabulary.{Meets, OfHistories, Step, TurnOf, World, ℕ, ap, append_assoc, arith}
use Rattle.mk_alloc.proofs.QuarantineVocabulary.{before_it, cases_Bool, decides_freed, false, first_world, flight_of}
use Rattle.mk_alloc.proofs.QuarantineVocabulary.{fresh_after, fresh_words_of, has_step, holds_of_histories, inl, inr}
use Rattle.mk_alloc.proofs.QuarantineVocabulary.{is_begin, is_give, is_of_cycle, is_release, lacks_append, lacks_at}
use Rattle.mk_alloc.proofs.QuarantineVocabulary.{lacks_first, lacks_one, left, left_in_parts, left_more, list_any}
use Rattle.mk_alloc.proofs.QuarantineVocabulary.{list_any-append, longer_at, or_parts, own_give, phase_asked, refl}
use Rattle.mk_alloc.proofs.QuarantineVocabulary.{subst, sym, through, true, world_behind, [], ⊎_elim, ◌++◌, ◌∙◌, ◌∷◌}
use Rattle.mk_alloc.proofs.{QuarantineVocabulary.{◌≡◌, ◌⊎◌}, CountedWords.{IsQuarter, given_at, none_fresh_begun}}
use Rattle.mk_alloc.proofs.{CountedWords.{none_fresh_stays, quarter_stays}, EndedFrees.{CallersAreExact, EndedFree}}
use Rattle.mk_alloc.proofs.{EndedFrees.ended_free, Quarters.{IsPending, begin_is_of_cycle, cycles_later, freed_or_due}}
use Rattle.mk_alloc.proofs.{Quarters.{none_pending, pending_longer}, HeldTurns.{BeginsInTurn, begun_in_turn, last_of}}
use Rattle.mk_caller.proofs.{Below.Laws.CyclePhases.release_is, Below.Laws.ReleasedCycles.cycle_so_far}
use Rattle.mk_core.specs.{Cycles.BeginsIn, History.left_from}
use Rattle.mk_alloc.proofs.ListParts.{none_at}

-- A list frees something, or leaves nothing fresh where nothing was.

pub record FreesIn (c : Config) (w : World) (es : List Event) : Type 0 where
  pub before : List Event
  pub event : Event
  pub behind : List Event
  pub is : es ≡ before ++ event ∷ behind
  pub frees : decides_freed c (left_from c w before).now (flight_of (left_from c w before).now event.seat) event.step
      ≡ true

pub frees_or_stale : (c : Config) (w : World) (es : List Event) → fresh_words_of c w.allocations ≡ 0
    → (fresh_words_of c (left_from c w es).allocations ≡ 0) ⊎ FreesIn c w es
unfolding left_from
frees_or_stale c w [] stale = inl stale
frees_or_stale c w (e ∷ es) stale = elim (cases_Bool (decides_freed c w.now (flight_of w.now e.seat) e.step)) [
  | inl frees ↦ inr (record { before = []; event = e; behind = es; is = refl; frees = frees })
  | inr none ↦
      ⊎_elim (λ (z : fresh_words_of c (left_from c (world_behind c w e) es).allocations ≡ 0). inl z)
      (λ (f : FreesIn c (world_behind c w e) es). inr (record {
        before = e ∷ f.before;
        event = f.event;
        behind = f.behind;
        is = ap (λ (l : List Event). e ∷ l) f.is;
        frees = f.frees;
      })) (frees_or_stale c (world_behind c w e) es (none_fresh_stays c w e.seat e.step none stale))
]

-- so it is after a `begin`
pub since_begin : (c : Config) {es : List Event} (b : At is_begin es)
    → (fresh_after c es ≡ 0) ⊎ FreesIn c (left c (through b)) b.behind
since_begin c {es = es} b =
    let start = left_more c (first_world c) b.before b.event in
    let whole : left_from c (left c (through b)) b.behind ≡ left c es =
    cc (left_in_parts c (through b) b.behind, append_assoc b.before (b.event ∷ []) b.behind, b.is) in
    ⊎_elim (λ (z : fresh_words_of c (left_from c (left c (through b)) b.behind).allocations ≡ 0). inl (ap (λ (w :
    World). fresh_words_of c w.allocations) (sym whole) ∙ z)) (λ (f : FreesIn c (left c (through b)) b.behind). inr f)
    (frees_or_stale c _ _ (grind (arith, none_fresh_begun)))

-- A `release` since the last `begin` stands in a later turn.
pub record IsLate (es : List Event) : Type 0 where
  pub begin : At is_begin es
  pub last : Lacks is_begin begin.behind
  pub release : At is_release begin.behind
  pub later : has_step is_give release.before ≡ true

-- An object was freed after a `begin` of the same turn.
pub record IsEarly (c : Config) (es : List Event) : Type 0 where
  pub begin : At is_begin es
  pub free : FreesIn c (left c (through begin)) begin.behind
  pub in_turn : Lacks is_give free.before

early_longer : (c : Config) (es : List Event) (e : Event) → IsEarly c es → IsEarly c (es ++ e ∷ [])
early_longer c es e l = record {
  begin = longer_at (e ∷ []) l.begin;
  free = record {
    before = l.free.before;
    event = l.free.event;
    behind = l.free.behind ++ e ∷ [];
    is = cc (l.free.is, append_assoc l.free.before (l.free.event ∷ l.free.behind) (e ∷ []));
    frees = l.free.frees;
  };
  in_turn = l.in_turn;
}

pub data HeldQuarters (c : Config) (es : List Event) : Type 0 where
  Quarter : IsQuarter c (left c es) 0 → HeldQuarters c es
  Pending : IsPending c es → HeldQuarters c es
  Late : IsLate es → HeldQuarters c es
  Early : IsEarly c es → HeldQuarters c es

-- One event.

to_longer : (c : Config) (es : List Event) (e : Event) → IsQuarter c (world_behind c (left c es) e) 0
    → HeldQuarters c (es ++ e ∷ [])
to_longer c es e quarter = Quarter (subst (λ (w : World). IsQuarter c w 0) (sym (left_more c _ es e)) quarter)

begun : (c : Config) (es : List Event) (e : Event) → is_begin e.step ≡ true → HeldQuarters c (es ++ e ∷ [])
begun c es e begins =
    let stale = none_fresh_begun c (left c es) e.seat e.step begins in
    to_longer c es e (omega arith)

freed : (c : Config) (es : List Event) (e : Event)
    → decides_freed c (left c es).now (flight_of (left c es).now e.seat) e.step ≡ true → HeldQuarters c (es ++ e ∷ [])
freed c es e frees = grind (arith, to_longer, freed_or_due)

released : {c : Config} {es : List Event} (e : Event) → IsHistory c es → Meets c (left c es).now e.seat e.step
    → is_release e.step ≡ true → HeldQuarters c (es ++ e ∷ [])
released {c} {es} e h meets is =
    let asked = subst (λ (x : Step). Meets c (left c es).now e.seat x) (release_is e.step is) meets in
    let closed = (cycle_so_far c es h).closed (phase_asked c (left c es).now e.seat Step.Release asked) in
    let b = last_of is_begin es (λ lacks. none_at is_begin es lacks closed.marking.begin) in
    elim (cases_Bool (has_step is_give b.at.behind)) [
      | inl later ↦
          Late (record {
            begin = longer_at (e ∷ []) b.at;
            last = grind (arith, lacks_append, lacks_one);
            release = record { before = b.at.behind; event = e; behind = []; is = refl; of_kind = is };
            later = later;
          })
      | inr none ↦
          ⊎_elim (λ (stale : fresh_after c es ≡ 0). (let now = none_fresh_stays c (left c es) e.seat e.step
          (grind arith) stale in
          to_longer c es e (omega arith))) (λ (f : FreesIn c (left c (through b.at)) b.at.behind). Early
          (early_longer c es e (record { begin = b.at; free = f; in_turn = in_front f none }))) (since_begin c b.at)
    ]
  where
    no_begin : (x : Step) → is_release x ≡ true → is_begin x ≡ false
    no_begin x1 is = grind arith

    in_front : {w : World} {ys : List Event} (f : FreesIn c w ys) → Lacks is_give ys → Lacks is_give f.before
    in_front {ys = ys} f none = grind (arith, lacks_first)

held_kept : KeptByEvents HeldQuarters
held_kept c es e h (Quarter quarter) = elim (cases_Bool _) [
  | inl frees ↦ freed c es e frees
  | inr none ↦ elim (cases_Bool (is_release e.step)) [
    | inl is ↦
        let here = before_it c (es ++ e ∷ []) es e [] h refl in
        released e here.0 here.1 is
    | inr off ↦
        to_longer c es e (rw (given_at c (left c es) e.step off) at (quarter_stays c (left c es) e.seat e.step 0
        none quarter))
  ]
]
held_kept c es e h (Pending p) = elim (cases_Bool (is_begin e.step)) [
  | inl begins ↦ begun c es e begins
  | inr none ↦ Pending (pending_longer e none p)
]
held_kept c es e h (Late l) = elim (cases_Bool (is_begin e.step)) [
  | inl begins ↦ begun c es e begins
  | inr none ↦ Late (record {
    begin = longer_at (e ∷ []) l.begin;
    last = lacks_append is_begin l.begin.behind (e ∷ []) l.last (lacks_one is_begin e none);
    release = longer_at (e ∷ []) l.release;
    later = l.later;
  })
]
held_kept c es e h (Early l) = Early (early_longer c es e l)

held_first : (c : Config) → HeldQuarters c []
unfolding left_from
held_first c = Quarter (omega arith)

held_quarters : OfHistories HeldQuarters
held_quarters = holds_of_histories HeldQuarters held_first held_kept

-- In an ended turn no `begin` stands before the free.
begun_before : {on : Bool} {c : Config} {before : List Event} {e : Event} {behind : List Event}
    (f : EndedFree on c before e behind) → IsHistory c before → (b : At is_begin before) → Lacks is_give b.behind → ⊥
begun_before {on} {c} {before} {e} {behind} f h b none =
    let k : ℕ = f.caller in
    let so_far : TurnOf c (Caller k) before = record {
      before = f.turn.before;
      op = f.turn.op;
      behind = f.done;
      is = f.first;
      took = f.turn.took;
      goes_on = (or_parts (list_any (own_give (Caller k)) f.done) (list_any (own_give (Caller k)) (e ∷ f.more))
          (sym (list_any-append (own_give (Caller k)) f.done (e ∷ f.more))
          ∙ ap (λ (l : List Event). list_any (own_give (Caller k)) l) (sym f.parts) ∙ f.turn.goes_on)).0;
    } in
    let i : BeginsInTurn so_far b.event b.behind = begun_in_turn b h none so_far in
    let in_turn : BeginsIn f.turn = record {
      before = i.before;
      event = b.event;
      behind = b.behind ++ e ∷ f.more;
      is = cc (f.parts, i.is, append_assoc i.before (b.event ∷ b.behind) (e ∷ f.more));
      of_kind = b.of_kind;
    } in
    lacks_at is_of_cycle f.done i.before b.event b.behind
    (cycles_later f (f.exact.begins.0 in_turn)) i.is (begin_is_of_cycle b.event.step b.of_kind)

-- Where the turn is free, no object was freed after a `begin` of its turn.
none_early : (on : Bool) {c : Config} {es : List Event} → IsHistory c es → CallersAreExact on c es
    → (left c es).now.words.turn ≡ 0 → IsEarly c es → ⊥
none_early on {c = c} {es = es} h exact free l =
    let before : List Event = through l.begin ++ l.free.before in
    let split : es ≡ before ++ l.free.event ∷ l.free.behind =
    l.begin.is ∙ ap (λ (xs : List Event). l.begin.before ++ l.begin.event ∷ xs) l.free.is
    ∙ sym (append_assoc l.begin.before (l.begin.event ∷ []) (l.free.before ++ l.free.event ∷ l.free.behind))
    ∙ sym (append_assoc (through l.begin) l.free.before (l.free.event ∷ l.free.behind)) in
    let frees : decides_freed c (left c before).now (flight_of (left c before).now l.free.event.seat) l.free.event.step
    ≡ true = ap (λ (w : World). decides_freed c w.now (flight_of w.now l.free.event.seat) l.free.event.step)
    (left_in_parts c (through l.begin) l.free.before) ∙ l.free.frees in
    let f : EndedFree on c before l.free.event l.free.behind =
    ended_free on c es before l.free.event l.free.behind h exact free split frees in
    begun_before f (before_it c es before l.free.event l.free.behind h split).0 (record {
      before = l.begin.before;
      event = l.begin.event;
      behind = l.free.before;
      is = append_assoc l.begin.before (l.begin.event ∷ []) l.free.before;
      of_kind = l.begin.of_kind;
    }) l.in_turn

-- What was freed since is a quarter, unless a `release` is late.
pub quarter_or_late : (on : Bool) {c : Config} {es : List Event} → IsHistory c es → CallersAreExact on c es
    → (left c es).now.words.turn ≡ 0 → IsQuarter c (left c es) 0 ⊎ IsLate es
quarter_or_late on {c = c} {es = es} h exact free = by (held_quarters c es h)
  where
    by : HeldQuarters c es → IsQuarter c (left c es) 0 ⊎ IsLate es
    by (Quarter quarter) = inl quarter
    by (Pending p) = absurd (none_pending on h exact free p)
    by (Late l) = inr l
    by (Early l) = absurd (none_early on h exact free l)
