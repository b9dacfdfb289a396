-- The `begin` of a cycle, and the calls around it.
use Rattle.std.proofs.Common.{filter}
use Rattle.mk_words.proofs.Below.Laws.Vocabulary.{Bool, Config, List, PlacedAllocation, Step, Storage, World, ℕ}
use Rattle.mk_words.proofs.Below.Laws.Vocabulary.{all_below, all_below-at, all_below_more_is, all_below_zero_is}
use Rattle.mk_words.proofs.Below.Laws.Vocabulary.{and_from, ap, arith, eq-eqb, false, has_clean_page, if◌then◌else◌}
use Rattle.mk_words.proofs.Below.Laws.Vocabulary.{is_held, is_mapped, length, map, no_longer_fresh, not, refl}
use Rattle.mk_words.proofs.Below.Laws.Vocabulary.{slice_index, storage_of, subst, suc, sym, true, zero, [], ◌%◌, ◌&&◌}
use Rattle.mk_words.proofs.Below.Laws.Vocabulary.{◌+◌, ◌/◌, ◌<◌, ◌==◌, ◌^◌, ◌∙◌, ◌∷◌, ◌≡◌, ◌≤◌}
use Rattle.mk_cycle.proofs.Vocabulary.{Acts, Cleans, CountsAreLeft, IsAtPhase, IsClean, IsEnabledTo, IsFreeForCycle}
use Rattle.mk_cycle.proofs.Vocabulary.{IsGone, IsTurn, IsTurnAt, KeepsGates, PassState, WasUndirty, WordsState, call_of}
use Rattle.mk_cycle.proofs.Vocabulary.{count_by-le-length, done_of, made, now_of, stands, steady_of, world_at, world_of}
use Rattle.mk_core.proofs.Below.Books.PlaceLemmas.{count_by-map}
use Rattle.mk_core.specs.Allocations.{unreleased_storage}
use Rattle.mk_core.specs.{Counts.TalliesAreExact, Moments.none_is_held, declared.seats.OwnCycle.TheVariants.Begun}
use Rattle.mk_cycle.proofs.KeptInParts.{gates_behind, gates_then, same_config}
use Rattle.mk_cycle.proofs.OwnSteps.{done_in, keeps_counts, same_call, same_pass, still_gone}
use Rattle.mk_cycle.proofs.{Allowed.in_turn_after, Allowed.protocol, MayAct.may_act}
use Rattle.mk_cycle.specs.{BeginCycle.{BeginsCycle, with_cycle_begun}, TurnKeeps.{OnlyDoes, begins_marking}}

pub all_from : (n : ℕ) (test : ℕ → Bool) → ((k : ℕ) → k < n → test k ≡ true) → all_below n test ≡ true
all_from zero test h = all_below_zero_is test
all_from (suc n) test h =
    subst (λ (k : ℕ). all_below k test ≡ true) (omega arith)
    (all_below_more_is n test (all_from n test (λ k lt. h k (omega arith))) (h n (omega arith)))

clean_page : {p : PassState} {page : ℕ} → IsClean p page → has_clean_page (now_of p).words page ≡ true
clean_page h = grind (arith, and_from, eq-eqb)

-- Pages were cleaned, and now all is ready for a `begin`.
pub record IsCleared (w : WordsState) (p b : PassState) : Type 0 where
  pub cleans : Cleans p b
  pub turn : IsTurnAt 0 w b
  pub holds : IsTurn b
  pub clean : (page : ℕ) → page < b.table.config.pages → IsClean b page
  pub fresh : (now_of b).words.fresh ≡ 0

pub begin_allowed : {w : WordsState} {p b : PassState} → IsCleared w p b → IsEnabledTo b Step.Begin
begin_allowed {b = b} x =
    may_act b Step.Begin (protocol b x.holds x.turn.free) x.holds.holds x.turn.free.decided refl refl refl
    (eq-eqb _ 0 x.turn.phase) (and_from _ ((now_of b).words.fresh == 0)
    (all_from _ _ (λ page lt. clean_page (x.clean page lt))) (eq-eqb (now_of b).words.fresh 0 x.fresh))

-- The phase word has the phase and the count of markers, which is small.
begun_phase : (n markers : ℕ) → n % 8 ≡ 0 → n / 8 ≡ markers → markers ≤ 8 → (n + 1) % 2 ^ 64 % 8 ≡ 1
begun_phase n markers none high few = omega arith

-- lists that are the same, number by number
same_list : (xs ys : List ℕ) → length xs ≡ length ys → ((k : ℕ) → k < length xs → slice_index xs k ≡ slice_index ys k)
    → xs ≡ ys
same_list [] [] e h = refl
same_list [] (y ∷ ys) e h = absurd (omega arith)
same_list (x ∷ xs) [] e h = absurd (omega arith)
same_list (x ∷ xs) (y ∷ ys) e h =
    let head : x ≡ y = h 0 (omega arith) in
    let tail : xs ≡ ys = same_list xs ys (omega arith) (λ k lt. h (suc k) (omega arith)) in
    ap (λ (z : ℕ). z ∷ xs) head ∙ ap (λ (zs : List ℕ). y ∷ zs) tail

-- What is no longer fresh is held as before.

stale_storage : (c : Config) (xs : List PlacedAllocation)
    → unreleased_storage c (map no_longer_fresh xs) ≡ unreleased_storage c xs
unfolding unreleased_storage
stale_storage c [] = refl
stale_storage c (a ∷ xs) =
    ap (λ (ys : List Storage). if a.released then ys else storage_of c a ∷ ys) (stale_storage c xs)

never_both : (b : Bool) → (b && false) ≡ false
never_both x0 = grind arith

none_fresh : (c : Config) (xs : List PlacedAllocation)
    → filter (λ (a : PlacedAllocation). is_mapped c a && a.fresh) (map no_longer_fresh xs) ≡ []
none_fresh c [] = refl
none_fresh c (a ∷ xs) = cc (never_both (is_mapped c a), none_fresh c xs)

module _ {p q : PassState} (t : IsTurn p) (free : IsFreeForCycle p) (none : IsAtPhase p 0) (u : IsTurn q)
    (a : Acts p Step.Begin q) where
  abbrev w : World
  w = world_at a.makes

  pub steady_begun : steady_of (world_of q) ≡ record (steady_of (world_of p))
      { phase = 1; fresh_words = 0; allocations = map no_longer_fresh (world_of p).allocations }
  steady_begun = grind (arith, made, protocol, count_by-le-length, begun_phase)

  pub begun_call : call_of q ≡ call_of p
  begun_call = same_call p Step.Begin q a t.own t.holds u.history (λ n. refl)

  pub begun_done : done_of (now_of q) ≡ record (done_of (now_of p)) { cycle = Begun }
  begun_done = grind (arith, done_in)

  pub begun_gone : IsGone p → IsGone q
  begun_gone = still_gone p Step.Begin q a t.own t.holds u.history (λ n. refl) refl

  pub begun_counts : CountsAreLeft p.table.config p.seen q.seen
  begun_counts = keeps_counts p Step.Begin q a t.own t.holds u.history (λ n. refl) refl

  pub begun_gates : KeepsGates p q
  begun_gates = gates_behind p Step.Begin q a refl

  pub begun_free : IsFreeForCycle q
  begun_free = grind (arith, begun_call, begun_done, begun_gone)

snapshot_is : {b : PassState} → IsTurn b → ((page : ℕ) → page < b.table.config.pages → IsClean b page)
    → (now_of b).words.snapshot ≡ (now_of b).words.freed
snapshot_is {b} t clean =
    let lengths = (stands b.table.config b.seen t.history).known.lengths in
    same_list (now_of b).words.snapshot (now_of b).words.freed (lengths.snapshot ∙ sym lengths.freed)
    (λ k lt. (clean k (subst (λ (n : ℕ). k < n) lengths.snapshot lt)).snapshot)

-- the allocations and tallies, from all that only the holder changes
exact_from : (p q : PassState) → q ≡ record p { seen = q.seen } → steady_of (world_of q) ≡ with_cycle_begun
    (steady_of (world_of p)) → TalliesAreExact p.table.config p.seen → TalliesAreExact q.table.config q.seen
exact_from p q is steady x = grind (arith, same_config, none_fresh, stale_storage)

pub counts_then : (p q r : PassState) → q.table.config ≡ p.table.config → CountsAreLeft p.table.config p.seen q.seen
    → CountsAreLeft q.table.config q.seen r.seen → CountsAreLeft p.table.config p.seen r.seen
counts_then p q r same a b = grind arith

-- All of it: pages are cleaned, the cycle begins, and the engine does its part.
pub begins_cycle : {w : WordsState} {p b d q : PassState} → IsCleared w p b → ((page : ℕ) → page < p.table.config.pages
    → WasUndirty page p b) → Acts b Step.Begin d → OnlyDoes begins_marking d q → BeginsCycle p q
begins_cycle {p = p} {b = b} {d = d} {q = q} x undirty a law =
    let k = x.cleans in
    let t : IsTurn b = x.holds in
    let u : IsTurn d = in_turn_after a refl in
    let free : IsFreeForCycle b = x.turn.free in
    let none = x.turn.phase in
    let begun = steady_begun t free none u a in
    let first : b ≡ record p { seen = b.seen } = k.keeps.call.pass in
    let second : d ≡ record p { seen = d.seen } = grind (arith, same_pass) in
    let pass : q ≡ record p { seen = q.seen } = grind arith in
    let steady : steady_of (world_of q) ≡ with_cycle_begun (steady_of (world_of p)) =
    law.keeps.steady ∙ begun ∙ ap (λ (n : ℕ). record (with_cycle_begun (steady_of (world_of b))) {
      fresh = n;
      snapshot = (now_of b).words.snapshot;
    }) x.fresh
    ∙ ap (λ (ss : List ℕ). record (with_cycle_begun (steady_of (world_of b))) { snapshot = ss }) (snapshot_is t x.clean)
    ∙ ap with_cycle_begun k.keeps.steady in
    let counts : CountsAreLeft p.table.config p.seen q.seen = counts_then p b q (same_config p b first) k.keeps.counts
    (counts_then b d q (same_config b d (same_pass b Step.Begin d a t.own t.holds u.history))
    (begun_counts t free none u a) law.keeps.counts) in
    record {
      makes = record { cleared = b; begun = d; before = k.does; undirty = undirty; begin = a.makes; behind = law.does };
      pass = pass;
      call = law.keeps.call.call ∙ begun_call t free none u a ∙ k.keeps.call.call;
      done = cc (law.keeps.call.done, begun_done t free none u a, k.keeps.call.done);
      steady = steady;
      counts = counts;
      gates = gates_then p b q first k.gates (gates_then b d q (same_pass b Step.Begin d a t.own t.holds u.history)
          (begun_gates t free none u a) law.gates);
      gone = law.keeps.call.gone (begun_gone t free none u a free.gone);
      exact = exact_from p q pass steady;
      tidy = λ x. grind (arith, same_config, count_by-map);
    }

-- No gate is held where none was, by the same holder.
pub none_held_kept : (p q : PassState) → q ≡ record p { seen = q.seen } → KeepsGates p q
    → none_is_held p.table.config.callers (now_of p).words ≡ true
    → none_is_held q.table.config.callers (now_of q).words ≡ true
none_held_kept p q is keeps none =
    let n : ℕ = p.table.config.callers in
    subst (λ (c : Config). none_is_held c.callers (now_of q).words ≡ true) (sym (same_config p q is))
    (all_from n (λ j. not (is_held (now_of q).words j))
    (λ j lt. ap not (keeps j lt) ∙ all_below-at n j (λ i. not (is_held (now_of p).words i)) none lt))
