-- After a cycle's `end` what its `release` released counts as free: no unreleased storage has a word of it.
use Rattle.std.proofs.Common.{Contains}
use Rattle.mk_laws.proofs.Vocabulary.{Config, Cycle, Event, IsHistory, IsStorage, IsWordOf, List, OfHistories}
use Rattle.mk_laws.proofs.Vocabulary.{PlacedAllocation, Releasing, Step, Storage, World, ℕ, and_parts, ap, append_assoc}
use Rattle.mk_laws.proofs.Vocabulary.{arith, before_release, cases_lt, earlier_part_is_history, eqb-true, false, inl}
use Rattle.mk_laws.proofs.Vocabulary.{inr, is_end, is_small, left, not, not-true, or_from, phase_of, placed_at, refl}
use Rattle.mk_laws.proofs.Vocabulary.{standing_has_storage, stands_on, storage_is_of, storage_of, storage_words, subst}
use Rattle.mk_laws.proofs.Vocabulary.{sym, through_release, true, unreleased_storage, [], ◌%◌, ◌*◌, ◌++◌, ◌+◌, ◌==◌}
use Rattle.mk_laws.proofs.{Vocabulary.{◌∙◌, ◌∷◌, ◌≡◌, ◌≤◌}, Basics.{WorldBehind, begin_is, is_grant, release_is}}
use Rattle.mk_laws.proofs.{Marking.{one_more, told}, OlderAllocations.{AreOlder, IsKept, kept_along, older_behind}}
use Rattle.mk_laws.proofs.{OlderAllocations.{older_joined, older_same}, PrecisionStopped.{AtRelease, at_the_release}}
use Rattle.mk_laws.proofs.{PrecisionStopped.{last_begin, releases_the_untouched}, Stretches.{along_without, at_end}}
use Rattle.mk_laws.proofs.{Stretches.{at_release, history_through}, Ground.is_there}
use Rattle.mk_laws.proofs.{InvariantHistories.allocations_are_disjoint, PhaseSteps.releasing_waits}
use Rattle.mk_laws.proofs.{Precise.{same_word, same_words}, ProtocolStepKinds.end_is, Worlds.stands}
use Rattle.mk_geom.proofs.{Standing.{has_words, large_is_run, stands_parts}, ListSearch.{find_cases, list_any_found}}
use Rattle.mk_geom.specs.Storages.{IsRun, is_cell_taken}
use Rattle.mk_core.specs.Cycles.{before_begin, before_end}
use Rattle.mk_laws.specs.Releases.{CountsAsFree, FreesTheUntouched, through_end}

-- Storage of which no other has a word counts as free.

module _ (ss : List Storage) (s : Storage) (some : 1 ≤ s.words) (run : is_small s ≡ false → IsRun s)
    (others : (t : Storage) → Contains ss t → 1 ≤ t.words)
    (apart : (t : Storage) → Contains ss t → (n : ℕ) → IsWordOf s n → IsWordOf t n → ⊥) where
  -- none begins at its first word
  none_begins : (page words k : ℕ) → s.first ≡ 64 * page + k * words → is_cell_taken ss page words k ≡ true → ⊥
  none_begins page words k at taken =
      let found = list_any_found (λ (t : Storage). t.first == 64 * page + k * words) ss taken in
      let t : Storage = found.0 in
      let inside = found.1 in
      let first = eqb-true t.first _ found.2 in
      apart t inside s.first (omega arith, omega arith) (omega arith, omega arith)

  -- a run's pages have no other's word
  none_stands : (page : ℕ) (t : Storage) → is_small s ≡ false → stands_on page s ≡ true → Contains ss t
      → stands_on page t ≡ true → ⊥
  none_stands page t large own inside stands =
      let r = run large in
      let mine = stands_parts page s own in
      let its = stands_parts page t stands in
      elim (cases_lt t.first (64 * page)) [
        | inl lt ↦ apart t inside (64 * page) (omega arith, omega arith) (omega arith, omega arith)
        | inr le ↦ apart t inside t.first (omega arith, omega arith) (omega arith, omega arith)
      ]

  pub counts_as_free : CountsAsFree ss s
  counts_as_free = grind (arith, none_begins, find_cases, none_stands)

-- what stands after the `release`, up to the `end`
record WhileReleasing (c : Config) (start es : List Event) : Type 0 where
  phase : phase_of (left c es).now.words ≡ 4
  older : AreOlder (left c start).allocations (left c es).allocations

releasing_goes_on : (c : Config) (start es : List Event) (e : Event) → IsHistory c (es ++ e ∷ [])
    → is_end e.step ≡ false → WhileReleasing c start es → WhileReleasing c start (es ++ e ∷ [])
releasing_goes_on c start es e h other at =
    let m = one_more c es e h in
    let w : World = left c es in
    let waits = releasing_waits c w.now e.seat e.step at.phase m.meets other in
    grind (arith, older_joined, older_behind)

-- what the `release`, and what comes up to the `end`, leave of the allocations before
record Released (c : Config) {es : List Event} (k : Cycle es) : Type 0 where
  release : AreOlder (left c (before_release k.releasing)).allocations
      (left c (through_release k.releasing)).allocations
  end : AreOlder (left c (through_release k.releasing)).allocations (left c (through_end k)).allocations

released : {c : Config} {es : List Event} (k : Cycle es) → IsHistory c es → AtRelease c k.releasing → Released c k
released {c} {es} k h at =
    let front : List Event = before_release k.releasing in
    let e : Event = k.releasing.release.at.event in
    let w : World = left c front in
    let more : List Event = k.end.at.before in
    let start : List Event = through_release k.releasing in
    let releasing = history_through c es front k.releasing.release.at.behind e h (at_release k.releasing) in
    let m = one_more c front e releasing in
    let left_is = ap (WorldBehind c w e.seat) (sym (release_is e.step k.releasing.release.at.of_kind)) ∙ sym m.left in
    let four : phase_of (left c start).now.words ≡ 4 =
    subst (λ (v : World). phase_of v.now.words ≡ 4) left_is (omega (arith, at.phase)) in
    let same : start ++ more ≡ before_end k = append_assoc front (e ∷ []) more in
    let ending = history_through c es (before_end k) k.end.at.behind k.end.at.event h (at_end k) in
    let whole : IsHistory c (start ++ more) = subst (IsHistory c) (sym same)
    (earlier_part_is_history c (before_end k) (k.end.at.event ∷ []) ending) in
    let along = along_without c is_end (WhileReleasing c start) start more (releasing_goes_on c start) whole
    k.end.none_before (record { phase = four; older = older_same _ }) in
    let last = one_more c (before_end k) k.end.at.event ending in
    record {
      release = subst (λ (y : World). AreOlder w.allocations y.allocations) left_is
          (older_behind c w e.seat Step.Release refl);
      end = grind (arith, older_joined, older_behind, is_grant, end_is);
    }

-- What is in the snapshot is unreleased up to the `release`.
kept_to_release : {c : Config} {es : List Event} (k : Releasing es) (i : ℕ) → IsHistory c es → AtRelease c k
    → (placed_at (left c (before_begin k.marking)).allocations i).released ≡ false
    → IsKept (left c (before_release k)) i
kept_to_release {c} {es} k i h at u =
    let b = last_begin k in
    let e : Event = k.release.at.event in
    let whole = earlier_part_is_history c _ (e ∷ []) (history_through c es _ k.release.at.behind e h (at_release k)) in
    rw b.is (kept_along c b.before (b.event ∷ b.behind) i (rw b.is at whole)
    (grind (arith, or_from, begin_is)) (record { there = is_there _ i u; unreleased = u }))

pub frees_the_untouched : OfHistories FreesTheUntouched
frees_the_untouched c es h k unswept i quarantined untouched =
    counts_as_free ss (storage_of c (placed_at zs i)) some run others apart
  where
    r : Releasing es
    r = k.releasing

    at : AtRelease c r
    at = at_the_release r h unswept

    xs : List PlacedAllocation
    xs = (left c (before_release r)).allocations

    ys : List PlacedAllocation
    ys = (left c (through_release r)).allocations

    zs : List PlacedAllocation
    zs = (left c (through_end k)).allocations

    ss : List Storage
    ss = unreleased_storage c zs

    before : IsHistory c (before_release r)
    before = earlier_part_is_history c (before_release r) (r.release.at.event ∷ [])
        (history_through c es (before_release r) r.release.at.behind r.release.at.event h (at_release r))

    done : Released c k
    done = released k h at

    older : AreOlder xs zs
    older = older_joined done.release done.end

    kept : IsKept (left c (before_release r)) i
    kept =
        let a : PlacedAllocation = placed_at (left c (before_begin r.marking)).allocations i in
        kept_to_release r i h at (not-true a.released (and_parts a.freed (not a.released) quarantined).1)

    -- an allocation that was unreleased before the `release` has its storage still
    storage : (j : ℕ) → (placed_at xs j).released ≡ false → IsStorage c.pages (storage_of c (placed_at xs j))
    storage j u = standing_has_storage c _ h.within_limits (stands c _ _ (told before) j u)

    size : (j : ℕ) → (placed_at xs j).released ≡ false → 1 ≤ storage_words c (placed_at zs j)
    size j u =
        let words = same_words c (older.same j (is_there xs j u)) in
        let some = has_words c.pages (storage_of c (placed_at xs j)) (storage j u) in
        omega arith

    some : 1 ≤ storage_words c (placed_at zs i)
    some = size i kept.unreleased

    run : is_small (storage_of c (placed_at zs i)) ≡ false → IsRun (storage_of c (placed_at zs i))
    run large =
        let same = older.same i kept.there in
        let words = same_words c same in
        let z = large_is_run c.pages (storage_of c (placed_at xs i)) (storage i kept.unreleased)
        (ap (λ n. is_small (record (storage_of c (placed_at xs i)) { words = n })) (sym words) ∙ large) in
        record {
          pages = z.pages;
          some = z.some;
          most = z.most;
          words = words ∙ z.words;
          first = ap (λ n. n % 64) same.base ∙ z.first;
        }

    others : (t : Storage) → Contains ss t → 1 ≤ t.words
    others t inside =
        let o = storage_is_of c zs t inside in
        subst (λ (y : Storage). 1 ≤ y.words) (sym o.storage) (size o.number (older.was o.number o.unreleased))

    apart : (t : Storage) → Contains ss t → (n : ℕ) → IsWordOf (storage_of c (placed_at zs i)) n → IsWordOf t n → ⊥
    apart t inside n own its =
        let o = storage_is_of c zs t inside in
        let j : ℕ = o.number in
        let u = older.was j o.unreleased in
        let mine = same_word c n (older.same i kept.there) own in
        let other = same_word c n (older.same j (is_there xs j u))
        (subst (λ (y : Storage). IsWordOf y n) o.storage its) in
        let same = allocations_are_disjoint c (before_release r) before i j n kept.unreleased u mine other in
        grind (arith, releases_the_untouched, ys, released, done)
