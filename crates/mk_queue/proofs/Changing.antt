-- What holds of the nodes of a queue, and that it stays a queue.
use Rattle.mk_heap.proofs.Below.Laws.Vocabulary.{List, Null, Option, Ptr, Some, Value, arith, cases_eq, global_at, inl}
use Rattle.mk_heap.proofs.Below.Laws.Vocabulary.{inr, refl}
use Rattle.mk_heap.proofs.Below.Laws.Vocabulary.{subst, sym, word_at, ℕ, ◌∙◌, ◌∷◌, ◌≡◌, ◌≢◌, ◌⊎◌}
use Rattle.mk_jobs.specs.Keeping.{Covers, IsShown, Public, World}
use Rattle.mk_jobs.proofs.{Chains.{IsPart, word_of}, Heaps.Stores, Roots.{founded_still, of_root, shared_covered}}
use Rattle.mk_jobs.proofs.Having.{HasRoot, IsShownOf, PointsTo, Relies, not_null, points_stay}
use Rattle.mk_jobs.proofs.Relying.{onward_same, relies_covered, relies_stored}
use Rattle.mk_jobs.proofs.Rows.{HasRow, first_of, not_root, only_one, points_on, row_beside, row_covered}
use Rattle.mk_queue.specs.{Queue.left_by, declared.{jobs.Done.{Done}, jobs.Job.{Job}}}
use Rattle.mk_queue.proofs.Invariant.{Final, GoesOn, HasHead, IsLinkedIfPassed, IsQueue, Rely, Shared}

-- A known node is the last of the row, or linked to a node.
pub link_of : {w : World} {e : ℕ} {x : List ℕ} {v : Value} → IsQueue w e x → (h : PointsTo w 0 v)
    → (IsPart w 0 h.a × (word_at w.n h.a 1 ≡ Null)) ⊎ PointsTo w 0 (word_at w.n h.a 1)
link_of {w = w} q h = elim (q.passed h.a h.known) [
  | inl public ↦
      let part : IsPart w 0 h.a = record { role = public; is_of = h.known.is_of } in
      elim (points_on q.row h.a part) [ inl null ↦ inl (part, null) | inr to ↦ inr to ]
  | inr to ↦ inr to
]

-- If the node that was loaded from head is linked to none, nothing is queued: a node that head has left has a link, so
-- head points to this one still.
pub is_empty : {w : World} {k : ℕ} {u : Option Done} {x : List ℕ} (h : HasHead w k u) → IsQueue w h.ends.1.t x
    → IsPart w 0 h.node.a → word_at w.n h.node.a 1 ≡ Null → left_by x Job.Dequeue Done.Empty ≡ Some x
is_empty h q last null = elim h.was [
  | inl is ↦ rw (only_one (first_of q.row is).row null) refl
  | inr passed ↦ absurd (passed.1 last.role)
]

-- The row from head, the node of tail, and those that head has left are a queue.
is_queue : {w : World} {e a m : ℕ} {nodes x : List ℕ} → HasRow w 1 0 0 1 0 e (a ∷ nodes) (m ∷ x)
    → PointsTo w 0 (word_at w.n e 1) → ((a : ℕ) → IsShownOf w 0 a → IsLinkedIfPassed w a) → IsQueue w e x
is_queue row tail passed = record { dummy = _; of_dummy = _; nodes = _; row = row; tail = tail; passed = passed }

-- A node that was known, and is passed only if it was.
linked_on : {j e : ℕ} {w w' : World} {x : List ℕ} (a : ℕ) → Relies Final 0 j w w' → IsQueue w e x
    → (w.role a ≡ Public → w'.role a ≡ Public) → IsShownOf w 0 a → IsLinkedIfPassed w' a
linked_on a rely q still known = elim (q.passed a known) [
  | inl public ↦ inl (still public)
  | inr to ↦ inr (points_stay rely (rely.words a 1 known (not_null to.a 0 _ to.is)) to)
]

-- A word is stored, and object c gets another role. The row and the tail are so then.
pub queue_stored : {j e a b c i m : ℕ} {v : Value} {w w' : World} {nodes x y : List ℕ} → Stores b i v w.n w'.n
    → ((a : ℕ) → a ≢ c → w'.role a ≡ w.role a) → Relies Final 0 j w w' → IsQueue w e x
    → HasRow w' 1 0 0 1 0 e (a ∷ nodes) (m ∷ y) → PointsTo w' 0 (word_at w'.n e 1) → IsLinkedIfPassed w' c
    → IsQueue w' e y
queue_stored {c = c} {w' = w'} stores others rely q row tail linked =
    is_queue row tail (λ a h. elim (cases_eq a c) [
      | inl same ↦ subst (IsLinkedIfPassed w') (sym same) linked
      | inr ne ↦ linked_on a rely q (λ public. others a ne ∙ public)
          (record { shown = subst IsShown (others a ne) h.shown; is_of = sym (stores.types a) ∙ h.is_of })
    ])

pub rely_founding : {j : ℕ} {w w' : World} → global_at w.n 0 ≡ Null → Relies Final 0 j w w' → Rely j w w'
rely_founding none rely = record { stays = rely; head = λ e is. absurd (not_null e 1 _ is none) }

-- Global 0 points to no other ends.
pub rely_at : {j e : ℕ} {w w' : World} → global_at w.n 0 ≡ Ptr e 1 0 → Relies Final 0 j w w' → GoesOn w w' e
    → Rely j w w'
rely_at {e = e} {w = w} {w'} global rely head =
    record { stays = rely; head = λ f is. subst (GoesOn w w') (let same : e ≡ f = cc (global, is) in same) head }

-- The tail is exchanged for another node.
pub tail_moved : {k : ℕ} {w w' : World} {x : List ℕ} {v : Value} (root : HasRoot w k 0 1) → Shared w x
    → Stores root.t 1 v w.n w'.n → ((a : ℕ) → w'.role a ≡ w.role a) → PointsTo w 0 v
    → (w.role root.t ≡ Public) × Shared w' x × Rely k w w'
tail_moved root shared stores same to =
    let q = of_root root shared in
    let public = q.row.root.role in
    let rely = relies_stored stores (onward_same same) (λ h final. not_root q.row _ h.is_of refl) in (
      public,
      founded_still root (stores.globals 0) (queue_stored stores (λ a ne. same a) rely q
          (row_beside stores (λ e. omega arith) same q.row) (points_stay rely stores.here to)
          (inl (same root.t ∙ public))),
      rely_at root.global rely (λ a was. inl (stores.beside 0 (λ e. omega arith) ∙ was)),
    )

-- All that callers know stays, and so does the queue.
pub covered : {w w' : World} (x : List ℕ) (j : ℕ) → Covers w w' → Shared w x → Shared w' x × Rely j w w'
covered {w} {w'} x j covers shared =
    let rely : Relies Final 0 j w w' = relies_covered covers in
    let word : (e i : ℕ) → IsPart w 1 e → word_at w'.n e i ≡ word_at w.n e i =
    λ e i h. word_of w.n w'.n e i (covers.words e (subst IsShown (sym h.role) tt)) in (
      shared_covered covers (λ e q. is_queue (row_covered covers q.row) (points_stay rely (word e 1 q.row.root) q.tail)
          (λ a h. let was = covers.shown a h.shown in
          linked_on a rely q (covers.still a) (record { shown = was; is_of = sym (covers.types a was) ∙ h.is_of })))
          shared,
      elim shared [
        | inl none ↦ rely_founding none.global rely
        | inr q ↦ rely_at q.global rely (λ a was. inl (word q.t 0 q.is.row.root ∙ was))
      ],
    )
