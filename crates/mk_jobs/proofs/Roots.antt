-- Objects with a root, to which global 0 points once it is placed: how they are founded, and how jobs begin.
use Rattle.mk_heap.proofs.Below.Laws.Vocabulary.{Kind, List, None, Null, Op, Option, Ptr, Some, allocation_at, ap}
use Rattle.mk_heap.proofs.Below.Laws.Vocabulary.{arith, cases_eq}
use Rattle.mk_heap.proofs.Below.Laws.Vocabulary.{kinds_of, length, suc, zero, [], ◌∷◌, ◌≤◌, global_at, inl, inr, refl}
use Rattle.mk_heap.proofs.Below.Laws.Vocabulary.{register_at}
use Rattle.mk_heap.proofs.Below.Laws.Vocabulary.{subst, sym, ℕ, ◌∙◌, ◌≡◌, ◌≢◌, ◌⊎◌}
use Rattle.mk_never.specs.{NeverHeap.{reply_of, start_of}, declared.operations.Reply.Reply}
use Rattle.mk_jobs.specs.Keeping.{Covers, Gone, IsShown, IsThere, Moves, Public, Role, Unborn, World, after}
use Rattle.mk_jobs.{specs.{Jobs.node_kinds, Typing.Plan}, proofs.Having.{IsShownOf, not_null}}
use Rattle.mk_jobs.proofs.Clients.{Client, by_load_global, by_null, decides_so, undecided, was_decided, when_null}
use Rattle.mk_jobs.proofs.{Clients.when_some, Heaps.Frees, Puts.{Puts, PutsTwo}, Having.{HasRoot, IsFounder, IsPassed}}

-- There is no root yet, and no object of type ty is known.
pub record IsUnfounded {State : Type 0} (ty : ℕ) (first : State) (w : World) (x : State) : Type 0 where
  pub global : global_at w.n 0 ≡ Null
  pub none_left : x ≡ first
  pub none_shared : (a : ℕ) → w.role a ≢ Public
  pub none_known : (a : ℕ) → IsShownOf w ty a → ⊥

-- The root t is of type rty, and this holds of it.
pub record IsFounded {State : Type 0} (rty : ℕ) (Is : World → ℕ → State → Type 0) (w : World) (x : State)
    : Type 0 where
  pub t : ℕ
  pub global : global_at w.n 0 ≡ Ptr t rty 0
  pub is : Is w t x

abbrev pub IsShared : {State : Type 0} → ℕ → ℕ → State → (World → ℕ → State → Type 0) → World → State → Type 0
IsShared rty ty first Is w x = IsUnfounded ty first w x ⊎ IsFounded rty Is w x

-- Objects of both types are small, if the root is.
pub small_linked : (root : List Kind) → length root ≤ 32 → (ty : ℕ)
    → length (kinds_of (node_kinds ∷ root ∷ []) ty) ≤ 32
small_linked root small zero = omega arith
small_linked root small (suc zero) = small
small_linked root small (suc (suc ty)) = omega arith

-- A job has found no root, and is decided so, or has the root in register 0.
abbrev pub IsChecked : {Done : Type 0} → ℕ → World → ℕ → Done → Option Done → Type 0
IsChecked rty w k d u = ((register_at w.n k 0 ≡ Null) × (u ≡ Some d)) ⊎ ((u ≡ None) × HasRoot w k 0 rty)

module _ {State : Type 0} {ty : ℕ} {first : State} where
  -- The root is the first that is shared,
  pub shared_one : {w : World} {x : State} {f : ℕ → Role} {b : ℕ} → IsUnfounded ty first w x
      → Puts b Public w.role f → (a : ℕ) → f a ≡ Public → a ≡ b
  shared_one {b = b} none puts a e = elim (cases_eq a b) [
    | inl same ↦ same
    | inr ne ↦ absurd (none.none_shared a (sym (puts.others a ne) ∙ e))
  ]

  -- or it and another are.
  pub shared_two : {w : World} {x : State} {f : ℕ → Role} {b c : ℕ} → IsUnfounded ty first w x
      → PutsTwo b c w.role f → (a : ℕ) → f a ≡ Public → (a ≡ b) ⊎ (a ≡ c)
  shared_two {b = b} {c = c} none puts a e = elim (cases_eq a b) [
    | inl same ↦ inl same
    | inr ne ↦ elim (cases_eq a c) [
      | inl same ↦ inr same
      | inr ne' ↦ absurd (none.none_shared a (sym (puts.others a ne ne') ∙ e))
    ]
  ]

  -- Nothing was taken out.
  pub none_passed : {w : World} {x : State} {f : ℕ → Role} {b c : ℕ} → IsUnfounded ty first w x
      → PutsTwo b c w.role f → (a : ℕ) → (allocation_at w.n a).ty ≡ ty → IsPassed (f a) → ⊥
  none_passed {f = f} {b = b} {c = c} none puts a is_of h = elim (cases_eq a b) [
    | inl same ↦ h.1 (ap f same ∙ puts.first)
    | inr ne ↦ elim (cases_eq a c) [
      | inl same ↦ h.1 (ap f same ∙ puts.second)
      | inr ne' ↦ none.none_known a (record { shown = subst IsShown (puts.others a ne ne') h.0; is_of = is_of })
    ]
  ]

  -- An object of another type is freed before anyone knows it.
  pub dropped : {w w' : World} {x : State} {b : ℕ} → IsUnfounded ty first w x → (allocation_at w.n b).ty ≢ ty
      → Frees w.n w'.n → Puts b Gone w.role w'.role → IsUnfounded ty first w' x
  dropped {w} {w'} {b = b} none other frees puts = record {
    global = frees.globals 0 ∙ none.global;
    none_left = none.none_left;
    none_shared = λ a e. elim (cases_eq a b) [
      | inl same ↦ (let y : Gone ≡ Public = sym puts.here ∙ sym (ap w'.role same) ∙ e in cc y)
      | inr ne ↦ none.none_shared a (sym (puts.others a ne) ∙ e)
    ];
    none_known = λ a h. elim (cases_eq a b) [
      | inl same ↦ other (ap (λ (y : ℕ). (allocation_at w.n y).ty) (sym same) ∙ sym (frees.types a) ∙ h.is_of)
      | inr ne ↦ none.none_known a (record {
        shown = subst IsShown (puts.others a ne) h.shown;
        is_of = sym (frees.types a) ∙ h.is_of;
      })
    ];
  }

module _ {State : Type 0} {rty ty : ℕ} {first : State} {Is : World → ℕ → State → Type 0} where
  pub unshared : (types : List (List Kind)) (callers : ℕ)
      → IsShared rty ty first Is (record { n = start_of types callers; role = λ a. Unborn }) first
  unshared types callers = inl (record {
    global = refl;
    none_left = refl;
    none_shared = λ a e. cc e;
    none_known = λ a h. h.shown;
  })

  pub placed : {w : World} {x : State} (t : ℕ) → global_at w.n 0 ≡ Ptr t rty 0 → Is w t x
      → IsShared rty ty first Is w x
  placed t global is = inr (record { t = t; global = global; is = is })

  -- What holds of the root in a register
  pub of_root : {w : World} {k r : ℕ} {x : State} (h : HasRoot w k r rty) → IsShared rty ty first Is w x → Is w h.t x
  of_root h (inl none) = absurd (not_null h.t rty _ h.global none.global)
  of_root {w} {x = x} h (inr q) =
      let same : q.t ≡ h.t = (let e : Ptr q.t rty 0 ≡ Ptr h.t rty 0 = sym q.global ∙ h.global in cc e) in
      subst (λ (t : ℕ). Is w t x) same q.is

  pub unfounded : {Done : Type 0} {w : World} {k : ℕ} {u : Option Done} {x : State} → IsFounder w k u
      → IsShared rty ty first Is w x → IsUnfounded ty first w x
  unfounded h (inl none) = none
  unfounded h (inr q) = absurd (not_null q.t rty _ q.global h.none)

  -- The global stays.
  pub founded_still : {w w' : World} {k r : ℕ} {x : State} (h : HasRoot w k r rty)
      → global_at w'.n 0 ≡ global_at w.n 0 → Is w' h.t x → IsShared rty ty first Is w' x
  founded_still h same is = inr (record { t = h.t; global = same ∙ h.global; is = is })

  -- What all callers may know stays.
  pub shared_covered : {w w' : World} {x : State} → Covers w w' → ((t : ℕ) → Is w t x → Is w' t x)
      → IsShared rty ty first Is w x → IsShared rty ty first Is w' x
  shared_covered covers stays (inl none) = inl (record {
    global = covers.globals 0 ∙ none.global;
    none_left = none.none_left;
    none_shared = λ a e. none.none_shared a (covers.public a e);
    none_known = λ a h.
        let was = covers.shown a h.shown in
        none.none_known a (record { shown = was; is_of = sym (covers.types a was) ∙ h.is_of });
  })
  shared_covered covers stays (inr q) =
      inr (record { t = q.t; global = covers.globals 0 ∙ q.global; is = stays q.t q.is })

  module _ {Job Done Point : Type 0} {p : Plan Job Done Point} {left_by : State → Job → Done → Option State}
      (c : Client p left_by) {u : Option Done} {callers : ℕ} {w : World} {k : ℕ} {s : Point} {x : State}
      (there : IsThere p left_by callers w k s) (shared : c.Shared w x) where
    -- A job loads the root from the global.
    pub by_starting : {o : Op} {t to : Point} {j : Job} (d : Done) → (o ≡ Op.GetGlobal 0 0) × (t ≡ to)
        → ((a : ℕ) → (after p left_by w k (Op.GetGlobal 0 0) s to).role a ≡ w.role a) → u ≡ None
        → c.job_at s ≡ Some j → c.job_at to ≡ c.job_at s → left_by first j d ≡ Some first
        → ((u' : Option Done) → IsChecked rty (after p left_by w k (Op.GetGlobal 0 0) s to) k d u'
        → c.Local (after p left_by w k (Op.GetGlobal 0 0) s to) k to u') → IsShared rty ty first Is w x
        → Moves p left_by c.Rely c.Shared c.Local c.job_at k s u x w o t
    by_starting {j = j} d asks same undone job same_job none_left local (inl none) =
        by_load_global c u there shared asks refl same (decides_so c d undone job
        (subst (λ (y : State). left_by y j d ≡ Some y) (sym none.none_left) none_left))
        (λ set rely alone. local (Some d) (inl (set.here ∙ none.global, refl)))
    by_starting d asks same undone job same_job none_left local (inr q) =
        by_load_global c u there shared asks refl same (undecided c same_job) (λ set rely alone.
        local u (inr (
          undone,
          record { t = q.t; global = set.globals 0 ∙ q.global; register = set.here ∙ q.global },
        )))

module _ {Job Done Point State : Type 0} {p : Plan Job Done Point} {left_by : State → Job → Done → Option State}
    (c : Client p left_by) {rty : ℕ} {u : Option Done} {callers : ℕ} {w : World} {k : ℕ} {s : Point} {x : State}
    (there : IsThere p left_by callers w k s) (shared : c.Shared w x) where
  -- It is null, which ends the job, or it isn't.
  pub by_checking : {o : Op} {t none some : Point} {d : Done} → (o ≡ Op.IsNull 0)
      × (((reply_of w.n k o ≡ Reply.Num 1) × (t ≡ none)) ⊎ ((reply_of w.n k o ≡ Reply.Num 1 → ⊥) × (t ≡ some)))
      → ((a : ℕ) → (after p left_by w k (Op.IsNull 0) s none).role a ≡ w.role a)
      → ((a : ℕ) → (after p left_by w k (Op.IsNull 0) s some).role a ≡ w.role a) → IsChecked rty w k d u
      → c.job_at some ≡ c.job_at s
      → (u ≡ Some d → c.Local (after p left_by w k (Op.IsNull 0) s none) k none u)
      → ((u ≡ None) × HasRoot (after p left_by w k (Op.IsNull 0) s some) k 0 rty
      → c.Local (after p left_by w k (Op.IsNull 0) s some) k some u)
      → Moves p left_by c.Rely c.Shared c.Local c.job_at k s u x w o t
  by_checking asks same same' h same_job ends goes_on =
      by_null c u there shared asks same same'
      (λ null. let e = when_null h (λ root. not_null root.t rty _ root.register) null in
      (was_decided c e, λ rely alone. ends e))
      (λ some. let found = when_some h some in (
        undecided c same_job,
        λ rely alone. goes_on (
          found.0,
          record { t = found.1.t; global = found.1.global; register = found.1.register },
        ),
      ))
