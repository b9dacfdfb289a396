-- A state stays typed under admitted operations.
use Rattle.std.proofs.Common.{IfSome, List, ℕ, ap, arith, false, inl, length, length-append, length-set, refl, set}
use Rattle.std.proofs.{Common.{slice_get, subst, sym, [], ◌*◌, ◌+◌, ◌<◌, ◌∙◌}, lemmas.List.{get_or_at, length-map}}
use Rattle.mk_never.proofs.{Edits.{exists, if_by, push_by, set_by}, Later.{freed_stays, global_stays, new_stays}}
use Rattle.mk_never.proofs.{Later.{register_stays, word_stays}, Soundness.{allocation_kept, sound_kept, zero_suits}}
use Rattle.mk_never.specs.NeverHeap.{Allocation, NeverState, after_free, allocation_at, left_at, no_allocation}
use Rattle.mk_never.specs.NeverHeap.{target_of, with_global, with_new, with_register, with_word, words_of}
use Rattle.mk_never.specs.Admitted.{IsSound, IsTyped, IsTypedAllocation, Suits, kind_in}
use Rattle.mk_never.specs.{declared.values.Value.TheVariants.{Null, Num, Ptr}, Admitted.{IsOfKind, Meets}}
use Rattle.mk_never.specs.{Laws.Continues, Types.{kinds_of, zero_words}, declared.types.Kind.Kind}
use Rattle.mk_never.specs.declared.{types.Kind.TheVariants.To, values.Value.Value}

module _ {listed : List ℕ} {n : NeverState} (typed : IsTyped listed n) where
  pub typed_register : (c d : ℕ) (v : Value) → IsSound n v → IsTyped listed (with_register n c d v)
  typed_register c d v sound =
      let stays = register_stays n c d v in
      record {
        allocations = λ number h. allocation_kept stays (typed.allocations number h);
        registers = λ k. sound_kept stays _
            (set_by (λ x. IsSound n x) n.registers (8 * c + d) k v Null (λ e. sound) (typed.registers k));
        globals = λ g. sound_kept stays _ (typed.globals g);
        listed = typed.listed;
      }

  pub typed_global : (g : ℕ) (v : Value) → IsSound n v → IfSome (slice_get listed g) (λ ty. IsOfKind v (To ty 0))
      → IsTyped listed (with_global n g v)
  typed_global g v sound of_kind =
      let stays = global_stays n g v in
      record {
        allocations = λ number h. allocation_kept stays (typed.allocations number h);
        registers = λ k. sound_kept stays _ (typed.registers k);
        globals = λ k. sound_kept stays _
            (set_by (λ x. IsSound n x) n.globals g k v Null (λ e. sound) (typed.globals k));
        listed = λ k. set_by (λ x. IfSome (slice_get listed k) (λ ty. IsOfKind x (To ty 0))) n.globals g k v Null
            (λ e. subst (λ j. IfSome (slice_get listed j) (λ ty. IsOfKind v (To ty 0))) (sym e) of_kind)
            (typed.listed k);
      }

  -- an allocation becomes another that is typed
  typed_edit : (number : ℕ) {new : Allocation} → Continues n (record n { allocations = set n.allocations number new })
      → IsTypedAllocation n new → IsTyped listed (record n { allocations = set n.allocations number new })
  typed_edit number {new = new} stays new_typed = record {
    allocations = λ k h.
        let there : k < length n.allocations = omega (arith, length-set n.allocations number new) in
        allocation_kept stays (set_by (λ a. IsTypedAllocation n a) n.allocations number k new no_allocation
        (λ e. new_typed) (typed.allocations k there));
    registers = λ k. sound_kept stays _ (typed.registers k);
    globals = λ g. sound_kept stays _ (typed.globals g);
    listed = typed.listed;
  }

  pub typed_word : (number place : ℕ) (v : Value) → number < length n.allocations
      → Suits n v (kind_in n (allocation_at n number) place) → IsTyped listed (with_word n number place v)
  typed_word number place v there suits =
      let before = typed.allocations number there in
      typed_edit number (word_stays n number place v)
      record {
        ty = before.ty;
        size = length-set (words_of n number) place v ∙ before.size;
        words = λ k h. set_by (λ x. Suits n x (kind_in n (allocation_at n number) k)) (words_of n number) place k v Null
            (λ e. subst (λ j. Suits n v (kind_in n (allocation_at n number) j)) (sym e) suits)
            (before.words k (omega (arith, length-set (words_of n number) place v)));
      }

  pub typed_new : (ty : ℕ) → ty < length n.types → IsTyped listed (with_new n ty)
  typed_new ty in_range =
      let stays = new_stays n ty in
      let new : Allocation = record { ty = ty; words = zero_words (kinds_of n.types ty); freed = false } in
      let new_typed : IsTypedAllocation n new =
      record { ty = in_range; size = length-map _ _; words = zero_suits n (kinds_of n.types ty) } in
      record {
        allocations = λ k h. allocation_kept stays
            (push_by (λ a. IsTypedAllocation n a) n.allocations new no_allocation k h new_typed (typed.allocations k));
        registers = λ k. sound_kept stays _ (typed.registers k);
        globals = λ g. sound_kept stays _ (typed.globals g);
        listed = typed.listed;
      }

  pub typed_free : (v : Value) → IsSound n v → IsTyped listed (after_free n v)
  typed_free Null sound = typed
  typed_free (Num m) sound = typed
  typed_free (Ptr number ty offset) sound = grind (arith, typed_edit, freed_stays)

  -- an access leaves a typed state if it does so at the word that it reaches
  pub typed_access : (v : Value) (i : ℕ) (Q : Kind → Type 0) {refused : NeverState} (at : ℕ → ℕ → NeverState)
      → Meets n v i Q → IsTyped listed refused → ((number place : ℕ) → number < length n.allocations
      → place < length (words_of n number) → Q (kind_in n (allocation_at n number) place)
      → IsTyped listed (at number place)) → IsTyped listed (left_at (target_of n v i) refused at)
  typed_access x0 i x2 at meets kept reached = grind (arith, if_by, exists)

-- the pointer that a New gives
pub new_is_sound : (n : NeverState) (ty : ℕ) → IsSound (with_new n ty) (Ptr (length n.allocations) ty 0)
new_is_sound n ty = (
  simp length-append (omega arith),
  sym (ap (λ a. a.ty) (get_or_at n.allocations _ [] no_allocation (length n.allocations) refl)),
  inl refl,
)
