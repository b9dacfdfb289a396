-- What a well-typed line asks for is admitted, and leaves its script's registers as declared.
use Rattle.mk_check.proofs.Vocabulary.{Answer, At, Bool, Fed, HasFew, IfSome, IsOfKind, Item, Kind, List, NeverState}
use Rattle.mk_check.proofs.Vocabulary.{Op, Option, Some, Value, ℕ, arith, base_of, false, flagged, global_names}
use Rattle.mk_check.proofs.Vocabulary.{global_type, globals_of, kind_of, length, moved_by, number_of_name, op_of}
use Rattle.mk_check.proofs.Vocabulary.{pointer_at, pointer_names, refl, scope_of, slice_get, subst, sym, type_names}
use Rattle.mk_check.proofs.{Vocabulary.{◌<◌, ◌≡◌}, DeclaredPlaces.{global_place, global_within, pointer_within}}
use Rattle.mk_check.proofs.{DeclaredPlaces.type_place, DeclaredRegisters.{AreAsDeclared, FitsScript, global_word}}
use Rattle.mk_check.proofs.DeclaredRegisters.{kind_at, loaded_word, meets_before, meets_weaker, moved_word, register_of}
use Rattle.mk_check.proofs.{DeclaredRegisters.set_register, TypedLines.{PointsBefore, PointsBeforeOne, PointsToGlobal}}
use Rattle.mk_check.proofs.TypedLines.{Says}
use Rattle.mk_never.proofs.Edits.{if_by, left_at_by}
use Rattle.mk_never.specs.Admitted.{AccessIsAdmitted, IsAdmitted, IsBase, IsNumber, IsPointer, Meets}
use Rattle.mk_never.specs.{Admitted.{OperandsAreInRange, StoreIsAdmitted}, NeverHeap.{after_op, target_of, with_new}}
use Rattle.mk_never.specs.{NeverHeap.{with_register, word_at}, declared.values.Value.TheVariants.Null}
use Rattle.mk_script.specs.declared.items.Item.TheVariants.{Casp, Clear, Free, Getn, Getp, Isnull, Lea, Loadg, Move}
use Rattle.mk_script.specs.declared.items.Item.TheVariants.{New, Same, Setn, Setp, Show, Storeg}
use Rattle.mk_script.specs.declared.items.TypeWord.TheVariants.{Number, Pointer}
use Rattle.mk_never.specs.declared.types.Kind.TheVariants.{Num as NumKind, To}

-- what holds of a New, full or not, holds of it as it is noted
flagged_new : (Q : Op → Type 0) (d ty : ℕ) → ((full : Bool) → Q (Op.New d ty full)) → (a : Answer)
    → Q (flagged (Op.New d ty false) a)
flagged_new x0 d ty holds a = grind arith

-- null or a pointer to a first word is a whole allocation
bases : (program : List Item) (v : Value) (at : At) → at.offset ≡ 0 → IsOfKind v (kind_at program at) → IsBase v
bases program x1 at base of_kind = grind arith

-- both hold of one word
meets_both : (n : NeverState) (v : Value) (i : ℕ) (P Q : Kind → Type 0) → Meets n v i P → Meets n v i Q
    → Meets n v i (λ kind. P kind × Q kind)
meets_both n x1 i x3 x4 first second = grind arith

module _ {program script : List Item} (few : HasFew (scope_of program script)) {n : NeverState} {caller : ℕ}
    (fits : FitsScript program script n caller) where
  pointers : (name : List ℕ) (at : At) → pointer_at name script ≡ Some at
      → number_of_name name (pointer_names script) < 8
  pointers name at is = let within = pointer_within name script at is in let most = few.pointers in omega arith

  globals : (name ty : List ℕ) → global_type name program ≡ Some ty
      → number_of_name name (global_names program) < length n.globals
  globals name ty is = grind (arith, global_within)

  -- Accesses.

  abbrev Admits : Op → Type 0
  Admits o = IsAdmitted (globals_of program) n caller o

  number_access : {pointer : List ℕ} {i : ℕ} → PointsBefore program script pointer i Number
      → Meets n (register_of script n caller pointer) i IsNumber
  number_access {pointer} {i} s =
      meets_weaker n (register_of script n caller pointer) i (λ kind. kind ≡ NumKind) IsNumber
      (λ kind e. subst IsNumber (sym e) refl) (meets_before fits Number s)

  pointer_access : {pointer : List ℕ} {i : ℕ} {register : List ℕ} → PointsBeforeOne program script pointer i register
      → Meets n (register_of script n caller pointer) i IsPointer
  pointer_access {pointer} {i} s =
      meets_weaker n (register_of script n caller pointer) i (λ kind. kind ≡ kind_at program s.at) IsPointer (λ kind e.
      subst IsPointer (sym e) refl) (meets_before fits _ s.word)

  store_access : {pointer : List ℕ} {i : ℕ} {register : List ℕ} → PointsBeforeOne program script pointer i register
      → Meets n (register_of script n caller pointer) i (IsOfKind (register_of script n caller register))
  store_access {pointer} {i} {register} s =
      meets_weaker n (register_of script n caller pointer) i (λ kind. kind ≡ kind_at program s.at) (IsOfKind
      (register_of script n caller register)) (λ kind e. subst (IsOfKind (register_of script n caller register)) (sym e)
      (fits.declared register s.at s.declared)) (meets_before fits _ s.word)

  global_store : {stored global : List ℕ} → (s : PointsToGlobal program script stored global)
      → IfSome (slice_get (globals_of program) (number_of_name global (global_names program)))
      (λ ty. IsOfKind (register_of script n caller stored) (To ty 0))
  global_store {stored} {global} s =
      subst (λ (o : Option ℕ). IfSome o (λ ty. IsOfKind (register_of script n caller stored) (To ty 0))) (sym
      (global_place (type_names program) global program s.ty s.is)) (fits.declared stored _ s.declared)

  admits : {o : Op} → OperandsAreInRange n o → AccessIsAdmitted n caller o
      → StoreIsAdmitted (globals_of program) n caller o → Admits o
  admits range access store = grind arith

  -- What a typed line asks for is admitted, also as it is noted.
  pub admitted : (fed : Fed) (item : Item) → Says program script item
      → IfSome (op_of (scope_of program script) fed item) (λ o. (a : Answer) → Admits (flagged o a))
  admitted fed (New pointer ty) s =
      flagged_new Admits _ _ (λ full. admits (
        pointers pointer _ s.declared,
        subst (λ (ts : List (List Kind)). number_of_name ty (type_names program) < length ts)
            (sym fits.types) (type_place (type_names program) ty program s.words s.is).0,
      ) tt tt)
  admitted fed (Free pointer) s =
      λ a. admits (pointers pointer s.at s.declared) tt
      (bases program (register_of script n caller pointer) s.at s.base (fits.declared pointer s.at s.declared))
  admitted fed (Getn number pointer index) s = λ a. admits (pointers pointer s.at s.declared) (number_access s) tt
  admitted fed (Setn pointer index number) s = λ a. admits (pointers pointer s.at s.declared) (number_access s) tt
  admitted fed (Getp loaded pointer index) s =
      λ a. admits (pointers loaded s.at s.declared, pointers pointer s.word.at s.word.declared) (pointer_access s) tt
  admitted fed (Setp pointer index stored) s =
      λ a. admits (pointers pointer s.word.at s.word.declared, pointers stored s.at s.declared)
      (pointer_access s) (store_access s)
  admitted fed (Casp number pointer index expected stored) s =
      λ a. admits (
        pointers pointer s.0.word.at s.0.word.declared,
        pointers expected s.0.at s.0.declared,
        pointers stored s.1.at s.1.declared,
      ) (pointer_access s.0)
      (meets_both n (register_of script n caller pointer) index _ _ (store_access s.0) (store_access s.1))
  admitted fed (Lea moved pointer index) s =
      λ a. admits (pointers moved _ s.declared, pointers pointer s.before.at s.before.declared)
      (meets_weaker n (register_of script n caller pointer) index (λ kind. kind ≡ kind_of (type_names program) s.word)
      (λ kind. Unit {0}) (λ kind e. tt) (meets_before fits s.word s.before)) tt
  admitted fed (Move copied pointer) s =
      λ a. admits (pointers copied s.at s.first_is, pointers pointer s.at s.second_is) tt tt
  admitted fed (Clear pointer) s = λ a. admits (pointers pointer s.at s.declared) tt tt
  admitted fed (Loadg loaded global) s = λ a. admits (pointers loaded _ s.declared, globals global s.ty s.is) tt tt
  admitted fed (Storeg stored global) s =
      λ a. admits (globals global s.ty s.is, pointers stored _ s.declared) tt (global_store s)
  admitted fed (Same number first second) s =
      λ a. admits (pointers first s.0.at s.0.declared, pointers second s.1.at s.1.declared) tt tt
  admitted fed (Isnull number pointer) s = λ a. admits (pointers pointer s.at s.declared) tt tt
  admitted fed (Show pointer) s = λ a. admits (pointers pointer s.at s.declared) tt tt
  admitted fed item s = tt

  -- Registers.

  abbrev Keeps : NeverState → Type 0
  Keeps m = AreAsDeclared program script m caller

  sets : (name : List ℕ) (at : At) (v : Value) → pointer_at name script ≡ Some at → IsOfKind v (kind_at program at)
      → Keeps (with_register n caller (number_of_name name (pointer_names script)) v)
  sets name at v is of_kind = set_register program script n caller name at v fits.declared is of_kind

  load_keeps : {loaded pointer : List ℕ} {i : ℕ} → PointsBeforeOne program script pointer i loaded
      → Keeps (after_op n caller
      (Op.GetPtr (number_of_name loaded (pointer_names script)) (number_of_name pointer (pointer_names script)) i))
  load_keeps {loaded} {pointer} {i} s =
      left_at_by Keeps (target_of n (register_of script n caller pointer) i) _ _ (sets loaded s.at Null s.declared tt)
      (λ number place e. sets loaded s.at (word_at n number place) s.declared (loaded_word program
      (register_of script n caller pointer) i s.at number place fits.typed (meets_before fits (Pointer s.at) s.word) e))

  -- A typed line leaves the registers as declared.
  pub line_keeps : (fed : Fed) (item : Item) → Says program script item
      → IfSome (op_of (scope_of program script) fed item) (λ o. (a : Answer) → Keeps (after_op n caller (flagged o a)))
  line_keeps fed (New pointer ty) s = flagged_new (λ o. Keeps (after_op n caller o)) _ _
      (λ full. if_by Keeps full _ _ (λ e. fits.declared) (λ e. set_register program script (with_new n
      (number_of_name ty (type_names program))) caller pointer (base_of ty) _ fits.declared s.declared (refl, refl)))
  line_keeps fed (Free pointer) s = λ a. grind arith
  line_keeps fed (Getn number pointer index) s = λ a. fits.declared
  line_keeps fed (Setn pointer index number) s = grind (arith, left_at_by, register_of)
  line_keeps fed (Getp loaded pointer index) s = λ a. load_keeps s
  line_keeps fed (Setp pointer index stored) s = grind (arith, left_at_by, register_of)
  line_keeps fed (Casp number pointer index expected stored) s = grind (arith, left_at_by, register_of, if_by)
  line_keeps fed (Lea moved pointer index) s = λ a. sets moved (moved_by index s.before.at) _ s.declared
      (moved_word program (register_of script n caller pointer) index s.before.at
      (fits.declared pointer s.before.at s.before.declared))
  line_keeps fed (Move copied pointer) s = λ a. sets copied s.at _ s.first_is (fits.declared pointer s.at s.second_is)
  line_keeps fed (Clear pointer) s = λ a. sets pointer s.at Null s.declared tt
  line_keeps fed (Loadg loaded global) s =
      λ a. sets loaded (base_of s.ty) _ s.declared (global_word program global s.ty fits.typed s.is)
  line_keeps fed (Storeg stored global) s = λ a. fits.declared
  line_keeps fed (Same number first second) s = λ a. fits.declared
  line_keeps fed (Isnull number pointer) s = λ a. fits.declared
  line_keeps fed (Show pointer) s = λ a. fits.declared
  line_keeps fed item s = tt
