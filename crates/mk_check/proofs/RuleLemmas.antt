-- Faults that are looked for once.
use Rattle.mk_check.proofs.Vocabulary.{None, Option, Some, TypeKind, option_or, refl, ◌or◌, ◌≡◌}

-- a word that two pointers are compared with is looked for once
pub offset_once : (names offset first second : Option TypeKind)
    → names or option_or offset first or option_or offset second ≡ names or offset or first or second
offset_once None None first second = refl
offset_once None (Some fault) first second = refl
offset_once (Some fault) offset first second = refl
