-- A caller's pass of a heap that nobody has used.
use Rattle.std.proofs.lemmas.List.{length-replicate}
use Rattle.mk_heap.proofs.Below.Laws.Vocabulary.{Caller, Config, Null, Op, arith, first_world, is_same, left, length}
use Rattle.mk_heap.proofs.Below.Laws.Vocabulary.{never_behind}
use Rattle.mk_heap.proofs.Below.Laws.Vocabulary.{refl, subst, sym, true, [], ◌*◌, ◌∷◌, ◌≡◌, ◌≤◌}
use Rattle.mk_heap.proofs.Below.Laws.OrderlyLists.{at_first}
use Rattle.mk_core.specs.History.{calls_from, left_from, never_first}
use Rattle.mk_heap.specs.Below.Callers.States.{Admits, IsIdleCaller, value_of}
use Rattle.mk_heap.specs.Below.Words.States.{PassState, WordsState}

none_left : (c : Config) → left c [] ≡ first_world c
unfolding left_from
none_left c = refl

none_called : (c : Config) → never_behind c [] ≡ never_first c
unfolding calls_from
none_called c = refl

-- the pass of the first caller
abbrev pub first_pass : WordsState → PassState
first_pass w = record { table = w; seat = Caller 0; seats = Caller 0 ∷ []; seen = [] }

null_at_first : (w : WordsState) → value_of (first_pass w) 0 ≡ Null
null_at_first w = cc (none_called w.config, at_first (8 * w.config.callers) 0 Null)

-- So it is of any pass that is equal to the first one.

pub idle : (p : PassState) (w : WordsState) → p ≡ first_pass w → IsIdleCaller p
idle p w is = grind (arith, none_left, at_first)

pub admits : (p : PassState) (w : WordsState) → p ≡ first_pass w → 1 ≤ w.config.callers → Admits p (Op.IsNull 0)
admits p w is some = subst (λ (x : PassState). Admits x (Op.IsNull 0)) (sym is) (
    let count : length (never_behind w.config []).registers ≡ 8 * w.config.callers =
    cc (none_called w.config, length-replicate (8 * w.config.callers) Null) in
    record { of_a_caller = omega arith; in_range = omega arith; access = tt; store = tt })

pub tells_null : (p : PassState) (w : WordsState) → p ≡ first_pass w → is_same (value_of p 0) Null ≡ true
tells_null p w is = cc (null_at_first w)

pub given : (h p : PassState) (w : WordsState) → h.table ≡ w → h.seen ≡ []
    → p ≡ record h { seat = Caller 0; seats = Caller 0 ∷ [] } → p ≡ first_pass w
given h p w table first is = cc
