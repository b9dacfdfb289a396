-- The New of a number, from its call.
use Rattle.std.proofs.Common.{ltb-false}
use Rattle.mk_heap.proofs.Below.Objects.Vocabulary.{CalledInTurn, PassState}
use Rattle.mk_clients.{proofs.OwnedCalls.{granted}, specs.Owned.{HasNumber}}
use Rattle.mk_heap.proofs.Below.Laws.Vocabulary.{Answer, Bool, IsHistory, Kind, List, Number, Op, ℕ, arith, false}
use Rattle.mk_heap.proofs.Below.Laws.Vocabulary.{get_or_past}
use Rattle.mk_heap.proofs.Below.Laws.Vocabulary.{kinds_of, length, ltb-true, [], ◌<◌, ◌∷◌, ◌≡◌}

-- The type of one number exists.
pub type_exists : (types : List (List Kind)) (ty : ℕ) → kinds_of types ty ≡ Number ∷ [] → ty < length types
type_exists types ty is = grind (arith, ltb-true, ltb-false, get_or_past)

-- Whoever's New is done owns its number then.
pub made_owns : {on : Bool} {p q : PassState} (d ty : ℕ) → CalledInTurn on p (Op.New d ty false) Answer.Done q
    → IsHistory q.table.config q.seen → kinds_of p.table.config.types ty ≡ Number ∷ [] → HasNumber q d 0
made_owns {p = p} d ty c h kinds =
    rw c.is (granted p d ty c.more (rw c.is at h) c.entry c.decided kinds)
