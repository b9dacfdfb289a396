-- A New's allocation is after all that were there before.
use Rattle.std.proofs.Common.{List, ℕ, arith, get_or-set_same, length, length-append, refl, [], ◌*◌, ◌+◌, ◌<◌, ◌≤◌}
use Rattle.std.proofs.lemmas.List.{get_or_at}
use Rattle.mk_never.{proofs.Later.{calls_stay}, specs.NeverHeap.{Call, NeverState, after_calls}}
use Rattle.mk_never.specs.{declared.values.Value.TheVariants.{Null, Ptr}, Laws.{Continues, NewAdds}}

pub new_adds : (n : NeverState) (caller d ty : ℕ) → NewAdds n caller d ty
new_adds n caller d ty is_caller in_range =
    let here : 8 * caller + d < length n.registers = omega arith in
    record {
      count = length-append _ _;
      made = get_or_at n.allocations _ [] _ (length n.allocations) refl;
      register = get_or-set_same n.registers (8 * caller + d) (Ptr (length n.allocations) ty 0) Null here;
    }

-- so a number that was given before any calls is not given after them
pub count_never_falls : (n : NeverState) (calls : List Call)
    → length n.allocations ≤ length (after_calls n calls).allocations
count_never_falls n calls = let stays : Continues n (after_calls n calls) = calls_stay n calls in stays.count
