-- Calls in two parts: what they leave, what they are replied, and when they are admitted.
use Rattle.std.proofs.Common.{List, ℕ, ap, refl, [], ◌++◌, ◌∷◌}
use Rattle.mk_never.specs.Laws.{AdmittedInParts, LeavesInParts, RepliesInParts}
use Rattle.mk_never.specs.NeverHeap.{Call, NeverState, after_calls, after_op, reply_of}
use Rattle.mk_never.specs.{Admitted.AreAdmitted, declared.operations.Reply.Reply}

pub after_append : (n : NeverState) (earlier later : List Call) → LeavesInParts n earlier later
after_append n [] later = refl
after_append n (x ∷ xs) later = after_append (after_op n x.caller x.op) xs later

pub replies_append : (n : NeverState) (earlier later : List Call) → RepliesInParts n earlier later
replies_append n [] later = refl
replies_append n (x ∷ xs) later = ap (λ (replies : List Reply). reply_of n x.caller x.op ∷ replies)
    (replies_append (after_op n x.caller x.op) xs later)

pub admitted_split : (globals : List ℕ) (n : NeverState) (earlier later : List Call) → AreAdmitted globals n
    (earlier ++ later) → AreAdmitted globals n earlier × AreAdmitted globals (after_calls n earlier) later
admitted_split globals n [] later admitted = (tt, admitted)
admitted_split globals n (x ∷ xs) later admitted =
    let rest = admitted_split globals (after_op n x.caller x.op) xs later admitted.1 in ((admitted.0, rest.0), rest.1)

pub admitted_join : (globals : List ℕ) (n : NeverState) (earlier later : List Call)
    → AreAdmitted globals n earlier × AreAdmitted globals (after_calls n earlier) later
    → AreAdmitted globals n (earlier ++ later)
admitted_join globals n [] later both = both.1
admitted_join globals n (x ∷ xs) later both =
    (both.0.0, admitted_join globals (after_op n x.caller x.op) xs later (both.0.1, both.1))

pub admitted_append : (globals : List ℕ) (n : NeverState) (earlier later : List Call)
    → AdmittedInParts globals n earlier later
admitted_append globals n earlier later =
    (admitted_split globals n earlier later, admitted_join globals n earlier later)

pub ruleset calls_in_two_parts_facts = (after_append, replies_append, admitted_append)
