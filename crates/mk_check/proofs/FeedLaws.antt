-- A script that is fed with one more answer.
use Rattle.std.proofs.Common.{IsNone, IsTrue, ◌↔◌}
use Rattle.mk_check.proofs.Vocabulary.{Answer, Blocks, Fed, FeedStandsFor, FeedState, IsWaiting, Item, Line, List, Op}
use Rattle.mk_check.proofs.Vocabulary.{Option, Scope, Some, ℕ, ap, arith, fed_before_answers, feed, first_op, flagged}
use Rattle.mk_check.proofs.Vocabulary.{is_some, next_op, note, op_of, refl, script_of, script_scope, take_answer}
use Rattle.mk_check.proofs.Vocabulary.{take_answers, true, with_answer, [], ◌++◌, ◌∙◌, ◌∷◌, ◌≡◌}
use Rattle.mk_check.{proofs.Numbered.ops-with_answer, proofs.Numbered.run_agrees, specs.Feed.has_ended}

pub take_answers_push : (scope : Scope) (fed : Fed) (answers : List Answer) (a : Answer) → take_answers scope fed
    (answers ++ a ∷ []) ≡ take_answer scope (take_answers scope fed answers) (take_answers scope fed answers).left a
take_answers_push scope fed [] a = refl
take_answers_push scope fed (b ∷ answers) a = take_answers_push scope (take_answer scope fed fed.left b) answers a

pub feed_push : (program : List Item) (k : ℕ) (answers : List Answer) (a : Answer) → feed program k (answers ++ a ∷ [])
    ≡ take_answer (script_scope program k) (feed program k answers) (feed program k answers).left a
feed_push program k answers a =
    take_answers_push (script_scope program k) (fed_before_answers (script_scope program k) (script_of program k))
    answers a

-- A script that has ended takes no answer.
pub feed_push-ended : (program : List Item) (k : ℕ) (answers : List Answer) (a : Answer)
    → has_ended (feed program k answers) ≡ true → feed program k (answers ++ a ∷ []) ≡ feed program k answers
feed_push-ended program k answers a h = feed_push program k answers a ∙ (grind arith)

ops_taken : (scope : Scope) (fed : Fed) (left : Blocks) (a : Answer) (o : Op) → first_op scope fed left ≡ Some o
    → (take_answer scope fed left a).ops ≡ fed.ops ++ flagged o a ∷ []
ops_taken scope fed (Line line item rest) a o h =
    (run_agrees scope rest (with_answer scope (note fed (op_of scope fed item) line a) item a)).answers
    ∙ (ops-with_answer scope (note fed (op_of scope fed item) line a) item a
    ∙ ap (λ (p : Option Op). (note fed p line a).ops) h)
ops_taken scope fed _ a o h = cc

-- The operation that is answered is noted after those before it.
pub ops-feed_push : (program : List Item) (k : ℕ) (answers : List Answer) (a : Answer) (o : Op)
    → next_op program k answers ≡ Some o
    → (feed program k (answers ++ a ∷ [])).ops ≡ (feed program k answers).ops ++ flagged o a ∷ []
ops-feed_push program k answers a o h =
    ap (λ (f : Fed). f.ops) (feed_push program k answers a)
    ∙ ops_taken (script_scope program k) (feed program k answers) (feed program k answers).left a o h

-- A feed that has an operation waits.
pub waits_for_op : (s : FeedState) (o : Option Op)
    → ((program : List Item) (k : ℕ) (answers : List Answer) → FeedStandsFor program k s answers
    → IsNone o ↔ IsTrue (has_ended (feed program k answers))) → is_some o ≡ true → IsWaiting s
waits_for_op s o none some = λ program k answers st. grind arith
