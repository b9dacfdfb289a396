-- A script that is fed stands for what the definition says.
use Rattle.mk_check.proofs.Vocabulary.{Answer, Blocks, Bool, Done, Fed, FeedStandsFor, FeedState, HasStopped}
use Rattle.mk_check.proofs.Vocabulary.{Instruction, IsAtStop, IsFeed, IsTree, IsWaiting, Item, KeptState, Line, List}
use Rattle.mk_check.proofs.Vocabulary.{Node, None, Op, Option, Place, PlaceIsWithin, Scope, ScriptText, Steps, Stopped}
use Rattle.mk_check.proofs.Vocabulary.{StopsAt, ℕ, after_answer, ap, append_assoc, arith, blocks_from, false}
use Rattle.mk_check.proofs.Vocabulary.{fed_before_lines, feed, first_op, instruction_of, is_end_of_block, is_some}
use Rattle.mk_check.proofs.Vocabulary.{kept_in, left_in, length, length_push, node_at, note, numbered, op_asked, op_in}
use Rattle.mk_check.proofs.Vocabulary.{op_of, op_of_node, refl, refusal_line, refusal_text, script_of, script_scope}
use Rattle.mk_check.proofs.Vocabulary.{steps_at, stop_of, stop_on_answer, stopped_in, sym, take_answer, then_steps}
use Rattle.mk_check.proofs.Vocabulary.{trees, true, with_answer, with_kept, with_text, [], ◌++◌, ◌+◌, ◌∙◌, ◌∷◌, ◌≡◌}
use Rattle.mk_check.proofs.Numbered.{kept_of, kept_of-with_answer, op_of-asked, ops-with_answer, run_agrees, stopped_of}
use Rattle.mk_check.proofs.{StepLaws.{behind_text, stop_of-text, stopped_behind_text}, FeedLaws.feed_push}
use Rattle.mk_check.{proofs.{Moves.{unfolded_done, unfolded_line}, TreeNodes.is_at}, specs.Feed.{has_ended}}
use Rattle.mk_check.specs.Steps as steps

-- blocks that begin with a line
pub record BeginsWith (scope : Scope) (left : Blocks) (line : ℕ) (instruction : Instruction)
    (rest : Steps) : Type 0 where
  pub item : Item
  pub more : Blocks
  pub is : left ≡ Line line item more
  pub named : instruction_of scope item ≡ instruction
  pub behind : numbered scope more ≡ rest

begins_with : (scope : Scope) (left : Blocks) (line : ℕ) (instruction : Instruction) (rest : Steps)
    → numbered scope left ≡ steps.Line line instruction rest → BeginsWith scope left line instruction rest
begins_with scope (Line l item more) line instruction rest e = grind arith
begins_with scope _ line instruction rest e = cc

no_more : (scope : Scope) (left : Blocks) → numbered scope left ≡ steps.Done → left ≡ Done
no_more scope Done e = refl
no_more scope _ e = cc

-- The operation that is asked for, and whether there is one.

pub record Tells (scope : Scope) (fed : Fed) (o : Option Op) : Type 0 where
  pub op : o ≡ first_op scope fed fed.left
  pub ended : is_some o ≡ false → has_ended fed ≡ true
  pub none : has_ended fed ≡ true → is_some o ≡ false

tells : (scope : Scope) (fed : Fed) (nodes : List Node) {p : Place} (n : Node) → IsTree nodes
    → PlaceIsWithin (length nodes) p → node_at nodes p.at ≡ n → StopsAt n p
    → left_in nodes p ≡ numbered scope fed.left → p.numbers ≡ fed.numbers → Tells scope fed (op_of_node p.numbers n)
tells scope fed nodes Node.Done tree w e stops left numbers = grind (arith, no_more, unfolded_done, is_at)
tells scope fed nodes {p = p} (Node.Line line instruction next) tree w e stops left numbers =
    let here = begins_with scope fed.left line instruction _ (sym left ∙ unfolded_line nodes (is_at tree w e)) in
    let op : op_asked p.numbers instruction ≡ first_op scope fed fed.left = grind (arith, op_of-asked) in
    let on : has_ended fed ≡ false = ap is_end_of_block here.is in
    record { op = op; ended = λ h. cc; none = λ h. cc }
tells scope fed nodes _ tree w e stops left numbers = absurd stops

pub op_of_others : (numbers : List ℕ) (n : Node) → ((line : ℕ) (instruction : Instruction) (next : ℕ)
    → n ≡ Node.Line line instruction next → ⊥) → op_of_node numbers n ≡ None
op_of_others numbers x1 h = grind arith

pub op_stands : {program : List Item} {k : ℕ} {s : FeedState} {answers : List Answer} → IsTree s.nodes → IsAtStop s
    → FeedStandsFor program k s answers → Tells (script_scope program k) (feed program k answers) (op_in s)
op_stands {program} {k} {s} {answers} tree stop st =
    tells (script_scope program k) (feed program k answers) s.nodes (node_at s.nodes s.place.at) tree
    stop.within refl stop.stops st.left st.numbers

-- A script that hasn't ended waits for the answer of an operation.
pub waits_for_answer : {s : FeedState} → IsTree s.nodes → IsFeed s → IsWaiting s → is_some (op_in s) ≡ true
waits_for_answer {s} tree h waiting = by_op (is_some (op_in s)) refl
  where
    by_op : (b : Bool) → is_some (op_in s) ≡ b → b ≡ true
    by_op true e = refl
    by_op false e =
        let t = op_stands tree h.stop h.some.stands in
        sym (waiting h.some.program h.some.k h.some.answers h.some.stands) ∙ t.ended e

-- A script that begins.

pub start_stands : (program : List Item) (k : ℕ) (s : FeedState) → stopped_in s.nodes s.place
    ≡ stop_of (numbered (script_scope program k) (blocks_from (script_of program k).line (script_of program k).items))
    (kept_of (fed_before_lines (script_scope program k) (script_of program k))) → FeedStandsFor program k s []
start_stands program k s e =
    let a = run_agrees (script_scope program k) (blocks_from (script_of program k).line (script_of program k).items)
    (fed_before_lines (script_scope program k) (script_of program k)) in
    let same : stopped_in s.nodes s.place ≡ stopped_of (script_scope program k) (feed program k []) = e ∙ sym a.stop in
    record {
      taken = ap (λ (os : List Op). length os) a.answers;
      left = ap (λ (t : Stopped). t.left) same;
      numbers = ap (λ (t : Stopped). t.kept.numbers) same;
      text = ap (λ (t : Stopped). t.kept.text) same;
    }

then_steps-done : (s : Steps) → then_steps s steps.Done ≡ s
then_steps-done steps.Done = refl
then_steps-done (steps.Line line instruction rest) = ap (steps.Line line instruction) (then_steps-done rest)
then_steps-done (steps.Rounds rounds body rest) = ap (steps.Rounds rounds body) (then_steps-done rest)
then_steps-done (steps.Choice number first second rest) = ap (steps.Choice number first second) (then_steps-done rest)

-- a script that ran from its first line
pub start_stops : (nodes : List Node) (scope : Scope) (script : ScriptText) (at : ℕ) (p q : Place)
    → steps_at (trees nodes) at ≡ numbered scope (blocks_from script.line script.items)
    → p ≡ record {
      at = at;
      frames = [];
      numbers = (fed_before_lines scope script).numbers;
      text =
          (fed_before_lines scope script).text;
    } → HasStopped nodes p q → stopped_in nodes q ≡ stop_of
    (numbered scope (blocks_from script.line script.items)) (kept_of (fed_before_lines scope script))
start_stops nodes scope script at p q tree begins stopped = grind (arith, then_steps-done)

-- One more answer.

record Notes (fed : Fed) (noted : Fed) (line : ℕ) (a : Answer) : Type 0 where
  kept : kept_of noted ≡ with_text (kept_of fed) (refusal_line line (refusal_text a))
  more : length noted.ops ≡ length fed.ops + 1

notes : (fed : Fed) (o : Option Op) (line : ℕ) (a : Answer) → is_some o ≡ true → Notes fed (note fed o line a) line a
notes fed x1 line a h = grind (arith, length_push)

record Answers (scope : Scope) (fed : Fed) (line : ℕ) (item : Item) (rest : Blocks) (a : Answer) : Type 0 where
  stop : stopped_of scope (take_answer scope fed (Line line item rest) a)
      ≡ stop_on_answer (numbered scope (Line line item rest)) a (kept_of fed)
  more : length (take_answer scope fed (Line line item rest) a).ops ≡ length fed.ops + 1

answer_agrees : (scope : Scope) (fed : Fed) (line : ℕ) (item : Item) (rest : Blocks) (a : Answer)
    → is_some (op_of scope fed item) ≡ true → Answers scope fed line item rest a
answer_agrees scope fed line item rest a h =
    let n = notes fed (op_of scope fed item) line a h in
    let noted_fed = note fed (op_of scope fed item) line a in
    let agrees = run_agrees scope rest (with_answer scope noted_fed item a) in
    record {
      stop = cc (agrees.stop, kept_of-with_answer scope noted_fed item a, n.kept);
      more = ap (λ (os : List Op). length os) (agrees.answers ∙ ops-with_answer scope noted_fed item a) ∙ n.more;
    }

answered_from : (program : List Item) (k : ℕ) (answers : List Answer) (a : Answer) (line : ℕ) (item : Item)
    (rest : Blocks) (s : FeedState)
    → (feed program k answers).left ≡ Line line item rest → length (feed program k answers).ops ≡ length answers
    → is_some (op_of (script_scope program k) (feed program k answers) item) ≡ true
    → stopped_in s.nodes s.place ≡ stop_on_answer (numbered (script_scope program k) (feed program k answers).left) a
    (kept_of (feed program k answers)) → FeedStandsFor program k s (answers ++ a ∷ [])
answered_from program k answers a line item rest s is taken some stop =
    let scope = script_scope program k in
    let fed = feed program k answers in
    let agrees = answer_agrees scope fed line item rest a some in
    grind (arith, feed_push, stopped_of, length_push, Line)

pub answer_stands : {program : List Item} {k : ℕ} {answers : List Answer} (a : Answer) {s : FeedState} (t : FeedState)
    (line : ℕ) (instruction : Instruction) (next : ℕ) → IsTree s.nodes → PlaceIsWithin (length s.nodes) s.place
    → node_at s.nodes s.place.at ≡ Node.Line line instruction next → is_some (op_asked s.place.numbers instruction)
    ≡ true → stopped_in t.nodes t.place ≡ stop_on_answer (left_in s.nodes s.place) a (kept_in s.place)
    → FeedStandsFor program k s answers → FeedStandsFor program k t (answers ++ a ∷ [])
answer_stands {program} {k} {answers} a {s = s} t line instruction next tree w e some stop st =
    let scope = script_scope program k in
    let fed = feed program k answers in
    let here = begins_with scope fed.left line instruction _ (sym st.left ∙ unfolded_line s.nodes (is_at tree w e)) in
    let op : op_of scope fed here.item ≡ op_asked s.place.numbers instruction =
    cc (op_of-asked scope fed here.item, here.named, st.numbers) in
    let kept : kept_in s.place ≡ kept_of fed = (let f = st.numbers in let g = st.text in cc) in
    answered_from program k answers a line here.item here.more t here.is st.taken (ap (λ (o : Option Op). is_some o) op
    ∙ some) (stop ∙ (ap (λ (x : Steps). stop_on_answer x a (kept_in s.place)) st.left
    ∙ ap (stop_on_answer (numbered scope fed.left) a) kept))

-- The text of an answer is made apart, and stands after the text before.

after_answer-text : (text : List ℕ) (instruction : Instruction) (a : Answer) (k : KeptState)
    → after_answer instruction a (behind_text text k) ≡ behind_text text (after_answer instruction a k)
after_answer-text text x1 a k = grind (arith, append_assoc)

pub stop_on_answer-text : (rest : Steps) (line : ℕ) (instruction : Instruction) (a : Answer) (k : KeptState)
    → stop_on_answer (steps.Line line instruction rest) a k ≡ stopped_behind_text k.text (stop_of rest
    (after_answer instruction a (record { numbers = k.numbers; text = refusal_line line (refusal_text a) })))
stop_on_answer-text rest line instruction a k =
    let apart : KeptState = record { numbers = k.numbers; text = refusal_line line (refusal_text a) } in
    cc (after_answer-text k.text instruction a apart, stop_of-text k.text rest (after_answer instruction a apart))

-- A copy that runs on without the text so far stops where the script stops.
pub answer_stops : {nodes : List Node} {p r q : Place} (t : Place) (line : ℕ) (instruction : Instruction) (next : ℕ)
    (a : Answer)
    → IsTree nodes → PlaceIsWithin (length nodes) p → node_at nodes p.at ≡ Node.Line line instruction next
    → r ≡ with_kept (record p { at = next })
    (after_answer instruction a (record { numbers = p.numbers; text = refusal_line line (refusal_text a) }))
    → HasStopped nodes r q → t ≡ record q { text = p.text ++ q.text }
    → stopped_in nodes t ≡ stop_on_answer (left_in nodes p) a (kept_in p)
answer_stops {nodes} {p} {q} t line instruction next a tree w e starts stopped follows =
    let rest = left_in nodes (record p { at = next }) in
    let apart : KeptState = record { numbers = p.numbers; text = refusal_line line (refusal_text a) } in
    let runs : stopped_in nodes q ≡ stop_of rest (after_answer instruction a apart) =
    stopped.run ∙ ap (λ (x : Place). stop_of (left_in nodes x) (kept_in x)) starts in
    cc (follows, runs, stop_on_answer-text rest line instruction a (kept_in p), unfolded_line nodes (is_at tree w e))
