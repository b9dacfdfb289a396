-- What a node asks for, and steps that are answered.
use Rattle.std.proofs.Common.{None, Option, ℕ, List}
use Rattle.mk_never.specs.declared.operations.Op.{Op}
use Rattle.mk_core.specs.declared.events.Answer.{Answer}
use Rattle.mk_check.specs.{declared.feeding.tree.Node.Node, Feed.{refusal_line, refusal_text}, Feeding.FeedState}
use Rattle.mk_check.specs.Steps.{Choice, Done, KeptState, Line, Rounds, Steps, Stopped, after_answer, op_asked, stop_of}
use Rattle.mk_check.specs.{Steps.with_text, Trees.node_at}
use Rattle.mk_check.specs.declared.feeding.tree.Node.TheVariants as node

-- the operation that a node asks for
abbrev pub op_of_node : List ℕ → Node → Option Op
op_of_node numbers node.Done = None
op_of_node numbers (node.Line line instruction next) = op_asked numbers instruction
op_of_node numbers (node.Rounds rounds body next) = None
op_of_node numbers (node.Choice number first second next) = None

-- the operation that it is at
abbrev pub op_in : FeedState → Option Op
op_in s = op_of_node s.place.numbers (node_at s.nodes s.place.at)

-- where the steps stop that begin with an instruction which is answered
abbrev pub stop_on_answer : Steps → Answer → KeptState → Stopped
stop_on_answer Done a kept = record { left = Done; kept = kept }
stop_on_answer (Line line instruction rest) a kept =
    stop_of rest (after_answer instruction a (with_text kept (refusal_line line (refusal_text a))))
stop_on_answer (Rounds rounds body rest) a kept = record { left = Rounds rounds body rest; kept = kept }
stop_on_answer (Choice number first second rest) a kept = record { left = Choice number first second rest; kept = kept }
