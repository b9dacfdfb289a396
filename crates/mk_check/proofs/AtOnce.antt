-- An answer at which nothing is printed, where the next line asks: the script stops there.
use Rattle.mk_check.proofs.Vocabulary.{Answer, Bool, FeedState, HasStopped, Instruction, IsFeed, IsTree, IsWaiting}
use Rattle.mk_check.proofs.Vocabulary.{KeptState, List, Node, Place, PlaceFits, PlaceIsWithin, StopsAt, TakesAnswer, ℕ}
use Rattle.mk_check.proofs.Vocabulary.{after_answer, and_parts, append-nil, arith, asks_at, false, is_some, kept_in}
use Rattle.mk_check.proofs.Vocabulary.{left_in, length, node_at, op_asked, op_of_node, refusal_line, refusal_text}
use Rattle.mk_check.proofs.Vocabulary.{stop_on_answer, stopped_in, true, with_kept, with_text, work_left, [], ◌++◌, ◌<◌}
use Rattle.mk_check.proofs.{Vocabulary.{◌∷◌, ◌≡◌}, AsksFirst.asked_so, Moves.{line_fits, unfolded_line}}
use Rattle.mk_check.proofs.{Stands.{answer_stands, waits_for_answer}, TreeNodes.{IsAt, is_at}, WorkLaws.answer_nearer}
use Rattle.mk_check.specs.Steps.{is_silent}
use Rattle.mk_check.proofs.Moves as moves

silent_kept : (line : ℕ) (instruction : Instruction) (a : Answer) (k : KeptState) → is_silent instruction a ≡ true
    → with_text k (refusal_line line (refusal_text a)) ≡ k
silent_kept line instruction a k h = grind (arith, and_parts, append-nil)

pub stopped_here : (nodes : List Node) (p : Place) (n : Node) → IsTree nodes → PlaceIsWithin (length nodes) p
    → node_at nodes p.at ≡ n → is_some (op_of_node p.numbers n) ≡ true → HasStopped nodes p p
stopped_here nodes p (Node.Line line instruction next) tree w e h = moves.asks_at nodes (is_at tree w e) h
stopped_here nodes p _ tree w e h = cc

-- The place is where the steps stop after an answer to the first.
pub record StopsBehind (nodes : List Node) (p : Place) (a : Answer) (t : Place) : Type 0 where
  pub within : PlaceIsWithin (length nodes) t
  pub at : StopsAt (node_at nodes t.at) t
  pub run : stopped_in nodes t ≡ stop_on_answer (left_in nodes p) a (kept_in p)
  pub fits : PlaceFits nodes p → PlaceFits nodes t

pub stops_at_once : {nodes : List Node} {p : Place} {line : ℕ} {instruction : Instruction} {next : ℕ} (a : Answer)
    (t : Place) → IsAt nodes p (Node.Line line instruction next) → is_silent instruction a ≡ true → HasStopped nodes
    (with_kept (record p { at = next }) (after_answer instruction a (kept_in p))) t → StopsBehind nodes p a t
stops_at_once {nodes} {p} {line} {instruction} {next} a t at silent stopped =
    let rest = left_in nodes (record p { at = next }) in
    record {
      within = stopped.within;
      at = stopped.at;
      run = cc (stopped.run, unfolded_line nodes at, silent_kept line instruction a (kept_in p) silent);
      fits = λ f.
          let behind = line_fits nodes at f in
          stopped.fits (record { here = behind.here; frames = behind.frames });
    }

pub asks_so : (numbers : List ℕ) (n : Node) → asks_at n ≡ true → is_some (op_of_node numbers n) ≡ true
asks_so numbers x1 h = grind (arith, asked_so)

-- whether it took the answer or not
pub feeds : {s : FeedState} (t : Place) (taken : Bool) → (taken ≡ true → IsFeed (record { nodes = s.nodes; place = t }))
    → (taken ≡ false → t ≡ s.place) → IsFeed s → IsFeed (record { nodes = s.nodes; place = t })
feeds t x2 takes stays is = grind arith

-- A script that waits at a line, answered so.
pub record IsAnsweredAtOnce (s : FeedState) (t : Place) (a : Answer) : Type 0 where
  pub line : ℕ
  pub instruction : Instruction
  pub next : ℕ
  pub at : IsAt s.nodes s.place (Node.Line line instruction next)
  pub feed : IsFeed s
  pub waiting : IsWaiting s
  pub behind : StopsBehind s.nodes s.place a t

module _ {s : FeedState} {t : Place} {a : Answer} (is : IsAnsweredAtOnce s t a) where
  asks_here : is_some (op_asked s.place.numbers is.instruction) ≡ true
  asks_here = cc (is.at.node, waits_for_answer is.at.tree is.feed is.waiting)

  pub takes_at_once : TakesAnswer s a (record { nodes = s.nodes; place = t })
  takes_at_once program k answers st =
      answer_stands a (record { nodes = s.nodes; place = t }) is.line is.instruction is.next
      is.at.tree is.at.within is.at.node asks_here is.behind.run st

  pub feeds_at_once : IsFeed (record { nodes = s.nodes; place = t })
  feeds_at_once = record {
    stop = record { within = is.behind.within; fits = is.behind.fits is.feed.stop.fits; stops = is.behind.at };
    some = record {
      program = is.feed.some.program;
      k = is.feed.some.k;
      answers = is.feed.some.answers ++ a ∷ [];
      stands = takes_at_once is.feed.some.program is.feed.some.k is.feed.some.answers is.feed.some.stands;
    };
  }

  pub nearer_at_once : work_left (record { nodes = s.nodes; place = t }) < work_left s
  nearer_at_once =
      answer_nearer s.nodes t is.line is.instruction is.next a is.at.tree is.at.within is.at.node is.behind.run
