use Rattle.std.{proofs.Common.{OnErr}, specs.declared.result.Result.{Result}}
use Rattle.mk_check.proofs.Vocabulary.{Answer, FeedState, IfOk-weaker, Instruction, IsAtStop, IsFeed, IsTree, List}
use Rattle.mk_check.proofs.Vocabulary.{Node, None, OnOk, Op, Option, Place, PlaceFits, PlaceIsWithin, StopsAt}
use Rattle.mk_check.proofs.Vocabulary.{TakesAnswer, ℕ, after_answer, ap, arith, false, is_some, kept_in, left_in}
use Rattle.mk_check.proofs.Vocabulary.{length, node_at, op_asked, op_in, op_of_node, refusal_line, refusal_text}
use Rattle.mk_check.proofs.Vocabulary.{stop_on_answer, stopped_in, subst, sym, true, with_kept, work_left, [], ◌++◌}
use Rattle.mk_check.proofs.{Vocabulary.{◌<◌, ◌∙◌, ◌∷◌, ◌≡◌}, Stands.{answer_stands, answer_stops, op_of_others}}
use Rattle.mk_check.proofs.{Stands.waits_for_answer, feeding.Feed.answer_ahead.Goals.{After-follow, In_ok-take}}
use Rattle.mk_check.{proofs.{Moves.line_fits, TreeNodes.is_at, WorkLaws.answer_nearer}, specs.Feeding.{StandsForSome}}
use Rattle.mk_check.proofs.feeding.Feed.answer_ahead.Goals as goal

-- the node that waits is that of the line
waits : (c : After-follow) → node_at c.self.inside.tree c.self.inside.running.at
    ≡ Node.Line c.in-Line.line c.in-Line.instruction c.in-Line.next
waits c = ap (node_at c.self.inside.tree) (sym c.at.ensures) ∙ sym c.in-Line.ensures.value

-- a copy at the next line that has told of a refusal, and taken the answer
copy_starts : (p : Place) (line next : ℕ) (instruction : Instruction) (answer : Answer) {copy told taken : Place}
    → copy ≡ record p { at = next; text = [] }
    → told ≡ record copy { text = copy.text ++ refusal_line line (refusal_text answer) } → taken ≡ with_kept told
    (after_answer instruction answer (kept_in told)) → taken ≡ with_kept (record p { at = next })
    (after_answer instruction answer (record { numbers = p.numbers; text = refusal_line line (refusal_text answer) }))
copy_starts p line next instruction answer copies tells takes =
    takes ∙ ap (λ (q : Place). with_kept q (after_answer instruction answer (kept_in q)))
    (tells ∙ ap (λ (q : Place). let later : Place = record q
    { text = q.text ++ refusal_line line (refusal_text answer) } in later) copies)

-- the copy, after the text so far, stops where the script does
stops : (c : After-follow)
    → c.follow.new.self ≡ record c.run.new.self { text = c.self.inside.running.text ++ c.run.new.self.text }
    → stopped_in c.self.inside.tree c.follow.new.self
    ≡ stop_on_answer (left_in c.self.inside.tree c.self.inside.running) c.args.answer (kept_in c.self.inside.running)
stops c e =
    let nodes = c.self.inside.tree in
    let p = c.self.inside.running in
    let starts = copy_starts p c.in-Line.line c.in-Line.next c.in-Line.instruction c.args.answer c.copy_at.ensures
    c.in_ok-print_refusal.ensures c.in_ok-take.ensures in
    answer_stops c.follow.new.self c.in-Line.line c.in-Line.instruction c.in-Line.next c.args.answer
    c.in-Line.ensures.tree c.self.invariant.stop.within (waits c) starts c.in_ok-run.ensures e

either : {T E : Type 0} (r : Result T E) (P Q X : Type 0) → OnOk r P → OnErr r Q → (P → X) → (Q → X) → X
either x0 x1 x2 x3 p q f g = grind arith

-- the state that it was in
feed : (c : After-follow) → IsFeed c.args.self.now
feed c = subst (λ (s : FeedState). IsFeed s) c.self.view_is c.self.invariant

tree : (c : After-follow) → IsTree c.args.self.now.nodes
tree c = subst (λ (s : FeedState). IsTree s.nodes) c.self.view_is c.in-Line.ensures.tree

takes : (c : After-follow)
    → c.follow.new.self ≡ record c.run.new.self { text = c.self.inside.running.text ++ c.run.new.self.text }
    → TakesAnswer c.args.self.now c.args.answer (record { nodes = c.self.inside.tree; place = c.follow.new.self })
takes c e =
    let nodes = c.self.inside.tree in
    let p = c.self.inside.running in
    let before : FeedState = record { nodes = nodes; place = p } in
    let after : FeedState = record { nodes = nodes; place = c.follow.new.self } in
    let asks : is_some (op_asked p.numbers c.in-Line.instruction) ≡ true = ap
    (λ (m : Node). is_some (op_of_node p.numbers m)) (sym (waits c))
    ∙ (ap (λ (s : FeedState). is_some (op_in s)) c.self.view_is ∙ waits_for_answer (tree c) (feed c) c.requires) in
    subst (λ (s : FeedState). TakesAnswer s c.args.answer after) c.self.view_is
    (λ program k answers st. answer_stands c.args.answer after c.in-Line.line c.in-Line.instruction c.in-Line.next
    c.in-Line.ensures.tree c.self.invariant.stop.within (waits c) asks (stops c e) st)

pub unreachable-requires : goal.unreachable-requires
unreachable-requires c =
    let nodes = c.self.inside.tree in
    let is = subst (λ (s : FeedState). IsFeed s) c.self.view_is c.self.invariant in
    let tree = subst (λ (s : FeedState). IsTree s.nodes) c.self.view_is c.node.ensures.tree in
    let none : op_in c.args.self.now ≡ None = ap op_in (sym c.self.view_is)
    ∙ (ap (op_of_node c.self.inside.running.numbers) (sym (c.node.ensures.value ∙ ap (node_at nodes) c.at.ensures))
    ∙ op_of_others c.self.inside.running.numbers c.node.result c.in_default.not-Line) in
    let some = waits_for_answer tree is c.requires in
    let never : false ≡ true = sym (ap (λ (o : Option Op). is_some o) none) ∙ some in
    absurd cc

-- the copy begins to run at the line after it
starts_at : (c : In_ok-take) → PlaceFits c.self.inside.tree c.take.new.self
starts_at c =
    let nodes = c.self.inside.tree in
    let p = c.self.inside.running in
    let here : node_at nodes p.at ≡ Node.Line c.in-Line.line c.in-Line.instruction c.in-Line.next =
    ap (node_at nodes) (sym c.at.ensures) ∙ sym c.in-Line.ensures.value in
    let next = line_fits nodes (is_at c.in-Line.ensures.tree c.self.invariant.stop.within here)
    c.self.invariant.stop.fits in
    let starts = copy_starts p c.in-Line.line c.in-Line.next c.in-Line.instruction c.args.answer c.copy_at.ensures
    c.in_ok-print_refusal.ensures c.in_ok-take.ensures in
    subst (λ (q : Place). PlaceFits nodes q) (sym starts) (record { here = next.here; frames = next.frames })

stops_behind_text : {nodes : List Node} {q : Place} (t : Place) (text : List ℕ) → t ≡ record q { text = text }
    → PlaceIsWithin (length nodes) q → PlaceFits nodes q → StopsAt (node_at nodes q.at) q
    → IsAtStop (record { nodes = nodes; place = t })
stops_behind_text {nodes} t text e w f h =
    subst (λ (p : Place). IsAtStop (record { nodes = nodes; place = p })) (sym e) (record {
      within = record { at = w.at; frames = w.frames };
      fits = record { here = f.here; frames = f.frames };
      stops = grind arith;
    })

pub run-requires-clause-fits : goal.run-requires-clause-fits
run-requires-clause-fits c = starts_at ((goal.at.run-requires-clause-fits c).In_ok-take)

pub invariant_of-self-2 : goal.invariant_of-self-2
invariant_of-self-2 c =
    let after : FeedState = record { nodes = c.self.inside.tree; place = c.follow.new.self } in
    let f = feed ((goal.at.invariant_of-self-2 c).After-follow) in
    record {
      stop = either c.follow.result _ _ (IsAtStop after) c.follow.ensures.ok c.follow.ensures.err
          (λ e. stops_behind_text c.follow.new.self _ e c.in_ok-run.ensures.within (c.in_ok-run.ensures.fits
          (starts_at ((goal.at.invariant_of-self-2 c).In_ok-take))) c.in_ok-run.ensures.at) (λ e. subst
          (λ (p : Place). IsAtStop (record { nodes = c.self.inside.tree; place = p })) (sym e) c.self.invariant.stop);
      some = either c.follow.result _ _ (StandsForSome after) c.follow.ensures.ok c.follow.ensures.err (λ e. record {
        program = f.some.program;
        k = f.some.k;
        answers = f.some.answers ++ c.args.answer ∷ [];
        stands = takes ((goal.at.invariant_of-self-2 c).After-follow) e f.some.program f.some.k f.some.answers
            f.some.stands;
      }) (λ e. subst (λ (p : Place). StandsForSome (record { nodes = c.self.inside.tree; place = p }))
          (sym e) c.self.invariant.some);
    }

pub returns-clause-ok : goal.returns-clause-ok
returns-clause-ok c =
    IfOk-weaker c.follow.result
    (λ _. c.follow.new.self ≡ record c.run.new.self { text = c.self.inside.running.text ++ c.run.new.self.text })
    (λ _. TakesAnswer c.args.self.now c.args.answer (record { nodes = c.self.inside.tree; place = c.follow.new.self }))
    (λ _ e. takes ((goal.at.returns-clause-ok c).After-follow) e) c.follow.ensures.ok

pub returns-clause-nearer : goal.returns-clause-nearer
returns-clause-nearer c =
    let nodes = c.self.inside.tree in
    let p = c.self.inside.running in
    let after : FeedState = record { nodes = nodes; place = c.follow.new.self } in
    IfOk-weaker c.follow.result
    (λ _. c.follow.new.self ≡ record c.run.new.self { text = p.text ++ c.run.new.self.text })
    (λ _. work_left after < work_left c.args.self.now)
    (λ _ e. subst (λ (s : FeedState). work_left after < work_left s) c.self.view_is
    (answer_nearer nodes c.follow.new.self c.in-Line.line c.in-Line.instruction c.in-Line.next c.args.answer
    c.in-Line.ensures.tree c.self.invariant.stop.within (waits c) (stops c e))) c.follow.ensures.ok
