use Rattle.std.proofs.Common.{codes}
use Rattle.mk_check.proofs.Vocabulary.{FeedStandsFor, Item, List, Node, Place, PlaceFits, ScriptText, ℕ}
use Rattle.mk_check.proofs.Vocabulary.{ap, arith, blocks_from, depth_of, fed_before_lines, numbered}
use Rattle.mk_check.proofs.Vocabulary.{script_of, script_scope, steps_at, subst, sym, trees, [], ◌++◌, ◌∙◌, ◌≡◌}
use Rattle.mk_check.proofs.{Stands.{start_stands, start_stops}, NumberedParts.numbered_steps}
use Rattle.mk_check.proofs.{feeding.Feed.begin.Goals.{In_ok-run, In_ok-running}, FewBlocks.text_has_few_blocks}
use Rattle.mk_check.specs.{Building.steps_before, Feed.newline, Feeding.elements_of_script}
use Rattle.mk_check.proofs.feeding.Feed.begin.Goals as goal

-- the tree's steps are those of the script
abbrev HasSteps : List Item → ℕ → List Node → ℕ → Type 0
HasSteps program k nodes at = steps_at (trees nodes) at
    ≡ numbered (script_scope program k) (blocks_from (script_of program k).line (script_of program k).items)

steps : (c : In_ok-running) → HasSteps c.args.items.now c.args.script c.in_ok-tree.tree c.in_ok-tree.at
steps c =
    let program = c.args.items.now in
    let script : ScriptText = script_of program c.args.script in
    let elements : c.lines.result.now ≡ elements_of_script program c.args.script =
    cc (c.lines.ensures, c.requires.numbered) in
    c.in_ok-tree.ensures.steps ∙ ap (steps_before c.in-Some.lines.line) elements
    ∙ ap (λ n. steps_before n (elements_of_script program c.args.script)) c.in-Some.ensures.some.line_is
    ∙ numbered_steps (script_scope program c.args.script) script.line script.items

-- it has room for its blocks
fits : (c : In_ok-running) → PlaceFits c.in_ok-tree.tree c.in_ok-running.running
fits c =
    let scope = script_scope c.args.items.now c.args.script in
    let deep = ap depth_of (steps c) in
    let few = text_has_few_blocks c.args.items.now c.args.script scope c.requires.text in
    subst (λ (p : Place). PlaceFits c.in_ok-tree.tree p) (sym c.in_ok-running.ensures)
    (record { here = omega arith; frames = tt })

pub run-requires-clause-fits : goal.run-requires-clause-fits
run-requires-clause-fits c = fits ((goal.at.run-requires-clause-fits c).In_ok-running)

-- it begins as the script does
begins : (c : In_ok-run) → HasSteps c.args.items.now c.args.script c.in_ok-tree.tree c.in_ok-tree.at
    → FeedStandsFor c.args.items.now c.args.script (record { nodes = c.in_ok-tree.tree; place = c.run.new.self }) []
begins c steps =
    let program = c.args.items.now in
    let k = c.args.script in
    let scope = script_scope program k in
    let script : ScriptText = script_of program k in
    let at = c.in_ok-tree.at in
    let place : c.in_ok-running.running ≡ record {
      at = at;
      frames = [];
      numbers = (fed_before_lines scope script).numbers;
      text = (fed_before_lines scope script).text;
    } =
    c.in_ok-running.ensures ∙ ap (λ (name : List ℕ). let p : Place = record {
      at = at;
      frames = [];
      numbers = (fed_before_lines scope script).numbers;
      text = codes "script " ++ (name ++ newline);
    } in p) c.in-Some.ensures.some.name_is in
    start_stands program k (record { nodes = c.in_ok-tree.tree; place = c.run.new.self }) (start_stops c.in_ok-tree.tree
    scope script c.in_ok-tree.at c.in_ok-running.running c.run.new.self steps place c.in_ok-run.ensures)

pub invariant_of-result : goal.invariant_of-result
invariant_of-result c = record {
  stop = record {
    within = c.in_ok-run.ensures.within;
    fits = c.in_ok-run.ensures.fits (fits ((goal.at.invariant_of-result c).In_ok-running));
    stops = c.in_ok-run.ensures.at;
  };
  some = record {
    program = c.args.items.now;
    k = c.args.script;
    answers = [];
    stands = begins ((goal.at.invariant_of-result c).In_ok-run) (steps ((goal.at.invariant_of-result c).In_ok-running));
  };
}

pub returns : goal.returns
returns c = begins ((goal.at.returns c).In_ok-run) (steps ((goal.at.returns c).In_ok-running))
