use Rattle.mk_script.proofs.Vocabulary.{is_placed, rules, subst, sym, texts_of, true, ◌∙◌, ◌≡◌, ◌≢◌}
use Rattle.mk_script.{proofs.Placed.placed_plain, specs.{Lines.Reads, Grammar.checked_behind}}
use Rattle.mk_script.specs.declared.keywords.Keyword.TheVariants.{TypeLine}
use Rattle.mk_script.proofs.line.placed_line.Goals as goal

-- a line that isn't a type's, in its place
pub returns-then-ne : goal.returns-then-ne
returns-then-ne c = λ scope.
    let before = c.args.items.now.items in
    let other : c.args.keyword ≢ TypeLine = search rules in
    let placed : is_placed before c.args.keyword ≡ true = sym (c.is_placed.ensures before scope)
    ∙ c.if-not-is_placed.false in
    subst (λ found. Reads before (checked_behind before found) c.take.result c.take.new.items.items c.take.new.scope)
    (c.item.ensures ∙ sym (placed_plain before c.args.keyword (texts_of c.args.operands.now) other placed))
    (c.take.ensures scope)
