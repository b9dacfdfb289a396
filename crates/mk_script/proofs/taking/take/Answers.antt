use Rattle.std.proofs.lemmas.List.{get_or_push, length_push}
use Rattle.mk_script.proofs.Vocabulary.{Item, List, Ok, ℕ, ap, arith, get_or, length, sym, [], ◌++◌, ◌-◌, ◌∙◌, ◌∷◌}
use Rattle.mk_script.{proofs.{PassedLines.fresh_if, Vocabulary.◌≡◌}, specs.Grammar.{checked_behind, kept_if}}
use Rattle.mk_script.specs.Lines.{checked_item}
use Rattle.mk_script.proofs.taking.take.Goals as goal

-- the item that was pushed is the last
last_is : (before items : List Item) (item found : Item) (count : ℕ) → items ≡ before ++ found ∷ []
    → count ≡ length items → item ≡ get_or items (count - 1) item → item ≡ found
last_is before items item found count are counts read =
    let last : length before ≡ count - 1 = omega (arith, ap length are, length_push before found) in
    read ∙ ap (λ (xs : List Item). get_or xs (count - 1) item) are
    ∙ get_or_push before found item (count - 1) last

pub returns : goal.returns
returns c = λ scope.
    let before = c.args.items.now.items in
    let item = c.index-item.result.now in
    let is : item ≡ c.in_ok-found.field-0 =
    last_is before c.push.new.self.items item c.in_ok-found.field-0 c.len.result c.in_ok-push.ensures.items
    (c.len.ensures ∙ c.push.new.self.ok.0) c.index-item.ensures in
    let items_are : c.push.new.self.items ≡ before ++ item ∷ [] =
    c.in_ok-push.ensures.items ∙ ap (λ (x : Item). before ++ x ∷ []) (sym is) in
    let may : checked_item before item ≡ Ok item =
    sym (c.check.ensures before scope) ∙ ap (λ r. kept_if r item) c.in_ok-check.was in
    record {
      item = item;
      is_item = ap (checked_behind before) c.in_ok-found.was ∙ ap (checked_item before) (sym is) ∙ may;
      items_are = items_are;
      scope_of = rw items_are (c.in_ok-add.ensures before scope (fresh_if before item item may));
    }
