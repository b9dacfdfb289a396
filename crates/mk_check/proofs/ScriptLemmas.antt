-- Where a script of a program is found, as its lines are gone along.
use Rattle.std.proofs.Common.{length-drop}
use Rattle.mk_check.proofs.Vocabulary.{Item, List, ℕ, ap, arith, before_next_script, drop, drop_more, get_or, length}
use Rattle.mk_check.proofs.Vocabulary.{ScriptText, refl, script_from, script_names, script_of, sym, [], ◌+◌, ◌-◌, ◌<◌}
use Rattle.mk_check.proofs.Vocabulary.{◌∙◌, ◌∷◌, ◌≡◌, ◌≤◌}
use Rattle.mk_check.specs.Blocks.{IsScriptAt}
use Rattle.mk_script.specs.declared.items.Item.TheVariants.{Script}

no_longer : (items : List Item) → length (before_next_script items) ≤ length items
no_longer [] = omega arith
no_longer (Script name ∷ items) = omega arith
no_longer (item ∷ items) = let rest = no_longer items in grind (arith, rest)

begins : (i : ℕ) {name : List ℕ} {more : List Item} (items : List Item) (k : ℕ) → items ≡ Script name ∷ more → k ≡ 0
    → script_from (i + 1) k items ≡ record { name = name; line = i + 1 + 1; items = before_next_script more }
begins i items k e z = rw (e, z) refl

pub script_found : (items : List Item) (i before k : ℕ) (item : Item) (name : List ℕ) (lines : List Item)
    → i < length items → item ≡ get_or items i item → item ≡ Script name → before ≡ k
    → before + length (script_names (drop i items)) ≡ length (script_names items)
    → script_from (i + 1) (k - before) (drop i items) ≡ script_of items k
    → lines ≡ before_next_script (drop (i + 1) items) → IsScriptAt items k name (i + 2) lines
script_found items i before k item name lines within read is at all same are =
    let rest : drop i items ≡ Script name ∷ drop (i + 1) items =
    drop_more items i item within ∙ ap (λ first. first ∷ drop (i + 1) items) (sym read ∙ is) in
    let none : k - before ≡ 0 = omega (arith, at) in
    let script : ScriptText = record {
      name = name;
      line = i + 1 + 1;
      items = before_next_script (drop (i + 1) items);
    } in
    let found : script_of items k ≡ script = sym same ∙ begins i (drop i items) (k - before) rest none in
    record {
      some = omega (arith, at, all, ap (λ xs. length (script_names xs)) rest);
      name_is = sym (ap (λ s. s.name) found);
      line_is = omega (arith, ap (λ s. s.line) found);
      items_are = are ∙ sym (ap (λ s. s.items) found);
      within = omega (arith, within, ap length are, no_longer (drop (i + 1) items), length-drop (i + 1) items);
    }
