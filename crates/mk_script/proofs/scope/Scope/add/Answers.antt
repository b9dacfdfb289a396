use Rattle.mk_script.proofs.Vocabulary.{ap, false, global_names, is_among, number_names, open_behind, pointer_names}
use Rattle.mk_script.proofs.Vocabulary.{refl, script_names, sym, this_script, type_names, ◌∙◌, ◌≡◌}
use Rattle.mk_script.proofs.ScopeAfter.{after_line, after_script, declares_none, kept, or-false, or-true}
use Rattle.mk_script.{proofs.NamesSoFar.{among, among_neither, on_ok}, specs.declared.sorts.Sort.{Sort}}
use Rattle.mk_script.proofs.scope.Scope.add.Goals as goal

pub returns-in-Heap : goal.returns-in-Heap
returns-in-Heap c = λ before scope fresh.
    let old = c.args.self.now in
    after_line before c.in-Heap.is _ scope refl refl refl (sym (or-false old.has_instruction false refl))
    (kept old.types refl) (kept old.globals refl) (kept old.scripts refl) (kept old.pointers refl)
    (kept old.numbers refl) c.in_ok-follow_blocks.ensures

pub returns-in-TypeLine : goal.returns-in-TypeLine
returns-in-TypeLine c = λ before scope fresh.
    let old = c.args.self.now in
    on_ok c.insert.result (c.insert.ensures (among _ (type_names before) _ scope.types ∙ rw c.in-TypeLine.is at fresh))
    (λ added. after_line before c.in-TypeLine.is _ scope refl refl refl
    (sym (or-false old.has_instruction false refl)) added (kept old.globals refl) (kept old.scripts refl)
    (kept old.pointers refl) (kept old.numbers refl) c.in_ok-follow_blocks.ensures)

pub returns-in-Global : goal.returns-in-Global
returns-in-Global c = λ before scope fresh.
    let old = c.args.self.now in
    let absent : is_among c.in-Global.name old.globals ≡ false =
    among _ (global_names before) _ scope.globals ∙ rw c.in-Global.is at fresh in
    on_ok c.insert-in-Global.result (c.insert-in-Global.ensures absent) (λ added. after_line before c.in-Global.is _
    scope refl refl refl (sym (or-false old.has_instruction false refl)) (kept old.types refl) added
    (kept old.scripts refl) (kept old.pointers refl) (kept old.numbers refl) c.in_ok-follow_blocks.ensures)

pub returns-in-Ptr : goal.returns-in-Ptr
returns-in-Ptr c = λ before scope fresh.
    let old = c.args.self.now in
    let absent : is_among c.in-Ptr.name old.pointers ≡ false = (among_neither _
    (pointer_names (this_script before)) _ _ _ scope.pointers scope.numbers (rw c.in-Ptr.is at fresh)).0 in
    on_ok c.insert-in-Ptr.result (c.insert-in-Ptr.ensures absent) (λ added. after_line before c.in-Ptr.is _ scope refl
    refl refl (sym (or-false old.has_instruction false refl)) (kept old.types refl) (kept old.globals refl)
    (kept old.scripts refl) added (kept old.numbers refl) c.in_ok-follow_blocks.ensures)

pub returns-in-Num : goal.returns-in-Num
returns-in-Num c = λ before scope fresh.
    let old = c.args.self.now in
    let absent : is_among c.in-Num.name old.numbers ≡ false = (among_neither _ (pointer_names (this_script before))
    old.pointers (number_names (this_script before)) _ scope.pointers scope.numbers (rw c.in-Num.is at fresh)).1 in
    on_ok c.insert-in-Num.result (c.insert-in-Num.ensures absent) (λ added. after_line before c.in-Num.is _ scope refl
    refl refl (sym (or-false old.has_instruction false refl)) (kept old.types refl) (kept old.globals refl)
    (kept old.scripts refl) (kept old.pointers refl) added c.in_ok-follow_blocks.ensures)

pub returns-in-Script : goal.returns-in-Script
returns-in-Script c = λ before scope fresh.
    let absent : is_among c.in-Script.name c.args.self.now.scripts ≡ false =
    among _ (script_names before) _ scope.scripts ∙ rw c.in-Script.is at fresh in
    on_ok c.begin_script.result (c.begin_script.ensures absent) (λ begun.
    after_script before c.in-Script.is refl refl scope.types scope.globals scope.scripts
    (c.in_ok-follow_blocks.ensures ∙ ap (λ blocks. open_behind blocks c.args.item.now) scope.blocks) begun)

pub returns-in_default : goal.returns-in_default
returns-in_default c = λ before scope fresh.
    let old = c.args.self.now in
    let none = λ (s : Sort). declares_none s c.args.item.now c.in_default.not-Heap c.in_default.not-TypeLine
    c.in_default.not-Global c.in_default.not-Script c.in_default.not-Ptr c.in_default.not-Num in
    after_line before refl _ scope (none Sort.Type).1 refl refl
    (sym (rw (none Sort.Type).2 (or-true old.has_instruction)))
    (kept old.types (none Sort.Type).0) (kept old.globals (none Sort.Global).0) (kept old.scripts (none Sort.Script).0)
    (kept old.pointers (none Sort.Pointer).0) (kept old.numbers (none Sort.Number).0) c.in_ok-follow_blocks.ensures
