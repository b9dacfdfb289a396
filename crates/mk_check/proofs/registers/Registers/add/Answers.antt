use Rattle.std.specs.Borrow.{Bor}
use Rattle.mk_check.proofs.Vocabulary.{At, List, ap, map, map-append, refl, [], ◌++◌, ◌∙◌, ◌∷◌, ◌≡◌}
use Rattle.mk_check.proofs.DeclaredLines.{OnOk-map, with_neither, with_number, with_pointer}
use Rattle.mk_check.proofs.registers.Registers.add.Goals as goal

pub returns-in_ok-add-in-Ptr-clause-added : goal.returns-in_ok-add-in-Ptr-clause-added
returns-in_ok-add-in-Ptr-clause-added c lines known =
    let places = ap (map (λ (a : Bor At). a.now)) c.push_reserved.ensures.items
    ∙ map-append (λ (a : Bor At). a.now) c.reserve.new.self.items _
    ∙ ap (λ (items : List (Bor At)). map (λ (a : Bor At). a.now) items ++ c.in-Ptr.at ∷ []) c.reserve.ensures.items in
    rw c.in-Ptr.is (with_pointer _ _ lines known c.in-Ptr.name c.in-Ptr.at c.in_ok-add-in-Ptr.ensures.added places
    refl)

pub returns-in-Num-clause-added : goal.returns-in-Num-clause-added
returns-in-Num-clause-added c =
    rw c.in-Num.is (OnOk-map c.add-in-Num.result
    (λ (added : c.add-in-Num.new.self ≡ c.args.self.now.numbers ++ c.in-Num.name ∷ []) lines known.
    with_number _ _ lines known c.in-Num.name refl refl added) c.add-in-Num.ensures.added)

pub returns-in_default : goal.returns-in_default
returns-in_default c = record {
  added = λ lines known. with_neither c.args.self.now lines c.args.item.now known c.in_default.not-Ptr
      c.in_default.not-Num;
  unchanged = tt;
}
