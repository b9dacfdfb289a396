use Rattle.std.specs.Borrow.{Bor}
use Rattle.mk_check.proofs.{Vocabulary.{List, TypeWord, ap, map, map-append, refl, ℕ, [], ◌++◌, ◌∙◌, ◌∷◌}}
use Rattle.mk_check.proofs.DeclaredLines.{with_global, with_no_type, with_type}
use Rattle.mk_check.proofs.declarations.Declarations.add.Goals as goal

pub returns-in_ok-push-in-TypeLine : goal.returns-in_ok-push-in-TypeLine
returns-in_ok-push-in-TypeLine c lines known =
    let before = c.args.self.now.words.items in
    let words = ap (map (λ (w : Bor (List TypeWord)). w.now)) c.in_ok-push-in-TypeLine.ensures.items
    ∙ map-append (λ (w : Bor (List TypeWord)). w.now) before (c.as_slice.result ∷ [])
    ∙ ap (λ (ws : List TypeWord). map (λ (w : Bor (List TypeWord)). w.now) before ++ ws ∷ []) c.as_slice.ensures in
    rw c.in-TypeLine.is (with_type _ _ lines known c.in-TypeLine.name c.in-TypeLine.words
    c.in_ok-add-in-TypeLine.ensures.added words refl refl)

pub returns-in_ok-push-in-Global : goal.returns-in_ok-push-in-Global
returns-in_ok-push-in-Global c lines known =
    let types = ap (map (λ (ty : Bor (List ℕ)). ty.now)) c.in_ok-push-in-Global.ensures.items
    ∙ map-append (λ (ty : Bor (List ℕ)). ty.now) c.args.self.now.global_types.items _ in
    rw c.in-Global.is (with_global _ _ lines known c.in-Global.name c.in-Global.ty refl refl
    c.in_ok-add-in-Global.ensures.added types)

pub returns-in_default : goal.returns-in_default
returns-in_default c lines known = with_no_type c.args.self.now lines c.args.item.now known c.in_default.not-TypeLine
    c.in_default.not-Global
