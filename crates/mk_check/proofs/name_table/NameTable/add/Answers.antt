use Rattle.std.proofs.Common.{min, set}
use Rattle.std.specs.Borrow.{Bor}
use Rattle.mk_check.proofs.Vocabulary.{List, ap, arith, get_or, length, length-map, map-append, subst, sym, [], ℕ, ◌++◌}
use Rattle.mk_check.proofs.{Vocabulary.{◌<◌, ◌∙◌, ◌∷◌, ◌≡◌}, TableLemmas.index-added}
use Rattle.mk_check.specs.{Declarations.IsIndex, Feed.referred_names}
use Rattle.mk_check.proofs.name_table.NameTable.add.Goals as goal

pub invariant_of-self-2 : goal.invariant_of-self-2
invariant_of-self-2 c =
    let starts = c.self.inside.starts in
    let names = c.self.inside.names.items in
    let key = c.key-key.result in
    let place = c.len-place.result in
    let more : referred_names c.push.new.self.items ≡ referred_names names ++ c.args.name.now ∷ [] =
    ap referred_names c.in_ok-push.ensures.items
    ∙ map-append (λ (n : Bor (List ℕ)). n.now) names (c.args.name ∷ []) in
    let least : c.min.result ≡ min (get_or starts key 0) place = omega arith in
    let inside : key < length starts = omega arith in
    let placed : place ≡ length (referred_names names) =
    omega (arith, length-map names (λ (n : Bor (List ℕ)). n.now)) in
    subst (λ (m : ℕ). IsIndex (set starts key m) (referred_names c.push.new.self.items)) (sym least)
    (subst (λ (ns : List (List ℕ)). IsIndex (set starts key (min (get_or starts key 0) place)) ns) (sym more)
    (index-added starts (referred_names names) c.args.name.now key place c.self.invariant c.key-key.ensures.is inside
    placed))
