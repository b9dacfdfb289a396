use Rattle.std.specs.Borrow.{Bor}
use Rattle.mk_check.proofs.Vocabulary.{List, ap, arith, drop, get_or, length, length-map, number_of_name, subst}
use Rattle.mk_check.proofs.Vocabulary.{sym, ℕ, ◌+◌, ◌<◌, ◌∙◌, ◌≡◌, ◌≤◌}
use Rattle.mk_check.proofs.TableLemmas.{found, missed, others_before, skipped, test_at}
use Rattle.mk_check.specs.{Declarations.{IsIndex, key_of}, Feed.referred_names}
use Rattle.mk_check.proofs.name_table.NameTable.number_of.Goals as goal

pub loop-place-init : goal.loop-place-init
loop-place-init c =
    let starts = c.self.inside.starts in
    let names = referred_names c.self.inside.names.items in
    let name = c.args.name.now in
    let start = c.min-place.result in
    let index : IsIndex starts names = c.self.invariant in
    let count : c.len-count.result ≡ length names =
    omega (arith, c.self.inside.names.ok.0, length-map c.self.inside.names.items (λ (n : Bor (List ℕ)). n.now)) in
    let within : start ≤ length names = omega arith in
    let key : get_or starts c.key.result 0 ≡ get_or starts (key_of name) 0 =
    ap (λ k. get_or starts k 0) c.key.ensures.is in
    subst (λ (ns : List (List ℕ)).
    (start ≤ length ns) × (start + number_of_name name (drop start ns) ≡ number_of_name name ns)) c.self.view_is (
      within,
      skipped name names start within (λ k before. others_before starts names name index k (omega arith)
          (omega (arith, key))),
    )

pub returns-then-is-clause-value : goal.returns-then-is-clause-value
returns-then-is-clause-value c =
    let names = c.self.inside.names.items in
    let inside : c.loop-place.place < length names = omega (arith, c.self.inside.names.ok.0) in
    let within : c.loop-place.place < length c.args.self.now =
    omega (arith, length-map names (λ (n : Bor (List ℕ)). n.now), ap length c.self.view_is) in
    let same = test_at names c.args.self.now c.loop-place.place c.index.result.now c.args.name.now c.self.view_is inside
    c.index.ensures ∙ sym c.is.ensures ∙ c.if-is.true in
    found c.args.name.now c.args.self.now c.loop-place.place within same c.loop-place.invariant.1

pub loop-place-preserved : goal.loop-place-preserved
loop-place-preserved c =
    let names = c.self.inside.names.items in
    let inside : c.loop-place.place < length names = omega (arith, c.self.inside.names.ok.0) in
    let within : c.loop-place.place < length c.args.self.now =
    omega (arith, length-map names (λ (n : Bor (List ℕ)). n.now), ap length c.self.view_is) in
    let other = test_at names c.args.self.now c.loop-place.place c.index.result.now c.args.name.now c.self.view_is
    inside c.index.ensures ∙ sym c.is.ensures ∙ c.if-is.false in
    (omega arith, missed c.args.name.now c.args.self.now c.loop-place.place within other c.loop-place.invariant.1)
