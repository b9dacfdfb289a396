use Rattle.std.{proofs.Common.ap, proofs.Common.arith, proofs.Common.false, proofs.Common.sym, proofs.Common.true}
use Rattle.std.{proofs.Common.◌+◌, proofs.Common.◌∙◌, proofs.lemmas.Grind.common_steps, specs.Option.option_or}
use Rattle.mk_books.proofs.PlaceLemmas.{cell_from-next, free_page_from, free_page_from-here, free_page_from-next}
use Rattle.mk_books.proofs.PlaceLemmas.{or_known, resident_from-next}
use Rattle.mk_books.proofs.fitting.small_fit.Goals.{else-is_free, else-is_resident, then-is_free, then-is_resident}
use Rattle.mk_books.proofs.fitting.small_fit.Goals as goal

pub loop-number-preserved : goal.loop-number-preserved
loop-number-preserved c =
    let n = c.loop-number.number in
    let pages = c.args.pages.now in
    let before = c.loop-number.invariant in
    let within = c.loop-number-test.true in
    record {
      few = grind (arith, common_steps);
      cells = sym (cell_from-next n c.args.class c.args.leaf pages _ within (sym c.in_default.ensures)) ∙ before.cells;
      resident = elim c.if-is_resident.branch [
        | then-is_resident w ↦
            omega (
              arith,
              w.resident-is,
              before.resident,
              resident_from-next n pages _ true within (sym c.is_resident.ensures ∙ w.if-is_resident.true),
            )
        | else-is_resident w ↦
            omega (
              arith,
              w.resident-is,
              before.resident,
              resident_from-next n pages _ false within (sym c.is_resident.ensures ∙ w.if-is_resident.false),
            )
      ];
      free = elim c.if-is_free.branch [
        | then-is_free w ↦ rw (w.first_free-is, w.or-first_free.ensures) (sym (or_known c.loop-number.first_free n
            (free_page_from (n + 1) pages)) ∙ ap (option_or c.loop-number.first_free)
            (sym (free_page_from-here n pages _ within (sym c.is_free.ensures ∙ w.if-is_free.true))) ∙ before.free)
        | else-is_free w ↦ rw w.first_free-is (ap (option_or c.loop-number.first_free)
            (sym (free_page_from-next n pages _ within (sym c.is_free.ensures ∙ w.if-is_free.false))) ∙ before.free)
      ];
    }
