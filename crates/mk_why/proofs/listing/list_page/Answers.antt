use Rattle.mk_why.proofs.Vocabulary.{AreOfKept, IsListed, ListsOn, View, base_at, cell_of_allocation, header_at}
use Rattle.mk_why.proofs.{Vocabulary.{is_kept, placed_at, world_in}, Lists.snapshot_read, Looks.looks_then}
use Rattle.mk_sweep.proofs.Below.Laws.Vocabulary.{ℕ, ap, slice_index, subst, sym, true, ◌*◌, ◌+◌, ◌^◌, ◌∙◌, ◌≡◌}
use Rattle.mk_why.proofs.listing.list_page.Goals as goal

pub list_cells-requires-clause-header : goal.list_cells-requires-clause-header
list_cells-requires-clause-header c =
    c.look_at-header.ensures.found ∙ sym (ap (λ (v : View). header_at v.words c.args.page)
    (c.look_at-marks.ensures.on.view ∙ c.look_at-quarantine.ensures.on.view ∙ c.look_at-header.ensures.on.view))

pub list_cells-requires-clause-snapshot : goal.list_cells-requires-clause-snapshot
list_cells-requires-clause-snapshot c =
    let same = c.look_at-marks.ensures.on.view ∙ c.look_at-quarantine.ensures.on.view
    ∙ c.look_at-header.ensures.on.view in
    c.of.ensures.snapshot ∙ snapshot_read c.args.stop.now c.args.page c.look_at-quarantine.result
    (c.look_at-quarantine.ensures.found
    ∙ ap (λ (v : View). slice_index v.words.freed c.args.page + 2 ^ 32 * slice_index v.words.snapshot c.args.page)
    c.look_at-header.ensures.on.view) ∙ sym (ap (λ (v : View). slice_index v.words.snapshot c.args.page) same)

pub list_cells-requires-clause-marks : goal.list_cells-requires-clause-marks
list_cells-requires-clause-marks c =
    c.look_at-marks.ensures.found
    ∙ sym (ap (λ (v : View). slice_index v.words.marks c.args.page) c.look_at-marks.ensures.on.view)

pub list_cells-requires-clause-of_kept : goal.list_cells-requires-clause-of_kept
list_cells-requires-clause-of_kept c =
    let same = c.look_at-marks.ensures.on.view ∙ c.look_at-quarantine.ensures.on.view
    ∙ c.look_at-header.ensures.on.view in
    subst (λ (v : View). AreOfKept c.args.words.now.config v c.args.tables.now.kept.items) (sym same) c.requires.of_kept

pub returns-clause-looks : goal.returns-clause-looks
returns-clause-looks c =
    looks_then (looks_then c.look_at-header.ensures.on c.look_at-quarantine.ensures.on) c.look_at-marks.ensures.on

pub returns-clause-on : goal.returns-clause-on
returns-clause-on c =
    let same = c.look_at-marks.ensures.on.view ∙ c.look_at-quarantine.ensures.on.view
    ∙ c.look_at-header.ensures.on.view in
    subst (λ (v : View). ListsOn c.args.words.now.config v c.args.tables.now c.list_cells.new.tables) same
    c.list_cells.ensures.on

pub returns-clause-listed : goal.returns-clause-listed
returns-clause-listed c =
    let same = c.look_at-marks.ensures.on.view ∙ c.look_at-quarantine.ensures.on.view
    ∙ c.look_at-header.ensures.on.view in
    subst (λ (v : View). (b : ℕ) → is_kept c.args.words.now.config (world_in v) b ≡ true
    → (cell_of_allocation c.args.words.now.config (placed_at v.allocations b)).page ≡ c.args.page
    → IsListed c.list_cells.new.tables.kept.items (base_at v b)) same c.list_cells.ensures.listed
