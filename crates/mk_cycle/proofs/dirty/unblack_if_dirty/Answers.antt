use Rattle.mk_words.proofs.Below.Laws.Vocabulary.{List, Page, Words, ap, head_page, head_page_under, header_of, refl}
use Rattle.mk_words.proofs.Below.Laws.Vocabulary.{slice_index, sym, ◌∙◌, ◌≡◌, ◌≢◌}
use Rattle.mk_cycle.proofs.Clearing.{black_cleared, blacks_cleared, cleared_unscanned, head_part, own_part, part_kept}
use Rattle.mk_cycle.proofs.dirty.unblack_if_dirty.Goals.{After-head_page_under-head, After-look_at-header}
use Rattle.mk_cycle.proofs.dirty.unblack_if_dirty.Goals as goal
use Rattle.mk_cycle.proofs.StopSteps.{on_then}
use Rattle.mk_cycle.specs.{Grays.without_blacks, Stops.still_words}

pub returns-then-head-page-clause-on : goal.returns-then-head-page-clause-on
returns-then-head-page-clause-on c =
    on_then (on_then c.look_at.ensures.looks.on c.look_at-header.ensures.looks.on) c.unblack_page.ensures.on

pub returns-clause-on : goal.returns-clause-on
returns-clause-on c =
    on_then (on_then (on_then c.look_at.ensures.looks.on c.look_at-header.ensures.looks.on) c.unblack_page.ensures.on)
    c.unblack_page-2.ensures.on

-- The head of the page, by its header word, and that the page is dirty.

head : (c : After-head_page_under-head) (w : Words) → (still_words c.look_at-header.new.stop.pass).pages ≡ w.pages
    → head_page w c.args.page ≡ c.head_page_under-head.result
head c w same =
    let look = c.look_at-header.ensures in
    let q = still_words c.look_at-header.new.stop.pass in
    ap (λ (ps : List Page). head_page (record q { pages = ps }) c.args.page) (sym same)
    ∙ ap (λ (y : Words). head_page y c.args.page) look.looks.words
    ∙ ap (λ h. head_page_under (header_of h) c.args.page) (sym look.found) ∙ sym c.head_page_under-head.ensures.exact

is_dirty : (c : After-look_at-header) → slice_index (still_words c.look_at-header.new.stop.pass).dirty c.args.page ≢ 0
is_dirty c z =
    let same = c.look_at-header.ensures.looks.words ∙ c.look_at.ensures.looks.words in
    c.if-look_at-eq0.false
    (c.look_at.ensures.found ∙ sym (ap (λ (w : Words). slice_index w.dirty c.args.page) same) ∙ z)

pub returns-clause-unscanned : goal.returns-clause-unscanned
returns-clause-unscanned c =
    let x = still_words c.unblack_page.new.stop.pass in
    let v = still_words c.unblack_page-2.new.stop.pass in
    let own = c.unblack_page.ensures.words in
    let heads = c.unblack_page-2.ensures.words in
    cleared_unscanned v c.args.page
    ((blacks_cleared x v c.head_page_under-head.result heads).fewer c.args.page (black_cleared _ x c.args.page own))
    (ap (λ q. slice_index v.blacks q) (head (goal.at.returns-clause-unscanned c).After-head_page_under-head v
    (ap (λ (w : Words). w.pages) (sym (heads ∙ ap (without_blacks c.head_page_under-head.result) own))))
    ∙ black_cleared x v c.head_page_under-head.result heads)

pub unblack_page-requires-clause-part : goal.unblack_page-requires-clause-part
unblack_page-requires-clause-part c =
    own_part c.look_at-header.new.stop.pass _
    (is_dirty (goal.at.unblack_page-requires-clause-part c).After-look_at-header)

pub unblack_page-requires-2-clause-part : goal.unblack_page-requires-2-clause-part
unblack_page-requires-2-clause-part c =
    let q = c.look_at-header.new.stop.pass in
    part_kept (blacks_cleared _ _ c.args.page c.unblack_page.ensures.words) (head_part q c.args.page
    c.head_page_under-head.result (is_dirty (goal.at.unblack_page-requires-2-clause-part c).After-look_at-header)
    (head (goal.at.unblack_page-requires-2-clause-part c).After-head_page_under-head (still_words q) refl))
