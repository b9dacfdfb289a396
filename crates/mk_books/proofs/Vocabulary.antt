-- The words that the proofs of this crate share: they import them from here.
pub use Rattle.std.proofs.Common.{Bool, List, None, Option, Some, ℕ, ap, arith, cond, drop, false, get_or}
pub use Rattle.std.proofs.Common.{get_or-set_other, get_or-set_same, inl, inr, length, length-set, nat_eq, nat_lt, not}
pub use Rattle.std.proofs.Common.{refl, replicate, set, subst, suc, sym, take, true, w64, zero, [], ◌%◌, ◌*◌, ◌++◌, ◌+◌}
pub use Rattle.std.proofs.{Common.{◌-◌, ◌<◌, ◌∙◌, ◌≡◌, ◌≤◌}, lemmas.{Bool.{cases_eq, cases_lt}, List.length-map}}
pub use Rattle.std.specs.{Int.bit_at, Option.is_some}
pub use Rattle.mk_geom.specs.PageUses.{Nothing, PageUse, PartOfRun, first_where, is_free_page, is_resident_page}
pub use Rattle.mk_geom.specs.PageUses.{range_start, resident_pages, use_of_page, uses_of_pages}
pub use Rattle.mk_geom.specs.{Storages.free_page, declared.pages.Page.Page}
pub use Rattle.mk_books.proofs.FreeRangeLemmas.{range_start_from}
pub use Rattle.mk_books.specs.KnownPages.{KnownPages, Shows, IsNext, has_free_cell, is_in_use, page_at}
pub use Rattle.mk_books.specs.PageSets.{AreSets, FitPages, HasClass, IsInItsSets, OthersStay, PutsPage, SortsPage}
pub use Rattle.mk_books.specs.{PageSets.{is_member, is_of_set, use_of_kind}, declared.kinds.PageKind.PageKind}
