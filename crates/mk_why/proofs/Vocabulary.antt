-- The words that the proofs of this crate share: they import them from here.
pub use Rattle.mk_sweep.proofs.Below.Laws.Vocabulary.{PlacedAllocation, cell_of_allocation, is_mapped, placed_at}
pub use Rattle.mk_sweep.proofs.Below.Laws.Vocabulary.{storage_of, storage_words, has_bit, first_word, header_in}
pub use Rattle.mk_sweep.proofs.Below.Laws.Vocabulary.{words_under, IsHistory, World, left, never_behind}
pub use Rattle.mk_sweep.proofs.Below.Laws.Vocabulary.{others_are_held, object_placed, Words, header_at, phase_of}
pub use Rattle.mk_sweep.proofs.Below.Laws.Vocabulary.{used_at, Config, Event, header_of, Cell}
pub use Rattle.mk_sweep.specs.Below.Cycles.Stops.{is_still_word, still_words}
pub use Rattle.mk_sweep.specs.Below.Words.States.{PassState, TurnState, WordsState, now_of, world_of}
pub use Rattle.mk_core.specs.{Cycles.{is_scanned_allocation, PointsIntoAllocation}, Conditions.is_word}
pub use Rattle.mk_core.specs.Words.{named_word}
pub use Rattle.mk_why.specs.{Chains.{IsWhy, LinksLead, is_kept, word_of_root}, Searching.AreEntriesBelow}
pub use Rattle.mk_why.specs.Searching.{AreOfKept, IsListed, IsTold, ListsOn}
pub use Rattle.mk_why.specs.Searching.{AreWays, BeginApart, FindsMore}
pub use Rattle.mk_why.specs.Searching.{IsFirstWord, IsFound, IsFoundThrough, IsNoted, IsSearch, IsSearched, IsWay}
pub use Rattle.mk_why.specs.{Searching.{SearchesOn, entry_at, links_in, links_of}, Stops.{IsStill, LooksWhileStill}}
pub use Rattle.mk_why.specs.{Stops.{View, base_at, view_by, view_of, world_in}, declared.found.Found.Found}
pub use Rattle.mk_why.specs.declared.found.{Storage.Storage, Way.TheVariants.{Link, Start}}
pub use Rattle.mk_why.specs.declared.kept.Root.{Root, TheVariants.{Global, Register}}
pub use Rattle.mk_why.specs.declared.tables.Tables.{Tables}
