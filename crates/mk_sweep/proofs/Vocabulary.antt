-- The words that the proofs of this crate share: they import them from here.
pub use Rattle.mk_cycle.proofs.Below.Laws.Vocabulary.{PlacedAllocation, cell_of_allocation, is_mapped, placed_at}
pub use Rattle.mk_cycle.proofs.Below.Laws.Vocabulary.{storage_of, storage_words, has_bit, cell_words, cells_under}
pub use Rattle.mk_cycle.proofs.Below.Laws.Vocabulary.{first_word, has_no_pointers, head_page, header_in, is_marked}
pub use Rattle.mk_cycle.proofs.Below.Laws.Vocabulary.{pointed_cell, points_well, word_points_well, words_under}
pub use Rattle.mk_cycle.proofs.Below.Laws.Vocabulary.{before_release, Steady, AreOfOthers, IsHistory, World, left}
pub use Rattle.mk_cycle.proofs.Below.Laws.Vocabulary.{never_behind, world_behind, Moment, flight_of, is_phase}
pub use Rattle.mk_cycle.proofs.Below.Laws.Vocabulary.{others_are_held, Holds, Words, header_at, phase_of, register_word}
pub use Rattle.mk_cycle.proofs.Below.Laws.Vocabulary.{used_at, Config, Event, Seat, Caller, Host, Marker, Step}
pub use Rattle.mk_cycle.proofs.Below.Laws.Vocabulary.{header_of, Cell}
pub use Rattle.mk_cycle.specs.{Below.Laws.{Theorems.CellsAreClosed, Theorems.IsSettled}, Grays.MarksMore}
pub use Rattle.mk_cycle.specs.{Stops.still_words, Tracing.{Untouched, is_tracing, untouched_of}, Below.Words.States.Has}
pub use Rattle.mk_cycle.specs.Below.Words.States.{PassState, TurnState, WordsState, event_of, now_of, world_of}
pub use Rattle.mk_cycle.specs.Below.Words.{Steps.IsEnabledTo, TurnSteps.Acts}
pub use Rattle.mk_sweep.specs.Sweeps.{HasMarkers, BlacksMore, PageIsBlack, PointWell, SweepsOn}
pub use Rattle.mk_sweep.specs.Sweeps.{heap_looks, words_below, words_if, words_of_cells, words_on, Sweeps}
pub use Rattle.mk_sweep.specs.Sweeps.{InGlobal, InRegister, InWord, IsScannedWord, IsSwept, IsSweptValue, SweepsBy}
