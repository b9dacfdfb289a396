-- The words that the proofs of this crate share: they import them from here.
pub use Rattle.std.proofs.Common.{Bor, Err, Ok, length-append, length-drop, rules, take_all}
pub use Rattle.std.{proofs.{lemmas.Bool.Decides.nat_tests, lemmas.Result.IfOk-weaker}, specs.List.{position_from}}
pub use Rattle.mk_core.specs.History.{is_same_seat}
pub use Rattle.mk_laws.proofs.Vocabulary.{Answer, AreEnabled, Caller, Config, Decided, Event, Flight, Moment, Op, Stage}
pub use Rattle.mk_laws.proofs.Vocabulary.{Step, answer_decided, asked, at_rest, calls, comes_next, entry_of}
pub use Rattle.mk_laws.proofs.Vocabulary.{first_world, flight_of, left, progress}
pub use Rattle.mk_check.specs.{Declarations.config_of, Feed.{answers_given, ends_call}}
pub use Rattle.mk_script.specs.{Grammar.texts_of, declared.items.Item.Item}
pub use Rattle.mk_replay.specs.{Forms.{form_of, value_among}, Replays.{ArePlayersOf, IsPlayerOf, TakesStep, served_to}}
pub use Rattle.mk_replay.specs.{Schedules.text_length, Replays.{event_of_entry, history_of}}
pub use Rattle.mk_replay.specs.{Schedules.is_schedule_line, declared.schedule.Entry.Entry}
