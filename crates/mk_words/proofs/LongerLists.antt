-- The law on longer lists, as it is handed on here.
use Rattle.mk_core.specs.HistoryLaws.{LongerListsGoOn}
use Rattle.mk_laws.proofs.FramesLongerLists.{longer_lists_go_on}

pub longer_lists : LongerListsGoOn
longer_lists = longer_lists_go_on
