use Rattle.mk_geom.proofs.{Bridge.{have_header_words, same_census, same_places, same_uses}}
use Rattle.mk_geom.proofs.HeldWords.{pages_hold_mapped_words}
use Rattle.mk_geom.proofs.laws.pages_show_what_stands_there.Goals as goal

pub returns : goal.returns
returns c pages storages stand = record {
  uses = same_uses pages storages stand;
  places = λ limit words leaf. same_places pages storages limit words leaf stand;
  census = same_census pages storages stand;
  held = pages_hold_mapped_words pages storages stand;
  header_words = have_header_words pages storages stand;
}
