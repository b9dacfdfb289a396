use Rattle.mk_geom.proofs.FirstFit.{cell_place_found, run_place_found}
use Rattle.mk_geom.proofs.laws.first_fit_finds_places.Goals as goal

pub returns : goal.returns
returns c = record { cells = cell_place_found; runs = run_place_found }
