use Rattle.mk_geom.proofs.CellsOnPages.{points_into_iff, same_from_cells, shown_cell_has_value, used_cell_has_storage}
use Rattle.mk_geom.proofs.PointedCells.{points_into_cell}
use Rattle.mk_geom.proofs.laws.a_storage_has_its_cell.Goals as goal

pub returns-clause-points_into : goal.returns-clause-points_into
returns-clause-points_into c = points_into_cell

pub returns-clause-points_back : goal.returns-clause-points_back
returns-clause-points_back c = shown_cell_has_value

pub returns-clause-on_pages : goal.returns-clause-on_pages
returns-clause-on_pages c = points_into_iff

pub returns-clause-used : goal.returns-clause-used
returns-clause-used c = used_cell_has_storage

pub returns-clause-apart : goal.returns-clause-apart
returns-clause-apart c = same_from_cells
