use Rattle.mk_geom.proofs.StoredWords.{cell_page_words, run_page_words, words_free}
use Rattle.mk_geom.proofs.laws.pages_have_the_words_of_storages.Goals as goal

pub returns : goal.returns
returns c = record { cell = cell_page_words; run = run_page_words; bare = words_free }
