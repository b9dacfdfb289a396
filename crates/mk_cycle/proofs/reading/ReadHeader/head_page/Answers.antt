use Rattle.mk_words.proofs.Below.Laws.Vocabulary.{Header, Option, ℕ, arith, head_page_under, ◌-◌, ◌≡◌}
use Rattle.mk_cycle.specs.Freeing.{distance_under}
use Rattle.mk_cycle.proofs.reading.ReadHeader.head_page.Goals as goal

head_by_distance : (x : Option Header) (page : ℕ) → page - distance_under x ≡ head_page_under x page
head_by_distance x0 page = grind arith

pub returns : goal.returns
returns c = grind (arith, head_by_distance)
