-- What the tallies are where nothing is under way.
use Rattle.mk_laws.proofs.Vocabulary.{Config, Event, Holding, IsHistory, IsSettled, List, Moment, Protocol, ap, arith}
use Rattle.mk_laws.proofs.Vocabulary.{has_place, held_by_pages, left, ne_eqb, phase_of, ◌≡◌}
use Rattle.mk_geom.proofs.HeldWords.{pages_hold_mapped_words}
use Rattle.mk_core.specs.Counts.{TalliesAreExact}
use Rattle.mk_laws.proofs.{InvariantHistories.pages_show_the_storage, Tallies.{fresh_is_told, tallies_tell}}
use Rattle.mk_laws.specs.Theorems.{is_freed_unmapped}

-- Where nothing is under way, exact tallies are those of the words;
pub settled_tallies : (c : Config) (es : List Event) → IsHistory c es → IsSettled (left c es) → TalliesAreExact c es
    → ((left c es).now.words.held ≡ held_by_pages (left c es).now.words)
    × ((left c es).now.words.fresh ≡ (left c es).now.fresh_words)
settled_tallies c es h settled exact = grind (arith, pages_show_the_storage, pages_hold_mapped_words, fresh_is_told)

-- so they are where nobody holds the turn.
pub free_tallies : (c : Config) (es : List Event) → IsHistory c es → Protocol c (left c es).now
    → (left c es).now.words.turn ≡ 0 → ((left c es).now.words.held ≡ held_by_pages (left c es).now.words)
    × ((left c es).now.words.fresh ≡ (left c es).now.fresh_words)
free_tallies c es h protocol free =
    let m : Moment = (left c es).now in
    let nothing = protocol.free free in
    settled_tallies c es h (record {
      releasing = ne_eqb (phase_of m.words) 4 (λ four. protocol.cycle (omega arith)
          (omega arith) free);
      placing = ap (λ (x : Holding). has_place x.placing) nothing;
      unmapped = ap
          (λ (x : Holding). is_freed_unmapped m.words x.freed) nothing;
    }) (tallies_tell c es h free).0
