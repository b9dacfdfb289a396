-- Where the turn is free no more is held than the pages have.
use Rattle.mk_alloc.proofs.QuarantineVocabulary.{Config, Event, IsHistory, List, arith, held_after, known_left, left}
use Rattle.mk_alloc.proofs.{QuarantineVocabulary.{ne_eqb, ◌*◌, ◌≡◌, ◌≤◌}, FoundPlaces.held_is_little}

pub held_is_little_where_free : (c : Config) (es : List Event) → IsHistory c es → (left c es).now.words.turn ≡ 0
    → held_after c es ≤ 64 * c.pages
held_is_little_where_free c es h free = grind (arith, held_is_little, ne_eqb, known_left)
