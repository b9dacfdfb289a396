-- The own steps of a list in parts: events of others have none of them. Its own calls are those of mk_laws.
pub use Rattle.mk_words.proofs.Below.Laws.FramesLongerLists.{by_append, calls_by, others_add_none, own_entry}
use Rattle.mk_words.proofs.Below.Laws.Vocabulary.{Bool, Config, Event, List}
use Rattle.mk_words.proofs.Below.Laws.Vocabulary.{Seat, Step, World, ap}
use Rattle.mk_words.proofs.Below.Laws.Vocabulary.{false}
use Rattle.mk_words.proofs.Below.Laws.Vocabulary.{found, if◌then◌else◌, is_one_of, map, map-append}
use Rattle.mk_words.proofs.Below.Laws.Vocabulary.{refl, sym, true, world_behind, [], ◌++◌, ◌∙◌, ◌∷◌, ◌≡◌}
use Rattle.mk_words.proofs.{Below.Laws.ProtocolFrames.other_seat}
use Rattle.mk_core.specs.History.{AreOfOthers, Finding, is_same_seat, own_from, left_from}
use Rattle.mk_words.proofs.Seats.{same_seat, same_self}

own_append : (c : Config) (s : Seat) (w : World) (xs ys : List Event)
    → own_from c s w (xs ++ ys) ≡ own_from c s w xs ++ own_from c s (left_from c w xs) ys
unfolding own_from left_from
own_append c s w [] ys = refl
own_append c s w (e ∷ xs) ys =
    by (is_same_seat s e.seat) (record { event = e; found = found c w.now e }) _ _ _
    (own_append c s (world_behind c w e) xs ys)
  where
    by : (b : Bool) (f : Finding) (a x y : List Finding) → a ≡ x ++ y
        → (if b then f ∷ a else a) ≡ (if b then f ∷ x else x) ++ y
    by true f a x y is = ap (λ l. f ∷ l) is
    by false f a x y is = is

not_same : (s t : Seat) → is_one_of (s ∷ []) t ≡ false → is_same_seat s t ≡ false
not_same s t h = by (is_same_seat s t) refl
  where
    by : (b : Bool) → is_same_seat s t ≡ b → is_same_seat s t ≡ false
    by false is = is
    by true is = absurd (other_seat s t h (sym (same_seat s t is)))

skips : (b : Bool) (f : Finding) (l : List Finding) → b ≡ false → (if b then f ∷ l else l) ≡ l
skips b f l is = ap (λ (b : Bool). if b then f ∷ l else l) is

own_of_others : (c : Config) (s : Seat) (w : World) (es : List Event) → AreOfOthers (s ∷ []) es → own_from c s w es ≡ []
unfolding own_from AreOfOthers
own_of_others c s w [] others = refl
own_of_others c s w (e ∷ es) others =
    skips (is_same_seat s e.seat) (record { event = e; found = found c w.now e }) (own_from c s (world_behind c w e) es)
    (not_same s e.seat others.0) ∙ own_of_others c s (world_behind c w e) es others.1

abbrev pub steps_from : Config → Seat → World → List Event → List Step
steps_from c s w es = map (λ (x : Finding). x.event.step) (own_from c s w es)

pub steps_append : (c : Config) (s : Seat) (w : World) (xs ys : List Event)
    → steps_from c s w (xs ++ ys) ≡ steps_from c s w xs ++ steps_from c s (left_from c w xs) ys
steps_append c s w xs ys =
    ap (λ (l : List Finding). map (λ (x : Finding). x.event.step) l) (own_append c s w xs ys)
    ∙ map-append (λ (x : Finding). x.event.step) (own_from c s w xs) (own_from c s (left_from c w xs) ys)

one_own : (c : Config) (s : Seat) (w : World) (x : Step)
    → steps_from c s w (record { seat = s; step = x } ∷ []) ≡ x ∷ []
unfolding own_from
one_own c s w x = rw (same_self s) refl

-- one own step after what others did
pub own_step : (c : Config) (s : Seat) (w : World) (others : List Event) (x : Step) → AreOfOthers (s ∷ []) others
    → steps_from c s w (others ++ record { seat = s; step = x } ∷ []) ≡ x ∷ []
own_step c s w others x of_others =
    steps_append c s w others (record { seat = s; step = x } ∷ [])
    ∙ ap (λ (l : List Finding). map (λ (f : Finding). f.event.step) l ++ steps_from c s (left_from c w others)
    (record { seat = s; step = x } ∷ [])) (own_of_others c s w others of_others) ∙ one_own c s (left_from c w others) x
