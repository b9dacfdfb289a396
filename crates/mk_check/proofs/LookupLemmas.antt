-- What a look into a list of references gives.
use Rattle.std.proofs.lemmas.Option.{slice_get-map, slice_get_past, slice_get_read}
use Rattle.std.specs.{Borrow.Bor, Option.option_copied, Slice.IsItemAt}
use Rattle.mk_check.proofs.Vocabulary.{List, None, Option, Some, ℕ, ap, length, map}
use Rattle.mk_check.proofs.Vocabulary.{option_map, refl, slice_get, sym, ◌∙◌, ◌≡◌}

pub seen_at : {X : Type 0} (values : List (Bor X)) (n : ℕ) (r : Option (Bor (Bor X))) → IsItemAt values n r
    → option_copied (option_copied r) ≡ slice_get (map (λ (v : Bor X). v.now) values) n
seen_at {X} values n None h = sym (slice_get-map (λ (v : Bor X). v.now) values n
    ∙ ap (option_map (λ (v : Bor X). v.now)) (slice_get_past values n h.3))
seen_at {X} values n (Some x) h = sym (slice_get-map (λ (v : Bor X). v.now) values n
    ∙ ap (option_map (λ (v : Bor X). v.now)) (slice_get_read values (length values) n x.now refl h.3.0 h.1))
