-- Histories in two parts.
use Rattle.std.proofs.Common.{append_assoc}
use Rattle.mk_core.proofs.Vocabulary.{AreEnabledFrom, Config, Event, IsEnabled, List, World, ap, append-nil, calls_from}
use Rattle.mk_core.proofs.Vocabulary.{left_from, refl, sym, world_behind, [], ◌++◌, ◌∙◌, ◌∷◌, ◌≡◌}
use Rattle.mk_core.specs.{Calls.Decided, History.call_decided}

pub left_append : (c : Config) (w : World) (xs ys : List Event)
    → left_from c w (xs ++ ys) ≡ left_from c (left_from c w xs) ys
unfolding left_from
left_append c w [] ys = refl
left_append c w (x ∷ xs) ys = left_append c (world_behind c w x) xs ys

pub enabled_append : (c : Config) (w : World) (xs ys : List Event)
    → AreEnabledFrom c w xs → AreEnabledFrom c (left_from c w xs) ys → AreEnabledFrom c w (xs ++ ys)
unfolding left_from AreEnabledFrom
enabled_append c w [] ys h k = k
enabled_append c w (x ∷ xs) ys h k = (h.0, enabled_append c (world_behind c w x) xs ys h.1 k)

pub enabled_parts : (c : Config) (w : World) (xs ys : List Event)
    → AreEnabledFrom c w (xs ++ ys) → AreEnabledFrom c w xs × AreEnabledFrom c (left_from c w xs) ys
unfolding left_from AreEnabledFrom
enabled_parts c w [] ys h = (tt, h)
enabled_parts c w (x ∷ xs) ys h = let parts =
    enabled_parts c (world_behind c w x) xs ys h.1 in ((h.0, parts.0), parts.1)

pub calls_append : (c : Config) (w : World) (xs ys : List Event)
    → calls_from c w (xs ++ ys) ≡ calls_from c w xs ++ calls_from c (left_from c w xs) ys
unfolding left_from calls_from
calls_append c w [] ys = refl
calls_append c w (x ∷ xs) ys =
    ap (λ (zs : List Decided). call_decided c w.now x ++ zs) (calls_append c (world_behind c w x) xs ys)
    ∙ sym (append_assoc (call_decided c w.now x) _ _)

-- with one event more

pub left_more : (c : Config) (w : World) (es : List Event) (e : Event)
    → left_from c w (es ++ e ∷ []) ≡ world_behind c (left_from c w es) e
unfolding left_from
left_more c w es e = left_append c w es (e ∷ [])

pub enabled_more : (c : Config) (w : World) (es : List Event) (e : Event) → AreEnabledFrom c w es
    → IsEnabled c (left_from c w es).now e → AreEnabledFrom c w (es ++ e ∷ [])
unfolding AreEnabledFrom
enabled_more c w es e h x = enabled_append c w es (e ∷ []) h (x, tt)

-- the last event was enabled after the others
pub last_enabled : (c : Config) (w : World) (es : List Event) (e : Event) → AreEnabledFrom c w (es ++ e ∷ [])
    → IsEnabled c (left_from c w es).now e
unfolding AreEnabledFrom
last_enabled c w es e h = (enabled_parts c w es (e ∷ []) h).1.0

pub calls_more : (c : Config) (w : World) (es : List Event) (e : Event)
    → calls_from c w (es ++ e ∷ []) ≡ calls_from c w es ++ call_decided c (left_from c w es).now e
unfolding calls_from
calls_more c w es e = calls_append c w es (e ∷ []) ∙ ap (λ (zs : List Decided). calls_from c w es ++ zs) (append-nil _)
