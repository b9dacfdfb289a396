-- A marker that doesn't attend is in the middle of nothing, and stays so.
use Rattle.mk_laws.proofs.Vocabulary.{Bool, Config, IsIdle, MarkerState as Marker, Step, Word, ℕ, and_parts, ap, arith}
use Rattle.mk_laws.proofs.Vocabulary.{behind_mlook, cases_Bool, false, has_next_word, inl, inr, is_attending}
use Rattle.mk_laws.proofs.Vocabulary.{is_scanned, marker_behind, marker_may, refl, sym, true, ◌∙◌, ◌≡◌}
use Rattle.mk_laws.proofs.ProtocolMoves.{IdlesOutside}

-- what a marker has only while it attends

attends : (x : Marker) → IdlesOutside x → (b : Bool) → b ≡ true → (IsIdle x → b ≡ false)
    → is_attending x.presence ≡ true
attends x h b s none =
    elim (cases_Bool (is_attending x.presence)) [ inl e ↦ e | inr e ↦ let f = sym s ∙ none (h e) in cc ]

-- Whoever looks, claims, loads, marks or blackens attends.
abbrev pub is_work : Step → Bool
is_work (Step.Mlook w) = true
is_work (Step.Claim p i) = true
is_work Step.Mload = true
is_work Step.Mmark = true
is_work Step.Mblack = true
is_work _ = false

pub work_attends : (c : Config) (x : Marker) (s : Step) → IdlesOutside x → marker_may c x s ≡ true → is_work s ≡ true
    → is_attending x.presence ≡ true
work_attends c x (Step.Mlook w) h m k = (and_parts _ _ m).0
work_attends c x (Step.Claim p i) h m k = (and_parts _ _ (and_parts _ _ m).0).0
work_attends c x Step.Mload h m k = attends x h _ (and_parts _ _ m).0 (λ i. ap has_next_word i.scan)
work_attends c x Step.Mmark h m k = grind (arith, attends)
work_attends c x Step.Mblack h m k = attends x h _ (and_parts _ _ m).0 (λ i. ap is_scanned i.scan)
work_attends c x _ h m k = cc

-- it keeps its presence, so all is said

pub look_stays : (c : Config) (n : ℕ) (w : Word) (x : Marker) → (behind_mlook c n w x).presence ≡ x.presence
look_stays c n (Word.Head p) x = refl
look_stays c n _ x = refl

pub work_stays : (c : Config) (n : ℕ) (s : Step) (x : Marker) → is_work s ≡ true
    → (marker_behind c n s x).presence ≡ x.presence
work_stays c n (Step.Mlook w) x k = look_stays c n w x
work_stays c n _ x k = cc

pub work_idles : (c : Config) (n : ℕ) (s : Step) (x : Marker) → marker_may c x s ≡ true → is_work s ≡ true
    → IdlesOutside x → IdlesOutside (marker_behind c n s x)
work_idles c n s x m k h e =
    let f : true ≡ false = sym (work_attends c x s h m k) ∙ ap is_attending (sym (work_stays c n s x k)) ∙ e in
    cc
