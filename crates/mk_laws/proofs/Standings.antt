-- Where a caller stands, and what the turn word and its gate show of it.
use Rattle.mk_laws.proofs.Vocabulary.{Bool, Flight, Op, Stage, ℕ, arith, false, is_under_turn, not, true, ◌&&◌, ◌+◌}
use Rattle.mk_laws.proofs.{Vocabulary.{◌↔◌, ◌≡◌, ◌≢◌, ◌≤◌}, Protocol.has_stage}
use Rattle.mk_core.specs.Readings.{is_idle}

-- between calls, in a call outside the turn, in a New or a Free, or at a stage that the operation hasn't
pub data Standing : Type 0 where
  Resting InCall UnderTurn Astray : Standing

abbrev pub standing_in : Bool → Bool → Standing
standing_in false under = Astray
standing_in true false = InCall
standing_in true true = UnderTurn

abbrev pub standing_at : Stage → Op → Standing
standing_at Stage.Idle o = Resting
standing_at s o = standing_in (has_stage o s) (is_under_turn o)

abbrev pub standing : Flight → Standing
standing f = standing_at f.stage f.op

abbrev pub is_astray : Standing → Bool
is_astray Astray = true
is_astray _ = false

abbrev pub is_standing_in_call : Standing → Bool
is_standing_in_call InCall = true
is_standing_in_call _ = false

abbrev pub is_standing_under_turn : Standing → Bool
is_standing_under_turn UnderTurn = true
is_standing_under_turn _ = false

-- the turn word, the gate word and the number of a caller that stands so
abbrev pub Shows : ℕ → ℕ → ℕ → Standing → Type 0
Shows turn gate k Resting = (gate ≢ 1) × (gate ≤ 2) × (turn ≡ 0 → gate ≡ 0) × (turn ≢ 1 + k)
Shows turn gate k InCall = (gate ≡ 1) × (turn ≢ 1 + k)
Shows turn gate k UnderTurn = (gate ≡ 0) × (turn ≡ 1 + k)
Shows turn gate k Astray = ⊥

pub shown_not_astray : (t g k : ℕ) (s : Standing) → Shows t g k s → is_astray s ≡ false
shown_not_astray t g k s h = grind arith

-- what it says of the call

pub in_call_told : (s : Stage) (o : Op) → is_astray (standing_at s o) ≡ false
    → is_standing_in_call (standing_at s o) ≡ (not (is_idle s) && not (is_under_turn o))
in_call_told s o h = grind arith

pub in_turn_told : (s : Stage) (o : Op) → is_astray (standing_at s o) ≡ false
    → is_standing_under_turn (standing_at s o) ≡ (not (is_idle s) && is_under_turn o)
in_turn_told s o h = grind arith

pub stage_told : (s : Stage) (o : Op) → is_astray (standing_at s o) ≡ false → has_stage o s ≡ true
stage_told s o h = grind arith

pub under_turn_is : (s : Standing) → is_standing_under_turn s ≡ true → s ≡ UnderTurn
under_turn_is s h = grind arith

pub in_call_is : (s : Standing) → is_standing_in_call s ≡ true → s ≡ InCall
in_call_is s h = grind arith

-- another takes the turn
pub shows_taken : (g b n : ℕ) (s : Standing) → n ≢ b → Shows 0 g b s → Shows (1 + n) g b s
shows_taken g b n s ne h = grind arith

-- another gives it
pub shows_given : (t g b n : ℕ) (s : Standing) → n ≢ b → t ≡ 1 + n → g ≢ 2 → Shows t g b s → Shows 0 g b s
shows_given t g b n s ne is free h = grind arith

-- its gate is held while another has the turn, and opened
pub shows_held : (t b n : ℕ) (s : Standing) → n ≢ b → t ≡ 1 + n → Shows t 0 b s → Shows t 2 b s
shows_held t b n s ne is h = grind arith

pub shows_opened : (t b n : ℕ) (s : Standing) → n ≢ b → t ≡ 1 + n → Shows t 2 b s → Shows t 0 b s
shows_opened t b n s ne is h = grind arith

-- what the two words say
pub shows_turn : (t g k : ℕ) (s : Standing) → Shows t g k s → (t ≡ 1 + k) ↔ (is_standing_under_turn s ≡ true)
shows_turn t g k s h = grind arith

pub shows_gate : (t g k : ℕ) (s : Standing) → Shows t g k s
    → (g ≤ 2) × ((g ≡ 1) ↔ (is_standing_in_call s ≡ true)) × (g ≡ 2 → (t ≢ 0) × (t ≢ 1 + k))
shows_gate t g k s h = grind arith
