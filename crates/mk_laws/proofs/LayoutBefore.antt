-- What is known of a world before an event, and what is to show after it.
use Rattle.mk_laws.proofs.Vocabulary.{Among, AreOfPages, Bool, Claim, Config, Ground, IsWithinLimits, LayoutPremises}
use Rattle.mk_laws.proofs.Vocabulary.{Seat, Step, World, ℕ, arith, claims_on, false, ground_of, is_phase}
use Rattle.mk_laws.proofs.Vocabulary.{is_released_in, length, ltb-true, nat_lt, object_now, true, ◌<◌, ◌≡◌}
use Rattle.mk_core.proofs.RegisterAccesses.{LeavesTable, register_leaves}
use Rattle.mk_laws.proofs.{Known.Known, OthersMoves.WorldBehind, SameWords.Keeps, SameWords.reg_keeps, Serving.Laid}

-- all that is known of the world before
pub record Before (c : Config) (w : World) : Type 0 where
  pub limits : IsWithinLimits c
  pub lengths : AreOfPages c.pages w.now.words
  pub known : Known c w.now
  pub others : LayoutPremises c w
  -- no claim's cell is released
  pub unreleased : is_phase w.now.words 4 ≡ true → (x : Claim)
      → Among x (claims_on c (object_now c w.now) (ground_of w))
      → is_released_in true w.now.words.snapshot w.now.words.marks x.page x.index ≡ false

-- laid out as at that moment, but for the terrain
abbrev pub LaidNow : Config → World → Ground → Type 0
LaidNow c w t = Laid c (object_now c w.now) (is_phase w.now.words 4) w t

-- whether released cells are there after a step
abbrev pub is_releasing_behind : Step → Bool → Bool
is_releasing_behind Step.Release b = true
is_releasing_behind Step.End b = false
is_releasing_behind _ b = b

abbrev pub LaidBehind : Config → World → Step → Ground → Type 0
LaidBehind c w x t = Laid c (object_now c w.now) (is_releasing_behind x (is_phase w.now.words 4)) w t

pub page_within : (c : Config) (w : World) (p : ℕ) → Before c w → nat_lt p c.pages ≡ true → p < length w.now.words.pages
page_within c w p b h = let lt = ltb-true p c.pages h in let len = b.lengths.pages in omega arith

-- A `reg` leaves the protocol's words, and the ground's.
pub reg_leaves : (c : Config) (w : World) (seat : Seat) → Keeps w.now.words (WorldBehind c w seat Step.Reg).now.words
reg_leaves c w seat = grind (arith, reg_keeps)

pub reg_leaves_ground : (c : Config) (w : World) (seat : Seat)
    → LeavesTable w.now.words (WorldBehind c w seat Step.Reg).now.words
reg_leaves_ground c w seat = register_leaves w.now.words _ _ _
