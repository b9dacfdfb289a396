-- The kinds of step that the parts of a cycle are made of, and what the turn's holder finds unchanged over each part.
use Rattle.std.specs.Prelude.{Bool, true, false, ◌≡◌, ℕ, ◌<◌, [], None}
use Rattle.mk_core.specs.{Frames.{Steady, steady_of, CountsAreLeft}, Moments.{Moment, is_held}, NewPlaces.is_run_gone}
use Rattle.mk_core.specs.{declared.events.Step.Step, declared.events.Word.Word, declared.seats.Holding.Holding}
use Rattle.mk_words.specs.{States.{PassState, world_of, now_of, call_of}, Steps.Does}

-- it is a look
abbrev pub is_look : Step → Bool
is_look (Step.Look x) = true
is_look _ = false

-- it is a `want`
abbrev pub is_want : Step → Bool
is_want Step.Want = true
is_want _ = false

-- what an engine does after a `begin`
abbrev pub begins_marking : Step → Bool
begins_marking (Step.Look x) = true
begins_marking (Step.Hold j) = true
begins_marking (Step.Open j) = true
begins_marking (Step.Mark p v) = true
begins_marking _ = false

-- before a `begin`: the marks of the cycle before are cleared, the snapshot is taken, and nothing is fresh
abbrev pub clears : Step → Bool
clears (Step.Look x) = true
clears (Step.Clear p) = true
clears (Step.Unblack p) = true
clears (Step.Undirty p) = true
clears (Step.Quar p v) = true
clears (Step.Tally n v) = true
clears _ = false

-- before the stop: the gates are held, of which each is looked at first
abbrev pub holds_gates : Step → Bool
holds_gates (Step.Look (Word.Gate j)) = true
holds_gates (Step.Hold j) = true
holds_gates _ = false

-- After a `release` what is released is wiped and given back. A gate is opened only while one is held.
abbrev pub is_giving_back : Step → Bool
is_giving_back (Step.Look x) = true
is_giving_back (Step.Open j) = true
is_giving_back (Step.Wipe n) = true
is_giving_back (Step.Used p v) = true
is_giving_back (Step.Quar p v) = true
is_giving_back (Step.Head p v) = true
is_giving_back (Step.Tally n v) = true
is_giving_back _ = false

-- after an `end`: the tallies are set
abbrev pub sets_tallies : Step → Bool
sets_tallies (Step.Look x) = true
sets_tallies (Step.Tally n v) = true
sets_tallies _ = false

-- what was done in the turn, but for the last look: the place of a New, the run that a Free freed, and the own cycle
abbrev pub done_of : Moment → Holding
done_of m = record m.seats.holding { hand = None }

-- The run that the call freed, if it freed one, is unmapped and wiped.
abbrev pub IsGone : PassState → Type 0
IsGone p = is_run_gone (now_of p).words (now_of p).seats.holding.freed ≡ true

-- The holder is at the same point of its call, and has done as much in its turn.
pub record KeepsCall (p q : PassState) : Type 0 where
  pub pass : q ≡ record p { seen = q.seen }
  pub call : call_of q ≡ call_of p
  pub done : done_of (now_of q) ≡ done_of (now_of p)
  pub gone : IsGone p → IsGone q

-- All else that only the holder changes is the same as well, as far as this view of it shows.
pub record LeavesTurn (view : Steady → Steady) (p q : PassState) : Type 0 where
  pub call : KeepsCall p q
  pub steady : view (steady_of (world_of q)) ≡ view (steady_of (world_of p))
  pub counts : CountsAreLeft p.table.config p.seen q.seen

-- The holder holds the same gates.
abbrev pub KeepsGates : PassState → PassState → Type 0
KeepsGates p q = (j : ℕ) → j < p.table.config.callers → is_held (now_of q).words j ≡ is_held (now_of p).words j

-- the view that shows all
abbrev pub unchanged : Steady → Steady
unchanged s = s

-- the view that leaves the phase out
abbrev pub but_phase : Steady → Steady
but_phase s = record s { phase = 0 }

-- the view without what is made ready for a `begin`: the snapshot, and the counts of what is fresh
abbrev pub but_cleaned : Steady → Steady
but_cleaned s = record s { snapshot = []; fresh = 0; fresh_words = 0 }

-- The holder did only such steps, and left all else as it was.
pub record OnlyDoes (kinds : Step → Bool) (p q : PassState) : Type 0 where
  pub does : Does kinds p q
  pub keeps : LeavesTurn unchanged p q
  pub gates : KeepsGates p q
