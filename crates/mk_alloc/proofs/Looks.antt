-- What a look of the turn's holder finds, and that it leaves all as it was.
use Rattle.mk_alloc.proofs.ObjectVocabulary.{Acts, IsAsLeft, IsTurn, Known, OnlyLooks, PassState, call_of, is_acting}
use Rattle.mk_alloc.proofs.ObjectVocabulary.{is_look, is_steady_word, now_of, steady_of, world_of}
use Rattle.mk_alloc.proofs.{Reaching.{GoesOn, IsCallers, reaches_nothing, reaches_still}, Unchanged.{HasCall, IsPlain}}
use Rattle.mk_alloc.proofs.{Unchanged.{OfCaller, acting_has_call, left_joined, left_same, look_leaves}, MayAct.IsActing}
use Rattle.mk_caller.proofs.Below.Laws.Vocabulary.{Config, Flight, Seat, Steady, Step, Word, World, ℕ, ap, arith, false}
use Rattle.mk_caller.proofs.Below.Laws.Vocabulary.{flight_of, left, lt-ltb, phase_of, quarantine_word, refl}
use Rattle.mk_caller.proofs.Below.Laws.Vocabulary.{slice_index, true, world_behind, ◌%◌, ◌++◌, ◌<◌, ◌∙◌, ◌≡◌}
use Rattle.mk_caller.{proofs.Below.Words.Made.{made}, specs.Below.Words.Steps.{Finds, may_decide, moment_of}}
use Rattle.mk_core.specs.Words.{named_word}

-- Who holds the turn exists, and is a caller where it is acting.

pub acting_now : {p : PassState} → IsTurn p → is_acting (call_of p).stage ≡ true
    → IsActing p.table.config (now_of p) p.seat
acting_now {p} turn acts = grind (arith, lt-ltb)

pub acting_caller : (p : PassState) → is_acting (call_of p).stage ≡ true → IsCallers p
acting_caller p acts = by p.seat refl acts
  where
    by : (s : Seat) → p.seat ≡ s → is_acting (flight_of (now_of p) s).stage ≡ true → IsCallers p
    by x0 is h = grind arith

-- A caller that holds the turn has a call.
pub caller_has_call : {p : PassState} (v : World) → IsCallers p → IsTurn p → Known p.table.config v.now
    → HasCall p.table.config v.now p.seat
caller_has_call {p} v caller turn known =
    let exists : caller.number < p.table.config.callers =
    (rw caller.is at turn.holds).0 in
    rw caller.is (OfCaller caller.number (rw (← known.orderly.flights) at exists))

-- where its call is the same, it is acting still
pub acts_there : {c : Config} {s : Seat} (w v : World) → IsActing c w.now s → flight_of v.now s ≡ flight_of w.now s
    → IsActing c v.now s
acts_there w v at call = record { there = at.there; acts = ap (λ (f : Flight). is_acting f.stage) call ∙ at.acts }

pub still_acting : {c : Config} {s : Seat} {w v : World} → IsActing c w.now s → IsAsLeft s w v → IsActing c v.now s
still_acting {w} {v} at kept = acts_there w v at kept.call

pub looks_on : (p : PassState) {x : Word} → IsActing p.table.config (now_of p) p.seat → IsPlain x
    → GoesOn p (IsAsLeft p.seat (world_of p)) (λ v. IsAsLeft p.seat (world_of p)
    (world_behind p.table.config v (record { seat = p.seat; step = Step.Look x })))
looks_on p at plain w v before kept known pages =
    let here = left_joined before kept in
    let call = acting_has_call known.orderly.flights (still_acting at here) in
    left_joined here (look_leaves v call plain)

-- Such a look decides nothing.
pub plain_is_idle : {x : Word} → IsPlain x → may_decide (Step.Look x) ≡ false
plain_is_idle x0 = grind arith

pub look_reaches : {p q : PassState} {x : Word} → IsTurn p → is_acting (call_of p).stage ≡ true
    → IsPlain x → Acts p (Step.Look x) q → OnlyLooks p q
look_reaches {p} turn acts plain a =
    reaches_still _ _ (reaches_nothing is_look p _ (left_same _ _)) a refl refl (acting_caller p acts) (plain_is_idle
    plain) (looks_on p (acting_now turn acts) plain)

-- What it finds is what the word is for the holder.
module _ {p q : PassState} {x : Word} {n : ℕ} (turn : IsTurn p) (f : Finds p (Step.Look x) n q) where
  same : steady_of (left p.table.config (p.seen ++ f.makes.others)) ≡ steady_of (world_of p)
  same = (((made p (Step.Look x) q f.makes).frame.turn turn.holds).0).steady

  pub found_steady : is_steady_word x ≡ true → n ≡ named_word (now_of p).words x
  found_steady steady = f.finds ∙ by x steady
    where
      by : (y : Word) → is_steady_word y ≡ true → named_word (moment_of f.makes).words y ≡ named_word (now_of p).words y
      by x0 h = grind (arith, same)

pub found_phase : {p q : PassState} {n : ℕ} → IsTurn p → Finds p (Step.Look Word.Phase) n q
    → n % 8 ≡ phase_of (now_of p).words
found_phase turn f = ap (λ i. i % 8) f.finds ∙ ap (λ (t : Steady). t.phase) (same turn f)

pub found_quarantine : {p q : PassState} {page n : ℕ} → IsTurn p
    → Finds p (Step.Look (Word.Quar page)) n q → n ≡ named_word (now_of p).words (Word.Quar page)
found_quarantine {page} turn f =
    f.finds
    ∙ ap (λ (t : Steady). quarantine_word (slice_index t.freed page) (slice_index t.snapshot page)) (same turn f)
