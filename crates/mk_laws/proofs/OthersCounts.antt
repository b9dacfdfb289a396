-- While a seat holds the turn, no other ends a cycle, and none is answered Full.
use Rattle.std.proofs.{Common.count_by, lemmas.List.Sums.sum_by-append}
use Rattle.mk_laws.proofs.Vocabulary.{Answer, Bool, Caller, Config, Decided, Flight, Group, List, Moment, None, Op}
use Rattle.mk_laws.proofs.Vocabulary.{Option, Progress, Seat, Some, Stage, Step, ℕ, answer_decided, answered, arith}
use Rattle.mk_laws.proofs.Vocabulary.{begun, cond, entry_of, false, flight_of, group_of, if◌then◌else◌, is_end}
use Rattle.mk_laws.proofs.Vocabulary.{is_some_and, map-append, progress_read, progress_reg, refl, still, true, ◌++◌}
use Rattle.mk_laws.proofs.{Vocabulary.{◌+◌, ◌==◌, ◌≡◌}, Basics.{Actor, AsHolder, AsMarker, HoldsTurn, InCallOf}}
use Rattle.mk_laws.proofs.{Basics.view_of, Actors.{CallTakes, HostTakes}}
use Rattle.mk_core.specs.Counts.{is_full_answer}

abbrev pub answers_full : Option Answer → Bool
answers_full a = is_some_and is_full_answer a

either_answer : (b : Bool) (p q : Progress) → answers_full p.answer ≡ false → answers_full q.answer ≡ false
    → answers_full (if b then p else q).answer ≡ false
either_answer true p q hp hq = hp
either_answer false p q hp hq = hq

reg_answer : (f : Flight) (s : Stage) (n : ℕ) → answers_full (progress_reg f s n).answer ≡ false
reg_answer f Stage.LoadQ n = grind (arith, either_answer)
reg_answer f Stage.LoadP n = grind (arith, either_answer)
reg_answer f _ n = refl

read_answer : (f : Flight) (o : Op) (n : ℕ) → answers_full (progress_read f o n).answer ≡ false
read_answer f (Op.GetPtr d q i) n = refl
read_answer f _ n = refl

call_no_end : (x : Step) → group_of x ≡ Group.Callers → is_end x ≡ false
call_no_end Step.End g = cc
call_no_end _ g = refl

-- one event of a seat that doesn't hold the turn
pub counts_nothing : (c : Config) (m : Moment) (seat : Seat) (x : Step) → (HoldsTurn c (view_of m) seat → ⊥)
    → Actor c m seat x
    → (is_end x ≡ false) × (answers_full (answer_decided c m (record { seat = seat; step = x })) ≡ false)
counts_nothing c m seat x out (InCallOf k _ lt g) = grind (arith, call_no_end, either_answer, reg_answer, read_answer)
counts_nothing c m seat x out (AsMarker k _ lt g) = grind arith
counts_nothing c m seat x out (CallTakes k o lt idle is) = (
  refl,
  either_answer (m.words.turn == 0) (record { flight = begun o; answer = None })
      (still (flight_of m (Caller k))) refl refl,
)
counts_nothing c m seat x out (HostTakes free) = (refl, refl)
counts_nothing c m seat x out (AsHolder _ _ t n) = absurd (out t)

-- and so the counts

abbrev pub fulls_of : List Decided → ℕ
fulls_of ds = count_by is_full_answer (answered ds)

pub entry_fulls : (k : ℕ) (o : Op) (a : Option Answer) → answers_full a ≡ false → fulls_of (entry_of k o a) ≡ 0
entry_fulls k o (Some Answer.Full) h = cc
entry_fulls k o _ h = refl

pub fulls_append : (xs ys : List Decided) → fulls_of (xs ++ ys) ≡ fulls_of xs + fulls_of ys
fulls_append xs ys = rw (map-append (λ (d : Decided). d.answer) xs ys)
    (sum_by-append (λ (a : Answer). cond {A = ℕ} (is_full_answer a) 1 0) (answered xs) (answered ys))
