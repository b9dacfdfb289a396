-- What frees an object decides a Free.
use Rattle.mk_trace.proofs.Vocabulary.{Answer, Cell, Config, Decided, Flight, Moment, Op, Seat, Stage, Step}
use Rattle.mk_trace.proofs.Vocabulary.{call_decided, decides_freed, entry_of, flagged, flight_of}
use Rattle.mk_heap.proofs.Below.Laws.Vocabulary.{Bool, None, Option, ℕ, arith, false, if◌then◌else◌, is_free_at}
use Rattle.mk_heap.proofs.Below.Laws.Vocabulary.{is_some, list_any}
use Rattle.mk_heap.proofs.Below.Laws.Vocabulary.{progress_freed, true, ◌≡◌}

abbrev pub is_free : Op → Bool
is_free (Op.Free p) = true
is_free _ = false

abbrev pub is_free_call : Decided → Bool
is_free_call x = is_free x.op

pub flagged_free : (o : Op) (a : Answer) → is_free (flagged o a) ≡ is_free o
flagged_free o a = grind arith

frees_at : (s : Stage) (o : Op) → is_free_at s o ≡ true → is_free o ≡ true
frees_at x0 x1 h = grind arith

some_by_test : (b : Bool) (x : Option Cell) → is_some (if b then x else None) ≡ true → (b ≡ true) × (is_some x ≡ true)
some_by_test x0 x h = grind arith

decided_by_cell : (k : ℕ) (f : Flight) (cell : Option Cell) → is_some cell ≡ true → is_free f.op ≡ true
    → list_any is_free_call (entry_of k f.op (progress_freed f cell).answer) ≡ true
decided_by_cell k f x2 some free = grind (arith, flagged_free)

pub frees_decide : (c : Config) (m : Moment) (seat : Seat) (s : Step) → decides_freed c m (flight_of m seat) s ≡ true
    → list_any is_free_call (call_decided c m (record { seat = seat; step = s })) ≡ true
frees_decide c m seat x3 h = grind (arith, decided_by_cell, some_by_test, frees_at)

-- What frees is a `quar`.
pub freeing_is : (kind : Step → Bool) → ((p v : ℕ) → kind (Step.Quar p v) ≡ false) → (c : Config) (m : Moment)
    (f : Flight) (x : Step) → decides_freed c m f x ≡ true → kind x ≡ false
freeing_is kind quar c m f x5 h = grind arith
