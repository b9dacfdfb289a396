-- Laws of what steps do: one part after another, rounds, and text that stands before.
use Rattle.mk_check.proofs.Vocabulary.{Bool, KeptState, List, Steps, Stopped, ℕ, after_line, ap, append_assoc, arith}
use Rattle.mk_check.proofs.Vocabulary.{false, if◌then◌else◌, is_some, op_asked, refl, slice_index, stop_behind, stop_of}
use Rattle.mk_check.proofs.Vocabulary.{stop_of_rounds, suc, then_steps, true, zero, ◌++◌, ◌==◌, ◌∙◌, ◌≡◌}
use Rattle.mk_check.specs.Steps.{Choice, Done, Line, Rounds}

pub then_steps_assoc : (a b c : Steps) → then_steps (then_steps a b) c ≡ then_steps a (then_steps b c)
then_steps_assoc Done b c = refl
then_steps_assoc (Line line instruction rest) b c = ap (Line line instruction) (then_steps_assoc rest b c)
then_steps_assoc (Rounds rounds body rest) b c = ap (Rounds rounds body) (then_steps_assoc rest b c)
then_steps_assoc (Choice number first second rest) b c = ap (Choice number first second) (then_steps_assoc rest b c)

-- after a part that ran two others run as one
then_ran_then : (left : Steps) (kept : KeptState) (rest more : Steps)
    → ((k : KeptState) → stop_of (then_steps rest more) k ≡ stop_behind (stop_of rest k) (stop_of more) more)
    → stop_behind (record { left = left; kept = kept }) (stop_of (then_steps rest more)) (then_steps rest more)
    ≡ stop_behind (stop_behind (record { left = left; kept = kept }) (stop_of rest) rest) (stop_of more) more
then_ran_then x0 kept rest more h = grind (arith, then_steps_assoc)

-- One part runs, and then the other.
pub stop_of-then_steps : (a b : Steps) (k : KeptState) → stop_of (then_steps a b) k
    ≡ stop_behind (stop_of a k) (stop_of b) b
stop_of-then_steps Done b k = refl
stop_of-then_steps (Line line instruction rest) b k =
    by_test (is_some (op_asked k.numbers instruction)) (stop_of-then_steps rest b (after_line instruction k))
  where
    by_test : (t : Bool) → stop_of (then_steps rest b) (after_line instruction k)
        ≡ stop_behind (stop_of rest (after_line instruction k)) (stop_of b) b
        → (if t then record { left = Line line instruction (then_steps rest b); kept = k }
        else stop_of (then_steps rest b) (after_line instruction k))
        ≡ stop_behind (if t then record { left = Line line instruction rest; kept = k }
        else stop_of rest (after_line instruction k)) (stop_of b) b
    by_test x0 h = grind arith
stop_of-then_steps (Rounds rounds body rest) b k =
    let s = stop_of_rounds rounds body (stop_of body) k in
    then_ran_then s.left s.kept rest b (stop_of-then_steps rest b)
stop_of-then_steps (Choice number first second rest) b k =
    let s : Stopped = if slice_index k.numbers number == 0 then stop_of second k else stop_of first k in
    then_ran_then s.left s.kept rest b (stop_of-then_steps rest b)

-- A round more is the body, and then the other rounds.
pub stop_of-round : (more : ℕ) (body rest : Steps) (k : KeptState)
    → stop_of (Rounds (suc more) body rest) k ≡ stop_of (then_steps body (Rounds more body rest)) k
stop_of-round more body rest k = grind (arith, stop_of-then_steps, Rounds, then_steps_assoc)

pub stop_of-choice_zero : (number : ℕ) (first second rest : Steps) (k : KeptState) → (slice_index k.numbers number == 0)
    ≡ true → stop_of (Choice number first second rest) k ≡ stop_of (then_steps second rest) k
stop_of-choice_zero number first second rest k h = cc (stop_of-then_steps second rest k)

pub stop_of-choice_other : (number : ℕ) (first second rest : Steps) (k : KeptState)
    → (slice_index k.numbers number == 0) ≡ false
    → stop_of (Choice number first second rest) k ≡ stop_of (then_steps first rest) k
stop_of-choice_other number first second rest k h = cc (stop_of-then_steps first rest k)

-- Text before.

abbrev pub behind_text : List ℕ → KeptState → KeptState
behind_text text k = record k { text = text ++ k.text }

abbrev pub stopped_behind_text : List ℕ → Stopped → Stopped
stopped_behind_text text s = record s { kept = behind_text text s.kept }

stop_behind-text : (text : List ℕ) (left : Steps) (kept : KeptState) (go : KeptState → Stopped) (rest : Steps)
    → ((k : KeptState) → go (behind_text text k) ≡ stopped_behind_text text (go k))
    → stop_behind (record { left = left; kept = behind_text text kept }) go rest
    ≡ stopped_behind_text text (stop_behind (record { left = left; kept = kept }) go rest)
stop_behind-text text x1 kept go rest h = grind arith

stop_of_rounds-text : (text : List ℕ) (rounds : ℕ) (body : Steps) (go : KeptState → Stopped)
    → ((k : KeptState) → go (behind_text text k) ≡ stopped_behind_text text (go k)) → (k : KeptState)
    → stop_of_rounds rounds body go (behind_text text k) ≡ stopped_behind_text text (stop_of_rounds rounds body go k)
stop_of_rounds-text text zero body go h k = refl
stop_of_rounds-text text (suc more) body go h k =
    ap (λ (s : Stopped). stop_behind s (stop_of_rounds more body go) (Rounds more body Done)) (h k)
    ∙ stop_behind-text text (go k).left (go k).kept (stop_of_rounds more body go) (Rounds more body Done)
    (stop_of_rounds-text text more body go h)

-- Text that stands before stays before.
pub stop_of-text : (text : List ℕ) (steps : Steps) (k : KeptState)
    → stop_of steps (behind_text text k) ≡ stopped_behind_text text (stop_of steps k)
stop_of-text text Done k = refl
stop_of-text text (Line line instruction rest) k =
    by_test (is_some (op_asked k.numbers instruction)) (ap (stop_of rest) (grind (arith, append_assoc))
    ∙ stop_of-text text rest (after_line instruction k))
  where
    by_test : (t : Bool) → stop_of rest (after_line instruction (behind_text text k)) ≡ stopped_behind_text text
        (stop_of rest (after_line instruction k)) → (if t then record {
          left = Line line instruction rest;
          kept =
              behind_text text k;
        } else stop_of rest (after_line instruction (behind_text text k))) ≡ stopped_behind_text text
        (if t then record { left = Line line instruction rest; kept = k } else stop_of rest (after_line instruction k))
    by_test x0 h = grind arith
stop_of-text text (Rounds rounds body rest) k =
    let s = stop_of_rounds rounds body (stop_of body) k in
    ap (λ (t : Stopped). stop_behind t (stop_of rest) rest) (stop_of_rounds-text text rounds body (stop_of body)
    (stop_of-text text body) k) ∙ stop_behind-text text s.left s.kept (stop_of rest) rest (stop_of-text text rest)
stop_of-text text (Choice number first second rest) k =
    by_test (slice_index k.numbers number == 0) (stop_of-text text first k) (stop_of-text text second k)
    (stop_of-text text rest)
  where
    by_test : (t : Bool) → stop_of first (behind_text text k) ≡ stopped_behind_text text (stop_of first k)
        → stop_of second (behind_text text k) ≡ stopped_behind_text text (stop_of second k) → ((k' : KeptState)
        → stop_of rest (behind_text text k') ≡ stopped_behind_text text (stop_of rest k')) → stop_behind
        (if t then stop_of second (behind_text text k) else stop_of first (behind_text text k)) (stop_of rest) rest
        ≡ stopped_behind_text text (stop_behind (if t then stop_of second k else stop_of first k) (stop_of rest) rest)
    by_test x0 f g h = grind (arith, stop_behind-text)
