-- A caller's calls are those that its script notes, and its call in flight is what the script asks for next.
use Rattle.std.specs.Prelude.{⊤}
use Rattle.mk_replay.proofs.Vocabulary.{Answer, AreEnabled, Caller, Config, Event, Flight, Item, Moment, Op, Stage}
use Rattle.mk_replay.proofs.Vocabulary.{Step, asked, at_rest, calls, comes_next, ends_call, entry_of, flight_of, left}
use Rattle.mk_replay.proofs.Vocabulary.{length-append, progress, take_all}
use Rattle.mk_laws.proofs.Vocabulary.{Bool, Call, Cell, List, None, Option, Progress, Some, ℕ, ap, append-nil, arith}
use Rattle.mk_laws.proofs.Vocabulary.{begun, false, flagged, if◌then◌else◌, length, progress_freed, progress_p}
use Rattle.mk_laws.proofs.Vocabulary.{progress_reg, refl, still, subst, sym, take, true, [], ◌++◌, ◌+◌, ◌==◌, ◌∙◌, ◌∷◌}
use Rattle.mk_laws.proofs.Vocabulary.{◌≡◌, ◌≢◌, ◌≤◌}
use Rattle.mk_check.proofs.GivenAnswers.{Serves, as_list, counted, serves}
use Rattle.mk_check.proofs.AdmittedScripts.{answers_are_noted, others_are_ignored}
use Rattle.mk_check.specs.{Feeding.next_op, Laws.AreNotedBy, Feed.{answers_among, ended_calls}}

-- the first step of a call
abbrev pub begins_call : Step → Bool
begins_call (Step.Enter o) = true
begins_call (Step.Take (Some o)) = true
begins_call _ = false

-- A call keeps its operation up to its last step.

either_op : (b : Bool) (x y : Progress) (o : Op) → x.flight.op ≡ o → y.flight.op ≡ o
    → (if b then x else y).flight.op ≡ o
either_op x0 x y o a b = grind arith

p_op : (f : Flight) (o : Op) (n : ℕ) → (progress_p f o n).flight.op ≡ f.op
p_op f x1 n = grind (arith, either_op)

reg_op : (f : Flight) (s : Stage) (n : ℕ) → (progress_reg f s n).flight.op ≡ f.op
reg_op f x1 n = grind (arith, p_op, either_op)

freed_op : (f : Flight) (x : Option Cell) → (progress_freed f x).flight.op ≡ f.op
freed_op f x1 = grind arith

op_stays : (c : Config) (m : Moment) (f : Flight) (n : ℕ) (x : Step) → begins_call x ≡ false → ends_call x ≡ false
    → (progress c m f n x).flight.op ≡ f.op
op_stays c m f n x4 b e = grind (arith, reg_op, either_op, freed_op)

-- Where n calls of a caller have ended, n of its answers are decided, or one more.

abbrev flight : Stage → Op → ℕ → ℕ → ℕ → ℕ → Flight
flight s o q p r l = record { stage = s; op = o; q = q; p = p; r = r; loaded = l }

abbrev pub Waits : ℕ → List Answer → Type 0
Waits n answers = (n ≤ length answers) × (length answers ≤ n + 1)

at_stage : (s : Stage) (o : Op) (q p r l n : ℕ) (answers : List Answer) → Serves 1 (flight s o q p r l ∷ []) 0 n answers
    → Waits n answers
at_stage x0 o q p r l n answers h = grind arith

pub waits : (c : Config) (es : List Event) (k : ℕ) → AreEnabled c es
    → Waits (ended_calls k es) (answers_among k (calls c es))
waits c es k enabled =
    let f = flight_of (left c es).now (Caller k) in
    let h = serves c es k enabled in
    at_stage f.stage f.op f.q f.p f.r f.loaded (ended_calls k es) (answers_among k (calls c es))
    (record { long = refl; stage = h.stage; decided = h.decided })

-- The caller's calls are those that script k notes, fed with the answers; n of them have ended. Where its call in
-- flight isn't decided, it is what the script asks for next.
pub record Asks (program : List Item) (k : ℕ) (f : Flight) (n : ℕ) (answers : List Answer) (calls : List Call) : Type 0
  where
    pub noted : AreNotedBy program k answers calls
    pub next : length answers ≡ n → f.stage ≢ Stage.Idle → next_op program k answers ≡ Some f.op

pub same_asks : {program : List Item} {k : ℕ} {f : Flight} (g : Flight) {n : ℕ} (i : ℕ) {answers : List Answer}
    (given : List Answer)
    {calls : List Call} (made : List Call)
    → g ≡ f → i ≡ n → given ≡ answers → made ≡ calls → Asks program k f n answers calls → Asks program k g i given made
same_asks g i given made a b d e h = rw (a, b, d, e) h

-- What script k asks for next, where this is the step that begins a call.
abbrev pub BeginsAsAsked : List Item → ℕ → List Answer → Step → Type 0
BeginsAsAsked program k given (Step.Enter o) = next_op program k given ≡ Some o
BeginsAsAsked program k given (Step.Take (Some o)) = next_op program k given ≡ Some o
BeginsAsAsked program k given _ = ⊤

module _ {program : List Item} {k : ℕ} {f : Flight} {n : ℕ} {answers : List Answer} {calls : List Call}
    (h : Asks program k f n answers calls) where
  -- after a step that decides nothing
  quiet : (new : Flight) (i : ℕ) → (length answers ≡ i → new.stage ≢ Stage.Idle
      → next_op program k answers ≡ Some new.op) → Asks program k new i (answers ++ []) (calls ++ [])
  quiet new i next = grind (arith, same_asks, append-nil)

  -- after one that isn't its call's first or last one
  decides : (new : Flight) (a : Option Answer) → new.op ≡ f.op → f.stage ≢ Stage.Idle → ((b : Answer) → a ≡ Some b
      → length answers ≡ n) → Asks program k new n (answers ++ as_list a) (calls ++ asked (entry_of k f.op a))
  decides new (Some a) same busy once = record {
    noted = answers_are_noted program k answers calls h.noted f.op a (h.next (once a refl) busy);
    next = λ e. (let few = once a refl in let more = length-append answers (a ∷ []) in absurd (omega arith));
  }
  decides new None same busy once = quiet new n (λ few _. h.next few busy ∙ ap Some (sym same))

  -- what one of the caller's own steps leaves
  abbrev pub OwnAsks : ℕ → Progress → Type 0
  OwnAsks i p = Asks program k p.flight i (answers ++ as_list p.answer) (calls ++ asked (entry_of k f.op p.answer))

  begins : (o : Op) → next_op program k (take n answers) ≡ Some o → (free : Bool)
      → OwnAsks n (if free then record { flight = begun o; answer = None } else still f)
  begins o next true =
      let all = λ (few : length answers ≡ n). take_all n answers (omega (arith, few)) in
      quiet (begun o) n (λ few _. subst (λ (xs : List Answer). next_op program k xs ≡ Some o) (all few) next)
  begins o next false = quiet f n h.next

  ends : OwnAsks (n + 1) (record { flight = at_rest; answer = None })
  ends = quiet at_rest (n + 1) (λ _ busy. absurd (busy refl))

  pub own_step : (c : Config) (m : Moment) (found : ℕ) (x : Step)
      → comes_next f.stage f.op x ≡ true → BeginsAsAsked program k (take n answers) x
      → (ends_call x ≡ false → (b : Answer) → (progress c m f found x).answer ≡ Some b → length answers ≡ n)
      → OwnAsks (counted n (ends_call x)) (progress c m f found x)
  own_step c m found (Step.Enter o) order begun once = begins o begun (found == 0)
  own_step c m found (Step.Take (Some o)) order begun once = begins o begun (found == 0)
  own_step c m found Step.Leave order begun once = ends
  own_step c m found Step.Give order begun once = ends
  own_step c m found x order begun once = let p = progress c m f found x in
      decides p.flight p.answer (op_stays c m f found x refl refl) (grind arith) (once refl)

  -- another's call, if one is decided
  pub others_step : (j : ℕ) (o : Op) (a : Option Answer) → j ≢ k
      → Asks program k f n answers (calls ++ asked (entry_of j o a))
  others_step j o None other = same_asks f n answers (calls ++ []) refl refl refl (append-nil calls) h
  others_step j o (Some a) other = record {
    noted = others_are_ignored program k answers calls h.noted (record { caller = j; op = flagged o a }) other;
    next = h.next;
  }
