-- How a call goes on after a step, of whatever kind: the operation stays, and what is undecided goes on undecided.
use Rattle.mk_words.proofs.Below.Laws.Vocabulary.{Answer, Bool, Config, Flight, None, Op, Progress, Some, Stage, Step}
use Rattle.mk_words.proofs.Below.Laws.Vocabulary.{ℕ, ap, arith, at_rest, begun, false, header_of, if◌then◌else◌}
use Rattle.mk_words.proofs.Below.Laws.Vocabulary.{is_under_turn, is_unmapped_header, onward, progress_read}
use Rattle.mk_words.proofs.Below.Laws.Vocabulary.{progress_reg, refl, refused, stage_behind, steps_of, subst, sym, true}
use Rattle.mk_words.proofs.Below.Laws.Vocabulary.{[], ◌∙◌, ◌∷◌, ◌≡◌}
use Rattle.mk_core.specs.{Calls.progress_getg, Effects.progress_probe, Conditions.is_word_met}
use Rattle.mk_caller.proofs.{Enabling.caller_exists, OneStep.{goes_underway, one_step}}
use Rattle.mk_caller.specs.Moves.{CallMoves, IsUnderway, MayBeginCall, is_past_decision}
use Rattle.mk_caller.specs.{Moves.{is_stage_of, loads_register, stores_register}, States.Admits}
use Rattle.mk_words.{proofs.Made.pass_before, specs.{States.{PassState, call_of}, Steps.Goes}}

pub record Next (c : Config) (f : Flight) (x : Progress) : Type 0 where
  pub op : x.flight.op ≡ f.op
  pub undecided : is_past_decision x.flight.stage ≡ false → (x.answer ≡ None) × (is_past_decision f.stage ≡ false)
  pub page : x.flight.stage ≡ Stage.Dirty → is_word_met c x.flight ≡ true

-- A step of a call that may go on leaves one that may.
pub moves : {p : PassState} {s : Step} {x : Progress} {q : PassState} → IsUnderway p → Goes p s x q
    → Next p.table.config (call_of p) x → CallMoves p (call_of p).op s x q
moves {p} {s} {x} {q} u g next = record {
  makes = one_step p (call_of p).op s x q u.caller u.seat g u.entered refl;
  call = g.call;
  underway = goes_underway p (call_of p).op s x q u.caller u.seat g u.entered refl u.exists
      (ap (λ (o : Op). is_under_turn o) next.op ∙ u.entered)
      (λ h. let n = next.undecided h in (n.0, subst (λ (o : Op). Admits p o) (sym next.op) (u.admits n.1))) next.page;
}

abbrev flight : Stage → Op → ℕ → ℕ → ℕ → ℕ → Flight
flight s o q p r l = record { stage = s; op = o; q = q; p = p; r = r; loaded = l }

either : {c : Config} {f : Flight} (b : Bool) {x y : Progress} → Next c f x → Next c f y → Next c f (if b then x else y)
either true hx hy = hx
either false hx hy = hy

refused_next : (c : Config) (s : Stage) (o : Op) (q p r l found : ℕ) (a : Answer)
    → Next c (flight s o q p r l) (refused (flight s o found p r l) a)
refused_next c s (Op.Lea d q i) qq p r l found a = record { op = refl; undecided = λ h. (cc, cc); page = λ h. cc }
refused_next c s _ qq p r l found a = record { op = refl; undecided = λ h. (cc, cc); page = λ h. cc }

at_load : (c : Config) (s : Stage) (o : Op) (q p r l found : ℕ) → loads_register s ≡ true → is_under_turn o ≡ false
    → Next c (flight s o q p r l) (progress_reg (flight s o q p r l) s found)
at_load c Stage.LoadQ o q p r l found h u = grind (arith, either, refused_next)
at_load c Stage.LoadP o q p r l found h u = grind arith
at_load c Stage.LoadR o q p r l found h u = grind arith
at_load c _ o q p r l found h u = cc

pub load_next : (c : Config) (f : Flight) (found : ℕ) → loads_register f.stage ≡ true → is_under_turn f.op ≡ false
    → Next c f (progress_reg f f.stage found)
load_next c f found h u = at_load c f.stage f.op f.q f.p f.r f.loaded found h u

store_next : (c : Config) (o : Op) (q p r l : ℕ) → Next c (flight Stage.Store o q p r l)
    (onward (flight Stage.Store o q p r l) (Some Answer.Done))
store_next c (Op.Clear d) q p r l = record { op = refl; undecided = λ h. (cc, cc); page = λ h. cc }
store_next c _ q p r l = record { op = refl; undecided = λ h. (cc, cc); page = λ h. cc }

-- a stage at which a register is stored
pub store_goes_on : (c : Config) (f : Flight) (v : ℕ) → stores_register f.stage ≡ true
    → Next c f (progress_reg f f.stage v)
store_goes_on c f v h = by f.stage f.op f.q f.p f.r f.loaded h
  where
    by : (s : Stage) (o : Op) (q p r l : ℕ) → stores_register s ≡ true
        → Next c (flight s o q p r l) (progress_reg (flight s o q p r l) s v)
    by Stage.Store o q p r l h = store_next c o q p r l
    by Stage.Put o q p r l h = record { op = refl; undecided = λ h. (cc, cc); page = λ h. cc }
    by _ o q p r l h = cc

probe_on : (c : Config) (o : Op) (q p r l : ℕ) → Next c (flight Stage.Probe o q p r l)
    (onward (flight Stage.Probe o q p r l) None)
probe_on c (Op.GetNum x i) q p r l = record { op = refl; undecided = λ h. (cc, cc); page = λ h. cc }
probe_on c _ q p r l = record { op = refl; undecided = λ h. (cc, cc); page = λ h. cc }

-- a stage at which a heap word is written
abbrev pub is_written : Stage → Bool
is_written s = is_stage_of (Stage.Write ∷ Stage.Cas ∷ []) s

-- after a write the page is still to be marked
written : (c : Config) (s : Stage) (o : Op) (q p r l : ℕ) (a : Answer) → is_written s ≡ true
    → is_word_met c (flight s o q p r l) ≡ true → Next c (flight s o q p r l) (onward (flight s o q p r l) (Some a))
written c s o q p r l a h met = record { op = refl; undecided = λ u. absurd (by s o h u); page = λ e. met }
  where
    by : (s : Stage) (o : Op) → is_written s ≡ true → is_past_decision (stage_behind s (steps_of o)) ≡ false → ⊥
    by x0 o h u = grind arith

-- the call at this stage
at_stage : (f : Flight) (s : Stage) → f.stage ≡ s → f ≡ flight s f.op f.q f.p f.r f.loaded
at_stage f s e = ap (λ (x : Stage). flight x f.op f.q f.p f.r f.loaded) e

pub probe_next : (c : Config) (f : Flight) (header : ℕ) → f.stage ≡ Stage.Probe → Next c f (progress_probe f header)
probe_next c f header e =
    subst (λ (g : Flight). Next c g (progress_probe g header)) (sym (at_stage f Stage.Probe e))
    (either (is_unmapped_header (header_of header)) (refused_next c Stage.Probe f.op f.q f.p f.r f.loaded f.q
    Answer.Fault) (probe_on c f.op f.q f.p f.r f.loaded))

pub read_next : (c : Config) (f : Flight) (found : ℕ) → f.stage ≡ Stage.Read → Next c f (progress_read f f.op found)
read_next c f found e = grind (arith, at_stage)

pub write_next : (c : Config) (f : Flight) (a : Answer) → is_written f.stage ≡ true → is_word_met c f ≡ true
    → Next c f (onward f (Some a))
write_next c f a h met = written c f.stage f.op f.q f.p f.r f.loaded a h met

pub getg_next : (c : Config) (f : Flight) (found : ℕ) → f.stage ≡ Stage.Getg → Next c f (progress_getg f found)
getg_next c f found e = grind (arith, at_stage)

pub setg_next : (c : Config) (f : Flight) → f.stage ≡ Stage.Setg → Next c f (onward f (Some Answer.Done))
setg_next c f e = grind (arith, at_stage)

pub dirty_next : (c : Config) (f : Flight) → f.stage ≡ Stage.Dirty → Next c f (onward f None)
dirty_next c f e = grind (arith, at_stage)

-- the last step
pub leaves : {p : PassState} {q : PassState} → IsUnderway p
    → Goes p Step.Leave (record { flight = at_rest; answer = None }) q
    → CallMoves p (call_of p).op Step.Leave (record { flight = at_rest; answer = None }) q
leaves {p} {q} u g = record {
  makes = one_step p (call_of p).op Step.Leave (record { flight = at_rest; answer = None }) q u.caller u.seat
      g u.entered refl;
  call = g.call;
  underway = goes_underway p (call_of p).op Step.Leave (record { flight = at_rest; answer = None }) q u.caller
      u.seat g u.entered refl u.exists refl (λ h. cc) (λ h. cc);
}

begins : (o : Op) → (begun o).stage ≡ Stage.Dirty → ⊥
begins (Op.Clear d) h = cc
begins _ h = cc

-- and the first
pub enters : {p : PassState} {o : Op} {q : PassState} → MayBeginCall p o
    → Goes p (Step.Enter o) (record { flight = begun o; answer = None }) q
    → CallMoves p o (Step.Enter o) (record { flight = begun o; answer = None }) q
enters {p} {o} {q} ready g = record {
  makes = one_step p o (Step.Enter o) (record { flight = begun o; answer = None }) q ready.caller ready.seat
      g ready.entered refl;
  call = g.call;
  underway = goes_underway p o (Step.Enter o) (record { flight = begun o; answer = None }) q ready.caller ready.seat
      g ready.entered refl (caller_exists p ready.caller (pass_before g.makes).history ready.seat ready.admits)
      ready.entered (λ h. (refl, ready.admits)) (λ h. absurd (begins o h));
}
