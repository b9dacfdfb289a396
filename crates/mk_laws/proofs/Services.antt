-- What the turn's holder has done in its call: how far a New is, and what a Free has freed.
use Rattle.mk_laws.proofs.Vocabulary.{Flight, Granted, Holding, None, Op, Option, Placing, RunPages, Stage, Unplaced}
use Rattle.mk_laws.proofs.Vocabulary.{arith, false, has_place, is_decided_free_at, is_new_at, is_some}
use Rattle.mk_laws.proofs.{Vocabulary.{is_undecided_free, is_undecided_new, true, ◌≡◌}, Stages.gives_stand}
use Rattle.mk_laws.proofs.{Standings.{UnderTurn, standing}, Protocol.{is_decided_new_at, is_granted}}

-- what is done is done for a call at this stage
pub record Serves (s : Stage) (o : Op) (placing : Placing) (run : Option RunPages) : Type 0 where
  pub placed : has_place placing ≡ true → is_new_at s o ≡ true
  pub granted : is_granted placing ≡ true → is_decided_new_at s o ≡ true
  pub freed : is_some run ≡ true → is_decided_free_at s o ≡ true

abbrev pub Served : Flight → Holding → Type 0
Served f h = Serves f.stage f.op h.placing h.freed

-- how the holder's call and what it has done go on
pub data Service (f : Flight) (h : Holding) : Flight → Holding → Type 0 where
  Goes : (g : Holding) → g.placing ≡ h.placing → g.freed ≡ h.freed → Service f h f g
  Loads : (g : Flight) → f.stage ≡ Stage.LoadP → standing g ≡ UnderTurn → is_undecided_new g ≡ false → Service f h g h
  Places : (g : Holding) → is_undecided_new f ≡ true → (is_granted g.placing ≡ true → is_granted h.placing ≡ true)
      → g.freed ≡ h.freed → Service f h f g
  Fills : is_undecided_new f ≡ true → h.placing ≡ Unplaced → Service f h (record f { stage = Stage.Give }) h
  Grants : is_undecided_new f ≡ true → Service f h (record f { stage = Stage.Give }) (record h { placing = Granted })
  Frees : (g : Holding) → is_undecided_free f ≡ true → g.placing ≡ h.placing
      → Service f h (record f { stage = Stage.Give }) g

-- the call stays under the turn, and a seat without a call has none

pub service_stands : {f : Flight} {h : Holding} {g : Flight} {i : Holding} → standing f ≡ UnderTurn → Service f h g i
    → standing g ≡ UnderTurn
service_stands is (Goes _ p q) = is
service_stands is (Loads _ at stands no_new) = stands
service_stands is (Places _ new p q) = is
service_stands {f} is _ = gives_stand f.stage f.op is

pub service_rests : {f : Flight} {h : Holding} {g : Flight} {i : Holding} → f.stage ≡ Stage.Idle → Service f h g i
    → g ≡ f
service_rests idle x = grind arith

pub served_on : {f : Flight} {h : Holding} {g : Flight} {i : Holding} → Served f h → Service f h g i → Served g i
served_on s (Goes _ p q) = grind arith
served_on s (Loads _ at stands no_new) = grind arith
served_on s (Places _ new p q) = grind arith
served_on s (Fills new p) = grind arith
served_on s (Grants new) = grind arith
served_on s (Frees _ free p) = grind arith

pub nothing_served : (s : Stage) (o : Op) → Serves s o Unplaced None
nothing_served s o = record { placed = λ e. cc; granted = λ e. cc; freed = λ e. cc }
