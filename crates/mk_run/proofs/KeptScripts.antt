-- What an engine keeps to in the steps of the scripts' callers and of the host, up to the whole run.
use Rattle.mk_heap.proofs.Below.Laws.Vocabulary.{At, Bool, Caller, Config, Event, Host, IsHistory, List, Marker, Seat}
use Rattle.mk_heap.proofs.Below.Laws.Vocabulary.{ℕ, arith}
use Rattle.mk_heap.proofs.Below.Laws.Vocabulary.{enabled_in_parts, enabled_meets, false, group_of, is_open_to, length}
use Rattle.mk_heap.proofs.Below.Laws.Vocabulary.{ltb-true, refl, seat_exists, subst, sym, through, true, true≢false, []}
use Rattle.mk_heap.proofs.Below.Laws.Vocabulary.{◌++◌, ◌+◌}
use Rattle.mk_heap.proofs.Below.Laws.Vocabulary.{◌∙◌, ◌∷◌, ◌≡◌, ◌≤◌}
use Rattle.mk_run.proofs.Vocabulary.{CallerState, Grows, Has, IsAtHome, IsFirstPass, IsScript, IsWhole, Item, PassKeeps}
use Rattle.mk_run.proofs.Vocabulary.{PassState, WordsState, config_of, has_first, script_names, ⊎_elim}
use Rattle.mk_core.specs.History.{AreOfOthers, AreEnabledFrom}
use Rattle.mk_heap.proofs.Below.Cycles.Begun.{begun_append, others_begin_none}
use Rattle.mk_heap.specs.Below.Cycles.{BeginCycle.{AreBegun, CyclesAreBegun, IsBegunUpTo}, EngineLaw.Ways}
use Rattle.mk_heap.specs.Below.Objects.TurnCycles.{AreFinishedAtOnce, AreSaidAtCloses, IsFinishedAtOnce, IsSaid}
use Rattle.mk_heap.specs.Unswept.{IsUnswept}
use Rattle.mk_heap.proofs.UnsweptSeats.{first_sweeps, others_on as others_sweep_on, seat_on as seat_sweeps_on}
use Rattle.mk_heap.proofs.UnsweptHistories.{none_sweeps, markers_sweep}
use Rattle.mk_run.proofs.JoinedScripts.{same_or_later}
use Rattle.mk_heap.proofs.Below.Laws.Vocabulary.{Step, inl, inr, left, ◌⊎◌}
use Rattle.mk_heap.proofs.Below.Objects.{FinishedCycles.finished_append, SaidCloses.said_append}
use Rattle.mk_run.specs.Keeping.{RunKeeps, ScriptsKeep, SeatKeeps, by_seat}
use Rattle.mk_run.specs.Keeping.{BeginsAreFinished, ClosesAreSaid}

nowhere : (before : List Event) (e : Event) (behind : List Event) → [] ≡ before ++ e ∷ behind → ⊥
nowhere [] e behind is = cc
nowhere (x ∷ xs) e behind is = cc

-- An event of an enabled list is of a seat that exists, and of a kind that is open to it.
open_to_its_seat : {kind : Step → Bool} {c : Config} {es : List Event} (b : At kind es) → IsHistory c es
    → (seat_exists c b.event.seat ≡ true) × (is_open_to b.event.seat (group_of b.event.step) ≡ true)
unfolding AreEnabledFrom
open_to_its_seat b history = grind (arith, enabled_in_parts, enabled_meets)

module _ {V : Type 0} {ways : Ways V} where
  -- before the first event
  first_keeps : (c : Config) (s : Seat) (es : List Event) → es ≡ [] → SeatKeeps ways c s es
  first_keeps c s es is = record {
    unswept = λ off. first_sweeps c s es is;
    begun = λ b own. absurd (nowhere b.before b.event b.behind (sym is ∙ b.is));
    said = λ k own. absurd (nowhere k.before k.event k.behind (sym is ∙ k.is));
    finished = λ off b own. absurd (nowhere b.before b.event b.behind (sym is ∙ b.is));
  }

  -- after more that its pass has seen, and after events of others

  seat_on : (p q : PassState) → PassKeeps false ways p q → SeatKeeps ways p.table.config p.seat p.seen
      → SeatKeeps ways p.table.config p.seat q.seen
  seat_on p q more before = record {
    unswept = λ off. seat_sweeps_on p q (more.reached off) (before.unswept off);
    begun = subst (λ (l : List Event). AreBegun false ways.begins p.table.config p.seat [] l) (sym more.begun.is)
        (begun_append ways.begins p.table.config p.seat [] p.seen more.begun.more before.begun more.begun.each);
    said = subst (λ (l : List Event). AreSaidAtCloses ways.tells p.table.config p.seat [] l) (sym more.said.is)
        (said_append ways.tells p.table.config p.seat [] p.seen more.said.more before.said more.said.each);
    finished = λ off. let finished = more.finished off in
        subst (λ (l : List Event). AreFinishedAtOnce ways.closes p.table.config p.seat [] l) (sym finished.is)
        (finished_append ways.closes p.table.config p.seat [] p.seen finished.more (before.finished off) finished.each);
  }

  pub others_on : (c : Config) (s : Seat) (seats : List Seat) (es fs : List Event) → Has seats s → Grows seats es fs
      → SeatKeeps ways c s es → SeatKeeps ways c s fs
  others_on c s seats es fs has g before = record {
    unswept = λ off. others_sweep_on c s seats es fs has g (before.unswept off);
    begun = subst (λ (l : List Event). AreBegun false ways.begins c s [] l) (sym g.is)
        (begun_append ways.begins c s [] es g.more before.begun
        (λ b own. absurd (others_begin_none seats s g.more has g.of_others b.before b.event b.behind b.is own)));
    said = subst (λ (l : List Event). AreSaidAtCloses ways.tells c s [] l) (sym g.is)
        (said_append ways.tells c s [] es g.more before.said
        (λ k own. absurd (others_begin_none seats s g.more has g.of_others k.before k.event k.behind k.is own)));
    finished = λ off. subst (λ (l : List Event). AreFinishedAtOnce ways.closes c s [] l) (sym g.is)
        (finished_append ways.closes c s [] es g.more (before.finished off)
        (λ b own. absurd (others_begin_none seats s g.more has g.of_others b.before b.event b.behind b.is own)));
  }

  -- the run of one script, from its first pass
  pub script_keeps : {w : WordsState} {k : ℕ} {first : PassState} (s : CallerState) (q r : PassState)
      → IsFirstPass w k first → IsAtHome s first → PassKeeps false ways s.pass q → r ≡ q
      → SeatKeeps ways w.config (Caller k) r.seen
  script_keeps s q r at is more same = grind (arith, first_keeps, seat_on)

  -- The host goes on.
  pub host_on : (w : WordsState) {p q : PassState} → p.table ≡ w → p.seat ≡ Host → PassKeeps false ways p q
      → SeatKeeps ways w.config Host p.seen → SeatKeeps ways w.config Host q.seen
  host_on w table seat more before = grind (arith, seat_on)

  -- The callers are still.
  pub scripts_on : {program : List Item} {k : ℕ} {c : Config} {es : List Event} (fs : List Event)
      → ((j : ℕ) → k ≤ j → IsScript program j → Grows (Caller j ∷ []) es fs)
      → ScriptsKeep ways program k c es → ScriptsKeep ways program k c fs
  scripts_on {c} {es} fs still before = record {
    callers = λ j le is. others_on c (Caller j) (Caller j ∷ []) es fs (has_first (Caller j) []) (still j le is)
        (before.callers j le is);
  }

  -- One more is joined.
  pub script_joined : {program : List Item} {k : ℕ} {c : Config} {seats : List Seat} {es fs : List Event}
      → seats ≡ Caller k ∷ [] → Grows seats es fs → SeatKeeps ways c (Caller k) es
      → ScriptsKeep ways program (k + 1) c fs → ScriptsKeep ways program k c fs
  script_joined {k} {c} {es} {fs} alone came mine others = record {
    callers = λ j le is. ⊎_elim (λ (same : j ≡ k). rw same (others_on c (Caller k) (Caller k ∷ []) es fs
        (has_first (Caller k) []) (subst (λ (l : List Seat). Grows l es fs) alone came) mine))
        (λ (later : k + 1 ≤ j). others.callers j later is) (same_or_later k j le);
  }

  -- before any is made
  pub none_joined : (program : List Item) (k : ℕ) (c : Config) (es : List Event) → es ≡ []
      → k ≡ length (script_names program) → ScriptsKeep ways program k c es
  none_joined program k c es none all = record { callers = λ j le is. absurd (omega arith) }

  -- The host has taken no step.
  pub unseen_keeps : (c : Config) (s : Seat) (es : List Event) → AreOfOthers (s ∷ []) es → SeatKeeps ways c s es
  unseen_keeps c s es others =
      others_on c s (s ∷ []) [] es (has_first s []) (record { more = es; is = refl; of_others = others })
      (first_keeps c s [] refl)

-- What is done by the same rule whoever begins.
pub same_by_seat : {begins : Config → Seat → List Event → List Event → Type 0} {c : Config} {es : List Event}
    → CyclesAreBegun (by_seat begins begins) c es → CyclesAreBegun begins c es
same_by_seat {begins} {c} are b =
    let one = are b in record {
      first = one.first;
      rest = one.rest;
      is = one.is;
      part = same b.event.seat one.part;
      marking = one.marking;
      holds = one.holds;
    }
  where
    same : (s : Seat) {xs ys : List Event} → by_seat begins begins c s xs ys → begins c s xs ys
    same (Caller j) part = part
    same (Marker j) part = part
    same Host part = part

-- All seats of the whole run are the scripts', the host's and markers'. No marker begins a cycle or sweeps.
module _ {V : Type 0} {W : Type 0} {ways : Ways V} {host_ways : Ways W} (program : List Item) (markers : ℕ)
    {w d : Config} {es seen : List Event} (made : w ≡ config_of program markers) (same : d ≡ w) (is : es ≡ seen)
    (whole : IsWhole d es)
    (keep : RunKeeps ways host_ways program w seen) where
  abbrev c : Config
  c = config_of program markers

  history : IsHistory c es
  history = (subst (λ (x : Config). IsWhole x es) (same ∙ made) whole).history

  keeps : RunKeeps ways host_ways program c es
  keeps = rw is (subst (λ (x : Config). RunKeeps ways host_ways program x seen) made keep)

  pub run_is_begun : CyclesAreBegun (by_seat ways.begins host_ways.begins) c es
  run_is_begun b = let at = open_to_its_seat b history in by b.event.seat at.0 at.1 refl
    where
      caller : (j : ℕ) → b.event.seat ≡ Caller j → IsBegunUpTo false ways.begins c (Caller j) (through b) b.behind
          → IsBegunUpTo false (by_seat ways.begins host_ways.begins) c (Caller j) (through b) b.behind
      caller j of_seat one = record {
        first = one.first;
        rest = one.rest;
        is = one.is;
        part = one.part;
        marking = one.marking;
        holds = one.holds;
      }

      by : (s : Seat) → seat_exists c s ≡ true → is_open_to s (group_of b.event.step) ≡ true → b.event.seat ≡ s
          → IsBegunUpTo false (by_seat ways.begins host_ways.begins) c s (through b) b.behind
      by (Caller j) exists may of_seat =
          caller j of_seat ((keeps.scripts.callers j (omega arith)
          (ltb-true j (length (script_names program)) exists)).begun b of_seat)
      by (Marker j) exists may of_seat = absurd (true≢false (sym b.of_kind ∙ (grind arith)))
      by Host exists may of_seat =
          let one = keeps.host.begun b of_seat in record {
            first = one.first;
            rest = one.rest;
            is = one.is;
            part = one.part;
            marking = one.marking;
            holds = one.holds;
          }

  pub run_is_said : ClosesAreSaid ways.tells host_ways.tells c es
  run_is_said k = let at = open_to_its_seat k history in by k.event.seat at.0 at.1 refl
    where
      by : (s : Seat) → seat_exists c s ≡ true → is_open_to s (group_of k.event.step) ≡ true → k.event.seat ≡ s
          → IsSaid ways.tells c (left c k.before) ⊎ IsSaid host_ways.tells c (left c k.before)
      by (Caller j) exists may of_seat =
          let script = keeps.scripts.callers j (omega arith) (ltb-true j (length (script_names program)) exists) in
          inl (script.said k of_seat)
      by (Marker j) exists may of_seat = absurd (true≢false (sym k.of_kind ∙ (grind arith)))
      by Host exists may of_seat = inr (keeps.host.said k of_seat)

  pub run_is_finished : ways.on ≡ false → host_ways.on ≡ false → BeginsAreFinished ways.closes host_ways.closes c es
  run_is_finished off host_off b = let at = open_to_its_seat b history in by b.event.seat at.0 at.1 refl
    where
      by : (s : Seat) → seat_exists c s ≡ true → is_open_to s (group_of b.event.step) ≡ true → b.event.seat ≡ s
          → IsFinishedAtOnce ways.closes c s (through b) b.behind
          ⊎ IsFinishedAtOnce host_ways.closes c s (through b) b.behind
      by (Caller j) exists may of_seat =
          inl ((keeps.scripts.callers j (omega arith)
          (ltb-true j (length (script_names program)) exists)).finished off b of_seat)
      by (Marker j) exists may of_seat = absurd (true≢false (sym b.of_kind ∙ (grind arith)))
      by Host exists may of_seat = inr (keeps.host.finished host_off b of_seat)

  pub run_is_unswept : ways.sweeps ≡ false → host_ways.sweeps ≡ false → IsUnswept c es
  run_is_unswept off host_off = grind (arith, none_sweeps, history, keeps, ltb-true, markers_sweep)
