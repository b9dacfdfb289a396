-- The law on longer lists: what others' events leave of a caller's own calls, of what it is admitted, and of what an
-- event of it asks and decides.
use Rattle.std.proofs.{Common.filter, lemmas.List.Elements.filter-append}
use Rattle.mk_laws.proofs.Vocabulary.{Answer, AreAdmitted, Bool, Caller, Cell, Config, Continues, Decided, Event}
use Rattle.mk_laws.proofs.Vocabulary.{Flight, Holds, IsEnabled, IsHistory, IsInCall, IsLeft, IsTidy, IsTyped}
use Rattle.mk_laws.proofs.Vocabulary.{KeepsRegisters, Kind, List, Stage, Steady, Step, TalliesAreTidy, TurnIsLeft, Word}
use Rattle.mk_laws.proofs.Vocabulary.{Words, World, ℕ, answer_decided, ap, append-nil, arith, asked, begun}
use Rattle.mk_laws.proofs.Vocabulary.{call_decided, calls, cases_Bool, cell_freed, cond, decided, enabled_meets}
use Rattle.mk_laws.proofs.Vocabulary.{entry_of, eq-eqb, false, flight_of, found, frees, header_in, header_of}
use Rattle.mk_laws.proofs.Vocabulary.{if◌then◌else◌, in_a_word, inl, inr, is_some, is_unmapped_header, left, ltb-true}
use Rattle.mk_laws.proofs.Vocabulary.{ne_eqb, never_behind, not, onward, page_met, progress, progress_freed}
use Rattle.mk_laws.proofs.Vocabulary.{progress_read, progress_reg, q_of, refl, refused, register_at, sees_double, still}
use Rattle.mk_laws.proofs.Vocabulary.{subst, sym, target, true, word_accessed, world_behind, [], ◌&&◌, ◌++◌, ◌<◌, ◌==◌}
use Rattle.mk_laws.proofs.{Vocabulary.{◌∙◌, ◌∷◌, ◌≡◌, ◌≢◌}, Basics.{Meets, actor_of, at_its_stage, calls_stand}}
use Rattle.mk_laws.proofs.Basics.{in_call_told, is_call_stage, is_holders, not_astray, operands_of, register_small}
use Rattle.mk_laws.proofs.{CallSorts.{admitted_call, call_outside}, EnabledStill.{before, enabled_still, left_to}}
use Rattle.mk_laws.proofs.{FramesHolders.{acts_as_holder, holds_is}, AdmittedAlike.{admitted_alike, meets_alike}}
use Rattle.mk_laws.proofs.{AdmittedAlike.shows_alike, LastEvents.{Stands, comes_last, goes_on_by, stands}}
use Rattle.mk_laws.proofs.{OtherCalls.{never_continues, registers_are_left}, ProbesStill.probe_still}
use Rattle.mk_laws.proofs.{ProtocolFrames.other_seat, Reaching.{events_reach_the_table, others_leave_accesses}}
use Rattle.mk_core.{proofs.HistoryParts.{calls_in_parts}, specs.{Frames.CountsAreLeft, History.AreOfOthers}}
use Rattle.mk_core.specs.{History.calls_from, HistoryLaws.LongerListsGoOn, Counts.releases, Effects.begins_where_free}
use Rattle.mk_laws.proofs.Vocabulary.{Meets as MeetsWord, Moment, NeverState, None, Op, Option, Seat, Some}

-- The calls of one caller: events of others have none of them.

-- the calls of one caller among these
abbrev pub calls_by : ℕ → List Decided → List Decided
calls_by k xs = filter (λ (x : Decided). x.caller == k) xs

pub by_append : (k : ℕ) (xs ys : List Decided) → calls_by k (xs ++ ys) ≡ calls_by k xs ++ calls_by k ys
by_append k xs ys = filter-append (λ (x : Decided). x.caller == k) xs ys

pub own_entry : (k : ℕ) (o : Op) (a : Option Answer) → calls_by k (entry_of k o a) ≡ entry_of k o a
own_entry k o None = refl
own_entry k o (Some a) = ap (λ (b : Bool). cond b (entry_of k o (Some a)) []) (eq-eqb k k refl)

other_entry : (j k : ℕ) (o : Op) (a : Option Answer) → j ≢ k → calls_by k (entry_of j o a) ≡ []
other_entry j k o None ne = refl
other_entry j k o (Some a) ne = ap (λ (b : Bool). cond b (entry_of j o (Some a)) []) (ne_eqb j k ne)

other_decided : (c : Config) (w : World) (seat : Seat) (x : Step) (k : ℕ) → seat ≢ Caller k
    → calls_by k (call_decided c w.now (record { seat = seat; step = x })) ≡ []
other_decided c w x2 x k ne = grind (arith, other_entry)

calls_of_others : (c : Config) (k : ℕ) (w : World) (es : List Event) → AreOfOthers (Caller k ∷ []) es
    → calls_by k (calls_from c w es) ≡ []
unfolding calls_from AreOfOthers
calls_of_others c k w [] others = refl
calls_of_others c k w (e ∷ es) others =
    by_append k (call_decided c w.now e) (calls_from c (world_behind c w e) es)
    ∙ ap (λ (l : List Decided). l ++ calls_by k (calls_from c (world_behind c w e) es))
    (other_decided c w e.seat e.step k (other_seat (Caller k) e.seat others.0))
    ∙ calls_of_others c k (world_behind c w e) es others.1

pub others_add_none : (c : Config) (k : ℕ) (es others : List Event) → AreOfOthers (Caller k ∷ []) others
    → calls_by k (calls c (es ++ others)) ≡ calls_by k (calls c es)
others_add_none c k es others of_others =
    ap (λ (l : List Decided). calls_by k l) (calls_in_parts c es others)
    ∙ by_append k (calls c es) (calls_from c (left c es) others)
    ∙ ap (λ (l : List Decided). calls_by k (calls c es) ++ l) (calls_of_others c k (left c es) others of_others)
    ∙ append-nil (calls_by k (calls c es))

-- An operation that is admitted stays so, whatever others call.

module _ (globals : List ℕ) (n m : NeverState) (k : ℕ) (on : Continues n m) (own : KeepsRegisters k n m)
    (typed : IsTyped globals n) where
  pub meets_register : (q i : ℕ) (P : Kind → Type 0) → q < 8 → MeetsWord n (register_at n k q) i P
      → MeetsWord m (register_at m k q) i P
  meets_register = meets_alike globals n m k (shows_alike globals n m k on own typed)

  pub call_on : (o : Op) (a : Option Answer) → AreAdmitted globals n (asked (entry_of k o a))
      → AreAdmitted globals m (asked (entry_of k o a))
  call_on o (Some a) h = (admitted_alike globals n m k (shows_alike globals n m k on own typed) h.0, tt)
  call_on o None h = tt

-- What a step asks of the heap that never reuses storage it asks after a longer list too: what it finds may differ,
-- and so the answer, but not whether it decides, nor what for.

-- What two moments have in common if the answer reads it: an own register, whether a page is unmapped, the target.
pub record SeesTheSame (c : Config) (m n : Moment) (f : Flight) (found find : ℕ) (x : Step) : Type 0 where
  pub reg : x ≡ Step.Reg → find ≡ found
  pub probe : x ≡ Step.Probe → is_unmapped_header (header_of find) ≡ is_unmapped_header (header_of found)
  pub look : (y : Word) → x ≡ Step.Look y
      → sees_double n.words (target c.pages n.words f) y ≡ sees_double m.words (target c.pages m.words f) y
  pub quar : (p v : ℕ) → x ≡ Step.Quar p v → cell_freed c.pages n.words f p v ≡ cell_freed c.pages m.words f p v

pub begins_nothing : (f : Flight) (o : Op) (n : ℕ) → (begins_where_free f o n).answer ≡ None
begins_nothing f o n = by (n == 0)
  where
    by : (b : Bool) → (if b then record { flight = begun o; answer = None } else still f).answer ≡ None
    by true = refl
    by false = refl

numbered : (k : ℕ) (o : Op) (x y : ℕ)
    → asked (entry_of k o (Some (Answer.Num x))) ≡ asked (entry_of k o (Some (Answer.Num y)))
numbered k (Op.New d ty full) x y = refl
numbered k _ x y = refl

worded : (k : ℕ) (o : Op) (x y : ℕ)
    → asked (entry_of k o (Some (Answer.Word x))) ≡ asked (entry_of k o (Some (Answer.Word y)))
worded k (Op.New d ty full) x y = refl
worded k _ x y = refl

read_asked : (k : ℕ) (f : Flight) (o : Op) (x y : ℕ)
    → asked (entry_of k o (progress_read f o x).answer) ≡ asked (entry_of k o (progress_read f o y).answer)
read_asked k f (Op.GetPtr d q i) x y = refl
read_asked k f _ x y = cc

pub asked_the_same : (c : Config) (m n : Moment) (k : ℕ) (f : Flight) (found find : ℕ) (x : Step)
    → SeesTheSame c m n f found find x
    → asked (entry_of k f.op (progress c n f find x).answer) ≡ asked (entry_of k f.op (progress c m f found x).answer)
asked_the_same c m n k f found find (Step.Enter o) s =
    ap (λ (a : Option Answer). asked (entry_of k f.op a)) (begins_nothing f o find ∙ sym (begins_nothing f o found))
asked_the_same c m n k f found find (Step.Take (Some o)) s =
    ap (λ (a : Option Answer). asked (entry_of k f.op a)) (begins_nothing f o find ∙ sym (begins_nothing f o found))
asked_the_same c m n k f found find Step.Reg s =
    ap (λ i. asked (entry_of k f.op (progress_reg f f.stage i).answer)) (s.reg refl)
asked_the_same c m n k f found find Step.Probe s =
    ap (λ (b : Bool). asked (entry_of k f.op (if b then refused f Answer.Fault else onward f None).answer))
    (s.probe refl)
asked_the_same c m n k f found find Step.Read s = read_asked k f f.op find found
asked_the_same c m n k f found find Step.Cas s = numbered k f.op _ _
asked_the_same c m n k f found find Step.Getg s = worded k f.op find found
asked_the_same c m n k f found find (Step.Look y) s =
    ap (λ (b : Bool). asked (entry_of k f.op (if b then decided f Answer.Double else still f).answer)) (s.look y refl)
asked_the_same c m n k f found find (Step.Quar p v) s =
    ap (λ (o : Option Cell). asked (entry_of k f.op (progress_freed f o).answer)) (s.quar p v refl)
asked_the_same c m n k f found find _ s = refl

-- The call that an event decides after a list, it decides after what others did since, and it is admitted there.

-- The word that a `probe` finds is a header of a page that the call meets.
abbrev probed : Words → Flight → Bool
probed x f = is_unmapped_header (header_in x (page_met f))

-- one event of a caller, in words that say which event it is
abbrev of_caller : ℕ → Step → Event
of_caller k x = record { seat = Caller k; step = x }

module _ (c : Config) (es more : List Event) (k : ℕ) (x : Step) (h : IsHistory c (es ++ more))
    (others : AreOfOthers (Caller k ∷ []) more)
    (on : IsEnabled c (left c es).now (record { seat = Caller k; step = x })) (admitted : AreAdmitted c.globals
    (never_behind c es) (asked (call_decided c (left c es).now (record { seat = Caller k; step = x })))) where
  abbrev w : World
  w = left c es

  abbrev v : World
  v = left c (es ++ more)

  abbrev f : Flight
  f = flight_of w.now (Caller k)

  here : Stands c es
  here = stands c es (before c es more (of_caller k x) h others)

  there : Stands c (es ++ more)
  there = stands c (es ++ more) h

  kept : IsLeft c (Caller k) es (es ++ more)
  kept = left_to c es more (of_caller k x) h others

  meets : Meets c w.now (Caller k) x
  meets = enabled_meets c w.now (of_caller k x) on

  lt : k < c.callers
  lt = ltb-true k c.callers meets.seat

  holding : is_holders x ≡ true → Holds c w.now (Caller k)
  holding is = holds_is c w.now (Caller k) here.known.now.orderly (acts_as_holder c w.now (Caller k) x
      (actor_of c w.now (Caller k) x here.known.now.orderly meets) is)

  same_word : word_accessed c v.now (of_caller k x) ≡ word_accessed c w.now (of_caller k x)
  same_word = (others_leave_accesses c es more (of_caller k x) h.within_limits h.enabled others on).word

  -- An own register shows what it did.
  finds_register : x ≡ Step.Reg → found c v.now (of_caller k x) ≡ found c w.now (of_caller k x)
  finds_register is = rw same_word (rw is (kept.own.registers k _ refl
      (register_small f f.stage (operands_of c f.op (here.known.now.operands k)))))

  -- A page shows the call whether it is unmapped, as it did.

  at_probe : x ≡ Step.Probe → f.stage ≡ Stage.Probe
  at_probe is = at_its_stage f.stage f.op Step.Probe refl (rw is at meets).order

  is_in : x ≡ Step.Probe → IsInCall w.now (Caller k)
  is_in is =
      let fine = not_astray c w.now here.known.now.orderly k lt in
      cc (in_call_told f.stage f.op fine, calls_stand _ f.op (ap is_call_stage (at_probe is)) fine)

  pub probes_the_same : x ≡ Step.Probe → probed v.now.words f ≡ probed w.now.words f
  probes_the_same is = elim (cases_Bool (probed w.now.words f)) [
    | inr mapped ↦ (kept.in_call k refl (is_in is)).mapped (page_met f) mapped ∙ sym mapped
    | inl unmapped ↦
        let out = call_outside f.op f.stage (ap is_call_stage (at_probe is))
        (not_astray c w.now here.known.now.orderly k lt) in
        let decides : AreAdmitted c.globals (never_behind c es) (asked (entry_of k f.op (Some Answer.Fault))) =
        subst (λ (b : Bool). AreAdmitted c.globals (never_behind c es)
        (asked (entry_of k f.op (if b then refused f Answer.Fault else onward f None).answer))) unmapped
        (subst (λ (s : Step). AreAdmitted c.globals (never_behind c es) (asked (call_decided c w.now (of_caller k s))))
        is admitted) in
        let register =
        registers_are_left c es more k h others (q_of f.op) (operands_of c f.op (here.known.now.operands k)).q in
        probe_still here.known there.known here.all there.all lt kept.own.flight (at_probe is)
        (never_continues c es more) register (admitted_call _ _ k f.op Answer.Fault out decides) unmapped ∙ sym unmapped
  ]

  finds_header : x ≡ Step.Probe → is_unmapped_header (header_of (found c v.now (of_caller k x)))
      ≡ is_unmapped_header (header_of (found c w.now (of_caller k x)))
  finds_header is = rw same_word (rw is (probes_the_same is))

  -- The turn's holder sees the same freed bits and target.

  sees_freed : (y : Word) → x ≡ Step.Look y → sees_double v.now.words (target c.pages v.now.words f) y
      ≡ sees_double w.now.words (target c.pages w.now.words f) y
  sees_freed y is = ap (λ (s : Steady). sees_double (record w.now.words { pages = s.pages; freed = s.freed })
      (target c.pages (record w.now.words { pages = s.pages; freed = s.freed }) f) y)
      (kept.turn (holding (ap is_holders is))).0.steady

  frees_the_same : (p n : ℕ) → x ≡ Step.Quar p n
      → cell_freed c.pages v.now.words f p n ≡ cell_freed c.pages w.now.words f p n
  frees_the_same p n is = ap (λ (s : Steady). if not (s.phase == 4)
      && frees (record w.now.words { pages = s.pages; freed = s.freed; snapshot = s.snapshot })
      (target c.pages (record w.now.words { pages = s.pages; freed = s.freed; snapshot = s.snapshot }) f) p n
      then target c.pages (record w.now.words { pages = s.pages; freed = s.freed; snapshot = s.snapshot }) f else None)
      (kept.turn (holding (ap is_holders is))).0.steady

  pub caller_asks_the_same : asked (call_decided c v.now (of_caller k x)) ≡ asked (call_decided c w.now (of_caller k x))
  caller_asks_the_same =
      ap (λ (g : Flight). asked (entry_of k g.op (progress c v.now g (found c v.now (of_caller k x)) x).answer))
      kept.own.flight ∙ asked_the_same c w.now v.now k f _ _ x
      (record { reg = finds_register; probe = finds_header; look = sees_freed; quar = frees_the_same })

  pub caller_is_admitted : AreAdmitted c.globals (never_behind c (es ++ more))
      (asked (call_decided c v.now (of_caller k x)))
  caller_is_admitted = rw caller_asks_the_same (call_on c.globals _ _ k (never_continues c es more)
      (registers_are_left c es more k h others) here.all.mirrors.typed f.op _ admitted)

  -- whether a `probe` decides
  pub caller_decides_the_same : x ≡ Step.Probe
      → is_some (answer_decided c v.now (of_caller k x)) ≡ is_some (answer_decided c w.now (of_caller k x))
  caller_decides_the_same is = subst (λ (s : Step). is_some (answer_decided c v.now (of_caller k s)) ≡ is_some
      (answer_decided c w.now (of_caller k s))) (sym is) (ap (λ (g : Flight). is_some
      (if probed v.now.words g then refused g Answer.Fault else onward g None).answer) kept.own.flight ∙ ap
      (λ (b : Bool). is_some (if b then refused f Answer.Fault else onward f None).answer) (probes_the_same is))

still_asks : {c : Config} (es more : List Event) (seat : Seat) (x : Step) → IsHistory c (es ++ more)
    → AreOfOthers (seat ∷ []) more → IsEnabled c (left c es).now (record { seat = seat; step = x }) → AreAdmitted
    c.globals (never_behind c es) (asked (call_decided c (left c es).now (record { seat = seat; step = x })))
    → AreAdmitted c.globals (never_behind c (es ++ more))
    (asked (call_decided c (left c (es ++ more)).now (record { seat = seat; step = x })))
    × (x ≡ Step.Probe → is_some (answer_decided c (left c (es ++ more)).now (record { seat = seat; step = x }))
    ≡ is_some (answer_decided c (left c es).now (record { seat = seat; step = x })))
still_asks {c} es more (Caller k) x h others on admitted = (
  caller_is_admitted c es more k x h others on admitted,
  caller_decides_the_same c es more k x h others on admitted,
)
still_asks es more _ x h others on admitted = (tt, λ is. refl)

-- A `give` that keeps a tidy list tidy does so after what others did since: they leave the tallies, and what these
-- count.

-- The event in the middle is the last, or stands before it.

data SplitsLast (xs : List Event) (e : Event) (ys : List Event) (x : Event) : Type 0 where
  AtLast : ys ≡ xs → x ≡ e → SplitsLast xs e ys x
  Before : (zs : List Event) → xs ≡ ys ++ x ∷ zs → SplitsLast xs e ys x

one_longer : (a b : Event) {xs : List Event} {e : Event} {ys : List Event} {x : Event} → a ≡ b → SplitsLast xs e ys x
    → SplitsLast (a ∷ xs) e (b ∷ ys) x
one_longer a b same (AtLast all is) = AtLast (cc) is
one_longer a b same (Before zs is) = Before zs (cc)

splits_last : (xs : List Event) (e : Event) (ys : List Event) (x : Event) (zs : List Event)
    → xs ++ e ∷ [] ≡ ys ++ x ∷ zs → SplitsLast xs e ys x
splits_last [] e [] x zs is = AtLast refl (cc)
splits_last [] e (y ∷ []) x zs is = cc
splits_last [] e (y ∷ z ∷ ys) x zs is = cc
splits_last (a ∷ xs) e [] x zs is = Before xs (cc)
splits_last (a ∷ xs) e (y ∷ ys) x zs is = one_longer a y (cc) (splits_last xs e ys x zs (cc))

pub tallies_on : {c : Config} {es fs : List Event} → TurnIsLeft (left c es) (left c fs) → CountsAreLeft c es fs
    → TalliesAreTidy c es → TalliesAreTidy c fs
tallies_on kept counts tidy = record {
  cycles = ap (λ (s : Steady). s.cycles) kept.steady ∙ tidy.cycles ∙ ap in_a_word (sym counts.ends);
  released = ap (λ (s : Steady). s.released) kept.steady ∙ tidy.released
      ∙ ap (λ (s : Steady). in_a_word (releases s.allocations)) (sym kept.steady);
  full = ap (λ (s : Steady). s.full) kept.steady ∙ tidy.full ∙ ap in_a_word (sym counts.fulls);
}

-- The tallies are as they should be before each `give` of the longer list, and before the event if it is one.
pub tidy_by_last : (c : Config) (xs : List Event) (e : Event) → IsTidy c xs → (e.step ≡ Step.Give → TalliesAreTidy c xs)
    → IsTidy c (xs ++ e ∷ [])
tidy_by_last c xs e tidy last before x behind is give = by (splits_last xs e before x behind is)
  where
    by : SplitsLast xs e before x → TalliesAreTidy c before
    by (AtLast all it) = rw all (last (rw (← it) give))
    by (Before zs at) = tidy before x zs at give

-- A `give` finds the tallies as its seat has found them.
give_finds : {c : Config} (es more : List Event) (e : Event) → IsHistory c (es ++ e ∷ []) → IsHistory c (es ++ more)
    → AreOfOthers (e.seat ∷ []) more → IsTidy c (es ++ e ∷ []) → e.step ≡ Step.Give → TalliesAreTidy c (es ++ more)
give_finds {c} es more e one h others tidy give =
    let last = comes_last c es e one in
    let orderly = (stands c es last.before).known.now.orderly in
    let holds = holds_is c (left c es).now e.seat orderly (acts_as_holder c (left c es).now e.seat e.step
    (actor_of c (left c es).now e.seat e.step orderly last.meets) (ap is_holders give)) in
    let turn = (left_to c es more e h others).turn holds in
    tallies_on turn.0 turn.1 (tidy es e [] refl give)

pub longer_lists_go_on : LongerListsGoOn
longer_lists_go_on c es more e one h others =
    let last = comes_last c es e one in
    let on = enabled_still c es more e h others last.on in
    let reaches = others_leave_accesses c es more e h.within_limits h.enabled others last.on in
    let asks = still_asks es more e.seat e.step h others last.on last.admitted in
    record {
      history = goes_on_by c (es ++ more) e h on asks.0;
      same = record {
        word = reaches.word;
        of_the_table = events_reach_the_table c es e h.within_limits last.before.enabled last.on;
        access = reaches.access;
        decides = asks.1;
      };
      tidy = λ short long. tidy_by_last c (es ++ more) e long (give_finds es more e one h others short);
    }
