-- Callers that did their jobs, as the host joins them.
use Rattle.std.proofs.{Common.{Err, IfOk, IsOk, Ok, OnOk, Result, slice_get}, lemmas.List.drop_more}
use Rattle.std.proofs.lemmas.{Option.slice_get-get_or, Result.IfOk-weaker}
use Rattle.mk_jobs.proofs.RunVocabulary.{Caller, CallerState, Config, AreDone, DoesJobs, Dones, Event, Grows, Has}
use Rattle.mk_jobs.proofs.RunVocabulary.{HasMade, HaveDone, HaveWorked, Host, HostState, IsAtHome, IsBetweenJobs}
use Rattle.mk_jobs.proofs.RunVocabulary.{IsMadeFor, IsReady, Jobs, Joined, OwnAreExact, PassState, Plan, Replied, Seat}
use Rattle.mk_jobs.proofs.RunVocabulary.{TurnsOfAreExact, WordsState, all_of, caller_of_pass, pass_for, replied_in}
use Rattle.mk_jobs.proofs.{RunVocabulary.{replied_to, with_joined}, OwnCalls.none_of, Replies.same_replied}
use Rattle.mk_jobs.specs.{declared.joining.Worked.Worked, Joining.{AreExactFrom, HasWorked}}
use Rattle.mk_heap.proofs.Below.Laws.Vocabulary.{Bool, List, Some, ℕ, ap, arith, caller_number, drop, get_or, length}
use Rattle.mk_heap.proofs.Below.Laws.Vocabulary.{refl, subst}
use Rattle.mk_heap.proofs.Below.Laws.Vocabulary.{sym, true, [], ◌++◌, ◌+◌, ◌<◌, ◌∙◌, ◌∷◌, ◌≡◌, ◌≤◌, ◌⊎◌, inl, inr, suc}
use Rattle.mk_never.specs.declared.never_heap.NoMemory.{NoMemory}
use Rattle.mk_core.specs.History.{calls_from}
use Rattle.mk_heap.proofs.Below.{Objects.ExactTurns.stay_exact_behind_others, Words.Seats.{has_first, has_left}}
use Rattle.mk_heap.proofs.{Below.Words.Seats.{has_right, others_own}, HostTurns.{host_is_still, unseen_by_host}}
use Rattle.mk_heap.specs.Below.{Callers.States.IsIdleCaller, Words.States.has_over}

-- What a caller did stands where the list goes on by events of others.

pub still_replied : (c : Config) {k : ℕ} {es fs : List Event} → Grows (Caller k ∷ []) es fs
    → replied_in c k fs ≡ replied_in c k es
still_replied c g = grind (arith, same_replied, none_of)

pub still_exact : {on : Bool} (c : Config) {k : ℕ} {es fs : List Event} → Grows (Caller k ∷ []) es fs
    → TurnsOfAreExact on c (Caller k) es → TurnsOfAreExact on c (Caller k) fs
still_exact {on} c {k} {es} {fs} g h =
    stay_exact_behind_others on c (Caller k) (Caller k ∷ []) es fs (has_first (Caller k) []) g h

pub exact_on : {on : Bool} (c : Config) (k count : ℕ) {es fs : List Event}
    → ((j : ℕ) → k ≤ j → j < k + count → Grows (Caller j ∷ []) es fs) → AreExactFrom on c k count es
    → AreExactFrom on c k count fs
exact_on c k count still h j le lt = still_exact c (still j le lt) (h j le lt)

-- Before a caller's first operation

no_reply : (c : Config) (k : ℕ) → replied_in c k [] ≡ []
unfolding calls_from
no_reply c k = refl

pub unasked : (p : PassState) → p.seen ≡ [] → replied_to p ≡ []
unasked p is = ap (replied_in p.table.config (caller_of_pass p)) is ∙ no_reply p.table.config (caller_of_pass p)

-- Before its first turn

none_before : (before : List Event) (e : Event) (behind : List Event) → [] ≡ before ++ e ∷ behind → ⊥
none_before [] e behind is = cc
none_before (x ∷ xs) e behind is = cc

exact_unseen : (on : Bool) (p : PassState) → p.seen ≡ [] → OwnAreExact on p
exact_unseen on p none before e behind is = absurd (none_before before e behind (sym none ∙ is))

-- The host makes the next caller.

pub next_ready : (on : Bool) {w : WordsState} {markers n : ℕ} {h : HostState} (s : CallerState) → HasMade w markers n h
    → IsAtHome s (pass_for h (Caller h.callers)) → IsBetweenJobs on w n s.pass
next_ready on {n} {h} s made is =
    let of_home = s.in_order is.home in
    let exact = exact_unseen on s.pass (ap (λ (r : PassState). r.seen) is.pass ∙ made.seen) in
    record {
      table = grind arith;
      seat = grind arith;
      alone = grind arith;
      idle = grind arith;
      exact = exact;
    }

pub next_unasked : {w : WordsState} {markers n : ℕ} {h : HostState} (s : CallerState) → HasMade w markers n h
    → IsAtHome s (pass_for h (Caller h.callers)) → replied_to s.pass ≡ []
next_unasked s made is = unasked s.pass (ap (λ (r : PassState). r.seen) is.pass ∙ made.seen)

-- A caller that has seen more between two jobs
pub is_ready : {on : Bool} {w : WordsState} {k : ℕ} {p q : PassState} → IsBetweenJobs on w k p
    → q ≡ record p { seen = q.seen } → IsIdleCaller q → OwnAreExact on q → IsBetweenJobs on w k q
is_ready ready is idle exact = grind arith

own_exact : {on : Bool} {w : WordsState} {k : ℕ} {p : PassState} → IsBetweenJobs on w k p
    → TurnsOfAreExact on w.config (Caller k) p.seen
own_exact {on} {k = k} {p} ready =
    subst (λ (v : WordsState). TurnsOfAreExact on v.config (Caller k) p.seen) ready.table
    (subst (λ (s : Seat). TurnsOfAreExact on p.table.config s p.seen) ready.seat ready.exact)

own_replies : {on : Bool} {w : WordsState} {k : ℕ} {p : PassState} → IsBetweenJobs on w k p
    → replied_in w.config k p.seen ≡ replied_to p
own_replies {k = k} {p} ready =
    ap (λ (v : WordsState). replied_in v.config k p.seen) (sym ready.table)
    ∙ ap (λ (s : Seat). replied_in p.table.config (caller_number s) p.seen) (sym ready.seat)

-- The list of a caller, and those of the callers after it
pub record HasNext {Job : Type 0} (lists : List (Jobs Job)) (k : ℕ) : Type 0 where
  pub jobs : Jobs Job
  pub there : slice_get lists k ≡ Some jobs
  pub rest : drop k lists ≡ jobs ∷ drop (k + 1) lists

pub next_list : {Job : Type 0} (lists : List (Jobs Job)) (k : ℕ) → k < length lists → HasNext lists k
next_list [] k lt = absurd (omega (arith, lt))
next_list (x ∷ xs) k lt = record {
  jobs = get_or (x ∷ xs) k x;
  there = slice_get-get_or (x ∷ xs) k x lt;
  rest = drop_more (x ∷ xs) k x lt;
}

pub no_lists : {Job : Type 0} (lists : List (Jobs Job)) → length lists ≡ 0 → lists ≡ []
no_lists [] e = refl
no_lists (x ∷ xs) e = absurd (omega (arith, e))

pub same_or_later : (k j : ℕ) → k ≤ j → (j ≡ k) ⊎ (k + 1 ≤ j)
same_or_later k j le = grind arith

-- The turns of one caller more are exact.
exact_joined : {on : Bool} (c : Config) (k count : ℕ) {es : List Event} → TurnsOfAreExact on c (Caller k) es
    → AreExactFrom on c (k + 1) count es → AreExactFrom on c k (suc count) es
exact_joined {on} c k count {es} mine theirs j le lt = by (same_or_later k j le)
  where
    by : ((j ≡ k) ⊎ (k + 1 ≤ j)) → TurnsOfAreExact on c (Caller j) es
    by (inl same) = subst (λ (i : ℕ). TurnsOfAreExact on c (Caller i) es) (sym same) mine
    by (inr later) = theirs j later (omega (arith, lt))

module _ {Job Done Point : Type 0} (p : Plan Job Done Point) where
  still_done : (c : Config) {es fs : List Event} {first : List Replied} {k : ℕ} {jobs : List Job} {dones : List Done}
      → Grows (Caller k ∷ []) es fs → AreDone p jobs dones first (replied_in c k es)
      → AreDone p jobs dones first (replied_in c k fs)
  still_done c g h = record {
    runs = h.runs;
    are_runs = h.are_runs;
    same_jobs = h.same_jobs;
    same_dones = h.same_dones;
    all_are = still_replied c g ∙ h.all_are;
  }

  pub still_have : (c : Config) (es fs : List Event) (first : List Replied) (k : ℕ) (lists : List (Jobs Job))
      (all : List (Dones Done)) → ((j : ℕ) → k ≤ j → j < k + length lists → Grows (Caller j ∷ []) es fs)
      → HaveDone p c es first k lists all → HaveDone p c fs first k lists all
  still_have c es fs first k [] [] g h = tt
  still_have c es fs first k (x ∷ xs) (d ∷ ds) g h = (
    still_done c (g k (omega arith) (omega arith)) h.0,
    still_have c es fs [] (k + 1) xs ds (λ j le lt. g j (omega arith) (omega arith)) h.1,
  )
  still_have c es fs first k _ _ g h = absurd h

  -- A caller between two jobs may do the next one.
  pub ready_between : {E : Type 0} {made_for : E → ℕ} {on : Bool} {w : WordsState} {k : ℕ} {s : CallerState} {b : E}
      → s.home ≡ true → IsBetweenJobs on w k s.pass → k < w.config.callers → IsMadeFor p w.config
      → made_for b ≡ w.config.pages → IsReady p made_for s b
  ready_between home ready lt made pages = grind arith

  -- The work of a caller's thread
  pub has_worked : {on : Bool} {w : WordsState} {k : ℕ} {first : PassState} (s : CallerState) {q : PassState}
      (r : PassState) (jobs : List Job) (dones : Result (Dones Done) NoMemory) → IsBetweenJobs on w k first
      → IsAtHome s first → q ≡ record s.pass { seen = q.seen }
      → IfOk dones (λ ds. DoesJobs p s.pass jobs ds.list.items q) → (OwnAreExact on s.pass → OwnAreExact on q)
      → r ≡ q → IsIdleCaller q
      → HasWorked p on w (replied_to first) k jobs (record { pass = r; dones = dones })
  has_worked {on} {w} {k} {first} s {q} r jobs dones ready home is does exact same idle =
      let at_home : s.pass ≡ first = home.pass in
      let began : IsBetweenJobs on w k s.pass = rw at_home ready in
      let ended : IsBetweenJobs on w k r = rw same (is_ready began is idle (exact began.exact)) in
      record {
        ready = ended;
        done =
            IfOk-weaker dones (λ ds. DoesJobs p s.pass jobs ds.list.items q)
            (λ ds. AreDone p jobs ds.list.items (replied_to first) (replied_in w.config k r.seen)) (λ ds d. record {
              runs = d.done.runs;
              are_runs = d.done.are_runs;
              same_jobs = d.done.same_jobs;
              same_dones = d.done.same_dones;
              all_are =
                  own_replies ended ∙ ap replied_to same ∙ d.done.all_are
                  ∙ ap (λ (x : PassState). replied_to x ++ all_of d.done.runs) at_home;
            }) does;
      }

  -- One more is joined.

  none_done : {V : Type 0} (items : V → List (Dones Done)) (c : Config) (es : List Event) (first : List Replied)
      (k : ℕ) (all : Result V NoMemory) → IfOk all (λ a. items a ≡ [])
      → IfOk all (λ a. HaveDone p c es first k [] (items a))
  none_done items c es first k x5 is = grind arith

  pub none_joined : {on : Bool} {w : WordsState} {markers n : ℕ} (joined : Joined Done)
      → HasMade w markers n joined.host → IfOk joined.dones (λ all. all.items ≡ [])
      → HaveWorked p on w markers [] n [] joined
  none_joined {w} {n} joined made none = record {
    table = made.table;
    seat = made.seat;
    own = made.own;
    count = omega (arith, made.count);
    seats = λ j le lt. absurd (omega (arith, le, lt));
    exact = λ j le lt. absurd (omega (arith, le, lt));
    without_host = unseen_by_host joined.host.pass.seen made.seen;
    before_over = grind (arith, made.seen);
    same_markers = made.same_markers;
    done = none_done (λ all. all.items) w.config joined.host.pass.seen [] n joined.dones none;
  }

  dones_joined : {V : Type 0} (items : V → List (Dones Done)) (c : Config) (es : List Event) {ds fs : List Event}
      (before : List Replied) (k : ℕ) (jobs : Jobs Job) (lists : List (Jobs Job))
      (first : Result (Dones Done) NoMemory) (others all : Result V NoMemory) → Grows (Caller k ∷ []) ds fs
      → ((j : ℕ) → k + 1 ≤ j → j < k + 1 + length lists → Grows (Caller j ∷ []) es fs)
      → OnOk all (IsOk first) → OnOk all (IsOk others)
      → IfOk all (λ a. IfOk first (λ x. IfOk others (λ xs. items a ≡ x ∷ items xs)))
      → IfOk first (λ x. AreDone p jobs.list.items x.list.items before (replied_in c k ds))
      → IfOk others (λ xs. HaveDone p c es [] (k + 1) lists (items xs))
      → IfOk all (λ a. HaveDone p c fs before k (jobs ∷ lists) (items a))
  dones_joined items c es before k jobs lists first others (Err e) mine theirs a b is h i = tt
  dones_joined items c es before k jobs lists (Err x) others (Ok all) mine theirs a b is h i = cc
  dones_joined items c es before k jobs lists (Ok x) (Err y) (Ok all) mine theirs a b is h i = cc
  dones_joined items c es {fs} before k jobs lists (Ok x) (Ok xs) (Ok all) mine theirs a b is h i =
      subst (HaveDone p c fs before k (jobs ∷ lists)) (sym is) (
        still_done c mine h,
        still_have c es fs [] (k + 1) lists (items xs) theirs i,
      )

  pub one_joined : {on : Bool} {w : WordsState} {markers : ℕ} {first : List Replied} {k : ℕ} (jobs : Jobs Job)
      {others : List (Jobs Job)} {worked : Worked Done} {joined : Joined Done} (all : Joined Done)
      → HasWorked p on w first k jobs.list.items worked → HaveWorked p on w markers [] (k + 1) others joined
      → all.host ≡ with_joined joined.host worked.pass all.host.pass.seen
      → Grows joined.host.pass.seats joined.host.pass.seen all.host.pass.seen
      → Grows worked.pass.seats worked.pass.seen all.host.pass.seen
      → has_over all.host.pass.seen ≡ has_over joined.host.pass.seen → OnOk all.dones (IsOk worked.dones)
      → OnOk all.dones (IsOk joined.dones)
      → IfOk all.dones (λ a. IfOk worked.dones (λ x. IfOk joined.dones (λ xs. a.items ≡ x ∷ xs.items)))
      → HaveWorked p on w markers first k (jobs ∷ others) all
  one_joined {on} {w} {first = first} {k} jobs {others} {worked} {joined} all one rest is own came overs a b items =
      let q = worked.pass in
      let h = joined.host in
      let fs = all.host.pass.seen in
      let mine : Grows (Caller k ∷ []) q.seen fs =
      subst (λ (seats : List Seat). Grows seats q.seen fs) one.ready.alone came in
      let theirs : (j : ℕ) → k + 1 ≤ j → j < k + 1 + length others → Grows (Caller j ∷ []) h.pass.seen fs =
      λ j le lt. record {
        more = own.more;
        is = own.is;
        of_others = others_own h.pass.seats (Caller j) own.more (rest.seats j le lt) own.of_others;
      } in
      let has : (j : ℕ) → k ≤ j → j < k + length (jobs ∷ others) → Has (h.pass.seats ++ q.seats) (Caller j) =
      grind (arith, has_right, has_first, has_left, same_or_later) in
      let his : TurnsOfAreExact on w.config (Caller k) fs = still_exact w.config mine (own_exact one.ready) in
      record {
        table = ap (λ (x : HostState). x.pass.table) is ∙ rest.table;
        seat = ap (λ (x : HostState). x.pass.seat) is ∙ rest.seat;
        own = subst (λ (x : HostState). Has x.pass.seats Host) (sym is) (has_left h.pass.seats q.seats Host rest.own);
        count = (let n = ap (λ (x : HostState). x.callers) is in let m = rest.count in omega arith);
        seats = λ j le lt. subst (λ (x : HostState). Has x.pass.seats (Caller j)) (sym is) (has j le lt);
        exact = exact_joined w.config k (length others) his
            (exact_on w.config (k + 1) (length others) theirs rest.exact);
        without_host = host_is_still rest.own own rest.without_host;
        before_over = overs ∙ rest.before_over;
        same_markers = ap (λ (x : HostState). x.markers) is ∙ rest.same_markers;
        done =
            dones_joined (λ all. all.items) w.config h.pass.seen first k jobs others worked.dones joined.dones
            all.dones mine theirs a b items one.done rest.done;
      }
