-- A script's caller makes one call more, and what is known then.
use Rattle.std.proofs.{Common.length-append, lemmas.List.Sums.{count_by-le-length, sum_by_push}}
use Rattle.mk_heap.proofs.Below.Laws.Vocabulary.{Answer, Bool, Caller, Config, Decided, Event, IsAdmitted, IsHistory}
use Rattle.mk_heap.proofs.Below.Laws.Vocabulary.{List, Op}
use Rattle.mk_heap.proofs.Below.Laws.Vocabulary.{Seat, Some, ℕ, ap, arith, asked, caller_number, calls, entry_of}
use Rattle.mk_heap.proofs.Below.Laws.Vocabulary.{if◌then◌else◌}
use Rattle.mk_heap.proofs.Below.Laws.Vocabulary.{length, map, map-append, never_behind, refl, subst, sym, [], ◌++◌, ◌+◌}
use Rattle.mk_heap.proofs.Below.Laws.Vocabulary.{◌<◌, ◌==◌}
use Rattle.mk_heap.proofs.Below.Laws.Vocabulary.{◌∙◌, ◌∷◌, ◌≡◌, ◌≤◌}
use Rattle.mk_run.proofs.Vocabulary.{Answers, FollowsScript, IsChecked, IsFedWith, IsHomePass, IsScript, Item}
use Rattle.mk_run.proofs.Vocabulary.{PassState, StaysAdmitted, answers_in, calls_by, config_of, feed, is_refusal}
use Rattle.mk_run.{proofs.Vocabulary.{next_op, script_names}, specs.declared.scripts.Counts.{Counts}}
use Rattle.mk_heap.{proofs.Dispatched.{then_seen}, specs.Below.Callers.States.{Admits, caller_of_pass}}
use Rattle.mk_heap.specs.{Dispatching.as_told, Below.Objects.TurnCycles.TurnsOfAreExact}
use Rattle.mk_run.specs.Running.{CountsHaveRoom, Script, ScriptTakesAnswer, script_of}
use Rattle.mk_check.proofs.{AdmittedScripts.next_is_admitted, FeedLaws.{feed_push, ops-feed_push}, Observed.word_taken}
use Rattle.mk_check.proofs.FewOperations.{scripts_ask_for_few}
use Rattle.mk_check.specs.{Feed.{Fed, Scope, take_answer}, Blocks.Blocks, Declarations.globals_of}
use Rattle.mk_check.specs.{Feeding.{FeedStandsFor, FeedState}, Laws.{AreNotedBy, ops_of_caller}, Feed.answers_among}

-- The calls of one caller among all: what its script notes of them, and what one call more makes of that.

abbrev answers_to : List Decided → List Answer
answers_to xs = map (λ (x : Decided). x.answer) xs

abbrev ops_of : List Decided → List Op
ops_of xs = map (λ (x : Decided). x.op) xs

-- the caller's operations are those of its calls
ops_are : (k : ℕ) (xs : List Decided) → ops_of_caller k (asked xs) ≡ ops_of (calls_by k xs)
ops_are k [] = refl
ops_are k (x ∷ xs) = by_test (x.caller == k) (ops_are k xs)
  where
    by_test : (same : Bool) → ops_of_caller k (asked xs) ≡ ops_of (calls_by k xs) → (if same then x.op ∷ ops_of_caller k
        (asked xs) else ops_of_caller k (asked xs)) ≡ ops_of (if same then x ∷ calls_by k xs else calls_by k xs)
    by_test x0 e = grind arith

abbrev pub IsNoted : List Item → ℕ → List Decided → Type 0
IsNoted program k xs = AreNotedBy program k (answers_among k xs) (asked xs)

-- While the caller makes no call, its script has noted all.

pub same_answers : (k : ℕ) (xs ys : List Decided) → calls_by k ys ≡ calls_by k xs
    → answers_among k ys ≡ answers_among k xs
same_answers k xs ys same = ap answers_to same

pub still_noted : (program : List Item) (k : ℕ) (xs ys : List Decided) → calls_by k ys ≡ calls_by k xs
    → IsNoted program k xs → IsNoted program k ys
still_noted program k xs ys same noted = grind (arith, ops_are, ops_of, same_answers)

-- One call more, which is what the script asks for next.

pub one_answer_more : (k : ℕ) (xs ys : List Decided) (o : Op) (a : Answer)
    → calls_by k ys ≡ calls_by k xs ++ entry_of k o (Some a) → answers_among k ys ≡ answers_among k xs ++ a ∷ []
one_answer_more k xs ys o a more =
    ap answers_to more ∙ map-append (λ (x : Decided). x.answer) (calls_by k xs) (entry_of k o (Some a))

pub one_more_noted : (program : List Item) (k : ℕ) (xs ys : List Decided) (o : Op) (a : Answer)
    → calls_by k ys ≡ calls_by k xs ++ entry_of k o (Some a) → next_op program k (answers_among k xs) ≡ Some o
    → IsNoted program k xs → IsNoted program k ys
one_more_noted program k xs ys o a more next noted =
    grind (arith, ops_are, ops_of, map-append, calls_by, ops-feed_push, one_answer_more)

-- What the script asks for next is admitted.

next_fits : {program : List Item} (markers k : ℕ) {es : List Event} (answers : List Answer) (o : Op) → IsChecked program
    → IsScript program k → IsHistory (config_of program markers) es
    → AreNotedBy program k answers (asked (calls (config_of program markers) es)) → next_op program k answers ≡ Some o
    → IsAdmitted (globals_of program) (never_behind (config_of program markers) es) k o
next_fits {program} markers k {es = es} answers o checked is_script history noted next =
    let enough : length (script_names program) ≤ length (script_names program) = omega arith in
    (next_is_admitted program (length (script_names program)) (asked (calls (config_of program markers) es)) k answers
    checked enough is_script history.admitted noted).asked o next

pub next_admitted : {program : List Item} {c : Config} (k : ℕ) {es : List Event} (answers : List Answer) (o : Op)
    → IsChecked program → IsScript program k → c ≡ config_of program c.markers → IsHistory c es
    → AreNotedBy program k answers (asked (calls c es)) → next_op program k answers ≡ Some o
    → IsAdmitted c.globals (never_behind c es) k o
next_admitted {program} {c} k {es = es} answers o checked is_script is history noted next =
    subst (λ (d : Config). IsHistory d es → AreNotedBy program k answers (asked (calls d es)) → IsAdmitted d.globals
    (never_behind d es) k o) (sym is) (λ h n. next_fits c.markers k answers o checked is_script h n next) history noted

-- A script that is fed with what its caller is told of the answers.

-- What is said of an answer does to a script what the answer does.

taken_as_told : (scope : Scope) (fed : Fed) (left : Blocks) (a : Answer)
    → take_answer scope fed left (as_told a) ≡ take_answer scope fed left a
taken_as_told scope fed left (Answer.Word w) = word_taken scope fed left 0 w
taken_as_told scope fed left _ = refl

told_refuses : (a : Answer) → is_refusal (as_told a) ≡ is_refusal a
told_refuses x0 = grind arith

same_length : (answers : List Answer) (a b : Answer) → length (answers ++ a ∷ []) ≡ length (answers ++ b ∷ [])
same_length answers a b = length-append answers (a ∷ []) ∙ sym (length-append answers (b ∷ []))

same_feed : {program : List Item} {k : ℕ} {s : FeedState} {xs : List Answer} (ys : List Answer)
    → feed program k xs ≡ feed program k ys
    → length xs ≡ length ys → FeedStandsFor program k s xs → FeedStandsFor program k s ys
same_feed ys same long h = grind arith

ruleset fed_as_told_facts = (same_feed, same_length, told_refuses, sum_by_push, feed_push, taken_as_told)

-- one answer more, as it was told
pub fed_as_told : (program : List Item) (k : ℕ) (answers : List Answer) (a : Answer) (s : Script)
    → IsFedWith program k (answers ++ as_told a ∷ []) s → IsFedWith program k (answers ++ a ∷ []) s
fed_as_told program k answers a s h = grind (arith, fed_as_told_facts)

-- A script's next operation, and its answer.

module _ (on : Bool) (program : List Item) (k : ℕ) (p : PassState) (seat : p.seat ≡ Caller k) (es : List Event) where
  abbrev c : Config
  c = p.table.config

  -- the pass when it has seen these
  abbrev now : PassState
  now = record p { seen = es }

  number : caller_of_pass p ≡ k
  number = ap (λ (s : Seat). caller_number s) seat

  abbrev answers : List Answer
  answers = answers_in c k es

  pub next_stays_admitted : IsChecked program → IsScript program k → c ≡ config_of program c.markers
      → FollowsScript on program k c es → (o : Op) → next_op program k answers ≡ Some o → StaysAdmitted now o
  next_stays_admitted checked is_script config follows o next = λ q history none.
      let later : IsHistory c q.seen =
      subst (λ (r : PassState). IsHistory r.table.config q.seen) none.is history in
      let noted : AreNotedBy program k answers (asked (calls c q.seen)) = grind (arith, same_answers, still_noted) in
      subst (λ (r : PassState). Admits r o) (sym none.is)
      (rw number (next_admitted k answers o checked is_script config later noted next))

  module _ (o : Op) (told : Answer) (q : PassState) (next : next_op program k answers ≡ Some o)
      (h : Answers on now o told q) where
    one_more : calls_by k (calls c q.seen) ≡ calls_by k (calls c es) ++ entry_of k o (Some h.answer)
    one_more = rw number at h.entry

    pub follows_on : FollowsScript on program k c es → FollowsScript on program k c q.seen
    follows_on follows = record {
      noted = one_more_noted program k (calls c es) (calls c q.seen) o h.answer one_more next follows.noted;
      exact =
          rw seat at (rw h.is at (h.exact (subst (λ (s : Seat). TurnsOfAreExact on c s es) (sym seat) follows.exact)));
    }

    pub fed_on : {s : Script} (t : Script) → IsFedWith program k answers s → ScriptTakesAnswer told s t
        → IsFedWith program k (answers_in c k q.seen) t
    fed_on t fed takes =
        rw (one_answer_more k (calls c es) (calls c q.seen) o h.answer one_more) (fed_as_told program k answers h.answer
        t (subst (λ (a : Answer). IsFedWith program k (answers ++ a ∷ []) t) h.is_told (takes program k answers fed)))

-- A script under way.

-- The caller of a script exists, whatever its pass has seen.
pub exists_on : (p q : PassState) (k : ℕ) (program : List Item) → q ≡ record p { seen = q.seen } → caller_of_pass p ≡ k
    → IsScript program k
    → p.table.config ≡ config_of program p.table.config.markers → caller_of_pass q < q.table.config.callers
exists_on p q k program is number script config = grind arith

pub seat_is : (p : PassState) {q : PassState} (k : ℕ) → q ≡ record p { seen = q.seen } → IsHomePass q
    → caller_of_pass p ≡ k → p.seat ≡ Caller k
seat_is p k is of_home number = cc (is, of_home.idle.seat, number)

-- The pass that began as the first is at the second, and its caller follows the script, which is fed with all answers.
pub record IsRunning (on : Bool) (program : List Item) (k : ℕ) (p q : PassState) (s : Script) : Type 0 where
  pub is : q ≡ record p { seen = q.seen }
  pub follows : FollowsScript on program k p.table.config q.seen
  pub fed : IsFedWith program k (answers_in p.table.config k q.seen) s

module _ {on : Bool} {program : List Item} {k : ℕ} {p q : PassState} {s : Script} (run : IsRunning on program k p q s)
    (seat : p.seat ≡ Caller k) (o : Op) (next : next_op program k (answers_in p.table.config k q.seen) ≡ Some o) where
  pub asked_stays_admitted : IsChecked program → IsScript program k
      → p.table.config ≡ config_of program p.table.config.markers → StaysAdmitted q o
  asked_stays_admitted checked is_script config =
      rw run.is (next_stays_admitted on program k p seat q.seen checked is_script config run.follows o next)

  pub follows_now : {told : Answer} {r : PassState} → Answers on q o told r
      → FollowsScript on program k r.table.config r.seen
  follows_now {told} {r} h =
      rw (ap (λ (x : PassState). x.table) (then_seen p q r run.is h.is)) (follows_on on program k p seat q.seen o told r
      next (subst (λ (x : PassState). Answers on x o told r) run.is h) run.follows)

  pub runs_on : {told : Answer} {r : PassState} (t : Script) → Answers on q o told r → ScriptTakesAnswer told s t
      → IsRunning on program k p r t
  runs_on {told} {r} t h takes =
      let answers = subst (λ (x : PassState). Answers on x o told r) run.is h in
      record {
        is = then_seen p q r run.is h.is;
        follows = follows_on on program k p seat q.seen o told r next answers run.follows;
        fed = fed_on on program k p seat q.seen o told r next answers t run.fed takes;
      }

-- One answer more is counted.

pub refused_within : {program : List Item} {k : ℕ} {answers : List Answer} {s : Script}
    → IsFedWith program k answers s → s.refused ≤ s.ops
refused_within {answers} fed = omega (arith, count_by-le-length is_refusal answers, fed.ops, fed.refused)

-- A script asks for a million operations at most, so there is room for one more.
pub has_room : {program : List Item} {k : ℕ} {answers : List Answer} (feed : FeedState) (counts : Counts)
    → IsChecked program → IsFedWith program k answers (script_of feed counts) → CountsHaveRoom counts
has_room {program} {k} {answers} feed counts checked fed =
    let few = scripts_ask_for_few program k answers checked.well_typed in
    let ops = fed.ops ∙ sym fed.feed.taken in
    record { ops = omega (arith, few, ops); refused = refused_within fed }
