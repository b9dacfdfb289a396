-- A run that stands in one history can be observed: its calls in their order, what each script is told, and the bytes.
use Rattle.std.proofs.{Common.{All, ap₂, count_by}, lemmas.List.{length-map, length-replicate}}
use Rattle.std.proofs.lemmas.List.{Elements.{All-cons, All-nil}, Sums.sum_by-cons}
use Rattle.std.specs.{List.{flat_map, range_with_len}, Prelude.zero}
use Rattle.mk_heap.proofs.Below.Laws.Vocabulary.{Answer, Bool, Config, Event, List, ℕ, ap, arith, asked, calls}
use Rattle.mk_heap.proofs.Below.Laws.Vocabulary.{if◌then◌else◌}
use Rattle.mk_heap.proofs.Below.Laws.Vocabulary.{length, map, refl, subst, suc, sym, true, [], ◌++◌, ◌+◌, ◌*◌, ◌<◌, ◌∙◌}
use Rattle.mk_heap.proofs.Below.Laws.Vocabulary.{◌∷◌, ◌≡◌}
use Rattle.mk_heap.proofs.Below.Laws.Promises.{histories_keep_all_promises}
use Rattle.mk_never.specs.{Admitted.AreAdmitted, NeverHeap.{Call, NeverState, after_op}, declared.values.Value.Value}
use Rattle.mk_never.{proofs.Later.op_stays, specs.declared.operations.Reply.Reply}
use Rattle.mk_core.specs.History.{bases_of, left, never_first, answer_of, answers_of}
use Rattle.mk_check.proofs.Observed.{answers_are_images, feed_images}
use Rattle.mk_check.specs.{Feed.{Fed, has_ended, answers_given, text_behind}, Laws.AreNotedBy}
use Rattle.mk_check.specs.Observed.{ObservedRun, replies_to, script_after, told_of}
use Rattle.mk_run.proofs.Vocabulary.{IsScript, IsWhole, Item, config_of, feed, is_refusal, script_names}
use Rattle.mk_run.proofs.Headline.{all_given, ends_of_run, noted_of_run, runs_print_their_texts}
use Rattle.mk_run.specs.Headline.{CanBeObserved, PrintedRunsCanBeObserved, RunsCanBeObserved, TellsAsMuch}

-- who is admitted is one of the callers
callers_exist : (globals : List ℕ) (callers : ℕ) (n : NeverState) (xs : List Call) → length n.registers ≡ 8 * callers
    → AreAdmitted globals n xs → All (λ (x : Call). x.caller < callers) xs
callers_exist globals callers n [] long admitted = All-nil (λ (x : Call). x.caller < callers)
callers_exist globals callers n (x ∷ xs) long admitted =
    let within = admitted.0.of_a_caller in
    All-cons (λ (y : Call). y.caller < callers) x xs (omega arith)
    (callers_exist globals callers (after_op n x.caller x.op) xs
    ((op_stays n x.caller x.op).registers ∙ long) admitted.1)

-- pieces that are the same at each place
same_pieces : (f g : ℕ → List ℕ) (a n : ℕ) → ((k : ℕ) → k < a + n → f k ≡ g k)
    → flat_map f (range_with_len a n) ≡ flat_map g (range_with_len a n)
same_pieces f g a zero each = refl
same_pieces f g a (suc n) each =
    ap (λ piece. piece ++ flat_map f (range_with_len (a + 1) n)) (each a (omega arith))
    ∙ ap (λ more. g a ++ more) (same_pieces f g (a + 1) n (λ k less. each k (omega arith)))

-- What a script is told of replies counts as their images do.

one_refusal : (bases : List ℕ) (r : Reply) → is_refusal (told_of r) ≡ is_refusal (answer_of bases r)
one_refusal bases x1 = grind arith

refusals : (bases : List ℕ) (rs : List Reply)
    → count_by is_refusal (map told_of rs) ≡ count_by is_refusal (answers_of bases rs)
refusals bases [] = refl
refusals bases (r ∷ rs) =
    sum_by-cons (λ (a : Answer). if is_refusal a then 1 else 0) (told_of r) (map told_of rs)
    ∙ (ap₂ (λ (b : Bool) (n : ℕ). (if b then 1 else 0) + n) (one_refusal bases r) (refusals bases rs)
    ∙ sym (sum_by-cons (λ (a : Answer). if is_refusal a then 1 else 0) (answer_of bases r) (answers_of bases rs)))

tells_as_much : (bases : List ℕ) (rs : List Reply) {answers : List Answer} → answers ≡ answers_of bases rs
    → TellsAsMuch (map told_of rs) answers
tells_as_much bases rs is = rw is (record {
  all = length-map rs told_of ∙ sym (length-map rs (answer_of bases));
  refusals = refusals bases rs;
})

-- A script that is told the replies is where its answers bring it.

module _ (program : List Item) (markers : ℕ) {es : List Event} (whole : IsWhole (config_of program markers) es) where
  abbrev c : Config
  c = config_of program markers

  abbrev made : List Call
  made = asked (calls c es)

  abbrev bases : List ℕ
  bases = bases_of (left c es).allocations

  given : (k : ℕ) → IsScript program k → answers_given c es k ≡ answers_of bases (replies_to k (never_first c) made)
  given k is =
      all_given k whole is
      ∙ answers_are_images bases k (never_first c) (calls c es)
      (histories_keep_all_promises c es whole.history).refined

  same_script : (k : ℕ) → IsScript program k
      → feed program k (answers_given c es k) ≡ script_after program made k
  same_script k is =
      ap (λ (xs : List Answer). feed program k xs) (given k is)
      ∙ sym (feed_images program k bases (replies_to k (never_first c) made))

  pub can_be_observed : ((k : ℕ) → IsScript program k → AreNotedBy program k (answers_given c es k) made)
      → ((k : ℕ) → IsScript program k → has_ended (feed program k (answers_given c es k)) ≡ true)
      → CanBeObserved program c es
  can_be_observed operations ends =
      let count = length (script_names program) in
      record {
        run = record {
          calls = made;
          callers =
              callers_exist c.globals count (never_first c) made (length-replicate (8 * count) Value.Null)
              whole.history.admitted;
          operations = λ k is. operations k is ∙ ap (λ (f : Fed). f.ops) (same_script k is);
          ends = λ k is. ap (λ (f : Fed). has_ended f) (sym (same_script k is)) ∙ ends k is;
          printed = same_pieces (text_behind program c es) (λ k. (script_after program made k).text) 0 count
              (λ k less. ap (λ (f : Fed). f.text) (same_script k (omega arith)));
        };
        calls_are = refl;
        tells = λ k is. tells_as_much bases (replies_to k (never_first c) made) (given k is);
      }

pub runs_can_be_observed : RunsCanBeObserved
runs_can_be_observed program markers sweep last_cycle es h =
    can_be_observed program markers h.whole h.operations h.ends

pub printed_runs_can_be_observed : PrintedRunsCanBeObserved
printed_runs_can_be_observed on with_cycle program markers outcome runs =
    let seen = can_be_observed program markers runs.whole (noted_of_run runs) (ends_of_run runs) in
    subst (λ (text : List ℕ). ObservedRun program text)
    (sym (runs_print_their_texts on with_cycle program markers outcome runs)) seen.run
