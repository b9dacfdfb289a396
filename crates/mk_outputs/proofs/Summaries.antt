-- The summary of a run of a generated program is that of its history.
use Rattle.std.proofs.{Common.{codes, count_by, slice_get, sum_by}, lemmas.{Fmt.decimal_digit, List.drop_all}}
use Rattle.std.proofs.lemmas.{List.Sums.sum_by-cons, Option.slice_get_within}
use Rattle.std.specs.{Fmt.decimal, List.{flat_map, range_with_len}}
use Rattle.mk_run.proofs.Below.Laws.Vocabulary.{Answer, Config, Event, List, Some, ℕ, ap, append-nil, append_assoc}
use Rattle.mk_run.proofs.Below.Laws.Vocabulary.{arith, drop}
use Rattle.mk_run.proofs.Below.Laws.Vocabulary.{false, false≢true, get_or, length, refl, slice_index_or, suc, sym, true}
use Rattle.mk_run.proofs.Below.Laws.Vocabulary.{[], ◌++◌}
use Rattle.mk_run.proofs.Below.Laws.Vocabulary.{◌+◌, ◌<◌}
use Rattle.mk_run.proofs.Below.Laws.Vocabulary.{◌∙◌, ◌∷◌, ◌≡◌, ◌≤◌}
use Rattle.mk_check.specs.{Declarations.config_of, Laws.IsScript, declared.text.Text.Text}
use Rattle.mk_check.specs.Feed.{is_refusal, answers_given}
use Rattle.mk_run.specs.Below.Cycles.{BeginCycle.CyclesHoldGatesFirst, Beside.CyclesMarkRootsFirst}
use Rattle.mk_run.specs.Below.Heaps.Hosts.{MarkersAreBelow}
use Rattle.mk_run.specs.Headline.{cycles_go_on}
use Rattle.mk_run.specs.{Running.{IsRunOf, answers_in}, Below.Heaps.Unswept.IsUnswept}
use Rattle.mk_run.specs.Below.Heaps.Hosts as report
use Rattle.mk_run.specs.declared.outcomes.Outcome.{Outcome}
use Rattle.mk_outputs.proofs.GeneratedLaws.{generated_declares_nodes, generated_makes_turns}
use Rattle.mk_outputs.specs.Generated.{all_names, generated_program}
use Rattle.mk_run.proofs.Headline.{all_given, ends_of_run, none_is_left, noted_of_run}
use Rattle.mk_run.proofs.Headline.{runs_keep_their_promises, runs_stand_in_one_history}
use Rattle.mk_outputs.specs.RunOutputs.{AreFew, line_of_text, lines_from, summary_of_texts}
use Rattle.mk_outputs.specs.RunOutputs.{IsSummaryOfRun, line_of_script, summary}
use Rattle.mk_script.{proofs.Spacing.drop_next, specs.{Scopes.script_names, declared.items.Item.Item}}

-- the operations of all scripts
abbrev pub all_ops : List Text → ℕ
all_ops texts = sum_by (λ (text : Text). text.ops) texts

-- Lines and sums, place by place.

lines_are : (g : ℕ → List ℕ) (k : ℕ) (texts : List Text) → ((i : ℕ) (text : Text) → slice_get texts i ≡ Some text
    → line_of_text (k + i) text ≡ g (k + i)) → lines_from k texts ≡ flat_map g (range_with_len k (length texts))
lines_are g k [] each = refl
lines_are g k (text ∷ texts) each =
    let here : k ≡ k + 0 = omega arith in
    let first : line_of_text k text ≡ g k = cc (here, each 0 text refl) in
    ap (λ (line : List ℕ). line ++ lines_from (k + 1) texts) first
    ∙ ap (λ (more : List ℕ). g k ++ more) (lines_are g (k + 1) texts (λ i next is. let there : (k + 1) + i ≡ k + suc
    i = omega arith in ap (λ (j : ℕ). line_of_text j next) there ∙ each (suc i) next is ∙ ap g (sym there)))

sums_are : (g : ℕ → ℕ) (k : ℕ) (texts : List Text) → ((i : ℕ) (text : Text) → slice_get texts i ≡ Some text
    → text.ops ≡ g (k + i)) → all_ops texts ≡ sum_by g (range_with_len k (length texts))
sums_are g k [] each = refl
sums_are g k (text ∷ texts) each =
    let first : text.ops ≡ g k = each 0 text refl ∙ ap g (omega arith) in
    let rest = sums_are g (k + 1) texts (λ i next is. each (suc i) next is ∙ ap g (omega arith)) in
    let left = sum_by-cons (λ (t : Text). t.ops) text texts in
    let right = sum_by-cons g k (range_with_len (k + 1) (length texts)) in
    omega arith

-- One text more.

pub lines_more : (texts : List Text) (i : ℕ) (text : Text) (front line : List ℕ) → i < length texts
    → text ≡ get_or texts i text → line ≡ front ++ line_of_text i text
    → front ++ lines_from i (drop i texts) ≡ line ++ lines_from (i + 1) (drop (i + 1) texts)
lines_more texts i text front line inside is made =
    ap (λ (left : List Text). front ++ lines_from i left) (drop_next texts i text inside is) ∙ (sym (append_assoc front
    (line_of_text i text) _) ∙ ap (λ (l : List ℕ). l ++ lines_from (i + 1) (drop (i + 1) texts)) (sym made))

pub ops_more : (texts : List Text) (i : ℕ) (text : Text) → i < length texts → text ≡ get_or texts i text
    → all_ops (drop i texts) ≡ text.ops + all_ops (drop (i + 1) texts)
ops_more texts i text inside is =
    ap all_ops (drop_next texts i text inside is) ∙ sum_by-cons (λ (t : Text). t.ops) text (drop (i + 1) texts)

-- After the last text.

pub lines_done : (texts : List Text) (i : ℕ) (front : List ℕ) → length texts ≤ i
    → front ++ lines_from i (drop i texts) ≡ front
lines_done texts i front past = cc (drop_all i texts past, append-nil front)

pub ops_done : (texts : List Text) (i : ℕ) → length texts ≤ i → all_ops (drop i texts) ≡ 0
ops_done texts i past = ap all_ops (drop_all i texts past)

name_is : (k : ℕ) → k < 4 → codes "s" ++ decimal k ≡ slice_index_or all_names k []
name_is x0 h = grind (arith, decimal_digit)

module _ (start count markers : ℕ) (outcome : Outcome)
    (runs : IsRunOf (cycles_go_on markers) false (generated_program start count) markers outcome) where
  abbrev program : List Item
  program = generated_program start count

  abbrev c : Config
  c = config_of (generated_program start count) markers

  abbrev es : List Event
  es = report.history_of outcome.report

  names : script_names program ≡ all_names
  names = (generated_declares_nodes start count).scripts

  pub four : length outcome.texts.items ≡ 4
  four = runs.count ∙ ap (λ (xs : List (List ℕ)). length xs) names

  is_script : (k : ℕ) (text : Text) → slice_get outcome.texts.items k ≡ Some text → IsScript program k
  is_script k text is =
      let inside = slice_get_within outcome.texts.items k text is in
      omega arith

  given : (k : ℕ) (text : Text) → slice_get outcome.texts.items k ≡ Some text
      → answers_in c k es ≡ answers_given c es k
  given k text is = sym (all_given k runs.whole (is_script k text is))

  ops_are : (k : ℕ) (text : Text) → slice_get outcome.texts.items k ≡ Some text
      → text.ops ≡ length (answers_given c es k)
  ops_are k text is = (runs.texts k text is).ops ∙ ap (λ (xs : List Answer). length xs) (given k text is)

  refusals_are : (k : ℕ) (text : Text) → slice_get outcome.texts.items k ≡ Some text
      → text.refused ≡ count_by is_refusal (answers_given c es k)
  refusals_are k text is =
      (runs.texts k text is).refused ∙ ap (λ (xs : List Answer). count_by is_refusal xs) (given k text is)

  pub are_few : count ≤ 3000000 → AreFew outcome.texts.items
  are_few most k text is =
      let script = is_script k text is in
      let made = (generated_makes_turns start count k script).calls (answers_given c es k)
      (ends_of_run runs k script) in
      let all = none_is_left program markers k runs.whole script (noted_of_run runs k script) in
      let ops = ops_are k text is in
      omega arith

  summary_is : summary_of_texts outcome.texts.items ≡ summary program c es
  summary_is =
      let texts = outcome.texts.items in
      let answers = answers_given c es in
      let lines = lines_are (line_of_script program answers) 0 texts (λ k text is.
      let same : 0 + k ≡ k = omega arith in
      ap (λ (j : ℕ). line_of_text j text) same ∙ (let ops = ops_are k text is in
      let refusals = refusals_are k text is in
      let inside = slice_get_within outcome.texts.items k text is in
      let e = four in
      let name : codes "s" ++ decimal k ≡ slice_index_or (script_names program) k [] =
      name_is k (omega arith) ∙ ap (λ (xs : List (List ℕ)). slice_index_or xs k []) (sym names) in
      cc (name, ops, refusals)) ∙ ap (line_of_script program answers) (sym same)) in
      let sums = sums_are (λ k. length (answers k)) 0 texts (λ k text is.
      ops_are k text is ∙ ap (λ (j : ℕ). length (answers j)) (omega arith)) in
      let counted = runs.count in
      cc (lines, sums, counted)

  pub run_is_summed : (cycles_go_on markers ≡ true → CyclesMarkRootsFirst c es)
      → (cycles_go_on markers ≡ false → CyclesHoldGatesFirst c es) → MarkersAreBelow markers es → IsUnswept c es
      → (bytes : List ℕ) → bytes ≡ summary_of_texts outcome.texts.items
      → IsSummaryOfRun program markers es bytes
  run_is_summed begun stops below unswept bytes is =
      let stands =
      runs_stand_in_one_history program markers false false outcome runs begun stops below (λ none. unswept)
      (λ sweeps. absurd (false≢true sweeps)) in
      record {
        stands = stands;
        promises = runs_keep_their_promises program markers false false es stands;
        bytes_are = is ∙ summary_is;
      }
