-- Lines, one after the others.
use Rattle.std.{proofs.Common.Result, specs.Result.{IfErr, IfOk, MatchResult}}
use Rattle.mk_script.proofs.FirstLine.{first_and_later}
use Rattle.mk_script.proofs.Vocabulary.{Err, Item, List, Ok, ℕ, ap, arith, go_on, items_behind, length, line_of}
use Rattle.mk_script.proofs.Vocabulary.{lines_of, sym, words_of_line, [], ◌++◌, ◌+◌, ◌<◌, ◌∙◌, ◌∷◌, ◌≡◌, ◌≢◌}
use Rattle.mk_script.specs.{Lines.{IsStopOfLine, ReadsLine}, Grammar.{stop_at, first_line, later_lines}}
use Rattle.mk_script.specs.declared.faults.{LineStop.LineStop, TextStop.TextStop}
use Rattle.mk_script.specs.declared.scope.Scope.{Scope}

-- what a text is read as whose next line has an item, or hasn't
goes_on : (before : List Item) (line : List ℕ) (lines : List (List ℕ)) (item : Item) → line_of before
    (words_of_line line) ≡ Ok item → items_behind (line ∷ lines) before ≡ items_behind lines (before ++ item ∷ [])
goes_on before line lines item is =
    ap (λ read. go_on (length before + 1) read (λ item'. items_behind lines (before ++ item' ∷ []))) is

stops : (before : List Item) (line : List ℕ) (lines : List (List ℕ)) (number : ℕ) (found : LineStop)
    → number ≡ length before + 1 → IsStopOfLine (line_of before (words_of_line line)) found
    → stop_at number found ≢ TextStop.NoMemory → items_behind (line ∷ lines) before ≡ Err (stop_at number found)
stops before line lines number x4 counts is memory = grind arith

-- the same of the text that is left

pub step : (left later : List ℕ) {before items : List Item} {scope : Scope} → 0 < length left
    → ReadsLine before (line_of before (words_of_line (first_line left))) items scope → later ≡ later_lines left
    → items_behind (lines_of later) items ≡ items_behind (lines_of left) before
step left later {before} {items} some read is =
    ap (λ (text : List ℕ). items_behind (lines_of text) items) is
    ∙ ap (λ (now : List Item). items_behind (lines_of (later_lines left)) now) read.items_are
    ∙ sym (ap (λ (lines : List (List ℕ)). items_behind lines before) (first_and_later left some)
    ∙ goes_on before (first_line left) (lines_of (later_lines left)) read.item read.is_item)

pub stops_at : (left : List ℕ) (before : List Item) (number : ℕ) (found : LineStop) → 0 < length left
    → number ≡ length before + 1 → IsStopOfLine (line_of before (words_of_line (first_line left))) found
    → stop_at number found ≢ TextStop.NoMemory → items_behind (lines_of left) before ≡ Err (stop_at number found)
stops_at left before number found some counts is memory =
    ap (λ (lines : List (List ℕ)). items_behind lines before) (first_and_later left some)
    ∙ stops before (first_line left) (lines_of (later_lines left)) number found counts is memory

pub ended_well : {A : Type 0} (view : A → List Item) (result : Result A TextStop)
    (expected found : Result (List Item) TextStop) → expected ≡ found → MatchResult result
    (λ kept. found ≡ Ok (view kept)) (λ stop. found ≡ Err stop) → IfOk result (λ kept. expected ≡ Ok (view kept))
ended_well view x1 expected found is ended = grind arith

pub ended_badly : {A : Type 0} (view : A → List Item) (result : Result A TextStop) (expected found : Result
    (List Item) TextStop) → expected ≡ found → MatchResult result (λ kept. found ≡ Ok (view kept))
    (λ stop. found ≡ Err stop) → IfErr result (λ found_stop. found_stop ≢ TextStop.NoMemory → expected ≡ Err found_stop)
ended_badly view x1 expected found is ended = grind arith
