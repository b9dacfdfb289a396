-- Lines, read and printed one after the other.
use Rattle.std.{proofs.Common.{Bor, Err, Result}, specs.Result.{IfErr, OnOk}}
use Rattle.mk_trace.proofs.Vocabulary.{Contents, HeapPages, LinesSoFar, Ok, TraceStop, at_drop_more, contents_of}
use Rattle.mk_trace.proofs.Vocabulary.{header_line_of, length-drop, lines_of, nothing_written, take_all, texts_of}
use Rattle.mk_trace.proofs.Vocabulary.{trace_of_lines, words_of_line, written_from}
use Rattle.mk_heap.proofs.Below.Laws.Vocabulary.{Bool, List, None, Option, ℕ, ap, append-nil, append_assoc, arith}
use Rattle.mk_heap.proofs.Below.Laws.Vocabulary.{cond-true, drop}
use Rattle.mk_heap.proofs.Below.Laws.Vocabulary.{false, get_or, if◌then◌else◌, le-leb, length, refl, subst, sym, take}
use Rattle.mk_heap.proofs.Below.Laws.Vocabulary.{[], ◌++◌}
use Rattle.mk_heap.proofs.Below.Laws.Vocabulary.{◌+◌, ◌-◌, ◌<◌, ◌∙◌, ◌∷◌, ◌≡◌, ◌≢◌, ◌≤◌}
use Rattle.mk_script.specs.{Operands.◌>>=◌, declared.faults.LineFault.LineFault}
use Rattle.mk_script.specs.declared.faults.{LineFault.TheVariants.Text, TextKind.TheVariants.Word}
use Rattle.mk_trace.specs.{Grammar.{along, go_on}, Lines.{event_line_of, ok_unless, slot_line}}
use Rattle.mk_trace.specs.{Grammar.{and_then, trace_of}, declared.faults.TraceStop.TheVariants.NoMemory}

-- What lines keep one after the other, and what their results say.

-- the value of a first part, of which a second part makes the whole
pub record Parts {X Fault : Type 0} (first : Result X Fault) (next : X → Type 0) : Type 0 where
  pub value : X
  pub is : first ≡ Ok value
  pub behind : next value

pub bound : {X Y : Type 0} (first : Result X LineFault) (next : X → Result Y LineFault) (y : Y)
    → (first >>= next) ≡ Ok y → Parts first (λ x. next x ≡ Ok y)
bound x0 next y h = grind arith

pub gone_on : {X Y Fault : Type 0} (told : Fault → TraceStop) (first : Result X Fault)
    (next : X → Result Y TraceStop) (y : Y) → go_on told first next ≡ Ok y → Parts first (λ x. next x ≡ Ok y)
gone_on told x1 next y h = grind arith

pub then_next : {X Y : Type 0} (first : Result X TraceStop) (next : X → Result Y TraceStop) (y : Y)
    → and_then first next ≡ Ok y → Parts first (λ x. next x ≡ Ok y)
then_next x0 next y h = grind arith

pub unless_none : {X : Type 0} (limit : Option LineFault) (x y : X) → ok_unless limit x ≡ Ok y
    → (limit ≡ None) × (x ≡ y)
unless_none x0 x y h = grind arith

-- a test that an Ok or a None has passed

pub passed_else : {X Fault : Type 0} (test : Bool) (fault : Fault) (found : Result X Fault) (x : X)
    → (if test then Err fault else found) ≡ Ok x → (test ≡ false) × (found ≡ Ok x)
passed_else x0 fault found x h = grind arith

-- what each line keeps, all keep
pub along_keeps : {Line Given Whole Fault : Type 0} (told : ℕ → Fault → TraceStop)
    (read : Whole → Line → Result Given Fault) (add : Whole → Given → Whole) (P : Whole → Type 0)
    → ((whole : Whole) (line : Line) (given : Given) → P whole → read whole line ≡ Ok given → P (add whole given))
    → (number : ℕ) (lines : List Line) (before after : Whole) → P before
    → along told read add number lines before ≡ Ok after → P after
unfolding along
along_keeps told read add P keeps number [] before after holds h = let same : before ≡ after = cc in subst P same holds
along_keeps told read add P keeps number (line ∷ lines) before after holds h =
    let parts = gone_on (told number) (read before line) _ after h in
    along_keeps told read add P keeps (number + 1) lines (add before parts.value) after
    (keeps before line parts.value holds parts.is) parts.behind

-- what is said of a success
pub on_ok : {X Fault : Type 0} {A B : Type 0} (found : Result X Fault) → OnOk found A → (A → B) → OnOk found B
on_ok x0 told next = grind arith

-- Lines with a number of words that no form has.

pub no_slot : (before : LinesSoFar) (operands : List (Bor (List ℕ))) → length operands ≢ 2
    → slot_line before (texts_of operands) ≡ Err (Text Word)
no_slot before (a ∷ b ∷ []) n2 = absurd (n2 refl)
no_slot before _ n2 = refl

pub no_event : (word : List ℕ) (operands : List (Bor (List ℕ))) → length operands ≢ 1 → length operands ≢ 3
    → event_line_of word (texts_of operands) ≡ Err (Text Word)
no_event word (a ∷ []) n1 n3 = absurd (n1 refl)
no_event word (a ∷ b ∷ c ∷ []) n1 n3 = absurd (n3 refl)
no_event word _ n1 n3 = refl

-- A text of which the first line is a header and the others are of the grammar.

short : (text : List ℕ) → length text ≤ 1048576 → trace_of text ≡ trace_of_lines (lines_of text)
short text small = cond-true _ _ _ (le-leb _ _ small)

read : (first : List ℕ) (rest : List (List ℕ)) (heap : HeapPages) (written : LinesSoFar)
    → header_line_of (words_of_line first) ≡ Ok heap → written_from 2 rest nothing_written ≡ Ok written
    → trace_of_lines (first ∷ rest) ≡ contents_of heap written
read first rest heap written header lines = cc (header, lines)

-- the first of these lines, and the others
pub read_whole : (text : List ℕ) (lines : List (Bor (List ℕ))) (d : Bor (List ℕ)) (heap : HeapPages)
    (written : LinesSoFar) → length text ≤ 1048576 → texts_of lines ≡ lines_of text → 0 < length lines
    → header_line_of (words_of_line (get_or lines 0 d).now) ≡ Ok heap
    → written_from 2 (texts_of (take (length lines - 1) (drop 1 lines))) nothing_written ≡ Ok written
    → trace_of text ≡ contents_of heap written
read_whole text lines d heap written small are some header rest =
    short text small ∙ ap trace_of_lines (sym are ∙ at_drop_more texts_of lines 0 d some) ∙ read (get_or lines 0 d).now
    (texts_of (drop 1 lines)) heap written header (ap (λ left. written_from 2 (texts_of left) nothing_written)
    (sym (take_all (length lines - 1) (drop 1 lines) (omega (arith, length-drop 1 lines)))) ∙ rest)

-- what stops at the end stops the whole
pub stops_whole : {X : Type 0} (found : Result X TraceStop) (expected whole : Result Contents TraceStop)
    → whole ≡ expected → IfErr found (λ stop. stop ≢ NoMemory → expected ≡ Err stop)
    → IfErr found (λ stop. stop ≢ NoMemory → whole ≡ Err stop)
stops_whole x0 expected whole is told = grind arith

-- Lines after a text, one after the other.

pub six_lines : {X : Type 0} (old a b c d e f t1 t2 t3 t4 t5 t6 : List X) → t1 ≡ old ++ a → t2 ≡ t1 ++ b → t3 ≡ t2 ++ c
    → t4 ≡ t3 ++ d → t5 ≡ t4 ++ e → t6 ≡ t5 ++ f → t6 ≡ old ++ (a ++ (b ++ (c ++ (d ++ (e ++ (f ++ []))))))
six_lines old a b c d e f t1 t2 t3 t4 t5 t6 h1 h2 h3 h4 h5 h6 = grind (arith, append_assoc, append-nil)
