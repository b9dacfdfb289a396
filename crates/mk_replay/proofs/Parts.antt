-- A text as its script part and the lines after its schedule line.
use Rattle.std.{proofs.Common.{length-take}, specs.List.{drop-map, take-map}}
use Rattle.mk_replay.proofs.{Vocabulary.{Bor, length-drop, take_all, text_length, texts_of}, ScriptPart.lines_before}
use Rattle.mk_laws.proofs.Vocabulary.{List, ℕ, ap, arith, cond-true, drop, le-leb, length, sym, take, ◌+◌, ◌-◌, ◌∙◌}
use Rattle.mk_laws.proofs.Vocabulary.{◌≡◌, ◌≤◌}
use Rattle.mk_replay.specs.Schedules.{StandsAt}
use Rattle.mk_replay.specs.Schedules.{entries_of_lines, replay_of, schedule_behind, schedule_lines}
use Rattle.mk_replay.specs.Schedules.{script_lines, with_schedule}
use Rattle.mk_script.specs.Grammar.{items_of_lines, program_of, lines_of}

not_too_long : (text : List ℕ) → length text ≤ 1048576 → program_of text ≡ items_of_lines (lines_of text)
not_too_long text short = cond-true _ _ _ (le-leb _ _ short)

-- lines of a text that are borrowed: the first of them, and those after them
taken : (lines : List (Bor (List ℕ))) (text : List ℕ) (count : ℕ) → texts_of lines ≡ lines_of text
    → texts_of (take count lines) ≡ take count (lines_of text)
taken lines text count are = sym (take-map (λ line. line.now) count lines) ∙ ap (take count) are

dropped : (lines : List (Bor (List ℕ))) (text : List ℕ) (count : ℕ) → texts_of lines ≡ lines_of text
    → texts_of (take (length lines - count) (drop count lines)) ≡ drop count (lines_of text)
dropped lines text count are =
    ap texts_of (take_all (length lines - count) (drop count lines) (omega (arith, length-drop count lines)))
    ∙ sym (drop-map (λ line. line.now) count lines) ∙ ap (drop count) are

pub script_within : (lines : List (Bor (List ℕ))) (text : List ℕ) {place : ℕ} → texts_of lines ≡ lines_of text
    → StandsAt (lines_of text) place → text_length (texts_of (take place lines)) ≤ length text
script_within lines text are stands = grind (arith, lines_before, taken)

-- the program is that of the bytes before the schedule line
program_before : (text : List ℕ) {place : ℕ} → length text ≤ 1048576 → StandsAt (lines_of text) place
    → program_of (take (text_length (take place (lines_of text))) text) ≡ items_of_lines (script_lines (lines_of text))
program_before text {place = place} short stands =
    let size = text_length (take place (lines_of text)) in
    not_too_long (take size text) (omega (arith, length-take size text))
    ∙ ap items_of_lines ((lines_before place text stands.inside).lines ∙ sym stands.before)

entries_behind : {lines : List (List ℕ)} {place : ℕ} → StandsAt lines place → schedule_behind
    (length (script_lines lines)) (schedule_lines lines) ≡ entries_of_lines (place + 2) (drop (place + 1) lines)
entries_behind {lines} {place} stands =
    ap (schedule_behind (length (script_lines lines))) stands.behind ∙ ap (λ n. entries_of_lines (n + 2)
    (drop (place + 1) lines)) (omega (arith, ap length stands.before, length-take place lines, stands.inside))

-- A text is read as its bytes before the schedule line and as the lines after it.
pub two_parts : (lines : List (Bor (List ℕ))) (text : List ℕ) {place : ℕ} (end : ℕ) → length text ≤ 1048576
    → texts_of lines ≡ lines_of text → StandsAt (lines_of text) place → end ≡ text_length (texts_of (take place lines))
    → replay_of text ≡ with_schedule (program_of (take end text))
    (entries_of_lines (place + 2) (texts_of (take (length lines - (place + 1)) (drop (place + 1) lines))))
two_parts lines text {place} end short are stands ends =
    grind (arith, taken, program_before, entries_behind, dropped, cond-true, le-leb)
