-- The text that is written, script by script.
use Rattle.std.proofs.{Common.{Bor, drop, get_or, map}, lemmas.List.get_or-map}
use Rattle.mk_outputs.proofs.Vocabulary.{List, ℕ, all_names, ap, append_assoc, body_lines, codes, count_of_numbers}
use Rattle.mk_outputs.proofs.Vocabulary.{declaration_lines, draw, length, lines_of_scripts, next_state, refl, sym}
use Rattle.mk_outputs.proofs.Vocabulary.{text_of_lines, turns_of, [], ◌++◌, ◌+◌, ◌<◌, ◌∙◌, ◌∷◌, ◌≡◌}
use Rattle.mk_outputs.specs.Generated.{generated_text}
use Rattle.mk_script.proofs.Spacing.{drop_next}

pub text_of_lines-append : (lines more : List (List ℕ))
    → text_of_lines (lines ++ more) ≡ text_of_lines lines ++ text_of_lines more
text_of_lines-append [] more = refl
text_of_lines-append (line ∷ lines) more =
    ap (λ text. line ++ (codes "\n" ++ text)) (text_of_lines-append lines more)
    ∙ sym (append_assoc line (codes "\n" ++ text_of_lines lines) (text_of_lines more))

-- The lines before the first script are written, and all scripts are left.
pub all_scripts_left : (start count numbers x : ℕ) (text : List ℕ) → numbers ≡ count_of_numbers start → x
    ≡ next_state start → text ≡ text_of_lines (declaration_lines numbers)
    → text ++ text_of_lines (lines_of_scripts (turns_of count) numbers x all_names) ≡ generated_text start count
unfolding generated_text
all_scripts_left start count numbers x text are is written =
    let scripts = lines_of_scripts (turns_of count) (count_of_numbers start) (next_state start) all_names in
    rw (written, is, are) (sym (text_of_lines-append (declaration_lines (count_of_numbers start)) scripts))

-- One script more is written, of those that are left: y is the state after its first draw, and z after its second.
pub one_script_more : (turns numbers x number y place z i : ℕ) (names : List (List ℕ))
    (name before after whole : List ℕ)
    → number ≡ draw (next_state x) 1000 → y ≡ next_state x → place ≡ draw (next_state y) numbers → z ≡ next_state y
    → i < length names → before ++ text_of_lines (lines_of_scripts turns numbers x (drop i names)) ≡ whole
    → after ≡ before ++ text_of_lines ((codes "script " ++ name) ∷ body_lines turns number place)
    → name ≡ get_or names i name
    → after ++ text_of_lines (lines_of_scripts turns numbers z (drop (i + 1) names)) ≡ whole
one_script_more turns numbers x number y place z i names name before after whole drawn is drawn' is' inside was more
    named =
    let rest = lines_of_scripts turns numbers z (drop (i + 1) names) in
    let script = (codes "script " ++ name) ∷ body_lines turns number place in
    let left : script ++ rest ≡ lines_of_scripts turns numbers x (drop i names) =
    rw (drop_next names i name inside named, drawn, drawn', is', is) refl in
    ap (λ text. text ++ text_of_lines rest) more ∙ append_assoc before (text_of_lines script) (text_of_lines rest)
    ∙ ap (λ text. before ++ text) (sym (text_of_lines-append script rest) ∙ ap text_of_lines left) ∙ was

-- a name that is read after its reference
pub name_read : (names : List (Bor (List ℕ))) (i : ℕ) (other : Bor (List ℕ)) → i < length names
    → (get_or names i other).now ≡ get_or (map (λ name. name.now) names) i (get_or names i other).now
name_read names i other inside = sym (get_or-map (λ name. name.now) names i other (get_or names i other).now inside)
