-- What clap takes and finds, of a whole command line.
use Rattle.std.proofs.Common.{Bool, List, MatchOption, None, Option, Some, ap, arith, codes, drop, false, fold}
use Rattle.std.proofs.Common.{if◌then◌else◌, option_and_then, refl, subst, sym, true, [], ◌||◌, ◌∙◌, ◌∷◌, ◌≡◌, ◌≢◌}
use Rattle.std.specs.Str.{bytes_eq}
use Rattle.clap.{proofs.FaultLemmas.{leaf_fault}, specs.declared.builder.value_parser.Reading.TheVariants.{AsWritten}}
use Rattle.clap.specs.{Faults.{check_fault, default_fault, defaults_fault, fault_of}, Walk.{Row, Rule, Text, first_of}}
use Rattle.clap.specs.Walk.{has_row, idle, nothing_held, one_of, rows_of, with_default, with_values}
use Rattle.clap.specs.{declared.parser.matches.ArgMatches.ArgMatches, Kinds.{Kinds, or_else}, Matches.found_of}
use Rattle.clap.specs.{Simple.{App, built, matches_of}, Values.bool_text}
use Rattle.clap.specs.declared.parser.matches.ValueSource.TheVariants.{DefaultValue}
use Rattle.mk_outputs.proofs.Standing.{Holds, Id, TellsAs, as_entry, count_id, flag_id, given_for, markers_id, start_id}
use Rattle.mk_outputs.proofs.{Standing.text_of, Walking.{count_filled, flag_filled, markers_filled, rest_fault}}
use Rattle.mk_outputs.proofs.{Walking.{rest_rows, rules, shape, standing, start_filled}, Rows.{entry, entry_other}}
use Rattle.mk_outputs.proofs.Rows.{entry_same, first_of_entry, has_entry, one_of_entry, row, values_added}
use Rattle.mk_outputs.proofs.Tells.{tells}
use Rattle.mk_outputs.specs.Given.{Form, Given, bare, gens, given_by, no_number, nothing_given, report_flag, runs}
use Rattle.mk_outputs.specs.{Given.{sweep_flag, why_flag}, Told.{HasFlags, HasGiven, app_named}}
use Rattle.mk_outputs.specs.declared.commands.Command.{Command}

-- ---- the values that stand where a flag wasn't given

same_if : (b : Bool) (rows : List Row) → (if b then rows else rows) ≡ rows
same_if true rows = refl
same_if false rows = refl

flag_other : (id other : Text) (rows : List Row) → bytes_eq id other ≡ false
    → entry other (with_default rows (flag_filled id)) ≡ entry other rows
flag_other id other rows e = by_test (has_row id rows) refl
  where
    by_test : (b : Bool) → has_row id rows ≡ b → entry other
        (if b then rows else with_values id AsWritten DefaultValue (codes "false" ∷ []) rows) ≡ entry other rows
    by_test true h = refl
    by_test false h = ap (entry other) (values_added id AsWritten DefaultValue (codes "false" ∷ []) rows h)
        ∙ entry_other other (row id AsWritten DefaultValue (codes "false" ∷ [])) rows e

flag_same : (id : Text) (rows : List Row) (b : Bool) → bytes_eq id id ≡ true
    → entry id rows ≡ as_entry (if b then Some (codes "true") else None)
    → entry id (with_default rows (flag_filled id)) ≡ Some (bool_text b ∷ [], AsWritten)
flag_same id rows x2 e h = grind (arith, has_entry, entry, values_added, entry_same, row)

abbrev with_sweep : List Row → List Row
with_sweep rows = with_default rows (flag_filled (codes "sweep"))

abbrev with_why : List Row → List Row
with_why rows = with_default (with_sweep rows) (flag_filled (codes "why"))

abbrev defaulted : Form → List Row → List Row
defaulted runs rows = with_default (with_why rows) (flag_filled (codes "report"))
defaulted _ rows = rows

abbrev with_defaults : Form → List Row → List Row
with_defaults form rows = fold with_default rows (rules form)

defaulted_is : (form : Form) (rows : List Row) → with_defaults form rows ≡ defaulted form rows
defaulted_is runs rows = rw (same_if (has_row (codes "markers") rows) rows) refl
defaulted_is gens rows =
    rw (
      same_if (has_row (codes "markers") rows) rows,
      same_if (has_row (codes "start") rows) rows,
      same_if (has_row (codes "count") rows) rows,
    ) refl
defaulted_is bare rows = refl

-- ---- what the getters find

flag_found : (id : Text) (rows : List Row) (b : Bool) → entry id rows ≡ Some (bool_text b ∷ [], AsWritten)
    → one_of id rows ≡ Some (bool_text b)
flag_found id rows b e = cc (one_of_entry id rows)

-- what the words gave stands where the flags have their values
stays : (form : Form) (rows : List Row) (t : Given) → Holds rows t → (k : Id)
    → bytes_eq (codes "sweep") (text_of k) ≡ false → bytes_eq (codes "why") (text_of k) ≡ false
    → bytes_eq (codes "report") (text_of k) ≡ false
    → first_of (text_of k) (with_defaults form rows) ≡ given_for k t
stays form rows t h k not_sweep not_why not_report =
    grind (arith, text_of, with_defaults, given_for, entry, defaulted_is, defaulted, flag_other, first_of_entry)

has_given : (form : Form) (rows : List Row) (t : Given) → Holds rows t → HasGiven form (with_defaults form rows) t
has_given form rows t h = record {
  markers = stays form rows t h markers_id refl refl refl;
  flags = by form;
  start = stays form rows t h start_id refl refl refl;
  count = stays form rows t h count_id refl refl refl;
}
  where
    each_flag : HasFlags runs (defaulted runs rows) t
    each_flag sweep_flag = flag_found (codes "sweep") (defaulted runs rows) t.sweep
        (flag_other (codes "report") (codes "sweep") (with_why rows) refl
        ∙ (flag_other (codes "why") (codes "sweep") (with_sweep rows) refl
        ∙ flag_same (codes "sweep") rows t.sweep refl (h (flag_id sweep_flag))))
    each_flag why_flag = flag_found (codes "why") (defaulted runs rows) t.why
        (flag_other (codes "report") (codes "why") (with_why rows) refl
        ∙ flag_same (codes "why") (with_sweep rows) t.why refl
        (flag_other (codes "sweep") (codes "why") rows refl ∙ h (flag_id why_flag)))
    each_flag report_flag = flag_found (codes "report") (defaulted runs rows) t.report
        (flag_same (codes "report") (with_why rows) t.report refl
        (flag_other (codes "why") (codes "report") (with_sweep rows) refl
        ∙ (flag_other (codes "sweep") (codes "report") rows refl ∙ h (flag_id report_flag))))

    by : (f : Form) → HasFlags f (with_defaults f rows) t
    by runs = subst (λ (r : List Row). HasFlags runs r t) (sym (defaulted_is runs rows)) each_flag
    by _ = tt

-- ---- what comes after the last word refuses nothing

abbrev no_kinds : Kinds
no_kinds = []

two_empty : (a b : Kinds) → a ≡ [] → b ≡ [] → or_else a b ≡ []
two_empty a b e f = rw (e, f) refl

flag_default : (b : Bool) → (if b || false then no_kinds else no_kinds) ≡ no_kinds
flag_default true = refl
flag_default false = refl

none_default : (a : Rule) → a.defaults ≡ [] → (rows : List Row) → default_fault rows a ≡ []
none_default a e rows = grind arith

no_defaults_fault : (form : Form) (name : Text) (rows : List Row) → defaults_fault rows (shape form name).rules ≡ []
unfolding defaults_fault
no_defaults_fault bare name rows = refl
no_defaults_fault gens name rows =
    let one = with_default rows markers_filled in
    two_empty _ _ (none_default markers_filled refl rows) (two_empty _ _ (none_default start_filled refl one)
    (two_empty _ _ (none_default count_filled refl (with_default one start_filled)) refl))
no_defaults_fault runs name rows = grind (arith, markers_filled, two_empty, none_default, flag_filled, flag_default)

no_check_fault : (form : Form) (name : Text) (rows : List Row) → check_fault (shape form name) rows false ≡ []
no_check_fault bare name rows = refl
no_check_fault _ name rows = refl

third_empty : (a b c d : Kinds) → c ≡ [] → d ≡ [] → or_else a (or_else [] (or_else b (or_else c d))) ≡ or_else a b
third_empty [] [] c d e f = rw (e, f) refl
third_empty [] (k ∷ ks) c d e f = refl
third_empty (k ∷ ks) b c d e f = refl

abbrev start_walk : List Text → Form → Text → Kinds
start_walk words form name = rest_fault form name (standing [] None idle 1 false) words

fault_is : (form : Form) (name : Text) (words : List Text)
    → fault_of (app_named form name) words ≡ start_walk (drop 1 words) form name
fault_is bare name words = leaf_fault (built (app_named bare name)) nothing_held (drop 1 words) refl
    ∙ third_empty _ _ _ _ (no_defaults_fault bare name _) (no_check_fault bare name [])
fault_is form name words = leaf_fault (built (app_named form name)) nothing_held (drop 1 words) refl
    ∙ third_empty _ _ _ _ (no_defaults_fault form name _) (no_check_fault form name [])

matches_are : (form : Form) (name : Text) (words : List Text) → matches_of (app_named form name) words
    ≡ with_defaults form (rest_rows form (standing [] None idle 1 false) (drop 1 words))
matches_are bare name words = refl
matches_are _ name words = refl

holds_nothing : Holds [] nothing_given
holds_nothing (flag_id sweep_flag) = refl
holds_nothing _ = refl

-- clap takes the words where they tell something, and finds it
abbrev TakesGiven : Form → Text → List Text → Option Given → Type 0
TakesGiven form name words None = fault_of (app_named form name) words ≢ []
TakesGiven form name words (Some t) = (fault_of (app_named form name) words ≡ [])
    × HasGiven form (matches_of (app_named form name) words) t

taken : (form : Form) (name : Text) (words : List Text) → TakesGiven form name words (given_by form (drop 1 words))
taken form name words = by_told (given_by form (drop 1 words)) (tells form name
    (drop 1 words) false nothing_given [] None no_number false refl refl (refl, holds_nothing, refl))
  where
    by_told : (o : Option Given) → TellsAs form name (standing [] None idle 1 false) (drop 1 words) o
        → TakesGiven form name words o
    by_told None h = λ e. h (sym (fault_is form name words) ∙ e)
    by_told (Some t) h = (
      fault_is form name words ∙ h.0,
      subst (λ (r : List Row). HasGiven form r t) (sym (matches_are form name words)) (has_given form _ t h.1),
    )

-- what is found in the words, by the command that clap knows
abbrev pub Finds : App → List Text → Option ArgMatches → Type 0
Finds app words found = MatchOption found (fault_of app words ≢ []) (λ m. (fault_of app words ≡ [])
    × (rows_of (found_of m) ≡ matches_of app words))

abbrev pub Answers : Form → (Given → Option Command) → Option ArgMatches → Option Command → Type 0
Answers form read found answer = MatchOption found (answer ≡ None)
    (λ m. (t : Given) → HasGiven form (rows_of (found_of m)) t → answer ≡ read t)

-- the answer is the command of the words
pub answer_is : (form : Form) (read : Given → Option Command) (name : Text) (app : App) (words : List Text)
    (found : Option ArgMatches) (answer : Option Command) → app ≡ app_named form name → Finds app words found
    → Answers form read found answer → answer ≡ option_and_then read (given_by form (drop 1 words))
answer_is form read name app words found answer is finds answers =
    by_given found (subst (λ (a : App). Finds a words found) is finds) answers (given_by form (drop 1 words))
    (taken form name words)
  where
    by_given : (f : Option ArgMatches) → Finds (app_named form name) words f → Answers form read f answer
        → (o : Option Given) → TakesGiven form name words o → answer ≡ option_and_then read o
    by_given x0 refused none x3 t = grind arith
