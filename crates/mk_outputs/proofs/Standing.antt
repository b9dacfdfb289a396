-- Where the walk of clap stands, with what its rows hold, and a word more that is a number.
use Rattle.std.proofs.Common.{Bool, List, None, Option, Some, ap, arith, codes, false, if◌then◌else◌, is_some}
use Rattle.std.proofs.{Common.{option_and_then, refl, sym, true, [], ◌∙◌, ◌∷◌, ◌≡◌}, Math.Bool.{and-false, or-false}}
use Rattle.std.specs.Str.{bytes_eq}
use Rattle.clap.specs.{Faults.{settle_fault, step_fault, word_fault}, Walk.{Held, Row, Step, Text, Waiting, Walk}}
use Rattle.clap.specs.Walk.{after_step, has_row, idle, is_pending, option, settled_rows, value, with_values, without}
use Rattle.clap.specs.{Walk.word_met, declared.builder.value_parser.Reading.Reading}
use Rattle.clap.specs.declared.builder.value_parser.Reading.TheVariants.{AsWritten}
use Rattle.clap.specs.declared.parser.matches.ValueSource.TheVariants.{CommandLine}
use Rattle.mk_outputs.proofs.Walking.{count_filled, goes_on, holding, position_of, rest_fault, rest_rows, rules, shape}
use Rattle.mk_outputs.proofs.{Walking.{standing, start_filled, step_stops}, Rows.{entry, entry_other, entry_same}}
use Rattle.mk_outputs.proofs.Rows.{has_entry, row, values_set}
use Rattle.mk_outputs.specs.Given.{Flag, Form, Given, Numbers, bare, gens, given_awaited, given_said, given_with_word}
use Rattle.mk_outputs.specs.Given.{has_flag, no_number, one_number, report_flag, runs, said, sweep_flag, takes_markers}
use Rattle.mk_outputs.specs.Given.{two_numbers, why_flag, with_number, with_words}
use Rattle.mk_outputs.specs.{Commands.{count_of, start_of}, Told.flag_name}

-- ---- what the rows hold

-- the ids of rows
pub data Id : Type 0 where
  markers_id : Id
  flag_id : Flag → Id
  start_id : Id
  count_id : Id

abbrev pub text_of : Id → Text
text_of markers_id = codes "markers"
text_of (flag_id flag) = flag_name flag
text_of start_id = codes "start"
text_of count_id = codes "count"

-- what was given for an id
abbrev pub given_for : Id → Given → Option Text
given_for markers_id t = t.markers
given_for (flag_id flag) t = if has_flag flag t then Some (codes "true") else None
given_for start_id t = start_of t.numbers
given_for count_id t = count_of t.numbers

abbrev pub as_entry : Option Text → Option (List Text × Reading)
as_entry None = None
as_entry (Some v) = Some (v ∷ [], AsWritten)

abbrev pub Holds : List Row → Given → Type 0
Holds rows t = (k : Id) → entry (text_of k) rows ≡ as_entry (given_for k t)

same_id : (k j : Id) → bytes_eq (text_of k) (text_of j) ≡ true → k ≡ j
same_id markers_id markers_id e = refl
same_id (flag_id sweep_flag) (flag_id sweep_flag) e = refl
same_id (flag_id why_flag) (flag_id why_flag) e = refl
same_id (flag_id report_flag) (flag_id report_flag) e = refl
same_id start_id start_id e = refl
same_id count_id count_id e = refl
same_id markers_id (flag_id sweep_flag) e = cc
same_id start_id (flag_id sweep_flag) e = cc
same_id count_id (flag_id sweep_flag) e = cc
same_id _ _ e = cc

pub flag_some : (b : Bool) → is_some (if b then Some (codes "true") else None) ≡ b
flag_some false = refl
flag_some true = refl

pub still_holds : (rows : List Row) (t : Given) (a e : Bool) → Holds rows t
    → Holds rows (record t { awaits = a; ended = e })
still_holds rows t a e h (flag_id sweep_flag) = h (flag_id sweep_flag)
still_holds rows t a e h k = h k

module _ (rows : List Row) (t : Given) (h : Holds rows t) where
  pub has_id : (k : Id) → has_row (text_of k) rows ≡ is_some (given_for k t)
  has_id k = grind (arith, has_entry, text_of, given_for)

  -- The row of an id that had none is set, and the others stay.
  pub holds_set : (k : Id) (v : Text) (u : Given) → given_for k t ≡ None → given_for k u ≡ Some v
      → ((j : Id) → bytes_eq (text_of k) (text_of j) ≡ false → given_for j u ≡ given_for j t)
      → Holds (with_values (text_of k) AsWritten CommandLine (v ∷ []) (without (text_of k) rows)) u
  holds_set k v u none some others j =
      grind (arith, values_set, text_of, has_id, entry, row, as_entry, given_for, entry_other, same_id, entry_same)

-- ---- where the walk stands

abbrev pub waits : Bool → Waiting
waits true = option (codes "markers")
waits false = idle

abbrev pub IsAt : Bool → Form → Given → List Row → Option (Text × List Text) → Type 0
IsAt false form t rows p =
    (settle_fault (rules form) false (holding rows p) ≡ []) × Holds (settled_rows (rules form) p rows) t
    × (t.awaits ≡ false)
IsAt true form t rows p =
    (p ≡ Some (codes "markers", [])) × Holds rows t × (t.awaits ≡ true) × (t.ended ≡ false)
    × (takes_markers form ≡ true)

abbrev pub TellsAs : Form → Text → Walk → List Text → Option Given → Type 0
TellsAs form name w words None = rest_fault form name w words ≡ [] → ⊥
TellsAs form name w words (Some t) = (rest_fault form name w words ≡ []) × Holds (rest_rows form w words) t

-- what is shown of the words that are left, from wherever the walk stands
abbrev pub More : Form → Text → List Text → Type 0
More form name words = (b : Bool) (t : Given) (rows : List Row) (p : Option (Text × List Text)) (ns : Numbers)
    (tr : Bool) → t.numbers ≡ ns → t.ended ≡ tr → IsAt b form t rows p
    → TellsAs form name (standing rows p (waits b) (position_of ns) tr) words (with_words form words t)

-- a word that passes: what comes after it tells the same
pub passes_on : (form : Form) (name : Text) (w : Walk) (word : Text) (words : List Text) (h : Held) (step : Step)
    (o : Option Given) → w.stopped ≡ None → word_met (rules form) [] w.is_trailing w.waiting w.position word w.held
    ≡ (h, step) → word_fault (shape form name) [] w.is_trailing w.waiting word w.held ≡ []
    → step_fault (shape form name) w.position h step ≡ []
    → TellsAs form name (after_step (rules form) word w h step) words o → TellsAs form name w (word ∷ words) o
passes_on form name w word words h step x7 s met passes fits tells = grind (arith, goes_on)

-- the next word is told so
pub told_awaiting : (form : Form) (t : Given) (word : Text) → t.awaits ≡ true
    → given_with_word form t word ≡ given_awaited (said word) word t
told_awaiting form t word a = rw a refl

pub told_ended : (form : Form) (t : Given) (word : Text) → t.awaits ≡ false → t.ended ≡ true
    → given_with_word form t word ≡ with_number form t word
told_ended form t word a e = rw (a, e) refl

pub told_free : (form : Form) (t : Given) (word : Text) → t.awaits ≡ false → t.ended ≡ false
    → given_with_word form t word ≡ given_said form (said word) word t
told_free form t word a e = rw (a, e) refl

-- ---- a word that is a number

start_alone : (t : Given) (v : Text) → t.numbers ≡ no_number → (j : Id)
    → bytes_eq (codes "start") (text_of j) ≡ false → given_for j (record t { numbers = one_number v }) ≡ given_for j t
start_alone t v none start_id e = cc
start_alone t v none count_id e = ap count_of (sym none)
start_alone t v none (flag_id sweep_flag) e = refl
start_alone t v none _ e = refl

count_alone : (t : Given) (a v : Text) → t.numbers ≡ one_number a → (j : Id) → bytes_eq (codes "count") (text_of j)
    ≡ false → given_for j (record t { numbers = two_numbers a v }) ≡ given_for j t
count_alone t a v one count_id e = cc
count_alone t a v one start_id e = ap start_of (sym one)
count_alone t a v one (flag_id sweep_flag) e = refl
count_alone t a v one _ e = refl

module _ (form : Form) (name word : Text) (words : List Text) (t : Given) (rows : List Row)
    (p : Option (Text × List Text)) (ns : Numbers) (tr : Bool) (is : t.numbers ≡ ns) (en : t.ended ≡ tr)
    (i : IsAt false form t rows p)
    (met : word_met (rules form) [] tr idle (position_of ns) word (holding rows p) ≡ (holding rows p, value))
    (passes : word_fault (shape form name) [] tr idle word (holding rows p) ≡ []) (more : More form name words) where
  abbrev left : List Row
  left = settled_rows (rules form) p rows

  -- The number is held, and the walk goes on from there.
  holds_number : (k : Id) (now : Numbers) → after_step (rules form) word (standing rows p idle (position_of ns) tr)
      (holding rows p) value ≡ standing left (Some (text_of k, word ∷ [])) idle (position_of now) tr
      → step_fault (shape form name) (position_of ns) (holding rows p) value ≡ []
      → IsAt false form (record t { numbers = now }) left (Some (text_of k, word ∷ [])) → TellsAs form name
      (standing rows p idle (position_of ns) tr) (word ∷ words) (with_words form words (record t { numbers = now }))
  holds_number k now after fits at =
      passes_on form name (standing rows p idle (position_of ns) tr) word words (holding rows p) value _ refl met passes
      fits (rw after (more false _ left (Some (text_of k, word ∷ [])) now tr refl en at))

  refuses_number : (step_fault (shape form name) (position_of ns) (holding rows p) value ≡ [] → ⊥)
      → rest_fault form name (standing rows p idle (position_of ns) tr) (word ∷ words) ≡ [] → ⊥
  refuses_number =
      step_stops form name (standing rows p idle (position_of ns) tr) word words (holding rows p) value refl met

pub number_tells : (form : Form) (name word : Text) (words : List Text) (t : Given) (rows : List Row)
    (p : Option (Text × List Text)) (ns : Numbers) (tr : Bool)
    → t.numbers ≡ ns → t.ended ≡ tr → IsAt false form t rows p
    → word_met (rules form) [] tr idle (position_of ns) word (holding rows p) ≡ (holding rows p, value)
    → word_fault (shape form name) [] tr idle word (holding rows p) ≡ []
    → More form name words
    → TellsAs form name (standing rows p idle (position_of ns) tr) (word ∷ words)
    (option_and_then (with_words form words) (with_number form t word))
number_tells runs name word words t rows p ns tr is en i met passes more =
    refuses_number runs name word words t rows p ns tr is en i met passes more (λ e. cc)
number_tells bare name word words t rows p ns tr is en i met passes more =
    refuses_number bare name word words t rows p ns tr is en i met passes more (λ e. cc)
number_tells gens name word words t rows p (two_numbers a b) tr is en i met passes more =
    rw is (refuses_number gens name word words t rows p (two_numbers a b) tr is en i met passes more (λ e. cc))
number_tells gens name word words t rows p no_number tr is en i met passes more =
    let left = settled_rows (rules gens) p rows in
    let pends = and-false (is_pending start_filled p) in
    let fresh : has_row (codes "start") left ≡ false =
    has_id left t i.1 start_id ∙ ap (λ ns. is_some (start_of ns)) is in
    rw is (holds_number gens name word words t rows p no_number tr is en i met passes more start_id (one_number word)
    (rw (pends, or-false tr) refl) (rw pends i.0) (
      rw fresh refl,
      holds_set left t i.1 start_id word _ (ap start_of is) refl (start_alone t word is),
      i.2,
    ))
number_tells gens name word words t rows p (one_number a) tr is en i met passes more =
    let left = settled_rows (rules gens) p rows in
    let pends = and-false (is_pending count_filled p) in
    let fresh : has_row (codes "count") left ≡ false =
    has_id left t i.1 count_id ∙ ap (λ ns. is_some (count_of ns)) is in
    rw is (holds_number gens name word words t rows p (one_number a) tr is en i met passes more count_id
    (two_numbers a word) (rw (pends, or-false tr) refl) (rw pends i.0) (
      rw fresh refl,
      holds_set left t i.1 count_id word _ (ap count_of is) refl (count_alone t a word is),
      i.2,
    ))
