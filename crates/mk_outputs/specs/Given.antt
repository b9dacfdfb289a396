-- The words after a command's name, by what the command takes.
use Rattle.std.specs.Prelude.{ℕ, Bool, true, false, List, [], ◌∷◌, ◌==◌, if◌then◌else◌, slice_get, Option, Some, None}
use Rattle.std.specs.{Prelude.{is_some, option_and_then, option_map}, Option.option_map_or, Str.{bytes_eq, chars}}
use lib.Chars.{codes}

-- what a command takes: options, numbers, or nothing
pub data Form : Type 0 where
  runs : Form
  gens : Form
  bare : Form

-- the form takes `--markers`
abbrev pub takes_markers : Form → Bool
takes_markers bare = false
takes_markers _ = true

-- the form takes flags
abbrev pub takes_flags : Form → Bool
takes_flags runs = true
takes_flags _ = false

-- an option without a value
pub data Flag : Type 0 where
  sweep_flag : Flag
  why_flag : Flag
  report_flag : Flag

-- what a word says: that no option comes after it, an option, one that there isn't, or no option
pub data Said : Type 0 where
  ends : Said
  markers_said : Option (List ℕ) → Said
  flag_said : Flag → Said
  unknown : Said
  plain : Said

-- what stands after this front of a word, if the word has it
abbrev pub behind : List ℕ → List ℕ → Option (List ℕ)
behind [] word = Some word
behind (x ∷ front) [] = None
behind (x ∷ front) (y ∷ word) = if y == x then behind front word else None

-- A word that begins with `-`, and has a character more, is an option.
abbrev pub said_dashed : Option (List ℕ) → Said
said_dashed None = plain
said_dashed (Some rest) = if is_some (slice_get (chars rest) 0) then unknown else plain

-- what a word says
abbrev pub said : List ℕ → Said
said word =
    if bytes_eq word (codes "--") then ends
    else if bytes_eq word (codes "--markers") then markers_said None
    else if bytes_eq word (codes "--sweep") then flag_said sweep_flag
    else if bytes_eq word (codes "--why") then flag_said why_flag
    else if bytes_eq word (codes "--report") then flag_said report_flag
    else option_map_or (λ digits. markers_said (Some digits)) (behind (codes "--markers=") word)
    (said_dashed (behind (codes "-") word))

-- the words that are no options
pub data Numbers : Type 0 where
  no_number : Numbers
  one_number : List ℕ → Numbers
  two_numbers : List ℕ → List ℕ → Numbers

-- There is no command with more than two.
abbrev pub more_numbers : Numbers → List ℕ → Option Numbers
more_numbers no_number word = Some (one_number word)
more_numbers (one_number start) word = Some (two_numbers start word)
more_numbers (two_numbers start count) word = None

-- what words of the command line give, as far as they were read
pub record Given : Type 0 where
  pub markers : Option (List ℕ)
  pub sweep : Bool
  pub why : Bool
  pub report : Bool
  pub numbers : Numbers
  -- `--markers` was read, and its number comes next
  pub awaits : Bool
  -- `--` was read: no option comes after it
  pub ended : Bool

-- nothing was given yet
abbrev pub nothing_given : Given
nothing_given = record {
  markers = None;
  sweep = false;
  why = false;
  report = false;
  numbers = no_number;
  awaits = false;
  ended = false;
}

-- Each option is given at most once.

-- the number of markers is given, once
abbrev pub with_markers : Given → List ℕ → Option Given
with_markers g digits = if is_some g.markers then None else Some (record g { markers = Some digits; awaits = false })

-- the same, if it is in this word; otherwise the next word has it
abbrev pub markers_by : Option (List ℕ) → Given → Option Given
markers_by None g = Some (record g { awaits = true })
markers_by (Some digits) g = with_markers g digits

-- the flag was given
abbrev pub has_flag : Flag → Given → Bool
has_flag sweep_flag g = g.sweep
has_flag why_flag g = g.why
has_flag report_flag g = g.report

-- with this flag
abbrev pub set_flag : Flag → Given → Given
set_flag sweep_flag g = record g { sweep = true }
set_flag why_flag g = record g { why = true }
set_flag report_flag g = record g { report = true }

-- a number is given
abbrev pub with_number : Form → Given → List ℕ → Option Given
with_number gens g word = option_map (λ numbers. record g { numbers = numbers }) (more_numbers g.numbers word)
with_number _ g word = None

-- what a word gives, where it may be an option
abbrev pub given_said : Form → Said → List ℕ → Given → Option Given
given_said form ends word g = Some (record g { ended = true })
given_said form (markers_said v) word g = if takes_markers form then markers_by v g else None
given_said form (flag_said flag) word g =
    if takes_flags form then (if has_flag flag g then None else Some (set_flag flag g)) else None
given_said form unknown word g = None
given_said form plain word g = with_number form g word

-- The number of `--markers` is no option.
abbrev pub given_awaited : Said → List ℕ → Given → Option Given
given_awaited plain word g = with_markers g word
given_awaited _ word g = None

-- one word more, which may be of no form at its place
abbrev pub given_with_word : Form → Given → List ℕ → Option Given
given_with_word form g word =
    if g.awaits then given_awaited (said word) word g
    else if g.ended then with_number form g word
    else given_said form (said word) word g

-- `--markers` is not the last word, but for what stands after `--`.
abbrev pub with_words : Form → List (List ℕ) → Given → Option Given
with_words form [] g = if g.awaits then None else Some g
with_words form (word ∷ words) g = option_and_then (with_words form words) (given_with_word form g word)

-- what the words give, if they have the form
abbrev pub given_by : Form → List (List ℕ) → Option Given
given_by form words = with_words form words nothing_given
