-- What each command takes, and what clap is told of it. Private functions alone cite these.
use Rattle.std.specs.Prelude.{Option, ◌≡◌, true, List, [], ◌∷◌, Some}
use Rattle.mk_outputs.specs.{declared.commands.Command.Command, declared.words.Named.Named}
use Rattle.mk_outputs.specs.{declared.words.Named.TheVariants.{Run, Gen, Alone}, Commands.{run_of, gen_of, start_of}}
use Rattle.mk_outputs.specs.{Commands.count_of, declared.commands.Command.TheVariants.OnText, Given.{Form, Given, runs}}
use Rattle.mk_outputs.specs.Given.{gens, bare, Flag, has_flag, report_flag, sweep_flag, why_flag}
use Rattle.clap.specs.{Values.bool_text, Walk.{Row, Rule, Text, first_of, one_of}, Simple.{App, new_rule, new_shape}}
use Rattle.clap.specs.declared.builder.action.ArgAction.TheVariants.{Set, SetTrue}
use lib.Chars.{codes}

-- the form of a command's words
abbrev pub form_of : Named → Form
form_of Run = runs
form_of Gen = gens
form_of (Alone command) = bare

-- the command, with what was given
abbrev pub made_of : Named → Given → Option Command
made_of Run given = run_of given
made_of Gen given = gen_of given
made_of (Alone command) given = Some (OnText command)

-- what clap is told of `--markers`
abbrev pub markers_rule : Rule
markers_rule = record (new_rule (codes "markers")) { long = Some (codes "markers"); action = Some Set }

-- what it is told of a flag
abbrev pub flag_rule : Text → Rule
flag_rule name = record (new_rule name) { long = Some name; action = Some SetTrue }

-- what it is told of a number
abbrev pub positional_rule : Text → Rule
positional_rule name = record (new_rule name) { action = Some Set }

-- the name of a flag
abbrev pub flag_name : Flag → Text
flag_name sweep_flag = codes "sweep"
flag_name why_flag = codes "why"
flag_name report_flag = codes "report"

-- what it is told of a form's words
abbrev pub rules_of : Form → List Rule
rules_of runs =
    markers_rule ∷ flag_rule (codes "sweep") ∷ flag_rule (codes "why") ∷ flag_rule (codes "report") ∷ []
rules_of gens = markers_rule ∷ positional_rule (codes "start") ∷ positional_rule (codes "count") ∷ []
rules_of bare = []

-- a command with these rules, without help and version
abbrev pub app_with : List Rule → Text → App
app_with rules name = record {
  top = record (new_shape name) { disable_help_flag = true; disable_version_flag = true; rules = rules };
  subs = [];
}

-- the command of a form
abbrev pub app_named : Form → Text → App
app_named form name = app_with (rules_of form) name

-- The matches have each flag as it was given.
abbrev pub HasFlags : Form → List Row → Given → Type 0
HasFlags runs rows g = (flag : Flag) → one_of (flag_name flag) rows ≡ Some (bool_text (has_flag flag g))
HasFlags _ rows g = Unit {0}

-- What clap has taken is what was given.
pub record HasGiven (form : Form) (rows : List Row) (g : Given) : Type 0 where
  pub markers : first_of (codes "markers") rows ≡ g.markers
  pub flags : HasFlags form rows g
  pub start : first_of (codes "start") rows ≡ start_of g.numbers
  pub count : first_of (codes "count") rows ≡ count_of g.numbers
