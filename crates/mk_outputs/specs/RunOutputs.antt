-- What the run of a program writes, and of which history: reports, summaries, and what the last cycle kept.
use Rattle.std.specs.Prelude.{ℕ, List, [], ◌∷◌, ◌++◌, slice_index_or, Option, Some, None, length, count_by, sum_by, ◌≡◌}
use Rattle.std.specs.{Prelude.{◌+◌, ◌≤◌, slice_get, Bool, true, false, if◌then◌else◌}, List.{flat_map, range_with_len}}
use Rattle.std.specs.Fmt.{decimal}
use Rattle.mk_core.specs.{Allocations.{held_by_allocations, fresh_words_of}, Counts.{ends, releases, full_answers}}
use Rattle.mk_core.specs.{Counts.in_a_word, History.left, declared.config.Config.Config, declared.events.Event.Event}
use Rattle.mk_core.specs.declared.events.Answer.{Answer}
use Rattle.mk_script.specs.{declared.items.Item.Item, Canonical.line_text, Scopes.{script_names, global_names}}
use Rattle.mk_script.specs.Scopes.{pointer_names}
use Rattle.mk_check.specs.{Blocks.script_of, Feed.{is_refusal, answers_given, output}, declared.text.Text.Text}
use Rattle.mk_check.specs.Declarations.{config_of}
use Rattle.mk_run.specs.{Below.Chains.declared.kept.Kept.Kept, Below.Chains.declared.kept.Root.Root}
use Rattle.mk_run.specs.{Below.Chains.declared.kept.Root.TheVariants.{Register, Global}, Below.Heaps.Hosts.quarantined}
use Rattle.mk_run.specs.{Below.Heaps.declared.reports.Report.Report, Headline.{KeepsRunPromises, StandsInOneHistory}}
use Rattle.mk_run.specs.{Below.Chains.Chains.AreKept, Below.Heaps.Ending.EndsWithCycle}
use Rattle.mk_outputs.specs.{declared.commands.Options.Options, Commands.{is_sweep, markers_beside}}
use lib.Chars.{codes}

-- The lines that report what the last cycle kept, and why: an object's address in bytes and its storage in words, the
-- register or the global from which it is reached, and the addresses of the words through which.

-- The words of the line that names a root. What isn't reached floats. No root is without a name, since a register that
-- its script doesn't declare is null.
abbrev pub root_words : List Item → Option Root → List (List ℕ)
root_words program None = codes "floating" ∷ []
root_words program (Some (Global global)) = codes "global" ∷ slice_index_or (global_names program) global [] ∷ []
root_words program (Some (Register caller register)) =
    codes "register" ∷ slice_index_or (script_names program) caller []
    ∷ slice_index_or (pointer_names (script_of program caller).items) register [] ∷ []

-- a line for each word on the way
abbrev pub links_text : List ℕ → List ℕ
links_text links = flat_map (λ (link : ℕ). line_text (codes "word" ∷ decimal link ∷ [])) links

-- the lines of an entry
abbrev pub entry_text : List Item → Kept → List ℕ
entry_text program entry =
    line_text (codes "kept" ∷ decimal entry.address ∷ decimal entry.words ∷ [])
    ++ (line_text (root_words program entry.root) ++ links_text entry.links.items)

-- the lines of all entries
abbrev pub kept_text : List Item → List Kept → List ℕ
kept_text program kept = flat_map (entry_text program) kept

-- the line of a count
abbrev pub count_line : List ℕ → ℕ → List ℕ
count_line name count = line_text (name ∷ decimal count ∷ [])

-- the lines of these counts
abbrev pub count_lines : ℕ → ℕ → ℕ → ℕ → ℕ → ℕ → List ℕ
count_lines held fresh quarantined released cycles full =
    count_line (codes "held") held ++ (count_line (codes "fresh") fresh ++
    (count_line (codes "quarantined") quarantined ++ (count_line (codes "released") released ++
    (count_line (codes "cycles") cycles ++ count_line (codes "full") full))))

-- The storage words that aren't released, and those of them that were freed since the last cycle began, both without
-- freed large objects; how many objects are in quarantine, large ones too; how many were released; how many cycles
-- ended; and how many calls were answered Full.
abbrev pub report_text : Config → List Event → List ℕ
report_text c es =
    count_lines (held_by_allocations c (left c es).allocations)
    (in_a_word (fresh_words_of c (left c es).allocations)) (quarantined (left c es).allocations)
    (in_a_word (releases (left c es).allocations)) (in_a_word (ends es)) (in_a_word (full_answers c es))

-- the same of the numbers of a report
abbrev pub lines_of_report : Report → List ℕ
lines_of_report r = count_lines r.held r.fresh r.quarantined r.released r.cycles r.full

-- a script's line: how many calls it made, and how many of them were refused
abbrev pub script_line : List ℕ → ℕ → ℕ → List ℕ
script_line name ops refused =
    codes "script " ++ (name ++ (codes " ops " ++ (decimal ops ++
    (codes " refused " ++ (decimal refused ++ codes "\n")))))

-- the line of all calls
abbrev pub total_line : ℕ → List ℕ
total_line ops = codes "total " ++ (decimal ops ++ codes "\n")

-- script k's line, where these are the answers of each script
abbrev pub line_of_script : List Item → (ℕ → List Answer) → ℕ → List ℕ
line_of_script program answers k =
    script_line (slice_index_or (script_names program) k []) (length (answers k)) (count_by is_refusal (answers k))

-- a line for each script, and one for all
abbrev pub summary_by : List Item → (ℕ → List Answer) → List ℕ
summary_by program answers =
    flat_map (line_of_script program answers) (range_with_len 0 (length (script_names program)))
    ++ total_line (sum_by (λ k. length (answers k)) (range_with_len 0 (length (script_names program))))

-- that of a history
abbrev pub summary : List Item → Config → List Event → List ℕ
summary program c es = summary_by program (answers_given c es)

-- The summary of scripts of which the k-th is named sK.
-- Private functions alone cite these words.

-- the line of a script with this text
abbrev pub line_of_text : ℕ → Text → List ℕ
line_of_text k text = script_line (codes "s" ++ decimal k) text.ops text.refused

-- the lines of scripts, from number k on
abbrev pub lines_from : ℕ → List Text → List ℕ
lines_from k [] = []
lines_from k (text ∷ texts) = line_of_text k text ++ lines_from (k + 1) texts

-- the whole summary
abbrev pub summary_of_texts : List Text → List ℕ
summary_of_texts texts = lines_from 0 texts ++ total_line (sum_by (λ (text : Text). text.ops) texts)

-- Each script made no more calls than a generated one makes at most.
abbrev pub AreFew : List Text → Type 0
AreFew texts = (k : ℕ) (text : Text) → slice_get texts k ≡ Some text → text.ops ≤ 750000

-- What its scripts print of the history; after it, each where it is asked for, the counts of the history at its end,
-- after a last cycle, and what that cycle kept and why.
abbrev pub text_of_run : Options → List Item → List Kept → Config → List Event → List ℕ
text_of_run options program entries c es =
    output program c es ++ ((if options.report then report_text c es else []) ++ kept_text program entries)

-- Where it is asked why objects are kept, the entries are what the history's last cycle kept, and else there are none.
abbrev pub AreEntries : Bool → List Kept → Config → List Event → Type 0
AreEntries true entries c es = EndsWithCycle (λ c w. AreKept c w entries) c es
AreEntries false entries c es = entries ≡ []

-- What a run of this history writes. Where it is asked why objects are kept, a cycle is begun and ended after the last
-- step of every script, in one turn of the host. The entries are those of its `close`, the last one of all: each object
-- that was freed before this cycle and is marked, with a shortest chain from a register or a global to it.
pub record IsOutputOfRun (options : Options) (program : List Item) (history : List Event)
    (bytes : List ℕ) : Type 0 where
  pub stands :
      StandsInOneHistory program (markers_beside options.marking) (is_sweep options.marking) options.why history
  pub promises : KeepsRunPromises program (markers_beside options.marking) (is_sweep options.marking) history
  pub entries : List Kept
  pub are_entries : AreEntries options.why entries (config_of program (markers_beside options.marking)) history
  pub bytes_are :
      bytes ≡ text_of_run options program entries (config_of program (markers_beside options.marking)) history

-- what `gen` writes of the run of its program
pub record IsSummaryOfRun (program : List Item) (markers : ℕ) (history : List Event) (bytes : List ℕ) : Type 0 where
  pub stands : StandsInOneHistory program markers false false history
  pub promises : KeepsRunPromises program markers false history
  pub bytes_are : bytes ≡ summary program (config_of program markers) history
