-- A word more that is an option.
use Rattle.std.proofs.Common.{Bool, List, None, Option, Some, ap, codes, false, if◌then◌else◌, is_some, option_and_then}
use Rattle.std.{proofs.Common.{refl, subst, sym, true, [], ◌∙◌, ◌∷◌, ◌≡◌}, specs.Str.{bytes_eq}}
use Rattle.clap.specs.{Faults.{long_fault, settle_fault}, Walk.{Held, Row, Text, Walk, arg_by_long, has_row, idle}}
use Rattle.clap.specs.Walk.{long_word, next, option, settled_rows, with_values, without}
use Rattle.clap.specs.declared.builder.value_parser.Reading.TheVariants.{AsWritten}
use Rattle.clap.specs.{declared.error.kind.ErrorKind.ErrorKind, Kinds.Kinds, Lexer.long_of}
use Rattle.clap.specs.declared.parser.matches.ValueSource.TheVariants.{CommandLine}
use Rattle.mk_outputs.proofs.Lexing.{NameView, flag_long, is_flag, is_markers, is_other, name_view, no_value, said_long}
use Rattle.mk_outputs.proofs.Standing.{Id, IsAt, More, TellsAs, flag_id, flag_some, given_for, has_id, holds_set}
use Rattle.mk_outputs.proofs.{Standing.{markers_id, passes_on, still_holds, text_of, waits}, Walking.{holding, long_is}}
use Rattle.mk_outputs.proofs.Walking.{position_of, rules, standing, word_stops}
use Rattle.mk_outputs.specs.Given.{Flag, Form, Given, Numbers, bare, flag_said, gens, given_said, has_flag, markers_by}
use Rattle.mk_outputs.specs.Given.{report_flag, runs, set_flag, sweep_flag, takes_flags, takes_markers, why_flag}
use Rattle.mk_outputs.specs.{Given.{with_markers, with_words}, Told.flag_name}

-- ---- a word with a name

abbrev pub conflict_if : Bool → Kinds
conflict_if true = ErrorKind.ArgumentConflict ∷ []
conflict_if false = []

-- the value of `--markers=K`, where there is one already and where there is none
markers_fault : (form : Form) → takes_markers form ≡ true → (x : Text) (rows : List Row) (p : Option (Text × List Text))
    (b : Bool) → settle_fault (rules form) false (holding rows p) ≡ []
    → has_row (codes "markers") (settled_rows (rules form) p rows) ≡ b → long_fault (rules form) false
    (arg_by_long (rules form) (codes "markers")) (Some x) (holding rows p) ≡ conflict_if b
markers_fault bare k x rows p b s h = cc
markers_fault _ k x rows p true s h = rw (s, h) refl
markers_fault _ k x rows p false s h = rw (s, h) refl

markers_met : (form : Form) → takes_markers form ≡ true
    → (word x : Text) (rows : List Row) (p : Option (Text × List Text)) → long_word (rules form) idle word
    (codes "markers") (Some x) (holding rows p) ≡ (
      holding (with_values (codes "markers") AsWritten CommandLine (x ∷ [])
          (without (codes "markers") (settled_rows (rules form) p rows))) None,
      next idle,
    )
markers_met bare k word x rows p = cc
markers_met _ k word x rows p = refl

markers_wait : (form : Form) → takes_markers form ≡ true → (word : Text) (rows : List Row)
    (p : Option (Text × List Text)) → (long_word (rules form) idle word (codes "markers") None (holding rows p)
    ≡ (holding (settled_rows (rules form) p rows) (Some (codes "markers", [])), next (option (codes "markers")))) ×
    (long_fault (rules form) false (arg_by_long (rules form) (codes "markers")) None (holding rows p) ≡ settle_fault
    (rules form) false (holding rows p))
markers_wait bare k word rows p = cc
markers_wait _ k word rows p = (refl, refl)

no_markers : (form : Form) → takes_markers form ≡ false → arg_by_long (rules form) (codes "markers") ≡ None
no_markers bare k = refl
no_markers _ k = cc

-- a flag, where it was given already and where it wasn't
flag_fault : (form : Form) → takes_flags form ≡ true → (flag : Flag) (rows : List Row) (p : Option (Text × List Text))
    (b : Bool) → settle_fault (rules form) false (holding rows p) ≡ []
    → has_row (flag_name flag) (settled_rows (rules form) p rows) ≡ b
    → long_fault (rules form) false (arg_by_long (rules form) (flag_name flag)) None (holding rows p) ≡ conflict_if b
flag_fault runs k sweep_flag rows p true s h = rw (s, h) refl
flag_fault runs k why_flag rows p true s h = rw (s, h) refl
flag_fault runs k report_flag rows p true s h = rw (s, h) refl
flag_fault runs k _ rows p _ s h = rw (s, h) refl
flag_fault _ k flag rows p b s h = cc

flag_met : (form : Form) → takes_flags form ≡ true
    → (flag : Flag) (word : Text) (rows : List Row) (p : Option (Text × List Text)) → long_word (rules form) idle word
    (flag_name flag) None (holding rows p) ≡ (
      holding (with_values (flag_name flag) AsWritten CommandLine
          (codes "true" ∷ []) (without (flag_name flag) (settled_rows (rules form) p rows))) None,
      next idle,
    )
flag_met runs k sweep_flag word rows p = refl
flag_met runs k why_flag word rows p = refl
flag_met runs k report_flag word rows p = refl
flag_met _ k flag word rows p = cc

-- it has no value, and only `run` has flags
no_flag_value : (form : Form) (flag : Flag) (x : Text) (h : Held)
    → long_fault (rules form) false (arg_by_long (rules form) (flag_name flag)) (Some x) h ≡ [] → ⊥
no_flag_value runs sweep_flag x h e = cc
no_flag_value gens sweep_flag x h e = cc
no_flag_value _ _ x h e = cc

no_flag : (form : Form) → takes_flags form ≡ false → (flag : Flag) → arg_by_long (rules form) (flag_name flag) ≡ None
no_flag runs k flag = cc
no_flag gens k sweep_flag = refl
no_flag _ k _ = cc

-- a name that no option has
no_option : (form : Form) (id : Text) → bytes_eq (codes "markers") id ≡ false → bytes_eq (codes "sweep") id ≡ false
    → bytes_eq (codes "why") id ≡ false → bytes_eq (codes "report") id ≡ false → arg_by_long (rules form) id ≡ None
no_option runs id m s w r = rw (m, s, w, r) refl
no_option gens id m s w r = rw m refl
no_option bare id m s w r = refl

pub some_markers : (t : Given) (x : Text) (b : Bool) → is_some t.markers ≡ b
    → with_markers t x ≡ (if b then None else Some (record t { markers = Some x; awaits = false }))
some_markers t x b e = ap (λ (c : Bool). if c then None else Some (record t { markers = Some x; awaits = false })) e

pub is_none : (m : Option Text) → is_some m ≡ false → m ≡ None
is_none None e = refl
is_none (Some x) e = cc

-- Another option is as it was.

pub markers_alone : (t : Given) (v : Text) (a : Bool) (j : Id) → bytes_eq (codes "markers") (text_of j) ≡ false
    → given_for j (record t { markers = Some v; awaits = a }) ≡ given_for j t
markers_alone t v a markers_id e = cc
markers_alone t v a (flag_id sweep_flag) e = refl
markers_alone t v a _ e = refl

flag_alone : (t : Given) (flag : Flag) (j : Id) → bytes_eq (flag_name flag) (text_of j) ≡ false
    → given_for j (set_flag flag t) ≡ given_for j t
flag_alone t sweep_flag (flag_id sweep_flag) e = cc
flag_alone t why_flag (flag_id why_flag) e = cc
flag_alone t report_flag (flag_id report_flag) e = cc
flag_alone t sweep_flag _ e = refl
flag_alone t why_flag _ e = refl
flag_alone t report_flag _ e = refl

flag_set : (t : Given) (flag : Flag) → given_for (flag_id flag) (set_flag flag t) ≡ Some (codes "true")
flag_set t sweep_flag = refl
flag_set t why_flag = refl
flag_set t report_flag = refl

-- the words that are left, where a number is awaited
abbrev pub at_value : List Row → Numbers → Walk
at_value rows ns = standing rows (Some (codes "markers", [])) (option (codes "markers")) (position_of ns) false

abbrev pub Awaiting : Form → Text → Text → List Text → List Row → Numbers → Option Given → Type 0
Awaiting form name word words rows ns o =
    TellsAs form name (at_value rows ns) (word ∷ words) (option_and_then (with_words form words) o)

-- the same, where none is
module _ (form : Form) (name word : Text) (words : List Text) (rows : List Row) (p : Option (Text × List Text))
    (ns : Numbers) where
  abbrev pub Free : Option Given → Type 0
  Free o = TellsAs form name (standing rows p idle (position_of ns) false) (word ∷ words)
      (option_and_then (with_words form words) o)

  module _ (t : Given) (is : t.numbers ≡ ns) (en : t.ended ≡ false) (i : IsAt false form t rows p)
      (e : bytes_eq word (codes "--") ≡ false) (more : More form name words) where
    long_refused : (id : Text) (v : Option Text) → long_of word ≡ Some (id, v)
        → (long_fault (rules form) false (arg_by_long (rules form) id) v (holding rows p) ≡ [] → ⊥) → Free None
    long_refused id v l bad =
        let kinds = long_is form name word id v idle (position_of ns) (holding rows p) e l in
        word_stops form name (standing rows p idle (position_of ns) false) word words refl (λ g. bad (sym kinds.1 ∙ g))

    long_unknown : (id : Text) (v : Option Text) → long_of word ≡ Some (id, v) → arg_by_long (rules form) id ≡ None
        → Free None
    long_unknown id v l none =
        long_refused id v l (λ g. let bad : ErrorKind.UnknownArgument ∷ [] ≡ [] = rw none at g in cc)

    -- the word passes, and the walk goes on from there
    long_passes : (id : Text) (v : Option Text) → long_of word ≡ Some (id, v)
        → (b : Bool) (u : Given) (left : List Row) (q : Option (Text × List Text))
        → long_fault (rules form) false (arg_by_long (rules form) id) v (holding rows p) ≡ []
        → long_word (rules form) idle word id v (holding rows p) ≡ (holding left q, next (waits b))
        → u.numbers ≡ ns → u.ended ≡ false → IsAt b form u left q → Free (Some u)
    long_passes id v l b u left q passes met un ue at =
        let kinds = long_is form name word id v idle (position_of ns) (holding rows p) e l in
        passes_on form name (standing rows p idle (position_of ns) false) word words (holding left q) (next (waits b)) _
        refl (kinds.0 ∙ met) (kinds.1 ∙ passes) refl (more b u left q ns false un ue at)

    abbrev left : List Row
    left = settled_rows (rules form) p rows

    markers_value : takes_markers form ≡ true → (x : Text) → long_of word ≡ Some (codes "markers", Some x) → (b : Bool)
        → is_some t.markers ≡ b → Free (with_markers t x)
    markers_value k x l true has =
        let kinds = markers_fault form k x rows p true i.0 (has_id left t i.1 markers_id ∙ has) in
        subst Free (sym (some_markers t x true has)) (long_refused (codes "markers") (Some x) l
        (λ g. let bad : ErrorKind.ArgumentConflict ∷ [] ≡ [] = sym kinds ∙ g in cc))
    markers_value k x l false has =
        let fresh = has_id left t i.1 markers_id ∙ has in
        let u : Given = record t { markers = Some x; awaits = false } in
        let held = holds_set left t i.1 markers_id x u (is_none t.markers has) refl (markers_alone t x false) in
        subst Free (sym (some_markers t x false has)) (long_passes (codes "markers") (Some x) l false u _ None
        (markers_fault form k x rows p false i.0 fresh) (markers_met form k word x rows p) is en (refl, held, refl))

    markers_next : takes_markers form ≡ true → long_of word ≡ Some (codes "markers", None)
        → Free (Some (record t { awaits = true }))
    markers_next k l =
        let facts = markers_wait form k word rows p in
        long_passes (codes "markers") None l true (record t { awaits = true }) left (Some (codes "markers", []))
        (facts.1 ∙ i.0) facts.0 is en (refl, still_holds left t true t.ended i.1, refl, en, k)

    markers_go : (k : Bool) → takes_markers form ≡ k → (v : Option Text) → long_of word ≡ Some (codes "markers", v)
        → Free (if k then markers_by v t else None)
    markers_go true k None l = markers_next k l
    markers_go true k (Some x) l = markers_value k x l (is_some t.markers) refl
    markers_go false k v l = long_unknown (codes "markers") v l (no_markers form k)

    flag_sets : takes_flags form ≡ true → (flag : Flag) → long_of word ≡ Some (flag_name flag, None) → (b : Bool)
        → has_flag flag t ≡ b → Free (if b then None else Some (set_flag flag t))
    flag_sets k flag l true has =
        let kinds = flag_fault form k flag rows p true i.0
        (has_id left t i.1 (flag_id flag) ∙ flag_some (has_flag flag t) ∙ has) in
        long_refused (flag_name flag) None l (λ g. let bad : ErrorKind.ArgumentConflict ∷ [] ≡ [] = sym kinds ∙ g in cc)
    flag_sets k flag l false has =
        let fresh = has_id left t i.1 (flag_id flag) ∙ flag_some (has_flag flag t) ∙ has in
        let none : given_for (flag_id flag) t ≡ None = rw has refl in
        let held = holds_set left t i.1 (flag_id flag) (codes "true") (set_flag flag t) none (flag_set t flag)
        (flag_alone t flag) in
        let others = unchanged flag in
        long_passes (flag_name flag) None l false (set_flag flag t) _ None (flag_fault form k flag rows p false i.0
        fresh) (flag_met form k flag word rows p) others.0 others.1 (refl, held, others.2)
      where
        unchanged : (f : Flag)
            → ((set_flag f t).numbers ≡ ns) × ((set_flag f t).ended ≡ false) × ((set_flag f t).awaits ≡ false)
        unchanged sweep_flag = (is, en, i.2)
        unchanged why_flag = (is, en, i.2)
        unchanged report_flag = (is, en, i.2)

    flag_goes : (k : Bool) → takes_flags form ≡ k → (flag : Flag) → long_of word ≡ Some (flag_name flag, None)
        → Free (if k then (if has_flag flag t then None else Some (set_flag flag t)) else None)
    flag_goes true k flag l = flag_sets k flag l (has_flag flag t) refl
    flag_goes false k flag l = long_unknown (flag_name flag) None l (no_flag form k flag)

    flag_go : (flag : Flag) (v : Option Text) → long_of word ≡ Some (flag_name flag, v)
        → Free (given_said form (no_value v (flag_said flag)) word t)
    flag_go flag None l = flag_goes (takes_flags form) refl flag l
    flag_go flag (Some x) l = long_refused (flag_name flag) (Some x) l (no_flag_value form flag x (holding rows p))

    pub long_go : (id : Text) (v : Option Text) → long_of word ≡ Some (id, v)
        → Free (given_said form (said_long id v) word t)
    long_go id v l = by (name_view id)
      where
        named : (name : Text) → id ≡ name → (long_of word ≡ Some (name, v)
            → Free (given_said form (said_long name v) word t)) → Free (given_said form (said_long id v) word t)
        named name same go = rw same (go (subst (λ (n : Text). long_of word ≡ Some (n, v)) same l))

        by : NameView id → Free (given_said form (said_long id v) word t)
        by (is_markers same) = named (codes "markers") same (markers_go (takes_markers form) refl v)
        by (is_flag flag same) = named (flag_name flag) same (λ is. rw (flag_long flag v) (flag_go flag v is))
        by (is_other m s w r) = rw (m, s, w, r) (long_unknown id v l (no_option form id m s w r))
