-- The walk of clap over the words, word by word.
use Rattle.std.proofs.Common.{Bool, List, None, Option, Some, ℕ, ap, arith, codes, false, fold, inl, inr, length, refl}
use Rattle.std.proofs.{Common.{slice_get, subst, sym, true, [], ◌∙◌, ◌∷◌, ◌≡◌, ◌⊎◌}, Math.Bool.and-false}
use Rattle.std.specs.Str.{bytes_eq, chars}
use Rattle.clap.proofs.{FaultLemmas.fault_ends, WalkLemmas.bundle_ends}
use Rattle.clap.specs.Faults.{bundle_fault, flags_fault, long_fault, settle_fault, step_fault, turn_fault, walk_fault}
use Rattle.clap.specs.{Faults.word_fault, Simple.{Shape, built, filled, filled_from, with_index}, Walk.{Held, Row}}
use Rattle.clap.specs.Walk.{Rule, Step, Text, Waiting, Walk, after_step, arg_by_long, idle, is_pending, walked}
use Rattle.clap.specs.{Walk.word_met, Kinds.{Kinds, or_else}, Lexer.{long_of, short_of}}
use Rattle.mk_outputs.proofs.Lexing.{says_dashed}
use Rattle.mk_outputs.specs.Given.{Form, Numbers, bare, gens, no_number, one_number, plain, said, two_numbers}
use Rattle.mk_outputs.specs.Told.{app_named, flag_rule, markers_rule, positional_rule, rules_of}
use Rattle.clap.specs.Walk.{long_word, plain as no_flag, plain_word, settled_rows, subcommand_met, trailing, value}

-- ---- the commands as clap builds them

abbrev pub shape : Form → Text → Shape
shape form name = (built (app_named form name)).top

abbrev pub rules : Form → List Rule
rules form = filled_from 1 (rules_of form)

abbrev pub markers_filled : Rule
markers_filled = with_index 1 (filled markers_rule)

abbrev pub flag_filled : Text → Rule
flag_filled name = with_index 1 (filled (flag_rule name))

abbrev pub start_filled : Rule
start_filled = with_index 1 (filled (positional_rule (codes "start")))

abbrev pub count_filled : Rule
count_filled = with_index 2 (filled (positional_rule (codes "count")))

-- ---- a walk over the words that are left

abbrev pub standing : List Row → Option (Text × List Text) → Waiting → ℕ → Bool → Walk
standing rows p waiting position tr = record {
  held = record { rows = rows; pending = p; skip = 0 };
  waiting = waiting;
  position = position;
  is_trailing = tr;
  stopped = None;
}

abbrev pub holding : List Row → Option (Text × List Text) → Held
holding rows p = record { rows = rows; pending = p; skip = 0 }

abbrev pub end_of : Form → Walk → List Text → Held
end_of form w words = (fold (walked (rules form) []) w words).held

abbrev pub rest_fault : Form → Text → Walk → List Text → Kinds
rest_fault form name w words =
    or_else (walk_fault (shape form name) [] w words) (settle_fault (rules form) false (end_of form w words))

abbrev pub rest_rows : Form → Walk → List Text → List Row
rest_rows form w words = settled_rows (rules form) (end_of form w words).pending (end_of form w words).rows

first_empty : (a b : Kinds) → or_else a b ≡ [] → a ≡ []
first_empty [] b e = refl
first_empty (k ∷ ks) b e = cc

shape_rules : (form : Form) (name : Text) → (shape form name).rules ≡ rules form
shape_rules bare name = refl
shape_rules _ name = refl

again_not : (form : Form) (name : Text) → (shape form name).args_override_self ≡ false
again_not bare name = refl
again_not _ name = refl

-- a word that passes
pub goes_on : (form : Form) (name : Text) (w : Walk) (word : Text) (words : List Text) (h : Held) (step : Step)
    → w.stopped ≡ None
    → word_met (rules form) [] w.is_trailing w.waiting w.position word w.held ≡ (h, step)
    → word_fault (shape form name) [] w.is_trailing w.waiting word w.held ≡ []
    → step_fault (shape form name) w.position h step ≡ []
    → (rest_fault form name (after_step (rules form) word w h step) words ≡ rest_fault form name w (word ∷ words))
    × (rest_rows form (after_step (rules form) word w h step) words ≡ rest_rows form w (word ∷ words))
unfolding walked walk_fault
goes_on form name w word words h step s met passes fits =
    let turn : turn_fault (shape form name) [] w word ≡ [] = rw (s, passes, met) fits in
    let moved : walked (rules form) [] w word ≡ after_step (rules form) word w h step = rw (s, met) refl in
    let after = walked (rules form) [] w word in (
      sym (ap (λ (t : Kinds). or_else (or_else t (walk_fault (shape form name) [] after words)) (settle_fault
          (rules form) false (end_of form after words))) turn ∙ ap (λ (v : Walk). rest_fault form name v words) moved),
      sym (ap (λ (v : Walk). rest_rows form v words) moved),
    )

-- a word that is refused
stops : (form : Form) (name : Text) (w : Walk) (word : Text) (words : List Text)
    → (turn_fault (shape form name) [] w word ≡ [] → ⊥) → rest_fault form name w (word ∷ words) ≡ [] → ⊥
unfolding walk_fault
stops form name w word words bad e = bad (first_empty (turn_fault (shape form name) [] w word) _ (first_empty _ _ e))

-- it is refused as a word, or at the step that it takes
pub word_stops : (form : Form) (name : Text) (w : Walk) (word : Text) (words : List Text) → w.stopped ≡ None
    → (word_fault (shape form name) [] w.is_trailing w.waiting word w.held ≡ [] → ⊥)
    → rest_fault form name w (word ∷ words) ≡ [] → ⊥
word_stops form name w word words s bad = stops form name w word words (λ e. bad (first_empty _ _ (rw s at e)))

second_empty : (a b : Kinds) → or_else a b ≡ [] → b ≡ []
second_empty [] b e = e
second_empty (k ∷ ks) b e = cc

pub step_stops : (form : Form) (name : Text) (w : Walk) (word : Text) (words : List Text) (h : Held) (step : Step)
    → w.stopped ≡ None → word_met (rules form) [] w.is_trailing w.waiting w.position word w.held ≡ (h, step)
    → (step_fault (shape form name) w.position h step ≡ [] → ⊥) → rest_fault form name w (word ∷ words) ≡ [] → ⊥
step_stops form name w word words h step s met bad = stops form name w word words (λ e.
    let taken = word_met (rules form) [] w.is_trailing w.waiting w.position word w.held in
    let at_step : step_fault (shape form name) w.position taken.0 taken.1 ≡ [] = second_empty _ _ (rw s at e) in
    bad (subst (λ (m : Held × Step). step_fault (shape form name) w.position m.0 m.1 ≡ []) met at_step))

-- ---- faults

abbrev pub position_of : Numbers → ℕ
position_of no_number = 1
position_of (one_number a) = 2
position_of (two_numbers a b) = 3

-- a pending argument that is refused is so at each flag
pub long_stops : (c : List Rule) (found : Option Rule) (v : Option Text) (h : Held) → (settle_fault c false h ≡ [] → ⊥)
    → long_fault c false found v h ≡ [] → ⊥
long_stops c x1 v h bad e = grind (arith, first_empty)

-- and at each number
number_stops : (form : Form) (name : Text) (ns : Numbers) (rows : List Row) (p : Option (Text × List Text))
    → (settle_fault (rules form) false (holding rows p) ≡ [] → ⊥)
    → step_fault (shape form name) (position_of ns) (holding rows p) value ≡ [] → ⊥
number_stops gens name no_number rows p bad e = bad (rw (and-false (is_pending start_filled p)) at e)
number_stops gens name (one_number a) rows p bad e = bad (rw (and-false (is_pending count_filled p)) at e)
number_stops _ name ns rows p bad e = cc

-- short flags are unknown
pub bundle_stops : (form : Form) (x : ℕ) (flags : Text) (h : Held) → slice_get (chars flags) 0 ≡ Some x → h.skip ≡ 0
    → bundle_fault (rules form) false flags h ≡ [] → ⊥
unfolding chars flags_fault
bundle_stops form x x2 h first skip e = grind arith

-- ---- what a word is to clap

pub data View (word : Text) : Type 0 where
  is_ends : bytes_eq word (codes "--") ≡ true → View word
  is_long : (name : Text) (v : Option Text) → bytes_eq word (codes "--") ≡ false → long_of word ≡ Some (name, v)
      → View word
  is_bundle : (flags : Text) (x : ℕ) → bytes_eq word (codes "--") ≡ false → long_of word ≡ None
      → short_of word ≡ Some flags
      → slice_get (chars flags) 0 ≡ Some x → View word
  is_odd : (flags : Text) → bytes_eq word (codes "--") ≡ false → long_of word ≡ None → short_of word ≡ Some flags
      → slice_get (chars flags) 0 ≡ None → View word
  is_plain : bytes_eq word (codes "--") ≡ false → long_of word ≡ None → short_of word ≡ None → View word

pub view : (word : Text) → View word
view word = on_ends (bytes_eq word (codes "--")) refl
  where
    on_char : (flags : Text) → bytes_eq word (codes "--") ≡ false → long_of word ≡ None → short_of word ≡ Some flags
        → (o : Option ℕ) → slice_get (chars flags) 0 ≡ o → View word
    on_char flags e l s None x = is_odd flags e l s x
    on_char flags e l s (Some c) x = is_bundle flags c e l s x

    on_short : bytes_eq word (codes "--") ≡ false → long_of word ≡ None → (o : Option Text) → short_of word ≡ o
        → View word
    on_short e l None s = is_plain e l s
    on_short e l (Some flags) s = on_char flags e l s (slice_get (chars flags) 0) refl

    on_long : bytes_eq word (codes "--") ≡ false → (o : Option (Text × Option Text)) → long_of word ≡ o → View word
    on_long e None l = on_short e l (short_of word) refl
    on_long e (Some p) l = is_long p.0 p.1 e l

    on_ends : (t : Bool) → bytes_eq word (codes "--") ≡ t → View word
    on_ends true e = is_ends e
    on_ends false e = on_long e (long_of word) refl

no_subcommand : (waiting : Waiting) (word : Text) → subcommand_met [] waiting word ≡ None
no_subcommand idle word = refl
no_subcommand _ word = refl

-- a word that is no flag
pub record PassesBy (form : Form) (name : Text) (word : Text) : Type 0 where
  pub says : said word ≡ plain
  pub met : (waiting : Waiting) (position : ℕ) (rows : List Row) (p : Option (Text × List Text))
      → word_met (rules form) [] false waiting position word (holding rows p)
      ≡ plain_word (rules form) waiting word (holding rows p)
  pub passes : (waiting : Waiting) (rows : List Row) (p : Option (Text × List Text))
      → word_fault (shape form name) [] false waiting word (holding rows p) ≡ []

pub plain_passes : (form : Form) (name word : Text) → bytes_eq word (codes "--") ≡ false → long_of word ≡ None
    → short_of word ≡ None → PassesBy form name word
plain_passes form name word e l s = record {
  says = says_dashed word e l ∙ rw s refl;
  met = λ waiting position rows p. rw (no_subcommand waiting word, e, l, s) refl;
  passes = λ waiting rows p. rw (no_subcommand waiting word, e, l, s) refl;
}

pub odd_passes : (form : Form) (name word flags : Text) → bytes_eq word (codes "--") ≡ false → long_of word ≡ None
    → short_of word ≡ Some flags → slice_get (chars flags) 0 ≡ None → PassesBy form name word
odd_passes form name word flags e l s x = record {
  says = says_dashed word e l ∙ rw (s, x) refl;
  met = λ waiting position rows p. rw (no_subcommand waiting word, e, l, s)
      (rw (sym (bundle_ends (rules form) (length flags) flags 0 no_flag (holding rows p) (sym x))) refl);
  passes = λ waiting rows p. rw (no_subcommand waiting word, e, l, s) (sym (fault_ends (shape form name).rules
      (shape form name).args_override_self (length flags) flags 0 (holding rows p) (sym x)));
}

-- a word with a name
pub long_is : (form : Form) (name word id : Text) (v : Option Text) (waiting : Waiting) (position : ℕ) (h : Held)
    → bytes_eq word (codes "--") ≡ false → long_of word ≡ Some (id, v) → (word_met
    (rules form) [] false waiting position word h ≡ long_word (rules form) waiting word id v h) × (word_fault
    (shape form name) [] false waiting word h ≡ long_fault (rules form) false (arg_by_long (rules form) id) v h)
long_is form name word id v waiting position h e l = (
  rw (no_subcommand waiting word, e, l) refl,
  rw (no_subcommand waiting word, e, l, shape_rules form name, again_not form name) refl,
)

pub bundle_is : (form : Form) (name word flags : Text) (waiting : Waiting) (h : Held)
    → bytes_eq word (codes "--") ≡ false → long_of word ≡ None → short_of word ≡ Some flags
    → word_fault (shape form name) [] false waiting word h ≡ bundle_fault (rules form) false flags h
bundle_is form name word flags waiting h e l s =
    rw (no_subcommand waiting word, e, l, s, shape_rules form name, again_not form name) refl

-- ---- where all is lost: what is pending is refused

pub lost : (form : Form) (name : Text) (words : List Text) (rows : List Row) (p : Option (Text × List Text))
    (waiting : Waiting) (ns : Numbers) (tr : Bool) → (settle_fault (rules form) false (holding rows p) ≡ [] → ⊥)
    → (tr ≡ true) ⊎ (waiting ≡ idle) → rest_fault form name (standing rows p waiting (position_of ns) tr) words ≡ [] → ⊥
unfolding walk_fault
lost form name [] rows p waiting ns tr bad free e = bad e
lost form name (word ∷ words) rows p waiting ns true bad free e =
    step_stops form name (standing rows p waiting (position_of ns) true) word words (holding rows p) value refl refl
    (number_stops form name ns rows p bad) e
lost form name (word ∷ words) rows p waiting ns false bad (inl t) e = cc
lost form name (word ∷ words) rows p waiting ns false bad (inr is) e =
    subst (λ (w : Waiting). rest_fault form name (standing rows p w (position_of ns) false) (word ∷ words) ≡ [] → ⊥)
    (sym is) (by_view (view word) (lost form name words rows p idle ns true bad (inl refl))) e
  where
    by_view : View word → (rest_fault form name (standing rows p idle (position_of ns) true) words ≡ [] → ⊥)
        → rest_fault form name (standing rows p idle (position_of ns) false) (word ∷ words) ≡ [] → ⊥
    by_view (is_ends t) more h =
        let step = goes_on form name (standing rows p idle (position_of ns) false) word words (holding rows p)
        (trailing (position_of ns)) refl (rw t refl) (rw t refl) refl in
        more (step.0 ∙ h)
    by_view (is_long id v t l) more h =
        let is = long_is form name word id v idle (position_of ns) (holding rows p) t l in
        word_stops form name (standing rows p idle (position_of ns) false) word words refl
        (λ g. long_stops (rules form) (arg_by_long (rules form) id) v (holding rows p) bad (sym is.1 ∙ g)) h
    by_view (is_bundle flags x t l s c) more h =
        word_stops form name (standing rows p idle (position_of ns) false) word words refl (λ g. bundle_stops form x
        flags (holding rows p) c refl (sym (bundle_is form name word flags idle (holding rows p) t l s) ∙ g)) h
    by_view (is_odd flags t l s c) more h =
        step_stops form name (standing rows p idle (position_of ns) false) word words (holding rows p) value refl
        ((odd_passes form name word flags t l s c).met idle (position_of ns) rows p)
        (number_stops form name ns rows p bad) h
    by_view (is_plain t l s) more h =
        step_stops form name (standing rows p idle (position_of ns) false) word words (holding rows p) value refl
        ((plain_passes form name word t l s).met idle (position_of ns) rows p) (number_stops form name ns rows p bad) h
