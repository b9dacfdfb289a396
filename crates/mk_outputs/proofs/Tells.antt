-- What clap takes and finds is what the words say.
use Rattle.std.proofs.Common.{Bool, List, None, Option, Some, ap, arith, codes, false, inl, inr, is_some}
use Rattle.std.proofs.Common.{option_and_then, refl, subst, sym, true, [], ◌∙◌, ◌∷◌, ◌≡◌}
use Rattle.clap.specs.declared.builder.value_parser.Reading.TheVariants.{AsWritten}
use Rattle.clap.specs.{declared.error.kind.ErrorKind.ErrorKind, Faults.{settle_fault, walk_fault}, Walk.{Row, Text}}
use Rattle.clap.specs.Walk.{arg_by_long, has_row, idle, next, option, plain_word, settled_rows, trailing, with_values}
use Rattle.clap.specs.{Walk.without, declared.parser.matches.ValueSource.TheVariants.CommandLine}
use Rattle.mk_outputs.proofs.OptionWords.{Awaiting, Free, at_value, conflict_if, is_none, long_go, markers_alone}
use Rattle.mk_outputs.proofs.{OptionWords.some_markers, Standing.{Holds, IsAt, More, TellsAs, has_id, holds_set}}
use Rattle.mk_outputs.proofs.Standing.{markers_id, number_tells, passes_on, still_holds, told_awaiting, told_ended}
use Rattle.mk_outputs.proofs.{Standing.told_free, Walking.{PassesBy, View, bundle_is, bundle_stops, holding, is_bundle}}
use Rattle.mk_outputs.proofs.Walking.{is_ends, is_long, is_odd, is_plain, long_is, long_stops, lost, odd_passes}
use Rattle.mk_outputs.proofs.Walking.{plain_passes, position_of, rules, standing, view, word_stops}
use Rattle.mk_outputs.proofs.Lexing.{NameView, flag_long, name_view, said_long, says_dashed, says_long}
use Rattle.mk_outputs.specs.Given.{Form, Given, Numbers, Said, bare, ends, given_awaited, given_said, given_with_word}
use Rattle.mk_outputs.specs.Given.{plain, runs, said, takes_markers, unknown, with_markers, with_words}

-- ---- a word where no number is awaited

free_tells : (form : Form) (name word : Text) (words : List Text) (t : Given) (rows : List Row)
    (p : Option (Text × List Text)) (ns : Numbers) (tr : Bool) → t.numbers ≡ ns → t.ended ≡ tr
    → IsAt false form t rows p → More form name words → TellsAs form name (standing rows p idle (position_of ns) tr)
    (word ∷ words) (option_and_then (with_words form words) (given_with_word form t word))
free_tells form name word words t rows p ns true is en i more =
    rw (told_ended form t word i.2 en) (number_tells form name word words t rows p ns true is en i refl refl more)
free_tells form name word words t rows p ns false is en i more = on_view (view word)
  where
    by_said : (x : Said) → said word ≡ x → Free form name word words rows p ns (given_said form x word t)
        → Free form name word words rows p ns (given_with_word form t word)
    by_said x s h = subst (Free form name word words rows p ns)
        (sym (told_free form t word i.2 en ∙ ap (λ (y : Said). given_said form y word t) s)) h

    passing : PassesBy form name word → Free form name word words rows p ns (given_with_word form t word)
    passing by = by_said plain by.says (number_tells form name word words t rows p ns false is en i
        (by.met idle (position_of ns) rows p) (by.passes idle rows p) more)

    on_view : View word → Free form name word words rows p ns (given_with_word form t word)
    on_view (is_ends e) =
        by_said ends (rw e refl) (passes_on form name (standing rows p idle (position_of ns) false) word words (holding
        rows p) (trailing (position_of ns)) _ refl (rw e refl) (rw e refl) refl (more false (record t { ended = true })
        rows p ns true is refl (i.0, still_holds (settled_rows (rules form) p rows) t t.awaits true i.1, i.2)))
    on_view (is_long id v e l) =
        by_said (said_long id v) (says_long word id v e l)
        (long_go form name word words rows p ns t is en i e more id v l)
    on_view (is_bundle flags x e l s c) = by_said unknown (says_dashed word e l ∙ rw (s, c) refl) (word_stops form name
        (standing rows p idle (position_of ns) false) word words refl (λ g. bundle_stops form x flags
        (holding rows p) c refl (sym (bundle_is form name word flags idle (holding rows p) e l s) ∙ g)))
    on_view (is_odd flags e l s c) = passing (odd_passes form name word flags e l s c)
    on_view (is_plain e l s) = passing (plain_passes form name word e l s)

-- ---- a word where the number of `--markers` is awaited

awaited : (form : Form) → takes_markers form ≡ true → (rows : List Row) (b : Bool) → has_row (codes "markers") rows ≡ b
    → (x : Text) → settle_fault (rules form) false (holding rows (Some (codes "markers", x ∷ []))) ≡ conflict_if b
awaited bare k rows b h x = cc
awaited _ k rows true h x = rw h refl
awaited _ k rows false h x = rw h refl

none_awaited : (form : Form) → takes_markers form ≡ true → (rows : List Row)
    → settle_fault (rules form) false (holding rows (Some (codes "markers", []))) ≡ [] → ⊥
none_awaited runs k rows e = cc
none_awaited _ k rows e = cc

awaited_met : (form : Form) → takes_markers form ≡ true → (word : Text) (rows : List Row)
    → plain_word (rules form) (option (codes "markers")) word (holding rows (Some (codes "markers", [])))
    ≡ (holding rows (Some (codes "markers", word ∷ [])), next idle)
awaited_met bare k word rows = cc
awaited_met _ k word rows = refl

awaited_rows : (form : Form) → takes_markers form ≡ true → (x : Text) (rows : List Row)
    → settled_rows (rules form) (Some (codes "markers", x ∷ [])) rows
    ≡ with_values (codes "markers") AsWritten CommandLine (x ∷ []) (without (codes "markers") rows)
awaited_rows bare k x rows = cc
awaited_rows _ k x rows = refl

-- An option with a name is no number.
never_long : (id : Text) (v : Option Text) (word : Text) (t : Given) → given_awaited (said_long id v) word t ≡ None
never_long id v word t = by (name_view id) v
  where
    by : NameView id → (u : Option Text) → given_awaited (said_long id u) word t ≡ None
    by x0 u = grind (arith, flag_long)

awaiting_tells : (form : Form) (name word : Text) (words : List Text) (t : Given) (rows : List Row) (ns : Numbers)
    → t.numbers ≡ ns → Holds rows t → t.awaits ≡ true → t.ended ≡ false → takes_markers form ≡ true
    → More form name words → TellsAs form name (standing rows (Some (codes "markers", [])) (option (codes "markers"))
    (position_of ns) false) (word ∷ words) (option_and_then (with_words form words) (given_with_word form t word))
awaiting_tells form name word words t rows ns is h a en k more = on_view (view word)
  where
    by_told : (o : Option Given) → given_awaited (said word) word t ≡ o → Awaiting form name word words rows ns o
        → Awaiting form name word words rows ns (given_with_word form t word)
    by_told o s g = subst (Awaiting form name word words rows ns) (sym (told_awaiting form t word a ∙ s)) g

    -- the number is held, and the walk goes on from there
    takes_number : PassesBy form name word → (o : Option Given)
        → TellsAs form name (standing rows (Some (codes "markers", word ∷ [])) idle (position_of ns) false) words o
        → TellsAs form name (at_value rows ns) (word ∷ words) o
    takes_number by o =
        passes_on form name (at_value rows ns) word words (holding rows (Some (codes "markers", word ∷ [])))
        (next idle) o refl (by.met (option (codes "markers")) (position_of ns) rows (Some (codes "markers", []))
        ∙ awaited_met form k word rows) (by.passes (option (codes "markers")) rows (Some (codes "markers", []))) refl

    by_markers : PassesBy form name word → (b : Bool) → is_some t.markers ≡ b
        → Awaiting form name word words rows ns (with_markers t word)
    by_markers by true has =
        let kinds = awaited form k rows true (has_id rows t h markers_id ∙ has) word in
        subst (Awaiting form name word words rows ns) (sym (some_markers t word true has)) (takes_number by None
        (lost form name words rows (Some (codes "markers", word ∷ [])) idle ns false
        (λ g. let bad : ErrorKind.ArgumentConflict ∷ [] ≡ [] = sym kinds ∙ g in cc) (inr refl)))
    by_markers by false has =
        let fresh = has_id rows t h markers_id ∙ has in
        let u : Given = record t { markers = Some word; awaits = false } in
        let held : Holds (settled_rows (rules form) (Some (codes "markers", word ∷ [])) rows) u = rw (awaited_rows form
        k word rows) (holds_set rows t h markers_id word u (is_none t.markers has) refl (markers_alone t word false)) in
        subst (Awaiting form name word words rows ns) (sym (some_markers t word false has)) (takes_number by _
        (more false u rows (Some (codes "markers", word ∷ [])) ns false is en
        (awaited form k rows false fresh word, held, refl)))

    passing : PassesBy form name word → Awaiting form name word words rows ns (given_with_word form t word)
    passing by = by_told (with_markers t word) (ap (λ (x : Said). given_awaited x word t) by.says)
        (by_markers by (is_some t.markers) refl)

    on_view : View word → Awaiting form name word words rows ns (given_with_word form t word)
    on_view (is_ends e) =
        by_told None (rw e refl) (passes_on form name (at_value rows ns) word words (holding rows (Some
        (codes "markers", []))) (trailing (position_of ns)) None refl (rw e refl) (rw e refl) refl (lost form name words
        rows (Some (codes "markers", [])) (option (codes "markers")) ns true (none_awaited form k rows) (inl refl)))
    on_view (is_long id v e l) =
        let kinds = long_is form name word id v (option (codes "markers")) (position_of ns)
        (holding rows (Some (codes "markers", []))) e l in
        by_told None (ap (λ (x : Said). given_awaited x word t) (says_long word id v e l) ∙ never_long id v word t)
        (word_stops form name (at_value rows ns) word words refl (λ g. long_stops (rules form) (arg_by_long
        (rules form) id) v (holding rows (Some (codes "markers", []))) (none_awaited form k rows) (sym kinds.1 ∙ g)))
    on_view (is_bundle flags x e l s c) =
        let says : said word ≡ unknown = says_dashed word e l ∙ rw (s, c) refl in
        by_told None (ap (λ (y : Said). given_awaited y word t) says) (word_stops form name (at_value rows ns) word
        words refl (λ g. bundle_stops form x flags (holding rows (Some (codes "markers", []))) c refl (sym (bundle_is
        form name word flags (option (codes "markers")) (holding rows (Some (codes "markers", []))) e l s) ∙ g)))
    on_view (is_odd flags e l s c) = passing (odd_passes form name word flags e l s c)
    on_view (is_plain e l s) = passing (plain_passes form name word e l s)

-- ---- all words

no_words : (form : Form) (name : Text) → More form name []
unfolding walk_fault
no_words form name x2 t rows p ns tr is en i = grind (arith, standing, position_of, none_awaited)

pub tells : (form : Form) (name : Text) (words : List Text) → More form name words
tells form name [] = no_words form name
tells form name (word ∷ words) = one_more (tells form name words)
  where
    one_more : More form name words → More form name (word ∷ words)
    one_more more false t rows p ns tr is en i = free_tells form name word words t rows p ns tr is en i more
    one_more more true t rows p ns tr is en i =
        rw i.0 (subst (λ (r : Bool). TellsAs form name (standing rows (Some (codes "markers", []))
        (option (codes "markers")) (position_of ns) r) (word ∷ words) (with_words form (word ∷ words) t)) (sym i.3 ∙ en)
        (awaiting_tells form name word words t rows ns is i.1 i.2 i.3 i.4 more))
