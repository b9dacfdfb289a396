-- The scripts are read, each after those before it.
use Rattle.std.proofs.{Common.{not, ◌&&◌, ◌/◌}, Math.Nat.mod-lt, lemmas.{Bool.not-true, List.Sums.fold-append}}
use Rattle.mk_outputs.proofs.Vocabulary.{Bool, Item, List, Ok, Script, ℕ, and_parts, ap, append-nil, arith, body_lines}
use Rattle.mk_outputs.proofs.Vocabulary.{codes, draw, leb-true, length, line_item, lines_of_scripts, nat_le, next_state}
use Rattle.mk_outputs.proofs.Vocabulary.{refl, script_body, scripts, sym, true, [], ◌++◌, ◌+◌, ◌<◌, ◌^◌, ◌and◌, ◌∷◌}
use Rattle.mk_outputs.proofs.{Vocabulary.{◌≡◌, ◌≤◌}, ReadLines.{AreRead, AreRead-append, IsRead}}
use Rattle.mk_outputs.proofs.{InScript.{AreRead-alike, alike_at_first}, ReadBody.{body_is_read, by_words}}
use Rattle.mk_script.proofs.{PrintedForms.read_name, Pushed.names_of-append, Said.is_word-name}
use Rattle.mk_script.specs.{Scopes.{open_blocks, script_names}, Lines.is_among, Operands.{is_name, item_from}}
use Rattle.mk_script.specs.Lines.{has_lines}

-- lines with these scripts, after which another may begin
pub record AreReady (before : List Item) (names : List (List ℕ)) : Type 0 where
  pub some : has_lines before ≡ true
  pub names_are : script_names before ≡ names
  pub closed : open_blocks before ≡ []

-- whether a script of this name may begin after these
abbrev pub may_begin : List (List ℕ) → List ℕ → Bool
may_begin names name = is_name name && not (is_among name names) && nat_le (length names + 1) 16

abbrev pub MayBegin : List (List ℕ) → List (List ℕ) → Type 0
MayBegin before [] = Unit {0}
MayBegin before (name ∷ names) = (may_begin before name ≡ true) × MayBegin (before ++ name ∷ []) names

script_says : (before : List Item) (name : List ℕ) → has_lines before ≡ true → is_name name ≡ true
    → line_item before (codes "script" ∷ name ∷ []) ≡ Ok (Script name)
unfolding item_from
script_says x0 name some named = grind (arith, read_name)

-- a script's first line
first_is_read : {before : List Item} {names : List (List ℕ)} (name : List ℕ) → AreReady before names
    → may_begin names name ≡ true → IsRead before (codes "script " ++ name) (Script name)
first_is_read {before} name ready may =
    let parts = and_parts _ _ may in
    let begins = and_parts _ _ parts.0 in
    let short : length name ≤ 16 = leb-true _ _ (and_parts _ _ (and_parts _ _ (and_parts _ _ begins.0).0).0).1 in
    by_words (codes "script" ∷ name ∷ []) (ap (λ word. codes "script " ++ word) (sym (append-nil name)))
    (refl, (is_word-name name begins.0, tt)) (script_says before name ready.some begins.0)
    (rw (ready.names_are, not-true _ begins.1, parts.1, ready.closed) refl) (omega (arith, short))

module _ (turns number place : ℕ) where
  abbrev pub script_items : List ℕ → List Item
  script_items name = Script name ∷ script_body turns number place

  ready_behind : {before : List Item} {names : List (List ℕ)} (name : List ℕ) → AreReady before names
      → AreReady (before ++ script_items name) (names ++ name ∷ [])
  ready_behind name ready = grind (arith, script_items, names_of-append, fold-append)

  script_is_read : turns < 2 ^ 64 → number < 2 ^ 64 → place < 2 ^ 64 → {before : List Item} {names : List (List ℕ)}
      (name : List ℕ) → AreReady before names → may_begin names name ≡ true
      → AreRead before ((codes "script " ++ name) ∷ body_lines turns number place) (script_items name)
  script_is_read t a i {before = before} name ready may =
      first_is_read name ready may and AreRead-alike (body_lines turns number place) (script_body turns number place)
      (alike_at_first before name) refl (body_is_read turns number place t a i)

pub draw-lt : (x m : ℕ) → 0 < m → draw x m < m
draw-lt x m some = mod-lt (x / 2 ^ 33) some

module _ (turns numbers : ℕ) (t : turns < 2 ^ 64) (some : 0 < numbers) (few : numbers ≤ 100) where
  pub scripts_are_read : (x : ℕ) (names before_names : List (List ℕ)) (before : List Item)
      → AreReady before before_names → MayBegin before_names names
      → AreRead before (lines_of_scripts turns numbers x names) (scripts turns numbers x names)
  scripts_are_read x [] before_names before ready may = tt
  scripts_are_read x (name ∷ names) before_names before ready may =
      let number = draw (next_state x) 1000 in
      let place = draw (next_state (next_state x)) numbers in
      let behind = next_state (next_state x) in
      let number_small : number < 2 ^ 64 = omega (arith, draw-lt (next_state x) 1000 (omega arith)) in
      let place_small : place < 2 ^ 64 = omega (arith, draw-lt behind numbers some, few) in
      let script = script_is_read turns number place t number_small place_small name ready may.0 in
      let ready' = ready_behind turns number place name ready in
      AreRead-append ((codes "script " ++ name) ∷ body_lines turns number place) (lines_of_scripts turns numbers behind
      names) before (script_items turns number place name) (scripts turns numbers behind names) script (scripts_are_read
      behind names (before_names ++ name ∷ []) (before ++ script_items turns number place name) ready' may.1)
