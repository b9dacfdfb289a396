-- The scope after one line more, by the line's kind.
use Rattle.std.proofs.lemmas.List.Sorted.{IsPermutation-append_left, IsPermutation-refl, IsPermutation-trans}
use Rattle.mk_script.proofs.Vocabulary.{At, Bool, IsPermutation, Item, List, ℕ, ap, append-nil, arith, false}
use Rattle.mk_script.proofs.Vocabulary.{global_names, has_script, is_script, list_any, list_any-append, number_names}
use Rattle.mk_script.proofs.Vocabulary.{open_behind, open_blocks, pointer_names, refl, reverse, script_names, sym}
use Rattle.mk_script.proofs.Vocabulary.{this_script, true, type_names, [], ◌++◌, ◌||◌, ◌∙◌, ◌∷◌, ◌≡◌}
use Rattle.mk_script.proofs.Pushed.{names_of-append, open_blocks-push, this_script-push}
use Rattle.mk_script.specs.{Lines.{BeginsScript, IsScopeOf, has_lines}, Scopes.{is_instruction, names_of}}
use Rattle.mk_script.specs.declared.items.Item.TheVariants.{Global, Heap, Num, Ptr, Script, TypeLine}
use Rattle.mk_script.specs.declared.{items.TypeWord.TypeWord, scope.Scope.Scope, sorts.Sort.Sort}

has_lines-push : (before : List Item) (item : Item) → true ≡ has_lines (before ++ item ∷ [])
has_lines-push [] item = refl
has_lines-push (first ∷ before) item = refl

pub or-false : (a b : Bool) → b ≡ false → (a || b) ≡ a
or-false x0 b fails = grind arith

pub or-true : (a : Bool) → (a || true) ≡ true
or-true x0 = grind arith

-- a line of another kind declares no name
pub declares_none : (s : Sort) (item : Item) → ((pages resident : ℕ) → item ≡ Heap pages resident → ⊥)
    → ((name : List ℕ) (words : List TypeWord) → item ≡ TypeLine name words → ⊥)
    → ((name ty : List ℕ) → item ≡ Global name ty → ⊥) → ((name : List ℕ) → item ≡ Script name → ⊥)
    → ((name : List ℕ) (at : At) → item ≡ Ptr name at → ⊥) → ((name : List ℕ) → item ≡ Num name → ⊥)
    → (names_of s (item ∷ []) ≡ []) × (is_script item ≡ false) × (is_instruction item ≡ true)
declares_none s item heap type global script ptr num = grind arith

-- a set that no name is put to
pub kept : (set : List (List ℕ)) {added : List (List ℕ)} → added ≡ [] → IsPermutation (set ++ added) set
kept set none = rw (none, append-nil set) (IsPermutation-refl set)

names_added : {item line : Item} → item ≡ line → (s : Sort) (before : List Item) (set set' : List (List ℕ))
    → IsPermutation (names_of s before) set → IsPermutation (set ++ names_of s (line ∷ [])) set'
    → IsPermutation (names_of s (before ++ item ∷ [])) set'
names_added {item} {line} is s before set set' said more =
    rw (is, names_of-append s before (line ∷ [])) (IsPermutation-trans _ (set ++ names_of s (line ∷ [])) set'
    (IsPermutation-append_left (names_of s (line ∷ [])) (names_of s before) set said) more)

-- the lines before, and one more
module _ (before : List Item) {item line : Item} (is : item ≡ line) where
  module _ {old : Scope} (new : Scope) (scope : IsScopeOf old before) where
    -- a line that isn't a script's first
    pub after_line : is_script line ≡ false → new.has_header ≡ true → new.has_script ≡ old.has_script
        → new.has_instruction ≡ (old.has_instruction || is_instruction line)
        → IsPermutation (old.types ++ type_names (line ∷ [])) new.types
        → IsPermutation (old.globals ++ global_names (line ∷ [])) new.globals
        → IsPermutation (old.scripts ++ script_names (line ∷ [])) new.scripts
        → IsPermutation (old.pointers ++ pointer_names (line ∷ [])) new.pointers
        → IsPermutation (old.numbers ++ number_names (line ∷ [])) new.numbers
        → reverse new.blocks.items ≡ open_behind (reverse old.blocks.items) item → IsScopeOf new (before ++ item ∷ [])
    after_line no_script header script instruction types globals scripts pointers numbers blocks =
        let lines : this_script (before ++ item ∷ []) ≡ this_script before ++ item ∷ [] =
        this_script-push before item ∙ rw (is, no_script) refl in
        record {
          header = header ∙ has_lines-push before item;
          script = script ∙ scope.script ∙ sym (list_any-append is_script before (item ∷ [])
              ∙ or-false (has_script before) (is_script item || false) (rw (is, no_script) refl));
          instruction = instruction ∙ ap (λ some. some || is_instruction line) scope.instruction
              ∙ sym (ap (list_any is_instruction) lines
              ∙ list_any-append is_instruction (this_script before) (item ∷ []) ∙ ap
              (λ some. list_any is_instruction (this_script before) || some)
              (or-false (is_instruction item) false refl ∙ ap is_instruction is));
          types = names_added is Sort.Type before old.types new.types scope.types types;
          globals = names_added is Sort.Global before old.globals new.globals scope.globals globals;
          scripts = names_added is Sort.Script before old.scripts new.scripts scope.scripts scripts;
          pointers = rw lines (names_added is Sort.Pointer (this_script before) old.pointers new.pointers scope.pointers
              pointers);
          numbers = rw lines (names_added is Sort.Number (this_script before) old.numbers new.numbers scope.numbers
              numbers);
          blocks = blocks ∙ ap (λ blocks'. open_behind blocks' item) scope.blocks ∙ sym (open_blocks-push before item);
        }

  -- a script's first line, where a part of the scope is of the lines before
  pub after_script : {name : List ℕ} → line ≡ Script name → {part new : Scope} → part.has_header ≡ true
      → IsPermutation (type_names before) part.types → IsPermutation (global_names before) part.globals → IsPermutation
      (script_names before) part.scripts → reverse part.blocks.items ≡ open_behind (open_blocks before) item
      → BeginsScript part name new → IsScopeOf new (before ++ item ∷ [])
  after_script script {part = part} {new = new} header types globals scripts blocks begun =
      let lines : this_script (before ++ item ∷ []) ≡ [] = this_script-push before item ∙ rw (is, script) refl in
      record {
        header = ap (λ s. s.has_header) begun.new_is ∙ header ∙ has_lines-push before item;
        script = ap (λ s. s.has_script) begun.new_is
            ∙ sym (list_any-append is_script before (item ∷ []) ∙ rw (is, script) (or-true (has_script before)));
        instruction = ap (λ s. s.has_instruction) begun.new_is ∙ sym (ap (list_any is_instruction) lines);
        types = names_added is Sort.Type before part.types new.types types
            (rw (ap (λ s. s.types) begun.new_is, script) (kept part.types refl));
        globals = names_added is Sort.Global before part.globals new.globals globals
            (rw (ap (λ s. s.globals) begun.new_is, script) (kept part.globals refl));
        scripts = names_added is Sort.Script before part.scripts new.scripts scripts (rw script begun.scripts);
        pointers = rw (lines, ap (λ s. s.pointers) begun.new_is) (IsPermutation-refl []);
        numbers = rw (lines, ap (λ s. s.numbers) begun.new_is) (IsPermutation-refl []);
        blocks = ap (λ s. reverse s.blocks.items) begun.new_is ∙ blocks ∙ sym (open_blocks-push before item);
      }
