-- What is declared among some lines, what is wrong with a type's words, and a script before its first answer.
use Rattle.std.specs.{Prelude.{List, Option, map, ℕ, ◌&&◌, Bool}, List.filter_map}
use Rattle.mk_never.specs.declared.types.Kind.{Kind}
use Rattle.mk_core.specs.{History.is_same_seat, declared.events.{Event.Event, Seat.TheVariants.Caller}}
use Rattle.mk_script.specs.declared.items.{Item.Item, TypeWord.TypeWord}
use Rattle.mk_check.specs.{Blocks.{ScriptText, blocks_from}, Declarations.{declared_type, declared_words, kind_of}}
use Rattle.mk_check.specs.{Declarations.number_of_name, Feed.{Fed, Scope, ends_call, fed_before_lines, run}}
use Rattle.mk_check.specs.Typing.{Around, inside_fault, type_fault, words_fault}
use Rattle.mk_check.specs.declared.typing_faults.TypeKind.{TypeKind}
use Rattle.std.specs.Prelude.{Some}

-- the types of these lines, where types have these names
abbrev pub kinds_among : List (List ℕ) → List Item → List (List Kind)
kinds_among types items =
    map (λ (t : List ℕ × List TypeWord). map (kind_of types) t.1) (filter_map declared_words items)

-- the types of the globals of these lines
abbrev pub globals_among : List (List ℕ) → List Item → List ℕ
globals_among types items = map (λ (g : List ℕ × List ℕ). number_of_name g.1 types) (filter_map declared_type items)

-- a type that isn't declared, among the pointer words of a type
abbrev pub pointers_fault : Around → List TypeWord → Option TypeKind
pointers_fault a words = words_fault (λ at. type_fault a at.name) words

-- a word that isn't there
abbrev pub offsets_fault : Around → List TypeWord → Option TypeKind
offsets_fault a words = words_fault (λ at. inside_fault a (Some at)) words

-- a script that has run to its first operation
abbrev pub fed_before_answers : Scope → ScriptText → Fed
fed_before_answers scope script = run scope (blocks_from script.line script.items) (fed_before_lines scope script)

-- the event ends a call of this script
abbrev pub ends_call_of : ℕ → Event → Bool
ends_call_of k e = is_same_seat (Caller k) e.seat && ends_call e.step
