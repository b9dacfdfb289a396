-- The words of a field.
-- Private functions alone cite these words.
use Rattle.std.specs.Prelude.{List, [], ◌∷◌, replicate}
use Rattle.mk_script.specs.{declared.items.TypeWord.TypeWord, declared.fields.Field.Field}
use Rattle.mk_script.specs.declared.fields.Field.TheVariants.{Numbers, Pointer}
use Rattle.mk_script.specs.declared.items.TypeWord.TheVariants as word

-- the words that a field stands for
abbrev pub words_of_field : Field → List TypeWord
words_of_field (Numbers count) = replicate count word.Number
words_of_field (Pointer at) = word.Pointer at ∷ []
