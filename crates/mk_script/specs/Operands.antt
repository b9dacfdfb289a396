-- Names and numbers, and what the words of a line say, given its form.
use Rattle.std.specs.Prelude.{ℕ, ◌+◌, ◌-◌, ◌*◌, ◌^◌, Bool, not, ◌&&◌, ◌||◌, List, [], ◌∷◌, length, nat_lt, nat_le, ◌==◌}
use Rattle.std.specs.Prelude.{if◌then◌else◌, slice_index, Option, Some, None, ◌≡◌, true, replicate, is_some, option_map}
use Rattle.std.specs.{Prelude.{option_and_then, unwrap_or, ok_or, Ok, Err}, List.{list_all, list_any, flat_map}}
use Rattle.std.specs.{List.{before_first, after_first}, Char.{is_ascii_alphabetic, is_ascii_alphanumeric}}
use Rattle.std.specs.{Str.all_ascii_digits, declared.result.Result.Result, Result.result_ok}
use Rattle.mk_script.specs.declared.items.{At.At, TypeWord.TypeWord}
use Rattle.mk_script.specs.declared.items.{TypeWord.TheVariants.{Number, Pointer}, Item.Item}
use Rattle.mk_script.specs.declared.keywords.Keyword.{Keyword, TheVariants.{Heap, TypeLine}}
use Rattle.mk_script.specs.declared.keywords.Keyword.TheVariants.{Global, Script, Ptr, Num, New, Free, Getn, Setn, Getp}
use Rattle.mk_script.specs.declared.keywords.Keyword.TheVariants.{Setp, Casp, Lea, Move, Clear, Loadg, Storeg, Same}
use Rattle.mk_script.specs.declared.keywords.Keyword.TheVariants.{Isnull, Show, Const, Add, Sub, Print, Repeat, If}
use Rattle.mk_script.specs.declared.{keywords.Keyword.TheVariants.{Else, End}, faults.LineFault.LineFault}
use Rattle.mk_script.specs.declared.faults.{LineFault.TheVariants.Text, TextKind.TextKind}

-- a letter, a digit or `_`
abbrev pub is_name_byte : ℕ → Bool
is_name_byte byte = is_ascii_alphanumeric byte || (byte == 95)

-- 1 to 16 bytes, the first a letter
abbrev pub begins_name : List ℕ → Bool
begins_name word =
    nat_lt 0 (length word) && nat_le (length word) 16 && is_ascii_alphabetic (slice_index word 0)

-- each of them a letter, a digit or `_`
abbrev pub is_name : List ℕ → Bool
is_name word = begins_name word && list_all is_name_byte word

-- the name that a word is
abbrev pub name_of : List ℕ → Option (List ℕ)
name_of word = if is_name word then Some word else None

-- the number that digits stand for, after others that stand for high
abbrev pub value_from : ℕ → List ℕ → ℕ
value_from high [] = high
value_from high (digit ∷ digits) = value_from (10 * high + (digit - 48)) digits

-- the number that digits stand for, if they are digits and it is below 2^64
abbrev pub value_of_digits : List ℕ → Option ℕ
value_of_digits digits =
    if all_ascii_digits digits && nat_lt (value_from 0 digits) (2 ^ 64) then Some (value_from 0 digits) else None

-- digits, without a leading zero except 0 itself
abbrev pub is_numeral : List ℕ → Bool
is_numeral word =
    all_ascii_digits word && nat_lt 0 (length word) && ((length word == 1) || not (slice_index word 0 == 48))

-- a number is a numeral below 2^64
abbrev pub number_of_word : List ℕ → Option ℕ
number_of_word word = if is_numeral word && nat_lt (value_from 0 word) (2 ^ 64) then Some (value_from 0 word) else None

infixl 10 ◌>>=◌
-- goes on with what was found, or keeps the fault
abbrev pub ◌>>=◌ : {A B : Type 0} → Result A LineFault → (A → Result B LineFault) → Result B LineFault
(Ok x) >>= f = f x
(Err e) >>= f = Err e

-- the number that a word is
abbrev pub number : List ℕ → Result ℕ LineFault
number word = ok_or (number_of_word word) (Text TextKind.Number)

-- the name that a word is
abbrev pub name : List ℕ → Result (List ℕ) LineFault
name word = ok_or (name_of word) (Text TextKind.Name)

-- it is the byte `+`
abbrev pub is_plus : ℕ → Bool
is_plus byte = byte == 43

-- the front and the back are what stands around the first `+` of the word
pub record IsCutAtPlus (word front back : List ℕ) : Type 0 where
  pub has_plus : list_any is_plus word ≡ true
  pub front_is : front ≡ before_first is_plus word
  pub back_is : back ≡ after_first is_plus word

-- `T` or `T+K`, cut at the first `+`
abbrev pub at : List ℕ → Result At LineFault
at word =
    if list_any is_plus word
    then name (before_first is_plus word)
    >>= (λ t. number (after_first is_plus word) >>= (λ k. Ok (record { name = t; offset = k })))
    else name word >>= (λ t. Ok (record { name = t; offset = 0 }))

-- `n*K` with K at least 1
abbrev pub numbers : ℕ → Option (List TypeWord)
numbers count = if nat_le 1 count then Some (replicate count Number) else None

-- the words of a field that begins with `n`
abbrev pub number_field : List ℕ → Option (List TypeWord)
number_field [] = Some (Number ∷ [])
number_field (star ∷ digits) = if star == 42 then option_and_then numbers (number_of_word digits) else None

-- the word of a field that begins with `p`
abbrev pub pointer_field : List ℕ → Option (List TypeWord)
pointer_field [] = None
pointer_field (colon ∷ place) = if colon == 58 then option_map (λ a. Pointer a ∷ []) (result_ok (at place)) else None

-- the words of an F: `n`, `n*K` or `p:AT`
abbrev pub field_of : List ℕ → Option (List TypeWord)
field_of [] = None
field_of (letter ∷ rest) =
    if letter == 110 then number_field rest else (if letter == 112 then pointer_field rest else None)

-- the words of these fields
abbrev pub fields_of : List (List ℕ) → List TypeWord
fields_of fields = flat_map (λ field. unwrap_or (field_of field) []) fields

-- whether each has such a form
abbrev pub are_fields : List (List ℕ) → Bool
are_fields fields = list_all (λ field. is_some (field_of field)) fields

-- whether each F of a type line has such a form
abbrev pub have_form : Keyword → List (List ℕ) → Bool
have_form TypeLine (name' ∷ fields) = are_fields fields
have_form keyword operands = true

-- The item of what operands say, or the first of their faults.

-- an item of one operand
abbrev pub says1 : {A : Type 0} → (A → Item) → Result A LineFault → Result Item LineFault
says1 f a = a >>= (λ x. Ok (f x))

-- an item of two operands
abbrev pub says2 : {A B : Type 0} → (A → B → Item) → Result A LineFault → Result B LineFault → Result Item LineFault
says2 f a b = a >>= (λ x. b >>= (λ y. Ok (f x y)))

-- an item of three operands
abbrev pub says3 : {A B C : Type 0} → (A → B → C → Item)
    → Result A LineFault → Result B LineFault → Result C LineFault → Result Item LineFault
says3 f a b c = a >>= (λ x. b >>= (λ y. c >>= (λ z. Ok (f x y z))))

-- an item of five operands
abbrev pub says5 : {A B C D E : Type 0} → (A → B → C → D → E → Item)
    → Result A LineFault → Result B LineFault → Result C LineFault → Result D LineFault → Result E LineFault
    → Result Item LineFault
says5 f a b c d e = a >>= (λ x. b >>= (λ y. c >>= (λ z. d >>= (λ u. e >>= (λ v. Ok (f x y z u v))))))

-- the item of a line, where each operand says what the form has in its place; else the first that doesn't
unfoldable pub item_from : Keyword → List (List ℕ) → Result Item LineFault
item_from TypeLine (t ∷ fields) = name t >>= (λ t'. Ok (Item.TypeLine t' (fields_of fields)))
item_from Heap (a ∷ b ∷ []) = says2 (λ pages resident. Item.Heap pages resident) (number a) (number b)
item_from Global (a ∷ b ∷ []) = says2 (λ name' ty. Item.Global name' ty) (name a) (name b)
item_from Script (a ∷ []) = says1 (λ name'. Item.Script name') (name a)
item_from Ptr (a ∷ b ∷ []) = says2 (λ name' at'. Item.Ptr name' at') (name a) (at b)
item_from Num (a ∷ []) = says1 (λ name'. Item.Num name') (name a)
item_from New (a ∷ b ∷ []) = says2 (λ pointer ty. Item.New pointer ty) (name a) (name b)
item_from Free (a ∷ []) = says1 (λ pointer. Item.Free pointer) (name a)
item_from Getn (a ∷ b ∷ c ∷ []) =
    says3 (λ number' pointer index. Item.Getn number' pointer index)
    (name a) (name b) (number c)
item_from Setn (a ∷ b ∷ c ∷ []) =
    says3 (λ pointer index number'. Item.Setn pointer index number')
    (name a) (number b) (name c)
item_from Getp (a ∷ b ∷ c ∷ []) =
    says3 (λ loaded pointer index. Item.Getp loaded pointer index)
    (name a) (name b) (number c)
item_from Setp (a ∷ b ∷ c ∷ []) =
    says3 (λ pointer index stored. Item.Setp pointer index stored)
    (name a) (number b) (name c)
item_from Casp (a ∷ b ∷ c ∷ d ∷ e ∷ []) =
    says5 (λ number' pointer index expected stored. Item.Casp number' pointer index expected stored)
    (name a) (name b) (number c) (name d) (name e)
item_from Lea (a ∷ b ∷ c ∷ []) =
    says3 (λ moved pointer index. Item.Lea moved pointer index)
    (name a) (name b) (number c)
item_from Move (a ∷ b ∷ []) = says2 (λ copied pointer. Item.Move copied pointer) (name a) (name b)
item_from Clear (a ∷ []) = says1 (λ pointer. Item.Clear pointer) (name a)
item_from Loadg (a ∷ b ∷ []) = says2 (λ loaded global. Item.Loadg loaded global) (name a) (name b)
item_from Storeg (a ∷ b ∷ []) = says2 (λ stored global. Item.Storeg stored global) (name a) (name b)
item_from Same (a ∷ b ∷ c ∷ []) =
    says3 (λ number' first second. Item.Same number' first second)
    (name a) (name b) (name c)
item_from Isnull (a ∷ b ∷ []) = says2 (λ number' pointer. Item.Isnull number' pointer) (name a) (name b)
item_from Show (a ∷ []) = says1 (λ pointer. Item.Show pointer) (name a)
item_from Const (a ∷ b ∷ []) = says2 (λ number' value. Item.Const number' value) (name a) (number b)
item_from Add (a ∷ b ∷ c ∷ []) = says3 (λ number' left right. Item.Add number' left right) (name a) (name b) (name c)
item_from Sub (a ∷ b ∷ c ∷ []) = says3 (λ number' left right. Item.Sub number' left right) (name a) (name b) (name c)
item_from Print (a ∷ []) = says1 (λ number'. Item.Print number') (name a)
item_from Repeat (a ∷ []) = says1 (λ rounds. Item.Repeat rounds) (number a)
item_from If (a ∷ []) = says1 (λ number'. Item.If number') (name a)
item_from Else [] = Ok Item.Else
item_from End [] = Ok Item.End
item_from keyword operands = Err (Text TextKind.Word)
