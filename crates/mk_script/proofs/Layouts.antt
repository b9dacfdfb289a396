-- The operands of a line of each form but a type's: their kinds, and the item that they make.
use Rattle.mk_script.proofs.Vocabulary.{At, Err, Item, Keyword, LineFault, List, Ok, Result, Some, ℕ, arith, at}
use Rattle.mk_script.proofs.Vocabulary.{at_text, codes, decimal, has_word_count, have_form, if◌then◌else◌, item_from}
use Rattle.mk_script.proofs.Vocabulary.{keyword_of, length, name, refl, true, words_of_item, [], ◌>>=◌, ◌∷◌, ◌≡◌, ◌≢◌}
use Rattle.mk_script.specs.{Operands.number, declared.keywords.Keyword.TheVariants.{Add, Casp, Clear, Const, Else, End}}
use Rattle.mk_script.specs.declared.keywords.Keyword.TheVariants.{Free, Getn, Getp, Global, Heap, If, Isnull, Lea}
use Rattle.mk_script.specs.declared.keywords.Keyword.TheVariants.{Loadg, Move, New, Num, Print, Ptr, Repeat, Same}
use Rattle.mk_script.specs.declared.keywords.Keyword.TheVariants.{Script, Setn, Setp, Show, Storeg, Sub, TypeLine}
use Rattle.mk_script.specs.{declared.faults.LineFault.TheVariants.Text, declared.faults.TextKind.TextKind}

-- what an operand is
pub data Kind : Type 0 where
  AName : Kind
  ANumber : Kind
  APlace : Kind

abbrev pub ValueOf : Kind → Type 0
ValueOf AName = List ℕ
ValueOf ANumber = ℕ
ValueOf APlace = At

abbrev pub read : (k : Kind) → List ℕ → Result (ValueOf k) LineFault
read AName word = name word
read ANumber word = number word
read APlace word = at word

abbrev pub written : (k : Kind) → ValueOf k → List ℕ
written AName n = n
written ANumber n = decimal n
written APlace a = at_text a

abbrev pub Values : List Kind → Type 0
Values [] = Unit {0}
Values (k ∷ ks) = ValueOf k × Values ks

abbrev pub all_written : (ks : List Kind) → Values ks → List (List ℕ)
all_written [] values = []
all_written (k ∷ ks) values = written k values.0 ∷ all_written ks values.1

-- the item of operands of these kinds
abbrev pub Makes : List Kind → Type 0
Makes [] = Item
Makes (k ∷ ks) = ValueOf k → Makes ks

abbrev pub made : (ks : List Kind) → Makes ks → Values ks → Item
made [] item values = item
made (k ∷ ks) make values = made ks (make values.0) values.1

abbrev pub says : (ks : List Kind) → Makes ks → List (List ℕ) → Result Item LineFault
says [] item [] = Ok item
says (k ∷ ks) make (word ∷ words) = read k word >>= (λ x. says ks (make x) words)
says ks make words = Err (Text TextKind.Word)

pub record Layout : Type 0 where
  pub word : List ℕ
  pub kinds : List Kind
  pub make : Makes kinds

abbrev of : List ℕ → (ks : List Kind) → Makes ks → Layout
of word kinds make = record { word = word; kinds = kinds; make = make }

-- A type's line has fields too, which no layout says.
abbrev pub layout : Keyword → Layout
layout Heap = of (codes "heap") (ANumber ∷ ANumber ∷ []) (λ v w. Item.Heap v w)
layout TypeLine = of (codes "type") [] Item.End
layout Global = of (codes "global") (AName ∷ AName ∷ []) (λ v w. Item.Global v w)
layout Script = of (codes "script") (AName ∷ []) (λ v. Item.Script v)
layout Ptr = of (codes "ptr") (AName ∷ APlace ∷ []) (λ v w. Item.Ptr v w)
layout Num = of (codes "num") (AName ∷ []) (λ v. Item.Num v)
layout New = of (codes "new") (AName ∷ AName ∷ []) (λ v w. Item.New v w)
layout Free = of (codes "free") (AName ∷ []) (λ v. Item.Free v)
layout Getn = of (codes "getn") (AName ∷ AName ∷ ANumber ∷ []) (λ v w x. Item.Getn v w x)
layout Setn = of (codes "setn") (AName ∷ ANumber ∷ AName ∷ []) (λ v w x. Item.Setn v w x)
layout Getp = of (codes "getp") (AName ∷ AName ∷ ANumber ∷ []) (λ v w x. Item.Getp v w x)
layout Setp = of (codes "setp") (AName ∷ ANumber ∷ AName ∷ []) (λ v w x. Item.Setp v w x)
layout Casp = of (codes "casp") (AName ∷ AName ∷ ANumber ∷ AName ∷ AName ∷ []) (λ v w x y z. Item.Casp v w x y z)
layout Lea = of (codes "lea") (AName ∷ AName ∷ ANumber ∷ []) (λ v w x. Item.Lea v w x)
layout Move = of (codes "move") (AName ∷ AName ∷ []) (λ v w. Item.Move v w)
layout Clear = of (codes "clear") (AName ∷ []) (λ v. Item.Clear v)
layout Loadg = of (codes "loadg") (AName ∷ AName ∷ []) (λ v w. Item.Loadg v w)
layout Storeg = of (codes "storeg") (AName ∷ AName ∷ []) (λ v w. Item.Storeg v w)
layout Same = of (codes "same") (AName ∷ AName ∷ AName ∷ []) (λ v w x. Item.Same v w x)
layout Isnull = of (codes "isnull") (AName ∷ AName ∷ []) (λ v w. Item.Isnull v w)
layout Show = of (codes "show") (AName ∷ []) (λ v. Item.Show v)
layout Const = of (codes "const") (AName ∷ ANumber ∷ []) (λ v w. Item.Const v w)
layout Add = of (codes "add") (AName ∷ AName ∷ AName ∷ []) (λ v w x. Item.Add v w x)
layout Sub = of (codes "sub") (AName ∷ AName ∷ AName ∷ []) (λ v w x. Item.Sub v w x)
layout Print = of (codes "print") (AName ∷ []) (λ v. Item.Print v)
layout Repeat = of (codes "repeat") (ANumber ∷ []) (λ v. Item.Repeat v)
layout If = of (codes "if") (AName ∷ []) (λ v. Item.If v)
layout Else = of (codes "else") [] Item.Else
layout End = of (codes "end") [] Item.End

pub layout_keyword : (form : Keyword) → keyword_of (layout form).word ≡ Some form
layout_keyword Heap = refl
layout_keyword form = refl

pub layout_words : (form : Keyword) (values : Values (layout form).kinds) → form ≢ TypeLine
    → words_of_item (made (layout form).kinds (layout form).make values) ≡
    (layout form).word ∷ all_written (layout form).kinds values
layout_words TypeLine values other = absurd (other refl)
layout_words form values other = refl

-- what words say, if they are as many as the form has operands
pub layout_says : (form : Keyword) (words : List (List ℕ)) → form ≢ TypeLine → item_from form words
    ≡ (if has_word_count form (length words)
    then says (layout form).kinds (layout form).make words
    else Err (Text TextKind.Word))
unfolding item_from
layout_says TypeLine words other = absurd (other refl)
layout_says form [] other = cc
layout_says form (a ∷ []) other = cc
layout_says form (a ∷ b ∷ []) other = cc
layout_says form (a ∷ b ∷ c ∷ []) other = cc
layout_says form (a ∷ b ∷ c ∷ d ∷ []) other = cc
layout_says form (a ∷ b ∷ c ∷ d ∷ e ∷ []) other = cc
layout_says form (a ∷ b ∷ c ∷ d ∷ e ∷ f ∷ more) other = grind arith

pub have_form-plain : (form : Keyword) (words : List (List ℕ)) → form ≢ TypeLine → have_form form words ≡ true
have_form-plain form words other = grind arith
