-- What a word says is what clap reads in it.
use Rattle.std.proofs.Common.{Bool, None, Option, Some, ℕ, ap, arith, codes, drop, false, if◌then◌else◌}
use Rattle.std.proofs.Common.{option_and_then, refl, sym, take, true, unwrap_or, [], ◌++◌, ◌+◌, ◌==◌, ◌∙◌, ◌∷◌, ◌≡◌}
use Rattle.std.{proofs.{lemmas.Bool.Decides.nat_tests, lemmas.Slice.Eq.bytes_eq-Decides}, specs.Str.{bytes_eq, chars}}
use Rattle.clap.specs.{Lexer.{long_of, long_of_rest, name_and_value, short_of, strip_byte}, Walk.Text}
use Rattle.mk_outputs.specs.Given.{Flag, Said, behind, flag_said, markers_said, report_flag, said, said_dashed}
use Rattle.mk_outputs.specs.{Given.{sweep_flag, unknown, why_flag}, Told.flag_name}

-- ---- the parts of `--name=value`

abbrev tail_of : Option Text → Text
tail_of None = []
tail_of (Some v) = 61 ∷ v

abbrev tail_if : Bool → Text → Text
tail_if b rest = tail_of (if b then Some rest else None)

shift : (x : ℕ) (xs : Text) (n : ℕ) (b : Bool)
    → take (1 + n) (x ∷ xs) ++ tail_if b (drop (1 + n + 1) (x ∷ xs)) ≡ x ∷ (take n xs ++ tail_if b (drop (n + 1) xs))
shift x xs n b = grind arith

joined : (text : Text) → (name_and_value text).0 ++ tail_of (name_and_value text).1 ≡ text
joined [] = refl
joined (x ∷ xs) = by_test (x == 61) refl (joined xs)
  where
    by_test : (t : Bool) → (x == 61) ≡ t → (name_and_value xs).0 ++ tail_of (name_and_value xs).1 ≡ xs
        → (name_and_value (x ∷ xs)).0 ++ tail_of (name_and_value (x ∷ xs)).1 ≡ x ∷ xs
    by_test true e rest = let is : 61 ≡ x = grind (arith, nat_tests) in rw e (ap (λ n. n ∷ xs) is)
    by_test false e rest = grind (arith, shift)

stripped : (c : ℕ) (word rest : Text) → strip_byte c word ≡ Some rest → word ≡ c ∷ rest
stripped c [] rest e = cc
stripped c (x ∷ xs) rest e = grind (arith, nat_tests)

long_shape : (word : Text) (p : Text × Option Text) → long_of word ≡ Some p → word ≡ 45 ∷ 45 ∷ (p.0 ++ tail_of p.1)
long_shape word p e = first (strip_byte 45 word) refl e
  where
    second : (r : Text) → strip_byte 45 word ≡ Some r → (o : Option Text) → strip_byte 45 r ≡ o
        → option_and_then long_of_rest o ≡ Some p → word ≡ 45 ∷ 45 ∷ (p.0 ++ tail_of p.1)
    second r a None b e = cc
    second r a (Some []) b e = cc
    second r a (Some (x ∷ xs)) b e = cc (stripped 45 word r a, stripped 45 r (x ∷ xs) b, joined (x ∷ xs))

    first : (o : Option Text) → strip_byte 45 word ≡ o → option_and_then long_of_rest
        (option_and_then (strip_byte 45) o) ≡ Some p → word ≡ 45 ∷ 45 ∷ (p.0 ++ tail_of p.1)
    first None a e = cc
    first (Some r) a e = second r a (strip_byte 45 r) refl e

behind_shape : (front word digits : Text) → behind front word ≡ Some digits → word ≡ front ++ digits
behind_shape [] word digits e = ap (λ (o : Option Text). unwrap_or o word) e
behind_shape (x ∷ front) [] digits e = cc
behind_shape (x ∷ front) (y ∷ word) digits e = by_test (y == x) refl e (behind_shape front word digits)
  where
    by_test : (t : Bool) → (y == x) ≡ t → behind (x ∷ front) (y ∷ word) ≡ Some digits
        → (behind front word ≡ Some digits → word ≡ front ++ digits) → y ∷ word ≡ x ∷ (front ++ digits)
    by_test true t e more = grind (arith, nat_tests)
    by_test false t e more = let no : None ≡ Some digits = rw t at e in cc

-- ---- a word without a name

pub says_dashed : (word : Text) → bytes_eq word (codes "--") ≡ false → long_of word ≡ None
    → said word ≡ said_dashed (short_of word)
unfolding chars
says_dashed [] e l = refl
says_dashed (x ∷ xs) e l = grind arith

-- ---- a word with a name

abbrev pub no_value : Option Text → Said → Said
no_value None s = s
no_value (Some v) s = unknown

abbrev pub said_long : Text → Option Text → Said
said_long name v = if bytes_eq (codes "markers") name then markers_said v else if bytes_eq
    (codes "sweep") name then no_value v (flag_said sweep_flag) else if bytes_eq (codes "why") name then no_value v
    (flag_said why_flag) else if bytes_eq (codes "report") name then no_value v (flag_said report_flag) else unknown

pub flag_long : (flag : Flag) (v : Option Text) → said_long (flag_name flag) v ≡ no_value v (flag_said flag)
flag_long sweep_flag v = refl
flag_long why_flag v = refl
flag_long report_flag v = refl

-- which option's name it is
pub data NameView (id : Text) : Type 0 where
  is_markers : id ≡ codes "markers" → NameView id
  is_flag : (flag : Flag) → id ≡ flag_name flag → NameView id
  is_other : bytes_eq (codes "markers") id ≡ false → bytes_eq (codes "sweep") id ≡ false
      → bytes_eq (codes "why") id ≡ false → bytes_eq (codes "report") id ≡ false → NameView id

pub name_view : (id : Text) → NameView id
name_view id = by _ _ _ _ refl refl refl refl
  where
    same : (name : Text) → bytes_eq name id ≡ true → id ≡ name
    same name e = sym ((bytes_eq-Decides name id).0 e)

    by : (m s w r : Bool) → bytes_eq (codes "markers") id ≡ m → bytes_eq (codes "sweep") id ≡ s
        → bytes_eq (codes "why") id ≡ w → bytes_eq (codes "report") id ≡ r → NameView id
    by true s w r e f g h = is_markers (same (codes "markers") e)
    by false true w r e f g h = is_flag sweep_flag (same (codes "sweep") f)
    by false false true r e f g h = is_flag why_flag (same (codes "why") g)
    by false false false true e f g h = is_flag report_flag (same (codes "report") h)
    by false false false false e f g h = is_other e f g h

unknown_dashed : (rest : Text) → said_dashed (Some (45 ∷ rest)) ≡ unknown
unfolding chars
unknown_dashed [] = refl
unknown_dashed (x ∷ rest) = refl

pub says_long : (word id : Text) (v : Option Text) → bytes_eq word (codes "--") ≡ false
    → long_of word ≡ Some (id, v) → said word ≡ said_long id v
unfolding chars
says_long word id v e l = by (name_view id)
  where
    shape : word ≡ 45 ∷ 45 ∷ (id ++ tail_of v)
    shape = long_shape word (id, v) l

    named : (name : Text) → id ≡ name → said (45 ∷ 45 ∷ (name ++ tail_of v)) ≡ said_long name v
        → said word ≡ said_long id v
    named name same says = cc (shape)

    -- a word of another name
    is_not : (name other : Text) (u : Option Text) → bytes_eq name id ≡ false → long_of other ≡ Some (name, u)
        → word ≡ other → ⊥
    is_not name other u differs of_other same =
        let is : id ≡ name = ap (λ (o : Option (Text × Option Text)). (unwrap_or o (id, v)).0)
        (sym l ∙ ap long_of same ∙ of_other) in
        let yes : bytes_eq name id ≡ true = (bytes_eq-Decides name id).1 (sym is) in
        let no : true ≡ false = sym yes ∙ differs in cc

    test_fails : (name other : Text) → bytes_eq name id ≡ false → long_of other ≡ Some (name, None) → (t : Bool)
        → bytes_eq word other ≡ t → bytes_eq word other ≡ false
    test_fails name other differs of_other true t =
        absurd (is_not name other None differs of_other ((bytes_eq-Decides word other).0 t))
    test_fails name other differs of_other false t = t

    none_behind : bytes_eq (codes "markers") id ≡ false → (o : Option Text) → behind (codes "--markers=") word ≡ o
        → behind (codes "--markers=") word ≡ None
    none_behind m None b = b
    none_behind m (Some digits) b =
        absurd (is_not (codes "markers") (codes "--markers=" ++ digits) (Some digits) m refl
        (behind_shape (codes "--markers=") word digits b))

    other : bytes_eq (codes "markers") id ≡ false → bytes_eq (codes "sweep") id ≡ false
        → bytes_eq (codes "why") id ≡ false → bytes_eq (codes "report") id ≡ false → said word ≡ unknown
    other m s w r =
        rw (
          e,
          test_fails (codes "markers") (codes "--markers") m refl _ refl,
          test_fails (codes "sweep") (codes "--sweep") s refl _ refl,
          test_fails (codes "why") (codes "--why") w refl _ refl,
          test_fails (codes "report") (codes "--report") r refl _ refl,
          none_behind m _ refl,
        ) (ap (λ (u : Text). said_dashed (behind (codes "-") u)) shape ∙ unknown_dashed (id ++ tail_of v))

    by : NameView id → said word ≡ said_long id v
    by (is_markers same) = grind (arith, named)
    by (is_flag flag same) = grind (arith, named)
    by (is_other m s w r) = rw (m, s, w, r) (other m s w r)
