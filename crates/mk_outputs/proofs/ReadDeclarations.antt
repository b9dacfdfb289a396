-- The lines before the first script are read.
use Rattle.std.proofs.{lemmas.Bool.cond-true, lemmas.List.length-replicate}
use Rattle.mk_outputs.proofs.Vocabulary.{Number, Some, ℕ, ap, append-nil, arith, codes, decimal, declaration_lines}
use Rattle.mk_outputs.proofs.Vocabulary.{declarations, le-leb, length, nat_le, refl, replicate, sym, true, [], ◌++◌}
use Rattle.mk_outputs.proofs.{Vocabulary.{◌<◌, ◌^◌, ◌and◌, ◌∷◌, ◌≡◌, ◌≤◌}, ReadBody.{by_words, length-decimal, plain}}
use Rattle.mk_outputs.proofs.ReadLines.{AreRead}
use Rattle.mk_outputs.specs.Generated.{node}
use Rattle.mk_check.specs.Typing.{base_of}
use Rattle.mk_script.proofs.{LineWords.{is_solid-decimal, is_word-append}, PrintedNumbers.number_of_word-decimal}
use Rattle.mk_script.specs.{declared.items.Item.TheVariants.{Heap, TypeLine}, Operands.{field_of, item_from}}
use Rattle.mk_script.specs.declared.items.TypeWord.TheVariants.{Pointer}

-- `n*K` for K from 1 on, with K = 1 too
field_of-numbers : (numbers : ℕ) → 1 ≤ numbers → numbers < 2 ^ 64
    → field_of (codes "n*" ++ decimal numbers) ≡ Some (replicate numbers Number)
field_of-numbers numbers some small =
    rw (number_of_word-decimal numbers small) (cond-true _ _ _ (le-leb 1 numbers some))

pub declarations_are_read : (numbers : ℕ) → 1 ≤ numbers → numbers ≤ 100
    → AreRead [] (declaration_lines numbers) (declarations numbers)
unfolding item_from
declarations_are_read numbers some few =
    let small : numbers < 2 ^ 64 = omega (arith, few) in
    let short : nat_le (length (replicate numbers Number)) 4096 ≡ true =
    rw (length-replicate numbers Number) (le-leb numbers 4096 (omega (arith, few))) in
    plain {item = Heap 256 256} refl refl refl
    and plain {item = TypeLine node (Number ∷ Pointer (base_of node) ∷ [])} refl refl refl
    and by_words (codes "type" ∷ codes "Buf" ∷ (codes "n*" ++ decimal numbers) ∷ [])
    (ap (λ digits. codes "type Buf n*" ++ digits) (sym (append-nil (decimal numbers))))
    (refl, (refl, (is_word-append (codes "n*") (decimal numbers) refl (is_solid-decimal numbers small), tt)))
    (rw (field_of-numbers numbers some small, append-nil) refl) (rw short refl)
    (omega (arith, length-decimal numbers small)) and plain refl refl refl and tt
