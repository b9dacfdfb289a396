-- A compare and exchange compares values: its answer is that of the heap that never reuses storage.
use Rattle.mk_words.proofs.Below.Laws.Vocabulary.{Answer, Bool, List, NeverState, Op, Unmapped, Value, WordOf, ℕ}
use Rattle.mk_words.proofs.Below.Laws.Vocabulary.{answer_of, ap, arith, bit, is_same, one_if, refl, register_at, sym}
use Rattle.mk_words.proofs.Below.Laws.Vocabulary.{target_of, true, word_at, ◌↔◌, ◌∙◌, ◌≡◌}
use Rattle.mk_never.proofs.Sameness.{equal_from_same, same_from_equal}
use Rattle.mk_never.specs.declared.values.Target.TheVariants.{Nothing}
use Rattle.mk_never.specs.{NeverHeap.reply_at, declared.{operations.Reply.Reply, values.Target.Target}}
use Rattle.mk_caller.specs.States.{Admits, caller_of_pass, never_then, value_of}
use Rattle.mk_caller.specs.Called.{Says, CallComparesValues}
use Rattle.mk_words.specs.States.{PassState}

-- the word that an access gets to which is answered by a number, and what that says
record Reached (n : NeverState) (v w : Value) (i : ℕ) (said : Bool) : Type 0 where
  pub number : ℕ
  pub place : ℕ
  pub gets_to : target_of n v i ≡ WordOf number place
  pub said_so : said ≡ is_same (word_at n number place) w

same_bits : (a b : Bool) → one_if a ≡ bit b → a ≡ b
same_bits x0 x1 e = grind arith

reached : (bases : List ℕ) (n : NeverState) (v w : Value) (i : ℕ) (said : Bool) (t : Target) → target_of n v i ≡ t
    → Answer.Num (one_if said) ≡ answer_of bases (reply_at t (λ a k. Reply.Num (bit (is_same (word_at n a k) w))))
    → Reached n v w i said
reached bases n v w i said (WordOf a k) is e =
    record { number = a; place = k; gets_to = is; said_so = same_bits said (is_same (word_at n a k) w) (cc) }
reached bases n v w i said Nothing is e = cc
reached bases n v w i said Unmapped is e = cc

equal_where_said : (said : Bool) (v w : Value) → said ≡ is_same v w → (said ≡ true) ↔ (v ≡ w)
equal_where_said said v w is = (λ yes. equal_from_same v w (sym is ∙ yes), λ e. is ∙ same_from_equal v w e)

pub compares_values : {p q : PassState} (x i e r : ℕ) (said : Bool) → Admits p (Op.CasPtr x i e r)
    → Says p (Op.CasPtr x i e r) said q → CallComparesValues p x i e r said q
compares_values {p} x i e r said ad c =
    let n : NeverState = never_then p c.decided.before in
    let there = reached _ n (register_at n (caller_of_pass p) x) (register_at n (caller_of_pass p) e) i said
    (target_of n (register_at n (caller_of_pass p) x) i) refl c.decided.reply in
    record {
      called = c;
      number = there.number;
      place = there.place;
      gets_to = ap (λ (v : Value). target_of n v i) (sym (c.decided.known x ad.in_range.0)) ∙ there.gets_to;
      compares = equal_where_said said (word_at n there.number there.place) (value_of p e) (there.said_so ∙ ap
          (λ (v : Value). is_same (word_at n there.number there.place) v) (c.decided.known e ad.in_range.1));
    }
