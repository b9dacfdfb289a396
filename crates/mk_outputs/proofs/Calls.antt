-- How many operations a script without `if` asks for, whatever it is answered.
use Rattle.std.{proofs.Common.if◌then◌else◌, proofs.Common.is_some, proofs.lemmas.List.length_push, specs.Prelude.⊤}
use Rattle.mk_outputs.proofs.Vocabulary.{Bool, Item, List, Option, ℕ, ap, arith, blocks_from, false, length, refl}
use Rattle.mk_outputs.proofs.Vocabulary.{subst, suc, sym, true, zero, [], ◌*◌, ◌+◌, ◌∙◌, ◌∷◌, ◌≡◌}
use Rattle.mk_never.specs.declared.operations.Op.{Op}
use Rattle.mk_core.specs.declared.events.Answer.{Answer}
use Rattle.mk_check.specs.Feed.{Fed, Scope, fed_before_lines, feed_script, has_ended, note, op_of}
use Rattle.mk_check.proofs.Among.{fed_before_answers}
use Rattle.mk_check.specs.Feed.{run, run_line, run_rounds, take_answer, take_answers, with_answer}
use Rattle.mk_check.specs.Blocks.{Blocks, Choice, Done, Line, Rounds, ScriptText, followed_by, is_end_of_block}

abbrev pub nowhere : Scope
nowhere = record { types = []; globals = []; pointers = []; numbers = [] }

abbrev pub nothing : Fed
nothing = record { left = Done; numbers = []; ops = []; text = [] }

-- whether the instruction takes the heap, a register or a global
abbrev pub is_call : Item → Bool
is_call item = is_some (op_of nowhere nothing item)

asks : (scope : Scope) (fed : Fed) (item : Item) → is_some (op_of scope fed item) ≡ is_call item
asks scope fed item = grind arith

-- the operations that blocks ask for
abbrev pub calls_of : Blocks → ℕ
calls_of Done = 0
calls_of (Line line item rest) = (if is_call item then 1 else 0) + calls_of rest
calls_of (Rounds rounds body rest) = rounds * calls_of body + calls_of rest
calls_of (Choice number first second rest) = calls_of first + calls_of second + calls_of rest

abbrev pub HasNoIf : Blocks → Type 0
HasNoIf Done = ⊤
HasNoIf (Line line item rest) = HasNoIf rest
HasNoIf (Rounds rounds body rest) = HasNoIf body × HasNoIf rest
HasNoIf (Choice number first second rest) = ⊥

calls_of-followed_by : (a b : Blocks) → calls_of (followed_by a b) ≡ calls_of a + calls_of b
calls_of-followed_by Done b = omega arith
calls_of-followed_by (Line line item rest) b = omega (arith, calls_of-followed_by rest b)
calls_of-followed_by (Rounds rounds body rest) b = omega (arith, calls_of-followed_by rest b)
calls_of-followed_by (Choice number first second rest) b = omega (arith, calls_of-followed_by rest b)

HasNoIf-followed_by : (a b : Blocks) → HasNoIf a → HasNoIf b → HasNoIf (followed_by a b)
HasNoIf-followed_by Done b h more = more
HasNoIf-followed_by (Line line item rest) b h more = HasNoIf-followed_by rest b h more
HasNoIf-followed_by (Rounds rounds body rest) b h more = (h.0, HasNoIf-followed_by rest b h.1 more)
HasNoIf-followed_by (Choice number first second rest) b h more = absurd h

-- It has noted no operation more, and has this many to ask for.
record IsLeft (calls : ℕ) (before after : Fed) : Type 0 where
  ops : length after.ops ≡ length before.ops
  calls_are : calls_of after.left ≡ calls
  plain : HasNoIf after.left

calls_of-done : (b : Blocks) → is_end_of_block b ≡ true → calls_of b ≡ 0
calls_of-done x0 done = grind arith

-- a part runs, and what stands after it
left_then : {n : ℕ} {before fed : Fed} (go : Fed → Fed) (rest : Blocks) → IsLeft n before fed → HasNoIf rest
    → ((f : Fed) → IsLeft (calls_of rest) f (go f)) → (test : Bool) → is_end_of_block fed.left ≡ test
    → IsLeft (n + calls_of rest) before (if test then go fed else record fed { left = followed_by fed.left rest })
left_then {fed} go rest is plain goes true done = grind (arith, calls_of-done)
left_then {fed} go rest is plain goes false done = record {
  ops = is.ops;
  calls_are = calls_of-followed_by fed.left rest ∙ ap (λ calls. calls + calls_of rest) is.calls_are;
  plain = HasNoIf-followed_by fed.left rest is.plain plain;
}

-- the same with another count of calls that is equal
recounted : {n m : ℕ} {before after : Fed} → n ≡ m → IsLeft n before after → IsLeft m before after
recounted same is = record { ops = is.ops; calls_are = is.calls_are ∙ same; plain = is.plain }

module _ (scope : Scope) where
  rounds_left : (rounds : ℕ) (body : Blocks) (go : Fed → Fed) → HasNoIf body
      → ((f : Fed) → IsLeft (calls_of body) f (go f))
      → (fed : Fed) → IsLeft (rounds * calls_of body) fed (run_rounds rounds body go fed)
  rounds_left zero body go plain goes fed = record { ops = refl; calls_are = omega arith; plain = tt }
  rounds_left (suc more) body go plain goes fed =
      let behind : (f : Fed) → IsLeft (more * calls_of body + 0) f (run_rounds more body go f) =
      λ f. recounted (omega arith) (rounds_left more body go plain goes f) in
      recounted (omega arith) (left_then (run_rounds more body go) (Rounds more body Done) (goes fed) (plain, tt) behind
      (is_end_of_block (go fed).left) refl)

  line_left : (line : ℕ) (item : Item) (rest : Blocks) (fed : Fed) {after : Fed} → HasNoIf rest
      → IsLeft (calls_of rest) (run_line scope fed item) after → (test : Bool) → test ≡ is_call item
      → IsLeft (calls_of (Line line item rest)) fed (if test then record fed { left = Line line item rest } else after)
  line_left line item rest fed plain behind x7 is = grind arith

  run_left : (b : Blocks) → HasNoIf b → (fed : Fed) → IsLeft (calls_of b) fed (run scope b fed)
  run_left Done plain fed = record { ops = refl; calls_are = refl; plain = tt }
  run_left (Line line item rest) plain fed =
      let next = run_line scope fed item in
      line_left line item rest fed plain (run_left rest plain next)
      (is_some (op_of scope fed item)) (asks scope fed item)
  run_left (Rounds rounds body rest) plain fed =
      let all = run_rounds rounds body (run scope body) fed in
      left_then (run scope rest) rest (rounds_left rounds body (run scope body) plain.0 (run_left body plain.0) fed)
      plain.1 (run_left rest plain.1) (is_end_of_block all.left) refl
  run_left (Choice number first second rest) plain fed = absurd plain

  noted : (fed : Fed) (o : Option Op) (line : ℕ) (a : Answer)
      → length (note fed o line a).ops ≡ length fed.ops + (if is_some o then 1 else 0)
  noted fed x1 line a = grind (arith, length_push)

  -- the operations that were noted, and those that are left to ask for
  abbrev pub total : Fed → ℕ
  total fed = length fed.ops + calls_of fed.left

  answer_left : (fed : Fed) (b : Blocks) (a : Answer) → b ≡ fed.left → HasNoIf b
      → (total (take_answer scope fed b a) ≡ length fed.ops + calls_of b) × HasNoIf (take_answer scope fed b a).left
  answer_left fed (Line line item rest) a is plain =
      let after = note fed (op_of scope fed item) line a in
      let behind = run_left rest plain (with_answer scope after item a) in
      let ops : length (with_answer scope after item a).ops ≡ length fed.ops + (if is_call item then 1 else 0) =
      ap length (grind arith) ∙ noted fed (op_of scope fed item) line a ∙ rw (asks scope fed item) refl in
      (omega (arith, behind.ops, behind.calls_are, ops), behind.plain)
  answer_left fed b a is plain = (ap (λ left. length fed.ops + calls_of left) (sym is), subst HasNoIf is plain)

  answers_left : (answers : List Answer) (fed : Fed) → HasNoIf fed.left
      → (total (take_answers scope fed answers) ≡ total fed) × HasNoIf (take_answers scope fed answers).left
  answers_left [] fed plain = (refl, plain)
  answers_left (a ∷ more) fed plain =
      let one = answer_left fed fed.left a refl plain in
      let rest = answers_left more (take_answer scope fed fed.left a) one.1 in
      (rest.0 ∙ one.0, rest.1)

  -- a script that has ended has asked for all of its operations
  pub ended_calls : (script : ScriptText) (answers : List Answer) → HasNoIf (blocks_from script.line script.items)
      → has_ended (feed_script scope script answers) ≡ true
      → length (feed_script scope script answers).ops ≡ calls_of (blocks_from script.line script.items)
  ended_calls script answers plain ended =
      let start = run_left (blocks_from script.line script.items) plain (fed_before_lines scope script) in
      let all = answers_left answers (fed_before_answers scope script) start.plain in
      omega (arith, all.0, start.ops, start.calls_are, calls_of-done (feed_script scope script answers).left ended)
