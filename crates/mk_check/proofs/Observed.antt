-- What a script is told of replies does to it what their images do, and the answers of a caller are such images.
use Rattle.mk_check.proofs.Vocabulary.{Answer, Blocks, Bool, Fed, Item, List, Op, Option, Scope, ap, arith, false}
use Rattle.mk_check.proofs.Vocabulary.{fed_before_answers, feed, if◌then◌else◌, map, note, refl, scope_of, script_of}
use Rattle.mk_check.proofs.Vocabulary.{length-map, take_answer, take_answers, true, ℕ, [], ◌==◌, ◌∙◌, ◌∷◌, ◌≡◌}
use Rattle.mk_check.proofs.{Vocabulary.{length, script_names, ◌++◌}, AdmittedScripts.scripts_are_admitted}
use Rattle.std.specs.Prelude.{filter}
use Rattle.mk_core.specs.{Calls.{Decided, asked}, History.{answer_of, answers_of, image_of}}
use Rattle.mk_never.specs.{NeverHeap.{Call, NeverState, after_op, reply_of}, declared.operations.Reply.Reply}
use Rattle.mk_check.specs.{Laws.{heap_of, ops_of_caller}, Observed.{replies_to, told_of, told_to}}
use Rattle.mk_check.specs.ObservedLaws.{AnswersAreImages, NoneIsLeftOver, ObservedRunsAreAdmitted, WordsAreNotTold}

-- Which word was loaded does nothing to a script.

noted_so : (fed : Fed) (o : Option Op) (line : ℕ) (v w : ℕ)
    → note fed o line (Answer.Word v) ≡ note fed o line (Answer.Word w)
noted_so fed x1 line v w = grind arith

pub word_taken : (scope : Scope) (fed : Fed) (left : Blocks) (v w : ℕ)
    → take_answer scope fed left (Answer.Word v) ≡ take_answer scope fed left (Answer.Word w)
word_taken scope fed x2 v w = grind (arith, noted_so)

word_among : (scope : Scope) (fed : Fed) (front more : List Answer) (v w : ℕ)
    → take_answers scope fed (front ++ Answer.Word v ∷ more) ≡ take_answers scope fed (front ++ Answer.Word w ∷ more)
word_among scope fed [] more v w =
    ap (λ (f : Fed). take_answers scope f more) (word_taken scope fed fed.left v w)
word_among scope fed (a ∷ front) more v w = word_among scope (take_answer scope fed fed.left a) front more v w

pub words_are_not_told : WordsAreNotTold
words_are_not_told program k front more v w =
    let script = script_of program k in
    let scope = scope_of program script.items in
    word_among scope (fed_before_answers scope script) front more v w

-- So what is told of a reply does to it what the image of that does.

image_taken : (scope : Scope) (fed : Fed) (left : Blocks) (bases : List ℕ) (r : Reply)
    → take_answer scope fed left (told_of r) ≡ take_answer scope fed left (answer_of bases r)
image_taken scope fed left bases (Reply.Val v) = word_taken scope fed left 0 (image_of bases v)
image_taken scope fed left bases Reply.Done = refl
image_taken scope fed left bases (Reply.Num n) = refl
image_taken scope fed left bases Reply.Full = refl
image_taken scope fed left bases Reply.Fault = refl
image_taken scope fed left bases Reply.Null = refl
image_taken scope fed left bases Reply.Double = refl

images_taken : (scope : Scope) (fed : Fed) (bases : List ℕ) (rs : List Reply)
    → take_answers scope fed (map told_of rs) ≡ take_answers scope fed (answers_of bases rs)
images_taken scope fed bases [] = refl
images_taken scope fed bases (r ∷ rs) =
    ap (λ (f : Fed). take_answers scope f (map told_of rs)) (image_taken scope fed fed.left bases r)
    ∙ images_taken scope (take_answer scope fed fed.left (answer_of bases r)) bases rs

pub feed_images : (program : List Item) (k : ℕ) (bases : List ℕ) (rs : List Reply)
    → feed program k (map told_of rs) ≡ feed program k (answers_of bases rs)
feed_images program k bases rs =
    let script = script_of program k in
    let scope = scope_of program script.items in
    images_taken scope (fed_before_answers scope script) bases rs

-- The answers of one caller are the images of the replies to it.

abbrev first_of : List Answer → Answer
first_of [] = Answer.Done
first_of (a ∷ xs) = a

abbrev rest_of : List Answer → List Answer
rest_of [] = []
rest_of (a ∷ xs) = xs

abbrev answers : List Decided → List Answer
answers xs = map (λ (x : Decided). x.answer) xs

one_image : (bases : List ℕ) (x : Decided) (xs : List Decided) (r : Reply) (rs : List Reply) (own : Bool)
    → x.answer ≡ answer_of bases r → answers xs ≡ answers_of bases rs
    → answers (if own then x ∷ xs else xs) ≡ answers_of bases (if own then r ∷ rs else rs)
one_image bases x xs r rs true a b =
    ap (λ (t : Answer). t ∷ answers xs) a ∙ ap (λ (l : List Answer). answer_of bases r ∷ l) b
one_image bases x xs r rs false a b = b

pub answers_are_images : AnswersAreImages
answers_are_images bases k n [] same = refl
answers_are_images bases k n (x ∷ xs) same =
    let next = after_op n x.caller x.op in
    one_image bases x (filter (λ (y : Decided). y.caller == k) xs) (reply_of n x.caller x.op)
    (replies_to k next (asked xs)) (x.caller == k) (ap first_of same)
    (answers_are_images bases k next xs (ap rest_of same))

-- What follows of a run.

pub observed_are_admitted : ObservedRunsAreAdmitted
observed_are_admitted program bytes checked run =
    scripts_are_admitted program (length (script_names program)) run.calls checked (omega arith) (record {
      callers = run.callers;
      ops = λ k is. record { answers = told_to program run.calls k; are_noted = run.operations k is };
    })

one_reply_more : (k : ℕ) (n : NeverState) (x : Call) (xs : List Call) (r : Reply) (m : NeverState) (own : Bool)
    → length (replies_to k m xs) ≡ length (ops_of_caller k xs)
    → length (if own then r ∷ replies_to k m xs else replies_to k m xs)
    ≡ length (if own then x.op ∷ ops_of_caller k xs else ops_of_caller k xs)
one_reply_more k n x xs r m x6 same = grind arith

as_many_replies : (k : ℕ) (n : NeverState) (xs : List Call)
    → length (replies_to k n xs) ≡ length (ops_of_caller k xs)
as_many_replies k n [] = refl
as_many_replies k n (x ∷ xs) =
    let m = after_op n x.caller x.op in
    one_reply_more k n x xs (reply_of n x.caller x.op) m (x.caller == k) (as_many_replies k m xs)

pub as_many_told : (k : ℕ) (n : NeverState) (xs : List Call)
    → length (map told_of (replies_to k n xs)) ≡ length (ops_of_caller k xs)
as_many_told k n xs = length-map (replies_to k n xs) told_of ∙ as_many_replies k n xs

pub none_is_left_over : NoneIsLeftOver
none_is_left_over program bytes run k is =
    as_many_told k (heap_of program (length (script_names program))) run.calls
    ∙ ap (λ (os : List Op). length os) (run.operations k is)
