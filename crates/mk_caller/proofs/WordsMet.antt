-- What the words that a call loads show of its registers' values, and the heap word that it accesses.
use Rattle.mk_words.proofs.Below.Laws.Vocabulary.{AccessIsAdmitted, Caller, CarriesOwn, Config, Event, Flight}
use Rattle.mk_words.proofs.Below.Laws.Vocabulary.{IsHistory, IsSafe, IsSound, Kind, List, Meets, NeverState, Null, Num}
use Rattle.mk_words.proofs.Below.Laws.Vocabulary.{Op, Ptr, Value, World, ℕ, and_from, ap, arith, bases_of, false}
use Rattle.mk_words.proofs.Below.Laws.Vocabulary.{flight_of, histories_keep_lengths, i_of, image_of, is_put, le-leb}
use Rattle.mk_words.proofs.Below.Laws.Vocabulary.{left, lt-ltb, never_behind, q_of, register_at, register_word, sym}
use Rattle.mk_words.proofs.Below.Laws.Vocabulary.{true, ◌%◌, ◌*◌, ◌+◌, ◌/◌, ◌<◌, ◌↔◌, ◌∙◌, ◌≡◌}
use Rattle.mk_words.proofs.Below.Laws.{ImagesKept.base_at, LastEvents.stands, Pairs.shows_plain}
use Rattle.mk_words.proofs.Below.Laws.{ProbesStill.ready, Ready.image_zero}
use Rattle.mk_words.specs.Below.Laws.Theorems.{has_q, has_some_q}
use Rattle.mk_core.specs.Conditions.{is_word_met}
use Rattle.mk_caller.specs.{Moves.is_access, States.{Admits, value_of}}
use Rattle.mk_words.specs.{Steps.register_of, States.{PassState, call_of}}

meets_some : (n : NeverState) (v : Value) (i : ℕ) (P : Kind → Type 0) → Meets n v i P → Meets n v i (λ kind. Unit {0})
meets_some n Null i P h = tt
meets_some n (Num m) i P h = tt
meets_some n (Ptr a t o) i P h = (h.0, tt)

-- the access of an operation through q
pub access_meets : (n : NeverState) (k : ℕ) (o : Op) → is_access o ≡ true → AccessIsAdmitted n k o
    → Meets n (register_at n k (q_of o)) (i_of o) (λ kind. Unit {0})
access_meets n k x2 a h = grind (arith, meets_some)

null_for : {c : Config} {es : List Event} (k r : ℕ) → IsHistory c es → r < 8
    → is_put (flight_of (left c es).now (Caller k)).stage ≡ false
    → (register_word (left c es).now.words k r ≡ 0) ↔ (register_at (never_behind c es) k r ≡ Null)
null_for {c} {es} k r h lt plain =
    let is : register_word (left c es).now.words k r ≡ image_of (bases_of (left c es).allocations) (register_at
    (never_behind c es) k r) = let m = (stands c es h).all.mirrors.images.registers (8 * k + r) in let at : (8 * k
    + r) / 8 ≡ k = omega arith in let in_it : (8 * k + r) % 8 ≡ r = omega arith in let f : Flight = flight_of (left
    c es).now (Caller k) in cc (shows_plain f r (register_word (left c es).now.words k r) plain, in_it, at, m) in
    let bases = bases_of (left c es).allocations in (
      λ zero. image_zero (never_behind c es) bases (register_at (never_behind c es) k r)
          ((stands c es h).all.mirrors.typed.registers (8 * k + r)) (sym is ∙ zero),
      λ null. is ∙ ap (λ (v : Value). image_of bases v) null,
    )

-- It is 0 exactly where the value is null.
pub null_tells : (p : PassState) (k r : ℕ) → p.seat ≡ Caller k → IsHistory p.table.config p.seen → r < 8
    → is_put (call_of p).stage ≡ false → (register_of p r ≡ 0) ↔ (value_of p r ≡ Null)
null_tells p k r is h lt plain = grind (arith, null_for)

-- The word that is accessed through a value lies in the heap.
word_for : {c : Config} {es : List Event} (k : ℕ) → IsHistory c es → has_q (flight_of (left c es).now (Caller k)).stage
    (flight_of (left c es).now (Caller k)).op ≡ true → has_some_q (flight_of (left c es).now (Caller k)).stage
    (flight_of (left c es).now (Caller k)).op ≡ true → Meets (never_behind c es) (register_at (never_behind c es) k
    (q_of (flight_of (left c es).now (Caller k)).op)) (i_of (flight_of (left c es).now (Caller k)).op)
    (λ kind. Unit {0}) → is_word_met c (flight_of (left c es).now (Caller k)) ≡ true
word_for {c} {es} k h has some meets = by (register_at n k (q_of f.op)) (car.q has)
    (st.all.mirrors.typed.registers (8 * k + q_of f.op)) (st.all.mirrors.safe.1.registers (8 * k + q_of f.op)) meets
  where
    f : Flight
    f = flight_of (left c es).now (Caller k)

    n : NeverState
    n = never_behind c es

    w : World
    w = left c es

    st : Rattle.mk_words.proofs.Below.Laws.LastEvents.Stands c es
    st = stands c es h

    car : CarriesOwn (bases_of w.allocations) n k f
    car = st.all.mirrors.images.carried k

    by : (v : Value) → f.q ≡ image_of (bases_of w.allocations) v → IsSound n v → IsSafe st.all.mirrors.safe.0 v
        → Meets n v (i_of f.op) (λ kind. Unit {0}) → is_word_met c f ≡ true
    by Null is sound safe meets = absurd (car.some_q some is)
    by (Num x) is sound safe meets = absurd sound
    by (Ptr a t o) is sound safe meets =
        let r = ready c w n st.known st.all in
        let inside = r.bound a (o + i_of f.op) (r.set.unreleased a safe) meets.0 in
        let base = base_at w.allocations a in
        let long = (histories_keep_lengths c es).heap in
        and_from _ _ (le-leb 65536 f.q (omega arith)) (lt-ltb _ (64 * c.pages) (omega arith))

pub word_is_met : (p : PassState) (k : ℕ) → p.seat ≡ Caller k → IsHistory p.table.config p.seen
    → has_q (call_of p).stage (call_of p).op ≡ true → has_some_q (call_of p).stage (call_of p).op ≡ true
    → is_access (call_of p).op ≡ true → Admits p (call_of p).op → is_word_met p.table.config (call_of p) ≡ true
word_is_met p k is h has some through ad = grind (arith, word_for, access_meets)
