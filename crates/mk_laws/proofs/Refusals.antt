-- A call that is decided and changes nothing, or is refused.
use Rattle.mk_laws.proofs.Vocabulary.{Answer, Bool, Done, Flight, ImageScene, List, NeverState, Null, Op, Some, Stage}
use Rattle.mk_laws.proofs.Vocabulary.{WordOf, ℕ, answer_of, arith, d_of, false, flagged, flight_among, i_of, is_put}
use Rattle.mk_laws.proofs.Vocabulary.{length, list_any, q_of, register_at, slice_set, stage_refused, steps_of}
use Rattle.mk_laws.proofs.{Vocabulary.{target_of, true, with_register, ◌*◌, ◌+◌, ◌<◌, ◌≡◌}, ImagesMoves.{Flies, Move}}
use Rattle.mk_laws.proofs.{ImagesMoves.{Owes, is_bare}, Pairs.{bare_carries, bare_owes_nothing, bare_unprobed}}
use Rattle.mk_laws.proofs.{Pairs.shows_plain, Ready.{Leads, one_right}}
use Rattle.mk_never.specs.{NeverHeap.{after_op, reply_at, reply_of}, declared.operations.Reply.Reply}
use Rattle.mk_never.specs.declared.values.Target.{Target}
use Rattle.mk_core.specs.Calls.{is_same_stage}

abbrev pub accesses : Op → Bool
accesses o = list_any (is_same_stage Stage.Probe) (steps_of o)

abbrev pub is_word : Target → Bool
is_word (WordOf a i) = true
is_word _ = false

-- a flight that goes on, with nothing owed before or after
pub goes_bare : (safe : ℕ → Bool) (s : ImageScene) (n : NeverState) (k : ℕ) (f : Flight)
    → is_put (flight_among s.flights k).stage ≡ false → is_bare f.stage ≡ true
    → Move safe s n (record s { flights = slice_set s.flights k f }) n
goes_bare safe s n k f was bare = grind (arith, shows_plain, bare_owes_nothing, bare_carries, bare_unprobed, Flies)

-- a decided call that leaves the heap as it is
pub decides_nothing : (safe : ℕ → Bool) (s : ImageScene) (n : NeverState) (k : ℕ) (o : Op) (f : Flight) (a : Answer)
    → flagged o a ≡ o → is_put (flight_among s.flights k).stage ≡ false → is_bare f.stage ≡ true → after_op n k o ≡ n
    → ((bs : List ℕ) → a ≡ answer_of bs (reply_of n k o))
    → Leads safe s n k o (record s { flights = slice_set s.flights k f }) (Some a)
decides_nothing safe s n k o f a flag was bare stays is = grind (arith, goes_bare, one_right)

-- a refused call whose register becomes null, which is still to be stored
pub owes_null : (safe : ℕ → Bool) (s : ImageScene) (n : NeverState) (k d : ℕ) (o : Op) (f : Flight) (a : Answer)
    → flagged o a ≡ o → k < length s.flights → 8 * k + 7 < length n.registers
    → is_put (flight_among s.flights k).stage ≡ false → f.stage ≡ Stage.Put → d_of f.op ≡ d → d < 8 → f.loaded ≡ 0
    → after_op n k o ≡ with_register n k d Null → ((bs : List ℕ) → a ≡ answer_of bs (reply_of n k o))
    → Leads safe s n k o (record s { flights = slice_set s.flights k f }) (Some a)
owes_null safe s n k d o f a flag there long was put isd ld zero stays is = grind (arith, one_right, Owes)

refused_reply : (x t : Target) (at : ℕ → ℕ → Reply) → x ≡ t → is_word t ≡ false
    → reply_at x at ≡ reply_at t (λ a w. Done)
refused_reply x t at e none = grind (arith, is_word)

abbrev flight : Stage → Op → ℕ → ℕ → ℕ → ℕ → Flight
flight st o q p r l = record { stage = st; op = o; q = q; p = p; r = r; loaded = l }

-- an access that reaches none word
pub refuses : (safe : ℕ → Bool) (s : ImageScene) (n : NeverState) (k : ℕ) (o : Op) (q p r : ℕ) (a : Answer) (t : Target)
    → accesses o ≡ true → k < length s.flights → 8 * k + 7 < length n.registers
    → is_put (flight_among s.flights k).stage ≡ false → d_of o < 8 → is_word t ≡ false
    → target_of n (register_at n k (q_of o)) (i_of o) ≡ t
    → ((bs : List ℕ) → a ≡ answer_of bs (reply_at t (λ a w. Done))) → Leads safe s n k o (record s {
      flights = slice_set s.flights k (record { stage = stage_refused o; op = o; q = q; p = p; r = r; loaded = 0 });
    }) (Some a)
refuses safe s n k o q p r a t is there long was ld none e answer =
    grind (arith, decides_nothing, refused_reply, is_word, owes_null)
