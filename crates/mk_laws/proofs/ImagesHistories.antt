-- One event, and all histories: the world mirrors the heap that never reuses storage, the answers are the images of the
-- replies, what is reached isn't released, and a compare and exchange compares values.
use Rattle.std.proofs.{Common.length-append, lemmas.List.length-replicate}
use Rattle.mk_laws.proofs.Vocabulary.{Answer, AreAdmitted, AreEnabled, AreEnabledFrom, Bool, Call, Caller, Config}
use Rattle.mk_laws.proofs.Vocabulary.{Continues, Decided, Event, ImagePremises, ImagePremisesAlong, ImageScene}
use Rattle.mk_laws.proofs.Vocabulary.{IsAdmitted, IsEnabled, IsHistory, IsSafe, IsSafeSet, IsWithinLimits, Kind, List}
use Rattle.mk_laws.proofs.Vocabulary.{Mirrors, NeverAllocation, NeverState, Null, Number, Op, PlacedAllocation, Ptr}
use Rattle.mk_laws.proofs.Vocabulary.{Some, Stage, Step, To, Value, World, ℕ, admitted_in_parts, after_calls}
use Rattle.mk_laws.proofs.Vocabulary.{allocation_at, answered, answers_of, ap, append-nil, append_assoc, arith, asked}
use Rattle.mk_laws.proofs.Vocabulary.{at_rest, bases_of, call_decided, calls_from, cases_eq, earlier_part_is_history}
use Rattle.mk_laws.proofs.Vocabulary.{enabled_in_parts, enabled_meets, eq-eqb, eqb-true, false, first_world, flight_of}
use Rattle.mk_laws.proofs.Vocabulary.{get_or, get_or-set_other, get_or-set_same, image_of, inl, inr, is_same}
use Rattle.mk_laws.proofs.Vocabulary.{is_under_turn, kinds_of, left, left_from, left_more, length, length-set, ltb-true}
use Rattle.mk_laws.proofs.Vocabulary.{map, map-append, never_behind, no_allocation, one_if, or_cases, or_left, or_right}
use Rattle.mk_laws.proofs.Vocabulary.{placed_at, refl, register_at, replies_of, set_by, slice_index, slice_index_or}
use Rattle.mk_laws.proofs.Vocabulary.{slice_set, subst, suc, sym, true, with_freed, with_global, with_new}
use Rattle.mk_laws.proofs.Vocabulary.{with_register, with_word, word_met, words_of, world_behind, zero, [], ◌*◌, ◌++◌}
use Rattle.mk_laws.proofs.{Vocabulary.{◌+◌, ◌/◌, ◌==◌, ◌||◌, ◌↔◌, ◌∙◌, ◌∷◌, ◌≡◌, ◌≢◌}, Basics.{Frees, Grants}}
use Rattle.mk_laws.proofs.Basics.{KnownWorld, Move, Releases, Renews, Writes, at_first, at_its_stage, flight}
use Rattle.mk_laws.proofs.{Basics.{known_world, ready_of, stands_of}, CallSorts.{admitted_call, cas_compares}}
use Rattle.mk_laws.proofs.{CallSorts.{own_registers, there_is}, FreedRuns.{never_after, owns}}
use Rattle.mk_laws.proofs.ImagesKept.{freed_was, freed_words, fresh_one, images_kept, new_never, new_words, old_never}
use Rattle.mk_laws.proofs.{ImagesKept.{old_placed, written_alike}, ImagesMoves.{IsLonger, Owes, SamePlaces, Shares}}
use Rattle.mk_laws.proofs.{ImagesMoves.{Stores, bases_grow}, EventSorts.goes, Pairs.bare_carries}
use Rattle.mk_never.{proofs.Parts.{admitted_split, after_append, replies_append}, specs.{Laws.LeadsTo, Types.zero_of}}
use Rattle.mk_never.proofs.{Sameness.{equal_from_same, same_from_equal}, Later.calls_stay, Reached.reached_is_in}
use Rattle.mk_never.proofs.TypedCalls.{calls_keep, start_is_typed}
use Rattle.mk_core.{proofs.{ChangedAllocations.granted_at, Histories.enabled_more}, specs.History.never_first}
use Rattle.mk_laws.proofs.ImageLaws.{HistoriesCompareValues, HistoriesMirrorNever, HistoriesRefineNever}
use Rattle.mk_laws.proofs.{ImageLaws.ReachedIsUnreleased, Images.AreTwins, SafeSets.HasSafeSet}

-- There is a safe set after each move, and the two lists of allocations still go together.

wider : (safe : ℕ → Bool) (m : ℕ) (v : Value) → IsSafe safe v → IsSafe (λ a. safe a || (a == m)) v
wider safe m (Ptr a t o) h = or_left (safe a) (a == m) h
wider safe m _ h = tt

zero_safe : (safe : ℕ → Bool) (kinds : List Kind) (i : ℕ) → IsSafe safe (get_or (map zero_of kinds) i Null)
zero_safe safe [] i = tt
zero_safe safe (Number ∷ kinds) zero = tt
zero_safe safe (To t o ∷ kinds) zero = tt
zero_safe safe (kind ∷ kinds) (suc i) = zero_safe safe kinds i

module _ {safe : ℕ → Bool} (s : ImageScene) {n : NeverState} (h : IsSafeSet safe s.allocations n) where
  of_register : (k d : ℕ) (v : Value) → IsSafe safe v → IsSafeSet safe s.allocations (with_register n k d v)
  of_register k d v is = record {
    registers = λ i. set_by (IsSafe safe) n.registers (8 * k + d) i v Null (λ e. is) (h.registers i);
    globals = h.globals;
    closed = h.closed;
    unreleased = h.unreleased;
  }

  of_global : (g : ℕ) (v : Value) → IsSafe safe v → IsSafeSet safe s.allocations (with_global n g v)
  of_global g v is = record {
    registers = h.registers;
    globals = λ i. set_by (IsSafe safe) n.globals g i v Null (λ e. is) (h.globals i);
    closed = h.closed;
    unreleased = h.unreleased;
  }

  of_word : (a i : ℕ) (v : Value) → IsSafe safe v → IsSafeSet safe s.allocations (with_word n a i v)
  of_word a i v is = record {
    registers = h.registers;
    globals = h.globals;
    closed = λ b j sb mb.
        let was = h.closed b j sb (sym (written_alike n a i v b).1 ∙ mb) in
        set_by (λ (x : NeverAllocation). IsSafe safe (slice_index_or x.words j Null)) n.allocations a b
        (record (allocation_at n a) { words = slice_set (words_of n a) i v }) no_allocation
        (λ e. set_by (IsSafe safe) (words_of n a) i j v Null (λ e2. is) (rw e at was)) was;
    unreleased = h.unreleased;
  }

  of_new : (k d base ty : ℕ) → length s.allocations ≡ length n.allocations
      → IsSafeSet (λ a. safe a || (a == length n.allocations)) (s.allocations ++ fresh_one base ty ∷ [])
      (with_register (with_new n ty) k d (Ptr (length n.allocations) ty 0))
  of_new k d base ty same =
      let m = length n.allocations in
      record {
        registers = λ i. set_by (λ x. IsSafe (λ a. safe a || (a == m)) x) n.registers (8 * k + d) i (Ptr m ty 0) Null
            (λ e. or_right (safe m) (m == m) (eq-eqb m m refl)) (wider safe m _ (h.registers i));
        globals = λ g. wider safe m _ (h.globals g);
        closed = λ b j sb mb. elim (cases_eq b m) [
          | inl e ↦ subst (λ (x : NeverAllocation). IsSafe (λ a. safe a || (a == m)) (slice_index_or x.words j Null))
              (sym (ap (allocation_at (with_new n ty)) e ∙ new_never n ty)) (zero_safe _ (kinds_of n.types ty) j)
          | inr ne ↦
              let na = old_never n ty b ne in
              subst (λ (x : NeverAllocation). IsSafe (λ a. safe a || (a == m)) (slice_index_or x.words j Null)) (sym na)
              (wider safe m _ (h.closed b j (old b ne sb) (sym (rw na) ∙ mb)))
        ];
        unreleased = grind (arith, fresh_one, granted_at, old_placed);
      }
    where
      old : (b : ℕ) → b ≢ length n.allocations → (safe b || (b == length n.allocations)) ≡ true → safe b ≡ true
      old b ne sb = grind (arith, or_cases, eqb-true)

pub safe_kept : {safe : ℕ → Bool} {s t : ImageScene} {n m : NeverState} → IsSafeSet safe s.allocations n
    → length s.allocations ≡ length n.allocations → Move safe s n t m → HasSafeSet t.allocations m
safe_kept {safe} {s} {n} h same (Owes k f v a b c d e g i) = (safe, of_register s h k _ v i)
safe_kept {safe} {s} {n} h same (Stores k d x f v a b c e g) = (safe, of_register s h k d v g)
safe_kept {safe} {s} {n} h same (Shares k g x f v a b c d e) = (safe, of_global s h g v e)
safe_kept {safe} {s} {n} h same (Writes k a i x f v at u mm li inside is sv) = (safe, of_word s h a i v sv)
safe_kept {safe} {s} {n} h same (Grants k d base ty f at long ld z) =
    (λ a. safe a || (a == length n.allocations), of_new s h k d base ty same)
safe_kept {safe} h same (Frees k a f xs at places released there others is quiet) =
    (safe, grind (arith, freed_words, freed_was))
safe_kept {safe} h same (Renews xs places released freed) = (safe, grind arith)
safe_kept h same (Releases xs places released freed kept cut) = (kept, cut)
safe_kept {safe} h same _ = (safe, h)

twins_same : {xs ys : List PlacedAllocation} {n : NeverState} → SamePlaces xs ys
    → ((a : ℕ) → (placed_at ys a).freed ≡ (placed_at xs a).freed) → AreTwins xs n → AreTwins ys n
twins_same p f h = grind arith

pub twins_kept : {safe : ℕ → Bool} {s t : ImageScene} {n m : NeverState} → AreTwins s.allocations n → Move safe s n t m
    → AreTwins t.allocations m
twins_kept {n = n} h (Writes k a i x f v at u mm li inside is sv) =
    let new = record (allocation_at n a) { words = slice_set (words_of n a) i v } in
    record {
      count = h.count ∙ sym (length-set n.allocations a new);
      ty = λ b lt. h.ty b lt ∙ set_by (λ (y : NeverAllocation). (allocation_at n b).ty ≡ y.ty) n.allocations a b new
          no_allocation (λ e. rw e) refl;
      freed = λ b lt. h.freed b lt ∙ set_by (λ (y : NeverAllocation). (allocation_at n b).freed
          ≡ y.freed) n.allocations a b new no_allocation (λ e. rw e) refl;
    }
twins_kept {s} {n} h (Grants k d base ty f at long ld z) =
    let y = fresh_one base ty in
    let same = h.count in
    let longer = length-append s.allocations (y ∷ []) in
    let old : (b : ℕ) → b ≢ length s.allocations → allocation_at (with_new n ty) b ≡ allocation_at n b =
    λ b ne. old_never n ty b (λ e. ne (e ∙ sym same)) in
    let last : (b : ℕ) → b ≡ length s.allocations → (placed_at (s.allocations ++ y ∷ []) b ≡ y)
    × (allocation_at (with_new n ty) b ≡ new_words n ty) = λ b e. (
      ap (placed_at (s.allocations ++ y ∷ [])) e ∙ granted_at s.allocations y,
      ap (allocation_at (with_new n ty)) (e ∙ same) ∙ new_never n ty,
    ) in
    record {
      count = longer ∙ rw same (sym (length-append n.allocations (new_words n ty ∷ [])));
      ty = λ b lt. elim (cases_eq b (length s.allocations)) [
        | inl e ↦ rw (last b e).0 (rw (last b e).1)
        | inr ne ↦ rw (old_placed s.allocations y b ne) (rw (old b ne) (h.ty b (omega arith)))
      ];
      freed = λ b lt. elim (cases_eq b (length s.allocations)) [
        | inl e ↦ rw (last b e).0 (rw (last b e).1)
        | inr ne ↦ rw (old_placed s.allocations y b ne) (rw (old b ne) (h.freed b (omega arith)))
      ];
    }
twins_kept {n = n} h (Frees k a f xs at places released there others is quiet) =
    let new = record (allocation_at n a) { freed = true } in
    record {
      count = places.count ∙ h.count ∙ sym (length-set n.allocations a new);
      ty = λ b lt. places.each b ∙ h.ty b (let e = places.count in omega (arith, e)) ∙ set_by
          (λ (y : NeverAllocation). (allocation_at n b).ty ≡ y.ty) n.allocations a b new no_allocation (λ e. rw e) refl;
      freed = λ b lt. elim (cases_eq b a) [
        | inl e ↦ ap (λ j. (placed_at xs j).freed) e ∙ is ∙ sym (ap (λ j. (allocation_at (with_freed n a) j).freed) e
            ∙ rw (get_or-set_same n.allocations a new no_allocation there))
        | inr ne ↦ others b ne ∙ h.freed b (let e = places.count in omega (arith, e))
            ∙ sym (rw (get_or-set_other n.allocations a b new no_allocation ne))
      ];
    }
twins_kept {s} {n} h (Renews xs places released freed) = twins_same places freed h
twins_kept {s} {n} h (Releases xs places released freed kept cut) = twins_same places freed h
twins_kept h _ = record { count = h.count; ty = h.ty; freed = h.freed }

-- what an event leaves, and that what it decides is right, also if more is granted later
pub record Follows (c : Config) (w : World) (n : NeverState) (e : Event) : Type 0 where
  pub mirrors : Mirrors c (world_behind c w e) (never_after c w n e)
  pub bases : IsLonger (bases_of w.allocations) (bases_of (world_behind c w e).allocations)
  pub right : (later : List ℕ) → answered (call_decided c w.now e)
      ≡ answers_of (bases_of (world_behind c w e).allocations ++ later) (replies_of n (asked (call_decided c w.now e)))

pub one_event : (c : Config) (w : World) (n : NeverState) (e : Event) → KnownWorld c w → ImagePremises c w
    → Mirrors c w n → IsEnabled c w.now e → AreAdmitted c.globals n (asked (call_decided c w.now e)) → Follows c w n e
one_event c w n e known others mirrors on ad =
    let safe = mirrors.safe in
    let st = stands_of c w known.limits others in
    let ready = ready_of c w n known mirrors st safe.0 safe.1 in
    let leads = goes known mirrors others ready st e.seat e.step (enabled_meets c w.now e on) ad in
    let stays : Continues n (never_after c w n e) = calls_stay n (asked (call_decided c w.now e)) in
    let grows = bases_grow leads.0 in
    record {
      mirrors = record {
        types = stays.types ∙ mirrors.types;
        register_count = stays.registers ∙ mirrors.register_count;
        global_count = stays.globals ∙ mirrors.global_count;
        typed = calls_keep c.globals n (asked (call_decided c w.now e)) mirrors.typed ad;
        twins = twins_kept mirrors.twins leads.0;
        images = images_kept mirrors.images ready.small mirrors.typed mirrors.twins.count safe.0 ready.apart leads.0;
        freed_run = owns c w n known others mirrors e.seat e.step (enabled_meets c w.now e on) grows ad;
        safe = safe_kept safe.1 mirrors.twins.count leads.0;
      };
      bases = grows;
      right = leads.1;
    }

-- what events leave and decide, from a world on
record FollowsAll (c : Config) (w : World) (n : NeverState) (es : List Event) : Type 0 where
  pub mirrors : Mirrors c (left_from c w es) (after_calls n (asked (calls_from c w es)))
  pub bases : IsLonger (bases_of w.allocations) (bases_of (left_from c w es).allocations)
  pub right : answered (calls_from c w es)
      ≡ answers_of (bases_of (left_from c w es).allocations) (replies_of n (asked (calls_from c w es)))

abbrev call_of : Decided → Call
call_of x = record { caller = x.caller; op = x.op }

abbrev answer_in : Decided → Answer
answer_in x = x.answer

joined_right : (bs : List ℕ) (n : NeverState) (xs ys : List Decided) → answered xs ≡ answers_of bs
    (replies_of n (asked xs)) → answered ys ≡ answers_of bs (replies_of (after_calls n (asked xs)) (asked ys))
    → answered (xs ++ ys) ≡ answers_of bs (replies_of n (asked (xs ++ ys)))
joined_right bs n xs ys hx hy = grind (arith, map-append, answer_in, replies_append, call_of)

-- The list is in two parts: the events that are done, and those that come.
follows_from : (c : Config) (whole done es : List Event) (w : World) (n : NeverState) → IsWithinLimits c
    → w ≡ left c done → AreEnabled c done → AreEnabledFrom c w es → done ++ es ≡ whole → ImagePremisesAlong c whole
    → Mirrors c w n → AreAdmitted c.globals n (asked (calls_from c w es)) → FollowsAll c w n es
unfolding left_from AreEnabledFrom calls_from
follows_from c whole done [] w n limits is was on e others mirrors ad =
    record { mirrors = mirrors; bases = record { more = []; is = sym (append-nil _) }; right = refl }
follows_from c whole done (x ∷ es) w n limits is was on e others mirrors ad =
    let xs = call_decided c w.now x in
    let v = world_behind c w x in
    let ys = calls_from c v es in
    let split : asked (xs ++ ys) ≡ asked xs ++ asked ys = map-append call_of xs ys in
    let admitted = admitted_split c.globals n (asked xs) (asked ys) (rw split at ad) in
    let known : KnownWorld c w = rw is (known_world c done limits was) in
    let here : ImagePremises c w = rw is (others done (x ∷ es) e) in
    let one : Follows c w n x = one_event c w n x known here mirrors on.0 admitted.0 in
    let behind : v ≡ left c (done ++ x ∷ []) = rw is (sym (left_more c (first_world c) done x)) in
    let rest = follows_from c whole (done ++ x ∷ []) es v _ limits behind (enabled_more c (first_world c) done x was
    (rw is at on.0)) on.1 (append_assoc done (x ∷ []) es ∙ e) others one.mirrors admitted.1 in
    record {
      mirrors = rw (ap (after_calls n) split ∙ after_append n (asked xs) (asked ys)) rest.mirrors;
      bases = record {
        more = one.bases.more ++ rest.bases.more;
        is = rest.bases.is ∙ rw one.bases.is (append_assoc _ one.bases.more rest.bases.more);
      };
      right = joined_right _ n xs ys (rw rest.bases.is (one.right rest.bases.more)) rest.right;
    }

-- the first world
pub first_mirrors : (c : Config) → Mirrors c (first_world c) (never_first c)
first_mirrors c = record {
  types = refl;
  register_count = length-replicate (8 * c.callers) Null;
  global_count = refl;
  typed = start_is_typed c.globals c.types c.callers;
  twins = record { count = refl; ty = λ a lt. absurd (omega arith); freed = λ a lt. absurd (omega arith) };
  images = record {
    registers = λ k. rw (at_first c.callers (k / 8) at_rest)
        (at_first 128 k 0 ∙ sym (ap (image_of []) (at_first (8 * c.callers) k Null)));
    globals = λ g. at_first 64 g 0 ∙ sym (ap (image_of []) (at_first 64 g Null));
    heap = λ a i u m lt. absurd (omega arith);
    carried = λ j. rw (at_first c.callers j at_rest) (bare_carries [] at_rest _ _ _ refl);
    probed = λ j. rw (at_first c.callers j at_rest) (λ past. cc);
  };
  freed_run = λ run e. cc;
  safe = (
    λ a. false,
    record {
      registers = λ k. rw (at_first (8 * c.callers) k Null) tt;
      globals = λ g. rw (at_first 64 g Null) tt;
      closed = λ a i s m. cc;
      unreleased = λ a s. cc;
    },
  );
}

all_follow : {c : Config} {es : List Event} → IsHistory c es → ImagePremisesAlong c es
    → FollowsAll c (first_world c) (never_first c) es
unfolding left_from AreEnabledFrom
all_follow {c} {es} h others =
    follows_from c es [] es _ _ h.within_limits refl tt h.enabled refl others (first_mirrors c) h.admitted

pub histories_refine : HistoriesRefineNever
histories_refine c es h others = (all_follow h others).right

pub histories_mirror : HistoriesMirrorNever
histories_mirror c es h others = (all_follow h others).mirrors

-- The premises hold along each front.
pub say_along : (c : Config) (front rest : List Event) → ImagePremisesAlong c (front ++ rest)
    → ImagePremisesAlong c front
say_along c front rest others xs ys e = others xs (ys ++ rest) (sym (append_assoc xs ys rest) ∙ rw e)

-- What is reached is in a safe set.
safe_leads : (safe : ℕ → Bool) (v : Value) (number : ℕ) → IsSafe safe v → LeadsTo v number → safe number ≡ true
safe_leads safe (Ptr a t o) number is leads = ap safe (sym leads) ∙ is
safe_leads safe _ number is leads = absurd leads

pub reached_is_unreleased : ReachedIsUnreleased
reached_is_unreleased c es h others number reached =
    let set = (histories_mirror c es h others).safe in
    set.1.unreleased number (reached_is_in _ (λ a. set.0 a ≡ true) record {
      registers = λ r a leads. safe_leads set.0 _ a (set.1.registers r) leads;
      globals = λ g a leads. safe_leads set.0 _ a (set.1.globals g) leads;
      words = λ from place a is leads. safe_leads set.0 _ a (set.1.closed from place is leads.0) leads.1;
    } number reached)

told : (b : Bool) (u v : Value) → b ≡ is_same u v → (Some (Answer.Num (one_if b)) ≡ Some (Answer.Num 1)) ↔ (u ≡ v)
told b u v is = (λ e. equal_from_same u v (sym is ∙ one b e), λ e. rw (is ∙ same_from_equal u v e))
  where
    one : (b : Bool) → Some (Answer.Num (one_if b)) ≡ Some (Answer.Num 1) → b ≡ true
    one true e = refl
    one false e = cc

-- the event of a `cas`
abbrev cas_of : ℕ → Event
cas_of k = record { seat = Caller k; step = Step.Cas }

pub histories_compare : HistoriesCompareValues
unfolding AreEnabledFrom calls_from
histories_compare c es h others before behind k q i p r whole is =
    let parts : IsHistory c (before ++ cas_of k ∷ behind) = rw whole at h in
    let say : ImagePremisesAlong c (before ++ cas_of k ∷ behind) = rw whole at others in
    let earlier = earlier_part_is_history c before (cas_of k ∷ behind) parts in
    let mirrors = histories_mirror c before earlier (say_along c before (cas_of k ∷ behind) say) in
    let on = ((enabled_in_parts c before (cas_of k ∷ behind)).0 parts.enabled).1.0 in
    let admitted = ((admitted_in_parts c before (cas_of k ∷ behind)).0 parts.admitted).1 in
    let meets = enabled_meets c (left c before).now (cas_of k) on in
    let w : World = left c before in
    let n : NeverState = never_behind c before in
    let known = known_world c before earlier.within_limits earlier.enabled in
    let f = flight_of w.now (Caller k) in
    let x = slice_index w.now.words.heap (word_met f) in
    let safe = mirrors.safe in
    let st = stands_of c w known.limits (say before (cas_of k ∷ behind) refl) in
    let ready = ready_of c w n known mirrors st safe.0 safe.1 in
    let lt = ltb-true k c.callers meets.seat in
    let at_cas = at_its_stage f.stage f.op Step.Cas refl meets.order in
    let o = Op.CasPtr q i p r in
    let lit : f ≡ flight Stage.Cas o f.q f.p f.r f.loaded =
    ap (λ s. flight s f.op f.q f.p f.r f.loaded) at_cas ∙ rw is in
    let admits : IsAdmitted c.globals n k o =
    rw is at (admitted_call c.globals n k f.op _ (ap is_under_turn is) (admitted.0, tt)) in
    let compared = cas_compares k ready (there_is c w n known mirrors safe.0 ready k lt)
    (own_registers c w n known mirrors safe.0 ready k lt) f.q f.p f.r f.loaded x
    (rw lit at (ready.images.carried k)) (rw lit at (ready.images.probed k)) (rw lit) admits in
    record {
      number = compared.0.number;
      place = compared.0.place;
      target = compared.0.target;
      answered = told (x == f.p) _ (register_at n k p) compared.1;
    }
