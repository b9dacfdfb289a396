-- Each operation of a queue's jobs.
use Rattle.mk_heap.proofs.Below.Laws.Vocabulary.{Bool, Kind, List, None, Op, Option, Some, Value, ap, arith, cond}
use Rattle.mk_heap.proofs.Below.Laws.Vocabulary.{eq-eqb, inl}
use Rattle.mk_heap.proofs.Below.Laws.Vocabulary.{inr, number_of, refl, subst, sym, word_at, ℕ, [], ◌++◌, ◌∙◌, ◌∷◌, ◌≡◌}
use Rattle.mk_jobs.{specs.Keeping.{Public, Taken, World, after}, proofs.Rows.{HasRow, first_of, not_root, row_popped}}
use Rattle.mk_jobs.proofs.{Chains.{IsPart, word_of}, Heaps.Stores, Longer.row_longer, Clients.{Client, MovesAt}}
use Rattle.mk_jobs.proofs.Clients.{by_dropping, by_exchange, by_freeing, by_load, by_load_number, by_new, by_null}
use Rattle.mk_jobs.proofs.Clients.{by_store, by_store_global, by_store_number, decides_so, leads, takes_public}
use Rattle.mk_jobs.proofs.{Clients.{undecided, was_decided, when_null, when_some}, Having.{IsPassed, PointsTo}}
use Rattle.mk_jobs.proofs.Having.{founder_on, not_null, own_beside, own_new, own_now, own_stays, part_is_shown}
use Rattle.mk_jobs.proofs.{Having.{points_stay, public_or_passed, root_stays}, Operations.{global_there, register_has}}
use Rattle.mk_jobs.proofs.{Puts.{puts_one, puts_two}, Relying.{onward_own, onward_taken, onward_two, relies_freed}}
use Rattle.mk_jobs.proofs.{Relying.{relies_placed, relies_stored}, Roots.{by_checking, by_starting, dropped}}
use Rattle.mk_jobs.proofs.Roots.{founded_still, none_passed, of_root, placed, shared_two, small_linked, unfounded}
use Rattle.mk_queue.specs.{Queue.{holds, queue_plan, left_by}, declared.jobs.{Done.Done, Job.Job}}
use Rattle.mk_queue.{specs.declared.points.Point.{Point}, proofs.Staying.{ends, enqueuing, followed, next, tail, taken}}
use Rattle.mk_queue.proofs.{Invariant.{Local, Rely, Shared, done_without, job_at}, Changing.{covered, is_empty}}
use Rattle.mk_queue.proofs.Changing.{link_of, queue_stored, rely_at, rely_founding, tail_moved}

abbrev pub client : Client queue_plan left_by
client = record {
  Shared = Shared;
  Local = Local;
  Rely = Rely;
  job_at = job_at;
  covers = λ j x w w' covers shared. covered x j covers shared;
  small = small_linked (Kind.To 0 0 ∷ Kind.To 0 0 ∷ []) (omega arith);
}

none_left : (j : Job) → left_by [] j (done_without j) ≡ Some []
none_left (Job.Enqueue n) = refl
none_left Job.Dequeue = refl

takes_first : (x : List ℕ) (m : ℕ) (ys : List ℕ) → x ≡ m ∷ ys → left_by x Job.Dequeue (Done.Dequeued m) ≡ Some ys
takes_first x m ys e = rw e (ap (λ (t : Bool). cond t (Some ys) None) (eq-eqb m m refl))

module _ {callers : ℕ} {w : World} {k : ℕ} {u : Option Done} {x : List ℕ} where
  pub moves : (s : Point) → MovesAt client callers w k u x s
  unfolding root_stays points_stay ends
  -- The first caller creates the ends
  moves Point.Founding there shared local o t asks =
      by_new client u there shared asks refl (λ a. refl) (undecided client refl)
      (λ new puts words rely alone. (founder_on (new.globals 0) local, own_new new puts words tt))
      (undecided client refl) (λ rely. local.undecided)
  -- and a dummy,
  moves Point.Grounding there shared local o t asks =
      by_new client u there shared asks refl (λ a. refl) (undecided client refl) (λ new puts words rely alone. (
        founder_on (new.globals 0) local.0,
        own_stays (new.others 0 (λ e. omega arith)) alone local.1,
        own_new new puts words refl,
      )) (undecided client refl) (λ rely. (founder_on refl local.0, own_now refl local.1 refl tt))
  -- or frees them, where there is no room for it.
  moves Point.Dropping there shared local o t asks =
      let own = local.1 in
      by_dropping client u there shared asks own.register (λ frees puts. leads client (undecided client refl)
      local.0.undecided
      (inl (dropped (unfounded local.0 shared) (λ e. cc (e, (register_has there 0 own.register).is_of)) frees puts))
      (rely_founding local.0.none (relies_freed frees (onward_own own.role puts))))
  -- Both words of the ends are set to the dummy.
  moves Point.FirstHead there shared local o t asks =
      by_store client u there shared asks local.1.register refl local.1.role (λ a. refl) (undecided client refl)
      (λ stores rely. (
        founder_on (stores.globals 0) local.0,
        own_now (stores.registers k 0) local.1 refl (stores.here ∙ sym (stores.registers k 1)),
        own_beside stores local.2
            (λ e. cc (e, (register_has there 1 local.2.register).is_of, (register_has there 0 local.1.register).is_of))
            refl,
      ))
  moves Point.FirstTail there shared local o t asks =
      by_store client u there shared asks local.1.register refl local.1.role (λ a. refl) (undecided client refl)
      (λ stores rely. (
        founder_on (stores.globals 0) local.0,
        own_now (stores.registers k 0) local.1 refl (
          stores.beside 0 (λ e. omega arith) ∙ local.1.also ∙ sym (stores.registers k 1),
          stores.here ∙ sym (stores.registers k 1),
        ),
        own_beside stores local.2
            (λ e. cc (e, (register_has there 1 local.2.register).is_of, (register_has there 0 local.1.register).is_of))
            refl,
      ))
  -- The global is set to them.
  moves Point.Placing there shared local o t asks =
      let root = local.1 in
      let dummy = local.2 in
      let none = unfounded local.0 shared in
      let puts = puts_two root.register dummy.register (λ a. refl) in
      let now = after queue_plan left_by w k (Op.SetGlobal 0 0) Point.Placing Point.Founded in
      let part : IsPart now 0 dummy.a =
      record { role = puts.second; is_of = (register_has there 1 dummy.register).is_of } in
      by_store_global client u there shared asks (leads client (undecided client refl) local.0.undecided
      (placed root.a (global_there there 0 0 refl ∙ root.register) (record {
        dummy = dummy.a;
        of_dummy = number_of (word_at w.n dummy.a 0);
        nodes = [];
        row = record {
          apart = λ e. cc e;
          root = record { role = puts.first; is_of = (register_has there 0 root.register).is_of };
          chain = (root.also.0 ∙ dummy.register, part, tt, dummy.also);
          numbers = ap (λ (l : List ℕ). number_of (word_at w.n dummy.a 0) ∷ l) (sym none.none_left);
          all = λ a e. elim (shared_two none puts a e) [ inl root ↦ inl root | inr first ↦ inr (inl first) ];
        };
        tail = record { a = dummy.a; is = root.also.1 ∙ dummy.register; known = part_is_shown part };
        passed = λ a h. elim (public_or_passed _ h.shown) [
          | inl public ↦ inl public
          | inr passed ↦ absurd (none_passed none puts a h.is_of passed)
        ];
      })) (rely_founding local.0.none (relies_placed local.0.first local.0.none refl (onward_two root.role dummy.role
      puts))))
  -- A job loads the ends,
  moves (Point.Starting j) there shared local o t asks =
      by_starting client there shared (done_without j) asks (λ a. refl) local refl refl (none_left j) (λ u' h. h) shared
  -- which are null or not.
  moves (Point.Checking (Job.Enqueue m)) there shared local o t asks =
      by_checking client there shared asks (λ a. refl) (λ a. refl) local refl (λ e. e) (λ h. h)
  moves (Point.Checking Job.Dequeue) there shared local o t asks =
      by_checking client there shared asks (λ a. refl) (λ a. refl) local refl (λ e. e) (λ h. h)
  -- An enqueue creates a node,
  moves (Point.Making m) there shared local o t asks =
      by_new client u there shared asks refl (λ a. refl) (undecided client refl) (λ new puts words rely alone.
      (ends rely (new.others 0 (λ e. omega arith)) local, own_new new puts words refl))
      (decides_so client Done.Full local.0 refl refl) (λ rely. refl)
  -- stores its number in it,
  moves (Point.Filling m) there shared local o t asks =
      let own = local.1 in
      by_store_number client u there shared asks own.register refl own.role (λ a. refl) (undecided client refl)
      (λ stores rely. (
        ends rely (stores.registers k 0) local.0,
        own_now (stores.registers k 1) own refl
            (stores.beside 1 (λ e. omega arith) ∙ own.also, ap number_of stores.here),
      ))
  -- loads the tail,
  moves (Point.Loading m) there shared local o t asks =
      by_load client u there shared asks local.0.1.register refl (λ a. refl) (undecided client refl)
      (λ set rely alone. (
        enqueuing rely (set.others 0 (λ e. omega arith)) (set.others 1 (λ e. omega arith)) alone local,
        points_stay rely.stays set.here (of_root local.0.1 shared).tail,
      ))
  -- and its link,
  moves (Point.Following m) there shared local o t asks =
      let link = link_of (of_root local.0.0.1 shared) local.1 in
      by_load client u there shared asks local.1.is refl (λ a. refl) (undecided client refl) (λ set rely alone. (
        tail rely (set.others 0 (λ e. omega arith)) (set.others 1 (λ e. omega arith)) (set.others 2 (λ e. omega arith))
            alone local,
        elim link [ inl last ↦ inl (set.here ∙ last.1) | inr to ↦ inr (points_stay rely.stays set.here to) ],
      ))
  -- which is null or not.
  moves (Point.Testing m) there shared local o t asks =
      by_null client u there shared asks (λ a. refl) (λ a. refl)
      (λ null. (undecided client refl, λ rely alone. (tail rely refl refl refl alone local.0, null)))
      (λ some. let to : PointsTo w 0 _ = elim local.1 [ inl null ↦ absurd (some null) | inr to ↦ to ] in
      (undecided client refl, λ rely alone. (enqueuing rely refl refl alone local.0.0, points_stay rely.stays refl to)))
  -- Its link is exchanged for the node, or another caller was first.
  moves (Point.Linking m) there shared local o t asks =
      let root = local.0.0.0.1 in
      let own = local.0.0.1 in
      let old = local.0.1 in
      let q = of_root root shared in
      let now = after queue_plan left_by w k (Op.CasPtr 2 1 3 1) (Point.Linking m) Point.Swinging in
      by_exchange client u there shared asks old.is refl (λ same stores.
      let null = same ∙ local.1 in
      let last : IsPart w 0 old.a =
      elim (link_of q old) [ inl last ↦ last.0 | inr to ↦ absurd (not_null to.a 0 _ to.is null) ] in
      let is_of = (register_has there 1 own.register).is_of in
      let puts = puts_one Public own.register (λ a. refl) in
      let part : IsPart now 0 own.a = record { role = puts.here; is_of = stores.types own.a ∙ is_of } in
      let stays = relies_stored stores (onward_own own.role puts) (λ h final. final null) in
      let row = row_longer q.row last null own.role is_of own.also.0
      (subst (λ (v : Value). Stores old.a 1 v w.n now.n) own.register stores) puts (λ e. omega arith) in
      let word : (i : ℕ) → word_at now.n root.t i ≡ word_at w.n root.t i = λ i. word_of w.n now.n root.t i
      (stores.others root.t (λ e. not_root q.row old.a old.known.is_of (sym e))) in (
        last.role,
        (λ e. cc e),
        leads client (decides_so client Done.Enqueued local.0.0.0.0 refl
            (ap (λ (y : ℕ). Some (x ++ y ∷ [])) (sym own.also.1))) (
              refl,
              root_stays stays (stores.registers k 0) root,
              record { a = own.a; is = stores.registers k 1 ∙ own.register; known = part_is_shown part },
            )
            (founded_still root (stores.globals 0) (queue_stored stores puts.others stays q row
            (points_stay stays (word 1) q.tail) (inl puts.here)))
            (rely_at root.global stays (λ a was. inl (word 0 ∙ was))),
      )) (λ a. refl) refl (undecided client refl)
      (λ same rely alone. enqueuing rely (same 0) (same 1) alone local.0.0)
  -- The tail is exchanged for that, or was by another caller,
  moves Point.Swinging there shared local o t asks =
      by_exchange client u there shared asks local.1.register refl (λ same stores.
      let now = tail_moved local.1 shared stores (λ a. refl) local.2 in
      (now.0, (λ e. cc e), leads client (was_decided client local.0) local.0 now.1 now.2))
      (λ a. refl) refl (was_decided client local.0) (λ same rely alone. local.0)
  -- or for the link of the one that was the tail.
  moves (Point.Helping m) there shared local o t asks =
      let root = local.0.0.1 in
      let own = local.0.1 in
      by_exchange client u there shared asks root.register refl (λ same stores.
      let now = tail_moved root shared stores (λ a. refl) local.1 in
      let apart = not_root (of_root root shared).row own.a (register_has there 1 own.register).is_of in (
        now.0,
        (λ e. cc e),
        leads client (undecided client refl)
            (ends now.2 (stores.registers k 0) local.0.0, own_beside stores own apart refl) now.1 now.2,
      )) (λ a. refl) refl (undecided client refl)
      (λ same rely alone. enqueuing rely (same 0) (same 1) alone local.0)
  -- A dequeue loads the head,
  moves Point.Heading there shared local o t asks =
      let root = local.1 in
      let q = of_root root shared in
      let to : PointsTo w 0 _ = record { a = q.dummy; is = q.row.chain.0; known = part_is_shown q.row.chain.1 } in
      by_load client u there shared asks root.register refl (λ a. refl) (undecided client refl)
      (λ set rely alone. record {
        ends = ends rely (set.others 0 (λ e. omega arith)) local;
        node = points_stay rely.stays set.here to;
        was = rely.head root.t root.global q.dummy q.row.chain.0;
      })
  -- and its link, which is null where nothing is queued.
  moves Point.Peeking there shared local o t asks =
      let q = of_root local.ends.1 shared in
      elim (link_of q local.node) [
        | inl last ↦ by_load client u there shared asks local.node.is refl (λ a. refl)
            (decides_so client Done.Empty local.ends.0 refl (is_empty local q last.0 last.1))
            (λ set rely alone. inl (set.here ∙ last.1, refl))
        | inr to ↦ by_load client u there shared asks local.node.is refl (λ a. refl) (undecided client refl)
            (λ set rely alone. let still = set.others in
            inr (tt, followed rely (still 0 (λ e. omega arith)) (still 2 (λ e. omega arith)) set.here local refl to))
      ]
  moves Point.Asking there shared local o t asks =
      by_null client u there shared asks (λ a. refl) (λ a. refl) (λ null.
      let e = when_null local (λ h. not_null h.next.a 0 _ h.next.is) null in (was_decided client e, λ rely alone. e))
      (λ some. let h = when_some local some in
      (undecided client refl, λ rely alone. next rely refl refl refl h.1))
  -- The head is exchanged for it, or was by another caller.
  moves Point.Taking there shared local o t asks =
      let root = local.head.ends.1 in
      let old = local.head.node in
      let q = of_root root shared in
      let now = after queue_plan left_by w k (Op.CasPtr 0 0 2 3) Point.Taking Point.Freeing in
      by_exchange client u there shared asks root.register refl (λ same stores.
      let first = first_of q.row (same ∙ old.is) in
      let public = first.row.chain.1.role in
      let puts = puts_one (Taken k) old.is (λ a. refl) in
      let stays = relies_stored stores (onward_taken public puts) (λ h final. not_root q.row _ h.is_of refl) in
      let row = row_popped stores puts old.known.is_of first (sym local.link) refl in
      let second = first_of row (stores.here ∙ local.next.is) in
      let link = word_of w.n now.n old.a 1 (stores.others old.a (not_root q.row old.a old.known.is_of)) in (
        q.row.root.role,
        takes_public w k 0 0 2 3 (holds Point.Taking) (holds Point.Freeing) old.is public,
        leads client (decides_so client _ local.head.ends.0 refl
            (takes_first x _ second.left (let e = first.numbers in let f = second.numbers in cc (e, f)))) (
              record { node = points_stay stays (stores.registers k 3) local.next; owes = refl },
              points_stay stays (stores.registers k 2) old,
            )
            (founded_still root (stores.globals 0) (queue_stored stores puts.others stays q
            (subst (HasRow _ 1 0 0 1 0 root.t (local.next.a ∷ second.rest)) second.numbers second.row)
            (points_stay stays (stores.beside 1 (λ e. omega arith)) q.tail)
            (inr (points_stay stays (link ∙ local.link) local.next))))
            (rely_at root.global stays (λ a was. let this : a ≡ old.a = (let e = same ∙ old.is in cc (e, was)) in
            inr (subst IsPassed (sym (ap now.role this ∙ puts.here)) (tt, λ e. cc e)))),
      )) (λ a. refl) refl (undecided client refl) (λ same rely alone. ends rely (same 0) local.head.ends)
  -- The old dummy is freed,
  moves Point.Freeing there shared local o t asks =
      by_freeing client u there shared asks local.1.is refl refl (undecided client refl)
      (λ frees rely. taken rely (frees.registers k 3) local.0)
  -- and the number of the new one loaded.
  moves Point.Reading there shared local o t asks =
      by_load_number client u there shared {to' = Point.Ended (Done.Dequeued 0)} asks local.node.is (λ a. refl)
      (undecided client refl) (λ rely. local.owes)
  moves _ there shared local o t asks = absurd asks
