-- Each operation of a stack's jobs.
use Rattle.mk_heap.proofs.Below.Laws.Vocabulary.{Bool, Kind, List, None, Option, Some, Value, ap, arith, cond, eq-eqb}
use Rattle.mk_heap.proofs.Below.Laws.Vocabulary.{false≢true}
use Rattle.mk_heap.proofs.Below.Laws.Vocabulary.{inl, inr, number_of, refl, subst, sym, word_at, ℕ, [], ◌∙◌, ◌∷◌, ◌≡◌}
use Rattle.mk_jobs.{specs.Keeping.{Public, Taken, World}, proofs.Rows.{points_first, row_popped, row_pushed}}
use Rattle.mk_jobs.proofs.Clients.{Client, MovesAt, by_exchange, by_freeing, by_load, by_load_number, by_new, by_null}
use Rattle.mk_jobs.proofs.Clients.{by_store, by_store_global, by_store_number, decides_so, leads, takes_public}
use Rattle.mk_jobs.proofs.{Clients.{undecided, was_decided, when_null, when_some}, Having.{founder_on, has_word}}
use Rattle.mk_jobs.proofs.Having.{not_null, own_new, own_now, own_stays, points_stay, word_stays}
use Rattle.mk_jobs.proofs.{Operations.{global_there, register_has}, Puts.puts_one, Relying.{onward_own, onward_taken}}
use Rattle.mk_jobs.proofs.{Relying.{relies_placed, relies_stored}, Roots.{by_checking, by_starting, founded_still}}
use Rattle.mk_jobs.proofs.{Roots.{of_root, placed, shared_one, small_linked, unfounded}, Rows.{first_of, not_root}}
use Rattle.mk_stack.specs.{Stack.{holds, stack_plan, left_by}, declared.jobs.{Done.Done, Job.Job}}
use Rattle.mk_stack.specs.declared.points.Point.{Point}
use Rattle.mk_stack.proofs.{Invariant.{Local, Rely, Shared, done_without, job_at}, Staying.{at_top, covered, taken}}

abbrev pub client : Client stack_plan left_by
client = record {
  Shared = Shared;
  Local = Local;
  Rely = Rely;
  job_at = job_at;
  covers = λ j x w w' covers shared. covered x j covers shared;
  small = small_linked (Kind.To 0 0 ∷ []) (omega arith);
}

none_left : (j : Job) → left_by [] j (done_without j) ≡ Some []
none_left (Job.Push n) = refl
none_left Job.Pop = refl

pops_first : (x : List ℕ) (m : ℕ) (ys : List ℕ) → x ≡ m ∷ ys → left_by x Job.Pop (Done.Popped m) ≡ Some ys
pops_first x m ys e =
    ap (λ (l : List ℕ). left_by l Job.Pop (Done.Popped m)) e
    ∙ ap (λ (t : Bool). cond t (Some ys) None) (eq-eqb m m refl)

module _ {callers : ℕ} {w : World} {k : ℕ} {u : Option Done} {x : List ℕ} where
  pub moves : (s : Point) → MovesAt client callers w k u x s
  -- The first caller creates the top,
  moves Point.Founding there shared local o t asks =
      by_new client u there shared asks refl (λ a. refl) (undecided client refl)
      (λ new puts words rely alone. (founder_on (new.globals 0) local, own_new new puts words refl))
      (undecided client refl) (λ rely. local.undecided)
  -- and places it.
  moves Point.Placing there shared local o t asks =
      let own = local.1 in
      let none = unfounded local.0 shared in
      let puts = puts_one Public own.register (λ a. refl) in
      by_store_global client u there shared asks (leads client (undecided client refl) local.0.undecided
      (placed own.a (global_there there 0 0 refl ∙ own.register) (record {
        nodes = [];
        row = record {
          apart = λ e. cc e;
          root = record { role = puts.here; is_of = (register_has there 0 own.register).is_of };
          chain = own.also;
          numbers = sym none.none_left;
          all = λ a e. inl (shared_one none puts a e);
        };
      })) (relies_placed local.0.first local.0.none refl (onward_own own.role puts)))
  -- A job loads the top,
  moves (Point.Starting j) there shared local o t asks =
      by_starting client there shared (done_without j) asks (λ a. refl) local refl refl (none_left j) (λ u' h. h) shared
  -- which is null or not.
  moves (Point.Checking (Job.Push m)) there shared local o t asks =
      by_checking client there shared asks (λ a. refl) (λ a. refl) local refl (λ e. e) (λ h. h)
  moves (Point.Checking Job.Pop) there shared local o t asks =
      by_checking client there shared asks (λ a. refl) (λ a. refl) local refl (λ e. e) (λ h. h)
  -- A push creates a node,
  moves (Point.Making m) there shared local o t asks =
      by_new client u there shared asks refl (λ a. refl) (undecided client refl) (λ new puts words rely alone.
      (at_top rely (new.others 0 (λ e. omega arith)) local, own_new new puts words tt))
      (decides_so client Done.Full local.0 refl refl) (λ rely. refl)
  -- stores its number,
  moves (Point.Filling m) there shared local o t asks =
      let own = local.1 in
      by_store_number client u there shared asks own.register refl own.role (λ a. refl) (undecided client refl)
      (λ stores rely. (
        at_top rely (stores.registers k 0) local.0,
        own_now (stores.registers k 1) own refl (ap number_of stores.here),
      ))
  -- loads the uppermost node,
  moves (Point.Looking m) there shared local o t asks =
      by_load client u there shared asks local.0.1.register refl (λ a. refl) (undecided client refl)
      (λ set rely alone. (
        at_top rely (set.others 0 (λ e. omega arith)) local.0,
        own_stays (set.others 1 (λ e. omega arith)) alone local.1,
      ))
  -- links its own to that,
  moves (Point.Linking m) there shared local o t asks =
      let own = local.1 in
      by_store client u there shared asks own.register refl own.role (λ a. refl) (undecided client refl)
      (λ stores rely. (
        at_top rely (stores.registers k 0) local.0,
        own_now (stores.registers k 1) own refl
            (ap number_of (stores.beside 0 (λ e. omega arith)) ∙ own.also, stores.here ∙ sym (stores.registers k 2)),
      ))
  -- and exchanges the uppermost for it, or another caller was first.
  moves (Point.Publishing m) there shared local o t asks =
      let top = local.0.1 in
      let own = local.1 in
      let q = of_root top shared in
      by_exchange client u there shared asks top.register refl (λ same stores.
      let puts = puts_one Public own.register (λ a. refl) in
      let row = row_pushed stores puts (register_has there 1 own.register).is_of q.row own.role
      (own.also.1 ∙ sym same) own.register refl in (
        q.row.root.role,
        (λ e. absurd (false≢true e)),
        leads client (decides_so client Done.Pushed local.0.0 refl (ap (λ (y : ℕ). Some (y ∷ x)) (sym own.also.0))) refl
            (founded_still top (stores.globals 0) (record { nodes = own.a ∷ q.nodes; row = row }))
            (relies_stored stores (onward_own own.role puts) (λ h final. not_root q.row _ h.is_of refl)),
      )) (λ a. refl) refl (undecided client refl) (λ same rely alone.
      (at_top rely (same 0) local.0, own_stays (same 1) alone (own_now {w = w} {w' = w} refl own refl own.also.0)))
  -- A pop loads the uppermost node,
  moves Point.Peeking there shared local o t asks =
      elim (points_first (of_root local.1 shared).row) [
        | inl none ↦ by_load client u there shared asks local.1.register refl (λ a. refl) (decides_so client Done.Empty
            local.0 refl (subst (λ (l : List ℕ). left_by l Job.Pop Done.Empty ≡ Some l) (sym none.1) refl))
            (λ set rely alone. inl (set.here ∙ none.0, refl))
        | inr to ↦ by_load client u there shared asks local.1.register refl (λ a. refl) (undecided client refl)
            (λ set rely alone. inr (at_top rely (set.others 0 (λ e. omega arith)) local, points_stay rely set.here to))
      ]
  -- which is null or not,
  moves Point.Testing there shared local o t asks =
      by_null client u there shared asks (λ a. refl) (λ a. refl) (λ null.
      let e = when_null local (λ h. not_null h.a 0 _ h.is) null in (was_decided client e, λ rely alone. e))
      (λ some. let h = when_some local some in
      (undecided client refl, λ rely alone. (at_top rely refl h.0, points_stay rely refl h.1)))
  -- and what is below it,
  moves Point.Following there shared local o t asks =
      by_load client u there shared asks local.1.is refl (λ a. refl) (undecided client refl) (λ set rely alone. (
        at_top rely (set.others 0 (λ e. omega arith)) local.0,
        word_stays rely (set.others 2 (λ e. omega arith)) set.here (has_word local.1 tt),
      ))
  -- exchanges the uppermost for that, or another caller was first,
  moves Point.Taking there shared local o t asks =
      let top = local.0.1 in
      let h = local.1 in
      let q = of_root top shared in
      by_exchange client u there shared asks top.register refl (λ same stores.
      let puts = puts_one (Taken k) h.is (λ a. refl) in
      let first = first_of q.row (same ∙ h.is) in
      let public = first.row.chain.1.role in
      let rely : Rely k w _ = relies_stored stores (onward_taken public puts)
      (λ h final. not_root q.row _ h.is_of refl) in (
        q.row.root.role,
        takes_public w k 0 0 2 1 (holds Point.Taking) (holds Point.Freeing) h.is public,
        leads client (decides_so client _ local.0.0 refl (pops_first x _ first.left first.numbers)) (record {
          number = word_at w.n h.a 0;
          word = word_stays rely (stores.registers k 2) refl
              (has_word (record { a = h.a; is = h.is; known = h.known }) tt);
          owes = refl;
        })
            (founded_still top (stores.globals 0) (record {
              nodes = first.rest;
              row = row_popped stores puts h.known.is_of first (sym h.word) refl;
            })) rely,
      )) (λ a. refl) refl (undecided client refl) (λ same rely alone. at_top rely (same 0) local.0)
  -- frees it,
  moves Point.Freeing there shared local o t asks =
      by_freeing client u there shared asks local.word.is refl refl (undecided client refl)
      (λ frees rely. taken rely (frees.registers k 2) local)
  -- and loads its number.
  moves Point.Reading there shared local o t asks =
      by_load_number client u there shared {to' = Point.Ended (Done.Popped 0)} asks local.word.is (λ a. refl)
      (undecided client refl)
      (λ rely. local.owes ∙ ap (λ (v : Value). Some (Done.Popped (number_of v))) (sym local.word.word))
  moves Point.Founded there shared local o t asks = absurd asks
  moves (Point.Ended d) there shared local o t asks = absurd asks
