-- What a client shows of each kind of operation: what is its own to show, where the layer knows the rest.
use Rattle.mk_heap.proofs.Below.Laws.Vocabulary.{List, NeverState, None, Null, Num, Op, Option, Ptr, Some, Value, ap}
use Rattle.mk_heap.proofs.Below.Laws.Vocabulary.{arith, false}
use Rattle.mk_heap.proofs.Below.Laws.Vocabulary.{get_or, global_at, inl, inr, kinds_of, length, nat_lt, no_allocation}
use Rattle.mk_heap.proofs.Below.Laws.Vocabulary.{number_of}
use Rattle.mk_heap.proofs.Below.Laws.Vocabulary.{refl, register_at, subst, sym, true, word_at, words_of, ℕ, ◌∙◌, ◌≡◌}
use Rattle.mk_heap.proofs.Below.Laws.Vocabulary.{◌≢◌, Kind}
use Rattle.mk_heap.proofs.Below.Laws.Vocabulary.{eqb-true, ltb-true, ◌≤◌, ◌⊎◌}
use Rattle.mk_never.specs.{Laws.StoresTo, NeverHeap.{Allocation, after_op, reply_of}, Types.zero_words}
use Rattle.mk_never.specs.declared.operations.Reply.{Reply}
use Rattle.mk_jobs.specs.{Jobs.{Asks, number_replied}, Laws.is_pointer_to, Typing.{Hold, Plan, hold_of}}
use Rattle.mk_jobs.specs.Keeping.{Covers, Decides, Gone, IsOf, IsShown, IsThere, Moves, Private, Public, TakesPublic}
use Rattle.mk_jobs.{specs.Keeping.{Unborn, World, after, is_owed}, proofs.Operations.{stores_register, was_same}}
use Rattle.mk_jobs.proofs.{Asked.{new_ways, one_way, two_ways}, Covering.{by_free, by_grant, by_look, by_own_write}}
use Rattle.mk_jobs.proofs.{Heaps.{Creates, Frees, Sets, Stores}, Puts.{Puts, points_to, puts_at, puts_new}}
use Rattle.mk_jobs.proofs.Operations.{creates_there, exchanges, frees_there, is_null, leaves_all, loads, next_is_unborn}
use Rattle.mk_jobs.proofs.Operations.{not_null, number_loaded, reached, sets_there, stores_nowhere, stores_number}

-- What a client states; that what all know stays leaves it; and that its objects are small
pub record Client {Job Done Point State : Type 0} (p : Plan Job Done Point)
    (left_by : State → Job → Done → Option State) : Type 1 where
  pub Shared : World → State → Type 0
  pub Local : World → ℕ → Point → Option Done → Type 0
  pub Rely : ℕ → World → World → Type 0
  pub job_at : Point → Option Job
  pub covers : (j : ℕ) (x : State) (w w' : World) → Covers w w' → Shared w x → Shared w' x × Rely j w w'
  pub small : (ty : ℕ) → length (kinds_of p.types ty) ≤ 32

pub some_not_none : {A : Type 0} {a : A} {x : Option A} → x ≡ Some a → x ≡ None → ⊥
some_not_none e f = (let y = sym e ∙ f in cc y)

pub not_taken : (w : World) (k q i x r : ℕ) (hs gs : List Hold) → is_owed (hold_of gs x) ≡ false
    → TakesPublic w k (Op.CasPtr q i x r) hs gs
not_taken w k q i x r hs gs none owed = absurd (let e = sym none ∙ owed in cc e)

pub takes_public : (w : World) (k q i x r : ℕ) (hs gs : List Hold) {a ty : ℕ} → register_at w.n k x ≡ Ptr a ty 0
    → w.role a ≡ Public → TakesPublic w k (Op.CasPtr q i x r) hs gs
takes_public w k q i x r hs gs {a} {ty} is public owed before b points =
    ap w.role (same (register_at w.n k x) is points) ∙ public
  where
    same : (v : Value) → v ≡ Ptr a ty 0 → is_pointer_to b v ≡ true → b ≡ a
    same v e f = grind (arith, eqb-true)

-- A value that is null, with what holds then, or is a pointer with what holds so
pub when_null : {D O A : Type 0} {v : Value} → ((v ≡ Null) × D) ⊎ (O × A) → (A → v ≢ Null) → v ≡ Null → D
when_null (inl h) points null = h.1
when_null (inr h) points null = absurd (points h.1 null)

pub when_some : {D O A : Type 0} {v : Value} → ((v ≡ Null) × D) ⊎ (O × A) → v ≢ Null → O × A
when_some (inl h) some = absurd (some h.0)
when_some (inr h) some = h

-- The caller's own objects are as they were.
abbrev pub OwnStays : ℕ → World → World → Type 0
OwnStays k w w' = (a : ℕ) → w.role a ≡ Private k → (w'.role a ≡ Private k) × (words_of w'.n a ≡ words_of w.n a)

own_granted : {k d ty : ℕ} {w w' : World} → Creates k d ty w.n w'.n
    → Puts (length w.n.allocations) (Private k) w.role w'.role → w.role (length w.n.allocations) ≡ Unborn
    → OwnStays k w w'
own_granted {k} {w = w} new puts unborn a e =
    (puts.others a old ∙ e, ap (λ (x : Allocation). x.words) (new.old a old))
  where
    old : a ≢ length w.n.allocations
    old same = (let x : Private k ≡ Unborn = sym e ∙ ap w.role same ∙ unborn in cc x)

module _ {Job Done Point State : Type 0} {p : Plan Job Done Point} {left_by : State → Job → Done → Option State}
    (c : Client p left_by) where
  -- Its job is decided by what the state is, or isn't decided here.
  pub record Deciding (s : Point) (u : Option Done) (x : State) (u' : Option Done) (y : State)
      (t : Point) : Type 0 where
    pub decides : Decides p left_by (c.job_at s) u x u' y
    pub same_job : u' ≡ None → c.job_at t ≡ c.job_at s

  pub undecided : {s t : Point} {u : Option Done} {x : State} → c.job_at t ≡ c.job_at s → Deciding s u x u x t
  undecided same = record { decides = Decides.nothing; same_job = λ e. same }

  pub was_decided : {s t : Point} {u : Option Done} {x : State} {d : Done} → u ≡ Some d → Deciding s u x u x t
  was_decided is = record { decides = Decides.nothing; same_job = λ e. absurd (some_not_none is e) }

  pub decides_so : {s t : Point} {u : Option Done} {x y : State} {j : Job} (d : Done) → u ≡ None → c.job_at s ≡ Some j
      → left_by x j d ≡ Some y → Deciding s u x (Some d) y t
  decides_so {s} {x = x} {y = y} d is job left = record {
    decides = subst (λ (v : Option Done). Decides p left_by (c.job_at s) v x (Some d) y) (sym is)
        (Decides.settles job left);
    same_job = λ e. absurd (some_not_none refl e);
  }

  -- what `moves` of a client says at one point
  abbrev pub MovesAt : ℕ → World → ℕ → Option Done → State → Point → Type 0
  MovesAt callers w k u x s =
      IsThere p left_by callers w k s → c.Shared w x → c.Local w k s u → (o : Op) (t : Point)
      → Asks p.with_number (p.step s) o (reply_of w.n k o) t
      → Moves p left_by c.Rely c.Shared c.Local c.job_at k s u x w o t

  -- What an operation leaves of a world
  pub record Leads (k : ℕ) (s : Point) (u : Option Done) (x : State) (w w' : World) (t : Point) : Type 0 where
    pub decided : Option Done
    pub state : State
    pub deciding : Deciding s u x decided state t
    pub local : c.Local w' k t decided
    pub shared : c.Shared w' state
    pub rely : c.Rely k w w'

  pub leads : {k : ℕ} {s t : Point} {u u' : Option Done} {x y : State} {w w' : World} → Deciding s u x u' y t
      → c.Local w' k t u' → c.Shared w' y → c.Rely k w w' → Leads k s u x w w' t
  leads deciding local shared rely =
      record { decided = _; state = _; deciding = deciding; local = local; shared = shared; rely = rely }

  module _ (u : Option Done) {callers : ℕ} {w : World} {k : ℕ} {s : Point} {x : State}
      (there : IsThere p left_by callers w k s) (shared : c.Shared w x) where
    abbrev to : Op → Point → World
    to o t = after p left_by w k o s t

    abbrev Goes : Op → Point → Type 0
    Goes o t = Moves p left_by c.Rely c.Shared c.Local c.job_at k s u x w o t

    abbrev LeadsTo : Op → Point → Type 0
    LeadsTo o t = Leads k s u x w (to o t) t

    abbrev Same : Op → Point → Type 0
    Same o t = (a : ℕ) → (to o t).role a ≡ w.role a

    abbrev Spares : Op → Type 0
    Spares o = (a i j : ℕ) → StoresTo w.n k o a i → IsOf j (w.role a) → j ≡ k

    goes : (o : Op) (t : Point) → TakesPublic w k o (p.holds s) (p.holds t) → Spares o → LeadsTo o t → Goes o t
    goes o t takes spares leads = record {
      decided = leads.decided;
      state = leads.state;
      decides = leads.deciding.decides;
      same_job = leads.deciding.same_job;
      local = leads.local;
      shared = leads.shared;
      rely = leads.rely;
      takes = takes;
      spares = spares;
    }

    by_covers : (o : Op) (t : Point) {u' : Option Done} → Covers w (to o t) → Deciding s u x u' x t
        → (c.Rely k w (to o t) → c.Local (to o t) k t u') → LeadsTo o t
    by_covers o t {u'} covers deciding local =
        let now = c.covers k x w (to o t) covers shared in
        record { decided = u'; state = x; deciding = deciding; local = local now.1; shared = now.0; rely = now.1 }

    abbrev SameHeap : NeverState → Type 0
    SameHeap m = (m.allocations ≡ w.n.allocations) × ((g : ℕ) → global_at m g ≡ global_at w.n g)

    looks : (o : Op) (t : Point) {u' : Option Done} → SameHeap (after_op w.n k o) → Same o t → Deciding s u x u' x t
        → (c.Rely k w (to o t) → OwnStays k w (to o t) → c.Local (to o t) k t u') → LeadsTo o t
    looks o t heap same deciding local =
        by_covers o t (by_look (record { allocations = heap.0; globals = heap.1; roles = same })) deciding
        (λ rely. local rely (λ a e. (
          same a ∙ e,
          ap (λ (l : List Allocation). (get_or l a no_allocation).words) heap.0,
        )))

    -- A word is loaded, or a global.
    pub by_load : {o : Op} {t to' : Point} {d q i a ty : ℕ} {u' : Option Done}
        → (o ≡ Op.GetPtr d q i) × (t ≡ to') → register_at w.n k q ≡ Ptr a ty 0 → nat_lt d 8 ≡ true
        → Same (Op.GetPtr d q i) to' → Deciding s u x u' x to'
        → (Sets k d (word_at w.n a i) w.n (after_op w.n k (Op.GetPtr d q i)) → c.Rely k w (to (Op.GetPtr d q i) to')
        → OwnStays k w (to (Op.GetPtr d q i) to') → c.Local (to (Op.GetPtr d q i) to') k to' u') → Goes o t
    by_load {to' = to'} {d = d} {q = q} {i = i} {ty = ty} asks is lt same deciding local =
        let set = loads there q i is (c.small ty) d lt in
        one_way Goes asks (goes (Op.GetPtr d q i) to' tt (λ a i j h. absurd h) (looks (Op.GetPtr d q i) to'
        (set.allocations, set.globals) same deciding (local set)))

    pub by_load_global : {o : Op} {t to' : Point} {d g : ℕ} {u' : Option Done}
        → (o ≡ Op.GetGlobal d g) × (t ≡ to') → nat_lt d 8 ≡ true → Same (Op.GetGlobal d g) to'
        → Deciding s u x u' x to' → (Sets k d (global_at w.n g) w.n (after_op w.n k (Op.GetGlobal d g))
        → c.Rely k w (to (Op.GetGlobal d g) to') → OwnStays k w (to (Op.GetGlobal d g) to')
        → c.Local (to (Op.GetGlobal d g) to') k to' u') → Goes o t
    by_load_global {to' = to'} {d = d} {g = g} asks lt same deciding local =
        one_way Goes asks (goes (Op.GetGlobal d g) to' tt (λ a i j h. absurd h) (looks (Op.GetGlobal d g) to'
        (refl, λ g. refl) same deciding
        (local (sets_there there d (global_at w.n g) lt))))

    -- A number is loaded.
    pub by_load_number : {o : Op} {t to' : Point} {q i a ty : ℕ} {u' : Option Done}
        → (o ≡ Op.GetNum q i) × (t ≡ p.with_number to' (number_replied (reply_of w.n k o)))
        → register_at w.n k q ≡ Ptr a ty 0
        → Same (Op.GetNum q i) (p.with_number to' (number_of (word_at w.n a i)))
        → Deciding s u x u' x (p.with_number to' (number_of (word_at w.n a i)))
        → (c.Rely k w (to (Op.GetNum q i) (p.with_number to' (number_of (word_at w.n a i))))
        → c.Local (to (Op.GetNum q i) (p.with_number to' (number_of (word_at w.n a i)))) k
        (p.with_number to' (number_of (word_at w.n a i))) u') → Goes o t
    by_load_number {t = t} {to' = to'} {q = q} {i = i} {a = a} {ty = ty} asks is same deciding local =
        let said = number_loaded there q i is (c.small ty) in
        let leads = subst (λ (z : Op). t ≡ p.with_number to' (number_replied (reply_of w.n k z))) asks.0 asks.1
        ∙ ap (λ (r : Reply). p.with_number to' (number_replied r)) said in
        one_way Goes (asks.0, leads) (goes (Op.GetNum q i) (p.with_number to' (number_of (word_at w.n a i))) tt
        (λ a i j h. absurd h) (looks (Op.GetNum q i) (p.with_number to' (number_of (word_at w.n a i)))
        (refl, λ g. refl) same deciding (λ rely alone.
        local rely)))

    -- A register is compared with null.
    pub by_null : {o : Op} {t so other : Point} {r : ℕ} {u' u'' : Option Done} → (o ≡ Op.IsNull r)
        × (((reply_of w.n k o ≡ Reply.Num 1) × (t ≡ so)) ⊎ ((reply_of w.n k o ≡ Reply.Num 1 → ⊥) × (t ≡ other)))
        → Same (Op.IsNull r) so → Same (Op.IsNull r) other
        → (register_at w.n k r ≡ Null → Deciding s u x u' x so
        × (c.Rely k w (to (Op.IsNull r) so) → OwnStays k w (to (Op.IsNull r) so)
        → c.Local (to (Op.IsNull r) so) k so u'))
        → (register_at w.n k r ≢ Null → Deciding s u x u'' x other × (c.Rely k w (to (Op.IsNull r) other)
        → OwnStays k w (to (Op.IsNull r) other) → c.Local (to (Op.IsNull r) other) k other u'')) → Goes o t
    by_null {so = so} {other = other} {r = r} asks same same' none some =
        two_ways Goes w.n k asks (λ said. let h = none (is_null w.n k r said) in
        goes (Op.IsNull r) so tt (λ a i j h. absurd h) (looks (Op.IsNull r) so (refl, λ g. refl) same h.0 h.1)) (λ said.
        let h = some (not_null w.n k r said) in
        goes (Op.IsNull r) other tt (λ a i j h. absurd h) (looks (Op.IsNull r) other (refl, λ g. refl) same' h.0 h.1))

    -- An object is created, or there is no room for it.
    pub by_new : {o : Op} {t to' full : Point} {d ty : ℕ} {u' : Option Done}
        → ((o ≡ Op.New d ty false) × (t ≡ to')) ⊎ ((o ≡ Op.New d ty true) × (t ≡ full)) → nat_lt d 8 ≡ true
        → Same (Op.New d ty true) full → Deciding s u x u x to'
        → (Creates k d ty w.n (after_op w.n k (Op.New d ty false))
        → Puts (length w.n.allocations) (Private k) w.role (to (Op.New d ty false) to').role
        → words_of (after_op w.n k (Op.New d ty false)) (length w.n.allocations) ≡ zero_words (kinds_of p.types ty)
        → c.Rely k w (to (Op.New d ty false) to') → OwnStays k w (to (Op.New d ty false) to')
        → c.Local (to (Op.New d ty false) to') k to' u)
        → Deciding s u x u' x full → (c.Rely k w (to (Op.New d ty true) full)
        → c.Local (to (Op.New d ty true) full) k full u') → Goes o t
    by_new {to' = to'} {full = none} {d = d} {ty = ty} asks lt same deciding made deciding' full =
        let new = creates_there there d ty lt in
        let puts = puts_new (Private k) (λ a. refl) in
        let words = ap (λ (y : Allocation). y.words) new.created
        ∙ ap (λ (ts : List (List Kind)). zero_words (kinds_of ts ty)) there.types in
        new_ways Goes asks (goes (Op.New d ty false) to' tt (λ a i j h. absurd h) (by_covers
        (Op.New d ty false) to' (by_grant new puts (next_is_unborn there)) deciding
        (λ rely. made new puts words rely (own_granted new puts (next_is_unborn there)))))
        (goes (Op.New d ty true) none tt (λ a i j h. absurd h) (looks (Op.New d ty true) none
        (refl, λ g. refl) same deciding' (λ rely alone. full rely)))

    -- A word of an object of its own is stored.
    spares_own : (o : Op) {a : ℕ} → w.role a ≡ Private k → ((b i : ℕ) → StoresTo w.n k o b i → b ≡ a) → Spares o
    spares_own o own reaches b i j h of = sym (subst (IsOf j) (ap w.role (reaches b i h) ∙ own) of)

    pub by_store_number : {o : Op} {t to' : Point} {q i m a ty : ℕ}
        → (o ≡ Op.SetNum q i m) × (t ≡ to') → register_at w.n k q ≡ Ptr a ty 0
        → nat_lt i (length (kinds_of p.types ty)) ≡ true → w.role a ≡ Private k → Same (Op.SetNum q i m) to'
        → Deciding s u x u x to' → (Stores a i (Num m) w.n (after_op w.n k (Op.SetNum q i m))
        → c.Rely k w (to (Op.SetNum q i m) to') → c.Local (to (Op.SetNum q i m) to') k to' u) → Goes o t
    by_store_number {to' = to'} {q = q} {i = i} {m = m} {ty = ty} asks is inside own same deciding local =
        let stores = stores_number there q i is (c.small ty) inside m in
        one_way Goes asks (goes (Op.SetNum q i m) to' tt (spares_own (Op.SetNum q i m) own
        (λ b j. reached there q i is (c.small ty)))
        (by_covers (Op.SetNum q i m) to' (by_own_write stores (subst IsShown own) same) deciding (local stores)))

    pub by_store : {o : Op} {t to' : Point} {q i r a ty : ℕ}
        → (o ≡ Op.SetPtr q i r) × (t ≡ to') → register_at w.n k q ≡ Ptr a ty 0
        → nat_lt i (length (kinds_of p.types ty)) ≡ true → w.role a ≡ Private k → Same (Op.SetPtr q i r) to'
        → Deciding s u x u x to' → (Stores a i (register_at w.n k r) w.n (after_op w.n k (Op.SetPtr q i r))
        → c.Rely k w (to (Op.SetPtr q i r) to') → c.Local (to (Op.SetPtr q i r) to') k to' u) → Goes o t
    by_store {to' = to'} {q = q} {i = i} {r = r} {ty = ty} asks is inside own same deciding local =
        let stores = stores_register there q i is (c.small ty) inside r in
        one_way Goes asks (goes (Op.SetPtr q i r) to' tt (spares_own (Op.SetPtr q i r) own
        (λ b j. reached there q i is (c.small ty)))
        (by_covers (Op.SetPtr q i r) to' (by_own_write stores (subst IsShown own) same) deciding (local stores)))

    -- What it took out is freed,
    pub by_freeing : {o : Op} {t to' : Point} {r a ty : ℕ} → (o ≡ Op.Free r) × (t ≡ to')
        → register_at w.n k r ≡ Ptr a ty 0 → nat_lt r 8 ≡ true → is_owed (hold_of (p.holds s) r) ≡ true
        → Deciding s u x u x to' → (Frees w.n (after_op w.n k (Op.Free r)) → c.Rely k w (to (Op.Free r) to')
        → c.Local (to (Op.Free r) to') k to' u) → Goes o t
    by_freeing {to' = to'} {r = r} {a = a} asks is lt owes deciding local =
        let frees = frees_there there r is in
        one_way Goes asks (goes (Op.Free r) to' tt (λ a i j h. absurd h) (by_covers (Op.Free r) to' (by_free frees
        (puts_at Gone is (λ b. refl))
        (there.owed r a (ltb-true r 8 lt) owes (points_to a _ _ is))) deciding
        (local frees)))

    -- or an object of its own.
    pub by_dropping : {o : Op} {t to' : Point} {r a ty : ℕ} → (o ≡ Op.Free r) × (t ≡ to')
        → register_at w.n k r ≡ Ptr a ty 0 → (Frees w.n (after_op w.n k (Op.Free r))
        → Puts a Gone w.role (to (Op.Free r) to').role → LeadsTo (Op.Free r) to') → Goes o t
    by_dropping {to' = to'} {r = r} asks is leads =
        one_way Goes asks (goes (Op.Free r) to' tt (λ a i j h. absurd h) (leads (frees_there there r is)
        (puts_at Gone is (λ b. refl))))

    -- A global is set.
    pub by_store_global : {o : Op} {t to' : Point} {g r : ℕ} → (o ≡ Op.SetGlobal g r) × (t ≡ to')
        → LeadsTo (Op.SetGlobal g r) to' → Goes o t
    by_store_global {to' = to'} {g = g} {r = r} asks leads = one_way Goes asks (goes (Op.SetGlobal g r) to' tt
        (λ a i j h. absurd h) leads)

    -- A word is exchanged for another, or was changed by another caller.
    pub by_exchange : {o : Op} {t so other : Point} {q i y r a ty : ℕ} → (o ≡ Op.CasPtr q i y r)
        × (((reply_of w.n k o ≡ Reply.Num 1) × (t ≡ so)) ⊎ ((reply_of w.n k o ≡ Reply.Num 1 → ⊥) × (t ≡ other)))
        → register_at w.n k q ≡ Ptr a ty 0 → nat_lt i (length (kinds_of p.types ty)) ≡ true
        → (word_at w.n a i ≡ register_at w.n k y
        → Stores a i (register_at w.n k r) w.n (after_op w.n k (Op.CasPtr q i y r))
        → (w.role a ≡ Public) × TakesPublic w k (Op.CasPtr q i y r) (p.holds s) (p.holds so)
        × LeadsTo (Op.CasPtr q i y r) so) → Same (Op.CasPtr q i y r) other
        → is_owed (hold_of (p.holds other) y) ≡ false → Deciding s u x u x other
        → (((z : ℕ) → register_at (after_op w.n k (Op.CasPtr q i y r)) k z ≡ register_at w.n k z)
        → c.Rely k w (to (Op.CasPtr q i y r) other)
        → OwnStays k w (to (Op.CasPtr q i y r) other) → c.Local (to (Op.CasPtr q i y r) other) k other u) → Goes o t
    by_exchange {so = so} {other = other} {q = q} {i = i} {y = y} {r = r} {a = a} {ty =
        ty} asks is inside exchanged same
        none deciding local =
        two_ways Goes w.n k asks (λ said.
        let h = exchanged (was_same there q i is (c.small ty) y r said) (exchanges there q i is
        (c.small ty) inside y r said) in
        goes (Op.CasPtr q i y r) so h.1 (λ b j l stored of. absurd (subst (IsOf l)
        (ap w.role (reached there q i is (c.small ty) stored.0) ∙ h.0) of)) h.2) (λ said.
        let stays = leaves_all there q i is (c.small ty) y r said in
        goes (Op.CasPtr q i y r) other (not_taken w k q i y r (p.holds s) (p.holds other) none)
        (λ b j l stored of. absurd (stores_nowhere there q i is (c.small ty) y r said b j stored)) (looks
        (Op.CasPtr q i y r) other (
          ap (λ (n : NeverState). n.allocations) stays,
          λ g. ap (λ (n : NeverState). global_at n g) stays,
        ) same deciding (local (λ z. ap (λ (n : NeverState). register_at n k z) stays))))
