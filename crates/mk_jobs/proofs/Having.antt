-- What a caller has in its registers: the root that global 0 points to, an object of its own, or one that all may know;
-- and what of it stays.
use Rattle.mk_heap.proofs.Below.Laws.Vocabulary.{List, None, Null, Option, Ptr, Value, allocation_at, global_at, inl}
use Rattle.mk_heap.proofs.Below.Laws.Vocabulary.{inr, length}
use Rattle.mk_heap.proofs.Below.Laws.Vocabulary.{refl, register_at, subst, sym, word_at, words_of, ℕ, ◌∙◌, ◌≡◌, ◌≢◌}
use Rattle.mk_heap.proofs.Below.Laws.Vocabulary.{◌⊎◌}
use Rattle.mk_jobs.specs.Keeping.{IsOf, IsShown, Private, Public, Role, Waits, World}
use Rattle.mk_jobs.proofs.{Chains.IsPart, Clients.OwnStays, Heaps.{Creates, Stores}, Puts.Puts}

pub not_null : (a ty : ℕ) (v : Value) → v ≡ Ptr a ty 0 → v ≢ Null
not_null a ty v e null = (let x : Ptr a ty 0 ≡ Null = sym e ∙ null in cc x)

-- taken off, and freed or to be freed
abbrev pub IsPassed : Role → Type 0
IsPassed r = IsShown r × (r ≢ Public)

pub public_or_passed : (r : Role) → IsShown r → (r ≡ Public) ⊎ IsPassed r
public_or_passed Role.Public h = inl refl
public_or_passed (Role.Taken k) h = inr (tt, λ e. cc e)
public_or_passed Role.Gone h = inr (tt, λ e. cc e)
public_or_passed _ h = absurd h

-- an object of this type that all may know
pub record IsShownOf (w : World) (ty a : ℕ) : Type 0 where
  pub shown : IsShown (w.role a)
  pub is_of : (allocation_at w.n a).ty ≡ ty

pub part_is_shown : {w : World} {ty a : ℕ} → IsPart w ty a → IsShownOf w ty a
part_is_shown h = record { shown = subst IsShown (sym h.role) tt; is_of = h.is_of }

-- The value points to one.
pub record PointsTo (w : World) (ty : ℕ) (v : Value) : Type 0 where
  pub a : ℕ
  pub is : v ≡ Ptr a ty 0
  pub known : IsShownOf w ty a

-- It points to one whose word i is x, and stays so.
pub record HasWord (Final : ℕ → Value → Type 0) (w : World) (ty i : ℕ) (v x : Value) : Type 0 where
  pub a : ℕ
  pub is : v ≡ Ptr a ty 0
  pub known : IsShownOf w ty a
  pub word : word_at w.n a i ≡ x
  pub final : Final i x

pub has_word : {Final : ℕ → Value → Type 0} {w : World} {ty i : ℕ} {v : Value} (h : PointsTo w ty v)
    → Final i (word_at w.n h.a i) → HasWord Final w ty i v (word_at w.n h.a i)
has_word h final = record { a = h.a; is = h.is; known = h.known; word = refl; final = final }

-- Register r of the caller points to the root, which is of type rty,
pub record HasRoot (w : World) (k r rty : ℕ) : Type 0 where
  pub t : ℕ
  pub global : global_at w.n 0 ≡ Ptr t rty 0
  pub register : register_at w.n k r ≡ Ptr t rty 0

-- or to an object of its own, of whose words this holds.
pub record HasOwn (w : World) (k r ty : ℕ) (Also : List Value → Type 0) : Type 0 where
  pub a : ℕ
  pub register : register_at w.n k r ≡ Ptr a ty 0
  pub role : w.role a ≡ Private k
  pub also : Also (words_of w.n a)

-- The first caller founds the object, which decides no job. There is no root yet.
pub record IsFounder {Done : Type 0} (w : World) (k : ℕ) (u : Option Done) : Type 0 where
  pub undecided : u ≡ None
  pub first : k ≡ 0
  pub none : global_at w.n 0 ≡ Null

-- The caller has the same in this register.
abbrev pub IsSame : World → World → ℕ → ℕ → Type 0
IsSame w w' k r = register_at w'.n k r ≡ register_at w.n k r

-- What an operation of caller j leaves to the others: global 0 is set by the first alone and then stays. Objects of
-- type ty that all may know stay known, passed ones stay passed, and their final words stay.
pub record Relies (Final : ℕ → Value → Type 0) (ty j : ℕ) (w w' : World) : Type 0 where
  pub founder : j ≢ 0 → global_at w'.n 0 ≡ global_at w.n 0
  pub root : global_at w.n 0 ≢ Null → global_at w'.n 0 ≡ global_at w.n 0
  pub known : (a : ℕ) → IsShownOf w ty a → IsShownOf w' ty a
  pub passed : (a : ℕ) → IsPassed (w.role a) → IsPassed (w'.role a)
  pub words : (a i : ℕ) → IsShownOf w ty a → Final i (word_at w.n a i) → word_at w'.n a i ≡ word_at w.n a i

module _ {Final : ℕ → Value → Type 0} {ty j : ℕ} {w w' : World} (rely : Relies Final ty j w w') where
  unfoldable pub root_stays : {k r rty : ℕ} → IsSame w w' k r → HasRoot w k r rty → HasRoot w' k r rty
  root_stays {rty = rty} same h = record {
    t = h.t;
    global = rely.root (not_null h.t rty _ h.global) ∙ h.global;
    register = same ∙ h.register;
  }

  unfoldable pub points_stay : {v v' : Value} → v' ≡ v → PointsTo w ty v → PointsTo w' ty v'
  points_stay same h = record { a = h.a; is = same ∙ h.is; known = rely.known h.a h.known }

  pub word_stays : {i : ℕ} {v v' x x' : Value} → v' ≡ v → x' ≡ x → HasWord Final w ty i v x
      → HasWord Final w' ty i v' x'
  word_stays {i} same same' h = record {
    a = h.a;
    is = same ∙ h.is;
    known = rely.known h.a h.known;
    word = rely.words h.a i h.known (subst (Final i) (sym h.word) h.final) ∙ h.word ∙ sym same';
    final = subst (Final i) (sym same') h.final;
  }

  -- Another caller founds nothing.
  pub founder_waits : {Done : Type 0} {k : ℕ} {u : Option Done} → j ≢ k → IsFounder w k u → IsFounder w' k u
  founder_waits other h = record {
    undecided = h.undecided;
    first = h.first;
    none = rely.founder (λ e. other (e ∙ sym h.first)) ∙ h.none;
  }

pub founder_on : {Done : Type 0} {w w' : World} {k : ℕ} {u : Option Done} → global_at w'.n 0 ≡ global_at w.n 0
    → IsFounder w k u → IsFounder w' k u
founder_on same h = record { undecided = h.undecided; first = h.first; none = same ∙ h.none }

module _ {k r ty : ℕ} {w w' : World} (same : IsSame w w' k r) where
  pub own_stays : {Also : List Value → Type 0} → OwnStays k w w' → HasOwn w k r ty Also → HasOwn w' k r ty Also
  own_stays {Also} alone h =
      let now = alone h.a h.role in
      record { a = h.a; register = same ∙ h.register; role = now.0; also = subst Also (sym now.1) h.also }

  -- the same where its own operation leaves it so
  pub own_now : {Was Also : List Value → Type 0} (h : HasOwn w k r ty Was) → w'.role h.a ≡ w.role h.a
      → Also (words_of w'.n h.a) → HasOwn w' k r ty Also
  own_now h role also = record { a = h.a; register = same ∙ h.register; role = role ∙ h.role; also = also }

-- It has created it.
pub own_new : {k d ty : ℕ} {w w' : World} {ws : List Value} {Also : List Value → Type 0} → Creates k d ty w.n w'.n
    → Puts (length w.n.allocations) (Private k) w.role w'.role → words_of w'.n (length w.n.allocations) ≡ ws → Also ws
    → HasOwn w' k d ty Also
own_new {w = w} {Also = Also} new puts words also = record {
  a = length w.n.allocations;
  register = new.here;
  role = puts.here;
  also = subst Also (sym words) also;
}

-- Another object is stored to.
pub own_beside : {k r ty b i : ℕ} {v : Value} {w w' : World} {Also : List Value → Type 0} → Stores b i v w.n w'.n
    → (h : HasOwn w k r ty Also) → h.a ≢ b → w'.role h.a ≡ w.role h.a → HasOwn w' k r ty Also
own_beside {k} {r} {Also = Also} stores h apart role =
    own_now (stores.registers k r) h role (subst Also (sym (stores.others h.a apart)) h.also)

-- What another caller does leaves a caller's own objects.
pub own_waits : {k : ℕ} {w w' : World} → Waits k w w' → OwnStays k w w'
own_waits {k} waits a e = let kept = waits.own a (subst (IsOf k) (sym e) refl) in (kept.0 ∙ e, kept.1)
