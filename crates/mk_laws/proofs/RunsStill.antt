-- What others leave to the turn's holder of the heap's words: those that lie in no mapped allocation, and the run that
-- it has unmapped and wiped.
use Rattle.mk_laws.proofs.Vocabulary.{AreOfOthers, Config, Event, Holding, Holds, IsHistory, IsWordOfMapped}
use Rattle.mk_laws.proofs.Vocabulary.{LayoutStands, List, None, Option, RunPages, Seat, Some, Steady, Step, World, ℕ}
use Rattle.mk_laws.proofs.Vocabulary.{ap, cases_Bool, false, flight_of, inl, inr, is_heap_store, is_one_of, is_run_gone}
use Rattle.mk_laws.proofs.Vocabulary.{left, refl, slice_index, true, word_met, [], ◌++◌, ◌∙◌, ◌∷◌, ◌≡◌}
use Rattle.mk_laws.proofs.Basics.{HoldsTurn, KnownWorld, Meets, WorldBehind, actor_of, along_others, is_holders}
use Rattle.mk_laws.proofs.{Basics.{same_holder, view_of}, FramesHolders.acts_as_holder}
use Rattle.mk_laws.proofs.{InvariantHistories.told_to_zeros, Known.holds_turn, LastEvents.{comes_last, stands}}
use Rattle.mk_laws.proofs.{ProtocolFrames.{left_after, other_seat}, RunWords.{gone_behind, heap_after, is_wipe}}

-- Only the turn's holder wipes.
wipe_is_holders : (x : Step) → is_wipe x ≡ true → is_holders x ≡ true
wipe_is_holders (Step.Wipe n) w = refl
wipe_is_holders _ w = cc

gone_after : {c : Config} {w : World} (seat : Seat) (x : Step) (freed : Option RunPages) → KnownWorld c w
    → LayoutStands c w → w.now.seats.holding.freed ≡ freed
    → Meets c w.now seat x → (is_heap_store x ≡ true → IsWordOfMapped c w.allocations (word_met (flight_of w.now seat)))
    → is_run_gone w.now.words w.now.seats.holding.freed ≡ true
    → is_run_gone (WorldBehind c w seat x).now.words freed ≡ true
gone_after seat x None known laid is h stored gone = refl
gone_after {c} {w} seat x (Some r) known laid is h stored gone = gone_behind c w known laid r is gone seat x h stored

-- what the turn's holder finds
pub record HolderFinds (c : Config) (s : Seat) (w v : World) : Type 0 where
  pub holds : Holds c v.now s
  pub holding : v.now.seats.holding ≡ w.now.seats.holding
  pub allocations : v.allocations ≡ w.allocations
  pub gone : is_run_gone w.now.words w.now.seats.holding.freed ≡ true
      → is_run_gone v.now.words w.now.seats.holding.freed ≡ true
  pub outside : (n : ℕ) → (IsWordOfMapped c w.allocations n → ⊥)
      → slice_index v.now.words.heap n ≡ slice_index w.now.words.heap n

abbrev Finds : Config → Seat → List Event → List Event → Type 0
Finds c s es fs = Holds c (left c es).now s → HolderFinds c s (left c es) (left c fs)

finds_one : (c : Config) (s : Seat) (es : List Event) (e : Event) → IsHistory c (es ++ e ∷ [])
    → is_one_of (s ∷ []) e.seat ≡ false → Finds c s es (es ++ e ∷ [])
finds_one c s es e h other holds =
    let last = comes_last c es e h in
    let st = stands c es last.before in
    let w : World = left c es in
    let ne = other_seat s e.seat other in
    let own = left_after c w e.seat s e.step st.known.now last.meets ne in
    let stored = (told_to_zeros c w _ st.known st.all e last.on last.admitted).stored in
    let out : HoldsTurn c (view_of w.now) e.seat → ⊥ = λ t. ne
    (same_holder c (view_of w.now) e.seat s st.known.now.orderly t (holds_turn c w.now s st.known.now.orderly holds)) in
    let no_wipe : is_wipe e.step ≡ false = elim (cases_Bool (is_wipe e.step)) [
      | inr e' ↦ e'
      | inl e' ↦ absurd (out (acts_as_holder c w.now e.seat e.step (actor_of c w.now e.seat e.step st.known.now.orderly
          last.meets) (wipe_is_holders e.step e')))
    ] in
    rw last.leaves (record {
      holds = (own.own.holding holds).0;
      holding = (own.own.holding holds).1;
      allocations = ap (λ (y : Steady). y.allocations) (own.turn holds).steady;
      gone = gone_after e.seat e.step w.now.seats.holding.freed st.known st.all.order.laid refl last.meets stored;
      outside = heap_after c w e.seat e.step no_wipe stored;
    })

finds_joined : (c : Config) (s : Seat) (w u v : World) → (Holds c w.now s → HolderFinds c s w u)
    → (Holds c u.now s → HolderFinds c s u v) → Holds c w.now s → HolderFinds c s w v
finds_joined c s w u v x y holds =
    let a = x holds in
    let b = y a.holds in
    record {
      holds = b.holds;
      holding = b.holding ∙ a.holding;
      allocations = b.allocations ∙ a.allocations;
      gone = λ e. rw (ap (λ (h : Holding). h.freed) a.holding) at (b.gone (rw a.holding (a.gone e)));
      outside = λ n none. b.outside n (λ m. none (rw a.allocations at m)) ∙ a.outside n none;
    }

pub holder_finds : (c : Config) (s : Seat) (es more : List Event) → IsHistory c (es ++ more) → AreOfOthers (s ∷ []) more
    → Holds c (left c es).now s → HolderFinds c s (left c es) (left c (es ++ more))
holder_finds c s es more h others = along_others c (s ∷ []) (Finds c s)
    (λ xs holds. record { holds = holds; holding = refl; allocations = refl; gone = λ e. e; outside = λ n none. refl })
    (λ xs ys zs. finds_joined c s (left c xs) (left c ys) (left c zs)) (finds_one c s) es more h others
