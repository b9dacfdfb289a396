-- What the calls that hand over the turn owe the table, and what they learn.
use Rattle.mk_laws.proofs.Vocabulary.{Config, Event, Holds, IsHistory, IsTidy, List, Op, Option, Seat, Step, Store, ℕ}
use Rattle.mk_laws.proofs.Vocabulary.{access, ap, holder_number, left, refl, subst, sym, [], ◌+◌, ◌<◌, ◌∙◌, ◌∷◌, ◌≡◌}
use Rattle.mk_core.specs.Below.Books.KnownPages.{KnownPages}
use Rattle.mk_core.specs.{Layout.{count_of_words, index_of}, Words.becomes}
use Rattle.mk_core.specs.declared.accesses.{Access.TheVariants.Exchange, TableWord.TheVariants.Turn}
use Rattle.atomic_table.specs.{Seated.TableId, Table.{Allows, rest}}
use Rattle.mk_words.proofs.Owed.{history_more, in_order_still, made_of, owed_call, perform_learns}
use Rattle.mk_words.proofs.HandedMaps.{give_event, gives_at, take_event, takes_at}
use Rattle.mk_words.specs.{Rule.{Kept, Mine, gives_map, no_part, no_step, takes_map}, States.{PassState, WordsState}}
use Rattle.mk_words.specs.{States.{event_of, now_of}, PageMaps.IsMapOf, Rule.{IsInOrder, state_of}}
use Rattle.mk_words.specs.{States.{CallersAreBeforeOver, Has}, Steps.{Makes, May, Tells}, declared.rule.View.View}

module _ (w : WordsState) (tid pid : TableId) (config key : Config) (me : Mine) (seat : Seat)
    (w_is : made_of tid config ≡ w) (one_table : (state_of pid me seat).table ≡ w) where
  abbrev p : PassState
  p = state_of pid me seat

  pub take_call : (words slots id : ℕ) (o : Option Op) (i number : ℕ) (picked : Event) → IsInOrder me seat
      → key ≡ config → words ≡ count_of_words config.pages → picked ≡ take_event seat o → May p (Step.Take o) → Exchange
      0 number ≡ access p.table.config (now_of p) (take_event seat o) → i ≡ index_of config.pages Turn → (i < words) ×
      Allows (Kept key) slots id me i (becomes (Exchange 0 number)) (λ n m. takes_map picked no_step me n m)
  take_call words slots id o i number picked order key_is words_are picked_is may a_is i_is =
      owed_call w tid pid config key me seat w_is one_table words slots id (Step.Take o) i Turn
      (Exchange 0 number) picked (λ e n m. takes_map e no_step me n m) order key_is words_are picked_is
      (record { may = may; reaches = refl; does = a_is }) i_is
      (takes_at slots id me seat o no_step order.settled order.own (history_more p (Step.Take o) order.history may))

  pub give_call : (words slots id i : ℕ) (map : KnownPages) (picked : Event) → IsInOrder me seat → key ≡ config
      → words ≡ count_of_words config.pages → slots ≡ 1 → picked ≡ give_event seat → May p Step.Give → Holds
      p.table.config (now_of p) seat → me.1 ≡ (0, map) ∷ [] → IsMapOf map (now_of p).words → i ≡ index_of config.pages
      Turn → (i < words) × Allows (Kept key) slots id me i (becomes (Store 0)) (λ n m. gives_map picked no_step me 0 m)
  give_call words slots id i map picked order key_is words_are slots_are picked_is may holds carried shows i_is =
      subst (λ (k : ℕ). (i < words) × Allows (Kept key) k id me i (becomes (Store 0))
      (λ n m. gives_map picked no_step me 0 m)) (sym slots_are) (owed_call w tid pid config key me seat w_is
      one_table words 1 id Step.Give i Turn _ picked (λ e n m. gives_map e no_step me 0 m) order key_is words_are
      picked_is (record { may = may; reaches = refl; does = refl }) i_is (gives_at id me seat map no_step order.settled
      order.own (history_more p Step.Give order.history may) (may.tidy refl) holds carried shows 0))

-- the number that a `take` stores is the seat's
pub take_access : (tid : TableId) (me : Mine) (seat : Seat) (o : Option Op) (number : ℕ) (p : PassState)
    → state_of tid me seat ≡ p → number ≡ 1 + holder_number p.table.config p.seat
    → Exchange 0 number ≡ access me.0.config (now_of (state_of tid me seat)) (take_event seat o)
take_access tid me seat o number p p_is is =
    subst (λ (r : PassState). Exchange 0 number ≡ access r.table.config (now_of r) (event_of r (Step.Take o)))
    (sym p_is) (ap (λ (n : ℕ). Exchange 0 n) is)

-- the event that a call picked is its own

-- what a `take` tells

pub take_tells : (tid qid : TableId) (me n : Mine) (seat : Seat) (o : Option Op) (number found : ℕ) → qid ≡ tid
    → Exchange 0 number ≡ access me.0.config (now_of (state_of tid me seat)) (take_event seat o) → IsInOrder me seat
    → takes_map (take_event seat o) no_step me found n
    → Tells (state_of tid me seat) (Step.Take o) found (state_of qid n seat)
take_tells tid qid me n seat o number found q_is a_is order on =
    perform_learns tid qid me (n.0, me.1) seat (Step.Take o) (Exchange 0 number) found
    (take_event seat o) q_is refl a_is order (found, (refl, on.0), refl)

pub take_order : (me n : Mine) (seat : Seat) (o : Option Op) (found : ℕ) → IsInOrder me seat
    → takes_map (take_event seat o) no_step me found n → IsInOrder n seat
take_order me n seat o found order on = in_order_still me n seat (take_event seat o) found order on.0

-- and a `give`

pub give_makes : (tid qid : TableId) (me n : Mine) (seat : Seat) → qid ≡ tid → IsInOrder me seat
    → gives_map (give_event seat) no_step me 0 n → Makes (state_of tid me seat) Step.Give (state_of qid n seat)
give_makes tid qid me n seat q_is order on =
    (perform_learns tid qid me (n.0, me.1) seat Step.Give (Store 0) 0 (give_event seat) q_is refl refl
    order (on.1.0, (refl, on.1.1), refl)).makes

pub give_order : (me n : Mine) (seat : Seat) → IsInOrder me seat → gives_map (give_event seat) no_step me 0 n
    → IsInOrder n seat
give_order me n seat order on = in_order_still me n seat (give_event seat) on.1.0 order on.1.1

-- The order of a token rests on its view alone.
pub order_of_view : (me n : Mine) (seat : Seat) → n.0 ≡ me.0 → IsInOrder me seat → IsInOrder n seat
order_of_view me n seat same order = record {
  settled = subst (λ (v : View). v.came ≡ no_part) (sym same) order.settled;
  own = subst (λ (v : View). Has v.own.seats seat) (sym same) order.own;
  history = subst (λ (v : View). IsHistory v.config v.own.seen) (sym same) order.history;
  tidy = subst (λ (v : View). IsTidy v.config v.own.seen) (sym same) order.tidy;
  before_over = subst (λ (v : View). CallersAreBeforeOver v.config v.own.seats v.own.seen) (sym same) order.before_over;
}

-- the slot that a token took, with a map

pub took : (slots before : List (ℕ × KnownPages)) (map : KnownPages) → slots ≡ (0, map) ∷ before
    → slots ≡ (0, map) ∷ rest slots
took slots before map e = e ∙ ap (λ (l : List (ℕ × KnownPages)). (0, map) ∷ l) (sym (ap rest e))

first_map : KnownPages → List (ℕ × KnownPages) → KnownPages
first_map map [] = map
first_map map (x ∷ xs) = x.1

pub took_that : (slots before others : List (ℕ × KnownPages)) (m n : KnownPages) → slots ≡ (0, m) ∷ before
    → slots ≡ (0, n) ∷ others → m ≡ n
unfolding first_map
took_that slots before others m n e f = ap (λ (l : List (ℕ × KnownPages)). first_map m l) (sym e ∙ f)

-- a pass, where the token's table and view are as before
pub still_state : (tid qid : TableId) (me n : Mine) (seat : Seat) (p : PassState) → qid ≡ tid → n.0 ≡ me.0
    → state_of tid me seat ≡ p → state_of qid n seat ≡ p
still_state tid qid me n seat p q_is same is =
    ap (λ (t : TableId). state_of t n seat) q_is ∙ ap (λ (v : View). state_of tid (v, []) seat) same ∙ is

-- what a `take` tells that found the turn free, where the map was then taken out of the slot
pub taken_learns : (tid qid rid : TableId) (me n m : Mine) (seat : Seat) (o : Option Op) (number found : ℕ)
    (map : KnownPages) (p : PassState) → state_of tid me seat ≡ p → qid ≡ tid → rid ≡ qid
    → Exchange 0 number ≡ access me.0.config (now_of (state_of tid me seat)) (take_event seat o) → IsInOrder me seat
    → takes_map (take_event seat o) no_step me found n → found ≡ 0 → m.0 ≡ n.0 → n.1 ≡ (0, map) ∷ rest n.1
    → Tells p (Step.Take o) 0 (state_of rid m seat) × IsMapOf map (now_of (state_of rid m seat)).words
taken_learns tid qid rid me n m seat o number found map p p_is q_is r_is a_is order on free same slot =
    let back : state_of rid m seat ≡ state_of qid n seat = still_state qid rid n m seat (state_of qid n seat) r_is same
    refl in
    let told : Tells (state_of tid me seat) (Step.Take o) found (state_of qid n seat) =
    take_tells tid qid me n seat o number found q_is a_is order on in
    let h = on.1 free in
    let it : h.0 ≡ map = took_that n.1 me.1 (rest n.1) h.0 map h.1 slot in (
      subst (λ (r : PassState). Tells p (Step.Take o) 0 r) (sym back)
          (subst (λ (r : PassState). Tells r (Step.Take o) 0 (state_of qid n seat)) p_is
          (subst (λ (k : ℕ). Tells (state_of tid me seat) (Step.Take o) k (state_of qid n seat)) free told)),
      subst (λ (r : PassState). IsMapOf map (now_of r).words) (sym back)
          (subst (λ (x : KnownPages). IsMapOf x (left n.0.config n.0.own.seen).now.words) it h.2),
    )
