-- What the calls owe the table for a step, a split, a join and the end, and what they learn.
use Rattle.std.proofs.Common.{replicate}
use Rattle.mk_laws.proofs.Vocabulary.{Access, Caller, Config, Event, Host, IsHistory, IsTidy, IsWithinLimits, List}
use Rattle.mk_laws.proofs.Vocabulary.{Seat, Step, ℕ, access, ap, arith, false, refl, subst, sym, true, word_accessed}
use Rattle.mk_laws.proofs.{Vocabulary.{[], ◌++◌, ◌<◌, ◌∙◌, ◌∷◌, ◌≡◌}, Reaching.events_reach_the_table}
use Rattle.mk_core.specs.Below.Books.KnownPages.{KnownPages}
use Rattle.mk_core.proofs.{Histories.enabled_more, LayoutLemmas.indexes_within, RegionLemmas.first_are_zero}
use Rattle.mk_core.specs.{Layout.{IsOfTable, count_of_words, index_of}, History.{Grows, is_same_seat}}
use Rattle.mk_core.specs.{History.{AreEnabledFrom, calls_from}, Words.{becomes, zero_words_of}}
use Rattle.mk_core.specs.declared.accesses.TableWord.{TableWord}
use Rattle.atomic_table.specs.{Table.{Allows, Final, Joins, Seen, Splits, opening}, Seated.TableId}
use Rattle.mk_words.proofs.{Cuts.{hands_over, joins, remembers, splits}, Keeps.{Ended, access_there, closes, opens}}
use Rattle.mk_words.proofs.{Keeps.{performs_at, place_there, settles_at}, Seats.{has_all, has_first, has_left}}
use Rattle.mk_words.proofs.{Seats.{only_one, without_keeps, without_less}, Tidy.none_tidy, Undecided.undecided_admitted}
use Rattle.mk_words.specs.Rule.{Adds, Kept, Mine, adds, beside, goes_with, no_step, nobody}
use Rattle.mk_words.specs.{Rule.{settles, stays_with, told_by, view}, States.{CallersAreBeforeOver, Has, HasAll}}
use Rattle.mk_words.specs.States.{all_seats, has_over, is_caller, PassState, WordsState, event_of, now_of}
use Rattle.mk_words.specs.{PageMaps.{IsMapOf, is_handing}, Rule.{IsInOrder, state_of}, Steps.{May, MayPerform, Tells}}
use Rattle.mk_words.specs.declared.rule.View.{View}
use mathlib.Core.Option.{some}

-- with the event the pass's list is a history
pub history_more : (p : PassState) (s : Step) → IsHistory p.table.config p.seen → May p s
    → IsHistory p.table.config (p.seen ++ event_of p s ∷ [])
history_more p s h may = grind (arith, enabled_more, undecided_admitted)

-- the word that the pass's event reaches is one of the table
pub word_of_table : (p : PassState) (s : Step) → IsHistory p.table.config p.seen → May p s
    → IsOfTable p.table.config.pages (word_accessed p.table.config (now_of p) (event_of p s))
word_of_table p s h may =
    events_reach_the_table p.table.config p.seen (event_of p s) h.within_limits h.enabled may.enabled

-- what a step says, and that the pass is in order after it

pub in_order_still : (me n : Mine) (seat : Seat) (e : Event) (found : ℕ) → IsInOrder me seat → Adds e me.0 found n.0
    → IsInOrder n seat
in_order_still me n seat e found order add = grind arith

-- a split

pub some_words : (words pages : ℕ) → words ≡ count_of_words pages → 0 < words
some_words words pages e = omega arith

pub split_call : (config key : Config) (words id : ℕ) (me : Mine) (seat x picked : Seat) → IsInOrder me seat
    → me.0.config ≡ config → key ≡ config → words ≡ count_of_words config.pages → picked ≡ x → Has me.0.own.seats x
    → Has me.0.own.seats Host → is_same_seat x Host ≡ false → (is_caller x ≡ true → has_over me.0.own.seen ≡ false)
    → (0 < words) × Splits (Kept key) id me.0 (stays_with picked me.0) (goes_with picked me.0)
split_call config key words id me seat x picked order config_is key_is words_are picked_is has host another early = (
  some_words words config.pages words_are,
  subst (λ (d : Config). Splits (Kept d) id me.0 (stays_with picked me.0) (goes_with picked me.0)) (sym key_is)
      (subst (λ (y : Seat). Splits (Kept config) id me.0 (stays_with y me.0) (goes_with y me.0)) (sym picked_is) (splits
      config id me.0 (stays_with x me.0) (goes_with x me.0) (hands_over x me.0 order.settled has host another early))),
)

pub copy_call : (config key : Config) (words id : ℕ) (me : Mine) → key ≡ config → words ≡ count_of_words config.pages
    → (0 < words) × Splits (Kept key) id me.0 me.0 (view me.0.config [] me.0.own.seen)
copy_call config key words id me key_is words_are = (
  some_words words config.pages words_are,
  subst (λ (d : Config). Splits (Kept d) id me.0 me.0 (view me.0.config [] me.0.own.seen)) (sym key_is)
      (splits config id me.0 me.0 (view me.0.config [] me.0.own.seen) (remembers me.0)),
)

-- a join, and the look after it

pub join_call : (config key : Config) (words id : ℕ) (me : Mine) (other : ℕ) (from : Mine) (seat there : Seat)
    → IsInOrder me seat → IsInOrder from there → key ≡ config → words ≡ count_of_words config.pages
    → (0 < words) × Joins (Kept key) id me.0 other from.0 (beside me.0 from.0) nobody
join_call config key words id me other from seat there mine theirs key_is words_are = grind (arith, some_words, joins)

pub settle_call : (config key : Config) (words slots id : ℕ) (me : Mine) → me.0.config ≡ config → key ≡ config
    → words ≡ count_of_words config.pages → (0 < words) × Allows (Kept key) slots id me 0 (λ n. n) (settles no_step me)
settle_call config key words slots id me config_is key_is words_are = (
  some_words words config.pages words_are,
  subst (λ (d : Config). Allows (Kept d) slots id me 0 (λ n. n) (settles no_step me)) (sym (key_is ∙ sym config_is))
      (settles_at slots id me no_step),
)

-- the end
pub close_call : (config key : Config) (id : ℕ) (me : Mine) (ws : List ℕ) (xs : List KnownPages) → key ≡ config
    → HasAll config me.0.own.seats → Final (Seen (Kept key) id me.0) ws xs → Ended config me.0.own.seen ws
close_call config key id me ws xs key_is all f =
    closes config id me ws xs all (subst (λ (d : Config). Final (Seen (Kept d) id me.0) ws xs) key_is f)

abbrev pub made_of : TableId → Config → WordsState
made_of tid config = record { id = tid; config = config }

-- The same for the calls, over what contracts see: the words w and the pass p, and what these are made of.
module _ {w : WordsState} {p : PassState} {tid pid : TableId} {config : Config} (me : Mine) (seat : Seat)
    (w_is : made_of tid config ≡ w) (p_is : state_of pid me seat ≡ p) (one_table : p.table ≡ w) where
  same_table : (state_of pid me seat).table ≡ made_of tid config
  same_table = ap (λ (q : PassState). q.table) p_is ∙ one_table ∙ sym w_is

  pub same_id : pid ≡ tid
  same_id = ap (λ (x : WordsState). x.id) same_table

  pub same_config : me.0.config ≡ config
  same_config = ap (λ (x : WordsState). x.config) same_table

  pub names_word : (s : Step) (x : TableWord) {a : Access} → IsInOrder me seat → MayPerform p s x a
      → IsOfTable config.pages x
  names_word s x order may = grind (arith, word_of_table, same_config)

-- the same, where the pass is the token's
module _ (w : WordsState) (tid pid : TableId) (config key : Config) (me : Mine) (seat : Seat)
    (w_is : made_of tid config ≡ w) (one_table : (state_of pid me seat).table ≡ w) where
  abbrev p : PassState
  p = state_of pid me seat

  -- What is owed for the step's own event, word and access is owed by a call that has other names for them.
  pub owed_call : (words slots id : ℕ) (s : Step) (i : ℕ) (x : TableWord) (a : Access) (picked : Event)
      (then : Event → ℕ → Mine → Type 0) → IsInOrder me seat → key ≡ config
      → words ≡ count_of_words config.pages → picked ≡ event_of p s → MayPerform p s x a → i ≡ index_of config.pages x
      → Allows (Kept me.0.config) slots id me (place_there me (event_of p s)) (becomes (access_there me (event_of p s)))
      (then (event_of p s)) → (i < words) × Allows (Kept key) slots id me i (becomes a) (then picked)
  owed_call words slots id s i x a picked then order key_is words_are picked_is may i_is owed =
      let c : Config = me.0.config in
      let config_is : c ≡ config = same_config me seat w_is refl one_table in
      let at : i ≡ place_there me (event_of p s) = cc (i_is, config_is, may.reaches) in
      let within : place_there me (event_of p s) < count_of_words c.pages =
      indexes_within c.pages _ (word_of_table p s order.history may.may) in
      let at_index : Allows (Kept c) slots id me i (becomes a) (then (event_of p s)) = grind arith in
      let at_event : Allows (Kept c) slots id me i (becomes a) (then picked) =
      subst (λ (e : Event). Allows (Kept c) slots id me i (becomes a) (then e)) (sym picked_is) at_index in (
        grind arith,
        subst (λ (d : Config). Allows (Kept d) slots id me i (becomes a) (then picked)) (config_is ∙ sym key_is)
            at_event,
      )

  pub perform_call : (words slots id : ℕ) (s : Step) (i : ℕ) (x : TableWord) (a : Access) (picked : Event)
      → IsInOrder me seat → key ≡ config → words ≡ count_of_words config.pages → picked ≡ event_of p s
      → MayPerform p s x a → i ≡ index_of config.pages x → is_handing s ≡ false → (i < words) × Allows
      (Kept key) slots id me i (becomes a) (λ n m. adds picked no_step me n m)
  perform_call words slots id s i x a picked order key_is words_are picked_is may i_is kind =
      owed_call words slots id s i x a picked (λ e n m. adds e no_step me n m) order key_is words_are picked_is may i_is
      (performs_at slots id me (event_of p s) no_step order.settled order.own
      (history_more p s order.history may.may) may.may.tidy may.may.home kind)

pub perform_learns : (pid qid : TableId) (me n : Mine) (seat : Seat) (s : Step) (a : Access) (answer : ℕ)
    (picked : Event) → qid ≡ pid → picked ≡ event_of (state_of pid me seat) s
    → a ≡ access me.0.config (now_of (state_of pid me seat)) (event_of (state_of pid me seat) s) → IsInOrder me seat
    → (found : ℕ) × adds picked no_step me found n × (answer ≡ told_by a found)
    → Tells (state_of pid me seat) s answer (state_of qid n seat)
perform_learns pid qid me n seat s a answer picked q_is picked_is a_is order on =
    let e : Event = event_of (state_of pid me seat) s in
    let added : adds e no_step me on.0 n = subst (λ (d : Event). adds d no_step me on.0 n) picked_is on.1 in
    let then = in_order_still me n seat e on.0 order added.1 in
    record {
      makes = record {
        others = added.1.others;
        of_others = added.1.of_others;
        is = ap (λ (id : TableId). state_of id n seat) q_is ∙ ap (λ (w : View). state_of pid (w, []) seat) added.1.is;
        pass = record { own = then.own; history = then.history };
      };
      tells = cc (on.2, a_is, added.1.finds);
    }

-- a store
pub allows_store : (key : Config) (slots id : ℕ) (me : Mine) (i : ℕ) (e : Event) (value : ℕ)
    → Allows (Kept key) slots id me i (λ n. value) (λ n m. adds e no_step me n m)
    → Allows (Kept key) slots id me i (λ n. value) (λ n m. (found : ℕ) × adds e no_step me found m)
allows_store key slots id me i e value allows s k long at small = grind arith

-- at first

pub none_is_history : (c : Config) → IsWithinLimits c → IsHistory c []
unfolding AreEnabledFrom calls_from
none_is_history c limits = record { within_limits = limits; enabled = tt; admitted = tt }

pub first_call : (c : Config) (zeros : List ℕ) (slots : List KnownPages) (m : KnownPages) → IsWithinLimits c
    → zeros ≡ replicate (count_of_words c.pages) 0 → slots ≡ m ∷ [] → IsMapOf m (zero_words_of c.pages)
    → Kept c (opening {S = KnownPages} zeros slots (view c (all_seats c) []))
first_call c zeros slots m limits are one shows = grind (arith, opens, first_are_zero, some)

pub first_in_order : (c : Config) (me : Mine) → IsWithinLimits c → me ≡ (view c (all_seats c) [], [])
    → IsInOrder me Host
first_in_order c me limits is = grind (arith, has_all, none_is_history, none_tidy)

-- after a split

pub kept_by_split : (me n : Mine) (seat x picked : Seat) → IsInOrder me seat → picked ≡ x → is_same_seat x seat ≡ false
    → is_same_seat x Host ≡ false → n ≡ (stays_with picked me.0, me.1) → IsInOrder n seat
kept_by_split me n seat x picked order picked_is other another is =
    subst (λ (m : Mine). IsInOrder m seat) (sym (is ∙ ap (λ (y : Seat). (stays_with y me.0, me.1)) picked_is)) (record {
      settled = order.settled;
      own = without_keeps x me.0.own.seats seat other order.own;
      history = order.history;
      tidy = order.tidy;
      before_over = λ k lt h over. without_keeps x me.0.own.seats Host another
          (order.before_over k lt (without_less x me.0.own.seats (Caller k) h) over);
    })

pub made_by_split : (me n : Mine) (seat x picked : Seat) → IsInOrder me seat → picked ≡ x
    → (is_caller x ≡ true → has_over me.0.own.seen ≡ false) → n ≡ (goes_with picked me.0, []) → IsInOrder n x
made_by_split me n seat x picked order picked_is early is = grind (arith, has_first, only_one)

-- after a join

pub record Joined (tid : TableId) (me from n : Mine) (seat : Seat) : Type 0 where
  pub pass : state_of tid n seat ≡ record (state_of tid me seat) {
    seats = me.0.own.seats ++ from.0.own.seats;
    seen = n.0.own.seen;
  }
  pub own : Grows me.0.own.seats me.0.own.seen n.0.own.seen
  pub came : Grows from.0.own.seats from.0.own.seen n.0.own.seen
  pub order : IsInOrder n seat

pub joined : (tid : TableId) (me from m n : Mine) (seat : Seat) (answer : ℕ) → IsInOrder me seat
    → m ≡ (beside me.0 from.0, me.1) → settles no_step m answer n → Joined tid me from n seat
joined tid me from m n seat answer order is on =
    let s = (subst (λ (x : Mine). settles no_step x answer n) is on).1 in
    record {
      pass = ap (λ (w : View). state_of tid (w, []) seat) s.is;
      own = s.own;
      came = s.came;
      order = record {
        settled = ap (λ (w : View). w.came) s.is;
        own = subst (λ (w : View). Has w.own.seats seat) (sym s.is) (has_left _ from.0.own.seats seat order.own);
        history = subst (λ (w : View). IsHistory w.config w.own.seen) (sym s.is) s.history;
        tidy = subst (λ (w : View). IsTidy w.config w.own.seen) (sym s.is) s.tidy;
        before_over = subst (λ (w : View). CallersAreBeforeOver w.config w.own.seats w.own.seen)
            (sym s.is) s.before_over;
      };
    }
