-- The two exchanges of a schedule compare what the heap that never reuses storage compares.
use Rattle.mk_core.proofs.Vocabulary.{Answer, Bool, Config, Event, List, Null, Op, Ptr, Some, Step, Value, ℕ, all_below}
use Rattle.mk_core.proofs.Vocabulary.{ap, arith, calls_from, false, false≢true, flight_of, left, left_from}
use Rattle.mk_core.proofs.Vocabulary.{never_behind, pointed_cell, refl, subst, sym, take, true, [], ◌↔◌, ◌∙◌, ◌≡◌}
use Rattle.mk_core.proofs.{EventsAt.{Also, AtEach, at_each}, MoreSchedules.exchanged, Schedules.{by, c0, pointer_page}}
use Rattle.mk_never.specs.{NeverHeap.{register_at, target_of, word_at}, declared.values.Target.TheVariants.WordOf}
use Rattle.mk_core.specs.{Calls.{i_of, p_of, q_of}, HistoryLaws.{ComparesValues, ExchangesCompareValues}}
use Rattle.mk_core.specs.{Accesses.caller_number, Effects.answer_decided, declared.events.Seat.TheVariants.Caller}

abbrev pub is_cas : Step → Bool
is_cas Step.Cas = true
is_cas _ = false

-- what is compared, if the answer is 1
abbrev Compares : Config → List Event → ℕ → ℕ → ℕ → ℕ → Type 0
Compares c es k p number place =
    (answer_decided c (left c es).now (record { seat = Caller k; step = Step.Cas }) ≡ Some (Answer.Num 1))
    ↔ (word_at (never_behind c es) number place ≡ register_at (never_behind c es) k p)

-- what is to be shown of an exchange by the caller of an event
abbrev ExchangeCompares : Config → List Event → Event → Type 0
ExchangeCompares c es e = (k q i p r : ℕ) → e ≡ record { seat = Caller k; step = Step.Cas }
    → (flight_of (left c es).now (Caller k)).op ≡ Op.CasPtr q i p r → ComparesValues c es k q i p

-- Only this operation and this word are compared.
compares_there : (c : Config) (es : List Event) (q i p r number place : ℕ) → (flight_of (left c es).now (Caller 0)).op
    ≡ Op.CasPtr q i p r → target_of (never_behind c es) (register_at (never_behind c es) 0 q) i ≡ WordOf number place
    → Compares c es 0 p number place → ExchangeCompares c es (record { seat = Caller 0; step = Step.Cas })
compares_there c es q i p r number place is there same k' q' i' p' r' is_event is' =
    subst (λ (x : ℕ). (flight_of (left c es).now (Caller x)).op ≡ Op.CasPtr q' i' p' r' → ComparesValues c es x q' i'
    p') (ap (λ (e : Event). caller_number e.seat) is_event) (λ (here : (flight_of (left c es).now
    (Caller 0)).op ≡ Op.CasPtr q' i' p' r'). subst (λ (o : Op). ComparesValues c es 0 (q_of o) (i_of o) (p_of o))
    (sym is ∙ here) (record { number = number; place = place; target = there; answered = same })) is'

is_null : Value → Bool
is_null Null = true
is_null _ = false

not_null : (number ty offset : ℕ) → Ptr number ty offset ≡ Null → ⊥
unfolding is_null
not_null number ty offset h = false≢true (ap is_null h)

-- Before the first exchange the word is null, as register 2 is: both compare equal values.
first_exchange : ExchangeCompares pointer_page (take 16 exchanged) (record { seat = c0; step = Step.Cas })
unfolding by c0 all_below pointed_cell pointer_page exchanged left_from calls_from
first_exchange = compares_there pointer_page (take 16 exchanged) 0 0 2 1 0 0 refl refl ((λ h. refl), (λ h. refl))

-- Before the second it is the pointer that the first has stored.
second_exchange : ExchangeCompares pointer_page (take 24 exchanged) (record { seat = c0; step = Step.Cas })
unfolding by c0 all_below pointed_cell pointer_page exchanged left_from calls_from
second_exchange = compares_there pointer_page (take 24 exchanged) 0 0 2 1 0 0 refl refl
    ((λ h. absurd (let no : ◌≡◌ {A = ℕ} 0 1 = cc in omega arith)), (λ h. absurd (not_null 1 0 0 h)))

pub exchanges_compare : ExchangesCompareValues pointer_page exchanged
unfolding by c0 exchanged AtEach Also
exchanges_compare before behind k q i p r is at =
    at_each is_cas (λ (es : List Event) (e : Event). ExchangeCompares pointer_page es e) [] exchanged (
      first_exchange,
      (second_exchange, tt),
    ) before (record { seat = Caller k; step = Step.Cas }) behind is refl k q i p r refl at
