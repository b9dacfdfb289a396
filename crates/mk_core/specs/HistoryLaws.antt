-- Laws of histories: of lists in two parts, of longer lists, and of compare and exchange (no ABA).
use Rattle.std.specs.Prelude.{◌≡◌, ◌↔◌, ℕ, ◌&&◌, not, List, ◌++◌, ◌∷◌, Some, [], is_some}
use Rattle.mk_never.specs.{declared.types.Kind.Kind, Types.is_large, NeverHeap.{after_calls, replies_of, register_at}}
use Rattle.mk_never.specs.{NeverHeap.{word_at, target_of}, Admitted.AreAdmitted}
use Rattle.mk_never.specs.declared.{values.Target.TheVariants.WordOf, operations.Op.Op}
use Rattle.mk_core.specs.{declared.{config.Config.Config, events.Event.Event}, Words.{has_bit, without}}
use Rattle.mk_core.specs.{NewPlaces.{object_of, is_small_object}, Calls.asked, History.{left_from, left}}
use Rattle.mk_core.specs.History.{AreEnabledFrom, AreEnabled, calls_from, calls, never_first, never_behind}
use Rattle.mk_core.specs.{History.{CallsAreAdmitted, IsHistory, AreOfOthers}, declared.events.Seat.TheVariants.Caller}
use Rattle.mk_core.specs.{Moments.flight_of, Effects.answer_decided, declared.events.Answer.Answer}
use Rattle.mk_core.specs.{declared.events.Step.Step, Accesses.{word_accessed, access}, Layout.IsOfTable, Counts.IsTidy}

-- A list of events in two parts: what it leaves, whether it is enabled, its calls, what they leave in the heap that
-- never reuses storage, their replies, and whether they are admitted is as its earlier part has it, and then its later
-- part after that. The earlier part of a history is a history.
pub record IsOfTwoParts (c : Config) (es more : List Event) : Type 0 where
  pub leaves : left c (es ++ more) ≡ left_from c (left c es) more
  pub enabled : AreEnabled c (es ++ more) ↔ (AreEnabled c es × AreEnabledFrom c (left c es) more)
  pub decides : calls c (es ++ more) ≡ calls c es ++ calls_from c (left c es) more
  pub never : never_behind c (es ++ more) ≡ after_calls (never_behind c es) (asked (calls_from c (left c es) more))
  pub replies : replies_of (never_first c) (asked (calls c (es ++ more)))
      ≡ replies_of (never_first c) (asked (calls c es))
      ++ replies_of (never_behind c es) (asked (calls_from c (left c es) more))
  pub admitted : CallsAreAdmitted c (es ++ more)
      ↔ (CallsAreAdmitted c es × AreAdmitted c.globals (never_behind c es) (asked (calls_from c (left c es) more)))
  pub earlier : IsHistory c (es ++ more) → IsHistory c es

-- A bit is in what is left of a word without another exactly if the word has it and the other hasn't.
abbrev pub BitsWithout : Type 0
BitsWithout = (word other k : ℕ) → has_bit (without word other) k ≡ (has_bit word k && not (has_bit other k))

-- What is large to the heap that never reuses storage isn't small here.
abbrev pub LargeIsNotSmall : Type 0
LargeIsNotSmall = (kinds : List Kind) → is_large kinds ≡ not (is_small_object (object_of kinds))

-- Register q leads to a word of an allocation, and the answer is 1 exactly if the values of that word and of register p
-- are equal.
pub record ComparesValues (c : Config) (es : List Event) (k q i p : ℕ) : Type 0 where
  pub number : ℕ
  pub place : ℕ
  pub target : target_of (never_behind c es) (register_at (never_behind c es) k q) i ≡ WordOf number place
  pub answered : (answer_decided c (left c es).now (record { seat = Caller k; step = Step.Cas })
      ≡ Some (Answer.Num 1))
      ↔ (word_at (never_behind c es) number place ≡ register_at (never_behind c es) k p)

-- Each `cas` of the list does so, in the state that the calls before it leave.
abbrev pub ExchangesCompareValues : Config → List Event → Type 0
ExchangesCompareValues c es =
    (before behind : List Event) (k q i p r : ℕ) → es ≡ before ++ record { seat = Caller k; step = Step.Cas } ∷ behind
    → (flight_of (left c before).now (Caller k)).op ≡ Op.CasPtr q i p r
    → ComparesValues c before k q i p

-- What the event is after the one list, it is after the other.
pub record IsStillTheSame (c : Config) (es fs : List Event) (e : Event) : Type 0 where
  pub word : word_accessed c (left c fs).now e ≡ word_accessed c (left c es).now e
  pub of_the_table : IsOfTable c.pages (word_accessed c (left c es).now e)
  pub access : access c (left c fs).now e ≡ access c (left c es).now e
  pub decides : e.step ≡ Step.Probe
      → is_some (answer_decided c (left c fs).now e) ≡ is_some (answer_decided c (left c es).now e)

-- An event that makes a history of the shorter list makes one of the longer one, whose further events are of other
-- seats.
pub record IsStillAHistory (c : Config) (es more : List Event) (e : Event) : Type 0 where
  pub history : IsHistory c (es ++ more ++ e ∷ [])
  pub same : IsStillTheSame c es (es ++ more) e
  pub tidy : IsTidy c (es ++ e ∷ []) → IsTidy c (es ++ more) → IsTidy c (es ++ more ++ e ∷ [])

-- An event that may come after what its seat has seen may come after a longer history of others too.
abbrev pub LongerListsGoOn : Type 0
LongerListsGoOn =
    (c : Config) (es more : List Event) (e : Event) → IsHistory c (es ++ e ∷ []) → IsHistory c (es ++ more)
    → AreOfOthers (e.seat ∷ []) more
    → IsStillAHistory c es more e
