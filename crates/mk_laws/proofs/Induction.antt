-- What holds before any event and is kept by one event of a history holds of every history.
use Rattle.mk_laws.proofs.Vocabulary.{AreEnabledFrom, AreOfOthers, Config, Event, IsHistory, List, OfHistories, Seat}
use Rattle.mk_laws.proofs.Vocabulary.{append-nil, append_assoc, earlier_part_is_history, enabled_in_parts}
use Rattle.mk_laws.proofs.Vocabulary.{enabled_meets, false, is_one_of, left, subst, sym, [], ◌++◌, ◌∷◌, ◌≡◌}
use Rattle.mk_laws.proofs.Actors.{Meets}

-- What holds along a history that goes on by events of others, from what one such event keeps.

pub along_others : (c : Config) (seats : List Seat) (R : List Event → List Event → Type 0)
    → ((es : List Event) → R es es) → ((es fs gs : List Event) → R es fs → R fs gs → R es gs)
    → ((es : List Event) (e : Event) → IsHistory c (es ++ e ∷ []) → is_one_of seats e.seat ≡ false
    → R es (es ++ e ∷ []))
    → (es more : List Event) → IsHistory c (es ++ more) → AreOfOthers seats more → R es (es ++ more)
unfolding AreOfOthers
along_others c seats R same join one es [] h others = rw (append-nil es) (same es)
along_others c seats R same join one es (e ∷ more) h others =
    let split : es ++ e ∷ more ≡ (es ++ e ∷ []) ++ more = sym (append_assoc es (e ∷ []) more) in
    let parts : IsHistory c ((es ++ e ∷ []) ++ more) = rw split at h in
    let first = earlier_part_is_history c (es ++ e ∷ []) more parts in
    rw split
    (join es (es ++ e ∷ []) ((es ++ e ∷ []) ++ more) (one es e first others.0) (along_others c seats R same join one
    (es ++ e ∷ []) more parts others.1))

-- The events before one of a history are a history, after which it meets the conditions.
pub before_it : (c : Config) (es before : List Event) (e : Event) (behind : List Event) → IsHistory c es
    → es ≡ before ++ e ∷ behind → IsHistory c before × Meets c (left c before).now e.seat e.step
unfolding AreEnabledFrom
before_it c es before e behind h is =
    let parts : IsHistory c (before ++ e ∷ behind) = subst (IsHistory c) is h in
    let on = ((enabled_in_parts c before (e ∷ behind)).0 parts.enabled).1.0 in
    (earlier_part_is_history c before (e ∷ behind) parts, enabled_meets c _ e on)

-- One event of a history keeps the claim.
abbrev pub KeptByEvents : (Config → List Event → Type 0) → Type 0
KeptByEvents claim =
    (c : Config) (es : List Event) (e : Event) → IsHistory c (es ++ e ∷ []) → claim c es → claim c (es ++ e ∷ [])

module _ (claim : Config → List Event → Type 0) (first : (c : Config) → claim c []) (kept : KeptByEvents claim) where
  -- The list is in two parts: the events that are done, and those that come.
  along : (c : Config) (done es : List Event) → IsHistory c (done ++ es) → claim c done → claim c (done ++ es)
  along c done [] h all = subst (claim c) (sym (append-nil done)) all
  along c done (e ∷ es) h all =
      let split : done ++ e ∷ es ≡ (done ++ e ∷ []) ++ es = sym (append_assoc done (e ∷ []) es) in
      let parts : IsHistory c ((done ++ e ∷ []) ++ es) = subst (IsHistory c) split h in
      let next = kept c done e (earlier_part_is_history c (done ++ e ∷ []) es parts) all in
      subst (claim c) (sym split) (along c (done ++ e ∷ []) es parts next)

  pub holds_of_histories : OfHistories claim
  holds_of_histories c es h = along c [] es h (first c)
