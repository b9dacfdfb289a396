-- The gates are opened after a `release`.
use Rattle.mk_words.proofs.Below.Laws.Vocabulary.{Bool, Config, Event, IsHistory, List, Seat, Step, Words, World, ℕ}
use Rattle.mk_words.proofs.Below.Laws.Vocabulary.{all_below-at, and_from, ap, append-nil, append_assoc, arith}
use Rattle.mk_words.proofs.Below.Laws.Vocabulary.{earlier_part_is_history, false, inl, inr, is_held, is_number_of}
use Rattle.mk_words.proofs.Below.Laws.Vocabulary.{is_one_of, lt-ltb, not, others_are_held, refl, slice_index, subst}
use Rattle.mk_words.proofs.Below.Laws.Vocabulary.{sym, true, [], ◌++◌, ◌==◌, ◌||◌, ◌∙◌, ◌∷◌, ◌≡◌}
use Rattle.mk_words.proofs.Below.Laws.{Actors.is_holders, FramesHolders.acts_as_holder}
use Rattle.mk_words.proofs.Below.Laws.{Known.holds_turn, LastEvents.comes_last}
use Rattle.mk_words.proofs.Below.Laws.{Orderly.same_holder, OrderlyLists.actor_of}
use Rattle.mk_words.proofs.Below.Laws.{ProtocolFrames.others_leave, Views.view_of}
use Rattle.mk_words.specs.Steps.{Does}
use Rattle.mk_cycle.proofs.Vocabulary.{GivesNothingBack, IsAtPhase, IsFreeForCycle, IsTurn, Makes, PassState}
use Rattle.mk_cycle.proofs.Vocabulary.{does_nothing, does_step, does_then, event_of, now_of, stands, world_at}
use Rattle.mk_cycle.proofs.FreeingSteps.{freed_free, freed_phase, frees_step, open_gives, others_do, others_free}
use Rattle.mk_cycle.proofs.{GivingSteps.{none_at_once, none_then, state_there}, Allowed.protocol, MayAct.may_act}
use Rattle.mk_core.specs.{History.AreOfOthers, Words.page_of}
use Rattle.mk_words.proofs.{Seats.others_own, TurnSteps.{acts, still_turn}}
use Rattle.mk_words.specs.Steps.{OnlyOpen, Opens, OthersMayOpen, is_open}

open_is_holders : (x : Step) → is_open x ≡ true → is_holders x ≡ true
open_is_holders x0 h = grind arith

-- Only the turn's holder opens a gate.
opens_itself : {p : PassState} (e : Event) → IsTurn p → IsHistory p.table.config (p.seen ++ e ∷ [])
    → is_open e.step ≡ true → e.seat ≡ p.seat
opens_itself {p} e t h is =
    let c : Config = p.table.config in
    let last = comes_last c p.seen e h in
    let orderly = (stands c p.seen t.history).known.now.orderly in
    same_holder c (view_of (now_of p)) e.seat p.seat orderly
    (acts_as_holder c (now_of p) e.seat e.step (actor_of c (now_of p) e.seat e.step orderly last.meets)
    (open_is_holders e.step is)) (holds_turn c (now_of p) p.seat orderly t.holds)

-- gates are opened, and nothing is given back
pub record OpensOnly (p q : PassState) : Type 0 where
  pub does : Does is_open p q
  pub none : GivesNothingBack p q

-- one event further
record Further (p q : PassState) : Type 0 where
  only : OpensOnly p q
  turn : IsTurn q

behind : PassState → List Event → PassState
behind p es = record p { seen = p.seen ++ es }

record LeavesAll (p q : PassState) : Type 0 where
  none : GivesNothingBack p q
  turn : IsTurn q

another_leaves : {p : PassState} (e : Event) → IsTurn p → IsAtPhase p 4
    → IsHistory p.table.config (p.seen ++ e ∷ []) → is_one_of p.seats e.seat ≡ false → LeavesAll p (behind p (e ∷ []))
unfolding behind AreOfOthers
another_leaves e t at h other =
    grind (arith, earlier_part_is_history, others_leave, others_own, others_free, state_there)

by_another : {p : PassState} (e : Event) → IsTurn p → IsAtPhase p 4 → IsHistory p.table.config (p.seen ++ e ∷ [])
    → is_one_of p.seats e.seat ≡ false → Further p (behind p (e ∷ []))
unfolding behind AreOfOthers
by_another e t at h other =
    let x = another_leaves e t at h other in
    record { only = record { does = others_do is_open (e ∷ []) t (other, tt); none = x.none }; turn = x.turn }

by_itself : {p : PassState} (j : ℕ) → IsTurn p → IsFreeForCycle p → IsAtPhase p 4 → IsHistory p.table.config
    (p.seen ++ event_of p (Step.Open j) ∷ []) → Further p (behind p (event_of p (Step.Open j) ∷ []))
unfolding behind AreOfOthers
by_itself {p} j t free at h =
    let q : PassState = record p { seen = p.seen ++ event_of p (Step.Open j) ∷ [] } in
    let makes : Makes p (Step.Open j) q =
    record {
      others = [];
      of_others = tt;
      is = ap (λ (es : List Event). record p { seen = es ++ event_of p (Step.Open j) ∷ [] }) (sym (append-nil p.seen));
      pass = record { own = t.own; history = h };
    } in
    let a = acts p (Step.Open j) q makes t.holds in
    let next : IsTurn q = still_turn p (Step.Open j) q makes refl t in
    record {
      only = record {
        does = does_step is_open p q (Step.Open j) makes refl;
        none = record {
          frees = frees_step a t next refl refl free at (open_gives p.table.config (world_at a.makes) p.seat j);
          same = λ r. ap (λ (w : World). record {
            page = page_of w.now.words r;
            freed = slice_index w.now.words.freed r;
            snapshot = slice_index w.now.words.snapshot r;
          }) a.world ∙ state_there _ _ a.turn.steady r;
        };
      };
      turn = next;
    }

opens_one : {p : PassState} (e : Event) → IsTurn p → IsFreeForCycle p → IsAtPhase p 4
    → IsHistory p.table.config (p.seen ++ e ∷ []) → is_open e.step ≡ true → Further p (behind p (e ∷ []))
opens_one {p} e t free at h is = by e.step refl is (opens_itself e t h is)
  where
    by : (x : Step) → e.step ≡ x → is_open x ≡ true → e.seat ≡ p.seat → Further p (behind p (e ∷ []))
    by (Step.Open j) at_step kind same =
        let it : event_of p (Step.Open j) ≡ e = ap (λ (s : Seat). record { seat = s; step = Step.Open j }) (sym same)
        ∙ ap (λ (x : Step). record { seat = e.seat; step = x }) (sym at_step) in
        subst (λ (f : Event). Further p (behind p (f ∷ []))) it
        (by_itself j t free at (subst (λ (f : Event). IsHistory p.table.config (p.seen ++ f ∷ [])) (sym it) h))
    by _ at_step kind same = cc

opens_all : (more : List Event) (p : PassState) → IsTurn p → IsFreeForCycle p → IsAtPhase p 4 → OnlyOpen p.seats more
    → IsHistory p.table.config (p.seen ++ more) → OpensOnly p (behind p more)
unfolding behind OnlyOpen
opens_all [] p t free at only h =
    subst (λ (es : List Event). OpensOnly p (record p { seen = es })) (sym (append-nil p.seen))
    (record { does = does_nothing is_open p; none = none_at_once p })
opens_all (e ∷ es) p t free at only h =
    let c : Config = p.table.config in
    let split : (p.seen ++ e ∷ []) ++ es ≡ p.seen ++ e ∷ es = append_assoc p.seen (e ∷ []) es in
    let whole : IsHistory c ((p.seen ++ e ∷ []) ++ es) = subst (λ (xs : List Event). IsHistory c xs) (sym split) h in
    let first : IsHistory c (p.seen ++ e ∷ []) = earlier_part_is_history c (p.seen ++ e ∷ []) es whole in
    let one : Further p (record p { seen = p.seen ++ e ∷ [] }) = elim only.0 [
      | inl other ↦ by_another e t at first other
      | inr opens ↦ opens_one e t free at first opens
    ] in
    let rest = opens_all es (record p { seen = p.seen ++ e ∷ [] }) one.turn
    (freed_free one.only.none.frees free) (freed_phase one.only.none.frees at) only.1 whole in
    subst (λ (xs : List Event). OpensOnly p (record p { seen = xs })) split (record {
      does = does_then is_open _ _ _ one.only.does rest.does;
      none = none_then one.only.none rest.none;
    })

pub opens_frees : {p q : PassState} → IsTurn p → IsFreeForCycle p → IsAtPhase p 4 → Opens p q
    → IsHistory q.table.config q.seen → OpensOnly p q
unfolding behind
opens_frees t free at o h = grind (arith, opens_all)

-- While all is stopped and the run that the call freed is gone, each gate may be opened.
pub others_may_open : {p : PassState} → IsTurn p → IsFreeForCycle p → IsAtPhase p 4
    → others_are_held p.table.config.callers (now_of p).words p.seat ≡ true → OthersMayOpen p 0
others_may_open {p} t free at held j le lt other =
    let w : Words = (now_of p).words in
    let all = all_below-at p.table.config.callers j (λ i. is_number_of p.seat i || is_held w i) held lt in
    may_act p (Step.Open j) (protocol p t free) t.holds free.decided refl (and_from _ (not _) (lt-ltb j _ lt)
    (ap not other)) (sym (ap (λ (b : Bool). b || is_held w j) other) ∙ all) (ap (λ (n : ℕ). not (n == 3)) at) free.gone
