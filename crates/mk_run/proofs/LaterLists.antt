-- What a script has done stands where the list goes on by events of others than its caller.
use Rattle.std.proofs.Common.{count_by}
use Rattle.mk_heap.proofs.Below.Laws.Vocabulary.{Answer, Bool, Caller, Config, Event, List, Seat, ℕ, ap, calls, length}
use Rattle.mk_heap.proofs.Below.Laws.Vocabulary.{sym, []}
use Rattle.mk_heap.proofs.Below.Laws.Vocabulary.{◌∙◌, ◌∷◌, ◌≡◌}
use Rattle.mk_run.proofs.Vocabulary.{EndsScript, FollowsScript, Grows, Has, IsTextOf, Item, Text, answers_in, calls_by}
use Rattle.mk_run.proofs.{Vocabulary.{feed, has_first, is_refusal, others_own}, ScriptCalls.{same_answers, still_noted}}
use Rattle.mk_heap.proofs.{Below.Objects.ExactTurns.stay_exact_behind_others, Below.Callers.OwnSteps.others_add_none}
use Rattle.mk_check.specs.Feed.{has_ended}

-- a list that goes on by events of none of these seats goes on by none of one of them
pub of_one : {seats : List Seat} (s : Seat) {es fs : List Event} → Has seats s → Grows seats es fs
    → Grows (s ∷ []) es fs
of_one {seats} s has g = record { more = g.more; is = g.is; of_others = others_own seats s g.more has g.of_others }

module _ (program : List Item) {k : ℕ} (c : Config) {es fs : List Event} (g : Grows (Caller k ∷ []) es fs) where
  same_calls : calls_by k (calls c fs) ≡ calls_by k (calls c es)
  same_calls = ap (λ (l : List Event). calls_by k (calls c l)) g.is ∙ others_add_none c k es g.more g.of_others

  answers_stay : answers_in c k fs ≡ answers_in c k es
  answers_stay = same_answers k (calls c es) (calls c fs) same_calls

  pub still_follows : {on : Bool} → FollowsScript on program k c es → FollowsScript on program k c fs
  still_follows {on} h = record {
    noted = still_noted program k (calls c es) (calls c fs) same_calls h.noted;
    exact = stay_exact_behind_others on c (Caller k) (Caller k ∷ []) es fs (has_first (Caller k) []) g h.exact;
  }

  pub still_ends : EndsScript program k c es → EndsScript program k c fs
  still_ends h = ap (λ (answers : List Answer). has_ended (feed program k answers)) answers_stay ∙ h

  pub still_text : {text : Text} → IsTextOf program k c es text → IsTextOf program k c fs text
  still_text h = record {
    bytes = h.bytes ∙ ap (λ (answers : List Answer). (feed program k answers).text) (sym answers_stay);
    ops = h.ops ∙ ap (λ (answers : List Answer). length answers) (sym answers_stay);
    refused = h.refused ∙ ap (λ (answers : List Answer). count_by is_refusal answers) (sym answers_stay);
  }
