-- What a caller was served, with one event more.
use Rattle.mk_replay.proofs.Vocabulary.{Answer, AreEnabled, Caller, Config, Event, answer_decided, answers_given}
use Rattle.mk_replay.proofs.Vocabulary.{ends_call, is_same_seat, left, served_to}
use Rattle.mk_laws.proofs.Vocabulary.{Bool, List, None, Option, ℕ, append-nil, arith, if◌then◌else◌, refl, [], ◌++◌}
use Rattle.mk_laws.proofs.Vocabulary.{◌∷◌, ◌≡◌}
use Rattle.mk_core.specs.History.{calls_from}
use Rattle.mk_check.proofs.GivenAnswers.{given_by, given_more, waiting_by, waiting_more}
use Rattle.mk_check.specs.Feed.{answer_waiting}
use Rattle.mk_replay.specs.Replays.{Served, served_behind, served_by}

both_by : (b b' : Bool) (decided : Option Answer) (xs answers : List Answer) (was kept : Option Answer)
    → answers ≡ xs ++ given_by b b' decided was → kept ≡ waiting_by b b' decided was
    → ◌≡◌ {A = Served} (record { answers = answers; kept = kept })
    (if b then served_behind b' decided (record { answers = xs; kept = was }) else record { answers = xs; kept = was })
both_by x0 b' decided xs answers was kept h i = grind (arith, append-nil)

pub served_more : (c : Config) (es : List Event) (k : ℕ) (e : Event) → AreEnabled c (es ++ e ∷ [])
    → served_to c (es ++ e ∷ []) k ≡ served_by k e (answer_decided c (left c es).now e) (served_to c es k)
served_more c es k e h =
    both_by (is_same_seat (Caller k) e.seat) (ends_call e.step) (answer_decided c (left c es).now e)
    (answers_given c es k) _ (answer_waiting c es k) _ (given_more c es e k h) (waiting_more c es e k h)

pub served_first : (c : Config) (k : ℕ) → ◌≡◌ {A = Served} (served_to c [] k) (record { answers = []; kept = None })
unfolding calls_from
served_first c k = refl
