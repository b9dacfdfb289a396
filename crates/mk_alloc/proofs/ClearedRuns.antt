-- A run is unmapped and wiped, and then the gates are opened.
use Rattle.mk_caller.proofs.Below.Laws.Vocabulary.{Config, Event, Holding, IsHistory, List, None, Option, RunPages}
use Rattle.mk_caller.proofs.Below.Laws.Vocabulary.{Seat, Some, Steady, Step, World, ℕ, ap, arith, is_held, is_number_of}
use Rattle.mk_caller.proofs.Below.Laws.Vocabulary.{is_run_gone, left, others_are_held, refl, subst, sym, true}
use Rattle.mk_caller.proofs.Below.Laws.Vocabulary.{world_behind, [], ◌++◌, ◌<◌, ◌||◌, ◌∙◌, ◌∷◌, ◌≡◌}
use Rattle.mk_caller.proofs.Below.Laws.{LastEvents.{ComesLast, comes_last, stands}, RunWords.gone_behind}
use Rattle.mk_caller.proofs.Below.Laws.RunsStill.{holder_finds}
use Rattle.mk_alloc.proofs.ObjectVocabulary.{Does, IsTurn, PassState, RunIsUnmapped, RunIsWiped, SetsGates, Unmaps}
use Rattle.mk_alloc.proofs.ObjectVocabulary.{Wipes, all_below_from, all_others, is_following, is_settling, now_of}
use Rattle.mk_alloc.proofs.{ObjectVocabulary.world_of, DecidedFrees.{Stays, gates_stay, stays_then, unmaps_stay}}
use Rattle.mk_alloc.proofs.{DecidedFrees.wipes_stay, FreedOnce.{Another, KeptInTurn, Own, along_turn}}
use Rattle.mk_alloc.{proofs.JoinedLooks.{reached_world}, specs.{FreeParts.ClearsRun, FreeParts.no_gate}}
use Rattle.mk_core.specs.History.{AreOfOthers}

-- A run that the call has unmapped and wiped stays so, while gates are opened and tallies set.

abbrev pub IsGoneIn : World → Type 0
IsGoneIn w = is_run_gone w.now.words w.now.seats.holding.freed ≡ true

same_run : (c : Config) (w : World) (s : Seat) (x : Step) → is_settling x ≡ true
    → (world_behind c w (record { seat = s; step = x })).now.seats.holding.freed ≡ w.now.seats.holding.freed
same_run c w s x3 h = grind arith

gone_on : {c : Config} {es : List Event} {e : Event} → IsHistory c es → ComesLast c es e → is_settling e.step ≡ true
    → (freed : Option RunPages) → (left c es).now.seats.holding.freed ≡ freed → IsGoneIn (left c es)
    → is_run_gone (world_behind c (left c es) e).now.words freed ≡ true
gone_on h last kind None is gone = refl
gone_on {c} {es} {e} h last kind (Some run) is gone =
    let st = stands c es h in
    gone_behind c _ st.known st.all.order.laid run is gone _ _ last.meets (λ store. grind arith)

gone_kept : (c : Config) (s : Seat) → KeptInTurn c s is_settling (λ es. IsGoneIn (left c es))
unfolding AreOfOthers
gone_kept c s es e h holds (Own same kind) gone =
    let last = comes_last c es e h in
    subst (λ (w : World). IsGoneIn w) (sym last.leaves) (ap (λ (freed : Option RunPages). is_run_gone
    (world_behind c (left c es) e).now.words freed) (same_run c (left c es) e.seat e.step kind)
    ∙ gone_on last.before last kind (left c es).now.seats.holding.freed refl gone)
gone_kept c s es e h holds (Another other) gone =
    let found = holder_finds c s es (e ∷ []) h (other, tt) holds in
    ap (λ (y : Holding). is_run_gone (left c (es ++ e ∷ [])).now.words y.freed) found.holding ∙ found.gone gone

pub still_gone : {p q : PassState} → Does is_settling p q → IsTurn p → IsTurn q
    → IsGoneIn (left p.table.config p.seen) → IsGoneIn (left p.table.config q.seen)
still_gone {p} d turn behind gone =
    along_turn p is_settling (λ x kind. grind arith) (λ es. IsGoneIn (left p.table.config es)) (gone_kept _ _) d turn
    behind gone

-- Where the others' gates are held, all but the own one are.
pub stopped_by : (p : PassState)
    → ((j : ℕ) → j < p.table.config.callers → is_held (now_of p).words j ≡ all_others p.seat j)
    → others_are_held p.table.config.callers (now_of p).words p.seat ≡ true
stopped_by p held =
    all_below_from p.table.config.callers (λ j. is_number_of p.seat j || is_held (now_of p).words j)
    (λ j lt. ap (λ b. is_number_of p.seat j || b) (held j lt) ∙ (grind arith))

-- what each part leaves

pub unmapped_now : {p q : PassState} {run : RunPages} → Unmaps p run q
    → RunIsUnmapped p.seat run (world_of p) (world_of q)
unmapped_now a = reached_world a

wiped_now : {p q : PassState} {run : RunPages} → Wipes p run q → RunIsWiped p.seat run (world_of p) (world_of q)
wiped_now a = reached_world a

pub unmapped_held : {p q : PassState} {run : RunPages} → Unmaps p run q
    → ((j : ℕ) → j < p.table.config.callers → is_held (now_of p).words j ≡ all_others p.seat j)
    → (j : ℕ) → j < q.table.config.callers → is_held (now_of q).words j ≡ all_others q.seat j
unmapped_held a held = grind (arith, unmapped_now)

-- and all
pub clears : {p a b q : PassState} {run : RunPages} → Unmaps p run a → Wipes a run b → SetsGates is_settling b no_gate q
    → is_run_gone (now_of q).words (now_of q).seats.holding.freed ≡ true → ClearsRun p q
clears {p} {b} {q} unmaps wipes opens gone =
    let one = unmapped_now unmaps in
    let two = wiped_now wipes in
    let three = reached_world opens in
    let cleared : Stays is_following p b = stays_then (λ x h. h) (λ x h. h) (unmaps_stay unmaps) (wipes_stay wipes) in
    let table : b.table ≡ p.table = ap (λ (x : PassState). x.table) cleared.same in
    record {
      stays = stays_then (λ x h. grind arith) (λ x h. grind arith) cleared (gates_stay opens);
      held = ap (λ (x : Steady). x.held) three.but_gates.steady ∙ ap (λ (x : Steady). x.held) two.changes.steady
          ∙ ap (λ (x : Steady). x.held) one.changes.steady;
      fresh = ap (λ (x : Steady). x.fresh) three.but_gates.steady ∙ ap (λ (x : Steady). x.fresh) two.changes.steady
          ∙ ap (λ (x : Steady). x.fresh) one.changes.steady;
      gone = gone;
      gates = rw (← table) (λ j lt. three.held j lt);
    }
