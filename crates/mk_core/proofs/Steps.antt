-- What a step says of the histories for which the core stood.
use Rattle.std.proofs.Common.{Err, IfOk, IsOk, MatchResult, Ok, OnOk, Result}
use Rattle.mk_core.proofs.Vocabulary.{Answer, AreEnabledFrom, Config, CoreState, Event, IsEnabled, List, Option, ap}
use Rattle.mk_core.proofs.Vocabulary.{arith, calls, failing, first_moment, first_world, flight_of, left, left_from}
use Rattle.mk_core.proofs.Vocabulary.{refl, subst, sym, [], ◌++◌, ◌↔◌, ◌∙◌, ◌∷◌, ◌≡◌, ◌≤◌}
use Rattle.mk_never.specs.declared.never_heap.NoMemory.{NoMemory}
use Rattle.mk_core.proofs.Histories.{calls_more, enabled_more, last_enabled, left_more}
use Rattle.mk_core.specs.{Accesses.caller_number, Calls.entry_of, Effects.{answer_decided, moment_behind}}
use Rattle.mk_core.specs.{History.{AreEnabled, CoreStandsFor}, declared.events.NotEnabled.NotEnabled}

abbrev Tells : CoreState → Event → Result (Option Answer) NotEnabled → Type 0
Tells core e r = MatchResult r (λ _. IsEnabled core.config core.now e)
    (λ x. (failing core.config core.now e ≡ x.condition) × (1 ≤ x.condition))

pub exact_of : {core : CoreState} {es : List Event} (e : Event) (r : Result (Option Answer) NotEnabled)
    → CoreStandsFor core es → Tells core e r → (IsOk r ↔ AreEnabled core.config (es ++ e ∷ []))
exact_of e (Ok a) st t = grind (arith, enabled_more)
exact_of e (Err x) st t = grind (arith, last_enabled)

pub answer_of : {core : CoreState} {es : List Event} (e : Event) (r : Result (Option Answer) NotEnabled) → CoreStandsFor
    core es → IfOk r (λ a. a ≡ answer_decided core.config core.now e) → IfOk r (λ a. calls core.config (es ++ e ∷ [])
    ≡ calls core.config es ++ entry_of (caller_number e.seat) (flight_of (left core.config es).now e.seat).op a)
answer_of {core} {es} e (Ok a) st h = cc (calls_more core.config (first_world core.config) es e, h, st.now)
answer_of e (Err x) st h = tt

pub stands_of : {core : CoreState} (new : CoreState) {es : List Event} (e : Event)
    (r : Result (Option Answer) NotEnabled)
    → CoreStandsFor core es → Tells core e r
    → OnOk r (new ≡ record { config = core.config; now = moment_behind core.config core.now e })
    → OnOk r (CoreStandsFor new (es ++ e ∷ []))
stands_of {core} new {es = es} e (Ok a) st t h = subst (λ (x : CoreState). CoreStandsFor x (es ++ e ∷ [])) (sym h)
    (record {
      enabled = (exact_of e (Ok a) st t).0 refl;
      now = cc (st.now, left_more core.config (first_world core.config) es e);
    })
stands_of new e (Err x) st t h = tt

stands_at_start : (core : CoreState) → core.now ≡ first_moment core.config → CoreStandsFor core []
unfolding left_from AreEnabledFrom
stands_at_start core e = record { enabled = tt; now = e }

pub stands_if_ok : (k : Config) (r : Result CoreState NoMemory)
    → IfOk r (λ core. (core.config ≡ k) × (core.now ≡ first_moment k)) → IfOk r (λ core. CoreStandsFor core [])
stands_if_ok k (Ok core) h = stands_at_start core (h.1 ∙ ap (λ c. first_moment c) (sym h.0))
stands_if_ok k (Err e) h = tt
