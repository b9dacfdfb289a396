use Rattle.mk_heap.proofs.Alone.{MadeNew, admits, admits_now, answers_are, exists, made_first, made_new, made_one}
use Rattle.mk_heap.proofs.{Alone.may_take, ClientSteps.one_is_joined, Dispatched.then_seen}
use Rattle.mk_heap.proofs.Below.Laws.Vocabulary.{arith, ap, refl, subst, sym, false, [], ◌∙◌, ◌∷◌, ◌≡◌}
use Rattle.mk_heap.specs.{Below.Words.States.PassState, Hosts.HostState}
use Rattle.mk_hello.proofs.hello.Goals.{After-finish, After-new_object-made}
use Rattle.mk_hello.proofs.Loads.{config_is, free_adds, hello_config, is_loaded, is_told, may_free, may_load, may_store}
use Rattle.mk_hello.proofs.Loads.{new_adds}
use Rattle.mk_hello.proofs.hello.Goals as goal

-- the caller after its New
is_made : (g : _) (c : After-new_object-made g) → MadeNew hello_config c.new_object-made.new.caller.pass 0 0
is_made g c =
    let new = c.new_object-made in
    made_new _ new.result
    (made_first c.caller-caller.result c.in_ok-heap.ensures.host (c.in_ok-heap.ensures.config ∙ config_is
    (grind (arith, c.add.ensures, c.new-types.ensures, c.in_ok-vec.ensures, c.vec.ensures)) c.new.ensures)
    c.caller-caller.ensures.caller) new.ensures.made new.ensures.full

pub answer_when_open-stored-requires-clause-admitted : goal.answer_when_open-stored-requires-clause-admitted
answer_when_open-stored-requires-clause-admitted g c =
    let n = is_made g (goal.at.answer_when_open-stored-requires-clause-admitted g c).After-new_object-made in
    admits {c = hello_config} refl (may_store n.answer) n.made

pub answer_when_open-loaded-requires-clause-exists : goal.answer_when_open-loaded-requires-clause-exists
answer_when_open-loaded-requires-clause-exists g c =
    let n = is_made g (goal.at.answer_when_open-loaded-requires-clause-exists g c).After-new_object-made in
    exists {c = hello_config} refl (made_one n.made (c.answer_when_open-stored.ensures.answers false))

pub answer_when_open-loaded-requires-clause-admitted : goal.answer_when_open-loaded-requires-clause-admitted
answer_when_open-loaded-requires-clause-admitted g c =
    let n = is_made g (goal.at.answer_when_open-loaded-requires-clause-admitted g c).After-new_object-made in
    let stored = c.answer_when_open-stored.ensures.answers false in
    admits {c = hello_config} refl (may_load n.answer stored.answer) (made_one n.made stored)

pub free_object-freed-requires-clause-may : goal.free_object-freed-requires-clause-may
free_object-freed-requires-clause-may g c κs within =
    let n = is_made g (goal.at.free_object-freed-requires-clause-may g c).After-new_object-made in
    let loaded = c.answer_when_open-loaded in
    may_take {c = hello_config} loaded.new.caller refl
    (made_one (made_one n.made (c.answer_when_open-stored.ensures.answers false)) (loaded.ensures.answers false))
    loaded.ensures.home (c.new_object-made.ensures.made_for ∙ c.in_ok-engine.ensures)

pub free_object-freed-requires-clause-base : goal.free_object-freed-requires-clause-base
free_object-freed-requires-clause-base g c κs within =
    let n = is_made g (goal.at.free_object-freed-requires-clause-base g c).After-new_object-made in
    let stored = c.answer_when_open-stored.ensures.answers false in
    let loaded = c.answer_when_open-loaded in
    let answers = loaded.ensures.answers false in
    (admits_now {c = hello_config} refl (may_free n.answer stored.answer answers.answer)
    (made_one (made_one n.made stored) answers) (loaded.new.caller.in_order loaded.ensures.home).pass.history).store

-- the caller's pass at the end
is_kept : (g : _) (c : After-finish g)
    → c.finish.result ≡ record c.caller-caller.result.pass { seen = c.finish.result.seen }
is_kept g c =
    let new = c.new_object-made in
    let freed = c.free_object-freed in
    let first = c.caller-caller.result.pass in
    let made = new_adds _ first _ new.result new.ensures.made new.ensures.full in
    let after = c.answer_when_open-stored in
    let stored = then_seen first new.new.caller.pass after.new.caller.pass made (after.ensures.answers false).is in
    let last = c.answer_when_open-loaded in
    let loaded = then_seen first after.new.caller.pass last.new.caller.pass stored
    (last.ensures.answers false).is in
    let all = then_seen first last.new.caller.pass freed.new.caller.pass loaded
    (free_adds _ last.new.caller.pass 0 freed.result freed.ensures.freed freed.ensures.double) in
    subst (λ (p : PassState). p ≡ record first { seen = p.seen }) (sym c.finish.ensures.pass) all

pub join_caller-requires-clause-of_table : goal.join_caller-requires-clause-of_table
join_caller-requires-clause-of_table g c =
    ap (λ (p : PassState). p.table) (is_kept g (goal.at.join_caller-requires-clause-of_table g c).After-finish)
    ∙ ap (λ (p : PassState). p.table) c.caller-caller.ensures.caller.pass
    ∙ ap (λ (h : HostState). h.pass.table) c.in_ok-heap.ensures.host

pub join_caller-requires-clause-alone : goal.join_caller-requires-clause-alone
join_caller-requires-clause-alone g c =
    subst (λ (p : PassState). p.seats ≡ p.seat ∷ [])
    (sym (is_kept g (goal.at.join_caller-requires-clause-alone g c).After-finish))
    (subst (λ (p : PassState). p.seats ≡ p.seat ∷ []) (sym c.caller-caller.ensures.caller.pass) refl)

pub close-requires-clause-joined : goal.close-requires-clause-joined
close-requires-clause-joined g c =
    let joined = c.join_caller.new.self in
    let seats = ap (λ (p : PassState). p.seats)
    (is_kept g (goal.at.close-requires-clause-joined g c).After-finish)
    ∙ ap (λ (p : PassState). p.seats) c.caller-caller.ensures.caller.pass in
    one_is_joined _ c.in_ok-heap.host c.caller-caller.new.self c.caller-caller.new.self joined joined c.finish.result
    joined.pass.seen joined.pass.seen c.in_ok-heap.ensures.host c.caller-caller.ensures.host refl seats
    c.join_caller.ensures.host refl

pub returns : goal.returns
returns g c =
    let n = is_made g (goal.at.returns g c).After-new_object-made in
    let stored = c.answer_when_open-stored.ensures.answers false in
    let loaded = c.answer_when_open-loaded in
    let answers = loaded.ensures.answers false in
    let are = answers_are (made_one (made_one n.made stored) answers) refl
    (loaded.new.caller.in_order loaded.ensures.home).pass.history in
    is_told loaded.result answers.answer answers.is_told
    (is_loaded n.answer stored.answer answers.answer are.0 are.1)
