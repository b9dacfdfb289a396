use Rattle.mk_heap.proofs.Below.Laws.Vocabulary.{Answer, Bool, Flight, None, Op, Some, Step, ℕ, and_from, ap, arith}
use Rattle.mk_heap.proofs.Below.Laws.Vocabulary.{begun}
use Rattle.mk_heap.proofs.Below.Laws.Vocabulary.{if◌then◌else◌, le-leb, lt-ltb, nat_le, nat_lt, ne_eqb, onward}
use Rattle.mk_heap.proofs.Below.Laws.Vocabulary.{page_met}
use Rattle.mk_heap.proofs.Below.Laws.Vocabulary.{progress_reg, refl, refused, subst, sym, true, ◌&&◌, ◌*◌, ◌+◌, ◌<◌}
use Rattle.mk_heap.proofs.Below.Laws.Vocabulary.{◌∙◌, ◌≡◌, ◌≢◌}
use Rattle.mk_geom.specs.Addresses.{heap_word_at}
use Rattle.mk_core.specs.{declared.seats.Stage.TheVariants.{Dirty, Leave, LoadP, Probe, Write}, Calls.value_written}
use Rattle.mk_core.specs.Effects.{progress_probe}
use Rattle.mk_heap.specs.Below.Words.{Steps.register_of, States.{PassState, WordsState}}
use Rattle.mk_clients.proofs.accesses.set_ptr.Goals.{After-reg_load-to, After-reg_load-value, After-write}
use Rattle.mk_clients.proofs.{accesses.set_ptr.Goals.{Else-is_unmapped, In_ok-enter}, CallFacts.{admitted_now, enters}}
use Rattle.mk_clients.proofs.CallFacts.{IsMidCall, goes_on, next_may}
use Rattle.mk_clients.proofs.accesses.set_ptr.Goals as goal

-- where the call is after each of its steps

abbrev at_load : Op → ℕ → Flight
at_load o to = record (begun o) { stage = LoadP; q = to }

abbrev at_probe : Op → ℕ → ℕ → Flight
at_probe o to value = record (at_load o to) { stage = Probe; p = value }

entered : (c : In_ok-enter) → let o =
    Op.SetPtr c.args.q c.args.i c.args.p in IsMidCall c.enter.new.self o (begun o)
entered c = grind (arith, enters)

-- the pointer that it goes through
own : (c : After-reg_load-to) → c.reg_load-to.result ≡ register_of c.args.pass.now c.args.q
own c = c.reg_load-to.ensures.own ∙ c.enter.ensures.registers c.args.q c.requires.to

found : (c : After-reg_load-to) → let o = Op.SetPtr c.args.q c.args.i c.args.p in IsMidCall c.enter.new.self o
    (begun o) → IsMidCall c.reg_load-to.new.self o (at_load o c.reg_load-to.result)
found c at =
    let o : Op = Op.SetPtr c.args.q c.args.i c.args.p in
    let n : ℕ = c.reg_load-to.result in
    let is = own c in
    let least = c.requires.points.least in
    let some : n ≢ 0 = λ z. omega arith in
    goes_on c.enter.new.self c.reg_load-to.new.self Step.Reg _ o (begun o) (at_load o n) at c.reg_load-to.ensures.goes
    (ap (λ (f : Flight). (progress_reg f f.stage n).flight) at.call ∙ ap (λ (b : Bool). (if b then refused
    (record (begun o) { q = n }) Answer.Null else onward (record (begun o) { q = n }) None).flight) (ne_eqb n 0 some))

loaded : (c : After-reg_load-value) → let o = Op.SetPtr c.args.q c.args.i c.args.p in
    IsMidCall c.reg_load-to.new.self o (at_load o c.reg_load-to.result)
    → IsMidCall c.reg_load-value.new.self o (at_probe o c.reg_load-to.result c.reg_load-value.result)
loaded c at =
    let o : Op = Op.SetPtr c.args.q c.args.i c.args.p in
    let n : ℕ = c.reg_load-to.result in
    let v : ℕ = c.reg_load-value.result in
    goes_on c.reg_load-to.new.self c.reg_load-value.new.self Step.Reg _ o (at_load o n) (at_probe o n v) at
    c.reg_load-value.ensures.goes (ap (λ (f : Flight). (progress_reg f f.stage v).flight) at.call)

probed : (c : Else-is_unmapped) → let o = Op.SetPtr c.args.q c.args.i c.args.p in
    let f = at_probe o c.reg_load-to.result c.reg_load-value.result in
    IsMidCall c.reg_load-value.new.self o f → IsMidCall c.probe-header.new.self o (record f { stage = Write })
probed c at =
    let o : Op = Op.SetPtr c.args.q c.args.i c.args.p in
    let before : Flight = at_probe o c.reg_load-to.result c.reg_load-value.result in
    goes_on c.reg_load-value.new.self c.probe-header.new.self Step.Probe _ o before (record before { stage = Write }) at
    c.probe-header.ensures.goes (ap (λ (f : Flight). (progress_probe f c.probe-header.result).flight) at.call
    ∙ ap (λ (x : Bool). (if x then refused before Answer.Fault else onward before None).flight)
    (sym c.is_unmapped.ensures ∙ c.if-is_unmapped.false))

written : (c : After-write) → let o = Op.SetPtr c.args.q c.args.i c.args.p in let f = at_probe o c.reg_load-to.result
    c.reg_load-value.result in IsMidCall c.probe-header.new.self o (record f { stage = Write })
    → IsMidCall c.write.new.self o (record f { stage = Dirty })
written c at =
    let o : Op = Op.SetPtr c.args.q c.args.i c.args.p in
    let f : Flight = at_probe o c.reg_load-to.result c.reg_load-value.result in
    goes_on c.probe-header.new.self c.write.new.self Step.Write _ o (record f { stage = Write }) (record f
    { stage = Dirty }) at c.write.ensures.goes (ap (λ (f : Flight). (onward f (Some Answer.Done)).flight) at.call)

-- the word that it accesses is in the heap
met : (c : Else-is_unmapped) (t : WordsState) → c.reg_load-to.result ≡ register_of c.args.pass.now c.args.q
    → t ≡ c.args.pass.now.table → nat_le 65536 c.reg_load-to.result
    && nat_lt (heap_word_at c.reg_load-to.result + c.args.i) (64 * t.config.pages) ≡ true
met c t is same =
    let n : ℕ = c.reg_load-to.result in
    let least = c.requires.points.least in
    and_from _ _ (le-leb 65536 n (omega arith)) (lt-ltb _ (64 * t.config.pages)
    (subst (λ (x : WordsState). heap_word_at n + c.args.i < 64 * x.config.pages) (sym same) (subst
    (λ (x : ℕ). heap_word_at x + c.args.i < 64 * c.args.pass.now.table.config.pages) (sym is) c.requires.points.word)))

probed_table : (c : Else-is_unmapped) → c.probe-header.new.self.table ≡ c.args.pass.now.table
probed_table c =
    let table = λ (r : PassState). r.table in
    ap table c.probe-header.ensures.goes.makes.is ∙ ap table c.reg_load-value.ensures.goes.makes.is
    ∙ ap table c.reg_load-to.ensures.goes.makes.is ∙ ap table c.in_ok-enter.ensures.goes.makes.is

pub reg_load-to-requires-clause-admitted : goal.reg_load-to-requires-clause-admitted
reg_load-to-requires-clause-admitted c =
    let x = goal.at.reg_load-to-requires-clause-admitted c in
    admitted_now _ _ _ Step.Reg (entered x.In_ok-enter) refl c.in_ok-enter.ensures.goes.makes.pass.history (λ x. refl)

pub reg_load-value-requires-clause-admitted : goal.reg_load-value-requires-clause-admitted
reg_load-value-requires-clause-admitted c =
    let x = goal.at.reg_load-value-requires-clause-admitted c in
    let at = found x.After-reg_load-to (entered x.In_ok-enter) in
    admitted_now _ _ _ Step.Reg at refl c.reg_load-to.ensures.goes.makes.pass.history (λ x. refl)

pub probe-header-requires-clause-admitted : goal.probe-header-requires-clause-admitted
probe-header-requires-clause-admitted c =
    let x = goal.at.probe-header-requires-clause-admitted c in
    let at = loaded x.After-reg_load-value (found x.After-reg_load-to (entered x.In_ok-enter)) in
    admitted_now _ _ _ Step.Probe at refl c.reg_load-value.ensures.goes.makes.pass.history (λ x. refl)

pub write-requires-clause-enabled : goal.write-requires-clause-enabled
write-requires-clause-enabled c =
    let x = goal.at.write-requires-clause-enabled c in
    let at = probed x.Else-is_unmapped
    (loaded x.After-reg_load-value (found x.After-reg_load-to (entered x.In_ok-enter))) in
    next_may _ _ _ Step.Write at refl refl (λ _. met x.Else-is_unmapped c.probe-header.new.self.table
    (own x.After-reg_load-to) (probed_table x.Else-is_unmapped))

pub write-requires-clause-admitted : goal.write-requires-clause-admitted
write-requires-clause-admitted c =
    let x = goal.at.write-requires-clause-admitted c in
    let at = probed x.Else-is_unmapped
    (loaded x.After-reg_load-value (found x.After-reg_load-to (entered x.In_ok-enter))) in
    admitted_now _ _ _ Step.Write at refl c.probe-header.ensures.goes.makes.pass.history (λ x. refl)

pub write-requires-clause-value : goal.write-requires-clause-value
write-requires-clause-value c =
    let x = goal.at.write-requires-clause-value c in
    let at = probed x.Else-is_unmapped
    (loaded x.After-reg_load-value (found x.After-reg_load-to (entered x.In_ok-enter))) in
    sym (ap (λ (f : Flight). value_written f f.op) at.call)

pub dirty-requires-clause-page : goal.dirty-requires-clause-page
dirty-requires-clause-page c =
    let x = goal.at.dirty-requires-clause-page c in
    let at = written x.After-write (probed x.Else-is_unmapped
    (loaded x.After-reg_load-value (found x.After-reg_load-to (entered x.In_ok-enter)))) in
    sym (ap (λ (f : Flight). page_met f) at.call)

pub dirty-requires-clause-enabled : goal.dirty-requires-clause-enabled
dirty-requires-clause-enabled c =
    let x = goal.at.dirty-requires-clause-enabled c in
    let at = written x.After-write (probed x.Else-is_unmapped
    (loaded x.After-reg_load-value (found x.After-reg_load-to (entered x.In_ok-enter)))) in
    next_may _ _ _ Step.Dirty at refl refl
    (λ _. met x.Else-is_unmapped c.write.new.self.table (own x.After-reg_load-to)
    (ap (λ (r : PassState). r.table) c.write.ensures.goes.makes.is ∙ probed_table x.Else-is_unmapped))

pub leave-requires-2-clause-enabled : goal.leave-requires-2-clause-enabled
leave-requires-2-clause-enabled c =
    let x = goal.at.leave-requires-2-clause-enabled c in
    let o : Op = Op.SetPtr c.args.q c.args.i c.args.p in
    let f : Flight = at_probe o c.reg_load-to.result c.reg_load-value.result in
    let at = written x.After-write (probed x.Else-is_unmapped
    (loaded x.After-reg_load-value (found x.After-reg_load-to (entered x.In_ok-enter)))) in
    let left = goes_on c.write.new.self c.dirty.new.self Step.Dirty _ o (record f { stage = Dirty })
    (record f { stage = Leave }) at c.dirty.ensures.goes (ap (λ (f : Flight). (onward f None).flight) at.call) in
    next_may _ _ _ Step.Leave left refl refl (λ _. refl)
