use Rattle.std.proofs.Common.{replicate, take}
use Rattle.mk_sweep.proofs.Below.Laws.Vocabulary.{List, ap, arith, length, ◌++◌, ◌-◌, ◌<◌, ◌≡◌, ◌≤◌}
use Rattle.mk_why.{proofs.LazyTables.{completed_length, set_past, set_within}, specs.LazyTables.{TableState}}
use Rattle.mk_why.proofs.lazy_table.LazyTable.set.Goals as goal

pub returns-then-len-place-clause-items : goal.returns-then-len-place-clause-items
returns-then-len-place-clause-items g c =
    let xs = c.self.inside.entries.items in
    let rest = c.self.inside.rest in
    let size = c.self.inside.size in
    let place = c.args.place in
    let same = ap (λ (s : TableState _). s.items) c.self.view_is in
    let long = c.self.inside.entries.ok.0 in
    let count = c.len.ensures in
    let past : length xs ≤ place = omega arith in
    let low : place < size =
    let whole = ap (λ (ys : List _). length ys) same in
    let fits = completed_length xs rest size c.self.invariant.0 in omega arith in
    let filled : c.resize.new.self.items ≡ take place xs ++ replicate (place - length xs) rest = grind arith in
    set_past xs rest size place past low c.args.value filled c.push_reserved.ensures.items same

pub returns-clause-items : goal.returns-clause-items
returns-clause-items g c =
    let xs = c.self.inside.entries.items in
    let long = c.self.inside.entries.ok.0 in
    let count = c.len.ensures in
    set_within xs c.self.inside.rest c.self.inside.size c.args.place c.args.value (omega arith)
    (ap (λ (s : TableState _). s.items) c.self.view_is)
