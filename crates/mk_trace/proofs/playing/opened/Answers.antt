use Rattle.mk_trace.proofs.Vocabulary.{CallerIsHome, Config, HostState, WordsState}
use Rattle.mk_heap.proofs.Below.Laws.Vocabulary.{ap, ◌∙◌}
use Rattle.mk_trace.proofs.{HeldCalls.opened_empty, OneCaller.first_home, Played.first_seats, Played.joined_first}
use Rattle.mk_trace.proofs.playing.opened.Goals as goal

pub returns : goal.returns
returns c =
    let w : WordsState = c.in_ok-heap.heap in
    let h : HostState = c.in_ok-heap.host in
    let k : HostState = c.join_caller.new.self in
    let one = ap (λ (d : Config). d.callers) c.in_ok-heap.ensures.config ∙ c.requires.one in
    let seats = first_seats w h c.caller.result c.finish-caller.result c.in_ok-heap.ensures.host c.caller.ensures.caller
    c.finish-caller.ensures.pass in
    let home : CallerIsHome w k = first_home w h c.caller.new.self k c.finish-caller.result one
    c.in_ok-heap.ensures.host c.caller.ensures.host c.join_caller.ensures.host seats c.join_caller.ensures.overs
    c.join_caller.ensures.history in
    record {
      config = c.in_ok-heap.ensures.config;
      home = home;
      no_call =
          joined_first w h c.caller.result c.finish-caller.result k c.args.config.now c.in_ok-heap.ensures.host
          c.caller.ensures.caller c.finish-caller.ensures.pass c.join_caller.ensures.came c.in_ok-heap.ensures.config
          c.requires.one home.table c.join_caller.ensures.history;
      empty =
          opened_empty w h c.caller.new.self c.finish-caller.result k _ c.in_ok-heap.ensures.host c.caller.ensures.host
          c.join_caller.ensures.own c.join_caller.ensures.came (c.finish-caller.ensures.pass
          ∙ c.caller.ensures.caller.pass) c.in_ok-heap.ensures.config home.table c.join_caller.ensures.history;
    }
