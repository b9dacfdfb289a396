use Rattle.std.proofs.Common.{arith, rules, length-take}
use Rattle.mk_replay.proofs.Parts.{script_within, two_parts}
use Rattle.mk_replay.proofs.schedule_parsing.read_parts.Goals as goal

pub text_length-end-requires : goal.text_length-end-requires
text_length-end-requires c =
    omega (arith, c.requires.short, script_within c.args.lines.now c.args.bytes.now c.requires.lines c.requires.place)

pub slice_bounds-parse-end : goal.slice_bounds-parse-end
slice_bounds-parse-end c =
    let within = script_within c.args.lines.now c.args.bytes.now c.requires.lines c.requires.place in
    let size = c.text_length-end.result in
    omega (arith, c.text_length-end.ensures, within, length-take size c.args.bytes.now)

pub returns-in_err-program-clause-fault : goal.returns-in_err-program-clause-fault
returns-in_err-program-clause-fault c =
    let parts = two_parts c.args.lines.now c.args.bytes.now c.text_length-end.result c.requires.short
    c.requires.lines c.requires.place c.text_length-end.ensures in
    search rules

pub returns-in_err-entries-clause-fault : goal.returns-in_err-entries-clause-fault
returns-in_err-entries-clause-fault c =
    let parts = two_parts c.args.lines.now c.args.bytes.now c.text_length-end.result c.requires.short
    c.requires.lines c.requires.place c.text_length-end.ensures in
    search rules

pub returns-clause-parts : goal.returns-clause-parts
returns-clause-parts c =
    let parts = two_parts c.args.lines.now c.args.bytes.now c.text_length-end.result c.requires.short
    c.requires.lines c.requires.place c.text_length-end.ensures in
    search rules
