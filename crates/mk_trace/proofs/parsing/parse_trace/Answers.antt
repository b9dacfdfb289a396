use Rattle.mk_trace.proofs.{Vocabulary.{header_line_of, texts_of}, ReadLines.{read_whole, stops_whole}}
use Rattle.mk_heap.proofs.Below.Laws.Vocabulary.{ap, arith, length, sym, ◌<◌, ◌∙◌}
use Rattle.mk_trace.proofs.parsing.parse_trace.Goals as goal

pub at_end-requires : goal.at_end-requires
at_end-requires c =
    let lines = c.as_slice.result.now in
    let some : 0 < length lines = omega (arith, c.in-len1-up.len_at_least) in
    let header =
    sym (c.header.ensures ∙ ap header_line_of (ap texts_of c.deref.ensures.value ∙ c.in_ok-words.ensures))
    ∙ c.in-Ok.is in (
      c.args.bytes.now,
      read_whole c.args.bytes.now lines _ c.in-Ok.heap c.in_ok-draft.draft c.if-bytes-gt-TEXT_LIMIT.false
          (ap texts_of c.as_slice.ensures.value ∙ c.in_ok-lines.ensures) some header c.in_ok-draft.ensures.draft,
    )

pub returns-clause-fault : goal.returns-clause-fault
returns-clause-fault c =
    let header =
    sym (c.header.ensures ∙ ap header_line_of (ap texts_of c.deref.ensures.value ∙ c.in_ok-words.ensures))
    ∙ c.in-Ok.is in
    grind (arith, stops_whole, read_whole, header)
