use Rattle.std.specs.{Fmt.decimal, String.string_bytes}
use Rattle.mk_heap.proofs.Below.Laws.Vocabulary.{[], ◌∷◌}
use Rattle.mk_trace.proofs.{Vocabulary.codes, ReadLines.{on_ok, six_lines}}
use Rattle.mk_script.specs.Canonical.{line_text}
use Rattle.mk_trace.proofs.peaks.push_counts.Goals as goal

pub returns : goal.returns
returns c =
    let p = c.args.peaks.now in
    on_ok c.push_count-6.result c.push_count-6.ensures (λ last. six_lines (string_bytes c.args.text.now)
    (line_text (codes "events" ∷ decimal p.events ∷ [])) (line_text (codes "refused" ∷ decimal p.refused ∷ []))
    (line_text (codes "held" ∷ decimal p.held ∷ [])) (line_text (codes "quarantined" ∷ decimal p.quarantined ∷ []))
    (line_text (codes "reserved" ∷ decimal p.reserved ∷ [])) (line_text (codes "cycles" ∷ decimal p.cycles ∷ []))
    (string_bytes c.push_count.new.text) (string_bytes c.push_count-2.new.text) (string_bytes c.push_count-3.new.text)
    (string_bytes c.push_count-4.new.text) (string_bytes c.push_count-5.new.text) (string_bytes c.push_count-6.new.text)
    c.in_ok-push_count.ensures c.in_ok-push_count-2.ensures c.in_ok-push_count-3.ensures c.in_ok-push_count-4.ensures
    c.in_ok-push_count-5.ensures last)
