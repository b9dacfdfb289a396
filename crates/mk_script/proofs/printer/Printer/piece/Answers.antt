use Rattle.mk_script.proofs.{Blocks.put_in, Vocabulary.{List, ℕ, ap, arith, take, ◌++◌, ◌∙◌}}
use Rattle.mk_script.proofs.printer.Printer.piece.Goals as goal

pub returns : goal.returns
returns c =
    let bytes = c.args.bytes.now in
    put_in c.with_room.new.text.items c.self.inside.block bytes c.put.new.block c.in_ok-used.used c.args.count
    (omega (arith, c.in_ok-used.ensures.room)) c.requires.0 c.put.ensures
    ∙ ap (λ (t : List ℕ). t ++ take c.args.count bytes) (c.in_ok-used.ensures.text ∙ c.self.view_is)
