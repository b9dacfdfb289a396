use Rattle.mk_script.proofs.{Vocabulary.◌∙◌, PutName.puts_name}
use Rattle.mk_script.proofs.name_set.NameSet.insert.Goals as goal

pub returns : goal.returns
returns c = λ absent. puts_name (λ name. name.items) c.self.inside.names.keys c.insert.new.self.keys c.in_ok-bytes.bytes
    c.in_ok-insert.field-0 c.args.name.now c.args.self.now (c.in_ok-bytes.ensures.items
    ∙ c.as_bytes.ensures) c.self.view_is c.in_ok-insert.ensures.added c.in_ok-insert.ensures.keys absent
