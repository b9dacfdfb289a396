use Rattle.mk_script.proofs.{Vocabulary.{ap, bytes_eq, is_among, list_any, sym, ◌∙◌}, PutName.list_any-map}
use Rattle.mk_script.proofs.name_set.NameSet.contains.Goals as goal

pub returns : goal.returns
returns c =
    c.contains.ensures ∙ ap (λ text. list_any (λ name. bytes_eq text name.items) c.self.inside.names.keys)
    c.as_bytes.ensures ∙ sym (list_any-map _ (λ name. name.items) c.self.inside.names.keys) ∙ ap (is_among
    c.args.name.now) c.self.view_is
