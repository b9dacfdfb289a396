use Rattle.mk_laws.proofs.Vocabulary.{Access, subst}
use Rattle.mk_core.specs.Words.{becomes}
use Rattle.atomic_table.specs.Table.{Allows}
use Rattle.mk_words.{proofs.Owed.allows_store, specs.Rule.Kept, specs.Rule.adds, specs.Rule.no_step}
use Rattle.mk_words.proofs.performing.access_as.Goals as goal

pub store-requires : goal.store-requires
store-requires g c =
    let t = c.args.table.now in
    let k = c.args.token.now in
    let allowed = subst (λ (a : Access). Allows (Kept t.key) t.table_id.slots k.id k.me c.args.index (becomes a)
    (λ n m. adds g.J.Making.event no_step k.me n m)) c.in-Store.is c.requires.allowed in (
      c.requires.table,
      c.requires.within,
      allows_store t.key t.table_id.slots k.id k.me c.args.index g.J.Making.event c.in-Store.value allowed,
    )
