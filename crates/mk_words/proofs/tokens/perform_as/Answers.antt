use Rattle.mk_laws.proofs.Vocabulary.{ℕ, ap, refl, subst, sym, ◌<◌, ◌∙◌, ◌≡◌}
use Rattle.mk_core.specs.{Layout.IsOfTable, Layout.index_of, Words.becomes, declared.accesses.TableWord.TableWord}
use Rattle.atomic_table.specs.Table.{Allows}
use Rattle.mk_words.proofs.Owed.{in_order_still, names_word, perform_call, perform_learns}
use Rattle.mk_words.proofs.tokens.perform_as.Goals.{After-index_near-index}
use Rattle.mk_words.specs.{Rule.Kept, Rule.adds, Rule.no_step, States.WordsState}
use Rattle.mk_words.proofs.tokens.perform_as.Goals as goal

-- The number of pages at hand is the table's.
pages_told : (u v : WordsState) (pages : ℕ) → u ≡ v → pages ≡ v.config.pages → pages ≡ u.config.pages
pages_told u v pages same number = number ∙ ap (λ (w : WordsState). w.config.pages) (sym same)

index_told : (u v : WordsState) (pages index : ℕ) (word : TableWord) → u ≡ v → pages ≡ v.config.pages
    → index ≡ index_of pages word → index ≡ index_of u.config.pages word
index_told u v pages index word same number is = is ∙ ap (λ (n : ℕ). index_of n word) (pages_told u v pages same number)

pub index_near-index-requires-clause-names : goal.index_near-index-requires-clause-names
index_near-index-requires-clause-names g c =
    let w = c.words.inside in
    let t = c.args.token.now in
    subst (λ (n : ℕ). IsOfTable n c.args.word)
    (sym (pages_told _ c.args.words.now c.args.pages c.words.view_is c.requires.pages)) (names_word t.me c.args.seat
    c.words.view_is refl c.requires.one_table c.args.step c.args.word c.requires.order c.requires.may)

-- what the access is owed
owed : (g : _) (c : After-index_near-index g) → (c.index_near-index.result < c.words.inside.table.shared.table_id.words)
    × Allows (Kept c.words.inside.table.shared.key) c.words.inside.table.shared.table_id.slots c.args.token.now.id
    c.args.token.now.me c.index_near-index.result (becomes c.args.by) (λ n m. adds g.J.Making.event no_step
    c.args.token.now.me n m)
owed g c =
    let w = c.words.inside in
    let t = c.args.token.now in
    perform_call c.args.words.now w.table.shared.table_id t.table_id w.config w.table.shared.key t.me c.args.seat
    c.words.view_is c.requires.one_table w.table.shared.table_id.words w.table.shared.table_id.slots t.id c.args.step
    c.index_near-index.result c.args.word c.args.by g.J.Making.event c.requires.order c.words.invariant.key
    c.words.invariant.words c.requires.picked c.requires.may
    (index_told _ c.args.words.now c.args.pages c.index_near-index.result c.args.word
    c.words.view_is c.requires.pages c.index_near-index.ensures) c.requires.hands_none

pub access_as-requires-clause-within : goal.access_as-requires-clause-within
access_as-requires-clause-within g c = (owed g (goal.at.access_as-requires-clause-within g c).After-index_near-index).0

pub access_as-requires-clause-allowed : goal.access_as-requires-clause-allowed
access_as-requires-clause-allowed g c =
    (owed g (goal.at.access_as-requires-clause-allowed g c).After-index_near-index).1

pub returns-clause-told : goal.returns-clause-told
returns-clause-told g c =
    let t = c.args.token.now in
    perform_learns t.table_id c.access_as.new.token.table_id t.me c.access_as.new.token.me c.args.seat c.args.step
    c.args.by c.access_as.result g.J.Making.event c.access_as.ensures.table c.requires.picked c.requires.may.does
    c.requires.order c.access_as.ensures.told

pub returns-clause-order : goal.returns-clause-order
returns-clause-order g c =
    let told = c.access_as.ensures.told in
    in_order_still c.args.token.now.me c.access_as.new.token.me c.args.seat g.J.Making.event told.0 c.requires.order
    told.1.1

pub returns-clause-slots : goal.returns-clause-slots
returns-clause-slots g c = c.access_as.ensures.told.1.0
