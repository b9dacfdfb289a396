-- Where a cycle marks, the bits of the object are marked first. Then each page of its place has its header.
use Rattle.mk_caller.proofs.Below.Laws.Vocabulary.{IsSized, Object, ap, arith, header_made, is_small_object, pages_made}
use Rattle.mk_caller.proofs.Below.Laws.Vocabulary.{false, pages_some, subst, sym, ℕ, ◌+◌, ◌∙◌, ◌≡◌}
use Rattle.mk_caller.specs.Below.Words.States.{WordsState}
use Rattle.mk_alloc.proofs.{ObjectVocabulary.{HasCarved, object_for}, RunHeaders.is_large}
use Rattle.mk_alloc.proofs.PlacedNews.{carves_to, head_sweeps, may_carve_all, say_mapped}
use Rattle.mk_alloc.proofs.Serves.{KnowsPlace, carved_all, free_pages_of, head_may, heads_on, knows_place}
use Rattle.mk_alloc.proofs.placing.carve.Goals.{After-header_word-head}
use Rattle.mk_alloc.proofs.placing.carve.Goals as goal

pub header_word-head-requires-clause-sized : goal.header_word-head-requires-clause-sized
header_word-head-requires-clause-sized c =
    let k = knows_place c.args.turn.now.in_order c.requires.goes.goes in
    subst (λ (o : Object). IsSized o) (sym c.requires.goes.shaped) k.sized

pub header_word-head-requires-clause-within : goal.header_word-head-requires-clause-within
header_word-head-requires-clause-within c =
    let k = knows_place c.args.turn.now.in_order c.requires.goes.goes in
    let some = pages_some (object_for c.args.turn.now.pass) k.sized in
    let count = ap (λ (o : Object). pages_made o) c.requires.goes.shaped in
    omega (arith, some, count)

-- the object, its place, and its first header word
abbrev object : After-header_word-head → Object
object c = object_for c.args.turn.now.pass

known : (c : After-header_word-head) → KnowsPlace c.args.turn.now.pass c.args.place
known c = knows_place c.args.turn.now.in_order c.requires.goes.goes

count_is : (c : After-header_word-head) → c.pages-pages.result ≡ pages_made (object c)
count_is c = c.pages-pages.ensures ∙ ap (λ (o : Object). pages_made o) c.requires.goes.shaped

head_is : (c : After-header_word-head) → c.header_word-head.result ≡ header_made (object c) 0
head_is c = c.header_word-head.ensures ∙ ap (λ (o : Object). header_made o 0) c.requires.goes.shaped

-- one page

pub head-requires-clause-enabled : goal.head-requires-clause-enabled
head-requires-clause-enabled c =
    let x = (goal.at.head-requires-clause-enabled c).After-header_word-head in
    head_may (known x) c.requires.free (omega arith) (head_is x) (pages_some (object x) (known x).sized)
    c.mark_place.ensures.carved

pub returns-then-pages-eq1-clause-ready : goal.returns-then-pages-eq1-clause-ready
returns-then-pages-eq1-clause-ready c =
    let x = (goal.at.returns-then-pages-eq1-clause-ready c).After-header_word-head in
    let all : 0 + 1 ≡ pages_made (object x) = sym c.if-pages-eq1.true ∙ count_is x in
    carved_all (known x) c.requires.free
    (subst (λ (n : ℕ). HasCarved c.args.turn.now.pass c.args.place n c.head.new.self.pass) all
    (heads_on (known x) c.requires.free (omega arith) (head_is x) (pages_some (object x) (known x).sized)
    c.mark_place.ensures.carved c.head.ensures))

pub returns-then-pages-eq1-clause-reached : goal.returns-then-pages-eq1-clause-reached
returns-then-pages-eq1-clause-reached c =
    head_sweeps c.mark_place.ensures.carved c.mark_place.ensures.reached c.head.ensures

-- a run

pub later_word-requires-clause-sized : goal.later_word-requires-clause-sized
later_word-requires-clause-sized c =
    let k = knows_place c.args.turn.now.in_order c.requires.goes.goes in
    subst (λ (o : Object). IsSized o) (sym c.requires.goes.shaped) k.sized

large : (c : After-header_word-head) → (c.pages-pages.result ≡ 1 → ⊥) → is_small_object (object c) ≡ false
large c several = is_large (object c) (λ one. several (count_is c ∙ one))

pub make_run-requires-clause-within : goal.make_run-requires-clause-within
make_run-requires-clause-within c =
    let x = (goal.at.make_run-requires-clause-within c).After-header_word-head in
    let ends = (free_pages_of (known x) c.requires.free).within in
    let lengths = (known x).serving.pages in
    let same = ap (λ (w : WordsState). w.config.pages) c.requires.goes.one_table in
    omega (arith, ends, lengths, same, count_is x)

pub make_run-requires-clause-headers : goal.make_run-requires-clause-headers
make_run-requires-clause-headers c d used near =
    let x = (goal.at.make_run-requires-clause-headers c).After-header_word-head in
    let second = c.later_word.ensures ∙ ap (λ (o : Object). header_made o 1) c.requires.goes.shaped in
    say_mapped (known x) c.requires.free (large x c.if-pages-eq1.false) (head_is x) second
    c.mark_place.ensures.carved c.mark_place.ensures.reached d used (omega (arith, near, count_is x))

pub make_run-requires-clause-may : goal.make_run-requires-clause-may
make_run-requires-clause-may c n q near stores =
    let x = (goal.at.make_run-requires-clause-may c).After-header_word-head in
    let second = c.later_word.ensures ∙ ap (λ (o : Object). header_made o 1) c.requires.goes.shaped in
    may_carve_all (known x) c.requires.free (large x c.if-pages-eq1.false) (head_is x) second
    c.mark_place.ensures.carved c.mark_place.ensures.reached n q (omega (arith, near, count_is x)) stores

pub returns-else-pages-eq1-clause-ready : goal.returns-else-pages-eq1-clause-ready
returns-else-pages-eq1-clause-ready c =
    let x = (goal.at.returns-else-pages-eq1-clause-ready c).After-header_word-head in
    let second = c.later_word.ensures ∙ ap (λ (o : Object). header_made o 1) c.requires.goes.shaped in
    let all = carves_to (known x) c.requires.free (large x c.if-pages-eq1.false) (head_is x) second
    c.mark_place.ensures.carved c.mark_place.ensures.reached c.pages-pages.result c.make_run.new.self.pass
    (omega (arith, count_is x)) c.make_run.ensures in
    carved_all (known x) c.requires.free
    (subst (λ (n : ℕ). HasCarved c.args.turn.now.pass c.args.place n c.make_run.new.self.pass) (count_is x) all.0)

pub returns-else-pages-eq1-clause-reached : goal.returns-else-pages-eq1-clause-reached
returns-else-pages-eq1-clause-reached c =
    let x = (goal.at.returns-else-pages-eq1-clause-reached c).After-header_word-head in
    let second = c.later_word.ensures ∙ ap (λ (o : Object). header_made o 1) c.requires.goes.shaped in
    (carves_to (known x) c.requires.free (large x c.if-pages-eq1.false) (head_is x) second
    c.mark_place.ensures.carved c.mark_place.ensures.reached c.pages-pages.result c.make_run.new.self.pass
    (omega (arith, count_is x)) c.make_run.ensures).1
