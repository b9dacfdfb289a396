use Rattle.std.proofs.Common.{None, Option, Some, map, refl, string_bytes, subst}
use Rattle.clap.specs.{Words.app_of, declared.parser.matches.ArgMatches.ArgMatches}
use Rattle.mk_outputs.proofs.words.command_by.Goals as goal
use Rattle.mk_outputs.proofs.Taken.{Finds, answer_is}
use Rattle.mk_outputs.specs.Told.{form_of, made_of}

pub returns-in-Some : goal.returns-in-Some
returns-in-Some c =
    let words = map (λ word. string_bytes word) c.args.words.now in
    let app = app_of c.in_ok-takes.field-0 in
    let finds = subst (λ (found : Option ArgMatches). Finds app words found) c.in-Some.is c.in_ok-found.ensures in
    answer_is (form_of c.args.named) (made_of c.args.named) c.args.name.now app words (Some c.in-Some.matches)
    c.read.result c.in_ok-takes.ensures finds c.read.ensures

pub returns : goal.returns
returns c =
    let words = map (λ word. string_bytes word) c.args.words.now in
    let app = app_of c.in_ok-takes.field-0 in
    let finds = subst (λ (found : Option ArgMatches). Finds app words found) c.in-None.is c.in_ok-found.ensures in
    answer_is (form_of c.args.named) (made_of c.args.named) c.args.name.now app words None None c.in_ok-takes.ensures
    finds refl
