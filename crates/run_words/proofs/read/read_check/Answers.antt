use Rattle.run_words.specs.Line.{Given, Gives, words_of}
use Rattle.run_words.specs.Parsers.{Holds, given_by}
use Rattle.run_words.specs.declared.command.Command.TheVariants.{Check}
use Rattle.run_words.proofs.ReadLaws.{at_none, at_some, check_some}
use Rattle.run_words.proofs.read.read_check.Goals as goal

pub returns-in-Some : goal.returns-in-Some
returns-in-Some c =
    let ws = words_of c.args.words.now in
    let line = at_some c.in_ok-matches.field-0 c.in-Some.matches ((g : Given) → Gives Check ws g → ⊥) (λ m. Holds Check ws (given_by m)) c.in-Some.is c.in_ok-matches.ensures in
    check_some ws (given_by c.in-Some.matches) c.read_witnessed.result line c.read_witnessed.ensures

pub returns-in-None : goal.returns-in-None
returns-in-None c =
    let ws = words_of c.args.words.now in
    let none = at_none c.in_ok-matches.field-0 ((g : Given) → Gives Check ws g → ⊥) (λ m. Holds Check ws (given_by m)) c.in-None.is c.in_ok-matches.ensures in
    λ j w a. none a.given a.line
