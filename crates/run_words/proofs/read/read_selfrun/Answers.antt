use Rattle.run_words.specs.Line.{Given, Gives, words_of}
use Rattle.run_words.specs.Parsers.{Holds, given_by}
use Rattle.run_words.specs.declared.command.Command.TheVariants.{SelfRun}
use Rattle.run_words.proofs.ReadLaws.{at_none, at_some, selfrun_some}
use Rattle.run_words.proofs.read.read_selfrun.Goals as goal

pub returns-in-Some : goal.returns-in-Some
returns-in-Some c =
    let ws = words_of c.args.words.now in
    let line = at_some c.in_ok-matches.field-0 c.in-Some.matches ((g : Given) → Gives SelfRun ws g → ⊥) (λ m. Holds SelfRun ws (given_by m)) c.in-Some.is c.in_ok-matches.ensures in
    selfrun_some ws (given_by c.in-Some.matches) c.single_number.result line c.single_number.ensures

pub returns-in-None : goal.returns-in-None
returns-in-None c =
    let ws = words_of c.args.words.now in
    let none = at_none c.in_ok-matches.field-0 ((g : Given) → Gives SelfRun ws g → ⊥) (λ m. Holds SelfRun ws (given_by m)) c.in-None.is c.in_ok-matches.ensures in
    λ n a. none a.given a.line
