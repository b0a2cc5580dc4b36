use Rattle.std.proofs.Common.{◌∙◌, sym}
use Rattle.std.proofs.lemmas.Bool.{false≢true}
use Rattle.clap.specs.Simple.{app_of}
use Rattle.run_words.specs.Line.{words_of}
use Rattle.run_words.proofs.Readings.{line_held, line_not_given, line_refused}
use Rattle.run_words.proofs.line.read_line.Goals as goal

pub returns-then-are_given : goal.returns-then-are_given
returns-then-are_given c =
    line_held c.args.command c.args.words.now (app_of c.in_ok-parser.parser) c.in-Ok.matches c.in_ok-parser.ensures c.in-Ok.ensures.kinds c.in-Ok.ensures.matches
    (sym c.are_given.ensures ∙ c.if-are_given.true)

pub returns-else-are_given : goal.returns-else-are_given
returns-else-are_given c =
    line_not_given c.args.command (words_of c.args.words.now) (app_of c.in_ok-parser.parser) c.in-Ok.matches c.in_ok-parser.ensures c.in-Ok.ensures.matches
    (sym c.are_given.ensures ∙ c.if-are_given.false)

pub returns-else-wants_memory : goal.returns-else-wants_memory
returns-else-wants_memory c =
    line_refused c.args.command (words_of c.args.words.now) (app_of c.in_ok-parser.parser) c.in-Err.error c.in_ok-parser.ensures c.in-Err.ensures.kinds
    (λ m. false≢true (sym c.if-wants_memory.false ∙ c.wants_memory.ensures.1 m))
