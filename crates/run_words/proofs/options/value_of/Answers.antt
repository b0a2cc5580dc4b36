use Rattle.std.proofs.Common.{◌≤◌, sym, subst, List, [], length, MatchResult}
use Rattle.clap.specs.Matches.{found_of}
use Rattle.clap.specs.Walk.{rows_of}
use Rattle.run_words.specs.Line.{Text}
use Rattle.run_words.specs.Parsers.{texts_of}
use Rattle.run_words.specs.Values.{IsValue}
use Rattle.run_words.proofs.Rows.{setting_held}
use Rattle.run_words.proofs.options.value_of.Goals as goal

pub returns-in-Some : goal.returns-in-Some
returns-in-Some c =
    subst (λ (vs : List Text). MatchResult c.single.result (IsValue vs) (λ _. 2 ≤ length vs))
    (setting_held (rows_of (found_of c.args.matches.now)) c.args.setting c.id.result.now (texts_of c.in-Some.values.now) c.id.ensures c.in-Some.ensures) c.single.ensures

pub returns-in-None : goal.returns-in-None
returns-in-None c = sym (setting_held (rows_of (found_of c.args.matches.now)) c.args.setting c.id.result.now [] c.id.ensures (sym c.in-None.ensures))
