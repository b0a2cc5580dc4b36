use Rattle.std.proofs.Common.{map}
use Rattle.std.specs.Borrow.{Bor}
use Rattle.reading_trees.specs.declared.expr.Definition.{Definition}
use Rattle.names_program.proofs.EntryLemmas.{standard_on}
use Rattle.names_program.proofs.names.push_standard.Goals as goal

pub loop-entry-preserved : goal.loop-entry-preserved
loop-entry-preserved c =
    standard_on c.args.givens.now (map (λ (d : Bor Definition). d.now) c.args.definitions.now) c.args.names.now c.loop-entry.names c.push.new.self c.loop-entry.yielded c.in-Some.entry _ c.replaced-is.ensures c.in_ok-push.ensures.pushed c.loop-entry.invariant
