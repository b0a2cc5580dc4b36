use Rattle.std.proofs.Common.{◌∙◌, ◌≤◌, sym, arith}
use Rattle.std.proofs.lemmas.Bool.{le-ltb}
use Rattle.actions_early_reads.proofs.Shown.{shown-test, shown-past}
use Rattle.actions_early_reads.proofs.sets.is_in.Goals as goal

pub returns-then-variable-lt64 : goal.returns-then-variable-lt64
returns-then-variable-lt64 c = shown-test c.args.set c.args.variable c.has.result (omega (arith, c.if-variable-lt64.true)) c.has.ensures

pub returns-else-variable-lt64 : goal.returns-else-variable-lt64
returns-else-variable-lt64 c = let past : 64 ≤ c.args.variable = omega (arith, c.if-variable-lt64.false) in le-ltb c.args.variable 64 past ∙ sym (shown-past c.args.set c.args.variable past)
