use Rattle.names_resolving.proofs.Refusing.{stopped}
use Rattle.names_whole_programs.specs.Expansion.{ExpansionRefused}
use Rattle.names_whole_programs.proofs.Expansions.{allowed, if_allowed, if_refused}
use Rattle.std.specs.Prelude.{true, false}
use Rattle.names_whole_programs.proofs.checking.check_instances.Goals as goal

pub returns-in_err-check_variables-clause-refused : goal.returns-in_err-check_variables-clause-refused
returns-in_err-check_variables-clause-refused c =
    stopped c.from_residual.result c.in_err-check_variables.field-0.0 (ExpansionRefused c.args.wide c.args.whole.now) c.from_residual.ensures.1 (c.in_err-check_variables.ensures.refused c.args.wide)

pub returns-then-wide-clause-fine : goal.returns-then-wide-clause-fine
returns-then-wide-clause-fine c = allowed c.args.wide true c.args.whole.now c.if-wide.true c.in_ok-check_variables.ensures.few

pub returns-clause-fine : goal.returns-clause-fine
returns-clause-fine c = if_allowed c.args.wide false c.args.whole.now c.check_faults.result c.if-wide.false c.check_faults.ensures.fine

pub returns-clause-refused : goal.returns-clause-refused
returns-clause-refused c = if_refused c.args.wide false c.args.whole.now c.check_faults.result c.if-wide.false c.check_faults.ensures.refused
