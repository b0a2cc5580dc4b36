use Rattle.std.specs.Prelude.{option_map}
use Rattle.std.specs.Borrow.{Bor}
use Rattle.base_core.specs.declared.text.Text.{Text}
use Rattle.names_specification.proofs.Answering.{if_accepted, if_refused, wide_accepted}
use Rattle.names_specification.proofs.resolving.resolve_by.Goals as goal

pub returns-then-wide-clause-accepted : goal.returns-then-wide-clause-accepted
returns-then-wide-clause-accepted c =
    wide_accepted c.args.program.now c.args.config.now (option_map (λ (n : Bor Text). n.now) c.args.silent) c.resolve_wide.result c.args.wide c.if-wide.true c.resolve_wide.ensures.accepted

pub returns-else-wide-clause-accepted : goal.returns-else-wide-clause-accepted
returns-else-wide-clause-accepted c =
    if_accepted c.args.program.now c.args.config.now (option_map (λ (n : Bor Text). n.now) c.args.silent) c.resolve.result c.args.wide c.if-wide.false c.resolve.ensures.accepted

pub returns-else-wide-clause-refused : goal.returns-else-wide-clause-refused
returns-else-wide-clause-refused c =
    if_refused c.args.program.now c.args.config.now (option_map (λ (n : Bor Text). n.now) c.args.silent) c.resolve.result c.args.wide c.if-wide.false c.resolve.ensures.refused
