use Rattle.names_program.specs.Names.{numbers_of}
use Rattle.names_resolving.specs.Configured.{by_names}
use Rattle.names_resolving.proofs.Shapes.{not_shapeless, specified}
use Rattle.names_resolving.proofs.steps.steps_of.Goals as goal

pub returns-in-Some-clause-steps : goal.returns-in-Some-clause-steps
returns-in-Some-clause-steps c =
    specified c.args.program.now c.args.config.now (numbers_of c.args.table.now.numbers.items) c.args.table.now.operators c.in-Some.name c.in-Some.is c.by_specification.result c.by_specification.ensures.steps

pub returns-in-Some-clause-shape : goal.returns-in-Some-clause-shape
returns-in-Some-clause-shape c =
    not_shapeless c.args.program.now c.args.config.now (numbers_of c.args.table.now.numbers.items) c.args.table.now.operators c.in-Some.name c.in-Some.is c.by_specification.result c.by_specification.ensures.steps

pub returns-in_ok-by_names-in-Some-next-clause-steps : goal.returns-in_ok-by_names-in-Some-next-clause-steps
returns-in_ok-by_names-in-Some-next-clause-steps c =
    by_names c.in-Some-init.init c.in-Some-next.next c.in_ok-by_names-in-Some-next.field-0.init c.in_ok-by_names-in-Some-next.field-0.next c.in-Some-init.is c.in-Some-next.is c.in_ok-by_names-in-Some-next.ensures.init c.in_ok-by_names-in-Some-next.ensures.next
