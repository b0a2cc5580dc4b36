use Rattle.names_meanings.proofs.Whole.{bodies_are, bodies_refused, within_params}
use Rattle.names_meanings.proofs.tree.resolve_in.Goals as goal

pub returns-clause-fine : goal.returns-clause-fine
returns-clause-fine c =
    bodies_are c.args.walk.now c.bind.new.self c.resolve_to.new.walk c.args.params.now c.args.tree.now c.resolve_to.result (within_params c.args.walk.now c.bind.new.self c.items.result.now c.args.params.now c.items.ensures c.in_ok-bind.ensures) c.resolve_to.ensures.fine

pub returns-clause-refused : goal.returns-clause-refused
returns-clause-refused c =
    bodies_refused c.args.walk.now c.bind.new.self c.args.params.now c.args.tree.now c.resolve_to.result (within_params c.args.walk.now c.bind.new.self c.items.result.now c.args.params.now c.items.ensures c.in_ok-bind.ensures) c.resolve_to.ensures.refused
