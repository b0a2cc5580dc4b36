use Rattle.std.proofs.Common.{◌∙◌, ap}
use Rattle.names_scopes.specs.Scopes.{bind}
use Rattle.names_scopes.proofs.ScopeLemmas.{adds_on, bound_on}
use Rattle.names_scopes.proofs.scope.Scope.bind_bounds.Goals as goal

pub returns-in_err-bind-clause-slots : goal.returns-in_err-bind-clause-slots
returns-in_err-bind-clause-slots c = adds_on c.args.self.now c.loop-bound.self c.bind.new.self c.loop-bound.invariant.slots c.bind.ensures.slots

pub loop-bound-preserved : goal.loop-bound-preserved
loop-bound-preserved c =
    bound_on c.args.self.now c.loop-bound.self c.bind.new.self c.items-bound-items.result.now c.loop-bound.bound-index c.bound-item.result c.loop-bound-test.true c.bound-item.is c.loop-bound.invariant (c.in_ok-bind.ensures.bound ∙ ap (λ ns. bind c.loop-bound.self ns) c.items.ensures) c.bind.ensures.slots
