use Rattle.std.proofs.Common.{◌∙◌, sym, ap, subst, List, [], ◌∷◌, ◌++◌}
use Rattle.names_scopes.specs.declared.scope.Local.{Local}
use Rattle.names_scopes.specs.declared.scope.Local.TheVariants.{Bound}
use Rattle.names_scopes.specs.Standing.{AddsSlots}
use Rattle.names_scopes.proofs.ScopeLemmas.{bind_on}
use Rattle.names_scopes.proofs.scope.Scope.bind.Goals as goal

pub returns-in_err-push-clause-slots : goal.returns-in_err-push-clause-slots
returns-in_err-push-clause-slots c = subst (λ (s : List Local). AddsSlots c.args.self.now s) (sym c.in_err-push.ensures.kept) c.loop-name.invariant.1

pub loop-name-preserved : goal.loop-name-preserved
loop-name-preserved c =
    bind_on c.args.self.now c.loop-name.self c.push.new.self c.args.names.now c.loop-name.name-index c.name-item.result c.loop-name-test.true c.name-item.is (c.in_ok-push.ensures.pushed ∙ ap (λ n. c.loop-name.self ++ Bound n ∷ []) c.in_ok-copy.ensures) c.loop-name.invariant
