use Rattle.std.proofs.Common.{sym, subst, List}
use Rattle.names_scopes.specs.declared.scope.Local.{Local}
use Rattle.names_meanings.specs.Around.{IsAround}
use Rattle.names_meanings.proofs.AroundLemmas.{around_cut}
use Rattle.names_meanings.proofs.walk.Walk.cut.Goals as goal

pub invariant_of-self : goal.invariant_of-self
invariant_of-self c =
    subst (λ (s : List Local). IsAround c.self.inside.names.now s c.self.inside.table) (sym c.cut.ensures) (around_cut c.self.inside.names.now c.self.inside.scope c.self.inside.table c.args.depth c.self.invariant)
