use Rattle.std.proofs.Common.{subst}
use Rattle.std.specs.Prelude.{IfErr}
use Rattle.names_meanings.specs.Around.{Around, takes}
use Rattle.names_meanings.specs.Complaints.{counted}
use Rattle.names_meanings.specs.Outcomes.{Complains}
use Rattle.names_meanings.proofs.AroundLemmas.{sought_within}
use Rattle.names_meanings.proofs.walk.Walk.sought.Goals as goal

pub returns-clause-within : goal.returns-clause-within
returns-clause-within c =
    sought_within c.args.self.now c.self.inside.names.now c.self.inside.scope c.self.inside.table c.args.name.now c.args.found c.sought.result c.self.view_is c.self.invariant c.sought.ensures.means

pub returns-clause-refused : goal.returns-clause-refused
returns-clause-refused c =
    subst (λ (w : Around). IfErr c.sought.result (Complains (counted c.args.name.now c.args.at c.args.found (takes w c.args.name.now)))) c.self.view_is (c.sought.ensures.refused c.self.inside.table)
