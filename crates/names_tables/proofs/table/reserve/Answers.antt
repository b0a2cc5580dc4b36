use Rattle.std.proofs.Common.{subst}
use Rattle.std.specs.Prelude.{OnOk}
use Rattle.names_terms.specs.Terms.{Term}
use Rattle.names_tables.specs.Filling.{IsPut}
use Rattle.names_tables.proofs.table.reserve.Goals as goal

pub returns : goal.returns
returns c =
    subst (λ (e : Term). OnOk c.put.result (IsPut c.args.by_definition.now c.args.index c.args.definition.now c.args.own e c.args.table.now c.put.new.table)) c.in_ok-body.ensures c.put.ensures
