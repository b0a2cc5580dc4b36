use Rattle.std.proofs.Common.{Option, IfOk, subst}
use Rattle.serde_json.specs.Data.{Data}
use Rattle.values_json.specs.Reads.{Finds}
use Rattle.states_files.specs.States.{ReadsAt}
use Rattle.states_files.proofs.values.value_at.Goals as goal

pub returns-in-Some : goal.returns-in-Some
returns-in-Some c = subst (λ (o : Option Data). IfOk c.from_json.result (Finds (ReadsAt o))) c.in-Some.ensures c.from_json.ensures
