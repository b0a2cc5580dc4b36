use Rattle.std.proofs.Common.{ℕ, List, Result, IfOk, subst, sym}
use Rattle.states_files.specs.Fields.{LineFields}
use Rattle.states_files.specs.Lines.{FieldsSay}
use Rattle.states_files.proofs.line.members_line.Goals as goal

pub returns-in-Ok : goal.returns-in-Ok
returns-in-Ok c = subst (λ (r : Result LineFields (List ℕ)). IfOk c.state_line.result (FieldsSay c.args.names.now r)) (sym c.in-Ok.ensures.fields) c.state_line.ensures
