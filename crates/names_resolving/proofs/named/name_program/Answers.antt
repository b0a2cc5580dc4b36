use Rattle.std.specs.Prelude.{List, ℕ, Option, Err}
use Rattle.names_program.specs.InUnits.{variables_in}
use Rattle.names_resolving.specs.Resolved.{Answers}
use Rattle.names_resolving.proofs.Naming.{are_uses, few}
use Rattle.names_resolving.proofs.Refusing.{stopped}
use Rattle.names_resolving.proofs.named.name_program.Goals as goal

pub returns-in_err-check_variables-clause-refused : goal.returns-in_err-check_variables-clause-refused
returns-in_err-check_variables-clause-refused c =
    stopped c.from_residual.result c.in_err-check_variables.field-0.0 (λ f. (silent : Option (List ℕ)) → Answers c.args.program.now c.args.config.now silent (Err f)) c.from_residual.ensures.1 (c.in_err-check_variables.ensures.refused c.args.config.now)

pub program_names-requires-clause-few : goal.program_names-requires-clause-few
program_names-requires-clause-few c = few (variables_in c.args.program.now.units) 64 c.in_ok-check_variables.ensures.few

pub check_names-requires-clause-used : goal.check_names-requires-clause-used
check_names-requires-clause-used c =
    are_uses c.args.program.now c.args.config.now c.in_ok-used.used.items c.deref-2.result.now c.deref-2.ensures.value c.in_ok-used.ensures.each c.in_ok-used.ensures.within c.in_ok-used.ensures.exact c.in_ok-used.ensures.leads

pub tabled-requires-clause-used : goal.tabled-requires-clause-used
tabled-requires-clause-used c =
    are_uses c.args.program.now c.args.config.now c.in_ok-used.used.items c.deref-4.result.now c.deref-4.ensures.value c.in_ok-used.ensures.each c.in_ok-used.ensures.within c.in_ok-used.ensures.exact c.in_ok-used.ensures.leads
