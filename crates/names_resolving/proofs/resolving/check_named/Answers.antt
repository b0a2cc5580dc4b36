use Rattle.std.specs.Prelude.{Err, option_map}
use Rattle.std.specs.Borrow.{Bor}
use Rattle.base_core.specs.declared.text.Text.{Text}
use Rattle.names_terms.specs.Lists.{terms_list}
use Rattle.names_program.specs.Names.{numbers_of}
use Rattle.names_resolving.specs.Resolved.{Answers}
use Rattle.names_resolving.proofs.Refusing.{refuses_operator, stopped}
use Rattle.names_resolving.proofs.resolving.check_named.Goals as goal

pub returns-in_err-check_levels-clause-refused : goal.returns-in_err-check_levels-clause-refused
returns-in_err-check_levels-clause-refused c =
    stopped c.from_residual.result c.in_err-check_levels.field-0.0 (λ f. Answers c.args.program.now c.args.config.now (option_map (λ (n : Bor Text). n.now) c.args.silent) (Err f)) c.from_residual.ensures.1
    (c.in_err-check_levels.ensures.refused c.requires.named.0 (option_map (λ (n : Bor Text). n.now) c.args.silent) c.requires.named.1)

pub returns-clause-refused : goal.returns-clause-refused
returns-clause-refused c =
    refuses_operator c.args.program.now c.args.config.now (option_map (λ (n : Bor Text). n.now) c.args.silent) c.requires.named.0 (numbers_of c.args.named.now.table.numbers.items) c.args.named.now.table.operators (terms_list c.args.named.now.assumes) c.check_operators.result c.requires.named.1 c.in_ok-check_levels.ensures.givens c.in_ok-check_levels.ensures.levels c.check_operators.ensures.refused

pub check_levels-requires-clause-ordered : goal.check_levels-requires-clause-ordered
check_levels-requires-clause-ordered c = c.requires.named.1.table.smaller
