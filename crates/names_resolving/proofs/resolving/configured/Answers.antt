use Rattle.std.specs.Prelude.{Err, option_map}
use Rattle.std.specs.Borrow.{Bor}
use Rattle.base_core.specs.declared.text.Text.{Text}
use Rattle.names_terms.specs.Lists.{terms_list}
use Rattle.names_program.specs.Names.{numbers_of}
use Rattle.names_resolving.specs.Resolved.{Answers, accepted}
use Rattle.names_resolving.proofs.Naming.{complete}
use Rattle.names_resolving.proofs.Refusing.{refuses_limit, refuses_shape, stopped}
use Rattle.names_resolving.proofs.resolving.configured.Goals as goal

pub steps_of-requires-clause-complete : goal.steps_of-requires-clause-complete
steps_of-requires-clause-complete c =
    complete c.args.program.now c.args.config.now c.requires.configured.0 c.args.named.table c.requires.configured.1.levelled.named.table

pub returns-in_err-steps-clause-refused : goal.returns-in_err-steps-clause-refused
returns-in_err-steps-clause-refused c =
    stopped c.from_residual.result c.in_err-steps.field-0.0 (λ f. Answers c.args.program.now c.args.config.now (option_map (λ (n : Bor Text). n.now) c.args.silent) (Err f)) c.from_residual.ensures.1
    (refuses_shape c.args.program.now c.args.config.now (option_map (λ (n : Bor Text). n.now) c.args.silent) c.requires.configured.0 (numbers_of c.args.named.table.numbers.items) c.args.named.table.operators (terms_list c.args.named.assumes) c.in_err-steps.field-0.0 c.requires.configured.1 c.in_err-steps.ensures.refused)

pub returns-in_err-check_limits-clause-refused : goal.returns-in_err-check_limits-clause-refused
returns-in_err-check_limits-clause-refused c =
    stopped c.from_residual-in_err-check_limits.result c.in_err-check_limits.field-0.0 (λ f. Answers c.args.program.now c.args.config.now (option_map (λ (n : Bor Text). n.now) c.args.silent) (Err f)) c.from_residual-in_err-check_limits.ensures.1
    (refuses_limit c.args.program.now c.args.config.now (option_map (λ (n : Bor Text). n.now) c.args.silent) c.requires.configured.0 (numbers_of c.args.named.table.numbers.items) c.args.named.table.operators (terms_list c.args.named.assumes) c.in_err-check_limits.field-0.0 c.requires.configured.1 c.in_ok-steps.ensures.shape c.in_err-check_limits.ensures.refused)

pub spec_of-requires-clause-complete : goal.spec_of-requires-clause-complete
spec_of-requires-clause-complete c =
    complete c.args.program.now c.args.config.now c.requires.configured.0 c.args.named.table c.requires.configured.1.levelled.named.table

pub returns-clause-accepted : goal.returns-clause-accepted
returns-clause-accepted c =
    accepted c.requires.configured.0 (numbers_of c.args.named.table.numbers.items) c.args.named.table.operators (terms_list c.args.named.assumes) c.in_ok-spec.spec c.requires.configured.1 c.in_ok-check_limits.ensures.fine c.in_ok-spec.ensures
