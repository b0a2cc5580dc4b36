use Rattle.std.specs.Prelude.{Err, option_map}
use Rattle.std.specs.Borrow.{Bor}
use Rattle.base_core.specs.declared.text.Text.{Text}
use Rattle.names_resolving.specs.Resolved.{Answers}
use Rattle.names_resolving.proofs.Refusing.{noted_there, stopped}
use Rattle.names_resolving.proofs.resolving.resolve.Goals as goal

pub returns-in_err-named-clause-refused : goal.returns-in_err-named-clause-refused
returns-in_err-named-clause-refused c =
    stopped c.from_residual.result c.in_err-named.field-0.0 (λ f. Answers c.args.program.now c.args.config.now (option_map (λ (n : Bor Text). n.now) c.args.silent) (Err f)) c.from_residual.ensures.1
    (c.in_err-named.ensures.refused (option_map (λ (n : Bor Text). n.now) c.args.silent))

pub check_named-requires-clause-noted : goal.check_named-requires-clause-noted
check_named-requires-clause-noted c =
    noted_there c.items.result.now c.in_ok-named.named.table.operators c.in_ok-notes.notes.items c.deref.result.now c.items.ensures c.deref.ensures.value c.in_ok-notes.ensures.noted

pub configured-requires-clause-noted : goal.configured-requires-clause-noted
configured-requires-clause-noted c =
    noted_there c.items.result.now c.in_ok-named.named.table.operators c.in_ok-notes.notes.items c.deref-2.result.now c.items.ensures c.deref-2.ensures.value c.in_ok-notes.ensures.noted
