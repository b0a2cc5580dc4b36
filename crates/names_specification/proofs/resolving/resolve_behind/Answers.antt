use Rattle.std.proofs.Common.{subst, sym}
use Rattle.std.specs.Prelude.{option_map}
use Rattle.std.specs.Borrow.{Bor}
use Rattle.base_core.specs.declared.text.Text.{Text}
use Rattle.reading_trees.specs.declared.config.Config.{Config}
use Rattle.names_tables.specs.Values.{AreSpelled}
use Rattle.names_resolving.specs.Resolved.{IsOneForm}
use Rattle.names_specification.proofs.Answering.{accepted_behind}
use Rattle.names_specification.proofs.Forms.{same_form}
use Rattle.names_specification.proofs.resolving.resolve_behind.Goals as goal

pub resolve-requires-clause-spelled : goal.resolve-requires-clause-spelled
resolve-requires-clause-spelled c = subst (λ (k : Config). AreSpelled k.givens) (sym c.in_ok-behind.ensures) c.requires.spelled

pub resolve-requires-clause-form : goal.resolve-requires-clause-form
resolve-requires-clause-form c = subst IsOneForm (sym c.in_ok-behind.ensures) (same_form c.args.program.now c.args.config.now c.requires.form)

pub returns-in-Ok-clause-accepted : goal.returns-in-Ok-clause-accepted
returns-in-Ok-clause-accepted c =
    accepted_behind c.args.program.now c.args.config.now c.in_ok-behind.behind (option_map (λ (n : Bor Text). n.now) c.args.silent) c.args.refusal c.in_ok-behind.ensures c.requires.refused
    c.in-Ok.spec c.in-Ok.ensures.accepted
