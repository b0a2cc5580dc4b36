use Rattle.std.proofs.Common.{◌∙◌, sym, ap}
use Rattle.std.specs.Option.{option_copied}
use Rattle.names_resolving.proofs.Sought.{not_none}
use Rattle.names_resolving.proofs.steps.body_of.Goals as goal

pub unreachable-requires : goal.unreachable-requires
unreachable-requires c =
    not_none c.args.program.now c.args.table.now c.args.name.now c.requires.complete c.requires.there (sym c.operator_for.ensures ∙ ap option_copied c.in-None.is)
