use Rattle.std.proofs.Common.{sym, subst}
use Rattle.values_core.specs.View.{IsName}
use Rattle.values_core.proofs.Forms.{no_string}
use Rattle.values_core.proofs.value.Value.into_name.Goals as goal

pub unreachable-requires : goal.unreachable-requires
unreachable-requires c = no_string c.self.inside.node c.in_default.not-String (subst IsName (sym c.self.view_is) c.requires)
