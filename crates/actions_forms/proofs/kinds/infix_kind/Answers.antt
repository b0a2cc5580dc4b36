use Rattle.std.proofs.Common.{◌∙◌, sym}
use Rattle.actions_forms.proofs.Choosing.{chained}
use Rattle.actions_forms.proofs.kinds.infix_kind.Goals as goal

pub returns-then-not-is_empty : goal.returns-then-not-is_empty
returns-then-not-is_empty c = chained c.args.which c.args.operator c.parts.result.0.now c.args.value.now c.parts.result.1.now c.args.operands.now c.parts.ensures (sym c.is_empty.ensures ∙ c.if-not-is_empty.true)
