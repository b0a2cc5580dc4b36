use Rattle.std.proofs.Common.{refl, subst}
use Rattle.std.specs.Prelude.{Err}
use Rattle.values_core.specs.declared.fault.OpFault.{OpFault}
use Rattle.values_core.specs.FunctionOperations.{Excepts}
use Rattle.eval_parts.proofs.changing.put.Goals as goal

pub returns-in-Err-Refused : goal.returns-in-Err-Refused
returns-in-Err-Refused c = (c.in-Err-Refused.field-0-1, subst (λ (e : OpFault). Excepts c.args.layer.now.function.now c.args.layer.now.key c.args.value (Err e)) c.in-Err-Refused.field-0-is c.in-Err-Refused.ensures, refl)
