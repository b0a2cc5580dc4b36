use Rattle.std.proofs.Common.{refl, subst}
use Rattle.values_core.specs.declared.fault.OpFault.{OpFault}
use Rattle.values_sets.specs.Listings.{Lists}
use Rattle.std.specs.Prelude.{Err}
use Rattle.eval_meanings.specs.declared.fault.EvalFault.TheVariants.{Refused}
use Rattle.eval_meanings.proofs.Telling.{unlisted}
use Rattle.eval_meanings.proofs.describing.list_unlisted.Goals as goal

pub returns-in-Err-Refused : goal.returns-in-Err-Refused
returns-in-Err-Refused c = unlisted c.args.set c.args.at (Err (Refused c.in-Err-Refused.kind c.args.at)) c.requires.unlisted (c.in-Err-Refused.field-0-1, subst (λ (e : OpFault). Lists c.args.set (Err e)) c.in-Err-Refused.field-0-is c.in-Err-Refused.ensures, refl)
