use Rattle.std.proofs.Common.{subst, List}
use Rattle.std.specs.Prelude.{ℕ, Contains}
use Rattle.std.specs.Map.{values_of}
use Rattle.actions_forms.specs.declared.endings.Ending.{Ending}
use Rattle.actions_forms.proofs.Known.{value-inserted}
use Rattle.actions_forms.proofs.endings.Endings.noted.Goals as goal

pub returns-in-Ok-clause-noted : goal.returns-in-Ok-clause-noted
returns-in-Ok-clause-noted c e has = value-inserted _ _ _ _ e (subst (λ (rows : List ((ℕ × ℕ) × Ending)). Contains (values_of rows) e) c.in-Ok.ensures.entries has)
