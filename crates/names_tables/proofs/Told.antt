-- What is told of names is what is wrong with them.
use Rattle.std.proofs.Common.{◌≡◌, sym, IfOk, Ok, Err, Result}
use Rattle.std.specs.Prelude.{Option}
use Rattle.names_meanings.specs.declared.fault.NameFault.{NameFault}
use Rattle.names_meanings.specs.Outcomes.{Complains}

pub told_exactly : {E : Type 0} (r : Result (Option NameFault) E) (f : NameFault) (c : Option NameFault) → IfOk r (λ o. (x : Option NameFault) → Complains x f → x ≡ o) → Complains c f → IfOk r (λ o. o ≡ c)
told_exactly (Ok o) f c h q = sym (h c q)
told_exactly (Err e) f c h q = tt
