-- What one answer is, at another description of the same.
use Rattle.std.proofs.Common.{◌≡◌, List, IfOk, Result, Ok, Err, sym, subst}
use Rattle.reading_machine.specs.Machine as machine
use Rattle.reading_open_rows.specs.Does.{Does}
use Rattle.reading_machine.specs.declared.frame.Frame.{Frame}
use Rattle.reading_open_rows.specs.declared.stepped.Stepped.{Stepped}

pub does_same : {E : Type 0} (r : Result Stepped E) (fs : List Frame) (a b : machine.Stepped) → a ≡ b → IfOk r (λ s. Does s fs b) → IfOk r (λ s. Does s fs a)
does_same r fs a b p h = subst (λ d. IfOk r (λ s. Does s fs d)) (sym p) h

-- an answer that holds whatever the frames are
pub does_with : {E : Type 0} (r : Result Stepped E) (fs : List Frame) (b : List Frame → machine.Stepped) → IfOk r (λ s. (gs : List Frame) → Does s gs (b gs)) → IfOk r (λ s. Does s fs (b fs))
does_with (Ok s) fs b h = h fs
does_with (Err x) fs b h = tt
