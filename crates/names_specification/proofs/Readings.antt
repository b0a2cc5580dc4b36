-- By which configuration a specification is resolved, or refused.
use Rattle.std.proofs.Common.{◌≡◌, refl, ℕ, List, Option, Ok, Err}
use Rattle.std.specs.Prelude.{Bool, true, false}
use Rattle.reading_trees.specs.declared.config.Config.{Config}
use Rattle.reading_trees.specs.declared.module.Program.{Program}
use Rattle.names_terms.specs.declared.spec.Spec.{Spec}
use Rattle.names_resolving.specs.Resolved.{Resolved}
use Rattle.names_resolving.specs.declared.fault.ResolveFault.{ResolveFault}
use Rattle.names_specification.specs.Behind.{looked_through}
use Rattle.names_specification.specs.Resolving.{ResolvedBy, ResolvedWide, as_it_stands, by_the_one_behind, refused_twice}

-- the one that was given, or one that leaves the same unchecked
pub record ResolvedWith (p : Program) (c : Config) (silent : Option (List ℕ)) (s : Spec) : Type 0 where
  pub config : Config
  pub unchecked : config.unchecked ≡ c.unchecked
  pub is : Resolved p config silent (Ok s)

pub resolved_with : (wide : Bool) (p : Program) (c : Config) (silent : Option (List ℕ)) (s : Spec) → ResolvedBy wide p c silent (Ok s) → ResolvedWith p c silent s
resolved_with false p c silent s is = record { config = c; unchecked = refl; is = is }
resolved_with true p c silent _ (as_it_stands s is) = record { config = c; unchecked = refl; is = is }
resolved_with true p c silent _ (by_the_one_behind refusal s strict is) = record { config = looked_through p c; unchecked = refl; is = is }

pub refused_strictly : (p : Program) (c : Config) (silent : Option (List ℕ)) (f : ResolveFault) → ResolvedWide p c silent (Err f) → Resolved p c silent (Err f)
refused_strictly p c silent _ (refused_twice f other strict also) = strict
