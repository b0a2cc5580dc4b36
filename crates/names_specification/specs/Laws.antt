-- What the word changes of what comes of a program, and what it does not.
use Rattle.std.specs.Prelude.{ℕ, List, Option, Ok, Err}
use Rattle.reading_trees.specs.declared.config.Config.{Config}
use Rattle.reading_trees.specs.declared.module.Program.{Program}
use Rattle.names_terms.specs.declared.spec.Spec.{Spec}
use Rattle.names_resolving.specs.Resolved.{Resolved}
use Rattle.names_resolving.specs.declared.fault.ResolveFault.{ResolveFault}
use Rattle.names_specification.specs.Resolving.{ResolvedWide}

-- what is accepted without the word is the same with it
abbrev pub AcceptedIsSame : Type 0
AcceptedIsSame = (p : Program) (c : Config) (silent : Option (List ℕ)) (s : Spec) → Resolved p c silent (Ok s) → ResolvedWide p c silent (Ok s)

-- what is refused with the word is refused the same without it
abbrev pub RefusedIsSame : Type 0
RefusedIsSame = (p : Program) (c : Config) (silent : Option (List ℕ)) (f : ResolveFault) → ResolvedWide p c silent (Err f) → Resolved p c silent (Err f)
