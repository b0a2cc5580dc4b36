-- What comes of a program with its configuration, where `--wide` is asked for and where it is not. It is resolved as it stands first, so that nothing changes
-- for what is accepted so.
use Rattle.std.specs.Prelude.{ℕ, Bool, true, false, List, Option, Result, Ok, Err}
use Rattle.reading_trees.specs.declared.config.Config.{Config}
use Rattle.reading_trees.specs.declared.module.Program.{Program}
use Rattle.names_terms.specs.declared.spec.Spec.{Spec}
use Rattle.names_resolving.specs.Resolved.{Resolved}
use Rattle.names_resolving.specs.declared.fault.ResolveFault.{ResolveFault}
use Rattle.names_resolving.specs.declared.fault.ResolveFault.TheVariants.{NoMemory}
use Rattle.names_specification.specs.Behind.{looked_through}

pub data ResolvedWide (p : Program) (c : Config) (silent : Option (List ℕ)) : Result Spec ResolveFault → Type 0 where
  -- as it stands
  as_it_stands : (s : Spec) → Resolved p c silent (Ok s) → ResolvedWide p c silent (Ok s)
  -- or, where it is refused so, by the operator that the one behind SPECIFICATION stands for
  by_the_one_behind : (refusal : ResolveFault) (s : Spec) → Resolved p c silent (Err refusal) → Resolved p (looked_through p c) silent (Ok s)
      → ResolvedWide p c silent (Ok s)
  -- where that is refused too, the first refusal stands
  refused_twice : (refusal other : ResolveFault) → Resolved p c silent (Err refusal) → Resolved p (looked_through p c) silent (Err other)
      → ResolvedWide p c silent (Err refusal)

-- with the word `--wide`, and without it
abbrev pub ResolvedBy : Bool → Program → Config → Option (List ℕ) → Result Spec ResolveFault → Type 0
ResolvedBy true = ResolvedWide
ResolvedBy false = Resolved

-- what resolving answers: what comes of the program, or that memory is wanting
abbrev pub AnswersBy : Bool → Program → Config → Option (List ℕ) → Result Spec ResolveFault → Type 0
AnswersBy wide p c silent (Ok s) = ResolvedBy wide p c silent (Ok s)
AnswersBy wide p c silent (Err NoMemory) = Unit {0}
AnswersBy wide p c silent (Err f) = ResolvedBy wide p c silent (Err f)
