-- A program with its configuration comes to one outcome, with the word `--wide` and without it.
use Rattle.std.proofs.Common.{ℕ, List, Option, Result, Ok, Err}
use Rattle.std.specs.Prelude.{Bool, true, false}
use Rattle.reading_trees.specs.declared.config.Config.{Config}
use Rattle.reading_trees.specs.declared.module.Program.{Program}
use Rattle.names_terms.specs.declared.spec.Spec.{Spec}
use Rattle.names_resolving.specs.Resolved.{IsOneForm}
use Rattle.names_resolving.specs.declared.fault.ResolveFault.{ResolveFault}
use Rattle.names_specification.specs.Behind.{looked_through}
use Rattle.names_specification.specs.Resolving.{ResolvedBy, ResolvedWide, as_it_stands, by_the_one_behind, refused_twice}
use Rattle.names_specification.proofs.Forms.{same_form}
use Rattle.twice_tables.specs.OneOutcome.{HasOneOutcome}
use Rattle.twice_tables.specs.Outcome.{IsSameOutcome}

module _ (one : HasOneOutcome) (p : Program) (c : Config) (silent : Option (List ℕ)) (form : IsOneForm c) where
  behind : IsOneForm (looked_through p c)
  behind = same_form p c form

  -- what stands is resolved before what is looked through, and each of the two has one outcome
  one_outcome_wide : (r q : Result Spec ResolveFault) → ResolvedWide p c silent r → ResolvedWide p c silent q → IsSameOutcome r q
  one_outcome_wide _ _ (as_it_stands s is) (as_it_stands t also) = one p c silent form (Ok s) (Ok t) is also
  one_outcome_wide _ _ (as_it_stands s is) (by_the_one_behind f t strict also) = absurd (one p c silent form (Ok s) (Err f) is strict)
  one_outcome_wide _ _ (as_it_stands s is) (refused_twice f g strict also) = absurd (one p c silent form (Ok s) (Err f) is strict)
  one_outcome_wide _ _ (by_the_one_behind f s strict is) (as_it_stands t also) = absurd (one p c silent form (Err f) (Ok t) strict also)
  one_outcome_wide _ _ (by_the_one_behind f s strict is) (by_the_one_behind g t other also) = one p (looked_through p c) silent behind (Ok s) (Ok t) is also
  one_outcome_wide _ _ (by_the_one_behind f s strict is) (refused_twice g h other also) = absurd (one p (looked_through p c) silent behind (Ok s) (Err h) is also)
  one_outcome_wide _ _ (refused_twice f h strict is) (as_it_stands t also) = absurd (one p c silent form (Err f) (Ok t) strict also)
  one_outcome_wide _ _ (refused_twice f h strict is) (by_the_one_behind g t other also) = absurd (one p (looked_through p c) silent behind (Err h) (Ok t) is also)
  one_outcome_wide _ _ (refused_twice f h strict is) (refused_twice g i other also) = one p c silent form (Err f) (Err g) strict other

pub one_outcome_by : HasOneOutcome → (wide : Bool) (p : Program) (c : Config) (silent : Option (List ℕ)) → IsOneForm c → (r q : Result Spec ResolveFault)
    → ResolvedBy wide p c silent r → ResolvedBy wide p c silent q → IsSameOutcome r q
one_outcome_by one false p c silent form r q a b = one p c silent form r q a b
one_outcome_by one true p c silent form r q a b = one_outcome_wide one p c silent form r q a b
