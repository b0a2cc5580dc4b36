-- Functions that use themselves, as the code has them, and the first step behind a primary.
use Rattle.std.specs.Prelude.{◌≡◌, List, [], ◌∷◌, Option, Some, None, length}
use Rattle.base_core.specs.declared.place.Place.{Place}
use Rattle.values_core.specs.Data.{Val}
use Rattle.values_core.specs.Functions.{IsSequence}
use Rattle.names_terms.specs.Terms as term
use Rattle.names_terms.specs.Terms.{Term, Step}
use Rattle.eval_meanings.specs.Contexts.{Context, Table, Evaluate, Describe, within}
use Rattle.eval_meanings.specs.Functions.{StepKey}
use Rattle.eval_meanings.specs.Outcomes.{Outcome, Then}
use Rattle.eval_meanings.specs.Recursion.{Recursion as Seen, RecursionEvaluates, applied_by, names_at}
use Rattle.eval_meanings.specs.Reads.{Reading, RecursionReads}
use Rattle.eval_parts.specs.ChangePaths.{HasKey, StepReads, StepsMake, StepsMakeReads, primes_in, under}
use Rattle.eval_parts.specs.declared.recursion.Recursion.{Recursion}

abbrev pub seen : Recursion → Seen
seen g = record { around = g.around; bounds = g.bounds.now; value = g.value.now }

-- that to which the first step gives a key, if there is a step
abbrev pub first_applied : Table → Term → List (Place × Step) → Option Seen
first_applied ops e [] = None
first_applied ops e (x ∷ xs) = applied_by ops e term.NoSteps x.1

-- what steps make of a function that uses itself, to which the first of them gives its key
abbrev pub FirstMakes : Evaluate → Describe → Context → Seen → List (Place × Step) → Outcome Val
FirstMakes evaluate describe c g [] r = ⊥
FirstMakes evaluate describe c g (x ∷ xs) r =
    Then (Then (StepKey evaluate (under (primes_in xs) c) x.0 x.1) (RecursionEvaluates evaluate describe (within g.around (under (primes_in xs) c)) x.0 g)) (StepsMake evaluate c x.0 xs) r

abbrev pub FirstReads : Reading → Context → Seen → List (Place × Step) → Type 0
FirstReads part c g [] = ⊥
FirstReads part c g (x ∷ xs) = HasKey x.1 × StepReads part (under (primes_in xs) c) x.1 × RecursionReads part (under (primes_in xs) c) (Some g) × StepsMakeReads part c xs

-- a key of several names is a sequence
abbrev pub HasNames : List Term → Val → Type 0
HasNames (e ∷ []) key = Unit {0}
HasNames es key = IsSequence key

-- a key has a value for each name
abbrev pub IsKey : List Term → Val → Type 0
IsKey es key = HasNames es key × (length (names_at es key) ≡ length es)
