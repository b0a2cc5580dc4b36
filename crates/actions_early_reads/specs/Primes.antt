-- The last prime among steps: the steps before it, and the terms in the steps behind it.
use Rattle.std.specs.Prelude.{◌≡◌, ◌<◌, ◌+◌, ◌++◌, ℕ, List, [], Option, Some, None, length, take, drop}
use Rattle.std.specs.List.{flat_map}
use Rattle.names_terms.specs.declared.term.StepAt.{StepAt}
use Rattle.names_terms.specs.TermViews.{step_view, steps_of}
use Rattle.names_terms.specs.Terms as term
use Rattle.names_terms.specs.Terms.{Term, Steps, Step}
use Rattle.actions_meanings.specs.Reads.{step_terms}

abbrev pub and_behind : Option (Steps × List Term) → Step → Option (Steps × List Term)
and_behind None s = None
and_behind (Some f) s = Some (f.0, f.1 ++ step_terms s)

abbrev pub last_prime : Steps → Option (Steps × List Term)
last_prime term.NoSteps = None
last_prime (term.MoreSteps ss at term.Prime) = Some (ss, [])
last_prime (term.MoreSteps ss at s) = and_behind (last_prime ss) s

-- the index of the last prime among items
abbrev pub IsLastPrime : List StepAt → Option ℕ → Type 0
IsLastPrime xs None = last_prime (steps_of xs) ≡ None
IsLastPrime xs (Some i) = (i < length xs) × (last_prime (steps_of xs) ≡ Some (steps_of (take i xs), flat_map (λ (s : StepAt). step_terms (step_view s.step)) (drop (i + 1) xs)))
