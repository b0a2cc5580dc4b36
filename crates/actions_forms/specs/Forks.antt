-- IFs whose other arm is an IF again: each with its first arm, and the place of its other.
use Rattle.std.specs.Prelude.{ℕ, List, [], ◌∷◌}
use Rattle.actions_meanings.specs.Reads.{VariableSet}
use Rattle.actions_meanings.specs.Outcomes.{Arm, FormOutcome, next, together}
use Rattle.actions_forms.specs.declared.forks.Fork.{Fork}
use Rattle.actions_early_reads.specs.Sets.{shown}

-- its two arms, where the other leaves a set fixed
abbrev pub fork_arms : Fork → VariableSet → List Arm
fork_arms c D = record { at = c.at; set = shown c.set } ∷ record { at = c.other; set = D } ∷ []

-- what the outermost leaves fixed, where the other arm of the innermost has an outcome
abbrev pub closed : ℕ → VariableSet → List Fork → FormOutcome → FormOutcome
closed v B [] r = r
closed v B (c ∷ cs) r = next (closed v B cs r) (λ D. together v B (fork_arms c D))
