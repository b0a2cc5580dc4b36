-- Constant levels.
use Rattle.std.specs.Prelude.{◌≡◌, ◌⊎◌, ℕ, Bool, true, false}
use Rattle.names_terms.specs.declared.level.Level.{Level}
use Rattle.names_terms.specs.declared.level.Level.TheVariants as levels
use Rattle.names_terms.specs.Terms.{Term, level_of}
use Rattle.names_term_parts.specs.Slots.{MentionsBelow}

abbrev pub is_constant : Level → Bool
is_constant levels.Constant = true
is_constant l = false

-- the term uses definitions below n alone, or it is constant, so that it is never taken apart
abbrev pub StaysBelow : ℕ → Term → Type 0
StaysBelow n e = (level_of e ≡ levels.Constant) ⊎ MentionsBelow n e
