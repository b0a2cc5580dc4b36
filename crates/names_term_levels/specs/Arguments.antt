-- For the prover: what the reading of a use and of its arguments tells.
use Rattle.std.specs.Prelude.{◌≡◌, ◌⊎◌, ◌<◌, ◌+◌, ◌||◌, ◌&&◌, ℕ, Bool, true, List, [], ◌∷◌, Option, Some, None, if◌then◌else◌}
use Rattle.names_terms.specs.declared.level.Level.TheVariants.{Constant}
use Rattle.names_terms.specs.Terms.{Term, level_of, place_of}
use Rattle.names_term_parts.specs.declared.fault.LevelFault.{LevelFault}
use Rattle.names_term_parts.specs.declared.fault.LevelFault.TheVariants.{PrimedArgument}
use Rattle.names_term_levels.specs.declared.note.Note.{Note}
use Rattle.names_term_parts.specs.FaultOrder.{earlier}
use Rattle.names_term_parts.specs.Limits.{is_above}
use Rattle.names_term_parts.specs.Marks.{Absorbs, has}
use Rattle.names_term_parts.specs.Parts.{Part, part}

abbrev pub earlier_of : Option LevelFault → Option LevelFault → Option LevelFault
earlier_of o None = o
earlier_of o (Some g) = earlier o g

-- the arguments from the i-th on of a definition whose parameters stand behind that many slots: those of primed parameters stand under a prime
abbrev pub arguments_from : List Bool → ℕ → Bool → ℕ → List Term → List Part
arguments_from primed outer b i [] = []
arguments_from primed outer b i (e ∷ es) = part (b || has primed (outer + i)) e ∷ arguments_from primed outer b (i + 1) es

-- what is found where an argument of a primed parameter has to be constant
abbrev pub argued : Bool → Term → Option LevelFault → Option LevelFault
argued primed e found = if primed && is_above (level_of e) Constant then earlier found (PrimedArgument (place_of e)) else found

abbrev pub argued_from : List Bool → ℕ → ℕ → List Term → Option LevelFault → Option LevelFault
argued_from primed outer i [] found = found
argued_from primed outer i (e ∷ es) found = argued_from primed outer (i + 1) es (argued (has primed (outer + i)) e found)

-- a note with a definition's slots, of those around it
pub record TakesIn (outer : ℕ) (primed : Bool) (other old new : Note) : Type 0 where
  pub occurs : Absorbs outer old.occurs other.occurs new.occurs
  pub kept : (i : ℕ) → has old.primed i ≡ true → has new.primed i ≡ true
  pub added : (i : ℕ) → i < outer → has other.primed i ≡ true → has new.primed i ≡ true
  pub under : (i : ℕ) → primed ≡ true → i < outer → has other.occurs i ≡ true → has new.primed i ≡ true
  pub sound : (i : ℕ) → has new.primed i ≡ true → (has old.primed i ≡ true) ⊎ ((i < outer) × ((has other.primed i ≡ true) ⊎ ((primed ≡ true) × (has other.occurs i ≡ true))))
  pub fault : new.fault ≡ old.fault
