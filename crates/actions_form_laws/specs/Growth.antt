-- Laws of what an action leaves fixed, by what was fixed before it.
use Rattle.std.specs.Prelude.{◌≡◌, ◌<◌, ◌⊎◌, ℕ, true, ◌||◌, Ok}
use Rattle.names_terms.specs.Terms.{Term}
use Rattle.actions_meanings.specs.Forms.{Setting}
use Rattle.actions_meanings.specs.Reads.{VariableSet}
use Rattle.actions_meanings.specs.Outcomes.{Fixes, IsWholeOutcome}
use Rattle.actions_form_laws.specs.Spoken.{Speaks, SpeaksBelow}

-- each variable of the first is one of the second
abbrev pub Within : VariableSet → VariableSet → Type 0
Within B C = (x : ℕ) → B x ≡ true → C x ≡ true

-- the first has just the variables of the two others
abbrev pub IsUnion : VariableSet → VariableSet → VariableSet → Type 0
IsUnion E C D = (x : ℕ) → E x ≡ (C x || D x)

-- what was fixed before an action stays fixed
abbrev pub FormsGrow : Type 0
FormsGrow = (g : Setting) (a : Term) (B C : VariableSet) → Fixes g a B C → Within B C

-- Where an action has a form from some set, it has one from every larger set, and leaves fixed just what it left fixed before and what the larger
-- set has.
abbrev pub FormsStay : Type 0
FormsStay = (g : Setting) (a : Term) (B C D : VariableSet) → Fixes g a B C → Within B D → (E : VariableSet) × Fixes g a D E × IsUnion E C D

-- from sets of the same variables an action leaves the same variables fixed
abbrev pub FormsAlike : Type 0
FormsAlike = (g : Setting) (a : Term) (B C D : VariableSet) → ((x : ℕ) → B x ≡ D x) → Fixes g a B C → (E : VariableSet) × Fixes g a D E × ((x : ℕ) → E x ≡ C x)

-- What leaves each variable fixed does so from every larger set too, and leaves fixed just what it left fixed before and what the larger set has.
abbrev pub WholeStays : Type 0
WholeStays =
    (g : Setting) (a : Term) (B C D : VariableSet) → IsWholeOutcome g a B (Ok C) → Within B D
    → (E : VariableSet) × IsWholeOutcome g a D (Ok E) × IsUnion E C D × ((x : ℕ) → x < g.variables → E x ≡ true)

-- an action fixes no variable but those of which it speaks
abbrev pub FormsSpeak : Type 0
FormsSpeak = (g : Setting) (a : Term) (B C : VariableSet) → Fixes g a B C → (x : ℕ) → C x ≡ true → (B x ≡ true) ⊎ Speaks g.table a x

-- where it speaks of the specification's variables alone, it fixes no other
abbrev pub FormsWithin : Type 0
FormsWithin =
    (g : Setting) (a : Term) (B C : VariableSet) → SpeaksBelow g.table g.variables a → Fixes g a B C → (x : ℕ) → C x ≡ true → (B x ≡ true) ⊎ (x < g.variables)
