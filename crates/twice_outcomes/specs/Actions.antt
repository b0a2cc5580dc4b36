-- Actions are the same over two alike tables: laws.
use Rattle.std.specs.Prelude.{ℕ}
use Rattle.states_core.specs.declared.fault.Fault.{Fault}
use Rattle.names_terms.specs.Terms.{Term}
use Rattle.eval_meanings.specs.Contexts.{Context}
use Rattle.actions_meanings.specs.Fails.{Fails}
use Rattle.actions_meanings.specs.Forms.{Setting}
use Rattle.actions_meanings.specs.Holds.{Holds}
use Rattle.actions_meanings.specs.Outcomes.{FormOutcome, Fixes, IsOutcome, IsWholeOutcome}
use Rattle.actions_meanings.specs.Reads.{VariableSet}
use Rattle.twice_outcomes.specs.AlikeSettings.{AreAlikeSettings, AreAlikeIn}

-- an action that holds of two states holds of them over the other table too
abbrev pub HoldsAlike : Type 0
HoldsAlike = (g h : Setting) → AreAlikeSettings g h → (d : ℕ) (c : Context) (a b : Term) → AreAlikeIn g h a b → Holds g d c a → Holds h d c b

-- what an action leaves fixed, or what is wrong with its form
abbrev pub OutcomesAlike : Type 0
OutcomesAlike = (g h : Setting) → AreAlikeSettings g h → (a b : Term) → AreAlikeIn g h a b → (B : VariableSet) (r : FormOutcome) → IsOutcome g a B r → IsOutcome h b B r

abbrev pub FixesAlike : Type 0
FixesAlike = (g h : Setting) → AreAlikeSettings g h → (a b : Term) → AreAlikeIn g h a b → (B C : VariableSet) → Fixes g a B C → Fixes h b B C

abbrev pub WholeAlike : Type 0
WholeAlike = (g h : Setting) → AreAlikeSettings g h → (a b : Term) → AreAlikeIn g h a b → (B : VariableSet) (r : FormOutcome) → IsWholeOutcome g a B r → IsWholeOutcome h b B r

-- the faults that an action has
abbrev pub FailsAlike : Type 0
FailsAlike =
    (g h : Setting) → AreAlikeSettings g h → (d : ℕ) (B : VariableSet) (c : Context) (a b : Term) (f : Fault) → AreAlikeIn g h a b → Fails g d B c a f → Fails h d B c b f
