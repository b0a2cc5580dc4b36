-- What the walks over terms stand in, and what they tell where it is in order. A term that is walked uses definitions
-- below a bound alone, or is constant.
use Rattle.std.specs.Prelude.{◌≡◌, ◌≤◌, ℕ, Option, length}
use Rattle.std.specs.List.{AllByRecursion as Each}
use Rattle.names_terms.specs.Terms.{Term, Steps}
use Rattle.names_term_parts.specs.Slots.{UsesSmaller}
use Rattle.eval_meanings.specs.Contexts.{Table}
use Rattle.actions_meanings.specs.declared.fault.FormFault.{FormFault}
use Rattle.actions_meanings.specs.Forms.{Setting}
use Rattle.actions_meanings.specs.Reads.{VariableSet, reads_primed, path_terms}
use Rattle.actions_meanings.specs.Outcomes.{least, outside, early}
use Rattle.actions_early_reads.specs.declared.walking.Walk.{Walk}
use Rattle.actions_early_reads.specs.Keeping.{AreKept, Fits}

abbrev pub table_of : Walk → Table
table_of w = w.operators.now

abbrev pub setting_of : Walk → Setting
setting_of w = record { which = w.which; variables = w.variables; table = table_of w }

pub record IsReady (w : Walk) : Type 0 where
  pub few : w.variables ≤ 64
  pub smaller : UsesSmaller (table_of w)
  pub whole : length w.reads.items ≡ length (table_of w)
  pub kept : AreKept (table_of w) w.variables w.reads.items

-- the term is in order, where k levels suffice
pub record IsWalked (w : Walk) (bound k : ℕ) (e : Term) : Type 0 where
  pub ready : IsReady w
  pub within : bound ≤ length (table_of w)
  pub fits : Fits (table_of w) w.variables bound k e

-- the least variable that the term reads under a prime, with steps behind it, and that is not fixed
abbrev pub TellsUnread : Walk → ℕ → VariableSet → Term → Steps → Option ℕ → Type 0
TellsUnread w bound B e ss o = (k : ℕ) → IsWalked w bound k e → Each (Fits (table_of w) w.variables bound k) (path_terms ss) → least w.variables (outside B (reads_primed (table_of w) k e ss)) ≡ o

-- the first read that is too early
abbrev pub TellsEarly : Walk → ℕ → VariableSet → Term → Option FormFault → Type 0
TellsEarly w bound B e o = (k : ℕ) → IsWalked w bound k e → early (setting_of w) B k e ≡ o
