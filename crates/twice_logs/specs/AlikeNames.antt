-- What two specifications that are alike tell a reader of logs.
use Rattle.std.specs.Prelude.{◌≡◌, ℕ, List, Option, Some, None}
use Rattle.names_terms.specs.declared.operator.Operator.{Operator}
use Rattle.twice_terms.specs.Alike.{AlikeRows}
use Rattle.twice_terms.specs.Laws.{AreOne}
use Rattle.logs_updates.specs.declared.update.Update.{Update}
use Rattle.logs_lines.specs.Setting.{Setting}

-- operators that are alike, with as many parameters, or none
pub data AlikeTold (ops all : List Operator) : Option (ℕ × ℕ) → Option (ℕ × ℕ) → Type 0 where
  none_told : AlikeTold ops all None None
  both_told : (k j parameters : ℕ) → AlikeRows AreOne ops all k j → AlikeTold ops all (Some (k, parameters)) (Some (j, parameters))

-- each name tells alike operators and one variable, and of operators that are alike both have a form behind the same updates or neither has
pub record TellAlike (ops all : List Operator) (g h : Setting) : Type 0 where
  pub operators : (name : List ℕ) → AlikeTold ops all (g.operator name) (h.operator name)
  pub variables : (name : List ℕ) → g.variable name ≡ h.variable name
  pub forms : (k j : ℕ) (updates : List Update) → AlikeRows AreOne ops all k j → g.HasForm k updates → h.HasForm j updates
  pub other_forms : (k j : ℕ) (updates : List Update) → AlikeRows AreOne ops all k j → h.HasForm j updates → g.HasForm k updates
