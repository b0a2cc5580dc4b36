-- What comes of one line, and of one file, read beside two specifications that are alike: all but the numbers of definitions is the same.
use Rattle.std.specs.Prelude.{◌≡◌, List, Result, Ok, Err}
use Rattle.std.specs.List.{AllZip}
use Rattle.names_terms.specs.declared.operator.Operator.{Operator}
use Rattle.logs_updates.specs.declared.line.Line.{Line}
use Rattle.logs_updates.specs.declared.update.See.{See}
use Rattle.logs_lines.specs.declared.clocks.ClockForm.{ClockForm}
use Rattle.logs_lines.specs.declared.kind.LogKind.{LogKind}
use Rattle.logs_lines.specs.declared.kind.Outcome.{Outcome}
use Rattle.logs_lines.specs.declared.kind.Outcome.TheVariants.{Blank, Init, Step, Refused}
use Rattle.logs_lines.specs.declared.file.FileLines.{FileLines}
use Rattle.logs_lines.specs.declared.file.Refusal.{Refusal}
use Rattle.twice_logs.specs.AlikeLogs.{AreAlikeLines}

-- both lines are blank, tell of the same initial state, tell of steps that are alike, or are refused for one reason
pub data AlikeOutcomes (ops all : List Operator) : Outcome → Outcome → Type 0 where
  both_blank : AlikeOutcomes ops all Blank Blank
  both_init : (sees : List See) → AlikeOutcomes ops all (Init sees) (Init sees)
  both_step : (l m : Line) (form : ClockForm) → AreAlikeLines ops all l m → AlikeOutcomes ops all (Step l form) (Step m form)
  both_refused : (why : LogKind) → AlikeOutcomes ops all (Refused why) (Refused why)

-- the same is seen at first, the steps are alike one by one, and the clocks have one form
pub record AreAlikeFiles (ops all : List Operator) (f g : FileLines) : Type 0 where
  pub init : f.init ≡ g.init
  pub steps : AllZip (AreAlikeLines ops all) f.steps g.steps
  pub form : f.form ≡ g.form

-- both files are accepted, or both are refused at one line for one reason
abbrev pub AreAlikeResults : List Operator → List Operator → Result FileLines Refusal → Result FileLines Refusal → Type 0
AreAlikeResults ops all (Ok f) (Ok g) = AreAlikeFiles ops all f g
AreAlikeResults ops all (Err a) (Err b) = a ≡ b
AreAlikeResults ops all r q = ⊥
