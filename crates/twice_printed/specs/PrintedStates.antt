-- What is printed of a log that is explained, read again and judged.
use Rattle.std.specs.Prelude.{◌≡◌, ℕ, List, All, IsUtf8, Ok}
use Rattle.states_core.specs.declared.state.Shown.{Shown}
use Rattle.names_terms.specs.declared.spec.Spec.{Spec}
use Rattle.steps_lines_defs.specs.Logs.{Asked}
use Rattle.logs_tied.specs.declared.logs.Lined.{Lined}
use Rattle.states_layers.specs.declared.answer.Answer.TheVariants.{Explained}
use Rattle.states_files.specs.Files.{StateFileSays}
use Rattle.twice_printed.specs.StateFiles.{IsOneLine}
use Rattle.states_verdicts.specs.declared.verdict.Verdict.TheVariants.{Valid}
use Rattle.run_texts.specs.Answers.{Named, answer_text}
use Rattle.steps_lined.specs.Answers.{IsTrueOf}
use Rattle.judge_verdicts.specs.Lined.{IsJudgedOf}
use Rattle.steps_lined.specs.Held.{ArePlaced}

-- what a report names is that of the specification, its names are texts, no line feed stands in what is not checked, and the lines have their places
pub record IsPrinted (l : Named) (g : Spec) (lined : Lined) : Type 0 where
  pub variables : l.variables ≡ g.variables
  pub texts : All IsUtf8 g.variables
  pub unchecked : All IsOneLine l.unchecked
  pub places : ArePlaced lined

-- The report of a log that is explained says its behaviour, as a file of states, and that behaviour is valid.
abbrev pub PrintedIsValid : Spec → Lined → Asked → Type 0
PrintedIsValid g lined asked = (l : Named) (w : List Shown) (widest : ℕ) → IsPrinted l g lined → IsTrueOf g asked lined (Explained w widest)
    → StateFileSays g.variables (answer_text l (Explained w widest)) (Ok w) × IsJudgedOf g asked lined w Valid
