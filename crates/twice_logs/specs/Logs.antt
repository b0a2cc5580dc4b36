-- Logs that are read beside two specifications that are alike are alike.
use Rattle.std.specs.Prelude.{ℕ, List, Result}
use Rattle.std.specs.List.{AllZip}
use Rattle.names_terms.specs.declared.operator.Operator.{Operator}
use Rattle.names_terms.specs.declared.spec.Spec.{Spec}
use Rattle.names_specification_laws.specs.IsSpec.{IsSpec}
use Rattle.twice_tables.specs.Outcome.{AreAlike}
use Rattle.logs_updates.specs.declared.line.Log.{Log}
use Rattle.logs_lines.specs.Files.{FileSays}
use Rattle.logs_lines.specs.declared.file.FileLines.{FileLines}
use Rattle.logs_lines.specs.declared.file.Refusal.{Refusal}
use Rattle.logs_lines.specs.declared.position.Position.{Position}
use Rattle.logs_files.specs.Logs.{IsLogOf}
use Rattle.steps_names.specs.Names.{names_of}
use Rattle.twice_logs.specs.AlikeLogs.{AreAlikeLogs}
use Rattle.twice_logs.specs.AlikeFiles.{AreAlikeFiles, AreAlikeResults}
use Rattle.twice_logs.specs.AlikeNames.{TellAlike}

-- the same is told of names
abbrev pub NamesTellAlike : Type 0
NamesTellAlike = (s t : Spec) → IsSpec s → IsSpec t → AreAlike s t → TellAlike s.operators t.operators (names_of s) (names_of t)

-- what one text says is alike
abbrev pub FilesSayAlike : Type 0
FilesSayAlike =
    (s t : Spec) → IsSpec s → IsSpec t → AreAlike s t → (at : Position) (text : List ℕ) (r q : Result FileLines Refusal) → FileSays (names_of s) at text r → FileSays (names_of t) at text q
    → AreAlikeResults s.operators t.operators r q

-- files that are alike one by one have logs that are alike
abbrev pub LogsAreAlike : Type 0
LogsAreAlike =
    (ops all : List Operator) (files others : List FileLines) (log other : Log) → AllZip (AreAlikeFiles ops all) files others → IsLogOf files log → IsLogOf others other
    → AreAlikeLogs ops all log other
