-- For the prover: how the reading of the files goes on by one file.
use Rattle.std.specs.Prelude.{ℕ, List, ◌∷◌, Bool, Result, Ok, Err, Vec}
use Rattle.std.specs.declared.alloc.Global.{Global}
use Rattle.logs_lines.specs.Setting.{Setting}
use Rattle.logs_lines.specs.declared.file.FileLines.{FileLines}
use Rattle.logs_files.specs.Logs.{FilesSay}
use Rattle.logs_files.specs.declared.logs.LogRefusal.{LogRefusal}
use Rattle.logs_files.specs.declared.files.Reading.{Reading}

-- what these texts say behind the reading
abbrev pub Behind : Setting → Bool → Reading → List (List ℕ) → Result (List FileLines) LogRefusal → Type 0
Behind g many reading = FilesSay g many reading.file reading.left reading.form reading.found.items

-- what is said behind the next reading is said behind this one with the text before it
abbrev pub ReadsOn : Setting → Bool → Reading → List ℕ → Result Reading LogRefusal → Type 0
ReadsOn g many reading text (Ok next) = (rest : List (List ℕ)) (r : Result (List FileLines) LogRefusal) → Behind g many next rest r → Behind g many reading (text ∷ rest) r
ReadsOn g many reading text (Err refusal) = (rest : List (List ℕ)) → Behind g many reading (text ∷ rest) (Err refusal)

abbrev pub found_items : Result (Vec FileLines Global) LogRefusal → Result (List FileLines) LogRefusal
found_items (Ok found) = Ok found.items
found_items (Err refusal) = Err refusal
