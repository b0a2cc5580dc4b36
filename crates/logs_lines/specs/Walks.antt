-- For the prover: how the reading of a file goes on by one line.
use Rattle.std.specs.Prelude.{◌≡◌, ◌≤◌, ◌+◌, ℕ, List, ◌∷◌, Result, Ok, Err}
use Rattle.logs_lines.specs.Setting.{Setting}
use Rattle.logs_lines.specs.Files.{LinesSay}
use Rattle.logs_lines.specs.declared.file.FileLines.{FileLines}
use Rattle.logs_lines.specs.declared.file.Refusal.{Refusal}
use Rattle.logs_lines.specs.declared.file.Walk.{Walk}

-- what is said behind the next walk is said behind this one with the piece before it
abbrev pub WalksOn : Setting → Walk → List ℕ → Result Walk Refusal → Type 0
WalksOn g walk piece (Ok next) = (rest : List (List ℕ)) (r : Result FileLines Refusal) → LinesSay g next.at next.found rest r → LinesSay g walk.at walk.found (piece ∷ rest) r
WalksOn g walk piece (Err refusal) = (rest : List (List ℕ)) → LinesSay g walk.at walk.found (piece ∷ rest) (Err refusal)

abbrev pub IsCounted : Walk → Walk → Type 0
IsCounted walk next = (next.at.line ≡ walk.at.line + 1) × (next.at.steps ≤ walk.at.steps + 1)
