-- For the prover: what JSON that was read says of its line, and how the reading of a file goes on by one line.
use Rattle.std.specs.Prelude.{◌≡◌, ◌+◌, ℕ, List, ◌∷◌, Option, None, Some, Result, Ok, Err}
use Rattle.serde_json.specs.Data.{Members}
use Rattle.states_core.specs.declared.state.Shown.{Shown}
use Rattle.states_files.specs.Fields.{fields_of}
use Rattle.states_files.specs.Files.{StateLinesSay}
use Rattle.states_files.specs.Lines.{FieldsSay}
use Rattle.states_files.specs.declared.kind.StateLine.{StateLine}
use Rattle.states_files.specs.declared.kind.StateLine.TheVariants.{Refused}
use Rattle.states_files.specs.declared.kind.StateKind.TheVariants.{NotJson}
use Rattle.states_files.specs.declared.refusal.StateRefusal.{StateRefusal}

-- what JSON says that is an object with these members, or none
abbrev pub MembersSay : List (List ℕ) → Option Members → StateLine → Type 0
MembersSay names None o = o ≡ Refused NotJson
MembersSay names (Some ms) o = FieldsSay names (fields_of ms) o

-- what is said behind the states that are found next, is said behind these with the piece before it
abbrev pub WalksOn : List (List ℕ) → ℕ → List Shown → List ℕ → Result (List Shown) StateRefusal → Type 0
WalksOn names number found piece (Ok next) = (rest : List (List ℕ)) (r : Result (List Shown) StateRefusal) → StateLinesSay names (number + 1) next rest r → StateLinesSay names number found (piece ∷ rest) r
WalksOn names number found piece (Err refusal) = (rest : List (List ℕ)) → StateLinesSay names number found (piece ∷ rest) (Err refusal)
