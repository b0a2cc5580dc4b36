-- What is so of each line and each file.
use Rattle.std.specs.Prelude.{◌≡◌, ℕ, List, Result}
use Rattle.std.specs.declared.cmp.Ordering.TheVariants.{Less}
use Rattle.std.specs.Cmp.Lexicographic.{slice_cmp}
use Rattle.std.specs.Ordering.{nat_cmp}
use Rattle.serde_json.specs.Data.{Members, no_members, member}
use Rattle.states_core.specs.declared.state.Shown.{Shown}
use Rattle.states_files.specs.Lines.{IsObject, StateLineSays}
use Rattle.states_files.specs.Files.{StateFileSays}
use Rattle.states_files.specs.declared.kind.StateLine.{StateLine}
use Rattle.states_files.specs.declared.refusal.StateRefusal.{StateRefusal}

-- no line has two outcomes
abbrev pub StateLineSaysOne : Type 0
StateLineSaysOne = (names : List (List ℕ)) (line : List ℕ) (o p : StateLine) → StateLineSays names line o → StateLineSays names line p → o ≡ p

-- no file has two
abbrev pub StateFileSaysOne : Type 0
StateFileSaysOne = (names : List (List ℕ)) (bytes : List ℕ) (r s : Result (List Shown) StateRefusal) → StateFileSays names bytes r → StateFileSays names bytes s → r ≡ s

-- the bytes of each key are above those of k
abbrev pub KeysAbove : List ℕ → Members → Type 0
KeysAbove k no_members = Unit {0}
KeysAbove k (member l d ms) = (slice_cmp nat_cmp k l ≡ Less) × KeysAbove k ms

abbrev pub Ascend : Members → Type 0
Ascend no_members = Unit {0}
Ascend (member k d ms) = KeysAbove k ms × Ascend ms

-- the keys of a line's object ascend, so that the first of those that are too many is the least
abbrev pub KeysAscend : Type 0
KeysAscend = (line : List ℕ) (ms : Members) → IsObject line ms → Ascend ms
