-- Which states are printed, and that they are read again as the same states.
use Rattle.std.specs.Prelude.{◌≡◌, ◌≢◌, ◌<◌, ◌^◌, ◌∷◌, ◌++◌, [], ℕ, List, length, false, All, AllPairs, IsUtf8, Ok}
use Rattle.base_core.specs.declared.place.LineAt.{LineAt}
use Rattle.values_core.specs.IsValue.{IsValue}
use Rattle.states_core.specs.declared.state.Mark.{Mark}
use Rattle.states_core.specs.declared.state.Mark.TheVariants.{Init, Silent, Line}
use Rattle.states_core.specs.declared.state.Shown.{Shown}
use Rattle.states_layers.specs.declared.answer.Answer.TheVariants.{Explained, NotExplained}
use Rattle.states_files.specs.Files.{StateFileSays}
use Rattle.states_files.specs.Lines.{is_shown}
use Rattle.run_texts.specs.Answers.{Named, answer_text, log_name}
use Rattle.run_texts.specs.States.{states_text}

-- names of variables: all different, and texts
pub record AreNames (names : List (List ℕ)) : Type 0 where
  pub differ : AllPairs (λ a b. a ≢ b) names
  pub texts : All IsUtf8 names

-- the file and the line of a mark are numbers of 32 bits
abbrev pub IsMark : Mark → Type 0
IsMark Init = Unit {0}
IsMark Silent = Unit {0}
IsMark (Line at) = (at.file < 2 ^ 32) × (at.line < 2 ^ 32)

-- a value for each of the names, and how the state was reached
pub record IsShown (names : List (List ℕ)) (s : Shown) : Type 0 where
  pub whole : length s.state ≡ length names
  pub values : All IsValue s.state
  pub mark : IsMark s.mark

-- the lines of states are read as these states
abbrev pub StatesReadBack : Type 0
StatesReadBack = (names : List (List ℕ)) (states : List Shown) → AreNames names → All (IsShown names) states → StateFileSays names (states_text names states) (Ok states)

-- no line feed stands in the text
abbrev pub IsOneLine : List ℕ → Type 0
IsOneLine text = All (λ b. b ≢ 10) text

-- the report of a log that is explained is read as its behaviour: the lines before the states are passed over
abbrev pub ExplainedReadsBack : Type 0
ExplainedReadsBack = (l : Named) (behaviour : List Shown) (widest : ℕ) → AreNames l.variables → All (IsShown l.variables) behaviour → All IsOneLine l.unchecked
    → StateFileSays l.variables (answer_text l (Explained behaviour widest)) (Ok behaviour)

-- so is the report of a log that is explained in part
abbrev pub NotExplainedReadsBack : Type 0
NotExplainedReadsBack = (l : Named) (prefix all : ℕ) (next : LineAt) (behaviour : List Shown) → AreNames l.variables → All (IsShown l.variables) behaviour → All IsOneLine l.unchecked
    → IsOneLine (log_name l.logs next.file) → StateFileSays l.variables (answer_text l (NotExplained prefix all next behaviour)) (Ok behaviour)

-- a line that is no state: it does not begin with {
abbrev pub IsAside : List ℕ → Type 0
IsAside line = IsOneLine line × (is_shown line ≡ false)

-- lines, each with a line feed behind it
abbrev pub asides_text : List (List ℕ) → List ℕ
asides_text [] = []
asides_text (line ∷ lines) = line ++ 10 ∷ asides_text lines

-- so is that report with lines behind it that are no states, which are passed over
abbrev pub AsidesReadBack : Type 0
AsidesReadBack = (l : Named) (prefix all : ℕ) (next : LineAt) (behaviour : List Shown) (lines : List (List ℕ)) → AreNames l.variables → All (IsShown l.variables) behaviour
    → All IsOneLine l.unchecked → IsOneLine (log_name l.logs next.file) → All IsAside lines
    → StateFileSays l.variables (answer_text l (NotExplained prefix all next behaviour) ++ asides_text lines) (Ok behaviour)
