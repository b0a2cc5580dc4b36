-- That no token stands inside too many unfinished constructs.
--
-- The tokens before a token are read as rows of the grammar that are open. Directly behind a `{`, or behind a `[` that begins an expression, a
-- name and `\in` are read so in two ways: as those of a binder, or as an operand and its operator, which is one unfinished construct more. Such
-- a `\in` is never counted, so the reading with the fewest tells.
use Rattle.std.specs.Prelude.{◌≡◌, ℕ, Bool, true, false, ◌≤◌, List, [], ◌∷◌, ◌++◌}
use Rattle.reading_trees.specs.declared.laid.Laid.{Laid}
use Rattle.reading_trees.specs.Grammar.{◌⨟◌}
use Rattle.reading_machine.specs.declared.frame.Frame.{Frame}
use Rattle.reading_machine.specs.declared.frame.Mode.{Mode}
use Rattle.reading_machine.specs.OpenFits.{FramesFit, FramesStand, ModeFits, ModeStands, Outermost, in_mode}
use Rattle.reading_machine.specs.OpenRows.{FramesText, ModeText}
use Rattle.reading_open_rows.specs.Unfinished.{unfinished}

-- how many unfinished constructs a token may stand inside
abbrev pub deepest : ℕ
deepest = 100

-- the tokens are the beginning of a text, of a unit's definition or of an expression, in which these rows are open
pub record AreOpen (unit : Bool) (read : List Laid) (rows : List Frame) (expected : Mode) : Type 0 where
  pub text : (FramesText rows ⨟ ModeText expected) read []
  pub fit : FramesFit rows × ModeFits expected rows
  pub stand : FramesStand rows × ModeStands expected rows
  pub outermost : Outermost unit rows (in_mode expected)

-- a token behind these stands inside at most so many
abbrev pub IsShallow : Bool → List Laid → Type 0
IsShallow unit read = (rows : List Frame) × (expected : Mode) × AreOpen unit read rows expected × (unfinished rows expected ≤ deepest)

-- each token of the beginning of a text stands inside at most so many
abbrev pub AreShallow : Bool → List Laid → Type 0
AreShallow unit read = (before after : List Laid) (x : Laid) → read ≡ before ++ x ∷ after → IsShallow unit before

-- of an expression
abbrev pub Shallow : List Laid → Type 0
Shallow read = AreShallow false read

-- of a unit's definition
abbrev pub ShallowDefinition : List Laid → Type 0
ShallowDefinition read = AreShallow true read
