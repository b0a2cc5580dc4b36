-- What the code answers to one laid token.
use Rattle.std.specs.Prelude.{◌≡◌, List, reverse}
use Rattle.reading_trees.specs.Trees.{Tree, Operands}
use Rattle.reading_trees.specs.TreeViews.{operands_of}
use Rattle.reading_trees.specs.declared.expr.Operand.{Operand}
use Rattle.reading_machine.specs.Machine as machine
use Rattle.reading_machine.specs.declared.frame.Frame.{Frame}
use Rattle.reading_open_rows.specs.declared.counted.Stack.{Stack}
use Rattle.reading_open_rows.specs.declared.stepped.Stepped.{Stepped}
use Rattle.reading_open_rows.specs.declared.stepped.Stepped.TheVariants.{Reads, Stops, Clashes, Ends, EndsDefinition}
use Rattle.reading_open_rows.specs.declared.stepped.Joined.{Joined}
use Rattle.reading_open_rows.specs.declared.stepped.Joined.TheVariants.{Joins, Meets}

-- this answer, and these frames behind it, are what the token does
abbrev pub Does : Stepped → List Frame → machine.Stepped → Type 0
Does (Reads m) fs does = does ≡ machine.Reads fs m
Does Stops fs does = does ≡ machine.Stops
Does (Clashes p q) fs does = does ≡ machine.Clashes p q
Does (Ends e) fs does = does ≡ machine.Ends e
Does (EndsDefinition d) fs does = does ≡ machine.EndsDefinition d.name d.at d.params d.form d.body

abbrev pub joined_view : Joined → machine.Joined Tree
joined_view (Joins e) = machine.Joins e
joined_view (Meets p) = machine.Meets p

-- the operands that begin with what was joined
abbrev pub with_others : machine.Joined Tree → List Operand → machine.Joined Operands
with_others (machine.Joins e) others = machine.Joins (operands_of e others)
with_others (machine.Meets p) others = machine.Meets p

-- the frames of a stack, the innermost first
abbrev pub frames_in : Stack → List Frame
frames_in s = reverse s.frames.items
