-- A literal of the code as its tree.
use Rattle.std.specs.Prelude.{ℕ, suc, List}
use Rattle.reading_trees.specs.Lits.{Lit, lits_of, list_of, depth_of, number, str, truth, model, set}
use Rattle.reading_trees.specs.declared.config.Literal.{Literal}
use Rattle.reading_trees.specs.declared.config.Literal.TheVariants.{Number, Str, Truth, Model, Set}

abbrev pub lit_of : Literal → Lit
lit_of (Number z) = number z
lit_of (Str s) = str s
lit_of (Truth b) = truth b
lit_of (Model s) = model s
lit_of (Set ls) = set (lits_of ls)

-- the literal of a tree
abbrev pub literal : Lit → Literal
literal (number z) = Number z
literal (str s) = Str s
literal (truth b) = Truth b
literal (model s) = Model s
literal (set ls) = Set (list_of ls)

-- how deep sets stand inside each other in a list
abbrev pub depth_in : List Lit → ℕ
depth_in ls = suc (depth_of (lits_of ls))
