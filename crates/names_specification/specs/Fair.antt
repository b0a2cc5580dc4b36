-- Which trees say fairness: WF or SF, `\A` over such, a conjunction of such, or the name of an operator without parameters that is such, within a number
-- of levels. Parentheses are not seen through, nor is a name for which the configuration gives something: there it is not its definition that counts.
use Rattle.std.specs.Prelude.{ℕ, zero, suc, Bool, true, false, List, [], ◌∷◌, ◌++◌, Option, None, Some, if◌then◌else◌, is_some}
use Rattle.std.specs.List.{list_all}
use Rattle.reading_trees.specs.TreeLists.{operands_list, trees_list}
use Rattle.reading_trees.specs.Trees.{Tree, Name, Junction, Infix, Quantified, Fairness}
use Rattle.reading_trees.specs.declared.config.Config.{Config}
use Rattle.reading_trees.specs.declared.expr.Definition.{Definition}
use Rattle.reading_trees.specs.declared.laid.Bullet.TheVariants as bullet
use Rattle.reading_trees.specs.declared.module.Program.{Program}
use Rattle.reading_trees.specs.declared.operators.InfixOperator.TheVariants as infix_operator
use Rattle.reading_trees.specs.declared.operators.Quantifier.TheVariants as quantifier
use Rattle.names_program.specs.Names.{given_for}
use Rattle.names_resolving.specs.Configured.{operator_named}

-- the conjuncts of a chain or a list, and else the tree itself
abbrev pub conjuncts : Tree → List Tree
conjuncts (Infix at infix_operator.And os e) = operands_list os ++ e ∷ []
conjuncts (Junction at bullet.And ts) = trees_list ts
conjuncts t = t ∷ []

-- the configuration gives something for the name
abbrev pub is_given : Config → List ℕ → Bool
is_given c n = is_some (given_for c.givens n)

-- the definition without parameters that has the name, where the configuration gives nothing for it
abbrev pub operator_kept : Program → Config → List ℕ → Option Definition
operator_kept p c n = if is_given c n then None else operator_named p n

abbrev pub body_is : (Tree → Bool) → Option Definition → Bool
body_is f None = false
body_is f (Some d) = f d.body

-- by what is so of the trees and bodies inside
abbrev pub fair_row : (Tree → Bool) → Program → Config → Tree → Bool
fair_row inner p c (Fairness at v e) = true
fair_row inner p c (Quantified at quantifier.ForAll bs e) = inner e
fair_row inner p c (Infix at infix_operator.And os e) = list_all inner (conjuncts (Infix at infix_operator.And os e))
fair_row inner p c (Junction at bullet.And ts) = list_all inner (conjuncts (Junction at bullet.And ts))
fair_row inner p c (Name at n) = body_is inner (operator_kept p c n)
fair_row inner p c t = false

abbrev pub is_fair : ℕ → Program → Config → Tree → Bool
is_fair zero p c t = false
is_fair (suc d) p c t = fair_row (is_fair d p c) p c t
