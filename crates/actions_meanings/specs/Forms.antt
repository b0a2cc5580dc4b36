-- How a term is taken apart as an action (this project's profile; Lamport, Specifying Systems, 14.2.6, has the like for TLC). In Init a term of
-- level 1 is taken apart too, and `x = e` there says what `x' = e` says in an action. A term of a lower level is one test, and so is each
-- term that no row names.
use Rattle.std.specs.Prelude.{◌≡◌, ℕ, Bool, true, false, List, [], ◌∷◌, map, length, Option, Some, None, if◌then◌else◌}
use Rattle.base_core.specs.declared.place.Place.{Place}
use Rattle.reading_trees.specs.declared.operators.PrefixOperator.{PrefixOperator}
use Rattle.reading_trees.specs.declared.operators.PrefixOperator.TheVariants as prefix
use Rattle.reading_trees.specs.declared.operators.InfixOperator.{InfixOperator}
use Rattle.reading_trees.specs.declared.operators.InfixOperator.TheVariants as infix_operator
use Rattle.reading_trees.specs.declared.operators.Quantifier.TheVariants as quantifier
use Rattle.names_terms.specs.declared.level.Level.{Level}
use Rattle.names_terms.specs.declared.level.Level.TheVariants as levels
use Rattle.names_terms.specs.Lists.{terms_list, arms_list}
use Rattle.names_terms.specs.Terms as term
use Rattle.names_terms.specs.Terms.{Term, Placed, Meaning, Terms, Bounds}
use Rattle.eval_meanings.specs.Contexts.{Table}
use Rattle.eval_meanings.specs.Unchanged.{behind, unchanged_of}
use Rattle.actions_meanings.specs.declared.which.Which.{Which}
use Rattle.actions_meanings.specs.declared.which.Which.TheVariants as which

-- what is taken apart: Init or an action, of a specification with so many variables and these definitions
pub record Setting : Type 0 where
  pub which : Which
  pub variables : ℕ
  pub table : Table

pub data Form : Type 0 where
  -- it holds where its value is TRUE
  test : Form
  -- the variable has the value of the term, or a member of the set that the term means
  assign : ℕ → Term → Form
  choose : ℕ → Term → Form
  -- all of them hold, in this order; or one of them
  both : List Term → Form
  either : List Term → Form
  -- all hold, each with so many of the slots in scope
  narrowed : ℕ → List Term → Form
  -- the term holds for some values of the bound names
  some : Bounds → Term → Form
  -- the second holds where the first is true, and the third where it is false
  branch : Term → Term → Term → Form
  -- what stands behind the first test that is true, or the last holds
  arms : List (Term × Term) → Option Term → Form
  -- the term holds
  inside : Term → Form
  -- the body of the definition holds of the arguments
  call : ℕ → List Term → Form
  -- the first holds, and the value of the second changes
  changing : Term → Term → Form

-- the variable of whose value an equation or a membership with this left side speaks
abbrev pub target : Which → Term → Option ℕ
target which.Init (Placed at l (term.Variable x)) = Some x
target which.Action (Placed at l (term.Postfix (Placed q k (term.Variable x)) term.NoSteps term.Prime)) = Some x
target w e = None

abbrev pub infix_form : InfixOperator → Option ℕ → Term → Form
infix_form infix_operator.Equal (Some x) e = assign x e
infix_form infix_operator.Member (Some x) e = choose x e
infix_form o x e = test

-- UNCHANGED, by what stands behind the name that its operand may be: `x' = x` of a variable, of a tuple that each of its parts is unchanged, and
-- of anything else the test that its value stays the same
abbrev pub unchanged_form : Place → ℕ × Term → Form
unchanged_form at (m, Placed p l (term.Variable x)) = assign x (Placed at levels.State (term.Variable x))
unchanged_form at (m, Placed p l (term.Tuple ts)) = narrowed m (map (unchanged_of at) (terms_list ts))
unchanged_form at (m, e) = test

-- with so many slots in scope
abbrev pub meaning_form : Setting → ℕ → Place → Meaning → Form
meaning_form g n at (term.All ts) = both (terms_list ts)
meaning_form g n at (term.Any ts) = either (terms_list ts)
meaning_form g n at (term.Quantified quantifier.Exists bs e) = some bs e
meaning_form g n at (term.If p e f) = branch p e f
meaning_form g n at (term.Case cs) = arms (arms_list cs) None
meaning_form g n at (term.CaseOther cs e) = arms (arms_list cs) (Some e)
meaning_form g n at (term.Scoped ks e) = inside e
meaning_form g n at (term.Parenthesized e) = inside e
meaning_form g n at (term.Use k ts) = call k (terms_list ts)
meaning_form g n at (term.BoxAction e v) = either (e ∷ unchanged_of at v ∷ [])
meaning_form g n at (term.AngleAction e v) = changing e v
meaning_form g n at (term.Prefix prefix.Unchanged e) = unchanged_form at (behind g.table (length g.table) n e)
meaning_form g n at (term.Infix o (term.First e) f) = infix_form o (target g.which e) f
meaning_form g n at m = test

-- whether terms of that level are taken apart
abbrev pub is_taken : Which → Level → Bool
is_taken which.Init levels.State = true
is_taken w levels.Action = true
is_taken w l = false

abbrev pub form : Setting → ℕ → Term → Form
form g n (Placed at l m) = if is_taken g.which l then meaning_form g n at m else test
