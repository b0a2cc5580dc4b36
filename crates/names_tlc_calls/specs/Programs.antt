-- A program in which calls of TLC's operators for assertions and for printing are spelled out: in its definitions and in what it assumes, where it extends
-- TLC. Names that the program has itself stay as they are: those that its units declare or define, those that the configuration gives something for, and
-- those that pieces declare which were not read.
use Rattle.std.specs.Prelude.{ℕ, Bool, true, false, List, [], ◌∷◌, ◌++◌, map, codes}
use Rattle.reading_trees.specs.declared.config.Config.{Config}
use Rattle.reading_trees.specs.declared.config.GivenAt.{GivenAt}
use Rattle.reading_trees.specs.declared.expr.Definition.{Definition}
use Rattle.reading_trees.specs.declared.module.DeclaredOperator.{DeclaredOperator}
use Rattle.reading_trees.specs.declared.module.Program.{Program}
use Rattle.reading_trees.specs.declared.module.Unit.{Unit as ModuleUnit}
use Rattle.reading_trees.specs.declared.module.Unit.TheVariants.{Variables, Constants, Recursive, Define, Instance, Assume, Passed}
use Rattle.names_program.specs.Names.{names_declared}
use Rattle.names_scopes.specs.Mentions.{is_one_of}
use Rattle.names_tlc_calls.specs.Spelled.{spelled}

-- ---- names that the program has itself

abbrev pub operator_names : List DeclaredOperator → List (List ℕ)
operator_names [] = []
operator_names (r ∷ rs) = r.name ∷ operator_names rs

abbrev pub unit_names : ModuleUnit → List (List ℕ)
unit_names (Variables ds) = names_declared ds
unit_names (Constants ds) = names_declared ds
unit_names (Recursive rs) = operator_names rs
unit_names (Define d) = d.name ∷ []
unit_names (Instance m) = m.name ∷ []
unit_names (Assume e) = []
unit_names Passed = []

abbrev pub units_names : List ModuleUnit → List (List ℕ)
units_names [] = []
units_names (u ∷ us) = unit_names u ++ units_names us

abbrev pub given_names : List GivenAt → List (List ℕ)
given_names [] = []
given_names (g ∷ gs) = g.name ∷ given_names gs

abbrev pub own_names : Program → Config → List (List ℕ) → List (List ℕ)
own_names p c unread = units_names p.units ++ given_names c.givens ++ unread

-- ---- the program

abbrev pub spelled_definition : List (List ℕ) → Definition → Definition
spelled_definition own d = record d { body = spelled (own ++ d.params) d.body }

abbrev pub spelled_unit : List (List ℕ) → ModuleUnit → ModuleUnit
spelled_unit own (Define d) = Define (spelled_definition own d)
spelled_unit own (Assume e) = Assume (spelled own e)
spelled_unit own (Variables ds) = Variables ds
spelled_unit own (Constants ds) = Constants ds
spelled_unit own (Recursive rs) = Recursive rs
spelled_unit own (Instance m) = Instance m
spelled_unit own Passed = Passed

abbrev pub extends_tlc : Program → Bool
extends_tlc p = is_one_of (codes "TLC") p.standard

abbrev pub units_by : Bool → List (List ℕ) → List ModuleUnit → List ModuleUnit
units_by false own us = us
units_by true own us = map (spelled_unit own) us

abbrev pub spelled_out : Program → Config → List (List ℕ) → Program
spelled_out p c unread = record p { units = units_by (extends_tlc p) (own_names p c unread) p.units }
