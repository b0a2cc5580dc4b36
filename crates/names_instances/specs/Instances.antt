-- What `I == INSTANCE M WITH ..` defines, where each constant and variable of M has its substitute.
--
-- 1. For each constant c of M there is `I!c == E`, E being the substitute of c.
-- 2. For each definition N of M there is `I!N`, with the parameters and the form of N. Its body is that of N, with other names in it: a variable of M
--    becomes y where y is its substitute, and a definition, a constant or a declared operator n of M becomes `I!n`. Names that standard modules bring to M
--    stay. Any other name n becomes `!!n`, which nothing defines: the importing program is not asked for it, and it is told as M writes it.
-- 3. For each operator that RECURSIVE declares in M, `I!N` is declared so, at the same place and with as many parameters.
--
-- Definitions and declarations stand in the order of the text. What M assumes is left out. A variable y is written `!y`, which no text spells, since a
-- bound name of M may be y too.
use Rattle.std.specs.Prelude.{ℕ, Bool, false, ◌||◌, if◌then◌else◌, List, [], ◌∷◌, ◌++◌, Option, Some, None}
use Rattle.std.specs.Str.{bytes_eq}
use Rattle.reading_trees.specs.Grammar.{qualified}
use Rattle.reading_trees.specs.Trees.{Tree, Name}
use Rattle.reading_trees.specs.declared.expr.Definition.{Definition}
use Rattle.reading_trees.specs.declared.form.DefinitionForm.TheVariants as forms
use Rattle.reading_trees.specs.declared.module.Declared.{Declared}
use Rattle.reading_trees.specs.declared.module.DeclaredOperator.{DeclaredOperator}
use Rattle.reading_trees.specs.declared.module.Program.{Program}
use Rattle.reading_trees.specs.declared.module.Unit.{Unit as ModuleUnit}
use Rattle.reading_trees.specs.declared.module.Unit.TheVariants.{Variables, Constants, Recursive, Define, Instance, Assume, Passed}
use Rattle.names_scopes.specs.declared.meant.Entry.{Entry}
use Rattle.names_program.specs.InUnits.{constants_in, variables_in}
use Rattle.names_program.specs.Standard.{brought}
use Rattle.names_instances.specs.Made.{StandIns, made}
use Rattle.names_instances.specs.declared.substitutes.Substitute.{Substitute}

-- the expression that stands for a name: that of the first of its substitutes
abbrev pub substitute_for : List Substitute → List ℕ → Option Tree
substitute_for [] n = None
substitute_for (s ∷ ss) n = if bytes_eq s.name n then Some s.by else substitute_for ss n

abbrev pub declares : List Declared → List ℕ → Bool
declares [] n = false
declares (d ∷ ds) n = bytes_eq d.name n || declares ds n

-- whether standard modules bring the name
abbrev pub brings : List Entry → List ℕ → Bool
brings [] n = false
brings (e ∷ es) n = bytes_eq e.name n || brings es n

-- what stands for a variable of that name with that substitute: a variable's name, or else what nothing defines
abbrev pub for_variable : List ℕ → List ℕ → Option Tree → List ℕ
for_variable i n (Some (Name at y)) = qualified [] y
for_variable i n e = qualified i n

abbrev pub declares_operator : List DeclaredOperator → List ℕ → Bool
declares_operator [] n = false
declares_operator (r ∷ rs) n = bytes_eq r.name n || declares_operator rs n

-- whether the name is one that a unit of a module defines, or declares as a constant or an operator
abbrev pub names_in_unit : ModuleUnit → List ℕ → Bool
names_in_unit (Define d) n = bytes_eq d.name n
names_in_unit (Constants ds) n = declares ds n
names_in_unit (Recursive rs) n = declares_operator rs n
names_in_unit (Variables ds) n = false
names_in_unit (Instance m) n = false
names_in_unit (Assume e) n = false
names_in_unit Passed n = false

-- whether units of a module do so
abbrev pub names_own : List ModuleUnit → List ℕ → Bool
names_own [] n = false
names_own (u ∷ us) n = names_in_unit u n || names_own us n

-- the name `!!n` of a name n that means nothing in the module
abbrev pub unknown : List ℕ → List ℕ
unknown n = qualified [] (qualified [] n)

-- What stands for the names of a module in the instance I, where these are the variables of the module, and the names of its constants, definitions and
-- declared operators are told by a function.
abbrev pub stand_ins : List ℕ → List Declared → (List ℕ → Bool) → List Substitute → List Entry → StandIns
stand_ins i variables own with_list standard n =
    if declares variables n then Some (for_variable i n (substitute_for with_list n))
    else (if own n then Some (qualified i n) else (if brings standard n then None else Some (unknown n)))

-- `I!c == E`, where the constant has a substitute
abbrev pub constant_made : List ℕ → Declared → Option Tree → List ModuleUnit
constant_made i c None = []
constant_made i c (Some e) = Define (record { name = qualified i c.name; at = c.at; params = []; form = forms.Constant; body = e }) ∷ []

abbrev pub constants_made : List ℕ → List Substitute → List Declared → List ModuleUnit
constants_made i with_list [] = []
constants_made i with_list (c ∷ cs) = constant_made i c (substitute_for with_list c.name) ++ constants_made i with_list cs

abbrev pub definition_made : List ℕ → StandIns → Definition → Definition
definition_made i by d = record { name = qualified i d.name; at = d.at; params = d.params; form = d.form; body = made by d.params d.body }

abbrev pub operator_made : List ℕ → DeclaredOperator → DeclaredOperator
operator_made i r = record { name = qualified i r.name; at = r.at; parameters = r.parameters }

abbrev pub operators_made : List ℕ → List DeclaredOperator → List DeclaredOperator
operators_made i [] = []
operators_made i (r ∷ rs) = operator_made i r ∷ operators_made i rs

abbrev pub unit_made : List ℕ → StandIns → ModuleUnit → List ModuleUnit
unit_made i by (Define d) = Define (definition_made i by d) ∷ []
unit_made i by (Recursive rs) = Recursive (operators_made i rs) ∷ []
unit_made i by (Variables ds) = []
unit_made i by (Constants ds) = []
unit_made i by (Instance m) = []
unit_made i by (Assume e) = []
unit_made i by Passed = []

abbrev pub units_made : List ℕ → StandIns → List ModuleUnit → List ModuleUnit
units_made i by [] = []
units_made i by (u ∷ us) = unit_made i by u ++ units_made i by us

-- the units of the instance I of a module, with these substitutes
abbrev pub instance_units : List ℕ → Program → List Substitute → List ModuleUnit
instance_units i m with_list =
    constants_made i with_list (constants_in m.units) ++ units_made i (stand_ins i (variables_in m.units) (names_own m.units) with_list (brought m.standard)) m.units
