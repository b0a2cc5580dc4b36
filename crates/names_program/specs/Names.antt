-- What the names of a program mean with its configuration. Variables are numbered in the order of their declaration, constants have their values, and
-- definitions are told by their indices in the order of the text. Of equal names the first counts: variables, constants, definitions, and what the
-- standard modules bring. What the configuration puts in place of a name takes as many arguments as the name, and each use of the name means it; a
-- name that it can not replace goes on to mean what it meant. A variable y is named `!y` too, which no text spells: so what an instance defines names
-- variables, whatever is bound around.
use Rattle.std.specs.Prelude.{◌≡◌, ◌==◌, ℕ, zero, suc, false, if◌then◌else◌, List, [], ◌∷◌, length, Option, Some, None, option_map, get_or, slice_get}
use Rattle.std.specs.Str.{bytes_eq}
use Rattle.values_core.specs.Data.{Val, truth}
use Rattle.reading_trees.specs.Grammar.{qualified}
use Rattle.reading_trees.specs.declared.config.Config.{Config}
use Rattle.reading_trees.specs.declared.config.Given.{Given}
use Rattle.reading_trees.specs.declared.config.Given.TheVariants.{Constant, Replaced}
use Rattle.reading_trees.specs.declared.config.GivenAt.{GivenAt}
use Rattle.reading_trees.specs.declared.expr.Definition.{Definition}
use Rattle.reading_trees.specs.declared.module.Declared.{Declared}
use Rattle.reading_trees.specs.declared.module.Program.{Program}
use Rattle.names_scopes.specs.declared.meant.Entry.{Entry}
use Rattle.names_scopes.specs.declared.meant.Meant.{Meant}
use Rattle.names_scopes.specs.declared.meant.Meant.TheVariants as meant
use Rattle.names_scopes.specs.declared.meant.Named.{Named}
use Rattle.names_scopes.specs.Mentions.{is_one_of}
use Rattle.names_scopes.specs.Scopes.{among, named}
use Rattle.names_program.specs.InUnits.{variables_in, constants_in, definitions_in}
use Rattle.names_program.specs.Standard.{brought, replaceable}

-- the earlier of two, if it is there
abbrev pub first_of : {A : Type 0} → Option A → Option A → Option A
first_of (Some x) b = Some x
first_of None b = b

-- where the first of that name stands
abbrev pub index_among : List (List ℕ) → List ℕ → Option ℕ
index_among [] n = None
index_among (m ∷ ms) n = if bytes_eq m n then Some 0 else option_map suc (index_among ms n)

abbrev pub names_declared : List Declared → List (List ℕ)
names_declared [] = []
names_declared (d ∷ ds) = d.name ∷ names_declared ds

-- the name `!y` of each variable y
abbrev pub names_marked : List Declared → List (List ℕ)
names_marked [] = []
names_marked (d ∷ ds) = qualified [] d.name ∷ names_marked ds

abbrev pub names_defined : List Definition → List (List ℕ)
names_defined [] = []
names_defined (d ∷ ds) = d.name ∷ names_defined ds

abbrev pub variable_index : Program → List ℕ → Option ℕ
variable_index p n = index_among (names_declared (variables_in p.units)) n

-- the variable that a name means: that of this name, or y of the name `!y`
abbrev pub variable_among : List Declared → List ℕ → Option ℕ
variable_among ds n = first_of (index_among (names_declared ds) n) (index_among (names_marked ds) n)

abbrev pub variable_named : Program → List ℕ → Option ℕ
variable_named p n = variable_among (variables_in p.units) n

abbrev pub constant_index : Program → List ℕ → Option ℕ
constant_index p n = index_among (names_declared (constants_in p.units)) n

abbrev pub definition_index : Program → List ℕ → Option ℕ
definition_index p n = index_among (names_defined (definitions_in p.units)) n

-- what the configuration gives for a name
abbrev pub given_for : List GivenAt → List ℕ → Option Given
given_for [] n = None
given_for (g ∷ gs) n = if bytes_eq g.name n then Some g.given else given_for gs n

abbrev pub fitting : Option Definition → ℕ → ℕ → Option ℕ
fitting None needed i = None
fitting (Some d) needed i = if length d.params == needed then Some i else None

abbrev pub fitting_index : List Definition → ℕ → Option ℕ → Option ℕ
fitting_index ds needed None = None
fitting_index ds needed (Some i) = fitting (slice_get ds i) needed i

abbrev pub put_for : List Definition → ℕ → Option Given → Option ℕ
put_for ds needed None = None
put_for ds needed (Some (Constant l)) = None
put_for ds needed (Some (Replaced n at)) = fitting_index ds needed (index_among (names_defined ds) n)

abbrev pub replacement_among : List GivenAt → List Definition → List ℕ → ℕ → Option ℕ
replacement_among gs ds n needed = put_for ds needed (given_for gs n)

-- the index of the definition that the configuration puts in place of a name that takes so many arguments
abbrev pub replacement : Program → Config → List ℕ → ℕ → Option ℕ
replacement p c n needed = replacement_among c.givens (definitions_in p.units) n needed

-- the definition of that index
abbrev pub definition_meant : ℕ → Meant
definition_meant i = meant.Definition (record { 0 = i })

-- what is meant, or the definition that stands in its place
abbrev pub meant_or : Meant → Option ℕ → Meant
meant_or m None = m
meant_or m (Some i) = definition_meant i

abbrev pub variable_means : Option ℕ → Option Named
variable_means None = None
variable_means (Some i) = Some (named 0 (meant.Variable (record { 0 = i })))

-- a constant that has no value is refused later
abbrev pub value_at : List Val → ℕ → Val
value_at [] i = truth false
value_at (v ∷ vs) zero = v
value_at (v ∷ vs) (suc i) = value_at vs i

abbrev pub constant_means : Program → Config → List Val → List ℕ → Option ℕ → Option Named
constant_means p c values n None = None
constant_means p c values n (Some i) = Some (named 0 (meant_or (meant.Known (value_at values i)) (replacement p c n 0)))

abbrev pub params_at : Option Definition → ℕ
params_at None = 0
params_at (Some d) = length d.params

abbrev pub definition_named : Program → Config → List ℕ → ℕ → ℕ → Named
definition_named p c n i needed = named needed (meant_or (definition_meant i) (replacement p c n needed))

abbrev pub definition_means : Program → Config → List ℕ → Option ℕ → Option Named
definition_means p c n None = None
definition_means p c n (Some i) = Some (definition_named p c n i (params_at (slice_get (definitions_in p.units) i)))

abbrev pub standard_means : Program → Config → List ℕ → Option Named → Option Named
standard_means p c n None = None
standard_means p c n (Some w) =
    Some (if is_one_of n replaceable then named w.needed (meant_or w.meant (replacement p c n w.needed)) else w)

-- What a name means, definitions told by their indices. The values are those of the constants, in the order of their declaration.
abbrev pub declared_meaning : Program → Config → List Val → List ℕ → Option Named
declared_meaning p c values n =
    first_of (variable_means (variable_named p n)) (first_of (constant_means p c values n (constant_index p n)) (first_of (definition_means p c n (definition_index p n)) (standard_means p c n (among (brought p.standard) n))))

-- numbers of definitions by their indices
abbrev pub Numbers : Type 0
Numbers = ℕ → Option ℕ

-- each definition has its index as its number
abbrev pub by_index : Numbers
by_index i = Some i

-- those of a list, by index; behind the list there are none
abbrev pub numbers_of : List (Option ℕ) → Numbers
numbers_of numbers i = get_or numbers i None

-- the definition of that index has this number, and each other the one that it had
abbrev pub with_number : Numbers → ℕ → ℕ → Numbers
with_number number i k j = if i == j then Some k else number j

abbrev pub numbered_meant : Numbers → Meant → Option Meant
numbered_meant number (meant.Definition i) = option_map definition_meant (number i.0)
numbered_meant number (meant.Slot i) = Some (meant.Slot i)
numbered_meant number (meant.Variable x) = Some (meant.Variable x)
numbered_meant number (meant.Known v) = Some (meant.Known v)
numbered_meant number (meant.Set s) = Some (meant.Set s)
numbered_meant number (meant.Standard o) = Some (meant.Standard o)

-- what is meant, each definition told by its number; one that has none means nothing
abbrev pub numbered : Numbers → Option Named → Option Named
numbered number None = None
numbered number (Some w) = option_map (named w.needed) (numbered_meant number w.meant)

-- what a name means, definitions told by these numbers
abbrev pub program_meaning : Program → Config → List Val → Numbers → List ℕ → Option Named
program_meaning p c values number n = numbered number (declared_meaning p c values n)

-- a list of names that means what the names of the program do
abbrev pub AreNames : Program → Config → List Val → Numbers → List Entry → Type 0
AreNames p c values number names = (n : List ℕ) → among names n ≡ program_meaning p c values number n

abbrev pub meant_if : ℕ → Meant → Named → Option Named
meant_if i (meant.Definition j) w = if i == j.0 then Some w else None
meant_if i (meant.Slot j) w = None
meant_if i (meant.Variable x) w = None
meant_if i (meant.Known v) w = None
meant_if i (meant.Set s) w = None
meant_if i (meant.Standard o) w = None

-- what is meant, if it is the definition of that index
abbrev pub only_definition : ℕ → Option Named → Option Named
only_definition i None = None
only_definition i (Some w) = meant_if i w.meant w

-- for each definition, by its index, a list of the names that mean it
abbrev pub AreByDefinition : Program → Config → List Val → List (List Entry) → Type 0
AreByDefinition p c values lists = (i : ℕ) (n : List ℕ) → among (get_or lists i []) n ≡ only_definition i (declared_meaning p c values n)
