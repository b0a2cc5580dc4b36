-- For the prover: the names of a program as lists of entries, a list for each kind.
use Rattle.std.specs.Prelude.{ℕ, suc, if◌then◌else◌, List, [], ◌∷◌, ◌++◌, length, Option, Some, None}
use Rattle.std.specs.Str.{bytes_eq}
use Rattle.values_core.specs.Data.{Val}
use Rattle.reading_trees.specs.Grammar.{qualified}
use Rattle.reading_trees.specs.declared.config.GivenAt.{GivenAt}
use Rattle.reading_trees.specs.declared.expr.Definition.{Definition}
use Rattle.reading_trees.specs.declared.module.Declared.{Declared}
use Rattle.names_scopes.specs.declared.meant.Entry.{Entry}
use Rattle.names_scopes.specs.declared.meant.Meant.TheVariants as meant
use Rattle.names_scopes.specs.declared.meant.Named.{Named}
use Rattle.names_scopes.specs.Mentions.{is_one_of}
use Rattle.names_scopes.specs.Scopes.{named}
use Rattle.names_program.specs.Names.{definition_meant, meant_or, replacement_among, value_at}
use Rattle.names_program.specs.Standard.{entry, replaceable}

-- where the first of that name stands, the first of all having the number k
abbrev pub index_from : ℕ → List (List ℕ) → List ℕ → Option ℕ
index_from k [] n = None
index_from k (m ∷ ms) n = if bytes_eq m n then Some k else index_from (suc k) ms n

abbrev pub variable_entry : ℕ → Declared → Entry
variable_entry k d = entry d.name 0 (meant.Variable (record { 0 = k }))

-- the same variable by its name behind a mark
abbrev pub marked_entry : ℕ → Declared → Entry
marked_entry k d = entry (qualified [] d.name) 0 (meant.Variable (record { 0 = k }))

abbrev pub constant_entry : List GivenAt → List Definition → Val → Declared → Entry
constant_entry gs all v d = entry d.name 0 (meant_or (meant.Known v) (replacement_among gs all d.name 0))

abbrev pub definition_entry : List GivenAt → List Definition → ℕ → Definition → Entry
definition_entry gs all k d = entry d.name (length d.params) (meant_or (definition_meant k) (replacement_among gs all d.name (length d.params)))

abbrev pub replaced_is : List GivenAt → List Definition → List ℕ → Named → Named
replaced_is gs all n w = if is_one_of n replaceable then named w.needed (meant_or w.meant (replacement_among gs all n w.needed)) else w

abbrev pub standard_entry : List GivenAt → List Definition → Entry → Entry
standard_entry gs all e = record { name = e.name; is = replaced_is gs all e.name e.is }

abbrev pub plain_entries : ℕ → List Declared → List Entry
plain_entries k [] = []
plain_entries k (d ∷ ds) = variable_entry k d ∷ plain_entries (suc k) ds

abbrev pub marked_entries : ℕ → List Declared → List Entry
marked_entries k [] = []
marked_entries k (d ∷ ds) = marked_entry k d ∷ marked_entries (suc k) ds

abbrev pub variable_entries : ℕ → List Declared → List Entry
variable_entries k ds = plain_entries k ds ++ marked_entries k ds

-- the values from number k on are those of these constants
abbrev pub constant_entries : List GivenAt → List Definition → List Val → ℕ → List Declared → List Entry
constant_entries gs all values k [] = []
constant_entries gs all values k (d ∷ ds) = constant_entry gs all (value_at values k) d ∷ constant_entries gs all values (suc k) ds

abbrev pub definition_entries : List GivenAt → List Definition → ℕ → List Definition → List Entry
definition_entries gs all k [] = []
definition_entries gs all k (d ∷ ds) = definition_entry gs all k d ∷ definition_entries gs all (suc k) ds

abbrev pub standard_entries : List GivenAt → List Definition → List Entry → List Entry
standard_entries gs all [] = []
standard_entries gs all (e ∷ es) = standard_entry gs all e ∷ standard_entries gs all es
