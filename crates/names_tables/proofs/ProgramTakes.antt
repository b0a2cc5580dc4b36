-- What is known of the names of a program, and that nothing is wrong with a definition under the names of those that it uses.
use Rattle.std.proofs.Common.{◌≡◌, ◌∙◌, sym, ap, refl, List, []}
use Rattle.std.specs.Prelude.{ℕ, Bool, true, false, Option, Some, None, option_map, slice_get}
use Rattle.std.proofs.Math.Path.{fun_ext}
use Rattle.values_core.specs.Data.{Val}
use Rattle.reading_trees.specs.declared.config.Config.{Config}
use Rattle.reading_trees.specs.declared.expr.Definition.{Definition}
use Rattle.reading_trees.specs.declared.module.Program.{Program}
use Rattle.names_terms.specs.declared.operator.Operator.{Operator}
use Rattle.names_terms.specs.Levels.{of_operator}
use Rattle.names_least_levels.specs.Levels.{mark}
use Rattle.names_scopes.specs.declared.meant.Entry.{Entry}
use Rattle.names_scopes.specs.declared.meant.Meant.{Meant}
use Rattle.names_scopes.specs.declared.meant.Meant.TheVariants as meant
use Rattle.names_scopes.specs.declared.meant.Named.{Named}
use Rattle.names_scopes.specs.Mentions.{is_one_of, mentions}
use Rattle.names_scopes.specs.Scopes.{among, named}
use Rattle.names_meanings.specs.Complaints.{Taken, complaint, with_names}
use Rattle.names_meanings.specs.Outcomes.{above, taken_by, takes_of}
use Rattle.names_program.specs.InUnits.{definitions_in}
use Rattle.names_program.specs.Names.{AreNames, Numbers, by_index, constant_index, constant_means, declared_meaning, definition_index, definition_means, definition_meant, first_of, meant_or, numbered, numbered_meant, replacement, standard_means, value_at, variable_means, variable_named}
use Rattle.names_program.specs.Standard.{brought}
use Rattle.names_program.specs.Uses.{UsesDefinition}
use Rattle.names_program.proofs.NameLemmas.{by_index_is}
use Rattle.names_program.proofs.Values.{means_with_other_values}
use Rattle.names_meaning_laws.proofs.Hiding.{names_same}
use Rattle.names_meaning_laws.proofs.Same.{complaint_same}
use Rattle.names_tables.specs.NameFaults.{taken_with, takes_in_program}
use Rattle.names_tables.specs.Tables.{AreLeveled}

-- The values of constants say nothing of it.

replaced_taken : (bs : List Bool) (v w : Val) (r : Option ℕ) → Some (taken_with bs (named 0 (meant_or (meant.Known v) r))) ≡ Some (taken_with bs (named 0 (meant_or (meant.Known w) r)))
replaced_taken bs v w None = refl
replaced_taken bs v w (Some j) = refl

constants_taken : (bs : List Bool) (p : Program) (c : Config) (vs ws : List Val) (n : List ℕ) (i : Option ℕ) (rest : Option Named) → option_map (taken_with bs) (first_of (constant_means p c vs n i) rest) ≡ option_map (taken_with bs) (first_of (constant_means p c ws n i) rest)
constants_taken bs p c vs ws n None rest = refl
constants_taken bs p c vs ws n (Some i) rest = replaced_taken bs (value_at vs i) (value_at ws i) (replacement p c n 0)

variables_taken : (bs : List Bool) (p : Program) (c : Config) (vs ws : List Val) (n : List ℕ) (i : Option ℕ) (rest : Option Named) → option_map (taken_with bs) (first_of (variable_means i) (first_of (constant_means p c vs n (constant_index p n)) rest)) ≡ option_map (taken_with bs) (first_of (variable_means i) (first_of (constant_means p c ws n (constant_index p n)) rest))
variables_taken bs p c vs ws n None rest = constants_taken bs p c vs ws n (constant_index p n) rest
variables_taken bs p c vs ws n (Some i) rest = refl

taken_same : (bs : List Bool) (p : Program) (c : Config) (vs ws : List Val) (n : List ℕ) → option_map (taken_with bs) (declared_meaning p c vs n) ≡ option_map (taken_with bs) (declared_meaning p c ws n)
taken_same bs p c vs ws n =
    variables_taken bs p c vs ws n (variable_named p n) (first_of (definition_means p c n (definition_index p n)) (standard_means p c n (among (brought p.standard) n)))

pub taken_here : (bs : List Bool) (p : Program) (c : Config) (values : List Val) (n : List ℕ) → option_map (taken_with bs) (declared_meaning p c values n) ≡ takes_in_program p c bs n
taken_here bs p c values n = taken_same bs p c values [] n ∙ ap (option_map (taken_with bs)) (sym (by_index_is (declared_meaning p c [] n)))

-- Names over a table whose definitions are above level 0 where their marks say so.

meant_taken : (bs : List Bool) (number : Numbers) (ops : List Operator) → AreLeveled bs number ops → (needed : ℕ) (m : Meant) → ((j : ℕ) → m ≡ definition_meant j → (k : ℕ) × (number j ≡ Some k)) → option_map (taken_by ops) (option_map (named needed) (numbered_meant number m)) ≡ Some (taken_with bs (named needed m))
meant_taken bs number ops leveled needed (meant.Definition j) h =
    let n : (k : ℕ) × (number j.0 ≡ Some k) = h j.0 refl in
    ap (λ (o : Option ℕ). option_map (taken_by ops) (option_map (named needed) (option_map definition_meant o))) n.1
    ∙ ap (λ (b : Bool). Some (with_level needed b)) (leveled j.0 n.0 n.1)
  where
    with_level : ℕ → Bool → Taken
    with_level k b = record { needed = k; is_above = b }
meant_taken bs number ops leveled needed (meant.Slot i) h = refl
meant_taken bs number ops leveled needed (meant.Variable x) h = refl
meant_taken bs number ops leveled needed (meant.Known v) h = refl
meant_taken bs number ops leveled needed (meant.Set s) h = refl
meant_taken bs number ops leveled needed (meant.Standard o) h = refl

-- of what is meant the same is known, if it has a number
pub numbered_taken : (bs : List Bool) (number : Numbers) (ops : List Operator) → AreLeveled bs number ops → (o : Option Named) → ((needed j : ℕ) → o ≡ Some (named needed (definition_meant j)) → (k : ℕ) × (number j ≡ Some k)) → option_map (taken_by ops) (numbered number o) ≡ option_map (taken_with bs) o
numbered_taken bs number ops leveled None h = refl
numbered_taken bs number ops leveled (Some w) h = meant_taken bs number ops leveled w.needed w.meant (λ j e. h w.needed j (ap (λ (m : Meant). Some (named w.needed m)) e))

by_its_index : (bs : List Bool) (ops : List Operator) → ((k : ℕ) → above (of_operator (slice_get ops k)) ≡ mark bs k) → AreLeveled bs by_index ops
by_its_index bs ops h i k q =
    let same : i ≡ k = cc in
    h k ∙ ap (mark bs) (sym same)

-- where definitions are told by their indices
pub takes_are : (bs : List Bool) (p : Program) (c : Config) (values : List Val) (names : List Entry) (ops : List Operator) → ((k : ℕ) → above (of_operator (slice_get ops k)) ≡ mark bs k) → AreNames p c values by_index names → takes_of ops names ≡ takes_in_program p c bs
takes_are bs p c values names ops leveled are =
    fun_ext (λ (n : List ℕ). ap (option_map (taken_by ops)) (are n) ∙ numbered_taken bs by_index ops (by_its_index bs ops leveled) (declared_meaning p c values n) (λ needed j e. (j, refl)) ∙ taken_here bs p c values n)

-- each definition that the one uses has a number
abbrev pub UsedAreNumbered : Program → Config → Numbers → ℕ → Type 0
UsedAreNumbered p c number i = (j : ℕ) → UsesDefinition p c i j → (k : ℕ) × (number j ≡ Some k)

pub takes_there : (bs : List Bool) (p : Program) (c : Config) (values : List Val) (names : List Entry) (number : Numbers) (ops : List Operator) (i : ℕ) (d : Definition) → AreNames p c values number names → AreLeveled bs number ops → slice_get (definitions_in p.units) i ≡ Some d → UsedAreNumbered p c number i → (n : List ℕ) → mentions n d.body ≡ true → is_one_of n d.params ≡ false → takes_of ops names n ≡ takes_in_program p c bs n
takes_there bs p c values names number ops i d are leveled stands used n m hidden =
    ap (option_map (taken_by ops)) (are n)
    ∙ numbered_taken bs number ops leveled (declared_meaning p c values n) (λ needed j e. used j (record {
      definition = d;
      stands = stands;
      name = n;
      no_parameter = hidden;
      mentioned = m;
      means = (needed, means_with_other_values p c values [] n needed j (by_index_is (declared_meaning p c values n) ∙ e));
    }))
    ∙ taken_here bs p c values n

pub fine_there : (bs : List Bool) (p : Program) (c : Config) (values : List Val) (names : List Entry) (number : Numbers) (ops : List Operator) (i : ℕ) (d : Definition) → AreNames p c values number names → AreLeveled bs number ops → slice_get (definitions_in p.units) i ≡ Some d → UsedAreNumbered p c number i → complaint (with_names (takes_in_program p c bs) d.params) d.body ≡ None → complaint (with_names (takes_of ops names) d.params) d.body ≡ None
fine_there bs p c values names number ops i d are leveled stands used fine =
    complaint_same (with_names (takes_of ops names) d.params) (with_names (takes_in_program p c bs) d.params) d.body
    (λ n m. names_same (takes_of ops names) (takes_in_program p c bs) d.params n (λ hidden. takes_there bs p c values names number ops i d are leveled stands used n m hidden)) ∙ fine
