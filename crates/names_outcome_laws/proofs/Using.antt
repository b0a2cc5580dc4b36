-- The names of a program, what its definitions use, and which of them use themselves wrongly: all of it is decided.
use Rattle.std.proofs.Common.{◌≡◌, sym, refl, subst, arith, inl, inr, ℕ, suc, List, [], ◌∷◌, ◌++◌, length, map, ◌≤◌}
use Rattle.std.specs.Prelude.{◌↔◌, Bool, true, false, IsTrue}
use Rattle.values_core.specs.Data.{Val}
use Rattle.reading_trees.specs.declared.config.Config.{Config}
use Rattle.reading_trees.specs.declared.expr.Definition.{Definition}
use Rattle.reading_trees.specs.declared.module.Program.{Program}
use Rattle.names_free.specs.Gathered.{gather}
use Rattle.names_free.proofs.Gathering.{all_found}
use Rattle.names_least_levels.specs.Levels.{mark}
use Rattle.names_scopes.specs.declared.meant.Entry.{Entry}
use Rattle.names_scopes.specs.Standing.{AreIn}
use Rattle.names_program.specs.Entries.{constant_entries, definition_entries, standard_entries, variable_entries}
use Rattle.names_program.specs.InUnits.{constants_in, definitions_in, variables_in}
use Rattle.names_program.specs.Names.{AreNames, by_index}
use Rattle.names_program.specs.Recursion.{AreLevelsOf, IsAbove, LeadsStrictly, MeetsRecursion}
use Rattle.names_program.specs.Standard.{brought}
use Rattle.names_program.specs.Uses.{UsesItself}
use Rattle.names_program.proofs.NameLemmas.{are_names}
use Rattle.names_program.proofs.WithinLemmas.{names_within}
use Rattle.names_uses.specs.StrictNames.{AreStrict, strictly_over}
use Rattle.names_uses.specs.UsedNames.{AreUsed, used_over}
use Rattle.names_uses.proofs.Leading.{leads_exact}
use Rattle.names_uses.proofs.ProgramLevels.{above_marked, levels_exist}
use Rattle.names_uses.proofs.StrictLemmas.{declares, is_strict, strict_exact, strict_leads, strict_within}
use Rattle.names_uses.proofs.UseLemmas.{as_many, is_used, uses_exact, uses_within}
use Rattle.base_use_order.specs.Uses as order
use Rattle.names_tables.specs.UnitComplaints.{AreRecursive, AreUses}
use Rattle.names_tables.proofs.Marking.{all_marked}
use Rattle.base_use_order.specs.Apart.{IsOrderApart}
use Rattle.names_outcome_laws.proofs.Deciding.{Decided, both_or, either_or, mark_of, mark_tells, turned, untrue}
use Rattle.names_outcome_laws.proofs.Leading.{leads_or_not, length_listed, listed_at, listed_by}
use Rattle.names_outcome_laws.proofs.Ordering.{some_order}

-- the names of the program, one kind behind the other
abbrev pub names_of : Program → Config → List Val → List Entry
names_of p c values =
    ((variable_entries 0 (variables_in p.units) ++ constant_entries c.givens (definitions_in p.units) values 0 (constants_in p.units)) ++ definition_entries c.givens (definitions_in p.units) 0 (definitions_in p.units)) ++ standard_entries c.givens (definitions_in p.units) (brought p.standard)

pub names_are : (p : Program) (c : Config) (values : List Val) → AreNames p c values by_index (names_of p c values)
names_are p c values =
    are_names p c values (names_of p c values) (variable_entries 0 (variables_in p.units)) (constant_entries c.givens (definitions_in p.units) values 0 (constants_in p.units)) (definition_entries c.givens (definitions_in p.units) 0 (definitions_in p.units)) (standard_entries c.givens (definitions_in p.units) (brought p.standard)) refl refl refl refl refl

pub names_in : (p : Program) (c : Config) (values : List Val) → AreIn (length (definitions_in p.units)) (names_of p c values)
names_in p c values =
    names_within (definitions_in p.units) p.standard values c.givens (variables_in p.units) (constants_in p.units) (definitions_in p.units) (definitions_in p.units) (definitions_in p.units) (brought p.standard)
    [] (variable_entries 0 (variables_in p.units)) (variable_entries 0 (variables_in p.units) ++ constant_entries c.givens (definitions_in p.units) values 0 (constants_in p.units)) ((variable_entries 0 (variables_in p.units) ++ constant_entries c.givens (definitions_in p.units) values 0 (constants_in p.units)) ++ definition_entries c.givens (definitions_in p.units) 0 (definitions_in p.units)) (names_of p c values)
    refl refl refl refl refl refl refl refl refl

-- ---- uses

abbrev pub used_in : List Entry → List Definition → List (List ℕ)
used_in names [] = []
used_in names (d ∷ ds) = used_over names d (gather [] [] d.body) ∷ used_in names ds

are_used : (names : List Entry) (ds : List Definition) → AreUsed names ds (used_in names ds)
are_used names [] = tt
are_used names (d ∷ ds) = (is_used names d (gather [] [] d.body) (used_over names d (gather [] [] d.body)) (all_found d.body (gather [] [] d.body) refl) refl, are_used names ds)

abbrev strict_in : List Bool → List Entry → ℕ → List Definition → List (List ℕ)
strict_in ms names i [] = []
strict_in ms names i (d ∷ ds) = strictly_over ms names i d (gather [] [] d.body) ∷ strict_in ms names (suc i) ds

are_strict : (ms : List Bool) (names : List Entry) (i : ℕ) (ds : List Definition) → AreStrict ms names i ds (strict_in ms names i ds)
are_strict ms names i [] = tt
are_strict ms names i (d ∷ ds) = (
  is_strict ms names i d (gather [] [] d.body) (strictly_over ms names i d (gather [] [] d.body)) (all_found d.body (gather [] [] d.body) refl) refl,
  are_strict ms names (suc i) ds,
)

module _ (p : Program) (c : Config) (values : List Val) where
  abbrev pub uses : order.Table
  uses = used_in (names_of p c values) (definitions_in p.units)

  pub uses_are : AreUses p c uses
  uses_are =
      let used : AreUsed (names_of p c values) (definitions_in p.units) uses = are_used (names_of p c values) (definitions_in p.units) in
      record {
        as_many = as_many (names_of p c values) (definitions_in p.units) uses used;
        exact = uses_exact p c values (names_of p c values) (names_are p c values) uses used;
        leads = leads_exact p c uses (uses_exact p c values (names_of p c values) (names_are p c values) uses used);
        within = uses_within p c values (names_of p c values) (names_are p c values) uses used;
      }

  pub itself_or_not : (i : ℕ) → Decided (order.UsesItself uses i)
  itself_or_not i = leads_or_not uses uses_are.within i i

  -- marks of the definitions that use themselves
  abbrev pub marks : List Bool
  marks = listed_by (λ i. mark_of (itself_or_not i)) (length uses)

  pub marks_are : AreRecursive uses marks
  marks_are =
      let le : length uses ≤ length uses = omega arith in
      all_marked uses marks (length uses) (length_listed (λ i. mark_of (itself_or_not i)) (length uses)) le
      (λ i lt. subst (λ (b : Bool). IsTrue b ↔ order.UsesItself uses i) (sym (listed_at (λ k. mark_of (itself_or_not k)) (length uses) i false lt)) (mark_tells (itself_or_not i)))

  -- an order of uses that asks nothing of them
  pub order_there : (xs : List ℕ) × IsOrderApart marks uses xs
  order_there = some_order uses uses_are.within marks (λ a free u. untrue (subst IsTrue free ((marks_are a).1 u)))

-- ---- which use themselves wrongly

true_or_not : (b : Bool) → Decided (b ≡ true)
true_or_not true = inl refl
true_or_not false = inr (λ h. cc)

module _ (p : Program) (c : Config) where
  abbrev declared : List Bool
  declared = map (declares p) (definitions_in p.units)

  abbrev strict : order.Table
  strict = strict_in declared (names_of p c []) 0 (definitions_in p.units)

  strictly_or_not : (i : ℕ) → Decided (LeadsStrictly p c i i)
  strictly_or_not i =
      let used : AreStrict declared (names_of p c []) 0 (definitions_in p.units) strict = are_strict declared (names_of p c []) 0 (definitions_in p.units) in
      let exact = strict_exact p c [] (names_of p c []) (names_are p c []) declared refl strict used in
      turned (strict_leads p c strict exact i i) (leads_or_not strict (strict_within p c [] (names_of p c []) (names_are p c []) declared refl strict used) i i)

  uses_itself_or_not : (i : ℕ) → Decided (UsesItself p c i)
  uses_itself_or_not i = turned ((uses_are p c []).leads i i) (itself_or_not p c [] i)

  pub levels : (bs : List Bool) × AreLevelsOf p c bs
  levels = levels_exist p c

  above_or_not : (i : ℕ) → Decided (IsAbove p c i)
  above_or_not i =
      let e : IsAbove p c i ↔ (mark levels.0 i ≡ true) = above_marked p c levels.0 i levels.1 in
      turned (e.1, e.0) (true_or_not (mark levels.0 i))

  pub meets_or_not : (i : ℕ) → Decided (MeetsRecursion p c i)
  meets_or_not i = either_or (strictly_or_not i) (both_or (uses_itself_or_not i) (above_or_not i))
