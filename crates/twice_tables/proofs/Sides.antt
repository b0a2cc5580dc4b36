-- Two tables of one program: the levels of its definitions are the same, and so is what is wrong with what the configuration gives.
use Rattle.std.proofs.Common.{◌≡◌, ◌∙◌, sym, ap, refl, subst, ℕ, suc, List, [], ◌∷◌, length, ◌<◌, arith}
use Rattle.std.specs.Prelude.{Bool, true, false, if◌then◌else◌, Option, Some, None, IfSome, option_map, slice_get}
use Rattle.std.specs.Str.{bytes_eq}
use Rattle.base_core.specs.declared.place.Place.{Place}
use Rattle.values_core.specs.Data.{Val}
use Rattle.reading_trees.specs.Trees.{Tree}
use Rattle.reading_trees.specs.declared.config.Config.{Config}
use Rattle.reading_trees.specs.declared.config.Given.{Given}
use Rattle.reading_trees.specs.declared.config.Given.TheVariants.{Constant, Replaced}
use Rattle.reading_trees.specs.declared.config.GivenAt.{GivenAt}
use Rattle.reading_trees.specs.declared.expr.Definition.{Definition}
use Rattle.reading_trees.specs.declared.module.Program.{Program}
use Rattle.names_terms.specs.declared.level.Level.{Level}
use Rattle.names_terms.specs.declared.level.Level.TheVariants.{State, Action}
use Rattle.names_terms.specs.declared.operator.Operator.{Operator}
use Rattle.names_terms.specs.Terms.{Term, level_of}
use Rattle.names_program.specs.InUnits.{definitions_in}
use Rattle.names_program.specs.Names.{Numbers, first_of, index_among, names_defined, constant_index, definition_index, variable_index}
use Rattle.names_tables.specs.Tables.{IsTabled, MeansThere}
use Rattle.names_resolving.specs.declared.fault.ResolveFault.{ResolveFault}
use Rattle.names_resolving.specs.declared.givens.Left.{Left}
use Rattle.names_resolving.specs.Configured.{above, first_too_high, level_named, operator_named, too_high}
use Rattle.names_resolving.specs.Givens.{constant_left, definition_left, fault_by, first_given_fault, fit_fault, given_fault, left, left_of, level_at, level_in, params_of, replaced_fault, right_fault, row_of, set_left, unless_variable}
use Rattle.names_resolving.specs.Resolved.{IsNamed}
use Rattle.twice_terms.specs.Alike.{Alike, AlikeRows}
use Rattle.twice_terms.specs.Laws.{AreAny}
use Rattle.twice_terms.proofs.Inverted.{same_level}
use Rattle.twice_tables.specs.Places.{ValuesAre}
use Rattle.twice_tables.proofs.ProgramNames.{there}
use Rattle.twice_tables.proofs.Tabled.{meant_alike, tables_alike}

-- values of constants, a table, and what is assumed
pub record Side (p : Program) (c : Config) : Type 0 where
  pub values : List Val
  pub number : Numbers
  pub ops : List Operator
  pub assumes : List Term
  pub is : IsNamed p c values number ops assumes

within_names : (xs : List (List ℕ)) (n : List ℕ) → IfSome (index_among xs n) (λ i. i < length xs)
within_names [] n = tt
within_names (m ∷ ms) n = one (bytes_eq m n) (index_among ms n) (within_names ms n)
  where
    one : (b : Bool) (o : Option ℕ) → IfSome o (λ i. i < length ms) → IfSome (if b then Some 0 else option_map suc o) (λ i. i < suc (length ms))
    one true o h = omega arith
    one false None h = tt
    one false (Some i) h = omega arith

as_many : (ds : List Definition) → length (names_defined ds) ≡ length ds
as_many [] = refl
as_many (d ∷ ds) = ap suc (as_many ds)

-- the index of a definition that a name has
abbrev pub Ranges : Program → Option ℕ → Type 0
Ranges p o = IfSome o (λ i. i < length (definitions_in p.units))

pub index_ranges : (p : Program) (n : List ℕ) → Ranges p (definition_index p n)
index_ranges p n = subst (λ (k : ℕ). IfSome (definition_index p n) (λ i. i < k)) (as_many (definitions_in p.units)) (within_names (names_defined (definitions_in p.units)) n)

module _ (p : Program) (c : Config) where
  pub there_same : (Same : Val → Val → Type 0) → ((v : Val) → Same v v) → (a b : Side p c) → ValuesAre Same p c a.values b.values → (params : List (List ℕ)) (t : Tree) (e f : Term) → MeansThere p c a.values a.number a.ops params t e → MeansThere p c b.values b.number b.ops params t f → Alike Same a.ops b.ops e f
  there_same Same itself a b are params t e f g h = meant_alike Same itself p c a.values b.values a.number b.number a.ops b.ops are a.is.table b.is.table params t e f g h

  pub rows_same : (Same : Val → Val → Type 0) → ((v : Val) → Same v v) → (a b : Side p c) → ValuesAre Same p c a.values b.values → (i : ℕ) (d : Definition) (k j : ℕ) → slice_get (definitions_in p.units) i ≡ Some d → a.number i ≡ Some k → b.number i ≡ Some j → AlikeRows Same a.ops b.ops k j
  rows_same Same itself a b are i d k j at e f = tables_alike Same itself p c a.values b.values a.number b.number a.ops b.ops are a.is.table b.is.table i d k j at e f

  -- where values are not compared
  pub there_shaped : (a b : Side p c) (params : List (List ℕ)) (t : Tree) (e f : Term) → MeansThere p c a.values a.number a.ops params t e → MeansThere p c b.values b.number b.ops params t f → Alike AreAny a.ops b.ops e f
  there_shaped a b params t e f g h = there_same AreAny (λ v. tt) a b (λ n i x y. tt) params t e f g h

  level_is : (a : Side p c) (i : ℕ) (d : Definition) (r : IsTabled p c a.values a.number a.ops i d) → level_at a.number a.ops i ≡ level_of r.body
  level_is a i d r = ap level_in (ap (row_of a.ops) r.numbered ∙ r.stands)

  level_same : (a b : Side p c) (i : ℕ) → i < length (definitions_in p.units) → level_at a.number a.ops i ≡ level_at b.number b.ops i
  level_same a b i lt =
      let d : (d : Definition) × (slice_get (definitions_in p.units) i ≡ Some d) = there (definitions_in p.units) i lt in
      let x : IsTabled p c a.values a.number a.ops i d.0 = a.is.table.definitions i d.0 d.1 in
      let y : IsTabled p c b.values b.number b.ops i d.0 = b.is.table.definitions i d.0 d.1 in
      let h : Alike AreAny a.ops b.ops x.body y.body = there_shaped a b d.0.params d.0.body x.body y.body x.means y.means in
      level_is a i d.0 x ∙ same_level AreAny a.ops b.ops x.body y.body h ∙ sym (level_is b i d.0 y)

  -- what the configuration gives

  definition_left_same : (a b : Side p c) (o : Option ℕ) → Ranges p o → definition_left p a.number a.ops o ≡ definition_left p b.number b.ops o
  definition_left_same a b None h = refl
  definition_left_same a b (Some i) h = ap (λ (l : Level). Some (left (params_of p i) l)) (level_same a b i h)

  left_same : (a b : Side p c) (n : List ℕ) → left_of p a.number a.ops n ≡ left_of p b.number b.ops n
  left_same a b n =
      ap (λ (x : Option Left). unless_variable (variable_index p n) (first_of (constant_left (constant_index p n)) (first_of x (set_left n)))) (definition_left_same a b (definition_index p n) (index_ranges p n))

  right_same : (a b : Side p c) (x : Left) (n : List ℕ) (at : Place) (o : Option ℕ) → Ranges p o → right_fault p a.number a.ops x n at o ≡ right_fault p b.number b.ops x n at o
  right_same a b x n at None h = refl
  right_same a b x n at (Some i) h = ap (λ (l : Level). fit_fault x n at (params_of p i) l) (level_same a b i h)

  replaced_same : (a b : Side p c) (g : GivenAt) (n : List ℕ) (at : Place) (o : Option Left) → replaced_fault p a.number a.ops g n at o ≡ replaced_fault p b.number b.ops g n at o
  replaced_same a b g n at None = refl
  replaced_same a b g n at (Some x) = right_same a b x n at (definition_index p n) (index_ranges p n)

  fault_same : (a b : Side p c) (g : GivenAt) (x : Given) → fault_by p a.number a.ops g x ≡ fault_by p b.number b.ops g x
  fault_same a b g (Constant l) = refl
  fault_same a b g (Replaced n at) =
      ap (λ (o : Option Left). replaced_fault p a.number a.ops g n at o) (left_same a b g.name) ∙ replaced_same a b g n at (left_of p b.number b.ops g.name)

  pub givens_same : (a b : Side p c) (gs : List GivenAt) → first_given_fault p a.number a.ops gs ≡ first_given_fault p b.number b.ops gs
  givens_same a b [] = refl
  givens_same a b (g ∷ gs) =
      ap (λ (o : Option ResolveFault). first_of o (first_given_fault p a.number a.ops gs)) (fault_same a b g g.given) ∙ ap (first_of (given_fault p b.number b.ops g)) (givens_same a b gs)

  -- the levels of Init, Next and the steps without a line

  named_same : (a b : Side p c) (o : Option ℕ) → Ranges p o → level_named a.number a.ops o ≡ level_named b.number b.ops o
  named_same a b None h = refl
  named_same a b (Some i) h = level_same a b i h

  high_same : (a b : Side p c) (limit : Level) (o : Option (List ℕ)) → too_high p a.number a.ops limit o ≡ too_high p b.number b.ops limit o
  high_same a b limit None = refl
  high_same a b limit (Some n) = ap (λ (l : Level). above l limit (operator_named p n)) (named_same a b (definition_index p n) (index_ranges p n))

  pub too_high_same : (a b : Side p c) (silent : Option (List ℕ)) → first_too_high p c silent a.number a.ops ≡ first_too_high p c silent b.number b.ops
  too_high_same a b silent =
      ap (λ (o : Option ResolveFault). first_of o (first_of (too_high p a.number a.ops Action c.next) (too_high p a.number a.ops Action silent))) (high_same a b State c.init)
      ∙ ap (first_of (too_high p b.number b.ops State c.init))
      (ap (λ (o : Option ResolveFault). first_of o (too_high p a.number a.ops Action silent)) (high_same a b Action c.next) ∙ ap (first_of (too_high p b.number b.ops Action c.next)) (high_same a b Action silent))
