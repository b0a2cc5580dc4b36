-- A constant has one value, where nothing is wrong with what the configuration gives: that of its literal, or a definition that stands in its place.
use Rattle.std.proofs.Common.{◌≡◌, ◌∙◌, sym, ap, refl, subst, ℕ, zero, suc, List, [], ◌∷◌, length, ◌<◌}
use Rattle.std.specs.Prelude.{◌==◌, Bool, true, false, if◌then◌else◌, Option, Some, None, option_map, slice_get}
use Rattle.std.specs.Str.{bytes_eq}
use Rattle.std.proofs.lemmas.Option.{slice_get_within}
use Rattle.base_core.specs.Texts.{same_bytes}
use Rattle.base_core.specs.declared.place.Place.{Place}
use Rattle.values_core.specs.Data.{Val}
use Rattle.reading_trees.specs.Literals.{lit_of}
use Rattle.reading_trees.specs.declared.config.Config.{Config}
use Rattle.reading_trees.specs.declared.config.Given.{Given}
use Rattle.reading_trees.specs.declared.config.Given.TheVariants.{Constant, Replaced}
use Rattle.reading_trees.specs.declared.config.GivenAt.{GivenAt}
use Rattle.reading_trees.specs.declared.expr.Definition.{Definition}
use Rattle.reading_trees.specs.declared.module.Declared.{Declared}
use Rattle.reading_trees.specs.declared.module.Program.{Program}
use Rattle.names_terms.specs.declared.level.Level.{Level}
use Rattle.names_terms.specs.declared.level.Level.TheVariants as levels
use Rattle.names_terms.specs.declared.operator.Operator.{Operator}
use Rattle.names_term_parts.specs.Limits.{is_above}
use Rattle.names_literals.specs.Spells.{SpellsOneValue}
use Rattle.names_program.specs.InUnits.{constants_in, definitions_in}
use Rattle.names_program.specs.Names.{Numbers, constant_index, definition_index, fitting, fitting_index, first_of, given_for, index_among, names_declared, params_at, put_for, replacement, value_at, variable_index}
use Rattle.names_tables.specs.Values.{AreValues, IsGiven}
use Rattle.names_resolving.specs.declared.fault.ResolveFault.TheVariants.{LevelTooHigh, WrongArity}
use Rattle.names_resolving.specs.declared.givens.Left.{Left}
use Rattle.names_resolving.specs.Givens.{constant_left, definition_left, fault_by, first_given_fault, fit_fault, given_fault, left, level_at, params_of, replaced_fault, right_fault, set_left, unless_variable}
use Rattle.twice_terms.specs.Laws.{AreOne}
use Rattle.twice_tables.specs.Places.{ValuesAre}
use Rattle.twice_tables.proofs.Faulty.{item_there}
use Rattle.twice_tables.proofs.ProgramNames.{there}
use Rattle.twice_tables.proofs.Sides.{Side, Ranges, index_ranges}

none_first : {A : Type 0} (a b : Option A) → first_of a b ≡ None → a ≡ None
none_first None b e = refl
none_first (Some x) b e = absurd (cc)

none_second : {A : Type 0} (a b : Option A) → first_of a b ≡ None → b ≡ None
none_second None b e = e
none_second (Some x) b e = absurd (cc)

value_is : (vs : List Val) (i : ℕ) (v : Val) → slice_get vs i ≡ Some v → value_at vs i ≡ v
value_is [] zero v e = absurd (cc)
value_is [] (suc i) v e = absurd (cc)
value_is (x ∷ vs) zero v e = cc
value_is (x ∷ vs) (suc i) v e = value_is vs i v e

-- the constant of an index
record IsDeclared (ds : List Declared) (n : List ℕ) (i : ℕ) : Type 0 where
  declared : Declared
  stands : slice_get ds i ≡ Some declared
  named : declared.name ≡ n

declared_there : (ds : List Declared) (n : List ℕ) (i : ℕ) → index_among (names_declared ds) n ≡ Some i → IsDeclared ds n i
declared_there [] n i e = absurd (cc)
declared_there (d ∷ ds) n i e = one (bytes_eq d.name n) refl (index_among (names_declared ds) n) (λ j r. declared_there ds n j r) e
  where
    one : (b : Bool) → bytes_eq d.name n ≡ b → (o : Option ℕ) → ((j : ℕ) → o ≡ Some j → IsDeclared ds n j) → (if b then Some 0 else option_map suc o) ≡ Some i → IsDeclared (d ∷ ds) n i
    one true q o rest s =
        let zero_is : 0 ≡ i = cc in
        subst (λ (j : ℕ). IsDeclared (d ∷ ds) n j) zero_is (record { declared = d; stands = refl; named = same_bytes d.name n q })
    one false q None rest s = absurd (cc)
    one false q (Some j) rest s =
        let more : suc j ≡ i = cc in
        let h : IsDeclared ds n j = rest j refl in
        subst (λ (k : ℕ). IsDeclared (d ∷ ds) n k) more (record { declared = h.declared; stands = h.stands; named = h.named })

-- nothing is wrong with what is given for a name
record IsFineGiven (p : Program) (number : Numbers) (ops : List Operator) (n : List ℕ) (x : Given) : Type 0 where
  row : GivenAt
  named : row.name ≡ n
  given : row.given ≡ x
  fine : given_fault p number ops row ≡ None

fine_given : (p : Program) (number : Numbers) (ops : List Operator) (gs : List GivenAt) (n : List ℕ) (x : Given) → first_given_fault p number ops gs ≡ None → given_for gs n ≡ Some x → IsFineGiven p number ops n x
fine_given p number ops [] n x e q = absurd (cc)
fine_given p number ops (g ∷ gs) n x e q = one (bytes_eq g.name n) refl (λ r. fine_given p number ops gs n x (none_second (given_fault p number ops g) (first_given_fault p number ops gs) e) r) q
  where
    one : (b : Bool) → bytes_eq g.name n ≡ b → (given_for gs n ≡ Some x → IsFineGiven p number ops n x) → (if b then Some g.given else given_for gs n) ≡ Some x → IsFineGiven p number ops n x
    one true s rest r = record { row = g; named = same_bytes g.name n s; given = cc; fine = none_first (given_fault p number ops g) (first_given_fault p number ops gs) e }
    one false s rest r = rest r

-- a definition that fits in place of a constant stands there

fits : (p : Program) (i : ℕ) (o : Option Definition) → slice_get (definitions_in p.units) i ≡ o → i < length (definitions_in p.units) → (params_at o == 0) ≡ true → fitting o 0 i ≡ None → ⊥
fits p i None at lt e f =
    let d : (d : Definition) × (slice_get (definitions_in p.units) i ≡ Some d) = there (definitions_in p.units) i lt in
    let bad : None ≡ Some d.0 = sym at ∙ d.1 in
    absurd (cc)
fits p i (Some d) at lt e f =
    let bad : Some i ≡ None = sym (ap (λ (b : Bool). if b then Some i else None) e) ∙ f in
    absurd (cc)

if_fits : (x : Left) (n : List ℕ) (at : Place) (found : ℕ) (l : Level) → fit_fault x n at found l ≡ None → (found == x.needed) ≡ true
if_fits x n at found l e = one (found == x.needed) e
  where
    one : (b : Bool) → (if b then (if is_above l x.level then Some (LevelTooHigh l x.level at) else None) else Some (WrongArity n found x.needed at)) ≡ None → b ≡ true
    one true q = refl
    one false q = absurd (cc)

right_fits : (p : Program) (number : Numbers) (ops : List Operator) (x : Left) (n : List ℕ) (at : Place) (o : Option ℕ) → x.needed ≡ 0 → Ranges p o → right_fault p number ops x n at o ≡ None → fitting_index (definitions_in p.units) 0 o ≡ None → ⊥
right_fits p number ops x n at None z lt e f = absurd (cc)
right_fits p number ops x n at (Some i) z lt e f =
    let enough : (params_at (slice_get (definitions_in p.units) i) == x.needed) ≡ true = if_fits x n at (params_of p i) (level_at number ops i) e in
    let alone : (params_at (slice_get (definitions_in p.units) i) == 0) ≡ true = subst (λ (k : ℕ). (params_at (slice_get (definitions_in p.units) i) == k) ≡ true) z enough in
    fits p i (slice_get (definitions_in p.units) i) refl lt alone f

left_is : (p : Program) (number : Numbers) (ops : List Operator) (g : GivenAt) (n : List ℕ) (at : Place) (o u : Option ℕ) (i : ℕ) → o ≡ Some i → replaced_fault p number ops g n at (unless_variable u (first_of (constant_left o) (first_of (definition_left p number ops (definition_index p g.name)) (set_left g.name)))) ≡ None → fitting_index (definitions_in p.units) 0 (definition_index p n) ≡ None → ⊥
left_is p number ops g n at None u i q e f = absurd (cc)
left_is p number ops g n at (Some k) None i q e f = right_fits p number ops (left 0 levels.Constant) n at (definition_index p n) refl (index_ranges p n) e f
left_is p number ops g n at (Some k) (Some j) i q e f = absurd (cc)

module _ (spells : SpellsOneValue) (p : Program) (c : Config) where
  given_one : (number : Numbers) (ops : List Operator) (n : List ℕ) (i : ℕ) (o : Option Given) (v w : Val) → first_given_fault p number ops c.givens ≡ None → constant_index p n ≡ Some i → replacement p c n 0 ≡ None → given_for c.givens n ≡ o → (o ≡ None → ⊥) → IsGiven o v → IsGiven o w → v ≡ w
  given_one number ops n i None v w e q r s some x y = absurd (some refl)
  given_one number ops n i (Some (Constant l)) v w e q r s some x y = spells (lit_of l) v w x y
  given_one number ops n i (Some (Replaced m at)) v w e q r s some x y =
      let g : IsFineGiven p number ops n (Replaced m at) = fine_given p number ops c.givens n (Replaced m at) e s in
      let fault : fault_by p number ops g.row (Replaced m at) ≡ None = ap (fault_by p number ops g.row) (sym g.given) ∙ g.fine in
      let at_row : constant_index p g.row.name ≡ Some i = ap (constant_index p) g.named ∙ q in
      let none : fitting_index (definitions_in p.units) 0 (definition_index p m) ≡ None = sym (ap (put_for (definitions_in p.units) 0) s) ∙ r in
      absurd (left_is p number ops g.row m at (constant_index p g.row.name) (variable_index p g.row.name) i at_row fault none)

  -- what a list of values has for a constant
  record HasValue (values : List Val) (n : List ℕ) (i : ℕ) : Type 0 where
    value : Val
    is : value_at values i ≡ value
    given : IsGiven (given_for c.givens n) value

  has_value : (values : List Val) (n : List ℕ) (i : ℕ) → AreValues p c values → IsDeclared (constants_in p.units) n i → HasValue values n i
  has_value values n i are d =
      let lt : i < length (constants_in p.units) = slice_get_within (constants_in p.units) i d.declared d.stands in
      let many : i < length values = subst (λ (k : ℕ). i < k) (sym are.as_many) lt in
      let v : (v : Val) × (slice_get values i ≡ Some v) = item_there values i many in
      record { value = v.0; is = value_is values i v.0 v.1; given = subst (λ (m : List ℕ). IsGiven (given_for c.givens m) v.0) d.named (are.given i d.declared v.0 d.stands v.1) }

  pub values_one : (a b : Side p c) → first_given_fault p a.number a.ops c.givens ≡ None → ValuesAre AreOne p c a.values b.values
  values_one a b e n i q r =
      let d : IsDeclared (constants_in p.units) n i = declared_there (constants_in p.units) n i q in
      let x : HasValue a.values n i = has_value a.values n i a.is.values_are d in
      let y : HasValue b.values n i = has_value b.values n i b.is.values_are d in
      let some : given_for c.givens n ≡ None → ⊥ = λ z. a.is.valued i d.declared (record { stands = d.stands; nothing = ap (given_for c.givens) d.named ∙ z }) in
      x.is ∙ given_one a.number a.ops n i (given_for c.givens n) x.value y.value e q r refl some x.given y.given ∙ sym y.is
