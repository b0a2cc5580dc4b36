-- What the names of a program mean takes as many arguments as they do.
use Rattle.std.proofs.Common.{◌≡◌, ◌∙◌, sym, ap, refl, subst, ℕ, suc, List, [], ◌∷◌, length, ◌<◌, inl, inr, arith}
use Rattle.std.specs.Prelude.{◌==◌, Bool, true, false, if◌then◌else◌, Option, Some, None, IfSome, option_map, slice_get}
use Rattle.std.specs.Str.{bytes_eq}
use Rattle.std.proofs.lemmas.Bool.Decides.{nat_tests}
use Rattle.std.proofs.lemmas.Option.{slice_get_cases}
use Rattle.values_core.specs.Data.{Val}
use Rattle.reading_trees.specs.declared.config.Config.{Config}
use Rattle.reading_trees.specs.declared.config.Given.{Given}
use Rattle.reading_trees.specs.declared.config.Given.TheVariants.{Constant, Replaced}
use Rattle.reading_trees.specs.declared.config.GivenAt.{GivenAt}
use Rattle.reading_trees.specs.declared.expr.Definition.{Definition}
use Rattle.reading_trees.specs.declared.module.Declared.{Declared}
use Rattle.reading_trees.specs.declared.module.Program.{Program}
use Rattle.names_terms.specs.declared.ids.DefId.{DefId}
use Rattle.names_terms.specs.declared.operator.Operator.{Operator}
use Rattle.names_scopes.specs.declared.meant.Meant.{Meant}
use Rattle.names_scopes.specs.declared.meant.Meant.TheVariants as meant
use Rattle.names_scopes.specs.declared.meant.Named.{Named}
use Rattle.names_scopes.specs.Mentions.{is_one_of}
use Rattle.names_scopes.specs.Scopes.{among, named}
use Rattle.names_program.specs.InUnits.{definitions_in, variables_in}
use Rattle.names_program.specs.Names.{Numbers, constant_index, constant_means, declared_meaning, definition_index, definition_means, definition_meant, first_of, fitting, fitting_index, given_for, index_among, meant_or, names_declared, names_defined, names_marked, numbered, numbered_meant, params_at, program_meaning, put_for, replacement, replacement_among, standard_means, value_at, variable_among, variable_means, variable_named}
use Rattle.names_program.specs.Standard.{StandardName, brought, brought_from, entry, is_brought, replaceable, standard_names}
use Rattle.names_tables.specs.Tables.{IsTable, IsTabled}
use Rattle.names_specification_laws.specs.IsSpec.{needed_by}
use Rattle.names_specification_laws.specs.Meanings.{IsDefined, MeantFits, NamesFit}

-- the definition of that index takes so many arguments
abbrev Takes : List Definition → ℕ → ℕ → Type 0
Takes ds needed i = (d : Definition) × (slice_get ds i ≡ Some d) × (length d.params ≡ needed)

-- what a name may mean, definitions told by their indices
abbrev Fits : ℕ → List Definition → ℕ → Meant → Type 0
Fits variables ds needed (meant.Slot i) = ⊥
Fits variables ds needed (meant.Variable x) = (x.0 < variables) × (needed ≡ 0)
Fits variables ds needed (meant.Known v) = needed ≡ 0
Fits variables ds needed (meant.Set s) = needed ≡ 0
Fits variables ds needed (meant.Standard o) = needed ≡ needed_by o
Fits variables ds needed (meant.Definition i) = Takes ds needed i.0

abbrev AllFit : ℕ → List Definition → Option Named → Type 0
AllFit variables ds o = IfSome o (λ (w : Named). Fits variables ds w.needed w.meant)

either : (v : ℕ) (ds : List Definition) (a b : Option Named) → AllFit v ds a → AllFit v ds b → AllFit v ds (first_of a b)
either v ds None b h k = k
either v ds (Some w) b h k = h

fitting_takes : (ds : List Definition) (needed i : ℕ) (o : Option Definition) → slice_get ds i ≡ o → IfSome (fitting o needed i) (Takes ds needed)
fitting_takes ds needed i None e = tt
fitting_takes ds needed i (Some d) e = one (length d.params == needed) refl
  where
    one : (b : Bool) → (length d.params == needed) ≡ b → IfSome (if b then Some i else None) (Takes ds needed)
    one true q = (d, e, grind (arith, nat_tests))
    one false q = tt

indexed_takes : (ds : List Definition) (needed : ℕ) (o : Option ℕ) → IfSome (fitting_index ds needed o) (Takes ds needed)
indexed_takes ds needed None = tt
indexed_takes ds needed (Some i) = fitting_takes ds needed i (slice_get ds i) refl

put_takes : (ds : List Definition) (needed : ℕ) (o : Option Given) → IfSome (put_for ds needed o) (Takes ds needed)
put_takes ds needed None = tt
put_takes ds needed (Some (Constant l)) = tt
put_takes ds needed (Some (Replaced n at)) = indexed_takes ds needed (index_among (names_defined ds) n)

or_fits : (v : ℕ) (ds : List Definition) (needed : ℕ) (m : Meant) (o : Option ℕ) → Fits v ds needed m → IfSome o (Takes ds needed) → Fits v ds needed (meant_or m o)
or_fits v ds needed m None h k = h
or_fits v ds needed m (Some i) h k = k

replaced_fits : (v : ℕ) (gs : List GivenAt) (ds : List Definition) (n : List ℕ) (needed : ℕ) (m : Meant) → Fits v ds needed m → Fits v ds needed (meant_or m (replacement_among gs ds n needed))
replaced_fits v gs ds n needed m h =
    or_fits v ds needed m (replacement_among gs ds n needed) h (put_takes ds needed (given_for gs n))

above : (xs : List (List ℕ)) (n : List ℕ) → IfSome (index_among xs n) (λ i. i < length xs)
above [] n = tt
above (m ∷ ms) n = one (bytes_eq m n) (index_among ms n) (above ms n)
  where
    one : (b : Bool) (o : Option ℕ) → IfSome o (λ i. i < length ms) → IfSome (if b then Some 0 else option_map suc o) (λ i. i < suc (length ms))
    one true o h = omega arith
    one false None h = tt
    one false (Some i) h = omega arith

marked_as_many : (ds : List Declared) → length (names_marked ds) ≡ length (names_declared ds)
marked_as_many [] = refl
marked_as_many (d ∷ ds) = ap suc (marked_as_many ds)

variable_above : (ds : List Declared) (n : List ℕ) → IfSome (variable_among ds n) (λ i. i < length (names_declared ds))
variable_above ds n =
    earlier (index_among (names_declared ds) n) (index_among (names_marked ds) n) (above (names_declared ds) n)
    (subst (λ (k : ℕ). IfSome (index_among (names_marked ds) n) (λ i. i < k)) (marked_as_many ds) (above (names_marked ds) n))
  where
    earlier : (a b : Option ℕ) → IfSome a (λ i. i < length (names_declared ds)) → IfSome b (λ i. i < length (names_declared ds)) → IfSome (first_of a b) (λ i. i < length (names_declared ds))
    earlier None b h k = k
    earlier (Some i) b h k = h

as_many : (ds : List Definition) → length (names_defined ds) ≡ length ds
as_many [] = refl
as_many (d ∷ ds) = ap suc (as_many ds)

variable_fits : (v : ℕ) (ds : List Definition) (o : Option ℕ) → IfSome o (λ i. i < v) → AllFit v ds (variable_means o)
variable_fits v ds None h = tt
variable_fits v ds (Some i) h = (h, refl)

constant_fits : (v : ℕ) (p : Program) (c : Config) (values : List Val) (n : List ℕ) (o : Option ℕ) → AllFit v (definitions_in p.units) (constant_means p c values n o)
constant_fits v p c values n None = tt
constant_fits v p c values n (Some i) = replaced_fits v c.givens (definitions_in p.units) n 0 (meant.Known (value_at values i)) refl

defined_fits : (v : ℕ) (p : Program) (c : Config) (n : List ℕ) (i : ℕ) (o : Option Definition) → slice_get (definitions_in p.units) i ≡ o → i < length (definitions_in p.units) → AllFit v (definitions_in p.units) (definition_means p c n (Some i))
defined_fits v p c n i None e lt = elim (slice_get_cases (definitions_in p.units) i).1 [
  | inl w ↦ (let bad : None ≡ Some w.0 = sym e ∙ w.2 in absurd (cc))
  | inr w ↦ absurd (omega (arith, lt, w.0))
]
defined_fits v p c n i (Some d) e lt =
    replaced_fits v c.givens (definitions_in p.units) n (params_at (slice_get (definitions_in p.units) i)) (definition_meant i) (d, e, sym (ap params_at e))

definition_fits : (v : ℕ) (p : Program) (c : Config) (n : List ℕ) (o : Option ℕ) → IfSome o (λ i. i < length (names_defined (definitions_in p.units))) → AllFit v (definitions_in p.units) (definition_means p c n o)
definition_fits v p c n None h = tt
definition_fits v p c n (Some i) h =
    defined_fits v p c n i (slice_get (definitions_in p.units) i) refl (subst (λ (x : ℕ). i < x) (as_many (definitions_in p.units)) h)

-- the rows of the standard modules
abbrev Rows : ℕ → List Definition → List StandardName → Type 0
Rows v ds [] = Unit {0}
Rows v ds (s ∷ ss) = Fits v ds s.needed s.meant × Rows v ds ss

all_rows : (v : ℕ) (ds : List Definition) → Rows v ds standard_names
unfolding standard_names
all_rows v ds = (refl, (refl, (refl, (refl, (refl, (refl, (refl, (refl, (refl, (refl, tt))))))))))

brought_fits : (v : ℕ) (ds : List Definition) (extended : List (List ℕ)) (ss : List StandardName) (n : List ℕ) → Rows v ds ss → AllFit v ds (among (brought_from extended ss) n)
brought_fits v ds extended [] n h = tt
brought_fits v ds extended (s ∷ ss) n h = one (is_brought extended s) (bytes_eq s.name n) (brought_fits v ds extended ss n h.1)
  where
    one : (b q : Bool) → AllFit v ds (among (brought_from extended ss) n) → AllFit v ds (among (if b then entry s.name s.needed s.meant ∷ brought_from extended ss else brought_from extended ss) n)
    one true q r = two (bytes_eq s.name n)
      where
        two : (t : Bool) → AllFit v ds (if t then Some (named s.needed s.meant) else among (brought_from extended ss) n)
        two true = h.0
        two false = r
    one false q r = r

standard_fits : (v : ℕ) (p : Program) (c : Config) (n : List ℕ) (o : Option Named) → AllFit v (definitions_in p.units) o → AllFit v (definitions_in p.units) (standard_means p c n o)
standard_fits v p c n None h = tt
standard_fits v p c n (Some w) h = one (is_one_of n replaceable)
  where
    one : (b : Bool) → Fits v (definitions_in p.units) (if b then named w.needed (meant_or w.meant (replacement p c n w.needed)) else w).needed (if b then named w.needed (meant_or w.meant (replacement p c n w.needed)) else w).meant
    one true = replaced_fits v c.givens (definitions_in p.units) n w.needed w.meant h
    one false = h

declared_fits : (p : Program) (c : Config) (values : List Val) (n : List ℕ) → AllFit (length (names_declared (variables_in p.units))) (definitions_in p.units) (declared_meaning p c values n)
declared_fits p c values n =
    let v : ℕ = length (names_declared (variables_in p.units)) in
    let ds : List Definition = definitions_in p.units in
    let x : Option Named = standard_means p c n (among (brought p.standard) n) in
    let y : Option Named = definition_means p c n (definition_index p n) in
    let z : Option Named = constant_means p c values n (constant_index p n) in
    either v ds (variable_means (variable_named p n)) (first_of z (first_of y x)) (variable_fits v ds (variable_named p n) (variable_above (variables_in p.units) n)) (either v ds z (first_of y x) (constant_fits v p c values n (constant_index p n)) (either v ds y x (definition_fits v p c n (definition_index p n) (above (names_defined ds) n)) (standard_fits v p c n (among (brought p.standard) n) (brought_fits v ds p.standard standard_names n (all_rows v ds)))))

-- a definition under its number
under : (p : Program) (c : Config) (values : List Val) (number : Numbers) (ops : List Operator) → IsTable p c values number ops → (needed i : ℕ) → Takes (definitions_in p.units) needed i → (k : ℕ) → number i ≡ Some k → IsDefined ops k needed 0
under p c values number ops table needed i h k e =
    let r : IsTabled p c values number ops i h.0 = table.definitions i h.0 h.1 in
    let both : Some k ≡ Some r.row = sym e ∙ r.numbered in
    let same : k ≡ r.row = cc in
    record { operator = _; is = ap (slice_get ops) same ∙ r.stands; arguments = h.2; around = omega arith }

numbered_fits : (p : Program) (c : Config) (values : List Val) (number : Numbers) (ops : List Operator) → IsTable p c values number ops → (v needed : ℕ) (m : Meant) → Fits v (definitions_in p.units) needed m → IfSome (numbered_meant number m) (MeantFits v ops needed)
numbered_fits p c values number ops table v needed (meant.Definition i) h = one (number i.0) refl
  where
    one : (o : Option ℕ) → number i.0 ≡ o → IfSome (option_map definition_meant o) (MeantFits v ops needed)
    one None e = tt
    one (Some k) e = under p c values number ops table needed i.0 h k e
numbered_fits p c values number ops table v needed (meant.Slot i) h = absurd h
numbered_fits p c values number ops table v needed (meant.Variable x) h = h
numbered_fits p c values number ops table v needed (meant.Known x) h = h
numbered_fits p c values number ops table v needed (meant.Set s) h = h
numbered_fits p c values number ops table v needed (meant.Standard o) h = h

kept : (v : ℕ) (ops : List Operator) (needed : ℕ) (o : Option Meant) (w : Named) → IfSome o (MeantFits v ops needed) → option_map (named needed) o ≡ Some w → MeantFits v ops w.needed w.meant
kept v ops needed None w h e = absurd (cc)
kept v ops needed (Some m) w h e = let same : named needed m ≡ w = cc in subst (λ (x : Named). MeantFits v ops x.needed x.meant) same h

pub names_fit : (p : Program) (c : Config) (values : List Val) (number : Numbers) (ops : List Operator) → IsTable p c values number ops → NamesFit (program_meaning p c values number) (length (names_declared (variables_in p.units))) ops
names_fit p c values number ops table n w e = one (declared_meaning p c values n) (declared_fits p c values n) e
  where
    one : (o : Option Named) → AllFit (length (names_declared (variables_in p.units))) (definitions_in p.units) o → numbered number o ≡ Some w → MeantFits (length (names_declared (variables_in p.units))) ops w.needed w.meant
    one None h q = absurd (cc)
    one (Some x) h q =
        kept (length (names_declared (variables_in p.units))) ops x.needed (numbered_meant number x.meant) w (numbered_fits p c values number ops table (length (names_declared (variables_in p.units))) x.needed x.meant h) q

-- the number is that of a definition of the program
pub record IsNumbered (p : Program) (number : Numbers) (k : ℕ) : Type 0 where
  pub index : ℕ
  pub definition : Definition
  pub stands : slice_get (definitions_in p.units) index ≡ Some definition
  pub numbered : number index ≡ Some k

abbrev number_in : Meant → ℕ
number_in (meant.Definition k) = k.0
number_in (meant.Slot i) = 0
number_in (meant.Variable x) = 0
number_in (meant.Known v) = 0
number_in (meant.Set s) = 0
number_in (meant.Standard o) = 0

told : (p : Program) (number : Numbers) (v needed : ℕ) (m : Meant) (w : Named) (d : DefId) → Fits v (definitions_in p.units) needed m → option_map (named needed) (numbered_meant number m) ≡ Some w → w.meant ≡ meant.Definition d → IsNumbered p number d.0
told p number v needed (meant.Definition i) w d h e q = one (number i.0) refl e
  where
    one : (o : Option ℕ) → number i.0 ≡ o → option_map (named needed) (option_map definition_meant o) ≡ Some w → IsNumbered p number d.0
    one None z r = absurd (cc)
    one (Some k) z r =
        let same : named needed (definition_meant k) ≡ w = cc in
        let x : definition_meant k ≡ meant.Definition d = ap (λ (y : Named). y.meant) same ∙ q in
        let y : k ≡ d.0 = ap number_in x in
        record { index = i.0; definition = h.0; stands = h.1; numbered = z ∙ ap (λ (n : ℕ). Some n) y }
told p number v needed (meant.Slot i) w d h e q = absurd h
told p number v needed (meant.Variable x) w d h e q = absurd (cc)
told p number v needed (meant.Known x) w d h e q = absurd (cc)
told p number v needed (meant.Set s) w d h e q = absurd (cc)
told p number v needed (meant.Standard o) w d h e q = absurd (cc)

pub meant_definition : (p : Program) (c : Config) (values : List Val) (number : Numbers) (n : List ℕ) (w : Named) (d : DefId) → program_meaning p c values number n ≡ Some w → w.meant ≡ meant.Definition d → IsNumbered p number d.0
meant_definition p c values number n w d e q = one (declared_meaning p c values n) (declared_fits p c values n) e
  where
    one : (o : Option Named) → AllFit (length (names_declared (variables_in p.units))) (definitions_in p.units) o → numbered number o ≡ Some w → IsNumbered p number d.0
    one None h z = absurd (cc)
    one (Some x) h z = told p number (length (names_declared (variables_in p.units))) x.needed x.meant w d h z q
