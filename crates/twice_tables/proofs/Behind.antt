-- Init, Next and the shape behind SPECIFICATION over two tables of one program.
use Rattle.std.proofs.Common.{◌≡◌, ◌∙◌, sym, ap, refl, subst, ℕ, List, inl, inr}
use Rattle.std.specs.Prelude.{Option, Some, None, slice_get}
use Rattle.base_core.specs.declared.place.Place.{Place}
use Rattle.values_core.specs.Data.{Val}
use Rattle.reading_trees.specs.declared.config.Config.{Config}
use Rattle.reading_trees.specs.declared.expr.Definition.{Definition}
use Rattle.reading_trees.specs.declared.module.Program.{Program}
use Rattle.names_terms.specs.declared.operator.Operator.{Operator}
use Rattle.names_terms.specs.Terms.{Term}
use Rattle.names_term_levels.specs.Shape.{HasShape}
use Rattle.names_program.specs.InUnits.{definitions_in}
use Rattle.names_program.specs.Names.{Numbers, definition_index}
use Rattle.names_tables.specs.Tables.{IsTabled, unit_operator}
use Rattle.names_resolving.specs.Configured.{AreSteps, HasBody, HasNoShape, by_names, by_specification, operator_for, operator_named, row_named}
use Rattle.names_resolving.specs.Givens.{row_of}
use Rattle.names_resolving.specs.Resolved.{IsOneForm}
use Rattle.twice_terms.specs.Alike.{Alike}
use Rattle.twice_terms.specs.Laws.{AlikeTellSame, AreAny}
use Rattle.twice_tables.specs.Places.{ValuesAre}
use Rattle.twice_tables.proofs.ProgramNames.{there}
use Rattle.twice_tables.proofs.Early.{some_one}
use Rattle.twice_tables.proofs.Sides.{Side, Ranges, index_ranges, there_same}

-- a name has one body
pub body_one : (p : Program) (number : Numbers) (ops : List Operator) (n : List ℕ) (e f : Term) → HasBody p number ops n e → HasBody p number ops n f → e ≡ f
body_one p number ops n e f g h =
    let same : g.operator ≡ h.operator = some_one (operator_for p number ops n) g.operator h.operator g.is h.is in
    sym g.body_is ∙ ap (λ (o : Operator). o.body) same ∙ h.body_is

module _ (p : Program) (c : Config) where
  abbrev BodyThere : (Val → Val → Type 0) → (a b : Side p c) → List ℕ → Term → Type 0
  BodyThere Same a b n e = (f : Term) × HasBody p b.number b.ops n f × Alike Same a.ops b.ops e f

  -- a name that has a body in the one table has one that is alike in the other
  pub body_there : (Same : Val → Val → Type 0) → ((v : Val) → Same v v) → (a b : Side p c) → ValuesAre Same p c a.values b.values → (n : List ℕ) (e : Term) → HasBody p a.number a.ops n e → BodyThere Same a b n e
  body_there Same itself a b are n e h = one (definition_index p n) refl (index_ranges p n)
    where
      one : (o : Option ℕ) → definition_index p n ≡ o → Ranges p o → BodyThere Same a b n e
      one None q lt =
          let bad : None ≡ Some h.operator = sym (ap (row_named a.number a.ops) q) ∙ h.is in
          absurd (cc)
      one (Some i) q lt =
          let d : (d : Definition) × (slice_get (definitions_in p.units) i ≡ Some d) = there (definitions_in p.units) i lt in
          let x : IsTabled p c a.values a.number a.ops i d.0 = a.is.table.definitions i d.0 d.1 in
          let y : IsTabled p c b.values b.number b.ops i d.0 = b.is.table.definitions i d.0 d.1 in
          let is : operator_for p a.number a.ops n ≡ Some (unit_operator d.0 x.own x.body) = ap (row_named a.number a.ops) q ∙ ap (row_of a.ops) x.numbered ∙ x.stands in
          let at : operator_for p b.number b.ops n ≡ Some (unit_operator d.0 y.own y.body) = ap (row_named b.number b.ops) q ∙ ap (row_of b.ops) y.numbered ∙ y.stands in
          let same : x.body ≡ e = body_one p a.number a.ops n x.body e (record { operator = unit_operator d.0 x.own x.body; is = is; body_is = refl }) h in
          let alike : Alike Same a.ops b.ops x.body y.body = there_same p c Same itself a b are d.0.params d.0.body x.body y.body x.means y.means in
          (y.body, record { operator = unit_operator d.0 y.own y.body; is = at; body_is = refl }, subst (λ (z : Term). Alike Same a.ops b.ops z y.body) same alike)

  pub bodies_alike : (Same : Val → Val → Type 0) → ((v : Val) → Same v v) → (a b : Side p c) → ValuesAre Same p c a.values b.values → (n : List ℕ) (e f : Term) → HasBody p a.number a.ops n e → HasBody p b.number b.ops n f → Alike Same a.ops b.ops e f
  bodies_alike Same itself a b are n e f g h =
      let x : BodyThere Same a b n e = body_there Same itself a b are n e g in
      subst (λ (z : Term). Alike Same a.ops b.ops e z) (body_one p b.number b.ops n x.0 f x.1 h) x.2

  -- where the operator has no shape in the one table, it has none in the other
  pub no_shape_there : AlikeTellSame AreAny → (a b : Side p c) (at : Place) → HasNoShape p c a.number a.ops at → HasNoShape p c b.number b.ops at
  no_shape_there laws a b at h =
      let x : BodyThere AreAny a b h.name h.body = body_there AreAny (λ v. tt) a b (λ n i u w. tt) h.name h.body h.has in
      let back : Alike AreAny b.ops a.ops x.0 h.body = bodies_alike AreAny (λ v. tt) b a (λ n i u w. tt) h.name x.0 h.body x.1 h.has in
      record {
        name = h.name;
        named = h.named;
        definition = h.definition;
        is = h.is;
        at_is = h.at_is;
        body = x.0;
        has = x.1;
        none = λ init next s. (let r = (laws b.ops a.ops x.0 h.body back).shape init next s in h.none r.0 r.1 r.4);
      }

  pub no_shape_one : (number renumber : Numbers) (ops all : List Operator) (at to : Place) → HasNoShape p c number ops at → HasNoShape p c renumber all to → at ≡ to
  no_shape_one number renumber ops all at to g h =
      let name : g.name ≡ h.name = some_one c.specification g.name h.name g.named h.named in
      let same : g.definition ≡ h.definition = some_one (operator_named p h.name) g.definition h.definition (ap (operator_named p) (sym name) ∙ g.is) h.is in
      sym g.at_is ∙ ap (λ (d : Definition). d.at) same ∙ h.at_is

  -- steps that are there leave no room for an operator without a shape
  pub steps_have_shape : IsOneForm c → (number : Numbers) (ops : List Operator) (init next : Term) (at : Place) → AreSteps p c number ops init next → HasNoShape p c number ops at → ⊥
  steps_have_shape form number ops _ _ at (by_names m n init next x y s t) h = elim form [
    | inl f ↦ (let bad : None ≡ Some m = sym f.2 ∙ x in absurd (cc))
    | inr f ↦ (let bad : None ≡ Some h.name = sym f.2 ∙ h.named in absurd (cc))
  ]
  steps_have_shape form number ops _ _ at (by_specification n body init next x s t) h =
      let name : n ≡ h.name = some_one c.specification n h.name x h.named in
      let here : HasBody p number ops h.name body = subst (λ (y : List ℕ). HasBody p number ops y body) name s in
      let same : body ≡ h.body = body_one p number ops h.name body h.body here h.has in
      h.none init next (subst (λ (e : Term). HasShape ops e init next) same t)

  abbrev StepsAlike : (Val → Val → Type 0) → (a b : Side p c) → (init next i n : Term) → Type 0
  StepsAlike Same a b init next i n = Alike Same a.ops b.ops init i × Alike Same a.ops b.ops next n

  same_option : (o : Option (List ℕ)) (m n : List ℕ) → o ≡ Some m → o ≡ Some n → m ≡ n
  same_option o m n x y = some_one o m n x y

  not_both : IsOneForm c → (m n : List ℕ) → c.init ≡ Some m → c.specification ≡ Some n → ⊥
  not_both form m n x y = elim form [
    | inl f ↦ (let bad : None ≡ Some m = sym f.2 ∙ x in absurd (cc))
    | inr f ↦ (let bad : None ≡ Some n = sym f.2 ∙ y in absurd (cc))
  ]

  -- the steps of two tables are alike
  pub steps_alike : (Same : Val → Val → Type 0) → ((v : Val) → Same v v) → AlikeTellSame Same → IsOneForm c → (a b : Side p c) → ValuesAre Same p c a.values b.values → (init next i n : Term) → AreSteps p c a.number a.ops init next → AreSteps p c b.number b.ops i n → StepsAlike Same a b init next i n
  steps_alike Same itself laws form a b are _ _ _ _ (by_names m n init next x y s t) (by_names m2 n2 i j x2 y2 s2 t2) =
      let first : m2 ≡ m = same_option c.init m2 m x2 x in
      let second : n2 ≡ n = same_option c.next n2 n y2 y in (
        bodies_alike Same itself a b are m init i s (subst (λ (w : List ℕ). HasBody p b.number b.ops w i) first s2),
        bodies_alike Same itself a b are n next j t (subst (λ (w : List ℕ). HasBody p b.number b.ops w j) second t2),
      )
  steps_alike Same itself laws form a b are _ _ _ _ (by_names m n init next x y s t) (by_specification n2 body i j x2 s2 t2) = absurd (not_both form m n2 x x2)
  steps_alike Same itself laws form a b are _ _ _ _ (by_specification n body init next x s t) (by_names m2 n2 i j x2 y2 s2 t2) = absurd (not_both form m2 n x2 x)
  steps_alike Same itself laws form a b are _ _ _ _ (by_specification n body init next x s t) (by_specification n2 other i j x2 s2 t2) =
      let name : n2 ≡ n = same_option c.specification n2 n x2 x in
      let alike : Alike Same a.ops b.ops body other = bodies_alike Same itself a b are n body other s (subst (λ (w : List ℕ). HasBody p b.number b.ops w other) name s2) in
      (laws a.ops b.ops body other alike).shapes init next i j t t2
