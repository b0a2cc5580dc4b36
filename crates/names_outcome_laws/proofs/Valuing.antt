-- Each constant has its value, or there is a first one for which the configuration gives nothing.
use Rattle.std.proofs.Common.{◌≡◌, ◌∙◌, sym, ap, refl, subst, inl, inr, ℕ, zero, suc, List, [], ◌∷◌, length, ◌⊎◌}
use Rattle.std.specs.Prelude.{false, Option, Some, None, slice_get}
use Rattle.std.proofs.lemmas.Option.{slice_get_within}
use Rattle.values_core.specs.Data.{Val, truth}
use Rattle.reading_trees.specs.declared.config.Config.{Config}
use Rattle.reading_trees.specs.declared.config.Given.{Given}
use Rattle.reading_trees.specs.declared.config.Given.TheVariants.{Constant, Replaced}
use Rattle.reading_trees.specs.declared.config.GivenAt.{GivenAt}
use Rattle.reading_trees.specs.declared.module.Declared.{Declared}
use Rattle.reading_trees.specs.declared.module.Program.{Program}
use Rattle.names_program.specs.InUnits.{constants_in}
use Rattle.names_program.specs.Names.{given_for}
use Rattle.names_tables.specs.Values.{AreSpelled, AreValues, HasAllValues, HasNoValue, IsFirstWithoutValue, IsGiven, IsSpelled}
use Rattle.names_tables.proofs.Valued.{spelled_there}
use Rattle.names_outcome_laws.proofs.Searching.{AtMostFound, search_first}

some_value : (o : Option Given) → IsSpelled o → (v : Val) × IsGiven o v
some_value None s = (truth false, tt)
some_value (Some (Constant l)) s = s
some_value (Some (Replaced n at)) s = (truth false, tt)

-- values of the constants
record Valued (gs : List GivenAt) (ds : List Declared) : Type 0 where
  pub values : List Val
  pub as_many : length values ≡ length ds
  pub given : (k : ℕ) (d : Declared) (v : Val) → slice_get ds k ≡ Some d → slice_get values k ≡ Some v → IsGiven (given_for gs d.name) v

given_later : (gs : List GivenAt) (x : Declared) (ds : List Declared) (w : Val) (vs : List Val) → IsGiven (given_for gs x.name) w → ((k : ℕ) (d : Declared) (v : Val) → slice_get ds k ≡ Some d → slice_get vs k ≡ Some v → IsGiven (given_for gs d.name) v) → (k : ℕ) (d : Declared) (v : Val) → slice_get (x ∷ ds) k ≡ Some d → slice_get (w ∷ vs) k ≡ Some v → IsGiven (given_for gs d.name) v
given_later gs x ds w vs here rest zero d v e q =
    let one : x ≡ d = cc in
    let two : w ≡ v = cc in
    subst (λ (y : Declared). IsGiven (given_for gs y.name) v) one (subst (λ (z : Val). IsGiven (given_for gs x.name) z) two here)
given_later gs x ds w vs here rest (suc k) d v e q = rest k d v e q

valued : (gs : List GivenAt) → AreSpelled gs → (ds : List Declared) → Valued gs ds
valued gs s [] = record { values = []; as_many = refl; given = λ k d v e q. absurd (cc) }
valued gs s (d ∷ ds) =
    let rest : Valued gs ds = valued gs s ds in
    let here : (v : Val) × IsGiven (given_for gs d.name) v = some_value (given_for gs d.name) (spelled_there gs gs d.name (given_for gs d.name) s refl refl) in
    record { values = here.0 ∷ rest.values; as_many = ap suc rest.as_many; given = given_later gs d ds here.0 rest.values here.1 rest.given }

pub some_values : (p : Program) (c : Config) → AreSpelled c.givens → (values : List Val) × AreValues p c values
some_values p c s =
    let v : Valued c.givens (constants_in p.units) = valued c.givens s (constants_in p.units) in
    (v.values, record { as_many = v.as_many; given = v.given })

module _ (p : Program) (c : Config) where
  by_given : (k : ℕ) (d : Declared) → slice_get (constants_in p.units) k ≡ Some d → (o : Option Given) → given_for c.givens d.name ≡ o → AtMostFound (HasNoValue p c k)
  by_given k d e None q = inr (d, record { stands = e; nothing = q })
  by_given k d e (Some g) q = inl (λ x w. (
      let both : Some d ≡ Some x = sym e ∙ w.stands in
      let same : d ≡ x = cc in
      let bad : Some g ≡ None = sym q ∙ ap (λ (y : Declared). given_for c.givens y.name) same ∙ w.nothing in
      absurd (cc)))

  by_constant : (k : ℕ) (o : Option Declared) → slice_get (constants_in p.units) k ≡ o → AtMostFound (HasNoValue p c k)
  by_constant k None e = inl (λ d w. (let bad : None ≡ Some d = sym e ∙ w.stands in absurd (cc)))
  by_constant k (Some d) e = by_given k d e (given_for c.givens d.name) refl

  pub all_values_or_not : HasAllValues p c ⊎ ((d : Declared) × IsFirstWithoutValue p c d)
  all_values_or_not = elim (search_first (HasNoValue p c) (λ k. by_constant k (slice_get (constants_in p.units) k) refl) (length (constants_in p.units))) [
    | inl none ↦ inl (λ k d w. none k d (slice_get_within (constants_in p.units) k d w.stands) w)
    | inr first ↦ inr (first.what, record { index = first.index; is = first.is; none_before = first.none_before })
  ]
