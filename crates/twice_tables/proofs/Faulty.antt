-- What is wrong with levels is the same over two tables of one program.
use Rattle.std.proofs.Common.{◌≡◌, ◌∙◌, sym, ap, refl, subst, ℕ, zero, suc, List, [], ◌∷◌, length, ◌<◌, arith}
use Rattle.std.specs.Prelude.{Some, slice_get}
use Rattle.std.proofs.lemmas.Option.{slice_get_within}
use Rattle.reading_trees.specs.Trees.{Tree}
use Rattle.reading_trees.specs.declared.config.Config.{Config}
use Rattle.reading_trees.specs.declared.expr.Definition.{Definition}
use Rattle.reading_trees.specs.declared.form.DefinitionForm.{DefinitionForm}
use Rattle.reading_trees.specs.declared.form.DefinitionForm.TheVariants as forms
use Rattle.reading_trees.specs.declared.module.Program.{Program}
use Rattle.reading_trees.specs.declared.module.Unit.{Unit as ModuleUnit}
use Rattle.reading_trees.specs.declared.module.Unit.TheVariants.{Variables, Constants, Recursive, Define, Instance, Assume, Passed}
use Rattle.names_terms.specs.declared.operator.Operator.{Operator}
use Rattle.names_terms.specs.Terms.{Term}
use Rattle.names_term_parts.specs.declared.fault.LevelFault.{LevelFault}
use Rattle.names_term_levels.specs.Faults.{IsFirst}
use Rattle.names_program.specs.InUnits.{assumptions_in, definitions_in}
use Rattle.names_tables.specs.NameFaults.{definitions_before}
use Rattle.names_tables.specs.Tables.{IsTabled, unit_operator}
use Rattle.names_resolving.specs.UnitLevels.{IsUnitFault, IsBodyFault, IsFormFault, IsAssumedFault, IsLevelFaultAt, IsFirstLevelFault, HasFineLevels, assumptions_before}
use Rattle.twice_terms.specs.Laws.{AlikeTellSame, AreAny, TellSame}
use Rattle.twice_terms.proofs.FirstOne.{first_is_one}
use Rattle.twice_tables.proofs.Early.{neither_below, some_one}
use Rattle.twice_tables.proofs.Sides.{Side, there_shaped}

pub item_there : {A : Type 0} (xs : List A) (i : ℕ) → i < length xs → (x : A) × (slice_get xs i ≡ Some x)
item_there [] i lt = absurd (omega (arith, lt))
item_there (x ∷ xs) zero lt = (x, refl)
item_there (x ∷ xs) (suc i) lt = item_there xs i (omega (arith, lt))

defined_there : (us : List ModuleUnit) (k : ℕ) (d : Definition) → slice_get us k ≡ Some (Define d) → slice_get (definitions_in us) (definitions_before us k) ≡ Some d
defined_there [] zero d e = absurd (cc)
defined_there [] (suc k) d e = absurd (cc)
defined_there (u ∷ us) zero d e = let same : u ≡ Define d = cc in subst (λ (y : ModuleUnit). slice_get (definitions_in (y ∷ us)) 0 ≡ Some d) (sym same) refl
defined_there (Define x ∷ us) (suc k) d e = defined_there us k d e
defined_there (Variables x ∷ us) (suc k) d e = defined_there us k d e
defined_there (Constants x ∷ us) (suc k) d e = defined_there us k d e
defined_there (Assume x ∷ us) (suc k) d e = defined_there us k d e
defined_there (Recursive rs ∷ us) (suc k) d e = defined_there us k d e
defined_there (Instance m ∷ us) (suc k) d e = defined_there us k d e
defined_there (Passed ∷ us) (suc k) d e = defined_there us k d e

assumed_there : (us : List ModuleUnit) (k : ℕ) (t : Tree) → slice_get us k ≡ Some (Assume t) → slice_get (assumptions_in us) (assumptions_before us k) ≡ Some t
assumed_there [] zero t e = absurd (cc)
assumed_there [] (suc k) t e = absurd (cc)
assumed_there (u ∷ us) zero t e = let same : u ≡ Assume t = cc in subst (λ (y : ModuleUnit). slice_get (assumptions_in (y ∷ us)) 0 ≡ Some t) (sym same) refl
assumed_there (Define x ∷ us) (suc k) t e = assumed_there us k t e
assumed_there (Variables x ∷ us) (suc k) t e = assumed_there us k t e
assumed_there (Constants x ∷ us) (suc k) t e = assumed_there us k t e
assumed_there (Assume x ∷ us) (suc k) t e = assumed_there us k t e
assumed_there (Recursive rs ∷ us) (suc k) t e = assumed_there us k t e
assumed_there (Instance m ∷ us) (suc k) t e = assumed_there us k t e
assumed_there (Passed ∷ us) (suc k) t e = assumed_there us k t e

module _ (laws : AlikeTellSame AreAny) (p : Program) (c : Config) where
  form_fault : (form : DefinitionForm) (ops all : List Operator) (e t : Term) (f : LevelFault) → TellSame AreAny ops all e t → IsFormFault form ops e f → IsFormFault form all t f
  form_fault forms.Operator ops all e t f same h = same.fault f h
  form_fault forms.Function ops all e t f same h = same.fault f h
  form_fault forms.Constant ops all e t f same h = same.assumption_fault f h

  body_fault : (a b : Side p c) (i : ℕ) (d : Definition) (f : LevelFault) → slice_get (definitions_in p.units) i ≡ Some d → IsBodyFault a.number a.ops d.form i f → IsBodyFault b.number b.ops d.form i f
  body_fault a b i d f at h =
      let x : IsTabled p c a.values a.number a.ops i d = a.is.table.definitions i d at in
      let y : IsTabled p c b.values b.number b.ops i d = b.is.table.definitions i d at in
      let row : h.row ≡ x.row = some_one (a.number i) h.row x.row h.numbered x.numbered in
      let op : h.operator ≡ unit_operator d x.own x.body = some_one (slice_get a.ops x.row) h.operator (unit_operator d x.own x.body) (ap (slice_get a.ops) (sym row) ∙ h.stands) x.stands in
      let wrong : IsFormFault d.form a.ops x.body f = subst (λ (o : Operator). IsFormFault d.form a.ops o.body f) op h.wrong in
      record {
        row = y.row;
        operator = unit_operator d y.own y.body;
        numbered = y.numbered;
        stands = y.stands;
        wrong = form_fault d.form a.ops b.ops x.body y.body f (laws a.ops b.ops x.body y.body (there_shaped p c a b d.params d.body x.body y.body x.means y.means)) wrong;
      }

  assumed_fault : (a b : Side p c) (j : ℕ) (t : Tree) (f : LevelFault) → slice_get (assumptions_in p.units) j ≡ Some t → IsAssumedFault a.ops a.assumes j f → IsAssumedFault b.ops b.assumes j f
  assumed_fault a b j t f at h =
      let lt : j < length (assumptions_in p.units) = slice_get_within (assumptions_in p.units) j t at in
      let many : j < length b.assumes = subst (λ (n : ℕ). j < n) (sym b.is.assumed.as_many) lt in
      let y : (e : Term) × (slice_get b.assumes j ≡ Some e) = item_there b.assumes j many in
      record { term = y.0; stands = y.1; wrong = (laws a.ops b.ops h.term y.0 (there_shaped p c a b [] t h.term y.0 (a.is.assumed.each j t h.term at h.stands) (b.is.assumed.each j t y.0 at y.1))).assumption_fault f h.wrong }

  unit_fault : (a b : Side p c) (k : ℕ) (u : ModuleUnit) (f : LevelFault) → slice_get p.units k ≡ Some u → IsUnitFault a.number a.ops a.assumes (definitions_before p.units k) (assumptions_before p.units k) u f → IsUnitFault b.number b.ops b.assumes (definitions_before p.units k) (assumptions_before p.units k) u f
  unit_fault a b k (Define d) f e h = body_fault a b (definitions_before p.units k) d f (defined_there p.units k d e) h
  unit_fault a b k (Assume t) f e h = assumed_fault a b (assumptions_before p.units k) t f (assumed_there p.units k t e) h
  unit_fault a b k (Variables x) f e h = absurd h
  unit_fault a b k (Constants x) f e h = absurd h
  unit_fault a b k (Recursive rs) f e h = absurd h
  unit_fault a b k (Instance m) f e h = absurd h
  unit_fault a b k Passed f e h = absurd h

  fault_at : (a b : Side p c) (k : ℕ) (f : LevelFault) → IsLevelFaultAt p a.number a.ops a.assumes k f → IsLevelFaultAt p b.number b.ops b.assumes k f
  fault_at a b k f h = record { unit = h.unit; stands = h.stands; wrong = unit_fault a b k h.unit f h.stands h.wrong }

  pub fine_levels : (a b : Side p c) (f : LevelFault) → IsFirstLevelFault p a.number a.ops a.assumes f → HasFineLevels p b.number b.ops b.assumes → ⊥
  fine_levels a b f h fine = fine h.index f (fault_at a b h.index f h.is.is_such)

  pub level_fault_one : (a b : Side p c) (f g : LevelFault) → IsFirstLevelFault p a.number a.ops a.assumes f → IsFirstLevelFault p b.number b.ops b.assumes g → f ≡ g
  level_fault_one a b f g x y =
      let same : x.index ≡ y.index = neither_below x.index y.index (λ lt. y.none_before x.index f lt (fault_at a b x.index f x.is.is_such)) (λ lt. x.none_before y.index g lt (fault_at b a y.index g y.is.is_such)) in
      let here : IsFirst (IsLevelFaultAt p a.number a.ops a.assumes y.index) f = subst (λ (k : ℕ). IsFirst (IsLevelFaultAt p a.number a.ops a.assumes k) f) same x.is in
      let over : IsFirst (IsLevelFaultAt p b.number b.ops b.assumes y.index) f =
      record { is_such = fault_at a b y.index f here.is_such; none_before = λ h s. here.none_before h (fault_at b a y.index h s) } in
      first_is_one (IsLevelFaultAt p b.number b.ops b.assumes y.index) f g over y.is
