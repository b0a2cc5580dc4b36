-- Which definitions use themselves, and which do so wrongly.
use Rattle.std.proofs.Common.{◌≡◌, ◌∙◌, sym, ap, refl, subst, ℕ, zero, suc, List, [], ◌∷◌, length, ◌<◌, ◌≤◌, ◌⊎◌, inl, inr, arith}
use Rattle.std.specs.Prelude.{◌↔◌, Bool, true, false, IsTrue, Contains}
use Rattle.std.specs.Prelude.{Vec}
use Rattle.std.specs.declared.alloc.Global.{Global}
use Rattle.std.specs.List.{slice_index_or}
use Rattle.std.proofs.lemmas.List.{get_or_past, length-map}
use Rattle.reading_trees.specs.declared.config.Config.{Config}
use Rattle.reading_trees.specs.declared.module.Program.{Program}
use Rattle.names_program.specs.InUnits.{definitions_in}
use Rattle.names_program.specs.Recursion.{AreLevelsOf, IsAbove, LeadsStrictly, MeetsRecursion}
use Rattle.names_program.specs.Uses as program
use Rattle.names_program.specs.Uses.{LeadsTo, UsesDefinition}
use Rattle.names_least_levels.specs.Levels.{mark}
use Rattle.names_uses.proofs.ProgramLevels.{above_marked}
use Rattle.base_use_order.specs.Uses.{Leads, direct, through, UsesItself}
use Rattle.base_use_order.specs.Uses as order
use Rattle.base_use_order.proofs.Lists.{none_in, within_or_past}
use Rattle.base_use_order.specs.Apart.{IsOrderApart}
use Rattle.names_tables.specs.UnitComplaints.{AreRecursive, AreUses, AreWrong, AreWrongBy, is_wrong}
use Rattle.names_tables.proofs.UnitPlaces.{untrue}

no_use : (uses : order.Table) (i j : ℕ) → length uses ≤ i → Leads uses i j → ⊥
no_use uses _ _ le (direct a b u) = none_in b (subst (λ (l : List ℕ). Contains l b) (get_or_past uses a [] le) u)
no_use uses _ _ le (through a b c u r) = none_in b (subst (λ (l : List ℕ). Contains l b) (get_or_past uses a [] le) u)

pub all_marked : (uses : order.Table) (marks : List Bool) (n : ℕ) → length marks ≡ n → length uses ≤ n → ((i : ℕ) → i < n → IsTrue (slice_index_or marks i false) ↔ UsesItself uses i) → AreRecursive uses marks
all_marked uses marks n many le h i = elim (within_or_past i n) [
  | inl lt ↦ h i lt
  | inr past ↦
      let short : length marks ≤ i = omega (arith, many, past) in
      let few : length uses ≤ i = omega (arith, le, past) in
      (λ t. absurd (untrue (subst (λ (b : Bool). IsTrue b) (get_or_past marks i false short) t)), λ l. absurd (no_use uses i i few l))
]

pub uses_are : (p : Program) (c : Config) (us : List (Vec ℕ Global)) → length us ≡ length (definitions_in p.units) → order.IsWithin (order.table_of us) → ((i j : ℕ) → order.Uses (order.table_of us) i j ↔ UsesDefinition p c i j) → ((i j : ℕ) → Leads (order.table_of us) i j ↔ LeadsTo p c i j) → AreUses p c (order.table_of us)
uses_are p c us many within exact leads = record {
  as_many = length-map us (λ (u : Vec ℕ Global). u.items) ∙ many;
  exact = exact;
  leads = leads;
  within = within;
}

-- those that use themselves in the program are marked
pub marked_in : (p : Program) (c : Config) (uses : order.Table) (marks : List Bool) → AreUses p c uses → AreRecursive uses marks → (i : ℕ) → IsTrue (slice_index_or marks i false) ↔ program.UsesItself p c i
marked_in p c uses marks found are i = (λ t. (found.leads i i).0 ((are i).0 t), λ u. (are i).1 ((found.leads i i).1 u))

-- Wrong uses of themselves.

either : (a b d : Bool) (P Q R : Type 0) → (IsTrue a ↔ P) → (IsTrue b ↔ Q) → (IsTrue d ↔ R) → IsTrue (is_wrong a b d) ↔ (P ⊎ (Q × R))
either true b d P Q R p q r = (λ t. inl (p.0 refl), λ h. refl)
either false true true P Q R p q r = (λ t. inr (q.0 refl, r.0 refl), λ h. refl)
either false true false P Q R p q r = (λ t. absurd (untrue t), λ h. elim h [ inl x ↦ absurd (untrue (p.1 x)) | inr y ↦ absurd (untrue (r.1 y.1)) ])
either false false d P Q R p q r = (λ t. absurd (untrue t), λ h. elim h [ inl x ↦ absurd (untrue (p.1 x)) | inr y ↦ absurd (untrue (q.1 y.0)) ])

mark_is : (bs : List Bool) (i : ℕ) → slice_index_or bs i false ≡ mark bs i
mark_is [] zero = refl
mark_is [] (suc i) = refl
mark_is (b ∷ bs) zero = refl
mark_is (b ∷ bs) (suc i) = mark_is bs i

above_is : (p : Program) (c : Config) (levels : List Bool) → AreLevelsOf p c levels → (i : ℕ) → IsTrue (slice_index_or levels i false) ↔ IsAbove p c i
above_is p c levels are i = (λ t. (above_marked p c levels i are).1 (sym (mark_is levels i) ∙ t), λ a. mark_is levels i ∙ (above_marked p c levels i are).0 a)

pub are_wrong : (p : Program) (c : Config) (uses strict : order.Table) (strictly itself levels marks : List Bool) → AreUses p c uses → ((i j : ℕ) → Leads strict i j ↔ LeadsStrictly p c i j) → AreRecursive strict strictly → AreRecursive uses itself → AreLevelsOf p c levels → AreWrongBy strictly itself levels marks → AreWrong p c marks
are_wrong p c uses strict strictly itself levels marks found leads strictly_are itself_are are by i =
    let both : IsTrue (is_wrong (slice_index_or strictly i false) (slice_index_or itself i false) (slice_index_or levels i false)) ↔ MeetsRecursion p c i =
    either (slice_index_or strictly i false) (slice_index_or itself i false) (slice_index_or levels i false) (LeadsStrictly p c i i) (program.UsesItself p c i) (IsAbove p c i)
    ((λ t. (leads i i).0 ((strictly_are i).0 t)), (λ l. (strictly_are i).1 ((leads i i).1 l)))
    (marked_in p c uses itself found itself_are i)
    (above_is p c levels are i) in
    (λ t. both.0 (sym (by i) ∙ t), λ w. by i ∙ both.1 w)

-- marks for so many, and none behind
pub all_wrong : (strictly itself above marks : List Bool) (n : ℕ) → length marks ≡ n → length strictly ≤ n → length itself ≤ n → ((i : ℕ) → i < n → slice_index_or marks i false ≡ is_wrong (slice_index_or strictly i false) (slice_index_or itself i false) (slice_index_or above i false)) → AreWrongBy strictly itself above marks
all_wrong strictly itself above marks n many few fewer h i = elim (within_or_past i n) [
  | inl lt ↦ h i lt
  | inr past ↦
      let a : length marks ≤ i = omega (arith, many, past) in
      let b : length strictly ≤ i = omega (arith, few, past) in
      let d : length itself ≤ i = omega (arith, fewer, past) in
      get_or_past marks i false a ∙ sym (ap (λ (x : Bool). is_wrong x (slice_index_or itself i false) (slice_index_or above i false)) (get_or_past strictly i false b) ∙ ap (λ (x : Bool). is_wrong false x (slice_index_or above i false)) (get_or_past itself i false d))
]

-- marks and orders by other names

pub recursive_with : (uses : order.Table) (xs ys : List Bool) → ys ≡ xs → AreRecursive uses xs → AreRecursive uses ys
recursive_with uses xs ys e h = subst (λ (l : List Bool). AreRecursive uses l) (sym e) h

pub order_with : (uses : order.Table) (xs ys : List Bool) (os ps : List ℕ) → ys ≡ xs → ps ≡ os → IsOrderApart xs uses os → IsOrderApart ys uses ps
order_with uses xs ys os ps e q h = subst (λ (l : List Bool). IsOrderApart l uses ps) (sym e) (subst (λ (l : List ℕ). IsOrderApart xs uses l) (sym q) h)
