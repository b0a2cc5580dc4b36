-- The first thing that is wrong with the levels of the units.
use Rattle.std.proofs.Common.{◌≡◌, ◌∙◌, sym, ap, refl, subst, ℕ, List, [], ◌∷◌, ◌++◌, length, ◌<◌, ◌≤◌, ◌+◌, arith, take, get_or, inl, inr, length-append, ◌⊎◌}
use Rattle.std.specs.Prelude.{Option, Some, None, Result, Ok, Err, IfOk, MatchOption, slice_get}
use Rattle.std.proofs.lemmas.List.{take_more}
use Rattle.std.proofs.lemmas.Option.{slice_get_within}
use Rattle.reading_trees.specs.declared.form.DefinitionForm.{DefinitionForm}
use Rattle.reading_trees.specs.declared.form.DefinitionForm.TheVariants as forms
use Rattle.reading_trees.specs.declared.module.Program.{Program}
use Rattle.reading_trees.specs.declared.module.Unit.{Unit as ModuleUnit}
use Rattle.reading_trees.specs.declared.module.Unit.TheVariants.{Variables, Constants, Recursive, Define, Instance, Assume, Passed}
use Rattle.names_terms.specs.declared.operator.Operator.{Operator}
use Rattle.names_terms.specs.Terms.{Term}
use Rattle.names_term_parts.specs.declared.fault.LevelFault.{LevelFault}
use Rattle.names_term_parts.specs.Slots.{MentionsBelow, UsesSmaller}
use Rattle.names_term_parts.proofs.Lists.{item_within, some_item}
use Rattle.names_term_parts.proofs.Ordering.{body_within}
use Rattle.names_term_levels.specs.declared.note.Note.{Note}
use Rattle.names_term_levels.specs.Faults.{IsFault, IsFirst, in_term}
use Rattle.names_term_levels.specs.Notes.{AreNotes}
use Rattle.names_program.specs.InUnits.{assumptions_in}
use Rattle.names_program.specs.Names.{Numbers}
use Rattle.names_resolving.specs.Standing.{IsFaultOf, fault_in}
use Rattle.names_resolving.specs.UnitLevels.{IsBodyFault, IsFormFault, IsUnitFault, IsLevelFaultAt, IsFirstLevelFault, HasFineLevels, assumptions_before}
use Rattle.names_tables.specs.NameFaults.{definitions_before}

-- the first of those that are such, where others are such exactly where these are
carry : (P Q : LevelFault → Type 0) (o : Option LevelFault) → ((f : LevelFault) → P f → Q f) → ((f : LevelFault) → Q f → P f) → MatchOption o ((f : LevelFault) → ¬ P f) (IsFirst P) → MatchOption o ((f : LevelFault) → ¬ Q f) (IsFirst Q)
carry P Q None a b h = λ f q. h f (b f q)
carry P Q (Some f) a b h = record { is_such = a f h.is_such; none_before = λ g q. h.none_before g (b g q) }

same_some : {A : Type 0} (x y : A) → Some x ≡ Some y → x ≡ y
same_some x y e = cc

-- what is noted of the body of an operator or a function, if it stands in the table
pub noted_told : (ops : List Operator) (notes : List Note) (k : ℕ) (found : Option LevelFault) → AreNotes ops notes → length notes ≡ length ops → found ≡ fault_in (slice_get notes k) → IsFaultOf forms.Operator ops (slice_get ops k) found
noted_told ops notes k found are as_many e = subst (λ (x : Option LevelFault). IsFaultOf forms.Operator ops (slice_get ops k) x) (sym e) (by_row (slice_get ops k) (slice_get notes k) refl refl)
  where
    by_row : (r : Option Operator) (n : Option Note) → slice_get ops k ≡ r → slice_get notes k ≡ n → IsFaultOf forms.Operator ops r (fault_in n)
    by_row None None s q = refl
    by_row (Some o) (Some n) s q = (are k o n s q).fault
    by_row None (Some n) s q =
        let lt : k < length ops = omega (arith, item_within notes k n q, as_many) in
        let x : (o : Operator) × (slice_get ops k ≡ Some o) = some_item ops k lt in
        let bad : None ≡ Some x.0 = sym s ∙ x.1 in
        absurd (cc)
    by_row (Some o) None s q =
        let lt : k < length notes = omega (arith, item_within ops k o s, as_many) in
        let x : (n : Note) × (slice_get notes k ≡ Some n) = some_item notes k lt in
        let bad : None ≡ Some x.0 = sym q ∙ x.1 in
        absurd (cc)

pub function_told : (ops : List Operator) (r : Option Operator) (found : Option LevelFault) → IsFaultOf forms.Operator ops r found → IsFaultOf forms.Function ops r found
function_told ops None found h = h
function_told ops (Some o) found h = h

-- what stands for a constant uses definitions of the table alone
pub constant_below : (ops : List Operator) (n k : ℕ) (o : Operator) → UsesSmaller ops → n ≡ length ops → slice_get ops k ≡ Some o → MentionsBelow n o.body
constant_below ops n k o ordered e s = subst (λ (m : ℕ). MentionsBelow m o.body) (sym e) (body_within ops k o ordered s)

-- so is that of an index
module _ (number : Numbers) (ops : List Operator) (form : DefinitionForm) (i : ℕ) where
  abbrev Bad : LevelFault → Type 0
  Bad = IsBodyFault number ops form i

  abbrev Said : Option LevelFault → Type 0
  Said found = MatchOption found ((f : LevelFault) → ¬ Bad f) (IsFirst Bad)

  there_stands : (k : ℕ) → number i ≡ Some k → (f : LevelFault) (w : Bad f) → slice_get ops k ≡ Some w.operator
  there_stands k numbered f w =
      let row : w.row ≡ k = same_some w.row k (sym w.numbered ∙ numbered) in
      subst (λ (x : ℕ). slice_get ops x ≡ Some w.operator) row w.stands

  of_row : (k : ℕ) → number i ≡ Some k → (r : Option Operator) → slice_get ops k ≡ r → (found : Option LevelFault) → IsFaultOf form ops r found → Said found
  of_row k numbered None s found h = subst Said (sym h) (λ f w. (let bad : None ≡ Some w.operator = sym s ∙ there_stands k numbered f w in cc))
  of_row k numbered (Some o) s found h =
      carry (IsFormFault form ops o.body) Bad found (λ f w. record { row = k; operator = o; numbered = numbered; stands = s; wrong = w })
      (λ f w. subst (λ (x : Operator). IsFormFault form ops x.body f) (same_some w.operator o (sym (there_stands k numbered f w) ∙ s)) w.wrong) h

  pub noted : {E : Type 0} (k : ℕ) (r : Result (Option LevelFault) E) → number i ≡ Some k → IfOk r (IsFaultOf form ops (slice_get ops k)) → IfOk r Said
  noted k (Ok found) numbered h = of_row k numbered (slice_get ops k) refl found h
  noted k (Err e) numbered h = tt

-- what is wrong in a body is wrong with a definition of each form
pub in_form : (form : DefinitionForm) (ops : List Operator) (e : Term) (f : LevelFault) → IsFault ops e f → IsFormFault form ops e f
in_form forms.Operator ops e f h = h
in_form forms.Function ops e f h = h
in_form forms.Constant ops e f h = in_term e f h

below_or_at : (j k : ℕ) → j < k + 1 → (j < k) ⊎ (j ≡ k)
below_or_at j k lt = grind arith

assumptions_behind : (us vs : List ModuleUnit) → assumptions_in (us ++ vs) ≡ assumptions_in us ++ assumptions_in vs
assumptions_behind [] vs = refl
assumptions_behind (Variables ds ∷ us) vs = assumptions_behind us vs
assumptions_behind (Constants ds ∷ us) vs = assumptions_behind us vs
assumptions_behind (Define d ∷ us) vs = assumptions_behind us vs
assumptions_behind (Assume e ∷ us) vs = ap (λ l. e ∷ l) (assumptions_behind us vs)
assumptions_behind (Recursive rs ∷ us) vs = assumptions_behind us vs
assumptions_behind (Instance m ∷ us) vs = assumptions_behind us vs
assumptions_behind (Passed ∷ us) vs = assumptions_behind us vs

assumed_more : (us : List ModuleUnit) (k : ℕ) (u : ModuleUnit) → k < length us → u ≡ get_or us k u → assumptions_before us (k + 1) ≡ assumptions_before us k + length (assumptions_in (u ∷ []))
assumed_more us k u lt e =
    ap (λ (l : List ModuleUnit). length (assumptions_in l)) (take_more us k u lt ∙ ap (λ (x : ModuleUnit). take k us ++ x ∷ []) (sym e))
    ∙ ap length (assumptions_behind (take k us) (u ∷ []))
    ∙ length-append (assumptions_in (take k us)) (assumptions_in (u ∷ []))

pub assumed_counted : (us : List ModuleUnit) (k : ℕ) (u : ModuleUnit) (i r : ℕ) → k < length us → u ≡ get_or us k u → i ≡ assumptions_before us k → r ≡ length (assumptions_in (u ∷ [])) → i + r ≡ assumptions_before us (k + 1)
assumed_counted us k u i r lt e at one = ap (λ (n : ℕ). n + r) at ∙ ap (λ (m : ℕ). assumptions_before us k + m) one ∙ sym (assumed_more us k u lt e)

pub one_assumed : (u : ModuleUnit) (r : ℕ) → r ≡ length (assumptions_in (u ∷ [])) → r ≤ 1
one_assumed (Define d) r e = (let none : r ≡ 0 = e in omega arith)
one_assumed (Variables ds) r e = (let none : r ≡ 0 = e in omega arith)
one_assumed (Constants ds) r e = (let none : r ≡ 0 = e in omega arith)
one_assumed (Assume t) r e = (let one : r ≡ 1 = e in omega arith)
one_assumed (Recursive rs) r e = (let none : r ≡ 0 = e in omega arith)
one_assumed (Instance m) r e = (let none : r ≡ 0 = e in omega arith)
one_assumed Passed r e = (let none : r ≡ 0 = e in omega arith)

module _ (p : Program) (number : Numbers) (ops : List Operator) (assumes : List Term) (k : ℕ) (u : ModuleUnit) (stands : slice_get p.units k ≡ Some u) (i j : ℕ) (at : i ≡ definitions_before p.units k) (on : j ≡ assumptions_before p.units k) where
  abbrev Wrong : LevelFault → Type 0
  Wrong f = IsUnitFault number ops assumes i j u f

  to_there : (f : LevelFault) → Wrong f → IsLevelFaultAt p number ops assumes k f
  to_there f w = record {
    unit = u;
    stands = stands;
    wrong = subst (λ (y : ℕ). IsUnitFault number ops assumes (definitions_before p.units k) y u f) on (subst (λ (x : ℕ). IsUnitFault number ops assumes x j u f) at w);
  }

  of_there : (f : LevelFault) → IsLevelFaultAt p number ops assumes k f → Wrong f
  of_there f w =
      let same : w.unit ≡ u = same_some w.unit u (sym w.stands ∙ stands) in
      let here : IsUnitFault number ops assumes (definitions_before p.units k) (assumptions_before p.units k) u f = subst (λ (x : ModuleUnit). IsUnitFault number ops assumes (definitions_before p.units k) (assumptions_before p.units k) x f) same w.wrong in
      subst (λ (x : ℕ). IsUnitFault number ops assumes x j u f) (sym at) (subst (λ (y : ℕ). IsUnitFault number ops assumes (definitions_before p.units k) y u f) (sym on) here)

  pub fine_on : (o : Option LevelFault) → MatchOption o ((f : LevelFault) → ¬ Wrong f) (IsFirst Wrong) → o ≡ None → ((m : ℕ) (f : LevelFault) → m < k → ¬ IsLevelFaultAt p number ops assumes m f) → (m : ℕ) (f : LevelFault) → m < k + 1 → ¬ IsLevelFaultAt p number ops assumes m f
  fine_on (Some g) h e before m f lt w = absurd (cc)
  fine_on None h e before m f lt w = elim (below_or_at m k lt) [
    | inl less ↦ before m f less w
    | inr same ↦ h f (of_there f (subst (λ (x : ℕ). IsLevelFaultAt p number ops assumes x f) same w))
  ]

  first_with : (f : LevelFault) → IsFirst Wrong f → ((m : ℕ) (g : LevelFault) → m < k → ¬ IsLevelFaultAt p number ops assumes m g) → IsFirstLevelFault p number ops assumes f
  first_with f h before = record {
    index = k;
    is = record { is_such = to_there f h.is_such; none_before = λ g q. h.none_before g (of_there g q) };
    none_before = before;
  }

  pub first_there : (f : LevelFault) (o : Option LevelFault) → MatchOption o ((g : LevelFault) → ¬ Wrong g) (IsFirst Wrong) → o ≡ Some f → ((m : ℕ) (g : LevelFault) → m < k → ¬ IsLevelFaultAt p number ops assumes m g) → IsFirstLevelFault p number ops assumes f
  first_there f (Some g) h e before = first_with f (subst (IsFirst Wrong) (same_some g f e) h) before
  first_there f None h e before = absurd (cc)

pub all_fine : (p : Program) (number : Numbers) (ops : List Operator) (assumes : List Term) (n k : ℕ) → length p.units ≤ n → n ≤ k → ((j : ℕ) (f : LevelFault) → j < k → ¬ IsLevelFaultAt p number ops assumes j f) → HasFineLevels p number ops assumes
all_fine p number ops assumes n k le more h j f w =
    let lt : j < length p.units = slice_get_within p.units j w.unit w.stands in
    let less : j < k = omega (arith, lt, le, more) in
    h j f less w
