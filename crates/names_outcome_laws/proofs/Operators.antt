-- What the configuration names has its operator in the table.
use Rattle.std.proofs.Common.{◌≡◌, ◌≢◌, ◌∙◌, ap, refl, ℕ, List, [], ◌∷◌, length, ◌<◌}
use Rattle.std.specs.Prelude.{◌==◌, Bool, true, false, if◌then◌else◌, Option, Some, None, slice_get}
use Rattle.base_core.specs.declared.place.Place.{Place}
use Rattle.values_core.specs.Data.{Val}
use Rattle.reading_trees.specs.declared.config.Config.{Config}
use Rattle.reading_trees.specs.declared.config.Given.{Given}
use Rattle.reading_trees.specs.declared.config.Given.TheVariants.{Constant, Replaced}
use Rattle.reading_trees.specs.declared.config.GivenAt.{GivenAt}
use Rattle.reading_trees.specs.declared.expr.Definition.{Definition}
use Rattle.reading_trees.specs.declared.module.Program.{Program}
use Rattle.names_terms.specs.declared.ids.DefId.{DefId}
use Rattle.names_terms.specs.declared.level.Level.{Level}
use Rattle.names_terms.specs.declared.operator.Operator.{Operator}
use Rattle.names_term_parts.specs.Limits.{is_above}
use Rattle.names_program.specs.InUnits.{definitions_in}
use Rattle.names_program.specs.Names.{Numbers, definition_index, first_of}
use Rattle.names_tables.specs.Tables.{IsTable, IsTabled, unit_operator}
use Rattle.names_resolving.specs.declared.fault.ResolveFault.{ResolveFault}
use Rattle.names_resolving.specs.declared.fault.ResolveFault.TheVariants.{NoMemory}
use Rattle.names_resolving.specs.Configured.{HasBody, IsSilentOf, above, first_too_high, missing, number_named, operator_for, operator_named, row_named, too_high, unless_there}
use Rattle.names_resolving.specs.Givens.{first_given_fault, fault_by, given_fault, left_of, level_at, params_of, replaced_fault, right_fault, row_of, value_fault}
use Rattle.names_resolving.proofs.Sought.{named_index}
use Rattle.names_outcome_laws.proofs.Filled.{definition_at}

pub first_none : {A : Type 0} (a b : Option A) → first_of a b ≡ None → (a ≡ None) × (b ≡ None)
first_none None b q = (refl, q)
first_none (Some x) b q = absurd (cc)

there : (n : List ℕ) (d : Option Definition) → unless_there n d ≡ None → (x : Definition) × (d ≡ Some x)
there n (Some d) e = (d, refl)
there n None e = absurd (cc)

pub definition_named : (p : Program) (n : List ℕ) → missing p (Some n) ≡ None → (d : Definition) × (operator_named p n ≡ Some d)
definition_named p n e = there n (operator_named p n) e

-- the name has a row
pub record HasRow (p : Program) (number : Numbers) (ops : List Operator) (n : List ℕ) : Type 0 where
  pub row : ℕ
  pub operator : Operator
  pub numbered : number_named number (definition_index p n) ≡ Some row
  pub is : operator_for p number ops n ≡ Some operator

pub has_row : (p : Program) (c : Config) (values : List Val) (number : Numbers) (ops : List Operator) → IsTable p c values number ops → (n : List ℕ) → missing p (Some n) ≡ None → HasRow p number ops n
has_row p c values number ops table n e =
    let i : (i : ℕ) × (definition_index p n ≡ Some i) × (i < length (definitions_in p.units)) = named_index p n e in
    let d : (d : Definition) × (slice_get (definitions_in p.units) i.0 ≡ Some d) = definition_at (definitions_in p.units) i.0 i.2 in
    let t : IsTabled p c values number ops i.0 d.0 = table.definitions i.0 d.0 d.1 in
    record {
      row = t.row;
      operator = unit_operator d.0 t.own t.body;
      numbered = ap (number_named number) i.1 ∙ t.numbered;
      is = ap (row_named number ops) i.1 ∙ ap (row_of ops) t.numbered ∙ t.stands;
    }

pub has_body : (p : Program) (number : Numbers) (ops : List Operator) (n : List ℕ) (r : HasRow p number ops n) → HasBody p number ops n r.operator.body
has_body p number ops n r = record { operator = r.operator; is = r.is; body_is = refl }

pub some_silent : (p : Program) (c : Config) (values : List Val) (number : Numbers) (ops : List Operator) → IsTable p c values number ops → (silent : Option (List ℕ)) → missing p silent ≡ None → (d : Option DefId) × IsSilentOf p number silent d
some_silent p c values number ops table None e = (None, tt)
some_silent p c values number ops table (Some n) e = (let r : HasRow p number ops n = has_row p c values number ops table n e in (Some (record { 0 = r.row }), r.numbered))

-- ---- none of these refusals is want of memory

abbrev pub IsTrueRefusal : Option ResolveFault → Type 0
IsTrueRefusal o = o ≢ Some NoMemory

none_true : IsTrueRefusal None
none_true e = cc

first_true : (a b : Option ResolveFault) → IsTrueRefusal a → IsTrueRefusal b → IsTrueRefusal (first_of a b)
first_true None b p q = q
first_true (Some f) b p q = p

if_true : (b : Bool) (x y : Option ResolveFault) → IsTrueRefusal x → IsTrueRefusal y → IsTrueRefusal (if b then x else y)
if_true true x y p q = p
if_true false x y p q = q

option_cases : {A : Type 0} (P : Option A → Type 0) → P None → ((x : A) → P (Some x)) → (o : Option A) → P o
option_cases P n s None = n
option_cases P n s (Some x) = s x

replaced_true : (p : Program) (number : Numbers) (ops : List Operator) (g : GivenAt) (n : List ℕ) (at : Place) → IsTrueRefusal (replaced_fault p number ops g n at (left_of p number ops g.name))
replaced_true p number ops g n at =
    option_cases (λ o. IsTrueRefusal (replaced_fault p number ops g n at o)) (λ e. cc)
    (λ x. option_cases (λ i. IsTrueRefusal (right_fault p number ops x n at i)) (λ e. cc) (λ i. if_true (params_of p i == x.needed) _ _ (if_true (is_above (level_at number ops i) x.level) _ _ (λ e. cc) none_true) (λ e. cc)) (definition_index p n))
    (left_of p number ops g.name)

value_true : (g : GivenAt) (i : Option ℕ) → IsTrueRefusal (value_fault g i)
value_true g None = λ e. cc
value_true g (Some i) = none_true

by_given : (p : Program) (number : Numbers) (ops : List Operator) (g : GivenAt) (x : Given) → IsTrueRefusal (fault_by p number ops g x)
by_given p number ops g (Constant l) = value_true g _
by_given p number ops g (Replaced n at) = replaced_true p number ops g n at

pub givens_true : (p : Program) (number : Numbers) (ops : List Operator) (gs : List GivenAt) → IsTrueRefusal (first_given_fault p number ops gs)
givens_true p number ops [] = none_true
givens_true p number ops (g ∷ gs) = first_true (given_fault p number ops g) (first_given_fault p number ops gs) (by_given p number ops g g.given) (givens_true p number ops gs)

above_true : (found limit : Level) (d : Option Definition) → IsTrueRefusal (above found limit d)
above_true found limit None = none_true
above_true found limit (Some d) = if_true (is_above found limit) _ _ (λ e. cc) none_true

named_true : (p : Program) (number : Numbers) (ops : List Operator) (limit : Level) (n : Option (List ℕ)) → IsTrueRefusal (too_high p number ops limit n)
named_true p number ops limit None = none_true
named_true p number ops limit (Some n) = above_true _ limit (operator_named p n)

pub limits_true : (p : Program) (c : Config) (silent : Option (List ℕ)) (number : Numbers) (ops : List Operator) → IsTrueRefusal (first_too_high p c silent number ops)
limits_true p c silent number ops =
    first_true _ _ (named_true p number ops _ c.init) (first_true _ _ (named_true p number ops _ c.next) (named_true p number ops _ silent))
