-- What is told of a name.
use Rattle.std.proofs.Common.{◌≡◌, ◌<◌, ℕ, List, length, Bool, true, false, Option, Some, None, ap, sym, ◌∙◌, subst, refl}
use Rattle.std.specs.Prelude.{if◌then◌else◌, option_map, position, slice_get}
use Rattle.std.specs.Str.{bytes_eq}
use Rattle.std.proofs.lemmas.Option.{none-some, slice_get_within}
use Rattle.std.proofs.lemmas.Slice.Eq.{bytes_eq-Decides}
use Rattle.states_core.specs.declared.var_id.VarId.{VarId}
use Rattle.names_terms.specs.declared.level.Level.TheVariants.{Action}
use Rattle.names_terms.specs.declared.operator.Operator.{Operator}
use Rattle.names_terms.specs.declared.spec.Spec.{Spec}
use Rattle.names_terms.specs.Named.{IsVariable}
use Rattle.names_term_parts.specs.Limits.{is_above}
use Rattle.names_specification_laws.specs.IsSpec.{IsSpec}
use Rattle.steps_names.specs.Laws.{OperatorsAreTold, VariablesAreTold}
use Rattle.steps_names.specs.Names.{IsTold, is_called, operator_named, told, told_at, variable_named}
use Rattle.steps_names.proofs.SearchLemmas.{called_so, first_found, operator_found, variable_found}

pair_is : (a b c d : ℕ) → ◌≡◌ {A = Option (ℕ × ℕ)} (Some (a, b)) (Some (c, d)) → (a ≡ c) × (b ≡ d)
pair_is a b c d e = (ap (λ (o : Option (ℕ × ℕ)). first o) e, ap (λ (o : Option (ℕ × ℕ)). second o) e)
  where
    first : Option (ℕ × ℕ) → ℕ
    first None = a
    first (Some p) = p.0

    second : Option (ℕ × ℕ) → ℕ
    second None = b
    second (Some p) = p.1

abbrev unless_above : Bool → ℕ → ℕ → Option (ℕ × ℕ)
unless_above above k n = if above then None else Some (k, n)

by_level : (above : Bool) (a b c d : ℕ) → unless_above above a b ≡ Some (c, d) → (above ≡ false) × (a ≡ c) × (b ≡ d)
by_level true a b c d e = absurd (cc)
by_level false a b c d e = let same = pair_is a b c d e in (refl, same.0, same.1)

told_by : (s : Spec) (name : List ℕ) (k n j : ℕ) (o : Operator) → slice_get s.operators j ≡ Some o → is_called name o ≡ true → told j (slice_get s.operators j) ≡ Some (k, n) → IsTold s name k n
told_by s name k n j o q passes h =
    let parts = by_level (is_above o.level Action) j o.params k n (ap (told j) (sym q) ∙ h) in
    let so = called_so name o passes in
    record { operator = o; is = subst (λ (i : ℕ). slice_get s.operators i ≡ Some o) parts.1 q; some = so.0; named = so.1; level = parts.0; takes = parts.2 }

pub told_so : (s : Spec) (name : List ℕ) (k n : ℕ) → operator_named s.operators name ≡ Some (k, n) → IsTold s name k n
told_so s name k n h = at (position (is_called name) s.operators) refl
  where
    at : (o : Option ℕ) → position (is_called name) s.operators ≡ o → IsTold s name k n
    at None q = absurd (none-some (k, n) (ap (told_at s.operators) (sym q) ∙ h))
    at (Some j) q = let found = first_found (is_called name) s.operators j q in told_by s name k n j found.0 found.1 found.2 (ap (told_at s.operators) (sym q) ∙ h)

so_told : (s : Spec) (name : List ℕ) (k n : ℕ) → IsSpec s → IsTold s name k n → operator_named s.operators name ≡ Some (k, n)
so_told s name k n is t =
    operator_found s.operators name k is.operators_differ (record { some = t.some; operator = t.operator; is = t.is; named = t.named })
    ∙ ap (told k) t.is ∙ ap (λ (above : Bool). unless_above above k t.operator.params) t.level ∙ ap (λ (m : ℕ). unless_above false k m) t.takes

pub operators_told : OperatorsAreTold
operators_told s name k n is = (told_so s name k n, so_told s name k n is)

pub variable_so : (names : List (List ℕ)) (name : List ℕ) (v : VarId) → variable_named names name ≡ Some v → IsVariable names name v.0
variable_so names name v h = at (position (λ other. bytes_eq other name) names) refl
  where
    as_variable : Option ℕ → Option VarId
    as_variable o = option_map (λ (x : ℕ). record { 0 = x }) o

    number : Option VarId → ℕ
    number None = v.0
    number (Some x) = x.0

    at : (o : Option ℕ) → position (λ other. bytes_eq other name) names ≡ o → IsVariable names name v.0
    at None q = absurd (none-some v (ap as_variable (sym q) ∙ h))
    at (Some j) q =
        let found = first_found (λ other. bytes_eq other name) names j q in
        let here : slice_get names j ≡ Some name = found.1 ∙ ap (λ (o : List ℕ). Some o) ((bytes_eq-Decides found.0 name).0 found.2) in
        subst (λ (i : ℕ). slice_get names i ≡ Some name) (ap number (ap as_variable (sym q) ∙ h)) here

pub variables_told : VariablesAreTold
variables_told s name v is = (variable_so s.variables name v, λ here. variable_found s.variables name v.0 is.variables_differ here)

pub variable_within : (names : List (List ℕ)) (name : List ℕ) (v : VarId) → variable_named names name ≡ Some v → v.0 < length names
variable_within names name v h = slice_get_within names v.0 name (variable_so names name v h)
