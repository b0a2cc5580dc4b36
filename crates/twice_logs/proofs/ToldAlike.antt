-- The names of two specifications that are alike tell alike operators and the same variables.
use Rattle.std.proofs.Common.{◌≡◌, ◌≢◌, ℕ, List, [], length, Option, Some, None, refl, ap, sym, ◌∙◌, subst}
use Rattle.std.specs.Prelude.{false, slice_get}
use Rattle.names_terms.specs.declared.level.Level.TheVariants.{Action}
use Rattle.names_terms.specs.declared.operator.Operator.{Operator}
use Rattle.names_terms.specs.declared.spec.Spec.{Spec}
use Rattle.names_term_parts.specs.Limits.{is_above}
use Rattle.twice_terms.specs.Alike.{AlikeRows, Alike}
use Rattle.twice_terms.specs.Laws.{AreOne}
use Rattle.twice_terms.proofs.Inverted.{row_is}
use Rattle.names_specification_laws.specs.IsSpec.{IsSpec}
use Rattle.twice_tables.specs.Outcome.{AreAlike}
use Rattle.actions_meanings.specs.declared.which.Which.TheVariants as which
use Rattle.logs_updates.specs.declared.update.Update.{Update}
use Rattle.steps_lines_defs.specs.Asks.{updated}
use Rattle.steps_lines_defs.specs.Says.{setting}
use Rattle.steps_names.specs.Laws.{OperatorsAreTold}
use Rattle.steps_names.specs.Names.{AreOf, HasFormWith, IsTold, names_of, operator_named, variable_named}
use Rattle.twice_logs.specs.AlikeNames.{AlikeTold, TellAlike, both_told, none_told}
use Rattle.twice_outcomes.specs.AlikeSettings.{AreAlikeSettings}
use Rattle.twice_outcomes.specs.Actions.{FixesAlike}
use Rattle.twice_outcomes.proofs.Turning.{turned_row}

-- what two definitions that are alike have in common
pub record Beside (ops all : List Operator) (k j : ℕ) (o p : Operator) : Type 0 where
  pub name : o.name ≡ p.name
  pub params : o.params ≡ p.params
  pub level : o.level ≡ p.level
  pub body : Alike AreOne ops all o.body p.body

some_is : {A : Type 0} (a b : A) → Some a ≡ Some b → a ≡ b
some_is a b e = cc

none_is_some : {A : Type 0} (a : A) → None ≡ Some a → ⊥
none_is_some a e = cc

-- the definition that stands at the other number
found_beside : (ops all : List Operator) (k j : ℕ) (o : Operator) → AlikeRows AreOne ops all k j → slice_get ops k ≡ Some o → (p : Operator) × (slice_get all j ≡ Some p) × Beside ops all k j o p
found_beside ops all k j o row is =
    let r = row_is AreOne ops all k j o row is in
    (r.0, r.1, record { name = r.2.name; params = r.2.params; level = r.2.level; body = r.2.body })

-- no one name is told of two numbers
one_told : (s : Spec) (name : List ℕ) (k j n m : ℕ) → IsSpec s → IsTold s name k n → IsTold s name j m → (k ≡ j) × (n ≡ m)
one_told s name k j n m is a b =
    let some : a.operator.name ≢ [] = λ e. a.some (sym a.named ∙ e) in
    let same : k ≡ j = is.operators_differ k j a.operator b.operator a.is b.is some (a.named ∙ sym b.named) in
    let one : b.operator ≡ a.operator = some_is b.operator a.operator (sym b.is ∙ (subst (λ (x : ℕ). slice_get s.operators x ≡ Some a.operator) same a.is)) in
    (same, sym a.takes ∙ ap (λ (o : Operator). o.params) (sym one) ∙ b.takes)

told_beside : (s t : Spec) (name : List ℕ) (k j n : ℕ) → AlikeRows AreOne s.operators t.operators k j → IsTold s name k n → IsTold t name j n
told_beside s t name k j n rows a =
    let b = found_beside s.operators t.operators k j a.operator rows a.is in
    record {
      operator = b.0;
      is = b.1;
      some = a.some;
      named = sym b.2.name ∙ a.named;
      level = subst (λ l. is_above l Action ≡ false) b.2.level a.level;
      takes = sym b.2.params ∙ a.takes;
    }

told_there : (s t : Spec) (name : List ℕ) (k n : ℕ) → AreAlike s t → IsTold s name k n → (j : ℕ) × AlikeRows AreOne s.operators t.operators k j × IsTold t name j n
told_there s t name k n alike a =
    let b = alike.here k a.operator a.is (λ e. a.some (sym a.named ∙ e)) in
    (b.0, b.1, told_beside s t name k b.0 n b.1 a)

module _ (law : OperatorsAreTold) (fixed : FixesAlike) (s t : Spec) (first : IsSpec s) (second : IsSpec t) (alike : AreAlike s t) where
  told_back : (name : List ℕ) (j n : ℕ) → IsTold t name j n → (k : ℕ) × IsTold s name k n
  told_back name j n b =
      let a = alike.other j b.operator b.is (λ e. b.some (sym b.named ∙ e)) in
      (a.0, told_beside t s name j a.0 n (turned_row s.operators t.operators a.0 j a.1) b)

  by_told : (name : List ℕ) (x y : Option (ℕ × ℕ)) → operator_named s.operators name ≡ x → operator_named t.operators name ≡ y → AlikeTold s.operators t.operators x y
  by_told name None None e f = none_told
  by_told name (Some a) None e f =
      let there = told_there s t name a.0 a.1 alike ((law s name a.0 a.1 first).0 e) in
      let told : operator_named t.operators name ≡ Some (there.0, a.1) = (law t name there.0 a.1 second).1 there.2 in
      absurd (none_is_some _ (sym f ∙ told))
  by_told name None (Some b) e f =
      let back = told_back name b.0 b.1 ((law t name b.0 b.1 second).0 f) in
      let told : operator_named s.operators name ≡ Some (back.0, b.1) = (law s name back.0 b.1 first).1 back.1 in
      absurd (none_is_some _ (sym e ∙ told))
  by_told name (Some a) (Some b) e f =
      let there = told_there s t name a.0 a.1 alike ((law s name a.0 a.1 first).0 e) in
      let told : operator_named t.operators name ≡ Some (there.0, a.1) = (law t name there.0 a.1 second).1 there.2 in
      subst (λ (y : Option (ℕ × ℕ)). AlikeTold s.operators t.operators (Some a) y) (sym told ∙ f) (both_told a.0 there.0 a.1 there.1)

  same_setting : AreAlikeSettings (setting which.Action s) (setting which.Action t)
  same_setting = record { which = refl; variables = ap (λ (names : List (List ℕ)). length names) alike.variables; smaller = first.smaller; smaller_other = second.smaller }

  other_setting : AreAlikeSettings (setting which.Action t) (setting which.Action s)
  other_setting = record { which = refl; variables = ap (λ (names : List (List ℕ)). length names) (sym alike.variables); smaller = second.smaller; smaller_other = first.smaller }

  form_there : (k j : ℕ) (us : List Update) → AlikeRows AreOne s.operators t.operators k j → HasFormWith s k us → HasFormWith t j us
  form_there k j us rows form =
      let b = found_beside s.operators t.operators k j form.operator rows form.is in
      record {
        operator = b.0;
        is = b.1;
        named = λ e. form.named (b.2.name ∙ e);
        within = subst (λ (names : List (List ℕ)). AreOf (length names) us) alike.variables form.within;
        leaves = form.leaves;
        form = fixed (setting which.Action s) (setting which.Action t) same_setting form.operator.body b.0.body b.2.body (updated us) form.leaves form.form;
      }

  form_back : (k j : ℕ) (us : List Update) → AlikeRows AreOne s.operators t.operators k j → HasFormWith t j us → HasFormWith s k us
  form_back k j us rows form =
      let b = found_beside t.operators s.operators j k form.operator (turned_row s.operators t.operators k j rows) form.is in
      record {
        operator = b.0;
        is = b.1;
        named = λ e. form.named (b.2.name ∙ e);
        within = subst (λ (names : List (List ℕ)). AreOf (length names) us) (sym alike.variables) form.within;
        leaves = form.leaves;
        form = fixed (setting which.Action t) (setting which.Action s) other_setting form.operator.body b.0.body b.2.body (updated us) form.leaves form.form;
      }

  pub names_tell_alike : TellAlike s.operators t.operators (names_of s) (names_of t)
  names_tell_alike = record {
    operators = λ name. by_told name _ _ refl refl;
    variables = λ name. ap (λ (names : List (List ℕ)). variable_named names name) alike.variables;
    forms = form_there;
    other_forms = form_back;
  }
