-- How a definition uses itself: what the code finds is so.
use Rattle.std.proofs.Common.{◌≡◌, ◌≢◌, ◌∙◌, sym, ap, refl, List, []}
use Rattle.std.specs.Prelude.{◌&&◌, ◌↔◌, not, ℕ, Bool, true, false, IsTrue, if◌then◌else◌, Option, Some, None, slice_get}
use Rattle.std.proofs.lemmas.Bool.Decides.{nat_tests}
use Rattle.std.proofs.Common.{arith}
use Rattle.values_core.specs.Data.{Val}
use Rattle.reading_trees.specs.declared.config.Config.{Config}
use Rattle.reading_trees.specs.declared.expr.Definition.{Definition}
use Rattle.reading_trees.specs.declared.form.DefinitionForm.{DefinitionForm}
use Rattle.reading_trees.specs.declared.form.DefinitionForm.TheVariants as forms
use Rattle.reading_trees.specs.declared.module.Program.{Program}
use Rattle.names_terms.specs.declared.operator.Own.{Own}
use Rattle.names_terms.specs.declared.operator.Own.TheVariants as owns
use Rattle.names_scopes.specs.declared.meant.Entry.{Entry}
use Rattle.names_scopes.specs.Mentions.{is_one_of, mentions}
use Rattle.names_scopes.specs.Scopes.{among, named}
use Rattle.names_program.specs.InUnits.{definitions_in}
use Rattle.names_program.specs.Names.{AreNames, by_index, definition_meant}
use Rattle.names_program.specs.Recursion.{IsOwnFunction}
use Rattle.names_program.specs.Uses.{UsesItself, at_once}
use Rattle.names_program.proofs.Values.{means_with_other_values}
use Rattle.names_uses.specs.StrictNames.{is_function}
use Rattle.names_uses.specs.UsedNames.{number_in}
use Rattle.names_uses.proofs.UseLemmas.{MeantBy, meant_by}
use Rattle.names_tables.specs.Owns.{is_own_function, is_that, own_by}
use Rattle.names_tables.specs.Tables.{HasOwn}

both_true : (a b : Bool) → a ≡ true → b ≡ true → (a && b) ≡ true
both_true true b p q = q
both_true false b p q = absurd (cc)

first_true : (a b : Bool) → (a && b) ≡ true → a ≡ true
first_true true b q = refl
first_true false b q = absurd (cc)

second_true : (a b : Bool) → (a && b) ≡ true → b ≡ true
second_true true b q = q
second_true false b q = absurd (cc)

not_true : (b : Bool) → not b ≡ true → b ≡ false
not_true true q = absurd (cc)
not_true false q = refl

is_not : (b : Bool) → b ≡ false → not b ≡ true
is_not true q = absurd (cc)
is_not false q = refl

pub true_false : (b : Bool) → b ≡ true → b ≡ false → ⊥
true_false true p q = cc
true_false false p q = cc

function_form : (f : DefinitionForm) → is_function f ≡ true → f ≡ forms.Function
function_form forms.Operator q = absurd (cc)
function_form forms.Constant q = absurd (cc)
function_form forms.Function q = refl

that_number : (i : ℕ) (o : Option ℕ) → is_that i o ≡ true → o ≡ Some i
that_number i None q = absurd (cc)
that_number i (Some k) q = let same : k ≡ i = grind (arith, nat_tests) in ap (λ (n : ℕ). Some n) same

number_that : (i : ℕ) (o : Option ℕ) → o ≡ Some i → is_that i o ≡ true
number_that i None q = absurd (cc)
number_that i (Some k) q = let same : k ≡ i = cc in grind (arith, nat_tests)

module _ (p : Program) (c : Config) (values : List Val) (names : List Entry) (are : AreNames p c values by_index names) (i : ℕ) (d : Definition) where
  own_function : is_own_function names i d ≡ true → IsOwnFunction p c i d
  own_function q =
      let hidden : Bool = not (is_one_of d.name d.params) in
      let mentioned : Bool = mentions d.name d.body in
      let there : Bool = is_that i (number_in (among names d.name)) in
      let inner : (hidden && (mentioned && there)) ≡ true = second_true (is_function d.form) (hidden && (mentioned && there)) q in
      let last : (mentioned && there) ≡ true = second_true hidden (mentioned && there) inner in
      let m : MeantBy (among names d.name) i = meant_by (among names d.name) i (that_number i (number_in (among names d.name)) (second_true mentioned there last)) in
      (function_form d.form (first_true (is_function d.form) (hidden && (mentioned && there)) q), not_true (is_one_of d.name d.params) (first_true hidden (mentioned && there) inner), first_true mentioned there last, (m.needed, means_with_other_values p c values [] d.name m.needed i (sym (are d.name) ∙ m.is)))

  function_own : IsOwnFunction p c i d → is_own_function names i d ≡ true
  function_own f =
      let hidden : Bool = not (is_one_of d.name d.params) in
      let mentioned : Bool = mentions d.name d.body in
      let there : Bool = is_that i (number_in (among names d.name)) in
      let w : among names d.name ≡ Some (named f.3.0 (definition_meant i)) = are d.name ∙ means_with_other_values p c [] values d.name f.3.0 i f.3.1 in
      both_true (is_function d.form) (hidden && (mentioned && there)) (ap is_function f.0) (both_true hidden (mentioned && there) (is_not (is_one_of d.name d.params) f.1) (both_true mentioned there f.2 (number_that i (number_in (among names d.name)) (ap number_in w))))

  by_marks : (b m : Bool) → is_own_function names i d ≡ b → (IsTrue m ↔ UsesItself p c i) → HasOwn p c i d (if b then owns.Function else (if m then owns.Itself else owns.Apart))
  by_marks true m q mark = own_function q
  by_marks false true q mark = (mark.0 refl, λ f. true_false (is_own_function names i d) (function_own f) q)
  by_marks false false q mark = λ u. no_mark (mark.1 u)
    where
      no_mark : IsTrue false → ⊥
      no_mark t = cc

  pub has_own : (m : Bool) → (IsTrue m ↔ UsesItself p c i) → HasOwn p c i d (own_by names m i d)
  has_own m mark = by_marks (is_own_function names i d) m refl mark

-- a function that its own body applies uses itself
pub function_uses : (p : Program) (c : Config) (i : ℕ) (d : Definition) → slice_get (definitions_in p.units) i ≡ Some d → IsOwnFunction p c i d → UsesItself p c i
function_uses p c i d stands f =
    at_once i i (record { definition = d; stands = stands; name = d.name; no_parameter = f.1; mentioned = f.2; means = f.3 })

apart_unmarked : (b m : Bool) → (if b then owns.Function else (if m then owns.Itself else owns.Apart)) ≡ owns.Apart → m ≡ false
apart_unmarked true m q = absurd (cc)
apart_unmarked false true q = absurd (cc)
apart_unmarked false false q = refl

-- one that is told to be apart is not marked
pub unmarked : (names : List Entry) (m : Bool) (i : ℕ) (d : Definition) → own_by names m i d ≡ owns.Apart → m ≡ false
unmarked names m i d q = apart_unmarked (is_own_function names i d) m q

pub own_uses : (p : Program) (c : Config) (i : ℕ) (d : Definition) (own : Own) → slice_get (definitions_in p.units) i ≡ Some d → own ≢ owns.Apart → HasOwn p c i d own → UsesItself p c i
own_uses p c i d owns.Apart stands n h = absurd (n refl)
own_uses p c i d owns.Itself stands n h = h.0
own_uses p c i d owns.Function stands n h = function_uses p c i d stands h

-- a definition has one mark
pub own_one : (p : Program) (c : Config) (i : ℕ) (d : Definition) (a b : Own) → slice_get (definitions_in p.units) i ≡ Some d → HasOwn p c i d a → HasOwn p c i d b → a ≡ b
own_one p c i d owns.Apart owns.Apart s h k = refl
own_one p c i d owns.Apart owns.Itself s h k = absurd (h k.0)
own_one p c i d owns.Apart owns.Function s h k = absurd (h (function_uses p c i d s k))
own_one p c i d owns.Itself owns.Apart s h k = absurd (k h.0)
own_one p c i d owns.Itself owns.Itself s h k = refl
own_one p c i d owns.Itself owns.Function s h k = absurd (h.1 k)
own_one p c i d owns.Function owns.Apart s h k = absurd (k (function_uses p c i d s h))
own_one p c i d owns.Function owns.Itself s h k = absurd (k.1 h)
own_one p c i d owns.Function owns.Function s h k = refl
