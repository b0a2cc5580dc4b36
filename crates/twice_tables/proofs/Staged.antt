-- What comes of a program with its configuration, in stages: each stops with its one refusal or passes.
use Rattle.std.proofs.Common.{◌≡◌, ◌∙◌, sym, ap, refl, subst, ℕ, List}
use Rattle.std.specs.Prelude.{Option, Some, None, Result, Ok, Err, slice_get}
use Rattle.base_core.specs.declared.place.Place.{Place}
use Rattle.reading_trees.specs.declared.config.Config.{Config}
use Rattle.reading_trees.specs.declared.module.Declared.{Declared}
use Rattle.reading_trees.specs.declared.module.Program.{Program}
use Rattle.names_terms.specs.declared.spec.Spec.{Spec}
use Rattle.names_term_parts.specs.declared.fault.LevelFault.{LevelFault}
use Rattle.names_meanings.specs.declared.fault.NameFault.{NameFault}
use Rattle.names_literals.specs.Spells.{SpellsOneValue}
use Rattle.names_program.specs.InUnits.{variables_in}
use Rattle.names_tables.specs.NameFaults.{HasFineNames, IsFirstNameFault}
use Rattle.names_tables.specs.Values.{HasAllValues, IsFirstWithoutValue}
use Rattle.names_resolving.specs.declared.fault.ResolveFault.{ResolveFault}
use Rattle.names_resolving.specs.declared.fault.ResolveFault.TheVariants.{TooManyVariables, NoValue, NoOperator, NotTheShape}
use Rattle.names_resolving.specs.Configured.{HasNoShape, first_too_high, first_without_operator}
use Rattle.names_resolving.specs.Givens.{first_given_fault}
use Rattle.names_resolving.specs.Refusals.{instance_names, of_name, of_level}
use Rattle.names_resolving.specs.Resolved.{HasFewVariables, IsOneForm, IsSpecOf, Resolved, accepted, no_operator, no_shape, no_value, too_high, too_many_variables, wrong_given, wrong_level, wrong_name}
use Rattle.names_resolving.specs.UnitLevels.{HasFineLevels, IsFirstLevelFault}
use Rattle.twice_terms.specs.Laws.{AlikeTellSame, AreAny, AreOne}
use Rattle.twice_tables.specs.OneOutcome.{HasOneOutcome}
use Rattle.twice_tables.specs.Outcome.{IsSameOutcome, AreAlike}
use Rattle.twice_tables.proofs.Behind.{no_shape_one, no_shape_there, steps_have_shape}
use Rattle.twice_tables.proofs.Chained.{Agrees, Chain, chain_same, passes, stops}
use Rattle.twice_tables.proofs.Early.{name_fault_one, some_one, without_value_one}
use Rattle.twice_tables.proofs.Ended.{specs_alike}
use Rattle.twice_tables.proofs.Faulty.{fine_levels, level_fault_one}
use Rattle.twice_tables.proofs.Sides.{Side, givens_same, too_high_same}
use Rattle.twice_tables.proofs.Valued.{values_one}

-- a fault that an Option gives is one, and there is none where it gives none
given_agrees : (o q : Option ResolveFault) → o ≡ q → Agrees (λ f. o ≡ Some f) (λ f. q ≡ Some f) (o ≡ None) (q ≡ None)
given_agrees o q e = record {
  one = λ f g x y. some_one q f g (sym e ∙ x) y;
  left = λ f x y. (let bad : Some f ≡ None = sym x ∙ e ∙ y in absurd (cc));
  right = λ g x y. (let bad : None ≡ Some g = sym x ∙ e ∙ y in absurd (cc));
}

told_agrees : {A : Type 0} (o : Option A) (tell : A → ResolveFault) → Agrees (λ f. (x : A) × (o ≡ Some x) × (f ≡ tell x)) (λ f. (x : A) × (o ≡ Some x) × (f ≡ tell x)) (o ≡ None) (o ≡ None)
told_agrees o tell = record {
  one = λ f g x y. x.2 ∙ ap tell (some_one o x.0 y.0 x.1 y.1) ∙ sym y.2;
  left = λ f x y. (let bad : Some x.0 ≡ None = sym x.1 ∙ y in absurd (cc));
  right = λ g x y. (let bad : None ≡ Some y.0 = sym x ∙ y.1 in absurd (cc));
}

module _ (p : Program) (c : Config) (silent : Option (List ℕ)) where
  -- from the last stage to the first

  abbrev Ends : Side p c → Result Spec ResolveFault → Type 0
  Ends a r = (s : Spec) × (r ≡ Ok s) × IsSpecOf p c silent a.number a.ops a.assumes s

  abbrev Highs : Side p c → Result Spec ResolveFault → Type 0
  Highs a r = Chain (λ f. first_too_high p c silent a.number a.ops ≡ Some f) (first_too_high p c silent a.number a.ops ≡ None) (Ends a) r

  abbrev Misshapen : Side p c → ResolveFault → Type 0
  Misshapen a f = (at : Place) × HasNoShape p c a.number a.ops at × (f ≡ NotTheShape at)

  abbrev Shaped : Side p c → Type 0
  Shaped a = (at : Place) → HasNoShape p c a.number a.ops at → ⊥

  abbrev Shapes : Side p c → Result Spec ResolveFault → Type 0
  Shapes a r = Chain (Misshapen a) (Shaped a) (Highs a) r

  abbrev Unnamed : ResolveFault → Type 0
  Unnamed f = (n : List ℕ) × (first_without_operator p c silent ≡ Some n) × (f ≡ NoOperator n)

  abbrev Operators : Side p c → Result Spec ResolveFault → Type 0
  Operators a r = Chain Unnamed (first_without_operator p c silent ≡ None) (Shapes a) r

  abbrev TooHighIn : Side p c → ResolveFault → Type 0
  TooHighIn a f = (l : LevelFault) × IsFirstLevelFault p a.number a.ops a.assumes l × (f ≡ of_level l)

  abbrev Levels : Side p c → Result Spec ResolveFault → Type 0
  Levels a r = Chain (TooHighIn a) (HasFineLevels p a.number a.ops a.assumes) (Operators a) r

  abbrev Givens : Side p c → Result Spec ResolveFault → Type 0
  Givens a r = Chain (λ f. first_given_fault p a.number a.ops c.givens ≡ Some f) (first_given_fault p a.number a.ops c.givens ≡ None) (Levels a) r

  abbrev Tables : Result Spec ResolveFault → Type 0
  Tables r = (a : Side p c) × Givens a r

  abbrev Valueless : ResolveFault → Type 0
  Valueless f = (d : Declared) × IsFirstWithoutValue p c d × (f ≡ NoValue d.name d.at)

  abbrev Values : Result Spec ResolveFault → Type 0
  Values r = Chain Valueless (HasAllValues p c) Tables r

  abbrev Misnamed : ResolveFault → Type 0
  Misnamed f = (n : NameFault) × IsFirstNameFault p c n × (f ≡ of_name (instance_names p.units) n)

  abbrev Named : Result Spec ResolveFault → Type 0
  Named r = Chain Misnamed (HasFineNames p c) Values r

  abbrev TooMany : ResolveFault → Type 0
  TooMany f = (d : Declared) × (slice_get (variables_in p.units) 64 ≡ Some d) × (f ≡ TooManyVariables d.at)

  abbrev Staged : Result Spec ResolveFault → Type 0
  Staged r = Chain TooMany (HasFewVariables p) Named r

  -- from a stage of a table to the whole
  of_givens : (a : Side p c) (r : Result Spec ResolveFault) → Givens a r → Staged r
  of_givens a r h = passes r a.is.few (passes r a.is.fine (passes r a.is.valued (a, h)))

  staged : IsOneForm c → (r : Result Spec ResolveFault) → Resolved p c silent r → Staged r
  staged form _ (too_many_variables d e) = stops (TooManyVariables d.at) (d, e, refl)
  staged form _ (wrong_name f few is) = passes (Err (of_name (instance_names p.units) f)) few (stops (of_name (instance_names p.units) f) (f, is, refl))
  staged form _ (no_value d few fine is) = passes (Err (NoValue d.name d.at)) few (passes (Err (NoValue d.name d.at)) fine (stops (NoValue d.name d.at) (d, is, refl)))
  staged form _ (wrong_given values number ops assumes f is e) =
      let a : Side p c = record { values = values; number = number; ops = ops; assumes = assumes; is = is } in
      of_givens a (Err f) (stops f e)
  staged form _ (wrong_level values number ops assumes f is g e) =
      let a : Side p c = record { values = values; number = number; ops = ops; assumes = assumes; is = is } in
      of_givens a (Err (of_level f)) (passes (Err (of_level f)) g (stops (of_level f) (f, e, refl)))
  staged form _ (no_operator values number ops assumes n is e) =
      let a : Side p c = record { values = values; number = number; ops = ops; assumes = assumes; is = is.named } in
      of_givens a (Err (NoOperator n)) (passes (Err (NoOperator n)) is.givens (passes (Err (NoOperator n)) is.levels (stops (NoOperator n) (n, e, refl))))
  staged form _ (no_shape values number ops assumes at is e) =
      let a : Side p c = record { values = values; number = number; ops = ops; assumes = assumes; is = is.levelled.named } in
      of_givens a (Err (NotTheShape at)) (passes (Err (NotTheShape at)) is.levelled.givens (passes (Err (NotTheShape at)) is.levelled.levels (passes (Err (NotTheShape at)) is.operators (stops (NotTheShape at) (at, e, refl)))))
  staged form _ (too_high values number ops assumes f is shaped e) =
      let a : Side p c = record { values = values; number = number; ops = ops; assumes = assumes; is = is.levelled.named } in
      of_givens a (Err f) (passes (Err f) is.levelled.givens (passes (Err f) is.levelled.levels (passes (Err f) is.operators (passes (Err f) (λ at h. shaped at h) (stops f e)))))
  staged form _ (accepted values number ops assumes s is low spec) =
      let a : Side p c = record { values = values; number = number; ops = ops; assumes = assumes; is = is.levelled.named } in
      of_givens a (Ok s) (passes (Ok s) is.levelled.givens (passes (Ok s) is.levelled.levels (passes (Ok s) is.operators
      (passes (Ok s) (λ at h. steps_have_shape p c form number ops s.init s.next at spec.steps h) (passes (Ok s) low (s, refl, spec))))))

  module _ (spells : SpellsOneValue) (any : AlikeTellSame AreAny) (same : AlikeTellSame AreOne) (form : IsOneForm c) where
    ends_same : (a b : Side p c) → first_given_fault p a.number a.ops c.givens ≡ None → (r s : Result Spec ResolveFault) → Ends a r → Ends b s → IsSameOutcome r s
    ends_same a b e r s x y =
        let h : AreAlike x.0 y.0 = specs_alike p c same form silent a b (values_one spells p c a b e) x.0 y.0 x.2 y.2 in
        subst (λ (z : Result Spec ResolveFault). IsSameOutcome r z) (sym y.1) (subst (λ (z : Result Spec ResolveFault). IsSameOutcome z (Ok y.0)) (sym x.1) h)

    shapes_agree : (a b : Side p c) → Agrees (Misshapen a) (Misshapen b) (Shaped a) (Shaped b)
    shapes_agree a b = record {
      one = λ f g x y. x.2 ∙ ap NotTheShape (no_shape_one p c a.number b.number a.ops b.ops x.0 y.0 x.1 y.1) ∙ sym y.2;
      left = λ f x y. y x.0 (no_shape_there p c any a b x.0 x.1);
      right = λ g x y. x y.0 (no_shape_there p c any b a y.0 y.1);
    }

    levels_agree : (a b : Side p c) → Agrees (TooHighIn a) (TooHighIn b) (HasFineLevels p a.number a.ops a.assumes) (HasFineLevels p b.number b.ops b.assumes)
    levels_agree a b = record {
      one = λ f g x y. x.2 ∙ ap of_level (level_fault_one any p c a b x.0 y.0 x.1 y.1) ∙ sym y.2;
      left = λ f x y. fine_levels any p c a b x.0 x.1 y;
      right = λ g x y. fine_levels any p c b a y.0 y.1 x;
    }

    tables_same : (r s : Result Spec ResolveFault) → Tables r → Tables s → IsSameOutcome r s
    tables_same r s x y =
        let a : Side p c = x.0 in
        let b : Side p c = y.0 in
        chain_same _ _ _ _ (Levels a) (Levels b) (given_agrees (first_given_fault p a.number a.ops c.givens) (first_given_fault p b.number b.ops c.givens) (givens_same p c a b c.givens))
        (λ e f. chain_same _ _ _ _ (Operators a) (Operators b) (levels_agree a b)
        (λ u v. chain_same _ _ _ _ (Shapes a) (Shapes b) (told_agrees (first_without_operator p c silent) NoOperator)
        (λ m n. chain_same _ _ _ _ (Highs a) (Highs b) (shapes_agree a b)
        (λ i j. chain_same _ _ _ _ (Ends a) (Ends b) (given_agrees (first_too_high p c silent a.number a.ops) (first_too_high p c silent b.number b.ops) (too_high_same p c a b silent))
        (λ k l. ends_same a b e)))))
        r s x.1 y.1

    values_agree : Agrees Valueless Valueless (HasAllValues p c) (HasAllValues p c)
    values_agree = record {
      one = λ f g x y. x.2 ∙ ap (λ (d : Declared). NoValue d.name d.at) (without_value_one p c x.0 y.0 x.1 y.1) ∙ sym y.2;
      left = λ f x y. y x.1.index x.0 x.1.is;
      right = λ g x y. x y.1.index y.0 y.1.is;
    }

    names_agree : Agrees Misnamed Misnamed (HasFineNames p c) (HasFineNames p c)
    names_agree = record {
      one = λ f g x y. x.2 ∙ ap (of_name (instance_names p.units)) (name_fault_one p c x.0 y.0 x.1 y.1) ∙ sym y.2;
      left = λ f x y. y x.1.index x.0 x.1.is;
      right = λ g x y. x y.1.index y.0 y.1.is;
    }

    staged_same : (r s : Result Spec ResolveFault) → Staged r → Staged s → IsSameOutcome r s
    staged_same r s x y =
        chain_same _ _ _ _ Named Named (told_agrees (slice_get (variables_in p.units) 64) (λ d. TooManyVariables d.at))
        (λ a b. chain_same _ _ _ _ Values Values names_agree (λ e f. chain_same _ _ _ _ Tables Tables values_agree (λ u v. tables_same)))
        r s x y

    pub one_outcome : (r s : Result Spec ResolveFault) → Resolved p c silent r → Resolved p c silent s → IsSameOutcome r s
    one_outcome r s x y = staged_same r s (staged form r x) (staged form s y)

pub has_one_outcome : SpellsOneValue → AlikeTellSame AreAny → AlikeTellSame AreOne → HasOneOutcome
has_one_outcome spells any same p c silent form r s x y = one_outcome p c silent spells any same form r s x y
