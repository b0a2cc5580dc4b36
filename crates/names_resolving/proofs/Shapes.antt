-- Init and Next by the operator behind SPECIFICATION.
use Rattle.std.proofs.Common.{◌≡◌, ◌∙◌, sym, ap, subst, ℕ, List}
use Rattle.std.specs.Prelude.{Some, Result, Ok, Err, IfOk, OnOk}
use Rattle.base_core.specs.declared.place.Place.{Place}
use Rattle.reading_trees.specs.declared.config.Config.{Config}
use Rattle.reading_trees.specs.declared.module.Program.{Program}
use Rattle.names_terms.specs.declared.operator.Operator.{Operator}
use Rattle.names_terms.specs.Terms.{Term}
use Rattle.names_term_levels.specs.Shape.{HasShape}
use Rattle.names_program.specs.Names.{Numbers}
use Rattle.names_resolving.specs.declared.fault.ResolveFault.{ResolveFault}
use Rattle.names_resolving.specs.declared.steps.Steps.{Steps}
use Rattle.names_resolving.specs.Configured.{AreSteps, by_specification, HasBody, HasNoShape}
use Rattle.names_resolving.specs.Standing.{GivesShape}

same_some : {A : Type 0} (x y : A) → Some x ≡ Some y → x ≡ y
same_some x y e = cc

module _ (p : Program) (c : Config) (number : Numbers) (ops : List Operator) (n : List ℕ) (named : c.specification ≡ Some n) where
  pub specified : (r : Result Steps ResolveFault) → IfOk r (λ s. GivesShape p number ops n s.init s.next) → IfOk r (λ s. AreSteps p c number ops s.init s.next)
  specified (Ok s) h = by_specification n h.0 s.init s.next named h.1 h.2
  specified (Err f) h = tt

  same_body : (m : List ℕ) (a b : Term) → m ≡ n → HasBody p number ops m a → HasBody p number ops n b → a ≡ b
  same_body m a b e h k =
      let there : HasBody p number ops n a = subst (λ (x : List ℕ). HasBody p number ops x a) e h in
      let same : there.operator ≡ k.operator = same_some there.operator k.operator (sym there.is ∙ k.is) in
      sym there.body_is ∙ ap (λ (o : Operator). o.body) same ∙ k.body_is

  shape_there : (init next : Term) → GivesShape p number ops n init next → (at : Place) → ¬ HasNoShape p c number ops at
  shape_there init next h at w =
      let same : w.body ≡ h.0 = same_body w.name w.body h.0 (same_some w.name n (sym w.named ∙ named)) w.has h.1 in
      w.none init next (subst (λ (x : Term). HasShape ops x init next) (sym same) h.2)

  pub not_shapeless : (r : Result Steps ResolveFault) → IfOk r (λ s. GivesShape p number ops n s.init s.next) → OnOk r ((at : Place) → ¬ HasNoShape p c number ops at)
  not_shapeless (Ok s) h = shape_there s.init s.next h
  not_shapeless (Err f) h = tt
