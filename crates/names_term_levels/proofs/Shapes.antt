-- The shape of a body whose conjuncts are known.
use Rattle.std.proofs.Common.{◌≡◌, ◌∙◌, ap, subst, sym, List, [], ◌∷◌}
use Rattle.std.specs.Prelude.{◌↔◌, Option, Some, None, MatchOption}
use Rattle.names_terms.specs.declared.operator.Operator.{Operator}
use Rattle.names_terms.specs.Terms.{Term, place_of}
use Rattle.names_term_levels.specs.declared.shape.Shape.{Shape}
use Rattle.names_term_levels.specs.declared.gathering.Gathered.{Gathered}
use Rattle.names_term_levels.specs.Conjuncts.{IsNoShape, IsShapeOf, contribution_of}
use Rattle.names_term_levels.specs.Shape.{rows, Contribution, Gives, HasShape, init_of, contribution}

pub shape_told : (ops : List Operator) (body : Term) (whole : Contribution) (o : Option Shape) → ((p : Contribution) → Gives ops body p ↔ (p ≡ whole)) → MatchOption o (IsNoShape whole) (IsShapeOf whole) → MatchOption o ((init next : Term) → ¬ HasShape ops body init next) (λ s. (init next : Term) → HasShape ops body init next ↔ ((init ≡ init_of (place_of body) (rows s.inits.items)) × (next ≡ s.next.now)))
shape_told ops body whole None only h = λ init next shape. shape.some (h shape.inits next (sym ((only (contribution shape.inits (next ∷ []))).0 shape.gives)))
shape_told ops body whole (Some s) only h = λ init next. (needs init next, suffices init next)
  where
    inits : List Term
    inits = rows s.inits.items

    needs : (init next : Term) → HasShape ops body init next → (init ≡ init_of (place_of body) inits) × (next ≡ s.next.now)
    needs init next shape =
        let same : contribution shape.inits (next ∷ []) ≡ contribution inits (s.next.now ∷ []) = (only (contribution shape.inits (next ∷ []))).0 shape.gives ∙ h.0 in
        let whole_init : Contribution → Term = λ p. init_of (place_of body) p.inits in
        let taken : Contribution → List Term = λ p. p.steps in
        let same_steps : next ∷ [] ≡ s.next.now ∷ [] = ap taken same in
        (shape.init_is ∙ ap whole_init same, cc)

    suffices : (init next : Term) → (init ≡ init_of (place_of body) inits) × (next ≡ s.next.now) → HasShape ops body init next
    suffices init next w = record {
      inits = inits;
      some = h.1;
      gives = subst (λ (y : Term). Gives ops body (contribution inits (y ∷ []))) (sym w.1) ((only (contribution inits (s.next.now ∷ []))).1 (sym h.0));
      init_is = w.0;
    }

pub no_shape : (ops : List Operator) (body : Term) → ((p : Contribution) → ¬ Gives ops body p) → (init next : Term) → ¬ HasShape ops body init next
no_shape ops body none init next shape = none (contribution shape.inits (next ∷ [])) shape.gives

pub some_gathered : (ops : List Operator) (body : Term) (o : Option Gathered) (g : Gathered) → o ≡ Some g → MatchOption o ((p : Contribution) → ¬ Gives ops body p) (λ h. (p : Contribution) → Gives ops body p ↔ (p ≡ contribution_of h)) → (p : Contribution) → Gives ops body p ↔ (p ≡ contribution_of g)
some_gathered ops body o g q h = subst (λ (y : Option Gathered). MatchOption y ((p : Contribution) → ¬ Gives ops body p) (λ k. (p : Contribution) → Gives ops body p ↔ (p ≡ contribution_of k))) q h

pub none_gathered : (ops : List Operator) (body : Term) (o : Option Gathered) → o ≡ None → MatchOption o ((p : Contribution) → ¬ Gives ops body p) (λ h. (p : Contribution) → Gives ops body p ↔ (p ≡ contribution_of h)) → (p : Contribution) → ¬ Gives ops body p
none_gathered ops body o q h = subst (λ (y : Option Gathered). MatchOption y ((p : Contribution) → ¬ Gives ops body p) (λ k. (p : Contribution) → Gives ops body p ↔ (p ≡ contribution_of k))) q h
