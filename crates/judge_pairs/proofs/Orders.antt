-- The terms of a specification that can be asked are in order.
use Rattle.std.proofs.Common.{◌≡◌, ◌≢◌, refl, subst, arith, ℕ, ◌+◌, true, false, [], length}
use Rattle.std.specs.Prelude.{Some, slice_get}
use Rattle.names_terms.specs.declared.operator.Operator.{Operator}
use Rattle.names_terms.specs.declared.level.Level.{Level}
use Rattle.names_terms.specs.declared.level.Level.TheVariants.{State, Action}
use Rattle.names_terms.specs.declared.level.Level.TheVariants as levels
use Rattle.names_terms.specs.declared.spec.Spec.{Spec}
use Rattle.names_terms.specs.Terms.{level_of}
use Rattle.names_term_parts.specs.Limits.{is_above}
use Rattle.steps_walk_laws.specs.Stable.{IsOrderly, Reaches, in_term, in_reached}
use Rattle.names_specification_laws.specs.IsSpec.{IsSpec, IsReached, IsTerm, IsAtMost, needed, in_body, has_name, in_init, in_next}

true_false : true ≡ false → ⊥
true_false e = cc

below_action : (l : Level) → is_above l State ≡ false → is_above l Action ≡ false
below_action levels.Constant h = refl
below_action levels.State h = refl
below_action levels.Action h = refl
below_action levels.Temporal h = absurd (true_false h)

module _ (g : Spec) (ordered : IsSpec g) where
  -- what Init, Next and a definition with a name reach is reached

  next_reached : (k : ℕ) → Reaches g.operators g.next k → IsReached g k
  next_reached k (in_term _ m) = needed k (in_next k m)
  next_reached k (in_reached j o _ r e m) = in_body j o k (next_reached j r) e m

  init_reached : (k : ℕ) → Reaches g.operators g.init k → IsReached g k
  init_reached k (in_term _ m) = needed k (in_init k m)
  init_reached k (in_reached j o _ r e m) = in_body j o k (init_reached j r) e m

  body_reached : (i : ℕ) (o : Operator) → slice_get g.operators i ≡ Some o → o.name ≢ [] → (k : ℕ) → Reaches g.operators o.body k → IsReached g k
  body_reached i o e named k (in_term _ m) = in_body i o k (needed i (has_name i o e named)) e m
  body_reached i o e named k (in_reached j q _ r f m) = in_body j q k (body_reached i o e named j r) f m

  pub next_orderly : IsOrderly (length g.variables) g.operators 0 g.next
  next_orderly = record { term = ordered.next.0; level = ordered.next.1; bodies = λ k o r e. ordered.bodies k o (next_reached k r) e }

  pub init_orderly : IsOrderly (length g.variables) g.operators 0 g.init
  init_orderly = record { term = ordered.init.0; level = below_action (level_of g.init) ordered.init.1; bodies = λ k o r e. ordered.bodies k o (init_reached k r) e }

  pub body_orderly : (i : ℕ) (o : Operator) → slice_get g.operators i ≡ Some o → o.name ≢ [] → is_above o.level Action ≡ false → IsOrderly (length g.variables) g.operators o.params o.body × IsAtMost Action o.body
  body_orderly i o e named low =
      let b = ordered.bodies i o (needed i (has_name i o e named)) e in
      let level : IsAtMost Action o.body = subst (λ (l : Level). is_above l Action ≡ false) b.1 low in
      let none : o.outer ≡ 0 = ordered.outermost i o e named in
      let slots : o.outer + o.params ≡ o.params = omega (arith, none) in (
        record {
          term = subst (λ (n : ℕ). IsTerm (length g.variables) g.operators n o.body) slots b.0;
          level = level;
          bodies = λ k q r f. ordered.bodies k q (body_reached i o e named k r) f;
        },
        level,
      )
