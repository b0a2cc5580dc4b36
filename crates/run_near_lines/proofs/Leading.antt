-- What stands at a path, if anything does, is one thing.
use Rattle.std.proofs.Common.{◌≡◌, refl, sym, ◌∙◌, ap, subst, arith, ℕ, List, [], ◌∷◌, length}
use Rattle.std.specs.Prelude.{Option, Some, None, slice_get}
use Rattle.values_core.specs.FunctionLaws.{one_value_at_key}
use Rattle.values_core.specs.Data.{Val}
use Rattle.values_core.specs.IsValue.{IsValue}
use Rattle.logs_updates.proofs.Limits.{inner_value}
use Rattle.logs_updates.proofs.UpdateLemmas.{is_function_at}
use Rattle.eval_meanings.specs.Contexts.{Places}
use Rattle.logs_updates.specs.Changes.{Finds, LeadsTo}
use Rattle.logs_updates.specs.Paths.{KeyPath}
use Rattle.run_near_lines.specs.Adding.{IsOnly}
use Rattle.run_near_lines.specs.Near.{StandsAt}

-- what is found is one thing, where one thing may be found

found_some : {A : Type 0} (P : A → Type 0) (v : A) → ((w : A) → P w → w ≡ v) → P v → (o : Option A) → Finds P o → o ≡ Some v
found_some P v one h (Some w) k = ap (λ z. Some z) (one w k)
found_some P v one h None k = absurd (k v h)

found_none : {A : Type 0} (P : A → Type 0) → ((v : A) → P v → ⊥) → (o : Option A) → Finds P o → o ≡ None
found_none P none (Some w) k = absurd (none w k)
found_none P none None k = refl

pub found_one : {A : Type 0} (P : A → Type 0) → ((v w : A) → P v → P w → v ≡ w) → (o : Option A) → Finds P o → IsOnly (Finds P) o
found_one P one (Some v) h = record { is = h; alone = found_some P v (λ w k. one w v k h) h }
found_one P one None h = record { is = h; alone = found_none P h }

-- keys lead to one value at most
pub one_leads : (ks : List Val) (v u w : Val) → IsValue v → LeadsTo ks v u → LeadsTo ks v w → u ≡ w
one_leads [] v u w h p q = p ∙ sym q
one_leads (k ∷ ks) v u w h p q =
    let inner : p.0 ≡ q.0 = one_value_at_key v k p.0 q.0 h p.1 q.1 in
    let valid : IsValue q.0 = inner_value v k q.0 h (is_function_at v k q.0 q.1) q.1 in
    one_leads ks q.0 u w valid (subst (λ (x : Val). LeadsTo ks x u) inner p.2) q.2

pub leads_only : (ks : List Val) (v : Val) (o : Option Val) → IsValue v → Finds (LeadsTo ks v) o → IsOnly (Finds (LeadsTo ks v)) o
leads_only ks v o valid h = found_one (LeadsTo ks v) (λ u w a b. one_leads ks v u w valid a b) o h

-- from the value of the path's variable

module _ (q : Places) (path : KeyPath) where
  at_none : ((w : Val) → slice_get q path.variable.0 ≡ Some (Some w) → ⊥) → (u : Val) → StandsAt q path u → ⊥
  at_none none u h = none h.0 h.1

  pub stands_none : ((w : Val) → slice_get q path.variable.0 ≡ Some (Some w) → ⊥) → IsOnly (Finds (StandsAt q path)) None
  stands_none none = record { is = at_none none; alone = found_none (StandsAt q path) (at_none none) }

  module _ (v : Val) (there : slice_get q path.variable.0 ≡ Some (Some v)) where
    same_value : (w : Val) → slice_get q path.variable.0 ≡ Some (Some w) → w ≡ v
    same_value w e = inner w (sym e ∙ there)
      where
        inner : (w : Val) → ◌≡◌ {A = Option (Option Val)} (Some (Some w)) (Some (Some v)) → w ≡ v
        inner w e = cc

    leads : (u : Val) → StandsAt q path u → LeadsTo path.keys v u
    leads u h = subst (λ (z : Val). LeadsTo path.keys z u) (same_value h.0 h.1) h.2

    finds : (o : Option Val) → Finds (StandsAt q path) o → Finds (LeadsTo path.keys v) o
    finds (Some u) h = leads u h
    finds None h = λ u k. h u (v, there, k)

    found : (o : Option Val) → Finds (LeadsTo path.keys v) o → Finds (StandsAt q path) o
    found (Some u) h = (v, there, h)
    found None h = λ u k. h u (leads u k)

    pub stands_only : (o : Option Val) → IsOnly (Finds (LeadsTo path.keys v)) o → IsOnly (Finds (StandsAt q path)) o
    stands_only o h = record { is = found o h.is; alone = λ y k. h.alone y (finds y k) }

-- no keys lead to the value itself
pub no_keys : (ks : List Val) (v : Val) → length ks ≡ 0 → LeadsTo ks v v
no_keys [] v e = refl
no_keys (k ∷ ks) v e = absurd (omega (arith, e))
