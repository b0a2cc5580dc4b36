-- What is seen of a state, one thing after the other.
use Rattle.std.proofs.Common.{◌≡◌, ◌↔◌, inl, inr, refl, sym, subst, arith, ℕ, ◌+◌, ◌<◌, Bool, false, List, length, get_or}
use Rattle.std.proofs.lemmas.Bool.{cases_order}
use Rattle.std.proofs.lemmas.List.{get_or_read_under}
use Rattle.std.specs.Prelude.{IsTrue}
use Rattle.states_core.specs.States.{Values}
use Rattle.logs_updates.specs.declared.update.See.{See}
use Rattle.steps_lines_defs.specs.Asks.{AreSeen, IsSeen}

true_false : IsTrue false → ⊥
true_false h = cc

same_item : (sees : List See) (k n : ℕ) (d x : See) → k ≡ n → n < length sees → x ≡ get_or sees n x → get_or sees k d ≡ x
same_item sees k n d x e l is = subst (λ (j : ℕ). get_or sees j d ≡ x) (sym e) (sym (get_or_read_under sees n (length sees) x d is l refl))

module _ (sees : List See) (t : Values) (n : ℕ) (x : See) (within : n < length sees) (is : x ≡ get_or sees n x) where
  pub one_unseen : (b : Bool) → b ≡ false → IsTrue b ↔ IsSeen t x → IsTrue false ↔ AreSeen sees t
  one_unseen b off h = (λ f. absurd (true_false f), λ a. subst (λ (c : Bool). IsTrue c) off (h.1 (subst (λ (y : See). IsSeen t y) (sym is) (a n x within))))

  pub one_more : ((k : ℕ) (d : See) → k < n → IsSeen t (get_or sees k d)) → IsSeen t x → (k : ℕ) (d : See) → k < n + 1 → IsSeen t (get_or sees k d)
  one_more before here k d l = elim (cases_order k n) [
    | inl e ↦ subst (λ (y : See). IsSeen t y) (sym (same_item sees k n d x e within is)) here
    | inr o ↦ elim o [
      | inl less ↦ before k d less
      | inr more ↦ absurd (omega (arith, l, more))
    ]
  ]
