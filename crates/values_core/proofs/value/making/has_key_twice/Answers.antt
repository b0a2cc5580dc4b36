use Rattle.std.proofs.Common.{◌≡◌, ◌⊎◌, inl, inr, ℕ, zero, suc, [], ◌∷◌, ◌+◌, ◌<◌, ◌-◌, List, get_or, length, arith, sym, ◌∙◌, subst, false}
use Rattle.std.specs.declared.cmp.Ordering.TheVariants.{Less}
use Rattle.std.specs.Ordering.{is_lt}
use Rattle.values_core.specs.Data.{Val}
use Rattle.values_core.specs.Order.{val_cmp, val_eq}
use Rattle.values_core.specs.View.{pair_cmp}
use Rattle.values_core.proofs.FunctionLemmas.{two_alike, keys_ascend, ascending_from_neighbours}
use Rattle.values_core.proofs.value.making.has_key_twice.Goals as goal

pub returns-then-eq : goal.returns-then-eq
returns-then-eq c =
    two_alike c.args.pairs.now.items (c.loop-i.i - 1) c.loop-i.i c.index-before.result.now c.index-here.result.now (omega arith) (omega arith) c.index-before.ensures c.index-here.ensures (sym c.eq.ensures ∙ c.if-eq.true)

last : (ps : List (Val × Val)) (i h : ℕ) (p q d : Val × Val) → i ≡ h + 1 → i < length ps → p ≡ get_or ps h p → q ≡ get_or ps i q
    → is_lt (pair_cmp (get_or ps (h + 1) d) (get_or ps h d)) ≡ false → val_eq p.0 q.0 ≡ false
    → val_cmp (get_or ps h d).0 (get_or ps i d).0 ≡ Less
last ps i h p q d e l ep eq s n =
    let a : p ≡ get_or ps h d = same ps h p d (omega arith) ep in
    let b : q ≡ get_or ps i d = same ps i q d l eq in
    let s' : is_lt (pair_cmp (get_or ps i d) (get_or ps h d)) ≡ false = subst (λ (m : ℕ). is_lt (pair_cmp (get_or ps m d) (get_or ps h d)) ≡ false) (sym e) s in
    keys_ascend (get_or ps h d) (get_or ps i d) s' (rw (← a, ← b) n)
  where
    same : (xs : List (Val × Val)) (k : ℕ) (x y : Val × Val) → k < length xs → x ≡ get_or xs k x → x ≡ get_or xs k y
    same [] k x y l e = absurd (omega arith)
    same (z ∷ zs) zero x y l e = e
    same (z ∷ zs) (suc k) x y l e = same zs k x y (omega arith) e

pub loop-i-preserved : goal.loop-i-preserved
loop-i-preserved c = λ k j d e l. elim (either j (omega arith)) [
  | inl h ↦ c.loop-i.invariant k j d e h
  | inr h ↦
      let at : k ≡ c.loop-i.i - 1 = omega arith in
      rw (at, h) (last c.args.pairs.now.items c.loop-i.i (c.loop-i.i - 1) c.index-before.result.now c.index-here.result.now d (omega arith) (omega arith) c.index-before.ensures c.index-here.ensures
      (c.requires (c.loop-i.i - 1) d (omega arith) (omega arith)) (sym c.eq.ensures ∙ c.if-eq.false))
]
  where
    either : (j : ℕ) → j < c.loop-i.i + 1 → (j < c.loop-i.i) ⊎ (j ≡ c.loop-i.i)
    either j h = grind arith

pub returns : goal.returns
returns c = ascending_from_neighbours c.args.pairs.now.items (λ k j d e l. c.loop-i.invariant k j d e (omega arith))
