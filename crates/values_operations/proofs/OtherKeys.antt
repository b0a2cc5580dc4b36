-- Pairs and behind them those of others that have other keys; a pair that is replaced where it stands.
use Rattle.std.proofs.Common.{◌≡◌, ◌↔◌, inl, inr, ℕ, zero, suc, ◌+◌, ◌<◌, ◌≤◌, List, [], ◌∷◌, ◌++◌, length, map, slice_set, get_or, Bool, true, false, cond, not, ap, sym, ◌∙◌, subst, refl, append_assoc, append-nil, arith}
use Rattle.std.specs.declared.cmp.Ordering.TheVariants.{Less, Greater}
use Rattle.std.specs.Ordering.{ordering_reverse}
use Rattle.std.specs.List.{Contains}
use Rattle.std.specs.List.Sorted.{IsStrictlySortedBy}
use Rattle.std.proofs.lemmas.List.Elements.{filter-append, Contains-append_left, Contains-append_right, Contains-append_cases}
use Rattle.std.proofs.lemmas.Map.Keys.{sorted_tail}
use Rattle.values_core.specs.Data.{Val}
use Rattle.values_core.specs.Ascending.{cons_cases, head_in, tail_in, none_in, below}
use Rattle.values_core.specs.Order.{val_cmp, val_eq}
use Rattle.values_core.specs.OrderLaws.{val_same, val_total}
use Rattle.values_core.specs.IsValue.{IsValue}
use Rattle.values_core.specs.Functions.{HasKeyTwice, pairs_in, keys_in}
use Rattle.values_core.specs.FunctionLaws.{key_cmp, key_total, key_count, count_cons, none_alike, at_most_one, in_keys, pairs_ascending, pairs_ordered}
use Rattle.values_core.specs.FunctionOperations.{InMerge}
use Rattle.values_operations.specs.Among.{among}
use Rattle.values_operations.specs.Changes.{outside, replaced}
use Rattle.values_operations.proofs.Merging.{contains_has, has_contains}
use Rattle.values_operations.proofs.Pairs.{among_cases}

-- what stands outside
outside_from : (ks : List Val) (ps : List (Val × Val)) (r : Val × Val) → Contains (outside ks ps) r → Contains ps r × ¬ Contains ks r.0
outside_from ks [] r h = absurd (none_in r h)
outside_from ks (p ∷ ps) r h = either (outside_from ks ps r) (among ks p.0) refl h
  where
    behind : Contains ps r × (¬ Contains ks r.0) → Contains (p ∷ ps) r × ¬ Contains ks r.0
    behind w = (tail_in p ps r w.0, w.1)

    either : (Contains (outside ks ps) r → Contains ps r × ¬ Contains ks r.0) → (b : Bool) → among ks p.0 ≡ b → Contains (cond (not b) (p ∷ outside ks ps) (outside ks ps)) r → Contains (p ∷ ps) r × ¬ Contains ks r.0
    either again true e g = behind (again g)
    either again false e g = elim (cons_cases p (outside ks ps) r g) [
      | inl f ↦ (
        subst (λ (z : Val × Val). Contains (p ∷ ps) z) f (head_in p ps),
        λ k. let t : true ≡ false = sym (contains_has ks r.0 k) ∙ subst (λ (z : Val × Val). among ks z.0 ≡ false) f e in cc,
      )
      | inr f ↦ behind (again f)
    ]

outside_has : (ks : List Val) (ps : List (Val × Val)) (r : Val × Val) → Contains ps r → ¬ Contains ks r.0 → Contains (outside ks ps) r
outside_has ks [] r h n = absurd (none_in r h)
outside_has ks (p ∷ ps) r h n = either (λ f. outside_has ks ps r f n) (among ks p.0) refl
  where
    either : (Contains ps r → Contains (outside ks ps) r) → (b : Bool) → among ks p.0 ≡ b → Contains (cond (not b) (p ∷ outside ks ps) (outside ks ps)) r
    either again true e = elim (cons_cases p ps r h) [
      | inl f ↦ absurd (n (subst (λ (z : Val × Val). Contains ks z.0) f (has_contains ks p.0 e)))
      | inr f ↦ again f
    ]
    either again false e = elim (cons_cases p ps r h) [
      | inl f ↦ subst (λ (z : Val × Val). Contains (p ∷ outside ks ps) z) f (head_in p (outside ks ps))
      | inr f ↦ tail_in p (outside ks ps) r (again f)
    ]

-- what is pushed
pub no_more_outside : (ks : List Val) (out : List (Val × Val)) (p : Val × Val) → among ks p.0 ≡ true → out ≡ out ++ outside ks (p ∷ [])
no_more_outside ks out p e = sym (ap (λ ps. out ++ ps) (pick (among ks p.0) e) ∙ append-nil out)
  where
    pick : (b : Bool) → b ≡ true → ◌≡◌ {A = List (Val × Val)} (cond (not b) (p ∷ []) []) []
    pick true h = refl
    pick false h = cc

pub one_more_outside : (ks : List Val) (out : List (Val × Val)) (p : Val × Val) → among ks p.0 ≡ false → out ++ p ∷ [] ≡ out ++ outside ks (p ∷ [])
one_more_outside ks out p e = ap (λ ps. out ++ ps) (pick (among ks p.0) e)
  where
    pick : (b : Bool) → b ≡ false → ◌≡◌ {A = List (Val × Val)} (p ∷ []) (cond (not b) (p ∷ []) [])
    pick true h = cc
    pick false h = refl

pub outside_more : (ks : List Val) (out first ps : List (Val × Val)) (p : Val × Val) → out ≡ first ++ outside ks ps → out ++ outside ks (p ∷ []) ≡ first ++ outside ks (ps ++ p ∷ [])
outside_more ks out first ps p e =
    ap (λ zs. zs ++ outside ks (p ∷ [])) e ∙ append_assoc first (outside ks ps) (outside ks (p ∷ [])) ∙ ap (λ zs. first ++ zs) (sym (filter-append (λ r. not (among ks r.0)) ps (p ∷ [])))

-- how often a key comes
count_append : (key : Val) (ps qs : List (Val × Val)) → key_count key (ps ++ qs) ≡ key_count key ps + key_count key qs
count_append key [] qs = omega arith
count_append key (p ∷ ps) qs = omega (arith, count_cons key p ps, count_cons key p (ps ++ qs), count_append key ps qs)

count_outside : (key : Val) (ks : List Val) (ps : List (Val × Val)) → key_count key (outside ks ps) ≤ key_count key ps
count_outside key ks [] = omega arith
count_outside key ks (p ∷ ps) = either (count_outside key ks ps) (among ks p.0)
  where
    either : key_count key (outside ks ps) ≤ key_count key ps → (b : Bool) → key_count key (cond (not b) (p ∷ outside ks ps) (outside ks ps)) ≤ key_count key (p ∷ ps)
    either h true = omega (arith, count_cons key p ps, h)
    either h false = omega (arith, count_cons key p ps, count_cons key p (outside ks ps), h)

pub merge_once : (f g : Val) → IsValue f → IsValue g → ¬ HasKeyTwice (pairs_in f ++ outside (keys_in f) (pairs_in g))
merge_once f g p q t = elim (among_cases (keys_in f) t.key) [
  | inl a ↦
      let none : key_count t.key (outside (keys_in f) (pairs_in g)) ≡ 0 = none_alike (outside (keys_in f) (pairs_in g)) t.key (λ w h e. (outside_from (keys_in f) (pairs_in g) w h).1 (subst (Contains (keys_in f)) (sym e) a)) in
      omega (arith, t.twice, none, count_append t.key (pairs_in f) (outside (keys_in f) (pairs_in g)), at_most_one (pairs_in f) t.key (pairs_ordered f p))
  | inr n ↦
      let none : key_count t.key (pairs_in f) ≡ 0 = none_alike (pairs_in f) t.key (λ w h e. n (subst (Contains (keys_in f)) e (in_keys (pairs_in f) w h))) in
      omega (arith, t.twice, none, count_append t.key (pairs_in f) (outside (keys_in f) (pairs_in g)), count_outside t.key (keys_in f) (pairs_in g), at_most_one (pairs_in g) t.key (pairs_ordered g q))
]

pub in_merge : (f g key v : Val) → Contains (pairs_in f ++ outside (keys_in f) (pairs_in g)) (key, v) ↔ InMerge f g key v
in_merge f g key v = (there, back)
  where
    there : Contains (pairs_in f ++ outside (keys_in f) (pairs_in g)) (key, v) → InMerge f g key v
    there h = elim (Contains-append_cases (pairs_in f) (outside (keys_in f) (pairs_in g)) (key, v) h) [
      | inl a ↦ inl a
      | inr a ↦ let w = outside_from (keys_in f) (pairs_in g) (key, v) a in inr (w.1, w.0)
    ]

    back : InMerge f g key v → Contains (pairs_in f ++ outside (keys_in f) (pairs_in g)) (key, v)
    back (inl h) = Contains-append_left (pairs_in f) (outside (keys_in f) (pairs_in g)) (key, v) h
    back (inr h) = Contains-append_right (pairs_in f) (outside (keys_in f) (pairs_in g)) (key, v) (outside_has (keys_in f) (pairs_in g) (key, v) h.1 h.0)

-- a pair that is replaced
eq_no : (a b : Val) → ¬ (a ≡ b) → val_eq a b ≡ false
eq_no a b n = either (val_eq a b) refl
  where
    either : (c : Bool) → val_eq a b ≡ c → c ≡ false
    either true e = absurd (n (val_same a b e))
    either false e = refl

pub stays : (key new : Val) (p : Val × Val) → val_eq p.0 key ≡ false → replaced key new p ≡ p
stays key new p e = λ i. (p.0, pick (val_eq p.0 key) e i)
  where
    pick : (b : Bool) → b ≡ false → cond b new p.1 ≡ p.1
    pick true h = cc
    pick false h = refl

changes : (key new : Val) (p : Val × Val) → val_eq p.0 key ≡ true → replaced key new p ≡ (p.0, new)
changes key new p e = λ i. (p.0, pick (val_eq p.0 key) e i)
  where
    pick : (b : Bool) → b ≡ true → cond b new p.1 ≡ new
    pick true h = refl
    pick false h = cc

all_stay : (key new : Val) (ps : List (Val × Val)) → ((w : Val × Val) → Contains ps w → ¬ (w.0 ≡ key)) → map (replaced key new) ps ≡ ps
all_stay key new [] n = refl
all_stay key new (p ∷ ps) n =
    let here = stays key new p (eq_no p.0 key (n p (head_in p ps))) in
    let rest = all_stay key new ps (λ w h. n w (tail_in p ps w h)) in
    λ i. here i ∷ rest i

not_less : (a : Val) → val_cmp a a ≡ Less → ⊥
not_less a e = let g : Less ≡ Greater = sym e ∙ val_total.antisymm a a ∙ ap ordering_reverse e in cc

set_where : (key new : Val) (ps : List (Val × Val)) → IsStrictlySortedBy key_cmp ps → (i : ℕ) (p : Val × Val) → i < length ps → p ≡ get_or ps i p → val_eq p.0 key ≡ true → slice_set ps i (p.0, new) ≡ map (replaced key new) ps
set_where key new [] s i p h e y = absurd (omega arith)
set_where key new (q ∷ qs) s zero p h e y =
    let k : p.0 ≡ key = val_same p.0 key y in
    let here : replaced key new q ≡ (p.0, new) = changes key new q (subst (λ (z : Val × Val). val_eq z.0 key ≡ true) e y) ∙ (λ i. ((sym e i).0, new)) in
    let rest = all_stay key new qs (λ w g f. not_less w.0 (subst (λ (z : Val). val_cmp z w.0 ≡ Less) (ap (λ (z : Val × Val). z.0) (sym e) ∙ k ∙ sym f) (below key_cmp key_total q qs w s g))) in
    λ i. sym here i ∷ sym rest i
set_where key new (q ∷ qs) s (suc i) p h e y =
    let k : p.0 ≡ key = val_same p.0 key y in
    let there : Contains qs p = (i, omega (arith, h), sym e) in
    let less : val_cmp q.0 key ≡ Less = subst (λ (z : Val). val_cmp q.0 z ≡ Less) k (below key_cmp key_total q qs p s there) in
    let here : replaced key new q ≡ q = stays key new q (eq_no q.0 key (λ f. not_less key (subst (λ (z : Val). val_cmp z key ≡ Less) f less))) in
    let rest = set_where key new qs (sorted_tail key_cmp q qs s) i p (omega (arith, h)) e y in
    λ j. sym here j ∷ rest j

pub set_replaced : (key new : Val) (ps : List (Val × Val)) (i : ℕ) (p : Val × Val) → IsStrictlySortedBy val_cmp (map (λ p. p.0) ps) → i < length ps → p ≡ get_or ps i p → val_eq p.0 key ≡ true → slice_set ps i (p.0, new) ≡ map (replaced key new) ps
set_replaced key new ps i p s = set_where key new ps (pairs_ascending ps s) i p
