-- The values of members, one behind the other.
use Rattle.std.proofs.Common.{◌≡◌, ℕ, zero, suc, ◌+◌, ◌<◌, List, [], ◌∷◌, ◌++◌, length, take, map, Option, Some, None, Result, Ok, Err, IfOk, sym, ◌∙◌, subst, refl, arith}
use Rattle.std.specs.Prelude.{get_or}
use Rattle.std.specs.declared.alloc.AllocError.{AllocError}
use Rattle.values_core.specs.Data.{Val}
use Rattle.values_core.specs.Sets.{IsSetOf}
use Rattle.values_core.specs.SetLaws.{same_members}
use Rattle.reading_trees.specs.Lits.{Lit, Lits, number, str, truth, model, set, no_lits, more_lits, lits_of}
use Rattle.reading_trees.specs.Literals.{lit_of}
use Rattle.reading_trees.specs.declared.config.Literal.{Literal}
use Rattle.names_literals.specs.Spells.{IsValueOf, AreValuesOf, Finds}

add_one : (i : ℕ) → i + 1 ≡ suc i
add_one i = omega arith

members_push : (xs : List Literal) (i : ℕ) (x : Literal) (vs : List Val) (v : Val) → i < length xs → x ≡ get_or xs i x
    → AreValuesOf (lits_of (map lit_of (take i xs))) vs → IsValueOf (lit_of x) v → AreValuesOf (lits_of (map lit_of (take (suc i) xs))) (vs ++ v ∷ [])
members_push [] i x vs v h e p r = absurd (omega arith)
members_push (y ∷ ys) zero x [] v h e p r = (subst (λ (z : Literal). IsValueOf (lit_of z) v) e r, tt)
members_push (y ∷ ys) zero x (w ∷ ws) v h e p r = absurd p
members_push (y ∷ ys) (suc i) x [] v h e p r = absurd p
members_push (y ∷ ys) (suc i) x (w ∷ ws) v h e p r = (p.0, members_push ys i x ws v (omega arith) e p.1 r)

pub members_more : (xs : List Literal) (i : ℕ) (x : Literal) (vs : List Val) (v : Val) → i < length xs → x ≡ get_or xs i x
    → AreValuesOf (lits_of (map lit_of (take i xs))) vs → IsValueOf (lit_of x) v → AreValuesOf (lits_of (map lit_of (take (i + 1) xs))) (vs ++ v ∷ [])
members_more xs i x vs v h e p r = rw (add_one i) (members_push xs i x vs v h e p r)

-- a member that has no value, and no values of the members
pub members_stop : (xs : List Literal) (i : ℕ) (x : Literal) → i < length xs → x ≡ get_or xs i x → ((v : Val) → ¬ IsValueOf (lit_of x) v) → (vs : List Val) → ¬ AreValuesOf (lits_of (map lit_of xs)) vs
members_stop [] i x h e n vs p = absurd (omega arith)
members_stop (y ∷ ys) i x h e n [] p = p
members_stop (y ∷ ys) zero x h e n (v ∷ vs) p = n v (subst (λ (z : Literal). IsValueOf (lit_of z) v) (sym e) p.0)
members_stop (y ∷ ys) (suc i) x h e n (v ∷ vs) p = members_stop ys i x (omega arith) e n vs p.1

one_set_of : (xs : List Val) (s t : Val) → IsSetOf xs s → IsSetOf xs t → s ≡ t
one_set_of xs s t p q = same_members s t p.valid q.valid p.is_set q.is_set (λ v. (λ h. (q.same v).1 ((p.same v).0 h), λ h. (p.same v).1 ((q.same v).0 h)))

mutual
  pub one_value : (l : Lit) (v w : Val) → IsValueOf l v → IsValueOf l w → v ≡ w
  one_value (number z) v w p q = p ∙ sym q
  one_value (str s) v w p q = p ∙ sym q
  one_value (truth b) v w p q = p ∙ sym q
  one_value (model n) v w p q = p ∙ sym q
  one_value (set ls) v w p q = one_set_of p.0 v w p.2 (subst (λ (xs : List Val). IsSetOf xs w) (sym (one_each ls p.0 q.0 p.1 q.1)) q.2)

  pub one_each : (ls : Lits) (vs ws : List Val) → AreValuesOf ls vs → AreValuesOf ls ws → vs ≡ ws
  one_each no_lits [] [] p q = refl
  one_each no_lits [] (w ∷ ws) p q = absurd q
  one_each no_lits (v ∷ vs) ws p q = absurd p
  one_each (more_lits l ls) [] ws p q = absurd p
  one_each (more_lits l ls) (v ∷ vs) [] p q = absurd q
  one_each (more_lits l ls) (v ∷ vs) (w ∷ ws) p q = λ i. one_value l v w p.0 q.0 i ∷ one_each ls vs ws p.1 q.1 i

pub set_gives : (ls : Lits) (vs : List Val) (r : Result (Option Val) AllocError) → AreValuesOf ls vs → IfOk r (Finds (IsSetOf vs)) → IfOk r (Finds (IsValueOf (set ls)))
set_gives ls vs (Ok None) h g = λ v p. g v (subst (λ (us : List Val). IsSetOf us v) (one_each ls p.0 vs p.1 h) p.2)
set_gives ls vs (Ok (Some v)) h g = (vs, h, g)
set_gives ls vs (Err e) h g = g
