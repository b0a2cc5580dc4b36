-- What stands in a value is less deep.
use Rattle.std.proofs.Common.{◌≡◌, ℕ, zero, suc, ◌≤◌, max, List, [], ◌∷◌, map, Some, ap, sym, subst, refl, arith}
use Rattle.std.specs.List.{slice_get}
use Rattle.values_core.specs.Data.{Val, set, function, model, truth, integer, string, Pairs, no_pairs, more_pairs, Vals, no_vals, more_vals, members, vals_of, depth, vals_depth, pairs_depth, entries}
use Rattle.values_core.specs.Functions.{keys_in, values_in}
use Rattle.values_core.specs.Sets.{IsSet, items_of}

key_depth : (ps : Pairs) (i : ℕ) (k : Val) → slice_get (map (λ (p : Val × Val). p.0) (entries ps)) i ≡ Some k → depth k ≤ pairs_depth ps
key_depth no_pairs i k e = cc
key_depth (more_pairs a b ps) zero k e = let same : a ≡ k = cc in subst (λ (w : Val). depth w ≤ max (max (depth a) (depth b)) (pairs_depth ps)) same (omega arith)
key_depth (more_pairs a b ps) (suc i) k e = let low = key_depth ps i k e in omega arith

value_depth : (ps : Pairs) (i : ℕ) (v : Val) → slice_get (map (λ (p : Val × Val). p.1) (entries ps)) i ≡ Some v → depth v ≤ pairs_depth ps
value_depth no_pairs i k e = cc
value_depth (more_pairs a b ps) zero v e = let same : b ≡ v = cc in subst (λ (w : Val). depth w ≤ max (max (depth a) (depth b)) (pairs_depth ps)) same (omega arith)
value_depth (more_pairs a b ps) (suc i) v e = let low = value_depth ps i v e in omega arith

pub key_below : (f : Val) (i : ℕ) (k : Val) → slice_get (keys_in f) i ≡ Some k → suc (depth k) ≤ depth f
key_below (function ps) i k e = let low = key_depth ps i k e in omega arith
key_below (model s) i k e = cc
key_below (truth s) i k e = cc
key_below (integer s) i k e = cc
key_below (string s) i k e = cc
key_below (set s) i k e = cc

pub value_below : (f : Val) (i : ℕ) (v : Val) → slice_get (values_in f) i ≡ Some v → suc (depth v) ≤ depth f
value_below (function ps) i k e = let low = value_depth ps i k e in omega arith
value_below (model s) i k e = cc
value_below (truth s) i k e = cc
value_below (integer s) i k e = cc
value_below (string s) i k e = cc
value_below (set s) i k e = cc

pub member_below : (vs : List Val) (i : ℕ) (v : Val) → slice_get vs i ≡ Some v → depth v ≤ vals_depth (vals_of vs)
member_below [] i v e = cc
member_below (u ∷ us) zero v e = let same : u ≡ v = cc in subst (λ (w : Val). depth w ≤ max (depth u) (vals_depth (vals_of us))) same (omega arith)
member_below (u ∷ us) (suc i) v e = let low = member_below us i v e in omega arith

-- a set is one deeper than its members
pub set_depth : (s : Val) → IsSet s → depth s ≡ suc (vals_depth (vals_of (items_of s)))
set_depth (set vs) h = ap (λ (us : Vals). suc (vals_depth us)) (sym (same vs))
  where
    same : (vs : Vals) → vals_of (members vs) ≡ vs
    same no_vals = refl
    same (more_vals v vs) = ap (more_vals v) (same vs)
set_depth (model s) h = absurd h
set_depth (truth s) h = absurd h
set_depth (integer s) h = absurd h
set_depth (string s) h = absurd h
set_depth (function s) h = absurd h
