-- Sets that are listed for sure: from the bounds of the parts to those of the set.
use Rattle.std.proofs.Common.{◌≡◌, ◌↔◌, inl, inr, ℕ, suc, ◌+◌, ◌^◌, ◌≤◌, max, ℤ, pos, Bool, true, false, List, [], ◌∷◌, length, Result, Ok, Err, ap, sym, subst, refl, arith}
use Rattle.std.specs.Prelude.{◌+ℤ◌, ◌≤ℤ◌, ◌<ℤ◌, ◌&&◌, FitsSigned, MatchBool}
use Rattle.std.specs.Int.{w64}
use Rattle.std.proofs.lemmas.Int.{ints}
use Rattle.std.specs.List.{Contains}
use Rattle.values_core.specs.Data.{Val, truth, depth}
use Rattle.values_core.specs.Ascending.{cons_cases, none_in}
use Rattle.values_core.specs.IsValue.{IsValue, max_members}
use Rattle.values_core.specs.Sets.{IsSet, items_of, count_of}
use Rattle.values_core.specs.SetOperations.{GivesSet, InPowerset, InUnion, InInterval}
use Rattle.values_core.specs.Products.{InFunctionSet}
use Rattle.values_core.specs.declared.fault.EvalKind.TheVariants.{NotFinite}
use Rattle.values_core.specs.declared.fault.OpFault.{OpFault}
use Rattle.values_core.specs.declared.fault.OpFault.TheVariants.{Refused}
use Rattle.values_operations.specs.Listed.{ints_from}
use Rattle.values_operations.proofs.Intervals.{interval_is, length-ints, nothing_between}
use Rattle.values_operations.proofs.Listing.{on_set, on_sets}
use Rattle.values_sets.specs.DescribedSets.{Described, Booleans, PowerOf, Interval, Functions, Union, Listed}
use Rattle.values_sets.specs.Listings.{Listing, Lists, is_finite}
use Rattle.values_sets.proofs.Collecting.{booleans_listed, functions_listed, interval_listed, listed_is, same_listed, subsets_listed, union_listed}
use Rattle.values_sets.proofs.Outcomes.{lists_one_way}
use Rattle.values_set_bounds.specs.Bounds.{IsListedWithin, ListsForSure}
use Rattle.values_set_bounds.proofs.Existing.{IsThere, listed_there}
use Rattle.values_set_bounds.proofs.Making.{functions_there, subsets_there, union_there}

-- what is listed has an end
pub apart : (d : Described) (s : Val) → Lists d (Ok s) → (is_finite d ≡ true) × Listing d (Ok s)
apart d s l = by_end (is_finite d) refl l
  where
    by_end : (b : Bool) → is_finite d ≡ b → MatchBool b (Listing d (Ok s)) (Ok s ≡ Err (Refused NotFinite 0)) → (is_finite d ≡ true) × Listing d (Ok s)
    by_end true e h = (e, h)
    by_end false e h = cc

together : (d : Described) (r : Result Val OpFault) → is_finite d ≡ true → Listing d r → Lists d r
together d r e l = subst (λ (b : Bool). MatchBool b (Listing d r) (r ≡ Err (Refused NotFinite 0))) (sym e) l

pub lists_for_sure : ListsForSure
lists_for_sure d n l w r h = elim (lists_one_way d (Ok w.listed) r w.lists h) [
  | inl e ↦ cc
  | inr f ↦ elim f [
    | inl e ↦ inr e
    | inr e ↦ inl (sym e)
  ]
]

-- a set within bounds is within wider ones
pub widened : (d : Described) (n m l k : ℕ) → n ≤ m → l ≤ k → IsListedWithin d n l → IsListedWithin d m k
widened d n m l k f g w = record { listed = w.listed; lists = w.lists; itself = w.itself; few = omega (arith, f, w.few); shallow = omega (arith, g, w.shallow) }

-- a set that exists is listed, where it is no value already
pub from_there : (d : Described) (P : Val → Type 0) (n l : ℕ) → ((s : Val) → ¬ (d ≡ Listed s)) → is_finite d ≡ true → (t : IsThere P n l) → Listing d (Ok t.one) → IsListedWithin d n l
from_there d P n l other e t h = record { listed = t.one; lists = together d (Ok t.one) e h; itself = λ s i. absurd (other s i); few = t.few; shallow = t.shallow }

pub booleans_within : IsListedWithin Booleans 2 1
booleans_within =
    let t = listed_there (Contains (truth false ∷ truth true ∷ [])) (truth false ∷ truth true ∷ []) 2 0 (λ v. (λ h. h, λ h. h)) (omega arith) (omega arith) (omega arith) each in
    from_there Booleans (Contains (truth false ∷ truth true ∷ [])) 2 1 (λ s i. cc) refl t (booleans_listed (truth false ∷ truth true ∷ []) (Ok t.one) refl t.meets)
  where
    flat : (b : Bool) → IsValue (truth b) × (depth (truth b) ≤ 0)
    flat b = (record { canonical = tt; shallow = omega arith }, omega arith)

    each : (v : Val) → Contains (truth false ∷ truth true ∷ []) v → IsValue v × (depth v ≤ 0)
    each v h = elim (cons_cases (truth false) (truth true ∷ []) v h) [
      | inl e ↦ subst (λ (w : Val). IsValue w × (depth w ≤ 0)) e (flat false)
      | inr g ↦ elim (cons_cases (truth true) [] v g) [
        | inl e ↦ subst (λ (w : Val). IsValue w × (depth w ≤ 0)) e (flat true)
        | inr k ↦ absurd (none_in v k)
      ]
    ]

pub value_within : (s : Val) (n l : ℕ) → IsValue s → IsSet s → count_of s ≤ n → depth s ≤ l → IsListedWithin (Listed s) n l
value_within s n l p h few low = record { listed = s; lists = same_listed s s p h refl; itself = λ t e. cc; few = few; shallow = low }

-- integers one after the other
integers_there : (y z : ℤ) (vs : List Val) (n : ℕ) → FitsSigned w64 y → FitsSigned w64 z → ((v : Val) → Contains vs v ↔ InInterval y z v) → length vs ≡ n → n ≤ max_members → IsListedWithin (Interval y z) n 1
integers_there y z vs n f g same many few =
    let t = listed_there (InInterval y z) vs n 0 same (omega (arith, many)) few (omega arith) (λ v h. (
      subst (λ (w : Val). IsValue w) (sym h.1) (record { canonical = fits h.0 h.2 h.3; shallow = omega arith }),
      omega (arith, ap depth h.1),
    )) in
    from_there (Interval y z) (InInterval y z) n 1 (λ s i. cc) refl t (interval_listed y z (Ok t.one) f g t.meets)
  where
    fits : (x : ℤ) → y ≤ℤ x → x ≤ℤ z → FitsSigned w64 x
    fits x a b = omega (arith, ints, a, b, f, g)

pub interval_within : (y z : ℤ) (n : ℕ) → FitsSigned w64 y → FitsSigned w64 z → n ≤ max_members → y +ℤ pos n ≡ z +ℤ pos 1 → IsListedWithin (Interval y z) n 1
interval_within y z n f g few e = integers_there y z (ints_from y n) n f g (interval_is y z n e) (length-ints y n) few

pub none_within : (y z : ℤ) → FitsSigned w64 y → FitsSigned w64 z → z <ℤ y → IsListedWithin (Interval y z) 0 1
none_within y z f g h = integers_there y z [] 0 f g (nothing_between y z h) refl (omega arith)

pub subsets_within : (d : Described) (n l k : ℕ) → k ≡ 2 ^ n → k ≤ max_members → l ≤ 31 → IsListedWithin d n l → IsListedWithin (PowerOf d) k (suc l)
subsets_within d n l k e fit fits w =
    let a = w.listed in
    let p = apart d w.listed w.lists in
    let o = listed_is d w.listed p.1 in
    let t = subsets_there a n l o.valid o.is_set w.few (omega (arith, e, fit)) w.shallow fits in
    subst (λ i. IsListedWithin (PowerOf d) i (suc l)) (sym e)
    (from_there (PowerOf d) (InPowerset a) (2 ^ n) (suc l) (λ s i. cc) p.0 t (subsets_listed d a (Ok t.one) p.1 (on_set a (GivesSet (InPowerset a)) (Ok t.one) o.is_set t.meets)))

pub functions_within : (a : Val) (d : Described) (n m l k : ℕ) → IsValue a → IsSet a → IsListedWithin d n m → k ≡ n ^ length (items_of a) → k ≤ max_members → depth a ≤ l → m ≤ l → l ≤ 31 → IsListedWithin (Functions a d) k (suc l)
functions_within a d n m l k q j w e fit low flat fits =
    let b = w.listed in
    let p = apart d w.listed w.lists in
    let o = listed_is d w.listed p.1 in
    let t = functions_there a b n l q j o.valid o.is_set w.few (omega (arith, e, fit)) low (omega (arith, w.shallow, flat)) fits in
    subst (λ i. IsListedWithin (Functions a d) i (suc l)) (sym e)
    (from_there (Functions a d) (InFunctionSet a b) (n ^ length (items_of a)) (suc l) (λ s i. cc) p.0 t (functions_listed a d b (Ok t.one) j p.1 (on_sets a b (GivesSet (InFunctionSet a b)) (Ok t.one) j o.is_set t.meets)))

pub union_within : (c d : Described) (n m l k : ℕ) → n + m ≤ max_members → IsListedWithin c n l → IsListedWithin d m k → IsListedWithin (Union c d) (n + m) (max l k)
union_within c d n m l k fit v w =
    let a = v.listed in
    let b = w.listed in
    let p = apart c v.listed v.lists in
    let q = apart d w.listed w.lists in
    let o = listed_is c v.listed p.1 in
    let r = listed_is d w.listed q.1 in
    let t = union_there a b n m l k o.valid o.is_set r.valid r.is_set v.few w.few fit v.shallow w.shallow in
    from_there (Union c d) (InUnion a b) (n + m) (max l k) (λ s i. cc) (both (is_finite c) (is_finite d) p.0 q.0) t
    (union_listed c d a b (Ok t.one) p.1 q.1 (on_sets a b (GivesSet (InUnion a b)) (Ok t.one) o.is_set r.is_set t.meets))
  where
    both : (a b : Bool) → a ≡ true → b ≡ true → (a && b) ≡ true
    both true b e f = f
    both false b e f = cc
