-- From what the operations on values answer to what listing a described set answers.
use Rattle.std.proofs.Common.{◌≡◌, ◌↔◌, inl, inr, ℤ, List, [], ◌∷◌, Bool, true, false, Result, Ok, Err, ap, sym, subst, refl, arith}
use Rattle.std.specs.List.{Contains}
use Rattle.std.specs.Int.{w64}
use Rattle.std.specs.Prelude.{FitsSigned, ◌≤ℤ◌, MatchBool}
use Rattle.std.proofs.lemmas.Int.{ints}
use Rattle.values_core.specs.Data.{Val, model, truth, integer, string, set, function, Pairs, no_pairs, more_pairs, entries, pairs_depth}
use Rattle.values_core.specs.Ascending.{cons_cases, head_in, tail_in, none_in}
use Rattle.values_core.specs.IsValue.{IsValue, IsCanonical, HaveCanonical}
use Rattle.values_core.specs.Sets.{IsSet}
use Rattle.values_core.specs.Functions.{HasPair}
use Rattle.values_core.specs.FunctionLaws.{pairs_of-entries}
use Rattle.values_core.specs.Products.{InFunctionSet, ListsFunctions}
use Rattle.values_core.specs.SetOperations.{GivesSet, IsSetWith, OnSet, OnSets, InPowerset, ListsSubsets, InUnion, InInterval, Unites}
use Rattle.values_core.specs.declared.fault.OpFault.{OpFault}
use Rattle.values_core.specs.declared.fault.OpFault.TheVariants.{Refused, NoMemory}
use Rattle.values_core.specs.declared.fault.EvalKind.TheVariants.{NotFinite}
use Rattle.values_core.specs.SetLaws.{same_members}
use Rattle.values_core.proofs.FunctionLemmas.{pair_depth_in}
use Rattle.values_operations.proofs.Listing.{gives_as}
use Rattle.values_operations.proofs.Made.{member_inner}
use Rattle.values_sets.specs.DescribedSets.{Described, Nat, Int, Strings, Booleans, SeqOf, PowerOf, Interval, Functions, Records, Product, Union, Inter, Minus, Listed, Fields, NoFields, MoreFields, Parts, NoParts, MoreParts}
use Rattle.values_sets.specs.Membership.{IsMember}
use Rattle.values_sets.specs.Listings.{Collects, Before, Listing, BeforeFields, BeforeParts, ListsItsMembers, ListsAsOne, is_finite}
use Rattle.values_sets.specs.ListedParts.{IsChosen}

-- what is listed behind others is the set
past_one : (P Q : Result Val OpFault → Type 0) (s : Val) → Before P Q (Ok s) → Q (Ok s)
past_one P Q s (inl h) = let e : Ok s ≡ Err h.0 = h.2 in cc
past_one P Q s (inr h) = h.2

past_fields : (fs : Fields) (Q : Result Val OpFault → Type 0) (s : Val) → BeforeFields fs Q (Ok s) → Q (Ok s)
past_fields NoFields Q s h = h
past_fields (MoreFields n d fs) Q s h = past_fields fs Q s (past_one (Listing d) (BeforeFields fs Q) s h)

past_parts : (ps : Parts) (Q : Result Val OpFault → Type 0) (s : Val) → BeforeParts ps Q (Ok s) → Q (Ok s)
past_parts NoParts Q s h = h
past_parts (MoreParts d ps) Q s h = past_parts ps Q s (past_one (Listing d) (BeforeParts ps Q) s h)

-- a set that is listed has as its members all values that belong to it
pub listed_is : (d : Described) (s : Val) → Listing d (Ok s) → IsSetWith (IsMember d) s
listed_is Nat s l = l
listed_is Int s l = l
listed_is Strings s l = l
listed_is Booleans s l = l
listed_is (SeqOf d) s l = l
listed_is (PowerOf d) s l = past_one (Listing d) (Collects (PowerOf d)) s l
listed_is (Interval y z) s l = l
listed_is (Functions a d) s l = past_one (Listing d) (Collects (Functions a d)) s l
listed_is (Records fs) s l = past_fields fs (Collects (Records fs)) s l
listed_is (Product ps) s l = past_parts ps (Collects (Product ps)) s l
listed_is (Union c d) s l = past_one (Listing d) (Collects (Union c d)) s (past_one (Listing c) (Before (Listing d) (Collects (Union c d))) s l)
listed_is (Inter c d) s l = past_one (Listing c) (Collects (Inter c d)) s l
listed_is (Minus c d) s l = past_one (Listing c) (Collects (Minus c d)) s l
listed_is (Listed a) s l = l

-- the first field, or the first part, may want memory
abbrev FieldsWant : Fields → Type 0
FieldsWant NoFields = Unit {0}
FieldsWant (MoreFields n d fs) = Listing d (Err NoMemory)

abbrev PartsWant : Parts → Type 0
PartsWant NoParts = Unit {0}
PartsWant (MoreParts d ps) = Listing d (Err NoMemory)

before_fields : (fs : Fields) (Q : Result Val OpFault → Type 0) → Q (Err NoMemory) → FieldsWant fs → BeforeFields fs Q (Err NoMemory)
before_fields NoFields Q q w = q
before_fields (MoreFields n d fs) Q q w = inl (NoMemory, w, refl)

before_parts : (ps : Parts) (Q : Result Val OpFault → Type 0) → Q (Err NoMemory) → PartsWant ps → BeforeParts ps Q (Err NoMemory)
before_parts NoParts Q q w = q
before_parts (MoreParts d ps) Q q w = inl (NoMemory, w, refl)

-- want of memory may come at any time
mutual
  pub no_memory : (d : Described) → Listing d (Err NoMemory)
  no_memory Nat = tt
  no_memory Int = tt
  no_memory Strings = tt
  no_memory Booleans = tt
  no_memory (SeqOf d) = tt
  no_memory (PowerOf d) = inl (NoMemory, no_memory d, refl)
  no_memory (Interval y z) = tt
  no_memory (Functions a d) = inl (NoMemory, no_memory d, refl)
  no_memory (Records fs) = before_fields fs (Collects (Records fs)) tt (fields_want fs)
  no_memory (Product ps) = before_parts ps (Collects (Product ps)) tt (parts_want ps)
  no_memory (Union c d) = inl (NoMemory, no_memory c, refl)
  no_memory (Inter c d) = inl (NoMemory, no_memory c, refl)
  no_memory (Minus c d) = inl (NoMemory, no_memory c, refl)
  no_memory (Listed s) = tt

  fields_want : (fs : Fields) → FieldsWant fs
  fields_want NoFields = tt
  fields_want (MoreFields n d fs) = no_memory d

  parts_want : (ps : Parts) → PartsWant ps
  parts_want NoParts = tt
  parts_want (MoreParts d ps) = no_memory d

-- the operands are sets
off_set : (a : Val) (Q : Result Val OpFault → Type 0) (r : Result Val OpFault) → IsSet a → OnSet a Q r → Q r
off_set (set us) Q r h q = q
off_set (model s) Q r h q = absurd h
off_set (truth s) Q r h q = absurd h
off_set (integer s) Q r h q = absurd h
off_set (string s) Q r h q = absurd h
off_set (function s) Q r h q = absurd h

off_sets : (a b : Val) (Q : Result Val OpFault → Type 0) (r : Result Val OpFault) → IsSet a → IsSet b → OnSets a b Q r → Q r
off_sets (set us) (set vs) Q r h k q = q
off_sets (model s) b Q r h k q = absurd h
off_sets (truth s) b Q r h k q = absurd h
off_sets (integer s) b Q r h k q = absurd h
off_sets (string s) b Q r h k q = absurd h
off_sets (function s) b Q r h k q = absurd h
off_sets (set us) (model s) Q r h k q = absurd k
off_sets (set us) (truth s) Q r h k q = absurd k
off_sets (set us) (integer s) Q r h k q = absurd k
off_sets (set us) (string s) Q r h k q = absurd k
off_sets (set us) (function s) Q r h k q = absurd k

-- the keys and the values of a function are values
have_in : (ps : Pairs) (p : Val × Val) → HaveCanonical ps → Contains (entries ps) p → IsCanonical p.0 × IsCanonical p.1
have_in no_pairs p c h = absurd (none_in p h)
have_in (more_pairs k v ps) p c h = elim (cons_cases (k, v) (entries ps) p h) [
  | inl e ↦ subst (λ (q : Val × Val). IsCanonical q.0 × IsCanonical q.1) e (c.0, c.1)
  | inr g ↦ have_in ps p c.2 g
]

pub pair_value : (f key v : Val) → IsValue f → HasPair f key v → IsValue v
pair_value (function ps) key v p h =
    let low = pair_depth_in (entries ps) (key, v) h in
    let c = have_in ps (key, v) p.canonical.1 h in
    record { canonical = c.1; shallow = omega (arith, low, p.shallow, ap pairs_depth (pairs_of-entries ps)) }
pair_value (model s) key v p h = absurd (none_in (key, v) h)
pair_value (truth s) key v p h = absurd (none_in (key, v) h)
pair_value (integer s) key v p h = absurd (none_in (key, v) h)
pair_value (string s) key v p h = absurd (none_in (key, v) h)
pair_value (set s) key v p h = absurd (none_in (key, v) h)

pub subsets_listed : (d : Described) (a : Val) (r : Result Val OpFault) → Listing d (Ok a) → ListsSubsets a r → Listing (PowerOf d) r
subsets_listed d a r l q =
    let o = listed_is d a l in
    inr (
      a,
      l,
      gives_as (InPowerset a) (IsMember (PowerOf d)) r (λ v. (
        λ h. (h.0, (h.1, λ w g. ((o.same w).0 (h.2 w g)).1)),
        λ h. (h.0, h.1.0, λ w g. (o.same w).1 ((member_inner v w h.0 g).valid, h.1.1 w g)),
      )) (off_set a (GivesSet (InPowerset a)) r o.is_set q),
    )

pub functions_listed : (a : Val) (d : Described) (b : Val) (r : Result Val OpFault) → IsSet a → Listing d (Ok b) → ListsFunctions a b r → Listing (Functions a d) r
functions_listed a d b r k l q =
    let o = listed_is d b l in
    inr (
      b,
      l,
      gives_as (InFunctionSet a b) (IsMember (Functions a d)) r (λ f. (
        λ h. (h.0, (h.1, h.2, λ key w g. ((o.same w).0 (h.3 key w g)).1)),
        λ h. (h.0, h.1.0, h.1.1, λ key w g. (o.same w).1 (pair_value f key w h.0 g, h.1.2 key w g)),
      )) (off_sets a b (GivesSet (InFunctionSet a b)) r k o.is_set q),
    )

pub union_listed : (c d : Described) (a b : Val) (r : Result Val OpFault) → Listing c (Ok a) → Listing d (Ok b) → Unites a b r → Listing (Union c d) r
union_listed c d a b r l m q =
    let o = listed_is c a l in
    let p = listed_is d b m in
    inr (a, l, inr (b, m, gives_as (InUnion a b) (IsMember (Union c d)) r (λ v. (there o p v, back o p v)) (off_sets a b (GivesSet (InUnion a b)) r o.is_set p.is_set q)))
  where
    there : IsSetWith (IsMember c) a → IsSetWith (IsMember d) b → (v : Val) → InUnion a b v → IsMember (Union c d) v
    there o p v (inl h) = let w = (o.same v).0 h in (w.0, inl w.1)
    there o p v (inr h) = let w = (p.same v).0 h in (w.0, inr w.1)

    back : IsSetWith (IsMember c) a → IsSetWith (IsMember d) b → (v : Val) → IsMember (Union c d) v → InUnion a b v
    back o p v h = elim h.1 [
      | inl g ↦ inl ((o.same v).1 (h.0, g))
      | inr g ↦ inr ((p.same v).1 (h.0, g))
    ]

pub inter_listed : (c d : Described) (a : Val) (r : Result Val OpFault) → Listing c (Ok a) → GivesSet (IsChosen a d true) r → Listing (Inter c d) r
inter_listed c d a r l q =
    let o = listed_is c a l in
    inr (
      a,
      l,
      gives_as (IsChosen a d true) (IsMember (Inter c d)) r (λ v. (
        λ h. let w = (o.same v).0 h.0 in (w.0, (w.1, h.1)),
        λ h. ((o.same v).1 (h.0, h.1.0), h.1.1),
      )) q,
    )

pub minus_listed : (c d : Described) (a : Val) (r : Result Val OpFault) → Listing c (Ok a) → GivesSet (IsChosen a d false) r → Listing (Minus c d) r
minus_listed c d a r l q =
    let o = listed_is c a l in
    inr (
      a,
      l,
      gives_as (IsChosen a d false) (IsMember (Minus c d)) r (λ v. (
        λ h. let w = (o.same v).0 h.0 in (w.0, (w.1, h.1)),
        λ h. ((o.same v).1 (h.0, h.1.0), h.1.1),
      )) q,
    )

-- the refusal of a part is that of the set
pub refused_first : (d : Described) (Q : Result Val OpFault → Type 0) (e : OpFault) → Listing d (Err e) → Before (Listing d) Q (Err e)
refused_first d Q e l = inl (e, l, refl)

pub union_refused : (c d : Described) (a : Val) (e : OpFault) → Listing c (Ok a) → Listing d (Err e) → Listing (Union c d) (Err e)
union_refused c d a e l m = inr (a, l, refused_first d (Collects (Union c d)) e m)

-- a set that is a value already
pub same_listed : (s v : Val) → IsValue s → IsSet s → v ≡ s → IsSetWith (IsMember (Listed s)) v
same_listed s v p h e = subst (λ (w : Val). IsSetWith (IsMember (Listed s)) w) (sym e) (record { valid = p; is_set = h; same = λ w. (λ g. ((member_inner s w p g).valid, g), λ g. g.1) })

booleans_are : (v : Val) → Contains (truth false ∷ truth true ∷ []) v ↔ IsMember Booleans v
booleans_are v = (there, back)
  where
    there : Contains (truth false ∷ truth true ∷ []) v → IsMember Booleans v
    there h = elim (cons_cases (truth false) (truth true ∷ []) v h) [
      | inl e ↦ (subst (λ (w : Val). IsValue w) e (record { canonical = tt; shallow = omega arith }), (false, sym e))
      | inr g ↦ elim (cons_cases (truth true) [] v g) [
        | inl e ↦ (subst (λ (w : Val). IsValue w) e (record { canonical = tt; shallow = omega arith }), (true, sym e))
        | inr k ↦ absurd (none_in v k)
      ]
    ]

    which : (b : Bool) → Contains (truth false ∷ truth true ∷ []) (truth b)
    which false = head_in (truth false) (truth true ∷ [])
    which true = tail_in (truth false) (truth true ∷ []) (truth true) (head_in (truth true) [])

    back : IsMember Booleans v → Contains (truth false ∷ truth true ∷ []) v
    back h = subst (λ (w : Val). Contains (truth false ∷ truth true ∷ []) w) (sym h.1.1) (which h.1.0)

pub booleans_listed : (xs : List Val) (r : Result Val OpFault) → xs ≡ truth false ∷ truth true ∷ [] → GivesSet (Contains xs) r → Collects Booleans r
booleans_listed xs r e q = gives_as (Contains xs) (IsMember Booleans) r (λ v. subst (λ (ys : List Val). Contains ys v ↔ IsMember Booleans v) (sym e) (booleans_are v)) q

pub interval_listed : (y z : ℤ) (r : Result Val OpFault) → FitsSigned w64 y → FitsSigned w64 z → GivesSet (InInterval y z) r → Collects (Interval y z) r
interval_listed y z r f g q = gives_as (InInterval y z) (IsMember (Interval y z)) r (λ v. (
  λ h. (subst (λ (w : Val). IsValue w) (sym h.1) (record { canonical = fits h.0 h.2 h.3; shallow = omega arith }), h),
  λ h. h.1,
)) q
  where
    fits : (n : ℤ) → y ≤ℤ n → n ≤ℤ z → FitsSigned w64 n
    fits n a b = omega (arith, ints, a, b, f, g)

pub lists_its_members : ListsItsMembers
lists_its_members d s l = by_end (is_finite d) l
  where
    by_end : (b : Bool) → MatchBool b (Listing d (Ok s)) (Ok s ≡ Err (Refused NotFinite 0)) → IsSetWith (IsMember d) s
    by_end true h = listed_is d s h
    by_end false e = cc

pub lists_as_one : ListsAsOne
lists_as_one d s t l m =
    let o = lists_its_members d s l in
    let p = lists_its_members d t m in
    same_members s t o.valid p.valid o.is_set p.is_set (λ v. (λ h. (p.same v).1 ((o.same v).0 h), λ h. (o.same v).1 ((p.same v).0 h)))
