-- From a list of pairs to the function with those that meet a condition.
use Rattle.std.proofs.Common.{◌≡◌, ◌↔◌, ◌⊎◌, inl, inr, ℕ, suc, ◌≤◌, max, List, [], ◌∷◌, length, map, Bool, true, false, cond, Result, Ok, Err, ap, sym, ◌∙◌, subst, refl, arith}
use Rattle.std.specs.List.{Contains}
use Rattle.values_core.specs.Data.{Val, model, truth, integer, string, set, function, pairs_of, pairs_depth, depth}
use Rattle.values_core.specs.Ascending.{cons_cases, head_in, tail_in, none_in}
use Rattle.values_core.specs.Order.{val_eq}
use Rattle.values_core.specs.OrderLaws.{val_same, val_eq_equiv}
use Rattle.values_core.specs.Functions.{IsFunction, IsFunctionOf, HasKeyTwice, MakesFunction, pairs_in, keys_in, InDomain}
use Rattle.values_core.specs.FunctionLaws.{key_count, count_cons, ascending_once, keys_ascending, key_in, in_keys, pairs_ordered}
use Rattle.values_core.specs.IsValue.{IsValue}
use Rattle.values_core.specs.FunctionOperations.{GivesFunction, OnFunction, OnFunctions, InExcept}
use Rattle.std.specs.Option.{option_map, is_some}
use Rattle.std.specs.Prelude.{Option, Some, None}
use Rattle.values_core.specs.Functions.{Applies}
use Rattle.values_core.specs.declared.value.ValueFault.{ValueFault}
use Rattle.values_core.specs.declared.value.ValueFault.TheVariants.{KeyTwice, TooLarge as LargeValue, TooDeep as DeepValue, NoMemory as NoRoom}
use Rattle.values_core.specs.declared.fault.EvalKind.TheVariants.{NotBoolean, NotInteger, NotSet, NotFunction, NotSequence, OutsideDomain, Overflow, BadDivisor, BadPower, NoChoice, NoCase, EmptySequence, BadRange, TooLarge, TooDeep, Nested, NotFinite}
use Rattle.values_core.specs.declared.fault.OpFault.{OpFault}
use Rattle.values_core.specs.declared.fault.OpFault.TheVariants.{Refused, NoMemory}
use Rattle.values_core.specs.Refusals.{refusal_of}
use Rattle.values_operations.specs.Among.{among}
use Rattle.values_operations.specs.Changes.{replaced}
use Rattle.values_operations.proofs.Merging.{contains_has, has_contains}
use Rattle.std.specs.List.{remove}
use Rattle.std.proofs.lemmas.List.Sorted.{IsPermutation-remove, Contains-permutation, length_permutation}
use Rattle.std.specs.List.Sorted.{IsPermutation}

-- a pair in a list as deep as the list
deepest_pair : (ps : List (Val × Val)) (n : ℕ) → suc n ≤ pairs_depth (pairs_of ps) → (p : Val × Val) × Contains ps p × (suc n ≤ max (depth p.0) (depth p.1))
deepest_pair [] n h = absurd (omega arith)
deepest_pair (p ∷ ps) n h = elim (either (max (depth p.0) (depth p.1)) (pairs_depth (pairs_of ps)) n h) [
  | inl l ↦ (p, head_in p ps, l)
  | inr l ↦ let w = deepest_pair ps n l in (w.0, tail_in p ps w.0 w.1, w.2)
]
  where
    either : (a b n : ℕ) → suc n ≤ max a b → (suc n ≤ a) ⊎ (suc n ≤ b)
    either a b n h = grind arith

yes_one : (b : Bool) → b ≡ true → 1 ≤ cond b 1 0
yes_one true e = omega arith
yes_one false e = cc

no_one : (b : Bool) → (b ≡ true → ⊥) → cond b 1 0 ≤ 0
no_one true f = absurd (f refl)
no_one false f = omega arith

-- a pair counts for its key
counts : (ps : List (Val × Val)) (p : Val × Val) (key : Val) → Contains ps p → p.0 ≡ key → 1 ≤ key_count key ps
counts [] p key h e = absurd (none_in p h)
counts (q ∷ qs) p key h e = elim (cons_cases q qs p h) [
  | inl f ↦
      let same : val_eq q.0 key ≡ true = subst (λ (k : Val). val_eq q.0 k ≡ true) (ap (λ (w : Val × Val). w.0) f ∙ e) (val_eq_equiv.refl q.0) in
      omega (arith, count_cons key q qs, yes_one (val_eq q.0 key) same)
  | inr g ↦ omega (arith, count_cons key q qs, counts qs p key g e)
]

-- a key that counts is that of a pair
counted_in : (ps : List (Val × Val)) (key : Val) → 1 ≤ key_count key ps → Contains (map (λ p. p.0) ps) key
counted_in [] key h = absurd (omega (arith, h))
counted_in (q ∷ qs) key h = either (counted_in qs key) (val_eq q.0 key) refl
  where
    either : (1 ≤ key_count key qs → Contains (map (λ (p : Val × Val). p.0) qs) key) → (b : Bool) → val_eq q.0 key ≡ b → Contains (q.0 ∷ map (λ (p : Val × Val). p.0) qs) key
    either ih true e = subst (λ (k : Val). Contains (q.0 ∷ map (λ (p : Val × Val). p.0) qs) k) (val_same q.0 key e) (head_in q.0 (map (λ (p : Val × Val). p.0) qs))
    either ih false e = tail_in q.0 (map (λ (p : Val × Val). p.0) qs) key (ih (omega (arith, h, count_cons key q qs, no_one (val_eq q.0 key) (λ f. let g : true ≡ false = sym f ∙ e in cc))))

-- of pairs with no key twice, those among others are no more than these
no_more : (us vs : List (Val × Val)) → ¬ HasKeyTwice us → ((w : Val × Val) → Contains us w → Contains vs w) → length us ≤ length vs
no_more [] vs n f = omega arith
no_more (u ∷ us) vs n f =
    let here = f u (head_in u us) in
    let there : IsPermutation vs (u ∷ remove vs here.0) = IsPermutation-remove vs here.0 u here.1 (sym here.2) in
    let rest = no_more us (remove vs here.0) (λ t. n (record { key = t.key; twice = omega (arith, t.twice, count_cons t.key u us) })) (λ w h.
    elim (cons_cases u (remove vs here.0) w (Contains-permutation vs (u ∷ remove vs here.0) w there (f w (tail_in u us w h)))) [
      | inl e ↦ absurd (n (record { key = u.0; twice = omega (arith, count_cons u.0 u us, yes_one (val_eq u.0 u.0) (val_eq_equiv.refl u.0), counts us w u.0 h (ap (λ (z : Val × Val). z.0) (sym e))) }))
      | inr g ↦ g
    ]) in
    omega (arith, rest, length_permutation vs (u ∷ remove vs here.0) there)

pub gives_function : (xs : List (Val × Val)) (r : Result Val ValueFault) (f : Val) → r ≡ Ok f → MakesFunction xs r → GivesFunction (λ key v. Contains xs (key, v)) (Ok f)
gives_function xs r f e m = let o : (¬ HasKeyTwice xs) × IsFunctionOf xs f = subst (MakesFunction xs) e m in record { valid = o.1.valid; is_function = o.1.is_function; same = o.1.same }

pub refuses_function : (xs : List (Val × Val)) (f : ValueFault) → ¬ HasKeyTwice xs → MakesFunction xs (Err f) → GivesFunction (λ key v. Contains xs (key, v)) (Err (refusal_of f))
refuses_function xs KeyTwice n m = absurd (n m)
refuses_function xs LargeValue n m = (refl, record { some = xs; once = n; each = λ key v h. h; many = m.1 })
refuses_function xs DeepValue n m =
    let deep = deepest_pair xs 31 (omega (arith, m.2)) in (
      refl,
      λ a. omega (arith, m.1, a.many, no_more a.some xs a.once (λ w h. a.each w.0 w.1 h)),
      record { key = deep.0.0; value = deep.0.1; meets = deep.1; deep = deep.2 },
    )
refuses_function xs NoRoom n m = tt

-- the same function under another name of its condition
pub function_as : (P Q : Val → Val → Type 0) (r : Result Val OpFault) → ((key v : Val) → P key v ↔ Q key v) → GivesFunction P r → GivesFunction Q r
function_as P Q (Ok f) same g = record { valid = g.valid; is_function = g.is_function; same = λ k v. (λ h. (same k v).0 ((g.same k v).0 h), λ h. (g.same k v).1 ((same k v).1 h)) }
function_as P Q (Err NoMemory) same g = tt
function_as P Q (Err (Refused TooLarge n)) same g = (g.0, record { some = g.1.some; once = g.1.once; each = λ k v h. (same k v).0 (g.1.each k v h); many = g.1.many })
function_as P Q (Err (Refused TooDeep n)) same g = (
  g.0,
  λ a. g.1 (record { some = a.some; once = a.once; each = λ k v h. (same k v).1 (a.each k v h); many = a.many }),
  record { key = g.2.key; value = g.2.value; meets = (same g.2.key g.2.value).0 g.2.meets; deep = g.2.deep },
)
function_as P Q (Err (Refused NotBoolean n)) same g = absurd g
function_as P Q (Err (Refused NotInteger n)) same g = absurd g
function_as P Q (Err (Refused NotSet n)) same g = absurd g
function_as P Q (Err (Refused NotFunction n)) same g = absurd g
function_as P Q (Err (Refused NotSequence n)) same g = absurd g
function_as P Q (Err (Refused OutsideDomain n)) same g = absurd g
function_as P Q (Err (Refused Overflow n)) same g = absurd g
function_as P Q (Err (Refused BadDivisor n)) same g = absurd g
function_as P Q (Err (Refused BadPower n)) same g = absurd g
function_as P Q (Err (Refused NoChoice n)) same g = absurd g
function_as P Q (Err (Refused NoCase n)) same g = absurd g
function_as P Q (Err (Refused EmptySequence n)) same g = absurd g
function_as P Q (Err (Refused BadRange n)) same g = absurd g
function_as P Q (Err (Refused Nested n)) same g = absurd g
function_as P Q (Err (Refused NotFinite n)) same g = absurd g

-- the operands are functions
pub on_function : (f : Val) (Q : Result Val OpFault → Type 0) (r : Result Val OpFault) → IsFunction f → Q r → OnFunction f Q r
on_function (function ps) Q r h q = q
on_function (model s) Q r h q = absurd h
on_function (truth s) Q r h q = absurd h
on_function (integer s) Q r h q = absurd h
on_function (string s) Q r h q = absurd h
on_function (set s) Q r h q = absurd h

pub on_functions : (f g : Val) (Q : Result Val OpFault → Type 0) (r : Result Val OpFault) → IsFunction f → IsFunction g → Q r → OnFunctions f g Q r
on_functions (function ps) (function qs) Q r h k q = q
on_functions (model s) g Q r h k q = absurd h
on_functions (truth s) g Q r h k q = absurd h
on_functions (integer s) g Q r h k q = absurd h
on_functions (string s) g Q r h k q = absurd h
on_functions (set s) g Q r h k q = absurd h
on_functions (function ps) (model s) Q r h k q = absurd k
on_functions (function ps) (truth s) Q r h k q = absurd k
on_functions (function ps) (integer s) Q r h k q = absurd k
on_functions (function ps) (string s) Q r h k q = absurd k
on_functions (function ps) (set s) Q r h k q = absurd k

-- one pair
pub one_once : (p : Val × Val) → ¬ HasKeyTwice (p ∷ [])
one_once p t = omega (arith, t.twice, count_cons t.key p [], most (val_eq p.0 t.key))
  where
    most : (b : Bool) → cond b 1 0 ≤ 1
    most true = omega arith
    most false = omega arith

pub in_one : (k w key v : Val) → Contains {X = Val × Val} ((k, w) ∷ []) (key, v) ↔ ((key ≡ k) × (v ≡ w))
in_one k w key v = (
  λ h. elim (cons_cases {X = Val × Val} (k, w) [] (key, v) h) [
    | inl e ↦ (ap (λ (z : Val × Val). z.0) (sym e), ap (λ (z : Val × Val). z.1) (sym e))
    | inr g ↦ absurd (none_in {X = Val × Val} (key, v) g)
  ],
  λ h. let e : ◌≡◌ {A = Val × Val} (k, w) (key, v) = λ i. (sym h.0 i, sym h.1 i) in subst (λ (z : Val × Val). Contains {X = Val × Val} ((k, w) ∷ []) z) e (head_in {X = Val × Val} (k, w) []),
)

-- whether a value is in a list
pub among_cases : (ks : List Val) (v : Val) → Contains ks v ⊎ (¬ Contains ks v)
among_cases ks v = either (among ks v) refl
  where
    either : (b : Bool) → among ks v ≡ b → Contains ks v ⊎ (¬ Contains ks v)
    either true e = inl (has_contains ks v e)
    either false e = inr (λ h. let f : true ≡ false = sym (contains_has ks v h) ∙ e in cc)

-- pairs of which one is replaced
map_in : (h : Val × Val → Val × Val) (ps : List (Val × Val)) (p : Val × Val) → Contains ps p → Contains (map h ps) (h p)
map_in h [] p g = absurd (none_in p g)
map_in h (q ∷ qs) p g = elim (cons_cases q qs p g) [
  | inl e ↦ subst (λ (w : Val × Val). Contains (h q ∷ map h qs) (h w)) e (head_in (h q) (map h qs))
  | inr f ↦ tail_in (h q) (map h qs) (h p) (map_in h qs p f)
]

in_map : (h : Val × Val → Val × Val) (ps : List (Val × Val)) (r : Val × Val) → Contains (map h ps) r → (p : Val × Val) × Contains ps p × (h p ≡ r)
in_map h [] r g = absurd (none_in r g)
in_map h (q ∷ qs) r g = elim (cons_cases (h q) (map h qs) r g) [
  | inl e ↦ (q, head_in q qs, e)
  | inr f ↦ let w = in_map h qs r f in (w.0, tail_in q qs w.0 w.1, w.2)
]

same_keys : (key new : Val) (ps : List (Val × Val)) → map (λ p. p.0) (map (replaced key new) ps) ≡ map (λ p. p.0) ps
same_keys key new [] = refl
same_keys key new (p ∷ ps) = ap (λ ks. p.0 ∷ ks) (same_keys key new ps)

pub except_once : (f key new : Val) → IsValue f → ¬ HasKeyTwice (map (replaced key new) (pairs_in f))
except_once f key new p =
    ascending_once (map (replaced key new) (pairs_in f)) (rw same_keys (keys_ascending (pairs_in f) (pairs_ordered f p)))

replaced_yes : (key new : Val) (p : Val × Val) → p.0 ≡ key → replaced key new p ≡ (key, new)
replaced_yes key new p e =
    let y : val_eq p.0 key ≡ true = subst (λ (k : Val). val_eq p.0 k ≡ true) e (val_eq_equiv.refl p.0) in
    λ i. (e i, pick (val_eq p.0 key) y i)
  where
    pick : (b : Bool) → b ≡ true → cond b new p.1 ≡ new
    pick true h = refl
    pick false h = cc

replaced_no : (key new : Val) (p : Val × Val) → ¬ (p.0 ≡ key) → replaced key new p ≡ p
replaced_no key new p n = λ i. (p.0, pick (val_eq p.0 key) refl i)
  where
    pick : (b : Bool) → val_eq p.0 key ≡ b → cond b new p.1 ≡ p.1
    pick true h = absurd (n (val_same p.0 key h))
    pick false h = refl

key_cases : (k key : Val) → (k ≡ key) ⊎ (¬ (k ≡ key))
key_cases k key = either (val_eq k key) refl
  where
    either : (b : Bool) → val_eq k key ≡ b → (k ≡ key) ⊎ (¬ (k ≡ key))
    either true e = inl (val_same k key e)
    either false e = inr (λ f. let g : true ≡ false = sym (subst (λ (w : Val). val_eq k w ≡ true) f (val_eq_equiv.refl k)) ∙ e in cc)

pub in_except : (f key new k v : Val) → InDomain key f → Contains (map (replaced key new) (pairs_in f)) (k, v) ↔ InExcept f key new k v
in_except f key new k v d = (there, back)
  where
    there : Contains (map (replaced key new) (pairs_in f)) (k, v) → InExcept f key new k v
    there h =
        let w = in_map (replaced key new) (pairs_in f) (k, v) h in
        elim (key_cases w.0.0 key) [
          | inl e ↦
              let r : ◌≡◌ {A = Val × Val} (key, new) (k, v) = sym (replaced_yes key new w.0 e) ∙ w.2 in
              inl (ap (λ (z : Val × Val). z.0) (sym r), ap (λ (z : Val × Val). z.1) (sym r))
          | inr n ↦
              let r : w.0 ≡ (k, v) = sym (replaced_no key new w.0 n) ∙ w.2 in
              inr (subst (λ (z : Val × Val). ¬ (z.0 ≡ key)) r n, subst (λ (z : Val × Val). Contains (pairs_in f) z) r w.1)
        ]

    back : InExcept f key new k v → Contains (map (replaced key new) (pairs_in f)) (k, v)
    back (inl h) =
        let w = key_in (pairs_in f) key d in
        let r : replaced key new (key, w.0) ≡ (k, v) = replaced_yes key new (key, w.0) refl ∙ (λ i. (sym h.0 i, sym h.1 i)) in
        subst (λ (z : Val × Val). Contains (map (replaced key new) (pairs_in f)) z) r (map_in (replaced key new) (pairs_in f) (key, w.0) w.1)
    back (inr h) =
        subst (λ (z : Val × Val). Contains (map (replaced key new) (pairs_in f)) z) (replaced_no key new (k, v) h.0) (map_in (replaced key new) (pairs_in f) (k, v) h.1)

pub among_not : (ks : List Val) (v : Val) → ¬ Contains ks v → among ks v ≡ false
among_not ks v n = either (among ks v) refl
  where
    either : (b : Bool) → among ks v ≡ b → b ≡ false
    either true e = absurd (n (has_contains ks v e))
    either false e = refl

pub among_yes : (ks : List Val) (v : Val) → Contains ks v → among ks v ≡ true
among_yes ks v h = contains_has ks v h

-- applying gives a value just where the key is in the domain
pub applies_among : {X : Type 0} (h : X → Val) (o : Option X) (f key : Val) → Applies f key (option_map h o) → is_some o ≡ among (keys_in f) key
applies_among h None f key n = sym (among_not (keys_in f) key n)
applies_among h (Some x) f key p = sym (among_yes (keys_in f) key (in_keys (pairs_in f) (key, h x) p))
