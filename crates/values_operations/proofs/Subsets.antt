-- The subsets of a set: all of them, each once.
use Rattle.std.proofs.Common.{◌≡◌, ◌↔◌, ◌⊎◌, inl, inr, ℕ, zero, suc, ◌+◌, ◌*◌, ◌/◌, ◌%◌, ◌^◌, ◌<◌, ◌≤◌, nat_eq, List, [], ◌∷◌, ◌++◌, length, drop, get_or, Bool, true, false, Err, ap, sym, ◌∙◌, subst, refl, arith}
use Rattle.std.specs.List.{Contains}
use Rattle.std.specs.List.Sorted.{IsStrictlySortedBy}
use Rattle.std.proofs.Math.Nat.{two-pow-succ, mod-lt}
use Rattle.std.proofs.Math.Pow.{pow_mono}
use Rattle.std.proofs.lemmas.Map.Keys.{sorted_tail}
use Rattle.values_core.specs.Data.{Val, set, vals_of}
use Rattle.values_core.specs.Ascending.{cons_cases, head_in, tail_in, none_in, below}
use Rattle.values_core.specs.Order.{val_cmp}
use Rattle.values_core.specs.OrderLaws.{val_total}
use Rattle.values_core.specs.IsValue.{IsValue, AreCanonical}
use Rattle.values_core.specs.Sets.{IsSet, IsSetOf, MakesSet, items_of}
use Rattle.values_core.specs.SetLaws.{depth_all, members-vals_of, ordered, same_members}
use Rattle.values_core.specs.SetOperations.{AreDifferent, AreTooMany, InPowerset}
use Rattle.values_core.specs.FunctionOperations.{GivesValue}
use Rattle.values_core.specs.declared.value.ValueFault.{ValueFault}
use Rattle.values_core.specs.declared.value.ValueFault.TheVariants.{KeyTwice, TooLarge as LargeValue, TooDeep as DeepValue, NoMemory as NoRoom}
use Rattle.values_operations.specs.Among.{among}
use Rattle.values_operations.specs.Choices.{AreNumbered, IsInner}
use Rattle.values_core.specs.Refusals.{refusal_of}
use Rattle.values_operations.specs.Subsets.{AreMembers, IsSubsetOf, subset}
use Rattle.values_operations.specs.Walk.{when}
use Rattle.values_operations.proofs.Choosing.{quotient_below, digits_below, low_digit, high_digits, same_digits}
use Rattle.values_operations.proofs.Listing.{ascending_different, no_longer}
use Rattle.values_operations.proofs.Made.{member_inner, numbered_as, numbered_too_many, sorted_cons, sorted_none}
use Rattle.values_operations.proofs.Merging.{contains_has, has_contains}
use Rattle.values_operations.proofs.Taking.{few_items}
use Rattle.values_operations.proofs.Walking.{when_append, first_drop}

pub doubled : (n : ℕ) → 2 ^ suc n ≡ 2 * 2 ^ n
doubled n = omega (arith, two-pow-succ n)

when_cases : (b : Bool) (x : Val) (xs : List Val) (v : Val) → Contains (when b x xs) v → ((b ≡ true) × (x ≡ v)) ⊎ Contains xs v
when_cases true x xs v h = elim (cons_cases x xs v h) [
  | inl e ↦ inl (refl, e)
  | inr g ↦ inr g
]
when_cases false x xs v h = inr h

when_head : (b : Bool) (x : Val) (xs : List Val) → b ≡ true → Contains (when b x xs) x
when_head true x xs e = head_in x xs
when_head false x xs e = cc

when_tail : (b : Bool) (x : Val) (xs : List Val) (v : Val) → Contains xs v → Contains (when b x xs) v
when_tail true x xs v h = tail_in x xs v h
when_tail false x xs v h = h

pub subset_in : (xs : List Val) (n : ℕ) (v : Val) → Contains (subset xs n) v → Contains xs v
subset_in [] n v h = h
subset_in (x ∷ xs) n v h = elim (when_cases (nat_eq (n % 2) 1) x (subset xs (n / 2)) v h) [
  | inl e ↦ subst (λ (w : Val). Contains (x ∷ xs) w) e.1 (head_in x xs)
  | inr g ↦ tail_in x xs v (subset_in xs (n / 2) v g)
]

abbrev bit : Bool → ℕ
bit true = 1
bit false = 0

bit_small : (b : Bool) → bit b < 2
bit_small true = omega arith
bit_small false = omega arith

is_bit : (b : Bool) → nat_eq (bit b) 1 ≡ b
is_bit true = refl
is_bit false = refl

-- the number of the subset of those that pass
abbrev number : (Val → Bool) → List Val → ℕ
number passes [] = 0
number passes (x ∷ xs) = bit (passes x) + 2 * number passes xs

number_below : (passes : Val → Bool) (xs : List Val) → number passes xs < 2 ^ length xs
number_below passes [] = omega arith
number_below passes (x ∷ xs) =
    let d = digits_below 2 (2 ^ length xs) (bit (passes x)) (number passes xs) (bit_small (passes x)) (number_below passes xs) in
    omega (arith, d, doubled (length xs))

first_digit : (passes : Val → Bool) (x : Val) (xs : List Val) → nat_eq (number passes (x ∷ xs) % 2) 1 ≡ passes x
first_digit passes x xs = ap (λ d. nat_eq d 1) (low_digit 2 (bit (passes x)) (number passes xs) (bit_small (passes x))) ∙ is_bit (passes x)

other_digits : (passes : Val → Bool) (x : Val) (xs : List Val) → number passes (x ∷ xs) / 2 ≡ number passes xs
other_digits passes x xs = high_digits 2 (bit (passes x)) (number passes xs) (bit_small (passes x))

passed_in : (passes : Val → Bool) (xs : List Val) (v : Val) → Contains xs v → passes v ≡ true → Contains (subset xs (number passes xs)) v
passed_in passes [] v h e = h
passed_in passes (x ∷ xs) v h e = elim (cons_cases x xs v h) [
  | inl f ↦
      let yes : nat_eq (number passes (x ∷ xs) % 2) 1 ≡ true = first_digit passes x xs ∙ ap passes f ∙ e in
      subst (λ (w : Val). Contains (subset (x ∷ xs) (number passes (x ∷ xs))) w) f (when_head (nat_eq (number passes (x ∷ xs) % 2) 1) x (subset xs (number passes (x ∷ xs) / 2)) yes)
  | inr g ↦
      when_tail (nat_eq (number passes (x ∷ xs) % 2) 1) x (subset xs (number passes (x ∷ xs) / 2)) v
      (subst (λ n. Contains (subset xs n) v) (sym (other_digits passes x xs)) (passed_in passes xs v g e))
]

in_passed : (passes : Val → Bool) (xs : List Val) (v : Val) → Contains (subset xs (number passes xs)) v → passes v ≡ true
in_passed passes [] v h = absurd (none_in v h)
in_passed passes (x ∷ xs) v h = elim (when_cases (nat_eq (number passes (x ∷ xs) % 2) 1) x (subset xs (number passes (x ∷ xs) / 2)) v h) [
  | inl f ↦ ap passes (sym f.1) ∙ sym (first_digit passes x xs) ∙ f.0
  | inr g ↦ in_passed passes xs v (subst (λ n. Contains (subset xs n) v) (other_digits passes x xs) g)
]

bits_same : (i j : ℕ) → i < 2 → j < 2 → nat_eq i 1 ≡ nat_eq j 1 → i ≡ j
bits_same zero zero a b e = refl
bits_same zero (suc zero) a b e = cc
bits_same (suc zero) zero a b e = cc
bits_same (suc zero) (suc zero) a b e = refl
bits_same (suc (suc i)) j a b e = absurd (omega (arith, a))
bits_same zero (suc (suc j)) a b e = absurd (omega (arith, b))
bits_same (suc zero) (suc (suc j)) a b e = absurd (omega (arith, b))

-- two numbers have different subsets
pub subset_same : (xs : List Val) (m n : ℕ) → AreDifferent xs → m < 2 ^ length xs → n < 2 ^ length xs → ((v : Val) → Contains (subset xs m) v ↔ Contains (subset xs n) v) → m ≡ n
subset_same [] m n d a b f = omega (arith, a, b)
subset_same (x ∷ xs) m n d a b f =
    let a' : m < 2 * 2 ^ length xs = omega (arith, a, doubled (length xs)) in
    let b' : n < 2 * 2 ^ length xs = omega (arith, b, doubled (length xs)) in
    let rest : (v : Val) → Contains (subset xs (m / 2)) v ↔ Contains (subset xs (n / 2)) v =
    λ v. (onward m n (λ w. (f w).0) v, onward n m (λ w. (f w).1) v) in
    let high : m / 2 ≡ n / 2 = subset_same xs (m / 2) (n / 2) d.1 (quotient_below 2 (2 ^ length xs) m a') (quotient_below 2 (2 ^ length xs) n b') rest in
    let low : m % 2 ≡ n % 2 = bits_same (m % 2) (n % 2) (mod-lt m (omega arith)) (mod-lt n (omega arith)) (both (nat_eq (m % 2) 1) (nat_eq (n % 2) 1) (first m n (λ w. (f w).0)) (first n m (λ w. (f w).1))) in
    same_digits 2 m n low high
  where
    onward : (i j : ℕ) → ((v : Val) → Contains (subset (x ∷ xs) i) v → Contains (subset (x ∷ xs) j) v) → (v : Val) → Contains (subset xs (i / 2)) v → Contains (subset xs (j / 2)) v
    onward i j g v h = elim (when_cases (nat_eq (j % 2) 1) x (subset xs (j / 2)) v (g v (when_tail (nat_eq (i % 2) 1) x (subset xs (i / 2)) v h))) [
      | inl e ↦ absurd (d.0 (subst (λ (w : Val). Contains xs w) (sym e.1) (subset_in xs (i / 2) v h)))
      | inr k ↦ k
    ]

    first : (i j : ℕ) → ((v : Val) → Contains (subset (x ∷ xs) i) v → Contains (subset (x ∷ xs) j) v) → nat_eq (i % 2) 1 ≡ true → nat_eq (j % 2) 1 ≡ true
    first i j g e = elim (when_cases (nat_eq (j % 2) 1) x (subset xs (j / 2)) x (g x (when_head (nat_eq (i % 2) 1) x (subset xs (i / 2)) e))) [
      | inl k ↦ k.0
      | inr k ↦ absurd (d.0 (subset_in xs (j / 2) x k))
    ]

    both : (p q : Bool) → (p ≡ true → q ≡ true) → (q ≡ true → p ≡ true) → p ≡ q
    both true q g h = sym (g refl)
    both false true g h = h refl
    both false false g h = refl

-- the set of a subset
subset_ascending : (xs : List Val) (n : ℕ) → IsStrictlySortedBy val_cmp xs → IsStrictlySortedBy val_cmp (subset xs n)
subset_ascending [] n s = sorted_none val_cmp
subset_ascending (x ∷ xs) n s = either (nat_eq (n % 2) 1) (subset_ascending xs (n / 2) (sorted_tail val_cmp x xs s))
  where
    either : (b : Bool) → IsStrictlySortedBy val_cmp (subset xs (n / 2)) → IsStrictlySortedBy val_cmp (when b x (subset xs (n / 2)))
    either true t = sorted_cons val_cmp x (subset xs (n / 2)) (λ w h. below val_cmp val_total x xs w s (subset_in xs (n / 2) w h)) t
    either false t = t

subset_few : (xs : List Val) (n : ℕ) → length (subset xs n) ≤ length xs
subset_few [] n = omega arith
subset_few (x ∷ xs) n = either (nat_eq (n % 2) 1) (subset_few xs (n / 2))
  where
    either : (b : Bool) → length (subset xs (n / 2)) ≤ length xs → length (when b x (subset xs (n / 2))) ≤ suc (length xs)
    either true l = omega (arith, l)
    either false l = omega (arith, l)

all_canonical : (vs : List Val) → ((v : Val) → Contains vs v → IsInner v) → AreCanonical (vals_of vs)
all_canonical [] f = tt
all_canonical (v ∷ vs) f = ((f v (head_in v vs)).valid.canonical, all_canonical vs (λ w h. f w (tail_in v vs w h)))

pub subset_exists : (xs : List Val) (n : ℕ) → AreMembers xs → (s : Val) × IsSubsetOf xs n s
subset_exists xs n a =
    let back = members-vals_of (subset xs n) in
    let inner = λ (v : Val) (h : Contains (subset xs n) v). a.inner v (subset_in xs n v h) in (
      set (vals_of (subset xs n)),
      record {
        valid = record {
          canonical = (
            record {
              ascending = subst (λ (vs : List Val). IsStrictlySortedBy val_cmp vs) (sym back) (subset_ascending xs n a.ascending);
              few = omega (arith, a.few, subset_few xs n, ap (λ (vs : List Val). length vs) back);
            },
            all_canonical (subset xs n) inner,
          );
          shallow = omega (arith, depth_all (subset xs n) 31 (λ v h. (inner v h).shallow));
        };
        is_set = tt;
        same = λ v. subst (λ (vs : List Val). Contains vs v ↔ Contains (subset xs n) v) (sym back) (λ h. h, λ h. h);
      },
    )

pub set_members : (a : Val) → IsValue a → IsSet a → AreMembers (items_of a)
set_members a p h = record { ascending = (ordered a p h).ascending; few = few_items a p; inner = λ v g. member_inner a v p g }

pub subset_members : (xs : List Val) (n : ℕ) → AreMembers xs → AreMembers (subset xs n)
subset_members xs n a = record { ascending = subset_ascending xs n a.ascending; few = omega (arith, a.few, subset_few xs n); inner = λ v h. a.inner v (subset_in xs n v h) }

-- such a set is refused for want of memory alone
pub refuses_no_subset : (xs : List Val) (e : ValueFault) → AreMembers xs → MakesSet xs (Err e) → GivesValue (IsSetOf xs) (Err (refusal_of e))
refuses_no_subset xs KeyTwice a m = absurd m
refuses_no_subset xs LargeValue a m =
    let few = no_longer m.keys xs (ascending_different val_cmp val_total m.keys m.lists.ascending) (λ v h. (m.lists.same v).0 h) in
    absurd (omega (arith, few, m.large, a.few))
refuses_no_subset xs DeepValue a m =
    let low = depth_all m.keys 31 (λ v h. (a.inner v ((m.lists.same v).0 h)).shallow) in
    absurd (omega (arith, m.deep, low))
refuses_no_subset xs NoRoom a m = tt

same_subset : (xs : List Val) (j k : ℕ) (s : Val) → AreMembers xs → j < 2 ^ length xs → k < 2 ^ length xs → IsSubsetOf xs j s → IsSubsetOf xs k s → j ≡ k
same_subset xs j k s a h g m n = subset_same xs j k (ascending_different val_cmp val_total xs a.ascending) h g (λ v. (λ i. (n.same v).0 ((m.same v).1 i), λ i. (m.same v).0 ((n.same v).1 i)))

is_subset : (a : Val) (k : ℕ) (s : Val) → IsSubsetOf (items_of a) k s → InPowerset a s
is_subset a k s o = (o.valid, o.is_set, λ w h. subset_in (items_of a) k w ((o.same w).0 h))

pub numbered_subset : (a s : Val) → InPowerset a s → (k : ℕ) × (k < 2 ^ length (items_of a)) × IsSubsetOf (items_of a) k s
numbered_subset a s p =
    let passes = among (items_of s) in (
      number passes (items_of a),
      number_below passes (items_of a),
      record {
        valid = p.0;
        is_set = p.1;
        same = λ v. (
          λ h. passed_in passes (items_of a) v (p.2 v h) (contains_has (items_of s) v h),
          λ h. has_contains (items_of s) v (in_passed passes (items_of a) v h),
        );
      },
    )

pub one_subset : (xs : List Val) (k : ℕ) (s t : Val) → IsSubsetOf xs k s → IsSubsetOf xs k t → s ≡ t
one_subset xs k s t m n = same_members s t m.valid n.valid m.is_set n.is_set (λ v. (λ h. (n.same v).1 ((m.same v).0 h), λ h. (m.same v).1 ((n.same v).0 h)))

pub all_subsets : (a : Val) (vs : List Val) → AreNumbered (IsSubsetOf (items_of a)) (2 ^ length (items_of a)) vs → (s : Val) → Contains vs s ↔ InPowerset a s
all_subsets a vs l =
    numbered_as (InPowerset a) (IsSubsetOf (items_of a)) (2 ^ length (items_of a)) vs l (λ k s h q. is_subset a k s q) (numbered_subset a) (one_subset (items_of a))

pub too_many_subsets : (a : Val) → IsValue a → IsSet a → 16 < length (items_of a) → AreTooMany (InPowerset a)
too_many_subsets a p h many =
    let enough : 2 ^ 17 ≤ 2 ^ length (items_of a) = pow_mono many in
    let members = set_members a p h in
    numbered_too_many (InPowerset a) (IsSubsetOf (items_of a)) (2 ^ length (items_of a)) (omega (arith, enough))
    (λ k g. subset_exists (items_of a) k members)
    (λ j k s g i m n. same_subset (items_of a) j k s members g i m n)
    (λ k s g q. is_subset a k s q)

-- the loop over the members
pub subset_step : (out xs : List Val) (i n : ℕ) (x : Val) → i < length xs → x ≡ get_or xs i x → (out ++ when (nat_eq (n % 2) 1) x []) ++ subset (drop (i + 1) xs) (n / 2) ≡ out ++ subset (drop i xs) n
subset_step out xs i n x h e =
    when_append (nat_eq (n % 2) 1) x out (subset (drop (i + 1) xs) (n / 2)) ∙ ap (λ ys. out ++ subset ys n) (sym (first_drop xs i x h e))
