-- That the operators have an answer where all their operands are values.
use Rattle.std.proofs.Common.{◌≡◌, ◌⊎◌, inl, inr, refl, ap, sym, subst, arith, ℕ, zero, suc, ◌+◌, ◌<◌, ◌≤◌, List, [], ◌∷◌, ◌++◌, map, length, take, drop, take-append-drop}
use Rattle.std.specs.Prelude.{Bool, true, false, ℤ, pos, negsuc, neg_ℤ, ◌+ℤ◌, ◌-ℤ◌, ◌*ℤ◌, ◌≤ℤ◌, ◌<ℤ◌, int_lt, int_le, if◌then◌else◌, Result, Ok, Err, Contains, Option, Some, None}
use Rattle.std.specs.Int.{int_div_euclid, int_rem_euclid, int_pow}
use Rattle.std.specs.List.{AllByRecursion}
use Rattle.std.proofs.lemmas.Int.{ints}
use Rattle.std.proofs.lemmas.List.Elements.{Contains-append_left, Contains-append_right, Contains-append_cases}
use Rattle.values_core.specs.Data.{Val, model, truth, integer, string, set, function, int_of}
use Rattle.values_core.specs.IsValue.{IsValue}
use Rattle.values_core.specs.Ascending.{cons_cases, head_in, tail_in, none_in}
use Rattle.values_core.specs.Sets.{IsSet, Member, items_of}
use Rattle.values_core.specs.Functions.{InDomain, HasPair, OfValues, keys_in, pairs_in, values_in}
use Rattle.values_core.specs.FunctionLaws.{key_in}
use Rattle.values_core.specs.Integers.{the_term, fitted, on_ints, int_operands, is_i64, power, sum_of, difference_of, product_of, negation_of, quotient_of, remainder_of, power_of, is_less, is_at_most}
use Rattle.values_core.specs.SetOperations.{GivesSet, InUnion, InIntersection, InDifference, InBigUnion, UnitesMembers, cardinality_of}
use Rattle.values_core.specs.FunctionOperations.{GivesFunction, GivesValue, GivesSequence, GivesFirst, GivesRest, GivesPart, GivesPartBetween, InMerge, InExcept, OnSequence, AppliesAt, Excepts}
use Rattle.values_core.specs.declared.fault.EvalKind.TheVariants.{NotSet, NotInteger, OutsideDomain, BadDivisor, Overflow, EmptySequence, BadRange}
use Rattle.values_core.specs.declared.fault.OpFault.{OpFault}
use Rattle.values_core.specs.declared.fault.OpFault.TheVariants.{Refused, NoMemory}
use Rattle.values_core.proofs.MakingLaws.{pairs_are_values}
use Rattle.reading_trees.specs.declared.operators.PrefixOperator.{PrefixOperator}
use Rattle.reading_trees.specs.declared.operators.PrefixOperator.TheVariants as prefix
use Rattle.reading_trees.specs.declared.operators.InfixOperator.{InfixOperator}
use Rattle.reading_trees.specs.declared.operators.InfixOperator.TheVariants as infix_operator
use Rattle.names_terms.specs.declared.standard.StandardOperator.{StandardOperator}
use Rattle.names_terms.specs.declared.standard.StandardOperator.TheVariants as standard
use Rattle.values_operations.specs.Changes.{outside, replaced}
use Rattle.values_operations.specs.Listed.{members_of_all}
use Rattle.values_operations.proofs.Intervals.{in_all}
use Rattle.values_operations.proofs.Made.{member_inner}
use Rattle.values_operations.proofs.OtherKeys.{in_merge, merge_once}
use Rattle.values_operations.proofs.Pairs.{among_cases, except_once, in_except, in_one, one_once}
use Rattle.values_set_bounds.proofs.Decided.{Decided}
use Rattle.eval_meanings.specs.Answers.{arity, is_operation, is_operation_on_one}
use Rattle.eval_meanings.specs.Operations.{IsWhether, IsFinite, tested, is_greater, is_at_least, InfixAnswers, PrefixAnswers, StandardAnswers}
use Rattle.eval_some_outcome_laws.proofs.Answered.{Answered, all_or_one, answered_as, answered_same, equal_or, function_answered_as, not_or, on_function_answered, on_functions_answered, on_sequence_answered, on_set_answered, on_sets_answered, sequence_answered, set_answered_as, set_or}
use Rattle.eval_some_outcome_laws.proofs.Listed.{some_answered, union_answered}

pub no : false ≡ true → ⊥
no e = cc

-- truth values

whether_answered : (P : Type 0) → Decided P → Answered (IsWhether P)
whether_answered P (inl p) = inl (truth true, (true, (λ t. p, λ q. refl), refl))
whether_answered P (inr n) = inl (truth false, (false, (λ t. absurd (no t), λ p. absurd (n p)), refl))

-- integers: what is computed is never want of memory

abbrev IsTold : {A : Type 0} → Result A OpFault → Type 0
IsTold r = ¬ (r ≡ Err NoMemory)

told_ok : {A : Type 0} (v : A) → IsTold (Ok v)
told_ok v e = cc

told_tested : (t : Result Bool OpFault) → IsTold t → IsTold (tested t)
told_tested (Ok b) n e = cc
told_tested (Err f) n e = let d : f ≡ NoMemory = cc in n (ap (λ g. Err g) d)

told_if : (b : Bool) (v : Val) (k : OpFault) → IsTold {A = Val} (Err k) → IsTold (if b then Ok v else Err k)
told_if true v k n e = cc
told_if false v k n e = n e

told_fitted : (z : ℤ) → IsTold (fitted z)
told_fitted z = told_if (is_i64 z) (integer z) (Refused Overflow the_term) (λ e. cc)

told_ints : {A : Type 0} (f : ℤ → ℤ → Result A OpFault) → ((y z : ℤ) → IsTold (f y z)) → (a b : Val) → IsTold (on_ints f (int_operands a b))
told_ints f g (integer y) (integer z) e = g y z e
told_ints f g (integer y) (model s) e = cc
told_ints f g (integer y) (truth s) e = cc
told_ints f g (integer y) (string s) e = cc
told_ints f g (integer y) (set s) e = cc
told_ints f g (integer y) (function s) e = cc
told_ints f g (model s) b e = cc
told_ints f g (truth s) b e = cc
told_ints f g (string s) b e = cc
told_ints f g (set s) b e = cc
told_ints f g (function s) b e = cc

told_power : (y z : ℤ) → IsTold (power y z)
told_power y (negsuc n) e = cc
told_power (pos zero) (pos zero) e = cc
told_power (pos zero) (pos (suc n)) e = told_fitted (int_pow (pos zero) (suc n)) e
told_power (pos (suc m)) (pos n) e = told_fitted (int_pow (pos (suc m)) n) e
told_power (negsuc m) (pos n) e = told_fitted (int_pow (negsuc m) n) e

told_negation : (a : Val) → IsTold (negation_of a)
told_negation (integer z) e = told_fitted (neg_ℤ z) e
told_negation (model s) e = cc
told_negation (truth s) e = cc
told_negation (string s) e = cc
told_negation (set s) e = cc
told_negation (function s) e = cc

told_cardinality : (a : Val) → IsTold (cardinality_of a)
told_cardinality (set vs) e = cc
told_cardinality (model s) e = cc
told_cardinality (truth s) e = cc
told_cardinality (integer s) e = cc
told_cardinality (string s) e = cc
told_cardinality (function s) e = cc

tested_answered : (t : Result Bool OpFault) → IsTold t → Answered (λ (r : Result Val OpFault). r ≡ tested t)
tested_answered t n = answered_same (tested t) (told_tested t n)

-- sets

intersection_answered : (a b : Val) → IsValue a → IsSet a → Answered (GivesSet (InIntersection a b))
intersection_answered a b p h = some_answered (λ v. Member v b) a p h (among_cases (items_of b))

difference_answered : (a b : Val) → IsValue a → IsSet a → Answered (GivesSet (InDifference a b))
difference_answered a b p h = some_answered (λ v. ¬ Member v b) a p h (λ v. not_or (among_cases (items_of b) v))

big_union_answered : (a : Val) → IsValue a → Answered (UnitesMembers a)
big_union_answered a p =
    on_set_answered a (λ o. (((v : Val) → Member v a → IsSet v) × GivesSet (InBigUnion a) o) ⊎ (((v : Val) × Member v a × ¬ IsSet v) × (o ≡ Err (Refused NotSet 0)))) (λ h.
    elim (all_or_one IsSet (items_of a) set_or) [
      | inl all ↦
          answered_as (GivesSet (InBigUnion a)) (λ o. (((v : Val) → Member v a → IsSet v) × GivesSet (InBigUnion a) o) ⊎ (((v : Val) × Member v a × ¬ IsSet v) × (o ≡ Err (Refused NotSet 0))))
          (λ o g. inl (all, g))
          (set_answered_as (members_of_all (items_of a)) (InBigUnion a) (in_all (items_of a)) (λ v g. (member_inner g.0 v (member_inner a g.0 p g.1).valid g.2).valid))
      | inr one ↦ inr (NotSet, 0, inr (one, refl))
    ])

-- functions

pub pairs_valid : (f : Val) → IsValue f → OfValues (pairs_in f)
pairs_valid f p key v h = pairs_are_values f key v p h

merge_answered : (f g : Val) → IsValue f → IsValue g → Answered (GivesFunction (InMerge f g))
merge_answered f g p q = function_answered_as (pairs_in f ++ outside (keys_in f) (pairs_in g)) (InMerge f g) (in_merge f g) valid (merge_once f g p q)
  where
    of_merge : (key v : Val) → InMerge f g key v → IsValue key × IsValue v
    of_merge key v (inl h) = pairs_are_values f key v p h
    of_merge key v (inr h) = pairs_are_values g key v q h.1

    valid : OfValues (pairs_in f ++ outside (keys_in f) (pairs_in g))
    valid key v h = of_merge key v ((in_merge f g key v).0 h)

single_answered : (a b : Val) → IsValue a → IsValue b → Answered (GivesFunction (λ k w. (k ≡ a) × (w ≡ b)))
single_answered a b p q = function_answered_as ((a, b) ∷ []) (λ k w. (k ≡ a) × (w ≡ b)) (in_one a b) valid (one_once (a, b))
  where
    valid : OfValues ((a, b) ∷ [])
    valid key v h = let w = (in_one a b key v).0 h in (subst (λ (z : Val). IsValue z) (sym w.0) p, subst (λ (z : Val). IsValue z) (sym w.1) q)

domain_answered : (f : Val) → IsValue f → Answered (GivesSet (λ key. InDomain key f))
domain_answered f p = set_answered_as (keys_in f) (λ key. InDomain key f) (λ key. (λ h. h, λ h. h)) (λ key h. let w = key_in (pairs_in f) key h in (pairs_are_values f key w.0 p w.1).0)

pub applies_answered : (f key : Val) → Answered (AppliesAt f key)
applies_answered f key = on_function_answered f (λ o. (InDomain key f × GivesValue (HasPair f key) o) ⊎ (¬ InDomain key f × (o ≡ Err (Refused OutsideDomain the_term)))) (λ h.
    elim (among_cases (keys_in f) key) [
      | inl there ↦ let w = key_in (pairs_in f) key there in inl (w.0, inl (there, w.1))
      | inr missing ↦ inr (OutsideDomain, the_term, inr (missing, refl))
    ])

except_answered : (f key new : Val) → IsValue f → IsValue new → InDomain key f → Answered (GivesFunction (InExcept f key new))
except_answered f key new p q there = function_answered_as (map (replaced key new) (pairs_in f)) (InExcept f key new) (λ k v. in_except f key new k v there) valid (except_once f key new p)
  where
    of_except : (k v : Val) → InExcept f key new k v → IsValue k × IsValue v
    of_except k v (inl h) =
        let w = key_in (pairs_in f) key there in
        (subst (λ (z : Val). IsValue z) (sym h.0) (pairs_are_values f key w.0 p w.1).0, subst (λ (z : Val). IsValue z) (sym h.1) q)
    of_except k v (inr h) = pairs_are_values f k v p h.1

    valid : OfValues (map (replaced key new) (pairs_in f))
    valid k v h = of_except k v ((in_except f key new k v there).0 h)

pub excepts_answered : (f key new : Val) → IsValue f → IsValue new → Answered (Excepts f key new)
excepts_answered f key new p q = on_function_answered f (λ o. (InDomain key f × GivesFunction (InExcept f key new) o) ⊎ (¬ InDomain key f × GivesValue (λ h. h ≡ f) o)) (λ h.
    elim (among_cases (keys_in f) key) [
      | inl there ↦
          answered_as (GivesFunction (InExcept f key new)) (λ o. (InDomain key f × GivesFunction (InExcept f key new) o) ⊎ (¬ InDomain key f × GivesValue (λ h. h ≡ f) o)) (λ o g. inl (there, g))
          (except_answered f key new p q there)
      | inr missing ↦ inl (f, inr (missing, refl))
    ])

-- sequences

has_value : (ps : List (Val × Val)) (v : Val) → Contains (map (λ p. p.1) ps) v → (key : Val) × Contains ps (key, v)
has_value [] v h = absurd (none_in v h)
has_value (p ∷ ps) v h = elim (cons_cases p.1 (map (λ r. r.1) ps) v h) [
  | inl e ↦ (p.0, subst (λ (w : Val). Contains (p ∷ ps) (p.0, w)) e (head_in p ps))
  | inr g ↦ let found = has_value ps v g in (found.0, tail_in p ps (found.0, v) found.1)
]

pub item_value : (f v : Val) → IsValue f → Contains (values_in f) v → IsValue v
item_value f v p h = let found = has_value (pairs_in f) v h in (pairs_are_values f found.0 v p found.1).1

first_answered : (vs : List Val) → Answered (GivesFirst vs)
first_answered [] = inr (EmptySequence, the_term, refl)
first_answered (v ∷ vs) = inl (v, refl)

rest_answered : (vs : List Val) → ((v : Val) → Contains vs v → IsValue v) → Answered (GivesRest vs)
rest_answered [] f = inr (EmptySequence, the_term, refl)
rest_answered (v ∷ vs) f = sequence_answered vs (λ w h. f w (tail_in v vs w h))

-- some of the values behind one another
part_in : (from to : ℕ) (vs : List Val) (v : Val) → Contains (drop from (take to vs)) v → Contains vs v
part_in from to vs v h =
    let taken : Contains (take to vs) v = subst (λ (xs : List Val). Contains xs v) (take-append-drop from (take to vs)) (Contains-append_right (take from (take to vs)) (drop from (take to vs)) v h) in
    subst (λ (xs : List Val). Contains xs v) (take-append-drop to vs) (Contains-append_left (take to vs) (drop to vs) v taken)

-- where the bounds of a part lie
abbrev PartCases : ℕ → ℤ → ℤ → Type 0
PartCases long m n =
    (n <ℤ m) ⊎ (((from to : ℕ) × (m ≡ pos (from + 1)) × (n ≡ pos to) × (from < to) × (to ≤ long)) ⊎ ((m ≤ℤ n) × ((m <ℤ pos 1) ⊎ (pos long <ℤ n))))

part_cases : (long : ℕ) (m n : ℤ) → PartCases long m n
part_cases long (negsuc m) n = elim (in_order (negsuc m) n) [
  | inl h ↦ inr (inr (h, inl (omega (arith, ints))))
  | inr h ↦ inl h
]
  where
    in_order : (y z : ℤ) → (y ≤ℤ z) ⊎ (z <ℤ y)
    in_order y z = grind (arith, ints)
part_cases long (pos zero) n = elim (in_order (pos zero) n) [
  | inl h ↦ inr (inr (h, inl (omega (arith, ints))))
  | inr h ↦ inl h
]
  where
    in_order : (y z : ℤ) → (y ≤ℤ z) ⊎ (z <ℤ y)
    in_order y z = grind (arith, ints)
part_cases long (pos (suc m)) (negsuc n) = inl (omega (arith, ints))
part_cases long (pos (suc m)) (pos n) = elim (before m n) [
  | inl h ↦ elim (within n long) [
    | inl g ↦ inr (inl (m, n, up m, refl, h, g))
    | inr g ↦ inr (inr (omega (arith, ints, h), inr (omega (arith, ints, g))))
  ]
  | inr h ↦ inl (omega (arith, ints, h))
]
  where
    before : (i j : ℕ) → (i < j) ⊎ (j < suc i)
    before i j = grind arith

    within : (i j : ℕ) → (i ≤ j) ⊎ (j < i)
    within i j = grind arith

    up : (i : ℕ) → pos (suc i) ≡ pos (i + 1)
    up i = omega (arith, ints)

part_answered : (vs : List Val) (m n : ℤ) → ((v : Val) → Contains vs v → IsValue v) → Answered (GivesPart vs m n)
part_answered vs m n valid = by_cases (part_cases (length vs) m n)
  where
    by_cases : PartCases (length vs) m n → Answered (GivesPart vs m n)
    by_cases (inl h) = answered_as (GivesSequence []) (GivesPart vs m n) (λ r g. inl (h, g)) (sequence_answered [] (λ v i. absurd (none_in v i)))
    by_cases (inr (inl h)) =
        answered_as (GivesSequence (drop h.0 (take h.1 vs))) (GivesPart vs m n) (λ r g. inr (inl (h.0, h.1, h.2, h.3, h.4, h.5, g)))
        (sequence_answered (drop h.0 (take h.1 vs)) (λ v i. valid v (part_in h.0 h.1 vs v i)))
    by_cases (inr (inr h)) = inr (BadRange, the_term, inr (inr (h.0, h.1, refl)))

part_between_answered : (vs : List Val) (m n : Option ℤ) → ((v : Val) → Contains vs v → IsValue v) → Answered (GivesPartBetween vs m n)
part_between_answered vs (Some m) (Some n) f = part_answered vs m n f
part_between_answered vs (Some m) None f = inr (NotInteger, 2, refl)
part_between_answered vs None n f = inr (NotInteger, 1, refl)

appended : (us ws : List Val) → ((v : Val) → Contains us v → IsValue v) → ((v : Val) → Contains ws v → IsValue v) → (v : Val) → Contains (us ++ ws) v → IsValue v
appended us ws f g v h = elim (Contains-append_cases us ws v h) [
  | inl i ↦ f v i
  | inr i ↦ g v i
]

one_value : (b : Val) → IsValue b → (v : Val) → Contains (b ∷ []) v → IsValue v
one_value b p v h = elim (cons_cases b [] v h) [
  | inl e ↦ subst (λ (w : Val). IsValue w) e p
  | inr g ↦ absurd (none_in v g)
]

-- operators

pub infix_answered : (o : InfixOperator) (a b : Val) → IsValue a → IsValue b → is_operation o ≡ true → Answered (InfixAnswers o a b)
infix_answered infix_operator.Equal a b p q t = whether_answered (a ≡ b) (equal_or a b)
infix_answered infix_operator.NotEqual a b p q t = whether_answered (¬ (a ≡ b)) (not_or (equal_or a b))
infix_answered infix_operator.Less a b p q t = tested_answered (is_less a b) (told_ints (λ y z. Ok (int_lt y z)) (λ y z. told_ok (int_lt y z)) a b)
infix_answered infix_operator.Greater a b p q t = tested_answered (is_greater a b) (told_ints (λ y z. Ok (int_lt z y)) (λ y z. told_ok (int_lt z y)) a b)
infix_answered infix_operator.LessOrEqual a b p q t = tested_answered (is_at_most a b) (told_ints (λ y z. Ok (int_le y z)) (λ y z. told_ok (int_le y z)) a b)
infix_answered infix_operator.GreaterOrEqual a b p q t = tested_answered (is_at_least a b) (told_ints (λ y z. Ok (int_le z y)) (λ y z. told_ok (int_le z y)) a b)
infix_answered infix_operator.MergedFunctions a b p q t = on_functions_answered a b (GivesFunction (InMerge a b)) (λ h k. merge_answered a b p q)
infix_answered infix_operator.SingleFunction a b p q t = single_answered a b p q
infix_answered infix_operator.Union a b p q t = on_sets_answered a b (GivesSet (InUnion a b)) (λ h k. union_answered a b p q)
infix_answered infix_operator.Intersection a b p q t = on_sets_answered a b (GivesSet (InIntersection a b)) (λ h k. intersection_answered a b p h)
infix_answered infix_operator.Difference a b p q t = on_sets_answered a b (GivesSet (InDifference a b)) (λ h k. difference_answered a b p h)
infix_answered infix_operator.Plus a b p q t = answered_same (sum_of a b) (told_ints (λ y z. fitted (y +ℤ z)) (λ y z. told_fitted (y +ℤ z)) a b)
infix_answered infix_operator.Minus a b p q t = answered_same (difference_of a b) (told_ints (λ y z. fitted (y -ℤ z)) (λ y z. told_fitted (y -ℤ z)) a b)
infix_answered infix_operator.Times a b p q t = answered_same (product_of a b) (told_ints (λ y z. fitted (y *ℤ z)) (λ y z. told_fitted (y *ℤ z)) a b)
infix_answered infix_operator.Quotient a b p q t =
    answered_same (quotient_of a b)
    (told_ints (λ y z. if int_lt (pos 0) z then Ok (integer (int_div_euclid y z)) else Err (Refused BadDivisor the_term)) (λ y z. told_if (int_lt (pos 0) z) (integer (int_div_euclid y z)) (Refused BadDivisor the_term) (λ e. cc)) a b)
infix_answered infix_operator.Remainder a b p q t =
    answered_same (remainder_of a b)
    (told_ints (λ y z. if int_lt (pos 0) z then Ok (integer (int_rem_euclid y z)) else Err (Refused BadDivisor the_term)) (λ y z. told_if (int_lt (pos 0) z) (integer (int_rem_euclid y z)) (Refused BadDivisor the_term) (λ e. cc)) a b)
infix_answered infix_operator.Power a b p q t = answered_same (power_of a b) (told_ints power told_power a b)
infix_answered infix_operator.Concatenation a b p q t =
    on_sequence_answered 0 a (λ vs o. OnSequence 1 b (λ ws r. GivesSequence (vs ++ ws) r) o)
    (on_sequence_answered 1 b (λ ws r. GivesSequence (values_in a ++ ws) r)
    (sequence_answered (values_in a ++ values_in b) (appended (values_in a) (values_in b) (λ v. item_value a v p) (λ v. item_value b v q))))
infix_answered o a b p q t = absurd (no t)

pub prefix_answered : (o : PrefixOperator) (a : Val) → IsValue a → is_operation_on_one o ≡ true → Answered (PrefixAnswers o a)
prefix_answered prefix.Negate a p t = answered_same (negation_of a) (told_negation a)
prefix_answered prefix.BigUnion a p t = big_union_answered a p
prefix_answered prefix.Domain a p t = on_function_answered a (GivesSet (λ key. InDomain key a)) (λ h. domain_answered a p)
prefix_answered o a p t = absurd (no t)

-- so many operands
of_one : (Q : List Val → Result Val OpFault → Type 0) → ((a : Val) → IsValue a → Answered (Q (a ∷ []))) → (vs : List Val) → AllByRecursion IsValue vs → length vs ≡ 1 → Answered (Q vs)
of_one Q f [] p e = absurd (omega (arith, e))
of_one Q f (a ∷ []) p e = f a p.0
of_one Q f (a ∷ b ∷ vs) p e = absurd (omega (arith, e))

of_two : (Q : List Val → Result Val OpFault → Type 0) → ((a b : Val) → IsValue a → IsValue b → Answered (Q (a ∷ b ∷ []))) → (vs : List Val) → AllByRecursion IsValue vs → length vs ≡ 2 → Answered (Q vs)
of_two Q f [] p e = absurd (omega (arith, e))
of_two Q f (a ∷ []) p e = absurd (omega (arith, e))
of_two Q f (a ∷ b ∷ []) p e = f a b p.0 p.1.0
of_two Q f (a ∷ b ∷ c ∷ vs) p e = absurd (omega (arith, e))

of_three : (Q : List Val → Result Val OpFault → Type 0) → ((a b c : Val) → IsValue a → IsValue b → IsValue c → Answered (Q (a ∷ b ∷ c ∷ []))) → (vs : List Val) → AllByRecursion IsValue vs → length vs ≡ 3 → Answered (Q vs)
of_three Q f [] p e = absurd (omega (arith, e))
of_three Q f (a ∷ []) p e = absurd (omega (arith, e))
of_three Q f (a ∷ b ∷ []) p e = absurd (omega (arith, e))
of_three Q f (a ∷ b ∷ c ∷ []) p e = f a b c p.0 p.1.0 p.1.1.0
of_three Q f (a ∷ b ∷ c ∷ d ∷ vs) p e = absurd (omega (arith, e))

finite_answered : (a : Val) → Answered (IsFinite a)
finite_answered a = elim (set_or a) [
  | inl h ↦ inl (truth true, inl (h, refl))
  | inr n ↦ inr (NotSet, 0, inr (n, refl))
]

pub standard_answered : (o : StandardOperator) (vs : List Val) → AllByRecursion IsValue vs → length vs ≡ arity o → ¬ (o ≡ standard.Seq) → Answered (StandardAnswers o vs)
standard_answered standard.Len vs p e n =
    of_one (StandardAnswers standard.Len) (λ a q. on_sequence_answered 0 a (λ us o. o ≡ Ok (integer (pos (length us)))) (answered_same (Ok (integer (pos (length (values_in a))))) (told_ok (integer (pos (length (values_in a))))))) vs p e
standard_answered standard.Head vs p e n = of_one (StandardAnswers standard.Head) (λ a q. on_sequence_answered 0 a GivesFirst (first_answered (values_in a))) vs p e
standard_answered standard.Tail vs p e n = of_one (StandardAnswers standard.Tail) (λ a q. on_sequence_answered 0 a GivesRest (rest_answered (values_in a) (λ v. item_value a v q))) vs p e
standard_answered standard.Append vs p e n =
    of_two (StandardAnswers standard.Append) (λ a b q r. on_sequence_answered 0 a (λ us o. GivesSequence (us ++ b ∷ []) o)
    (sequence_answered (values_in a ++ b ∷ []) (appended (values_in a) (b ∷ []) (λ v. item_value a v q) (one_value b r)))) vs p e
standard_answered standard.SubSeq vs p e n =
    of_three (StandardAnswers standard.SubSeq) (λ a b c q r s. on_sequence_answered 0 a (λ us o. GivesPartBetween us (int_of b) (int_of c) o)
    (part_between_answered (values_in a) (int_of b) (int_of c) (λ v. item_value a v q))) vs p e
standard_answered standard.Cardinality vs p e n = of_one (StandardAnswers standard.Cardinality) (λ a q. answered_same (cardinality_of a) (told_cardinality a)) vs p e
standard_answered standard.IsFiniteSet vs p e n = of_one (StandardAnswers standard.IsFiniteSet) (λ a q. finite_answered a) vs p e
standard_answered standard.Seq vs p e n = absurd (n refl)
