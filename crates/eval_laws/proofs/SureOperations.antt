-- What the operators answer: of values, each has one answer, which is a value.
use Rattle.std.proofs.Common.{◌≡◌, ◌⊎◌, inl, inr, ap, sym, ◌∙◌, subst, refl, arith, ℕ, zero, suc, ◌+◌, ◌/◌, ◌%◌, ◌<◌, ◌≤◌, List, [], ◌∷◌, ◌++◌, map, length, take, drop, mod-lt, div-le_self}
use Rattle.std.specs.Prelude.{Bool, true, false, ℤ, pos, negsuc, neg_ℤ, ◌+ℤ◌, ◌-ℤ◌, ◌*ℤ◌, ◌≤ℤ◌, ◌<ℤ◌, int_lt, if◌then◌else◌, FitsSigned, Result, Ok, Err, Contains, Option, Some, None, IsTrue}
use Rattle.std.specs.Int.{w64, int_div_euclid, int_rem_euclid, int_pow}
use Rattle.std.specs.List.{AllByRecursion}
use Rattle.std.proofs.lemmas.List.{length-map}
use Rattle.std.proofs.lemmas.Int.{ints}
use Rattle.std.proofs.lemmas.Bool.Decides.{nat_tests}
use Rattle.values_core.specs.Data.{Val, model, truth, integer, string, set, function, int_of, members}
use Rattle.values_core.specs.IsValue.{IsValue}
use Rattle.values_core.specs.Ascending.{cons_cases, head_in, tail_in, none_in}
use Rattle.values_core.specs.Sets.{IsSet, Member}
use Rattle.values_core.specs.Functions.{InDomain, HasPair, pairs_in, values_in}
use Rattle.values_core.specs.FunctionLaws.{one_value_at_key}
use Rattle.values_core.specs.Integers.{the_term, fitted, on_int, on_ints, int_operand, int_operands, is_i64, power, sum_of, difference_of, product_of, negation_of, quotient_of, remainder_of, power_of, is_less, is_at_most}
use Rattle.values_core.specs.SetOperations.{GivesSet, InUnion, InIntersection, InDifference, InBigUnion, UnitesMembers, cardinality_of}
use Rattle.values_core.specs.FunctionOperations.{GivesFunction, GivesValue, GivesSequence, GivesFirst, GivesRest, GivesPart, GivesPartBetween, InMerge, InExcept, OnSequence, AppliesAt, Excepts}
use Rattle.values_core.specs.declared.fault.EvalKind.TheVariants.{NotSet, NotInteger, OutsideDomain, BadDivisor, Overflow, EmptySequence, BadRange}
use Rattle.values_core.specs.declared.fault.OpFault.{OpFault}
use Rattle.values_core.specs.declared.fault.OpFault.TheVariants.{Refused}
use Rattle.reading_trees.specs.declared.operators.PrefixOperator.{PrefixOperator}
use Rattle.reading_trees.specs.declared.operators.PrefixOperator.TheVariants as prefix
use Rattle.reading_trees.specs.declared.operators.InfixOperator.{InfixOperator}
use Rattle.reading_trees.specs.declared.operators.InfixOperator.TheVariants as infix_operator
use Rattle.names_terms.specs.declared.standard.StandardOperator.{StandardOperator}
use Rattle.names_terms.specs.declared.standard.StandardOperator.TheVariants as standard
use Rattle.values_operations.proofs.Taking.{few_items}
use Rattle.values_sets.proofs.Collecting.{pair_value}
use Rattle.eval_meanings.specs.Operations.{IsWhether, tested, is_greater, is_at_least, InfixAnswers, PrefixAnswers, StandardAnswers}
use Rattle.eval_laws.proofs.OneAnswer.{HasOneAnswer, IsSure, sure_none, sure_same, sure_refusal, sure_or, sure_set, sure_function, sure_sequence, sure_value, sure_on_set, sure_on_sets, sure_on_function, sure_on_functions, sure_on_sequence, few_pairs}

-- truth values

pub truth_value : (b : Bool) → IsValue (truth b)
truth_value b = record { canonical = tt; shallow = omega arith }

truth_is : (b : Bool) (v : Val) → ◌≡◌ {A = Result Val OpFault} (Ok (truth b)) (Ok v) → IsValue v
truth_is b v e = let d : truth b ≡ v = cc in subst (λ (w : Val). IsValue w) d (truth_value b)

same_bool : (b c : Bool) → (IsTrue b → IsTrue c) → (IsTrue c → IsTrue b) → b ≡ c
same_bool true true f g = refl
same_bool true false f g = sym (f refl)
same_bool false true f g = g refl
same_bool false false f g = refl

sure_whether : (P : Type 0) → IsSure (IsWhether P)
sure_whether P = record {
  one = λ q r g h. inr (inr (g.2 ∙ ap (λ b. Ok (truth b)) (same_bool g.0 h.0 (λ t. h.1.1 (g.1.0 t)) (λ t. g.1.1 (h.1.0 t))) ∙ sym h.2));
  value = λ v g. truth_is g.0 v (sym g.2);
}

tested_value : (t : Result Bool OpFault) (v : Val) → tested t ≡ Ok v → IsValue v
tested_value (Ok b) v e = truth_is b v e
tested_value (Err f) v e = cc

-- integers

pub integer_value : (z : ℤ) → FitsSigned w64 z → IsValue (integer z)
integer_value z h = record { canonical = h; shallow = omega arith }

integer_is : (z : ℤ) (v : Val) → FitsSigned w64 z → ◌≡◌ {A = Result Val OpFault} (Ok (integer z)) (Ok v) → IsValue v
integer_is z v h e = let d : integer z ≡ v = cc in subst (λ (w : Val). IsValue w) d (integer_value z h)

fits_by : (z : ℤ) → is_i64 z ≡ true → FitsSigned w64 z
fits_by (pos n) e = let l : n < 9223372036854775808 = grind (arith, nat_tests) in omega (arith, ints)
fits_by (negsuc n) e = let l : n < 9223372036854775808 = grind (arith, nat_tests) in omega (arith, ints)

if_value : (b : Bool) (z : ℤ) (f : OpFault) (v : Val) → (b ≡ true → FitsSigned w64 z) → (if b then Ok (integer z) else Err f) ≡ Ok v → IsValue v
if_value true z f v h e = integer_is z v (h refl) e
if_value false z f v h e = cc

fitted_value : (z : ℤ) (v : Val) → fitted z ≡ Ok v → IsValue v
fitted_value z v e = if_value (is_i64 z) z (Refused Overflow the_term) v (fits_by z) e

int_value : (f : ℤ → Result Val OpFault) → ((z : ℤ) (v : Val) → f z ≡ Ok v → IsValue v) → (o : Result ℤ OpFault) (v : Val) → on_int f o ≡ Ok v → IsValue v
int_value f g (Ok z) v e = g z v e
int_value f g (Err x) v e = cc

ints_value : (f : ℤ → ℤ → Result Val OpFault) → ((y z : ℤ) (v : Val) → f y z ≡ Ok v → IsValue v) → (o : Result (ℤ × ℤ) OpFault) (v : Val) → on_ints f o ≡ Ok v → IsValue v
ints_value f g (Ok p) v e = g p.0 p.1 v e
ints_value f g (Err x) v e = cc

-- where the operands have 64 bits
fitting_value : (f : ℤ → ℤ → Result Val OpFault) → ((y z : ℤ) → FitsSigned w64 y → FitsSigned w64 z → (v : Val) → f y z ≡ Ok v → IsValue v) → (a b : Val) → IsValue a → IsValue b → (v : Val) → on_ints f (int_operands a b) ≡ Ok v → IsValue v
fitting_value f g (integer y) (integer z) p q v e = g y z p.canonical q.canonical v e
fitting_value f g (integer y) b p q v e = cc
fitting_value f g a b p q v e = cc

quotient_fits : (y z : ℤ) → FitsSigned w64 y → int_lt (pos 0) z ≡ true → FitsSigned w64 (int_div_euclid y z)
quotient_fits (pos a) (pos b) h l = let d : a / b ≤ a = div-le_self a b in omega (arith, ints)
quotient_fits (negsuc a) (pos b) h l = let d : a / b ≤ a = div-le_self a b in omega (arith, ints)
quotient_fits y (negsuc b) h l = absurd (omega (arith, ints))

remainder_fits : (y z : ℤ) → FitsSigned w64 z → int_lt (pos 0) z ≡ true → FitsSigned w64 (int_rem_euclid y z)
remainder_fits (pos a) (pos b) h l = let k : 0 < b = omega (arith, ints) in let d : a % b < b = mod-lt a k in omega (arith, ints)
remainder_fits (negsuc a) (pos b) h l = omega (arith, ints)
remainder_fits y (negsuc b) h l = absurd (omega (arith, ints))

power_value : (y z : ℤ) (v : Val) → power y z ≡ Ok v → IsValue v
power_value y (negsuc n) v e = cc
power_value (pos zero) (pos zero) v e = cc
power_value (pos zero) (pos (suc n)) v e = fitted_value (int_pow (pos zero) (suc n)) v e
power_value (pos (suc m)) (pos n) v e = fitted_value (int_pow (pos (suc m)) n) v e
power_value (negsuc m) (pos n) v e = fitted_value (int_pow (negsuc m) n) v e

count_fits : (n : ℕ) → n ≤ 100000 → FitsSigned w64 (pos n)
count_fits n h = omega (arith, ints)

cardinality_value : (a : Val) → IsValue a → (v : Val) → cardinality_of a ≡ Ok v → IsValue v
cardinality_value (set vs) p v e = integer_is (pos (length (members vs))) v (count_fits (length (members vs)) (few_items (set vs) p)) e
cardinality_value (model x) p v e = cc
cardinality_value (truth x) p v e = cc
cardinality_value (integer x) p v e = cc
cardinality_value (string x) p v e = cc
cardinality_value (function x) p v e = cc

-- functions and sequences

-- a value of the pairs is that of one of them
has_value : (ps : List (Val × Val)) (v : Val) → Contains (map (λ p. p.1) ps) v → (key : Val) × Contains ps (key, v)
has_value [] v h = absurd (none_in v h)
has_value (p ∷ ps) v h = elim (cons_cases p.1 (map (λ r. r.1) ps) v h) [
  | inl e ↦ (p.0, subst (λ (w : Val). Contains (p ∷ ps) (p.0, w)) e (head_in p ps))
  | inr g ↦ let found = has_value ps v g in (found.0, tail_in p ps (found.0, v) found.1)
]

item_value : (f v : Val) → IsValue f → Contains (values_in f) v → IsValue v
item_value f v p h = let found = has_value (pairs_in f) v h in pair_value f found.0 v p found.1

few_values : (f : Val) → IsValue f → length (values_in f) ≤ 100000
few_values f p = omega (arith, few_pairs f p, length-map (pairs_in f) (λ (q : Val × Val). q.1))

sure_first : (vs : List Val) → ((v : Val) → Contains vs v → IsValue v) → IsSure (GivesFirst vs)
sure_first [] f = sure_refusal (Refused EmptySequence the_term)
sure_first (v ∷ vs) f = sure_value (λ w. w ≡ v) (λ u w d e. d ∙ sym e) (λ w e. subst (λ (u : Val). IsValue u) (sym e) (f v (head_in v vs)))

sure_rest : (vs : List Val) → IsSure (GivesRest vs)
sure_rest [] = sure_refusal (Refused EmptySequence the_term)
sure_rest (v ∷ vs) = sure_sequence vs

above : (m : ℤ) (k l : ℕ) → m ≡ pos (k + 1) → m ≡ pos (l + 1) → k ≡ l
above m k l d e = omega (arith, ints)

same_end : (n : ℤ) (k l : ℕ) → n ≡ pos k → n ≡ pos l → k ≡ l
same_end n k l d e = omega (arith, ints)

sure_part : (vs : List Val) (m n : ℤ) → IsSure (GivesPart vs m n)
sure_part vs m n = record { one = one; value = value }
  where
    unlike : (v : Val) (f : OpFault) → ◌≡◌ {A = Result Val OpFault} (Ok v) (Err f) → ⊥
    unlike v f e = cc

    outside : (from to : ℕ) → m ≡ pos (from + 1) → n ≡ pos to → from < to → to ≤ length vs → (m <ℤ pos 1) ⊎ (pos (length vs) <ℤ n) → ⊥
    outside from to a b k l (inl x) = omega (arith, ints)
    outside from to a b k l (inr x) = omega (arith, ints)

    turned : (from to : ℕ) → m ≡ pos (from + 1) → n ≡ pos to → from < to → n <ℤ m → ⊥
    turned from to a b k l = omega (arith, ints)

    ordered : m ≤ℤ n → n <ℤ m → ⊥
    ordered k l = omega (arith, ints)

    one : HasOneAnswer (GivesPart vs m n)
    one q r (inl g) (inl h) = (sure_sequence []).one q r g.1 h.1
    one q r (inl g) (inr (inl h)) = absurd (turned h.0 h.1 h.2 h.3 h.4 g.0)
    one q r (inl g) (inr (inr h)) = absurd (ordered h.0 g.0)
    one q r (inr (inl g)) (inl h) = absurd (turned g.0 g.1 g.2 g.3 g.4 h.0)
    one q r (inr (inl g)) (inr (inl h)) =
        let from : g.0 ≡ h.0 = above m g.0 h.0 g.2 h.2 in
        let to : g.1 ≡ h.1 = same_end n g.1 h.1 g.3 h.3 in
        let given : GivesSequence (drop g.0 (take g.1 vs)) r = subst (λ (k : ℕ). GivesSequence (drop k (take g.1 vs)) r) (sym from) (subst (λ (k : ℕ). GivesSequence (drop h.0 (take k vs)) r) (sym to) h.6) in
        (sure_sequence (drop g.0 (take g.1 vs))).one q r g.6 given
    one q r (inr (inl g)) (inr (inr h)) = absurd (outside g.0 g.1 g.2 g.3 g.4 g.5 h.1)
    one q r (inr (inr g)) (inl h) = absurd (ordered g.0 h.0)
    one q r (inr (inr g)) (inr (inl h)) = absurd (outside h.0 h.1 h.2 h.3 h.4 h.5 g.1)
    one q r (inr (inr g)) (inr (inr h)) = inr (inr (g.2 ∙ sym h.2))

    value : (v : Val) → GivesPart vs m n (Ok v) → IsValue v
    value v (inl g) = (sure_sequence []).value v g.1
    value v (inr (inl g)) = (sure_sequence (drop g.0 (take g.1 vs))).value v g.6
    value v (inr (inr g)) = absurd (unlike v (Refused BadRange the_term) g.2)

sure_part_between : (vs : List Val) (m n : Option ℤ) → IsSure (GivesPartBetween vs m n)
sure_part_between vs (Some m) (Some n) = sure_part vs m n
sure_part_between vs (Some m) None = sure_refusal (Refused NotInteger 2)
sure_part_between vs None n = sure_refusal (Refused NotInteger 1)

pub sure_applies : (f key : Val) → IsValue f → IsSure (AppliesAt f key)
sure_applies f key p =
    sure_on_function f _
    (sure_or (InDomain key f) (¬ InDomain key f) (GivesValue (HasPair f key)) (λ r. r ≡ Err (Refused OutsideDomain the_term)) (λ h g. g h)
    (λ h. sure_value (HasPair f key) (λ v w. one_value_at_key f key v w p) (λ v. pair_value f key v p)) (λ h. sure_refusal (Refused OutsideDomain the_term)))

pub sure_excepts : (f key new : Val) → IsValue f → IsSure (Excepts f key new)
sure_excepts f key new p =
    sure_on_function f _
    (sure_or (InDomain key f) (¬ InDomain key f) (GivesFunction (InExcept f key new)) (GivesValue (λ h. h ≡ f)) (λ h g. g h) (λ h. sure_function (InExcept f key new))
    (λ h. sure_value (λ g. g ≡ f) (λ v w d e. d ∙ sym e) (λ v e. subst (λ (u : Val). IsValue u) (sym e) p)))

-- operators

sure_big_union : (a : Val) → IsSure (UnitesMembers a)
sure_big_union a =
    sure_on_set a _
    (sure_or ((v : Val) → Member v a → IsSet v) ((v : Val) × Member v a × ¬ IsSet v) (GivesSet (InBigUnion a)) (λ r. r ≡ Err (Refused NotSet 0)) (λ f g. g.2 (f g.0 g.1))
    (λ h. sure_set (InBigUnion a)) (λ h. sure_refusal (Refused NotSet 0)))

pub sure_infix : (o : InfixOperator) (a b : Val) → IsValue a → IsValue b → IsSure (InfixAnswers o a b)
sure_infix infix_operator.Equal a b p q = sure_whether (a ≡ b)
sure_infix infix_operator.NotEqual a b p q = sure_whether (¬ (a ≡ b))
sure_infix infix_operator.Less a b p q = sure_same (tested (is_less a b)) (tested_value (is_less a b))
sure_infix infix_operator.Greater a b p q = sure_same (tested (is_greater a b)) (tested_value (is_greater a b))
sure_infix infix_operator.LessOrEqual a b p q = sure_same (tested (is_at_most a b)) (tested_value (is_at_most a b))
sure_infix infix_operator.GreaterOrEqual a b p q = sure_same (tested (is_at_least a b)) (tested_value (is_at_least a b))
sure_infix infix_operator.MergedFunctions a b p q = sure_on_functions a b _ (sure_function (InMerge a b))
sure_infix infix_operator.SingleFunction a b p q = sure_function (λ k w. (k ≡ a) × (w ≡ b))
sure_infix infix_operator.Union a b p q = sure_on_sets a b _ (sure_set (InUnion a b))
sure_infix infix_operator.Intersection a b p q = sure_on_sets a b _ (sure_set (InIntersection a b))
sure_infix infix_operator.Difference a b p q = sure_on_sets a b _ (sure_set (InDifference a b))
sure_infix infix_operator.Plus a b p q = sure_same (sum_of a b) (ints_value (λ y z. fitted (y +ℤ z)) (λ y z. fitted_value (y +ℤ z)) (int_operands a b))
sure_infix infix_operator.Minus a b p q = sure_same (difference_of a b) (ints_value (λ y z. fitted (y -ℤ z)) (λ y z. fitted_value (y -ℤ z)) (int_operands a b))
sure_infix infix_operator.Times a b p q = sure_same (product_of a b) (ints_value (λ y z. fitted (y *ℤ z)) (λ y z. fitted_value (y *ℤ z)) (int_operands a b))
sure_infix infix_operator.Quotient a b p q =
    sure_same (quotient_of a b)
    (fitting_value (λ y z. if int_lt (pos 0) z then Ok (integer (int_div_euclid y z)) else Err (Refused BadDivisor the_term))
    (λ y z h k v. if_value (int_lt (pos 0) z) (int_div_euclid y z) (Refused BadDivisor the_term) v (quotient_fits y z h)) a b p q)
sure_infix infix_operator.Remainder a b p q =
    sure_same (remainder_of a b)
    (fitting_value (λ y z. if int_lt (pos 0) z then Ok (integer (int_rem_euclid y z)) else Err (Refused BadDivisor the_term))
    (λ y z h k v. if_value (int_lt (pos 0) z) (int_rem_euclid y z) (Refused BadDivisor the_term) v (remainder_fits y z k)) a b p q)
sure_infix infix_operator.Power a b p q = sure_same (power_of a b) (ints_value power power_value (int_operands a b))
sure_infix infix_operator.Concatenation a b p q =
    sure_on_sequence 0 a (λ vs o. OnSequence 1 b (λ ws p. GivesSequence (vs ++ ws) p) o) (sure_on_sequence 1 b (λ ws p. GivesSequence (values_in a ++ ws) p) (sure_sequence (values_in a ++ values_in b)))
sure_infix o a b p q = sure_none

pub sure_prefix : (o : PrefixOperator) (a : Val) → IsSure (PrefixAnswers o a)
sure_prefix prefix.Negate a = sure_same (negation_of a) (int_value (λ z. fitted (neg_ℤ z)) (λ z. fitted_value (neg_ℤ z)) (int_operand a))
sure_prefix prefix.BigUnion a = sure_big_union a
sure_prefix prefix.Domain a = sure_on_function a _ (sure_set (λ key. InDomain key a))
sure_prefix o a = sure_none

pub sure_standard : (o : StandardOperator) (vs : List Val) → AllByRecursion IsValue vs → IsSure (StandardAnswers o vs)
sure_standard standard.Len (a ∷ []) p =
    sure_on_sequence 0 a (λ vs o. o ≡ Ok (integer (pos (length vs))))
    (sure_same (Ok (integer (pos (length (values_in a))))) (λ v. integer_is (pos (length (values_in a))) v (count_fits (length (values_in a)) (few_values a p.0))))
sure_standard standard.Head (a ∷ []) p = sure_on_sequence 0 a GivesFirst (sure_first (values_in a) (λ v. item_value a v p.0))
sure_standard standard.Tail (a ∷ []) p = sure_on_sequence 0 a GivesRest (sure_rest (values_in a))
sure_standard standard.Append (a ∷ b ∷ []) p = sure_on_sequence 0 a (λ vs o. GivesSequence (vs ++ b ∷ []) o) (sure_sequence (values_in a ++ b ∷ []))
sure_standard standard.SubSeq (a ∷ b ∷ c ∷ []) p = sure_on_sequence 0 a (λ vs o. GivesPartBetween vs (int_of b) (int_of c) o) (sure_part_between (values_in a) (int_of b) (int_of c))
sure_standard standard.Cardinality (a ∷ []) p = sure_same (cardinality_of a) (cardinality_value a p.0)
sure_standard standard.IsFiniteSet (a ∷ []) p =
    sure_or (IsSet a) (¬ IsSet a) (λ r. r ≡ Ok (truth true)) (λ r. r ≡ Err (Refused NotSet 0)) (λ h g. g h) (λ h. sure_same (Ok (truth true)) (truth_is true)) (λ h. sure_refusal (Refused NotSet 0))
sure_standard o vs p = sure_none
