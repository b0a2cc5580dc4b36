-- Small terms, and what they evaluate to: that the definitions are known to compute.
use Rattle.std.proofs.Common.{◌≡◌, refl, inl, inr, [], ◌∷◌, arith}
use Rattle.std.specs.Prelude.{ℕ, ◌+◌, pos, true, false, Some, Ok, Err}
use Rattle.base_core.specs.declared.place.Place.{Place}
use Rattle.values_core.specs.Data.{truth, integer, set, function, no_vals, no_pairs}
use Rattle.values_core.specs.declared.fault.EvalKind.TheVariants.{NotInteger, NotFunction, NotFinite, Nested, NoCase, NoChoice, BadDivisor, OutsideDomain}
use Rattle.reading_trees.specs.declared.operators.InfixOperator.TheVariants.{Plus, Minus, Quotient, Equal, Member, Implies, CartesianProduct}
use Rattle.reading_trees.specs.declared.operators.PrefixOperator.TheVariants.{Unchanged}
use Rattle.reading_trees.specs.declared.operators.Quantifier.TheVariants.{Exists}
use Rattle.names_terms.specs.declared.level.Level.TheVariants as levels
use Rattle.names_terms.specs.declared.standard.NamedSet.TheVariants as sets
use Rattle.names_terms.specs.declared.operator.Operator.{Operator}
use Rattle.names_terms.specs.declared.operator.Own.TheVariants.{Apart, Function}
use Rattle.names_terms.specs.Terms as terms
use Rattle.names_terms.specs.Terms.{Term, Meaning, Placed, If, Known, Named, Infix, First, Next, NoTerms, MoreTerms, Variable, Slot, Use, Prefix, Postfix, NoSteps, MoreSteps, Prime, Index, Tuple, Quantified, Choose, NoBounds, MoreBounds, Case, NoArms, MoreArms, Except, NoChanges, MoreChanges}
use Rattle.values_sets.specs.DescribedSets as described
use Rattle.values_sets.specs.DescribedSets.{Listed}
use Rattle.states_core.specs.declared.fault.Fault.{Fault}
use Rattle.eval_meanings.specs.Outcomes.{fault}
use Rattle.eval_meanings.specs.Contexts.{Context}
use Rattle.eval_meanings.specs.Evaluates.{Evaluates}

-- the n-th column of the first line
abbrev at : ℕ → Place
at n = record { file = 0; line = 1; col = n }

abbrev nowhere : Context
nowhere = record { slots = []; now = []; next = [] }

abbrev constant : ℕ → Meaning → Term
constant n m = Placed (at n) levels.Constant m

abbrev number : ℕ → ℕ → Term
number n k = constant n (Known (integer (pos k)))

abbrev sum : Term → Term → Term
sum a b = constant 3 (Infix Plus (First a) b)

-- 1 + 2 is 3
pub three : Evaluates [] 2 nowhere (sum (number 1 1) (number 5 2)) (Ok (integer (pos 3)))
three = inl (integer (pos 1), refl, inl (integer (pos 2), refl, inl (integer (pos 3), refl, refl)))

-- 1 + TRUE: the second operand is no integer, at its place
pub no_integer : Evaluates [] 2 nowhere (sum (number 1 1) (constant 5 (Known (truth true)))) (Err (fault NotInteger (at 5)))
no_integer = inl (integer (pos 1), refl, inl (truth true, refl, inr (fault NotInteger (at 5), (1, refl, refl), refl)))

-- with one evaluation it is the first operand that is nested too deep
pub too_deep : Evaluates [] 1 nowhere (sum (number 1 1) (number 5 2)) (Err (fault Nested (at 1)))
too_deep = inr (fault Nested (at 1), refl, refl)

-- x' is read in the next state
pub next : Evaluates [] 2 (record { slots = []; now = Some (integer (pos 1)) ∷ []; next = Some (integer (pos 2)) ∷ [] }) (Placed (at 2) levels.Action (Postfix (Placed (at 1) levels.State (Variable 0)) NoSteps Prime)) (Ok (integer (pos 2)))
next = (integer (pos 2), refl, refl)

-- a definition of a LET under one bound name, used under two: it sees the first alone
abbrev inner : Operator
inner = record { name = []; outer = 1; params = 0; level = levels.Constant; own = Apart; body = constant 7 (Slot 0) }

pub handed_on : Evaluates (inner ∷ []) 2 (record { slots = integer (pos 5) ∷ integer (pos 6) ∷ []; now = []; next = [] }) (constant 9 (Use 0 NoTerms)) (Ok (integer (pos 5)))
handed_on = inl (Listed (integer (pos 5)), (inner, refl, inl (integer (pos 5), (integer (pos 5), refl, refl), refl)), refl)

-- \E x \in S : x, where S is empty, is false
pub none_in : Evaluates [] 2 nowhere (constant 1 (Quantified Exists (MoreBounds NoBounds 1 (constant 9 (Known (set no_vals)))) (constant 12 (Slot 0)))) (Ok (truth false))
none_in =
    inl (false, inl ([], inl (((1, at 9), set no_vals) ∷ [], inl (((1, at 9), set no_vals), inl (set no_vals, refl, refl), inl ([], refl, refl)), inl ((1, []) ∷ [], inl ((1, []), inl ([], refl, refl), inl ([], refl, refl)), refl)), refl), refl)

-- CASE FALSE -> 1
pub no_arm : Evaluates [] 2 nowhere (constant 1 (Case (MoreArms NoArms (constant 6 (Known (truth false))) (number 15 1)))) (Err (fault NoCase (at 1)))
no_arm = inl (false, inl (truth false, refl, refl), refl)

-- e EXCEPT ![1] = 2, ![3] = 4
abbrev changed : Term → Term
changed e = constant 1 (Except e (MoreChanges (MoreChanges NoChanges (MoreSteps NoSteps (at 12) (Index (MoreTerms NoTerms (number 13 1)))) (number 18 2)) (MoreSteps NoSteps (at 22) (Index (MoreTerms NoTerms (number 23 3)))) (number 28 4)))

-- [5 EXCEPT ![1] = 2, ![3] = 4]: 5 is no function, at its place
pub no_function : Evaluates [] 2 nowhere (changed (number 2 5)) (Err (fault NotFunction (at 2)))
no_function = inl (integer (pos 5), refl, inr (fault NotFunction (at 2), inl (integer (pos 1), inl (integer (pos 1) ∷ [], inl (integer (pos 1), refl, inl ([], refl, refl)), refl), inl (λ h. h, refl)), refl))

-- where f has no key, it stays at both changes
pub kept : Evaluates [] 2 nowhere (changed (constant 2 (Known (function no_pairs)))) (Ok (function no_pairs))
kept =
    inl (function no_pairs, refl, inl (function no_pairs, inl (integer (pos 1), inl (integer (pos 1) ∷ [], inl (integer (pos 1), refl, inl ([], refl, refl)), refl), inr (inl (tt, (λ h. omega (arith, h.1)), refl))), inl (function no_pairs, inl (integer (pos 3), inl (integer (pos 3) ∷ [], inl (integer (pos 3), refl, inl ([], refl, refl)), refl), inr (inl (tt, (λ h. omega (arith, h.1)), refl))), refl)))

-- Nat is not listed
pub not_finite : Evaluates [] 1 nowhere (constant 4 (Named sets.Nat)) (Err (fault NotFinite (at 4)))
not_finite = inl (described.Nat, refl, (0, refl, refl))

-- UNCHANGED vars, where vars == <<x>>, under a bound name
abbrev vars : Operator
vars = record { name = 118 ∷ []; outer = 0; params = 0; level = levels.State; own = Apart; body = Placed (at 7) levels.State (Tuple (MoreTerms NoTerms (Placed (at 9) levels.State (Variable 0)))) }

pub same_tuple : Evaluates (vars ∷ []) 4 (record { slots = integer (pos 5) ∷ []; now = Some (integer (pos 1)) ∷ []; next = Some (integer (pos 1)) ∷ [] }) (Placed (at 2) levels.Action (Prefix Unchanged (Placed (at 12) levels.State (Use 0 NoTerms)))) (Ok (truth true))
same_tuple =
    inl (true, inl (true, inl (truth true, inl (true, inl (integer (pos 1), (integer (pos 1), refl, refl), inl (integer (pos 1), (integer (pos 1), refl, refl), (true, ((λ b. refl), (λ e. refl)), refl))), refl), refl), refl), refl)

-- 1 + TRUE + (1 \div 0): a chain goes as if nested to the left, so that the quotient is not evaluated
abbrev quotient : ℕ → Term
quotient n = constant (n + 2) (Infix Quotient (First (number n 1)) (number (n + 7) 0))

pub chain_stops : Evaluates [] 3 nowhere (constant 10 (Infix Plus (Next (First (number 1 1)) (at 3) (constant 5 (Known (truth true)))) (quotient 13))) (Err (fault NotInteger (at 5)))
chain_stops = inl (integer (pos 1), refl, inl (truth true, refl, inr (fault NotInteger (at 5), (1, refl, refl), refl)))

-- 1 \X (1 \div 0): the parts of a product are evaluated before any is tested
abbrev divided : Fault
divided = fault BadDivisor (at 9)

pub parts_first : Evaluates [] 3 nowhere (constant 3 (Infix CartesianProduct (First (number 1 1)) (quotient 7))) (Err (fault BadDivisor (at 9)))
parts_first =
    inr (divided, inr (divided, inl ((at 1, Listed (integer (pos 1))), inl (Listed (integer (pos 1)), inl (integer (pos 1), refl, refl), refl), inr (divided, inr (divided, inr (divided, inr (divided, inl (integer (pos 1), refl, inl (integer (pos 0), refl, inr (divided, (255, refl, refl), refl))), refl), refl), refl), refl)), refl), refl)

-- FALSE => 1: the right side is not asked for
pub not_asked : Evaluates [] 2 nowhere (constant 7 (Infix Implies (First (constant 1 (Known (truth false)))) (number 10 1))) (Ok (truth true))
not_asked = inl (true, inl (false, inl (truth false, refl, refl), refl), refl)

-- CHOOSE x \in S : x, where S is empty
pub no_choice : Evaluates [] 2 nowhere (constant 1 (Choose (constant 14 (Known (set no_vals))) (constant 18 (Slot 0)))) (Err (fault NoChoice (at 1)))
no_choice = inl ([], inl (set no_vals, refl, refl), refl)

-- 5 \in Nat is true, and Nat is not listed
pub is_natural : Evaluates [] 2 nowhere (constant 3 (Infix Member (First (number 1 5)) (constant 7 (Named sets.Nat)))) (Ok (truth true))
is_natural = inl (true, inl (integer (pos 5), refl, inl (described.Nat, inl (described.Nat, refl, refl), (true, ((λ h. (pos 5, refl, omega arith)), (λ h. refl)), refl))), refl)

-- F[n \in Nat] == IF n = 0 THEN 5 ELSE F[n - 1]: a function that uses itself, whose domain is not listed
abbrev applied : ℕ → Term → Term
applied n key = constant n (Postfix (constant 1 (Use 0 NoTerms)) NoSteps (Index (MoreTerms NoTerms key)))

abbrev recursive : Operator
recursive = record {
  name = 70 ∷ [];
  outer = 0;
  params = 0;
  level = levels.Constant;
  own = Function;
  body = constant 7 (terms.Function (MoreBounds NoBounds 1 (constant 9 (Named sets.Nat))) (constant 20 (If (constant 24 (Infix Equal (First (constant 23 (Slot 0))) (number 25 0))) (number 30 5) (applied 41 (constant 44 (Infix Minus (First (constant 43 (Slot 0))) (number 45 1)))))));
}

-- F[0] is 5
pub at_zero : Evaluates (recursive ∷ []) 4 nowhere (applied 2 (number 3 0)) (Ok (integer (pos 5)))
at_zero =
    inl (
      integer (pos 0),
      inl (integer (pos 0) ∷ [], inl (integer (pos 0), refl, inl ([], refl, refl)), refl),
      inl (
        described.Nat,
        inl (described.Nat, refl, refl),
        inl (
          true,
          (true, ((λ h. (pos 0, refl, omega arith)), (λ h. refl)), refl),
          inl (true, inl (truth true, inl (integer (pos 0), (integer (pos 0), refl, refl), inl (integer (pos 0), refl, inl (truth true, (true, ((λ h. refl), (λ h. refl)), refl), refl))), refl), refl),
        ),
      ),
    )

-- F[TRUE] is outside the domain, at the bracket
pub outside : Evaluates (recursive ∷ []) 4 nowhere (applied 2 (constant 3 (Known (truth true)))) (Err (fault OutsideDomain (at 2)))
outside =
    inl (truth true, inl (truth true ∷ [], inl (truth true, refl, inl ([], refl, refl)), refl), inl (described.Nat, inl (described.Nat, refl, refl), inl (false, (false, ((λ h. absurd (cc)), (λ h. absurd (let e : truth true ≡ integer h.0 = h.1 in cc))), refl), refl)))

-- F alone is the function that is listed, and Nat can not be
pub not_listed : Evaluates (recursive ∷ []) 4 nowhere (constant 1 (Use 0 NoTerms)) (Err (fault NotFinite (at 9)))
not_listed =
    inr (fault NotFinite (at 9), (recursive, refl, inr (fault NotFinite (at 9), inr (fault NotFinite (at 9), inr (fault NotFinite (at 9), inr (fault NotFinite (at 9), inr (fault NotFinite (at 9), inl (described.Nat, refl, (0, refl, refl)), refl), refl), refl), refl), refl)), refl)
