-- A chain of `\cup`, `\cap` or `\`, in the midst of its loop: what the rest comes to, the whole comes to.
use Rattle.std.proofs.Common.{◌≡◌, inl, inr, refl, sym, subst, List, [], ◌∷◌, ◌++◌, length, drop, ◌≤◌, ◌+◌, ℕ}
use Rattle.std.specs.Prelude.{true, Result, Ok, Err}
use Rattle.base_core.specs.declared.place.Place.{Place}
use Rattle.states_core.specs.declared.fault.Fault.{Fault}
use Rattle.values_core.specs.Data.{Val}
use Rattle.reading_trees.specs.declared.operators.InfixOperator.{InfixOperator}
use Rattle.reading_trees.specs.declared.operators.InfixOperator.TheVariants as infix_operator
use Rattle.names_terms.specs.Terms.{Term, Operands, Next, place_of}
use Rattle.values_sets.specs.DescribedSets.{Described}
use Rattle.eval_meanings.specs.declared.fault.EvalFault.{EvalFault}
use Rattle.eval_meanings.specs.declared.fault.EvalFault.TheVariants.{Refused, NoMemory}
use Rattle.eval_meanings.specs.Answers.{Tells, is_joining}
use Rattle.eval_meanings.specs.Contexts.{Context, Describe, Evaluate}
use Rattle.eval_meanings.specs.Meanings.{InfixDescribed, InfixEvaluates}
use Rattle.eval_meanings.specs.Outcomes.{Then, fault}
use Rattle.eval_meanings.specs.Sets.{ChainDescribed, Joined, ListedAt, first_operand, other_operands}
use Rattle.eval_parts.proofs.Loops.{Cut, cut_end}

-- a chain whose operands before the index have been taken
module _ (de : Describe) (c : Context) (o : InfixOperator) where
  abbrev pub JoinedSoFar : List (Place × Term) → List (Place × Term) → Place → Described → ℕ → Place → Described → Type 0
  JoinedSoFar xs end p v i q w = (r : Result Described Fault) → ChainDescribed de c o q w (drop i xs ++ end) r → ChainDescribed de c o p v (xs ++ end) r

  pub joined_goes_on : (xs end : List (Place × Term)) (p : Place) (v : Described) (i : ℕ) (q : Place) (w : Described) (at : Place) (e : Term) (u : Described) → Cut xs i (at, e) → Then (de c e) (λ x. Joined o at q (place_of e) w x) (Ok u) → JoinedSoFar xs end p v i q w → JoinedSoFar xs end p v (i + 1) at u
  joined_goes_on xs end p v i q w at e u k (inl (x, h, g)) s r t =
      let Q : List (Place × Term) → Type 0 = λ ys. ChainDescribed de c o q w (ys ++ end) r in
      s r (subst Q (sym k) (inl (x, h, inl (u, g, t))))
  joined_goes_on xs end p v i q w at e u k (inr (f, h, g)) s r t = cc

  pub joined_stops : (xs end : List (Place × Term)) (p : Place) (v : Described) (i : ℕ) (q : Place) (w : Described) (at : Place) (e : Term) (f : EvalFault) → Cut xs i (at, e) → Tells {A = Described} (Err f) (Then (de c e) (λ x. Joined o at q (place_of e) w x)) → JoinedSoFar xs end p v i q w → Tells {A = Described} (Err f) (ChainDescribed de c o p v (xs ++ end))
  joined_stops xs end p v i q w at e (Refused kind place) k t s = s (Err (fault kind place)) (subst (λ (ys : List (Place × Term)). ChainDescribed de c o q w (ys ++ end) (Err (fault kind place))) (sym k) (stopped t))
    where
      stopped : Then (de c e) (λ x. Joined o at q (place_of e) w x) (Err (fault kind place)) → ChainDescribed de c o q w ((at, e) ∷ drop (i + 1) xs ++ end) (Err (fault kind place))
      stopped (inl (x, h, g)) = inl (x, h, inr (fault kind place, g, refl))
      stopped (inr (f, h, g)) = inr (f, h, g)
  joined_stops xs end p v i q w at e NoMemory k t s = tt

  pub joined_ends : (xs : List (Place × Term)) (at : Place) (e : Term) (p : Place) (v : Described) (i : ℕ) (q : Place) (w : Described) (r : Result Described EvalFault) → length xs ≤ i → Tells r (Then (de c e) (λ x. Joined o at q (place_of e) w x)) → JoinedSoFar xs ((at, e) ∷ []) p v i q w → Tells r (ChainDescribed de c o p v (xs ++ (at, e) ∷ []))
  joined_ends xs at e p v i q w r l t s = told r t
    where
      back : (b : Result Described Fault) → ChainDescribed de c o q w ((at, e) ∷ []) b → ChainDescribed de c o q w (drop i xs ++ (at, e) ∷ []) b
      back b h = subst (λ (ys : List (Place × Term)). ChainDescribed de c o q w (ys ++ (at, e) ∷ []) b) (sym (cut_end xs i l)) h

      value : (u : Described) → Then (de c e) (λ x. Joined o at q (place_of e) w x) (Ok u) → ChainDescribed de c o q w ((at, e) ∷ []) (Ok u)
      value u (inl (x, h, g)) = inl (x, h, inl (u, g, refl))
      value u (inr (f, h, g)) = cc

      stopped : (f : Fault) → Then (de c e) (λ x. Joined o at q (place_of e) w x) (Err f) → ChainDescribed de c o q w ((at, e) ∷ []) (Err f)
      stopped f (inl (x, h, g)) = inl (x, h, inr (f, g, refl))
      stopped f (inr (g, h, k)) = inr (g, h, k)

      told : (r : Result Described EvalFault) → Tells r (Then (de c e) (λ x. Joined o at q (place_of e) w x)) → Tells r (ChainDescribed de c o p v (xs ++ (at, e) ∷ []))
      told (Ok u) h = s (Ok u) (back (Ok u) (value u h))
      told (Err (Refused kind place)) h = s (Err (fault kind place)) (back (Err (fault kind place)) (stopped (fault kind place) h))
      told (Err NoMemory) h = tt

-- the chain of all operands
pub joined_whole : (de : Describe) (c : Context) (o : InfixOperator) (os : Operands) (xs end : List (Place × Term)) (p : Place) (v : Described) (r : Result Described EvalFault) → p ≡ place_of (first_operand os) → xs ≡ other_operands os → Tells r (ChainDescribed de c o p v (xs ++ end)) → Tells r (ChainDescribed de c o (place_of (first_operand os)) v (other_operands os ++ end))
joined_whole de c o os xs end p v r e f t =
    let Q : Place → Type 0 = λ q. Tells r (ChainDescribed de c o q v (xs ++ end)) in
    let R : List (Place × Term) → Type 0 = λ ys. Tells r (ChainDescribed de c o (place_of (first_operand os)) v (ys ++ end)) in
    subst R f (subst Q e t)

-- the rows of such a chain
pub joins_described : (ev : Evaluate) (de : Describe) (c : Context) (o : InfixOperator) (os : Operands) (b : Term) (at : Place) (r : Result Described EvalFault) → is_joining o ≡ true → Tells r (Then (de c (first_operand os)) (λ d. ChainDescribed de c o (place_of (first_operand os)) d (other_operands (Next os at b)))) → Tells r (InfixDescribed ev de c o os b at)
joins_described ev de c infix_operator.Implies os b at r p h = cc
joins_described ev de c infix_operator.Equivalent os b at r p h = cc
joins_described ev de c infix_operator.LeadsTo os b at r p h = cc
joins_described ev de c infix_operator.And os b at r p h = cc
joins_described ev de c infix_operator.Or os b at r p h = cc
joins_described ev de c infix_operator.Member os b at r p h = cc
joins_described ev de c infix_operator.NotMember os b at r p h = cc
joins_described ev de c infix_operator.SubsetOrEqual os b at r p h = cc
joins_described ev de c infix_operator.Interval os b at r p h = cc
joins_described ev de c infix_operator.CartesianProduct os b at r p h = cc
joins_described ev de c infix_operator.Union os b at r p h = h
joins_described ev de c infix_operator.Intersection os b at r p h = h
joins_described ev de c infix_operator.Difference os b at r p h = h
joins_described ev de c infix_operator.Equal os b at r p h = cc
joins_described ev de c infix_operator.NotEqual os b at r p h = cc
joins_described ev de c infix_operator.Less os b at r p h = cc
joins_described ev de c infix_operator.Greater os b at r p h = cc
joins_described ev de c infix_operator.LessOrEqual os b at r p h = cc
joins_described ev de c infix_operator.GreaterOrEqual os b at r p h = cc
joins_described ev de c infix_operator.MergedFunctions os b at r p h = cc
joins_described ev de c infix_operator.SingleFunction os b at r p h = cc
joins_described ev de c infix_operator.Plus os b at r p h = cc
joins_described ev de c infix_operator.Minus os b at r p h = cc
joins_described ev de c infix_operator.Times os b at r p h = cc
joins_described ev de c infix_operator.Quotient os b at r p h = cc
joins_described ev de c infix_operator.Remainder os b at r p h = cc
joins_described ev de c infix_operator.Power os b at r p h = cc
joins_described ev de c infix_operator.Concatenation os b at r p h = cc

pub joins_told : (ev : Evaluate) (de : Describe) (c : Context) (o : InfixOperator) (os : Operands) (b : Term) (at : Place) (r : Result Val EvalFault) → is_joining o ≡ true → Tells r (ListedAt at (Then (de c (first_operand os)) (λ d. ChainDescribed de c o (place_of (first_operand os)) d (other_operands (Next os at b))))) → Tells r (InfixEvaluates ev de c o os b at)
joins_told ev de c infix_operator.Implies os b at r p h = cc
joins_told ev de c infix_operator.Equivalent os b at r p h = cc
joins_told ev de c infix_operator.LeadsTo os b at r p h = cc
joins_told ev de c infix_operator.And os b at r p h = cc
joins_told ev de c infix_operator.Or os b at r p h = cc
joins_told ev de c infix_operator.Member os b at r p h = cc
joins_told ev de c infix_operator.NotMember os b at r p h = cc
joins_told ev de c infix_operator.SubsetOrEqual os b at r p h = cc
joins_told ev de c infix_operator.Interval os b at r p h = cc
joins_told ev de c infix_operator.CartesianProduct os b at r p h = cc
joins_told ev de c infix_operator.Union os b at r p h = h
joins_told ev de c infix_operator.Intersection os b at r p h = h
joins_told ev de c infix_operator.Difference os b at r p h = h
joins_told ev de c infix_operator.Equal os b at r p h = cc
joins_told ev de c infix_operator.NotEqual os b at r p h = cc
joins_told ev de c infix_operator.Less os b at r p h = cc
joins_told ev de c infix_operator.Greater os b at r p h = cc
joins_told ev de c infix_operator.LessOrEqual os b at r p h = cc
joins_told ev de c infix_operator.GreaterOrEqual os b at r p h = cc
joins_told ev de c infix_operator.MergedFunctions os b at r p h = cc
joins_told ev de c infix_operator.SingleFunction os b at r p h = cc
joins_told ev de c infix_operator.Plus os b at r p h = cc
joins_told ev de c infix_operator.Minus os b at r p h = cc
joins_told ev de c infix_operator.Times os b at r p h = cc
joins_told ev de c infix_operator.Quotient os b at r p h = cc
joins_told ev de c infix_operator.Remainder os b at r p h = cc
joins_told ev de c infix_operator.Power os b at r p h = cc
joins_told ev de c infix_operator.Concatenation os b at r p h = cc
