-- Rows of the language by what their helpers tell.
use Rattle.std.proofs.Common.{◌≡◌, inl, inr, refl, [], ◌∷◌}
use Rattle.std.specs.Prelude.{Bool, true, false, Result, Ok, Err}
use Rattle.base_core.specs.declared.place.Place.{Place}
use Rattle.values_core.specs.Data.{Val, model, truth, integer, string, set, function}
use Rattle.values_core.specs.Sets.{IsSet, items_of}
use Rattle.reading_trees.specs.declared.operators.InfixOperator.{InfixOperator}
use Rattle.reading_trees.specs.declared.operators.InfixOperator.TheVariants as infix_operator
use Rattle.names_terms.specs.Terms.{Term, Operands, First, Infix, Next, place_of}
use Rattle.eval_meanings.specs.declared.fault.EvalFault.{EvalFault}
use Rattle.eval_meanings.specs.declared.fault.EvalFault.TheVariants.{Refused, NoMemory}
use Rattle.eval_meanings.specs.Answers.{Tells, is_joining}
use Rattle.eval_meanings.specs.Binders.{members_at}
use Rattle.eval_meanings.specs.Contexts.{Context, Evaluate, Describe, Table}
use Rattle.values_sets.specs.DescribedSets.{Described}
use Rattle.eval_meanings.specs.Meanings.{ChainEvaluates, InfixDescribed, InfixEvaluates, IsValueOf, MeaningDescribes, MeaningEvaluates}
use Rattle.eval_meanings.specs.Sets.{ChainDescribed, ListedAt, first_operand, other_operands}
use Rattle.eval_parts.specs.Scenes.{Stops, makes_set, truth_answer}
use Rattle.eval_meanings.specs.Outcomes.{Outcome, AllTrue, Gives, Then}

-- a part of which nothing more is made
pub gives_it : {A : Type 0} (P : Outcome A) (r : Result A EvalFault) → Tells r P → Tells r (Then P (λ u. Gives u))
gives_it P (Ok v) h = inl (v, h, refl)
gives_it P (Err (Refused kind at)) h = inr (_, h, refl)
gives_it P (Err NoMemory) h = tt

pub members_of : (at : Place) (v : Val) → IsSet v → members_at at v (Ok (items_of v))
members_of at (set vs) s = refl
members_of at (model s) h = absurd h
members_of at (truth b) h = absurd h
members_of at (integer z) h = absurd h
members_of at (string s) h = absurd h
members_of at (function ps) h = absurd h

-- an operator on values that makes no described set
abbrev pub is_plain : InfixOperator → Bool
is_plain infix_operator.Implies = false
is_plain infix_operator.Equivalent = false
is_plain infix_operator.LeadsTo = false
is_plain infix_operator.And = false
is_plain infix_operator.Or = false
is_plain infix_operator.Member = false
is_plain infix_operator.NotMember = false
is_plain infix_operator.SubsetOrEqual = false
is_plain infix_operator.Interval = false
is_plain infix_operator.CartesianProduct = false
is_plain infix_operator.Union = false
is_plain infix_operator.Intersection = false
is_plain infix_operator.Difference = false
is_plain o = true

pub pair_told : (ev : Evaluate) (de : Describe) (c : Context) (o : InfixOperator) (a b : Term) (at : Place) (r : Result Val EvalFault) → is_plain o ≡ true → Tells r (Then (ev c a) (λ v. ChainEvaluates ev c o (place_of a) v ((at, b) ∷ []))) → Tells r (InfixEvaluates ev de c o (First a) b at)
pair_told ev de c infix_operator.Implies a b at r p h = cc
pair_told ev de c infix_operator.Equivalent a b at r p h = cc
pair_told ev de c infix_operator.LeadsTo a b at r p h = cc
pair_told ev de c infix_operator.And a b at r p h = cc
pair_told ev de c infix_operator.Or a b at r p h = cc
pair_told ev de c infix_operator.Member a b at r p h = cc
pair_told ev de c infix_operator.NotMember a b at r p h = cc
pair_told ev de c infix_operator.SubsetOrEqual a b at r p h = cc
pair_told ev de c infix_operator.Interval a b at r p h = cc
pair_told ev de c infix_operator.CartesianProduct a b at r p h = cc
pair_told ev de c infix_operator.Union a b at r p h = cc
pair_told ev de c infix_operator.Intersection a b at r p h = cc
pair_told ev de c infix_operator.Difference a b at r p h = cc
pair_told ev de c infix_operator.Equal a b at r p h = h
pair_told ev de c infix_operator.NotEqual a b at r p h = h
pair_told ev de c infix_operator.Less a b at r p h = h
pair_told ev de c infix_operator.Greater a b at r p h = h
pair_told ev de c infix_operator.LessOrEqual a b at r p h = h
pair_told ev de c infix_operator.GreaterOrEqual a b at r p h = h
pair_told ev de c infix_operator.MergedFunctions a b at r p h = h
pair_told ev de c infix_operator.SingleFunction a b at r p h = h
pair_told ev de c infix_operator.Plus a b at r p h = h
pair_told ev de c infix_operator.Minus a b at r p h = h
pair_told ev de c infix_operator.Times a b at r p h = h
pair_told ev de c infix_operator.Quotient a b at r p h = h
pair_told ev de c infix_operator.Remainder a b at r p h = h
pair_told ev de c infix_operator.Power a b at r p h = h
pair_told ev de c infix_operator.Concatenation a b at r p h = h

pub chain_told : (ev : Evaluate) (de : Describe) (c : Context) (o : InfixOperator) (os : Operands) (b : Term) (at : Place) (r : Result Val EvalFault) → is_plain o ≡ true → Tells r (Then (ev c (first_operand os)) (λ v. ChainEvaluates ev c o (place_of (first_operand os)) v (other_operands (Next os at b)))) → Tells r (InfixEvaluates ev de c o os b at)
chain_told ev de c infix_operator.Implies os b at r p h = cc
chain_told ev de c infix_operator.Equivalent os b at r p h = cc
chain_told ev de c infix_operator.LeadsTo os b at r p h = cc
chain_told ev de c infix_operator.And os b at r p h = cc
chain_told ev de c infix_operator.Or os b at r p h = cc
chain_told ev de c infix_operator.Member os b at r p h = cc
chain_told ev de c infix_operator.NotMember os b at r p h = cc
chain_told ev de c infix_operator.SubsetOrEqual os b at r p h = cc
chain_told ev de c infix_operator.Interval os b at r p h = cc
chain_told ev de c infix_operator.CartesianProduct os b at r p h = cc
chain_told ev de c infix_operator.Union os b at r p h = cc
chain_told ev de c infix_operator.Intersection os b at r p h = cc
chain_told ev de c infix_operator.Difference os b at r p h = cc
chain_told ev de c infix_operator.Equal os b at r p h = h
chain_told ev de c infix_operator.NotEqual os b at r p h = h
chain_told ev de c infix_operator.Less os b at r p h = h
chain_told ev de c infix_operator.Greater os b at r p h = h
chain_told ev de c infix_operator.LessOrEqual os b at r p h = h
chain_told ev de c infix_operator.GreaterOrEqual os b at r p h = h
chain_told ev de c infix_operator.MergedFunctions os b at r p h = h
chain_told ev de c infix_operator.SingleFunction os b at r p h = h
chain_told ev de c infix_operator.Plus os b at r p h = h
chain_told ev de c infix_operator.Minus os b at r p h = h
chain_told ev de c infix_operator.Times os b at r p h = h
chain_told ev de c infix_operator.Quotient os b at r p h = h
chain_told ev de c infix_operator.Remainder os b at r p h = h
chain_told ev de c infix_operator.Power os b at r p h = h
chain_told ev de c infix_operator.Concatenation os b at r p h = h

-- a part that stops ends the whole
pub stops_then : {A B : Type 0} (P : Outcome A) (K : A → Outcome B) (f : EvalFault) → Stops P f → Tells {A = B} (Err f) (Then P K)
stops_then P K (Refused kind at) h = inr (_, h, refl)
stops_then P K NoMemory h = tt

pub joined_told : (ev : Evaluate) (de : Describe) (c : Context) (o : InfixOperator) (a b : Term) (at : Place) (r : Result Val EvalFault) → is_joining o ≡ true → Tells r (ListedAt at (Then (de c a) (λ d. ChainDescribed de c o (place_of a) d ((at, b) ∷ [])))) → Tells r (InfixEvaluates ev de c o (First a) b at)
joined_told ev de c infix_operator.Implies a b at r p h = cc
joined_told ev de c infix_operator.Equivalent a b at r p h = cc
joined_told ev de c infix_operator.LeadsTo a b at r p h = cc
joined_told ev de c infix_operator.And a b at r p h = cc
joined_told ev de c infix_operator.Or a b at r p h = cc
joined_told ev de c infix_operator.Member a b at r p h = cc
joined_told ev de c infix_operator.NotMember a b at r p h = cc
joined_told ev de c infix_operator.SubsetOrEqual a b at r p h = cc
joined_told ev de c infix_operator.Interval a b at r p h = cc
joined_told ev de c infix_operator.CartesianProduct a b at r p h = cc
joined_told ev de c infix_operator.Union a b at r p h = h
joined_told ev de c infix_operator.Intersection a b at r p h = h
joined_told ev de c infix_operator.Difference a b at r p h = h
joined_told ev de c infix_operator.Equal a b at r p h = cc
joined_told ev de c infix_operator.NotEqual a b at r p h = cc
joined_told ev de c infix_operator.Less a b at r p h = cc
joined_told ev de c infix_operator.Greater a b at r p h = cc
joined_told ev de c infix_operator.LessOrEqual a b at r p h = cc
joined_told ev de c infix_operator.GreaterOrEqual a b at r p h = cc
joined_told ev de c infix_operator.MergedFunctions a b at r p h = cc
joined_told ev de c infix_operator.SingleFunction a b at r p h = cc
joined_told ev de c infix_operator.Plus a b at r p h = cc
joined_told ev de c infix_operator.Minus a b at r p h = cc
joined_told ev de c infix_operator.Times a b at r p h = cc
joined_told ev de c infix_operator.Quotient a b at r p h = cc
joined_told ev de c infix_operator.Remainder a b at r p h = cc
joined_told ev de c infix_operator.Power a b at r p h = cc
joined_told ev de c infix_operator.Concatenation a b at r p h = cc

-- what nothing more is made of, behind a part
pub next_told : {A B : Type 0} (P : Outcome A) (K : A → Outcome B) (r : Result B EvalFault) → Tells r (Then P K) → Tells r (Then P (λ w. Then (K w) (λ u. Gives u)))
next_told P K (Ok u) (inl (w, h, g)) = inl (w, h, inl (u, g, refl))
next_told P K (Ok u) (inr (f, h, g)) = cc
next_told P K (Err (Refused kind at)) (inl (w, h, g)) = inl (w, h, inr (_, g, refl))
next_told P K (Err (Refused kind at)) (inr (f, h, g)) = inr (f, h, g)
next_told P K (Err NoMemory) t = tt

-- whether all of one are true
pub one_true : {A : Type 0} (P : A → Outcome Bool) (x : A) (r : Result Bool EvalFault) → Tells r (P x) → Tells r (AllTrue P (x ∷ []))
one_true P x (Ok true) h = inl (true, h, refl)
one_true P x (Ok false) h = inl (false, h, refl)
one_true P x (Err (Refused kind at)) h = inr (_, h, refl)
one_true P x (Err NoMemory) h = tt

-- a truth value as a value
pub truth_told : (P : Outcome Bool) (r : Result Bool EvalFault) → Tells r P → Tells (truth_answer r) (Then P (λ b. Gives (truth b)))
truth_told P (Ok b) h = inl (b, h, refl)
truth_told P (Err (Refused kind at)) h = inr (_, h, refl)
truth_told P (Err NoMemory) h = tt

-- what an infix operator describes
pub plain_described : (ops : Table) (ev : Evaluate) (de : Describe) (c : Context) (o : InfixOperator) (os : Operands) (b : Term) (at : Place) (r : Result Described EvalFault) → makes_set o ≡ false → Tells r (IsValueOf (MeaningEvaluates ops ev de c at (Infix o os b))) → Tells r (MeaningDescribes ops ev de c at (Infix o os b))
plain_described ops ev de c infix_operator.Implies os b at r p h = h
plain_described ops ev de c infix_operator.Equivalent os b at r p h = h
plain_described ops ev de c infix_operator.LeadsTo os b at r p h = h
plain_described ops ev de c infix_operator.And os b at r p h = h
plain_described ops ev de c infix_operator.Or os b at r p h = h
plain_described ops ev de c infix_operator.Member os b at r p h = h
plain_described ops ev de c infix_operator.NotMember os b at r p h = h
plain_described ops ev de c infix_operator.SubsetOrEqual os b at r p h = h
plain_described ops ev de c infix_operator.Interval os b at r p h = cc
plain_described ops ev de c infix_operator.CartesianProduct os b at r p h = cc
plain_described ops ev de c infix_operator.Union os b at r p h = cc
plain_described ops ev de c infix_operator.Intersection os b at r p h = cc
plain_described ops ev de c infix_operator.Difference os b at r p h = cc
plain_described ops ev de c infix_operator.Equal os b at r p h = h
plain_described ops ev de c infix_operator.NotEqual os b at r p h = h
plain_described ops ev de c infix_operator.Less os b at r p h = h
plain_described ops ev de c infix_operator.Greater os b at r p h = h
plain_described ops ev de c infix_operator.LessOrEqual os b at r p h = h
plain_described ops ev de c infix_operator.GreaterOrEqual os b at r p h = h
plain_described ops ev de c infix_operator.MergedFunctions os b at r p h = h
plain_described ops ev de c infix_operator.SingleFunction os b at r p h = h
plain_described ops ev de c infix_operator.Plus os b at r p h = h
plain_described ops ev de c infix_operator.Minus os b at r p h = h
plain_described ops ev de c infix_operator.Times os b at r p h = h
plain_described ops ev de c infix_operator.Quotient os b at r p h = h
plain_described ops ev de c infix_operator.Remainder os b at r p h = h
plain_described ops ev de c infix_operator.Power os b at r p h = h
plain_described ops ev de c infix_operator.Concatenation os b at r p h = h

pub made_described : (ops : Table) (ev : Evaluate) (de : Describe) (c : Context) (o : InfixOperator) (os : Operands) (b : Term) (at : Place) (r : Result Described EvalFault) → makes_set o ≡ true → Tells r (InfixDescribed ev de c o os b at) → Tells r (MeaningDescribes ops ev de c at (Infix o os b))
made_described ops ev de c infix_operator.Implies os b at r p h = cc
made_described ops ev de c infix_operator.Equivalent os b at r p h = cc
made_described ops ev de c infix_operator.LeadsTo os b at r p h = cc
made_described ops ev de c infix_operator.And os b at r p h = cc
made_described ops ev de c infix_operator.Or os b at r p h = cc
made_described ops ev de c infix_operator.Member os b at r p h = cc
made_described ops ev de c infix_operator.NotMember os b at r p h = cc
made_described ops ev de c infix_operator.SubsetOrEqual os b at r p h = cc
made_described ops ev de c infix_operator.Interval os b at r p h = h
made_described ops ev de c infix_operator.CartesianProduct os b at r p h = h
made_described ops ev de c infix_operator.Union os b at r p h = h
made_described ops ev de c infix_operator.Intersection os b at r p h = h
made_described ops ev de c infix_operator.Difference os b at r p h = h
made_described ops ev de c infix_operator.Equal os b at r p h = cc
made_described ops ev de c infix_operator.NotEqual os b at r p h = cc
made_described ops ev de c infix_operator.Less os b at r p h = cc
made_described ops ev de c infix_operator.Greater os b at r p h = cc
made_described ops ev de c infix_operator.LessOrEqual os b at r p h = cc
made_described ops ev de c infix_operator.GreaterOrEqual os b at r p h = cc
made_described ops ev de c infix_operator.MergedFunctions os b at r p h = cc
made_described ops ev de c infix_operator.SingleFunction os b at r p h = cc
made_described ops ev de c infix_operator.Plus os b at r p h = cc
made_described ops ev de c infix_operator.Minus os b at r p h = cc
made_described ops ev de c infix_operator.Times os b at r p h = cc
made_described ops ev de c infix_operator.Quotient os b at r p h = cc
made_described ops ev de c infix_operator.Remainder os b at r p h = cc
made_described ops ev de c infix_operator.Power os b at r p h = cc
made_described ops ev de c infix_operator.Concatenation os b at r p h = cc

pub joined_described : (ev : Evaluate) (de : Describe) (c : Context) (o : InfixOperator) (a b : Term) (at : Place) (r : Result Described EvalFault) → is_joining o ≡ true → Tells r (Then (de c a) (λ d. ChainDescribed de c o (place_of a) d ((at, b) ∷ []))) → Tells r (InfixDescribed ev de c o (First a) b at)
joined_described ev de c infix_operator.Implies a b at r p h = cc
joined_described ev de c infix_operator.Equivalent a b at r p h = cc
joined_described ev de c infix_operator.LeadsTo a b at r p h = cc
joined_described ev de c infix_operator.And a b at r p h = cc
joined_described ev de c infix_operator.Or a b at r p h = cc
joined_described ev de c infix_operator.Member a b at r p h = cc
joined_described ev de c infix_operator.NotMember a b at r p h = cc
joined_described ev de c infix_operator.SubsetOrEqual a b at r p h = cc
joined_described ev de c infix_operator.Interval a b at r p h = cc
joined_described ev de c infix_operator.CartesianProduct a b at r p h = cc
joined_described ev de c infix_operator.Union a b at r p h = h
joined_described ev de c infix_operator.Intersection a b at r p h = h
joined_described ev de c infix_operator.Difference a b at r p h = h
joined_described ev de c infix_operator.Equal a b at r p h = cc
joined_described ev de c infix_operator.NotEqual a b at r p h = cc
joined_described ev de c infix_operator.Less a b at r p h = cc
joined_described ev de c infix_operator.Greater a b at r p h = cc
joined_described ev de c infix_operator.LessOrEqual a b at r p h = cc
joined_described ev de c infix_operator.GreaterOrEqual a b at r p h = cc
joined_described ev de c infix_operator.MergedFunctions a b at r p h = cc
joined_described ev de c infix_operator.SingleFunction a b at r p h = cc
joined_described ev de c infix_operator.Plus a b at r p h = cc
joined_described ev de c infix_operator.Minus a b at r p h = cc
joined_described ev de c infix_operator.Times a b at r p h = cc
joined_described ev de c infix_operator.Quotient a b at r p h = cc
joined_described ev de c infix_operator.Remainder a b at r p h = cc
joined_described ev de c infix_operator.Power a b at r p h = cc
joined_described ev de c infix_operator.Concatenation a b at r p h = cc
