-- Which variables a term reads of the state that is made: in Init each, and in an action those under a prime, through calls too.
use Rattle.std.specs.Prelude.{◌≡◌, ℕ, zero, suc, Bool, true, false, ◌&&◌, ◌||◌, ◌==◌, List, [], ◌∷◌, ◌++◌, map, Option, Some, None, All, flat_map, slice_get}
use Rattle.base_core.specs.declared.place.Place.{Place}
use Rattle.names_terms.specs.declared.operator.Operator.{Operator}
use Rattle.names_terms.specs.declared.level.Level.TheVariants as levels
use Rattle.names_terms.specs.Lists.{terms_list, steps_list, changes_list, arms_list}
use Rattle.names_terms.specs.Terms as term
use Rattle.names_terms.specs.Terms.{Term, Placed, Meaning, Step, Steps}
use Rattle.names_term_parts.specs.Parts.{Part, part, parts, operand_list, set_list, value_list, arm_list}
use Rattle.eval_meanings.specs.Contexts.{Table}
use Rattle.eval_meanings.specs.Unchanged.{unchanged_of, changed_of}

abbrev pub VariableSet : Type 0
VariableSet = ℕ → Bool

abbrev pub in_none : VariableSet
in_none x = false

-- the variables of either
abbrev pub united : VariableSet → VariableSet → VariableSet
united B C x = B x || C x

abbrev pub with_variable : VariableSet → ℕ → VariableSet
with_variable B x y = B y || (x == y)

-- the body of a definition, if it is there
abbrev pub body_of : Option Operator → List Term
body_of None = []
body_of (Some o) = o.body ∷ []

abbrev pub step_terms : Step → List Term
step_terms (term.Index ts) = terms_list ts
step_terms s = []

abbrev pub path_terms : Steps → List Term
path_terms ss = flat_map (λ s. step_terms s.1) (steps_list ss)

-- The terms of which a term is made, from left to right, the body of a definition behind its arguments. What `[A]_v` and `<<A>>_v` mean of v is a
-- term that no text spells.
abbrev pub terms_in : Table → Place → Meaning → List Term
terms_in ops at (term.Use k ts) = terms_list ts ++ body_of (slice_get ops k)
terms_in ops at (term.Standard o ts) = terms_list ts
terms_in ops at (term.Parenthesized e) = e ∷ []
terms_in ops at (term.Scoped ks e) = e ∷ []
terms_in ops at (term.All ts) = terms_list ts
terms_in ops at (term.Any ts) = terms_list ts
terms_in ops at (term.Prefix o e) = e ∷ []
terms_in ops at (term.Infix o os e) = operand_list os ++ e ∷ []
terms_in ops at (term.Postfix e ss s) = e ∷ path_terms ss ++ step_terms s
terms_in ops at (term.SetOf ts) = terms_list ts
terms_in ops at (term.Filter s e) = s ∷ e ∷ []
terms_in ops at (term.Map e bs) = e ∷ set_list bs
terms_in ops at (term.Tuple ts) = terms_list ts
terms_in ops at (term.Function bs e) = set_list bs ++ e ∷ []
terms_in ops at (term.FunctionSet s e) = s ∷ e ∷ []
terms_in ops at (term.Record fs) = value_list fs
terms_in ops at (term.RecordSet fs) = value_list fs
terms_in ops at (term.Except e cs) = e ∷ flat_map (λ change. path_terms change.0 ++ change.1 ∷ []) (changes_list cs)
terms_in ops at (term.Quantified q bs e) = set_list bs ++ e ∷ []
terms_in ops at (term.Choose s e) = s ∷ e ∷ []
terms_in ops at (term.If p e f) = p ∷ e ∷ f ∷ []
terms_in ops at (term.Case arms) = arm_list arms
terms_in ops at (term.CaseOther arms e) = arm_list arms ++ e ∷ []
terms_in ops at (term.BoxAction e v) = e ∷ unchanged_of at v ∷ []
terms_in ops at (term.AngleAction e v) = e ∷ changed_of at v ∷ []
terms_in ops at (term.Fairness v e) = v ∷ e ∷ []
terms_in ops at m = []

-- The term, with all that it uses, is at most k levels high; of a constant term nothing is asked. Where definitions use earlier ones alone, every
-- term is so for some k.
abbrev pub Ends : Table → ℕ → Term → Type 0
Ends ops zero e = ⊥
Ends ops (suc k) (Placed at levels.Constant m) = Unit {0}
Ends ops (suc k) (Placed at l m) = All (Ends ops k) (terms_in ops at m)

-- parts with whether they stand under a prime, the body of a definition with its use
abbrev pub parts_in : Table → Bool → Meaning → List Part
parts_in ops b (term.Use k ts) = parts b (term.Use k ts) ++ map (part b) (body_of (slice_get ops k))
parts_in ops b m = parts b m

abbrev pub read_among : (Part → VariableSet) → List Part → VariableSet
read_among of [] = in_none
read_among of (p ∷ ps) = united (of p) (read_among of ps)

abbrev pub reads_meaning : (Part → VariableSet) → Table → Bool → Meaning → VariableSet
reads_meaning of ops b (term.Variable y) x = b && (y == x)
reads_meaning of ops b m x = read_among of (parts_in ops b m) x

-- what a term reads that is at most k levels high: variables under a prime, or all where it stands under one; a constant term reads none
abbrev pub reads : Table → ℕ → Bool → Term → VariableSet
reads ops zero b e = in_none
reads ops (suc k) b (Placed at levels.Constant m) = in_none
reads ops (suc k) b (Placed at l m) = reads_meaning (λ p. reads ops k p.primed p.term) ops b m

-- what a primary reads with steps behind it, all of it under a prime
abbrev pub reads_primed : Table → ℕ → Term → Steps → VariableSet
reads_primed ops k e ss = united (reads ops k true e) (read_among (λ e. reads ops k true e.term) (map (part true) (path_terms ss)))
