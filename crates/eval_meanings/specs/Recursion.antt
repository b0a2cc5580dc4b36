-- Functions that use themselves: a definition N[B] == E whose body applies N. At a key such a function has the value of E, and it is not listed.
use Rattle.std.specs.Prelude.{ℕ, List, [], ◌∷◌, ◌++◌, Option, Some, None, replicate, slice_get}
use Rattle.base_core.specs.declared.place.Place.{Place}
use Rattle.values_core.specs.Data.{Val}
use Rattle.values_core.specs.Functions.{values_in}
use Rattle.values_core.specs.declared.fault.EvalKind.TheVariants.{OutsideDomain}
use Rattle.names_terms.specs.declared.operator.Operator.{Operator}
use Rattle.names_terms.specs.declared.operator.Own.{Own}
use Rattle.names_terms.specs.declared.operator.Own.TheVariants as owns
use Rattle.names_terms.specs.Lists.{bounds_list}
use Rattle.names_terms.specs.Terms as term
use Rattle.names_terms.specs.Terms.{Term, Placed, Bounds, Step, Steps}
use Rattle.values_sets.specs.DescribedSets.{Described}
use Rattle.eval_meanings.specs.Outcomes.{Outcome, Fails, Then, Either}
use Rattle.eval_meanings.specs.Contexts.{Context, Table, Evaluate, Describe, bind}
use Rattle.eval_meanings.specs.Sets.{MeansSet, IsIn, ProductDescribed}

-- how many slots stand around the definition, which names it binds over which sets, and what the function is there
pub record Recursion : Type 0 where
  pub around : ℕ
  pub bounds : Bounds
  pub value : Term

-- that of a definition that is marked as one
abbrev pub marked_so : Own → ℕ → Term → Option Recursion
marked_so owns.Function n (Placed at l (term.Function bs e)) = Some (record { around = n; bounds = bs; value = e })
marked_so own n body = None

abbrev pub recursion_at : Option Operator → Option Recursion
recursion_at None = None
recursion_at (Some o) = marked_so o.own o.outer o.body

-- that which a term names
abbrev pub recursion_of : Table → Term → Option Recursion
recursion_of ops (Placed at l (term.Use k term.NoTerms)) = recursion_at (slice_get ops k)
recursion_of ops e = None

-- that to which a step behind a term and other steps gives a key: N[a], where [a] stands next behind N
abbrev pub applied_by : Table → Term → Steps → Step → Option Recursion
applied_by ops e term.NoSteps (term.Index ts) = recursion_of ops e
applied_by ops e ss s = None

-- the set of each name that bounds bind
abbrev pub sets_of_names : List (ℕ × Term) → List Term
sets_of_names [] = []
sets_of_names (b ∷ bs) = replicate b.0 b.1 ++ sets_of_names bs

-- The keys, which are described and not listed: of one name the members of its set, and of several the members of the product of theirs.
abbrev pub KeysDescribed : Describe → Context → List Term → Outcome Described
KeysDescribed describe c (e ∷ []) = MeansSet describe c e
KeysDescribed describe c es = ProductDescribed describe c es

-- the values of the names at a key
abbrev pub names_at : List Term → Val → List Val
names_at (e ∷ []) key = key ∷ []
names_at es key = values_in key

-- The value at a key, in the scope of the definition; what is no key is outside the domain.
abbrev pub RecursionEvaluates : Evaluate → Describe → Context → Place → Recursion → Val → Outcome Val
RecursionEvaluates evaluate describe c at g key =
    let es : List Term = sets_of_names (bounds_list g.bounds) in
    Then (KeysDescribed describe c es) (λ d. Then (IsIn d key) (λ b. Either b (evaluate (bind c (names_at es key)) g.value) (Fails OutsideDomain at)))
