-- The shape of the operator of SPECIFICATION: a conjunction of what is true at first, of one step that is always taken, and of fairness.
use Rattle.std.specs.Prelude.{◌≡◌, ◌≢◌, ◌⊎◌, ℕ, false, List, [], ◌∷◌, ◌++◌, Contains, Some, slice_get, map}
use Rattle.std.specs.Borrow.{Bor}
use Rattle.base_core.specs.declared.place.Place.{Place}
use Rattle.reading_trees.specs.declared.operators.PrefixOperator.TheVariants as prefix
use Rattle.reading_trees.specs.declared.operators.Quantifier.TheVariants as quantifier
use Rattle.names_terms.specs.declared.level.Level.{Level}
use Rattle.names_terms.specs.declared.level.Level.TheVariants as levels
use Rattle.names_terms.specs.declared.operator.Operator.{Operator}
use Rattle.names_terms.specs.Terms as term
use Rattle.names_terms.specs.Terms.{Term, Terms, Bounds, Placed, level_of, place_of}
use Rattle.names_terms.specs.Levels.{of_terms}
use Rattle.names_terms.specs.TermViews.{terms_of}
use Rattle.names_term_parts.specs.Limits.{is_above}
use Rattle.names_term_parts.specs.Parts.{listed}

-- A fairness conjunct: WF or SF, `\A` over one, a conjunction of such, or a name without parameters that means one. Parentheses are not seen
-- through.
pub data IsFair (ops : List Operator) : Term → Type 0 where
  weak_or_strong : (at : Place) (l : Level) (v e : Term) → IsFair ops (Placed at l (term.Fairness v e))
  for_all : (at : Place) (l : Level) (bs : Bounds) (e : Term) → IsFair ops e
      → IsFair ops (Placed at l (term.Quantified quantifier.ForAll bs e))
  both : (at : Place) (l : Level) (ts : Terms) → ((e : Term) → Contains (listed ts) e → IsFair ops e)
      → IsFair ops (Placed at l (term.All ts))
  named : (at : Place) (l : Level) (k : ℕ) (o : Operator) → slice_get ops k ≡ Some o → IsFair ops o.body
      → IsFair ops (Placed at l (term.Use k term.NoTerms))

-- what conjuncts add to the conjuncts of Init, and to the actions that are always taken
pub record Contribution : Type 0 where
  pub inits : List Term
  pub steps : List Term

abbrev pub contribution : List Term → List Term → Contribution
contribution is ss = record { inits = is; steps = ss }

abbrev pub both_contributions : Contribution → Contribution → Contribution
both_contributions p q = contribution (p.inits ++ q.inits) (p.steps ++ q.steps)

-- What a conjunct gives. A conjunct of level 3 that is itself a chain or a list, and is no fairness, stands for its conjuncts.
abbrev mutual
  pub Gives : List Operator → Term → Contribution → Type 0
  Gives ops (Placed at levels.Temporal (term.All ts)) p =
      (IsFair ops (Placed at levels.Temporal (term.All ts)) × (p ≡ contribution [] []))
      ⊎ (¬ IsFair ops (Placed at levels.Temporal (term.All ts)) × GivesEach ops ts p)
  Gives ops (Placed at levels.Temporal (term.Prefix prefix.Always (Placed q l (term.BoxAction a v)))) p =
      (is_above (level_of a) levels.Action ≡ false) × (p ≡ contribution [] (a ∷ []))
  Gives ops (Placed at levels.Temporal m) p = IsFair ops (Placed at levels.Temporal m) × (p ≡ contribution [] [])
  Gives ops (Placed at l m) p = (is_above l levels.State ≡ false) × (p ≡ contribution (Placed at l m ∷ []) [])

  pub GivesEach : List Operator → Terms → Contribution → Type 0
  GivesEach ops term.NoTerms p = p ≡ contribution [] []
  GivesEach ops (term.MoreTerms ts e) p = (a b : Contribution) × GivesEach ops ts a × Gives ops e b × (p ≡ both_contributions a b)

-- one conjunct is Init as it is, and several are a conjunction that has the place of the whole
abbrev pub init_of : Place → List Term → Term
init_of at (e ∷ []) = e
init_of at es = Placed at (of_terms (terms_of es)) (term.All (terms_of es))

-- the terms that references stand for
abbrev pub rows : List (Bor Term) → List Term
rows xs = map (λ x. x.now) xs

-- the body is a conjunction that gives Init and Next
pub record HasShape (ops : List Operator) (body init next : Term) : Type 0 where
  pub inits : List Term
  pub some : inits ≢ []
  pub gives : Gives ops body (contribution inits (next ∷ []))
  pub init_is : init ≡ init_of (place_of body) inits
