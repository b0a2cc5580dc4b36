-- For the prover: the conjuncts of the operator of SPECIFICATION, one at a time.
use Rattle.std.specs.Prelude.{◌≡◌, ◌≢◌, ◌⊎◌, ◌++◌, ℕ, Bool, true, false, List, [], ◌∷◌, Option, Some, None, Contains, reverse}
use Rattle.reading_trees.specs.declared.operators.PrefixOperator.{PrefixOperator}
use Rattle.reading_trees.specs.declared.operators.PrefixOperator.TheVariants as prefix
use Rattle.names_terms.specs.declared.level.Level.TheVariants as levels
use Rattle.names_terms.specs.declared.operator.Operator.{Operator}
use Rattle.names_terms.specs.Terms as term
use Rattle.names_terms.specs.Terms.{Term, Meaning, level_of, meaning_of}
use Rattle.names_term_levels.specs.declared.gathering.Gathered.{Gathered}
use Rattle.names_term_levels.specs.declared.gathering.Conjunct.{Conjunct}
use Rattle.names_term_levels.specs.declared.gathering.Conjunct.TheVariants as conjunct
use Rattle.names_term_levels.specs.declared.shape.Shape.{Shape}
use Rattle.names_term_parts.specs.Limits.{is_above}
use Rattle.names_term_parts.specs.Parts.{listed}
use Rattle.names_term_levels.specs.Shape.{rows, IsFair, Contribution, Gives, both_contributions, contribution}
use Rattle.names_term_parts.specs.Slots.{MentionsBelow}

-- the action of `[A]_v`
abbrev pub boxed : Meaning → Option Term
boxed (term.BoxAction a v) = Some a
boxed m = None

abbrev pub always : PrefixOperator → Option Term → Option Term
always prefix.Always o = o
always p o = None

-- the action of `[][A]_v`
abbrev pub taken : Meaning → Option Term
taken (term.Prefix o e) = always o (boxed (meaning_of e))
taken m = None

abbrev pub IsNoConjunction : Meaning → Type 0
IsNoConjunction (term.All ts) = ⊥
IsNoConjunction m = Unit {0}

-- what a term of level 3 that is no fairness is
abbrev pub IsUnfair : Meaning → Conjunct → Type 0
IsUnfair m conjunct.Init = ⊥
IsUnfair m conjunct.Fairness = ⊥
IsUnfair m (conjunct.Step a) = (taken m ≡ Some a.now) × (is_above (level_of a.now) levels.Action ≡ false)
IsUnfair m (conjunct.Conjunction ts) = m ≡ term.All ts.now
IsUnfair m conjunct.Other = IsNoConjunction m × ((a : Term) → taken m ≡ Some a → is_above (level_of a) levels.Action ≡ true)

-- what a conjunct is
abbrev pub IsConjunct : List Operator → Term → Conjunct → Type 0
IsConjunct ops e conjunct.Init = is_above (level_of e) levels.State ≡ false
IsConjunct ops e conjunct.Fairness = (level_of e ≡ levels.Temporal) × IsFair ops e
IsConjunct ops e (conjunct.Step a) = (level_of e ≡ levels.Temporal) × ¬ IsFair ops e × IsUnfair (meaning_of e) (conjunct.Step a)
IsConjunct ops e (conjunct.Conjunction ts) = (level_of e ≡ levels.Temporal) × ¬ IsFair ops e × IsUnfair (meaning_of e) (conjunct.Conjunction ts)
IsConjunct ops e conjunct.Other = (level_of e ≡ levels.Action) ⊎ ((level_of e ≡ levels.Temporal) × ¬ IsFair ops e × IsUnfair (meaning_of e) conjunct.Other)

abbrev pub contribution_of : Gathered → Contribution
contribution_of g = contribution (rows g.inits.items) (rows g.steps.items)

-- what a conjunct does to the stack and to what was gathered
abbrev pub Does : Conjunct → Term → List Term → List Term → Contribution → Contribution → Type 0
Does conjunct.Init e s t p q = (t ≡ s) × (q ≡ contribution (p.inits ++ e ∷ []) p.steps)
Does conjunct.Fairness e s t p q = (t ≡ s) × (q ≡ p)
Does (conjunct.Step a) e s t p q = (t ≡ s) × (q ≡ contribution p.inits (p.steps ++ a.now ∷ []))
Does (conjunct.Conjunction ts) e s t p q = (t ≡ s ++ reverse (listed ts.now)) × (q ≡ p)
Does conjunct.Other e s t p q = ⊥

abbrev pub Becomes : Bool → Contribution → Contribution → Type 0
Becomes b new wanted = (b ≡ true) × (new ≡ wanted)

abbrev pub Opens : Bool → List Term → List Term → Type 0
Opens b new wanted = (b ≡ true) × (new ≡ wanted)

abbrev pub Takes : List Operator → Term → Bool → List Term → List Term → Contribution → Contribution → Type 0
Takes ops e true s t p q = (k : Conjunct) × IsConjunct ops e k × Does k e s t p q
Takes ops e false s t p q = IsConjunct ops e conjunct.Other

-- what the terms on a stack give, the top being the first
abbrev pub GivesStack : List Operator → List Term → Contribution → Type 0
GivesStack ops [] p = p ≡ contribution [] []
GivesStack ops (e ∷ es) p = (a b : Contribution) × GivesStack ops es a × Gives ops e b × (p ≡ both_contributions a b)

-- the body gives what was gathered and what the stack gives
pub record IsGathering (ops : List Operator) (known : ℕ) (body : Term) (stack : List Term) (so_far : Contribution) : Type 0 where
  pub needs : (p : Contribution) → Gives ops body p → (q : Contribution) × GivesStack ops stack q × (p ≡ both_contributions so_far q)
  pub suffices : (q : Contribution) → GivesStack ops stack q → Gives ops body (both_contributions so_far q)
  pub below : (e : Term) → Contains stack e → MentionsBelow known e

-- conjuncts of Init and one action
abbrev pub IsShapeOf : Contribution → Shape → Type 0
IsShapeOf p s = (p ≡ contribution (rows s.inits.items) (s.next.now ∷ [])) × (rows s.inits.items ≢ [])

abbrev pub IsNoShape : Contribution → Type 0
IsNoShape p = (is : List Term) (a : Term) → p ≡ contribution is (a ∷ []) → is ≡ []
