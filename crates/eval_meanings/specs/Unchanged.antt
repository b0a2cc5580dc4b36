-- UNCHANGED e, [A]_v and <<A>>_v: what they mean, as terms that no text spells, which have the place of the term that means them.
use Rattle.std.specs.Prelude.{◌≡◌, ℕ, zero, suc, min, Bool, [], ◌∷◌, length, Some, None, slice_get}
use Rattle.base_core.specs.declared.place.Place.{Place}
use Rattle.reading_trees.specs.declared.operators.PrefixOperator.TheVariants as prefix
use Rattle.reading_trees.specs.declared.operators.InfixOperator.TheVariants as infix_operator
use Rattle.names_terms.specs.declared.level.Level.TheVariants as levels
use Rattle.names_terms.specs.Lists.{terms_list}
use Rattle.names_terms.specs.Terms as term
use Rattle.names_terms.specs.Terms.{Term, Placed, place_of}
use Rattle.eval_meanings.specs.Outcomes.{Outcome, Then, Decides, AllTrue, SomeTrue, truth_at}
use Rattle.eval_meanings.specs.Contexts.{Context, Table, Evaluate, within}

-- the truth value that a term has
abbrev pub TruthOf : Evaluate → Context → Term → Outcome Bool
TruthOf evaluate c e = Then (evaluate c e) (truth_at (place_of e))

-- e', UNCHANGED e and e' # e
abbrev pub prime_of : Place → Term → Term
prime_of at e = Placed at levels.Action (term.Postfix e term.NoSteps term.Prime)

abbrev pub unchanged_of : Place → Term → Term
unchanged_of at e = Placed at levels.Action (term.Prefix prefix.Unchanged e)

abbrev pub changed_of : Place → Term → Term
changed_of at e = Placed at levels.Action (term.Infix infix_operator.NotEqual (term.First (prime_of at e)) e)

-- What stands behind a name of level 1 without arguments, and behind those that it stands for, with how many of the slots in scope are in scope there.
-- Following a name is no evaluation. Names stand for names with smaller numbers, so that as many as there are definitions may follow each other.
abbrev pub behind : Table → ℕ → ℕ → Term → ℕ × Term
behind ops zero m e = (m, e)
behind ops (suc n) m (Placed at levels.State (term.Use k term.NoTerms)) = elim (slice_get ops k) [
  | None ↦ (m, Placed at levels.State (term.Use k term.NoTerms))
  | Some o ↦ behind ops n (min o.outer m) o.body
]
behind ops (suc n) m e = (m, e)

-- e' = e: first e', then e
abbrev pub StaysSame : Evaluate → Context → Place → Term → Outcome Bool
StaysSame evaluate c at e = Then (evaluate c (prime_of at e)) (λ v. Then (evaluate c e) (λ w. Decides (v ≡ w)))

-- Of a variable that it stays the same; of a tuple that each of its parts is unchanged, up to the first that is not; and of anything else that
-- its value stays the same. A name is followed to a variable or a tuple.
abbrev pub MeansUnchanged : Evaluate → Context → Place → Term → Context → Term → Outcome Bool
MeansUnchanged evaluate c at e d (Placed p l (term.Variable x)) = StaysSame evaluate c at (Placed at levels.State (term.Variable x))
MeansUnchanged evaluate c at e d (Placed p l (term.Tuple ts)) = AllTrue (λ item. TruthOf evaluate d (unchanged_of at item)) (terms_list ts)
MeansUnchanged evaluate c at e d f = StaysSame evaluate c at e

abbrev pub IsUnchanged : Table → Evaluate → Context → Place → Term → Outcome Bool
IsUnchanged ops evaluate c at e = let found : ℕ × Term = behind ops (length ops) (length c.slots) e in MeansUnchanged evaluate c at e (within found.0 c) found.1

-- [A]_v: A, or else that v is unchanged
abbrev pub HoldsOrStutters : Evaluate → Context → Place → Term → Term → Outcome Bool
HoldsOrStutters evaluate c at a v = SomeTrue (TruthOf evaluate c) (a ∷ unchanged_of at v ∷ [])

-- <<A>>_v: A, and then that v changed
abbrev pub HoldsAndChanges : Evaluate → Context → Place → Term → Term → Outcome Bool
HoldsAndChanges evaluate c at a v = AllTrue (TruthOf evaluate c) (a ∷ changed_of at v ∷ [])
