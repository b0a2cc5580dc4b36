-- Bound names: over which values they go, in which order, and what is sought or made among them.
use Rattle.std.specs.Prelude.{ℕ, zero, suc, Bool, List, [], ◌∷◌, ◌++◌, map, if◌then◌else◌}
use Rattle.base_core.specs.declared.place.Place.{Place}
use Rattle.values_core.specs.Data.{Val, set, members}
use Rattle.values_core.specs.declared.fault.EvalKind.TheVariants.{NotSet, NoChoice}
use Rattle.names_terms.specs.Lists.{bounds_list}
use Rattle.names_terms.specs.Terms.{Term, Bounds, place_of}
use Rattle.eval_meanings.specs.Outcomes.{Outcome, Gives, Fails, Then, Either, Each}
use Rattle.eval_meanings.specs.Contexts.{Context, Evaluate}

-- The members of a set in ascending order: a value that is no set is refused at the place of the operand.
abbrev pub members_at : Place → Val → Outcome (List Val)
members_at at (set vs) r = Gives (members vs) r
members_at at v r = Fails NotSet at r

-- the members of the set that a term means
abbrev pub MembersOf : Evaluate → Context → Term → Outcome (List Val)
MembersOf evaluate c e = Then (evaluate c e) (members_at (place_of e))

-- one member of each list: the later ones change faster
abbrev pub with_each : List Val → List (List Val) → List (List Val)
with_each [] rest = []
with_each (v ∷ vs) rest = map (λ chosen. v ∷ chosen) rest ++ with_each vs rest

abbrev pub combinations : List (List Val) → List (List Val)
combinations [] = [] ∷ []
combinations (vs ∷ rest) = with_each vs (combinations rest)

-- the members of a set once for each name that is bound over it
abbrev pub times : ℕ → List Val → List (List Val)
times zero vs = []
times (suc n) vs = vs ∷ times n vs

abbrev pub ranges : List (ℕ × List Val) → List (List Val)
ranges [] = []
ranges (b ∷ bs) = times b.0 b.1 ++ ranges bs

-- The values of all names that bounds bind: all sets are evaluated first, none of which sees the names; then each must be a set.
abbrev pub BoundValues : Evaluate → Context → Bounds → Outcome (List (List Val))
BoundValues evaluate c bs =
    Then (Each {B = (ℕ × Place) × Val} (λ b. Then (evaluate c b.1) (λ v. Gives ((b.0, place_of b.1), v))) (bounds_list bs))
    (λ us. Then (Each {B = ℕ × List Val} (λ u. Then (members_at u.0.1 u.1) (λ vs. Gives (u.0.0, vs))) us) (λ bs. Gives (combinations (ranges bs))))

-- the least of the values that passes
abbrev pub FirstThat : Place → (Val → Outcome Bool) → List Val → Outcome Val
FirstThat at test [] = Fails NoChoice at
FirstThat at test (v ∷ vs) = Then (test v) (λ b. Either b (Gives v) (FirstThat at test vs))

-- those of the values that pass, each of which is tested
abbrev pub Passing : (Val → Outcome Bool) → List Val → Outcome (List Val)
Passing test [] = Gives []
Passing test (v ∷ vs) = Then (test v) (λ b. Then (Passing test vs) (λ ws. Gives (if b then v ∷ ws else ws)))
