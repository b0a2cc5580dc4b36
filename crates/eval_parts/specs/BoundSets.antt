-- The sets that names are bound over, as Rust holds them.
use Rattle.std.specs.Prelude.{ℕ, List}
use Rattle.base_core.specs.declared.place.Place.{Place}
use Rattle.values_core.specs.Data.{Val}
use Rattle.values_core.specs.Sets.{items_of}
use Rattle.names_terms.specs.Terms.{Term, place_of}
use Rattle.eval_meanings.specs.Binders.{members_at}
use Rattle.eval_meanings.specs.Contexts.{Context, Evaluate}
use Rattle.eval_meanings.specs.Outcomes.{Outcome, Gives, Then}
use Rattle.eval_parts.specs.declared.bound_values.BoundSet.{BoundSet}

-- how many names go over a value, the place of its term, and the value
abbrev pub bound_value : BoundSet → (ℕ × Place) × Val
bound_value s = ((s.names, s.at), s.value)

-- how many names go over a set, and its members
abbrev pub bound_members : BoundSet → ℕ × List Val
bound_members s = (s.names, items_of s.value)

-- the value that a bound has, and that it must be a set
abbrev pub BoundEvaluates : Evaluate → Context → (ℕ × Term) → Outcome ((ℕ × Place) × Val)
BoundEvaluates evaluate c b = Then (evaluate c b.1) (λ v. Gives ((b.0, place_of b.1), v))

abbrev pub HasMembers : (ℕ × Place) × Val → Outcome (ℕ × List Val)
HasMembers u = Then (members_at u.0.1 u.1) (λ vs. Gives (u.0.0, vs))
