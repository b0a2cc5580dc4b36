-- The order of choices.
use Rattle.std.proofs.Common.{inl, inr, refl, arith, [], ◌∷◌, ◌++◌}
use Rattle.steps_why_branches.specs.Choices.{Choices, Before}

-- what is chosen afterwards changes nothing

pub before_longer : (is js ks : Choices) → Before is js → Before (is ++ ks) js
before_longer [] js ks h = absurd h
before_longer (i ∷ is) [] ks h = absurd h
before_longer (i ∷ is) (j ∷ js) ks (inl h) = inl h
before_longer (i ∷ is) (j ∷ js) ks (inr h) = inr (h.0, before_longer is js ks h.1)

pub longer_after : (is js ks : Choices) → Before is js → Before is (js ++ ks)
longer_after [] js ks h = absurd h
longer_after (i ∷ is) [] ks h = absurd h
longer_after (i ∷ is) (j ∷ js) ks (inl h) = inl h
longer_after (i ∷ is) (j ∷ js) ks (inr h) = inr (h.0, longer_after is js ks h.1)

-- behind the same choices
pub before_behind : (is js ks : Choices) → Before js ks → Before (is ++ js) (is ++ ks)
before_behind [] js ks h = h
before_behind (i ∷ is) js ks h = inr (refl, before_behind is js ks h)

-- one order: no list of choices is before itself, and none before and behind another
pub not_itself : (is : Choices) → Before is is → ⊥
not_itself [] h = h
not_itself (i ∷ is) (inl h) = omega (arith, h)
not_itself (i ∷ is) (inr h) = not_itself is h.1
