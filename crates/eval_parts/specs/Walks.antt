-- A walk over the combinations of the members of lists, by the place of the member that is taken of each list: places of later lists change faster.
use Rattle.std.specs.Prelude.{ℕ, ◌<◌, Bool, true, false, List, [], ◌∷◌, ◌++◌, length, map, take, drop}
use Rattle.values_core.specs.Data.{Val}
use Rattle.values_core.specs.SetOperations.{AreDifferent}
use Rattle.reading_trees.specs.declared.operators.Quantifier.{Quantifier}
use Rattle.reading_trees.specs.declared.operators.Quantifier.TheVariants as quantifier
use Rattle.eval_meanings.specs.Binders.{combinations, with_each}
use Rattle.eval_meanings.specs.Outcomes.{Outcome, AllTrue, SomeTrue}

-- the first place of each list
abbrev pub first_places : List (List Val) → List ℕ
first_places lists = map (λ vs. 0) lists

-- each place is that of a member
abbrev pub AreWithin : List (List Val) → List ℕ → Type 0
AreWithin [] [] = Unit {0}
AreWithin [] (i ∷ places) = ⊥
AreWithin (vs ∷ lists) [] = ⊥
AreWithin (vs ∷ lists) (i ∷ places) = (i < length vs) × AreWithin lists places

-- the members at the places
abbrev pub at_places : List (List Val) → List ℕ → List Val
at_places [] places = []
at_places (vs ∷ lists) [] = []
at_places (vs ∷ lists) (i ∷ places) = take 1 (drop i vs) ++ at_places lists places

-- the first of some members with some combinations behind it, and each of the others with all combinations
abbrev pub first_with : List Val → List (List Val) → List (List Val) → List (List Val)
first_with [] some all = []
first_with (v ∷ vs) some all = map (λ chosen. v ∷ chosen) some ++ with_each vs all

-- the combinations from that at the places on
abbrev pub from_places : List (List Val) → List ℕ → List (List Val)
from_places [] places = [] ∷ []
from_places (vs ∷ lists) [] = []
from_places (vs ∷ lists) (i ∷ places) = first_with (drop i vs) (from_places lists places) (combinations lists)

-- those that are left, if any are
abbrev pub left_from : Bool → List (List Val) → List ℕ → List (List Val)
left_from true lists places = from_places lists places
left_from false lists places = []

-- in no list a member stands twice
abbrev pub AllDiffer : List (List Val) → Type 0
AllDiffer [] = Unit {0}
AllDiffer (vs ∷ lists) = AreDifferent vs × AllDiffer lists

-- \A and \E over a list
abbrev pub Decided : {A : Type 0} → Quantifier → (A → Outcome Bool) → List A → Outcome Bool
Decided quantifier.ForAll P xs = AllTrue P xs
Decided quantifier.Exists P xs = SomeTrue P xs
