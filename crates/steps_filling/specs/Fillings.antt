-- Which places come of it that a variable has a value, or a member of a set.
use Rattle.std.specs.Prelude.{◌≡◌, ◌⊎◌, ◌↔◌, ℕ, List, [], ◌∷◌, ◌++◌, All, Contains, Some, Ok, slice_get, slice_set}
use Rattle.base_core.specs.declared.place.Place.{Place}
use Rattle.values_core.specs.Data.{Val}
use Rattle.values_core.specs.IsValue.{IsValue}
use Rattle.values_core.specs.Sets.{Member, items_of}
use Rattle.values_sets.specs.DescribedSets.{Described}
use Rattle.values_sets.specs.Membership.{Belongs}
use Rattle.eval_meanings.specs.declared.fault.EvalFault.{EvalFault}
use Rattle.eval_meanings.specs.Contexts.{Places}
use Rattle.eval_meanings.specs.Sets.{list_at}
use Rattle.eval_parts.specs.Scenes.{Stops}
use Rattle.logs_updates.specs.Changes.{LeadsTo}
use Rattle.logs_updates.specs.declared.update.See.{See}

-- what is seen stands in the variable's value, if it is seen of the variable
abbrev pub Allows : See → ℕ → Val → Type 0
Allows see x v = see.path.variable.0 ≡ x → LeadsTo see.path.keys v see.value

-- all that is seen of the variable stands in the value
abbrev pub SeenIn : List See → ℕ → Val → Type 0
SeenIn sees x v = All (λ see. Allows see x v) sees

-- one thing where a fact holds, and else none
abbrev pub OneIf : {A : Type 0} → Type 0 → A → List A → Type 0
OneIf P a xs = (P × (xs ≡ a ∷ [])) ⊎ (¬ P × (xs ≡ []))

-- one thing more where a fact holds, and else none
abbrev pub Adds : {A : Type 0} → Type 0 → A → List A → List A → Type 0
Adds P a old new = (P × (new ≡ old ++ a ∷ [])) ⊎ (¬ P × (new ≡ old))

-- the variable has no value
abbrev pub IsEmpty : Places → ℕ → Type 0
IsEmpty p x = (w : Val) → ¬ (slice_get p x ≡ Some (Some w))

-- the places in which the variable has the value, which is one where it is given now
abbrev pub Assigns : List See → ℕ → Val → Places → List Places → Type 0
Assigns sees x v p qs =
    ((w : Val) × (slice_get p x ≡ Some (Some w)) × OneIf (w ≡ v) p qs) ⊎ (IsEmpty p x × IsValue v × OneIf (SeenIn sees x v) (slice_set p x (Some v)) qs)

-- the places in which a variable without a value has one of the values
abbrev pub AreFilled : List See → ℕ → List Val → Places → List Places → Type 0
AreFilled sees x vs p qs = (q : Places) → Contains qs q ↔ ((v : Val) × Contains vs v × SeenIn sees x v × (q ≡ slice_set p x (Some v)))

-- the same of the members of a set, which is listed as a value at the place
abbrev pub FillsMembers : List See → ℕ → Described → Place → Places → List Places → Type 0
FillsMembers sees x S at p qs = (listed : Val) × list_at at S (Ok listed) × IsValue listed × AreFilled sees x (items_of listed) p qs

-- the places in which the variable has a member of the set
abbrev pub Chooses : List See → ℕ → Described → Place → Places → List Places → Type 0
Chooses sees x S at p qs =
    ((w : Val) × (slice_get p x ≡ Some (Some w)) × OneIf (Belongs S w) p qs) ⊎ (IsEmpty p x × FillsMembers sees x S at p qs)

-- the set can not be listed for a variable without a value, or memory is wanted
abbrev pub FailsToChoose : ℕ → Described → Place → Places → EvalFault → Type 0
FailsToChoose x S at p f = Stops (λ r. IsEmpty p x × list_at at S r) f

-- There is a value that the set is listed as, wherever it stands, and its members are the values that belong to the set.
abbrev pub IsAtHand : Described → Type 0
IsAtHand S = (at : Place) → (listed : Val) × list_at at S (Ok listed) × IsValue listed × ((v : Val) → IsValue v → (Member v listed ↔ Belongs S v))
