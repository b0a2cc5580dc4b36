-- The variables of updates, and of what is seen, are the specification's where each name is one's.
use Rattle.std.proofs.Common.{◌≡◌, ◌<◌, ℕ, List, [], ◌∷◌, length, map, All, Bool, true, false, Option, Some, None, ap, sym, subst, refl}
use Rattle.std.specs.Prelude.{◌&&◌, is_some, unwrap_or}
use Rattle.std.specs.List.{list_all, AllByRecursion as Each}
use Rattle.std.proofs.lemmas.List.Elements.{All-from_recursion}
use Rattle.states_core.specs.declared.var_id.VarId.{VarId}
use Rattle.names_terms.specs.declared.spec.Spec.{Spec}
use Rattle.logs_shapes.specs.Parts.{SeeShape, UpdateShape}
use Rattle.logs_updates.specs.declared.update.See.{See}
use Rattle.logs_updates.specs.declared.update.Update.{Update}
use Rattle.logs_lines.specs.Lines.{HasUnknown}
use Rattle.logs_lines.specs.Values.{EachOf, SeeReads, UpdateReads, variable_or_first}
use Rattle.steps_names.specs.Names.{names_of}
use Rattle.steps_names.proofs.ToldLemmas.{variable_within}

abbrev known : Spec → List ℕ → Bool
known s name = is_some ((names_of s).variable name)

both_hold : (a b : Bool) → (a && b) ≡ true → (a ≡ true) × (b ≡ true)
both_hold true b h = (refl, h)
both_hold false b h = absurd (cc)

known_is : (o : Option VarId) → is_some o ≡ true → (v : VarId) × (o ≡ Some v)
known_is None h = absurd (cc)
known_is (Some v) h = (v, refl)

-- what a name's variable is
first_within : (s : Spec) (name : List ℕ) → known s name ≡ true → (variable_or_first (names_of s) name).0 < length s.variables
first_within s name h =
    let found = known_is ((names_of s).variable name) h in
    subst (λ (v : VarId). v.0 < length s.variables) (sym (ap (λ (o : Option VarId). unwrap_or o (record { 0 = 0 })) found.1)) (variable_within s.variables name found.0 found.1)

update_within : (s : Spec) (shapes : List UpdateShape) (us : List Update) → EachOf (UpdateReads (names_of s)) shapes us → list_all (known s) (map (λ u. u.path.name) shapes) ≡ true
    → Each (λ (u : Update). u.path.variable.0 < length s.variables) us
update_within s [] [] h k = tt
update_within s [] (u ∷ us) h k = absurd h
update_within s (a ∷ shapes) [] h k = absurd h
update_within s (a ∷ shapes) (u ∷ us) h k =
    let both = both_hold (known s a.path.name) (list_all (known s) (map (λ u. u.path.name) shapes)) k in
    (subst (λ (v : VarId). v.0 < length s.variables) (sym h.0.0.0) (first_within s a.path.name both.0), update_within s shapes us h.1 both.1)

see_within : (s : Spec) (shapes : List SeeShape) (sees : List See) → EachOf (SeeReads (names_of s)) shapes sees → list_all (known s) (map (λ v. v.path.name) shapes) ≡ true
    → Each (λ (see : See). see.path.variable.0 < length s.variables) sees
see_within s [] [] h k = tt
see_within s [] (v ∷ vs) h k = absurd h
see_within s (a ∷ shapes) [] h k = absurd h
see_within s (a ∷ shapes) (v ∷ vs) h k =
    let both = both_hold (known s a.path.name) (list_all (known s) (map (λ v. v.path.name) shapes)) k in
    (subst (λ (x : VarId). x.0 < length s.variables) (sym h.0.0.0) (first_within s a.path.name both.0), see_within s shapes vs h.1 both.1)

all_known : (s : Spec) (names : List (List ℕ)) → ¬ HasUnknown (names_of s) names → list_all (known s) names ≡ true
all_known s names h = settle (list_all (known s) names) h
  where
    settle : (b : Bool) → (b ≡ false → ⊥) → b ≡ true
    settle true n = refl
    settle false n = absurd (n refl)

pub updates_within : (s : Spec) (shapes : List UpdateShape) (us : List Update) → EachOf (UpdateReads (names_of s)) shapes us → ¬ HasUnknown (names_of s) (map (λ u. u.path.name) shapes)
    → All (λ u. u.path.variable.0 < length s.variables) us
updates_within s shapes us h k = All-from_recursion (λ (u : Update). u.path.variable.0 < length s.variables) us (update_within s shapes us h (all_known s (map (λ u. u.path.name) shapes) k))

pub sees_within : (s : Spec) (shapes : List SeeShape) (sees : List See) → EachOf (SeeReads (names_of s)) shapes sees → ¬ HasUnknown (names_of s) (map (λ v. v.path.name) shapes)
    → All (λ see. see.path.variable.0 < length s.variables) sees
sees_within s shapes sees h k = All-from_recursion (λ (see : See). see.path.variable.0 < length s.variables) sees (see_within s shapes sees h (all_known s (map (λ v. v.path.name) shapes) k))
