-- What is seen of a variable tells of its values what all that is seen tells.
use Rattle.std.proofs.Common.{◌≡◌, inl, inr, ℕ, List, [], ◌∷◌, length, ap, arith}
use Rattle.std.specs.Prelude.{Contains, Some, slice_set}
use Rattle.std.proofs.lemmas.List.Elements.{All-contains, All-contains_itself, All-weaker}
use Rattle.base_core.specs.declared.place.Place.{Place}
use Rattle.values_core.specs.Data.{Val}
use Rattle.values_core.specs.IsValue.{IsValue}
use Rattle.values_core.specs.Sets.{items_of}
use Rattle.values_sets.specs.DescribedSets.{Described}
use Rattle.eval_meanings.specs.Contexts.{Places}
use Rattle.logs_updates.specs.declared.update.See.{See}
use Rattle.steps_filling.specs.Fillings.{Allows, AreFilled, Assigns, Chooses, IsEmpty, OneIf, SeenIn}
use Rattle.steps_walk.specs.Seen.{TellsOf}

module _ (x : ℕ) (all some : List See) (t : TellsOf x all some) where
  seen_all : (v : Val) → SeenIn some x v → SeenIn all x v
  seen_all v h = All-weaker (Contains all) (λ (see : See). Allows see x v) (λ see m e. All-contains (λ (y : See). Allows y x v) some see h (t.1 see e m) e) all (All-contains_itself all)

  seen_some : (v : Val) → SeenIn all x v → SeenIn some x v
  seen_some v h = All-weaker (Contains some) (λ (see : See). Allows see x v) (λ see m. All-contains (λ (y : See). Allows y x v) all see h (t.0 see m)) some (All-contains_itself some)

  one_all : (v : Val) (p : Places) (qs : List Places) → OneIf (SeenIn some x v) p qs → OneIf (SeenIn all x v) p qs
  one_all v p qs (inl h) = inl (seen_all v h.0, h.1)
  one_all v p qs (inr h) = inr ((λ s. h.0 (seen_some v s)), h.1)

  pub assigned_all : (v : Val) (p : Places) (qs : List Places) → Assigns some x v p qs → Assigns all x v p qs
  assigned_all v p qs (inl h) = inl h
  assigned_all v p qs (inr h) = inr (h.0, h.1, one_all v (slice_set p x (Some v)) qs h.2)

  filled_all : (vs : List Val) (p : Places) (qs : List Places) → AreFilled some x vs p qs → AreFilled all x vs p qs
  filled_all vs p qs h q = (
    (λ m. let f = (h q).0 m in (f.0, f.1, seen_all f.0 f.2, f.3)),
    (λ f. (h q).1 (f.0, f.1, seen_some f.0 f.2, f.3)),
  )

  pub chosen_all : (S : Described) (at : Place) (p : Places) (qs : List Places) → Chooses some x S at p qs → Chooses all x S at p qs
  chosen_all S at p qs (inl h) = inl h
  chosen_all S at p qs (inr h) = inr (h.0, (h.1.0, h.1.1, h.1.2, filled_all (items_of h.1.0) p qs h.1.3))

-- where nothing is seen, the value is given to a variable that has none
pub filled_free : (sees : List See) (x : ℕ) (v : Val) (p q : Places) → (length sees ≡ 0) × IsEmpty p x → IsValue v → q ≡ slice_set p x (Some v) → Assigns sees x v p (q ∷ [])
filled_free sees x v p q free ok is = inr (free.1, ok, inl ((λ k d lt. absurd (omega (arith, free.0, lt))), ap (λ r. r ∷ []) is))
