-- The items of a list of a term are those that it was made of.
use Rattle.std.proofs.Common.{◌≡◌, ℕ, List, [], ◌∷◌, ◌++◌, length, Option, refl, sym, ap, ◌∙◌, append_assoc, rules}
use Rattle.std.specs.Prelude.{map, option_copied, option_map, slice_get, Some, None}
use Rattle.std.proofs.lemmas.Option.{slice_get-map, slice_get_past, slice_get_read}
use Rattle.std.specs.List.{ItemBy}
use denote.Ref.{Bor}
use Rattle.names_terms.specs.Terms as term
use Rattle.names_terms.specs.Terms.{Term, Terms, Steps, Bounds, Fields, Changes, Arms}
use Rattle.names_terms.specs.TermViews.{step_view, terms_from, steps_from, bounds_from, fields_from, changes_from, arms_from, terms_of, steps_of, bounds_of, fields_of, changes_of, arms_of, step_item, bound_item, field_item, change_item, arm_item}
use Rattle.names_terms.specs.Lists.{terms_list, steps_list, bounds_list, fields_list, changes_list, arms_list}
use Rattle.names_terms.specs.declared.term.StepAt.{StepAt}
use Rattle.names_terms.specs.declared.term.Bound.{Bound}
use Rattle.names_terms.specs.declared.term.Field.{Field}
use Rattle.names_terms.specs.declared.term.Change.{Change}
use Rattle.names_terms.specs.declared.term.Arm.{Arm}

append_none : {A : Type 0} (xs : List A) → xs ≡ xs ++ []
append_none xs = search rules

-- what a slice gives at an index
pub item_of : {X : Type 0} (xs : List X) (i : ℕ) (r : Option (Bor X)) → ItemBy (λ (x : Bor X). x.now) xs i i r → option_copied r ≡ slice_get xs i
item_of xs i None l = sym (slice_get_past xs i l.3)
item_of xs i (Some x) l = sym (slice_get_read xs (length xs) i x.now refl l.3.0 l.1)

-- what an index finds in a list, and in the list of what stands for its items
pub found : {A B : Type 0} (f : A → B) (r : Option A) (xs : List A) (i : ℕ) → r ≡ slice_get xs i → option_map f r ≡ slice_get (map f xs) i
found f r xs i e = ap (option_map f) e ∙ sym (slice_get-map f xs i)

terms_grown : (ts : Terms) (xs : List Term) → terms_list (terms_from ts xs) ≡ terms_list ts ++ xs
terms_grown ts [] = append_none _
terms_grown ts (x ∷ xs) = terms_grown (term.MoreTerms ts x) xs ∙ append_assoc (terms_list ts) (x ∷ []) xs

pub terms_listed : (xs : List Term) → terms_list (terms_of xs) ≡ xs
terms_listed xs = terms_grown term.NoTerms xs

steps_grown : (ts : Steps) (xs : List StepAt) → steps_list (steps_from ts xs) ≡ steps_list ts ++ map step_item xs
steps_grown ts [] = append_none _
steps_grown ts (x ∷ xs) = steps_grown (term.MoreSteps ts x.at (step_view x.step)) xs ∙ append_assoc (steps_list ts) (step_item x ∷ []) (map step_item xs)

pub steps_listed : (xs : List StepAt) → steps_list (steps_of xs) ≡ map step_item xs
steps_listed xs = steps_grown term.NoSteps xs

bounds_grown : (ts : Bounds) (xs : List Bound) → bounds_list (bounds_from ts xs) ≡ bounds_list ts ++ map bound_item xs
bounds_grown ts [] = append_none _
bounds_grown ts (x ∷ xs) = bounds_grown (term.MoreBounds ts x.names x.set) xs ∙ append_assoc (bounds_list ts) (bound_item x ∷ []) (map bound_item xs)

pub bounds_listed : (xs : List Bound) → bounds_list (bounds_of xs) ≡ map bound_item xs
bounds_listed xs = bounds_grown term.NoBounds xs

fields_grown : (ts : Fields) (xs : List Field) → fields_list (fields_from ts xs) ≡ fields_list ts ++ map field_item xs
fields_grown ts [] = append_none _
fields_grown ts (x ∷ xs) = fields_grown (term.MoreFields ts x.name x.value) xs ∙ append_assoc (fields_list ts) (field_item x ∷ []) (map field_item xs)

pub fields_listed : (xs : List Field) → fields_list (fields_of xs) ≡ map field_item xs
fields_listed xs = fields_grown term.NoFields xs

changes_grown : (ts : Changes) (xs : List Change) → changes_list (changes_from ts xs) ≡ changes_list ts ++ map change_item xs
changes_grown ts [] = append_none _
changes_grown ts (x ∷ xs) = changes_grown (term.MoreChanges ts x.path x.value) xs ∙ append_assoc (changes_list ts) (change_item x ∷ []) (map change_item xs)

pub changes_listed : (xs : List Change) → changes_list (changes_of xs) ≡ map change_item xs
changes_listed xs = changes_grown term.NoChanges xs

arms_grown : (ts : Arms) (xs : List Arm) → arms_list (arms_from ts xs) ≡ arms_list ts ++ map arm_item xs
arms_grown ts [] = append_none _
arms_grown ts (x ∷ xs) = arms_grown (term.MoreArms ts x.test x.value) xs ∙ append_assoc (arms_list ts) (arm_item x ∷ []) (map arm_item xs)

pub arms_listed : (xs : List Arm) → arms_list (arms_of xs) ≡ map arm_item xs
arms_listed xs = arms_grown term.NoArms xs
