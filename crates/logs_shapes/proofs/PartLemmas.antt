-- What an array of JSON is as a part of a line, by its first items and its length.
use Rattle.std.proofs.Common.{◌≡◌, ◌<◌, ◌≤◌, ℕ, List, [], ◌∷◌, length, Bool, ◌&&◌, Option, None, Some, ap, ◌∙◌, refl, option_map, option_and_then, is_some}
use Rattle.std.specs.List.{list_all}
use Rattle.std.proofs.lemmas.Bool.{le-leb, lt-leb, ne_eqb, eq-eqb}
use Rattle.serde_json.specs.Data.{Data}
use Rattle.serde_json.specs.Find.{as_str}
use Rattle.serde_json.specs.View.{view, items_view}
use Rattle.serde_json.specs.declared.value.Value.{Value}
use Rattle.serde_json.proofs.Views.{items_len-items_view}
use Rattle.logs_shapes.specs.Keys.{contents_of}
use Rattle.logs_shapes.specs.Parts.{PathShape, path_in, path_of, update_behind, see_in, each_of}
use Rattle.logs_shapes.specs.declared.key.Word.{Word}

pub path_too_long : (xs keys : List Value) (first : Value) (name : List ℕ) → xs ≡ first ∷ keys → as_str (view first) ≡ Some name → 32 < length keys → path_in (items_view xs) ≡ None
path_too_long xs keys first name q s h = rw (q, s, items_len-items_view keys, lt-leb (length keys) 32 h) refl

pub path_read : (xs keys : List Value) (first : Value) (name : List ℕ) → xs ≡ first ∷ keys → as_str (view first) ≡ Some name → length keys ≤ 32
    → path_in (items_view xs) ≡ Some (record { name = name; keys = items_view keys })
path_read xs keys first name q s h = rw (q, s, items_len-items_view keys, le-leb (length keys) 32 h) refl

pub update_of_other_length : (w : Word) (xs contents : List Value) (first : Value) (path : PathShape) → xs ≡ first ∷ contents → path_of (view first) ≡ Some path → (length contents ≡ contents_of w → ⊥)
    → update_behind w (items_view xs) ≡ None
update_of_other_length w xs contents first path q p h = rw (q, p, items_len-items_view contents, ne_eqb (length contents) (contents_of w) h) refl

pub update_read : (w : Word) (xs contents : List Value) (first : Value) (path : PathShape) → xs ≡ first ∷ contents → path_of (view first) ≡ Some path → length contents ≡ contents_of w
    → update_behind w (items_view xs) ≡ Some (record { word = w; path = path; contents = items_view contents })
update_read w xs contents first path q p h = rw (q, p, items_len-items_view contents, eq-eqb (length contents) (contents_of w) h) refl

pub see_of_other_length : (xs : List Value) → (length xs ≡ 2 → ⊥) → see_in (items_view xs) ≡ None
see_of_other_length [] h = refl
see_of_other_length (x ∷ []) h = refl
see_of_other_length (x ∷ y ∷ []) h = absurd (h refl)
see_of_other_length (x ∷ y ∷ z ∷ zs) h = refl

and_each : {A : Type 0} (o : Option A) (more : Option (List A)) → is_some (option_and_then (λ a. option_map (λ rest. a ∷ rest) more) o) ≡ (is_some o && is_some more)
and_each None more = refl
and_each (Some a) None = refl
and_each (Some a) (Some rest) = refl

-- each of the items is such a part exactly where there is a list of what they are
pub each_is : {A : Type 0} (f : Data → Option A) (xs : List Value) → is_some (each_of f (items_view xs)) ≡ list_all (λ x. is_some (f (view x))) xs
each_is f [] = refl
each_is f (x ∷ xs) = and_each (f (view x)) (each_of f (items_view xs)) ∙ ap (λ (b : Bool). is_some (f (view x)) && b) (each_is f xs)
