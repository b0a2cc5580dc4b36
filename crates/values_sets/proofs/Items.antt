-- The items of a list of parts or of fields are those that it was made of.
use Rattle.std.proofs.Common.{◌≡◌, ℕ, zero, suc, ◌<◌, List, [], ◌∷◌, ◌++◌, length, Option, refl, sym, ap, subst, ◌∙◌, arith}
use Rattle.std.specs.Prelude.{map, option_copied, option_map, slice_get, Some, None}
use Rattle.std.proofs.lemmas.Option.{slice_get-map, slice_get_past, slice_get_read}
use Rattle.std.specs.List.{ItemBy}
use denote.Ref.{Bor}
use Rattle.values_core.specs.Data.{Val}
use Rattle.values_sets.specs.DescribedSets.{Described, Fields, NoFields, MoreFields, Parts, NoParts, MoreParts, fields_list, parts_list}
use Rattle.values_sets.specs.Soundness.{IsSound, FieldsAreSound, PartsAreSound}
use Rattle.values_sets.specs.DescribedSizes.{described_size, fields_size, parts_size}
use Rattle.values_sets.specs.DescribedViews.{fields_of, parts_of, field_item}
use Rattle.values_sets.specs.declared.described.Field.{Field}

-- what a slice gives at an index
pub item_of : {X : Type 0} (xs : List X) (i : ℕ) (r : Option (Bor X)) → ItemBy (λ (x : Bor X). x.now) xs i i r → option_copied r ≡ slice_get xs i
item_of xs i None l = sym (slice_get_past xs i l.3)
item_of xs i (Some x) l = sym (slice_get_read xs (length xs) i x.now refl l.3.0 l.1)

-- what an index finds in a list, and in the list of what stands for its items
pub found : {A B : Type 0} (f : A → B) (r : Option A) (xs : List A) (i : ℕ) → r ≡ slice_get xs i → option_map f r ≡ slice_get (map f xs) i
found f r xs i e = ap (option_map f) e ∙ sym (slice_get-map f xs i)

pub fields_listed : (xs : List Field) → fields_list (fields_of xs) ≡ map field_item xs
fields_listed [] = refl
fields_listed (x ∷ xs) = ap (λ ys. field_item x ∷ ys) (fields_listed xs)

pub parts_listed : (xs : List Described) → parts_list (parts_of xs) ≡ xs
parts_listed [] = refl
parts_listed (x ∷ xs) = ap (λ ys. x ∷ ys) (parts_listed xs)

fields_from : List (Val × Described) → Fields
fields_from [] = NoFields
fields_from (x ∷ xs) = MoreFields x.0 x.1 (fields_from xs)

from_list : (fs : Fields) → fields_from (fields_list fs) ≡ fs
unfolding fields_from
from_list NoFields = refl
from_list (MoreFields n d fs) = ap (MoreFields n d) (from_list fs)

from_items : (xs : List Field) → fields_from (map field_item xs) ≡ fields_of xs
unfolding fields_from
from_items [] = refl
from_items (x ∷ xs) = ap (MoreFields x.name x.part) (from_items xs)

-- the fields are those of their items
pub fields_back : (fs : Fields) (xs : List Field) → map field_item xs ≡ fields_list fs → fields_of xs ≡ fs
fields_back fs xs e = sym (from_items xs) ∙ ap fields_from e ∙ from_list fs

pub parts_again : (ps : Parts) → parts_of (parts_list ps) ≡ ps
parts_again NoParts = refl
parts_again (MoreParts d ps) = ap (MoreParts d) (parts_again ps)

pub parts_back : (ps : Parts) (xs : List Described) → xs ≡ parts_list ps → parts_of xs ≡ ps
parts_back ps xs e = ap parts_of e ∙ parts_again ps

-- a part is smaller than the list of parts
pub field_smaller : (xs : List Field) (i : ℕ) (x : Field) → slice_get xs i ≡ Some x → described_size x.part < fields_size (fields_of xs)
field_smaller [] i x e = cc
field_smaller (y ∷ ys) zero x e = let same : y ≡ x = cc in subst (λ (z : Field). described_size z.part < fields_size (fields_of (y ∷ ys))) same (omega arith)
field_smaller (y ∷ ys) (suc i) x e = omega (arith, field_smaller ys i x e)

pub part_smaller : (xs : List Described) (i : ℕ) (x : Described) → slice_get xs i ≡ Some x → described_size x < parts_size (parts_of xs)
part_smaller [] i x e = cc
part_smaller (y ∷ ys) zero x e = let same : y ≡ x = cc in subst (λ (z : Described). described_size z < parts_size (parts_of (y ∷ ys))) same (omega arith)
part_smaller (y ∷ ys) (suc i) x e = omega (arith, part_smaller ys i x e)

pub fields_pushed : (xs : List Field) (x : Field) → fields_list (fields_of (xs ++ x ∷ [])) ≡ fields_list (fields_of xs) ++ field_item x ∷ []
fields_pushed [] x = refl
fields_pushed (y ∷ ys) x = ap (λ zs. field_item y ∷ zs) (fields_pushed ys x)

pub parts_pushed : (xs : List Described) (x : Described) → parts_list (parts_of (xs ++ x ∷ [])) ≡ parts_list (parts_of xs) ++ x ∷ []
parts_pushed [] x = refl
parts_pushed (y ∷ ys) x = ap (λ zs. y ∷ zs) (parts_pushed ys x)

-- the parts of a sound set are sound
pub field_sound : (xs : List Field) (i : ℕ) (x : Field) → slice_get xs i ≡ Some x → FieldsAreSound (fields_of xs) → IsSound x.part
field_sound [] i x e s = cc
field_sound (y ∷ ys) zero x e s = let same : y ≡ x = cc in subst (λ (z : Field). IsSound z.part) same s.1
field_sound (y ∷ ys) (suc i) x e s = field_sound ys i x e s.2

pub part_sound : (xs : List Described) (i : ℕ) (x : Described) → slice_get xs i ≡ Some x → PartsAreSound (parts_of xs) → IsSound x
part_sound [] i x e s = cc
part_sound (y ∷ ys) zero x e s = let same : y ≡ x = cc in subst (λ (z : Described). IsSound z) same s.0
part_sound (y ∷ ys) (suc i) x e s = part_sound ys i x e s.1
