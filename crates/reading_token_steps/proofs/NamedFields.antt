-- A field of that name stands in a list exactly where one of its items has the name.
use Rattle.std.proofs.Common.{◌≡◌, ℕ, Bool, true, false, ◌||◌, List, [], ◌∷◌, nat_eq, ◌<◌, ◌≤◌, length, drop, get_or, suc, refl, sym, ap, subst, ◌∙◌}
use Rattle.std.proofs.Math.Bool.{or_assoc}
use Rattle.std.proofs.Math.Seq.{drop-cons}
use Rattle.std.proofs.lemmas.List.{drop_all}
use Rattle.std.specs.Cmp.Lexicographic.{pointwise}
use Rattle.reading_trees.specs.declared.expr.Field.{Field}
use Rattle.reading_trees.specs.Trees.{Fields, NoFields, MoreFields}
use Rattle.reading_trees.specs.TreeViews.{fields_from, fields_of}
use Rattle.reading_machine.specs.Machine.{has_field}
use Rattle.reading_token_steps.specs.FieldNames.{names_one}

or_none : (a : Bool) → a ≡ (a || false)
or_none true = refl
or_none false = refl

found_from : (n : List ℕ) (fs : Fields) (xs : List Field) → has_field n (fields_from fs xs) ≡ (has_field n fs || names_one n xs)
found_from n fs [] = or_none (has_field n fs)
found_from n fs (x ∷ xs) = found_from n (MoreFields fs x.name x.value) xs ∙ or_assoc (has_field n fs) (pointwise nat_eq n x.name) (names_one n xs)

pub found : (n : List ℕ) (xs : List Field) → has_field n (fields_of xs) ≡ names_one n xs
found n xs = found_from n NoFields xs

or_left : (a b : Bool) → true ≡ a → true ≡ (a || b)
or_left a b p = subst (λ x. true ≡ (x || b)) p refl

first_names : (n : List ℕ) (ys r : List Field) (x : Field) → ys ≡ x ∷ r → true ≡ pointwise nat_eq n x.name → true ≡ names_one n ys
first_names n ys r x q p = subst (λ zs. true ≡ names_one n zs) (sym q) (or_left (pointwise nat_eq n x.name) (names_one n r) p)

at_front : (xs : List Field) (i : ℕ) (x : Field) → i < length xs → x ≡ get_or xs i x → drop i xs ≡ x ∷ drop (suc i) xs
at_front xs i x h g = drop-cons xs i x h ∙ ap (λ y. y ∷ drop (suc i) xs) (sym g)

pub found_at : (n : List ℕ) (xs : List Field) (i : ℕ) (x : Field) (fs : Fields) → fields_of xs ≡ fs → i < length xs → x ≡ get_or xs i x → true ≡ pointwise nat_eq n x.name → names_one n (drop i xs) ≡ names_one n xs → true ≡ has_field n fs
found_at n xs i x fs q h g p v = first_names n (drop i xs) (drop (suc i) xs) x (at_front xs i x h g) p ∙ (v ∙ (sym (found n xs) ∙ ap (has_field n) q))

pub found_none : (n : List ℕ) (xs : List Field) (i : ℕ) (fs : Fields) → fields_of xs ≡ fs → length xs ≤ i → names_one n (drop i xs) ≡ names_one n xs → false ≡ has_field n fs
found_none n xs i fs q h v = ap (names_one n) (sym (drop_all i xs h)) ∙ (v ∙ (sym (found n xs) ∙ ap (has_field n) q))
