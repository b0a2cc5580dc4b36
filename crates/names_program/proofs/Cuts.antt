-- Lists that are gone through from their beginning.
use Rattle.std.proofs.Common.{◌≡◌, ◌∙◌, sym, ap, refl, List, [], ◌∷◌, ◌++◌, length, ◌<◌, ◌≤◌, arith, add-one, drop-cons, append_assoc, map}
use Rattle.std.specs.Prelude.{ℕ, zero, suc, ◌+◌, drop, get_or}
use Rattle.std.proofs.lemmas.List.{map-append, append-nil}

pub cut_at : {A : Type 0} (xs : List A) (i : ℕ) (x : A) → i < length xs → x ≡ get_or xs i x → drop i xs ≡ x ∷ drop (i + 1) xs
cut_at xs i x lt e = rw add-one (drop-cons xs i x lt ∙ ap (λ y. y ∷ drop (suc i) xs) (sym e))

pub cut_end : {A : Type 0} (xs : List A) (i : ℕ) → length xs ≤ i → drop i xs ≡ []
cut_end [] zero le = refl
cut_end [] (suc i) le = refl
cut_end (x ∷ xs) zero le = absurd (omega arith)
cut_end (x ∷ xs) (suc i) le = cut_end xs i (omega arith)

-- one more item, seen by a function
pub pushed_on : {A B : Type 0} (f : A → B) (old new : List A) (r : A) (items target : List B) (i : ℕ) (x : B) → i < length items → x ≡ get_or items i x → f r ≡ x → new ≡ old ++ r ∷ [] → map f old ++ drop i items ≡ target → map f new ++ drop (i + 1) items ≡ target
pushed_on f old new r items target i x lt e is n t =
    ap (λ l. l ++ drop (i + 1) items) (ap (λ l. map f l) n ∙ map-append f old (r ∷ []) ∙ ap (λ y. map f old ++ y ∷ []) is) ∙ append_assoc (map f old) (x ∷ []) (drop (i + 1) items) ∙ ap (λ l. map f old ++ l) (sym (cut_at items i x lt e)) ∙ t

-- what one more item has, of a function that goes item by item
pub part_on : {A B : Type 0} (f : List A → List B) → ((xs ys : List A) → f (xs ++ ys) ≡ f xs ++ f ys) → (old new target : List B) (items : List A) (i : ℕ) (x : A) → i < length items → x ≡ get_or items i x → new ≡ old ++ f (x ∷ []) → old ++ f (drop i items) ≡ target → new ++ f (drop (i + 1) items) ≡ target
part_on f behind old new target items i x lt e n t =
    ap (λ l. l ++ f (drop (i + 1) items)) n ∙ append_assoc old (f (x ∷ [])) (f (drop (i + 1) items)) ∙ ap (λ l. old ++ l) (sym (behind (x ∷ []) (drop (i + 1) items)) ∙ sym (ap f (cut_at items i x lt e))) ∙ t

pub part_end : {A B : Type 0} (f : List A → List B) → f [] ≡ [] → (old target : List B) (items : List A) (i : ℕ) → length items ≤ i → old ++ f (drop i items) ≡ target → old ≡ target
part_end f none old target items i le t = sym (append-nil old) ∙ ap (λ l. old ++ l) (sym none ∙ sym (ap f (cut_end items i le))) ∙ t

-- one more entry behind others, of those that are still to come
pub entry_on : {A : Type 0} (old new target rest : List A) (x : A) → new ≡ old ++ x ∷ [] → old ++ x ∷ rest ≡ target → new ++ rest ≡ target
entry_on old new target rest x n t = ap (λ l. l ++ rest) n ∙ append_assoc old (x ∷ []) rest ∙ t
