-- Elements by their index in lists that grow, and tables of definitions that do.
use Rattle.std.proofs.Common.{◌≡◌, ◌≢◌, ◌∙◌, sym, ap, refl, subst, List, [], ◌∷◌, ◌++◌, length, ◌⊎◌, inl, inr, append_assoc, append-nil, length-append, map, get_or, ◌<◌, ◌+◌}
use Rattle.std.specs.Borrow.{Bor}
use Rattle.std.specs.Prelude.{ℕ, zero, suc, Some, option_map, slice_get}
use Rattle.std.proofs.lemmas.Option.{slice_get-map, slice_get_read}
use Rattle.names_terms.specs.declared.operator.Operator.{Operator}
use Rattle.names_term_parts.specs.Slots.{UsesSmaller}
use Rattle.names_meanings.specs.Outcomes.{Grows, named_in, unless_unnamed}

pub left_stands : {A : Type 0} (xs ys : List A) (k : ℕ) (x : A) → slice_get xs k ≡ Some x → slice_get (xs ++ ys) k ≡ Some x
left_stands [] ys zero x e = absurd (cc)
left_stands [] ys (suc k) x e = absurd (cc)
left_stands (y ∷ xs) ys zero x e = e
left_stands (y ∷ xs) ys (suc k) x e = left_stands xs ys k x e

pub last_stands : {A : Type 0} (xs : List A) (x : A) → slice_get (xs ++ x ∷ []) (length xs) ≡ Some x
last_stands [] x = refl
last_stands (y ∷ xs) x = last_stands xs x

pub pushed_at : {A : Type 0} (xs : List A) (x : A) (k : ℕ) (p : A) → slice_get (xs ++ x ∷ []) k ≡ Some p → (slice_get xs k ≡ Some p) ⊎ ((length xs ≡ k) × (x ≡ p))
pushed_at [] x zero p e = inr (refl, cc)
pushed_at [] x (suc k) p e = absurd (cc)
pushed_at (y ∷ xs) x zero p e = inl e
pushed_at (y ∷ xs) x (suc k) p e = elim (pushed_at xs x k p e) [ inl a ↦ inl a | inr b ↦ inr (ap suc b.0, b.1) ]

pub counted_on : {A : Type 0} (old new : List A) (x : A) (n : ℕ) → new ≡ old ++ x ∷ [] → length old ≡ n → length new ≡ n + 1
counted_on old new x n e h = ap length e ∙ length-append old (x ∷ []) ∙ ap (λ (k : ℕ). k + 1) h

-- the element of a list that a list of references shows
pub read_at : {A : Type 0} (items : List (Bor A)) (xs : List A) (i : ℕ) (x : Bor A) → map (λ (d : Bor A). d.now) items ≡ xs → i < length items → x ≡ get_or items i x → slice_get xs i ≡ Some x.now
read_at items xs i x e lt at =
    subst (λ l. slice_get l i ≡ Some x.now) e (slice_get-map (λ d. d.now) items i ∙ ap (option_map (λ d. d.now)) (slice_get_read items (length items) i x refl lt at))

-- Tables of definitions.

pub grows_on : (a b c : List Operator) → Grows a b → Grows b c → Grows a c
grows_on a b c g h = (g.0 ++ h.0, h.1 ∙ ap (λ (l : List Operator). l ++ h.0) g.1 ∙ append_assoc a g.0 h.0)

pub grows_by : (a b : List Operator) (o : Operator) → b ≡ a ++ o ∷ [] → Grows a b
grows_by a b o e = (o ∷ [], e)

pub grows_none : (a : List Operator) → Grows a a
grows_none a = ([], sym (append-nil a))

pub stays_at : (a b : List Operator) → Grows a b → (k : ℕ) (o : Operator) → slice_get a k ≡ Some o → slice_get b k ≡ Some o
stays_at a b g k o e = subst (λ (l : List Operator). slice_get l k ≡ Some o) (sym g.1) (left_stands a g.0 k o e)

abbrev rest_of : List Operator → List Operator
rest_of [] = []
rest_of (o ∷ os) = os

unless_rest : (n : List ℕ) (o : Operator) (xs ys : List Operator) → unless_unnamed n o xs ≡ unless_unnamed n o ys → xs ≡ ys
unless_rest [] o xs ys e = e
unless_rest (c ∷ cs) o xs ys e = ap rest_of e

unless_none : (n : List ℕ) (o : Operator) (xs : List Operator) → unless_unnamed n o xs ≡ [] → (n ≡ []) × (xs ≡ [])
unless_none [] o xs e = (refl, e)
unless_none (c ∷ cs) o xs e = absurd (cc)

none_named : (ys : List Operator) (k : ℕ) (o : Operator) → named_in ys ≡ [] → slice_get ys k ≡ Some o → o.name ≡ []
none_named [] zero o h e = absurd (cc)
none_named [] (suc k) o h e = absurd (cc)
none_named (y ∷ ys) zero o h e =
    let same : y ≡ o = cc in
    subst (λ (q : Operator). q.name ≡ []) same (unless_none y.name y (named_in ys) h).0
none_named (y ∷ ys) (suc k) o h e = none_named ys k o (unless_none y.name y (named_in ys) h).1 e

-- what has a name stood in the table before
pub named_before : (xs ys : List Operator) → named_in (xs ++ ys) ≡ named_in xs → (k : ℕ) (o : Operator) → slice_get (xs ++ ys) k ≡ Some o → o.name ≢ [] → slice_get xs k ≡ Some o
named_before [] ys h k o e named = absurd (named (none_named ys k o h e))
named_before (x ∷ xs) ys h zero o e named = e
named_before (x ∷ xs) ys h (suc k) o e named = named_before xs ys (unless_rest x.name x (named_in (xs ++ ys)) (named_in xs) h) k o e named

none_at : (k : ℕ) (o : Operator) → slice_get [] k ≡ Some o → ⊥
none_at k o e = absurd (cc)

pub smaller_none : (table : List Operator) → table ≡ [] → UsesSmaller table
smaller_none table n k o e = absurd (none_at k o (subst (λ (l : List Operator). slice_get l k ≡ Some o) n e))
