-- The pairs of a function as they are held.
use Rattle.std.proofs.Common.{◌≡◌, inl, inr, ℕ, zero, suc, ◌+◌, ◌<◌, ◌≤◌, List, [], ◌∷◌, ◌++◌, length, take, map, get_or, ap, sym, ◌∙◌, subst, refl, arith, Some, None, Err}
use Rattle.std.specs.declared.cmp.Ordering.TheVariants.{Less, Equal, Greater}
use Rattle.std.specs.Ordering.{is_lt, ordering_reverse}
use Rattle.std.specs.List.{Contains, slice_get}
use Rattle.std.specs.List.Sorted.{IsStrictlySortedBy, IsSortedBy, IsBinarySearchResult}
use Rattle.std.proofs.lemmas.Bool.{cases_lt}
use Rattle.std.proofs.lemmas.Cmp.{tied_itself}
use Rattle.std.proofs.lemmas.List.{get_or-map, take_more}
use Rattle.std.proofs.lemmas.List.Sorted.{searchable_from_sorted}
use Rattle.std.proofs.lemmas.Map.Keys.{Less-from_sorted}
use Rattle.values_core.specs.Data.{Val, string, Pairs, no_pairs, more_pairs, pairs_of, entries}
use Rattle.values_core.specs.Order.{val_cmp}
use Rattle.values_core.specs.OrderLaws.{val_total}
use Rattle.values_core.specs.Ascending.{head_in, tail_in}
use Rattle.values_core.specs.declared.value.Entry.{Entry}
use Rattle.values_core.specs.declared.value.Field.{Field}
use Rattle.values_core.specs.View.{entries_view, fields_view}

pub length-entries : (es : List Entry) → length (entries (entries_view es)) ≡ length es
length-entries [] = refl
length-entries (e ∷ es) = omega (arith, length-entries es)

pub value_read : (es : List Entry) (i : ℕ) (e : Entry) → i < length es → e ≡ get_or es i e → slice_get (map (λ p. p.1) (entries (entries_view es))) i ≡ Some e.value
value_read [] i e h is = absurd (omega arith)
value_read (d ∷ ds) zero e h is = ap (λ (w : Entry). Some w.value) (sym is)
value_read (d ∷ ds) (suc i) e h is = value_read ds i e (omega arith) is

pub value_past : (es : List Entry) (i : ℕ) → length es ≤ i → slice_get (map (λ p. p.1) (entries (entries_view es))) i ≡ None
value_past [] i h = refl
value_past (d ∷ ds) zero h = absurd (omega arith)
value_past (d ∷ ds) (suc i) h = value_past ds i (omega arith)

pub key_read : (es : List Entry) (i : ℕ) (e : Entry) → i < length es → e ≡ get_or es i e → slice_get (map (λ p. p.0) (entries (entries_view es))) i ≡ Some e.key
key_read [] i e h is = absurd (omega arith)
key_read (d ∷ ds) zero e h is = ap (λ (w : Entry). Some w.key) (sym is)
key_read (d ∷ ds) (suc i) e h is = key_read ds i e (omega arith) is

pub key_past : (es : List Entry) (i : ℕ) → length es ≤ i → slice_get (map (λ p. p.0) (entries (entries_view es))) i ≡ None
key_past [] i h = refl
key_past (d ∷ ds) zero h = absurd (omega arith)
key_past (d ∷ ds) (suc i) h = key_past ds i (omega arith)

-- the pair at a place is one of the function's
pub pair_at : (es : List Entry) (i : ℕ) (e : Entry) → i < length es → e ≡ get_or es i e → Contains (entries (entries_view es)) (e.key, e.value)
pair_at [] i e h is = absurd (omega arith)
pair_at (d ∷ ds) zero e h is = subst (λ (w : Entry). Contains ((d.key, d.value) ∷ entries (entries_view ds)) (w.key, w.value)) (sym is) (head_in (d.key, d.value) (entries (entries_view ds)))
pair_at (d ∷ ds) (suc i) e h is = tail_in (d.key, d.value) (entries (entries_view ds)) (e.key, e.value) (pair_at ds i e (omega arith) is)

keys_view : (es : List Entry) → map (λ p. p.0) (entries (entries_view es)) ≡ map (λ e. e.key) es
keys_view [] = refl
keys_view (e ∷ es) = ap (λ ks. e.key ∷ ks) (keys_view es)

-- what ascends by f is sorted by f
sorted_by : {X : Type 0} (f : X → Val) (xs : List X) → IsStrictlySortedBy val_cmp (map f xs) → IsSortedBy (λ (a b : X). is_lt (val_cmp (f a) (f b))) xs
sorted_by {X} f xs s k d h g =
    let up : val_cmp (get_or (map f xs) k (f d)) (get_or (map f xs) (k + 1) (f d)) ≡ Less = Less-from_sorted val_cmp (map f xs) k (k + 1) (f d) s (omega arith) (longer xs k g) in
    let a : get_or (map f xs) k (f d) ≡ f (get_or xs k d) = get_or-map f xs k d (f d) (omega arith) in
    let b : get_or (map f xs) (k + 1) (f d) ≡ f (get_or xs (k + 1) d) = get_or-map f xs (k + 1) d (f d) (omega arith) in
    let up' : val_cmp (f (get_or xs k d)) (f (get_or xs (k + 1) d)) ≡ Less = rw (← a, ← b) up in
    ap is_lt (val_total.antisymm (f (get_or xs (k + 1) d)) (f (get_or xs k d)) ∙ ap ordering_reverse up')
  where
    longer : (ys : List X) (k : ℕ) → k + 1 < length ys → k + 1 < length (map f ys)
    longer [] k h = absurd (omega arith)
    longer (e ∷ []) zero h = absurd (omega arith)
    longer (e ∷ g ∷ ys) zero h = omega arith
    longer (e ∷ ys) (suc k) h = omega (arith, longer ys k (omega arith))

-- where a search by f fails, f gives the key nowhere
none_found : {X : Type 0} (f : X → Val) (xs : List X) (key : Val) (i : ℕ) → IsStrictlySortedBy val_cmp (map f xs) → i ≤ length xs
    → IsBinarySearchResult (λ (x : X). val_cmp (f x) key) xs (Err i) → Contains (map f xs) key → ⊥
none_found {X} f xs key i s b p g =
    let within : g.0 < length xs = omega (arith, g.1, shorter xs) in
    let d = some xs g.0 within in
    let parts = p (searchable_from_sorted val_total f xs key (sorted_by f xs s)) in
    let there : f (get_or xs g.0 d) ≡ key = sym (get_or-map f xs g.0 d key within) ∙ g.2 in
    let same : val_cmp (f (get_or xs g.0 d)) key ≡ Equal = rw there (tied_itself val_total key) in
    elim (cases_lt g.0 i) [
      | inl l ↦ let e : val_cmp (f (get_or xs g.0 d)) key ≡ Less = parts.0 g.0 d (omega arith) l in cc
      | inr l ↦ let e : val_cmp (f (get_or xs g.0 d)) key ≡ Greater = parts.1 g.0 d l within in cc
    ]
  where
    shorter : (ys : List X) → length (map f ys) ≤ length ys
    shorter [] = omega arith
    shorter (e ∷ ys) = omega (arith, shorter ys)

    some : (ys : List X) (j : ℕ) → j < length ys → X
    some [] j h = absurd (omega arith)
    some (e ∷ ys) j h = e

-- where a search by the key fails, no pair has the key
pub no_key : (es : List Entry) (key : Val) (i : ℕ) → IsStrictlySortedBy val_cmp (map (λ p. p.0) (entries (entries_view es))) → i ≤ length es
    → IsBinarySearchResult (λ (e : Entry). val_cmp e.key key) es (Err i) → Contains (map (λ p. p.0) (entries (entries_view es))) key → ⊥
no_key es key i s b p h = none_found (λ (e : Entry). e.key) es key i (rw keys_view at s) b p (rw keys_view at h)

names_view : (fs : List Field) → map (λ p. p.0) (entries (fields_view fs)) ≡ map (λ (f : Field). string f.name) fs
names_view [] = refl
names_view (f ∷ fs) = ap (λ ks. string f.name ∷ ks) (names_view fs)

-- where a search by the name fails, no field has the name
pub no_field : (fs : List Field) (key : Val) (i : ℕ) → IsStrictlySortedBy val_cmp (map (λ p. p.0) (entries (fields_view fs))) → i ≤ length fs
    → IsBinarySearchResult (λ (f : Field). val_cmp (string f.name) key) fs (Err i) → Contains (map (λ p. p.0) (entries (fields_view fs))) key → ⊥
no_field fs key i s b p h = none_found (λ (f : Field). string f.name) fs key i (rw names_view at s) b p (rw names_view at h)

-- one more pair at the end
abbrev after : Pairs → Val → Val → Pairs
after no_pairs k v = more_pairs k v no_pairs
after (more_pairs l w ps) k v = more_pairs l w (after ps k v)

entries_after : (es : List Entry) (e : Entry) → entries_view (es ++ e ∷ []) ≡ after (entries_view es) e.key e.value
entries_after [] e = refl
entries_after (d ∷ ds) e = ap (more_pairs d.key d.value) (entries_after ds e)

pairs_after : (ps : List (Val × Val)) (k v : Val) → pairs_of (ps ++ (k, v) ∷ []) ≡ after (pairs_of ps) k v
pairs_after [] k v = refl
pairs_after (p ∷ ps) k v = ap (more_pairs p.0 p.1) (pairs_after ps k v)

pub one_more : (es ds : List Entry) (ps : List (Val × Val)) (e : Entry) → ds ≡ es ++ e ∷ [] → entries_view es ≡ pairs_of ps → entries_view ds ≡ pairs_of (ps ++ (e.key, e.value) ∷ [])
one_more es ds ps e is h = ap entries_view is ∙ entries_after es e ∙ ap (λ qs. after qs e.key e.value) h ∙ sym (pairs_after ps e.key e.value)

fields_after : (fs : List Field) (f : Field) → fields_view (fs ++ f ∷ []) ≡ after (fields_view fs) (string f.name) f.value
fields_after [] f = refl
fields_after (g ∷ gs) f = ap (more_pairs (string g.name) g.value) (fields_after gs f)

pub one_more_field : (fs gs : List Field) (ps : List (Val × Val)) (f : Field) (k : Val) → gs ≡ fs ++ f ∷ [] → string f.name ≡ k → fields_view fs ≡ pairs_of ps → fields_view gs ≡ pairs_of (ps ++ (k, f.value) ∷ [])
one_more_field fs gs ps f k is name h =
    ap fields_view is ∙ fields_after fs f ∙ ap (λ j. after (fields_view fs) j f.value) name ∙ ap (λ qs. after qs k f.value) h ∙ sym (pairs_after ps k f.value)

entries_push : (es : List Entry) (e : Entry) → entries (entries_view (es ++ e ∷ [])) ≡ entries (entries_view es) ++ (e.key, e.value) ∷ []
entries_push [] e = refl
entries_push (d ∷ ds) e = ap (λ ps. (d.key, d.value) ∷ ps) (entries_push ds e)

pub entries_more : (es : List Entry) (i : ℕ) (e : Entry) → i < length es → e ≡ get_or es i e → entries (entries_view (take (i + 1) es)) ≡ entries (entries_view (take i es)) ++ (e.key, e.value) ∷ []
entries_more es i e h is = rw (take_more es i e, ← is) (entries_push (take i es) e)
