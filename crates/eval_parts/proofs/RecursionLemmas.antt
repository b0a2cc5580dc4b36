-- The sets of the names of a function that uses itself, and the names at a key.
use Rattle.std.proofs.Common.{◌≡◌, ◌∙◌, ap, inl, inr, refl, sym, subst, List, [], ◌∷◌, ◌++◌, length, drop, map, ℕ, zero, suc, ◌+◌, arith, append_assoc}
use Rattle.std.proofs.lemmas.List.{length-append, map-append}
use Rattle.std.specs.Prelude.{Result, Ok, replicate}
use Rattle.states_core.specs.declared.fault.Fault.{Fault}
use Rattle.values_core.specs.Data.{Val}
use Rattle.values_core.specs.Functions.{IsSequence, values_in}
use Rattle.names_terms.specs.Lists.{bounds_list}
use Rattle.names_terms.specs.Terms as term
use Rattle.names_terms.specs.Terms.{Term, Bounds, width}
use Rattle.values_sets.specs.DescribedSets.{Described, Product}
use Rattle.values_sets.specs.Membership.{AreOfParts, Belongs}
use Rattle.values_sets.proofs.Tuples.{is_a_sequence, values-sequence_of}
use Rattle.eval_meanings.specs.Contexts.{Context, Describe}
use Rattle.eval_meanings.specs.Outcomes.{Each}
use Rattle.eval_meanings.specs.Recursion.{KeysDescribed, names_at, sets_of_names}
use Rattle.eval_meanings.specs.Sets.{MeansSet, PartDescribed, ProductDescribed, parts_of, set_at}
use Rattle.eval_meanings.specs.Reads.{Reading, ReadsEach}
use Rattle.eval_parts.specs.Recursions.{HasNames, IsKey}

-- ONE TERM MORE

replicate_more : (n : ℕ) (e : Term) → replicate (n + 1) e ≡ replicate n e ++ e ∷ []
replicate_more n e = ap (λ (k : ℕ). replicate k e) (one_up n) ∙ pushed n
  where
    one_up : (n : ℕ) → n + 1 ≡ suc n
    one_up n = omega arith

    pushed : (n : ℕ) → e ∷ replicate n e ≡ replicate n e ++ e ∷ []
    pushed zero = refl
    pushed (suc n) = ap (λ (es : List Term). e ∷ es) (pushed n)

pub set_pushed : {X : Type 0} (f : X → Term) (first now new : List X) (x : X) (n : ℕ) → new ≡ now ++ x ∷ [] → map f now ≡ map f first ++ replicate n (f x) → map f new ≡ map f first ++ replicate (n + 1) (f x)
set_pushed f first now new x n e h =
    ap (map f) e ∙ map-append f now (x ∷ []) ∙ ap (λ (es : List Term). es ++ f x ∷ []) h ∙ append_assoc (map f first) (replicate n (f x)) (f x ∷ []) ∙ ap (λ (es : List Term). map f first ++ es) (sym (replicate_more n (f x)))

-- the sets of one bound more
pub sets_pushed : (xs : List (ℕ × Term)) (i : ℕ) (x : ℕ × Term) (old new all : List Term) → drop i xs ≡ x ∷ drop (i + 1) xs → new ≡ old ++ replicate x.0 x.1 → old ++ sets_of_names (drop i xs) ≡ all → new ++ sets_of_names (drop (i + 1) xs) ≡ all
sets_pushed xs i x old new all cut e h =
    ap (λ (es : List Term). es ++ sets_of_names (drop (i + 1) xs)) e ∙ append_assoc old (replicate x.0 x.1) (sets_of_names (drop (i + 1) xs))
    ∙ sym (ap (λ (ys : List (ℕ × Term)). old ++ sets_of_names ys) cut) ∙ h

-- AS MANY AS NAMES

replicate_length : (n : ℕ) (e : Term) → length (replicate n e) ≡ n
replicate_length zero e = refl
replicate_length (suc n) e = ap suc (replicate_length n e)

sets_append : (xs ys : List (ℕ × Term)) → length (sets_of_names (xs ++ ys)) ≡ length (sets_of_names xs) + length (sets_of_names ys)
sets_append [] ys = omega arith
sets_append (x ∷ xs) ys =
    let here : length (replicate x.0 x.1 ++ sets_of_names (xs ++ ys)) ≡ length (replicate x.0 x.1) + length (sets_of_names (xs ++ ys)) = length-append (replicate x.0 x.1) (sets_of_names (xs ++ ys)) in
    let there : length (replicate x.0 x.1 ++ sets_of_names xs) ≡ length (replicate x.0 x.1) + length (sets_of_names xs) = length-append (replicate x.0 x.1) (sets_of_names xs) in
    omega (arith, here, there, sets_append xs ys)

pub sets_width : (bs : Bounds) → length (sets_of_names (bounds_list bs)) ≡ width bs
sets_width term.NoBounds = refl
sets_width (term.MoreBounds bs n e) =
    let one : length (replicate n e ++ []) ≡ length (replicate n e) + 0 = length-append (replicate n e) [] in
    omega (arith, sets_append (bounds_list bs) ((n, e) ∷ []), one, replicate_length n e, sets_width bs)

-- what holds of each set of the bounds holds of the set of each name
pub sets_read : (part : Reading) (c : Context) (xs : List (ℕ × Term)) → ReadsEach part c (map (λ x. x.1) xs) → ReadsEach part c (sets_of_names xs)
sets_read part c [] h = tt
sets_read part c (x ∷ xs) h = both (replicate x.0 x.1) (sets_of_names xs) (times x.0) (sets_read part c xs h.1)
  where
    times : (n : ℕ) → ReadsEach part c (replicate n x.1)
    times zero = tt
    times (suc n) = (h.0, times n)

    both : (es fs : List Term) → ReadsEach part c es → ReadsEach part c fs → ReadsEach part c (es ++ fs)
    both [] fs g k = k
    both (e ∷ es) fs g k = (g.0, both es fs g.1 k)

-- KEYS

each_many : {A B : Type 0} (P : A → Result B Fault → Type 0) (xs : List A) (ys : List B) → Each P xs (Ok ys) → length ys ≡ length xs
each_many P [] ys h = let e : ys ≡ [] = cc in ap length e
each_many P (x ∷ xs) ys (inl (y, p, inl (zs, h, e))) = let q : ys ≡ y ∷ zs = cc in ap length q ∙ ap suc (each_many P xs zs h)
each_many P (x ∷ xs) ys (inl (y, p, inr (f, h, e))) = absurd (cc)
each_many P (x ∷ xs) ys (inr (f, h, e)) = absurd (cc)

parts_many : (ds : List Described) (vs : List Val) → AreOfParts (parts_of ds) vs → length vs ≡ length ds
parts_many [] [] h = refl
parts_many [] (v ∷ vs) h = absurd h
parts_many (d ∷ ds) [] h = absurd h
parts_many (d ∷ ds) (v ∷ vs) h = ap suc (parts_many ds vs h.1)

-- the keys of several names are those of a product
product_is : (describe : Describe) (c : Context) (es : List Term) (d : Described) → ProductDescribed describe c es (Ok d) → (ds : List Described) × (d ≡ Product (parts_of ds)) × (length ds ≡ length es)
product_is describe c es d (inl (ps, h, inl (ds, g, e))) =
    let q : d ≡ Product (parts_of ds) = cc in
    (ds, q, each_many (λ p. set_at p.0 p.1) ps ds g ∙ each_many (PartDescribed describe c) es ps h)
product_is describe c es d (inl (ps, h, inr (f, g, e))) = absurd (cc)
product_is describe c es d (inr (f, h, e)) = absurd (cc)

product_key : (describe : Describe) (c : Context) (es : List Term) (d : Described) (key : Val) → ProductDescribed describe c es (Ok d) → Belongs d key → IsSequence key × (length (values_in key) ≡ length es)
product_key describe c es d key h b =
    let p : (ds : List Described) × (d ≡ Product (parts_of ds)) × (length ds ≡ length es) = product_is describe c es d h in
    let k : Belongs (Product (parts_of p.0)) key = subst (λ (x : Described). Belongs x key) p.1 b in
    (is_a_sequence (parts_of p.0) key k, ap (λ (v : Val). length (values_in v)) k.1 ∙ ap length (values-sequence_of k.0) ∙ parts_many p.0 k.0 k.2 ∙ p.2)

pub is_key : (describe : Describe) (c : Context) (es : List Term) (d : Described) (key : Val) → KeysDescribed describe c es (Ok d) → Belongs d key → IsKey es key
is_key describe c [] d key h b = product_key describe c [] d key h b
is_key describe c (e ∷ []) d key h b = (tt, refl)
is_key describe c (e ∷ f ∷ es) d key h b = product_key describe c (e ∷ f ∷ es) d key h b

-- NAMES

pub one_name : (es : List Term) (key : Val) → length es ≡ 1 → names_at es key ≡ key ∷ []
one_name [] key q = absurd (omega (arith, q))
one_name (e ∷ []) key q = refl
one_name (e ∷ f ∷ es) key q = absurd (omega (arith, q))

pub many_names : (es : List Term) (key : Val) → (length es ≡ 1 → ⊥) → names_at es key ≡ values_in key
many_names [] key n = refl
many_names (e ∷ []) key n = absurd (n refl)
many_names (e ∷ f ∷ es) key n = refl

pub is_sequence : (es : List Term) (key : Val) → (length es ≡ 1 → ⊥) → HasNames es key → IsSequence key
is_sequence [] key n h = h
is_sequence (e ∷ []) key n h = absurd (n refl)
is_sequence (e ∷ f ∷ es) key n h = h

-- the keys of one name, and of several
pub one_set : (describe : Describe) (c : Context) (es : List Term) (e : Term) → es ≡ e ∷ [] → KeysDescribed describe c es ≡ MeansSet describe c e
one_set describe c es e q = ap (KeysDescribed describe c) q

pub many_sets : (describe : Describe) (c : Context) (es : List Term) → (length es ≡ 1 → ⊥) → KeysDescribed describe c es ≡ ProductDescribed describe c es
many_sets describe c [] n = refl
many_sets describe c (e ∷ []) n = absurd (n refl)
many_sets describe c (e ∷ f ∷ es) n = refl
