-- What the parts of JSON that were read say of the whole.
use Rattle.std.proofs.Common.{◌≡◌, ℕ, zero, suc, ◌+◌, ◌<◌, List, [], ◌∷◌, ◌++◌, length, map, take, get_or, true, false, String, Global, string_bytes, ap, sym, ◌∙◌, subst, refl, arith, rules, true≢false, add-one}
use Rattle.serde_json.specs.Data.{number, string, no_members, member}
use Rattle.serde_json.specs.View.{view, items_of, items_view, members_view, number_view}
use Rattle.serde_json.specs.declared.number.Number.{Number as JsonNumber}
use Rattle.serde_json.specs.declared.value.Value.{Value, String as Text, Number, the_lemmas}
use Rattle.serde_json.proofs.Views.{Entry}
use Rattle.values_core.specs.Data.{Val}
use Rattle.values_json.specs.Reads.{Reads, ReadsEach, ReadsPairs, ReadsPair, ReadsFields, ReadsForm, is_marked}
use Rattle.values_json.proofs.OneValue.{form_is_marked, form_marks}

pub view-String : (s : String Global) → view (Text s) ≡ string (string_bytes s)
view-String s = search (rules, the_lemmas)

pub view-Number : (n : JsonNumber) → view (Number n) ≡ number (number_view n)
view-Number n = search (rules, the_lemmas)

-- one more item, one more value
items_push : (xs : List Value) (i : ℕ) (x : Value) (vs : List Val) (v : Val) → i < length xs → x ≡ get_or xs i x
    → ReadsEach (items_of (map view (take i xs))) vs → Reads (view x) v → ReadsEach (items_of (map view (take (suc i) xs))) (vs ++ v ∷ [])
items_push [] i x vs v h e p r = absurd (omega arith)
items_push (y ∷ ys) zero x [] v h e p r = (subst (λ (z : Value). Reads (view z) v) e r, tt)
items_push (y ∷ ys) zero x (w ∷ ws) v h e p r = absurd p
items_push (y ∷ ys) (suc i) x [] v h e p r = absurd p
items_push (y ∷ ys) (suc i) x (w ∷ ws) v h e p r = (p.0, items_push ys i x ws v (omega arith) e p.1 r)

pub items_more : (xs : List Value) (i : ℕ) (x : Value) (vs : List Val) (v : Val) → i < length xs → x ≡ get_or xs i x
    → ReadsEach (items_of (map view (take i xs))) vs → Reads (view x) v → ReadsEach (items_of (map view (take (i + 1) xs))) (vs ++ v ∷ [])
items_more xs i x vs v h e p r = rw (add-one i) (items_push xs i x vs v h e p r)

-- an item that stands for no value, and no values of the items
pub items_stop : (xs : List Value) (i : ℕ) (x : Value) → i < length xs → x ≡ get_or xs i x → ((v : Val) → ¬ Reads (view x) v) → (vs : List Val) → ¬ ReadsEach (items_view xs) vs
items_stop [] i x h e n vs p = absurd (omega arith)
items_stop (y ∷ ys) i x h e n [] p = p
items_stop (y ∷ ys) zero x h e n (v ∷ vs) p = n v (subst (λ (z : Value). Reads (view z) v) (sym e) p.0)
items_stop (y ∷ ys) (suc i) x h e n (v ∷ vs) p = items_stop ys i x (omega arith) e n vs p.1

pairs_push : (xs : List Value) (i : ℕ) (x : Value) (vs : List (Val × Val)) (v : Val × Val) → i < length xs → x ≡ get_or xs i x
    → ReadsPairs (items_of (map view (take i xs))) vs → ReadsPair (view x) v → ReadsPairs (items_of (map view (take (suc i) xs))) (vs ++ v ∷ [])
pairs_push [] i x vs v h e p r = absurd (omega arith)
pairs_push (y ∷ ys) zero x [] v h e p r = (subst (λ (z : Value). ReadsPair (view z) v) e r, tt)
pairs_push (y ∷ ys) zero x (w ∷ ws) v h e p r = absurd p
pairs_push (y ∷ ys) (suc i) x [] v h e p r = absurd p
pairs_push (y ∷ ys) (suc i) x (w ∷ ws) v h e p r = (p.0, pairs_push ys i x ws v (omega arith) e p.1 r)

pub pairs_more : (xs : List Value) (i : ℕ) (x : Value) (vs : List (Val × Val)) (v : Val × Val) → i < length xs → x ≡ get_or xs i x
    → ReadsPairs (items_of (map view (take i xs))) vs → ReadsPair (view x) v → ReadsPairs (items_of (map view (take (i + 1) xs))) (vs ++ v ∷ [])
pairs_more xs i x vs v h e p r = rw (add-one i) (pairs_push xs i x vs v h e p r)

pub pairs_stop : (xs : List Value) (i : ℕ) (x : Value) → i < length xs → x ≡ get_or xs i x → ((v : Val × Val) → ¬ ReadsPair (view x) v) → (vs : List (Val × Val)) → ¬ ReadsPairs (items_view xs) vs
pairs_stop [] i x h e n vs p = absurd (omega arith)
pairs_stop (y ∷ ys) i x h e n [] p = p
pairs_stop (y ∷ ys) zero x h e n (v ∷ vs) p = n v (subst (λ (z : Value). ReadsPair (view z) v) (sym e) p.0)
pairs_stop (y ∷ ys) (suc i) x h e n (v ∷ vs) p = pairs_stop ys i x (omega arith) e n vs p.1

-- an array of another length than two is no pair
pub not_two : (xs : List Value) (v : Val × Val) → (length xs ≡ 2 → ⊥) → ¬ ReadsEach (items_view xs) (v.0 ∷ v.1 ∷ [])
not_two [] v n p = p
not_two (x ∷ []) v n p = p.1
not_two (x ∷ y ∷ []) v n p = n refl
not_two (x ∷ y ∷ z ∷ zs) v n p = p.1.1

-- one more member, one more field
pub fields_more : (done : List Entry) (e : Entry) (fs : List (List ℕ × Val)) (f : List ℕ × Val) → ReadsFields (members_view done) fs → is_marked (string_bytes e.0) ≡ false → f.0 ≡ string_bytes e.0
    → Reads (view e.1) f.1 → ReadsFields (members_view (done ++ e ∷ [])) (fs ++ f ∷ [])
fields_more [] e [] f p m k r = (m, k, r, tt)
fields_more [] e (g ∷ gs) f p m k r = absurd p
fields_more (d ∷ ds) e [] f p m k r = absurd p
fields_more (d ∷ ds) e (g ∷ gs) f p m k r = (p.0, p.1, p.2, fields_more ds e gs f p.3 m k r)

pub fields_stop : (done : List Entry) (e : Entry) (left : List Entry) → ((v : Val) → ¬ Reads (view e.1) v) → (fs : List (List ℕ × Val)) → ¬ ReadsFields (members_view (done ++ e ∷ left)) fs
fields_stop [] e left n [] p = p
fields_stop [] e left n (f ∷ fs) p = n f.1 p.2
fields_stop (d ∷ ds) e left n [] p = p
fields_stop (d ∷ ds) e left n (f ∷ fs) p = fields_stop ds e left n fs p.3

pub fields_marked : (done : List Entry) (e : Entry) (left : List Entry) → is_marked (string_bytes e.0) ≡ true → (fs : List (List ℕ × Val)) → ¬ ReadsFields (members_view (done ++ e ∷ left)) fs
fields_marked [] e left m [] p = p
fields_marked [] e left m (f ∷ fs) p = true≢false (sym m ∙ p.0)
fields_marked (d ∷ ds) e left m [] p = p
fields_marked (d ∷ ds) e left m (f ∷ fs) p = fields_marked ds e left m fs p.3

-- members of another number than one are no form
pub no_form_unless_one : (es : List Entry) → (length es ≡ 1 → ⊥) → (v : Val) → ReadsForm (members_view es) v → ⊥
no_form_unless_one [] n v h = h
no_form_unless_one (e ∷ []) n v h = n refl
no_form_unless_one (e ∷ d ∷ es) n v h = h

-- nor is a last member whose key does not begin with $
pub no_form_more : (done : List Entry) (e : Entry) → is_marked (string_bytes e.0) ≡ false → (v : Val) → ReadsForm (members_view (done ++ e ∷ [])) v → ⊥
no_form_more [] e m v h = true≢false (sym (form_is_marked (string_bytes e.0) (form_marks (string_bytes e.0) (view e.1) v h)) ∙ m)
no_form_more (d ∷ []) e m v h = h
no_form_more (d ∷ c ∷ ds) e m v h = h

-- the one member
pub sole : (es done : List Entry) (e : Entry) (left : List Entry) → es ≡ done ++ e ∷ left → length es ≡ 1 → members_view es ≡ member (string_bytes e.0) (view e.1) no_members
sole es [] e [] q n = ap members_view q
sole es [] e (l ∷ ls) q n = absurd (omega (arith, ap (λ (es : List Entry). length es) q))
sole es (d ∷ []) e left q n = absurd (omega (arith, ap (λ (es : List Entry). length es) q))
sole es (d ∷ c ∷ ds) e left q n = absurd (omega (arith, ap (λ (es : List Entry). length es) q))

pub nil_end : {X : Type 0} (xs : List X) → xs ++ [] ≡ xs
nil_end [] = refl
nil_end (x ∷ xs) = ap (λ ys. x ∷ ys) (nil_end xs)
