-- What the items of an array that were read say of the whole.
use Rattle.std.proofs.Common.{◌≡◌, ℕ, zero, suc, ◌+◌, ◌<◌, List, [], ◌∷◌, ◌++◌, length, map, take, get_or, Bool, true, ◌&&◌, Option, Some, None, ap, sym, ◌∙◌, subst, refl, arith, true≢false, add-one, option_map, option_and_then, Result, Ok, Err, IfOk}
use Rattle.std.specs.Prelude.{is_some, unwrap_or}
use Rattle.std.specs.List.{list_all}
use Rattle.std.specs.declared.alloc.AllocError.{AllocError}
use Rattle.values_json.specs.Reads.{Finds}
use Rattle.serde_json.specs.Data.{Data, Items, no_items, item}
use Rattle.serde_json.specs.View.{view, items_of, items_view}
use Rattle.serde_json.specs.declared.value.Value.{Value}
use Rattle.logs_shapes.specs.Parts.{PathShape, each_of}
use Rattle.logs_lines.specs.Setting.{Setting}
use Rattle.logs_lines.specs.Values.{EachItem, EachOf, ItemReads, has_known_name}

each_push : {A B : Type 0} (f : Data → Option A) (R : A → B → Type 0) (xs : List Value) (i : ℕ) (x : Value) (vs : List B) (v : B) → i < length xs → x ≡ get_or xs i x
    → EachItem f R (items_of (map view (take i xs))) vs → ItemReads f R (view x) v → EachItem f R (items_of (map view (take (suc i) xs))) (vs ++ v ∷ [])
each_push f R [] i x vs v h e p r = absurd (omega arith)
each_push f R (y ∷ ys) zero x [] v h e p r = (subst (λ (z : Value). ItemReads f R (view z) v) e r, tt)
each_push f R (y ∷ ys) zero x (w ∷ ws) v h e p r = absurd p
each_push f R (y ∷ ys) (suc i) x [] v h e p r = absurd p
each_push f R (y ∷ ys) (suc i) x (w ∷ ws) v h e p r = (p.0, each_push f R ys i x ws v (omega arith) e p.1 r)

-- one more item, one more of what they read as
pub each_more : {A B : Type 0} (f : Data → Option A) (R : A → B → Type 0) (xs : List Value) (i : ℕ) (x : Value) (vs : List B) (v : B) → i < length xs → x ≡ get_or xs i x
    → EachItem f R (items_of (map view (take i xs))) vs → ItemReads f R (view x) v → EachItem f R (items_of (map view (take (i + 1) xs))) (vs ++ v ∷ [])
each_more f R xs i x vs v h e p r = rw (add-one i) (each_push f R xs i x vs v h e p r)

-- an item that reads as nothing, and the items read as nothing
pub each_stop : {A B : Type 0} (f : Data → Option A) (R : A → B → Type 0) (xs : List Value) (i : ℕ) (x : Value) → i < length xs → x ≡ get_or xs i x
    → ((v : B) → ¬ ItemReads f R (view x) v) → (vs : List B) → ¬ EachItem f R (items_view xs) vs
each_stop f R [] i x h e n vs p = absurd (omega arith)
each_stop f R (y ∷ ys) i x h e n [] p = p
each_stop f R (y ∷ ys) zero x h e n (v ∷ vs) p = n v (subst (λ (z : Value). ItemReads f R (view z) v) (sym e) p.0)
each_stop f R (y ∷ ys) (suc i) x h e n (v ∷ vs) p = each_stop f R ys i x (omega arith) e n vs p.1

some_is : {A : Type 0} (a b : A) → Some a ≡ Some b → a ≡ b
some_is a b e = cc

cons_is : {A : Type 0} (o : Option A) (m : Option (List A)) (all : List A) → option_and_then (λ a. option_map (λ more. a ∷ more) m) o ≡ Some all
    → (a : A) × (more : List A) × (o ≡ Some a) × (m ≡ Some more) × (all ≡ a ∷ more)
cons_is None m all e = absurd cc
cons_is (Some a) None all e = absurd cc
cons_is (Some a) (Some more) all e = (a, more, refl, refl, sym (some_is (a ∷ more) all e))

nil_is : {A : Type 0} (all : List A) → Some [] ≡ Some all → all ≡ []
nil_is all e = sym (some_is [] all e)

list_of : {A : Type 0} (o : Option (List A)) → is_some o ≡ true → o ≡ Some (unwrap_or o [])
list_of None h = absurd (true≢false (sym h))
list_of (Some xs) h = refl

shape_of_items : {A B : Type 0} (f : Data → Option A) (R : A → B → Type 0) (ds : Items) (all : List A) (bs : List B) → each_of f ds ≡ Some all → EachItem f R ds bs → EachOf R all bs
shape_of_items f R no_items all [] e h = rw (nil_is all e) tt
shape_of_items f R no_items all (b ∷ bs) e h = absurd h
shape_of_items f R (item d ds) all [] e h = absurd h
shape_of_items f R (item d ds) all (b ∷ bs) e h =
    let c = cons_is (f d) (each_of f ds) all e in
    let same = some_is h.0.0 c.0 (sym h.0.1 ∙ c.2) in
    rw c.4 (subst (λ a. R a b) same h.0.2, shape_of_items f R ds c.1 bs c.3 h.1)

items_of_shape : {A B : Type 0} (f : Data → Option A) (R : A → B → Type 0) (ds : Items) (all : List A) (bs : List B) → each_of f ds ≡ Some all → EachOf R all bs → EachItem f R ds bs
items_of_shape f R no_items all [] e h = tt
items_of_shape f R no_items all (b ∷ bs) e h = subst (λ (xs : List _). EachOf R xs (b ∷ bs)) (nil_is all e) h
items_of_shape f R (item d ds) all [] e h = let c = cons_is (f d) (each_of f ds) all e in subst (λ (xs : List _). EachOf R xs []) c.4 h
items_of_shape f R (item d ds) all (b ∷ bs) e h =
    let c = cons_is (f d) (each_of f ds) all e in
    let k = subst (λ (xs : List _). EachOf R xs (b ∷ bs)) c.4 h in
    ((c.0, c.2, k.0), items_of_shape f R ds c.1 bs c.3 k.1)

-- what items read as, their shapes read as
pub each_reads : {A B : Type 0} (f : Data → Option A) (R : A → B → Type 0) (ds : Items) (bs : List B) → is_some (each_of f ds) ≡ true → EachItem f R ds bs → EachOf R (unwrap_or (each_of f ds) []) bs
each_reads f R ds bs s h = shape_of_items f R ds (unwrap_or (each_of f ds) []) bs (list_of (each_of f ds) s) h

pub none_reads : {A B : Type 0} (f : Data → Option A) (R : A → B → Type 0) (ds : Items) → is_some (each_of f ds) ≡ true → ((bs : List B) → ¬ EachItem f R ds bs) → (bs : List B) → ¬ EachOf R (unwrap_or (each_of f ds) []) bs
none_reads f R ds s n bs h = n bs (items_of_shape f R ds (unwrap_or (each_of f ds) []) bs (list_of (each_of f ds) s) h)

known_step : {A : Type 0} (g : Setting) (p : A → PathShape) (o : Option A) (a : A) (l r : Bool) → o ≡ Some a → l ≡ r → (has_known_name g (option_map p o) && l) ≡ (is_some (g.variable (p a).name) && r)
known_step g p o a l r e h = rw (e, h) refl

known_all : {A : Type 0} (g : Setting) (f : Data → Option A) (p : A → PathShape) (xs : List Value) (all : List A) → each_of f (items_view xs) ≡ Some all
    → list_all (λ x. has_known_name g (option_map p (f (view x)))) xs ≡ list_all (λ name. is_some (g.variable name)) (map (λ a. (p a).name) all)
known_all g f p [] all e = rw (nil_is all e) refl
known_all g f p (x ∷ xs) all e =
    let c = cons_is (f (view x)) (each_of f (items_view xs)) all e in
    known_step g p (f (view x)) c.0 _ _ c.2 (known_all g f p xs c.1 c.3) ∙ ap (λ bs. list_all (λ name. is_some (g.variable name)) (map (λ b. (p b).name) bs)) (sym c.4)

-- each item begins with a variable's name exactly where each name of the shapes is one
pub known_names : {A : Type 0} (g : Setting) (f : Data → Option A) (p : A → PathShape) (xs : List Value) → is_some (each_of f (items_view xs)) ≡ true
    → list_all (λ x. has_known_name g (option_map p (f (view x)))) xs ≡ list_all (λ name. is_some (g.variable name)) (map (λ a. (p a).name) (unwrap_or (each_of f (items_view xs)) []))
known_names g f p xs s = known_all g f p xs (unwrap_or (each_of f (items_view xs)) []) (list_of (each_of f (items_view xs)) s)

-- what is found among the items is found among their shapes
pub found_each : {A B : Type 0} (f : Data → Option A) (R : A → B → Type 0) (ds : Items) (r : Result (Option (List B)) AllocError) → is_some (each_of f ds) ≡ true
    → IfOk r (Finds (EachItem f R ds)) → IfOk r (Finds (EachOf R (unwrap_or (each_of f ds) [])))
found_each f R ds (Ok None) s n = none_reads f R ds s n
found_each f R ds (Ok (Some bs)) s h = each_reads f R ds bs s h
found_each f R ds (Err e) s h = h
