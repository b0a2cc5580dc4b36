-- One member of each of several sets at once: all ways, each once.
use Rattle.std.proofs.Common.{◌≡◌, inl, inr, ℕ, zero, suc, ◌+◌, ◌*◌, ◌/◌, ◌%◌, ◌<◌, ◌≤◌, List, [], ◌∷◌, length, get_or, ap, sym, ◌∙◌, subst, refl, arith}
use Rattle.std.specs.List.{Contains, zip}
use Rattle.std.proofs.Math.Nat.{zero-mul, mul-suc, mul_comm, mul-le-mul_left, mod-lt, mod-eq_of_lt, div-eq_of_lt, div-add-mod, div-lt_iff_lt-mul, add-mul-mod_self_left, add-mul-div_left}
use Rattle.std.proofs.lemmas.List.{get_or_default}
use Rattle.std.proofs.lemmas.List.Elements.{Contains-get_or}
use Rattle.std.proofs.lemmas.Slice.Zip.{firsts-zip}
use Rattle.values_core.specs.Data.{Val}
use Rattle.values_core.specs.Ascending.{cons_cases, head_in, tail_in}
use Rattle.values_core.specs.FunctionLaws.{in_keys}
use Rattle.values_core.specs.Products.{AreOneOfEach}
use Rattle.values_core.specs.SetOperations.{AreDifferent}
use Rattle.values_core.specs.Sets.{items_of}
use Rattle.values_operations.specs.Choices.{choice}
use Rattle.values_operations.specs.Counts.{ways}

-- what stands at two places of a list in which nothing stands twice
pub get_same : {X : Type 0} (xs : List X) (i j : ℕ) (d : X) → AreDifferent xs → i < length xs → j < length xs → get_or xs i d ≡ get_or xs j d → i ≡ j
get_same [] i j d n a b e = absurd (omega (arith, a))
get_same (x ∷ xs) zero zero d n a b e = refl
get_same (x ∷ xs) zero (suc j) d n a b e = absurd (n.0 (subst (λ z. Contains xs z) (sym e) (Contains-get_or xs j d (omega arith))))
get_same (x ∷ xs) (suc i) zero d n a b e = absurd (n.0 (subst (λ z. Contains xs z) e (Contains-get_or xs i d (omega arith))))
get_same (x ∷ xs) (suc i) (suc j) d n a b e = ap suc (get_same xs i j d n.1 (omega arith) (omega arith) e)

-- a number below a product, by its digits
pub some_left : (l w n : ℕ) → n < l * w → 0 < l
some_left zero w n h = absurd (omega (arith, h, zero-mul w))
some_left (suc l) w n h = omega arith

pub quotient_below : (l w n : ℕ) → n < l * w → n / l < w
quotient_below l w n h = (div-lt_iff_lt-mul (some_left l w n h)).1 (omega (arith, h, mul_comm l w))

pub digits_below : (l w i m : ℕ) → i < l → m < w → i + l * m < l * w
digits_below l w i m h g =
    let most : l * suc m ≤ l * w = mul-le-mul_left l g in
    omega (arith, h, most, mul-suc l m)

pub low_digit : (l i m : ℕ) → i < l → (i + l * m) % l ≡ i
low_digit l i m h = add-mul-mod_self_left i l m ∙ mod-eq_of_lt h

pub high_digits : (l i m : ℕ) → i < l → (i + l * m) / l ≡ m
high_digits l i m h =
    let none : i / l ≡ 0 = div-eq_of_lt h in
    let split : (i + l * m) / l ≡ i / l + m = add-mul-div_left i m (omega (arith, h)) in
    omega (arith, none, split)

pub same_digits : (l m n : ℕ) → m % l ≡ n % l → m / l ≡ n / l → m ≡ n
same_digits l m n e f =
    let more : l * (m / l) ≡ l * (n / l) = ap (λ k. l * k) f in
    omega (arith, e, more, div-add-mod m l, div-add-mod n l)

-- each way takes one member of each part
pub choice_each : (ps : List Val) (n : ℕ) → n < ways ps → AreOneOfEach (choice ps n) ps
choice_each [] n h = tt
choice_each (p ∷ ps) n h =
    let l = length (items_of p) in
    (Contains-get_or (items_of p) (n % l) p (mod-lt n (some_left l (ways ps) n h)), choice_each ps (n / l) (quotient_below l (ways ps) n h))

list_same : (x y : Val) (xs ys : List Val) → x ≡ y → xs ≡ ys → x ∷ xs ≡ y ∷ ys
list_same x y xs ys e f = λ i. e i ∷ f i

-- members of each part are taken in some way
pub way_of : (ps vs : List Val) → AreOneOfEach vs ps → (n : ℕ) × (n < ways ps) × (choice ps n ≡ vs)
way_of [] [] h = (0, omega arith, refl)
way_of [] (v ∷ vs) h = absurd h
way_of (p ∷ ps) [] h = absurd h
way_of (p ∷ ps) (v ∷ vs) h =
    let l = length (items_of p) in
    let w = way_of ps vs h.1 in
    let i = h.0.0 in
    let here : get_or (items_of p) ((i + l * w.0) % l) p ≡ v = ap (λ k. get_or (items_of p) k p) (low_digit l i w.0 h.0.1) ∙ get_or_default (items_of p) i p v h.0.1 ∙ h.0.2 in
    let rest : choice ps ((i + l * w.0) / l) ≡ vs = ap (λ k. choice ps k) (high_digits l i w.0 h.0.1) ∙ w.2 in
    (i + l * w.0, digits_below l (ways ps) i w.0 h.0.1 w.1, list_same (get_or (items_of p) ((i + l * w.0) % l) p) v (choice ps ((i + l * w.0) / l)) vs here rest)

behind : List Val → List Val
behind [] = []
behind (v ∷ vs) = vs

-- two ways take different members
pub way_same : (ps : List Val) (m n : ℕ) → ((p : Val) → Contains ps p → AreDifferent (items_of p)) → m < ways ps → n < ways ps → choice ps m ≡ choice ps n → m ≡ n
unfolding behind
way_same [] m n d a b e = omega (arith, a, b)
way_same (p ∷ ps) m n d a b e =
    let l = length (items_of p) in
    let w = ways ps in
    let low : m % l ≡ n % l = get_same (items_of p) (m % l) (n % l) p (d p (head_in p ps)) (mod-lt m (some_left l w m a)) (mod-lt n (some_left l w m a)) (ap (λ vs. get_or vs 0 p) e) in
    let high : m / l ≡ n / l = way_same ps (m / l) (n / l) (λ q h. d q (tail_in p ps q h)) (quotient_below l w m a) (quotient_below l w n b) (ap behind e) in
    same_digits l m n low high

pub as_many : (ps vs : List Val) → AreOneOfEach vs ps → length vs ≡ length ps
as_many [] [] h = refl
as_many [] (v ∷ vs) h = absurd h
as_many (p ∷ ps) [] h = absurd h
as_many (p ∷ ps) (v ∷ vs) h = ap suc (as_many ps vs h.1)

-- the keys of pairs made of keys and values
pub key_of_zip : (ks vs : List Val) (r : Val × Val) → length vs ≡ length ks → Contains (zip ks vs) r → Contains ks r.0
key_of_zip ks vs r e h = subst (λ (js : List Val). Contains js r.0) (firsts-zip ks vs e) (in_keys (zip ks vs) r h)

-- values beside the same keys are the same if the pairs are
pub beside_same : (ks vs ws : List Val) → AreDifferent ks → length vs ≡ length ks → length ws ≡ length ks → ((r : Val × Val) → Contains (zip ks vs) r → Contains (zip ks ws) r) → vs ≡ ws
beside_same [] [] [] d a b f = refl
beside_same [] (v ∷ vs) ws d a b f = absurd (omega (arith, a))
beside_same [] [] (w ∷ ws) d a b f = absurd (omega (arith, b))
beside_same (k ∷ ks) [] ws d a b f = absurd (omega (arith, a))
beside_same (k ∷ ks) (v ∷ vs) [] d a b f = absurd (omega (arith, b))
beside_same (k ∷ ks) (v ∷ vs) (w ∷ ws) d a b f =
    let fewer : length vs ≡ length ks = omega (arith, a) in
    let same : length ws ≡ length ks = omega (arith, b) in
    let here : v ≡ w = elim (cons_cases (k, w) (zip ks ws) (k, v) (f (k, v) (head_in (k, v) (zip ks vs)))) [
      | inl e ↦ ap (λ (r : Val × Val). r.1) (sym e)
      | inr g ↦ absurd (d.0 (key_of_zip ks ws (k, v) same g))
    ] in
    let rest : vs ≡ ws = beside_same ks vs ws d.1 fewer same (λ r h. elim (cons_cases (k, w) (zip ks ws) r (f r (tail_in (k, v) (zip ks vs) r h))) [
      | inl e ↦ absurd (d.0 (subst (λ (z : Val × Val). Contains ks z.0) (sym e) (key_of_zip ks vs r fewer h)))
      | inr g ↦ g
    ]) in
    list_same v w vs ws here rest
