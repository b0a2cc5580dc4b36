-- That an outcome exists, and that a value that it has is as it should be: of the ways in which outcomes of parts make that of the whole.
use Rattle.std.proofs.Common.{◌≡◌, inl, inr, refl, ap, sym, subst, arith, ℕ, suc, List, [], ◌∷◌, length, map}
use Rattle.std.specs.Prelude.{Bool, true, false, IsTrue, Result, Ok, Err, Contains}
use Rattle.std.specs.List.{AllByRecursion}
use Rattle.base_core.specs.declared.place.Place.{Place}
use Rattle.values_core.specs.Data.{Val, model, truth, integer, string, set, function}
use Rattle.values_core.specs.IsValue.{IsValue}
use Rattle.values_core.specs.Ascending.{cons_cases, head_in, tail_in, none_in}
use Rattle.values_core.specs.SetOperations.{AreDifferent}
use Rattle.values_core.specs.declared.fault.EvalKind.{EvalKind}
use Rattle.values_core.specs.declared.fault.EvalKind.TheVariants.{NotBoolean}
use Rattle.values_core.specs.declared.fault.OpFault.{OpFault}
use Rattle.states_core.specs.declared.fault.Fault.{Fault}
use Rattle.eval_meanings.specs.Outcomes.{Outcome, Gives, Fails, Then, Either, Decides, Each, AllTrue, SomeTrue, truth_at, IsTruth, Operated, fault}
use Rattle.values_set_bounds.proofs.Decided.{Decided}
use Rattle.eval_some_outcome_laws.proofs.Answered.{Answered}

-- an outcome, and of each value that may come that it meets V
pub record IsSome {A : Type 0} (V : A → Type 0) (P : Outcome A) : Type 0 where
  pub some : (r : Result A Fault) × P r
  pub good : (v : A) → P (Ok v) → V v

-- of which nothing is asked
abbrev pub Any : {A : Type 0} → A → Type 0
Any v = Unit {0}

pub some_any : {A : Type 0} (V : A → Type 0) (P : Outcome A) → IsSome V P → IsSome Any P
some_any V P p = record { some = p.some; good = λ v h. tt }

pub some_as : {A : Type 0} (V W : A → Type 0) (P : Outcome A) → ((v : A) → V v → W v) → IsSome V P → IsSome W P
some_as V W P f p = record { some = p.some; good = λ v h. f v (p.good v h) }

value_same : {A : Type 0} (v w : A) → ◌≡◌ {A = Result A Fault} (Ok w) (Ok v) → v ≡ w
value_same v w e = cc

unlike : {A : Type 0} (v : A) (f : Fault) → ◌≡◌ {A = Result A Fault} (Ok v) (Err f) → ⊥
unlike v f e = cc

pub some_gives : {A : Type 0} (V : A → Type 0) (v : A) → V v → IsSome V (Gives v)
some_gives V v p = record { some = (Ok v, refl); good = λ w e. subst V (value_same v w e) p }

pub some_fails : {A : Type 0} (V : A → Type 0) (kind : EvalKind) (at : Place) → IsSome V (Fails kind at)
some_fails V kind at = record { some = (Err (fault kind at), refl); good = λ w e. absurd (unlike w _ e) }

pub some_then : {A B : Type 0} (V : A → Type 0) (W : B → Type 0) (P : Outcome A) (K : A → Outcome B) → IsSome V P → ((v : A) → V v → IsSome W (K v)) → IsSome W (Then P K)
some_then {A = A} {B = B} V W P K p k = record { some = by_outcome p.some.0 p.some.1; good = good }
  where
    by_outcome : (r : Result A Fault) → P r → (q : Result B Fault) × Then P K q
    by_outcome (Ok v) h = let n = (k v (p.good v h)).some in (n.0, inl (v, h, n.1))
    by_outcome (Err f) h = (Err f, inr (f, h, refl))

    good : (w : B) → Then P K (Ok w) → W w
    good w (inl (v, h, i)) = (k v (p.good v h)).good w i
    good w (inr (f, h, i)) = absurd (unlike w f i)

pub some_either : {A : Type 0} (V : A → Type 0) (b : Bool) (P Q : Outcome A) → (IsTrue b → IsSome V P) → IsSome V Q → IsSome V (Either b P Q)
some_either V true P Q p q = p refl
some_either V false P Q p q = q

pub some_decides : (P : Type 0) → Decided P → IsSome (λ b. IsTrue b → P) (Decides P)
some_decides P d = record { some = by_cases d; good = λ b h t. h.1.0 (subst IsTrue (sym (value_same h.0 b h.2)) t) }
  where
    by_cases : Decided P → (r : Result Bool Fault) × Decides P r
    by_cases (inl p) = (Ok true, (true, (λ t. p, λ p. refl), refl))
    by_cases (inr n) = (Ok false, (false, (λ t. cc, λ p. absurd (n p)), refl))

-- of two lists each item of the one and the item at its place in the other
abbrev pub Beside : {A B : Type 0} → (A → B → Type 0) → List A → List B → Type 0
Beside R [] [] = Unit {0}
Beside R [] (y ∷ ys) = ⊥
Beside R (x ∷ xs) [] = ⊥
Beside R (x ∷ xs) (y ∷ ys) = R x y × Beside R xs ys

pub beside_long : {A B : Type 0} (R : A → B → Type 0) (xs : List A) (ys : List B) → Beside R xs ys → length ys ≡ length xs
beside_long R [] [] h = refl
beside_long R [] (y ∷ ys) h = absurd h
beside_long R (x ∷ xs) [] h = absurd h
beside_long R (x ∷ xs) (y ∷ ys) h = ap suc (beside_long R xs ys h.1)

pub beside_all : {A B : Type 0} (R : A → B → Type 0) (V : B → Type 0) (xs : List A) (ys : List B) → ((x : A) (y : B) → R x y → V y) → Beside R xs ys → AllByRecursion V ys
beside_all R V [] [] f h = tt
beside_all R V [] (y ∷ ys) f h = absurd h
beside_all R V (x ∷ xs) [] f h = absurd h
beside_all R V (x ∷ xs) (y ∷ ys) f h = (f x y h.0, beside_all R V xs ys f h.1)

-- first one relation, then the other
pub beside_both : {A B C : Type 0} (R : A → B → Type 0) (S : B → C → Type 0) (T : A → C → Type 0) (xs : List A) (ys : List B) (zs : List C) → ((x : A) (y : B) (z : C) → R x y → S y z → T x z) → Beside R xs ys → Beside S ys zs → Beside T xs zs
beside_both R S T [] [] [] k h g = tt
beside_both R S T [] [] (z ∷ zs) k h g = absurd g
beside_both R S T [] (y ∷ ys) zs k h g = absurd h
beside_both R S T (x ∷ xs) [] zs k h g = absurd h
beside_both R S T (x ∷ xs) (y ∷ ys) [] k h g = absurd g
beside_both R S T (x ∷ xs) (y ∷ ys) (z ∷ zs) k h g = (k x y z h.0 g.0, beside_both R S T xs ys zs k h.1 g.1)

pub beside_same : {A B X : Type 0} (f : A → X) (g : B → X) (xs : List A) (ys : List B) → Beside (λ x y. g y ≡ f x) xs ys → map g ys ≡ map f xs
beside_same f g [] [] h = refl
beside_same f g [] (y ∷ ys) h = absurd h
beside_same f g (x ∷ xs) [] h = absurd h
beside_same f g (x ∷ xs) (y ∷ ys) h = let rest = beside_same f g xs ys h.1 in λ i. h.0 i ∷ rest i

in_map : {A X : Type 0} (f : A → X) (xs : List A) (x : A) → Contains xs x → Contains (map f xs) (f x)
in_map f [] x h = absurd (none_in x h)
in_map f (w ∷ ws) x h = elim (cons_cases w ws x h) [
  | inl e ↦ subst (λ z. Contains (f w ∷ map f ws) (f z)) e (head_in (f w) (map f ws))
  | inr g ↦ tail_in (f w) (map f ws) (f x) (in_map f ws x g)
]

beside_back : {A B Y : Type 0} (R : A → B → Type 0) (g : B → Y) (xs : List A) (ys : List B) (v : Y) → Beside R xs ys → Contains (map g ys) v → (x : A) × (y : B) × Contains xs x × R x y × (g y ≡ v)
beside_back R g [] [] v h i = absurd (none_in v i)
beside_back R g [] (y ∷ ys) v h i = absurd h
beside_back R g (x ∷ xs) [] v h i = absurd h
beside_back R g (x ∷ xs) (y ∷ ys) v h i = elim (cons_cases (g y) (map g ys) v i) [
  | inl e ↦ (x, y, head_in x xs, h.0, e)
  | inr j ↦ let w = beside_back R g xs ys v h.1 j in (w.0, w.1, tail_in x xs w.0 w.2, w.3, w.4)
]

-- where what is made of the ones tells what is made of the others, and the latter differ
pub beside_differ : {A B X Y : Type 0} (R : A → B → Type 0) (f : A → X) (g : B → Y) (xs : List A) (ys : List B) → ((x w : A) (y z : B) → R x y → R w z → g y ≡ g z → f x ≡ f w) → Beside R xs ys → AreDifferent (map f xs) → AreDifferent (map g ys)
beside_differ R f g [] [] k h d = tt
beside_differ R f g [] (y ∷ ys) k h d = absurd h
beside_differ R f g (x ∷ xs) [] k h d = absurd h
beside_differ R f g (x ∷ xs) (y ∷ ys) k h d = (
  λ i. let w = beside_back R g xs ys (g y) h.1 i in d.0 (subst (λ z. Contains (map f xs) z) (k w.0 x w.1 y w.3 h.0 w.4) (in_map f xs w.0 w.2)),
  beside_differ R f g xs ys k h.1 d.1,
)

pub map_itself : {A : Type 0} (xs : List A) → map (λ x. x) xs ≡ xs
map_itself [] = refl
map_itself (x ∷ xs) = ap (λ ys. x ∷ ys) (map_itself xs)

pub some_each : {A B : Type 0} (U : A → Type 0) (R : A → B → Type 0) (P : A → Outcome B) → ((x : A) → U x → IsSome (R x) (P x)) → (xs : List A) → AllByRecursion U xs → IsSome (Beside R xs) (Each P xs)
some_each U R P p [] u = some_gives (Beside R []) [] tt
some_each U R P p (x ∷ xs) u =
    some_then (R x) (Beside R (x ∷ xs)) (P x) _ (p x u.0)
    (λ y h. some_then (Beside R xs) (Beside R (x ∷ xs)) (Each P xs) _ (some_each U R P p xs u.1) (λ ys g. some_gives (Beside R (x ∷ xs)) (y ∷ ys) (h, g)))

pub some_all_true : {A : Type 0} (U : A → Type 0) (P : A → Outcome Bool) → ((x : A) → U x → IsSome Any (P x)) → (xs : List A) → AllByRecursion U xs → IsSome Any (AllTrue P xs)
some_all_true U P p [] u = some_gives Any true tt
some_all_true U P p (x ∷ xs) u = some_then Any Any (P x) _ (p x u.0) (λ b h. some_either Any b (AllTrue P xs) (Gives false) (λ t. some_all_true U P p xs u.1) (some_gives Any false tt))

pub some_some_true : {A : Type 0} (U : A → Type 0) (P : A → Outcome Bool) → ((x : A) → U x → IsSome Any (P x)) → (xs : List A) → AllByRecursion U xs → IsSome Any (SomeTrue P xs)
some_some_true U P p [] u = some_gives Any false tt
some_some_true U P p (x ∷ xs) u = some_then Any Any (P x) _ (p x u.0) (λ b h. some_either Any b (Gives true) (SomeTrue P xs) (λ t. some_gives Any true tt) (some_some_true U P p xs u.1))

pub some_truth_at : (at : Place) (v : Val) → IsSome Any (truth_at at v)
some_truth_at at (truth b) = some_gives Any b tt
some_truth_at at (model s) = some_fails Any NotBoolean at
some_truth_at at (integer z) = some_fails Any NotBoolean at
some_truth_at at (string s) = some_fails Any NotBoolean at
some_truth_at at (set vs) = some_fails Any NotBoolean at
some_truth_at at (function ps) = some_fails Any NotBoolean at

truth_value : (b : Bool) → IsValue (truth b)
truth_value b = record { canonical = tt; shallow = omega arith }

pub some_is_truth : (P : Outcome Bool) → IsSome Any P → IsSome IsValue (IsTruth P)
some_is_truth P p = some_then Any IsValue P _ p (λ b h. some_gives IsValue (truth b) (truth_value b))

pub some_operated : {A : Type 0} (V : A → Type 0) (Q : Result A OpFault → Type 0) (p : ℕ → Place) → Answered Q → ((v : A) → Q (Ok v) → V v) → IsSome V (Operated Q p)
some_operated {A = A} V Q p a f = record { some = by_answer a; good = f }
  where
    by_answer : Answered Q → (r : Result A Fault) × Operated Q p r
    by_answer (inl h) = (Ok h.0, h.1)
    by_answer (inr h) = (Err (fault h.0 (p h.1)), (h.1, h.2, refl))
