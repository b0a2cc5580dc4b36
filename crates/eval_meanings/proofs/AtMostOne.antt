-- At most one outcome: of the ways in which outcomes of parts make that of the whole.
use Rattle.std.proofs.Common.{◌≡◌, ap, sym, ◌∙◌, subst, inl, inr, refl, List, [], ◌∷◌}
use Rattle.std.specs.Prelude.{Bool, true, false, IsTrue, Result, Ok, Err}
use Rattle.base_core.specs.declared.place.Place.{Place}
use Rattle.values_core.specs.Data.{Val, model, truth, integer, string, set, function}
use Rattle.values_core.specs.declared.fault.EvalKind.{EvalKind}
use Rattle.states_core.specs.declared.fault.Fault.{Fault}
use Rattle.eval_meanings.specs.Outcomes.{Outcome, Gives, Fails, Then, Either, Decides, Each, AllTrue, SomeTrue, truth_at, IsTruth}

-- two outcomes are one
abbrev pub One : {A : Type 0} → Outcome A → Type 0
One {A = A} P = (r q : Result A Fault) → P r → P q → r ≡ q

pub one_gives : {A : Type 0} (v : A) → One (Gives v)
one_gives v r q e d = e ∙ sym d

pub one_fails : {A : Type 0} (kind : EvalKind) (at : Place) → One (Fails {A = A} kind at)
one_fails kind at r q e d = e ∙ sym d

abbrev ok_of : {A : Type 0} → A → Result A Fault → A
ok_of v (Ok w) = w
ok_of v (Err f) = v

abbrev err_of : {A : Type 0} → Fault → Result A Fault → Fault
err_of f (Ok w) = f
err_of f (Err g) = g

pub one_then : {A B : Type 0} (P : Outcome A) (K : A → Outcome B) → One P → ((v : A) → P (Ok v) → One (K v)) → One (Then P K)
one_then {A = A} {B = B} P K p k r q (inl (v, h, i)) (inl (w, g, j)) =
    let e : w ≡ v = ap (ok_of v) (p (Ok w) (Ok v) g h) in
    let M : A → Type 0 = λ u. K u q in
    k v h r q i (subst M e j)
one_then P K p k r q (inl (v, h, i)) (inr (f, g, j)) = let e : Ok v ≡ Err f = p (Ok v) (Err f) h g in cc
one_then P K p k r q (inr (f, h, i)) (inl (w, g, j)) = let e : Err f ≡ Ok w = p (Err f) (Ok w) h g in cc
one_then {A = A} {B = B} P K p k r q (inr (f, h, i)) (inr (g, l, j)) =
    let e : f ≡ g = ap (err_of f) (p (Err f) (Err g) h l) in
    let E : Fault → Result B Fault = λ x. Err x in
    i ∙ (ap E e ∙ sym j)

pub one_either : {A : Type 0} (b : Bool) (P Q : Outcome A) → One P → One Q → One (Either b P Q)
one_either true P Q p q = p
one_either false P Q p q = q

same_bool : (b c : Bool) → (IsTrue b → IsTrue c) → (IsTrue c → IsTrue b) → b ≡ c
same_bool true true f g = refl
same_bool true false f g = sym (f refl)
same_bool false true f g = g refl
same_bool false false f g = refl

pub one_decides : (P : Type 0) → One (Decides P)
one_decides P r q (b, h, e) (c, g, d) = e ∙ (ap Ok (same_bool b c (λ t. g.1 (h.0 t)) (λ t. h.1 (g.0 t))) ∙ sym d)

pub one_each : {A B : Type 0} (P : A → Outcome B) (xs : List A) → ((x : A) → One (P x)) → One (Each P xs)
one_each P [] p = one_gives []
one_each P (x ∷ xs) p = one_then (P x) _ (p x) (λ y h. one_then (Each P xs) _ (one_each P xs p) (λ ys g. one_gives (y ∷ ys)))

pub one_all_true : {A : Type 0} (P : A → Outcome Bool) (xs : List A) → ((x : A) → One (P x)) → One (AllTrue P xs)
one_all_true P [] p = one_gives true
one_all_true P (x ∷ xs) p = one_then (P x) _ (p x) (λ b h. one_either b (AllTrue P xs) (Gives false) (one_all_true P xs p) (one_gives false))

pub one_some_true : {A : Type 0} (P : A → Outcome Bool) (xs : List A) → ((x : A) → One (P x)) → One (SomeTrue P xs)
one_some_true P [] p = one_gives false
one_some_true P (x ∷ xs) p = one_then (P x) _ (p x) (λ b h. one_either b (Gives true) (SomeTrue P xs) (one_gives true) (one_some_true P xs p))

pub one_truth_at : (at : Place) (v : Val) → One (truth_at at v)
one_truth_at at (truth b) = λ r q e d. e ∙ sym d
one_truth_at at (model s) = λ r q e d. e ∙ sym d
one_truth_at at (integer z) = λ r q e d. e ∙ sym d
one_truth_at at (string s) = λ r q e d. e ∙ sym d
one_truth_at at (set vs) = λ r q e d. e ∙ sym d
one_truth_at at (function ps) = λ r q e d. e ∙ sym d

pub one_is_truth : (P : Outcome Bool) → One P → One (IsTruth P)
one_is_truth P p = one_then P _ p (λ b h. one_gives (truth b))
