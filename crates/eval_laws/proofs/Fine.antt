-- At most one outcome, and what it has is as it should be: of the ways in which outcomes of parts make that of the whole.
use Rattle.std.proofs.Common.{◌≡◌, ◌⊎◌, inl, inr, ap, sym, ◌∙◌, subst, ℕ, List, [], ◌∷◌}
use Rattle.std.specs.Prelude.{Bool, true, false, Result, Ok, Err}
use Rattle.std.specs.List.{AllByRecursion}
use Rattle.base_core.specs.declared.place.Place.{Place}
use Rattle.values_core.specs.Data.{Val, model, truth, integer, string, set, function}
use Rattle.values_core.specs.IsValue.{IsValue}
use Rattle.values_core.specs.declared.fault.EvalKind.{EvalKind}
use Rattle.values_core.specs.declared.fault.OpFault.{OpFault}
use Rattle.values_core.specs.declared.fault.OpFault.TheVariants.{Refused, NoMemory}
use Rattle.states_core.specs.declared.fault.Fault.{Fault}
use Rattle.eval_meanings.specs.Outcomes.{Outcome, Gives, Fails, Then, Either, Decides, Each, AllTrue, SomeTrue, truth_at, IsTruth, Operated}
use Rattle.eval_meanings.proofs.AtMostOne.{One, one_gives, one_fails, one_then, one_decides}
use Rattle.eval_laws.proofs.OneAnswer.{HasOneAnswer, IsSure}
use Rattle.eval_laws.proofs.SureOperations.{truth_value}

-- at most one outcome, and a value that it has meets V
pub record IsFine {A : Type 0} (V : A → Type 0) (P : Outcome A) : Type 0 where
  pub one : One P
  pub good : (v : A) → P (Ok v) → V v

-- of which nothing is asked
abbrev pub Any : {A : Type 0} → A → Type 0
Any v = Unit {0}

pub fine_any : {A : Type 0} (V : A → Type 0) (P : Outcome A) → IsFine V P → IsFine Any P
fine_any V P p = record { one = p.one; good = λ v h. tt }

value_same : {A : Type 0} (v w : A) → ◌≡◌ {A = Result A Fault} (Ok w) (Ok v) → v ≡ w
value_same v w e = cc

unlike : {A : Type 0} (v : A) (f : Fault) → ◌≡◌ {A = Result A Fault} (Ok v) (Err f) → ⊥
unlike v f e = cc

pub fine_gives : {A : Type 0} (V : A → Type 0) (v : A) → V v → IsFine V (Gives v)
fine_gives V v p = record { one = one_gives v; good = λ w e. subst V (value_same v w e) p }

pub fine_fails : {A : Type 0} (V : A → Type 0) (kind : EvalKind) (at : Place) → IsFine V (Fails kind at)
fine_fails {A = A} V kind at = record { one = one_fails {A = A} kind at; good = λ w e. absurd (unlike w _ e) }

pub fine_none : {A : Type 0} (V : A → Type 0) → IsFine V (λ r. ⊥)
fine_none V = record { one = λ r q h g. absurd h; good = λ w h. absurd h }

pub fine_then : {A B : Type 0} (V : A → Type 0) (W : B → Type 0) (P : Outcome A) (K : A → Outcome B) → IsFine V P → ((v : A) → V v → IsFine W (K v)) → IsFine W (Then P K)
fine_then {B = B} V W P K p k = record { one = one_then P K p.one (λ v h. (k v (p.good v h)).one); good = good }
  where
    good : (w : B) → Then P K (Ok w) → W w
    good w (inl (v, h, i)) = (k v (p.good v h)).good w i
    good w (inr (f, h, i)) = absurd (unlike w f i)

pub fine_either : {A : Type 0} (V : A → Type 0) (b : Bool) (P Q : Outcome A) → IsFine V P → IsFine V Q → IsFine V (Either b P Q)
fine_either V true P Q p q = p
fine_either V false P Q p q = q

pub fine_decides : (P : Type 0) → IsFine Any (Decides P)
fine_decides P = record { one = one_decides P; good = λ v h. tt }

pub fine_each : {A B : Type 0} (U : A → Type 0) (V : B → Type 0) (P : A → Outcome B) → ((x : A) → U x → IsFine V (P x)) → (xs : List A) → AllByRecursion U xs → IsFine (AllByRecursion V) (Each P xs)
fine_each U V P p [] u = fine_gives (AllByRecursion V) [] tt
fine_each U V P p (x ∷ xs) u =
    fine_then V (AllByRecursion V) (P x) _ (p x u.0)
    (λ y h. fine_then (AllByRecursion V) (AllByRecursion V) (Each P xs) _ (fine_each U V P p xs u.1) (λ ys g. fine_gives (AllByRecursion V) (y ∷ ys) (h, g)))

pub fine_all_true : {A : Type 0} (U : A → Type 0) (P : A → Outcome Bool) → ((x : A) → U x → IsFine Any (P x)) → (xs : List A) → AllByRecursion U xs → IsFine Any (AllTrue P xs)
fine_all_true U P p [] u = fine_gives Any true tt
fine_all_true U P p (x ∷ xs) u = fine_then Any Any (P x) _ (p x u.0) (λ b h. fine_either Any b (AllTrue P xs) (Gives false) (fine_all_true U P p xs u.1) (fine_gives Any false tt))

pub fine_some_true : {A : Type 0} (U : A → Type 0) (P : A → Outcome Bool) → ((x : A) → U x → IsFine Any (P x)) → (xs : List A) → AllByRecursion U xs → IsFine Any (SomeTrue P xs)
fine_some_true U P p [] u = fine_gives Any false tt
fine_some_true U P p (x ∷ xs) u = fine_then Any Any (P x) _ (p x u.0) (λ b h. fine_either Any b (Gives true) (SomeTrue P xs) (fine_gives Any true tt) (fine_some_true U P p xs u.1))

pub fine_truth_at : (at : Place) (v : Val) → IsFine Any (truth_at at v)
fine_truth_at at (truth b) = fine_gives Any b tt
fine_truth_at at (model s) = fine_fails Any _ at
fine_truth_at at (integer z) = fine_fails Any _ at
fine_truth_at at (string s) = fine_fails Any _ at
fine_truth_at at (set vs) = fine_fails Any _ at
fine_truth_at at (function ps) = fine_fails Any _ at

pub fine_is_truth : (P : Outcome Bool) → IsFine Any P → IsFine IsValue (IsTruth P)
fine_is_truth P p = fine_then Any IsValue P _ p (λ b h. fine_gives IsValue (truth b) (truth_value b))

-- operations

same_fault : (f g : Fault) → f.kind ≡ g.kind → f.at ≡ g.at → f ≡ g
same_fault f g e d i = record { kind = e i; at = d i }

same_refusal : {A : Type 0} (k l : EvalKind) (n m : ℕ) → ◌≡◌ {A = Result A OpFault} (Err (Refused k n)) (Err (Refused l m)) → (k ≡ l) × (n ≡ m)
same_refusal k l n m e = (cc, cc)

want : {A : Type 0} (k : EvalKind) (n : ℕ) → ◌≡◌ {A = Result A OpFault} (Err (Refused k n)) (Err NoMemory) → ⊥
want k n e = cc

no_want : {A : Type 0} (v : A) (f : OpFault) → ◌≡◌ {A = Result A OpFault} (Ok v) (Err f) → ⊥
no_want v f e = cc

same_ok : {A : Type 0} (v w : A) → ◌≡◌ {A = Result A OpFault} (Ok v) (Ok w) → v ≡ w
same_ok v w e = cc

-- the answer where there is no want of memory
just : {A : Type 0} (q r : Result A OpFault) → (q ≡ Err NoMemory → ⊥) → (r ≡ Err NoMemory → ⊥) → (q ≡ Err NoMemory) ⊎ ((r ≡ Err NoMemory) ⊎ (q ≡ r)) → q ≡ r
just q r f g (inl e) = absurd (f e)
just q r f g (inr (inl e)) = absurd (g e)
just q r f g (inr (inr e)) = e

pub one_operated : {A : Type 0} (Q : Result A OpFault → Type 0) (p : ℕ → Place) → HasOneAnswer Q → One (Operated Q p)
one_operated {A = A} Q p o (Ok v) (Ok w) h g =
    ap (λ (u : A). Ok u) (same_ok v w (just (Ok v) (Ok w) (no_want v NoMemory) (no_want w NoMemory) (o (Ok v) (Ok w) h g)))
one_operated Q p o (Ok v) (Err f) h g =
    absurd (no_want v (Refused f.kind g.0) (just (Ok v) (Err (Refused f.kind g.0)) (no_want v NoMemory) (want f.kind g.0) (o (Ok v) (Err (Refused f.kind g.0)) h g.1)))
one_operated Q p o (Err f) (Ok w) h g =
    absurd (no_want w (Refused f.kind h.0) (sym (just (Err (Refused f.kind h.0)) (Ok w) (want f.kind h.0) (no_want w NoMemory) (o (Err (Refused f.kind h.0)) (Ok w) h.1 g))))
one_operated {A = A} Q p o (Err f) (Err g) h i =
    let a : Result A OpFault = Err (Refused f.kind h.0) in
    let b : Result A OpFault = Err (Refused g.kind i.0) in
    let e = same_refusal f.kind g.kind h.0 i.0 (just a b (want f.kind h.0) (want g.kind i.0) (o a b h.1 i.1)) in
    ap (λ (x : Fault). Err x) (same_fault f g e.0 (h.2 ∙ ap p e.1 ∙ sym i.2))

pub fine_operated : (Q : Result Val OpFault → Type 0) (p : ℕ → Place) → IsSure Q → IsFine IsValue (Operated Q p)
fine_operated Q p s = record { one = one_operated Q p s.one; good = s.value }
