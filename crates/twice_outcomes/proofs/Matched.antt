-- Outcomes that are matched by alike ones: of the ways in which outcomes of parts make that of the whole.
use Rattle.std.proofs.Common.{◌≡◌, ap, refl, subst, inl, inr}
use Rattle.std.specs.Prelude.{Bool, true, false, Result, Ok, Err}
use Rattle.base_core.specs.declared.place.Place.{Place}
use Rattle.values_core.specs.declared.fault.EvalKind.{EvalKind}
use Rattle.states_core.specs.declared.fault.Fault.{Fault}
use Rattle.eval_meanings.specs.Outcomes.{Outcome, Fails, Gives, Then, Either}
use Rattle.eval_laws.proofs.Keeping.{Keeps}

-- each value of the one has a value of the other that is alike, and each fault is one of the other
pub record Matches {A B : Type 0} (R : A → B → Type 0) (P : Outcome A) (Q : Outcome B) : Type 0 where
  pub value : (x : A) → P (Ok x) → (y : B) × R x y × Q (Ok y)
  pub fault : (f : Fault) → P (Err f) → Q (Err f)

-- a fault is one of both types of values
abbrev Failed : (A : Type 0) → Fault → Fault → Type 0
Failed A f g = let r : Result A Fault = Err f in r ≡ Err g

moved : (A B : Type 0) (f g : Fault) → Failed A f g → Failed B f g
moved A B f g e = let same : f ≡ g = cc in ap Err same

module _ {A B : Type 0} (R : A → B → Type 0) where
  given : (x v : A) (w : B) → R v w → Gives v (Ok x) → (y : B) × R x y × Gives w (Ok y)
  given x v w r e = let same : v ≡ x = cc in (w, subst (λ t. R t w) same r, refl)

  pub matches_gives : (v : A) (w : B) → R v w → Matches R (Gives v) (Gives w)
  matches_gives v w r = record { value = λ x e. given x v w r e; fault = λ f e. absurd (cc) }

  pub matches_fails : (kind : EvalKind) (at : Place) → Matches R (Fails kind at) (Fails kind at)
  matches_fails kind at = record { value = λ x e. absurd (cc); fault = λ f e. moved A B f (record { kind = kind; at = at }) e }

  pub matches_either : (b : Bool) (P S : Outcome A) (Q T : Outcome B) → Matches R P Q → Matches R S T → Matches R (Either b P S) (Either b Q T)
  matches_either true P S Q T p s = p
  matches_either false P S Q T p s = s

module _ {A B C D : Type 0} (R : A → B → Type 0) (S : C → D → Type 0) (P : Outcome A) (Q : Outcome B) (K : A → Outcome C) (L : B → Outcome D) (p : Matches R P Q) (k : (x : A) (y : B) → R x y → Matches S (K x) (L y)) where
  then_value : (x : C) → Then P K (Ok x) → (y : D) × S x y × Then Q L (Ok y)
  then_value x (inl (v, h, i)) =
      let w : (y : B) × R v y × Q (Ok y) = p.value v h in
      let o : (y : D) × S x y × L w.0 (Ok y) = (k v w.0 w.1).value x i in
      (o.0, o.1, inl (w.0, w.2, o.2))
  then_value x (inr (f, h, i)) = absurd (cc)

  then_fault : (f : Fault) → Then P K (Err f) → Then Q L (Err f)
  then_fault f (inl (v, h, i)) = let w : (y : B) × R v y × Q (Ok y) = p.value v h in inl (w.0, w.2, (k v w.0 w.1).fault f i)
  then_fault f (inr (g, h, i)) = inr (g, p.fault g h, moved C D f g i)

  pub matches_then : Matches S (Then P K) (Then Q L)
  matches_then = record { value = then_value; fault = then_fault }

module _ {A C D : Type 0} (S : C → D → Type 0) (P Q : Outcome A) (K : A → Outcome C) (L : A → Outcome D) (p : Keeps P Q) (k : (x : A) → Matches S (K x) (L x)) where
  after_value : (x : C) → Then P K (Ok x) → (y : D) × S x y × Then Q L (Ok y)
  after_value x (inl (v, h, i)) = let o : (y : D) × S x y × L v (Ok y) = (k v).value x i in (o.0, o.1, inl (v, p (Ok v) h, o.2))
  after_value x (inr (f, h, i)) = absurd (cc)

  after_fault : (f : Fault) → Then P K (Err f) → Then Q L (Err f)
  after_fault f (inl (v, h, i)) = inl (v, p (Ok v) h, (k v).fault f i)
  after_fault f (inr (g, h, i)) = inr (g, p (Err g) h, moved C D f g i)

  -- where the values of the first part are the same
  pub matches_after : Matches S (Then P K) (Then Q L)
  matches_after = record { value = after_value; fault = after_fault }
