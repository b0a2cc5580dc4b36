-- What a choice tells that gave something.
use Rattle.std.proofs.Common.{◌≡◌, ◌⊎◌, inl, inr, refl, Bool, true, false, cond, Option, Some, None}

pub if_some : {X : Type 0} (b : Bool) (x y : X) → cond b (Some x) None ≡ Some y → (b ≡ true) × (x ≡ y)
if_some true x y e = (refl, cc)
if_some false x y e = cc

pub if_or : {X : Type 0} (b : Bool) (t f : Option X) (y : X) → cond b t f ≡ Some y → ((b ≡ true) × (t ≡ Some y)) ⊎ ((b ≡ false) × (f ≡ Some y))
if_or true t f y e = inl (refl, e)
if_or false t f y e = inr (refl, e)

pub pick : {X : Type 0} (b : Bool) (t f : Option X) (y : X) → cond b t f ≡ Some y → (t ≡ Some y) ⊎ (f ≡ Some y)
pick true t f y e = inl e
pick false t f y e = inr e
