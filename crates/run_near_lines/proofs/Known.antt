-- What is told of an option or a result, of one that is known.
use Rattle.std.proofs.Common.{◌≡◌, subst, Result, Ok, Err}
use Rattle.std.specs.Prelude.{IfOk, IfSome, OnOk, Option, None, Some}
use Rattle.std.specs.Option.{IfNone}

pub on_ok : {A E : Type 0} (r : Result A E) (P Q : Type 0) → (P → Q) → OnOk r P → OnOk r Q
on_ok (Ok x) P Q f h = f h
on_ok (Err e) P Q f h = h

-- a result that is an option

pub some_of : {A : Type 0} (o : Option A) (x : A) (P : A → Type 0) → o ≡ Some x → IfSome o P → P x
some_of o x P e h = subst (λ q. IfSome q P) e h

pub none_of : {A : Type 0} (o : Option A) (P : Type 0) → o ≡ None → IfNone o P → P
none_of o P e h = subst (λ q. IfNone q P) e h

pub on_any : {A E : Type 0} (r : Result A E) (P : Type 0) → P → OnOk r P
on_any (Ok x) P h = h
on_any (Err e) P h = tt

pub on_any_ok : {A E : Type 0} (r : Result A E) (P : Type 0) → P → IfOk r (λ x. P)
on_any_ok (Ok x) P h = h
on_any_ok (Err e) P h = tt
