-- The clauses of a result.
use Rattle.std.proofs.Common.{◌≡◌, ◌↔◌, ◌⊎◌, List, inl, inr, subst, Bool, false}
use Rattle.std.specs.Prelude.{IfErr, IfOk, IfSome, IsTrue, Option, Some, Result, Ok, Err}
use Rattle.steps_successors.specs.Taken.{AddsIf}

pub some_of : {A : Type 0} (o : Option A) (x : A) (P : A → Type 0) → o ≡ Some x → IfSome o P → P x
some_of o x P e h = subst (λ q. IfSome q P) e h

pub not_so : (b : Bool) (P : Type 0) → IsTrue b ↔ P → b ≡ false → P → ⊥
not_so b P h e p = differ (h.1 p) e
  where
    differ : IsTrue b → b ≡ false → ⊥
    differ t f = cc

pub ok_then : {A E : Type 0} (r : Result A E) (P Q : A → Type 0) → ((x : A) → P x → Q x) → IfOk r P → IfOk r Q
ok_then (Ok x) P Q f h = f x h
ok_then (Err e) P Q f h = h

pub err_then : {A E : Type 0} (r : Result A E) (P Q : E → Type 0) → ((e : E) → P e → Q e) → IfErr r P → IfErr r Q
err_then (Ok x) P Q f h = h
err_then (Err e) P Q f h = f e h

pub adds_where : {A : Type 0} (b : Bool) (R : Type 0) (x : A) (old now : List A) → IsTrue b ↔ R → AddsIf (IsTrue b) x old now → AddsIf R x old now
adds_where b R x old now h a = elim a [ inl p ↦ inl (h.0 p.0, p.1) | inr p ↦ inr (λ r. p.0 (h.1 r), p.1) ]
