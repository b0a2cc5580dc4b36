-- What a table of values finds is the value that is looked for.
use Rattle.std.proofs.Common.{◌≡◌, List, Option, None, Some, sym, subst, IsTrue}
use Rattle.std.specs.Prelude.{Decides}
use Rattle.std.specs.List.{find}
use Rattle.std.specs.Borrow.{Bor}
use Rattle.std.specs.Option.{IfSome, option_copied}
use Rattle.std.proofs.lemmas.Map.Made.{IfSome-find_same}
use Rattle.values_core.specs.Data.{Val}
use Rattle.values_core.specs.Order.{val_eq}
use Rattle.values_core.specs.OrderLaws.{val_eq_equiv, val_same}

decide : (a b : Val) → Decides (val_eq a b) (a ≡ b)
decide a b = (val_same a b, λ e. subst (λ (v : Val). IsTrue (val_eq a v)) e (val_eq_equiv.refl a))

lent : (v : Val) (r : Option (Bor Val)) → IfSome (option_copied r) (λ k. k ≡ v) → IfSome r (λ known. known.now ≡ v)
lent v None h = h
lent v (Some k) h = h

pub found_same : (v : Val) (xs : List Val) (r : Option (Bor Val)) → option_copied r ≡ find (val_eq v) xs → IfSome r (λ known. known.now ≡ v)
found_same v xs r e = lent v r (subst (λ (o : Option Val). IfSome o (λ k. k ≡ v)) (sym e) (IfSome-find_same decide v xs))
