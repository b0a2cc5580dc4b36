use Rattle.std.proofs.Common.{◌≡◌, IsTrue, subst}
use Rattle.values_core.specs.Data.{Val}
use Rattle.values_core.specs.Order.{val_eq}
use Rattle.values_core.specs.OrderLaws.{val_same, val_eq_equiv}
use Rattle.values_core.proofs.value.Value.same.Goals as goal

itself : (a b : Val) → a ≡ b → IsTrue (val_eq a b)
itself a b e = subst (λ (w : Val). IsTrue (val_eq a w)) e (val_eq_equiv.refl a)

pub returns : goal.returns
returns c = rw c.eq.ensures (val_same c.args.self.now c.args.other.now, itself c.args.self.now c.args.other.now)
