use Rattle.std.proofs.Common.{◌≡◌, ℕ, zero, suc, refl, [], ◌∷◌, arith}
use Rattle.base_core.specs.declared.place.Place.{Place}
use Rattle.eval_meanings.specs.Outcomes.{place_in}
use Rattle.eval_parts.proofs.changing.operand_place.Goals as goal

first_operand : (at base : Place) (n : ℕ) → n ≡ 0 → base ≡ place_in at (base ∷ []) n
first_operand at base zero e = refl
first_operand at base (suc n) e = absurd (omega (arith, e))

no_operand : (at base : Place) (n : ℕ) → ¬ (n ≡ 0) → at ≡ place_in at (base ∷ []) n
no_operand at base zero e = absurd (e refl)
no_operand at base (suc n) e = refl

pub returns-then-operand-eq0 : goal.returns-then-operand-eq0
returns-then-operand-eq0 c = first_operand c.args.at c.args.base c.args.operand c.if-operand-eq0.true

pub returns : goal.returns
returns c = no_operand c.args.at c.args.base c.args.operand (omega arith)
