-- One level further in.
use Rattle.std.proofs.Common.{◌≡◌, ℕ, zero, suc, ◌-◌, refl, arith}
use Rattle.std.specs.Prelude.{false}
use Rattle.reading_trees.specs.Trees.{Tree}
use Rattle.reading_trees.specs.declared.config.Config.{Config}
use Rattle.reading_trees.specs.declared.module.Program.{Program}
use Rattle.names_specification.specs.Fair.{fair_row, is_fair}

pub fair_by_row : (n : ℕ) (p : Program) (c : Config) (t : Tree) → (n ≡ 0 → ⊥) → is_fair n p c t ≡ fair_row (is_fair (n - 1) p c) p c t
fair_by_row zero p c t h = absurd (h refl)
fair_by_row (suc d) p c t h =
    let e : suc d - 1 ≡ d = omega arith in
    rw e refl

pub fair_at_none : (n : ℕ) (p : Program) (c : Config) (t : Tree) → n ≡ 0 → is_fair n p c t ≡ false
fair_at_none n p c t e = rw e refl
