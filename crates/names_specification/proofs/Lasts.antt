-- One name further.
use Rattle.std.proofs.Common.{◌≡◌, ℕ, zero, suc, ◌-◌, ◌<◌, ◌≤◌, List, refl, arith}
use Rattle.reading_trees.specs.declared.config.Config.{Config}
use Rattle.reading_trees.specs.declared.module.Program.{Program}
use Rattle.names_specification.specs.Behind.{last_from, or_last, stands_for}

pub last_by_one : (k : ℕ) (p : Program) (c : Config) (n : List ℕ) → 0 < k → last_from k p c n ≡ or_last (last_from (k - 1) p c) n (stands_for p c n)
unfolding last_from
last_by_one zero p c n h = absurd (omega arith)
last_by_one (suc k) p c n h =
    let e : suc k - 1 ≡ k = omega arith in
    rw e refl

pub last_at_none : (p : Program) (c : Config) (n : List ℕ) → last_from 0 p c n ≡ n
unfolding last_from
last_at_none p c n = refl

pub last_in_the_end : (k : ℕ) (p : Program) (c : Config) (n m : List ℕ) → k ≤ 0 → last_from k p c n ≡ m → n ≡ m
unfolding last_from
last_in_the_end zero p c n m h e = e
last_in_the_end (suc k) p c n m h e = absurd (omega arith)
