use Rattle.std.proofs.Common.{◌≡◌, ◌≤◌, ◌+◌, ◌-◌, ℕ, min, drop, length, arith, length-append, length-drop}
use Rattle.std.proofs.lemmas.List.{drop-drop}
use Rattle.base_core.proofs.Filling.{taken_bytes}
use Rattle.base_core.proofs.held.fill.Goals as goal

pub returns-clause-taken : goal.returns-clause-taken
returns-clause-taken c =
    let n = c.min-count.result in
    let e : (c.args.from + n) - c.args.from ≡ n = omega arith in
    let h = rw e at c.copy_from_slice.ensures.after in
    let m : min (c.args.from + n) 18446744073709551615 ≡ c.args.from + n = omega arith in
    let le : n ≤ length (drop c.args.from c.args.bytes.now) = omega (arith, length-drop {A = ℕ}) in
    record {
      bytes = rw m (rw (← drop-drop n c.args.from c.args.bytes.now) (taken_bytes _ _ _ n h le));
      end = λ z r. absurd (omega (arith, length-append {A = ℕ}, length-drop {A = ℕ}, c.copy_from_slice.ensures.len));
    }
