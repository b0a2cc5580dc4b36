-- For the prover: the lines with their clocks as they are listed before the sort.
use Rattle.std.specs.Prelude.{ℕ, suc, ℤ, List, [], ◌∷◌, ◌++◌}
use Rattle.std.specs.declared.cmp.Ordering.{Ordering}
use Rattle.std.specs.Ordering.{nat_cmp, int_cmp, ordering_then}
use Rattle.base_clock_order.specs.declared.order.LineRef.{LineRef}
use Rattle.base_clock_order.specs.Orders.{Clocks, line}

-- a clock, the number of the log, and the place there
abbrev pub Stamp : Type 0
Stamp = ℤ × ℕ × ℕ

abbrev pub line_of : Stamp → LineRef
line_of s = line s.1 s.2

-- the lines of the log f from place i on
abbrev pub stamps_in : ℕ → ℕ → List ℤ → List Stamp
stamps_in f i [] = []
stamps_in f i (c ∷ cs) = (c, f, i) ∷ stamps_in f (suc i) cs

-- the lines of the logs from f on
abbrev pub stamps_from : ℕ → Clocks → List Stamp
stamps_from f [] = []
stamps_from f (log ∷ logs) = stamps_in f 0 log ++ stamps_from (suc f) logs

-- by clock, then log, then place
abbrev pub stamp_cmp : Stamp → Stamp → Ordering
stamp_cmp a b = ordering_then (int_cmp a.0 b.0) (ordering_then (nat_cmp a.1 b.1) (nat_cmp a.2 b.2))
