-- How many lines logs have.
use Rattle.std.proofs.Common.{◌≡◌, ℕ, zero, suc, ◌≤◌, List, [], ◌∷◌, ap, sym, ◌∙◌, arith}
use Rattle.logs_updates.specs.declared.line.Line.{Line}
use Rattle.base_cuts.specs.Cuts.{Cut, taken, total}
use Rattle.base_cuts.specs.Orders.{AreCountable, Order, sizes, sizes_of}
use Rattle.logs_tied.specs.Lines.{AreTied}
use Rattle.logs_tied.specs.declared.logs.Logs.{Logs}

-- a log has no more lines than all logs together
pub one_of : (c : Cut) (f : ℕ) → taken c f ≤ total c
one_of [] f = omega arith
one_of (n ∷ ns) zero = omega arith
one_of (n ∷ ns) (suc f) = let r = one_of ns f in omega (arith, r)

pub countable : (o : Order) → total (sizes o) ≤ 200000 → AreCountable o
countable o few f = let one = one_of (sizes o) f in omega (arith, one, few)

-- logs have as many lines as their order says
pub few_lines : (logs : Logs) → AreTied logs → total (sizes logs.order) ≤ 200000 → (files : List (List Line)) → files ≡ logs.files.items → total (sizes_of files) ≤ 200000
few_lines logs tied few files e = let same = ap total (ap sizes_of e ∙ sym tied.sizes) in omega (arith, same, few)

pub all_lines : (logs : Logs) → AreTied logs → (files : List (List Line)) (n : ℕ) → files ≡ logs.files.items → n ≡ total (sizes_of files) → n ≡ total (sizes logs.order)
all_lines logs tied files n e is = is ∙ ap total (ap sizes_of e ∙ sym tied.sizes)
