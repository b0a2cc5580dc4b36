-- Rows that are closed from the last, and operands as a list.
use Rattle.std.proofs.Common.{◌≡◌, ap, refl, List, [], ◌∷◌, ◌++◌}
use Rattle.names_terms.specs.Terms as term
use Rattle.names_terms.specs.Terms.{Term}
use Rattle.names_terms.specs.TermViews.{operands_from}
use Rattle.names_terms.specs.declared.term.Operand.{Operand}
use Rattle.names_meanings.specs.declared.pending.Pending.{Pending}
use Rattle.names_meanings.specs.Pendings.{closed, closed_all}

pub closed_behind : (rs : List Pending) (r : Pending) (x : Term) → closed_all (rs ++ r ∷ []) x ≡ closed_all rs (closed r x)
closed_behind [] r x = refl
closed_behind (q ∷ rs) r x = ap (λ y. closed q y) (closed_behind rs r x)

pub operands_behind : (os : term.Operands) (xs : List Operand) (x : Operand) → operands_from os (xs ++ x ∷ []) ≡ term.Next (operands_from os xs) x.at x.value
operands_behind os [] x = refl
operands_behind os (y ∷ xs) x = operands_behind (term.Next os y.at y.value) xs x
