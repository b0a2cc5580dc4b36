-- The bodies of the first definitions.
use Rattle.std.proofs.Common.{◌≡◌, subst, [], ◌∷◌, length, ◌<◌, ◌≤◌, ◌⊎◌, inl, inr, arith, get_or}
use Rattle.std.proofs.Math.Nat.{eq-or-lt_of_le}
use Rattle.std.specs.Prelude.{ℕ, zero, suc, ◌+◌, Some, slice_get}
use Rattle.names_terms.specs.declared.operator.Operator.{Operator}
use Rattle.eval_meanings.specs.Contexts.{Table}
use Rattle.eval_meanings.specs.Laws.{KnowsValues}
use Rattle.eval_known.specs.Known.{KnowBodies}

abbrev pub KnowFirst : Table → ℕ → Type 0
KnowFirst ops n = (k : ℕ) (o : Operator) → k < n → slice_get ops k ≡ Some o → KnowsValues o.body

got : (ops : Table) (i : ℕ) (x o : Operator) → x ≡ get_or ops i x → slice_get ops i ≡ Some o → x ≡ o
got [] i x o e q = absurd (cc)
got (y ∷ ops) zero x o e q = cc
got (y ∷ ops) (suc i) x o e q = got ops i x o e q

inside : (ops : Table) (k : ℕ) (o : Operator) → slice_get ops k ≡ Some o → k < length ops
inside [] k o q = absurd (cc)
inside (y ∷ ops) zero o q = omega arith
inside (y ∷ ops) (suc k) o q = omega (arith, inside ops k o q)

first-or : (ops : Table) (i : ℕ) (x : Operator) → x ≡ get_or ops i x → KnowFirst ops i → KnowsValues x.body → (k : ℕ) (o : Operator) → (k ≡ i) ⊎ (k < i) → slice_get ops k ≡ Some o → KnowsValues o.body
first-or ops i x e h known k o (inr less) q = h k o less q
first-or ops i x e h known k o (inl same) q = subst (λ z. KnowsValues z.body) (got ops i x o e (subst (λ z. slice_get ops z ≡ Some o) same q)) known

pub first-next : (ops : Table) (i : ℕ) (x : Operator) → x ≡ get_or ops i x → KnowFirst ops i → KnowsValues x.body → KnowFirst ops (i + 1)
first-next ops i x e h known k o lt q = first-or ops i x e h known k o (eq-or-lt_of_le (omega (arith, lt))) q

pub first-some : (ops : Table) (i : ℕ) → length ops ≤ i → KnowFirst ops i → KnowBodies ops
first-some ops i le h k o q = h k o (omega (arith, le, inside ops k o q)) q
