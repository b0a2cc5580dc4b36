-- Names sought one index after the other.
use Rattle.std.proofs.Common.{◌≡◌, ◌<◌, ◌≤◌, ◌+◌, ℕ, List, Some, length, slice_get, arith, sym, subst, ap, ◌∙◌, inl, inr}
use Rattle.std.specs.Prelude.{unwrap_or}
use Rattle.std.proofs.lemmas.Bool.Decides.{eqb_tells}
use Rattle.std.proofs.lemmas.Option.{slice_get_within}
use Rattle.names_terms.specs.Named.{IsNamed, IsVariable}
use Rattle.names_terms.specs.declared.operator.Operator.{Operator}

pub none_before : (P : ℕ → Type 0) (i : ℕ) → ((k : ℕ) → k < i → P k → ⊥) → (P i → ⊥) → (k : ℕ) → k < i + 1 → P k → ⊥
none_before P i before here k below p = elim (eqb_tells k i) [
  | inl e ↦ here (subst P e.1 p)
  | inr e ↦ (let less : k < i = omega (arith, e.1, below) in before k less p)
]

pub none_at_all : {A : Type 0} (xs : List A) (P : ℕ → Type 0) (i : ℕ) → ((k : ℕ) → P k → k < length xs) → length xs ≤ i → ((k : ℕ) → k < i → P k → ⊥) → (k : ℕ) → P k → ⊥
none_at_all xs P i within end before k p = (let w : k < length xs = within k p in let less : k < i = omega (arith, w, end) in before k less p)

pub within_named : (ops : List Operator) (name : List ℕ) (k : ℕ) → IsNamed ops name k → k < length ops
within_named ops name k n = slice_get_within ops k n.operator n.is

pub within_variables : (names : List (List ℕ)) (name : List ℕ) (k : ℕ) → IsVariable names name k → k < length names
within_variables names name k n = slice_get_within names k name n

pub other_name : (ops : List Operator) (name : List ℕ) (i : ℕ) (o : Operator) → slice_get ops i ≡ Some o → (o.name ≡ name → ⊥) → IsNamed ops name i → ⊥
other_name ops name i o h other n = other (ap (λ (x : Operator). x.name) (ap (λ x. unwrap_or x o) (sym h ∙ n.is)) ∙ n.named)

pub other_variable : (names : List (List ℕ)) (name : List ℕ) (i : ℕ) (x : List ℕ) → slice_get names i ≡ Some x → (x ≡ name → ⊥) → IsVariable names name i → ⊥
other_variable names name i x h other n = other (ap (λ o. unwrap_or o x) (sym h ∙ n))
