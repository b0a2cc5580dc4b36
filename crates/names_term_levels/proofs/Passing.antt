-- All bodies are read again, one behind the other.
use Rattle.std.proofs.Common.{◌≡◌, List, inl, inr, subst, arith, refl, sym, length, ◌+◌, ◌<◌, ◌≤◌}
use Rattle.std.specs.Prelude.{◌||◌, ℕ, Bool, true, false, IsTrue}
use Rattle.std.proofs.lemmas.Bool.{cases_lt}
use Rattle.names_terms.specs.declared.operator.Operator.{Operator}
use Rattle.names_term_levels.specs.declared.note.Note.{Note}
use Rattle.names_term_levels.specs.Telling.{AreClosed, AreSound, IsClosedAt, left_to_tell}
use Rattle.names_term_levels.proofs.Rereading.{closed_all}

-- so many bodies were read again, and some told more or none did
pub record IsPass (ops : List Operator) (start : List Note) (n : ℕ) (more : Bool) (ns : List Note) : Type 0 where
  pub all : length ns ≡ length ops
  pub sound : AreSound ops ns
  pub most : left_to_tell ops ns ≤ left_to_tell ops start
  pub less : IsTrue more → left_to_tell ops ns < left_to_tell ops start
  pub closed : more ≡ false → (k : ℕ) → k < n → IsClosedAt ops ns k

pub pass_begins : (ops : List Operator) (start : List Note) → length start ≡ length ops → AreSound ops start → IsPass ops start 0 false start
pass_begins ops start all sound = record {
  all = all;
  sound = sound;
  most = omega arith;
  less = λ t. absurd (let q : false ≡ true = t in cc);
  closed = λ f k lt. absurd (omega (arith, lt));
}

-- one more told more, or nothing changed
pub pass_goes : (ops : List Operator) (start old new : List Note) (n : ℕ) (more again : Bool) → IsPass ops start n more old → length new ≡ length ops → AreSound ops new → (IsTrue again → left_to_tell ops new < left_to_tell ops old) → (again ≡ false → (new ≡ old) × IsClosedAt ops old n) → IsPass ops start (n + 1) (again || more) new
pass_goes ops start old new n more true pass all sound less closed = record {
  all = all;
  sound = sound;
  most = omega (arith, less refl, pass.most);
  less = λ t. omega (arith, less refl, pass.most);
  closed = λ f k lt. absurd (let q : true ≡ false = f in cc);
}
pass_goes ops start old new n more false pass all sound less closed = subst (λ (ns : List Note). IsPass ops start (n + 1) more ns) (sym (closed refl).0) record {
  all = pass.all;
  sound = pass.sound;
  most = pass.most;
  less = pass.less;
  closed = λ f k lt. elim (cases_lt k n) [
    | inl before ↦ pass.closed f k before
    | inr last ↦ (let e : n ≡ k = omega (arith, lt, last) in subst (λ (j : ℕ). IsClosedAt ops old j) e (closed refl).1)
  ];
}

pub pass_ends : (ops : List Operator) (start ns : List Note) (n : ℕ) (more : Bool) → length ops ≤ n → IsPass ops start n more ns → more ≡ false → AreClosed ops ns
pass_ends ops start ns n more le pass f = closed_all ops ns n le (pass.closed f)
