-- Tables in which definitions stand on, but for the bodies of those that have numbers.
use Rattle.std.proofs.Common.{◌≡◌, ◌∙◌, sym, ap, refl, inl, inr, List, length, ◌<◌, ◌≤◌, arith}
use Rattle.std.specs.Prelude.{◌≢◌, ◌⊎◌, ℕ, zero, suc, Some, set, slice_get}
use Rattle.std.proofs.lemmas.Option.{slice_get_within}
use Rattle.names_terms.specs.declared.operator.Operator.{Operator}
use Rattle.names_terms.specs.Terms.{Term}
use Rattle.names_meanings.specs.Outcomes.{Grows, StandsOn}
use Rattle.names_meanings.proofs.StandingOn.{set_elsewhere, set_there}
use Rattle.names_program.specs.Names.{Numbers, with_number}
use Rattle.names_tables.specs.Filling.{KeepsHeads}
use Rattle.names_tables.proofs.NamesKept.{with_cases}
use Rattle.names_tables.proofs.Places.{stays_at}

pub keeps_same : (n : Numbers) (a : List Operator) → KeepsHeads n a a
keeps_same n a = record { heads = λ k o e. (o.body, e); others = λ k o u e. e }

-- the first definitions of a table
pub keeps_front : (n : Numbers) (a : List Operator) {b c : List Operator} → Grows a b → KeepsHeads n b c → KeepsHeads n a c
keeps_front n a {b = b} g h = record { heads = λ k o e. h.heads k o (stays_at a b g k o e); others = λ k o u e. h.others k o u (stays_at a b g k o e) }

pub grown_keeps : (n : Numbers) (a : List Operator) {b : List Operator} → Grows a b → KeepsHeads n a b
grown_keeps n a {b = b} g = keeps_front n a g (keeps_same n b)

numbers_same : (j k : ℕ) → Some k ≡ Some j → k ≡ j
numbers_same j k q = cc

-- a number more, behind the table
pub keeps_fewer : (n : Numbers) (i k : ℕ) (a c : List Operator) → length a ≤ k → KeepsHeads (with_number n i k) a c → KeepsHeads n a c
keeps_fewer n i k a c le h = record { heads = h.heads; others = λ j o u e. h.others j o (no_number j o u e) e }
  where
    no_number : (j : ℕ) (o : Operator) → ((x : ℕ) → n x ≡ Some j → ⊥) → slice_get a j ≡ Some o → (x : ℕ) → with_number n i k x ≡ Some j → ⊥
    no_number j o u e x q = elim (with_cases n i k x) [
      | inl w ↦
          let same : k ≡ j = numbers_same j k (sym w.1 ∙ q) in
          let less : j < length a = slice_get_within a j o e in
          absurd (omega (arith, same, less, le))
      | inr w ↦ u x (sym w.1 ∙ q)
    ]

pub equal_or : (j k : ℕ) → (j ≡ k) ⊎ (j ≢ k)
equal_or zero zero = inl refl
equal_or zero (suc k) = inr (λ q. omega (arith, q))
equal_or (suc j) zero = inr (λ q. omega (arith, q))
equal_or (suc j) (suc k) = elim (equal_or j k) [ inl q ↦ inl (ap suc q) | inr n ↦ inr (λ q. n (omega (arith, q))) ]

one_at : {o p : Operator} → Some o ≡ Some p → o ≡ p
one_at q = cc

-- a table in which a definition that has a number got its body
pub keeps_set : (n : Numbers) (xs : List Operator) {all : List Operator} (i k : ℕ) (o : Operator) (e : Term) → n i ≡ Some k → slice_get xs k ≡ Some o → KeepsHeads n (set xs k (record o { body = e })) all → KeepsHeads n xs all
keeps_set n xs {all = all} i k o e q there h = record {
  heads = λ j p at. head j p at (equal_or j k);
  others = λ j p u at. h.others j p u (set_elsewhere xs k j (record o { body = e }) p (λ z. u i (q ∙ ap (λ (x : ℕ). Some x) (sym z))) at);
}
  where
    head : (j : ℕ) (p : Operator) → slice_get xs j ≡ Some p → (j ≡ k) ⊎ (j ≢ k) → (x : Term) × (slice_get all j ≡ Some (record p { body = x }))
    head j p at (inr ne) = h.heads j p (set_elsewhere xs k j (record o { body = e }) p ne at)
    head j p at (inl z) =
        let same : o ≡ p = one_at (sym there ∙ ap (λ (x : ℕ). slice_get xs x) (sym z) ∙ at) in
        let found : (x : Term) × (slice_get all k ≡ Some (record o { body = x })) = h.heads k (record o { body = e }) (set_there xs k (record o { body = e }) o there) in
        (found.0, ap (λ (x : ℕ). slice_get all x) z ∙ found.1 ∙ ap (λ (y : Operator). Some (record y { body = found.0 })) same)

-- what stands behind all numbers stands there as it is
pub keeps_stands : (n : Numbers) (from : ℕ) (b all : List Operator) → ((i k : ℕ) → n i ≡ Some k → k < from) → KeepsHeads n b all → StandsOn from b all
keeps_stands n from b all within h = record { heads = h.heads; bodies = λ k o le e. h.others k o (λ i q. behind i k q le) e }
  where
    behind : (i k : ℕ) → n i ≡ Some k → from ≤ k → ⊥
    behind i k q le = let less : k < from = within i k q in absurd (omega (arith, less, le))
