-- Behind alike names stand alike terms: as many names as there are definitions may follow each other, so that no following ends early.
-- a name of level 1 without arguments
use Rattle.std.proofs.Common.{◌≡◌, ◌∙◌, ap, sym, refl, subst, inl, inr, arith}
use Rattle.std.specs.Prelude.{◌≢◌, ◌<◌, ◌⊎◌, ℕ, zero, suc, min, Some, None, Option, length, slice_get}
use Rattle.std.proofs.lemmas.Option.{slice_get_within}
use Rattle.base_core.specs.declared.place.Place.{Place}
use Rattle.names_terms.specs.declared.level.Level.TheVariants as levels
use Rattle.names_terms.specs.declared.operator.Operator.{Operator}
use Rattle.names_terms.specs.Terms as term
use Rattle.names_terms.specs.Terms.{Term, Meaning, Terms, Placed, level_of}
use Rattle.names_term_parts.specs.Slots.{Mentions, used}
use Rattle.names_term_parts.proofs.Ordering.{higher_below}
use Rattle.eval_meanings.specs.Contexts.{Table}
use Rattle.eval_meanings.specs.Unchanged.{behind}
use Rattle.names_term_parts.specs.Slots.{UsesSmaller}
use Rattle.twice_instances.specs.Alikeness.{Like, LikeMeanings, LikeRows, LikeTerms}
use Rattle.twice_instances.proofs.Inverted.{alike_is, none_is, use_is}
use Rattle.twice_instances.proofs.Lists.{LikeFound}
use Rattle.twice_instances.proofs.Opened.{rows_open}
use Rattle.twice_instances.proofs.Turning.{turned, turned_row, turned_term}

abbrev name_at : Place → ℕ → Term
name_at at k = Placed at levels.State (term.Use k term.NoTerms)

abbrev IsName : Term → Type 0
IsName e = (at : Place) × (k : ℕ) × (e ≡ name_at at k)

-- following stops at the term
abbrev IsEnd : Term → Type 0
IsEnd e = (ops : Table) (n m : ℕ) → behind ops n m e ≡ (m, e)

abbrev NameOfOne : Term → Type 0
NameOfOne (Placed at levels.State (term.Use k term.NoTerms)) = Unit {0}
NameOfOne e = ⊥

ends : (e : Term) → (NameOfOne e → ⊥) → IsEnd e
ends e h ops zero m = refl
ends (Placed at levels.State (term.Use k term.NoTerms)) h ops (suc n) m = absurd (h tt)
ends e h ops (suc n) m = refl

name_or_end : (e : Term) → IsName e ⊎ IsEnd e
name_or_end (Placed at levels.State (term.Use k term.NoTerms)) = inl (at, k, refl)
name_or_end e = inr (ends e (λ h. h))

-- so many names may follow
abbrev Suffices : ℕ → Term → Type 0
Suffices n e = (at : Place) (k : ℕ) → e ≡ name_at at k → k < n

-- what is alike to a name is one
alike_name : (Stands : ℕ → ℕ → Type 0) (ops all : Table) (at : Place) (k : ℕ) (f : Term) → Like Stands ops all (name_at at k) f → (j : ℕ) × (f ≡ name_at at j) × LikeRows Stands ops all k j
alike_name Stands ops all at k f a =
    let w : (n : Meaning) × (f ≡ Placed at levels.State n) × LikeMeanings Stands ops all (term.Use k term.NoTerms) n = alike_is Stands ops all at levels.State (term.Use k term.NoTerms) f a in
    let u : (j : ℕ) × (us : Terms) × (w.0 ≡ term.Use j us) × LikeRows Stands ops all k j × LikeTerms Stands ops all term.NoTerms us = use_is Stands ops all k term.NoTerms w.0 w.2 in
    let q : u.1 ≡ term.NoTerms = none_is Stands ops all u.1 u.4 in
    (u.0, subst (λ (us : Terms). f ≡ Placed at levels.State (term.Use u.0 us)) q (subst (λ (n : Meaning). f ≡ Placed at levels.State n) u.2 w.1), u.3)

-- a body that is a name is of level 1, so it names a smaller number
body_suffices : (ops : Table) → UsesSmaller ops → (k n : ℕ) (o : Operator) → slice_get ops k ≡ Some o → k < suc n → Suffices n o.body
body_suffices ops ordered k n o q l at j r =
    let higher : level_of o.body ≢ levels.Constant = λ c. absurd (let e : levels.State ≡ levels.Constant = ap level_of (sym r) ∙ c in cc) in
    let small : j < k = higher_below ops k o ordered q higher j (subst (λ (e : Term). Mentions e j) (sym r) (used at levels.State j term.NoTerms)) in
    omega arith

module _ (Stands : ℕ → ℕ → Type 0) (ops all : Table) (here : UsesSmaller ops) (there : UsesSmaller all) where
  -- what is found with so much left on each side
  abbrev Finds : ℕ → ℕ → Type 0
  Finds n i = (m : ℕ) (e f : Term) → Like Stands ops all e f → Suffices n e → Suffices i f → LikeFound Stands ops all (behind ops n m e) (behind all i m f)

  -- with one less
  abbrev FindsNext : ℕ → ℕ → Type 0
  FindsNext (suc n) (suc i) = Finds n i
  FindsNext n i = Unit {0}

  follow_rows : (n i : ℕ) → Finds n i → (m : ℕ) (at : Place) (k j : ℕ) → LikeRows Stands ops all k j → k < suc n → j < suc i
      → LikeFound Stands ops all (behind ops (suc n) m (name_at at k)) (behind all (suc i) m (name_at at j))
  follow_rows n i finds m at k j row s t =
      let w = rows_open Stands ops all k j row in
      let found : (ops : Table) → Option Operator → ℕ → ℕ → ℕ × Term = λ ops x n k. elim x [
        | None ↦ (m, name_at at k)
        | Some o ↦ behind ops n (min o.outer m) o.body
      ] in
      subst (λ (x : Option Operator). LikeFound Stands ops all (found ops x n k) (found all (slice_get all j) i j)) (sym w.here)
      (subst (λ (x : Option Operator). LikeFound Stands ops all (behind ops n (min w.left.outer m) w.left.body) (found all x i j)) (sym w.there)
      (subst (λ (x : ℕ). LikeFound Stands ops all (behind ops n (min w.left.outer m) w.left.body) (behind all i (min x m) w.right.body)) w.same.outer
      (finds (min w.left.outer m) w.left.body w.right.body w.same.body (body_suffices ops here k n w.left w.here s) (body_suffices all there j i w.right w.there t))))

  follow_names : (n i : ℕ) → FindsNext n i → (m : ℕ) (e f : Term) (at : Place) (k j : ℕ) → e ≡ name_at at k → f ≡ name_at at j → LikeRows Stands ops all k j → k < n → j < i
      → LikeFound Stands ops all (behind ops n m e) (behind all i m f)
  follow_names zero i finds m e f at k j p q row s t = absurd (omega (arith, s))
  follow_names (suc n) zero finds m e f at k j p q row s t = absurd (omega (arith, t))
  follow_names (suc n) (suc i) finds m e f at k j p q row s t =
      subst (λ (x : Term). LikeFound Stands ops all (behind ops (suc n) m x) (behind all (suc i) m f)) (sym p)
      (subst (λ (x : Term). LikeFound Stands ops all (behind ops (suc n) m (name_at at k)) (behind all (suc i) m x)) (sym q) (follow_rows n i finds m at k j row s t))

  follow_term : (n i : ℕ) → FindsNext n i → Finds n i
  follow_term n i finds m e f a s t = elim (name_or_end e) [
    | inl x ↦
        let b : Like Stands ops all (name_at x.0 x.1) f = subst (λ (g : Term). Like Stands ops all g f) x.2 a in
        let w : (j : ℕ) × (f ≡ name_at x.0 j) × LikeRows Stands ops all x.1 j = alike_name Stands ops all x.0 x.1 f b in
        follow_names n i finds m e f x.0 x.1 w.0 x.2 w.1 w.2 (s x.0 x.1 x.2) (t x.0 w.0 w.1)
    | inr x ↦ elim (name_or_end f) [
      | inl y ↦
          let b : Like (turned Stands) all ops (name_at y.0 y.1) e = subst (λ (g : Term). Like (turned Stands) all ops g e) y.2 (turned_term Stands ops all e f a) in
          let w : (k : ℕ) × (e ≡ name_at y.0 k) × LikeRows (turned Stands) all ops y.1 k = alike_name (turned Stands) all ops y.0 y.1 e b in
          follow_names n i finds m e f y.0 w.0 y.1 w.1 y.2 (turned_row (turned Stands) all ops y.1 w.0 w.2) (s y.0 w.0 w.1) (t y.0 y.1 y.2)
      | inr y ↦
          subst (λ (found : ℕ × Term). LikeFound Stands ops all found (behind all i m f)) (sym (x ops n m))
          (subst (λ (found : ℕ × Term). LikeFound Stands ops all (m, e) found) (sym (y all i m)) record { slots = refl; terms = a })
    ]
  ]

  follow : (n i : ℕ) → Finds n i
  follow zero i = follow_term zero i tt
  follow (suc n) zero = follow_term (suc n) zero tt
  follow (suc n) (suc i) = follow_term (suc n) (suc i) (follow n i)

-- the table's length suffices
all_suffice : (Stands : ℕ → ℕ → Type 0) (ops all : Table) (e f : Term) → Like Stands ops all e f → Suffices (length ops) e
all_suffice Stands ops all e f a at k q =
    let w : (j : ℕ) × (f ≡ name_at at j) × LikeRows Stands ops all k j = alike_name Stands ops all at k f (subst (λ (g : Term). Like Stands ops all g f) q a) in
    let r = rows_open Stands ops all k w.0 w.2 in
    slice_get_within ops k r.left r.here

-- behind alike names stand alike terms
pub behind_alike : (Stands : ℕ → ℕ → Type 0) (ops all : Table) → UsesSmaller ops → UsesSmaller all → (m : ℕ) (e f : Term) → Like Stands ops all e f → LikeFound Stands ops all (behind ops (length ops) m e) (behind all (length all) m f)
behind_alike Stands ops all here there m e f a =
    follow Stands ops all here there (length ops) (length all) m e f a (all_suffice Stands ops all e f a) (all_suffice (turned Stands) all ops f e (turned_term Stands ops all e f a))
