-- What a term reads, its parts read: of a term in order a constant reads nothing, and a state only what does not stand under a prime.
use Rattle.std.proofs.Common.{◌≡◌, refl, subst, List, [], ◌∷◌}
use Rattle.std.specs.Prelude.{◌||◌, ℕ, zero, suc, Bool, true, false}
use Rattle.base_core.specs.declared.place.Place.{Place}
use Rattle.names_terms.specs.declared.level.Level.{Level}
use Rattle.names_terms.specs.declared.level.Level.TheVariants as levels
use Rattle.names_terms.specs.Terms as term
use Rattle.names_terms.specs.Terms.{Term, Placed, Meaning, level_of}
use Rattle.names_term_parts.specs.Limits.{is_above}
use Rattle.names_term_parts.specs.Parts.{Part}
use Rattle.eval_meanings.specs.Contexts.{Table}
use Rattle.actions_meanings.specs.Reads.{parts_in, read_among, reads, reads_meaning}
use Rattle.steps_walk_laws.proofs.PartLists.{OfPart, PartsAre, parts_both, parts_weaker, or_left, or_right}
use Rattle.steps_walk_laws.proofs.PartsHold.{Holds, parts_hold}
use Rattle.steps_walk_laws.proofs.Rows.{Row, Rows, Bodies}
use Rattle.steps_walk_laws.proofs.LevelsOfParts.{Low, low_parts}

module _ (variables : ℕ) (ops : Table) (Q : ℕ → Type 0) (bodies : Bodies variables ops Q) (S : ℕ → Type 0) where
  -- each variable that it reads is such
  abbrev pub ReadsOnly : OfPart
  ReadsOnly b e = (k x : ℕ) → reads ops k b e x ≡ true → S x

  pub constant_reads : (b : Bool) (e : Term) → is_above (level_of e) levels.Constant ≡ false → ReadsOnly b e
  constant_reads b (Placed at levels.Constant m) h zero x r = absurd (cc)
  constant_reads b (Placed at levels.Constant m) h (suc k) x r = absurd (cc)
  constant_reads b (Placed at levels.State m) h k x r = absurd (cc)
  constant_reads b (Placed at levels.Action m) h k x r = absurd (cc)
  constant_reads b (Placed at levels.Temporal m) h k x r = absurd (cc)

  among : (ps : List Part) → ((k x : ℕ) → read_among (λ p. reads ops k p.primed p.term) ps x ≡ true → S x) → PartsAre ReadsOnly ps
  among [] h = tt
  among (p ∷ ps) h = (
    λ k x r. h k x (or_left (reads ops k p.primed p.term x) (read_among (λ p. reads ops k p.primed p.term) ps x) r),
    among ps (λ k x r. h k x (or_right (reads ops k p.primed p.term x) (read_among (λ p. reads ops k p.primed p.term) ps x) r)),
  )

  meaning_reads : (b : Bool) (m : Meaning) → ((k x : ℕ) → reads_meaning (λ p. reads ops k p.primed p.term) ops b m x ≡ true → S x) → PartsAre ReadsOnly (parts_in ops b m)
  meaning_reads b (term.Variable y) h = tt
  meaning_reads b m h = among (parts_in ops b m) h

  pub parts_read : (b : Bool) (n : ℕ) (at : Place) (l : Level) (m : Meaning) → Row variables ops Q n at l m → ReadsOnly b (Placed at l m) → PartsAre ReadsOnly (parts_in ops b m)
  parts_read b n at levels.Constant m row h =
      parts_weaker (Low levels.Constant b) ReadsOnly (λ p e w. constant_reads p e w.0) (parts_in ops b m) (low_parts levels.Constant b variables ops Q bodies n at levels.Constant m row refl)
  parts_read b n at levels.State m row h = meaning_reads b m (λ k x r. h (suc k) x r)
  parts_read b n at levels.Action m row h = meaning_reads b m (λ k x r. h (suc k) x r)
  parts_read b n at levels.Temporal m row h = meaning_reads b m (λ k x r. h (suc k) x r)

pub or_cases : (T : Type 0) (a c : Bool) → (a ≡ true → T) → (c ≡ true → T) → (a || c) ≡ true → T
or_cases T true c f g r = f refl
or_cases T false c f g r = g r

-- what follows from each part that reads the variable follows where the term does
pub read_by_part : (T : Type 0) (ops : Table) (k x : ℕ) (ps : List Part) → PartsAre (λ p e. reads ops k p e x ≡ true → T) ps → read_among (λ p. reads ops k p.primed p.term) ps x ≡ true → T
read_by_part T ops k x [] h r = absurd (cc)
read_by_part T ops k x (p ∷ ps) h r =
    or_cases T (reads ops k p.primed p.term x) (read_among (λ p. reads ops k p.primed p.term) ps x) h.0 (read_by_part T ops k x ps h.1) r

module _ (variables : ℕ) (ops : Table) (Q : ℕ → Type 0) (bodies : Bodies variables ops Q) where
  abbrev Calm : ℕ → Type 0
  Calm k = (n : ℕ) (e : Term) → Rows variables ops Q n e → is_above (level_of e) levels.State ≡ false → (x : ℕ) → reads ops k false e x ≡ true → ⊥

  calm_parts : (k : ℕ) → Calm k → (n : ℕ) (at : Place) (m : Meaning) → Rows variables ops Q n (Placed at levels.State m) → (x : ℕ) → PartsAre (λ p e. reads ops k p e x ≡ true → ⊥) (parts_in ops false m)
  calm_parts k ih n at m h x =
      parts_weaker (λ p e. Low levels.State false p e × Holds (Row variables ops Q) p e) (λ p e. reads ops k p e x ≡ true → ⊥)
      (λ p e w r. ih w.1.0 e w.1.1 w.0.0 x (subst (λ (q : Bool). reads ops k q e x ≡ true) (w.0.1 refl) r))
      (parts_in ops false m)
      (parts_both (Low levels.State false) (Holds (Row variables ops Q)) (parts_in ops false m) (low_parts levels.State false variables ops Q bodies n at levels.State m h.0 refl) (parts_hold variables ops Q bodies false n at levels.State m h))

  calm_meaning : (k : ℕ) → Calm k → (n : ℕ) (at : Place) (m : Meaning) → Rows variables ops Q n (Placed at levels.State m) → (x : ℕ) → reads_meaning (λ p. reads ops k p.primed p.term) ops false m x ≡ true → ⊥
  calm_meaning k ih n at (term.Variable y) h x r = absurd (cc)
  calm_meaning k ih n at m h x r = read_by_part ⊥ ops k x (parts_in ops false m) (calm_parts k ih n at m h x) r

  -- a term below an action reads nothing but under a prime that stands around it
  pub calm_reads : (k : ℕ) → Calm k
  calm_reads zero n e h low x r = absurd (cc)
  calm_reads (suc k) n (Placed at levels.Constant m) h low x r = absurd (cc)
  calm_reads (suc k) n (Placed at levels.State m) h low x r = calm_meaning k (calm_reads k) n at m h x r
  calm_reads (suc k) n (Placed at levels.Action m) h low x r = absurd (cc)
  calm_reads (suc k) n (Placed at levels.Temporal m) h low x r = absurd (cc)

  -- so what it reads wherever it stands, it reads under a prime
  pub reads_anyway : (S : ℕ → Type 0) (b : Bool) (n : ℕ) (e : Term) → Rows variables ops Q n e → is_above (level_of e) levels.State ≡ false
      → ((k x : ℕ) → reads ops k true e x ≡ true → S x) → (k x : ℕ) → reads ops k b e x ≡ true → S x
  reads_anyway S true n e h low f = f
  reads_anyway S false n e h low f = λ k x r. absurd (calm_reads k n e h low x r)
