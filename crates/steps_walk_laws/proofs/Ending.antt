-- How high a term is with all that it uses: what a term reads at all, it reads within its height, and it is a variable of the specification.
use Rattle.std.proofs.Common.{◌≡◌, refl, subst, List, [], ◌∷◌}
use Rattle.std.specs.Prelude.{◌&&◌, ◌==◌, ◌<◌, ℕ, zero, suc, Bool, true, false}
use Rattle.std.proofs.lemmas.List.Elements.{All-head, All-tail, All-weaker}
use Rattle.std.proofs.lemmas.Bool.{eqb-true}
use Rattle.base_core.specs.declared.place.Place.{Place}
use Rattle.names_terms.specs.declared.level.Level.{Level}
use Rattle.names_terms.specs.declared.level.Level.TheVariants as levels
use Rattle.names_terms.specs.Terms as term
use Rattle.names_terms.specs.Terms.{Term, Placed, Meaning, Terms, level_of}
use Rattle.names_term_parts.specs.Limits.{is_above}
use Rattle.names_term_parts.specs.Parts.{Part}
use Rattle.eval_meanings.specs.Contexts.{Table}
use Rattle.eval_meanings.specs.Unchanged.{changed_of, prime_of, unchanged_of}
use Rattle.actions_meanings.specs.Reads.{Ends, parts_in, read_among, reads, reads_meaning, terms_in}
use Rattle.steps_walk_laws.proofs.PartLists.{OfPart, PartsAre, parts_weaker, or_left, or_right}
use Rattle.steps_walk_laws.proofs.PartsHold.{Holds, parts_hold}
use Rattle.steps_walk_laws.proofs.Rows.{Row, Rows, Bodies}
use Rattle.steps_walk_laws.proofs.ReadOfParts.{or_cases, read_by_part}
use Rattle.steps_walk_laws.proofs.TermsOfParts.{Each, each_all, row_parts, Kept}

module _ (ops : Table) where
  pub ends_more : (k : ℕ) (e : Term) → Ends ops k e → Ends ops (suc k) e
  ends_more zero e h = absurd (h)
  ends_more (suc k) (Placed at levels.Constant m) h = tt
  ends_more (suc k) (Placed at levels.State m) h = All-weaker (Ends ops k) (Ends ops (suc k)) (λ x t. ends_more k x t) (terms_in ops at m) h
  ends_more (suc k) (Placed at levels.Action m) h = All-weaker (Ends ops k) (Ends ops (suc k)) (λ x t. ends_more k x t) (terms_in ops at m) h
  ends_more (suc k) (Placed at levels.Temporal m) h = All-weaker (Ends ops k) (Ends ops (suc k)) (λ x t. ends_more k x t) (terms_in ops at m) h

  pub ends_terms : (k : ℕ) (at : Place) (l : Level) (m : Meaning) → is_above l levels.Constant ≡ true → Ends ops (suc k) (Placed at l m) → Each (Ends ops k) (terms_in ops at m)
  ends_terms k at levels.Constant m q h = absurd (cc)
  ends_terms k at levels.State m q h = each_all (Ends ops k) (terms_in ops at m) h
  ends_terms k at levels.Action m q h = each_all (Ends ops k) (terms_in ops at m) h
  ends_terms k at levels.Temporal m q h = each_all (Ends ops k) (terms_in ops at m) h

  pub ends_unchanged : (k : ℕ) (at : Place) (v : Term) → Ends ops k (unchanged_of at v) → Ends ops k v
  ends_unchanged zero at v h = absurd (h)
  ends_unchanged (suc k) at v h = ends_more k v (All-head (Ends ops k) v [] h)

  pub ends_changed : (k : ℕ) (at : Place) (v : Term) → Ends ops k (changed_of at v) → Ends ops k v
  ends_changed zero at v h = absurd (h)
  ends_changed (suc k) at v h = ends_more k v (All-head (Ends ops k) v [] (All-tail (Ends ops k) (prime_of at v) (v ∷ []) h))

  pub ends_parts : (k : ℕ) (b : Bool) (at : Place) (m : Meaning) → Each (Ends ops k) (terms_in ops at m) → PartsAre (λ p e. Ends ops k e) (parts_in ops b m)
  ends_parts k b at m h =
      parts_weaker (Kept b false (Ends ops k)) (λ p e. Ends ops k e) (λ p e w. w.0) (parts_in ops b m)
      (row_parts b false (Ends ops k) ops (λ q p v. (ends_unchanged k p v, ends_changed k p v)) at m (λ q. absurd (cc)) (λ q. absurd (cc)) h)

  -- what follows from the row itself where it reads the variable
  abbrev pub Own : Type 0 → Bool → ℕ → Meaning → Type 0
  Own T b x (term.Variable y) = (b && (y == x)) ≡ true → T
  Own T b x m = Unit {0}

  meaning_read_by : (T : Type 0) (k : ℕ) (b : Bool) (x : ℕ) (m : Meaning) → Own T b x m → PartsAre (λ p e. reads ops k p e x ≡ true → T) (parts_in ops b m) → reads_meaning (λ p. reads ops k p.primed p.term) ops b m x ≡ true → T
  meaning_read_by T k b x (term.Variable y) o h r = o r
  meaning_read_by T k b x m o h r = read_by_part T ops k x (parts_in ops b m) h r

  pub whole_read_by : (T : Type 0) (k : ℕ) (b : Bool) (x : ℕ) (at : Place) (l : Level) (m : Meaning) → Own T b x m → PartsAre (λ p e. reads ops k p e x ≡ true → T) (parts_in ops b m) → reads ops (suc k) b (Placed at l m) x ≡ true → T
  whole_read_by T k b x at levels.Constant m o h r = absurd (cc)
  whole_read_by T k b x at levels.State m o h r = meaning_read_by T k b x m o h r
  whole_read_by T k b x at levels.Action m o h r = meaning_read_by T k b x m o h r
  whole_read_by T k b x at levels.Temporal m o h r = meaning_read_by T k b x m o h r

  -- the same for all that the term reads
  abbrev pub OwnOnly : (ℕ → Type 0) → Bool → Meaning → Type 0
  OwnOnly S b (term.Variable y) = b ≡ true → S y
  OwnOnly S b m = Unit {0}

  own_read : (S : ℕ → Type 0) (b : Bool) (x : ℕ) (m : Meaning) → OwnOnly S b m → Own (S x) b x m
  own_read S true x (term.Variable y) o = λ r. subst S (eqb-true y x r) (o refl)
  own_read S false x (term.Variable y) o = λ r. absurd (cc)
  own_read S b x m o = tt

  abbrev pub OnlyReads : (ℕ → Type 0) → OfPart
  OnlyReads S b e = (k x : ℕ) → reads ops k b e x ≡ true → S x

  pub whole_only : (S : ℕ → Type 0) (b : Bool) (at : Place) (l : Level) (m : Meaning) → OwnOnly S b m → PartsAre (OnlyReads S) (parts_in ops b m) → OnlyReads S b (Placed at l m)
  whole_only S b at l m o h zero x r = absurd (cc)
  whole_only S b at l m o h (suc k) x r =
      whole_read_by (S x) k b x at l m (own_read S b x m o) (parts_weaker (OnlyReads S) (λ p e. reads ops k p e x ≡ true → S x) (λ p e w. w k x) (parts_in ops b m) h) r

  -- heights

  more_among : (k j x : ℕ) (ps : List Part) → PartsAre (λ p e. reads ops j p e x ≡ true → reads ops k p e x ≡ true) ps
      → read_among (λ p. reads ops j p.primed p.term) ps x ≡ true → read_among (λ p. reads ops k p.primed p.term) ps x ≡ true
  more_among k j x [] h r = r
  more_among k j x (p ∷ ps) h r =
      or_cases (read_among (λ p. reads ops k p.primed p.term) (p ∷ ps) x ≡ true) (reads ops j p.primed p.term x) (read_among (λ p. reads ops j p.primed p.term) ps x)
      (λ q. or_left (reads ops k p.primed p.term x) (read_among (λ p. reads ops k p.primed p.term) ps x) (h.0 q))
      (λ q. or_right (reads ops k p.primed p.term x) (read_among (λ p. reads ops k p.primed p.term) ps x) (more_among k j x ps h.1 q)) r

  abbrev Within : ℕ → ℕ → Type 0
  Within x k = (j : ℕ) (b : Bool) (e : Term) → Ends ops k e → reads ops j b e x ≡ true → reads ops k b e x ≡ true

  within_meaning : (x k : ℕ) → Within x k → (j : ℕ) (b : Bool) (at : Place) (m : Meaning) → Each (Ends ops k) (terms_in ops at m)
      → reads_meaning (λ p. reads ops j p.primed p.term) ops b m x ≡ true → reads_meaning (λ p. reads ops k p.primed p.term) ops b m x ≡ true
  within_meaning x k ih j b at (term.Variable y) h r = r
  within_meaning x k ih j b at m h r =
      more_among k j x (parts_in ops b m) (parts_weaker (λ p e. Ends ops k e) (λ p e. reads ops j p e x ≡ true → reads ops k p e x ≡ true) (λ p e w. ih j p e w) (parts_in ops b m) (ends_parts k b at m h)) r

  pub reads_within : (x k : ℕ) → Within x k
  reads_within x zero j b e h r = absurd (h)
  reads_within x (suc k) zero b e h r = absurd (cc)
  reads_within x (suc k) (suc j) b (Placed at levels.Constant m) h r = r
  reads_within x (suc k) (suc j) b (Placed at levels.State m) h r = within_meaning x k (reads_within x k) j b at m (ends_terms k at levels.State m refl h) r
  reads_within x (suc k) (suc j) b (Placed at levels.Action m) h r = within_meaning x k (reads_within x k) j b at m (ends_terms k at levels.Action m refl h) r
  reads_within x (suc k) (suc j) b (Placed at levels.Temporal m) h r = within_meaning x k (reads_within x k) j b at m (ends_terms k at levels.Temporal m refl h) r

module _ (variables : ℕ) (ops : Table) (Q : ℕ → Type 0) (bodies : Bodies variables ops Q) where
  own_range : (b : Bool) (n x : ℕ) (at : Place) (l : Level) (m : Meaning) → Row variables ops Q n at l m → Own ops (x < variables) b x m
  own_range true n x at l (term.Variable y) h = λ r. subst (λ (z : ℕ). z < variables) (eqb-true y x r) h.0.0
  own_range false n x at l (term.Variable y) h = λ r. absurd (cc)
  own_range b n x at l m h = tt

  -- only variables of the specification are read
  pub in_range : (x k : ℕ) (b : Bool) (n : ℕ) (e : Term) → Rows variables ops Q n e → reads ops k b e x ≡ true → x < variables
  in_range x zero b n e h r = absurd (cc)
  in_range x (suc k) b n (Placed at l m) h r =
      whole_read_by ops (x < variables) k b x at l m (own_range b n x at l m h.0)
      (parts_weaker (Holds (Row variables ops Q)) (λ p e. reads ops k p e x ≡ true → x < variables) (λ p e w q. in_range x k p w.0 e w.1 q) (parts_in ops b m) (parts_hold variables ops Q bodies b n at l m h)) r
