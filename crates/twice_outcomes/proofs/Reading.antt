-- Alike terms read the same variables.
use Rattle.std.proofs.Common.{◌≡◌, ◌∙◌, ap, ap₂, refl, List, [], ◌∷◌, map}
use Rattle.std.specs.Prelude.{ℕ, zero, suc, Bool, true, slice_get}
use Rattle.std.specs.List.{AllZip}
use Rattle.base_core.specs.declared.place.Place.{Place}
use Rattle.names_terms.specs.declared.level.Level.{Level}
use Rattle.names_terms.specs.declared.level.Level.TheVariants as levels
use Rattle.names_terms.specs.Terms as term
use Rattle.names_terms.specs.Terms.{Term, Placed, Meaning, Steps}
use Rattle.names_term_parts.specs.Parts.{Part, part, parts}
use Rattle.eval_meanings.specs.Contexts.{Table}
use Rattle.actions_meanings.specs.Reads.{VariableSet, body_of, parts_in, path_terms, read_among, reads, reads_meaning, reads_primed, united}
use Rattle.twice_terms.specs.Alike.{Alike, placed_alike, AlikeMeanings, variable_alike, use_alike, AlikeSteps}
use Rattle.twice_terms.specs.Laws.{AreOne, AlikeParts}
use Rattle.twice_terms.proofs.Zips.{zip_append}
use Rattle.twice_terms.proofs.Zipped.{parts_zip}
use Rattle.twice_outcomes.specs.Alikes.{AreAlikeLists}
use Rattle.twice_outcomes.proofs.AlikeLists.{map_zip}
use Rattle.twice_outcomes.proofs.Lists.{path_terms_zip, body_zip}

module _ (ops all : Table) where
  abbrev AreParts : List Part → List Part → Type 0
  AreParts ps qs = AllZip (AlikeParts AreOne ops all) ps qs

  -- terms under a prime, or under none
  primed_zip : (b : Bool) (es fs : List Term) → AreAlikeLists ops all es fs → AreParts (map (part b) es) (map (part b) fs)
  primed_zip b es fs z = map_zip (Alike AreOne ops all) (AlikeParts AreOne ops all) (part b) (part b) (λ e f a. record { terms = a; primed = refl }) es fs z

  parts_in_zip : (b : Bool) (m n : Meaning) → AlikeMeanings AreOne ops all m n → AreParts (parts_in ops b m) (parts_in all b n)
  parts_in_zip b _ _ (use_alike k j ts us r t) =
      zip_append (AlikeParts AreOne ops all) (parts b (term.Use k ts)) (parts b (term.Use j us)) (map (part b) (body_of (slice_get ops k))) (map (part b) (body_of (slice_get all j)))
      (parts_zip AreOne ops all b (term.Use k ts) (term.Use j us) (use_alike k j ts us r t)) (primed_zip b (body_of (slice_get ops k)) (body_of (slice_get all j)) (body_zip ops all k j r))
  parts_in_zip b m n h = parts_zip AreOne ops all b m n h

  read_same : (of to : Part → VariableSet) → ((p q : Part) → AlikeParts AreOne ops all p q → of p ≡ to q) → (ps qs : List Part) → AreParts ps qs → read_among of ps ≡ read_among to qs
  read_same of to same [] [] z = refl
  read_same of to same [] (q ∷ qs) z = absurd z
  read_same of to same (p ∷ ps) [] z = absurd z
  read_same of to same (p ∷ ps) (q ∷ qs) z = ap₂ united (same p q z.0) (read_same of to same ps qs z.1)

  meaning_reads : (of to : Part → VariableSet) → ((p q : Part) → AlikeParts AreOne ops all p q → of p ≡ to q) → (b : Bool) (m n : Meaning) → AlikeMeanings AreOne ops all m n
      → reads_meaning of ops b m ≡ reads_meaning to all b n
  meaning_reads of to same b _ _ (variable_alike x y q) = ap (λ (z : ℕ). reads_meaning of ops b (term.Variable z)) q
  meaning_reads of to same b m n h = read_same of to same (parts_in ops b m) (parts_in all b n) (parts_in_zip b m n h)

  level_reads : (k : ℕ) → ((p q : Part) → AlikeParts AreOne ops all p q → reads ops k p.primed p.term ≡ reads all k q.primed q.term) → (b : Bool) (at : Place) (l : Level) (m n : Meaning)
      → AlikeMeanings AreOne ops all m n → reads ops (suc k) b (Placed at l m) ≡ reads all (suc k) b (Placed at l n)
  level_reads k same b at levels.Constant m n h = refl
  level_reads k same b at levels.State m n h = meaning_reads (λ p. reads ops k p.primed p.term) (λ p. reads all k p.primed p.term) same b m n h
  level_reads k same b at levels.Action m n h = meaning_reads (λ p. reads ops k p.primed p.term) (λ p. reads all k p.primed p.term) same b m n h
  level_reads k same b at levels.Temporal m n h = meaning_reads (λ p. reads ops k p.primed p.term) (λ p. reads all k p.primed p.term) same b m n h

  placed_reads : (k : ℕ) → ((p q : Part) → AlikeParts AreOne ops all p q → reads ops k p.primed p.term ≡ reads all k q.primed q.term) → (b : Bool) (e f : Term)
      → Alike AreOne ops all e f → reads ops (suc k) b e ≡ reads all (suc k) b f
  placed_reads k same b _ _ (placed_alike at l m n h) = level_reads k same b at l m n h

  part_reads : (k : ℕ) → ((b : Bool) (e f : Term) → Alike AreOne ops all e f → reads ops k b e ≡ reads all k b f) → (p q : Part) → AlikeParts AreOne ops all p q
      → reads ops k p.primed p.term ≡ reads all k q.primed q.term
  part_reads k same p q a = same p.primed p.term q.term a.terms ∙ ap (λ (b : Bool). reads all k b q.term) a.primed

  pub reads_same : (k : ℕ) (b : Bool) (e f : Term) → Alike AreOne ops all e f → reads ops k b e ≡ reads all k b f
  reads_same zero b e f a = refl
  reads_same (suc k) b e f a = placed_reads k (part_reads k (reads_same k)) b e f a

  pub primed_same : (k : ℕ) (e f : Term) (ss rs : Steps) → Alike AreOne ops all e f → AlikeSteps AreOne ops all ss rs → reads_primed ops k e ss ≡ reads_primed all k f rs
  primed_same k e f ss rs a t =
      ap₂ united (reads_same k true e f a)
      (read_same (λ p. reads ops k true p.term) (λ p. reads all k true p.term) (λ p q c. reads_same k true p.term q.term c.terms)
      (map (part true) (path_terms ss)) (map (part true) (path_terms rs)) (primed_zip true (path_terms ss) (path_terms rs) (path_terms_zip ops all ss rs t)))
