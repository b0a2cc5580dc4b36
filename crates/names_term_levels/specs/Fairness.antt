-- For the prover: a fairness conjunct, one row at a time.
use Rattle.std.specs.Prelude.{◌≡◌, ◌++◌, ◌&&◌, ℕ, Bool, true, false, List, [], ◌∷◌, Option, Some, None, slice_get}
use Rattle.reading_trees.specs.declared.operators.Quantifier.{Quantifier}
use Rattle.reading_trees.specs.declared.operators.Quantifier.TheVariants as quantifier
use Rattle.names_terms.specs.Terms as term
use Rattle.names_terms.specs.Terms.{Term, Terms, Meaning}
use Rattle.names_terms.specs.TermViews.{are_none}
use Rattle.names_term_levels.specs.declared.note.Note.{Note}
use Rattle.names_term_parts.specs.Parts.{Part, parts_of, listed}

abbrev pub fair_of : Option Note → Bool
fair_of None = false
fair_of (Some n) = n.fair

abbrev pub fair_in : List Note → ℕ → Bool
fair_in ns k = fair_of (slice_get ns k)

abbrev pub fair_use : (ℕ → Bool) → ℕ → Terms → Bool
fair_use named k ts = named k && are_none ts

abbrev pub split_quantified : Quantifier → Term → Option (List Term)
split_quantified quantifier.ForAll e = Some (e ∷ [])
split_quantified quantifier.Exists e = None

abbrev pub split_use : Bool → Option (List Term)
split_use true = Some []
split_use false = None

-- the terms that have to be fairness for the term to be, or none where it is not
abbrev pub split : (ℕ → Bool) → Meaning → Option (List Term)
split named (term.Fairness v e) = Some []
split named (term.All ts) = Some (listed ts)
split named (term.Quantified q bs e) = split_quantified q e
split named (term.Use k ts) = split_use (fair_use named k ts)
split named m = None

abbrev pub Splits : Option (List Term) → Bool → List Part → List Part → Type 0
Splits None b old new = b ≡ false
Splits (Some es) b old new = (b ≡ true) × (new ≡ old ++ parts_of false es)
