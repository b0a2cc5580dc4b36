-- Something that stands somewhere in a term is decided where it is decided of each term by itself.
use Rattle.std.proofs.Common.{◌≡◌, ap, arith, inl, inr, ℕ, zero, suc, List, [], ◌∷◌, ◌<◌, ◌≤◌, ◌⊎◌}
use Rattle.std.specs.Prelude.{false, Contains}
use Rattle.base_core.specs.declared.place.Place.{Place}
use Rattle.names_terms.specs.declared.level.Level.{Level}
use Rattle.names_terms.specs.Terms.{Term, Placed, Meaning}
use Rattle.names_term_parts.specs.Parts.{Part, parts}
use Rattle.names_term_parts.specs.Weights.{total, weight}
use Rattle.names_term_parts.proofs.Contained.{contains_cons, contains_nothing}
use Rattle.names_term_parts.proofs.Weights.{of_parts, total-cons}
use Rattle.names_outcome_laws.proofs.Deciding.{Decided, either_or, turned}
use Rattle.names_outcome_laws.proofs.Saturating.{any_or_none}

-- it is so of the term, or of one in it
pub data In (Own : Term → Type 0) : Term → Type 0 where
  here : (e : Term) → Own e → In Own e
  deeper : (at : Place) (l : Level) (m : Meaning) (p : Part) → Contains (parts false m) p → In Own p.term → In Own (Placed at l m)

one_of : (ps : List Part) (p : Part) → Contains ps p → weight p.term ≤ total ps
one_of [] p c = absurd (contains_nothing p c)
one_of (q ∷ ps) p c = elim (contains_cons q ps p c) [
  | inl e ↦ (let same : weight q.term ≡ weight p.term = ap (λ (x : Part). weight x.term) e in omega (arith, same, total-cons q ps))
  | inr d ↦ omega (arith, one_of ps p d, total-cons q ps)
]

pub part_less : (at : Place) (l : Level) (m : Meaning) (p : Part) → Contains (parts false m) p → weight p.term < weight (Placed at l m)
part_less at l m p c = omega (arith, one_of (parts false m) p c, of_parts false m)

module _ (Own : Term → Type 0) where
  abbrev Deeper : Meaning → Type 0
  Deeper m = (p : Part) × Contains (parts false m) p × In Own p.term

  to_in : (at : Place) (l : Level) (m : Meaning) → Own (Placed at l m) ⊎ Deeper m → In Own (Placed at l m)
  to_in at l m (inl h) = here (Placed at l m) h
  to_in at l m (inr d) = deeper at l m d.0 d.1 d.2

  abbrev OfTerm : Term → Type 0
  OfTerm (Placed at l m) = Own (Placed at l m) ⊎ Deeper m

  from_in : (e : Term) → In Own e → OfTerm e
  from_in _ (here (Placed at l m) h) = inl h
  from_in _ (deeper at l m p c r) = inr (p, c, r)

  in_below : ((e : Term) → Decided (Own e)) → (n : ℕ) (e : Term) → weight e ≤ n → Decided (In Own e)
  in_below d zero (Placed at l m) le = absurd (omega (arith, le))
  in_below d (suc n) (Placed at l m) le =
      turned (to_in at l m, from_in (Placed at l m)) (either_or (d (Placed at l m)) (any_or_none (λ p. In Own p.term) (parts false m) (λ p c. in_below d n p.term (let less : weight p.term < weight (Placed at l m) = part_less at l m p c in omega (arith, le, less)))))

  pub in_or_not : ((e : Term) → Decided (Own e)) → (e : Term) → Decided (In Own e)
  in_or_not d e = (let le : weight e ≤ weight e = omega arith in in_below d (weight e) e le)

pub in_map : (Own Other : Term → Type 0) → ((e : Term) → Own e → Other e) → (e : Term) → In Own e → In Other e
in_map Own Other f _ (here e h) = here e (f e h)
in_map Own Other f _ (deeper at l m p c r) = deeper at l m p c (in_map Own Other f p.term r)
