-- Terms that use definitions below a number alone, or are constant.
use Rattle.std.proofs.Common.{◌≡◌, ◌∙◌, inl, inr, ap, sym, arith, length}
use Rattle.std.specs.Prelude.{◌<◌, ◌≤◌, ◌⊎◌, ℕ, true, false, Some, Contains, slice_get}
use Rattle.base_core.specs.declared.place.Place.{Place}
use Rattle.names_terms.specs.declared.level.Level.{Level}
use Rattle.names_terms.specs.declared.level.Level.TheVariants as levels
use Rattle.names_terms.specs.declared.operator.Operator.{Operator}
use Rattle.names_terms.specs.Terms.{Term, Placed, Meaning, level_of}
use Rattle.names_term_parts.specs.Parts.{Part, parts}
use Rattle.names_term_parts.specs.Slots.{MentionsBelow, UsesSmaller, mentioned_in_part}
use Rattle.names_term_parts.proofs.Ordering.{below_more, in_order_cases}
use Rattle.eval_meanings.specs.Contexts.{Table}
use Rattle.actions_early_reads.specs.Levels.{StaysBelow, is_constant}

-- one that is taken apart uses definitions below the number
pub below-higher : (n : ℕ) (at : Place) (l : Level) (m : Meaning) → is_constant l ≡ false → StaysBelow n (Placed at l m) → MentionsBelow n (Placed at l m)
below-higher n at l m q (inl c) = absurd (let r : true ≡ false = sym (ap is_constant c) ∙ q in cc)
below-higher n at l m q (inr h) = h

-- and so does each of its parts
pub below-part : (n : ℕ) (at : Place) (l : Level) (m : Meaning) (p : Part) → is_constant l ≡ false → Contains (parts false m) p → StaysBelow n (Placed at l m) → StaysBelow n p.term
below-part n at l m p q c h = inr (λ k u. below-higher n at l m q h k (mentioned_in_part at l m p k c u))

pub stays-more : (n m : ℕ) (e : Term) → n ≤ m → StaysBelow n e → StaysBelow m e
stays-more n m e le (inl c) = inl c
stays-more n m e le (inr h) = inr (below_more n m e le h)

-- the body of a definition uses those of smaller numbers alone, or is constant
pub body-stays : (ops : Table) (k : ℕ) (o : Operator) → UsesSmaller ops → slice_get ops k ≡ Some o → StaysBelow k o.body
body-stays ops k o smaller is = in_order_cases (length ops) k o.own o.body (smaller k o is)
