-- Each definition that is reached from those with meanings has a meaning, and is in order.
use Rattle.std.proofs.Common.{◌≡◌, ◌∙◌, ap, sym, refl, subst, List, length, inl, inr, arith}
use Rattle.std.specs.Prelude.{◌≢◌, ◌⊎◌, ℕ, zero, suc, Option, Some, IfSome, slice_get}
use Rattle.names_terms.specs.declared.operator.Operator.{Operator}
use Rattle.names_terms.specs.declared.spec.Spec.{Spec}
use Rattle.names_term_parts.specs.Slots.{Mentions}
use Rattle.names_specification_laws.specs.Everywhere.{Everywhere}
use Rattle.names_specification_laws.specs.IsSpec.{IsRow, IsNeeded, IsReached, needed, in_body}
use Rattle.names_specification_laws.specs.Meanings.{NameMeanings, HasMeaning, meaning, NamesHaveMeaning}
use Rattle.names_specification_laws.specs.Laws.{IsOrderly, BodiesMentionMeant, MeantAreInOrder, ReachedAreInOrder}
use Rattle.names_specification_laws.proofs.Mentioned.{mentioned_have_meaning}
use Rattle.names_specification_laws.proofs.Ordered.{meanings_are_in_order}

pub same_row : (F : Operator → Type 0) (ops : List Operator) (k : ℕ) (a b : Operator) → slice_get ops k ≡ Some a → slice_get ops k ≡ Some b → F a → F b
same_row F ops k a b p q h = subst (λ (o : Option Operator). IfSome o F) (sym p ∙ q) h

number_or : (j k : ℕ) → (j ≡ k) ⊎ (j ≢ k)
number_or zero zero = inl refl
number_or zero (suc k) = inr (λ q. omega (arith, q))
number_or (suc j) zero = inr (λ q. omega (arith, q))
number_or (suc j) (suc k) = elim (number_or j k) [ inl q ↦ inl (ap suc q) | inr n ↦ inr (λ q. n (omega (arith, q))) ]

-- what holds of one and of each other holds of all
pub or_itself : (Q : ℕ → Type 0) (k j : ℕ) → Q k → (j ≢ k → Q j) → Q j
or_itself Q k j here other = elim (number_or j k) [ inl q ↦ subst Q (sym q) here | inr n ↦ other n ]

-- what a body mentions has a meaning, where the body has
pub bodies_mention_meant : BodiesMentionMeant
bodies_mention_meant known ops _ o j program (meaning k p sc t is level taken fit s h) q m =
    same_row (λ (r : Operator). Mentions r.body j → HasMeaning known ops j) ops k p o is q (mentioned_have_meaning known ops sc t p.body program fit (λ n d a c. or_itself (HasMeaning known ops) k d.0 (meaning k p sc t is level taken fit s h) (s n d a c)) h j) m

pub meant_are_in_order : MeantAreInOrder
meant_are_in_order known variables ops _ o names (meaning k p sc t is level taken fit s h) q =
    same_row (IsOrderly variables ops) ops k p o is q (subst (λ i. Everywhere (IsRow variables ops) i p.body) taken (meanings_are_in_order known variables ops sc t p.body names fit h), level)

reached : (known : NameMeanings) (s : Spec) → NamesHaveMeaning known s.operators → ((k : ℕ) → IsNeeded s k → HasMeaning known s.operators k) → (k : ℕ) → IsReached s k → HasMeaning known s.operators k
reached known s program roots _ (needed k n) = roots k n
reached known s program roots _ (in_body j o k r q m) = bodies_mention_meant known s.operators j o k program (reached known s program roots j r) q m

pub reached_are_in_order : ReachedAreInOrder
reached_are_in_order s known fit program roots k o r q = meant_are_in_order known (length s.variables) s.operators k o fit (reached known s program roots k r) q
