-- Which definitions a text uses, one term at a time.
use Rattle.std.proofs.Common.{◌≡◌, ◌∙◌, sym, ap, List, [], ◌∷◌, ◌++◌, inl, inr, subst, arith, length, ◌<◌, ◌≤◌}
use Rattle.std.specs.Prelude.{◌⊎◌, ◌↔◌, IsTrue, ℕ, Bool, false, Contains, ◌+◌, slice_get, Some}
use Rattle.std.proofs.lemmas.List.Elements.{Contains-append_left, Contains-append_right, Contains-append_cases, Contains-push, Contains-push_cases}
use Rattle.base_core.specs.declared.place.Place.{Place}
use Rattle.names_terms.specs.declared.level.Level.{Level}
use Rattle.names_terms.specs.declared.operator.Operator.{Operator}
use Rattle.names_terms.specs.Terms as term
use Rattle.names_terms.specs.Terms.{Term, Placed, Meaning, meaning_of}
use Rattle.names_term_parts.specs.Parts.{Part, part, parts}
use Rattle.names_term_parts.specs.Slots.{Mentions, used, listed_in_let, mentioned_in_part, MentionsBelow, IsInOrder, UsesSmaller}
use Rattle.names_term_parts.specs.Special.{IsOwnBelow}
use Rattle.names_term_parts.specs.Weights.{weight, total}
use Rattle.std.proofs.lemmas.Bool.{cases_lt}
use Rattle.names_term_parts.proofs.Lists.{item_within}
use Rattle.names_term_parts.proofs.Contained.{contains_cons, contains_head, contains_nothing}
use Rattle.names_term_parts.proofs.Weights.{total-append, total-cons, total-nil, of_parts}

own_below : (n : ℕ) (at : Place) (l : Level) (m : Meaning) → MentionsBelow n (Placed at l m) → IsOwnBelow n m
own_below n at l (term.Use k ts) h = h k (used at l k ts)
own_below n at l (term.Scoped ks e) h = λ k c. h k (listed_in_let at l ks e k c)
own_below n at l m h = tt

whole_below : (n : ℕ) (e : Term) → IsOwnBelow n (meaning_of e) → ((p : Part) → Contains (parts false (meaning_of e)) p → MentionsBelow n p.term) → (k : ℕ) → Mentions e k → k < n
whole_below n _ own h _ (used at l k ts) = own
whole_below n _ own h _ (listed_in_let at l ks e k c) = own k c
whole_below n _ own h _ (mentioned_in_part at l m p k c w) = h p c k w

-- what is still to be seen
pub record IsBelowWay (n : ℕ) (e : Term) (stack : List Part) : Type 0 where
  pub needs : MentionsBelow n e → (p : Part) → Contains stack p → MentionsBelow n p.term
  pub suffices : ((p : Part) → Contains stack p → MentionsBelow n p.term) → MentionsBelow n e

pub below_begins : (n : ℕ) (e : Term) (stack : List Part) → stack ≡ part false e ∷ [] → IsBelowWay n e stack
below_begins n e stack q = subst (λ (ps : List Part). IsBelowWay n e ps) (sym q) record {
  needs = λ w p c. let P : Part → Type 0 = λ y. MentionsBelow n y.term in subst P (first p c) w;
  suffices = λ h. h (part false e) (contains_head (part false e) []);
}
  where
    first : (p : Part) → Contains (part false e ∷ []) p → part false e ≡ p
    first p c = elim (contains_cons (part false e) [] p c) [ inl s ↦ s | inr k ↦ absurd (contains_nothing p k) ]

module _ (n : ℕ) (e : Term) (p : Part) (at : Place) (l : Level) (m : Meaning) (stack left after : List Part) (seen : Placed at l m ≡ p.term) (popped : stack ≡ left ++ p ∷ []) (way : IsBelowWay n e stack) where
  at_top : Contains stack p
  at_top = let P : List Part → Type 0 = λ ps. Contains ps p in subst P (sym popped) (Contains-push left p)

  below_top : (q : Part) → Contains left q → Contains stack q
  below_top q c = let P : List Part → Type 0 = λ ps. Contains ps q in subst P (sym popped) (Contains-append_left left (p ∷ []) q c)

  in_stack : (q : Part) → Contains stack q → Contains left q ⊎ (p ≡ q)
  in_stack q c = let P : List Part → Type 0 = λ ps. Contains ps q in Contains-push_cases left p q (subst P popped c)

  here_below : MentionsBelow n e → MentionsBelow n (Placed at l m)
  here_below w = subst (MentionsBelow n) (sym seen) (way.needs w p at_top)

  pub below_on : after ≡ left ++ parts false m → IsOwnBelow n m → IsBelowWay n e after
  below_on pushed own = subst (λ (ps : List Part). IsBelowWay n e ps) (sym pushed) record {
    needs = λ w q c. elim (Contains-append_cases left (parts false m) q c) [
      | inl k ↦ way.needs w q (below_top q k)
      | inr k ↦ λ j u. here_below w j (mentioned_in_part at l m q j k u)
    ];
    suffices = λ h. way.suffices (λ q c. elim (in_stack q c) [
      | inl k ↦ h q (Contains-append_left left (parts false m) q k)
      | inr k ↦ let P : Part → Type 0 = λ y. MentionsBelow n y.term in subst P k (subst (MentionsBelow n) seen (whole_below n (Placed at l m) own (λ r d. h r (Contains-append_right left (parts false m) r d))))
    ]);
  }

  pub below_less : after ≡ left ++ parts false m → total after < total stack
  below_less pushed = omega (arith, ap total pushed, ap total popped, total-append left (parts false m), total-append left (p ∷ []), total-cons p [], total-nil, of_parts false m, ap weight seen)

  pub below_off : ¬ IsOwnBelow n m → MentionsBelow n e → ⊥
  below_off own w = own (own_below n at l m (here_below w))

pub below_ends : (n : ℕ) (e : Term) (stack : List Part) → stack ≡ [] → IsBelowWay n e stack → MentionsBelow n e
below_ends n e stack q way = way.suffices (λ p c. let P : List Part → Type 0 = λ ps. Contains ps p in absurd (contains_nothing p (subst P q c)))

pub own_let : (n : ℕ) (m : Meaning) (ks : List ℕ) (e : Term) (b : Bool) → m ≡ term.Scoped ks e → IsTrue b ↔ ((k : ℕ) → Contains ks k → k < n) → IsTrue b ↔ IsOwnBelow n m
own_let n m ks e b q h = subst (λ (y : Meaning). IsTrue b ↔ IsOwnBelow n y) (sym q) h

pub smaller_more : (ops : List Operator) (count n : ℕ) (o : Operator) → ((k : ℕ) (p : Operator) → k < n → slice_get ops k ≡ Some p → IsInOrder count k p.own p.body) → slice_get ops n ≡ Some o → IsInOrder count n o.own o.body → (k : ℕ) (p : Operator) → k < n + 1 → slice_get ops k ≡ Some p → IsInOrder count k p.own p.body
smaller_more ops count n o before is here k p lt is_p = elim (cases_lt k n) [
  | inl below ↦ before k p below is_p
  | inr above ↦
      let same_number : n ≡ k = omega arith in
      let same : o ≡ p = some_same (sym is ∙ ap (slice_get ops) same_number ∙ is_p) in
      subst (λ (y : ℕ). IsInOrder count y p.own p.body) same_number (subst (λ (y : Operator). IsInOrder count n y.own y.body) same here)
]
  where
    some_same : {a b : Operator} → Some a ≡ Some b → a ≡ b
    some_same e = cc

pub smaller_all : (ops : List Operator) (n : ℕ) → length ops ≤ n → ((k : ℕ) (p : Operator) → k < n → slice_get ops k ≡ Some p → IsInOrder (length ops) k p.own p.body) → UsesSmaller ops
smaller_all ops n all before k o is = let lt : k < length ops = item_within ops k o is in before k o (omega arith) is
