-- A fairness conjunct, one row at a time.
use Rattle.std.proofs.Common.{◌≡◌, ◌∙◌, sym, ap, refl, List, [], ◌∷◌, ◌++◌, inl, inr, subst, arith, ◌<◌}
use Rattle.std.specs.Prelude.{◌⊎◌, ℕ, Bool, true, false, Option, Some, None, Contains, slice_get}
use Rattle.std.proofs.lemmas.List.Elements.{Contains-append_left, Contains-append_right, Contains-append_cases, Contains-push, Contains-push_cases}
use Rattle.base_core.specs.declared.place.Place.{Place}
use Rattle.reading_trees.specs.declared.operators.Quantifier.{Quantifier}
use Rattle.reading_trees.specs.declared.operators.Quantifier.TheVariants as quantifier
use Rattle.names_terms.specs.declared.level.Level.{Level}
use Rattle.names_terms.specs.Terms as term
use Rattle.names_terms.specs.Terms.{Term, Terms, Placed, Meaning, meaning_of}
use Rattle.names_term_levels.specs.declared.note.Note.{Note}
use Rattle.names_term_levels.specs.Fairness.{fair_of, fair_in, fair_use, split, split_use, Splits}
use Rattle.names_term_parts.specs.Parts.{Part, part, parts_of, listed}
use Rattle.names_term_levels.specs.Told.{IsFairBy, weak_or_strong, for_all, both, named}
use Rattle.names_term_parts.specs.Weights.{weight, total}
use Rattle.names_term_parts.proofs.Contained.{contains_cons, contains_head, contains_tail, contains_nothing}
use Rattle.names_term_parts.proofs.Marks.{and_both, and_cases}
use Rattle.names_term_parts.proofs.Weights.{total-append, total-cons, total-nil, of_parts}

abbrev IsAllFair : List Note → List Term → Type 0
IsAllFair ns es = (x : Term) → Contains es x → IsFairBy ns x

only : (e x : Term) → Contains (e ∷ []) x → e ≡ x
only e x c = elim (contains_cons e [] x c) [ inl q ↦ q | inr k ↦ absurd (contains_nothing x k) ]

fair_parts : (ns : List Note) (e : Term) → IsFairBy ns e → (es : List Term) × (split (fair_in ns) (meaning_of e) ≡ Some es) × IsAllFair ns es
fair_parts ns _ (weak_or_strong at l v e) = ([], refl, λ x c. absurd (contains_nothing x c))
fair_parts ns _ (for_all at l bs e w) = (e ∷ [], refl, λ x c. subst (IsFairBy ns) (only e x c) w)
fair_parts ns _ (both at l ts h) = (listed ts, refl, h)
fair_parts ns _ (named at l k n is w) = ([], ap split_use (and_both (fair_in ns k) true (ap fair_of is ∙ w) refl), λ x c. absurd (contains_nothing x c))

is_none : (b : Bool) (es : List Term) → split_use b ≡ Some es → (b ≡ true) × (es ≡ [])
is_none true es q = (refl, cc)
is_none false es q = absurd (cc)

fair_quantified : (ns : List Note) (at : Place) (l : Level) (q : Quantifier) (bs : term.Bounds) (e : Term) (es : List Term) → split (fair_in ns) (term.Quantified q bs e) ≡ Some es → IsAllFair ns es → IsFairBy ns (Placed at l (term.Quantified q bs e))
fair_quantified ns at l quantifier.ForAll bs e es s h = let q : es ≡ e ∷ [] = cc in for_all at l bs e (h e (subst (λ (xs : List Term). Contains xs e) (sym q) (contains_head e [])))
fair_quantified ns at l quantifier.Exists bs e es s h = absurd (cc)

fair_noted : (ns : List Note) (at : Place) (l : Level) (k : ℕ) (r : Option Note) → slice_get ns k ≡ r → fair_of r ≡ true → IsFairBy ns (Placed at l (term.Use k term.NoTerms))
fair_noted ns at l k None is w = absurd (let q : false ≡ true = w in cc)
fair_noted ns at l k (Some n) is w = named at l k n is w

fair_named : (ns : List Note) (at : Place) (l : Level) (k : ℕ) (ts : Terms) (es : List Term) → split (fair_in ns) (term.Use k ts) ≡ Some es → IsFairBy ns (Placed at l (term.Use k ts))
fair_named ns at l k term.NoTerms es s =
    let b : (fair_use (fair_in ns) k term.NoTerms ≡ true) × (es ≡ []) = is_none (fair_use (fair_in ns) k term.NoTerms) es s in
    fair_noted ns at l k (slice_get ns k) refl (and_cases (fair_in ns k) true b.0).0
fair_named ns at l k (term.MoreTerms ts t) es s =
    let b : (fair_use (fair_in ns) k (term.MoreTerms ts t) ≡ true) × (es ≡ []) = is_none (fair_use (fair_in ns) k (term.MoreTerms ts t)) es s in
    let c : (fair_in ns k ≡ true) × (false ≡ true) = and_cases (fair_in ns k) false b.0 in
    let d : false ≡ true = c.1 in absurd (cc)

fair_back : (ns : List Note) (at : Place) (l : Level) (m : Meaning) (es : List Term) → split (fair_in ns) m ≡ Some es → IsAllFair ns es → IsFairBy ns (Placed at l m)
fair_back ns at l (term.Fairness v e) es s h = weak_or_strong at l v e
fair_back ns at l (term.All ts) es s h = let q : es ≡ listed ts = cc in both at l ts (subst (IsAllFair ns) q h)
fair_back ns at l (term.Quantified q bs e) es s h = fair_quantified ns at l q bs e es s h
fair_back ns at l (term.Use k ts) es s h = fair_named ns at l k ts es s
fair_back ns at l m es s h = absurd (cc)

split_weight : (names : ℕ → Bool) (at : Place) (l : Level) (m : Meaning) (es : List Term) → split names m ≡ Some es → total (parts_of false es) < weight (Placed at l m)
split_weight names at l (term.Fairness v e) es s = let q : es ≡ [] = cc in omega (arith, ap (λ xs. total (parts_of false xs)) q, total-nil)
split_weight names at l (term.All ts) es s = let q : es ≡ listed ts = cc in omega (arith, ap (λ xs. total (parts_of false xs)) q, of_parts false (term.All ts))
split_weight names at l (term.Quantified quantifier.ForAll bs e) es s = let q : es ≡ e ∷ [] = cc in omega (arith, ap (λ xs. total (parts_of false xs)) q, total-cons (part false e) [], total-nil)
split_weight names at l (term.Quantified quantifier.Exists bs e) es s = absurd (cc)
split_weight names at l (term.Use k ts) es s = let q = (is_none (fair_use names k ts) es s).1 in omega (arith, ap (λ xs. total (parts_of false xs)) q, total-nil)
split_weight names at l m es s = absurd (cc)

pub parts_of_in : (xs : List Term) (x : Term) → Contains xs x → Contains (parts_of false xs) (part false x)
parts_of_in [] x c = absurd (contains_nothing x c)
parts_of_in (y ∷ ys) x c = elim (contains_cons y ys x c) [
  | inl e ↦ subst (λ (z : Term). Contains (part false y ∷ parts_of false ys) (part false z)) e (contains_head (part false y) (parts_of false ys))
  | inr k ↦ contains_tail (part false y) (parts_of false ys) (part false x) (parts_of_in ys x k)
]

parts_of_out : (xs : List Term) (p : Part) → Contains (parts_of false xs) p → (x : Term) × Contains xs x × (p ≡ part false x)
parts_of_out [] p c = absurd (contains_nothing p c)
parts_of_out (y ∷ ys) p c = elim (contains_cons (part false y) (parts_of false ys) p c) [
  | inl e ↦ (y, contains_head y ys, sym e)
  | inr k ↦ let u : (x : Term) × Contains ys x × (p ≡ part false x) = parts_of_out ys p k in (u.0, contains_tail y ys u.0 u.1, u.2)
]

-- what is to be fairness still
pub record IsFairWay (ns : List Note) (e : Term) (stack : List Part) : Type 0 where
  pub needs : IsFairBy ns e → (p : Part) → Contains stack p → IsFairBy ns p.term
  pub suffices : ((p : Part) → Contains stack p → IsFairBy ns p.term) → IsFairBy ns e

pub fair_begins : (ns : List Note) (e : Term) (stack : List Part) → stack ≡ part false e ∷ [] → IsFairWay ns e stack
fair_begins ns e stack q = subst (λ (ps : List Part). IsFairWay ns e ps) (sym q) record {
  needs = λ w p c. let P : Part → Type 0 = λ y. IsFairBy ns y.term in subst P (first p c) w;
  suffices = λ h. h (part false e) (contains_head (part false e) []);
}
  where
    first : (p : Part) → Contains (part false e ∷ []) p → part false e ≡ p
    first p c = elim (contains_cons (part false e) [] p c) [ inl s ↦ s | inr k ↦ absurd (contains_nothing p k) ]

split_on : (o : Option (List Term)) (old new : List Part) → Splits o true old new → (es : List Term) × (o ≡ Some es) × (new ≡ old ++ parts_of false es)
split_on None old new h = absurd (cc)
split_on (Some es) old new h = (es, refl, h.1)

split_off : (o : Option (List Term)) (old new : List Part) → Splits o false old new → o ≡ None
split_off None old new h = refl
split_off (Some es) old new h = let q : false ≡ true = h.0 in absurd (cc)

module _ (ns : List Note) (e : Term) (p : Part) (at : Place) (l : Level) (m : Meaning) (stack left after : List Part) (seen : Placed at l m ≡ p.term) (popped : stack ≡ left ++ p ∷ []) (way : IsFairWay ns e stack) where
  at_top : Contains stack p
  at_top = let P : List Part → Type 0 = λ ps. Contains ps p in subst P (sym popped) (Contains-push left p)

  below_top : (q : Part) → Contains left q → Contains stack q
  below_top q c = let P : List Part → Type 0 = λ ps. Contains ps q in subst P (sym popped) (Contains-append_left left (p ∷ []) q c)

  in_stack : (q : Part) → Contains stack q → Contains left q ⊎ (p ≡ q)
  in_stack q c = let P : List Part → Type 0 = λ ps. Contains ps q in Contains-push_cases left p q (subst P popped c)

  here_parts : IsFairBy ns p.term → (es : List Term) × (split (fair_in ns) m ≡ Some es) × IsAllFair ns es
  here_parts w = fair_parts ns (Placed at l m) (subst (IsFairBy ns) (sym seen) w)

  on_stack : (es : List Term) → split (fair_in ns) m ≡ Some es → IsFairWay ns e (left ++ parts_of false es)
  on_stack es s = record {
    needs = λ w q c. elim (Contains-append_cases left (parts_of false es) q c) [
      | inl k ↦ way.needs w q (below_top q k)
      | inr k ↦
          let u : (x : Term) × Contains es x × (q ≡ part false x) = parts_of_out es q k in
          let h : (ys : List Term) × (split (fair_in ns) m ≡ Some ys) × IsAllFair ns ys = here_parts (way.needs w p at_top) in
          let same : h.0 ≡ es = cc (h.1, s) in
          let P : Part → Type 0 = λ y. IsFairBy ns y.term in
          subst P (sym u.2) (subst (IsAllFair ns) same h.2 u.0 u.1)
    ];
    suffices = λ h. way.suffices (λ q c. elim (in_stack q c) [
      | inl k ↦ h q (Contains-append_left left (parts_of false es) q k)
      | inr k ↦
          let P : Part → Type 0 = λ y. IsFairBy ns y.term in
          subst P k (subst (IsFairBy ns) seen (fair_back ns at l m es s (λ x d. h (part false x) (Contains-append_right left (parts_of false es) (part false x) (parts_of_in es x d)))))
    ]);
  }

  pub fair_on : Splits (split (fair_in ns) m) true left after → IsFairWay ns e after
  fair_on splits =
      let s : (es : List Term) × (split (fair_in ns) m ≡ Some es) × (after ≡ left ++ parts_of false es) = split_on (split (fair_in ns) m) left after splits in
      subst (λ (ps : List Part). IsFairWay ns e ps) (sym s.2) (on_stack s.0 s.1)

  pub fair_less : Splits (split (fair_in ns) m) true left after → total after < total stack
  fair_less splits =
      let s : (es : List Term) × (split (fair_in ns) m ≡ Some es) × (after ≡ left ++ parts_of false es) = split_on (split (fair_in ns) m) left after splits in
      omega (arith, ap total s.2, ap total popped, total-append left (parts_of false s.0), total-append left (p ∷ []), total-cons p [], total-nil, split_weight (fair_in ns) at l m s.0 s.1, ap weight seen)

  pub fair_off : Splits (split (fair_in ns) m) false left after → IsFairBy ns e → ⊥
  fair_off splits w =
      let h : (ys : List Term) × (split (fair_in ns) m ≡ Some ys) × IsAllFair ns ys = here_parts (way.needs w p at_top) in
      let q : None ≡ Some h.0 = sym (split_off (split (fair_in ns) m) left after splits) ∙ h.1 in
      absurd (cc)

pub fair_ends : (ns : List Note) (e : Term) (stack : List Part) → stack ≡ [] → IsFairWay ns e stack → IsFairBy ns e
fair_ends ns e stack q way = way.suffices (λ p c. let P : List Part → Type 0 = λ ps. Contains ps p in absurd (contains_nothing p (subst P q c)))
