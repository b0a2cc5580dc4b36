-- Whether a term means fairness is decided, and so is whether a body gives Init and Next.
use Rattle.std.proofs.Common.{◌≡◌, ◌≢◌, ◌∙◌, sym, ap, refl, subst, arith, inl, inr, suc, List, [], ◌∷◌, length, ◌<◌, ◌⊎◌}
use Rattle.std.specs.Prelude.{◌↔◌, Bool, true, false, Some, Contains, IsTrue, slice_get}
use Rattle.std.proofs.lemmas.List.Elements.{Contains-append_cases, Contains-append_left, Contains-append_right}
use Rattle.std.proofs.lemmas.Option.{slice_get_within}
use Rattle.reading_trees.specs.declared.operators.PrefixOperator.TheVariants as prefix
use Rattle.reading_trees.specs.declared.operators.Quantifier.TheVariants as quantifier
use Rattle.names_terms.specs.declared.level.Level.TheVariants as levels
use Rattle.names_terms.specs.declared.operator.Operator.{Operator}
use Rattle.names_terms.specs.Terms as term
use Rattle.names_terms.specs.Terms.{Term, Terms, Placed, Meaning, level_of, place_of}
use Rattle.names_term_parts.specs.Limits.{is_above}
use Rattle.names_term_parts.specs.Parts.{listed}
use Rattle.names_term_parts.proofs.Contained.{contains_cons, contains_head, contains_nothing}
use Rattle.names_term_levels.specs.Shape.{Contribution, Gives, GivesEach, HasShape, IsFair, both, both_contributions, contribution, for_all, init_of, named, weak_or_strong}
use Rattle.base_use_order.proofs.Lists.{within_or_past}
use Rattle.names_outcome_laws.proofs.Deciding.{Decided, both_or, turned}
use Rattle.names_outcome_laws.proofs.RowRelations.{all_pairs, in_pairs, item_with}
use Rattle.names_outcome_laws.proofs.Saturating.{Pair, decided, true_or_not}

-- ---- fairness

module _ (ops : List Operator) where
  -- where the rows have what is given
  abbrev mutual
    FairBy : (Pair → Type 0) → Term → Type 0
    FairBy S (Placed at l (term.Fairness v e)) = Unit {0}
    FairBy S (Placed at l (term.Quantified quantifier.ForAll bs e)) = FairBy S e
    FairBy S (Placed at l (term.All ts)) = EachFair S ts
    FairBy S (Placed at l (term.Use k term.NoTerms)) = (o : Operator) × (slice_get ops k ≡ Some o) × S (k, 0)
    FairBy S (Placed at l m) = ⊥

    EachFair : (Pair → Type 0) → Terms → Type 0
    EachFair S term.NoTerms = Unit {0}
    EachFair S (term.MoreTerms ts e) = EachFair S ts × FairBy S e

  abbrev FairRow : Pair → Type 0
  FairRow b = (o : Operator) × (slice_get ops b.0 ≡ Some o) × IsFair ops o.body

  abbrev Follows : (Pair → Type 0) → Pair → Type 0
  Follows S b = (o : Operator) × (slice_get ops b.0 ≡ Some o) × FairBy S o.body

  mutual
    fair_or_no : (S : Pair → Type 0) → ((b : Pair) → Decided (S b)) → (e : Term) → Decided (FairBy S e)
    fair_or_no S d (Placed at l (term.Fairness v e)) = inl tt
    fair_or_no S d (Placed at l (term.Quantified quantifier.ForAll bs e)) = fair_or_no S d e
    fair_or_no S d (Placed at l (term.All ts)) = each_or_no S d ts
    fair_or_no S d (Placed at l (term.Use k term.NoTerms)) = item_with ops k (λ o. S (k, 0)) (λ o. d (k, 0))
    fair_or_no S d (Placed at l m) = inr (λ h. h)

    each_or_no : (S : Pair → Type 0) → ((b : Pair) → Decided (S b)) → (ts : Terms) → Decided (EachFair S ts)
    each_or_no S d term.NoTerms = inl tt
    each_or_no S d (term.MoreTerms ts e) = both_or (each_or_no S d ts) (fair_or_no S d e)

  mutual
    fair_sound : (e : Term) → FairBy FairRow e → IsFair ops e
    fair_sound (Placed at l (term.Fairness v e)) h = weak_or_strong at l v e
    fair_sound (Placed at l (term.Quantified quantifier.ForAll bs e)) h = for_all at l bs e (fair_sound e h)
    fair_sound (Placed at l (term.All ts)) h = both at l ts (each_sound ts h)
    fair_sound (Placed at l (term.Use k term.NoTerms)) h = named at l k h.2.0 h.2.1 h.2.2
    fair_sound (Placed at l m) h = absurd h

    each_sound : (ts : Terms) → EachFair FairRow ts → (e : Term) → Contains (listed ts) e → IsFair ops e
    each_sound term.NoTerms h e c = absurd (contains_nothing e c)
    each_sound (term.MoreTerms ts x) h e c = elim (Contains-append_cases (listed ts) (x ∷ []) e c) [
      | inl d ↦ each_sound ts h.0 e d
      | inr d ↦ elim (contains_cons x [] e d) [ inl q ↦ subst (λ (y : Term). IsFair ops y) q (fair_sound x h.1) | inr n ↦ absurd (contains_nothing e n) ]
    ]

  each_complete : (S : Pair → Type 0) (ts : Terms) → ((e : Term) → Contains (listed ts) e → FairBy S e) → EachFair S ts
  each_complete S term.NoTerms f = tt
  each_complete S (term.MoreTerms ts x) f = (
    each_complete S ts (λ e c. f e (Contains-append_left (listed ts) (x ∷ []) e c)),
    f x (Contains-append_right (listed ts) (x ∷ []) x (contains_head x [])),
  )

  fair_complete : (S : Pair → Type 0) → ((b : Pair) → b.0 < length ops → b.1 < 1 → Follows S b → S b) → (e : Term) → IsFair ops e → FairBy S e
  fair_complete S closed _ (weak_or_strong at l v e) = tt
  fair_complete S closed _ (for_all at l bs e r) = fair_complete S closed e r
  fair_complete S closed _ (both at l ts f) = each_complete S ts (λ e c. fair_complete S closed e (f e c))
  fair_complete S closed _ (named at l k o q r) = (let lt : 0 < 1 = omega arith in (o, q, closed (k, 0) (slice_get_within ops k o q) lt (o, q, fair_complete S closed o.body r)))

  mutual
    fair_map : (S Q : Pair → Type 0) → ((b : Pair) → b.0 < length ops → b.1 < 1 → S b → Q b) → (e : Term) → FairBy S e → FairBy Q e
    fair_map S Q f (Placed at l (term.Fairness v e)) h = tt
    fair_map S Q f (Placed at l (term.Quantified quantifier.ForAll bs e)) h = fair_map S Q f e h
    fair_map S Q f (Placed at l (term.All ts)) h = each_map S Q f ts h
    fair_map S Q f (Placed at l (term.Use k term.NoTerms)) h = (let lt : 0 < 1 = omega arith in (h.0, h.1, f (k, 0) (slice_get_within ops k h.0 h.1) lt h.2))
    fair_map S Q f (Placed at l m) h = absurd h

    each_map : (S Q : Pair → Type 0) → ((b : Pair) → b.0 < length ops → b.1 < 1 → S b → Q b) → (ts : Terms) → EachFair S ts → EachFair Q ts
    each_map S Q f term.NoTerms h = tt
    each_map S Q f (term.MoreTerms ts e) h = (each_map S Q f ts h.0, fair_map S Q f e h.1)

  row_or_no : (b : Pair) → b.1 < 1 → Decided (FairRow b)
  row_or_no b lt = elim (within_or_past b.0 (length ops)) [
    | inl less ↦ decided (all_pairs (length ops) 1) FairRow Follows
        (λ a c h. (h.0, h.1, fair_sound h.0.body h.2))
        (λ S Q f a c h. (h.0, h.1, fair_map S Q (λ d p q. f d (in_pairs (length ops) 1 d.0 d.1 p q)) h.0.body h.2))
        (λ S a c. item_with ops a.0 (λ o. FairBy (λ d. IsTrue (S d)) o.body) (λ o. fair_or_no (λ d. IsTrue (S d)) (λ d. true_or_not (S d)) o.body))
        (λ S closed a c h. closed a c (h.0, h.1, fair_complete S (λ d p q x. closed d (in_pairs (length ops) 1 d.0 d.1 p q) x) h.0.body h.2))
        b (in_pairs (length ops) 1 b.0 b.1 less lt)
    | inr le ↦ inr (λ r. (let less : b.0 < length ops = slice_get_within ops b.0 r.0 r.1 in omega (arith, le, less)))
  ]

  any_row : (b : Pair) → Decided (FairRow b)
  any_row b = (let lt : 0 < 1 = omega arith in row_or_no (b.0, 0) lt)

  pub fair_or_not : (e : Term) → Decided (IsFair ops e)
  fair_or_not e = turned (fair_sound e, fair_complete FairRow (λ b p q h. (h.0, h.1, fair_sound h.0.body h.2)) e) (fair_or_no FairRow any_row e)

  -- ---- what a conjunct gives

  -- it gives one thing, or nothing
  abbrev Given : (Contribution → Type 0) → Type 0
  Given P = ((p : Contribution) → ¬ P p) ⊎ ((q : Contribution) × ((p : Contribution) → P p ↔ (p ≡ q)))

  given_if : (C : Type 0) (q : Contribution) → Decided C → Given (λ p. C × (p ≡ q))
  given_if C q (inl h) = inr (q, λ p. (λ w. w.1, λ e. (h, e)))
  given_if C q (inr n) = inl (λ p w. n w.0)

  given_both : (C : Type 0) (q : Contribution) (P : Contribution → Type 0) → Decided C → Given P → Given (λ p. (C × (p ≡ q)) ⊎ ((¬ C) × P p))
  given_both C q P (inl h) g = inr (q, λ p. (λ w. elim w [ inl v ↦ v.1 | inr v ↦ absurd (v.0 h) ], λ e. inl (h, e)))
  given_both C q P (inr n) (inl none) = inl (λ p w. elim w [ inl v ↦ n v.0 | inr v ↦ none p v.1 ])
  given_both C q P (inr n) (inr r) = inr (r.0, λ p. (λ w. elim w [ inl v ↦ absurd (n v.0) | inr v ↦ (r.1 p).0 v.1 ], λ e. inr (n, (r.1 p).1 e)))

  given_pair : (P Q : Contribution → Type 0) → Given P → Given Q → Given (λ p. (a b : Contribution) × P a × Q b × (p ≡ both_contributions a b))
  given_pair P Q (inl none) g = inl (λ p w. none w.0 w.2)
  given_pair P Q (inr r) (inl none) = inl (λ p w. none w.1 w.3)
  given_pair P Q (inr r) (inr s) = inr (both_contributions r.0 s.0, λ p. (λ w. w.4 ∙ ap (λ (a : Contribution). both_contributions a w.1) ((r.1 w.0).0 w.2) ∙ ap (λ (b : Contribution). both_contributions r.0 b) ((s.1 w.1).0 w.3), λ e. (r.0, s.0, (r.1 r.0).1 refl, (s.1 s.0).1 refl, e)))

  false_or_not : (b : Bool) → Decided (b ≡ false)
  false_or_not true = inr (λ e. cc)
  false_or_not false = inl refl

  mutual
    given : (e : Term) → Given (Gives ops e)
    given (Placed at levels.Temporal (term.All ts)) =
        given_both (IsFair ops (Placed at levels.Temporal (term.All ts))) (contribution [] []) (GivesEach ops ts) (fair_or_not (Placed at levels.Temporal (term.All ts))) (given_each ts)
    given (Placed at levels.Temporal (term.Prefix prefix.Always (Placed q l (term.BoxAction a v)))) =
        given_if (is_above (level_of a) levels.Action ≡ false) (contribution [] (a ∷ [])) (false_or_not (is_above (level_of a) levels.Action))
    given (Placed at levels.Temporal m) = given_if (IsFair ops (Placed at levels.Temporal m)) (contribution [] []) (fair_or_not (Placed at levels.Temporal m))
    given (Placed at l m) = given_if (is_above l levels.State ≡ false) (contribution (Placed at l m ∷ []) []) (false_or_not (is_above l levels.State))

    given_each : (ts : Terms) → Given (GivesEach ops ts)
    given_each term.NoTerms = inr (contribution [] [], λ p. (λ e. e, λ e. e))
    given_each (term.MoreTerms ts e) = given_pair (GivesEach ops ts) (Gives ops e) (given_each ts) (given e)

  -- ---- the shape

  abbrev Shaped : Term → Term × Term → Type 0
  Shaped body x = HasShape ops body x.0 x.1

  no_shape : (body : Term) (q : Contribution) → ((p : Contribution) → Gives ops body p ↔ (p ≡ q)) → ((next : Term) → q.steps ≡ next ∷ [] → q.inits ≡ []) → (x : Term × Term) → ¬ Shaped body x
  no_shape body q g n x w =
      let e : contribution w.inits (x.1 ∷ []) ≡ q = (g (contribution w.inits (x.1 ∷ []))).0 w.gives in
      w.some (ap (λ (c : Contribution). c.inits) e ∙ n x.1 (sym (ap (λ (c : Contribution). c.steps) e)))

  by_parts : (body : Term) (inits steps : List Term) → ((p : Contribution) → Gives ops body p ↔ (p ≡ contribution inits steps)) → ((x : Term × Term) → ¬ Shaped body x) ⊎ ((x : Term × Term) × Shaped body x)
  by_parts body [] steps g = inl (no_shape body (contribution [] steps) g (λ next e. refl))
  by_parts body (i ∷ is) [] g = inl (no_shape body (contribution (i ∷ is) []) g (λ next e. absurd (none_more next e)))
    where
      none_more : (next : Term) → [] ≡ next ∷ [] → ⊥
      none_more next e = cc
  by_parts body (i ∷ is) (s ∷ t ∷ ss) g = inl (no_shape body (contribution (i ∷ is) (s ∷ t ∷ ss)) g (λ next e. absurd (too_many next e)))
    where
      too_many : (next : Term) → s ∷ t ∷ ss ≡ next ∷ [] → ⊥
      too_many next e = (let bad : suc (suc (length ss)) ≡ 1 = ap (λ (l : List Term). length l) e in omega (arith, bad))
  by_parts body (i ∷ is) (s ∷ []) g = inr ((init_of (place_of body) (i ∷ is), s), record { inits = i ∷ is; some = some_more; gives = (g (contribution (i ∷ is) (s ∷ []))).1 refl; init_is = refl })
    where
      some_more : i ∷ is ≢ []
      some_more e = cc

  pub shape_or_none : (body : Term) → ((x : Term × Term) → ¬ Shaped body x) ⊎ ((x : Term × Term) × Shaped body x)
  shape_or_none body = elim (given body) [
    | inl none ↦ inl (λ x w. none (contribution w.inits (x.1 ∷ [])) w.gives)
    | inr r ↦ by_parts body r.0.inits r.0.steps r.1
  ]
