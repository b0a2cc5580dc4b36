-- The conjuncts of the operator of SPECIFICATION, one at a time.
use Rattle.std.proofs.Common.{◌≡◌, ◌∙◌, sym, ap, refl, List, [], ◌∷◌, ◌++◌, inl, inr, subst, arith, length, ◌<◌, ◌≤◌, append_assoc, take, get_or}
use Rattle.std.specs.Prelude.{◌↔◌, ℕ, Bool, true, false, Some, Contains, reverse, ◌+◌, ◌-◌, Result, Ok, Err, IfOk}
use Rattle.std.proofs.lemmas.List.{append-nil, reverse-append, map-append}
use Rattle.std.proofs.lemmas.List.Elements.{Contains-append_left, Contains-append_cases, Contains-push}
use Rattle.base_core.specs.declared.place.Place.{Place}
use Rattle.reading_trees.specs.declared.operators.PrefixOperator.{PrefixOperator}
use Rattle.reading_trees.specs.declared.operators.PrefixOperator.TheVariants as prefix
use Rattle.names_terms.specs.declared.level.Level.{Level}
use Rattle.names_terms.specs.declared.level.Level.TheVariants as levels
use Rattle.names_terms.specs.declared.operator.Operator.{Operator}
use Rattle.names_terms.specs.Terms as term
use Rattle.names_terms.specs.Terms.{Term, Terms, Placed, Meaning, level_of, meaning_of}
use Rattle.names_term_levels.specs.declared.gathering.Conjunct.{Conjunct}
use Rattle.names_term_levels.specs.declared.gathering.Conjunct.TheVariants as conjunct
use Rattle.names_term_levels.specs.Conjuncts.{IsConjunct, IsNoConjunction, Does, Takes, GivesStack, IsGathering, taken}
use Rattle.names_term_levels.specs.Shape.{rows, IsFair, Contribution, Gives, GivesEach, both_contributions, contribution}
use Rattle.names_term_parts.specs.Limits.{is_above}
use Rattle.names_term_parts.specs.Parts.{listed, part, parts_of}
use Rattle.names_term_parts.specs.Parts as text
use Rattle.names_term_parts.specs.Slots.{MentionsBelow, mentioned_in_part}
use Rattle.std.specs.Borrow.{Bor}
use Rattle.names_term_parts.specs.Weights.{weight, inner, total}
use Rattle.names_term_parts.proofs.Lists.{parts_of-append, taken as item_taken}
use Rattle.names_term_parts.proofs.Weights.{total-append, total-cons, total-nil, of_parts}
use Rattle.names_term_parts.proofs.Contained.{contains_cons, contains_head, contains_tail, contains_nothing}

-- What is added to what.
before_all : (p : Contribution) → both_contributions (contribution [] []) p ≡ p
before_all p = refl

behind_all : (p : Contribution) → both_contributions p (contribution [] []) ≡ p
behind_all p = ap (λ is. contribution is (p.steps ++ [])) (append-nil p.inits) ∙ ap (λ ss. contribution p.inits ss) (append-nil p.steps)

regrouped : (p q r : Contribution) → both_contributions (both_contributions p q) r ≡ both_contributions p (both_contributions q r)
regrouped p q r = ap (λ is. contribution is ((p.steps ++ q.steps) ++ r.steps)) (append_assoc p.inits q.inits r.inits) ∙ ap (λ ss. contribution (p.inits ++ (q.inits ++ r.inits)) ss) (append_assoc p.steps q.steps r.steps)

-- One conjunct.
low_gives : (ops : List Operator) (e : Term) (p : Contribution) → is_above (level_of e) levels.State ≡ false → Gives ops e p → p ≡ contribution (e ∷ []) []
low_gives ops (Placed at levels.Constant m) p h g = g.1
low_gives ops (Placed at levels.State m) p h g = g.1
low_gives ops (Placed at levels.Action m) p h g = absurd (cc)
low_gives ops (Placed at levels.Temporal m) p h g = absurd (cc)

low_given : (ops : List Operator) (e : Term) → is_above (level_of e) levels.State ≡ false → Gives ops e (contribution (e ∷ []) [])
low_given ops (Placed at levels.Constant m) h = (refl, refl)
low_given ops (Placed at levels.State m) h = (refl, refl)
low_given ops (Placed at levels.Action m) h = absurd (cc)
low_given ops (Placed at levels.Temporal m) h = absurd (cc)

action_gives : (ops : List Operator) (e : Term) (p : Contribution) → level_of e ≡ levels.Action → Gives ops e p → ⊥
action_gives ops (Placed at levels.Constant m) p h g = cc
action_gives ops (Placed at levels.State m) p h g = cc
action_gives ops (Placed at levels.Action m) p h g = let q : true ≡ false = g.0 in absurd (cc)
action_gives ops (Placed at levels.Temporal m) p h g = cc

no_fair_prefix : (ops : List Operator) (at : Place) (l : Level) (o : PrefixOperator) (e : Term) → IsFair ops (Placed at l (term.Prefix o e)) → ⊥
no_fair_prefix ops at l o e w = elim w [ ]

fair_gives : (ops : List Operator) (at : Place) (m : Meaning) (p : Contribution) → IsFair ops (Placed at levels.Temporal m) → Gives ops (Placed at levels.Temporal m) p → p ≡ contribution [] []
fair_gives ops at (term.All ts) p w g = elim g [ inl h ↦ h.1 | inr h ↦ absurd (h.0 w) ]
fair_gives ops at (term.Prefix prefix.Always (Placed q l (term.BoxAction a v))) p w g = absurd (no_fair_prefix ops at levels.Temporal prefix.Always (Placed q l (term.BoxAction a v)) w)
fair_gives ops at m p w g = g.1

fair_given : (ops : List Operator) (at : Place) (m : Meaning) → IsFair ops (Placed at levels.Temporal m) → Gives ops (Placed at levels.Temporal m) (contribution [] [])
fair_given ops at (term.All ts) w = inl (w, refl)
fair_given ops at (term.Prefix prefix.Always (Placed q l (term.BoxAction a v))) w = absurd (no_fair_prefix ops at levels.Temporal prefix.Always (Placed q l (term.BoxAction a v)) w)
fair_given ops at m w = (w, refl)

step_gives : (ops : List Operator) (at : Place) (m : Meaning) (x : Term) (p : Contribution) → taken m ≡ Some x → Gives ops (Placed at levels.Temporal m) p → p ≡ contribution [] (x ∷ [])
step_gives ops at (term.All ts) x p t g = absurd (cc)
step_gives ops at (term.Prefix prefix.Always (Placed q l (term.BoxAction a v))) x p t g = let same : a ≡ x = cc in g.1 ∙ ap (λ y. contribution [] (y ∷ [])) same
step_gives ops at m x p t g = absurd (cc)

step_given : (ops : List Operator) (at : Place) (m : Meaning) (x : Term) → taken m ≡ Some x → is_above (level_of x) levels.Action ≡ false → Gives ops (Placed at levels.Temporal m) (contribution [] (x ∷ []))
step_given ops at (term.All ts) x t h = absurd (cc)
step_given ops at (term.Prefix prefix.Always (Placed q l (term.BoxAction a v))) x t h = let same : a ≡ x = cc in (ap (λ y. is_above (level_of y) levels.Action) same ∙ h, ap (λ y. contribution [] (y ∷ [])) (sym same))
step_given ops at m x t h = absurd (cc)

other_gives : (ops : List Operator) (at : Place) (m : Meaning) (p : Contribution) → ¬ IsFair ops (Placed at levels.Temporal m) → IsNoConjunction m → ((a : Term) → taken m ≡ Some a → is_above (level_of a) levels.Action ≡ true) → Gives ops (Placed at levels.Temporal m) p → ⊥
other_gives ops at (term.All ts) p w n h g = n
other_gives ops at (term.Prefix prefix.Always (Placed q l (term.BoxAction a v))) p w n h g = let k : false ≡ true = sym g.0 ∙ h a refl in absurd (cc)
other_gives ops at m p w n h g = w g.0

-- the same of a term whose level is 3
e_fair_gives : (ops : List Operator) (e : Term) (p : Contribution) → level_of e ≡ levels.Temporal → IsFair ops e → Gives ops e p → p ≡ contribution [] []
e_fair_gives ops (Placed at levels.Temporal m) p q w g = fair_gives ops at m p w g
e_fair_gives ops (Placed at l m) p q w g = absurd (cc)

e_fair_given : (ops : List Operator) (e : Term) → level_of e ≡ levels.Temporal → IsFair ops e → Gives ops e (contribution [] [])
e_fair_given ops (Placed at levels.Temporal m) q w = fair_given ops at m w
e_fair_given ops (Placed at l m) q w = absurd (cc)

e_step_gives : (ops : List Operator) (e x : Term) (p : Contribution) → level_of e ≡ levels.Temporal → taken (meaning_of e) ≡ Some x → Gives ops e p → p ≡ contribution [] (x ∷ [])
e_step_gives ops (Placed at levels.Temporal m) x p q t g = step_gives ops at m x p t g
e_step_gives ops (Placed at l m) x p q t g = absurd (cc)

e_step_given : (ops : List Operator) (e x : Term) → level_of e ≡ levels.Temporal → taken (meaning_of e) ≡ Some x → is_above (level_of x) levels.Action ≡ false → Gives ops e (contribution [] (x ∷ []))
e_step_given ops (Placed at levels.Temporal m) x q t h = step_given ops at m x t h
e_step_given ops (Placed at l m) x q t h = absurd (cc)

all_gives : (ops : List Operator) (at : Place) (ts : Terms) (p : Contribution) → ¬ IsFair ops (Placed at levels.Temporal (term.All ts)) → Gives ops (Placed at levels.Temporal (term.All ts)) p → GivesEach ops ts p
all_gives ops at ts p n g = elim g [ inl h ↦ absurd (n h.0) | inr h ↦ h.1 ]

e_all_gives : (ops : List Operator) (e : Term) (ts : Terms) (p : Contribution) → level_of e ≡ levels.Temporal → meaning_of e ≡ term.All ts → ¬ IsFair ops e → Gives ops e p → GivesEach ops ts p
e_all_gives ops (Placed at levels.Temporal m) ts p q is n g =
    all_gives ops at ts p (subst (λ (y : Meaning). ¬ IsFair ops (Placed at levels.Temporal y)) is n) (subst (λ (y : Meaning). Gives ops (Placed at levels.Temporal y) p) is g)
e_all_gives ops (Placed at l m) ts p q is n g = absurd (cc)

e_all_given : (ops : List Operator) (e : Term) (ts : Terms) (p : Contribution) → level_of e ≡ levels.Temporal → meaning_of e ≡ term.All ts → ¬ IsFair ops e → GivesEach ops ts p → Gives ops e p
e_all_given ops (Placed at levels.Temporal m) ts p q is n g =
    let k : ¬ IsFair ops (Placed at levels.Temporal (term.All ts)) = subst (λ (y : Meaning). ¬ IsFair ops (Placed at levels.Temporal y)) is n in
    subst (λ (y : Meaning). Gives ops (Placed at levels.Temporal y) p) (sym is) (inr (k, g))
e_all_given ops (Placed at l m) ts p q is n g = absurd (cc)

e_other_gives : (ops : List Operator) (e : Term) (p : Contribution) → IsConjunct ops e conjunct.Other → Gives ops e p → ⊥
e_other_gives ops e p (inl h) g = action_gives ops e p h g
e_other_gives ops (Placed at levels.Temporal m) p (inr h) g = other_gives ops at m p h.1 h.2.0 h.2.1 g
e_other_gives ops (Placed at l m) p (inr h) g = let q : l ≡ levels.Temporal = h.0 in absurd (cc)

-- The stack.
top_gives : (ops : List Operator) (es : List Term) (t : Term) (p : Contribution) → GivesStack ops (es ++ t ∷ []) p → (a b : Contribution) × Gives ops t a × GivesStack ops es b × (p ≡ both_contributions a b)
top_gives ops [] t p (a, b, g, h, q) = (b, contribution [] [], h, refl, q ∙ ap (λ y. both_contributions y b) g ∙ sym (behind_all b))
top_gives ops (e ∷ es) t p (a, b, g, h, q) =
    let u : (c d : Contribution) × Gives ops t c × GivesStack ops es d × (a ≡ both_contributions c d) = top_gives ops es t a g in
    (u.0, both_contributions u.1 b, u.2, (u.1, b, u.3, h, refl), q ∙ ap (λ y. both_contributions y b) u.4 ∙ regrouped u.0 u.1 b)

top_given : (ops : List Operator) (es : List Term) (t : Term) (a b : Contribution) → Gives ops t a → GivesStack ops es b → GivesStack ops (es ++ t ∷ []) (both_contributions a b)
top_given ops [] t a b g h = (contribution [] [], a, refl, g, ap (λ y. both_contributions a y) h ∙ behind_all a)
top_given ops (e ∷ es) t a b g (c, d, h, k, q) =
    (both_contributions a c, d, top_given ops es t a c g h, k, ap (λ y. both_contributions a y) q ∙ sym (regrouped a c d))

back_more : (es : List Term) (xs : List Term) (x : Term) → es ++ reverse (xs ++ x ∷ []) ≡ (es ++ x ∷ []) ++ reverse xs
back_more es xs x = ap (λ ys. es ++ ys) (reverse-append xs (x ∷ [])) ∙ sym (append_assoc es (x ∷ []) (reverse xs))

each_gives : (ops : List Operator) (ts : Terms) (es : List Term) (p : Contribution) → GivesStack ops (es ++ reverse (listed ts)) p → (a b : Contribution) × GivesEach ops ts a × GivesStack ops es b × (p ≡ both_contributions a b)
each_gives ops term.NoTerms es p g = (contribution [] [], p, refl, subst (λ (xs : List Term). GivesStack ops xs p) (append-nil es) g, refl)
each_gives ops (term.MoreTerms ts e) es p g =
    let u : (a b : Contribution) × GivesEach ops ts a × GivesStack ops (es ++ e ∷ []) b × (p ≡ both_contributions a b) = each_gives ops ts (es ++ e ∷ []) p (subst (λ (xs : List Term). GivesStack ops xs p) (back_more es (listed ts) e) g) in
    let v : (a b : Contribution) × Gives ops e a × GivesStack ops es b × (u.1 ≡ both_contributions a b) = top_gives ops es e u.1 u.3 in
    (both_contributions u.0 v.0, v.1, (u.0, v.0, u.2, v.2, refl), v.3, u.4 ∙ ap (λ y. both_contributions u.0 y) v.4 ∙ sym (regrouped u.0 v.0 v.1))

each_given : (ops : List Operator) (ts : Terms) (es : List Term) (a b : Contribution) → GivesEach ops ts a → GivesStack ops es b → GivesStack ops (es ++ reverse (listed ts)) (both_contributions a b)
each_given ops term.NoTerms es a b g h = subst (λ (xs : List Term). GivesStack ops xs (both_contributions a b)) (sym (append-nil es)) (subst (λ (y : Contribution). GivesStack ops es (both_contributions y b)) (sym g) h)
each_given ops (term.MoreTerms ts e) es a b (c, d, g, k, q) h =
    let r : both_contributions a b ≡ both_contributions c (both_contributions d b) = ap (λ y. both_contributions y b) q ∙ regrouped c d b in
    subst (λ (xs : List Term). GivesStack ops xs (both_contributions a b)) (sym (back_more es (listed ts) e)) (subst (λ (y : Contribution). GivesStack ops ((es ++ e ∷ []) ++ reverse (listed ts)) y) (sym r) (each_given ops ts (es ++ e ∷ []) c (both_contributions d b) g (top_given ops es e d b k h)))

in_reverse : (xs : List Term) (x : Term) → Contains (reverse xs) x → Contains xs x
in_reverse [] x c = absurd (contains_nothing x (subst (λ (ys : List Term). Contains ys x) reverse_nothing c))
  where
    reverse_nothing : reverse {A = Term} [] ≡ []
    reverse_nothing = refl
in_reverse (y ∷ ys) x c = elim (Contains-append_cases (reverse ys) (y ∷ []) x (subst (λ (zs : List Term). Contains zs x) (reverse-append (y ∷ []) ys) c)) [
  | inl k ↦ contains_tail y ys x (in_reverse ys x k)
  | inr k ↦ elim (contains_cons y [] x k) [ inl e ↦ subst (λ (z : Term). Contains (y ∷ ys) z) e (contains_head y ys) | inr n ↦ absurd (contains_nothing x n) ]
]

listed_part : (es : List Term) (x : Term) → Contains es x → Contains (parts_of false es) (part false x)
listed_part [] x c = absurd (contains_nothing x c)
listed_part (y ∷ ys) x c = elim (contains_cons y ys x c) [
  | inl e ↦ subst (λ (z : Term). Contains (part false y ∷ parts_of false ys) (part false z)) e (contains_head (part false y) (parts_of false ys))
  | inr k ↦ contains_tail (part false y) (parts_of false ys) (part false x) (listed_part ys x k)
]

item_below : (known : ℕ) (e : Term) (ts : Terms) → meaning_of e ≡ term.All ts → MentionsBelow known e → (x : Term) → Contains (listed ts) x → MentionsBelow known x
item_below known (Placed at l m) ts is below x c k w =
    below k (mentioned_in_part at l m (part false x) k (subst (λ (y : Meaning). Contains (text.parts false y) (part false x)) (sym is) (listed_part (listed ts) x c)) w)

-- One conjunct is taken.
module _ (ops : List Operator) (known : ℕ) (body e : Term) (stack left : List Term) (so_far : Contribution) (popped : stack ≡ left ++ e ∷ []) (way : IsGathering ops known body stack so_far) where
  needs_top : (p : Contribution) → Gives ops body p → (a b : Contribution) × Gives ops e a × GivesStack ops left b × (p ≡ both_contributions so_far (both_contributions a b))
  needs_top p g =
      let u : (q : Contribution) × GivesStack ops stack q × (p ≡ both_contributions so_far q) = way.needs p g in
      let v : (a b : Contribution) × Gives ops e a × GivesStack ops left b × (u.0 ≡ both_contributions a b) = top_gives ops left e u.0 (subst (λ (xs : List Term). GivesStack ops xs u.0) popped u.1) in
      (v.0, v.1, v.2, v.3, u.2 ∙ ap (λ y. both_contributions so_far y) v.4)

  suffices_top : (a b : Contribution) → Gives ops e a → GivesStack ops left b → Gives ops body (both_contributions so_far (both_contributions a b))
  suffices_top a b g h = way.suffices (both_contributions a b) (subst (λ (xs : List Term). GivesStack ops xs (both_contributions a b)) (sym popped) (top_given ops left e a b g h))

  at_top : Contains stack e
  at_top = subst (λ (xs : List Term). Contains xs e) (sym popped) (Contains-push left e)

  below_top : (x : Term) → Contains left x → Contains stack x
  below_top x c = subst (λ (xs : List Term). Contains xs x) (sym popped) (Contains-append_left left (e ∷ []) x c)

  pub top_is_below : MentionsBelow known e
  top_is_below = way.below e at_top

  done : (own : Contribution) (t : List Term) (next : Contribution) → t ≡ left → next ≡ both_contributions so_far own → IsGathering ops known body left (both_contributions so_far own) → IsGathering ops known body t next
  done own t next q r h = subst (λ (xs : List Term). IsGathering ops known body xs next) (sym q) (subst (λ (y : Contribution). IsGathering ops known body left y) (sym r) h)

  -- a conjunct that gives these and nothing else
  settled : (own : Contribution) → ((p : Contribution) → Gives ops e p → p ≡ own) → Gives ops e own → IsGathering ops known body left (both_contributions so_far own)
  settled own gives given = record {
    needs = λ p g.
        let u : (a b : Contribution) × Gives ops e a × GivesStack ops left b × (p ≡ both_contributions so_far (both_contributions a b)) = needs_top p g in
        (u.1, u.3, u.4 ∙ ap (λ y. both_contributions so_far (both_contributions y u.1)) (gives u.0 u.2) ∙ sym (regrouped so_far own u.1));
    suffices = λ q h. subst (Gives ops body) (sym (regrouped so_far own q)) (suffices_top own q given h);
    below = λ x c. way.below x (below_top x c);
  }

  opened : (ts : Terms) → meaning_of e ≡ term.All ts → ((p : Contribution) → Gives ops e p → GivesEach ops ts p) → ((p : Contribution) → GivesEach ops ts p → Gives ops e p) → IsGathering ops known body (left ++ reverse (listed ts)) so_far
  opened ts is gives given = record {
    needs = λ p g.
        let u : (a b : Contribution) × Gives ops e a × GivesStack ops left b × (p ≡ both_contributions so_far (both_contributions a b)) = needs_top p g in
        (both_contributions u.0 u.1, each_given ops ts left u.0 u.1 (gives u.0 u.2) u.3, u.4);
    suffices = λ q h.
        let u : (a b : Contribution) × GivesEach ops ts a × GivesStack ops left b × (q ≡ both_contributions a b) = each_gives ops ts left q h in
        subst (λ (y : Contribution). Gives ops body (both_contributions so_far y)) (sym u.4) (suffices_top u.0 u.1 (given u.0 u.2) u.3);
    below = λ x c. elim (Contains-append_cases left (reverse (listed ts)) x c) [
      | inl k ↦ way.below x (below_top x k)
      | inr k ↦ item_below known e ts is (way.below e at_top) x (in_reverse (listed ts) x k)
    ];
  }

  pub takes_on : (t : List Term) (next : Contribution) (k : Conjunct) → IsConjunct ops e k → Does k e left t so_far next → IsGathering ops known body t next
  takes_on t next conjunct.Init is d = done (contribution (e ∷ []) []) t next d.0 (d.1 ∙ ap (λ ss. contribution (so_far.inits ++ e ∷ []) ss) (sym (append-nil so_far.steps))) (settled (contribution (e ∷ []) []) (λ p g. low_gives ops e p is g) (low_given ops e is))
  takes_on t next conjunct.Fairness is d = done (contribution [] []) t next d.0 (d.1 ∙ sym (behind_all so_far)) (settled (contribution [] []) (λ p g. e_fair_gives ops e p is.0 is.1 g) (e_fair_given ops e is.0 is.1))
  takes_on t next (conjunct.Step a) is d =
      done (contribution [] (a.now ∷ [])) t next d.0 (d.1 ∙ ap (λ xs. contribution xs (so_far.steps ++ a.now ∷ [])) (sym (append-nil so_far.inits))) (settled (contribution [] (a.now ∷ [])) (λ p g. e_step_gives ops e a.now p is.0 is.2.0 g) (e_step_given ops e a.now is.0 is.2.0 is.2.1))
  takes_on t next (conjunct.Conjunction ts) is d =
      subst (λ (xs : List Term). IsGathering ops known body xs next) (sym d.0) (subst (λ (y : Contribution). IsGathering ops known body (left ++ reverse (listed ts.now)) y) (sym d.1) (opened ts.now is.2 (λ p g. e_all_gives ops e ts.now p is.0 is.2 is.1 g) (λ p g. e_all_given ops e ts.now p is.0 is.2 is.1 g)))
  takes_on t next conjunct.Other is d = absurd d

  pub stops : IsConjunct ops e conjunct.Other → (p : Contribution) → Gives ops body p → ⊥
  stops is p g = let u : (a b : Contribution) × Gives ops e a × GivesStack ops left b × (p ≡ both_contributions so_far (both_contributions a b)) = needs_top p g in e_other_gives ops e u.0 is u.2

pub gathering_begins : (ops : List Operator) (known : ℕ) (body : Term) (stack : List Term) (so_far : Contribution) → stack ≡ body ∷ [] → so_far ≡ contribution [] [] → MentionsBelow known body → IsGathering ops known body stack so_far
gathering_begins ops known body stack so_far q r below =
    subst (λ (xs : List Term). IsGathering ops known body xs so_far) (sym q) (subst (λ (y : Contribution). IsGathering ops known body (body ∷ []) y) (sym r) record {
      needs = λ p g. (p, (contribution [] [], p, refl, g, refl), refl);
      suffices = λ p h. subst (Gives ops body) (ap (λ y. both_contributions y h.1) (sym h.2) ∙ sym h.4) h.3;
      below = λ x c. elim (contains_cons body [] x c) [ inl e ↦ subst (λ (z : Term). MentionsBelow known z) e below | inr k ↦ absurd (contains_nothing x k) ];
    })

pub gathering_ends : (ops : List Operator) (known : ℕ) (body : Term) (stack : List Term) (so_far : Contribution) → stack ≡ [] → IsGathering ops known body stack so_far → (p : Contribution) → Gives ops body p ↔ (p ≡ so_far)
gathering_ends ops known body stack so_far q way_there p =
    let way : IsGathering ops known body [] so_far = subst (λ (xs : List Term). IsGathering ops known body xs so_far) q way_there in (
      (λ g. let u : (r : Contribution) × (r ≡ contribution [] []) × (p ≡ both_contributions so_far r) = way.needs p g in u.2 ∙ ap (λ y. both_contributions so_far y) u.1 ∙ behind_all so_far),
      (λ e. subst (Gives ops body) (behind_all so_far ∙ sym e) (way.suffices (contribution [] []) refl)),
    )

-- What is on the stack gets less.
abbrev weighed : List Term → ℕ
weighed xs = total (parts_of false xs)

weighed-append : (xs ys : List Term) → weighed (xs ++ ys) ≡ weighed xs + weighed ys
weighed-append xs ys = ap total (parts_of-append false xs ys) ∙ total-append (parts_of false xs) (parts_of false ys)

weighed-reverse : (xs : List Term) → weighed (reverse xs) ≡ weighed xs
weighed-reverse [] = refl
weighed-reverse (x ∷ xs) =
    omega (arith, ap weighed (reverse-append (x ∷ []) xs), weighed-append (reverse xs) (x ∷ []), weighed-reverse xs, total-cons (part false x) (parts_of false xs), total-cons (part false x) [], total-nil)

weighs : (e : Term) → 0 < weight e
weighs (Placed at l m) = omega arith

of_conjunction : (e : Term) (ts : Terms) → meaning_of e ≡ term.All ts → weighed (listed ts) < weight e
of_conjunction (Placed at l m) ts q = omega (arith, of_parts false (term.All ts), ap inner q)

pub takes_less : (ops : List Operator) (e : Term) (stack left t : List Term) (p q : Contribution) (k : Conjunct) → stack ≡ left ++ e ∷ [] → IsConjunct ops e k → Does k e left t p q → weighed t < weighed stack
takes_less ops e stack left t p q conjunct.Init popped is d = omega (arith, ap weighed d.0, ap weighed popped, weighed-append left (e ∷ []), total-cons (part false e) [], total-nil, weighs e)
takes_less ops e stack left t p q conjunct.Fairness popped is d = omega (arith, ap weighed d.0, ap weighed popped, weighed-append left (e ∷ []), total-cons (part false e) [], total-nil, weighs e)
takes_less ops e stack left t p q (conjunct.Step a) popped is d = omega (arith, ap weighed d.0, ap weighed popped, weighed-append left (e ∷ []), total-cons (part false e) [], total-nil, weighs e)
takes_less ops e stack left t p q (conjunct.Conjunction ts) popped is d =
    omega (arith, ap weighed d.0, ap weighed popped, weighed-append left (e ∷ []), weighed-append left (reverse (listed ts.now)), weighed-reverse (listed ts.now), total-cons (part false e) [], total-nil, of_conjunction e ts.now is.2)
takes_less ops e stack left t p q conjunct.Other popped is d = absurd d

pub took : (ops : List Operator) (e : Term) (b : Bool) (k : Conjunct) (s t : List Term) (p q : Contribution) → b ≡ true → IsConjunct ops e k → Does k e s t p q → Takes ops e b s t p q
took ops e true k s t p q h is d = (k, is, d)
took ops e false k s t p q h is d = absurd (cc)

pub if_ok_mapped : {A E : Type 0} (r : Result A E) (P Q : A → Type 0) → ((x : A) → P x → Q x) → IfOk r P → IfOk r Q
if_ok_mapped (Ok x) P Q f h = f x h
if_ok_mapped (Err e) P Q f h = tt

-- the terms on a stack whose top was taken
pub rows-push : (xs : List (Bor Term)) (x : Bor Term) → rows (xs ++ x ∷ []) ≡ rows xs ++ x.now ∷ []
rows-push xs x = map-append (λ y. y.now) xs (x ∷ [])

-- One item less of a list that is put on the stack from its end.
pub reverse_less : (xs : List Term) (n : ℕ) (x : Term) (now new start : List Term) → 0 < n → n ≤ length xs → x ≡ get_or xs (n - 1) x → new ≡ now ++ x ∷ [] → now ++ reverse (take n xs) ≡ start ++ reverse xs → new ++ reverse (take (n - 1) xs) ≡ start ++ reverse xs
reverse_less xs n x now new start some within is pushed invariant =
    let k : n ≡ (n - 1) + 1 = omega arith in
    let lt : n - 1 < length xs = omega arith in
    let cut : reverse (take n xs) ≡ x ∷ [] ++ reverse (take (n - 1) xs) = ap (λ i. reverse (take i xs)) k ∙ ap reverse (item_taken xs (n - 1) x lt is) ∙ reverse-append (take (n - 1) xs) (x ∷ []) in
    ap (λ ys. ys ++ reverse (take (n - 1) xs)) pushed ∙ append_assoc now (x ∷ []) (reverse (take (n - 1) xs)) ∙ ap (λ ys. now ++ ys) (sym cut) ∙ invariant
