-- What holds of the operator of SPECIFICATION holds of its conjuncts, and so of Init and Next.
use Rattle.std.proofs.Common.{◌≡◌, ◌∙◌, sym, refl, subst, List, [], ◌∷◌, ◌++◌, inl, inr, ◌<◌, arith, append_assoc}
use Rattle.std.specs.Prelude.{◌≢◌, ℕ, Bool, true, false, All, Contains}
use Rattle.std.proofs.lemmas.List.{append-nil}
use Rattle.std.proofs.lemmas.List.Elements.{All-nil, All-cons, All-head, All-tail, All-append, All-contains, All-weaker, Contains-push, Contains-append_left}
use Rattle.base_core.specs.declared.place.Place.{Place}
use Rattle.reading_trees.specs.declared.operators.PrefixOperator.TheVariants as prefix
use Rattle.names_terms.specs.declared.level.Level.{Level}
use Rattle.names_terms.specs.declared.level.Level.TheVariants as levels
use Rattle.names_terms.specs.declared.operator.Operator.{Operator}
use Rattle.names_terms.specs.Terms as term
use Rattle.names_terms.specs.Terms.{Term, Terms, Placed, Meaning, count, level_of, meaning_of, place_of}
use Rattle.names_terms.specs.Levels.{joined, of_terms}
use Rattle.names_terms.specs.TermViews.{terms_from, terms_of}
use Rattle.names_term_parts.specs.declared.fault.LevelFault.{LevelFault}
use Rattle.names_term_parts.specs.Limits.{is_above, limits}
use Rattle.names_term_parts.specs.Parts.{Part, part, parts, parts_of, listed}
use Rattle.names_term_parts.specs.Slots.{Mentions, used, listed_in_let, mentioned_in_part}
use Rattle.names_term_parts.proofs.Contained.{contains_cons, contains_head, contains_tail, contains_nothing}
use Rattle.names_term_levels.specs.Faults.{IsFault, too_high, primed_argument, in_part, of_let}
use Rattle.names_term_levels.specs.Shape.{Contribution, contribution, Gives, GivesEach, init_of}
use Rattle.names_specification_laws.specs.Everywhere.{Everywhere, InTerms}
use Rattle.names_specification_laws.specs.IsSpec.{IsRow, IsTerm, IsAtMost}
use Rattle.names_specification_laws.specs.ShapeLaws.{ShapesAreInOrder, ShapesMention}

-- a fact of a conjunction that holds of its conjuncts, and of an action that is always taken
record Passes (T : Term → Type 0) : Type 0 where
  to_all : (at : Place) (l : Level) (ts : Terms) → T (Placed at l (term.All ts)) → (e : Term) → Contains (listed ts) e → T e
  to_step : (at q : Place) (l m : Level) (a v : Term) → T (Placed at l (term.Prefix prefix.Always (Placed q m (term.BoxAction a v)))) → T a

last_listed : (ts : Terms) (e : Term) → Contains (listed (term.MoreTerms ts e)) e
last_listed ts e = Contains-push (listed ts) e

module _ (ops : List Operator) (T : Term → Type 0) (passes : Passes T) where
  abbrev Init : Term → Type 0
  Init e = T e × IsAtMost levels.State e

  abbrev Step : Term → Type 0
  Step e = T e × IsAtMost levels.Action e

  abbrev Holds : Contribution → Type 0
  Holds p = All Init p.inits × All Step p.steps

  nothing_given : (p : Contribution) → p ≡ contribution [] [] → Holds p
  nothing_given p q = subst Holds (sym q) (All-nil Init, All-nil Step)

  init_given : (e : Term) (p : Contribution) → T e → IsAtMost levels.State e → p ≡ contribution (e ∷ []) [] → Holds p
  init_given e p t l q = subst Holds (sym q) (All-cons Init e [] (t, l) (All-nil Init), All-nil Step)

  step_given : (e : Term) (p : Contribution) → T e → IsAtMost levels.Action e → p ≡ contribution [] (e ∷ []) → Holds p
  step_given e p t l q = subst Holds (sym q) (All-nil Init, All-cons Step e [] (t, l) (All-nil Step))

  mutual
    gives : (e : Term) (p : Contribution) → Gives ops e p → T e → Holds p
    gives (Placed at levels.Temporal (term.All ts)) p g t = elim g [
      | inl h ↦ nothing_given p h.1
      | inr h ↦ gives_each ts p h.1 (passes.to_all at levels.Temporal ts t)
    ]
    gives (Placed at levels.Temporal (term.Prefix prefix.Always (Placed q l (term.BoxAction a v)))) p g t =
        step_given a p (passes.to_step at q levels.Temporal l a v t) g.0 g.1
    gives (Placed at levels.Temporal m) p g t = nothing_given p g.1
    gives (Placed at levels.Constant m) p g t = init_given (Placed at levels.Constant m) p t g.0 g.1
    gives (Placed at levels.State m) p g t = init_given (Placed at levels.State m) p t g.0 g.1
    gives (Placed at levels.Action m) p g t = init_given (Placed at levels.Action m) p t g.0 g.1

    gives_each : (ts : Terms) (p : Contribution) → GivesEach ops ts p → ((e : Term) → Contains (listed ts) e → T e) → Holds p
    gives_each term.NoTerms p g t = nothing_given p g
    gives_each (term.MoreTerms ts e) p g t =
        let a : Holds g.0 = gives_each ts g.0 g.2 (λ x c. t x (Contains-append_left (listed ts) (e ∷ []) x c)) in
        let b : Holds g.1 = gives e g.1 g.3 (t e (last_listed ts e)) in
        subst Holds (sym g.4) (All-append Init g.0.inits g.1.inits a.0 b.0, All-append Step g.0.steps g.1.steps a.1 b.1)

-- Init as a conjunction of conjuncts

listed_from : (ts : Terms) (xs : List Term) → listed (terms_from ts xs) ≡ listed ts ++ xs
listed_from ts [] = sym (append-nil (listed ts))
listed_from ts (x ∷ xs) = listed_from (term.MoreTerms ts x) xs ∙ append_assoc (listed ts) (x ∷ []) xs

some_from : (ts : Terms) (xs : List Term) → 0 < count ts → 0 < count (terms_from ts xs)
some_from ts [] h = h
some_from ts (x ∷ xs) h = some_from (term.MoreTerms ts x) xs (omega arith)

low_joined : (a b : Level) → is_above a levels.State ≡ false → is_above b levels.State ≡ false → is_above (joined a b) levels.State ≡ false
low_joined levels.Constant b h k = k
low_joined levels.State levels.Constant h k = refl
low_joined levels.State levels.State h k = refl
low_joined levels.State levels.Action h k = k
low_joined levels.State levels.Temporal h k = k
low_joined levels.Action b h k = absurd (cc)
low_joined levels.Temporal b h k = absurd (cc)

low_from : (ts : Terms) (xs : List Term) → is_above (of_terms ts) levels.State ≡ false → All (IsAtMost levels.State) xs → is_above (of_terms (terms_from ts xs)) levels.State ≡ false
low_from ts [] h k = h
low_from ts (x ∷ xs) h k =
    low_from (term.MoreTerms ts x) xs (low_joined (of_terms ts) (level_of x) h (All-head (IsAtMost levels.State) x xs k)) (All-tail (IsAtMost levels.State) x xs k)

part_listed : (b : Bool) (es : List Term) (p : Part) → Contains (parts_of b es) p → Contains es p.term
part_listed b [] p c = absurd (contains_nothing p c)
part_listed b (e ∷ es) p c = elim (contains_cons (part b e) (parts_of b es) p c) [
  | inl s ↦ subst (λ (y : Part). Contains (e ∷ es) y.term) s (contains_head e es)
  | inr a ↦ contains_tail e es p.term (part_listed b es p a)
]

pub listed_part : (b : Bool) (es : List Term) (e : Term) → Contains es e → Contains (parts_of b es) (part b e)
listed_part b [] e c = absurd (contains_nothing e c)
listed_part b (x ∷ es) e c = elim (contains_cons x es e c) [
  | inl s ↦ subst (λ (y : Term). Contains (parts_of b (x ∷ es)) (part b y)) s (contains_head (part b x) (parts_of b es))
  | inr a ↦ contains_tail (part b x) (parts_of b es) (part b e) (listed_part b es e a)
]

-- a fault of a conjunction is one of a conjunct, and so is what it mentions

all_part : (m : Meaning) (ts : Terms) (p : Part) → m ≡ term.All ts → Contains (parts false m) p → Contains (listed ts) p.term
all_part m ts p q c = part_listed false (listed ts) p (subst (λ (y : Meaning). Contains (parts false y) p) q c)

conjunct_fault : (ops : List Operator) (e : Term) (f : LevelFault) → IsFault ops e f → (ts : Terms) → meaning_of e ≡ term.All ts → ((x : Term) → Contains (listed ts) x → IsFault ops x f → ⊥) → ⊥
conjunct_fault ops _ _ (too_high at l m x c above) ts q none = absurd (contains_nothing x (subst (λ (y : Meaning). Contains (limits at y) x) q c))
conjunct_fault ops _ _ (primed_argument at l k args o j e is item primed high) ts q none = cc
conjunct_fault ops _ _ (in_part at l m p f c w) ts q none = none p.term (all_part m ts p q c) w
conjunct_fault ops _ _ (of_let at l ks e k o f c is w) ts q none = cc

conjunct_mentions : (M : Type 0) (e : Term) (k : ℕ) → Mentions e k → (ts : Terms) → meaning_of e ≡ term.All ts → ((x : Term) → Contains (listed ts) x → Mentions x k → M) → M
conjunct_mentions M _ _ (used at l k args) ts q each = absurd (cc)
conjunct_mentions M _ _ (listed_in_let at l ks e k c) ts q each = absurd (cc)
conjunct_mentions M _ _ (mentioned_in_part at l m p k c w) ts q each = each p.term (all_part m ts p q c) w

in_terms : (P : ℕ → Place → Level → Meaning → Type 0) (n : ℕ) (ts : Terms) (xs : List Term) → InTerms P n ts → All (Everywhere P n) xs → InTerms P n (terms_from ts xs)
in_terms P n ts [] h k = h
in_terms P n ts (x ∷ xs) h k = in_terms P n (term.MoreTerms ts x) xs (h, All-head (Everywhere P n) x xs k) (All-tail (Everywhere P n) x xs k)

terms_pass : (P : ℕ → Place → Level → Meaning → Type 0) (n : ℕ) (ts : Terms) → InTerms P n ts → All (Everywhere P n) (listed ts)
terms_pass P n term.NoTerms h = All-nil (Everywhere P n)
terms_pass P n (term.MoreTerms ts e) h = All-append (Everywhere P n) (listed ts) (e ∷ []) (terms_pass P n ts h.0) (All-cons (Everywhere P n) e [] h.1 (All-nil (Everywhere P n)))

module _ (variables : ℕ) (ops : List Operator) (n : ℕ) where
  abbrev Orderly : Term → Type 0
  Orderly e = IsTerm variables ops n e

  abbrev Rows : ℕ → Place → Level → Meaning → Type 0
  Rows = IsRow variables ops

  order_passes : Passes Orderly
  order_passes =
      record {
        to_all = λ at l ts h e c. record {
          rows = All-contains (Everywhere Rows n) (listed ts) e (terms_pass Rows n ts h.rows.1) c;
          bounded = λ f w. h.bounded f (in_part at l (term.All ts) (part false e) f (listed_part false (listed ts) e c) w);
        };
        to_step = λ at q l m a v h. record {
          rows = h.rows.1.1.0;
          bounded = λ f w. h.bounded f (in_part at l (term.Prefix prefix.Always (Placed q m (term.BoxAction a v))) (part false (Placed q m (term.BoxAction a v))) f (contains_head (part false (Placed q m (term.BoxAction a v))) [])
              (in_part q m (term.BoxAction a v) (part false a) f (contains_head (part false a) (part true v ∷ [])) w));
        };
      }

  conjunction : (at : Place) (xs : List Term) → 0 < count (terms_of xs) → All Orderly xs → Orderly (Placed at (of_terms (terms_of xs)) (term.All (terms_of xs)))
  conjunction at xs some h =
      record {
        rows = ((tt, some, refl), in_terms Rows n term.NoTerms xs tt (All-weaker Orderly (Everywhere Rows n) (λ x t. t.rows) xs h));
        bounded = λ f w. conjunct_fault ops (Placed at (of_terms (terms_of xs)) (term.All (terms_of xs))) f w (terms_of xs) refl
            (λ x c v. let t : Orderly x = All-contains Orderly xs x h (subst (λ (l : List Term). Contains l x) (listed_from term.NoTerms xs) c) in t.bounded f v);
      }

  init_in_order : (at : Place) (xs : List Term) → xs ≢ [] → All Orderly xs → All (IsAtMost levels.State) xs → Orderly (init_of at xs) × IsAtMost levels.State (init_of at xs)
  init_in_order at [] some h k = absurd (some refl)
  init_in_order at (x ∷ []) some h k = (All-head Orderly x [] h, All-head (IsAtMost levels.State) x [] k)
  init_in_order at (x ∷ y ∷ xs) some h k =
      (conjunction at (x ∷ y ∷ xs) (some_from (term.MoreTerms term.NoTerms x) (y ∷ xs) (omega arith)) h, low_from term.NoTerms (x ∷ y ∷ xs) refl k)

pub shapes_are_in_order : ShapesAreInOrder
shapes_are_in_order variables ops n body init next h t =
    let T : Term → Type 0 = λ e. IsTerm variables ops n e in
    let I : Term → Type 0 = λ e. T e × IsAtMost levels.State e in
    let S : Term → Type 0 = λ e. T e × IsAtMost levels.Action e in
    let g : All I h.inits × All S (next ∷ []) = gives ops T (order_passes variables ops n) body (contribution h.inits (next ∷ [])) h.gives t in
    let i : T (init_of (place_of body) h.inits) × IsAtMost levels.State (init_of (place_of body) h.inits) =
    init_in_order variables ops n (place_of body) h.inits h.some (All-weaker I T (λ x r. r.0) h.inits g.0) (All-weaker I (IsAtMost levels.State) (λ x r. r.1) h.inits g.0) in
    let s : T next × IsAtMost levels.Action next = All-head S next [] g.1 in
    (subst T (sym h.init_is) i.0, subst (IsAtMost levels.State) (sym h.init_is) i.1, s.0, s.1)

module _ (body : Term) where
  abbrev Within : Term → Type 0
  Within e = (k : ℕ) → Mentions e k → Mentions body k

  mentions_pass : Passes Within
  mentions_pass =
      record {
        to_all = λ at l ts h e c k w. h k (mentioned_in_part at l (term.All ts) (part false e) k (listed_part false (listed ts) e c) w);
        to_step = λ at q l m a v h k w. h k (mentioned_in_part at l (term.Prefix prefix.Always (Placed q m (term.BoxAction a v))) (part false (Placed q m (term.BoxAction a v))) k (contains_head (part false (Placed q m (term.BoxAction a v))) [])
            (mentioned_in_part q m (term.BoxAction a v) (part false a) k (contains_head (part false a) (part true v ∷ [])) w));
      }

  conjuncts_within : (at : Place) (xs : List Term) → All Within xs → Within (Placed at (of_terms (terms_of xs)) (term.All (terms_of xs)))
  conjuncts_within at xs h k w =
      conjunct_mentions (Mentions body k) (Placed at (of_terms (terms_of xs)) (term.All (terms_of xs))) k w (terms_of xs) refl
      (λ x c v. All-contains Within xs x h (subst (λ (l : List Term). Contains l x) (listed_from term.NoTerms xs) c) k v)

  init_within : (at : Place) (xs : List Term) → All Within xs → Within (init_of at xs)
  init_within at (x ∷ []) h = All-head Within x [] h
  init_within at [] h = conjuncts_within at [] h
  init_within at (x ∷ y ∷ xs) h = conjuncts_within at (x ∷ y ∷ xs) h

pub shapes_mention : ShapesMention
shapes_mention ops body init next h k =
    let W : Term → Type 0 = λ e. (j : ℕ) → Mentions e j → Mentions body j in
    let I : Term → Type 0 = λ e. W e × IsAtMost levels.State e in
    let S : Term → Type 0 = λ e. W e × IsAtMost levels.Action e in
    let g : All I h.inits × All S (next ∷ []) = gives ops W (mentions_pass body) body (contribution h.inits (next ∷ [])) h.gives (λ j w. w) in
    let i : W (init_of (place_of body) h.inits) = init_within body (place_of body) h.inits (All-weaker I W (λ x r. r.0) h.inits g.0) in
    let s : S next = All-head S next [] g.1 in
    (subst (λ (e : Term). Mentions e k → Mentions body k) (sym h.init_is) (i k), s.0 k)
