-- A term uses those definitions alone that its names mean, and those of its own LETs: all of them stand in the table.
use Rattle.std.proofs.Common.{◌≡◌, sym, ap, refl, subst, List, [], ◌∷◌, ◌++◌, inl, inr, length, ◌<◌}
use Rattle.std.specs.Prelude.{ℕ, Bool, true, false, ◌||◌, Contains}
use Rattle.std.proofs.lemmas.List.Elements.{Contains-append_cases, Contains-push_cases}
use Rattle.base_core.specs.declared.place.Place.{Place}
use Rattle.values_core.specs.Data.{integer, string, truth}
use Rattle.reading_trees.specs.declared.laid.Bullet.{Bullet}
use Rattle.reading_trees.specs.declared.laid.Bullet.TheVariants as bullet
use Rattle.reading_trees.specs.declared.operators.InfixOperator.{InfixOperator}
use Rattle.reading_trees.specs.declared.operators.InfixOperator.TheVariants as infix_operator
use Rattle.reading_trees.specs.Trees as tree
use Rattle.reading_trees.specs.Trees.{Tree}
use Rattle.names_terms.specs.declared.level.Level.{Level}
use Rattle.names_terms.specs.declared.operator.Operator.{Operator}
use Rattle.names_terms.specs.Terms as term
use Rattle.names_terms.specs.Terms.{Term, Placed, Meaning, Terms, meaning_of}
use Rattle.names_term_parts.specs.Parts.{Part, part, parts, parts_of, listed, operand_list, set_list, value_list, arm_list, is_prime, step_parts, steps_parts, change_parts}
use Rattle.names_term_parts.specs.Slots.{Mentions, used, listed_in_let, mentioned_in_part, MentionsBelow}
use Rattle.names_term_parts.specs.Special.{IsOwnBelow}
use Rattle.names_term_parts.proofs.Contained.{contains_cons, contains_head, contains_tail, contains_nothing}
use Rattle.names_term_parts.proofs.Lists.{item_within}
use Rattle.names_scopes.specs.declared.meant.Entry.{Entry}
use Rattle.names_scopes.specs.declared.meant.Meant.{Meant}
use Rattle.names_scopes.specs.declared.meant.Meant.TheVariants as meant
use Rattle.names_scopes.specs.declared.scope.Local.{Local}
use Rattle.names_scopes.specs.declared.scope.Local.TheVariants.{Bound}
use Rattle.names_scopes.specs.Scopes as scopes
use Rattle.names_scopes.specs.Scopes.{bind, bind_bounds, at_sign}
use Rattle.names_scopes.specs.Standing.{IsIn, AreIn, LocalsIn}
use Rattle.names_scopes.proofs.ScopeLemmas.{one_slot}
use Rattle.names_meanings.specs.Around.{Around, IsAround}
use Rattle.names_meanings.specs.Means.{Uses, Stands, Means, MeansEach, MeansOperands, MeansStep, MeansSteps, MeansBounds, MeansFields, MeansChanges, MeansArms, Defines, junction, chain, operands_list, builtin_set}
use Rattle.names_meanings.proofs.AroundLemmas.{meant_in, defined_in}

abbrev TermsBelow : ℕ → List Term → Type 0
TermsBelow n es = (e : Term) → Contains es e → MentionsBelow n e

abbrev PartsBelow : ℕ → List Part → Type 0
PartsBelow n ps = (p : Part) → Contains ps p → MentionsBelow n p.term

no_terms : (n : ℕ) → TermsBelow n []
no_terms n e c = absurd (contains_nothing e c)

term_behind : (n : ℕ) (es : List Term) (e : Term) → TermsBelow n es → MentionsBelow n e → TermsBelow n (es ++ e ∷ [])
term_behind n es e h k x c = elim (Contains-push_cases es e x c) [
  | inl a ↦ h x a
  | inr b ↦ let P : Term → Type 0 = λ y. MentionsBelow n y in subst P b k
]

no_parts : (n : ℕ) → PartsBelow n []
no_parts n p c = absurd (contains_nothing p c)

more_parts : (n : ℕ) (b : Bool) (e : Term) (ps : List Part) → MentionsBelow n e → PartsBelow n ps → PartsBelow n (part b e ∷ ps)
more_parts n b e ps h k p c = elim (contains_cons (part b e) ps p c) [
  | inl s ↦ let P : Part → Type 0 = λ y. MentionsBelow n y.term in subst P s h
  | inr a ↦ k p a
]

one_part : (n : ℕ) (b : Bool) (e : Term) → MentionsBelow n e → PartsBelow n (part b e ∷ [])
one_part n b e h = more_parts n b e [] h (no_parts n)

both_parts : (n : ℕ) (ps qs : List Part) → PartsBelow n ps → PartsBelow n qs → PartsBelow n (ps ++ qs)
both_parts n ps qs h k p c = elim (Contains-append_cases ps qs p c) [ inl a ↦ h p a | inr b ↦ k p b ]

of_terms : (n : ℕ) (b : Bool) (es : List Term) → TermsBelow n es → PartsBelow n (parts_of b es)
of_terms n b [] h = no_parts n
of_terms n b (e ∷ es) h = more_parts n b e (parts_of b es) (h e (contains_head e es)) (of_terms n b es (λ x c. h x (contains_tail e es x c)))

whole_below : (n : ℕ) (e : Term) → IsOwnBelow n (meaning_of e) → PartsBelow n (parts false (meaning_of e)) → (k : ℕ) → Mentions e k → k < n
whole_below n _ own h _ (used at l k ts) = own
whole_below n _ own h _ (listed_in_let at l ks e k c) = own k c
whole_below n _ own h _ (mentioned_in_part at l m p k c w) = h p c k w

row : (n : ℕ) (at : Place) (l : Level) (m : Meaning) (e : Term) → e ≡ Placed at l m → IsOwnBelow n m → PartsBelow n (parts false m) → MentionsBelow n e
row n at l m e q own h = subst (MentionsBelow n) (sym q) (λ k w. whole_below n (Placed at l m) own h k w)

-- names that are bound stand where they stood

bind_in : (n : ℕ) (sc : List Local) (ns : List (List ℕ)) → LocalsIn n sc → LocalsIn n (bind sc ns)
bind_in n sc [] h = h
bind_in n sc (m ∷ ns) h = bind_in n (sc ++ Bound m ∷ []) ns (one_slot n sc m h)

bounds_in : (n : ℕ) (sc : List Local) (bs : tree.Bounds) → LocalsIn n sc → LocalsIn n (bind_bounds sc bs)
bounds_in n sc tree.NoBounds h = h
bounds_in n sc (tree.MoreBounds bs ns e) h = bind_in n (bind_bounds sc bs) ns (bounds_in n sc bs h)

-- rows that are merged

of_meant : (n : ℕ) (w : Meant) (ts : Terms) → IsIn n w → TermsBelow n (listed ts) → IsOwnBelow n (scopes.used w ts) × PartsBelow n (parts false (scopes.used w ts))
of_meant n (meant.Slot i) ts a k = (tt, no_parts n)
of_meant n (meant.Variable x) ts a k = (tt, no_parts n)
of_meant n (meant.Known v) ts a k = (tt, no_parts n)
of_meant n (meant.Set s) ts a k = (tt, no_parts n)
of_meant n (meant.Standard o) ts a k = (tt, of_terms n false (listed ts) k)
of_meant n (meant.Definition d) ts a k = (a, of_terms n false (listed ts) k)

of_operands : (os : term.Operands) → listed (operands_list os) ≡ operand_list os
of_operands (term.First e) = refl
of_operands (term.Next os at e) = ap (λ l. l ++ e ∷ []) (of_operands os)

of_chain : (n : ℕ) (o : InfixOperator) (os : term.Operands) (e : Term) → TermsBelow n (operand_list os) → MentionsBelow n e → IsOwnBelow n (chain o os e) × PartsBelow n (parts false (chain o os e))
of_chain n o os e h k = by_operator o
  where
    all : TermsBelow n (listed (operands_list os) ++ e ∷ [])
    all = term_behind n (listed (operands_list os)) e (subst (TermsBelow n) (sym (of_operands os)) h) k

    by_operator : (o : InfixOperator) → IsOwnBelow n (chain o os e) × PartsBelow n (parts false (chain o os e))
    by_operator infix_operator.And = (tt, of_terms n false (listed (operands_list os) ++ e ∷ []) all)
    by_operator infix_operator.Or = (tt, of_terms n false (listed (operands_list os) ++ e ∷ []) all)
    by_operator p = (tt, both_parts n (parts_of false (operand_list os)) (part false e ∷ []) (of_terms n false (operand_list os) h) (one_part n false e k))

of_junction : (n : ℕ) (b : Bullet) (ts : Terms) → TermsBelow n (listed ts) → IsOwnBelow n (junction b ts) × PartsBelow n (parts false (junction b ts))
of_junction n bullet.And ts h = (tt, of_terms n false (listed ts) h)
of_junction n bullet.Or ts h = (tt, of_terms n false (listed ts) h)

two_parts : (n : ℕ) (b c : Bool) (x y : Term) → MentionsBelow n x → MentionsBelow n y → PartsBelow n (part b x ∷ part c y ∷ [])
two_parts n b c x y h k = more_parts n b x (part c y ∷ []) h (one_part n c y k)

sets_parts : (n : ℕ) (ys : term.Bounds) (x : Term) → TermsBelow n (set_list ys) → MentionsBelow n x → PartsBelow n (parts_of false (set_list ys) ++ part false x ∷ [])
sets_parts n ys x h k = both_parts n (parts_of false (set_list ys)) (part false x ∷ []) (of_terms n false (set_list ys) h) (one_part n false x k)

two_behind : (n : ℕ) (es : List Term) (x y : Term) → TermsBelow n es → MentionsBelow n x → MentionsBelow n y → TermsBelow n (es ++ x ∷ y ∷ [])
two_behind n es x y h k w e c = elim (Contains-append_cases es (x ∷ y ∷ []) e c) [
  | inl a ↦ h e a
  | inr b ↦ elim (contains_cons x (y ∷ []) e b) [
    | inl s ↦ let P : Term → Type 0 = λ z. MentionsBelow n z in subst P s k
    | inr d ↦ elim (contains_cons y [] e d) [
      | inl s ↦ let P : Term → Type 0 = λ z. MentionsBelow n z in subst P s w
      | inr z ↦ absurd (contains_nothing e z)
    ]
  ]
]

number_behind : (n : ℕ) (ks : List ℕ) (k : ℕ) → ((j : ℕ) → Contains ks j → j < n) → k < n → (j : ℕ) → Contains (ks ++ k ∷ []) j → j < n
number_behind n ks k h lt j c = elim (Contains-push_cases ks k j c) [
  | inl a ↦ h j a
  | inr b ↦ let P : ℕ → Type 0 = λ y. y < n in subst P b lt
]

module _ (names : List Entry) (ops : List Operator) (program : AreIn (length ops) names) where
  abbrev Below : Term → Type 0
  Below e = MentionsBelow (length ops) e

  abbrev In : List Local → Type 0
  In sc = LocalsIn (length ops) sc

  at_row : (t : Tree) (m : Meaning) (e : Term) → Stands names ops t m e → IsOwnBelow (length ops) m → PartsBelow (length ops) (parts false m) → Below e
  at_row t m e q own h = row (length ops) _ _ m e q own h

  at_two : (t : Tree) (m : Meaning) (e : Term) → Stands names ops t m e → IsOwnBelow (length ops) m × PartsBelow (length ops) (parts false m) → Below e
  at_two t m e q h = at_row t m e q h.0 h.1

  of_use : (sc : List Local) (m : List ℕ) (ts : Terms) (w : Meaning) → In sc → Uses names sc m ts w → TermsBelow (length ops) (listed ts) → IsOwnBelow (length ops) w × PartsBelow (length ops) (parts false w)
  of_use sc m ts w g h k =
      subst (λ (y : Meaning). IsOwnBelow (length ops) y × PartsBelow (length ops) (parts false y)) (sym h.2) (of_meant (length ops) h.0.meant ts (meant_in (length ops) names sc m h.0 program g h.1) k)

  mutual
    pub means_below : (sc : List Local) (t : Tree) (e : Term) → In sc → Means names ops sc t e → Below e
    means_below sc (tree.Number at z) y g h = at_row (tree.Number at z) (term.Known (integer z)) y h tt (no_parts (length ops))
    means_below sc (tree.Str at s) y g h = at_row (tree.Str at s) (term.Known (string s)) y h tt (no_parts (length ops))
    means_below sc (tree.Truth at b) y g h = at_row (tree.Truth at b) (term.Known (truth b)) y h tt (no_parts (length ops))
    means_below sc (tree.Builtin at b) y g h = at_row (tree.Builtin at b) (term.Named (builtin_set b)) y h tt (no_parts (length ops))
    means_below sc (tree.Name at n) y g h = at_two (tree.Name at n) h.0 y h.2 (of_use sc n term.NoTerms h.0 g h.1 (no_terms (length ops)))
    means_below sc (tree.Call at n es) y g h = at_two (tree.Call at n es) h.1 y h.4 (of_use sc n h.0 h.1 g h.3 (each_below sc es h.0 g h.2))
    means_below sc (tree.Qualified at n es) y g h = at_two (tree.Qualified at n es) h.1 y h.4 (of_use sc n h.0 h.1 g h.3 (each_below sc es h.0 g h.2))
    means_below sc (tree.At at) y g h = at_two (tree.At at) h.0 y h.2 (of_use sc at_sign term.NoTerms h.0 g h.1 (no_terms (length ops)))
    means_below sc (tree.Parenthesized at a) y g h =
        at_row (tree.Parenthesized at a) (term.Parenthesized h.0) y h.2 tt (one_part (length ops) false h.0 (means_below sc a h.0 g h.1))
    means_below sc (tree.Junction at b es) y g h = at_two (tree.Junction at b es) (junction b h.0) y h.2 (of_junction (length ops) b h.0 (each_below sc es h.0 g h.1))
    means_below sc (tree.Prefix at o a) y g h = at_row (tree.Prefix at o a) (term.Prefix o h.0) y h.2 tt (one_part (length ops) _ h.0 (means_below sc a h.0 g h.1))
    means_below sc (tree.Infix at o os a) y g h =
        at_two (tree.Infix at o os a) (chain o h.0 h.1) y h.4 (of_chain (length ops) o h.0 h.1 (operands_below sc os h.0 g h.2) (means_below sc a h.1 g h.3))
    means_below sc (tree.Postfix at a ss s) y g h =
        at_row (tree.Postfix at a ss s) (term.Postfix h.0 h.1 h.2) y h.6 tt (more_parts (length ops) _ h.0 (step_parts false h.2 ++ steps_parts (false || is_prime h.2) h.1) (means_below sc a h.0 g h.3)
        (both_parts (length ops) (step_parts false h.2) (steps_parts (false || is_prime h.2) h.1) (step_below sc s h.2 false g h.5) (steps_below sc ss h.1 (false || is_prime h.2) g h.4)))
    means_below sc (tree.SetOf at es) y g h = at_row (tree.SetOf at es) (term.SetOf h.0) y h.2 tt (of_terms (length ops) false (listed h.0) (each_below sc es h.0 g h.1))
    means_below sc (tree.Filter at n a b) y g h =
        at_row (tree.Filter at n a b) (term.Filter h.0 h.1) y h.4 tt (two_parts (length ops) false false h.0 h.1 (means_below sc a h.0 g h.2) (means_below (sc ++ Bound n ∷ []) b h.1 (one_slot (length ops) sc n g) h.3))
    means_below sc (tree.Map at a bs) y g h =
        at_row (tree.Map at a bs) (term.Map h.0 h.1) y h.4 tt (more_parts (length ops) false h.0 (parts_of false (set_list h.1)) (means_below (bind_bounds sc bs) a h.0 (bounds_in (length ops) sc bs g) h.2) (of_terms (length ops) false (set_list h.1) (bounds_below sc bs h.1 g h.3)))
    means_below sc (tree.Tuple at es) y g h = at_row (tree.Tuple at es) (term.Tuple h.0) y h.2 tt (of_terms (length ops) false (listed h.0) (each_below sc es h.0 g h.1))
    means_below sc (tree.Function at bs a) y g h =
        at_row (tree.Function at bs a) (term.Function h.0 h.1) y h.4 tt (sets_parts (length ops) h.0 h.1 (bounds_below sc bs h.0 g h.2) (means_below (bind_bounds sc bs) a h.1 (bounds_in (length ops) sc bs g) h.3))
    means_below sc (tree.FunctionSet at a b) y g h = at_row (tree.FunctionSet at a b) (term.FunctionSet h.0 h.1) y h.4 tt (two_parts (length ops) false false h.0 h.1 (means_below sc a h.0 g h.2) (means_below sc b h.1 g h.3))
    means_below sc (tree.Record at fs) y g h = at_row (tree.Record at fs) (term.Record h.0) y h.2 tt (of_terms (length ops) false (value_list h.0) (fields_below sc fs h.0 g h.1))
    means_below sc (tree.RecordSet at fs) y g h = at_row (tree.RecordSet at fs) (term.RecordSet h.0) y h.2 tt (of_terms (length ops) false (value_list h.0) (fields_below sc fs h.0 g h.1))
    means_below sc (tree.Except at a cs) y g h =
        at_row (tree.Except at a cs) (term.Except h.0 h.1) y h.4 tt (more_parts (length ops) false h.0 (change_parts false h.1) (means_below sc a h.0 g h.2) (changes_below sc cs h.1 false g h.3))
    means_below sc (tree.Quantified at q bs a) y g h =
        at_row (tree.Quantified at q bs a) (term.Quantified q h.0 h.1) y h.4 tt (sets_parts (length ops) h.0 h.1 (bounds_below sc bs h.0 g h.2) (means_below (bind_bounds sc bs) a h.1 (bounds_in (length ops) sc bs g) h.3))
    means_below sc (tree.Choose at n a b) y g h =
        at_row (tree.Choose at n a b) (term.Choose h.0 h.1) y h.4 tt (two_parts (length ops) false false h.0 h.1 (means_below sc a h.0 g h.2) (means_below (sc ++ Bound n ∷ []) b h.1 (one_slot (length ops) sc n g) h.3))
    means_below sc (tree.If at c a b) y g h =
        at_row (tree.If at c a b) (term.If h.0 h.1 h.2) y h.6 tt (more_parts (length ops) false h.0 (part false h.1 ∷ part false h.2 ∷ []) (means_below sc c h.0 g h.3) (two_parts (length ops) false false h.1 h.2 (means_below sc a h.1 g h.4) (means_below sc b h.2 g h.5)))
    means_below sc (tree.Case at arms) y g h = at_row (tree.Case at arms) (term.Case h.0) y h.2 tt (of_terms (length ops) false (arm_list h.0) (arms_below sc arms h.0 g h.1))
    means_below sc (tree.CaseOther at arms a) y g h =
        at_row (tree.CaseOther at arms a) (term.CaseOther h.0 h.1) y h.4 tt (both_parts (length ops) (parts_of false (arm_list h.0)) (part false h.1 ∷ []) (of_terms (length ops) false (arm_list h.0) (arms_below sc arms h.0 g h.2)) (one_part (length ops) false h.1 (means_below sc a h.1 g h.3)))
    means_below sc (tree.Let at ds a) y g h =
        let d : ((k : ℕ) → Contains h.0 k → k < length ops) × In h.1 = defines_below sc ds h.0 h.1 g h.3 in
        at_row (tree.Let at ds a) (term.Scoped h.0 h.2) y h.5 d.0 (one_part (length ops) false h.2 (means_below h.1 a h.2 d.1 h.4))
    means_below sc (tree.BoxAction at a v) y g h = at_row (tree.BoxAction at a v) (term.BoxAction h.0 h.1) y h.4 tt (two_parts (length ops) false true h.0 h.1 (means_below sc a h.0 g h.2) (means_below sc v h.1 g h.3))
    means_below sc (tree.AngleAction at a v) y g h = at_row (tree.AngleAction at a v) (term.AngleAction h.0 h.1) y h.4 tt (two_parts (length ops) false true h.0 h.1 (means_below sc a h.0 g h.2) (means_below sc v h.1 g h.3))
    means_below sc (tree.Fairness at v a) y g h = at_row (tree.Fairness at v a) (term.Fairness h.0 h.1) y h.4 tt (two_parts (length ops) false false h.0 h.1 (means_below sc v h.0 g h.2) (means_below sc a h.1 g h.3))

    each_below : (sc : List Local) (es : tree.Trees) (ts : Terms) → In sc → MeansEach names ops sc es ts → TermsBelow (length ops) (listed ts)
    each_below sc tree.NoTrees ts g h = subst (λ (y : Terms). TermsBelow (length ops) (listed y)) (sym h) (no_terms (length ops))
    each_below sc (tree.MoreTrees es e) ts g h =
        subst (λ (y : Terms). TermsBelow (length ops) (listed y)) (sym h.2) (term_behind (length ops) (listed h.0) h.1 (each_below sc es h.0 g h.3) (means_below sc e h.1 g h.4))

    operands_below : (sc : List Local) (es : tree.Operands) (ts : term.Operands) → In sc → MeansOperands names ops sc es ts → TermsBelow (length ops) (operand_list ts)
    operands_below sc (tree.First e) ts g h =
        subst (λ (y : term.Operands). TermsBelow (length ops) (operand_list y)) (sym h.1) (term_behind (length ops) [] h.0 (no_terms (length ops)) (means_below sc e h.0 g h.2))
    operands_below sc (tree.Next es at e) ts g h =
        subst (λ (y : term.Operands). TermsBelow (length ops) (operand_list y)) (sym h.2) (term_behind (length ops) (operand_list h.0) h.1 (operands_below sc es h.0 g h.3) (means_below sc e h.1 g h.4))

    step_below : (sc : List Local) (s : tree.Step) (x : term.Step) (b : Bool) → In sc → MeansStep names ops sc s x → PartsBelow (length ops) (step_parts b x)
    step_below sc tree.Prime x b g h = subst (λ (y : term.Step). PartsBelow (length ops) (step_parts b y)) (sym h) (no_parts (length ops))
    step_below sc (tree.Index es) x b g h =
        subst (λ (y : term.Step). PartsBelow (length ops) (step_parts b y)) (sym h.1) (of_terms (length ops) b (listed h.0) (each_below sc es h.0 g h.2))
    step_below sc (tree.Field k) x b g h = subst (λ (y : term.Step). PartsBelow (length ops) (step_parts b y)) (sym h) (no_parts (length ops))

    steps_below : (sc : List Local) (ss : tree.Steps) (xs : term.Steps) (b : Bool) → In sc → MeansSteps names ops sc ss xs → PartsBelow (length ops) (steps_parts b xs)
    steps_below sc tree.NoSteps xs b g h = subst (λ (y : term.Steps). PartsBelow (length ops) (steps_parts b y)) (sym h) (no_parts (length ops))
    steps_below sc (tree.MoreSteps ss at s) xs b g h =
        subst (λ (y : term.Steps). PartsBelow (length ops) (steps_parts b y)) (sym h.2) (both_parts (length ops) (step_parts b h.1) (steps_parts (b || is_prime h.1) h.0) (step_below sc s h.1 b g h.4) (steps_below sc ss h.0 (b || is_prime h.1) g h.3))

    bounds_below : (sc : List Local) (bs : tree.Bounds) (xs : term.Bounds) → In sc → MeansBounds names ops sc bs xs → TermsBelow (length ops) (set_list xs)
    bounds_below sc tree.NoBounds xs g h = subst (λ (y : term.Bounds). TermsBelow (length ops) (set_list y)) (sym h) (no_terms (length ops))
    bounds_below sc (tree.MoreBounds bs ns e) xs g h =
        subst (λ (y : term.Bounds). TermsBelow (length ops) (set_list y)) (sym h.2) (term_behind (length ops) (set_list h.0) h.1 (bounds_below sc bs h.0 g h.3) (means_below sc e h.1 g h.4))

    fields_below : (sc : List Local) (fs : tree.Fields) (xs : term.Fields) → In sc → MeansFields names ops sc fs xs → TermsBelow (length ops) (value_list xs)
    fields_below sc tree.NoFields xs g h = subst (λ (y : term.Fields). TermsBelow (length ops) (value_list y)) (sym h) (no_terms (length ops))
    fields_below sc (tree.MoreFields fs n e) xs g h =
        subst (λ (y : term.Fields). TermsBelow (length ops) (value_list y)) (sym h.2) (term_behind (length ops) (value_list h.0) h.1 (fields_below sc fs h.0 g h.3) (means_below sc e h.1 g h.4))

    changes_below : (sc : List Local) (cs : tree.Changes) (xs : term.Changes) (b : Bool) → In sc → MeansChanges names ops sc cs xs → PartsBelow (length ops) (change_parts b xs)
    changes_below sc tree.NoChanges xs b g h = subst (λ (y : term.Changes). PartsBelow (length ops) (change_parts b y)) (sym h) (no_parts (length ops))
    changes_below sc (tree.MoreChanges cs path e) xs b g h =
        subst (λ (y : term.Changes). PartsBelow (length ops) (change_parts b y)) (sym h.3) (both_parts (length ops) (change_parts b h.0 ++ steps_parts b h.1) (part b h.2 ∷ [])
        (both_parts (length ops) (change_parts b h.0) (steps_parts b h.1) (changes_below sc cs h.0 b g h.4) (steps_below sc path h.1 b g h.5))
        (one_part (length ops) b h.2 (means_below (sc ++ Bound at_sign ∷ []) e h.2 (one_slot (length ops) sc at_sign g) h.6)))

    arms_below : (sc : List Local) (arms : tree.Arms) (xs : term.Arms) → In sc → MeansArms names ops sc arms xs → TermsBelow (length ops) (arm_list xs)
    arms_below sc tree.NoArms xs g h = subst (λ (y : term.Arms). TermsBelow (length ops) (arm_list y)) (sym h) (no_terms (length ops))
    arms_below sc (tree.MoreArms arms c e) xs g h =
        subst (λ (y : term.Arms). TermsBelow (length ops) (arm_list y)) (sym h.3) (two_behind (length ops) (arm_list h.0) h.1 h.2 (arms_below sc arms h.0 g h.4) (means_below sc c h.1 g h.5) (means_below sc e h.2 g h.6))

    defines_below : (sc : List Local) (ds : tree.Definitions) (ks : List ℕ) (inner : List Local) → In sc → Defines names ops sc ds ks inner → ((k : ℕ) → Contains ks k → k < length ops) × In inner
    defines_below sc tree.NoDefinitions ks inner g h =
        (λ k c. let P : List ℕ → Type 0 = λ l. Contains l k in absurd (contains_nothing k (subst P h.0 c)), subst In (sym h.1) g)
    defines_below sc (tree.MoreDefinitions ds n at ps form e) ks inner g h =
        let d : ((k : ℕ) → Contains h.0 k → k < length ops) × In h.1 = defines_below sc ds h.0 h.1 g h.4 in
        let lt : h.2.0 < length ops = item_within ops h.2.0 _ h.6 in
        (λ k c. let P : List ℕ → Type 0 = λ l. Contains l k in number_behind (length ops) h.0 h.2.0 d.0 lt k (subst P h.7 c), subst In (sym h.8) (defined_in (length ops) h.1 n h.2 (length ps) lt d.1))

  -- under parameters
  pub body_below : (sc : List Local) (ps : List (List ℕ)) (t : Tree) (e : Term) → In sc → Means names ops (bind sc ps) t e → Below e
  body_below sc ps t e g h = means_below (bind sc ps) t e (bind_in (length ops) sc ps g) h

-- what stands around, as the code has it
pub inside_below : (names : List Entry) (sc : List Local) (table : List Operator) (a : Around) (ps : List (List ℕ)) (t : Tree) (e : Term) → IsAround names sc table → record { here = record { names = names; scope = sc }; table = table } ≡ a → Means a.here.names a.table (bind a.here.scope ps) t e → MentionsBelow (length table) e
inside_below names sc table a ps t e h q m =
    body_below names table h.program sc ps t e h.around (subst (λ (x : Around). Means x.here.names x.table (bind x.here.scope ps) t e) (sym q) m)
