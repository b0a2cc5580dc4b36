-- What holds everywhere in a term holds of each of its parts; so what it says of each own use of a definition holds of each that is mentioned.
use Rattle.std.proofs.Common.{subst, List, [], ◌∷◌, ◌++◌, inl, inr}
use Rattle.std.specs.Prelude.{◌+◌, ◌||◌, ℕ, suc, Bool, true, false, All, Contains}
use Rattle.std.proofs.lemmas.List.Elements.{All-contains, Contains-append_cases, Contains-push_cases}
use Rattle.base_core.specs.declared.place.Place.{Place}
use Rattle.names_terms.specs.declared.level.Level.{Level}
use Rattle.names_terms.specs.Terms as term
use Rattle.names_terms.specs.Terms.{Term, Meaning, Terms, width}
use Rattle.names_term_parts.specs.Parts.{Part, part, parts, parts_of, listed, operand_list, set_list, value_list, arm_list, is_prime, primes, has_prime, step_parts, steps_parts, change_parts}
use Rattle.names_term_parts.specs.Slots.{Mentions, used, listed_in_let, mentioned_in_part}
use Rattle.names_term_parts.proofs.Contained.{contains_cons, contains_head, contains_tail, contains_nothing}
use Rattle.names_specification_laws.specs.Everywhere.{Everywhere, Inside, InTerms, InOperands, InStep, InSteps, InBounds, InFields, InChanges, InArms}

-- each definition that the row itself uses or lists is such
abbrev pub OwnAre : (ℕ → Type 0) → Meaning → Type 0
OwnAre Q (term.Use k ts) = Q k
OwnAre Q (term.Scoped ks e) = All Q ks
OwnAre Q m = Unit {0}

abbrev pub OwnRows : (ℕ → Type 0) → ℕ → Place → Level → Meaning → Type 0
OwnRows Q i at l m = OwnAre Q m

module _ (P : ℕ → Place → Level → Meaning → Type 0) where
  abbrev Holds : Term → Type 0
  Holds e = (i : ℕ) × Everywhere P i e

  abbrev AllHold : List Term → Type 0
  AllHold es = (e : Term) → Contains es e → Holds e

  abbrev PartsHold : List Part → Type 0
  PartsHold ps = (p : Part) → Contains ps p → Holds p.term

  none_hold : AllHold []
  none_hold e c = absurd (contains_nothing e c)

  one_more : (es : List Term) (e : Term) → AllHold es → Holds e → AllHold (es ++ e ∷ [])
  one_more es e h k x c = elim (Contains-push_cases es e x c) [
    | inl a ↦ h x a
    | inr b ↦ subst (λ (y : Term). Holds y) b k
  ]

  two_more : (es : List Term) (x y : Term) → AllHold es → Holds x → Holds y → AllHold (es ++ x ∷ y ∷ [])
  two_more es x y h k w e c = elim (Contains-append_cases es (x ∷ y ∷ []) e c) [
    | inl a ↦ h e a
    | inr b ↦ elim (contains_cons x (y ∷ []) e b) [
      | inl s ↦ subst (λ (z : Term). Holds z) s k
      | inr d ↦ elim (contains_cons y [] e d) [
        | inl s ↦ subst (λ (z : Term). Holds z) s w
        | inr z ↦ absurd (contains_nothing e z)
      ]
    ]
  ]

  no_parts : PartsHold []
  no_parts p c = absurd (contains_nothing p c)

  more_parts : (b : Bool) (e : Term) (ps : List Part) → Holds e → PartsHold ps → PartsHold (part b e ∷ ps)
  more_parts b e ps h k p c = elim (contains_cons (part b e) ps p c) [
    | inl s ↦ subst (λ (y : Part). Holds y.term) s h
    | inr a ↦ k p a
  ]

  one_part : (b : Bool) (e : Term) → Holds e → PartsHold (part b e ∷ [])
  one_part b e h = more_parts b e [] h no_parts

  two_parts : (b c : Bool) (x y : Term) → Holds x → Holds y → PartsHold (part b x ∷ part c y ∷ [])
  two_parts b c x y h k = more_parts b x (part c y ∷ []) h (one_part c y k)

  both_parts : (ps qs : List Part) → PartsHold ps → PartsHold qs → PartsHold (ps ++ qs)
  both_parts ps qs h k p c = elim (Contains-append_cases ps qs p c) [ inl a ↦ h p a | inr b ↦ k p b ]

  of_list : (b : Bool) (es : List Term) → AllHold es → PartsHold (parts_of b es)
  of_list b [] h = no_parts
  of_list b (e ∷ es) h = more_parts b e (parts_of b es) (h e (contains_head e es)) (of_list b es (λ x c. h x (contains_tail e es x c)))

  terms_hold : (i : ℕ) (ts : Terms) → InTerms P i ts → AllHold (listed ts)
  terms_hold i term.NoTerms h = none_hold
  terms_hold i (term.MoreTerms ts e) h = one_more (listed ts) e (terms_hold i ts h.0) (i, h.1)

  operands_hold : (i : ℕ) (os : term.Operands) → InOperands P i os → AllHold (operand_list os)
  operands_hold i (term.First e) h = one_more [] e none_hold (i, h)
  operands_hold i (term.Next os at e) h = one_more (operand_list os) e (operands_hold i os h.0) (i, h.1)

  sets_hold : (i : ℕ) (bs : term.Bounds) → InBounds P i bs → AllHold (set_list bs)
  sets_hold i term.NoBounds h = none_hold
  sets_hold i (term.MoreBounds bs n e) h = one_more (set_list bs) e (sets_hold i bs h.0) (i, h.1)

  values_hold : (i : ℕ) (fs : term.Fields) → InFields P i fs → AllHold (value_list fs)
  values_hold i term.NoFields h = none_hold
  values_hold i (term.MoreFields fs n e) h = one_more (value_list fs) e (values_hold i fs h.0) (i, h.1)

  arms_hold : (i : ℕ) (arms : term.Arms) → InArms P i arms → AllHold (arm_list arms)
  arms_hold i term.NoArms h = none_hold
  arms_hold i (term.MoreArms arms p e) h = two_more (arm_list arms) p e (arms_hold i arms h.0) (i, h.1) (i, h.2)

  step_holds : (i : ℕ) (b : Bool) (s : term.Step) → InStep P i s → PartsHold (step_parts b s)
  step_holds i b term.Prime h = no_parts
  step_holds i b (term.Index ts) h = of_list b (listed ts) (terms_hold i ts h)
  step_holds i b (term.Field k) h = no_parts

  steps_hold : (i : ℕ) (b : Bool) (ss : term.Steps) → InSteps P i ss → PartsHold (steps_parts b ss)
  steps_hold i b term.NoSteps h = no_parts
  steps_hold i b (term.MoreSteps ss at s) h = both_parts (step_parts b s) (steps_parts (b || is_prime s) ss) (step_holds i b s h.1) (steps_hold i (b || is_prime s) ss h.0)

  changes_hold : (i : ℕ) (b : Bool) (cs : term.Changes) → InChanges P i cs → PartsHold (change_parts b cs)
  changes_hold i b term.NoChanges h = no_parts
  changes_hold i b (term.MoreChanges cs path e) h =
      both_parts (change_parts b cs ++ steps_parts b path) (part b e ∷ []) (both_parts (change_parts b cs) (steps_parts b path) (changes_hold i b cs h.0) (steps_hold i b path h.1)) (one_part b e (suc i, h.2))

  sets_and : (i : ℕ) (bs : term.Bounds) (e : Term) → InBounds P i bs → Everywhere P (i + width bs) e → PartsHold (parts_of false (set_list bs) ++ part false e ∷ [])
  sets_and i bs e h k = both_parts (parts_of false (set_list bs)) (part false e ∷ []) (of_list false (set_list bs) (sets_hold i bs h)) (one_part false e (i + width bs, k))

  pub parts_hold : (i : ℕ) (m : Meaning) → Inside P i m → PartsHold (parts false m)
  parts_hold i (term.Known v) h = no_parts
  parts_hold i (term.Named s) h = no_parts
  parts_hold i (term.Variable x) h = no_parts
  parts_hold i (term.Slot j) h = no_parts
  parts_hold i (term.Use k ts) h = of_list false (listed ts) (terms_hold i ts h)
  parts_hold i (term.Standard o ts) h = of_list false (listed ts) (terms_hold i ts h)
  parts_hold i (term.Parenthesized e) h = one_part false e (i, h)
  parts_hold i (term.Scoped ks e) h = one_part false e (i, h)
  parts_hold i (term.All ts) h = of_list false (listed ts) (terms_hold i ts h)
  parts_hold i (term.Any ts) h = of_list false (listed ts) (terms_hold i ts h)
  parts_hold i (term.Prefix o e) h = one_part (false || primes o) e (i, h)
  parts_hold i (term.Infix o os e) h = both_parts (parts_of false (operand_list os)) (part false e ∷ []) (of_list false (operand_list os) (operands_hold i os h.0)) (one_part false e (i, h.1))
  parts_hold i (term.Postfix e ss s) h =
      more_parts ((false || is_prime s) || has_prime ss) e (step_parts false s ++ steps_parts (false || is_prime s) ss) (i, h.0)
      (both_parts (step_parts false s) (steps_parts (false || is_prime s) ss) (step_holds i false s h.2) (steps_hold i (false || is_prime s) ss h.1))
  parts_hold i (term.SetOf ts) h = of_list false (listed ts) (terms_hold i ts h)
  parts_hold i (term.Filter s e) h = two_parts false false s e (i, h.0) (suc i, h.1)
  parts_hold i (term.Map e bs) h = more_parts false e (parts_of false (set_list bs)) (i + width bs, h.0) (of_list false (set_list bs) (sets_hold i bs h.1))
  parts_hold i (term.Tuple ts) h = of_list false (listed ts) (terms_hold i ts h)
  parts_hold i (term.Function bs e) h = sets_and i bs e h.0 h.1
  parts_hold i (term.FunctionSet s e) h = two_parts false false s e (i, h.0) (i, h.1)
  parts_hold i (term.Record fs) h = of_list false (value_list fs) (values_hold i fs h)
  parts_hold i (term.RecordSet fs) h = of_list false (value_list fs) (values_hold i fs h)
  parts_hold i (term.Except e cs) h = more_parts false e (change_parts false cs) (i, h.0) (changes_hold i false cs h.1)
  parts_hold i (term.Quantified q bs e) h = sets_and i bs e h.0 h.1
  parts_hold i (term.Choose s e) h = two_parts false false s e (i, h.0) (suc i, h.1)
  parts_hold i (term.If p e f) h = more_parts false p (part false e ∷ part false f ∷ []) (i, h.0) (two_parts false false e f (i, h.1) (i, h.2))
  parts_hold i (term.Case arms) h = of_list false (arm_list arms) (arms_hold i arms h)
  parts_hold i (term.CaseOther arms e) h = both_parts (parts_of false (arm_list arms)) (part false e ∷ []) (of_list false (arm_list arms) (arms_hold i arms h.0)) (one_part false e (i, h.1))
  parts_hold i (term.BoxAction e v) h = two_parts false true e v (i, h.0) (i, h.1)
  parts_hold i (term.AngleAction e v) h = two_parts false true e v (i, h.0) (i, h.1)
  parts_hold i (term.Fairness v e) h = two_parts false false v e (i, h.0) (i, h.1)

-- each definition that is mentioned is used or listed by some row
pub mentioned_are : (Q : ℕ → Type 0) (e : Term) (k : ℕ) → Mentions e k → (i : ℕ) → Everywhere (OwnRows Q) i e → Q k
mentioned_are Q _ _ (used at l k ts) i h = h.0
mentioned_are Q _ _ (listed_in_let at l ks e k c) i h = All-contains Q ks k h.0 c
mentioned_are Q _ _ (mentioned_in_part at l m p k c w) i h =
    let r : (j : ℕ) × Everywhere (OwnRows Q) j p.term = parts_hold (OwnRows Q) i m h.1 p c in
    mentioned_are Q p.term k w r.0 r.1
