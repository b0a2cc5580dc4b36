-- A text on the way: what is found, and what waits on the stack.
use Rattle.std.proofs.Common.{◌≡◌, ◌∙◌, sym, ap, refl, List, [], ◌∷◌, ◌++◌, inl, inr, subst, arith, ◌<◌}
use Rattle.std.specs.Prelude.{◌⊎◌, ℕ, true, false, Option, Some, None, Contains, MatchOption}
use Rattle.std.proofs.lemmas.List.Elements.{Contains-append_left, Contains-append_right, Contains-append_cases, Contains-push, Contains-push_cases}
use Rattle.names_terms.specs.declared.operator.Operator.{Operator}
use Rattle.names_terms.specs.Terms.{Term}
use Rattle.names_term_parts.specs.declared.fault.LevelFault.{LevelFault}
use Rattle.names_term_levels.specs.declared.note.Note.{Note}
use Rattle.names_term_parts.specs.FaultOrder.{is_before}
use Rattle.names_term_levels.specs.Faults.{IsFirst}
use Rattle.names_term_levels.specs.Findings.{Finding, Standing, Under, Wrong, Says, Finds, Reads, IsTold, IsOnTheWay}
use Rattle.names_term_levels.specs.Told.{IsFaultBy}
use Rattle.names_term_parts.specs.Marks.{has}
use Rattle.names_term_parts.specs.Parts.{Part, part}
use Rattle.names_term_parts.specs.Slots.{MentionsBelow}
use Rattle.names_term_parts.specs.Weights.{total}
use Rattle.names_term_parts.proofs.Contained.{contains_cons, contains_head, contains_nothing}
use Rattle.names_term_parts.proofs.Weights.{total-append, total-cons, total-nil}

alone : (p q : Part) → Contains (p ∷ []) q → p ≡ q
alone p q c = elim (contains_cons p [] q c) [ inl e ↦ e | inr k ↦ absurd (contains_nothing q k) ]

says_nothing : (n : Note) (x : Finding) → n.occurs ≡ [] → n.primed ≡ [] → n.fault ≡ None → Says n x → ⊥
says_nothing n (Standing i) a b c h = let q : false ≡ true = ap (λ ms. has ms i) (sym a) ∙ h in absurd (cc)
says_nothing n (Under i) a b c h = let q : false ≡ true = ap (λ ms. has ms i) (sym b) ∙ h in absurd (cc)
says_nothing n (Wrong f) a b c h = let q : None ≡ Some f = sym c ∙ h in absurd (cc)

pub begins : (ops : List Operator) (ns : List Note) (known : ℕ) (p : Part) (stack : List Part) (n : Note) → stack ≡ p ∷ [] → n.occurs ≡ [] → n.primed ≡ [] → n.fault ≡ None → MentionsBelow known p.term → IsOnTheWay ops ns known p stack n
begins ops ns known p stack n q a b c below = subst (λ (ps : List Part). IsOnTheWay ops ns known p ps n) (sym q) record {
  all = λ x h. inr (p, contains_head p [], h);
  sound = λ x h. absurd (says_nothing n x a b c h);
  rest = λ x h. let P : Part → Type 0 = λ y. Finds ops ns y x in subst P (sym (alone p h.0 h.1)) h.2;
  below = λ y k. let P : Part → Type 0 = λ z. MentionsBelow known z.term in subst P (alone p y k) below;
}

pub goes_on : (ops : List Operator) (ns : List Note) (known : ℕ) (e p : Part) (stack left after : List Part) (old new : Note) → stack ≡ left ++ p ∷ [] → Reads ops ns known p left after old new → IsOnTheWay ops ns known e stack old → IsOnTheWay ops ns known e after new
goes_on ops ns known e p stack left after old new popped (pushed, q, step) way = subst (λ (ps : List Part). IsOnTheWay ops ns known e ps new) (sym q) record {
  all = λ x h. elim (way.all x h) [
    | inl u ↦ inl (step.kept x u)
    | inr u ↦ elim (in_stack u.0 u.1) [
      | inl c ↦ inr (u.0, Contains-append_left left pushed u.0 c, u.2)
      | inr k ↦ elim (step.all x (let P : Part → Type 0 = λ y. Finds ops ns y x in subst P (sym k) u.2)) [
        | inl v ↦ inl v
        | inr v ↦ inr (v.0, Contains-append_right left pushed v.0 v.1, v.2)
      ]
    ]
  ];
  sound = λ x h. elim (step.sound x h) [ inl u ↦ way.sound x u | inr u ↦ way.rest x (p, at_top, u) ];
  rest = λ x h. elim (Contains-append_cases left pushed h.0 h.1) [
    | inl c ↦ way.rest x (h.0, below_top h.0 c, h.2)
    | inr c ↦ way.rest x (p, at_top, step.rest x (h.0, c, h.2))
  ];
  below = λ y c. elim (Contains-append_cases left pushed y c) [ inl k ↦ way.below y (below_top y k) | inr k ↦ step.below y k ];
}
  where
    in_stack : (y : Part) → Contains stack y → Contains left y ⊎ (p ≡ y)
    in_stack y c = let P : List Part → Type 0 = λ ps. Contains ps y in Contains-push_cases left p y (subst P popped c)

    at_top : Contains stack p
    at_top = let P : List Part → Type 0 = λ ps. Contains ps p in subst P (sym popped) (Contains-push left p)

    below_top : (y : Part) → Contains left y → Contains stack y
    below_top y c = let P : List Part → Type 0 = λ ps. Contains ps y in subst P (sym popped) (Contains-append_left left (p ∷ []) y c)

pub top_below : (ops : List Operator) (ns : List Note) (known : ℕ) (e p : Part) (stack left : List Part) (n : Note) → stack ≡ left ++ p ∷ [] → IsOnTheWay ops ns known e stack n → MentionsBelow known p.term
top_below ops ns known e p stack left n popped way = let P : List Part → Type 0 = λ ps. Contains ps p in way.below p (subst P (sym popped) (Contains-push left p))

pub gets_less : (ops : List Operator) (ns : List Note) (known : ℕ) (p : Part) (stack left after : List Part) (old new : Note) → stack ≡ left ++ p ∷ [] → Reads ops ns known p left after old new → total after < total stack
gets_less ops ns known p stack left after old new popped (pushed, q, step) =
    omega (arith, ap total q, ap total popped, total-append left pushed, total-append left (p ∷ []), total-cons p [], total-nil, step.falls)

fault_told : (ops : List Operator) (ns : List Note) (known : ℕ) (e : Term) (n : Note) (o : Option LevelFault) → n.fault ≡ o → IsOnTheWay ops ns known (part false e) [] n → MatchOption o ((f : LevelFault) → ¬ IsFaultBy ops ns e f) (IsFirst (IsFaultBy ops ns e))
fault_told ops ns known e n None q way = λ f w. elim (way.all (Wrong f) w) [
  | inl r ↦ let k : None ≡ Some r.0 = sym q ∙ r.1 in absurd (cc)
  | inr r ↦ contains_nothing r.0 r.1
]
fault_told ops ns known e n (Some g) q way = record {
  is_such = way.sound (Wrong g) q;
  none_before = λ h w. elim (way.all (Wrong h) w) [
    | inl r ↦ let k : Some r.0 ≡ Some g = sym r.1 ∙ q in let same : r.0 ≡ g = cc in ap (λ y. is_before h y) (sym same) ∙ r.2
    | inr r ↦ absurd (contains_nothing r.0 r.1)
  ];
}

pub is_told : (ops : List Operator) (ns : List Note) (known : ℕ) (e : Term) (stack : List Part) (n : Note) → stack ≡ [] → IsOnTheWay ops ns known (part false e) stack n → IsTold ops ns e n
is_told ops ns known e stack n q way_there =
    let way : IsOnTheWay ops ns known (part false e) [] n = subst (λ (ps : List Part). IsOnTheWay ops ns known (part false e) ps n) q way_there in
    record {
      occurs = λ i. ((λ h. way.sound (Standing i) h), (λ w. elim (way.all (Standing i) w) [ inl h ↦ h | inr r ↦ absurd (contains_nothing r.0 r.1) ]));
      primed = λ i. ((λ h. elim (way.sound (Under i) h) [ inl w ↦ w | inr r ↦ let k : false ≡ true = r.0 in absurd (cc) ]), (λ w. elim (way.all (Under i) (inl w)) [ inl h ↦ h | inr r ↦ absurd (contains_nothing r.0 r.1) ]));
      fault = fault_told ops ns known e n n.fault refl way;
    }
