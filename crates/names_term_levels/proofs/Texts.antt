-- A text is read term by term: what a term finds is its own, or is found in its parts.
use Rattle.std.proofs.Common.{◌≡◌, ◌∙◌, sym, ap, refl, List, [], ◌∷◌, ◌++◌, inl, inr, subst, arith, ◌<◌, zero-add, add-zero, append_assoc}
use Rattle.std.specs.Prelude.{◌⊎◌, ℕ, zero, suc, Bool, true, false, Some, Contains, IsTrue, slice_get, ◌+◌, ◌||◌}
use Rattle.base_core.specs.declared.place.Place.{Place}
use Rattle.names_terms.specs.declared.level.Level.{Level}
use Rattle.names_terms.specs.declared.operator.Operator.{Operator}
use Rattle.names_terms.specs.Terms as term
use Rattle.names_terms.specs.Terms.{Term, Terms, Placed, Meaning, place_of, meaning_of}
use Rattle.names_terms.specs.TermViews.{terms_from, terms_of}
use Rattle.std.proofs.lemmas.List.{append-nil}
use Rattle.names_term_parts.specs.declared.fault.LevelFault.{LevelFault}
use Rattle.names_term_levels.specs.declared.note.Note.{Note}
use Rattle.names_term_levels.specs.Findings.{Finding, Standing, Under, Wrong, Finds, Adds, LimitFinds, SlotFinds, NamedFinds, LetsFind, ArgumentFinds, SomeOf, IsRead, Reads, ReadsUse}
use Rattle.names_term_parts.specs.Marks.{has}
use Rattle.names_term_parts.specs.Parts.{Part, part, parts, parts_of, listed}
use Rattle.names_term_parts.specs.Slots.{Mentions, listed_in_let, mentioned_in_part, used, MentionsBelow}
use Rattle.names_term_parts.specs.Special.{IsOther}
use Rattle.names_term_levels.specs.Arguments.{arguments_from}
use Rattle.names_term_levels.specs.Told.{IsNoted, OccursBy, itself, occurs_in_part, occurs_in_let, occurs_where_used, IsPrimedBy, under, primed_in_part, in_argument, primed_in_let, primed_where_used, IsFaultBy, too_high, primed_argument, in_part, of_let}
use Rattle.names_term_parts.specs.Weights.{weight, total}
use Rattle.names_term_levels.proofs.Adds.{adds_both}
use Rattle.names_term_parts.proofs.Contained.{contains_cons, contains_head, contains_tail, contains_nothing}
use Rattle.names_term_parts.proofs.Marks.{or_cases, or_left, or_right}
use Rattle.names_term_parts.proofs.Under.{part_under, part_over}
use Rattle.names_term_parts.proofs.Weights.{of_parts, total-cons, total-nil}

-- The parts.
part_finds : (ops : List Operator) (ns : List Note) (b : Bool) (at : Place) (l : Level) (m : Meaning) (x : Finding) → SomeOf (parts b m) (λ q. Finds ops ns q x) → Finds ops ns (part b (Placed at l m)) x
part_finds ops ns b at l m (Standing i) (q, c, w) =
    let u : (p : Part) × Contains (parts false m) p × (q.term ≡ p.term) × (q.primed ≡ (b || p.primed)) = part_over b m q c in
    let P : Term → Type 0 = λ t. OccursBy ops ns t i in
    occurs_in_part at l m u.0 i u.1 (subst P u.2 w)
part_finds ops ns b at l m (Under i) (q, c, w) =
    let u : (p : Part) × Contains (parts false m) p × (q.term ≡ p.term) × (q.primed ≡ (b || p.primed)) = part_over b m q c in
    let P : Term → Type 0 = λ t. OccursBy ops ns t i in
    let Q : Term → Type 0 = λ t. IsPrimedBy ops ns t i in
    elim w [
      | inl primed ↦ inl (primed_in_part at l m u.0 i u.1 (subst Q u.2 primed))
      | inr below ↦ elim (or_cases b u.0.primed (sym u.3 ∙ below.0)) [
        | inl above ↦ inr (above, occurs_in_part at l m u.0 i u.1 (subst P u.2 below.1))
        | inr own ↦ inl (under at l m u.0 i u.1 own (subst P u.2 below.1))
      ]
    ]
part_finds ops ns b at l m (Wrong f) (q, c, w) =
    let u : (p : Part) × Contains (parts false m) p × (q.term ≡ p.term) × (q.primed ≡ (b || p.primed)) = part_over b m q c in
    let P : Term → Type 0 = λ t. IsFaultBy ops ns t f in
    in_part at l m u.0 f u.1 (subst P u.2 w)

-- what a part finds as it stands there
in_parts : (ops : List Operator) (ns : List Note) (b : Bool) (m : Meaning) (p : Part) (x : Finding) → Contains (parts false m) p → Finds ops ns (part (b || p.primed) p.term) x → SomeOf (parts b m) (λ q. Finds ops ns q x)
in_parts ops ns b m p x c w = (part (b || p.primed) p.term, part_under b m p c, w)

part_below : (n : ℕ) (b : Bool) (at : Place) (l : Level) (m : Meaning) → MentionsBelow n (Placed at l m) → (q : Part) → Contains (parts b m) q → MentionsBelow n q.term
part_below n b at l m below q c k w =
    let u : (p : Part) × Contains (parts false m) p × (q.term ≡ p.term) × (q.primed ≡ (b || p.primed)) = part_over b m q c in
    let P : Term → Type 0 = λ t. Mentions t k in
    below k (mentioned_in_part at l m u.0 k u.1 (subst P u.2 w))

part_falls : (b : Bool) (at : Place) (l : Level) (m : Meaning) → total (parts b m) < weight (Placed at l m)
part_falls b at l m = omega (arith, of_parts b m)

-- What is a term's own.
limit_finds : (ops : List Operator) (ns : List Note) (b : Bool) (at : Place) (l : Level) (m : Meaning) (x : Finding) → LimitFinds at m x → Finds ops ns (part b (Placed at l m)) x
limit_finds ops ns b at l m (Standing i) h = absurd h
limit_finds ops ns b at l m (Under i) h = absurd h
limit_finds ops ns b at l m (Wrong f) (y, c, t, q) = let P : LevelFault → Type 0 = λ g. IsFaultBy ops ns (Placed at l m) g in subst P (sym q) (too_high at l m y c t)

slot_finds : (ops : List Operator) (ns : List Note) (b : Bool) (at : Place) (l : Level) (i : ℕ) (x : Finding) → SlotFinds i b x → Finds ops ns (part b (Placed at l (term.Slot i))) x
slot_finds ops ns b at l i (Standing j) q = let P : ℕ → Type 0 = λ n. OccursBy ops ns (Placed at l (term.Slot i)) n in subst P (sym q) (itself at l i)
slot_finds ops ns b at l i (Under j) (t, q) = let P : ℕ → Type 0 = λ n. OccursBy ops ns (Placed at l (term.Slot i)) n in inr (t, subst P (sym q) (itself at l i))
slot_finds ops ns b at l i (Wrong f) h = absurd h

named_finds : (ops : List Operator) (ns : List Note) (b : Bool) (at : Place) (l : Level) (k : ℕ) (ts : Terms) (x : Finding) → NamedFinds ops ns b k x → Finds ops ns (part b (Placed at l (term.Use k ts))) x
named_finds ops ns b at l k ts (Standing i) (o, y, is, lt, w) = occurs_where_used at l k ts o y i is lt w
named_finds ops ns b at l k ts (Under i) (o, y, is, lt, w) = elim w [ inl u ↦ inl (primed_where_used at l k ts o y i is lt u) | inr u ↦ inr (u.0, occurs_where_used at l k ts o y i is lt u.1) ]
named_finds ops ns b at l k ts (Wrong f) h = absurd h

lets_find : (ops : List Operator) (ns : List Note) (b : Bool) (at : Place) (l : Level) (ks : List ℕ) (e : Term) (x : Finding) → LetsFind ops ns b ks x → Finds ops ns (part b (Placed at l (term.Scoped ks e))) x
lets_find ops ns b at l ks e (Standing i) (k, c, (o, y, is, lt, w)) = occurs_in_let at l ks e k o y i c is lt w
lets_find ops ns b at l ks e (Under i) (k, c, (o, y, is, lt, w)) = elim w [ inl u ↦ inl (primed_in_let at l ks e k o y i c is lt u) | inr u ↦ inr (u.0, occurs_in_let at l ks e k o y i c is lt u.1) ]
lets_find ops ns b at l ks e (Wrong f) (k, c, (y, is, w)) = of_let at l ks e k y f c is w

-- What is found in a term that is no slot, no use and no LET.
other_occurs : (ops : List Operator) (ns : List Note) (b : Bool) (e : Term) (i : ℕ) → IsOther (meaning_of e) → OccursBy ops ns e i → SomeOf (parts b (meaning_of e)) (λ q. Finds ops ns q (Standing i))
other_occurs ops ns b _ _ other (itself at l i) = absurd other
other_occurs ops ns b _ _ other (occurs_in_part at l m p i c w) = in_parts ops ns b m p (Standing i) c w
other_occurs ops ns b _ _ other (occurs_in_let at l ks e k o y i c is lt w) = absurd other
other_occurs ops ns b _ _ other (occurs_where_used at l k ts o y i is lt w) = absurd other

other_above : (ops : List Operator) (ns : List Note) (b : Bool) (e : Term) (i : ℕ) → IsOther (meaning_of e) → b ≡ true → OccursBy ops ns e i → SomeOf (parts b (meaning_of e)) (λ q. Finds ops ns q (Under i))
other_above ops ns b _ _ other t (itself at l i) = absurd other
other_above ops ns b _ _ other t (occurs_in_part at l m p i c w) = in_parts ops ns b m p (Under i) c (inr (or_left b p.primed t, w))
other_above ops ns b _ _ other t (occurs_in_let at l ks e k o y i c is lt w) = absurd other
other_above ops ns b _ _ other t (occurs_where_used at l k ts o y i is lt w) = absurd other

other_primed : (ops : List Operator) (ns : List Note) (b : Bool) (e : Term) (i : ℕ) → IsOther (meaning_of e) → IsPrimedBy ops ns e i → SomeOf (parts b (meaning_of e)) (λ q. Finds ops ns q (Under i))
other_primed ops ns b _ _ other (under at l m p i c own w) = in_parts ops ns b m p (Under i) c (inr (or_right b p.primed own, w))
other_primed ops ns b _ _ other (primed_in_part at l m p i c w) = in_parts ops ns b m p (Under i) c (inl w)
other_primed ops ns b _ _ other (in_argument at l k ts o y j e i is nth h w) = absurd other
other_primed ops ns b _ _ other (primed_in_let at l ks e k o y i c is lt w) = absurd other
other_primed ops ns b _ _ other (primed_where_used at l k ts o y i is lt w) = absurd other

other_fault : (ops : List Operator) (ns : List Note) (b : Bool) (e : Term) (f : LevelFault) → IsOther (meaning_of e) → IsFaultBy ops ns e f → LimitFinds (place_of e) (meaning_of e) (Wrong f) ⊎ SomeOf (parts b (meaning_of e)) (λ q. Finds ops ns q (Wrong f))
other_fault ops ns b _ _ other (too_high at l m y c t) = inl (y, c, t, refl)
other_fault ops ns b _ _ other (primed_argument at l k ts o y j e is nth h t) = absurd other
other_fault ops ns b _ _ other (in_part at l m p f c w) = inr (in_parts ops ns b m p (Wrong f) c w)
other_fault ops ns b _ _ other (of_let at l ks e k y f c is w) = absurd other

all_other : (ops : List Operator) (ns : List Note) (b : Bool) (at : Place) (l : Level) (m : Meaning) (x : Finding) → IsOther m → Finds ops ns (part b (Placed at l m)) x → LimitFinds at m x ⊎ SomeOf (parts b m) (λ q. Finds ops ns q x)
all_other ops ns b at l m (Standing i) other h = inr (other_occurs ops ns b (Placed at l m) i other h)
all_other ops ns b at l m (Under i) other h = elim h [ inl w ↦ inr (other_primed ops ns b (Placed at l m) i other w) | inr w ↦ inr (other_above ops ns b (Placed at l m) i other w.0 w.1) ]
all_other ops ns b at l m (Wrong f) other h = other_fault ops ns b (Placed at l m) f other h

-- One piece and the next.
adds_sum : (P Q : Finding → Type 0) (a b c : Note) → Adds P a b → Adds Q b c → Adds (λ x. P x ⊎ Q x) a c
adds_sum P Q a b c p q = adds_both P Q (λ x. P x ⊎ Q x) a b c (λ x h. h) (λ x h. inl h) (λ x h. inr h) p q

pub read_other : (ops : List Operator) (ns : List Note) (n : ℕ) (b : Bool) (at : Place) (l : Level) (m : Meaning) (e : Term) (old new : Note) → Placed at l m ≡ e → IsOther m → MentionsBelow n e → Adds (LimitFinds at m) old new → IsRead ops ns n (part b e) (parts b m) old new
read_other ops ns n b at l m e old new q other below adds = subst (λ (t : Term). IsRead ops ns n (part b t) (parts b m) old new) q record {
  kept = adds.kept;
  all = λ x h. elim (all_other ops ns b at l m x other h) [ inl u ↦ inl (adds.told x u) | inr u ↦ inr u ];
  sound = λ x h. elim (adds.sound x h) [ inl u ↦ inl u | inr u ↦ inr (limit_finds ops ns b at l m x u) ];
  rest = part_finds ops ns b at l m;
  below = part_below n b at l m (let P : Term → Type 0 = MentionsBelow n in subst P (sym q) below);
  falls = part_falls b at l m;
}

-- A slot.
slot_is : (ops : List Operator) (ns : List Note) (at : Place) (l : Level) (i j : ℕ) → OccursBy ops ns (Placed at l (term.Slot i)) j → j ≡ i
slot_is ops ns _ _ _ _ (itself at l i) = refl
slot_is ops ns _ _ _ _ (occurs_in_part at l m p j c w) = absurd (contains_nothing p c)

no_slot_primed : (ops : List Operator) (ns : List Note) (at : Place) (l : Level) (i j : ℕ) → IsPrimedBy ops ns (Placed at l (term.Slot i)) j → ⊥
no_slot_primed ops ns _ _ _ _ (under at l m p j c own w) = contains_nothing p c
no_slot_primed ops ns _ _ _ _ (primed_in_part at l m p j c w) = contains_nothing p c

no_slot_fault : (ops : List Operator) (ns : List Note) (at : Place) (l : Level) (i : ℕ) (f : LevelFault) → IsFaultBy ops ns (Placed at l (term.Slot i)) f → ⊥
no_slot_fault ops ns _ _ _ _ (too_high at l m y c t) = contains_nothing y c
no_slot_fault ops ns _ _ _ _ (in_part at l m p f c w) = contains_nothing p c

all_slot : (ops : List Operator) (ns : List Note) (b : Bool) (at : Place) (l : Level) (i : ℕ) (x : Finding) → Finds ops ns (part b (Placed at l (term.Slot i))) x → SlotFinds i b x
all_slot ops ns b at l i (Standing j) h = slot_is ops ns at l i j h
all_slot ops ns b at l i (Under j) h = elim h [ inl w ↦ absurd (no_slot_primed ops ns at l i j w) | inr w ↦ (w.0, slot_is ops ns at l i j w.1) ]
all_slot ops ns b at l i (Wrong f) h = absurd (no_slot_fault ops ns at l i f h)

pub read_slot : (ops : List Operator) (ns : List Note) (n : ℕ) (b : Bool) (at : Place) (l : Level) (m : Meaning) (i : ℕ) (e : Term) (old mid new : Note) → Placed at l m ≡ e → m ≡ term.Slot i → Adds (LimitFinds at m) old mid → Adds (SlotFinds i b) mid new → IsRead ops ns n (part b e) [] old new
read_slot ops ns n b at l m i e old mid new q is first second =
    let whole : Placed at l (term.Slot i) ≡ e = ap (Placed at l) (sym is) ∙ q in
    subst (λ (t : Term). IsRead ops ns n (part b t) [] old new) whole record {
      kept = λ x h. second.kept x (first.kept x h);
      all = λ x h. inl (second.told x (all_slot ops ns b at l i x h));
      sound = λ x h. elim (second.sound x h) [
        | inl u ↦ elim (first.sound x u) [ inl v ↦ inl v | inr v ↦ inr (limit_finds ops ns b at l (term.Slot i) x (subst (λ (y : Meaning). LimitFinds at y x) is v)) ]
        | inr u ↦ inr (slot_finds ops ns b at l i x u)
      ];
      rest = λ x h. absurd (contains_nothing h.0 h.1);
      below = λ p c. absurd (contains_nothing p c);
      falls = omega (arith, total-nil);
    }

-- A LET.
let_occurs : (ops : List Operator) (ns : List Note) (b : Bool) (at : Place) (l : Level) (ks : List ℕ) (e : Term) (i : ℕ) → OccursBy ops ns (Placed at l (term.Scoped ks e)) i → LetsFind ops ns b ks (Standing i) ⊎ SomeOf (parts b (term.Scoped ks e)) (λ q. Finds ops ns q (Standing i))
let_occurs ops ns b _ _ _ _ _ (occurs_in_part at l m p i c w) = inr (in_parts ops ns b m p (Standing i) c w)
let_occurs ops ns b _ _ _ _ _ (occurs_in_let at l ks e k o y i c is lt w) = inl (k, c, (o, y, is, lt, w))

let_above : (ops : List Operator) (ns : List Note) (b : Bool) (at : Place) (l : Level) (ks : List ℕ) (e : Term) (i : ℕ) → b ≡ true → OccursBy ops ns (Placed at l (term.Scoped ks e)) i → LetsFind ops ns b ks (Under i) ⊎ SomeOf (parts b (term.Scoped ks e)) (λ q. Finds ops ns q (Under i))
let_above ops ns b _ _ _ _ _ t (occurs_in_part at l m p i c w) = inr (in_parts ops ns b m p (Under i) c (inr (or_left b p.primed t, w)))
let_above ops ns b _ _ _ _ _ t (occurs_in_let at l ks e k o y i c is lt w) = inl (k, c, (o, y, is, lt, inr (t, w)))

let_primed : (ops : List Operator) (ns : List Note) (b : Bool) (at : Place) (l : Level) (ks : List ℕ) (e : Term) (i : ℕ) → IsPrimedBy ops ns (Placed at l (term.Scoped ks e)) i → LetsFind ops ns b ks (Under i) ⊎ SomeOf (parts b (term.Scoped ks e)) (λ q. Finds ops ns q (Under i))
let_primed ops ns b _ _ _ _ _ (under at l m p i c own w) = inr (in_parts ops ns b m p (Under i) c (inr (or_right b p.primed own, w)))
let_primed ops ns b _ _ _ _ _ (primed_in_part at l m p i c w) = inr (in_parts ops ns b m p (Under i) c (inl w))
let_primed ops ns b _ _ _ _ _ (primed_in_let at l ks e k o y i c is lt w) = inl (k, c, (o, y, is, lt, inl w))

let_fault : (ops : List Operator) (ns : List Note) (b : Bool) (at : Place) (l : Level) (ks : List ℕ) (e : Term) (f : LevelFault) → IsFaultBy ops ns (Placed at l (term.Scoped ks e)) f → LetsFind ops ns b ks (Wrong f) ⊎ SomeOf (parts b (term.Scoped ks e)) (λ q. Finds ops ns q (Wrong f))
let_fault ops ns b _ _ _ _ _ (too_high at l m y c t) = absurd (contains_nothing y c)
let_fault ops ns b _ _ _ _ _ (in_part at l m p f c w) = inr (in_parts ops ns b m p (Wrong f) c w)
let_fault ops ns b _ _ _ _ _ (of_let at l ks e k y f c is w) = inl (k, c, (y, is, w))

all_let : (ops : List Operator) (ns : List Note) (b : Bool) (at : Place) (l : Level) (ks : List ℕ) (e : Term) (x : Finding) → Finds ops ns (part b (Placed at l (term.Scoped ks e))) x → LetsFind ops ns b ks x ⊎ SomeOf (parts b (term.Scoped ks e)) (λ q. Finds ops ns q x)
all_let ops ns b at l ks e (Standing i) h = let_occurs ops ns b at l ks e i h
all_let ops ns b at l ks e (Under i) h = elim h [ inl w ↦ let_primed ops ns b at l ks e i w | inr w ↦ let_above ops ns b at l ks e i w.0 w.1 ]
all_let ops ns b at l ks e (Wrong f) h = let_fault ops ns b at l ks e f h

pub read_let : (ops : List Operator) (ns : List Note) (n : ℕ) (b : Bool) (at : Place) (l : Level) (m : Meaning) (ks : List ℕ) (d e : Term) (old mid new : Note) → Placed at l m ≡ e → m ≡ term.Scoped ks d → MentionsBelow n e → Adds (LimitFinds at m) old mid → Adds (LetsFind ops ns b ks) mid new → IsRead ops ns n (part b e) (parts b m) old new
read_let ops ns n b at l m ks d e old mid new q is below first second =
    let whole : Placed at l (term.Scoped ks d) ≡ e = ap (Placed at l) (sym is) ∙ q in
    let under_n : MentionsBelow n (Placed at l (term.Scoped ks d)) = subst (MentionsBelow n) (sym whole) below in
    subst (λ (t : Term). IsRead ops ns n (part b t) (parts b m) old new) whole (subst (λ (y : Meaning). IsRead ops ns n (part b (Placed at l (term.Scoped ks d))) (parts b y) old new) (sym is) record {
      kept = λ x h. second.kept x (first.kept x h);
      all = λ x h. elim (all_let ops ns b at l ks d x h) [ inl u ↦ inl (second.told x u) | inr u ↦ inr u ];
      sound = λ x h. elim (second.sound x h) [
        | inl u ↦ elim (first.sound x u) [ inl v ↦ inl v | inr v ↦ inr (limit_finds ops ns b at l (term.Scoped ks d) x (subst (λ (y : Meaning). LimitFinds at y x) is v)) ]
        | inr u ↦ inr (lets_find ops ns b at l ks d x u)
      ];
      rest = part_finds ops ns b at l (term.Scoped ks d);
      below = part_below n b at l (term.Scoped ks d) under_n;
      falls = part_falls b at l (term.Scoped ks d);
    })

-- A use, and its arguments.
argument_of : (c : Bool) (es : List Term) (p : Part) → Contains (parts_of c es) p → (j : ℕ) × (e : Term) × (slice_get es j ≡ Some e) × (p ≡ part c e)
argument_of c [] p k = absurd (contains_nothing p k)
argument_of c (e ∷ es) p k = elim (contains_cons (part c e) (parts_of c es) p k) [
  | inl q ↦ (zero, e, refl, sym q)
  | inr r ↦ let u : (j : ℕ) × (y : Term) × (slice_get es j ≡ Some y) × (p ≡ part c y) = argument_of c es p r in (suc u.0, u.1, u.2, u.3)
]

argument_at : (primed : List Bool) (outer : ℕ) (b : Bool) (i j : ℕ) (es : List Term) (e : Term) → slice_get es j ≡ Some e → Contains (arguments_from primed outer b i es) (part (b || has primed (outer + (i + j))) e)
argument_at primed outer b i j [] e q = absurd (cc)
argument_at primed outer b i zero (x ∷ es) e q =
    let same : x ≡ e = cc in
    let P : Part → Type 0 = λ p. Contains (part (b || has primed (outer + i)) x ∷ arguments_from primed outer b (i + 1) es) p in
    subst P (ap (λ y. part (b || has primed (outer + i)) y) same ∙ ap (λ n. part (b || has primed (outer + n)) e) (sym (add-zero i))) (contains_head (part (b || has primed (outer + i)) x) (arguments_from primed outer b (i + 1) es))
argument_at primed outer b i (suc j) (x ∷ es) e q =
    let shifted : (i + 1) + j ≡ i + suc j = omega arith in
    let P : ℕ → Type 0 = λ n. Contains (part (b || has primed (outer + i)) x ∷ arguments_from primed outer b (i + 1) es) (part (b || has primed (outer + n)) e) in
    subst P shifted (contains_tail (part (b || has primed (outer + i)) x) (arguments_from primed outer b (i + 1) es) (part (b || has primed (outer + ((i + 1) + j))) e) (argument_at primed outer b (i + 1) j es e q))

argument_out : (primed : List Bool) (outer : ℕ) (b : Bool) (i : ℕ) (es : List Term) (p : Part) → Contains (arguments_from primed outer b i es) p → (j : ℕ) × (e : Term) × (slice_get es j ≡ Some e) × (p ≡ part (b || has primed (outer + (i + j))) e)
argument_out primed outer b i [] p k = absurd (contains_nothing p k)
argument_out primed outer b i (x ∷ es) p k = elim (contains_cons (part (b || has primed (outer + i)) x) (arguments_from primed outer b (i + 1) es) p k) [
  | inl q ↦ (zero, x, refl, sym q ∙ ap (λ n. part (b || has primed (outer + n)) x) (sym (add-zero i)))
  | inr r ↦
      let u : (j : ℕ) × (e : Term) × (slice_get es j ≡ Some e) × (p ≡ part (b || has primed (outer + ((i + 1) + j))) e) = argument_out primed outer b (i + 1) es p r in
      let shifted : (i + 1) + u.0 ≡ i + suc u.0 = omega arith in
      (suc u.0, u.1, u.2, u.3 ∙ ap (λ n. part (b || has primed (outer + n)) u.1) shifted)
]

pub plain_at : (es : List Term) (j : ℕ) (e : Term) → slice_get es j ≡ Some e → Contains (parts_of false es) (part false e)
plain_at [] j e q = absurd (cc)
plain_at (x ∷ es) zero e q =
    let same : x ≡ e = cc in
    let P : Part → Type 0 = λ p. Contains (part false x ∷ parts_of false es) p in
    subst P (ap (part false) same) (contains_head (part false x) (parts_of false es))
plain_at (x ∷ es) (suc j) e q = contains_tail (part false x) (parts_of false es) (part false e) (plain_at es j e q)

arguments_fall : (primed : List Bool) (outer : ℕ) (b c : Bool) (i : ℕ) (es : List Term) → total (arguments_from primed outer b i es) ≡ total (parts_of c es)
arguments_fall primed outer b c i [] = refl
arguments_fall primed outer b c i (e ∷ es) = omega (arith, total-cons (part (b || has primed (outer + i)) e) (arguments_from primed outer b (i + 1) es), total-cons (part c e) (parts_of c es), arguments_fall primed outer b c (i + 1) es)

-- one definition and one note have a number
marked_there : (ops : List Operator) (ns : List Note) (k j : ℕ) (o p : Operator) (y z : Note) → IsNoted ops ns k o y → IsNoted ops ns k p z → IsTrue (has z.primed (p.outer + j)) → IsTrue (has y.primed (o.outer + j))
marked_there ops ns k j o p y z here there h =
    let same : p ≡ o = cc (there.is, here.is) in
    let one : z ≡ y = cc (there.told, here.told) in
    let P : Operator → Type 0 = λ q. IsTrue (has z.primed (q.outer + j)) in
    let Q : Note → Type 0 = λ n. IsTrue (has n.primed (o.outer + j)) in
    subst Q one (subst P same h)

pushed_argument : (ops : List Operator) (ns : List Note) (b : Bool) (primed : List Bool) (outer : ℕ) (es : List Term) (j : ℕ) (e : Term) (x : Finding) → slice_get es j ≡ Some e → Finds ops ns (part (b || has primed (outer + (0 + j))) e) x → SomeOf (arguments_from primed outer b 0 es) (λ q. Finds ops ns q x)
pushed_argument ops ns b primed outer es j e x q w = (part (b || has primed (outer + (0 + j))) e, argument_at primed outer b 0 j es e q, w)

use_occurs : (ops : List Operator) (ns : List Note) (b : Bool) (at : Place) (l : Level) (k : ℕ) (ts : Terms) (o : Operator) (y : Note) (i : ℕ) → OccursBy ops ns (Placed at l (term.Use k ts)) i → NamedFinds ops ns b k (Standing i) ⊎ SomeOf (arguments_from y.primed o.outer b 0 (listed ts)) (λ q. Finds ops ns q (Standing i))
use_occurs ops ns b _ _ _ ts o y _ (occurs_in_part at l m p i c w) =
    let u : (j : ℕ) × (e : Term) × (slice_get (listed ts) j ≡ Some e) × (p ≡ part false e) = argument_of false (listed ts) p c in
    inr (pushed_argument ops ns b y.primed o.outer (listed ts) u.0 u.1 (Standing i) u.2 (let P : Part → Type 0 = λ y. OccursBy ops ns y.term i in subst P u.3 w))
use_occurs ops ns b _ _ _ _ o y _ (occurs_where_used at l k ts p z i is lt w) = inl (p, z, is, lt, w)

use_above : (ops : List Operator) (ns : List Note) (b : Bool) (at : Place) (l : Level) (k : ℕ) (ts : Terms) (o : Operator) (y : Note) (i : ℕ) → b ≡ true → OccursBy ops ns (Placed at l (term.Use k ts)) i → NamedFinds ops ns b k (Under i) ⊎ SomeOf (arguments_from y.primed o.outer b 0 (listed ts)) (λ q. Finds ops ns q (Under i))
use_above ops ns b _ _ _ ts o y _ t (occurs_in_part at l m p i c w) =
    let u : (j : ℕ) × (e : Term) × (slice_get (listed ts) j ≡ Some e) × (p ≡ part false e) = argument_of false (listed ts) p c in
    inr (pushed_argument ops ns b y.primed o.outer (listed ts) u.0 u.1 (Under i) u.2 (inr (or_left b (has y.primed (o.outer + (0 + u.0))) t, let P : Part → Type 0 = λ y. OccursBy ops ns y.term i in subst P u.3 w)))
use_above ops ns b _ _ _ _ o y _ t (occurs_where_used at l k ts p z i is lt w) = inl (p, z, is, lt, inr (t, w))

no_prime : (ts : Terms) (p : Part) → Contains (parts_of false (listed ts)) p → p.primed ≡ true → ⊥
no_prime ts p c own =
    let u : (j : ℕ) × (e : Term) × (slice_get (listed ts) j ≡ Some e) × (p ≡ part false e) = argument_of false (listed ts) p c in
    let q : false ≡ true = sym (ap (λ y. y.primed) u.3) ∙ own in
    absurd (cc)

use_primed : (ops : List Operator) (ns : List Note) (b : Bool) (at : Place) (l : Level) (k : ℕ) (ts : Terms) (o : Operator) (y : Note) (i : ℕ) → IsNoted ops ns k o y → IsPrimedBy ops ns (Placed at l (term.Use k ts)) i → NamedFinds ops ns b k (Under i) ⊎ SomeOf (arguments_from y.primed o.outer b 0 (listed ts)) (λ q. Finds ops ns q (Under i))
use_primed ops ns b _ _ _ ts o y _ known (under at l m p i c own w) = absurd (no_prime ts p c own)
use_primed ops ns b _ _ _ ts o y _ known (primed_in_part at l m p i c w) =
    let u : (j : ℕ) × (e : Term) × (slice_get (listed ts) j ≡ Some e) × (p ≡ part false e) = argument_of false (listed ts) p c in
    inr (pushed_argument ops ns b y.primed o.outer (listed ts) u.0 u.1 (Under i) u.2 (inl (let P : Part → Type 0 = λ y. IsPrimedBy ops ns y.term i in subst P u.3 w)))
use_primed ops ns b _ _ _ _ o y _ known (in_argument at l k ts p z j e i is nth h w) =
    let marked : has y.primed (o.outer + j) ≡ true = marked_there ops ns k j o p y z known is h in
    inr (pushed_argument ops ns b y.primed o.outer (listed ts) j e (Under i) nth (inr (or_right b (has y.primed (o.outer + (0 + j))) (ap (λ n. has y.primed (o.outer + n)) (zero-add j) ∙ marked), w)))
use_primed ops ns b _ _ _ _ o y _ known (primed_where_used at l k ts p z i is lt w) = inl (p, z, is, lt, inl w)

use_fault : (ops : List Operator) (ns : List Note) (b : Bool) (at : Place) (l : Level) (k : ℕ) (ts : Terms) (o : Operator) (y : Note) (f : LevelFault) → IsNoted ops ns k o y → IsFaultBy ops ns (Placed at l (term.Use k ts)) f → LimitFinds at (term.Use k ts) (Wrong f) ⊎ (ArgumentFinds y.primed o.outer (listed ts) (Wrong f) ⊎ SomeOf (arguments_from y.primed o.outer b 0 (listed ts)) (λ q. Finds ops ns q (Wrong f)))
use_fault ops ns b _ _ _ _ o y _ known (too_high at l m x c t) = inl (x, c, t, refl)
use_fault ops ns b _ _ _ _ o y _ known (primed_argument at l k ts p z j e is nth h t) = inr (inl (j, e, nth, marked_there ops ns k j o p y z known is h, t, refl))
use_fault ops ns b _ _ _ ts o y _ known (in_part at l m p f c w) =
    let u : (j : ℕ) × (e : Term) × (slice_get (listed ts) j ≡ Some e) × (p ≡ part false e) = argument_of false (listed ts) p c in
    inr (inr (pushed_argument ops ns b y.primed o.outer (listed ts) u.0 u.1 (Wrong f) u.2 (let P : Part → Type 0 = λ y. IsFaultBy ops ns y.term f in subst P u.3 w)))

abbrev UseOwn : List Operator → List Note → Bool → Place → ℕ → Terms → Operator → Note → Finding → Type 0
UseOwn ops ns b at k ts o y x = LimitFinds at (term.Use k ts) x ⊎ (NamedFinds ops ns b k x ⊎ ArgumentFinds y.primed o.outer (listed ts) x)

all_use : (ops : List Operator) (ns : List Note) (b : Bool) (at : Place) (l : Level) (k : ℕ) (ts : Terms) (o : Operator) (y : Note) (x : Finding) → IsNoted ops ns k o y → Finds ops ns (part b (Placed at l (term.Use k ts))) x → UseOwn ops ns b at k ts o y x ⊎ SomeOf (arguments_from y.primed o.outer b 0 (listed ts)) (λ q. Finds ops ns q x)
all_use ops ns b at l k ts o y (Standing i) known h = elim (use_occurs ops ns b at l k ts o y i h) [ inl u ↦ inl (inr (inl u)) | inr u ↦ inr u ]
all_use ops ns b at l k ts o y (Under i) known h = elim h [
  | inl w ↦ elim (use_primed ops ns b at l k ts o y i known w) [ inl u ↦ inl (inr (inl u)) | inr u ↦ inr u ]
  | inr w ↦ elim (use_above ops ns b at l k ts o y i w.0 w.1) [ inl u ↦ inl (inr (inl u)) | inr u ↦ inr u ]
]
all_use ops ns b at l k ts o y (Wrong f) known h = elim (use_fault ops ns b at l k ts o y f known h) [
  | inl u ↦ inl (inl u)
  | inr u ↦ elim u [ inl v ↦ inl (inr (inr v)) | inr v ↦ inr v ]
]

argument_finds : (ops : List Operator) (ns : List Note) (b : Bool) (at : Place) (l : Level) (k : ℕ) (ts : Terms) (o : Operator) (y : Note) (x : Finding) → IsNoted ops ns k o y → ArgumentFinds y.primed o.outer (listed ts) x → Finds ops ns (part b (Placed at l (term.Use k ts))) x
argument_finds ops ns b at l k ts o y (Standing i) known h = absurd h
argument_finds ops ns b at l k ts o y (Under i) known h = absurd h
argument_finds ops ns b at l k ts o y (Wrong f) known (j, e, nth, marked, t, q) =
    let P : LevelFault → Type 0 = λ g. IsFaultBy ops ns (Placed at l (term.Use k ts)) g in
    subst P (sym q) (primed_argument at l k ts o y j e known nth marked t)

pushed_finds : (ops : List Operator) (ns : List Note) (b : Bool) (at : Place) (l : Level) (k : ℕ) (ts : Terms) (o : Operator) (y : Note) (x : Finding) → IsNoted ops ns k o y → SomeOf (arguments_from y.primed o.outer b 0 (listed ts)) (λ q. Finds ops ns q x) → Finds ops ns (part b (Placed at l (term.Use k ts))) x
pushed_finds ops ns b at l k ts o y x known (q, c, w) =
    let u : (j : ℕ) × (e : Term) × (slice_get (listed ts) j ≡ Some e) × (q ≡ part (b || has y.primed (o.outer + (0 + j))) e) = argument_out y.primed o.outer b 0 (listed ts) q c in
    let P : Part → Type 0 = λ y. Finds ops ns y x in
    from_argument x u.0 u.1 u.2 (subst P u.3 w)
  where
    from_argument : (x : Finding) (j : ℕ) (e : Term) → slice_get (listed ts) j ≡ Some e → Finds ops ns (part (b || has y.primed (o.outer + (0 + j))) e) x → Finds ops ns (part b (Placed at l (term.Use k ts))) x
    from_argument (Standing i) j e nth w = occurs_in_part at l (term.Use k ts) (part false e) i (plain_at (listed ts) j e nth) w
    from_argument (Under i) j e nth w = elim w [
      | inl v ↦ inl (primed_in_part at l (term.Use k ts) (part false e) i (plain_at (listed ts) j e nth) v)
      | inr v ↦ elim (or_cases b (has y.primed (o.outer + (0 + j))) v.0) [
        | inl above ↦ inr (above, occurs_in_part at l (term.Use k ts) (part false e) i (plain_at (listed ts) j e nth) v.1)
        | inr marked ↦ inl (in_argument at l k ts o y j e i known nth (ap (λ n. has y.primed (o.outer + n)) (sym (zero-add j)) ∙ marked) v.1)
      ]
    ]
    from_argument (Wrong f) j e nth w = in_part at l (term.Use k ts) (part false e) f (plain_at (listed ts) j e nth) w

pub read_use : (ops : List Operator) (ns : List Note) (n : ℕ) (b : Bool) (at : Place) (l : Level) (m : Meaning) (k : ℕ) (ts : Terms) (e : Term) (o : Operator) (y : Note) (old first second new : Note) → Placed at l m ≡ e → m ≡ term.Use k ts → IsNoted ops ns k o y → MentionsBelow n e → Adds (LimitFinds at m) old first → Adds (NamedFinds ops ns b k) first second → Adds (ArgumentFinds y.primed o.outer (listed ts)) second new → IsRead ops ns n (part b e) (arguments_from y.primed o.outer b 0 (listed ts)) old new
read_use ops ns n b at l m k ts e o y old first second new q is used_here below a1 a2 a3 =
    let whole : Placed at l (term.Use k ts) ≡ e = ap (Placed at l) (sym is) ∙ q in
    let under_n : MentionsBelow n (Placed at l (term.Use k ts)) = subst (MentionsBelow n) (sym whole) below in
    let limits_here : Adds (LimitFinds at (term.Use k ts)) old first = subst (λ (y : Meaning). Adds (LimitFinds at y) old first) is a1 in
    let own : Adds (UseOwn ops ns b at k ts o y) old new = adds_sum (LimitFinds at (term.Use k ts)) (λ x. NamedFinds ops ns b k x ⊎ ArgumentFinds y.primed o.outer (listed ts) x) old first new limits_here (adds_sum (NamedFinds ops ns b k) (ArgumentFinds y.primed o.outer (listed ts)) first second new a2 a3) in
    subst (λ (t : Term). IsRead ops ns n (part b t) (arguments_from y.primed o.outer b 0 (listed ts)) old new) whole record {
      kept = own.kept;
      all = λ x h. elim (all_use ops ns b at l k ts o y x used_here h) [ inl u ↦ inl (own.told x u) | inr u ↦ inr u ];
      sound = λ x h. elim (own.sound x h) [
        | inl u ↦ inl u
        | inr u ↦ inr (elim u [
          | inl v ↦ limit_finds ops ns b at l (term.Use k ts) x v
          | inr v ↦ elim v [ inl w ↦ named_finds ops ns b at l k ts x w | inr w ↦ argument_finds ops ns b at l k ts o y x used_here w ]
        ])
      ];
      rest = λ x h. pushed_finds ops ns b at l k ts o y x used_here h;
      below = λ p c. arguments_below p c;
      falls = omega (arith, arguments_fall y.primed o.outer b false 0 (listed ts), part_falls false at l (term.Use k ts));
    }
  where
    arguments_below : (p : Part) → Contains (arguments_from y.primed o.outer b 0 (listed ts)) p → MentionsBelow n p.term
    arguments_below p c =
        let u : (j : ℕ) × (x : Term) × (slice_get (listed ts) j ≡ Some x) × (p ≡ part (b || has y.primed (o.outer + (0 + j))) x) = argument_out y.primed o.outer b 0 (listed ts) p c in
        let whole : Placed at l (term.Use k ts) ≡ e = ap (Placed at l) (sym is) ∙ q in
        let under_n : MentionsBelow n (Placed at l (term.Use k ts)) = subst (MentionsBelow n) (sym whole) below in
        let P : Part → Type 0 = λ y. MentionsBelow n y.term in
        subst P (sym u.3) (part_below n false at l (term.Use k ts) under_n (part false u.1) (plain_at (listed ts) u.0 u.1 u.2))

pub use_below : (n : ℕ) (at : Place) (l : Level) (m : Meaning) (k : ℕ) (ts : Terms) (e : Term) → Placed at l m ≡ e → m ≡ term.Use k ts → MentionsBelow n e → k < n
use_below n at l m k ts e q is below = let P : Term → Type 0 = λ t. Mentions t k in below k (subst P (ap (Placed at l) (sym is) ∙ q) (used at l k ts))

pub let_below : (n : ℕ) (at : Place) (l : Level) (m : Meaning) (ks : List ℕ) (d e : Term) → Placed at l m ≡ e → m ≡ term.Scoped ks d → MentionsBelow n e → (k : ℕ) → Contains ks k → k < n
let_below n at l m ks d e q is below k c = let P : Term → Type 0 = λ t. Mentions t k in below k (subst P (ap (Placed at l) (sym is) ∙ q) (listed_in_let at l ks d k c))

listed_from : (ts : Terms) (xs : List Term) → listed (terms_from ts xs) ≡ listed ts ++ xs
listed_from ts [] = sym (append-nil (listed ts))
listed_from ts (x ∷ xs) = listed_from (term.MoreTerms ts x) xs ∙ append_assoc (listed ts) (x ∷ []) xs

pub listed_of : (xs : List Term) (ts : Terms) → terms_of xs ≡ ts → xs ≡ listed ts
listed_of xs ts q = sym (listed_from term.NoTerms xs) ∙ ap listed q

pub reads_use : (ops : List Operator) (ns : List Note) (n : ℕ) (b : Bool) (at : Place) (l : Level) (m : Meaning) (k : ℕ) (ts : Terms) (e : Term) (es : List Term) (before after : List Part) (old first new : Note) → Placed at l m ≡ e → m ≡ term.Use k ts → terms_of es ≡ ts → MentionsBelow n e → Adds (LimitFinds at m) old first → ReadsUse ops ns b k es before after first new → Reads ops ns n (part b e) before after old new
reads_use ops ns n b at l m k ts e es before after old first new q is items below adds h =
    let P : List Term → Type 0 = λ xs. ReadsUse ops ns b k xs before after first new in
    let r : ReadsUse ops ns b k (listed ts) before after first new = subst P (listed_of es ts items) h in
    (arguments_from r.1.primed r.0.outer b 0 (listed ts), r.3, read_use ops ns n b at l m k ts e r.0 r.1 old first r.4 new q is r.2 below adds r.5 r.6)
