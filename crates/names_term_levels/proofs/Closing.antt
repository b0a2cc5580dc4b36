-- What notes tell of a text, and what is true of it.
use Rattle.std.proofs.Common.{◌≡◌, ◌∙◌, List, [], ◌∷◌, ◌++◌, inl, subst, arith, refl, sym, ap, length, ◌<◌, ◌≤◌}
use Rattle.std.specs.Prelude.{◌↔◌, ◌+◌, ℕ, Bool, true, false, Contains, IsTrue, MatchOption, Option, Some, None, slice_get}
use Rattle.std.proofs.lemmas.List.Elements.{Contains-append_right}
use Rattle.base_core.specs.declared.place.Place.{Place}
use Rattle.reading_trees.specs.declared.operators.Quantifier.TheVariants as quantifier
use Rattle.names_terms.specs.declared.level.Level.{Level}
use Rattle.names_terms.specs.declared.operator.Operator.{Operator}
use Rattle.names_terms.specs.Terms as term
use Rattle.names_terms.specs.Terms.{Term, Placed, Meaning, place_of}
use Rattle.names_term_parts.specs.declared.fault.LevelFault.{LevelFault}
use Rattle.names_term_parts.specs.declared.fault.LevelFault.TheVariants.{PrimedArgument}
use Rattle.names_term_parts.specs.FaultOrder.{is_before}
use Rattle.names_term_parts.specs.Marks.{has}
use Rattle.names_term_parts.specs.Parts.{Part, part, parts, parts_of, listed, set_list}
use Rattle.names_term_parts.specs.Slots as slots
use Rattle.names_term_parts.specs.Slots.{Occurs, IsPrimed, MentionsBelow, UsesSmaller, used, listed_in_let, mentioned_in_part}
use Rattle.names_term_parts.proofs.Contained.{contains_head}
use Rattle.names_term_parts.proofs.Lists.{item_within, some_item}
use Rattle.names_term_parts.proofs.Ordering.{body_within}
use Rattle.names_term_levels.specs.declared.note.Note.{Note}
use Rattle.names_term_levels.specs.Faults as faults
use Rattle.names_term_levels.specs.Faults.{IsFault, IsFirst}
use Rattle.names_term_levels.specs.Findings.{Finding, Reaches, Says, Standing, Under, Wrong}
use Rattle.names_term_levels.specs.Notes.{AreNotes, IsNote}
use Rattle.names_term_levels.specs.Shape as shape
use Rattle.names_term_levels.specs.Shape.{IsFair}
use Rattle.names_term_levels.specs.Told as told
use Rattle.names_term_levels.specs.Told.{IsFairBy, IsFaultBy, IsNoted, IsPrimedBy, OccursBy}
use Rattle.names_term_levels.specs.Telling.{AreClosed, AreSound, Has, IsSound, IsToldBy, IsUntold, too_high as high}
use Rattle.names_term_levels.proofs.Fair.{parts_of_in}
use Rattle.names_term_levels.proofs.Order.{not_before_itself, not_before_on, reaches_on}
use Rattle.names_term_levels.proofs.Texts.{plain_at}

-- WHAT NOTES TELL IS TRUE

module _ (ops : List Operator) (ns : List Note) (within : length ns ≤ length ops) (sound : AreSound ops ns) where
  -- each note is that of a definition
  noted_there : (k : ℕ) (n : Note) → slice_get ns k ≡ Some n → (o : Operator) × IsNoted ops ns k o n
  noted_there k n at =
      let lt : k < length ns = item_within ns k n at in
      let o : (o : Operator) × (slice_get ops k ≡ Some o) = some_item ops k (omega (arith, lt, within)) in
      (o.0, record { is = o.1; told = at })

  pub occurs_true : (e : Term) (i : ℕ) → OccursBy ops ns e i → Occurs ops e i
  occurs_true _ _ (told.itself at l i) = slots.itself at l i
  occurs_true _ _ (told.occurs_in_part at l m p i c w) = slots.occurs_in_part at l m p i c (occurs_true p.term i w)
  occurs_true _ _ (told.occurs_in_let at l ks e k o n i c here lt w) = slots.occurs_in_let at l ks e k o i c here.is lt ((sound k o n here).says (Standing i) w)
  occurs_true _ _ (told.occurs_where_used at l k ts o n i here lt w) = slots.occurs_where_used at l k ts o i here.is lt ((sound k o n here).says (Standing i) w)

  pub primed_true : (e : Term) (i : ℕ) → IsPrimedBy ops ns e i → IsPrimed ops e i
  primed_true _ _ (told.under at l m p i c own w) = slots.under at l m p i c own (occurs_true p.term i w)
  primed_true _ _ (told.primed_in_part at l m p i c w) = slots.primed_in_part at l m p i c (primed_true p.term i w)
  primed_true _ _ (told.in_argument at l k ts o n j e i here nth h w) = slots.in_argument at l k ts o j e i here.is nth ((sound k o n here).says (Under (o.outer + j)) h) (occurs_true e i w)
  primed_true _ _ (told.primed_in_let at l ks e k o n i c here lt w) = slots.primed_in_let at l ks e k o i c here.is lt ((sound k o n here).says (Under i) w)
  primed_true _ _ (told.primed_where_used at l k ts o n i here lt w) = slots.primed_where_used at l k ts o i here.is lt ((sound k o n here).says (Under i) w)

  pub fault_true : (e : Term) (f : LevelFault) → IsFaultBy ops ns e f → IsFault ops e f
  fault_true _ _ (told.too_high at l m x c t) = faults.too_high at l m x c t
  fault_true _ _ (told.primed_argument at l k ts o n j e here nth h t) = faults.primed_argument at l k ts o j e here.is nth ((sound k o n here).says (Under (o.outer + j)) h) t
  fault_true _ _ (told.in_part at l m p f c w) = faults.in_part at l m p f c (fault_true p.term f w)
  fault_true _ _ (told.of_let at l ks e k n f c at_k w) =
      let there : (o : Operator) × IsNoted ops ns k o n = noted_there k n at_k in
      faults.of_let at l ks e k there.0 f c there.1.is ((sound k there.0 n there.1).says (Wrong f) w)

  pub fair_true : (e : Term) → IsFairBy ns e → IsFair ops e
  fair_true _ (told.weak_or_strong at l v e) = shape.weak_or_strong at l v e
  fair_true _ (told.for_all at l bs e w) = shape.for_all at l bs e (fair_true e w)
  fair_true _ (told.both at l ts h) = shape.both at l ts (λ e c. fair_true e (h e c))
  fair_true _ (told.named at l k n at_k w) =
      let there : (o : Operator) × IsNoted ops ns k o n = noted_there k n at_k in
      shape.named at l k there.0 there.1.is ((sound k there.0 n there.1).fair w)

-- WHAT IS TRUE IS TOLD

-- a note tells what its body tells, given that the body's own uses are told where they have notes
pub record TellRows (ops : List Operator) (ns : List Note) : Type 0 where
  pub occurs : (k : ℕ) (o : Operator) (n : Note) (i : ℕ) → IsNoted ops ns k o n → Occurs ops o.body i → (MentionsBelow (length ns) o.body → OccursBy ops ns o.body i) → IsTrue (has n.occurs i)
  pub primed : (k : ℕ) (o : Operator) (n : Note) (i : ℕ) → IsNoted ops ns k o n → IsPrimed ops o.body i → (MentionsBelow (length ns) o.body → IsPrimedBy ops ns o.body i) → IsTrue (has n.primed i)
  pub fault : (k : ℕ) (o : Operator) (n : Note) (f : LevelFault) → IsNoted ops ns k o n → IsFault ops o.body f → (MentionsBelow (length ns) o.body → (g : LevelFault) × IsFaultBy ops ns o.body g × (is_before f g ≡ false)) → Reaches n.fault f
  pub fair : (k : ℕ) (o : Operator) (n : Note) → IsNoted ops ns k o n → IsFair ops o.body → (MentionsBelow (length ns) o.body → IsFairBy ns o.body) → IsTrue n.fair

module _ (ops : List Operator) (ns : List Note) (rows : TellRows ops ns) where
  -- the note of a definition that the text uses
  note_at : (k : ℕ) (o : Operator) → slice_get ops k ≡ Some o → k < length ns → (n : Note) × IsNoted ops ns k o n
  note_at k o is lt = let n : (n : Note) × (slice_get ns k ≡ Some n) = some_item ns k lt in (n.0, record { is = is; told = n.1 })

  part_below : (at : Place) (l : Level) (m : Meaning) (p : Part) → Contains (parts false m) p → MentionsBelow (length ns) (Placed at l m) → MentionsBelow (length ns) p.term
  part_below at l m p c below k u = below k (mentioned_in_part at l m p k c u)

  pub occurs_told : (e : Term) (i : ℕ) → Occurs ops e i → MentionsBelow (length ns) e → OccursBy ops ns e i
  occurs_told _ _ (slots.itself at l i) below = told.itself at l i
  occurs_told _ _ (slots.occurs_in_part at l m p i c w) below = told.occurs_in_part at l m p i c (occurs_told p.term i w (part_below at l m p c below))
  occurs_told _ _ (slots.occurs_in_let at l ks e k o i c is lt w) below =
      let n = note_at k o is (below k (listed_in_let at l ks e k c)) in
      told.occurs_in_let at l ks e k o n.0 i c n.1 lt (rows.occurs k o n.0 i n.1 w (λ inner. occurs_told o.body i w inner))
  occurs_told _ _ (slots.occurs_where_used at l k ts o i is lt w) below =
      let n = note_at k o is (below k (used at l k ts)) in
      told.occurs_where_used at l k ts o n.0 i n.1 lt (rows.occurs k o n.0 i n.1 w (λ inner. occurs_told o.body i w inner))

  pub primed_told : (e : Term) (i : ℕ) → IsPrimed ops e i → MentionsBelow (length ns) e → IsPrimedBy ops ns e i
  primed_told _ _ (slots.under at l m p i c own w) below = told.under at l m p i c own (occurs_told p.term i w (part_below at l m p c below))
  primed_told _ _ (slots.primed_in_part at l m p i c w) below = told.primed_in_part at l m p i c (primed_told p.term i w (part_below at l m p c below))
  primed_told _ _ (slots.in_argument at l k ts o j e i is nth h w) below =
      let n = note_at k o is (below k (used at l k ts)) in
      let inner : MentionsBelow (length ns) e = part_below at l (term.Use k ts) (part false e) (plain_at (listed ts) j e nth) below in
      told.in_argument at l k ts o n.0 j e i n.1 nth (rows.primed k o n.0 (o.outer + j) n.1 h (λ body. primed_told o.body (o.outer + j) h body)) (occurs_told e i w inner)
  primed_told _ _ (slots.primed_in_let at l ks e k o i c is lt w) below =
      let n = note_at k o is (below k (listed_in_let at l ks e k c)) in
      told.primed_in_let at l ks e k o n.0 i c n.1 lt (rows.primed k o n.0 i n.1 w (λ inner. primed_told o.body i w inner))
  primed_told _ _ (slots.primed_where_used at l k ts o i is lt w) below =
      let n = note_at k o is (below k (used at l k ts)) in
      told.primed_where_used at l k ts o n.0 i n.1 lt (rows.primed k o n.0 i n.1 w (λ inner. primed_told o.body i w inner))

  -- some fault that is as early
  pub fault_told : (e : Term) (f : LevelFault) → IsFault ops e f → MentionsBelow (length ns) e → (g : LevelFault) × IsFaultBy ops ns e g × (is_before f g ≡ false)
  fault_told _ _ (faults.too_high at l m x c t) below = (high x, told.too_high at l m x c t, not_before_itself (high x))
  fault_told _ _ (faults.primed_argument at l k ts o j e is nth h t) below =
      let n = note_at k o is (below k (used at l k ts)) in
      (PrimedArgument (place_of e), told.primed_argument at l k ts o n.0 j e n.1 nth (rows.primed k o n.0 (o.outer + j) n.1 h (λ body. primed_told o.body (o.outer + j) h body)) t, not_before_itself (PrimedArgument (place_of e)))
  fault_told _ _ (faults.in_part at l m p f c w) below =
      let g : (g : LevelFault) × IsFaultBy ops ns p.term g × (is_before f g ≡ false) = fault_told p.term f w (part_below at l m p c below) in
      (g.0, told.in_part at l m p g.0 c g.1, g.2)
  fault_told _ _ (faults.of_let at l ks e k o f c is w) below =
      let n = note_at k o is (below k (listed_in_let at l ks e k c)) in
      let r : Reaches n.0.fault f = rows.fault k o n.0 f n.1 w (λ inner. fault_told o.body f w inner) in
      (r.0, told.of_let at l ks e k n.0 r.0 c n.1.told r.1, r.2)

  pub fair_told : (e : Term) → IsFair ops e → MentionsBelow (length ns) e → IsFairBy ns e
  fair_told _ (shape.weak_or_strong at l v e) below = told.weak_or_strong at l v e
  fair_told _ (shape.for_all at l bs e w) below =
      let inside : Contains (parts_of false (set_list bs) ++ part false e ∷ []) (part false e) = Contains-append_right (parts_of false (set_list bs)) (part false e ∷ []) (part false e) (contains_head (part false e) []) in
      told.for_all at l bs e (fair_told e w (part_below at l (term.Quantified quantifier.ForAll bs e) (part false e) inside below))
  fair_told _ (shape.both at l ts h) below = told.both at l ts (λ e c. fair_told e (h e c) (part_below at l (term.All ts) (part false e) (parts_of_in (listed ts) e c) below))
  fair_told _ (shape.named at l k o is w) below =
      let n = note_at k o is (below k (used at l k term.NoTerms)) in
      told.named at l k n.0 n.1.told (rows.fair k o n.0 n.1 w (λ inner. fair_told o.body w inner))

-- NOTES THAT ARE RIGHT

-- the first of what notes tell is the first of all
first_of_all : (ops : List Operator) (e : Term) (Such : LevelFault → Type 0) (found : Option LevelFault) → ((f : LevelFault) → Such f → IsFault ops e f) → ((f : LevelFault) → IsFault ops e f → (g : LevelFault) × Such g × (is_before f g ≡ false))
    → MatchOption found ((f : LevelFault) → ¬ Such f) (IsFirst Such) → MatchOption found ((f : LevelFault) → ¬ IsFault ops e f) (IsFirst (IsFault ops e))
first_of_all ops e Such None up down h = λ f w. let g = down f w in h g.0 g.1
first_of_all ops e Such (Some f) up down h = record {
  is_such = up f h.is_such;
  none_before = λ g w. let d = down g w in not_before_on g d.0 f d.2 (h.none_before d.0 d.1);
}

-- what notes say is true, where they are those of the definitions
pub notes_sound : (ops : List Operator) (ns : List Note) → AreNotes ops ns → AreSound ops ns
notes_sound ops ns noted k o n here = record { says = says_one; fair = is.fair.0 }
  where
    is : IsNote ops o.body n
    is = noted k o n here.is here.told

    by_found : (r : Option LevelFault) (f : LevelFault) → MatchOption r ((g : LevelFault) → ¬ IsFault ops o.body g) (IsFirst (IsFault ops o.body)) → r ≡ Some f → IsFault ops o.body f
    by_found None f h q = absurd (cc)
    by_found (Some g) f h q = let same : g ≡ f = cc in subst (IsFault ops o.body) same h.is_such

    says_one : (x : Finding) → Says n x → Has ops o.body x
    says_one (Standing i) h = (is.occurs i).0 h
    says_one (Under i) h = (is.primed i).0 h
    says_one (Wrong f) h = by_found n.fault f is.fault h

pub notes_tell : (ops : List Operator) (ns : List Note) → AreNotes ops ns → TellRows ops ns
notes_tell ops ns noted = record {
  occurs = λ k o n i here w inner. ((noted k o n here.is here.told).occurs i).1 w;
  primed = λ k o n i here w inner. ((noted k o n here.is here.told).primed i).1 w;
  fault = λ k o n f here w inner. by_found (o.body) n.fault f (noted k o n here.is here.told).fault w;
  fair = λ k o n here w inner. (noted k o n here.is here.told).fair.1 w;
}
  where
    by_found : (e : Term) (r : Option LevelFault) (f : LevelFault) → MatchOption r ((g : LevelFault) → ¬ IsFault ops e g) (IsFirst (IsFault ops e)) → IsFault ops e f → Reaches r f
    by_found e None f h w = absurd (h f w)
    by_found e (Some g) f h w = (g, refl, h.none_before f w)

-- what a text tells by right notes is its own note
pub note_told : (ops : List Operator) (ns : List Note) (e : Term) (n : Note) → AreNotes ops ns → length ns ≤ length ops → MentionsBelow (length ns) e → IsToldBy ops ns e n → IsNote ops e n
note_told ops ns e n noted within below t =
    let sound = notes_sound ops ns noted in
    let rows = notes_tell ops ns noted in
    record {
      occurs = λ i. ((λ h. occurs_true ops ns within sound e i ((t.told.occurs i).0 h)), (λ w. (t.told.occurs i).1 (occurs_told ops ns rows e i w below)));
      primed = λ i. ((λ h. primed_true ops ns within sound e i ((t.told.primed i).0 h)), (λ w. (t.told.primed i).1 (primed_told ops ns rows e i w below)));
      fault = first_of_all ops e (IsFaultBy ops ns e) n.fault (fault_true ops ns within sound e) (λ f w. fault_told ops ns rows e f w below) t.told.fault;
      fair = ((λ h. fair_true ops ns within sound e (t.fair.0 h)), (λ w. t.fair.1 (fair_told ops ns rows e w below)));
    }

pub fair_is : (ops : List Operator) (ns : List Note) (e : Term) (b : Bool) → AreNotes ops ns → length ns ≤ length ops → MentionsBelow (length ns) e → IsTrue b ↔ IsFairBy ns e → IsTrue b ↔ IsFair ops e
fair_is ops ns e b noted within below h =
    ((λ t. fair_true ops ns within (notes_sound ops ns noted) e (h.0 t)), (λ w. h.1 (fair_told ops ns (notes_tell ops ns noted) e w below)))

-- NOTES THAT ARE SOUND AND CLOSED

closed_tell : (ops : List Operator) (ns : List Note) → UsesSmaller ops → length ns ≡ length ops → AreClosed ops ns → TellRows ops ns
closed_tell ops ns smaller all closed = record {
  occurs = λ k o n i here w inner. (closed k o n here).covers (Standing i) (inner (body k o here.is));
  primed = λ k o n i here w inner. (closed k o n here).covers (Under i) (inl (inner (body k o here.is)));
  fault = λ k o n f here w inner. reaches_on n.fault f (inner (body k o here.is)).0 (inner (body k o here.is)).2 ((closed k o n here).covers (Wrong (inner (body k o here.is)).0) (inner (body k o here.is)).1);
  fair = λ k o n here w inner. (closed k o n here).fair (inner (body k o here.is));
}
  where
    body : (k : ℕ) (o : Operator) → slice_get ops k ≡ Some o → MentionsBelow (length ns) o.body
    body k o is = subst (λ (m : ℕ). MentionsBelow m o.body) (sym all) (body_within ops k o smaller is)

pub are_notes : (ops : List Operator) (ns : List Note) → UsesSmaller ops → length ns ≡ length ops → AreSound ops ns → AreClosed ops ns → AreNotes ops ns
are_notes ops ns smaller all sound closed k o n is at =
    let here : IsNoted ops ns k o n = record { is = is; told = at } in
    let s : IsSound ops o.body n = sound k o n here in
    let rows = closed_tell ops ns smaller all closed in
    record {
      occurs = λ i. (s.says (Standing i), (λ w. rows.occurs k o n i here w (λ below. occurs_told ops ns rows o.body i w below)));
      primed = λ i. (s.says (Under i), (λ w. rows.primed k o n i here w (λ below. primed_told ops ns rows o.body i w below)));
      fault = first_found n.fault (λ f q. s.says (Wrong f) q) (λ f w. rows.fault k o n f here w (λ below. fault_told ops ns rows o.body f w below));
      fair = (s.fair, (λ w. rows.fair k o n here w (λ below. fair_told ops ns rows o.body w below)));
    }
  where
    first_found : (r : Option LevelFault) → ((f : LevelFault) → r ≡ Some f → IsFault ops o.body f) → ((f : LevelFault) → IsFault ops o.body f → Reaches r f) → MatchOption r ((f : LevelFault) → ¬ IsFault ops o.body f) (IsFirst (IsFault ops o.body))
    first_found None up down = λ f w. let r = down f w in absurd (let q : None ≡ Some r.0 = r.1 in cc)
    first_found (Some g) up down = record {
      is_such = up g refl;
      none_before = λ f w. let r = down f w in let same : r.0 ≡ g = cc (r.1) in ap (λ y. is_before f y) (sym same) ∙ r.2;
    }

-- no note tells anything yet
pub untold_sound : (ops : List Operator) (ns : List Note) → ((k : ℕ) (n : Note) → slice_get ns k ≡ Some n → IsUntold n) → AreSound ops ns
untold_sound ops ns none k o n here = record { says = says_none; fair = λ h. absurd (let q : false ≡ true = sym u.fair ∙ h in cc) }
  where
    u : IsUntold n
    u = none k n here.told

    says_none : (x : Finding) → Says n x → Has ops o.body x
    says_none (Standing i) h = absurd (let q : false ≡ true = ap (λ ms. has ms i) (sym u.occurs) ∙ h in cc)
    says_none (Under i) h = absurd (let q : false ≡ true = ap (λ ms. has ms i) (sym u.primed) ∙ h in cc)
    says_none (Wrong f) h = absurd (let q : None ≡ Some f = sym u.fault ∙ h in cc)
