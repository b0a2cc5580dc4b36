-- The variables that a term reads, row by row.
use Rattle.std.proofs.Common.{◌≡◌, ◌∙◌, ◌⊎◌, inl, inr, ap, sym, refl, subst, List, [], ◌∷◌, ◌++◌, map, length, arith}
use Rattle.std.specs.Prelude.{◌<◌, ◌≤◌, ◌||◌, ◌&&◌, ◌==◌, ℕ, zero, suc, Bool, true, false, Option, Some, Contains, Result, Ok, Err, IfOk, slice_get, if◌then◌else◌}
use Rattle.std.specs.List.{AllByRecursion as Each}
use Rattle.std.proofs.lemmas.List.{length_push}
use mathlib.Core.Path.{fun_ext}
use Rattle.base_core.specs.declared.place.Place.{Place}
use Rattle.names_terms.specs.declared.level.Level.{Level}
use Rattle.names_terms.specs.declared.level.Level.TheVariants as levels
use Rattle.names_terms.specs.declared.operator.Operator.{Operator}
use Rattle.names_terms.specs.Lists.{terms_list}
use Rattle.names_terms.specs.Terms as term
use Rattle.names_terms.specs.Terms.{Term, Placed, Meaning, Terms}
use Rattle.names_term_parts.specs.Parts.{Part, part, parts}
use Rattle.names_term_parts.specs.Slots.{MentionsBelow, UsesSmaller, used, mentioned_in_part}
use Rattle.names_term_parts.specs.Weights.{weight, total}
use Rattle.names_term_parts.proofs.Under.{part_over}
use Rattle.names_term_parts.proofs.Lists.{some_item, item_within}
use Rattle.names_term_parts.proofs.Weights.{total-append, total-cons, total-nil, of_parts}
use Rattle.eval_meanings.specs.Contexts.{Table}
use Rattle.actions_meanings.specs.Reads.{VariableSet, Ends, united, in_none, body_of, terms_in, read_among, reads_meaning, reads}
use Rattle.actions_early_reads.specs.Levels.{StaysBelow}
use Rattle.actions_early_reads.specs.declared.reading.Reads.{Reads}
use Rattle.actions_early_reads.specs.Orderly.{IsSoundThroughout, itself}
use Rattle.actions_early_reads.specs.Levels.{is_constant}
use Rattle.actions_early_reads.specs.Sets.{shown}
use Rattle.actions_early_reads.specs.Keeping.{IsRead, AreKept, Fits, reads_at, TellsAll, TellsReads, TellsOwn}
use Rattle.actions_early_reads.proofs.Within.{below-higher, body-stays}
use Rattle.actions_early_reads.proofs.Each.{each-append, each-left, each-right, each-both, each-from}
use Rattle.actions_early_reads.proofs.Ends.{ends-in, ends-more, ends-parts, orderly-part, orderly-body}
use Rattle.actions_early_reads.proofs.Heights.{among-same, reads-same}

pub same_of_some : {A : Type 0} {a b : A} → Some a ≡ Some b → a ≡ b
same_of_some e = cc

-- SETS OF EITHER

or-none : (b : Bool) → (b || false) ≡ b
or-none true = refl
or-none false = refl

or-assoc : (a b c : Bool) → (a || (b || c)) ≡ ((a || b) || c)
or-assoc true b c = refl
or-assoc false b c = refl

or-comm : (a b : Bool) → (a || b) ≡ (b || a)
or-comm true true = refl
or-comm true false = refl
or-comm false true = refl
or-comm false false = refl

pub united-none : (R : VariableSet) → united R in_none ≡ R
united-none R = fun_ext (λ x. or-none (R x))

pub united-assoc : (A B C : VariableSet) → united A (united B C) ≡ united (united A B) C
united-assoc A B C = fun_ext (λ x. or-assoc (A x) (B x) (C x))

pub united-comm : (A B : VariableSet) → united A B ≡ united B A
united-comm A B = fun_ext (λ x. or-comm (A x) (B x))

or-four : (f o l q : Bool) → ((f || o) || (l || q)) ≡ (f || (l || (o || q)))
or-four true o l q = refl
or-four false true true q = refl
or-four false true false q = refl
or-four false false l q = refl

united-four : (F O L Q : VariableSet) → united (united F O) (united L Q) ≡ united F (united L (united O Q))
united-four F O L Q = fun_ext (λ x. or-four (F x) (O x) (L x) (Q x))

pub among-append : (of : Part → VariableSet) (ps qs : List Part) → read_among of (ps ++ qs) ≡ united (read_among of ps) (read_among of qs)
among-append of [] qs = refl
among-append of (p ∷ ps) qs = ap (united (of p)) (among-append of ps qs) ∙ united-assoc (of p) (read_among of ps) (read_among of qs)

-- A ROW

abbrev pub OwnIs : Table → ℕ → Bool → Meaning → VariableSet → Type 0
OwnIs ops k b (term.Variable x) R = R ≡ (λ y. b && (x == y))
OwnIs ops k b (term.Use i ts) R = R ≡ read_among (reads_at ops k) (map (part b) (body_of (slice_get ops i)))
OwnIs ops k b m R = R ≡ in_none

own-row : (ops : Table) (k : ℕ) (b : Bool) (m : Meaning) (R : VariableSet) → OwnIs ops k b m R → reads_meaning (reads_at ops k) ops b m ≡ united R (read_among (reads_at ops k) (parts b m))
own-row ops k b (term.Variable x) R q = sym q ∙ sym (united-none R)
own-row ops k b (term.Use i ts) R q =
    among-append (reads_at ops k) (parts b (term.Use i ts)) (map (part b) (body_of (slice_get ops i)))
    ∙ united-comm (read_among (reads_at ops k) (parts b (term.Use i ts))) (read_among (reads_at ops k) (map (part b) (body_of (slice_get ops i))))
    ∙ ap (λ (Z : VariableSet). united Z (read_among (reads_at ops k) (parts b (term.Use i ts)))) (sym q)
own-row ops k b m R q = sym (ap (λ (Z : VariableSet). united Z (read_among (reads_at ops k) (parts b m))) q)

reads-open : (ops : Table) (k : ℕ) (b : Bool) (at : Place) (l : Level) (m : Meaning) → is_constant l ≡ false → reads ops (suc k) b (Placed at l m) ≡ reads_meaning (reads_at ops k) ops b m
reads-open ops k b at levels.Constant m q = absurd (cc)
reads-open ops k b at levels.State m q = refl
reads-open ops k b at levels.Action m q = refl
reads-open ops k b at levels.Temporal m q = refl

open-ends : (ops : Table) (k : ℕ) (at : Place) (l : Level) (m : Meaning) → is_constant l ≡ false → Ends ops (suc k) (Placed at l m) → Each (Ends ops k) (terms_in ops at m)
open-ends ops k at l m q h = elim (ends-in ops k at l m h) [
  | inl c ↦ absurd (let r : true ≡ false = sym (ap is_constant c) ∙ q in cc)
  | inr each ↦ each
]

parts-end : (ops : Table) (k : ℕ) (b : Bool) (at : Place) (m : Meaning) → Each (Ends ops k) (terms_in ops at m) → Each (λ (p : Part). Ends ops k p.term) (parts b m)
parts-end ops k b at (term.Use i ts) h = each-left (λ (p : Part). Ends ops k p.term) (parts b (term.Use i ts)) (map (part b) (body_of (slice_get ops i))) (ends-parts ops k b at (term.Use i ts) h)
parts-end ops k b at m h = ends-parts ops k b at m h

-- what is kept tells what the row itself reads
own-kept : (ops : Table) (v k : ℕ) (kept : List Reads) (b : Bool) (at : Place) (l : Level) (m : Meaning) (R : VariableSet) → AreKept ops v kept → v ≤ 64 → MentionsBelow (length kept) (Placed at l m) → IsSoundThroughout ops v (Placed at l m) → Each (Ends ops k) (terms_in ops at m) → TellsOwn kept b m R → OwnIs ops k b m R
own-kept ops v k kept b at l (term.Variable x) R are few below orderly ends tells =
    let own : x < v = (orderly (Placed at l (term.Variable x)) (itself (Placed at l (term.Variable x)))).1 in
    tells (omega arith)
own-kept ops v k kept b at l (term.Use i ts) R are few below orderly ends tells =
    let lt : i < length kept = below i (used at l i ts) in
    let le : length kept ≤ length ops = are.within in
    let r : (r : Reads) × (slice_get kept i ≡ Some r) = some_item kept i lt in
    let o : (o : Operator) × (slice_get ops i ≡ Some o) = some_item ops i (omega arith) in
    let body : IsSoundThroughout ops v o.0.body = orderly-body ops v at l i ts o.0 o.1 orderly in
    let inner : Each (Ends ops k) (body_of (slice_get ops i)) = each-right (Ends ops k) (terms_list ts) (body_of (slice_get ops i)) ends in
    let one : Each (Ends ops k) (o.0.body ∷ []) = subst (λ (z : Option Operator). Each (Ends ops k) (body_of z)) o.1 inner in
    tells r.0 r.1 ∙ sym (ap (λ (z : Option Operator). read_among (reads_at ops k) (map (part b) (body_of z))) o.1 ∙ united-none (reads ops k b o.0.body) ∙ which b o.0 r.0 o.1 r.1 body one.0)
  where
    which : (b : Bool) (o : Operator) (r : Reads) → slice_get ops i ≡ Some o → slice_get kept i ≡ Some r → IsSoundThroughout ops v o.body → Ends ops k o.body → reads ops k b o.body ≡ shown (if b then r.primed else r.plain)
    which true o r q s orderly ends = are.primed i o r q s orderly k ends
    which false o r q s orderly ends = are.plain i o r q s orderly k ends
own-kept ops v k kept b at l m R are few below orderly ends tells = tells

-- THE WAY

abbrev pub FitsPart : Table → ℕ → ℕ → ℕ → Part → Type 0
FitsPart ops v n k p = Fits ops v n k p.term

pub record IsReadSo (ops : Table) (v n k : ℕ) (start : List Part) (found : VariableSet) (stack : List Part) : Type 0 where
  pub same : united found (read_among (reads_at ops k) stack) ≡ read_among (reads_at ops k) start
  pub fit : Each (FitsPart ops v n k) stack

abbrev pub IsReadWay : List Reads → List Part → VariableSet → List Part → Type 0
IsReadWay kept start found stack = (ops : Table) (v : ℕ) → AreKept ops v kept → v ≤ 64 → (k : ℕ) → Each (FitsPart ops v (length kept) k) start → IsReadSo ops v (length kept) k start found stack

pub way-begins : (kept : List Reads) (start : List Part) (found : VariableSet) → found ≡ in_none → IsReadWay kept start found start
way-begins kept start found q ops v are few k fits = record {
  same = ap (λ (F : VariableSet). united F (read_among (reads_at ops k) start)) q;
  fit = fits;
}

pub way-ends : (kept : List Reads) (start : List Part) (found : VariableSet) (stack : List Part) → stack ≡ [] → IsReadWay kept start found stack → TellsAll kept start found
way-ends kept start found stack s way ops v are few k fits =
    sym (way ops v are few k fits).same ∙ ap (λ (ps : List Part). united found (read_among (reads_at ops k) ps)) s ∙ united-none found

-- of one term
pub tells-one : (kept : List Reads) (b : Bool) (e : Term) (stack : List Part) (R : VariableSet) → stack ≡ part b e ∷ [] → TellsAll kept stack R → TellsReads kept b e R
tells-one kept b e stack R s tells ops v are few k fits =
    sym (united-none (reads ops k b e)) ∙ ap (read_among (reads_at ops k)) (sym s) ∙ tells ops v are few k (subst (λ (ps : List Part). Each (FitsPart ops v (length kept) k) ps) (sym s) (fits, tt))

module _ (kept : List Reads) (start : List Part) (p : Part) (at : Place) (l : Level) (m : Meaning) (found : VariableSet) (stack left : List Part) (seen : Placed at l m ≡ p.term) (popped : stack ≡ left ++ p ∷ []) (way : IsReadWay kept start found stack) where
  constant-read : (ops : Table) (k : ℕ) → is_constant l ≡ true → reads ops k p.primed p.term ≡ in_none
  constant-read ops k q = subst (λ (z : Term). reads ops k p.primed z ≡ in_none) seen (at_level l q k)
    where
      at_level : (l : Level) → is_constant l ≡ true → (k : ℕ) → reads ops k p.primed (Placed at l m) ≡ in_none
      at_level levels.Constant q zero = refl
      at_level levels.Constant q (suc k) = refl
      at_level levels.State q k = absurd (cc)
      at_level levels.Action q k = absurd (cc)
      at_level levels.Temporal q k = absurd (cc)

  pub way-passes : is_constant l ≡ true → IsReadWay kept start found left
  way-passes q ops v are few k whole =
      let here : IsReadSo ops v (length kept) k start found stack = way ops v are few k whole in
      let fits : Each (FitsPart ops v (length kept) k) (left ++ p ∷ []) = subst (λ (ps : List Part). Each (FitsPart ops v (length kept) k) ps) popped here.fit in
      record {
        same =
            ap (united found) (sym (ap (read_among (reads_at ops k)) popped ∙ among-append (reads_at ops k) left (p ∷ []) ∙ ap (λ (R : VariableSet). united (read_among (reads_at ops k) left) (united R in_none)) (constant-read ops k q) ∙ united-none (read_among (reads_at ops k) left))) ∙ here.same;
        fit = each-left (FitsPart ops v (length kept) k) left (p ∷ []) fits;
      }

  module _ (own after_found : VariableSet) (after : List Part) (opened : is_constant l ≡ false) (tells : TellsOwn kept p.primed m own) (added : after_found ≡ united found own) (pushed : after ≡ left ++ parts p.primed m) where
    row-fits : (ops : Table) (v k : ℕ) → FitsPart ops v (length kept) (suc k) p → Each (FitsPart ops v (length kept) (suc k)) (parts p.primed m)
    row-fits ops v k fits =
        let orderly : IsSoundThroughout ops v (Placed at l m) = subst (λ (z : Term). IsSoundThroughout ops v z) (sym seen) fits.orderly in
        let below : MentionsBelow (length kept) (Placed at l m) = below-higher (length kept) at l m opened (subst (λ (z : Term). StaysBelow (length kept) z) (sym seen) fits.below) in
        let ends : Ends ops (suc k) (Placed at l m) = subst (λ (z : Term). Ends ops (suc k) z) (sym seen) fits.ends in
        let each : Each (λ (q : Part). Ends ops k q.term) (parts p.primed m) = parts-end ops k p.primed at m (open-ends ops k at l m opened ends) in
        each-both (λ (q : Part). MentionsBelow (length kept) q.term × IsSoundThroughout ops v q.term) (λ (q : Part). Ends ops k q.term) (FitsPart ops v (length kept) (suc k)) (λ q x y. record { below = inr x.0; orderly = x.1; ends = ends-more ops k q.term y }) (parts p.primed m)
        (primed-parts (λ (f : Term). MentionsBelow (length kept) f × IsSoundThroughout ops v f) (λ q c. ((λ i u. below i (mentioned_in_part at l m q i c u)), orderly-part ops v at l m q c orderly))) each
      where
        primed-parts : (P : Term → Type 0) → ((q : Part) → Contains (parts false m) q → P q.term) → Each (λ (q : Part). P q.term) (parts p.primed m)
        primed-parts P h = each-from (λ (q : Part). P q.term) (parts p.primed m) (λ q c. let o : (r : Part) × Contains (parts false m) r × (q.term ≡ r.term) × (q.primed ≡ (p.primed || r.primed)) = part_over p.primed m q c in subst P (sym o.2) (h o.0 o.1))

    whole-read : (ops : Table) (v : ℕ) → AreKept ops v kept → v ≤ 64 → (k : ℕ) → FitsPart ops v (length kept) (suc k) p → Each (FitsPart ops v (length kept) (suc k)) (parts p.primed m) → united after_found (read_among (reads_at ops (suc k)) after) ≡ united found (read_among (reads_at ops (suc k)) stack)
    whole-read ops v are few k fits row =
        let orderly : IsSoundThroughout ops v (Placed at l m) = subst (λ (z : Term). IsSoundThroughout ops v z) (sym seen) fits.orderly in
        let below : MentionsBelow (length kept) (Placed at l m) = below-higher (length kept) at l m opened (subst (λ (z : Term). StaysBelow (length kept) z) (sym seen) fits.below) in
        let ends : Ends ops (suc k) (Placed at l m) = subst (λ (z : Term). Ends ops (suc k) z) (sym seen) fits.ends in
        let terms : Each (Ends ops k) (terms_in ops at m) = open-ends ops k at l m opened ends in
        let own_is : OwnIs ops k p.primed m own = own-kept ops v k kept p.primed at l m own are few below orderly terms tells in
        let inner : read_among (reads_at ops k) (parts p.primed m) ≡ read_among (reads_at ops (suc k)) (parts p.primed m) =
        among-same (reads_at ops k) (reads_at ops (suc k)) (parts p.primed m) (each-both (λ (q : Part). Ends ops k q.term) (FitsPart ops v (length kept) (suc k)) (λ (q : Part). reads_at ops k q ≡ reads_at ops (suc k) q) (λ q x y. reads-same ops k (suc k) q.primed q.term x y.ends) (parts p.primed m) (parts-end ops k p.primed at m terms) row) in
        let top : reads ops (suc k) p.primed p.term ≡ united own (read_among (reads_at ops (suc k)) (parts p.primed m)) =
        ap (reads ops (suc k) p.primed) (sym seen) ∙ reads-open ops k p.primed at l m opened ∙ own-row ops k p.primed m own own_is ∙ ap (united own) inner in
        let right : read_among (reads_at ops (suc k)) stack ≡ united (read_among (reads_at ops (suc k)) left) (united own (read_among (reads_at ops (suc k)) (parts p.primed m))) =
        ap (read_among (reads_at ops (suc k))) popped ∙ among-append (reads_at ops (suc k)) left (p ∷ []) ∙ ap (united (read_among (reads_at ops (suc k)) left)) (united-none (reads ops (suc k) p.primed p.term) ∙ top) in
        let after_is : read_among (reads_at ops (suc k)) after ≡ united (read_among (reads_at ops (suc k)) left) (read_among (reads_at ops (suc k)) (parts p.primed m)) =
        ap (read_among (reads_at ops (suc k))) pushed ∙ among-append (reads_at ops (suc k)) left (parts p.primed m) in
        ap (λ (F : VariableSet). united F (read_among (reads_at ops (suc k)) after)) added ∙ ap (united (united found own)) after_is ∙ united-four found own (read_among (reads_at ops (suc k)) left) (read_among (reads_at ops (suc k)) (parts p.primed m)) ∙ ap (united found) (sym right)

    pub way-goes : IsReadWay kept start after_found after
    way-goes ops v are few k whole = goes ops v are few k (way ops v are few k whole)
      where
        goes : (ops : Table) (v : ℕ) → AreKept ops v kept → v ≤ 64 → (k : ℕ) → IsReadSo ops v (length kept) k start found stack → IsReadSo ops v (length kept) k start after_found after
        goes ops v are few zero here =
            let fits : Each (FitsPart ops v (length kept) zero) (left ++ p ∷ []) = subst (λ (ps : List Part). Each (FitsPart ops v (length kept) zero) ps) popped here.fit in
            let last : Each (FitsPart ops v (length kept) zero) (p ∷ []) = each-right (FitsPart ops v (length kept) zero) left (p ∷ []) fits in
            absurd last.0.ends
        goes ops v are few (suc k) here =
            let fits : Each (FitsPart ops v (length kept) (suc k)) (left ++ p ∷ []) = subst (λ (ps : List Part). Each (FitsPart ops v (length kept) (suc k)) ps) popped here.fit in
            let last : Each (FitsPart ops v (length kept) (suc k)) (p ∷ []) = each-right (FitsPart ops v (length kept) (suc k)) left (p ∷ []) fits in
            let lower : Each (FitsPart ops v (length kept) (suc k)) left = each-left (FitsPart ops v (length kept) (suc k)) left (p ∷ []) fits in
            let row : Each (FitsPart ops v (length kept) (suc k)) (parts p.primed m) = row-fits ops v k last.0 in
            record {
              same = whole-read ops v are few k last.0 row ∙ here.same;
              fit = subst (λ (ps : List Part). Each (FitsPart ops v (length kept) (suc k)) ps) (sym pushed) (each-append (FitsPart ops v (length kept) (suc k)) left (parts p.primed m) lower row);
            }

    pub way-lighter : total after < total stack
    way-lighter = omega (arith, ap total pushed, ap total popped, total-append left (parts p.primed m), total-append left (p ∷ []), total-cons p [], total-nil, of_parts p.primed m, ap weight seen)

  pub left-lighter : total left < total stack
  left-lighter = omega (arith, ap total popped, total-append left (p ∷ []), total-cons p [], total-nil, ap weight seen)

-- THE TABLE

pushed-cases : (kept : List Reads) (r : Reads) (k : ℕ) (q : Reads) → slice_get (kept ++ r ∷ []) k ≡ Some q → (slice_get kept k ≡ Some q) ⊎ ((k ≡ length kept) × (r ≡ q))
pushed-cases [] r zero q e = inr (refl, same_of_some e)
pushed-cases [] r (suc k) q e = absurd (cc)
pushed-cases (x ∷ kept) r zero q e = inl e
pushed-cases (x ∷ kept) r (suc k) q e = elim (pushed-cases kept r k q e) [ inl h ↦ inl h | inr h ↦ inr (ap suc h.0, h.1) ]

pub kept-more : (ops : Table) (v : ℕ) (kept : List Reads) (o : Operator) (r : Reads) → UsesSmaller ops → v ≤ 64 → slice_get ops (length kept) ≡ Some o → TellsReads kept false o.body (shown r.plain) → TellsReads kept true o.body (shown r.primed) → AreKept ops v kept → AreKept ops v (kept ++ r ∷ [])
kept-more ops v kept o r smaller few is plain primed are = record {
  within = let lt : length kept < length ops = item_within ops (length kept) o is in omega (arith, length_push kept r);
  plain = λ k p q at_ops at_kept orderly. elim (pushed-cases kept r k q at_kept) [
    | inl old ↦ are.plain k p q at_ops old orderly
    | inr new ↦
        let same_operator : o ≡ p = same_of_some (sym is ∙ ap (slice_get ops) (sym new.0) ∙ at_ops) in
        subst (λ (z : Reads). IsRead ops false p.body (shown z.plain)) new.1 (subst (λ (z : Operator). IsRead ops false z.body (shown r.plain)) same_operator (λ i h. plain ops v are few i record { below = body-stays ops (length kept) o smaller is; orderly = subst (λ (z : Operator). IsSoundThroughout ops v z.body) (sym same_operator) orderly; ends = h }))
  ];
  primed = λ k p q at_ops at_kept orderly. elim (pushed-cases kept r k q at_kept) [
    | inl old ↦ are.primed k p q at_ops old orderly
    | inr new ↦
        let same_operator : o ≡ p = same_of_some (sym is ∙ ap (slice_get ops) (sym new.0) ∙ at_ops) in
        subst (λ (z : Reads). IsRead ops true p.body (shown z.primed)) new.1 (subst (λ (z : Operator). IsRead ops true z.body (shown r.primed)) same_operator (λ i h. primed ops v are few i record { below = body-stays ops (length kept) o smaller is; orderly = subst (λ (z : Operator). IsSoundThroughout ops v z.body) (sym same_operator) orderly; ends = h }))
  ];
}

pub kept-none : (ops : Table) (v : ℕ) (kept : List Reads) → kept ≡ [] → AreKept ops v kept
kept-none ops v kept q = subst (λ (z : List Reads). AreKept ops v z) (sym q) record {
  within = omega arith;
  plain = λ k o r at_ops at_kept. absurd (cc);
  primed = λ k o r at_ops at_kept. absurd (cc);
}

pub if-ok : {T E : Type 0} (r : Result T E) (P Q : T → Type 0) → ((x : T) → P x → Q x) → IfOk r P → IfOk r Q
if-ok (Ok x) P Q f h = f x h
if-ok (Err e) P Q f h = tt
