-- The walk for reads that are too early.
use Rattle.std.proofs.Common.{◌≡◌, ◌∙◌, inl, inr, ap, sym, refl, subst, List, [], ◌∷◌, ◌++◌, map, length, arith}
use Rattle.std.specs.Prelude.{◌<◌, ◌≤◌, ℕ, zero, suc, Bool, true, false, Option, Some, None, slice_get, if◌then◌else◌}
use Rattle.std.specs.List.{AllByRecursion as Each}
use Rattle.std.proofs.lemmas.List.{map-append}
use Rattle.base_core.specs.declared.place.Place.{Place}
use Rattle.names_terms.specs.declared.level.Level.{Level}
use Rattle.names_terms.specs.declared.operator.Operator.{Operator}
use Rattle.names_terms.specs.Terms.{Term, Placed, Meaning}
use Rattle.names_terms.specs.Lists.{terms_list}
use Rattle.names_term_parts.specs.Parts.{Part, part}
use Rattle.names_term_parts.specs.Slots.{MentionsBelow, used}
use Rattle.names_term_parts.specs.Weights.{weight, total}
use Rattle.names_term_parts.proofs.Weights.{total-append, total-cons, total-nil}
use Rattle.actions_meanings.specs.declared.fault.FormFault.{FormFault}
use Rattle.actions_meanings.specs.Forms.{is_taken}
use Rattle.actions_meanings.specs.Reads.{VariableSet, body_of}
use Rattle.actions_meanings.specs.Outcomes.{or_else, first_early, early_meaning}
use Rattle.actions_early_reads.specs.declared.walking.Walk.{Walk}
use Rattle.actions_early_reads.specs.Keeping.{Fits}
use Rattle.actions_early_reads.specs.Ready.{table_of, setting_of, IsReady, TellsEarly}
use Rattle.actions_early_reads.specs.Opened.{early_at, unread_at, IsRow, first_of_parts, IsOpened, Opens, TellsBody, TellsFirst, TellsTerms}
use Rattle.actions_early_reads.proofs.Each.{each-append, each-left, each-right, each-weaker}
use Rattle.actions_early_reads.proofs.Ends.{ends-in, ends-more}
use Rattle.actions_early_reads.proofs.Early.{if-taken, not_constant, early-same}
use Rattle.actions_early_reads.proofs.Staying.{fits-terms}
use Rattle.actions_early_reads.proofs.Within.{body-stays}
use Rattle.actions_early_reads.proofs.Opening.{or_else-none, or_else-assoc, first-append, parts_fit}

abbrev pub FitsPart : Walk → ℕ → ℕ → Part → Type 0
FitsPart w bound k p = Fits (table_of w) w.variables bound k p.term

pub record IsEarlySo (w : Walk) (bound k : ℕ) (B : VariableSet) (start : List Part) (found : Option FormFault) (stack : List Part) : Type 0 where
  pub same : first_of_parts w B k start ≡ or_else (first_of_parts w B k stack) found
  pub fit : Each (FitsPart w bound k) stack

abbrev pub EarlyWay : Walk → ℕ → VariableSet → List Part → Option FormFault → List Part → Type 0
EarlyWay w bound B start found stack = (k : ℕ) → IsReady w → bound ≤ length (table_of w) → Each (FitsPart w bound k) start → IsEarlySo w bound k B start found stack

pub early-begins : (w : Walk) (bound : ℕ) (B : VariableSet) (start : List Part) → EarlyWay w bound B start None start
early-begins w bound B start k ready within fit = record {
  same = sym (or_else-none (first_of_parts w B k start));
  fit = fit;
}

pub early-ends : (w : Walk) (bound : ℕ) (B : VariableSet) (start : List Part) (found : Option FormFault) (stack : List Part) → stack ≡ [] → EarlyWay w bound B start found stack → TellsFirst w bound B start found
early-ends w bound B start found stack q way k ready within fit = (way k ready within fit).same ∙ ap (λ (ps : List Part). or_else (first_of_parts w B k ps) found) q

-- of one term
pub early-one : (w : Walk) (bound : ℕ) (B : VariableSet) (e : Term) (stack : List Part) (o : Option FormFault) → stack ≡ part false e ∷ [] → TellsFirst w bound B stack o → TellsEarly w bound B e o
early-one w bound B e stack o q tells k walked =
    sym (or_else-none (early_at w B k e)) ∙ ap (first_of_parts w B k) (sym q) ∙ tells k walked.ready walked.within (subst (λ (ps : List Part). Each (FitsPart w bound k) ps) (sym q) (walked.fits, tt))

pub early-terms : (w : Walk) (bound : ℕ) (B : VariableSet) (stack : List Part) (es : List Term) (o : Option FormFault) → map (λ (p : Part). p.term) stack ≡ es → TellsFirst w bound B stack o → TellsTerms w bound B es o
early-terms w bound B stack es o q tells k ready within fit =
    ap (first_early (early_at w B k)) (sym q) ∙ tells k ready within (parts_fit (Fits (table_of w) w.variables bound k) stack es q fit)

parts-append : (w : Walk) (B : VariableSet) (k : ℕ) (ps qs : List Part) → first_of_parts w B k (ps ++ qs) ≡ or_else (first_of_parts w B k ps) (first_of_parts w B k qs)
parts-append w B k ps qs = ap (first_early (early_at w B k)) (map-append (λ (p : Part). p.term) ps qs) ∙ first-append (early_at w B k) (map (λ (p : Part). p.term) ps) (map (λ (p : Part). p.term) qs)

parts-later : (w : Walk) (bound : ℕ) (B : VariableSet) (k : ℕ) (ps : List Part) → Each (FitsPart w bound k) ps → first_of_parts w B k ps ≡ first_of_parts w B (suc k) ps
parts-later w bound B k [] h = refl
parts-later w bound B k (p ∷ ps) h =
    let own : early_at w B k p.term ≡ early_at w B (suc k) p.term = early-same (setting_of w) B k (suc k) p.term h.0.orderly h.0.ends (ends-more (table_of w) k p.term h.0.ends) in
    ap (λ (z : Option FormFault). or_else z (first_of_parts w B k ps)) own ∙ ap (or_else (early_at w B (suc k) p.term)) (parts-later w bound B k ps h.1)

module _ (w : Walk) (bound : ℕ) (B : VariableSet) (start : List Part) (p : Part) (at : Place) (l : Level) (m : Meaning) (found : Option FormFault) (stack left : List Part) (seen : Placed at l m ≡ p.term) (popped : stack ≡ left ++ p ∷ []) (way : EarlyWay w bound B start found stack) where
  top-fits : (k : ℕ) → IsEarlySo w bound k B start found stack → Fits (table_of w) w.variables bound k (Placed at l m) × Each (FitsPart w bound k) left
  top-fits k here =
      let fits : Each (FitsPart w bound k) (left ++ p ∷ []) = subst (λ (ps : List Part). Each (FitsPart w bound k) ps) popped here.fit in
      let last : Each (FitsPart w bound k) (p ∷ []) = each-right (FitsPart w bound k) left (p ∷ []) fits in
      (subst (λ (f : Term). Fits (table_of w) w.variables bound k f) (sym seen) last.0, each-left (FitsPart w bound k) left (p ∷ []) fits)

  stack-is : (k : ℕ) → or_else (first_of_parts w B k stack) found ≡ or_else (first_of_parts w B k left) (or_else (early_at w B k (Placed at l m)) found)
  stack-is k =
      ap (λ (ps : List Part). or_else (first_of_parts w B k ps) found) popped ∙ ap (λ (z : Option FormFault). or_else z found) (parts-append w B k left (p ∷ []) ∙ ap (or_else (first_of_parts w B k left)) (or_else-none (early_at w B k p.term)))
      ∙ or_else-assoc (first_of_parts w B k left) (early_at w B k p.term) found ∙ ap (λ (f : Term). or_else (first_of_parts w B k left) (or_else (early_at w B k f) found)) (sym seen)

  untaken : (k : ℕ) → is_taken w.which l ≡ false → early_at w B k (Placed at l m) ≡ None
  untaken zero q = refl
  untaken (suc k) q = ap (λ (b : Bool). if b then early_meaning (setting_of w) (early_at w B k) (unread_at w B k) B at m else None) q

  pub early-passes : is_taken w.which l ≡ false → EarlyWay w bound B start found left
  early-passes q k ready within each =
      let here : IsEarlySo w bound k B start found stack = way k ready within each in
      record {
        same = here.same ∙ stack-is k ∙ ap (λ (z : Option FormFault). or_else (first_of_parts w B k left) (or_else z found)) (untaken k q);
        fit = (top-fits k here).1;
      }

  pub early-left-lighter : total left < total stack
  early-left-lighter = omega (arith, ap total popped, total-append left (p ∷ []), total-cons p [], total-nil, ap weight seen)

  module _ (answer : Option FormFault) (after : List Part) (taken : is_taken w.which l ≡ true) (opens : Opens w bound B at m found answer left after) where
    row-of : (k : ℕ) → IsReady w → bound ≤ length (table_of w) → Fits (table_of w) w.variables bound (suc k) (Placed at l m) → IsRow w bound k at m
    row-of k ready within fits = record {
      ready = ready;
      within = within;
      below = λ i ts q. (subst (λ (y : Meaning). MentionsBelow bound (Placed at l y)) q below) i (used at l i ts);
      fit = fits-terms (table_of w) w.variables bound k at l m ready.smaller below fits.orderly (elim (ends-in (table_of w) k at l m fits.ends) [
        | inl c ↦ absurd (not_constant w.which l taken c)
        | inr each ↦ each
      ]);
    }
      where
        below : MentionsBelow bound (Placed at l m)
        below = elim fits.below [ inl c ↦ absurd (not_constant w.which l taken c) | inr h ↦ h ]

    pub early-goes : EarlyWay w bound B start answer after
    early-goes k ready within each = goes k ready within (way k ready within each)
      where
        goes : (k : ℕ) → IsReady w → bound ≤ length (table_of w) → IsEarlySo w bound k B start found stack → IsEarlySo w bound k B start answer after
        goes zero ready within here = absurd (top-fits zero here).0.ends
        goes (suc k) ready within here =
            let fits : Fits (table_of w) w.variables bound (suc k) (Placed at l m) × Each (FitsPart w bound (suc k)) left = top-fits (suc k) here in
            let row : IsRow w bound k at m = row-of k ready within fits.0 in
            let opened : IsOpened w bound B at m found answer opens.0 = opens.2 in
            let more : Each (FitsPart w bound k) opens.0 = opened.fit k row in
            let top : or_else (early_at w B (suc k) (Placed at l m)) found ≡ or_else (first_of_parts w B (suc k) opens.0) answer =
            ap (λ (z : Option FormFault). or_else z found) (if-taken (is_taken w.which l) (early_meaning (setting_of w) (early_at w B k) (unread_at w B k) B at m) None taken) ∙ opened.same k row ∙ ap (λ (z : Option FormFault). or_else z answer) (parts-later w bound B k opens.0 more) in
            record {
              same =
                  here.same ∙ stack-is (suc k) ∙ ap (or_else (first_of_parts w B (suc k) left)) top ∙ sym (or_else-assoc (first_of_parts w B (suc k) left) (first_of_parts w B (suc k) opens.0) answer)
                  ∙ ap (λ (z : Option FormFault). or_else z answer) (sym (parts-append w B (suc k) left opens.0)) ∙ ap (λ (ps : List Part). or_else (first_of_parts w B (suc k) ps) answer) (sym opens.1);
              fit = subst (λ (ps : List Part). Each (FitsPart w bound (suc k)) ps) (sym opens.1) (each-append (FitsPart w bound (suc k)) left opens.0 fits.1 (each-weaker (FitsPart w bound k) (FitsPart w bound (suc k)) (λ q h. record { below = h.below; orderly = h.orderly; ends = ends-more (table_of w) k q.term h.ends }) opens.0 more));
            }

    pub early-lighter : total after < total stack
    early-lighter = omega (arith, ap total opens.1, total-append left opens.0, opens.2.lighter, ap total popped, total-append left (p ∷ []), total-cons p [], total-nil, ap weight seen)

-- THE BODY OF A DEFINITION

pub body-none : (w : Walk) (bound : ℕ) (B : VariableSet) (i : ℕ) → slice_get (table_of w) i ≡ None → TellsBody w bound B i None
body-none w bound B i q at ts k row = ap (λ (r : Option Operator). first_early (early_at w B k) (body_of r)) q

pub body-past : (w : Walk) (bound : ℕ) (B : VariableSet) (i : ℕ) → bound ≤ i → TellsBody w bound B i None
body-past w bound B i past at ts k row = let lt : i < bound = row.below i ts refl in absurd (omega arith)

pub body-some : (w : Walk) (bound : ℕ) (B : VariableSet) (i : ℕ) (o : Operator) (r : Option FormFault) → i < bound → slice_get (table_of w) i ≡ Some o → TellsEarly w i B o.body r → TellsBody w bound B i r
body-some w bound B i o r lt q tells at ts k row =
    let inner : Each (Fits (table_of w) w.variables bound k) (body_of (slice_get (table_of w) i)) = each-right (Fits (table_of w) w.variables bound k) (terms_list ts) (body_of (slice_get (table_of w) i)) row.fit in
    let one : Each (Fits (table_of w) w.variables bound k) (o.body ∷ []) = subst (λ (z : Option Operator). Each (Fits (table_of w) w.variables bound k) (body_of z)) q inner in
    ap (λ (z : Option Operator). first_early (early_at w B k) (body_of z)) q ∙ or_else-none (early_at w B k o.body)
    ∙ tells k record { ready = row.ready; within = omega (arith, row.within); fits = record { below = body-stays (table_of w) i o row.ready.smaller q; orderly = one.0.orderly; ends = one.0.ends } }
