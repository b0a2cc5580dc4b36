-- Terms that must all hold, item by item; and terms that stand in a row.
use Rattle.std.proofs.Common.{◌≡◌, ◌∙◌, ap, sym, refl, subst, List, [], ◌∷◌, drop, length, get_or, arith}
use Rattle.std.specs.Prelude.{◌<◌, ◌≤◌, ◌+◌, ℕ, Option, Some, None, Result, Ok, Err, slice_get}
use Rattle.std.specs.List.{AllByRecursion as Each}
use Rattle.std.proofs.lemmas.List.{drop_more, drop_all}
use Rattle.base_core.specs.declared.place.Place.{Place}
use Rattle.reading_trees.specs.declared.operators.Quantifier.TheVariants as quantifier
use Rattle.names_terms.specs.declared.operator.Operator.{Operator}
use Rattle.names_terms.specs.Lists.{terms_list}
use Rattle.names_terms.specs.TermViews.{terms_of}
use Rattle.names_terms.specs.Terms as term
use Rattle.names_terms.specs.Terms.{Term, Placed, Meaning, Terms, Bounds}
use Rattle.names_term_parts.specs.Parts.{set_list}
use Rattle.actions_meanings.specs.declared.fault.FormFault.{FormFault}
use Rattle.actions_meanings.specs.Reads.{VariableSet, body_of}
use Rattle.actions_meanings.specs.Outcomes.{FormOutcome, first_early, next, through, unless}
use Rattle.actions_early_reads.specs.declared.walking.Walk.{Walk}
use Rattle.actions_early_reads.specs.Keeping.{Fits}
use Rattle.actions_early_reads.specs.Ready.{table_of, IsWalked}
use Rattle.actions_early_reads.specs.Opened.{early_at, IsRow}
use Rattle.actions_early_reads.specs.Sets.{shown}
use Rattle.actions_early_reads.proofs.Within.{body-stays}
use Rattle.actions_early_reads.proofs.Each.{each-left, each-right, each-item}
use Rattle.actions_early_reads.proofs.Staying.{list_of_items, item_at_index}
use Rattle.actions_forms.specs.Says.{AreWalked, SaysAnywhere, SaysBody, SaysFixed, outcome_at}
use Rattle.actions_forms.proofs.Telling.{ClearTerms, FindsTerms, next-ok, says-along, stops-along, stops-next, stops-unless}

pub walked-item : (w : Walk) (bound k i : ℕ) (es : List Term) (x : Term) → slice_get es i ≡ Some x → AreWalked w bound k es → IsWalked w bound k x
walked-item w bound k i es x is are = record {
  ready = are.ready;
  within = are.within;
  fits = each-item (Fits (table_of w) w.variables bound k) es i x is are.fit;
}

pub term-items : (xs : List Term) (i : ℕ) (x : Term) → i < length xs → x ≡ get_or xs i x → drop i xs ≡ x ∷ drop (i + 1) xs
term-items xs i x lt is = drop_more xs i x lt ∙ ap (λ (y : Term). y ∷ drop (i + 1) xs) (sym is)

-- what is still to be run through
abbrev pub OrderWay : Walk → ℕ → VariableSet → Terms → VariableSet → List Term → Type 0
OrderWay w bound B ts C rest = (k : ℕ) → AreWalked w bound k (terms_list ts) → through (outcome_at w k) (terms_list ts) B ≡ through (outcome_at w k) rest C

pub order-begin : (w : Walk) (bound : ℕ) (B : VariableSet) (ts : Terms) (xs : List Term) → terms_of xs ≡ ts → OrderWay w bound B ts B xs
order-begin w bound B ts xs q k are = ap (λ (es : List Term). through (outcome_at w k) es B) (list_of_items xs ts q)

module _ (w : Walk) (bound : ℕ) (B C : VariableSet) (ts : Terms) (xs : List Term) (i : ℕ) (x : Term) (q : terms_of xs ≡ ts) (lt : i < length xs) (is : x ≡ get_or xs i x) (way : OrderWay w bound B ts C (drop i xs)) where
  here : (k : ℕ) → AreWalked w bound k (terms_list ts) → through (outcome_at w k) (terms_list ts) B ≡ next (outcome_at w k x C) (through (outcome_at w k) (drop (i + 1) xs))
  here k are = way k are ∙ ap (λ (es : List Term). through (outcome_at w k) es C) (term-items xs i x lt is)

  pub order-next : (c : ℕ) → SaysFixed w bound C x (Ok c) → OrderWay w bound B ts (shown c) (drop (i + 1) xs)
  order-next c says k are = here k are ∙ ap (λ (r : FormOutcome). next r (through (outcome_at w k) (drop (i + 1) xs))) (says k (walked-item w bound k i (terms_list ts) x (item_at_index xs ts i x q lt is) are))

  pub order-stop : (f : FormFault) → SaysFixed w bound C x (Err f) → SaysAnywhere w bound B (term.All ts) (Err f)
  order-stop f says at l taken k row =
      let are : AreWalked w bound k (terms_list ts) = record { ready = row.ready; within = row.within; fit = row.fit } in
      stops-along f (next (outcome_at w k x C) (through (outcome_at w k) (drop (i + 1) xs))) (through (outcome_at w k) (terms_list ts) B) (here k are)
      (stops-next f (outcome_at w k x C) (through (outcome_at w k) (drop (i + 1) xs)) (says k (walked-item w bound k i (terms_list ts) x (item_at_index xs ts i x q lt is) are)))

pub order-end : (w : Walk) (bound : ℕ) (B : VariableSet) (ts : Terms) (xs : List Term) (i c : ℕ) → length xs ≤ i → OrderWay w bound B ts (shown c) (drop i xs) → SaysAnywhere w bound B (term.All ts) (Ok c)
order-end w bound B ts xs i c past way at l taken k row =
    way k record { ready = row.ready; within = row.within; fit = row.fit } ∙ ap (λ (es : List Term). through (outcome_at w k) es (shown c)) (drop_all i xs past)

-- ONE TERM INSIDE

pub scoped-row : (w : Walk) (bound : ℕ) (B : VariableSet) (ks : List ℕ) (e : Term) (r : Result ℕ FormFault) → SaysFixed w bound B e r → SaysAnywhere w bound B (term.Scoped ks e) r
scoped-row w bound B ks e r says at l taken k row = says k record { ready = row.ready; within = row.within; fits = row.fit.0 }

pub parenthesized-row : (w : Walk) (bound : ℕ) (B : VariableSet) (e : Term) (r : Result ℕ FormFault) → SaysFixed w bound B e r → SaysAnywhere w bound B (term.Parenthesized e) r
parenthesized-row w bound B e r says at l taken k row = says k record { ready = row.ready; within = row.within; fits = row.fit.0 }

-- FOR SOME VALUES

module _ (w : Walk) (bound : ℕ) (B : VariableSet) (bs : Bounds) (e : Term) where
  abbrev Whole : Meaning
  Whole = term.Quantified quantifier.Exists bs e

  sets-walked : (k : ℕ) (at : Place) → IsRow w bound k at Whole → AreWalked w bound k (set_list bs)
  sets-walked k at row = record { ready = row.ready; within = row.within; fit = each-left (Fits (table_of w) w.variables bound k) (set_list bs) (e ∷ []) row.fit }

  body-walked : (k : ℕ) (at : Place) → IsRow w bound k at Whole → IsWalked w bound k e
  body-walked k at row = let last : Each (Fits (table_of w) w.variables bound k) (e ∷ []) = each-right (Fits (table_of w) w.variables bound k) (set_list bs) (e ∷ []) row.fit in record { ready = row.ready; within = row.within; fits = last.0 }

  pub exists-row : (r : Result ℕ FormFault) → ClearTerms w bound B (set_list bs) → SaysFixed w bound B e r → SaysAnywhere w bound B Whole r
  exists-row r lets says at l taken k row =
      says-along r (outcome_at w k e B) (unless (first_early (early_at w B k) (set_list bs)) (outcome_at w k e B)) (ap (λ (z : Option FormFault). unless z (outcome_at w k e B)) (lets k (sets-walked k at row))) (says k (body-walked k at row))

  pub exists-stop : (f : FormFault) → FindsTerms w bound B (set_list bs) f → SaysAnywhere w bound B Whole (Err f)
  exists-stop f lets at l taken k row = stops-unless f (first_early (early_at w B k) (set_list bs)) (outcome_at w k e B) (lets k (sets-walked k at row))

-- CALLS

module _ (w : Walk) (bound : ℕ) (B : VariableSet) (i : ℕ) (ts : Terms) where
  arguments-walked : (k : ℕ) (at : Place) → IsRow w bound k at (term.Use i ts) → AreWalked w bound k (terms_list ts)
  arguments-walked k at row = record { ready = row.ready; within = row.within; fit = each-left (Fits (table_of w) w.variables bound k) (terms_list ts) (body_of (slice_get (table_of w) i)) row.fit }

  abbrev whole_body : ℕ → FormOutcome
  whole_body k = through (outcome_at w k) (body_of (slice_get (table_of w) i)) B

  pub call-row : (r : Result ℕ FormFault) → ClearTerms w bound B (terms_list ts) → SaysBody w bound B i r → SaysAnywhere w bound B (term.Use i ts) r
  call-row r lets says at l taken k row =
      says-along r (whole_body k) (unless (first_early (early_at w B k) (terms_list ts)) (whole_body k)) (ap (λ (z : Option FormFault). unless z (whole_body k)) (lets k (arguments-walked k at row))) (says at ts k row)

  pub call-stop : (f : FormFault) → FindsTerms w bound B (terms_list ts) f → SaysAnywhere w bound B (term.Use i ts) (Err f)
  call-stop f lets at l taken k row = stops-unless f (first_early (early_at w B k) (terms_list ts)) (whole_body k) (lets k (arguments-walked k at row))

pub body-past : (w : Walk) (bound : ℕ) (B : VariableSet) (i : ℕ) (r : Result ℕ FormFault) → bound ≤ i → SaysBody w bound B i r
body-past w bound B i r past at ts k row = let lt : i < bound = row.below i ts refl in absurd (omega arith)

pub body-none : (w : Walk) (bound : ℕ) (B : VariableSet) (i c : ℕ) → slice_get (table_of w) i ≡ None → shown c ≡ B → SaysBody w bound B i (Ok c)
body-none w bound B i c q same at ts k row = ap (λ (o : Option Operator). through (outcome_at w k) (body_of o) B) q ∙ ap (λ (C : VariableSet). Ok C) (sym same)

pub body-some : (w : Walk) (bound : ℕ) (B : VariableSet) (i : ℕ) (o : Operator) (r : Result ℕ FormFault) → i < bound → slice_get (table_of w) i ≡ Some o → SaysFixed w i B o.body r → SaysBody w bound B i r
body-some w bound B i o r lt q says at ts k row =
    let inner : Each (Fits (table_of w) w.variables bound k) (body_of (slice_get (table_of w) i)) = each-right (Fits (table_of w) w.variables bound k) (terms_list ts) (body_of (slice_get (table_of w) i)) row.fit in
    let one : Each (Fits (table_of w) w.variables bound k) (o.body ∷ []) = subst (λ (z : Option Operator). Each (Fits (table_of w) w.variables bound k) (body_of z)) q inner in
    says-along r (outcome_at w k o.body B) (through (outcome_at w k) (body_of (slice_get (table_of w) i)) B) (ap (λ (z : Option Operator). through (outcome_at w k) (body_of z) B) q ∙ next-ok (outcome_at w k o.body B))
    (says k record { ready = row.ready; within = omega (arith, row.within); fits = record { below = body-stays (table_of w) i o row.ready.smaller q; orderly = one.0.orderly; ends = one.0.ends } })
