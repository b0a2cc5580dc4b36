-- UNCHANGED, item by item.
use Rattle.std.proofs.Common.{◌≡◌, ◌∙◌, inl, inr, ap, sym, refl, subst, List, map, drop, length, get_or, arith}
use Rattle.std.specs.Prelude.{◌<◌, ◌≤◌, ◌+◌, ℕ, zero, suc, true, Option, Some, None, Result, Ok, Err, slice_get, if◌then◌else◌}
use Rattle.std.specs.List.{AllByRecursion as Each}
use Rattle.std.proofs.lemmas.List.{drop_all}
use Rattle.base_core.specs.declared.place.Place.{Place}
use Rattle.reading_trees.specs.declared.operators.PrefixOperator.TheVariants as prefix
use Rattle.names_terms.specs.declared.level.Level.{Level}
use Rattle.names_terms.specs.declared.level.Level.TheVariants as levels
use Rattle.names_terms.specs.Lists.{terms_list}
use Rattle.names_terms.specs.TermViews.{terms_of}
use Rattle.names_terms.specs.Terms as term
use Rattle.names_terms.specs.Terms.{Term, Placed, Meaning, Terms, level_of}
use Rattle.eval_meanings.specs.Contexts.{Table}
use Rattle.eval_meanings.specs.Unchanged.{behind, unchanged_of}
use Rattle.actions_meanings.specs.declared.which.Which.{Which}
use Rattle.actions_meanings.specs.declared.which.Which.TheVariants as which
use Rattle.actions_meanings.specs.declared.fault.FormFault.{FormFault}
use Rattle.actions_meanings.specs.Forms.{is_taken, unchanged_form, test}
use Rattle.actions_meanings.specs.Reads.{VariableSet, Ends, with_variable}
use Rattle.actions_meanings.specs.Outcomes.{FormOutcome, early_meaning, early_variable, form_outcome, next, through, unless}
use Rattle.actions_early_reads.specs.Levels.{StaysBelow}
use Rattle.actions_early_reads.specs.declared.walking.Walk.{Walk}
use Rattle.actions_early_reads.specs.Orderly.{IsSoundThroughout, itself}
use Rattle.actions_early_reads.specs.Follow.{IsBehind}
use Rattle.actions_early_reads.specs.Ready.{table_of, setting_of, IsWalked}
use Rattle.actions_early_reads.specs.Shapes.{IsOther}
use Rattle.actions_early_reads.specs.Opened.{early_at, unread_at}
use Rattle.actions_early_reads.specs.Sets.{shown}
use Rattle.actions_early_reads.proofs.Each.{each-item}
use Rattle.actions_early_reads.proofs.Ends.{ends-in, orderly-terms}
use Rattle.actions_early_reads.proofs.Early.{action-taken, if-taken, IsStill, still-items}
use Rattle.actions_early_reads.proofs.Staying.{list_of_items, item_at_index, items-stay, behind-is, found-walked}
use Rattle.actions_forms.specs.Says.{Says, SaysAt, SaysItems, SaysKept, SaysStays, SaysStill, outcome_at}
use Rattle.actions_forms.proofs.Outcomes.{form-of, outcome-still}
use Rattle.actions_forms.proofs.Ordering.{term-items}
use Rattle.actions_forms.proofs.Telling.{says-along, stops-along, stops-next}

-- ITEMS OF A TUPLE

constant_ends : (ops : Table) (x : Term) → level_of x ≡ levels.Constant → Ends ops 1 x
constant_ends ops (Placed q j m) c = subst (λ (z : Level). Ends ops 1 (Placed q z m)) (sym c) tt

pub item-says : (w : Walk) (bound : ℕ) (C : VariableSet) (at p : Place) (l : Level) (ts : Terms) (k i : ℕ) (x : Term) (r : Result ℕ FormFault) → IsWalked w bound k (Placed p l (term.Tuple ts)) → slice_get (terms_list ts) i ≡ Some x → SaysStays w bound C at x r → Says r (outcome_at w k (unchanged_of at x) C)
item-says w bound C at p l ts zero i x r walked is says = absurd walked.fits.ends
item-says w bound C at p l ts (suc k) i x r walked is says =
    let ops : Table = table_of w in
    let below : StaysBelow bound x = each-item (StaysBelow bound) (terms_list ts) i x is (items-stay w bound (suc k) p l ts walked walked.fits.below) in
    let orderly : IsSoundThroughout ops w.variables x = each-item (IsSoundThroughout ops w.variables) (terms_list ts) i x is (orderly-terms ops w.variables p l (term.Tuple ts) walked.fits.orderly) in
    elim (ends-in ops k p l (term.Tuple ts) walked.fits.ends) [
      | inr each ↦ says k record { ready = walked.ready; within = walked.within; fits = record { below = below; orderly = orderly; ends = each-item (Ends ops k) (terms_list ts) i x is each } }
      | inl q ↦
          let items : Each (IsStill (setting_of w)) (terms_list ts) = still-items (setting_of w) p ts (subst (λ (z : Level). IsSoundThroughout ops w.variables (Placed p z (term.Tuple ts))) q walked.fits.orderly) in
          let still : IsStill (setting_of w) x = each-item (IsStill (setting_of w)) (terms_list ts) i x is items in
          says-along r (outcome_at w 2 (unchanged_of at x) C) (outcome_at w (suc k) (unchanged_of at x) C) (outcome-still (setting_of w) (suc k) at x C still ∙ sym (outcome-still (setting_of w) 2 at x C still))
          (says 1 record { ready = walked.ready; within = walked.within; fits = record { below = below; orderly = orderly; ends = constant_ends ops x still.0 } })
    ]

-- what is still to be run through
abbrev pub KeepingWay : Walk → ℕ → VariableSet → Place → Terms → VariableSet → List Term → Type 0
KeepingWay w bound B at ts C rest =
    (p : Place) (l : Level) (k : ℕ) → IsWalked w bound k (Placed p l (term.Tuple ts)) → through (outcome_at w k) (map (unchanged_of at) (terms_list ts)) B ≡ through (outcome_at w k) (map (unchanged_of at) rest) C

pub keeping-begin : (w : Walk) (bound : ℕ) (B : VariableSet) (at : Place) (ts : Terms) (xs : List Term) → terms_of xs ≡ ts → KeepingWay w bound B at ts B xs
keeping-begin w bound B at ts xs q p l k walked = ap (λ (es : List Term). through (outcome_at w k) (map (unchanged_of at) es) B) (list_of_items xs ts q)

module _ (w : Walk) (bound : ℕ) (B C : VariableSet) (at : Place) (ts : Terms) (xs : List Term) (i : ℕ) (x : Term) (q : terms_of xs ≡ ts) (lt : i < length xs) (is : x ≡ get_or xs i x) (way : KeepingWay w bound B at ts C (drop i xs)) where
  abbrev from_here : ℕ → VariableSet → FormOutcome
  from_here k D = through (outcome_at w k) (map (unchanged_of at) (drop (i + 1) xs)) D

  here : (p : Place) (l : Level) (k : ℕ) → IsWalked w bound k (Placed p l (term.Tuple ts)) → through (outcome_at w k) (map (unchanged_of at) (terms_list ts)) B ≡ next (outcome_at w k (unchanged_of at x) C) (from_here k)
  here p l k walked = way p l k walked ∙ ap (λ (es : List Term). through (outcome_at w k) (map (unchanged_of at) es) C) (term-items xs i x lt is)

  pub keeping-next : (c : ℕ) → SaysStays w bound C at x (Ok c) → KeepingWay w bound B at ts (shown c) (drop (i + 1) xs)
  keeping-next c says p l k walked =
      here p l k walked ∙ ap (λ (r : FormOutcome). next r (from_here k)) (item-says w bound C at p l ts k i x (Ok c) walked (item_at_index xs ts i x q lt is) says)

  pub keeping-stop : (f : FormFault) → SaysStays w bound C at x (Err f) → SaysItems w bound B at ts (terms_list ts) (Err f)
  keeping-stop f says p l k walked =
      stops-along f (next (outcome_at w k (unchanged_of at x) C) (from_here k)) (through (outcome_at w k) (map (unchanged_of at) (terms_list ts)) B) (here p l k walked)
      (stops-next f (outcome_at w k (unchanged_of at x) C) (from_here k) (item-says w bound C at p l ts k i x (Err f) walked (item_at_index xs ts i x q lt is) says))

pub keeping-end : (w : Walk) (bound : ℕ) (B : VariableSet) (at : Place) (ts : Terms) (xs : List Term) (i c : ℕ) → length xs ≤ i → KeepingWay w bound B at ts (shown c) (drop i xs) → SaysItems w bound B at ts (terms_list ts) (Ok c)
keeping-end w bound B at ts xs i c past way p l k walked = way p l k walked ∙ ap (λ (es : List Term). through (outcome_at w k) (map (unchanged_of at) es) (shown c)) (drop_all i xs past)

-- A TERM

state_early : (v : Which) (B : VariableSet) (at : Place) (x : ℕ) → (if is_taken v levels.State then early_variable v B at x else None) ≡ early_variable v B at x
state_early which.Init B at x = refl
state_early which.Action B at x = refl

module _ (w : Walk) (bound : ℕ) (B : VariableSet) (at : Place) (e found : Term) (number : ℕ) (p : Place) (l : Level) (m : Meaning) (seen : Placed p l m ≡ found) (follows : IsBehind (table_of w) bound e number found) where
  abbrev outer : ℕ
  outer = (behind (table_of w) (length (table_of w)) zero e).0

  abbrev outcome_of : ℕ → Meaning → FormOutcome
  outcome_of k n = form_outcome (setting_of w) k (outcome_at w k) (unchanged_of at e) B (unchanged_form at (outer, Placed p l n))

  kept-is : (k : ℕ) → IsWalked w bound k e → outcome_at w (suc k) (unchanged_of at e) B ≡ outcome_of k m
  kept-is k walked =
      ap (form_outcome (setting_of w) k (outcome_at w k) (unchanged_of at e) B) (form-of (setting_of w) zero at levels.Action (term.Prefix prefix.Unchanged e) (action-taken w.which)
      ∙ ap (λ (f : Term). unchanged_form at (outer, f)) (behind-is w bound B at e found number p l m seen follows k walked))

  kept-as : (k : ℕ) (n : Meaning) → m ≡ n → IsWalked w bound k e → outcome_at w (suc k) (unchanged_of at e) B ≡ outcome_of k n
  kept-as k n q walked = kept-is k walked ∙ ap (outcome_of k) q

  found-at : (k : ℕ) (n : Meaning) → m ≡ n → IsWalked w bound k e → IsWalked w number k (Placed p l n)
  found-at k n q walked = subst (λ (z : Meaning). IsWalked w number k (Placed p l z)) q (found-walked w bound B at e found number p l m seen follows k walked)

  variable_early : (k : ℕ) (x : ℕ) → Ends (table_of w) k e → early_at w B k (Placed at levels.State (term.Variable x)) ≡ early_variable w.which B at x
  variable_early zero x ends = absurd ends
  variable_early (suc k) x ends = state_early w.which B at x

  pub kept-variable : (x : ℕ) (r : Result ℕ FormFault) → m ≡ term.Variable x → SaysKept w.which B at x r → SaysStays w bound B at e r
  kept-variable x r q says k walked =
      let inner : IsWalked w number k (Placed p l (term.Variable x)) = found-at k (term.Variable x) q walked in
      let below : x < w.variables = (inner.fits.orderly (Placed p l (term.Variable x)) (itself (Placed p l (term.Variable x)))).1 in
      says-along r (unless (early_variable w.which B at x) (Ok (with_variable B x))) (outcome_at w (suc k) (unchanged_of at e) B)
      (kept-as k (term.Variable x) q walked ∙ ap (λ (o : Option FormFault). unless o (Ok (with_variable B x))) (variable_early k x walked.fits.ends)) (says (omega (arith, walked.ready.few)))

  pub kept-tuple : (ts : Terms) (r : Result ℕ FormFault) → m ≡ term.Tuple ts → SaysItems w number B at ts (terms_list ts) r → SaysStays w bound B at e r
  kept-tuple ts r q says k walked =
      says-along r (through (outcome_at w k) (map (unchanged_of at) (terms_list ts)) B) (outcome_at w (suc k) (unchanged_of at e) B) (kept-as k (term.Tuple ts) q walked) (says p l k (found-at k (term.Tuple ts) q walked))

  other_form : (n : Meaning) → IsOther n → unchanged_form at (outer, Placed p l n) ≡ test
  other_form (term.Variable x) h = absurd h
  other_form (term.Tuple ts) h = absurd h
  other_form n h = refl

  pub kept-other : (r : Result ℕ FormFault) → IsOther m → SaysStill w bound B at e r → SaysStays w bound B at e r
  kept-other r other says k walked =
      says-along r (unless (early_at w B (suc k) (unchanged_of at e)) (Ok B)) (outcome_at w (suc k) (unchanged_of at e) B)
      (kept-is k walked ∙ ap (form_outcome (setting_of w) k (outcome_at w k) (unchanged_of at e) B) (other_form m other)) (says k walked)

-- THE ROW

module _ (w : Walk) (bound : ℕ) (B : VariableSet) (at : Place) (e : Term) (l : Level) (k : ℕ) where
  abbrev Own : Term
  Own = Placed at l (term.Prefix prefix.Unchanged e)

  same_early : is_taken w.which l ≡ true → early_at w B (suc k) (unchanged_of at e) ≡ early_at w B (suc k) Own
  same_early taken =
      let inside : Option FormFault = early_meaning (setting_of w) (early_at w B k) (unread_at w B k) B at (term.Prefix prefix.Unchanged e) in
      if-taken (is_taken w.which levels.Action) inside None (action-taken w.which) ∙ sym (if-taken (is_taken w.which l) inside None taken)

  same_form : (found : ℕ × Term) → early_at w B (suc k) (unchanged_of at e) ≡ early_at w B (suc k) Own → form_outcome (setting_of w) k (outcome_at w k) (unchanged_of at e) B (unchanged_form at found) ≡ form_outcome (setting_of w) k (outcome_at w k) Own B (unchanged_form at found)
  same_form (n, Placed q j (term.Variable x)) same = refl
  same_form (n, Placed q j (term.Tuple ts)) same = refl
  same_form (n, f) same = ap (λ (o : Option FormFault). unless o (Ok B)) same

pub unchanged-row : (w : Walk) (bound : ℕ) (B : VariableSet) (at : Place) (e : Term) (r : Result ℕ FormFault) → SaysStays w bound B at e r → SaysAt w bound B at (term.Prefix prefix.Unchanged e) r
unchanged-row w bound B at e r says l taken k row =
    let found : ℕ × Term = behind (table_of w) (length (table_of w)) zero e in
    let stays : outcome_at w (suc k) (unchanged_of at e) B ≡ form_outcome (setting_of w) k (outcome_at w k) (unchanged_of at e) B (unchanged_form at found) =
    ap (form_outcome (setting_of w) k (outcome_at w k) (unchanged_of at e) B) (form-of (setting_of w) zero at levels.Action (term.Prefix prefix.Unchanged e) (action-taken w.which)) in
    says-along r (outcome_at w (suc k) (unchanged_of at e) B) (form_outcome (setting_of w) k (outcome_at w k) (Placed at l (term.Prefix prefix.Unchanged e)) B (unchanged_form at found))
    (sym (stays ∙ same_form w bound B at e l k found (same_early w bound B at e l k taken))) (says k record { ready = row.ready; within = row.within; fits = row.fit.0 })
