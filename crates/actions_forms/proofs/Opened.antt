-- From what a row leaves fixed to what its term does.
use Rattle.std.proofs.Common.{◌≡◌, ◌∙◌, inl, inr, ap, sym, refl, subst, [], arith}
use Rattle.std.specs.Prelude.{◌<◌, ℕ, zero, suc, Bool, true, false, Option, Some, None, Result, Ok, if◌then◌else◌}
use Rattle.base_core.specs.declared.place.Place.{Place}
use Rattle.reading_trees.specs.declared.operators.PrefixOperator.TheVariants as prefix
use Rattle.reading_trees.specs.declared.operators.InfixOperator.{InfixOperator}
use Rattle.reading_trees.specs.declared.operators.InfixOperator.TheVariants as infix_operator
use Rattle.reading_trees.specs.declared.operators.Quantifier.TheVariants as quantifier
use Rattle.names_terms.specs.declared.level.Level.{Level}
use Rattle.names_terms.specs.Terms as term
use Rattle.names_terms.specs.Terms.{Term, Placed, Meaning, Terms, Steps, Step}
use Rattle.names_term_parts.specs.Parts.{part, is_prime}
use Rattle.names_term_parts.specs.Slots.{MentionsBelow, used}
use Rattle.names_term_parts.proofs.Contained.{contains_head}
use Rattle.eval_meanings.specs.Contexts.{Table}
use Rattle.actions_meanings.specs.declared.which.Which.{Which}
use Rattle.actions_meanings.specs.declared.which.Which.TheVariants as which
use Rattle.actions_meanings.specs.declared.fault.FormFault.{FormFault}
use Rattle.actions_meanings.specs.Forms.{Setting, Form, form, infix_form, is_taken, meaning_form, target, test}
use Rattle.actions_meanings.specs.Reads.{VariableSet, with_variable}
use Rattle.actions_meanings.specs.Outcomes.{FormOutcome, early, form_outcome, unless}
use Rattle.actions_early_reads.specs.declared.walking.Walk.{Walk}
use Rattle.actions_early_reads.specs.Orderly.{IsSoundThroughout, itself, stands_in_part}
use Rattle.actions_early_reads.specs.Keeping.{Fits}
use Rattle.actions_early_reads.specs.Ready.{table_of, setting_of, IsWalked}
use Rattle.actions_early_reads.specs.Opened.{early_at, IsRow}
use Rattle.actions_early_reads.proofs.Ends.{ends-in}
use Rattle.actions_early_reads.proofs.Early.{not_constant}
use Rattle.actions_early_reads.proofs.Staying.{fits-terms}
use Rattle.actions_forms.specs.Kinds.{IsTest, is_equation}
use Rattle.actions_forms.specs.Says.{SaysAnywhere, SaysAt, SaysFixed, SaysGiven, SaysRow, SaysTest, Says, outcome_at}
use Rattle.actions_forms.proofs.Outcomes.{form-of}
use Rattle.actions_forms.proofs.Telling.{says-along}

-- THE ROW OF A TERM

pub row-in : (w : Walk) (bound k : ℕ) (at : Place) (l : Level) (m : Meaning) → is_taken w.which l ≡ true → IsWalked w bound (suc k) (Placed at l m) → IsRow w bound k at m
row-in w bound k at l m taken walked = record {
  ready = walked.ready;
  within = walked.within;
  below = λ i ts q. (subst (λ (y : Meaning). MentionsBelow bound (Placed at l y)) q below) i (used at l i ts);
  fit = fits-terms (table_of w) w.variables bound k at l m walked.ready.smaller below walked.fits.orderly (elim (ends-in (table_of w) k at l m walked.fits.ends) [
    | inl c ↦ absurd (not_constant w.which l taken c)
    | inr each ↦ each
  ]);
}
  where
    below : MentionsBelow bound (Placed at l m)
    below = elim walked.fits.below [ inl c ↦ absurd (not_constant w.which l taken c) | inr h ↦ h ]

pub row-fixed : (w : Walk) (bound : ℕ) (B : VariableSet) (e : Term) (at : Place) (l : Level) (m : Meaning) (r : Result ℕ FormFault) → Placed at l m ≡ e → is_taken w.which l ≡ true → SaysRow w bound B at l m r → SaysFixed w bound B e r
row-fixed w bound B e at l m r seen taken says = subst (λ (f : Term). SaysFixed w bound B f r) seen whole
  where
    whole : SaysFixed w bound B (Placed at l m) r
    whole zero walked = absurd walked.fits.ends
    whole (suc k) walked = subst (λ (f : Form). Says r (form_outcome (setting_of w) k (outcome_at w k) (Placed at l m) B f)) (sym (form-of (setting_of w) zero at l m taken)) (says taken k (row-in w bound k at l m taken walked))

-- a row by the meaning that was found
pub kind-fixed : (w : Walk) (bound : ℕ) (B : VariableSet) (e : Term) (at : Place) (l : Level) (m n : Meaning) (r : Result ℕ FormFault) → Placed at l m ≡ e → is_taken w.which l ≡ true → m ≡ n → SaysAt w bound B at n r → SaysFixed w bound B e r
kind-fixed w bound B e at l m n r seen taken q says = row-fixed w bound B e at l m r seen taken (subst (λ (z : Meaning). SaysRow w bound B at l z r) (sym q) (says l))

-- TESTS

as_test : (b : Bool) (f : Form) → f ≡ test → (if b then f else test) ≡ test
as_test true f q = q
as_test false f q = refl

test-form : (g : Setting) (at : Place) (m : Meaning) → IsTest g.which m → meaning_form g zero at m ≡ test
test-form g at (term.All ts) h = absurd h
test-form g at (term.Any ts) h = absurd h
test-form g at (term.Quantified quantifier.Exists bs e) h = absurd h
test-form g at (term.If p e f) h = absurd h
test-form g at (term.Case cs) h = absurd h
test-form g at (term.CaseOther cs e) h = absurd h
test-form g at (term.Scoped ks e) h = absurd h
test-form g at (term.Parenthesized e) h = absurd h
test-form g at (term.Use k ts) h = absurd h
test-form g at (term.BoxAction e v) h = absurd h
test-form g at (term.AngleAction e v) h = absurd h
test-form g at (term.Prefix prefix.Unchanged e) h = absurd h
test-form g at (term.Infix o (term.First e) f) h = h
test-form g at m h = refl

-- a term whose form is a test
as_tested : (w : Walk) (bound : ℕ) (B : VariableSet) (at : Place) (l : Level) (m : Meaning) (r : Result ℕ FormFault) → form (setting_of w) zero (Placed at l m) ≡ test → SaysTest w bound B (Placed at l m) r → SaysFixed w bound B (Placed at l m) r
as_tested w bound B at l m r q says zero walked = absurd walked.fits.ends
as_tested w bound B at l m r q says (suc k) walked = subst (λ (f : Form). Says r (form_outcome (setting_of w) k (outcome_at w k) (Placed at l m) B f)) (sym q) (says (suc k) walked)

pub untaken-fixed : (w : Walk) (bound : ℕ) (B : VariableSet) (e : Term) (at : Place) (l : Level) (m : Meaning) (r : Result ℕ FormFault) → Placed at l m ≡ e → is_taken w.which l ≡ false → SaysTest w bound B e r → SaysFixed w bound B e r
untaken-fixed w bound B e at l m r seen q says =
    subst (λ (f : Term). SaysFixed w bound B f r) seen (as_tested w bound B at l m r (ap (λ (b : Bool). if b then meaning_form (setting_of w) zero at m else test) q) (subst (λ (f : Term). SaysTest w bound B f r) (sym seen) says))

pub test-fixed : (w : Walk) (bound : ℕ) (B : VariableSet) (e : Term) (at : Place) (l : Level) (m : Meaning) (r : Result ℕ FormFault) → Placed at l m ≡ e → IsTest w.which m → SaysTest w bound B e r → SaysFixed w bound B e r
test-fixed w bound B e at l m r seen is says =
    subst (λ (f : Term). SaysFixed w bound B f r) seen (as_tested w bound B at l m r (as_test (is_taken w.which l) (meaning_form (setting_of w) zero at m) (test-form (setting_of w) at m is)) (subst (λ (f : Term). SaysTest w bound B f r) (sym seen) says))

-- EQUATIONS AND MEMBERSHIPS

pub no-equation : (o : InfixOperator) (x : Option ℕ) (e : Term) → is_equation o ≡ false → infix_form o x e ≡ test
no-equation infix_operator.Equal x e q = absurd (cc)
no-equation infix_operator.Member x e q = absurd (cc)
no-equation o x e q = refl

pub no-target : (o : InfixOperator) (x : Option ℕ) (e : Term) → x ≡ None → infix_form o x e ≡ test
no-target o x e q = ap (λ (z : Option ℕ). infix_form o z e) q ∙ none o
  where
    none : (o : InfixOperator) → infix_form o None e ≡ test
    none infix_operator.Equal = refl
    none infix_operator.Member = refl
    none o = refl

-- the target of a step that is no prime, and of a prime
pub target-unprimed : (at : Place) (l : Level) (b : Term) (ss : Steps) (s : Step) → is_prime s ≡ false → target which.Action (Placed at l (term.Postfix b ss s)) ≡ None
target-unprimed at l (Placed q k (term.Variable x)) term.NoSteps term.Prime h = absurd (cc)
target-unprimed at l (Placed q k m) ss s h = refl

pub target-primed : (at : Place) (l : Level) (b : Term) → target which.Action (Placed at l (term.Postfix b term.NoSteps term.Prime)) ≡ target which.Init b
target-primed at l (Placed q j (term.Variable x)) = refl
target-primed at l (Placed q j m) = refl

pub target-behind : (at q : Place) (l : Level) (b : Term) (ss : Steps) (s t : Step) → target which.Action (Placed at l (term.Postfix b (term.MoreSteps ss q t) s)) ≡ None
target-behind at q l (Placed p k (term.Variable x)) ss s t = refl
target-behind at q l (Placed p k m) ss s t = refl

target_below : (ops : Table) (v : ℕ) (w : Which) (l : Term) (x : ℕ) → target w l ≡ Some x → IsSoundThroughout ops v l → x < v
target_below ops v which.Init (Placed at k (term.Variable y)) x q o =
    let s : y ≡ x = cc in subst (λ (z : ℕ). z < v) s (o (Placed at k (term.Variable y)) (itself (Placed at k (term.Variable y)))).1
target_below ops v which.Action (Placed at k (term.Postfix (Placed p j (term.Variable y)) term.NoSteps term.Prime)) x q o =
    let s : y ≡ x = cc in
    let inner : Term = Placed p j (term.Variable y) in
    subst (λ (z : ℕ). z < v) s (o inner (stands_in_part at k (term.Postfix inner term.NoSteps term.Prime) (part true inner) inner (contains_head (part true inner) []) (itself inner))).1
target_below ops v w l x q o = absurd (cc)

given_outcome : (g : Setting) (k : ℕ) (part : Term → VariableSet → FormOutcome) (a e : Term) (B : VariableSet) (x : ℕ) (o : InfixOperator) (t : Option ℕ) → t ≡ Some x → is_equation o ≡ true → form_outcome g k part a B (infix_form o t e) ≡ unless (early g B k e) (Ok (with_variable B x))
given_outcome g k part a e B x o t q is = ap (λ (z : Option ℕ). form_outcome g k part a B (infix_form o z e)) q ∙ whole o is
  where
    whole : (o : InfixOperator) → is_equation o ≡ true → form_outcome g k part a B (infix_form o (Some x) e) ≡ unless (early g B k e) (Ok (with_variable B x))
    whole infix_operator.Equal is = refl
    whole infix_operator.Member is = refl
    whole o is = absurd (cc)

pub given-row : (w : Walk) (bound : ℕ) (B : VariableSet) (o : InfixOperator) (x : ℕ) (l e : Term) (r : Result ℕ FormFault) → target w.which l ≡ Some x → is_equation o ≡ true → SaysGiven w bound B x e r → SaysAnywhere w bound B (term.Infix o (term.First l) e) r
given-row w bound B o x l e r q is says at k taken j row =
    let left : Fits (table_of w) w.variables bound j l = row.fit.0 in
    let below : x < w.variables = target_below (table_of w) w.variables w.which l x q left.orderly in
    says-along r (unless (early_at w B j e) (Ok (with_variable B x))) (form_outcome (setting_of w) j (outcome_at w j) (Placed at k (term.Infix o (term.First l) e)) B (infix_form o (target w.which l) e))
    (given_outcome (setting_of w) j (outcome_at w j) (Placed at k (term.Infix o (term.First l) e)) e B x o (target w.which l) q is)
    (says (omega (arith, row.ready.few)) j record { ready = row.ready; within = row.within; fits = row.fit.1.0 })
