-- Faults and answers, stage by stage.
use Rattle.std.proofs.Common.{◌≡◌, ap, sym, refl, subst}
use Rattle.std.specs.Prelude.{ℕ, List, Option, Some, None, Result, Ok, Err, MatchResult}
use Rattle.actions_meanings.specs.declared.fault.FormFault.{FormFault}
use Rattle.actions_meanings.specs.declared.fault.FormFault.TheVariants.{PrimeTooEarly, NotFixed, NoMemory}
use Rattle.base_core.specs.declared.place.Place.{Place}
use Rattle.names_terms.specs.Terms as term
use Rattle.names_terms.specs.Terms.{Term}
use Rattle.actions_meanings.specs.Reads.{VariableSet, reads_primed}
use Rattle.actions_meanings.specs.Outcomes.{FormOutcome, first_early, least, next, outside, too_early, unless}
use Rattle.actions_early_reads.specs.declared.walking.Walk.{Walk}
use Rattle.actions_early_reads.specs.Ready.{table_of, IsWalked}
use Rattle.actions_early_reads.specs.Opened.{early_at}
use Rattle.actions_forms.specs.Says.{AreWalked, Finds, Lets, Says, Stops}

pub stops-self : {A : Type 0} (f : FormFault) (r : Result A FormFault) → r ≡ Err f → Stops f r
stops-self (PrimeTooEarly x p) r q = q
stops-self (NotFixed x p) r q = q
stops-self NoMemory r q = tt

pub stops-next : {A B : Type 0} (f : FormFault) (r : Result A FormFault) (go : A → Result B FormFault) → Stops f r → Stops f (next r go)
stops-next (PrimeTooEarly x p) r go q = ap (λ z. next z go) q
stops-next (NotFixed x p) r go q = ap (λ z. next z go) q
stops-next NoMemory r go q = tt

pub stops-unless : {A : Type 0} (f : FormFault) (o : Option FormFault) (r : Result A FormFault) → Finds f o → Stops f (unless o r)
stops-unless (PrimeTooEarly x p) o r q = ap (λ z. unless z r) q
stops-unless (NotFixed x p) o r q = ap (λ z. unless z r) q
stops-unless NoMemory o r q = tt

pub finds-self : (f : FormFault) (o : Option FormFault) → o ≡ Some f → Finds f o
finds-self (PrimeTooEarly x p) o q = q
finds-self (NotFixed x p) o q = q
finds-self NoMemory o q = tt

pub says-self : (f : FormFault) (r : FormOutcome) → r ≡ Err f → Says (Err f) r
says-self f r q = stops-self f r q

pub lets-along : {A : Type 0} (r : Result A FormFault) (o p : Option FormFault) → p ≡ o → Lets r o → Lets r p
lets-along r o p q h = subst (λ (z : Option FormFault). Lets r z) (sym q) h

pub stops-along : {A : Type 0} (f : FormFault) (r s : Result A FormFault) → s ≡ r → Stops f r → Stops f s
stops-along {A} f r s q h = subst (λ (z : Result A FormFault). Stops f z) (sym q) h

pub says-along : (r : Result ℕ FormFault) (a b : FormOutcome) → b ≡ a → Says r a → Says r b
says-along r a b q h = subst (λ (z : FormOutcome). Says r z) (sym q) h

-- nothing was found before
pub lets-none : {A : Type 0} (o : Option FormFault) (r : Result A FormFault) → o ≡ None → unless o r ≡ r
lets-none o r q = ap (λ z. unless z r) q

pub next-ok : (r : FormOutcome) → next r (λ C. Ok C) ≡ r
next-ok (Ok c) = refl
next-ok (Err f) = refl

-- the answer of a function that goes on where nothing was found
pub says-unless : {A : Type 0} (l : Result A FormFault) (o : Option FormFault) (r : FormOutcome) (s : Result ℕ FormFault) → Lets l o → MatchResult l (λ u. Says s r) (λ f. s ≡ Err f) → Says s (unless o r)
says-unless (Ok u) o r s lets go = says-along s r (unless o r) (ap (λ z. unless z r) lets) go
says-unless (Err f) o r s lets go = subst (λ (z : Result ℕ FormFault). Says z (unless o r)) (sym go) (stops-unless f o r lets)

-- that nothing is read too early, or that fault

abbrev pub ClearTerm : Walk → ℕ → VariableSet → Term → Type 0
ClearTerm w bound B e = (k : ℕ) → IsWalked w bound k e → early_at w B k e ≡ None

abbrev pub FindsTerm : Walk → ℕ → VariableSet → Term → FormFault → Type 0
FindsTerm w bound B e f = (k : ℕ) → IsWalked w bound k e → Finds f (early_at w B k e)

abbrev pub ClearTerms : Walk → ℕ → VariableSet → List Term → Type 0
ClearTerms w bound B es = (k : ℕ) → AreWalked w bound k es → first_early (early_at w B k) es ≡ None

abbrev pub FindsTerms : Walk → ℕ → VariableSet → List Term → FormFault → Type 0
FindsTerms w bound B es f = (k : ℕ) → AreWalked w bound k es → Finds f (first_early (early_at w B k) es)

abbrev pub primed_at : Walk → ℕ → VariableSet → Place → Term → Option FormFault
primed_at w k B at e = too_early at (least w.variables (outside B (reads_primed (table_of w) k e term.NoSteps)))

abbrev pub ClearPrimed : Walk → ℕ → VariableSet → Place → Term → Type 0
ClearPrimed w bound B at e = (k : ℕ) → IsWalked w bound k e → primed_at w k B at e ≡ None

abbrev pub FindsPrimed : Walk → ℕ → VariableSet → Place → Term → FormFault → Type 0
FindsPrimed w bound B at e f = (k : ℕ) → IsWalked w bound k e → Finds f (primed_at w k B at e)
