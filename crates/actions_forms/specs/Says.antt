-- What code that takes a term apart as an action answers.
use Rattle.std.specs.Prelude.{◌≡◌, ◌<◌, ◌≤◌, ◌∷◌, ◌++◌, [], ℕ, suc, true, List, Option, Some, None, Result, Ok, Err, map, length, slice_get}
use Rattle.std.specs.List.{AllByRecursion as Each}
use Rattle.base_core.specs.declared.place.Place.{Place}
use Rattle.names_terms.specs.declared.level.Level.{Level}
use Rattle.names_terms.specs.Lists.{arms_list}
use Rattle.names_terms.specs.Terms as term
use Rattle.names_terms.specs.Terms.{Term, Placed, Meaning, Terms, Arms, place_of}
use Rattle.names_term_parts.specs.Parts.{arm_list}
use Rattle.eval_meanings.specs.Contexts.{Table}
use Rattle.eval_meanings.specs.Unchanged.{unchanged_of}
use Rattle.actions_meanings.specs.declared.which.Which.{Which}
use Rattle.actions_meanings.specs.declared.fault.FormFault.{FormFault}
use Rattle.actions_meanings.specs.declared.fault.FormFault.TheVariants.{PrimeTooEarly, NotFixed, NoMemory}
use Rattle.actions_meanings.specs.Forms.{Setting, is_taken, meaning_form}
use Rattle.actions_meanings.specs.Reads.{VariableSet, body_of, reads_primed, with_variable}
use Rattle.actions_meanings.specs.Outcomes.{FormOutcome, Arm, arms_of, case_arms, early_variable, first_early, form_outcome, least, next, outcome_within, outside, through, together, too_early, unless, IsOutcome, IsWholeOutcome}
use Rattle.actions_early_reads.specs.declared.walking.Walk.{Walk}
use Rattle.actions_early_reads.specs.Sets.{shown}
use Rattle.actions_early_reads.specs.Keeping.{Fits}
use Rattle.actions_early_reads.specs.Ready.{table_of, setting_of, IsReady, IsWalked}
use Rattle.actions_early_reads.specs.Opened.{early_at, IsRow}
use Rattle.actions_forms.specs.declared.arms.Arm.{Arm as Ended}
use Rattle.actions_forms.specs.declared.forks.Fork.{Fork}
use Rattle.actions_forms.specs.Arms.{arm_of}
use Rattle.actions_forms.specs.Forks.{closed, fork_arms}

-- the outcome is that fault, or memory is wanting
abbrev pub Stops : {A : Type 0} → FormFault → Result A FormFault → Type 0
Stops (PrimeTooEarly x p) r = r ≡ Err (PrimeTooEarly x p)
Stops (NotFixed x p) r = r ≡ Err (NotFixed x p)
Stops NoMemory r = Unit {0}

-- the answer is this outcome, or want of memory
abbrev pub Says : Result ℕ FormFault → FormOutcome → Type 0
Says (Ok c) r = r ≡ Ok (shown c)
Says (Err f) r = Stops f r

-- the fault that was found is this one, or memory is wanting
abbrev pub Finds : FormFault → Option FormFault → Type 0
Finds (PrimeTooEarly x p) o = o ≡ Some (PrimeTooEarly x p)
Finds (NotFixed x p) o = o ≡ Some (NotFixed x p)
Finds NoMemory o = Unit {0}

-- nothing was found, or that fault
abbrev pub Lets : {A : Type 0} → Result A FormFault → Option FormFault → Type 0
Lets (Ok a) o = o ≡ None
Lets (Err f) o = Finds f o

abbrev pub outcome_at : Walk → ℕ → Term → VariableSet → FormOutcome
outcome_at w k e B = outcome_within (setting_of w) k e B

-- what a term leaves fixed
abbrev pub SaysFixed : Walk → ℕ → VariableSet → Term → Result ℕ FormFault → Type 0
SaysFixed w bound B e r = (k : ℕ) → IsWalked w bound k e → Says r (outcome_at w k e B)

-- terms in order
pub record AreWalked (w : Walk) (bound k : ℕ) (es : List Term) : Type 0 where
  pub ready : IsReady w
  pub within : bound ≤ length (table_of w)
  pub fit : Each (Fits (table_of w) w.variables bound k) es

-- what a row leaves fixed, at a place and a level that is taken apart
abbrev pub SaysRow : Walk → ℕ → VariableSet → Place → Level → Meaning → Result ℕ FormFault → Type 0
SaysRow w bound B at l m r =
    is_taken w.which l ≡ true → (k : ℕ) → IsRow w bound k at m → Says r (form_outcome (setting_of w) k (outcome_at w k) (Placed at l m) B (meaning_form (setting_of w) 0 at m))

abbrev pub SaysAt : Walk → ℕ → VariableSet → Place → Meaning → Result ℕ FormFault → Type 0
SaysAt w bound B at m r = (l : Level) → SaysRow w bound B at l m r

abbrev pub SaysAnywhere : Walk → ℕ → VariableSet → Meaning → Result ℕ FormFault → Type 0
SaysAnywhere w bound B m r = (at : Place) → SaysAt w bound B at m r

-- whether a term has a read that is too early; what a term that is a test leaves fixed
abbrev pub LetsTerm : {A : Type 0} → Walk → ℕ → VariableSet → Term → Result A FormFault → Type 0
LetsTerm w bound B e r = (k : ℕ) → IsWalked w bound k e → Lets r (early_at w B k e)

abbrev pub SaysTest : Walk → ℕ → VariableSet → Term → Result ℕ FormFault → Type 0
SaysTest w bound B e r = (k : ℕ) → IsWalked w bound k e → Says r (unless (early_at w B k e) (Ok B))

abbrev pub SaysGiven : Walk → ℕ → VariableSet → ℕ → Term → Result ℕ FormFault → Type 0
SaysGiven w bound B x e r = x < 64 → (k : ℕ) → IsWalked w bound k e → Says r (unless (early_at w B k e) (Ok (with_variable B x)))

-- UNCHANGED
abbrev pub SaysKept : Which → VariableSet → Place → ℕ → Result ℕ FormFault → Type 0
SaysKept which B at x r = x < 64 → Says r (unless (early_variable which B at x) (Ok (with_variable B x)))

abbrev pub SaysStill : Walk → ℕ → VariableSet → Place → Term → Result ℕ FormFault → Type 0
SaysStill w bound B at e r = (k : ℕ) → IsWalked w bound k e → Says r (unless (early_at w B (suc k) (unchanged_of at e)) (Ok B))

abbrev pub SaysStays : Walk → ℕ → VariableSet → Place → Term → Result ℕ FormFault → Type 0
SaysStays w bound B at e r = (k : ℕ) → IsWalked w bound k e → Says r (outcome_at w (suc k) (unchanged_of at e) B)

abbrev pub SaysItems : Walk → ℕ → VariableSet → Place → Terms → List Term → Result ℕ FormFault → Type 0
SaysItems w bound B at ts es r = (p : Place) (l : Level) (k : ℕ) → IsWalked w bound k (Placed p l (term.Tuple ts)) → Says r (through (outcome_at w k) (map (unchanged_of at) es) B)

-- arms
abbrev pub TellsArms : Walk → ℕ → VariableSet → List Term → List Ended → Type 0
TellsArms w bound B es arms = (k : ℕ) → AreWalked w bound k es → arms_of (outcome_at w k) B es ≡ Ok (map arm_of arms)

abbrev pub ArmsStop : Walk → ℕ → VariableSet → List Term → FormFault → Type 0
ArmsStop w bound B es f = (k : ℕ) → AreWalked w bound k es → Stops f (arms_of (outcome_at w k) B es)

abbrev pub case_at : Walk → ℕ → VariableSet → List (Term × Term) → Option Term → Result (List Arm) FormFault
case_at w k B cs other = case_arms (early_at w B k) (outcome_at w k) B cs other

-- the arms of a CASE before its OTHER
abbrev pub TellsCase : Walk → ℕ → VariableSet → Arms → List Ended → Type 0
TellsCase w bound B cs arms = (k : ℕ) (other : Option Term) → AreWalked w bound k (arm_list cs) → case_at w k B (arms_list cs) other ≡ next (case_at w k B [] other) (λ more. Ok (map arm_of arms ++ more))

abbrev pub CaseStops : Walk → ℕ → VariableSet → Arms → FormFault → Type 0
CaseStops w bound B cs f = (k : ℕ) (other : Option Term) → AreWalked w bound k (arm_list cs) → Stops f (case_at w k B (arms_list cs) other)

-- IF
abbrev pub branch_at : Walk → ℕ → VariableSet → Term → Term → Term → FormOutcome
branch_at w k B p e f = unless (early_at w B k p) (next (arms_of (outcome_at w k) B (e ∷ f ∷ [])) (together w.variables B))

abbrev pub IsFork : Walk → ℕ → VariableSet → Term → Term → Term → Fork → Type 0
IsFork w bound B p e f c = (k : ℕ) → AreWalked w bound k (p ∷ e ∷ f ∷ []) → branch_at w k B p e f ≡ next (outcome_at w k f B) (λ D. together w.variables B (fork_arms c D))

abbrev pub ForkStops : Walk → ℕ → VariableSet → Term → Term → Term → FormFault → Type 0
ForkStops w bound B p e f s = (k : ℕ) → AreWalked w bound k (p ∷ e ∷ f ∷ []) → Stops s (branch_at w k B p e f)

-- what IFs leave fixed, where the last term is the other arm of the innermost
abbrev pub SaysClosed : Walk → ℕ → VariableSet → List Fork → Term → Result ℕ FormFault → Type 0
SaysClosed w bound B forks last r = (k : ℕ) → IsWalked w bound k last → Says r (closed w.variables B forks (outcome_at w k last B))

-- the body of a definition
abbrev pub SaysBody : Walk → ℕ → VariableSet → ℕ → Result ℕ FormFault → Type 0
SaysBody w bound B i r = (at : Place) (ts : Terms) (k : ℕ) → IsRow w bound k at (term.Use i ts) → Says r (through (outcome_at w k) (body_of (slice_get (table_of w) i)) B)

abbrev pub LetsTerms : {A : Type 0} → Walk → ℕ → VariableSet → List Term → Result A FormFault → Type 0
LetsTerms w bound B es r = (k : ℕ) → AreWalked w bound k es → Lets r (first_early (early_at w B k) es)

-- whether a term reads a variable that is not fixed under a prime
abbrev pub LetsPrimed : {A : Type 0} → Walk → ℕ → VariableSet → Place → Term → Result A FormFault → Type 0
LetsPrimed w bound B at e r = (k : ℕ) → IsWalked w bound k e → Lets r (too_early at (least w.variables (outside B (reads_primed (table_of w) k e term.NoSteps))))

abbrev pub setting : Which → ℕ → Table → Setting
setting which variables ops = record { which = which; variables = variables; table = ops }

-- what the term leaves fixed, or the first thing that is wrong with its form
abbrev pub FormSays : Setting → Term → VariableSet → Result ℕ FormFault → Type 0
FormSays g a B (Ok c) = IsOutcome g a B (Ok (shown c))
FormSays g a B (Err (PrimeTooEarly x p)) = IsOutcome g a B (Err (PrimeTooEarly x p))
FormSays g a B (Err (NotFixed x p)) = IsOutcome g a B (Err (NotFixed x p))
FormSays g a B (Err NoMemory) = Unit {0}

-- the same, where each variable must be fixed at the end
abbrev pub WholeSays : Setting → Term → VariableSet → Result ℕ FormFault → Type 0
WholeSays g a B (Ok c) = IsWholeOutcome g a B (Ok (shown c))
WholeSays g a B (Err (PrimeTooEarly x p)) = IsWholeOutcome g a B (Err (PrimeTooEarly x p))
WholeSays g a B (Err (NotFixed x p)) = IsWholeOutcome g a B (Err (NotFixed x p))
WholeSays g a B (Err NoMemory) = Unit {0}
