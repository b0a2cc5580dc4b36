-- Whether the actions of a specification have forms, each run where nothing is fixed: Init and Next must fix every variable, and the operator of the steps that
-- no line shows, where there is one, must have a form.
use Rattle.std.specs.Prelude.{◌≡◌, Some, IfSome, Result, Ok, Err, slice_get}
use Rattle.names_terms.specs.declared.ids.DefId.{DefId}
use Rattle.names_terms.specs.declared.operator.Operator.{Operator}
use Rattle.names_terms.specs.declared.spec.Spec.{Spec}
use Rattle.names_terms.specs.Terms.{Term}
use Rattle.actions_meanings.specs.declared.fault.FormFault.{FormFault}
use Rattle.actions_meanings.specs.declared.fault.FormFault.TheVariants.{PrimeTooEarly, NotFixed, NoMemory}
use Rattle.actions_meanings.specs.declared.which.Which.TheVariants as which
use Rattle.actions_meanings.specs.Forms.{Setting}
use Rattle.actions_meanings.specs.Reads.{VariableSet, in_none}
use Rattle.actions_meanings.specs.Outcomes.{FormOutcome, IsOutcome, IsWholeOutcome}
use Rattle.steps_lines_defs.specs.Says.{setting}

-- the term fixes every variable
abbrev pub IsWhole : Setting → Term → Type 0
IsWhole g e = (C : VariableSet) × IsWholeOutcome g e in_none (Ok C)

-- what comes of the operator of that number
abbrev pub SilentOutcome : Spec → DefId → FormOutcome → Type 0
SilentOutcome s d r = (o : Operator) × (slice_get s.operators d.0 ≡ Some o) × IsOutcome (setting which.Action s) o.body in_none r

abbrev pub HasSilentForm : Spec → Type 0
HasSilentForm s = IfSome s.silent (λ d. (C : VariableSet) × SilentOutcome s d (Ok C))

pub record AreWhole (s : Spec) : Type 0 where
  pub init : IsWhole (setting which.Init s) s.init
  pub next : IsWhole (setting which.Action s) s.next
  pub silent : HasSilentForm s

-- The first of Init, Next and that operator in which something is wrong, and the first thing that is wrong there.
pub data IsFirstFault (s : Spec) : FormFault → Type 0 where
  in_init : (f : FormFault) → IsWholeOutcome (setting which.Init s) s.init in_none (Err f) → IsFirstFault s f
  in_next : (f : FormFault) → IsWhole (setting which.Init s) s.init → IsWholeOutcome (setting which.Action s) s.next in_none (Err f) → IsFirstFault s f
  in_silent : (d : DefId) (f : FormFault) → IsWhole (setting which.Init s) s.init → IsWhole (setting which.Action s) s.next → s.silent ≡ Some d → SilentOutcome s d (Err f) → IsFirstFault s f

-- all have their forms, or the first fault, or memory is wanting
abbrev pub FormsSay : Spec → Result (Unit {0}) FormFault → Type 0
FormsSay s (Ok u) = AreWhole s
FormsSay s (Err (PrimeTooEarly x p)) = IsFirstFault s (PrimeTooEarly x p)
FormsSay s (Err (NotFixed x p)) = IsFirstFault s (NotFixed x p)
FormsSay s (Err NoMemory) = Unit {0}

-- the same of one of them
abbrev pub WholeSays : Setting → Term → Result (Unit {0}) FormFault → Type 0
WholeSays g e (Ok u) = IsWhole g e
WholeSays g e (Err (PrimeTooEarly x p)) = IsWholeOutcome g e in_none (Err (PrimeTooEarly x p))
WholeSays g e (Err (NotFixed x p)) = IsWholeOutcome g e in_none (Err (NotFixed x p))
WholeSays g e (Err NoMemory) = Unit {0}

abbrev pub IsSilentFault : Spec → FormFault → Type 0
IsSilentFault s f = (d : DefId) × (s.silent ≡ Some d) × SilentOutcome s d (Err f)

abbrev pub SilentSays : Spec → Result (Unit {0}) FormFault → Type 0
SilentSays s (Ok u) = HasSilentForm s
SilentSays s (Err (PrimeTooEarly x p)) = IsSilentFault s (PrimeTooEarly x p)
SilentSays s (Err (NotFixed x p)) = IsSilentFault s (NotFixed x p)
SilentSays s (Err NoMemory) = Unit {0}
