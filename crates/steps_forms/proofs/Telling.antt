-- What the forms of one action tell of the whole.
use Rattle.std.proofs.Common.{◌≡◌, subst, sym, length}
use Rattle.std.specs.Prelude.{ℕ, Option, Some, IfSome, Result, Ok, Err, slice_get}
use Rattle.names_terms.specs.declared.ids.DefId.{DefId}
use Rattle.names_terms.specs.declared.operator.Operator.{Operator}
use Rattle.names_terms.specs.declared.spec.Spec.{Spec}
use Rattle.names_terms.specs.Terms.{Term}
use Rattle.actions_meanings.specs.declared.fault.FormFault.{FormFault}
use Rattle.actions_meanings.specs.declared.fault.FormFault.TheVariants.{PrimeTooEarly, NotFixed, NoMemory}
use Rattle.actions_meanings.specs.declared.which.Which.{Which}
use Rattle.actions_meanings.specs.declared.which.Which.TheVariants as which
use Rattle.actions_meanings.specs.Forms.{Setting}
use Rattle.actions_meanings.specs.Reads.{VariableSet, in_none}
use Rattle.actions_early_reads.specs.Sets.{shown}
use Rattle.actions_forms.specs.Says.{FormSays, WholeSays as Answered}
use Rattle.actions_forms.specs.Says as says
use Rattle.steps_lines_defs.specs.Says.{setting}
use Rattle.steps_forms.specs.Forms.{FormsSay, IsWhole, SilentOutcome, SilentSays, WholeSays, in_init, in_next, in_silent}

-- ONE OF THEM

-- the answer of the call without the set of variables
abbrev pub told : Result ℕ FormFault → Result (Unit {0}) FormFault
told (Ok c) = Ok tt
told (Err f) = Err f

whole_told : (g : Setting) (e : Term) (r : Result ℕ FormFault) → Answered g e in_none r → WholeSays g e (told r)
whole_told g e (Ok c) h = (shown c, h)
whole_told g e (Err (PrimeTooEarly x p)) h = h
whole_told g e (Err (NotFixed x p)) h = h
whole_told g e (Err NoMemory) h = tt

-- the call speaks of a number of variables and of a set that is none
pub whole_says : (w : Which) (s : Spec) (e : Term) (n c : ℕ) (r : Result ℕ FormFault) → n ≡ length s.variables → shown c ≡ in_none → Answered (says.setting w n s.operators) e (shown c) r → WholeSays (setting w s) e (told r)
whole_says w s e n c r count empty h =
    let a : Answered (says.setting w n s.operators) e in_none r = subst (λ (B : VariableSet). Answered (says.setting w n s.operators) e B r) empty h in
    whole_told (setting w s) e r (subst (λ (v : ℕ). Answered (says.setting w v s.operators) e in_none r) count a)

-- THE OPERATOR OF THE STEPS THAT NO LINE SHOWS

silent_told : (s : Spec) (d : DefId) (o : Operator) (r : Result ℕ FormFault) → s.silent ≡ Some d → slice_get s.operators d.0 ≡ Some o → FormSays (setting which.Action s) o.body in_none r → SilentSays s (told r)
silent_told s d o (Ok c) q is h = subst (λ (x : Option DefId). IfSome x (λ (k : DefId). (C : VariableSet) × SilentOutcome s k (Ok C))) (sym q) (shown c, (o, is, h))
silent_told s d o (Err (PrimeTooEarly x p)) q is h = (d, q, (o, is, h))
silent_told s d o (Err (NotFixed x p)) q is h = (d, q, (o, is, h))
silent_told s d o (Err NoMemory) q is h = tt

pub silent_says : (s : Spec) (d : DefId) (o : Operator) (n c : ℕ) (r : Result ℕ FormFault) → s.silent ≡ Some d → slice_get s.operators d.0 ≡ Some o → n ≡ length s.variables → shown c ≡ in_none → FormSays (says.setting which.Action n s.operators) o.body (shown c) r → SilentSays s (told r)
silent_says s d o n c r q is count empty h =
    let a : FormSays (says.setting which.Action n s.operators) o.body in_none r = subst (λ (B : VariableSet). FormSays (says.setting which.Action n s.operators) o.body B r) empty h in
    silent_told s d o r q is (subst (λ (v : ℕ). FormSays (says.setting which.Action v s.operators) o.body in_none r) count a)

-- THE WHOLE

pub init_wrong : (s : Spec) (f : FormFault) → WholeSays (setting which.Init s) s.init (Err f) → FormsSay s (Err f)
init_wrong s (PrimeTooEarly x p) h = in_init (PrimeTooEarly x p) h
init_wrong s (NotFixed x p) h = in_init (NotFixed x p) h
init_wrong s NoMemory h = tt

pub next_wrong : (s : Spec) (f : FormFault) → IsWhole (setting which.Init s) s.init → WholeSays (setting which.Action s) s.next (Err f) → FormsSay s (Err f)
next_wrong s (PrimeTooEarly x p) a h = in_next (PrimeTooEarly x p) a h
next_wrong s (NotFixed x p) a h = in_next (NotFixed x p) a h
next_wrong s NoMemory a h = tt

pub silent_last : (s : Spec) (r : Result (Unit {0}) FormFault) → IsWhole (setting which.Init s) s.init → IsWhole (setting which.Action s) s.next → SilentSays s r → FormsSay s r
silent_last s (Ok u) a b h = record { init = a; next = b; silent = h }
silent_last s (Err (PrimeTooEarly x p)) a b h = in_silent h.0 (PrimeTooEarly x p) a b h.1 h.2
silent_last s (Err (NotFixed x p)) a b h = in_silent h.0 (NotFixed x p) a b h.1 h.2
silent_last s (Err NoMemory) a b h = tt
