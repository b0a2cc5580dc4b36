-- The parts of what is ready.
use Rattle.std.proofs.Common.{◌≡◌, ◌∙◌, ap, subst, ℕ, List, [], length}
use Rattle.std.specs.Prelude.{Option, Some, None, IfSome, IfOk, Result, Ok}
use Rattle.reading_trees.specs.declared.config.Config.{Config}
use Rattle.reading_trees.specs.declared.module.Program.{Program}
use Rattle.names_terms.specs.declared.ids.DefId.{DefId}
use Rattle.names_terms.specs.declared.spec.Spec.{Spec}
use Rattle.names_terms.specs.Lists.{terms_list}
use Rattle.names_program.specs.InUnits.{assumptions_in}
use Rattle.names_resolving.specs.declared.fault.ResolveFault.{ResolveFault}
use Rattle.names_resolving.specs.Resolved.{Resolved, accepted, no_operator, no_shape, no_value, too_high, too_many_variables, wrong_given, wrong_level, wrong_name}
use Rattle.actions_meanings.specs.Reads.{VariableSet, in_none}
use Rattle.steps_lines_defs.specs.Says.{Act, ActFixes}
use Rattle.steps_lines_defs.specs.Steps.{silent_act}
use Rattle.names_resolved_laws.specs.InOrder.{ResolvedAreInOrder}
use Rattle.steps_forms.specs.Forms.{HasSilentForm, SilentOutcome}
use Rattle.steps_ready_lines.specs.Readiness.{AssumptionsAreCounted, ResolvedAreReady, WholeAreReady}

silent_at : (s : Spec) (o : Option DefId) → IfSome o (λ (d : DefId). (C : VariableSet) × SilentOutcome s d (Ok C)) → (a : Act) → silent_act o ≡ Some a → (C : VariableSet) × ActFixes s a in_none C
silent_at s None h a q = absurd (cc)
silent_at s (Some d) h a q =
    let own : Act = record { operator = d.0; arguments = [] } in
    let same : own ≡ a = cc in
    subst (λ (x : Act). (C : VariableSet) × ActFixes s x in_none C) same h

silent_ready : (s : Spec) → HasSilentForm s → (a : Act) → silent_act s.silent ≡ Some a → (C : VariableSet) × ActFixes s a in_none C
silent_ready s h = silent_at s s.silent h

pub whole_are_ready : WholeAreReady
whole_are_ready s is known forms = record {
  ordered = is;
  known = known;
  init = forms.init;
  next = forms.next;
  silent = silent_ready s forms.silent;
}

pub resolved_are_ready : ResolvedAreInOrder → ResolvedAreReady
resolved_are_ready law p c silent s well resolved known forms = whole_are_ready s (law p c silent s well resolved) known forms

counted_at : (p : Program) (c : Config) (silent : Option (List ℕ)) (r : Result Spec ResolveFault) → Resolved p c silent r → IfOk r (λ (s : Spec). length (terms_list s.assumes) ≡ length (assumptions_in p.units))
counted_at p c silent _ (too_many_variables d e) = tt
counted_at p c silent _ (wrong_name f a b) = tt
counted_at p c silent _ (no_value d a b e) = tt
counted_at p c silent _ (wrong_given values number ops assumes f a b) = tt
counted_at p c silent _ (wrong_level values number ops assumes f a b e) = tt
counted_at p c silent _ (no_operator values number ops assumes n a b) = tt
counted_at p c silent _ (no_shape values number ops assumes at a b) = tt
counted_at p c silent _ (too_high values number ops assumes f a b e) = tt
counted_at p c silent _ (accepted values number ops assumes s conf low is) = ap length is.assumes_are ∙ conf.levelled.named.assumed.as_many

pub assumptions_are_counted : AssumptionsAreCounted
assumptions_are_counted p c silent s h = counted_at p c silent (Ok s) h
