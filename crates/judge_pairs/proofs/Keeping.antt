-- A fault at given states, where all variables are fixed before, is one that a search meets, where fewer are.
use Rattle.std.proofs.Common.{◌≡◌, inl, inr, refl, sym, subst, ◌∙◌, ℕ, []}
use Rattle.std.specs.Prelude.{Option, Some, None}
use Rattle.states_core.specs.States.{Values}
use Rattle.states_core.specs.declared.fault.Fault.{Fault}
use Rattle.names_terms.specs.declared.operator.Operator.{Operator}
use Rattle.names_terms.specs.declared.spec.Spec.{Spec}
use Rattle.eval_meanings.specs.Evaluates.{max_evaluations}
use Rattle.actions_meanings.specs.declared.which.Which.TheVariants as which
use Rattle.actions_meanings.specs.Fails.{Fails}
use Rattle.actions_meanings.specs.Reads.{VariableSet, in_none}
use Rattle.logs_updates.specs.declared.line.Line.{Line}
use Rattle.logs_updates.specs.declared.line.Log.{Log}
use Rattle.steps_lines_defs.specs.Says.{Act, ActFails, BothFail, InitFails, NextFails, at_states, setting}
use Rattle.steps_lines_defs.specs.Asks.{act_of, updated}
use Rattle.steps_lines_defs.specs.Steps.{silent_act}
use Rattle.steps_lines_defs.specs.Logs.{Asked}
use Rattle.judge_truth.specs.Truths.{everything}
use Rattle.judge_truth.specs.Faults.{FaultsStay}
use Rattle.actions_form_laws.specs.Growth.{FormsStay}
use Rattle.states_verdicts.specs.Asks.{FaultStep, IsMonotone}
use Rattle.steps_ready_defs.specs.Ready.{IsReadyAct, IsReadyLine, IsReadySpec}
use Rattle.steps_ready_defs.specs.Beside.{IsReady}
use Rattle.judge_pairs.specs.Filling.{BothFailThere, pair_asks}
use Rattle.judge_pairs.proofs.Fixed.{form_from_none, init_form, next_form, silent_ready}
use Rattle.judge_pairs.proofs.Lines.{line_has}
use Rattle.judge_pairs.proofs.Orders.{body_orderly, init_orderly, next_orderly}

same_operator : (o q : Operator) → ◌≡◌ {A = Option Operator} (Some o) (Some q) → o ≡ q
same_operator o q e = cc

some_same : (l m : Line) → ◌≡◌ {A = Option Line} (Some l) (Some m) → l ≡ m
some_same l m e = cc

module _ (stay : FormsStay) (keep : FaultsStay) (g : Spec) (ready : IsReadySpec g) where
  init_keeps : (t : Values) (f : Fault) → InitFails g everything t f → InitFails g in_none t f
  init_keeps t f h =
      let form = init_form g ready in
      keep (setting which.Init g) max_evaluations 0 in_none form.0 (at_states [] t t) g.init f (init_orderly g ready.ordered) ready.ordered.init.1 form.1 h

  next_keeps : (B : VariableSet) (s t : Values) (f : Fault) → NextFails g everything s t f → NextFails g B s t f
  next_keeps B s t f h =
      let form = form_from_none stay (setting which.Action g) g.next B (next_form g ready) in
      keep (setting which.Action g) max_evaluations 0 B form.0 (at_states [] s t) g.next f (next_orderly g ready.ordered) ready.ordered.next.1 form.1 h

  act_keeps : (B : VariableSet) (a : Act) → IsReadyAct g B a → (s t : Values) (f : Fault) → ActFails g a everything s t f → ActFails g a B s t f
  act_keeps B a r s t f h =
      let o = r.0 in
      let call = r.2 in
      let b = body_orderly g ready.ordered a.operator o r.1 call.named call.level in
      let own : Fails (setting which.Action g) max_evaluations everything (at_states a.arguments s t) o.body f =
      subst (λ (q : Operator). Fails (setting which.Action g) max_evaluations everything (at_states a.arguments s t) q.body f) (same_operator h.0 o (sym h.1 ∙ r.1)) h.2 in
      (o, r.1, keep (setting which.Action g) max_evaluations o.params B call.form.0 (at_states a.arguments s t) o.body f b.0 b.1 call.form.1 own)

  both_keeps : (B : VariableSet) (o : Option Act) → ((a : Act) → o ≡ Some a → IsReadyAct g B a) → (s t : Values) (f : Fault) → BothFailThere g o s t f → BothFail g o B s t f
  both_keeps B None r s t f h = next_keeps B s t f h
  both_keeps B (Some a) r s t f (inl h) = inl (act_keeps B a (r a refl) s t f h)
  both_keeps B (Some a) r s t f (inr h) =
      let c = r a refl in
      inr (h.0, (c.2.form.0, (c.0, c.1, c.2.form.1), next_keeps c.2.form.0 s t f h.1))

module _ (stay : FormsStay) (keep : FaultsStay) (g : Spec) (log : Log) (asked : Asked) (ready : IsReady g log) where
  step_keeps : (n : ℕ) (s t : Values) (f : Fault) → FaultStep (pair_asks g log asked) n s t f → (pair_asks g log asked).system.FaultStep n s t f
  step_keeps n s t f h =
      let l = h.0.0 in
      let at = h.0.1 in
      let own : BothFailThere g (act_of l.event) s t f = subst (λ (m : Line). BothFailThere g (act_of m.event) s t f) (some_same h.1.0 l (sym h.1.1 ∙ at)) h.1.2 in
      let fits = line_has log.lines n l at (IsReadyLine g) ready.lines in
      (l, at, (h.0.2.0, h.0.2.1, both_keeps stay keep g ready.spec (updated l.updates) (act_of l.event) fits.event s t f own))

  pub monotone : IsMonotone (pair_asks g log asked)
  monotone = record {
    init = λ t f h. (h.0, init_keeps stay keep g ready.spec t f h.1);
    step = λ n s t f l h. step_keeps n s t f h;
    silent = λ s t f h. (h.0, both_keeps stay keep g ready.spec in_none (silent_act g.silent) (silent_ready g ready.spec) s t f h.1);
  }
