-- What is explained over cuts is valid, and states have one verdict.
use Rattle.std.proofs.Common.{◌≡◌, ℕ, List, [], ◌∷◌, ◌++◌, length, sym, ◌∙◌, subst, refl}
use Rattle.std.specs.List.{All}
use Rattle.std.proofs.lemmas.List.Elements.{All-nil, All-push}
use Rattle.states_core.specs.Runs.{Run, start, wait, go}
use Rattle.states_core.specs.States.{shown}
use Rattle.states_core.specs.declared.state.Mark.TheVariants.{Init, Silent, Line}
use Rattle.states_core.specs.declared.state.Shown.{Shown}
use Rattle.names_terms.specs.declared.spec.Spec.{Spec}
use Rattle.logs_updates.specs.declared.line.Log.{Log}
use Rattle.steps_lines_defs.specs.Logs.{Asked}
use Rattle.steps_lines_defs.specs.Says.{IsState}
use Rattle.judge_truth.specs.Faults.{FaultsStay}
use Rattle.actions_form_laws.specs.Growth.{FormsStay}
use Rattle.states_verdicts.specs.Laws.{AreOne}
use Rattle.states_verdicts.specs.Verdicts.{IsVerdict}
use Rattle.states_verdicts.specs.declared.verdict.Verdict.{Verdict}
use Rattle.states_verdicts.proofs.Law.{found_is_valid}
use Rattle.states_verdicts.proofs.One.{one_verdict}
use Rattle.judge_pairs.specs.Composing.{composed}
use Rattle.judge_pairs.specs.Filling.{pair_asks}
use Rattle.judge_pairs.proofs.Keeping.{monotone}
use Rattle.logs_tied.specs.Lines.{AreTied}
use Rattle.logs_tied.specs.Named.{IsNamedLog}
use Rattle.logs_tied.specs.declared.logs.Logs.{Logs}
use Rattle.logs_tied.proofs.Marked.{name_one_order}
use Rattle.steps_tied.specs.Beside.{IsReadyBeside}
use Rattle.steps_tied.specs.Tied.{CutState, tied_system}
use Rattle.steps_tied.proofs.OfSpecs.{behaviours_are_named}
use Rattle.judge_verdicts.specs.TiedLaws.{BehavesOverTied, HaveOneTied, TiedExplainedIsValid}
use Rattle.judge_verdicts.proofs.Placing.{ready_named}

abbrev IsOf : Spec → Shown → Type 0
IsOf g x = IsState (length g.variables) x.state

module _ (g : Spec) (logs : Logs) (asked : Asked) where
  run_states : (n j : ℕ) (e : CutState) (w : List Shown) → Run (tied_system g logs asked) n j e w → All (IsOf g) w
  run_states n j e w (start u i s) = All-push (IsOf g) [] (shown Init u.state) (All-nil (IsOf g)) i.1.0
  run_states n j e w (wait m k u t v r lt le h) = All-push (IsOf g) v (shown Silent t.state) (run_states m k u v r) h.1.0
  run_states n j e w (go m k u t v r lt h) = All-push (IsOf g) v (shown (Line ((tied_system g logs asked).at m u t)) t.state) (run_states m k u v r) h.holds.0

  pub behaves_over : BehavesOverTied g logs asked
  behaves_over n w b = run_states n 0 b.0 w b.1

  pub explained_valid : FormsStay → FaultsStay → IsReadyBeside g logs → AreTied logs → TiedExplainedIsValid g logs asked
  explained_valid stay keep ready tied w widest a =
      let h = behaviours_are_named g logs asked tied w (record { init = a.1.clear.init; steps = a.1.clear.steps }) a.1.behaves in
      let log : Log = record { init = logs.init; lines = h.lines } in
      let named : IsNamedLog logs w log = record { init = refl; order = h.order; lined = h.lined; keeps = h.keeps } in
      record {
        log = log;
        named = named;
        verdict = found_is_valid (pair_asks g log asked) (composed g log asked) (monotone stay keep g log asked (ready_named logs w log named g ready)) h.faultless w h.behaves;
      }

  same_log : AreTied logs → (w : List Shown) (a b : Log) → IsNamedLog logs w a → IsNamedLog logs w b → a.lines ≡ b.lines → a ≡ b
  same_log tied w a b p q lines = λ i. record { init = (p.init ∙ sym q.init) i; lines = lines i }

  pub have_one : AreTied logs → HaveOneTied g logs asked
  have_one tied own w v u p q =
      let lines = (name_one_order logs.files.items logs.order tied.made own w p.named.order q.named.order p.log.lines q.log.lines p.named.lined q.named.lined p.named.keeps q.named.keeps).1 in
      let same = same_log tied w p.log q.log p.named q.named lines in
      one_verdict (pair_asks g q.log asked) (composed g q.log asked) w v u (subst (λ (log : Log). IsVerdict (pair_asks g log asked) w v) same p.verdict) q.verdict
