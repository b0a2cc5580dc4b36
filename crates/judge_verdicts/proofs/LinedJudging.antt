-- What is explained is valid, and states have one verdict: of one log, and of logs whose lines may stand in several orders.
use Rattle.names_terms.specs.declared.spec.Spec.{Spec}
use Rattle.steps_lines_defs.specs.Logs.{Asked, system}
use Rattle.judge_truth.specs.Faults.{FaultsStay}
use Rattle.actions_form_laws.specs.Growth.{FormsStay}
use Rattle.states_verdicts.proofs.Law.{found_is_valid}
use Rattle.states_verdicts.proofs.One.{one_verdict}
use Rattle.judge_pairs.specs.Composing.{composed}
use Rattle.judge_pairs.specs.Filling.{pair_asks}
use Rattle.judge_pairs.proofs.Keeping.{monotone}
use Rattle.judge_verdicts.proofs.Explaining.{behaves_over}
use Rattle.logs_tied.specs.declared.logs.Lined.{Lined}
use Rattle.logs_tied.specs.declared.logs.Lined.TheVariants.{Sequence, Tied}
use Rattle.steps_tied.specs.Tied.{tied_system}
use Rattle.judge_verdicts.proofs.TiedJudging as tied
use Rattle.steps_lined.specs.Beside.{IsReadyOver}
use Rattle.judge_verdicts.specs.LinedLaws.{ExplainedAreStates, ExplainedIsJudgedValid, HaveOneOf}

pub explained_valid : (g : Spec) (lined : Lined) (asked : Asked) → FormsStay → FaultsStay → IsReadyOver g lined → ExplainedIsJudgedValid g lined asked
explained_valid g (Sequence log) asked stay keep ready w widest a =
    found_is_valid (pair_asks g log asked) (composed g log asked) (monotone stay keep g log asked ready) (record { init = a.1.clear.init; steps = a.1.clear.steps }) w a.1.behaves
explained_valid g (Tied logs) asked stay keep ready w widest a = tied.explained_valid g logs asked stay keep ready.0 ready.1 w widest a

pub explained_states : (g : Spec) (lined : Lined) (asked : Asked) → ExplainedAreStates g lined asked
explained_states g (Sequence log) asked w widest a = behaves_over g log asked (system g log asked).count w a.1.behaves
explained_states g (Tied logs) asked w widest a = tied.behaves_over g logs asked (tied_system g logs asked).count w a.1.behaves

pub have_one : (g : Spec) (lined : Lined) (asked : Asked) → IsReadyOver g lined → HaveOneOf g lined asked
have_one g (Sequence log) asked ready tellable w v u p q = one_verdict (pair_asks g log asked) (composed g log asked) w v u p q
have_one g (Tied logs) asked ready own w v u p q = tied.have_one g logs asked ready.1 own w v u p q
