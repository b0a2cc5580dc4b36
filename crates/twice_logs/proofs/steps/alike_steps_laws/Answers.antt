use Rattle.twice_logs.specs.Steps.{AskAlike}
use Rattle.twice_logs.proofs.Together.{actions, answers_alike, ask_alike, verdicts_alike}
use Rattle.twice_logs.proofs.steps.alike_steps_laws.Goals as goal

pub returns : goal.returns
returns c =
    let asks : AskAlike = ask_alike (actions c.alike_action_laws.ensures.holds c.alike_action_laws.ensures.fails c.alike_action_laws.ensures.fixes) c.alike_outcome_laws.ensures.evaluates in
    record { asks = asks; answers = answers_alike asks; verdicts = verdicts_alike asks }
