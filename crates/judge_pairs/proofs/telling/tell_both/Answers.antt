use Rattle.std.proofs.Common.{subst}
use Rattle.std.proofs.lemmas.Result.{IfOk-weaker}
use Rattle.states_verdicts.specs.declared.pairs.Told.{Told}
use Rattle.judge_pairs.specs.Telling.{IsActTold, act_at}
use Rattle.judge_pairs.proofs.Told.{fails_so, faults_so, holds_then}
use Rattle.judge_pairs.proofs.telling.tell_both.Goals as goal

pub returns-in-Holds : goal.returns-in-Holds
returns-in-Holds c =
    let b = c.args.between in
    let a = act_at c.args.operator c.args.arguments.now in
    let h = subst (λ (r : Told). IsActTold b a r) c.in-Holds.is c.in_ok-told.ensures in
    IfOk-weaker c.tell_next.result _ _ (λ r n. holds_then b.spec.now a b.from.now b.to.now r h n) c.tell_next.ensures

pub returns-in-Fails : goal.returns-in-Fails
returns-in-Fails c =
    let b = c.args.between in
    let a = act_at c.args.operator c.args.arguments.now in
    fails_so b.spec.now a b.from.now b.to.now (subst (λ (r : Told). IsActTold b a r) c.in-Fails.is c.in_ok-told.ensures)

pub returns-in-Faults : goal.returns-in-Faults
returns-in-Faults c =
    let b = c.args.between in
    let a = act_at c.args.operator c.args.arguments.now in
    faults_so b.spec.now a b.from.now b.to.now c.in-Faults.fault (subst (λ (r : Told). IsActTold b a r) c.in-Faults.is c.in_ok-told.ensures)
