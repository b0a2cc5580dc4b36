use Rattle.std.proofs.Common.{Ok, Option, subst}
use Rattle.std.specs.Prelude.{IfSome}
use Rattle.run_words.specs.declared.job.Words.{Words}
use Rattle.run_words.specs.Line.{words_of}
use Rattle.run_words.specs.Words.{MeetsRules, Reads}
use Rattle.run_call.specs.Run.{in_no_form}
use Rattle.run_call.proofs.CallLemmas.{no_form, runs_as}
use Rattle.run_call.proofs.judge.judge.Goals as goal

pub judge_command-requires : goal.judge_command-requires
judge_command-requires g c = subst (λ (r : Option Words). IfSome r MeetsRules) c.in-Some.is c.in_ok-read.ensures.meets

pub returns-in-Some-clause-runs : goal.returns-in-Some-clause-runs
returns-in-Some-clause-runs g c =
    let words = words_of c.args.words.now in
    c.judge_command.ensures.runs words (subst (λ (r : Option Words). Reads words (Ok r)) c.in-Some.is c.in_ok-read.ensures.reads)

pub returns-in-Some-clause-stopped : goal.returns-in-Some-clause-stopped
returns-in-Some-clause-stopped g c =
    let words = words_of c.args.words.now in
    c.judge_command.ensures.stopped words (subst (λ (r : Option Words). Reads words (Ok r)) c.in-Some.is c.in_ok-read.ensures.reads)

-- of words in no form
pub returns-in-None-clause-runs : goal.returns-in-None-clause-runs
returns-in-None-clause-runs g c =
    let refused = c.refuse_words in
    runs_as _ _ _ _ refused.result _ _ refused.ensures.status refused.ensures.report
    (in_no_form (no_form _ _ c.in_ok-read.ensures.reads c.in-None.is))
