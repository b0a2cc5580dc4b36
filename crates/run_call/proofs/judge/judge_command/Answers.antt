use Rattle.std.proofs.Common.{subst}
use Rattle.run_words.specs.declared.job.Words.{Words}
use Rattle.run_words.specs.Words.{AreWords, MeetsRules}
use Rattle.run_call.proofs.CallLemmas.{runs_given, runs_job, runs_smoke, smoke_quiet, stops_given, stops_job, stops_smoke}
use Rattle.run_call.proofs.judge.judge_command.Goals as goal

pub returns-in-Validate-clause-runs : goal.returns-in-Validate-clause-runs
returns-in-Validate-clause-runs g c = λ words form. runs_job words _ _ _ _ c.judge_job.result (subst (λ (w : Words). AreWords words w) c.in-Validate.is form) c.judge_job.ensures.calls

pub returns-in-Validate-clause-stopped : goal.returns-in-Validate-clause-stopped
returns-in-Validate-clause-stopped g c =
    λ words form. stops_job words _ _ _ _ c.judge_job.result (subst (λ (w : Words). AreWords words w) c.in-Validate.is form) c.judge_job.ensures.stopped

pub judge_given-requires : goal.judge_given-requires
judge_given-requires g c = (subst (λ (w : Words). MeetsRules w) c.in-Check.is c.requires).0

pub returns-in-Check-clause-runs : goal.returns-in-Check-clause-runs
returns-in-Check-clause-runs g c = λ words form. runs_given words _ _ _ _ _ c.judge_given.result (subst (λ (w : Words). AreWords words w) c.in-Check.is form) c.judge_given.ensures.calls

pub returns-in-Check-clause-stopped : goal.returns-in-Check-clause-stopped
returns-in-Check-clause-stopped g c =
    λ words form. stops_given words _ _ _ _ _ c.judge_given.result (subst (λ (w : Words). AreWords words w) c.in-Check.is form) c.judge_given.ensures.stopped

pub judge_smoke-requires : goal.judge_smoke-requires
judge_smoke-requires g c = (subst (λ (w : Words). MeetsRules w) c.in-SelfRun.is c.requires).0

pub returns-in-SelfRun-clause-runs : goal.returns-in-SelfRun-clause-runs
returns-in-SelfRun-clause-runs g c = λ words form. runs_smoke words _ _ _ _ c.judge_smoke.result (subst (λ (w : Words). AreWords words w) c.in-SelfRun.is form) c.judge_smoke.ensures.runs

pub returns-in-SelfRun-clause-stopped : goal.returns-in-SelfRun-clause-stopped
returns-in-SelfRun-clause-stopped g c = λ words form. stops_smoke words _ _ _ _ c.judge_smoke.result (subst (λ (w : Words). AreWords words w) c.in-SelfRun.is form) c.judge_smoke.ensures.stopped

pub returns-in-SelfRun-clause-told : goal.returns-in-SelfRun-clause-told
returns-in-SelfRun-clause-told g c = smoke_quiet c.in-SelfRun.lines (g.F.Files.failures c.args.files.now) c.judge_smoke.result c.judge_smoke.ensures.stopped
