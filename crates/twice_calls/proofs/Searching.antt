-- What `validate` alone takes changes neither what is read nor whether states are valid.
use Rattle.std.proofs.Common.{ℕ, suc, List, Option}
use Rattle.std.specs.Prelude.{None, Some, length, slice_get}
use Rattle.base_core.specs.Device.{File}
use Rattle.reading_trees.specs.declared.config.Config.{Config}
use Rattle.reading_trees.specs.declared.module.Program.{Program}
use Rattle.states_core.specs.Runs.{Run, go, start, wait}
use Rattle.states_core.specs.States.{Values}
use Rattle.states_core.specs.declared.fault.Fault.{Fault}
use Rattle.states_core.specs.declared.state.Mark.{Mark}
use Rattle.states_core.specs.declared.state.Mark.TheVariants.{Init, Line, Silent}
use Rattle.states_core.specs.declared.state.Shown.{Shown}
use Rattle.names_terms.specs.declared.spec.Spec.{Spec}
use Rattle.logs_updates.specs.declared.line.Log.{Log}
use Rattle.steps_lines_defs.specs.Logs.{Asked, system}
use Rattle.logs_tied.specs.declared.logs.Lined.{Lined}
use Rattle.logs_tied.specs.declared.logs.Lined.TheVariants.{Sequence, Tied}
use Rattle.states_verdicts.specs.Asks.{IsRest}
use Rattle.states_verdicts.specs.Cleans.{AreClean, FaultsAt, FitsAt, IsClean, Reached, reached_at}
use Rattle.states_verdicts.specs.Verdicts.{IsVerdict}
use Rattle.states_verdicts.specs.declared.verdict.Verdict.TheVariants.{Valid}
use Rattle.judge_pairs.specs.Filling.{pair_asks}
use Rattle.steps_lined.specs.Answers.{AreAssumedOf}
use Rattle.judge_verdicts.specs.Lined.{IsJudgedOf}
use Rattle.run_words.specs.declared.job.Job.{Job}
use Rattle.run_reading_defs.specs.Reaches.{AllRead, Reaches, Stage, begins, has_forms, loads, needs_no_configuration, passes, reads_configuration, reads_log, resolves}
use Rattle.twice_calls.specs.Printed.{searching}

module _ (limit : ℕ) (why near : Option ℕ) where
  reaches_so : (holds : Option (List File)) (job : Job) (stage : Stage) → Reaches holds job stage → Reaches holds (searching limit why near job) stage
  reaches_so holds job _ begins = begins
  reaches_so holds job _ (loads folder name p unread path is) = loads folder name p unread path is
  reaches_so holds job _ (needs_no_configuration p unread before none) = needs_no_configuration p unread (reaches_so holds job _ before) none
  reaches_so holds job _ (reads_configuration p unread name text c before some has reads) =
      reads_configuration p unread name text c (reaches_so holds job _ before) some has reads
  reaches_so holds job _ (passes w p q unread c d before expands is) = passes w p q unread c d (reaches_so holds job _ before) expands is
  reaches_so holds job _ (resolves p c s before is) = resolves p c s (reaches_so holds job _ before) is
  reaches_so holds job _ (has_forms p c s before whole) = has_forms p c s (reaches_so holds job _ before) whole
  reaches_so holds job _ (reads_log p c s read name names text f before log says) = reads_log p c s read name names text f (reaches_so holds job _ before) log says

  pub all_read_so : (holds : Option (List File)) (job : Job) (p : Program) (c : Config) (s : Spec) (lined : Lined) → AllRead holds job p c s lined
      → AllRead holds (searching limit why near job) p c s lined
  all_read_so holds job p c s lined all = record { read = all.read; reaches = reaches_so holds job _ all.reaches; lines = all.lines }

-- what is asked for, with another limit of a layer
abbrev pub with_limit : ℕ → Asked → Asked
with_limit limit asked = record { stutter = asked.stutter; within = asked.within; limit = limit; total = asked.total }

module _ (s : Spec) (log : Log) (asked : Asked) (limit : ℕ) where
  run_so : (n j : ℕ) (t : Values) (w : List Shown) → Run (system s log asked) n j t w → Run (system s log (with_limit limit asked)) n j t w
  run_so _ _ _ _ (start t i e) = start t i e
  run_so _ _ _ _ (wait n j u t w r lt le h) = wait n j u t w (run_so n j u w r) lt le h
  run_so _ _ _ _ (go n j u t w r lt h) = go n j u t w (run_so n j u w r) lt h

  fits_so : (last : Option Values) (n j : ℕ) (m : Mark) (t : Values) → FitsAt (pair_asks s log asked) last n j m t
      → FitsAt (pair_asks s log (with_limit limit asked)) last n j m t
  fits_so None n j Init t h = h
  fits_so None n j Silent t h = h
  fits_so None n j (Line at) t h = h
  fits_so (Some u) n j Init t h = h
  fits_so (Some u) n j Silent t h = h
  fits_so (Some u) n j (Line at) t h = h

  rests_so : (n : ℕ) (u t : Values) → IsRest (pair_asks s log asked) n u t → IsRest (pair_asks s log (with_limit limit asked)) n u t
  rests_so n u t r = record { allowed = r.allowed; same = r.same; moves = r.moves; shows = r.shows }

  faults_so : (last : Option Values) (n : ℕ) (m : Mark) (t : Values) (f : Fault) → FaultsAt (pair_asks s log (with_limit limit asked)) last n m t f
      → FaultsAt (pair_asks s log asked) last n m t f
  faults_so None n Init t f h = h
  faults_so None n Silent t f h = h
  faults_so None n (Line at) t f h = h
  faults_so (Some u) n Init t f h = h
  faults_so (Some u) n Silent t f h = h
  faults_so (Some u) n (Line at) t f h = (λ r. h.0 (rests_so n u t r), h.1)

  clean_so : (p : Reached) (x : Option Shown) → IsClean (pair_asks s log asked) p x → IsClean (pair_asks s log (with_limit limit asked)) p x
  clean_so p None h = h
  clean_so p (Some x) h = (fits_so p.last p.line p.silents x.mark x.state h.0, λ f bad. h.1 f (faults_so p.last p.line x.mark x.state f bad))

  pub valid_so : (w : List Shown) → IsVerdict (pair_asks s log asked) w Valid → IsVerdict (pair_asks s log (with_limit limit asked)) w Valid
  valid_so w v = ((v.0.0, run_so _ _ v.0.0 w v.0.1), λ k lt. clean_so (reached_at w k) (slice_get w k) (v.1 k lt))

-- beside lines in one order and in several
pub judged_so : (s : Spec) (lined : Lined) (asked : Asked) (limit : ℕ) (w : List Shown) → IsJudgedOf s asked lined w Valid → IsJudgedOf s (with_limit limit asked) lined w Valid
judged_so s (Sequence log) asked limit w v = valid_so s log asked limit w v
judged_so s (Tied logs) asked limit w v = record { log = v.log; named = v.named; verdict = valid_so s v.log asked limit w v.verdict }

pub assumed_so : (s : Spec) (lined : Lined) (asked : Asked) (limit : ℕ) → AreAssumedOf s asked lined → AreAssumedOf s (with_limit limit asked) lined
assumed_so s (Sequence log) asked limit h = h
assumed_so s (Tied logs) asked limit h = h
