-- The two sides say the same, since each says what the other does.
use Rattle.std.proofs.Common.{sym, List, [], ◌∷◌}
use Rattle.std.specs.Prelude.{ℕ, Option}
use Rattle.std.specs.List.{AllZip}
use Rattle.names_terms.specs.declared.ids.DefId.{DefId}
use Rattle.names_terms.specs.declared.operator.Operator.{Operator}
use Rattle.names_terms.specs.declared.spec.Spec.{Spec}
use Rattle.logs_updates.specs.declared.line.Event.{Event}
use Rattle.logs_updates.specs.declared.line.Line.{Line}
use Rattle.logs_updates.specs.declared.line.Log.{Log}
use Rattle.steps_lines_defs.specs.Logs.{system}
use Rattle.judge_pairs.specs.Filling.{pair_asks}
use Rattle.twice_terms.specs.Alike.{AlikeRows}
use Rattle.twice_terms.specs.Laws.{AreOne}
use Rattle.twice_tables.specs.Outcome.{AreAlike, AlikeSilent, none_silent, both_silent}
use Rattle.twice_outcomes.specs.Actions.{FailsAlike, FixesAlike, HoldsAlike}
use Rattle.twice_outcomes.specs.Outcomes.{EvaluatesAlike}
use Rattle.twice_outcomes.proofs.Turning.{turned_alike, turned_row, turned_terms}
use Rattle.twice_logs.specs.AlikeLogs.{AlikeEvents, no_event, both_events, AreAlikeLines}
use Rattle.twice_logs.specs.Steps.{AnswersAlike, AreBeside, AskAlike, VerdictsAlike}
use Rattle.twice_logs.proofs.Acts.{ActionsAlike}
use Rattle.twice_logs.proofs.Answered.{answers_same}
use Rattle.twice_logs.proofs.Judged.{verdict_same}
use Rattle.twice_logs.proofs.Asking.{carries}
use Rattle.twice_logs.proofs.Carried.{ask_same}

module _ (ops all : List Operator) where
  silents_back : (a b : Option DefId) → AlikeSilent ops all a b → AlikeSilent all ops b a
  silents_back _ _ none_silent = none_silent
  silents_back _ _ (both_silent k j r) = both_silent j k (turned_row ops all k.0 j.0 r)

  events_back : (e f : Option Event) → AlikeEvents ops all e f → AlikeEvents all ops f e
  events_back _ _ no_event = no_event
  events_back _ _ (both_events k j args r) = both_events j k args (turned_row ops all k j r)

  line_back : (l m : Line) → AreAlikeLines ops all l m → AreAlikeLines all ops m l
  line_back l m a = record { at = sym a.at; clock = sym a.clock; event = events_back l.event m.event a.event; updates = sym a.updates; sees = sym a.sees }

  lines_back : (xs ys : List Line) → AllZip (AreAlikeLines ops all) xs ys → AllZip (AreAlikeLines all ops) ys xs
  lines_back [] [] z = tt
  lines_back [] (y ∷ ys) z = absurd z
  lines_back (x ∷ xs) [] z = absurd z
  lines_back (x ∷ xs) (y ∷ ys) z = (line_back x y z.0, lines_back xs ys z.1)

alike_back : (s t : Spec) → AreAlike s t → AreAlike t s
alike_back s t a = record {
  files = sym a.files;
  variables = sym a.variables;
  here = λ j o e named. let r : (k : ℕ) × AlikeRows AreOne s.operators t.operators k j = a.other j o e named in (r.0, turned_row s.operators t.operators r.0 j r.1);
  other = λ k o e named. let r : (j : ℕ) × AlikeRows AreOne s.operators t.operators k j = a.here k o e named in (r.0, turned_row s.operators t.operators k r.0 r.1);
  init = turned_alike s.operators t.operators s.init t.init a.init;
  next = turned_alike s.operators t.operators s.next t.next a.next;
  silent = silents_back s.operators t.operators s.silent t.silent a.silent;
  assumes = turned_terms s.operators t.operators s.assumes t.assumes a.assumes;
  unchecked = sym a.unchecked;
}

beside_back : (s t : Spec) (log m : Log) → AreBeside s t log m → AreBeside t s m log
beside_back s t log m b = record {
  specs = alike_back s t b.specs;
  smaller = b.smaller_other;
  smaller_other = b.smaller;
  logs = record { init = sym b.logs.init; lines = lines_back s.operators t.operators log.lines m.lines b.logs.lines };
}

pub actions : HoldsAlike → FailsAlike → FixesAlike → ActionsAlike
actions holds fails fixes = record { holds = holds; fails = fails; fixes = fixes }

pub ask_alike : ActionsAlike → EvaluatesAlike → AskAlike
ask_alike laws evaluates s t log m asked beside =
    ask_same (pair_asks s log asked) (pair_asks t m asked) (carries laws evaluates s t log m asked beside) (carries laws evaluates t s m log asked (beside_back s t log m beside))

pub answers_alike : AskAlike → AnswersAlike
answers_alike alike s t log m asked beside = answers_same (system s log asked) (system t m asked) (alike s t log m asked beside).systems

pub verdicts_alike : AskAlike → VerdictsAlike
verdicts_alike alike s t log m asked beside w v h = verdict_same (pair_asks s log asked) (pair_asks t m asked) (alike s t log m asked beside) w v h
