-- Beside several logs that are alike the two specifications say the same over cuts, and given states have the same verdicts.
use Rattle.std.proofs.Common.{◌≡◌, ℕ, List, take, Option, Some, ap, sym, ◌∙◌, subst, refl}
use Rattle.std.specs.List.{AllZip, slice_get}
use Rattle.base_core.specs.declared.place.LineAt.{LineAt}
use Rattle.states_core.specs.declared.state.Shown.{Shown}
use Rattle.names_terms.specs.declared.spec.Spec.{Spec}
use Rattle.base_clock_order.specs.declared.order.LineRef.{LineRef}
use Rattle.logs_updates.specs.declared.line.Line.{Line}
use Rattle.steps_lines_defs.specs.Logs.{Asked}
use Rattle.base_cuts.specs.Cuts.{after, next, total}
use Rattle.base_cuts.specs.Orders.{IsAllowed, Order, sizes, start}
use Rattle.states_verdicts.specs.declared.verdict.Verdict.{Verdict}
use Rattle.logs_tied.specs.Named.{IsNamed, KeepsTo, names}
use Rattle.logs_tied.specs.declared.logs.Logs.{Logs}
use Rattle.steps_tied.specs.Languages.{language}
use Rattle.steps_tied.specs.Tied.{moved, tied_system}
use Rattle.judge_verdicts.specs.Tied.{IsTiedVerdict}
use Rattle.twice_logs.specs.AlikeLogs.{AreAlikeLines}
use Rattle.twice_logs.specs.Steps.{AskAlike, VerdictsAlike}
use Rattle.twice_logs.specs.Same.{SaySame}
use Rattle.twice_logs.proofs.Answered.{answers_same}
use Rattle.twice_logs.specs.TiesBeside.{AreBesideTied}
use Rattle.twice_logs.specs.Ties.{TiedAnswersAlike, TiedVerdictsAlike}
use Rattle.twice_logs.proofs.Placed.{chosen_there, first_there, lines_there, named_there, same_place, takes_there, zip_turned}
use Rattle.twice_logs.proofs.Spoken.{line_faults, line_seen, line_step, log_of, none}

module _ (s t : Spec) (a b : Logs) (beside : AreBesideTied s t a b) where
  abbrev AreLines : Line → Line → Type 0
  AreLines l k = AreAlikeLines s.operators t.operators l k

  abbrev AreTurned : Line → Line → Type 0
  AreTurned k l = AreAlikeLines s.operators t.operators l k

  places : (l k : Line) → AreLines l k → l.at ≡ k.at
  places l k x = x.at

  places_back : (k l : Line) → AreTurned k l → k.at ≡ l.at
  places_back k l x = sym x.at

  back : AllZip (AllZip AreTurned) b.files.items a.files.items
  back = zip_turned (AllZip AreLines) (AllZip AreTurned) (λ xs ys z. zip_turned AreLines AreTurned (λ l k x. x) xs ys z) a.files.items b.files.items beside.logs.files

  module _ (asks : AskAlike) (asked : Asked) where
    say_same : SaySame (tied_system s a asked) (tied_system t b asked)
    say_same = record {
      init = λ e. (
        λ h. (h.0 ∙ ap start beside.logs.order, ((none asks s t a b asked beside).init e.state).0 h.1),
        λ h. (h.0 ∙ sym (ap start beside.logs.order), ((none asks s t a b asked beside).init e.state).1 h.1),
      );
      init_seen = λ e. (none asks s t a b asked beside).init_seen e.state;
      step = λ n e f. (
        takes_there AreLines places a.files.items b.files.items beside.logs.files a.order b.order beside.logs.order e.cut f.cut (λ l. (language s a.init asked).Step l e.state f.state)
            (λ l. (language t b.init asked).Step l e.state f.state) (λ l k x h. (line_step asks s t a b asked beside l k x e.state f.state).0 h),
        takes_there AreTurned places_back b.files.items a.files.items back b.order a.order (sym beside.logs.order) e.cut f.cut (λ l. (language t b.init asked).Step l e.state f.state)
            (λ l. (language s a.init asked).Step l e.state f.state) (λ k l x h. (line_step asks s t a b asked beside l k x e.state f.state).1 h),
      );
      seen = λ n e f. (
        takes_there AreLines places a.files.items b.files.items beside.logs.files a.order b.order beside.logs.order e.cut f.cut (λ l. (language s a.init asked).Seen l f.state)
            (λ l. (language t b.init asked).Seen l f.state) (λ l k x h. (line_seen asks s t a b asked beside l k x f.state).0 h),
        takes_there AreTurned places_back b.files.items a.files.items back b.order a.order (sym beside.logs.order) e.cut f.cut (λ l. (language t b.init asked).Seen l f.state)
            (λ l. (language s a.init asked).Seen l f.state) (λ k l x h. (line_seen asks s t a b asked beside l k x f.state).1 h),
      );
      silent = λ e f. (λ h. (h.0, ((none asks s t a b asked beside).silent e.state f.state).0 h.1), λ h. (h.0, ((none asks s t a b asked beside).silent e.state f.state).1 h.1));
      fault_init = λ e x. (
        λ h. (h.0 ∙ ap start beside.logs.order, ((none asks s t a b asked beside).fault_init e.state x).0 h.1),
        λ h. (h.0 ∙ sym (ap start beside.logs.order), ((none asks s t a b asked beside).fault_init e.state x).1 h.1),
      );
      fault_step = λ n e f x. (
        takes_there AreLines places a.files.items b.files.items beside.logs.files a.order b.order beside.logs.order e.cut f.cut (λ l. (language s a.init asked).FaultStep l e.state f.state x)
            (λ l. (language t b.init asked).FaultStep l e.state f.state x) (λ l k y h. (line_faults asks s t a b asked beside l k y e.state f.state x).0 h),
        takes_there AreTurned places_back b.files.items a.files.items back b.order a.order (sym beside.logs.order) e.cut f.cut (λ l. (language t b.init asked).FaultStep l e.state f.state x)
            (λ l. (language s a.init asked).FaultStep l e.state f.state x) (λ k l y h. (line_faults asks s t a b asked beside l k y e.state f.state x).1 h),
      );
      fault_silent = λ e f x. (
        λ h. (h.0, ((none asks s t a b asked beside).fault_silent e.state f.state x).0 h.1),
        λ h. (h.0, ((none asks s t a b asked beside).fault_silent e.state f.state x).1 h.1),
      );
      at = λ n e f. same_place AreLines places a.files.items b.files.items beside.logs.files (next e.cut (moved e.cut f.cut));
      expected = λ n e at. (
        first_there AreLines places a.files.items b.files.items beside.logs.files a.order b.order beside.logs.order e.cut at,
        first_there AreTurned places_back b.files.items a.files.items back b.order a.order (sym beside.logs.order) e.cut at,
      );
      state_of = λ e. refl;
      count = ap (λ (o : Order). total (sizes o)) beside.logs.order;
      within = refl;
      limit = refl;
      total = refl;
      assumes = (none asks s t a b asked beside).assumes;
      assumed = (none asks s t a b asked beside).assumed;
      fault_assume = (none asks s t a b asked beside).fault_assume;
      is_false = (none asks s t a b asked beside).is_false;
    }

  named_back : (at : Option LineAt) (l : LineRef) → IsNamed b.files.items at l → IsNamed a.files.items at l
  named_back at l n = named_there AreTurned places_back b.files.items a.files.items back at l n

  keeps_there : (w : List Shown) (order : List LineRef) → KeepsTo a.files.items a.order w order → KeepsTo b.files.items b.order w order
  keeps_there w order keeps n l e =
      let here = (subst (λ (o : Order). KeepsTo a.files.items o w order) beside.logs.order keeps) n l e in
      chosen_there AreLines places a.files.items b.files.items beside.logs.files b.order b.order refl named_back (after (start b.order) (take n order)) (slice_get (names w) n) l here

  judged_there : VerdictsAlike → (asked : Asked) (w : List Shown) (v : Verdict) → IsTiedVerdict s a asked w v → IsTiedVerdict t b asked w v
  judged_there verdicts asked w v h =
      let found = lines_there AreLines places a.files.items b.files.items beside.logs.files h.named.order h.log.lines h.named.lined.stand in
      record {
        log = log_of b.init found.0;
        named = record {
          init = refl;
          order = h.named.order;
          lined = record { allowed = subst (λ (o : Order). IsAllowed o h.named.order) beside.logs.order h.named.lined.allowed; stand = found.1 };
          keeps = keeps_there w h.named.order h.named.keeps;
        };
        verdict = verdicts s t h.log (log_of b.init found.0) asked
            (record { specs = beside.specs; smaller = beside.smaller; smaller_other = beside.smaller_other; logs = record { init = h.named.init ∙ beside.logs.init; lines = found.2 } }) w v h.verdict;
      }

pub answers_alike : AskAlike → TiedAnswersAlike
answers_alike asks s t a b asked beside = answers_same (tied_system s a asked) (tied_system t b asked) (say_same s t a b beside asks asked)

pub verdicts_alike : VerdictsAlike → TiedVerdictsAlike
verdicts_alike verdicts s t a b asked beside w v h = judged_there s t a b beside verdicts asked w v h
