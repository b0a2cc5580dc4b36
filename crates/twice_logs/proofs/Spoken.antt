-- What the two specifications say of lines that are alike, told of logs of one line.
use Rattle.std.proofs.Common.{◌≡◌, ◌↔◌, ℕ, List, [], ◌∷◌, Some, sym, subst, refl}
use Rattle.std.specs.List.{slice_get}
use Rattle.states_core.specs.States.{Values}
use Rattle.states_core.specs.declared.fault.Fault.{Fault}
use Rattle.names_terms.specs.declared.spec.Spec.{Spec}
use Rattle.logs_updates.specs.declared.line.Line.{Line}
use Rattle.logs_updates.specs.declared.line.Log.{Log}
use Rattle.logs_updates.specs.declared.update.See.{See}
use Rattle.steps_lines_defs.specs.Logs.{Asked, OfLine, system}
use Rattle.base_cuts.proofs.Rules.{some_is}
use Rattle.logs_tied.specs.declared.logs.Logs.{Logs}
use Rattle.steps_tied.specs.Languages.{language}
use Rattle.twice_logs.specs.AlikeLogs.{AreAlikeLines}
use Rattle.twice_logs.specs.Steps.{AskAlike}
use Rattle.twice_logs.specs.Same.{SaySame}
use Rattle.twice_logs.specs.TiesBeside.{AreBesideTied}

into : (P : Line → Type 0) (l : Line) → P l → OfLine (l ∷ []) 0 P
into P l p = (l, refl, p)

out : (P : Line → Type 0) (l : Line) → OfLine (l ∷ []) 0 P → P l
out P l o = subst P (sym (some_is o.1)) o.2

-- what holds of the one line of a log
through : (P Q : Line → Type 0) (l k : Line) → OfLine (l ∷ []) 0 P ↔ OfLine (k ∷ []) 0 Q → P l ↔ Q k
through P Q l k h = (λ p. out Q k (h.0 (into P l p)), λ q. out P l (h.1 (into Q k q)))

abbrev pub log_of : List See → List Line → Log
log_of init lines = record { init = init; lines = lines }

module _ (asks : AskAlike) (s t : Spec) (a b : Logs) (asked : Asked) (beside : AreBesideTied s t a b) where
  pub none : SaySame (system s (log_of a.init []) asked) (system t (log_of b.init []) asked)
  none =
      (asks s t (log_of a.init []) (log_of b.init []) asked
      (record { specs = beside.specs; smaller = beside.smaller; smaller_other = beside.smaller_other; logs = record { init = beside.logs.init; lines = tt } })).systems

  module _ (l k : Line) (alike : AreAlikeLines s.operators t.operators l k) where
    one : SaySame (system s (log_of a.init (l ∷ [])) asked) (system t (log_of b.init (k ∷ [])) asked)
    one =
        (asks s t (log_of a.init (l ∷ [])) (log_of b.init (k ∷ [])) asked
        (record { specs = beside.specs; smaller = beside.smaller; smaller_other = beside.smaller_other; logs = record { init = beside.logs.init; lines = (alike, tt) } })).systems

    pub line_step : (u v : Values) → (language s a.init asked).Step l u v ↔ (language t b.init asked).Step k u v
    line_step u v = through (λ m. (language s a.init asked).Step m u v) (λ m. (language t b.init asked).Step m u v) l k (one.step 0 u v)

    pub line_seen : (u : Values) → (language s a.init asked).Seen l u ↔ (language t b.init asked).Seen k u
    line_seen u = through (λ m. (language s a.init asked).Seen m u) (λ m. (language t b.init asked).Seen m u) l k (one.seen 0 u u)

    pub line_faults : (u v : Values) (f : Fault) → (language s a.init asked).FaultStep l u v f ↔ (language t b.init asked).FaultStep k u v f
    line_faults u v f = through (λ m. (language s a.init asked).FaultStep m u v f) (λ m. (language t b.init asked).FaultStep m u v f) l k (one.fault_step 0 u v f)
