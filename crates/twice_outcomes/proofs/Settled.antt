-- The laws for two settings, from evaluation that is the same over two tables in order.
use Rattle.std.proofs.Common.{◌≡◌, subst}
use Rattle.std.specs.Prelude.{ℕ, Ok}
use Rattle.eval_meanings.specs.Contexts.{Table}
use Rattle.actions_meanings.specs.declared.which.Which.{Which}
use Rattle.actions_meanings.specs.Fails.{Fails}
use Rattle.actions_meanings.specs.Forms.{Setting}
use Rattle.actions_meanings.specs.Holds.{Holds}
use Rattle.actions_meanings.specs.Outcomes.{IsOutcome, IsWholeOutcome}
use Rattle.twice_outcomes.specs.Alikes.{AreOrdered}
use Rattle.twice_outcomes.specs.Outcomes.{EvaluatesAlike, DescribesAlike, BehindAlike}
use Rattle.twice_outcomes.specs.Actions.{HoldsAlike, OutcomesAlike, FixesAlike, WholeAlike, FailsAlike}
use Rattle.twice_outcomes.proofs.Failing.{fails_alike}
use Rattle.twice_outcomes.proofs.Fixing.{outcome_alike, whole_alike}
use Rattle.twice_outcomes.proofs.Holding.{EvaluationAlike, holds_alike}

-- what is said of two settings of one kind and with as many variables is said of two that are alike
settled : (P : Setting → Setting → Type 0) (g h : Setting) → g.which ≡ h.which → g.variables ≡ h.variables
    → P g (record { which = g.which; variables = g.variables; table = h.table }) → P g h
settled P g h kinds counts p =
    subst (λ (w : Which). P g (record { which = w; variables = h.variables; table = h.table })) kinds
    (subst (λ (v : ℕ). P g (record { which = g.which; variables = v; table = h.table })) counts p)

module _ (evaluates : EvaluatesAlike) (describes : DescribesAlike) (behind : BehindAlike) where
  evaluation : (ops all : Table) → AreOrdered ops → AreOrdered all → EvaluationAlike ops all
  evaluation ops all one other = record {
    evaluates = λ d c e f a r h. evaluates ops all one other e f a d c r h;
    describes = λ d c e f a r h. describes ops all one other e f a d c r h;
    behind = behind ops all one other;
  }

  pub actions_hold : HoldsAlike
  actions_hold g h s d c a b al =
      settled (λ g h. Holds g d c a → Holds h d c b) g h s.which s.variables
      (holds_alike g.which g.variables g.table h.table (evaluation g.table h.table s.smaller s.smaller_other) d c a b al)

  pub outcomes_are_alike : OutcomesAlike
  outcomes_are_alike g h s a b al B r =
      settled (λ g h. IsOutcome g a B r → IsOutcome h b B r) g h s.which s.variables
      (outcome_alike g.which g.variables g.table h.table (behind g.table h.table s.smaller s.smaller_other) a b al B r)

  pub actions_fix : FixesAlike
  actions_fix g h s a b al B C = outcomes_are_alike g h s a b al B (Ok C)

  pub whole_outcomes : WholeAlike
  whole_outcomes g h s a b al B r =
      settled (λ g h. IsWholeOutcome g a B r → IsWholeOutcome h b B r) g h s.which s.variables
      (whole_alike g.which g.variables g.table h.table (behind g.table h.table s.smaller s.smaller_other) a b al B r)

  pub actions_fail : FailsAlike
  actions_fail g h s d B c a b f al =
      settled (λ g h. Fails g d B c a f → Fails h d B c b f) g h s.which s.variables
      (fails_alike g.which g.variables g.table h.table (evaluation g.table h.table s.smaller s.smaller_other) d B c a b f al)
