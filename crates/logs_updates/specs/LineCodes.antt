-- For the prover: lines, told apart as data of numbers.
use Rattle.std.specs.Prelude.{◌≡◌, ◌⊎◌, ℕ, ℤ, List, Option, refl}
use Rattle.std.proofs.Common.{inl, inr}
use Rattle.std.specs.Coded.{Coded, code_by, coded×, coded⊎, coded_ℕ, coded_ℤ, coded_list, coded_option}
use Rattle.values_core.specs.Data.{Val}
use Rattle.base_clocks.specs.StampCodes.{stamps_code}
use Rattle.base_clocks.specs.declared.stamp.Stamp.{Stamp}
use Rattle.logs_updates.specs.PathCodes.{values_code}
use Rattle.logs_updates.specs.UpdateCodes.{updates_code, sees_code}
use Rattle.logs_updates.specs.declared.clock.Clock.{Clock}
use Rattle.logs_updates.specs.declared.clock.Clock.TheVariants.{Number, Vector}
use Rattle.logs_updates.specs.declared.line.Event.{Event}
use Rattle.logs_updates.specs.declared.line.Line.{Line}
use Rattle.logs_updates.specs.declared.update.See.{See}
use Rattle.logs_updates.specs.declared.update.Update.{Update}

abbrev event_code : Coded Event
event_code = code_by (ℕ × List Val) (coded× coded_ℕ values_code) (λ e. (e.operator, e.args)) (λ c. record { operator = c.0; args = c.1 }) (λ _. refl)

abbrev clock_to : Clock → ℤ ⊎ List Stamp
clock_to (Number n) = inl n
clock_to (Vector v) = inr v

abbrev clock_of : ℤ ⊎ List Stamp → Clock
clock_of (inl n) = Number n
clock_of (inr v) = Vector v

abbrev clock_from-to : (c : Clock) → clock_of (clock_to c) ≡ c
clock_from-to (Number n) = refl
clock_from-to (Vector v) = refl

abbrev clock_code : Coded Clock
clock_code = code_by (ℤ ⊎ List Stamp) (coded⊎ coded_ℤ stamps_code) clock_to clock_of clock_from-to

abbrev line_code : Coded Line
line_code =
    code_by ((ℕ × ℕ) × (Clock × (Option Event × (List Update × List See)))) (coded× (coded× coded_ℕ coded_ℕ) (coded× clock_code (coded× (coded_option event_code) (coded× updates_code sees_code))))
    (λ l. ((l.at.file, l.at.line), (l.clock, (l.event, (l.updates, l.sees)))))
    (λ c. record { at = record { file = c.0.0; line = c.0.1 }; clock = c.1.0; event = c.1.1.0; updates = c.1.1.1.0; sees = c.1.1.1.1 }) (λ _. refl)

abbrev pub lines_code : Coded (List Line)
lines_code = coded_list line_code
