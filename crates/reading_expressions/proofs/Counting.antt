-- No reading of the beginning of a text as open rows has fewer unfinished constructs than the reader counts.
use Rattle.std.proofs.Common.{◌≡◌, ℕ, ◌+◌, ◌≤◌, Bool, List, [], ap, ◌∙◌, arith}
use Rattle.reading_trees.specs.declared.laid.Laid.{Laid}
use Rattle.reading_machine.specs.declared.frame.Frame.{Frame}
use Rattle.reading_machine.specs.declared.frame.Mode.{Mode}
use Rattle.reading_open_rows.specs.Unfinished.{of_frames, of_mode, unfinished}
use Rattle.reading_expressions.specs.Nesting.{AreOpen}
use Rattle.reading_machine.specs.OpenFits.{in_mode}
use Rattle.reading_machine.proofs.FittingEnds.{first_mode}
use Rattle.reading_expressions.proofs.ReadingModes.{mode_ended}
use Rattle.reading_expressions.proofs.ReadingOperators.{rows_go}
use Rattle.reading_machine.proofs.Runner.{Runner, run}

-- what the counter tells: how many constructs are unfinished behind the last token, or that it did not come there
pub data Told : Type 0 where
  Within : ℕ → Told
  Elsewhere : Told

pub same : (a b : ℕ) → a ≡ b → Within a ≡ Within b
same a b q = ap Within q

abbrev pub counter : Runner
counter = record {
  Told = Told;
  stops = λ s here. Elsewhere;
  ends = λ fs m. Within (unfinished fs m);
  bracket_name = λ at n p fs. same _ _ (omega arith);
  bracket_start = λ at fs. same _ _ (omega arith);
  brace_name = λ at n p fs. same _ _ (omega arith);
  subscript = λ k at e fs. same _ _ (omega arith);
  fair = λ at fs. same _ _ (omega arith);
}

pub count_least : (unit : Bool) (read : List Laid) (fs : List Frame) (m : Mode) → AreOpen unit read fs m → (k : ℕ) × (run counter read [] (first_mode unit) ≡ Within k) × (k ≤ unfinished fs m)
count_least unit read fs m o =
    let s = rows_go counter unit fs (in_mode m) o.fit.0 o.stand.0 o.outermost read o.text.0 o.text.1 in
    let t = mode_ended counter unit fs s.rows s.like m o.fit.1 o.stand.1 o.outermost o.text.0 o.text.2 in
    let a : of_frames s.rows ≤ of_frames fs = s.like.count in
    let b : unfinished t.rows t.expects ≤ of_frames s.rows + of_mode m = t.count in
    (unfinished t.rows t.expects, s.runs ∙ t.runs, omega (arith, a, b))
