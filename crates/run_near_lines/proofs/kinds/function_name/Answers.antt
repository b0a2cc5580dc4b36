use Rattle.std.proofs.Common.{◌≡◌, ◌∙◌, sym, true, false, List, ℕ}
use Rattle.std.specs.Prelude.{IfOk}
use Rattle.values_core.specs.Functions.{IsSequence}
use Rattle.steps_why_walk.proofs.Keeping.{ok_then}
use Rattle.run_near_lines.proofs.FunctionKinds.{function_name, sequence_name}
use Rattle.run_near_lines.proofs.kinds.function_name.Goals as goal

pub returns-then-is_sequence : goal.returns-then-is_sequence
returns-then-is_sequence c = sequence_name c.args.value.now (c.is_sequence.ensures.0 c.if-is_sequence.true)

pub returns : goal.returns
returns c =
    let none : IsSequence c.args.value.now → ⊥ = λ s. differ c.is_sequence.result (c.is_sequence.ensures.1 s) c.if-is_sequence.false in
    ok_then c.keyed_name.result _ _ (λ name e. e ∙ function_name c.args.value.now c.requires none) c.keyed_name.ensures
  where
    differ : (b : _) → b ≡ true → b ≡ false → ⊥
    differ b e f = cc
