-- The code and the name of what went wrong in an evaluation.
use Rattle.std.specs.Prelude.{ℕ, List, codes}
use Rattle.values_core.specs.declared.fault.EvalKind.{EvalKind}
use Rattle.values_core.specs.declared.fault.EvalKind.TheVariants as eval

abbrev pub eval_code : EvalKind → List ℕ
eval_code eval.NotBoolean = codes "E1 NotBoolean"
eval_code eval.NotInteger = codes "E2 NotInteger"
eval_code eval.NotSet = codes "E3 NotSet"
eval_code eval.NotFunction = codes "E4 NotFunction"
eval_code eval.NotSequence = codes "E5 NotSequence"
eval_code eval.OutsideDomain = codes "E6 OutsideDomain"
eval_code eval.Overflow = codes "E7 Overflow"
eval_code eval.BadDivisor = codes "E8 BadDivisor"
eval_code eval.BadPower = codes "E9 BadPower"
eval_code eval.NoChoice = codes "E10 NoChoice"
eval_code eval.NoCase = codes "E11 NoCase"
eval_code eval.EmptySequence = codes "E12 EmptySequence"
eval_code eval.BadRange = codes "E13 BadRange"
eval_code eval.TooLarge = codes "E14 TooLarge"
eval_code eval.TooDeep = codes "E15 TooDeep"
eval_code eval.Nested = codes "E16 Nested"
eval_code eval.NotFinite = codes "E17 NotFinite"
