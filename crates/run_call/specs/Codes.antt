-- The exit status of the program.
use Rattle.std.specs.Prelude.{ℕ}
use Rattle.run_call.specs.declared.call.Status.{Status}
use Rattle.run_call.specs.declared.call.Status.TheVariants.{Done, Not, Words, Reading, Evaluation, Limit, Device, Memory}

abbrev pub code_of : Status → ℕ
code_of Done = 0
code_of Not = 1
code_of Words = 2
code_of Reading = 3
code_of Evaluation = 4
code_of Limit = 5
code_of Device = 6
code_of Memory = 7
