-- Which calls on files failed: how many there were, and which file was asked for at the last of them.
use Rattle.std.specs.Prelude.{ℕ, List, Option, Some, None, Result, Ok, Err}
use Rattle.base_core.specs.Device.{count_after}
use Rattle.base_core.specs.declared.device.Failed.{Failed as Fault}
use Rattle.base_core.specs.declared.device.OpenFault.{OpenFault}
use Rattle.base_core.specs.declared.device.OpenFault.TheVariants as opening
use Rattle.base_core.specs.declared.reading.ReadFault.{ReadFault}
use Rattle.base_core.specs.declared.reading.ReadFault.TheVariants as reading

-- how many calls failed, and which file was asked for at the last of them, if one was
pub record Failures : Type 0 where
  pub count : ℕ
  pub last : Option (List ℕ)

abbrev pub no_failures : Failures
no_failures = record { count = 0; last = None }

-- one call more failed, that file being asked for
abbrev pub one_more : Option (List ℕ) → Failures → Failures
one_more name f = record { count = count_after f.count; last = name }

-- after a call of `open`
abbrev pub after_open : {A : Type 0} → List ℕ → Result A OpenFault → Failures → Failures
after_open name (Ok a) f = f
after_open name (Err opening.Missing) f = f
after_open name (Err opening.Failed) f = one_more (Some name) f
after_open name (Err opening.NoMemory) f = f

-- after a call of `next`, that file being asked for
abbrev pub after_next : {A : Type 0} → Option (List ℕ) → Result A Fault → Failures → Failures
after_next name (Ok a) f = f
after_next name (Err e) f = one_more name f

-- after a file was not read
abbrev pub after_fault : List ℕ → ReadFault → Failures → Failures
after_fault name reading.Missing f = f
after_fault name reading.Failed f = one_more (Some name) f
after_fault name reading.TooLong f = f
after_fault name reading.NoMemory f = f

-- after the whole file was read, or not
abbrev pub after_read : {A : Type 0} → List ℕ → Result A ReadFault → Failures → Failures
after_read name (Ok a) f = f
after_read name (Err fault) f = after_fault name fault f
