use Rattle.std.proofs.Common.{arith}
use Rattle.values_core.specs.SetLaws.{members-vals_of}
use Rattle.values_core.proofs.Entries.{length-entries}
use Rattle.values_core.proofs.Forms.{length-fields, length-places}
use Rattle.values_core.proofs.value.Value.len.Goals as goal

pub returns-in-Set : goal.returns-in-Set
returns-in-Set c = rw (← c.self.view_is, c.in-Set.is, members-vals_of, ← c.deref.ensures) (omega arith)

pub returns-in-Sequence : goal.returns-in-Sequence
returns-in-Sequence c = rw (← c.self.view_is, c.in-Sequence.is, ← c.deref-in-Sequence.ensures) (omega (arith, length-places 1 c.deref-in-Sequence.result.now.items.items))

pub returns-in-Record : goal.returns-in-Record
returns-in-Record c = rw (← c.self.view_is, c.in-Record.is, ← c.deref-in-Record.ensures) (omega (arith, length-fields c.deref-in-Record.result.now.fields.items))

pub returns-in-Function : goal.returns-in-Function
returns-in-Function c = rw (← c.self.view_is, c.in-Function.is, length-entries, ← c.deref-in-Function.ensures) (omega arith)
