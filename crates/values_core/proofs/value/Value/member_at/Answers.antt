use Rattle.std.proofs.Common.{length, refl, arith, sym}
use Rattle.std.proofs.lemmas.Option.{slice_get_read, slice_get_past}
use Rattle.values_core.specs.SetLaws.{members-vals_of}
use Rattle.values_core.proofs.value.Value.member_at.Goals as goal

pub returns-then-i-len : goal.returns-then-i-len
returns-then-i-len c =
    rw (← c.self.view_is, c.in-Set.is, members-vals_of, ← c.deref.ensures) (sym (slice_get_read c.deref.result.now.items.items (length c.deref.result.now.items.items) c.args.i c.index.result.now refl (omega arith) c.index.ensures))

pub returns-else-i-len : goal.returns-else-i-len
returns-else-i-len c =
    rw (← c.self.view_is, c.in-Set.is, members-vals_of, ← c.deref.ensures) (sym (slice_get_past c.deref.result.now.items.items c.args.i (omega arith)))
