use Rattle.std.proofs.Common.{◌≡◌, drop}
use Rattle.values_core.specs.HashOf.{with_bytes}
use Rattle.values_core.proofs.value.hash.hash_of_text.Given as goal

abbrev pub invariant-loop-byte : goal.invariant-loop-byte
invariant-loop-byte l = with_bytes l.hash (drop l.byte-index l.byte-items) ≡ with_bytes l.initial.hash l.byte-items
