use Rattle.std.specs.Prelude.{IsUtf8}
use Rattle.steps_lined.proofs.UpTo.{UpTo}
use Rattle.steps_lined.proofs.known.are_texts.Given as goal

abbrev pub invariant-loop-text : goal.invariant-loop-text
invariant-loop-text l = UpTo IsUtf8 l.texts l.text-index
