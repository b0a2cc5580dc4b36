use Rattle.std.proofs.Common.{◌≡◌, take}
use Rattle.run_words.specs.Parsers.{texts_of}
use Rattle.run_words.proofs.read.names.Given as goal

abbrev pub invariant-loop-text : goal.invariant-loop-text
invariant-loop-text l = l.names ≡ texts_of (take l.text-index l.texts)
