use Rattle.std.proofs.Common.{◌≡◌, drop}
use Rattle.reading_configuration.specs.declared.expects.Expects.TheVariants.{Statement}
use Rattle.reading_configuration.specs.declared.expects.Further.TheVariants.{Nothing}
use Rattle.reading_configuration.specs.Given.{nothing_given}
use Rattle.reading_configuration.specs.Steps.{reads}
use Rattle.reading_configuration.proofs.reading.read.Given as goal

abbrev pub invariant-loop-token : goal.invariant-loop-token
invariant-loop-token l = reads (Statement Nothing) (nothing_given l.name) l.tokens ≡ reads l.expects l.config (drop l.token-index l.tokens)
