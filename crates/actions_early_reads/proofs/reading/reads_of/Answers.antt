use Rattle.std.proofs.Common.{◌≡◌, ◌∷◌, [], rules}
use Rattle.names_term_parts.specs.Parts.{part}
use Rattle.names_term_parts.specs.Waiting.{waiting}
use Rattle.actions_early_reads.specs.Keeping.{TellsAll, TellsReads}
use Rattle.actions_early_reads.specs.Sets.{shown}
use Rattle.actions_early_reads.proofs.Found.{if-ok, tells-one}
use Rattle.actions_early_reads.proofs.reading.reads_of.Goals as goal

pub returns : goal.returns
returns c =
    let pushed : waiting c.push.new.stack.items ≡ part c.args.primed c.args.term.now ∷ [] = search rules in
    if-ok c.reads_all.result (λ s. TellsAll c.args.kept.now (waiting c.push.new.stack.items) (shown s)) (λ s. TellsReads c.args.kept.now c.args.primed c.args.term.now (shown s)) (λ s h. tells-one c.args.kept.now c.args.primed c.args.term.now (waiting c.push.new.stack.items) (shown s) pushed h) c.reads_all.ensures
