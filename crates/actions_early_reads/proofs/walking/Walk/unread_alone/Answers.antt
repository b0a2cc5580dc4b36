use Rattle.std.proofs.Common.{true, subst, List}
use Rattle.actions_early_reads.specs.declared.reading.Reads.{Reads}
use Rattle.actions_early_reads.specs.Keeping.{TellsReads}
use Rattle.actions_early_reads.specs.Sets.{shown}
use Rattle.actions_early_reads.proofs.Following.{tells-unread_alone}
use Rattle.actions_early_reads.proofs.walking.Walk.unread_alone.Goals as goal

pub returns : goal.returns
returns c bound =
    let tells : TellsReads c.args.self.now.reads.items true c.args.term.now (shown c.in_ok-read.read) = subst (λ (ks : List Reads). TellsReads ks true c.args.term.now (shown c.in_ok-read.read)) c.deref.ensures.value c.in_ok-read.ensures in
    tells-unread_alone c.args.self.now bound (shown c.args.before) (shown c.in_ok-read.read) c.args.term.now c.least_outside.result tells c.least_outside.ensures
