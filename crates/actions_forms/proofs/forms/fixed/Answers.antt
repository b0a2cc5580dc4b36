use Rattle.actions_early_reads.specs.declared.walking.Walk.{Walk}
use Rattle.actions_early_reads.specs.Sets.{shown}
use Rattle.actions_forms.proofs.Said.{form-says}
use Rattle.actions_forms.proofs.forms.fixed.Goals as goal

pub returns-in-Ok : goal.returns-in-Ok
returns-in-Ok c =
    let walk : Walk = record { alloc = c.args.alloc; which = c.args.which; variables = c.args.variables; operators = c.args.operators; reads = c.in-Ok.reads } in
    form-says walk c.len.result c.args.term.now (shown c.args.before) c.fixed_within.result c.requires.few c.requires.smaller c.requires.below c.requires.orderly c.in-Ok.ensures.whole (c.in-Ok.ensures.kept c.args.variables c.requires.few) c.len.ensures c.fixed_within.ensures
