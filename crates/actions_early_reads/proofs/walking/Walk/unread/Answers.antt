use Rattle.std.proofs.Common.{◌≡◌, ◌∷◌, map, subst, rules, List, true}
use Rattle.names_term_parts.specs.Parts.{Part, part}
use Rattle.names_term_parts.specs.Waiting.{waiting}
use Rattle.actions_early_reads.specs.declared.reading.Reads.{Reads}
use Rattle.actions_early_reads.specs.Keeping.{TellsAll}
use Rattle.actions_early_reads.specs.Sets.{shown}
use Rattle.actions_early_reads.proofs.Following.{items_terms, tells-unread}
use Rattle.actions_early_reads.proofs.walking.Walk.unread.Goals as goal

pub returns : goal.returns
returns c bound =
    let stack : List Part = waiting c.push_path.new.stack.items in
    let pushed : stack ≡ part true c.args.base.now ∷ map (part true) (items_terms c.args.steps.now) = search rules in
    let tells : TellsAll c.args.self.now.reads.items stack (shown c.in_ok-read.read) = subst (λ (ks : List Reads). TellsAll ks stack (shown c.in_ok-read.read)) c.deref.ensures.value c.in_ok-read.ensures in
    tells-unread c.args.self.now bound (shown c.args.before) (shown c.in_ok-read.read) c.args.base.now c.args.steps.now stack c.least_outside.result pushed tells c.least_outside.ensures
