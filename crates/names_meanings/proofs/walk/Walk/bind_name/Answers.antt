use Rattle.names_meanings.proofs.AroundLemmas.{pushed_bound}
use Rattle.names_meanings.proofs.walk.Walk.bind_name.Goals as goal

pub invariant_of-self-2 : goal.invariant_of-self-2
invariant_of-self-2 c =
    pushed_bound c.self.inside.names.now c.self.inside.scope c.push.new.self c.self.inside.table c.in_ok-copy.field-0 c.push.result c.push.ensures.pushed c.push.ensures.kept c.self.invariant
