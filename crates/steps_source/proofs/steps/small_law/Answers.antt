use Rattle.steps_source.proofs.Small.{is_small}
use Rattle.steps_source.proofs.steps.small_law.Goals as goal

pub returns : goal.returns
returns c =
    let s = c.args.steps.now in
    is_small s.spec.now s.log.now s.stutter s.within s.limit s.few_lines s.some_step s.few_steps s.small_layers
