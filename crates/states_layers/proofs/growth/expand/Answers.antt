use Rattle.states_layers.proofs.Grow.{more_than}
use Rattle.states_layers.proofs.LayerLaws.{into}
use Rattle.states_core.specs.Runs.{Layer}
use Rattle.states_layers.specs.Moves.{Moves, line_after, silents_after}
use Rattle.states_layers.proofs.growth.expand.Goals as goal

pub returns-in-Err-TooMany-clause-stopped : goal.returns-in-Err-TooMany-clause-stopped
returns-in-Err-TooMany-clause-stopped g c =
    rw (c.line_after_move-line.ensures, c.silents_after_move-silents.ensures)
    (more_than (Moves (g.S.Steps.system c.args.steps.now) c.args.step c.args.node.now.entry)
    (Layer (g.S.Steps.system c.args.steps.now) (line_after c.args.step) (silents_after c.args.step)) _
    (λ t h. into (g.S.Steps.system c.args.steps.now) c.args.step c.args.node.now.line c.args.node.now.silents c.args.node.now.entry t
    c.requires.opens c.requires.source c.requires.reached h)
    (rw (c.in-Err-TooMany.is, c.in-Err-TooMany.field-0-is, c.limit-bound.ensures) at c.list_steps.ensures.listed))
