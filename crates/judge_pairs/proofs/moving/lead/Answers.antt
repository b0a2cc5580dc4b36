use Rattle.judge_pairs.proofs.Led.{led_so}
use Rattle.judge_pairs.proofs.moving.lead.Goals as goal

pub returns-in-Some : goal.returns-in-Some
returns-in-Some c =
    led_so c.args.updates.now c.args.from.now c.args.to.now c.requires.state c.in_ok-made.made c.in-Some.places c.in-Some.is c.in_ok-made.ensures.long c.in_ok-made.ensures.exact c.is_within.result c.is_within.ensures
