-- proofs/so_far/list_names/Answers.antt
use Rattle.std.proofs.Common.{◌∙◌, arith}
use Rattle.reading_modules.proofs.Firsts.{joined_on, joined_all}
use Rattle.reading_modules.proofs.so_far.list_names.Goals as goal

pub loop-name-preserved : goal.loop-name-preserved
loop-name-preserved c =
    joined_on c.loop-name.names c.list_name.new.names c.args.more.now c.loop-name.name-index c.name-item.result c.loop-name-test.true c.name-item.is
    c.in_ok-list_name.ensures ∙ c.loop-name.invariant

pub returns : goal.returns
returns c = joined_all c.loop-name.names c.args.names.now c.args.more.now c.loop-name.name-index (omega arith) c.loop-name.invariant
