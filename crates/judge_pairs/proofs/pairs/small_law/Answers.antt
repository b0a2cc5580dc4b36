use Rattle.judge_pairs.proofs.pairs.small_law.Goals as goal

pub returns : goal.returns
returns c = let p = c.args.pairs.now in record { lines = p.few_lines; some = p.some_step; within = p.few_steps }
