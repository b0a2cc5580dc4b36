-- proofs/path/parts_of/Answers.antt
use Rattle.reading_modules.proofs.Parts.{path_is, no_path}
use Rattle.reading_modules.proofs.path.parts_of.Goals as goal

pub returns-in_err-stem : goal.returns-in_err-stem
returns-in_err-stem c = rw c.from_residual.ensures (λ folder name p. no_path c.args.path.now folder name c.in_err-stem.ensures p)

pub returns : goal.returns
returns c =
    rw (c.split_at.ensures.front, c.split_at.ensures.back)
    (path_is c.args.path.now c.in_ok-stem.stem.now c.part_start.result c.in_ok-stem.ensures c.part_start.ensures.within c.part_start.ensures.slash
    c.part_start.ensures.behind)
