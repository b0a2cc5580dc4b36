-- proofs/path/part_start/Answers.antt
use Rattle.std.proofs.Common.{arith}
use Rattle.std.specs.Prelude.{Some, None}
use Rattle.std.proofs.lemmas.Str.{IsCharBoundary-start}
use Rattle.std.proofs.lemmas.Str.Pattern.{rfind_char}
use Rattle.reading_modules.proofs.path.part_start.Goals as goal

pub returns-in-Some-clause-behind : goal.returns-in-Some-clause-behind
returns-in-Some-clause-behind c = λ k from below e.
    (rfind_char 47 c.args.path.now (Some c.in-Some.slash) c.in-Some.ensures.cases (omega arith)).2 k (omega arith) below e

pub returns-in-None-clause-boundary : goal.returns-in-None-clause-boundary
returns-in-None-clause-boundary c = IsCharBoundary-start c.args.path.now c.utf8.path

pub returns-in-None-clause-behind : goal.returns-in-None-clause-behind
returns-in-None-clause-behind c = λ k from below e.
    rfind_char 47 c.args.path.now None c.in-None.ensures.cases (omega arith) k below e
