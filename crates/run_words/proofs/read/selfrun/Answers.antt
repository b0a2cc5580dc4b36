use Rattle.std.proofs.Common.{ℕ}
use Rattle.run_words.specs.Words.{AsksNumber}
use Rattle.run_words.specs.Line.{words_of}
use Rattle.run_words.proofs.ReadLaws.{at_none, no_selfrun}
use Rattle.run_words.proofs.read.selfrun.Goals as goal

pub returns-in-None : goal.returns-in-None
returns-in-None c =
    let ws = words_of c.args.words.now in
    no_selfrun ws (at_none c.in_ok-n.field-0 ((n : ℕ) → AsksNumber ws n → ⊥) (λ n. AsksNumber ws n) c.in-None.is c.in_ok-n.ensures)
