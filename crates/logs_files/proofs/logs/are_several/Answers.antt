use Rattle.std.proofs.Common.{ap, sym}
use Rattle.std.specs.Prelude.{nat_lt}
use Rattle.std.proofs.lemmas.List.{length-map}
use Rattle.logs_files.proofs.logs.are_several.Goals as goal

pub returns : goal.returns
returns c = ap (nat_lt 1) (sym (length-map c.args.texts.now (λ text. text.items)))
