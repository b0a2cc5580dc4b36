use Rattle.std.proofs.Common.{Bool, sym, subst}
use Rattle.std.specs.Prelude.{IfOk, IfErr}
use Rattle.reading_modules.specs.Refusals.{StopsBy}
use Rattle.reading_wide_modules.specs.Wide.{reading_by}
use Rattle.reading_wide_modules.proofs.loading.TextReaderModuleReader.read.Goals as goal

pub returns-then-self-clause-spelled : goal.returns-then-self-clause-spelled
returns-then-self-clause-spelled c =
    subst (λ (w : Bool). IfOk c.read_wide.result (λ s. (reading_by w).Spells c.args.number c.args.bytes.now s.module s.notes.items)) (sym c.if-self.true) c.read_wide.ensures.read

pub returns-then-self-clause-refused : goal.returns-then-self-clause-refused
returns-then-self-clause-refused c =
    subst (λ (w : Bool). IfErr c.read_wide.result (StopsBy ((reading_by w).Misspells c.args.number c.args.bytes.now))) (sym c.if-self.true) c.read_wide.ensures.refused
