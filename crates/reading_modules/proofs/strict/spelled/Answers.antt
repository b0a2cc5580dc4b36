-- proofs/strict/spelled/Answers.antt
use Rattle.std.proofs.Common.{sym, subst, List}
use Rattle.reading_trees.specs.declared.laid.Laid.{Laid}
use Rattle.reading_trees.specs.Modules.{LaidEndsOnce, SpellsModule}
use Rattle.reading_units.specs.Refusals.{ShallowWholeModule}
use Rattle.reading_modules.proofs.FromFiles.{laid_as_ends}
use Rattle.reading_modules.proofs.strict.spelled.Goals as goal

pub module-requires : goal.module-requires
module-requires c =
    subst (λ (xs : List Laid). LaidEndsOnce xs) (sym c.deref.ensures.value)
    (laid_as_ends c.args.number c.args.bytes.now c.in_ok-laid.laid.items c.tokens_end_once.ensures c.laid_ends_once.ensures c.in_ok-laid.ensures.laid)

pub returns-in-Ok-clause-spelled : goal.returns-in-Ok-clause-spelled
returns-in-Ok-clause-spelled c =
    record {
      laid = c.in_ok-laid.laid.items;
      laid_as = c.in_ok-laid.ensures.laid;
      spells = subst (λ (xs : List Laid). SpellsModule c.in-Ok.module xs) c.deref.ensures.value c.in-Ok.ensures.spelled;
      shallow = subst (λ (xs : List Laid). ShallowWholeModule xs) c.deref.ensures.value c.in-Ok.ensures.shallow;
    }
