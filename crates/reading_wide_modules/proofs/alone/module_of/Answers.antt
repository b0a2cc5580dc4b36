use Rattle.std.proofs.Common.{sym, subst, List}
use Rattle.reading_trees.specs.declared.laid.Laid.{Laid}
use Rattle.reading_trees.specs.Modules.{LaidEndsOnce, SpellsModule}
use Rattle.reading_units.specs.Refusals.{ShallowWholeModule}
use Rattle.reading_wide_modules.proofs.alone.module_of.Goals as goal

pub module-requires : goal.module-requires
module-requires c =
    subst (λ (xs : List Laid). LaidEndsOnce xs) (sym c.deref.ensures.value)
    (c.laid_ends_once.ensures c.args.tokens.items c.in_ok-laid.laid.items c.requires c.in_ok-laid.ensures.laid)

pub returns-in-Ok-clause-read : goal.returns-in-Ok-clause-read
returns-in-Ok-clause-read c =
    record {
      laid = c.in_ok-laid.laid.items;
      marked = c.in_ok-laid.ensures.laid;
      spells = subst (λ (xs : List Laid). SpellsModule c.in-Ok.module xs) c.deref.ensures.value c.in-Ok.ensures.spelled;
      shallow = subst (λ (xs : List Laid). ShallowWholeModule xs) c.deref.ensures.value c.in-Ok.ensures.shallow;
    }
