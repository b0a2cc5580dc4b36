use Rattle.reading_machine.specs.Machine.{list_closes}
use Rattle.reading_token_steps.proofs.KeptCloses.{plain_laid, open_laid, item_laid, close_laid}
use Rattle.reading_token_steps.proofs.SameDoes.{does_same, does_with}
use Rattle.reading_token_steps.proofs.behind.laid_closes.Goals as goal

pub returns-in-Plain : goal.returns-in-Plain
returns-in-Plain c = does_same _ _ _ _ (plain_laid _ _ _ _ _ c.in-Plain.is) c.kind_closes.ensures

pub returns-in-ListOpen : goal.returns-in-ListOpen
returns-in-ListOpen c = open_laid _ _ _ _ _ _ c.in-ListOpen.is

pub returns-in-ListItem : goal.returns-in-ListItem
returns-in-ListItem c = does_same _ _ _ _ (item_laid _ _ _ _ _ _ c.in-ListItem.is) c.item_closes.ensures

pub returns-in-ListClose : goal.returns-in-ListClose
returns-in-ListClose c = does_same _ _ _ _ (close_laid _ _ _ _ _ c.in-ListClose.is) (does_with _ _ (λ fs. list_closes c.args.frame fs c.args.e) c.list_closes.ensures)
