use Rattle.std.proofs.Common.{◌≡◌, ◌∙◌, sym}
use Rattle.reading_tokens.proofs.NameLaws.{is_name_to, is_name_from}
use Rattle.reading_tokens.proofs.name.is_name.Goals as goal

pub returns : goal.returns
returns c = (λ h. is_name_to c.args.name.now (sym c.is_plain_name.ensures ∙ h), λ h. c.is_plain_name.ensures ∙ is_name_from c.args.name.now h)
