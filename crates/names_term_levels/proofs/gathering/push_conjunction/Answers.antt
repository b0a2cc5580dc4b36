use Rattle.std.proofs.Common.{◌∙◌, ap, ◌++◌}
use Rattle.std.specs.Prelude.{reverse}
use Rattle.names_term_levels.specs.Shape.{rows}
use Rattle.names_term_parts.proofs.Lists.{ok_mapped}
use Rattle.names_term_levels.proofs.Texts.{listed_of}
use Rattle.names_term_levels.proofs.gathering.push_conjunction.Goals as goal

pub returns : goal.returns
returns c =
    ok_mapped c.push_reversed.result _ _ (λ h. h ∙ ap (λ xs. rows c.args.stack.now.items ++ reverse xs) (listed_of c.items.result.now c.args.terms.now c.items.ensures)) c.push_reversed.ensures
