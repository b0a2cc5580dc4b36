use Rattle.std.proofs.Common.{ℕ, List, subst}
use Rattle.std.specs.Prelude.{All, IsUtf8}
use Rattle.steps_lined.proofs.known.known_texts.Goals as goal

pub returns : goal.returns
returns c = subst (λ (texts : List (List ℕ)). All IsUtf8 texts) c.items.ensures c.are_texts.ensures
