use Rattle.std.proofs.Common.{List, ap, sym, ◌∙◌, map, refl}
use Rattle.values_core.specs.Data.{Val}
use Rattle.values_core.specs.Functions.{sequence_of}
use Rattle.values_core.specs.FunctionLaws.{entries-pairs_of}
use Rattle.values_core.proofs.value.making.function_node.Goals as goal

pub returns-then-are_numbered-clause-view : goal.returns-then-are_numbered-clause-view
returns-then-are_numbered-clause-view c =
    rw c.in_ok-body.ensures.items (ap sequence_of (c.in_ok-items.ensures ∙ ap (λ (ps : List (Val × Val)). map (λ p. p.1) ps) (sym (entries-pairs_of c.args.pairs.items)))
    ∙ sym (c.if-are_numbered.ensures.0 refl))
