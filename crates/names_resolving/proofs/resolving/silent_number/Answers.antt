use Rattle.std.proofs.Common.{◌∙◌, sym, ap, List, map}
use Rattle.std.specs.Prelude.{option_map}
use Rattle.std.specs.Borrow.{Bor}
use Rattle.base_core.specs.declared.text.Text.{Text}
use Rattle.reading_trees.specs.declared.expr.Definition.{Definition}
use Rattle.names_program.specs.Names.{index_among, names_defined}
use Rattle.names_resolving.specs.Configured.{missing}
use Rattle.names_resolving.proofs.Sought.{not_unnumbered}
use Rattle.names_resolving.proofs.resolving.silent_number.Goals as goal

pub unreachable-requires : goal.unreachable-requires
unreachable-requires c =
    not_unnumbered c.args.program.now c.args.table.now c.in-Some.name.now c.in-Some-definition_index.index c.requires.complete
    (ap (λ o. missing c.args.program.now (option_map (λ (n : Bor Text). n.now) o)) (sym c.in-Some.is) ∙ c.requires.there)
    (ap (λ (l : List Definition). index_among (names_defined l) c.in-Some.name.now) (sym c.requires.declared.definitions ∙ ap (map (λ (d : Bor Definition). d.now)) (sym c.deref.ensures.value)) ∙ sym c.definition_index.ensures ∙ c.in-Some-definition_index.is)
    (sym c.number_at.ensures ∙ c.in-None-number_at.is)
