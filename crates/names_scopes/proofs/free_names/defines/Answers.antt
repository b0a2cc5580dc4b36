use Rattle.std.proofs.Common.{◌∙◌, refl, ap, sym}
use Rattle.reading_trees.specs.Trees as tree
use Rattle.names_scopes.specs.Mentions.{defines}
use Rattle.names_scopes.proofs.MentionLoops as loops
use Rattle.names_scopes.proofs.free_names.defines.Goals as goal

pub returns-then-eq : goal.returns-then-eq
returns-then-eq c =
    sym (ap (λ (l : tree.Definitions). defines l c.args.name.now) (sym c.items-definition-items.ensures) ∙ loops.Defines_found c.args.name.now c.items-definition-items.result.now c.loop-definition.definition-index c.definition-item.result c.loop-definition-test.true c.definition-item.is c.loop-definition.invariant (sym c.eq.ensures ∙ c.if-eq.true))

pub loop-definition-preserved : goal.loop-definition-preserved
loop-definition-preserved c =
    loops.Defines_on c.args.name.now c.items-definition-items.result.now c.loop-definition.definition-index c.definition-item.result c.loop-definition-test.true c.definition-item.is c.loop-definition.invariant (sym c.eq.ensures ∙ c.if-eq.false)

pub loop-definition-init : goal.loop-definition-init
loop-definition-init c = record { so_far = tree.NoDefinitions; whole = refl; none = refl }

pub returns : goal.returns
returns c =
    sym (ap (λ (l : tree.Definitions). defines l c.args.name.now) (sym c.items-definition-items.ensures) ∙ loops.Defines_end c.args.name.now c.items-definition-items.result.now c.loop-definition.definition-index c.loop-definition-test.false c.loop-definition.invariant)
