use Rattle.std.proofs.Common.{◌∙◌, refl, ap, sym}
use Rattle.reading_trees.specs.Trees as tree
use Rattle.names_scopes.specs.Mentions.{binds, is_one_of}
use Rattle.names_scopes.proofs.MentionLoops as loops
use Rattle.names_scopes.proofs.free_names.binds.Goals as goal

pub returns-then-is_one_of : goal.returns-then-is_one_of
returns-then-is_one_of c =
    sym (ap (λ (l : tree.Bounds). binds l c.args.name.now) (sym c.items-bound-items.ensures) ∙ loops.Binds_found c.args.name.now c.items-bound-items.result.now c.loop-bound.bound-index c.bound-item.result c.loop-bound-test.true c.bound-item.is c.loop-bound.invariant (ap (λ ns. is_one_of c.args.name.now ns) (sym c.items.ensures) ∙ sym c.is_one_of.ensures ∙ c.if-is_one_of.true))

pub loop-bound-preserved : goal.loop-bound-preserved
loop-bound-preserved c =
    loops.Binds_on c.args.name.now c.items-bound-items.result.now c.loop-bound.bound-index c.bound-item.result c.loop-bound-test.true c.bound-item.is c.loop-bound.invariant (ap (λ ns. is_one_of c.args.name.now ns) (sym c.items.ensures) ∙ sym c.is_one_of.ensures ∙ c.if-is_one_of.false)

pub loop-bound-init : goal.loop-bound-init
loop-bound-init c = record { so_far = tree.NoBounds; whole = refl; none = refl }

pub returns : goal.returns
returns c =
    sym (ap (λ (l : tree.Bounds). binds l c.args.name.now) (sym c.items-bound-items.ensures) ∙ loops.Binds_end c.args.name.now c.items-bound-items.result.now c.loop-bound.bound-index c.loop-bound-test.false c.loop-bound.invariant)
