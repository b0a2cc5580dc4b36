use Rattle.std.proofs.Common.{refl, subst}
use Rattle.names_term_levels.specs.declared.gathering.Conjunct.TheVariants as conjunct
use Rattle.names_term_levels.specs.Conjuncts.{IsConjunct, contribution_of}
use Rattle.names_term_levels.specs.Shape.{rows}
use Rattle.names_term_levels.proofs.Conjuncts.{if_ok_mapped, took}
use Rattle.names_term_levels.proofs.gathering.take.Goals as goal

pub returns-in-Init : goal.returns-in-Init
returns-in-Init c =
    if_ok_mapped c.take_init.result _ _ (λ b h. took c.args.table.now c.args.term.now b conjunct.Init (rows c.args.stack.now.items) (rows c.args.stack.now.items) (contribution_of c.args.gathered.now) (contribution_of c.take_init.new.gathered) h.0 (subst (IsConjunct c.args.table.now c.args.term.now) c.in-Init.is c.in_ok-kind.ensures) (refl, h.1)) c.take_init.ensures

pub returns-in-Step : goal.returns-in-Step
returns-in-Step c =
    if_ok_mapped c.take_step.result _ _ (λ b h. took c.args.table.now c.args.term.now b (conjunct.Step c.in-Step.action) (rows c.args.stack.now.items) (rows c.args.stack.now.items) (contribution_of c.args.gathered.now) (contribution_of c.take_step.new.gathered) h.0 (subst (IsConjunct c.args.table.now c.args.term.now) c.in-Step.is c.in_ok-kind.ensures) (refl, h.1)) c.take_step.ensures

pub returns-in-Conjunction : goal.returns-in-Conjunction
returns-in-Conjunction c =
    if_ok_mapped c.open_conjunction.result _ _ (λ b h. took c.args.table.now c.args.term.now b (conjunct.Conjunction c.in-Conjunction.terms) (rows c.args.stack.now.items) (rows c.open_conjunction.new.stack.items) (contribution_of c.args.gathered.now) (contribution_of c.args.gathered.now) h.0 (subst (IsConjunct c.args.table.now c.args.term.now) c.in-Conjunction.is c.in_ok-kind.ensures) (h.1, refl)) c.open_conjunction.ensures
