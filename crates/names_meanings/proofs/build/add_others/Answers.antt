use Rattle.std.proofs.Common.{◌∙◌, sym, ap}
use Rattle.names_terms.specs.Terms.{MoreTerms}
use Rattle.names_meanings.specs.Means.{operands_list}
use Rattle.names_meanings.proofs.Closing.{operands_behind}
use Rattle.names_meanings.proofs.build.add_others.Goals as goal

pub loop-operand-preserved : goal.loop-operand-preserved
loop-operand-preserved c = λ so_far e.
    c.in_ok-push.ensures.pushed ∙ ap (λ ts. MoreTerms ts c.in-Some.operand.value) (c.loop-operand.invariant so_far e) ∙ sym (ap operands_list (operands_behind so_far c.loop-operand.yielded c.in-Some.operand))
