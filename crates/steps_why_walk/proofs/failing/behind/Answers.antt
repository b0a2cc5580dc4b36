use Rattle.std.proofs.Common.{◌≡◌, ◌∙◌, ap, sym, subst, map}
use Rattle.std.specs.Prelude.{Option}
use Rattle.steps_why_branches.specs.declared.sparing.Spared.{Spared}
use Rattle.steps_why_walk.specs.Ends.{with_first}
use Rattle.steps_why_walk.proofs.Keeping.{ok_then, same_behind}
use Rattle.steps_why_walk.proofs.failing.behind.Goals as goal

pub returns-in-None : goal.returns-in-None
returns-in-None c = subst (λ (o : Option Spared). c.args.ends.items ≡ map (with_first o) c.args.ends.items) (sym c.in-None.is) (sym (same_behind c.args.ends.items))

pub returns-in-Some : goal.returns-in-Some
returns-in-Some c = ok_then c.behind_first.result _ _ (λ x h. h ∙ ap (λ (o : Option Spared). map (with_first o) c.args.ends.items) (sym c.in-Some.is)) c.behind_first.ensures
