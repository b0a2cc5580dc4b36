use Rattle.std.proofs.Common.{ap, subst, sym, [], Option}
use Rattle.std.specs.Prelude.{IfOk}
use Rattle.names_terms.specs.declared.ids.DefId.{DefId}
use Rattle.steps_lines_defs.specs.Steps.{silent_act}
use Rattle.judge_pairs.specs.Telling.{IsBothTold, act_at}
use Rattle.judge_pairs.proofs.telling.tell_silent.Goals as goal

pub tell_both-requires-clause-call : goal.tell_both-requires-clause-call
tell_both-requires-clause-call c = c.requires.call (act_at c.in-Some.number.0 []) (ap silent_act c.in-Some.is)

pub returns-in-None : goal.returns-in-None
returns-in-None c = subst (λ (o : Option DefId). IfOk c.tell_next.result (λ told. IsBothTold c.args.between (silent_act o) told)) (sym c.in-None.is) c.tell_next.ensures

pub returns-in-Some : goal.returns-in-Some
returns-in-Some c = subst (λ (o : Option DefId). IfOk c.tell_both.result (λ told. IsBothTold c.args.between (silent_act o) told)) (sym c.in-Some.is) c.tell_both.ensures
