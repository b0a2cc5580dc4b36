use Rattle.std.proofs.Common.{option_map}
use Rattle.logs_updates.proofs.UpdateLemmas.{leads_gives}
use Rattle.logs_updates.proofs.seeing.+leads_to.Goals as goal

pub returns : goal.returns
returns t c =
    leads_gives c.args.keys.now c.in-Some.key.now c.in-Some.rest.now c.args.value.now c.in-Some-at.inner.now (option_map (λ v. v.now) c.leads_to.result) c.in-Some.ensures.cases.0 c.is_value.ensures c.in-Some-at.ensures c.leads_to.ensures
