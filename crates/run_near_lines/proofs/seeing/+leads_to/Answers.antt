use Rattle.std.proofs.Common.{Some, option_map}
use Rattle.logs_updates.proofs.UpdateLemmas.{leads_gives}
use Rattle.run_near_lines.proofs.Leading.{leads_only, no_keys}
use Rattle.run_near_lines.proofs.seeing.+leads_to.Goals as goal

pub returns-in_default : goal.returns-in_default
returns-in_default t c =
    let v = c.args.value.now in
    leads_only c.args.keys.now v (Some v) c.is_value.ensures (no_keys c.args.keys.now v c.in_default.ensures.cases)

pub returns : goal.returns
returns t c =
    let keys = c.args.keys.now in
    let v = c.args.value.now in
    let o = option_map (λ v. v.now) c.leads_to.result in
    leads_only keys v o c.is_value.ensures (leads_gives keys c.in-Some.key.now c.in-Some.rest.now v c.in-Some-at.inner.now o c.in-Some.ensures.cases.0 c.is_value.ensures c.in-Some-at.ensures c.leads_to.ensures.is)
