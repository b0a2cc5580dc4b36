use Rattle.std.proofs.Common.{List, subst}
use Rattle.values_core.specs.Data.{Val}
use Rattle.logs_updates.specs.Changes.{LeadsTo}
use Rattle.logs_updates.proofs.UpdateLemmas.{seen_is}
use Rattle.logs_updates.proofs.seeing.seen.Goals as goal

pub returns-in-Some : goal.returns-in-Some
returns-in-Some c =
    let found = rw c.in-Some.is at c.leads_to.ensures in
    let led = subst (λ (ks : List Val). LeadsTo ks c.args.value.now c.in-Some.inner.now) c.keys.ensures.keys found in
    seen_is c.args.see.now.path.keys c.args.value.now c.in-Some.inner.now c.args.see.now.value c.same.result c.is_value.ensures led c.same.ensures
