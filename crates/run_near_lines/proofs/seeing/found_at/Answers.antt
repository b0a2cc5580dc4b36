use Rattle.std.proofs.Common.{◌≡◌, List, Some, option_map, subst}
use Rattle.std.specs.Prelude.{slice_get}
use Rattle.values_core.specs.Data.{Val}
use Rattle.states_core.specs.declared.var_id.VarId.{VarId}
use Rattle.logs_updates.specs.Changes.{Finds, LeadsTo}
use Rattle.run_near_lines.specs.Adding.{IsOnly}
use Rattle.run_near_lines.proofs.Leading.{stands_only}
use Rattle.run_near_lines.proofs.seeing.found_at.Goals as goal

pub returns-in-Some : goal.returns-in-Some
returns-in-Some c =
    let q = c.args.places.now in
    let path = c.args.see.now.path in
    let v = c.in-Some.value.now in
    let o = option_map (λ v. v.now) c.leads_to.result in
    let there = subst (λ (x : VarId). slice_get q x.0 ≡ Some (Some v)) c.variable.ensures c.in-Some.ensures in
    stands_only q path v there o (subst (λ (ks : List Val). IsOnly (Finds (LeadsTo ks v)) o) c.keys.ensures.keys c.leads_to.ensures)
