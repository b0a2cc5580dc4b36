use Rattle.steps_why_branches.proofs.EachSays.{branches_say, none_spared, parts_say}
use Rattle.steps_why_branches.proofs.Repairs.{but_nothing}
use Rattle.steps_why_branches.proofs.reasons.reason_law.Goals as goal

pub returns-clause-actions : goal.returns-clause-actions
returns-clause-actions c = branches_say

pub returns-clause-parts : goal.returns-clause-parts
returns-clause-parts c = parts_say

pub returns-clause-nothing : goal.returns-clause-nothing
returns-clause-nothing c = none_spared

pub returns-clause-holds : goal.returns-clause-holds
returns-clause-holds c = but_nothing
