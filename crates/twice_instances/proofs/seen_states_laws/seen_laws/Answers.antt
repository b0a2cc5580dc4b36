use Rattle.twice_instances.proofs.Instances.{instance_evaluates, instance_describes, instance_holds}
use Rattle.twice_instances.proofs.seen_states_laws.seen_laws.Goals as goal

pub returns : goal.returns
returns c = record {
  evaluates = instance_evaluates;
  describes = instance_describes;
  holds = instance_holds;
}
