use Rattle.twice_instances.proofs.Programs.{among_is_instance}
use Rattle.twice_instances.proofs.RowsAlike.{instance_rows, instance_terms}
use Rattle.twice_instances.proofs.Made.{made_evaluates, made_holds}
use Rattle.twice_instances.proofs.instances_laws.made_laws.Goals as goal

pub returns : goal.returns
returns c = record {
  among = among_is_instance;
  rows = instance_rows;
  terms = instance_terms;
  evaluates = made_evaluates c.seen_laws.ensures.evaluates;
  holds = made_holds c.seen_laws.ensures.holds;
}
