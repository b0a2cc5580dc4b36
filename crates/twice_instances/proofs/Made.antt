-- What an action or an expression of an instance says of states is what that of the module says of the states that it sees there.
use Rattle.twice_instances.specs.SeenStates.{InstanceEvaluates, InstanceHolds}
use Rattle.twice_instances.specs.Rows.{MadeEvaluates, MadeHolds}
use Rattle.twice_instances.proofs.RowsAlike.{terms_alike}

pub made_holds : InstanceHolds → MadeHolds
made_holds holds substitute variables by own others g h ds number renumber kinds instance params t a i plain fit p q depth c =
    holds substitute variables g h kinds instance.smaller instance.smaller_there a i (terms_alike substitute variables by own others g.table h.table ds number renumber instance params t a i plain fit p q) depth c

pub made_evaluates : InstanceEvaluates → MadeEvaluates
made_evaluates evaluates substitute variables by own others ops all ds number renumber instance params t a i plain fit p q depth c r =
    evaluates substitute variables ops all instance.smaller instance.smaller_there a i (terms_alike substitute variables by own others ops all ds number renumber instance params t a i plain fit p q) depth c r
