use Rattle.twice_terms.specs.Laws.{AreAny, AreOne}
use Rattle.twice_terms.proofs.Shapes.{one_shape}
use Rattle.twice_terms.proofs.Telling.{tell_same, have_same_parts, one_first_fault}
use Rattle.twice_terms.proofs.laws.alike_laws.Goals as goal

pub returns : goal.returns
returns c = record {
  same = tell_same AreOne;
  same_for_any = tell_same AreAny;
  parts = have_same_parts AreOne;
  parts_for_any = have_same_parts AreAny;
  one_first_fault = one_first_fault;
  one_shape = one_shape;
}
