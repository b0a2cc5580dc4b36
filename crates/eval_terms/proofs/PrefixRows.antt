-- What a term with a prefix operator describes: all but `SUBSET` describe the value that they have.
use Rattle.std.proofs.Common.{◌≡◌}
use Rattle.std.specs.Prelude.{Bool, true, false, Result}
use Rattle.base_core.specs.declared.place.Place.{Place}
use Rattle.reading_trees.specs.declared.operators.PrefixOperator.{PrefixOperator}
use Rattle.reading_trees.specs.declared.operators.PrefixOperator.TheVariants as prefix
use Rattle.names_terms.specs.Terms.{Term, Prefix}
use Rattle.values_sets.specs.DescribedSets.{Described}
use Rattle.eval_meanings.specs.declared.fault.EvalFault.{EvalFault}
use Rattle.eval_meanings.specs.Answers.{Tells}
use Rattle.eval_meanings.specs.Contexts.{Context, Describe, Evaluate, Table}
use Rattle.eval_meanings.specs.Meanings.{IsValueOf, MeaningDescribes, MeaningEvaluates}

abbrev pub makes_subsets : PrefixOperator → Bool
makes_subsets prefix.Powerset = true
makes_subsets o = false

pub value_described : (ops : Table) (ev : Evaluate) (de : Describe) (c : Context) (o : PrefixOperator) (a : Term) (at : Place) (r : Result Described EvalFault) → makes_subsets o ≡ false → Tells r (IsValueOf (MeaningEvaluates ops ev de c at (Prefix o a))) → Tells r (MeaningDescribes ops ev de c at (Prefix o a))
value_described ops ev de c prefix.Not a at r p h = h
value_described ops ev de c prefix.Unchanged a at r p h = h
value_described ops ev de c prefix.Enabled a at r p h = h
value_described ops ev de c prefix.Always a at r p h = h
value_described ops ev de c prefix.Eventually a at r p h = h
value_described ops ev de c prefix.Powerset a at r p h = cc
value_described ops ev de c prefix.BigUnion a at r p h = h
value_described ops ev de c prefix.Domain a at r p h = h
value_described ops ev de c prefix.Negate a at r p h = h
