use Rattle.values_operations.proofs.Counting.{subsets_are_counted, subsets_are_few, functions_are_counted, tuples_are_counted, records_are_counted}
use Rattle.values_operations.proofs.products.count_law.Goals as goal

pub returns : goal.returns
returns c = record { subsets = subsets_are_counted; few_subsets = subsets_are_few; functions = functions_are_counted; tuples = tuples_are_counted; records = records_are_counted }
