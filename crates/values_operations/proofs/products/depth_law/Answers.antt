use Rattle.values_operations.proofs.Shallow.{subsets_are_values, functions_are_values, tuples_are_values, records_are_values}
use Rattle.values_operations.proofs.products.depth_law.Goals as goal

pub returns : goal.returns
returns c = record { subsets = subsets_are_values; functions = functions_are_values; tuples = tuples_are_values; records = records_are_values }
