use Rattle.twice_tables.proofs.Lawful.{meanings_are_alike, tables_are_alike, trees_are_alike}
use Rattle.twice_tables.proofs.tables_laws.table_laws.Goals as goal

pub returns : goal.returns
returns c = record { meanings = meanings_are_alike; tables = tables_are_alike; trees = trees_are_alike }
