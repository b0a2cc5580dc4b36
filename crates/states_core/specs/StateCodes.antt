-- How states are told apart by a proof: as lists of values.
use Rattle.std.specs.Prelude.{List, Option}
use Rattle.std.specs.Coded.{Coded, coded_list, coded_option}
use Rattle.values_core.specs.Data.{Val}
use Rattle.values_core.specs.Tree.{val_code}

abbrev pub values_code : Coded (List Val)
values_code = coded_list val_code

abbrev pub places_code : Coded (List (Option Val))
places_code = coded_list (coded_option val_code)
