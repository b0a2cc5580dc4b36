-- The terms in changes: those of each path, and the new value.
use Rattle.std.specs.Prelude.{[], ◌∷◌, ◌++◌, List}
use Rattle.std.specs.List.{flat_map}
use Rattle.names_terms.specs.Lists.{changes_list}
use Rattle.names_terms.specs.Terms.{Term, Steps, Changes}
use Rattle.actions_meanings.specs.Reads.{path_terms}

abbrev pub change_terms : Changes → List Term
change_terms cs = flat_map (λ (change : Steps × Term). path_terms change.0 ++ change.1 ∷ []) (changes_list cs)
