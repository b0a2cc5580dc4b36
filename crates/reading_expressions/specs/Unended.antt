-- Where a token is refused because no text goes on through it, no text ends before it either.
use Rattle.std.specs.Prelude.{◌≡◌, ℕ, List, [], ◌∷◌, ◌++◌}
use Rattle.base_core.specs.declared.place.Place.{Place}
use Rattle.reading_trees.specs.declared.form.DefinitionForm.{DefinitionForm}
use Rattle.reading_trees.specs.declared.laid.Laid.{Laid}
use Rattle.reading_trees.specs.Trees.{Tree}
use Rattle.reading_trees.specs.Grammar.{Text}
use Rattle.reading_machine.specs.Beginnings.{DefinitionText}
use Rattle.reading_machine.specs.LawsOfTrees.{EndsText}
use Rattle.reading_expressions.specs.declared.fault.ParseFault.{ParseFault}
use Rattle.reading_expressions.specs.declared.fault.ParseFault.TheVariants.{Expected, OutOfProfile}

-- these laid tokens are the text of an expression; the ranges of operators play no part
abbrev pub EndedText : List Laid → Type 0
EndedText text = (e : Tree) × Text e text []

-- the same of a unit's definition
abbrev pub EndedDefinition : List Laid → Type 0
EndedDefinition text = (n : List ℕ) × (at : Place) × (ns : List (List ℕ)) × (form : DefinitionForm) × (e : Tree) × DefinitionText n at ns form e text []

-- the list begins with no text behind which stands a token that ends texts
abbrev pub NoneEnds : (Ended : List Laid → Type 0) → List Laid → Type 0
NoneEnds Ended laid = (text rest : List Laid) (x : Laid) → laid ≡ text ++ x ∷ rest → EndsText x → ¬ (Ended text)

-- so it is where a token is refused that can not follow
abbrev pub IsUnended : (Ended : List Laid → Type 0) → List Laid → ParseFault → Type 0
IsUnended Ended laid (Expected p) = NoneEnds Ended laid
IsUnended Ended laid (OutOfProfile f p) = NoneEnds Ended laid
IsUnended Ended laid _ = Unit {0}
