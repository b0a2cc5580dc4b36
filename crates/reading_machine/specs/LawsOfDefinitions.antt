-- Where the reader of a unit's definition stops: the laws of LawsOfRefusals from the name of a definition on.
use Rattle.std.specs.Prelude.{◌≡◌, ℕ, List, [], ◌∷◌, ◌++◌}
use Rattle.base_core.specs.declared.place.Place.{Place}
use Rattle.reading_trees.specs.declared.form.DefinitionForm.{DefinitionForm}
use Rattle.reading_trees.specs.declared.laid.Laid.{Laid}
use Rattle.reading_trees.specs.Trees.{Tree}
use Rattle.reading_machine.specs.Beginnings.{BegunDefinition, FittingBegunDefinition}
use Rattle.reading_machine.specs.declared.frame.Mode.TheVariants as mode
use Rattle.reading_machine.specs.declared.frame.Scope.TheVariants as scopes
use Rattle.reading_machine.specs.Machine.{Outcome, StopsAt, ClashesAt, EndsDefinitionAt, run}

-- what comes of these tokens as a unit's definition
abbrev pub run_definition : List Laid → Outcome
run_definition xs = run xs [] (mode.DefinitionName scopes.Unit)

-- before a token at which it stops, a definition is begun
abbrev pub DefinitionStoppedBegun : Type 0
DefinitionStoppedBegun = (read rest : List Laid) (x : Laid) → run_definition (read ++ x ∷ rest) ≡ StopsAt (x ∷ rest) → BegunDefinition read

-- up to an operator or a closing token at which two ranges meet, a definition is begun
abbrev pub DefinitionClashedBegun : Type 0
DefinitionClashedBegun = (read rest : List Laid) (x : Laid) (p q : Place) → run_definition (read ++ x ∷ rest) ≡ ClashesAt p q (x ∷ rest) → BegunDefinition (read ++ x ∷ [])

-- before a token at which a definition has ended, one is begun
abbrev pub DefinitionEndsBegun : Type 0
DefinitionEndsBegun = (read rest : List Laid) (x : Laid) (n : List ℕ) (p : Place) (ns : List (List ℕ)) (form : DefinitionForm) (e : Tree) → run_definition (read ++ x ∷ rest) ≡ EndsDefinitionAt n p ns form e (x ∷ rest) → BegunDefinition read

-- no definition goes on through a token at which it stops
abbrev pub DefinitionStoppedThere : Type 0
DefinitionStoppedThere = (read rest : List Laid) (x : Laid) → run_definition (read ++ x ∷ rest) ≡ StopsAt (x ∷ rest) → ¬ (BegunDefinition (read ++ x ∷ []))

-- nor through one before which a definition has ended
abbrev pub DefinitionEndsThere : Type 0
DefinitionEndsThere = (read rest : List Laid) (x : Laid) (n : List ℕ) (p : Place) (ns : List (List ℕ)) (form : DefinitionForm) (e : Tree) → run_definition (read ++ x ∷ rest) ≡ EndsDefinitionAt n p ns form e (x ∷ rest) → ¬ (BegunDefinition (read ++ x ∷ []))

-- no definition that fits its ranges goes on through a token at which two ranges meet
abbrev pub DefinitionClashedThere : Type 0
DefinitionClashedThere = (read rest : List Laid) (x : Laid) (p q : Place) → run_definition (read ++ x ∷ rest) ≡ ClashesAt p q (x ∷ rest) → ¬ (FittingBegunDefinition (read ++ x ∷ []))

-- where all tokens are read, a definition is begun
abbrev pub DefinitionRanBegun : Type 0
DefinitionRanBegun = (read : List Laid) → run_definition read ≡ StopsAt [] → BegunDefinition read
