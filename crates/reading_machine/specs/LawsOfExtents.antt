-- How far texts go: the text of an expression or of a unit's definition lies in its own tokens, and which tokens stand neither behind
-- nor in one.
use Rattle.std.specs.Prelude.{◌≡◌, ℕ, List, [], ◌∷◌, ◌++◌}
use Rattle.base_core.specs.declared.place.Place.{Place}
use Rattle.reading_trees.specs.declared.form.DefinitionForm.{DefinitionForm}
use Rattle.reading_trees.specs.declared.laid.Laid.{Laid}
use Rattle.reading_trees.specs.declared.laid.Laid.TheVariants.{Plain}
use Rattle.reading_tokens.specs.declared.token.Kind.{Kind}
use Rattle.reading_tokens.specs.declared.token.Kind.TheVariants as kinds
use Rattle.reading_trees.specs.Begun.{Begun}
use Rattle.reading_trees.specs.Grammar.{Text}
use Rattle.reading_trees.specs.Trees.{Tree}
use Rattle.reading_machine.specs.Beginnings.{DefinitionText, BegunDefinition}
use Rattle.reading_machine.specs.LawsOfTrees.{EndsText}

-- a text is some tokens, whatever stands behind them
abbrev pub LocalText : Type 0
LocalText = (e : Tree) (xs ys : List Laid) → Text e xs ys → (text : List Laid) × (xs ≡ text ++ ys) × ((zs : List Laid) → Text e (text ++ zs) zs)

-- the same of a unit's definition
abbrev pub LocalDefinition : Type 0
LocalDefinition =
    (n : List ℕ) (at : Place) (ns : List (List ℕ)) (form : DefinitionForm) (e : Tree) (xs ys : List Laid) → DefinitionText n at ns form e xs ys → (text : List Laid) × (xs ≡ text ++ ys) × ((zs : List Laid) → DefinitionText n at ns form e (text ++ zs) zs)

-- behind the whole text of an expression, no token that ends one goes on
abbrev pub NoneFollows : Type 0
NoneFollows = (e : Tree) (text : List Laid) (x : Laid) → Text e text [] → EndsText x → ¬ (Begun (text ++ x ∷ []))

-- the same of a unit's definition
abbrev pub NoneFollowsDefinition : Type 0
NoneFollowsDefinition = (n : List ℕ) (at : Place) (ns : List (List ℕ)) (form : DefinitionForm) (e : Tree) (text : List Laid) (x : Laid) → DefinitionText n at ns form e text [] → EndsText x → ¬ (BegunDefinition (text ++ x ∷ []))

-- dashes, equals signs and the End
abbrev pub IsMarkKind : Kind → Type 0
IsMarkKind kinds.Dashes = Unit {0}
IsMarkKind kinds.Equals = Unit {0}
IsMarkKind kinds.End = Unit {0}
IsMarkKind _ = ⊥

abbrev pub IsMark : Laid → Type 0
IsMark (Plain t) = IsMarkKind t.kind
IsMark _ = ⊥

-- no expression holds one of these
abbrev pub NoMarkInside : Type 0
NoMarkInside = (before after : List Laid) (x : Laid) → IsMark x → ¬ (Begun (before ++ x ∷ after))

-- nor does a unit's definition
abbrev pub NoMarkInsideDefinition : Type 0
NoMarkInsideDefinition = (before after : List Laid) (x : Laid) → IsMark x → ¬ (BegunDefinition (before ++ x ∷ after))
