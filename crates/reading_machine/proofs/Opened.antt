-- What is read so far: its text, and the ranges and conditions that it keeps.
use Rattle.std.proofs.Common.{ℕ, List}
use Rattle.base_core.specs.declared.place.Place.{Place}
use Rattle.reading_trees.specs.declared.form.DefinitionForm.{DefinitionForm}
use Rattle.reading_trees.specs.declared.laid.Laid.{Laid}
use Rattle.reading_trees.specs.declared.laid.Laid.TheVariants.{Plain}
use Rattle.reading_tokens.specs.declared.token.Kind.TheVariants as kinds
use Rattle.reading_tokens.specs.declared.token.Symbol.{Symbol}
use Rattle.reading_trees.specs.Grammar.{◌⨟◌, token, DefinitionRest}
use Rattle.reading_trees.specs.Fits.{Fits, Spells}
use Rattle.reading_trees.specs.Trees.{Tree}
use Rattle.reading_machine.specs.declared.frame.Frame.{Frame}
use Rattle.reading_machine.specs.declared.frame.Mode.{Mode}
use Rattle.reading_machine.specs.Machine.{Stepped, Reads, Stops, Clashes, Ends, EndsDefinition}
use Rattle.reading_machine.specs.OpenRows.{FramesText, ModeText}
use Rattle.reading_machine.specs.OpenFits.{FramesFit, ModeFits}

-- the laid tokens up to r are what the frames and the mode say
abbrev pub Opened : List Laid → List Frame → Mode → List Laid → Type 0
Opened xs fs m r = (FramesText fs ⨟ ModeText m) xs r × FramesFit fs × ModeFits m fs

-- what a unit's definition gives, from its name on
abbrev pub Defines : List ℕ → Place → List (List ℕ) → DefinitionForm → Tree → List Laid → List Laid → Type 0
Defines n p ns form e xs rest = (token p (kinds.Name n) ⨟ DefinitionRest ns form e) xs rest × Fits e

-- what comes of a token is right: `here` begins with the token, r stands behind it
abbrev pub Good : List Laid → List Laid → List Laid → Stepped → Type 0
Good xs here r (Reads fs m) = Opened xs fs m r
Good xs here r Stops = Unit {0}
Good xs here r (Clashes p q) = Unit {0}
Good xs here r (Ends e) = Spells e xs here
Good xs here r (EndsDefinition n p ns form e) = Defines n p ns form e xs here

abbrev pub laid_symbol : Symbol → Place → Laid
laid_symbol s q = Plain (record { kind = kinds.Symbol s; place = q })
