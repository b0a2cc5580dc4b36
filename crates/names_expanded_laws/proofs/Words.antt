-- Each definition and each instance of a module that is read has a name of a text.
use Rattle.std.proofs.Common.{ℕ, List, [], ◌∷◌, ◌++◌, subst}
use Rattle.base_core.specs.declared.place.Place.{Place}
use Rattle.reading_trees.specs.declared.laid.Laid.{Laid}
use Rattle.reading_trees.specs.declared.laid.Laid.TheVariants.{Plain}
use Rattle.reading_trees.specs.declared.module.Module.{Module}
use Rattle.reading_trees.specs.declared.module.Unit.{Unit as ModuleUnit}
use Rattle.reading_trees.specs.declared.module.Unit.TheVariants.{Variables, Constants, Recursive, Define, Instance, Assume, Passed}
use Rattle.reading_trees.specs.Grammar.{token}
use Rattle.reading_trees.specs.Laid.{tokens_of}
use Rattle.reading_trees.specs.Modules.{UnitText, UnitsText, SpellsModule}
use Rattle.reading_tokens.specs.declared.token.Kind.TheVariants as kinds
use Rattle.reading_tokens.specs.declared.token.Word.TheVariants as words
use Rattle.reading_machine.specs.LawsOfExtents.{LocalText, LocalDefinition}
use Rattle.reading_configuration.proofs.TokensHeld.{AllHold}
use Rattle.names_load_laws.proofs.Named.{LaidHold, laid_hold, keeps_extends, keeps_some, keeps_token, keeps_unit}
use Rattle.names_expanded_laws.proofs.Differing.{IsName}
use Rattle.names_expanded_laws.proofs.Expanding.{UnitIsNamed, UnitsAreNamed}

token_named : (at : Place) (n : List ℕ) (xs ys : List Laid) → token at (kinds.Name n) xs ys → LaidHold xs → IsName n
token_named at n xs ys h k =
    let t : LaidHold (Plain (record { kind = kinds.Name n; place = at }) ∷ ys) = subst LaidHold h k in
    (t.0.0, t.0.2)

unit_named : (u : ModuleUnit) (xs ys : List Laid) → UnitText u xs ys → LaidHold xs → UnitIsNamed u
unit_named (Variables ds) xs ys h k = tt
unit_named (Constants ds) xs ys h k = tt
unit_named (Recursive ds) xs ys h k = tt
unit_named (Define d) xs ys h k = token_named d.at d.name xs h.0 h.1 k
unit_named (Instance m) xs ys h k = token_named m.at m.name xs h.0 h.1 k
unit_named (Assume e) xs ys h k = tt
unit_named Passed xs ys h k = tt

units_named : LocalText → LocalDefinition → (us : List ModuleUnit) (xs ys : List Laid) → UnitsText us xs ys → LaidHold xs → UnitsAreNamed us
units_named local definition [] xs ys h k = tt
units_named local definition (u ∷ us) xs ys h k = (unit_named u xs h.0 h.1 k, units_named local definition us h.0 ys h.2 (keeps_unit local definition u xs h.0 h.1 k))

pub module_units_named : LocalText → LocalDefinition → (m : Module) (laid : List Laid) → SpellsModule m laid → AllHold (tokens_of laid) → UnitsAreNamed m.units
module_units_named local definition m laid s h =
    let t = s.text in
    units_named local definition m.units _ _ t.2.2.2.2.2.1
    (keeps_extends m.extends _ _ t.2.2.2.2.1 (keeps_some kinds.Dashes _ _ t.2.2.2.1 (keeps_token m.at (kinds.Name m.name) _ _ t.2.2.1 (keeps_some (kinds.Word words.Module) _ _ t.2.1 (keeps_some kinds.Dashes _ _ t.1 (laid_hold laid h))))))

pub named_join : (us vs : List ModuleUnit) → UnitsAreNamed us → UnitsAreNamed vs → UnitsAreNamed (us ++ vs)
named_join [] vs h k = k
named_join (u ∷ us) vs h k = (h.0, named_join us vs h.1 k)
