-- Laid tokens spell one module.
use Rattle.std.proofs.Common.{◌≡◌, ℕ, List, [], refl, sym, ap, subst, ◌∙◌}
use Rattle.base_core.specs.declared.place.Place.{Place}
use Rattle.reading_trees.specs.declared.laid.Laid.{Laid}
use Rattle.reading_tokens.specs.declared.token.Kind.TheVariants as kinds
use Rattle.reading_tokens.specs.declared.token.Word.TheVariants as words
use Rattle.reading_trees.specs.declared.module.Unit.{Unit as ModuleUnit}
use Rattle.reading_trees.specs.declared.module.Module.{Module}
use Rattle.reading_trees.specs.Grammar.{Span, ◌⨟◌, some_token}
use Rattle.reading_trees.specs.Modules.{ExtendsText, UnitsText, UnitsFit, ModuleText}
use Rattle.reading_machine.specs.LawsOfTrees.{SpelledRead, DefinitionRead}
use Rattle.reading_units.specs.LawsOfModules.{OneModule}
use Rattle.reading_units.proofs.InstanceTokens.{NoBoth}
use Rattle.reading_units.proofs.OneModuleTokens.{OfEquals, form_of, units_are, some_behind}
use Rattle.reading_units.proofs.OneModuleParts.{token_same, extends_same}
use Rattle.reading_units.proofs.OneModuleUnits.{units_same}

same_module : (m n : Module) → m.name ≡ n.name → m.at ≡ n.at → m.extends ≡ n.extends → m.units ≡ n.units → m ≡ n
same_module m n name at extends units =
    let named : List ℕ → Module = λ v. record { name = v; at = m.at; extends = m.extends; units = m.units } in
    let placed : Place → Module = λ v. record { name = n.name; at = v; extends = m.extends; units = m.units } in
    let extending : List (List ℕ) → Module = λ v. record { name = n.name; at = n.at; extends = v; units = m.units } in
    let whole : List ModuleUnit → Module = λ v. record { name = n.name; at = n.at; extends = n.extends; units = v } in
    ap named name ∙ ap placed at ∙ ap extending extends ∙ ap whole units

-- what stands behind the heading of a module
abbrev BodyText : List (List ℕ) → List ModuleUnit → Span
BodyText ns us = ExtendsText ns ⨟ UnitsText us ⨟ some_token kinds.Equals ⨟ some_token kinds.End

body_same : NoBoth → SpelledRead → DefinitionRead → (ns ms : List (List ℕ)) (us vs : List ModuleUnit) (xs : List Laid) → BodyText ns us xs [] → BodyText ms vs xs [] → UnitsFit us → UnitsFit vs → (ns ≡ ms) × (us ≡ vs)
body_same both read defined ns ms us vs xs h g k l =
    let a : form_of h.2.0 ≡ OfEquals = ap form_of h.2.2.1.1 in
    let b : form_of g.2.0 ≡ OfEquals = ap form_of g.2.2.1.1 in
    let p = extends_same ns ms xs h.0 g.0 h.1 g.1 (units_are us h.0 h.2.0 h.2.1 a) (units_are vs g.0 g.2.0 g.2.1 b) in
    (p.0, units_same both read defined us vs h.0 h.2.0 g.2.0 h.2.1 (subst (λ v. UnitsText vs v g.2.0) (sym p.1) g.2.1) a b k l)

pub module_same : NoBoth → SpelledRead → DefinitionRead → OneModule
module_same both read defined laid m n s t =
    let h : ModuleText m laid [] = s.text in
    let g : ModuleText n laid [] = t.text in
    let dashes : h.0 ≡ g.0 = some_behind kinds.Dashes laid laid h.0 g.0 refl h.1 g.1 in
    let heading : h.2.0 ≡ g.2.0 = some_behind (kinds.Word words.Module) h.0 g.0 h.2.0 g.2.0 dashes h.2.1 g.2.1 in
    let p = token_same m.name n.name m.at n.at h.2.0 g.2.0 h.2.2.0 g.2.2.0 heading h.2.2.1 g.2.2.1 in
    let q : h.2.2.2.0 ≡ g.2.2.2.0 = some_behind kinds.Dashes h.2.2.0 g.2.2.0 h.2.2.2.0 g.2.2.2.0 p.2 h.2.2.2.1 g.2.2.2.1 in
    let body : BodyText n.extends n.units h.2.2.2.0 [] = subst (λ v. BodyText n.extends n.units v []) (sym q) g.2.2.2.2 in
    let r = body_same both read defined m.extends n.extends m.units n.units h.2.2.2.0 h.2.2.2.2 body s.fits t.fits in
    same_module m n p.0 p.1 r.0 r.1
