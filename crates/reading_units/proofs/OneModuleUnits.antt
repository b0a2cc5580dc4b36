-- One unit and then the next: the form of a unit is told by its first token, and where it ends by its parts.
use Rattle.std.proofs.Common.{◌≡◌, List, [], ◌∷◌, inl, inr, refl, sym, ap, subst, ◌∙◌}
use Rattle.reading_trees.specs.declared.laid.Laid.{Laid}
use Rattle.reading_tokens.specs.declared.token.Kind.TheVariants as kinds
use Rattle.reading_tokens.specs.declared.token.Foreign.TheVariants as foreign
use Rattle.reading_trees.specs.declared.module.Declared.{Declared}
use Rattle.reading_trees.specs.declared.module.DeclaredOperator.{DeclaredOperator}
use Rattle.reading_trees.specs.declared.module.Unit.{Unit as ModuleUnit}
use Rattle.reading_trees.specs.declared.module.Unit.TheVariants as units
use Rattle.reading_trees.specs.Trees.{Tree}
use Rattle.reading_trees.specs.Fits.{Fits}
use Rattle.reading_trees.specs.Modules.{DeclaredNamesText, DeclaredOperatorsText, MaybeTitle, UnitText, UnitsText, UnitFits, UnitsFit}
use Rattle.reading_machine.specs.LawsOfTrees.{SpelledRead, DefinitionRead}
use Rattle.reading_units.proofs.OneModuleTokens.{OfEquals, form_of, TextEnds, UnitEnds, form_ends, unit_form, unit_begins, units_are, some_behind, variable_behind, constant_behind, assume_behind, theorem_behind, dashes_no_theorem}
use Rattle.reading_units.proofs.InstanceBegins.{no_both_text}
use Rattle.reading_units.proofs.InstanceTokens.{NoBoth}
use Rattle.reading_units.proofs.OneModuleInstances.{instance_same}
use Rattle.reading_units.proofs.OneModuleParts.{declared_names_same, operators_same, titled_same, definition_same}

pub variables_same : (ds es : List Declared) (xs ys zs : List Laid) → UnitText (units.Variables ds) xs ys → UnitText (units.Variables es) xs zs → UnitEnds ys → UnitEnds zs → (units.Variables ds ≡ units.Variables es) × (ys ≡ zs)
variables_same ds es xs ys zs h g a b =
    let q : h.0 ≡ g.0 = variable_behind xs h.0 g.0 h.1 g.1 in
    let r = declared_names_same ds es h.0 ys zs h.2 (subst (λ v. DeclaredNamesText es v zs) (sym q) g.2) a b in
    (ap units.Variables r.0, r.1)

pub constants_same : (ds es : List Declared) (xs ys zs : List Laid) → UnitText (units.Constants ds) xs ys → UnitText (units.Constants es) xs zs → UnitEnds ys → UnitEnds zs → (units.Constants ds ≡ units.Constants es) × (ys ≡ zs)
constants_same ds es xs ys zs h g a b =
    let q : h.0 ≡ g.0 = constant_behind xs h.0 g.0 h.1 g.1 in
    let r = declared_names_same ds es h.0 ys zs h.2 (subst (λ v. DeclaredNamesText es v zs) (sym q) g.2) a b in
    (ap units.Constants r.0, r.1)

pub recursive_same : (ds es : List DeclaredOperator) (xs ys zs : List Laid) → UnitText (units.Recursive ds) xs ys → UnitText (units.Recursive es) xs zs → UnitEnds ys → UnitEnds zs → (units.Recursive ds ≡ units.Recursive es) × (ys ≡ zs)
recursive_same ds es xs ys zs h g a b =
    let q : h.0 ≡ g.0 = some_behind (kinds.Foreign foreign.Recursive) xs xs h.0 g.0 refl h.1 g.1 in
    let r = operators_same ds es h.0 ys zs h.2 (subst (λ v. DeclaredOperatorsText es v zs) (sym q) g.2) a b in
    (ap units.Recursive r.0, r.1)

assume_same : SpelledRead → (e f : Tree) (xs ys zs : List Laid) → UnitText (units.Assume e) xs ys → UnitText (units.Assume f) xs zs → Fits e → Fits f → TextEnds ys → TextEnds zs → (units.Assume e ≡ units.Assume f) × (ys ≡ zs)
assume_same read e f xs ys zs h g k l a b =
    let q : h.0 ≡ g.0 = assume_behind xs h.0 g.0 h.1 g.1 in
    let title : MaybeTitle h.0 g.2.0 = subst (λ v. MaybeTitle v g.2.0) (sym q) g.2.1 in
    let r = titled_same read e f h.0 h.2.0 g.2.0 ys zs h.2.1 title (record { text = h.2.2; fits = k }) (record { text = g.2.2; fits = l }) a b in
    (ap units.Assume r.0, r.1)

passed_same : SpelledRead → (xs ys zs : List Laid) → UnitText units.Passed xs ys → UnitText units.Passed xs zs → TextEnds ys → TextEnds zs → ys ≡ zs
passed_same read xs ys zs (inl h) (inl g) a b = some_behind kinds.Dashes xs xs ys zs refl h g
passed_same read xs ys zs (inl h) (inr g) a b = absurd (dashes_no_theorem xs ys g.0 h g.1)
passed_same read xs ys zs (inr h) (inl g) a b = absurd (dashes_no_theorem xs zs h.0 g h.1)
passed_same read xs ys zs (inr h) (inr g) a b =
    let q : h.0 ≡ g.0 = theorem_behind xs h.0 g.0 h.1 g.1 in
    let title : MaybeTitle h.0 g.2.0 = subst (λ v. MaybeTitle v g.2.0) (sym q) g.2.1 in
    (titled_same read h.2.2.0 g.2.2.0 h.0 h.2.0 g.2.0 ys zs h.2.1 title h.2.2.1 g.2.2.1 a b).1

unit_same : NoBoth → SpelledRead → DefinitionRead → (u v : ModuleUnit) (xs ys zs : List Laid) → UnitText u xs ys → UnitText v xs zs → UnitFits u → UnitFits v → UnitEnds ys → UnitEnds zs → (u ≡ v) × (ys ≡ zs)
unit_same both read defined (units.Variables ds) (units.Variables es) xs ys zs h g k l a b = variables_same ds es xs ys zs h g a b
unit_same both read defined (units.Constants ds) (units.Constants es) xs ys zs h g k l a b = constants_same ds es xs ys zs h g a b
unit_same both read defined (units.Recursive ds) (units.Recursive es) xs ys zs h g k l a b = recursive_same ds es xs ys zs h g a b
unit_same both read defined (units.Define d) (units.Define e) xs ys zs h g k l a b =
    let r = definition_same defined d e xs ys zs h g k l (form_ends ys a) (form_ends zs b) in
    (ap units.Define r.0, r.1)
unit_same both read defined (units.Assume e) (units.Assume f) xs ys zs h g k l a b = assume_same read e f xs ys zs h g k l (form_ends ys a) (form_ends zs b)
unit_same both read defined units.Passed units.Passed xs ys zs h g k l a b = (refl, passed_same read xs ys zs h g (form_ends ys a) (form_ends zs b))
unit_same both read defined (units.Instance m) (units.Instance o) xs ys zs h g k l a b =
    let r = instance_same read m o xs ys zs h g k l a b in
    (ap units.Instance r.0, r.1)
unit_same both read defined (units.Instance m) (units.Define e) xs ys zs h g k l a b = absurd (no_both_text both e m xs zs ys g h)
unit_same both read defined (units.Define e) (units.Instance m) xs ys zs h g k l a b = absurd (no_both_text both e m xs ys zs h g)
unit_same both read defined u v xs ys zs h g k l a b = absurd (let q : unit_form u ≡ unit_form v = sym (unit_begins u xs ys h) ∙ unit_begins v xs zs g in cc)

unit_no_equals : (u : ModuleUnit) → unit_form u ≡ OfEquals → ⊥
unit_no_equals (units.Variables ds) q = cc
unit_no_equals (units.Constants ds) q = cc
unit_no_equals (units.Recursive ds) q = cc
unit_no_equals (units.Define d) q = cc
unit_no_equals (units.Instance m) q = cc
unit_no_equals (units.Assume e) q = cc
unit_no_equals units.Passed q = cc

pub equals_no_unit : (u : ModuleUnit) (xs ys : List Laid) → UnitText u xs ys → form_of xs ≡ OfEquals → ⊥
equals_no_unit u xs ys h q = unit_no_equals u (sym (unit_begins u xs ys h) ∙ q)

-- units with equals signs behind them
pub units_same : NoBoth → SpelledRead → DefinitionRead → (us vs : List ModuleUnit) (xs ys zs : List Laid) → UnitsText us xs ys → UnitsText vs xs zs → form_of ys ≡ OfEquals → form_of zs ≡ OfEquals → UnitsFit us → UnitsFit vs → us ≡ vs
units_same both read defined [] [] xs ys zs h g a b k l = refl
units_same both read defined [] (v ∷ vs) xs ys zs h g a b k l = absurd (equals_no_unit v xs g.0 g.1 (ap form_of h ∙ a))
units_same both read defined (u ∷ us) [] xs ys zs h g a b k l = absurd (equals_no_unit u xs h.0 h.1 (ap form_of g ∙ b))
units_same both read defined (u ∷ us) (v ∷ vs) xs ys zs h g a b k l =
    let p = unit_same both read defined u v xs h.0 g.0 h.1 g.1 k.0 l.0 (units_are us h.0 ys h.2 a) (units_are vs g.0 zs g.2 b) in
    let r : us ≡ vs = units_same both read defined us vs h.0 ys zs h.2 (subst (λ w. UnitsText vs w zs) (sym p.1) g.2) a b k.1 l.1 in
    ap (λ w. w ∷ us) p.0 ∙ ap (λ w. v ∷ w) r
