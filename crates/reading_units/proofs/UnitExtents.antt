-- Two units from one point on end at one point.
use Rattle.std.proofs.Common.{◌≡◌, ℕ, List, [], ◌∷◌, ◌++◌, refl, sym, subst, ◌∙◌}
use Rattle.reading_trees.specs.declared.laid.Laid.{Laid}
use Rattle.reading_tokens.specs.declared.token.Kind.TheVariants as kinds
use Rattle.reading_tokens.specs.declared.token.Symbol.TheVariants as symbols
use Rattle.reading_tokens.specs.declared.token.Foreign.TheVariants as foreign
use Rattle.reading_trees.specs.declared.module.With.{With}
use Rattle.reading_trees.specs.declared.module.Made.{Made}
use Rattle.reading_trees.specs.declared.module.Unit.{Unit as ModuleUnit}
use Rattle.reading_trees.specs.declared.module.Unit.TheVariants as units
use Rattle.reading_trees.specs.Grammar.{some_token, sign}
use Rattle.reading_trees.specs.Modules.{UnitText, WithText, MoreWithsText, WithsText, InstanceText}
use Rattle.reading_units.proofs.InstanceBegins.{no_both_text}
use Rattle.reading_units.proofs.InstanceTokens.{NoBoth}
use Rattle.reading_units.proofs.OneModuleInstances.{more_ends, no_with_word}
use Rattle.reading_units.proofs.OneModuleParts.{token_same, no_comma}
use Rattle.reading_units.proofs.OneModuleTokens.{TextEnds, UnitEnds, form_ends, some_behind, unit_begins, unit_form}
use Rattle.reading_units.proofs.OneModuleUnits.{variables_same, constants_same, recursive_same}
use Rattle.reading_units.proofs.SameExtents.{Expressions, Defined, text_extent, assume_extent, passed_extent, definition_extent}
use Rattle.reading_units.proofs.Titles.{NoTitle}

-- ---- what WITH gives

with_extent : Expressions → (before others : List (List ℕ)) (w v : With) (xs us ys zs : List Laid) → xs ≡ us → WithText before w xs ys → WithText others v us zs → TextEnds ys → TextEnds zs → ys ≡ zs
with_extent k before others w v xs us ys zs q h g a b =
    let s = h.1 in
    let t = g.1 in
    let p = token_same w.name v.name w.at v.at xs us s.0 t.0 q s.1 t.1 in
    let r : s.2.0 ≡ t.2.0 = some_behind (kinds.Symbol symbols.LeftArrow) s.0 t.0 s.2.0 t.2.0 p.2 s.2.1 t.2.1 in
    text_extent k w.by v.by s.2.0 t.2.0 ys zs r s.2.2 t.2.2 a b

more_extent : Expressions → (before others : List (List ℕ)) (ws vs : List With) (xs us ys zs : List Laid) → xs ≡ us → MoreWithsText before ws xs ys → MoreWithsText others vs us zs → UnitEnds ys → UnitEnds zs → ys ≡ zs
more_extent k before others [] [] xs us ys zs q h g a b = sym h ∙ q ∙ g
more_extent k before others [] (v ∷ vs) xs us ys zs q h g a b = absurd (no_comma ys g.0 a (subst (λ x. sign symbols.Comma x g.0) (sym q ∙ h) g.1))
more_extent k before others (w ∷ ws) [] xs us ys zs q h g a b = absurd (no_comma zs h.0 b (subst (λ x. sign symbols.Comma x h.0) (q ∙ g) h.1))
more_extent k before others (w ∷ ws) (v ∷ vs) xs us ys zs q h g a b =
    let s = h.2 in
    let t = g.2 in
    let c : h.0 ≡ g.0 = some_behind (kinds.Symbol symbols.Comma) xs us h.0 g.0 q h.1 g.1 in
    let here = more_ends (before ++ w.name ∷ []) ws s.0 ys s.2 a in
    let there = more_ends (others ++ v.name ∷ []) vs t.0 zs t.2 b in
    let r : s.0 ≡ t.0 = with_extent k before others w v h.0 g.0 s.0 t.0 c s.1 t.1 here there in
    more_extent k (before ++ w.name ∷ []) (others ++ v.name ∷ []) ws vs s.0 t.0 ys zs r s.2 t.2 a b

withs_extent : Expressions → (ws vs : List With) (xs us ys zs : List Laid) → xs ≡ us → WithsText ws xs ys → WithsText vs us zs → UnitEnds ys → UnitEnds zs → ys ≡ zs
withs_extent k [] [] xs us ys zs q h g a b = sym h ∙ q ∙ g
withs_extent k [] (v ∷ vs) xs us ys zs q h g a b = absurd (no_with_word ys g.0 a (subst (λ x. some_token (kinds.Foreign foreign.With) x g.0) (sym q ∙ h) g.1))
withs_extent k (w ∷ ws) [] xs us ys zs q h g a b = absurd (no_with_word zs h.0 b (subst (λ x. some_token (kinds.Foreign foreign.With) x h.0) (q ∙ g) h.1))
withs_extent k (w ∷ ws) (v ∷ vs) xs us ys zs q h g a b =
    let s = h.2 in
    let t = g.2 in
    let c : h.0 ≡ g.0 = some_behind (kinds.Foreign foreign.With) xs us h.0 g.0 q h.1 g.1 in
    let here = more_ends (w.name ∷ []) ws s.0 ys s.2 a in
    let there = more_ends (v.name ∷ []) vs t.0 zs t.2 b in
    let r : s.0 ≡ t.0 = with_extent k [] [] w v h.0 g.0 s.0 t.0 c s.1 t.1 here there in
    more_extent k (w.name ∷ []) (v.name ∷ []) ws vs s.0 t.0 ys zs r s.2 t.2 a b

-- ---- instances

instance_extent : Expressions → (m o : Made) (xs ys zs : List Laid) → InstanceText m xs ys → InstanceText o xs zs → UnitEnds ys → UnitEnds zs → ys ≡ zs
instance_extent k m o xs ys zs h g a b =
    let s = h.2 in
    let t = g.2 in
    let s2 = s.2 in
    let t2 = t.2 in
    let s3 = s2.2 in
    let t3 = t2.2 in
    let own = token_same m.name o.name m.at o.at xs xs h.0 g.0 refl h.1 g.1 in
    let defined : s.0 ≡ t.0 = some_behind (kinds.Symbol symbols.Defined) h.0 g.0 s.0 t.0 own.2 s.1 t.1 in
    let word : s2.0 ≡ t2.0 = some_behind (kinds.Foreign foreign.Instance) s.0 t.0 s2.0 t2.0 defined s2.1 t2.1 in
    let of_module = token_same m.module_name o.module_name s3.1.0 t3.1.0 s2.0 t2.0 s3.0 t3.0 word s3.1.1 t3.1.1 in
    withs_extent k m.withs o.withs s3.0 t3.0 ys zs of_module.2 s3.2 t3.2 a b

-- ---- units

-- two units from one point on end at one point
pub unit_extent : NoBoth → NoTitle → Expressions → Defined → (u v : ModuleUnit) (xs ys zs : List Laid) → UnitText u xs ys → UnitText v xs zs → UnitEnds ys → UnitEnds zs → ys ≡ zs
unit_extent both none k l (units.Variables ds) (units.Variables es) xs ys zs h g a b = (variables_same ds es xs ys zs h g a b).1
unit_extent both none k l (units.Constants ds) (units.Constants es) xs ys zs h g a b = (constants_same ds es xs ys zs h g a b).1
unit_extent both none k l (units.Recursive ds) (units.Recursive es) xs ys zs h g a b = (recursive_same ds es xs ys zs h g a b).1
unit_extent both none k l (units.Define d) (units.Define e) xs ys zs h g a b = definition_extent l d e xs ys zs h g (form_ends ys a) (form_ends zs b)
unit_extent both none k l (units.Assume e) (units.Assume f) xs ys zs h g a b = assume_extent none k e f xs ys zs h g (form_ends ys a) (form_ends zs b)
unit_extent both none k l units.Passed units.Passed xs ys zs h g a b = passed_extent none k xs ys zs h g (form_ends ys a) (form_ends zs b)
unit_extent both none k l (units.Instance m) (units.Instance o) xs ys zs h g a b = instance_extent k m o xs ys zs h g a b
unit_extent both none k l (units.Instance m) (units.Define e) xs ys zs h g a b = absurd (no_both_text both e m xs zs ys g h)
unit_extent both none k l (units.Define e) (units.Instance m) xs ys zs h g a b = absurd (no_both_text both e m xs ys zs h g)
unit_extent both none k l u v xs ys zs h g a b = absurd (let q : unit_form u ≡ unit_form v = sym (unit_begins u xs ys h) ∙ unit_begins v xs zs g in cc)
