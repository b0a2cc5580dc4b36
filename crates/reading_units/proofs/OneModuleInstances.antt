-- Instances are told by their tokens, and so is where each ends.
use Rattle.std.proofs.Common.{◌≡◌, ℕ, List, [], ◌∷◌, ◌++◌, refl, sym, ap, subst, ◌∙◌}
use Rattle.base_core.specs.declared.place.Place.{Place}
use Rattle.reading_trees.specs.declared.laid.Laid.{Laid}
use Rattle.reading_tokens.specs.declared.token.Kind.TheVariants as kinds
use Rattle.reading_tokens.specs.declared.token.Symbol.TheVariants as symbols
use Rattle.reading_tokens.specs.declared.token.Foreign.TheVariants as foreign
use Rattle.reading_trees.specs.declared.module.With.{With}
use Rattle.reading_trees.specs.declared.module.Made.{Made}
use Rattle.reading_trees.specs.Trees.{Tree}
use Rattle.reading_trees.specs.Fits.{Spells, Fits}
use Rattle.reading_trees.specs.Grammar.{some_token, sign}
use Rattle.reading_trees.specs.Modules.{WithText, MoreWithsText, WithsText, InstanceText, WithsFit}
use Rattle.reading_machine.specs.LawsOfTrees.{SpelledRead}
use Rattle.reading_units.proofs.OneModuleParts.{token_same, no_comma, expression_same}
use Rattle.reading_units.proofs.OneModuleTokens.{TextEnds, UnitEnds, form_ends, some_behind}

-- ---- what WITH gives

same_with : (w v : With) → w.name ≡ v.name → w.at ≡ v.at → w.by ≡ v.by → w ≡ v
same_with w v n p e =
    let named : List ℕ → With = λ x. record { name = x; at = w.at; by = w.by } in
    let placed : Place → With = λ x. record { name = v.name; at = x; by = w.by } in
    let given : Tree → With = λ x. record { name = v.name; at = v.at; by = x } in
    ap named n ∙ ap placed p ∙ ap given e

with_same : SpelledRead → (before : List (List ℕ)) (w v : With) (xs ys zs : List Laid) → WithText before w xs ys → WithText before v xs zs → Fits w.by → Fits v.by → TextEnds ys → TextEnds zs → (w ≡ v) × (ys ≡ zs)
with_same read before w v xs ys zs h g f k a b =
    let s = h.1 in
    let t = g.1 in
    let p = token_same w.name v.name w.at v.at xs xs s.0 t.0 refl s.1 t.1 in
    let q : s.2.0 ≡ t.2.0 = some_behind (kinds.Symbol symbols.LeftArrow) s.0 t.0 s.2.0 t.2.0 p.2 s.2.1 t.2.1 in
    let own : Spells w.by s.2.0 ys = record { text = s.2.2; fits = f } in
    let other : Spells v.by t.2.0 zs = record { text = t.2.2; fits = k } in
    let r = expression_same read w.by v.by s.2.0 ys zs own (subst (λ x. Spells v.by x zs) (sym q) other) a b in
    (same_with w v p.0 p.1 r.0, r.1)

-- a comma, or what stands behind all of it
pub more_ends : (before : List (List ℕ)) (ws : List With) (xs ys : List Laid) → MoreWithsText before ws xs ys → UnitEnds ys → TextEnds xs
more_ends before [] xs ys h a = subst TextEnds (sym h) (form_ends ys a)
more_ends before (w ∷ ws) xs ys h a = subst TextEnds (sym h.1.1) tt

more_same : SpelledRead → (before : List (List ℕ)) (ws vs : List With) (xs ys zs : List Laid) → MoreWithsText before ws xs ys → MoreWithsText before vs xs zs → WithsFit ws → WithsFit vs → UnitEnds ys → UnitEnds zs → (ws ≡ vs) × (ys ≡ zs)
more_same read before [] [] xs ys zs h g f k a b = (refl, sym h ∙ g)
more_same read before [] (v ∷ vs) xs ys zs h g f k a b = absurd (no_comma ys g.0 a (subst (λ x. sign symbols.Comma x g.0) h g.1))
more_same read before (w ∷ ws) [] xs ys zs h g f k a b = absurd (no_comma zs h.0 b (subst (λ x. sign symbols.Comma x h.0) g h.1))
more_same read before (w ∷ ws) (v ∷ vs) xs ys zs h g f k a b =
    let s = h.2 in
    let t = g.2 in
    let q : h.0 ≡ g.0 = some_behind (kinds.Symbol symbols.Comma) xs xs h.0 g.0 refl h.1 g.1 in
    let here = more_ends (before ++ w.name ∷ []) ws s.0 ys s.2 a in
    let there = more_ends (before ++ v.name ∷ []) vs t.0 zs t.2 b in
    let p = with_same read before w v h.0 s.0 t.0 s.1 (subst (λ x. WithText before v x t.0) (sym q) t.1) f.0 k.0 here there in
    let rest : MoreWithsText (before ++ v.name ∷ []) vs s.0 zs = subst (λ x. MoreWithsText (before ++ v.name ∷ []) vs x zs) (sym p.1) t.2 in
    let same : MoreWithsText (before ++ w.name ∷ []) vs s.0 zs = subst (λ (x : With). MoreWithsText (before ++ x.name ∷ []) vs s.0 zs) (sym p.0) rest in
    let r = more_same read (before ++ w.name ∷ []) ws vs s.0 ys zs s.2 same f.1 k.1 a b in
    (ap (λ x. x ∷ ws) p.0 ∙ ap (λ x. v ∷ x) r.0, r.1)

pub no_with_word : (xs ys : List Laid) → UnitEnds xs → some_token (kinds.Foreign foreign.With) xs ys → ⊥
no_with_word xs ys a h = subst UnitEnds h.1 a

withs_same : SpelledRead → (ws vs : List With) (xs ys zs : List Laid) → WithsText ws xs ys → WithsText vs xs zs → WithsFit ws → WithsFit vs → UnitEnds ys → UnitEnds zs → (ws ≡ vs) × (ys ≡ zs)
withs_same read [] [] xs ys zs h g f k a b = (refl, sym h ∙ g)
withs_same read [] (v ∷ vs) xs ys zs h g f k a b = absurd (no_with_word ys g.0 a (subst (λ x. some_token (kinds.Foreign foreign.With) x g.0) h g.1))
withs_same read (w ∷ ws) [] xs ys zs h g f k a b = absurd (no_with_word zs h.0 b (subst (λ x. some_token (kinds.Foreign foreign.With) x h.0) g h.1))
withs_same read (w ∷ ws) (v ∷ vs) xs ys zs h g f k a b =
    let s = h.2 in
    let t = g.2 in
    let q : h.0 ≡ g.0 = some_behind (kinds.Foreign foreign.With) xs xs h.0 g.0 refl h.1 g.1 in
    let here = more_ends (w.name ∷ []) ws s.0 ys s.2 a in
    let there = more_ends (v.name ∷ []) vs t.0 zs t.2 b in
    let p = with_same read [] w v h.0 s.0 t.0 s.1 (subst (λ x. WithText [] v x t.0) (sym q) t.1) f.0 k.0 here there in
    let rest : MoreWithsText (v.name ∷ []) vs s.0 zs = subst (λ x. MoreWithsText (v.name ∷ []) vs x zs) (sym p.1) t.2 in
    let same : MoreWithsText (w.name ∷ []) vs s.0 zs = subst (λ (x : With). MoreWithsText (x.name ∷ []) vs s.0 zs) (sym p.0) rest in
    let r = more_same read (w.name ∷ []) ws vs s.0 ys zs s.2 same f.1 k.1 a b in
    (ap (λ x. x ∷ ws) p.0 ∙ ap (λ x. v ∷ x) r.0, r.1)

-- ---- instances

same_made : (m k : Made) → m.name ≡ k.name → m.at ≡ k.at → m.module_name ≡ k.module_name → m.withs ≡ k.withs → m ≡ k
same_made m k n p o w =
    let named : List ℕ → Made = λ x. record { name = x; at = m.at; module_name = m.module_name; withs = m.withs } in
    let placed : Place → Made = λ x. record { name = k.name; at = x; module_name = m.module_name; withs = m.withs } in
    let from : List ℕ → Made = λ x. record { name = k.name; at = k.at; module_name = x; withs = m.withs } in
    let given : List With → Made = λ x. record { name = k.name; at = k.at; module_name = k.module_name; withs = x } in
    ap named n ∙ ap placed p ∙ ap from o ∙ ap given w

pub instance_same : SpelledRead → (m k : Made) (xs ys zs : List Laid) → InstanceText m xs ys → InstanceText k xs zs → WithsFit m.withs → WithsFit k.withs → UnitEnds ys → UnitEnds zs → (m ≡ k) × (ys ≡ zs)
instance_same read m k xs ys zs h g f e a b =
    let s = h.2 in
    let t = g.2 in
    let s2 = s.2 in
    let t2 = t.2 in
    let s3 = s2.2 in
    let t3 = t2.2 in
    let own = token_same m.name k.name m.at k.at xs xs h.0 g.0 refl h.1 g.1 in
    let defined : s.0 ≡ t.0 = some_behind (kinds.Symbol symbols.Defined) h.0 g.0 s.0 t.0 own.2 s.1 t.1 in
    let word : s2.0 ≡ t2.0 = some_behind (kinds.Foreign foreign.Instance) s.0 t.0 s2.0 t2.0 defined s2.1 t2.1 in
    let of_module = token_same m.module_name k.module_name s3.1.0 t3.1.0 s2.0 t2.0 s3.0 t3.0 word s3.1.1 t3.1.1 in
    let r = withs_same read m.withs k.withs s3.0 ys zs s3.2 (subst (λ x. WithsText k.withs x zs) (sym of_module.2) t3.2) f e a b in
    (same_made m k own.0 own.1 of_module.0 r.0, r.1)
