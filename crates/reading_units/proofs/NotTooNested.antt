-- A module whose tokens are shallow is not refused because one stands too deep: its heading and its units are told by their tokens, and so the
-- unit that would be refused is one of those.
use Rattle.std.proofs.Common.{◌≡◌, ◌⊎◌, ℕ, zero, suc, List, [], ◌∷◌, ◌++◌, append_assoc, inl, inr, refl, sym, ap, subst, ◌∙◌}
use Rattle.std.proofs.lemmas.List.{append-nil}
use Rattle.base_core.specs.declared.place.Place.{Place}
use Rattle.reading_trees.specs.declared.laid.Laid.{Laid}
use Rattle.reading_trees.specs.declared.laid.Laid.TheVariants.{Plain}
use Rattle.reading_trees.specs.declared.module.Module.{Module}
use Rattle.reading_trees.specs.declared.module.Unit.{Unit as ModuleUnit}
use Rattle.reading_trees.specs.declared.module.Unit.TheVariants as units
use Rattle.reading_tokens.specs.declared.token.Kind.TheVariants as kinds
use Rattle.reading_tokens.specs.declared.token.Word.TheVariants as words
use Rattle.reading_trees.specs.Grammar.{◌⨟◌, some_token}
use Rattle.reading_trees.specs.Modules.{ExtendsText, ModuleText, UnitText, UnitsText}
use Rattle.reading_machine.specs.Beginnings.{FittingBegunDefinition}
use Rattle.reading_machine.specs.LawsOfExtents.{LocalText, LocalDefinition, NoneFollows, NoneFollowsDefinition, NoMarkInside, NoMarkInsideDefinition}
use Rattle.reading_machine.specs.LawsOfRefusals.{EndsThere, StoppedThere}
use Rattle.reading_machine.specs.Meeting.{at_place}
use Rattle.reading_expressions.specs.Nesting.{ShallowDefinition}
use Rattle.reading_expressions.specs.Refusals.{IsTooNested}
use Rattle.reading_units.specs.LawsOfModules.{ShallowNotRefused}
use Rattle.reading_units.specs.Parts.{MarkText}
use Rattle.reading_units.specs.Refusals.{HeadingText, ShallowWholeModule, ShallowWholeUnit, SoManyUnits, SomeExtends, TooNestedStated, TooNestedGiven, TooNestedUnit}
use Rattle.reading_units.specs.declared.marks.Mark.TheVariants as marks
use Rattle.reading_units.proofs.DeepGivens.{deep_given_form, no_deep_instance}
use Rattle.reading_units.proofs.DeepUnits.{deep_definition_form, deep_stated_form, no_deep_definition, no_deep_stated, stated_no_equals, unit_there}
use Rattle.reading_units.proofs.Extents.{Parted, Same, Before, Behind, parted}
use Rattle.reading_units.proofs.InstanceTokens.{NoBoth, no_both}
use Rattle.reading_units.proofs.Locals.{IsLocal, before_any, joined, local_assumption, local_constants, local_definition, local_instance, local_mark, local_nothing, local_passed, local_recursive, local_some_extends, local_then, local_variables}
use Rattle.reading_units.proofs.OneModuleParts.{extends_same}
use Rattle.reading_units.proofs.OneModuleTokens.{OfDefinition, OfEquals, IsOfUnits, UnitEnds, form_ends, form_of, some_behind, tail_of}
use Rattle.reading_units.proofs.OneModuleUnits.{equals_no_unit}
use Rattle.reading_units.proofs.SameExtents.{Expressions, Defined}
use Rattle.reading_units.proofs.TextKinds.{definition_kind, expression_kind, none_titled}
use Rattle.reading_units.proofs.Titles.{NoTitle}
use Rattle.reading_units.proofs.UnitExtents.{unit_extent}

-- ---- a heading

local_heading : IsLocal HeadingText
local_heading =
    local_then (MarkText marks.Dashes) (MarkText marks.Heading ⨟ MarkText marks.Name ⨟ MarkText marks.Dashes ⨟ SomeExtends) (local_mark marks.Dashes)
    (local_then (MarkText marks.Heading) (MarkText marks.Name ⨟ MarkText marks.Dashes ⨟ SomeExtends) (local_mark marks.Heading)
    (local_then (MarkText marks.Name) (MarkText marks.Dashes ⨟ SomeExtends) (local_mark marks.Name)
    (local_then (MarkText marks.Dashes) SomeExtends (local_mark marks.Dashes) local_some_extends)))

heading_same : (xs ys zs : List Laid) → HeadingText xs ys → HeadingText xs zs → IsOfUnits (form_of ys) → IsOfUnits (form_of zs) → ys ≡ zs
heading_same xs ys zs h g a b =
    let dashes : h.0 ≡ g.0 = some_behind kinds.Dashes xs xs h.0 g.0 refl h.1 g.1 in
    let heading : h.2.0 ≡ g.2.0 = some_behind (kinds.Word words.Module) h.0 g.0 h.2.0 g.2.0 dashes h.2.1 g.2.1 in
    let called : h.2.2.0 ≡ g.2.2.0 = ap tail_of (sym h.2.2.1.1.1 ∙ heading ∙ g.2.2.1.1.1) in
    let second : h.2.2.2.0 ≡ g.2.2.2.0 = some_behind kinds.Dashes h.2.2.0 g.2.2.0 h.2.2.2.0 g.2.2.2.0 called h.2.2.2.1 g.2.2.2.1 in
    let there : ExtendsText g.2.2.2.2.0 h.2.2.2.0 zs = subst (λ v. ExtendsText g.2.2.2.2.0 v zs) (sym second) g.2.2.2.2.1 in
    (extends_same h.2.2.2.2.0 g.2.2.2.2.0 h.2.2.2.0 ys zs h.2.2.2.2.1 there a b).1

-- ---- units

local_unit : LocalText → LocalDefinition → (u : ModuleUnit) → IsLocal (UnitText u)
local_unit text defined (units.Variables ds) = local_variables ds
local_unit text defined (units.Constants ds) = local_constants ds
local_unit text defined (units.Recursive ds) = local_recursive ds
local_unit text defined (units.Define d) = local_definition defined d
local_unit text defined (units.Instance m) = local_instance text m
local_unit text defined (units.Assume e) = local_assumption text e
local_unit text defined units.Passed = local_passed text

local_units : LocalText → LocalDefinition → (us : List ModuleUnit) → IsLocal (UnitsText us)
local_units text defined [] = local_nothing
local_units text defined (u ∷ us) = local_then (UnitText u) (UnitsText us) (local_unit text defined u) (local_units text defined us)

units_form : (us : List ModuleUnit) (xs ys : List Laid) → UnitsText us xs ys → IsOfUnits (form_of ys) → IsOfUnits (form_of xs)
units_form [] xs ys h a = subst (λ v. IsOfUnits (form_of v)) (sym h) a
units_form (u ∷ us) xs ys h a = unit_there u xs h.0 h.1

-- a whole unit whose tokens are shallow, before what stands behind it
unit_before : LocalText → LocalDefinition → (xs ys : List Laid) → (w : ShallowWholeUnit xs ys) → UnitText w.unit xs ys
unit_before text defined xs ys w =
    subst (λ v. UnitText w.unit v ys) (sym w.whole) (before_any (UnitText w.unit) (local_unit text defined w.unit) w.text [] w.text w.spelled (sym (append-nil w.text)) ys)

so_many_form : LocalText → LocalDefinition → (n : ℕ) (xs ys : List Laid) → SoManyUnits n xs ys → form_of ys ≡ OfEquals → IsOfUnits (form_of xs)
so_many_form text defined zero xs ys h q = subst (λ v. IsOfUnits (form_of v)) (sym h) (subst IsOfUnits (sym q) tt)
so_many_form text defined (suc n) xs ys h q = unit_there h.1.unit xs h.0 (unit_before text defined xs h.0 h.1)

-- ---- the unit that stands too deep

abbrev Deep : List Laid → Place → Type 0
Deep xs p = IsTooNested FittingBegunDefinition ShallowDefinition xs p ⊎ (TooNestedStated xs p ⊎ TooNestedGiven xs p)

deep_form : (xs : List Laid) (p : Place) → Deep xs p → IsOfUnits (form_of xs)
deep_form xs p (inl d) = subst IsOfUnits (sym (deep_definition_form xs p d)) tt
deep_form xs p (inr (inl d)) = deep_stated_form xs p d
deep_form xs p (inr (inr d)) = subst IsOfUnits (sym (deep_given_form xs p d)) tt

deep_no_equals : (xs : List Laid) (p : Place) → Deep xs p → form_of xs ≡ OfEquals → ⊥
deep_no_equals xs p (inl d) q = let e : OfDefinition ≡ OfEquals = sym (deep_definition_form xs p d) ∙ q in cc
deep_no_equals xs p (inr (inl d)) q = stated_no_equals xs p d q
deep_no_equals xs p (inr (inr d)) q = let e : OfDefinition ≡ OfEquals = sym (deep_given_form xs p d) ∙ q in cc

-- what is known of texts
record Known : Type 0 where
  text : LocalText
  defined : LocalDefinition
  ends : EndsThere
  none : NoneFollows
  titles : NoTitle
  both : NoBoth
  expressions : Expressions
  definitions : Defined

no_deep_unit : Known → (xs mid : List Laid) (p : Place) → ShallowWholeUnit xs mid → UnitEnds mid → Deep xs p → ⊥
no_deep_unit k xs mid p w m (inl d) = no_deep_definition k.definitions k.both k.text k.defined xs mid p w (form_ends mid m) d
no_deep_unit k xs mid p w m (inr (inl d)) = no_deep_stated k.ends k.none k.expressions xs mid p w (form_ends mid m) d
no_deep_unit k xs mid p w m (inr (inr d)) = no_deep_instance (record { local = k.text; expressions = k.expressions }) k.defined k.both xs mid p w m d

-- unit by unit, up to the one that stands too deep
no_deep_units : Known → (us : List ModuleUnit) (n : ℕ) (xs body ys : List Laid) (p : Place) → UnitsText us xs body → SoManyUnits n xs ys → form_of ys ≡ OfEquals → Deep body p → ⊥
no_deep_units k [] zero xs body ys p h g q d = deep_no_equals body p d (ap form_of (sym h ∙ g) ∙ q)
no_deep_units k [] (suc n) xs body ys p h g q d =
    let there : IsOfUnits (form_of g.0) = so_many_form k.text k.defined n g.0 ys g.2 q in
    no_deep_unit k xs g.0 p g.1 there (subst (λ v. Deep v p) (sym h) d)
no_deep_units k (u ∷ us) zero xs body ys p h g q d = equals_no_unit u xs h.0 h.1 (ap form_of g ∙ q)
no_deep_units k (u ∷ us) (suc n) xs body ys p h g q d =
    let here : IsOfUnits (form_of h.0) = units_form us h.0 body h.2 (deep_form body p d) in
    let there : IsOfUnits (form_of g.0) = so_many_form k.text k.defined n g.0 ys g.2 q in
    let same : h.0 ≡ g.0 = unit_extent k.both k.titles k.expressions k.definitions u g.1.unit xs h.0 g.0 h.1 (unit_before k.text k.defined xs g.0 g.1) here there in
    no_deep_units k us n g.0 body ys p (subst (λ v. UnitsText us v body) same h.2) g.2 q d

-- ---- what stands before that unit

no_two : (v : List Laid) (x y z : Laid) → x ∷ [] ≡ v ++ y ∷ z ∷ [] → ⊥
no_two [] x y z e = let q : [] ≡ z ∷ [] = ap tail_of e in cc
no_two (u ∷ []) x y z e = let q : [] ≡ y ∷ z ∷ [] = ap tail_of e in cc
no_two (u ∷ w ∷ v) x y z e = let q : [] ≡ w ∷ (v ++ y ∷ z ∷ []) = ap tail_of e in cc

before_two : (a b : List Laid) (x y z w : Laid) → Parted a (x ∷ y ∷ []) b (z ∷ w ∷ []) → a ≡ b
before_two a b x y z w (Same e f) = e
before_two a b x y z w (Before u v e f) = absurd (no_two v y z w (ap tail_of f))
before_two a b x y z w (Behind u v e f) = absurd (no_two v w x y (ap tail_of f))

-- a module's heading and units, up to its last two tokens and so before any others
record Reached (us : List ModuleUnit) (xs body : List Laid) : Type 0 where
  first : List Laid
  heading : HeadingText xs first
  units : UnitsText us first body

last_two : (xs ys : List Laid) → some_token kinds.Equals xs ys → some_token kinds.End ys [] → (x : Laid) × (y : Laid) × (xs ≡ x ∷ y ∷ [])
last_two xs ys h g = (_, _, h.1 ∙ ap (λ v. Plain (record { kind = kinds.Equals; place = h.0 }) ∷ v) g.1)

reached : LocalText → LocalDefinition → (m : Module) (before : List Laid) (x y : Laid) → ModuleText m (before ++ x ∷ y ∷ []) [] → (body : List Laid) → Reached m.units (before ++ body) body
reached text defined m before x y t body =
    let called = t.2.2 in
    let second = called.2 in
    let extends = second.2 in
    let all : List Laid = before ++ x ∷ y ∷ [] in
    let heading : HeadingText all extends.0 = (t.0, t.1, (t.2.0, t.2.1, (called.0, (m.name, (m.at, called.1)), (second.0, second.1, (m.extends, extends.1))))) in
    let last = extends.2 in
    let h = local_heading all extends.0 heading in
    let u = local_units text defined m.units extends.0 last.0 last.1 in
    let two = last_two last.0 last.2.0 last.2.1 last.2.2 in
    let whole : all ≡ (h.text ++ u.text) ++ two.0 ∷ two.1 ∷ [] = joined all extends.0 last.0 h.text u.text h.whole u.whole ∙ ap (λ v. (h.text ++ u.text) ++ v) two.2 in
    let same : before ≡ h.text ++ u.text = before_two before (h.text ++ u.text) x y two.0 two.1 (parted before (x ∷ y ∷ []) (h.text ++ u.text) (two.0 ∷ two.1 ∷ []) whole) in
    let there : before ++ body ≡ h.text ++ (u.text ++ body) = ap (λ v. v ++ body) same ∙ append_assoc h.text u.text body in
    record { first = u.text ++ body; heading = subst (λ v. HeadingText v (u.text ++ body)) (sym there) (h.anywhere (u.text ++ body)); units = u.anywhere body }

-- ---- modules

not_deep_in : Known → (laid : List Laid) (p : Place) → ShallowWholeModule laid → TooNestedUnit laid p → ⊥
not_deep_in k laid p s d =
    let r : Reached d.units.read_as.units (d.before ++ d.body) d.body = reached k.text k.defined d.units.read_as d.before (at_place kinds.Equals d.units.equals) (at_place kinds.End d.units.ends) d.units.spelled.text d.body in
    let heading : HeadingText laid r.first = subst (λ v. HeadingText v r.first) (sym d.whole) r.heading in
    let q : form_of s.last ≡ OfEquals = ap form_of s.ends.1.1 in
    let here : IsOfUnits (form_of s.first) = so_many_form k.text k.defined s.units.0 s.first s.last s.units.1 q in
    let there : IsOfUnits (form_of r.first) = units_form d.units.read_as.units r.first d.body r.units (deep_form d.body p d.deep) in
    let same : r.first ≡ s.first = heading_same laid r.first s.first heading s.heading there here in
    no_deep_units k d.units.read_as.units s.units.0 s.first d.body s.last p (subst (λ v. UnitsText d.units.read_as.units v d.body) same r.units) s.units.1 q d.deep

pub not_too_nested : LocalText → LocalDefinition → NoneFollows → NoneFollowsDefinition → NoMarkInside → NoMarkInsideDefinition → EndsThere → StoppedThere → ShallowNotRefused
not_too_nested text defined none none_defined marks marks_defined ends stops laid p s d =
    not_deep_in
    (record {
      text = text;
      defined = defined;
      ends = ends;
      none = none;
      titles = none_titled text none ends;
      both = no_both text stops none;
      expressions = expression_kind text none marks;
      definitions = definition_kind defined none_defined marks_defined;
    })
    laid p s d
