-- Where a unit ends is told by its tokens, whatever their ranges.
use Rattle.std.proofs.Common.{◌≡◌, ℕ, Bool, false, List, [], ◌∷◌, Some, inl, inr, refl, sym, ap, subst, ◌∙◌}
use Rattle.std.proofs.lemmas.List.{append-nil}
use Rattle.base_core.specs.declared.place.Place.{Place}
use Rattle.reading_trees.specs.declared.laid.Laid.{Laid}
use Rattle.reading_trees.specs.declared.expr.Definition.{Definition as UnitDefinition}
use Rattle.reading_tokens.specs.declared.token.Kind.TheVariants as kinds
use Rattle.reading_tokens.specs.declared.token.Symbol.TheVariants as symbols
use Rattle.reading_trees.specs.declared.module.Unit.TheVariants as units
use Rattle.reading_trees.specs.Begun.{Begun}
use Rattle.reading_trees.specs.Trees.{Tree}
use Rattle.reading_trees.specs.Grammar.{Span, ◌⨟◌, sign, name, Text}
use Rattle.reading_trees.specs.Modules.{MaybeTitle, UnitText}
use Rattle.reading_machine.specs.Beginnings.{FittingBegun, BegunDefinition, FittingBegunDefinition}
use Rattle.reading_units.specs.Marks.{mark_of, kind_mark, symbol_mark}
use Rattle.reading_units.specs.Rests.{Expression, Definition}
use Rattle.reading_units.specs.declared.marks.Mark.TheVariants as marks
use Rattle.reading_units.proofs.Extents.{TextKind, Parted, Same, Before, Behind, alone, parted, none_within, ends_first}
use Rattle.reading_units.proofs.OneModuleParts.{title_tail}
use Rattle.reading_units.proofs.OneModuleTokens.{TextEnds, some_behind, assume_behind, theorem_behind, dashes_no_theorem}
use Rattle.reading_units.proofs.OpenStarts.{name_token, defined_token}
use Rattle.reading_units.proofs.Titles.{NoTitle}

-- ---- texts of one kind

abbrev pub Expressions : Type 0
Expressions = TextKind Expression Begun FittingBegun

abbrev pub Defined : Type 0
Defined = TextKind Definition BegunDefinition FittingBegunDefinition

all_begun : (S : Bool → Span) (B F : List Laid → Type 0) → TextKind S B F → (l : List Laid) → S false l [] → B l
all_begun S B F k l s = k.begins l [] (subst (λ v. S false v []) (sym (append-nil l)) s)

extent_by : (S : Bool → Span) (B F : List Laid → Type 0) → TextKind S B F → (text other ys zs : List Laid) → S false text [] → S false other [] → TextEnds ys → TextEnds zs → Parted text ys other zs → ys ≡ zs
extent_by S B F k text other ys zs s t a b (Same e f) = f
extent_by S B F k text other ys zs s t a b (Before u w e f) = absurd (none_within S B F k other text w u (all_begun S B F k other t) e s (ends_first u _ ys f a))
extent_by S B F k text other ys zs s t a b (Behind u w e f) = absurd (none_within S B F k text other w u (all_begun S B F k text s) e t (ends_first u _ zs f b))

one_extent : (S : Bool → Span) (B F : List Laid → Type 0) → TextKind S B F → (xs ys zs : List Laid) → S false xs ys → S false xs zs → TextEnds ys → TextEnds zs → ys ≡ zs
one_extent S B F k xs ys zs s t a b =
    let p = k.local false xs ys s in
    let q = k.local false xs zs t in
    extent_by S B F k p.text q.text ys zs (alone (S false) xs ys p) (alone (S false) xs zs q) a b (parted p.text ys q.text zs (sym p.whole ∙ q.whole))

-- ---- titles

pub name_mark : (n : List ℕ) (p : Place) → mark_of (name_token n p) ≡ Some marks.Name
unfolding mark_of kind_mark
name_mark n p = refl

pub defined_mark : (p : Place) → mark_of (defined_token p) ≡ Some marks.Defined
unfolding mark_of kind_mark symbol_mark
defined_mark p = refl

pub title_whole : (n : List ℕ) (xs ys : List Laid) → (h : (name n ⨟ sign symbols.Defined) xs ys) → xs ≡ name_token n h.1.0 ∷ defined_token h.2.0 ∷ ys
title_whole n xs ys h = h.1.1 ∙ ap (λ v. name_token n h.1.0 ∷ v) h.2.1

not_titled : NoTitle → (e : Tree) (n : List ℕ) (xs vs ys : List Laid) → Text e xs ys → (name n ⨟ sign symbols.Defined) xs vs → TextEnds ys → ⊥
not_titled none e n xs vs ys s h a =
    none false (name_token n h.1.0) (defined_token h.2.0) vs ys (name_mark n h.1.0) (defined_mark h.2.0) (subst (λ v. Expression false v ys) (title_whole n xs vs h) (e, s, tt)) a

pub text_extent : Expressions → (e f : Tree) (us vs ys zs : List Laid) → us ≡ vs → Text e us ys → Text f vs zs → TextEnds ys → TextEnds zs → ys ≡ zs
text_extent k e f us vs ys zs q s t a b = one_extent Expression Begun FittingBegun k us ys zs (e, s, tt) (f, subst (λ v. Text f v zs) (sym q) t, tt) a b

titled_extent : NoTitle → Expressions → (e f : Tree) (xs us vs ys zs : List Laid) → MaybeTitle xs us → MaybeTitle xs vs → Text e us ys → Text f vs zs → TextEnds ys → TextEnds zs → ys ≡ zs
titled_extent none k e f xs us vs ys zs (inl h) (inl g) s t a b = text_extent k e f us vs ys zs (sym h ∙ g) s t a b
titled_extent none k e f xs us vs ys zs (inl h) (inr g) s t a b = absurd (not_titled none e g.0 xs vs ys (subst (λ v. Text e v ys) (sym h) s) g.1 a)
titled_extent none k e f xs us vs ys zs (inr h) (inl g) s t a b = absurd (not_titled none f h.0 xs us zs (subst (λ v. Text f v zs) (sym g) t) h.1 b)
titled_extent none k e f xs us vs ys zs (inr h) (inr g) s t a b = text_extent k e f us vs ys zs (sym (title_tail h.0 xs us h.1) ∙ title_tail g.0 xs vs g.1) s t a b

-- ---- units

pub assume_extent : NoTitle → Expressions → (e f : Tree) (xs ys zs : List Laid) → UnitText (units.Assume e) xs ys → UnitText (units.Assume f) xs zs → TextEnds ys → TextEnds zs → ys ≡ zs
assume_extent none k e f xs ys zs h g a b =
    let q : h.0 ≡ g.0 = assume_behind xs h.0 g.0 h.1 g.1 in
    titled_extent none k e f h.0 h.2.0 g.2.0 ys zs h.2.1 (subst (λ v. MaybeTitle v g.2.0) (sym q) g.2.1) h.2.2 g.2.2 a b

pub passed_extent : NoTitle → Expressions → (xs ys zs : List Laid) → UnitText units.Passed xs ys → UnitText units.Passed xs zs → TextEnds ys → TextEnds zs → ys ≡ zs
passed_extent none k xs ys zs (inl h) (inl g) a b = some_behind kinds.Dashes xs xs ys zs refl h g
passed_extent none k xs ys zs (inl h) (inr g) a b = absurd (dashes_no_theorem xs ys g.0 h g.1)
passed_extent none k xs ys zs (inr h) (inl g) a b = absurd (dashes_no_theorem xs zs h.0 g h.1)
passed_extent none k xs ys zs (inr h) (inr g) a b =
    let q : h.0 ≡ g.0 = theorem_behind xs h.0 g.0 h.1 g.1 in
    titled_extent none k h.2.2.0 g.2.2.0 h.0 h.2.0 g.2.0 ys zs h.2.1 (subst (λ v. MaybeTitle v g.2.0) (sym q) g.2.1) h.2.2.1.text g.2.2.1.text a b

pub definition_extent : Defined → (d e : UnitDefinition) (xs ys zs : List Laid) → UnitText (units.Define d) xs ys → UnitText (units.Define e) xs zs → TextEnds ys → TextEnds zs → ys ≡ zs
definition_extent k d e xs ys zs h g a b = one_extent Definition BegunDefinition FittingBegunDefinition k xs ys zs (d.name, d.at, d.params, d.form, d.body, h, tt) (e.name, e.at, e.params, e.form, e.body, g, tt) a b
