-- The rest of a module with no trees, and the grammar of modules: from the one to the other.
use Rattle.std.proofs.Common.{◌≡◌, ℕ, zero, suc, Bool, true, false, List, [], ◌∷◌, ◌++◌, Option, Some, inl, inr, refl, ap, subst, ◌∙◌}
use Rattle.reading_trees.specs.declared.laid.Laid.{Laid}
use Rattle.reading_trees.specs.declared.laid.Laid.TheVariants.{Plain}
use Rattle.reading_tokens.specs.declared.token.Token.{Token as LaidToken}
use Rattle.reading_tokens.specs.declared.token.Kind.{Kind}
use Rattle.reading_tokens.specs.declared.token.Kind.TheVariants as kinds
use Rattle.reading_tokens.specs.declared.token.Word.TheVariants as words
use Rattle.reading_tokens.specs.declared.token.Symbol.TheVariants as symbols
use Rattle.reading_tokens.specs.declared.token.Foreign.TheVariants as foreign
use Rattle.reading_trees.specs.declared.module.Declared.{Declared}
use Rattle.reading_trees.specs.declared.module.DeclaredOperator.{DeclaredOperator}
use Rattle.reading_trees.specs.declared.module.Unit.{Unit as ModuleUnit}
use Rattle.reading_trees.specs.declared.module.Unit.TheVariants as units
use Rattle.reading_trees.specs.declared.module.With.{With}
use Rattle.reading_trees.specs.declared.module.Made.{Made}
use Rattle.reading_trees.specs.declared.module.Module.{Module}
use Rattle.reading_trees.specs.Grammar.{Span, nothing, either, some_token, name, NamesText}
use Rattle.reading_trees.specs.Modules.{SomeExpression, SomeText, DeclaredText, DeclaredNamesText, PlacesText, MaybePlaces, DeclaredOperatorText, DeclaredOperatorsText, underscore, MaybeTitle, ExtendsText, WithText, MoreWithsText, WithsText, InstanceText, WithsFit, UnitTextBy, UnitsTextBy, UnitFits, UnitsFit, ModuleTextBy}
use Rattle.reading_units.specs.Marks.{mark_of}
use Rattle.reading_units.specs.Parts.{MarkText, IsMark}
use Rattle.reading_units.specs.Rests.{Marked, OthersOf, Others, Listed, Parameters, OneOperator, Operators, Extended, Title, Titled, FitsIf, Expression, Definition, Given, MoreGiven, MaybeGiven, InstancePart, NamePart, Behind, UnitPart, Last, UnitsLeft, Whole}
use Rattle.reading_units.specs.declared.marks.Mark.{Mark}
use Rattle.reading_units.specs.declared.marks.Mark.TheVariants as marks
use Rattle.reading_units.proofs.MarksTold.{told}

-- ---- tokens

of_kind : (k : Kind) (t : LaidToken) (x : Laid) (xs ys : List Laid) → x ≡ Plain t → t.kind ≡ k → xs ≡ ys → some_token k (x ∷ xs) ys
of_kind k t x xs ys e q w = (t.place, ap (λ v. v ∷ xs) (e ∙ ap (λ v. Plain (record { kind = v; place = t.place })) q) ∙ ap (λ v. Plain (record { kind = k; place = t.place }) ∷ v) w)

text_of : (m : Mark) (t : LaidToken) (x : Laid) (xs ys : List Laid) → x ≡ Plain t → IsMark m t.kind → xs ≡ ys → MarkText m (x ∷ xs) ys
text_of marks.Name t x xs ys e h w = (h.0, of_kind (kinds.Name h.0) t x xs ys e h.1 w)
text_of marks.Dashes t x xs ys e h w = of_kind kinds.Dashes t x xs ys e h w
text_of marks.Equals t x xs ys e h w = of_kind kinds.Equals t x xs ys e h w
text_of marks.Comma t x xs ys e h w = of_kind (kinds.Symbol symbols.Comma) t x xs ys e h w
text_of marks.OpenParenthesis t x xs ys e h w = of_kind (kinds.Symbol symbols.OpenParenthesis) t x xs ys e h w
text_of marks.CloseParenthesis t x xs ys e h w = of_kind (kinds.Symbol symbols.CloseParenthesis) t x xs ys e h w
text_of marks.Underscore t x xs ys e h w = of_kind (kinds.Foreign foreign.Underscore) t x xs ys e h w
text_of marks.Defined t x xs ys e h w = of_kind (kinds.Symbol symbols.Defined) t x xs ys e h w
text_of marks.Heading t x xs ys e h w = of_kind (kinds.Word words.Module) t x xs ys e h w
text_of marks.Extends t x xs ys e h w = of_kind (kinds.Word words.Extends) t x xs ys e h w
text_of marks.Variables t x xs ys e (inl h) w = inl (of_kind (kinds.Word words.Variable) t x xs ys e h w)
text_of marks.Variables t x xs ys e (inr h) w = inr (of_kind (kinds.Word words.Variables) t x xs ys e h w)
text_of marks.Constants t x xs ys e (inl h) w = inl (of_kind (kinds.Word words.Constant) t x xs ys e h w)
text_of marks.Constants t x xs ys e (inr h) w = inr (of_kind (kinds.Word words.Constants) t x xs ys e h w)
text_of marks.Recursive t x xs ys e h w = of_kind (kinds.Foreign foreign.Recursive) t x xs ys e h w
text_of marks.Assume t x xs ys e (inl h) w = inl (of_kind (kinds.Word words.Assume) t x xs ys e h w)
text_of marks.Assume t x xs ys e (inr (inl h)) w = inr (inl (of_kind (kinds.Word words.Assumption) t x xs ys e h w))
text_of marks.Assume t x xs ys e (inr (inr h)) w = inr (inr (of_kind (kinds.Word words.Axiom) t x xs ys e h w))
text_of marks.Theorem t x xs ys e (inl (inl h)) w = inl (inl (of_kind (kinds.Word words.Theorem) t x xs ys e h w))
text_of marks.Theorem t x xs ys e (inl (inr h)) w = inl (inr (of_kind (kinds.Word words.Lemma) t x xs ys e h w))
text_of marks.Theorem t x xs ys e (inr (inl h)) w = inr (inl (of_kind (kinds.Word words.Proposition) t x xs ys e h w))
text_of marks.Theorem t x xs ys e (inr (inr h)) w = inr (inr (of_kind (kinds.Word words.Corollary) t x xs ys e h w))
text_of marks.Instance t x xs ys e h w = of_kind (kinds.Foreign foreign.Instance) t x xs ys e h w
text_of marks.With t x xs ys e h w = of_kind (kinds.Foreign foreign.With) t x xs ys e h w
text_of marks.Arrow t x xs ys e h w = of_kind (kinds.Symbol symbols.LeftArrow) t x xs ys e h w

pub marked_text : (m : Mark) (xs ys : List Laid) → Marked m xs ys → MarkText m xs ys
marked_text m [] ys h = absurd h
marked_text m (x ∷ xs) ys h = let t = told m x h.0 in text_of m t.0 x xs ys t.1 t.2 h.1

-- ---- names

names_of : (n : ℕ) (xs ws ys : List Laid) → Marked marks.Name xs ws → Others n ws ys → (a : List ℕ) × (others : List (List ℕ)) × NamesText (a ∷ others) xs ys
names_of zero xs ws ys h o = let t = marked_text marks.Name xs ws h in (t.0, [], subst (name t.0 xs) o t.1)
names_of (suc n) xs ws ys h o =
    let t = marked_text marks.Name xs ws h in
    let r = names_of n o.0 o.2.0 ys o.2.1 o.2.2 in
    (t.0, r.0 ∷ r.1, (ws, t.1, (o.0, marked_text marks.Comma ws o.0 o.1, r.2)))

pub extends_of : (xs ys : List Laid) → Extended xs ys → (ns : List (List ℕ)) × ExtendsText ns xs ys
extends_of xs ys (inl q) = ([], q)
extends_of xs ys (inr h) =
    let r = names_of h.2.2.0 h.0 h.2.0 ys h.2.1 h.2.2.1 in
    (r.0 ∷ r.1, (h.0, marked_text marks.Extends xs h.0 h.1, r.2))

declared_of : (xs ys : List Laid) → Marked marks.Name xs ys → (d : Declared) × DeclaredText d xs ys
declared_of xs ys h = let t = marked_text marks.Name xs ys h in (record { name = t.0; at = t.1.0 }, t.1.1)

declared_names_of : (n : ℕ) (xs ws ys : List Laid) → Marked marks.Name xs ws → Others n ws ys → (d : Declared) × (ds : List Declared) × DeclaredNamesText (d ∷ ds) xs ys
declared_names_of zero xs ws ys h o = let t = declared_of xs ws h in (t.0, [], subst (DeclaredText t.0 xs) o t.1)
declared_names_of (suc n) xs ws ys h o =
    let t = declared_of xs ws h in
    let r = declared_names_of n o.0 o.2.0 ys o.2.1 o.2.2 in
    (t.0, r.0 ∷ r.1, (ws, t.1, (o.0, marked_text marks.Comma ws o.0 o.1, r.2)))

pub listed_of : (xs ys : List Laid) → Listed xs ys → (ds : List Declared) × DeclaredNamesText ds xs ys
listed_of xs ys h = let r = declared_names_of h.2.0 xs h.0 ys h.1 h.2.1 in (r.0 ∷ r.1, r.2)

-- ---- operators

places_of : (n : ℕ) (xs ws ys : List Laid) → Marked marks.Underscore xs ws → OthersOf (Marked marks.Underscore) n ws ys → PlacesText (suc n) xs ys
places_of zero xs ws ys h o = subst (λ v. underscore xs v) o (marked_text marks.Underscore xs ws h)
places_of (suc n) xs ws ys h o = (ws, marked_text marks.Underscore xs ws h, (o.0, marked_text marks.Comma ws o.0 o.1, places_of n o.0 o.2.0 ys o.2.1 o.2.2))

parameters_of : (xs ys : List Laid) → Parameters xs ys → (n : ℕ) × MaybePlaces n xs ys
parameters_of xs ys (inl q) = (zero, q)
parameters_of xs ys (inr h) =
    let p = h.2.1 in
    let places : PlacesText (suc p.2.0) h.0 h.2.0 = places_of p.2.0 h.0 p.0 h.2.0 p.1 p.2.1 in
    (suc p.2.0, (h.0, marked_text marks.OpenParenthesis xs h.0 h.1, (h.2.0, places, marked_text marks.CloseParenthesis h.2.0 ys h.2.2)))

operator_of : (xs ys : List Laid) → OneOperator xs ys → (d : DeclaredOperator) × DeclaredOperatorText d xs ys
operator_of xs ys h =
    let t = marked_text marks.Name xs h.0 h.1 in
    let p = parameters_of h.0 ys h.2 in
    (record { name = t.0; at = t.1.0; parameters = p.0 }, (h.0, t.1.1, p.1))

operators_in : (n : ℕ) (xs ws ys : List Laid) → OneOperator xs ws → OthersOf OneOperator n ws ys → (d : DeclaredOperator) × (ds : List DeclaredOperator) × DeclaredOperatorsText (d ∷ ds) xs ys
operators_in zero xs ws ys h o = let t = operator_of xs ws h in (t.0, [], subst (DeclaredOperatorText t.0 xs) o t.1)
operators_in (suc n) xs ws ys h o =
    let t = operator_of xs ws h in
    let r = operators_in n o.0 o.2.0 ys o.2.1 o.2.2 in
    (t.0, r.0 ∷ r.1, (ws, t.1, (o.0, marked_text marks.Comma ws o.0 o.1, r.2)))

pub operators_of : (xs ys : List Laid) → Operators xs ys → (ds : List DeclaredOperator) × DeclaredOperatorsText ds xs ys
operators_of xs ys h = let r = operators_in h.2.0 xs h.0 ys h.1 h.2.1 in (r.0 ∷ r.1, r.2)

-- ---- units

-- the grammar of what stands behind the title of a theorem
abbrev pub some_by : Bool → Span
some_by true = SomeExpression
some_by false = SomeText

abbrev pub UnitFitsIf : Bool → ModuleUnit → Type 0
UnitFitsIf true u = UnitFits u
UnitFitsIf false u = Unit {0}

abbrev pub UnitsFitIf : Bool → List ModuleUnit → Type 0
UnitsFitIf true us = UnitsFit us
UnitsFitIf false us = Unit {0}

abbrev pub SomeUnit : Bool → Span
SomeUnit fit xs ys = (u : ModuleUnit) × UnitTextBy (some_by fit) u xs ys × UnitFitsIf fit u

some_of : (fit : Bool) (xs ys : List Laid) → Expression fit xs ys → some_by fit xs ys
some_of true xs ys h = (h.0, record { text = h.1; fits = h.2 })
some_of false xs ys h = (h.0, h.1)

no_fits : (fit : Bool) (u : ModuleUnit) → UnitFits u → UnitFitsIf fit u
no_fits true u h = h
no_fits false u h = tt

pub title_of : (xs ys : List Laid) → either nothing Title xs ys → MaybeTitle xs ys
title_of xs ys (inl q) = inl q
title_of xs ys (inr h) = let t = marked_text marks.Name xs h.0 h.1 in inr (t.0, (h.0, t.1, marked_text marks.Defined h.0 ys h.2))

assumed_of : (fit : Bool) (x : Laid) (xs ys : List Laid) → mark_of x ≡ Some marks.Assume → Titled fit xs ys → SomeUnit fit (x ∷ xs) ys
assumed_of true x xs ys e h = (units.Assume h.2.0, (xs, marked_text marks.Assume (x ∷ xs) xs (e, refl), (h.0, title_of xs h.0 h.1, h.2.1)), h.2.2)
assumed_of false x xs ys e h = (units.Assume h.2.0, (xs, marked_text marks.Assume (x ∷ xs) xs (e, refl), (h.0, title_of xs h.0 h.1, h.2.1)), tt)

stated_of : (fit : Bool) (x : Laid) (xs ys : List Laid) → mark_of x ≡ Some marks.Theorem → Titled fit xs ys → SomeUnit fit (x ∷ xs) ys
stated_of fit x xs ys e h = (units.Passed, inr (xs, marked_text marks.Theorem (x ∷ xs) xs (e, refl), (h.0, title_of xs h.0 h.1, some_of fit h.0 ys h.2)), no_fits fit units.Passed tt)

defined_of : (fit : Bool) (xs ys : List Laid) → Definition fit xs ys → SomeUnit fit xs ys
defined_of true xs ys h = (units.Define (record { name = h.0; at = h.1; params = h.2; form = h.3; body = h.4 }), h.5, h.6)
defined_of false xs ys h = (units.Define (record { name = h.0; at = h.1; params = h.2; form = h.3; body = h.4 }), h.5, tt)

-- ---- instances

abbrev pub WithsFitIf : Bool → List With → Type 0
WithsFitIf true ws = WithsFit ws
WithsFitIf false ws = Unit {0}

none_given : (fit : Bool) → WithsFitIf fit []
none_given true = tt
none_given false = tt

and_given : (fit : Bool) (w : With) (ws : List With) → FitsIf fit w.by → WithsFitIf fit ws → WithsFitIf fit (w ∷ ws)
and_given true w ws f g = (f, g)
and_given false w ws f g = tt

abbrev with_of : (fit : Bool) (before : List (List ℕ)) (n : List ℕ) (xs ys : List Laid) → Given fit before n xs ys → With
with_of fit before n xs ys h = record { name = n; at = h.1.1.0; by = h.1.2.2.0 }

with_text : (fit : Bool) (before : List (List ℕ)) (n : List ℕ) (xs ys : List Laid) → (h : Given fit before n xs ys) → WithText before (with_of fit before n xs ys h) xs ys
with_text fit before n xs ys h = (h.0, (h.1.0, h.1.1.1, (h.1.2.0, marked_text marks.Arrow h.1.0 h.1.2.0 h.1.2.1, h.1.2.2.1)))

more_of : (k : ℕ) (fit : Bool) (before : List (List ℕ)) (xs ys : List Laid) → MoreGiven fit before k xs ys → (ws : List With) × MoreWithsText before ws xs ys × WithsFitIf fit ws
more_of zero fit before xs ys h = ([], h, none_given fit)
more_of (suc k) fit before xs ys h =
    let n : List ℕ = h.2.0 in
    let given = h.2.1 in
    let w : With = with_of fit before h.2.0 h.0 given.0 given.1 in
    let more = more_of k fit (before ++ h.2.0 ∷ []) given.0 ys given.2 in
    (w ∷ more.0, (h.0, marked_text marks.Comma xs h.0 h.1, (given.0, with_text fit before h.2.0 h.0 given.0 given.1, more.1)), and_given fit w more.0 given.1.1.2.2.2 more.2)

withs_of : (fit : Bool) (xs ys : List Laid) → MaybeGiven fit xs ys → (ws : List With) × WithsText ws xs ys × WithsFitIf fit ws
withs_of fit xs ys (inl q) = ([], q, none_given fit)
withs_of fit xs ys (inr h) =
    let given = h.2.1 in
    let w : With = with_of fit [] h.2.0 h.0 given.0 given.1 in
    let more = more_of given.2.0 fit (h.2.0 ∷ []) given.0 ys given.2.1 in
    (w ∷ more.0, (h.0, marked_text marks.With xs h.0 h.1, (given.0, with_text fit [] h.2.0 h.0 given.0 given.1, more.1)), and_given fit w more.0 given.1.1.2.2.2 more.2)

made_of : (fit : Bool) (m : Made) (xs ys : List Laid) → InstanceText m xs ys → WithsFitIf fit m.withs → SomeUnit fit xs ys
made_of true m xs ys h f = (units.Instance m, h, f)
made_of false m xs ys h f = (units.Instance m, h, tt)

instance_of : (fit : Bool) (xs ys : List Laid) → InstancePart fit xs ys → SomeUnit fit xs ys
instance_of fit xs ys h =
    let own = marked_text marks.Name xs h.0 h.1 in
    let second = h.2 in
    let third = second.2 in
    let fourth = third.2 in
    let of_module = marked_text marks.Name third.0 fourth.0 fourth.1 in
    let withs = withs_of fit fourth.0 ys fourth.2 in
    made_of fit (record { name = own.0; at = own.1.0; module_name = of_module.0; withs = withs.0 }) xs ys
    (h.0, own.1.1, (second.0, marked_text marks.Defined h.0 second.0 second.1, (third.0, marked_text marks.Instance second.0 third.0 third.1, (fourth.0, of_module.1, withs.1)))) withs.2

name_of : (fit : Bool) (xs ys : List Laid) → NamePart fit xs ys → SomeUnit fit xs ys
name_of fit xs ys (inl d) = defined_of fit xs ys d
name_of fit xs ys (inr i) = instance_of fit xs ys i

unit_by : (fit : Bool) (o : Option Mark) (x : Laid) (xs ys : List Laid) → mark_of x ≡ o → Behind fit o x xs ys → SomeUnit fit (x ∷ xs) ys
unit_by fit (Some marks.Variables) x xs ys e h = let r = listed_of xs ys h in (units.Variables r.0, (xs, marked_text marks.Variables (x ∷ xs) xs (e, refl), r.1), no_fits fit (units.Variables r.0) tt)
unit_by fit (Some marks.Constants) x xs ys e h = let r = listed_of xs ys h in (units.Constants r.0, (xs, marked_text marks.Constants (x ∷ xs) xs (e, refl), r.1), no_fits fit (units.Constants r.0) tt)
unit_by fit (Some marks.Recursive) x xs ys e h = let r = operators_of xs ys h in (units.Recursive r.0, (xs, marked_text marks.Recursive (x ∷ xs) xs (e, refl), r.1), no_fits fit (units.Recursive r.0) tt)
unit_by fit (Some marks.Assume) x xs ys e h = assumed_of fit x xs ys e h
unit_by fit (Some marks.Theorem) x xs ys e h = stated_of fit x xs ys e h
unit_by fit (Some marks.Dashes) x xs ys e h = (units.Passed, inl (marked_text marks.Dashes (x ∷ xs) ys (e, h)), no_fits fit units.Passed tt)
unit_by fit (Some marks.Name) x xs ys e h = name_of fit (x ∷ xs) ys h
unit_by fit _ x xs ys e h = absurd h

unit_of : (fit : Bool) (xs ys : List Laid) → UnitPart fit xs ys → SomeUnit fit xs ys
unit_of fit [] ys h = absurd h
unit_of fit (x ∷ xs) ys h = unit_by fit (mark_of x) x xs ys refl h

and_fits : (fit : Bool) (u : ModuleUnit) (us : List ModuleUnit) → UnitFitsIf fit u → UnitsFitIf fit us → UnitsFitIf fit (u ∷ us)
and_fits true u us h g = (h, g)
and_fits false u us h g = tt

none_fits : (fit : Bool) → UnitsFitIf fit []
none_fits true = tt
none_fits false = tt

abbrev SomeUnits : Bool → List Laid → Type 0
SomeUnits fit xs = (us : List ModuleUnit) × (ys : List Laid) × UnitsTextBy (some_by fit) us xs ys × UnitsFitIf fit us × (Last fit ys)

units_of : (n : ℕ) (fit : Bool) (xs : List Laid) → UnitsLeft n fit xs → SomeUnits fit xs
units_of zero fit xs h = ([], xs, refl, none_fits fit, h)
units_of (suc n) fit xs h =
    let u = unit_of fit xs h.0 h.1 in
    let r = units_of n fit h.0 h.2 in
    (u.0 ∷ r.0, r.1, (h.0, u.1, r.2), and_fits fit u.0 r.0 u.2 r.3, r.4)

-- ---- modules

abbrev pub SomeModule : Bool → List Laid → Type 0
SomeModule fit l = (m : Module) × ModuleTextBy (some_by fit) m l [] × UnitsFitIf fit m.units

pub module_of : (fit : Bool) (l : List Laid) → Whole fit l → SomeModule fit l
module_of fit l h =
    let heading = h.2 in
    let called = heading.2 in
    let second = called.2 in
    let extended = second.2 in
    let d = declared_of heading.0 called.0 called.1 in
    let ns = extends_of second.0 extended.0 extended.1 in
    let us = units_of extended.2.0 fit extended.0 extended.2.1 in (
      record { name = d.0.name; at = d.0.at; extends = ns.0; units = us.0 },
      (h.0, marked_text marks.Dashes l h.0 h.1, (heading.0, marked_text marks.Heading h.0 heading.0 heading.1, (called.0, d.1, (second.0, marked_text marks.Dashes called.0 second.0 second.1, (extended.0, ns.1, (us.1, us.2, (us.4.0, marked_text marks.Equals us.1 us.4.0 us.4.1, us.4.2))))))),
      us.3,
    )
