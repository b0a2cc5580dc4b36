-- The grammar of modules, and the rest of a module with no trees: from the one to the other.
use Rattle.std.proofs.Common.{◌≡◌, ℕ, zero, suc, Bool, true, false, List, [], ◌∷◌, ◌++◌, Some, inl, inr, refl, sym, subst}
use Rattle.reading_trees.specs.declared.laid.Laid.{Laid}
use Rattle.reading_trees.specs.declared.expr.Definition.{Definition as UnitDefinition}
use Rattle.reading_trees.specs.declared.module.Declared.{Declared}
use Rattle.reading_trees.specs.declared.module.DeclaredOperator.{DeclaredOperator}
use Rattle.reading_trees.specs.declared.module.Unit.{Unit as ModuleUnit}
use Rattle.reading_trees.specs.declared.module.Unit.TheVariants as units
use Rattle.reading_trees.specs.declared.module.With.{With}
use Rattle.reading_trees.specs.declared.module.Made.{Made}
use Rattle.reading_trees.specs.declared.module.Module.{Module}
use Rattle.reading_trees.specs.Trees.{Tree}
use Rattle.reading_trees.specs.Grammar.{Span, nothing, either, NamesText}
use Rattle.reading_trees.specs.Modules.{DeclaredNamesText, PlacesText, MaybePlaces, DeclaredOperatorText, DeclaredOperatorsText, MaybeTitle, ExtendsText, WithText, MoreWithsText, WithsText, UnitTextBy, UnitsTextBy, ModuleTextBy}
use Rattle.reading_units.specs.Marks.{mark_of, kind_mark, word_mark, symbol_mark, foreign_mark}
use Rattle.reading_units.specs.Parts.{MarkText}
use Rattle.reading_units.specs.Rests.{Marked, ListOf, Others, Listed, Places, Parameters, OneOperator, Operators, Extended, Title, FitsIf, Expression, Given, SomeMoreGiven, MaybeGiven, Behind, UnitPart, Last, Tail, Whole}
use Rattle.reading_units.specs.declared.marks.Mark.{Mark}
use Rattle.reading_units.specs.declared.marks.Mark.TheVariants as marks
use Rattle.reading_units.proofs.Official.{some_by, WithsFitIf, UnitFitsIf, UnitsFitIf}
use Rattle.reading_units.proofs.TailSteps.{definition_part, instance_part}

-- ---- tokens

set : (m : Mark) (x : Laid) (xs ys : List Laid) → xs ≡ x ∷ ys → mark_of x ≡ Some m → Marked m xs ys
set m x xs ys e q = subst (λ v. Marked m v ys) (sym e) (q, refl)

pub of_mark : (m : Mark) (xs ys : List Laid) → MarkText m xs ys → Marked m xs ys
unfolding mark_of kind_mark word_mark symbol_mark foreign_mark
of_mark marks.Name xs ys h = set marks.Name _ xs ys h.1.1 refl
of_mark marks.Dashes xs ys h = set marks.Dashes _ xs ys h.1 refl
of_mark marks.Equals xs ys h = set marks.Equals _ xs ys h.1 refl
of_mark marks.Comma xs ys h = set marks.Comma _ xs ys h.1 refl
of_mark marks.OpenParenthesis xs ys h = set marks.OpenParenthesis _ xs ys h.1 refl
of_mark marks.CloseParenthesis xs ys h = set marks.CloseParenthesis _ xs ys h.1 refl
of_mark marks.Underscore xs ys h = set marks.Underscore _ xs ys h.1 refl
of_mark marks.Defined xs ys h = set marks.Defined _ xs ys h.1 refl
of_mark marks.Heading xs ys h = set marks.Heading _ xs ys h.1 refl
of_mark marks.Extends xs ys h = set marks.Extends _ xs ys h.1 refl
of_mark marks.Variables xs ys (inl h) = set marks.Variables _ xs ys h.1 refl
of_mark marks.Variables xs ys (inr h) = set marks.Variables _ xs ys h.1 refl
of_mark marks.Constants xs ys (inl h) = set marks.Constants _ xs ys h.1 refl
of_mark marks.Constants xs ys (inr h) = set marks.Constants _ xs ys h.1 refl
of_mark marks.Recursive xs ys h = set marks.Recursive _ xs ys h.1 refl
of_mark marks.Assume xs ys (inl h) = set marks.Assume _ xs ys h.1 refl
of_mark marks.Assume xs ys (inr (inl h)) = set marks.Assume _ xs ys h.1 refl
of_mark marks.Assume xs ys (inr (inr h)) = set marks.Assume _ xs ys h.1 refl
of_mark marks.Theorem xs ys (inl (inl h)) = set marks.Theorem _ xs ys h.1 refl
of_mark marks.Theorem xs ys (inl (inr h)) = set marks.Theorem _ xs ys h.1 refl
of_mark marks.Theorem xs ys (inr (inl h)) = set marks.Theorem _ xs ys h.1 refl
of_mark marks.Theorem xs ys (inr (inr h)) = set marks.Theorem _ xs ys h.1 refl
of_mark marks.Instance xs ys h = set marks.Instance _ xs ys h.1 refl
of_mark marks.With xs ys h = set marks.With _ xs ys h.1 refl
of_mark marks.Arrow xs ys h = set marks.Arrow _ xs ys h.1 refl

-- ---- names

more_listed : (k : ℕ) (xs ws vs us ys : List Laid) → Marked marks.Name xs ws → Marked marks.Comma ws vs → Marked marks.Name vs us → Others k us ys → Listed xs ys
more_listed k xs ws vs us ys a c b o = (ws, a, (suc k, (vs, c, (us, b, o))))

pub listed_from : (ns : List (List ℕ)) (xs ys : List Laid) → NamesText ns xs ys → Listed xs ys
listed_from [] xs ys h = absurd h
listed_from (n ∷ []) xs ys h = (ys, of_mark marks.Name xs ys (n, h), (zero, refl))
listed_from (n ∷ m ∷ ns) xs ys h =
    let r = listed_from (m ∷ ns) h.2.0 ys h.2.2 in
    more_listed r.2.0 xs h.0 h.2.0 r.0 ys (of_mark marks.Name xs h.0 (n, h.1)) (of_mark marks.Comma h.0 h.2.0 h.2.1) r.1 r.2.1

pub declared_from : (ds : List Declared) (xs ys : List Laid) → DeclaredNamesText ds xs ys → Listed xs ys
declared_from [] xs ys h = absurd h
declared_from (d ∷ []) xs ys h = (ys, of_mark marks.Name xs ys (d.name, (d.at, h)), (zero, refl))
declared_from (d ∷ e ∷ ds) xs ys h =
    let r = declared_from (e ∷ ds) h.2.0 ys h.2.2 in
    more_listed r.2.0 xs h.0 h.2.0 r.0 ys (of_mark marks.Name xs h.0 (d.name, (d.at, h.1))) (of_mark marks.Comma h.0 h.2.0 h.2.1) r.1 r.2.1

extends_from : (ns : List (List ℕ)) (xs ys : List Laid) → ExtendsText ns xs ys → Extended xs ys
extends_from [] xs ys h = inl h
extends_from (n ∷ ns) xs ys h = inr (h.0, of_mark marks.Extends xs h.0 h.1, listed_from (n ∷ ns) h.0 ys h.2)

-- ---- operators

one_more_before : (R : Span) (xs ws vs ys : List Laid) → R xs ws → Marked marks.Comma ws vs → ListOf R vs ys → ListOf R xs ys
one_more_before R xs ws vs ys a c r = (ws, a, (suc r.2.0, (vs, c, (r.0, r.1, r.2.1))))

pub places_from : (n : ℕ) (xs ys : List Laid) → PlacesText n xs ys → Places xs ys
places_from zero xs ys h = absurd h
places_from (suc zero) xs ys h = (ys, of_mark marks.Underscore xs ys h, (zero, refl))
places_from (suc (suc n)) xs ys h =
    one_more_before (Marked marks.Underscore) xs h.0 h.2.0 ys (of_mark marks.Underscore xs h.0 h.1) (of_mark marks.Comma h.0 h.2.0 h.2.1) (places_from (suc n) h.2.0 ys h.2.2)

parameters_from : (n : ℕ) (xs ys : List Laid) → MaybePlaces n xs ys → Parameters xs ys
parameters_from zero xs ys h = inl h
parameters_from (suc n) xs ys h = inr (h.0, of_mark marks.OpenParenthesis xs h.0 h.1, (h.2.0, places_from (suc n) h.0 h.2.0 h.2.1, of_mark marks.CloseParenthesis h.2.0 ys h.2.2))

operator_from : (d : DeclaredOperator) (xs ys : List Laid) → DeclaredOperatorText d xs ys → OneOperator xs ys
operator_from d xs ys h = (h.0, of_mark marks.Name xs h.0 (d.name, (d.at, h.1)), parameters_from d.parameters h.0 ys h.2)

pub operators_from : (ds : List DeclaredOperator) (xs ys : List Laid) → DeclaredOperatorsText ds xs ys → Operators xs ys
operators_from [] xs ys h = absurd h
operators_from (d ∷ []) xs ys h = (ys, operator_from d xs ys h, (zero, refl))
operators_from (d ∷ e ∷ ds) xs ys h = one_more_before OneOperator xs h.0 h.2.0 ys (operator_from d xs h.0 h.1) (of_mark marks.Comma h.0 h.2.0 h.2.1) (operators_from (e ∷ ds) h.2.0 ys h.2.2)

-- ---- units

unit_from : (m : Mark) (fit : Bool) (xs ws ys : List Laid) → Marked m xs ws → ((x : Laid) → Behind fit (Some m) x ws ys) → UnitPart fit xs ys
unit_from m fit [] ws ys h b = absurd h
unit_from m fit (x ∷ xs) ws ys h b = subst (λ o. Behind fit o x xs ys) (sym h.0) (subst (λ v. Behind fit (Some m) x v ys) (sym h.1) (b x))

fits_defined : (fit : Bool) (d : UnitDefinition) → UnitFitsIf fit (units.Define d) → FitsIf fit d.body
fits_defined true d h = h
fits_defined false d h = tt

fits_assumed : (fit : Bool) (e : Tree) → UnitFitsIf fit (units.Assume e) → FitsIf fit e
fits_assumed true e h = h
fits_assumed false e h = tt

some_from : (fit : Bool) (xs ys : List Laid) → some_by fit xs ys → Expression fit xs ys
some_from true xs ys h = (h.0, h.1.text, h.1.fits)
some_from false xs ys h = (h.0, h.1, tt)

title_from : (xs ys : List Laid) → MaybeTitle xs ys → either nothing Title xs ys
title_from xs ys (inl q) = inl q
title_from xs ys (inr h) = inr (h.1.0, of_mark marks.Name xs h.1.0 (h.0, h.1.1), of_mark marks.Defined h.1.0 ys h.1.2)

passed_from : (fit : Bool) (xs ys : List Laid) → UnitTextBy (some_by fit) units.Passed xs ys → UnitPart fit xs ys
passed_from fit xs ys (inl h) = unit_from marks.Dashes fit xs ys ys (of_mark marks.Dashes xs ys h) (λ x. refl)
passed_from fit xs ys (inr h) = unit_from marks.Theorem fit xs h.0 ys (of_mark marks.Theorem xs h.0 h.1) (λ x. (h.2.0, title_from h.0 h.2.0 h.2.1, some_from fit h.2.0 ys h.2.2))

-- ---- instances

withs_fit : (fit : Bool) (m : Made) → UnitFitsIf fit (units.Instance m) → WithsFitIf fit m.withs
withs_fit true m h = h
withs_fit false m h = tt

first_given : (fit : Bool) (w : With) (ws : List With) → WithsFitIf fit (w ∷ ws) → FitsIf fit w.by
first_given true w ws h = h.0
first_given false w ws h = tt

others_given : (fit : Bool) (w : With) (ws : List With) → WithsFitIf fit (w ∷ ws) → WithsFitIf fit ws
others_given true w ws h = h.1
others_given false w ws h = tt

given_from : (fit : Bool) (before : List (List ℕ)) (w : With) (xs ys : List Laid) → WithText before w xs ys → FitsIf fit w.by → Given fit before w.name xs ys
given_from fit before w xs ys h f = (h.0, (h.1.0, (w.at, h.1.1), (h.1.2.0, of_mark marks.Arrow h.1.0 h.1.2.0 h.1.2.1, (w.by, h.1.2.2, f))))

more_from : (ws : List With) (fit : Bool) (before : List (List ℕ)) (xs ys : List Laid) → MoreWithsText before ws xs ys → WithsFitIf fit ws → SomeMoreGiven fit before xs ys
more_from [] fit before xs ys h f = (zero, h)
more_from (w ∷ ws) fit before xs ys h f =
    let given = h.2 in
    let r = more_from ws fit (before ++ w.name ∷ []) given.0 ys given.2 (others_given fit w ws f) in
    (suc r.0, (h.0, of_mark marks.Comma xs h.0 h.1, (w.name, (given.0, given_from fit before w h.0 given.0 given.1 (first_given fit w ws f), r.1))))

maybe_from : (ws : List With) (fit : Bool) (xs ys : List Laid) → WithsText ws xs ys → WithsFitIf fit ws → MaybeGiven fit xs ys
maybe_from [] fit xs ys h f = inl h
maybe_from (w ∷ ws) fit xs ys h f =
    let given = h.2 in
    inr (h.0, of_mark marks.With xs h.0 h.1, (w.name, (given.0, given_from fit [] w h.0 given.0 given.1 (first_given fit w ws f), more_from ws fit (w.name ∷ []) given.0 ys given.2 (others_given fit w ws f))))

part_from : (u : ModuleUnit) (fit : Bool) (xs ys : List Laid) → UnitTextBy (some_by fit) u xs ys → UnitFitsIf fit u → UnitPart fit xs ys
part_from (units.Variables ds) fit xs ys h f = unit_from marks.Variables fit xs h.0 ys (of_mark marks.Variables xs h.0 h.1) (λ x. declared_from ds h.0 ys h.2)
part_from (units.Constants ds) fit xs ys h f = unit_from marks.Constants fit xs h.0 ys (of_mark marks.Constants xs h.0 h.1) (λ x. declared_from ds h.0 ys h.2)
part_from (units.Recursive ds) fit xs ys h f = unit_from marks.Recursive fit xs h.0 ys (of_mark marks.Recursive xs h.0 h.1) (λ x. operators_from ds h.0 ys h.2)
part_from (units.Define d) fit xs ys h f = definition_part fit xs ys (d.name, d.at, d.params, d.form, d.body, h, fits_defined fit d f)
part_from (units.Instance m) fit xs ys h f =
    let second = h.2 in
    let third = second.2 in
    let fourth = third.2 in
    instance_part fit xs ys (h.0, of_mark marks.Name xs h.0 (m.name, (m.at, h.1)), (second.0, of_mark marks.Defined h.0 second.0 second.1, (third.0, of_mark marks.Instance second.0 third.0 third.1, (fourth.0, of_mark marks.Name third.0 fourth.0 (m.module_name, fourth.1), maybe_from m.withs fit fourth.0 ys fourth.2 (withs_fit fit m f)))))
part_from (units.Assume e) fit xs ys h f = unit_from marks.Assume fit xs h.0 ys (of_mark marks.Assume xs h.0 h.1) (λ x. (h.2.0, title_from h.0 h.2.0 h.2.1, (e, h.2.2, fits_assumed fit e f)))
part_from units.Passed fit xs ys h f = passed_from fit xs ys h

first_fits : (fit : Bool) (u : ModuleUnit) (us : List ModuleUnit) → UnitsFitIf fit (u ∷ us) → UnitFitsIf fit u
first_fits true u us h = h.0
first_fits false u us h = tt

others_fit : (fit : Bool) (u : ModuleUnit) (us : List ModuleUnit) → UnitsFitIf fit (u ∷ us) → UnitsFitIf fit us
others_fit true u us h = h.1
others_fit false u us h = tt

tail_from : (us : List ModuleUnit) (fit : Bool) (xs ys : List Laid) → UnitsTextBy (some_by fit) us xs ys → UnitsFitIf fit us → Last fit ys → Tail fit xs
tail_from [] fit xs ys h f l = (zero, subst (Last fit) (sym h) l)
tail_from (u ∷ us) fit xs ys h f l =
    let r = tail_from us fit h.0 ys h.2 (others_fit fit u us f) l in
    (suc r.0, (h.0, part_from u fit xs h.0 h.1 (first_fits fit u us f), r.1))

-- ---- modules

pub whole_from : (fit : Bool) (m : Module) (l : List Laid) → ModuleTextBy (some_by fit) m l [] → UnitsFitIf fit m.units → Whole fit l
whole_from fit m l h f =
    let heading = h.2 in
    let called = heading.2 in
    let second = called.2 in
    let extended = second.2 in
    let read = extended.2 in
    let equals = read.2 in
    (h.0, of_mark marks.Dashes l h.0 h.1, (heading.0, of_mark marks.Heading h.0 heading.0 heading.1, (called.0, of_mark marks.Name heading.0 called.0 (m.name, (m.at, called.1)), (second.0, of_mark marks.Dashes called.0 second.0 second.1, (extended.0, extends_from m.extends second.0 extended.0 extended.1, tail_from m.units fit extended.0 read.0 read.1 f (equals.0, of_mark marks.Equals read.0 equals.0 equals.1, equals.2))))))
