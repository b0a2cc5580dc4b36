-- Units in the rest of a module: how far each goes, and why one is refused.
use Rattle.std.proofs.Common.{◌≡◌, ℕ, ◌+◌, ◌<◌, ◌≤◌, true, false, List, [], ◌∷◌, drop, length, Option, Some, Result, Ok, Err, inl, inr, ap, subst, ◌∙◌, arith, length-append}
use Rattle.std.proofs.lemmas.List.{append-nil, drop-append-le}
use Rattle.std.specs.Result.{IfErr}
use Rattle.base_core.specs.declared.place.Place.{Place}
use Rattle.reading_trees.specs.declared.laid.Laid.{Laid}
use Rattle.reading_trees.specs.declared.laid.Laid.TheVariants.{Plain}
use Rattle.reading_trees.specs.declared.expr.Definition.{Definition as UnitDefinition}
use Rattle.reading_trees.specs.Begun.{Begun}
use Rattle.reading_trees.specs.Fits.{Fits, Spells}
use Rattle.reading_trees.specs.Modules.{LaidEndsOnce}
use Rattle.reading_trees.specs.Trees.{Tree}
use Rattle.reading_machine.specs.Beginnings.{FittingBegun, DefinitionText, BegunDefinition, FittingBegunDefinition}
use Rattle.reading_machine.specs.LawsOfExtents.{LocalText, NoneFollows, NoMarkInside, LocalDefinition, NoneFollowsDefinition, NoMarkInsideDefinition}
use Rattle.reading_machine.specs.LawsOfRefusals.{EndsThere}
use Rattle.reading_expressions.specs.Nesting.{Shallow, ShallowDefinition}
use Rattle.reading_expressions.specs.Refusals.{GoesAsFar, IsRefused}
use Rattle.reading_expressions.specs.Unended.{EndedText, EndedDefinition, IsUnended}
use Rattle.reading_expressions.specs.declared.fault.ParseFault.{ParseFault}
use Rattle.reading_expressions.specs.Refused.{IsRefusedAt}
use Rattle.reading_units.specs.Marks.{first_mark}
use Rattle.reading_units.specs.Reads.{Leads, ReadsTitle, RefusedIn, NeverDeep, DeepExpression, DeepDefinition, DeepTitled, DeepStated, DeepUnit, DeepUnits, ShallowTitled}
use Rattle.reading_units.specs.Refusals.{Begins, ShallowUnit, ShallowUnits, ShallowWholeUnits}
use Rattle.reading_units.specs.Rests.{◌▹◌, Then, Marked, Listed, Operators, Titled, Expression, Definition, NoInstance, NamePart, Last, Tail}
use Rattle.reading_units.specs.declared.marks.Mark.{Mark}
use Rattle.reading_units.specs.declared.marks.Mark.TheVariants as marks
use Rattle.reading_units.proofs.Extents.{LastIsEnd, Local, Passed, passed, part_refused}
use Rattle.reading_units.proofs.InstanceTokens.{NoBoth, definition_leads, definition_refused}
use Rattle.reading_units.proofs.Leading.{leads_on, refused_on, stay}
use Rattle.reading_units.proofs.Official.{marked_text}
use Rattle.reading_units.proofs.ShallowRead.{shallow_nothing, shallow_declared, shallow_recursive, shallow_stated, shallow_units}
use Rattle.reading_units.proofs.TailSteps.{NoUnit, tail_ending, tail_variables, tail_constants, tail_recursive, tail_assume, tail_theorem, tail_name, tail_last, some_tail, last_tokens, unit_refused}
use Rattle.reading_units.proofs.TextKinds.{expression_kind, expression_open, definition_kind, definition_open, none_titled}
use Rattle.reading_units.proofs.Titles.{titled_passed, titled_refused}

-- ---- declarations

pub variables_far : (xs ws ys : List Laid) → Marked marks.Variables xs ws → Leads (Listed ▹ Tail) Tail ws ys → Leads Tail Tail xs ys
variables_far xs ws ys t h = leads_on Tail (Listed ▹ Tail) Tail xs ws ys (tail_variables xs ws t) h

pub variables_refused : (xs ws : List Laid) (e : ParseFault) → Marked marks.Variables xs ws → RefusedIn (Listed ▹ Tail) NeverDeep (Begins Listed) ws e → RefusedIn Tail (DeepUnit xs) ShallowUnit xs e
variables_refused xs ws e t r =
    let there : Leads Tail (Listed ▹ Tail) xs ws = tail_variables xs ws t in
    refused_on Tail (Listed ▹ Tail) (DeepUnit xs) NeverDeep ShallowUnit (Begins Listed) xs ws e there (λ p d. absurd d) (shallow_declared xs ws there.text (inl (marked_text marks.Variables xs ws t)) there.whole) r

pub constants_far : (xs ws ys : List Laid) → Marked marks.Constants xs ws → Leads (Listed ▹ Tail) Tail ws ys → Leads Tail Tail xs ys
constants_far xs ws ys t h = leads_on Tail (Listed ▹ Tail) Tail xs ws ys (tail_constants xs ws t) h

pub constants_refused : (xs ws : List Laid) (e : ParseFault) → Marked marks.Constants xs ws → RefusedIn (Listed ▹ Tail) NeverDeep (Begins Listed) ws e → RefusedIn Tail (DeepUnit xs) ShallowUnit xs e
constants_refused xs ws e t r =
    let there : Leads Tail (Listed ▹ Tail) xs ws = tail_constants xs ws t in
    refused_on Tail (Listed ▹ Tail) (DeepUnit xs) NeverDeep ShallowUnit (Begins Listed) xs ws e there (λ p d. absurd d) (shallow_declared xs ws there.text (inr (marked_text marks.Constants xs ws t)) there.whole) r

pub recursive_far : (xs ws ys : List Laid) → Marked marks.Recursive xs ws → Leads (Operators ▹ Tail) Tail ws ys → Leads Tail Tail xs ys
recursive_far xs ws ys t h = leads_on Tail (Operators ▹ Tail) Tail xs ws ys (tail_recursive xs ws t) h

pub recursive_refused : (xs ws : List Laid) (e : ParseFault) → Marked marks.Recursive xs ws → RefusedIn (Operators ▹ Tail) NeverDeep (Begins Operators) ws e → RefusedIn Tail (DeepUnit xs) ShallowUnit xs e
recursive_refused xs ws e t r =
    let there : Leads Tail (Operators ▹ Tail) xs ws = tail_recursive xs ws t in
    refused_on Tail (Operators ▹ Tail) (DeepUnit xs) NeverDeep ShallowUnit (Begins Operators) xs ws e there (λ p d. absurd d) (shallow_recursive xs ws there.text (marked_text marks.Recursive xs ws t) there.whole) r

-- ---- the last token

pub last_of : (laid : List Laid) (i : ℕ) → LaidEndsOnce laid → i < length laid → LastIsEnd (drop i laid)
last_of laid i ends inside =
    let long : length laid ≡ length ends.before + 1 = ap length ends.whole ∙ length-append ends.before (Plain ends.last ∷ []) in
    let within : i ≤ length ends.before = omega (arith, inside, long) in
    record { before = drop i ends.before; last = ends.last; whole = ap (λ v. drop i v) ends.whole ∙ drop-append-le i ends.before (Plain ends.last ∷ []) within; is_last = ends.is_last }

-- ---- what is assumed and stated

-- the laws of expressions that are used
pub record Laws : Type 0 where
  pub local : LocalText
  pub none_follows : NoneFollows
  pub no_mark : NoMarkInside
  pub ends_there : EndsThere

expression_passed : Laws → (e : Tree) (laid : List Laid) (from behind : ℕ) → Spells e (drop from laid) (drop behind laid) → GoesAsFar Begun FittingBegun Shallow laid from behind → Passed Expression Tail (drop from laid) (drop behind laid)
expression_passed k e laid from behind s g = passed Expression Begun FittingBegun (expression_kind k.local k.none_follows k.no_mark) Tail tail_ending (drop from laid) (drop behind laid) g.1 g.0 Shallow (e, s.text, s.fits) g.2 g.3

titled_far : Laws → (e : Tree) (laid : List Laid) (ws : List Laid) (start behind : ℕ) → ReadsTitle ws (drop start laid) → Spells e (drop start laid) (drop behind laid) → GoesAsFar Begun FittingBegun Shallow laid start behind → Leads (Then Titled Tail) Tail ws (drop behind laid)
titled_far k e laid ws start behind t s g = titled_passed (none_titled k.local k.none_follows k.ends_there) ws (drop start laid) (drop behind laid) t (expression_passed k e laid start behind s g)

titled_stops : Laws → (laid : List Laid) (ws : List Laid) (start : ℕ) (e : ParseFault) → LaidEndsOnce laid → start < length laid → ReadsTitle ws (drop start laid) → IsRefused Begun FittingBegun Shallow (drop start laid) e → IsUnended EndedText (drop start laid) e → RefusedIn (Then Titled Tail) (DeepTitled ws) ShallowTitled ws e
titled_stops k laid ws start e ends inside t r u =
    let there : RefusedIn (Then Expression Tail) (DeepExpression (drop start laid)) Shallow (drop start laid) e = part_refused Expression Begun FittingBegun (expression_kind k.local k.none_follows k.no_mark) Tail tail_ending last_tokens (some_tail false) (some_tail true) Shallow (drop start laid) e (last_of laid start ends inside) (expression_open (drop start laid) e u) r in
    titled_refused (none_titled k.local k.none_follows k.ends_there) ws (drop start laid) e t there

pub assumed_far : Laws → (e : Tree) (laid xs ws : List Laid) (start behind : ℕ) → Marked marks.Assume xs ws → ReadsTitle ws (drop start laid) → Spells e (drop start laid) (drop behind laid) → GoesAsFar Begun FittingBegun Shallow laid start behind → Leads Tail Tail xs (drop behind laid)
assumed_far k e laid xs ws start behind m t s g = leads_on Tail (Then Titled Tail) Tail xs ws (drop behind laid) (tail_assume xs ws m) (titled_far k e laid ws start behind t s g)

pub stated_far : Laws → (e : Tree) (laid xs ws : List Laid) (start behind : ℕ) → Marked marks.Theorem xs ws → ReadsTitle ws (drop start laid) → Spells e (drop start laid) (drop behind laid) → GoesAsFar Begun FittingBegun Shallow laid start behind → Leads Tail Tail xs (drop behind laid)
stated_far k e laid xs ws start behind m t s g = leads_on Tail (Then Titled Tail) Tail xs ws (drop behind laid) (tail_theorem xs ws m) (titled_far k e laid ws start behind t s g)

deep_assumed : (xs ws : List Laid) (p : Place) → Marked marks.Assume xs ws → DeepTitled ws p → DeepStated xs p
deep_assumed [] ws p m d = absurd m
deep_assumed (x ∷ xs) ws p m d = record { word = x; behind = ws; whole = ap (λ v. x ∷ v) m.1; is_word = inl m.0; deep = d }

deep_stated : (xs ws : List Laid) (p : Place) → Marked marks.Theorem xs ws → DeepTitled ws p → DeepStated xs p
deep_stated [] ws p m d = absurd m
deep_stated (x ∷ xs) ws p m d = record { word = x; behind = ws; whole = ap (λ v. x ∷ v) m.1; is_word = inr m.0; deep = d }

pub assumed_refused : Laws → (laid xs ws : List Laid) (start : ℕ) (e : ParseFault) → LaidEndsOnce laid → start < length laid → Marked marks.Assume xs ws → ReadsTitle ws (drop start laid) → IsRefused Begun FittingBegun Shallow (drop start laid) e × IsUnended EndedText (drop start laid) e → RefusedIn Tail (DeepUnit xs) ShallowUnit xs e
assumed_refused k laid xs ws start e ends inside m t r =
    let there : Leads Tail (Then Titled Tail) xs ws = tail_assume xs ws m in
    refused_on Tail (Then Titled Tail) (DeepUnit xs) (DeepTitled ws) ShallowUnit ShallowTitled xs ws e there (λ p d. inr (inl (deep_assumed xs ws p m d))) (shallow_stated xs ws there.text (inl (marked_text marks.Assume xs ws m)) there.whole) (titled_stops k laid ws start e ends inside t r.0 r.1)

pub stated_refused : Laws → (laid xs ws : List Laid) (start : ℕ) (e : ParseFault) → LaidEndsOnce laid → start < length laid → Marked marks.Theorem xs ws → ReadsTitle ws (drop start laid) → IsRefused Begun FittingBegun Shallow (drop start laid) e × IsUnended EndedText (drop start laid) e → RefusedIn Tail (DeepUnit xs) ShallowUnit xs e
stated_refused k laid xs ws start e ends inside m t r =
    let there : Leads Tail (Then Titled Tail) xs ws = tail_theorem xs ws m in
    refused_on Tail (Then Titled Tail) (DeepUnit xs) (DeepTitled ws) ShallowUnit ShallowTitled xs ws e there (λ p d. inr (inl (deep_stated xs ws p m d))) (shallow_stated xs ws there.text (inr (marked_text marks.Theorem xs ws m)) there.whole) (titled_stops k laid ws start e ends inside t r.0 r.1)

pub err_both : {T : Type 0} (r : Result T ParseFault) (P Q : ParseFault → Type 0) → IfErr r P → IfErr r Q → IfErr r (λ e. P e × Q e)
err_both (Ok x) P Q p q = tt
err_both (Err e) P Q p q = (p, q)

-- ---- definitions

-- the laws of definitions that are used
pub record DefinitionLaws : Type 0 where
  pub local : LocalDefinition
  pub none_follows : NoneFollowsDefinition
  pub no_mark : NoMarkInsideDefinition
  pub none_both : NoBoth

-- the text of a definition, wherever it stands
definition_anywhere : LocalDefinition → (d : UnitDefinition) (xs ys : List Laid) → DefinitionText d.name d.at d.params d.form d.body xs ys → Local (Definition false) xs ys
definition_anywhere local d xs ys s = let l = local d.name d.at d.params d.form d.body xs ys s in record { text = l.0; whole = l.1; anywhere = λ zs. (d.name, d.at, d.params, d.form, d.body, l.2 zs, tt) }

pub defined_far : DefinitionLaws → (d : UnitDefinition) (laid : List Laid) (from behind : ℕ) → first_mark (drop from laid) ≡ Some marks.Name → DefinitionText d.name d.at d.params d.form d.body (drop from laid) (drop behind laid) → Fits d.body → GoesAsFar BegunDefinition FittingBegunDefinition ShallowDefinition laid from behind → Leads Tail Tail (drop from laid) (drop behind laid)
defined_far k d laid from behind m s f g =
    let p = passed Definition BegunDefinition FittingBegunDefinition (definition_kind k.local k.none_follows k.no_mark) Tail tail_ending (drop from laid) (drop behind laid) g.1 g.0 ShallowDefinition (d.name, d.at, d.params, d.form, d.body, s, f) g.2 g.3 in
    let here : Leads (Then NamePart Tail) Tail (drop from laid) (drop behind laid) = definition_leads k.none_both (drop from laid) (drop behind laid) p.0 (definition_anywhere k.local d (drop from laid) (drop behind laid) s) in
    leads_on Tail (Then NamePart Tail) Tail (drop from laid) (drop from laid) (drop behind laid) (tail_name (drop from laid) m) here

pub defined_refused : DefinitionLaws → (laid : List Laid) (from : ℕ) (e : ParseFault) → LaidEndsOnce laid → from < length laid → first_mark (drop from laid) ≡ Some marks.Name → NoInstance (drop from laid) → IsRefused BegunDefinition FittingBegunDefinition ShallowDefinition (drop from laid) e × IsUnended EndedDefinition (drop from laid) e → RefusedIn Tail (DeepUnit (drop from laid)) ShallowUnit (drop from laid) e
defined_refused k laid from e ends inside m not r =
    let there : RefusedIn (Then Definition Tail) (DeepDefinition (drop from laid)) ShallowDefinition (drop from laid) e = part_refused Definition BegunDefinition FittingBegunDefinition (definition_kind k.local k.none_follows k.no_mark) Tail tail_ending last_tokens (some_tail false) (some_tail true) ShallowDefinition (drop from laid) e (last_of laid from ends inside) (definition_open (drop from laid) e r.1) r.0 in
    let named : RefusedIn (Then NamePart Tail) (DeepDefinition (drop from laid)) ShallowDefinition (drop from laid) e = definition_refused ShallowDefinition (drop from laid) e not there in
    let begins : Leads Tail (Then NamePart Tail) (drop from laid) (drop from laid) = tail_name (drop from laid) m in
    refused_on Tail (Then NamePart Tail) (DeepUnit (drop from laid)) (DeepDefinition (drop from laid)) ShallowUnit ShallowDefinition (drop from laid) (drop from laid) e begins (λ p d. inl d) (λ l s. stay ShallowUnit (drop from laid) begins.text begins.whole l (inr (inl s))) named

-- ---- units

pub other_refused : (D : Place → Type 0) (xs : List Laid) (e : ParseFault) (o : Option Mark) → o ≡ first_mark xs → NoUnit o → IsRefusedAt xs e → RefusedIn Tail D ShallowUnit xs e
other_refused D xs e o q n r = unit_refused D ShallowUnit xs e shallow_nothing (subst NoUnit q n) r

pub more_units_far : (xs ys zs : List Laid) → Leads Tail Tail xs ys → Leads Tail Tail ys zs → Leads Tail Tail xs zs
more_units_far xs ys zs h g = leads_on Tail Tail Tail xs ys zs h g

deep_behind : (xs ys : List Laid) (p : Place) → Leads Tail Tail xs ys → ShallowWholeUnits xs ys → DeepUnit ys p → DeepUnits Tail ShallowUnits xs p
deep_behind xs ys p h s d = record {
  before = h.text;
  body = ys;
  whole = h.whole;
  units = h.goes true;
  shallow = subst ShallowUnits (append-nil h.text) (shallow_units xs ys h.text s h.whole [] shallow_nothing);
  deep = d;
}

pub more_units_refused : (xs ys : List Laid) (e : ParseFault) → Leads Tail Tail xs ys → ShallowWholeUnits xs ys → RefusedIn Tail (DeepUnit ys) ShallowUnit ys e → RefusedIn Tail (DeepUnits Tail ShallowUnits xs) ShallowUnits xs e
more_units_refused xs ys e h s r = refused_on Tail Tail (DeepUnits Tail ShallowUnits xs) (DeepUnit ys) ShallowUnits ShallowUnit xs ys e h (λ p d. deep_behind xs ys p h s d) (shallow_units xs ys h.text s h.whole) r

pub units_end_far : (xs ys : List Laid) → Leads Tail Tail xs ys → first_mark ys ≡ Some marks.Equals → Leads Tail Last xs ys
units_end_far xs ys h q = leads_on Tail Tail Last xs ys ys h (tail_last ys q)
