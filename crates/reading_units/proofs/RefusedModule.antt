-- What is refused in the rest of a module that is the whole of it, is refused as a module.
use Rattle.std.proofs.Common.{◌≡◌, ◌⊎◌, true, false, List, [], ◌∷◌, ◌++◌, append_assoc, Some, inl, inr, refl, ap, subst, ◌∙◌}
use Rattle.base_core.specs.declared.place.Place.{Place}
use Rattle.reading_trees.specs.declared.laid.Laid.{Laid}
use Rattle.reading_trees.specs.Begun.{BegunModule, FittingBegunModule}
use Rattle.reading_trees.specs.Grammar.{either}
use Rattle.reading_trees.specs.Modules.{assume_word, theorem_word}
use Rattle.reading_machine.specs.Beginnings.{FittingBegunDefinition}
use Rattle.reading_expressions.specs.Nesting.{ShallowDefinition}
use Rattle.reading_expressions.specs.Refusals.{IsTooNested}
use Rattle.reading_units.specs.Marks.{mark_of}
use Rattle.reading_expressions.specs.declared.fault.ParseFault.{ParseFault}
use Rattle.reading_expressions.specs.declared.fault.ParseFault.TheVariants.{Expected, Conflict, TooNested, OutOfProfile, NoMemory}
use Rattle.reading_units.specs.Refusals.{CanNotFollow, ShallowModule, WholeUnits, TooNestedStated, TooNestedGiven, TooNestedUnit, IsRefusedModule}
use Rattle.reading_units.specs.Reads.{Stops, IsStopped, RefusedIn, BegunBy, DeepStated, DeepUnit, DeepUnits}
use Rattle.reading_units.specs.Rests.{Tail, Whole}
use Rattle.reading_units.specs.declared.marks.Mark.TheVariants as marks
use Rattle.reading_units.proofs.Leading.{meets_on}
use Rattle.reading_units.proofs.Official.{module_of, marked_text, title_of}
use Rattle.reading_units.proofs.OfficialBack.{whole_from}
use Rattle.reading_units.proofs.TailSteps.{some_tail, last_tokens}

begun_module : (l : List Laid) → BegunBy Whole false l → BegunModule l
begun_module l b = let m = module_of false (l ++ b.0) b.1 in record { read_as = m.0; rest = b.0; text = m.1 }

fitting_module : (l : List Laid) → BegunBy Whole true l → FittingBegunModule l
fitting_module l b = let m = module_of true (l ++ b.0) b.1 in record { read_as = m.0; rest = b.0; spelled = record { text = m.1; fits = m.2 } }

not_begun : (read : List Laid) (x : Laid) → ((more : List Laid) → Whole false (read ++ x ∷ more) → ⊥) → BegunModule (read ++ x ∷ []) → ⊥
not_begun read x none b = none b.rest (subst (Whole false) (append_assoc read (x ∷ []) b.rest) (whole_from false b.read_as ((read ++ x ∷ []) ++ b.rest) b.text tt))

not_fitting : (read : List Laid) (x : Laid) → ((more : List Laid) → Whole true (read ++ x ∷ more) → ⊥) → FittingBegunModule (read ++ x ∷ []) → ⊥
not_fitting read x none b = none b.rest (subst (Whole true) (append_assoc read (x ∷ []) b.rest) (whole_from true b.read_as ((read ++ x ∷ []) ++ b.rest) b.spelled.text b.spelled.fits))

stopped_module : (l : List Laid) (e : ParseFault) → IsStopped Whole ShallowModule l e → CanNotFollow l e
stopped_module l e s =
    let t : Stops Whole ShallowModule l s.1 s.0 = s.2 in
    record { read = t.read; here = s.0; rest = s.1; whole = t.whole; begun = begun_module t.read t.begun; fits = fitting_module t.read t.fits; there = not_begun t.read s.0 t.there; shallow = t.held; refusal = s.3 }

stated_by : (word : Laid) (title : List Laid) → (mark_of word ≡ Some marks.Assume) ⊎ (mark_of word ≡ Some marks.Theorem) → either assume_word theorem_word (word ∷ title) title
stated_by word title (inl e) = inl (marked_text marks.Assume (word ∷ title) title (e, refl))
stated_by word title (inr e) = inr (marked_text marks.Theorem (word ∷ title) title (e, refl))

deep_stated : (xs : List Laid) (p : Place) → DeepStated xs p → TooNestedStated xs p
deep_stated xs p d = record {
  before = d.word ∷ d.deep.title;
  body = d.deep.body;
  whole = d.whole ∙ ap (λ v. d.word ∷ v) d.deep.whole;
  stated = (d.deep.title, stated_by d.word d.deep.title d.is_word, title_of d.deep.title [] d.deep.titled);
  deep = d.deep.deep;
}

whole_units : (before : List Laid) → ((zs : List Laid) → Tail true zs → Whole true (before ++ zs)) → WholeUnits before
whole_units before units =
    let m = module_of true (before ++ last_tokens) (units last_tokens (some_tail true)) in
    record { read_as = m.0; equals = _; ends = _; spelled = record { text = m.1; fits = m.2 } }

deep_in : (xs : List Laid) (p : Place) → DeepUnit xs p → IsTooNested FittingBegunDefinition ShallowDefinition xs p ⊎ (TooNestedStated xs p ⊎ TooNestedGiven xs p)
deep_in xs p (inl d) = inl d
deep_in xs p (inr (inl d)) = inr (inl (deep_stated xs p d))
deep_in xs p (inr (inr d)) = inr (inr d)

deep_unit : (xs : List Laid) (p : Place) → DeepUnits Whole ShallowModule xs p → TooNestedUnit xs p
deep_unit xs p d = record {
  before = d.before;
  body = d.body;
  whole = d.whole;
  units = whole_units d.before d.units;
  shallow = d.shallow;
  deep = deep_in d.body p d.deep;
}

pub refused_module : (l : List Laid) (e : ParseFault) → RefusedIn Whole (DeepUnits Whole ShallowModule l) ShallowModule l e → IsRefusedModule l e
refused_module l (Expected p) r = stopped_module l (Expected p) r
refused_module l (OutOfProfile f p) r = stopped_module l (OutOfProfile f p) r
refused_module l (Conflict p q) r = record {
  read = r.read;
  here = r.here;
  rest = r.rest;
  whole = r.whole;
  begun = begun_module (r.read ++ r.here ∷ []) r.begun;
  fits = fitting_module r.read r.fits;
  none = not_fitting r.read r.here r.none;
  shallow = r.held;
  places = meets_on (BegunBy Whole false) BegunModule [] r.read r.here p q begun_module r.places;
}
refused_module l (TooNested p) r = deep_unit l p r
refused_module l NoMemory r = tt
