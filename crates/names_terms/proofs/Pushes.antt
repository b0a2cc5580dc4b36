-- A list of terms with one more item at its end.
use Rattle.std.proofs.Common.{◌≡◌, false, List, [], ◌∷◌, ◌++◌, length, refl, sym, ◌∙◌, arith}
use Rattle.std.specs.Prelude.{◌==◌}
use Rattle.std.proofs.lemmas.Bool.Decides.{nat_tests}
use Rattle.names_terms.specs.Terms as term
use Rattle.names_terms.specs.Terms.{Term, Terms, Operands, Steps, Bounds, Fields, Changes, Arms}
use Rattle.names_terms.specs.TermViews.{are_none, steps_are_none, step_view, terms_of, steps_of, terms_from, operands_from, steps_from, bounds_from, fields_from, changes_from, arms_from}
use Rattle.names_terms.specs.declared.term.StepAt.{StepAt}
use Rattle.names_terms.specs.declared.term.Operand.{Operand}
use Rattle.names_terms.specs.declared.term.Bound.{Bound}
use Rattle.names_terms.specs.declared.term.Field.{Field}
use Rattle.names_terms.specs.declared.term.Change.{Change}
use Rattle.names_terms.specs.declared.term.Arm.{Arm}

pub terms_pushed : (ts : Terms) (xs : List Term) (x : Term) → terms_from ts (xs ++ x ∷ []) ≡ term.MoreTerms (terms_from ts xs) x
terms_pushed ts [] x = refl
terms_pushed ts (y ∷ xs) x = terms_pushed (term.MoreTerms ts y) xs x

pub operands_pushed : (ts : Operands) (xs : List Operand) (x : Operand) → operands_from ts (xs ++ x ∷ []) ≡ term.Next (operands_from ts xs) x.at x.value
operands_pushed ts [] x = refl
operands_pushed ts (y ∷ xs) x = operands_pushed (term.Next ts y.at y.value) xs x

pub steps_pushed : (ts : Steps) (xs : List StepAt) (x : StepAt) → steps_from ts (xs ++ x ∷ []) ≡ term.MoreSteps (steps_from ts xs) x.at (step_view x.step)
steps_pushed ts [] x = refl
steps_pushed ts (y ∷ xs) x = steps_pushed (term.MoreSteps ts y.at (step_view y.step)) xs x

pub bounds_pushed : (ts : Bounds) (xs : List Bound) (x : Bound) → bounds_from ts (xs ++ x ∷ []) ≡ term.MoreBounds (bounds_from ts xs) x.names x.set
bounds_pushed ts [] x = refl
bounds_pushed ts (y ∷ xs) x = bounds_pushed (term.MoreBounds ts y.names y.set) xs x

pub fields_pushed : (ts : Fields) (xs : List Field) (x : Field) → fields_from ts (xs ++ x ∷ []) ≡ term.MoreFields (fields_from ts xs) x.name x.value
fields_pushed ts [] x = refl
fields_pushed ts (y ∷ xs) x = fields_pushed (term.MoreFields ts y.name y.value) xs x

pub changes_pushed : (ts : Changes) (xs : List Change) (x : Change) → changes_from ts (xs ++ x ∷ []) ≡ term.MoreChanges (changes_from ts xs) x.path x.value
changes_pushed ts [] x = refl
changes_pushed ts (y ∷ xs) x = changes_pushed (term.MoreChanges ts y.path y.value) xs x

pub arms_pushed : (ts : Arms) (xs : List Arm) (x : Arm) → arms_from ts (xs ++ x ∷ []) ≡ term.MoreArms (arms_from ts xs) x.test x.value
arms_pushed ts [] x = refl
arms_pushed ts (y ∷ xs) x = arms_pushed (term.MoreArms ts y.test y.value) xs x

not_none : {A : Type 0} (x : A) (xs : List A) → (length (x ∷ xs) == 0) ≡ false
not_none x xs = grind (arith, nat_tests)

-- what goes on from some tree has one
more_terms : (ts : Terms) (t : Term) (xs : List Term) → are_none (terms_from (term.MoreTerms ts t) xs) ≡ false
more_terms ts t [] = refl
more_terms ts t (x ∷ xs) = more_terms (term.MoreTerms ts t) x xs

pub none_of_terms : (xs : List Term) → (length xs == 0) ≡ are_none (terms_of xs)
none_of_terms [] = refl
none_of_terms (x ∷ xs) = not_none x xs ∙ sym (more_terms term.NoTerms x xs)

more_steps : (ts : Steps) (y : StepAt) (xs : List StepAt) → steps_are_none (steps_from (term.MoreSteps ts y.at (step_view y.step)) xs) ≡ false
more_steps ts y [] = refl
more_steps ts y (x ∷ xs) = more_steps (term.MoreSteps ts y.at (step_view y.step)) x xs

pub none_of_steps : (xs : List StepAt) → (length xs == 0) ≡ steps_are_none (steps_of xs)
none_of_steps [] = refl
none_of_steps (x ∷ xs) = not_none x xs ∙ sym (more_steps term.NoSteps x xs)
