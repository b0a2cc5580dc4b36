-- Items of a list that is copied item by item are smaller than the list.
use Rattle.std.proofs.Common.{◌≡◌, ◌∙◌, sym, ap, List, [], ◌∷◌, length, drop, ◌<◌, ◌≤◌, arith}
use Rattle.std.proofs.lemmas.List.{at_drop_more}
use Rattle.std.specs.Prelude.{ℕ, ◌+◌, suc, get_or}
use Rattle.names_terms.specs.Terms as term
use Rattle.names_terms.specs.Terms.{Term, Terms, Operands, Steps, Bounds, Fields, Changes, Arms}
use Rattle.names_terms.specs.TermSizes.{term_size, terms_size, operands_size, step_size, steps_size, bounds_size, fields_size, changes_size, arms_size}
use Rattle.names_terms.specs.TermViews.{step_view, terms_from, operands_from, steps_from, bounds_from, fields_from, changes_from, arms_from}
use Rattle.names_terms.specs.declared.term.Arm.{Arm}
use Rattle.names_terms.specs.declared.term.Bound.{Bound}
use Rattle.names_terms.specs.declared.term.Change.{Change}
use Rattle.names_terms.specs.declared.term.Field.{Field}
use Rattle.names_terms.specs.declared.term.Operand.{Operand}
use Rattle.names_terms.specs.declared.term.Step.{Step as StepItem}
use Rattle.names_terms.specs.declared.term.Step.TheVariants as step
use Rattle.names_terms.specs.declared.term.Arms.TheDeep.{deep-Step}
use Rattle.names_terms.specs.declared.term.StepAt.{StepAt}

terms_grow : (ts : Terms) (xs : List Term) → terms_size ts ≤ terms_size (terms_from ts xs)
terms_grow ts [] = omega arith
terms_grow ts (x ∷ xs) = omega (arith, terms_grow (term.MoreTerms ts x) xs)

pub term_below : (ts whole : Terms) (xs : List Term) (i : ℕ) (x : Term) → i < length xs → x ≡ get_or xs i x → terms_from ts (drop i xs) ≡ whole → term_size x < terms_size whole
term_below ts whole xs i x lt is left =
    let same : term_size x ≡ term_size (get_or xs i x) = ap (λ (z : Term). term_size z) is in
    let rest : Terms = terms_from (term.MoreTerms ts (get_or xs i x)) (drop (i + 1) xs) in
    let grown : terms_size (term.MoreTerms ts (get_or xs i x)) ≤ terms_size rest = terms_grow (term.MoreTerms ts (get_or xs i x)) (drop (i + 1) xs) in
    let all : terms_size rest ≡ terms_size whole = ap terms_size (sym (at_drop_more (terms_from ts) xs i x lt) ∙ left) in
    omega (arith, same, grown, all)

operands_grow : (ts : Operands) (xs : List Operand) → operands_size ts ≤ operands_size (operands_from ts xs)
operands_grow ts [] = omega arith
operands_grow ts (x ∷ xs) = omega (arith, operands_grow (term.Next ts x.at x.value) xs)

pub operand_below : (ts whole : Operands) (xs : List Operand) (i : ℕ) (x : Operand) → i < length xs → x ≡ get_or xs i x → operands_from ts (drop i xs) ≡ whole → term_size x.value < operands_size whole
operand_below ts whole xs i x lt is left =
    let same : term_size x.value ≡ term_size (get_or xs i x).value = ap (λ (z : Operand). term_size z.value) is in
    let rest : Operands = operands_from (term.Next ts (get_or xs i x).at (get_or xs i x).value) (drop (i + 1) xs) in
    let grown : operands_size (term.Next ts (get_or xs i x).at (get_or xs i x).value) ≤ operands_size rest = operands_grow (term.Next ts (get_or xs i x).at (get_or xs i x).value) (drop (i + 1) xs) in
    let all : operands_size rest ≡ operands_size whole = ap operands_size (sym (at_drop_more (operands_from ts) xs i x lt) ∙ left) in
    omega (arith, same, grown, all)

steps_grow : (ts : Steps) (xs : List StepAt) → steps_size ts ≤ steps_size (steps_from ts xs)
steps_grow ts [] = omega arith
steps_grow ts (x ∷ xs) = omega (arith, steps_grow (term.MoreSteps ts x.at (step_view x.step)) xs)

pub step_below : (ts whole : Steps) (xs : List StepAt) (i : ℕ) (x : StepAt) → i < length xs → x ≡ get_or xs i x → steps_from ts (drop i xs) ≡ whole → step_size (step_view x.step) < steps_size whole
step_below ts whole xs i x lt is left =
    let same : step_size (step_view x.step) ≡ step_size (step_view (get_or xs i x).step) = ap (λ (z : StepAt). step_size (step_view z.step)) is in
    let rest : Steps = steps_from (term.MoreSteps ts (get_or xs i x).at (step_view (get_or xs i x).step)) (drop (i + 1) xs) in
    let grown : steps_size (term.MoreSteps ts (get_or xs i x).at (step_view (get_or xs i x).step)) ≤ steps_size rest = steps_grow (term.MoreSteps ts (get_or xs i x).at (step_view (get_or xs i x).step)) (drop (i + 1) xs) in
    let all : steps_size rest ≡ steps_size whole = ap steps_size (sym (at_drop_more (steps_from ts) xs i x lt) ∙ left) in
    omega (arith, same, grown, all)

bounds_grow : (ts : Bounds) (xs : List Bound) → bounds_size ts ≤ bounds_size (bounds_from ts xs)
bounds_grow ts [] = omega arith
bounds_grow ts (x ∷ xs) = omega (arith, bounds_grow (term.MoreBounds ts x.names x.set) xs)

pub set_below : (ts whole : Bounds) (xs : List Bound) (i : ℕ) (x : Bound) → i < length xs → x ≡ get_or xs i x → bounds_from ts (drop i xs) ≡ whole → term_size x.set < bounds_size whole
set_below ts whole xs i x lt is left =
    let same : term_size x.set ≡ term_size (get_or xs i x).set = ap (λ (z : Bound). term_size z.set) is in
    let rest : Bounds = bounds_from (term.MoreBounds ts (get_or xs i x).names (get_or xs i x).set) (drop (i + 1) xs) in
    let grown : bounds_size (term.MoreBounds ts (get_or xs i x).names (get_or xs i x).set) ≤ bounds_size rest = bounds_grow (term.MoreBounds ts (get_or xs i x).names (get_or xs i x).set) (drop (i + 1) xs) in
    let all : bounds_size rest ≡ bounds_size whole = ap bounds_size (sym (at_drop_more (bounds_from ts) xs i x lt) ∙ left) in
    omega (arith, same, grown, all)

fields_grow : (ts : Fields) (xs : List Field) → fields_size ts ≤ fields_size (fields_from ts xs)
fields_grow ts [] = omega arith
fields_grow ts (x ∷ xs) = omega (arith, fields_grow (term.MoreFields ts x.name x.value) xs)

pub field_below : (ts whole : Fields) (xs : List Field) (i : ℕ) (x : Field) → i < length xs → x ≡ get_or xs i x → fields_from ts (drop i xs) ≡ whole → term_size x.value < fields_size whole
field_below ts whole xs i x lt is left =
    let same : term_size x.value ≡ term_size (get_or xs i x).value = ap (λ (z : Field). term_size z.value) is in
    let rest : Fields = fields_from (term.MoreFields ts (get_or xs i x).name (get_or xs i x).value) (drop (i + 1) xs) in
    let grown : fields_size (term.MoreFields ts (get_or xs i x).name (get_or xs i x).value) ≤ fields_size rest = fields_grow (term.MoreFields ts (get_or xs i x).name (get_or xs i x).value) (drop (i + 1) xs) in
    let all : fields_size rest ≡ fields_size whole = ap fields_size (sym (at_drop_more (fields_from ts) xs i x lt) ∙ left) in
    omega (arith, same, grown, all)

changes_grow : (ts : Changes) (xs : List Change) → changes_size ts ≤ changes_size (changes_from ts xs)
changes_grow ts [] = omega arith
changes_grow ts (x ∷ xs) = omega (arith, changes_grow (term.MoreChanges ts x.path x.value) xs)

pub path_below : (ts whole : Changes) (xs : List Change) (i : ℕ) (x : Change) → i < length xs → x ≡ get_or xs i x → changes_from ts (drop i xs) ≡ whole → steps_size x.path < changes_size whole
path_below ts whole xs i x lt is left =
    let same : steps_size x.path ≡ steps_size (get_or xs i x).path = ap (λ (z : Change). steps_size z.path) is in
    let rest : Changes = changes_from (term.MoreChanges ts (get_or xs i x).path (get_or xs i x).value) (drop (i + 1) xs) in
    let grown : changes_size (term.MoreChanges ts (get_or xs i x).path (get_or xs i x).value) ≤ changes_size rest = changes_grow (term.MoreChanges ts (get_or xs i x).path (get_or xs i x).value) (drop (i + 1) xs) in
    let all : changes_size rest ≡ changes_size whole = ap changes_size (sym (at_drop_more (changes_from ts) xs i x lt) ∙ left) in
    omega (arith, same, grown, all)

pub change_below : (ts whole : Changes) (xs : List Change) (i : ℕ) (x : Change) → i < length xs → x ≡ get_or xs i x → changes_from ts (drop i xs) ≡ whole → term_size x.value < changes_size whole
change_below ts whole xs i x lt is left =
    let same : term_size x.value ≡ term_size (get_or xs i x).value = ap (λ (z : Change). term_size z.value) is in
    let rest : Changes = changes_from (term.MoreChanges ts (get_or xs i x).path (get_or xs i x).value) (drop (i + 1) xs) in
    let grown : changes_size (term.MoreChanges ts (get_or xs i x).path (get_or xs i x).value) ≤ changes_size rest = changes_grow (term.MoreChanges ts (get_or xs i x).path (get_or xs i x).value) (drop (i + 1) xs) in
    let all : changes_size rest ≡ changes_size whole = ap changes_size (sym (at_drop_more (changes_from ts) xs i x lt) ∙ left) in
    omega (arith, same, grown, all)

arms_grow : (ts : Arms) (xs : List Arm) → arms_size ts ≤ arms_size (arms_from ts xs)
arms_grow ts [] = omega arith
arms_grow ts (x ∷ xs) = omega (arith, arms_grow (term.MoreArms ts x.test x.value) xs)

pub test_below : (ts whole : Arms) (xs : List Arm) (i : ℕ) (x : Arm) → i < length xs → x ≡ get_or xs i x → arms_from ts (drop i xs) ≡ whole → term_size x.test < arms_size whole
test_below ts whole xs i x lt is left =
    let same : term_size x.test ≡ term_size (get_or xs i x).test = ap (λ (z : Arm). term_size z.test) is in
    let rest : Arms = arms_from (term.MoreArms ts (get_or xs i x).test (get_or xs i x).value) (drop (i + 1) xs) in
    let grown : arms_size (term.MoreArms ts (get_or xs i x).test (get_or xs i x).value) ≤ arms_size rest = arms_grow (term.MoreArms ts (get_or xs i x).test (get_or xs i x).value) (drop (i + 1) xs) in
    let all : arms_size rest ≡ arms_size whole = ap arms_size (sym (at_drop_more (arms_from ts) xs i x lt) ∙ left) in
    omega (arith, same, grown, all)

pub arm_below : (ts whole : Arms) (xs : List Arm) (i : ℕ) (x : Arm) → i < length xs → x ≡ get_or xs i x → arms_from ts (drop i xs) ≡ whole → term_size x.value < arms_size whole
arm_below ts whole xs i x lt is left =
    let same : term_size x.value ≡ term_size (get_or xs i x).value = ap (λ (z : Arm). term_size z.value) is in
    let rest : Arms = arms_from (term.MoreArms ts (get_or xs i x).test (get_or xs i x).value) (drop (i + 1) xs) in
    let grown : arms_size (term.MoreArms ts (get_or xs i x).test (get_or xs i x).value) ≤ arms_size rest = arms_grow (term.MoreArms ts (get_or xs i x).test (get_or xs i x).value) (drop (i + 1) xs) in
    let all : arms_size rest ≡ arms_size whole = ap arms_size (sym (at_drop_more (arms_from ts) xs i x lt) ∙ left) in
    omega (arith, same, grown, all)

pub first_below : (first : Term) (xs : List Operand) (whole : Operands) → operands_from (term.First first) xs ≡ whole → term_size first < operands_size whole
first_below first xs whole e =
    let all : operands_size (operands_from (term.First first) xs) ≡ operands_size whole = ap operands_size e in
    omega (arith, operands_grow (term.First first) xs, all)

pub step_falls : (s : StepItem) → deep-Step s ≤ suc (step_size (step_view s))
step_falls step.Prime = omega arith
step_falls (step.Index es) = omega arith
step_falls (step.Field h) = omega arith
