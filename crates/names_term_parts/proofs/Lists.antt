-- Lists of parts, item by item.
use Rattle.std.proofs.Common.{◌≡◌, ◌∙◌, sym, ap, refl, List, [], ◌∷◌, ◌++◌, length, take, ◌<◌, ◌≤◌, arith, append_assoc, add-one, get_or}
use Rattle.std.proofs.lemmas.List.{append-nil, map-append}
use Rattle.std.proofs.lemmas.List.Sums.{fold-append}
use Rattle.std.specs.Prelude.{ℕ, zero, suc, ◌+◌, ◌||◌, Bool, Option, Result, Ok, Err, OnOk, Contains, Some, slice_get, ◌-◌, map}
use Rattle.base_core.specs.declared.place.Place.{Place}
use Rattle.reading_trees.specs.declared.operators.InfixOperator.{InfixOperator}
use Rattle.names_terms.specs.declared.level.Level.{Level}
use Rattle.names_terms.specs.declared.level.Level.TheVariants.{Action}
use Rattle.names_terms.specs.declared.term.Arm.{Arm}
use Rattle.names_terms.specs.declared.term.Bound.{Bound}
use Rattle.names_terms.specs.declared.term.Change.{Change}
use Rattle.names_terms.specs.declared.term.Field.{Field}
use Rattle.names_terms.specs.declared.term.Operand.{Operand}
use Rattle.names_terms.specs.declared.term.StepAt.{StepAt}
use Rattle.names_terms.specs.Terms as term
use Rattle.names_terms.specs.Terms.{Term, Terms, Operands, Steps, Bounds, Fields, Changes, Arms, Meaning, Step, level_of}
use Rattle.names_terms.specs.Levels.{joined, of_terms, of_steps}
use Rattle.names_terms.specs.TermViews.{step_view, terms_from, terms_of, operands_from, operands_of, steps_from, steps_of, bounds_from, bounds_of, fields_from, fields_of, changes_from, changes_of, arms_from, arms_of}
use Rattle.names_term_parts.specs.Limits.{Limit, limit, no_temporal, operand_limits, infix_allows, term_limits, set_limits, value_limits, index_limits, path_limits, step_limits, steps_limits, change_limits}
use Rattle.names_term_parts.specs.Parts.{Part, part, parts_of, operand_list, listed, set_list, value_list, arm_list, is_prime, has_prime, step_parts, steps_parts, change_parts}
use Rattle.names_term_parts.specs.declared.fault.LevelFault.{LevelFault}
use Rattle.names_term_parts.specs.FaultOrder.{held, held_all}
use Rattle.names_term_parts.specs.Chains.{first_place, other_limits}
use Rattle.names_term_parts.specs.Waiting.{part_of, waiting}
use Rattle.names_term_parts.specs.declared.pending.Pending.{Pending}
use Rattle.std.proofs.Math.Seq.{take-length}

taken_suc : {A : Type 0} (xs : List A) (i : ℕ) (x : A) → i < length xs → x ≡ get_or xs i x → take (suc i) xs ≡ take i xs ++ x ∷ []
taken_suc [] i x lt e = absurd (omega arith)
taken_suc (y ∷ xs) zero x lt e = ap (λ z. z ∷ []) (sym e)
taken_suc (y ∷ xs) (suc i) x lt e = ap (λ zs. y ∷ zs) (taken_suc xs i x (omega arith) e)

-- one item more
pub taken : {A : Type 0} (xs : List A) (i : ℕ) (x : A) → i < length xs → x ≡ get_or xs i x → take (i + 1) xs ≡ take i xs ++ x ∷ []
taken xs i x lt e = rw add-one (taken_suc xs i x lt e)

terms_pushed : (ts : Terms) (xs : List Term) (x : Term) → terms_from ts (xs ++ x ∷ []) ≡ term.MoreTerms (terms_from ts xs) x
terms_pushed ts [] x = refl
terms_pushed ts (y ∷ xs) x = terms_pushed (term.MoreTerms ts y) xs x

steps_pushed : (ts : Steps) (xs : List StepAt) (x : StepAt) → steps_from ts (xs ++ x ∷ []) ≡ term.MoreSteps (steps_from ts xs) x.at (step_view x.step)
steps_pushed ts [] x = refl
steps_pushed ts (y ∷ xs) x = steps_pushed (term.MoreSteps ts y.at (step_view y.step)) xs x

bounds_pushed : (ts : Bounds) (xs : List Bound) (x : Bound) → bounds_from ts (xs ++ x ∷ []) ≡ term.MoreBounds (bounds_from ts xs) x.names x.set
bounds_pushed ts [] x = refl
bounds_pushed ts (y ∷ xs) x = bounds_pushed (term.MoreBounds ts y.names y.set) xs x

fields_pushed : (ts : Fields) (xs : List Field) (x : Field) → fields_from ts (xs ++ x ∷ []) ≡ term.MoreFields (fields_from ts xs) x.name x.value
fields_pushed ts [] x = refl
fields_pushed ts (y ∷ xs) x = fields_pushed (term.MoreFields ts y.name y.value) xs x

changes_pushed : (ts : Changes) (xs : List Change) (x : Change) → changes_from ts (xs ++ x ∷ []) ≡ term.MoreChanges (changes_from ts xs) x.path x.value
changes_pushed ts [] x = refl
changes_pushed ts (y ∷ xs) x = changes_pushed (term.MoreChanges ts y.path y.value) xs x

arms_pushed : (ts : Arms) (xs : List Arm) (x : Arm) → arms_from ts (xs ++ x ∷ []) ≡ term.MoreArms (arms_from ts xs) x.test x.value
arms_pushed ts [] x = refl
arms_pushed ts (y ∷ xs) x = arms_pushed (term.MoreArms ts y.test y.value) xs x

pub terms_next : (xs : List Term) (i : ℕ) (x : Term) → i < length xs → x ≡ get_or xs i x → terms_of (take (i + 1) xs) ≡ term.MoreTerms (terms_of (take i xs)) x
terms_next xs i x lt e = ap terms_of (taken xs i x lt e) ∙ terms_pushed term.NoTerms (take i xs) x

pub steps_next : (xs : List StepAt) (i : ℕ) (x : StepAt) → i < length xs → x ≡ get_or xs i x → steps_of (take (i + 1) xs) ≡ term.MoreSteps (steps_of (take i xs)) x.at (step_view x.step)
steps_next xs i x lt e = ap steps_of (taken xs i x lt e) ∙ steps_pushed term.NoSteps (take i xs) x

pub bounds_next : (xs : List Bound) (i : ℕ) (x : Bound) → i < length xs → x ≡ get_or xs i x → bounds_of (take (i + 1) xs) ≡ term.MoreBounds (bounds_of (take i xs)) x.names x.set
bounds_next xs i x lt e = ap bounds_of (taken xs i x lt e) ∙ bounds_pushed term.NoBounds (take i xs) x

pub fields_next : (xs : List Field) (i : ℕ) (x : Field) → i < length xs → x ≡ get_or xs i x → fields_of (take (i + 1) xs) ≡ term.MoreFields (fields_of (take i xs)) x.name x.value
fields_next xs i x lt e = ap fields_of (taken xs i x lt e) ∙ fields_pushed term.NoFields (take i xs) x

pub changes_next : (xs : List Change) (i : ℕ) (x : Change) → i < length xs → x ≡ get_or xs i x → changes_of (take (i + 1) xs) ≡ term.MoreChanges (changes_of (take i xs)) x.path x.value
changes_next xs i x lt e = ap changes_of (taken xs i x lt e) ∙ changes_pushed term.NoChanges (take i xs) x

pub arms_next : (xs : List Arm) (i : ℕ) (x : Arm) → i < length xs → x ≡ get_or xs i x → arms_of (take (i + 1) xs) ≡ term.MoreArms (arms_of (take i xs)) x.test x.value
arms_next xs i x lt e = ap arms_of (taken xs i x lt e) ∙ arms_pushed term.NoArms (take i xs) x

pub parts_of-append : (b : Bool) (xs ys : List Term) → parts_of b (xs ++ ys) ≡ parts_of b xs ++ parts_of b ys
parts_of-append b [] ys = refl
parts_of-append b (x ∷ xs) ys = ap (λ zs. part b x ∷ zs) (parts_of-append b xs ys)

-- What is on a stack behind one item more: those before, and its own.
pub stacked : {A : Type 0} (now new start before own whole : List A) → new ≡ now ++ own → now ≡ start ++ before → whole ≡ before ++ own → new ≡ start ++ whole
stacked now new start before own whole pushed invariant cut = pushed ∙ ap (λ xs. xs ++ own) invariant ∙ append_assoc start before own ∙ ap (λ xs. start ++ xs) (sym cut)

operands_listed_from : (b : Bool) (os : Operands) (xs : List Operand) → parts_of b (operand_list (operands_from os xs)) ≡ parts_of b (operand_list os) ++ parts_of b (map (λ x. x.value) xs)
operands_listed_from b os [] = sym (append-nil (parts_of b (operand_list os)))
operands_listed_from b os (x ∷ xs) =
    operands_listed_from b (term.Next os x.at x.value) xs ∙ ap (λ ys. ys ++ parts_of b (map (λ x. x.value) xs)) (parts_of-append b (operand_list os) (x.value ∷ [])) ∙ append_assoc (parts_of b (operand_list os)) (part b x.value ∷ []) (parts_of b (map (λ x. x.value) xs))

-- the operands of a chain, the first and the others
pub operands_listed : (b : Bool) (e : Term) (xs : List Operand) (os : Operands) → operands_of e xs ≡ os → parts_of b (operand_list os) ≡ part b e ∷ parts_of b (map (λ x. x.value) xs)
operands_listed b e xs os q = ap (λ y. parts_of b (operand_list y)) (sym q) ∙ operands_listed_from b (term.First e) xs

operands_held_from : (at : Place) (o : InfixOperator) (os : Operands) (xs : List Operand) → operand_limits at o (operands_from os xs) ≡ operand_limits (first_place at xs) o os ++ other_limits (infix_allows o) xs
operands_held_from at o os [] = sym (append-nil (operand_limits at o os))
operands_held_from at o os (x ∷ xs) = operands_held_from at o (term.Next os x.at x.value) xs ∙ append_assoc (operand_limits x.at o os) (limit x.at (infix_allows o) (level_of x.value) ∷ []) (other_limits (infix_allows o) xs)

-- the limits of a chain's operands, the first at the first operator
pub operands_held : (at : Place) (o : InfixOperator) (e : Term) (xs : List Operand) (os : Operands) → operands_of e xs ≡ os → operand_limits at o os ≡ limit (first_place at xs) (infix_allows o) (level_of e) ∷ other_limits (infix_allows o) xs
operands_held at o e xs os q = ap (λ y. operand_limits at o y) (sym q) ∙ operands_held_from at o (term.First e) xs

-- What is found behind one item more.
pub held_on : (now start : Option LevelFault) (before own whole : List Limit) → now ≡ held_all start before → whole ≡ before ++ own → held_all now own ≡ held_all start whole
held_on now start before own whole invariant cut = ap (λ f. held_all f own) invariant ∙ sym (fold-append held start before own) ∙ ap (λ xs. held_all start xs) (sym cut)

-- One item more of each kind of list.
pub terms_more : (b : Bool) (xs : List Term) (i : ℕ) (x : Term) → i < length xs → x ≡ get_or xs i x → parts_of b (listed (terms_of (take (i + 1) xs))) ≡ parts_of b (listed (terms_of (take i xs))) ++ part b x ∷ []
terms_more b xs i x lt e = ap (λ ts. parts_of b (listed ts)) (terms_next xs i x lt e) ∙ parts_of-append b (listed (terms_of (take i xs))) (x ∷ [])

pub sets_more : (b : Bool) (xs : List Bound) (i : ℕ) (x : Bound) → i < length xs → x ≡ get_or xs i x → parts_of b (set_list (bounds_of (take (i + 1) xs))) ≡ parts_of b (set_list (bounds_of (take i xs))) ++ part b x.set ∷ []
sets_more b xs i x lt e = ap (λ ts. parts_of b (set_list ts)) (bounds_next xs i x lt e) ∙ parts_of-append b (set_list (bounds_of (take i xs))) (x.set ∷ [])

pub values_more : (b : Bool) (xs : List Field) (i : ℕ) (x : Field) → i < length xs → x ≡ get_or xs i x → parts_of b (value_list (fields_of (take (i + 1) xs))) ≡ parts_of b (value_list (fields_of (take i xs))) ++ part b x.value ∷ []
values_more b xs i x lt e = ap (λ ts. parts_of b (value_list ts)) (fields_next xs i x lt e) ∙ parts_of-append b (value_list (fields_of (take i xs))) (x.value ∷ [])

pub arms_more : (b : Bool) (xs : List Arm) (i : ℕ) (x : Arm) → i < length xs → x ≡ get_or xs i x → parts_of b (arm_list (arms_of (take (i + 1) xs))) ≡ parts_of b (arm_list (arms_of (take i xs))) ++ part b x.test ∷ part b x.value ∷ []
arms_more b xs i x lt e = ap (λ ts. parts_of b (arm_list ts)) (arms_next xs i x lt e) ∙ parts_of-append b (arm_list (arms_of (take i xs))) (x.test ∷ x.value ∷ [])

pub changes_more : (b : Bool) (xs : List Change) (i : ℕ) (x : Change) → i < length xs → x ≡ get_or xs i x → change_parts b (changes_of (take (i + 1) xs)) ≡ change_parts b (changes_of (take i xs)) ++ (steps_parts b x.path ++ part b x.value ∷ [])
changes_more b xs i x lt e = ap (change_parts b) (changes_next xs i x lt e) ∙ append_assoc (change_parts b (changes_of (take i xs))) (steps_parts b x.path) (part b x.value ∷ [])

pub terms_held : (at : Place) (xs : List Term) (i : ℕ) (x : Term) → i < length xs → x ≡ get_or xs i x → term_limits at (terms_of (take (i + 1) xs)) ≡ term_limits at (terms_of (take i xs)) ++ no_temporal at x ∷ []
terms_held at xs i x lt e = ap (term_limits at) (terms_next xs i x lt e)

pub sets_held : (at : Place) (xs : List Bound) (i : ℕ) (x : Bound) → i < length xs → x ≡ get_or xs i x → set_limits at (bounds_of (take (i + 1) xs)) ≡ set_limits at (bounds_of (take i xs)) ++ no_temporal at x.set ∷ []
sets_held at xs i x lt e = ap (set_limits at) (bounds_next xs i x lt e)

pub values_held : (at : Place) (xs : List Field) (i : ℕ) (x : Field) → i < length xs → x ≡ get_or xs i x → value_limits at (fields_of (take (i + 1) xs)) ≡ value_limits at (fields_of (take i xs)) ++ no_temporal at x.value ∷ []
values_held at xs i x lt e = ap (value_limits at) (fields_next xs i x lt e)

pub path_held : (at : Place) (xs : List StepAt) (i : ℕ) (x : StepAt) → i < length xs → x ≡ get_or xs i x → path_limits at (steps_of (take (i + 1) xs)) ≡ path_limits at (steps_of (take i xs)) ++ index_limits at (step_view x.step)
path_held at xs i x lt e = ap (path_limits at) (steps_next xs i x lt e)

pub steps_held : (l : Level) (xs : List StepAt) (i : ℕ) (x : StepAt) → i < length xs → x ≡ get_or xs i x → steps_limits l (steps_of (take (i + 1) xs)) ≡ steps_limits l (steps_of (take i xs)) ++ step_limits x.at (of_steps l (steps_of (take i xs))) (step_view x.step)
steps_held l xs i x lt e = ap (steps_limits l) (steps_next xs i x lt e)

pub changes_held : (at : Place) (xs : List Change) (i : ℕ) (x : Change) → i < length xs → x ≡ get_or xs i x → change_limits at (changes_of (take (i + 1) xs)) ≡ change_limits at (changes_of (take i xs)) ++ (path_limits at x.path ++ no_temporal at x.value ∷ [])
changes_held at xs i x lt e = ap (change_limits at) (changes_next xs i x lt e) ∙ append_assoc (change_limits at (changes_of (take i xs))) (path_limits at x.path) (no_temporal at x.value ∷ [])

-- a term that is seen, and its level
pub seen_level : (at : Place) (l : Level) (m : Meaning) (e : Term) → term.Placed at l m ≡ e → l ≡ level_of e
seen_level at l m e q = ap level_of q

pub held_part : (now next : Option LevelFault) (at : Place) (l : Level) (e : Term) → next ≡ held now (limit at Action l) → l ≡ level_of e → next ≡ held_all now (no_temporal at e ∷ [])
held_part now next at l e h q = h ∙ ap (λ k. held now (limit at Action k)) q

-- the steps before the last that is left
pub steps_less : (b : Bool) (xs : List StepAt) (i : ℕ) (x : StepAt) → i < length xs → x ≡ get_or xs i x → steps_parts b (steps_of (take (i + 1) xs)) ≡ step_parts b (step_view x.step) ++ steps_parts (b || is_prime (step_view x.step)) (steps_of (take i xs))
steps_less b xs i x lt e = ap (steps_parts b) (steps_next xs i x lt e)

pub steps_on : (now new start own left whole : List Part) → new ≡ now ++ own → now ++ (own ++ left) ≡ start ++ whole → new ++ left ≡ start ++ whole
steps_on now new start own left whole pushed invariant = ap (λ xs. xs ++ left) pushed ∙ append_assoc now own left ∙ invariant

pub prime_more : (xs : List StepAt) (i : ℕ) (x : StepAt) → i < length xs → x ≡ get_or xs i x → has_prime (steps_of (take (i + 1) xs)) ≡ (has_prime (steps_of (take i xs)) || is_prime (step_view x.step))
prime_more xs i x lt e = ap has_prime (steps_next xs i x lt e)

-- what is found in the operands of a chain
pub operands_checked : (found mid r : Option LevelFault) (at p : Place) (o : InfixOperator) (allowed l : Level) (e : Term) (xs : List Operand) (os : Operands) → operands_of e xs ≡ os → p ≡ first_place at xs → allowed ≡ infix_allows o → l ≡ level_of e → mid ≡ held found (limit p allowed l) → r ≡ held_all mid (other_limits allowed xs) → r ≡ held_all found (operand_limits at o os)
operands_checked found mid r at p o allowed l e xs os q qp qa ql first rest =
    rest ∙ ap (λ a. held_all mid (other_limits a xs)) qa ∙ ap (λ f. held_all f (other_limits (infix_allows o) xs)) (first ∙ ap (λ y. held found (limit y allowed l)) qp ∙ ap (λ y. held found (limit (first_place at xs) y l)) qa ∙ ap (λ y. held found (limit (first_place at xs) (infix_allows o) y)) ql) ∙ ap (held_all found) (sym (operands_held at o e xs os q))

pub ok_mapped : {A E : Type 0} (r : Result A E) (P Q : Type 0) → (P → Q) → OnOk r P → OnOk r Q
ok_mapped (Ok x) P Q f h = f h
ok_mapped (Err e) P Q f h = tt

pub levels_more : (xs : List Term) (i : ℕ) (x : Term) (l k : Level) → i < length xs → x ≡ get_or xs i x → l ≡ of_terms (terms_of (take i xs)) → k ≡ joined l (level_of x) → k ≡ of_terms (terms_of (take (i + 1) xs))
levels_more xs i x l k lt e h j = j ∙ ap (λ y. joined y (level_of x)) h ∙ ap of_terms (sym (terms_next xs i x lt e))

-- the terms in one step less
pub left_on : (now new start whole : List Part) (b c p : Bool) (xs : List StepAt) (n : ℕ) (r : StepAt) → 0 < n → n ≤ length xs → r ≡ get_or xs (n - 1) r → new ≡ now ++ step_parts b (step_view (get_or xs (n - 1) r).step) → p ≡ is_prime (step_view (get_or xs (n - 1) r).step) → c ≡ (b || p) → now ++ steps_parts b (steps_of (take n xs)) ≡ start ++ whole → new ++ steps_parts c (steps_of (take (n - 1) xs)) ≡ start ++ whole
left_on now new start whole b c p xs n r some within is pushed prime under invariant =
    let k : n ≡ (n - 1) + 1 = omega arith in
    let lt : n - 1 < length xs = omega arith in
    let own : Step → List Part = step_parts b in
    let before : Steps = steps_of (take (n - 1) xs) in
    let same_step : step_view r.step ≡ step_view (get_or xs (n - 1) r).step = ap (λ z. step_view z.step) is in
    let flag : (b || is_prime (step_view r.step)) ≡ c = ap (λ z. b || is_prime z) same_step ∙ ap (λ z. b || z) (sym prime) ∙ sym under in
    let cut : steps_parts b (steps_of (take n xs)) ≡ step_parts b (step_view (get_or xs (n - 1) r).step) ++ steps_parts c (steps_of (take (n - 1) xs)) =
    ap (λ i. steps_parts b (steps_of (take i xs))) k ∙ steps_less b xs (n - 1) r lt is ∙ ap (λ z. step_parts b z ++ steps_parts (b || is_prime (step_view r.step)) (steps_of (take (n - 1) xs))) same_step ∙ ap (λ z. step_parts b (step_view (get_or xs (n - 1) r).step) ++ steps_parts z (steps_of (take (n - 1) xs))) flag in
    steps_on now new start (step_parts b (step_view (get_or xs (n - 1) r).step)) (steps_parts c (steps_of (take (n - 1) xs))) whole pushed (ap (λ ps. now ++ ps) (sym cut) ∙ invariant)

pub left_all : (xs : List StepAt) (b : Bool) (n : ℕ) → n ≡ length xs → steps_parts b (steps_of (take n xs)) ≡ steps_parts b (steps_of xs)
left_all xs b n q = ap (λ i. steps_parts b (steps_of (take i xs))) q ∙ ap (λ ys. steps_parts b (steps_of ys)) (take-length xs)

-- an item of a list
pub item_at : {A : Type 0} (xs : List A) (k : ℕ) (d : A) → k < length xs → slice_get xs k ≡ Some (get_or xs k d)
item_at [] k d lt = absurd (omega arith)
item_at (x ∷ xs) zero d lt = refl
item_at (x ∷ xs) (suc k) d lt = item_at xs k d (omega arith)

pub some_item : {A : Type 0} (xs : List A) (k : ℕ) → k < length xs → (x : A) × (slice_get xs k ≡ Some x)
some_item [] k lt = absurd (omega arith)
some_item (x ∷ xs) zero lt = (x, refl)
some_item (x ∷ xs) (suc k) lt = some_item xs k (omega arith)

pub item_in : {A : Type 0} (xs : List A) (k : ℕ) (x : A) → slice_get xs k ≡ Some x → Contains xs x
item_in [] k x q = absurd (cc)
item_in (y ∷ xs) zero x q = (zero, (omega arith), cc)
item_in (y ∷ xs) (suc k) x q = let c : Contains xs x = item_in xs k x q in (suc c.0, (omega arith), c.2)

pub item_within : {A : Type 0} (xs : List A) (k : ℕ) (x : A) → slice_get xs k ≡ Some x → k < length xs
item_within [] k x q = absurd (cc)
item_within (y ∷ xs) zero x q = omega arith
item_within (y ∷ xs) (suc k) x q = omega (arith, item_within xs k x q)

pub item_more : {A : Type 0} (xs : List A) (k : ℕ) (x : A) → slice_get xs k ≡ Some x → take (k + 1) xs ≡ take k xs ++ x ∷ []
item_more xs k x q = taken xs k x (item_within xs k x q) (some_same (sym q ∙ item_at xs k x (item_within xs k x q)))
  where
    some_same : {A : Type 0} {a b : A} → Some a ≡ Some b → a ≡ b
    some_same e = cc

-- the parts on a stack whose top was taken
pub waiting-push : (ps : List Pending) (p : Pending) → waiting (ps ++ p ∷ []) ≡ waiting ps ++ part p.primed p.term.now ∷ []
waiting-push ps p = map-append part_of ps (p ∷ [])
