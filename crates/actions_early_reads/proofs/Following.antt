-- What stands behind names, and what is read with steps.
use Rattle.std.proofs.Common.{◌≡◌, ◌∙◌, ap, sym, refl, subst, List, [], ◌∷◌, ◌++◌, map, length, take, get_or, arith, append_assoc}
use Rattle.std.specs.Prelude.{◌<◌, ◌≤◌, ◌+◌, ℕ, zero, suc, Bool, true, min, Option, Some, None, slice_get}
use Rattle.std.specs.List.{AllByRecursion as Each, flat_map}
use Rattle.std.proofs.lemmas.List.{append-nil, map-append}
use Rattle.std.proofs.lemmas.List.Concat.{flat_map-append}
use Rattle.names_terms.specs.declared.level.Level.TheVariants as levels
use Rattle.names_terms.specs.declared.operator.Operator.{Operator}
use Rattle.names_terms.specs.declared.term.StepAt.{StepAt}
use Rattle.names_terms.specs.TermViews.{step_view, steps_from, steps_of}
use Rattle.names_terms.specs.Terms as term
use Rattle.names_terms.specs.Terms.{Term, Placed, Meaning, Terms, Steps}
use Rattle.names_term_parts.specs.Parts.{Part, part}
use Rattle.names_term_parts.specs.Slots.{used}
use Rattle.names_term_parts.specs.Weights.{weight}
use Rattle.names_term_parts.proofs.Lists.{taken}
use Rattle.eval_meanings.specs.Contexts.{Table}
use Rattle.eval_meanings.specs.Unchanged.{behind}
use Rattle.actions_meanings.specs.Reads.{VariableSet, united, reads, read_among, reads_primed, step_terms, path_terms}
use Rattle.actions_meanings.specs.Outcomes.{least, outside}
use Rattle.actions_early_reads.specs.Levels.{StaysBelow}
use Rattle.actions_early_reads.specs.declared.walking.Walk.{Walk}
use Rattle.actions_early_reads.specs.Weight.{weights}
use Rattle.actions_early_reads.specs.Follow.{IsName, IsBehind}
use Rattle.actions_early_reads.specs.Keeping.{Fits, reads_at, TellsAll, TellsReads}
use Rattle.actions_early_reads.specs.Ready.{table_of, TellsUnread}
use Rattle.actions_early_reads.proofs.Within.{below-higher, body-stays, stays-more}
use Rattle.actions_early_reads.proofs.Each.{each-map, each-weaker}
use Rattle.actions_early_reads.proofs.Rows.{paths_more}
use Rattle.actions_early_reads.proofs.Ends.{chosen}
use Rattle.actions_early_reads.proofs.Heights.{weights-fall}
use Rattle.actions_early_reads.proofs.Found.{united-none}

-- STEPS

abbrev pub items_terms : List StepAt → List Term
items_terms xs = flat_map (λ (s : StepAt). step_terms (step_view s.step)) xs

paths_from : (ss : Steps) (xs : List StepAt) → path_terms (steps_from ss xs) ≡ path_terms ss ++ items_terms xs
paths_from ss [] = sym (append-nil (path_terms ss))
paths_from ss (x ∷ xs) =
    paths_from (term.MoreSteps ss x.at (step_view x.step)) xs ∙ ap (λ (es : List Term). es ++ items_terms xs) (paths_more ss x.at (step_view x.step)) ∙ append_assoc (path_terms ss) (step_terms (step_view x.step)) (items_terms xs)

pub path_of_items : (xs : List StepAt) → path_terms (steps_of xs) ≡ items_terms xs
path_of_items xs = paths_from term.NoSteps xs

pub path_next : (b : Bool) (xs : List StepAt) (i : ℕ) (x : StepAt) → i < length xs → x ≡ get_or xs i x → map (part b) (items_terms (take (i + 1) xs)) ≡ map (part b) (items_terms (take i xs)) ++ map (part b) (step_terms (step_view x.step))
path_next b xs i x lt is =
    ap (λ (ys : List StepAt). map (part b) (items_terms ys)) (taken xs i x lt is) ∙ ap (map (part b)) (flat_map-append (λ (s : StepAt). step_terms (step_view s.step)) (take i xs) (x ∷ []) ∙ ap (λ (ys : List Term). items_terms (take i xs) ++ ys) (append-nil (step_terms (step_view x.step)))) ∙ map-append (part b) (items_terms (take i xs)) (step_terms (step_view x.step))

primed-all : (ops : Table) (k : ℕ) (es : List Term) → read_among (λ p. reads ops k true p.term) (map (part true) es) ≡ read_among (reads_at ops k) (map (part true) es)
primed-all ops k [] = refl
primed-all ops k (e ∷ es) = ap (united (reads ops k true e)) (primed-all ops k es)

pub more-fits : (ops : Table) (v n m k : ℕ) (e : Term) → n ≤ m → Fits ops v n k e → Fits ops v m k e
more-fits ops v n m k e le h = record { below = stays-more n m e le h.below; orderly = h.orderly; ends = h.ends }

pub tells-unread : (w : Walk) (bound : ℕ) (B R : VariableSet) (e : Term) (xs : List StepAt) (stack : List Part) (o : Option ℕ) → stack ≡ part true e ∷ map (part true) (items_terms xs) → TellsAll w.reads.items stack R → o ≡ least w.variables (outside B R) → TellsUnread w bound B e (steps_of xs) o
tells-unread w bound B R e xs stack o is tells answer k walked fits =
    let ops : Table = table_of w in
    let le : bound ≤ length w.reads.items = omega (arith, walked.within, walked.ready.whole) in
    let path : List Term = path_terms (steps_of xs) in
    let parts_are : stack ≡ part true e ∷ map (part true) path = is ∙ ap (λ (es : List Term). part true e ∷ map (part true) es) (sym (path_of_items xs)) in
    let inner : Each (λ (f : Term). Fits ops w.variables (length w.reads.items) k f) path = each-weaker (Fits ops w.variables bound k) (Fits ops w.variables (length w.reads.items) k) (λ f h. more-fits ops w.variables bound (length w.reads.items) k f le h) path fits in
    let all : Each (λ (p : Part). Fits ops w.variables (length w.reads.items) k p.term) (part true e ∷ map (part true) path) =
    (more-fits ops w.variables bound (length w.reads.items) k e le walked.fits, each-map (λ (p : Part). Fits ops w.variables (length w.reads.items) k p.term) (part true) path inner) in
    let read : read_among (reads_at ops k) stack ≡ R = tells ops w.variables walked.ready.kept walked.ready.few k (subst (λ (ps : List Part). Each (λ (p : Part). Fits ops w.variables (length w.reads.items) k p.term) ps) (sym parts_are) all) in
    let primed : reads_primed ops k e (steps_of xs) ≡ R = ap (united (reads ops k true e)) (primed-all ops k path) ∙ ap (read_among (reads_at ops k)) (sym parts_are) ∙ read in
    ap (λ (Z : VariableSet). least w.variables (outside B Z)) primed ∙ sym answer

-- NAMES

pub behind-none : (ops : Table) (bound : ℕ) (e : Term) → ((n : ℕ) → IsName bound e n → ⊥) → IsBehind ops bound e bound e
behind-none ops bound e none smaller below often m le = (stops often m e none below, (omega arith), below)
  where
    stops : (often m : ℕ) (e : Term) → ((n : ℕ) → IsName bound e n → ⊥) → StaysBelow bound e → (behind ops often m e).1 ≡ e
    stops zero m e none below = refl
    stops (suc often) m (Placed at levels.State (term.Use k term.NoTerms)) none below = absurd (none k (refl, below-higher bound at levels.State (term.Use k term.NoTerms) refl below k (used at levels.State k term.NoTerms)))
    stops (suc often) m e none below = refl

-- the definition is missing
pub behind-missing : (ops : Table) (bound n : ℕ) (e : Term) → IsName bound e n → slice_get ops n ≡ None → IsBehind ops bound e bound e
behind-missing ops bound n e name missing smaller below often m le = (stops often m e name, (omega arith), below)
  where
    stops : (often m : ℕ) (e : Term) → IsName bound e n → (behind ops often m e).1 ≡ e
    stops zero m e name = refl
    stops (suc often) m (Placed at levels.State (term.Use k term.NoTerms)) name =
        ap (λ (r : Option Operator). (chosen r (m, Placed at levels.State (term.Use k term.NoTerms)) (λ o. behind ops often (min o.outer m) o.body)).1) (ap (slice_get ops) name.0 ∙ missing)
    stops (suc often) m e name = refl

pub behind-next : (ops : Table) (bound n : ℕ) (e : Term) (o : Operator) (number : ℕ) (found : Term) → IsName bound e n → slice_get ops n ≡ Some o → IsBehind ops n o.body number found → IsBehind ops bound e number found
behind-next ops bound n e o number found name is inner smaller below often m le = goes often m e name le
  where
    goes : (often m : ℕ) (e : Term) → IsName bound e n → bound ≤ often → ((behind ops often m e).1 ≡ found) × (number ≤ bound) × StaysBelow number found
    goes zero m (Placed at levels.State (term.Use k term.NoTerms)) name le = absurd (omega (arith, name.1))
    goes (suc often) m (Placed at levels.State (term.Use k term.NoTerms)) name le =
        let rest : ((behind ops often (min o.outer m) o.body).1 ≡ found) × (number ≤ n) × StaysBelow number found = inner smaller (body-stays ops n o smaller is) often (min o.outer m) (omega (arith, name.1)) in
        (ap (λ (r : Option Operator). (chosen r (m, Placed at levels.State (term.Use k term.NoTerms)) (λ p. behind ops often (min p.outer m) p.body)).1) (ap (slice_get ops) name.0 ∙ is) ∙ rest.0, (omega (arith, name.1, rest.1)), rest.2)
    goes often m e name le = absurd name

pub name-below : (bound n : ℕ) (e : Term) → IsName bound e n → n < bound
name-below bound n (Placed at levels.State (term.Use k term.NoTerms)) name = name.1
name-below bound n e name = absurd name

pub behind-lighter : (ops : Table) (bound n : ℕ) (e : Term) (o : Operator) (number : ℕ) (found : Term) → IsName bound e n → slice_get ops n ≡ Some o → weight found + weights ops number ≤ weight o.body + weights ops n → weight found + weights ops number ≤ weight e + weights ops bound
behind-lighter ops bound n e o number found name is le = omega (arith, weights-fall ops bound n o is (name-below bound n e name), le)

pub tells-unread_alone : (w : Walk) (bound : ℕ) (B R : VariableSet) (e : Term) (o : Option ℕ) → TellsReads w.reads.items true e R → o ≡ least w.variables (outside B R) → TellsUnread w bound B e term.NoSteps o
tells-unread_alone w bound B R e o tells answer k walked fits =
    let ops : Table = table_of w in
    let le : bound ≤ length w.reads.items = omega (arith, walked.within, walked.ready.whole) in
    let read : reads ops k true e ≡ R = tells ops w.variables walked.ready.kept walked.ready.few k (more-fits ops w.variables bound (length w.reads.items) k e le walked.fits) in
    ap (λ (Z : VariableSet). least w.variables (outside B Z)) (united-none (reads ops k true e) ∙ read) ∙ sym answer
