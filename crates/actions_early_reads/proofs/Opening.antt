-- Rows of the walk for reads that are too early.
use Rattle.std.proofs.Common.{◌≡◌, ◌∙◌, ap, sym, refl, subst, List, [], ◌∷◌, ◌++◌, map, length, arith}
use Rattle.std.specs.Prelude.{◌≤◌, ◌+◌, ℕ, zero, suc, Bool, true, false, Option, Some, None, Contains, slice_get}
use Rattle.std.specs.List.{AllByRecursion as Each}
use Rattle.std.proofs.lemmas.List.{append-nil, map-append}
use Rattle.base_core.specs.declared.place.Place.{Place}
use Rattle.reading_trees.specs.declared.operators.PrefixOperator.TheVariants as prefix
use Rattle.reading_trees.specs.declared.operators.InfixOperator.TheVariants as infix_operator
use Rattle.names_terms.specs.declared.level.Level.TheVariants as levels
use Rattle.names_terms.specs.Lists.{terms_list}
use Rattle.names_terms.specs.Terms as term
use Rattle.names_terms.specs.Terms.{Term, Placed, Meaning, Terms, Steps, Step, Changes, place_of}
use Rattle.names_term_parts.specs.Parts.{Part, part, parts, parts_of, listed, operand_list, set_list, value_list, arm_list}
use Rattle.names_term_parts.specs.Weights.{inner, in_terms, in_step, in_steps, in_changes, total}
use Rattle.names_term_parts.proofs.Contained.{contains_head, contains_tail}
use Rattle.names_term_parts.proofs.Weights.{total-append, total-cons, total-nil, of_parts}
use Rattle.eval_meanings.specs.Contexts.{Table}
use Rattle.eval_meanings.specs.Functions.{steps_place}
use Rattle.eval_meanings.specs.Unchanged.{prime_of, unchanged_of, changed_of}
use Rattle.actions_meanings.specs.declared.fault.FormFault.{FormFault}
use Rattle.actions_meanings.specs.Forms.{is_taken}
use Rattle.actions_meanings.specs.Reads.{VariableSet, body_of, path_terms, step_terms, terms_in}
use Rattle.actions_meanings.specs.Outcomes.{or_else, too_early, first_early, early_variable, early_steps, early_meaning}
use Rattle.actions_early_reads.specs.declared.walking.Walk.{Walk}
use Rattle.actions_early_reads.specs.Paths.{change_terms}
use Rattle.actions_early_reads.specs.Primes.{and_behind, last_prime}
use Rattle.actions_early_reads.specs.Keeping.{Fits}
use Rattle.actions_early_reads.specs.Ready.{table_of, setting_of, IsReady, IsWalked, TellsUnread}
use Rattle.actions_early_reads.specs.Opened.{IsPlain, early_at, unread_at, IsRow, Opens, TellsPrimed, TellsStays, TellsBody}
use Rattle.actions_early_reads.proofs.Within.{below-part}
use Rattle.actions_early_reads.proofs.Each.{each-append, each-left, each-right}
use Rattle.actions_early_reads.proofs.Rows.{listed_is, paths_more, changes_more}
use Rattle.actions_early_reads.proofs.Ends.{ends-stays, unstay, unchange, orderly-part}
use Rattle.actions_early_reads.proofs.Early.{action-taken, if-taken}

pub or_else-none : (o : Option FormFault) → or_else o None ≡ o
or_else-none None = refl
or_else-none (Some f) = refl

pub or_else-assoc : (a b c : Option FormFault) → or_else (or_else a b) c ≡ or_else a (or_else b c)
or_else-assoc None b c = refl
or_else-assoc (Some f) b c = refl

pub first-append : (f : Term → Option FormFault) (xs ys : List Term) → first_early f (xs ++ ys) ≡ or_else (first_early f xs) (first_early f ys)
first-append f [] ys = refl
first-append f (x ∷ xs) ys = ap (or_else (f x)) (first-append f xs ys) ∙ sym (or_else-assoc (f x) (first_early f xs) (first_early f ys))

pub terms_of_parts : (b : Bool) (es : List Term) → map (λ (p : Part). p.term) (map (part b) es) ≡ es
terms_of_parts b [] = refl
terms_of_parts b (e ∷ es) = ap (λ (xs : List Term). e ∷ xs) (terms_of_parts b es)

terms_and_last : (b : Bool) (es : List Term) (e : Term) → map (λ (p : Part). p.term) (parts_of b es ++ part b e ∷ []) ≡ es ++ e ∷ []
terms_and_last b es e = map-append (λ (p : Part). p.term) (parts_of b es) (part b e ∷ []) ∙ ap (λ (xs : List Term). xs ++ e ∷ []) (terms_of_parts b es)

pub terms_of_listed : (b : Bool) (ts : Terms) → map (λ (p : Part). p.term) (parts_of b (listed ts)) ≡ terms_list ts
terms_of_listed b ts = terms_of_parts b (listed ts) ∙ listed_is ts

-- FITTING

pub fits-unstay : (ops : Table) (v n k : ℕ) (at : Place) (e : Term) → Fits ops v n k (unchanged_of at e) → Fits ops v n k e
fits-unstay ops v n k at e h = record {
  below = below-part n at levels.Action (term.Prefix prefix.Unchanged e) (part true e) refl (contains_head (part true e) []) h.below;
  orderly = orderly-part ops v at levels.Action (term.Prefix prefix.Unchanged e) (part true e) (contains_head (part true e) []) h.orderly;
  ends = unstay ops k at e h.ends;
}

-- A ROW THAT IS WALKED PART BY PART

plain-terms : (ops : Table) (at : Place) (m : Meaning) → IsPlain m → map (λ (p : Part). p.term) (parts false m) ≡ terms_in ops at m
plain-terms ops at (term.Known v) h = refl
plain-terms ops at (term.Named s) h = refl
plain-terms ops at (term.Variable x) h = absurd h
plain-terms ops at (term.Slot i) h = refl
plain-terms ops at (term.Use k ts) h = absurd h
plain-terms ops at (term.Standard o ts) h = terms_of_listed false ts
plain-terms ops at (term.Parenthesized e) h = refl
plain-terms ops at (term.Scoped ks e) h = refl
plain-terms ops at (term.All ts) h = terms_of_listed false ts
plain-terms ops at (term.Any ts) h = terms_of_listed false ts
plain-terms ops at (term.Prefix o e) h = refl
plain-terms ops at (term.Infix o os e) h = terms_and_last false (operand_list os) e
plain-terms ops at (term.Postfix e ss s) h = absurd h
plain-terms ops at (term.SetOf ts) h = terms_of_listed false ts
plain-terms ops at (term.Filter s e) h = refl
plain-terms ops at (term.Map e bs) h = ap (λ (xs : List Term). e ∷ xs) (terms_of_parts false (set_list bs))
plain-terms ops at (term.Tuple ts) h = terms_of_listed false ts
plain-terms ops at (term.Function bs e) h = terms_and_last false (set_list bs) e
plain-terms ops at (term.FunctionSet s e) h = refl
plain-terms ops at (term.Record fs) h = terms_of_parts false (value_list fs)
plain-terms ops at (term.RecordSet fs) h = terms_of_parts false (value_list fs)
plain-terms ops at (term.Except e cs) h = absurd h
plain-terms ops at (term.Quantified q bs e) h = terms_and_last false (set_list bs) e
plain-terms ops at (term.Choose s e) h = refl
plain-terms ops at (term.If p e f) h = refl
plain-terms ops at (term.Case arms) h = terms_of_parts false (arm_list arms)
plain-terms ops at (term.CaseOther arms e) h = terms_and_last false (arm_list arms) e
plain-terms ops at (term.BoxAction e v) h = absurd h
plain-terms ops at (term.AngleAction e v) h = absurd h
plain-terms ops at (term.Fairness v e) h = refl

plain-early : (w : Walk) (B : VariableSet) (k : ℕ) (at : Place) (m : Meaning) → IsPlain m → early_meaning (setting_of w) (early_at w B k) (unread_at w B k) B at m ≡ first_early (early_at w B k) (terms_in (table_of w) at m)
plain-early w B k at (term.Variable x) h = absurd h
plain-early w B k at (term.Postfix e ss s) h = absurd h
plain-early w B k at (term.Prefix prefix.Unchanged e) h = absurd h
plain-early w B k at (term.AngleAction e v) h = absurd h
plain-early w B k at m h = refl

-- what holds of terms holds of the parts that stand for them
pub parts_fit : (P : Term → Type 0) (ps : List Part) (es : List Term) → map (λ (p : Part). p.term) ps ≡ es → Each P es → Each (λ (p : Part). P p.term) ps
parts_fit P ps es q h = back ps (subst (λ (xs : List Term). Each P xs) (sym q) h)
  where
    back : (ps : List Part) → Each P (map (λ (p : Part). p.term) ps) → Each (λ (p : Part). P p.term) ps
    back [] h = tt
    back (p ∷ ps) h = (h.0, back ps h.1)

pub opens-plain : (w : Walk) (bound : ℕ) (B : VariableSet) (at : Place) (m : Meaning) (found : Option FormFault) (old new : List Part) → IsPlain m → new ≡ old ++ parts false m → Opens w bound B at m found found old new
opens-plain w bound B at m found old new plain pushed = (
  parts false m,
  pushed,
  record {
    fit = λ k r. parts_fit (Fits (table_of w) w.variables bound k) (parts false m) (terms_in (table_of w) at m) (plain-terms (table_of w) at m plain) r.fit;
    same = λ k r. ap (λ (z : Option FormFault). or_else z found) (plain-early w B k at m plain ∙ ap (first_early (early_at w B k)) (sym (plain-terms (table_of w) at m plain)));
    lighter = omega (arith, of_parts false m);
  },
)

pub opens-variable : (w : Walk) (bound : ℕ) (B : VariableSet) (at : Place) (m : Meaning) (x : ℕ) (o found answer : Option FormFault) (old : List Part) → m ≡ term.Variable x → o ≡ early_variable w.which B at x → answer ≡ or_else o found → Opens w bound B at m found answer old old
opens-variable w bound B at m x o found answer old q own is = subst (λ (z : Meaning). Opens w bound B at z found answer old old) (sym q) (
  [],
  sym (append-nil old),
  record {
    fit = λ k r. tt;
    same = λ k r. ap (λ (z : Option FormFault). or_else z found) (sym own) ∙ sym is;
    lighter = omega (arith, total-nil);
  },
)

pub opens-unchanged : (w : Walk) (bound : ℕ) (B : VariableSet) (at : Place) (m : Meaning) (e : Term) (o found answer : Option FormFault) (old : List Part) → m ≡ term.Prefix prefix.Unchanged e → TellsStays w bound B at e o → answer ≡ or_else o found → Opens w bound B at m found answer old old
opens-unchanged w bound B at m e o found answer old q tells is = subst (λ (z : Meaning). Opens w bound B at z found answer old old) (sym q) (
  [],
  sym (append-nil old),
  record {
    fit = λ k r. tt;
    same = λ k r. ap (λ (z : Option FormFault). or_else z found) (sym (if-taken (is_taken w.which levels.Action) (early_meaning (setting_of w) (early_at w B k) (unread_at w B k) B at (term.Prefix prefix.Unchanged e)) None (action-taken w.which)) ∙ tells k record { ready = r.ready; within = r.within; fits = r.fit.0 }) ∙ sym is;
    lighter = omega (arith, total-nil);
  },
)

pub opens-use : (w : Walk) (bound : ℕ) (B : VariableSet) (at : Place) (m : Meaning) (i : ℕ) (ts : Terms) (o found answer : Option FormFault) (old new : List Part) → m ≡ term.Use i ts → TellsBody w bound B i o → new ≡ old ++ parts_of false (listed ts) → answer ≡ or_else o found → Opens w bound B at m found answer old new
opens-use w bound B at m i ts o found answer old new q tells pushed is = subst (λ (z : Meaning). Opens w bound B at z found answer old new) (sym q) (
  parts_of false (listed ts),
  pushed,
  record {
    fit = λ k r. parts_fit (Fits (table_of w) w.variables bound k) (parts_of false (listed ts)) (terms_list ts) (terms_of_listed false ts) (each-left (Fits (table_of w) w.variables bound k) (terms_list ts) (body_of (slice_get (table_of w) i)) r.fit);
    same = λ k r. ap (λ (z : Option FormFault). or_else z found) (first-append (early_at w B k) (terms_list ts) (body_of (slice_get (table_of w) i)) ∙ ap (or_else (first_early (early_at w B k) (terms_list ts))) (tells at ts k r))
        ∙ or_else-assoc (first_early (early_at w B k) (terms_list ts)) o found ∙ ap (or_else (first_early (early_at w B k) (terms_list ts))) (sym is) ∙ ap (λ (es : List Term). or_else (first_early (early_at w B k) es) answer) (sym (terms_of_listed false ts));
    lighter = omega (arith, of_parts false (term.Use i ts));
  },
)

pub opens-box : (w : Walk) (bound : ℕ) (B : VariableSet) (at : Place) (m : Meaning) (e v : Term) (o found answer : Option FormFault) (old new : List Part) → m ≡ term.BoxAction e v → TellsStays w bound B at v o → new ≡ old ++ part false e ∷ [] → answer ≡ or_else o found → Opens w bound B at m found answer old new
opens-box w bound B at m e v o found answer old new q tells pushed is = subst (λ (z : Meaning). Opens w bound B at z found answer old new) (sym q) (
  part false e ∷ [],
  pushed,
  record {
    fit = λ k r. (r.fit.0, tt);
    same = λ k r. both k r;
    lighter = omega (arith, total-cons (part false e) [], total-nil);
  },
)
  where
    subscript : (k : ℕ) → IsReady w → bound ≤ length (table_of w) → Fits (table_of w) w.variables bound k (unchanged_of at v) → early_at w B k (unchanged_of at v) ≡ o
    subscript zero ready within fits = absurd fits.ends
    subscript (suc k) ready within fits = tells k record { ready = ready; within = within; fits = record { below = (fits-unstay (table_of w) w.variables bound (suc k) at v fits).below; orderly = (fits-unstay (table_of w) w.variables bound (suc k) at v fits).orderly; ends = ends-stays (table_of w) k at v fits.ends } }

    both : (k : ℕ) → IsRow w bound k at (term.BoxAction e v) → or_else (or_else (early_at w B k e) (or_else (early_at w B k (unchanged_of at v)) None)) found ≡ or_else (or_else (early_at w B k e) None) answer
    both k r =
        ap (λ (z : Option FormFault). or_else (or_else (early_at w B k e) z) found) (or_else-none (early_at w B k (unchanged_of at v)) ∙ subscript k r.ready r.within r.fit.1.0)
        ∙ or_else-assoc (early_at w B k e) o found ∙ ap (or_else (early_at w B k e)) (sym is) ∙ ap (λ (z : Option FormFault). or_else z answer) (sym (or_else-none (early_at w B k e)))

pub fits-unchange : (ops : Table) (v n k : ℕ) (at : Place) (e : Term) → Fits ops v n k (changed_of at e) → Fits ops v n k e
fits-unchange ops v n k at e h =
    let m : Meaning = term.Infix infix_operator.NotEqual (term.First (prime_of at e)) e in
    let inside : Contains (parts false m) (part false e) = contains_tail (part false (prime_of at e)) (part false e ∷ []) (part false e) (contains_head (part false e) []) in
    record {
      below = below-part n at levels.Action m (part false e) refl inside h.below;
      orderly = orderly-part ops v at levels.Action m (part false e) inside h.orderly;
      ends = unchange ops k at e h.ends;
    }

pub opens-angle : (w : Walk) (bound : ℕ) (B : VariableSet) (at : Place) (m : Meaning) (e v : Term) (r : Option ℕ) (o found answer : Option FormFault) (old new : List Part) → m ≡ term.AngleAction e v → TellsUnread w bound B v term.NoSteps r → o ≡ too_early at r → new ≡ old ++ part false e ∷ [] → answer ≡ or_else o found → Opens w bound B at m found answer old new
opens-angle w bound B at m e v r o found answer old new q tells own pushed is = subst (λ (z : Meaning). Opens w bound B at z found answer old new) (sym q) (
  part false e ∷ [],
  pushed,
  record {
    fit = λ k row. (row.fit.0, tt);
    same = λ k row. both k row;
    lighter = omega (arith, total-cons (part false e) [], total-nil);
  },
)
  where
    both : (k : ℕ) → IsRow w bound k at (term.AngleAction e v) → or_else (or_else (early_at w B k e) (too_early at (unread_at w B k v term.NoSteps))) found ≡ or_else (or_else (early_at w B k e) None) answer
    both k row =
        ap (λ (z : Option FormFault). or_else (or_else (early_at w B k e) z) found) (ap (too_early at) (tells k record { ready = row.ready; within = row.within; fits = fits-unchange (table_of w) w.variables bound k at v row.fit.1.0 } tt) ∙ sym own)
        ∙ or_else-assoc (early_at w B k e) o found ∙ ap (or_else (early_at w B k e)) (sym is) ∙ ap (λ (z : Option FormFault). or_else z answer) (sym (or_else-none (early_at w B k e)))

-- CHANGES AND STEPS

total_listed : (ts : Terms) → total (map (part false) (terms_list ts)) ≡ in_terms ts
total_listed ts = ap (λ (es : List Term). total (map (part false) es)) (sym (listed_is ts)) ∙ of_parts false (term.SetOf ts)

total_step : (s : Step) → total (map (part false) (step_terms s)) ≡ in_step s
total_step term.Prime = total-nil
total_step (term.Index ts) = total_listed ts
total_step (term.Field h) = total-nil

total_terms-append : (xs ys : List Term) → total (map (part false) (xs ++ ys)) ≡ total (map (part false) xs) + total (map (part false) ys)
total_terms-append xs ys = ap total (map-append (part false) xs ys) ∙ total-append (map (part false) xs) (map (part false) ys)

total_path : (ss : Steps) → total (map (part false) (path_terms ss)) ≡ in_steps ss
total_path term.NoSteps = total-nil
total_path (term.MoreSteps ss at s) = omega (arith, ap (λ (es : List Term). total (map (part false) es)) (paths_more ss at s), total_terms-append (path_terms ss) (step_terms s), total_path ss, total_step s)

total_changes : (cs : Changes) → total (map (part false) (change_terms cs)) ≡ in_changes cs
total_changes term.NoChanges = total-nil
total_changes (term.MoreChanges cs path e) =
    omega (arith, ap (λ (es : List Term). total (map (part false) es)) (changes_more cs path e), total_terms-append (change_terms cs) (path_terms path ++ e ∷ []), total_terms-append (path_terms path) (e ∷ []), total_changes cs, total_path path, total-cons (part false e) [], total-nil)

pub opens-except : (w : Walk) (bound : ℕ) (B : VariableSet) (at : Place) (m : Meaning) (e : Term) (cs : Changes) (found : Option FormFault) (old new : List Part) → m ≡ term.Except e cs → new ≡ old ++ part false e ∷ map (part false) (change_terms cs) → Opens w bound B at m found found old new
opens-except w bound B at m e cs found old new q pushed = subst (λ (z : Meaning). Opens w bound B at z found found old new) (sym q) (
  part false e ∷ map (part false) (change_terms cs),
  pushed,
  record {
    fit = λ k r. parts_fit (Fits (table_of w) w.variables bound k) (part false e ∷ map (part false) (change_terms cs)) (e ∷ change_terms cs) (terms_of_parts false (e ∷ change_terms cs)) r.fit;
    same = λ k r. ap (λ (es : List Term). or_else (first_early (early_at w B k) es) found) (sym (terms_of_parts false (e ∷ change_terms cs)));
    lighter = omega (arith, total-cons (part false e) (map (part false) (change_terms cs)), total_changes cs);
  },
)

-- a primary with steps, the last prime among them taken apart
abbrev PrimeSays : (Term → Option FormFault) → (Term → Steps → Option ℕ) → Term → Steps → Option (Steps × List Term) → Type 0
PrimeSays f u e ss None = early_steps f u e ss ≡ or_else (f e) (first_early f (path_terms ss))
PrimeSays f u e ss (Some x) = early_steps f u e ss ≡ or_else (too_early (steps_place (place_of e) x.0) (u e x.0)) (first_early f x.1)

step_says : (f : Term → Option FormFault) (u : Term → Steps → Option ℕ) (e : Term) (ss : Steps) (at : Place) (s : Step) (x : Option (Steps × List Term)) → early_steps f u e (term.MoreSteps ss at s) ≡ or_else (early_steps f u e ss) (first_early f (step_terms s)) → PrimeSays f u e ss x → PrimeSays f u e (term.MoreSteps ss at s) (and_behind x s)
step_says f u e ss at s None cut h =
    cut ∙ ap (λ (z : Option FormFault). or_else z (first_early f (step_terms s))) h ∙ or_else-assoc (f e) (first_early f (path_terms ss)) (first_early f (step_terms s)) ∙ ap (or_else (f e)) (sym (first-append f (path_terms ss) (step_terms s)) ∙ ap (first_early f) (sym (paths_more ss at s)))
step_says f u e ss at s (Some x) cut h =
    cut ∙ ap (λ (z : Option FormFault). or_else z (first_early f (step_terms s))) h ∙ or_else-assoc (too_early (steps_place (place_of e) x.0) (u e x.0)) (first_early f x.1) (first_early f (step_terms s)) ∙ ap (or_else (too_early (steps_place (place_of e) x.0) (u e x.0))) (sym (first-append f x.1 (step_terms s)))

pub prime-says : (f : Term → Option FormFault) (u : Term → Steps → Option ℕ) (e : Term) (ss : Steps) → PrimeSays f u e ss (last_prime ss)
prime-says f u e term.NoSteps = sym (or_else-none (f e))
prime-says f u e (term.MoreSteps ss at term.Prime) = sym (or_else-none (too_early (steps_place (place_of e) ss) (u e ss)))
prime-says f u e (term.MoreSteps ss at (term.Index ts)) = step_says f u e ss at (term.Index ts) (last_prime ss) refl (prime-says f u e ss)
prime-says f u e (term.MoreSteps ss at (term.Field h)) = step_says f u e ss at (term.Field h) (last_prime ss) (sym (or_else-none (early_steps f u e ss))) (prime-says f u e ss)

abbrev pub PrimeFits : (Term → Type 0) → Steps → Option (Steps × List Term) → Type 0
PrimeFits P ss None = Unit {0}
PrimeFits P ss (Some x) = Each P (path_terms x.0) × Each P x.1 × (total (map (part false) x.1) ≤ in_steps ss)

step_fits : (P : Term → Type 0) (ss : Steps) (at : Place) (s : Step) (x : Option (Steps × List Term)) → Each P (step_terms s) → PrimeFits P ss x → PrimeFits P (term.MoreSteps ss at s) (and_behind x s)
step_fits P ss at s None own h = tt
step_fits P ss at s (Some x) own h = (h.0, each-append P x.1 (step_terms s) h.1 own, omega (arith, h.2, total_terms-append x.1 (step_terms s), total_step s))

pub prime-fits : (P : Term → Type 0) (ss : Steps) → Each P (path_terms ss) → PrimeFits P ss (last_prime ss)
prime-fits P term.NoSteps h = tt
prime-fits P (term.MoreSteps ss at s) h = last s (each-left P (path_terms ss) (step_terms s) all) (each-right P (path_terms ss) (step_terms s) all) (prime-fits P ss (each-left P (path_terms ss) (step_terms s) all))
  where
    all : Each P (path_terms ss ++ step_terms s)
    all = subst (λ (es : List Term). Each P es) (paths_more ss at s) h

    last : (s : Step) → Each P (path_terms ss) → Each P (step_terms s) → PrimeFits P ss (last_prime ss) → PrimeFits P (term.MoreSteps ss at s) (last_prime (term.MoreSteps ss at s))
    last term.Prime before own inner = (before, tt, omega (arith, total-nil))
    last (term.Index ts) before own inner = step_fits P ss at (term.Index ts) (last_prime ss) own inner
    last (term.Field h) before own inner = step_fits P ss at (term.Field h) (last_prime ss) own inner

module _ (w : Walk) (bound : ℕ) (B : VariableSet) (at : Place) (e : Term) (ss : Steps) (s : Step) (found : Option FormFault) (old : List Part) where
  abbrev Row : Meaning
  Row = term.Postfix e ss s

  path-fits : (k : ℕ) → IsRow w bound k at Row → Each (Fits (table_of w) w.variables bound k) (path_terms (term.MoreSteps ss at s))
  path-fits k r = subst (λ (es : List Term). Each (Fits (table_of w) w.variables bound k) es) (sym (paths_more ss at s)) r.fit.1

  row-says : (k : ℕ) (x : Option (Steps × List Term)) → last_prime (term.MoreSteps ss at s) ≡ x → PrimeSays (early_at w B k) (unread_at w B k) e (term.MoreSteps ss at s) x
  row-says k x q = subst (λ (z : Option (Steps × List Term)). PrimeSays (early_at w B k) (unread_at w B k) e (term.MoreSteps ss at s) z) q (prime-says (early_at w B k) (unread_at w B k) e (term.MoreSteps ss at s))

  row-fits : (k : ℕ) (x : Option (Steps × List Term)) → last_prime (term.MoreSteps ss at s) ≡ x → IsRow w bound k at Row → PrimeFits (Fits (table_of w) w.variables bound k) (term.MoreSteps ss at s) x
  row-fits k x q r = subst (λ (z : Option (Steps × List Term)). PrimeFits (Fits (table_of w) w.variables bound k) (term.MoreSteps ss at s) z) q (prime-fits (Fits (table_of w) w.variables bound k) (term.MoreSteps ss at s) (path-fits k r))

  -- no prime
  pub opens-steps : (new : List Part) → last_prime (term.MoreSteps ss at s) ≡ None → new ≡ old ++ part false e ∷ map (part false) (path_terms ss ++ step_terms s) → Opens w bound B at Row found found old new
  opens-steps new none pushed = (
    part false e ∷ map (part false) (path_terms ss ++ step_terms s),
    pushed,
    record {
      fit = λ k r. parts_fit (Fits (table_of w) w.variables bound k) (part false e ∷ map (part false) (path_terms ss ++ step_terms s)) (e ∷ path_terms ss ++ step_terms s) (terms_of_parts false (e ∷ path_terms ss ++ step_terms s)) r.fit;
      same = λ k r. ap (λ (z : Option FormFault). or_else z found) (row-says k None none ∙ ap (λ (es : List Term). or_else (early_at w B k e) (first_early (early_at w B k) es)) (paths_more ss at s)) ∙ ap (λ (es : List Term). or_else (first_early (early_at w B k) es) found) (sym (terms_of_parts false (e ∷ path_terms ss ++ step_terms s)));
      lighter = omega (arith, total-cons (part false e) (map (part false) (path_terms ss ++ step_terms s)), total_terms-append (path_terms ss) (step_terms s), total_path ss, total_step s);
    },
  )

  module _ (b : Steps) (es : List Term) (q : last_prime (term.MoreSteps ss at s) ≡ Some (b, es)) where
    primed-walked : (k : ℕ) → IsRow w bound k at Row → IsWalked w bound k e
    primed-walked k r = record { ready = r.ready; within = r.within; fits = r.fit.0 }

    -- a read before the prime is too early
    pub opens-primed : (f : FormFault) → TellsPrimed w bound B e b (Some f) → Opens w bound B at Row found (Some f) old old
    opens-primed f tells = (
      [],
      sym (append-nil old),
      record {
        fit = λ k r. tt;
        same = λ k r. ap (λ (z : Option FormFault). or_else z found) (row-says k (Some (b, es)) q ∙ ap (λ (z : Option FormFault). or_else z (first_early (early_at w B k) es)) (tells k (primed-walked k r) (row-fits k (Some (b, es)) q r).0));
        lighter = omega (arith, total-nil);
      },
    )

    -- nothing before the prime is, and the terms behind it are still to be walked
    pub opens-behind : (new : List Part) → TellsPrimed w bound B e b None → new ≡ old ++ map (part false) es → total (map (part false) es) ≤ in_steps (term.MoreSteps ss at s) → Opens w bound B at Row found found old new
    opens-behind new tells pushed light = (
      map (part false) es,
      pushed,
      record {
        fit = λ k r. parts_fit (Fits (table_of w) w.variables bound k) (map (part false) es) es (terms_of_parts false es) (row-fits k (Some (b, es)) q r).1;
        same = λ k r. ap (λ (z : Option FormFault). or_else z found) (row-says k (Some (b, es)) q ∙ ap (λ (z : Option FormFault). or_else z (first_early (early_at w B k) es)) (tells k (primed-walked k r) (row-fits k (Some (b, es)) q r).0)) ∙ ap (λ (xs : List Term). or_else (first_early (early_at w B k) xs) found) (sym (terms_of_parts false es));
        lighter = omega (arith, light);
      },
    )
