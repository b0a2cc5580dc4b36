-- What the walk for reads that are too early does at a row: it finds what is wrong with the row itself, and keeps the parts that are still to be walked.
use Rattle.std.specs.Prelude.{◌≡◌, ◌<◌, ◌≤◌, ℕ, suc, slice_get, List, ◌++◌, Option, map, length}
use Rattle.std.specs.List.{AllByRecursion as Each}
use Rattle.base_core.specs.declared.place.Place.{Place}
use Rattle.reading_trees.specs.declared.operators.PrefixOperator.TheVariants as prefix
use Rattle.names_terms.specs.declared.level.Level.{Level}
use Rattle.names_terms.specs.Lists.{terms_list}
use Rattle.names_terms.specs.Terms as term
use Rattle.names_terms.specs.Terms.{Term, Placed, Meaning, Terms, Steps, place_of}
use Rattle.names_terms.specs.TermViews.{step_view}
use Rattle.names_term_parts.specs.Parts.{Part}
use Rattle.names_term_parts.specs.Weights.{inner, total}
use Rattle.eval_meanings.specs.Functions.{steps_place}
use Rattle.eval_meanings.specs.Unchanged.{unchanged_of}
use Rattle.actions_meanings.specs.declared.fault.FormFault.{FormFault}
use Rattle.actions_meanings.specs.Reads.{VariableSet, body_of, path_terms, reads_primed, terms_in}
use Rattle.actions_meanings.specs.Outcomes.{or_else, least, outside, first_early, early_meaning, early, too_early}
use Rattle.actions_early_reads.specs.declared.kinds.Row.{Row}
use Rattle.actions_early_reads.specs.declared.kinds.Row.TheVariants as row
use Rattle.actions_early_reads.specs.declared.walking.Walk.{Walk}
use Rattle.actions_early_reads.specs.Keeping.{Fits}
use Rattle.actions_early_reads.specs.Ready.{table_of, setting_of, IsReady, IsWalked}

-- a row that has no reads of its own, and is walked part by part
abbrev pub IsPlain : Meaning → Type 0
IsPlain (term.Variable x) = ⊥
IsPlain (term.Use k ts) = ⊥
IsPlain (term.Postfix e ss s) = ⊥
IsPlain (term.Prefix prefix.Unchanged e) = ⊥
IsPlain (term.Except e cs) = ⊥
IsPlain (term.BoxAction e v) = ⊥
IsPlain (term.AngleAction e v) = ⊥
IsPlain m = Unit {0}

abbrev pub IsRowOf : Meaning → Row → Type 0
IsRowOf m (row.Variable x) = m ≡ term.Variable x
IsRowOf m (row.Use k ts) = m ≡ term.Use k ts.now
IsRowOf m (row.Postfix e ss s) = m ≡ term.Postfix e.now ss.now (step_view s.now)
IsRowOf m (row.Unchanged e) = m ≡ term.Prefix prefix.Unchanged e.now
IsRowOf m (row.Except e cs) = m ≡ term.Except e.now cs.now
IsRowOf m (row.BoxAction e v) = m ≡ term.BoxAction e.now v.now
IsRowOf m (row.AngleAction e v) = m ≡ term.AngleAction e.now v.now
IsRowOf m row.Plain = IsPlain m

abbrev pub early_at : Walk → VariableSet → ℕ → Term → Option FormFault
early_at w B k e = early (setting_of w) B k e

abbrev pub unread_at : Walk → VariableSet → ℕ → Term → Steps → Option ℕ
unread_at w B k e ss = least w.variables (outside B (reads_primed (table_of w) k e ss))

-- the terms of which the row is made are in order
pub record IsRow (w : Walk) (bound k : ℕ) (at : Place) (m : Meaning) : Type 0 where
  pub ready : IsReady w
  pub within : bound ≤ length (table_of w)
  pub below : (i : ℕ) (ts : Terms) → m ≡ term.Use i ts → i < bound
  pub fit : Each (Fits (table_of w) w.variables bound k) (terms_in (table_of w) at m)

abbrev pub first_of_parts : Walk → VariableSet → ℕ → List Part → Option FormFault
first_of_parts w B k ps = first_early (early_at w B k) (map (λ p. p.term) ps)

-- the first read that is too early among terms in order
abbrev pub TellsFirst : Walk → ℕ → VariableSet → List Part → Option FormFault → Type 0
TellsFirst w bound B ps o = (k : ℕ) → IsReady w → bound ≤ length (table_of w) → Each (λ (p : Part). Fits (table_of w) w.variables bound k p.term) ps → first_of_parts w B k ps ≡ o

abbrev pub TellsTerms : Walk → ℕ → VariableSet → List Term → Option FormFault → Type 0
TellsTerms w bound B es o = (k : ℕ) → IsReady w → bound ≤ length (table_of w) → Each (Fits (table_of w) w.variables bound k) es → first_early (early_at w B k) es ≡ o

pub record IsOpened (w : Walk) (bound : ℕ) (B : VariableSet) (at : Place) (m : Meaning) (found answer : Option FormFault) (more : List Part) : Type 0 where
  pub fit : (k : ℕ) → IsRow w bound k at m → Each (λ p. Fits (table_of w) w.variables bound k p.term) more
  pub same : (k : ℕ) → IsRow w bound k at m → or_else (early_meaning (setting_of w) (early_at w B k) (unread_at w B k) B at m) found ≡ or_else (first_of_parts w B k more) answer
  pub lighter : total more ≤ inner m

-- what was found, and what waited on the stack, before and after the row is opened
abbrev pub Opens : Walk → ℕ → VariableSet → Place → Meaning → Option FormFault → Option FormFault → List Part → List Part → Type 0
Opens w bound B at m found answer old new = (more : List Part) × (new ≡ old ++ more) × IsOpened w bound B at m found answer more

-- UNCHANGED: the first read that is too early
abbrev pub TellsStays : Walk → ℕ → VariableSet → Place → Term → Option FormFault → Type 0
TellsStays w bound B at e o = (k : ℕ) → IsWalked w bound k e → early_at w B (suc k) (unchanged_of at e) ≡ o

abbrev pub TellsItems : Walk → ℕ → VariableSet → Place → Terms → Option FormFault → Type 0
TellsItems w bound B at ts o = (p : Place) (l : Level) (k : ℕ) → IsWalked w bound k (Placed p l (term.Tuple ts)) → first_early (early_at w B k) (map (unchanged_of at) (terms_list ts)) ≡ o

-- the first read that is too early in the body of a definition that a row uses
abbrev pub TellsBody : Walk → ℕ → VariableSet → ℕ → Option FormFault → Type 0
TellsBody w bound B i o = (at : Place) (ts : Terms) (k : ℕ) → IsRow w bound k at (term.Use i ts) → first_early (early_at w B k) (body_of (slice_get (table_of w) i)) ≡ o

-- what is wrong with all that stands before a prime
abbrev pub TellsPrimed : Walk → ℕ → VariableSet → Term → Steps → Option FormFault → Type 0
TellsPrimed w bound B e ss o = (k : ℕ) → IsWalked w bound k e → Each (Fits (table_of w) w.variables bound k) (path_terms ss) → too_early (steps_place (place_of e) ss) (unread_at w B k e ss) ≡ o
