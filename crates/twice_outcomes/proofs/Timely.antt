-- What reads too early in a term is the same of an alike one.
use Rattle.std.proofs.Common.{◌≡◌, ap, ap₂, refl, List, [], ◌∷◌, map, length}
use Rattle.std.specs.Prelude.{ℕ, zero, suc, Bool, true, false, Option, None, if◌then◌else◌}
use Rattle.base_core.specs.declared.place.Place.{Place}
use Rattle.reading_trees.specs.declared.operators.PrefixOperator.{PrefixOperator}
use Rattle.reading_trees.specs.declared.operators.PrefixOperator.TheVariants as prefix
use Rattle.names_terms.specs.declared.level.Level.{Level}
use Rattle.names_terms.specs.Lists.{terms_list}
use Rattle.names_terms.specs.Terms as term
use Rattle.names_terms.specs.Terms.{Term, Placed, Meaning, Step, Steps, place_of}
use Rattle.eval_meanings.specs.Contexts.{Table}
use Rattle.eval_meanings.specs.Functions.{steps_place}
use Rattle.eval_meanings.specs.Unchanged.{behind, unchanged_of}
use Rattle.actions_meanings.specs.declared.fault.FormFault.{FormFault}
use Rattle.actions_meanings.specs.declared.which.Which.{Which}
use Rattle.actions_meanings.specs.Forms.{Setting, is_taken}
use Rattle.actions_meanings.specs.Outcomes.{early, early_meaning, early_steps, early_unchanged, first_early, least, or_else, outside, too_early}
use Rattle.actions_meanings.specs.Reads.{VariableSet, reads_primed, terms_in}
use Rattle.twice_terms.specs.Alike.{Alike, placed_alike, AlikeMeanings, variable_alike, prefix_alike, postfix_alike, tuple_alike, angle_alike, AlikeStep, prime_alike, index_alike, field_alike, AlikeSteps, no_steps_alike, more_steps_alike}
use Rattle.twice_terms.specs.Laws.{AreOne}
use Rattle.twice_terms.proofs.Inverted.{same_place}
use Rattle.twice_outcomes.specs.Alikes.{AreAlikeLists, AreFoundAlike}
use Rattle.twice_outcomes.proofs.AlikeLists.{map_zip, terms_zip}
use Rattle.twice_outcomes.proofs.Ending.{terms_in_zip}
use Rattle.twice_outcomes.proofs.Spelled.{unchanged_alike_of}
use Rattle.twice_outcomes.proofs.Forms.{FoundAlike}
use Rattle.twice_outcomes.proofs.Reading.{primed_same}

abbrev pub Faults : Type 0
Faults = Term → Option FormFault

-- one step of `early`
abbrev early_placed : Setting → Faults → (Term → Steps → Option ℕ) → VariableSet → Term → Option FormFault
early_placed g ea ua B (Placed at l m) = if is_taken g.which l then early_meaning g ea ua B at m else None

abbrev pub Unfixed : Type 0
Unfixed = Term → Steps → Option ℕ

-- said of alike terms it is the same
abbrev pub FaultsSame : Table → Table → Faults → Faults → Type 0
FaultsSame ops all ea eb = (e f : Term) → Alike AreOne ops all e f → ea e ≡ eb f

abbrev pub UnfixedSame : Table → Table → Unfixed → Unfixed → Type 0
UnfixedSame ops all ua ub = (e f : Term) (ss rs : Steps) → Alike AreOne ops all e f → AlikeSteps AreOne ops all ss rs → ua e ss ≡ ub f rs

pub first_same : (ops all : Table) (ea eb : Faults) → FaultsSame ops all ea eb → (es fs : List Term) → AreAlikeLists ops all es fs → first_early ea es ≡ first_early eb fs
first_same ops all ea eb same [] [] z = refl
first_same ops all ea eb same [] (f ∷ fs) z = absurd z
first_same ops all ea eb same (e ∷ es) [] z = absurd z
first_same ops all ea eb same (e ∷ es) (f ∷ fs) z = ap₂ or_else (same e f z.0) (first_same ops all ea eb same es fs z.1)

module _ (ops all : Table) (ea eb : Faults) (same : FaultsSame ops all ea eb) (ua ub : Unfixed) (unfixed : UnfixedSame ops all ua ub) where
  steps_places : (p q : Place) (ss rs : Steps) → p ≡ q → AlikeSteps AreOne ops all ss rs → steps_place p ss ≡ steps_place q rs
  steps_places p q _ _ e no_steps_alike = e
  steps_places p q _ _ e (more_steps_alike ss rs at s r t a) = refl

  last_step : (e f : Term) (ss rs : Steps) (at : Place) (s r : Step) → Alike AreOne ops all e f → AlikeSteps AreOne ops all ss rs → early_steps ea ua e ss ≡ early_steps eb ub f rs
      → AlikeStep AreOne ops all s r → early_steps ea ua e (term.MoreSteps ss at s) ≡ early_steps eb ub f (term.MoreSteps rs at r)
  last_step e f ss rs at _ _ a t rest prime_alike = ap₂ too_early (steps_places (place_of e) (place_of f) ss rs (same_place AreOne ops all e f a) t) (unfixed e f ss rs a t)
  last_step e f ss rs at _ _ a t rest (index_alike ts us z) = ap₂ or_else rest (first_same ops all ea eb same (terms_list ts) (terms_list us) (terms_zip ops all ts us z))
  last_step e f ss rs at _ _ a t rest (field_alike h) = rest

  steps_same : (e f : Term) (ss rs : Steps) → Alike AreOne ops all e f → AlikeSteps AreOne ops all ss rs → early_steps ea ua e ss ≡ early_steps eb ub f rs
  steps_same e f _ _ a no_steps_alike = same e f a
  steps_same e f _ _ a (more_steps_alike ss rs at s r t z) = last_step e f ss rs at s r a t (steps_same e f ss rs a t) z

  none_fixed : (at : Place) (e f : Term) → Alike AreOne ops all e f → too_early at (ua e term.NoSteps) ≡ too_early at (ub f term.NoSteps)
  none_fixed at e f a = ap (too_early at) (unfixed e f term.NoSteps term.NoSteps a no_steps_alike)

  unchanged_meaning : (B : VariableSet) (at : Place) (e f : Term) → Alike AreOne ops all e f → (n j : ℕ) (p : Place) (l : Level) (m k : Meaning) → AlikeMeanings AreOne ops all m k
      → early_unchanged ea ua B at e (n, Placed p l m) ≡ early_unchanged eb ub B at f (j, Placed p l k)
  unchanged_meaning B at e f a n j p l _ _ (variable_alike x y q) = ap (λ (z : ℕ). early_unchanged ea ua B at e (n, Placed p l (term.Variable z))) q
  unchanged_meaning B at e f a n j p l _ _ (tuple_alike ts us t) =
      first_same ops all ea eb same (map (unchanged_of at) (terms_list ts)) (map (unchanged_of at) (terms_list us))
      (map_zip (Alike AreOne ops all) (Alike AreOne ops all) (unchanged_of at) (unchanged_of at) (unchanged_alike_of ops all at) (terms_list ts) (terms_list us) (terms_zip ops all ts us t))
  unchanged_meaning B at e f a n j p l m k h = none_fixed at e f a

  unchanged_term : (B : VariableSet) (at : Place) (e f : Term) → Alike AreOne ops all e f → (n j : ℕ) (s t : Term) → Alike AreOne ops all s t
      → early_unchanged ea ua B at e (n, s) ≡ early_unchanged eb ub B at f (j, t)
  unchanged_term B at e f a n j _ _ (placed_alike p l m k h) = unchanged_meaning B at e f a n j p l m k h

  unchanged_same : (B : VariableSet) (at : Place) (e f : Term) → Alike AreOne ops all e f → (p q : ℕ × Term) → AreFoundAlike ops all p q
      → early_unchanged ea ua B at e p ≡ early_unchanged eb ub B at f q
  unchanged_same B at e f a p q h = unchanged_term B at e f a p.0 q.0 p.1 q.1 h.terms

  module _ (w : Which) (v : ℕ) (found : FoundAlike ops all) where
    abbrev here : Setting
    here = record { which = w; variables = v; table = ops }

    abbrev there : Setting
    there = record { which = w; variables = v; table = all }

    terms_same : (at : Place) (m n : Meaning) → AlikeMeanings AreOne ops all m n → first_early ea (terms_in ops at m) ≡ first_early eb (terms_in all at n)
    terms_same at m n h = first_same ops all ea eb same (terms_in ops at m) (terms_in all at n) (terms_in_zip ops all at m n h)

    prefix_same : (B : VariableSet) (at : Place) (o : PrefixOperator) (e f : Term) → Alike AreOne ops all e f
        → early_meaning here ea ua B at (term.Prefix o e) ≡ early_meaning there eb ub B at (term.Prefix o f)
    prefix_same B at prefix.Unchanged e f a = unchanged_same B at e f a (behind ops (length ops) zero e) (behind all (length all) zero f) (found zero e f a)
    prefix_same B at o e f a = terms_same at (term.Prefix o e) (term.Prefix o f) (prefix_alike o e f a)

    meaning_same : (B : VariableSet) (at : Place) (m n : Meaning) → AlikeMeanings AreOne ops all m n → early_meaning here ea ua B at m ≡ early_meaning there eb ub B at n
    meaning_same B at _ _ (variable_alike x y q) = ap (λ (z : ℕ). early_meaning here ea ua B at (term.Variable z)) q
    meaning_same B at _ _ (postfix_alike e f ss rs s r a t d) = steps_same e f (term.MoreSteps ss at s) (term.MoreSteps rs at r) a (more_steps_alike ss rs at s r t d)
    meaning_same B at _ _ (prefix_alike o e f a) = prefix_same B at o e f a
    meaning_same B at _ _ (angle_alike e f s t a d) = ap₂ or_else (same e f a) (none_fixed at s t d)
    meaning_same B at m n h = terms_same at m n h

    taken_same : (b : Bool) (x y : Option FormFault) → x ≡ y → (if b then x else None) ≡ (if b then y else None)
    taken_same true x y e = e
    taken_same false x y e = refl

    pub placed_same : (B : VariableSet) (e f : Term) → Alike AreOne ops all e f → early_placed here ea ua B e ≡ early_placed there eb ub B f
    placed_same B _ _ (placed_alike at l m n h) = taken_same (is_taken w l) (early_meaning here ea ua B at m) (early_meaning there eb ub B at n) (meaning_same B at m n h)

module _ (w : Which) (v : ℕ) (ops all : Table) (found : FoundAlike ops all) where
  abbrev one : Setting
  one = record { which = w; variables = v; table = ops }

  abbrev other : Setting
  other = record { which = w; variables = v; table = all }

  pub least_same : (C : VariableSet) (k : ℕ) (e f : Term) (ss rs : Steps) → Alike AreOne ops all e f → AlikeSteps AreOne ops all ss rs
      → least v (outside C (reads_primed ops k e ss)) ≡ least v (outside C (reads_primed all k f rs))
  least_same C k e f ss rs a t = ap (λ (P : VariableSet). least v (outside C P)) (primed_same ops all k e f ss rs a t)

  pub early_same : (B : VariableSet) (k : ℕ) (e f : Term) → Alike AreOne ops all e f → early one B k e ≡ early other B k f
  early_same B zero e f a = refl
  early_same B (suc k) e f a =
      placed_same ops all (early one B k) (early other B k) (early_same B k)
      (λ s ss. least v (outside B (reads_primed ops k s ss))) (λ s ss. least v (outside B (reads_primed all k s ss))) (least_same B k) w v found B e f a
