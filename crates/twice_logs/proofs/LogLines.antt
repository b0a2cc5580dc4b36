-- Lines and assumptions, one by one.
use Rattle.std.proofs.Common.{◌≡◌, ap, inl, inr, refl, subst, ◌∙◌, List, [], ◌∷◌, length}
use Rattle.std.specs.Prelude.{ℕ, zero, suc, Bool, Some, Result, Ok, Err, slice_get}
use Rattle.std.specs.List.{AllZip}
use Rattle.base_core.specs.declared.place.Place.{Place}
use Rattle.states_core.specs.declared.fault.Fault.{Fault}
use Rattle.names_terms.specs.declared.operator.Operator.{Operator}
use Rattle.names_terms.specs.Lists.{terms_list}
use Rattle.names_terms.specs.Terms.{Term, Terms, place_of}
use Rattle.eval_meanings.specs.Contexts.{Context}
use Rattle.eval_meanings.specs.Evaluates.{Evaluates}
use Rattle.eval_meanings.specs.Outcomes.{truth_at}
use Rattle.eval_meanings.specs.Unchanged.{TruthOf}
use Rattle.names_term_parts.specs.Slots.{UsesSmaller}
use Rattle.logs_updates.specs.declared.line.Line.{Line}
use Rattle.steps_lines_defs.specs.Logs.{OfLine, place_of_line}
use Rattle.twice_terms.specs.Alike.{Alike, AlikeTerms}
use Rattle.twice_terms.specs.Laws.{AreOne}
use Rattle.twice_terms.proofs.Inverted.{same_place}
use Rattle.twice_terms.proofs.Zips.{zip_at}
use Rattle.twice_outcomes.proofs.AlikeLists.{terms_zip}
use Rattle.twice_outcomes.specs.Outcomes.{EvaluatesAlike}
use Rattle.twice_logs.specs.AlikeLogs.{AreAlikeLines}

pub zip_long : {A B : Type 0} (R : A → B → Type 0) (xs : List A) (ys : List B) → AllZip R xs ys → length xs ≡ length ys
zip_long R [] [] z = refl
zip_long R [] (y ∷ ys) z = absurd z
zip_long R (x ∷ xs) [] z = absurd z
zip_long R (x ∷ xs) (y ∷ ys) z = ap suc (zip_long R xs ys z.1)

module _ (ops all : List Operator) where
  pub same_places : (xs ys : List Line) (n : ℕ) → AllZip (AreAlikeLines ops all) xs ys → place_of_line (slice_get xs n) ≡ place_of_line (slice_get ys n)
  same_places [] [] n z = refl
  same_places [] (y ∷ ys) n z = absurd z
  same_places (x ∷ xs) [] n z = absurd z
  same_places (x ∷ xs) (y ∷ ys) zero z = z.0.at
  same_places (x ∷ xs) (y ∷ ys) (suc n) z = same_places xs ys n z.1

  -- what holds of the line of that number holds of that of the other log
  pub of_line : (xs ys : List Line) (n : ℕ) (P Q : Line → Type 0) → AllZip (AreAlikeLines ops all) xs ys → ((l m : Line) → AreAlikeLines ops all l m → P l → Q m)
      → OfLine xs n P → OfLine ys n Q
  of_line xs ys n P Q z through h =
      let f : (m : Line) × (slice_get ys n ≡ Some m) × AreAlikeLines ops all h.0 m = zip_at (AreAlikeLines ops all) xs ys n h.0 z h.1 in
      (f.0, f.1, through h.0 f.0 f.2 h.2)

  module _ (evaluates : EvaluatesAlike) (smaller : UsesSmaller ops) (smaller_other : UsesSmaller all) where
    truth_same : (e f : Term) (d : ℕ) (c : Context) (r : Result Bool Fault) → Alike AreOne ops all e f → TruthOf (Evaluates ops d) c e r → TruthOf (Evaluates all d) c f r
    truth_same e f d c r a (inl h) =
        inl (h.0, evaluates ops all smaller smaller_other e f a d c (Ok h.0) h.1, subst (λ (p : Place). truth_at p h.0 r) (same_place AreOne ops all e f a) h.2)
    truth_same e f d c r a (inr h) = inr (h.0, evaluates ops all smaller smaller_other e f a d c (Err h.0) h.1, h.2)

    -- a fact of the assumption of that number
    pub of_assumption : (ts us : Terms) (k d : ℕ) (c : Context) (r : Result Bool Fault) → AlikeTerms AreOne ops all ts us
        → (e : Term) × (slice_get (terms_list ts) k ≡ Some e) × TruthOf (Evaluates ops d) c e r
        → (f : Term) × (slice_get (terms_list us) k ≡ Some f) × TruthOf (Evaluates all d) c f r
    of_assumption ts us k d c r t h =
        let g : (f : Term) × (slice_get (terms_list us) k ≡ Some f) × Alike AreOne ops all h.0 f = zip_at (Alike AreOne ops all) (terms_list ts) (terms_list us) k h.0 (terms_zip ops all ts us t) h.1 in
        (g.0, g.1, truth_same h.0 g.0 d c r g.2 h.2)

    pub of_false_assumption : (ts us : Terms) (k d : ℕ) (c : Context) (r : Result Bool Fault) (at : Place) → AlikeTerms AreOne ops all ts us
        → (e : Term) × (slice_get (terms_list ts) k ≡ Some e) × TruthOf (Evaluates ops d) c e r × (at ≡ place_of e)
        → (f : Term) × (slice_get (terms_list us) k ≡ Some f) × TruthOf (Evaluates all d) c f r × (at ≡ place_of f)
    of_false_assumption ts us k d c r at t h =
        let g : (f : Term) × (slice_get (terms_list us) k ≡ Some f) × Alike AreOne ops all h.0 f = zip_at (Alike AreOne ops all) (terms_list ts) (terms_list us) k h.0 (terms_zip ops all ts us t) h.1 in
        (g.0, g.1, truth_same h.0 g.0 d c r g.2 h.2, h.3 ∙ same_place AreOne ops all h.0 g.0 g.2)
