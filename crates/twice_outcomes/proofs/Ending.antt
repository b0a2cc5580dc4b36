-- The terms of which alike terms are made are alike one by one, and alike terms end as soon.
use Rattle.std.proofs.Common.{List, [], ◌∷◌, ◌++◌}
use Rattle.std.specs.Prelude.{ℕ, zero, suc, All, slice_get}
use Rattle.base_core.specs.declared.place.Place.{Place}
use Rattle.names_terms.specs.declared.level.Level.{Level}
use Rattle.names_terms.specs.declared.level.Level.TheVariants as levels
use Rattle.names_terms.specs.Lists.{terms_list}
use Rattle.names_terms.specs.Terms.{Term, Placed, Meaning}
use Rattle.names_term_parts.specs.Parts.{operand_list, set_list, arm_list}
use Rattle.eval_meanings.specs.Contexts.{Table}
use Rattle.actions_meanings.specs.Reads.{Ends, body_of, path_terms, step_terms, terms_in}
use Rattle.twice_terms.specs.Alike.{Alike, placed_alike, AlikeMeanings, use_alike, standard_alike, parenthesized_alike, scoped_alike, all_alike, any_alike, prefix_alike, infix_alike, postfix_alike, set_alike, filter_alike, map_alike, tuple_alike, function_alike, function_set_alike, record_alike, record_set_alike, except_alike, quantified_alike, choose_alike, if_alike, case_alike, case_other_alike, box_alike, angle_alike, fairness_alike}
use Rattle.twice_terms.specs.Laws.{AreOne}
use Rattle.twice_terms.proofs.Zips.{zip_append}
use Rattle.twice_outcomes.specs.Alikes.{AreAlikeLists}
use Rattle.twice_outcomes.proofs.AlikeLists.{terms_zip}
use Rattle.twice_outcomes.proofs.ActionsZipping.{all_zipped}
use Rattle.twice_outcomes.proofs.Lists.{operands_zip, sets_zip, values_zip, arm_terms_zip, step_zip, path_terms_zip, change_terms_zip, body_zip}
use Rattle.twice_outcomes.proofs.Spelled.{unchanged_alike_of, changed_alike_of}

module _ (ops all : Table) where
  abbrev AreTerms : List Term → List Term → Type 0
  AreTerms xs ys = AreAlikeLists ops all xs ys

  behind : (xs ys : List Term) (us vs : List Term) → AreTerms xs ys → AreTerms us vs → AreTerms (xs ++ us) (ys ++ vs)
  behind xs ys us vs z w = zip_append (Alike AreOne ops all) xs ys us vs z w

  pub terms_in_zip : (at : Place) (m n : Meaning) → AlikeMeanings AreOne ops all m n → AreTerms (terms_in ops at m) (terms_in all at n)
  terms_in_zip at _ _ (use_alike k j ts us r t) =
      behind (terms_list ts) (terms_list us) (body_of (slice_get ops k)) (body_of (slice_get all j)) (terms_zip ops all ts us t) (body_zip ops all k j r)
  terms_in_zip at _ _ (standard_alike o ts us t) = terms_zip ops all ts us t
  terms_in_zip at _ _ (parenthesized_alike e f a) = (a, tt)
  terms_in_zip at _ _ (scoped_alike ks js e f r a) = (a, tt)
  terms_in_zip at _ _ (all_alike ts us t) = terms_zip ops all ts us t
  terms_in_zip at _ _ (any_alike ts us t) = terms_zip ops all ts us t
  terms_in_zip at _ _ (prefix_alike o e f a) = (a, tt)
  terms_in_zip at _ _ (infix_alike o os ps e f t a) = behind (operand_list os) (operand_list ps) (e ∷ []) (f ∷ []) (operands_zip ops all os ps t) (a, tt)
  terms_in_zip at _ _ (postfix_alike e f ss rs s r a t d) =
      behind (e ∷ path_terms ss) (f ∷ path_terms rs) (step_terms s) (step_terms r) (a, path_terms_zip ops all ss rs t) (step_zip ops all s r d)
  terms_in_zip at _ _ (set_alike ts us t) = terms_zip ops all ts us t
  terms_in_zip at _ _ (filter_alike v w e f a d) = (a, (d, tt))
  terms_in_zip at _ _ (map_alike e f bs cs a t) = (a, sets_zip ops all bs cs t)
  terms_in_zip at _ _ (tuple_alike ts us t) = terms_zip ops all ts us t
  terms_in_zip at _ _ (function_alike bs cs e f t a) = behind (set_list bs) (set_list cs) (e ∷ []) (f ∷ []) (sets_zip ops all bs cs t) (a, tt)
  terms_in_zip at _ _ (function_set_alike v w e f a d) = (a, (d, tt))
  terms_in_zip at _ _ (record_alike fs gs t) = values_zip ops all fs gs t
  terms_in_zip at _ _ (record_set_alike fs gs t) = values_zip ops all fs gs t
  terms_in_zip at _ _ (except_alike e f cs ds a t) = (a, change_terms_zip ops all cs ds t)
  terms_in_zip at _ _ (quantified_alike q bs cs e f t a) = behind (set_list bs) (set_list cs) (e ∷ []) (f ∷ []) (sets_zip ops all bs cs t) (a, tt)
  terms_in_zip at _ _ (choose_alike v w e f a d) = (a, (d, tt))
  terms_in_zip at _ _ (if_alike p q v w e f a c d) = (a, (c, (d, tt)))
  terms_in_zip at _ _ (case_alike ps qs t) = arm_terms_zip ops all ps qs t
  terms_in_zip at _ _ (case_other_alike ps qs e f t a) = behind (arm_list ps) (arm_list qs) (e ∷ []) (f ∷ []) (arm_terms_zip ops all ps qs t) (a, tt)
  terms_in_zip at _ _ (box_alike e f v w a d) = (a, (unchanged_alike_of ops all at v w d, tt))
  terms_in_zip at _ _ (angle_alike e f v w a d) = (a, (changed_alike_of ops all at v w d, tt))
  terms_in_zip at _ _ (fairness_alike v w e f a d) = (a, (d, tt))
  terms_in_zip at m n h = tt

  -- where the terms below end, the term does
  terms_end : (k : ℕ) → ((e f : Term) → Alike AreOne ops all e f → Ends ops k e → Ends all k f) → (at : Place) (m n : Meaning) → AlikeMeanings AreOne ops all m n
      → All (Ends ops k) (terms_in ops at m) → All (Ends all k) (terms_in all at n)
  terms_end k step at m n h = all_zipped (Alike AreOne ops all) (Ends ops k) (Ends all k) step (terms_in ops at m) (terms_in all at n) (terms_in_zip at m n h)

  level_ends : (k : ℕ) → ((e f : Term) → Alike AreOne ops all e f → Ends ops k e → Ends all k f) → (at : Place) (l : Level) (m n : Meaning) → AlikeMeanings AreOne ops all m n
      → Ends ops (suc k) (Placed at l m) → Ends all (suc k) (Placed at l n)
  level_ends k step at levels.Constant m n h e = tt
  level_ends k step at levels.State m n h e = terms_end k step at m n h e
  level_ends k step at levels.Action m n h e = terms_end k step at m n h e
  level_ends k step at levels.Temporal m n h e = terms_end k step at m n h e

  placed_ends : (k : ℕ) → ((e f : Term) → Alike AreOne ops all e f → Ends ops k e → Ends all k f) → (e f : Term) → Alike AreOne ops all e f
      → Ends ops (suc k) e → Ends all (suc k) f
  placed_ends k step _ _ (placed_alike at l m n h) = level_ends k step at l m n h

  pub ends_alike : (k : ℕ) (e f : Term) → Alike AreOne ops all e f → Ends ops k e → Ends all k f
  ends_alike zero e f a h = absurd h
  ends_alike (suc k) e f a h = placed_ends k (ends_alike k) e f a h
