-- What is filled at ends that were gone through.
use Rattle.std.proofs.Common.{◌≡◌, inl, inr, refl, sym, ◌∙◌, subst, ℕ, List, [], ◌∷◌, ◌++◌, map, length}
use Rattle.std.specs.Prelude.{Contains, Option, None, Some, slice_get}
use Rattle.values_core.specs.Data.{Val}
use Rattle.values_core.specs.Ascending.{head_in, none_in}
use Rattle.states_core.specs.States.{Values}
use Rattle.states_core.specs.declared.fault.Fault.{Fault}
use Rattle.names_terms.specs.Terms.{Term}
use Rattle.eval_meanings.specs.Contexts.{Context, Places}
use Rattle.eval_meanings.specs.Laws.{IsWithin}
use Rattle.actions_meanings.specs.Forms.{Setting}
use Rattle.actions_meanings.specs.Reads.{VariableSet}
use Rattle.actions_meanings.specs.Outcomes.{Fixes}
use Rattle.logs_updates.specs.Changes.{LeadsTo}
use Rattle.logs_updates.specs.declared.update.See.{See}
use Rattle.actions_meanings.specs.Filled.{Fills}
use Rattle.steps_found_states.specs.Walks.{Agrees, Finds, StaysPossible}
use Rattle.steps_found_states.specs.Parts.{FixesAll, GroundsAll, Parts}
use Rattle.steps_found_states.proofs.Lists.{all_by_place, in_cases, in_left, in_right, of_map, one_in}
use Rattle.steps_found_states.proofs.Finding.{completes_less, possible_itself, possible_trans, within_itself, within_trans}
use Rattle.steps_why_branches.specs.declared.sparing.Spared.{Spared}
use Rattle.steps_why_branches.specs.declared.why.Why.{Why}
use Rattle.steps_why_branches.specs.declared.why.Ended.{Ended}
use Rattle.steps_why_branches.specs.declared.why.Ended.TheVariants.{Ends, Passed}
use Rattle.steps_why_walk.specs.Ends.{with_first}
use Rattle.steps_why_walk.specs.Walking.{Passes, PassesOn}

abbrev pub Sets : Type 1
Sets = VariableSet → Type 0

pub passed_same : (p q : Places) (u o : Option Spared) → Passed p u ≡ Passed q o → p ≡ q
passed_same p q u o e = cc

pub spared_same : (p q : Places) (u o : Option Spared) → Passed p u ≡ Passed q o → u ≡ o
spared_same p q u o e = cc

pub not_passed : (w : Why) (q : Places) (o : Option Spared) → Ends w ≡ Passed q o → ⊥
not_passed w q o e = cc

-- nothing is seen
pub none_seen : (q : Places) → Agrees [] q
none_seen q = all_by_place (λ (see : See). (v : Val) → slice_get q see.path.variable.0 ≡ Some (Some v) → LeadsTo see.path.keys v see.value) [] tt

abbrev pub Further : Places → Places → Type 0
Further p q = (length q ≡ length p) × IsWithin p q × StaysPossible p q

pub further_trans : (p q r : Places) → Further p q → Further q r → Further p r
further_trans p q r a b = (b.0 ∙ a.0, within_trans p q r a.1 b.1, possible_trans p q r a.2 b.2)

module _ (p : Places) (fixes : Sets) where
  pub passes_none : Passes p fixes []
  passes_none = record { further = λ q o m. absurd (none_in (Passed q o) m); filled = λ q o C m x. absurd (none_in (Passed q o) m) }

  pub passes_ended : (w : Why) → Passes p fixes (Ends w ∷ [])
  passes_ended w = record {
    further = λ q o m. absurd (not_passed w q o (one_in (Ends w) (Passed q o) m));
    filled = λ q o C m x. absurd (not_passed w q o (one_in (Ends w) (Passed q o) m));
  }

  pub passes_one : (q : Places) (u : Option Spared) → Further p q → ((C : VariableSet) → fixes C → Fills C q) → Passes p fixes (Passed q u ∷ [])
  passes_one q u f h = record {
    further = λ r o m. subst (λ (x : Places). Further p x) (passed_same q r u o (one_in (Passed q u) (Passed r o) m)) f;
    filled = λ r o C m x. subst (λ (y : Places). Fills C y) (passed_same q r u o (one_in (Passed q u) (Passed r o) m)) (h C x);
  }

  pub passes_append : (ns ms : List Ended) → Passes p fixes ns → Passes p fixes ms → Passes p fixes (ns ++ ms)
  passes_append ns ms a b = record {
    further = λ q o m. elim (in_cases ns ms (Passed q o) m) [ inl n ↦ a.further q o n | inr n ↦ b.further q o n ];
    filled = λ q o C m x. elim (in_cases ns ms (Passed q o) m) [ inl n ↦ a.filled q o C n x | inr n ↦ b.filled q o C n x ];
  }

  -- in other words
  pub passes_same : (others : Sets) (ns : List Ended) → ((C : VariableSet) → others C → (D : VariableSet) × fixes D × ((q : Places) → length q ≡ length p → Fills D q → Fills C q)) → Passes p fixes ns → Passes p others ns
  passes_same others ns h a = record {
    further = a.further;
    filled = λ q o C m x. let r = h C x in r.2 q (a.further q o m).0 (a.filled q o r.0 m r.1);
  }

  -- of what is found where nothing is seen
  pub passes_found : (H : Values → Type 0) (F : Values → Fault → Type 0) (q : Places) → Finds [] p fixes H F (q ∷ []) → Passes p fixes (Passed q None ∷ [])
  passes_found H F q w = passes_one q None (w.further q (head_in q [])) (λ C x. w.filled q C (head_in q []) x)

-- behind several ends

pub on_none : (fixes : Sets) → PassesOn [] fixes []
on_none fixes = record { further = λ q o m. absurd (none_in (Passed q o) m); filled = λ q o C m x. absurd (none_in (Passed q o) m) }

-- whatever was passed over before, what is filled is the same
filled_behind : (u : Option Spared) (ns : List Ended) (q : Places) (o : Option Spared) → Contains (map (with_first u) ns) (Passed q o) → (v : Option Spared) × Contains ns (Passed q v)
filled_behind u ns q o m = let r = of_map (with_first u) ns (Passed q o) m in by_first u r.0 r.1 r.2
  where
    by_first : (u : Option Spared) (n : Ended) → Contains ns n → with_first u n ≡ Passed q o → (v : Option Spared) × Contains ns (Passed q v)
    by_first None n m e = (o, subst (λ (x : Ended). Contains ns x) e m)
    by_first (Some w) (Passed p v) m e = (v, subst (λ (x : Places). Contains ns (Passed x v)) (passed_same p q (Some w) o e) m)
    by_first (Some w) (Ends y) m e = absurd (not_passed y q o e)

pub on_passed : (p : Places) (u : Option Spared) (fixes : Sets) (ns : List Ended) → Passes p fixes ns → PassesOn (Passed p u ∷ []) fixes (map (with_first u) ns)
on_passed p u fixes ns a = record {
  further = λ q o m. let r = filled_behind u ns q o m in let f = a.further q r.0 r.1 in (p, u, head_in (Passed p u) [], f.0, f.1, f.2);
  filled = λ q o C m x. let r = filled_behind u ns q o m in a.filled q r.0 C r.1 x;
}

pub on_ended : (fixes : Sets) (w : Why) → PassesOn (Ends w ∷ []) fixes (Ends w ∷ [])
on_ended fixes w = record {
  further = λ q o m. absurd (not_passed w q o (one_in (Ends w) (Passed q o) m));
  filled = λ q o C m x. absurd (not_passed w q o (one_in (Ends w) (Passed q o) m));
}

pub on_more : (fixes : Sets) (old new ms : List Ended) (n : Ended) → PassesOn old fixes new → PassesOn (n ∷ []) fixes ms → PassesOn (old ++ n ∷ []) fixes (new ++ ms)
on_more fixes old new ms n a b = record {
  further = λ q o m. elim (in_cases new ms (Passed q o) m) [
    | inl i ↦ let r = a.further q o i in (r.0, r.1, in_left old (n ∷ []) (Passed r.0 r.1) r.2, r.3, r.4, r.5)
    | inr i ↦ let r = b.further q o i in (r.0, r.1, in_right old (n ∷ []) (Passed r.0 r.1) r.2, r.3, r.4, r.5)
  ];
  filled = λ q o C m x. elim (in_cases new ms (Passed q o) m) [ inl i ↦ a.filled q o C i x | inr i ↦ b.filled q o C i x ];
}

pub on_less : (fixes : Sets) (old new : List Ended) (n : Ended) → PassesOn old fixes new → PassesOn (old ++ n ∷ []) fixes new
on_less fixes old new n a = record {
  further = λ q o m. let r = a.further q o m in (r.0, r.1, in_left old (n ∷ []) (Passed r.0 r.1) r.2, r.3, r.4, r.5);
  filled = a.filled;
}

-- one after the other
pub then_passes : (p : Places) (fixes others : Sets) (more : VariableSet → Sets) (ns ms : List Ended) → ((C : VariableSet) → others C → (D : VariableSet) × fixes D × more D C) → ((D : VariableSet) → fixes D → PassesOn ns (more D) ms)
    → (D : VariableSet) → fixes D → Passes p fixes ns → Passes p others ms
then_passes p fixes others more ns ms split b D y a = record {
  further = λ q o m. let r = (b D y).further q o m in further_trans p r.0 q (a.further r.0 r.1 r.2) (r.3, r.4, r.5);
  filled = λ q o C m x. let s = split C x in (b s.0 s.1).filled q o C m s.2;
}

-- What is left of all of several parts, on the way through them.

pub record IsOnWay (g : Setting) (d : ℕ) (B : VariableSet) (p : Places) (done rest : Parts) (ends : List Ended) : Type 0 where
  pub passes : Passes p (FixesAll g done B) ends
  pub left : (D : VariableSet) × FixesAll g done B D × ((C : VariableSet) × FixesAll g rest D C)
  pub grounds : (D : VariableSet) (q : Places) (o : Option Spared) → FixesAll g done B D → Contains ends (Passed q o) → GroundsAll g d [] D q rest

module _ (g : Setting) (d : ℕ) where
  fixes_split : (es : Parts) (e : Context × Term) (B C : VariableSet) → FixesAll g (es ++ e ∷ []) B C → (D : VariableSet) × FixesAll g es B D × Fixes g e.1 D C
  fixes_split [] e B C h = (B, refl, subst (λ (X : VariableSet). Fixes g e.1 B X) (sym h.2) h.1)
  fixes_split (x ∷ es) e B C h = let r = fixes_split es e h.0 C h.2 in (r.0, (h.0, h.1, r.1), r.2)

  fixes_more : (es : Parts) (e : Context × Term) (B C D : VariableSet) → FixesAll g es B D → Fixes g e.1 D C → FixesAll g (es ++ e ∷ []) B C
  fixes_more [] e B C D h k = (C, subst (λ (X : VariableSet). Fixes g e.1 X C) h k, refl)
  fixes_more (x ∷ es) e B C D h k = (h.0, h.1, fixes_more es e h.0 C D h.2 k)

  rest_grounds : (B C : VariableSet) (p q : Places) (e : Context × Term) (es : Parts) → Fixes g e.1 B C → length q ≡ length p → IsWithin p q → Fills C q → GroundsAll g d [] B p (e ∷ es) → GroundsAll g d [] C q es
  rest_grounds B C p q e es x l w f h = record {
    long = l ∙ h.long;
    fills = f;
    agrees = none_seen q;
    reads = λ t k. (h.reads t (completes_less p q t l w k)).1;
    walks = h.walks.1 C q x l w f;
    tuples = h.tuples.1;
  }

  pub way_begins : (B C : VariableSet) (p : Places) (es : Parts) → GroundsAll g d [] B p es → FixesAll g es B C → IsOnWay g d B p [] es (Passed p None ∷ [])
  way_begins B C p es h x = record {
    passes = passes_one p (FixesAll g [] B) p None (refl, within_itself p, possible_itself p) (λ D e. subst (λ (X : VariableSet). Fills X p) (sym e) h.fills);
    left = (B, refl, (C, x));
    grounds = λ D q o e m. subst (λ (y : Places). GroundsAll g d [] D y es) (passed_same p q None o (one_in (Passed p None) (Passed q o) m)) (subst (λ (X : VariableSet). GroundsAll g d [] X p es) (sym e) h);
  }

  pub way_goes_on : (B : VariableSet) (p : Places) (done : Parts) (e : Context × Term) (rest : Parts) (old new : List Ended) → IsOnWay g d B p done (e ∷ rest) old
      → ((D : VariableSet) → FixesAll g done B D → PassesOn old (Fixes g e.1 D) new) → IsOnWay g d B p (done ++ e ∷ []) rest new
  way_goes_on B p done e rest old new h b = record {
    passes = then_passes p (FixesAll g done B) (FixesAll g (done ++ e ∷ []) B) (λ D. Fixes g e.1 D) old new (λ C x. fixes_split done e B C x) b h.left.0 h.left.1 h.passes;
    left = (h.left.2.1.0, fixes_more done e B h.left.2.1.0 h.left.0 h.left.1 h.left.2.1.1, (h.left.2.0, h.left.2.1.2));
    grounds = λ C q o x m.
        let s = fixes_split done e B C x in
        let r = (b s.0 s.1).further q o m in
        rest_grounds s.0 C r.0 q e rest s.2 r.3 r.4 ((b s.0 s.1).filled q o C m s.2) (h.grounds s.0 r.0 r.1 s.1 r.2);
  }
