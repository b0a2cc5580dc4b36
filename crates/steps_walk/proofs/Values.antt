-- Rows that are a test, or that say the value of a variable.
use Rattle.std.proofs.Common.{◌≡◌, ◌⊎◌, inl, inr, refl, sym, subst, ℕ, zero, suc, ◌<◌, List, [], ◌∷◌, length, arith}
use Rattle.std.specs.Prelude.{Bool, true, false, None, Some, Contains, Ok, Err, slice_get, slice_set, if◌then◌else◌}
use Rattle.values_core.specs.Data.{Val, function, integer, members, model, set, string, truth}
use Rattle.values_core.specs.IsValue.{IsValue}
use Rattle.values_core.specs.Ascending.{head_in}
use Rattle.values_core.specs.Sets.{items_of}
use Rattle.names_terms.specs.Terms.{Term, place_of}
use Rattle.values_sets.specs.DescribedSets.{Described}
use Rattle.values_sets.specs.Membership.{Belongs}
use Rattle.eval_meanings.specs.declared.fault.EvalFault.{EvalFault}
use Rattle.eval_meanings.specs.declared.fault.EvalFault.TheVariants.{Refused, NoMemory}
use Rattle.eval_meanings.specs.Answers.{Tells}
use Rattle.eval_meanings.specs.Contexts.{Context, Places}
use Rattle.eval_meanings.specs.Evaluates.{Evaluates, Describes}
use Rattle.eval_meanings.specs.Laws.{IsWithin}
use Rattle.eval_meanings.specs.Outcomes.{fault}
use Rattle.eval_meanings.specs.Sets.{MeansSet, list_at}
use Rattle.eval_meanings.specs.Unchanged.{TruthOf}
use Rattle.actions_meanings.specs.Forms.{Setting, assign, choose, form, test}
use Rattle.actions_meanings.specs.Reads.{VariableSet}
use Rattle.logs_updates.specs.declared.update.See.{See}
use Rattle.actions_meanings.specs.Filled.{Completes, Fills, at_next}
use Rattle.steps_found_states.specs.Walks.{Agrees, StaysPossible, Walked}
use Rattle.steps_found_states.specs.Filling.{Gets}
use Rattle.steps_found_states.proofs.Filling.{gets_new, gets_other, gets_same, gets_unseen, seen_agrees}
use Rattle.steps_found_states.proofs.Lists.{all_in, one_in}
use Rattle.eval_laws.proofs.FineContexts.{members_are}
use Rattle.names_term_parts.proofs.Contained.{contains_nothing}
use Rattle.steps_found_states.proofs.Simple.{gets_listed, walked_assign, walked_choose, walked_false, walked_no_list, walked_no_set, walked_no_truth, walked_no_value, walked_true}
use Rattle.steps_filling.specs.Fillings.{AreFilled, Assigns, Chooses, FailsToChoose, IsEmpty, SeenIn}
use Rattle.steps_walk.specs.Walking.{IsWalked}

-- a place that is there and has no value
empty_place : (p : Places) (x : ℕ) → x < length p → IsEmpty p x → slice_get p x ≡ Some None
empty_place [] x l m = absurd (omega (arith, l))
empty_place (None ∷ p) zero l m = refl
empty_place (Some v ∷ p) zero l m = absurd (m v refl)
empty_place (o ∷ p) (suc x) l m = empty_place p x (omega (arith, l)) m

members_are_values : (u : Val) → IsValue u → (v : Val) → Contains (items_of u) v → IsValue v
members_are_values (set vs) i v c = all_in IsValue (members vs) (members_are vs i) v c
members_are_values (model s) i v c = absurd (contains_nothing v c)
members_are_values (truth b) i v c = absurd (contains_nothing v c)
members_are_values (integer z) i v c = absurd (contains_nothing v c)
members_are_values (string s) i v c = absurd (contains_nothing v c)
members_are_values (function ps) i v c = absurd (contains_nothing v c)

module _ (sees : List See) (B : VariableSet) (p : Places) (x : ℕ) (fills : Fills B p) (agrees : Agrees sees p) (l : x < length p) where
  as_found : (P : Val → Type 0) (qs rs : List Places) → qs ≡ rs → Gets sees B p x P rs → Gets sees B p x P qs
  as_found P qs rs z h = subst (λ (us : List Places). Gets sees B p x P us) (sym z) h

  gets_one : (v : Val) → IsValue v → IsEmpty p x → SeenIn sees x v → Gets sees B p x (λ w. w ≡ v) (slice_set p x (Some v) ∷ [])
  gets_one v i m s = gets_new sees B p x (λ w. w ≡ v) v fills agrees l (empty_place p x l m) s i refl (λ w e. e)

  pub gets_assigned : (v : Val) (qs : List Places) → Assigns sees x v p qs → Gets sees B p x (λ w. w ≡ v) qs
  gets_assigned v qs (inl (w, e, inl (s, z))) = as_found (λ u. u ≡ v) qs (p ∷ []) z (gets_same sees B p x (λ u. u ≡ v) w fills agrees e s)
  gets_assigned v qs (inl (w, e, inr (n, z))) = as_found (λ u. u ≡ v) qs [] z (gets_other sees B p x (λ u. u ≡ v) w e n)
  gets_assigned v qs (inr (m, i, inl (s, z))) = as_found (λ u. u ≡ v) qs (slice_set p x (Some v) ∷ []) z (gets_one v i m s)
  gets_assigned v qs (inr (m, i, inr (n, z))) = as_found (λ u. u ≡ v) qs [] z (gets_unseen sees B p x (λ u. u ≡ v) (λ u e s. n (subst (λ (y : Val). SeenIn sees x y) e s)))

  -- one of several values
  at_one : (q : Places) (v : Val) (P : Places → Type 0) → q ≡ slice_set p x (Some v) → P (slice_set p x (Some v)) → P q
  at_one q v P e h = subst P (sym e) h

  pub gets_filled : (vs : List Val) (qs : List Places) → ((v : Val) → Contains vs v → IsValue v) → IsEmpty p x → AreFilled sees x vs p qs → Gets sees B p x (Contains vs) qs
  gets_filled vs qs are m h = record {
    further = λ q k.
        let r = (h q).0 k in
        at_one q r.0 (λ y. (length y ≡ length p) × IsWithin p y × StaysPossible p y) r.3 ((gets_one r.0 (are r.0 r.1) m r.2).further (slice_set p x (Some r.0)) (head_in (slice_set p x (Some r.0)) []));
    agree = λ q k.
        let r = (h q).0 k in
        at_one q r.0 (λ y. Agrees sees y) r.3 ((gets_one r.0 (are r.0 r.1) m r.2).agree (slice_set p x (Some r.0)) (head_in (slice_set p x (Some r.0)) []));
    filled = λ q C k e.
        let r = (h q).0 k in
        at_one q r.0 (λ y. Fills C y) r.3 ((gets_one r.0 (are r.0 r.1) m r.2).filled (slice_set p x (Some r.0)) C (head_in (slice_set p x (Some r.0)) []) e);
    sound = λ q t k n.
        let r = (h q).0 k in
        let s = (gets_one r.0 (are r.0 r.1) m r.2).sound (slice_set p x (Some r.0)) t (head_in (slice_set p x (Some r.0)) []) (subst (λ (y : Places). Completes y t) r.3 n) in
        (s.0, s.1, subst (λ (w : Val). Contains vs w) (sym s.2) r.1);
    full = λ t n s k.
        let seen = seen_agrees sees t x k.0 s k.1 in
        let f = (gets_one k.0 (are k.0 k.2) m seen).full t n s (k.0, k.1, refl) in
        let same = one_in (slice_set p x (Some k.0)) f.0 f.1 in
        (slice_set p x (Some k.0), (h (slice_set p x (Some k.0))).1 (k.0, k.2, seen, refl), subst (λ (y : Places). Completes y t) (sym same) f.2);
    clean = λ t f n s k. k;
  }

  pub gets_chosen : (S : Described) (e : Term) (qs : List Places) → Chooses sees x S (place_of e) p qs → Gets sees B p x (Belongs S) qs
  gets_chosen S e qs (inl (w, i, inl (b, z))) = as_found (Belongs S) qs (p ∷ []) z (gets_same sees B p x (Belongs S) w fills agrees i b)
  gets_chosen S e qs (inl (w, i, inr (n, z))) = as_found (Belongs S) qs [] z (gets_other sees B p x (Belongs S) w i n)
  gets_chosen S e qs (inr (m, (u, k, i, h))) = gets_listed sees B p x (place_of e) S u qs k (gets_filled (items_of u) qs (members_are_values u i) m h)

  pub can_list : (S : Described) (e : Term) (qs : List Places) → Chooses sees x S (place_of e) p qs → (B x ≡ true) ⊎ ((u : Val) × list_at (place_of e) S (Ok u))
  can_list S e qs (inl (w, i, h)) = inl ((fills x l).1 (w, i))
  can_list S e qs (inr (m, (u, k, i, h))) = inr (u, k)

  pub unfilled : IsEmpty p x → B x ≡ false
  unfilled m = by_value (B x) (λ e. let v = (fills x l).0 e in m v.0 v.1)
    where
      by_value : (b : Bool) → (b ≡ true → ⊥) → b ≡ false
      by_value true h = absurd (h refl)
      by_value false h = refl

module _ (g : Setting) (d : ℕ) (sees : List See) (p : Places) (c : Context) (a : Term) where
  pub tested_row : (b : Bool) (qs : List Places) → test ≡ form g (length c.slots) a → TruthOf (Evaluates g.table (suc d)) (at_next g.which c p) a (Ok b) → qs ≡ (if b then p ∷ [] else []) → IsWalked g (suc d) sees p c a (Ok qs)
  tested_row true qs i t z B gr = subst (λ (us : List Places). Walked g (suc d) sees B p c a (Ok us)) (sym z) (walked_true g d sees B p c a gr (sym i) t)
  tested_row false qs i t z B gr = subst (λ (us : List Places). Walked g (suc d) sees B p c a (Ok us)) (sym z) (walked_false g d sees B p c a gr (sym i) t)

  pub untested_row : (f : EvalFault) → test ≡ form g (length c.slots) a → Tells {A = Bool} (Err f) (TruthOf (Evaluates g.table (suc d)) (at_next g.which c p) a) → IsWalked g (suc d) sees p c a (Err f)
  untested_row (Refused kind at) i t B gr = walked_no_truth g d sees B p c a gr (sym i) (fault kind at) t
  untested_row NoMemory i t B gr = tt

  pub assigned_row : (x : ℕ) (e : Term) (v : Val) (qs : List Places) → assign x e ≡ form g (length c.slots) a → x < length p → Evaluates g.table d (at_next g.which c p) e (Ok v) → Assigns sees x v p qs → IsWalked g (suc d) sees p c a (Ok qs)
  assigned_row x e v qs i l h s B gr = walked_assign g d sees B p c a gr x e (sym i) v h qs (gets_assigned sees B p x gr.fills gr.agrees l v qs s)

  pub unassigned_row : (x : ℕ) (e : Term) (f : EvalFault) → assign x e ≡ form g (length c.slots) a → Tells {A = Val} (Err f) (Evaluates g.table d (at_next g.which c p) e) → IsWalked g (suc d) sees p c a (Err f)
  unassigned_row x e (Refused kind at) i h B gr = walked_no_value g d sees B p c a gr x e (sym i) (fault kind at) h
  unassigned_row x e NoMemory i h B gr = tt

  pub chosen_row : (x : ℕ) (e : Term) (S : Described) (qs : List Places) → choose x e ≡ form g (length c.slots) a → x < length p → MeansSet (Describes g.table d) (at_next g.which c p) e (Ok S) → Chooses sees x S (place_of e) p qs
      → IsWalked g (suc d) sees p c a (Ok qs)
  chosen_row x e S qs i l h s B gr = walked_choose g d sees B p c a gr x e (sym i) S h (can_list sees B p x gr.fills gr.agrees l S e qs s) qs (gets_chosen sees B p x gr.fills gr.agrees l S e qs s)

  pub unchosen_row : (x : ℕ) (e : Term) (S : Described) (f : EvalFault) → choose x e ≡ form g (length c.slots) a → x < length p → MeansSet (Describes g.table d) (at_next g.which c p) e (Ok S) → FailsToChoose x S (place_of e) p f
      → IsWalked g (suc d) sees p c a (Err f)
  unchosen_row x e S (Refused kind at) i l h s B gr = walked_no_list g d sees B p c a gr x e (sym i) S h (unfilled sees B p x gr.fills gr.agrees l s.0) (fault kind at) s.1
  unchosen_row x e S NoMemory i l h s B gr = tt

  pub no_set_row : (x : ℕ) (e : Term) (f : EvalFault) → choose x e ≡ form g (length c.slots) a → Tells {A = Described} (Err f) (MeansSet (Describes g.table d) (at_next g.which c p) e) → IsWalked g (suc d) sees p c a (Err f)
  no_set_row x e (Refused kind at) i h B gr = walked_no_set g d sees B p c a gr x e (sym i) (fault kind at) h
  no_set_row x e NoMemory i h B gr = tt
