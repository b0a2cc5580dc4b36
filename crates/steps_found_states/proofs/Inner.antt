-- What the walk of the parts of an action rests on.
use Rattle.std.proofs.Common.{◌≡◌, inl, inr, refl, sym, ◌∙◌, ap, subst, ℕ, suc, List, [], ◌∷◌, ◌++◌, length, map}
use Rattle.std.specs.Prelude.{Bool, true, false, Option, None, Some, Result, Ok, Err, Contains, slice_get, if◌then◌else◌, option_to_list}
use Rattle.std.specs.List.{AllByRecursion}
use Rattle.base_core.specs.declared.place.Place.{Place}
use Rattle.values_core.specs.Data.{Val}
use Rattle.values_core.specs.Ascending.{head_in, tail_in}
use Rattle.states_core.specs.States.{Values}
use Rattle.states_core.specs.declared.fault.Fault.{Fault}
use Rattle.names_terms.specs.declared.operator.Operator.{Operator}
use Rattle.names_terms.specs.Terms.{Term, Bounds, place_of}
use Rattle.names_term_parts.specs.Parts.{set_list}
use Rattle.eval_meanings.specs.Binders.{BoundValues}
use Rattle.eval_meanings.specs.Contexts.{Context, Places, bind, enter, within}
use Rattle.eval_meanings.specs.Evaluates.{Evaluates}
use Rattle.eval_meanings.specs.Laws.{KnowsValues, ReadsValues, IsWithin}
use Rattle.eval_meanings.specs.Outcomes.{Outcome, Each}
use Rattle.eval_meanings.specs.Unchanged.{TruthOf}
use Rattle.eval_meanings.specs.Reads.{Reading, Reads}
use Rattle.eval_laws.proofs.Keeping.{keeps_each}
use Rattle.eval_laws.proofs.FineContexts.{HoldsValues, BodiesKnow, AreAllValues, bind_holds, within_holds, enter_holds}
use Rattle.actions_meanings.specs.Forms.{Setting, Form, form, test, assign, choose, both, either, narrowed, some, branch, arms, inside, call, changing}
use Rattle.actions_meanings.specs.Reads.{VariableSet, body_of}
use Rattle.actions_meanings.specs.Outcomes.{Fixes, early, first_early, form_outcome, outcome_within, through}
use Rattle.actions_meanings.specs.Holds.{Chosen, Opened, all_of, one_of}
use Rattle.logs_updates.specs.declared.update.See.{See}
use Rattle.actions_meanings.specs.Filled.{at_next}
use Rattle.actions_meanings.specs.Walkable.{AllWalk, ArmsWalk, FormWalks, Walkable, Walking}
use Rattle.steps_found_states.specs.Grounds.{FixesWithin, Grounds, OpensFrom, TuplesFix, form_parts}
use Rattle.steps_found_states.specs.Parts.{Parts, FixesAll, GroundsAll, Leads, PartsWalk}
use Rattle.steps_found_states.proofs.Lists.{all_in, of_map, one_in, place_by_all}
use Rattle.steps_found_states.proofs.Placed.{at_bind, at_enter, at_more, at_within, holds_values, reads_values, term_keeps}
use Rattle.steps_found_states.proofs.Bounds.{bound_lengths, each_length}
use Rattle.steps_found_states.proofs.Openings.{FormKnows, bounds_fine, bounds_keep, chosen_fine, chosen_keeps, terms_fine}
use Rattle.steps_found_states.proofs.FormParts.{form_knows}
use Rattle.steps_found_states.proofs.FormEnds.{parts_fix, tuples_fix_on}
use Rattle.steps_found_states.proofs.FormFixes.{IsArm, arms_same, case_same, fixes_form, same_fill, through_fixes, through_one, unless_ok}

abbrev parts_of : Result Opened Fault → Parts
parts_of (Ok (all_of es)) = es
parts_of (Ok (one_of es)) = es
parts_of (Err f) = []

no_opening : (o : Opened) (f : Fault) → ◌≡◌ {A = Result Opened Fault} (Ok o) (Err f) → ⊥
no_opening o f e = cc

one_no_all : (es fs : Parts) → ◌≡◌ {A = Result Opened Fault} (Ok (one_of es)) (Ok (all_of fs)) → ⊥
one_no_all es fs e = cc

chosen_term : (x y : Term) → ◌≡◌ {A = Result Term Fault} (Ok x) (Ok y) → x ≡ y
chosen_term x y e = cc

chosen_fault : (x : Term) (f : Fault) → ◌≡◌ {A = Result Term Fault} (Ok x) (Err f) → ⊥
chosen_fault x f e = cc

same_operator : (x y : Operator) → ◌≡◌ {A = Option Operator} (Some x) (Some y) → x ≡ y
same_operator x y e = cc

-- CASE: the term that is chosen is one of those behind the tests

chosen_walks : (truth : Term → Outcome Bool) (at : Place) (reads : Reading) (part : Term → Type 0) (c : Context) (cs : List (Term × Term)) (other : Option Term) (x : Term)
    → ArmsWalk reads part c cs other → Chosen truth at cs other (Ok x) → part x
chosen_walks truth at reads part c [] None x w h = absurd (chosen_fault x _ h)
chosen_walks truth at reads part c [] (Some e) x w h = subst part (sym (chosen_term x e h)) w
chosen_walks truth at reads part c (q ∷ cs) other x w (inl (true, m, h)) = subst part (sym (chosen_term x q.1 h)) w.1
chosen_walks truth at reads part c (q ∷ cs) other x w (inl (false, m, h)) = chosen_walks truth at reads part c cs other x w.2 h
chosen_walks truth at reads part c (q ∷ cs) other x w (inr (f, m, h)) = absurd (chosen_fault x f h)

chosen_among : (truth : Term → Outcome Bool) (at : Place) (cs : List (Term × Term)) (other : Option Term) (x : Term) → Chosen truth at cs other (Ok x) → Contains (map (λ q. q.1) cs ++ option_to_list other) x
chosen_among truth at [] None x h = absurd (chosen_fault x _ h)
chosen_among truth at [] (Some e) x h = subst (λ (z : Term). Contains (e ∷ []) z) (sym (chosen_term x e h)) (head_in e [])
chosen_among truth at (q ∷ cs) other x (inl (true, m, h)) =
    subst (λ (z : Term). Contains (q.1 ∷ (map (λ q. q.1) cs ++ option_to_list other)) z) (sym (chosen_term x q.1 h)) (head_in q.1 (map (λ q. q.1) cs ++ option_to_list other))
chosen_among truth at (q ∷ cs) other x (inl (false, m, h)) = tail_in q.1 (map (λ q. q.1) cs ++ option_to_list other) x (chosen_among truth at cs other x h)
chosen_among truth at (q ∷ cs) other x (inr (f, m, h)) = absurd (chosen_fault x f h)

-- all that is asked of the parts of a form that opens to one of them

pub record IsPart (g : Setting) (d : ℕ) (B : VariableSet) (p : Places) (c : Context) (a : Term) (f : Form) (e : Context × Term) : Type 0 where
  pub walks : FormWalks g d (Walkable g d) B p c a f → Walkable g d B p e.0 e.1
  pub known : (t : Values) → IsWithin p (map Some t) → FormKnows f → BodiesKnow g.table → HoldsValues (at_next g.which c (map Some t)) → ReadsValues g.table (at_next g.which e.0 (map Some t)) e.1
  pub among : Contains (form_parts g (place_of a) f) e.1
  pub fixes : (k : ℕ) (C : VariableSet) → form_outcome g k (outcome_within g k) a B f ≡ Ok C → IsArm g k g.variables B C e.1

module _ (g : Setting) (d : ℕ) (B : VariableSet) (p : Places) (c : Context) (a : Term) where
  one_part : (f : Form) (e x : Context × Term) → x ≡ e → IsPart g d B p c a f x → IsPart g d B p c a f e
  one_part f e x i h = subst (λ (z : Context × Term). IsPart g d B p c a f z) i h

  either_part : (xs : List Term) (x : Term) → Contains xs x → IsPart g d B p c a (either xs) (c, x)
  either_part xs x m = record {
    walks = λ w. all_in (Walkable g d B p c) xs (place_by_all (Walkable g d B p c) xs w) x m;
    known = λ t k l b h. reads_values g.table (at_next g.which c (map Some t)) x b h (all_in KnowsValues xs l x m);
    among = m;
    fixes = λ k C h. arms_same g k B C xs h x m;
  }

  some_part : (bs : Bounds) (x : Term) (all : List (List Val)) → BoundValues (Evaluates g.table d) (at_next g.which c p) bs (Ok all) → (vs : List Val) → Contains all vs → IsPart g d B p c a (some bs x) (bind c vs, x)
  some_part bs x all h vs m = record {
    walks = λ w. w.1 vs (bound_lengths (Evaluates g.table d) (at_next g.which c p) bs all h vs m);
    known = λ t k l b i.
        let kept = bounds_keep g.table d (at_next g.which c p) (at_next g.which c (map Some t)) (at_more g.which c p (map Some t) k) bs (Ok all) h in
        let values = all_in AreAllValues all ((bounds_fine g.table d (at_next g.which c (map Some t)) b i bs l.0).good all kept) vs m in
        reads_values g.table (at_next g.which (bind c vs) (map Some t)) x b
        (subst HoldsValues (sym (at_bind g.which c vs (map Some t))) (bind_holds (at_next g.which c (map Some t)) vs i values)) l.1;
    among = head_in x [];
    fixes = λ k C i. (C, (unless_ok (first_early (early g B k) (set_list bs)) (outcome_within g k x B) C i).1, λ y l. refl);
  }

  branch_part : (q x y : Term) (b : Bool) → IsPart g d B p c a (branch q x y) (c, if b then x else y)
  branch_part q x y true = record {
    walks = λ w. w.1;
    known = λ t k l b h. reads_values g.table (at_next g.which c (map Some t)) x b h l.1;
    among = head_in x (y ∷ []);
    fixes = λ k C i. arms_same g k B C (x ∷ y ∷ []) (unless_ok (early g B k q) _ C i).1 x (head_in x (y ∷ []));
  }
  branch_part q x y false = record {
    walks = λ w. w.2;
    known = λ t k l b h. reads_values g.table (at_next g.which c (map Some t)) y b h l.2;
    among = tail_in x (y ∷ []) y (head_in y []);
    fixes = λ k C i. arms_same g k B C (x ∷ y ∷ []) (unless_ok (early g B k q) _ C i).1 y (tail_in x (y ∷ []) y (head_in y []));
  }

  arms_part : (cs : List (Term × Term)) (other : Option Term) (x : Term) → Chosen (TruthOf (Evaluates g.table d) (at_next g.which c p)) (place_of a) cs other (Ok x) → IsPart g d B p c a (arms cs other) (c, x)
  arms_part cs other x h = record {
    walks = λ w. chosen_walks (TruthOf (Evaluates g.table d) (at_next g.which c p)) (place_of a) (λ at e. Reads g.table d (at_next g.which at p) e) (Walkable g d B p c) c cs other x w h;
    known = λ t k l b i.
        let kept = chosen_keeps g.table d (at_next g.which c p) (at_next g.which c (map Some t)) (at_more g.which c p (map Some t) k) (place_of a) cs other (Ok x) h in
        reads_values g.table (at_next g.which c (map Some t)) x b i ((chosen_fine g.table d (at_next g.which c (map Some t)) b i (place_of a) cs other l.0 l.1).good x kept);
    among = chosen_among (TruthOf (Evaluates g.table d) (at_next g.which c p)) (place_of a) cs other x h;
    fixes = λ k C i. case_same g k (early g B k) B C cs other i x (chosen_among (TruthOf (Evaluates g.table d) (at_next g.which c p)) (place_of a) cs other x h);
  }

  inside_part : (x : Term) → IsPart g d B p c a (inside x) (c, x)
  inside_part x = record {
    walks = λ w. w;
    known = λ t k l b h. reads_values g.table (at_next g.which c (map Some t)) x b h l;
    among = head_in x [];
    fixes = λ k C i. (C, i, λ y l. refl);
  }

  call_part : (j : ℕ) (xs : List Term) (vs : List Val) → Each (Evaluates g.table d (at_next g.which c p)) xs (Ok vs) → (o : Operator) → slice_get g.table j ≡ Some o
      → IsPart g d B p c a (call j xs) (enter o vs c, o.body)
  call_part j xs vs h o e = record {
    walks = λ w. subst (λ (z : Operator). Walkable g d B p (enter z vs c) z.body) (same_operator w.0 o (sym w.1 ∙ e)) (w.4 vs (each_length (Evaluates g.table d (at_next g.which c p)) xs vs h));
    known = λ t k l b i.
        let kept = keeps_each (Evaluates g.table d (at_next g.which c p)) (Evaluates g.table d (at_next g.which c (map Some t)))
        (term_keeps g.table d (at_next g.which c p) (at_next g.which c (map Some t)) (at_more g.which c p (map Some t) k)) xs (Ok vs) h in
        let values = (terms_fine g.table d (at_next g.which c (map Some t)) b i xs l).good vs kept in
        reads_values g.table (at_next g.which (enter o vs c) (map Some t)) o.body b
        (subst HoldsValues (sym (at_enter g.which o vs c (map Some t))) (enter_holds (at_next g.which c (map Some t)) o vs i values)) (b j o e);
    among = subst (λ (z : Option Operator). Contains (body_of z) o.body) (sym e) (head_in o.body []);
    fixes = λ k C i.
        let r = (unless_ok (first_early (early g B k) xs) (through (outcome_within g k) (body_of (slice_get g.table j)) B) C i).1 in
        (C, through_one g k (outcome_within g k) o.body B C (subst (λ (z : Option Operator). through (outcome_within g k) (body_of z) B ≡ Ok C) e r), λ y l. refl);
  }

  -- each of the parts is one

  only_part : (f : Form) (es : Parts) (x : Context × Term) → ◌≡◌ {A = Result Opened Fault} (Ok (one_of es)) (Ok (one_of (x ∷ []))) → IsPart g d B p c a f x → (e : Context × Term) → Contains es e → IsPart g d B p c a f e
  only_part f es x i h e m = one_part f e x (one_in x e (subst (λ (zs : Parts). Contains zs e) (ap parts_of i) m)) h

  pub is_part : (f : Form) (es : Parts) → OpensFrom g d c p (place_of a) f (Ok (one_of es)) → (e : Context × Term) → Contains es e → IsPart g d B p c a f e
  is_part (both xs) es h e m = absurd (one_no_all es _ h)
  is_part (narrowed n xs) es h e m = absurd (one_no_all es _ h)
  is_part (changing x v) es h e m = absurd h
  is_part test es h e m = absurd h
  is_part (assign x y) es h e m = absurd h
  is_part (choose x y) es h e m = absurd h
  is_part (either xs) es h e m =
      let r = of_map (λ (x : Term). (c, x)) xs e (subst (λ (zs : Parts). Contains zs e) (ap parts_of h) m) in
      one_part (either xs) e (c, r.0) r.2 (either_part xs r.0 r.1)
  is_part (some bs x) es (inl (all, h, i)) e m =
      let r = of_map (λ (chosen : List Val). (bind c chosen, x)) all e (subst (λ (zs : Parts). Contains zs e) (ap parts_of i) m) in
      one_part (some bs x) e (bind c r.0, x) r.2 (some_part bs x all h r.0 r.1)
  is_part (some bs x) es (inr (f, h, i)) e m = absurd (no_opening (one_of es) f i)
  is_part (branch q x y) es (inl (b, h, i)) e m = only_part (branch q x y) es (c, if b then x else y) i (branch_part q x y b) e m
  is_part (branch q x y) es (inr (f, h, i)) e m = absurd (no_opening (one_of es) f i)
  is_part (arms cs other) es (inl (x, h, i)) e m = only_part (arms cs other) es (c, x) i (arms_part cs other x h) e m
  is_part (arms cs other) es (inr (f, h, i)) e m = absurd (no_opening (one_of es) f i)
  is_part (inside x) es h e m = only_part (inside x) es (c, x) h (inside_part x) e m
  is_part (call j xs) es (inl (vs, h, (o, i, n))) e m = only_part (call j xs) es (enter o vs c, o.body) n (call_part j xs vs h o i) e m
  is_part (call j xs) es (inr (f, h, i)) e m = absurd (no_opening (one_of es) f i)

module _ (g : Setting) (d : ℕ) (sees : List See) (B : VariableSet) (p : Places) (c : Context) (a : Term) (gr : Grounds g (suc d) sees B p c a) where
  -- the walk of one of the parts rests on what that of the action does
  pub part_grounds : (es : Parts) → OpensFrom g d c p (place_of a) (form g (length c.slots) a) (Ok (one_of es)) → (e : Context × Term) → Contains es e → Grounds g d sees B p e.0 e.1
  part_grounds es h e m = let i = is_part g d B p c a (form g (length c.slots) a) es h e m in record {
    long = gr.long;
    fills = gr.fills;
    agrees = gr.agrees;
    reads = λ t k.
        let w = gr.reads t k in
        i.known t k.has (form_knows g w.definitions (length c.slots) a w.known) w.definitions (holds_values g.table (at_next g.which c (map Some t)) a w);
    walks = i.walks gr.walks.1;
    tuples = all_in (TuplesFix g d) (form_parts g (place_of a) (form g (length c.slots) a)) (tuples_fix_on g d (length c.slots) a gr.tuples) e.1 i.among;
  }

  pub part_leads : (es : Parts) → OpensFrom g d c p (place_of a) (form g (length c.slots) a) (Ok (one_of es)) → (e : Context × Term) → Contains es e → Leads g B a e.1
  part_leads es h e m C x =
      let i = is_part g d B p c a (form g (length c.slots) a) es h e m in
      let r = fixes_form g (length c.slots) a B C x in
      let s = i.fixes r.0 C r.2 in
      (s.0, all_in (FixesWithin g r.0) (form_parts g (place_of a) (form g (length c.slots) a)) (parts_fix g d (length c.slots) a gr.tuples r.0 r.1) e.1 i.among B s.0 s.1, same_fill g.variables s.0 C s.2)

-- all that is asked of the parts of a form that opens to all of them

pub record AreParts (g : Setting) (d : ℕ) (B : VariableSet) (p : Places) (c : Context) (a : Term) (f : Form) (es : Parts) : Type 0 where
  pub walks : FormWalks g d (Walkable g d) B p c a f → PartsWalk g (Walkable g d) B p es
  pub known : (t : Values) → FormKnows f → BodiesKnow g.table → HoldsValues (at_next g.which c (map Some t)) → AllByRecursion (λ e. ReadsValues g.table (at_next g.which e.0 (map Some t)) e.1) es
  pub among : AllByRecursion (TuplesFix g d) (form_parts g (place_of a) f) → AllByRecursion (λ e. TuplesFix g d e.1) es
  pub fixes : (k : ℕ) (C : VariableSet) → AllByRecursion (FixesWithin g k) (form_parts g (place_of a) f) → form_outcome g k (outcome_within g k) a B f ≡ Ok C → FixesAll g es B C

module _ (g : Setting) (d : ℕ) (B : VariableSet) (p : Places) (c : Context) (a : Term) where
  parts_walk : (part : Walking) (c : Context) (B : VariableSet) (p : Places) (xs : List Term) → AllWalk g part B p c xs → PartsWalk g part B p (map (λ e. (c, e)) xs)
  parts_walk part c B p [] w = tt
  parts_walk part c B p (x ∷ xs) w = (w.0, λ C q f l i h. parts_walk part c C q xs (w.1 C q f l i h))

  parts_read : (c : Context) (t : Values) → BodiesKnow g.table → HoldsValues (at_next g.which c (map Some t)) → (xs : List Term) → AllByRecursion KnowsValues xs
      → AllByRecursion (λ (e : Context × Term). ReadsValues g.table (at_next g.which e.0 (map Some t)) e.1) (map (λ e. (c, e)) xs)
  parts_read c t b h [] k = tt
  parts_read c t b h (x ∷ xs) k = (reads_values g.table (at_next g.which c (map Some t)) x b h k.0, parts_read c t b h xs k.1)

  parts_among : (c : Context) (P : Term → Type 0) (xs : List Term) → AllByRecursion P xs → AllByRecursion (λ (e : Context × Term). P e.1) (map (λ e. (c, e)) xs)
  parts_among c P [] k = tt
  parts_among c P (x ∷ xs) k = (k.0, parts_among c P xs k.1)

  both_parts : (xs : List Term) → AreParts g d B p c a (both xs) (map (λ e. (c, e)) xs)
  both_parts xs = record {
    walks = parts_walk (Walkable g d) c B p xs;
    known = λ t k b h. parts_read c t b h xs k;
    among = parts_among c (TuplesFix g d) xs;
    fixes = λ k C e h. through_fixes g k c xs B C e h;
  }

  narrowed_parts : (n : ℕ) (xs : List Term) → AreParts g d B p c a (narrowed n xs) (map (λ e. (within n c, e)) xs)
  narrowed_parts n xs = record {
    walks = parts_walk (Walkable g d) (within n c) B p xs;
    known = λ t k b h. parts_read (within n c) t b (subst HoldsValues (sym (at_within g.which n c (map Some t))) (within_holds (at_next g.which c (map Some t)) n h)) xs k;
    among = parts_among (within n c) (TuplesFix g d) xs;
    fixes = λ k C e h. through_fixes g k (within n c) xs B C e h;
  }

  all_no_one : (es fs : Parts) → ◌≡◌ {A = Result Opened Fault} (Ok (all_of es)) (Ok (one_of fs)) → ⊥
  all_no_one es fs e = cc

  pub are_parts : (f : Form) (es : Parts) → OpensFrom g d c p (place_of a) f (Ok (all_of es)) → AreParts g d B p c a f es
  are_parts (both xs) es h = subst (λ (zs : Parts). AreParts g d B p c a (both xs) zs) (sym (ap parts_of h)) (both_parts xs)
  are_parts (narrowed n xs) es h = subst (λ (zs : Parts). AreParts g d B p c a (narrowed n xs) zs) (sym (ap parts_of h)) (narrowed_parts n xs)
  are_parts (changing x v) es h = absurd h
  are_parts test es h = absurd h
  are_parts (assign x y) es h = absurd h
  are_parts (choose x y) es h = absurd h
  are_parts (either xs) es h = absurd (all_no_one es _ h)
  are_parts (some bs x) es (inl (all, h, i)) = absurd (all_no_one es _ i)
  are_parts (some bs x) es (inr (f, h, i)) = absurd (no_opening (all_of es) f i)
  are_parts (branch q x y) es (inl (b, h, i)) = absurd (all_no_one es _ i)
  are_parts (branch q x y) es (inr (f, h, i)) = absurd (no_opening (all_of es) f i)
  are_parts (arms cs other) es (inl (x, h, i)) = absurd (all_no_one es _ i)
  are_parts (arms cs other) es (inr (f, h, i)) = absurd (no_opening (all_of es) f i)
  are_parts (inside x) es h = absurd (all_no_one es _ h)
  are_parts (call j xs) es (inl (vs, h, (o, i, n))) = absurd (all_no_one es _ n)
  are_parts (call j xs) es (inr (f, h, i)) = absurd (no_opening (all_of es) f i)

module _ (g : Setting) (d : ℕ) (sees : List See) (B : VariableSet) (p : Places) (c : Context) (a : Term) (gr : Grounds g (suc d) sees B p c a) where
  -- the walk of all of the parts rests on what that of the action does
  pub all_grounds : (es : Parts) → OpensFrom g d c p (place_of a) (form g (length c.slots) a) (Ok (all_of es)) → GroundsAll g d sees B p es
  all_grounds es h = let i = are_parts g d B p c a (form g (length c.slots) a) es h in record {
    long = gr.long;
    fills = gr.fills;
    agrees = gr.agrees;
    reads = λ t k.
        let w = gr.reads t k in
        i.known t (form_knows g w.definitions (length c.slots) a w.known) w.definitions (holds_values g.table (at_next g.which c (map Some t)) a w);
    walks = i.walks gr.walks.1;
    tuples = i.among (tuples_fix_on g d (length c.slots) a gr.tuples);
  }

  pub all_fix : (es : Parts) → OpensFrom g d c p (place_of a) (form g (length c.slots) a) (Ok (all_of es)) → (C : VariableSet) → Fixes g a B C → FixesAll g es B C
  all_fix es h C x =
      let i = are_parts g d B p c a (form g (length c.slots) a) es h in
      let r = fixes_form g (length c.slots) a B C x in
      i.fixes r.0 C (parts_fix g d (length c.slots) a gr.tuples r.0 r.1) r.2
