-- `<<A>>_v`: of each branch of A that v changes.
use Rattle.std.proofs.Common.{◌≡◌, inl, inr, refl, sym, ap, ◌∙◌, subst, ℕ, zero, suc, ◌+◌, ◌-◌, ◌<◌, ◌≤◌, List, [], ◌∷◌, ◌++◌, length, map, append_assoc, arith}
use Rattle.std.specs.Prelude.{Bool, true, false, Contains, Option, Some, Result, Ok, Err}
use Rattle.values_core.specs.Ascending.{cons_cases, head_in, none_in, tail_in}
use Rattle.states_core.specs.States.{Values}
use Rattle.states_core.specs.declared.fault.Fault.{Fault}
use Rattle.names_terms.specs.Terms.{Term, place_of}
use Rattle.eval_meanings.specs.Contexts.{Context, Places}
use Rattle.eval_meanings.specs.Evaluates.{Evaluates}
use Rattle.eval_meanings.specs.Laws.{ReadsValues}
use Rattle.eval_meanings.specs.Unchanged.{TruthOf, changed_of}
use Rattle.eval_meanings.specs.Reads.{Reads}
use Rattle.actions_meanings.specs.Forms.{Form, Setting, changing, form, test}
use Rattle.actions_meanings.specs.Reads.{VariableSet}
use Rattle.actions_meanings.specs.Filled.{Completes, at_next}
use Rattle.actions_meanings.specs.Walkable.{FormWalks, Walkable}
use Rattle.steps_found_states.proofs.Changes.{changed_is_test, changing_grounds, changing_leads, changing_left}
use Rattle.steps_found_states.proofs.Finding.{completes_less}
use Rattle.steps_found_states.proofs.FormParts.{form_knows}
use Rattle.steps_found_states.proofs.Openings.{FormKnows}
use Rattle.steps_found_states.proofs.Placed.{holds_values, reads_values}
use Rattle.steps_walk.proofs.Rows.{form_walks}
use Rattle.steps_why_branches.specs.declared.sparing.Spared.{Spared}
use Rattle.steps_why_branches.specs.declared.sparing.Sparing.{Sparing}
use Rattle.steps_why_branches.specs.Traces.{End, Trace, added, ended, faulted, here, passed, stops, why_at}
use Rattle.steps_why_branches.specs.Branches.{Altered, stood}
use Rattle.steps_why_branches.specs.Firsts.{Ascends}
use Rattle.steps_why_branches.specs.Founds.{AfterTest, FoundOf, TestsFound}
use Rattle.steps_why_branches.proofs.Elements.{append_length}
use Rattle.steps_why_branches.proofs.FoundChanges.{changing_found, first_found}
use Rattle.steps_why_branches.proofs.FoundTests.{after_ended_test, after_passed_test, tests_more, tests_none}
use Rattle.steps_why_branches.specs.declared.why.Ended.{Ended}
use Rattle.steps_why_branches.specs.declared.why.Ended.TheVariants.{Ends, Passed}
use Rattle.steps_why_branches.specs.declared.why.WhyKind.TheVariants as why
use Rattle.steps_why_walk.specs.Ends.{OfTruth, end_of, end_with, first_spared, kept}
use Rattle.steps_why_walk.specs.Walking.{EndAltered, EndsAltered, EndsRead, IsListed, WhyGrounded}
use Rattle.steps_why_walk.proofs.Keeping.{earlier_ones, end_before, kept_append, kept_map, reads_here}
use Rattle.steps_why_walk.proofs.Passing.{not_passed}
use Rattle.steps_why_walk.proofs.Rows.{known_of, now_of}

test_reads : (g : Setting) (d : ℕ) (B : VariableSet) (q : Places) (c : Context) (a : Term) → form g (length c.slots) a ≡ test → Walkable g d B q c a → Reads g.table d (at_next g.which c q) a
test_reads g zero B q c a i w = tt
test_reads g (suc d) B q c a i w = subst (λ (f : Form). FormWalks g d (Walkable g d) B q c a f) i w.1

-- each end that is gone through then was gone through before
pub altered_from : (g : Setting) (d : ℕ) (c : Context) (e : Term) (old new : List Ended) → EndsAltered g d c e old new → (q : Places) (u : Option Spared) → Contains new (Passed q u) → Contains old (Passed q u)
altered_from g d c e [] new h q u m = absurd (none_in (Passed q u) (subst (λ (us : List Ended). Contains us (Passed q u)) h m))
altered_from g d c e (m ∷ ms) [] h q u n = absurd h
altered_from g d c e (m ∷ ms) (n ∷ ns) h q u o = elim (cons_cases n ns (Passed q u) o) [
  | inl i ↦ subst (λ (x : Ended). Contains (m ∷ ms) x) (same m h.0 i) (head_in m ms)
  | inr k ↦ tail_in m ms (Passed q u) (altered_from g d c e ms ns h.1 q u k)
]
  where
    by_truth : (p : Places) (v : Option Spared) (r : Result Bool Fault) → OfTruth (Passed p v) (Ends (why_at (place_of e) why.NoMember)) r n → n ≡ Passed q u → Passed p v ≡ Passed q u
    by_truth p v (Ok true) z i = sym z ∙ i
    by_truth p v (Ok false) z i = absurd (not_passed _ q u (sym z ∙ i))
    by_truth p v (Err f) z i = absurd (not_passed _ q u (sym z ∙ i))

    same : (m : Ended) → EndAltered g d c e m n → n ≡ Passed q u → m ≡ Passed q u
    same (Passed p v) h i = by_truth p v h.0 h.2 i
    same (Ends w) h i = absurd (not_passed w q u (sym h ∙ i))

module _ (g : Setting) (sp : Sparing) (k : ℕ) (room : 1 ≤ k) (d : ℕ) (c : Context) (a : Term) (p : Places) (gr : WhyGrounded g (suc d) c a p) (e v : Term) (i : changing e v ≡ form g (length c.slots) a) where
  abbrev ch : Term
  ch = changed_of (place_of a) v

  pub angled_grounds : WhyGrounded g d c e p
  angled_grounds = ((gr.0.0, changing_grounds g d [] gr.0.0 p c a gr.0.1 e v (sym i)), gr.1)

  -- what the test rests on where A was gone through
  pub record TestReady (q : Places) : Type 0 where
    pub values : (t : Values) → Completes q t → ReadsValues g.table (at_next g.which c (map Some t)) ch
    pub now : ReadsValues g.table (at_next g.which c q) ch
    pub reads : Reads g.table d (at_next g.which c q) ch

  pub ready : (found : List Ended) → IsListed g sp k d c e p found → (q : Places) (u : Option Spared) → Contains found (Passed q u) → TestReady q
  ready found w q u m =
      let B = gr.0.0 in
      let b = gr.0.1 in
      let ps = w.passes B (changing_grounds g d [] B p c a b e v (sym i)) in
      let left = changing_left g d [] B p c a b e v (sym i) in
      let f = ps.further q u m in
      let walks = form_walks g d [] p c a (changing e v) i B b in
      let values : (t : Values) → Completes q t → ReadsValues g.table (at_next g.which c (map Some t)) ch = λ t n.
      let r = b.reads t (completes_less p q t f.0 f.1 n) in
      let known = subst FormKnows (sym i) (form_knows g r.definitions (length c.slots) a r.known) in
      reads_values g.table (at_next g.which c (map Some t)) ch r.definitions (holds_values g.table (at_next g.which c (map Some t)) a r) (tt, ((tt, (known.1, tt, tt)), known.1)) in
      let t = f.2 gr.1.0 gr.1.1 in
      record {
        values = values;
        now = reads_here g.table g.which c ch q t.0 t.1 (values t.0 t.1);
        reads = test_reads g d left.0 q c ch (changed_is_test g (length c.slots) (place_of a) v) (walks.1 left.0 q left.1 f.0 f.1 (ps.filled q u left.0 m left.1)).0;
      }

  pub ends_read : (found : List Ended) → IsListed g sp k d c e p found → EndsRead g d c ch found
  ends_read found w (Passed q u) m = (ready found w q u m).reads
  ends_read found w (Ends y) m = tt

  abbrev Test : Context × Term
  Test = (c, ch)

  -- the end of one branch
  by_truth : (m : ℕ) → 1 ≤ m → (y : Trace) (q : Places) → y.end ≡ passed q → TestReady q → (r : Result Bool Fault) → TruthOf (Evaluates g.table d) (at_next g.which c q) ch r → (n : Ended)
      → OfTruth (Passed q (first_spared y.spared)) (Ends (why_at (place_of ch) why.NoMember)) r n → (x : Trace) × AfterTest g d m Test y (x ∷ []) × (end_of x ≡ n)
  by_truth m l y q j w r h n z = by_value r h n z
    where
      after : (r : Result Bool Fault) → TruthOf (Evaluates g.table d) (at_next g.which c q) ch r → (x : Trace) → Altered q (stood d Test) r x → AfterTest g d m Test y (added (stood d Test) y x ∷ [])
      after r h x o = after_passed_test g d m Test (λ n. changed_is_test g n (place_of a) v) q w.values w.now l y j r h x o

      by_value : (r : Result Bool Fault) → TruthOf (Evaluates g.table d) (at_next g.which c q) ch r → (n : Ended) → OfTruth (Passed q (first_spared y.spared)) (Ends (why_at (place_of ch) why.NoMember)) r n
          → (x : Trace) × AfterTest g d m Test y (x ∷ []) × (end_of x ≡ n)
      by_value (Ok true) h n z = (added (stood d Test) y (here q), after (Ok true) h (here q) refl, end_before y.spared (passed q) ∙ sym z)
      by_value (Ok false) h n z = (added (stood d Test) y (stops q (stood d Test) (place_of ch) why.NoMember), after (Ok false) h (stops q (stood d Test) (place_of ch) why.NoMember) refl, sym z)
      by_value (Err f) h n z = (added (stood d Test) y (faulted q (stood d Test) f), after (Err f) h (faulted q (stood d Test) f) refl, sym z)

  by_end : (m : ℕ) → 1 ≤ m → (y : Trace) (x : End) → y.end ≡ x → ((q : Places) (u : Option Spared) → end_with y.spared x ≡ Passed q u → TestReady q) → (n : Ended) → EndAltered g d c ch (end_with y.spared x) n
      → (z : Trace) × AfterTest g d m Test y (z ∷ []) × (end_of z ≡ n)
  by_end m l y (passed q) j w n h = by_truth m l y q j (w q (first_spared y.spared) refl) h.0 h.1 n h.2
  by_end m l y (ended q s u) j w n h = (y, after_ended_test g d m Test y q s u l j, ap (λ (x : End). end_with y.spared x) j ∙ sym h)

  -- of each branch
  each_one : (done rest ys : List Trace) → Ascends (done ++ rest) → length (done ++ rest) ≤ k → length ys ≡ length done → TestsFound g d k Test done ys → ((q : Places) (u : Option Spared) → Contains (kept rest) (Passed q u) → TestReady q) → (ns : List Ended) → EndsAltered g d c ch (kept rest) ns
      → (zs : List Trace) × TestsFound g d k Test (done ++ rest) zs × (kept zs ≡ kept ys ++ ns)
  each_one done [] ys o l s t w ns h = (ys, subst (λ (us : List Trace). TestsFound g d k Test us ys) (sym (to_end done)) t, sym (ap (λ (us : List Ended). kept ys ++ us) h ∙ to_end (kept ys)))
    where
      to_end : {X : Type 0} (xs : List X) → xs ++ [] ≡ xs
      to_end [] = refl
      to_end (x ∷ xs) = ap (λ zs. x ∷ zs) (to_end xs)
  each_one done (y ∷ rest) ys o l s t w [] h = absurd h
  each_one done (y ∷ rest) ys o l s t w (n ∷ ns) h =
      let all : length (done ++ y ∷ rest) ≡ length done + length (y ∷ rest) = append_length done (y ∷ rest) in
      let few : length ys < k = omega (arith, all, l, s) in
      let left : 1 ≤ k - length ys = omega (arith, few) in
      let x = by_end (k - length ys) left y y.end refl (λ q u j. w q u (subst (λ (m : Ended). Contains (kept (y ∷ rest)) m) j (head_in (end_of y) (kept rest)))) n h.0 in
      let next = tests_more g d k Test done y ys (x.0 ∷ []) (earlier_ones done rest y o) few t x.1 in
      let same : (done ++ y ∷ []) ++ rest ≡ done ++ y ∷ rest = append_assoc done (y ∷ []) rest in
      let one : length (ys ++ x.0 ∷ []) ≡ length ys + length (x.0 ∷ []) = append_length ys (x.0 ∷ []) in
      let two : length (done ++ y ∷ []) ≡ length done + length (y ∷ []) = append_length done (y ∷ []) in
      let r = each_one (done ++ y ∷ []) rest (ys ++ x.0 ∷ []) (subst Ascends (sym same) o) (subst (λ (us : List Trace). length us ≤ k) (sym same) l) (omega (arith, one, two, s)) next
      (λ q u m. w q u (tail_in (end_of y) (kept rest) (Passed q u) m)) ns h.1 in (
        r.0,
        subst (λ (us : List Trace). TestsFound g d k Test us r.0) same r.1,
        r.2 ∙ ap (λ (us : List Ended). us ++ ns) (kept_append ys (x.0 ∷ [])) ∙ append_assoc (kept ys) (end_of x.0 ∷ []) ns ∙ ap (λ (m : Ended). kept ys ++ m ∷ ns) x.2,
      )

  pub angled_row : (found ends : List Ended) → IsListed g sp k d c e p found → EndsAltered g d c ch found ends → IsListed g sp k (suc d) c a p ends
  angled_row found ends w h = record {
    found = listed w.found;
    passes = λ B b.
        let ps = w.passes B (changing_grounds g d [] B p c a b e v (sym i)) in
        record {
          further = λ q u m. ps.further q u (altered_from g d c ch found ends h q u m);
          filled = λ q u C m x. ps.filled q u C (altered_from g d c ch found ends h q u m) (changing_leads g d [] B p c a b e v (sym i) C x);
        };
  }
    where
      listed : (xs : List Trace) × FoundOf g sp k d c e p xs × (kept xs ≡ found) → (xs : List Trace) × FoundOf g sp k (suc d) c a p xs × (kept xs ≡ ends)
      listed f =
          let ps = map (added (stood d (c, e)) (here p)) f.0 in
          let same : kept ps ≡ found = kept_map (added (stood d (c, e)) (here p)) (λ x. refl) f.0 ∙ f.2 in
          let first = first_found g sp k room d c a p (known_of g (suc d) c a p gr) (now_of g (suc d) c a p gr) e v (sym i) f.0 f.1 in
          let begun = tests_none g d k Test in
          let r = each_one [] ps [] first.ordered first.few refl begun (λ q u m. ready found w q u (subst (λ (us : List Ended). Contains us (Passed q u)) same m)) ends (subst (λ (us : List Ended). EndsAltered g d c ch us ends) (sym same) h) in
          (r.0, changing_found g sp k room d c a p (known_of g (suc d) c a p gr) (now_of g (suc d) c a p gr) e v (sym i) f.0 r.0 f.1 r.1, r.2)

-- one end more
pub altered_more : (g : Setting) (d : ℕ) (c : Context) (e : Term) (ms ns : List Ended) (m n : Ended) → EndsAltered g d c e ms ns → EndAltered g d c e m n → EndsAltered g d c e (ms ++ m ∷ []) (ns ++ n ∷ [])
altered_more g d c e [] [] m n h k = (k, refl)
altered_more g d c e [] (y ∷ ns) m n h k = absurd (some_none y ns h)
  where
    some_none : (y : Ended) (ns : List Ended) → ◌≡◌ {A = List Ended} (y ∷ ns) [] → ⊥
    some_none y ns h = cc
altered_more g d c e (x ∷ ms) [] m n h k = absurd h
altered_more g d c e (x ∷ ms) (y ∷ ns) m n h k = (h.0, altered_more g d c e ms ns m n h.1 k)
