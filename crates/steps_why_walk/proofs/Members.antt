-- `x' \in S` where x has no value yet: each member in turn, or the fault of listing the set, or nothing to choose from.
use Rattle.std.proofs.Common.{◌≡◌, inl, inr, refl, sym, ap, ◌∙◌, subst, ℕ, suc, ◌+◌, ◌<◌, ◌≤◌, List, [], ◌∷◌, ◌++◌, length, take, drop, append_assoc, arith}
use Rattle.std.specs.Prelude.{Contains, Option, None, Some, Result, Ok, Err, slice_get, slice_set}
use Rattle.std.proofs.lemmas.List.{take_all}
use Rattle.base_core.specs.declared.place.Place.{Place}
use Rattle.values_core.specs.Data.{Val, function, integer, members, model, set, string, truth}
use Rattle.values_core.specs.IsValue.{IsValue}
use Rattle.values_core.specs.Ascending.{head_in, none_in}
use Rattle.values_core.specs.Sets.{items_of}
use Rattle.states_core.specs.declared.fault.Fault.{Fault}
use Rattle.names_terms.specs.Terms.{Term, place_of}
use Rattle.eval_laws.proofs.FineContexts.{members_are}
use Rattle.values_sets.specs.DescribedSets.{Described}
use Rattle.eval_meanings.specs.Contexts.{Context, Places}
use Rattle.eval_meanings.specs.Evaluates.{Describes}
use Rattle.eval_meanings.specs.Sets.{MeansSet, list_at}
use Rattle.actions_meanings.specs.Forms.{Form, Setting, choose, form}
use Rattle.actions_meanings.specs.Outcomes.{Fixes, form_outcome, outcome_within}
use Rattle.actions_meanings.specs.Reads.{VariableSet, with_variable}
use Rattle.logs_updates.specs.declared.update.See.{See}
use Rattle.actions_meanings.specs.Filled.{Fills, at_next}
use Rattle.steps_found_states.specs.Filling.{AgreesAt, Gets}
use Rattle.steps_found_states.specs.Grounds.{Grounds}
use Rattle.steps_found_states.proofs.Filling.{gets_new}
use Rattle.steps_found_states.proofs.FormFixes.{choose_fixes, fixes_form}
use Rattle.steps_found_states.proofs.Lists.{all_by_place, all_in, of_map}
use Rattle.logs_updates.specs.Changes.{LeadsTo}
use Rattle.steps_filling.specs.Fillings.{IsEmpty}
use Rattle.steps_walk.proofs.Loops.{Apart}
use Rattle.steps_why_branches.specs.Traces.{Trace, chosen, faulted, here, stops, why_at}
use Rattle.steps_why_branches.specs.Branches.{stood}
use Rattle.steps_why_branches.specs.declared.sparing.Spared.{Spared}
use Rattle.steps_why_branches.specs.declared.sparing.Sparing.{Sparing}
use Rattle.steps_why_branches.specs.Founds.{MembersFound}
use Rattle.steps_why_branches.proofs.Elements.{get_nil}
use Rattle.steps_why_branches.proofs.FoundParts.{chosen_members, found_no_list, found_no_member, members_full, members_more, members_none}
use Rattle.steps_why_branches.specs.declared.why.Ended.{Ended}
use Rattle.steps_why_branches.specs.declared.why.Ended.TheVariants.{Ends, Passed}
use Rattle.steps_why_branches.specs.declared.why.WhyKind.TheVariants as why
use Rattle.steps_why_walk.specs.Ends.{IsChosen, IsListedEnds, IsMembers, OfListed, OrNoMember, end_of, kept}
use Rattle.steps_why_walk.specs.Walking.{IsListed, Passes, WhyGrounded}
use Rattle.steps_why_walk.proofs.Keeping.{kept_append, kept_length, there_get}
use Rattle.steps_why_walk.proofs.LeafRows.{empty_place, given_row}
use Rattle.steps_why_walk.proofs.Passing.{Further, passed_same, passes_ended}
use Rattle.steps_why_walk.proofs.Rows.{known_of, no_ends, now_of, some_ends}

-- the loop over the members

module _ (k : ℕ) (p : Places) (x : ℕ) where
  pub members_start : (ends : List Ended) → ends ≡ [] → IsMembers k p x [] ends
  members_start ends e = ([], members_none k p x, sym e)

  pub members_step : (vs : List Val) (i : ℕ) (v : Val) (n : Ended) (ends new : List Ended) → length ends < k → Apart vs i v → n ≡ Passed (slice_set p x (Some v)) None → new ≡ ends ++ n ∷ [] → IsMembers k p x (take i vs) ends → IsMembers k p x (take (i + 1) vs) new
  members_step vs i v n ends new l c z e f =
      let same : length f.0 ≡ length ends = kept_length f.0 ends f.2 in
      let few : length f.0 < k = omega (arith, same, l) in
      let y = chosen (length (take i vs)) (here (slice_set p x (Some v))) in (
        f.0 ++ y ∷ [],
        subst (λ (us : List Val). MembersFound k p x us (f.0 ++ y ∷ [])) (sym c.more) (members_more k p x (take i vs) v f.0 few f.1),
        kept_append f.0 (y ∷ []) ∙ ap (λ (us : List Ended). us ++ Passed (slice_set p x (Some v)) None ∷ []) f.2 ∙ ap (λ (m : Ended). ends ++ m ∷ []) (sym z) ∙ sym e,
      )

  over : (done rest : List Val) (ends : List Ended) → 1 ≤ k → k ≤ length ends → IsMembers k p x done ends → IsMembers k p x (done ++ rest) ends
  over done [] ends r l f = subst (λ (us : List Val). IsMembers k p x us ends) (sym (to_end done)) f
    where
      to_end : (xs : List Val) → xs ++ [] ≡ xs
      to_end [] = refl
      to_end (x ∷ xs) = ap (λ (ys : List Val). x ∷ ys) (to_end xs)
  over done (v ∷ rest) ends r l f =
      let same : length f.0 ≡ length ends = kept_length f.0 ends f.2 in
      let full : k ≤ length f.0 = omega (arith, same, l) in
      subst (λ (us : List Val). IsMembers k p x us ends) (append_assoc done (v ∷ []) rest) (over (done ++ v ∷ []) rest ends r l (f.0, members_full k p x done v f.0 r full f.1, f.2))

  pub members_end : (vs : List Val) (i : ℕ) (v : Val) (ends : List Ended) → 1 ≤ k → k ≤ length ends → Apart vs i v → IsMembers k p x (take i vs) ends → IsMembers k p x vs ends
  members_end vs i v ends r l c f = subst (λ (us : List Val). IsMembers k p x us ends) c.whole (over (take i vs) (v ∷ drop (i + 1) vs) ends r l f)

  pub members_done : (vs : List Val) (i : ℕ) (ends : List Ended) → length vs ≤ i → IsMembers k p x (take i vs) ends → IsMembers k p x vs ends
  members_done vs i ends l f = subst (λ (us : List Val). IsMembers k p x us ends) (take_all i vs l) f

  -- what is filled at each of the ends
  pub members_passed : (vs : List Val) (ends : List Ended) → IsMembers k p x vs ends → (q : Places) (o : Option Spared) → Contains ends (Passed q o) → (v : Val) × Contains vs v × (q ≡ slice_set p x (Some v))
  members_passed vs ends f q o m =
      let y = of_map end_of f.0 (Passed q o) (subst (λ (us : List Ended). Contains us (Passed q o)) (sym f.2) m) in
      let r = f.1.firsts.are y.0 y.1 in
      let v = r.1.0 in
      let z = r.1.2.0 in
      let same : end_of y.0 ≡ Passed (slice_set p x (Some v)) None = ap end_of r.1.2.2 ∙ ap end_of r.1.2.1 in
      (v, there_get vs r.0 v r.1.1, sym (passed_same (slice_set p x (Some v)) q None o (sym same ∙ y.2)))

members_are_values : (u : Val) → IsValue u → (v : Val) → Contains (items_of u) v → IsValue v
members_are_values (set vs) i v c = all_in IsValue (members vs) (members_are vs i) v c
members_are_values (model s) i v c = absurd (none_in v c)
members_are_values (truth b) i v c = absurd (none_in v c)
members_are_values (integer z) i v c = absurd (none_in v c)
members_are_values (string s) i v c = absurd (none_in v c)
members_are_values (function ps) i v c = absurd (none_in v c)

nothing_seen : (x : ℕ) (v : Val) → AgreesAt [] x v
nothing_seen x v = all_by_place (λ (see : See). see.path.variable.0 ≡ x → LeadsTo see.path.keys v see.value) [] tt

module _ (g : Setting) (sp : Sparing) (k : ℕ) (room : 1 ≤ k) (d : ℕ) (c : Context) (a : Term) (p : Places) (gr : WhyGrounded g (suc d) c a p) (x : ℕ) (e : Term) (i : choose x e ≡ form g (length c.slots) a) (S : Described)
    (h : MeansSet (Describes g.table d) (at_next g.which c p) e (Ok S)) (l : x < length p) (m : IsEmpty p x) where
  empty : slice_get p x ≡ Some None
  empty = empty_place p x l m

  -- what the fixed variables are then
  fixed : (B C : VariableSet) → Fixes g a B C → C ≡ with_variable B x
  fixed B C y =
      let r = fixes_form g (length c.slots) a B C y in
      choose_fixes g r.0 (outcome_within g r.0) a B C x e (subst (λ (f : Form). form_outcome g r.0 (outcome_within g r.0) a B f ≡ Ok C) (sym i) r.2)

  unlisted : (f : Fault) → list_at (place_of e) S (Err f) → (ends : List Ended) → ends ≡ Ends (why_at f.at (why.Fault f.kind)) ∷ [] → IsListed g sp k (suc d) c a p ends
  unlisted f t ends z = subst (λ (us : List Ended). IsListed g sp k (suc d) c a p us) (sym z) (record {
    found = (faulted p (stood (suc d) (c, a)) f ∷ [], found_no_list g sp k room d c a p (known_of g (suc d) c a p gr) (now_of g (suc d) c a p gr) x e (sym i) S h empty f t, refl);
    passes = λ B b. passes_ended p (Fixes g a B) (why_at f.at (why.Fault f.kind));
  })

  module _ (u : Val) (t : list_at (place_of e) S (Ok u)) (value : IsValue u) where
    -- the set has no member
    nothing : items_of u ≡ [] → (ends : List Ended) → ends ≡ Ends (why_at (place_of a) why.NoMember) ∷ [] → IsListed g sp k (suc d) c a p ends
    nothing none ends z = subst (λ (us : List Ended). IsListed g sp k (suc d) c a p us) (sym z) (record {
      found = (stops p (stood (suc d) (c, a)) (place_of a) why.NoMember ∷ [], found_no_member g sp k room d c a p (known_of g (suc d) c a p gr) (now_of g (suc d) c a p gr) x e (sym i) S h empty u t none, refl);
      passes = λ B b. passes_ended p (Fixes g a B) (why_at (place_of a) why.NoMember);
    })

    passing : (ends : List Ended) → IsMembers k p x (items_of u) ends → (B : VariableSet) → Grounds g (suc d) [] B p c a → Passes p (Fixes g a B) ends
    passing ends f B b = record {
      further = λ q o n. let r = members_passed k p x (items_of u) ends f q o n in subst (λ (y : Places). Further p y) (sym r.2) ((gets r.0 r.1).further (slice_set p x (Some r.0)) (head_in (slice_set p x (Some r.0)) []));
      filled = λ q o C n y. let r = members_passed k p x (items_of u) ends f q o n in subst (λ (w : Places). Fills C w) (sym r.2) ((gets r.0 r.1).filled (slice_set p x (Some r.0)) C (head_in (slice_set p x (Some r.0)) []) (fixed B C y));
    }
      where
        gets : (v : Val) → Contains (items_of u) v → Gets [] B p x (λ w. w ≡ v) (slice_set p x (Some v) ∷ [])
        gets v n = gets_new [] B p x (λ w. w ≡ v) v b.fills b.agrees l empty (nothing_seen x v) (members_are_values u value v n) refl (λ w e. e)

    some : 1 ≤ length (items_of u) → (ends : List Ended) → IsMembers k p x (items_of u) ends → IsListed g sp k (suc d) c a p ends
    some one ends f = record {
      found = (f.0, chosen_members g sp k room d c a p (known_of g (suc d) c a p gr) (now_of g (suc d) c a p gr) x e (sym i) S h empty u t f.0 one f.1, f.2);
      passes = passing ends f;
    }

    listed : (ns ends : List Ended) → IsMembers k p x (items_of u) ns → OrNoMember (place_of a) ns ends → IsListed g sp k (suc d) c a p ends
    listed ns ends f o = by_members (items_of u) refl
      where
        no_ones : (xs : List Trace) → MembersFound k p x [] xs → xs ≡ []
        no_ones [] b = refl
        no_ones (y ∷ xs) b = let r = b.firsts.are y (head_in y xs) in absurd (get_nil r.0 r.1.0 r.1.1)

        by_members : (vs : List Val) → items_of u ≡ vs → IsListed g sp k (suc d) c a p ends
        by_members [] z =
            let none : ns ≡ [] = sym f.2 ∙ ap kept (no_ones f.0 (subst (λ (us : List Val). MembersFound k p x us f.0) z f.1)) in
            nothing z ends (no_ends (place_of a) ns ends none o)
        by_members (v ∷ vs) z =
            let one : 1 ≤ length (items_of u) = subst (λ (us : List Val). 1 ≤ length us) (sym z) (omega arith) in
            let there : 1 ≤ length f.0 = f.1.some one in
            let same : length f.0 ≡ length ns = kept_length f.0 ns f.2 in
            subst (λ (us : List Ended). IsListed g sp k (suc d) c a p us) (sym (some_ends (place_of a) ns ends (omega (arith, there, same)) o)) (some one ns f)

  pub listed_row : (ends : List Ended) → IsListedEnds k x S (place_of e) (place_of a) p ends → IsListed g sp k (suc d) c a p ends
  listed_row ends r = by_list r.0 r.1 r.2
    where
      by_list : (r : Result Val Fault) → list_at (place_of e) S r → OfListed k x (place_of a) p ends r → IsListed g sp k (suc d) c a p ends
      by_list (Ok u) t o = listed u t o.0 o.1.0 ends o.1.1 o.1.2
      by_list (Err f) t o = unlisted f t ends o

-- a variable that has a member of a set, by what it has
pub chosen_row : (g : Setting) (sp : Sparing) (k : ℕ) (room : 1 ≤ k) (d : ℕ) (c : Context) (a : Term) (p : Places) (gr : WhyGrounded g (suc d) c a p) (x : ℕ) (e : Term) (i : choose x e ≡ form g (length c.slots) a) (S : Described) (set_at : Place) (ends : List Ended) → x < length p
    → MeansSet (Describes g.table d) (at_next g.which c p) e (Ok S) → set_at ≡ place_of e → IsChosen k sp c.slots a x S set_at p ends → IsListed g sp k (suc d) c a p ends
chosen_row g sp k room d c a p gr x e i S set_at ends l h z o = by_cases (subst (λ (y : Place). IsChosen k sp c.slots a x S y p ends) z o)
  where
    by_cases : IsChosen k sp c.slots a x S (place_of e) p ends → IsListed g sp k (suc d) c a p ends
    by_cases (inl (v, j, (n, b, u))) = given_row g sp k room d c a p gr x e i S v n ends l h j b u
    by_cases (inr (m, r)) = listed_row g sp k room d c a p gr x e i S h l m ends r
