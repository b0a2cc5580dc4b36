-- Rows that are taken apart: what their parts list, they list.
use Rattle.std.proofs.Common.{◌≡◌, refl, sym, ap, ◌∙◌, subst, ℕ, zero, suc, ◌≤◌, List, [], ◌∷◌, length, arith}
use Rattle.std.specs.Prelude.{true, false, Result, Ok, Err}
use Rattle.base_core.specs.declared.place.Place.{Place}
use Rattle.values_core.specs.Ascending.{head_in}
use Rattle.values_core.specs.declared.fault.EvalKind.TheVariants.{Nested}
use Rattle.states_core.specs.declared.fault.Fault.{Fault}
use Rattle.names_terms.specs.Terms.{Term, place_of}
use Rattle.eval_meanings.specs.Contexts.{Context, Places}
use Rattle.eval_meanings.specs.Laws.{ReadsValues}
use Rattle.eval_meanings.specs.Outcomes.{fault}
use Rattle.actions_meanings.specs.Forms.{Form, Setting, form}
use Rattle.actions_meanings.specs.Holds.{Opened, all_of, one_of}
use Rattle.actions_meanings.specs.Outcomes.{Fixes}
use Rattle.actions_meanings.specs.Filled.{at_next}
use Rattle.steps_found_states.specs.Grounds.{OpensFrom}
use Rattle.steps_found_states.specs.Parts.{FixesAll, Parts}
use Rattle.steps_found_states.specs.Walks.{HoldsOf}
use Rattle.steps_found_states.proofs.Inner.{all_fix, all_grounds, part_grounds, part_leads}
use Rattle.steps_why_branches.specs.PassedOver.{called}
use Rattle.steps_why_branches.specs.declared.sparing.Sparing.{Sparing}
use Rattle.steps_why_branches.specs.Traces.{Trace, faulted, stops, why_at}
use Rattle.steps_why_branches.specs.Branches.{is_choice, stood}
use Rattle.steps_why_branches.specs.Founds.{ArmsFound, Found, FoundOf}
use Rattle.steps_why_branches.specs.Told.{KnowsAll}
use Rattle.steps_why_branches.proofs.Elements.{get_nil}
use Rattle.steps_why_branches.proofs.Found.{found_nested}
use Rattle.steps_why_branches.proofs.FoundParts.{OpenedBy, of_opening, opened_all, opened_choice, opened_none, opened_part, opened_refused}
use Rattle.steps_why_branches.specs.declared.why.Ended.{Ended}
use Rattle.steps_why_branches.specs.declared.why.Ended.TheVariants.{Ends}
use Rattle.steps_why_branches.specs.declared.why.WhyKind.TheVariants as why
use Rattle.steps_why_walk.specs.Ends.{OrNoMember, kept}
use Rattle.steps_why_walk.specs.Walking.{AllListed, AnyListed, IsListed, WhyGrounded}
use Rattle.steps_why_walk.proofs.Keeping.{kept_length, reads_here}
use Rattle.steps_why_walk.proofs.Passing.{passes_ended, passes_same}

-- with no evaluation left
pub nested_row : (g : Setting) (sp : Sparing) (k d : ℕ) (c : Context) (a : Term) (p : Places) (at : Place) (n : Ended) (ends : List Ended) → 1 ≤ k → d ≡ 0 → at ≡ place_of a → n ≡ Ends (why_at at (why.Fault Nested)) → ends ≡ n ∷ [] → IsListed g sp k d c a p ends
nested_row g sp k d c a p at n ends r z i e h = subst (λ (m : ℕ). IsListed g sp k m c a p ends) (sym z) (subst (λ (us : List Ended). IsListed g sp k zero c a p us) (sym (h ∙ ap (λ (m : Ended). m ∷ []) (e ∙ ap (λ (x : Place). Ends (why_at x (why.Fault Nested))) i)))
    (record {
      found = (faulted p (stood zero (c, a)) (fault Nested (place_of a)) ∷ [], found_nested g sp k c a p r, refl);
      passes = λ B gr. passes_ended p (Fixes g a B) (why_at (place_of a) (why.Fault Nested));
    }))

-- at another number that is the same
pub listed_at : (g : Setting) (sp : Sparing) (k m n : ℕ) (c : Context) (a : Term) (p : Places) (ends : List Ended) → m ≡ n → IsListed g sp k m c a p ends → IsListed g sp k n c a p ends
listed_at g sp k m n c a p ends e h = subst (λ (d : ℕ). IsListed g sp k d c a p ends) e h

pub grounded_at : (g : Setting) (m n : ℕ) (c : Context) (a : Term) (p : Places) → m ≡ n → WhyGrounded g m c a p → WhyGrounded g n c a p
grounded_at g m n c a p e h = subst (λ (d : ℕ). WhyGrounded g d c a p) e h

pub known_of : (g : Setting) (d : ℕ) (c : Context) (a : Term) (p : Places) → WhyGrounded g d c a p → KnowsAll g p c a
known_of g d c a p gr = gr.0.1.reads

pub now_of : (g : Setting) (d : ℕ) (c : Context) (a : Term) (p : Places) → WhyGrounded g d c a p → ReadsValues g.table (at_next g.which c p) a
now_of g d c a p gr = reads_here g.table g.which c a p gr.1.0 gr.1.1 (gr.0.1.reads gr.1.0 gr.1.1)

-- the ends, where there are some
pub some_ends : (at : Place) (ns ends : List Ended) → 1 ≤ length ns → OrNoMember at ns ends → ends ≡ ns
some_ends at [] ends l h = absurd (omega (arith, l))
some_ends at (n ∷ ns) ends l h = h

pub no_ends : (at : Place) (ns ends : List Ended) → ns ≡ [] → OrNoMember at ns ends → ends ≡ Ends (why_at at why.NoMember) ∷ []
no_ends at [] ends z h = h
no_ends at (n ∷ ns) ends z h = absurd (cc)

-- a row by the form of its term
module _ (g : Setting) (sp : Sparing) (k : ℕ) (room : 1 ≤ k) (d : ℕ) (c : Context) (a : Term) (p : Places) (gr : WhyGrounded g (suc d) c a p) (f : Form) (i : f ≡ form g (length c.slots) a) where
  abbrev Taken : Trace → Type 0
  Taken x = OpenedBy g sp k room d c a p (known_of g (suc d) c a p gr) (now_of g (suc d) c a p gr) f x

  opened : (r : Result Opened Fault) → OpensFrom g d c p (place_of a) f r → OpensFrom g d c p (place_of a) (form g (length c.slots) a) r
  opened r h = subst (λ (x : Form). OpensFrom g d c p (place_of a) x r) i h

  whole : (r : Result Opened Fault) → OpensFrom g d c p (place_of a) f r → (xs : List Trace) → Found k p Taken (HoldsOf g (suc d) c a) xs → FoundOf g sp k (suc d) c a p xs
  whole r h xs m = of_opening g sp k room d c a p (known_of g (suc d) c a p gr) (now_of g (suc d) c a p gr) f (sym i) r h xs m

  -- a fault of what is evaluated for it
  pub refused_row : (e : Fault) → OpensFrom g d c p (place_of a) f (Err e) → (ends : List Ended) → ends ≡ Ends (why_at e.at (why.Fault e.kind)) ∷ [] → IsListed g sp k (suc d) c a p ends
  refused_row e h ends z = subst (λ (us : List Ended). IsListed g sp k (suc d) c a p us) (sym z) (record {
    found = (
      faulted p (stood (suc d) (c, a)) e ∷ [],
      whole (Err e) h (faulted p (stood (suc d) (c, a)) e ∷ []) (opened_refused g sp k room d c a p (known_of g (suc d) c a p gr) (now_of g (suc d) c a p gr) f (sym i) e h),
      refl,
    );
    passes = λ B b. passes_ended p (Fixes g a B) (why_at e.at (why.Fault e.kind));
  })

  -- all of its parts
  pub all_row : (es : Parts) → OpensFrom g d c p (place_of a) f (Ok (all_of es)) → (ends : List Ended) → AllListed g (called f sp) k d p es ends → IsListed g sp k (suc d) c a p ends
  all_row es h ends w = record {
    found = (w.found.0, whole (Ok (all_of es)) h w.found.0 (opened_all g sp k room d c a p (known_of g (suc d) c a p gr) (now_of g (suc d) c a p gr) f (sym i) es h w.found.0 w.found.1), w.found.2);
    passes = λ B b.
        let o = opened (Ok (all_of es)) h in
        passes_same p (FixesAll g es B) (Fixes g a B) ends (λ C x. (C, all_fix g d [] B p c a b es o C x, λ q l f. f))
        (w.passes B b.walks.0.0 (all_grounds g d [] B p c a b es o) (all_fix g d [] B p c a b es o b.walks.0.0 b.walks.0.1));
  }

  -- the only part
  pub only_row : is_choice f ≡ false → (b : Context) (x : Term) → OpensFrom g d c p (place_of a) f (Ok (one_of ((b, x) ∷ []))) → (ends : List Ended) → IsListed g (called f sp) k d b x p ends → IsListed g sp k (suc d) c a p ends
  only_row j b x h ends w = record {
    found = (w.found.0, whole (Ok (one_of ((b, x) ∷ []))) h w.found.0 (opened_part g sp k room d c a p (known_of g (suc d) c a p gr) (now_of g (suc d) c a p gr) f (sym i) j (b, x) h w.found.0 w.found.1), w.found.2);
    passes = λ B l.
        let o = opened (Ok (one_of ((b, x) ∷ []))) h in
        let m = head_in (b, x) [] in
        passes_same p (Fixes g x B) (Fixes g a B) ends (λ C y. let r = part_leads g d [] B p c a l ((b, x) ∷ []) o (b, x) m C y in (r.0, r.1, λ q e f. r.2 q (e ∙ l.long) f))
        (w.passes B (part_grounds g d [] B p c a l ((b, x) ∷ []) o (b, x) m));
  }

  -- one of its parts, where there are some
  pub some_row : is_choice f ≡ true → (es : Parts) → 1 ≤ length es → OpensFrom g d c p (place_of a) f (Ok (one_of es)) → (ends : List Ended) → AnyListed g (called f sp) k d p es ends → IsListed g sp k (suc d) c a p ends
  some_row j es l h ends w = record {
    found = (w.found.0, whole (Ok (one_of es)) h w.found.0 (opened_choice g sp k room d c a p (known_of g (suc d) c a p gr) (now_of g (suc d) c a p gr) f (sym i) j es h w.found.0 l w.found.1), w.found.2);
    passes = λ B b.
        let o = opened (Ok (one_of es)) h in
        w.passes B a (part_grounds g d [] B p c a b es o) (part_leads g d [] B p c a b es o);
  }

  -- or none
  pub none_row : is_choice f ≡ true → OpensFrom g d c p (place_of a) f (Ok (one_of [])) → (ends : List Ended) → ends ≡ Ends (why_at (place_of a) why.NoMember) ∷ [] → IsListed g sp k (suc d) c a p ends
  none_row j h ends z = subst (λ (us : List Ended). IsListed g sp k (suc d) c a p us) (sym z) (record {
    found = (
      stops p (stood (suc d) (c, a)) (place_of a) why.NoMember ∷ [],
      whole (Ok (one_of [])) h (stops p (stood (suc d) (c, a)) (place_of a) why.NoMember ∷ []) (opened_none g sp k room d c a p (known_of g (suc d) c a p gr) (now_of g (suc d) c a p gr) f (sym i) j h),
      refl,
    );
    passes = λ B b. passes_ended p (Fixes g a B) (why_at (place_of a) why.NoMember);
  })

  -- one of its parts, if there are any
  pub choice_row : is_choice f ≡ true → (es : Parts) → OpensFrom g d c p (place_of a) f (Ok (one_of es)) → (ns ends : List Ended) → AnyListed g (called f sp) k d p es ns → OrNoMember (place_of a) ns ends → IsListed g sp k (suc d) c a p ends
  choice_row j [] h ns ends w o = none_row j h ends (no_ends (place_of a) ns ends (nothing w.found) o)
    where
      none : (xs : List Trace) → ArmsFound g (called f sp) d k p [] xs → xs ≡ []
      none [] b = refl
      none (x ∷ xs) b = let r = b.firsts.are x (head_in x xs) in absurd (get_nil r.0 r.1.0 r.1.1)

      nothing : (xs : List Trace) × ArmsFound g (called f sp) d k p [] xs × (kept xs ≡ ns) → ns ≡ []
      nothing b = sym b.2 ∙ ap kept (none b.0 b.1)
  choice_row j (e ∷ es) h ns ends w o =
      let some : 1 ≤ length (e ∷ es) = omega arith in
      let one : 1 ≤ length w.found.0 = w.found.1.some some in
      let same : length w.found.0 ≡ length ns = kept_length w.found.0 ns w.found.2 in
      subst (λ (us : List Ended). IsListed g sp k (suc d) c a p us) (sym (some_ends (place_of a) ns ends (omega (arith, one, same)) o)) (some_row j (e ∷ es) some h ns w)
