-- The loops of the walk: what the first parts list, the whole lists.
use Rattle.std.proofs.Common.{◌≡◌, refl, sym, ap, ◌∙◌, subst, ℕ, ◌+◌, ◌-◌, ◌≤◌, ◌<◌, List, [], ◌∷◌, ◌++◌, map, length, take, drop, append_assoc, arith}
use Rattle.std.specs.Prelude.{Contains, Option, None}
use Rattle.std.proofs.lemmas.List.{take_all, map-append}
use Rattle.values_core.specs.Data.{Val}
use Rattle.values_core.specs.Ascending.{head_in}
use Rattle.names_terms.specs.Terms.{Term}
use Rattle.eval_meanings.specs.Contexts.{Context, Places, bind}
use Rattle.actions_meanings.specs.Forms.{Setting}
use Rattle.actions_meanings.specs.Outcomes.{Fixes}
use Rattle.actions_meanings.specs.Reads.{VariableSet}
use Rattle.steps_found_states.specs.Grounds.{Grounds}
use Rattle.steps_found_states.specs.Parts.{FixesAll, GroundsAll, Leads, Parts}
use Rattle.steps_found_states.proofs.Lists.{in_right}
use Rattle.steps_found_states.proofs.Several.{first_grounds}
use Rattle.steps_walk.proofs.Loops.{Apart, apart, within}
use Rattle.steps_why_branches.specs.declared.sparing.Spared.{Spared}
use Rattle.steps_why_branches.specs.declared.sparing.Sparing.{Sparing}
use Rattle.steps_why_branches.specs.Traces.{Trace, chosen, here}
use Rattle.steps_why_branches.specs.Firsts.{Ascends}
use Rattle.steps_why_branches.specs.Founds.{After, ArmsFound, EachFound, FoundOf, TurnsFound}
use Rattle.steps_why_branches.proofs.FoundParts.{AllEarlier, arms_full, arms_more, arms_none, gone_full, gone_on, none_gone, turns_begin, turns_go_on}
use Rattle.steps_why_branches.specs.declared.why.Ended.{Ended}
use Rattle.steps_why_branches.specs.declared.why.Ended.TheVariants.{Ends, Passed}
use Rattle.steps_why_walk.specs.Ends.{end_of, kept}
use Rattle.steps_why_walk.specs.Walking.{AllGrounded, AllListed, AnyGrounded, AnyListed, EndGrounds, EndsGrounded, IsAfter, IsListed, IsOnward, Passes, PassesOn, WhyGrounded, under}
use Rattle.steps_why_walk.proofs.Keeping.{earlier_ones, kept_append, kept_at, kept_length, kept_map}
use Rattle.steps_why_walk.proofs.Passing.{IsOnWay, on_less, on_more, on_none, passes_append, passes_none, passes_same, way_begins, way_goes_on}

both_same : (a b c d : List Ended) → a ≡ b → c ≡ d → a ++ c ≡ b ++ d
both_same a b c d e f = ap (λ (us : List Ended). us ++ c) e ∙ ap (λ (us : List Ended). b ++ us) f

module _ (g : Setting) (sp : Sparing) (k : ℕ) (d : ℕ) (p : Places) where
  -- all of the parts

  pub record AllSoFar (es : Parts) (i : ℕ) (ends : List Ended) : Type 0 where
    pub found : (xs : List Trace) × TurnsFound g sp d k p (take i es) xs × (kept xs ≡ ends)
    pub way : (B C : VariableSet) → GroundsAll g d [] B p es → FixesAll g es B C → IsOnWay g d B p (take i es) (drop i es) ends

  pub all_start : (es : Parts) (ends : List Ended) → 1 ≤ k → ends ≡ Passed p None ∷ [] → AllSoFar es 0 ends
  all_start es ends r e = subst (λ (us : List Ended). AllSoFar es 0 us) (sym e) (record {
    found = (here p ∷ [], turns_begin g sp d k p r, refl);
    way = λ B C h x. way_begins g d B C p es h x;
  })

  at_part : (es : Parts) (i : ℕ) (e : Context × Term) (ends : List Ended) → Apart es i e → AllSoFar es i ends → (B C : VariableSet) → GroundsAll g d [] B p es → FixesAll g es B C → IsOnWay g d B p (take i es) (e ∷ drop (i + 1) es) ends
  at_part es i e ends c s B C h x = subst (λ (us : Parts). IsOnWay g d B p (take i es) us ends) c.rest (s.way B C h x)

  -- at each of the ends the next part has its grounds
  end_grounds : (e : Context × Term) (rest : Parts) (D : VariableSet) (ends : List Ended) → ((q : Places) (o : Option Spared) → Contains ends (Passed q o) → GroundsAll g d [] D q (e ∷ rest)) → (n : Ended) → Contains ends n → EndGrounds g d D e n
  end_grounds e rest D ends h (Passed q o) m = first_grounds g d [] D q e rest (h q o m)
  end_grounds e rest D ends h (Ends w) m = tt

  pub all_step : (es : Parts) (i : ℕ) (e : Context × Term) (old new : List Ended) → 1 ≤ k → Apart es i e → IsOnward g sp k d e old new → AllSoFar es i old → AllSoFar es (i + 1) new
  all_step es i e old new r c w s = record {
    found = next s.found;
    way = λ B C h x.
        let y = at_part es i e old c s B C h x in
        subst (λ (us : Parts). IsOnWay g d B p us (drop (i + 1) es) new) (sym c.more)
        (way_goes_on g d B p (take i es) e (drop (i + 1) es) old new y (λ D z. w.passes D (end_grounds e (drop (i + 1) es) D old (λ q o m. y.grounds D q o z m))));
  }
    where
      next : (xs : List Trace) × TurnsFound g sp d k p (take i es) xs × (kept xs ≡ old) → (ys : List Trace) × TurnsFound g sp d k p (take (i + 1) es) ys × (kept ys ≡ new)
      next f =
          let o = w.found f.0 f.1.firsts.ordered f.2 in
          (o.0, subst (λ (us : Parts). TurnsFound g sp d k p us o.0) (sym c.more) (turns_go_on g sp d k p (take i es) e f.0 o.0 r f.1 o.1), o.2)

  pub all_ground : (es : Parts) (i : ℕ) (e : Context × Term) (ends : List Ended) → Apart es i e → AllGrounded g d p es → AllSoFar es i ends → EndsGrounded g d e ends
  all_ground es i e ends c h s (Passed q o) m =
      let y = at_part es i e ends c s h.0.0 h.0.2.0 h.0.1 h.0.2.1 in
      ((y.left.0, first_grounds g d [] y.left.0 q e (drop (i + 1) es) (y.grounds y.left.0 q o y.left.1 m)), (y.passes.further q o m).2 h.1.0 h.1.1)
  all_ground es i e ends c h s (Ends w) m = tt

  pub all_done : (es : Parts) (i : ℕ) (ends : List Ended) → length es ≤ i → AllSoFar es i ends → AllListed g sp k d p es ends
  all_done es i ends l s = record {
    found = let f = s.found in (f.0, subst (λ (us : Parts). TurnsFound g sp d k p us f.0) (take_all i es l) f.1, f.2);
    passes = λ B C h x. subst (λ (us : Parts). Passes p (FixesAll g us B) ends) (take_all i es l) (s.way B C h x).passes;
  }

  -- one of the parts

  abbrev pub AnyFound : Parts → List Ended → Type 0
  AnyFound es ends = (xs : List Trace) × ArmsFound g sp d k p es xs × (kept xs ≡ ends)

  abbrev pub AnyPasses : Parts → List Ended → Type 0
  AnyPasses es ends =
      (B : VariableSet) (a : Term) → ((e : Context × Term) → Contains es e → Grounds g d [] B p e.0 e.1) → ((e : Context × Term) → Contains es e → Leads g B a e.1) → Passes p (Fixes g a B) ends

  pub record AnySoFar (es done : Parts) (ends : List Ended) : Type 0 where
    pub found : AnyFound done ends
    pub passes : AnyPasses es ends

  pub any_start : (es : Parts) (ends : List Ended) → ends ≡ [] → AnySoFar es [] ends
  any_start es ends e = subst (λ (us : List Ended). AnySoFar es [] us) (sym e) (record {
    found = ([], arms_none g sp d k p, refl);
    passes = λ B a h l. passes_none p (Fixes g a B);
  })

  pub any_more : (es done : Parts) (e : Context × Term) (all more new : List Ended) → length all < k → Contains es e → IsListed g sp (k - length all) d e.0 e.1 p more → new ≡ all ++ more → AnySoFar es done all → AnySoFar es (done ++ e ∷ []) new
  any_more es done e all more new l m w z s = subst (λ (us : List Ended). AnySoFar es (done ++ e ∷ []) us) (sym z) (record {
    found = next s.found w.found;
    passes = λ B a h x. passes_append p (Fixes g a B) all more (s.passes B a h x) (led B a h x);
  })
    where
      next : AnyFound done all → (xs : List Trace) × FoundOf g sp (k - length all) d e.0 e.1 p xs × (kept xs ≡ more) → AnyFound (done ++ e ∷ []) (all ++ more)
      next f o =
          let same : length f.0 ≡ length all = kept_length f.0 all f.2 in
          let few : length f.0 < k = omega (arith, same, l) in
          let there = subst (λ (n : ℕ). FoundOf g sp (k - n) d e.0 e.1 p o.0) (sym same) o.1 in (
            f.0 ++ map (chosen (length done)) o.0,
            arms_more g sp d k p done e f.0 o.0 few f.1 there,
            kept_append f.0 (map (chosen (length done)) o.0) ∙ both_same (kept f.0) all (kept (map (chosen (length done)) o.0)) more f.2 (kept_map (chosen (length done)) (λ x. refl) o.0 ∙ o.2),
          )

      led : (B : VariableSet) (a : Term) → ((e : Context × Term) → Contains es e → Grounds g d [] B p e.0 e.1) → ((e : Context × Term) → Contains es e → Leads g B a e.1) → Passes p (Fixes g a B) more
      led B a h x = passes_same p (Fixes g e.1 B) (Fixes g a B) more (λ C y. let r = x e m C y in (r.0, r.1, λ q i f. r.2 q (i ∙ (h e m).long) f)) (w.passes B (h e m))

  -- where there is no more room, the rest adds nothing
  pub any_full : (es done rest : Parts) (all : List Ended) → 1 ≤ k → k ≤ length all → AnySoFar es done all → AnySoFar es (done ++ rest) all
  any_full es done rest all r l s = record { found = over done rest s.found; passes = s.passes }
    where
      to_end : (xs : Parts) → xs ++ [] ≡ xs
      to_end [] = refl
      to_end (x ∷ xs) = ap (λ (ys : Parts). x ∷ ys) (to_end xs)

      over : (done rest : Parts) → AnyFound done all → AnyFound (done ++ rest) all
      over done [] f = subst (λ (us : Parts). AnyFound us all) (sym (to_end done)) f
      over done (e ∷ rest) f =
          let same : length f.0 ≡ length all = kept_length f.0 all f.2 in
          let full : k ≤ length f.0 = omega (arith, same, l) in
          subst (λ (us : Parts). AnyFound us all) (append_assoc done (e ∷ []) rest) (over (done ++ e ∷ []) rest (f.0, arms_full g sp d k p done e f.0 r full f.1, f.2))

  pub any_listed : (es : Parts) (ends : List Ended) → AnySoFar es es ends → AnyListed g sp k d p es ends
  any_listed es ends s = record { found = s.found; passes = s.passes }

  -- over a list by index

  pub any_step : (es : Parts) (i : ℕ) (e : Context × Term) (all more new : List Ended) → length all < k → Apart es i e → IsListed g sp (k - length all) d e.0 e.1 p more → new ≡ all ++ more → AnySoFar es (take i es) all
      → AnySoFar es (take (i + 1) es) new
  any_step es i e all more new l c w z s = subst (λ (us : Parts). AnySoFar es us new) (sym c.more) (any_more es (take i es) e all more new l (within es i e c) w z s)

  pub any_ends : (es : Parts) (i : ℕ) (e : Context × Term) (all : List Ended) → 1 ≤ k → k ≤ length all → Apart es i e → AnySoFar es (take i es) all → AnyListed g sp k d p es all
  any_ends es i e all r l c s = any_listed es all (subst (λ (us : Parts). AnySoFar es us all) c.whole (any_full es (take i es) (e ∷ drop (i + 1) es) all r l s))

  pub any_done : (es : Parts) (i : ℕ) (ends : List Ended) → length es ≤ i → AnySoFar es (take i es) ends → AnyListed g sp k d p es ends
  any_done es i ends l s = any_listed es ends (subst (λ (us : Parts). AnySoFar es us ends) (take_all i es l) s)

  pub any_ground : (es : Parts) (i : ℕ) (e : Context × Term) → Apart es i e → AnyGrounded g d p es → WhyGrounded g d e.0 e.1 p
  any_ground es i e c h = h e (within es i e c)

  -- a term under one combination after another

  module _ (c : Context) (e : Term) (all : List (List Val)) where
    abbrev pub UnderSoFar : List (List Val) → List Ended → Type 0
    UnderSoFar left ends = (done : List (List Val)) × (done ++ left ≡ all) × AnySoFar (under c e all) (under c e done) ends

    pub under_start : (left : List (List Val)) (ends : List Ended) → left ≡ all → ends ≡ [] → UnderSoFar left ends
    under_start left ends y z = ([], y, any_start (under c e all) ends z)

    there : (done left : List (List Val)) (x : List Val) (rest : List (List Val)) → left ≡ x ∷ rest → done ++ left ≡ all → Contains (under c e all) (bind c x, e)
    there done left x rest y w =
        let at : done ++ x ∷ rest ≡ all = ap (λ (us : List (List Val)). done ++ us) (sym y) ∙ w in
        subst (λ (us : List (List Val)). Contains (under c e us) (bind c x, e)) at
        (subst (λ (us : Parts). Contains us (bind c x, e)) (sym (map-append (λ (vs : List Val). (bind c vs, e)) done (x ∷ rest))) (in_right (under c e done) (under c e (x ∷ rest)) (bind c x, e) (head_in (bind c x, e) (under c e rest))))

    pub under_step : (left : List (List Val)) (x : List Val) (rest : List (List Val)) (old more new : List Ended) → left ≡ x ∷ rest → length old < k → IsListed g sp (k - length old) d (bind c x) e p more → new ≡ old ++ more
        → UnderSoFar left old → UnderSoFar rest new
    under_step left x rest old more new y l w z s = (
      s.0 ++ x ∷ [],
      append_assoc s.0 (x ∷ []) rest ∙ ap (λ (us : List (List Val)). s.0 ++ us) (sym y) ∙ s.1,
      subst (λ (us : Parts). AnySoFar (under c e all) us new) (sym (map-append (λ (vs : List Val). (bind c vs, e)) s.0 (x ∷ [])))
          (any_more (under c e all) (under c e s.0) (bind c x, e) old more new l (there s.0 left x rest y s.1) w z s.2),
    )

    pub under_ends : (left : List (List Val)) (ends : List Ended) → 1 ≤ k → k ≤ length ends → UnderSoFar left ends → AnyListed g sp k d p (under c e all) ends
    under_ends left ends r l s =
        let whole : under c e s.0 ++ under c e left ≡ under c e all = sym (map-append (λ (vs : List Val). (bind c vs, e)) s.0 left) ∙ ap (λ (us : List (List Val)). under c e us) s.1 in
        any_listed (under c e all) ends (subst (λ (us : Parts). AnySoFar (under c e all) us ends) whole (any_full (under c e all) (under c e s.0) (under c e left) ends r l s.2))

    pub under_done : (left : List (List Val)) (ends : List Ended) → left ≡ [] → UnderSoFar left ends → AnyListed g sp k d p (under c e all) ends
    under_done left ends y s =
        let same : s.0 ≡ all = sym (to_end s.0) ∙ ap (λ (us : List (List Val)). s.0 ++ us) (sym y) ∙ s.1 in
        any_listed (under c e all) ends (subst (λ (us : List (List Val)). AnySoFar (under c e all) (under c e us) ends) same s.2)
      where
        to_end : (xs : List (List Val)) → xs ++ [] ≡ xs
        to_end [] = refl
        to_end (x ∷ xs) = ap (λ (ys : List (List Val)). x ∷ ys) (to_end xs)

    pub under_ground : (left : List (List Val)) (x : List Val) (rest : List (List Val)) (ends : List Ended) → left ≡ x ∷ rest → AnyGrounded g d p (under c e all) → UnderSoFar left ends → WhyGrounded g d (bind c x) e p
    under_ground left x rest ends y h s = h (bind c x, e) (there s.0 left x rest y s.1)

-- one part more, behind each of several branches
module _ (g : Setting) (sp : Sparing) (k : ℕ) (d : ℕ) (e : Context × Term) (before : List Ended) where
  pub record OnSoFar (i : ℕ) (all : List Ended) : Type 0 where
    pub found : (xs : List Trace) → Ascends xs → kept xs ≡ before → (ys : List Trace) × EachFound g sp d k e (take i xs) ys × (kept ys ≡ all)
    pub passes : (B : VariableSet) → ((n : Ended) → Contains before n → EndGrounds g d B e n) → PassesOn (take i before) (Fixes g e.1 B) all

  pub on_start : (all : List Ended) → all ≡ [] → OnSoFar 0 all
  on_start all z = subst (λ (us : List Ended). OnSoFar 0 us) (sym z) (record {
    found = λ xs a b. ([], none_gone g sp d k e, refl);
    passes = λ B h. on_none (Fixes g e.1 B);
  })

  at_trace : (i : ℕ) (n : Ended) → Apart before i n → (xs : List Trace) → kept xs ≡ before → (y : Trace) × Apart xs i y × (end_of y ≡ n)
  at_trace i n c xs b =
      let r = kept_at xs i n (drop (i + 1) before) (ap (λ (us : List Ended). drop i us) b ∙ c.rest) in
      (r.0, apart xs i r.0 r.1, r.2)

  these_earlier : (i : ℕ) (xs : List Trace) (y : Trace) → Ascends xs → Apart xs i y → AllEarlier (take i xs) y
  these_earlier i xs y a c = earlier_ones (take i xs) (drop (i + 1) xs) y (subst Ascends (sym c.whole) a)

  pub on_step : (i : ℕ) (n : Ended) (all more new : List Ended) → length all < k → Apart before i n → IsAfter g sp (k - length all) d e n more → new ≡ all ++ more → OnSoFar i all → OnSoFar (i + 1) new
  on_step i n all more new l c w z s = subst (λ (us : List Ended). OnSoFar (i + 1) us) (sym z) (record {
    found = next;
    passes = λ B h. subst (λ (us : List Ended). PassesOn us (Fixes g e.1 B) (all ++ more)) (sym c.more) (on_more (Fixes g e.1 B) (take i before) all more n (s.passes B h) (w.passes B (h n (within before i n c))));
  })
    where
      next : (xs : List Trace) → Ascends xs → kept xs ≡ before → (ys : List Trace) × EachFound g sp d k e (take (i + 1) xs) ys × (kept ys ≡ all ++ more)
      next xs a b =
          let r = at_trace i n c xs b in
          let o = s.found xs a b in
          let v = w.found r.0 r.2 in
          let same : length o.0 ≡ length all = kept_length o.0 all o.2 in
          let few : length o.0 < k = omega (arith, same, l) in
          let after = subst (λ (m : ℕ). After g sp d (k - m) e r.0 v.0) (sym same) v.1 in (
            o.0 ++ v.0,
            subst (λ (us : List Trace). EachFound g sp d k e us (o.0 ++ v.0)) (sym r.1.more) (gone_on g sp d k e (take i xs) r.0 o.0 v.0 (these_earlier i xs r.0 a r.1) few o.1 after),
            kept_append o.0 v.0 ∙ both_same (kept o.0) all (kept v.0) more o.2 v.2,
          )

  pub on_pass : (i : ℕ) (n : Ended) (all : List Ended) → k ≤ length all → Apart before i n → OnSoFar i all → OnSoFar (i + 1) all
  on_pass i n all l c s = record {
    found = λ xs a b.
        let r = at_trace i n c xs b in
        let o = s.found xs a b in
        let same : length o.0 ≡ length all = kept_length o.0 all o.2 in
        (o.0, subst (λ (us : List Trace). EachFound g sp d k e us o.0) (sym r.1.more) (gone_full g sp d k e (take i xs) r.0 o.0 (these_earlier i xs r.0 a r.1) (omega (arith, same, l)) o.1), o.2);
    passes = λ B h. subst (λ (us : List Ended). PassesOn us (Fixes g e.1 B) all) (sym c.more) (on_less (Fixes g e.1 B) (take i before) all n (s.passes B h));
  }

  pub on_done : (i : ℕ) (all : List Ended) → length before ≤ i → OnSoFar i all → IsOnward g sp k d e before all
  on_done i all l s = record {
    found = λ xs a b.
        let o = s.found xs a b in
        let same : length xs ≡ length before = kept_length xs before b in
        (o.0, subst (λ (us : List Trace). EachFound g sp d k e us o.0) (take_all i xs (omega (arith, same, l))) o.1, o.2);
    passes = λ B h. subst (λ (us : List Ended). PassesOn us (Fixes g e.1 B) all) (take_all i before l) (s.passes B h);
  }
