-- What comes of one branch with one part more.
use Rattle.std.proofs.Common.{◌≡◌, refl, sym, ap, ◌∙◌, subst, ℕ, ◌≤◌, List, [], ◌∷◌, map}
use Rattle.names_terms.specs.Terms.{Term}
use Rattle.eval_meanings.specs.Contexts.{Context, Places}
use Rattle.actions_meanings.specs.Forms.{Setting}
use Rattle.actions_meanings.specs.Outcomes.{Fixes}
use Rattle.std.specs.Prelude.{Option}
use Rattle.steps_why_branches.specs.Traces.{End, SparedPart, Trace, added, after_spared, ended, passed}
use Rattle.steps_why_branches.specs.declared.sparing.Spared.{Spared}
use Rattle.steps_why_branches.specs.declared.sparing.Sparing.{Sparing}
use Rattle.steps_why_branches.specs.Branches.{stood}
use Rattle.steps_why_branches.specs.Founds.{After, FoundOf}
use Rattle.steps_why_branches.proofs.FoundParts.{after_ended, after_passed}
use Rattle.steps_why_branches.specs.declared.why.Why.{Why}
use Rattle.steps_why_branches.specs.declared.why.Ended.{Ended}
use Rattle.steps_why_branches.specs.declared.why.Ended.TheVariants.{Ends, Passed}
use Rattle.steps_why_walk.specs.Ends.{after_first, end_with, first_spared, kept, with_first}
use Rattle.steps_why_walk.specs.Walking.{IsAfter, IsListed}
use Rattle.steps_why_walk.proofs.Keeping.{kept_behind}
use Rattle.steps_why_walk.proofs.Passing.{not_passed, on_ended, on_passed, passed_same, spared_same}

pub after_end : (g : Setting) (sp : Sparing) (k d : ℕ) (e : Context × Term) (w : Why) (ends : List Ended) → 1 ≤ k → ends ≡ Ends w ∷ [] → IsAfter g sp k d e (Ends w) ends
after_end g sp k d e w ends r z = subst (λ (us : List Ended). IsAfter g sp k d e (Ends w) us) (sym z) (record {
  found = λ y i. by_end y y.end refl i;
  passes = λ B h. on_ended (Fixes g e.1 B) w;
})
  where
    by_end : (y : Trace) (n : End) → y.end ≡ n → end_with y.spared n ≡ Ends w → (zs : List Trace) × After g sp d k e y zs × (kept zs ≡ Ends w ∷ [])
    by_end y (passed q) j i = absurd (not_passed w q (first_spared y.spared) (sym i))
    by_end y (ended q s v) j i = (y ∷ [], after_ended g sp d k e y q s v j r, ap (λ (n : End). end_with y.spared n ∷ []) j ∙ ap (λ (n : Ended). n ∷ []) i)

-- what is kept tells what may be passed over from there on
after_kept : (ws : List SparedPart) (sp : Sparing) → after_first (first_spared ws) sp ≡ after_spared ws sp
after_kept [] sp = refl
after_kept (w ∷ ws) sp = refl

pub after_place : (g : Setting) (sp : Sparing) (k d : ℕ) (c : Context) (a : Term) (p : Places) (o : Option Spared) (ends new : List Ended) → new ≡ map (with_first o) ends → IsListed g (after_first o sp) k d c a p ends → IsAfter g sp k d (c, a) (Passed p o) new
after_place g sp k d c a p o ends new e h = subst (λ (us : List Ended). IsAfter g sp k d (c, a) (Passed p o) us) (sym e) (record {
  found = λ y i. by_end y y.end refl i h.found;
  passes = λ B gr. on_passed p o (Fixes g a B) ends (h.passes B gr);
})
  where
    by_end : (y : Trace) (n : End) → y.end ≡ n → end_with y.spared n ≡ Passed p o → (xs : List Trace) × FoundOf g (after_first o sp) k d c a p xs × (kept xs ≡ ends) → (zs : List Trace) × After g sp d k (c, a) y zs × (kept zs ≡ map (with_first o) ends)
    by_end y (passed q) j i f = (
      map (added (stood d (c, a)) y) f.0,
      after_passed g sp d k (c, a) y p f.0 (j ∙ ap passed (passed_same q p (first_spared y.spared) o i))
          (subst (λ (inner : Sparing). FoundOf g inner k d c a p f.0) (ap (λ (u : Option Spared). after_first u sp) (sym (spared_same q p (first_spared y.spared) o i)) ∙ after_kept y.spared sp) f.1),
      kept_behind (stood d (c, a)) y f.0 ∙ ap (λ (us : List Ended). map (with_first (first_spared y.spared)) us) f.2 ∙ ap (λ (u : Option Spared). map (with_first u) ends) (spared_same q p (first_spared y.spared) o i),
    )
    by_end y (ended q s v) j i f = absurd (not_passed v p o i)
