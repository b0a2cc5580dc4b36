-- What the updates of a line fill: there is one way to fill it, and the states that complete it are those to which the updates lead.
use Rattle.std.proofs.Common.{◌≡◌, ◌⊎◌, inl, inr, refl, sym, ◌∙◌, ap, subst, arith, ℕ, zero, suc, ◌<◌, Bool, true, false, List, [], ◌∷◌, length, eqb}
use Rattle.std.specs.Prelude.{All, Option, Some, None, slice_get}
use Rattle.std.specs.List.{AllByRecursion}
use Rattle.std.proofs.lemmas.Bool.{eqb-true, false≢true, or_cases}
use Rattle.std.proofs.lemmas.Option.{slice_get_cases, slice_get_within, same_Some}
use Rattle.values_core.specs.Data.{Val}
use Rattle.values_core.specs.IsValue.{IsValue}
use Rattle.states_core.specs.States.{Values}
use Rattle.eval_meanings.specs.Contexts.{Places}
use Rattle.eval_meanings.specs.Laws.{HoldValues}
use Rattle.logs_updates.specs.Changes.{ApplyAll}
use Rattle.logs_updates.specs.declared.update.Update.{Update}
use Rattle.steps_lines_defs.specs.Says.{IsState}
use Rattle.steps_lines_defs.specs.Asks.{Moves, updated, updates_of}
use Rattle.actions_meanings.specs.Filled.{Completes, Fills}
use Rattle.steps_found_states.proofs.Filling.{completes_get}
use Rattle.steps_found_states.proofs.Lists.{place_by_all}
use Rattle.steps_why_walk.proofs.Keeping.{get_there, there_get}
use Rattle.steps_why_not.specs.Results.{AreUpdated}
use Rattle.steps_why_not.specs.Taken.{LeadsThere}
use Rattle.steps_why_not.proofs.Completing.{no_value, possible}

pub is_or_not : (b : Bool) → (b ≡ true) ⊎ (b ≡ false)
is_or_not true = inl refl
is_or_not false = inr refl

pub true_false : (b : Bool) → b ≡ true → b ≡ false → ⊥
true_false b e f = cc

same_value : (v w : Val) → ◌≡◌ {A = Option (Option Val)} (Some (Some v)) (Some (Some w)) → v ≡ w
same_value v w e = cc

-- an updated variable is in range
updated_below : (n : ℕ) (us : List Update) → AllByRecursion (λ (u : Update). u.path.variable.0 < n) us → (x : ℕ) → updated us x ≡ true → x < n
updated_below n [] h x e = absurd (false≢true e)
updated_below n (u ∷ us) h x e = elim (or_cases (eqb u.path.variable.0 x) (updated us x) e) [
  | inl f ↦ subst (λ (y : ℕ). y < n) (eqb-true u.path.variable.0 x f) h.0
  | inr f ↦ updated_below n us h.1 x f
]

place_cases : (p : Places) (x : ℕ) → x < length p → (slice_get p x ≡ Some None) ⊎ ((v : Val) × (slice_get p x ≡ Some (Some v)))
place_cases p x l = elim (slice_get_cases p x).1 [
  | inl q ↦ by_place q.0 q.2
  | inr q ↦ absurd (omega (arith, l, q.0))
]
  where
    by_place : (o : Option Val) → slice_get p x ≡ Some o → (slice_get p x ≡ Some None) ⊎ ((v : Val) × (slice_get p x ≡ Some (Some v)))
    by_place None e = inl e
    by_place (Some v) e = inr (v, e)

same_list : {A : Type 0} (xs ys : List A) → length xs ≡ length ys → ((x : ℕ) → x < length xs → slice_get xs x ≡ slice_get ys x) → xs ≡ ys
same_list [] [] l h = refl
same_list [] (y ∷ ys) l h = absurd (omega (arith, l))
same_list (x ∷ xs) [] l h = absurd (omega (arith, l))
same_list (x ∷ xs) (y ∷ ys) l h =
    let head : x ≡ y = same_Some x y (h zero (omega arith)) in
    let rest : xs ≡ ys = same_list xs ys (omega (arith, l)) (λ k m. h (suc k) (omega (arith, m))) in
    λ i. head i ∷ rest i

module _ (us : List Update) (s : Values) where
  -- what is known of the places that are made of a state
  pub updated_is : (p : Places) → All (λ (u : Update). u.path.variable.0 < length s) us → length p ≡ length s → Fills (updated us) p → HoldValues p → LeadsThere us s p → AreUpdated us s p
  updated_is p within long fills values exact = record {
    long = long;
    there = λ x e.
        let l : x < length s = updated_below (length s) us (place_by_all (λ (u : Update). u.path.variable.0 < length s) us within) x e in
        let f = (fills x (omega (arith, l, long))).0 e in
        let k = moves x e in
        let same : k.1 ≡ f.0 = same_Some k.1 f.0 (sym k.3 ∙ completes_get p made.0 x f.0 made.1 f.1) in
        (f.0, (k.0, k.2, subst (λ (w : Val). ApplyAll (updates_of x us) k.0 w) same k.4), values f.0 (there_get p x (Some f.0) f.1), f.1);
    others = λ x l e. elim (place_cases p x (omega (arith, l, long))) [
      | inl q ↦ q
      | inr q ↦ absurd (true_false (updated us x) ((fills x (omega (arith, l, long))).1 q) e)
    ];
  }
    where
      made : (t : Values) × Completes p t
      made = possible p values

      moves : Moves us s made.0
      moves = ((exact made.0).0 made.1).1

  module _ (p : Places) (a : AreUpdated us s p) where
    pub updated_fills : Fills (updated us) p
    updated_fills x l = (
      λ e. let r = a.there x e in (r.0, r.3),
      λ q. elim (is_or_not (updated us x)) [
        | inl e ↦ e
        | inr e ↦ absurd (no_value q.0 (sym (a.others x (omega (arith, l, a.long)) e) ∙ q.1))
      ],
    )

    pub updated_values : HoldValues p
    updated_values v m =
        let r = get_there p (Some v) m in
        let l = slice_get_within p r.0 (Some v) r.1 in
        elim (is_or_not (updated us r.0)) [
          | inl e ↦ (let w = a.there r.0 e in subst IsValue (same_value w.0 v (sym w.3 ∙ r.1)) w.2)
          | inr e ↦ absurd (no_value v (sym (a.others r.0 (omega (arith, l, a.long)) e) ∙ r.1))
        ]

    -- the updates lead to each state that completes them
    pub updated_moves : (t : Values) → Completes p t → IsState (length s) t × Moves us s t
    updated_moves t k = (
      record { long = k.long ∙ a.long; values = k.values },
      λ x e. let r = a.there x e in (r.1.0, r.0, r.1.1, completes_get p t x r.0 k r.3, r.1.2),
    )

  -- and no other places are so
  pub one_updated : (p : Places) → AreUpdated us s p → LeadsThere us s p → (q : Places) → AreUpdated us s q → q ≡ p
  one_updated p a exact q b = same_list q p (b.long ∙ sym a.long) each
    where
      made : (t : Values) × Completes q t
      made = possible q (updated_values q b)

      k : Completes p made.0
      k = (exact made.0).1 (updated_moves q b made.0 made.1)

      each : (x : ℕ) → x < length q → slice_get q x ≡ slice_get p x
      each x l = elim (is_or_not (updated us x)) [
        | inl e ↦
            let m = a.there x e in
            let n = b.there x e in
            let same : n.0 ≡ m.0 = same_Some n.0 m.0 (sym (completes_get q made.0 x n.0 made.1 n.3) ∙ completes_get p made.0 x m.0 k m.3) in
            n.3 ∙ ap (λ (v : Val). Some (Some v)) same ∙ sym m.3
        | inr e ↦ (let m : x < length s = omega (arith, l, b.long) in b.others x m e ∙ sym (a.others x m e))
      ]
