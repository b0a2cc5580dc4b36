-- The walk through updates, in the midst of it, and where one has no result.
use Rattle.std.proofs.Common.{◌≡◌, ◌≢◌, inl, inr, refl, sym, ◌∙◌, ap, subst, arith, rules, ℕ, zero, suc, ◌<◌, ◌≤◌, ◌+◌, Bool, true, false, cond, eqb, List, [], ◌∷◌, ◌++◌, length, drop, take}
use Rattle.std.specs.Prelude.{◌||◌, Option, Some, None, replicate, slice_get}
use Rattle.std.proofs.Math.ListN.{set}
use Rattle.std.proofs.lemmas.Bool.{cases_eq, eq-eqb, eqb-true, false≢true, ne_eqb, or_cases, or_left, or_right}
use Rattle.std.proofs.lemmas.List.{length-set, get_or-set_same, get_or-set_other}
use Rattle.std.proofs.lemmas.List.Elements.{filter-append}
use Rattle.std.proofs.lemmas.Option.{slice_get-get_or, slice_get_cases, slice_get_past, same_Some}
use Rattle.values_core.specs.Data.{Val}
use Rattle.states_core.specs.States.{Values}
use Rattle.eval_meanings.specs.Contexts.{Places}
use Rattle.logs_updates.specs.Changes.{ApplyAll, Changes, Does}
use Rattle.logs_updates.specs.declared.update.Update.{Update}
use Rattle.logs_updates.proofs.UpdateLemmas.{one_change}
use Rattle.steps_lines_defs.specs.Asks.{is_of, updated, updates_of}
use Rattle.steps_moves.specs.Current as current
use Rattle.steps_moves.specs.Current.{place_or, value_now}
use Rattle.steps_moves.proofs.Ahead.{Makes}
use Rattle.steps_walk.proofs.Loops.{Apart}
use Rattle.steps_why_not.specs.Results.{Becomes, IsStuck}
use Rattle.steps_why_not.proofs.Updated.{is_or_not}

-- Of the updates that are done: each variable that they change has got a value, and what they make of a variable's value is what it has by now.
pub record SoFar (done : List Update) (s : Values) (p : Places) : Type 0 where
  pub made : (y : ℕ) → updated done y ≡ true → (w : Val) × Becomes done s y w
  pub now : (y : ℕ) (v m : Val) → slice_get s y ≡ Some v → ApplyAll (updates_of y done) v m → value_now p s y ≡ Some m

-- with none done

empty_now : (n y : ℕ) (o : Option Val) → place_or (slice_get (replicate n None) y) o ≡ o
empty_now zero y o = refl
empty_now (suc n) zero o = refl
empty_now (suc n) (suc y) o = empty_now n y o

pub far_begins : (n : ℕ) (s : Values) (p : Places) → p ≡ replicate n None → SoFar [] s p
far_begins n s p i = subst (λ (q : Places). SoFar [] s q) (sym i) (record {
  made = λ y e. absurd (false≢true e);
  now = λ y v m e a. empty_now n y (slice_get s y) ∙ e ∙ ap (λ (w : Val). Some w) (sym a);
})

-- updates of a variable, with one more

own_more : (y : ℕ) (u : Update) (done : List Update) → u.path.variable.0 ≡ y → updates_of y (done ++ u ∷ []) ≡ updates_of y done ++ u ∷ []
own_more y u done e = filter-append (is_of y) done (u ∷ []) ∙ ap (λ (b : Bool). updates_of y done ++ cond b (u ∷ []) []) (eq-eqb u.path.variable.0 y e)

to_end : (xs : List Update) → xs ++ [] ≡ xs
to_end xs = search rules

other_more : (y : ℕ) (u : Update) (done : List Update) → u.path.variable.0 ≢ y → updates_of y (done ++ u ∷ []) ≡ updates_of y done
other_more y u done n = filter-append (is_of y) done (u ∷ []) ∙ ap (λ (b : Bool). updates_of y done ++ cond b (u ∷ []) []) (ne_eqb u.path.variable.0 y n) ∙ to_end (updates_of y done)

updated_less : (y : ℕ) (u : Update) (done : List Update) → u.path.variable.0 ≢ y → updated (done ++ u ∷ []) y ≡ true → updated done y ≡ true
updated_less y u [] n e = elim (or_cases (eqb u.path.variable.0 y) false e) [
  | inl f ↦ absurd (n (eqb-true u.path.variable.0 y f))
  | inr f ↦ f
]
updated_less y u (x ∷ done) n e = elim (or_cases (eqb x.path.variable.0 y) (updated (done ++ u ∷ []) y) e) [
  | inl f ↦ or_left (eqb x.path.variable.0 y) (updated done y) f
  | inr f ↦ or_right (eqb x.path.variable.0 y) (updated done y) (updated_less y u done n f)
]

both_false : (a b : Bool) → (a || b) ≡ false → (a ≡ false) × (b ≡ false)
both_false true b e = absurd (false≢true (sym e))
both_false false b e = (refl, e)

none_of : (y : ℕ) (done : List Update) → updated done y ≡ false → updates_of y done ≡ []
none_of y [] e = refl
none_of y (x ∷ done) e =
    let f = both_false (eqb x.path.variable.0 y) (updated done y) e in
    ap (λ (b : Bool). cond b (x ∷ updates_of y done) (updates_of y done)) f.0 ∙ none_of y done f.1

apply_split : (us : List Update) (u : Update) (v r : Val) → ApplyAll (us ++ u ∷ []) v r → (m : Val) × ApplyAll us v m × Changes (Does u.op) u.path.keys m r
apply_split [] u v r a = (v, refl, subst (λ (w : Val). Changes (Does u.op) u.path.keys v w) (sym a.2) a.1)
apply_split (x ∷ us) u v r a = let b = apply_split us u a.0 r a.2 in (b.0, (a.0, a.1, b.1), b.2)

apply_more : (us : List Update) (u : Update) (v m r : Val) → ApplyAll us v m → Changes (Does u.op) u.path.keys m r → ApplyAll (us ++ u ∷ []) v r
apply_more [] u v m r a c = (r, subst (λ (z : Val). Changes (Does u.op) u.path.keys z r) a c, refl)
apply_more (x ∷ us) u v m r a c = (a.0, a.1, apply_more us u a.0 m r a.2 c)

-- places after a write

get_set_same : (p : Places) (y : ℕ) (a : Option Val) → y < length p → slice_get (set p y a) y ≡ Some a
get_set_same p y a l =
    let within : y < length (set p y a) = omega (arith, length-set p y a, l) in
    slice_get-get_or (set p y a) y a within ∙ ap (λ (o : Option Val). Some o) (get_or-set_same p y a a l)

get_set_other : (p : Places) (y x : ℕ) (a : Option Val) → x ≢ y → slice_get (set p y a) x ≡ slice_get p x
get_set_other p y x a n = elim (slice_get_cases p x).1 [
  | inl q ↦
      let within : x < length (set p y a) = omega (arith, length-set p y a, q.1) in
      slice_get-get_or (set p y a) x a within ∙ ap (λ (o : Option Val). Some o) (get_or-set_other p y x a a n) ∙ sym (slice_get-get_or p x a q.1)
  | inr q ↦
      let past : length (set p y a) ≤ x = omega (arith, length-set p y a, q.0) in
      slice_get_past (set p y a) x past ∙ sym q.1
]

-- one update more

module _ (done : List Update) (u : Update) (s : Values) (p : Places) (f : SoFar done s p) where
  abbrev y : ℕ
  y = u.path.variable.0

  -- what the variable has by now is what the updates made of a value
  now_made : (v : Val) → y < length s → value_now p s y ≡ Some v → (b : Val) × (slice_get s y ≡ Some b) × ApplyAll (updates_of y done) b v
  now_made v l e = elim (is_or_not (updated done y)) [
    | inl h ↦
        let r = f.made y h in
        let same : r.0 ≡ v = same_Some r.0 v (sym (f.now y r.1.0 r.0 r.1.1 r.1.2) ∙ e) in
        (r.1.0, r.1.1, subst (λ (w : Val). ApplyAll (updates_of y done) r.1.0 w) same r.1.2)
    | inr h ↦ elim (slice_get_cases s y).1 [
      | inl q ↦
          let none : [] ≡ updates_of y done = sym (none_of y done h) in
          let own : ApplyAll (updates_of y done) q.0 q.0 = subst (λ (us : List Update). ApplyAll us q.0 q.0) none refl in
          let same : q.0 ≡ v = same_Some q.0 v (sym (f.now y q.0 q.0 q.2 own) ∙ e) in
          (q.0, q.2, subst (λ (w : Val). ApplyAll (updates_of y done) q.0 w) same own)
      | inr q ↦ absurd (omega (arith, l, q.0))
    ]
  ]

  far_more : (v w : Val) → y < length s → Makes u s p v w → SoFar (done ++ u ∷ []) s (set p y (Some w))
  far_more v w l d = record {
    made = λ z e. elim (cases_eq z y) [
      | inl i ↦ subst (λ (x : ℕ). (r : Val) × Becomes (done ++ u ∷ []) s x r) (sym i) own
      | inr n ↦ (let r = f.made z (updated_less z u done (λ i. n (sym i)) e) in (r.0, (r.1.0, r.1.1, subst (λ (us : List Update). ApplyAll us r.1.0 r.0) (sym (other_more z u done (λ i. n (sym i)))) r.1.2)))
    ];
    now = λ z b m e a. elim (cases_eq z y) [
      | inl i ↦ subst (λ (x : ℕ). value_now (set p y (Some w)) s x ≡ Some m) (sym i)
          (own_now b m (subst (λ (x : ℕ). slice_get s x ≡ Some b) i e) (subst (λ (x : ℕ). ApplyAll (updates_of x (done ++ u ∷ [])) b m) i a))
      | inr n ↦
          let kept : value_now (set p y (Some w)) s z ≡ value_now p s z = ap (λ (o : Option (Option Val)). place_or o (slice_get s z)) (get_set_other p y z (Some w) n) in
          kept ∙ f.now z b m e (subst (λ (us : List Update). ApplyAll us b m) (other_more z u done (λ i. n (sym i))) a)
    ];
  }
    where
      own : (r : Val) × Becomes (done ++ u ∷ []) s y r
      own = let r = now_made v l d.old in (w, (r.0, r.1, subst (λ (us : List Update). ApplyAll us r.0 w) (sym (own_more y u done refl)) (apply_more (updates_of y done) u r.0 v w r.2 d.made)))

      own_now : (b m : Val) → slice_get s y ≡ Some b → ApplyAll (updates_of y (done ++ u ∷ [])) b m → value_now (set p y (Some w)) s y ≡ Some m
      own_now b m e a =
          let r = apply_split (updates_of y done) u b m (subst (λ (us : List Update). ApplyAll us b m) (own_more y u done refl) a) in
          let old : r.0 ≡ v = same_Some r.0 v (sym (f.now y b r.0 e r.1) ∙ d.old) in
          let same : w ≡ m = one_change u.op u.path.keys v w m d.valid d.made (subst (λ (z : Val). Changes (Does u.op) u.path.keys z m) old r.2) in
          ap (λ (o : Option (Option Val)). place_or o (slice_get s y)) (get_set_same p y (Some w) d.place) ∙ ap (λ (z : Val). Some z) same

  -- where it has no result
  far_stuck : (behind : List Update) → current.Becomes u (value_now p s y) None → IsStuck (done ++ u ∷ behind) s y
  far_stuck behind b = record {
    before = done;
    update = u;
    behind = behind;
    all = refl;
    is = refl;
    earlier = f.made;
    stuck = λ w k.
        let r = apply_split (updates_of y done) u k.0 w (subst (λ (us : List Update). ApplyAll us k.0 w) (own_more y u done refl) k.2) in
        let old : r.0 ≡ b.0 = same_Some r.0 b.0 (sym (f.now y k.0 r.0 k.1 r.1) ∙ b.1) in
        b.3 w (subst (λ (z : Val). Changes (Does u.op) u.path.keys z w) old r.2);
  }

-- at an index of the list

pub far_step : (all : List Update) (i : ℕ) (u : Update) (s : Values) (p q : Places) (x : ℕ) (r : Option Val) (w : Val) → Apart all i u → u.path.variable.0 < length s → length p ≡ length s
    → SoFar (take i all) s p → current.Becomes u (value_now p s u.path.variable.0) r → r ≡ Some w → x ≡ u.path.variable.0 → q ≡ set p x (Some w) → SoFar (take (i + 1) all) s q
far_step all i u s p q x r w c l long f b g e n =
    let made : current.Becomes u (value_now p s u.path.variable.0) (Some w) = subst (λ (o : Option Val). current.Becomes u (value_now p s u.path.variable.0) o) g b in
    let place : u.path.variable.0 < length p = omega (arith, l, long) in
    let d : Makes u s p made.0 w = record { place = place; old = made.1; valid = made.2; made = made.3 } in
    let new : set p u.path.variable.0 (Some w) ≡ q = sym (n ∙ ap (λ (z : ℕ). set p z (Some w)) e) in
    subst (λ (us : List Update). SoFar us s q) (sym c.more) (subst (λ (z : Places). SoFar (take i all ++ u ∷ []) s z) new (far_more (take i all) u s p f made.0 w l d))

pub far_stops : (us all : List Update) (i : ℕ) (u : Update) (s : Values) (p : Places) (x : ℕ) (r : Option Val) → all ≡ us → Apart all i u → SoFar (take i all) s p
    → current.Becomes u (value_now p s u.path.variable.0) r → r ≡ None → x ≡ u.path.variable.0 → IsStuck us s x
far_stops us all i u s p x r k c f b g e =
    let none : current.Becomes u (value_now p s u.path.variable.0) None = subst (λ (o : Option Val). current.Becomes u (value_now p s u.path.variable.0) o) g b in
    subst (λ (l : List Update). IsStuck l s x) (c.whole ∙ k) (subst (λ (z : ℕ). IsStuck (take i all ++ u ∷ drop (i + 1) all) s z) (sym e) (far_stuck (take i all) u s p f (drop (i + 1) all) none))
