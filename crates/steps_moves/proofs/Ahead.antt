-- The next state in the midst of a line's updates: what was done of them, and what is ahead.
use Rattle.std.proofs.Common.{◌≡◌, ◌≢◌, ◌↔◌, ◌⊎◌, inl, inr, ℕ, suc, ◌<◌, ◌≤◌, ◌+◌, List, [], ◌∷◌, length, map, get_or, drop, zero, Bool, true, cond, eqb, Option, Some, None, ap, sym, ◌∙◌, subst, refl, arith}
use Rattle.std.specs.Prelude.{All, slice_get}
use Rattle.std.proofs.Math.ListN.{set}
use Rattle.std.proofs.Math.Seq.{drop-cons}
use Rattle.std.proofs.lemmas.List.{length-set, get_or-set_same, get_or-set_other}
use Rattle.std.proofs.lemmas.Bool.{cases_eq, eq-eqb, eqb-true, false≢true, ne_eqb, or_left, or_right, or_cases}
use Rattle.std.proofs.lemmas.Option.{slice_get-get_or, slice_get_cases, slice_get_past, same_Some}
use Rattle.values_core.specs.Data.{Val}
use Rattle.values_core.specs.IsValue.{IsValue}
use Rattle.states_core.specs.States.{Values}
use Rattle.eval_meanings.specs.Contexts.{Places}
use Rattle.eval_meanings.specs.Laws.{HoldValues}
use Rattle.logs_updates.specs.Changes.{ApplyAll, Changes, Does}
use Rattle.logs_updates.specs.declared.update.Update.{Update}
use Rattle.logs_updates.proofs.UpdateLemmas.{one_change}
use Rattle.steps_lines_defs.specs.Says.{IsState}
use Rattle.steps_lines_defs.specs.Asks.{Moves, updated, updates_of}
use Rattle.actions_meanings.specs.Filled.{Completes}
use Rattle.steps_moves.specs.Current.{Becomes, place_or, value_now}
use Rattle.steps_moves.proofs.Shown.{placed, from_placed}

-- the place of the variable has a value
abbrev pub IsFilled : Places → ℕ → Type 0
IsFilled p x = (v : Val) × (slice_get p x ≡ Some (Some v))

-- it has one, or an update that is ahead gives it one
abbrev pub Touched : List Update → Places → ℕ → Type 0
Touched us p x = IsFilled p x ⊎ (updated us x ≡ true)

-- the next value of the variable is what the updates ahead make of its value by now
abbrev pub MovesOnAt : List Update → Values → Places → Values → ℕ → Type 0
MovesOnAt us s p t x = (v w : Val) × (value_now p s x ≡ Some v) × (slice_get t x ≡ Some w) × ApplyAll (updates_of x us) v w

abbrev pub MovesOn : List Update → Values → Places → Values → Type 0
MovesOn us s p t = (x : ℕ) → Touched us p x → MovesOnAt us s p t x

-- of all updates these are ahead, and the next state is so far as it is
pub record Ahead (us : List Update) (rest : List Update) (s : Values) (p : Places) : Type 0 where
  pub long : length p ≡ length s
  pub values : HoldValues p
  pub filled : (x : ℕ) → (updated us x ≡ true) ↔ Touched rest p x
  pub same : (t : Values) → Moves us s t ↔ MovesOn rest s p t

-- the update has this result on its variable's value by now
pub record Makes (u : Update) (s : Values) (p : Places) (v : Val) (w : Val) : Type 0 where
  pub place : u.path.variable.0 < length p
  pub old : value_now p s u.path.variable.0 ≡ Some v
  pub valid : IsValue v
  pub made : Changes (Does u.op) u.path.keys v w

-- places after a write
get_set_same : (p : Places) (y : ℕ) (a : Option Val) → y < length p → slice_get (set p y a) y ≡ Some a
get_set_same p y a l =
    let within : y < length (set p y a) = omega (arith, length-set p y a, l) in
    slice_get-get_or (set p y a) y a within ∙ ap (λ (o : Option Val). Some o) (get_or-set_same p y a a l)

get_set_other : (p : Places) (y x : ℕ) (a : Option Val) → x ≢ y → slice_get (set p y a) x ≡ slice_get p x
get_set_other p y x a n =
    let cases = (slice_get_cases p x).1 in
    elim cases [
      | inl q ↦
          let within : x < length (set p y a) = omega (arith, length-set p y a, q.1) in
          slice_get-get_or (set p y a) x a within ∙ ap (λ (o : Option Val). Some o) (get_or-set_other p y x a a n) ∙ sym (slice_get-get_or p x a q.1)
      | inr q ↦
          let past : length (set p y a) ≤ x = omega (arith, length-set p y a, q.0) in
          slice_get_past (set p y a) x past ∙ sym q.1
    ]

values_set : (p : Places) (y : ℕ) (w : Val) → y < length p → IsValue w → HoldValues p → HoldValues (set p y (Some w))
values_set p y w l h g v (k, m, e) = elim (cases_eq k y) [
  | inl f ↦
      let here : get_or (set p y (Some w)) y (Some v) ≡ Some v = subst (λ (j : ℕ). get_or (set p y (Some w)) j (Some v) ≡ Some v) f e in
      subst (λ (z : Val). IsValue z) (same_Some w v (same_Some (Some w) (Some v) (ap (λ (o : Option Val). Some o) (sym (get_or-set_same p y (Some w) (Some v) l) ∙ here)))) h
  | inr n ↦
      let within : k < length p = omega (arith, length-set p y (Some w), m) in
      g v (k, within, sym (get_or-set_other p y k (Some w) (Some v) n) ∙ e)
]

-- the value by now
value_at_place : (p : Places) (s : Values) (x : ℕ) (w : Val) → slice_get p x ≡ Some (Some w) → value_now p s x ≡ Some w
value_at_place p s x w e = ap (λ (o : Option (Option Val)). place_or o (slice_get s x)) e

-- the first update, and those behind it
own_first : (x : ℕ) (u : Update) (us : List Update) → u.path.variable.0 ≡ x → updates_of x (u ∷ us) ≡ u ∷ updates_of x us
own_first x u us e = ap (λ (b : Bool). cond b (u ∷ updates_of x us) (updates_of x us)) (eq-eqb u.path.variable.0 x e)

other_first : (x : ℕ) (u : Update) (us : List Update) → u.path.variable.0 ≢ x → updates_of x (u ∷ us) ≡ updates_of x us
other_first x u us n = ap (λ (b : Bool). cond b (u ∷ updates_of x us) (updates_of x us)) (ne_eqb u.path.variable.0 x n)

own_updated : (x : ℕ) (u : Update) (us : List Update) → u.path.variable.0 ≡ x → updated (u ∷ us) x ≡ true
own_updated x u us e = or_left (eqb u.path.variable.0 x) (updated us x) (eq-eqb u.path.variable.0 x e)

later_updated : (x : ℕ) (u : Update) (us : List Update) → updated us x ≡ true → updated (u ∷ us) x ≡ true
later_updated x u us e = or_right (eqb u.path.variable.0 x) (updated us x) e

other_updated : (x : ℕ) (u : Update) (us : List Update) → u.path.variable.0 ≢ x → updated (u ∷ us) x ≡ true → updated us x ≡ true
other_updated x u us n e = elim (or_cases (eqb u.path.variable.0 x) (updated us x) e) [
  | inl f ↦ absurd (n (eqb-true u.path.variable.0 x f))
  | inr f ↦ f
]

-- one update, at its variable
own_step : (u : Update) (us : List Update) (s : Values) (p : Places) (t : Values) (v w : Val) → Makes u s p v w
    → MovesOnAt (u ∷ us) s p t u.path.variable.0 ↔ MovesOnAt us s (set p u.path.variable.0 (Some w)) t u.path.variable.0
own_step u us s p t v w d =
    let y : ℕ = u.path.variable.0 in
    let first : updates_of y (u ∷ us) ≡ u ∷ updates_of y us = own_first y u us refl in
    let new : value_now (set p y (Some w)) s y ≡ Some w = value_at_place (set p y (Some w)) s y w (get_set_same p y (Some w) d.place) in (
      λ m.
          let a : ApplyAll (u ∷ updates_of y us) m.0 m.1 = subst (λ (l : List Update). ApplyAll l m.0 m.1) first m.4 in
          let old : m.0 ≡ v = same_Some m.0 v (sym m.2 ∙ d.old) in
          let made : a.0 ≡ w = one_change u.op u.path.keys v a.0 w d.valid (subst (λ (z : Val). Changes (Does u.op) u.path.keys z a.0) old a.1) d.made in
          (w, m.1, new, m.3, subst (λ (z : Val). ApplyAll (updates_of y us) z m.1) made a.2),
      λ m.
          let old : m.0 ≡ w = same_Some m.0 w (sym m.2 ∙ new) in
          let behind : ApplyAll (updates_of y us) w m.1 = subst (λ (z : Val). ApplyAll (updates_of y us) z m.1) old m.4 in
          (v, m.1, d.old, m.3, subst (λ (l : List Update). ApplyAll l v m.1) (sym first) (w, d.made, behind)),
    )

-- and at another
other_step : (u : Update) (us : List Update) (s : Values) (p : Places) (t : Values) (w : Val) (x : ℕ) → x ≢ u.path.variable.0
    → MovesOnAt (u ∷ us) s p t x ↔ MovesOnAt us s (set p u.path.variable.0 (Some w)) t x
other_step u us s p t w x n =
    let y : ℕ = u.path.variable.0 in
    let behind : updates_of x (u ∷ us) ≡ updates_of x us = other_first x u us (λ e. n (sym e)) in
    let kept : value_now (set p y (Some w)) s x ≡ value_now p s x = ap (λ (o : Option (Option Val)). place_or o (slice_get s x)) (get_set_other p y x (Some w) n) in (
      λ m. (m.0, m.1, kept ∙ m.2, m.3, subst (λ (l : List Update). ApplyAll l m.0 m.1) behind m.4),
      λ m. (m.0, m.1, sym kept ∙ m.2, m.3, subst (λ (l : List Update). ApplyAll l m.0 m.1) (sym behind) m.4),
    )

at_step : (u : Update) (us : List Update) (s : Values) (p : Places) (t : Values) (v w : Val) → Makes u s p v w → (x : ℕ)
    → MovesOnAt (u ∷ us) s p t x ↔ MovesOnAt us s (set p u.path.variable.0 (Some w)) t x
at_step u us s p t v w d x = elim (cases_eq x u.path.variable.0) [
  | inl e ↦
      subst (λ (z : ℕ). MovesOnAt (u ∷ us) s p t z ↔ MovesOnAt us s (set p u.path.variable.0 (Some w)) t z) (sym e) (own_step u us s p t v w d)
  | inr n ↦ other_step u us s p t w x n
]

-- the same variables are touched
touched_step : (u : Update) (us : List Update) (p : Places) (w : Val) → u.path.variable.0 < length p → (x : ℕ)
    → Touched (u ∷ us) p x ↔ Touched us (set p u.path.variable.0 (Some w)) x
touched_step u us p w l x = elim (cases_eq x u.path.variable.0) [
  | inl e ↦ (
    λ h. inl (w, subst (λ (z : ℕ). slice_get (set p u.path.variable.0 (Some w)) z ≡ Some (Some w)) (sym e) (get_set_same p u.path.variable.0 (Some w) l)),
    λ h. inr (own_updated x u us (sym e)),
  )
  | inr n ↦
      let kept : slice_get (set p u.path.variable.0 (Some w)) x ≡ slice_get p x = get_set_other p u.path.variable.0 x (Some w) n in (
        λ h. elim h [ inl f ↦ inl (f.0, kept ∙ f.1) | inr g ↦ inr (other_updated x u us (λ e. n (sym e)) g) ],
        λ h. elim h [ inl f ↦ inl (f.0, sym kept ∙ f.1) | inr g ↦ inr (later_updated x u us g) ],
      )
]

step : (us rest : List Update) (u : Update) (s : Values) (p : Places) (v w : Val) → Ahead us (u ∷ rest) s p → Makes u s p v w → IsValue w
    → Ahead us rest s (set p u.path.variable.0 (Some w))
step us rest u s p v w a d h = record {
  long = length-set p u.path.variable.0 (Some w) ∙ a.long;
  values = values_set p u.path.variable.0 w d.place h a.values;
  filled = λ x. (
    λ e. (touched_step u rest p w d.place x).0 ((a.filled x).0 e),
    λ k. (a.filled x).1 ((touched_step u rest p w d.place x).1 k),
  );
  same = λ t. (
    λ m x k. (at_step u rest s p t v w d x).0 ((a.same t).0 m x ((touched_step u rest p w d.place x).1 k)),
    λ m. (a.same t).1 (λ x k. (at_step u rest s p t v w d x).1 (m x ((touched_step u rest p w d.place x).0 k))),
  );
}

-- where the next update has no result there is no next state
stops : (us rest : List Update) (u : Update) (s : Values) (p : Places) → Ahead us (u ∷ rest) s p → Becomes u (value_now p s u.path.variable.0) None → (t : Values) → ¬ Moves us s t
stops us rest u s p a b t m =
    let y : ℕ = u.path.variable.0 in
    let k = (a.same t).0 m y (inr (own_updated y u rest refl)) in
    let all : ApplyAll (u ∷ updates_of y rest) k.0 k.1 = subst (λ (l : List Update). ApplyAll l k.0 k.1) (own_first y u rest refl) k.4 in
    let old : k.0 ≡ b.0 = same_Some k.0 b.0 (sym k.2 ∙ b.1) in
    b.3 all.0 (subst (λ (z : Val). Changes (Does u.op) u.path.keys z all.0) old all.1)

makes : (u : Update) (s : Values) (p : Places) (w : Val) → u.path.variable.0 < length p → (b : Becomes u (value_now p s u.path.variable.0) (Some w)) → Makes u s p b.0 w
makes u s p w l b = record { place = l; old = b.1; valid = b.2; made = b.3 }

-- what stands at the end
completed_moves : (us : List Update) (s : Values) (p : Places) (t : Values) → Ahead us [] s p → Completes p t → Moves us s t
completed_moves us s p t a c = (a.same t).1 (λ x k. elim k [
  | inl f ↦ (f.0, f.0, value_at_place p s x f.0 f.1, from_placed t x f.0 (c.has x f.0 f.1), refl)
  | inr g ↦ absurd (false≢true g)
])

moves_within : (us : List Update) (s : Values) (p : Places) (t : Values) (x : ℕ) (v : Val) → Ahead us [] s p → Moves us s t → slice_get p x ≡ Some (Some v) → slice_get (map Some t) x ≡ Some (Some v)
moves_within us s p t x v a m e =
    let k = (a.same t).0 m x (inl (v, e)) in
    let old : k.0 ≡ v = same_Some k.0 v (sym k.2 ∙ value_at_place p s x v e) in
    placed t x v (k.3 ∙ ap (λ (w : Val). Some w) (k.4 ∙ old))

pub ends_exact : (us : List Update) (s : Values) (p : Places) → Ahead us [] s p → (t : Values) → Completes p t ↔ (IsState (length s) t × Moves us s t)
ends_exact us s p a t = (
  λ c. (record { long = c.long ∙ a.long; values = c.values }, completed_moves us s p t a c),
  λ h. record { long = h.0.long ∙ sym a.long; has = λ x v e. moves_within us s p t x v a h.1 e; values = h.0.values },
)

-- the list in the midst of a walk
cut_at : (xs : List Update) (i : ℕ) (x : Update) → i < length xs → x ≡ get_or xs i x → drop i xs ≡ x ∷ drop (i + 1) xs
cut_at xs i x l e =
    let n : suc i ≡ i + 1 = omega arith in
    subst (λ (k : ℕ). drop i xs ≡ x ∷ drop k xs) n (drop-cons xs i x l ∙ ap (λ (y : Update). y ∷ drop (suc i) xs) (sym e))

cut_end : (xs : List Update) (i : ℕ) → length xs ≤ i → drop i xs ≡ []
cut_end [] zero l = refl
cut_end [] (suc i) l = refl
cut_end (x ∷ xs) zero l = absurd (omega arith)
cut_end (x ∷ xs) (suc i) l = cut_end xs i (omega arith)

-- the walk with one update more
pub advances : (us all : List Update) (i : ℕ) (u : Update) (s : Values) (p q : Places) (x : ℕ) (r : Option Val) (w : Val) → all ≡ us
    → All (λ (z : Update). z.path.variable.0 < length s) us → i < length all → u ≡ get_or all i u → Ahead all (drop i all) s p
    → Becomes u (value_now p s u.path.variable.0) r → r ≡ Some w → IsValue w → x ≡ u.path.variable.0 → q ≡ set p x (Some w) → Ahead all (drop (i + 1) all) s q
advances us all i u s p q x r w e h l k a b g valid f n =
    let y : ℕ = u.path.variable.0 in
    let each : All (λ (z : Update). z.path.variable.0 < length s) all = subst (λ (l : List Update). All (λ (z : Update). z.path.variable.0 < length s) l) (sym e) h in
    let within : y < length s = subst (λ (z : Update). z.path.variable.0 < length s) (sym k) (each i u l) in
    let place : y < length p = omega (arith, within, a.long) in
    let ahead : Ahead all (u ∷ drop (i + 1) all) s p = subst (λ (l : List Update). Ahead all l s p) (cut_at all i u l k) a in
    let made : Becomes u (value_now p s y) (Some w) = subst (λ (o : Option Val). Becomes u (value_now p s y) o) g b in
    let new : set p y (Some w) ≡ q = sym (n ∙ ap (λ (z : ℕ). set p z (Some w)) f) in
    subst (λ (z : Places). Ahead all (drop (i + 1) all) s z) new (step all (drop (i + 1) all) u s p made.0 w ahead (makes u s p w place made) valid)

-- or where its next update has no result
pub stops_at : (us all : List Update) (i : ℕ) (u : Update) (s : Values) (p : Places) (r : Option Val) → all ≡ us → i < length all → u ≡ get_or all i u
    → Ahead all (drop i all) s p → Becomes u (value_now p s u.path.variable.0) r → r ≡ None → (t : Values) → ¬ Moves us s t
stops_at us all i u s p r e l k a b g t m =
    let ahead : Ahead all (u ∷ drop (i + 1) all) s p = subst (λ (l : List Update). Ahead all l s p) (cut_at all i u l k) a in
    let none : Becomes u (value_now p s u.path.variable.0) None = subst (λ (o : Option Val). Becomes u (value_now p s u.path.variable.0) o) g b in
    stops all (drop (i + 1) all) u s p ahead none t (subst (λ (l : List Update). Moves l s t) (sym e) m)

-- or with none left
pub finished : (us all : List Update) (i : ℕ) (s : Values) (p : Places) → all ≡ us → length all ≤ i → Ahead all (drop i all) s p → Ahead us [] s p
finished us all i s p e l a =
    subst (λ (l : List Update). Ahead l [] s p) e (subst (λ (l : List Update). Ahead all l s p) (cut_end all i l) a)
