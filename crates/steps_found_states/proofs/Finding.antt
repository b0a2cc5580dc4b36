-- How what is found is put together: of any fact and any faults of whole states.
use Rattle.std.proofs.Common.{◌≡◌, ◌⊎◌, inl, inr, refl, sym, ◌∙◌, subst, List, [], ◌∷◌, ◌++◌, length}
use Rattle.std.specs.Prelude.{Contains, Result, Ok, Err}
use Rattle.values_core.specs.Ascending.{head_in, none_in}
use Rattle.states_core.specs.States.{Values}
use Rattle.states_core.specs.declared.fault.Fault.{Fault}
use Rattle.eval_meanings.specs.declared.fault.EvalFault.{EvalFault}
use Rattle.eval_meanings.specs.declared.fault.EvalFault.TheVariants.{Refused, NoMemory}
use Rattle.eval_meanings.specs.Contexts.{Places}
use Rattle.eval_meanings.specs.Laws.{IsWithin}
use Rattle.eval_meanings.specs.Outcomes.{fault}
use Rattle.actions_meanings.specs.Reads.{VariableSet}
use Rattle.logs_updates.specs.declared.update.See.{See}
use Rattle.steps_lines_defs.specs.Asks.{AreSeen}
use Rattle.actions_meanings.specs.Filled.{Completes, Fills}
use Rattle.steps_found_states.specs.Walks.{Agrees, Finds, Found, Meets, StaysPossible}
use Rattle.steps_found_states.specs.Parts.{FindsEach, FoundEach}
use Rattle.steps_found_states.proofs.Lists.{one_in, in_left, in_right, in_cases}

abbrev pub Fact : Type 1
Fact = Values → Type 0

abbrev pub Faults : Type 1
Faults = Values → Fault → Type 0

abbrev pub Sets : Type 1
Sets = VariableSet → Type 0

pub within_itself : (p : Places) → IsWithin p p
within_itself p x v h = h

pub within_trans : (p q r : Places) → IsWithin p q → IsWithin q r → IsWithin p r
within_trans p q r f g x v h = g x v (f x v h)

pub possible_itself : (p : Places) → StaysPossible p p
possible_itself p u k = (u, k)

pub possible_trans : (p q r : Places) → StaysPossible p q → StaysPossible q r → StaysPossible p r
possible_trans p q r f g u k = let t = f u k in g t.0 t.1

-- what completes further places completes those before
pub completes_less : (p q : Places) (t : Values) → length q ≡ length p → IsWithin p q → Completes q t → Completes p t
completes_less p q t e w k = record { long = k.long ∙ e; has = λ x v h. k.has x v (w x v h); values = k.values }

-- the places themselves, where the fact holds of all that completes them
pub finds_here : (sees : List See) (p : Places) (fixes : Sets) (H : Fact) (F : Faults) → Agrees sees p → ((C : VariableSet) → fixes C → Fills C p)
    → ((t : Values) → Completes p t → H t) → ((t : Values) (f : Fault) → Completes p t → AreSeen sees t → F t f → ⊥) → Finds sees p fixes H F (p ∷ [])
finds_here sees p fixes H F a b h n = record {
  further = λ q m. subst (λ (x : Places). (length x ≡ length p) × IsWithin p x × StaysPossible p x) (one_in p q m) (refl, within_itself p, possible_itself p);
  agree = λ q m. subst (λ (x : Places). Agrees sees x) (one_in p q m) a;
  filled = λ q C m e. subst (λ (x : Places). Fills C x) (one_in p q m) (b C e);
  sound = λ q t m k. h t (subst (λ (x : Places). Completes x t) (sym (one_in p q m)) k);
  full = λ t k s g. (p, head_in p [], k);
  clean = n;
}

-- nothing, where the fact holds of none
pub finds_none : (sees : List See) (p : Places) (fixes : Sets) (H : Fact) (F : Faults) → ((t : Values) → Completes p t → AreSeen sees t → H t → ⊥)
    → ((t : Values) (f : Fault) → Completes p t → AreSeen sees t → F t f → ⊥) → Finds sees p fixes H F []
finds_none sees p fixes H F h n = record {
  further = λ q m. absurd (none_in q m);
  agree = λ q m. absurd (none_in q m);
  filled = λ q C m e. absurd (none_in q m);
  sound = λ q t m k. absurd (none_in q m);
  full = λ t k s g. absurd (h t k s g);
  clean = n;
}

-- one of two facts, with the faults of both
pub finds_also : (sees : List See) (p : Places) (fixes : Sets) (H K L : Fact) (F G M : Faults) (qs rs : List Places)
    → ((t : Values) → H t → L t) → ((t : Values) → K t → L t) → ((t : Values) → L t → H t ⊎ K t) → ((t : Values) (f : Fault) → M t f → F t f ⊎ G t f)
    → Finds sees p fixes H F qs → Finds sees p fixes K G rs → Finds sees p fixes L M (qs ++ rs)
finds_also sees p fixes H K L F G M qs rs i j l m a b = record {
  further = λ q h. elim (in_cases qs rs q h) [ inl g ↦ a.further q g | inr g ↦ b.further q g ];
  agree = λ q h. elim (in_cases qs rs q h) [ inl g ↦ a.agree q g | inr g ↦ b.agree q g ];
  filled = λ q C h e. elim (in_cases qs rs q h) [ inl g ↦ a.filled q C g e | inr g ↦ b.filled q C g e ];
  sound = λ q t h k. elim (in_cases qs rs q h) [ inl g ↦ i t (a.sound q t g k) | inr g ↦ j t (b.sound q t g k) ];
  full = λ t k s h. elim (l t h) [
    | inl g ↦ let r = a.full t k s g in (r.0, in_left qs rs r.0 r.1, r.2)
    | inr g ↦ let r = b.full t k s g in (r.0, in_right qs rs r.0 r.1, r.2)
  ];
  clean = λ t f k s h. elim (m t f h) [ inl g ↦ a.clean t f k s g | inr g ↦ b.clean t f k s g ];
}

pub meets_same : (sees : List See) (p : Places) (F G : Faults) (f : Fault) → ((t : Values) → Completes p t → F t f → G t f) → Meets sees p F f → Meets sees p G f
meets_same sees p F G f m h = (h.0, h.1, h.2, h.3, λ t k. m t (completes_less p h.0 t h.1 h.2 k) (h.4 t k), h.5)

-- a fault that all that completes the places has
pub meets_here : (sees : List See) (p : Places) (F : Faults) (f : Fault) → Agrees sees p → ((t : Values) → Completes p t → F t f) → Meets sees p F f
meets_here sees p F f a h = (p, refl, within_itself p, a, h, possible_itself p)

-- what fills the one set, or another of which that can be said, fills the other
abbrev pub Fixed : Places → Sets → Sets → Type 0
Fixed p fixes others = (C : VariableSet) → others C → (D : VariableSet) × fixes D × ((q : Places) → length q ≡ length p → Fills D q → Fills C q)

pub fixed_itself : (p : Places) (fixes : Sets) → Fixed p fixes fixes
fixed_itself p fixes C h = (C, h, λ q e f. f)

-- the same in other words
pub found_same : (sees : List See) (p : Places) (fixes others : Sets) (H K : Fact) (F G : Faults) → Fixed p fixes others
    → ((t : Values) → Completes p t → H t → K t) → ((t : Values) → Completes p t → K t → H t)
    → ((t : Values) (f : Fault) → Completes p t → F t f → G t f) → ((t : Values) (f : Fault) → Completes p t → G t f → F t f)
    → (r : Result (List Places) EvalFault) → Found sees p fixes H F r → Found sees p others K G r
found_same sees p fixes others H K F G x i j m n (Ok qs) a = record {
  further = a.further;
  agree = a.agree;
  filled = λ q C h e. let d = x C e in d.2 q (a.further q h).0 (a.filled q d.0 h d.1);
  sound = λ q t h k. i t (completes_less p q t (a.further q h).0 (a.further q h).1 k) (a.sound q t h k);
  full = λ t k s h. a.full t k s (j t k h);
  clean = λ t f k s h. a.clean t f k s (n t f k h);
}
found_same sees p fixes others H K F G x i j m n (Err (Refused kind at)) a = meets_same sees p F G (fault kind at) (λ t k h. m t (fault kind at) k h) a
found_same sees p fixes others H K F G x i j m n (Err NoMemory) a = tt

-- from each of several places

pub each_none : (sees : List See) (fixes : Sets) (H : Fact) (F : Faults) → FindsEach sees [] fixes H F []
each_none sees fixes H F = record {
  further = λ q m. absurd (none_in q m);
  agree = λ q m. absurd (none_in q m);
  filled = λ q C m e. absurd (none_in q m);
  sound = λ q t m k. absurd (none_in q m);
  full = λ p t m k s h. absurd (none_in p m);
  clean = λ p t f m k s h. absurd (none_in p m);
}

at_one : (q p : Places) (P : Places → Type 0) → Contains (q ∷ []) p → P p → P q
at_one q p P m h = subst P (sym (one_in q p m)) h

pub each_more : (sees : List See) (ps : List Places) (q : Places) (fixes : Sets) (H : Fact) (F : Faults) (rs ss : List Places)
    → FindsEach sees ps fixes H F rs → Finds sees q fixes H F ss → FindsEach sees (ps ++ q ∷ []) fixes H F (rs ++ ss)
each_more sees ps q fixes H F rs ss a b = record {
  further = λ x h. elim (in_cases rs ss x h) [
    | inl g ↦ let r = a.further x g in (r.0, in_left ps (q ∷ []) r.0 r.1, r.2, r.3, r.4)
    | inr g ↦ (q, in_right ps (q ∷ []) q (head_in q []), (b.further x g).0, (b.further x g).1, (b.further x g).2)
  ];
  agree = λ x h. elim (in_cases rs ss x h) [ inl g ↦ a.agree x g | inr g ↦ b.agree x g ];
  filled = λ x C h e. elim (in_cases rs ss x h) [ inl g ↦ a.filled x C g e | inr g ↦ b.filled x C g e ];
  sound = λ x t h k. elim (in_cases rs ss x h) [ inl g ↦ a.sound x t g k | inr g ↦ b.sound x t g k ];
  full = λ p t m k s h. elim (in_cases ps (q ∷ []) p m) [
    | inl g ↦ let r = a.full p t g k s h in (r.0, in_left rs ss r.0 r.1, r.2)
    | inr g ↦ let r = b.full t (at_one q p (λ x. Completes x t) g k) s h in (r.0, in_right rs ss r.0 r.1, r.2)
  ];
  clean = λ p t f m k s h. elim (in_cases ps (q ∷ []) p m) [
    | inl g ↦ a.clean p t f g k s h
    | inr g ↦ b.clean t f (at_one q p (λ x. Completes x t) g k) s h
  ];
}

-- a fault from one of them
pub each_refused : (sees : List See) (ps : List Places) (q : Places) (fixes : Sets) (H : Fact) (F : Faults) (f : EvalFault)
    → Contains ps q → Found sees q fixes H F (Err f) → FoundEach sees ps fixes H F (Err f)
each_refused sees ps q fixes H F (Refused kind at) m a = (q, m, a)
each_refused sees ps q fixes H F NoMemory m a = tt

-- First one and then another, from all that the first found; what the other finds may depend on what the first leaves fixed.
pub found_then : (sees : List See) (p : Places) (fixes others : Sets) (more : VariableSet → Sets) (H K L : Fact) (F M : Faults) (G : VariableSet → Faults) (qs : List Places)
    → ((C : VariableSet) → others C → (D : VariableSet) × fixes D × more D C)
    → ((t : Values) → H t → K t → L t) → ((t : Values) → L t → H t × K t)
    → ((t : Values) (f : Fault) → M t f → F t f ⊎ (H t × ((D : VariableSet) × fixes D × G D t f)))
    → ((t : Values) (f : Fault) (D : VariableSet) → H t → fixes D → G D t f → M t f)
    → (D : VariableSet) → fixes D → Finds sees p fixes H F qs
    → (r : Result (List Places) EvalFault) → ((D : VariableSet) → fixes D → FoundEach sees qs (more D) K (G D) r) → Found sees p others L M r
found_then sees p fixes others more H K L F M G qs x i j m n D e a (Ok rs) b = record {
  further = λ q h.
      let s = (b D e).further q h in
      let t = a.further s.0 s.1 in
      (s.2 ∙ t.0, within_trans p s.0 q t.1 s.3, possible_trans p s.0 q t.2 s.4);
  agree = λ q h. (b D e).agree q h;
  filled = λ q C h c. let d = x C c in (b d.0 d.1).filled q C h d.2;
  sound = λ q t h k.
      let s = (b D e).further q h in
      i t (a.sound s.0 t s.1 (completes_less s.0 q t s.2 s.3 k)) ((b D e).sound q t h k);
  full = λ t k s h.
      let w = j t h in
      let r = a.full t k s w.0 in
      (b D e).full r.0 t r.1 r.2 s w.1;
  clean = λ t f k s h. elim (m t f h) [
    | inl g ↦ a.clean t f k s g
    | inr g ↦ let r = a.full t k s g.0 in (b g.1.0 g.1.1).clean r.0 t f r.1 r.2 s g.1.2
  ];
}
found_then sees p fixes others more H K L F M G qs x i j m n D e a (Err (Refused kind at)) b =
    let c = b D e in
    let s = a.further c.0 c.1 in
    let q = c.2.0 in (
      q,
      c.2.1 ∙ s.0,
      within_trans p c.0 q s.1 c.2.2,
      c.2.3,
      λ t k. n t (fault kind at) D (a.sound c.0 t c.1 (completes_less c.0 q t c.2.1 c.2.2 k)) e (c.2.4 t k),
      possible_trans p c.0 q s.2 c.2.5,
    )
found_then sees p fixes others more H K L F M G qs x i j m n D e a (Err NoMemory) b = tt
