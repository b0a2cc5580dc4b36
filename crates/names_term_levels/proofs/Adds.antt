-- What a note is told by the pieces of a text.
use Rattle.std.proofs.Common.{◌≡◌, ◌∙◌, sym, ap, refl, List, [], ◌∷◌, ◌++◌, inl, inr, subst, arith, ◌<◌, zero-add, add-zero}
use Rattle.std.specs.Prelude.{◌⊎◌, ℕ, zero, suc, Bool, true, false, Option, Some, None, if◌then◌else◌, Contains, slice_get, ◌+◌, ◌&&◌, ◌||◌, ◌==◌, IsTrue}
use Rattle.base_core.specs.declared.place.Place.{Place}
use Rattle.names_terms.specs.declared.level.Level.TheVariants.{Constant}
use Rattle.names_terms.specs.declared.operator.Operator.{Operator}
use Rattle.names_terms.specs.Terms.{Term, Meaning, level_of, place_of}
use Rattle.names_term_parts.specs.declared.fault.LevelFault.{LevelFault}
use Rattle.names_term_parts.specs.declared.fault.LevelFault.TheVariants.{TooHigh, PrimedArgument}
use Rattle.names_term_levels.specs.declared.note.Note.{Note}
use Rattle.names_term_parts.specs.FaultOrder.{is_before, earlier, held, held_all}
use Rattle.names_term_levels.specs.Findings.{Finding, Standing, Under, Wrong, Reaches, Covers, Says, Adds, LimitFinds, SlotFinds, NamedFinds, LetFinds, LetsFind, ArgumentFinds}
use Rattle.names_term_parts.specs.Limits.{Limit, limits, is_above}
use Rattle.names_term_parts.proofs.Contained.{contains_cons, contains_head, contains_tail, contains_nothing}
use Rattle.names_term_parts.specs.Marks.{has}
use Rattle.names_term_levels.specs.Told.{IsNoted}
use Rattle.names_term_levels.specs.Arguments.{earlier_of, argued, argued_from, TakesIn}
use Rattle.std.proofs.lemmas.List.Elements.{Contains-push, Contains-push_cases, Contains-append_left}
use Rattle.names_term_parts.proofs.Marks.{and_both, and_cases, are_same, or_cases, or_left, or_right, same}
use Rattle.names_term_levels.proofs.Order.{earlier_keeps, earlier_tells, earlier_sound, not_before_itself, reaches_on}

-- one limit
keeps_test : (b : Bool) (o : Option LevelFault) (f h : LevelFault) → Reaches o f → Reaches (if b then earlier o h else o) f
keeps_test true o f h r = earlier_keeps o f h r
keeps_test false o f h r = r

sound_test : (b : Bool) (o : Option LevelFault) (f h : LevelFault) → (if b then earlier o h else o) ≡ Some f → (o ≡ Some f) ⊎ ((b ≡ true) × (f ≡ h))
sound_test true o f h q = elim (earlier_sound o f h q) [ inl e ↦ inl e | inr e ↦ inr (refl, e) ]
sound_test false o f h q = inl q

tells_test : (b : Bool) (o : Option LevelFault) (h : LevelFault) → b ≡ true → Reaches (if b then earlier o h else o) h
tells_test true o h t = earlier_tells o h
tells_test false o h t = absurd (cc)

abbrev high : Limit → LevelFault
high y = TooHigh y.found y.allowed y.at

all_keep : (o : Option LevelFault) (f : LevelFault) (xs : List Limit) → Reaches o f → Reaches (held_all o xs) f
all_keep o f [] r = r
all_keep o f (x ∷ xs) r = all_keep (held o x) f xs (keeps_test (is_above x.found x.allowed) o f (high x) r)

all_tell : (o : Option LevelFault) (xs : List Limit) (y : Limit) → Contains xs y → is_above y.found y.allowed ≡ true → Reaches (held_all o xs) (high y)
all_tell o [] y c t = absurd (let lt : c.0 < 0 = c.1 in omega arith)
all_tell o (x ∷ xs) y c t = elim (contains_cons x xs y c) [
  | inl e ↦ all_keep (held o x) (high y) xs (ap_reaches e)
  | inr k ↦ all_tell (held o x) xs y k t
]
  where
    ap_reaches : x ≡ y → Reaches (held o x) (high y)
    ap_reaches e = let P : Limit → Type 0 = λ z. is_above z.found z.allowed ≡ true → Reaches (held o z) (high y) in subst P (sym e) (λ u. tells_test (is_above y.found y.allowed) o (high y) u) (ap (λ z. is_above z.found z.allowed) e ∙ t)

all_sound : (o : Option LevelFault) (f : LevelFault) (xs : List Limit) → held_all o xs ≡ Some f → (o ≡ Some f) ⊎ ((y : Limit) × Contains xs y × (is_above y.found y.allowed ≡ true) × (f ≡ high y))
all_sound o f [] q = inl q
all_sound o f (x ∷ xs) q = elim (all_sound (held o x) f xs q) [
  | inl e ↦ elim (sound_test (is_above x.found x.allowed) o f (high x) e) [
    | inl old ↦ inl old
    | inr p ↦ inr (x, contains_head x xs, p.0, p.1)
  ]
  | inr r ↦ inr (r.0, contains_tail x xs r.0 r.1, r.2, r.3)
]

pub adds_limits : (at : Place) (m : Meaning) (old new : Note) → new ≡ record old { fault = held_all old.fault (limits at m) } → Adds (LimitFinds at m) old new
adds_limits at m old new q = subst (λ (n : Note). Adds (LimitFinds at m) old n) (sym q) record {
  kept = kept_one;
  told = told_one;
  sound = sound_one;
}
  where
    kept_one : (x : Finding) → Covers old x → Covers (record old { fault = held_all old.fault (limits at m) }) x
    kept_one (Standing i) h = h
    kept_one (Under i) h = h
    kept_one (Wrong f) h = all_keep old.fault f (limits at m) h

    told_one : (x : Finding) → LimitFinds at m x → Covers (record old { fault = held_all old.fault (limits at m) }) x
    told_one (Standing i) h = absurd h
    told_one (Under i) h = absurd h
    told_one (Wrong f) h = let P : LevelFault → Type 0 = Reaches (held_all old.fault (limits at m)) in subst P (sym h.3) (all_tell old.fault (limits at m) h.0 h.1 h.2)

    sound_one : (x : Finding) → Says (record old { fault = held_all old.fault (limits at m) }) x → Says old x ⊎ LimitFinds at m x
    sound_one (Standing i) h = inl h
    sound_one (Under i) h = inl h
    sound_one (Wrong f) h = all_sound old.fault f (limits at m) h

-- one piece after another
pub adds_both : (P Q R : Finding → Type 0) (a b c : Note) → ((x : Finding) → R x → P x ⊎ Q x) → ((x : Finding) → P x → R x) → ((x : Finding) → Q x → R x) → Adds P a b → Adds Q b c → Adds R a c
adds_both P Q R a b c split left right p q = record {
  kept = λ x h. q.kept x (p.kept x h);
  told = λ x h. elim (split x h) [ inl u ↦ q.kept x (p.told x u) | inr u ↦ q.told x u ];
  sound = λ x h. elim (q.sound x h) [
    | inl u ↦ elim (p.sound x u) [ inl v ↦ inl v | inr v ↦ inr (left x v) ]
    | inr u ↦ inr (right x u)
  ];
}

-- the slots of a definition
pub adds_named : (ops : List Operator) (ns : List Note) (b : Bool) (k : ℕ) (o : Operator) (n old new : Note) → IsNoted ops ns k o n → TakesIn o.outer b n old new → Adds (NamedFinds ops ns b k) old new
adds_named ops ns b k o n old new here takes = record {
  kept = kept_one;
  told = told_one;
  sound = sound_one;
}
  where
    -- one definition and one note have a number
    same : (p : Operator) (m : Note) → IsNoted ops ns k p m → (P : Operator → Note → Type 0) → P p m → P o n
    same p m there P h =
        let q : p ≡ o = cc (there.is, here.is) in
        let r : m ≡ n = cc (there.told, here.told) in
        subst (P o) r (subst (λ (y : Operator). P y m) q h)

    kept_one : (x : Finding) → Covers old x → Covers new x
    kept_one (Standing i) h = takes.occurs.kept i h
    kept_one (Under i) h = takes.kept i h
    kept_one (Wrong f) h = let P : Option LevelFault → Type 0 = λ y. Reaches y f in subst P (sym takes.fault) h

    told_one : (x : Finding) → NamedFinds ops ns b k x → Covers new x
    told_one (Standing i) (p, m, there, lt, w) =
        let r : (i < o.outer) × IsTrue (has n.occurs i) = same p m there (λ y z. (i < y.outer) × IsTrue (has z.occurs i)) (lt, w) in
        takes.occurs.added i r.0 r.1
    told_one (Under i) (p, m, there, lt, w) =
        let r : (i < o.outer) × (IsTrue (has n.primed i) ⊎ ((b ≡ true) × IsTrue (has n.occurs i))) =
        same p m there (λ y z. (i < y.outer) × (IsTrue (has z.primed i) ⊎ ((b ≡ true) × IsTrue (has z.occurs i)))) (lt, w) in
        elim r.1 [ inl u ↦ takes.added i r.0 u | inr u ↦ takes.under i u.0 r.0 u.1 ]
    told_one (Wrong f) h = absurd h

    sound_one : (x : Finding) → Says new x → Says old x ⊎ NamedFinds ops ns b k x
    sound_one (Standing i) h = elim (takes.occurs.sound i h) [ inl u ↦ inl u | inr u ↦ inr (o, n, here, u.0, u.1) ]
    sound_one (Under i) h = elim (takes.sound i h) [ inl u ↦ inl u | inr u ↦ inr (o, n, here, u.0, u.1) ]
    sound_one (Wrong f) h = inl (sym takes.fault ∙ h)

-- the first fault of a definition
abbrev pub FaultFinds : List Note → ℕ → Finding → Type 0
FaultFinds ns k (Wrong f) = (n : Note) × (slice_get ns k ≡ Some n) × (n.fault ≡ Some f)
FaultFinds ns k x = ⊥

pub earlier_of_keeps : (o found : Option LevelFault) (f : LevelFault) → Reaches o f → Reaches (earlier_of o found) f
earlier_of_keeps o None f r = r
earlier_of_keeps o (Some g) f r = earlier_keeps o f g r

pub earlier_of_tells : (o found : Option LevelFault) (f : LevelFault) → Reaches found f → Reaches (earlier_of o found) f
earlier_of_tells o None f r = absurd (let q : None ≡ Some r.0 = r.1 in cc)
earlier_of_tells o (Some g) f r = let same : g ≡ r.0 = cc (r.1) in reaches_on (earlier o g) f g (ap (λ y. is_before f y) same ∙ r.2) (earlier_tells o g)

pub earlier_of_sound : (o found : Option LevelFault) (f : LevelFault) → earlier_of o found ≡ Some f → (o ≡ Some f) ⊎ (found ≡ Some f)
earlier_of_sound o None f q = inl q
earlier_of_sound o (Some g) f q = elim (earlier_sound o f g q) [ inl e ↦ inl e | inr e ↦ inr (ap Some (sym e)) ]

pub adds_fault : (ns : List Note) (k : ℕ) (n old new : Note) → slice_get ns k ≡ Some n → new ≡ record old { fault = earlier_of old.fault n.fault } → Adds (FaultFinds ns k) old new
adds_fault ns k n old new at q = subst (λ (y : Note). Adds (FaultFinds ns k) old y) (sym q) record {
  kept = kept_one;
  told = told_one;
  sound = sound_one;
}
  where
    kept_one : (x : Finding) → Covers old x → Covers (record old { fault = earlier_of old.fault n.fault }) x
    kept_one (Standing i) h = h
    kept_one (Under i) h = h
    kept_one (Wrong f) h = earlier_of_keeps old.fault n.fault f h

    told_one : (x : Finding) → FaultFinds ns k x → Covers (record old { fault = earlier_of old.fault n.fault }) x
    told_one (Standing i) h = absurd h
    told_one (Under i) h = absurd h
    told_one (Wrong f) (m, there, is) =
        let same : m ≡ n = cc (there, at) in
        earlier_of_tells old.fault n.fault f (f, ap (λ y. y.fault) (sym same) ∙ is, not_before_itself f)

    sound_one : (x : Finding) → Says (record old { fault = earlier_of old.fault n.fault }) x → Says old x ⊎ FaultFinds ns k x
    sound_one (Standing i) h = inl h
    sound_one (Under i) h = inl h
    sound_one (Wrong f) h = elim (earlier_of_sound old.fault n.fault f h) [ inl e ↦ inl e | inr e ↦ inr (n, at, e) ]

-- all of a definition of a LET
pub adds_let : (ops : List Operator) (ns : List Note) (b : Bool) (k : ℕ) (old mid new : Note) → Adds (NamedFinds ops ns b k) old mid → Adds (FaultFinds ns k) mid new → Adds (LetFinds ops ns b k) old new
adds_let ops ns b k old mid new p q = adds_both (NamedFinds ops ns b k) (FaultFinds ns k) (LetFinds ops ns b k) old mid new split left right p q
  where
    split : (x : Finding) → LetFinds ops ns b k x → NamedFinds ops ns b k x ⊎ FaultFinds ns k x
    split (Standing i) h = inl h
    split (Under i) h = inl h
    split (Wrong f) h = inr h

    left : (x : Finding) → NamedFinds ops ns b k x → LetFinds ops ns b k x
    left (Standing i) h = h
    left (Under i) h = h
    left (Wrong f) h = absurd h

    right : (x : Finding) → FaultFinds ns k x → LetFinds ops ns b k x
    right (Standing i) h = absurd h
    right (Under i) h = absurd h
    right (Wrong f) h = h

-- none yet, and one more definition
pub adds_nothing : (P : Finding → Type 0) (old : Note) → ((x : Finding) → ¬ P x) → Adds P old old
adds_nothing P old none = record { kept = λ x h. h; told = λ x h. absurd (none x h); sound = λ x h. inl h }

pub lets_none : (ops : List Operator) (ns : List Note) (b : Bool) (old : Note) → Adds (LetsFind ops ns b []) old old
lets_none ops ns b old = adds_nothing (LetsFind ops ns b []) old (λ x h. contains_nothing h.0 h.1)

pub lets_more : (ops : List Operator) (ns : List Note) (b : Bool) (ks : List ℕ) (k : ℕ) (old mid new : Note) → Adds (LetsFind ops ns b ks) old mid → Adds (LetFinds ops ns b k) mid new → Adds (LetsFind ops ns b (ks ++ k ∷ [])) old new
lets_more ops ns b ks k old mid new p q = adds_both (LetsFind ops ns b ks) (LetFinds ops ns b k) (LetsFind ops ns b (ks ++ k ∷ [])) old mid new
    (λ x h. elim (Contains-push_cases ks k h.0 h.1) [ inl c ↦ inl (h.0, c, h.2) | inr e ↦ inr (subst (λ (y : ℕ). LetFinds ops ns b y x) (sym e) h.2) ])
    (λ x h. (h.0, Contains-append_left ks (k ∷ []) h.0 h.1, h.2))
    (λ x h. (k, Contains-push ks k, h))
    p q

-- a slot
pub adds_slot : (i : ℕ) (b : Bool) (old new : Note) → ((j : ℕ) → has new.occurs j ≡ ((j == i) || has old.occurs j)) → ((j : ℕ) → has new.primed j ≡ ((b && (j == i)) || has old.primed j)) → new.fault ≡ old.fault → Adds (SlotFinds i b) old new
adds_slot i b old new occurs primed fault = record {
  kept = kept_one;
  told = told_one;
  sound = sound_one;
}
  where
    kept_one : (x : Finding) → Covers old x → Covers new x
    kept_one (Standing j) h = occurs j ∙ or_right (j == i) (has old.occurs j) h
    kept_one (Under j) h = primed j ∙ or_right (b && (j == i)) (has old.primed j) h
    kept_one (Wrong f) h = let P : Option LevelFault → Type 0 = λ y. Reaches y f in subst P (sym fault) h

    told_one : (x : Finding) → SlotFinds i b x → Covers new x
    told_one (Standing j) h = occurs j ∙ or_left (j == i) (has old.occurs j) (are_same j i h)
    told_one (Under j) h = primed j ∙ or_left (b && (j == i)) (has old.primed j) (and_both b (j == i) h.0 (are_same j i h.1))
    told_one (Wrong f) h = absurd h

    sound_one : (x : Finding) → Says new x → Says old x ⊎ SlotFinds i b x
    sound_one (Standing j) h = elim (or_cases (j == i) (has old.occurs j) (sym (occurs j) ∙ h)) [ inl e ↦ inr (same j i e) | inr u ↦ inl u ]
    sound_one (Under j) h = elim (or_cases (b && (j == i)) (has old.primed j) (sym (primed j) ∙ h)) [
      | inl e ↦ let p : (b ≡ true) × ((j == i) ≡ true) = and_cases b (j == i) e in inr (p.0, same j i p.1)
      | inr u ↦ inl u
    ]
    sound_one (Wrong f) h = inl (sym fault ∙ h)

-- arguments of primed parameters
argued_keeps : (b : Bool) (e : Term) (o : Option LevelFault) (f : LevelFault) → Reaches o f → Reaches (argued b e o) f
argued_keeps b e o f r = keeps_test (b && is_above (level_of e) Constant) o f (PrimedArgument (place_of e)) r

argued_from_keeps : (primed : List Bool) (outer i : ℕ) (es : List Term) (o : Option LevelFault) (f : LevelFault) → Reaches o f → Reaches (argued_from primed outer i es o) f
argued_from_keeps primed outer i [] o f r = r
argued_from_keeps primed outer i (e ∷ es) o f r = argued_from_keeps primed outer (i + 1) es (argued (has primed (outer + i)) e o) f (argued_keeps (has primed (outer + i)) e o f r)

argued_from_tells : (primed : List Bool) (outer i j : ℕ) (es : List Term) (e : Term) (o : Option LevelFault) → slice_get es j ≡ Some e → has primed (outer + (i + j)) ≡ true → is_above (level_of e) Constant ≡ true → Reaches (argued_from primed outer i es o) (PrimedArgument (place_of e))
argued_from_tells primed outer i j [] e o q p l = absurd (cc)
argued_from_tells primed outer i zero (x ∷ es) e o q p l =
    let same : x ≡ e = cc in
    let P : Term → Type 0 = λ y. Reaches (argued_from primed outer (i + 1) es (argued (has primed (outer + i)) y o)) (PrimedArgument (place_of e)) in
    subst P (sym same) (argued_from_keeps primed outer (i + 1) es (argued (has primed (outer + i)) e o) (PrimedArgument (place_of e)) (tells_test (has primed (outer + i) && is_above (level_of e) Constant) o (PrimedArgument (place_of e)) (and_both (has primed (outer + i)) (is_above (level_of e) Constant) (ap (λ n. has primed (outer + n)) (sym (add-zero i)) ∙ p) l)))
argued_from_tells primed outer i (suc j) (x ∷ es) e o q p l =
    let shifted : (i + 1) + j ≡ i + suc j = omega arith in
    argued_from_tells primed outer (i + 1) j es e (argued (has primed (outer + i)) x o) q (ap (λ n. has primed (outer + n)) shifted ∙ p) l

argued_from_sound : (primed : List Bool) (outer i : ℕ) (es : List Term) (o : Option LevelFault) (f : LevelFault) → argued_from primed outer i es o ≡ Some f → (o ≡ Some f) ⊎ ((j : ℕ) × (e : Term) × (slice_get es j ≡ Some e) × (has primed (outer + (i + j)) ≡ true) × (is_above (level_of e) Constant ≡ true) × (f ≡ PrimedArgument (place_of e)))
argued_from_sound primed outer i [] o f q = inl q
argued_from_sound primed outer i (e ∷ es) o f q = elim (argued_from_sound primed outer (i + 1) es (argued (has primed (outer + i)) e o) f q) [
  | inl r ↦ elim (sound_test (has primed (outer + i) && is_above (level_of e) Constant) o f (PrimedArgument (place_of e)) r) [
    | inl old ↦ inl old
    | inr p ↦ let both : (has primed (outer + i) ≡ true) × (is_above (level_of e) Constant ≡ true) = and_cases (has primed (outer + i)) (is_above (level_of e) Constant) p.0 in inr (zero, e, refl, ap (λ n. has primed (outer + n)) (add-zero i) ∙ both.0, both.1, p.1)
  ]
  | inr r ↦ let shifted : i + suc r.0 ≡ (i + 1) + r.0 = omega arith in inr (suc r.0, r.1, r.2, ap (λ n. has primed (outer + n)) shifted ∙ r.3, r.4, r.5)
]

pub adds_arguments : (primed : List Bool) (outer : ℕ) (es : List Term) (old new : Note) → new ≡ record old { fault = argued_from primed outer 0 es old.fault } → Adds (ArgumentFinds primed outer es) old new
adds_arguments primed outer es old new q = subst (λ (y : Note). Adds (ArgumentFinds primed outer es) old y) (sym q) record {
  kept = kept_one;
  told = told_one;
  sound = sound_one;
}
  where
    kept_one : (x : Finding) → Covers old x → Covers (record old { fault = argued_from primed outer 0 es old.fault }) x
    kept_one (Standing i) h = h
    kept_one (Under i) h = h
    kept_one (Wrong f) h = argued_from_keeps primed outer 0 es old.fault f h

    told_one : (x : Finding) → ArgumentFinds primed outer es x → Covers (record old { fault = argued_from primed outer 0 es old.fault }) x
    told_one (Standing i) h = absurd h
    told_one (Under i) h = absurd h
    told_one (Wrong f) h =
        let P : LevelFault → Type 0 = Reaches (argued_from primed outer 0 es old.fault) in
        subst P (sym h.5) (argued_from_tells primed outer 0 h.0 es h.1 old.fault h.2 (ap (λ n. has primed (outer + n)) (zero-add h.0) ∙ h.3) h.4)

    sound_one : (x : Finding) → Says (record old { fault = argued_from primed outer 0 es old.fault }) x → Says old x ⊎ ArgumentFinds primed outer es x
    sound_one (Standing i) h = inl h
    sound_one (Under i) h = inl h
    sound_one (Wrong f) h = elim (argued_from_sound primed outer 0 es old.fault f h) [
      | inl r ↦ inl r
      | inr r ↦ inr (r.0, r.1, r.2, ap (λ n. has primed (outer + n)) (sym (zero-add r.0)) ∙ r.3, r.4, r.5)
    ]
