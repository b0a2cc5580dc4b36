-- Arms from a larger set: each has what it had and what that set has, so that none lacks what another fixes.
use Rattle.std.proofs.Common.{◌≡◌, ◌∙◌, ◌⊎◌, inl, inr, sym, refl, subst, List, [], ◌∷◌}
use Rattle.std.specs.Prelude.{ℕ, Bool, true, false, ◌&&◌, ◌||◌, not, None, Result, Ok}
use Rattle.std.proofs.lemmas.Bool.{or_cases, or_left, or_right}
use Rattle.actions_meanings.specs.declared.fault.FormFault.{FormFault}
use Rattle.actions_meanings.specs.Reads.{VariableSet}
use Rattle.actions_meanings.specs.Outcomes.{FormOutcome, Arm, next, least, outside, not_fixed, fixed_by_some, lacking, together}
use Rattle.actions_form_laws.specs.Growth.{Within, IsUnion}
use Rattle.actions_form_laws.proofs.Steps.{self-within, ok-same, next-ok, next-is, unless-ok, unless-is, else-first, else-second, else-both, absorbs}
use Rattle.actions_form_laws.proofs.Timely.{least-stays, not-lacking}

-- from D the same is done, and fixes C and what D has
abbrev pub Grown : (VariableSet → FormOutcome) → VariableSet → VariableSet → Type 0
Grown act C D = (E : VariableSet) × (act D ≡ Ok E) × IsUnion E C D

-- each arm of the second list has what that of the first has, and D
abbrev pub Matched : VariableSet → List Arm → List Arm → Type 0
Matched D [] [] = Unit {0}
Matched D (c ∷ cs) (d ∷ ds) = IsUnion d.set c.set D × Matched D cs ds
Matched D cs ds = ⊥

-- what the second has is in the first or in D
abbrev pub FromEither : VariableSet → VariableSet → VariableSet → Type 0
FromEither W U D = (x : ℕ) → W x ≡ true → (U x ≡ true) ⊎ (D x ≡ true)

union-has : (E C D : VariableSet) → IsUnion E C D → FromEither E C D
union-has E C D s x h = or_cases (C x) (D x) (sym (s x) ∙ h)

pub some-fixes : (D : VariableSet) (cs ds : List Arm) → Matched D cs ds → FromEither (fixed_by_some ds) (fixed_by_some cs) D
some-fixes D [] [] s x h = inl h
some-fixes D [] (d ∷ ds) s x h = absurd s
some-fixes D (c ∷ cs) [] s x h = absurd s
some-fixes D (c ∷ cs) (d ∷ ds) s x h = elim (or_cases (d.set x) (fixed_by_some ds x) h) [
  | inl own ↦ elim (union-has d.set c.set D s.0 x own) [
    | inl q ↦ inl (or_left (c.set x) (fixed_by_some cs x) q)
    | inr q ↦ inr q
  ]
  | inr rest ↦ elim (some-fixes D cs ds s.1 x rest) [
    | inl q ↦ inl (or_right (c.set x) (fixed_by_some cs x) q)
    | inr q ↦ inr q
  ]
]

-- what the larger arm lacks of the larger set, the smaller one lacks of the smaller
lacks-less : (w d u c t : Bool) → d ≡ (c || t) → (w ≡ true → (u ≡ true) ⊎ (t ≡ true)) → (w && not d) ≡ true → (u && not c) ≡ true
lacks-less false d u c t q s h = absurd (cc)
lacks-less true true u c t q s h = absurd (cc)
lacks-less true false u true t q s h = absurd (cc)
lacks-less true false u false true q s h = absurd (cc)
lacks-less true false true false false q s h = refl
lacks-less true false false false false q s h = absurd (elim (s refl) [
  | inl e ↦ cc
  | inr e ↦ cc
])

lacking-stays : (v : ℕ) (U W D : VariableSet) → FromEither W U D → (cs ds : List Arm) → Matched D cs ds → lacking v U cs ≡ None → lacking v W ds ≡ None
lacking-stays v U W D from [] [] s h = refl
lacking-stays v U W D from [] (d ∷ ds) s h = absurd s
lacking-stays v U W D from (c ∷ cs) [] s h = absurd s
lacking-stays v U W D from (c ∷ cs) (d ∷ ds) s h =
    let first : not_fixed c.at (least v (outside c.set U)) ≡ None = else-first (not_fixed c.at (least v (outside c.set U))) (lacking v U cs) h in
    let rest : lacking v U cs ≡ None = else-second (not_fixed c.at (least v (outside c.set U))) (lacking v U cs) h in
    else-both (not_fixed d.at (least v (outside d.set W))) (lacking v W ds)
    (not-lacking c.at d.at (least v (outside c.set U)) (least v (outside d.set W))
    (least-stays v (outside c.set U) (outside d.set W) (λ x l. lacks-less (W x) (d.set x) (U x) (c.set x) (D x) (s.0 x) (from x) l)) first)
    (lacking-stays v U W D from cs ds s.1 rest)

pub same-grown : (B C D : VariableSet) → Within B D → B ≡ C → IsUnion D C D
same-grown B C D within q x = absorbs (C x) (D x) (λ h. within x (self-within C B (sym q) x h))

pub together-stays : (v : ℕ) (B C D : VariableSet) (cs ds : List Arm) → Within B D → Matched D cs ds → together v B cs ≡ Ok C → (E : VariableSet) × (together v D ds ≡ Ok E) × IsUnion E C D
together-stays v B C D [] [] within s h = (D, refl, same-grown B C D within (ok-same (Ok B) B C refl h))
together-stays v B C D [] (d ∷ ds) within s h = absurd s
together-stays v B C D (c ∷ cs) [] within s h = absurd s
together-stays v B C D (c ∷ cs) (d ∷ ds) within s h =
    let p : (lacking v (fixed_by_some (c ∷ cs)) (c ∷ cs) ≡ None) × (Ok c.set ≡ Ok C) = unless-ok (lacking v (fixed_by_some (c ∷ cs)) (c ∷ cs)) (Ok c.set) C h in
    let none : lacking v (fixed_by_some (d ∷ ds)) (d ∷ ds) ≡ None =
    lacking-stays v (fixed_by_some (c ∷ cs)) (fixed_by_some (d ∷ ds)) D (some-fixes D (c ∷ cs) (d ∷ ds) s) (c ∷ cs) (d ∷ ds) s p.0 in
    let same : c.set ≡ C = ok-same (Ok c.set) c.set C refl p.1 in (
      d.set,
      unless-is (lacking v (fixed_by_some (d ∷ ds)) (d ∷ ds)) (Ok d.set) (Ok d.set) none refl,
      subst (λ (z : VariableSet). IsUnion d.set z D) same s.0,
    )

-- arms that come from B come from D too, matched
abbrev pub ArmsStay : Result (List Arm) FormFault → Result (List Arm) FormFault → VariableSet → Type 0
ArmsStay r t D = (cs : List Arm) → r ≡ Ok cs → (ds : List Arm) × (t ≡ Ok ds) × Matched D cs ds

pub joined-stays : (v : ℕ) (B C D : VariableSet) (r t : Result (List Arm) FormFault) → Within B D → ArmsStay r t D → next r (together v B) ≡ Ok C → (E : VariableSet) × (next t (together v D) ≡ Ok E) × IsUnion E C D
joined-stays v B C D r t within stay h =
    let p : (cs : List Arm) × (r ≡ Ok cs) × (together v B cs ≡ Ok C) = next-ok r (together v B) C h in
    let q : (ds : List Arm) × (t ≡ Ok ds) × Matched D p.0 ds = stay p.0 p.1 in
    let e : (E : VariableSet) × (together v D q.0 ≡ Ok E) × IsUnion E C D = together-stays v B C D p.0 q.0 within q.2 p.2 in
    (e.0, next-is t (together v D) q.0 (Ok e.0) q.1 e.1, e.2)
