-- An action that has a form has one where more is fixed before, and fixes the same.
use Rattle.std.proofs.Common.{◌≡◌, ◌∙◌, ap, sym, refl, subst, List, [], ◌∷◌}
use Rattle.std.specs.Prelude.{ℕ, zero, suc, Bool, true, false, ◌||◌, ◌==◌, Option, None, Result, Ok, option_to_list, slice_get}
use Rattle.std.proofs.lemmas.Bool.{or_left, or_right}
use Rattle.names_terms.specs.Terms as term
use Rattle.names_terms.specs.Terms.{Term, place_of}
use Rattle.names_term_parts.specs.Parts.{set_list}
use Rattle.actions_meanings.specs.declared.fault.FormFault.{FormFault}
use Rattle.actions_meanings.specs.Forms.{Setting, Form, form, test, assign, choose, both, either, narrowed, some, branch, arms, inside, call, changing}
use Rattle.actions_meanings.specs.Reads.{VariableSet, body_of, reads_primed, with_variable}
use Rattle.actions_meanings.specs.Outcomes.{FormOutcome, Arm, next, unless, least, outside, too_early, first_early, early, arm, through, arms_of, case_arms, together, form_outcome, outcome_within}
use Rattle.actions_form_laws.specs.Growth.{Within, IsUnion, FormsStay, FormsAlike}
use Rattle.actions_form_laws.proofs.Steps.{Doing, behind_arm, self-within, ok-same, next-ok, next-is, unless-ok, unless-is, absorbs-between, absorbed}
use Rattle.actions_form_laws.proofs.Timely.{early-stays, firsts-stay, none-outside, not-early}
use Rattle.actions_form_laws.proofs.Growing.{Grow, outcome-grows}
use Rattle.actions_form_laws.proofs.Arms.{Grown, Matched, ArmsStay, same-grown, joined-stays}

abbrev pub Stay : Doing → Type 0
Stay part = (e : Term) (B C D : VariableSet) → Within B D → part e B ≡ Ok C → Grown (part e) C D

-- what is done behind the first, from what the first leaves
union-more : (E C E1 C1 D : VariableSet) → IsUnion E C E1 → IsUnion E1 C1 D → Within C1 C → IsUnion E C D
union-more E C E1 C1 D s t within x = s x ∙ ap (λ (z : Bool). C x || z) (t x) ∙ absorbs-between (C x) (C1 x) (D x) (within x)

pub union-within : (E C D : VariableSet) → IsUnion E C D → Within C E
union-within E C D s x h = s x ∙ or_left (C x) (D x) h

module _ (part : Doing) (grow : Grow part) (stay : Stay part) where
  through-grows : (es : List Term) (B C : VariableSet) → through part es B ≡ Ok C → Within B C
  through-grows [] B C h = self-within B C (ok-same (Ok B) B C refl h)
  through-grows (e ∷ es) B C h =
      let p : (D : VariableSet) × (part e B ≡ Ok D) × (through part es D ≡ Ok C) = next-ok (part e B) (through part es) C h in
      λ x b. through-grows es p.0 C p.2 x (grow e B p.0 p.1 x b)

  pub through-stays : (es : List Term) (B C D : VariableSet) → Within B D → through part es B ≡ Ok C → Grown (through part es) C D
  through-stays [] B C D within h = (D, refl, same-grown B C D within (ok-same (Ok B) B C refl h))
  through-stays (e ∷ es) B C D within h =
      let p : (C1 : VariableSet) × (part e B ≡ Ok C1) × (through part es C1 ≡ Ok C) = next-ok (part e B) (through part es) C h in
      let q : (E1 : VariableSet) × (part e D ≡ Ok E1) × IsUnion E1 p.0 D = stay e B p.0 D within p.1 in
      let r : (E : VariableSet) × (through part es q.0 ≡ Ok E) × IsUnion E C q.0 = through-stays es p.0 C q.0 (union-within q.0 p.0 D q.2) p.2 in
      (r.0, next-is (part e D) (through part es) q.0 (Ok r.0) q.1 r.1, union-more r.0 C q.0 p.0 D r.2 q.2 (through-grows es p.0 C p.2))

  arm-stays : (e : Term) (B D : VariableSet) (r t : Result (List Arm) FormFault) → Within B D → ArmsStay r t D → ArmsStay (next (part e B) (behind_arm e r)) (next (part e D) (behind_arm e t)) D
  arm-stays e B D r t within ih cs h =
      let p : (C : VariableSet) × (part e B ≡ Ok C) × (behind_arm e r C ≡ Ok cs) = next-ok (part e B) (behind_arm e r) cs h in
      let q : (bs : List Arm) × (r ≡ Ok bs) × (Ok (arm e p.0 ∷ bs) ≡ Ok cs) = next-ok r (λ bs. Ok (arm e p.0 ∷ bs)) cs p.2 in
      let own : (E : VariableSet) × (part e D ≡ Ok E) × IsUnion E p.0 D = stay e B p.0 D within p.1 in
      let rest : (ds : List Arm) × (t ≡ Ok ds) × Matched D q.0 ds = ih q.0 q.1 in
      let made : List Arm = arm e own.0 ∷ rest.0 in (
        made,
        next-is (part e D) (behind_arm e t) own.0 (Ok made) own.1 (next-is t (λ ds. Ok (arm e own.0 ∷ ds)) rest.0 (Ok made) rest.1 refl),
        subst (λ (z : List Arm). Matched D z made) (ok-same (Ok (arm e p.0 ∷ q.0)) (arm e p.0 ∷ q.0) cs refl q.2) (own.2, rest.2),
      )

  pub arms-stay : (B D : VariableSet) → Within B D → (es : List Term) → ArmsStay (arms_of part B es) (arms_of part D es) D
  arms-stay B D within [] cs h = ([], refl, subst (λ (z : List Arm). Matched D z []) (ok-same (Ok []) [] cs refl h) tt)
  arms-stay B D within (e ∷ es) cs h = arm-stays e B D (arms_of part B es) (arms_of part D es) within (arms-stay B D within es) cs h

  pub case-stays : (u t : Term → Option FormFault) (B D : VariableSet) → Within B D → ((e : Term) → u e ≡ None → t e ≡ None) → (bs : List (Term × Term)) (other : Option Term) → ArmsStay (case_arms u part B bs other) (case_arms t part D bs other) D
  case-stays u t B D within timely [] other cs h = arms-stay B D within (option_to_list other) cs h
  case-stays u t B D within timely (b ∷ bs) other cs h =
      let before : Result (List Arm) FormFault = next (part b.1 B) (behind_arm b.1 (case_arms u part B bs other)) in
      let now : Result (List Arm) FormFault = next (part b.1 D) (behind_arm b.1 (case_arms t part D bs other)) in
      let p : (u b.0 ≡ None) × (before ≡ Ok cs) = unless-ok (u b.0) before cs h in
      let r : (ds : List Arm) × (now ≡ Ok ds) × Matched D cs ds = arm-stays b.1 B D (case_arms u part B bs other) (case_arms t part D bs other) within (case-stays u t B D within timely bs other) cs p.1 in
      (r.0, unless-is (t b.0) now (Ok r.0) (timely b.0 p.0) r.1, r.2)

-- what is done where nothing is read too early
unless-stays : (o p : Option FormFault) (act : VariableSet → FormOutcome) (B C D : VariableSet) → (o ≡ None → p ≡ None) → (act B ≡ Ok C → Grown act C D) → unless o (act B) ≡ Ok C → (E : VariableSet) × (unless p (act D) ≡ Ok E) × IsUnion E C D
unless-stays o p act B C D timely stay h =
    let q : (o ≡ None) × (act B ≡ Ok C) = unless-ok o (act B) C h in
    let r : (E : VariableSet) × (act D ≡ Ok E) × IsUnion E C D = stay q.1 in
    (r.0, unless-is p (act D) (Ok r.0) (timely q.0) r.1, r.2)

or-false : (c : Bool) → (c || false) ≡ c
or-false true = refl
or-false false = refl

added-one : (b c d n : Bool) → (b ≡ true → d ≡ true) → (b || n) ≡ c → (d || n) ≡ (c || d)
added-one true c true n s q = ap (λ (z : Bool). z || true) q
added-one true c false n s q = absurd (let e : false ≡ true = s refl in cc)
added-one false c true n s q = sym (or_right c true refl)
added-one false c false n s q = q ∙ sym (or-false c)

-- the variable is fixed too
abbrev with-more : ℕ → VariableSet → FormOutcome
with-more x z = Ok (with_variable z x)

added-stays : (B C D : VariableSet) (x : ℕ) → Within B D → with-more x B ≡ Ok C → Grown (with-more x) C D
added-stays B C D x within h =
    let q : with_variable B x ≡ C = ok-same (with-more x B) (with_variable B x) C refl h in
    (with_variable D x, refl, λ y. added-one (B y) (C y) (D y) (x == y) (within y) (ap (λ (z : VariableSet). z y) q))

pub form-stays : (g : Setting) (k : ℕ) (part : Doing) → Grow part → Stay part → (a : Term) (B C D : VariableSet) → Within B D → (f : Form) → form_outcome g k part a B f ≡ Ok C → (E : VariableSet) × (form_outcome g k part a D f ≡ Ok E) × IsUnion E C D
form-stays g k part grow stay a B C D within test h =
    unless-stays (early g B (suc k) a) (early g D (suc k) a) (λ z. Ok z) B C D (early-stays g B D within (suc k) a) (λ q. (D, refl, same-grown B C D within (ok-same (Ok B) B C refl q))) h
form-stays g k part grow stay a B C D within (assign x e) h =
    unless-stays (early g B k e) (early g D k e) (with-more x) B C D (early-stays g B D within k e) (added-stays B C D x within) h
form-stays g k part grow stay a B C D within (choose x e) h =
    unless-stays (early g B k e) (early g D k e) (with-more x) B C D (early-stays g B D within k e) (added-stays B C D x within) h
form-stays g k part grow stay a B C D within (both es) h = through-stays part grow stay es B C D within h
form-stays g k part grow stay a B C D within (narrowed m es) h = through-stays part grow stay es B C D within h
form-stays g k part grow stay a B C D within (either es) h = joined-stays g.variables B C D (arms_of part B es) (arms_of part D es) within (arms-stay part grow stay B D within es) h
form-stays g k part grow stay a B C D within (some bs e) h =
    unless-stays (first_early (early g B k) (set_list bs)) (first_early (early g D k) (set_list bs)) (part e) B C D (firsts-stay (early g B k) (early g D k) (early-stays g B D within k) (set_list bs)) (stay e B C D within) h
form-stays g k part grow stay a B C D within (branch p e f) h =
    unless-stays (early g B k p) (early g D k p) (λ z. next (arms_of part z (e ∷ f ∷ [])) (together g.variables z)) B C D (early-stays g B D within k p)
    (joined-stays g.variables B C D (arms_of part B (e ∷ f ∷ [])) (arms_of part D (e ∷ f ∷ [])) within (arms-stay part grow stay B D within (e ∷ f ∷ []))) h
form-stays g k part grow stay a B C D within (arms cs other) h =
    joined-stays g.variables B C D (case_arms (early g B k) part B cs other) (case_arms (early g D k) part D cs other) within
    (case-stays part grow stay (early g B k) (early g D k) B D within (early-stays g B D within k) cs other) h
form-stays g k part grow stay a B C D within (inside e) h = stay e B C D within h
form-stays g k part grow stay a B C D within (call j es) h =
    unless-stays (first_early (early g B k) es) (first_early (early g D k) es) (through part (body_of (slice_get g.table j))) B C D (firsts-stay (early g B k) (early g D k) (early-stays g B D within k) es)
    (through-stays part grow stay (body_of (slice_get g.table j)) B C D within) h
form-stays g k part grow stay a B C D within (changing e v) h =
    let read : VariableSet = reads_primed g.table k v term.NoSteps in
    let late : VariableSet → Option FormFault = λ z. too_early (place_of a) (least g.variables (outside z read)) in
    let last : VariableSet → FormOutcome = λ z. unless (late z) (Ok z) in
    let p : (C1 : VariableSet) × (part e B ≡ Ok C1) × (last C1 ≡ Ok C) = next-ok (part e B) last C h in
    let q : (E : VariableSet) × (part e D ≡ Ok E) × IsUnion E p.0 D = stay e B p.0 D within p.1 in
    let r : (late p.0 ≡ None) × (Ok p.0 ≡ Ok C) = unless-ok (late p.0) (Ok p.0) C p.2 in
    let none : late q.0 ≡ None =
    not-early (place_of a) (least g.variables (outside p.0 read)) (least g.variables (outside q.0 read)) (none-outside g.variables p.0 q.0 read (union-within q.0 p.0 D q.2)) r.0 in (
      q.0,
      next-is (part e D) last q.0 (Ok q.0) q.1 (unless-is (late q.0) (Ok q.0) (Ok q.0) none refl),
      subst (λ (z : VariableSet). IsUnion q.0 z D) (ok-same (Ok p.0) p.0 C refl r.1) q.2,
    )

pub outcome-stays : (g : Setting) (k : ℕ) → Stay (outcome_within g k)
outcome-stays g zero a B C D within h = (D, refl, same-grown B C D within (ok-same (Ok B) B C refl h))
outcome-stays g (suc k) a B C D within h = form-stays g k (outcome_within g k) (outcome-grows g k) (outcome-stays g k) a B C D within (form g zero a) h

pub forms-stay : FormsStay
forms-stay g a B C D h within =
    let r : (E : VariableSet) × (outcome_within g h.0 a D ≡ Ok E) × IsUnion E C D = outcome-stays g h.0 a B C D within h.2 in
    (r.0, (h.0, h.1, r.1), r.2)

pub forms-alike : FormsAlike
forms-alike g a B C D same h =
    let r : (E : VariableSet) × (outcome_within g h.0 a D ≡ Ok E) × IsUnion E C D = outcome-stays g h.0 a B C D (λ x q. sym (same x) ∙ q) h.2 in
    (r.0, (h.0, h.1, r.1), λ x. r.2 x ∙ absorbed (C x) (D x) (λ q. outcome-grows g h.0 a B C h.2 x (same x ∙ q)))
