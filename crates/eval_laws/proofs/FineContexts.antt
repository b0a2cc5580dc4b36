-- Contexts that hold values, and what the parts of a term know where the term knows values alone.
use Rattle.std.proofs.Common.{◌≡◌, inl, inr, refl, subst, arith, ℕ, zero, suc, min, ◌≤◌, List, [], ◌∷◌, ◌++◌, map, take, drop, take-append-drop}
use Rattle.std.specs.Prelude.{Option, Some, None, Contains, slice_get}
use Rattle.std.specs.List.{AllByRecursion}
use Rattle.std.proofs.lemmas.List.Elements.{Contains-append_left, Contains-append_cases}
use Rattle.values_core.specs.Data.{Val, Vals, no_vals, more_vals, set, members, vals_depth}
use Rattle.values_core.specs.IsValue.{IsValue, AreCanonical}
use Rattle.values_core.specs.Ascending.{cons_cases, none_in}
use Rattle.names_terms.specs.declared.level.Level.TheVariants as levels
use Rattle.names_terms.specs.declared.operator.Operator.{Operator}
use Rattle.names_terms.specs.Lists.{terms_list, steps_list, bounds_list, fields_list, changes_list, arms_list}
use Rattle.names_terms.specs.Terms as term
use Rattle.names_terms.specs.Terms.{Term, Terms, Operands, Step, Steps, Bounds, Fields, Changes, Arms, Placed}
use Rattle.eval_meanings.specs.Contexts.{Context, Table, bind, within, primed, enter}
use Rattle.eval_meanings.specs.Sets.{first_operand, other_operands}
use Rattle.eval_meanings.specs.Binders.{with_each, combinations, times, ranges}
use Rattle.eval_meanings.specs.Unchanged.{behind}
use Rattle.eval_meanings.specs.Everywhere.{InTerms, InOperands, InStep, InSteps, InBounds, InFields, InChanges, InArms}
use Rattle.eval_meanings.specs.Laws.{AreValues, HoldValues, KnowsValue, KnowsValues}

pub record HoldsValues (c : Context) : Type 0 where
  pub slots : AreValues c.slots
  pub now : HoldValues c.now
  pub next : HoldValues c.next

-- lists

pub all_in : {X : Type 0} (P : X → Type 0) (xs : List X) → AllByRecursion P xs → (x : X) → Contains xs x → P x
all_in P [] a x h = absurd (none_in x h)
all_in P (y ∷ ys) a x h = elim (cons_cases y ys x h) [
  | inl e ↦ subst P e a.0
  | inr g ↦ all_in P ys a.1 x g
]

pub all_append : {X : Type 0} (P : X → Type 0) (xs ys : List X) → AllByRecursion P xs → AllByRecursion P ys → AllByRecursion P (xs ++ ys)
all_append P [] ys a b = b
all_append P (x ∷ xs) ys a b = (a.0, all_append P xs ys a.1 b)

pub all_map : {X Y : Type 0} (P : Y → Type 0) (f : X → Y) (xs : List X) → AllByRecursion (λ x. P (f x)) xs → AllByRecursion P (map f xs)
all_map P f [] a = tt
all_map P f (x ∷ xs) a = (a.0, all_map P f xs a.1)

-- contexts

values_append : (us vs : List Val) → AreValues us → AllByRecursion IsValue vs → AreValues (us ++ vs)
values_append us vs a b v h = elim (Contains-append_cases us vs v h) [
  | inl g ↦ a v g
  | inr g ↦ all_in IsValue vs b v g
]

values_take : (n : ℕ) (us : List Val) → AreValues us → AreValues (take n us)
values_take n us a v h = a v (subst (λ (xs : List Val). Contains xs v) (take-append-drop n us) (Contains-append_left (take n us) (drop n us) v h))

pub bind_holds : (c : Context) (vs : List Val) → HoldsValues c → AllByRecursion IsValue vs → HoldsValues (bind c vs)
bind_holds c vs h a = record { slots = values_append c.slots vs h.slots a; now = h.now; next = h.next }

pub within_holds : (c : Context) (n : ℕ) → HoldsValues c → HoldsValues (within n c)
within_holds c n h = record { slots = values_take n c.slots h.slots; now = h.now; next = h.next }

pub primed_holds : (c : Context) → HoldsValues c → HoldsValues (primed c)
primed_holds c h = record { slots = h.slots; now = h.next; next = h.next }

pub enter_holds : (c : Context) (o : Operator) (vs : List Val) → HoldsValues c → AllByRecursion IsValue vs → HoldsValues (enter o vs c)
enter_holds c o vs h a = record { slots = values_append (take o.outer c.slots) vs (values_take o.outer c.slots h.slots) a; now = h.now; next = h.next }

-- values of bound names

members_each : (vs : Vals) → AreCanonical vs → vals_depth vs ≤ 32 → AllByRecursion IsValue (members vs)
members_each no_vals c d = tt
members_each (more_vals v vs) c d = (record { canonical = c.0; shallow = omega arith }, members_each vs c.1 (omega arith))

pub members_are : (vs : Vals) → IsValue (set vs) → AllByRecursion IsValue (members vs)
members_are vs p = members_each vs p.canonical.1 (omega (arith, p.shallow))

abbrev pub AreAllValues : List Val → Type 0
AreAllValues = AllByRecursion IsValue

chosen_first : (v : Val) (rest : List (List Val)) → IsValue v → AllByRecursion AreAllValues rest → AllByRecursion AreAllValues (map (λ chosen. v ∷ chosen) rest)
chosen_first v [] p a = tt
chosen_first v (vs ∷ rest) p a = ((p, a.0), chosen_first v rest p a.1)

with_each_are : (vs : List Val) (rest : List (List Val)) → AreAllValues vs → AllByRecursion AreAllValues rest → AllByRecursion AreAllValues (with_each vs rest)
with_each_are [] rest p a = tt
with_each_are (v ∷ vs) rest p a = all_append AreAllValues (map (λ chosen. v ∷ chosen) rest) (with_each vs rest) (chosen_first v rest p.0 a) (with_each_are vs rest p.1 a)

pub combinations_are : (xs : List (List Val)) → AllByRecursion AreAllValues xs → AllByRecursion AreAllValues (combinations xs)
combinations_are [] a = (tt, tt)
combinations_are (vs ∷ rest) a = with_each_are vs (combinations rest) a.0 (combinations_are rest a.1)

times_are : (n : ℕ) (vs : List Val) → AreAllValues vs → AllByRecursion AreAllValues (times n vs)
times_are zero vs a = tt
times_are (suc n) vs a = (a, times_are n vs a)

pub ranges_are : (bs : List (ℕ × List Val)) → AllByRecursion (λ b. AreAllValues b.1) bs → AllByRecursion AreAllValues (ranges bs)
ranges_are [] a = tt
ranges_are (b ∷ bs) a = all_append AreAllValues (times b.0 b.1) (ranges bs) (times_are b.0 b.1 a.0) (ranges_are bs a.1)

-- the parts of a term

pub know_terms : (ts : Terms) → InTerms KnowsValue ts → AllByRecursion KnowsValues (terms_list ts)
know_terms term.NoTerms k = tt
know_terms (term.MoreTerms ts e) k = all_append KnowsValues (terms_list ts) (e ∷ []) (know_terms ts k.0) (k.1, tt)

pub know_bounds : (bs : Bounds) → InBounds KnowsValue bs → AllByRecursion (λ b. KnowsValues b.1) (bounds_list bs)
know_bounds term.NoBounds k = tt
know_bounds (term.MoreBounds bs n e) k = all_append (λ b. KnowsValues b.1) (bounds_list bs) ((n, e) ∷ []) (know_bounds bs k.0) (k.1, tt)

pub know_fields : (fs : Fields) → InFields KnowsValue fs → AllByRecursion (λ f. KnowsValues f.1) (fields_list fs)
know_fields term.NoFields k = tt
know_fields (term.MoreFields fs n e) k = all_append (λ f. KnowsValues f.1) (fields_list fs) ((n, e) ∷ []) (know_fields fs k.0) (k.1, tt)

abbrev pub KnowsChange : Steps × Term → Type 0
KnowsChange change = InSteps KnowsValue change.0 × KnowsValues change.1

pub know_changes : (cs : Changes) → InChanges KnowsValue cs → AllByRecursion KnowsChange (changes_list cs)
know_changes term.NoChanges k = tt
know_changes (term.MoreChanges cs path e) k = all_append KnowsChange (changes_list cs) ((path, e) ∷ []) (know_changes cs k.0) ((k.1, k.2), tt)

abbrev pub KnowsArm : Term × Term → Type 0
KnowsArm arm = KnowsValues arm.0 × KnowsValues arm.1

pub know_arms : (arms : Arms) → InArms KnowsValue arms → AllByRecursion KnowsArm (arms_list arms)
know_arms term.NoArms k = tt
know_arms (term.MoreArms arms p e) k = all_append KnowsArm (arms_list arms) ((p, e) ∷ []) (know_arms arms k.0) ((k.1, k.2), tt)

know_steps : (ss : Steps) → InSteps KnowsValue ss → AllByRecursion (λ s. InStep KnowsValue s.1) (steps_list ss)
know_steps term.NoSteps k = tt
know_steps (term.MoreSteps ss at s) k = all_append (λ s. InStep KnowsValue s.1) (steps_list ss) ((at, s) ∷ []) (know_steps ss k.0) (k.1, tt)

pub know_path : (ss : Steps) → InSteps KnowsValue ss → AllByRecursion (InStep KnowsValue) (map (λ s. s.1) (steps_list ss))
know_path ss k = all_map (InStep KnowsValue) (λ s. s.1) (steps_list ss) (know_steps ss k)

pub know_first : (os : Operands) → InOperands KnowsValue os → KnowsValues (first_operand os)
know_first (term.First e) k = k
know_first (term.Next os p e) k = know_first os k.0

pub know_others : (os : Operands) → InOperands KnowsValue os → AllByRecursion (λ e. KnowsValues e.1) (other_operands os)
know_others (term.First e) k = tt
know_others (term.Next os p e) k = all_append (λ e. KnowsValues e.1) (other_operands os) ((p, e) ∷ []) (know_others os k.0) (k.1, tt)

-- what stands behind a name
abbrev pub BodiesKnow : Table → Type 0
BodiesKnow ops = (k : ℕ) (o : Operator) → slice_get ops k ≡ Some o → KnowsValues o.body

pub know_behind : (ops : Table) → BodiesKnow ops → (n m : ℕ) (e : Term) → KnowsValues e → KnowsValues (behind ops n m e).1
know_behind ops b zero m e k = k
know_behind ops b (suc n) m (Placed at levels.State (term.Use i term.NoTerms)) k = by_use (slice_get ops i) (λ o e. know_behind ops b n (min o.outer m) o.body (b i o e))
  where
    by_use : (found : Option Operator) → ((o : Operator) → found ≡ Some o → KnowsValues (behind ops n (min o.outer m) o.body).1)
        → KnowsValues (elim found as (λ x. ℕ × Term) [ None ↦ (m, Placed at levels.State (term.Use i term.NoTerms)) | Some o ↦ behind ops n (min o.outer m) o.body ]).1
    by_use None f = k
    by_use (Some o) f = f o refl
know_behind ops b (suc n) m e k = k
