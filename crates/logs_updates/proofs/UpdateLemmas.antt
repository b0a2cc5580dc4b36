-- The results of updates are one each, and what an operation on values refuses is none.
use Rattle.std.proofs.Common.{◌≡◌, ◌↔◌, inl, inr, ℕ, ◌++◌, List, [], ◌∷◌, Bool, IsTrue, Option, Some, None, Result, Ok, Err, IfOk, sym, ◌∙◌, subst, refl, arith}
use Rattle.std.specs.declared.alloc.AllocError.{AllocError}
use Rattle.values_core.specs.Data.{Val, model, truth, integer, string, set, function}
use Rattle.values_core.specs.Ascending.{none_in}
use Rattle.values_core.specs.IsValue.{IsValue}
use Rattle.values_core.specs.Functions.{HasPair, InDomain, IsFunction, sequence_of, values_in}
use Rattle.values_core.specs.FunctionLaws.{domain_by_pairs, functions_by_pairs, one_value_at_key}
use Rattle.values_core.specs.FunctionOperations.{Appends, Excepts, InMerge, MapsOne, Merges, OnFunctions, GivesFunction, GivesSequence, InExcept, IsFunctionWith}
use Rattle.values_core.specs.SetLaws.{same_members}
use Rattle.values_core.specs.SetOperations.{IsSetWith}
use Rattle.values_core.specs.declared.fault.EvalKind.{EvalKind}
use Rattle.values_core.specs.declared.fault.EvalKind.TheVariants.{TooLarge, TooDeep}
use Rattle.values_core.specs.declared.fault.OpFault.{OpFault}
use Rattle.values_core.specs.declared.fault.OpFault.TheVariants.{Refused}
use Rattle.logs_updates.specs.Changes.{Changes, Does, Finds, LeadsTo}
use Rattle.logs_updates.specs.declared.update.Op.{Op}
use Rattle.logs_updates.specs.declared.update.Op.TheVariants.{Set, Put, Drop, Add, Remove, Append}
use Rattle.logs_updates.proofs.Limits.{few_pairs, shallow_pair, no_sequence_large, inner_value}

one_function : (P : Val → Val → Type 0) (f g : Val) → IsFunctionWith P f → IsFunctionWith P g → f ≡ g
one_function P f g p q = functions_by_pairs f g p.valid q.valid p.is_function q.is_function (λ k v. (λ h. (q.same k v).1 ((p.same k v).0 h), λ h. (p.same k v).1 ((q.same k v).0 h)))

one_set : (P : Val → Type 0) (s t : Val) → IsSetWith P s → IsSetWith P t → s ≡ t
one_set P s t p q = same_members s t p.valid q.valid p.is_set q.is_set (λ v. (λ h. (q.same v).1 ((p.same v).0 h), λ h. (p.same v).1 ((q.same v).0 h)))

pub one_does : (op : Op) (v r s : Val) → Does op v r → Does op v s → r ≡ s
one_does (Set w) v r s p q = p ∙ sym q
one_does (Put k w) v r s p q = one_function (InExcept v k w) r s p.1 q.1
one_does (Drop k) v r s p q = one_function _ r s p.1 q.1
one_does (Add w) v r s p q = one_set _ r s p.1 q.1
one_does (Remove w) v r s p q = one_set _ r s p.1 q.1
one_does (Append w) v r s p q = p.1 ∙ sym q.1

pub is_function_at : (f k u : Val) → HasPair f k u → IsFunction f
is_function_at (function ps) k u h = tt
is_function_at (model s) k u h = absurd (none_in (k, u) h)
is_function_at (truth s) k u h = absurd (none_in (k, u) h)
is_function_at (integer s) k u h = absurd (none_in (k, u) h)
is_function_at (string s) k u h = absurd (none_in (k, u) h)
is_function_at (set s) k u h = absurd (none_in (k, u) h)

-- an update has at most one result
pub one_change : (op : Op) (ks : List Val) (v r s : Val) → IsValue v → Changes (Does op) ks v r → Changes (Does op) ks v s → r ≡ s
one_change op [] v r s h p q = one_does op v r s p q
one_change op (k ∷ ks) v r s h p q =
    let inner : p.0 ≡ q.0 = one_value_at_key v k p.0 q.0 h p.2 q.2 in
    let valid : IsValue q.0 = inner_value v k q.0 h (is_function_at v k q.0 q.2) q.2 in
    let changed : p.1 ≡ q.1 = one_change op ks q.0 p.1 q.1 valid (subst (λ (u : Val). Changes (Does op) ks u p.1) inner p.3) q.3 in
    one_function (InExcept v k q.1) r s (subst (λ (w : Val). IsFunctionWith (InExcept v k w) r) changed p.4) q.4

-- where what stands at the key has no result, the whole has none
pub change_none : (op : Op) (keys : List Val) (k : Val) (ks : List Val) (v u : Val) → keys ≡ k ∷ ks → IsValue v → HasPair v k u → ((w : Val) → ¬ Changes (Does op) ks u w) → (r : Val) → ¬ Changes (Does op) keys v r
change_none op keys k ks v u e h p n r c =
    let d : Changes (Does op) (k ∷ ks) v r = subst (λ (l : List Val). Changes (Does op) l v r) e c in
    n d.1 (subst (λ (x : Val). Changes (Does op) ks x d.1) (one_value_at_key v k d.0 u h d.2 p) d.3)

-- else it is the function with that result at the key, if there is one
pub change_gives : (op : Op) (keys : List Val) (k : Val) (ks : List Val) (v u w : Val) (r : Result (Option Val) AllocError) → keys ≡ k ∷ ks → IsValue v → HasPair v k u → Changes (Does op) ks u w
    → IfOk r (Finds (IsFunctionWith (InExcept v k w))) → IfOk r (Finds (Changes (Does op) keys v))
change_gives op keys k ks v u w (Err x) e h p c g = g
change_gives op keys k ks v u w (Ok (Some s)) e h p c g = subst (λ (l : List Val). Changes (Does op) l v s) (sym e) (u, w, p, c, g)
change_gives op keys k ks v u w (Ok None) e h p c g = λ s d.
    let f : Changes (Does op) (k ∷ ks) v s = subst (λ (l : List Val). Changes (Does op) l v s) e d in
    let inner : f.0 ≡ u = one_value_at_key v k f.0 u h f.2 p in
    let valid : IsValue u = inner_value v k u h (is_function_at v k u p) p in
    let same : f.1 ≡ w = one_change op ks u f.1 w valid (subst (λ (x : Val). Changes (Does op) ks x f.1) inner f.3) c in
    g s (subst (λ (x : Val). IsFunctionWith (InExcept v k x) s) same f.4)

no_function_refused : (P : Val → Val → Type 0) (kind : EvalKind) (n : ℕ) (f : Val) → GivesFunction P (Err (Refused kind n)) → IsFunctionWith P f → ⊥
no_function_refused P TooLarge n f g m = omega (arith, g.1.many, few_pairs g.1.some f m.valid m.is_function g.1.once (λ w h. (m.same w.0 w.1).1 (g.1.each w.0 w.1 h)))
no_function_refused P TooDeep n f g m = omega (arith, g.2.deep, shallow_pair f (g.2.key, g.2.value) m.valid m.is_function ((m.same g.2.key g.2.value).1 g.2.meets))
no_function_refused P kind n f g m = absurd g

-- what EXCEPT answers at a key of the domain
pub except_made : (f key new r : Val) → InDomain key f → Excepts f key new (Ok r) → IsFunctionWith (InExcept f key new) r
except_made (function ps) key new r h m = elim m [ inl g ↦ g.1 | inr g ↦ absurd (g.0 h) ]
except_made (model s) key new r h m = absurd (none_in key h)
except_made (truth s) key new r h m = absurd (none_in key h)
except_made (integer s) key new r h m = absurd (none_in key h)
except_made (string s) key new r h m = absurd (none_in key h)
except_made (set s) key new r h m = absurd (none_in key h)

pub except_refused : (f key new : Val) (kind : EvalKind) (n : ℕ) → InDomain key f → Excepts f key new (Err (Refused kind n)) → (r : Val) → ¬ IsFunctionWith (InExcept f key new) r
except_refused (function ps) key new kind n h m r w = elim m [ inl g ↦ no_function_refused (InExcept (function ps) key new) kind n r g.1 w | inr g ↦ absurd (g.0 h) ]
except_refused (model s) key new kind n h m r w = absurd (none_in key h)
except_refused (truth s) key new kind n h m r w = absurd (none_in key h)
except_refused (integer s) key new kind n h m r w = absurd (none_in key h)
except_refused (string s) key new kind n h m r w = absurd (none_in key h)
except_refused (set s) key new kind n h m r w = absurd (none_in key h)

no_sequence_refused : (vs : List Val) (kind : EvalKind) (n : ℕ) → GivesSequence vs (Err (Refused kind n)) → IsValue (sequence_of vs) → ⊥
no_sequence_refused vs TooLarge n g v = no_sequence_large vs v g.1
no_sequence_refused vs TooDeep n g v = omega (arith, g.2, v.shallow)
no_sequence_refused vs kind n g v = absurd g

pub append_refused : (s v : Val) (kind : EvalKind) (n : ℕ) → Appends s v (Err (Refused kind n)) → (r : Val) → ¬ Does (Append v) s r
append_refused s v kind n a r d = elim a [
  | inl g ↦ no_sequence_refused (values_in s ++ v ∷ []) kind n g.1 (subst (λ (w : Val). IsValue w) d.1 d.2)
  | inr g ↦ g.0 d.0
]

-- what the keys lead to, from what the first leads to
pub leads_gives : (keys : List Val) (k : Val) (ks : List Val) (v u : Val) (o : Option Val) → keys ≡ k ∷ ks → IsValue v → HasPair v k u → Finds (LeadsTo ks u) o → Finds (LeadsTo keys v) o
leads_gives keys k ks v u (Some w) e h p g = subst (λ (l : List Val). LeadsTo l v w) (sym e) (u, p, g)
leads_gives keys k ks v u None e h p g = λ w d.
    let f : LeadsTo (k ∷ ks) v w = subst (λ (l : List Val). LeadsTo l v w) e d in
    g w (subst (λ (x : Val). LeadsTo ks x w) (one_value_at_key v k f.0 u h f.1 p) f.2)

pub in_domain : (f k u : Val) → HasPair f k u → InDomain k f
in_domain f k u h = (domain_by_pairs f k).1 (u, h)

-- more pairs than these are not fewer, so a function with them is refused too
part_refused : (P Q : Val → Val → Type 0) (kind : EvalKind) (n : ℕ) (f : Val) → GivesFunction P (Err (Refused kind n)) → ((k v : Val) → P k v → Q k v) → IsFunctionWith Q f → ⊥
part_refused P Q TooLarge n f g s m = omega (arith, g.1.many, few_pairs g.1.some f m.valid m.is_function g.1.once (λ w h. (m.same w.0 w.1).1 (s w.0 w.1 (g.1.each w.0 w.1 h))))
part_refused P Q TooDeep n f g s m = omega (arith, g.2.deep, shallow_pair f (g.2.key, g.2.value) m.valid m.is_function ((m.same g.2.key g.2.value).1 (s g.2.key g.2.value g.2.meets)))
part_refused P Q kind n f g s m = absurd g

on_both : (f g : Val) (Q : Result Val OpFault → Type 0) (r : Result Val OpFault) → IsFunction f → IsFunction g → OnFunctions f g Q r → Q r
on_both (function ps) (function qs) Q r a b h = h
on_both (function ps) g Q r a b h = absurd b
on_both f g Q r a b h = absurd a

abbrev IsOne : Val → Val → Val → Val → Type 0
IsOne key new k w = (k ≡ key) × (w ≡ new)

-- over the function on one key the merge is the function with that value there
merge_is : (v key new one : Val) → IsFunctionWith (IsOne key new) one → (k w : Val) → InMerge one v k w ↔ InExcept v key new k w
merge_is v key new one m k w = (
  λ h. elim h [ inl a ↦ inl ((m.same k w).0 a) | inr a ↦ inr (λ e. a.0 (in_domain one k new ((m.same k new).1 (e, refl))), a.1) ],
  λ h. elim h [ inl a ↦ inl ((m.same k w).1 a) | inr a ↦ inr (λ d. let found = (domain_by_pairs one k).0 d in a.0 ((m.same k found.0).0 found.1).0, a.1) ],
)

pub put_made : (v key new one r : Val) → IsFunction v → IsFunctionWith (IsOne key new) one → Merges one v (Ok r) → Does (Put key new) v r
put_made v key new one r h m g =
    let both = on_both one v (GivesFunction (InMerge one v)) (Ok r) m.is_function h g in
    (h, record { valid = both.valid; is_function = both.is_function; same = λ k w. (λ a. (merge_is v key new one m k w).0 ((both.same k w).0 a), λ a. (both.same k w).1 ((merge_is v key new one m k w).1 a)) })

pub put_refused : (v key new one : Val) (kind : EvalKind) (n : ℕ) → IsFunction v → IsFunctionWith (IsOne key new) one → Merges one v (Err (Refused kind n)) → (r : Val) → ¬ Does (Put key new) v r
put_refused v key new one kind n h m g r d =
    part_refused (InMerge one v) (InExcept v key new) kind n r (on_both one v (GivesFunction (InMerge one v)) (Err (Refused kind n)) m.is_function h g) (λ k w. (merge_is v key new one m k w).0) d.1

pub single_refused : (v key new : Val) (kind : EvalKind) (n : ℕ) → MapsOne key new (Err (Refused kind n)) → (r : Val) → ¬ Does (Put key new) v r
single_refused v key new kind n g r d = part_refused (IsOne key new) (InExcept v key new) kind n r g (λ k w h. inl h) d.1

-- keys lead to one value at most
one_leads : (ks : List Val) (v u w : Val) → IsValue v → LeadsTo ks v u → LeadsTo ks v w → u ≡ w
one_leads [] v u w h p q = p ∙ sym q
one_leads (k ∷ ks) v u w h p q =
    let inner : p.0 ≡ q.0 = one_value_at_key v k p.0 q.0 h p.1 q.1 in
    let valid : IsValue q.0 = inner_value v k q.0 h (is_function_at v k q.0 q.1) q.1 in
    one_leads ks q.0 u w valid (subst (λ (x : Val). LeadsTo ks x u) inner p.2) q.2

-- where keys lead to u, they lead to w just where u is w
pub seen_is : (ks : List Val) (v u w : Val) (b : Bool) → IsValue v → LeadsTo ks v u → (IsTrue b ↔ (u ≡ w)) → IsTrue b ↔ LeadsTo ks v w
seen_is ks v u w b h l same = (λ t. subst (λ (x : Val). LeadsTo ks v x) (same.0 t) l, λ d. same.1 (one_leads ks v u w h l d))
