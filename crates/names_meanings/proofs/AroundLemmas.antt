-- What names mean stands in the table.
use Rattle.std.proofs.Common.{◌≡◌, ◌∙◌, sym, ap, refl, subst, inl, inr, List, [], ◌∷◌, ◌++◌, length, ◌<◌, ◌≤◌, arith}
use Rattle.std.proofs.lemmas.List.{length-set}
use Rattle.std.specs.Prelude.{◌⊎◌, slice_get, ℕ, zero, suc, ◌+◌, Bool, true, false, if◌then◌else◌, Option, Some, None, Result, Ok, Err, IfOk, OnOk, OnErr, Contains, option_map, set, take}
use Rattle.std.specs.Str.{bytes_eq}
use Rattle.names_terms.specs.declared.ids.DefId.{DefId}
use Rattle.names_terms.specs.declared.operator.Operator.{Operator}
use Rattle.names_terms.specs.declared.operator.Own.{Own}
use Rattle.names_terms.specs.declared.operator.Own.TheVariants.{Apart, Function}
use Rattle.names_scopes.specs.declared.scope.Local.{Local}
use Rattle.names_scopes.specs.declared.scope.Local.TheVariants.{Bound, Defined}
use Rattle.names_scopes.specs.declared.meant.Meant.{Meant}
use Rattle.names_scopes.specs.declared.meant.Meant.TheVariants as meant
use Rattle.names_scopes.specs.declared.meant.Named.{Named}
use Rattle.names_scopes.specs.declared.meant.Entry.{Entry}
use Rattle.names_scopes.specs.Standing.{IsIn, AreIn, LocalsIn, AddsSlots}
use Rattle.names_scopes.specs.Scopes.{later, named, bound_from, bound, among, meaning_in}
use Rattle.names_scopes.proofs.ScopeLemmas.{one_slot}
use Rattle.names_term_parts.specs.Parts.{parts}
use Rattle.names_term_parts.specs.Slots.{IsInOrder, Mentions, MentionsBelow, UsesSmaller, used, listed_in_let, mentioned_in_part}
use Rattle.names_term_parts.proofs.Contained.{contains_nothing}
use Rattle.names_term_parts.proofs.Ordering.{in_order_more, item_or_last, smaller_pushed}
use Rattle.names_meanings.specs.Around.{Around, IsAround}
use Rattle.names_terms.specs.Levels.{of_operator}
use Rattle.values_core.specs.Data.{Val}
use Rattle.std.proofs.lemmas.Option.{slice_get_within}
use Rattle.names_terms.specs.Terms.{Term, Meaning, Known, level_of, meaning_of}
use Rattle.names_terms.specs.declared.level.Level.TheVariants as levels
use Rattle.names_meanings.specs.declared.fault.NameFault.{NameFault}
use Rattle.names_meanings.specs.Outcomes.{above, meant_above, needed_by, taken_by, takes_in, Grows, IsSought, unless_unnamed, named_in, IsOrdered, KeepsOrder}
use Rattle.names_meanings.proofs.StandingOn.{stands_at, in_front}
use Rattle.names_meanings.proofs.Takes.{fun_ext}

abbrev meant_of : Option Named → Meant
meant_of (Some x) = x.meant
meant_of None = meant.Slot 0

pub around_slots : (names : List Entry) (a b : List Local) (table : List Operator) → AddsSlots a b → IsAround names a table → IsAround names b table
around_slots names a b table s h = record { program = h.program; around = s (length table) h.around }

pub around_bound : (names : List Entry) (sc : List Local) (table : List Operator) (m : List ℕ) → IsAround names sc table → IsAround names (sc ++ Bound m ∷ []) table
around_bound names sc table m h = record { program = h.program; around = one_slot (length table) sc m h.around }

-- a name was pushed, or not
pub pushed_bound : {A E : Type 0} (names : List Entry) (sc new : List Local) (table : List Operator) (m : List ℕ) (r : Result A E) → OnOk r (new ≡ sc ++ Bound m ∷ []) → OnErr r (new ≡ sc) → IsAround names sc table → IsAround names new table
pushed_bound names sc new table m (Ok x) k e h = subst (λ (s : List Local). IsAround names s table) (sym k) (around_bound names sc table m h)
pushed_bound names sc new table m (Err f) k e h = subst (λ (s : List Local). IsAround names s table) (sym e) h

last_bound : (n : ℕ) (b : Bool) (y x : Named) (o : Option Named) → IsIn n y.meant → (o ≡ Some x → IsIn n x.meant) → later (if b then Some y else None) o ≡ Some x → IsIn n x.meant
last_bound n b y x (Some z) k h q = h q
last_bound n true y x None k h q = subst (λ (o : Option Named). IsIn n (meant_of o)) q k
last_bound n false y x None k h q = absurd (cc)

bound_in : (n i : ℕ) (sc : List Local) (m : List ℕ) (x : Named) → LocalsIn n sc → bound_from i sc m ≡ Some x → IsIn n x.meant
bound_in n i [] m x h e = absurd (cc)
bound_in n i (Bound k ∷ sc) m x h e = last_bound n (bytes_eq k m) (named 0 (meant.Slot i)) x (bound_from (suc i) sc m) tt (bound_in n (suc i) sc m x h) e
bound_in n i (Defined k j r ∷ sc) m x h e = last_bound n (bytes_eq k m) (named r (meant.Definition j)) x (bound_from i sc m) h.0 (bound_in n i sc m x h.1) e

first_among : (n : ℕ) (b : Bool) (y x : Named) (o : Option Named) → IsIn n y.meant → (o ≡ Some x → IsIn n x.meant) → (if b then Some y else o) ≡ Some x → IsIn n x.meant
first_among n true y x o k h q = subst (λ (z : Option Named). IsIn n (meant_of z)) q k
first_among n false y x o k h q = h q

among_in : (n : ℕ) (es : List Entry) (m : List ℕ) (x : Named) → AreIn n es → among es m ≡ Some x → IsIn n x.meant
among_in n [] m x h e = absurd (cc)
among_in n (y ∷ es) m x h e =
    first_among n (bytes_eq y.name m) y.is x (among es m) (h 0 y (omega arith)) (among_in n es m x (λ k d lt. h (suc k) d (omega (arith, lt)))) e

pub meant_in : (n : ℕ) (names : List Entry) (sc : List Local) (m : List ℕ) (x : Named) → AreIn n names → LocalsIn n sc → later (among names m) (bound sc m) ≡ Some x → IsIn n x.meant
meant_in n names sc m x program around s = by_scope (bound sc m) refl s
  where
    by_scope : (o : Option Named) → bound sc m ≡ o → later (among names m) o ≡ Some x → IsIn n x.meant
    by_scope (Some y) p q = bound_in n 0 sc m x around (p ∙ q)
    by_scope None p q = among_in n names m x program q

pub sought_in : (names : List Entry) (sc : List Local) (table : List Operator) (m : List ℕ) (k : ℕ) (x : Meant) → IsAround names sc table → IsSought names sc m k x → IsIn (length table) x
sought_in names sc table m k x h s = subst (λ (z : Meant). IsIn (length table) z) s.2 (meant_in (length table) names sc m s.0 h.program h.around s.1)

-- the same of what a call answers, as the walk is seen
pub sought_within : (a : Around) (names : List Entry) (sc : List Local) (table : List Operator) (m : List ℕ) (k : ℕ) (r : Result Meant NameFault) → record { here = record { names = names; scope = sc }; table = table } ≡ a → IsAround names sc table → IfOk r (λ x. IsSought names sc m k x) → IfOk r (λ x. IsIn (length a.table) x)
sought_within a names sc table m k (Ok x) v h s = subst (λ (y : Around). IsIn (length y.table) x) v (sought_in names sc table m k x h s)
sought_within a names sc table m k (Err f) v h s = tt

-- What is known of names stays so where a table grows.

above_kept : (a b : List Operator) (m : Meant) → Grows a b → IsIn (length a) m → meant_above b m ≡ meant_above a m
above_kept a b (meant.Slot i) g k = refl
above_kept a b (meant.Variable x) g k = refl
above_kept a b (meant.Known v) g k = refl
above_kept a b (meant.Set s) g k = refl
above_kept a b (meant.Standard o) g k = refl
above_kept a b (meant.Definition d) g k =
    let here : (o : Operator) × (slice_get a d.0 ≡ Some o) = stands_at a d.0 k in
    let there : slice_get b d.0 ≡ Some here.0 = subst (λ (x : List Operator). slice_get x d.0 ≡ Some here.0) (sym g.1) (in_front a g.0 d.0 here.0 here.1) in
    ap (λ (o : Option Operator). above (of_operator o)) (there ∙ sym here.1)

pub takes_grown : (names : List Entry) (sc : List Local) (a b : List Operator) → IsAround names sc a → Grows a b → takes_in b names sc ≡ takes_in a names sc
takes_grown names sc a b h g = fun_ext (λ m. by_meaning m (meaning_in names sc m) refl)
  where
    by_meaning : (m : List ℕ) (o : Option Named) → meaning_in names sc m ≡ o → takes_in b names sc m ≡ takes_in a names sc m
    by_meaning m None q = ap (λ (o : Option Named). option_map (taken_by b) o) q ∙ sym (ap (λ (o : Option Named). option_map (taken_by a) o) q)
    by_meaning m (Some w) q =
        ap (λ (o : Option Named). option_map (taken_by b) o) q
        ∙ ap (λ (r : Bool). Some (record { needed = needed_by w; is_above = r })) (above_kept a b w.meant g (meant_in (length a) names sc m w h.program h.around q))
        ∙ sym (ap (λ (o : Option Named). option_map (taken_by a) o) q)

-- One more definition.

pub more_locals : (a b : ℕ) (sc : List Local) → a ≤ b → LocalsIn a sc → LocalsIn b sc
more_locals a b [] le h = tt
more_locals a b (Bound m ∷ sc) le h = more_locals a b sc le h
more_locals a b (Defined m k p ∷ sc) le h = (omega (arith, le, h.0), more_locals a b sc le h.1)

pub in_more : (a b : ℕ) (m : Meant) → a ≤ b → IsIn a m → IsIn b m
in_more a b (meant.Slot i) le h = tt
in_more a b (meant.Variable x) le h = tt
in_more a b (meant.Known v) le h = tt
in_more a b (meant.Set s) le h = tt
in_more a b (meant.Standard o) le h = tt
in_more a b (meant.Definition k) le h = omega (arith, le, h)

longer : (table : List Operator) (o : Operator) → length (table ++ o ∷ []) ≡ length table + 1
longer [] o = refl
longer (x ∷ table) o = let r : length (table ++ o ∷ []) ≡ length table + 1 = longer table o in omega (arith, r)

unless_same : (n : List ℕ) (o : Operator) (os ps : List Operator) → os ≡ ps → unless_unnamed n o os ≡ unless_unnamed n o ps
unless_same n o os ps e = ap (unless_unnamed n o) e

pub named_pushed : (table : List Operator) (o : Operator) → o.name ≡ [] → named_in (table ++ o ∷ []) ≡ named_in table
named_pushed [] o n = ap (λ (m : List ℕ). unless_unnamed m o []) n
named_pushed (x ∷ table) o n = unless_same x.name x (named_in (table ++ o ∷ [])) (named_in table) (named_pushed table o n)

-- one definition without a name in place of another
pub named_between : (a : List Operator) (o : Operator) (more : List Operator) (r : Operator) → o.name ≡ [] → r.name ≡ [] → named_in (a ++ o ∷ more) ≡ named_in (a ++ r ∷ more)
named_between [] o more r p q = ap (λ (m : List ℕ). unless_unnamed m o (named_in more)) p ∙ sym (ap (λ (m : List ℕ). unless_unnamed m r (named_in more)) q)
named_between (x ∷ a) o more r p q = unless_same x.name x (named_in (a ++ o ∷ more)) (named_in (a ++ r ∷ more)) (named_between a o more r p q)

-- An order.

pub ordered_by : (table : List Operator) → UsesSmaller table → IsOrdered table
unfolding IsOrdered
ordered_by table h = h

pub smaller_by : (table : List Operator) → IsOrdered table → UsesSmaller table
unfolding IsOrdered
smaller_by table h = h

-- one more definition, which uses those before it alone
pub order_kept : (a : Around) (names : List Entry) (sc : List Local) (table new : List Operator) (o : Operator) → record { here = record { names = names; scope = sc }; table = table } ≡ a → new ≡ table ++ o ∷ [] → o.own ≡ Apart → MentionsBelow (length table) o.body → KeepsOrder a.table new
order_kept a names sc table new o v p apart below h =
    let before : IsOrdered table = subst (λ (x : Around). IsOrdered x.table) (sym v) h in
    subst (λ (x : List Operator). IsOrdered x) (sym p) (ordered_by (table ++ o ∷ []) (smaller_pushed table o (smaller_by table before) apart below))

pub around_more : (names : List Entry) (sc : List Local) (table : List Operator) (o : Operator) → IsAround names sc table → IsAround names sc (table ++ o ∷ [])
around_more names sc table o h =
    let le : length table ≤ length (table ++ o ∷ []) = omega (arith, longer table o) in
    record {
      program = λ k d lt. in_more (length table) (length (table ++ o ∷ [])) _ le (h.program k d lt);
      around = more_locals (length table) (length (table ++ o ∷ [])) sc le h.around;
    }

pub defined_in : (n : ℕ) (sc : List Local) (m : List ℕ) (k : DefId) (p : ℕ) → k.0 < n → LocalsIn n sc → LocalsIn n (sc ++ Defined m k p ∷ [])
defined_in n [] m k p lt h = (lt, tt)
defined_in n (Bound j ∷ sc) m k p lt h = defined_in n sc m k p lt h
defined_in n (Defined j i q ∷ sc) m k p lt h = (h.0, defined_in n sc m k p lt h.1)

pub around_defined : (names : List Entry) (sc : List Local) (table : List Operator) (o : Operator) (m : List ℕ) (k : DefId) (p : ℕ) → k.0 ≡ length table → IsAround names sc table → IsAround names (sc ++ Defined m k p ∷ []) (table ++ o ∷ [])
around_defined names sc table o m k p e h =
    let r : IsAround names sc (table ++ o ∷ []) = around_more names sc table o h in
    record { program = r.program; around = defined_in (length (table ++ o ∷ [])) sc m k p (omega (arith, e, longer table o)) r.around }

-- A place that is kept, and the body that comes into it.

-- a row that is set behind others
pub set_behind : (a : List Operator) (o r : Operator) (more : List Operator) → set (a ++ o ∷ more) (length a) r ≡ a ++ r ∷ more
set_behind [] o r more = refl
set_behind (x ∷ a) o r more = ap (λ (l : List Operator). x ∷ l) (set_behind a o r more)

one_later : {j k : ℕ} {P Q : Type 0} → ((j ≡ k) × P) ⊎ Q → ((suc j ≡ suc k) × P) ⊎ Q
one_later (inl h) = inl (ap suc h.0, h.1)
one_later (inr f) = inr f

-- a row of a table where one was set
row_of_set : (xs : List Operator) (k j : ℕ) (r q : Operator) → slice_get (set xs k r) j ≡ Some q → ((j ≡ k) × (r ≡ q)) ⊎ (slice_get xs j ≡ Some q)
row_of_set [] k j r q e = inr e
row_of_set (x ∷ xs) zero zero r q e = let same : r ≡ q = cc in inl (refl, same)
row_of_set (x ∷ xs) zero (suc j) r q e = inr e
row_of_set (x ∷ xs) (suc k) zero r q e = inr e
row_of_set (x ∷ xs) (suc k) (suc j) r q e = one_later (row_of_set xs k j r q e)

pub around_set : (names : List Entry) (sc : List Local) (table : List Operator) (k : ℕ) (o : Operator) → IsAround names sc table → IsAround names sc (set table k o)
around_set names sc table k o h =
    let le : length table ≤ length (set table k o) = omega (arith, length-set table k o) in
    record {
      program = λ j d lt. in_more (length table) (length (set table k o)) _ le (h.program j d lt);
      around = more_locals (length table) (length (set table k o)) sc le h.around;
    }

-- a value mentions no definition
nothing_known : (e : Term) (v : Val) → meaning_of e ≡ Known v → (k : ℕ) → Mentions e k → ⊥
nothing_known _ v q _ (used at l k ts) = absurd (cc)
nothing_known _ v q _ (listed_in_let at l ks e k c) = absurd (cc)
nothing_known _ v q _ (mentioned_in_part at l m p k c w) = contains_nothing p (subst (λ (x : Meaning). Contains (parts false x) p) q c)

pub known_below : (e : Term) (v : Val) → meaning_of e ≡ Known v → (k : ℕ) → MentionsBelow k e
known_below e v q k j w = absurd (nothing_known e v q j w)

-- the row that waits is one of the table, as the code has it
pub row_within : (a : Around) (names : List Entry) (sc : List Local) (table : List Operator) (k : ℕ) (o : Operator) → record { here = record { names = names; scope = sc }; table = table } ≡ a → slice_get a.table k ≡ Some o → k < length table
row_within a names sc table k o v e = slice_get_within table k o (subst (λ (x : Around). slice_get x.table k ≡ Some o) (sym v) e)

pub settled_table : (a : Around) (names : List Entry) (sc : List Local) (table new : List Operator) (k : ℕ) (o : Operator) (body : Term) → record { here = record { names = names; scope = sc }; table = table } ≡ a → slice_get a.table k ≡ Some o → (slice_get table k ≡ Some o → new ≡ set table k (record o { body = body })) → new ≡ set table k (record o { body = body })
settled_table a names sc table new k o body v e f = f (subst (λ (x : Around). slice_get x.table k ≡ Some o) (sym v) e)

pub around_settled : (names : List Entry) (sc : List Local) (table : List Operator) (o : Operator) (m : List ℕ) (k : DefId) (p : ℕ) → k.0 < length table → IsAround names sc table → IsAround names (sc ++ Defined m k p ∷ []) (set table k.0 o)
around_settled names sc table o m k p lt h =
    let r : IsAround names sc (set table k.0 o) = around_set names sc table k.0 o h in
    record { program = r.program; around = defined_in (length (set table k.0 o)) sc m k p (omega (arith, lt, length-set table k.0 o)) r.around }

-- as the walk was before
pub settled_row : (a : Around) (names : List Entry) (sc : List Local) (table new : List Operator) (k : ℕ) (o : Operator) (body : Term) → record { here = record { names = names; scope = sc }; table = table } ≡ a → slice_get a.table k ≡ Some o → (slice_get table k ≡ Some o → new ≡ set table k (record o { body = body })) → new ≡ set a.table k (record o { body = body })
settled_row a names sc table new k o body v e f = settled_table a names sc table new k o body v e f ∙ ap (λ (x : Around). set x.table k (record o { body = body })) v

-- the walk behind the body that came into its place: its name is bound, or there was no memory for that
pub settled_kept : (a : Around) (names : List Entry) (sc new_sc : List Local) (table new : List Operator) (k : ℕ) (o : Operator) (body : Term) → record { here = record { names = names; scope = sc }; table = table } ≡ a → slice_get a.table k ≡ Some o → (slice_get table k ≡ Some o → new ≡ set table k (record o { body = body })) → new_sc ≡ sc → IsAround names sc table → IsAround names new_sc new
settled_kept a names sc new_sc table new k o body v e f q h =
    subst (λ (s : List Local). IsAround names s new) (sym q) (subst (λ (t : List Operator). IsAround names sc t) (sym (settled_table a names sc table new k o body v e f)) (around_set names sc table k (record o { body = body }) h))

pub settled_named : (a : Around) (names : List Entry) (sc new_sc : List Local) (table new : List Operator) (m : List ℕ) (d : DefId) (p : ℕ) (o : Operator) (body : Term) → record { here = record { names = names; scope = sc }; table = table } ≡ a → slice_get a.table d.0 ≡ Some o → (slice_get table d.0 ≡ Some o → new ≡ set table d.0 (record o { body = body })) → new_sc ≡ sc ++ Defined m d p ∷ [] → IsAround names sc table → IsAround names new_sc new
settled_named a names sc new_sc table new m d p o body v e f q h =
    subst (λ (s : List Local). IsAround names s new) (sym q) (subst (λ (t : List Operator). IsAround names (sc ++ Defined m d p ∷ []) t) (sym (settled_table a names sc table new d.0 o body v e f)) (around_settled names sc table (record o { body = body }) m d p (row_within a names sc table d.0 o v e) h))

-- a place is kept for a definition that uses itself
pub smaller_reserved : (table : List Operator) (o : Operator) → UsesSmaller table → o.own ≡ Function → level_of o.body ≡ levels.Constant → MentionsBelow (length (table ++ o ∷ [])) o.body → UsesSmaller (table ++ o ∷ [])
smaller_reserved table o smaller own constant below k p e = elim (item_or_last table o k p e) [
  | inl before ↦ in_order_more (length table) (length (table ++ o ∷ [])) k p.own p.body more (smaller k p before)
  | inr last ↦ subst (λ (q : Operator). IsInOrder (length (table ++ o ∷ [])) k q.own q.body) last.1 at_end
]
  where
    more : length table ≤ length (table ++ o ∷ [])
    more = omega (arith, longer table o)

    at_end : IsInOrder (length (table ++ o ∷ [])) k o.own o.body
    at_end = subst (λ (x : Own). IsInOrder (length (table ++ o ∷ [])) k x o.body) (sym own) (constant, below)

pub order_reserved : (a : Around) (names : List Entry) (sc : List Local) (table new : List Operator) (o : Operator) → record { here = record { names = names; scope = sc }; table = table } ≡ a → new ≡ table ++ o ∷ [] → o.own ≡ Function → level_of o.body ≡ levels.Constant → MentionsBelow (length (table ++ o ∷ [])) o.body → KeepsOrder a.table new
order_reserved a names sc table new o v p own constant below h =
    let before : IsOrdered table = subst (λ (x : Around). IsOrdered x.table) (sym v) h in
    subst (λ (x : List Operator). IsOrdered x) (sym p) (ordered_by (table ++ o ∷ []) (smaller_reserved table o (smaller_by table before) own constant below))

-- its body is constant
pub smaller_settled : (table : List Operator) (k : ℕ) (r : Operator) → UsesSmaller table → r.own ≡ Function → level_of r.body ≡ levels.Constant → MentionsBelow (length table) r.body → UsesSmaller (set table k r)
smaller_settled table k r smaller own constant below j q e = elim (row_of_set table k j r q e) [
  | inl here ↦ subst (λ (x : Operator). IsInOrder (length (set table k r)) j x.own x.body) here.1 settled
  | inr before ↦ subst (λ (n : ℕ). IsInOrder n j q.own q.body) (sym (length-set table k r)) (smaller j q before)
]
  where
    settled : IsInOrder (length (set table k r)) j r.own r.body
    settled = subst (λ (x : Own). IsInOrder (length (set table k r)) j x r.body) (sym own) (constant, subst (λ (n : ℕ). MentionsBelow n r.body) (sym (length-set table k r)) below)

pub order_settled : (a : Around) (names : List Entry) (sc : List Local) (table new : List Operator) (k : ℕ) (r : Operator) → record { here = record { names = names; scope = sc }; table = table } ≡ a → new ≡ set table k r → r.own ≡ Function → level_of r.body ≡ levels.Constant → MentionsBelow (length a.table) r.body → KeepsOrder a.table new
order_settled a names sc table new k r v p own constant below h =
    let before : IsOrdered table = subst (λ (x : Around). IsOrdered x.table) (sym v) h in
    subst (λ (x : List Operator). IsOrdered x) (sym p) (ordered_by (set table k r) (smaller_settled table k r (smaller_by table before) own constant (subst (λ (x : Around). MentionsBelow (length x.table) r.body) (sym v) below)))

locals_taken : (n k : ℕ) (sc : List Local) → LocalsIn n sc → LocalsIn n (take k sc)
locals_taken n zero sc h = tt
locals_taken n (suc k) [] h = tt
locals_taken n (suc k) (Bound m ∷ sc) h = locals_taken n k sc h
locals_taken n (suc k) (Defined m j p ∷ sc) h = (h.0, locals_taken n k sc h.1)

pub around_cut : (names : List Entry) (sc : List Local) (table : List Operator) (k : ℕ) → IsAround names sc table → IsAround names (take k sc) table
around_cut names sc table k h = record { program = h.program; around = locals_taken (length table) k sc h.around }
