-- Whether one more silent step would reach more than some entries.
use Rattle.std.proofs.Common.{◌≡◌, ◌≢◌, ◌↔◌, ◌∙◌, sym, ap, subst, refl, ℕ, ◌+◌, ◌<◌, ◌≤◌, Bool, true, false, List, [], ◌++◌, append-nil, length, get_or, Some, None, Result, Ok, Err, IfOk, is_ok, IsTrue, inl, inr, arith}
use Rattle.std.specs.Prelude.{OnOk, nat_eq}
use Rattle.std.specs.List.{Any, Contains, slice_get}
use Rattle.std.specs.List.Sorted.{IsBinarySearchResult, IsSearchInRange, IsSorted}
use Rattle.std.specs.Cmp.Lexicographic.{lists_ties, lists_total}
use Rattle.std.specs.declared.alloc.AllocError.{AllocError}
use Rattle.std.specs.declared.cmp.Ordering.TheVariants.{Less, Equal, Greater}
use Rattle.std.specs.Ordering.{is_eq}
use Rattle.std.proofs.lemmas.Bool.{cases_lt, false≢true}
use Rattle.std.proofs.lemmas.Bool.Decides.{nat_tests}
use Rattle.std.proofs.lemmas.Cmp.{tied_itself}
use Rattle.std.proofs.lemmas.List.Sorted.{searchable_from_sorted}
use Rattle.std.proofs.lemmas.Option.{slice_get-get_or}
use Rattle.values_core.specs.Order.{val_cmp}
use Rattle.values_core.specs.OrderLaws.{val_total}
use Rattle.states_core.specs.Sets.{HasMoreThan, IsList}
use Rattle.states_core.specs.StateOrder.{state_cmp, state_decides}
use Rattle.states_core.specs.States.{Values}
use Rattle.states_core.specs.declared.fault.Fault.{Fault}
use Rattle.names_terms.specs.declared.ids.DefId.{DefId}
use Rattle.names_terms.specs.declared.spec.Spec.{Spec}
use Rattle.actions_meanings.specs.Reads.{in_none}
use Rattle.steps_lines_defs.specs.Logs.{Asked}
use Rattle.steps_lines_defs.specs.Steps.{FaultSilent, Silent}
use Rattle.states_layers.proofs.Grow.{at_most, at_most_more}
use Rattle.run_why.specs.Telling.{StandsBehind}
use Rattle.run_why.specs.Within.{LeadsBeyond, TellsWithin, WouldReachMore, reaches_all, reaches_more, within_text}

-- ---- states that ascend

state_ties : (s t : Values) → state_cmp s t ≡ Equal → s ≡ t
state_ties s t e = (state_decides s t).0 (lists_ties val_cmp (λ a b. refl) s t ∙ ap is_eq e)

pub contains_by_search : (ss : List Values) (s : Values) (r : Result ℕ ℕ) → IsSorted state_cmp ss → IsSearchInRange r (length ss) → IsBinarySearchResult (λ t. state_cmp t s) ss r
    → IsTrue (is_ok r) ↔ Contains ss s
contains_by_search ss s (Ok i) up b p = (λ t. (i, b, state_ties (get_or ss i s) s (p s)), λ h. refl)
contains_by_search ss s (Err i) up b p = (λ t. cc, λ h. absurd (none h))
  where
    none : Contains ss s → ⊥
    none h =
        let parts = p (searchable_from_sorted (lists_total val_total) (λ x. x) ss s up) in
        let same : state_cmp (get_or ss h.0 s) s ≡ Equal = rw h.2 (tied_itself (lists_total val_total) s) in
        elim (cases_lt h.0 i) [
          | inl l ↦ let e : state_cmp (get_or ss h.0 s) s ≡ Less = parts.0 h.0 s (omega arith) l in cc
          | inr l ↦ let e : state_cmp (get_or ss h.0 s) s ≡ Greater = parts.1 h.0 s l h.1 in cc
        ]

-- ---- the first of some that is so

abbrev pub NoneBefore : {A : Type 0} → (A → Type 0) → List A → ℕ → Type 0
NoneBefore {A} P xs i = (k : ℕ) (x : A) → k < i → slice_get xs k ≡ Some x → P x → ⊥

item_is : {A : Type 0} (xs : List A) (i : ℕ) (x : A) → i < length xs → x ≡ get_or xs i x → slice_get xs i ≡ Some x
item_is xs i x below is = slice_get-get_or xs i x below ∙ ap Some (sym is)

pub none_yet : {A : Type 0} (P : A → Type 0) (xs : List A) → NoneBefore P xs 0
none_yet P xs = λ k x below. absurd (omega arith)

pub none_more : {A : Type 0} (P : A → Type 0) (xs : List A) (i : ℕ) (x : A) → i < length xs → x ≡ get_or xs i x → NoneBefore P xs i → (P x → ⊥) → NoneBefore P xs (i + 1)
none_more P xs i x below is before not_here k y least at p = elim (cases_lt k i) [
  | inl l ↦ before k y l at p
  | inr l ↦
      let same : k ≡ i = omega arith in
      let here : slice_get xs k ≡ Some x = ap (slice_get xs) same ∙ item_is xs i x below is in
      let equal : y ≡ x = let e = sym at ∙ here in cc in
      not_here (subst P equal p)
]

pub some_here : {A : Type 0} (P : A → Type 0) (xs : List A) (i : ℕ) (x : A) → i < length xs → x ≡ get_or xs i x → P x → Any P xs
some_here P xs i x below is p = (i, x, below, sym is, p)

pub none_at_all : {A : Type 0} (P : A → Type 0) (xs : List A) (i : ℕ) → length xs ≤ i → NoneBefore P xs i → Any P xs → ⊥
none_at_all P xs i end before some = before some.0 some.1 (let l = some.2 in omega arith) (slice_get-get_or xs some.0 some.1 some.2 ∙ ap Some some.3) some.4

-- ---- one entry

module _ (g : Spec) (limit : ℕ) (entries : List Values) (s : Values) where
  abbrev Others : List Values → Type 0
  Others next = Any (λ t. ¬ Contains entries t) next

  listed_leads : (next : List Values) → IsList (Silent g s) next → ((t : Values) (f : Fault) → FaultSilent g in_none s t f → ⊥) → length next ≤ limit → Others next
      → LeadsBeyond g limit (Contains entries) s
  listed_leads next all clear few some = record {
    clear = clear;
    few = at_most_more (Silent g s) (length next) limit few (at_most (Silent g s) next all);
    to = some.1;
    silent = all.are.members some.1 (some.0, some.2, some.3);
    beyond = some.4;
  }

  leads_listed : (next : List Values) → IsList (Silent g s) next → LeadsBeyond g limit (Contains entries) s → (length next ≤ limit) × Others next
  leads_listed next all leads =
      let has = all.all leads.to leads.silent in
      (leads.few next all.are, (has.0, leads.to, has.1, has.2, leads.beyond))

  -- all silent steps are listed
  pub listed : (next : List Values) (b : Bool) → IsList (Silent g s) next → ((t : Values) (f : Fault) → FaultSilent g in_none s t f → Unit {0} → ⊥)
      → IsTrue b ↔ ((length next ≤ limit) × Others next) → IsTrue b ↔ LeadsBeyond g limit (Contains entries) s
  listed next b all clear is = (λ h. let both = is.0 h in listed_leads next all (λ t f bad. clear t f bad tt) both.0 both.1, λ leads. is.1 (leads_listed next all leads))

  -- one faults, or there are too many
  pub faulty : ((t : Values) × (f : Fault) × FaultSilent g in_none s t f) → IsTrue false ↔ LeadsBeyond g limit (Contains entries) s
  faulty bad = (λ h. absurd (false≢true h), λ leads. absurd (leads.clear bad.0 bad.1 bad.2))

  pub many : HasMoreThan (Silent g s) limit → IsTrue false ↔ LeadsBeyond g limit (Contains entries) s
  many more = (λ h. absurd (false≢true h), λ leads. let few = leads.few more.0 more.1 in let l = more.2 in absurd (omega arith))

-- ---- all entries

module _ (g : Spec) (a : Asked) (entries : List Values) where
  pub not_fewer : a.within ≡ 8 → IsTrue false ↔ WouldReachMore g a (Contains entries)
  not_fewer e = (λ h. absurd (false≢true h), λ more. let l = more.fewer in absurd (omega arith))

  pub not_named : g.silent ≡ None → IsTrue false ↔ WouldReachMore g a (Contains entries)
  not_named e = (λ h. absurd (false≢true h), λ more. absurd (more.named e))

  any_reaches : g.silent ≢ None → a.within < 8 → Any (LeadsBeyond g a.limit (Contains entries)) entries → WouldReachMore g a (Contains entries)
  any_reaches named fewer some = record { named = named; fewer = fewer; from = some.1; reached = (some.0, some.2, some.3); leads = some.4 }

  reaches_any : WouldReachMore g a (Contains entries) → Any (LeadsBeyond g a.limit (Contains entries)) entries
  reaches_any more = (more.reached.0, more.from, more.reached.1, more.reached.2, more.leads)

  -- of a call that may find no memory
  pub by_any : (d : DefId) (r : Result Bool AllocError) → g.silent ≡ Some d → a.within < 8 → IfOk r (λ b. IsTrue b ↔ Any (LeadsBeyond g a.limit (Contains entries)) entries)
      → IfOk r (λ b. IsTrue b ↔ WouldReachMore g a (Contains entries))
  by_any d (Ok b) is fewer h = let named : g.silent ≢ None = λ e. let both = sym is ∙ e in cc in (λ t. any_reaches named fewer (h.0 t), λ more. h.1 (reaches_any more))
  by_any d (Err e) is fewer h = tt

leads_same : (g : Spec) (limit : ℕ) (P Q : Values → Type 0) (s : Values) → ((t : Values) → Q t → P t) → LeadsBeyond g limit P s → LeadsBeyond g limit Q s
leads_same g limit P Q s back leads = record { clear = leads.clear; few = leads.few; to = leads.to; silent = leads.silent; beyond = λ q. leads.beyond (back leads.to q) }

would_same : (g : Spec) (a : Asked) (P Q : Values → Type 0) → ((s : Values) → P s → Q s) → ((s : Values) → Q s → P s) → WouldReachMore g a P → WouldReachMore g a Q
would_same g a P Q there back more = record {
  named = more.named;
  fewer = more.fewer;
  from = more.from;
  reached = there more.from more.reached;
  leads = leads_same g a.limit P Q more.from back more.leads;
}

-- of a call that may find no memory
pub stands_on : {E : Type 0} (g : Spec) (a : Asked) (entries : List Values) (b : Bool) (r : Result (Unit {0}) E) (old new : List ℕ) → b ≡ true
    → IsTrue b ↔ WouldReachMore g a (Contains entries) → OnOk r (new ≡ old ++ within_text a.within) → OnOk r (StandsBehind (TellsWithin g a (Contains entries)) old new)
stands_on g a entries b (Ok u) old new at more is = (within_text a.within, reaches_more (more.0 at), is)
stands_on g a entries b (Err e) old new at more is = tt

pub stands_not : (g : Spec) (a : Asked) (entries : List Values) (b : Bool) (old : List ℕ) → b ≡ false → IsTrue b ↔ WouldReachMore g a (Contains entries)
    → StandsBehind (TellsWithin g a (Contains entries)) old old
stands_not g a entries b old at more = ([], reaches_all (λ would. false≢true (sym at ∙ more.1 would)), sym (append-nil old))

pub below_8 : (n : ℕ) → n ≤ 8 → nat_eq n 8 ≡ false → n < 8
below_8 n few not_8 = grind (arith, nat_tests, not_8, few)

-- the same where what is reached is told in other words
pub within_same : (g : Spec) (a : Asked) (P Q : Values → Type 0) (text : List ℕ) → ((s : Values) → P s → Q s) → ((s : Values) → Q s → P s) → TellsWithin g a P text → TellsWithin g a Q text
within_same g a P Q _ there back (reaches_more more) = reaches_more (would_same g a P Q there back more)
within_same g a P Q _ there back (reaches_all none) = reaches_all (λ more. none (would_same g a Q P back there more))
