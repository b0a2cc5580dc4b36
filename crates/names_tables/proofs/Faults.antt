-- The first thing that is wrong with the names of the units.
use Rattle.std.proofs.Common.{◌≡◌, ◌∙◌, sym, ap, refl, subst, ℕ, List, [], ◌∷◌, ◌++◌, length, ◌<◌, ◌≤◌, ◌+◌, arith, take, get_or, inl, inr, length-append, ◌⊎◌}
use Rattle.std.specs.Prelude.{◌↔◌, Bool, false, IsTrue, Option, Some, None, slice_get, Contains}
use Rattle.std.specs.List.{slice_index_or}
use Rattle.std.proofs.lemmas.List.{take_more}
use Rattle.std.proofs.lemmas.Option.{slice_get_within}
use Rattle.values_core.specs.Data.{Val, truth}
use Rattle.reading_trees.specs.declared.config.Config.{Config}
use Rattle.reading_trees.specs.declared.module.Program.{Program}
use Rattle.reading_trees.specs.declared.module.Unit.{Unit as ModuleUnit}
use Rattle.reading_trees.specs.declared.module.Unit.TheVariants.{Variables, Constants, Recursive, Define, Instance, Assume, Passed}
use Rattle.names_terms.specs.Terms.{Term, Known, Meaning, meaning_of}
use Rattle.names_term_parts.specs.Slots.{Mentions, MentionsBelow, used, listed_in_let, mentioned_in_part}
use Rattle.names_term_parts.specs.Parts.{parts}
use Rattle.names_terms.specs.declared.operator.Operator.{Operator}
use Rattle.names_scopes.specs.declared.meant.Entry.{Entry}
use Rattle.names_scopes.specs.declared.meant.Meant.{Meant}
use Rattle.names_scopes.specs.declared.meant.Meant.TheVariants as meant
use Rattle.names_scopes.specs.Standing.{AreIn, IsIn}
use Rattle.names_meanings.specs.declared.fault.NameFault.{NameFault}
use Rattle.names_meanings.specs.Complaints.{Takes}
use Rattle.names_meanings.specs.Means.{no_body}
use Rattle.names_meanings.specs.Outcomes.{Grows, takes_of}
use Rattle.names_meanings.proofs.AroundLemmas.{takes_grown}
use Rattle.names_program.specs.InUnits.{definitions_in}
use Rattle.names_program.specs.Recursion.{AreLevelsOf, MeetsRecursion}
use Rattle.names_program.proofs.DeclaredLemmas.{definitions_behind}
use Rattle.base_use_order.proofs.Lists.{none_in}
use Rattle.names_tables.specs.NameFaults.{HasFineNames, IsFirstNameFault, IsNameFaultAt, definitions_before, takes_in_program}
use Rattle.names_tables.specs.UnitComplaints.{AreWrong, unit_complaint}
use Rattle.names_tables.proofs.UnitPlaces.{fault_is, is_fault, known_is}

pub below_or_at : (j k : ℕ) → j < k + 1 → (j < k) ⊎ (j ≡ k)
below_or_at j k lt = grind arith

-- a value mentions no definition
nothing_known : (e : Term) (v : Val) → meaning_of e ≡ Known v → (k : ℕ) → Mentions e k → ⊥
nothing_known _ v q _ (used at l k ts) = absurd (cc)
nothing_known _ v q _ (listed_in_let at l ks e k c) = absurd (cc)
nothing_known _ v q _ (mentioned_in_part at l m p k c w) = none_in p (subst (λ (x : Meaning). Contains (parts false x) p) q c)

pub known_below : (e : Term) (v : Val) → meaning_of e ≡ Known v → (k : ℕ) → MentionsBelow k e
known_below e v q k j w = absurd (nothing_known e v q j w)

-- the body that is to come uses nothing
pub empty_body : (k : ℕ) → MentionsBelow k no_body
empty_body k = known_below no_body (truth false) refl k

in_more : (before count : ℕ) → before ≤ count → (m : Meant) → IsIn before m → IsIn count m
in_more before count le (meant.Definition k) h = omega arith
in_more before count le (meant.Slot i) h = tt
in_more before count le (meant.Variable x) h = tt
in_more before count le (meant.Known v) h = tt
in_more before count le (meant.Set s) h = tt
in_more before count le (meant.Standard o) h = tt

-- a table that grew has what names mean
pub still_in : (a b : List Operator) (names : List Entry) → Grows a b → AreIn (length a) names → AreIn (length b) names
still_in a b names g h i d lt =
    let longer : length b ≡ length a + length g.0 = ap length g.1 ∙ length-append a g.0 in
    in_more (length a) (length b) (omega (arith, longer)) (get_or names i d).is.meant (h i d lt)

pub before_more : (us : List ModuleUnit) (k : ℕ) (u : ModuleUnit) → k < length us → u ≡ get_or us k u → definitions_before us (k + 1) ≡ definitions_before us k + length (definitions_in (u ∷ []))
before_more us k u lt e =
    ap (λ (l : List ModuleUnit). length (definitions_in l)) (take_more us k u lt ∙ ap (λ (x : ModuleUnit). take k us ++ x ∷ []) (sym e))
    ∙ ap length (definitions_behind (take k us) (u ∷ []))
    ∙ length-append (definitions_in (take k us)) (definitions_in (u ∷ []))

pub counted_more : (us : List ModuleUnit) (k : ℕ) (u : ModuleUnit) (i r : ℕ) → k < length us → u ≡ get_or us k u → i ≡ definitions_before us k → r ≡ length (definitions_in (u ∷ [])) → i + r ≡ definitions_before us (k + 1)
counted_more us k u i r lt e at one = ap (λ (n : ℕ). n + r) at ∙ ap (λ (m : ℕ). definitions_before us k + m) one ∙ sym (before_more us k u lt e)

pub one_at_most : (u : ModuleUnit) (r : ℕ) → r ≡ length (definitions_in (u ∷ [])) → r ≤ 1
one_at_most (Define d) r e = (let one : r ≡ 1 = e in omega arith)
one_at_most (Variables ds) r e = (let none : r ≡ 0 = e in omega arith)
one_at_most (Constants ds) r e = (let none : r ≡ 0 = e in omega arith)
one_at_most (Assume t) r e = (let none : r ≡ 0 = e in omega arith)
one_at_most (Recursive rs) r e = (let none : r ≡ 0 = e in omega arith)
one_at_most (Instance m) r e = (let none : r ≡ 0 = e in omega arith)
one_at_most Passed r e = (let none : r ≡ 0 = e in omega arith)

-- the definition of that index uses itself wrongly where the mark says so
pub marked : (p : Program) (c : Config) (marks : List Bool) (i : ℕ) (b : Bool) → AreWrong p c marks → b ≡ slice_index_or marks i false → IsTrue b ↔ MeetsRecursion p c i
marked p c marks i b are e = (λ t. (are i).0 (sym e ∙ t), λ l. e ∙ (are i).1 l)

-- names over a table that grew
pub takes_still : (names : List Entry) (a b : List Operator) → AreIn (length a) names → Grows a b → takes_of b names ≡ takes_of a names
takes_still names a b known g = takes_grown names [] a b (record { program = known; around = tt }) g

module _ (p : Program) (c : Config) (bs : List Bool) (h : AreLevelsOf p c bs) (names : List Entry) (ops : List Operator) (takes : takes_of ops names ≡ takes_in_program p c bs) (k : ℕ) (u : ModuleUnit) (stands : slice_get p.units k ≡ Some u) (i : ℕ) (at : i ≡ definitions_before p.units k) (b : Bool) (mark : IsTrue b ↔ MeetsRecursion p c i) where
  complaint_there : unit_complaint (definitions_in p.units) (takes_of ops names) b u ≡ unit_complaint (definitions_in p.units) (takes_in_program p c bs) b u
  complaint_there = ap (λ (g : Takes). unit_complaint (definitions_in p.units) g b u) takes

  mark_there : IsTrue b ↔ MeetsRecursion p c (definitions_before p.units k)
  mark_there = subst (λ (n : ℕ). IsTrue b ↔ MeetsRecursion p c n) at mark

  none_there : unit_complaint (definitions_in p.units) (takes_of ops names) b u ≡ None → (f : NameFault) → ¬ IsNameFaultAt p c k f
  none_there none f w =
      let both : Some u ≡ Some w.unit = sym stands ∙ w.stands in
      let same : u ≡ w.unit = cc in
      let some : unit_complaint (definitions_in p.units) w.known b w.unit ≡ Some f = is_fault p c w.known (definitions_before p.units k) w.unit f b mark_there w.wrong in
      let known : w.known ≡ takes_in_program p c bs = known_is p c bs w.known h w.are in
      let here : unit_complaint (definitions_in p.units) (takes_in_program p c bs) b u ≡ Some f = ap (λ (x : ModuleUnit). unit_complaint (definitions_in p.units) (takes_in_program p c bs) b x) same ∙ ap (λ (g : Takes). unit_complaint (definitions_in p.units) g b w.unit) (sym known) ∙ some in
      let bad : None ≡ Some f = sym none ∙ complaint_there ∙ here in
      absurd (cc)

  -- nothing is wrong with one more unit
  pub fine_on : (o : Option NameFault) → o ≡ unit_complaint (definitions_in p.units) (takes_of ops names) b u → o ≡ None → ((j : ℕ) (f : NameFault) → j < k → ¬ IsNameFaultAt p c j f) → (j : ℕ) (f : NameFault) → j < k + 1 → ¬ IsNameFaultAt p c j f
  fine_on o e n before j f lt w = elim (below_or_at j k lt) [
    | inl less ↦ before j f less w
    | inr same ↦ none_there (sym e ∙ n) f (subst (λ (x : ℕ). IsNameFaultAt p c x f) same w)
  ]

  pub first_there : (f : NameFault) (o : Option NameFault) → o ≡ unit_complaint (definitions_in p.units) (takes_of ops names) b u → o ≡ Some f → ((j : ℕ) (g : NameFault) → j < k → ¬ IsNameFaultAt p c j g) → IsFirstNameFault p c f
  first_there f o e s before = record {
    index = k;
    is = record { unit = u; stands = stands; known = takes_in_program p c bs; are = (bs, h, refl); wrong = fault_is p c (takes_in_program p c bs) (definitions_before p.units k) u f b mark_there (sym complaint_there ∙ sym e ∙ s) };
    none_before = before;
  }

pub all_fine : (p : Program) (c : Config) (n k : ℕ) → length p.units ≤ n → n ≤ k → ((j : ℕ) (f : NameFault) → j < k → ¬ IsNameFaultAt p c j f) → HasFineNames p c
all_fine p c n k le more h j f w =
    let lt : j < length p.units = slice_get_within p.units j w.unit w.stands in
    let less : j < k = omega (arith, lt, le, more) in
    h j f less w
