-- What holds of all units, and of each definition beside each later one, holds of those that are left.
use Rattle.std.proofs.Common.{◌≡◌, ◌≢◌, inl, inr, ℕ, suc, ◌+◌, ◌<◌, List, [], ◌∷◌, length, sym, subst, arith}
use Rattle.std.specs.Prelude.{All, AllPairs}
use Rattle.std.proofs.lemmas.List.Elements.{All-cons, All-head, All-tail}
use Rattle.std.proofs.lemmas.List.Kept.{AllPairs-cons}
use Rattle.reading_trees.specs.declared.config.Config.{Config}
use Rattle.reading_trees.specs.declared.module.Program.{Program}
use Rattle.reading_trees.specs.declared.module.Declared.{Declared}
use Rattle.reading_trees.specs.declared.module.Unit.{Unit as ModuleUnit}
use Rattle.reading_trees.specs.declared.module.Unit.TheVariants.{Variables, Constants, Recursive, Define, Instance, Assume, Passed}
use Rattle.names_program.specs.InUnits.{definitions_in, variables_in}
use Rattle.names_program.specs.Names.{names_declared, names_defined}
use Rattle.names_specification_laws.specs.Formed.{UnitsAreFormed}
use Rattle.names_resolved_laws.specs.InOrder.{IsWellFormed}
use Rattle.names_pruning.specs.Laws.{DeclaredStays}
use Rattle.names_pruning.specs.Pruning.{GoesWith, IsBad, IsOther, Parted, Without, all_parted, behind, is_gone, is_left}
use Rattle.names_resolved_laws.specs.Pruning.{LeftIsWellFormed}

-- ---- lists of which some items go

-- some of the names, in their order
data IsPart : List (List ℕ) → List (List ℕ) → Type 0 where
  none_left : IsPart [] []
  also : (n : List ℕ) (ns ms : List (List ℕ)) → IsPart ns ms → IsPart (n ∷ ns) (n ∷ ms)
  but : (n : List ℕ) (ns ms : List (List ℕ)) → IsPart ns ms → IsPart ns (n ∷ ms)

abbrev Differ : List (List ℕ) → Type 0
Differ = AllPairs (λ a b. a ≢ b)

all_part : (P : List ℕ → Type 0) (ns ms : List (List ℕ)) → IsPart ns ms → All P ms → All P ns
all_part P _ _ none_left h = h
all_part P _ _ (also n ns ms p) h = All-cons P n ns (All-head P n ms h) (all_part P ns ms p (All-tail P n ms h))
all_part P _ _ (but n ns ms p) h = all_part P ns ms p (All-tail P n ms h)

-- a list that differs, from its second item on, and its first beside the others
rest_differ : (n : List ℕ) (ms : List (List ℕ)) → Differ (n ∷ ms) → Differ ms
rest_differ n ms h i j d l k =
    let less : suc i < suc j = omega (arith, l) in
    let inside : suc j < length (n ∷ ms) = omega (arith, k) in
    h (suc i) (suc j) d less inside

first_differs : (n : List ℕ) (ms : List (List ℕ)) → Differ (n ∷ ms) → All (λ m. n ≢ m) ms
first_differs n ms h k d l =
    let less : 0 < suc k = omega arith in
    let inside : suc k < length (n ∷ ms) = omega (arith, l) in
    h 0 (suc k) d less inside

differ_part : (ns ms : List (List ℕ)) → IsPart ns ms → Differ ms → Differ ns
differ_part _ _ none_left h = h
differ_part _ _ (also n ns ms p) h =
    AllPairs-cons (λ a b. a ≢ b) n ns (all_part (λ m. n ≢ m) ns ms p (first_differs n ms h)) (differ_part ns ms p (rest_differ n ms h))
differ_part _ _ (but n ns ms p) h = differ_part ns ms p (rest_differ n ms h)

-- ---- units of which some go

module _ (Goes : ℕ → ModuleUnit → Type 0) where
  formed_left : (k : ℕ) (units left gone : List ModuleUnit) → Parted Goes k units left gone → UnitsAreFormed units → UnitsAreFormed left
  formed_left _ _ _ _ (all_parted k) h = h
  formed_left _ _ _ _ (is_left k u units left gone g l) h = (h.0, formed_left (behind k u) units left gone l h.1)
  formed_left _ _ _ _ (is_gone k u units left gone g l) h = formed_left (behind k u) units left gone l h.1

  names_left : (k : ℕ) (units left gone : List ModuleUnit) → Parted Goes k units left gone → IsPart (names_defined (definitions_in left)) (names_defined (definitions_in units))
  names_left _ _ _ _ (all_parted k) = none_left
  names_left _ _ _ _ (is_left k (Variables ds) units left gone g l) = names_left k units left gone l
  names_left _ _ _ _ (is_left k (Constants ds) units left gone g l) = names_left k units left gone l
  names_left _ _ _ _ (is_left k (Define d) units left gone g l) = also d.name _ _ (names_left (k + 1) units left gone l)
  names_left _ _ _ _ (is_left k (Assume e) units left gone g l) = names_left k units left gone l
  names_left _ _ _ _ (is_left k (Recursive rs) units left gone g l) = names_left k units left gone l
  names_left _ _ _ _ (is_left k (Instance m) units left gone g l) = names_left k units left gone l
  names_left _ _ _ _ (is_left k Passed units left gone g l) = names_left k units left gone l
  names_left _ _ _ _ (is_gone k (Variables ds) units left gone g l) = names_left k units left gone l
  names_left _ _ _ _ (is_gone k (Constants ds) units left gone g l) = names_left k units left gone l
  names_left _ _ _ _ (is_gone k (Define d) units left gone g l) = but d.name _ _ (names_left (k + 1) units left gone l)
  names_left _ _ _ _ (is_gone k (Assume e) units left gone g l) = names_left k units left gone l
  names_left _ _ _ _ (is_gone k (Recursive rs) units left gone g l) = names_left k units left gone l
  names_left _ _ _ _ (is_gone k (Instance m) units left gone g l) = names_left k units left gone l
  names_left _ _ _ _ (is_gone k Passed units left gone g l) = names_left k units left gone l

without_formed : (p : Program) (c : Config) (unread : List (List ℕ)) (Goes : ℕ → Type 0) (q : Program) (over : List ModuleUnit) → Without p c unread Goes q over
    → variables_in q.units ≡ variables_in p.units → IsWellFormed p → IsWellFormed q
without_formed p c unread Goes q over left variables h =
    let names = names_left (GoesWith p c unread Goes) 0 p.units q.units over left.parted in
    record {
      formed = formed_left (GoesWith p c unread Goes) 0 p.units q.units over left.parted h.formed;
      variables_differ = subst (λ (ds : List Declared). Differ (names_declared ds)) (sym variables) h.variables_differ;
      definitions_differ = differ_part _ _ names h.definitions_differ;
      definitions_named = all_part (λ n. n ≢ []) _ _ names h.definitions_named;
    }

pub well_formed : DeclaredStays → LeftIsWellFormed
well_formed declared p c unread roots q over (inl a) h = without_formed p c unread (IsBad p c unread) q over a.without (declared p c unread roots q over (inl a)).0 h
well_formed declared p c unread roots q over (inr a) h = without_formed p c unread (IsOther p c roots) q over a (declared p c unread roots q over (inr a)).0 h
