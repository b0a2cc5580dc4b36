-- What is known of names where more names are bound.
use Rattle.std.proofs.Common.{◌≡◌, ◌∙◌, sym, ap, refl, List, [], ◌∷◌, ◌++◌}
use Rattle.std.specs.Prelude.{ℕ, suc, Bool, true, false, if◌then◌else◌, Option, Some, None, option_map}
use Rattle.std.specs.Str.{bytes_eq}
use Rattle.reading_trees.specs.Trees as tree
use Rattle.names_terms.specs.declared.ids.DefId.{DefId}
use Rattle.names_terms.specs.declared.operator.Operator.{Operator}
use Rattle.names_scopes.specs.declared.scope.Local.{Local}
use Rattle.names_scopes.specs.declared.scope.Local.TheVariants.{Bound, Defined}
use Rattle.names_scopes.specs.declared.meant.Meant.TheVariants as meant
use Rattle.names_scopes.specs.declared.meant.Named.{Named}
use Rattle.names_scopes.specs.declared.meant.Entry.{Entry}
use Rattle.names_scopes.specs.Scopes.{later, named, bound_from, bound, among, bind, bind_bounds}
use Rattle.names_meanings.specs.Complaints.{Taken, Takes, bound_name, with_name, with_names, with_bounds}
use Rattle.names_meanings.specs.Outcomes.{taken_by, takes_in}

pub fun_ext : {A B : Type 0} {f g : A → B} → ((x : A) → f x ≡ g x) → f ≡ g
fun_ext h = λ i x. h x i

later_if : (b : Bool) (k : Taken) (a c : Option Taken) → later a (if b then Some k else c) ≡ (if b then Some k else later a c)
later_if true k a c = refl
later_if false k a c = refl

-- what is known of a definition of a LET that takes so many arguments
abbrev pub taken_of : List Operator → DefId → ℕ → Taken
taken_of ops j r = taken_by ops (named r (meant.Definition j))

module _ (ops : List Operator) where
  map_later : (a b : Option Named) → option_map (taken_by ops) (later a b) ≡ later (option_map (taken_by ops) a) (option_map (taken_by ops) b)
  map_later a (Some y) = refl
  map_later a None = refl

  if_map : (b : Bool) (x : Named) → option_map (taken_by ops) (if b then Some x else None) ≡ (if b then Some (taken_by ops x) else None)
  if_map true x = refl
  if_map false x = refl

  -- one name before the others
  step : (b : Bool) (k : Taken) (a : Option Named) (x y : Option Named) → option_map (taken_by ops) x ≡ (if b then Some k else option_map (taken_by ops) y) → option_map (taken_by ops) (later a x) ≡ (if b then Some k else option_map (taken_by ops) (later a y))
  step b k a x y e =
      map_later a x ∙ ap (λ z. later (option_map (taken_by ops) a) z) e ∙ later_if b k (option_map (taken_by ops) a) (option_map (taken_by ops) y) ∙ ap (λ z. if b then Some k else z) (sym (map_later a y))

  -- a name behind the others
  needed_bound : (sc : List Local) (i : ℕ) (n m : List ℕ) → option_map (taken_by ops) (bound_from i (sc ++ Bound n ∷ []) m) ≡ (if bytes_eq n m then Some bound_name else option_map (taken_by ops) (bound_from i sc m))
  needed_bound [] i n m = if_map (bytes_eq n m) (named 0 (meant.Slot i))
  needed_bound (Bound k ∷ sc) i n m = step (bytes_eq n m) bound_name _ _ _ (needed_bound sc (suc i) n m)
  needed_bound (Defined k q p ∷ sc) i n m = step (bytes_eq n m) bound_name _ _ _ (needed_bound sc i n m)

  needed_defined : (sc : List Local) (i : ℕ) (n : List ℕ) (j : DefId) (r : ℕ) (m : List ℕ) → option_map (taken_by ops) (bound_from i (sc ++ Defined n j r ∷ []) m) ≡ (if bytes_eq n m then Some (taken_of ops j r) else option_map (taken_by ops) (bound_from i sc m))
  needed_defined [] i n j r m = if_map (bytes_eq n m) (named r (meant.Definition j))
  needed_defined (Bound k ∷ sc) i n j r m = step (bytes_eq n m) (taken_of ops j r) _ _ _ (needed_defined sc (suc i) n j r m)
  needed_defined (Defined k q p ∷ sc) i n j r m = step (bytes_eq n m) (taken_of ops j r) _ _ _ (needed_defined sc i n j r m)

  pub takes_bound : (names : List Entry) (sc : List Local) (n : List ℕ) → takes_in ops names (sc ++ Bound n ∷ []) ≡ with_name (takes_in ops names sc) n bound_name
  takes_bound names sc n = fun_ext (λ m. step (bytes_eq n m) bound_name (among names m) (bound (sc ++ Bound n ∷ []) m) (bound sc m) (needed_bound sc 0 n m))

  pub takes_defined : (names : List Entry) (sc : List Local) (n : List ℕ) (j : DefId) (r : ℕ) → takes_in ops names (sc ++ Defined n j r ∷ []) ≡ with_name (takes_in ops names sc) n (taken_of ops j r)
  takes_defined names sc n j r =
      fun_ext (λ m. step (bytes_eq n m) (taken_of ops j r) (among names m) (bound (sc ++ Defined n j r ∷ []) m) (bound sc m) (needed_defined sc 0 n j r m))

  pub takes_bind : (names : List Entry) (sc : List Local) (ns : List (List ℕ)) → takes_in ops names (bind sc ns) ≡ with_names (takes_in ops names sc) ns
  takes_bind names sc [] = refl
  takes_bind names sc (n ∷ ns) = takes_bind names (sc ++ Bound n ∷ []) ns ∙ ap (λ (g : Takes). with_names g ns) (takes_bound names sc n)

  pub takes_bounds : (names : List Entry) (sc : List Local) (bs : tree.Bounds) → takes_in ops names (bind_bounds sc bs) ≡ with_bounds (takes_in ops names sc) bs
  takes_bounds names sc tree.NoBounds = refl
  takes_bounds names sc (tree.MoreBounds bs ns e) = takes_bind names (bind_bounds sc bs) ns ∙ ap (λ (g : Takes). with_names g ns) (takes_bounds names sc bs)
