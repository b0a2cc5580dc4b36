-- What a name means at two places that are alike is alike.
use Rattle.std.proofs.Common.{◌≡◌, ap, refl, subst, ℕ, suc, List, [], ◌∷◌, ◌++◌}
use Rattle.std.specs.Prelude.{Bool, true, false, if◌then◌else◌, Option, Some, None}
use Rattle.std.specs.Str.{bytes_eq}
use Rattle.values_core.specs.Data.{Val}
use Rattle.reading_trees.specs.Trees as tree
use Rattle.names_terms.specs.declared.ids.DefId.{DefId}
use Rattle.names_scopes.specs.declared.meant.Entry.{Entry}
use Rattle.names_scopes.specs.declared.meant.Meant.TheVariants as meant
use Rattle.names_scopes.specs.declared.meant.Named.{Named}
use Rattle.names_scopes.specs.declared.scope.Local.{Local}
use Rattle.names_scopes.specs.declared.scope.Local.TheVariants.{Bound, Defined}
use Rattle.names_scopes.specs.Scopes.{later, named, slots, bound, bound_from, among, meaning_in, bind, bind_bounds}
use Rattle.twice_tables.specs.Places.{AlikeMeant, slot_meant, definition_meant, AlikeLocals, no_locals_alike, bound_alike, defined_alike, AreAlikeNames}

module _ (Same : Val → Val → Type 0) (Row : ℕ → ℕ → Type 0) where
  -- what two lists of bound names say of a name
  data AlikeNamed : Option Named → Option Named → Type 0 where
    nothing_named : AlikeNamed None None
    both_named : (v w : Named) → AlikeMeant Same Row v.meant w.meant → AlikeNamed (Some v) (Some w)

  later_alike : (a b c d : Option Named) → AlikeNamed a b → AlikeNamed c d → AlikeNamed (later a c) (later b d)
  later_alike a b _ _ h nothing_named = h
  later_alike a b _ _ h (both_named v w k) = both_named v w k

  if_alike : (b : Bool) (v w : Named) → AlikeMeant Same Row v.meant w.meant → AlikeNamed (if b then Some v else None) (if b then Some w else None)
  if_alike true v w h = both_named v w h
  if_alike false v w h = nothing_named

  locals_alike : (i : ℕ) (sc tc : List Local) (n : List ℕ) → AlikeLocals Row sc tc → AlikeNamed (bound_from i sc n) (bound_from i tc n)
  locals_alike i _ _ n no_locals_alike = nothing_named
  locals_alike i _ _ n (bound_alike m sc tc h) =
      later_alike (if bytes_eq m n then Some (named 0 (meant.Slot i)) else None) (if bytes_eq m n then Some (named 0 (meant.Slot i)) else None) (bound_from (suc i) sc n) (bound_from (suc i) tc n)
      (if_alike (bytes_eq m n) (named 0 (meant.Slot i)) (named 0 (meant.Slot i)) (slot_meant i)) (locals_alike (suc i) sc tc n h)
  locals_alike i _ _ n (defined_alike m k j p sc tc r h) =
      later_alike (if bytes_eq m n then Some (named p (meant.Definition k)) else None) (if bytes_eq m n then Some (named p (meant.Definition j)) else None) (bound_from i sc n) (bound_from i tc n)
      (if_alike (bytes_eq m n) (named p (meant.Definition k)) (named p (meant.Definition j)) (definition_meant k j r)) (locals_alike i sc tc n h)

  of_both : (a b : Option Named) (c d : Option Named) (v w : Named) → ((x y : Named) → a ≡ Some x → b ≡ Some y → AlikeMeant Same Row x.meant y.meant) → AlikeNamed c d → later a c ≡ Some v → later b d ≡ Some w → AlikeMeant Same Row v.meant w.meant
  of_both a b _ _ v w h nothing_named p q = h v w p q
  of_both a b _ _ v w h (both_named x y k) p q =
      let s : x ≡ v = cc in
      let t : y ≡ w = cc in
      subst (λ (z : Named). AlikeMeant Same Row v.meant z.meant) t (subst (λ (z : Named). AlikeMeant Same Row z.meant y.meant) s k)

  pub meaning_alike : (names others : List Entry) (sc tc : List Local) (n : List ℕ) (v w : Named) → AreAlikeNames Same Row names others → AlikeLocals Row sc tc → meaning_in names sc n ≡ Some v → meaning_in others tc n ≡ Some w → AlikeMeant Same Row v.meant w.meant
  meaning_alike names others sc tc n v w are h p q =
      of_both (among names n) (among others n) (bound sc n) (bound tc n) v w (λ x y e f. are n x y e f) (locals_alike 0 sc tc n h) p q

module _ (Row : ℕ → ℕ → Type 0) where
  pub slots_alike : (sc tc : List Local) → AlikeLocals Row sc tc → slots sc ≡ slots tc
  slots_alike _ _ no_locals_alike = refl
  slots_alike _ _ (bound_alike m sc tc h) = ap suc (slots_alike sc tc h)
  slots_alike _ _ (defined_alike m k j p sc tc r h) = slots_alike sc tc h

  more_alike : (sc tc ad bd : List Local) → AlikeLocals Row ad bd → AlikeLocals Row sc tc → AlikeLocals Row (sc ++ ad) (tc ++ bd)
  more_alike _ _ ad bd k no_locals_alike = k
  more_alike _ _ ad bd k (bound_alike m sc tc h) = bound_alike m (sc ++ ad) (tc ++ bd) (more_alike sc tc ad bd k h)
  more_alike _ _ ad bd k (defined_alike m i j p sc tc r h) = defined_alike m i j p (sc ++ ad) (tc ++ bd) r (more_alike sc tc ad bd k h)

  pub one_bound : (sc tc : List Local) (n : List ℕ) → AlikeLocals Row sc tc → AlikeLocals Row (sc ++ Bound n ∷ []) (tc ++ Bound n ∷ [])
  one_bound sc tc n h = more_alike sc tc (Bound n ∷ []) (Bound n ∷ []) (bound_alike n [] [] no_locals_alike) h

  pub one_defined : (sc tc : List Local) (n : List ℕ) (k j : DefId) (p : ℕ) → Row k.0 j.0 → AlikeLocals Row sc tc → AlikeLocals Row (sc ++ Defined n k p ∷ []) (tc ++ Defined n j p ∷ [])
  one_defined sc tc n k j p r h = more_alike sc tc (Defined n k p ∷ []) (Defined n j p ∷ []) (defined_alike n k j p [] [] r no_locals_alike) h

  pub all_bound : (sc tc : List Local) (ns : List (List ℕ)) → AlikeLocals Row sc tc → AlikeLocals Row (bind sc ns) (bind tc ns)
  all_bound sc tc [] h = h
  all_bound sc tc (n ∷ ns) h = all_bound (sc ++ Bound n ∷ []) (tc ++ Bound n ∷ []) ns (one_bound sc tc n h)

  pub bounds_bound : (sc tc : List Local) (bs : tree.Bounds) → AlikeLocals Row sc tc → AlikeLocals Row (bind_bounds sc bs) (bind_bounds tc bs)
  bounds_bound sc tc tree.NoBounds h = h
  bounds_bound sc tc (tree.MoreBounds bs ns e) h = all_bound (bind_bounds sc bs) (bind_bounds tc bs) ns (bounds_bound sc tc bs h)
