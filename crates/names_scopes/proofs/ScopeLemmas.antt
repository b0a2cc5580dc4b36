-- Names that are bound, one behind the other.
use Rattle.std.proofs.Common.{◌≡◌, ◌∙◌, sym, ap, refl, subst, List, [], ◌∷◌, ◌++◌, length, ◌<◌, ◌≤◌}
use Rattle.std.specs.Prelude.{ℕ, ◌+◌, drop, get_or}
use Rattle.reading_trees.specs.Trees as tree
use Rattle.reading_trees.specs.TreeViews.{bounds_from, bounds_of}
use Rattle.reading_trees.specs.declared.expr.Bound.{Bound as BoundTree}
use Rattle.names_scopes.specs.declared.scope.Local.{Local}
use Rattle.names_scopes.specs.declared.scope.Local.TheVariants.{Bound, Defined}
use Rattle.names_scopes.specs.Standing.{LocalsIn, AddsSlots}
use Rattle.names_scopes.specs.Scopes.{bind, bind_bounds}
use Rattle.names_scopes.proofs.LevelLoops.{cut_at, cut_end}

pub adds_none : (a : List Local) → AddsSlots a a
adds_none a = λ n h. h

pub one_slot : (n : ℕ) (sc : List Local) (m : List ℕ) → LocalsIn n sc → LocalsIn n (sc ++ Bound m ∷ [])
one_slot n [] m h = tt
one_slot n (Bound k ∷ sc) m h = one_slot n sc m h
one_slot n (Defined k j p ∷ sc) m h = (h.0, one_slot n sc m h.1)

pub adds_one : (a b : List Local) (m : List ℕ) → AddsSlots a b → AddsSlots a (b ++ Bound m ∷ [])
adds_one a b m h = λ n k. one_slot n b m (h n k)

pub adds_on : (a b c : List Local) → AddsSlots a b → AddsSlots b c → AddsSlots a c
adds_on a b c h k = λ n p. k n (h n p)

-- one more name, and those behind it
pub bind_on : (sc mid new : List Local) (names : List (List ℕ)) (i : ℕ) (x : List ℕ) → i < length names → x ≡ get_or names i x → new ≡ mid ++ Bound x ∷ [] → (bind mid (drop i names) ≡ bind sc names) × AddsSlots sc mid → (bind new (drop (i + 1) names) ≡ bind sc names) × AddsSlots sc new
bind_on sc mid new names i x lt e n h =
    (ap (λ (s : List Local). bind s (drop (i + 1) names)) n ∙ sym (ap (λ (ns : List (List ℕ)). bind mid ns) (cut_at names i x lt e)) ∙ h.0, subst (λ (s : List Local). AddsSlots sc s) (sym n) (adds_one sc mid x h.1))

pub record BoundSoFar (sc sc' : List Local) (items : List BoundTree) (i : ℕ) : Type 0 where
  pub so_far : tree.Bounds
  pub whole : bounds_from so_far (drop i items) ≡ bounds_of items
  pub is : sc' ≡ bind_bounds sc so_far
  pub slots : AddsSlots sc sc'

pub bound_begin : (sc : List Local) (items : List BoundTree) → BoundSoFar sc sc items 0
bound_begin sc items = record { so_far = tree.NoBounds; whole = refl; is = refl; slots = adds_none sc }

pub bound_on : (sc mid sc' : List Local) (items : List BoundTree) (i : ℕ) (x : BoundTree) → i < length items → x ≡ get_or items i x → BoundSoFar sc mid items i → sc' ≡ bind mid x.names → AddsSlots mid sc' → BoundSoFar sc sc' items (i + 1)
bound_on sc mid sc' items i x lt e h b a =
    record {
      so_far = tree.MoreBounds h.so_far x.names x.set;
      whole = ap (λ ts. bounds_from h.so_far ts) (sym (cut_at items i x lt e)) ∙ h.whole;
      is = b ∙ ap (λ (s : List Local). bind s x.names) h.is;
      slots = adds_on sc mid sc' h.slots a;
    }

pub bound_end : (sc sc' : List Local) (items : List BoundTree) (all : tree.Bounds) (i : ℕ) → bounds_of items ≡ all → length items ≤ i → BoundSoFar sc sc' items i → sc' ≡ bind_bounds sc all
bound_end sc sc' items all i w le h = h.is ∙ ap (λ (l : tree.Bounds). bind_bounds sc l) (ap (λ ts. bounds_from h.so_far ts) (sym (cut_end items i le)) ∙ h.whole ∙ w)
