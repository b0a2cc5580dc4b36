-- A name that is bound around means the same at both places, and one that is not means what it means in the module and in the program.
use Rattle.std.proofs.Common.{◌≡◌, ◌∙◌, sym, ap, ap₂, refl, subst, ℕ, suc, List, [], ◌∷◌}
use Rattle.std.specs.Prelude.{Bool, true, false, if◌then◌else◌, Option, Some, None}
use Rattle.std.specs.Str.{bytes_eq}
use Rattle.names_scopes.specs.declared.meant.Entry.{Entry}
use Rattle.names_scopes.specs.declared.meant.Meant.TheVariants as meant
use Rattle.names_scopes.specs.declared.meant.Named.{Named}
use Rattle.names_scopes.specs.declared.scope.Local.{Local}
use Rattle.names_scopes.specs.declared.scope.Local.TheVariants.{Bound, Defined}
use Rattle.names_scopes.specs.Mentions.{is_one_of}
use Rattle.names_scopes.specs.Scopes.{later, named, bound, bound_from, among, meaning_in}
use Rattle.twice_tables.specs.Places.{AlikeLocals, no_locals_alike, bound_alike as both_bound, defined_alike}
use Rattle.twice_instances.specs.Standing.{StandsFor, slot_stands, definition_stands}
use Rattle.twice_instances.proofs.Around.{both_false, left_false, names_in, no_clash, right_false}

said_none : (i : ℕ) (sc : List Local) (n : List ℕ) → is_one_of n (names_in sc) ≡ false → bound_from i sc n ≡ None
said_none i [] n h = refl
said_none i (Bound m ∷ sc) n h =
    ap₂ later (ap (λ (b : Bool). let o : Option Named = if b then Some (named 0 (meant.Slot i)) else None in o) (left_false (bytes_eq m n) (is_one_of n (names_in sc)) h)) (said_none (suc i) sc n (right_false (bytes_eq m n) (is_one_of n (names_in sc)) h))
said_none i (Defined m k p ∷ sc) n h =
    ap₂ later (ap (λ (b : Bool). let o : Option Named = if b then Some (named p (meant.Definition k)) else None in o) (left_false (bytes_eq m n) (is_one_of n (names_in sc)) h)) (said_none i sc n (right_false (bytes_eq m n) (is_one_of n (names_in sc)) h))

-- the later of two is there where one of them is
later_none : (a b : Option Named) → later a b ≡ None → (a ≡ None) × (b ≡ None)
later_none a None h = (h, refl)
later_none a (Some y) h = absurd (cc)

if_none : (b : Bool) (w : Named) → (if b then Some w else None) ≡ None → b ≡ false
if_none true w h = absurd (cc)
if_none false w h = refl

said_some : (i : ℕ) (sc : List Local) (n : List ℕ) → bound_from i sc n ≡ None → is_one_of n (names_in sc) ≡ false
said_some i [] n h = refl
said_some i (Bound m ∷ sc) n h =
    let w = later_none (if bytes_eq m n then Some (named 0 (meant.Slot i)) else None) (bound_from (suc i) sc n) h in
    both_false (bytes_eq m n) (is_one_of n (names_in sc)) (if_none (bytes_eq m n) (named 0 (meant.Slot i)) w.0) (said_some (suc i) sc n w.1)
said_some i (Defined m k p ∷ sc) n h =
    let w = later_none (if bytes_eq m n then Some (named p (meant.Definition k)) else None) (bound_from i sc n) h in
    both_false (bytes_eq m n) (is_one_of n (names_in sc)) (if_none (bytes_eq m n) (named p (meant.Definition k)) w.0) (said_some i sc n w.1)

module _ (Stands Row : ℕ → ℕ → Type 0) where
  -- what two lists of bound names say of a name: nothing, or what stands for each other
  data SaidAlike : Option Named → Option Named → Type 0 where
    nothing_said : SaidAlike None None
    both_said : (v w : Named) → StandsFor Stands Row v.meant w.meant → SaidAlike (Some v) (Some w)

  later_alike : (a b c d : Option Named) → SaidAlike a b → SaidAlike c d → SaidAlike (later a c) (later b d)
  later_alike a b _ _ h nothing_said = h
  later_alike a b _ _ h (both_said v w k) = both_said v w k

  if_alike : (b : Bool) (v w : Named) → StandsFor Stands Row v.meant w.meant → SaidAlike (if b then Some v else None) (if b then Some w else None)
  if_alike true v w h = both_said v w h
  if_alike false v w h = nothing_said

  locals_said : (i : ℕ) (sc tc : List Local) (n : List ℕ) → AlikeLocals Row sc tc → SaidAlike (bound_from i sc n) (bound_from i tc n)
  locals_said i _ _ n no_locals_alike = nothing_said
  locals_said i _ _ n (both_bound m sc tc h) =
      later_alike (if bytes_eq m n then Some (named 0 (meant.Slot i)) else None) (if bytes_eq m n then Some (named 0 (meant.Slot i)) else None) (bound_from (suc i) sc n) (bound_from (suc i) tc n)
      (if_alike (bytes_eq m n) (named 0 (meant.Slot i)) (named 0 (meant.Slot i)) (slot_stands i)) (locals_said (suc i) sc tc n h)
  locals_said i _ _ n (defined_alike m k j p sc tc r h) =
      later_alike (if bytes_eq m n then Some (named p (meant.Definition k)) else None) (if bytes_eq m n then Some (named p (meant.Definition j)) else None) (bound_from i sc n) (bound_from i tc n)
      (if_alike (bytes_eq m n) (named p (meant.Definition k)) (named p (meant.Definition j)) (definition_stands k j r)) (locals_said i sc tc n h)

  names_same : (sc tc : List Local) → AlikeLocals Row sc tc → names_in sc ≡ names_in tc
  names_same _ _ no_locals_alike = refl
  names_same _ _ (both_bound m sc tc h) = ap (λ (ns : List (List ℕ)). m ∷ ns) (names_same sc tc h)
  names_same _ _ (defined_alike m k j p sc tc r h) = ap (λ (ns : List (List ℕ)). m ∷ ns) (names_same sc tc h)

  pub bound_alike : (names others : List Entry) (sc tc : List Local) (n : List ℕ) (v u : Named) → AlikeLocals Row sc tc → is_one_of n (names_in sc) ≡ true → meaning_in names sc n ≡ Some v → meaning_in others tc n ≡ Some u → StandsFor Stands Row v.meant u.meant
  bound_alike names others sc tc n v u s c p q = by_said (bound sc n) (bound tc n) refl (locals_said 0 sc tc n s) p q
    where
      by_said : (o r : Option Named) → bound sc n ≡ o → SaidAlike o r → later (among names n) o ≡ Some v → later (among others n) r ≡ Some u → StandsFor Stands Row v.meant u.meant
      by_said _ _ e nothing_said p q = absurd (no_clash (sym c ∙ said_some 0 sc n e))
      by_said _ _ e (both_said x y k) p q =
          let left : x ≡ v = cc in
          let right : y ≡ u = cc in
          subst (λ (z : Named). StandsFor Stands Row v.meant z.meant) right (subst (λ (z : Named). StandsFor Stands Row z.meant y.meant) left k)

  pub free_alike : (names others : List Entry) (sc tc : List Local) (n z : List ℕ) → AlikeLocals Row sc tc → is_one_of n (names_in sc) ≡ false → is_one_of z (names_in sc) ≡ false → ((v u : Named) → among names n ≡ Some v → among others z ≡ Some u → StandsFor Stands Row v.meant u.meant) → (v u : Named) → meaning_in names sc n ≡ Some v → meaning_in others tc z ≡ Some u → StandsFor Stands Row v.meant u.meant
  free_alike names others sc tc n z s free hidden are v u p q =
      let left : bound sc n ≡ None = said_none 0 sc n free in
      let right : bound tc z ≡ None = said_none 0 tc z (subst (λ (ns : List (List ℕ)). is_one_of z ns ≡ false) (names_same sc tc s) hidden) in
      are v u (sym (ap (later (among names n)) left) ∙ p) (sym (ap (later (among others z)) right) ∙ q)
