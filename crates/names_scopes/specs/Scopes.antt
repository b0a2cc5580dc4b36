-- What names mean: those of the program, and those that are bound around a place. An inner name hides an outer one, and of equal names that
-- one list binds the later hides the earlier (this project's profile).
use Rattle.std.specs.Prelude.{ℕ, suc, if◌then◌else◌, List, [], ◌∷◌, ◌++◌, Option, Some, None}
use Rattle.std.specs.Str.{bytes_eq}
use Rattle.reading_trees.specs.Trees as tree
use Rattle.reading_trees.specs.Trees.{Bounds}
use Rattle.names_terms.specs.Terms as term
use Rattle.names_terms.specs.Terms.{Meaning, Terms}
use Rattle.names_scopes.specs.declared.scope.Local.{Local}
use Rattle.names_scopes.specs.declared.scope.Local.TheVariants.{Bound, Defined}
use Rattle.names_scopes.specs.declared.meant.Meant.{Meant}
use Rattle.names_scopes.specs.declared.meant.Meant.TheVariants as meant
use Rattle.names_scopes.specs.declared.meant.Named.{Named}
use Rattle.names_scopes.specs.declared.meant.Entry.{Entry}

-- the later of two, if it is there
abbrev pub later : {A : Type 0} → Option A → Option A → Option A
later a (Some y) = Some y
later a None = a

abbrev pub named : ℕ → Meant → Named
named n m = record { needed = n; meant = m }

-- how many slots the names take
abbrev pub slots : List Local → ℕ
slots [] = 0
slots (Bound n ∷ sc) = suc (slots sc)
slots (Defined n k p ∷ sc) = slots sc

-- what a name means among bound names, so many slots standing before them: the last of that name, and slots counted from the outermost
abbrev pub bound_from : ℕ → List Local → List ℕ → Option Named
bound_from i [] n = None
bound_from i (Bound m ∷ sc) n = later (if bytes_eq m n then Some (named 0 (meant.Slot i)) else None) (bound_from (suc i) sc n)
bound_from i (Defined m k p ∷ sc) n = later (if bytes_eq m n then Some (named p (meant.Definition k)) else None) (bound_from i sc n)

abbrev pub bound : List Local → List ℕ → Option Named
bound sc n = bound_from 0 sc n

-- what a name means in the program: the first of that name
abbrev pub among : List Entry → List ℕ → Option Named
among [] n = None
among (e ∷ es) n = if bytes_eq e.name n then Some e.is else among es n

-- what a name means at a place
abbrev pub meaning_in : List Entry → List Local → List ℕ → Option Named
meaning_in names sc n = later (among names n) (bound sc n)

-- a use of what is meant, with these arguments
abbrev pub used : Meant → Terms → Meaning
used (meant.Slot i) ts = term.Slot i
used (meant.Variable x) ts = term.Variable x.0
used (meant.Known v) ts = term.Known v
used (meant.Set s) ts = term.Named s
used (meant.Standard o) ts = term.Standard o ts
used (meant.Definition k) ts = term.Use k.0 ts

-- names that are bound take a slot each
abbrev pub bind : List Local → List (List ℕ) → List Local
bind sc [] = sc
bind sc (n ∷ ns) = bind (sc ++ Bound n ∷ []) ns

-- the names of bounds, in their order
abbrev pub bind_bounds : List Local → Bounds → List Local
bind_bounds sc tree.NoBounds = sc
bind_bounds sc (tree.MoreBounds bs ns e) = bind (bind_bounds sc bs) ns

-- the character `@`, which is bound as a name is
abbrev pub at_sign : List ℕ
at_sign = 64 ∷ []
