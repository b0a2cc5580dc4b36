-- What statements give, one after the other, and when one of them gives again what was given.
use Rattle.std.specs.Prelude.{◌≡◌, ℕ, Bool, false, ◌&&◌, not, List, [], ◌∷◌, ◌++◌, Option, Some, None, codes, is_some, if◌then◌else◌}
use Rattle.std.specs.List.{list_any}
use Rattle.std.specs.Str.{bytes_eq}
use Rattle.reading_trees.specs.declared.config.Config.{Config}
use Rattle.reading_trees.specs.declared.config.GivenAt.{GivenAt}
use Rattle.reading_configuration.specs.declared.keyword.Part.{Part}
use Rattle.reading_configuration.specs.declared.keyword.Part.TheVariants.{Init, Next, Specification}
use Rattle.reading_configuration.specs.declared.keyword.Listed.{Listed}
use Rattle.reading_configuration.specs.declared.keyword.Listed.TheVariants.{Invariant, Property}
use Rattle.reading_configuration.specs.Statements.{Named, Assignment, Statement, constants, choice, unchecked, deadlock, given_of}

-- the configuration that gives nothing
abbrev pub nothing_given : List ℕ → Config
nothing_given file = record { file = file; init = None; next = None; specification = None; givens = []; unchecked = [] }

abbrev pub with_given : Config → GivenAt → Config
with_given c g = record c { givens = c.givens ++ g ∷ [] }

abbrev pub with_unchecked : Config → List ℕ → Config
with_unchecked c line = record c { unchecked = c.unchecked ++ line ∷ [] }

abbrev pub with_choice : Config → Part → List ℕ → Config
with_choice c Init name = record c { init = Some name }
with_choice c Next name = record c { next = Some name }
with_choice c Specification name = record c { specification = Some name }

-- what a line of the report has for a name that is not checked
abbrev pub line_of : Listed → List ℕ → List ℕ
line_of Invariant name = codes "INVARIANT " ++ name
line_of Property name = codes "PROPERTY " ++ name

abbrev pub given_at : Assignment → GivenAt
given_at a = record { name = a.name.text; at = a.name.at; given = given_of a.meaning }

abbrev pub after_assignments : Config → List Assignment → Config
after_assignments c [] = c
after_assignments c (a ∷ bs) = after_assignments (with_given c (given_at a)) bs

abbrev pub after_names : Config → Listed → List Named → Config
after_names c l [] = c
after_names c l (n ∷ ns) = after_names (with_unchecked c (line_of l n.text)) l ns

-- the configuration, with what one more statement gives
abbrev pub after : Config → Statement → Config
after c (constants a bs) = after_assignments c (a ∷ bs)
after c (choice w p n) = with_choice c p n.text
after c (unchecked w l n ns) = after_names c l (n ∷ ns)
after c (deadlock w b) = with_unchecked c (codes "CHECK_DEADLOCK")

abbrev pub after_all : Config → List Statement → Config
after_all c [] = c
after_all c (s ∷ ss) = after_all (after c s) ss

abbrev pub chosen : Config → Part → Option (List ℕ)
chosen c Init = c.init
chosen c Next = c.next
chosen c Specification = c.specification

-- INIT, NEXT or SPECIFICATION was given
abbrev pub is_chosen : Config → Part → Bool
is_chosen c p = is_some (chosen c p)

-- something was given for the name
abbrev pub is_assigned : List ℕ → List GivenAt → Bool
is_assigned name givens = list_any (λ (g : GivenAt). bytes_eq g.name name) givens

-- nothing of the assignments was given before, and none of them stands twice
abbrev pub AreNew : Config → List Assignment → Type 0
AreNew c [] = Unit {0}
AreNew c (a ∷ bs) = (is_assigned a.name.text c.givens ≡ false) × AreNew (with_given c (given_at a)) bs

abbrev pub IsNew : Config → Statement → Type 0
IsNew c (constants a bs) = AreNew c (a ∷ bs)
IsNew c (choice w p n) = is_chosen c p ≡ false
IsNew c s = Unit {0}

-- no statement gives what was given before it
abbrev pub NothingTwice : Config → List Statement → Type 0
NothingTwice c [] = Unit {0}
NothingTwice c (s ∷ ss) = IsNew c s × NothingTwice (after c s) ss

-- SPECIFICATION alone, or INIT and NEXT without it
abbrev pub has_behaviour : Config → Bool
has_behaviour c = if is_some c.specification then not (is_some c.init) && not (is_some c.next) else is_some c.init && is_some c.next
