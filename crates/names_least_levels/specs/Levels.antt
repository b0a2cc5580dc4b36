-- The least levels of the definitions of a program, as far as whether each is above level 0: a mark for each definition, by its index, true where it
-- is. It is told which names of the program are above level 0: a variable is, and a definition as its mark says.
use Rattle.std.specs.Prelude.{◌≡◌, ℕ, zero, suc, Bool, true, false, IsTrue, if◌then◌else◌, List, [], ◌∷◌, length}
use Rattle.std.specs.List.{AllZip}
use Rattle.reading_trees.specs.declared.expr.Definition.{Definition}
use Rattle.std.specs.Str.{bytes_eq}
use Rattle.names_least_levels.specs.declared.told.NameLevel.{NameLevel}
use Rattle.names_least_levels.specs.declared.told.Told.{Told}
use Rattle.names_least_levels.specs.declared.told.Told.TheVariants.{Above, Constant, OfDefinition}
use Rattle.names_least_levels.specs.Rising.{Rising, without, rises}

abbrev pub mark : List Bool → ℕ → Bool
mark [] i = false
mark (b ∷ bs) zero = b
mark (b ∷ bs) (suc i) = mark bs i

abbrev pub told_rises : List Bool → Told → Bool
told_rises bs Above = true
told_rises bs Constant = false
told_rises bs (OfDefinition i) = mark bs i

-- The names of the program, where its definitions have these marks. Of equal names the first counts; one that is not told has level 0.
abbrev pub names_rise : List NameLevel → List Bool → Rising
names_rise [] bs n = false
names_rise (w ∷ ws) bs n = if bytes_eq w.name n then told_rises bs w.told else names_rise ws bs n

-- whether the body of a definition is above level 0
abbrev pub body_rises : List NameLevel → List Bool → Definition → Bool
body_rises names bs d = rises (without (names_rise names bs) d.params) d.body

abbrev pub each_rises : List NameLevel → List Bool → List Definition → List Bool
each_rises names bs [] = []
each_rises names bs (d ∷ ds) = body_rises names bs d ∷ each_rises names bs ds

-- each definition has the mark that its body has, where the names of the definitions have these marks
abbrev pub AreLevels : List NameLevel → List Definition → List Bool → Type 0
AreLevels names ds bs = each_rises names bs ds ≡ bs

abbrev pub Implies : Bool → Bool → Type 0
Implies a b = IsTrue a → IsTrue b

-- there are as many, and each that is true is true there
abbrev pub AtMost : List Bool → List Bool → Type 0
AtMost xs bs = AllZip Implies xs bs

-- such marks of which none is true that need not be
pub record AreLeast (names : List NameLevel) (ds : List Definition) (bs : List Bool) : Type 0 where
  pub levels : AreLevels names ds bs
  pub least : (xs : List Bool) → AreLevels names ds xs → AtMost bs xs

-- ---- how they are found: from no mark on, until nothing changes

abbrev pub same_marks : List Bool → List Bool → Bool
same_marks [] [] = true
same_marks (true ∷ xs) (true ∷ bs) = same_marks xs bs
same_marks (false ∷ xs) (false ∷ bs) = same_marks xs bs
same_marks xs bs = false

abbrev pub walked : List NameLevel → List Definition → ℕ → List Bool → List Bool
walked names ds zero bs = bs
walked names ds (suc n) bs = if same_marks (each_rises names bs ds) bs then bs else walked names ds n (each_rises names bs ds)

abbrev pub none_of : List Definition → List Bool
none_of [] = []
none_of (d ∷ ds) = false ∷ none_of ds

abbrev pub levels_of : List NameLevel → List Definition → List Bool
levels_of names ds = walked names ds (suc (length ds)) (none_of ds)
