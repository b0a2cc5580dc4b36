-- The names that a piece declares: of VARIABLES, CONSTANTS and RECURSIVE each name in it, of a definition its own, also behind LOCAL.
use Rattle.std.specs.Prelude.{ℕ, List, [], ◌∷◌, ◌++◌}
use Rattle.reading_tokens.specs.declared.token.Kind.{Kind}
use Rattle.reading_tokens.specs.declared.token.Kind.TheVariants as kinds
use Rattle.reading_tokens.specs.declared.token.Token.{Token}
use Rattle.reading_pieces.specs.declared.mark.Mark.{Mark}
use Rattle.reading_pieces.specs.declared.mark.Mark.TheVariants.{Declare, Local, Recursive, Name}
use Rattle.reading_pieces.specs.Marks.{mark_of}

abbrev pub name_in : Kind → List (List ℕ)
name_in (kinds.Name n) = n ∷ []
name_in _ = []

abbrev pub names_in : List Token → List (List ℕ)
names_in [] = []
names_in (t ∷ ts) = name_in t.kind ++ names_in ts

abbrev pub first_name : List Token → List (List ℕ)
first_name [] = []
first_name (t ∷ ts) = name_in t.kind

abbrev pub names_by : Mark → Token → List Token → List (List ℕ)
names_by Declare t ts = names_in ts
names_by Recursive t ts = names_in ts
names_by Local t ts = first_name ts
names_by Name t ts = name_in t.kind
names_by _ t ts = []

unfoldable pub names_of : List Token → List (List ℕ)
names_of [] = []
names_of (t ∷ ts) = names_by (mark_of t) t ts
