-- What a piece is read for: LOCAL and a definition is read as the definition, and an instance without a name brings a module whole.
use Rattle.std.specs.Prelude.{ℕ, Bool, ◌||◌, if◌then◌else◌, List, [], ◌∷◌, Option, Some, None}
use Rattle.reading_tokens.specs.declared.token.Kind.{Kind}
use Rattle.reading_tokens.specs.declared.token.Kind.TheVariants as kinds
use Rattle.reading_tokens.specs.declared.token.Token.{Token}
use Rattle.reading_pieces.specs.declared.mark.Mark.{Mark}
use Rattle.reading_pieces.specs.declared.mark.Mark.TheVariants.{Local, Instance, Name, Other}
use Rattle.reading_pieces.specs.Marks.{mark_of}
use Rattle.reading_library.specs.Library.{is_library}
use Rattle.reading_modules.specs.Standard.{is_standard}

abbrev pub first_mark : List Token → Mark
first_mark [] = Other
first_mark (t ∷ ts) = mark_of t

abbrev pub behind_local : Mark → Token → List Token → List Token
behind_local Local t ts = ts
behind_local _ t ts = t ∷ ts

-- what stands behind LOCAL, or all of it
unfoldable pub without_local : List Token → List Token
without_local [] = []
without_local (t ∷ ts) = behind_local (mark_of t) t ts

abbrev pub defined_by : Mark → List Token → List Token → List Token
defined_by Name behind piece = behind
defined_by _ behind piece = piece

-- the tokens that are read of a piece: a definition, which begins with a name, without the LOCAL in front of it, and any other piece as it is
unfoldable pub readable : List Token → List Token
readable piece = defined_by (first_mark (without_local piece)) (without_local piece) piece

-- ---- instances without a name

-- a standard module, or one of the library, declares no variable and no constant: all that it has is brought by its instance, as by EXTENDS
abbrev pub is_brought_whole : List ℕ → Bool
is_brought_whole name = is_standard name || is_library name

abbrev pub if_whole : Kind → Option (List ℕ)
if_whole (kinds.Name name) = if is_brought_whole name then Some name else None
if_whole _ = None

abbrev pub brought_by : Mark → Kind → Option (List ℕ)
brought_by Instance kind = if_whole kind
brought_by _ kind = None

-- the module that tokens bring: they are INSTANCE and its name, and no more
unfoldable pub instance_of : List Token → Option (List ℕ)
instance_of (t ∷ u ∷ []) = brought_by (mark_of t) u.kind
instance_of _ = None

-- the module that a piece brings, with LOCAL in front of it or without
abbrev pub brought : List Token → Option (List ℕ)
brought piece = instance_of (without_local piece)
