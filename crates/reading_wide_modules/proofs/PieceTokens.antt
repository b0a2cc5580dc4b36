-- What is read of a piece are tokens of it.
use Rattle.std.proofs.Common.{List, [], ◌∷◌}
use Rattle.reading_tokens.specs.declared.token.Token.{Token}
use Rattle.reading_pieces.specs.declared.mark.Mark.{Mark}
use Rattle.reading_pieces.specs.declared.mark.Mark.TheVariants.{Local, Name}
use Rattle.reading_pieces.specs.Marks.{mark_of}
use Rattle.reading_wide_modules.specs.Forms.{behind_local, defined_by, first_mark, readable, without_local}

-- what holds of tokens holds of those behind the first
module _ (P : List Token → Type 0) (behind : (t : Token) (ts : List Token) → P (t ∷ ts) → P ts) where
  behind_all : (m : Mark) (t : Token) (ts : List Token) → P (t ∷ ts) → P (behind_local m t ts)
  behind_all Local t ts h = behind t ts h
  behind_all _ t ts h = h

  without_all : (piece : List Token) → P piece → P (without_local piece)
  unfolding without_local
  without_all [] h = h
  without_all (t ∷ ts) h = behind_all (mark_of t) t ts h

  defined_all : (m : Mark) (rest piece : List Token) → P rest → P piece → P (defined_by m rest piece)
  defined_all Name rest piece h k = h
  defined_all _ rest piece h k = k

  -- so it holds of what is read of them
  pub readable_all : (piece : List Token) → P piece → P (readable piece)
  unfolding readable
  readable_all piece h = defined_all (first_mark (without_local piece)) (without_local piece) piece (without_all piece h) h
