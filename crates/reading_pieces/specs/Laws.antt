-- The laws of pieces.
use Rattle.std.specs.Prelude.{◌≡◌, List, ◌++◌}
use Rattle.reading_tokens.specs.declared.token.Token.{Token}
use Rattle.reading_pieces.specs.Pieces.{ArePieces, IsHeading, joined}

-- tokens have one heading
abbrev pub OneHeading : Type 0
OneHeading = (heading rest other behind : List Token) → heading ++ rest ≡ other ++ behind → IsHeading heading rest → IsHeading other behind
    → (heading ≡ other) × (rest ≡ behind)

-- and are parted into pieces in one way
abbrev pub OneParting : Type 0
OneParting = (pieces others : List (List Token)) → joined pieces ≡ joined others → ArePieces pieces → ArePieces others → pieces ≡ others
