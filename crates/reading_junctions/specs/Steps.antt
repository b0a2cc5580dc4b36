-- What the marking of one token adds, in terms of whatever is marked behind it.
use Rattle.std.specs.Prelude.{◌≡◌, true, List, [], ◌∷◌, ◌++◌, Option, Some}
use Rattle.reading_tokens.specs.declared.token.Token.{Token}
use Rattle.reading_trees.specs.declared.laid.Laid.{Laid}
use Rattle.reading_trees.specs.Opens.{is_end}
use Rattle.reading_trees.specs.Laid.{tokens_of, next_of, Stands, Marked}
use Rattle.reading_junctions.specs.declared.marking.Marking.{Marking}

-- The ends of lists were marked, and before the token no further list ends.
pub record Ends (old new : Marking) (t : Token) : Type 0 where
  pub added : List Laid
  pub whole : new.laid.items ≡ old.laid.items ++ added
  pub tokens : tokens_of added ≡ []
  pub stands : Stands new.operand t new.stack
  pub on : (xs : List Laid) (z : Option Token) → next_of xs z ≡ Some t → Marked new.stack new.operand xs z → Marked old.stack old.operand (added ++ xs) z

-- The token was marked.
pub record Marks (old new : Marking) (t : Token) : Type 0 where
  pub added : List Laid
  pub whole : new.laid.items ≡ old.laid.items ++ added
  pub tokens : (xs : List Laid) → tokens_of (added ++ xs) ≡ t ∷ tokens_of xs
  pub first : (xs : List Laid) (z : Option Token) → next_of (added ++ xs) z ≡ Some t
  pub on : (xs : List Laid) (z : Option Token) → Marked new.stack new.operand xs z → Marked old.stack old.operand (added ++ xs) z
  pub ended : is_end t.kind ≡ true → new.stack ≡ []
