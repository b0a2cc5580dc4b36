-- For the prover: the test of a name that the program makes. `IsName` in Names.antt says what a name is.
use Rattle.std.specs.Prelude.{ℕ, Bool, false, ◌&&◌, not, List, [], ◌∷◌, is_some}
use Rattle.std.specs.List.{list_all, list_any}
use Rattle.reading_tokens.specs.Shapes.{begins_fair, is_letter, is_word, is_word_start}
use Rattle.reading_tokens.specs.Spellings.{kind_in, words}

-- letters, digits and `_`, the first of them no digit
abbrev pub is_word_text : List ℕ → Bool
is_word_text [] = false
is_word_text (b ∷ bs) = is_word_start b && list_all is_word bs

-- a reserved word, or one that is foreign to the profile
abbrev pub is_reserved : List ℕ → Bool
is_reserved word = is_some (kind_in words word)

abbrev pub is_plain_name : List ℕ → Bool
is_plain_name name = is_word_text name && list_any is_letter name && not (begins_fair name) && not (is_reserved name)
