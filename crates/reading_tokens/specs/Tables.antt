-- The tables of spellings, as the code numbers their entries.
use Rattle.std.specs.Prelude.{ℕ, List, Option, Some, None}
use Rattle.std.specs.Borrow.{Bor}
use Rattle.reading_tokens.specs.declared.token.Kind.{Kind}
use Rattle.reading_tokens.specs.Spellings.{Spelling, words, runs, signs}
use Rattle.reading_tokens.specs.declared.spellings.Table.{Table}
use Rattle.reading_tokens.specs.declared.spellings.Table.TheVariants.{Words, Runs, Signs}

abbrev pub entry_of : Option (Bor (List ℕ) × Kind) → Option Spelling
entry_of None = None
entry_of (Some p) = Some (record { bytes = p.0.now; kind = p.1 })

abbrev pub table_of : Table → List Spelling
table_of Words = words
table_of Runs = runs
table_of Signs = signs
