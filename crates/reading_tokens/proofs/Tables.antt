-- A spelling is sought in a table from its first entry on.
use Rattle.std.proofs.Common.{◌≡◌, ℕ, zero, suc, ◌+◌, ◌<◌, ◌≤◌, true, false, cond, List, [], ◌∷◌, length, drop, Some, None, refl, sym, ap, ◌∙◌, arith, slice_get}
use Rattle.std.proofs.lemmas.Option.{slice_get_within}
use Rattle.std.specs.Prelude.{nat_eq}
use Rattle.std.specs.Cmp.Lexicographic.{pointwise}
use Rattle.reading_tokens.specs.declared.token.Kind.{Kind}
use Rattle.reading_tokens.specs.Spellings.{Spelling, kind_in, words, runs, signs}
use Rattle.reading_tokens.specs.declared.spellings.Table.{Table}
use Rattle.reading_tokens.specs.declared.spellings.Table.TheVariants.{Words, Runs, Signs}
use Rattle.reading_tokens.specs.Tables.{table_of}

pub few_entries : (table : Table) → length (table_of table) ≤ 70
unfolding words runs signs
few_entries Words = omega arith
few_entries Runs = omega arith
few_entries Signs = omega arith

one_more : (n : ℕ) → suc n + 1 ≡ suc (n + 1)
one_more n = omega arith

-- the entry with number i, and those behind it
pub kind_in-drop : (table : List Spelling) (i : ℕ) (s : Spelling) (bytes : List ℕ) → slice_get table i ≡ Some s → kind_in (drop i table) bytes ≡ cond (pointwise nat_eq s.bytes bytes) (Some s.kind) (kind_in (drop (i + 1) table) bytes)
unfolding kind_in
kind_in-drop [] i s bytes e = absurd (let q : None ≡ Some s = e in cc)
kind_in-drop (t ∷ ts) zero s bytes e = let q : t ≡ s = cc in ap (λ x. cond (pointwise nat_eq x.bytes bytes) (Some x.kind) (kind_in ts bytes)) q
kind_in-drop (t ∷ ts) (suc i) s bytes e = rw (one_more i) (kind_in-drop ts i s bytes e)

pub kind_in-past : (table : List Spelling) (i : ℕ) (bytes : List ℕ) → slice_get table i ≡ None → kind_in (drop i table) bytes ≡ None
unfolding kind_in
kind_in-past [] zero bytes e = refl
kind_in-past [] (suc i) bytes e = refl
kind_in-past (t ∷ ts) zero bytes e = absurd (let q : Some t ≡ None = e in cc)
kind_in-past (t ∷ ts) (suc i) bytes e = kind_in-past ts i bytes e

module _ (table : List Spelling) (i : ℕ) (spelling bytes : List ℕ) (kind : Kind) (e : slice_get table i ≡ Some (record { bytes = spelling; kind = kind })) where
  pub entry_within : i < length table
  entry_within = slice_get_within table i _ e

  pub entry_found : pointwise nat_eq spelling bytes ≡ true → Some kind ≡ kind_in (drop i table) bytes
  entry_found h = sym (kind_in-drop table i _ bytes e ∙ ap (λ b. cond b (Some kind) (kind_in (drop (i + 1) table) bytes)) h)

  pub entry_passed : pointwise nat_eq spelling bytes ≡ false → kind_in (drop (i + 1) table) bytes ≡ kind_in (drop i table) bytes
  entry_passed h = sym (kind_in-drop table i _ bytes e ∙ ap (λ b. cond b (Some kind) (kind_in (drop (i + 1) table) bytes)) h)
