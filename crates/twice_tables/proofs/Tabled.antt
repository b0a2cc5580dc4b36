-- Two tables of one program differ by the numbers of definitions alone: their heads are the same, and then more and more of each definition is, one use deeper at
-- each step.
use Rattle.std.proofs.Common.{◌≡◌, refl, ℕ, zero, suc, List, []}
use Rattle.std.specs.Prelude.{Some, slice_get}
use Rattle.values_core.specs.Data.{Val}
use Rattle.reading_trees.specs.Trees.{Tree}
use Rattle.reading_trees.specs.declared.config.Config.{Config}
use Rattle.reading_trees.specs.declared.expr.Definition.{Definition}
use Rattle.reading_trees.specs.declared.module.Program.{Program}
use Rattle.names_terms.specs.declared.operator.Operator.{Operator}
use Rattle.names_terms.specs.Terms.{Term}
use Rattle.names_scopes.specs.Scopes.{bind}
use Rattle.names_program.specs.InUnits.{definitions_in}
use Rattle.names_program.specs.Names.{Numbers}
use Rattle.names_tables.specs.Tables.{IsTable, MeansThere, unit_operator}
use Rattle.twice_terms.specs.Alike.{Alike, AlikeBy, AlikeRows, AlikeUpTo, IsOneVariable}
use Rattle.twice_terms.proofs.Growing.{heads_up_to}
use Rattle.twice_terms.proofs.Limits.{limit_term}
use Rattle.twice_tables.specs.Places.{AlikeLocals, no_locals_alike, AreAlikeNames, ValuesAre}
use Rattle.twice_tables.proofs.BothWays.{alike_through}
use Rattle.twice_tables.proofs.Heads.{RowsAre, InBoth, in_both, names_alike, same_heads}
use Rattle.twice_tables.proofs.Levelled.{term_level}
use Rattle.twice_tables.proofs.Placed.{all_bound}

module _ (Same : Val → Val → Type 0) (itself : (v : Val) → Same v v) (p : Program) (c : Config) (values others : List Val) (number renumber : Numbers) (ops all : List Operator) (are : ValuesAre Same p c values others) where
  abbrev UpTo : ℕ → ℕ → ℕ → Type 0
  UpTo = AlikeUpTo Same IsOneVariable ops all

  abbrev Rows : (ℕ → ℕ → Type 0) → Type 0
  Rows = RowsAre Same itself p c values others number renumber ops all are

  -- what a tree means among the names of the program, through so many uses
  there_alike : (n : ℕ) → Rows (UpTo n) → (params : List (List ℕ)) (t : Tree) (e f : Term) → MeansThere p c values number ops params t e → MeansThere p c others renumber all params t f → AlikeBy Same IsOneVariable (UpTo n) e f
  there_alike n rows params t e f g h =
      let names : AreAlikeNames Same (λ k j. Unit {0} → UpTo n k j) g.names h.names =
      names_alike Same itself p c values others number renumber ops all are (λ k j. Unit {0} → UpTo n k j) (λ i d k j at a b q. rows i d k j at a b) params t e f g h in
      let places : AlikeLocals (λ k j. Unit {0} → UpTo n k j) (bind [] params) (bind [] params) = all_bound (λ k j. Unit {0} → UpTo n k j) [] [] params no_locals_alike in
      alike_through Same itself ops all g.names h.names n names (bind [] params) (bind [] params) t e f places g.means h.means

  module _ (first : IsTable p c values number ops) (second : IsTable p c others renumber all) where
    up_to : (n : ℕ) → Rows (UpTo n)
    up_to zero i d k j at a b = same_heads Same itself p c values others number renumber ops all are first second i d k j at a b
    up_to (suc n) i d k j at a b =
        let both : InBoth Same itself p c values others number renumber ops all are d k j = in_both Same itself p c values others number renumber ops all are first second i d k j at a b in
        let body : AlikeBy Same IsOneVariable (UpTo n) both.body both.other = there_alike n (up_to n) d.params d.body both.body both.other both.means both.means_there in
        record {
          left = unit_operator d both.own both.body;
          right = unit_operator d both.own both.other;
          here = both.here;
          there = both.there;
          same = record { name = refl; outer = refl; params = refl; level = term_level Same ops all (UpTo n) (heads_up_to Same IsOneVariable ops all n) both.body both.other body; own = refl; body = body };
        }

    pub tables_alike : (i : ℕ) (d : Definition) (k j : ℕ) → slice_get (definitions_in p.units) i ≡ Some d → number i ≡ Some k → renumber i ≡ Some j → AlikeRows Same ops all k j
    tables_alike i d k j at a b n = up_to n i d k j at a b

    -- what a tree means among the names of the program
    pub meant_alike : (params : List (List ℕ)) (t : Tree) (e f : Term) → MeansThere p c values number ops params t e → MeansThere p c others renumber all params t f → Alike Same ops all e f
    meant_alike params t e f g h =
        let through : (n : ℕ) → AlikeBy Same IsOneVariable (UpTo n) e f = λ n. there_alike n (up_to n) params t e f g h in
        limit_term Same IsOneVariable UpTo e f (through zero) through
