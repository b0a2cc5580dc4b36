-- Of two tables of one program the rows of each definition have the same heads: by the numbers of the first table, since levels come from below.
use Rattle.std.proofs.Common.{◌≡◌, ◌∙◌, sym, refl, subst, ℕ, zero, suc, List, [], length, ◌<◌, arith}
use Rattle.std.specs.Prelude.{◌≢◌, Some, slice_get}
use Rattle.values_core.specs.Data.{Val}
use Rattle.reading_trees.specs.Trees.{Tree}
use Rattle.reading_trees.specs.declared.config.Config.{Config}
use Rattle.reading_trees.specs.declared.expr.Definition.{Definition}
use Rattle.reading_trees.specs.declared.module.Program.{Program}
use Rattle.names_terms.specs.declared.level.Level.TheVariants as levels
use Rattle.names_terms.specs.declared.operator.Operator.{Operator}
use Rattle.names_terms.specs.declared.operator.Own.{Own}
use Rattle.names_terms.specs.declared.operator.Own.TheVariants.{Apart, Function, Itself}
use Rattle.names_terms.specs.Terms.{Term, level_of}
use Rattle.names_scopes.specs.Scopes.{bind}
use Rattle.names_program.specs.InUnits.{definitions_in}
use Rattle.names_program.specs.Names.{Numbers}
use Rattle.names_tables.specs.Tables.{IsTable, IsTabled, MeansThere, unit_operator}
use Rattle.names_tables.proofs.OwnMarks.{own_one}
use Rattle.names_term_parts.specs.Slots.{IsInOrder}
use Rattle.names_term_parts.proofs.Ordering.{apart_below}
use Rattle.twice_terms.specs.Alike.{SameHeads}
use Rattle.twice_tables.specs.Places.{AlikeLocals, no_locals_alike, AreAlikeNames, AreMentioned, BodiesStay, ValuesAre}
use Rattle.twice_tables.proofs.BothWays.{same_level}
use Rattle.twice_tables.proofs.Placed.{all_bound}
use Rattle.twice_tables.proofs.ProgramNames.{program_alike}

low : (n k : ℕ) (a own : Own) (e : Term) → a ≡ own → own ≢ Apart → IsInOrder n k a e → level_of e ≡ levels.Constant
low n k Apart own e q w h = absurd (w (sym q))
low n k Itself own e q w h = h.0
low n k Function own e q w h = h.0

module _ (Same : Val → Val → Type 0) (itself : (v : Val) → Same v v) (p : Program) (c : Config) (values others : List Val) (number renumber : Numbers) (ops all : List Operator) (are : ValuesAre Same p c values others) where
  -- of each definition, the rows of both tables are such
  abbrev pub RowsAre : (ℕ → ℕ → Type 0) → Type 0
  RowsAre Row = (i : ℕ) (d : Definition) (k j : ℕ) → slice_get (definitions_in p.units) i ≡ Some d → number i ≡ Some k → renumber i ≡ Some j → Row k j

  -- the names of the program, where such rows stand for each other
  pub names_alike : (Row : ℕ → ℕ → Type 0) → RowsAre Row → (params : List (List ℕ)) (t : Tree) (e f : Term) (g : MeansThere p c values number ops params t e) (h : MeansThere p c others renumber all params t f) → AreAlikeNames Same Row g.names h.names
  names_alike Row rows params t e f g h n v w a b = program_alike Same p c values others are itself Row number renumber rows n v w (sym (g.are n) ∙ a) (sym (h.are n) ∙ b)

  -- a definition in both tables
  pub record InBoth (d : Definition) (k j : ℕ) : Type 0 where
    pub own : Own
    pub body : Term
    pub other : Term
    pub here : slice_get ops k ≡ Some (unit_operator d own body)
    pub there : slice_get all j ≡ Some (unit_operator d own other)
    pub means : MeansThere p c values number ops d.params d.body body
    pub means_there : MeansThere p c others renumber all d.params d.body other

  module _ (first : IsTable p c values number ops) (second : IsTable p c others renumber all) where
    pub in_both : (i : ℕ) (d : Definition) (k j : ℕ) → slice_get (definitions_in p.units) i ≡ Some d → number i ≡ Some k → renumber i ≡ Some j → InBoth d k j
    in_both i d k j at e f =
        let a : IsTabled p c values number ops i d = first.definitions i d at in
        let b : IsTabled p c others renumber all i d = second.definitions i d at in
        let x : Some a.row ≡ Some k = sym a.numbered ∙ e in
        let y : Some b.row ≡ Some j = sym b.numbered ∙ f in
        let s : a.row ≡ k = cc in
        let t : b.row ≡ j = cc in
        let same : b.own ≡ a.own = own_one p c i d b.own a.own at b.marked a.marked in
        record {
          own = a.own;
          body = a.body;
          other = b.body;
          here = subst (λ (n : ℕ). slice_get ops n ≡ Some (unit_operator d a.own a.body)) s a.stands;
          there = subst (λ (o : Own). slice_get all j ≡ Some (unit_operator d o b.body)) same (subst (λ (n : ℕ). slice_get all n ≡ Some (unit_operator d b.own b.body)) t b.stands);
          means = a.means;
          means_there = b.means;
        }

    abbrev HeadsBelow : ℕ → ℕ → ℕ → Type 0
    HeadsBelow n k j = k < n → SameHeads ops all k j

    -- the bodies have one level, where the heads of smaller numbers are the same
    apart_level : (d : Definition) (k j : ℕ) → RowsAre (HeadsBelow k) → (b : InBoth d k j) → b.own ≡ Apart → level_of b.body ≡ level_of b.other
    apart_level d k j rows b q =
        let stay : BodiesStay ops (λ m. m < k) = λ n o e apart lt i m. (let less : i < n = apart_below ops n o first.smaller e apart i m in omega (arith, less, lt)) in
        let names : AreAlikeNames Same (HeadsBelow k) b.means.names b.means_there.names = names_alike (HeadsBelow k) rows d.params d.body b.body b.other b.means b.means_there in
        let places : AlikeLocals (HeadsBelow k) (bind [] d.params) (bind [] d.params) = all_bound (HeadsBelow k) [] [] d.params no_locals_alike in
        let below : AreMentioned (λ m. m < k) b.body = apart_below ops k (unit_operator d b.own b.body) first.smaller b.here q in
        same_level Same itself ops all b.means.names b.means_there.names k stay names (bind [] d.params) (bind [] d.params) d.body b.body b.other places below b.means.means b.means_there.means

    -- one that uses itself has level 0 in both
    body_level : (d : Definition) (k j : ℕ) → RowsAre (HeadsBelow k) → (b : InBoth d k j) → (own : Own) → b.own ≡ own → level_of b.body ≡ level_of b.other
    body_level d k j rows b Apart q = apart_level d k j rows b q
    body_level d k j rows b Itself q = low (length ops) k b.own Itself b.body q (λ e. (cc)) (first.smaller k (unit_operator d b.own b.body) b.here) ∙ sym (low (length all) j b.own Itself b.other q (λ e. (cc)) (second.smaller j (unit_operator d b.own b.other) b.there))
    body_level d k j rows b Function q = low (length ops) k b.own Function b.body q (λ e. (cc)) (first.smaller k (unit_operator d b.own b.body) b.here) ∙ sym (low (length all) j b.own Function b.other q (λ e. (cc)) (second.smaller j (unit_operator d b.own b.other) b.there))

    heads_below : (n : ℕ) → RowsAre (HeadsBelow n)
    heads_below zero i d k j at e f lt = absurd (omega (arith, lt))
    heads_below (suc n) i d k j at e f lt =
        let b : InBoth d k j = in_both i d k j at e f in
        let rest : RowsAre (HeadsBelow k) = λ i2 d2 k2 j2 at2 e2 f2 lt2. heads_below n i2 d2 k2 j2 at2 e2 f2 (omega (arith, lt, lt2)) in
        record {
          left = unit_operator d b.own b.body;
          right = unit_operator d b.own b.other;
          here = b.here;
          there = b.there;
          name = refl;
          outer = refl;
          params = refl;
          level = body_level d k j rest b b.own refl;
          own = refl;
        }

    pub same_heads : RowsAre (SameHeads ops all)
    same_heads i d k j at e f = heads_below (suc k) i d k j at e f (omega arith)
