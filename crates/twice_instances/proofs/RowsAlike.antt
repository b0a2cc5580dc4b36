-- The definitions of a module and those of an instance of it are alike: first their heads, by the numbers of the module's table, since levels come from below;
-- then through more and more uses.
use Rattle.std.proofs.Common.{◌≡◌, ◌∙◌, sym, refl, ℕ, zero, suc, List, [], length, ◌<◌, arith, inl, inr}
use Rattle.std.specs.Prelude.{◌≢◌, ◌⊎◌, Some, slice_get}
use Rattle.reading_trees.specs.Trees.{Tree}
use Rattle.reading_trees.specs.declared.expr.Definition.{Definition}
use Rattle.names_terms.specs.declared.level.Level.TheVariants as levels
use Rattle.names_terms.specs.declared.operator.Operator.{Operator}
use Rattle.names_terms.specs.declared.operator.Own.{Own}
use Rattle.names_terms.specs.declared.operator.Own.TheVariants.{Apart, Function, Itself}
use Rattle.names_terms.specs.Terms.{Term, level_of}
use Rattle.names_scopes.specs.declared.meant.Entry.{Entry}
use Rattle.names_scopes.specs.Mentions.{mentions}
use Rattle.names_scopes.specs.Scopes.{among, bind}
use Rattle.names_meanings.specs.Means.{Means}
use Rattle.names_program.specs.Names.{Numbers}
use Rattle.names_term_parts.specs.Slots.{IsInOrder}
use Rattle.names_term_parts.proofs.Ordering.{apart_below}
use Rattle.names_instances.specs.Made.{StandIns, made}
use Rattle.twice_terms.specs.Alike.{AlikeBy}
use Rattle.twice_terms.specs.Laws.{AreOne}
use Rattle.twice_terms.proofs.Limits.{limit_term}
use Rattle.twice_tables.specs.Places.{AlikeLocals, no_locals_alike, AreMentioned, BodiesStay}
use Rattle.twice_tables.proofs.Placed.{all_bound}
use Rattle.twice_instances.specs.Alikeness.{Like, LikeHeads, LikeRows, LikeUpTo}
use Rattle.twice_instances.specs.Seen.{IsSubstitute}
use Rattle.twice_instances.proofs.Growing.{heads_up_to}
use Rattle.twice_instances.specs.Standing.{NamesStand}
use Rattle.twice_instances.specs.Trees.{ArePlain, IsFit}
use Rattle.twice_instances.specs.Rows.{AreOfOne, AreRead, IsInstance, InstanceRows, InstanceTerms, row_of}
use Rattle.twice_instances.proofs.Around.{around_params}
use Rattle.twice_instances.proofs.Levelled.{term_level}
use Rattle.twice_instances.proofs.Standings.{alike_through, names_as, names_more, same_level}

low : (n k : ℕ) (a own : Own) (e : Term) → a ≡ own → own ≢ Apart → IsInOrder n k a e → level_of e ≡ levels.Constant
low n k Apart own e q w h = absurd (w (sym q))
low n k Itself own e q w h = h.0
low n k Function own e q w h = h.0

module _ (substitute : ℕ → ℕ) (variables : ℕ) (by : StandIns) (own others : List Entry) (ops all : List Operator) (ds : List Definition) (number renumber : Numbers) (instance : IsInstance substitute variables by own others ops all ds number renumber) where
  abbrev Stands : ℕ → ℕ → Type 0
  Stands = IsSubstitute substitute variables

  -- of each definition, the rows of both tables are such
  abbrev RowsAre : (ℕ → ℕ → Type 0) → Type 0
  RowsAre Row = (i : ℕ) (d : Definition) (k j : ℕ) → slice_get ds i ≡ Some d → number i ≡ Some k → renumber i ≡ Some j → Row k j

  -- the names, where such rows stand for each other
  names_of : (Row : ℕ → ℕ → Type 0) → RowsAre Row → ((k j : ℕ) → LikeRows Stands ops all k j → Row k j) → NamesStand Stands Row by own others
  names_of Row rows told =
      names_more Stands (λ k j. AreOfOne ds number renumber k j ⊎ LikeRows Stands ops all k j) Row by own others
      (λ k j h. elim h [ inl x ↦ rows x.0 x.1 k j x.2 x.3 x.4 | inr y ↦ told k j y ]) instance.names

  abbrev HeadsBelow : ℕ → ℕ → ℕ → Type 0
  HeadsBelow n k j = k < n → LikeHeads ops all k j

  params_alike : (Row : ℕ → ℕ → Type 0) (ps : List (List ℕ)) → AlikeLocals Row (bind [] ps) (bind [] ps)
  params_alike Row ps = all_bound Row [] [] ps no_locals_alike

  apart_level : (i : ℕ) (d : Definition) (k j : ℕ) → slice_get ds i ≡ Some d → RowsAre (HeadsBelow k) → (b : AreRead by own others ops all d k j) → b.uses ≡ Apart → level_of b.body ≡ level_of b.made_body
  apart_level i d k j at rows b q =
      let stay : BodiesStay ops (λ m. m < k) = λ n o e apart lt i m. (let less : i < n = apart_below ops n o instance.smaller e apart i m in omega (arith, less, lt)) in
      let names : NamesStand Stands (HeadsBelow k) by own b.names = names_as Stands (HeadsBelow k) by own others b.names b.are (names_of (HeadsBelow k) rows (λ m n r lt. r zero)) in
      let below : AreMentioned (λ m. m < k) b.body = apart_below ops k (row_of d.name (length d.params) b.uses b.body) instance.smaller b.here q in
      same_level Stands by ops all own b.names k stay names d.params (bind [] d.params) (bind [] d.params) d.body b.body b.made_body (params_alike (HeadsBelow k) d.params)
      (around_params d.params (λ m. mentions m d.body) (instance.fit i d at).1) (instance.fit i d at).0 below b.means b.made_means

  -- one that uses itself has level 0 in both
  body_level : (i : ℕ) (d : Definition) (k j : ℕ) → slice_get ds i ≡ Some d → RowsAre (HeadsBelow k) → (b : AreRead by own others ops all d k j) → (uses : Own) → b.uses ≡ uses → level_of b.body ≡ level_of b.made_body
  body_level i d k j at rows b Apart q = apart_level i d k j at rows b q
  body_level i d k j at rows b Itself q =
      low (length ops) k b.uses Itself b.body q (λ e. (cc)) (instance.smaller k (row_of d.name (length d.params) b.uses b.body) b.here)
      ∙ sym (low (length all) j b.uses Itself b.made_body q (λ e. (cc)) (instance.smaller_there j (row_of b.name (length d.params) b.uses b.made_body) b.there))
  body_level i d k j at rows b Function q =
      low (length ops) k b.uses Function b.body q (λ e. (cc)) (instance.smaller k (row_of d.name (length d.params) b.uses b.body) b.here)
      ∙ sym (low (length all) j b.uses Function b.made_body q (λ e. (cc)) (instance.smaller_there j (row_of b.name (length d.params) b.uses b.made_body) b.there))

  heads_below : (n : ℕ) → RowsAre (HeadsBelow n)
  heads_below zero i d k j at e f lt = absurd (omega (arith, lt))
  heads_below (suc n) i d k j at e f lt =
      let b : AreRead by own others ops all d k j = instance.read i d k j at e f in
      let rest : RowsAre (HeadsBelow k) = λ i2 d2 k2 j2 at2 e2 f2 lt2. heads_below n i2 d2 k2 j2 at2 e2 f2 (omega (arith, lt, lt2)) in
      record {
        left = row_of d.name (length d.params) b.uses b.body;
        right = row_of b.name (length d.params) b.uses b.made_body;
        here = b.here;
        there = b.there;
        outer = refl;
        params = refl;
        level = body_level i d k j at rest b b.uses refl;
        own = refl;
      }

  abbrev UpTo : ℕ → ℕ → ℕ → Type 0
  UpTo n = LikeUpTo Stands ops all n

  -- what a tree means, through so many uses
  tree_through : (n : ℕ) → RowsAre (UpTo n) → (there : List Entry) → ((m : List ℕ) → among there m ≡ among others m) → (params : List (List ℕ)) (t : Tree) (e f : Term) → ArePlain params → IsFit t → Means own ops (bind [] params) t e → Means there all (bind [] params) (made by params t) f → AlikeBy AreOne Stands (UpTo n) e f
  tree_through n rows there are params t e f plain fit g h =
      let names : NamesStand Stands (λ k j. Unit {0} → UpTo n k j) by own there = names_as Stands (λ k j. Unit {0} → UpTo n k j) by own others there are (names_of (λ k j. Unit {0} → UpTo n k j) (λ i d k j at a b q. rows i d k j at a b) (λ k j r u. r n)) in
      alike_through Stands by ops all own there n names params (bind [] params) (bind [] params) t e f (params_alike (λ k j. Unit {0} → UpTo n k j) params) (around_params params (λ m. mentions m t) plain) fit g h

  up_to : (n : ℕ) → RowsAre (UpTo n)
  up_to zero i d k j at a b = heads_below (suc k) i d k j at a b (omega arith)
  up_to (suc n) i d k j at a b =
      let both : AreRead by own others ops all d k j = instance.read i d k j at a b in
      let body : AlikeBy AreOne Stands (UpTo n) both.body both.made_body = tree_through n (up_to n) both.names both.are d.params d.body both.body both.made_body (instance.fit i d at).1 (instance.fit i d at).0 both.means both.made_means in
      record {
        left = row_of d.name (length d.params) both.uses both.body;
        right = row_of both.name (length d.params) both.uses both.made_body;
        here = both.here;
        there = both.there;
        same = record { outer = refl; params = refl; level = term_level Stands ops all (UpTo n) (heads_up_to Stands ops all n) both.body both.made_body body; own = refl; body = body };
      }

  pub rows_alike : RowsAre (LikeRows Stands ops all)
  rows_alike i d k j at a b n = up_to n i d k j at a b

  pub terms_alike : (params : List (List ℕ)) (t : Tree) (e f : Term) → ArePlain params → IsFit t → Means own ops (bind [] params) t e → Means others all (bind [] params) (made by params t) f → Like Stands ops all e f
  terms_alike params t e f plain fit g h =
      let through : (n : ℕ) → AlikeBy AreOne Stands (UpTo n) e f = λ n. tree_through n (up_to n) others (λ m. refl) params t e f plain fit g h in
      limit_term AreOne Stands UpTo e f (through zero) through

pub instance_rows : InstanceRows
instance_rows substitute variables by own others ops all ds number renumber instance i d k j at a b = rows_alike substitute variables by own others ops all ds number renumber instance i d k j at a b

pub instance_terms : InstanceTerms
instance_terms substitute variables by own others ops all ds number renumber instance params t a i plain fit g h = terms_alike substitute variables by own others ops all ds number renumber instance params t a i plain fit g h
