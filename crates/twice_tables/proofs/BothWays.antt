-- The walk over a tree serves twice. Once for levels alone, where the definitions with the same heads stand for each other, below a number of the first table. Then
-- for whole terms, where those do that are alike through so many uses: nothing is asked of their numbers.
use Rattle.std.proofs.Common.{◌≡◌, refl, List, length}
use Rattle.std.specs.Prelude.{◌≢◌, ◌<◌, ℕ, zero, suc, Some, slice_get}
use Rattle.values_core.specs.Data.{Val}
use Rattle.reading_trees.specs.Trees.{Tree}
use Rattle.names_terms.specs.declared.ids.DefId.{DefId}
use Rattle.names_terms.specs.declared.operator.Operator.{Operator}
use Rattle.names_terms.specs.declared.operator.Own.{Own}
use Rattle.names_terms.specs.declared.operator.Own.TheVariants.{Apart, Function, Itself}
use Rattle.names_terms.specs.Terms.{Term, level_of}
use Rattle.names_scopes.specs.declared.meant.Entry.{Entry}
use Rattle.names_scopes.specs.declared.scope.Local.{Local}
use Rattle.names_scopes.specs.declared.meant.Meant.{Meant}
use Rattle.names_scopes.specs.Scopes.{bind, slots}
use Rattle.names_meanings.specs.Means.{Means, local_operator, own_level, with_own}
use Rattle.twice_terms.specs.Alike.{AlikeBy, AlikeRows, SameHeads, AlikeUpTo, IsOneVariable}
use Rattle.twice_terms.proofs.Growing.{fewer, heads_of, heads_up_to}
use Rattle.twice_tables.specs.Places.{AlikeMeant, slot_meant, variable_meant, known_meant, set_meant, standard_meant, definition_meant, AlikeLocals, no_locals_alike, bound_alike, defined_alike, AreAlikeNames, AreMentioned, BodiesStay}
use Rattle.twice_tables.proofs.Levelled.{term_level}
use Rattle.twice_tables.proofs.Meanings.{OwnStand, RowIf, tree_alike}
use Rattle.twice_tables.proofs.Placed.{all_bound, one_defined, slots_alike}

-- Scopes and names, where more stands for each other.

locals_more : (R P : ℕ → ℕ → Type 0) → ((k j : ℕ) → R k j → P k j) → (sc tc : List Local) → AlikeLocals R sc tc → AlikeLocals P sc tc
locals_more R P f _ _ no_locals_alike = no_locals_alike
locals_more R P f _ _ (bound_alike n sc tc h) = bound_alike n sc tc (locals_more R P f sc tc h)
locals_more R P f _ _ (defined_alike n k j p sc tc r h) = defined_alike n k j p sc tc (f k.0 j.0 r) (locals_more R P f sc tc h)

meant_more : (Same : Val → Val → Type 0) (R P : ℕ → ℕ → Type 0) → ((k j : ℕ) → R k j → P k j) → (v w : Meant) → AlikeMeant Same R v w → AlikeMeant Same P v w
meant_more Same R P f _ _ (slot_meant i) = slot_meant i
meant_more Same R P f _ _ (variable_meant x) = variable_meant x
meant_more Same R P f _ _ (known_meant v w s) = known_meant v w s
meant_more Same R P f _ _ (set_meant s) = set_meant s
meant_more Same R P f _ _ (standard_meant o) = standard_meant o
meant_more Same R P f _ _ (definition_meant k j r) = definition_meant k j (f k.0 j.0 r)

own_levels : (seen : Own) (x y : Term) → seen ≢ Apart → own_level seen x ≡ own_level seen y
own_levels Apart x y n = absurd (n refl)
own_levels Itself x y n = refl
own_levels Function x y n = refl

-- the scope in the body of a definition that uses itself
own_places : (Row : ℕ → ℕ → Type 0) (seen : Own) (mid tid : List Local) (m : List ℕ) (k j : DefId) (p : ℕ) → Row k.0 j.0 → AlikeLocals Row mid tid → AlikeLocals Row (with_own seen mid m k p) (with_own seen tid m j p)
own_places Row Apart mid tid m k j p r s = s
own_places Row Itself mid tid m k j p r s = one_defined Row mid tid m k j p r s
own_places Row Function mid tid m k j p r s = one_defined Row mid tid m k j p r s

module _ (Same : Val → Val → Type 0) (itself : (v : Val) → Same v v) (ops all : List Operator) (names others : List Entry) where
  -- definitions of LETs that use themselves have the same heads: their level is 0
  own_heads : (Q : ℕ → Type 0) → OwnStand ops all (SameHeads ops all) Q names others
  own_heads Q seen n mid tid m k j ps a x y s b p q g h = record {
    left = local_operator (slots mid) (length ps) seen x;
    right = local_operator (slots tid) (length ps) seen y;
    here = p;
    there = q;
    name = refl;
    outer = slots_alike (RowIf Q (SameHeads ops all)) mid tid s;
    params = refl;
    level = own_levels seen x y n;
    own = refl;
  }

  -- rows below this number have the same heads
  abbrev HeadsBelow : ℕ → ℕ → ℕ → Type 0
  HeadsBelow n k j = k < n → SameHeads ops all k j

  pub same_level : (n : ℕ) → BodiesStay ops (λ k. k < n) → AreAlikeNames Same (HeadsBelow n) names others → (sc tc : List Local) (t : Tree) (e f : Term) → AlikeLocals (HeadsBelow n) sc tc → AreMentioned (λ k. k < n) e → Means names ops sc t e → Means others all tc t f → level_of e ≡ level_of f
  same_level n stay are sc tc t e f s below g h =
      let alike : AlikeBy Same IsOneVariable (SameHeads ops all) e f =
      tree_alike Same ops all (SameHeads ops all) (λ k j x. x) (heads_of Same IsOneVariable ops all (SameHeads ops all)) (λ k. k < n) names others stay are itself (own_heads (λ k. k < n)) sc tc t e f s below g h in
      term_level Same ops all (SameHeads ops all) (λ k j x. x) e f alike

  -- Definitions of LETs that use themselves are alike through so many uses, where such as are mentioned are: one use less at each step inside.
  module _ (Q : ℕ → Type 0) (stay : BodiesStay ops Q) (keep : (k : ℕ) (o : Operator) → slice_get ops k ≡ Some o → Q k → AreMentioned Q o.body) where
    abbrev UpTo : ℕ → ℕ → ℕ → Type 0
    UpTo n = AlikeUpTo Same IsOneVariable ops all n

    less : (n k j : ℕ) → RowIf Q (UpTo (suc n)) k j → RowIf Q (UpTo n) k j
    less n k j r q = fewer Same IsOneVariable ops all n k j (r q)

    fewer_names : (n : ℕ) → AreAlikeNames Same (RowIf Q (UpTo (suc n))) names others → AreAlikeNames Same (RowIf Q (UpTo n)) names others
    fewer_names n are m v w p q = meant_more Same (RowIf Q (UpTo (suc n))) (RowIf Q (UpTo n)) (less n) v.meant w.meant (are m v w p q)

    pub own_alike : (n : ℕ) → AreAlikeNames Same (RowIf Q (UpTo n)) names others → OwnStand ops all (UpTo n) Q names others
    own_alike zero are seen n mid tid m k j ps a x y s b p q g h = record {
      left = local_operator (slots mid) (length ps) seen x;
      right = local_operator (slots tid) (length ps) seen y;
      here = p;
      there = q;
      name = refl;
      outer = slots_alike (RowIf Q (UpTo zero)) mid tid s;
      params = refl;
      level = own_levels seen x y n;
      own = refl;
    }
    own_alike (suc n) are seen ne mid tid m k j ps a x y s b p q g h =
        let below : AreAlikeNames Same (RowIf Q (UpTo n)) names others = fewer_names n are in
        let around : AlikeLocals (RowIf Q (UpTo n)) mid tid = locals_more (RowIf Q (UpTo (suc n))) (RowIf Q (UpTo n)) (less n) mid tid s in
        let itself_there : RowIf Q (UpTo n) k.0 j.0 = λ u. own_alike n below seen ne mid tid m k j ps a x y around b p q g h in
        let places : AlikeLocals (RowIf Q (UpTo n)) (bind (with_own seen mid m k (length ps)) ps) (bind (with_own seen tid m j (length ps)) ps) = all_bound (RowIf Q (UpTo n)) (with_own seen mid m k (length ps)) (with_own seen tid m j (length ps)) ps (own_places (RowIf Q (UpTo n)) seen mid tid m k j (length ps) itself_there around) in
        record {
          left = local_operator (slots mid) (length ps) seen x;
          right = local_operator (slots tid) (length ps) seen y;
          here = p;
          there = q;
          same = record {
            name = refl;
            outer = slots_alike (RowIf Q (UpTo (suc n))) mid tid s;
            params = refl;
            level = own_levels seen x y ne;
            own = refl;
            body = tree_alike Same ops all (UpTo n) (heads_up_to Same IsOneVariable ops all n) (fewer Same IsOneVariable ops all n) Q names others stay below itself (own_alike n below) (bind (with_own seen mid m k (length ps)) ps) (bind (with_own seen tid m j (length ps)) ps) a x y places (keep k.0 (local_operator (slots mid) (length ps) seen x) p b) g h;
          };
        }

  -- rows that are alike through so many uses, whichever they are
  abbrev Through : ℕ → ℕ → ℕ → Type 0
  Through n k j = Unit {0} → AlikeUpTo Same IsOneVariable ops all n k j

  pub alike_through : (n : ℕ) → AreAlikeNames Same (Through n) names others → (sc tc : List Local) (t : Tree) (e f : Term) → AlikeLocals (Through n) sc tc → Means names ops sc t e → Means others all tc t f → AlikeBy Same IsOneVariable (AlikeUpTo Same IsOneVariable ops all n) e f
  alike_through n are sc tc t e f s g h =
      tree_alike Same ops all (AlikeUpTo Same IsOneVariable ops all n) (heads_up_to Same IsOneVariable ops all n) (fewer Same IsOneVariable ops all n) (λ k. Unit {0}) names others (λ k o q apart u j m. tt) are itself (own_alike (λ k. Unit {0}) (λ k o q apart u j m. tt) (λ k o q u j m. tt) n are) sc tc t e f s (λ k m. tt) g h

  -- rows that are alike, of those that are kept
  abbrev Kept : (ℕ → Type 0) → ℕ → ℕ → Type 0
  Kept Q k j = Q k → AlikeRows Same ops all k j

  pub own_limit : (Q : ℕ → Type 0) → BodiesStay ops Q → ((k : ℕ) (o : Operator) → slice_get ops k ≡ Some o → Q k → AreMentioned Q o.body) → AreAlikeNames Same (Kept Q) names others → OwnStand ops all (AlikeRows Same ops all) Q names others
  own_limit Q stay keep are seen ne mid tid m k j ps a x y s b p q g h n =
      own_alike Q stay keep n (λ i v w u z. meant_more Same (Kept Q) (RowIf Q (AlikeUpTo Same IsOneVariable ops all n)) (λ k j r t. r t n) v.meant w.meant (are i v w u z)) seen ne mid tid m k j ps a x y
      (locals_more (Kept Q) (RowIf Q (AlikeUpTo Same IsOneVariable ops all n)) (λ k j r t. r t n) mid tid s) b p q g h
