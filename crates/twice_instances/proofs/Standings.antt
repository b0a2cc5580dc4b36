-- The walk over a tree serves twice. Once for levels alone, where definitions with the same heads stand for each other, below a number of the module's table. Then
-- for whole terms, where those do that are alike through so many uses: nothing is asked of their numbers.
use Rattle.std.proofs.Common.{◌≡◌, ◌∙◌, sym, refl, List, length}
use Rattle.std.specs.Prelude.{◌≢◌, ◌<◌, ℕ, zero, suc}
use Rattle.reading_trees.specs.Trees.{Tree}
use Rattle.names_terms.specs.declared.ids.DefId.{DefId}
use Rattle.names_terms.specs.declared.operator.Operator.{Operator}
use Rattle.names_terms.specs.declared.operator.Own.{Own}
use Rattle.names_terms.specs.declared.operator.Own.TheVariants.{Apart, Function, Itself}
use Rattle.names_terms.specs.Terms.{Term, level_of}
use Rattle.names_scopes.specs.declared.meant.Entry.{Entry}
use Rattle.names_scopes.specs.declared.scope.Local.{Local}
use Rattle.names_scopes.specs.declared.meant.Meant.{Meant}
use Rattle.names_scopes.specs.Mentions.{mentions}
use Rattle.names_scopes.specs.Scopes.{among, bind, slots}
use Rattle.names_meanings.specs.Means.{Means, local_operator, own_level, with_own}
use Rattle.names_instances.specs.Made.{StandIns, made}
use Rattle.twice_terms.specs.Alike.{AlikeBy}
use Rattle.twice_terms.specs.Laws.{AreOne}
use Rattle.twice_tables.specs.Places.{AlikeLocals, no_locals_alike, bound_alike, defined_alike, AreMentioned, BodiesStay}
use Rattle.twice_tables.proofs.Meanings.{RowIf}
use Rattle.twice_tables.proofs.Placed.{all_bound, one_defined, slots_alike}
use Rattle.twice_instances.specs.Alikeness.{LikeHeads, LikeUpTo}
use Rattle.twice_instances.proofs.Growing.{fewer, heads_of, heads_up_to}
use Rattle.twice_instances.specs.Standing.{NamesStand, StandsFor, slot_stands, variable_stands, known_stands, set_stands, standard_stands, definition_stands, stand_in}
use Rattle.twice_instances.specs.Trees.{IsFit}
use Rattle.twice_instances.proofs.Around.{Around}
use Rattle.twice_instances.proofs.Levelled.{term_level}
use Rattle.twice_instances.proofs.Walk.{OwnStand, tree_alike}

-- Scopes and names, where more stands for each other.

locals_more : (R P : ℕ → ℕ → Type 0) → ((k j : ℕ) → R k j → P k j) → (sc tc : List Local) → AlikeLocals R sc tc → AlikeLocals P sc tc
locals_more R P f _ _ no_locals_alike = no_locals_alike
locals_more R P f _ _ (bound_alike n sc tc h) = bound_alike n sc tc (locals_more R P f sc tc h)
locals_more R P f _ _ (defined_alike n k j p sc tc r h) = defined_alike n k j p sc tc (f k.0 j.0 r) (locals_more R P f sc tc h)

stands_more : (Stands R P : ℕ → ℕ → Type 0) → ((k j : ℕ) → R k j → P k j) → (v w : Meant) → StandsFor Stands R v w → StandsFor Stands P v w
stands_more Stands R P f _ _ (slot_stands i) = slot_stands i
stands_more Stands R P f _ _ (variable_stands x y s) = variable_stands x y s
stands_more Stands R P f _ _ (known_stands v) = known_stands v
stands_more Stands R P f _ _ (set_stands s) = set_stands s
stands_more Stands R P f _ _ (standard_stands o) = standard_stands o
stands_more Stands R P f _ _ (definition_stands k j r) = definition_stands k j (f k.0 j.0 r)

pub names_more : (Stands R P : ℕ → ℕ → Type 0) (by : StandIns) (own others : List Entry) → ((k j : ℕ) → R k j → P k j) → NamesStand Stands R by own others → NamesStand Stands P by own others
names_more Stands R P by own others f h = record {
  names = λ n v w p q. stands_more Stands R P f v.meant w.meant (h.names n v w p q);
  qualified = h.qualified;
  no_at_sign = h.no_at_sign;
}

-- among other names of the program that mean the same
pub names_as : (Stands R : ℕ → ℕ → Type 0) (by : StandIns) (own others names : List Entry) → ((n : List ℕ) → among names n ≡ among others n) → NamesStand Stands R by own others → NamesStand Stands R by own names
names_as Stands R by own others names same h = record {
  names = λ n v w p q. h.names n v w p (sym (same (stand_in n (by n))) ∙ q);
  qualified = h.qualified;
  no_at_sign = h.no_at_sign;
}

own_levels : (seen : Own) (x y : Term) → seen ≢ Apart → own_level seen x ≡ own_level seen y
own_levels Apart x y n = absurd (n refl)
own_levels Itself x y n = refl
own_levels Function x y n = refl

-- the scope in the body of a definition that uses itself
own_places : (Row : ℕ → ℕ → Type 0) (seen : Own) (mid tid : List Local) (m : List ℕ) (k j : DefId) (p : ℕ) → Row k.0 j.0 → AlikeLocals Row mid tid → AlikeLocals Row (with_own seen mid m k p) (with_own seen tid m j p)
own_places Row Apart mid tid m k j p r s = s
own_places Row Itself mid tid m k j p r s = one_defined Row mid tid m k j p r s
own_places Row Function mid tid m k j p r s = one_defined Row mid tid m k j p r s

module _ (Stands : ℕ → ℕ → Type 0) (by : StandIns) (ops all : List Operator) (names others : List Entry) where
  -- definitions of LETs that use themselves have the same heads: their level is 0
  own_heads : (Q : ℕ → Type 0) → OwnStand by ops all (LikeHeads ops all) Q names others
  own_heads Q seen n mid tid m k j ps counted a x y s ar pl b p q g h = record {
    left = local_operator (slots mid) (length ps) seen x;
    right = local_operator (slots tid) (length ps) seen y;
    here = p;
    there = q;
    outer = slots_alike (RowIf Q (LikeHeads ops all)) mid tid s;
    params = refl;
    level = own_levels seen x y n;
    own = refl;
  }

  -- rows below this number have the same heads
  abbrev HeadsBelow : ℕ → ℕ → ℕ → Type 0
  HeadsBelow n k j = k < n → LikeHeads ops all k j

  pub same_level : (n : ℕ) → BodiesStay ops (λ k. k < n) → NamesStand Stands (HeadsBelow n) by names others → (counted : List (List ℕ)) (sc tc : List Local) (t : Tree) (e f : Term) → AlikeLocals (HeadsBelow n) sc tc → Around counted sc (λ m. mentions m t) → IsFit t → AreMentioned (λ k. k < n) e → Means names ops sc t e → Means others all tc (made by counted t) f → level_of e ≡ level_of f
  same_level n stay are counted sc tc t e f s ar pl below g h =
      let alike : AlikeBy AreOne Stands (LikeHeads ops all) e f =
      tree_alike Stands by ops all (LikeHeads ops all) (λ k j x. x) (heads_of Stands ops all (LikeHeads ops all)) (λ k. k < n) names others stay are (own_heads (λ k. k < n)) counted sc tc t e f s ar pl below g h in
      term_level Stands ops all (LikeHeads ops all) (λ k j x. x) e f alike

  abbrev UpTo : ℕ → ℕ → ℕ → Type 0
  UpTo n = LikeUpTo Stands ops all n

  -- rows that are alike through so many uses, whichever they are
  abbrev Through : ℕ → ℕ → ℕ → Type 0
  Through n k j = Unit {0} → UpTo n k j

  less : (n k j : ℕ) → Through (suc n) k j → Through n k j
  less n k j r q = fewer Stands ops all n k j (r q)

  abbrev any_row : ℕ → Type 0
  any_row k = Unit {0}

  all_stay : BodiesStay ops any_row
  all_stay k o q apart u j m = tt

  own_alike : (n : ℕ) → NamesStand Stands (Through n) by names others → OwnStand by ops all (UpTo n) any_row names others
  own_alike zero are seen ne mid tid m k j ps counted a x y s ar pl b p q g h = record {
    left = local_operator (slots mid) (length ps) seen x;
    right = local_operator (slots tid) (length ps) seen y;
    here = p;
    there = q;
    outer = slots_alike (Through zero) mid tid s;
    params = refl;
    level = own_levels seen x y ne;
    own = refl;
  }
  own_alike (suc n) are seen ne mid tid m k j ps counted a x y s ar pl b p q g h =
      let below : NamesStand Stands (Through n) by names others = names_more Stands (Through (suc n)) (Through n) by names others (less n) are in
      let around : AlikeLocals (Through n) mid tid = locals_more (Through (suc n)) (Through n) (less n) mid tid s in
      let itself_there : Through n k.0 j.0 = λ u. own_alike n below seen ne mid tid m k j ps counted a x y around ar pl b p q g h in
      let places : AlikeLocals (Through n) (bind (with_own seen mid m k (length ps)) ps) (bind (with_own seen tid m j (length ps)) ps) = all_bound (Through n) (with_own seen mid m k (length ps)) (with_own seen tid m j (length ps)) ps (own_places (Through n) seen mid tid m k j (length ps) itself_there around) in
      record {
        left = local_operator (slots mid) (length ps) seen x;
        right = local_operator (slots tid) (length ps) seen y;
        here = p;
        there = q;
        same = record {
          outer = slots_alike (Through (suc n)) mid tid s;
          params = refl;
          level = own_levels seen x y ne;
          own = refl;
          body = tree_alike Stands by ops all (UpTo n) (heads_up_to Stands ops all n) (fewer Stands ops all n) any_row names others all_stay below (own_alike n below) counted (bind (with_own seen mid m k (length ps)) ps) (bind (with_own seen tid m j (length ps)) ps) a x y places ar pl (λ i mentioned. tt) g h;
        };
      }

  pub alike_through : (n : ℕ) → NamesStand Stands (Through n) by names others → (counted : List (List ℕ)) (sc tc : List Local) (t : Tree) (e f : Term) → AlikeLocals (Through n) sc tc → Around counted sc (λ m. mentions m t) → IsFit t → Means names ops sc t e → Means others all tc (made by counted t) f → AlikeBy AreOne Stands (UpTo n) e f
  alike_through n are counted sc tc t e f s ar pl g h =
      tree_alike Stands by ops all (UpTo n) (heads_up_to Stands ops all n) (fewer Stands ops all n) any_row names others all_stay are (own_alike n are) counted sc tc t e f s ar pl (λ i mentioned. tt) g h
