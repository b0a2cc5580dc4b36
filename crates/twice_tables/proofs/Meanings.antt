-- What one tree means over two tables is alike, where its names are. The names are asked to be alike for such rows alone as the first
-- term mentions.
use Rattle.std.proofs.Common.{◌≡◌, sym, refl, subst, ℕ, suc, List, [], ◌∷◌, ◌++◌, length, ◌+◌}
use Rattle.std.specs.Prelude.{◌≢◌, All, Contains, Some, slice_get}
use Rattle.std.proofs.lemmas.List.Elements.{All-contains, All-contains_itself, All-weaker, Contains-push, Contains-append_left}
use Rattle.base_core.specs.declared.place.Place.{Place}
use Rattle.values_core.specs.Data.{Val, integer, string, truth}
use Rattle.reading_trees.specs.declared.laid.Bullet.{Bullet}
use Rattle.reading_trees.specs.declared.laid.Bullet.TheVariants as bullet
use Rattle.reading_trees.specs.declared.operators.InfixOperator.{InfixOperator}
use Rattle.reading_trees.specs.declared.operators.InfixOperator.TheVariants as infix_operator
use Rattle.reading_trees.specs.Trees as tree
use Rattle.reading_trees.specs.Trees.{Tree, place_of}
use Rattle.names_terms.specs.declared.ids.DefId.{DefId}
use Rattle.names_terms.specs.declared.level.Level.{Level}
use Rattle.names_terms.specs.declared.operator.Operator.{Operator}
use Rattle.names_terms.specs.declared.operator.Own.{Own as OwnUse}
use Rattle.names_terms.specs.declared.operator.Own.TheVariants.{Apart, Function, Itself}
use Rattle.names_terms.specs.Terms as term
use Rattle.names_terms.specs.Terms.{Term, Terms, Meaning, Placed, width}
use Rattle.names_terms.specs.Levels.{level_for}
use Rattle.names_term_parts.specs.Slots.{used, listed_in_let, mentioned_in_part}
use Rattle.names_scopes.specs.declared.meant.Entry.{Entry}
use Rattle.names_scopes.specs.declared.meant.Meant.{Meant}
use Rattle.names_scopes.specs.declared.scope.Local.{Local}
use Rattle.names_scopes.specs.declared.scope.Local.TheVariants.{Bound, Defined}
use Rattle.names_scopes.specs.Scopes as scopes
use Rattle.names_scopes.specs.Scopes.{bind, bind_bounds, slots, at_sign}
use Rattle.names_meanings.specs.Means.{Uses, Stands, Means, MeansEach, MeansOperands, MeansStep, MeansSteps, MeansBounds, MeansFields, MeansChanges, MeansArms, Defines, junction, chain, operands_list, builtin_set, local_operator, with_own}
use Rattle.names_meanings.specs.Owning.{own_of}
use Rattle.names_specification_laws.specs.Everywhere.{Everywhere, Inside, InTerms, InOperands, InStep, InSteps, InBounds, InFields, InChanges, InArms}
use Rattle.names_specification_laws.proofs.Throughout.{throughout}
use Rattle.twice_terms.specs.Alike.{AlikeBy, AlikeMeaningsBy, AlikeTermsBy, AlikeOperandsBy, AlikeStepBy, AlikeStepsBy, AlikeBoundsBy, AlikeFieldsBy, AlikeChangesBy, AlikeArmsBy, AlikeNumbersBy, placed_alike, known_alike, named_alike, variable_alike, slot_alike, use_alike, standard_alike, parenthesized_alike, scoped_alike, all_alike, any_alike, prefix_alike, infix_alike, postfix_alike, set_alike, filter_alike, map_alike, tuple_alike, function_alike, function_set_alike, record_alike, record_set_alike, except_alike, quantified_alike, choose_alike, if_alike, case_alike, case_other_alike, box_alike, angle_alike, fairness_alike, no_terms_alike, more_terms_alike, first_alike, next_alike, prime_alike, index_alike, field_alike, no_steps_alike, more_steps_alike, no_bounds_alike, more_bounds_alike, no_fields_alike, more_fields_alike, no_changes_alike, more_changes_alike, no_arms_alike, more_arms_alike, no_numbers_alike, more_numbers_alike, RowsBy, SameHeads, IsOneVariable}
use Rattle.twice_tables.specs.Places.{AlikeMeant, slot_meant, variable_meant, known_meant, set_meant, standard_meant, definition_meant, AlikeLocals, AreAlikeNames, AreMentioned, BodiesStay}
use Rattle.twice_tables.proofs.Levelled.{meaning_level, term_level}
use Rattle.twice_tables.proofs.Placed.{meaning_alike, slots_alike, one_bound, one_defined, all_bound, bounds_bound}

-- the definitions that a row itself uses or lists are such
abbrev pub Own : (ℕ → Type 0) → Meaning → Type 0
Own Q (term.Use k ts) = Q k
Own Q (term.Scoped ks e) = All Q ks
Own Q m = Unit {0}

abbrev pub Rows : (ℕ → Type 0) → ℕ → Place → Level → Meaning → Type 0
Rows Q i at l m = Own Q m

all_own : (Q : ℕ → Type 0) (ks : List ℕ) → ((k : ℕ) → Contains ks k → Q k) → All Q ks
all_own Q ks h = All-weaker (Contains ks) Q h ks (All-contains_itself ks)

own_rows : (Q : ℕ → Type 0) (i : ℕ) (at : Place) (l : Level) (m : Meaning) → AreMentioned Q (Placed at l m) → Rows Q i at l m
own_rows Q i at l (term.Known a) h = tt
own_rows Q i at l (term.Named a) h = tt
own_rows Q i at l (term.Variable a) h = tt
own_rows Q i at l (term.Slot a) h = tt
own_rows Q i at l (term.Standard a b) h = tt
own_rows Q i at l (term.Parenthesized a) h = tt
own_rows Q i at l (term.All a) h = tt
own_rows Q i at l (term.Any a) h = tt
own_rows Q i at l (term.Prefix a b) h = tt
own_rows Q i at l (term.Infix a b c) h = tt
own_rows Q i at l (term.Postfix a b c) h = tt
own_rows Q i at l (term.SetOf a) h = tt
own_rows Q i at l (term.Filter a b) h = tt
own_rows Q i at l (term.Map a b) h = tt
own_rows Q i at l (term.Tuple a) h = tt
own_rows Q i at l (term.Function a b) h = tt
own_rows Q i at l (term.FunctionSet a b) h = tt
own_rows Q i at l (term.Record a) h = tt
own_rows Q i at l (term.RecordSet a) h = tt
own_rows Q i at l (term.Except a b) h = tt
own_rows Q i at l (term.Quantified a b c) h = tt
own_rows Q i at l (term.Choose a b) h = tt
own_rows Q i at l (term.If a b c) h = tt
own_rows Q i at l (term.Case a) h = tt
own_rows Q i at l (term.CaseOther a b) h = tt
own_rows Q i at l (term.BoxAction a b) h = tt
own_rows Q i at l (term.AngleAction a b) h = tt
own_rows Q i at l (term.Fairness a b) h = tt
own_rows Q i at l (term.Use k ts) h = h k (used at l k ts)
own_rows Q i at l (term.Scoped ks e) h = all_own Q ks (λ k c. h k (listed_in_let at l ks e k c))

-- each definition that a term mentions is used or listed by some row
pub all_rows : (Q : ℕ → Type 0) (i : ℕ) (e : Term) → AreMentioned Q e → Everywhere (Rows Q) i e
all_rows Q i e h =
    throughout (AreMentioned Q) (Rows Q) (λ at l m g p c k w. g k (mentioned_in_part at l m p k c w)) (own_rows Q) i e h

-- what stands for each other by a relation, of such definitions
abbrev pub RowIf : (ℕ → Type 0) → (ℕ → ℕ → Type 0) → ℕ → ℕ → Type 0
RowIf Q R k j = Q k → R k j

-- Two definitions of LETs that use themselves stand for each other, where the names around do.
abbrev pub OwnStand : List Operator → List Operator → (ℕ → ℕ → Type 0) → (ℕ → Type 0) → List Entry → List Entry → Type 0
OwnStand ops all R Q names others =
    (seen : OwnUse) → seen ≢ Apart → (mid tid : List Local) (m : List ℕ) (k j : DefId) (ps : List (List ℕ)) (a : Tree) (x y : Term) → AlikeLocals (RowIf Q R) mid tid → Q k.0 → slice_get ops k.0 ≡ Some (local_operator (slots mid) (length ps) seen x) → slice_get all j.0 ≡ Some (local_operator (slots tid) (length ps) seen y) → Means names ops (bind (with_own seen mid m k (length ps)) ps) a x → Means others all (bind (with_own seen tid m j (length ps)) ps) a y → R k.0 j.0

-- Definitions stand for each other by any relation that asks for the same heads, and that holds of two rows where their bodies are alike by it: what a LET
-- defines is such by its body.
module _ (Same : Val → Val → Type 0) (ops all : List Operator) (R : ℕ → ℕ → Type 0) (heads : (k j : ℕ) → R k j → SameHeads ops all k j) (close : (k j : ℕ) → RowsBy Same IsOneVariable R ops all k j → R k j) (Q : ℕ → Type 0) (names others : List Entry) (stay : BodiesStay ops Q) (are : AreAlikeNames Same (λ k j. Q k → R k j) names others) (itself : (v : Val) → Same v v) (own_stand : OwnStand ops all R Q names others) where
  abbrev Row : ℕ → ℕ → Type 0
  Row k j = Q k → R k j

  abbrev Whole : ℕ → Term → Type 0
  Whole i e = Everywhere (Rows Q) i e

  abbrev Within : ℕ → Meaning → Type 0
  Within i m = Inside (Rows Q) i m

  -- one row

  at_row : (t : Tree) (m w : Meaning) (e f : Term) → Stands names ops t m e → Stands others all t w f → AlikeMeaningsBy Same IsOneVariable R m w → AlikeBy Same IsOneVariable R e f
  at_row t m w e f p q h =
      let l : level_for ops m ≡ level_for all w = meaning_level Same ops all R heads m w h in
      let r : AlikeBy Same IsOneVariable R (Placed (place_of t) (level_for all w) m) (Placed (place_of t) (level_for all w) w) = placed_alike (place_of t) (level_for all w) m w h in
      let s : AlikeBy Same IsOneVariable R (Placed (place_of t) (level_for ops m) m) (Placed (place_of t) (level_for all w) w) =
      subst (λ (x : Level). AlikeBy Same IsOneVariable R (Placed (place_of t) x m) (Placed (place_of t) (level_for all w) w)) (sym l) r in
      subst (λ (x : Term). AlikeBy Same IsOneVariable R e x) (sym q) (subst (λ (x : Term). AlikeBy Same IsOneVariable R x (Placed (place_of t) (level_for all w) w)) (sym p) s)

  inside : (i : ℕ) (t : Tree) (m : Meaning) (e : Term) → Stands names ops t m e → Whole i e → Within i m
  inside i t m e q h = (subst (λ (x : Term). Whole i x) q h).1

  own : (i : ℕ) (t : Tree) (m : Meaning) (e : Term) → Stands names ops t m e → Whole i e → Own Q m
  own i t m e q h = (subst (λ (x : Term). Whole i x) q h).0

  used_alike : (i : ℕ) (v w : Meant) (ts us : Terms) → AlikeMeant Same Row v w → Own Q (scopes.used v ts) → Within i (scopes.used v ts) → (InTerms (Rows Q) i ts → AlikeTermsBy Same IsOneVariable R ts us) → AlikeMeaningsBy Same IsOneVariable R (scopes.used v ts) (scopes.used w us)
  used_alike i _ _ ts us (slot_meant j) o b h = slot_alike j
  used_alike i _ _ ts us (variable_meant x) o b h = variable_alike x.0 x.0 refl
  used_alike i _ _ ts us (known_meant v w s) o b h = known_alike v w s
  used_alike i _ _ ts us (set_meant s) o b h = named_alike s
  used_alike i _ _ ts us (standard_meant s) o b h = standard_alike s ts us (h b)
  used_alike i _ _ ts us (definition_meant k j r) o b h = use_alike k.0 j.0 ts us (r o) (h b)

  of_use : (i : ℕ) (sc tc : List Local) (t : Tree) (x : List ℕ) (ts us : Terms) (m w : Meaning) (e f : Term) → AlikeLocals Row sc tc → Whole i e → Uses names sc x ts m → Uses others tc x us w → Stands names ops t m e → Stands others all t w f → (InTerms (Rows Q) i ts → AlikeTermsBy Same IsOneVariable R ts us) → AlikeBy Same IsOneVariable R e f
  of_use i sc tc t x ts us m w e f s b u v p q h =
      let here : AlikeMeant Same Row u.0.meant v.0.meant = meaning_alike Same Row names others sc tc x u.0 v.0 are s u.1 v.1 in
      let p2 : Stands names ops t (scopes.used u.0.meant ts) e = subst (λ (y : Meaning). Stands names ops t y e) u.2 p in
      let q2 : Stands others all t (scopes.used v.0.meant us) f = subst (λ (y : Meaning). Stands others all t y f) v.2 q in
      at_row t (scopes.used u.0.meant ts) (scopes.used v.0.meant us) e f p2 q2
      (used_alike i u.0.meant v.0.meant ts us here (own i t (scopes.used u.0.meant ts) e p2 b) (inside i t (scopes.used u.0.meant ts) e p2 b) h)

  junction_inside : (i : ℕ) (b : Bullet) (ts : Terms) → Within i (junction b ts) → InTerms (Rows Q) i ts
  junction_inside i bullet.And ts h = h
  junction_inside i bullet.Or ts h = h

  junction_alike : (b : Bullet) (ts us : Terms) → AlikeTermsBy Same IsOneVariable R ts us → AlikeMeaningsBy Same IsOneVariable R (junction b ts) (junction b us)
  junction_alike bullet.And ts us h = all_alike ts us h
  junction_alike bullet.Or ts us h = any_alike ts us h

  operands_inside : (i : ℕ) (os : term.Operands) → InTerms (Rows Q) i (operands_list os) → InOperands (Rows Q) i os
  operands_inside i (term.First e) h = h.1
  operands_inside i (term.Next os at e) h = (operands_inside i os h.0, h.1)

  chain_inside : (i : ℕ) (o : InfixOperator) (os : term.Operands) (e : Term) → Within i (chain o os e) → InOperands (Rows Q) i os × Whole i e
  chain_inside i infix_operator.And os e h = (operands_inside i os h.0, h.1)
  chain_inside i infix_operator.Or os e h = (operands_inside i os h.0, h.1)
  chain_inside i o os e h = h

  operands_terms : (os ps : term.Operands) → AlikeOperandsBy Same IsOneVariable R os ps → AlikeTermsBy Same IsOneVariable R (operands_list os) (operands_list ps)
  operands_terms _ _ (first_alike e f h) = more_terms_alike term.NoTerms term.NoTerms e f no_terms_alike h
  operands_terms _ _ (next_alike os ps at e f h k) = more_terms_alike (operands_list os) (operands_list ps) e f (operands_terms os ps h) k

  chain_alike : (o : InfixOperator) (os ps : term.Operands) (e f : Term) → AlikeOperandsBy Same IsOneVariable R os ps → AlikeBy Same IsOneVariable R e f → AlikeMeaningsBy Same IsOneVariable R (chain o os e) (chain o ps f)
  chain_alike infix_operator.And os ps e f h k = all_alike (term.MoreTerms (operands_list os) e) (term.MoreTerms (operands_list ps) f) (more_terms_alike (operands_list os) (operands_list ps) e f (operands_terms os ps h) k)
  chain_alike infix_operator.Or os ps e f h k = any_alike (term.MoreTerms (operands_list os) e) (term.MoreTerms (operands_list ps) f) (more_terms_alike (operands_list os) (operands_list ps) e f (operands_terms os ps h) k)
  chain_alike o os ps e f h k = infix_alike o os ps e f h k

  -- the definitions of two lists that end with one are alike
  numbers_push : (ks js : List ℕ) (k j : ℕ) → R k j → AlikeNumbersBy Same IsOneVariable R ks js → AlikeNumbersBy Same IsOneVariable R (ks ++ k ∷ []) (js ++ j ∷ [])
  numbers_push _ _ k j r no_numbers_alike = more_numbers_alike k j [] [] r no_numbers_alike
  numbers_push _ _ k j r (more_numbers_alike a b ks js s h) = more_numbers_alike a b (ks ++ k ∷ []) (js ++ j ∷ []) s (numbers_push ks js k j r h)

  abbrev Such : List ℕ → Type 0
  Such ks = (k : ℕ) → Contains ks k → Q k

  -- the body of such a definition
  body_whole : (k : ℕ) (o : Operator) → Q k → slice_get ops k ≡ Some o → o.own ≡ Apart → Whole 0 o.body
  body_whole k o h e apart = all_rows Q 0 o.body (stay k o e apart h)

  local_alike : (mid tid : List Local) (k j : ℕ) (count : ℕ) (x y : Term) → AlikeLocals Row mid tid → slice_get ops k ≡ Some (local_operator (slots mid) count Apart x) → slice_get all j ≡ Some (local_operator (slots tid) count Apart y) → AlikeBy Same IsOneVariable R x y → R k j
  local_alike mid tid k j count x y s p q h =
      close k j record {
        left = local_operator (slots mid) count Apart x;
        right = local_operator (slots tid) count Apart y;
        here = p;
        there = q;
        same = record { name = refl; outer = slots_alike Row mid tid s; params = refl; level = term_level Same ops all R heads x y h; own = refl; body = h };
      }

  -- the same of any two, of which one that does not use itself is told by its body
  row_alike : (seen : OwnUse) (mid tid : List Local) (m : List ℕ) (k j : DefId) (ps : List (List ℕ)) (a : Tree) (x y : Term) → AlikeLocals Row mid tid → Q k.0 → slice_get ops k.0 ≡ Some (local_operator (slots mid) (length ps) seen x) → slice_get all j.0 ≡ Some (local_operator (slots tid) (length ps) seen y) → Means names ops (bind (with_own seen mid m k (length ps)) ps) a x → Means others all (bind (with_own seen tid m j (length ps)) ps) a y → (seen ≡ Apart → AlikeBy Same IsOneVariable R x y) → R k.0 j.0
  row_alike Apart mid tid m k j ps a x y s b p q g h walk = local_alike mid tid k.0 j.0 (length ps) x y s p q (walk refl)
  row_alike Itself mid tid m k j ps a x y s b p q g h walk = own_stand Itself (λ e. (cc)) mid tid m k j ps a x y s b p q g h
  row_alike Function mid tid m k j ps a x y s b p q g h walk = own_stand Function (λ e. (cc)) mid tid m k j ps a x y s b p q g h

  -- what a LET defines
  record HasDefined (ks js : List ℕ) (sc tc : List Local) : Type 0 where
    rows : AlikeNumbersBy Same IsOneVariable R ks js
    places : AlikeLocals Row sc tc

  earlier_such : (ks before : List ℕ) (k : ℕ) → ks ≡ before ++ k ∷ [] → Such ks → Such before
  earlier_such ks before k q b j c = b j (subst (λ (l : List ℕ). Contains l j) (sym q) (Contains-append_left before (k ∷ []) j c))

  last_such : (ks before : List ℕ) (k : ℕ) → ks ≡ before ++ k ∷ [] → Such ks → Q k
  last_such ks before k q b = b k (subst (λ (l : List ℕ). Contains l k) (sym q) (Contains-push before k))

  no_more : (sc tc : List Local) (ks js : List ℕ) (inner outer : List Local) → AlikeLocals Row sc tc → ks ≡ [] → js ≡ [] → inner ≡ sc → outer ≡ tc → HasDefined ks js inner outer
  no_more sc tc ks js inner outer s p q u v = record {
    rows = subst (λ (l : List ℕ). AlikeNumbersBy Same IsOneVariable R ks l) (sym q) (subst (λ (l : List ℕ). AlikeNumbersBy Same IsOneVariable R l []) (sym p) no_numbers_alike);
    places = subst (λ (l : List Local). AlikeLocals Row inner l) (sym v) (subst (λ (l : List Local). AlikeLocals Row l tc) (sym u) s);
  }

  one_more : (ks js : List ℕ) (inner outer : List Local) (m : List ℕ) (count : ℕ) (before after : List ℕ) (mid tid : List Local) (k j : DefId) → HasDefined before after mid tid → R k.0 j.0 → ks ≡ before ++ k.0 ∷ [] → js ≡ after ++ j.0 ∷ [] → inner ≡ mid ++ Defined m k count ∷ [] → outer ≡ tid ++ Defined m j count ∷ [] → HasDefined ks js inner outer
  one_more ks js inner outer m count before after mid tid k j d r p q u v = record {
    rows = subst (λ (l : List ℕ). AlikeNumbersBy Same IsOneVariable R ks l) (sym q) (subst (λ (l : List ℕ). AlikeNumbersBy Same IsOneVariable R l (after ++ j.0 ∷ [])) (sym p) (numbers_push before after k.0 j.0 r d.rows));
    places = subst (λ (l : List Local). AlikeLocals Row inner l) (sym v) (subst (λ (l : List Local). AlikeLocals Row l (tid ++ Defined m j count ∷ [])) (sym u) (one_defined Row mid tid m k j count (λ lt. r) d.places));
  }

  known_same : (v : Val) → AlikeMeaningsBy Same IsOneVariable R (term.Known v) (term.Known v)
  known_same v = known_alike v v (itself v)

  mutual
    alike : (i : ℕ) (sc tc : List Local) (t : Tree) (e f : Term) → AlikeLocals Row sc tc → Whole i e → Means names ops sc t e → Means others all tc t f → AlikeBy Same IsOneVariable R e f
    alike i sc tc (tree.Number at z) e f s b g h = at_row (tree.Number at z) (term.Known (integer z)) (term.Known (integer z)) e f g h (known_same (integer z))
    alike i sc tc (tree.Str at x) e f s b g h = at_row (tree.Str at x) (term.Known (string x)) (term.Known (string x)) e f g h (known_same (string x))
    alike i sc tc (tree.Truth at x) e f s b g h = at_row (tree.Truth at x) (term.Known (truth x)) (term.Known (truth x)) e f g h (known_same (truth x))
    alike i sc tc (tree.Builtin at x) e f s b g h = at_row (tree.Builtin at x) (term.Named (builtin_set x)) (term.Named (builtin_set x)) e f g h (named_alike (builtin_set x))
    alike i sc tc (tree.Name at x) e f s b g h = of_use i sc tc (tree.Name at x) x term.NoTerms term.NoTerms g.0 h.0 e f s b g.1 h.1 g.2 h.2 (λ r. no_terms_alike)
    alike i sc tc (tree.Call at x es) e f s b g h = of_use i sc tc (tree.Call at x es) x g.0 h.0 g.1 h.1 e f s b g.3 h.3 g.4 h.4 (λ r. each i sc tc es g.0 h.0 s r g.2 h.2)
    alike i sc tc (tree.Qualified at x es) e f s b g h = of_use i sc tc (tree.Qualified at x es) x g.0 h.0 g.1 h.1 e f s b g.3 h.3 g.4 h.4 (λ r. each i sc tc es g.0 h.0 s r g.2 h.2)
    alike i sc tc (tree.At at) e f s b g h = of_use i sc tc (tree.At at) at_sign term.NoTerms term.NoTerms g.0 h.0 e f s b g.1 h.1 g.2 h.2 (λ r. no_terms_alike)
    alike i sc tc (tree.Parenthesized at a) e f s b g h =
        let r : Within i (term.Parenthesized g.0) = inside i (tree.Parenthesized at a) (term.Parenthesized g.0) e g.2 b in
        at_row (tree.Parenthesized at a) (term.Parenthesized g.0) (term.Parenthesized h.0) e f g.2 h.2
        (parenthesized_alike g.0 h.0 (alike i sc tc a g.0 h.0 s r g.1 h.1))
    alike i sc tc (tree.Junction at x es) e f s b g h =
        let r : InTerms (Rows Q) i g.0 = junction_inside i x g.0 (inside i (tree.Junction at x es) (junction x g.0) e g.2 b) in
        at_row (tree.Junction at x es) (junction x g.0) (junction x h.0) e f g.2 h.2 (junction_alike x g.0 h.0 (each i sc tc es g.0 h.0 s r g.1 h.1))
    alike i sc tc (tree.Prefix at o a) e f s b g h =
        let r : Within i (term.Prefix o g.0) = inside i (tree.Prefix at o a) (term.Prefix o g.0) e g.2 b in
        at_row (tree.Prefix at o a) (term.Prefix o g.0) (term.Prefix o h.0) e f g.2 h.2
        (prefix_alike o g.0 h.0 (alike i sc tc a g.0 h.0 s r g.1 h.1))
    alike i sc tc (tree.Infix at o os a) e f s b g h =
        let r : InOperands (Rows Q) i g.0 × Whole i g.1 = chain_inside i o g.0 g.1 (inside i (tree.Infix at o os a) (chain o g.0 g.1) e g.4 b) in
        at_row (tree.Infix at o os a) (chain o g.0 g.1) (chain o h.0 h.1) e f g.4 h.4 (chain_alike o g.0 h.0 g.1 h.1 (operands i sc tc os g.0 h.0 s r.0 g.2 h.2) (alike i sc tc a g.1 h.1 s r.1 g.3 h.3))
    alike i sc tc (tree.Postfix at a ss c) e f s b g h =
        let r : Within i (term.Postfix g.0 g.1 g.2) = inside i (tree.Postfix at a ss c) (term.Postfix g.0 g.1 g.2) e g.6 b in
        at_row (tree.Postfix at a ss c) (term.Postfix g.0 g.1 g.2) (term.Postfix h.0 h.1 h.2) e f g.6 h.6
        (postfix_alike g.0 h.0 g.1 h.1 g.2 h.2 (alike i sc tc a g.0 h.0 s r.0 g.3 h.3) (steps i sc tc ss g.1 h.1 s r.1 g.4 h.4) (step i sc tc c g.2 h.2 s r.2 g.5 h.5))
    alike i sc tc (tree.SetOf at es) e f s b g h =
        let r : Within i (term.SetOf g.0) = inside i (tree.SetOf at es) (term.SetOf g.0) e g.2 b in
        at_row (tree.SetOf at es) (term.SetOf g.0) (term.SetOf h.0) e f g.2 h.2
        (set_alike g.0 h.0 (each i sc tc es g.0 h.0 s r g.1 h.1))
    alike i sc tc (tree.Filter at x a c) e f s b g h =
        let r : Within i (term.Filter g.0 g.1) = inside i (tree.Filter at x a c) (term.Filter g.0 g.1) e g.4 b in
        at_row (tree.Filter at x a c) (term.Filter g.0 g.1) (term.Filter h.0 h.1) e f g.4 h.4
        (filter_alike g.0 h.0 g.1 h.1 (alike i sc tc a g.0 h.0 s r.0 g.2 h.2) (alike (suc i) (sc ++ Bound x ∷ []) (tc ++ Bound x ∷ []) c g.1 h.1 (one_bound Row sc tc x s) r.1 g.3 h.3))
    alike i sc tc (tree.Map at a bs) e f s b g h =
        let r : Within i (term.Map g.0 g.1) = inside i (tree.Map at a bs) (term.Map g.0 g.1) e g.4 b in
        at_row (tree.Map at a bs) (term.Map g.0 g.1) (term.Map h.0 h.1) e f g.4 h.4
        (map_alike g.0 h.0 g.1 h.1 (alike (i + width g.1) (bind_bounds sc bs) (bind_bounds tc bs) a g.0 h.0 (bounds_bound Row sc tc bs s) r.0 g.2 h.2) (bounds i sc tc bs g.1 h.1 s r.1 g.3 h.3))
    alike i sc tc (tree.Tuple at es) e f s b g h =
        let r : Within i (term.Tuple g.0) = inside i (tree.Tuple at es) (term.Tuple g.0) e g.2 b in
        at_row (tree.Tuple at es) (term.Tuple g.0) (term.Tuple h.0) e f g.2 h.2
        (tuple_alike g.0 h.0 (each i sc tc es g.0 h.0 s r g.1 h.1))
    alike i sc tc (tree.Function at bs a) e f s b g h =
        let r : Within i (term.Function g.0 g.1) = inside i (tree.Function at bs a) (term.Function g.0 g.1) e g.4 b in
        at_row (tree.Function at bs a) (term.Function g.0 g.1) (term.Function h.0 h.1) e f g.4 h.4
        (function_alike g.0 h.0 g.1 h.1 (bounds i sc tc bs g.0 h.0 s r.0 g.2 h.2) (alike (i + width g.0) (bind_bounds sc bs) (bind_bounds tc bs) a g.1 h.1 (bounds_bound Row sc tc bs s) r.1 g.3 h.3))
    alike i sc tc (tree.FunctionSet at a c) e f s b g h =
        let r : Within i (term.FunctionSet g.0 g.1) = inside i (tree.FunctionSet at a c) (term.FunctionSet g.0 g.1) e g.4 b in
        at_row (tree.FunctionSet at a c) (term.FunctionSet g.0 g.1) (term.FunctionSet h.0 h.1) e f g.4 h.4
        (function_set_alike g.0 h.0 g.1 h.1 (alike i sc tc a g.0 h.0 s r.0 g.2 h.2) (alike i sc tc c g.1 h.1 s r.1 g.3 h.3))
    alike i sc tc (tree.Record at fs) e f s b g h =
        let r : Within i (term.Record g.0) = inside i (tree.Record at fs) (term.Record g.0) e g.2 b in
        at_row (tree.Record at fs) (term.Record g.0) (term.Record h.0) e f g.2 h.2
        (record_alike g.0 h.0 (fields i sc tc fs g.0 h.0 s r g.1 h.1))
    alike i sc tc (tree.RecordSet at fs) e f s b g h =
        let r : Within i (term.RecordSet g.0) = inside i (tree.RecordSet at fs) (term.RecordSet g.0) e g.2 b in
        at_row (tree.RecordSet at fs) (term.RecordSet g.0) (term.RecordSet h.0) e f g.2 h.2
        (record_set_alike g.0 h.0 (fields i sc tc fs g.0 h.0 s r g.1 h.1))
    alike i sc tc (tree.Except at a cs) e f s b g h =
        let r : Within i (term.Except g.0 g.1) = inside i (tree.Except at a cs) (term.Except g.0 g.1) e g.4 b in
        at_row (tree.Except at a cs) (term.Except g.0 g.1) (term.Except h.0 h.1) e f g.4 h.4
        (except_alike g.0 h.0 g.1 h.1 (alike i sc tc a g.0 h.0 s r.0 g.2 h.2) (changes i sc tc cs g.1 h.1 s r.1 g.3 h.3))
    alike i sc tc (tree.Quantified at q bs a) e f s b g h =
        let r : Within i (term.Quantified q g.0 g.1) = inside i (tree.Quantified at q bs a) (term.Quantified q g.0 g.1) e g.4 b in
        at_row (tree.Quantified at q bs a) (term.Quantified q g.0 g.1) (term.Quantified q h.0 h.1) e f g.4 h.4
        (quantified_alike q g.0 h.0 g.1 h.1 (bounds i sc tc bs g.0 h.0 s r.0 g.2 h.2) (alike (i + width g.0) (bind_bounds sc bs) (bind_bounds tc bs) a g.1 h.1 (bounds_bound Row sc tc bs s) r.1 g.3 h.3))
    alike i sc tc (tree.Choose at x a c) e f s b g h =
        let r : Within i (term.Choose g.0 g.1) = inside i (tree.Choose at x a c) (term.Choose g.0 g.1) e g.4 b in
        at_row (tree.Choose at x a c) (term.Choose g.0 g.1) (term.Choose h.0 h.1) e f g.4 h.4
        (choose_alike g.0 h.0 g.1 h.1 (alike i sc tc a g.0 h.0 s r.0 g.2 h.2) (alike (suc i) (sc ++ Bound x ∷ []) (tc ++ Bound x ∷ []) c g.1 h.1 (one_bound Row sc tc x s) r.1 g.3 h.3))
    alike i sc tc (tree.If at p a c) e f s b g h =
        let r : Within i (term.If g.0 g.1 g.2) = inside i (tree.If at p a c) (term.If g.0 g.1 g.2) e g.6 b in
        at_row (tree.If at p a c) (term.If g.0 g.1 g.2) (term.If h.0 h.1 h.2) e f g.6 h.6
        (if_alike g.0 h.0 g.1 h.1 g.2 h.2 (alike i sc tc p g.0 h.0 s r.0 g.3 h.3) (alike i sc tc a g.1 h.1 s r.1 g.4 h.4) (alike i sc tc c g.2 h.2 s r.2 g.5 h.5))
    alike i sc tc (tree.Case at ms) e f s b g h =
        let r : Within i (term.Case g.0) = inside i (tree.Case at ms) (term.Case g.0) e g.2 b in
        at_row (tree.Case at ms) (term.Case g.0) (term.Case h.0) e f g.2 h.2
        (case_alike g.0 h.0 (arms i sc tc ms g.0 h.0 s r g.1 h.1))
    alike i sc tc (tree.CaseOther at ms a) e f s b g h =
        let r : Within i (term.CaseOther g.0 g.1) = inside i (tree.CaseOther at ms a) (term.CaseOther g.0 g.1) e g.4 b in
        at_row (tree.CaseOther at ms a) (term.CaseOther g.0 g.1) (term.CaseOther h.0 h.1) e f g.4 h.4
        (case_other_alike g.0 h.0 g.1 h.1 (arms i sc tc ms g.0 h.0 s r.0 g.2 h.2) (alike i sc tc a g.1 h.1 s r.1 g.3 h.3))
    alike i sc tc (tree.Let at ds a) e f s b g h =
        let w : Own Q (term.Scoped g.0 g.2) = own i (tree.Let at ds a) (term.Scoped g.0 g.2) e g.5 b in
        let r : Whole i g.2 = inside i (tree.Let at ds a) (term.Scoped g.0 g.2) e g.5 b in
        let d : HasDefined g.0 h.0 g.1 h.1 = defines sc tc ds g.0 h.0 g.1 h.1 s (λ k c. All-contains (λ (k : ℕ). Q k) g.0 k w c) g.3 h.3 in
        at_row (tree.Let at ds a) (term.Scoped g.0 g.2) (term.Scoped h.0 h.2) e f g.5 h.5 (scoped_alike g.0 h.0 g.2 h.2 d.rows (alike i g.1 h.1 a g.2 h.2 d.places r g.4 h.4))
    alike i sc tc (tree.BoxAction at a c) e f s b g h =
        let r : Within i (term.BoxAction g.0 g.1) = inside i (tree.BoxAction at a c) (term.BoxAction g.0 g.1) e g.4 b in
        at_row (tree.BoxAction at a c) (term.BoxAction g.0 g.1) (term.BoxAction h.0 h.1) e f g.4 h.4
        (box_alike g.0 h.0 g.1 h.1 (alike i sc tc a g.0 h.0 s r.0 g.2 h.2) (alike i sc tc c g.1 h.1 s r.1 g.3 h.3))
    alike i sc tc (tree.AngleAction at a c) e f s b g h =
        let r : Within i (term.AngleAction g.0 g.1) = inside i (tree.AngleAction at a c) (term.AngleAction g.0 g.1) e g.4 b in
        at_row (tree.AngleAction at a c) (term.AngleAction g.0 g.1) (term.AngleAction h.0 h.1) e f g.4 h.4
        (angle_alike g.0 h.0 g.1 h.1 (alike i sc tc a g.0 h.0 s r.0 g.2 h.2) (alike i sc tc c g.1 h.1 s r.1 g.3 h.3))
    alike i sc tc (tree.Fairness at a c) e f s b g h =
        let r : Within i (term.Fairness g.0 g.1) = inside i (tree.Fairness at a c) (term.Fairness g.0 g.1) e g.4 b in
        at_row (tree.Fairness at a c) (term.Fairness g.0 g.1) (term.Fairness h.0 h.1) e f g.4 h.4
        (fairness_alike g.0 h.0 g.1 h.1 (alike i sc tc a g.0 h.0 s r.0 g.2 h.2) (alike i sc tc c g.1 h.1 s r.1 g.3 h.3))

    each : (i : ℕ) (sc tc : List Local) (t : tree.Trees) (e f : Terms) → AlikeLocals Row sc tc → InTerms (Rows Q) i e → MeansEach names ops sc t e → MeansEach others all tc t f → AlikeTermsBy Same IsOneVariable R e f
    each i sc tc tree.NoTrees e f s b g h =
        subst (λ (x : Terms). AlikeTermsBy Same IsOneVariable R e x) (sym h) (subst (λ (x : Terms). AlikeTermsBy Same IsOneVariable R x term.NoTerms) (sym g) no_terms_alike)
    each i sc tc (tree.MoreTrees es a) e f s b g h =
        let r : InTerms (Rows Q) i (term.MoreTerms g.0 g.1) = subst (λ (x : Terms). InTerms (Rows Q) i x) g.2 b in
        subst (λ (x : Terms). AlikeTermsBy Same IsOneVariable R e x) (sym h.2) (subst (λ (x : Terms). AlikeTermsBy Same IsOneVariable R x (term.MoreTerms h.0 h.1)) (sym g.2) (more_terms_alike g.0 h.0 g.1 h.1 (each i sc tc es g.0 h.0 s r.0 g.3 h.3) (alike i sc tc a g.1 h.1 s r.1 g.4 h.4)))

    operands : (i : ℕ) (sc tc : List Local) (t : tree.Operands) (e f : term.Operands) → AlikeLocals Row sc tc → InOperands (Rows Q) i e → MeansOperands names ops sc t e → MeansOperands others all tc t f → AlikeOperandsBy Same IsOneVariable R e f
    operands i sc tc (tree.First a) e f s b g h =
        let r : InOperands (Rows Q) i (term.First g.0) = subst (λ (x : term.Operands). InOperands (Rows Q) i x) g.1 b in
        subst (λ (x : term.Operands). AlikeOperandsBy Same IsOneVariable R e x) (sym h.1) (subst (λ (x : term.Operands). AlikeOperandsBy Same IsOneVariable R x (term.First h.0)) (sym g.1) (first_alike g.0 h.0 (alike i sc tc a g.0 h.0 s r g.2 h.2)))
    operands i sc tc (tree.Next es at a) e f s b g h =
        let r : InOperands (Rows Q) i (term.Next g.0 at g.1) = subst (λ (x : term.Operands). InOperands (Rows Q) i x) g.2 b in
        subst (λ (x : term.Operands). AlikeOperandsBy Same IsOneVariable R e x) (sym h.2) (subst (λ (x : term.Operands). AlikeOperandsBy Same IsOneVariable R x (term.Next h.0 at h.1)) (sym g.2) (next_alike g.0 h.0 at g.1 h.1 (operands i sc tc es g.0 h.0 s r.0 g.3 h.3) (alike i sc tc a g.1 h.1 s r.1 g.4 h.4)))

    step : (i : ℕ) (sc tc : List Local) (t : tree.Step) (e f : term.Step) → AlikeLocals Row sc tc → InStep (Rows Q) i e → MeansStep names ops sc t e → MeansStep others all tc t f → AlikeStepBy Same IsOneVariable R e f
    step i sc tc tree.Prime e f s b g h =
        subst (λ (x : term.Step). AlikeStepBy Same IsOneVariable R e x) (sym h) (subst (λ (x : term.Step). AlikeStepBy Same IsOneVariable R x term.Prime) (sym g) prime_alike)
    step i sc tc (tree.Index es) e f s b g h =
        let r : InStep (Rows Q) i (term.Index g.0) = subst (λ (x : term.Step). InStep (Rows Q) i x) g.1 b in
        subst (λ (x : term.Step). AlikeStepBy Same IsOneVariable R e x) (sym h.1) (subst (λ (x : term.Step). AlikeStepBy Same IsOneVariable R x (term.Index h.0)) (sym g.1) (index_alike g.0 h.0 (each i sc tc es g.0 h.0 s r g.2 h.2)))
    step i sc tc (tree.Field x) e f s b g h =
        subst (λ (y : term.Step). AlikeStepBy Same IsOneVariable R e y) (sym h) (subst (λ (y : term.Step). AlikeStepBy Same IsOneVariable R y (term.Field x)) (sym g) (field_alike x))

    steps : (i : ℕ) (sc tc : List Local) (t : tree.Steps) (e f : term.Steps) → AlikeLocals Row sc tc → InSteps (Rows Q) i e → MeansSteps names ops sc t e → MeansSteps others all tc t f → AlikeStepsBy Same IsOneVariable R e f
    steps i sc tc tree.NoSteps e f s b g h =
        subst (λ (x : term.Steps). AlikeStepsBy Same IsOneVariable R e x) (sym h) (subst (λ (x : term.Steps). AlikeStepsBy Same IsOneVariable R x term.NoSteps) (sym g) no_steps_alike)
    steps i sc tc (tree.MoreSteps ss at c) e f s b g h =
        let r : InSteps (Rows Q) i (term.MoreSteps g.0 at g.1) = subst (λ (x : term.Steps). InSteps (Rows Q) i x) g.2 b in
        subst (λ (x : term.Steps). AlikeStepsBy Same IsOneVariable R e x) (sym h.2) (subst (λ (x : term.Steps). AlikeStepsBy Same IsOneVariable R x (term.MoreSteps h.0 at h.1)) (sym g.2) (more_steps_alike g.0 h.0 at g.1 h.1 (steps i sc tc ss g.0 h.0 s r.0 g.3 h.3) (step i sc tc c g.1 h.1 s r.1 g.4 h.4)))

    bounds : (i : ℕ) (sc tc : List Local) (t : tree.Bounds) (e f : term.Bounds) → AlikeLocals Row sc tc → InBounds (Rows Q) i e → MeansBounds names ops sc t e → MeansBounds others all tc t f → AlikeBoundsBy Same IsOneVariable R e f
    bounds i sc tc tree.NoBounds e f s b g h =
        subst (λ (x : term.Bounds). AlikeBoundsBy Same IsOneVariable R e x) (sym h) (subst (λ (x : term.Bounds). AlikeBoundsBy Same IsOneVariable R x term.NoBounds) (sym g) no_bounds_alike)
    bounds i sc tc (tree.MoreBounds bs ns a) e f s b g h =
        let r : InBounds (Rows Q) i (term.MoreBounds g.0 (length ns) g.1) = subst (λ (x : term.Bounds). InBounds (Rows Q) i x) g.2 b in
        subst (λ (x : term.Bounds). AlikeBoundsBy Same IsOneVariable R e x) (sym h.2) (subst (λ (x : term.Bounds). AlikeBoundsBy Same IsOneVariable R x (term.MoreBounds h.0 (length ns) h.1)) (sym g.2) (more_bounds_alike g.0 h.0 (length ns) g.1 h.1 (bounds i sc tc bs g.0 h.0 s r.0 g.3 h.3) (alike i sc tc a g.1 h.1 s r.1 g.4 h.4)))

    fields : (i : ℕ) (sc tc : List Local) (t : tree.Fields) (e f : term.Fields) → AlikeLocals Row sc tc → InFields (Rows Q) i e → MeansFields names ops sc t e → MeansFields others all tc t f → AlikeFieldsBy Same IsOneVariable R e f
    fields i sc tc tree.NoFields e f s b g h =
        subst (λ (x : term.Fields). AlikeFieldsBy Same IsOneVariable R e x) (sym h) (subst (λ (x : term.Fields). AlikeFieldsBy Same IsOneVariable R x term.NoFields) (sym g) no_fields_alike)
    fields i sc tc (tree.MoreFields fs m a) e f s b g h =
        let r : InFields (Rows Q) i (term.MoreFields g.0 m g.1) = subst (λ (x : term.Fields). InFields (Rows Q) i x) g.2 b in
        subst (λ (x : term.Fields). AlikeFieldsBy Same IsOneVariable R e x) (sym h.2) (subst (λ (x : term.Fields). AlikeFieldsBy Same IsOneVariable R x (term.MoreFields h.0 m h.1)) (sym g.2) (more_fields_alike g.0 h.0 m g.1 h.1 (fields i sc tc fs g.0 h.0 s r.0 g.3 h.3) (alike i sc tc a g.1 h.1 s r.1 g.4 h.4)))

    changes : (i : ℕ) (sc tc : List Local) (t : tree.Changes) (e f : term.Changes) → AlikeLocals Row sc tc → InChanges (Rows Q) i e → MeansChanges names ops sc t e → MeansChanges others all tc t f → AlikeChangesBy Same IsOneVariable R e f
    changes i sc tc tree.NoChanges e f s b g h =
        subst (λ (x : term.Changes). AlikeChangesBy Same IsOneVariable R e x) (sym h) (subst (λ (x : term.Changes). AlikeChangesBy Same IsOneVariable R x term.NoChanges) (sym g) no_changes_alike)
    changes i sc tc (tree.MoreChanges cs path a) e f s b g h =
        let r : InChanges (Rows Q) i (term.MoreChanges g.0 g.1 g.2) = subst (λ (x : term.Changes). InChanges (Rows Q) i x) g.3 b in
        subst (λ (x : term.Changes). AlikeChangesBy Same IsOneVariable R e x) (sym h.3) (subst (λ (x : term.Changes). AlikeChangesBy Same IsOneVariable R x (term.MoreChanges h.0 h.1 h.2)) (sym g.3) (more_changes_alike g.0 h.0 g.1 h.1 g.2 h.2 (changes i sc tc cs g.0 h.0 s r.0 g.4 h.4) (steps i sc tc path g.1 h.1 s r.1 g.5 h.5) (alike (suc i) (sc ++ Bound at_sign ∷ []) (tc ++ Bound at_sign ∷ []) a g.2 h.2 (one_bound Row sc tc at_sign s) r.2 g.6 h.6)))

    arms : (i : ℕ) (sc tc : List Local) (t : tree.Arms) (e f : term.Arms) → AlikeLocals Row sc tc → InArms (Rows Q) i e → MeansArms names ops sc t e → MeansArms others all tc t f → AlikeArmsBy Same IsOneVariable R e f
    arms i sc tc tree.NoArms e f s b g h =
        subst (λ (x : term.Arms). AlikeArmsBy Same IsOneVariable R e x) (sym h) (subst (λ (x : term.Arms). AlikeArmsBy Same IsOneVariable R x term.NoArms) (sym g) no_arms_alike)
    arms i sc tc (tree.MoreArms ms p a) e f s b g h =
        let r : InArms (Rows Q) i (term.MoreArms g.0 g.1 g.2) = subst (λ (x : term.Arms). InArms (Rows Q) i x) g.3 b in
        subst (λ (x : term.Arms). AlikeArmsBy Same IsOneVariable R e x) (sym h.3) (subst (λ (x : term.Arms). AlikeArmsBy Same IsOneVariable R x (term.MoreArms h.0 h.1 h.2)) (sym g.3) (more_arms_alike g.0 h.0 g.1 h.1 g.2 h.2 (arms i sc tc ms g.0 h.0 s r.0 g.4 h.4) (alike i sc tc p g.1 h.1 s r.1 g.5 h.5) (alike i sc tc a g.2 h.2 s r.2 g.6 h.6)))

    defines : (sc tc : List Local) (ds : tree.Definitions) (ks js : List ℕ) (inner outer : List Local) → AlikeLocals Row sc tc → Such ks → Defines names ops sc ds ks inner → Defines others all tc ds js outer → HasDefined ks js inner outer
    defines sc tc tree.NoDefinitions ks js inner outer s b g h = no_more sc tc ks js inner outer s g.0 h.0 g.1 h.1
    defines sc tc (tree.MoreDefinitions ds m at ps form a) ks js inner outer s b g h =
        let d : HasDefined g.0 h.0 g.1 h.1 = defines sc tc ds g.0 h.0 g.1 h.1 s (earlier_such ks g.0 g.2.0 g.7 b) g.4 h.4 in
        let lt : Q g.2.0 = last_such ks g.0 g.2.0 g.7 b in
        let seen : OwnUse = own_of form m ps a in
        let walk : seen ≡ Apart → AlikeBy Same IsOneVariable R g.3 h.3 = λ q. alike 0 (bind g.1 ps) (bind h.1 ps) a g.3 h.3 (all_bound Row g.1 h.1 ps d.places) (body_whole g.2.0 (local_operator (slots g.1) (length ps) seen g.3) lt g.6 q)
        (subst (λ (u : OwnUse). Means names ops (bind (with_own u g.1 m g.2 (length ps)) ps) a g.3) q g.5) (subst (λ (u : OwnUse). Means others all (bind (with_own u h.1 m h.2 (length ps)) ps) a h.3) q h.5) in
        one_more ks js inner outer m (length ps) g.0 h.0 g.1 h.1 g.2 h.2 d (row_alike seen g.1 h.1 m g.2 h.2 ps a g.3 h.3 d.places lt g.6 h.6 g.5 h.5 walk) g.7 h.7 g.8 h.8

  pub tree_alike : (sc tc : List Local) (t : Tree) (e f : Term) → AlikeLocals Row sc tc → AreMentioned Q e → Means names ops sc t e → Means others all tc t f → AlikeBy Same IsOneVariable R e f
  tree_alike sc tc t e f s b g h = alike 0 sc tc t e f s (all_rows Q 0 e b) g h
