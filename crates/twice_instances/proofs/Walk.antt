-- What a tree of a module means, and what the tree of an instance of it means in the program, is alike, where the names of the module stand for those of the program.
use Rattle.std.proofs.Common.{◌≡◌, ◌∙◌, sym, ap, refl, subst, ℕ, suc, List, [], ◌∷◌, ◌++◌, length, ◌+◌, inl, inr}
use Rattle.std.specs.Prelude.{◌≢◌, ◌||◌, ◌&&◌, Bool, true, false, not, Contains, Option, Some, None, if◌then◌else◌, slice_get}
use Rattle.std.proofs.lemmas.List.Elements.{All-contains, Contains-push, Contains-append_left}
use Rattle.std.specs.Str.{bytes_eq}
use Rattle.base_core.specs.declared.place.Place.{Place}
use Rattle.values_core.specs.Data.{Val, integer, string, truth}
use Rattle.reading_trees.specs.Grammar.{qualified}
use Rattle.reading_trees.specs.declared.laid.Bullet.{Bullet}
use Rattle.reading_trees.specs.declared.laid.Bullet.TheVariants as bullet
use Rattle.reading_trees.specs.declared.operators.InfixOperator.{InfixOperator}
use Rattle.reading_trees.specs.declared.operators.InfixOperator.TheVariants as infix_operator
use Rattle.reading_trees.specs.Trees as tree
use Rattle.reading_trees.specs.Trees.{Tree}
use Rattle.names_terms.specs.declared.ids.DefId.{DefId}
use Rattle.names_terms.specs.declared.level.Level.{Level}
use Rattle.names_terms.specs.declared.operator.Operator.{Operator}
use Rattle.names_terms.specs.declared.operator.Own.{Own as OwnUse}
use Rattle.names_terms.specs.declared.operator.Own.TheVariants.{Apart, Function, Itself}
use Rattle.names_terms.specs.Terms as term
use Rattle.names_terms.specs.Terms.{Term, Terms, Meaning, Placed, width}
use Rattle.names_terms.specs.Levels.{level_for}
use Rattle.names_scopes.specs.declared.meant.Entry.{Entry}
use Rattle.names_scopes.specs.declared.meant.Meant.{Meant}
use Rattle.names_scopes.specs.declared.meant.Named.{Named}
use Rattle.names_scopes.specs.declared.scope.Local.{Local}
use Rattle.names_scopes.specs.declared.scope.Local.TheVariants.{Bound, Defined}
use Rattle.names_scopes.specs.Mentions.{binds, defines, is_one_of, mentions, mentions_each, mentions_operands, mentions_step, mentions_steps, mentions_bounds, mentions_fields, mentions_changes, mentions_arms, mentions_definitions}
use Rattle.names_scopes.specs.Scopes as scopes
use Rattle.names_scopes.specs.Scopes.{among, bind, bind_bounds, meaning_in, slots, at_sign}
use Rattle.names_meanings.specs.Means.{Uses, Means, MeansEach, MeansOperands, MeansStep, MeansSteps, MeansBounds, MeansFields, MeansChanges, MeansArms, Defines, junction, chain, operands_list, builtin_set, local_operator, with_own}
use Rattle.names_meanings.specs.Owning.{own_of}
use Rattle.names_instances.specs.Made.{StandIns, bound_by, call_by, defined_by, made, made_each, made_operands, made_step, made_steps, made_bounds, made_fields, made_changes, made_arms, made_definitions, name_by, qualified_by}
use Rattle.names_specification_laws.specs.Everywhere.{Everywhere, Inside, InTerms, InOperands, InStep, InSteps, InBounds, InFields, InChanges, InArms}
use Rattle.twice_terms.specs.Alike.{AlikeBy, AlikeMeaningsBy, AlikeTermsBy, AlikeOperandsBy, AlikeStepBy, AlikeStepsBy, AlikeBoundsBy, AlikeFieldsBy, AlikeChangesBy, AlikeArmsBy, AlikeNumbersBy, placed_alike, known_alike, named_alike, variable_alike, slot_alike, use_alike, standard_alike, parenthesized_alike, scoped_alike, all_alike, any_alike, prefix_alike, infix_alike, postfix_alike, set_alike, filter_alike, map_alike, tuple_alike, function_alike, function_set_alike, record_alike, record_set_alike, except_alike, quantified_alike, choose_alike, if_alike, case_alike, case_other_alike, box_alike, angle_alike, fairness_alike, no_terms_alike, more_terms_alike, first_alike, next_alike, prime_alike, index_alike, field_alike, no_steps_alike, more_steps_alike, no_bounds_alike, more_bounds_alike, no_fields_alike, more_fields_alike, no_changes_alike, more_changes_alike, no_arms_alike, more_arms_alike, no_numbers_alike, more_numbers_alike}
use Rattle.twice_terms.specs.Laws.{AreOne}
use Rattle.twice_tables.specs.Places.{AlikeLocals, AreMentioned, BodiesStay}
use Rattle.twice_tables.proofs.Meanings.{Own, RowIf, Rows, all_rows}
use Rattle.twice_tables.proofs.Placed.{slots_alike, one_bound, one_defined, all_bound, bounds_bound}
use Rattle.twice_instances.specs.Alikeness.{LikeHeads, LikeRowsBy}
use Rattle.twice_instances.specs.Standing.{NamesStand, StandsFor, slot_stands, variable_stands, known_stands, set_stands, standard_stands, definition_stands, stand_in}
use Rattle.twice_instances.specs.Trees.{IsFit, AreFit, OperandsFit, StepFits, StepsFit, BoundsFit, FieldsFit, ChangesFit, ArmsFit, DefinitionsFit}
use Rattle.twice_instances.proofs.Around.{Around, bounds_same, itself_is, left_part, right_part, under_one, under_bounds, under_at_sign, behind_definitions, in_body, names_in, none_defined, one_defined_names}
use Rattle.twice_instances.proofs.Levelled.{meaning_level, term_level}
use Rattle.twice_instances.proofs.Scoped.{bound_alike, free_alike}
use Rattle.reading_trees.specs.declared.form.DefinitionForm.{DefinitionForm}
use Rattle.twice_instances.proofs.OwnMade.{counted_own, own_made}

-- Two definitions of LETs that use themselves stand for each other, where the names around do: in the module, and in the instance.
abbrev pub OwnStand : StandIns → List Operator → List Operator → (ℕ → ℕ → Type 0) → (ℕ → Type 0) → List Entry → List Entry → Type 0
OwnStand by ops all R Q names others =
    (seen : OwnUse) → seen ≢ Apart → (mid tid : List Local) (m : List ℕ) (k j : DefId) (ps counted : List (List ℕ)) (a : Tree) (x y : Term) → AlikeLocals (RowIf Q R) mid tid → Around counted (bind (with_own seen mid m k (length ps)) ps) (λ n. mentions n a) → IsFit a → Q k.0 → slice_get ops k.0 ≡ Some (local_operator (slots mid) (length ps) seen x) → slice_get all j.0 ≡ Some (local_operator (slots tid) (length ps) seen y) → Means names ops (bind (with_own seen mid m k (length ps)) ps) a x → Means others all (bind (with_own seen tid m j (length ps)) ps) (made by counted a) y → R k.0 j.0

-- Definitions stand for each other by any relation that asks for the same heads, and that holds of two rows where their bodies are alike by it: what a LET
-- defines is such by its body.
module _ (Stands : ℕ → ℕ → Type 0) (by : StandIns) (ops all : List Operator) (R : ℕ → ℕ → Type 0) (heads : (k j : ℕ) → R k j → LikeHeads ops all k j) (close : (k j : ℕ) → LikeRowsBy Stands R ops all k j → R k j) (Q : ℕ → Type 0) (names others : List Entry) (stay : BodiesStay ops Q) (are : NamesStand Stands (RowIf Q R) by names others) (own_stand : OwnStand by ops all R Q names others) where
  abbrev Row : ℕ → ℕ → Type 0
  Row k j = Q k → R k j

  abbrev Whole : ℕ → Term → Type 0
  Whole i e = Everywhere (Rows Q) i e

  abbrev Within : ℕ → Meaning → Type 0
  Within i m = Inside (Rows Q) i m

  -- one row

  at_row : (at : Place) (m w : Meaning) (e f : Term) → e ≡ Placed at (level_for ops m) m → f ≡ Placed at (level_for all w) w → AlikeMeaningsBy AreOne Stands R m w → AlikeBy AreOne Stands R e f
  at_row at m w e f p q h =
      let l : level_for ops m ≡ level_for all w = meaning_level Stands ops all R heads m w h in
      let r : AlikeBy AreOne Stands R (Placed at (level_for all w) m) (Placed at (level_for all w) w) = placed_alike at (level_for all w) m w h in
      let s : AlikeBy AreOne Stands R (Placed at (level_for ops m) m) (Placed at (level_for all w) w) =
      subst (λ (x : Level). AlikeBy AreOne Stands R (Placed at x m) (Placed at (level_for all w) w)) (sym l) r in
      subst (λ (x : Term). AlikeBy AreOne Stands R e x) (sym q) (subst (λ (x : Term). AlikeBy AreOne Stands R x (Placed at (level_for all w) w)) (sym p) s)

  inside : (i : ℕ) (at : Place) (m : Meaning) (e : Term) → e ≡ Placed at (level_for ops m) m → Whole i e → Within i m
  inside i at m e q h = (subst (λ (x : Term). Whole i x) q h).1

  own : (i : ℕ) (at : Place) (m : Meaning) (e : Term) → e ≡ Placed at (level_for ops m) m → Whole i e → Own Q m
  own i at m e q h = (subst (λ (x : Term). Whole i x) q h).0

  used_alike : (i : ℕ) (v w : Meant) (ts us : Terms) → StandsFor Stands Row v w → Own Q (scopes.used v ts) → Within i (scopes.used v ts) → (InTerms (Rows Q) i ts → AlikeTermsBy AreOne Stands R ts us) → AlikeMeaningsBy AreOne Stands R (scopes.used v ts) (scopes.used w us)
  used_alike i _ _ ts us (slot_stands j) o b h = slot_alike j
  used_alike i _ _ ts us (variable_stands x y v) o b h = variable_alike x.0 y.0 v
  used_alike i _ _ ts us (known_stands v) o b h = known_alike v v refl
  used_alike i _ _ ts us (set_stands s) o b h = named_alike s
  used_alike i _ _ ts us (standard_stands s) o b h = standard_alike s ts us (h b)
  used_alike i _ _ ts us (definition_stands k j r) o b h = use_alike k.0 j.0 ts us (r o) (h b)

  -- a use of a name in the module, and one of what stands for it
  of_use : (i : ℕ) (sc tc : List Local) (at : Place) (x z : List ℕ) (ts us : Terms) (m w : Meaning) (e f : Term) → ((v u : Named) → meaning_in names sc x ≡ Some v → meaning_in others tc z ≡ Some u → StandsFor Stands Row v.meant u.meant) → Whole i e → Uses names sc x ts m → Uses others tc z us w → e ≡ Placed at (level_for ops m) m → f ≡ Placed at (level_for all w) w → (InTerms (Rows Q) i ts → AlikeTermsBy AreOne Stands R ts us) → AlikeBy AreOne Stands R e f
  of_use i sc tc at x z ts us m w e f like b u v p q h =
      let here : StandsFor Stands Row u.0.meant v.0.meant = like u.0 v.0 u.1 v.1 in
      let p2 : e ≡ Placed at (level_for ops (scopes.used u.0.meant ts)) (scopes.used u.0.meant ts) = subst (λ (y : Meaning). e ≡ Placed at (level_for ops y) y) u.2 p in
      let q2 : f ≡ Placed at (level_for all (scopes.used v.0.meant us)) (scopes.used v.0.meant us) = subst (λ (y : Meaning). f ≡ Placed at (level_for all y) y) v.2 q in
      at_row at (scopes.used u.0.meant ts) (scopes.used v.0.meant us) e f p2 q2
      (used_alike i u.0.meant v.0.meant ts us here (own i at (scopes.used u.0.meant ts) e p2 b) (inside i at (scopes.used u.0.meant ts) e p2 b) h)

  -- a name that is bound around, and one that is not

  kept_alike : (counted : List (List ℕ)) (sc tc : List Local) (x : List ℕ) (uses : List ℕ → Bool) → AlikeLocals Row sc tc → Around counted sc uses → uses x ≡ true → is_one_of x counted ≡ true → (v u : Named) → meaning_in names sc x ≡ Some v → meaning_in others tc x ≡ Some u → StandsFor Stands Row v.meant u.meant
  kept_alike counted sc tc x uses s ar used c v u p q = elim (ar.kept x c) [
    | inl h ↦ bound_alike Stands Row names others sc tc x v u s h p q
    | inr h ↦ absurd (let wrong : true ≡ false = sym used ∙ h in cc)
  ]

  -- what stands for a name is no name that is bound around
  free_in : (n : List ℕ) (o : Option (List ℕ)) → by n ≡ o → (sc tc : List Local) → ((i m : List ℕ) → is_one_of (qualified i m) (names_in sc) ≡ false) → is_one_of n (names_in sc) ≡ false → AlikeLocals Row sc tc → (v u : Named) → meaning_in names sc n ≡ Some v → meaning_in others tc (stand_in n o) ≡ Some u → StandsFor Stands Row v.meant u.meant
  free_in n o e sc tc clear free s v u p q =
      free_alike Stands Row names others sc tc n (stand_in n o) s free (hidden o e) (λ v u x y. are.names n v u x (subst (λ (z : Option (List ℕ)). among others (stand_in n z) ≡ Some u) (sym e) y)) v u p q
    where
      hidden : (o : Option (List ℕ)) → by n ≡ o → is_one_of (stand_in n o) (names_in sc) ≡ false
      hidden None e = free
      hidden (Some z) e = let w : (i m : List ℕ) × (z ≡ qualified i m) = are.qualified n z e in subst (λ (y : List ℕ). is_one_of y (names_in sc) ≡ false) (sym w.2) (clear w.0 w.1)

  name_alike : (i : ℕ) (counted : List (List ℕ)) (sc tc : List Local) (at : Place) (n : List ℕ) (e f : Term) → AlikeLocals Row sc tc → Around counted sc (λ m. bytes_eq n m) → n ≢ at_sign → Whole i e → (c : Bool) → is_one_of n counted ≡ c → Means names ops sc (tree.Name at n) e → Means others all tc (name_by (if c then None else by n) at n) f → AlikeBy AreOne Stands R e f
  name_alike i counted sc tc at n e f s ar pl b true c g h =
      of_use i sc tc at n n term.NoTerms term.NoTerms g.0 h.0 e f (kept_alike counted sc tc n (λ m. bytes_eq n m) s ar (itself_is n) c) b g.1 h.1 g.2 h.2 (λ r. no_terms_alike)
  name_alike i counted sc tc at n e f s ar pl b false c g h = by_stand_in (by n) refl h
    where
      by_stand_in : (o : Option (List ℕ)) → by n ≡ o → Means others all tc (name_by o at n) f → AlikeBy AreOne Stands R e f
      by_stand_in None q h = of_use i sc tc at n n term.NoTerms term.NoTerms g.0 h.0 e f (free_in n None q sc tc ar.clear (ar.free n c pl) s) b g.1 h.1 g.2 h.2 (λ r. no_terms_alike)
      by_stand_in (Some z) q h = of_use i sc tc at n z term.NoTerms h.0 g.0 h.1 e f (free_in n (Some z) q sc tc ar.clear (ar.free n c pl) s) b g.1 h.3 g.2 h.4 (λ r. subst (λ (us : Terms). AlikeTermsBy AreOne Stands R term.NoTerms us) (sym h.2) no_terms_alike)

  call_alike : (i : ℕ) (counted : List (List ℕ)) (sc tc : List Local) (at : Place) (n : List ℕ) (es fs : tree.Trees) (e f : Term) → AlikeLocals Row sc tc → Around counted sc (λ m. bytes_eq n m) → n ≢ at_sign → Whole i e → ((ts us : Terms) → InTerms (Rows Q) i ts → MeansEach names ops sc es ts → MeansEach others all tc fs us → AlikeTermsBy AreOne Stands R ts us) → (c : Bool) → is_one_of n counted ≡ c → Means names ops sc (tree.Call at n es) e → Means others all tc (call_by (if c then None else by n) at n fs) f → AlikeBy AreOne Stands R e f
  call_alike i counted sc tc at n es fs e f s ar pl b each true c g h =
      of_use i sc tc at n n g.0 h.0 g.1 h.1 e f (kept_alike counted sc tc n (λ m. bytes_eq n m) s ar (itself_is n) c) b g.3 h.3 g.4 h.4 (λ r. each g.0 h.0 r g.2 h.2)
  call_alike i counted sc tc at n es fs e f s ar pl b each false c g h = by_stand_in (by n) refl h
    where
      by_stand_in : (o : Option (List ℕ)) → by n ≡ o → Means others all tc (call_by o at n fs) f → AlikeBy AreOne Stands R e f
      by_stand_in None q h = of_use i sc tc at n n g.0 h.0 g.1 h.1 e f (free_in n None q sc tc ar.clear (ar.free n c pl) s) b g.3 h.3 g.4 h.4 (λ r. each g.0 h.0 r g.2 h.2)
      by_stand_in (Some z) q h = of_use i sc tc at n z g.0 h.0 g.1 h.1 e f (free_in n (Some z) q sc tc ar.clear (ar.free n c pl) s) b g.3 h.3 g.4 h.4 (λ r. each g.0 h.0 r g.2 h.2)

  -- a name of an instance is never bound
  qualified_alike : (i : ℕ) (counted : List (List ℕ)) (sc tc : List Local) (at : Place) (n : List ℕ) (es fs : tree.Trees) (e f : Term) → AlikeLocals Row sc tc → ((i m : List ℕ) → is_one_of (qualified i m) (names_in sc) ≡ false) → (w : (i m : List ℕ) × (n ≡ qualified i m)) → Whole i e → ((ts us : Terms) → InTerms (Rows Q) i ts → MeansEach names ops sc es ts → MeansEach others all tc fs us → AlikeTermsBy AreOne Stands R ts us) → (o : Option (List ℕ)) → by n ≡ o → Means names ops sc (tree.Qualified at n es) e → Means others all tc (qualified_by o at n fs) f → AlikeBy AreOne Stands R e f
  qualified_alike i counted sc tc at n es fs e f s clear w b each None q g h =
      of_use i sc tc at n n g.0 h.0 g.1 h.1 e f (free_in n None q sc tc clear (subst (λ (y : List ℕ). is_one_of y (names_in sc) ≡ false) (sym w.2) (clear w.0 w.1)) s) b g.3 h.3 g.4 h.4 (λ r. each g.0 h.0 r g.2 h.2)
  qualified_alike i counted sc tc at n es fs e f s clear w b each (Some z) q g h =
      of_use i sc tc at n z g.0 h.0 g.1 h.1 e f (free_in n (Some z) q sc tc clear (subst (λ (y : List ℕ). is_one_of y (names_in sc) ≡ false) (sym w.2) (clear w.0 w.1)) s) b g.3 h.3 g.4 h.4 (λ r. each g.0 h.0 r g.2 h.2)

  -- `@` is none of the program's names
  at_sign_alike : (sc tc : List Local) → AlikeLocals Row sc tc → (v u : Named) → meaning_in names sc at_sign ≡ Some v → meaning_in others tc at_sign ≡ Some u → StandsFor Stands Row v.meant u.meant
  at_sign_alike sc tc s v u p q = by_bound (is_one_of at_sign (names_in sc)) refl
    where
      by_bound : (c : Bool) → is_one_of at_sign (names_in sc) ≡ c → StandsFor Stands Row v.meant u.meant
      by_bound true c = bound_alike Stands Row names others sc tc at_sign v u s c p q
      by_bound false c = free_alike Stands Row names others sc tc at_sign at_sign s c c (λ v u x y. absurd (let wrong : Some v ≡ None = sym x ∙ are.no_at_sign in cc)) v u p q

  junction_inside : (i : ℕ) (b : Bullet) (ts : Terms) → Within i (junction b ts) → InTerms (Rows Q) i ts
  junction_inside i bullet.And ts h = h
  junction_inside i bullet.Or ts h = h

  junction_alike : (b : Bullet) (ts us : Terms) → AlikeTermsBy AreOne Stands R ts us → AlikeMeaningsBy AreOne Stands R (junction b ts) (junction b us)
  junction_alike bullet.And ts us h = all_alike ts us h
  junction_alike bullet.Or ts us h = any_alike ts us h

  operands_inside : (i : ℕ) (os : term.Operands) → InTerms (Rows Q) i (operands_list os) → InOperands (Rows Q) i os
  operands_inside i (term.First e) h = h.1
  operands_inside i (term.Next os at e) h = (operands_inside i os h.0, h.1)

  chain_inside : (i : ℕ) (o : InfixOperator) (os : term.Operands) (e : Term) → Within i (chain o os e) → InOperands (Rows Q) i os × Whole i e
  chain_inside i infix_operator.And os e h = (operands_inside i os h.0, h.1)
  chain_inside i infix_operator.Or os e h = (operands_inside i os h.0, h.1)
  chain_inside i o os e h = h

  operands_terms : (os ps : term.Operands) → AlikeOperandsBy AreOne Stands R os ps → AlikeTermsBy AreOne Stands R (operands_list os) (operands_list ps)
  operands_terms _ _ (first_alike e f h) = more_terms_alike term.NoTerms term.NoTerms e f no_terms_alike h
  operands_terms _ _ (next_alike os ps at e f h k) = more_terms_alike (operands_list os) (operands_list ps) e f (operands_terms os ps h) k

  chain_alike : (o : InfixOperator) (os ps : term.Operands) (e f : Term) → AlikeOperandsBy AreOne Stands R os ps → AlikeBy AreOne Stands R e f → AlikeMeaningsBy AreOne Stands R (chain o os e) (chain o ps f)
  chain_alike infix_operator.And os ps e f h k = all_alike (term.MoreTerms (operands_list os) e) (term.MoreTerms (operands_list ps) f) (more_terms_alike (operands_list os) (operands_list ps) e f (operands_terms os ps h) k)
  chain_alike infix_operator.Or os ps e f h k = any_alike (term.MoreTerms (operands_list os) e) (term.MoreTerms (operands_list ps) f) (more_terms_alike (operands_list os) (operands_list ps) e f (operands_terms os ps h) k)
  chain_alike o os ps e f h k = infix_alike o os ps e f h k

  -- the definitions of two lists that end with one are alike
  numbers_push : (ks js : List ℕ) (k j : ℕ) → R k j → AlikeNumbersBy AreOne Stands R ks js → AlikeNumbersBy AreOne Stands R (ks ++ k ∷ []) (js ++ j ∷ [])
  numbers_push _ _ k j r no_numbers_alike = more_numbers_alike k j [] [] r no_numbers_alike
  numbers_push _ _ k j r (more_numbers_alike a b ks js s h) = more_numbers_alike a b (ks ++ k ∷ []) (js ++ j ∷ []) s (numbers_push ks js k j r h)

  abbrev Such : List ℕ → Type 0
  Such ks = (k : ℕ) → Contains ks k → Q k

  -- the body of such a definition
  body_whole : (k : ℕ) (o : Operator) → Q k → slice_get ops k ≡ Some o → o.own ≡ Apart → Whole 0 o.body
  body_whole k o h e apart = all_rows Q 0 o.body (stay k o e apart h)

  local_alike : (mid tid : List Local) (k j : ℕ) (count : ℕ) (x y : Term) → AlikeLocals Row mid tid → slice_get ops k ≡ Some (local_operator (slots mid) count Apart x) → slice_get all j ≡ Some (local_operator (slots tid) count Apart y) → AlikeBy AreOne Stands R x y → R k j
  local_alike mid tid k j count x y s p q h =
      close k j record {
        left = local_operator (slots mid) count Apart x;
        right = local_operator (slots tid) count Apart y;
        here = p;
        there = q;
        same = record { outer = slots_alike Row mid tid s; params = refl; level = term_level Stands ops all R heads x y h; own = refl; body = h };
      }

  -- the same of any two, of which one that does not use itself is told by its body
  row_alike : (seen : OwnUse) (mid tid : List Local) (m : List ℕ) (k j : DefId) (ps counted : List (List ℕ)) (a : Tree) (x y : Term) → AlikeLocals Row mid tid → Around counted (bind (with_own seen mid m k (length ps)) ps) (λ n. mentions n a) → IsFit a → Q k.0 → slice_get ops k.0 ≡ Some (local_operator (slots mid) (length ps) seen x) → slice_get all j.0 ≡ Some (local_operator (slots tid) (length ps) seen y) → Means names ops (bind (with_own seen mid m k (length ps)) ps) a x → Means others all (bind (with_own seen tid m j (length ps)) ps) (made by counted a) y → (seen ≡ Apart → AlikeBy AreOne Stands R x y) → R k.0 j.0
  row_alike Apart mid tid m k j ps counted a x y s ar pl b p q g h walk = local_alike mid tid k.0 j.0 (length ps) x y s p q (walk refl)
  row_alike Itself mid tid m k j ps counted a x y s ar pl b p q g h walk = own_stand Itself (λ e. (cc)) mid tid m k j ps counted a x y s ar pl b p q g h
  row_alike Function mid tid m k j ps counted a x y s ar pl b p q g h walk = own_stand Function (λ e. (cc)) mid tid m k j ps counted a x y s ar pl b p q g h

  -- what a LET defines
  record HasDefined (ks js : List ℕ) (inner outer sc : List Local) (ds : tree.Definitions) : Type 0 where
    rows : AlikeNumbersBy AreOne Stands R ks js
    places : AlikeLocals Row inner outer
    named : names_in inner ≡ names_in sc ++ defined_by ds

  earlier_such : (ks before : List ℕ) (k : ℕ) → ks ≡ before ++ k ∷ [] → Such ks → Such before
  earlier_such ks before k q b j c = b j (subst (λ (l : List ℕ). Contains l j) (sym q) (Contains-append_left before (k ∷ []) j c))

  last_such : (ks before : List ℕ) (k : ℕ) → ks ≡ before ++ k ∷ [] → Such ks → Q k
  last_such ks before k q b = b k (subst (λ (l : List ℕ). Contains l k) (sym q) (Contains-push before k))

  no_more : (sc tc : List Local) (ks js : List ℕ) (inner outer : List Local) → AlikeLocals Row sc tc → ks ≡ [] → js ≡ [] → inner ≡ sc → outer ≡ tc → HasDefined ks js inner outer sc tree.NoDefinitions
  no_more sc tc ks js inner outer s p q u v = record {
    rows = subst (λ (l : List ℕ). AlikeNumbersBy AreOne Stands R ks l) (sym q) (subst (λ (l : List ℕ). AlikeNumbersBy AreOne Stands R l []) (sym p) no_numbers_alike);
    places = subst (λ (l : List Local). AlikeLocals Row inner l) (sym v) (subst (λ (l : List Local). AlikeLocals Row l tc) (sym u) s);
    named = ap names_in u ∙ none_defined (names_in sc);
  }

  one_more : (ks js : List ℕ) (inner outer sc : List Local) (ds : tree.Definitions) (m : List ℕ) (place : Place) (ps : List (List ℕ)) (form : DefinitionForm) (a : Tree) (count : ℕ) (before after : List ℕ) (mid tid : List Local) (k j : DefId) → HasDefined before after mid tid sc ds → R k.0 j.0 → ks ≡ before ++ k.0 ∷ [] → js ≡ after ++ j.0 ∷ [] → inner ≡ mid ++ Defined m k count ∷ [] → outer ≡ tid ++ Defined m j count ∷ [] → HasDefined ks js inner outer sc (tree.MoreDefinitions ds m place ps form a)
  one_more ks js inner outer sc ds m place ps form a count before after mid tid k j d r p q u v = record {
    rows = subst (λ (l : List ℕ). AlikeNumbersBy AreOne Stands R ks l) (sym q) (subst (λ (l : List ℕ). AlikeNumbersBy AreOne Stands R l (after ++ j.0 ∷ [])) (sym p) (numbers_push before after k.0 j.0 r d.rows));
    places = subst (λ (l : List Local). AlikeLocals Row inner l) (sym v) (subst (λ (l : List Local). AlikeLocals Row l (tid ++ Defined m j count ∷ [])) (sym u) (one_defined Row mid tid m k j count (λ lt. r) d.places));
    named = ap names_in u ∙ one_defined_names sc mid ds m k count d.named;
  }

  known_same : (v : Val) → AlikeMeaningsBy AreOne Stands R (term.Known v) (term.Known v)
  known_same v = known_alike v v refl

  mutual
    alike : (i : ℕ) (counted : List (List ℕ)) (sc tc : List Local) (t : Tree) (e f : Term) → AlikeLocals Row sc tc → Around counted sc (λ n. mentions n t) → IsFit t → Whole i e → Means names ops sc t e → Means others all tc (made by counted t) f → AlikeBy AreOne Stands R e f
    alike i counted sc tc (tree.Number at z) e f s ar pl b g h = at_row at (term.Known (integer z)) (term.Known (integer z)) e f g h (known_same (integer z))
    alike i counted sc tc (tree.Str at x) e f s ar pl b g h = at_row at (term.Known (string x)) (term.Known (string x)) e f g h (known_same (string x))
    alike i counted sc tc (tree.Truth at x) e f s ar pl b g h = at_row at (term.Known (truth x)) (term.Known (truth x)) e f g h (known_same (truth x))
    alike i counted sc tc (tree.Builtin at x) e f s ar pl b g h = at_row at (term.Named (builtin_set x)) (term.Named (builtin_set x)) e f g h (named_alike (builtin_set x))
    alike i counted sc tc (tree.Name at x) e f s ar pl b g h = name_alike i counted sc tc at x e f s ar pl b (is_one_of x counted) refl g h
    alike i counted sc tc (tree.Call at x es) e f s ar pl b g h =
        call_alike i counted sc tc at x es (made_each by counted es) e f s (left_part counted sc (λ n. bytes_eq x n) (λ n. mentions_each n es) ar) pl.0 b
        (λ ts us r y z. each i counted sc tc es ts us s (right_part counted sc (λ n. bytes_eq x n) (λ n. mentions_each n es) ar) pl.1 r y z) (is_one_of x counted) refl g h
    alike i counted sc tc (tree.Qualified at x es) e f s ar pl b g h =
        qualified_alike i counted sc tc at x es (made_each by counted es) e f s ar.clear (pl.0, pl.1, pl.2) b
        (λ ts us r y z. each i counted sc tc es ts us s (right_part counted sc (λ n. bytes_eq x n) (λ n. mentions_each n es) ar) pl.3 r y z) (by x) refl g h
    alike i counted sc tc (tree.At at) e f s ar pl b g h = of_use i sc tc at at_sign at_sign term.NoTerms term.NoTerms g.0 h.0 e f (at_sign_alike sc tc s) b g.1 h.1 g.2 h.2 (λ r. no_terms_alike)
    alike i counted sc tc (tree.Parenthesized at a) e f s ar pl b g h =
        let r : Within i (term.Parenthesized g.0) = inside i at (term.Parenthesized g.0) e g.2 b in
        at_row at (term.Parenthesized g.0) (term.Parenthesized h.0) e f g.2 h.2
        (parenthesized_alike g.0 h.0 (alike i counted sc tc a g.0 h.0 s ar pl r g.1 h.1))
    alike i counted sc tc (tree.Junction at x es) e f s ar pl b g h =
        let r : InTerms (Rows Q) i g.0 = junction_inside i x g.0 (inside i at (junction x g.0) e g.2 b) in
        at_row at (junction x g.0) (junction x h.0) e f g.2 h.2 (junction_alike x g.0 h.0 (each i counted sc tc es g.0 h.0 s ar pl r g.1 h.1))
    alike i counted sc tc (tree.Prefix at o a) e f s ar pl b g h =
        let r : Within i (term.Prefix o g.0) = inside i at (term.Prefix o g.0) e g.2 b in
        at_row at (term.Prefix o g.0) (term.Prefix o h.0) e f g.2 h.2
        (prefix_alike o g.0 h.0 (alike i counted sc tc a g.0 h.0 s ar pl r g.1 h.1))
    alike i counted sc tc (tree.Infix at o os a) e f s ar pl b g h =
        let r : InOperands (Rows Q) i g.0 × Whole i g.1 = chain_inside i o g.0 g.1 (inside i at (chain o g.0 g.1) e g.4 b) in
        at_row at (chain o g.0 g.1) (chain o h.0 h.1) e f g.4 h.4 (chain_alike o g.0 h.0 g.1 h.1 (operands i counted sc tc os g.0 h.0 s (left_part counted sc (λ n. mentions_operands n os) (λ n. mentions n a) ar) pl.0 r.0 g.2 h.2) (alike i counted sc tc a g.1 h.1 s (right_part counted sc (λ n. mentions_operands n os) (λ n. mentions n a) ar) pl.1 r.1 g.3 h.3))
    alike i counted sc tc (tree.Postfix at a ss c) e f s ar pl b g h =
        let r : Within i (term.Postfix g.0 g.1 g.2) = inside i at (term.Postfix g.0 g.1 g.2) e g.6 b in
        at_row at (term.Postfix g.0 g.1 g.2) (term.Postfix h.0 h.1 h.2) e f g.6 h.6
        (postfix_alike g.0 h.0 g.1 h.1 g.2 h.2 (alike i counted sc tc a g.0 h.0 s (left_part counted sc (λ n. mentions n a) (λ n. mentions_steps n ss) (left_part counted sc (λ n. mentions n a || mentions_steps n ss) (λ n. mentions_step n c) ar)) pl.0 r.0 g.3 h.3) (steps i counted sc tc ss g.1 h.1 s (right_part counted sc (λ n. mentions n a) (λ n. mentions_steps n ss) (left_part counted sc (λ n. mentions n a || mentions_steps n ss) (λ n. mentions_step n c) ar)) pl.1 r.1 g.4 h.4) (step i counted sc tc c g.2 h.2 s (right_part counted sc (λ n. mentions n a || mentions_steps n ss) (λ n. mentions_step n c) ar) pl.2 r.2 g.5 h.5))
    alike i counted sc tc (tree.SetOf at es) e f s ar pl b g h =
        let r : Within i (term.SetOf g.0) = inside i at (term.SetOf g.0) e g.2 b in
        at_row at (term.SetOf g.0) (term.SetOf h.0) e f g.2 h.2
        (set_alike g.0 h.0 (each i counted sc tc es g.0 h.0 s ar pl r g.1 h.1))
    alike i counted sc tc (tree.Filter at x a c) e f s ar pl b g h =
        let r : Within i (term.Filter g.0 g.1) = inside i at (term.Filter g.0 g.1) e g.4 b in
        at_row at (term.Filter g.0 g.1) (term.Filter h.0 h.1) e f g.4 h.4
        (filter_alike g.0 h.0 g.1 h.1 (alike i counted sc tc a g.0 h.0 s (left_part counted sc (λ n. mentions n a) (λ n. (not (bytes_eq x n) && mentions n c)) ar) pl.1 r.0 g.2 h.2) (alike (suc i) (counted ++ x ∷ []) (sc ++ Bound x ∷ []) (tc ++ Bound x ∷ []) c g.1 h.1 (one_bound Row sc tc x s) (under_one counted sc x (λ n. mentions n c) pl.0 (right_part counted sc (λ n. mentions n a) (λ n. (not (bytes_eq x n) && mentions n c)) ar)) pl.2 r.1 g.3 h.3))
    alike i counted sc tc (tree.Map at a bs) e f s ar pl b g h =
        let r : Within i (term.Map g.0 g.1) = inside i at (term.Map g.0 g.1) e g.4 b in
        at_row at (term.Map g.0 g.1) (term.Map h.0 h.1) e f g.4 h.4
        (map_alike g.0 h.0 g.1 h.1 (alike (i + width g.1) (counted ++ bound_by bs) (bind_bounds sc bs) (bind_bounds tc bs) a g.0 h.0 (bounds_bound Row sc tc bs s) (under_bounds counted sc bs (λ n. mentions n a) pl.1 (left_part counted sc (λ n. (not (binds bs n) && mentions n a)) (λ n. mentions_bounds n bs) ar)) pl.0 r.0 g.2 (subst (λ (outside : List Local). Means others all outside (made by (counted ++ bound_by bs) a) h.0) (bounds_same by counted tc bs) h.2)) (bounds i counted sc tc bs g.1 h.1 s (right_part counted sc (λ n. (not (binds bs n) && mentions n a)) (λ n. mentions_bounds n bs) ar) pl.1 r.1 g.3 h.3))
    alike i counted sc tc (tree.Tuple at es) e f s ar pl b g h =
        let r : Within i (term.Tuple g.0) = inside i at (term.Tuple g.0) e g.2 b in
        at_row at (term.Tuple g.0) (term.Tuple h.0) e f g.2 h.2
        (tuple_alike g.0 h.0 (each i counted sc tc es g.0 h.0 s ar pl r g.1 h.1))
    alike i counted sc tc (tree.Function at bs a) e f s ar pl b g h =
        let r : Within i (term.Function g.0 g.1) = inside i at (term.Function g.0 g.1) e g.4 b in
        at_row at (term.Function g.0 g.1) (term.Function h.0 h.1) e f g.4 h.4
        (function_alike g.0 h.0 g.1 h.1 (bounds i counted sc tc bs g.0 h.0 s (left_part counted sc (λ n. mentions_bounds n bs) (λ n. (not (binds bs n) && mentions n a)) ar) pl.0 r.0 g.2 h.2) (alike (i + width g.0) (counted ++ bound_by bs) (bind_bounds sc bs) (bind_bounds tc bs) a g.1 h.1 (bounds_bound Row sc tc bs s) (under_bounds counted sc bs (λ n. mentions n a) pl.0 (right_part counted sc (λ n. mentions_bounds n bs) (λ n. (not (binds bs n) && mentions n a)) ar)) pl.1 r.1 g.3 (subst (λ (outside : List Local). Means others all outside (made by (counted ++ bound_by bs) a) h.1) (bounds_same by counted tc bs) h.3)))
    alike i counted sc tc (tree.FunctionSet at a c) e f s ar pl b g h =
        let r : Within i (term.FunctionSet g.0 g.1) = inside i at (term.FunctionSet g.0 g.1) e g.4 b in
        at_row at (term.FunctionSet g.0 g.1) (term.FunctionSet h.0 h.1) e f g.4 h.4
        (function_set_alike g.0 h.0 g.1 h.1 (alike i counted sc tc a g.0 h.0 s (left_part counted sc (λ n. mentions n a) (λ n. mentions n c) ar) pl.0 r.0 g.2 h.2) (alike i counted sc tc c g.1 h.1 s (right_part counted sc (λ n. mentions n a) (λ n. mentions n c) ar) pl.1 r.1 g.3 h.3))
    alike i counted sc tc (tree.Record at fs) e f s ar pl b g h =
        let r : Within i (term.Record g.0) = inside i at (term.Record g.0) e g.2 b in
        at_row at (term.Record g.0) (term.Record h.0) e f g.2 h.2
        (record_alike g.0 h.0 (fields i counted sc tc fs g.0 h.0 s ar pl r g.1 h.1))
    alike i counted sc tc (tree.RecordSet at fs) e f s ar pl b g h =
        let r : Within i (term.RecordSet g.0) = inside i at (term.RecordSet g.0) e g.2 b in
        at_row at (term.RecordSet g.0) (term.RecordSet h.0) e f g.2 h.2
        (record_set_alike g.0 h.0 (fields i counted sc tc fs g.0 h.0 s ar pl r g.1 h.1))
    alike i counted sc tc (tree.Except at a cs) e f s ar pl b g h =
        let r : Within i (term.Except g.0 g.1) = inside i at (term.Except g.0 g.1) e g.4 b in
        at_row at (term.Except g.0 g.1) (term.Except h.0 h.1) e f g.4 h.4
        (except_alike g.0 h.0 g.1 h.1 (alike i counted sc tc a g.0 h.0 s (left_part counted sc (λ n. mentions n a) (λ n. mentions_changes n cs) ar) pl.0 r.0 g.2 h.2) (changes i counted sc tc cs g.1 h.1 s (right_part counted sc (λ n. mentions n a) (λ n. mentions_changes n cs) ar) pl.1 r.1 g.3 h.3))
    alike i counted sc tc (tree.Quantified at q bs a) e f s ar pl b g h =
        let r : Within i (term.Quantified q g.0 g.1) = inside i at (term.Quantified q g.0 g.1) e g.4 b in
        at_row at (term.Quantified q g.0 g.1) (term.Quantified q h.0 h.1) e f g.4 h.4
        (quantified_alike q g.0 h.0 g.1 h.1 (bounds i counted sc tc bs g.0 h.0 s (left_part counted sc (λ n. mentions_bounds n bs) (λ n. (not (binds bs n) && mentions n a)) ar) pl.0 r.0 g.2 h.2) (alike (i + width g.0) (counted ++ bound_by bs) (bind_bounds sc bs) (bind_bounds tc bs) a g.1 h.1 (bounds_bound Row sc tc bs s) (under_bounds counted sc bs (λ n. mentions n a) pl.0 (right_part counted sc (λ n. mentions_bounds n bs) (λ n. (not (binds bs n) && mentions n a)) ar)) pl.1 r.1 g.3 (subst (λ (outside : List Local). Means others all outside (made by (counted ++ bound_by bs) a) h.1) (bounds_same by counted tc bs) h.3)))
    alike i counted sc tc (tree.Choose at x a c) e f s ar pl b g h =
        let r : Within i (term.Choose g.0 g.1) = inside i at (term.Choose g.0 g.1) e g.4 b in
        at_row at (term.Choose g.0 g.1) (term.Choose h.0 h.1) e f g.4 h.4
        (choose_alike g.0 h.0 g.1 h.1 (alike i counted sc tc a g.0 h.0 s (left_part counted sc (λ n. mentions n a) (λ n. (not (bytes_eq x n) && mentions n c)) ar) pl.1 r.0 g.2 h.2) (alike (suc i) (counted ++ x ∷ []) (sc ++ Bound x ∷ []) (tc ++ Bound x ∷ []) c g.1 h.1 (one_bound Row sc tc x s) (under_one counted sc x (λ n. mentions n c) pl.0 (right_part counted sc (λ n. mentions n a) (λ n. (not (bytes_eq x n) && mentions n c)) ar)) pl.2 r.1 g.3 h.3))
    alike i counted sc tc (tree.If at p a c) e f s ar pl b g h =
        let r : Within i (term.If g.0 g.1 g.2) = inside i at (term.If g.0 g.1 g.2) e g.6 b in
        at_row at (term.If g.0 g.1 g.2) (term.If h.0 h.1 h.2) e f g.6 h.6
        (if_alike g.0 h.0 g.1 h.1 g.2 h.2 (alike i counted sc tc p g.0 h.0 s (left_part counted sc (λ n. mentions n p) (λ n. mentions n a) (left_part counted sc (λ n. mentions n p || mentions n a) (λ n. mentions n c) ar)) pl.0 r.0 g.3 h.3) (alike i counted sc tc a g.1 h.1 s (right_part counted sc (λ n. mentions n p) (λ n. mentions n a) (left_part counted sc (λ n. mentions n p || mentions n a) (λ n. mentions n c) ar)) pl.1 r.1 g.4 h.4) (alike i counted sc tc c g.2 h.2 s (right_part counted sc (λ n. mentions n p || mentions n a) (λ n. mentions n c) ar) pl.2 r.2 g.5 h.5))
    alike i counted sc tc (tree.Case at ms) e f s ar pl b g h =
        let r : Within i (term.Case g.0) = inside i at (term.Case g.0) e g.2 b in
        at_row at (term.Case g.0) (term.Case h.0) e f g.2 h.2
        (case_alike g.0 h.0 (arms i counted sc tc ms g.0 h.0 s ar pl r g.1 h.1))
    alike i counted sc tc (tree.CaseOther at ms a) e f s ar pl b g h =
        let r : Within i (term.CaseOther g.0 g.1) = inside i at (term.CaseOther g.0 g.1) e g.4 b in
        at_row at (term.CaseOther g.0 g.1) (term.CaseOther h.0 h.1) e f g.4 h.4
        (case_other_alike g.0 h.0 g.1 h.1 (arms i counted sc tc ms g.0 h.0 s (left_part counted sc (λ n. mentions_arms n ms) (λ n. mentions n a) ar) pl.0 r.0 g.2 h.2) (alike i counted sc tc a g.1 h.1 s (right_part counted sc (λ n. mentions_arms n ms) (λ n. mentions n a) ar) pl.1 r.1 g.3 h.3))
    alike i counted sc tc (tree.Let at ds a) e f s ar pl b g h =
        let w : Own Q (term.Scoped g.0 g.2) = own i at (term.Scoped g.0 g.2) e g.5 b in
        let r : Whole i g.2 = inside i at (term.Scoped g.0 g.2) e g.5 b in
        let d : HasDefined g.0 h.0 g.1 h.1 sc ds = definitions_alike counted sc tc ds g.0 h.0 g.1 h.1 s (left_part counted sc (λ n. mentions_definitions n ds) (λ n. not (defines ds n) && mentions n a) ar) pl.0 (λ k c. All-contains (λ (k : ℕ). Q k) g.0 k w c) g.3 h.3 in
        at_row at (term.Scoped g.0 g.2) (term.Scoped h.0 h.2) e f g.5 h.5
        (scoped_alike g.0 h.0 g.2 h.2 d.rows (alike i (counted ++ defined_by ds) g.1 h.1 a g.2 h.2 d.places (behind_definitions counted sc g.1 ds (λ n. mentions n a) pl.0 d.named (right_part counted sc (λ n. mentions_definitions n ds) (λ n. not (defines ds n) && mentions n a) ar)) pl.1 r g.4 h.4))
    alike i counted sc tc (tree.BoxAction at a c) e f s ar pl b g h =
        let r : Within i (term.BoxAction g.0 g.1) = inside i at (term.BoxAction g.0 g.1) e g.4 b in
        at_row at (term.BoxAction g.0 g.1) (term.BoxAction h.0 h.1) e f g.4 h.4
        (box_alike g.0 h.0 g.1 h.1 (alike i counted sc tc a g.0 h.0 s (left_part counted sc (λ n. mentions n a) (λ n. mentions n c) ar) pl.0 r.0 g.2 h.2) (alike i counted sc tc c g.1 h.1 s (right_part counted sc (λ n. mentions n a) (λ n. mentions n c) ar) pl.1 r.1 g.3 h.3))
    alike i counted sc tc (tree.AngleAction at a c) e f s ar pl b g h =
        let r : Within i (term.AngleAction g.0 g.1) = inside i at (term.AngleAction g.0 g.1) e g.4 b in
        at_row at (term.AngleAction g.0 g.1) (term.AngleAction h.0 h.1) e f g.4 h.4
        (angle_alike g.0 h.0 g.1 h.1 (alike i counted sc tc a g.0 h.0 s (left_part counted sc (λ n. mentions n a) (λ n. mentions n c) ar) pl.0 r.0 g.2 h.2) (alike i counted sc tc c g.1 h.1 s (right_part counted sc (λ n. mentions n a) (λ n. mentions n c) ar) pl.1 r.1 g.3 h.3))
    alike i counted sc tc (tree.Fairness at a c) e f s ar pl b g h =
        let r : Within i (term.Fairness g.0 g.1) = inside i at (term.Fairness g.0 g.1) e g.4 b in
        at_row at (term.Fairness g.0 g.1) (term.Fairness h.0 h.1) e f g.4 h.4
        (fairness_alike g.0 h.0 g.1 h.1 (alike i counted sc tc a g.0 h.0 s (left_part counted sc (λ n. mentions n a) (λ n. mentions n c) ar) pl.0 r.0 g.2 h.2) (alike i counted sc tc c g.1 h.1 s (right_part counted sc (λ n. mentions n a) (λ n. mentions n c) ar) pl.1 r.1 g.3 h.3))

    each : (i : ℕ) (counted : List (List ℕ)) (sc tc : List Local) (t : tree.Trees) (e f : Terms) → AlikeLocals Row sc tc → Around counted sc (λ n. mentions_each n t) → AreFit t → InTerms (Rows Q) i e → MeansEach names ops sc t e → MeansEach others all tc (made_each by counted t) f → AlikeTermsBy AreOne Stands R e f
    each i counted sc tc tree.NoTrees e f s ar pl b g h =
        subst (λ (x : Terms). AlikeTermsBy AreOne Stands R e x) (sym h) (subst (λ (x : Terms). AlikeTermsBy AreOne Stands R x term.NoTerms) (sym g) no_terms_alike)
    each i counted sc tc (tree.MoreTrees es a) e f s ar pl b g h =
        let r : InTerms (Rows Q) i (term.MoreTerms g.0 g.1) = subst (λ (x : Terms). InTerms (Rows Q) i x) g.2 b in
        subst (λ (x : Terms). AlikeTermsBy AreOne Stands R e x) (sym h.2) (subst (λ (x : Terms). AlikeTermsBy AreOne Stands R x (term.MoreTerms h.0 h.1)) (sym g.2) (more_terms_alike g.0 h.0 g.1 h.1 (each i counted sc tc es g.0 h.0 s (left_part counted sc (λ n. mentions_each n es) (λ n. mentions n a) ar) pl.0 r.0 g.3 h.3) (alike i counted sc tc a g.1 h.1 s (right_part counted sc (λ n. mentions_each n es) (λ n. mentions n a) ar) pl.1 r.1 g.4 h.4)))

    operands : (i : ℕ) (counted : List (List ℕ)) (sc tc : List Local) (t : tree.Operands) (e f : term.Operands) → AlikeLocals Row sc tc → Around counted sc (λ n. mentions_operands n t) → OperandsFit t → InOperands (Rows Q) i e → MeansOperands names ops sc t e → MeansOperands others all tc (made_operands by counted t) f → AlikeOperandsBy AreOne Stands R e f
    operands i counted sc tc (tree.First a) e f s ar pl b g h =
        let r : InOperands (Rows Q) i (term.First g.0) = subst (λ (x : term.Operands). InOperands (Rows Q) i x) g.1 b in
        subst (λ (x : term.Operands). AlikeOperandsBy AreOne Stands R e x) (sym h.1) (subst (λ (x : term.Operands). AlikeOperandsBy AreOne Stands R x (term.First h.0)) (sym g.1) (first_alike g.0 h.0 (alike i counted sc tc a g.0 h.0 s ar pl r g.2 h.2)))
    operands i counted sc tc (tree.Next es at a) e f s ar pl b g h =
        let r : InOperands (Rows Q) i (term.Next g.0 at g.1) = subst (λ (x : term.Operands). InOperands (Rows Q) i x) g.2 b in
        subst (λ (x : term.Operands). AlikeOperandsBy AreOne Stands R e x) (sym h.2) (subst (λ (x : term.Operands). AlikeOperandsBy AreOne Stands R x (term.Next h.0 at h.1)) (sym g.2) (next_alike g.0 h.0 at g.1 h.1 (operands i counted sc tc es g.0 h.0 s (left_part counted sc (λ n. mentions_operands n es) (λ n. mentions n a) ar) pl.0 r.0 g.3 h.3) (alike i counted sc tc a g.1 h.1 s (right_part counted sc (λ n. mentions_operands n es) (λ n. mentions n a) ar) pl.1 r.1 g.4 h.4)))

    step : (i : ℕ) (counted : List (List ℕ)) (sc tc : List Local) (t : tree.Step) (e f : term.Step) → AlikeLocals Row sc tc → Around counted sc (λ n. mentions_step n t) → StepFits t → InStep (Rows Q) i e → MeansStep names ops sc t e → MeansStep others all tc (made_step by counted t) f → AlikeStepBy AreOne Stands R e f
    step i counted sc tc tree.Prime e f s ar pl b g h =
        subst (λ (x : term.Step). AlikeStepBy AreOne Stands R e x) (sym h) (subst (λ (x : term.Step). AlikeStepBy AreOne Stands R x term.Prime) (sym g) prime_alike)
    step i counted sc tc (tree.Index es) e f s ar pl b g h =
        let r : InStep (Rows Q) i (term.Index g.0) = subst (λ (x : term.Step). InStep (Rows Q) i x) g.1 b in
        subst (λ (x : term.Step). AlikeStepBy AreOne Stands R e x) (sym h.1) (subst (λ (x : term.Step). AlikeStepBy AreOne Stands R x (term.Index h.0)) (sym g.1) (index_alike g.0 h.0 (each i counted sc tc es g.0 h.0 s ar pl r g.2 h.2)))
    step i counted sc tc (tree.Field x) e f s ar pl b g h =
        subst (λ (y : term.Step). AlikeStepBy AreOne Stands R e y) (sym h) (subst (λ (y : term.Step). AlikeStepBy AreOne Stands R y (term.Field x)) (sym g) (field_alike x))

    steps : (i : ℕ) (counted : List (List ℕ)) (sc tc : List Local) (t : tree.Steps) (e f : term.Steps) → AlikeLocals Row sc tc → Around counted sc (λ n. mentions_steps n t) → StepsFit t → InSteps (Rows Q) i e → MeansSteps names ops sc t e → MeansSteps others all tc (made_steps by counted t) f → AlikeStepsBy AreOne Stands R e f
    steps i counted sc tc tree.NoSteps e f s ar pl b g h =
        subst (λ (x : term.Steps). AlikeStepsBy AreOne Stands R e x) (sym h) (subst (λ (x : term.Steps). AlikeStepsBy AreOne Stands R x term.NoSteps) (sym g) no_steps_alike)
    steps i counted sc tc (tree.MoreSteps ss at c) e f s ar pl b g h =
        let r : InSteps (Rows Q) i (term.MoreSteps g.0 at g.1) = subst (λ (x : term.Steps). InSteps (Rows Q) i x) g.2 b in
        subst (λ (x : term.Steps). AlikeStepsBy AreOne Stands R e x) (sym h.2) (subst (λ (x : term.Steps). AlikeStepsBy AreOne Stands R x (term.MoreSteps h.0 at h.1)) (sym g.2) (more_steps_alike g.0 h.0 at g.1 h.1 (steps i counted sc tc ss g.0 h.0 s (left_part counted sc (λ n. mentions_steps n ss) (λ n. mentions_step n c) ar) pl.0 r.0 g.3 h.3) (step i counted sc tc c g.1 h.1 s (right_part counted sc (λ n. mentions_steps n ss) (λ n. mentions_step n c) ar) pl.1 r.1 g.4 h.4)))

    bounds : (i : ℕ) (counted : List (List ℕ)) (sc tc : List Local) (t : tree.Bounds) (e f : term.Bounds) → AlikeLocals Row sc tc → Around counted sc (λ n. mentions_bounds n t) → BoundsFit t → InBounds (Rows Q) i e → MeansBounds names ops sc t e → MeansBounds others all tc (made_bounds by counted t) f → AlikeBoundsBy AreOne Stands R e f
    bounds i counted sc tc tree.NoBounds e f s ar pl b g h =
        subst (λ (x : term.Bounds). AlikeBoundsBy AreOne Stands R e x) (sym h) (subst (λ (x : term.Bounds). AlikeBoundsBy AreOne Stands R x term.NoBounds) (sym g) no_bounds_alike)
    bounds i counted sc tc (tree.MoreBounds bs ns a) e f s ar pl b g h =
        let r : InBounds (Rows Q) i (term.MoreBounds g.0 (length ns) g.1) = subst (λ (x : term.Bounds). InBounds (Rows Q) i x) g.2 b in
        subst (λ (x : term.Bounds). AlikeBoundsBy AreOne Stands R e x) (sym h.2) (subst (λ (x : term.Bounds). AlikeBoundsBy AreOne Stands R x (term.MoreBounds h.0 (length ns) h.1)) (sym g.2) (more_bounds_alike g.0 h.0 (length ns) g.1 h.1 (bounds i counted sc tc bs g.0 h.0 s (left_part counted sc (λ n. mentions_bounds n bs) (λ n. mentions n a) ar) pl.0 r.0 g.3 h.3) (alike i counted sc tc a g.1 h.1 s (right_part counted sc (λ n. mentions_bounds n bs) (λ n. mentions n a) ar) pl.2 r.1 g.4 h.4)))

    fields : (i : ℕ) (counted : List (List ℕ)) (sc tc : List Local) (t : tree.Fields) (e f : term.Fields) → AlikeLocals Row sc tc → Around counted sc (λ n. mentions_fields n t) → FieldsFit t → InFields (Rows Q) i e → MeansFields names ops sc t e → MeansFields others all tc (made_fields by counted t) f → AlikeFieldsBy AreOne Stands R e f
    fields i counted sc tc tree.NoFields e f s ar pl b g h =
        subst (λ (x : term.Fields). AlikeFieldsBy AreOne Stands R e x) (sym h) (subst (λ (x : term.Fields). AlikeFieldsBy AreOne Stands R x term.NoFields) (sym g) no_fields_alike)
    fields i counted sc tc (tree.MoreFields fs m a) e f s ar pl b g h =
        let r : InFields (Rows Q) i (term.MoreFields g.0 m g.1) = subst (λ (x : term.Fields). InFields (Rows Q) i x) g.2 b in
        subst (λ (x : term.Fields). AlikeFieldsBy AreOne Stands R e x) (sym h.2) (subst (λ (x : term.Fields). AlikeFieldsBy AreOne Stands R x (term.MoreFields h.0 m h.1)) (sym g.2) (more_fields_alike g.0 h.0 m g.1 h.1 (fields i counted sc tc fs g.0 h.0 s (left_part counted sc (λ n. mentions_fields n fs) (λ n. mentions n a) ar) pl.0 r.0 g.3 h.3) (alike i counted sc tc a g.1 h.1 s (right_part counted sc (λ n. mentions_fields n fs) (λ n. mentions n a) ar) pl.1 r.1 g.4 h.4)))

    changes : (i : ℕ) (counted : List (List ℕ)) (sc tc : List Local) (t : tree.Changes) (e f : term.Changes) → AlikeLocals Row sc tc → Around counted sc (λ n. mentions_changes n t) → ChangesFit t → InChanges (Rows Q) i e → MeansChanges names ops sc t e → MeansChanges others all tc (made_changes by counted t) f → AlikeChangesBy AreOne Stands R e f
    changes i counted sc tc tree.NoChanges e f s ar pl b g h =
        subst (λ (x : term.Changes). AlikeChangesBy AreOne Stands R e x) (sym h) (subst (λ (x : term.Changes). AlikeChangesBy AreOne Stands R x term.NoChanges) (sym g) no_changes_alike)
    changes i counted sc tc (tree.MoreChanges cs path a) e f s ar pl b g h =
        let r : InChanges (Rows Q) i (term.MoreChanges g.0 g.1 g.2) = subst (λ (x : term.Changes). InChanges (Rows Q) i x) g.3 b in
        subst (λ (x : term.Changes). AlikeChangesBy AreOne Stands R e x) (sym h.3) (subst (λ (x : term.Changes). AlikeChangesBy AreOne Stands R x (term.MoreChanges h.0 h.1 h.2)) (sym g.3) (more_changes_alike g.0 h.0 g.1 h.1 g.2 h.2 (changes i counted sc tc cs g.0 h.0 s (left_part counted sc (λ n. mentions_changes n cs) (λ n. mentions_steps n path) (left_part counted sc (λ n. mentions_changes n cs || mentions_steps n path) (λ n. (not (bytes_eq at_sign n) && mentions n a)) ar)) pl.0 r.0 g.4 h.4) (steps i counted sc tc path g.1 h.1 s (right_part counted sc (λ n. mentions_changes n cs) (λ n. mentions_steps n path) (left_part counted sc (λ n. mentions_changes n cs || mentions_steps n path) (λ n. (not (bytes_eq at_sign n) && mentions n a)) ar)) pl.1 r.1 g.5 h.5) (alike (suc i) counted (sc ++ Bound at_sign ∷ []) (tc ++ Bound at_sign ∷ []) a g.2 h.2 (one_bound Row sc tc at_sign s) (under_at_sign counted sc (λ n. mentions n a) (right_part counted sc (λ n. mentions_changes n cs || mentions_steps n path) (λ n. (not (bytes_eq at_sign n) && mentions n a)) ar)) pl.2 r.2 g.6 h.6)))

    arms : (i : ℕ) (counted : List (List ℕ)) (sc tc : List Local) (t : tree.Arms) (e f : term.Arms) → AlikeLocals Row sc tc → Around counted sc (λ n. mentions_arms n t) → ArmsFit t → InArms (Rows Q) i e → MeansArms names ops sc t e → MeansArms others all tc (made_arms by counted t) f → AlikeArmsBy AreOne Stands R e f
    arms i counted sc tc tree.NoArms e f s ar pl b g h =
        subst (λ (x : term.Arms). AlikeArmsBy AreOne Stands R e x) (sym h) (subst (λ (x : term.Arms). AlikeArmsBy AreOne Stands R x term.NoArms) (sym g) no_arms_alike)
    arms i counted sc tc (tree.MoreArms ms p a) e f s ar pl b g h =
        let r : InArms (Rows Q) i (term.MoreArms g.0 g.1 g.2) = subst (λ (x : term.Arms). InArms (Rows Q) i x) g.3 b in
        subst (λ (x : term.Arms). AlikeArmsBy AreOne Stands R e x) (sym h.3) (subst (λ (x : term.Arms). AlikeArmsBy AreOne Stands R x (term.MoreArms h.0 h.1 h.2)) (sym g.3) (more_arms_alike g.0 h.0 g.1 h.1 g.2 h.2 (arms i counted sc tc ms g.0 h.0 s (left_part counted sc (λ n. mentions_arms n ms) (λ n. mentions n p) (left_part counted sc (λ n. mentions_arms n ms || mentions n p) (λ n. mentions n a) ar)) pl.0 r.0 g.4 h.4) (alike i counted sc tc p g.1 h.1 s (right_part counted sc (λ n. mentions_arms n ms) (λ n. mentions n p) (left_part counted sc (λ n. mentions_arms n ms || mentions n p) (λ n. mentions n a) ar)) pl.1 r.1 g.5 h.5) (alike i counted sc tc a g.2 h.2 s (right_part counted sc (λ n. mentions_arms n ms || mentions n p) (λ n. mentions n a) ar) pl.2 r.2 g.6 h.6)))

    definitions_alike : (counted : List (List ℕ)) (sc tc : List Local) (ds : tree.Definitions) (ks js : List ℕ) (inner outer : List Local) → AlikeLocals Row sc tc → Around counted sc (λ n. mentions_definitions n ds) → DefinitionsFit ds → Such ks → Defines names ops sc ds ks inner → Defines others all tc (made_definitions by counted ds) js outer → HasDefined ks js inner outer sc ds
    definitions_alike counted sc tc tree.NoDefinitions ks js inner outer s ar pl b g h = no_more sc tc ks js inner outer s g.0 h.0 g.1 h.1
    definitions_alike counted sc tc (tree.MoreDefinitions ds m at ps form a) ks js inner outer s ar pl b g h =
        let d : HasDefined g.0 h.0 g.1 h.1 sc ds = definitions_alike counted sc tc ds g.0 h.0 g.1 h.1 s (left_part counted sc (λ n. mentions_definitions n ds) (λ n. not (defines ds n || bytes_eq m n || is_one_of n ps) && mentions n a) ar) pl.0 (earlier_such ks g.0 g.2.0 g.7 b) g.4 h.4 in
        let lt : Q g.2.0 = last_such ks g.0 g.2.0 g.7 b in
        let seen : OwnUse = own_of form m ps a in
        let body : Around (counted ++ defined_by ds ++ m ∷ [] ++ ps) (bind (with_own seen g.1 m g.2 (length ps)) ps) (λ n. mentions n a) =
        in_body counted sc g.1 ds m ps form a g.2 (pl.0, pl.1, pl.2) pl.3 d.named (right_part counted sc (λ n. mentions_definitions n ds) (λ n. not (defines ds n || bytes_eq m n || is_one_of n ps) && mentions n a) ar) in
        let same : own_of form m ps (made by (counted ++ defined_by ds ++ m ∷ [] ++ ps) a) ≡ seen = own_made by are.qualified form m ps (counted ++ defined_by ds ++ m ∷ [] ++ ps) a pl.1 pl.4 (counted_own counted ds m ps) in
        let there : slice_get all h.2.0 ≡ Some (local_operator (slots h.1) (length ps) seen h.3) = subst (λ (u : OwnUse). slice_get all h.2.0 ≡ Some (local_operator (slots h.1) (length ps) u h.3)) same h.6 in
        let means : Means others all (bind (with_own seen h.1 m h.2 (length ps)) ps) (made by (counted ++ defined_by ds ++ m ∷ [] ++ ps) a) h.3 = subst (λ (u : OwnUse). Means others all (bind (with_own u h.1 m h.2 (length ps)) ps) (made by (counted ++ defined_by ds ++ m ∷ [] ++ ps) a) h.3) same h.5 in
        let walk : seen ≡ Apart → AlikeBy AreOne Stands R g.3 h.3 = λ q. alike 0 (counted ++ defined_by ds ++ m ∷ [] ++ ps) (bind g.1 ps) (bind h.1 ps) a g.3 h.3 (all_bound Row g.1 h.1 ps d.places) (subst (λ (u : OwnUse). Around (counted ++ defined_by ds ++ m ∷ [] ++ ps) (bind (with_own u g.1 m g.2 (length ps)) ps) (λ n. mentions n a)) q body) pl.4 (body_whole g.2.0 (local_operator (slots g.1) (length ps) seen g.3) lt g.6 q)
        (subst (λ (u : OwnUse). Means names ops (bind (with_own u g.1 m g.2 (length ps)) ps) a g.3) q g.5) (subst (λ (u : OwnUse). Means others all (bind (with_own u h.1 m h.2 (length ps)) ps) (made by (counted ++ defined_by ds ++ m ∷ [] ++ ps) a) h.3) q means) in
        one_more ks js inner outer sc ds m at ps form a (length ps) g.0 h.0 g.1 h.1 g.2 h.2 d (row_alike seen g.1 h.1 m g.2 h.2 ps (counted ++ defined_by ds ++ m ∷ [] ++ ps) a g.3 h.3 d.places body pl.4 lt g.6 there g.5 means walk) g.7 h.7 g.8 h.8

  pub tree_alike : (counted : List (List ℕ)) (sc tc : List Local) (t : Tree) (e f : Term) → AlikeLocals Row sc tc → Around counted sc (λ n. mentions n t) → IsFit t → AreMentioned Q e → Means names ops sc t e → Means others all tc (made by counted t) f → AlikeBy AreOne Stands R e f
  tree_alike counted sc tc t e f s ar pl b g h = alike 0 counted sc tc t e f s ar pl (all_rows Q 0 e b) g h
