-- An instance uses a bound name of a tree just where the tree does: so a definition of a LET uses itself in the instance as it does in the module.
use Rattle.std.proofs.Common.{◌≡◌, ◌∙◌, sym, ap, ap₂, refl, subst, List, [], ◌∷◌, ◌++◌}
use Rattle.std.specs.Prelude.{◌||◌, ◌&&◌, ℕ, Bool, true, false, not, Option, Some, None, if◌then◌else◌}
use Rattle.std.specs.Str.{bytes_eq}
use Rattle.base_core.specs.declared.place.Place.{Place}
use Rattle.reading_trees.specs.Grammar.{qualified}
use Rattle.reading_trees.specs.Trees as tree
use Rattle.reading_trees.specs.Trees.{Tree}
use Rattle.reading_trees.specs.declared.form.DefinitionForm.{DefinitionForm}
use Rattle.reading_trees.specs.declared.form.DefinitionForm.TheVariants as forms
use Rattle.names_terms.specs.declared.operator.Own.TheVariants as owns
use Rattle.names_scopes.specs.Mentions.{binds, defines, is_one_of, mentions, mentions_each, mentions_operands, mentions_step, mentions_steps, mentions_bounds, mentions_fields, mentions_changes, mentions_arms, mentions_definitions}
use Rattle.names_scopes.specs.Scopes.{at_sign}
use Rattle.names_meanings.specs.Owning.{own_of}
use Rattle.names_instances.specs.Made.{StandIns, bound_by, call_by, defined_by, made, made_each, made_operands, made_step, made_steps, made_bounds, made_fields, made_changes, made_arms, made_definitions, name_by, qualified_by}
use Rattle.twice_instances.specs.Trees.{IsPlain, IsFit, AreFit, OperandsFit, StepFits, StepsFit, BoundsFit, FieldsFit, ChangesFit, ArmsFit, DefinitionsFit}
use Rattle.twice_instances.proofs.Around.{differ, itself_is, left_true, no_clash, one_of_both, one_of_one, right_true}

either : {a b c d : Bool} → a ≡ b → c ≡ d → (a || c) ≡ (b || d)
either p q = ap₂ (λ x y. x || y) p q

module _ (by : StandIns) (gives : (m q : List ℕ) → by m ≡ Some q → (i h : List ℕ) × (q ≡ qualified i h)) (n : List ℕ) (plain : IsPlain n) where
  stays : (counted ns : List (List ℕ)) → is_one_of n counted ≡ true → is_one_of n (counted ++ ns) ≡ true
  stays counted ns c = one_of_both n counted ns ∙ left_true (is_one_of n counted) (is_one_of n ns) c

  -- what stands for another name is another name
  no_stand_in : (m q : List ℕ) → by m ≡ Some q → bytes_eq q n ≡ false
  no_stand_in m q e = let w : (i h : List ℕ) × (q ≡ qualified i h) = gives m q e in differ q n (λ s. plain w.0 w.1 (sym s ∙ w.2))

  another : (counted : List (List ℕ)) (m : List ℕ) → is_one_of n counted ≡ true → is_one_of m counted ≡ false → bytes_eq m n ≡ false
  another counted m c d = differ m n (λ s. no_clash (sym c ∙ subst (λ (x : List ℕ). is_one_of x counted ≡ false) s d))

  name_kept : (counted : List (List ℕ)) (at : Place) (m : List ℕ) → is_one_of n counted ≡ true → (b : Bool) → is_one_of m counted ≡ b → mentions n (name_by (if b then None else by m) at m) ≡ bytes_eq m n
  name_kept counted at m c true d = refl
  name_kept counted at m c false d = by_stand_in (by m) refl
    where
      by_stand_in : (o : Option (List ℕ)) → by m ≡ o → mentions n (name_by o at m) ≡ bytes_eq m n
      by_stand_in None e = refl
      by_stand_in (Some q) e = either (no_stand_in m q e) refl ∙ sym (another counted m c d)

  call_kept : (counted : List (List ℕ)) (at : Place) (m : List ℕ) (es fs : tree.Trees) → mentions_each n fs ≡ mentions_each n es → is_one_of n counted ≡ true → (b : Bool) → is_one_of m counted ≡ b → mentions n (call_by (if b then None else by m) at m fs) ≡ (bytes_eq m n || mentions_each n es)
  call_kept counted at m es fs k c true d = either refl k
  call_kept counted at m es fs k c false d = by_stand_in (by m) refl
    where
      by_stand_in : (o : Option (List ℕ)) → by m ≡ o → mentions n (call_by o at m fs) ≡ (bytes_eq m n || mentions_each n es)
      by_stand_in None e = either refl k
      by_stand_in (Some q) e = either (no_stand_in m q e ∙ sym (another counted m c d)) k

  -- a qualified name is not this one, and neither is what stands for it
  qualified_kept : (at : Place) (m : List ℕ) (es fs : tree.Trees) → mentions_each n fs ≡ mentions_each n es → (i h : List ℕ) × (m ≡ qualified i h) → (o : Option (List ℕ)) → by m ≡ o → mentions n (qualified_by o at m fs) ≡ (bytes_eq m n || mentions_each n es)
  qualified_kept at m es fs k w None e = either refl k
  qualified_kept at m es fs k w (Some q) e = either (no_stand_in m q e ∙ sym (differ m n (λ s. plain w.0 w.1 (sym s ∙ w.2)))) k

  binds_kept : (counted : List (List ℕ)) (bs : tree.Bounds) → binds (made_bounds by counted bs) n ≡ binds bs n
  binds_kept counted tree.NoBounds = refl
  binds_kept counted (tree.MoreBounds bs ns e) = either (binds_kept counted bs) refl

  defines_kept : (counted : List (List ℕ)) (ds : tree.Definitions) → defines (made_definitions by counted ds) n ≡ defines ds n
  defines_kept counted tree.NoDefinitions = refl
  defines_kept counted (tree.MoreDefinitions ds m at ps form e) = either (defines_kept counted ds) refl

  mutual
    pub tree_kept : (counted : List (List ℕ)) (t : Tree) → IsFit t → is_one_of n counted ≡ true → mentions n (made by counted t) ≡ mentions n t
    tree_kept counted (tree.Number at z) pl c = refl
    tree_kept counted (tree.Str at s) pl c = refl
    tree_kept counted (tree.Truth at b) pl c = refl
    tree_kept counted (tree.Builtin at b) pl c = refl
    tree_kept counted (tree.At at) pl c = refl
    tree_kept counted (tree.Parenthesized at e) pl c = tree_kept counted e pl c
    tree_kept counted (tree.Junction at b es) pl c = each_kept counted es pl c
    tree_kept counted (tree.Prefix at o e) pl c = tree_kept counted e pl c
    tree_kept counted (tree.Infix at o os e) pl c = either (operands_kept counted os pl.0 c) (tree_kept counted e pl.1 c)
    tree_kept counted (tree.Postfix at e ss s) pl c = either (either (tree_kept counted e pl.0 c) (steps_kept counted ss pl.1 c)) (step_kept counted s pl.2 c)
    tree_kept counted (tree.SetOf at es) pl c = each_kept counted es pl c
    tree_kept counted (tree.Filter at m s e) pl c = either (tree_kept counted s pl.1 c) (ap (λ (b : Bool). not (bytes_eq m n) && b) (tree_kept (counted ++ m ∷ []) e pl.2 (stays counted (m ∷ []) c)))
    tree_kept counted (tree.Map at e bs) pl c = either (ap₂ (λ (a b : Bool). not a && b) (binds_kept counted bs) (tree_kept (counted ++ bound_by bs) e pl.0 (stays counted (bound_by bs) c))) (bounds_kept counted bs pl.1 c)
    tree_kept counted (tree.Tuple at es) pl c = each_kept counted es pl c
    tree_kept counted (tree.Function at bs e) pl c = either (bounds_kept counted bs pl.0 c) (ap₂ (λ (a b : Bool). not a && b) (binds_kept counted bs) (tree_kept (counted ++ bound_by bs) e pl.1 (stays counted (bound_by bs) c)))
    tree_kept counted (tree.FunctionSet at s e) pl c = either (tree_kept counted s pl.0 c) (tree_kept counted e pl.1 c)
    tree_kept counted (tree.Record at fs) pl c = fields_kept counted fs pl c
    tree_kept counted (tree.RecordSet at fs) pl c = fields_kept counted fs pl c
    tree_kept counted (tree.Except at e cs) pl c = either (tree_kept counted e pl.0 c) (changes_kept counted cs pl.1 c)
    tree_kept counted (tree.Quantified at q bs e) pl c = either (bounds_kept counted bs pl.0 c) (ap₂ (λ (a b : Bool). not a && b) (binds_kept counted bs) (tree_kept (counted ++ bound_by bs) e pl.1 (stays counted (bound_by bs) c)))
    tree_kept counted (tree.Choose at m s e) pl c = either (tree_kept counted s pl.1 c) (ap (λ (b : Bool). not (bytes_eq m n) && b) (tree_kept (counted ++ m ∷ []) e pl.2 (stays counted (m ∷ []) c)))
    tree_kept counted (tree.If at p e f) pl c = either (either (tree_kept counted p pl.0 c) (tree_kept counted e pl.1 c)) (tree_kept counted f pl.2 c)
    tree_kept counted (tree.Case at arms) pl c = arms_kept counted arms pl c
    tree_kept counted (tree.CaseOther at arms e) pl c = either (arms_kept counted arms pl.0 c) (tree_kept counted e pl.1 c)
    tree_kept counted (tree.BoxAction at e v) pl c = either (tree_kept counted e pl.0 c) (tree_kept counted v pl.1 c)
    tree_kept counted (tree.AngleAction at e v) pl c = either (tree_kept counted e pl.0 c) (tree_kept counted v pl.1 c)
    tree_kept counted (tree.Fairness at v e) pl c = either (tree_kept counted v pl.0 c) (tree_kept counted e pl.1 c)
    tree_kept counted (tree.Name at m) pl c = name_kept counted at m c (is_one_of m counted) refl
    tree_kept counted (tree.Call at m es) pl c = call_kept counted at m es (made_each by counted es) (each_kept counted es pl.1 c) c (is_one_of m counted) refl
    tree_kept counted (tree.Qualified at m es) pl c = qualified_kept at m es (made_each by counted es) (each_kept counted es pl.3 c) (pl.0, pl.1, pl.2) (by m) refl
    tree_kept counted (tree.Let at ds e) pl c = either (definitions_kept counted ds pl.0 c) (ap₂ (λ (a b : Bool). not a && b) (defines_kept counted ds) (tree_kept (counted ++ defined_by ds) e pl.1 (stays counted (defined_by ds) c)))

    each_kept : (counted : List (List ℕ)) (x : tree.Trees) → AreFit x → is_one_of n counted ≡ true → mentions_each n (made_each by counted x) ≡ mentions_each n x
    each_kept counted tree.NoTrees pl c = refl
    each_kept counted (tree.MoreTrees es e) pl c = either (each_kept counted es pl.0 c) (tree_kept counted e pl.1 c)

    operands_kept : (counted : List (List ℕ)) (x : tree.Operands) → OperandsFit x → is_one_of n counted ≡ true → mentions_operands n (made_operands by counted x) ≡ mentions_operands n x
    operands_kept counted (tree.First e) pl c = tree_kept counted e pl c
    operands_kept counted (tree.Next os at e) pl c = either (operands_kept counted os pl.0 c) (tree_kept counted e pl.1 c)

    step_kept : (counted : List (List ℕ)) (x : tree.Step) → StepFits x → is_one_of n counted ≡ true → mentions_step n (made_step by counted x) ≡ mentions_step n x
    step_kept counted tree.Prime pl c = refl
    step_kept counted (tree.Index es) pl c = each_kept counted es pl c
    step_kept counted (tree.Field h) pl c = refl

    steps_kept : (counted : List (List ℕ)) (x : tree.Steps) → StepsFit x → is_one_of n counted ≡ true → mentions_steps n (made_steps by counted x) ≡ mentions_steps n x
    steps_kept counted tree.NoSteps pl c = refl
    steps_kept counted (tree.MoreSteps ss at s) pl c = either (steps_kept counted ss pl.0 c) (step_kept counted s pl.1 c)

    bounds_kept : (counted : List (List ℕ)) (x : tree.Bounds) → BoundsFit x → is_one_of n counted ≡ true → mentions_bounds n (made_bounds by counted x) ≡ mentions_bounds n x
    bounds_kept counted tree.NoBounds pl c = refl
    bounds_kept counted (tree.MoreBounds bs ns e) pl c = either (bounds_kept counted bs pl.0 c) (tree_kept counted e pl.2 c)

    fields_kept : (counted : List (List ℕ)) (x : tree.Fields) → FieldsFit x → is_one_of n counted ≡ true → mentions_fields n (made_fields by counted x) ≡ mentions_fields n x
    fields_kept counted tree.NoFields pl c = refl
    fields_kept counted (tree.MoreFields fs m e) pl c = either (fields_kept counted fs pl.0 c) (tree_kept counted e pl.1 c)

    changes_kept : (counted : List (List ℕ)) (x : tree.Changes) → ChangesFit x → is_one_of n counted ≡ true → mentions_changes n (made_changes by counted x) ≡ mentions_changes n x
    changes_kept counted tree.NoChanges pl c = refl
    changes_kept counted (tree.MoreChanges cs path e) pl c = either (either (changes_kept counted cs pl.0 c) (steps_kept counted path pl.1 c)) (ap (λ (b : Bool). not (bytes_eq at_sign n) && b) (tree_kept counted e pl.2 c))

    arms_kept : (counted : List (List ℕ)) (x : tree.Arms) → ArmsFit x → is_one_of n counted ≡ true → mentions_arms n (made_arms by counted x) ≡ mentions_arms n x
    arms_kept counted tree.NoArms pl c = refl
    arms_kept counted (tree.MoreArms arms p e) pl c = either (either (arms_kept counted arms pl.0 c) (tree_kept counted p pl.1 c)) (tree_kept counted e pl.2 c)

    definitions_kept : (counted : List (List ℕ)) (ds : tree.Definitions) → DefinitionsFit ds → is_one_of n counted ≡ true → mentions_definitions n (made_definitions by counted ds) ≡ mentions_definitions n ds
    definitions_kept counted tree.NoDefinitions pl c = refl
    definitions_kept counted (tree.MoreDefinitions ds m at ps form e) pl c =
        either (definitions_kept counted ds pl.0 c)
        (ap₂ (λ (a b : Bool). not (a || bytes_eq m n || is_one_of n ps) && b) (defines_kept counted ds)
        (tree_kept (counted ++ defined_by ds ++ m ∷ [] ++ ps) e pl.4 (stays (counted ++ defined_by ds ++ m ∷ []) ps (stays (counted ++ defined_by ds) (m ∷ []) (stays counted (defined_by ds) c)))))

-- its own name is counted in the body of a definition of a LET
pub counted_own : (counted : List (List ℕ)) (ds : tree.Definitions) (m : List ℕ) (ps : List (List ℕ)) → is_one_of m (counted ++ defined_by ds ++ m ∷ [] ++ ps) ≡ true
counted_own counted ds m ps =
    one_of_both m (counted ++ defined_by ds ++ m ∷ []) ps ∙ left_true (is_one_of m (counted ++ defined_by ds ++ m ∷ [])) (is_one_of m ps)
    (one_of_both m (counted ++ defined_by ds) (m ∷ []) ∙ right_true (is_one_of m (counted ++ defined_by ds)) (is_one_of m (m ∷ [])) (one_of_one m m ∙ itself_is m))

pub own_made : (by : StandIns) → ((m q : List ℕ) → by m ≡ Some q → (i h : List ℕ) × (q ≡ qualified i h)) → (form : DefinitionForm) (m : List ℕ) (ps counted : List (List ℕ)) (e : Tree) → IsPlain m → IsFit e → is_one_of m counted ≡ true
    → own_of form m ps (made by counted e) ≡ own_of form m ps e
own_made by gives forms.Operator m ps counted e plain fit c = refl
own_made by gives forms.Constant m ps counted e plain fit c = refl
own_made by gives forms.Function m ps counted e plain fit c =
    ap (λ (b : Bool). if is_one_of m ps then owns.Apart else (if b then owns.Function else owns.Apart)) (tree_kept by gives m plain counted e fit c)
