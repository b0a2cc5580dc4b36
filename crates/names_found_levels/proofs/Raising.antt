-- What a walk finds is what is above level 0.
use Rattle.std.proofs.Common.{◌≡◌, ◌∙◌, sym, ap, refl, List, [], ◌∷◌, ◌++◌}
use Rattle.std.specs.Prelude.{◌||◌, ℕ, Bool, true, false}
use Rattle.names_scopes.specs.Scopes.{at_sign}
use Rattle.reading_trees.specs.Trees.{Tree, Number, Str, Truth, Builtin, Name, Call, Qualified, At, Parenthesized, Junction, Prefix, Infix, Postfix, SetOf, Filter, Map, Tuple, Function, FunctionSet, Record, RecordSet, Except, Quantified, Choose, If, Case, CaseOther, Let, BoxAction, AngleAction, Fairness, Trees, NoTrees, MoreTrees, Operands, First, Next, Step, Prime, Index, Field, Steps, NoSteps, MoreSteps, Bounds, NoBounds, MoreBounds, Fields, NoFields, MoreFields, Changes, NoChanges, MoreChanges, Arms, NoArms, MoreArms, Definitions, NoDefinitions, MoreDefinitions}
use Rattle.names_found_levels.specs.Raised.{Marks, marked, unmarked, names_marked, told, bound_by, own, raise, raise_each, raise_operands, raise_step, raise_steps, raise_bounds, raise_fields, raise_changes, raise_arms, defined_by}
use Rattle.names_found_levels.proofs.Telling.{told_append, told_bound, told_bounds, told_own}
use Rattle.names_least_levels.specs.Rising.{Rising, with_name, without, without_bounds, with_own, prefix_rises, infix_rises, rises, rises_each, rises_operands, rises_step, rises_steps, rises_bounds, rises_fields, rises_changes, rises_arms, with_definitions}

or_false : (b : Bool) → (b || false) ≡ b
or_false true = refl
or_false false = refl

or_true : (b : Bool) → (b || true) ≡ true
or_true true = refl
or_true false = refl

or_assoc : (a b c : Bool) → ((a || b) || c) ≡ (a || (b || c))
or_assoc true b c = refl
or_assoc false b c = refl

two : (b b1 v w r : Bool) → r ≡ (b1 || w) → b1 ≡ (b || v) → r ≡ (b || (v || w))
two b b1 v w r p q = p ∙ ap (λ (z : Bool). z || w) q ∙ or_assoc b v w

three : (b b1 b2 v w u r : Bool) → r ≡ (b2 || u) → b2 ≡ (b1 || w) → b1 ≡ (b || v) → r ≡ (b || ((v || w) || u))
three b b1 b2 v w u r p q s = p ∙ ap (λ (z : Bool). z || u) (two b b1 v w b2 q s) ∙ or_assoc b (v || w) u

-- where what is known around is told in another way
within : (e : Tree) (b : Bool) (g h : Rising) (r : Bool) → r ≡ (b || rises g e) → g ≡ h → r ≡ (b || rises h e)
within e b g h r p q = p ∙ ap (λ (k : Rising). b || rises k e) q

-- what is known in the body of a definition
in_body : (g : Rising) (hs ds : Marks) (n : List ℕ) (ps : List (List ℕ)) (w : Rising) → told (told g hs) ds ≡ w → told g (((hs ++ ds) ++ own n) ++ names_marked ps) ≡ without (with_own w n) ps
in_body g hs ds n ps w q =
    told_append g ((hs ++ ds) ++ own n) (names_marked ps) ∙ told_bound (told g ((hs ++ ds) ++ own n)) ps
    ∙ ap (λ (k : Rising). without k ps) (told_append g (hs ++ ds) (own n) ∙ told_own (told g (hs ++ ds)) n)
    ∙ ap (λ (k : Rising). without (with_own k n) ps) (told_append g hs ds ∙ q)

-- one more definition
one_more : (g : Rising) (hs ds : Marks) (n : List ℕ) (ps : List (List ℕ)) (e : Tree) (w : Rising) (r : Bool) → told (told g hs) ds ≡ w → r ≡ (false || rises (told g (((hs ++ ds) ++ own n) ++ names_marked ps)) e)
    → told (told g hs) (ds ++ marked n r ∷ []) ≡ with_name w n (rises (without (with_own w n) ps) e)
one_more g hs ds n ps e w r q p =
    let is : r ≡ rises (without (with_own w n) ps) e = p ∙ ap (λ (k : Rising). rises k e) (in_body g hs ds n ps w q) in
    told_append (told g hs) ds (marked n r ∷ []) ∙ ap (λ (k : Rising). with_name k n r) q ∙ ap (λ (z : Bool). with_name w n z) is

mutual
  pub raised : (t : Tree) (g : Rising) (hs : Marks) (b : Bool) → raise g hs b t ≡ (b || rises (told g hs) t)
  raised (Number at z) g hs b = sym (or_false b)
  raised (Str at s) g hs b = sym (or_false b)
  raised (Truth at v) g hs b = sym (or_false b)
  raised (Builtin at s) g hs b = sym (or_false b)
  raised (Name at n) g hs b = refl
  raised (Call at n es) g hs b = two b (b || told g hs n) (told g hs n) (rises_each (told g hs) es) (raise_each g hs (b || told g hs n) es) (each_raised es g hs (b || told g hs n)) refl
  raised (Qualified at n es) g hs b = two b (b || told g hs n) (told g hs n) (rises_each (told g hs) es) (raise_each g hs (b || told g hs n) es) (each_raised es g hs (b || told g hs n)) refl
  raised (At at) g hs b = refl
  raised (Parenthesized at e) g hs b = raised e g hs b
  raised (Junction at o es) g hs b = each_raised es g hs b
  raised (Prefix at o e) g hs b = two b (b || prefix_rises o) (prefix_rises o) (rises (told g hs) e) (raise g hs (b || prefix_rises o) e) (raised e g hs (b || prefix_rises o)) refl
  raised (Infix at o os e) g hs b = three b (b || infix_rises o) (raise_operands g hs (b || infix_rises o) os) (infix_rises o) (rises_operands (told g hs) os) (rises (told g hs) e) (raise g hs (raise_operands g hs (b || infix_rises o) os) e) (raised e g hs (raise_operands g hs (b || infix_rises o) os)) (operands_raised os g hs (b || infix_rises o)) refl
  raised (Postfix at e ss s) g hs b = three b (raise g hs b e) (raise_steps g hs (raise g hs b e) ss) (rises (told g hs) e) (rises_steps (told g hs) ss) (rises_step (told g hs) s) (raise_step g hs (raise_steps g hs (raise g hs b e) ss) s) (step_raised s g hs (raise_steps g hs (raise g hs b e) ss)) (steps_raised ss g hs (raise g hs b e)) (raised e g hs b)
  raised (SetOf at es) g hs b = each_raised es g hs b
  raised (Filter at n s e) g hs b = two b (raise g hs b s) (rises (told g hs) s) (rises (with_name (told g hs) n false) e) (raise g (hs ++ unmarked n ∷ []) (raise g hs b s) e) (within e (raise g hs b s) (told g (hs ++ unmarked n ∷ [])) (with_name (told g hs) n false) (raise g (hs ++ unmarked n ∷ []) (raise g hs b s) e) (raised e g (hs ++ unmarked n ∷ []) (raise g hs b s)) (told_append g hs (unmarked n ∷ []))) (raised s g hs b)
  raised (Map at e bs) g hs b = two b (raise_bounds g hs b bs) (rises_bounds (told g hs) bs) (rises (without_bounds (told g hs) bs) e) (raise g (hs ++ bound_by bs) (raise_bounds g hs b bs) e) (within e (raise_bounds g hs b bs) (told g (hs ++ bound_by bs)) (without_bounds (told g hs) bs) (raise g (hs ++ bound_by bs) (raise_bounds g hs b bs) e) (raised e g (hs ++ bound_by bs) (raise_bounds g hs b bs)) (told_append g hs (bound_by bs) ∙ told_bounds (told g hs) bs)) (bounds_raised bs g hs b)
  raised (Tuple at es) g hs b = each_raised es g hs b
  raised (Function at bs e) g hs b = two b (raise_bounds g hs b bs) (rises_bounds (told g hs) bs) (rises (without_bounds (told g hs) bs) e) (raise g (hs ++ bound_by bs) (raise_bounds g hs b bs) e) (within e (raise_bounds g hs b bs) (told g (hs ++ bound_by bs)) (without_bounds (told g hs) bs) (raise g (hs ++ bound_by bs) (raise_bounds g hs b bs) e) (raised e g (hs ++ bound_by bs) (raise_bounds g hs b bs)) (told_append g hs (bound_by bs) ∙ told_bounds (told g hs) bs)) (bounds_raised bs g hs b)
  raised (FunctionSet at s e) g hs b = two b (raise g hs b s) (rises (told g hs) s) (rises (told g hs) e) (raise g hs (raise g hs b s) e) (raised e g hs (raise g hs b s)) (raised s g hs b)
  raised (Record at fs) g hs b = fields_raised fs g hs b
  raised (RecordSet at fs) g hs b = fields_raised fs g hs b
  raised (Except at e cs) g hs b = two b (raise g hs b e) (rises (told g hs) e) (rises_changes (told g hs) cs) (raise_changes g hs (raise g hs b e) cs) (changes_raised cs g hs (raise g hs b e)) (raised e g hs b)
  raised (Quantified at q bs e) g hs b = two b (raise_bounds g hs b bs) (rises_bounds (told g hs) bs) (rises (without_bounds (told g hs) bs) e) (raise g (hs ++ bound_by bs) (raise_bounds g hs b bs) e) (within e (raise_bounds g hs b bs) (told g (hs ++ bound_by bs)) (without_bounds (told g hs) bs) (raise g (hs ++ bound_by bs) (raise_bounds g hs b bs) e) (raised e g (hs ++ bound_by bs) (raise_bounds g hs b bs)) (told_append g hs (bound_by bs) ∙ told_bounds (told g hs) bs)) (bounds_raised bs g hs b)
  raised (Choose at n s e) g hs b = two b (raise g hs b s) (rises (told g hs) s) (rises (with_name (told g hs) n false) e) (raise g (hs ++ unmarked n ∷ []) (raise g hs b s) e) (within e (raise g hs b s) (told g (hs ++ unmarked n ∷ [])) (with_name (told g hs) n false) (raise g (hs ++ unmarked n ∷ []) (raise g hs b s) e) (raised e g (hs ++ unmarked n ∷ []) (raise g hs b s)) (told_append g hs (unmarked n ∷ []))) (raised s g hs b)
  raised (If at p e f) g hs b = three b (raise g hs b p) (raise g hs (raise g hs b p) e) (rises (told g hs) p) (rises (told g hs) e) (rises (told g hs) f) (raise g hs (raise g hs (raise g hs b p) e) f) (raised f g hs (raise g hs (raise g hs b p) e)) (raised e g hs (raise g hs b p)) (raised p g hs b)
  raised (Case at arms) g hs b = arms_raised arms g hs b
  raised (CaseOther at arms e) g hs b = two b (raise_arms g hs b arms) (rises_arms (told g hs) arms) (rises (told g hs) e) (raise g hs (raise_arms g hs b arms) e) (raised e g hs (raise_arms g hs b arms)) (arms_raised arms g hs b)
  raised (Let at ds e) g hs b = within e b (told g (hs ++ defined_by g hs ds)) (with_definitions (told g hs) ds) (raise g (hs ++ defined_by g hs ds) b e) (raised e g (hs ++ defined_by g hs ds) b) (told_append g hs (defined_by g hs ds) ∙ defines ds g hs)
  raised (BoxAction at e v) g hs b = sym (or_true b)
  raised (AngleAction at e v) g hs b = sym (or_true b)
  raised (Fairness at v e) g hs b = sym (or_true b)

  pub each_raised : (t : Trees) (g : Rising) (hs : Marks) (b : Bool) → raise_each g hs b t ≡ (b || rises_each (told g hs) t)
  each_raised NoTrees g hs b = sym (or_false b)
  each_raised (MoreTrees es e) g hs b = two b (raise_each g hs b es) (rises_each (told g hs) es) (rises (told g hs) e) (raise g hs (raise_each g hs b es) e) (raised e g hs (raise_each g hs b es)) (each_raised es g hs b)

  pub operands_raised : (t : Operands) (g : Rising) (hs : Marks) (b : Bool) → raise_operands g hs b t ≡ (b || rises_operands (told g hs) t)
  operands_raised (First e) g hs b = raised e g hs b
  operands_raised (Next os at e) g hs b = two b (raise_operands g hs b os) (rises_operands (told g hs) os) (rises (told g hs) e) (raise g hs (raise_operands g hs b os) e) (raised e g hs (raise_operands g hs b os)) (operands_raised os g hs b)

  pub step_raised : (t : Step) (g : Rising) (hs : Marks) (b : Bool) → raise_step g hs b t ≡ (b || rises_step (told g hs) t)
  step_raised Prime g hs b = sym (or_true b)
  step_raised (Index es) g hs b = each_raised es g hs b
  step_raised (Field h) g hs b = sym (or_false b)

  pub steps_raised : (t : Steps) (g : Rising) (hs : Marks) (b : Bool) → raise_steps g hs b t ≡ (b || rises_steps (told g hs) t)
  steps_raised NoSteps g hs b = sym (or_false b)
  steps_raised (MoreSteps ss at s) g hs b = two b (raise_steps g hs b ss) (rises_steps (told g hs) ss) (rises_step (told g hs) s) (raise_step g hs (raise_steps g hs b ss) s) (step_raised s g hs (raise_steps g hs b ss)) (steps_raised ss g hs b)

  pub bounds_raised : (t : Bounds) (g : Rising) (hs : Marks) (b : Bool) → raise_bounds g hs b t ≡ (b || rises_bounds (told g hs) t)
  bounds_raised NoBounds g hs b = sym (or_false b)
  bounds_raised (MoreBounds bs ns e) g hs b = two b (raise_bounds g hs b bs) (rises_bounds (told g hs) bs) (rises (told g hs) e) (raise g hs (raise_bounds g hs b bs) e) (raised e g hs (raise_bounds g hs b bs)) (bounds_raised bs g hs b)

  pub fields_raised : (t : Fields) (g : Rising) (hs : Marks) (b : Bool) → raise_fields g hs b t ≡ (b || rises_fields (told g hs) t)
  fields_raised NoFields g hs b = sym (or_false b)
  fields_raised (MoreFields fs n e) g hs b = two b (raise_fields g hs b fs) (rises_fields (told g hs) fs) (rises (told g hs) e) (raise g hs (raise_fields g hs b fs) e) (raised e g hs (raise_fields g hs b fs)) (fields_raised fs g hs b)

  pub changes_raised : (t : Changes) (g : Rising) (hs : Marks) (b : Bool) → raise_changes g hs b t ≡ (b || rises_changes (told g hs) t)
  changes_raised NoChanges g hs b = sym (or_false b)
  changes_raised (MoreChanges cs path e) g hs b =
      let before : Bool = raise_steps g hs (raise_changes g hs b cs) path in
      let here : Marks = hs ++ unmarked at_sign ∷ [] in
      three b (raise_changes g hs b cs) before (rises_changes (told g hs) cs) (rises_steps (told g hs) path) (rises (with_name (told g hs) at_sign false) e) (raise g here before e)
      (within e before (told g here) (with_name (told g hs) at_sign false) (raise g here before e) (raised e g here before) (told_append g hs (unmarked at_sign ∷ []))) (steps_raised path g hs (raise_changes g hs b cs)) (changes_raised cs g hs b)

  pub arms_raised : (t : Arms) (g : Rising) (hs : Marks) (b : Bool) → raise_arms g hs b t ≡ (b || rises_arms (told g hs) t)
  arms_raised NoArms g hs b = sym (or_false b)
  arms_raised (MoreArms arms p e) g hs b = three b (raise_arms g hs b arms) (raise g hs (raise_arms g hs b arms) p) (rises_arms (told g hs) arms) (rises (told g hs) p) (rises (told g hs) e) (raise g hs (raise g hs (raise_arms g hs b arms) p) e) (raised e g hs (raise g hs (raise_arms g hs b arms) p)) (raised p g hs (raise_arms g hs b arms)) (arms_raised arms g hs b)

  pub defines : (ds : Definitions) (g : Rising) (hs : Marks) → told (told g hs) (defined_by g hs ds) ≡ with_definitions (told g hs) ds
  defines NoDefinitions g hs = refl
  defines (MoreDefinitions ds n at ps form e) g hs =
      let before : Marks = hs ++ defined_by g hs ds in
      let here : Marks = (before ++ own n) ++ names_marked ps in
      one_more g hs (defined_by g hs ds) n ps e (with_definitions (told g hs) ds) (raise g here false e) (defines ds g hs) (raised e g here false)
