-- Where no name of TLC's operators is free in a tree, but for those that are the program's own or bound around it, the tree stays.
use Rattle.std.proofs.Common.{◌≡◌, ◌∙◌, sym, ap, refl, subst, List, [], ◌∷◌, ◌++◌}
use Rattle.std.specs.Prelude.{ℕ, Bool, true, false, not, ◌&&◌, ◌||◌, if◌then◌else◌, codes}
use Rattle.std.specs.Str.{bytes_eq}
use Rattle.std.specs.Cmp.Lexicographic.{bytes_decides}
use Rattle.std.proofs.Math.Bool.{or-false}
use Rattle.std.proofs.lemmas.List.Folds.{list_any-append}
use Rattle.base_core.specs.Texts.{same_bytes}
use Rattle.base_core.specs.declared.place.Place.{Place}
use Rattle.names_scopes.specs.Mentions.{is_one_of, binds, defines, mentions, mentions_each, mentions_operands, mentions_step, mentions_steps, mentions_bounds, mentions_fields, mentions_changes, mentions_arms, mentions_definitions}
use Rattle.names_scopes.specs.Scopes.{at_sign}
use Rattle.reading_trees.specs.Trees.{Tree, Number, Str, Truth, Builtin, Name, Call, Qualified, At, Parenthesized, Junction, Prefix, Infix, Postfix, SetOf, Filter, Map, Tuple, Function, FunctionSet, Record, RecordSet, Except, Quantified, Choose, If, Case, CaseOther, Let, BoxAction, AngleAction, Fairness, Trees, NoTrees, MoreTrees, Operands, First, Next, Step, Prime, Index, Field, Steps, NoSteps, MoreSteps, Bounds, NoBounds, MoreBounds, Fields, NoFields, MoreFields, Changes, NoChanges, MoreChanges, Arms, NoArms, MoreArms, Definitions, NoDefinitions, MoreDefinitions}
use Rattle.names_tlc_calls.specs.Spelled.{bound_by, called, called_of, defined_by, spelled, spelled_each, spelled_operands, spelled_step, spelled_steps, spelled_bounds, spelled_fields, spelled_changes, spelled_arms, spelled_definitions}
use Rattle.names_tlc_calls.specs.Laws.{is_of_tlc}
use Rattle.names_tlc_calls.proofs.Items.{NameList}

-- ---- names

differ : true ≡ false → ⊥
differ e = absurd (cc)

first : (a b : Bool) → (a || b) ≡ false → a ≡ false
first true b e = e
first false b e = refl

second : (a b : Bool) → (a || b) ≡ false → b ≡ false
second true b e = absurd (differ e)
second false b e = e

shown : (h m : Bool) → (not h && m) ≡ false → h ≡ false → m ≡ false
shown true m e f = absurd (differ f)
shown false m e f = e

regrouped : (a b c d : Bool) → (a || b || c || d) ≡ (a || (b || c || d))
regrouped true b c d = refl
regrouped false b c d = refl

one_more : (n m : List ℕ) (hs : NameList) → is_one_of n (hs ++ m ∷ []) ≡ (is_one_of n hs || bytes_eq m n)
one_more n m hs = list_any-append (λ k. bytes_eq k n) hs (m ∷ []) ∙ ap (λ x. is_one_of n hs || x) (or-false (bytes_eq m n))

bound_in : (n : List ℕ) (bs : Bounds) → is_one_of n (bound_by bs) ≡ binds bs n
bound_in n NoBounds = refl
bound_in n (MoreBounds bs ms e) = list_any-append (λ k. bytes_eq k n) (bound_by bs) ms ∙ ap (λ x. x || is_one_of n ms) (bound_in n bs)

more_bound : (n : List ℕ) (bs : Bounds) (hs : NameList) → is_one_of n (hs ++ bound_by bs) ≡ (is_one_of n hs || binds bs n)
more_bound n bs hs = list_any-append (λ k. bytes_eq k n) hs (bound_by bs) ∙ ap (λ x. is_one_of n hs || x) (bound_in n bs)

defined_in : (n : List ℕ) (ds : Definitions) → is_one_of n (defined_by ds) ≡ defines ds n
defined_in n NoDefinitions = refl
defined_in n (MoreDefinitions ds m at ps form e) = one_more n m (defined_by ds) ∙ ap (λ x. x || bytes_eq m n) (defined_in n ds)

more_defined : (n : List ℕ) (ds : Definitions) (hs : NameList) → is_one_of n (hs ++ defined_by ds) ≡ (is_one_of n hs || defines ds n)
more_defined n ds hs = list_any-append (λ k. bytes_eq k n) hs (defined_by ds) ∙ ap (λ x. is_one_of n hs || x) (defined_in n ds)

in_definition : (n m : List ℕ) (ds : Definitions) (ps hs : NameList) → is_one_of n (hs ++ defined_by ds ++ m ∷ [] ++ ps) ≡ (is_one_of n hs || (defines ds n || bytes_eq m n || is_one_of n ps))
in_definition n m ds ps hs =
    list_any-append (λ k. bytes_eq k n) (hs ++ defined_by ds ++ m ∷ []) ps ∙ ap (λ x. x || is_one_of n ps) (one_more n m (hs ++ defined_by ds) ∙ ap (λ x. x || bytes_eq m n) (more_defined n ds hs)) ∙ regrouped (is_one_of n hs) (defines ds n) (bytes_eq m n) (is_one_of n ps)

-- ---- what is told of names that are not hidden

abbrev pub Silent : NameList → (List ℕ → Bool) → Type 0
Silent own m = (n : List ℕ) → is_of_tlc n ≡ true → is_one_of n own ≡ false → m n ≡ false

left : (own : NameList) (m k : List ℕ → Bool) → Silent own (λ (n : List ℕ). m n || k n) → Silent own m
left own m k h n t o = first (m n) (k n) (h n t o)

right : (own : NameList) (m k : List ℕ → Bool) → Silent own (λ (n : List ℕ). m n || k n) → Silent own k
right own m k h n t o = second (m n) (k n) (h n t o)

pub under : (own more : NameList) (b m : List ℕ → Bool) → ((n : List ℕ) → is_one_of n more ≡ (is_one_of n own || b n)) → Silent own (λ (n : List ℕ). not (b n) && m n) → Silent more m
under own more b m same h n t o =
    let e : (is_one_of n own || b n) ≡ false = sym (same n) ∙ o in
    shown (b n) (m n) (h n t (first (is_one_of n own) (b n) e)) (second (is_one_of n own) (b n) e)

-- `@` is none of them
no_sign : (n : List ℕ) (b : Bool) → bytes_eq at_sign n ≡ b → is_of_tlc n ≡ true → b ≡ false
no_sign n false e t = refl
no_sign n true e t = absurd (differ (sym (subst (λ (k : List ℕ). is_of_tlc k ≡ true) (sym (same_bytes at_sign n e)) t)))

beside_at : (own : NameList) (m : List ℕ → Bool) → Silent own (λ (n : List ℕ). not (bytes_eq at_sign n) && m n) → Silent own m
beside_at own m h n t o = shown (bytes_eq at_sign n) (m n) (h n t o) (no_sign n (bytes_eq at_sign n) refl t)

-- ---- calls

neither : (a b : Bool) (x y z : Tree) → a ≡ false → b ≡ false → (if a then x else (if b then y else z)) ≡ z
neither true b x y z e f = absurd (differ e)
neither false true x y z e f = absurd (differ f)
neither false false x y z e f = refl

others_stay : (at : Place) (n : List ℕ) (es : Trees) → is_of_tlc n ≡ false → called_of at n es ≡ Call at n es
others_stay at n NoTrees t = refl
others_stay at n (MoreTrees NoTrees e) t =
    let rest = second (bytes_eq n (codes "Assert")) _ t in
    let last = second (bytes_eq n (codes "Print")) _ rest in
    neither (bytes_eq n (codes "PrintT")) (bytes_eq n (codes "TLCEval")) _ _ _ (first (bytes_eq n (codes "PrintT")) _ last) (second (bytes_eq n (codes "PrintT")) _ last)
others_stay at n (MoreTrees (MoreTrees NoTrees e) f) t =
    let rest = second (bytes_eq n (codes "Assert")) _ t in
    neither (bytes_eq n (codes "Assert")) (bytes_eq n (codes "Print")) _ _ _ (first (bytes_eq n (codes "Assert")) _ t) (first (bytes_eq n (codes "Print")) _ rest)
others_stay at n (MoreTrees (MoreTrees (MoreTrees es d) e) f) t = refl

called_by : (own : NameList) (at : Place) (n : List ℕ) (es : Trees) (hidden tlc : Bool) → is_one_of n own ≡ hidden → is_of_tlc n ≡ tlc → Silent own (λ (k : List ℕ). bytes_eq n k)
    → called hidden at n es ≡ Call at n es
called_by own at n es true tlc e t h = refl
called_by own at n es false false e t h = others_stay at n es t
called_by own at n es false true e t h = absurd (differ (sym ((bytes_decides n n).1 refl) ∙ h n t e))

called_stays : (own : NameList) (at : Place) (n : List ℕ) (es : Trees) → Silent own (λ (k : List ℕ). bytes_eq n k) → called (is_one_of n own) at n es ≡ Call at n es
called_stays own at n es h = called_by own at n es (is_one_of n own) (is_of_tlc n) refl refl h

-- ---- trees

mutual
  pub stays : (own : NameList) (t : Tree) → Silent own (λ (n : List ℕ). mentions n t) → spelled own t ≡ t
  stays own (Number at z) h = refl
  stays own (Str at s) h = refl
  stays own (Truth at b) h = refl
  stays own (Builtin at b) h = refl
  stays own (Name at m) h = refl
  stays own (Call at m es) h =
      ap (λ (ts : Trees). called (is_one_of m own) at m ts) (each_stays own es (right own (λ (n : List ℕ). bytes_eq m n) (λ (n : List ℕ). mentions_each n es) h)) ∙ called_stays own at m es (left own (λ (n : List ℕ). bytes_eq m n) (λ (n : List ℕ). mentions_each n es) h)
  stays own (Qualified at m es) h = ap (λ (ts : Trees). Qualified at m ts) (each_stays own es (right own (λ (n : List ℕ). bytes_eq m n) (λ (n : List ℕ). mentions_each n es) h))
  stays own (At at) h = refl
  stays own (Parenthesized at e) h = λ i. Parenthesized at (stays own e h i)
  stays own (Junction at b es) h = λ i. Junction at b (each_stays own es h i)
  stays own (Prefix at o e) h = λ i. Prefix at o (stays own e h i)
  stays own (Infix at o os e) h = λ i. Infix at o (operands_stay own os (left own (λ (n : List ℕ). mentions_operands n os) (λ (n : List ℕ). mentions n e) h) i) (stays own e (right own (λ (n : List ℕ). mentions_operands n os) (λ (n : List ℕ). mentions n e) h) i)
  stays own (Postfix at e ss s) h =
      λ i. Postfix at (stays own e (left own (λ (n : List ℕ). mentions n e) (λ (n : List ℕ). mentions_steps n ss) (left own (λ (n : List ℕ). mentions n e || mentions_steps n ss) (λ (n : List ℕ). mentions_step n s) h)) i)
      (steps_stay own ss (right own (λ (n : List ℕ). mentions n e) (λ (n : List ℕ). mentions_steps n ss) (left own (λ (n : List ℕ). mentions n e || mentions_steps n ss) (λ (n : List ℕ). mentions_step n s) h)) i) (step_stays own s (right own (λ (n : List ℕ). mentions n e || mentions_steps n ss) (λ (n : List ℕ). mentions_step n s) h) i)
  stays own (SetOf at es) h = λ i. SetOf at (each_stays own es h i)
  stays own (Filter at m s e) h = λ i. Filter at m (stays own s (left own (λ (n : List ℕ). mentions n s) (λ (n : List ℕ). not (bytes_eq m n) && mentions n e) h) i) (stays (own ++ m ∷ []) e (under own (own ++ m ∷ []) (λ (n : List ℕ). bytes_eq m n) (λ (n : List ℕ). mentions n e) (λ n. one_more n m own) (right own (λ (n : List ℕ). mentions n s) (λ (n : List ℕ). not (bytes_eq m n) && mentions n e) h)) i)
  stays own (Map at e bs) h = λ i. Map at (stays (own ++ bound_by bs) e (under own (own ++ bound_by bs) (λ (n : List ℕ). binds bs n) (λ (n : List ℕ). mentions n e) (λ n. more_bound n bs own) (left own (λ (n : List ℕ). not (binds bs n) && mentions n e) (λ (n : List ℕ). mentions_bounds n bs) h)) i) (bounds_stay own bs (right own (λ (n : List ℕ). not (binds bs n) && mentions n e) (λ (n : List ℕ). mentions_bounds n bs) h) i)
  stays own (Tuple at es) h = λ i. Tuple at (each_stays own es h i)
  stays own (Function at bs e) h = λ i. Function at (bounds_stay own bs (left own (λ (n : List ℕ). mentions_bounds n bs) (λ (n : List ℕ). not (binds bs n) && mentions n e) h) i) (stays (own ++ bound_by bs) e (under own (own ++ bound_by bs) (λ (n : List ℕ). binds bs n) (λ (n : List ℕ). mentions n e) (λ n. more_bound n bs own) (right own (λ (n : List ℕ). mentions_bounds n bs) (λ (n : List ℕ). not (binds bs n) && mentions n e) h)) i)
  stays own (FunctionSet at s e) h = λ i. FunctionSet at (stays own s (left own (λ (n : List ℕ). mentions n s) (λ (n : List ℕ). mentions n e) h) i) (stays own e (right own (λ (n : List ℕ). mentions n s) (λ (n : List ℕ). mentions n e) h) i)
  stays own (Record at fs) h = λ i. Record at (fields_stay own fs h i)
  stays own (RecordSet at fs) h = λ i. RecordSet at (fields_stay own fs h i)
  stays own (Except at e cs) h = λ i. Except at (stays own e (left own (λ (n : List ℕ). mentions n e) (λ (n : List ℕ). mentions_changes n cs) h) i) (changes_stay own cs (right own (λ (n : List ℕ). mentions n e) (λ (n : List ℕ). mentions_changes n cs) h) i)
  stays own (Quantified at q bs e) h = λ i. Quantified at q (bounds_stay own bs (left own (λ (n : List ℕ). mentions_bounds n bs) (λ (n : List ℕ). not (binds bs n) && mentions n e) h) i) (stays (own ++ bound_by bs) e (under own (own ++ bound_by bs) (λ (n : List ℕ). binds bs n) (λ (n : List ℕ). mentions n e) (λ n. more_bound n bs own) (right own (λ (n : List ℕ). mentions_bounds n bs) (λ (n : List ℕ). not (binds bs n) && mentions n e) h)) i)
  stays own (Choose at m s e) h = λ i. Choose at m (stays own s (left own (λ (n : List ℕ). mentions n s) (λ (n : List ℕ). not (bytes_eq m n) && mentions n e) h) i) (stays (own ++ m ∷ []) e (under own (own ++ m ∷ []) (λ (n : List ℕ). bytes_eq m n) (λ (n : List ℕ). mentions n e) (λ n. one_more n m own) (right own (λ (n : List ℕ). mentions n s) (λ (n : List ℕ). not (bytes_eq m n) && mentions n e) h)) i)
  stays own (If at p e f) h =
      λ i. If at (stays own p (left own (λ (n : List ℕ). mentions n p) (λ (n : List ℕ). mentions n e) (left own (λ (n : List ℕ). mentions n p || mentions n e) (λ (n : List ℕ). mentions n f) h)) i)
      (stays own e (right own (λ (n : List ℕ). mentions n p) (λ (n : List ℕ). mentions n e) (left own (λ (n : List ℕ). mentions n p || mentions n e) (λ (n : List ℕ). mentions n f) h)) i) (stays own f (right own (λ (n : List ℕ). mentions n p || mentions n e) (λ (n : List ℕ). mentions n f) h) i)
  stays own (Case at rows) h = λ i. Case at (arms_stay own rows h i)
  stays own (CaseOther at rows e) h = λ i. CaseOther at (arms_stay own rows (left own (λ (n : List ℕ). mentions_arms n rows) (λ (n : List ℕ). mentions n e) h) i) (stays own e (right own (λ (n : List ℕ). mentions_arms n rows) (λ (n : List ℕ). mentions n e) h) i)
  stays own (Let at ds e) h = λ i. Let at (definitions_stay own ds (left own (λ (n : List ℕ). mentions_definitions n ds) (λ (n : List ℕ). not (defines ds n) && mentions n e) h) i) (stays (own ++ defined_by ds) e (under own (own ++ defined_by ds) (λ (n : List ℕ). defines ds n) (λ (n : List ℕ). mentions n e) (λ n. more_defined n ds own) (right own (λ (n : List ℕ). mentions_definitions n ds) (λ (n : List ℕ). not (defines ds n) && mentions n e) h)) i)
  stays own (BoxAction at e v) h = λ i. BoxAction at (stays own e (left own (λ (n : List ℕ). mentions n e) (λ (n : List ℕ). mentions n v) h) i) (stays own v (right own (λ (n : List ℕ). mentions n e) (λ (n : List ℕ). mentions n v) h) i)
  stays own (AngleAction at e v) h = λ i. AngleAction at (stays own e (left own (λ (n : List ℕ). mentions n e) (λ (n : List ℕ). mentions n v) h) i) (stays own v (right own (λ (n : List ℕ). mentions n e) (λ (n : List ℕ). mentions n v) h) i)
  stays own (Fairness at v e) h = λ i. Fairness at (stays own v (left own (λ (n : List ℕ). mentions n v) (λ (n : List ℕ). mentions n e) h) i) (stays own e (right own (λ (n : List ℕ). mentions n v) (λ (n : List ℕ). mentions n e) h) i)

  each_stays : (own : NameList) (t : Trees) → Silent own (λ (n : List ℕ). mentions_each n t) → spelled_each own t ≡ t
  each_stays own NoTrees h = refl
  each_stays own (MoreTrees es e) h = λ i. MoreTrees (each_stays own es (left own (λ (n : List ℕ). mentions_each n es) (λ (n : List ℕ). mentions n e) h) i) (stays own e (right own (λ (n : List ℕ). mentions_each n es) (λ (n : List ℕ). mentions n e) h) i)

  operands_stay : (own : NameList) (t : Operands) → Silent own (λ (n : List ℕ). mentions_operands n t) → spelled_operands own t ≡ t
  operands_stay own (First e) h = λ i. First (stays own e h i)
  operands_stay own (Next os at e) h = λ i. Next (operands_stay own os (left own (λ (n : List ℕ). mentions_operands n os) (λ (n : List ℕ). mentions n e) h) i) at (stays own e (right own (λ (n : List ℕ). mentions_operands n os) (λ (n : List ℕ). mentions n e) h) i)

  step_stays : (own : NameList) (t : Step) → Silent own (λ (n : List ℕ). mentions_step n t) → spelled_step own t ≡ t
  step_stays own Prime h = refl
  step_stays own (Index es) h = λ i. Index (each_stays own es h i)
  step_stays own (Field m) h = refl

  steps_stay : (own : NameList) (t : Steps) → Silent own (λ (n : List ℕ). mentions_steps n t) → spelled_steps own t ≡ t
  steps_stay own NoSteps h = refl
  steps_stay own (MoreSteps ss at s) h = λ i. MoreSteps (steps_stay own ss (left own (λ (n : List ℕ). mentions_steps n ss) (λ (n : List ℕ). mentions_step n s) h) i) at (step_stays own s (right own (λ (n : List ℕ). mentions_steps n ss) (λ (n : List ℕ). mentions_step n s) h) i)

  bounds_stay : (own : NameList) (t : Bounds) → Silent own (λ (n : List ℕ). mentions_bounds n t) → spelled_bounds own t ≡ t
  bounds_stay own NoBounds h = refl
  bounds_stay own (MoreBounds bs ns e) h = λ i. MoreBounds (bounds_stay own bs (left own (λ (n : List ℕ). mentions_bounds n bs) (λ (n : List ℕ). mentions n e) h) i) ns (stays own e (right own (λ (n : List ℕ). mentions_bounds n bs) (λ (n : List ℕ). mentions n e) h) i)

  fields_stay : (own : NameList) (t : Fields) → Silent own (λ (n : List ℕ). mentions_fields n t) → spelled_fields own t ≡ t
  fields_stay own NoFields h = refl
  fields_stay own (MoreFields fs m e) h = λ i. MoreFields (fields_stay own fs (left own (λ (n : List ℕ). mentions_fields n fs) (λ (n : List ℕ). mentions n e) h) i) m (stays own e (right own (λ (n : List ℕ). mentions_fields n fs) (λ (n : List ℕ). mentions n e) h) i)

  changes_stay : (own : NameList) (t : Changes) → Silent own (λ (n : List ℕ). mentions_changes n t) → spelled_changes own t ≡ t
  changes_stay own NoChanges h = refl
  changes_stay own (MoreChanges cs path e) h =
      λ i. MoreChanges (changes_stay own cs (left own (λ (n : List ℕ). mentions_changes n cs) (λ (n : List ℕ). mentions_steps n path) (left own (λ (n : List ℕ). mentions_changes n cs || mentions_steps n path) (λ (n : List ℕ). not (bytes_eq at_sign n) && mentions n e) h)) i)
      (steps_stay own path (right own (λ (n : List ℕ). mentions_changes n cs) (λ (n : List ℕ). mentions_steps n path) (left own (λ (n : List ℕ). mentions_changes n cs || mentions_steps n path) (λ (n : List ℕ). not (bytes_eq at_sign n) && mentions n e) h)) i) (stays own e (beside_at own (λ (n : List ℕ). mentions n e) (right own (λ (n : List ℕ). mentions_changes n cs || mentions_steps n path) (λ (n : List ℕ). not (bytes_eq at_sign n) && mentions n e) h)) i)

  arms_stay : (own : NameList) (t : Arms) → Silent own (λ (n : List ℕ). mentions_arms n t) → spelled_arms own t ≡ t
  arms_stay own NoArms h = refl
  arms_stay own (MoreArms rows p e) h =
      λ i. MoreArms (arms_stay own rows (left own (λ (n : List ℕ). mentions_arms n rows) (λ (n : List ℕ). mentions n p) (left own (λ (n : List ℕ). mentions_arms n rows || mentions n p) (λ (n : List ℕ). mentions n e) h)) i)
      (stays own p (right own (λ (n : List ℕ). mentions_arms n rows) (λ (n : List ℕ). mentions n p) (left own (λ (n : List ℕ). mentions_arms n rows || mentions n p) (λ (n : List ℕ). mentions n e) h)) i) (stays own e (right own (λ (n : List ℕ). mentions_arms n rows || mentions n p) (λ (n : List ℕ). mentions n e) h) i)

  definitions_stay : (own : NameList) (t : Definitions) → Silent own (λ (n : List ℕ). mentions_definitions n t) → spelled_definitions own t ≡ t
  definitions_stay own NoDefinitions h = refl
  definitions_stay own (MoreDefinitions ds m at ps form e) h =
      λ i. MoreDefinitions (definitions_stay own ds (left own (λ (n : List ℕ). mentions_definitions n ds) (λ (n : List ℕ). not (defines ds n || bytes_eq m n || is_one_of n ps) && mentions n e) h) i) m at ps form
      (stays (own ++ defined_by ds ++ m ∷ [] ++ ps) e (under own (own ++ defined_by ds ++ m ∷ [] ++ ps) (λ (n : List ℕ). defines ds n || bytes_eq m n || is_one_of n ps) (λ (n : List ℕ). mentions n e) (λ n. in_definition n m ds ps own) (right own (λ (n : List ℕ). mentions_definitions n ds) (λ (n : List ℕ). not (defines ds n || bytes_eq m n || is_one_of n ps) && mentions n e) h)) i)
