-- Whether a tree is above level 0 depends on what is told of the names that are free in it, and of no other.
use Rattle.std.proofs.Common.{◌≡◌, refl, List, [], ◌∷◌}
use Rattle.std.specs.Prelude.{ℕ, Bool, true, false, not, ◌&&◌, ◌||◌, if◌then◌else◌}
use Rattle.std.specs.Str.{bytes_eq}
use Rattle.std.specs.Cmp.Lexicographic.{bytes_decides}
use Rattle.reading_trees.specs.Trees.{Tree, Number, Str, Truth, Builtin, Name, Call, Qualified, At, Parenthesized, Junction, Prefix, Infix, Postfix, SetOf, Filter, Map, Tuple, Function, FunctionSet, Record, RecordSet, Except, Quantified, Choose, If, Case, CaseOther, Let, BoxAction, AngleAction, Fairness, Trees, NoTrees, MoreTrees, Operands, First, Next, Step, Prime, Index, Field, Steps, NoSteps, MoreSteps, Bounds, NoBounds, MoreBounds, Fields, NoFields, MoreFields, Changes, NoChanges, MoreChanges, Arms, NoArms, MoreArms, Definitions, NoDefinitions, MoreDefinitions}
use Rattle.names_scopes.specs.Mentions.{is_one_of, binds, defines, mentions, mentions_each, mentions_operands, mentions_step, mentions_steps, mentions_bounds, mentions_fields, mentions_changes, mentions_arms, mentions_definitions}
use Rattle.names_scopes.specs.Scopes.{at_sign}
use Rattle.names_least_levels.specs.Rising.{Rising, with_name, without, without_bounds, with_own, prefix_rises, infix_rises, rises, rises_each, rises_operands, rises_step, rises_steps, rises_bounds, rises_fields, rises_changes, rises_arms, with_definitions}

-- ---- Booleans

itself_is : (n : List ℕ) → bytes_eq n n ≡ true
itself_is n = (bytes_decides n n).1 refl

or_left : (a b : Bool) → a ≡ true → (a || b) ≡ true
or_left true b q = refl
or_left false b q = absurd (cc)

or_right : (a b : Bool) → b ≡ true → (a || b) ≡ true
or_right true b q = refl
or_right false b q = q

neither : (a b : Bool) → a ≡ false → b ≡ false → (a || b) ≡ false
neither true b p q = absurd (cc)
neither false b p q = q

not_hidden : (a b : Bool) → a ≡ false → b ≡ true → (not a && b) ≡ true
not_hidden true b p q = absurd (cc)
not_hidden false b p q = q

both : (a b c d : Bool) → a ≡ c → b ≡ d → (a || b) ≡ (c || d)
both a b c d p q = λ i. p i || q i

-- the same choice, between values that are the same where they are chosen
chosen : (t b c x y : Bool) → b ≡ c → (t ≡ false → x ≡ y) → (if t then b else x) ≡ (if t then c else y)
chosen true b c x y p f = p
chosen false b c x y p f = f refl

-- ---- what is told of names

-- the same is told of these names
abbrev pub On : (List ℕ → Bool) → Rising → Rising → Type 0
On p g h = (n : List ℕ) → p n ≡ true → g n ≡ h n

left : (p q : List ℕ → Bool) (g h : Rising) → On (λ n. p n || q n) g h → On p g h
left p q g h o n t = o n (or_left (p n) (q n) t)

right : (p q : List ℕ → Bool) (g h : Rising) → On (λ n. p n || q n) g h → On q g h
right p q g h o n t = o n (or_right (p n) (q n) t)

pub named : (m n : List ℕ) (b : Bool) (g h : Rising) → (bytes_eq m n ≡ false → g n ≡ h n) → with_name g m b n ≡ with_name h m b n
named m n b g h f = chosen (bytes_eq m n) b b (g n) (h n) refl f

pub bound : (ns : List (List ℕ)) (n : List ℕ) (g h : Rising) → (is_one_of n ns ≡ false → g n ≡ h n) → without g ns n ≡ without h ns n
bound [] n g h f = f refl
bound (m ∷ ns) n g h f = bound ns n (with_name g m false) (with_name h m false) (λ q. named m n false g h (λ p. f (neither (bytes_eq m n) (is_one_of n ns) p q)))

by_bounds : (bs : Bounds) (n : List ℕ) (g h : Rising) → (binds bs n ≡ false → g n ≡ h n) → without_bounds g bs n ≡ without_bounds h bs n
by_bounds NoBounds n g h f = f refl
by_bounds (MoreBounds bs ns e) n g h f = bound ns n (without_bounds g bs) (without_bounds h bs) (λ q. by_bounds bs n g h (λ p. f (neither (binds bs n) (is_one_of n ns) p q)))

under : (m : List ℕ) (p : List ℕ → Bool) (g h : Rising) → On (λ n. not (bytes_eq m n) && p n) g h → On p (with_name g m false) (with_name h m false)
under m p g h o n t = named m n false g h (λ q. o n (not_hidden (bytes_eq m n) (p n) q t))

under_bounds : (bs : Bounds) (p : List ℕ → Bool) (g h : Rising) → On (λ n. not (binds bs n) && p n) g h → On p (without_bounds g bs) (without_bounds h bs)
under_bounds bs p g h o n t = by_bounds bs n g h (λ q. o n (not_hidden (binds bs n) (p n) q t))

-- the same is told of a name behind definitions, where it is told before them unless one has that name
abbrev Behind : Definitions → Rising → Rising → Type 0
Behind ds g h = (n : List ℕ) → (defines ds n ≡ false → g n ≡ h n) → with_definitions g ds n ≡ with_definitions h ds n

behind : (ds : Definitions) (e : Tree) (g h : Rising) → On (λ n. mentions n (Let (record { file = 0; line = 0; col = 0 }) ds e)) g h → Behind ds g h → On (λ n. mentions n e) (with_definitions g ds) (with_definitions h ds)
behind ds e g h o d n t = d n (λ q. o n (or_right (mentions_definitions n ds) (not (defines ds n) && mentions n e) (not_hidden (defines ds n) (mentions n e) q t)))

in_body : (ds : Definitions) (m : List ℕ) (ps : List (List ℕ)) (e : Tree) (g h : Rising) → On (λ n. not (defines ds n || bytes_eq m n || is_one_of n ps) && mentions n e) g h → Behind ds g h → On (λ n. mentions n e) (without (with_own (with_definitions g ds) m) ps) (without (with_own (with_definitions h ds) m) ps)
in_body ds m ps e g h o d n t =
    bound ps n (with_own (with_definitions g ds) m) (with_own (with_definitions h ds) m) (λ q.
    named m n false (with_definitions g ds) (with_definitions h ds) (λ p.
    d n (λ r. o n (not_hidden (defines ds n || bytes_eq m n || is_one_of n ps) (mentions n e) (neither (defines ds n || bytes_eq m n) (is_one_of n ps) (neither (defines ds n) (bytes_eq m n) r p) q) t))))

mutual
  pub same : (t : Tree) (g h : Rising) → On (λ n. mentions n t) g h → rises g t ≡ rises h t
  same (Number at z) g h o = refl
  same (Str at s) g h o = refl
  same (Truth at b) g h o = refl
  same (Builtin at b) g h o = refl
  same (Name at n) g h o = o n (itself_is n)
  same (Call at m es) g h o = both (g m) (rises_each g es) (h m) (rises_each h es) (o m (or_left (bytes_eq m m) (mentions_each m es) (itself_is m))) (each_same es g h (right (λ n. bytes_eq m n) (λ n. mentions_each n es) g h o))
  same (Qualified at m es) g h o = both (g m) (rises_each g es) (h m) (rises_each h es) (o m (or_left (bytes_eq m m) (mentions_each m es) (itself_is m))) (each_same es g h (right (λ n. bytes_eq m n) (λ n. mentions_each n es) g h o))
  same (At at) g h o = o at_sign (itself_is at_sign)
  same (Parenthesized at e) g h o = same e g h o
  same (Junction at b es) g h o = each_same es g h o
  same (Prefix at p e) g h o = both (prefix_rises p) (rises g e) (prefix_rises p) (rises h e) (refl) (same e g h o)
  same (Infix at p os e) g h o = both (infix_rises p || rises_operands g os) (rises g e) (infix_rises p || rises_operands h os) (rises h e) (both (infix_rises p) (rises_operands g os) (infix_rises p) (rises_operands h os) (refl) (operands_same os g h (left (λ n. mentions_operands n os) (λ n. mentions n e) g h o))) (same e g h (right (λ n. mentions_operands n os) (λ n. mentions n e) g h o))
  same (Postfix at e ss s) g h o = both (rises g e || rises_steps g ss) (rises_step g s) (rises h e || rises_steps h ss) (rises_step h s) (both (rises g e) (rises_steps g ss) (rises h e) (rises_steps h ss) (same e g h (left (λ n. mentions n e) (λ n. mentions_steps n ss) g h (left (λ n. mentions n e || mentions_steps n ss) (λ n. mentions_step n s) g h o))) (steps_same ss g h (right (λ n. mentions n e) (λ n. mentions_steps n ss) g h (left (λ n. mentions n e || mentions_steps n ss) (λ n. mentions_step n s) g h o)))) (step_same s g h (right (λ n. mentions n e || mentions_steps n ss) (λ n. mentions_step n s) g h o))
  same (SetOf at es) g h o = each_same es g h o
  same (Filter at m s e) g h o = both (rises g s) (rises (with_name g m false) e) (rises h s) (rises (with_name h m false) e) (same s g h (left (λ n. mentions n s) (λ n. (not (bytes_eq m n) && mentions n e)) g h o)) (same e (with_name g m false) (with_name h m false) (under m (λ n. mentions n e) g h (right (λ n. mentions n s) (λ n. (not (bytes_eq m n) && mentions n e)) g h o)))
  same (Map at e bs) g h o = both (rises_bounds g bs) (rises (without_bounds g bs) e) (rises_bounds h bs) (rises (without_bounds h bs) e) (bounds_same bs g h (right (λ n. (not (binds bs n) && mentions n e)) (λ n. mentions_bounds n bs) g h o)) (same e (without_bounds g bs) (without_bounds h bs) (under_bounds bs (λ n. mentions n e) g h (left (λ n. (not (binds bs n) && mentions n e)) (λ n. mentions_bounds n bs) g h o)))
  same (Tuple at es) g h o = each_same es g h o
  same (Function at bs e) g h o = both (rises_bounds g bs) (rises (without_bounds g bs) e) (rises_bounds h bs) (rises (without_bounds h bs) e) (bounds_same bs g h (left (λ n. mentions_bounds n bs) (λ n. (not (binds bs n) && mentions n e)) g h o)) (same e (without_bounds g bs) (without_bounds h bs) (under_bounds bs (λ n. mentions n e) g h (right (λ n. mentions_bounds n bs) (λ n. (not (binds bs n) && mentions n e)) g h o)))
  same (FunctionSet at s e) g h o = both (rises g s) (rises g e) (rises h s) (rises h e) (same s g h (left (λ n. mentions n s) (λ n. mentions n e) g h o)) (same e g h (right (λ n. mentions n s) (λ n. mentions n e) g h o))
  same (Record at fs) g h o = fields_same fs g h o
  same (RecordSet at fs) g h o = fields_same fs g h o
  same (Except at e cs) g h o = both (rises g e) (rises_changes g cs) (rises h e) (rises_changes h cs) (same e g h (left (λ n. mentions n e) (λ n. mentions_changes n cs) g h o)) (changes_same cs g h (right (λ n. mentions n e) (λ n. mentions_changes n cs) g h o))
  same (Quantified at q bs e) g h o = both (rises_bounds g bs) (rises (without_bounds g bs) e) (rises_bounds h bs) (rises (without_bounds h bs) e) (bounds_same bs g h (left (λ n. mentions_bounds n bs) (λ n. (not (binds bs n) && mentions n e)) g h o)) (same e (without_bounds g bs) (without_bounds h bs) (under_bounds bs (λ n. mentions n e) g h (right (λ n. mentions_bounds n bs) (λ n. (not (binds bs n) && mentions n e)) g h o)))
  same (Choose at m s e) g h o = both (rises g s) (rises (with_name g m false) e) (rises h s) (rises (with_name h m false) e) (same s g h (left (λ n. mentions n s) (λ n. (not (bytes_eq m n) && mentions n e)) g h o)) (same e (with_name g m false) (with_name h m false) (under m (λ n. mentions n e) g h (right (λ n. mentions n s) (λ n. (not (bytes_eq m n) && mentions n e)) g h o)))
  same (If at p e f) g h o = both (rises g p || rises g e) (rises g f) (rises h p || rises h e) (rises h f) (both (rises g p) (rises g e) (rises h p) (rises h e) (same p g h (left (λ n. mentions n p) (λ n. mentions n e) g h (left (λ n. mentions n p || mentions n e) (λ n. mentions n f) g h o))) (same e g h (right (λ n. mentions n p) (λ n. mentions n e) g h (left (λ n. mentions n p || mentions n e) (λ n. mentions n f) g h o)))) (same f g h (right (λ n. mentions n p || mentions n e) (λ n. mentions n f) g h o))
  same (Case at arms) g h o = arms_same arms g h o
  same (CaseOther at arms e) g h o = both (rises_arms g arms) (rises g e) (rises_arms h arms) (rises h e) (arms_same arms g h (left (λ n. mentions_arms n arms) (λ n. mentions n e) g h o)) (same e g h (right (λ n. mentions_arms n arms) (λ n. mentions n e) g h o))
  same (Let at ds e) g h o = same e (with_definitions g ds) (with_definitions h ds) (behind ds e g h o (definitions_same ds g h (left (λ n. mentions_definitions n ds) (λ n. not (defines ds n) && mentions n e) g h o)))
  same (BoxAction at e v) g h o = refl
  same (AngleAction at e v) g h o = refl
  same (Fairness at v e) g h o = refl

  pub each_same : (t : Trees) (g h : Rising) → On (λ n. mentions_each n t) g h → rises_each g t ≡ rises_each h t
  each_same NoTrees g h o = refl
  each_same (MoreTrees es e) g h o = both (rises_each g es) (rises g e) (rises_each h es) (rises h e) (each_same es g h (left (λ n. mentions_each n es) (λ n. mentions n e) g h o)) (same e g h (right (λ n. mentions_each n es) (λ n. mentions n e) g h o))

  pub operands_same : (t : Operands) (g h : Rising) → On (λ n. mentions_operands n t) g h → rises_operands g t ≡ rises_operands h t
  operands_same (First e) g h o = same e g h o
  operands_same (Next os at e) g h o = both (rises_operands g os) (rises g e) (rises_operands h os) (rises h e) (operands_same os g h (left (λ n. mentions_operands n os) (λ n. mentions n e) g h o)) (same e g h (right (λ n. mentions_operands n os) (λ n. mentions n e) g h o))

  pub step_same : (t : Step) (g h : Rising) → On (λ n. mentions_step n t) g h → rises_step g t ≡ rises_step h t
  step_same Prime g h o = refl
  step_same (Index es) g h o = each_same es g h o
  step_same (Field f) g h o = refl

  pub steps_same : (t : Steps) (g h : Rising) → On (λ n. mentions_steps n t) g h → rises_steps g t ≡ rises_steps h t
  steps_same NoSteps g h o = refl
  steps_same (MoreSteps ss at s) g h o = both (rises_steps g ss) (rises_step g s) (rises_steps h ss) (rises_step h s) (steps_same ss g h (left (λ n. mentions_steps n ss) (λ n. mentions_step n s) g h o)) (step_same s g h (right (λ n. mentions_steps n ss) (λ n. mentions_step n s) g h o))

  pub bounds_same : (t : Bounds) (g h : Rising) → On (λ n. mentions_bounds n t) g h → rises_bounds g t ≡ rises_bounds h t
  bounds_same NoBounds g h o = refl
  bounds_same (MoreBounds bs ns e) g h o = both (rises_bounds g bs) (rises g e) (rises_bounds h bs) (rises h e) (bounds_same bs g h (left (λ n. mentions_bounds n bs) (λ n. mentions n e) g h o)) (same e g h (right (λ n. mentions_bounds n bs) (λ n. mentions n e) g h o))

  pub fields_same : (t : Fields) (g h : Rising) → On (λ n. mentions_fields n t) g h → rises_fields g t ≡ rises_fields h t
  fields_same NoFields g h o = refl
  fields_same (MoreFields fs f e) g h o = both (rises_fields g fs) (rises g e) (rises_fields h fs) (rises h e) (fields_same fs g h (left (λ n. mentions_fields n fs) (λ n. mentions n e) g h o)) (same e g h (right (λ n. mentions_fields n fs) (λ n. mentions n e) g h o))

  pub changes_same : (t : Changes) (g h : Rising) → On (λ n. mentions_changes n t) g h → rises_changes g t ≡ rises_changes h t
  changes_same NoChanges g h o = refl
  changes_same (MoreChanges cs path e) g h o = both (rises_changes g cs || rises_steps g path) (rises (with_name g at_sign false) e) (rises_changes h cs || rises_steps h path) (rises (with_name h at_sign false) e) (both (rises_changes g cs) (rises_steps g path) (rises_changes h cs) (rises_steps h path) (changes_same cs g h (left (λ n. mentions_changes n cs) (λ n. mentions_steps n path) g h (left (λ n. mentions_changes n cs || mentions_steps n path) (λ n. (not (bytes_eq at_sign n) && mentions n e)) g h o))) (steps_same path g h (right (λ n. mentions_changes n cs) (λ n. mentions_steps n path) g h (left (λ n. mentions_changes n cs || mentions_steps n path) (λ n. (not (bytes_eq at_sign n) && mentions n e)) g h o)))) (same e (with_name g at_sign false) (with_name h at_sign false) (under at_sign (λ n. mentions n e) g h (right (λ n. mentions_changes n cs || mentions_steps n path) (λ n. (not (bytes_eq at_sign n) && mentions n e)) g h o)))

  pub arms_same : (t : Arms) (g h : Rising) → On (λ n. mentions_arms n t) g h → rises_arms g t ≡ rises_arms h t
  arms_same NoArms g h o = refl
  arms_same (MoreArms arms p e) g h o = both (rises_arms g arms || rises g p) (rises g e) (rises_arms h arms || rises h p) (rises h e) (both (rises_arms g arms) (rises g p) (rises_arms h arms) (rises h p) (arms_same arms g h (left (λ n. mentions_arms n arms) (λ n. mentions n p) g h (left (λ n. mentions_arms n arms || mentions n p) (λ n. mentions n e) g h o))) (same p g h (right (λ n. mentions_arms n arms) (λ n. mentions n p) g h (left (λ n. mentions_arms n arms || mentions n p) (λ n. mentions n e) g h o)))) (same e g h (right (λ n. mentions_arms n arms || mentions n p) (λ n. mentions n e) g h o))

  pub definitions_same : (ds : Definitions) (g h : Rising) → On (λ n. mentions_definitions n ds) g h → Behind ds g h
  definitions_same NoDefinitions g h o n f = f refl
  definitions_same (MoreDefinitions ds m at ps form e) g h o n f =
      let before : Behind ds g h = definitions_same ds g h (left (λ k. mentions_definitions k ds) (λ k. not (defines ds k || bytes_eq m k || is_one_of k ps) && mentions k e) g h o) in
      let body : rises (without (with_own (with_definitions g ds) m) ps) e ≡ rises (without (with_own (with_definitions h ds) m) ps) e =
      same e (without (with_own (with_definitions g ds) m) ps) (without (with_own (with_definitions h ds) m) ps) (in_body ds m ps e g h (right (λ k. mentions_definitions k ds) (λ k. not (defines ds k || bytes_eq m k || is_one_of k ps) && mentions k e) g h o) before) in
      chosen (bytes_eq m n) (rises (without (with_own (with_definitions g ds) m) ps) e) (rises (without (with_own (with_definitions h ds) m) ps) e) (with_definitions g ds n) (with_definitions h ds n) body (λ p. before n (λ q. f (neither (defines ds n) (bytes_eq m n) q p)))

-- the body of a definition of a LET, with its own name and its parameters
pub same_local : (n : List ℕ) (ps : List (List ℕ)) (e : Tree) (g h : Rising) → On (λ m. mentions m e) g h → rises (without (with_own g n) ps) e ≡ rises (without (with_own h n) ps) e
same_local n ps e g h o = same e (without (with_own g n) ps) (without (with_own h n) ps) (λ m t. bound ps m (with_own g n) (with_own h n) (λ q. named n m false g h (λ p. o m t)))
