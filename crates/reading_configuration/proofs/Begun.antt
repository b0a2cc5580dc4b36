-- What is walked up to where a statement may begin is written by statements.
use Rattle.std.proofs.Common.{◌≡◌, ℕ, ◌+◌, ◌≤◌, max, suc, Bool, true, false, List, [], ◌∷◌, ◌++◌, length, Option, Some, None, Ok, Err, refl, sym, ap, subst, ◌∙◌, arith, inl, inr}
use Rattle.std.specs.Prelude.{pos, negsuc, ◌⊎◌, ◌&&◌, ◌==◌, if◌then◌else◌}
use Rattle.reading_trees.specs.Lits.{Lit}
use Rattle.reading_trees.specs.Literals.{lit_of}
use Rattle.reading_trees.specs.declared.config.Config.{Config}
use Rattle.reading_configuration.specs.declared.mark.Mark.{Mark}
use Rattle.reading_configuration.specs.declared.mark.Mark.TheVariants.{Name, Number, Str, Truth, Constants, Equal, Replaces, Minus, Open, Close, Comma}
use Rattle.base_core.specs.declared.place.Place.{Place}
use Rattle.reading_configuration.specs.declared.keyword.Part.{Part}
use Rattle.reading_configuration.specs.declared.keyword.Listed.{Listed}
use Rattle.reading_configuration.specs.declared.keyword.Keyword.{Keyword}
use Rattle.reading_configuration.specs.declared.keyword.Keyword.TheVariants as keyword
use Rattle.reading_configuration.specs.declared.expects.Expects.{Expects}
use Rattle.reading_configuration.specs.declared.expects.Expects.TheVariants as expects
use Rattle.reading_configuration.specs.declared.expects.Assigned.{Assigned}
use Rattle.reading_configuration.specs.declared.expects.Further.{Further}
use Rattle.reading_configuration.specs.declared.expects.Further.TheVariants as further
use Rattle.reading_configuration.specs.declared.fault.ConfigKind.{ConfigKind}
use Rattle.reading_configuration.specs.declared.fault.ConfigKind.TheVariants as kinds
use Rattle.reading_trees.specs.declared.config.Literal.{Literal}
use Rattle.reading_configuration.specs.Keywords.{keyword_of}
use Rattle.reading_configuration.specs.Statements.{Named, name_mark, Value, plain, negative, string, truth_value, model_value, empty, braces, Members, last, more, value_marks, members_marks, levels, levels_of, Meaning, is, means, meaning_marks, IsShallow, Assignment, assignments_marks, names_marks, Statement, constants, choice, unchecked, deadlock, statement_marks, statements_marks, AreFurther, AreAssigned, IsStatement, AreStatements}
use Rattle.reading_configuration.specs.Given.{is_chosen, is_assigned}
use Rattle.reading_configuration.specs.Steps.{Next, step, statement_step, word_step, further_step, placed, assigned_step, value_step, negative_step, first_member_step, separator_step, sign_step, replacement_step, first_step, name_step, choice_step, truth_step, close_step}
use Rattle.reading_configuration.proofs.Walks.{Reached, walk, walk_on}

pub record Whole (ms : List Mark) : Type 0 where
  pub statements : List Statement
  pub are : AreStatements statements
  pub whole : ms ≡ statements_marks statements []

pub record Names (ms : List Mark) : Type 0 where
  pub names : List Named
  pub further : AreFurther names
  pub rest : List Mark
  pub whole : ms ≡ names_marks names rest
  pub tail : Whole rest

pub record Assignments (ms : List Mark) : Type 0 where
  pub assignments : List Assignment
  pub further : AreAssigned assignments
  pub rest : List Mark
  pub whole : ms ≡ assignments_marks assignments rest
  pub tail : Whole rest

-- further items, and then statements
abbrev pub Rest : Further → List Mark → Type 0
Rest further.Nothing ms = Whole ms
Rest (further.Name l) ms = Names ms
Rest further.Assignment ms = Assignments ms

-- a name, and what is behind it
abbrev pub NameThen : (List Mark → Type 0) → List Mark → Type 0
NameThen P ms = (n : Named) × ((rest : List Mark) × ((ms ≡ name_mark n ∷ rest) × P rest))

-- this mark, and what is behind it
abbrev pub MarkThen : Mark → (List Mark → Type 0) → List Mark → Type 0
MarkThen m P ms = (rest : List Mark) × ((ms ≡ m ∷ rest) × P rest)

-- the members of a set that has so many sets around it, its brace, and what is behind it
pub record MembersThen (depth : ℕ) (P : List Mark → Type 0) (ms : List Mark) : Type 0 where
  pub members : Members
  pub rest : List Mark
  pub shallow : levels_of members + suc depth ≤ 32
  pub whole : ms ≡ members_marks members rest
  pub tail : P rest

-- behind a value, inside such open sets
abbrev pub Behind : List (List Lit) → List Mark → Type 0
Behind [] ms = Assignments ms
Behind (set ∷ sets) ms = MarkThen Close (Behind sets) ms ⊎ MarkThen Comma (MembersThen (length sets) (Behind sets)) ms

-- a value inside such open sets, and what is behind it
pub record ValueThen (sets : List (List Lit)) (ms : List Mark) : Type 0 where
  pub value : Value
  pub rest : List Mark
  pub shallow : levels value + length sets ≤ 32
  pub whole : ms ≡ value_marks value rest
  pub tail : Behind sets rest

-- the innermost open set is whole
abbrev pub Closed : List (List Lit) → List Mark → Type 0
Closed [] rest = ⊥
Closed (set ∷ sets) rest = Behind sets rest

pub record MeaningThen (ms : List Mark) : Type 0 where
  pub meaning : Meaning
  pub rest : List Mark
  pub shallow : IsShallow meaning
  pub whole : ms ≡ meaning_marks meaning rest
  pub tail : Assignments rest

-- what stands behind what is expected
abbrev pub Claim : Expects → List Mark → Type 0
Claim (expects.Statement f) ms = Rest f ms
Claim (expects.Choice p) ms = NameThen Whole ms
Claim (expects.FirstName l) ms = NameThen Names ms
Claim expects.Truth ms = (b : Bool) × MarkThen (Truth b) Whole ms
Claim expects.FirstAssignment ms = NameThen MeaningThen ms
Claim (expects.Sign a) ms = MeaningThen ms
Claim (expects.Replacement a) ms = NameThen Assignments ms
Claim (expects.Value a sets) ms = length sets ≤ 32 → ValueThen sets ms
Claim (expects.Number a sets) ms = length sets ≤ 32 → (n : ℕ) × MarkThen (Number (pos n)) (Behind sets) ms
Claim (expects.FirstMember a sets) ms = length sets ≤ 32 → MarkThen Close (Closed sets) ms ⊎ ValueThen sets ms
Claim (expects.Separator a sets) ms = length sets ≤ 32 → MarkThen Close (Closed sets) ms ⊎ MarkThen Comma (ValueThen sets) ms

-- the claim of what a mark leads to gives this
abbrev pub OnNext : Next → List Mark → Type 0 → Type 0
OnNext (Ok p) ms goal = Claim p.0 ms → goal
OnNext (Err k) ms goal = Unit {0}

both_shallow : (x y d : ℕ) → x + suc d ≤ 32 → y + suc d ≤ 32 → max x y + suc d ≤ 32
both_shallow x y d h g = omega arith

deeper : (x d : ℕ) → x + suc d ≤ 32 → suc x + d ≤ 32
deeper x d h = omega arith

not_full : (d : ℕ) → (d == 32) ≡ false → d ≤ 32 → 1 + d ≤ 32
not_full d e h = grind arith

either_next : (b : Bool) (k : ConfigKind) (n : Next) (ms : List Mark) (goal : Type 0) → OnNext n ms goal → OnNext (if b then Err k else n) ms goal
either_next true k n ms goal h = tt
either_next false k n ms goal h = h

none_whole : Whole []
none_whole = record { statements = []; are = tt; whole = refl }

-- statements, where something further may stand
pub whole_rest : (f : Further) (ms : List Mark) → Whole ms → Rest f ms
whole_rest further.Nothing ms w = w
whole_rest (further.Name l) ms w = record { names = []; further = tt; rest = ms; whole = refl; tail = w }
whole_rest further.Assignment ms w = record { assignments = []; further = tt; rest = ms; whole = refl; tail = w }

one_more : (s : Statement) (rest : List Mark) → IsStatement s → Whole rest → Whole (statement_marks s rest)
one_more s rest i w = record { statements = s ∷ w.statements; are = (i, w.are); whole = ap (statement_marks s) w.whole }

-- behind a value in the innermost open set: the set's members so far end with it, or go on
members_from : (v : Value) (set : List Lit) (sets : List (List Lit)) (ms rest : List Mark) → levels v + length (set ∷ sets) ≤ 32
    → ms ≡ value_marks v rest → Behind (set ∷ sets) rest → MembersThen (length sets) (Behind sets) ms
members_from v set sets ms rest small e (inl h) =
    record { members = last v; rest = h.0; shallow = small; whole = e ∙ ap (value_marks v) h.1.0; tail = h.1.1 }
members_from v set sets ms rest small e (inr h) =
    let r = h.1.1 in
    record {
      members = more v r.members;
      rest = r.rest;
      shallow = both_shallow (levels v) (levels_of r.members) (length sets) small r.shallow;
      whole = e ∙ ap (value_marks v) (h.1.0 ∙ ap (λ xs. Comma ∷ xs) r.whole);
      tail = r.tail;
    }

separated : (set : List Lit) (sets : List (List Lit)) (ms : List Mark)
    → MarkThen Close (Behind sets) ms ⊎ MarkThen Comma (ValueThen (set ∷ sets)) ms → Behind (set ∷ sets) ms
separated set sets ms (inl h) = inl h
separated set sets ms (inr h) =
    let v = h.1.1 in inr (h.0, (h.1.0, members_from v.value set sets h.0 v.rest v.shallow v.whole v.tail))

-- what is placed behind a value is what stands behind it
behind_placed : (l : Literal) (a : Assigned) (sets : List (List Lit)) (c : Config) (ms : List Mark) → length sets ≤ 32
    → Claim (placed l a sets c).0 ms → Behind sets ms
behind_placed l a [] c ms few h = h
behind_placed l a (set ∷ sets) c ms few h = separated (set ++ lit_of l ∷ []) sets ms (h few)

-- a value of one mark
one_mark : (v : Value) (l : Literal) (a : Assigned) (sets : List (List Lit)) (c : Config) (ms : List Mark) → levels v ≡ 0 → length sets ≤ 32
    → Claim (placed l a sets c).0 ms → ValueThen sets (value_marks v ms)
one_mark v l a sets c ms z few h =
    record { value = v; rest = ms; shallow = omega arith; whole = refl; tail = behind_placed l a sets c ms few h }

opened : (sets : List (List Lit)) (ms : List Mark) → 1 + length sets ≤ 32 → MarkThen Close (Behind sets) ms ⊎ ValueThen ([] ∷ sets) ms
    → ValueThen sets (Open ∷ ms)
opened sets ms few (inl h) = record { value = empty; rest = h.0; shallow = few; whole = ap (λ xs. Open ∷ xs) h.1.0; tail = h.1.1 }
opened sets ms few (inr v) =
    let r = members_from v.value [] sets ms v.rest v.shallow v.whole v.tail in
    record { value = braces r.members; rest = r.rest; shallow = deeper (levels_of r.members) (length sets) r.shallow; whole = ap (λ xs. Open ∷ xs) r.whole; tail = r.tail }

open_grows : (b : Bool) (a : Assigned) (sets : List (List Lit)) (c : Config) (ms : List Mark) → (length sets == 32) ≡ b → length sets ≤ 32
    → OnNext (if b then Err kinds.Syntax else Ok (expects.FirstMember a ([] ∷ sets), c)) ms (ValueThen sets (Open ∷ ms))
open_grows true a sets c ms e few = tt
open_grows false a sets c ms e few =
    λ h. let one : 1 + length sets ≤ 32 = not_full (length sets) e few in opened sets ms one (h (omega arith))

value_grows : (a : Assigned) (sets : List (List Lit)) (c : Config) (m : Mark) (ms : List Mark) → length sets ≤ 32
    → OnNext (value_step a sets c m) ms (ValueThen sets (m ∷ ms))
value_grows a sets c (Name text at) ms few = λ h. one_mark (model_value (record { text = text; at = at })) _ a sets c ms refl few h
value_grows a sets c (Number (pos n)) ms few = λ h. one_mark (plain n) _ a sets c ms refl few h
value_grows a sets c (Number (negsuc n)) ms few = tt
value_grows a sets c (Str s) ms few = λ h. one_mark (string s) _ a sets c ms refl few h
value_grows a sets c (Truth b) ms few = λ h. one_mark (truth_value b) _ a sets c ms refl few h
value_grows a sets c Minus ms few =
    λ h. let r = h few in record { value = negative r.0; rest = r.1.0; shallow = omega arith; whole = ap (λ xs. Minus ∷ xs) r.1.1.0; tail = r.1.1.1 }
value_grows a sets c Open ms few = open_grows (length sets == 32) a sets c ms refl few
value_grows a sets c _ ms few = tt

-- the claim needs few open sets: what a mark leads to is asked for once they are few
give : (n : Next) (ms : List Mark) (few goal : Type 0) → (few → OnNext n ms goal) → OnNext n ms (few → goal)
give (Ok p) ms few goal h = λ k f. h f k
give (Err e) ms few goal h = tt

widen : (n : Next) (ms : List Mark) (goal wider : Type 0) → (goal → wider) → OnNext n ms goal → OnNext n ms wider
widen (Ok p) ms goal wider f h = λ k. f (h k)
widen (Err e) ms goal wider f h = tt

close_grows : (a : Assigned) (sets : List (List Lit)) (c : Config) (ms : List Mark) → length sets ≤ 32
    → OnNext (close_step a sets c) ms (MarkThen Close (Closed sets) (Close ∷ ms))
close_grows a [] c ms few = tt
close_grows a (set ∷ sets) c ms few = λ h. (ms, (refl, behind_placed _ a sets c ms (omega arith) h))

first_grows : (a : Assigned) (sets : List (List Lit)) (c : Config) (m : Mark) (ms : List Mark) → length sets ≤ 32
    → OnNext (first_member_step a sets c m) ms (MarkThen Close (Closed sets) (m ∷ ms) ⊎ ValueThen sets (m ∷ ms))
first_grows a sets c Close ms few = widen (close_step a sets c) ms _ _ inl (close_grows a sets c ms few)
first_grows a sets c (Name text at) ms few = widen (value_step a sets c (Name text at)) ms _ _ inr (value_grows a sets c (Name text at) ms few)
first_grows a sets c (Number z) ms few = widen (value_step a sets c (Number z)) ms _ _ inr (value_grows a sets c (Number z) ms few)
first_grows a sets c (Str s) ms few = widen (value_step a sets c (Str s)) ms _ _ inr (value_grows a sets c (Str s) ms few)
first_grows a sets c (Truth b) ms few = widen (value_step a sets c (Truth b)) ms _ _ inr (value_grows a sets c (Truth b) ms few)
first_grows a sets c Minus ms few = widen (value_step a sets c Minus) ms _ _ inr (value_grows a sets c Minus ms few)
first_grows a sets c Open ms few = widen (value_step a sets c Open) ms _ _ inr (value_grows a sets c Open ms few)
first_grows a sets c _ ms few = tt

negative_grows : (a : Assigned) (sets : List (List Lit)) (c : Config) (m : Mark) (ms : List Mark) → length sets ≤ 32
    → OnNext (negative_step a sets c m) ms ((n : ℕ) × MarkThen (Number (pos n)) (Behind sets) (m ∷ ms))
negative_grows a sets c (Number (pos n)) ms few = λ h. (n, (ms, (refl, behind_placed _ a sets c ms few h)))
negative_grows a sets c (Number (negsuc n)) ms few = tt
negative_grows a sets c _ ms few = tt

separator_grows : (a : Assigned) (sets : List (List Lit)) (c : Config) (m : Mark) (ms : List Mark) → length sets ≤ 32
    → OnNext (separator_step a sets c m) ms (MarkThen Close (Closed sets) (m ∷ ms) ⊎ MarkThen Comma (ValueThen sets) (m ∷ ms))
separator_grows a sets c Close ms few = widen (close_step a sets c) ms _ _ inl (close_grows a sets c ms few)
separator_grows a sets c Comma ms few = λ h. inr (ms, (refl, h few))
separator_grows a sets c _ ms few = tt

sign_grows : (a : Assigned) (c : Config) (m : Mark) (ms : List Mark) → OnNext (sign_step a c m) ms (MeaningThen (m ∷ ms))
sign_grows a c Equal ms =
    λ h. let v = h (omega arith) in
    record { meaning = is v.value; rest = v.rest; shallow = omega (arith, v.shallow); whole = ap (λ xs. Equal ∷ xs) v.whole; tail = v.tail }
sign_grows a c Replaces ms = λ h. record { meaning = means h.0; rest = h.1.0; shallow = tt; whole = ap (λ xs. Replaces ∷ xs) h.1.1.0; tail = h.1.1.1 }
sign_grows a c _ ms = tt

some_same : (p q : Reached) → Some p ≡ Some q → p ≡ q
some_same p q h = cc

module _ (o : Bool) where
  assigned_grows : (c : Config) (text : List ℕ) (at : Place) (ms : List Mark) (goal : Type 0) → (MeaningThen ms → goal) → OnNext (assigned_step o c text at) ms goal
  assigned_grows c text at ms goal f = either_next (o && is_assigned text c.givens) (kinds.Twice text) _ ms goal f

  further_grows : (f : Further) (c : Config) (text : List ℕ) (at : Place) (ms : List Mark) → keyword_of text ≡ None
      → OnNext (further_step o f c text at) ms (Rest f (Name text at ∷ ms))
  further_grows further.Nothing c text at ms e = tt
  further_grows (further.Name l) c text at ms e =
      λ h. record { names = record { text = text; at = at } ∷ h.names; further = (e, h.further); rest = h.rest; whole = ap (λ xs. Name text at ∷ xs) h.whole; tail = h.tail }
  further_grows further.Assignment c text at ms e =
      assigned_grows c text at ms _
      (λ m. let n : Named = record { text = text; at = at } in
      record {
        assignments = record { name = n; meaning = m.meaning } ∷ m.tail.assignments;
        further = ((e, m.shallow), m.tail.further);
        rest = m.tail.rest;
        whole = ap (λ xs. Name text at ∷ xs) (m.whole ∙ ap (meaning_marks m.meaning) m.tail.whole);
        tail = m.tail.tail;
      })

  word_grows : (k : Option Keyword) (f : Further) (c : Config) (text : List ℕ) (at : Place) (ms : List Mark) → keyword_of text ≡ k
      → OnNext (word_step o f c text at k) ms (Rest f (Name text at ∷ ms))
  word_grows (Some (keyword.Chooses p)) f c text at ms e =
      either_next (o && is_chosen c p) (kinds.Twice text) _ ms _
      (λ h. let w : Named = record { text = text; at = at } in
      whole_rest f (Name text at ∷ ms) (subst (λ xs. Whole (Name text at ∷ xs)) (sym h.1.1.0) (one_more (choice w p h.0) h.1.0 e h.1.1.1)))
  word_grows (Some (keyword.Lists l)) f c text at ms e =
      λ h. let w : Named = record { text = text; at = at } in
      let ns = h.1.1.1 in
      whole_rest f (Name text at ∷ ms)
      (subst (λ xs. Whole (Name text at ∷ xs)) (sym (h.1.1.0 ∙ ap (λ xs. name_mark h.0 ∷ xs) ns.whole)) (one_more (unchecked w l h.0 ns.names) ns.rest (e, ns.further) ns.tail))
  word_grows (Some keyword.Deadlock) f c text at ms e =
      λ h. let w : Named = record { text = text; at = at } in
      whole_rest f (Name text at ∷ ms) (subst (λ xs. Whole (Name text at ∷ xs)) (sym h.1.1.0) (one_more (deadlock w h.0) h.1.0 e h.1.1.1))
  word_grows (Some keyword.Unsupported) f c text at ms e = tt
  word_grows None f c text at ms e = further_grows f c text at ms e

  statement_grows : (f : Further) (c : Config) (m : Mark) (ms : List Mark) → OnNext (statement_step o false f c m) ms (Rest f (m ∷ ms))
  statement_grows f c (Name text at) ms = word_grows (keyword_of text) f c text at ms refl
  statement_grows f c Constants ms =
      λ h. let m = h.1.1.1 in
      let b : Assignment = record { name = h.0; meaning = m.meaning } in
      whole_rest f (Constants ∷ ms)
      (subst (λ xs. Whole (Constants ∷ xs)) (sym (h.1.1.0 ∙ ap (λ xs. name_mark h.0 ∷ xs) (m.whole ∙ ap (meaning_marks m.meaning) m.tail.whole)))
      (one_more (constants b m.tail.assignments) m.tail.rest (m.shallow, m.tail.further) m.tail.tail))
  statement_grows f c _ ms = tt

  choice_grows : (p : Part) (c : Config) (m : Mark) (ms : List Mark) → OnNext (choice_step p c m) ms (NameThen Whole (m ∷ ms))
  choice_grows p c (Name text at) ms = λ h. (record { text = text; at = at }, (ms, (refl, h)))
  choice_grows p c _ ms = tt

  name_grows : (l : Listed) (c : Config) (m : Mark) (ms : List Mark) → OnNext (name_step l c m) ms (NameThen Names (m ∷ ms))
  name_grows l c (Name text at) ms = λ h. (record { text = text; at = at }, (ms, (refl, h)))
  name_grows l c _ ms = tt

  truth_grows : (c : Config) (m : Mark) (ms : List Mark) → OnNext (truth_step c m) ms ((b : Bool) × MarkThen (Truth b) Whole (m ∷ ms))
  truth_grows c (Truth b) ms = λ h. (b, (ms, (refl, h)))
  truth_grows c _ ms = tt

  first_name_grows : (c : Config) (m : Mark) (ms : List Mark) → OnNext (first_step o c m) ms (NameThen MeaningThen (m ∷ ms))
  first_name_grows c (Name text at) ms = assigned_grows c text at ms _ (λ h. (record { text = text; at = at }, (ms, (refl, h))))
  first_name_grows c _ ms = tt

  replacement_grows : (a : Assigned) (c : Config) (m : Mark) (ms : List Mark) → OnNext (replacement_step a c m) ms (NameThen Assignments (m ∷ ms))
  replacement_grows a c (Name text at) ms = λ h. (record { text = text; at = at }, (ms, (refl, h)))
  replacement_grows a c _ ms = tt

  grows : (e : Expects) (c : Config) (m : Mark) (ms : List Mark) → OnNext (step o false e c m) ms (Claim e (m ∷ ms))
  grows (expects.Statement f) c m ms = statement_grows f c m ms
  grows (expects.Choice p) c m ms = choice_grows p c m ms
  grows (expects.FirstName l) c m ms = name_grows l c m ms
  grows expects.Truth c m ms = truth_grows c m ms
  grows expects.FirstAssignment c m ms = first_name_grows c m ms
  grows (expects.Sign a) c m ms = sign_grows a c m ms
  grows (expects.Replacement a) c m ms = replacement_grows a c m ms
  grows (expects.Value a sets) c m ms = give (value_step a sets c m) ms _ _ (value_grows a sets c m ms)
  grows (expects.Number a sets) c m ms = give (negative_step a sets c m) ms _ _ (negative_grows a sets c m ms)
  grows (expects.FirstMember a sets) c m ms = give (first_member_step a sets c m) ms _ _ (first_grows a sets c m ms)
  grows (expects.Separator a sets) c m ms = give (separator_step a sets c m) ms _ _ (separator_grows a sets c m ms)

  on_next : (n : Next) (ms : List Mark) (goal : Type 0) (p : Reached) → OnNext n ms goal
      → ((e : Expects) (c : Config) → walk o false e c ms ≡ Some p → Claim e ms) → walk_on n (λ e c. walk o false e c ms) ≡ Some p → goal
  on_next (Ok r) ms goal p h f e = h (f r.0 r.1 e)
  on_next (Err k) ms goal p h f e = absurd cc

  -- what is walked to where a statement may begin is what is claimed
  pub sound : (ms : List Mark) (e : Expects) (c : Config) (g : Further) (d : Config) → walk o false e c ms ≡ Some (expects.Statement g, d) → Claim e ms
  sound [] e c g d h =
      let is_end : e ≡ expects.Statement g = ap (λ (x : Reached). x.0) (some_same (e, c) (expects.Statement g, d) h) in
      subst (λ x. Claim x []) (sym is_end) (whole_rest g [] none_whole)
  sound (m ∷ ms) e c g d h = on_next (step o false e c m) ms (Claim e (m ∷ ms)) (expects.Statement g, d) (grows e c m ms) (λ f b i. sound ms f b g d i) h
