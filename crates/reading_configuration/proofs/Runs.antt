-- What is written is walked, and gives what its statements give.
use Rattle.std.proofs.Common.{◌≡◌, ℕ, ◌+◌, ◌≤◌, suc, Bool, true, false, List, [], ◌∷◌, ◌++◌, length, Option, Some, None, Ok, Err, refl, sym, ap, ◌∙◌, append_assoc, arith}
use Rattle.std.specs.Prelude.{◌<◌, ◌&&◌, ◌==◌, if◌then◌else◌}
use Rattle.reading_trees.specs.Lits.{Lit, Lits, list_of, lits_of, no_lits, more_lits, number, str, truth, model, set}
use Rattle.reading_trees.specs.Literals.{literal, lit_of}
use Rattle.reading_trees.specs.declared.config.Literal.TheVariants as literals
use Rattle.reading_trees.specs.declared.config.Config.{Config}
use Rattle.reading_configuration.specs.declared.mark.Mark.{Mark}
use Rattle.reading_configuration.specs.declared.mark.Mark.TheVariants.{Close, Comma, Truth}
use Rattle.reading_configuration.specs.declared.keyword.Keyword.{Keyword}
use Rattle.reading_configuration.specs.declared.keyword.Keyword.TheVariants as keyword
use Rattle.reading_configuration.specs.declared.keyword.Listed.{Listed}
use Rattle.reading_configuration.specs.declared.expects.Expects.{Expects}
use Rattle.reading_configuration.specs.declared.expects.Expects.TheVariants as expects
use Rattle.reading_configuration.specs.declared.expects.Assigned.{Assigned}
use Rattle.reading_configuration.specs.declared.expects.Further.{Further}
use Rattle.reading_configuration.specs.declared.expects.Further.TheVariants as further
use Rattle.reading_configuration.specs.declared.fault.ConfigKind.TheVariants as kinds
use Rattle.reading_configuration.specs.Keywords.{keyword_of}
use Rattle.reading_configuration.specs.Statements.{Named, name_mark, Value, plain, negative, string, truth_value, model_value, empty, braces, Members, last, more, value_marks, members_marks, levels, levels_of, lit, lits, Meaning, is, means, meaning_marks, IsShallow, Assignment, assignments_marks, names_marks, Statement, constants, choice, unchecked, deadlock, statement_marks, statements_marks, AreFurther, AreAssigned, IsStatement, AreStatements}
use Rattle.reading_configuration.specs.Given.{with_given, with_unchecked, line_of, given_at, after_assignments, after_names, after, after_all, is_chosen, is_assigned, AreNew, IsNew, NothingTwice}
use Rattle.reading_configuration.specs.Steps.{Next, word_step, placed, assigned_step}
use Rattle.reading_configuration.proofs.Walks.{Reached, walk, walk_on}

abbrev pub walk_from : Bool → Bool → Reached → List Mark → Option Reached
walk_from once ended p ms = walk once ended p.0 p.1 ms

pub list_back : (ls : List Lit) → list_of (lits_of ls) ≡ ls
list_back [] = refl
list_back (l ∷ ls) = ap (λ xs. l ∷ xs) (list_back ls)

pub lits_back : (ls : Lits) → lits_of (list_of ls) ≡ ls
lits_back no_lits = refl
lits_back (more_lits l ls) = ap (more_lits l) (lits_back ls)

pub lit_back : (l : Lit) → lit_of (literal l) ≡ l
lit_back (number z) = refl
lit_back (str s) = refl
lit_back (truth b) = refl
lit_back (model s) = refl
lit_back (set ls) = ap set (lits_back ls)

open_there : (b : Bool) (n : Next) (k : Expects → Config → Option Reached) → b ≡ false → walk_on (if b then Err kinds.Syntax else n) k ≡ walk_on n k
open_there true n k e = absurd cc
open_there false n k e = refl

not_full : (d : ℕ) → d < 32 → (d == 32) ≡ false
not_full d h = grind arith

asked : (o b : Bool) (t : List ℕ) (n : Next) (k : Expects → Config → Option Reached) → (o ≡ true → b ≡ false)
    → walk_on (if o && b then Err (kinds.Twice t) else n) k ≡ walk_on n k
asked false b t n k h = refl
asked true false t n k h = refl
asked true true t n k h = absurd (let e : true ≡ false = h refl in cc)

-- what may stand behind a statement
abbrev pub behind : Statement → Further
behind (constants a bs) = further.Assignment
behind (choice w p n) = further.Nothing
behind (unchecked w l n ns) = further.Name l
behind (deadlock w b) = further.Nothing

module _ (o q : Bool) where
  -- the first value behind `{` is read as any other
  pub first_value : (v : Value) (a : Assigned) (sets : List (List Lit)) (c : Config) (rest : List Mark)
      → walk o q (expects.FirstMember a sets) c (value_marks v rest) ≡ walk o q (expects.Value a sets) c (value_marks v rest)
  first_value (plain n) a sets c rest = refl
  first_value (negative n) a sets c rest = refl
  first_value (string s) a sets c rest = refl
  first_value (truth_value b) a sets c rest = refl
  first_value (model_value n) a sets c rest = refl
  first_value empty a sets c rest = refl
  first_value (braces vs) a sets c rest = refl

  first_members : (vs : Members) (a : Assigned) (sets : List (List Lit)) (c : Config) (rest : List Mark)
      → walk o q (expects.FirstMember a sets) c (members_marks vs rest) ≡ walk o q (expects.Value a sets) c (members_marks vs rest)
  first_members (last v) a sets c rest = first_value v a sets c (Close ∷ rest)
  first_members (more v vs) a sets c rest = first_value v a sets c (Comma ∷ members_marks vs rest)

  mutual
    pub value_run : (v : Value) (a : Assigned) (sets : List (List Lit)) (c : Config) (rest : List Mark) → levels v + length sets ≤ 32
        → walk o q (expects.Value a sets) c (value_marks v rest) ≡ walk_from o q (placed (literal (lit v)) a sets c) rest
    value_run (plain n) a sets c rest h = refl
    value_run (negative n) a sets c rest h = refl
    value_run (string s) a sets c rest h = refl
    value_run (truth_value b) a sets c rest h = refl
    value_run (model_value n) a sets c rest h = refl
    value_run empty a sets c rest h =
        open_there (length sets == 32) (Ok (expects.FirstMember a ([] ∷ sets), c)) (λ f d. walk o q f d (Close ∷ rest)) (not_full (length sets) (omega arith))
    value_run (braces vs) a sets c rest h =
        open_there (length sets == 32) (Ok (expects.FirstMember a ([] ∷ sets), c)) (λ f d. walk o q f d (members_marks vs rest)) (not_full (length sets) (omega arith))
        ∙ first_members vs a ([] ∷ sets) c rest ∙ members_run vs a [] sets c rest (omega arith)
        ∙ ap (λ ls. walk_from o q (placed (literals.Set ls) a sets c) rest) (sym (list_back (lits vs)))

    pub members_run : (vs : Members) (a : Assigned) (ls : List Lit) (sets : List (List Lit)) (c : Config) (rest : List Mark) → levels_of vs + suc (length sets) ≤ 32
        → walk o q (expects.Value a (ls ∷ sets)) c (members_marks vs rest) ≡ walk_from o q (placed (literals.Set (ls ++ lits vs)) a sets c) rest
    members_run (last v) a ls sets c rest h =
        value_run v a (ls ∷ sets) c (Close ∷ rest) h
        ∙ ap (λ l. walk_from o q (placed (literals.Set (ls ++ l ∷ [])) a sets c) rest) (lit_back (lit v))
    members_run (more v vs) a ls sets c rest h =
        value_run v a (ls ∷ sets) c (Comma ∷ members_marks vs rest) (omega arith)
        ∙ members_run vs a (ls ++ lit_of (literal (lit v)) ∷ []) sets c rest (omega arith)
        ∙ ap (λ l. walk_from o q (placed (literals.Set ((ls ++ l ∷ []) ++ lits vs)) a sets c) rest) (lit_back (lit v))
        ∙ ap (λ xs. walk_from o q (placed (literals.Set xs) a sets c) rest) (append_assoc ls (lit v ∷ []) (lits vs))

  pub meaning_run : (m : Meaning) (n : Named) (c : Config) (rest : List Mark) → IsShallow m
      → walk o q (expects.Sign (record { name = n.text; at = n.at })) c (meaning_marks m rest)
      ≡ walk o q (expects.Statement further.Assignment) (with_given c (given_at (record { name = n; meaning = m }))) rest
  meaning_run (is v) n c rest h = value_run v (record { name = n.text; at = n.at }) [] c rest (omega arith)
  meaning_run (means r) n c rest h = refl

  -- a word that begins this, or nothing
  pub word_walk : (f : Further) (c : Config) (n : Named) (k : Option Keyword) (rest : List Mark) → keyword_of n.text ≡ k
      → walk o q (expects.Statement f) c (name_mark n ∷ rest) ≡ walk_on (word_step o f c n.text n.at k) (λ e d. walk o q e d rest)
  word_walk f c n k rest e = ap (λ w. walk_on (word_step o f c n.text n.at w) (λ e d. walk o q e d rest)) e

  pub names_run : (ns : List Named) (l : Listed) (c : Config) (rest : List Mark) → AreFurther ns
      → walk o q (expects.Statement (further.Name l)) c (names_marks ns rest) ≡ walk o q (expects.Statement (further.Name l)) (after_names c l ns) rest
  names_run [] l c rest h = refl
  names_run (n ∷ ns) l c rest h =
      word_walk (further.Name l) c n None (names_marks ns rest) h.0 ∙ names_run ns l (with_unchecked c (line_of l n.text)) rest h.1

  -- nothing is given again, or that is not asked
  new_there : (b : Bool) (t : List ℕ) (n : Next) (k : Expects → Config → Option Reached) → (o ≡ true → b ≡ false)
      → walk_on (if o && b then Err (kinds.Twice t) else n) k ≡ walk_on n k
  new_there b t n k h = asked o b t n k h

  pub assigned_run : (a : Assignment) (c : Config) (rest : List Mark) → IsShallow a.meaning → (o ≡ true → is_assigned a.name.text c.givens ≡ false)
      → walk_on (assigned_step o c a.name.text a.name.at) (λ e d. walk o q e d (meaning_marks a.meaning rest))
      ≡ walk o q (expects.Statement further.Assignment) (with_given c (given_at a)) rest
  assigned_run a c rest s h =
      new_there (is_assigned a.name.text c.givens) a.name.text (Ok (expects.Sign (record { name = a.name.text; at = a.name.at }), c)) (λ e d. walk o q e d (meaning_marks a.meaning rest)) h
      ∙ meaning_run a.meaning a.name c rest s

  pub assignments_run : (bs : List Assignment) (c : Config) (rest : List Mark) → AreAssigned bs → (o ≡ true → AreNew c bs)
      → walk o q (expects.Statement further.Assignment) c (assignments_marks bs rest) ≡ walk o q (expects.Statement further.Assignment) (after_assignments c bs) rest
  assignments_run [] c rest h g = refl
  assignments_run (a ∷ bs) c rest h g =
      word_walk further.Assignment c a.name None (meaning_marks a.meaning (assignments_marks bs rest)) h.0.0
      ∙ assigned_run a c (assignments_marks bs rest) h.0.1 (λ e. (g e).0)
      ∙ assignments_run bs (with_given c (given_at a)) rest h.1 (λ e. (g e).1)

  pub statement_run : (s : Statement) (f : Further) (c : Config) (rest : List Mark) → IsStatement s → (o ≡ true → IsNew c s)
      → walk o q (expects.Statement f) c (statement_marks s rest) ≡ walk o q (expects.Statement (behind s)) (after c s) rest
  statement_run (constants a bs) f c rest h g =
      assigned_run a c (assignments_marks bs rest) h.0 (λ e. (g e).0)
      ∙ assignments_run bs (with_given c (given_at a)) rest h.1 (λ e. (g e).1)
  statement_run (choice w p n) f c rest h g =
      word_walk f c w (Some (keyword.Chooses p)) (name_mark n ∷ rest) h
      ∙ new_there (is_chosen c p) w.text (Ok (expects.Choice p, c)) (λ e d. walk o q e d (name_mark n ∷ rest)) g
  statement_run (unchecked w l n ns) f c rest h g =
      word_walk f c w (Some (keyword.Lists l)) (name_mark n ∷ names_marks ns rest) h.0
      ∙ names_run ns l (with_unchecked c (line_of l n.text)) rest h.1
  statement_run (deadlock w b) f c rest h g = word_walk f c w (Some keyword.Deadlock) (Truth b ∷ rest) h

  pub statements_run : (ss : List Statement) (f : Further) (c : Config) (rest : List Mark) → AreStatements ss → (o ≡ true → NothingTwice c ss)
      → (g : Further) × (walk o q (expects.Statement f) c (statements_marks ss rest) ≡ walk o q (expects.Statement g) (after_all c ss) rest)
  statements_run [] f c rest h n = (f, refl)
  statements_run (s ∷ ss) f c rest h n =
      let r = statements_run ss (behind s) (after c s) rest h.1 (λ e. (n e).1) in
      (r.0, statement_run s f c (statements_marks ss rest) h.0 (λ e. (n e).0) ∙ r.1)
