-- Whatever is expected, some marks lead to where a statement may begin; and what is walked once gives nothing
-- twice.
use Rattle.std.proofs.Common.{◌≡◌, ℕ, ◌≤◌, ◌<◌, Bool, true, false, List, [], ◌∷◌, ◌++◌, length, Option, Some, None, Ok, Err, refl, sym, ap, ◌∙◌, arith, length-append}
use Rattle.std.specs.Prelude.{pos, ◌&&◌, ◌||◌, if◌then◌else◌}
use Rattle.std.specs.Str.{bytes_eq}
use Rattle.std.specs.Cmp.Lexicographic.{bytes_decides}
use Rattle.reading_trees.specs.Lits.{Lit}
use Rattle.reading_trees.specs.Literals.{lit_of}
use Rattle.reading_tokens.specs.Tokens.{start_of}
use Rattle.reading_trees.specs.declared.config.Config.{Config}
use Rattle.reading_trees.specs.declared.config.GivenAt.{GivenAt}
use Rattle.reading_trees.specs.declared.config.Literal.{Literal}
use Rattle.reading_trees.specs.declared.config.Literal.TheVariants as literals
use Rattle.reading_configuration.specs.declared.mark.Mark.{Mark}
use Rattle.reading_configuration.specs.declared.mark.Mark.TheVariants.{Name, Number, Truth, Replaces, Close, Comma}
use Rattle.reading_configuration.specs.declared.keyword.Keyword.TheVariants as keyword
use Rattle.reading_configuration.specs.declared.expects.Expects.{Expects}
use Rattle.reading_configuration.specs.declared.expects.Expects.TheVariants as expects
use Rattle.reading_configuration.specs.declared.expects.Assigned.{Assigned}
use Rattle.reading_configuration.specs.declared.expects.Further.{Further}
use Rattle.reading_configuration.specs.declared.expects.Further.TheVariants as further
use Rattle.reading_configuration.specs.declared.fault.ConfigKind.TheVariants as kinds
use Rattle.reading_configuration.specs.Statements.{Named, name_mark, meaning_marks, Assignment, assignments_marks, Statement, constants, choice, unchecked, deadlock, statement_marks, statements_marks, AreAssigned, IsStatement, AreStatements}
use Rattle.reading_configuration.specs.Given.{given_at, with_given, after, is_chosen, is_assigned, AreNew, IsNew, NothingTwice}
use Rattle.reading_configuration.specs.Steps.{Next, step, placed}
use Rattle.reading_configuration.proofs.Walks.{Reached, walk, walk_on}
use Rattle.reading_configuration.proofs.Runs.{behind, word_walk, assigned_run, statement_run}

-- the marks lead to where a statement may begin
pub record Leads (o : Bool) (e : Expects) (c : Config) : Type 0 where
  pub marks : List Mark
  pub further : Further
  pub given : Config
  pub there : walk o false e c marks ≡ Some (expects.Statement further, given)

-- a name that is longer than those for which something was given
abbrev long : List GivenAt → List ℕ
long [] = 0 ∷ []
long (g ∷ gs) = 0 ∷ (g.name ++ long gs)

neither : (a b : Bool) → a ≡ false → b ≡ false → (a || b) ≡ false
neither true b e f = absurd cc
neither false b e f = f

fresh : (o b : Bool) (t : List ℕ) (n : Next) → b ≡ false → ◌≡◌ {A = Next} (if o && b then Err (kinds.Twice t) else n) n
fresh false b t n h = refl
fresh true false t n h = refl
fresh true true t n h = absurd cc

unequal : (b : Bool) (x y : List ℕ) → bytes_eq x y ≡ b → length x < length y → b ≡ false
unequal false x y e h = refl
unequal true x y e h = let same : x ≡ y = (bytes_decides x y).0 e in let eq : length x ≡ length y = ap length same in absurd (omega arith)

unassigned : (gs : List GivenAt) (n : List ℕ) → length (long gs) ≤ length n → is_assigned n gs ≡ false
unassigned [] n h = refl
unassigned (g ∷ gs) n h =
    let shorter : length g.name < length n = omega (arith, length-append g.name (long gs)) in
    let others : length (long gs) ≤ length n = omega (arith, length-append g.name (long gs)) in
    neither (bytes_eq g.name n) (is_assigned n gs) (unequal (bytes_eq g.name n) g.name n refl shorter) (unassigned gs n others)

some_name : Named
some_name = record { text = 97 ∷ []; at = start_of 0 }

abbrev some_mark : Mark
some_mark = Name (97 ∷ []) (start_of 0)

-- a brace for each open set
abbrev braces_of : List (List Lit) → List Mark
braces_of [] = []
braces_of (set ∷ sets) = Close ∷ braces_of sets

module _ (o : Bool) where
  closing : (sets : List (List Lit)) (l : Literal) (a : Assigned) (c : Config)
      → (d : Config) × (walk o false (placed l a sets c).0 (placed l a sets c).1 (braces_of sets) ≡ Some (expects.Statement further.Assignment, d))
  closing [] l a c = (_, refl)
  closing (set ∷ sets) l a c = closing sets (literals.Set (set ++ lit_of l ∷ [])) a c

  closed : (m : Mark) (l : Literal) (e : Expects) (a : Assigned) (sets : List (List Lit)) (c : Config)
      → step o false e c m ≡ Ok (placed l a sets c) → Leads o e c
  closed m l e a sets c h =
      let r = closing sets l a c in
      record {
        marks = m ∷ braces_of sets;
        further = further.Assignment;
        given = r.0;
        there = ap (λ n. walk_on n (λ f d. walk o false f d (braces_of sets))) h ∙ r.1;
      }

  one_to : (m : Mark) (e : Expects) (c : Config) (f : Further) (d : Config) → step o false e c m ≡ Ok (expects.Statement f, d) → Leads o e c
  one_to m e c f d h =
      record { marks = m ∷ []; further = f; given = d; there = ap (λ n. walk_on n (λ e d. walk o false e d [])) h }

  before : (m : Mark) (e f : Expects) (c d : Config) → step o false e c m ≡ Ok (f, d) → Leads o f d → Leads o e c
  before m e f c d h l =
      record { marks = m ∷ l.marks; further = l.further; given = l.given; there = ap (λ n. walk_on n (λ e d. walk o false e d l.marks)) h ∙ l.there }

  leads_sign : (a : Assigned) (c : Config) → Leads o (expects.Sign a) c
  leads_sign a c = before Replaces (expects.Sign a) (expects.Replacement a) c c refl (one_to some_mark (expects.Replacement a) c _ _ refl)

  pub leads : (e : Expects) (c : Config) → Leads o e c
  leads (expects.Statement f) c = record { marks = []; further = f; given = c; there = refl }
  leads (expects.Choice p) c = one_to some_mark (expects.Choice p) c _ _ refl
  leads (expects.FirstName l) c = one_to some_mark (expects.FirstName l) c _ _ refl
  leads expects.Truth c = one_to (Truth true) expects.Truth c _ _ refl
  leads expects.FirstAssignment c =
      before (Name (long c.givens) (start_of 0)) expects.FirstAssignment (expects.Sign (record { name = long c.givens; at = start_of 0 })) c c
      (fresh o (is_assigned (long c.givens) c.givens) _ _ (unassigned c.givens (long c.givens) (omega arith)))
      (leads_sign (record { name = long c.givens; at = start_of 0 }) c)
  leads (expects.Sign a) c = leads_sign a c
  leads (expects.Replacement a) c = one_to some_mark (expects.Replacement a) c _ _ refl
  leads (expects.Value a sets) c = closed (Truth true) (literals.Truth true) (expects.Value a sets) a sets c refl
  leads (expects.Number a sets) c = closed (Number (pos 0)) _ (expects.Number a sets) a sets c refl
  leads (expects.FirstMember a sets) c = closed (Truth true) (literals.Truth true) (expects.FirstMember a sets) a sets c refl
  leads (expects.Separator a sets) c =
      before Comma (expects.Separator a sets) (expects.Value a sets) c c refl
      (closed (Truth true) (literals.Truth true) (expects.Value a sets) a sets c refl)

-- what is walked once gives nothing twice
abbrev Once : Next → (Expects → Config → Option Reached) → Type 0
Once n k = (p : Reached) × (walk_on n k ≡ Some p)

was_new : (b : Bool) (t : List ℕ) (n : Next) (k : Expects → Config → Option Reached) (p : Reached)
    → walk_on (if true && b then Err (kinds.Twice t) else n) k ≡ Some p → b ≡ false
was_new false t n k p h = refl
was_new true t n k p h = absurd cc

assignments_new : (q : Bool) (bs : List Assignment) (c : Config) (rest : List Mark) (p : Reached) → AreAssigned bs
    → walk true q (expects.Statement further.Assignment) c (assignments_marks bs rest) ≡ Some p → AreNew c bs
assignments_new q [] c rest p h g = tt
assignments_new q (a ∷ bs) c rest p h g =
    let behind_a = meaning_marks a.meaning (assignments_marks bs rest) in
    let w = sym (word_walk true q further.Assignment c a.name None behind_a h.0.0) ∙ g in
    let new : is_assigned a.name.text c.givens ≡ false = was_new (is_assigned a.name.text c.givens) a.name.text _ (λ e d. walk true q e d behind_a) p w in (
      new,
      assignments_new q bs (with_given c (given_at a)) rest p h.1
          (sym (assigned_run true q a c (assignments_marks bs rest) h.0.1 (λ e. new)) ∙ w),
    )

statement_new : (q : Bool) (s : Statement) (f : Further) (c : Config) (rest : List Mark) (p : Reached) → IsStatement s
    → walk true q (expects.Statement f) c (statement_marks s rest) ≡ Some p → IsNew c s
statement_new q (constants a bs) f c rest p h g =
    let behind_a = meaning_marks a.meaning (assignments_marks bs rest) in
    let new : is_assigned a.name.text c.givens ≡ false = was_new (is_assigned a.name.text c.givens) a.name.text _ (λ e d. walk true q e d behind_a) p g in (
      new,
      assignments_new q bs (with_given c (given_at a)) rest p h.1
          (sym (assigned_run true q a c (assignments_marks bs rest) h.0 (λ e. new)) ∙ g),
    )
statement_new q (choice w t n) f c rest p h g =
    was_new (is_chosen c t) w.text _ (λ e d. walk true q e d (name_mark n ∷ rest)) p
    (sym (word_walk true q f c w (Some (keyword.Chooses t)) (name_mark n ∷ rest) h) ∙ g)
statement_new q (unchecked w l n ns) f c rest p h g = tt
statement_new q (deadlock w b) f c rest p h g = tt

pub statements_new : (q : Bool) (ss : List Statement) (f : Further) (c : Config) (rest : List Mark) (p : Reached) → AreStatements ss
    → walk true q (expects.Statement f) c (statements_marks ss rest) ≡ Some p → NothingTwice c ss
statements_new q [] f c rest p h g = tt
statements_new q (s ∷ ss) f c rest p h g =
    let new = statement_new q s f c (statements_marks ss rest) p h.0 g in
    (new, statements_new q ss (behind s) (after c s) rest p h.1 (sym (statement_run true q s f c (statements_marks ss rest) h.0 (λ e. new)) ∙ g))
