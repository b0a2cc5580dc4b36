-- What a configuration that is accepted gives is within the limits of values.
use Rattle.std.proofs.Common.{◌≡◌, ℕ, zero, suc, ◌+◌, ◌*◌, ◌^◌, ◌<◌, ◌≤◌, false, List, [], ◌∷◌, ◌++◌, length, Option, Some, None, Ok, Err, ap, sym, subst, refl, arith, length-append}
use Rattle.std.proofs.lemmas.Int.{fits_signed_from_abs}
use Rattle.std.specs.Prelude.{ℤ, pos, negsuc, neg_ℤ, IsUtf8, FitsSigned, slice_get}
use Rattle.std.specs.Int.{w64}
use Rattle.base_core.specs.declared.place.Place.{Place}
use Rattle.reading_trees.specs.declared.config.Config.{Config}
use Rattle.reading_trees.specs.declared.config.GivenAt.{GivenAt}
use Rattle.reading_tokens.specs.declared.token.Kind.{Kind}
use Rattle.reading_tokens.specs.declared.token.Kind.TheVariants as kinds
use Rattle.reading_tokens.specs.declared.token.Word.{Word}
use Rattle.reading_tokens.specs.declared.token.Word.TheVariants as word
use Rattle.reading_tokens.specs.declared.token.Symbol.{Symbol}
use Rattle.reading_tokens.specs.declared.token.Symbol.TheVariants as symbol
use Rattle.reading_tokens.specs.declared.token.Token.{Token}
use Rattle.reading_trees.specs.Lits.{Lit, Lits, number, str, truth, model, set, no_lits, more_lits, depth, depth_of, list_of, lits_of}
use Rattle.reading_trees.specs.Literals.{lit_of, literal}
use Rattle.reading_tokens.specs.Tokens as lexer
use Rattle.reading_configuration.specs.declared.mark.Mark.{Mark}
use Rattle.reading_configuration.specs.declared.mark.Mark.TheVariants.{Name, Number, Str, Close, Comma}
use Rattle.reading_configuration.specs.declared.keyword.Part.{Part}
use Rattle.reading_configuration.specs.declared.keyword.Part.TheVariants.{Init, Next, Specification}
use Rattle.reading_configuration.specs.declared.keyword.Listed.{Listed}
use Rattle.reading_configuration.specs.Given.{nothing_given, with_choice, after_assignments, after_names, after, after_all, given_at}
use Rattle.reading_configuration.specs.Marks.{word_mark, symbol_mark, kind_mark, marks_of}
use Rattle.reading_configuration.specs.Reads.{Gives, OfLexed}
use Rattle.reading_configuration.specs.Statements.{Named, Value, plain, negative, string, truth_value, model_value, empty, braces, Members, last, more, value_marks, members_marks, levels, levels_of, lit, lits, Meaning, is, means, meaning_marks, given_of, IsShallow, Assignment, assignments_marks, names_marks, Statement, constants, choice, unchecked, deadlock, statement_marks, statements_marks, AreAssigned, IsStatement, AreStatements}
use Rattle.reading_configuration.specs.Limits.{IsWithin, AreWithin, IsWithinLimits, GivensAreWithinLimits}
use Rattle.reading_configuration.proofs.TokensHeld.{Holds, AllHold, tokens_hold}

-- ---- marks

abbrev MarkHolds : Mark → Type 0
MarkHolds (Name n at) = IsUtf8 n
MarkHolds (Number z) = (n : ℕ) × (z ≡ pos n) × (n < 2 ^ 63)
MarkHolds (Str s) = IsUtf8 s
MarkHolds _ = Unit {0}

abbrev MarksHold : List Mark → Type 0
MarksHold [] = Unit {0}
MarksHold (m ∷ ms) = MarkHolds m × MarksHold ms

word_holds : (w : Word) → MarkHolds (word_mark w)
word_holds word.True = tt
word_holds word.False = tt
word_holds word.Constant = tt
word_holds word.Constants = tt
word_holds _ = tt

symbol_holds : (s : Symbol) → MarkHolds (symbol_mark s)
symbol_holds symbol.Equal = tt
symbol_holds symbol.LeftArrow = tt
symbol_holds symbol.Minus = tt
symbol_holds symbol.OpenBrace = tt
symbol_holds symbol.CloseBrace = tt
symbol_holds symbol.Comma = tt
symbol_holds _ = tt

kind_holds : (k : Kind) (at : Place) → Holds k → MarkHolds (kind_mark k at)
kind_holds (kinds.Name n) at h = h.1
kind_holds (kinds.Number z) at h = h
kind_holds (kinds.Str s) at h = h
kind_holds kinds.Dashes at h = tt
kind_holds kinds.Equals at h = tt
kind_holds kinds.Fair at h = tt
kind_holds (kinds.Word w) at h = word_holds w
kind_holds (kinds.Symbol s) at h = symbol_holds s
kind_holds (kinds.Foreign f) at h = tt
kind_holds kinds.End at h = tt

marks_hold : (before after : List Token) → AllHold (before ++ after) → MarksHold (marks_of before)
marks_hold [] after h = tt
marks_hold (t ∷ ts) after h = (kind_holds t.kind t.place h.0, marks_hold ts after h.1)

length-marks_of : (ts : List Token) → length (marks_of ts) ≡ length ts
length-marks_of [] = refl
length-marks_of (t ∷ ts) = ap suc (length-marks_of ts)

-- no more marks than a text may have, each with what its token holds
record Fit (ms : List Mark) : Type 0 where
  hold : MarksHold ms
  few : length ms ≤ 200000

tail : (m : Mark) (ms : List Mark) → Fit (m ∷ ms) → Fit ms
tail m ms f = record { hold = f.hold.1; few = omega (arith, f.few) }

-- ---- values

mutual
  value_rest : (v : Value) (rest : List Mark) → Fit (value_marks v rest) → Fit rest
  value_rest (plain n) rest f = tail _ rest f
  value_rest (negative n) rest f = tail _ rest (tail _ _ f)
  value_rest (string s) rest f = tail _ rest f
  value_rest (truth_value b) rest f = tail _ rest f
  value_rest (model_value n) rest f = tail _ rest f
  value_rest empty rest f = tail _ rest (tail _ _ f)
  value_rest (braces vs) rest f = members_rest vs rest (tail _ _ f)

  members_rest : (vs : Members) (rest : List Mark) → Fit (members_marks vs rest) → Fit rest
  members_rest (last v) rest f = tail _ rest (value_rest v (Close ∷ rest) f)
  members_rest (more v vs) rest f = members_rest vs rest (tail _ _ (value_rest v (Comma ∷ members_marks vs rest) f))

-- each value takes a mark, and each member a further one
mutual
  value_long : (v : Value) (rest : List Mark) → suc (length rest) ≤ length (value_marks v rest)
  value_long (plain n) rest = omega arith
  value_long (negative n) rest = omega arith
  value_long (string s) rest = omega arith
  value_long (truth_value b) rest = omega arith
  value_long (model_value n) rest = omega arith
  value_long empty rest = omega arith
  value_long (braces vs) rest = omega (arith, members_long vs rest)

  members_long : (vs : Members) (rest : List Mark) → length rest + 2 * length (lits vs) ≤ length (members_marks vs rest)
  members_long (last v) rest = omega (arith, value_long v (Close ∷ rest))
  members_long (more v vs) rest = omega (arith, value_long v (Comma ∷ members_marks vs rest), members_long vs rest)

lits_of-list_of : (ls : Lits) → lits_of (list_of ls) ≡ ls
lits_of-list_of no_lits = refl
lits_of-list_of (more_lits l ls) = ap (more_lits l) (lits_of-list_of ls)

list_of-lits_of : (ls : List Lit) → list_of (lits_of ls) ≡ ls
list_of-lits_of [] = refl
list_of-lits_of (l ∷ ls) = ap (λ (ms : List Lit). l ∷ ms) (list_of-lits_of ls)

lit_of-literal : (l : Lit) → lit_of (literal l) ≡ l
lit_of-literal (number z) = refl
lit_of-literal (str s) = refl
lit_of-literal (truth b) = refl
lit_of-literal (model n) = refl
lit_of-literal (set ls) = ap set (lits_of-list_of ls)

abbrev number_of : ℤ → ℕ
number_of (pos n) = n
number_of (negsuc n) = 0

plain_fits : (n : ℕ) → n < 2 ^ 63 → FitsSigned w64 (pos n)
plain_fits n h = fits_signed_from_abs w64 (pos n) h

negative_fits : (n : ℕ) → n < 2 ^ 63 → FitsSigned w64 (neg_ℤ (pos n))
negative_fits zero h = fits_signed_from_abs w64 (pos 0) h
negative_fits (suc n) h = fits_signed_from_abs w64 (negsuc n) h

number_below : (n : ℕ) → MarkHolds (Number (pos n)) → n < 2 ^ 63
number_below n h = let e : n ≡ h.0 = ap number_of h.1 in subst (λ m. m < 2 ^ 63) (sym e) h.2

mutual
  small : (v : Value) (rest : List Mark) → Fit (value_marks v rest) → IsWithin (lit v)
  small (plain n) rest f = plain_fits n (number_below n f.hold.0)
  small (negative n) rest f = negative_fits n (number_below n f.hold.1.0)
  small (string s) rest f = f.hold.0
  small (truth_value b) rest f = tt
  small (model_value n) rest f = f.hold.0
  small empty rest f = (omega arith, tt)
  small (braces vs) rest f = (omega (arith, f.few, members_long vs rest, ap length (list_of-lits_of (lits vs))), smalls vs rest (tail _ _ f))

  smalls : (vs : Members) (rest : List Mark) → Fit (members_marks vs rest) → AreWithin (lits_of (lits vs))
  smalls (last v) rest f = (small v (Close ∷ rest) f, tt)
  smalls (more v vs) rest f = (small v (Comma ∷ members_marks vs rest) f, smalls vs rest (tail _ _ (value_rest v (Comma ∷ members_marks vs rest) f)))

mutual
  deep : (v : Value) → depth (lit v) ≤ levels v
  deep (plain n) = omega arith
  deep (negative n) = omega arith
  deep (string s) = omega arith
  deep (truth_value b) = omega arith
  deep (model_value n) = omega arith
  deep empty = omega arith
  deep (braces vs) = omega (arith, deeps vs)

  deeps : (vs : Members) → depth_of (lits_of (lits vs)) ≤ levels_of vs
  deeps (last v) = omega (arith, deep v)
  deeps (more v vs) = omega (arith, deep v, deeps vs)

-- ---- statements

meaning_within : (m : Meaning) (rest : List Mark) → Fit (meaning_marks m rest) → IsShallow m → IsWithinLimits (given_of m)
meaning_within (is v) rest f s =
    let d : depth (lit v) ≤ 32 = omega (arith, deep v, s) in
    subst (λ l. IsWithin l × (depth l ≤ 32)) (sym (lit_of-literal (lit v))) (small v rest (tail _ _ f), d)
meaning_within (means n) rest f s = tt

meaning_rest : (m : Meaning) (rest : List Mark) → Fit (meaning_marks m rest) → Fit rest
meaning_rest (is v) rest f = value_rest v rest (tail _ _ f)
meaning_rest (means n) rest f = tail _ rest (tail _ _ f)

assignments_rest : (bs : List Assignment) (rest : List Mark) → Fit (assignments_marks bs rest) → Fit rest
assignments_rest [] rest f = f
assignments_rest (b ∷ bs) rest f = assignments_rest bs rest (meaning_rest b.meaning (assignments_marks bs rest) (tail _ _ f))

names_rest : (ns : List Named) (rest : List Mark) → Fit (names_marks ns rest) → Fit rest
names_rest [] rest f = f
names_rest (n ∷ ns) rest f = names_rest ns rest (tail _ _ f)

statement_rest : (s : Statement) (rest : List Mark) → Fit (statement_marks s rest) → Fit rest
statement_rest (constants a bs) rest f = assignments_rest bs rest (meaning_rest a.meaning (assignments_marks bs rest) (tail _ _ (tail _ _ f)))
statement_rest (choice w p n) rest f = tail _ rest (tail _ _ f)
statement_rest (unchecked w l n ns) rest f = names_rest ns rest (tail _ _ (tail _ _ f))
statement_rest (deadlock w b) rest f = tail _ rest (tail _ _ f)

abbrev AllWithin : List GivenAt → Type 0
AllWithin [] = Unit {0}
AllWithin (g ∷ gs) = IsWithinLimits g.given × AllWithin gs

within_push : (gs : List GivenAt) (g : GivenAt) → AllWithin gs → IsWithinLimits g.given → AllWithin (gs ++ g ∷ [])
within_push [] g h k = (k, tt)
within_push (f ∷ gs) g h k = (h.0, within_push gs g h.1 k)

assignment_within : (c : Config) (a : Assignment) (rest : List Mark) → Fit (meaning_marks a.meaning rest) → IsShallow a.meaning → AllWithin c.givens → AllWithin (c.givens ++ given_at a ∷ [])
assignment_within c a rest f s h = within_push c.givens (given_at a) h (meaning_within a.meaning rest f s)

assignments_within : (c : Config) (bs : List Assignment) (rest : List Mark) → Fit (assignments_marks bs rest) → AreAssigned bs → AllWithin c.givens → AllWithin (after_assignments c bs).givens
assignments_within c [] rest f s h = h
assignments_within c (b ∷ bs) rest f s h =
    let m = tail _ _ f in
    assignments_within _ bs rest (meaning_rest b.meaning (assignments_marks bs rest) m) s.1 (assignment_within c b (assignments_marks bs rest) m s.0.1 h)

choice_within : (c : Config) (p : Part) (n : List ℕ) → AllWithin c.givens → AllWithin (with_choice c p n).givens
choice_within c Init n h = h
choice_within c Next n h = h
choice_within c Specification n h = h

names_within : (c : Config) (l : Listed) (ns : List Named) → AllWithin c.givens → AllWithin (after_names c l ns).givens
names_within c l [] h = h
names_within c l (n ∷ ns) h = names_within _ l ns h

statement_within : (c : Config) (s : Statement) (rest : List Mark) → Fit (statement_marks s rest) → IsStatement s → AllWithin c.givens → AllWithin (after c s).givens
statement_within c (constants a bs) rest f s h =
    let m = tail _ _ (tail _ _ f) in
    assignments_within _ bs rest (meaning_rest a.meaning (assignments_marks bs rest) m) s.1 (assignment_within c a (assignments_marks bs rest) m s.0 h)
statement_within c (choice w p n) rest f s h = choice_within c p n.text h
statement_within c (unchecked w l n ns) rest f s h = names_within c l (n ∷ ns) h
statement_within c (deadlock w b) rest f s h = h

statements_within : (c : Config) (ss : List Statement) → Fit (statements_marks ss []) → AreStatements ss → AllWithin c.givens → AllWithin (after_all c ss).givens
statements_within c [] f s h = h
statements_within c (t ∷ ss) f s h =
    statements_within (after c t) ss (statement_rest t (statements_marks ss []) f) s.1 (statement_within c t (statements_marks ss []) f s.0 h)

-- ---- configurations

within_at : (gs : List GivenAt) → AllWithin gs → (k : ℕ) (g : GivenAt) → slice_get gs k ≡ Some g → IsWithinLimits g.given
within_at [] h k g e = cc
within_at (f ∷ gs) h zero g e = let q : Some f ≡ Some g = e in subst (λ (o : Option GivenAt). SomeWithin o) q h.0
  where
    SomeWithin : Option GivenAt → Type 0
    SomeWithin None = Unit {0}
    SomeWithin (Some g) = IsWithinLimits g.given
within_at (f ∷ gs) h (suc k) g e = within_at gs h.1 k g e

pub gives_within : (name : List ℕ) (tokens : List Token) (c : Config) → AllHold tokens → length tokens ≤ 200001 → Gives name tokens c → (k : ℕ) (g : GivenAt) → slice_get c.givens k ≡ Some g → IsWithinLimits g.given
gives_within name tokens c h l g =
    let few : length (marks_of g.before) ≤ 200000 = omega (arith, l, ap length g.whole, length-append g.before (g.last ∷ []), length-marks_of g.before) in
    let f : Fit (marks_of g.before) = record { hold = marks_hold g.before (g.last ∷ []) (subst AllHold g.whole h); few = few } in
    within_at c.givens (subst (λ (d : Config). AllWithin d.givens) (sym g.gives) (statements_within (nothing_given name) g.statements (subst Fit g.writes.whole f) g.writes.are tt))

lexed_within : (file : ℕ) (name text : List ℕ) (c : Config) (o : lexer.Outcome) → lexer.Tokens false file text o → OfLexed name o (Ok c) → (k : ℕ) (g : GivenAt) → slice_get c.givens k ≡ Some g → IsWithinLimits g.given
lexed_within file name text c (Ok tokens) t g = let h = tokens_hold false file text tokens t in gives_within name tokens c h.0 h.1 g
lexed_within file name text c (Err e) t g = absurd cc

pub are_within : GivensAreWithinLimits
are_within file name text c r = lexed_within file name text c r.lexed r.tokens r.of_lexed
