-- In what an accepted configuration leaves unchecked no line feed stands.
use Rattle.std.proofs.Common.{◌≡◌, ◌≢◌, ℕ, false, true, List, [], ◌∷◌, ◌++◌, Option, Some, None, Bool, Ok, Err, refl, sym, subst, arith}
use Rattle.std.proofs.lemmas.List.Elements.{All-nil, All-cons, All-append, All-push}
use Rattle.std.specs.Prelude.{All, codes, if◌then◌else◌}
use Rattle.base_core.specs.declared.place.Place.{Place}
use Rattle.reading_trees.specs.declared.config.Config.{Config}
use Rattle.reading_tokens.specs.declared.token.Kind.{Kind}
use Rattle.reading_tokens.specs.declared.token.Kind.TheVariants as kinds
use Rattle.reading_tokens.specs.declared.token.Word.{Word}
use Rattle.reading_tokens.specs.declared.token.Word.TheVariants as word
use Rattle.reading_tokens.specs.declared.token.Symbol.{Symbol}
use Rattle.reading_tokens.specs.declared.token.Symbol.TheVariants as symbol
use Rattle.reading_tokens.specs.declared.token.Token.{Token}
use Rattle.reading_tokens.specs.Shapes.{each, in_line}
use Rattle.reading_tokens.specs.Tokens as lexer
use Rattle.reading_configuration.specs.Given.{nothing_given, with_given, with_choice, with_unchecked, line_of, given_at, after_assignments, after_names, after, after_all}
use Rattle.reading_configuration.specs.Marks.{word_mark, symbol_mark, kind_mark, marks_of}
use Rattle.reading_configuration.specs.Reads.{Gives, OfLexed, OfTokens, Outcome}
use Rattle.reading_configuration.specs.Statements.{Named, name_mark, Value, plain, negative, string, truth_value, model_value, empty, braces, Members, last, more, value_marks, members_marks, Meaning, is, means, meaning_marks, Assignment, assignments_marks, names_marks, Statement, constants, choice, unchecked, deadlock, statement_marks, statements_marks}
use Rattle.reading_wide_configuration.specs.Bounds as bounds
use Rattle.reading_wide_configuration.specs.Bounds.{begins_any}
use Rattle.reading_wide_configuration.specs.Passed.{line_at, lines_at, remaining, told, told_in, word_at}
use Rattle.reading_wide_configuration.specs.Wide.{OfLexedWide, OfRemaining, OfTokensWide, as_they_remain, as_they_stand, with_told}
use Rattle.reading_wide_configuration.proofs.Remaining as left
use Rattle.reading_wide_configuration.proofs.Remaining.{remaining_hold}
use Rattle.reading_laws.specs.Telling.{HasNoFeed, UncheckedAreLines}
use Rattle.reading_laws.proofs.TokenLines.{Holds, AllHold, tested, tokens_hold}

-- ---- marks

-- if the mark is a name's, no line feed stands in it
abbrev Feedless : {M : Type 0} → (Named → M) → M → Type 0
Feedless mark m = (n : Named) → m ≡ mark n → HasNoFeed n.text

abbrev AllFeedless : {M : Type 0} → (Named → M) → List M → Type 0
AllFeedless mark [] = Unit {0}
AllFeedless mark (m ∷ ms) = Feedless mark m × AllFeedless mark ms

word_holds : (w : Word) → Feedless name_mark (word_mark w)
word_holds word.True n e = absurd cc
word_holds word.False n e = absurd cc
word_holds word.Constant n e = absurd cc
word_holds word.Constants n e = absurd cc
word_holds _ n e = absurd cc

symbol_holds : (s : Symbol) → Feedless name_mark (symbol_mark s)
symbol_holds symbol.Equal n e = absurd cc
symbol_holds symbol.LeftArrow n e = absurd cc
symbol_holds symbol.Minus n e = absurd cc
symbol_holds symbol.OpenBrace n e = absurd cc
symbol_holds symbol.CloseBrace n e = absurd cc
symbol_holds symbol.Comma n e = absurd cc
symbol_holds _ n e = absurd cc

kind_holds : (k : Kind) (at : Place) → Holds k → Feedless name_mark (kind_mark k at)
kind_holds (kinds.Name text) at h n e = let q : text ≡ n.text = cc in subst HasNoFeed q h
kind_holds (kinds.Number z) at h n e = absurd cc
kind_holds (kinds.Str s) at h n e = absurd cc
kind_holds kinds.Dashes at h n e = absurd cc
kind_holds kinds.Equals at h n e = absurd cc
kind_holds kinds.Fair at h n e = absurd cc
kind_holds (kinds.Word w) at h n e = word_holds w n e
kind_holds (kinds.Symbol s) at h n e = symbol_holds s n e
kind_holds (kinds.Foreign f) at h n e = absurd cc
kind_holds kinds.End at h n e = absurd cc

marks_hold : (before after : List Token) → AllHold (before ++ after) → AllFeedless name_mark (marks_of before)
marks_hold [] after h = tt
marks_hold (t ∷ ts) after h = (kind_holds t.kind t.place h.0, marks_hold ts after h.1)

-- ---- what stands behind a part of a statement

mutual
  value_rest : (v : Value) (rest : _) → AllFeedless name_mark (value_marks v rest) → AllFeedless name_mark rest
  value_rest (plain n) rest h = h.1
  value_rest (negative n) rest h = h.1.1
  value_rest (string s) rest h = h.1
  value_rest (truth_value b) rest h = h.1
  value_rest (model_value n) rest h = h.1
  value_rest empty rest h = h.1.1
  value_rest (braces vs) rest h = members_rest vs rest h.1

  members_rest : (vs : Members) (rest : _) → AllFeedless name_mark (members_marks vs rest) → AllFeedless name_mark rest
  members_rest (last v) rest h = (value_rest v _ h).1
  members_rest (more v vs) rest h = members_rest vs rest (value_rest v _ h).1

meaning_rest : (m : Meaning) (rest : _) → AllFeedless name_mark (meaning_marks m rest) → AllFeedless name_mark rest
meaning_rest (is v) rest h = value_rest v rest h.1
meaning_rest (means n) rest h = h.1.1

assignments_rest : (bs : List Assignment) (rest : _) → AllFeedless name_mark (assignments_marks bs rest) → AllFeedless name_mark rest
assignments_rest [] rest h = h
assignments_rest (b ∷ bs) rest h = assignments_rest bs rest (meaning_rest b.meaning (assignments_marks bs rest) h.1)

names_rest : (ns : List Named) (rest : _) → AllFeedless name_mark (names_marks ns rest) → AllFeedless name_mark rest
names_rest [] rest h = h
names_rest (n ∷ ns) rest h = names_rest ns rest h.1

statement_rest : (s : Statement) (rest : _) → AllFeedless name_mark (statement_marks s rest) → AllFeedless name_mark rest
statement_rest (constants a bs) rest h = assignments_rest bs rest (meaning_rest a.meaning (assignments_marks bs rest) h.1.1)
statement_rest (choice w p n) rest h = h.1.1
statement_rest (unchecked w l n ns) rest h = names_rest ns rest h.1.1
statement_rest (deadlock w b) rest h = h.1.1

-- ---- what statements leave unchecked

-- the word of a line, with a space
front_holds : (l : _) → each in_line (line_of l []) ≡ true
front_holds l = grind arith

line_is : (l : _) (n : List ℕ) → line_of l n ≡ line_of l [] ++ n
line_is l n = grind arith

line_holds : (l : _) (n : List ℕ) → HasNoFeed n → HasNoFeed (line_of l n)
line_holds l n h = subst HasNoFeed (sym (line_is l n)) (All-append (λ b. b ≢ 10) (line_of l []) n (tested (line_of l []) (front_holds l)) h)

abbrev AreLines : Config → Type 0
AreLines c = All HasNoFeed c.unchecked

with_line : (c : Config) (line : List ℕ) → AreLines c → HasNoFeed line → AreLines (with_unchecked c line)
with_line c line are h = All-push HasNoFeed c.unchecked line are h

names_lines : (c : Config) (l : _) (ns : List Named) (rest : _) → AllFeedless name_mark (names_marks ns rest) → AreLines c → AreLines (after_names c l ns)
names_lines c l [] rest h are = are
names_lines c l (n ∷ ns) rest h are = names_lines (with_unchecked c (line_of l n.text)) l ns rest h.1 (with_line c (line_of l n.text) are (line_holds l n.text (h.0 n refl)))

assignments_lines : (c : Config) (bs : List Assignment) → AreLines c → AreLines (after_assignments c bs)
assignments_lines c [] are = are
assignments_lines c (b ∷ bs) are = assignments_lines (with_given c (given_at b)) bs are

choice_leaves : (c : Config) (p : _) (n : List ℕ) → (with_choice c p n).unchecked ≡ c.unchecked
choice_leaves c p n = grind arith

statement_lines : (c : Config) (s : Statement) (rest : _) → AllFeedless name_mark (statement_marks s rest) → AreLines c → AreLines (after c s)
statement_lines c (constants a bs) rest h are = assignments_lines c (a ∷ bs) are
statement_lines c (choice w p n) rest h are = subst (All HasNoFeed) (sym (choice_leaves c p n.text)) are
statement_lines c (unchecked w l n ns) rest h are = names_lines c l (n ∷ ns) rest h.1 are
statement_lines c (deadlock w b) rest h are = with_line c (codes "CHECK_DEADLOCK") are (tested (codes "CHECK_DEADLOCK") refl)

statements_lines : (c : Config) (ss : List Statement) → AllFeedless name_mark (statements_marks ss []) → AreLines c → AreLines (after_all c ss)
statements_lines c [] h are = are
statements_lines c (t ∷ ss) h are =
    statements_lines (after c t) ss (statement_rest t (statements_marks ss []) h) (statement_lines c t (statements_marks ss []) h are)

-- ---- configurations

gives_lines : (name : List ℕ) (tokens : List Token) (c : Config) → AllHold tokens → Gives name tokens c → AreLines c
gives_lines name tokens c h g =
    let marks = marks_hold g.before (g.last ∷ []) (subst AllHold g.whole h) in
    subst AreLines (sym g.gives) (statements_lines (nothing_given name) g.statements (subst (AllFeedless name_mark) g.writes.whole marks) (All-nil HasNoFeed))

lexed_lines : (file : ℕ) (name text : List ℕ) (c : Config) (o : lexer.Outcome) → lexer.Tokens false file text o → OfLexed name o (Ok c) → AreLines c
lexed_lines file name text c (Ok tokens) t g = gives_lines name tokens c (tokens_hold file text tokens t) g
lexed_lines file name text c (Err e) t g = absurd cc

-- ---- what is passed over

-- the word of a line, with a space
bound_front : (b : _) → each in_line (bounds.line_of b []) ≡ true
bound_front b = grind arith

bound_line : (b : _) (n : List ℕ) → bounds.line_of b n ≡ bounds.line_of b [] ++ n
bound_line b n = grind arith

told_line : (b : _) (n : List ℕ) → HasNoFeed n → HasNoFeed (bounds.line_of b n)
told_line b n h = subst HasNoFeed (sym (bound_line b n)) (All-append (λ b. b ≢ 10) (bounds.line_of b []) n (tested (bounds.line_of b []) (bound_front b)) h)

either_lines : (x : Bool) (line : List ℕ) → HasNoFeed line → All HasNoFeed (if x then [] else line ∷ [])
either_lines true line h = All-nil HasNoFeed
either_lines false line h = All-cons HasNoFeed line [] h (All-nil HasNoFeed)

kind_told : (b : _) (k : Kind) → Holds k → All HasNoFeed (line_at b k)
kind_told b (kinds.Name n) h = either_lines (begins_any n) (bounds.line_of b n) (told_line b n h)
kind_told b (kinds.Number z) h = All-nil HasNoFeed
kind_told b (kinds.Str s) h = All-nil HasNoFeed
kind_told b kinds.Dashes h = All-nil HasNoFeed
kind_told b kinds.Equals h = All-nil HasNoFeed
kind_told b kinds.Fair h = All-nil HasNoFeed
kind_told b (kinds.Word w) h = All-nil HasNoFeed
kind_told b (kinds.Symbol s) h = All-nil HasNoFeed
kind_told b (kinds.Foreign f) h = All-nil HasNoFeed
kind_told b kinds.End h = All-nil HasNoFeed

token_told : (inside : Option _) (t : Token) → Holds t.kind → All HasNoFeed (lines_at inside t)
token_told (Some b) t h = kind_told b t.kind h
token_told None t h = All-nil HasNoFeed

all_told : (inside : Option _) (ts : List Token) → AllHold ts → All HasNoFeed (told_in inside ts)
all_told inside [] h = All-nil HasNoFeed
all_told inside (t ∷ ts) h =
    All-append HasNoFeed (lines_at inside t) (told_in (word_at inside t ts) ts) (token_told inside t h.0) (all_told (word_at inside t ts) ts h.1)

-- what tokens hold, as it is asked there and here
held_here : (ts : List Token) → AllHold ts → left.AllHold Holds ts
held_here [] h = tt
held_here (t ∷ ts) h = (h.0, held_here ts h.1)

held_there : (ts : List Token) → left.AllHold Holds ts → AllHold ts
held_there [] h = tt
held_there (t ∷ ts) h = (h.0, held_there ts h.1)

abbrev HasLines : Outcome → Type 0
HasLines (Ok c) = AreLines c
HasLines (Err f) = Unit {0}

tokens_lines : (name : List ℕ) (ts : List Token) (o : Outcome) (lines : List (List ℕ)) → AllHold ts → All HasNoFeed lines → OfTokens name ts o → HasLines (with_told lines o)
tokens_lines name ts (Ok c) lines h are g = All-append HasNoFeed c.unchecked lines (gives_lines name ts c h g) are
tokens_lines name ts (Err f) lines h are g = tt

remaining_lines : (name : List ℕ) (ts : List Token) (o : Outcome) → AllHold ts → OfRemaining name ts o → HasLines o
remaining_lines name ts o h r =
    let held = held_there (remaining ts) (remaining_hold Holds None ts (held_here ts h)) in
    subst HasLines (sym r.with_others) (tokens_lines name (remaining ts) r.rest (told ts) held (all_told None ts h) r.reads)

wide_lines : (name : List ℕ) (ts : List Token) (o : Outcome) → AllHold ts → OfTokensWide name ts o → HasLines o
wide_lines name ts _ h (as_they_stand c g) = gives_lines name ts c h g
wide_lines name ts o h (as_they_remain f _ g r) = remaining_lines name ts o h r

lexed_wide_lines : (file : ℕ) (name text : List ℕ) (c : Config) (o : lexer.Outcome) → lexer.Tokens false file text o → OfLexedWide name o (Ok c) → AreLines c
lexed_wide_lines file name text c (Ok ts) t g = wide_lines name ts (Ok c) (tokens_hold file text ts t) g
lexed_wide_lines file name text c (Err e) t g = absurd cc

pub are_lines : UncheckedAreLines
are_lines true file name text c r = lexed_wide_lines file name text c r.lexed r.tokens r.of_lexed
are_lines false file name text c r = lexed_lines file name text c r.lexed r.tokens r.of_lexed
