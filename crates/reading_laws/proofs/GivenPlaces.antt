-- Each name for which a configuration gives something stands where a token of its text does, and so does each that it puts in place of another.
use Rattle.std.proofs.Common.{◌≡◌, ◌∙◌, sym, ap, refl, subst, arith, ℕ, true, false, List, [], ◌∷◌, ◌++◌, length, Some, None, Ok, Err}
use Rattle.std.specs.Prelude.{All, slice_get}
use Rattle.std.specs.List.{slice_index_or}
use Rattle.std.proofs.lemmas.List.Elements.{All-nil, All-push}
use Rattle.base_core.specs.declared.place.Place.{Place}
use Rattle.reading_tokens.specs.declared.token.Kind.{Kind}
use Rattle.reading_tokens.specs.declared.token.Kind.TheVariants as kinds
use Rattle.reading_tokens.specs.declared.token.Token.{Token}
use Rattle.reading_tokens.specs.declared.token.Word.{Word}
use Rattle.reading_tokens.specs.declared.token.Word.TheVariants as word
use Rattle.reading_tokens.specs.declared.token.Symbol.{Symbol}
use Rattle.reading_tokens.specs.declared.token.Symbol.TheVariants as symbol
use Rattle.reading_tokens.specs.Tokens as lexer
use Rattle.reading_tokens.specs.Tokens.{Tokens}
use Rattle.reading_trees.specs.declared.config.Config.{Config}
use Rattle.reading_trees.specs.declared.config.Given.{Given}
use Rattle.reading_trees.specs.declared.config.Given.TheVariants.{Constant, Replaced}
use Rattle.reading_trees.specs.declared.config.GivenAt.{GivenAt}
use Rattle.reading_configuration.specs.Given.{after, after_all, after_assignments, after_names, given_at, line_of, nothing_given, with_choice, with_given, with_unchecked}
use Rattle.reading_configuration.specs.Marks.{kind_mark, marks_of, symbol_mark, word_mark}
use Rattle.reading_configuration.specs.Reads.{Gives, OfLexed, OfTokens, Outcome}
use Rattle.reading_configuration.specs.Statements.{Assignment, Meaning, Members, Named, Statement, Value, assignments_marks, braces, choice, constants, deadlock, empty, given_of, is, last, meaning_marks, means, members_marks, model_value, more, name_mark, names_marks, negative, plain, statement_marks, statements_marks, string, truth_value, unchecked, value_marks}
use Rattle.reading_wide_configuration.specs.Passed.{remaining, told}
use Rattle.reading_wide_configuration.specs.Wide.{OfLexedWide, OfRemaining, OfTokensWide, as_they_remain, as_they_stand, with_told}
use Rattle.reading_laws.specs.GivenPlaces.{GivensStandBehind, IsGivenBehind, PutBehind, StandsBehind}
use Rattle.reading_laws.proofs.TokenPlaces.{IsAmong, NameIs, NamesAre, front_are, names_among, remaining_are, tokens_in}

-- ---- marks, where something is told of each name with its place

module _ (P : List ℕ → Place → Type 0) where
  abbrev MarkIs : {M : Type 0} → (Named → M) → M → Type 0
  MarkIs mark m = (n : Named) → m ≡ mark n → P n.text n.at

  abbrev MarksAre : {M : Type 0} → (Named → M) → List M → Type 0
  MarksAre mark [] = Unit {0}
  MarksAre mark (m ∷ ms) = MarkIs mark m × MarksAre mark ms

  word_is : (w : Word) → MarkIs name_mark (word_mark w)
  word_is word.True n e = absurd cc
  word_is word.False n e = absurd cc
  word_is word.Constant n e = absurd cc
  word_is word.Constants n e = absurd cc
  word_is _ n e = absurd cc

  symbol_is : (s : Symbol) → MarkIs name_mark (symbol_mark s)
  symbol_is symbol.Equal n e = absurd cc
  symbol_is symbol.LeftArrow n e = absurd cc
  symbol_is symbol.Minus n e = absurd cc
  symbol_is symbol.OpenBrace n e = absurd cc
  symbol_is symbol.CloseBrace n e = absurd cc
  symbol_is symbol.Comma n e = absurd cc
  symbol_is _ n e = absurd cc

  name_is : (text : List ℕ) (at : Place) (n : Named) → kind_mark (kinds.Name text) at ≡ name_mark n → P text at → P n.text n.at
  name_is text at n e h =
      let t : text ≡ n.text = cc in
      let p : at ≡ n.at = cc in
      subst (λ (x : Place). P n.text x) p (subst (λ (x : List ℕ). P x at) t h)

  kind_is : (k : Kind) (at : Place) → NameIs P k at → MarkIs name_mark (kind_mark k at)
  kind_is (kinds.Name text) at h n e = name_is text at n e h
  kind_is (kinds.Number z) at h n e = absurd cc
  kind_is (kinds.Str s) at h n e = absurd cc
  kind_is kinds.Dashes at h n e = absurd cc
  kind_is kinds.Equals at h n e = absurd cc
  kind_is kinds.Fair at h n e = absurd cc
  kind_is (kinds.Word w) at h n e = word_is w n e
  kind_is (kinds.Symbol s) at h n e = symbol_is s n e
  kind_is (kinds.Foreign f) at h n e = absurd cc
  kind_is kinds.End at h n e = absurd cc

  marks_are : (ts : List Token) → NamesAre P ts → MarksAre name_mark (marks_of ts)
  marks_are [] h = tt
  marks_are (t ∷ ts) h = (kind_is t.kind t.place h.0, marks_are ts h.1)

  -- ---- what stands behind a part of a statement

  mutual
    value_rest : (v : Value) (rest : _) → MarksAre name_mark (value_marks v rest) → MarksAre name_mark rest
    value_rest (plain n) rest h = h.1
    value_rest (negative n) rest h = h.1.1
    value_rest (string s) rest h = h.1
    value_rest (truth_value b) rest h = h.1
    value_rest (model_value n) rest h = h.1
    value_rest empty rest h = h.1.1
    value_rest (braces vs) rest h = members_rest vs rest h.1

    members_rest : (vs : Members) (rest : _) → MarksAre name_mark (members_marks vs rest) → MarksAre name_mark rest
    members_rest (last v) rest h = (value_rest v _ h).1
    members_rest (more v vs) rest h = members_rest vs rest (value_rest v _ h).1

  meaning_rest : (m : Meaning) (rest : _) → MarksAre name_mark (meaning_marks m rest) → MarksAre name_mark rest
  meaning_rest (is v) rest h = value_rest v rest h.1
  meaning_rest (means n) rest h = h.1.1

  assignments_rest : (bs : List Assignment) (rest : _) → MarksAre name_mark (assignments_marks bs rest) → MarksAre name_mark rest
  assignments_rest [] rest h = h
  assignments_rest (b ∷ bs) rest h = assignments_rest bs rest (meaning_rest b.meaning (assignments_marks bs rest) h.1)

  names_rest : (ns : List Named) (rest : _) → MarksAre name_mark (names_marks ns rest) → MarksAre name_mark rest
  names_rest [] rest h = h
  names_rest (n ∷ ns) rest h = names_rest ns rest h.1

  statement_rest : (s : Statement) (rest : _) → MarksAre name_mark (statement_marks s rest) → MarksAre name_mark rest
  statement_rest (constants a bs) rest h = assignments_rest bs rest (meaning_rest a.meaning (assignments_marks bs rest) h.1.1)
  statement_rest (choice w p n) rest h = h.1.1
  statement_rest (unchecked w l n ns) rest h = names_rest ns rest h.1.1
  statement_rest (deadlock w b) rest h = h.1.1

  -- ---- what statements give

  abbrev PutIs : Given → Type 0
  PutIs (Constant l) = Unit {0}
  PutIs (Replaced text at) = P text at

  abbrev pub GivenIs : GivenAt → Type 0
  GivenIs g = P g.name g.at × PutIs g.given

  meaning_is : (m : Meaning) (rest : _) → MarksAre name_mark (meaning_marks m rest) → PutIs (given_of m)
  meaning_is (is v) rest h = tt
  meaning_is (means n) rest h = h.1.0 n refl

  assigned : (c : Config) (bs : List Assignment) (rest : _) → MarksAre name_mark (assignments_marks bs rest) → All GivenIs c.givens → All GivenIs (after_assignments c bs).givens
  assigned c [] rest h are = are
  assigned c (b ∷ bs) rest h are =
      assigned (with_given c (given_at b)) bs rest (meaning_rest b.meaning (assignments_marks bs rest) h.1)
      (All-push GivenIs c.givens (given_at b) are (h.0 b.name refl, meaning_is b.meaning (assignments_marks bs rest) h.1))

  listed : (c : Config) (l : _) (ns : List Named) → (after_names c l ns).givens ≡ c.givens
  listed c l [] = refl
  listed c l (n ∷ ns) = listed (with_unchecked c (line_of l n.text)) l ns

  chosen : (c : Config) (p : _) (n : List ℕ) → (with_choice c p n).givens ≡ c.givens
  chosen c p n = grind arith

  stated : (c : Config) (s : Statement) (rest : _) → MarksAre name_mark (statement_marks s rest) → All GivenIs c.givens → All GivenIs (after c s).givens
  stated c (constants a bs) rest h are = assigned c (a ∷ bs) rest h.1 are
  stated c (choice w p n) rest h are = subst (All GivenIs) (sym (chosen c p n.text)) are
  stated c (unchecked w l n ns) rest h are = subst (All GivenIs) (sym (listed c l (n ∷ ns))) are
  stated c (deadlock w b) rest h are = are

  all_stated : (c : Config) (ss : List Statement) → MarksAre name_mark (statements_marks ss []) → All GivenIs c.givens → All GivenIs (after_all c ss).givens
  all_stated c [] h are = are
  all_stated c (s ∷ ss) h are = all_stated (after c s) ss (statement_rest s (statements_marks ss []) h) (stated c s (statements_marks ss []) h are)

  given_are : (name : List ℕ) (ts : List Token) (c : Config) → NamesAre P ts → Gives name ts c → All GivenIs c.givens
  given_are name ts c h g =
      let marks = marks_are g.before (front_are P g.before (g.last ∷ []) (subst (NamesAre P) g.whole h)) in
      subst (λ (x : Config). All GivenIs x.givens) (sym g.gives)
      (all_stated (nothing_given name) g.statements (subst (MarksAre name_mark) g.writes.whole marks) (All-nil GivenIs))

-- ---- the name of the file

file_assigned : (c : Config) (bs : List Assignment) → (after_assignments c bs).file ≡ c.file
file_assigned c [] = refl
file_assigned c (a ∷ bs) = file_assigned (with_given c (given_at a)) bs

file_listed : (c : Config) (l : _) (ns : List Named) → (after_names c l ns).file ≡ c.file
file_listed c l [] = refl
file_listed c l (n ∷ ns) = file_listed (with_unchecked c (line_of l n.text)) l ns

file_chosen : (c : Config) (p : _) (n : List ℕ) → (with_choice c p n).file ≡ c.file
file_chosen c p n = grind arith

file_stated : (c : Config) (s : Statement) → (after c s).file ≡ c.file
file_stated c (constants a bs) = file_assigned c (a ∷ bs)
file_stated c (choice w p n) = file_chosen c p n.text
file_stated c (unchecked w l n ns) = file_listed c l (n ∷ ns)
file_stated c (deadlock w b) = refl

file_kept : (c : Config) (ss : List Statement) → (after_all c ss).file ≡ c.file
file_kept c [] = refl
file_kept c (s ∷ ss) = file_kept (after c s) ss ∙ file_stated c s

-- ---- configurations

module _ (P : List ℕ → Place → Type 0) (name : List ℕ) where
  -- the name of the file is kept, and so much is told of what is given
  abbrev pub Tells : Config → Type 0
  Tells c = (c.file ≡ name) × All (GivenIs P) c.givens

  abbrev MayTell : Outcome → Type 0
  MayTell (Ok c) = Tells c
  MayTell (Err f) = Unit {0}

  told_given : (ts : List Token) (c : Config) → NamesAre P ts → Gives name ts c → Tells c
  told_given ts c h g = (ap (λ (x : Config). x.file) g.gives ∙ file_kept (nothing_given name) g.statements, given_are P name ts c h g)

  told_tokens : (ts : List Token) (o : Outcome) (lines : List (List ℕ)) → NamesAre P ts → OfTokens name ts o → MayTell (with_told lines o)
  told_tokens ts (Ok c) lines h g = told_given ts c h g
  told_tokens ts (Err f) lines h g = tt

  told_remaining : (ts : List Token) (o : Outcome) → NamesAre P ts → OfRemaining name ts o → MayTell o
  told_remaining ts o h r = subst MayTell (sym r.with_others) (told_tokens (remaining ts) r.rest (told ts) (remaining_are P None ts h) r.reads)

  told_wide : (ts : List Token) (o : Outcome) → NamesAre P ts → OfTokensWide name ts o → MayTell o
  told_wide ts _ h (as_they_stand c g) = told_given ts c h g
  told_wide ts o h (as_they_remain f _ g r) = told_remaining ts o h r

-- ---- files

last_file : (xs : List (List ℕ)) (x : List ℕ) → slice_get (xs ++ x ∷ []) (length xs) ≡ Some x
last_file [] x = refl
last_file (y ∷ xs) x = last_file xs x

module _ (modules : List (List ℕ)) (name text : List ℕ) (tokens : List Token) (are : Tokens false (length modules) text (Ok tokens)) where
  abbrev Stands : List ℕ → Place → Type 0
  Stands = IsAmong (length modules) tokens

  stands_behind : (word : List ℕ) (at : Place) → Stands word at → StandsBehind modules name text word at
  stands_behind word at h = record {
    behind = h.0;
    named = ap (λ (i : ℕ). slice_get (modules ++ name ∷ []) i) h.0 ∙ last_file modules name;
    tokens = tokens;
    are = are;
    has = h.1;
  }

  put_behind : (g : Given) → PutIs Stands g → PutBehind modules name text g
  put_behind (Constant l) h = tt
  put_behind (Replaced word at) h = stands_behind word at h

  given_behind : (g : GivenAt) → GivenIs Stands g → IsGivenBehind modules name text g
  given_behind g h = record { stands = stands_behind g.name g.at h.0; put = put_behind g.given h.1 }

  known : NamesAre Stands tokens
  known = names_among (length modules) tokens (tokens_in (length modules) text tokens are)

  all_behind : (c : Config) → Tells Stands name c → (c.file ≡ name) × All (IsGivenBehind modules name text) c.givens
  all_behind c h = (h.0, λ k d lt. given_behind (slice_index_or c.givens k d) (h.1 k d lt))

  strictly : (c : Config) → Gives name tokens c → (c.file ≡ name) × All (IsGivenBehind modules name text) c.givens
  strictly c g = all_behind c (told_given Stands name tokens c known g)

  widely : (c : Config) → OfTokensWide name tokens (Ok c) → (c.file ≡ name) × All (IsGivenBehind modules name text) c.givens
  widely c g = all_behind c (told_wide Stands name tokens (Ok c) known g)

lexed : (modules : List (List ℕ)) (name text : List ℕ) (c : Config) (o : lexer.Outcome) → Tokens false (length modules) text o → OfLexed name o (Ok c)
    → (c.file ≡ name) × All (IsGivenBehind modules name text) c.givens
lexed modules name text c (Ok tokens) t g = strictly modules name text tokens t c g
lexed modules name text c (Err e) t g = absurd cc

lexed_wide : (modules : List (List ℕ)) (name text : List ℕ) (c : Config) (o : lexer.Outcome) → Tokens false (length modules) text o → OfLexedWide name o (Ok c)
    → (c.file ≡ name) × All (IsGivenBehind modules name text) c.givens
lexed_wide modules name text c (Ok tokens) t g = widely modules name text tokens t c g
lexed_wide modules name text c (Err e) t g = absurd cc

pub givens_stand_behind : GivensStandBehind
givens_stand_behind true modules name text c r = lexed_wide modules name text c r.lexed r.tokens r.of_lexed
givens_stand_behind false modules name text c r = lexed modules name text c r.lexed r.tokens r.of_lexed
