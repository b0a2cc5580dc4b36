-- The outcome of tokens is what comes of them, and it is the only one.
use Rattle.std.proofs.Common.{◌≡◌, ℕ, Bool, true, false, List, [], ◌∷◌, ◌++◌, length, Option, Some, None, Ok, Err, refl, sym, ap, subst, ◌∙◌, inl, inr}
use Rattle.std.specs.Prelude.{pos, negsuc, ◌⊎◌, ◌&&◌, ◌==◌, if◌then◌else◌}
use Rattle.base_core.specs.declared.place.Place.{Place}
use Rattle.reading_tokens.specs.declared.token.Token.{Token}
use Rattle.reading_tokens.specs.declared.token.Kind.{Kind}
use Rattle.reading_tokens.specs.declared.token.Kind.TheVariants as tokens
use Rattle.reading_tokens.specs.declared.token.Word.{Word}
use Rattle.reading_tokens.specs.declared.token.Word.TheVariants as word
use Rattle.reading_tokens.specs.declared.token.Symbol.{Symbol}
use Rattle.reading_tokens.specs.declared.token.Symbol.TheVariants as symbol
use Rattle.reading_trees.specs.Opens.{is_end}
use Rattle.reading_trees.specs.Laid.{NoEnd}
use Rattle.reading_trees.specs.Lits.{Lit}
use Rattle.reading_trees.specs.declared.config.Config.{Config}
use Rattle.reading_configuration.specs.declared.mark.Mark.{Mark}
use Rattle.reading_configuration.specs.declared.mark.Mark.TheVariants.{Name, Number, Str, Truth, Constants, Equal, Replaces, Minus, Open, Close, Comma, End}
use Rattle.reading_configuration.specs.declared.keyword.Keyword.{Keyword}
use Rattle.reading_configuration.specs.declared.keyword.Keyword.TheVariants as keyword
use Rattle.reading_configuration.specs.declared.keyword.Part.{Part}
use Rattle.reading_configuration.specs.declared.keyword.Listed.{Listed}
use Rattle.reading_configuration.specs.declared.expects.Expects.{Expects}
use Rattle.reading_configuration.specs.declared.expects.Expects.TheVariants as expects
use Rattle.reading_configuration.specs.declared.expects.Assigned.{Assigned}
use Rattle.reading_configuration.specs.declared.expects.Further.{Further}
use Rattle.reading_configuration.specs.declared.expects.Further.TheVariants as further
use Rattle.reading_configuration.specs.declared.fault.ConfigKind.{ConfigKind}
use Rattle.reading_configuration.specs.declared.fault.ConfigKind.TheVariants.{Syntax, Unsupported, Twice, NoBehaviour}
use Rattle.reading_configuration.specs.Keywords.{keyword_of}
use Rattle.reading_configuration.specs.Marks.{mark_of, marks_of, word_mark, symbol_mark, kind_mark}
use Rattle.reading_configuration.specs.Given.{is_chosen, is_assigned, has_behaviour}
use Rattle.reading_configuration.specs.Steps.{Next, step, statement_step, word_step, further_step, value_step, negative_step, first_member_step, separator_step, sign_step, replacement_step, first_step, name_step, choice_step, truth_step, close_step, read_on, reads}
use Rattle.reading_configuration.specs.Reads.{Outcome}
use Rattle.reading_configuration.proofs.Walks.{Reached, walk, walk_on}

-- where a text begins
abbrev pub first : Expects
first = expects.Statement further.Nothing

-- what a step of the reader that refuses means where the marks are read without its tests
abbrev pub Cause : Expects → Config → Mark → ConfigKind → Type 0
Cause e c m Syntax = step false false e c m ≡ Err Syntax
Cause e c m (Unsupported w) = (f : Further) × ((e ≡ expects.Statement f) × ((at : Place) × ((m ≡ Name w at) × (keyword_of w ≡ Some keyword.Unsupported))))
Cause e c m (Twice w) = (at : Place) × ((m ≡ Name w at) × ((p : Reached) × ((step false false e c m ≡ Ok p) × (step true false e c m ≡ Err (Twice w)))))
Cause e c m NoBehaviour = (f : Further) × ((e ≡ expects.Statement f) × ((m ≡ End) × (has_behaviour c ≡ false)))

abbrev pub OnErr : Next → (ConfigKind → Type 0) → Type 0
OnErr (Ok p) P = Unit {0}
OnErr (Err k) P = P k

twice_if : (b : Bool) (t : List ℕ) (p : Reached) (P : ConfigKind → Type 0) → (b ≡ true → P (Twice t)) → OnErr (if true && b then Err (Twice t) else Ok p) P
twice_if true t p P h = h refl
twice_if false t p P h = tt

if_true : (b : Bool) (t : List ℕ) (p : Reached) → b ≡ true → ◌≡◌ {A = Next} (if true && b then Err (Twice t) else Ok p) (Err (Twice t))
if_true true t p h = refl
if_true false t p h = absurd cc

caused_end : (f : Further) (c : Config) (b : Bool) → has_behaviour c ≡ b
    → OnErr (if b then Ok (first, c) else Err NoBehaviour) (Cause (expects.Statement f) c End)
caused_end f c true h = tt
caused_end f c false h = (f, (refl, (refl, h)))

caused_further : (f : Further) (c : Config) (text : List ℕ) (at : Place) → keyword_of text ≡ None
    → OnErr (further_step true f c text at) (Cause (expects.Statement f) c (Name text at))
caused_further further.Nothing c text at h = ap (word_step false further.Nothing c text at) h
caused_further (further.Name l) c text at h = tt
caused_further further.Assignment c text at h =
    let p : Reached = (expects.Sign (record { name = text; at = at }), c) in
    twice_if (is_assigned text c.givens) text p (Cause (expects.Statement further.Assignment) c (Name text at))
    (λ e. (at, (refl, (p, (ap (word_step false further.Assignment c text at) h, ap (word_step true further.Assignment c text at) h ∙ if_true (is_assigned text c.givens) text p e)))))

caused_word : (k : Option Keyword) (f : Further) (c : Config) (text : List ℕ) (at : Place) → keyword_of text ≡ k
    → OnErr (word_step true f c text at k) (Cause (expects.Statement f) c (Name text at))
caused_word (Some (keyword.Chooses p)) f c text at h =
    let r : Reached = (expects.Choice p, c) in
    twice_if (is_chosen c p) text r (Cause (expects.Statement f) c (Name text at))
    (λ e. (at, (refl, (r, (ap (word_step false f c text at) h, ap (word_step true f c text at) h ∙ if_true (is_chosen c p) text r e)))))
caused_word (Some (keyword.Lists l)) f c text at h = tt
caused_word (Some keyword.Deadlock) f c text at h = tt
caused_word (Some keyword.Unsupported) f c text at h = (f, (refl, (at, (refl, h))))
caused_word None f c text at h = caused_further f c text at h

caused_statement : (f : Further) (c : Config) (m : Mark) → OnErr (statement_step true true f c m) (Cause (expects.Statement f) c m)
caused_statement f c (Name text at) = caused_word (keyword_of text) f c text at refl
caused_statement f c Constants = tt
caused_statement f c End = caused_end f c (has_behaviour c) refl
caused_statement f c _ = refl

caused_first : (c : Config) (m : Mark) → OnErr (first_step true c m) (Cause expects.FirstAssignment c m)
caused_first c (Name text at) =
    let p : Reached = (expects.Sign (record { name = text; at = at }), c) in
    twice_if (is_assigned text c.givens) text p (Cause expects.FirstAssignment c (Name text at))
    (λ e. (at, (refl, (p, (refl, if_true (is_assigned text c.givens) text p e)))))
caused_first c _ = refl

caused_choice : (p : Part) (c : Config) (m : Mark) → OnErr (choice_step p c m) (Cause (expects.Choice p) c m)
caused_choice p c (Name text at) = tt
caused_choice p c _ = refl

caused_name : (l : Listed) (c : Config) (m : Mark) → OnErr (name_step l c m) (Cause (expects.FirstName l) c m)
caused_name l c (Name text at) = tt
caused_name l c _ = refl

caused_truth : (c : Config) (m : Mark) → OnErr (truth_step c m) (Cause expects.Truth c m)
caused_truth c (Truth b) = tt
caused_truth c _ = refl

caused_sign : (a : Assigned) (c : Config) (m : Mark) → OnErr (sign_step a c m) (Cause (expects.Sign a) c m)
caused_sign a c Equal = tt
caused_sign a c Replaces = tt
caused_sign a c _ = refl

caused_replacement : (a : Assigned) (c : Config) (m : Mark) → OnErr (replacement_step a c m) (Cause (expects.Replacement a) c m)
caused_replacement a c (Name text at) = tt
caused_replacement a c _ = refl

-- a step that refuses for one cause
abbrev IsSyntax : Next → Type 0
IsSyntax n = OnErr n (λ k. k ≡ Syntax)

full_syntax : (b : Bool) (p : Reached) → IsSyntax (if b then Err Syntax else Ok p)
full_syntax true p = refl
full_syntax false p = tt

value_syntax : (a : Assigned) (sets : List (List Lit)) (c : Config) (m : Mark) → IsSyntax (value_step a sets c m)
value_syntax a sets c (Name text at) = tt
value_syntax a sets c (Number (pos n)) = tt
value_syntax a sets c (Number (negsuc n)) = refl
value_syntax a sets c (Str s) = tt
value_syntax a sets c (Truth b) = tt
value_syntax a sets c Minus = tt
value_syntax a sets c Open = full_syntax (length sets == 32) (expects.FirstMember a ([] ∷ sets), c)
value_syntax a sets c _ = refl

close_syntax : (a : Assigned) (sets : List (List Lit)) (c : Config) → IsSyntax (close_step a sets c)
close_syntax a [] c = refl
close_syntax a (set ∷ sets) c = tt

negative_syntax : (a : Assigned) (sets : List (List Lit)) (c : Config) (m : Mark) → IsSyntax (negative_step a sets c m)
negative_syntax a sets c (Number (pos n)) = tt
negative_syntax a sets c (Number (negsuc n)) = refl
negative_syntax a sets c _ = refl

first_syntax : (a : Assigned) (sets : List (List Lit)) (c : Config) (m : Mark) → IsSyntax (first_member_step a sets c m)
first_syntax a sets c Close = close_syntax a sets c
first_syntax a sets c (Name text at) = tt
first_syntax a sets c (Number z) = value_syntax a sets c (Number z)
first_syntax a sets c (Str s) = tt
first_syntax a sets c (Truth b) = tt
first_syntax a sets c Minus = tt
first_syntax a sets c Open = value_syntax a sets c Open
first_syntax a sets c _ = refl

separator_syntax : (a : Assigned) (sets : List (List Lit)) (c : Config) (m : Mark) → IsSyntax (separator_step a sets c m)
separator_syntax a sets c Close = close_syntax a sets c
separator_syntax a sets c Comma = tt
separator_syntax a sets c _ = refl

syntax_caused : (e : Expects) (c : Config) (m : Mark) (n : Next) → step false false e c m ≡ n → IsSyntax n → OnErr n (Cause e c m)
syntax_caused e c m (Ok p) h g = tt
syntax_caused e c m (Err k) h g = subst (Cause e c m) (sym g) (h ∙ ap (λ k. Err k) g)

pub caused : (e : Expects) (c : Config) (m : Mark) → OnErr (step true true e c m) (Cause e c m)
caused (expects.Statement f) c m = caused_statement f c m
caused (expects.Choice p) c m = caused_choice p c m
caused (expects.FirstName l) c m = caused_name l c m
caused expects.Truth c m = caused_truth c m
caused expects.FirstAssignment c m = caused_first c m
caused (expects.Sign a) c m = caused_sign a c m
caused (expects.Replacement a) c m = caused_replacement a c m
caused (expects.Value a sets) c m = syntax_caused (expects.Value a sets) c m _ refl (value_syntax a sets c m)
caused (expects.Number a sets) c m = syntax_caused (expects.Number a sets) c m _ refl (negative_syntax a sets c m)
caused (expects.FirstMember a sets) c m = syntax_caused (expects.FirstMember a sets) c m _ refl (first_syntax a sets c m)
caused (expects.Separator a sets) c m = syntax_caused (expects.Separator a sets) c m _ refl (separator_syntax a sets c m)

pub at_error : (n : Next) (k : ConfigKind) (P : ConfigKind → Type 0) → n ≡ Err k → OnErr n P → P k
at_error (Ok p) k P e h = absurd cc
at_error (Err j) k P e h = let same : j ≡ k = cc in subst P same h

-- what is allowed once is allowed
once_or : (b : Bool) (t : List ℕ) (p q : Reached) → ◌≡◌ {A = Next} (if true && b then Err (Twice t) else Ok p) (Ok q) → ◌≡◌ {A = Next} (Ok p) (Ok q)
once_or true t p q h = absurd cc
once_or false t p q h = h

once_further : (f : Further) (c : Config) (text : List ℕ) (at : Place) (p : Reached) → further_step true f c text at ≡ Ok p → further_step false f c text at ≡ Ok p
once_further further.Nothing c text at p h = h
once_further (further.Name l) c text at p h = h
once_further further.Assignment c text at p h = once_or (is_assigned text c.givens) text _ p h

once_word : (k : Option Keyword) (f : Further) (c : Config) (text : List ℕ) (at : Place) (p : Reached) → word_step true f c text at k ≡ Ok p → word_step false f c text at k ≡ Ok p
once_word (Some (keyword.Chooses t)) f c text at p h = once_or (is_chosen c t) text _ p h
once_word (Some (keyword.Lists l)) f c text at p h = h
once_word (Some keyword.Deadlock) f c text at p h = h
once_word (Some keyword.Unsupported) f c text at p h = h
once_word None f c text at p h = once_further f c text at p h

once_statement : (q : Bool) (f : Further) (c : Config) (m : Mark) (p : Reached) → statement_step true q f c m ≡ Ok p → statement_step false q f c m ≡ Ok p
once_statement q f c (Name text at) p h = once_word (keyword_of text) f c text at p h
once_statement q f c _ p h = h

once_first : (c : Config) (m : Mark) (p : Reached) → first_step true c m ≡ Ok p → first_step false c m ≡ Ok p
once_first c (Name text at) p h = once_or (is_assigned text c.givens) text _ p h
once_first c _ p h = h

pub once_step : (q : Bool) (e : Expects) (c : Config) (m : Mark) (p : Reached) → step true q e c m ≡ Ok p → step false q e c m ≡ Ok p
once_step q (expects.Statement f) c m p h = once_statement q f c m p h
once_step q expects.FirstAssignment c m p h = once_first c m p h
once_step q _ c m p h = h

once_on : (n l : Next) (k j : Expects → Config → Option Reached) (p : Reached) → ((r : Reached) → n ≡ Ok r → l ≡ Ok r)
    → ((e : Expects) (c : Config) → k e c ≡ Some p → j e c ≡ Some p) → walk_on n k ≡ Some p → walk_on l j ≡ Some p
once_on (Ok r) l k j p f g h = ap (λ x. walk_on x j) (f r refl) ∙ g r.0 r.1 h
once_on (Err e) l k j p f g h = absurd cc

pub once_walk : (q : Bool) (e : Expects) (c : Config) (ms : List Mark) (p : Reached) → walk true q e c ms ≡ Some p → walk false q e c ms ≡ Some p
once_walk q e c [] p h = h
once_walk q e c (m ∷ ms) p h =
    once_on (step true q e c m) (step false q e c m) (λ f d. walk true q f d ms) (λ f d. walk false q f d ms) p (once_step q e c m) (λ f d. once_walk q f d ms p) h

-- the End, and other marks
abbrev pub ends : Mark → Bool
ends End = true
ends _ = false

same_statement : (o : Bool) (f : Further) (c : Config) (m : Mark) → ends m ≡ false → statement_step o true f c m ≡ statement_step o false f c m
same_statement o f c End h = absurd cc
same_statement o f c _ h = refl

pub same_step : (o : Bool) (e : Expects) (c : Config) (m : Mark) → ends m ≡ false → step o true e c m ≡ step o false e c m
same_step o (expects.Statement f) c m h = same_statement o f c m h
same_step o _ c m h = refl

word_ends : (w : Word) → ends (word_mark w) ≡ false
word_ends word.True = refl
word_ends word.False = refl
word_ends word.Constant = refl
word_ends word.Constants = refl
word_ends _ = refl

symbol_ends : (s : Symbol) → ends (symbol_mark s) ≡ false
symbol_ends symbol.Equal = refl
symbol_ends symbol.LeftArrow = refl
symbol_ends symbol.Minus = refl
symbol_ends symbol.OpenBrace = refl
symbol_ends symbol.CloseBrace = refl
symbol_ends symbol.Comma = refl
symbol_ends _ = refl

kind_ends : (k : Kind) (at : Place) → is_end k ≡ false → ends (kind_mark k at) ≡ false
kind_ends (tokens.Word w) at h = word_ends w
kind_ends (tokens.Symbol s) at h = symbol_ends s
kind_ends tokens.End at h = absurd cc
kind_ends _ at h = refl

has_end : (b : Bool) (f : Further) (c : Config) (p : Reached)
    → ◌≡◌ {A = Next} (if b then Ok (first, c) else Err NoBehaviour) (Ok p) → (b ≡ true) × (p.1 ≡ c)
has_end true f c p h = let same : (first, c) ≡ p = cc in (refl, sym (ap (λ (r : Reached). r.1) same))
has_end false f c p h = absurd cc

-- the End stands where a statement may begin, behind what has a behaviour
pub end_ok : (e : Expects) (c : Config) (p : Reached) → step true true e c End ≡ Ok p
    → (f : Further) × ((e ≡ expects.Statement f) × ((has_behaviour c ≡ true) × (p.1 ≡ c)))
end_ok (expects.Statement f) c p h = let r = has_end (has_behaviour c) f c p h in (f, (refl, (r.0, r.1)))
end_ok _ c p h = absurd cc

-- the token where reading stops
pub record Halted (e : Expects) (c : Config) (ts : List Token) (o : Outcome) : Type 0 where
  pub before : List Token
  pub token : Token
  pub rest : List Token
  pub whole : ts ≡ before ++ token ∷ rest
  pub expected : Expects
  pub given : Config
  pub reached : walk true false e c (marks_of before) ≡ Some (expected, given)
  pub kind : ConfigKind
  pub stops : step true true expected given (mark_of token) ≡ Err kind
  pub gives : o ≡ Err (kind, token.place)

-- or all was read
pub record Ended (e : Expects) (c : Config) (ts : List Token) (o : Outcome) : Type 0 where
  pub before : List Token
  pub last : Token
  pub whole : ts ≡ before ++ last ∷ []
  pub is_last : mark_of last ≡ End
  pub further : Further
  pub given : Config
  pub reached : walk true false e c (marks_of before) ≡ Some (expects.Statement further, given)
  pub behaviour : has_behaviour given ≡ true
  pub gives : o ≡ Ok given

abbrev pub Comes : Expects → Config → List Token → Outcome → Type 0
Comes e c ts o = Halted e c ts o ⊎ Ended e c ts o

halted_here : (e : Expects) (c : Config) (t : Token) (ts : List Token) (k : ConfigKind) (o : Outcome) → step true true e c (mark_of t) ≡ Err k → o ≡ Err (k, t.place)
    → Halted e c (t ∷ ts) o
halted_here e c t ts k o h g =
    record { before = []; token = t; rest = ts; whole = refl; expected = e; given = c; reached = refl; kind = k; stops = h; gives = g }

last_comes : (n : Next) (e : Expects) (c : Config) (t : Token) → step true true e c (mark_of t) ≡ n → mark_of t ≡ End
    → Comes e c (t ∷ []) (read_on n t.place (λ f d. Ok d))
last_comes (Err k) e c t h is = inl (halted_here e c t [] k _ h refl)
last_comes (Ok p) e c t h is =
    let r = end_ok e c p (subst (λ m. step true true e c m ≡ Ok p) is h) in
    inr (record {
      before = [];
      last = t;
      whole = refl;
      is_last = is;
      further = r.0;
      given = c;
      reached = ap (λ x. Some (x, c)) r.1.0;
      behaviour = r.1.1.0;
      gives = ap (λ d. Ok d) r.1.1.1;
    })

later : (e f : Expects) (c d : Config) (t : Token) (ts : List Token) (o : Outcome) → step true false e c (mark_of t) ≡ Ok (f, d)
    → Comes f d ts o → Comes e c (t ∷ ts) o
later e f c d t ts o h (inl r) =
    inl (record {
      before = t ∷ r.before;
      token = r.token;
      rest = r.rest;
      whole = ap (λ us. t ∷ us) r.whole;
      expected = r.expected;
      given = r.given;
      reached = ap (λ n. walk_on n (λ a b. walk true false a b (marks_of r.before))) h ∙ r.reached;
      kind = r.kind;
      stops = r.stops;
      gives = r.gives;
    })
later e f c d t ts o h (inr r) =
    inr (record {
      before = t ∷ r.before;
      last = r.last;
      whole = ap (λ us. t ∷ us) r.whole;
      is_last = r.is_last;
      further = r.further;
      given = r.given;
      reached = ap (λ n. walk_on n (λ a b. walk true false a b (marks_of r.before))) h ∙ r.reached;
      behaviour = r.behaviour;
      gives = r.gives;
    })

first_comes : (n : Next) (e : Expects) (c : Config) (t : Token) (ts : List Token) → step true true e c (mark_of t) ≡ n → ends (mark_of t) ≡ false
    → ((f : Expects) (d : Config) → Comes f d ts (reads f d ts)) → Comes e c (t ∷ ts) (read_on n t.place (λ f d. reads f d ts))
first_comes (Err k) e c t ts h is r = inl (halted_here e c t ts k _ h refl)
first_comes (Ok p) e c t ts h is r = later e p.0 c p.1 t ts _ (sym (same_step true e c (mark_of t) is) ∙ h) (r p.0 p.1)

pub comes : (b : List Token) (t : Token) → NoEnd b → mark_of t ≡ End → (e : Expects) (c : Config) → Comes e c (b ++ t ∷ []) (reads e c (b ++ t ∷ []))
comes [] t once is e c = last_comes (step true true e c (mark_of t)) e c t refl is
comes (s ∷ b) t once is e c =
    first_comes (step true true e c (mark_of s)) e c s (b ++ t ∷ []) refl (kind_ends s.kind s.place once.0) (λ f d. comes b t once.1 is f d)

pub map_append : (b : List Token) (t : Token) → marks_of (b ++ t ∷ []) ≡ marks_of b ++ mark_of t ∷ []
map_append [] t = refl
map_append (s ∷ b) t = ap (λ ms. mark_of s ∷ ms) (map_append b t)

pub some_inj : (p q : Reached) → Some p ≡ Some q → p ≡ q
some_inj p q h = cc

pub none_some : (o : Option Reached) (p : Reached) → o ≡ None → o ≡ Some p → ⊥
none_some None p h g = cc
none_some (Some q) p h g = cc
