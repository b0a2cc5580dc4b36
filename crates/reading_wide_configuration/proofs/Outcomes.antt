-- The outcome of a text is one, and what was answered is it.
use Rattle.std.proofs.Common.{◌≡◌, true, false, List, ℕ, Result, Ok, Err, sym, subst, ap, ◌∙◌, refl}
use Rattle.base_core.specs.declared.place.Place.{Place}
use Rattle.reading_tokens.specs.declared.token.Token.{Token}
use Rattle.reading_tokens.specs.Tokens.{Tokens}
use Rattle.reading_tokens.specs.Tokens as lexer
use Rattle.reading_trees.specs.declared.config.Config.{Config}
use Rattle.reading_trees.specs.Laid.{EndsOnce}
use Rattle.reading_trees.specs.LexedEnds.{TokensEndOnce}
use Rattle.reading_configuration.specs.declared.fault.ConfigKind.{ConfigKind}
use Rattle.reading_configuration.specs.declared.fault.ConfigFault.{ConfigFault}
use Rattle.reading_configuration.specs.declared.fault.ConfigFault.TheVariants.{Refused, NoMemory}
use Rattle.reading_configuration.specs.Reads as strict
use Rattle.reading_configuration.specs.Reads.{Answers, OfLexed, OfTokens, Outcome}
use Rattle.reading_configuration.proofs.Meets.{some_of_tokens}
use Rattle.reading_configuration.proofs.Only.{one_of_tokens}
use Rattle.reading_wide_configuration.specs.Laws.{OneConfiguration, SomeConfiguration, StrictIsWide}
use Rattle.reading_wide_configuration.specs.Passed.{remaining, told}
use Rattle.reading_wide_configuration.specs.Wide.{OfLexedWide, OfRemaining, OfTokensWide, ReadsWide, also_told, as_they_remain, as_they_stand, with_told}
use Rattle.reading_wide_configuration.proofs.Remaining.{remaining_ends}

not_both : (c : Config) (f : ConfigKind × Place) → ◌≡◌ {A = Outcome} (Ok c) (Err f) → ⊥
not_both c f e = cc

one_remaining : (name : List ℕ) (ts : List Token) (a b : Outcome) → OfRemaining name ts a → OfRemaining name ts b → a ≡ b
one_remaining name ts a b h g = h.with_others ∙ ap (with_told (told ts)) (one_of_tokens name (remaining ts) h.rest g.rest h.reads g.reads) ∙ sym g.with_others

one_wide : (name : List ℕ) (ts : List Token) (a b : Outcome) → OfTokensWide name ts a → OfTokensWide name ts b → a ≡ b
one_wide name ts _ _ (as_they_stand c h) (as_they_stand d g) = one_of_tokens name ts (Ok c) (Ok d) h g
one_wide name ts _ b (as_they_stand c h) (as_they_remain f _ g r) = absurd (not_both c f (one_of_tokens name ts (Ok c) (Err f) h g))
one_wide name ts a _ (as_they_remain f _ g r) (as_they_stand c h) = absurd (not_both c f (one_of_tokens name ts (Ok c) (Err f) h g))
one_wide name ts a b (as_they_remain f _ g r) (as_they_remain e _ h s) = one_remaining name ts a b r s

one_lexed : (name : List ℕ) (l : lexer.Outcome) (a b : Outcome) → OfLexedWide name l a → OfLexedWide name l b → a ≡ b
one_lexed name (Ok ts) a b h g = one_wide name ts a b h g
one_lexed name (Err f) a b h g = h ∙ sym g

pub one_configuration : lexer.OneOutcome → strict.OneConfiguration → OneConfiguration
one_configuration law one true file name text a b h g =
    one_lexed name h.lexed a b h.of_lexed (subst (λ (l : lexer.Outcome). OfLexedWide name l b) (sym (law false file text h.lexed g.lexed h.tokens g.tokens)) g.of_lexed)
one_configuration law one false file name text a b h g = one file name text a b h g

-- ---- some outcome

wide_from : (name : List ℕ) (ts : List Token) (o : Outcome) → EndsOnce ts → OfTokens name ts o → (p : Outcome) × OfTokensWide name ts p
wide_from name ts (Ok c) e h = (Ok c, as_they_stand c h)
wide_from name ts (Err f) e h =
    let r = some_of_tokens name (remaining ts) (remaining_ends ts e) in
    let o = with_told (told ts) r.0 in
    (o, as_they_remain f o h (record { rest = r.0; reads = r.1; with_others = refl }))

some_lexed : (file : ℕ) (name text : List ℕ) (l : lexer.Outcome) → Tokens false file text l → TokensEndOnce → (o : Outcome) × OfLexedWide name l o
some_lexed file name text (Ok ts) h law =
    let e = law false file text ts h in
    let r = some_of_tokens name ts e in
    wide_from name ts r.0 e r.1
some_lexed file name text (Err f) h law = (_, refl)

pub some_configuration : lexer.SomeOutcome → strict.SomeConfiguration → TokensEndOnce → SomeConfiguration
some_configuration law some ends_once true file name text =
    let l = law false file text in
    let o = some_lexed file name text l.0 l.1 ends_once in
    (o.0, record { lexed = l.0; tokens = l.1; of_lexed = o.1 })
some_configuration law some ends_once false file name text = some file name text

-- ---- what is accepted as it stands

stands_lexed : (name : List ℕ) (l : lexer.Outcome) (c : Config) → OfLexed name l (Ok c) → OfLexedWide name l (Ok c)
stands_lexed name (Ok ts) c h = as_they_stand c h
stands_lexed name (Err f) c h = h

pub strict_is_wide : StrictIsWide
strict_is_wide file name text c r = record { lexed = r.lexed; tokens = r.tokens; of_lexed = stands_lexed name r.lexed c r.of_lexed }

-- ---- what was answered

answers_by : (P Q : Outcome → Type 0) (r : Result Config ConfigFault) → ((o : Outcome) → P o → Q o) → Answers P r → Answers Q r
answers_by P Q (Ok config) f h = f _ h
answers_by P Q (Err (Refused kind at)) f h = f _ h
answers_by P Q (Err NoMemory) f h = tt

-- tokens that remain
pub told_remaining : (name : List ℕ) (ts us : List Token) (lines : List (List ℕ)) (c : Config) (r : Result Config ConfigFault) → us ≡ remaining ts → lines ≡ told ts
    → OfTokens name us (Ok c) → Answers (λ o. o ≡ Ok (also_told lines c)) r → Answers (OfRemaining name ts) r
told_remaining name ts us lines c r left are h g =
    answers_by (λ o. o ≡ Ok (also_told lines c)) (OfRemaining name ts) r
    (λ o e. record {
      rest = Ok c;
      reads = subst (λ (vs : List Token). OfTokens name vs (Ok c)) left h;
      with_others = e ∙ ap (λ (ls : List (List ℕ)). with_told ls (Ok c)) are;
    }) g

pub refused_remaining : (name : List ℕ) (ts us : List Token) (f : ConfigFault) → us ≡ remaining ts → Answers (OfTokens name us) (Err f) → Answers (OfRemaining name ts) (Err f)
refused_remaining name ts us (Refused kind at) left h =
    record { rest = Err (kind, at); reads = subst (λ (vs : List Token). OfTokens name vs (Err (kind, at))) left h; with_others = refl }
refused_remaining name ts us NoMemory left h = tt

-- tokens that are refused as they stand
pub refused_as : (name : List ℕ) (ts : List Token) (r : Result Config ConfigFault) (kind : ConfigKind) (at : Place) → r ≡ Err (Refused kind at)
    → Answers (OfTokens name ts) r → OfTokens name ts (Err (kind, at))
refused_as name ts r kind at e h = let there : Answers (OfTokens name ts) (Err (Refused kind at)) = subst (Answers (OfTokens name ts)) e h in there

pub answered_remaining : (name : List ℕ) (ts : List Token) (f : ConfigKind × Place) (r : Result Config ConfigFault) → OfTokens name ts (Err f)
    → Answers (OfRemaining name ts) r → Answers (OfTokensWide name ts) r
answered_remaining name ts f r h g = answers_by (OfRemaining name ts) (OfTokensWide name ts) r (λ o x. as_they_remain f o h x) g

-- the tokens of a text
pub answered_wide : (file : ℕ) (name text : List ℕ) (ts us : List Token) (r : Result Config ConfigFault) → us ≡ ts → Tokens false file text (Ok ts)
    → Answers (OfTokensWide name us) r → Answers (ReadsWide file name text) r
answered_wide file name text ts us r same lexed h =
    answers_by (OfTokensWide name us) (ReadsWide file name text) r
    (λ o x. record { lexed = Ok ts; tokens = lexed; of_lexed = subst (λ (vs : List Token). OfTokensWide name vs o) same x }) h
