-- What a configuration that is accepted gives: values that each literal has, and a behaviour in one form.
use Rattle.std.proofs.Common.{◌≡◌, ◌⊎◌, inl, inr, ℕ, true, false, ◌&&◌, cond, List, Option, Some, None, Ok, Err, refl, subst, sym}
use Rattle.std.specs.Prelude.{not, is_some}
use Rattle.reading_trees.specs.declared.config.Config.{Config}
use Rattle.reading_trees.specs.declared.config.Given.{Given}
use Rattle.reading_trees.specs.declared.config.Given.TheVariants.{Constant, Replaced}
use Rattle.reading_trees.specs.Literals.{lit_of}
use Rattle.reading_tokens.specs.declared.token.Token.{Token}
use Rattle.reading_tokens.specs.Tokens as lexer
use Rattle.reading_configuration.specs.Limits.{IsWithinLimits}
use Rattle.reading_configuration.specs.Reads.{OfLexed, OfTokens, Outcome}
use Rattle.names_tables.specs.Values.{IsSpelled}
use Rattle.names_resolving.specs.Resolved.{IsOneForm}
use Rattle.reading_wide_configuration.specs.Laws.{GivensAreWithinLimits}
use Rattle.reading_wide_configuration.specs.Passed.{remaining, told}
use Rattle.reading_wide_configuration.specs.Wide.{OfLexedWide, OfRemaining, OfTokensWide, as_they_remain, as_they_stand, with_told}
use Rattle.names_load_laws.specs.Loaded.{ConfigurationsAreSpelled, ConfigurationsHaveOneForm, PlainIsSpelled, PlainHasOneForm}
use Rattle.names_load_laws.proofs.Spelled.{value_there}

given_spelled : (g : Given) → IsWithinLimits g → IsSpelled (Some g)
given_spelled (Constant l) h = value_there (lit_of l) h.0 h.1
given_spelled (Replaced name at) h = tt

pub are_spelled : GivensAreWithinLimits → ConfigurationsAreSpelled
are_spelled within wide file name text c r = λ k g e. given_spelled g.given (within wide file name text c r k g e)

abbrev OneForm : Option (List ℕ) → Option (List ℕ) → Option (List ℕ) → Type 0
OneForm s i n = ((m : List ℕ) × (s ≡ Some m) × (i ≡ None) × (n ≡ None)) ⊎ ((l m : List ℕ) × (s ≡ None) × (i ≡ Some l) × (n ≡ Some m))

one_form : (s i n : Option (List ℕ)) → cond (is_some s) (not (is_some i) && not (is_some n)) (is_some i && is_some n) ≡ true → OneForm s i n
one_form (Some m) None None e = inl (m, refl, refl, refl)
one_form (Some m) None (Some k) e = cc
one_form (Some m) (Some l) n e = cc
one_form None (Some l) (Some m) e = inr (l, m, refl, refl, refl)
one_form None (Some l) None e = cc
one_form None None n e = cc

lexed_one_form : (name : List ℕ) (c : Config) (o : lexer.Outcome) → OfLexed name o (Ok c) → IsOneForm c
lexed_one_form name c (Ok tokens) g = one_form c.specification c.init c.next g.behaviour
lexed_one_form name c (Err e) g = absurd cc

-- an outcome that is a configuration has one form
abbrev HasForm : Outcome → Type 0
HasForm (Ok c) = IsOneForm c
HasForm (Err f) = Unit {0}

tokens_form : (name : List ℕ) (ts : List Token) (o : Outcome) (lines : List (List ℕ)) → OfTokens name ts o → HasForm (with_told lines o)
tokens_form name ts (Ok c) lines g = one_form c.specification c.init c.next g.behaviour
tokens_form name ts (Err f) lines g = tt

remaining_form : (name : List ℕ) (ts : List Token) (o : Outcome) → OfRemaining name ts o → HasForm o
remaining_form name ts o r = subst HasForm (sym r.with_others) (tokens_form name (remaining ts) r.rest (told ts) r.reads)

wide_form : (name : List ℕ) (ts : List Token) (o : Outcome) → OfTokensWide name ts o → HasForm o
wide_form name ts _ (as_they_stand c g) = one_form c.specification c.init c.next g.behaviour
wide_form name ts o (as_they_remain f _ g r) = remaining_form name ts o r

wide_lexed_form : (name : List ℕ) (c : Config) (o : lexer.Outcome) → OfLexedWide name o (Ok c) → IsOneForm c
wide_lexed_form name c (Ok ts) g = wide_form name ts (Ok c) g
wide_lexed_form name c (Err e) g = absurd cc

pub have_one_form : ConfigurationsHaveOneForm
have_one_form true file name text c r = wide_lexed_form name c r.lexed r.of_lexed
have_one_form false file name text c r = lexed_one_form name c r.lexed r.of_lexed

-- where no configuration is read
pub plain_spelled : PlainIsSpelled
plain_spelled k g e = cc

pub plain_form : PlainHasOneForm
plain_form = inr (_, _, refl, refl, refl)
