-- What marks tell of tokens, and what tokens have marks.
use Rattle.std.proofs.Common.{◌≡◌, ℕ, List, [], ◌∷◌, Option, Some, None, inl, inr, refl, sym, ap, subst, ◌∙◌}
use Rattle.base_core.specs.declared.place.Place.{Place}
use Rattle.reading_trees.specs.declared.laid.Laid.{Laid}
use Rattle.reading_trees.specs.declared.laid.Laid.TheVariants.{Plain, ListOpen, ListItem, ListClose}
use Rattle.reading_tokens.specs.declared.token.Kind.{Kind}
use Rattle.reading_tokens.specs.declared.token.Kind.TheVariants as kinds
use Rattle.reading_tokens.specs.declared.token.Word.{Word}
use Rattle.reading_tokens.specs.declared.token.Word.TheVariants as words
use Rattle.reading_tokens.specs.declared.token.Symbol.{Symbol}
use Rattle.reading_tokens.specs.declared.token.Symbol.TheVariants as symbols
use Rattle.reading_tokens.specs.declared.token.Foreign.{Foreign}
use Rattle.reading_tokens.specs.declared.token.Foreign.TheVariants as foreign
use Rattle.reading_tokens.specs.declared.token.Token.{Token as LaidToken}
use Rattle.reading_machine.specs.LawsOfTrees.{EndsText}
use Rattle.std.specs.Option.{IfSome}
use Rattle.reading_expressions.specs.Refused.{IsRefusedAt}
use Rattle.reading_units.specs.Marks.{word_mark, symbol_mark, foreign_mark, kind_mark, mark_of, first_mark}
use Rattle.reading_expressions.specs.declared.fault.ParseFault.{ParseFault}
use Rattle.reading_units.specs.Reads.{Misses}
use Rattle.reading_units.specs.Rests.{Marked}
use Rattle.reading_units.proofs.RestSteps.{misses}
use Rattle.reading_units.specs.Parts.{IsMark}
use Rattle.reading_units.specs.declared.marks.Mark.{Mark}
use Rattle.reading_units.specs.declared.marks.Mark.TheVariants as marks

-- a token of a kind with such a mark
abbrev pub Tells : Option Mark → Kind → Type 0
Tells None k = Unit {0}
Tells (Some m) k = IsMark m k

word_tells : (w : Word) → Tells (word_mark w) (kinds.Word w)
unfolding word_mark
word_tells words.Module = refl
word_tells words.Extends = refl
word_tells words.Variable = inl refl
word_tells words.Variables = inr refl
word_tells words.Constant = inl refl
word_tells words.Constants = inr refl
word_tells words.Assume = inl refl
word_tells words.Assumption = inr (inl refl)
word_tells words.Axiom = inr (inr refl)
word_tells words.Theorem = inl (inl refl)
word_tells words.Lemma = inl (inr refl)
word_tells words.Proposition = inr (inl refl)
word_tells words.Corollary = inr (inr refl)
word_tells _ = tt

symbol_tells : (s : Symbol) → Tells (symbol_mark s) (kinds.Symbol s)
unfolding symbol_mark
symbol_tells symbols.Comma = refl
symbol_tells symbols.OpenParenthesis = refl
symbol_tells symbols.CloseParenthesis = refl
symbol_tells symbols.Defined = refl
symbol_tells symbols.LeftArrow = refl
symbol_tells _ = tt

foreign_tells : (f : Foreign) → Tells (foreign_mark f) (kinds.Foreign f)
unfolding foreign_mark
foreign_tells foreign.Recursive = refl
foreign_tells foreign.Underscore = refl
foreign_tells foreign.Instance = refl
foreign_tells foreign.With = refl
foreign_tells _ = tt

pub kind_tells : (k : Kind) → Tells (kind_mark k) k
unfolding kind_mark
kind_tells (kinds.Name n) = (n, refl)
kind_tells kinds.Dashes = refl
kind_tells kinds.Equals = refl
kind_tells (kinds.Word w) = word_tells w
kind_tells (kinds.Symbol s) = symbol_tells s
kind_tells (kinds.Foreign f) = foreign_tells f
kind_tells _ = tt

-- a laid token of a mark
abbrev pub TellsLaid : Option Mark → Laid → Type 0
TellsLaid None x = Unit {0}
TellsLaid (Some m) x = (t : LaidToken) × (x ≡ Plain t) × IsMark m t.kind

tells_plain : (m : Option Mark) (t : LaidToken) → Tells m t.kind → TellsLaid m (Plain t)
tells_plain None t h = tt
tells_plain (Some m) t h = (t, refl, h)

tells : (x : Laid) → TellsLaid (mark_of x) x
unfolding mark_of
tells (Plain t) = tells_plain (kind_mark t.kind) t (kind_tells t.kind)
tells (ListOpen b at) = tt
tells (ListItem b at) = tt
tells (ListClose at) = tt

-- what a mark tells
pub told : (m : Mark) (x : Laid) → mark_of x ≡ Some m → (t : LaidToken) × (x ≡ Plain t) × IsMark m t.kind
told m x e = subst (λ v. TellsLaid v x) e (tells x)

-- ---- tokens of units and what ends them

-- a mark of a token that begins a unit, or of equals signs
abbrev pub BeginsUnit : Mark → Type 0
BeginsUnit marks.Comma = ⊥
BeginsUnit marks.OpenParenthesis = ⊥
BeginsUnit marks.CloseParenthesis = ⊥
BeginsUnit marks.Underscore = ⊥
BeginsUnit marks.Defined = ⊥
BeginsUnit marks.Extends = ⊥
BeginsUnit marks.Heading = ⊥
BeginsUnit marks.Instance = ⊥
BeginsUnit marks.With = ⊥
BeginsUnit marks.Arrow = ⊥
BeginsUnit _ = Unit {0}

abbrev EndsIf : Option Mark → Laid → Type 0
EndsIf None x = Unit {0}
EndsIf (Some marks.Comma) x = Unit {0}
EndsIf (Some marks.OpenParenthesis) x = Unit {0}
EndsIf (Some marks.CloseParenthesis) x = Unit {0}
EndsIf (Some marks.Defined) x = Unit {0}
EndsIf (Some marks.Arrow) x = Unit {0}
EndsIf (Some _) x = EndsText x

word_ends : (m : Option Mark) (w : Word) (p : Place) → EndsIf m (Plain (record { kind = kinds.Word w; place = p }))
word_ends None w p = tt
word_ends (Some marks.Comma) w p = tt
word_ends (Some marks.OpenParenthesis) w p = tt
word_ends (Some marks.CloseParenthesis) w p = tt
word_ends (Some marks.Defined) w p = tt
word_ends (Some marks.Arrow) w p = tt
word_ends (Some _) w p = tt

symbol_ends : (s : Symbol) (p : Place) → EndsIf (symbol_mark s) (Plain (record { kind = kinds.Symbol s; place = p }))
unfolding symbol_mark
symbol_ends symbols.Comma p = tt
symbol_ends symbols.OpenParenthesis p = tt
symbol_ends symbols.CloseParenthesis p = tt
symbol_ends symbols.Defined p = tt
symbol_ends symbols.LeftArrow p = tt
symbol_ends _ p = tt

foreign_ends : (m : Option Mark) (f : Foreign) (p : Place) → EndsIf m (Plain (record { kind = kinds.Foreign f; place = p }))
foreign_ends None f p = tt
foreign_ends (Some marks.Comma) f p = tt
foreign_ends (Some marks.OpenParenthesis) f p = tt
foreign_ends (Some marks.CloseParenthesis) f p = tt
foreign_ends (Some marks.Defined) f p = tt
foreign_ends (Some marks.Arrow) f p = tt
foreign_ends (Some _) f p = tt

kind_ends : (k : Kind) (p : Place) → EndsIf (kind_mark k) (Plain (record { kind = k; place = p }))
unfolding kind_mark
kind_ends (kinds.Name n) p = tt
kind_ends kinds.Dashes p = tt
kind_ends kinds.Equals p = tt
kind_ends (kinds.Word w) p = word_ends (word_mark w) w p
kind_ends (kinds.Symbol s) p = symbol_ends s p
kind_ends (kinds.Foreign f) p = foreign_ends (foreign_mark f) f p
kind_ends _ p = tt

laid_ends : (x : Laid) → EndsIf (mark_of x) x
unfolding mark_of
laid_ends (Plain t) = kind_ends t.kind t.place
laid_ends (ListOpen b at) = tt
laid_ends (ListItem b at) = tt
laid_ends (ListClose at) = tt

ends_if : (m : Mark) (x : Laid) → BeginsUnit m → EndsIf (Some m) x → EndsText x
ends_if marks.Comma x b h = absurd b
ends_if marks.OpenParenthesis x b h = absurd b
ends_if marks.CloseParenthesis x b h = absurd b
ends_if marks.Underscore x b h = absurd b
ends_if marks.Defined x b h = absurd b
ends_if marks.Extends x b h = absurd b
ends_if marks.Heading x b h = absurd b
ends_if marks.Instance x b h = absurd b
ends_if marks.With x b h = absurd b
ends_if marks.Arrow x b h = absurd b
ends_if marks.Name x b h = h
ends_if marks.Dashes x b h = h
ends_if marks.Equals x b h = h
ends_if marks.Variables x b h = h
ends_if marks.Constants x b h = h
ends_if marks.Recursive x b h = h
ends_if marks.Assume x b h = h
ends_if marks.Theorem x b h = h

-- a token that begins a unit, and equals signs, end a text
pub mark_ends : (m : Mark) (x : Laid) → BeginsUnit m → mark_of x ≡ Some m → EndsText x
mark_ends m x b e = ends_if m x b (subst (λ v. EndsIf v x) e (laid_ends x))

-- ---- a token of each mark

abbrev some_place : Place
some_place = record { file = 0; line = 0; col = 0 }

abbrev pub plain : Kind → Laid
plain k = Plain (record { kind = k; place = some_place })

abbrev pub kind_with : Mark → Kind
kind_with marks.Name = kinds.Name []
kind_with marks.Dashes = kinds.Dashes
kind_with marks.Equals = kinds.Equals
kind_with marks.Comma = kinds.Symbol symbols.Comma
kind_with marks.OpenParenthesis = kinds.Symbol symbols.OpenParenthesis
kind_with marks.CloseParenthesis = kinds.Symbol symbols.CloseParenthesis
kind_with marks.Underscore = kinds.Foreign foreign.Underscore
kind_with marks.Defined = kinds.Symbol symbols.Defined
kind_with marks.Heading = kinds.Word words.Module
kind_with marks.Extends = kinds.Word words.Extends
kind_with marks.Variables = kinds.Word words.Variable
kind_with marks.Constants = kinds.Word words.Constant
kind_with marks.Recursive = kinds.Foreign foreign.Recursive
kind_with marks.Assume = kinds.Word words.Assume
kind_with marks.Theorem = kinds.Word words.Theorem
kind_with marks.Instance = kinds.Foreign foreign.Instance
kind_with marks.With = kinds.Foreign foreign.With
kind_with marks.Arrow = kinds.Symbol symbols.LeftArrow

pub has_mark : (m : Mark) → mark_of (plain (kind_with m)) ≡ Some m
unfolding mark_of kind_mark word_mark symbol_mark foreign_mark
has_mark marks.Name = refl
has_mark marks.Dashes = refl
has_mark marks.Equals = refl
has_mark marks.Comma = refl
has_mark marks.OpenParenthesis = refl
has_mark marks.CloseParenthesis = refl
has_mark marks.Underscore = refl
has_mark marks.Defined = refl
has_mark marks.Heading = refl
has_mark marks.Extends = refl
has_mark marks.Variables = refl
has_mark marks.Constants = refl
has_mark marks.Recursive = refl
has_mark marks.Assume = refl
has_mark marks.Theorem = refl
has_mark marks.Instance = refl
has_mark marks.With = refl
has_mark marks.Arrow = refl

-- ---- the token at an index

pub marked_at : (xs ys : List Laid) (t : LaidToken) (o : Option Mark) → xs ≡ Plain t ∷ ys → o ≡ kind_mark t.kind → IfSome o (λ m. Marked m xs ys)
unfolding mark_of
marked_at xs ys t None e q = tt
marked_at xs ys t (Some m) e q = subst (λ v. Marked m v ys) (sym e) (sym q, refl)

pub first_told : (xs ys : List Laid) (t : LaidToken) (o : Option Mark) → xs ≡ Plain t ∷ ys → o ≡ kind_mark t.kind → o ≡ first_mark xs
unfolding mark_of
first_told xs ys t o e q = q ∙ ap first_mark (sym e)

-- ---- names

not_name : (k : Kind) → ((n : List ℕ) → k ≡ kinds.Name n → ⊥) → kind_mark k ≡ Some marks.Name → ⊥
not_name k other e = let h = subst (λ o. Tells o k) e (kind_tells k) in other h.0 h.1

pub no_name : (xs ys : List Laid) (t : LaidToken) (e : ParseFault) → xs ≡ Plain t ∷ ys → ((n : List ℕ) → t.kind ≡ kinds.Name n → ⊥) → IsRefusedAt xs e → Misses marks.Name xs e
unfolding mark_of
no_name xs ys t e q other r = misses marks.Name xs e (λ h. not_name t.kind other (sym (ap first_mark q) ∙ h)) r

pub name_marked : (xs ys : List Laid) (t : LaidToken) (n : List ℕ) → xs ≡ Plain t ∷ ys → t.kind ≡ kinds.Name n → Marked marks.Name xs ys
unfolding mark_of kind_mark
name_marked xs ys t n e k = subst (λ v. Marked marks.Name v ys) (sym e) (ap kind_mark k, refl)
