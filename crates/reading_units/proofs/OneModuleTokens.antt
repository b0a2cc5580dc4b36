-- What the first token of a part tells, and what stands behind it.
use Rattle.std.proofs.Common.{◌≡◌, Bool, true, false, List, [], ◌∷◌, inl, inr, sym, ap, subst, ◌∙◌}
use Rattle.reading_trees.specs.declared.laid.Laid.{Laid}
use Rattle.reading_trees.specs.declared.laid.Laid.TheVariants.{Plain, ListOpen, ListItem, ListClose}
use Rattle.reading_tokens.specs.declared.token.Kind.{Kind}
use Rattle.reading_tokens.specs.declared.token.Kind.TheVariants as kinds
use Rattle.reading_tokens.specs.declared.token.Word.{Word}
use Rattle.reading_tokens.specs.declared.token.Word.TheVariants as words
use Rattle.reading_tokens.specs.declared.token.Foreign.{Foreign}
use Rattle.reading_tokens.specs.declared.token.Foreign.TheVariants as foreign
use Rattle.reading_trees.specs.declared.module.Unit.{Unit as ModuleUnit}
use Rattle.reading_trees.specs.declared.module.Unit.TheVariants as units
use Rattle.reading_trees.specs.Grammar.{some_token}
use Rattle.reading_trees.specs.Modules.{UnitText, UnitsText, variable_word, constant_word, assume_word, theorem_word}
use Rattle.reading_machine.specs.LawsOfTrees.{EndsKind, EndsText}

-- ---- what begins with a token

pub data Form : Type 0 where
  OfVariables : Form
  OfConstants : Form
  OfRecursive : Form
  OfDefinition : Form
  OfAssumption : Form
  OfPassed : Form
  OfEquals : Form
  OfExtends : Form
  OfOther : Form

abbrev word_form : Word → Form
word_form words.Variable = OfVariables
word_form words.Variables = OfVariables
word_form words.Constant = OfConstants
word_form words.Constants = OfConstants
word_form words.Assume = OfAssumption
word_form words.Assumption = OfAssumption
word_form words.Axiom = OfAssumption
word_form words.Theorem = OfPassed
word_form words.Lemma = OfPassed
word_form words.Proposition = OfPassed
word_form words.Corollary = OfPassed
word_form words.Extends = OfExtends
word_form _ = OfOther

abbrev foreign_form : Foreign → Form
foreign_form foreign.Recursive = OfRecursive
foreign_form _ = OfOther

abbrev kind_form : Kind → Form
kind_form (kinds.Name n) = OfDefinition
kind_form (kinds.Word w) = word_form w
kind_form (kinds.Foreign f) = foreign_form f
kind_form kinds.Dashes = OfPassed
kind_form kinds.Equals = OfEquals
kind_form _ = OfOther

abbrev pub form_of : List Laid → Form
form_of (Plain t ∷ xs) = kind_form t.kind
form_of _ = OfOther

abbrev pub unit_form : ModuleUnit → Form
unit_form (units.Variables ds) = OfVariables
unit_form (units.Constants ds) = OfConstants
unit_form (units.Recursive ds) = OfRecursive
unit_form (units.Define d) = OfDefinition
unit_form (units.Instance m) = OfDefinition
unit_form (units.Assume e) = OfAssumption
unit_form units.Passed = OfPassed

-- equals signs stand behind the last unit
abbrev pub units_form : List ModuleUnit → Form
units_form [] = OfEquals
units_form (u ∷ us) = unit_form u

-- a unit begins, or equals signs
abbrev pub IsOfUnits : Form → Type 0
IsOfUnits OfExtends = ⊥
IsOfUnits OfOther = ⊥
IsOfUnits _ = Unit {0}

-- a unit begins there, or equals signs stand there
abbrev pub UnitEnds : List Laid → Type 0
UnitEnds xs = IsOfUnits (form_of xs)

-- a token that stands behind an expression and is no part of it
abbrev pub TextEnds : List Laid → Type 0
TextEnds [] = ⊥
TextEnds (x ∷ xs) = EndsText x

kind_ends : (k : Kind) → IsOfUnits (kind_form k) → EndsKind k
kind_ends (kinds.Name n) h = tt
kind_ends (kinds.Word w) h = tt
kind_ends (kinds.Foreign f) h = tt
kind_ends kinds.Dashes h = tt
kind_ends kinds.Equals h = tt
kind_ends kinds.End h = tt
kind_ends (kinds.Symbol s) h = absurd h
kind_ends _ h = h

pub form_ends : (xs : List Laid) → IsOfUnits (form_of xs) → TextEnds xs
form_ends [] h = h
form_ends (Plain t ∷ xs) h = kind_ends t.kind h
form_ends (ListOpen b at ∷ xs) h = h
form_ends (ListItem b at ∷ xs) h = h
form_ends (ListClose at ∷ xs) h = h

-- ---- what units begin with

pub variable_begins : (xs ys : List Laid) → variable_word xs ys → form_of xs ≡ OfVariables
variable_begins xs ys (inl h) = ap form_of h.1
variable_begins xs ys (inr h) = ap form_of h.1

pub constant_begins : (xs ys : List Laid) → constant_word xs ys → form_of xs ≡ OfConstants
constant_begins xs ys (inl h) = ap form_of h.1
constant_begins xs ys (inr h) = ap form_of h.1

pub assume_begins : (xs ys : List Laid) → assume_word xs ys → form_of xs ≡ OfAssumption
assume_begins xs ys (inl h) = ap form_of h.1
assume_begins xs ys (inr (inl h)) = ap form_of h.1
assume_begins xs ys (inr (inr h)) = ap form_of h.1

pub theorem_begins : (xs ys : List Laid) → theorem_word xs ys → form_of xs ≡ OfPassed
theorem_begins xs ys (inl (inl h)) = ap form_of h.1
theorem_begins xs ys (inl (inr h)) = ap form_of h.1
theorem_begins xs ys (inr (inl h)) = ap form_of h.1
theorem_begins xs ys (inr (inr h)) = ap form_of h.1

passed_begins : (xs ys : List Laid) → UnitText units.Passed xs ys → form_of xs ≡ OfPassed
passed_begins xs ys (inl h) = ap form_of h.1
passed_begins xs ys (inr h) = theorem_begins xs h.0 h.1

pub unit_begins : (u : ModuleUnit) (xs ys : List Laid) → UnitText u xs ys → form_of xs ≡ unit_form u
unit_begins (units.Variables ds) xs ys h = variable_begins xs h.0 h.1
unit_begins (units.Constants ds) xs ys h = constant_begins xs h.0 h.1
unit_begins (units.Recursive ds) xs ys h = ap form_of h.1.1
unit_begins (units.Define d) xs ys h = ap form_of h.1
unit_begins (units.Instance m) xs ys h = ap form_of h.1
unit_begins (units.Assume e) xs ys h = assume_begins xs h.0 h.1
unit_begins units.Passed xs ys h = passed_begins xs ys h

pub units_begin : (us : List ModuleUnit) (xs ys : List Laid) → UnitsText us xs ys → form_of ys ≡ OfEquals → form_of xs ≡ units_form us
units_begin [] xs ys h q = ap form_of h ∙ q
units_begin (u ∷ us) xs ys h q = unit_begins u xs h.0 h.1

pub form_of_unit : (u : ModuleUnit) → IsOfUnits (unit_form u)
form_of_unit (units.Variables ds) = tt
form_of_unit (units.Constants ds) = tt
form_of_unit (units.Recursive ds) = tt
form_of_unit (units.Define d) = tt
form_of_unit (units.Instance m) = tt
form_of_unit (units.Assume e) = tt
form_of_unit units.Passed = tt

form_of_units : (us : List ModuleUnit) → IsOfUnits (units_form us)
form_of_units [] = tt
form_of_units (u ∷ us) = form_of_unit u

-- units, and equals signs behind them, begin with a token of such a form
pub units_are : (us : List ModuleUnit) (xs ys : List Laid) → UnitsText us xs ys → form_of ys ≡ OfEquals → IsOfUnits (form_of xs)
units_are us xs ys h q = subst IsOfUnits (sym (units_begin us xs ys h q)) (form_of_units us)

-- ---- behind the first token

abbrev pub tail_of : List Laid → List Laid
tail_of [] = []
tail_of (x ∷ xs) = xs

pub some_behind : (k : Kind) (ws xs ys zs : List Laid) → ws ≡ xs → some_token k ws ys → some_token k xs zs → ys ≡ zs
some_behind k ws xs ys zs q h g = ap tail_of (sym h.1 ∙ q ∙ g.1)

variable_tail : (xs ys : List Laid) → variable_word xs ys → tail_of xs ≡ ys
variable_tail xs ys (inl h) = ap tail_of h.1
variable_tail xs ys (inr h) = ap tail_of h.1

pub variable_behind : (xs ys zs : List Laid) → variable_word xs ys → variable_word xs zs → ys ≡ zs
variable_behind xs ys zs h g = sym (variable_tail xs ys h) ∙ variable_tail xs zs g

constant_tail : (xs ys : List Laid) → constant_word xs ys → tail_of xs ≡ ys
constant_tail xs ys (inl h) = ap tail_of h.1
constant_tail xs ys (inr h) = ap tail_of h.1

pub constant_behind : (xs ys zs : List Laid) → constant_word xs ys → constant_word xs zs → ys ≡ zs
constant_behind xs ys zs h g = sym (constant_tail xs ys h) ∙ constant_tail xs zs g

assume_tail : (xs ys : List Laid) → assume_word xs ys → tail_of xs ≡ ys
assume_tail xs ys (inl h) = ap tail_of h.1
assume_tail xs ys (inr (inl h)) = ap tail_of h.1
assume_tail xs ys (inr (inr h)) = ap tail_of h.1

pub assume_behind : (xs ys zs : List Laid) → assume_word xs ys → assume_word xs zs → ys ≡ zs
assume_behind xs ys zs h g = sym (assume_tail xs ys h) ∙ assume_tail xs zs g

theorem_tail : (xs ys : List Laid) → theorem_word xs ys → tail_of xs ≡ ys
theorem_tail xs ys (inl (inl h)) = ap tail_of h.1
theorem_tail xs ys (inl (inr h)) = ap tail_of h.1
theorem_tail xs ys (inr (inl h)) = ap tail_of h.1
theorem_tail xs ys (inr (inr h)) = ap tail_of h.1

pub theorem_behind : (xs ys zs : List Laid) → theorem_word xs ys → theorem_word xs zs → ys ≡ zs
theorem_behind xs ys zs h g = sym (theorem_tail xs ys h) ∙ theorem_tail xs zs g

-- ---- dashes are no theorem

abbrev is_dashes_kind : Kind → Bool
is_dashes_kind kinds.Dashes = true
is_dashes_kind _ = false

abbrev is_dashes : List Laid → Bool
is_dashes (Plain t ∷ xs) = is_dashes_kind t.kind
is_dashes _ = false

theorem_other : (xs ys : List Laid) → theorem_word xs ys → is_dashes xs ≡ false
theorem_other xs ys (inl (inl h)) = ap is_dashes h.1
theorem_other xs ys (inl (inr h)) = ap is_dashes h.1
theorem_other xs ys (inr (inl h)) = ap is_dashes h.1
theorem_other xs ys (inr (inr h)) = ap is_dashes h.1

pub dashes_no_theorem : (xs ys zs : List Laid) → some_token kinds.Dashes xs ys → theorem_word xs zs → ⊥
dashes_no_theorem xs ys zs h g = let q : true ≡ false = sym (ap is_dashes h.1) ∙ theorem_other xs zs g in cc
