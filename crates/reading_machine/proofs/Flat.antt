-- The reader without trees, places and operators: whether a token can follow hangs on no more than this.
use Rattle.std.specs.Prelude.{ℕ, Bool, true, false, ◌||◌, if◌then◌else◌, List, [], ◌∷◌, Option, Some, None, nat_eq}
use Rattle.std.specs.Cmp.Lexicographic.{pointwise}
use Rattle.reading_trees.specs.declared.laid.Bullet.{Bullet}
use Rattle.reading_trees.specs.declared.laid.Laid.{Laid}
use Rattle.reading_trees.specs.declared.laid.Laid.TheVariants.{Plain, ListOpen, ListItem, ListClose}
use Rattle.reading_tokens.specs.declared.token.Kind.{Kind}
use Rattle.reading_tokens.specs.declared.token.Kind.TheVariants as kinds
use Rattle.reading_tokens.specs.declared.token.Word.{Word}
use Rattle.reading_tokens.specs.declared.token.Word.TheVariants as words
use Rattle.reading_tokens.specs.declared.token.Symbol.{Symbol}
use Rattle.reading_tokens.specs.declared.token.Symbol.TheVariants as symbols
use Rattle.reading_trees.specs.declared.operators.InfixOperator.{InfixOperator}
use Rattle.reading_machine.specs.declared.frame.RecordKind.{RecordKind}
use Rattle.reading_machine.specs.declared.frame.RecordKind.TheVariants as records
use Rattle.reading_machine.specs.Machine.{infix_of_symbol, same_bullet, is_case_mark, is_other}

-- what binds names
pub data Binds : Type 0 where
  ByQuantifier : Binds
  ByFunction : Binds
  ByMap : Binds
  ByDefinition : Binds

-- A frame. Braces and a tuple know whether something stands before the expression, a record knows its names; Rest is a row that ends
-- where its last expression does.
pub data Row : Type 0 where
  Parenthesis : Row
  Call : Row
  Junction : Bullet → Row
  Index : Row
  Braces : Bool → Row
  MaybeFilter : Row
  FilterTest : Row
  Tuple : Bool → Row
  Bracket : Row
  MaybeFunction : Row
  FunctionBody : Row
  FunctionRange : Row
  Record : RecordKind → List (List ℕ) → Row
  BoundSet : Binds → Row
  ExceptIndex : Row
  ExceptValue : Row
  ChooseSet : Row
  IfTest : Row
  IfThen : Row
  CaseTest : Row
  CaseValue : Row
  Definition : Row
  Rest : Row
  Subscript : Row
  FairSubscript : Row
  FairBody : Row

-- A primary: a name, a qualified name without arguments, or another.
pub data Primary : Type 0 where
  Bare : Primary
  Marked : Primary
  Other : Primary

-- What is expected. Have knows which primary it is, ExceptPath whether it has a step.
pub data Expected : Type 0 where
  Want : Expected
  Have : Primary → Expected
  BoundName : Binds → Expected
  BoundNamed : Binds → Expected
  BracketStart : Expected
  BracketName : List ℕ → Expected
  BraceStart : Expected
  BraceName : Expected
  TupleStart : Expected
  ListStart : Bullet → Expected
  ChooseName : Expected
  ChooseNamed : Expected
  DefinitionName : Expected
  DefinitionNamed : Expected
  Parameter : Expected
  ParameterNamed : Expected
  DefinedAs : Expected
  ExceptMark : Expected
  ExceptPath : Bool → Expected
  ExceptField : Expected
  FieldName : Expected
  InstanceName : Expected
  RecordName : RecordKind → List (List ℕ) → Expected
  RecordNamed : RecordKind → List (List ℕ) → List ℕ → Expected
  SubscriptStart : Expected
  FairStart : Expected
  FairOpen : Expected
  CaseNext : Expected
  OtherArrow : Expected

pub data Done : Type 0 where
  Reads : List Row → Expected → Done
  Stops : Done
  Ends : Done

abbrev pub want : List Row → Done
want fs = Reads fs Want

abbrev pub has_name : List ℕ → List (List ℕ) → Bool
has_name n [] = false
has_name n (m ∷ ms) = has_name n ms || pointwise nat_eq n m

-- a name, a tuple or an expression in parentheses has ended
abbrev pub deliver : List Row → Done
deliver (Subscript ∷ fs) = Reads fs (Have Other)
deliver (FairSubscript ∷ fs) = Reads fs FairOpen
deliver fs = Reads fs (Have Other)

-- ---- where an expression is expected

abbrev pub word_begins : Word → List Row → Done
word_begins words.True fs = Reads fs (Have Other)
word_begins words.False fs = Reads fs (Have Other)
word_begins words.Boolean fs = Reads fs (Have Other)
word_begins words.String fs = Reads fs (Have Other)
word_begins words.Unchanged fs = want fs
word_begins words.Enabled fs = want fs
word_begins words.Subset fs = want fs
word_begins words.Union fs = want fs
word_begins words.Domain fs = want fs
word_begins words.Choose fs = Reads fs ChooseName
word_begins words.If fs = want (IfTest ∷ fs)
word_begins words.Case fs = want (CaseTest ∷ fs)
word_begins words.Let fs = Reads fs DefinitionName
word_begins _ fs = Stops

abbrev pub symbol_begins : Symbol → List Row → Done
symbol_begins symbols.At fs = Reads fs (Have Other)
symbol_begins symbols.OpenParenthesis fs = want (Parenthesis ∷ fs)
symbol_begins symbols.OpenBracket fs = Reads fs BracketStart
symbol_begins symbols.OpenBrace fs = Reads fs BraceStart
symbol_begins symbols.OpenTuple fs = Reads fs TupleStart
symbol_begins symbols.Not fs = want fs
symbol_begins symbols.Always fs = want fs
symbol_begins symbols.Eventually fs = want fs
symbol_begins symbols.Minus fs = want fs
symbol_begins symbols.ForAll fs = Reads fs (BoundName ByQuantifier)
symbol_begins symbols.Exists fs = Reads fs (BoundName ByQuantifier)
symbol_begins _ fs = Stops

abbrev pub kind_begins : Kind → List Row → Done
kind_begins (kinds.Name n) fs = Reads fs (Have Bare)
kind_begins (kinds.Number z) fs = Reads fs (Have Other)
kind_begins (kinds.Str s) fs = Reads fs (Have Other)
kind_begins kinds.Fair fs = Reads fs FairStart
kind_begins (kinds.Word w) fs = word_begins w fs
kind_begins (kinds.Symbol s) fs = symbol_begins s fs
kind_begins _ fs = Stops

abbrev pub begins : Laid → List Row → Done
begins (Plain t) fs = kind_begins t.kind fs
begins (ListOpen b at) fs = Reads fs (ListStart b)
begins (ListItem b at) fs = Stops
begins (ListClose at) fs = Stops

-- ---- behind a primary

abbrev pub settle : Bool → List Row → List Row
settle case [] = []
settle case (Rest ∷ fs) = settle case fs
settle case (CaseValue ∷ fs) = if case then CaseValue ∷ fs else settle case fs
settle case (f ∷ fs) = f ∷ fs

abbrev pub braces_close : Symbol → Bool → List Row → Done
braces_close symbols.Comma more fs = want (Braces true ∷ fs)
braces_close symbols.CloseBrace more fs = Reads fs (Have Other)
braces_close symbols.Colon false fs = Reads fs (BoundName ByMap)
braces_close _ more fs = Stops

abbrev pub bracket_close : Symbol → List Row → Done
bracket_close symbols.Arrow fs = want (FunctionRange ∷ fs)
bracket_close symbols.CloseBracketSubscript fs = Reads fs SubscriptStart
bracket_close _ fs = Stops

abbrev pub filter_close : Symbol → List Row → Done
filter_close symbols.Colon fs = want (FilterTest ∷ fs)
filter_close symbols.Comma fs = want (Braces true ∷ fs)
filter_close symbols.CloseBrace fs = Reads fs (Have Other)
filter_close _ fs = Stops

abbrev pub function_close : Symbol → List Row → Done
function_close symbols.Comma fs = Reads fs (BoundName ByFunction)
function_close symbols.MapsTo fs = want (FunctionBody ∷ fs)
function_close symbols.Arrow fs = want (FunctionRange ∷ fs)
function_close symbols.CloseBracketSubscript fs = Reads fs SubscriptStart
function_close _ fs = Stops

abbrev pub is_subscript : List Row → Bool
is_subscript (Subscript ∷ fs) = true
is_subscript (FairSubscript ∷ fs) = true
is_subscript _ = false

abbrev pub tuple_close : Symbol → Bool → List Row → Done
tuple_close symbols.Comma more fs = want (Tuple true ∷ fs)
tuple_close symbols.CloseTuple more fs = deliver fs
tuple_close symbols.CloseTupleSubscript false fs = if is_subscript fs then Stops else Reads fs SubscriptStart
tuple_close _ more fs = Stops

abbrev pub binder_close : Symbol → Binds → List Row → Done
binder_close symbols.Colon ByQuantifier fs = want (Rest ∷ fs)
binder_close symbols.MapsTo ByFunction fs = want (FunctionBody ∷ fs)
binder_close symbols.CloseBrace ByMap fs = Reads fs (Have Other)
binder_close symbols.CloseBracket ByDefinition fs = Reads fs DefinedAs
binder_close _ b fs = Stops

abbrev pub bound_close : Symbol → Binds → List Row → Done
bound_close symbols.Comma b fs = Reads fs (BoundName b)
bound_close s b fs = binder_close s b fs

abbrev pub comma_parenthesis : Symbol → Done → Done → Done
comma_parenthesis symbols.Comma more done = more
comma_parenthesis symbols.CloseParenthesis more done = done
comma_parenthesis _ more done = Stops

abbrev pub comma_bracket : Symbol → Done → Done → Done
comma_bracket symbols.Comma more done = more
comma_bracket symbols.CloseBracket more done = done
comma_bracket _ more done = Stops

abbrev pub at_parenthesis : Symbol → Done → Done
at_parenthesis symbols.CloseParenthesis done = done
at_parenthesis _ done = Stops

abbrev pub at_bracket : Symbol → Done → Done
at_bracket symbols.CloseBracket done = done
at_bracket _ done = Stops

abbrev pub at_brace : Symbol → Done → Done
at_brace symbols.CloseBrace done = done
at_brace _ done = Stops

abbrev pub at_colon : Symbol → Done → Done
at_colon symbols.Colon done = done
at_colon _ done = Stops

abbrev pub at_arrow : Symbol → Done → Done
at_arrow symbols.Arrow done = done
at_arrow _ done = Stops

abbrev pub at_always : Symbol → Done → Done
at_always symbols.Always done = done
at_always _ done = Stops

abbrev pub symbol_closes : Symbol → Row → List Row → Done
symbol_closes s Parenthesis fs = at_parenthesis s (deliver fs)
symbol_closes s Call fs = comma_parenthesis s (want (Call ∷ fs)) (Reads fs (Have Other))
symbol_closes s Index fs = comma_bracket s (want (Index ∷ fs)) (Reads fs (Have Other))
symbol_closes s (Braces more) fs = braces_close s more fs
symbol_closes s MaybeFilter fs = filter_close s fs
symbol_closes s FilterTest fs = at_brace s (Reads fs (Have Other))
symbol_closes s (Tuple more) fs = tuple_close s more fs
symbol_closes s Bracket fs = bracket_close s fs
symbol_closes s MaybeFunction fs = function_close s fs
symbol_closes s FunctionBody fs = at_bracket s (Reads fs (Have Other))
symbol_closes s FunctionRange fs = at_bracket s (Reads fs (Have Other))
symbol_closes s (Record k ns) fs = comma_bracket s (Reads fs (RecordName k ns)) (Reads fs (Have Other))
symbol_closes s (BoundSet b) fs = bound_close s b fs
symbol_closes s ExceptIndex fs = comma_bracket s (want (ExceptIndex ∷ fs)) (Reads fs (ExceptPath true))
symbol_closes s ExceptValue fs = comma_bracket s (Reads fs ExceptMark) (Reads fs (Have Other))
symbol_closes s ChooseSet fs = at_colon s (want (Rest ∷ fs))
symbol_closes s CaseTest fs = at_arrow s (want (CaseValue ∷ fs))
symbol_closes s CaseValue fs = at_always s (Reads fs CaseNext)
symbol_closes s FairBody fs = at_parenthesis s (Reads fs (Have Other))
symbol_closes s f fs = Stops

abbrev pub word_closes : Word → Row → List Row → Done
word_closes words.Then IfTest fs = want (IfThen ∷ fs)
word_closes words.Else IfThen fs = want (Rest ∷ fs)
word_closes words.Except Bracket fs = Reads fs ExceptMark
word_closes words.Except MaybeFunction fs = Reads fs ExceptMark
word_closes words.In Definition fs = want (Rest ∷ fs)
word_closes w f fs = Stops

abbrev pub name_closes : Row → List Row → Done
name_closes Definition fs = Reads fs DefinitionNamed
name_closes f fs = Stops

abbrev pub item_closes : Bullet → Row → List Row → Done
item_closes c (Junction b) fs = if same_bullet b c then want (Junction b ∷ fs) else Stops
item_closes c f fs = Stops

abbrev pub list_closes : Row → List Row → Done
list_closes (Junction b) fs = Reads fs (Have Other)
list_closes f fs = Stops

abbrev pub kind_closes : Kind → Row → List Row → Done
kind_closes (kinds.Symbol s) f fs = symbol_closes s f fs
kind_closes (kinds.Word w) f fs = word_closes w f fs
kind_closes (kinds.Name m) f fs = name_closes f fs
kind_closes _ f fs = Stops

abbrev pub laid_closes : Laid → Row → List Row → Done
laid_closes (Plain t) f fs = kind_closes t.kind f fs
laid_closes (ListOpen b at) f fs = Stops
laid_closes (ListItem b at) f fs = item_closes b f fs
laid_closes (ListClose at) f fs = list_closes f fs

abbrev pub closes : Laid → List Row → Done
closes x [] = Ends
closes x (f ∷ fs) = laid_closes x f fs

abbrev pub behind : Laid → List Row → Done
behind x fs = closes x (settle (is_case_mark x) fs)

abbrev pub instance_step : Primary → List Row → Done
instance_step Bare fs = Reads fs InstanceName
instance_step _ fs = Stops

abbrev pub call_step : Primary → List Row → Done
call_step Other fs = Stops
call_step _ fs = want (Call ∷ fs)

-- every infix operator can follow
abbrev pub infix_or : Option InfixOperator → List Row → Done → Done
infix_or (Some q) fs other = want fs
infix_or None fs other = other

abbrev pub symbol_follows : Symbol → Primary → List Row → Done → Done
symbol_follows symbols.Prime primary fs other = Reads fs (Have Other)
symbol_follows symbols.OpenBracket primary fs other = want (Index ∷ fs)
symbol_follows symbols.Dot primary fs other = Reads fs FieldName
symbol_follows symbols.OpenParenthesis primary fs other = call_step primary fs
symbol_follows symbols.Exclamation primary fs other = instance_step primary fs
symbol_follows s primary fs other = infix_or (infix_of_symbol s) fs other

abbrev pub kind_follows : Kind → Primary → List Row → Done → Done
kind_follows (kinds.Symbol s) primary fs other = symbol_follows s primary fs other
kind_follows k primary fs other = other

abbrev pub follows : Laid → Primary → List Row → Done
follows (Plain t) primary fs = kind_follows t.kind primary fs (behind (Plain t) fs)
follows x primary fs = behind x fs

-- ---- all

abbrev pub name_or : Kind → (List ℕ → Done) → Done → Done
name_or (kinds.Name n) next other = next n
name_or _ next other = other

abbrev pub on_name : Laid → (List ℕ → Done) → Done → Done
on_name (Plain t) next other = name_or t.kind next other
on_name _ next other = other

abbrev pub symbol_or : Kind → (Symbol → Done) → Done → Done
symbol_or (kinds.Symbol s) next other = next s
symbol_or _ next other = other

abbrev pub on_symbol : Laid → (Symbol → Done) → Done → Done
on_symbol (Plain t) next other = symbol_or t.kind next other
on_symbol _ next other = other

abbrev pub bound_named : Binds → List Row → Symbol → Done
bound_named b fs symbols.Comma = Reads fs (BoundName b)
bound_named b fs symbols.Member = want (BoundSet b ∷ fs)
bound_named b fs _ = Stops

abbrev pub bracket_named : Laid → List ℕ → List Row → Symbol → Done
bracket_named x n fs symbols.MapsTo = want (Record records.Record (n ∷ []) ∷ fs)
bracket_named x n fs symbols.Colon = want (Record records.Set (n ∷ []) ∷ fs)
bracket_named x n fs symbols.Comma = Reads fs (BoundName ByFunction)
bracket_named x n fs symbols.Member = want (MaybeFunction ∷ fs)
bracket_named x n fs s = follows x Bare (Bracket ∷ fs)

abbrev pub brace_started : Laid → List Row → Symbol → Done
brace_started x fs symbols.CloseBrace = Reads fs (Have Other)
brace_started x fs s = begins x (Braces false ∷ fs)

abbrev pub brace_named : Laid → List Row → Symbol → Done
brace_named x fs symbols.Member = want (MaybeFilter ∷ fs)
brace_named x fs s = follows x Bare (Braces false ∷ fs)

abbrev pub tuple_started : Laid → List Row → Symbol → Done
tuple_started x fs symbols.CloseTuple = deliver fs
tuple_started x fs s = begins x (Tuple false ∷ fs)

abbrev pub list_started : Laid → Bullet → List Row → Done
list_started (ListItem c p) b fs = if same_bullet b c then want (Junction b ∷ fs) else Stops
list_started _ b fs = Stops

abbrev pub choose_named : List Row → Symbol → Done
choose_named fs symbols.Member = want (ChooseSet ∷ fs)
choose_named fs _ = Stops

abbrev pub definition_named : List Row → Symbol → Done
definition_named fs symbols.Defined = want (Definition ∷ fs)
definition_named fs symbols.OpenParenthesis = Reads fs Parameter
definition_named fs symbols.OpenBracket = Reads fs (BoundName ByDefinition)
definition_named fs _ = Stops

abbrev pub parameter_named : List Row → Symbol → Done
parameter_named fs symbols.Comma = Reads fs Parameter
parameter_named fs symbols.CloseParenthesis = Reads fs DefinedAs
parameter_named fs _ = Stops

abbrev pub defined_as : List Row → Symbol → Done
defined_as fs symbols.Defined = want (Definition ∷ fs)
defined_as fs _ = Stops

abbrev pub except_mark : List Row → Symbol → Done
except_mark fs symbols.Exclamation = Reads fs (ExceptPath false)
except_mark fs _ = Stops

abbrev pub path_ends : Bool → List Row → Done
path_ends false fs = Stops
path_ends true fs = want (ExceptValue ∷ fs)

abbrev pub except_path : Bool → List Row → Symbol → Done
except_path more fs symbols.OpenBracket = want (ExceptIndex ∷ fs)
except_path more fs symbols.Dot = Reads fs ExceptField
except_path more fs symbols.Equal = path_ends more fs
except_path more fs _ = Stops

abbrev pub record_name : RecordKind → List (List ℕ) → List Row → List ℕ → Done
record_name k ns fs n = if has_name n ns then Stops else Reads fs (RecordNamed k ns n)

abbrev pub record_named : RecordKind → List (List ℕ) → List ℕ → List Row → Symbol → Done
record_named records.Record ns n fs symbols.MapsTo = want (Record records.Record (n ∷ ns) ∷ fs)
record_named records.Set ns n fs symbols.Colon = want (Record records.Set (n ∷ ns) ∷ fs)
record_named k ns n fs _ = Stops

abbrev pub subscript_symbol : List Row → Symbol → Done
subscript_symbol fs symbols.OpenParenthesis = want (Parenthesis ∷ fs)
subscript_symbol fs symbols.OpenTuple = Reads fs TupleStart
subscript_symbol fs _ = Stops

abbrev pub subscript_started : Laid → List Row → Done
subscript_started x fs = on_name x (λ n. deliver fs) (on_symbol x (λ s. subscript_symbol fs s) Stops)

abbrev pub fair_opened : List Row → Symbol → Done
fair_opened fs symbols.OpenParenthesis = want (FairBody ∷ fs)
fair_opened fs _ = Stops

abbrev pub case_next : Laid → List Row → Done
case_next (Plain t) fs = if is_other t.kind then Reads fs OtherArrow else begins (Plain t) (CaseTest ∷ fs)
case_next x fs = begins x (CaseTest ∷ fs)

abbrev pub other_arrow : List Row → Symbol → Done
other_arrow fs symbols.Arrow = want (Rest ∷ fs)
other_arrow fs _ = Stops

abbrev pub step : Laid → List Row → Expected → Done
step x fs Want = begins x fs
step x fs (Have primary) = follows x primary fs
step x fs (BoundName b) = on_name x (λ n. Reads fs (BoundNamed b)) Stops
step x fs (BoundNamed b) = on_symbol x (λ s. bound_named b fs s) Stops
step x fs BracketStart = on_name x (λ n. Reads fs (BracketName n)) (begins x (Bracket ∷ fs))
step x fs (BracketName n) = on_symbol x (λ s. bracket_named x n fs s) (follows x Bare (Bracket ∷ fs))
step x fs BraceStart = on_name x (λ n. Reads fs BraceName) (on_symbol x (λ s. brace_started x fs s) (begins x (Braces false ∷ fs)))
step x fs BraceName = on_symbol x (λ s. brace_named x fs s) (follows x Bare (Braces false ∷ fs))
step x fs TupleStart = on_symbol x (λ s. tuple_started x fs s) (begins x (Tuple false ∷ fs))
step x fs (ListStart b) = list_started x b fs
step x fs ChooseName = on_name x (λ n. Reads fs ChooseNamed) Stops
step x fs ChooseNamed = on_symbol x (λ s. choose_named fs s) Stops
step x fs DefinitionName = on_name x (λ n. Reads fs DefinitionNamed) Stops
step x fs DefinitionNamed = on_symbol x (λ s. definition_named fs s) Stops
step x fs Parameter = on_name x (λ n. Reads fs ParameterNamed) Stops
step x fs ParameterNamed = on_symbol x (λ s. parameter_named fs s) Stops
step x fs DefinedAs = on_symbol x (λ s. defined_as fs s) Stops
step x fs ExceptMark = on_symbol x (λ s. except_mark fs s) Stops
step x fs (ExceptPath more) = on_symbol x (λ s. except_path more fs s) Stops
step x fs ExceptField = on_name x (λ n. Reads fs (ExceptPath true)) Stops
step x fs FieldName = on_name x (λ n. Reads fs (Have Other)) Stops
step x fs InstanceName = on_name x (λ n. Reads fs (Have Marked)) Stops
step x fs (RecordName k ns) = on_name x (λ n. record_name k ns fs n) Stops
step x fs (RecordNamed k ns n) = on_symbol x (λ s. record_named k ns n fs s) Stops
step x fs SubscriptStart = subscript_started x (Subscript ∷ fs)
step x fs FairStart = subscript_started x (FairSubscript ∷ fs)
step x fs FairOpen = on_symbol x (λ s. fair_opened fs s) Stops
step x fs CaseNext = case_next x fs
step x fs OtherArrow = on_symbol x (λ s. other_arrow fs s) Stops

pub data Result : Type 0 where
  StopsAt : List Laid → Result
  EndsAt : List Laid → Result

abbrev pub after : Done → List Laid → (List Row → Expected → Result) → Result
after (Reads fs m) here next = next fs m
after Stops here next = StopsAt here
after Ends here next = EndsAt here

abbrev pub run : List Laid → List Row → Expected → Result
run [] fs m = StopsAt []
run (x ∷ xs) fs m = after (step x fs m) (x ∷ xs) (run xs)
