-- Parts of a module that are some laid tokens, whatever stands behind them.
use Rattle.std.proofs.Common.{◌≡◌, ℕ, zero, suc, List, [], ◌∷◌, ◌++◌, append_assoc, inl, inr, refl, sym, ap, subst, ◌∙◌}
use Rattle.std.proofs.lemmas.List.{append-nil, append_cancel_right}
use Rattle.base_core.specs.declared.place.Place.{Place}
use Rattle.reading_trees.specs.declared.laid.Laid.{Laid}
use Rattle.reading_trees.specs.declared.laid.Laid.TheVariants.{Plain}
use Rattle.reading_trees.specs.declared.expr.Definition.{Definition as UnitDefinition}
use Rattle.reading_trees.specs.declared.module.Declared.{Declared}
use Rattle.reading_trees.specs.declared.module.DeclaredOperator.{DeclaredOperator}
use Rattle.reading_trees.specs.declared.module.With.{With}
use Rattle.reading_trees.specs.declared.module.Made.{Made}
use Rattle.reading_trees.specs.declared.module.Unit.TheVariants as units
use Rattle.reading_tokens.specs.declared.token.Kind.{Kind}
use Rattle.reading_tokens.specs.declared.token.Kind.TheVariants as kinds
use Rattle.reading_tokens.specs.declared.token.Word.TheVariants as words
use Rattle.reading_tokens.specs.declared.token.Symbol.TheVariants as symbols
use Rattle.reading_tokens.specs.declared.token.Foreign.TheVariants as foreign
use Rattle.reading_trees.specs.Trees.{Tree}
use Rattle.reading_trees.specs.Grammar.{Span, ◌⨟◌, nothing, either, token, some_token, word, sign, name, NamesText, Text}
use Rattle.reading_trees.specs.Modules.{DeclaredText, DeclaredNamesText, PlacesText, MaybePlaces, DeclaredOperatorText, DeclaredOperatorsText, underscore, recursive_word, MaybeTitle, ExtendsText, WithText, MoreWithsText, WithsText, InstanceText, SomeExpression, UnitText, variable_word, constant_word, assume_word, theorem_word}
use Rattle.reading_machine.specs.LawsOfExtents.{LocalText, LocalDefinition}
use Rattle.reading_units.specs.Parts.{MarkText}
use Rattle.reading_units.specs.Refusals.{ShallowWholeUnit, SoManyUnits, ShallowWholeUnits, SomeExtends}
use Rattle.reading_units.specs.Rests.{Marked, OthersOf, ListOf, Listed, Places, Parameters, OneOperator, Title}
use Rattle.reading_units.specs.declared.marks.Mark.{Mark}
use Rattle.reading_units.specs.declared.marks.Mark.TheVariants as marks
use Rattle.reading_units.proofs.Extents.{Local}

abbrev pub IsLocal : Span → Type 0
IsLocal R = (xs ys : List Laid) → R xs ys → Local R xs ys

-- ---- what is known of such a part

-- tokens that reach as far are that part, whatever stands behind them
pub before_any : (R : Span) → IsLocal R → (xs ys text : List Laid) → R xs ys → xs ≡ text ++ ys → (zs : List Laid) → R (text ++ zs) zs
before_any R local xs ys text h e zs =
    let p = local xs ys h in
    subst (λ v. R (v ++ zs) zs) (append_cancel_right p.text text ys (sym p.whole ∙ e)) (p.anywhere zs)

pub all_alone : (R : Span) → IsLocal R → (xs ys text : List Laid) → R xs ys → xs ≡ text ++ ys → R text []
all_alone R local xs ys text h e = subst (λ v. R v []) (append-nil text) (before_any R local xs ys text h e [])

-- two parts one behind another reach as far as both
pub joined : (xs ys zs text more : List Laid) → xs ≡ text ++ ys → ys ≡ more ++ zs → xs ≡ (text ++ more) ++ zs
joined xs ys zs text more e q = e ∙ ap (λ v. text ++ v) q ∙ sym (append_assoc text more zs)

-- ---- how parts are made

pub local_then : (R S : Span) → IsLocal R → IsLocal S → IsLocal (R ⨟ S)
local_then R S f g xs zs h =
    let p = f xs h.0 h.1 in
    let q = g h.0 zs h.2 in
    record {
      text = p.text ++ q.text;
      whole = joined xs h.0 zs p.text q.text p.whole q.whole;
      anywhere = λ ws. (q.text ++ ws, subst (λ v. R v (q.text ++ ws)) (sym (append_assoc p.text q.text ws)) (p.anywhere (q.text ++ ws)), q.anywhere ws);
    }

pub local_nothing : IsLocal nothing
local_nothing xs ys h = record { text = []; whole = h; anywhere = λ ws. refl }

pub local_either : (R S : Span) → IsLocal R → IsLocal S → IsLocal (either R S)
local_either R S f g xs ys (inl h) = let p = f xs ys h in record { text = p.text; whole = p.whole; anywhere = λ ws. inl (p.anywhere ws) }
local_either R S f g xs ys (inr h) = let p = g xs ys h in record { text = p.text; whole = p.whole; anywhere = λ ws. inr (p.anywhere ws) }

pub local_some : (A : Type 0) (R : A → Span) → ((a : A) → IsLocal (R a)) → IsLocal (λ xs ys. (a : A) × R a xs ys)
local_some A R f xs ys h = let p = f h.0 xs ys h.1 in record { text = p.text; whole = p.whole; anywhere = λ ws. (h.0, p.anywhere ws) }

-- ---- tokens

pub local_token : (at : Place) (k : Kind) → IsLocal (token at k)
local_token at k xs ys h = record { text = Plain (record { kind = k; place = at }) ∷ []; whole = h; anywhere = λ ws. refl }

pub local_kind : (k : Kind) → IsLocal (some_token k)
local_kind k xs ys h = record { text = Plain (record { kind = k; place = h.0 }) ∷ []; whole = h.1; anywhere = λ ws. (h.0, refl) }

local_word_of_two : (k l : Kind) → IsLocal (either (some_token k) (some_token l))
local_word_of_two k l = local_either (some_token k) (some_token l) (local_kind k) (local_kind l)

pub local_variable : IsLocal variable_word
local_variable = local_word_of_two (kinds.Word words.Variable) (kinds.Word words.Variables)

pub local_constant : IsLocal constant_word
local_constant = local_word_of_two (kinds.Word words.Constant) (kinds.Word words.Constants)

pub local_assume : IsLocal assume_word
local_assume = local_either (word words.Assume) (either (word words.Assumption) (word words.Axiom)) (local_kind (kinds.Word words.Assume)) (local_word_of_two (kinds.Word words.Assumption) (kinds.Word words.Axiom))

pub local_theorem : IsLocal theorem_word
local_theorem = local_either (either (word words.Theorem) (word words.Lemma)) (either (word words.Proposition) (word words.Corollary)) (local_word_of_two (kinds.Word words.Theorem) (kinds.Word words.Lemma)) (local_word_of_two (kinds.Word words.Proposition) (kinds.Word words.Corollary))

pub local_recursive_word : IsLocal recursive_word
local_recursive_word = local_kind (kinds.Foreign foreign.Recursive)

local_underscore : IsLocal underscore
local_underscore = local_kind (kinds.Foreign foreign.Underscore)

pub local_name : (n : List ℕ) → IsLocal (name n)
local_name n = local_kind (kinds.Name n)

pub local_mark : (m : Mark) → IsLocal (MarkText m)
local_mark marks.Name = local_some (List ℕ) name local_name
local_mark marks.Dashes = local_kind kinds.Dashes
local_mark marks.Equals = local_kind kinds.Equals
local_mark marks.Comma = local_kind (kinds.Symbol symbols.Comma)
local_mark marks.OpenParenthesis = local_kind (kinds.Symbol symbols.OpenParenthesis)
local_mark marks.CloseParenthesis = local_kind (kinds.Symbol symbols.CloseParenthesis)
local_mark marks.Underscore = local_underscore
local_mark marks.Defined = local_kind (kinds.Symbol symbols.Defined)
local_mark marks.Heading = local_kind (kinds.Word words.Module)
local_mark marks.Extends = local_kind (kinds.Word words.Extends)
local_mark marks.Variables = local_variable
local_mark marks.Constants = local_constant
local_mark marks.Recursive = local_recursive_word
local_mark marks.Assume = local_assume
local_mark marks.Theorem = local_theorem
local_mark marks.Instance = local_kind (kinds.Foreign foreign.Instance)
local_mark marks.With = local_kind (kinds.Foreign foreign.With)
local_mark marks.Arrow = local_kind (kinds.Symbol symbols.LeftArrow)

pub local_marked : (m : Mark) → IsLocal (Marked m)
local_marked m [] ys h = absurd h
local_marked m (x ∷ xs) ys h = record { text = x ∷ []; whole = ap (λ v. x ∷ v) h.1; anywhere = λ ws. (h.0, refl) }

-- ---- names

local_others : (R : Span) → IsLocal R → (n : ℕ) → IsLocal (OthersOf R n)
local_others R part zero = local_nothing
local_others R part (suc n) = local_then (Marked marks.Comma) (R ⨟ OthersOf R n) (local_marked marks.Comma) (local_then R (OthersOf R n) part (local_others R part n))

pub local_list : (R : Span) → IsLocal R → IsLocal (ListOf R)
local_list R part = local_then R (λ xs ys. (n : ℕ) × OthersOf R n xs ys) part (local_some ℕ (OthersOf R) (local_others R part))

pub local_listed : IsLocal Listed
local_listed = local_list (Marked marks.Name) (local_marked marks.Name)

-- ---- operators

pub local_parameters : IsLocal Parameters
local_parameters =
    local_either nothing (Marked marks.OpenParenthesis ⨟ Places ⨟ Marked marks.CloseParenthesis) local_nothing
    (local_then (Marked marks.OpenParenthesis) (Places ⨟ Marked marks.CloseParenthesis) (local_marked marks.OpenParenthesis)
    (local_then Places (Marked marks.CloseParenthesis) (local_list (Marked marks.Underscore) (local_marked marks.Underscore)) (local_marked marks.CloseParenthesis)))

pub local_one_operator : IsLocal OneOperator
local_one_operator = local_then (Marked marks.Name) Parameters (local_marked marks.Name) local_parameters

local_places : (n : ℕ) → IsLocal (PlacesText n)
local_places zero = λ xs ys h. absurd h
local_places (suc zero) = local_underscore
local_places (suc (suc n)) =
    local_then underscore (sign symbols.Comma ⨟ PlacesText (suc n)) local_underscore (local_then (sign symbols.Comma) (PlacesText (suc n)) (local_kind (kinds.Symbol symbols.Comma)) (local_places (suc n)))

local_maybe_places : (n : ℕ) → IsLocal (MaybePlaces n)
local_maybe_places zero = local_nothing
local_maybe_places (suc n) =
    local_then (sign symbols.OpenParenthesis) (PlacesText (suc n) ⨟ sign symbols.CloseParenthesis) (local_kind (kinds.Symbol symbols.OpenParenthesis))
    (local_then (PlacesText (suc n)) (sign symbols.CloseParenthesis) (local_places (suc n)) (local_kind (kinds.Symbol symbols.CloseParenthesis)))

local_operator : (d : DeclaredOperator) → IsLocal (DeclaredOperatorText d)
local_operator d = local_then (token d.at (kinds.Name d.name)) (MaybePlaces d.parameters) (local_token d.at (kinds.Name d.name)) (local_maybe_places d.parameters)

local_operators : (ds : List DeclaredOperator) → IsLocal (DeclaredOperatorsText ds)
local_operators [] = λ xs ys h. absurd h
local_operators (d ∷ []) = local_operator d
local_operators (d ∷ e ∷ ds) =
    local_then (DeclaredOperatorText d) (sign symbols.Comma ⨟ DeclaredOperatorsText (e ∷ ds)) (local_operator d)
    (local_then (sign symbols.Comma) (DeclaredOperatorsText (e ∷ ds)) (local_kind (kinds.Symbol symbols.Comma)) (local_operators (e ∷ ds)))

-- ---- titles and what is extended

pub local_title : IsLocal Title
local_title = local_then (Marked marks.Name) (Marked marks.Defined) (local_marked marks.Name) (local_marked marks.Defined)

local_names : (ns : List (List ℕ)) → IsLocal (NamesText ns)
local_names [] = λ xs ys h. absurd h
local_names (n ∷ []) = local_name n
local_names (n ∷ m ∷ ns) = local_then (name n) (sign symbols.Comma ⨟ NamesText (m ∷ ns)) (local_name n) (local_then (sign symbols.Comma) (NamesText (m ∷ ns)) (local_kind (kinds.Symbol symbols.Comma)) (local_names (m ∷ ns)))

local_declared : (ds : List Declared) → IsLocal (DeclaredNamesText ds)
local_declared [] = λ xs ys h. absurd h
local_declared (d ∷ []) = local_token d.at (kinds.Name d.name)
local_declared (d ∷ e ∷ ds) = local_then (DeclaredText d) (sign symbols.Comma ⨟ DeclaredNamesText (e ∷ ds)) (local_token d.at (kinds.Name d.name)) (local_then (sign symbols.Comma) (DeclaredNamesText (e ∷ ds)) (local_kind (kinds.Symbol symbols.Comma)) (local_declared (e ∷ ds)))

local_extends : (ns : List (List ℕ)) → IsLocal (ExtendsText ns)
local_extends [] = local_nothing
local_extends (n ∷ ns) = local_then (word words.Extends) (NamesText (n ∷ ns)) (local_kind (kinds.Word words.Extends)) (local_names (n ∷ ns))

pub local_some_extends : IsLocal SomeExtends
local_some_extends = local_some (List (List ℕ)) ExtendsText local_extends

pub local_maybe_title : IsLocal MaybeTitle
local_maybe_title = local_either nothing (λ xs ys. (n : List ℕ) × (name n ⨟ sign symbols.Defined) xs ys) local_nothing (local_some (List ℕ) (λ n. name n ⨟ sign symbols.Defined) (λ n. local_then (name n) (sign symbols.Defined) (local_name n) (local_kind (kinds.Symbol symbols.Defined))))

-- ---- units

pub local_text : LocalText → (e : Tree) → IsLocal (Text e)
local_text local e xs ys h = let p = local e xs ys h in record { text = p.0; whole = p.1; anywhere = p.2 }

local_some_expression : LocalText → IsLocal SomeExpression
local_some_expression local xs ys h = let p = local h.0 xs ys h.1.text in record { text = p.0; whole = p.1; anywhere = λ ws. (h.0, record { text = p.2 ws; fits = h.1.fits }) }

local_with : LocalText → (before : List (List ℕ)) (w : With) → IsLocal (WithText before w)
local_with local before w xs ys h =
    let by : IsLocal (sign symbols.LeftArrow ⨟ Text w.by) = local_then (sign symbols.LeftArrow) (Text w.by) (local_kind (kinds.Symbol symbols.LeftArrow)) (local_text local w.by) in
    let p = local_then (token w.at (kinds.Name w.name)) (sign symbols.LeftArrow ⨟ Text w.by) (local_token w.at (kinds.Name w.name)) by xs ys h.1 in
    record { text = p.text; whole = p.whole; anywhere = λ ws. (h.0, p.anywhere ws) }

local_more : LocalText → (ws : List With) (before : List (List ℕ)) → IsLocal (MoreWithsText before ws)
local_more local [] before = local_nothing
local_more local (w ∷ ws) before =
    local_then (sign symbols.Comma) (WithText before w ⨟ MoreWithsText (before ++ w.name ∷ []) ws) (local_kind (kinds.Symbol symbols.Comma))
    (local_then (WithText before w) (MoreWithsText (before ++ w.name ∷ []) ws) (local_with local before w) (local_more local ws (before ++ w.name ∷ [])))

local_withs : LocalText → (ws : List With) → IsLocal (WithsText ws)
local_withs local [] = local_nothing
local_withs local (w ∷ ws) =
    local_then (some_token (kinds.Foreign foreign.With)) (WithText [] w ⨟ MoreWithsText (w.name ∷ []) ws) (local_kind (kinds.Foreign foreign.With))
    (local_then (WithText [] w) (MoreWithsText (w.name ∷ []) ws) (local_with local [] w) (local_more local ws (w.name ∷ [])))

pub local_instance : LocalText → (m : Made) → IsLocal (InstanceText m)
local_instance local m =
    local_then (token m.at (kinds.Name m.name)) (sign symbols.Defined ⨟ some_token (kinds.Foreign foreign.Instance) ⨟ name m.module_name ⨟ WithsText m.withs) (local_token m.at (kinds.Name m.name))
    (local_then (sign symbols.Defined) (some_token (kinds.Foreign foreign.Instance) ⨟ name m.module_name ⨟ WithsText m.withs) (local_kind (kinds.Symbol symbols.Defined))
    (local_then (some_token (kinds.Foreign foreign.Instance)) (name m.module_name ⨟ WithsText m.withs) (local_kind (kinds.Foreign foreign.Instance))
    (local_then (name m.module_name) (WithsText m.withs) (local_name m.module_name) (local_withs local m.withs))))

pub local_variables : (ds : List Declared) → IsLocal (UnitText (units.Variables ds))
local_variables ds = local_then variable_word (DeclaredNamesText ds) local_variable (local_declared ds)

pub local_constants : (ds : List Declared) → IsLocal (UnitText (units.Constants ds))
local_constants ds = local_then constant_word (DeclaredNamesText ds) local_constant (local_declared ds)

pub local_recursive : (ds : List DeclaredOperator) → IsLocal (UnitText (units.Recursive ds))
local_recursive ds = local_then recursive_word (DeclaredOperatorsText ds) local_recursive_word (local_operators ds)

pub local_definition : LocalDefinition → (d : UnitDefinition) → IsLocal (UnitText (units.Define d))
local_definition local d xs ys h = let p = local d.name d.at d.params d.form d.body xs ys h in record { text = p.0; whole = p.1; anywhere = p.2 }

pub local_assumption : LocalText → (e : Tree) → IsLocal (UnitText (units.Assume e))
local_assumption local e = local_then assume_word (MaybeTitle ⨟ Text e) local_assume (local_then MaybeTitle (Text e) local_maybe_title (local_text local e))

pub local_passed : LocalText → IsLocal (UnitText units.Passed)
local_passed local = local_either (some_token kinds.Dashes) (theorem_word ⨟ MaybeTitle ⨟ SomeExpression) (local_kind kinds.Dashes) (local_then theorem_word (MaybeTitle ⨟ SomeExpression) local_theorem (local_then MaybeTitle SomeExpression local_maybe_title (local_some_expression local)))

local_shallow : IsLocal ShallowWholeUnit
local_shallow xs ys h = record { text = h.text; whole = h.whole; anywhere = λ ws. record { text = h.text; whole = refl; unit = h.unit; spelled = h.spelled; shallow = h.shallow } }

local_so_many : (n : ℕ) → IsLocal (SoManyUnits n)
local_so_many zero = local_nothing
local_so_many (suc n) = local_then ShallowWholeUnit (SoManyUnits n) local_shallow (local_so_many n)

pub local_whole_units : IsLocal ShallowWholeUnits
local_whole_units = local_some ℕ SoManyUnits local_so_many
