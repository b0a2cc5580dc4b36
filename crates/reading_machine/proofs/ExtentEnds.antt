-- Behind a whole text none of the tokens that end one goes on.
use Rattle.std.proofs.Common.{◌≡◌, ℕ, Bool, true, false, List, [], ◌∷◌, ◌++◌, append_assoc, refl, sym, ap, subst, ◌∙◌}
use Rattle.std.proofs.lemmas.List.{append-nil}
use Rattle.std.specs.Prelude.{if◌then◌else◌}
use Rattle.base_core.specs.declared.place.Place.{Place}
use Rattle.reading_trees.specs.declared.form.DefinitionForm.{DefinitionForm}
use Rattle.reading_trees.specs.declared.form.DefinitionForm.TheVariants as forms
use Rattle.reading_trees.specs.declared.laid.Laid.{Laid}
use Rattle.reading_trees.specs.declared.laid.Laid.TheVariants.{Plain, ListOpen, ListItem, ListClose}
use Rattle.reading_tokens.specs.declared.token.Kind.{Kind}
use Rattle.reading_tokens.specs.declared.token.Kind.TheVariants as kinds
use Rattle.reading_tokens.specs.declared.token.Symbol.{Symbol}
use Rattle.reading_tokens.specs.declared.token.Symbol.TheVariants as symbols
use Rattle.reading_trees.specs.Grammar.{Text, NamesText, ParametersText, BoundsText, FunctionRest, DefinitionRest, sign}
use Rattle.reading_trees.specs.Trees as tree
use Rattle.reading_trees.specs.Trees.{Tree, Bounds, NoBounds, MoreBounds}
use Rattle.reading_machine.specs.Beginnings.{DefinitionText}
use Rattle.reading_machine.specs.LawsOfExtents.{LocalText, LocalDefinition, NoneFollows, NoneFollowsDefinition}
use Rattle.reading_machine.specs.LawsOfTrees.{EndsKind, EndsText}
use Rattle.reading_machine.specs.Machine.{is_case_mark}
use Rattle.reading_machine.proofs.Flat as flat
use Rattle.reading_machine.proofs.FlatBounds.{bounds_go}
use Rattle.reading_machine.proofs.FlatGoes.{Reached, BoundsGood, Closing, part}
use Rattle.reading_machine.proofs.FlatTrees.{good}
use Rattle.reading_machine.proofs.RunsParts.{plain}
use Rattle.reading_machine.proofs.UniqueSpans.{Front, tree_local}
use Rattle.reading_machine.proofs.FittingFronts.{definition_local}

pub local_text : LocalText
local_text e xs ys h = let f : Front (Text e) xs ys = tree_local e xs ys h in (f.front, f.here, f.anywhere)

pub local_definition : LocalDefinition
local_definition n at ns form e xs ys h = let f : Front (DefinitionText n at ns form e) xs ys = definition_local n at ns form e xs ys h in (f.front, f.here, f.anywhere)

-- ---- expressions

pub record Closes (x : Laid) : Type 0 where
  pub closing : Closing x
  pub no_case : is_case_mark x ≡ false

kind_closes : (k : Kind) (at : Place) → EndsKind k → Closes (plain k at)
kind_closes (kinds.Name m) at q = record { closing = λ n fs. refl; no_case = refl }
kind_closes (kinds.Word w) at q = record { closing = λ n fs. refl; no_case = refl }
kind_closes (kinds.Foreign f) at q = record { closing = λ n fs. refl; no_case = refl }
kind_closes (kinds.Symbol symbols.Comma) at q = record { closing = λ n fs. refl; no_case = refl }
kind_closes kinds.Dashes at q = record { closing = λ n fs. refl; no_case = refl }
kind_closes kinds.Equals at q = record { closing = λ n fs. refl; no_case = refl }
kind_closes kinds.End at q = record { closing = λ n fs. refl; no_case = refl }
kind_closes _ at q = absurd q

pub ends_close : (x : Laid) → EndsText x → Closes x
ends_close (Plain t) q = kind_closes t.kind t.place q
ends_close (ListOpen b at) q = absurd q
ends_close (ListItem b at) q = absurd q
ends_close (ListClose at) q = absurd q

ends_stops : (r : List Laid) → flat.EndsAt r ≡ flat.StopsAt [] → ⊥
ends_stops r q = cc

-- no text goes up to such a token, where another goes to the end
not_both : (d e : Tree) (xs r : List Laid) (x : Laid) → EndsText x → Text d xs (x ∷ r) → Text e xs [] → ⊥
not_both d e xs r x i s t =
    let c : Closes x = ends_close x i in
    let a : flat.run xs [] flat.Want ≡ flat.EndsAt (x ∷ r) = part xs (x ∷ r) d [] (good d).goes tt s refl c.no_case c.closing in
    let b : Reached (flat.run xs [] flat.Want) [] [] = (good e).goes [] tt xs [] t in
    ends_stops (x ∷ r) (sym a ∙ b.runs)

pub none_follows : NoneFollows
none_follows e text x h i b =
    let f : Front (Text e) text [] = tree_local e text [] h in
    let k : f.front ≡ text = sym (f.here ∙ append-nil f.front) in
    not_both e b.tree (text ++ x ∷ b.rest) b.rest x i (subst (λ v. Text e (v ++ x ∷ b.rest) (x ∷ b.rest)) k (f.anywhere (x ∷ b.rest)))
    (subst (λ v. Text b.tree v []) (append_assoc text (x ∷ []) b.rest) b.whole)

-- ---- where the body of a definition begins, behind the name

abbrev symbol_defines : Symbol → Bool
symbol_defines symbols.Defined = true
symbol_defines _ = false

abbrev kind_defines : Kind → Bool
kind_defines (kinds.Symbol s) = symbol_defines s
kind_defines _ = false

abbrev defines : Laid → Bool
defines (Plain t) = kind_defines t.kind
defines _ = false

-- behind the first `==`
abbrev behind_defined : List Laid → List Laid
behind_defined [] = []
behind_defined (x ∷ xs) = if defines x then xs else behind_defined xs

abbrev symbol_brackets : Symbol → Bool
symbol_brackets symbols.OpenBracket = true
symbol_brackets _ = false

abbrev kind_brackets : Kind → Bool
kind_brackets (kinds.Symbol s) = symbol_brackets s
kind_brackets _ = false

abbrev brackets : Laid → Bool
brackets (Plain t) = kind_brackets t.kind
brackets _ = false

abbrev behind_two : List Laid → List Laid
behind_two (x ∷ y ∷ r) = r
behind_two _ = []

abbrev left : flat.Result → List Laid
left (flat.StopsAt r) = r
left (flat.EndsAt r) = r

-- A function's bounds are read as those of a quantifier, which stops at the bracket behind them.
abbrev body_from : List Laid → List Laid
body_from [] = []
body_from (x ∷ xs) = if brackets x then behind_two (left (flat.run xs [] (flat.BoundName flat.ByQuantifier))) else behind_defined (x ∷ xs)

names_skip : (ns : List (List ℕ)) (xs ys : List Laid) → NamesText ns xs ys → behind_defined xs ≡ behind_defined ys
names_skip [] xs ys h = absurd h
names_skip (n ∷ []) xs ys h = ap behind_defined h.1
names_skip (n ∷ m ∷ ns) xs ys h = ap behind_defined h.1.1 ∙ ap behind_defined h.2.1.1 ∙ names_skip (m ∷ ns) h.2.0 ys h.2.2

operator_from : (ns : List (List ℕ)) (xs ys zs : List Laid) → ParametersText ns xs ys → sign symbols.Defined ys zs → body_from xs ≡ zs
operator_from [] xs ys zs h d = ap body_from (h ∙ d.1)
operator_from (m ∷ ns) xs ys zs h d =
    ap body_from h.1.1 ∙ names_skip (m ∷ ns) h.0 h.2.0 h.2.1 ∙ ap behind_defined h.2.2.1 ∙ ap behind_defined d.1

bounds_good : (bs : Bounds) → BoundsGood bs
bounds_good NoBounds = tt
bounds_good (MoreBounds bs ns s) = (bounds_good bs, good s)

bounds_from : (bs : Bounds) (xs ys zs ws : List Laid) → BoundsText bs xs ys → sign symbols.CloseBracket ys zs → sign symbols.Defined zs ws → behind_two (left (flat.run xs [] (flat.BoundName flat.ByQuantifier))) ≡ ws
bounds_from bs xs ys zs ws h c d =
    ap (λ v. behind_two (left v)) (bounds_go symbols.CloseBracket c.0 flat.ByQuantifier bs (bounds_good bs) [] xs ys zs h c.1 refl (λ n gs. refl))
    ∙ ap (λ v. behind_two (plain (kinds.Symbol symbols.CloseBracket) c.0 ∷ v)) d.1

-- the body of a definition
record Body (xs ys : List Laid) : Type 0 where
  tree : Tree
  text : Text tree (body_from xs) ys

function_body : (e : Tree) (xs ys : List Laid) → FunctionRest e xs ys → Body xs ys
function_body (tree.Function at bs e) xs ys h =
    let q : body_from xs ≡ h.2.2.2.0 = ap body_from h.1 ∙ bounds_from bs h.0 h.2.0 h.2.2.0 h.2.2.2.0 h.2.1 h.2.2.1 h.2.2.2.1 in
    record { tree = e; text = subst (λ v. Text e v ys) (sym q) h.2.2.2.2 }
function_body _ xs ys h = absurd h

body_of : (ns : List (List ℕ)) (form : DefinitionForm) (e : Tree) (xs ys : List Laid) → DefinitionRest ns form e xs ys → Body xs ys
body_of ns forms.Operator e xs ys h =
    let q : body_from xs ≡ h.2.0 = operator_from ns xs h.0 h.2.0 h.1 h.2.1 in
    record { tree = e; text = subst (λ v. Text e v ys) (sym q) h.2.2 }
body_of ns forms.Function e xs ys h = function_body e xs ys h.1
body_of ns forms.Constant e xs ys h = absurd h

same_tail : (x y : Laid) (xs ys zs : List Laid) → zs ≡ x ∷ xs → zs ≡ y ∷ ys → ys ≡ xs
same_tail x y xs ys zs p q = cc

pub none_follows_definition : NoneFollowsDefinition
none_follows_definition n at ns form e text x h i b =
    let f : Front (DefinitionText n at ns form e) text [] = definition_local n at ns form e text [] h in
    let k : f.front ≡ text = sym (f.here ∙ append-nil f.front) in
    let all : List Laid = text ++ x ∷ b.rest in
    let s : DefinitionText n at ns form e all (x ∷ b.rest) = subst (λ v. DefinitionText n at ns form e (v ++ x ∷ b.rest) (x ∷ b.rest)) k (f.anywhere (x ∷ b.rest)) in
    let t : DefinitionText b.name b.at b.parameters b.form b.body all [] = subst (λ v. DefinitionText b.name b.at b.parameters b.form b.body v []) (append_assoc text (x ∷ []) b.rest) b.whole in
    let c : Body s.0 (x ∷ b.rest) = body_of ns form e s.0 (x ∷ b.rest) s.2 in
    let d : Body t.0 [] = body_of b.parameters b.form b.body t.0 [] t.2 in
    not_both c.tree d.tree (body_from s.0) b.rest x i c.text (subst (λ v. Text d.tree (body_from v) []) (same_tail _ _ s.0 t.0 all s.1 t.1) d.text)
