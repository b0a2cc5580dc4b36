-- The parts of units: names, expressions, definitions and titles are told by their tokens, and so is where each ends.
use Rattle.std.proofs.Common.{◌≡◌, ℕ, zero, suc, Bool, true, false, List, [], ◌∷◌, inl, inr, refl, sym, ap, subst, ◌∙◌}
use Rattle.base_core.specs.declared.place.Place.{Place}
use Rattle.reading_trees.specs.declared.form.DefinitionForm.{DefinitionForm}
use Rattle.reading_trees.specs.declared.laid.Laid.{Laid}
use Rattle.reading_trees.specs.declared.laid.Laid.TheVariants.{Plain}
use Rattle.reading_tokens.specs.declared.token.Kind.{Kind}
use Rattle.reading_tokens.specs.declared.token.Kind.TheVariants as kinds
use Rattle.reading_tokens.specs.declared.token.Word.TheVariants as words
use Rattle.reading_tokens.specs.declared.token.Symbol.{Symbol}
use Rattle.reading_tokens.specs.declared.token.Symbol.TheVariants as symbols
use Rattle.reading_tokens.specs.declared.token.Foreign.TheVariants as foreign
use Rattle.reading_trees.specs.declared.expr.Definition.{Definition}
use Rattle.reading_trees.specs.declared.module.Declared.{Declared}
use Rattle.reading_trees.specs.declared.module.DeclaredOperator.{DeclaredOperator}
use Rattle.reading_trees.specs.Trees as tree
use Rattle.reading_trees.specs.Trees.{Tree}
use Rattle.reading_trees.specs.Grammar.{◌⨟◌, token, sign, name, NamesText, DefinitionRest}
use Rattle.reading_trees.specs.Fits.{Fits, Spells}
use Rattle.reading_trees.specs.Modules.{DeclaredText, DeclaredNamesText, PlacesText, MaybePlaces, DeclaredOperatorText, DeclaredOperatorsText, MaybeTitle, ExtendsText}
use Rattle.reading_machine.specs.declared.frame.Mode.TheVariants as mode
use Rattle.reading_machine.specs.Machine.{EndsAt, EndsDefinitionAt, run}
use Rattle.reading_machine.specs.LawsOfTrees.{SpelledRead, DefinitionRead}
use Rattle.reading_units.proofs.OneModuleTokens.{IsOfUnits, TextEnds, UnitEnds, form_of, tail_of, some_behind}

-- ---- names

abbrev name_of : Kind → List ℕ
name_of (kinds.Name n) = n
name_of _ = []

abbrev head_name : List Laid → List ℕ
head_name (Plain t ∷ xs) = name_of t.kind
head_name _ = []

abbrev head_place : Place → List Laid → Place
head_place p (Plain t ∷ xs) = t.place
head_place p _ = p

-- a name at its place
pub token_same : (n m : List ℕ) (p q : Place) (ws xs ys zs : List Laid) → ws ≡ xs → token p (kinds.Name n) ws ys → token q (kinds.Name m) xs zs → (n ≡ m) × (p ≡ q) × (ys ≡ zs)
token_same n m p q ws xs ys zs w h g =
    let here : Plain (record { kind = kinds.Name n; place = p }) ∷ ys ≡ Plain (record { kind = kinds.Name m; place = q }) ∷ zs = sym h ∙ w ∙ g in
    (ap head_name here, ap (head_place p) here, ap tail_of here)

pub no_comma : (xs ys : List Laid) → UnitEnds xs → sign symbols.Comma xs ys → ⊥
no_comma xs ys a c = subst UnitEnds c.1 a

pub names_same : (ns ms : List (List ℕ)) (xs ys zs : List Laid) → NamesText ns xs ys → NamesText ms xs zs → UnitEnds ys → UnitEnds zs → (ns ≡ ms) × (ys ≡ zs)
names_same [] ms xs ys zs h g a b = absurd h
names_same (n ∷ ns) [] xs ys zs h g a b = absurd g
names_same (n ∷ []) (m ∷ []) xs ys zs h g a b =
    let p = token_same n m h.0 g.0 xs xs ys zs refl h.1 g.1 in
    (ap (λ v. v ∷ []) p.0, p.2)
names_same (n ∷ []) (m ∷ k ∷ ms) xs ys zs h g a b =
    let p = token_same n m h.0 g.1.0 xs xs ys g.0 refl h.1 g.1.1 in
    absurd (no_comma g.0 g.2.0 (subst UnitEnds p.2 a) g.2.1)
names_same (n ∷ l ∷ ns) (m ∷ []) xs ys zs h g a b =
    let p = token_same n m h.1.0 g.0 xs xs h.0 zs refl h.1.1 g.1 in
    absurd (no_comma h.0 h.2.0 (subst UnitEnds (sym p.2) b) h.2.1)
names_same (n ∷ l ∷ ns) (m ∷ k ∷ ms) xs ys zs h g a b =
    let p = token_same n m h.1.0 g.1.0 xs xs h.0 g.0 refl h.1.1 g.1.1 in
    let q : h.2.0 ≡ g.2.0 = some_behind (kinds.Symbol symbols.Comma) h.0 g.0 h.2.0 g.2.0 p.2 h.2.1 g.2.1 in
    let r = names_same (l ∷ ns) (k ∷ ms) h.2.0 ys zs h.2.2 (subst (λ v. NamesText (k ∷ ms) v zs) (sym q) g.2.2) a b in
    (ap (λ v. v ∷ l ∷ ns) p.0 ∙ ap (λ v. m ∷ v) r.0, r.1)

same_declared : (d e : Declared) → d.name ≡ e.name → d.at ≡ e.at → d ≡ e
same_declared d e n p =
    let named : List ℕ → Declared = λ v. record { name = v; at = d.at } in
    let placed : Place → Declared = λ v. record { name = e.name; at = v } in
    ap named n ∙ ap placed p

declared_same : (d e : Declared) (xs ys zs : List Laid) → DeclaredText d xs ys → DeclaredText e xs zs → (d ≡ e) × (ys ≡ zs)
declared_same d e xs ys zs h g =
    let p = token_same d.name e.name d.at e.at xs xs ys zs refl h g in
    (same_declared d e p.0 p.1, p.2)

pub declared_names_same : (ds es : List Declared) (xs ys zs : List Laid) → DeclaredNamesText ds xs ys → DeclaredNamesText es xs zs → UnitEnds ys → UnitEnds zs → (ds ≡ es) × (ys ≡ zs)
declared_names_same [] es xs ys zs h g a b = absurd h
declared_names_same (d ∷ ds) [] xs ys zs h g a b = absurd g
declared_names_same (d ∷ []) (e ∷ []) xs ys zs h g a b =
    let p = declared_same d e xs ys zs h g in
    (ap (λ v. v ∷ []) p.0, p.1)
declared_names_same (d ∷ []) (e ∷ f ∷ es) xs ys zs h g a b =
    let p = declared_same d e xs ys g.0 h g.1 in
    absurd (no_comma g.0 g.2.0 (subst UnitEnds p.1 a) g.2.1)
declared_names_same (d ∷ c ∷ ds) (e ∷ []) xs ys zs h g a b =
    let p = declared_same d e xs h.0 zs h.1 g in
    absurd (no_comma h.0 h.2.0 (subst UnitEnds (sym p.1) b) h.2.1)
declared_names_same (d ∷ c ∷ ds) (e ∷ f ∷ es) xs ys zs h g a b =
    let p = declared_same d e xs h.0 g.0 h.1 g.1 in
    let q : h.2.0 ≡ g.2.0 = some_behind (kinds.Symbol symbols.Comma) h.0 g.0 h.2.0 g.2.0 p.1 h.2.1 g.2.1 in
    let r = declared_names_same (c ∷ ds) (f ∷ es) h.2.0 ys zs h.2.2 (subst (λ v. DeclaredNamesText (f ∷ es) v zs) (sym q) g.2.2) a b in
    (ap (λ v. v ∷ c ∷ ds) p.0 ∙ ap (λ v. e ∷ v) r.0, r.1)

-- ---- operators

-- no list goes on there
abbrev NoComma : List Laid → Type 0
NoComma xs = (ys : List Laid) → sign symbols.Comma xs ys → ⊥

-- no parameters stand there
abbrev NoOpen : List Laid → Type 0
NoOpen xs = (ys : List Laid) → sign symbols.OpenParenthesis xs ys → ⊥

abbrev is_comma_symbol : Symbol → Bool
is_comma_symbol symbols.Comma = true
is_comma_symbol _ = false

abbrev is_comma_kind : Kind → Bool
is_comma_kind (kinds.Symbol s) = is_comma_symbol s
is_comma_kind _ = false

abbrev is_comma : List Laid → Bool
is_comma (Plain t ∷ xs) = is_comma_kind t.kind
is_comma _ = false

comma_no_open : (xs ys zs : List Laid) → sign symbols.Comma xs ys → sign symbols.OpenParenthesis xs zs → ⊥
comma_no_open xs ys zs h g = let q : true ≡ false = sym (ap is_comma h.1) ∙ ap is_comma g.1 in cc

close_no_comma : (xs ys zs : List Laid) → sign symbols.CloseParenthesis xs ys → sign symbols.Comma xs zs → ⊥
close_no_comma xs ys zs h g = let q : true ≡ false = sym (ap is_comma g.1) ∙ ap is_comma h.1 in cc

no_open : (xs ys : List Laid) → UnitEnds xs → sign symbols.OpenParenthesis xs ys → ⊥
no_open xs ys a c = subst UnitEnds c.1 a

places_same : (n m : ℕ) (xs ys zs : List Laid) → PlacesText n xs ys → PlacesText m xs zs → NoComma ys → NoComma zs → (n ≡ m) × (ys ≡ zs)
places_same zero m xs ys zs h g a b = absurd h
places_same (suc n) zero xs ys zs h g a b = absurd g
places_same (suc zero) (suc zero) xs ys zs h g a b = (refl, some_behind (kinds.Foreign foreign.Underscore) xs xs ys zs refl h g)
places_same (suc zero) (suc (suc m)) xs ys zs h g a b =
    let p : ys ≡ g.0 = some_behind (kinds.Foreign foreign.Underscore) xs xs ys g.0 refl h g.1 in
    absurd (a g.2.0 (subst (λ v. sign symbols.Comma v g.2.0) (sym p) g.2.1))
places_same (suc (suc n)) (suc zero) xs ys zs h g a b =
    let p : zs ≡ h.0 = some_behind (kinds.Foreign foreign.Underscore) xs xs zs h.0 refl g h.1 in
    absurd (b h.2.0 (subst (λ v. sign symbols.Comma v h.2.0) (sym p) h.2.1))
places_same (suc (suc n)) (suc (suc m)) xs ys zs h g a b =
    let p : h.0 ≡ g.0 = some_behind (kinds.Foreign foreign.Underscore) xs xs h.0 g.0 refl h.1 g.1 in
    let q : h.2.0 ≡ g.2.0 = some_behind (kinds.Symbol symbols.Comma) h.0 g.0 h.2.0 g.2.0 p h.2.1 g.2.1 in
    let r = places_same (suc n) (suc m) h.2.0 ys zs h.2.2 (subst (λ v. PlacesText (suc m) v zs) (sym q) g.2.2) a b in
    (ap suc r.0, r.1)

maybe_places_same : (n m : ℕ) (xs ys zs : List Laid) → MaybePlaces n xs ys → MaybePlaces m xs zs → NoOpen ys → NoOpen zs → (n ≡ m) × (ys ≡ zs)
maybe_places_same zero zero xs ys zs h g a b = (refl, sym h ∙ g)
maybe_places_same zero (suc m) xs ys zs h g a b = absurd (a g.0 (subst (λ v. sign symbols.OpenParenthesis v g.0) h g.1))
maybe_places_same (suc n) zero xs ys zs h g a b = absurd (b h.0 (subst (λ v. sign symbols.OpenParenthesis v h.0) g h.1))
maybe_places_same (suc n) (suc m) xs ys zs h g a b =
    let q : h.0 ≡ g.0 = some_behind (kinds.Symbol symbols.OpenParenthesis) xs xs h.0 g.0 refl h.1 g.1 in
    let r = places_same (suc n) (suc m) h.0 h.2.0 g.2.0 h.2.1 (subst (λ v. PlacesText (suc m) v g.2.0) (sym q) g.2.1) (λ vs c. close_no_comma h.2.0 ys vs h.2.2 c) (λ vs c. close_no_comma g.2.0 zs vs g.2.2 c) in
    (r.0, some_behind (kinds.Symbol symbols.CloseParenthesis) h.2.0 g.2.0 ys zs r.1 h.2.2 g.2.2)

same_operator : (d e : DeclaredOperator) → d.name ≡ e.name → d.at ≡ e.at → d.parameters ≡ e.parameters → d ≡ e
same_operator d e n p k =
    let named : List ℕ → DeclaredOperator = λ v. record { name = v; at = d.at; parameters = d.parameters } in
    let placed : Place → DeclaredOperator = λ v. record { name = e.name; at = v; parameters = d.parameters } in
    let given : ℕ → DeclaredOperator = λ v. record { name = e.name; at = e.at; parameters = v } in
    ap named n ∙ ap placed p ∙ ap given k

operator_same : (d e : DeclaredOperator) (xs ys zs : List Laid) → DeclaredOperatorText d xs ys → DeclaredOperatorText e xs zs → NoOpen ys → NoOpen zs → (d ≡ e) × (ys ≡ zs)
operator_same d e xs ys zs h g a b =
    let p = token_same d.name e.name d.at e.at xs xs h.0 g.0 refl h.1 g.1 in
    let r = maybe_places_same d.parameters e.parameters h.0 ys zs h.2 (subst (λ v. MaybePlaces e.parameters v zs) (sym p.2) g.2) a b in
    (same_operator d e p.0 p.1 r.0, r.1)

pub operators_same : (ds es : List DeclaredOperator) (xs ys zs : List Laid) → DeclaredOperatorsText ds xs ys → DeclaredOperatorsText es xs zs → UnitEnds ys → UnitEnds zs → (ds ≡ es) × (ys ≡ zs)
operators_same [] es xs ys zs h g a b = absurd h
operators_same (d ∷ ds) [] xs ys zs h g a b = absurd g
operators_same (d ∷ []) (e ∷ []) xs ys zs h g a b =
    let p = operator_same d e xs ys zs h g (λ vs c. no_open ys vs a c) (λ vs c. no_open zs vs b c) in
    (ap (λ v. v ∷ []) p.0, p.1)
operators_same (d ∷ []) (e ∷ f ∷ es) xs ys zs h g a b =
    let p = operator_same d e xs ys g.0 h g.1 (λ vs c. no_open ys vs a c) (λ vs c. comma_no_open g.0 g.2.0 vs g.2.1 c) in
    absurd (no_comma g.0 g.2.0 (subst UnitEnds p.1 a) g.2.1)
operators_same (d ∷ c ∷ ds) (e ∷ []) xs ys zs h g a b =
    let p = operator_same d e xs h.0 zs h.1 g (λ vs k. comma_no_open h.0 h.2.0 vs h.2.1 k) (λ vs k. no_open zs vs b k) in
    absurd (no_comma h.0 h.2.0 (subst UnitEnds (sym p.1) b) h.2.1)
operators_same (d ∷ c ∷ ds) (e ∷ f ∷ es) xs ys zs h g a b =
    let p = operator_same d e xs h.0 g.0 h.1 g.1 (λ vs k. comma_no_open h.0 h.2.0 vs h.2.1 k) (λ vs k. comma_no_open g.0 g.2.0 vs g.2.1 k) in
    let q : h.2.0 ≡ g.2.0 = some_behind (kinds.Symbol symbols.Comma) h.0 g.0 h.2.0 g.2.0 p.1 h.2.1 g.2.1 in
    let r = operators_same (c ∷ ds) (f ∷ es) h.2.0 ys zs h.2.2 (subst (λ v. DeclaredOperatorsText (f ∷ es) v zs) (sym q) g.2.2) a b in
    (ap (λ v. v ∷ c ∷ ds) p.0 ∙ ap (λ v. e ∷ v) r.0, r.1)

-- ---- what is extended

-- the names of what is extended, before units
pub extends_same : (ns ms : List (List ℕ)) (xs ys zs : List Laid) → ExtendsText ns xs ys → ExtendsText ms xs zs → IsOfUnits (form_of ys) → IsOfUnits (form_of zs) → (ns ≡ ms) × (ys ≡ zs)
extends_same [] [] xs ys zs h g a b = (refl, sym h ∙ g)
extends_same [] (m ∷ ms) xs ys zs h g a b = absurd (subst (λ v. IsOfUnits (form_of v)) (sym h ∙ g.1.1) a)
extends_same (n ∷ ns) [] xs ys zs h g a b = absurd (subst (λ v. IsOfUnits (form_of v)) (sym g ∙ h.1.1) b)
extends_same (n ∷ ns) (m ∷ ms) xs ys zs h g a b =
    let q : h.0 ≡ g.0 = some_behind (kinds.Word words.Extends) xs xs h.0 g.0 refl h.1 g.1 in
    names_same (n ∷ ns) (m ∷ ms) h.0 ys zs h.2 (subst (λ v. NamesText (m ∷ ms) v zs) (sym q) g.2) a b

-- ---- expressions

ended_tree : (e f : Tree) (ys zs : List Laid) → EndsAt e ys ≡ EndsAt f zs → e ≡ f
ended_tree e f ys zs q = cc

ended_behind : (e f : Tree) (ys zs : List Laid) → EndsAt e ys ≡ EndsAt f zs → ys ≡ zs
ended_behind e f ys zs q = cc

pub expression_same : SpelledRead → (e f : Tree) (xs ys zs : List Laid) → Spells e xs ys → Spells f xs zs → TextEnds ys → TextEnds zs → (e ≡ f) × (ys ≡ zs)
expression_same read e f xs [] zs s t a b = absurd a
expression_same read e f xs (y ∷ ys) [] s t a b = absurd b
expression_same read e f xs (y ∷ ys) (z ∷ zs) s t a b =
    let q : EndsAt e (y ∷ ys) ≡ EndsAt f (z ∷ zs) = sym (read xs ys y e s a) ∙ read xs zs z f t b in
    (ended_tree e f (y ∷ ys) (z ∷ zs) q, ended_behind e f (y ∷ ys) (z ∷ zs) q)

-- ---- titles

-- an expression that begins with a name is not followed by `==` behind the name
no_title : SpelledRead → (e : Tree) (n : List ℕ) (xs ys zs : List Laid) → Spells e xs ys → TextEnds ys → (name n ⨟ sign symbols.Defined) xs zs → ⊥
no_title read e n xs [] zs s a h = a
no_title read e n xs (y ∷ ys) zs s a h =
    let whole : xs ≡ Plain (record { kind = kinds.Name n; place = h.1.0 }) ∷ Plain (record { kind = kinds.Symbol symbols.Defined; place = h.2.0 }) ∷ zs =
    h.1.1 ∙ ap (λ v. Plain (record { kind = kinds.Name n; place = h.1.0 }) ∷ v) h.2.1 in
    let q : EndsAt e (y ∷ ys) ≡ EndsAt (tree.Name h.1.0 n) (Plain (record { kind = kinds.Symbol symbols.Defined; place = h.2.0 }) ∷ zs) =
    sym (read xs ys y e s a) ∙ ap (λ v. run v [] mode.Want) whole in
    subst TextEnds (ended_behind e (tree.Name h.1.0 n) (y ∷ ys) (Plain (record { kind = kinds.Symbol symbols.Defined; place = h.2.0 }) ∷ zs) q) a

pub title_tail : (n : List ℕ) (xs ys : List Laid) → (name n ⨟ sign symbols.Defined) xs ys → tail_of (tail_of xs) ≡ ys
title_tail n xs ys h = ap (λ v. tail_of (tail_of v)) h.1.1 ∙ ap tail_of h.2.1

-- an expression behind a title, or with none
pub titled_same : SpelledRead → (e f : Tree) (xs us vs ys zs : List Laid) → MaybeTitle xs us → MaybeTitle xs vs → Spells e us ys → Spells f vs zs → TextEnds ys → TextEnds zs → (e ≡ f) × (ys ≡ zs)
titled_same read e f xs us vs ys zs (inl h) (inl g) s t a b = expression_same read e f us ys zs s (subst (λ v. Spells f v zs) (sym g ∙ h) t) a b
titled_same read e f xs us vs ys zs (inl h) (inr g) s t a b = absurd (no_title read e g.0 xs ys vs (subst (λ v. Spells e v ys) (sym h) s) a g.1)
titled_same read e f xs us vs ys zs (inr h) (inl g) s t a b = absurd (no_title read f h.0 xs zs us (subst (λ v. Spells f v zs) (sym g) t) b h.1)
titled_same read e f xs us vs ys zs (inr h) (inr g) s t a b =
    let q : us ≡ vs = sym (title_tail h.0 xs us h.1) ∙ title_tail g.0 xs vs g.1 in
    expression_same read e f us ys zs s (subst (λ v. Spells f v zs) (sym q) t) a b

-- ---- definitions

same_definition : (d e : Definition) (ys zs : List Laid) → EndsDefinitionAt d.name d.at d.params d.form d.body ys ≡ EndsDefinitionAt e.name e.at e.params e.form e.body zs → d ≡ e
same_definition d e ys zs q =
    let n : d.name ≡ e.name = cc in
    let p : d.at ≡ e.at = cc in
    let ns : d.params ≡ e.params = cc in
    let f : d.form ≡ e.form = cc in
    let b : d.body ≡ e.body = cc in
    let named : List ℕ → Definition = λ v. record { name = v; at = d.at; params = d.params; form = d.form; body = d.body } in
    let placed : Place → Definition = λ v. record { name = e.name; at = v; params = d.params; form = d.form; body = d.body } in
    let given : List (List ℕ) → Definition = λ v. record { name = e.name; at = e.at; params = v; form = d.form; body = d.body } in
    let formed : DefinitionForm → Definition = λ v. record { name = e.name; at = e.at; params = e.params; form = v; body = d.body } in
    let whole : Tree → Definition = λ v. record { name = e.name; at = e.at; params = e.params; form = e.form; body = v } in
    ap named n ∙ ap placed p ∙ ap given ns ∙ ap formed f ∙ ap whole b

definition_behind : (n m : List ℕ) (p q : Place) (ns ms : List (List ℕ)) (s t : DefinitionForm) (e f : Tree) (ys zs : List Laid) → EndsDefinitionAt n p ns s e ys ≡ EndsDefinitionAt m q ms t f zs → ys ≡ zs
definition_behind n m p q ns ms s t e f ys zs r = cc

pub definition_same : DefinitionRead → (d e : Definition) (xs ys zs : List Laid) → (token d.at (kinds.Name d.name) ⨟ DefinitionRest d.params d.form d.body) xs ys → (token e.at (kinds.Name e.name) ⨟ DefinitionRest e.params e.form e.body) xs zs → Fits d.body → Fits e.body → TextEnds ys → TextEnds zs → (d ≡ e) × (ys ≡ zs)
definition_same read d e xs [] zs h g f k a b = absurd a
definition_same read d e xs (y ∷ ys) [] h g f k a b = absurd b
definition_same read d e xs (y ∷ ys) (z ∷ zs) h g f k a b =
    let q : EndsDefinitionAt d.name d.at d.params d.form d.body (y ∷ ys) ≡ EndsDefinitionAt e.name e.at e.params e.form e.body (z ∷ zs) =
    sym (read xs ys y d.name d.at d.params d.form d.body h f a) ∙ read xs zs z e.name e.at e.params e.form e.body g k b in
    (same_definition d e (y ∷ ys) (z ∷ zs) q, definition_behind d.name e.name d.at e.at d.params e.params d.form e.form d.body e.body (y ∷ ys) (z ∷ zs) q)
