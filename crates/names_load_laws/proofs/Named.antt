-- Each definition of a module that is read has a name.
use Rattle.std.proofs.Common.{◌≡◌, ◌≢◌, inl, inr, ℕ, zero, suc, List, [], ◌∷◌, ◌++◌, refl, sym, ap, subst}
use Rattle.std.proofs.lemmas.List.Elements.{All-cons, All-nil, All-append}
use Rattle.std.specs.Prelude.{All}
use Rattle.base_core.specs.declared.place.Place.{Place}
use Rattle.reading_trees.specs.declared.laid.Laid.{Laid}
use Rattle.reading_trees.specs.declared.laid.Laid.TheVariants.{Plain, ListOpen, ListItem, ListClose}
use Rattle.reading_trees.specs.declared.module.Declared.{Declared}
use Rattle.reading_trees.specs.declared.module.DeclaredOperator.{DeclaredOperator}
use Rattle.reading_trees.specs.declared.module.With.{With}
use Rattle.reading_trees.specs.declared.module.Made.{Made}
use Rattle.reading_trees.specs.declared.module.Module.{Module}
use Rattle.reading_trees.specs.declared.module.Unit.{Unit as ModuleUnit}
use Rattle.reading_trees.specs.declared.module.Unit.TheVariants.{Variables, Constants, Recursive, Define, Instance, Assume, Passed}
use Rattle.reading_tokens.specs.declared.token.Kind.{Kind}
use Rattle.reading_tokens.specs.declared.token.Kind.TheVariants as kinds
use Rattle.reading_tokens.specs.declared.token.Foreign.TheVariants as foreign
use Rattle.reading_tokens.specs.declared.token.Symbol.TheVariants as symbols
use Rattle.reading_tokens.specs.declared.token.Word.TheVariants as words
use Rattle.reading_trees.specs.Grammar.{Span, ◌⨟◌, either, token, some_token, word, NamesText, Text}
use Rattle.reading_trees.specs.Laid.{tokens_of}
use Rattle.reading_trees.specs.Modules.{DeclaredNamesText, PlacesText, MaybePlaces, DeclaredOperatorText, DeclaredOperatorsText, underscore, MaybeTitle, ExtendsText, WithText, MoreWithsText, WithsText, InstanceText, SomeExpression, UnitText, UnitsText, SpellsModule, variable_word, constant_word, assume_word, theorem_word}
use Rattle.reading_trees.specs.Trees.{Tree}
use Rattle.reading_machine.specs.LawsOfExtents.{LocalText, LocalDefinition}
use Rattle.names_program.specs.InUnits.{definitions_in}
use Rattle.names_program.specs.Names.{names_defined}
use Rattle.reading_configuration.proofs.TokensHeld.{Holds, AllHold}

-- what each token among laid ones holds
abbrev pub LaidHold : List Laid → Type 0
LaidHold [] = Unit {0}
LaidHold (Plain t ∷ xs) = Holds t.kind × LaidHold xs
LaidHold (ListOpen b at ∷ xs) = LaidHold xs
LaidHold (ListItem b at ∷ xs) = LaidHold xs
LaidHold (ListClose at ∷ xs) = LaidHold xs

pub laid_hold : (xs : List Laid) → AllHold (tokens_of xs) → LaidHold xs
laid_hold [] h = tt
laid_hold (Plain t ∷ xs) h = (h.0, laid_hold xs h.1)
laid_hold (ListOpen b at ∷ xs) h = laid_hold xs h
laid_hold (ListItem b at ∷ xs) h = laid_hold xs h.1
laid_hold (ListClose at ∷ xs) h = laid_hold xs h

behind : (text xs : List Laid) → LaidHold (text ++ xs) → LaidHold xs
behind [] xs h = h
behind (Plain t ∷ text) xs h = behind text xs h.1
behind (ListOpen b at ∷ text) xs h = behind text xs h
behind (ListItem b at ∷ text) xs h = behind text xs h
behind (ListClose at ∷ text) xs h = behind text xs h

-- ---- parts, behind which the same holds

abbrev Keeps : Span → Type 0
Keeps R = (xs ys : List Laid) → R xs ys → LaidHold xs → LaidHold ys

keeps_then : (R S : Span) → Keeps R → Keeps S → Keeps (R ⨟ S)
keeps_then R S f g xs zs h k = g h.0 zs h.2 (f xs h.0 h.1 k)

keeps_either : (R S : Span) → Keeps R → Keeps S → Keeps (either R S)
keeps_either R S f g xs ys (inl h) k = f xs ys h k
keeps_either R S f g xs ys (inr h) k = g xs ys h k

pub keeps_token : (at : Place) (kind : Kind) → Keeps (token at kind)
keeps_token at kind xs ys e k = let h : LaidHold (Plain (record { kind = kind; place = at }) ∷ ys) = subst LaidHold e k in h.1

pub keeps_some : (kind : Kind) → Keeps (some_token kind)
keeps_some kind xs ys h k = keeps_token h.0 kind xs ys h.1 k

keeps_names : (ns : List (List ℕ)) → Keeps (NamesText ns)
keeps_names [] xs ys h k = absurd h
keeps_names (n ∷ []) xs ys h k = keeps_some (kinds.Name n) xs ys h k
keeps_names (n ∷ m ∷ ns) xs ys h k = keeps_names (m ∷ ns) h.2.0 ys h.2.2 (keeps_some (kinds.Symbol symbols.Comma) h.0 h.2.0 h.2.1 (keeps_some (kinds.Name n) xs h.0 h.1 k))

pub keeps_extends : (ns : List (List ℕ)) → Keeps (ExtendsText ns)
keeps_extends [] xs ys e k = subst LaidHold e k
keeps_extends (n ∷ ns) xs ys h k = keeps_names (n ∷ ns) h.0 ys h.2 (keeps_some (kinds.Word words.Extends) xs h.0 h.1 k)

keeps_declared : (ds : List Declared) → Keeps (DeclaredNamesText ds)
keeps_declared [] xs ys h k = absurd h
keeps_declared (d ∷ []) xs ys h k = keeps_token d.at (kinds.Name d.name) xs ys h k
keeps_declared (d ∷ e ∷ ds) xs ys h k = keeps_declared (e ∷ ds) h.2.0 ys h.2.2 (keeps_some (kinds.Symbol symbols.Comma) h.0 h.2.0 h.2.1 (keeps_token d.at (kinds.Name d.name) xs h.0 h.1 k))

keeps_underscore : Keeps underscore
keeps_underscore = keeps_some (kinds.Foreign foreign.Underscore)

keeps_places : (n : ℕ) → Keeps (PlacesText n)
keeps_places zero xs ys h k = absurd h
keeps_places (suc zero) xs ys h k = keeps_underscore xs ys h k
keeps_places (suc (suc n)) xs ys h k = keeps_places (suc n) h.2.0 ys h.2.2 (keeps_some (kinds.Symbol symbols.Comma) h.0 h.2.0 h.2.1 (keeps_underscore xs h.0 h.1 k))

keeps_maybe_places : (n : ℕ) → Keeps (MaybePlaces n)
keeps_maybe_places zero xs ys e k = subst LaidHold e k
keeps_maybe_places (suc n) xs ys h k =
    keeps_some (kinds.Symbol symbols.CloseParenthesis) h.2.0 ys h.2.2 (keeps_places (suc n) h.0 h.2.0 h.2.1 (keeps_some (kinds.Symbol symbols.OpenParenthesis) xs h.0 h.1 k))

keeps_operator : (d : DeclaredOperator) → Keeps (DeclaredOperatorText d)
keeps_operator d xs ys h k = keeps_maybe_places d.parameters h.0 ys h.2 (keeps_token d.at (kinds.Name d.name) xs h.0 h.1 k)

keeps_operators : (ds : List DeclaredOperator) → Keeps (DeclaredOperatorsText ds)
keeps_operators [] xs ys h k = absurd h
keeps_operators (d ∷ []) xs ys h k = keeps_operator d xs ys h k
keeps_operators (d ∷ e ∷ ds) xs ys h k = keeps_operators (e ∷ ds) h.2.0 ys h.2.2 (keeps_some (kinds.Symbol symbols.Comma) h.0 h.2.0 h.2.1 (keeps_operator d xs h.0 h.1 k))

keeps_title : Keeps MaybeTitle
keeps_title xs ys (inl e) k = subst LaidHold e k
keeps_title xs ys (inr h) k = keeps_some (kinds.Symbol symbols.Defined) h.1.0 ys h.1.2 (keeps_some (kinds.Name h.0) xs h.1.0 h.1.1 k)

keeps_two : (k l : Kind) → Keeps (either (some_token k) (some_token l))
keeps_two k l = keeps_either (some_token k) (some_token l) (keeps_some k) (keeps_some l)

keeps_variable : Keeps variable_word
keeps_variable = keeps_two (kinds.Word words.Variable) (kinds.Word words.Variables)

keeps_constant : Keeps constant_word
keeps_constant = keeps_two (kinds.Word words.Constant) (kinds.Word words.Constants)

keeps_assume : Keeps assume_word
keeps_assume = keeps_either (word words.Assume) _ (keeps_some (kinds.Word words.Assume)) (keeps_two (kinds.Word words.Assumption) (kinds.Word words.Axiom))

keeps_theorem : Keeps theorem_word
keeps_theorem = keeps_either _ _ (keeps_two (kinds.Word words.Theorem) (kinds.Word words.Lemma)) (keeps_two (kinds.Word words.Proposition) (kinds.Word words.Corollary))

keeps_text : LocalText → (e : Tree) → Keeps (Text e)
keeps_text local e xs ys h k = let p = local e xs ys h in behind p.0 ys (subst LaidHold p.1 k)

keeps_expression : LocalText → Keeps SomeExpression
keeps_expression local xs ys h k = keeps_text local h.0 xs ys h.1.text k

keeps_with : LocalText → (before : List (List ℕ)) (w : With) → Keeps (WithText before w)
keeps_with local before w xs ys h k =
    let s = h.1 in
    keeps_text local w.by s.2.0 ys s.2.2 (keeps_some (kinds.Symbol symbols.LeftArrow) s.0 s.2.0 s.2.1 (keeps_token w.at (kinds.Name w.name) xs s.0 s.1 k))

keeps_more : LocalText → (ws : List With) (before : List (List ℕ)) → Keeps (MoreWithsText before ws)
keeps_more local [] before xs ys e k = subst LaidHold e k
keeps_more local (w ∷ ws) before xs ys h k =
    keeps_more local ws (before ++ w.name ∷ []) h.2.0 ys h.2.2 (keeps_with local before w h.0 h.2.0 h.2.1 (keeps_some (kinds.Symbol symbols.Comma) xs h.0 h.1 k))

keeps_withs : LocalText → (ws : List With) → Keeps (WithsText ws)
keeps_withs local [] xs ys e k = subst LaidHold e k
keeps_withs local (w ∷ ws) xs ys h k =
    keeps_more local ws (w.name ∷ []) h.2.0 ys h.2.2 (keeps_with local [] w h.0 h.2.0 h.2.1 (keeps_some (kinds.Foreign foreign.With) xs h.0 h.1 k))

keeps_instance : LocalText → (m : Made) → Keeps (InstanceText m)
keeps_instance local m xs ys h k =
    let s = h.2 in
    let t = s.2 in
    let named = t.2 in
    let behind : LaidHold t.0 = keeps_some (kinds.Foreign foreign.Instance) s.0 t.0 t.1 (keeps_some (kinds.Symbol symbols.Defined) h.0 s.0 s.1 (keeps_token m.at (kinds.Name m.name) xs h.0 h.1 k)) in
    keeps_withs local m.withs named.0 ys named.2 (keeps_some (kinds.Name m.module_name) t.0 named.0 named.1 behind)

pub keeps_unit : LocalText → LocalDefinition → (u : ModuleUnit) → Keeps (UnitText u)
keeps_unit local definition (Variables ds) xs ys h k = keeps_declared ds h.0 ys h.2 (keeps_variable xs h.0 h.1 k)
keeps_unit local definition (Constants ds) xs ys h k = keeps_declared ds h.0 ys h.2 (keeps_constant xs h.0 h.1 k)
keeps_unit local definition (Recursive ds) xs ys h k = keeps_operators ds h.0 ys h.2 (keeps_some (kinds.Foreign foreign.Recursive) xs h.0 h.1 k)
keeps_unit local definition (Define d) xs ys h k = let p = definition d.name d.at d.params d.form d.body xs ys h in behind p.0 ys (subst LaidHold p.1 k)
keeps_unit local definition (Assume e) xs ys h k = keeps_text local e h.2.0 ys h.2.2 (keeps_title h.0 h.2.0 h.2.1 (keeps_assume xs h.0 h.1 k))
keeps_unit local definition (Instance m) xs ys h k = keeps_instance local m xs ys h k
keeps_unit local definition Passed xs ys (inl h) k = keeps_some kinds.Dashes xs ys h k
keeps_unit local definition Passed xs ys (inr h) k = keeps_expression local h.2.0 ys h.2.2 (keeps_title h.0 h.2.0 h.2.1 (keeps_theorem xs h.0 h.1 k))

-- ---- names

abbrev pub AreNamed : List ModuleUnit → Type 0
AreNamed us = All (λ n. n ≢ []) (names_defined (definitions_in us))

named_before : (u : ModuleUnit) (us : List ModuleUnit) (xs ys : List Laid) → UnitText u xs ys → LaidHold xs → AreNamed us → AreNamed (u ∷ us)
named_before (Variables ds) us xs ys h k n = n
named_before (Constants ds) us xs ys h k n = n
named_before (Recursive ds) us xs ys h k n = n
named_before (Define d) us xs ys h k n =
    let t : LaidHold (Plain (record { kind = kinds.Name d.name; place = d.at }) ∷ h.0) = subst LaidHold h.1 k in
    All-cons (λ n. n ≢ []) d.name (names_defined (definitions_in us)) t.0.0 n
named_before (Assume e) us xs ys h k n = n
named_before (Instance m) us xs ys h k n = n
named_before Passed us xs ys h k n = n

units_named : LocalText → LocalDefinition → (us : List ModuleUnit) (xs ys : List Laid) → UnitsText us xs ys → LaidHold xs → AreNamed us
units_named local definition [] xs ys h k = All-nil _
units_named local definition (u ∷ us) xs ys h k = named_before u us xs h.0 h.1 k (units_named local definition us h.0 ys h.2 (keeps_unit local definition u xs h.0 h.1 k))

pub module_named : LocalText → LocalDefinition → (m : Module) (laid : List Laid) → SpellsModule m laid → AllHold (tokens_of laid) → AreNamed m.units
module_named local definition m laid s h =
    let t = s.text in
    units_named local definition m.units _ _ t.2.2.2.2.2.1
    (keeps_extends m.extends _ _ t.2.2.2.2.1 (keeps_some kinds.Dashes _ _ t.2.2.2.1 (keeps_token m.at (kinds.Name m.name) _ _ t.2.2.1 (keeps_some (kinds.Word words.Module) _ _ t.2.1 (keeps_some kinds.Dashes _ _ t.1 (laid_hold laid h))))))

names_append : (us vs : List ModuleUnit) → names_defined (definitions_in (us ++ vs)) ≡ names_defined (definitions_in us) ++ names_defined (definitions_in vs)
names_append [] vs = refl
names_append (Variables ds ∷ us) vs = names_append us vs
names_append (Constants ds ∷ us) vs = names_append us vs
names_append (Recursive ds ∷ us) vs = names_append us vs
names_append (Define d ∷ us) vs = ap (λ (ns : List (List ℕ)). d.name ∷ ns) (names_append us vs)
names_append (Assume e ∷ us) vs = names_append us vs
names_append (Instance m ∷ us) vs = names_append us vs
names_append (Passed ∷ us) vs = names_append us vs

pub named_append : (us vs : List ModuleUnit) → AreNamed us → AreNamed vs → AreNamed (us ++ vs)
named_append us vs h k = subst (λ (ns : List (List ℕ)). All (λ n. n ≢ []) ns) (sym (names_append us vs)) (All-append (λ n. n ≢ []) (names_defined (definitions_in us)) (names_defined (definitions_in vs)) h k)
