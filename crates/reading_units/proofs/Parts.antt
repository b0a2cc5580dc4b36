-- Parts of the slice: one behind another, lists that grow at their end, and the units and the module that they make.
use Rattle.std.specs.Prelude.{◌≡◌, ℕ, zero, suc, ◌+◌, ◌<◌, ◌≤◌, List, [], ◌∷◌, ◌++◌, drop, length, refl}
use Rattle.std.proofs.Common.{append_assoc, sym, ap, subst, ◌∙◌, inl, inr, arith}
use Rattle.std.proofs.lemmas.List.{append-nil}
use Rattle.reading_trees.specs.declared.laid.Laid.{Laid}
use Rattle.reading_tokens.specs.declared.token.Kind.TheVariants as kinds
use Rattle.reading_tokens.specs.declared.token.Word.TheVariants as words
use Rattle.reading_tokens.specs.declared.token.Symbol.TheVariants as symbols
use Rattle.reading_tokens.specs.declared.token.Foreign.TheVariants as foreign
use Rattle.reading_trees.specs.declared.expr.Definition.{Definition}
use Rattle.reading_trees.specs.declared.module.Declared.{Declared}
use Rattle.reading_trees.specs.declared.module.DeclaredOperator.{DeclaredOperator}
use Rattle.reading_trees.specs.declared.module.With.{With}
use Rattle.reading_trees.specs.declared.module.Made.{Made}
use Rattle.reading_trees.specs.declared.module.Unit.{Unit as ModuleUnit}
use Rattle.reading_trees.specs.declared.module.Unit.TheVariants as units
use Rattle.reading_trees.specs.Trees.{Tree}
use Rattle.reading_trees.specs.Grammar.{◌⨟◌, token, sign, word, name, some_token, NamesText, DefinitionRest}
use Rattle.reading_trees.specs.Fits.{Fits, Spells}
use Rattle.reading_trees.specs.Modules.{WithText, MoreWithsText, WithsText, WithsFit, DeclaredText, DeclaredNamesText, PlacesText, MaybePlaces, DeclaredOperatorText, DeclaredOperatorsText, underscore, recursive_word, UnitText, UnitsText, UnitFits, UnitsFit, MaybeTitle, ExtendsText, SpellsModule, variable_word, constant_word, assume_word, theorem_word}
use Rattle.reading_units.specs.Parts.{Part}
use Rattle.reading_units.specs.Reads.{GivenSoFar}
use Rattle.reading_units.specs.Refusals.{ShallowWholeModule, ShallowWholeUnits}
use Rattle.reading_units.specs.Rests.{InstanceBegins, Marked, names_of}
use Rattle.reading_units.specs.declared.marks.Mark.{Mark}
use Rattle.reading_units.specs.declared.marks.Mark.TheVariants as marks
use Rattle.reading_units.proofs.Official.{marked_text}
use Rattle.reading_units.proofs.OneModuleTokens.{tail_of}

-- ---- lists that grow at their end

more_declared : (ds : List Declared) (d : Declared) (ws xs ys zs : List Laid) → DeclaredNamesText ds ws xs → sign symbols.Comma xs ys → DeclaredText d ys zs → DeclaredNamesText (ds ++ d ∷ []) ws zs
more_declared [] d ws xs ys zs h c t = absurd h
more_declared (e ∷ []) d ws xs ys zs h c t = (xs, h, (ys, c, t))
more_declared (e ∷ f ∷ ds) d ws xs ys zs h c t = (h.0, h.1, (h.2.0, h.2.1, more_declared (f ∷ ds) d h.2.0 xs ys zs h.2.2 c t))

more_names : (ns : List (List ℕ)) (n : List ℕ) (ws xs ys zs : List Laid) → NamesText ns ws xs → sign symbols.Comma xs ys → name n ys zs → NamesText (ns ++ n ∷ []) ws zs
more_names [] n ws xs ys zs h c t = absurd h
more_names (e ∷ []) n ws xs ys zs h c t = (xs, h, (ys, c, t))
more_names (e ∷ f ∷ ns) n ws xs ys zs h c t = (h.0, h.1, (h.2.0, h.2.1, more_names (f ∷ ns) n h.2.0 xs ys zs h.2.2 c t))

more_places : (n : ℕ) (ws xs ys zs : List Laid) → PlacesText n ws xs → sign symbols.Comma xs ys → underscore ys zs → PlacesText (suc n) ws zs
more_places zero ws xs ys zs h c t = absurd h
more_places (suc zero) ws xs ys zs h c t = (xs, h, (ys, c, t))
more_places (suc (suc n)) ws xs ys zs h c t = (h.0, h.1, (h.2.0, h.2.1, more_places (suc n) h.2.0 xs ys zs h.2.2 c t))

more_operators : (ds : List DeclaredOperator) (d : DeclaredOperator) (ws xs ys zs : List Laid) → DeclaredOperatorsText ds ws xs → sign symbols.Comma xs ys → DeclaredOperatorText d ys zs → DeclaredOperatorsText (ds ++ d ∷ []) ws zs
more_operators [] d ws xs ys zs h c t = absurd h
more_operators (e ∷ []) d ws xs ys zs h c t = (xs, h, (ys, c, t))
more_operators (e ∷ f ∷ ds) d ws xs ys zs h c t = (h.0, h.1, (h.2.0, h.2.1, more_operators (f ∷ ds) d h.2.0 xs ys zs h.2.2 c t))

more_withs : (ws : List With) (before : List (List ℕ)) (w : With) (xs a b c : List Laid) → MoreWithsText before ws xs a → sign symbols.Comma a b → WithText (before ++ names_of ws) w b c → MoreWithsText before (ws ++ w ∷ []) xs c
more_withs [] before w xs a b c h k t = (b, subst (λ v. sign symbols.Comma v b) (sym h) k, (c, subst (λ v. WithText v w b c) (append-nil before) t, refl))
more_withs (v ∷ ws) before w xs a b c h k t =
    (h.0, h.1, (h.2.0, h.2.1, more_withs ws (before ++ v.name ∷ []) w h.2.0 a b c h.2.2 k (subst (λ u. WithText u w b c) (sym (append_assoc before (v.name ∷ []) (names_of ws))) t)))

all_withs : (ws : List With) (w : With) (xs a b c : List Laid) → WithsText ws xs a → (ws ≡ [] → ⊥) → sign symbols.Comma a b → WithText (names_of ws) w b c → WithsText (ws ++ w ∷ []) xs c
all_withs [] w xs a b c h some k t = absurd (some refl)
all_withs (v ∷ ws) w xs a b c h some k t = (h.0, h.1, (h.2.0, h.2.1, more_withs ws (v.name ∷ []) w h.2.0 a b c h.2.2 k t))

names_append : (ws : List With) (w : With) → names_of (ws ++ w ∷ []) ≡ names_of ws ++ w.name ∷ []
names_append [] w = refl
names_append (v ∷ ws) w = ap (λ ns. v.name ∷ ns) (names_append ws w)

withs_fit : (ws : List With) (w : With) → WithsFit ws → Fits w.by → WithsFit (ws ++ w ∷ [])
withs_fit [] w h f = (f, tt)
withs_fit (v ∷ ws) w h f = (h.0, withs_fit ws w h.1 f)

more_units : (us : List ModuleUnit) (u : ModuleUnit) (xs ys zs : List Laid) → UnitsText us xs ys → UnitText u ys zs → UnitsText (us ++ u ∷ []) xs zs
more_units [] u xs ys zs h t = (zs, subst (λ x. UnitText u x zs) (sym h) t, refl)
more_units (v ∷ us) u xs ys zs h t = (h.0, h.1, more_units us u h.0 ys zs h.2 t)

more_fit : (us : List ModuleUnit) (u : ModuleUnit) → UnitsFit us → UnitFits u → UnitsFit (us ++ u ∷ [])
more_fit [] u h t = (t, tt)
more_fit (v ∷ us) u h t = (h.0, more_fit us u h.1 t)

-- ---- names

pub one_declared : (d : Declared) (ds : List Declared) (xs : List Laid) (a b : ℕ) → Part (DeclaredText d) xs a b → ds ≡ [] ++ d ∷ [] → Part (DeclaredNamesText ds) xs a b
one_declared d ds xs a b p e = subst (λ l. Part (DeclaredNamesText l) xs a b) (sym e) (record { text = p.text; ahead = p.ahead; within = p.within })

pub one_more_declared : (ds es : List Declared) (d : Declared) (xs : List Laid) (a b c : ℕ) → Part (DeclaredNamesText ds) xs a b → Part (sign symbols.Comma) xs b (b + 1) → Part (DeclaredText d) xs (b + 1) c → es ≡ ds ++ d ∷ [] → Part (DeclaredNamesText es) xs a c
one_more_declared ds es d xs a b c p q r e =
    let a_b : a < b = p.ahead in
    let b_c : b + 1 < c = r.ahead in
    subst (λ l. Part (DeclaredNamesText l) xs a c) (sym e)
    (record { text = more_declared ds d (drop a xs) (drop b xs) (drop (b + 1) xs) (drop c xs) p.text q.text r.text; ahead = omega (arith, a_b, b_c); within = r.within })

pub one_name : (d : Declared) (ns : List (List ℕ)) (xs : List Laid) (a b : ℕ) → Part (DeclaredText d) xs a b → ns ≡ [] ++ d.name ∷ [] → Part (NamesText ns) xs a b
one_name d ns xs a b p e = subst (λ l. Part (NamesText l) xs a b) (sym e) (record { text = (d.at, p.text); ahead = p.ahead; within = p.within })

pub one_more_name : (ns ms : List (List ℕ)) (d : Declared) (xs : List Laid) (a b c : ℕ) → Part (NamesText ns) xs a b → Part (sign symbols.Comma) xs b (b + 1) → Part (DeclaredText d) xs (b + 1) c → ms ≡ ns ++ d.name ∷ [] → Part (NamesText ms) xs a c
one_more_name ns ms d xs a b c p q r e =
    let a_b : a < b = p.ahead in
    let b_c : b + 1 < c = r.ahead in
    subst (λ l. Part (NamesText l) xs a c) (sym e)
    (record { text = more_names ns d.name (drop a xs) (drop b xs) (drop (b + 1) xs) (drop c xs) p.text q.text (d.at, r.text); ahead = omega (arith, a_b, b_c); within = r.within })

-- ---- operators

pub one_place : (n : ℕ) (xs : List Laid) (a b : ℕ) → Part underscore xs a b → n ≡ 1 → Part (PlacesText n) xs a b
one_place n xs a b p e = subst (λ k. Part (PlacesText k) xs a b) (sym e) (record { text = p.text; ahead = p.ahead; within = p.within })

pub one_more_place : (n m : ℕ) (xs : List Laid) (a b c : ℕ) → Part (PlacesText n) xs a b → Part (sign symbols.Comma) xs b (b + 1) → Part underscore xs (b + 1) c → m ≡ n + 1 → Part (PlacesText m) xs a c
one_more_place n m xs a b c p q r e =
    let a_b : a < b = p.ahead in
    let b_c : b + 1 < c = r.ahead in
    let k : suc n ≡ m = omega (arith, e) in
    subst (λ k. Part (PlacesText k) xs a c) k (record { text = more_places n (drop a xs) (drop b xs) (drop (b + 1) xs) (drop c xs) p.text q.text r.text; ahead = omega (arith, a_b, b_c); within = r.within })

pub some_places : (n : ℕ) (xs : List Laid) (a b c d : ℕ) → Part (sign symbols.OpenParenthesis) xs a b → Part (PlacesText n) xs b c → Part (sign symbols.CloseParenthesis) xs c d → MaybePlaces n (drop a xs) (drop d xs)
some_places zero xs a b c d o p k = absurd p.text
some_places (suc n) xs a b c d o p k = (drop b xs, o.text, (drop c xs, p.text, k.text))

pub named_operator : (name : Declared) (d : DeclaredOperator) (xs : List Laid) (a b c : ℕ) → Part (DeclaredText name) xs a b → MaybePlaces d.parameters (drop b xs) (drop c xs) → b ≤ c → c < length xs → d.name ≡ name.name → d.at ≡ name.at
    → Part (DeclaredOperatorText d) xs a c
named_operator name d xs a b c p h le within n at =
    let a_b : a < b = p.ahead in
    let named : token d.at (kinds.Name d.name) (drop a xs) (drop b xs) =
    subst (λ v. token v (kinds.Name d.name) (drop a xs) (drop b xs)) (sym at) (subst (λ v. token name.at (kinds.Name v) (drop a xs) (drop b xs)) (sym n) p.text) in
    record { text = (drop b xs, named, h); ahead = omega (arith, a_b, le); within = within }

pub one_operator : (d : DeclaredOperator) (ds : List DeclaredOperator) (xs : List Laid) (a b : ℕ) → Part (DeclaredOperatorText d) xs a b → ds ≡ [] ++ d ∷ [] → Part (DeclaredOperatorsText ds) xs a b
one_operator d ds xs a b p e = subst (λ l. Part (DeclaredOperatorsText l) xs a b) (sym e) (record { text = p.text; ahead = p.ahead; within = p.within })

pub one_more_operator : (ds es : List DeclaredOperator) (d : DeclaredOperator) (xs : List Laid) (a b c : ℕ) → Part (DeclaredOperatorsText ds) xs a b → Part (sign symbols.Comma) xs b (b + 1) → Part (DeclaredOperatorText d) xs (b + 1) c → es ≡ ds ++ d ∷ []
    → Part (DeclaredOperatorsText es) xs a c
one_more_operator ds es d xs a b c p q r e =
    let a_b : a < b = p.ahead in
    let b_c : b + 1 < c = r.ahead in
    subst (λ l. Part (DeclaredOperatorsText l) xs a c) (sym e)
    (record { text = more_operators ds d (drop a xs) (drop b xs) (drop (b + 1) xs) (drop c xs) p.text q.text r.text; ahead = omega (arith, a_b, b_c); within = r.within })

-- ---- what is extended

pub some_extended : (ns : List (List ℕ)) (xs : List Laid) (a b : ℕ) → Part (word words.Extends) xs a (a + 1) → Part (NamesText ns) xs (a + 1) b → ExtendsText ns (drop a xs) (drop b xs)
some_extended [] xs a b p q = absurd q.text
some_extended (n ∷ ns) xs a b p q = (drop (a + 1) xs, p.text, q.text)

-- ---- what an instance is given

pub more_names_given : (ws vs : List With) (w : With) → vs ≡ ws ++ w ∷ [] → names_of vs ≡ names_of ws ++ w.name ∷ []
more_names_given ws vs w e = ap names_of e ∙ names_append ws w

pub one_given : (bs ws : List With) (w : With) (xs : List Laid) (a b : ℕ) → bs ≡ [] → Part (some_token (kinds.Foreign foreign.With)) xs a (a + 1) → Part (WithText (names_of bs) w) xs (a + 1) b → ws ≡ bs ++ w ∷ [] → Part (WithsText ws) xs a b
one_given bs ws w xs a b none p q e =
    let a_b : a + 1 < b = q.ahead in
    let given : WithText [] w (drop (a + 1) xs) (drop b xs) = subst (λ v. WithText (names_of v) w (drop (a + 1) xs) (drop b xs)) none q.text in
    let same : ws ≡ w ∷ [] = e ∙ ap (λ v. v ++ w ∷ []) none in
    subst (λ l. Part (WithsText l) xs a b) (sym same) (record { text = (drop (a + 1) xs, p.text, (drop b xs, given, refl)); ahead = omega (arith, a_b); within = q.within })

pub one_given_fits : (bs ws : List With) (w : With) → bs ≡ [] → Fits w.by → ws ≡ bs ++ w ∷ [] → WithsFit ws
one_given_fits bs ws w none f e = subst WithsFit (sym (e ∙ ap (λ v. v ++ w ∷ []) none)) (f, tt)

-- some were given
some_so_far : (ws : List With) (xs ys : List Laid) → GivenSoFar (names_of ws) xs ys → ws ≡ [] → ⊥
some_so_far ws xs ys g e = no_end_nothing g.others g.last (sym (ap names_of e) ∙ g.all)
  where
    no_end_nothing : (ns : List (List ℕ)) (n : List ℕ) → [] ≡ ns ++ n ∷ [] → ⊥
    no_end_nothing [] n q = cc
    no_end_nothing (m ∷ ns) n q = cc

pub one_more_given : (ws vs : List With) (w : With) (xs : List Laid) (a b c : ℕ) → Part (WithsText ws) xs a b → GivenSoFar (names_of ws) (drop a xs) (drop b xs) → Part (sign symbols.Comma) xs b (b + 1) → Part (WithText (names_of ws) w) xs (b + 1) c → vs ≡ ws ++ w ∷ [] → Part (WithsText vs) xs a c
one_more_given ws vs w xs a b c p g q r e =
    let a_b : a < b = p.ahead in
    let b_c : b + 1 < c = r.ahead in
    subst (λ l. Part (WithsText l) xs a c) (sym e)
    (record { text = all_withs ws w (drop a xs) (drop b xs) (drop (b + 1) xs) (drop c xs) p.text (some_so_far ws (drop a xs) (drop b xs) g) q.text r.text; ahead = omega (arith, a_b, b_c); within = r.within })

pub one_more_given_fits : (ws vs : List With) (w : With) → WithsFit ws → Fits w.by → vs ≡ ws ++ w ∷ [] → WithsFit vs
one_more_given_fits ws vs w h f e = subst WithsFit (sym e) (withs_fit ws w h f)

pub instance_unit : (own of_module : Declared) (m : Made) (xs : List Laid) (a b c d e : ℕ) → Part (DeclaredText own) xs a b → Part InstanceBegins xs a c → Part (DeclaredText of_module) xs c d → WithsText m.withs (drop d xs) (drop e xs) → d ≤ e → e < length xs → m.name ≡ own.name → m.at ≡ own.at → m.module_name ≡ of_module.name
    → Part (UnitText (units.Instance m)) xs a e
instance_unit own of_module m xs a b c d e p q r withs le within n at called =
    let begins = q.text in
    let behind : drop b xs ≡ begins.0 = ap tail_of (sym p.text) ∙ marked_tail marks.Name (drop a xs) begins.0 begins.1 in
    let here : token own.at (kinds.Name own.name) (drop a xs) begins.0 = subst (λ v. token own.at (kinds.Name own.name) (drop a xs) v) behind p.text in
    let named : token m.at (kinds.Name m.name) (drop a xs) begins.0 =
    subst (λ v. token v (kinds.Name m.name) (drop a xs) begins.0) (sym at) (subst (λ v. token own.at (kinds.Name v) (drop a xs) begins.0) (sym n) here) in
    let there : name m.module_name (drop c xs) (drop d xs) = subst (λ v. name v (drop c xs) (drop d xs)) (sym called) (of_module.at, r.text) in
    let a_c : a < c = q.ahead in
    let c_d : c < d = r.ahead in
    record {
      text = (begins.0, named, (begins.2.0, marked_text marks.Defined begins.0 begins.2.0 begins.2.1, (drop c xs, marked_text marks.Instance begins.2.0 (drop c xs) begins.2.2, (drop d xs, there, withs))));
      ahead = omega (arith, a_c, c_d, le);
      within = within;
    }
  where
    marked_tail : (m : Mark) (xs ys : List Laid) → Marked m xs ys → tail_of xs ≡ ys
    marked_tail m [] ys h = absurd h
    marked_tail m (x ∷ xs) ys h = h.1

-- ---- units

pub variables_unit : (ds : List Declared) (xs : List Laid) (a b : ℕ) → Part variable_word xs a (a + 1) → Part (DeclaredNamesText ds) xs (a + 1) b → Part (UnitText (units.Variables ds)) xs a b
variables_unit ds xs a b p q =
    let a_b : a + 1 < b = q.ahead in
    record { text = (drop (a + 1) xs, p.text, q.text); ahead = omega (arith, a_b); within = q.within }

pub constants_unit : (ds : List Declared) (xs : List Laid) (a b : ℕ) → Part constant_word xs a (a + 1) → Part (DeclaredNamesText ds) xs (a + 1) b → Part (UnitText (units.Constants ds)) xs a b
constants_unit ds xs a b p q =
    let a_b : a + 1 < b = q.ahead in
    record { text = (drop (a + 1) xs, p.text, q.text); ahead = omega (arith, a_b); within = q.within }

pub recursive_unit : (ds : List DeclaredOperator) (xs : List Laid) (a b : ℕ) → Part recursive_word xs a (a + 1) → Part (DeclaredOperatorsText ds) xs (a + 1) b → Part (UnitText (units.Recursive ds)) xs a b
recursive_unit ds xs a b p q =
    let a_b : a + 1 < b = q.ahead in
    record { text = (drop (a + 1) xs, p.text, q.text); ahead = omega (arith, a_b); within = q.within }

pub define_unit : (d : Definition) (xs : List Laid) (a b : ℕ) → (token d.at (kinds.Name d.name) ⨟ DefinitionRest d.params d.form d.body) (drop a xs) (drop b xs) → a < b → b < length xs → Part (UnitText (units.Define d)) xs a b
define_unit d xs a b h lt within = record { text = h; ahead = lt; within = within }

pub assume_unit : (e : Tree) (xs : List Laid) (a s b : ℕ) → Part assume_word xs a (a + 1) → MaybeTitle (drop (a + 1) xs) (drop s xs) → a + 1 ≤ s → Spells e (drop s xs) (drop b xs) → s < b → b < length xs → Part (UnitText (units.Assume e)) xs a b
assume_unit e xs a s b p title ge h lt within = record { text = (drop (a + 1) xs, p.text, (drop s xs, title, h.text)); ahead = omega (arith, ge, lt); within = within }

pub theorem_unit : (e : Tree) (xs : List Laid) (a s b : ℕ) → Part theorem_word xs a (a + 1) → MaybeTitle (drop (a + 1) xs) (drop s xs) → a + 1 ≤ s → Spells e (drop s xs) (drop b xs) → s < b → b < length xs → Part (UnitText units.Passed) xs a b
theorem_unit e xs a s b p title ge h lt within = record { text = inr (drop (a + 1) xs, p.text, (drop s xs, title, (e, h))); ahead = omega (arith, ge, lt); within = within }

pub dashes_unit : (xs : List Laid) (a b : ℕ) → Part (some_token kinds.Dashes) xs a b → Part (UnitText units.Passed) xs a b
dashes_unit xs a b p = record { text = inl p.text; ahead = p.ahead; within = p.within }

pub one_more_unit : (us vs : List ModuleUnit) (u : ModuleUnit) (xs : List Laid) (a b c : ℕ) → UnitsText us (drop a xs) (drop b xs) → Part (UnitText u) xs b c → vs ≡ us ++ u ∷ [] → UnitsText vs (drop a xs) (drop c xs)
one_more_unit us vs u xs a b c h p e = subst (λ l. UnitsText l (drop a xs) (drop c xs)) (sym e) (more_units us u (drop a xs) (drop b xs) (drop c xs) h p.text)

pub one_more_fits : (us vs : List ModuleUnit) (u : ModuleUnit) → UnitsFit us → UnitFits u → vs ≡ us ++ u ∷ [] → UnitsFit vs
one_more_fits us vs u h f e = subst UnitsFit (sym e) (more_fit us u h f)

-- ---- the module

pub whole_module : (d : Declared) (ns : List (List ℕ)) (us : List ModuleUnit) (xs : List Laid) (a b c e f g h : ℕ) → Part (some_token kinds.Dashes) xs 0 a → Part (word words.Module) xs a b → Part (DeclaredText d) xs b c → Part (some_token kinds.Dashes) xs c e → ExtendsText ns (drop e xs) (drop f xs) → UnitsText us (drop f xs) (drop g xs) → UnitsFit us → Part (some_token kinds.Equals) xs g h → some_token kinds.End (drop h xs) [] → SpellsModule (record { name = d.name; at = d.at; extends = ns; units = us }) xs
whole_module d ns us xs a b c e f g h first heading named second extended spelled fits equals end =
    record { text = (drop a xs, first.text, (drop b xs, heading.text, (drop c xs, named.text, (drop e xs, second.text, (drop f xs, extended, (drop g xs, spelled, (drop h xs, equals.text, end))))))); fits = fits }

-- with units whose tokens are shallow
pub whole_shallow : (d : Declared) (ns : List (List ℕ)) (xs : List Laid) (a b c e f g h : ℕ) → Part (some_token kinds.Dashes) xs 0 a → Part (word words.Module) xs a b → Part (DeclaredText d) xs b c → Part (some_token kinds.Dashes) xs c e → ExtendsText ns (drop e xs) (drop f xs) → ShallowWholeUnits (drop f xs) (drop g xs) → Part (some_token kinds.Equals) xs g h → some_token kinds.End (drop h xs) [] → ShallowWholeModule xs
whole_shallow d ns xs a b c e f g h first heading named second extended units equals end =
    record {
      first = drop f xs;
      last = drop g xs;
      heading = (drop a xs, first.text, (drop b xs, heading.text, (drop c xs, (d.name, (d.at, named.text)), (drop e xs, second.text, (ns, extended)))));
      units = units;
      ends = (drop h xs, equals.text, end);
    }
