-- Where each token of what an instance is given is shallow, none of it is the first that stands too deep.
use Rattle.std.proofs.Common.{◌≡◌, ℕ, false, List, [], ◌∷◌, ◌++◌, append_assoc, inl, inr, refl, sym, ap, subst, ◌∙◌}
use Rattle.std.proofs.lemmas.List.{append-nil, append_cancel_right}
use Rattle.base_core.specs.declared.place.Place.{Place}
use Rattle.reading_trees.specs.declared.laid.Laid.{Laid}
use Rattle.reading_trees.specs.declared.laid.Laid.TheVariants.{Plain}
use Rattle.reading_trees.specs.declared.module.Made.{Made}
use Rattle.reading_trees.specs.declared.module.With.{With}
use Rattle.reading_trees.specs.declared.module.Unit.{Unit as ModuleUnit}
use Rattle.reading_trees.specs.declared.module.Unit.TheVariants as units
use Rattle.reading_tokens.specs.declared.token.Kind.TheVariants as kinds
use Rattle.reading_tokens.specs.declared.token.Symbol.TheVariants as symbols
use Rattle.reading_tokens.specs.declared.token.Foreign.TheVariants as foreign
use Rattle.reading_trees.specs.Begun.{Begun}
use Rattle.reading_trees.specs.Trees.{Tree}
use Rattle.reading_trees.specs.Grammar.{◌⨟◌, some_token, sign, Text}
use Rattle.reading_trees.specs.Modules.{InstanceText, MoreWithsText, UnitText, WithText, WithsText}
use Rattle.reading_machine.specs.Beginnings.{FittingBegun}
use Rattle.reading_machine.specs.LawsOfExtents.{LocalText, LocalDefinition}
use Rattle.reading_machine.specs.LawsOfTrees.{EndsText}
use Rattle.reading_expressions.specs.Nesting.{Shallow}
use Rattle.reading_expressions.specs.Refusals.{IsTooNested}
use Rattle.reading_units.specs.Parts.{MarkText}
use Rattle.reading_units.specs.Refusals.{BeginsThen, GivingText, InstanceHead, InstanceStart, ShallowExpression, ShallowGivens, ShallowUnit, ShallowWholeUnit, SomeGiving, SomeGivings, SomeName, TooNestedGiven}
use Rattle.reading_units.specs.Rests.{Expression}
use Rattle.reading_units.specs.declared.marks.Mark.TheVariants as marks
use Rattle.reading_units.proofs.DeepUnits.{OfStated, bare_form, fitting_begun, no_deep_text, stated_no_definition, stating_form, stating_on, unit_first}
use Rattle.reading_units.proofs.InstanceBegins.{fewer, instance_not_shallow, no_head_there}
use Rattle.reading_units.proofs.InstanceTokens.{NoBoth}
use Rattle.reading_units.proofs.Locals.{IsLocal, before_any, local_definition, local_mark, local_text, local_then}
use Rattle.reading_units.proofs.OneModuleInstances.{no_with_word}
use Rattle.reading_units.proofs.OneModuleParts.{no_comma}
use Rattle.reading_units.proofs.OneModuleTokens.{OfVariables, OfConstants, OfRecursive, OfDefinition, OfAssumption, OfPassed, TextEnds, UnitEnds, form_ends, form_of, some_behind, tail_of}
use Rattle.reading_units.proofs.OpenStarts.{open_begun}
use Rattle.reading_units.proofs.SameExtents.{Expressions, text_extent}
use Rattle.reading_units.proofs.ShallowGivens.{local_givens, local_some_giving, local_start}

-- ---- two texts from one point on

pub record TextLaws : Type 0 where
  pub local : LocalText
  pub expressions : Expressions

anywhere : TextLaws → (e : Tree) (u a : List Laid) → Text e u [] → Text e (u ++ a) a
anywhere k e u a t = before_any (Text e) (local_text k.local e) u [] u t (sym (append-nil u)) a

-- two texts, each with a token behind it that ends it
same_text : TextLaws → (e f : Tree) (u v a b : List Laid) → Text e u [] → Text f v [] → u ++ a ≡ v ++ b → TextEnds a → TextEnds b → (u ≡ v) × (a ≡ b)
same_text k e f u v a b s t q h g =
    let behind : a ≡ b = text_extent k.expressions e f (u ++ a) (v ++ b) a b q (anywhere k e u a s) (anywhere k f v b t) h g in
    (append_cancel_right u v a (q ∙ ap (λ w. v ++ w) (sym behind)), behind)

-- the same where what ends them stands behind both
same_before : TextLaws → (e f : Tree) (u v a b mid : List Laid) → Text e u [] → Text f v [] → u ++ a ≡ v ++ b → TextEnds (a ++ mid) → TextEnds (b ++ mid) → (u ≡ v) × (a ≡ b)
same_before k e f u v a b mid s t q h g =
    let whole : u ++ (a ++ mid) ≡ v ++ (b ++ mid) = sym (append_assoc u a mid) ∙ ap (λ w. w ++ mid) q ∙ append_assoc v b mid in
    let r = same_text k e f u v (a ++ mid) (b ++ mid) s t whole h g in
    (r.0, append_cancel_right a b mid r.1)

-- behind a text and a token that ends it nothing is open
not_open : TextLaws → (e : Tree) (u : List Laid) (x y : Laid) (more : List Laid) → Text e u [] → EndsText x → Shallow (u ++ x ∷ y ∷ more) → ⊥
not_open k e u x y more t h s =
    let there = s (u ++ x ∷ []) more y (sym (append_assoc u (x ∷ []) (y ∷ more))) in
    k.expressions.none u x (e, t, tt) h (fitting_begun Expression Begun FittingBegun k.expressions (u ++ x ∷ []) (open_begun (u ++ x ∷ []) there))

-- ---- one name and what it is given

-- a name, `<-` and the text of an expression, and then the rest
record Piece (e : Tree) (t rest : List Laid) : Type 0 where
  first : Laid
  second : Laid
  text : List Laid
  whole : t ≡ first ∷ second ∷ (text ++ rest)
  alone : Text e text []

piece : LocalText → (before : List (List ℕ)) (w : With) (t rest : List Laid) → WithText before w t rest → Piece w.by t rest
piece local before w t rest h =
    let s = h.1 in
    let p = local_text local w.by s.2.0 rest s.2.2 in
    let arrow : s.0 ≡ Plain (record { kind = kinds.Symbol symbols.LeftArrow; place = s.2.1.0 }) ∷ s.2.0 = s.2.1.1 in
    record {
      first = Plain (record { kind = kinds.Name w.name; place = w.at });
      second = Plain (record { kind = kinds.Symbol symbols.LeftArrow; place = s.2.1.0 });
      text = p.text;
      whole = s.1 ∙ ap (λ v. Plain (record { kind = kinds.Name w.name; place = w.at }) ∷ v) (arrow ∙ ap (λ v. Plain (record { kind = kinds.Symbol symbols.LeftArrow; place = s.2.1.0 }) ∷ v) p.whole);
      alone = subst (λ v. Text w.by v []) (append-nil p.text) (p.anywhere []);
    }

abbrev behind_two : List Laid → List Laid
behind_two xs = tail_of (tail_of xs)

giving_tail : (before : List (List ℕ)) (n : List ℕ) (xs ys : List Laid) → GivingText before n xs ys → behind_two xs ≡ ys
giving_tail before n xs ys h = ap (λ v. tail_of (tail_of v)) h.1.1.1 ∙ ap tail_of h.1.2.1

no_text_there : (e : Tree) (u a : List Laid) → TextLaws → Text e u [] → u ++ a ≡ [] → ⊥
no_text_there e [] a k t q = k.expressions.some (e, t, tt)
no_text_there e (x ∷ u) a k t q = cc

-- ---- that each expression is shallow

-- of a name and the beginning of what it is given, where a whole expression stands there
last_shallow : TextLaws → (e : Tree) (names : List (List ℕ)) (t rest : List Laid) (g : Piece e t rest) → BeginsThen (SomeGiving names) Shallow t → Shallow (g.text ++ rest)
last_shallow k e names t rest g (inl b) =
    let none : g.text ++ (rest ++ b.0) ≡ [] = sym (append_assoc g.text rest b.0) ∙ ap (λ v. behind_two (v ++ b.0)) (sym g.whole) ∙ giving_tail names b.1.0 (t ++ b.0) [] b.1.1 in
    absurd (no_text_there e g.text (rest ++ b.0) k g.alone none)
last_shallow k e names t rest g (inr b) =
    let behind : b.0 ≡ g.text ++ rest = sym (giving_tail names b.1.0 t b.0 b.1.1) ∙ ap behind_two g.whole in
    subst Shallow behind b.2

-- what is given in what is shallow
abbrev Givens : List (List ℕ) → List (List ℕ) → List (List ℕ) → List Laid → Type 0
Givens before names all t = (last : List Laid) × ShallowGivens before names t last × BeginsThen (SomeGiving all) Shallow last

given_same : TextLaws → (before : List (List ℕ)) (n : List ℕ) (e : Tree) (t rest mid y z c : List Laid) (g : Piece e t rest) → GivingText before n t y → (s : ShallowExpression y z) → sign symbols.Comma z c → TextEnds (rest ++ mid) → (g.text ≡ s.text) × (rest ≡ z)
given_same k before n e t rest mid y z c g h s comma ends =
    let same : g.text ++ rest ≡ s.text ++ z = ap behind_two (sym g.whole) ∙ giving_tail before n t y h ∙ s.whole in
    let there : TextEnds (z ++ mid) = subst (λ v. TextEnds (v ++ mid)) (sym comma.1) tt in
    same_before k e s.tree g.text s.text rest z mid g.alone s.spelled.text same ends there

shallow_first : TextLaws → (e : Tree) (before names all : List (List ℕ)) (t rest mid : List Laid) (g : Piece e t rest) → TextEnds (rest ++ mid) → Givens before names all t → Shallow g.text
shallow_first k e before [] all t rest mid g ends b = fewer false g.text rest (last_shallow k e all t rest g (subst (BeginsThen (SomeGiving all) Shallow) (sym b.1) b.2))
shallow_first k e before (n ∷ names) all t rest mid g ends b =
    let h = b.1 in
    let s : ShallowExpression h.0 h.2.0 = h.2.1 in
    let r = given_same k before n e t rest mid h.0 h.2.0 h.2.2.0 g h.1 s h.2.2.1 ends in
    subst Shallow (sym r.0) s.shallow

-- behind the comma that follows, the same of the others
others_of : TextLaws → (e : Tree) (before names all : List (List ℕ)) (t rest mid more : List Laid) (g : Piece e t rest) → TextEnds (rest ++ mid) → sign symbols.Comma rest more → (more ≡ [] → ⊥) → Givens before names all t
    → (others : List (List ℕ)) × (given : List (List ℕ)) × Givens given others all more
others_of k e before [] all t rest mid [] g ends comma some b = absurd (some refl)
others_of k e before [] all t rest mid (y ∷ more) g ends comma some b =
    let shallow : Shallow (g.text ++ rest) = last_shallow k e all t rest g (subst (BeginsThen (SomeGiving all) Shallow) (sym b.1) b.2) in
    absurd (not_open k e g.text (Plain (record { kind = kinds.Symbol symbols.Comma; place = comma.0 })) y more g.alone tt (subst (λ v. Shallow (g.text ++ v)) comma.1 shallow))
others_of k e before (n ∷ names) all t rest mid more g ends comma some b =
    let h = b.1 in
    let s : ShallowExpression h.0 h.2.0 = h.2.1 in
    let r = given_same k before n e t rest mid h.0 h.2.0 h.2.2.0 g h.1 s h.2.2.1 ends in
    let behind : h.2.2.0 ≡ more = some_behind (kinds.Symbol symbols.Comma) h.2.0 rest h.2.2.0 more (sym r.1) h.2.2.1 comma in
    (names, before ++ n ∷ [], (b.0, subst (λ v. ShallowGivens (before ++ n ∷ []) names v b.0) behind h.2.2.2, b.2))

-- ---- one name behind another, up to the expression that stands too deep

-- a comma, or what stands behind the last
more_ends : (before : List (List ℕ)) (ws : List With) (rest mid : List Laid) → MoreWithsText before ws rest [] → UnitEnds mid → TextEnds (rest ++ mid)
more_ends before [] rest mid h m = subst (λ v. TextEnds (v ++ mid)) (sym h) (form_ends mid m)
more_ends before (w ∷ ws) rest mid h m = subst (λ v. TextEnds (v ++ mid)) (sym h.1.1) tt

abbrev Given : List (List ℕ) → List (List ℕ) → List Laid → List Laid → Type 0
Given before names xs body = (last : List Laid) × ShallowGivens before names xs last × (all : List (List ℕ)) × SomeGiving all last body

deep_first : TextLaws → (e : Tree) (all : List (List ℕ)) (t rest mid body : List Laid) (p : Place) (g : Piece e t rest) → Shallow g.text → TextEnds (rest ++ mid) → SomeGiving all (t ++ mid) body → IsTooNested FittingBegun Shallow body p → ⊥
deep_first k e all t rest mid body p g shallow ends h d =
    let there : body ≡ g.text ++ (rest ++ mid) = sym (giving_tail all h.0 (t ++ mid) body h.1) ∙ ap (λ v. behind_two (v ++ mid)) g.whole ∙ append_assoc g.text rest mid in
    no_deep_text k.expressions e g.text (rest ++ mid) body p g.alone shallow ends there d

-- what stands behind the comma of a name that is given before
behind_comma : TextLaws → (e : Tree) (before : List (List ℕ)) (n : List ℕ) (t rest mid y z c : List Laid) (g : Piece e t rest) → TextEnds (rest ++ mid) → GivingText before n (t ++ mid) y → ShallowExpression y z → sign symbols.Comma z c → rest ++ mid ≡ z
behind_comma k e before n t rest mid y z c g ends h s comma =
    let same : g.text ++ (rest ++ mid) ≡ s.text ++ z = sym (append_assoc g.text rest mid) ∙ ap (λ v. behind_two (v ++ mid)) (sym g.whole) ∙ giving_tail before n (t ++ mid) y h ∙ s.whole in
    (same_text k e s.tree g.text s.text (rest ++ mid) z g.alone s.spelled.text same ends (subst TextEnds (sym comma.1) tt)).1

some_given : (before : List (List ℕ)) (w : With) (more rest : List Laid) → WithText before w more rest → more ≡ [] → ⊥
some_given before w more rest h q = let e : [] ≡ Plain (record { kind = kinds.Name w.name; place = w.at }) ∷ h.1.0 = sym q ∙ h.1.1 in cc

pub no_deep_given : TextLaws → (ws : List With) (w : With) (own before named : List (List ℕ)) (deep shallow all : List (List ℕ)) (t rest mid body : List Laid) (p : Place) → WithText own w t rest → MoreWithsText (own ++ w.name ∷ []) ws rest [] → UnitEnds mid → Givens before shallow all t → Given named deep (t ++ mid) body → IsTooNested FittingBegun Shallow body p → ⊥
no_deep_given k ws w own before named [] shallow all t rest mid body p h more m b c d =
    let g : Piece w.by t rest = piece k.local own w t rest h in
    let ends : TextEnds (rest ++ mid) = more_ends (own ++ w.name ∷ []) ws rest mid more m in
    deep_first k w.by c.2 t rest mid body p g (shallow_first k w.by before shallow all t rest mid g ends b) ends (subst (λ v. SomeGiving c.2 v body) (sym c.1) c.3) d
no_deep_given k [] w own before named (n ∷ deep) shallow all t rest mid body p h more m b c d =
    let g : Piece w.by t rest = piece k.local own w t rest h in
    let ends : TextEnds (rest ++ mid) = more_ends (own ++ w.name ∷ []) [] rest mid more m in
    let s = c.1 in
    let there : rest ++ mid ≡ s.2.0 = behind_comma k w.by named n t rest mid s.0 s.2.0 s.2.2.0 g ends s.1 s.2.1 s.2.2.1 in
    let behind : mid ≡ s.2.0 = ap (λ v. v ++ mid) (sym more) ∙ there in
    no_comma mid s.2.2.0 m (subst (λ v. sign symbols.Comma v s.2.2.0) (sym behind) s.2.2.1)
no_deep_given k (v ∷ vs) w own before named (n ∷ deep) shallow all t rest mid body p h more m b c d =
    let g : Piece w.by t rest = piece k.local own w t rest h in
    let ends : TextEnds (rest ++ mid) = more_ends (own ++ w.name ∷ []) (v ∷ vs) rest mid more m in
    let s = c.1 in
    let there : rest ++ mid ≡ s.2.0 = behind_comma k w.by named n t rest mid s.0 s.2.0 s.2.2.0 g ends s.1 s.2.1 s.2.2.1 in
    let comma : sign symbols.Comma (rest ++ mid) (more.0 ++ mid) = (more.1.0, ap (λ v. v ++ mid) more.1.1) in
    let behind : s.2.2.0 ≡ more.0 ++ mid = some_behind (kinds.Symbol symbols.Comma) s.2.0 (rest ++ mid) s.2.2.0 (more.0 ++ mid) (sym there) s.2.2.1 comma in
    let others = others_of k w.by before shallow all t rest mid more.0 g ends more.1 (some_given (own ++ w.name ∷ []) v more.0 more.2.0 more.2.1) b in
    no_deep_given k vs v (own ++ w.name ∷ []) others.1 (named ++ n ∷ []) deep others.0 all more.0 more.2.0 mid body p more.2.1 more.2.2 m others.2
    (c.0, subst (λ v. ShallowGivens (named ++ n ∷ []) deep v c.0) behind s.2.2.2, c.2, c.3) d

-- ---- the head of an instance

local_names_before : IsLocal SomeGivings
local_names_before xs ys h =
    let p = local_then (ShallowGivens [] h.0) (SomeGiving h.0) (local_givens h.0 []) (local_some_giving h.0) xs ys h.1 in
    record { text = p.text; whole = p.whole; anywhere = λ ws. (h.0, p.anywhere ws) }

local_head : IsLocal InstanceHead
local_head =
    local_then InstanceStart (SomeName ⨟ MarkText marks.With) local_start (local_then SomeName (MarkText marks.With) (local_mark marks.Name) (local_mark marks.With))

local_giving_head : IsLocal (InstanceHead ⨟ SomeGivings)
local_giving_head = local_then InstanceHead SomeGivings local_head local_names_before

abbrev behind_four : List Laid → List Laid
behind_four xs = tail_of (tail_of (tail_of (tail_of xs)))

start_tail : (xs ys zs : List Laid) → InstanceStart xs ys → SomeName ys zs → behind_four xs ≡ zs
start_tail xs ys zs h n =
    ap behind_four h.1.1.1 ∙ ap (λ v. tail_of (tail_of (tail_of v))) h.2.1.1 ∙ ap (λ v. tail_of (tail_of v)) h.2.2.1 ∙ ap tail_of n.1.1

head_tail : (xs ys : List Laid) → InstanceHead xs ys → tail_of (behind_four xs) ≡ ys
head_tail xs ys h = ap tail_of (start_tail xs h.0 h.2.0 h.1 h.2.1) ∙ ap tail_of h.2.2.1

instance_tail : (m : Made) (xs ys : List Laid) → (h : InstanceText m xs ys) → behind_four xs ≡ h.2.2.2.0
instance_tail m xs ys h =
    ap behind_four h.1 ∙ ap (λ v. tail_of (tail_of (tail_of v))) h.2.1.1 ∙ ap (λ v. tail_of (tail_of v)) h.2.2.1.1 ∙ ap tail_of h.2.2.2.1.1

-- four tokens of a list are there with others behind it
tail_append : (n : List Laid) (x : Laid) (xs mid : List Laid) → n ≡ x ∷ xs → tail_of (n ++ mid) ≡ xs ++ mid
tail_append n x xs mid q = ap (λ v. tail_of (v ++ mid)) q

instance_tail_on : (m : Made) (text ys mid : List Laid) → (h : InstanceText m text ys) → behind_four (text ++ mid) ≡ h.2.2.2.0 ++ mid
instance_tail_on m text ys mid h =
    ap (λ v. tail_of (tail_of (tail_of v))) (tail_append text _ h.0 mid h.1) ∙ ap (λ v. tail_of (tail_of v)) (tail_append h.0 _ h.2.0 mid h.2.1.1) ∙ ap tail_of (tail_append h.2.0 _ h.2.2.0 mid h.2.2.1.1) ∙ tail_append h.2.2.0 _ h.2.2.2.0 mid h.2.2.2.1.1

-- an instance with no WITH: none stands behind it
no_withs : (v mid xs ys : List Laid) → v ≡ [] → UnitEnds mid → xs ≡ v ++ mid → some_token (kinds.Foreign foreign.With) xs ys → ⊥
no_withs v mid xs ys q m e h = no_with_word mid ys m (subst (λ w. some_token (kinds.Foreign foreign.With) w ys) (e ∙ ap (λ w. w ++ mid) q) h)

instance_form : (m : Made) (text more : List Laid) → InstanceText m text [] → form_of (text ++ more) ≡ OfDefinition
instance_form m text more h = ap (λ v. form_of (v ++ more)) h.1

nothing_there : (t more : List Laid) → (t ≡ [] → ⊥) → t ++ more ≡ [] → ⊥
nothing_there [] more some q = some refl
nothing_there (x ∷ t) more some q = cc

-- what an instance is given, in one that is shallow
given_in : (m : Made) (w : With) (ws : List With) (text t : List Laid) → InstanceText m text [] → tail_of (behind_four text) ≡ t → ((more : List Laid) → tail_of (behind_four (text ++ more)) ≡ t ++ more) → (t ≡ [] → ⊥) → ShallowUnit text
    → (all : List (List ℕ)) × Givens [] all all t
given_in m w ws text t h at on some (inl b) = absurd (bare_form (text ++ b.0) [] b.1 (instance_form m text b.0 h))
given_in m w ws text t h at on some (inr (inl s)) = absurd (instance_not_shallow m text [] h s)
given_in m w ws text t h at on some (inr (inr (inl s))) =
    absurd (stated_no_definition (form_of text) (subst (λ v. OfStated (form_of v)) (sym s.whole) (stating_form (s.before ++ s.body) s.body (stating_on s.before s.body s.stated))) (ap form_of h.1))
given_in m w ws text t h at on some (inr (inr (inr (inl i)))) = absurd (nothing_there t i.0 some (sym (on i.0) ∙ head_tail (text ++ i.0) [] i.1))
given_in m w ws text t h at on some (inr (inr (inr (inr i)))) =
    let behind : i.0 ≡ t = sym (head_tail text i.0 i.1) ∙ at in
    (i.2.0, (i.2.1, subst (λ v. ShallowGivens [] i.2.0 v i.2.1) behind i.2.2, i.2.3))

with_given : TextLaws → (m : Made) (w : With) (ws : List With) (xs text mid body v b c : List Laid) (p : Place) → InstanceText m text [] → ShallowUnit text → UnitEnds mid → xs ≡ text ++ mid → behind_four text ≡ v → ((more : List Laid) → behind_four (text ++ more) ≡ v ++ more) → some_token (kinds.Foreign foreign.With) v b
    → (WithText [] w ⨟ MoreWithsText (w.name ∷ []) ws) b [] → InstanceHead xs c → SomeGivings c body → IsTooNested FittingBegun Shallow body p → ⊥
with_given k m w ws xs text mid body v b c p h s u e at on word given head names d =
    let on_five : (more : List Laid) → tail_of (behind_four (text ++ more)) ≡ b ++ more = λ more. ap tail_of (on more) ∙ ap (λ x. tail_of (x ++ more)) word.1 in
    let five : tail_of (behind_four text) ≡ b = ap tail_of at ∙ ap tail_of word.1 in
    let shallow = given_in m w ws text b h five on_five (some_given [] w b given.0 given.1) s in
    let there : c ≡ b ++ mid = sym (head_tail xs c head) ∙ ap (λ x. tail_of (behind_four x)) e ∙ on_five mid in
    let named : Given [] names.0 (b ++ mid) body = (names.1.0, subst (λ x. ShallowGivens [] names.0 x names.1.0) there names.1.1, names.0, names.1.2) in
    no_deep_given k ws w [] [] [] names.0 shallow.0 shallow.0 b given.0 mid body p given.1 given.2 u shallow.1 named d

instance_by : TextLaws → (m : Made) (ws : List With) (xs text mid body v c : List Laid) (p : Place) → InstanceText m text [] → ShallowUnit text → UnitEnds mid → xs ≡ text ++ mid → behind_four text ≡ v → ((more : List Laid) → behind_four (text ++ more) ≡ v ++ more) → WithsText ws v [] → InstanceHead xs c → SomeGivings c body
    → IsTooNested FittingBegun Shallow body p → ⊥
instance_by k m [] xs text mid body v c p h s u e at on withs head names d =
    let there : head.2.0 ≡ v ++ mid = sym (start_tail xs head.0 head.2.0 head.1 head.2.1) ∙ ap behind_four e ∙ on mid in
    no_withs v mid head.2.0 c withs u there head.2.2
instance_by k m (w ∷ ws) xs text mid body v c p h s u e at on withs head names d = with_given k m w ws xs text mid body v withs.0 c p h s u e at on withs.1 withs.2 head names d

-- ---- units

given_by : TextLaws → LocalDefinition → NoBoth → (unit : ModuleUnit) (xs text mid body c : List Laid) (p : Place) → UnitText unit text [] → ShallowUnit text → UnitEnds mid → xs ≡ text ++ mid → InstanceHead xs c → SomeGivings c body → IsTooNested FittingBegun Shallow body p → ⊥
given_by k l both (units.Instance m) xs text mid body c p h s u e head names d =
    instance_by k m m.withs xs text mid body h.2.2.2.0 c p h s u e (instance_tail m text [] h) (λ more. instance_tail_on m text [] more h) h.2.2.2.2 head names d
given_by k l both (units.Define t) xs text mid body c p h s u e head names d =
    no_head_there both t xs mid c (subst (λ v. UnitText (units.Define t) v mid) (sym e) (before_any (UnitText (units.Define t)) (local_definition l t) text [] text h (sym (append-nil text)) mid)) head
given_by k l both (units.Variables ds) xs text mid body c p h s u e head names d = let q : OfVariables ≡ OfDefinition = sym (unit_first (units.Variables ds) xs text mid h e) ∙ ap form_of head.1.1.1.1 in cc
given_by k l both (units.Constants ds) xs text mid body c p h s u e head names d = let q : OfConstants ≡ OfDefinition = sym (unit_first (units.Constants ds) xs text mid h e) ∙ ap form_of head.1.1.1.1 in cc
given_by k l both (units.Recursive ds) xs text mid body c p h s u e head names d = let q : OfRecursive ≡ OfDefinition = sym (unit_first (units.Recursive ds) xs text mid h e) ∙ ap form_of head.1.1.1.1 in cc
given_by k l both (units.Assume f) xs text mid body c p h s u e head names d = let q : OfAssumption ≡ OfDefinition = sym (unit_first (units.Assume f) xs text mid h e) ∙ ap form_of head.1.1.1.1 in cc
given_by k l both units.Passed xs text mid body c p h s u e head names d = let q : OfPassed ≡ OfDefinition = sym (unit_first units.Passed xs text mid h e) ∙ ap form_of head.1.1.1.1 in cc

deep_heads : (xs : List Laid) (p : Place) → (d : TooNestedGiven xs p) → (InstanceHead ⨟ SomeGivings) xs d.body
deep_heads xs p d = subst (λ v. (InstanceHead ⨟ SomeGivings) v d.body) (sym d.whole) (before_any (InstanceHead ⨟ SomeGivings) local_giving_head d.before [] d.before d.part (sym (append-nil d.before)) d.body)

pub deep_given_form : (xs : List Laid) (p : Place) → TooNestedGiven xs p → form_of xs ≡ OfDefinition
deep_given_form xs p d = ap form_of (deep_heads xs p d).1.1.1.1.1

pub no_deep_instance : TextLaws → LocalDefinition → NoBoth → (xs mid : List Laid) (p : Place) → ShallowWholeUnit xs mid → UnitEnds mid → TooNestedGiven xs p → ⊥
no_deep_instance k l both xs mid p w u d =
    let h = deep_heads xs p d in
    given_by k l both w.unit xs w.text mid d.body h.0 p w.spelled w.shallow u w.whole h.1 h.2 d.deep
