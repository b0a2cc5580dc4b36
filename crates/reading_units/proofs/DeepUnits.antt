-- Where each token of a unit is shallow, none of it is the first that stands too deep.
use Rattle.std.proofs.Common.{◌≡◌, ◌⊎◌, ℕ, Bool, true, false, List, [], ◌∷◌, ◌++◌, append_assoc, inl, inr, refl, sym, ap, subst, ◌∙◌}
use Rattle.std.proofs.lemmas.List.{append-nil}
use Rattle.base_core.specs.declared.place.Place.{Place}
use Rattle.reading_trees.specs.declared.laid.Laid.{Laid}
use Rattle.reading_trees.specs.declared.laid.Laid.TheVariants.{Plain, ListOpen, ListItem, ListClose}
use Rattle.reading_trees.specs.declared.expr.Definition.{Definition as UnitDefinition}
use Rattle.reading_trees.specs.declared.module.Unit.{Unit as ModuleUnit}
use Rattle.reading_trees.specs.declared.module.Unit.TheVariants as units
use Rattle.reading_tokens.specs.declared.token.Kind.{Kind}
use Rattle.reading_tokens.specs.declared.token.Kind.TheVariants as kinds
use Rattle.reading_tokens.specs.declared.token.Word.{Word}
use Rattle.reading_tokens.specs.declared.token.Word.TheVariants as words
use Rattle.reading_trees.specs.Begun.{Begun}
use Rattle.reading_trees.specs.Trees.{Tree}
use Rattle.reading_trees.specs.Grammar.{Span, ◌⨟◌, either, some_token, Text}
use Rattle.reading_trees.specs.Modules.{InstanceText, MaybeTitle, UnitText, assume_word, constant_word, theorem_word, variable_word}
use Rattle.reading_machine.specs.Beginnings.{FittingBegun, BegunDefinition, FittingBegunDefinition}
use Rattle.reading_machine.specs.LawsOfExtents.{LocalText, LocalDefinition, NoneFollows}
use Rattle.reading_machine.specs.LawsOfRefusals.{EndsThere}
use Rattle.reading_expressions.specs.Nesting.{IsShallow, AreShallow, Shallow, ShallowDefinition}
use Rattle.reading_expressions.specs.Refusals.{IsTooNested}
use Rattle.reading_units.specs.Refusals.{BareUnit, ShallowInstance, ShallowUnit, ShallowWholeUnit, StatedText, TooNestedStated}
use Rattle.reading_units.specs.Rests.{Expression, Definition}
use Rattle.reading_units.proofs.Extents.{TextKind, Parted, Same, Before, Behind, parted, none_within, ends_first}
use Rattle.reading_units.proofs.InstanceBegins.{instance_no_definition, no_instance}
use Rattle.reading_units.proofs.InstanceTokens.{NoBoth}
use Rattle.reading_units.proofs.Locals.{IsLocal, before_any, local_assume, local_either, local_instance, local_maybe_title, local_theorem, local_then}
use Rattle.reading_units.proofs.OneModuleTokens.{Form, OfVariables, OfConstants, OfDefinition, OfAssumption, OfPassed, OfRecursive, OfEquals, IsOfUnits, TextEnds, form_of, form_of_unit, tail_of, unit_begins, unit_form, variable_begins, constant_begins, assume_begins, theorem_begins}
use Rattle.reading_units.proofs.OpenStarts.{name_token, defined_token, word_token, no_title_open, no_word_open, nothing_open}
use Rattle.reading_units.proofs.SameExtents.{Expressions, Defined, name_mark, defined_mark, title_whole}
use Rattle.reading_units.proofs.OneModuleParts.{title_tail}
use Rattle.reading_units.proofs.TextKinds.{no_empty, no_such, no_title_text}

-- ---- a text of one kind

nothing_behind : (v after : List Laid) (x : Laid) → [] ≡ v ++ x ∷ after → ⊥
nothing_behind [] after x e = cc
nothing_behind (y ∷ v) after x e = cc

more_by : (unit : Bool) (read before after : List Laid) (here x : Laid) → AreShallow unit read → IsShallow unit read → Parted read (here ∷ []) before (x ∷ after) → IsShallow unit before
more_by unit read before after here x s i (Same e f) = subst (IsShallow unit) e i
more_by unit read before after here x s i (Before u v e f) = absurd (nothing_behind v after x (ap tail_of f))
more_by unit read before after here x s i (Behind u v e f) = s before v u e

-- one token more
one_more : (unit : Bool) (read : List Laid) (here : Laid) → AreShallow unit read → IsShallow unit read → AreShallow unit (read ++ here ∷ [])
one_more unit read here s i before after x w = more_by unit read before after here x s i (parted read (here ∷ []) before (x ∷ after) w)

pub fitting_begun : (S : Bool → Span) (B F : List Laid → Type 0) → TextKind S B F → (l : List Laid) → F l → B l
fitting_begun S B F k l f = let r = k.fitting l f in k.begins l r.0 (k.loose true (l ++ r.0) [] r.1)

pub not_deep : (S : Bool → Span) (B F : List Laid → Type 0) → TextKind S B F → (unit : Bool) (text mid read rest : List Laid) (here : Laid) → S false text [] → AreShallow unit text → TextEnds mid → F (read ++ here ∷ []) → AreShallow unit read → (AreShallow unit (read ++ here ∷ []) → ⊥) → Parted text mid read (here ∷ rest) → ⊥
not_deep S B F k unit text mid read rest here s a m f r d (Same e g) =
    none_within S B F k (read ++ here ∷ []) text [] here (fitting_begun S B F k (read ++ here ∷ []) f) (ap (λ v. v ++ here ∷ []) (sym e)) s (ends_first here rest mid g m)
not_deep S B F k unit text mid read rest here s a m f r d (Before u v e g) =
    none_within S B F k (read ++ here ∷ []) text (v ++ here ∷ []) u (fitting_begun S B F k (read ++ here ∷ []) f) (ap (λ w. w ++ here ∷ []) e ∙ append_assoc text (u ∷ v) (here ∷ [])) s (ends_first u (v ++ here ∷ rest) mid g m)
not_deep S B F k unit text mid read rest here s a m f r d (Behind u v e g) = d (one_more unit read here r (a read v u e))

-- ---- first tokens

form_head : (x : Laid) (xs ys : List Laid) → form_of (x ∷ xs) ≡ form_of (x ∷ ys)
form_head (Plain t) xs ys = refl
form_head (ListOpen b at) xs ys = refl
form_head (ListItem b at) xs ys = refl
form_head (ListClose at) xs ys = refl

pub form_first : (read rest more : List Laid) (here : Laid) → form_of (read ++ here ∷ rest) ≡ form_of ((read ++ here ∷ []) ++ more)
form_first [] rest more here = form_head here rest more
form_first (x ∷ read) rest more here = form_head x (read ++ here ∷ rest) ((read ++ here ∷ []) ++ more)

pub form_append : (text ys : List Laid) → IsOfUnits (form_of text) → form_of (text ++ ys) ≡ form_of text
form_append [] ys h = absurd h
form_append (x ∷ text) ys h = form_head x (text ++ ys) text

pub unit_there : (u : ModuleUnit) (xs ys : List Laid) → UnitText u xs ys → IsOfUnits (form_of xs)
unit_there u xs ys h = subst IsOfUnits (sym (unit_begins u xs ys h)) (form_of_unit u)

-- the first token of a list that begins with a unit
pub unit_first : (u : ModuleUnit) (xs text mid : List Laid) → UnitText u text [] → xs ≡ text ++ mid → form_of xs ≡ unit_form u
unit_first u xs text mid h e = ap form_of e ∙ form_append text mid (unit_there u text [] h) ∙ unit_begins u text [] h

pub deep_definition_form : (xs : List Laid) (p : Place) → IsTooNested FittingBegunDefinition ShallowDefinition xs p → form_of xs ≡ OfDefinition
deep_definition_form xs p t = ap form_of t.whole ∙ form_first t.read t.rest t.fits.rest t.here ∙ ap form_of t.fits.whole.1

-- ---- the word of an assumption or of a theorem

abbrev Worded : Span
Worded = either assume_word theorem_word

local_worded : IsLocal Worded
local_worded = local_either assume_word theorem_word local_assume local_theorem

abbrev pub Stating : Span
Stating = Worded ⨟ MaybeTitle

-- the same from one point of a list to another
pub stating_on : (before body : List Laid) → StatedText before → Stating (before ++ body) body
stating_on before body h = before_any Stating (local_then Worded MaybeTitle local_worded local_maybe_title) before [] before h (sym (append-nil before)) body

word_whole : (xs ys : List Laid) → Worded xs ys → (w : Word) × (p : Place) × (xs ≡ word_token w p ∷ ys)
word_whole xs ys (inl (inl h)) = (words.Assume, h.0, h.1)
word_whole xs ys (inl (inr (inl h))) = (words.Assumption, h.0, h.1)
word_whole xs ys (inl (inr (inr h))) = (words.Axiom, h.0, h.1)
word_whole xs ys (inr (inl (inl h))) = (words.Theorem, h.0, h.1)
word_whole xs ys (inr (inl (inr h))) = (words.Lemma, h.0, h.1)
word_whole xs ys (inr (inr (inl h))) = (words.Proposition, h.0, h.1)
word_whole xs ys (inr (inr (inr h))) = (words.Corollary, h.0, h.1)

abbrev pub OfStated : Form → Type 0
OfStated f = (f ≡ OfAssumption) ⊎ (f ≡ OfPassed)

word_form : (xs ys : List Laid) → Worded xs ys → OfStated (form_of xs)
word_form xs ys (inl h) = inl (assume_begins xs ys h)
word_form xs ys (inr h) = inr (theorem_begins xs ys h)

pub stating_form : (xs ys : List Laid) → Stating xs ys → OfStated (form_of xs)
stating_form xs ys h = word_form xs h.0 h.1

word_tail : (xs ys : List Laid) → Worded xs ys → tail_of xs ≡ ys
word_tail xs ys h = ap tail_of (word_whole xs ys h).2

not_stated : (f g : Form) → OfStated f → f ≡ g → (g ≡ OfAssumption → ⊥) → (g ≡ OfPassed → ⊥) → ⊥
not_stated f g (inl h) q a b = a (sym q ∙ h)
not_stated f g (inr h) q a b = b (sym q ∙ h)

abbrev is_dashes_kind : Kind → Bool
is_dashes_kind kinds.Dashes = true
is_dashes_kind _ = false

abbrev is_dashes : List Laid → Bool
is_dashes (Plain t ∷ xs) = is_dashes_kind t.kind
is_dashes _ = false

word_no_dashes : (w : Word) (p : Place) (ws xs ys : List Laid) → xs ≡ word_token w p ∷ ws → some_token kinds.Dashes xs ys → ⊥
word_no_dashes w p ws xs ys q h = let e : false ≡ true = ap is_dashes (sym q ∙ h.1) in cc

-- ---- units with no expression

declaring_form : (xs ys : List Laid) → either variable_word constant_word xs ys → (form_of xs ≡ OfVariables) ⊎ (form_of xs ≡ OfConstants)
declaring_form xs ys (inl h) = inl (variable_begins xs ys h)
declaring_form xs ys (inr h) = inr (constant_begins xs ys h)

-- what is no definition: declarations, dashes and equals signs
pub bare_form : (xs ys : List Laid) → BareUnit xs ys → form_of xs ≡ OfDefinition → ⊥
bare_form xs ys (inl h) q = not_defining (form_of xs) (declaring_form xs h.0 h.1) q
  where
    not_defining : (f : Form) → (f ≡ OfVariables) ⊎ (f ≡ OfConstants) → f ≡ OfDefinition → ⊥
    not_defining f (inl a) q = cc
    not_defining f (inr a) q = cc
bare_form xs ys (inr (inl h)) q = let e : OfRecursive ≡ OfDefinition = sym (ap form_of h.1.1) ∙ q in cc
bare_form xs ys (inr (inr (inl h))) q = let e : OfPassed ≡ OfDefinition = sym (ap form_of h.1) ∙ q in cc
bare_form xs ys (inr (inr (inr h))) q = let e : OfEquals ≡ OfDefinition = sym (ap form_of h.1) ∙ q in cc

declaring_stated : (f : Form) → (f ≡ OfVariables) ⊎ (f ≡ OfConstants) → OfStated f → ⊥
declaring_stated f (inl a) (inl b) = cc
declaring_stated f (inl a) (inr b) = cc
declaring_stated f (inr a) (inl b) = cc
declaring_stated f (inr a) (inr b) = cc

equals_stated : (f : Form) → f ≡ OfEquals → OfStated f → ⊥
equals_stated f a (inl b) = cc
equals_stated f a (inr b) = cc

recursive_stated : (f : Form) → f ≡ OfRecursive → OfStated f → ⊥
recursive_stated f a (inl b) = cc
recursive_stated f a (inr b) = cc

-- nor has one of those the word of an assumption or of a theorem
bare_word : (w : Word) (p : Place) (ws xs ys : List Laid) → BareUnit xs ys → xs ≡ word_token w p ∷ ws → OfStated (form_of xs) → ⊥
bare_word w p ws xs ys (inl h) q f = declaring_stated (form_of xs) (declaring_form xs h.0 h.1) f
bare_word w p ws xs ys (inr (inl h)) q f = recursive_stated (form_of xs) (ap form_of h.1.1) f
bare_word w p ws xs ys (inr (inr (inl h))) q f = word_no_dashes w p ws xs ys q h
bare_word w p ws xs ys (inr (inr (inr h))) q f = equals_stated (form_of xs) (ap form_of h.1) f

-- ---- definitions

pub stated_no_definition : (f : Form) → OfStated f → f ≡ OfDefinition → ⊥
stated_no_definition f (inl a) q = cc
stated_no_definition f (inr a) q = cc

of_definition : (text : List Laid) → form_of text ≡ OfDefinition → IsOfUnits (form_of text)
of_definition text q = subst IsOfUnits (sym q) tt

shallow_definition : NoBoth → LocalDefinition → (d : UnitDefinition) (text : List Laid) → UnitText (units.Define d) text [] → form_of text ≡ OfDefinition → ShallowUnit text → ShallowDefinition text
shallow_definition both local d text h q (inl b) = absurd (bare_form (text ++ b.0) [] b.1 (form_append text b.0 (of_definition text q) ∙ q))
shallow_definition both local d text h q (inr (inl s)) = s
shallow_definition both local d text h q (inr (inr (inl t))) = absurd (stated_no_definition (form_of text) (subst (λ v. OfStated (form_of v)) (sym t.whole) (stating_form (t.before ++ t.body) t.body (stating_on t.before t.body t.stated))) q)
shallow_definition both local d text h q (inr (inr (inr i))) = absurd (no_instance both local d text h i)

defined_by : Defined → NoBoth → LocalDefinition → (d : UnitDefinition) (xs text mid : List Laid) (p : Place) → UnitText (units.Define d) text [] → ShallowUnit text → TextEnds mid → xs ≡ text ++ mid → IsTooNested FittingBegunDefinition ShallowDefinition xs p → ⊥
defined_by k both local d xs text mid p h s m e t =
    let own : form_of text ≡ OfDefinition = unit_begins (units.Define d) text [] h in
    not_deep Definition BegunDefinition FittingBegunDefinition k true text mid t.read t.rest t.here (d.name, d.at, d.params, d.form, d.body, h, tt) (shallow_definition both local d text h own s) m t.fits t.shallow t.deep (parted text mid t.read (t.here ∷ t.rest) (sym e ∙ t.whole))

definition_by : Defined → NoBoth → LocalText → LocalDefinition → (u : ModuleUnit) (xs text mid : List Laid) (p : Place) → UnitText u text [] → unit_form u ≡ OfDefinition → ShallowUnit text → TextEnds mid → xs ≡ text ++ mid → IsTooNested FittingBegunDefinition ShallowDefinition xs p → ⊥
definition_by k both t l (units.Define d) xs text mid p h q s m e w = defined_by k both l d xs text mid p h s m e w
definition_by k both t l (units.Instance i) xs text mid p h q s m e w =
    instance_no_definition both i xs mid p (subst (λ v. InstanceText i v mid) (sym e) (before_any (InstanceText i) (local_instance t i) text [] text h (sym (append-nil text)) mid)) w
definition_by k both t l (units.Variables ds) xs text mid p h q s m e w = let r : OfVariables ≡ OfDefinition = q in cc
definition_by k both t l (units.Constants ds) xs text mid p h q s m e w = let r : OfConstants ≡ OfDefinition = q in cc
definition_by k both t l (units.Recursive ds) xs text mid p h q s m e w = let r : OfRecursive ≡ OfDefinition = q in cc
definition_by k both t l (units.Assume f) xs text mid p h q s m e w = let r : OfAssumption ≡ OfDefinition = q in cc
definition_by k both t l units.Passed xs text mid p h q s m e w = let r : OfPassed ≡ OfDefinition = q in cc

pub no_deep_definition : Defined → NoBoth → LocalText → LocalDefinition → (xs mid : List Laid) (p : Place) → ShallowWholeUnit xs mid → TextEnds mid → IsTooNested FittingBegunDefinition ShallowDefinition xs p → ⊥
no_deep_definition k both t l xs mid p w m d =
    let q : unit_form w.unit ≡ OfDefinition = sym (unit_first w.unit xs w.text mid w.spelled w.whole) ∙ deep_definition_form xs p d in
    definition_by k both t l w.unit xs w.text mid p w.spelled q w.shallow m w.whole d

-- ---- titles

begins_title : EndsThere → (n : List ℕ) (p q : Place) (e : Tree) (more : List Laid) → Text e (name_token n p ∷ defined_token q ∷ more) [] → ⊥
begins_title ends n p q e more t = no_such ends (name_token n p) (defined_token q) (name_mark n p) (defined_mark q) (record { tree = e; rest = more; whole = t })

abbrev head_or : Laid → List Laid → Laid
head_or u [] = u
head_or u (x ∷ xs) = x

-- an expression that begins with a name and `==`: its first token is not deep, and the second can not follow
deep_at : EndsThere → (n : List ℕ) (p q : Place) (more read rest : List Laid) (here : Laid) → name_token n p ∷ defined_token q ∷ more ≡ read ++ here ∷ rest → FittingBegun (read ++ here ∷ []) → Shallow read → (Shallow (read ++ here ∷ []) → ⊥) → ⊥
deep_at ends n p q more [] rest here e f s d = d (one_more false [] here s nothing_open)
deep_at ends n p q more (x ∷ []) rest here e f s d =
    let a : name_token n p ≡ x = ap (head_or x) e in
    let b : defined_token q ≡ here = ap (λ v. head_or here (tail_of v)) e in
    begins_title ends n p q f.tree f.rest (subst (λ v. Text f.tree (v ∷ defined_token q ∷ f.rest) []) (sym a) (subst (λ v. Text f.tree (x ∷ v ∷ f.rest) []) (sym b) f.spelled.text))
deep_at ends n p q more (x ∷ y ∷ read) rest here e f s d =
    let a : name_token n p ≡ x = ap (head_or x) e in
    let b : defined_token q ≡ y = ap (λ v. head_or y (tail_of v)) e in
    let more : List Laid = (read ++ here ∷ []) ++ f.rest in
    begins_title ends n p q f.tree more (subst (λ v. Text f.tree (v ∷ defined_token q ∷ more) []) (sym a) (subst (λ v. Text f.tree (x ∷ v ∷ more) []) (sym b) f.spelled.text))

-- what is shallow behind a title, or behind none, is so behind that which the unit has
shallow_behind : EndsThere → NoneFollows → (e : Tree) (ws bs cs : List Laid) → MaybeTitle ws bs → MaybeTitle ws cs → Text e bs [] → Shallow cs → Shallow bs
shallow_behind ends none e ws bs cs (inl h) (inl g) t s = subst Shallow (sym g ∙ h) s
shallow_behind ends none e ws bs cs (inl h) (inr g) t s =
    absurd (begins_title ends g.0 g.1.1.0 g.1.2.0 e cs (subst (λ v. Text e v []) (sym h ∙ title_whole g.0 ws cs g.1) t))
shallow_behind ends none e ws [] cs (inr h) (inl g) t s = absurd (no_empty none e t)
shallow_behind ends none e ws (b ∷ bs) cs (inr h) (inl g) t s =
    absurd (no_title_open h.0 h.1.1.0 h.1.2.0 (s (name_token h.0 h.1.1.0 ∷ defined_token h.1.2.0 ∷ []) bs b (sym g ∙ title_whole h.0 ws (b ∷ bs) h.1)))
shallow_behind ends none e ws bs cs (inr h) (inr g) t s = subst Shallow (sym (title_tail g.0 ws cs g.1) ∙ title_tail h.0 ws bs h.1) s

-- ---- what is assumed or stated

pub no_deep_text : Expressions → (e : Tree) (bs mid cs : List Laid) (p : Place) → Text e bs [] → Shallow bs → TextEnds mid → cs ≡ bs ++ mid → IsTooNested FittingBegun Shallow cs p → ⊥
no_deep_text k e bs mid cs p h s m q t = not_deep Expression Begun FittingBegun k false bs mid t.read t.rest t.here (e, h, tt) s m t.fits t.shallow t.deep (parted bs mid t.read (t.here ∷ t.rest) (sym q ∙ t.whole))

-- an expression behind the title that the unit has, or another
deep_titled : EndsThere → NoneFollows → Expressions → (e : Tree) (ws bs mid cs : List Laid) (p : Place) → MaybeTitle ws bs → MaybeTitle (ws ++ mid) cs → Text e bs [] → Shallow bs → TextEnds mid → IsTooNested FittingBegun Shallow cs p → ⊥
deep_titled ends none k e ws bs mid cs p (inl h) (inl g) t s m d = no_deep_text k e bs mid cs p t s m (sym g ∙ ap (λ v. v ++ mid) h) d
deep_titled ends none k e ws bs mid cs p (inl h) (inr g) t s m d =
    no_title_text ends none (name_token g.0 g.1.1.0) (defined_token g.1.2.0) cs ws mid e (name_mark g.0 g.1.1.0) (defined_mark g.1.2.0) (sym (title_whole g.0 (ws ++ mid) cs g.1)) (subst (λ v. Text e v []) (sym h) t) m
deep_titled ends none k e ws bs mid cs p (inr h) (inl g) t s m d =
    let whole : cs ≡ name_token h.0 h.1.1.0 ∷ defined_token h.1.2.0 ∷ (bs ++ mid) = sym g ∙ ap (λ v. v ++ mid) (title_whole h.0 ws bs h.1) in
    deep_at ends h.0 h.1.1.0 h.1.2.0 (bs ++ mid) d.read d.rest d.here (sym whole ∙ d.whole) d.fits d.shallow d.deep
deep_titled ends none k e ws bs mid cs p (inr h) (inr g) t s m d =
    let behind : tail_of (tail_of (ws ++ mid)) ≡ bs ++ mid = ap (λ v. tail_of (tail_of (v ++ mid))) (title_whole h.0 ws bs h.1) in
    no_deep_text k e bs mid cs p t s m (sym (title_tail g.0 (ws ++ mid) cs g.1) ∙ behind) d

some_behind : (ws bs : List Laid) → MaybeTitle ws bs → (bs ≡ [] → ⊥) → (y : Laid) × (rest : List Laid) × (ws ≡ y ∷ rest)
some_behind [] bs (inl h) some = absurd (some (sym h))
some_behind [] bs (inr h) some = absurd (let q = h.1.1.1 in cc)
some_behind (y ∷ ws) bs h some = (y, ws, refl)

stated_of_units : (f : Form) → OfStated f → IsOfUnits f
stated_of_units f (inl a) = subst IsOfUnits (sym a) tt
stated_of_units f (inr a) = subst IsOfUnits (sym a) tt

-- the first token of an instance, or of the beginning of one
shallow_instance_form : (text : List Laid) → IsOfUnits (form_of text) → ShallowInstance text → form_of text ≡ OfDefinition
shallow_instance_form text f (inl i) = sym (form_append text i.0 f) ∙ ap form_of i.1.1.1.1.1
shallow_instance_form text f (inr i) = ap form_of i.1.1.1.1.1

-- of a unit with such a word the expression is shallow
stated_shallow : EndsThere → NoneFollows → (e : Tree) (text ws bs : List Laid) → Worded text ws → MaybeTitle ws bs → Text e bs [] → ShallowUnit text → Shallow bs
stated_shallow ends none e text ws bs word title t (inl b) =
    let own = word_whole text ws word in
    let f : OfStated (form_of text) = word_form text ws word in
    absurd (bare_word own.0 own.1 (ws ++ b.0) (text ++ b.0) [] b.1 (ap (λ v. v ++ b.0) own.2) (subst OfStated (sym (form_append text b.0 (stated_of_units (form_of text) f))) f))
stated_shallow ends none e text ws bs word title t (inr (inl s)) =
    let own = word_whole text ws word in
    let more = some_behind ws bs title (λ q. no_empty none e (subst (λ v. Text e v []) q t)) in
    absurd (no_word_open own.0 own.1 (s (word_token own.0 own.1 ∷ []) more.1 more.0 (own.2 ∙ ap (λ v. word_token own.0 own.1 ∷ v) more.2)))
stated_shallow ends none e text ws bs word title t (inr (inr (inl s))) =
    let at : Stating text s.body = subst (λ v. Stating v s.body) (sym s.whole) (stating_on s.before s.body s.stated) in
    let q : at.0 ≡ ws = sym (word_tail text at.0 at.1) ∙ word_tail text ws word in
    shallow_behind ends none e ws bs s.body title (subst (λ v. MaybeTitle v s.body) q at.2) t s.shallow
stated_shallow ends none e text ws bs word title t (inr (inr (inr i))) =
    absurd (stated_no_definition (form_of text) (word_form text ws word) (shallow_instance_form text (stated_of_units (form_of text) (word_form text ws word)) i))

deep_stating : (xs : List Laid) (p : Place) → (d : TooNestedStated xs p) → Stating xs d.body
deep_stating xs p d = subst (λ v. Stating v d.body) (sym d.whole) (stating_on d.before d.body d.stated)

stated_clash : EndsThere → NoneFollows → Expressions → (e : Tree) (xs text mid ws bs : List Laid) (p : Place) → Worded text ws → MaybeTitle ws bs → Text e bs [] → ShallowUnit text → TextEnds mid → xs ≡ text ++ mid → TooNestedStated xs p → ⊥
stated_clash ends none k e xs text mid ws bs p word title t s m q d =
    let at : Stating xs d.body = deep_stating xs p d in
    let own = word_whole text ws word in
    let there : at.0 ≡ ws ++ mid = sym (word_tail xs at.0 at.1) ∙ ap tail_of (q ∙ ap (λ v. v ++ mid) own.2) in
    deep_titled ends none k e ws bs mid d.body p title (subst (λ v. MaybeTitle v d.body) there at.2) t (stated_shallow ends none e text ws bs word title t s) m d.deep

stated_by : EndsThere → NoneFollows → Expressions → (u : ModuleUnit) (xs text mid : List Laid) (p : Place) → UnitText u text [] → ShallowUnit text → TextEnds mid → xs ≡ text ++ mid → TooNestedStated xs p → ⊥
stated_by ends none k (units.Variables ds) xs text mid p h s m q d = declaring_stated (form_of xs) (inl (unit_first (units.Variables ds) xs text mid h q)) (stating_form xs d.body (deep_stating xs p d))
stated_by ends none k (units.Constants ds) xs text mid p h s m q d = declaring_stated (form_of xs) (inr (unit_first (units.Constants ds) xs text mid h q)) (stating_form xs d.body (deep_stating xs p d))
stated_by ends none k (units.Recursive ds) xs text mid p h s m q d = recursive_stated (form_of xs) (unit_first (units.Recursive ds) xs text mid h q) (stating_form xs d.body (deep_stating xs p d))
stated_by ends none k (units.Define e) xs text mid p h s m q d = stated_no_definition (form_of xs) (stating_form xs d.body (deep_stating xs p d)) (unit_first (units.Define e) xs text mid h q)
stated_by ends none k (units.Instance w) xs text mid p h s m q d = stated_no_definition (form_of xs) (stating_form xs d.body (deep_stating xs p d)) (unit_first (units.Instance w) xs text mid h q)
stated_by ends none k (units.Assume e) xs text mid p h s m q d = stated_clash ends none k e xs text mid h.0 h.2.0 p (inl h.1) h.2.1 h.2.2 s m q d
stated_by ends none k units.Passed xs text mid p (inl h) s m q d =
    let at : Stating xs d.body = deep_stating xs p d in
    let word = word_whole xs at.0 at.1 in
    word_no_dashes word.0 word.1 at.0 xs mid word.2 (h.0, q ∙ ap (λ v. v ++ mid) h.1)
stated_by ends none k units.Passed xs text mid p (inr h) s m q d = stated_clash ends none k h.2.2.0 xs text mid h.0 h.2.0 p (inr h.1) h.2.1 h.2.2.1.text s m q d

pub no_deep_stated : EndsThere → NoneFollows → Expressions → (xs mid : List Laid) (p : Place) → ShallowWholeUnit xs mid → TextEnds mid → TooNestedStated xs p → ⊥
no_deep_stated ends none k xs mid p w m d = stated_by ends none k w.unit xs w.text mid p w.spelled w.shallow m w.whole d

-- the first token of such a unit
pub deep_stated_form : (xs : List Laid) (p : Place) → TooNestedStated xs p → IsOfUnits (form_of xs)
deep_stated_form xs p d = stated_of_units (form_of xs) (stating_form xs d.body (deep_stating xs p d))

pub stated_no_equals : (xs : List Laid) (p : Place) → TooNestedStated xs p → form_of xs ≡ OfEquals → ⊥
stated_no_equals xs p d q = equals_stated (form_of xs) q (stating_form xs d.body (deep_stating xs p d))
