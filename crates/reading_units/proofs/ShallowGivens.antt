-- What the names of an instance's module are given, in tokens that stand inside few enough constructs.
use Rattle.std.proofs.Common.{◌≡◌, ℕ, List, [], ◌∷◌, ◌++◌, append_assoc, drop, inl, inr, refl, sym, ap, subst, ◌∙◌}
use Rattle.std.proofs.lemmas.List.{append-nil}
use Rattle.base_core.specs.declared.place.Place.{Place}
use Rattle.reading_trees.specs.declared.laid.Laid.{Laid}
use Rattle.reading_trees.specs.declared.module.Made.{Made}
use Rattle.reading_trees.specs.declared.module.Unit.TheVariants as units
use Rattle.reading_tokens.specs.declared.token.Kind.TheVariants as kinds
use Rattle.reading_tokens.specs.declared.token.Symbol.TheVariants as symbols
use Rattle.reading_tokens.specs.declared.token.Foreign.TheVariants as foreign
use Rattle.reading_trees.specs.Begun.{Begun}
use Rattle.reading_trees.specs.Fits.{Spells}
use Rattle.reading_trees.specs.Trees.{Tree}
use Rattle.reading_trees.specs.Grammar.{Span, ◌⨟◌, some_token, sign, name, Text}
use Rattle.reading_trees.specs.Modules.{UnitText}
use Rattle.reading_machine.specs.Beginnings.{FittingBegun}
use Rattle.reading_machine.specs.LawsOfExtents.{LocalText}
use Rattle.reading_expressions.specs.Nesting.{Shallow}
use Rattle.reading_expressions.specs.Refusals.{GoesAsFar}
use Rattle.reading_units.specs.Parts.{MarkText}
use Rattle.reading_units.specs.Refusals.{BeginsThen, GivingText, InstanceHead, InstanceStart, ShallowExpression, ShallowGivens, ShallowInstance, ShallowWholeUnit, ShallowWiths, SomeGiving, SomeGivings, SomeName, TooNestedBehind}
use Rattle.reading_units.specs.Reads.{GivenSoFar, ShallowGiven, WholeWiths}
use Rattle.reading_units.specs.declared.marks.Mark.TheVariants as marks
use Rattle.reading_units.proofs.Locals.{IsLocal, before_any, all_alone, joined, local_instance, local_kind, local_mark, local_name, local_nothing, local_text, local_then}
use Rattle.reading_units.proofs.MarksTold.{plain}
use Rattle.reading_units.proofs.ShallowRead.{as_far, shallow_after, whole_unit}

-- ---- that these parts are some laid tokens, whatever stands behind them

pub local_giving : (before : List (List ℕ)) (n : List ℕ) → IsLocal (GivingText before n)
local_giving before n xs ys h =
    let p = local_then (name n) (sign symbols.LeftArrow) (local_name n) (local_kind (kinds.Symbol symbols.LeftArrow)) xs ys h.1 in
    record { text = p.text; whole = p.whole; anywhere = λ ws. (h.0, p.anywhere ws) }

pub local_some_giving : (before : List (List ℕ)) → IsLocal (SomeGiving before)
local_some_giving before xs ys h = let p = local_giving before h.0 xs ys h.1 in record { text = p.text; whole = p.whole; anywhere = λ ws. (h.0, p.anywhere ws) }

pub local_expression : IsLocal ShallowExpression
local_expression xs ys h = record { text = h.text; whole = h.whole; anywhere = λ ws. record { text = h.text; whole = refl; tree = h.tree; spelled = h.spelled; shallow = h.shallow } }

local_given : (before : List (List ℕ)) (n : List ℕ) → IsLocal (ShallowGiven before n)
local_given before n = local_then (GivingText before n) ShallowExpression (local_giving before n) local_expression

pub local_givens : (ns before : List (List ℕ)) → IsLocal (ShallowGivens before ns)
local_givens [] before = local_nothing
local_givens (n ∷ ns) before =
    local_then (GivingText before n) (ShallowExpression ⨟ sign symbols.Comma ⨟ ShallowGivens (before ++ n ∷ []) ns) (local_giving before n)
    (local_then ShallowExpression (sign symbols.Comma ⨟ ShallowGivens (before ++ n ∷ []) ns) local_expression
    (local_then (sign symbols.Comma) (ShallowGivens (before ++ n ∷ []) ns) (local_kind (kinds.Symbol symbols.Comma)) (local_givens ns (before ++ n ∷ []))))

pub local_start : IsLocal InstanceStart
local_start =
    local_then (MarkText marks.Name) (MarkText marks.Defined ⨟ MarkText marks.Instance) (local_mark marks.Name)
    (local_then (MarkText marks.Defined) (MarkText marks.Instance) (local_mark marks.Defined) (local_mark marks.Instance))

-- ---- what stands too deep behind a part

pub deep_as : (R S : Span) → ((l : List Laid) → R l [] → S l []) → (xs : List Laid) (p : Place) → TooNestedBehind R xs p → TooNestedBehind S xs p
deep_as R S f xs p d = record { before = d.before; body = d.body; whole = d.whole; part = f d.before d.part; deep = d.deep }

pub deep_after : (A B : Span) → IsLocal A → (xs ys text : List Laid) → A xs ys → xs ≡ text ++ ys → (p : Place) → TooNestedBehind B ys p → TooNestedBehind (A ⨟ B) xs p
deep_after A B local xs ys text h e p d = record {
  before = text ++ d.before;
  body = d.body;
  whole = joined xs ys d.body text d.before e d.whole;
  part = (d.before, before_any A local xs ys text h e d.before, d.part);
  deep = d.deep;
}

-- ---- one more name

-- a name and what it is given were read
pub given_shallow : LocalText → (before : List (List ℕ)) (n : List ℕ) (e : Tree) (laid xs : List Laid) (start behind : ℕ) → GivingText before n xs (drop start laid) → Spells e (drop start laid) (drop behind laid) → GoesAsFar Begun FittingBegun Shallow laid start behind → ShallowGiven before n xs (drop behind laid)
given_shallow local before n e laid xs start behind h s g =
    let r = as_far Begun FittingBegun Shallow laid start behind g in
    let spelled : Spells e r.0 [] = record { text = all_alone (Text e) (local_text local e) (drop start laid) (drop behind laid) r.0 s.text r.1; fits = s.fits } in
    (drop start laid, h, record { text = r.0; whole = r.1; tree = e; spelled = spelled; shallow = r.2 })

given_more : (ns before : List (List ℕ)) (n : List ℕ) (xs a b c : List Laid) → ShallowGivens before ns xs a → ShallowGiven (before ++ ns) n a b → sign symbols.Comma b c → ShallowGivens before (ns ++ n ∷ []) xs c
given_more [] before n xs a b c h g k =
    let there : ShallowGiven before n a b = subst (λ v. ShallowGiven v n a b) (append-nil before) g in
    let here : ShallowGiven before n xs b = subst (λ v. ShallowGiven before n v b) (sym h) there in
    (here.0, here.1, (b, here.2, (c, k, refl)))
given_more (m ∷ ns) before n xs a b c h g k =
    let there : ShallowGiven ((before ++ m ∷ []) ++ ns) n a b = subst (λ v. ShallowGiven v n a b) (sym (append_assoc before (m ∷ []) ns)) g in
    (h.0, h.1, (h.2.0, h.2.1, (h.2.2.0, h.2.2.1, given_more ns (before ++ m ∷ []) n h.2.2.0 a b c h.2.2.2 there k)))

-- WITH, and what these names are given with a comma behind each
abbrev pub GivenThen : List (List ℕ) → Span
GivenThen names = some_token (kinds.Foreign foreign.With) ⨟ ShallowGivens [] names

pub given_none : (xs ys : List Laid) → some_token (kinds.Foreign foreign.With) xs ys → GivenThen [] xs ys
given_none xs ys h = (ys, h, refl)

pub given_comma : (names : List (List ℕ)) (xs ys zs : List Laid) → GivenSoFar names xs ys → sign symbols.Comma ys zs → GivenThen names xs zs
given_comma names xs ys zs g k =
    let t = g.text in
    let all : ShallowGivens [] (g.others ++ g.last ∷ []) t.0 zs = given_more g.others [] g.last t.0 t.2.0 ys zs t.2.1 t.2.2 k in
    (t.0, t.1, subst (λ v. ShallowGivens [] v t.0 zs) (sym g.all) all)

pub given_next : (names more : List (List ℕ)) (n : List ℕ) (xs ys zs : List Laid) → GivenThen names xs ys → ShallowGiven names n ys zs → more ≡ names ++ n ∷ [] → GivenSoFar more xs zs
given_next names more n xs ys zs h g q = record { others = names; last = n; all = q; text = (h.0, h.1, (ys, h.2, g)) }

-- ---- refused behind a comma

local_given_then : (names : List (List ℕ)) → IsLocal (GivenThen names)
local_given_then names = local_then (some_token (kinds.Foreign foreign.With)) (ShallowGivens [] names) (local_kind (kinds.Foreign foreign.With)) (local_givens names [])

pub withs_shallow : (names : List (List ℕ)) (xs ys text : List Laid) → GivenThen names xs ys → xs ≡ text ++ ys → (l : List Laid) → BeginsThen (SomeGiving names) Shallow l → BeginsThen (some_token (kinds.Foreign foreign.With)) ShallowWiths (text ++ l)
withs_shallow names xs ys text h e l s =
    let g : GivenThen names (text ++ l) l = before_any (GivenThen names) (local_given_then names) xs ys text h e l in
    inr (g.0, g.1, (names, l, g.2, s))

pub withs_deep : (names : List (List ℕ)) (xs ys text : List Laid) → GivenThen names xs ys → xs ≡ text ++ ys → (p : Place) → TooNestedBehind (SomeGiving names) ys p → TooNestedBehind (some_token (kinds.Foreign foreign.With) ⨟ SomeGivings) xs p
withs_deep names xs ys text h e p d =
    deep_as (GivenThen names ⨟ SomeGiving names) (some_token (kinds.Foreign foreign.With) ⨟ SomeGivings) (λ l g. (g.1.0, g.1.1, (names, (g.0, g.1.2, g.2)))) xs p
    (deep_after (GivenThen names) (SomeGiving names) (local_given_then names) xs ys text h e p d)

-- ---- whole instances

local_so_far : (names : List (List ℕ)) → IsLocal (GivenSoFar names)
local_so_far names xs ys g =
    let all : Span = some_token (kinds.Foreign foreign.With) ⨟ ShallowGivens [] g.others ⨟ ShallowGiven g.others g.last in
    let local : IsLocal all =
    local_then (some_token (kinds.Foreign foreign.With)) (ShallowGivens [] g.others ⨟ ShallowGiven g.others g.last) (local_kind (kinds.Foreign foreign.With))
    (local_then (ShallowGivens [] g.others) (ShallowGiven g.others g.last) (local_givens g.others []) (local_given g.others g.last)) in
    let p = local xs ys g.text in
    record { text = p.text; whole = p.whole; anywhere = λ ws. record { others = g.others; last = g.last; all = g.all; text = p.anywhere ws } }

-- all of it is its own beginning
so_far_shallow : (names : List (List ℕ)) (l : List Laid) → GivenSoFar names l [] → BeginsThen (some_token (kinds.Foreign foreign.With)) ShallowWiths l
so_far_shallow names l g =
    let t = g.text in
    let last = t.2.2 in
    let e : ShallowExpression last.0 [] = last.2 in
    let shallow : Shallow last.0 = subst Shallow (sym (e.whole ∙ append-nil e.text)) e.shallow in
    inr (t.0, t.1, (g.others, t.2.0, t.2.1, inr (last.0, (g.last, last.1), shallow)))

abbrev with_token : Laid
with_token = plain (kinds.Foreign foreign.With)

is_with : (l : List Laid) → some_token (kinds.Foreign foreign.With) (with_token ∷ l) l
is_with l = (_, refl)

head_alone : (text of_module : List Laid) → InstanceStart text [] → SomeName of_module [] → ShallowInstance (text ++ of_module)
head_alone text of_module h m =
    let start : InstanceStart (text ++ (of_module ++ with_token ∷ [])) (of_module ++ with_token ∷ []) = before_any InstanceStart local_start text [] text h (sym (append-nil text)) (of_module ++ with_token ∷ []) in
    let named : SomeName (of_module ++ with_token ∷ []) (with_token ∷ []) = before_any SomeName (local_mark marks.Name) of_module [] of_module m (sym (append-nil of_module)) (with_token ∷ []) in
    inl (with_token ∷ [], subst (λ v. InstanceHead v []) (sym (append_assoc text of_module (with_token ∷ []))) (of_module ++ with_token ∷ [], start, (with_token ∷ [], named, is_with [])))

-- `I == INSTANCE M` and WITH or nothing
abbrev WholeInstance : Span
WholeInstance = InstanceStart ⨟ SomeName ⨟ WholeWiths

local_whole_withs : IsLocal WholeWiths
local_whole_withs xs ys (inl q) = record { text = []; whole = q; anywhere = λ ws. inl refl }
local_whole_withs xs ys (inr g) = let p = local_so_far g.0 xs ys g.1 in record { text = p.text; whole = p.whole; anywhere = λ ws. inr (g.0, p.anywhere ws) }

alone_shallow : (start of_module withs : List Laid) → InstanceStart start [] → SomeName of_module [] → WholeWiths withs [] → ShallowInstance (start ++ (of_module ++ withs))
alone_shallow start of_module withs h m (inl q) = subst ShallowInstance (sym (ap (λ v. start ++ (of_module ++ v)) q ∙ ap (λ v. start ++ v) (append-nil of_module))) (head_alone start of_module h m)
alone_shallow start of_module withs h m (inr g) =
    let last : BeginsThen (some_token (kinds.Foreign foreign.With)) ShallowWiths withs = so_far_shallow g.0 withs g.1 in
    let named : BeginsThen (SomeName ⨟ some_token (kinds.Foreign foreign.With)) ShallowWiths (of_module ++ withs) =
    shallow_after SomeName (some_token (kinds.Foreign foreign.With)) ShallowWiths (local_mark marks.Name) of_module [] of_module m (sym (append-nil of_module)) withs last in
    shallow_after InstanceStart (SomeName ⨟ some_token (kinds.Foreign foreign.With)) ShallowWiths local_start start [] start h (sym (append-nil start)) (of_module ++ withs) named

pub instance_shallow : LocalText → (m : Made) (xs ws vs ys : List Laid) → UnitText (units.Instance m) xs ys → InstanceStart xs ws → SomeName ws vs → WholeWiths vs ys → ShallowWholeUnit xs ys
instance_shallow local m xs ws vs ys h start of_module withs =
    let a = local_start xs ws start in
    let b = local_mark marks.Name ws vs of_module in
    let c = local_whole_withs vs ys withs in
    let rest : ws ≡ (b.text ++ c.text) ++ ys = joined ws vs ys b.text c.text b.whole c.whole in
    let whole : xs ≡ (a.text ++ (b.text ++ c.text)) ++ ys = joined xs ws ys a.text (b.text ++ c.text) a.whole rest in
    let shallow : ShallowInstance (a.text ++ (b.text ++ c.text)) =
    alone_shallow a.text b.text c.text (all_alone InstanceStart local_start xs ws a.text start a.whole) (all_alone SomeName (local_mark marks.Name) ws vs b.text of_module b.whole) (all_alone WholeWiths local_whole_withs vs ys c.text withs c.whole) in
    whole_unit (units.Instance m) (local_instance local m) xs ys (a.text ++ (b.text ++ c.text)) h whole (inr (inr (inr shallow)))
