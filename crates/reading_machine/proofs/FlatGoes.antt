-- How the flat reader goes over the text of a tree, and over the token behind it.
use Rattle.std.proofs.Common.{◌≡◌, ℕ, Bool, true, false, List, [], ◌∷◌, ◌++◌, refl, sym, ap, ◌∙◌}
use Rattle.base_core.specs.declared.place.Place.{Place}
use Rattle.reading_trees.specs.declared.laid.Laid.{Laid}
use Rattle.reading_tokens.specs.declared.token.Kind.TheVariants as kinds
use Rattle.reading_tokens.specs.declared.token.Symbol.TheVariants as symbols
use Rattle.reading_trees.specs.Grammar.{Text, CommasBefore, IsSubscript, begins_member}
use Rattle.reading_trees.specs.Trees as tree
use Rattle.reading_trees.specs.Trees.{Tree, Trees, NoTrees, MoreTrees, Operands, First, Next, Step, Steps, NoSteps, MoreSteps, Bounds, NoBounds, MoreBounds, Fields, NoFields, MoreFields, Changes, NoChanges, MoreChanges, Arms, NoArms, MoreArms, Definitions, NoDefinitions, MoreDefinitions}
use Rattle.reading_machine.specs.Machine.{is_case_mark}
use Rattle.reading_machine.proofs.RunsParts.{plain}
use Rattle.reading_machine.proofs.Flat as flat
use Rattle.reading_machine.proofs.FlatBegins.{FlatOpen}

-- ---- rows that end where their last expression does, over others; those of a CASE that can go on are true

abbrev pub pile : List Bool → List flat.Row → List flat.Row
pile [] fs = fs
pile (true ∷ bs) fs = flat.CaseValue ∷ pile bs fs
pile (false ∷ bs) fs = flat.Rest ∷ pile bs fs

pub pile_twice : (bs cs : List Bool) (fs : List flat.Row) → pile bs (pile cs fs) ≡ pile (bs ++ cs) fs
pile_twice [] cs fs = refl
pile_twice (true ∷ bs) cs fs = ap (λ v. flat.CaseValue ∷ v) (pile_twice bs cs fs)
pile_twice (false ∷ bs) cs fs = ap (λ v. flat.Rest ∷ v) (pile_twice bs cs fs)

pub pile_open : (bs : List Bool) (fs : List flat.Row) → FlatOpen fs → FlatOpen (pile bs fs)
pile_open [] fs o = o
pile_open (true ∷ bs) fs o = tt
pile_open (false ∷ bs) fs o = tt

settle_pile : (bs : List Bool) (fs : List flat.Row) → flat.settle false (pile bs fs) ≡ flat.settle false fs
settle_pile [] fs = refl
settle_pile (true ∷ bs) fs = settle_pile bs fs
settle_pile (false ∷ bs) fs = settle_pile bs fs

-- ---- going over a text

-- behind a primary before ys, with some such rows over those from the beginning
pub record Reached (o : flat.Result) (ys : List Laid) (fs : List flat.Row) : Type 0 where
  pub over : List Bool
  pub named : flat.Primary
  pub runs : o ≡ flat.run ys (pile over fs) (flat.Have named)

pub from : {o p : flat.Result} {ys : List Laid} {fs : List flat.Row} → o ≡ p → Reached p ys fs → Reached o ys fs
from q r = record { over = r.over; named = r.named; runs = q ∙ r.runs }

pub widen : {o : flat.Result} {ys : List Laid} (bs : List Bool) (fs : List flat.Row) → Reached o ys (pile bs fs) → Reached o ys fs
widen {ys = ys} bs fs r = record { over = r.over ++ bs; named = r.named; runs = r.runs ∙ ap (λ v. flat.run ys v (flat.Have r.named)) (pile_twice r.over bs fs) }

abbrev pub Goes : Tree → Type 0
Goes e = (fs : List flat.Row) → FlatOpen fs → (xs ys : List Laid) → Text e xs ys → Reached (flat.run xs fs flat.Want) ys fs

-- where a subscript is expected
abbrev pub run_subscript : List Laid → List flat.Row → flat.Result
run_subscript [] fs = flat.StopsAt []
run_subscript (x ∷ xs) fs = flat.after (flat.subscript_started x fs) (x ∷ xs) (flat.run xs)

abbrev pub Delivers : Tree → Type 0
Delivers v = IsSubscript v → (gs fs : List flat.Row) (m : flat.Expected) → flat.deliver gs ≡ flat.Reads fs m → (xs ys : List Laid) → Text v xs ys → run_subscript xs gs ≡ flat.run ys fs m

-- a text from its name and `\in` on
pub record Member (xs ys : List Laid) : Type 0 where
  pub name : List ℕ
  pub place : Place
  pub sign : Place
  pub behind : List Laid
  pub here : xs ≡ plain (kinds.Name name) place ∷ plain (kinds.Symbol symbols.Member) sign ∷ behind
  pub goes : (fs : List flat.Row) → FlatOpen fs → Reached (flat.run behind fs flat.Want) ys fs

pub record Good (e : Tree) : Type 0 where
  pub goes : Goes e
  pub member : begins_member e ≡ true → (xs ys : List Laid) → Text e xs ys → Member xs ys
  pub delivers : Delivers e

abbrev pub AllGood : Trees → Type 0
AllGood NoTrees = Unit {0}
AllGood (MoreTrees es e) = AllGood es × Good e

abbrev pub ChainGood : Operands → Type 0
ChainGood (First e) = Good e
ChainGood (Next es at e) = ChainGood es × Good e

abbrev pub StepGood : Step → Type 0
StepGood tree.Prime = Unit {0}
StepGood (tree.Index es) = AllGood es
StepGood (tree.Field h) = Unit {0}

abbrev pub StepsGood : Steps → Type 0
StepsGood NoSteps = Unit {0}
StepsGood (MoreSteps ss at s) = StepsGood ss × StepGood s

abbrev pub BoundsGood : Bounds → Type 0
BoundsGood NoBounds = Unit {0}
BoundsGood (MoreBounds bs ns s) = BoundsGood bs × Good s

abbrev pub FieldsGood : Fields → Type 0
FieldsGood NoFields = Unit {0}
FieldsGood (MoreFields hs h e) = FieldsGood hs × Good e

abbrev pub ChangesGood : Changes → Type 0
ChangesGood NoChanges = Unit {0}
ChangesGood (MoreChanges cs ss e) = ChangesGood cs × StepsGood ss × Good e

abbrev pub ArmsGood : Arms → Type 0
ArmsGood NoArms = Unit {0}
ArmsGood (MoreArms arms p e) = ArmsGood arms × Good p × Good e

-- the parts of a function, which stand in another order where it is defined
abbrev pub FunctionGood : Tree → Type 0
FunctionGood (tree.Function at bs e) = BoundsGood bs × Good e
FunctionGood _ = Unit {0}

abbrev pub DefinitionsGood : Definitions → Type 0
DefinitionsGood NoDefinitions = Unit {0}
DefinitionsGood (MoreDefinitions ds n at ns form e) = DefinitionsGood ds × Good e × FunctionGood e

-- ---- the token behind a tree

-- a token that is neither a step nor an infix operator
abbrev pub Closing : Laid → Type 0
Closing x = (n : flat.Primary) (fs : List flat.Row) → flat.follows x n fs ≡ flat.behind x fs

closed : (x : Laid) (bs : List Bool) (fs : List flat.Row) → is_case_mark x ≡ false → flat.behind x (pile bs fs) ≡ flat.behind x fs
closed x bs fs h =
    ap (λ c. flat.closes x (flat.settle c (pile bs fs))) h ∙ ap (λ v. flat.closes x v) (settle_pile bs fs) ∙ sym (ap (λ c. flat.closes x (flat.settle c fs)) h)

pub ended : {o : flat.Result} {x : Laid} {zs : List Laid} (ys : List Laid) (fs : List flat.Row) → Reached o ys fs → ys ≡ x ∷ zs → is_case_mark x ≡ false → Closing x → o ≡ flat.after (flat.behind x fs) (x ∷ zs) (flat.run zs)
ended {o} {x} {zs} ys fs r q c h =
    r.runs ∙ ap (λ v. flat.run v (pile r.over fs) (flat.Have r.named)) q
    ∙ ap (λ s. flat.after s (x ∷ zs) (flat.run zs)) (h r.named (pile r.over fs) ∙ closed x r.over fs c)

pub part : {x : Laid} {zs : List Laid} (xs ys : List Laid) (e : Tree) (fs : List flat.Row) → Goes e → FlatOpen fs → Text e xs ys → ys ≡ x ∷ zs → is_case_mark x ≡ false → Closing x
    → flat.run xs fs flat.Want ≡ flat.after (flat.behind x fs) (x ∷ zs) (flat.run zs)
part xs ys e fs g o t q c h = ended ys fs (g fs o xs ys t) q c h

-- expressions, each with a comma behind it, in a row that takes them and becomes another row by the first
abbrev pub row_after : flat.Row → flat.Row → Trees → flat.Row
row_after f g NoTrees = f
row_after f g (MoreTrees es e) = g

abbrev pub a_comma : Place → Laid
a_comma at = plain (kinds.Symbol symbols.Comma) at

pub commas : (f g : flat.Row) (fs : List flat.Row) → ((es : Trees) → FlatOpen (row_after f g es ∷ fs)) → ((es : Trees) (at : Place) → flat.behind (a_comma at) (row_after f g es ∷ fs) ≡ flat.want (g ∷ fs))
    → (es : Trees) → AllGood es → (xs ys : List Laid) → CommasBefore es xs ys → flat.run xs (f ∷ fs) flat.Want ≡ flat.run ys (row_after f g es ∷ fs) flat.Want
commas f g fs o k NoTrees h xs ys t = ap (λ v. flat.run v (f ∷ fs) flat.Want) t
commas f g fs o k (MoreTrees es e) h xs ys t =
    commas f g fs o k es h.0 xs t.0 t.1
    ∙ part _ _ e (row_after f g es ∷ fs) h.1.goes (o es) t.2.1 t.2.2.1 refl (λ n gs. refl)
    ∙ ap (λ s. flat.after s (a_comma t.2.2.0 ∷ ys) (flat.run ys)) (k es t.2.2.0)

-- the same where the row stays
pub commas_in : (f : flat.Row) (fs : List flat.Row) → FlatOpen (f ∷ fs) → ((at : Place) → flat.behind (a_comma at) (f ∷ fs) ≡ flat.want (f ∷ fs))
    → (es : Trees) → AllGood es → (xs ys : List Laid) → CommasBefore es xs ys → flat.run xs (f ∷ fs) flat.Want ≡ flat.run ys (f ∷ fs) flat.Want
commas_in f fs o k NoTrees h xs ys t = ap (λ v. flat.run v (f ∷ fs) flat.Want) t
commas_in f fs o k (MoreTrees es e) h xs ys t =
    commas_in f fs o k es h.0 xs t.0 t.1
    ∙ part _ _ e (f ∷ fs) h.1.goes o t.2.1 t.2.2.1 refl (λ n gs. refl)
    ∙ ap (λ s. flat.after s (a_comma t.2.2.0 ∷ ys) (flat.run ys)) (k t.2.2.0)
