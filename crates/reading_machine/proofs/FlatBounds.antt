-- Bounds, CHOOSE, EXCEPT, CASE, and LET, flat.
use Rattle.std.proofs.Common.{◌≡◌, ℕ, Bool, true, false, List, [], ◌∷◌, ◌++◌, refl, ap, ◌∙◌}
use Rattle.std.specs.Prelude.{if◌then◌else◌}
use Rattle.base_core.specs.declared.place.Place.{Place}
use Rattle.reading_trees.specs.declared.form.DefinitionForm.{DefinitionForm}
use Rattle.reading_trees.specs.declared.form.DefinitionForm.TheVariants as forms
use Rattle.reading_trees.specs.declared.laid.Laid.{Laid}
use Rattle.reading_trees.specs.declared.laid.Laid.TheVariants.{Plain, ListOpen, ListItem, ListClose}
use Rattle.reading_tokens.specs.declared.token.Kind.{Kind}
use Rattle.reading_tokens.specs.declared.token.Kind.TheVariants as kinds
use Rattle.reading_tokens.specs.declared.token.Symbol.{Symbol}
use Rattle.reading_tokens.specs.declared.token.Symbol.TheVariants as symbols
use Rattle.reading_trees.specs.declared.operators.Quantifier.{Quantifier}
use Rattle.reading_trees.specs.declared.operators.Quantifier.TheVariants as quantifiers
use Rattle.reading_trees.specs.Precedence.{quantifier_symbol}
use Rattle.reading_trees.specs.Grammar.{Text, Commas, StepText, StepsText, BoundsBefore, BoundsText, NamesText, ParametersText, ChangesBefore, ChangesText, ArmsBefore, DefinitionsText, DefinitionRest, FunctionRest, IsPath, IsKey, token, sign}
use Rattle.reading_trees.specs.Trees as tree
use Rattle.reading_trees.specs.Trees.{Tree, Trees, NoTrees, MoreTrees, Step, Prime, Index, Field, Steps, NoSteps, MoreSteps, Bounds, NoBounds, MoreBounds, Changes, NoChanges, MoreChanges, Arms, NoArms, MoreArms, Definitions, NoDefinitions, MoreDefinitions}
use Rattle.reading_machine.specs.Machine.{is_case_mark, is_always_symbol}
use Rattle.reading_machine.proofs.RunsParts.{plain}
use Rattle.reading_machine.proofs.RunsStarts.{Opened, OpenKind, opened}
use Rattle.reading_machine.proofs.Flat as flat
use Rattle.reading_machine.proofs.FlatGoes.{pile, pile_twice, Reached, from, widen, Goes, AllGood, StepGood, StepsGood, BoundsGood, ChangesGood, ArmsGood, FunctionGood, DefinitionsGood, Closing, part, commas_in}

-- ---- bounds

-- names and `\in`
pub names_go : (b : flat.Binds) (ns : List (List ℕ)) (fs : List flat.Row) (xs ys zs : List Laid) → NamesText ns xs ys → sign symbols.Member ys zs → flat.run xs fs (flat.BoundName b) ≡ flat.run zs (flat.BoundSet b ∷ fs) flat.Want
names_go b [] fs xs ys zs h s = absurd h
names_go b (n ∷ []) fs xs ys zs h s = ap (λ v. flat.run v fs (flat.BoundName b)) h.1 ∙ ap (λ v. flat.run v fs (flat.BoundNamed b)) s.1
names_go b (n ∷ m ∷ ns) fs xs ys zs h s =
    ap (λ v. flat.run v fs (flat.BoundName b)) h.1.1 ∙ ap (λ v. flat.run v fs (flat.BoundNamed b)) h.2.1.1 ∙ names_go b (m ∷ ns) fs h.2.0 ys zs h.2.2 s

-- each with a comma behind it
pub bounds_before : (b : flat.Binds) (bs : Bounds) → BoundsGood bs → (fs : List flat.Row) (xs ys : List Laid) → BoundsBefore bs xs ys → flat.run xs fs (flat.BoundName b) ≡ flat.run ys fs (flat.BoundName b)
bounds_before b NoBounds g fs xs ys h = ap (λ v. flat.run v fs (flat.BoundName b)) h
bounds_before b (MoreBounds bs ns s) g fs xs ys h =
    bounds_before b bs g.0 fs xs h.0 h.1
    ∙ names_go b ns fs h.0 h.2.0 h.2.2.0 h.2.1 h.2.2.1
    ∙ part _ _ s (flat.BoundSet b ∷ fs) g.1.goes tt h.2.2.2.1 h.2.2.2.2.1 refl (λ n gs. refl)

-- up to a symbol behind the last bound
pub bounds_go : (c : Symbol) (at : Place) (b : flat.Binds) (bs : Bounds) → BoundsGood bs → (fs : List flat.Row) (xs ys zs : List Laid) → BoundsText bs xs ys → ys ≡ plain (kinds.Symbol c) at ∷ zs → is_always_symbol c ≡ false
    → Closing (plain (kinds.Symbol c) at) → flat.run xs fs (flat.BoundName b) ≡ flat.after (flat.behind (plain (kinds.Symbol c) at) (flat.BoundSet b ∷ fs)) (plain (kinds.Symbol c) at ∷ zs) (flat.run zs)
bounds_go c at b NoBounds g fs xs ys zs h q i j = absurd h
bounds_go c at b (MoreBounds bs ns s) g fs xs ys zs h q i j =
    bounds_before b bs g.0 fs xs h.0 h.1
    ∙ names_go b ns fs h.0 h.2.0 h.2.2.0 h.2.1 h.2.2.1
    ∙ part _ _ s (flat.BoundSet b ∷ fs) g.1.goes tt h.2.2.2 q i j

quantifier_begins : (q : Quantifier) (at : Place) (fs : List flat.Row) → flat.begins (plain (kinds.Symbol (quantifier_symbol q)) at) fs ≡ flat.Reads fs (flat.BoundName flat.ByQuantifier)
quantifier_begins quantifiers.ForAll at fs = refl
quantifier_begins quantifiers.Exists at fs = refl

pub quantified_goes : (at : Place) (q : Quantifier) (bs : Bounds) (e : Tree) → BoundsGood bs → Goes e → Goes (tree.Quantified at q bs e)
quantified_goes at q bs e g ge fs o xs ys h =
    widen (false ∷ []) fs
    (from
    (ap (λ v. flat.run v fs flat.Want) h.1
    ∙ ap (λ s. flat.after s (plain (kinds.Symbol (quantifier_symbol q)) at ∷ h.0) (flat.run h.0)) (quantifier_begins q at fs)
    ∙ bounds_go symbols.Colon h.2.2.1.0 flat.ByQuantifier bs g fs h.0 h.2.0 h.2.2.0 h.2.1 h.2.2.1.1 refl (λ n gs. refl))
    (ge (flat.Rest ∷ fs) tt h.2.2.0 ys h.2.2.2))

pub choose_goes : (at : Place) (n : List ℕ) (s e : Tree) → Goes s → Goes e → Goes (tree.Choose at n s e)
choose_goes at n s e gs ge fs o xs ys h =
    widen (false ∷ []) fs
    (from
    (ap (λ v. flat.run v fs flat.Want) h.1
    ∙ ap (λ v. flat.run v fs flat.ChooseName) h.2.1.1
    ∙ ap (λ v. flat.run v fs flat.ChooseNamed) h.2.2.1.1
    ∙ part _ _ s (flat.ChooseSet ∷ fs) gs tt h.2.2.2.1 h.2.2.2.2.1.1 refl (λ n gs. refl))
    (ge (flat.Rest ∷ fs) tt h.2.2.2.2.0 ys h.2.2.2.2.2))

-- ---- EXCEPT

except_arguments : (es : Trees) → AllGood es → (fs : List flat.Row) (xs ys zs : List Laid) → Commas es xs ys → sign symbols.CloseBracket ys zs → flat.run xs (flat.ExceptIndex ∷ fs) flat.Want ≡ flat.run zs fs (flat.ExceptPath true)
except_arguments NoTrees g fs xs ys zs h s = absurd h
except_arguments (MoreTrees es e) g fs xs ys zs h s =
    commas_in flat.ExceptIndex fs tt (λ at. refl) es g.0 xs h.0 h.1
    ∙ part _ _ e (flat.ExceptIndex ∷ fs) g.1.goes tt h.2 s.1 refl (λ n gs. refl)

key_goes : (more : Bool) (p : Place) (s : Step) → StepGood s → IsKey s → (fs : List flat.Row) (xs ys : List Laid) → StepText p s xs ys → flat.run xs fs (flat.ExceptPath more) ≡ flat.run ys fs (flat.ExceptPath true)
key_goes more p Prime g k fs xs ys h = absurd k
key_goes more p (Index es) g k fs xs ys h = ap (λ v. flat.run v fs (flat.ExceptPath more)) h.1 ∙ except_arguments es g fs h.0 h.2.0 ys h.2.1 h.2.2
key_goes more p (Field n) g k fs xs ys h = ap (λ v. flat.run v fs (flat.ExceptPath more)) h.1 ∙ ap (λ v. flat.run v fs flat.ExceptField) h.2.1

path_goes : (ss : Steps) → StepsGood ss → IsPath ss → (fs : List flat.Row) (xs ys : List Laid) → StepsText ss xs ys → flat.run xs fs (flat.ExceptPath false) ≡ flat.run ys fs (flat.ExceptPath true)
path_goes NoSteps g k fs xs ys h = absurd k
path_goes (MoreSteps NoSteps p s) g k fs xs ys h = ap (λ v. flat.run v fs (flat.ExceptPath false)) h.1 ∙ key_goes false p s g.1 k fs h.0 ys h.2
path_goes (MoreSteps (MoreSteps ss q t) p s) g k fs xs ys h = path_goes (MoreSteps ss q t) g.0 k.0 fs xs h.0 h.1 ∙ key_goes true p s g.1 k.1 fs h.0 ys h.2

-- up to where the value of a change begins
change_begins : (ss : Steps) → StepsGood ss → IsPath ss → (fs : List flat.Row) (xs ys zs ws : List Laid) → sign symbols.Exclamation xs ys → StepsText ss ys zs → sign symbols.Equal zs ws
    → flat.run xs fs flat.ExceptMark ≡ flat.run ws (flat.ExceptValue ∷ fs) flat.Want
change_begins ss g k fs xs ys zs ws m h q = ap (λ v. flat.run v fs flat.ExceptMark) m.1 ∙ path_goes ss g k fs ys zs h ∙ ap (λ v. flat.run v fs (flat.ExceptPath true)) q.1

changes_before : (cs : Changes) → ChangesGood cs → (fs : List flat.Row) (xs ys : List Laid) → ChangesBefore cs xs ys → flat.run xs fs flat.ExceptMark ≡ flat.run ys fs flat.ExceptMark
changes_before NoChanges g fs xs ys h = ap (λ v. flat.run v fs flat.ExceptMark) h
changes_before (MoreChanges cs ss e) g fs xs ys h =
    let c = h.2.1 in
    changes_before cs g.0 fs xs h.0 h.1
    ∙ change_begins ss g.1 c.0 fs h.0 c.1.0 c.1.2.0 c.1.2.2.0 c.1.1 c.1.2.1 c.1.2.2.1
    ∙ part _ _ e (flat.ExceptValue ∷ fs) g.2.goes tt c.1.2.2.2 h.2.2.1 refl (λ n gs. refl)

pub changes_go : (cs : Changes) → ChangesGood cs → (fs : List flat.Row) (xs ys zs : List Laid) → ChangesText cs xs ys → sign symbols.CloseBracket ys zs → flat.run xs fs flat.ExceptMark ≡ flat.run zs fs (flat.Have flat.Other)
changes_go NoChanges g fs xs ys zs h s = absurd h
changes_go (MoreChanges cs ss e) g fs xs ys zs h s =
    let c = h.2 in
    changes_before cs g.0 fs xs h.0 h.1
    ∙ change_begins ss g.1 c.0 fs h.0 c.1.0 c.1.2.0 c.1.2.2.0 c.1.1 c.1.2.1 c.1.2.2.1
    ∙ part _ _ e (flat.ExceptValue ∷ fs) g.2.goes tt c.1.2.2.2 s.1 refl (λ n gs. refl)

-- ---- CASE

start_kind : (fs : List flat.Row) (q : Place) (xs : List Laid) (k : Kind) → OpenKind k → flat.run (plain k q ∷ xs) fs flat.CaseNext ≡ flat.run (plain k q ∷ xs) (flat.CaseTest ∷ fs) flat.Want
start_kind fs q xs (kinds.Word w) o =
    ap (λ b. flat.after (if b then flat.Reads fs flat.OtherArrow else flat.begins (plain (kinds.Word w) q) (flat.CaseTest ∷ fs)) (plain (kinds.Word w) q ∷ xs) (flat.run xs)) o
start_kind fs q xs _ o = refl

starts : (fs : List flat.Row) (xs : List Laid) → Opened xs → flat.run xs fs flat.CaseNext ≡ flat.run xs (flat.CaseTest ∷ fs) flat.Want
starts fs [] o = absurd o
starts fs (Plain t ∷ xs) o = start_kind fs t.place xs t.kind o
starts fs (ListOpen b q ∷ xs) o = refl
starts fs (ListItem b q ∷ xs) o = refl
starts fs (ListClose q ∷ xs) o = refl

-- behind arms, each with a `[]` behind it
abbrev arms_state : Arms → List flat.Row → List Laid → flat.Result
arms_state NoArms fs xs = flat.run xs (flat.CaseTest ∷ fs) flat.Want
arms_state (MoreArms arms p e) fs xs = flat.run xs fs flat.CaseNext

test_starts : (arms : Arms) (fs : List flat.Row) (xs : List Laid) → Opened xs → arms_state arms fs xs ≡ flat.run xs (flat.CaseTest ∷ fs) flat.Want
test_starts NoArms fs xs o = refl
test_starts (MoreArms arms p e) fs xs o = starts fs xs o

-- a `[]` goes to the innermost CASE, which need not be that of the tree
record Marked (bs : List Bool) (fs : List flat.Row) : Type 0 where
  pub left : List Bool
  pub settles : flat.settle true (pile bs (flat.CaseValue ∷ fs)) ≡ flat.CaseValue ∷ pile left fs

marked : (bs : List Bool) (fs : List flat.Row) → Marked bs fs
marked [] fs = record { left = []; settles = refl }
marked (true ∷ bs) fs = record { left = bs ++ true ∷ []; settles = ap (λ v. flat.CaseValue ∷ v) (pile_twice bs (true ∷ []) fs) }
marked (false ∷ bs) fs = let m = marked bs fs in record { left = m.left; settles = m.settles }

record ArmsReached (arms : Arms) (o : flat.Result) (ys : List Laid) (fs : List flat.Row) : Type 0 where
  pub over : List Bool
  pub runs : o ≡ arms_state arms (pile over fs) ys

-- up to where the value of an arm begins
arm_begins : (arms : Arms) (o : flat.Result) (fs : List flat.Row) (xs ys zs : List Laid) (p : Tree) → (r : ArmsReached arms o xs fs) → Goes p → Text p xs ys → sign symbols.Arrow ys zs
    → o ≡ flat.run zs (flat.CaseValue ∷ pile r.over fs) flat.Want
arm_begins arms o fs xs ys zs p r g t s =
    r.runs ∙ test_starts arms (pile r.over fs) xs (opened p xs ys t) ∙ part _ _ p (flat.CaseTest ∷ pile r.over fs) g tt t s.1 refl (λ n gs. refl)

abbrev always : Place → Laid
always at = plain (kinds.Symbol symbols.Always) at

arm_ends : (o : flat.Result) (bs : List Bool) (fs : List flat.Row) (ys zs : List Laid) (at : Place) → (r : Reached o ys (flat.CaseValue ∷ pile bs fs)) → ys ≡ always at ∷ zs
    → o ≡ flat.run zs (pile ((marked r.over (pile bs fs)).left ++ bs) fs) flat.CaseNext
arm_ends o bs fs ys zs at r q =
    let m = marked r.over (pile bs fs) in
    r.runs ∙ ap (λ v. flat.run v (pile r.over (flat.CaseValue ∷ pile bs fs)) (flat.Have r.named)) q
    ∙ ap (λ v. flat.after (flat.closes (always at) v) (always at ∷ zs) (flat.run zs)) m.settles
    ∙ ap (λ v. flat.run zs v flat.CaseNext) (pile_twice m.left bs fs)

arms_before : (arms : Arms) → ArmsGood arms → (fs : List flat.Row) (xs ys : List Laid) → ArmsBefore arms xs ys → ArmsReached arms (flat.run xs (flat.CaseTest ∷ fs) flat.Want) ys fs
arms_before NoArms g fs xs ys h = record { over = []; runs = ap (λ v. flat.run v (flat.CaseTest ∷ fs) flat.Want) h }
arms_before (MoreArms arms p e) g fs xs ys h =
    let r = arms_before arms g.0 fs xs h.0 h.1 in
    let v = from (arm_begins arms _ fs h.0 h.2.0 h.2.2.0 p r g.1.goes h.2.1 h.2.2.1) (g.2.goes (flat.CaseValue ∷ pile r.over fs) tt h.2.2.0 h.2.2.2.0 h.2.2.2.1) in
    record { over = (marked v.over (pile r.over fs)).left ++ r.over; runs = arm_ends _ r.over fs h.2.2.2.0 ys h.2.2.2.2.0 v h.2.2.2.2.1 }

pub case_goes : (at : Place) (arms : Arms) → ArmsGood arms → Goes (tree.Case at arms)
case_goes at NoArms g fs o xs ys h = absurd h.2
case_goes at (MoreArms arms p e) g fs o xs ys h =
    let k = h.2 in
    let r = arms_before arms g.0 fs h.0 k.0 k.1 in
    widen (true ∷ r.over) fs
    (from (ap (λ v. flat.run v fs flat.Want) h.1 ∙ arm_begins arms _ fs k.0 k.2.0 k.2.2.0 p r g.1.goes k.2.1 k.2.2.1)
    (g.2.goes (flat.CaseValue ∷ pile r.over fs) tt k.2.2.0 ys k.2.2.2))

pub case_other_goes : (at : Place) (arms : Arms) (e : Tree) → ArmsGood arms → Goes e → Goes (tree.CaseOther at arms e)
case_other_goes at NoArms e g ge fs o xs ys h = absurd h.2.1
case_other_goes at (MoreArms arms p d) e g ge fs o xs ys h =
    let r = arms_before (MoreArms arms p d) g fs h.0 h.2.0 h.2.1 in
    widen (false ∷ r.over) fs
    (from
    (ap (λ v. flat.run v fs flat.Want) h.1 ∙ r.runs
    ∙ ap (λ v. flat.run v (pile r.over fs) flat.CaseNext) h.2.2.1.1
    ∙ ap (λ v. flat.run v (pile r.over fs) flat.OtherArrow) h.2.2.2.1.1)
    (ge (flat.Rest ∷ pile r.over fs) tt h.2.2.2.0 ys h.2.2.2.2))

-- ---- definitions, and LET

parameter_names : (ns : List (List ℕ)) (fs : List flat.Row) (xs ys zs : List Laid) → NamesText ns xs ys → sign symbols.CloseParenthesis ys zs → flat.run xs fs flat.Parameter ≡ flat.run zs fs flat.DefinedAs
parameter_names [] fs xs ys zs h c = absurd h
parameter_names (m ∷ []) fs xs ys zs h c = ap (λ v. flat.run v fs flat.Parameter) h.1 ∙ ap (λ v. flat.run v fs flat.ParameterNamed) c.1
parameter_names (m ∷ o ∷ ns) fs xs ys zs h c =
    ap (λ v. flat.run v fs flat.Parameter) h.1.1 ∙ ap (λ v. flat.run v fs flat.ParameterNamed) h.2.1.1 ∙ parameter_names (o ∷ ns) fs h.2.0 ys zs h.2.2 c

operator_begins : (ns : List (List ℕ)) (fs : List flat.Row) (xs ys zs : List Laid) → ParametersText ns xs ys → sign symbols.Defined ys zs → flat.run xs fs flat.DefinitionNamed ≡ flat.run zs (flat.Definition ∷ fs) flat.Want
operator_begins [] fs xs ys zs h d = ap (λ v. flat.run v fs flat.DefinitionNamed) (h ∙ d.1)
operator_begins (m ∷ ns) fs xs ys zs h d =
    ap (λ v. flat.run v fs flat.DefinitionNamed) h.1.1 ∙ parameter_names (m ∷ ns) fs h.0 h.2.0 ys h.2.1 h.2.2 ∙ ap (λ v. flat.run v fs flat.DefinedAs) d.1

function_goes : {x : Laid} (e : Tree) → FunctionGood e → (fs : List flat.Row) (xs us vs : List Laid) → FunctionRest e xs us → us ≡ x ∷ vs → is_case_mark x ≡ false → Closing x
    → flat.run xs fs flat.DefinitionNamed ≡ flat.after (flat.behind x (flat.Definition ∷ fs)) (x ∷ vs) (flat.run vs)
function_goes (tree.Function at bs e) g fs xs us vs h u c k =
    ap (λ v. flat.run v fs flat.DefinitionNamed) h.1
    ∙ bounds_go symbols.CloseBracket h.2.2.1.0 flat.ByDefinition bs g.0 fs h.0 h.2.0 h.2.2.0 h.2.1 h.2.2.1.1 refl (λ n gs. refl)
    ∙ ap (λ v. flat.run v fs flat.DefinedAs) h.2.2.2.1.1
    ∙ part _ _ e (flat.Definition ∷ fs) g.1.goes tt h.2.2.2.2 u c k
function_goes _ g fs xs us vs h u c k = absurd h

-- a definition behind its name, up to the token behind it
definition_goes : {x : Laid} (ns : List (List ℕ)) (form : DefinitionForm) (e : Tree) → Goes e → FunctionGood e → (fs : List flat.Row) (xs us vs : List Laid) → DefinitionRest ns form e xs us → us ≡ x ∷ vs → is_case_mark x ≡ false → Closing x
    → flat.run xs fs flat.DefinitionNamed ≡ flat.after (flat.behind x (flat.Definition ∷ fs)) (x ∷ vs) (flat.run vs)
definition_goes ns forms.Operator e g f fs xs us vs h u c k = operator_begins ns fs xs h.0 h.2.0 h.1 h.2.1 ∙ part _ _ e (flat.Definition ∷ fs) g tt h.2.2 u c k
definition_goes ns forms.Function e g f fs xs us vs h u c k = function_goes e f fs xs us vs h.1 u c k
definition_goes ns forms.Constant e g f fs xs us vs h u c k = absurd h

-- up to behind the name of a definition
definitions_go : (ds : Definitions) → DefinitionsGood ds → (m : List ℕ) (q : Place) (fs : List flat.Row) (xs ys zs : List Laid) → DefinitionsText ds xs ys → token q (kinds.Name m) ys zs
    → flat.run xs fs flat.DefinitionName ≡ flat.run zs fs flat.DefinitionNamed
definitions_go NoDefinitions g m q fs xs ys zs h t = ap (λ v. flat.run v fs flat.DefinitionName) (h ∙ t)
definitions_go (MoreDefinitions ds n p ns form e) g m q fs xs ys zs h t =
    definitions_go ds g.0 n p fs xs h.0 h.2.0 h.1 h.2.1 ∙ definition_goes ns form e g.1.goes g.2 fs h.2.0 ys zs h.2.2 t refl (λ n gs. refl)

pub let_goes : (at : Place) (ds : Definitions) (e : Tree) → DefinitionsGood ds → Goes e → Goes (tree.Let at ds e)
let_goes at NoDefinitions e g ge fs o xs ys h = absurd h.2.1
let_goes at (MoreDefinitions ds n p ns form d) e g ge fs o xs ys h =
    let k = h.2.1 in
    widen (false ∷ []) fs
    (from
    (ap (λ v. flat.run v fs flat.Want) h.1
    ∙ definitions_go ds g.0 n p fs h.0 k.0 k.2.0 k.1 k.2.1
    ∙ definition_goes ns form d g.1.goes g.2 fs k.2.0 h.2.0 h.2.2.0 k.2.2 h.2.2.1.1 refl (λ n gs. refl))
    (ge (flat.Rest ∷ fs) tt h.2.2.0 ys h.2.2.2))
