-- Rows that begin with a token of their own, and postfix steps, flat.
use Rattle.std.proofs.Common.{◌≡◌, ℕ, ℤ, Bool, true, false, ◌&&◌, ◌||◌, List, [], ◌∷◌, refl, ap, ◌∙◌}
use Rattle.base_core.specs.declared.place.Place.{Place}
use Rattle.reading_trees.specs.declared.laid.Bullet.{Bullet}
use Rattle.reading_trees.specs.declared.laid.Bullet.TheVariants as bullets
use Rattle.reading_trees.specs.declared.laid.Laid.{Laid}
use Rattle.reading_trees.specs.declared.laid.Laid.TheVariants.{ListItem}
use Rattle.reading_tokens.specs.declared.token.Kind.TheVariants as kinds
use Rattle.reading_tokens.specs.declared.token.Symbol.TheVariants as symbols
use Rattle.reading_trees.specs.declared.operators.PrefixOperator.{PrefixOperator}
use Rattle.reading_trees.specs.declared.operators.PrefixOperator.TheVariants as prefixes
use Rattle.reading_trees.specs.declared.operators.InfixOperator.{InfixOperator}
use Rattle.reading_trees.specs.declared.operators.InfixOperator.TheVariants as infixes
use Rattle.reading_trees.specs.declared.operators.BuiltinSet.{BuiltinSet}
use Rattle.reading_trees.specs.declared.operators.BuiltinSet.TheVariants as builtins
use Rattle.reading_trees.specs.Precedence.{prefix_kind, infix_symbol}
use Rattle.reading_trees.specs.Grammar.{Text, ArgumentsText, Chain, Commas, ItemsBefore, StepText, StepsText, sign, sign_at, list_item, begins_member, first_begins, is_member, is_name}
use Rattle.reading_trees.specs.Trees as tree
use Rattle.reading_trees.specs.Trees.{Tree, Trees, NoTrees, MoreTrees, Operands, First, Next, Step, Prime, Index, Field, Steps, NoSteps, MoreSteps}
use Rattle.reading_machine.proofs.RunsParts.{plain}
use Rattle.reading_machine.proofs.Flat as flat
use Rattle.reading_machine.proofs.FlatBegins.{FlatOpen, flat_delivers}
use Rattle.reading_machine.proofs.FlatGoes.{pile, pile_open, Reached, from, widen, Goes, Member, Good, AllGood, ChainGood, StepGood, StepsGood, part, commas_in}

-- ---- one token

pub here : (ys : List Laid) (fs : List flat.Row) (n : flat.Primary) (o : flat.Result) → o ≡ flat.run ys fs (flat.Have n) → Reached o ys fs
here ys fs n o q = record { over = []; named = n; runs = q }

pub number_goes : (at : Place) (n : ℤ) → Goes (tree.Number at n)
number_goes at n fs o xs ys h = here ys fs flat.Other _ (ap (λ v. flat.run v fs flat.Want) h)

pub str_goes : (at : Place) (s : List ℕ) → Goes (tree.Str at s)
str_goes at s fs o xs ys h = here ys fs flat.Other _ (ap (λ v. flat.run v fs flat.Want) h)

pub truth_goes : (at : Place) (b : Bool) → Goes (tree.Truth at b)
truth_goes at true fs o xs ys h = here ys fs flat.Other _ (ap (λ v. flat.run v fs flat.Want) h)
truth_goes at false fs o xs ys h = here ys fs flat.Other _ (ap (λ v. flat.run v fs flat.Want) h)

pub builtin_goes : (at : Place) (b : BuiltinSet) → Goes (tree.Builtin at b)
builtin_goes at builtins.Booleans fs o xs ys h = here ys fs flat.Other _ (ap (λ v. flat.run v fs flat.Want) h)
builtin_goes at builtins.Strings fs o xs ys h = here ys fs flat.Other _ (ap (λ v. flat.run v fs flat.Want) h)

pub name_goes : (at : Place) (n : List ℕ) → Goes (tree.Name at n)
name_goes at n fs o xs ys h = here ys fs flat.Bare _ (ap (λ v. flat.run v fs flat.Want) h)

pub at_goes : (at : Place) → Goes (tree.At at)
at_goes at fs o xs ys h = here ys fs flat.Other _ (ap (λ v. flat.run v fs flat.Want) h)

-- ---- operators

prefix_begins : (o : PrefixOperator) (at : Place) (fs : List flat.Row) → flat.begins (plain (prefix_kind o) at) fs ≡ flat.want fs
prefix_begins prefixes.Not at fs = refl
prefix_begins _ at fs = refl

pub prefix_goes : (at : Place) (c : PrefixOperator) (e : Tree) → Goes e → Goes (tree.Prefix at c e)
prefix_goes at c e g fs o xs ys h =
    from (ap (λ v. flat.run v fs flat.Want) h.1 ∙ ap (λ s. flat.after s (plain (prefix_kind c) at ∷ h.0) (flat.run h.0)) (prefix_begins c at fs)) (g fs o h.0 ys h.2)

infix_follows : (q : InfixOperator) (at : Place) (n : flat.Primary) (fs : List flat.Row) → flat.follows (plain (kinds.Symbol (infix_symbol q)) at) n fs ≡ flat.want fs
infix_follows infixes.Implies at n fs = refl
infix_follows _ at n fs = refl

-- an operator and one more operand
pub operand : (q : InfixOperator) (at : Place) (e : Tree) (x : flat.Result) (fs : List flat.Row) (ys zs ws : List Laid) → FlatOpen fs → Reached x ys fs → sign_at at (infix_symbol q) ys zs → Goes e → Text e zs ws → Reached x ws fs
operand q at e x fs ys zs ws o r s g t =
    widen r.over fs
    (from (r.runs ∙ ap (λ v. flat.run v (pile r.over fs) (flat.Have r.named)) s ∙ ap (λ v. flat.after v (plain (kinds.Symbol (infix_symbol q)) at ∷ zs) (flat.run zs)) (infix_follows q at r.named (pile r.over fs)))
    (g (pile r.over fs) (pile_open r.over fs o) zs ws t))

chain_goes : (q : InfixOperator) (es : Operands) → ChainGood es → (fs : List flat.Row) → FlatOpen fs → (xs ys : List Laid) → Chain q es xs ys → Reached (flat.run xs fs flat.Want) ys fs
chain_goes q (First e) g fs o xs ys h = g.goes fs o xs ys h
chain_goes q (Next es at e) g fs o xs ys h = operand q at e _ fs h.0 h.2.0 ys o (chain_goes q es g.0 fs o xs h.0 h.1) h.2.1 g.1.goes h.2.2

pub infix_goes : (at : Place) (q : InfixOperator) (es : Operands) (e : Tree) → ChainGood es → Goes e → Goes (tree.Infix at q es e)
infix_goes at q es e gs g fs o xs ys h = operand q at e _ fs h.0 h.2.0 ys o (chain_goes q es gs fs o xs h.0 h.1) h.2.1 g h.2.2

-- one more operand behind a name and `\in`
member_operand : (q : InfixOperator) (at : Place) (e : Tree) (xs ys zs ws : List Laid) → Member xs ys → sign_at at (infix_symbol q) ys zs → Goes e → Text e zs ws → Member xs ws
member_operand q at e xs ys zs ws m s g t =
    record { name = m.name; place = m.place; sign = m.sign; behind = m.behind; here = m.here; goes = λ fs o. operand q at e _ fs ys zs ws o (m.goes fs o) s g t }

or_rest : (a b : Bool) → (a || b) ≡ true → a ≡ false → b ≡ true
or_rest true b e q = cc
or_rest false b e q = e

-- the name and `\in` are the beginning of this very chain
member_direct : (q : InfixOperator) (d : Tree) → (is_member q && is_name d) ≡ true → (at : Place) (e : Tree) (xs ys zs ws : List Laid) → Text d xs ys → sign_at at (infix_symbol q) ys zs → Goes e → Text e zs ws → Member xs ws
member_direct infixes.Member (tree.Name p n) b at e xs ys zs ws h s g t =
    record { name = n; place = p; sign = at; behind = zs; here = h ∙ ap (λ v. plain (kinds.Name n) p ∷ v) s; goes = λ fs o. g fs o zs ws t }
member_direct infixes.Member d b at e xs ys zs ws h s g t = absurd (let q : false ≡ true = b in cc)
member_direct c d b at e xs ys zs ws h s g t = absurd (let q : false ≡ true = b in cc)

member_first : (q : InfixOperator) (d : Tree) → Good d → first_begins q (First d) ≡ true → (at : Place) (e : Tree) (xs ys zs ws : List Laid) → Text d xs ys → sign_at at (infix_symbol q) ys zs → Goes e → Text e zs ws
    → (b : Bool) → (is_member q && is_name d) ≡ b → Member xs ws
member_first q d gd m at e xs ys zs ws h s g t true i = member_direct q d i at e xs ys zs ws h s g t
member_first q d gd m at e xs ys zs ws h s g t false i =
    member_operand q at e xs ys zs ws (gd.member (or_rest (is_member q && is_name d) (begins_member d) m i) xs ys h) s g t

chain_member : (q : InfixOperator) (es : Operands) → ChainGood es → first_begins q es ≡ true → (at : Place) (e : Tree) (xs ys zs ws : List Laid) → Chain q es xs ys → sign_at at (infix_symbol q) ys zs → Goes e → Text e zs ws → Member xs ws
chain_member q (First d) gs m at e xs ys zs ws h s g t = member_first q d gs m at e xs ys zs ws h s g t (is_member q && is_name d) refl
chain_member q (Next es p d) gs m at e xs ys zs ws h s g t =
    member_operand q at e xs ys zs ws (chain_member q es gs.0 m p d xs h.0 h.2.0 ys h.1 h.2.1 gs.1.goes h.2.2) s g t

pub infix_member : (at : Place) (q : InfixOperator) (es : Operands) (e : Tree) → ChainGood es → Goes e → begins_member (tree.Infix at q es e) ≡ true → (xs ys : List Laid) → Text (tree.Infix at q es e) xs ys → Member xs ys
infix_member at q es e gs g m xs ys h = chain_member q es gs m at e xs h.0 h.2.0 ys h.1 h.2.1 g h.2.2

-- ---- parentheses, calls, IF

pub parenthesized_goes : (at : Place) (e : Tree) → Goes e → Goes (tree.Parenthesized at e)
parenthesized_goes at e g fs o xs ys h =
    here ys fs flat.Other _
    (ap (λ v. flat.run v fs flat.Want) h.1
    ∙ part _ _ e (flat.Parenthesis ∷ fs) g tt h.2.1 h.2.2.1 refl (λ n gs. refl)
    ∙ ap (λ s. flat.after s (plain (kinds.Symbol symbols.CloseParenthesis) h.2.2.0 ∷ ys) (flat.run ys)) (flat_delivers fs o))

call_arguments : (es : Trees) → AllGood es → (fs : List flat.Row) (xs ys zs : List Laid) → Commas es xs ys → sign symbols.CloseParenthesis ys zs → flat.run xs (flat.Call ∷ fs) flat.Want ≡ flat.run zs fs (flat.Have flat.Other)
call_arguments NoTrees g fs xs ys zs h s = absurd h
call_arguments (MoreTrees es e) g fs xs ys zs h s =
    commas_in flat.Call fs tt (λ at. refl) es g.0 xs h.0 h.1
    ∙ part _ _ e (flat.Call ∷ fs) g.1.goes tt h.2 s.1 refl (λ n gs. refl)

pub call_goes : (at : Place) (n : List ℕ) (es : Trees) → AllGood es → Goes (tree.Call at n es)
call_goes at n es g fs o xs ys h =
    here ys fs flat.Other _
    (ap (λ v. flat.run v fs flat.Want) h.1
    ∙ ap (λ v. flat.run v fs (flat.Have flat.Bare)) h.2.1.1
    ∙ call_arguments es g fs h.2.0 h.2.2.0 ys h.2.2.1 h.2.2.2)

qualified_arguments : (es : Trees) → AllGood es → (fs : List flat.Row) (xs ys : List Laid) → ArgumentsText es xs ys → Reached (flat.run xs fs (flat.Have flat.Marked)) ys fs
qualified_arguments NoTrees g fs xs ys h = here ys fs flat.Marked _ (ap (λ v. flat.run v fs (flat.Have flat.Marked)) h)
qualified_arguments (MoreTrees es e) g fs xs ys h =
    here ys fs flat.Other _ (ap (λ v. flat.run v fs (flat.Have flat.Marked)) h.1.1 ∙ call_arguments (MoreTrees es e) g fs h.0 h.2.0 ys h.2.1 h.2.2)

pub qualified_goes : (at : Place) (q : List ℕ) (es : Trees) → AllGood es → Goes (tree.Qualified at q es)
qualified_goes at q es g fs o xs ys h =
    let n = h.1.3 in
    from
    (ap (λ v. flat.run v fs flat.Want) n.1
    ∙ ap (λ v. flat.run v fs (flat.Have flat.Bare)) n.2.1.1
    ∙ ap (λ v. flat.run v fs flat.InstanceName) n.2.2.1)
    (qualified_arguments es g fs h.0 ys h.2)

pub if_goes : (at : Place) (p e f : Tree) → Goes p → Goes e → Goes f → Goes (tree.If at p e f)
if_goes at p e f gp ge gf fs o xs ys h =
    widen (false ∷ []) fs
    (from
    (ap (λ v. flat.run v fs flat.Want) h.1
    ∙ part _ _ p (flat.IfTest ∷ fs) gp tt h.2.1 h.2.2.1.1 refl (λ n gs. refl)
    ∙ part _ _ e (flat.IfThen ∷ fs) ge tt h.2.2.2.1 h.2.2.2.2.1.1 refl (λ n gs. refl))
    (gf (flat.Rest ∷ fs) tt h.2.2.2.2.0 ys h.2.2.2.2.2))

-- ---- junction lists

item_begins : (b : Bullet) (at q : Place) (fs : List flat.Row) → flat.list_started (ListItem b q) b fs ≡ flat.want (flat.Junction b ∷ fs)
item_begins bullets.And at q fs = refl
item_begins bullets.Or at q fs = refl

item_ends : (b : Bullet) (q : Place) (fs : List flat.Row) → flat.behind (ListItem b q) (flat.Junction b ∷ fs) ≡ flat.want (flat.Junction b ∷ fs)
item_ends bullets.And q fs = refl
item_ends bullets.Or q fs = refl

-- up to behind the bullet of an item
items : (at : Place) (b : Bullet) (es : Trees) → AllGood es → (fs : List flat.Row) (xs ys zs : List Laid) → ItemsBefore b es xs ys → list_item b ys zs
    → flat.run xs fs (flat.ListStart b) ≡ flat.run zs (flat.Junction b ∷ fs) flat.Want
items at b NoTrees g fs xs ys zs h s =
    ap (λ v. flat.run v fs (flat.ListStart b)) (h ∙ s.1) ∙ ap (λ v. flat.after v (ListItem b s.0 ∷ zs) (flat.run zs)) (item_begins b at s.0 fs)
items at b (MoreTrees es e) g fs xs ys zs h s =
    items at b es g.0 fs xs h.0 h.2.0 h.1 h.2.1
    ∙ part _ _ e (flat.Junction b ∷ fs) g.1.goes tt h.2.2 s.1 refl (λ n gs. refl)
    ∙ ap (λ v. flat.after v (ListItem b s.0 ∷ zs) (flat.run zs)) (item_ends b s.0 fs)

pub junction_goes : (at : Place) (b : Bullet) (es : Trees) → AllGood es → Goes (tree.Junction at b es)
junction_goes at b NoTrees g fs o xs ys h = absurd h.2.1
junction_goes at b (MoreTrees es e) g fs o xs ys h =
    here ys fs flat.Other _
    (ap (λ v. flat.run v fs flat.Want) h.1
    ∙ items at b es g.0 fs h.0 h.2.1.0 h.2.1.2.0 h.2.1.1 h.2.1.2.1
    ∙ part _ _ e (flat.Junction b ∷ fs) g.1.goes tt h.2.1.2.2 h.2.2.1 refl (λ n gs. refl))

-- ---- postfix steps

index_arguments : (es : Trees) → AllGood es → (fs : List flat.Row) (xs ys zs : List Laid) → Commas es xs ys → sign symbols.CloseBracket ys zs → flat.run xs (flat.Index ∷ fs) flat.Want ≡ flat.run zs fs (flat.Have flat.Other)
index_arguments NoTrees g fs xs ys zs h s = absurd h
index_arguments (MoreTrees es e) g fs xs ys zs h s =
    commas_in flat.Index fs tt (λ at. refl) es g.0 xs h.0 h.1
    ∙ part _ _ e (flat.Index ∷ fs) g.1.goes tt h.2 s.1 refl (λ n gs. refl)

step_goes : (at : Place) (s : Step) → StepGood s → (fs : List flat.Row) (n : flat.Primary) (xs ys : List Laid) → StepText at s xs ys → flat.run xs fs (flat.Have n) ≡ flat.run ys fs (flat.Have flat.Other)
step_goes at Prime g fs n xs ys h = ap (λ v. flat.run v fs (flat.Have n)) h
step_goes at (Index es) g fs n xs ys h = ap (λ v. flat.run v fs (flat.Have n)) h.1 ∙ index_arguments es g fs h.0 h.2.0 ys h.2.1 h.2.2
step_goes at (Field m) g fs n xs ys h = ap (λ v. flat.run v fs (flat.Have n)) h.1 ∙ ap (λ v. flat.run v fs flat.FieldName) h.2.1

abbrev named_after : flat.Primary → Steps → flat.Primary
named_after n NoSteps = n
named_after n (MoreSteps ss at s) = flat.Other

steps_go : (ss : Steps) → StepsGood ss → (fs : List flat.Row) (n : flat.Primary) (xs ys : List Laid) → StepsText ss xs ys → flat.run xs fs (flat.Have n) ≡ flat.run ys fs (flat.Have (named_after n ss))
steps_go NoSteps g fs n xs ys h = ap (λ v. flat.run v fs (flat.Have n)) h
steps_go (MoreSteps ss at s) g fs n xs ys h = steps_go ss g.0 fs n xs h.0 h.1 ∙ step_goes at s g.1 fs (named_after n ss) h.0 ys h.2

pub postfix_goes : (at : Place) (e : Tree) (ss : Steps) (s : Step) → Goes e → StepsGood ss → StepGood s → Goes (tree.Postfix at e ss s)
postfix_goes at e ss s g gs gl fs o xs ys h =
    let k = h.1 in
    let r : Reached (flat.run xs fs flat.Want) k.0 fs = g fs o xs k.0 k.1 in
    record {
      over = r.over;
      named = flat.Other;
      runs = r.runs ∙ steps_go ss gs (pile r.over fs) r.named k.0 k.2.0 k.2.1 ∙ step_goes at s gl (pile r.over fs) (named_after r.named ss) k.2.0 ys k.2.2;
    }
