-- Rows in braces, tuples, and what has a subscript, flat.
use Rattle.std.proofs.Common.{◌≡◌, ℕ, Bool, true, false, List, [], ◌∷◌, refl, sym, ap, subst, ◌∙◌}
use Rattle.std.specs.Prelude.{if◌then◌else◌}
use Rattle.base_core.specs.declared.place.Place.{Place}
use Rattle.reading_trees.specs.declared.laid.Laid.{Laid}
use Rattle.reading_trees.specs.declared.laid.Laid.TheVariants.{Plain, ListOpen, ListItem, ListClose}
use Rattle.reading_tokens.specs.declared.token.Kind.{Kind}
use Rattle.reading_tokens.specs.declared.token.Kind.TheVariants as kinds
use Rattle.reading_tokens.specs.declared.token.Symbol.{Symbol}
use Rattle.reading_tokens.specs.declared.token.Symbol.TheVariants as symbols
use Rattle.reading_trees.specs.declared.operators.InfixOperator.{InfixOperator}
use Rattle.reading_trees.specs.declared.operators.InfixOperator.TheVariants as infixes
use Rattle.reading_trees.specs.Precedence.{infix_symbol}
use Rattle.reading_trees.specs.Grammar.{Text, MaybeCommas, CommasBefore, begins_member, is_member, sign}
use Rattle.reading_trees.specs.Trees as tree
use Rattle.reading_trees.specs.Trees.{Tree, Trees, NoTrees, MoreTrees, Bounds}
use Rattle.reading_machine.specs.Machine.{is_case_mark}
use Rattle.reading_machine.proofs.RunsParts.{plain}
use Rattle.reading_machine.proofs.RunsStarts.{is_closer, OpenKind, Opened, opened, SecondKind, Clear, clear_here, NamedKind, Named, Special, named}
use Rattle.reading_machine.proofs.Flat as flat
use Rattle.reading_machine.proofs.FlatBegins.{FlatOpen, flat_delivers, flat_no_subscript}
use Rattle.reading_machine.proofs.FlatGoes.{Goes, run_subscript, Delivers, Good, AllGood, BoundsGood, Closing, ended, part, row_after, commas}
use Rattle.reading_machine.proofs.FlatPlain.{here}
use Rattle.reading_machine.proofs.FlatBounds.{bounds_go}

abbrev is_in : Symbol → Bool
is_in symbols.Member = true
is_in _ = false

in_infixes : (o : InfixOperator) → is_member o ≡ false → is_in (infix_symbol o) ≡ false
in_infixes infixes.Member h = cc
in_infixes _ h = refl

special : Special is_in
special = record { infixes = in_infixes; prime = refl; bracket = refl; dot = refl; parenthesis = refl; exclamation = refl }

-- ---- where a tree begins in braces

named_symbol : (fs : List flat.Row) (q : Place) (s : Symbol) → is_in s ≡ false → flat.brace_named (plain (kinds.Symbol s) q) fs s ≡ flat.follows (plain (kinds.Symbol s) q) flat.Bare (flat.Braces false ∷ fs)
named_symbol fs q symbols.Member h = absurd (let e : true ≡ false = h in cc)
named_symbol fs q _ h = refl

named_kind : (fs : List flat.Row) (q : Place) (k : Kind) → SecondKind is_in k → flat.step (plain k q) fs flat.BraceName ≡ flat.follows (plain k q) flat.Bare (flat.Braces false ∷ fs)
named_kind fs q (kinds.Symbol s) h = named_symbol fs q s h
named_kind fs q _ h = refl

named_runs : (fs : List flat.Row) (xs : List Laid) → Clear is_in xs → flat.run xs fs flat.BraceName ≡ flat.run xs (flat.Braces false ∷ fs) (flat.Have flat.Bare)
named_runs fs [] h = refl
named_runs fs (Plain t ∷ xs) h = ap (λ s. flat.after s (Plain t ∷ xs) (flat.run xs)) (named_kind fs t.place t.kind h)
named_runs fs (ListOpen b q ∷ xs) h = refl
named_runs fs (ListItem b q ∷ xs) h = refl
named_runs fs (ListClose q ∷ xs) h = refl

start_symbol : (fs : List flat.Row) (q : Place) (s : Symbol) → is_closer s ≡ false → flat.brace_started (plain (kinds.Symbol s) q) fs s ≡ flat.begins (plain (kinds.Symbol s) q) (flat.Braces false ∷ fs)
start_symbol fs q symbols.CloseBrace h = absurd (let e : true ≡ false = h in cc)
start_symbol fs q _ h = refl

start_kind : (fs : List flat.Row) (q : Place) (xs : List Laid) (k : Kind) → OpenKind k → NamedKind is_in k xs → flat.run (plain k q ∷ xs) fs flat.BraceStart ≡ flat.run (plain k q ∷ xs) (flat.Braces false ∷ fs) flat.Want
start_kind fs q xs (kinds.Name n) o h = named_runs fs xs h
start_kind fs q xs (kinds.Symbol s) o h = ap (λ v. flat.after v (plain (kinds.Symbol s) q ∷ xs) (flat.run xs)) (start_symbol fs q s o)
start_kind fs q xs _ o h = refl

starts : (fs : List flat.Row) (xs : List Laid) → Opened xs → Named is_in xs → flat.run xs fs flat.BraceStart ≡ flat.run xs (flat.Braces false ∷ fs) flat.Want
starts fs [] o h = absurd o
starts fs (Plain t ∷ xs) o h = start_kind fs t.place xs t.kind o h
starts fs (ListOpen b q ∷ xs) o h = refl
starts fs (ListItem b q ∷ xs) o h = refl
starts fs (ListClose q ∷ xs) o h = refl

braces_start : (e : Tree) → begins_member e ≡ false → (fs : List flat.Row) (xs ys : List Laid) → Text e xs ys → Clear is_in ys → flat.run xs fs flat.BraceStart ≡ flat.run xs (flat.Braces false ∷ fs) flat.Want
braces_start e m fs xs ys h c = starts fs xs (opened e xs ys h) (named is_in special e m xs ys h (λ q. c))

-- ---- the first expression in braces, up to the token behind it

-- what a token behind it does
record EndsFirst (x : Laid) (fs : List flat.Row) (next : flat.Done) : Type 0 where
  pub clear : Clear is_in (x ∷ [])
  pub closing : Closing x
  pub no_case : is_case_mark x ≡ false
  pub plainly : flat.behind x (flat.Braces false ∷ fs) ≡ next
  pub joined : flat.behind x (flat.MaybeFilter ∷ fs) ≡ next

first_by : (e : Tree) → Good e → (x : Laid) (fs : List flat.Row) (next : flat.Done) → EndsFirst x fs next → (xs ys zs : List Laid) → Text e xs ys → ys ≡ x ∷ zs → (b : Bool) → begins_member e ≡ b
    → flat.run xs fs flat.BraceStart ≡ flat.after next (x ∷ zs) (flat.run zs)
first_by e g x fs next d xs ys zs h q false m =
    braces_start e m fs xs ys h (subst (Clear is_in) (sym q) (clear_here is_in x [] zs d.clear))
    ∙ part _ _ e (flat.Braces false ∷ fs) g.goes tt h q d.no_case d.closing
    ∙ ap (λ s. flat.after s (x ∷ zs) (flat.run zs)) d.plainly
first_by e g x fs next d xs ys zs h q true m =
    let b = g.member m xs ys h in
    ap (λ v. flat.run v fs flat.BraceStart) b.here
    ∙ ended ys (flat.MaybeFilter ∷ fs) (b.goes (flat.MaybeFilter ∷ fs) tt) q d.no_case d.closing
    ∙ ap (λ s. flat.after s (x ∷ zs) (flat.run zs)) d.joined

first_in_braces : (e : Tree) → Good e → (x : Laid) (fs : List flat.Row) (next : flat.Done) → EndsFirst x fs next → (xs ys zs : List Laid) → Text e xs ys → ys ≡ x ∷ zs → flat.run xs fs flat.BraceStart ≡ flat.after next (x ∷ zs) (flat.run zs)
first_in_braces e g x fs next d xs ys zs h q = first_by e g x fs next d xs ys zs h q (begins_member e) refl

-- ---- rows in braces

-- expressions with a comma behind each, the first of them at the brace
elements : (es : Trees) (e : Tree) → AllGood es → Good e → (fs : List flat.Row) (xs ys : List Laid) → CommasBefore (MoreTrees es e) xs ys → flat.run xs fs flat.BraceStart ≡ flat.run ys (flat.Braces true ∷ fs) flat.Want
elements NoTrees e gs g fs xs ys h =
    ap (λ v. flat.run v fs flat.BraceStart) h.1
    ∙ first_in_braces e g (plain (kinds.Symbol symbols.Comma) h.2.2.0) fs (flat.want (flat.Braces true ∷ fs))
    (record { clear = refl; closing = λ n gs. refl; no_case = refl; plainly = refl; joined = refl })
    h.0 h.2.0 ys h.2.1 h.2.2.1
elements (MoreTrees es d) e gs g fs xs ys h =
    elements es d gs.0 gs.1 fs xs h.0 h.1
    ∙ part _ _ e (flat.Braces true ∷ fs) g.goes tt h.2.1 h.2.2.1 refl (λ n gs. refl)

pub set_goes : (at : Place) (es : Trees) → AllGood es → Goes (tree.SetOf at es)
set_goes at NoTrees g fs o xs ys h = here ys fs flat.Other _ (ap (λ v. flat.run v fs flat.Want) h.1 ∙ ap (λ v. flat.run v fs flat.BraceStart) (h.2.1 ∙ h.2.2.1))
set_goes at (MoreTrees NoTrees e) g fs o xs ys h =
    here ys fs flat.Other _
    (ap (λ v. flat.run v fs flat.Want) h.1
    ∙ ap (λ v. flat.run v fs flat.BraceStart) h.2.1.1
    ∙ first_in_braces e g.1 (plain (kinds.Symbol symbols.CloseBrace) h.2.2.0) fs (flat.Reads fs (flat.Have flat.Other))
    (record { clear = refl; closing = λ n gs. refl; no_case = refl; plainly = refl; joined = refl })
    h.2.1.0 h.2.0 ys h.2.1.2 h.2.2.1)
set_goes at (MoreTrees (MoreTrees es d) e) g fs o xs ys h =
    here ys fs flat.Other _
    (ap (λ v. flat.run v fs flat.Want) h.1
    ∙ elements es d g.0.0 g.0.1 fs h.0 h.2.1.0 h.2.1.1
    ∙ part _ _ e (flat.Braces true ∷ fs) g.1.goes tt h.2.1.2 h.2.2.1 refl (λ n gs. refl))

pub filter_goes : (at : Place) (n : List ℕ) (s e : Tree) → Goes s → Goes e → Goes (tree.Filter at n s e)
filter_goes at n s e gs ge fs o xs ys h =
    here ys fs flat.Other _
    (ap (λ v. flat.run v fs flat.Want) h.1
    ∙ ap (λ v. flat.run v fs flat.BraceStart) h.2.1.1
    ∙ ap (λ v. flat.run v fs flat.BraceName) h.2.2.1.1
    ∙ part _ _ s (flat.MaybeFilter ∷ fs) gs tt h.2.2.2.1 h.2.2.2.2.1.1 refl (λ n gs. refl)
    ∙ part _ _ e (flat.FilterTest ∷ fs) ge tt h.2.2.2.2.2.1 h.2.2.2.2.2.2.1 refl (λ n gs. refl))

pub map_goes : (at : Place) (e : Tree) (bs : Bounds) → Goes e → BoundsGood bs → Goes (tree.Map at e bs)
map_goes at e bs g gs fs o xs ys h =
    let k = h.1 in
    here ys fs flat.Other _
    (ap (λ v. flat.run v fs flat.Want) k.1
    ∙ braces_start e h.0 fs k.0 k.2.0 k.2.1 (subst (Clear is_in) (sym k.2.2.1.1) refl)
    ∙ part _ _ e (flat.Braces false ∷ fs) g tt k.2.1 k.2.2.1.1 refl (λ n gs. refl)
    ∙ bounds_go symbols.CloseBrace k.2.2.2.2.0 flat.ByMap bs gs fs k.2.2.0 k.2.2.2.0 ys k.2.2.2.1 k.2.2.2.2.1 refl (λ n gs. refl))

-- ---- tuples

tuple_symbol : (fs : List flat.Row) (q : Place) (s : Symbol) → is_closer s ≡ false → flat.tuple_started (plain (kinds.Symbol s) q) fs s ≡ flat.begins (plain (kinds.Symbol s) q) (flat.Tuple false ∷ fs)
tuple_symbol fs q symbols.CloseTuple h = absurd (let e : true ≡ false = h in cc)
tuple_symbol fs q _ h = refl

tuple_kind : (fs : List flat.Row) (q : Place) (xs : List Laid) (k : Kind) → OpenKind k → flat.run (plain k q ∷ xs) fs flat.TupleStart ≡ flat.run (plain k q ∷ xs) (flat.Tuple false ∷ fs) flat.Want
tuple_kind fs q xs (kinds.Symbol s) o = ap (λ v. flat.after v (plain (kinds.Symbol s) q ∷ xs) (flat.run xs)) (tuple_symbol fs q s o)
tuple_kind fs q xs _ o = refl

tuple_starts : (fs : List flat.Row) (xs : List Laid) → Opened xs → flat.run xs fs flat.TupleStart ≡ flat.run xs (flat.Tuple false ∷ fs) flat.Want
tuple_starts fs [] o = absurd o
tuple_starts fs (Plain t ∷ xs) o = tuple_kind fs t.place xs t.kind o
tuple_starts fs (ListOpen b q ∷ xs) o = refl
tuple_starts fs (ListItem b q ∷ xs) o = refl
tuple_starts fs (ListClose q ∷ xs) o = refl

list_opened : (es : Trees) (xs ys : List Laid) → CommasBefore es xs ys → Opened ys → Opened xs
list_opened NoTrees xs ys h o = subst Opened (sym h) o
list_opened (MoreTrees es e) xs ys h o = list_opened es xs h.0 h.1 (opened e h.0 h.2.0 h.2.1)

tuple_open : (es : Trees) (fs : List flat.Row) → FlatOpen (row_after (flat.Tuple false) (flat.Tuple true) es ∷ fs)
tuple_open NoTrees fs = tt
tuple_open (MoreTrees es e) fs = tt

tuple_comma : (es : Trees) (fs : List flat.Row) (at : Place) → flat.behind (plain (kinds.Symbol symbols.Comma) at) (row_after (flat.Tuple false) (flat.Tuple true) es ∷ fs) ≡ flat.want (flat.Tuple true ∷ fs)
tuple_comma NoTrees fs at = refl
tuple_comma (MoreTrees es e) fs at = refl

tuple_ends : (es : Trees) (fs : List flat.Row) (at : Place) → flat.behind (plain (kinds.Symbol symbols.CloseTuple) at) (row_after (flat.Tuple false) (flat.Tuple true) es ∷ fs) ≡ flat.deliver fs
tuple_ends NoTrees fs at = refl
tuple_ends (MoreTrees es e) fs at = refl

-- a tuple goes to what expects it
tuple_reads : (es : Trees) → AllGood es → (gs fs : List flat.Row) (m : flat.Expected) → flat.deliver gs ≡ flat.Reads fs m → (xs ys zs : List Laid) → MaybeCommas es xs ys → sign symbols.CloseTuple ys zs
    → flat.run xs gs flat.TupleStart ≡ flat.run zs fs m
tuple_reads NoTrees g gs fs m d xs ys zs h s =
    ap (λ v. flat.run v gs flat.TupleStart) (h ∙ s.1) ∙ ap (λ v. flat.after v (plain (kinds.Symbol symbols.CloseTuple) s.0 ∷ zs) (flat.run zs)) d
tuple_reads (MoreTrees es e) g gs fs m d xs ys zs h s =
    tuple_starts gs xs (list_opened es xs h.0 h.1 (opened e h.0 ys h.2))
    ∙ commas (flat.Tuple false) (flat.Tuple true) gs (λ bs. tuple_open bs gs) (λ bs p. tuple_comma bs gs p) es g.0 xs h.0 h.1
    ∙ part _ _ e (row_after (flat.Tuple false) (flat.Tuple true) es ∷ gs) g.1.goes (tuple_open es gs) h.2 s.1 refl (λ n hs. refl)
    ∙ ap (λ v. flat.after v (plain (kinds.Symbol symbols.CloseTuple) s.0 ∷ zs) (flat.run zs)) (tuple_ends es gs s.0 ∙ d)

pub tuple_goes : (at : Place) (es : Trees) → AllGood es → Goes (tree.Tuple at es)
tuple_goes at es g fs o xs ys h =
    here ys fs flat.Other _ (ap (λ v. flat.run v fs flat.Want) h.1 ∙ tuple_reads es g fs fs (flat.Have flat.Other) (flat_delivers fs o) h.0 h.2.0 ys h.2.1 h.2.2)

-- ---- subscripts

pub tuple_delivers : (at : Place) (es : Trees) → AllGood es → Delivers (tree.Tuple at es)
tuple_delivers at es g s gs fs m d xs ys h = ap (λ v. run_subscript v gs) h.1 ∙ tuple_reads es g gs fs m d h.0 h.2.0 ys h.2.1 h.2.2

pub name_delivers : (at : Place) (n : List ℕ) → Delivers (tree.Name at n)
name_delivers at n s gs fs m d xs ys h = ap (λ v. run_subscript v gs) h ∙ ap (λ v. flat.after v (plain (kinds.Name n) at ∷ ys) (flat.run ys)) d

pub parenthesized_delivers : (at : Place) (e : Tree) → Goes e → Delivers (tree.Parenthesized at e)
parenthesized_delivers at e g s gs fs m d xs ys h =
    ap (λ v. run_subscript v gs) h.1
    ∙ part _ _ e (flat.Parenthesis ∷ gs) g tt h.2.1 h.2.2.1 refl (λ n hs. refl)
    ∙ ap (λ v. flat.after v (plain (kinds.Symbol symbols.CloseParenthesis) h.2.2.0 ∷ ys) (flat.run ys)) d

pub action_subscript : (fs : List flat.Row) (xs : List Laid) → flat.run xs fs flat.SubscriptStart ≡ run_subscript xs (flat.Subscript ∷ fs)
action_subscript fs [] = refl
action_subscript fs (x ∷ xs) = refl

fair_subscript : (fs : List flat.Row) (xs : List Laid) → flat.run xs fs flat.FairStart ≡ run_subscript xs (flat.FairSubscript ∷ fs)
fair_subscript fs [] = refl
fair_subscript fs (x ∷ xs) = refl

pub angle_goes : (at : Place) (e v : Tree) → Goes e → Delivers v → Goes (tree.AngleAction at e v)
angle_goes at e v g d fs o xs ys h =
    let k = h.1 in
    here ys fs flat.Other _
    (ap (λ v. flat.run v fs flat.Want) k.1
    ∙ tuple_starts fs k.0 (opened e k.0 k.2.0 k.2.1)
    ∙ part _ _ e (flat.Tuple false ∷ fs) g tt k.2.1 k.2.2.1.1 refl (λ n hs. refl)
    ∙ ap (λ b. flat.after (if b then flat.Stops else flat.Reads fs flat.SubscriptStart) (plain (kinds.Symbol symbols.CloseTupleSubscript) k.2.2.1.0 ∷ k.2.2.0) (flat.run k.2.2.0)) (flat_no_subscript fs o)
    ∙ action_subscript fs k.2.2.0
    ∙ d h.0 (flat.Subscript ∷ fs) fs (flat.Have flat.Other) refl k.2.2.0 ys k.2.2.2)

pub fairness_goes : (at : Place) (v e : Tree) → Delivers v → Goes e → Goes (tree.Fairness at v e)
fairness_goes at v e d g fs o xs ys h =
    let k = h.1 in
    here ys fs flat.Other _
    (ap (λ v. flat.run v fs flat.Want) k.1
    ∙ fair_subscript fs k.0
    ∙ d h.0 (flat.FairSubscript ∷ fs) fs flat.FairOpen refl k.0 k.2.0 k.2.1
    ∙ ap (λ w. flat.run w fs flat.FairOpen) k.2.2.1.1
    ∙ part _ _ e (flat.FairBody ∷ fs) g tt k.2.2.2.1 k.2.2.2.2.1 refl (λ n hs. refl))
