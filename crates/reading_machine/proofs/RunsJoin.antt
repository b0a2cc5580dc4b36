-- A name and `\in` at the left edge of a tree: the tree without them, and how it is joined with them.
use Rattle.std.proofs.Common.{◌≡◌, ℕ, Bool, true, false, ◌&&◌, ◌||◌, cond, List, ◌∷◌, refl, sym, ap, subst, ◌∙◌, arith}
use Rattle.base_core.specs.declared.place.Place.{Place}
use Rattle.reading_trees.specs.declared.laid.Laid.{Laid}
use Rattle.reading_tokens.specs.declared.token.Kind.TheVariants as kinds
use Rattle.reading_tokens.specs.declared.token.Symbol.TheVariants as symbols
use Rattle.reading_trees.specs.declared.operators.InfixOperator.{InfixOperator}
use Rattle.reading_trees.specs.declared.operators.InfixOperator.TheVariants as infixes
use Rattle.reading_trees.specs.Precedence.{Range, Above, infix_range}
use Rattle.reading_trees.specs.Fits.{LeftAbove, RightAbove, Fits, ChainFits}
use Rattle.reading_trees.specs.Grammar.{Text, Chain, begins_member, first_begins, is_member, is_name}
use Rattle.reading_trees.specs.Trees as tree
use Rattle.reading_trees.specs.Trees.{Tree, Operands, First, Next}
use Rattle.reading_machine.specs.Machine.{above, Joins, join, join_first, joins_in, joins_first, joins_next}
use Rattle.reading_machine.proofs.Runner.{Runner}
use Rattle.reading_machine.proofs.RunsEdges.{first_of, rest_of, is_above, not_above, infix_ordered, Ordered}
use Rattle.reading_machine.proofs.RunsParts.{Runs, ChainGood, without, without_first, plain}
use Rattle.reading_machine.proofs.RunsPlain.{Meet, ChainRuns, infix_runs}

abbrev member_range : Range
member_range = infix_range infixes.Member

abbrev first_name : Operands → Bool
first_name (First x) = is_name x
first_name (Next es p y) = first_name es

-- whether the name and `\in` are the beginning of this very chain
abbrev pub direct : InfixOperator → Operands → Bool
direct o es = is_member o && first_name es

or_rest : (a b : Bool) → (a || b) ≡ true → a ≡ false → b ≡ true
or_rest true b e q = cc
or_rest false b e q = e

and_first : (a b : Bool) → (a && b) ≡ true → a ≡ true
and_first true b e = refl
and_first false b e = e

member_is : (o : InfixOperator) → is_member o ≡ true → o ≡ infixes.Member
member_is infixes.Member h = refl
member_is _ h = cc

without_chain : (at : Place) (o : InfixOperator) (es : Operands) (e : Tree) → direct o es ≡ false → without (tree.Infix at o es e) ≡ tree.Infix at o (without_first es) e
without_chain at o (First x) e h = rest_of (is_member o && is_name x) _ _ h
without_chain at o (Next es p y) e h = refl

-- ---- `\in` lies above each operator whose left edge has it

between : (a b c : Range) → Ordered b → Above a b → Above b c → Above a c
between a b c o h k = omega arith

by_chain : (o : InfixOperator) (es : Operands) (r : Range) (d : Bool) → direct o es ≡ d → Above (infix_range o) r → (direct o es ≡ false → Above member_range (infix_range o)) → Above member_range r
by_chain o es r true q h f = subst (λ p. Above (infix_range p) r) (member_is o (and_first (is_member o) (first_name es) q)) h
by_chain o es r false q h f = between member_range (infix_range o) r (infix_ordered o) (f q) h

mutual
  pub member_above : (x : Tree) → begins_member x ≡ true → Fits x → (r : Range) → RightAbove r x → Above member_range r
  member_above (tree.Infix at o es e) m f r h = by_chain o es r (direct o es) refl h.0 (λ d. chain_above o es m d f.0)
  member_above _ m f r h = cc

  chain_above : (o : InfixOperator) (es : Operands) → first_begins o es ≡ true → direct o es ≡ false → ChainFits o es → Above member_range (infix_range o)
  chain_above o (First x) m d f = member_above x (or_rest (is_member o && is_name x) (begins_member x) m d) f.0 (infix_range o) f.1
  chain_above o (Next es p y) m d f = chain_above o es m d f.0

-- ---- a tree and its rest

-- the text of a tree from its name and `\in` on
pub record Begun (t : Tree) (xs ys : List Laid) : Type 0 where
  pub name : List ℕ
  pub place : Place
  pub sign : Place
  pub behind : List Laid
  pub here : xs ≡ plain (kinds.Name name) place ∷ plain (kinds.Symbol symbols.Member) sign ∷ behind
  pub text : Text (without t) behind ys
  pub joins : join (tree.Name place name) sign (without t) ≡ Joins t

pub record ChainBegun (o : InfixOperator) (es : Operands) (xs ys : List Laid) : Type 0 where
  pub name : List ℕ
  pub place : Place
  pub sign : Place
  pub behind : List Laid
  pub here : xs ≡ plain (kinds.Name name) place ∷ plain (kinds.Symbol symbols.Member) sign ∷ behind
  pub text : Chain o (without_first es) behind ys
  pub joins : join_first (tree.Name place name) sign (without_first es) ≡ Joins es

join_above : (x : Tree) (q : Place) (e : Tree) → LeftAbove member_range e → join x q e ≡ Joins (tree.Infix q infixes.Member (First x) e)
join_above x q (tree.Infix at o es e) h = first_of (above (infix_range o) member_range) _ _ (is_above (infix_range o) member_range h.0)
join_above x q _ h = refl

join_below : (x : Tree) (q at : Place) (o : InfixOperator) (es fs : Operands) (e : Tree) → Above member_range (infix_range o) → join_first x q es ≡ Joins fs → join x q (tree.Infix at o es e) ≡ Joins (tree.Infix at o fs e)
join_below x q at o es fs e h j =
    rest_of (above (infix_range o) member_range) _ _ (not_above (infix_range o) member_range (infix_ordered o) (infix_ordered infixes.Member) h)
    ∙ first_of (above member_range (infix_range o)) _ _ (is_above member_range (infix_range o) h) ∙ ap (joins_in at o e) j

begun_direct : (at : Place) (o : InfixOperator) (es : Operands) (e : Tree) → direct o es ≡ true → Fits (tree.Infix at o es e) → (xs ys : List Laid) → Text (tree.Infix at o es e) xs ys → Begun (tree.Infix at o es e) xs ys
begun_direct at infixes.Member (First (tree.Name p n)) e d f xs ys h =
    record { name = n; place = p; sign = at; behind = h.2.0; here = h.1 ∙ ap (λ v. plain (kinds.Name n) p ∷ v) h.2.1; text = h.2.2; joins = join_above (tree.Name p n) at e f.2 }
begun_direct at infixes.Member (First x) e d f xs ys h = absurd (let q : false ≡ true = d in cc)
begun_direct at infixes.Member (Next es p y) e d f xs ys h = absurd (let q : false ≡ true = f.0.4 in cc)
begun_direct at o es e d f xs ys h = absurd (let q : false ≡ true = d in cc)

begun_chain : (at : Place) (o : InfixOperator) (es : Operands) (e : Tree) → direct o es ≡ false → Above member_range (infix_range o) → (xs ys : List Laid) → (h : Text (tree.Infix at o es e) xs ys)
    → ChainBegun o es xs h.0 → Begun (tree.Infix at o es e) xs ys
begun_chain at o es e d a xs ys h c =
    let w = without_chain at o es e d in
    record {
      name = c.name;
      place = c.place;
      sign = c.sign;
      behind = c.behind;
      here = c.here;
      text = subst (λ v. Text v c.behind ys) (sym w) (h.0, c.text, h.2);
      joins = ap (λ v. join (tree.Name c.place c.name) c.sign v) w ∙ join_below (tree.Name c.place c.name) c.sign at o (without_first es) es e a c.joins;
    }

begun_either : (at : Place) (o : InfixOperator) (es : Operands) (e : Tree) → first_begins o es ≡ true → Fits (tree.Infix at o es e) → (xs ys : List Laid) → (h : Text (tree.Infix at o es e) xs ys)
    → (direct o es ≡ false → ChainBegun o es xs h.0) → (d : Bool) → direct o es ≡ d → Begun (tree.Infix at o es e) xs ys
begun_either at o es e m f xs ys h c true q = begun_direct at o es e q f xs ys h
begun_either at o es e m f xs ys h c false q = begun_chain at o es e q (chain_above o es m q f.0) xs ys h (c q)

begun_first : (o : InfixOperator) (x : Tree) (xs ys : List Laid) → Begun x xs ys → ChainBegun o (First x) xs ys
begun_first o x xs ys b = record { name = b.name; place = b.place; sign = b.sign; behind = b.behind; here = b.here; text = b.text; joins = ap joins_first b.joins }

begun_next : (o : InfixOperator) (es : Operands) (p : Place) (y : Tree) (xs ys : List Laid) → (h : Chain o (Next es p y) xs ys) → ChainBegun o es xs h.0 → ChainBegun o (Next es p y) xs ys
begun_next o es p y xs ys h b =
    record { name = b.name; place = b.place; sign = b.sign; behind = b.behind; here = b.here; text = (h.0, b.text, h.2); joins = ap (λ j. joins_next j p y) b.joins }

mutual
  pub begun : (t : Tree) → Fits t → begins_member t ≡ true → (xs ys : List Laid) → Text t xs ys → Begun t xs ys
  begun (tree.Infix at o es e) f m xs ys h = begun_either at o es e m f xs ys h (λ d. chain_begun o es f.0 m d xs h.0 h.1) (direct o es) refl
  begun _ f m xs ys h = absurd (let q : false ≡ true = m in cc)

  pub chain_begun : (o : InfixOperator) (es : Operands) → ChainFits o es → first_begins o es ≡ true → direct o es ≡ false → (xs ys : List Laid) → Chain o es xs ys → ChainBegun o es xs ys
  chain_begun o (First x) f m d xs ys h = begun_first o x xs ys (begun x f.0 (or_rest (is_member o && is_name x) (begins_member x) m d) xs ys h)
  chain_begun o (Next es p y) f m d xs ys h = begun_next o es p y xs ys h (chain_begun o es f.0 m d xs h.0 h.1)

-- ---- reading the rest

right_if : (r : Range) (at : Place) (o : InfixOperator) (es : Operands) (e : Tree) (b : Bool) → RightAbove r (tree.Infix at o es e) → RightAbove r (cond b e (tree.Infix at o es e))
right_if r at o es e true h = h.1
right_if r at o es e false h = h

right_without : (r : Range) (x : Tree) → RightAbove r x → RightAbove r (without x)
right_without r (tree.Infix at o (First x) e) h = right_if r at o (First (without x)) e (is_member o && is_name x) h
right_without r (tree.Infix at o (Next es p y) e) h = h
right_without r _ h = h

pub meets_without : (o : InfixOperator) (es : Operands) → Meet o es → Meet o (without_first es)
meets_without o (First x) h = right_without (infix_range o) x h
meets_without o (Next es p y) h = (meets_without o es h.0, h.1, h.2, h.3)

module _ (reader : Runner) where
  pub chain_without : (o : InfixOperator) (es : Operands) → ChainGood reader es → first_begins o es ≡ true → direct o es ≡ false → ChainRuns reader (without_first es)
  chain_without o (First x) g m d = g.rest (or_rest (is_member o && is_name x) (begins_member x) m d)
  chain_without o (Next es p y) g m d = (chain_without o es g.0 m d, g.1.runs)

  rest_direct : (at : Place) (o : InfixOperator) (es : Operands) (e : Tree) → direct o es ≡ true → Meet o es → Runs reader e → Runs reader (without (tree.Infix at o es e))
  rest_direct at infixes.Member (First x) e d m r = subst (Runs reader) (sym (first_of (is_name x) e (tree.Infix at infixes.Member (First (without x)) e) d)) r
  rest_direct at infixes.Member (Next es p y) e d m r = absurd (let q : false ≡ true = m.3 in cc)
  rest_direct at o es e d m r = absurd (let q : false ≡ true = d in cc)

  rest_either : (at : Place) (o : InfixOperator) (es : Operands) (e : Tree) → first_begins o es ≡ true → ChainGood reader es → Meet o es → Runs reader e → LeftAbove (infix_range o) e → (d : Bool) → direct o es ≡ d → Runs reader (without (tree.Infix at o es e))
  rest_either at o es e m g c r l true q = rest_direct at o es e q c r
  rest_either at o es e m g c r l false q =
      subst (Runs reader) (sym (without_chain at o es e q)) (infix_runs reader at o (without_first es) e (chain_without o es g m q) (meets_without o es c) r l)

  pub rest_runs : (at : Place) (o : InfixOperator) (es : Operands) (e : Tree) → first_begins o es ≡ true → ChainGood reader es → Meet o es → Runs reader e → LeftAbove (infix_range o) e → Runs reader (without (tree.Infix at o es e))
  rest_runs at o es e m g c r l = rest_either at o es e m g c r l (direct o es) refl
