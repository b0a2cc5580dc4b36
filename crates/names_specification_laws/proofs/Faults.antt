-- Nothing is wrong with a definition that is mentioned where nothing is wrong: it is one of the names, of those bound around, or of a LET in the term.
use Rattle.std.proofs.Common.{◌≡◌, ◌∙◌, sym, subst, List, [], ◌∷◌, ◌++◌, length}
use Rattle.std.specs.Prelude.{◌≢◌, ◌+◌, ℕ, suc, false, All, Contains, Some, slice_get}
use Rattle.std.proofs.lemmas.List.Elements.{All-nil, All-push, Contains-push, Contains-append_left}
use Rattle.base_core.specs.declared.place.Place.{Place}
use Rattle.values_core.specs.Data.{integer, string, truth}
use Rattle.reading_trees.specs.declared.laid.Bullet.{Bullet}
use Rattle.reading_trees.specs.declared.laid.Bullet.TheVariants as bullet
use Rattle.reading_trees.specs.declared.operators.InfixOperator.{InfixOperator}
use Rattle.reading_trees.specs.declared.operators.InfixOperator.TheVariants as infix_operator
use Rattle.reading_trees.specs.Trees as tree
use Rattle.reading_trees.specs.Trees.{Tree}
use Rattle.names_terms.specs.declared.level.Level.{Level}
use Rattle.names_terms.specs.declared.operator.Operator.{Operator}
use Rattle.names_terms.specs.declared.operator.Own.{Own}
use Rattle.names_terms.specs.declared.spec.Spec.{Spec}
use Rattle.names_terms.specs.Terms as term
use Rattle.names_terms.specs.Terms.{Term, Terms, Meaning, Placed, width}
use Rattle.names_term_parts.specs.Parts.{Part, parts}
use Rattle.names_term_parts.specs.Slots.{Mentions}
use Rattle.names_term_parts.proofs.Contained.{contains_nothing}
use Rattle.names_term_levels.specs.Faults.{in_part, of_let}
use Rattle.names_scopes.specs.declared.scope.Local.{Local}
use Rattle.names_scopes.specs.declared.scope.Local.TheVariants.{Bound, Defined}
use Rattle.names_scopes.specs.declared.meant.Meant.{Meant}
use Rattle.names_scopes.specs.declared.meant.Meant.TheVariants as meant
use Rattle.names_scopes.specs.declared.meant.Named.{Named}
use Rattle.names_scopes.specs.declared.meant.Entry.{Entry}
use Rattle.names_scopes.specs.Scopes as scopes
use Rattle.names_scopes.specs.Scopes.{among, bound, bind, bind_bounds, slots, at_sign}
use Rattle.names_meanings.specs.Means.{Uses, Stands, Means, MeansEach, MeansOperands, MeansStep, MeansSteps, MeansBounds, MeansFields, MeansChanges, MeansArms, Defines, junction, chain, operands_list, builtin_set, local_operator, with_own}
use Rattle.names_specification_laws.specs.Everywhere.{Everywhere, Inside, InTerms, InOperands, InStep, InSteps, InBounds, InFields, InChanges, InArms}
use Rattle.names_specification_laws.specs.Faultless.{HasNoFault, IsFaultless, faultless, NamesAreFaultless, DefinitionsAreFaultless, MentionedAreFaultless, BodiesAreFaultless, ReachedAreFaultless}
use Rattle.names_specification_laws.specs.IsSpec.{IsNeeded, IsReached, needed, in_body}
use Rattle.names_specification_laws.specs.Meanings.{NameMeanings}
use Rattle.names_meanings.specs.Owning.{own_of}
use Rattle.names_specification_laws.proofs.Mentioned.{MeantIs, LocalsAre, bound_is, locals_more, locals_bind, locals_own, program_is}
use Rattle.names_specification_laws.proofs.Ordered.{either_way}
use Rattle.names_specification_laws.proofs.Reached.{or_itself, same_row}
use Rattle.names_specification_laws.proofs.Somewhere.{OwnAre, OwnRows, mentioned_are}
use Rattle.names_specification_laws.proofs.Throughout.{throughout}

-- nothing is wrong with the definition of that number
abbrev IsFine : List Operator → ℕ → Type 0
IsFine ops k = (o : Operator) → slice_get ops k ≡ Some o → HasNoFault ops o.body

-- nor with those that the row lists, where nothing is wrong with the row
abbrev ListsFine : List Operator → Meaning → Type 0
ListsFine ops (term.Scoped ks e) = (k : ℕ) → Contains ks k → IsFine ops k
ListsFine ops m = Unit {0}

abbrev FineRows : List Operator → ℕ → Place → Level → Meaning → Type 0
FineRows ops i at l m = ListsFine ops m

no_fault_goes_on : (ops : List Operator) (at : Place) (l : Level) (m : Meaning) → HasNoFault ops (Placed at l m) → (p : Part) → Contains (parts false m) p → HasNoFault ops p.term
no_fault_goes_on ops at l m h p c f w = h f (in_part at l m p f c w)

lists_fine : (ops : List Operator) (at : Place) (l : Level) (m : Meaning) → HasNoFault ops (Placed at l m) → ListsFine ops m
lists_fine ops at l (term.Scoped ks e) h = λ k c o is f w. h f (of_let at l ks e k o f c is w)
lists_fine ops at l m h = tt

module _ (known : NameMeanings) (ops : List Operator) (names : List Entry) (are : (n : List ℕ) → among names n ≡ known n) (program : NamesAreFaultless known ops) where
  abbrev F : ℕ → Type 0
  F k = IsFaultless known ops k

  abbrev R : ℕ → Place → Level → Meaning → Type 0
  R = FineRows ops

  abbrev P : ℕ → Place → Level → Meaning → Type 0
  P = OwnRows F

  abbrev Around : List Local → Type 0
  Around sc = LocalsAre F sc

  -- what is known of the row that a tree means
  row_of : (t : Tree) (m : Meaning) (y : Term) (i : ℕ) → Stands names ops t m y → Everywhere R i y → ListsFine ops m × Inside R i m
  row_of t m y i q r = subst (λ (z : Term). Everywhere R i z) q r

  inside_of : (t : Tree) (m : Meaning) (y : Term) (i : ℕ) → Stands names ops t m y → Everywhere R i y → Inside R i m
  inside_of t m y i q r = let b : ListsFine ops m × Inside R i m = row_of t m y i q r in b.1

  row : (t : Tree) (m : Meaning) (y : Term) (i : ℕ) → Stands names ops t m y → OwnAre F m → Inside P i m → Everywhere P i y
  row t m y i q own h = subst (λ (z : Term). Everywhere P i z) (sym q) (own, h)

  meant_is : (sc : List Local) (n : List ℕ) (w : Named) → Around sc → scopes.meaning_in names sc n ≡ Some w → MeantIs F w.meant
  meant_is sc n w s q =
      either_way (λ x. MeantIs F x.meant) (among names n) (bound sc n) w (bound_is F 0 sc n w s) (λ p. program_is F w.meant (λ d e. program n w d (sym (are n) ∙ p) e)) q

  of_meant : (t : Tree) (y : Term) (i : ℕ) (w : Meant) (ts : Terms) → MeantIs F w → Stands names ops t (scopes.used w ts) y → Everywhere R i y → (InTerms R i ts → InTerms P i ts) → Everywhere P i y
  of_meant t y i (meant.Slot j) ts h q r each = row t (term.Slot j) y i q tt tt
  of_meant t y i (meant.Variable x) ts h q r each = row t (term.Variable x.0) y i q tt tt
  of_meant t y i (meant.Known v) ts h q r each = row t (term.Known v) y i q tt tt
  of_meant t y i (meant.Set s) ts h q r each = row t (term.Named s) y i q tt tt
  of_meant t y i (meant.Standard o) ts h q r each = row t (term.Standard o ts) y i q tt (each (inside_of t (term.Standard o ts) y i q r))
  of_meant t y i (meant.Definition k) ts h q r each = row t (term.Use k.0 ts) y i q h (each (inside_of t (term.Use k.0 ts) y i q r))

  of_use : (sc : List Local) (i : ℕ) (t : Tree) (n : List ℕ) (ts : Terms) (m : Meaning) (y : Term) → Around sc → Uses names sc n ts m → Stands names ops t m y → Everywhere R i y → (InTerms R i ts → InTerms P i ts) → Everywhere P i y
  of_use sc i t n ts m y s u q r each =
      let w : Named = u.0 in
      of_meant t y i w.meant ts (meant_is sc n w s u.1) (subst (λ (x : Meaning). Stands names ops t x y) u.2 q) r each

  of_junction : (i : ℕ) (t : Tree) (b : Bullet) (ts : Terms) (y : Term) → Stands names ops t (junction b ts) y → Everywhere R i y → (InTerms R i ts → InTerms P i ts) → Everywhere P i y
  of_junction i t bullet.And ts y q r each = row t (term.All ts) y i q tt (each (inside_of t (term.All ts) y i q r))
  of_junction i t bullet.Or ts y q r each = row t (term.Any ts) y i q tt (each (inside_of t (term.Any ts) y i q r))

  from_list : (i : ℕ) (os : term.Operands) → InTerms R i (operands_list os) → InOperands R i os
  from_list i (term.First e) h = h.1
  from_list i (term.Next os at e) h = (from_list i os h.0, h.1)

  to_list : (i : ℕ) (os : term.Operands) → InOperands P i os → InTerms P i (operands_list os)
  to_list i (term.First e) h = (tt, h)
  to_list i (term.Next os at e) h = (to_list i os h.0, h.1)

  of_chain : (i : ℕ) (t : Tree) (o : InfixOperator) (os : term.Operands) (x y : Term) → Stands names ops t (chain o os x) y → Everywhere R i y → (InOperands R i os → InOperands P i os) → (Everywhere R i x → Everywhere P i x) → Everywhere P i y
  of_chain i t infix_operator.And os x y q r f g =
      let b : InTerms R i (operands_list os) × Everywhere R i x = inside_of t (term.All (term.MoreTerms (operands_list os) x)) y i q r in
      row t (term.All (term.MoreTerms (operands_list os) x)) y i q tt (to_list i os (f (from_list i os b.0)), g b.1)
  of_chain i t infix_operator.Or os x y q r f g =
      let b : InTerms R i (operands_list os) × Everywhere R i x = inside_of t (term.Any (term.MoreTerms (operands_list os) x)) y i q r in
      row t (term.Any (term.MoreTerms (operands_list os) x)) y i q tt (to_list i os (f (from_list i os b.0)), g b.1)
  of_chain i t o os x y q r f g =
      let b : InOperands R i os × Everywhere R i x = inside_of t (term.Infix o os x) y i q r in
      row t (term.Infix o os x) y i q tt (f b.0, g b.1)

  around_bounds : (sc : List Local) (bs : tree.Bounds) → Around sc → Around (bind_bounds sc bs)
  around_bounds sc tree.NoBounds s = s
  around_bounds sc (tree.MoreBounds bs ns e) s = locals_bind F (bind_bounds sc bs) ns (around_bounds sc bs s)

  around_name : (sc : List Local) (n : List ℕ) → Around sc → Around (sc ++ Bound n ∷ [])
  around_name sc n s = locals_more F sc (Bound n) s tt

  mutual
    go : (sc : List Local) (i : ℕ) (t : Tree) (y : Term) → Around sc → Everywhere R i y → Means names ops sc t y → Everywhere P i y
    go sc i (tree.Number at z) y s r h = row (tree.Number at z) (term.Known (integer z)) y i h tt tt
    go sc i (tree.Str at v) y s r h = row (tree.Str at v) (term.Known (string v)) y i h tt tt
    go sc i (tree.Truth at b) y s r h = row (tree.Truth at b) (term.Known (truth b)) y i h tt tt
    go sc i (tree.Builtin at b) y s r h = row (tree.Builtin at b) (term.Named (builtin_set b)) y i h tt tt
    go sc i (tree.Name at n) y s r h = of_use sc i (tree.Name at n) n term.NoTerms h.0 y s h.1 h.2 r (λ x. tt)
    go sc i (tree.Call at n es) y s r h = of_use sc i (tree.Call at n es) n h.0 h.1 y s h.3 h.4 r (λ x. each sc i es h.0 s x h.2)
    go sc i (tree.Qualified at n es) y s r h = of_use sc i (tree.Qualified at n es) n h.0 h.1 y s h.3 h.4 r (λ x. each sc i es h.0 s x h.2)
    go sc i (tree.At at) y s r h = of_use sc i (tree.At at) at_sign term.NoTerms h.0 y s h.1 h.2 r (λ x. tt)
    go sc i (tree.Parenthesized at a) y s r h = row (tree.Parenthesized at a) (term.Parenthesized h.0) y i h.2 tt (go sc i a h.0 s (inside_of (tree.Parenthesized at a) (term.Parenthesized h.0) y i h.2 r) h.1)
    go sc i (tree.Junction at b es) y s r h = of_junction i (tree.Junction at b es) b h.0 y h.2 r (λ x. each sc i es h.0 s x h.1)
    go sc i (tree.Prefix at o a) y s r h = row (tree.Prefix at o a) (term.Prefix o h.0) y i h.2 tt (go sc i a h.0 s (inside_of (tree.Prefix at o a) (term.Prefix o h.0) y i h.2 r) h.1)
    go sc i (tree.Infix at o os a) y s r h = of_chain i (tree.Infix at o os a) o h.0 h.1 y h.4 r (λ x. operands sc i os h.0 s x h.2) (λ x. go sc i a h.1 s x h.3)
    go sc i (tree.Postfix at a ss p) y s r h =
        let b : Everywhere R i h.0 × InSteps R i h.1 × InStep R i h.2 = inside_of (tree.Postfix at a ss p) (term.Postfix h.0 h.1 h.2) y i h.6 r in
        row (tree.Postfix at a ss p) (term.Postfix h.0 h.1 h.2) y i h.6 tt (go sc i a h.0 s b.0 h.3, steps sc i ss h.1 s b.1 h.4, step sc i p h.2 s b.2 h.5)
    go sc i (tree.SetOf at es) y s r h = row (tree.SetOf at es) (term.SetOf h.0) y i h.2 tt (each sc i es h.0 s (inside_of (tree.SetOf at es) (term.SetOf h.0) y i h.2 r) h.1)
    go sc i (tree.Filter at n a c) y s r h =
        let b : Everywhere R i h.0 × Everywhere R (suc i) h.1 = inside_of (tree.Filter at n a c) (term.Filter h.0 h.1) y i h.4 r in
        row (tree.Filter at n a c) (term.Filter h.0 h.1) y i h.4 tt (go sc i a h.0 s b.0 h.2, go (sc ++ Bound n ∷ []) (suc i) c h.1 (around_name sc n s) b.1 h.3)
    go sc i (tree.Map at a bs) y s r h =
        let b : Everywhere R (i + width h.1) h.0 × InBounds R i h.1 = inside_of (tree.Map at a bs) (term.Map h.0 h.1) y i h.4 r in
        row (tree.Map at a bs) (term.Map h.0 h.1) y i h.4 tt (go (bind_bounds sc bs) (i + width h.1) a h.0 (around_bounds sc bs s) b.0 h.2, bounds sc i bs h.1 s b.1 h.3)
    go sc i (tree.Tuple at es) y s r h = row (tree.Tuple at es) (term.Tuple h.0) y i h.2 tt (each sc i es h.0 s (inside_of (tree.Tuple at es) (term.Tuple h.0) y i h.2 r) h.1)
    go sc i (tree.Function at bs a) y s r h =
        let b : InBounds R i h.0 × Everywhere R (i + width h.0) h.1 = inside_of (tree.Function at bs a) (term.Function h.0 h.1) y i h.4 r in
        row (tree.Function at bs a) (term.Function h.0 h.1) y i h.4 tt (bounds sc i bs h.0 s b.0 h.2, go (bind_bounds sc bs) (i + width h.0) a h.1 (around_bounds sc bs s) b.1 h.3)
    go sc i (tree.FunctionSet at a c) y s r h =
        let b : Everywhere R i h.0 × Everywhere R i h.1 = inside_of (tree.FunctionSet at a c) (term.FunctionSet h.0 h.1) y i h.4 r in
        row (tree.FunctionSet at a c) (term.FunctionSet h.0 h.1) y i h.4 tt (go sc i a h.0 s b.0 h.2, go sc i c h.1 s b.1 h.3)
    go sc i (tree.Record at fs) y s r h = row (tree.Record at fs) (term.Record h.0) y i h.2 tt (fields sc i fs h.0 s (inside_of (tree.Record at fs) (term.Record h.0) y i h.2 r) h.1)
    go sc i (tree.RecordSet at fs) y s r h = row (tree.RecordSet at fs) (term.RecordSet h.0) y i h.2 tt (fields sc i fs h.0 s (inside_of (tree.RecordSet at fs) (term.RecordSet h.0) y i h.2 r) h.1)
    go sc i (tree.Except at a cs) y s r h =
        let b : Everywhere R i h.0 × InChanges R i h.1 = inside_of (tree.Except at a cs) (term.Except h.0 h.1) y i h.4 r in
        row (tree.Except at a cs) (term.Except h.0 h.1) y i h.4 tt (go sc i a h.0 s b.0 h.2, changes sc i cs h.1 s b.1 h.3)
    go sc i (tree.Quantified at q bs a) y s r h =
        let b : InBounds R i h.0 × Everywhere R (i + width h.0) h.1 = inside_of (tree.Quantified at q bs a) (term.Quantified q h.0 h.1) y i h.4 r in
        row (tree.Quantified at q bs a) (term.Quantified q h.0 h.1) y i h.4 tt (bounds sc i bs h.0 s b.0 h.2, go (bind_bounds sc bs) (i + width h.0) a h.1 (around_bounds sc bs s) b.1 h.3)
    go sc i (tree.Choose at n a c) y s r h =
        let b : Everywhere R i h.0 × Everywhere R (suc i) h.1 = inside_of (tree.Choose at n a c) (term.Choose h.0 h.1) y i h.4 r in
        row (tree.Choose at n a c) (term.Choose h.0 h.1) y i h.4 tt (go sc i a h.0 s b.0 h.2, go (sc ++ Bound n ∷ []) (suc i) c h.1 (around_name sc n s) b.1 h.3)
    go sc i (tree.If at p a c) y s r h =
        let b : Everywhere R i h.0 × Everywhere R i h.1 × Everywhere R i h.2 = inside_of (tree.If at p a c) (term.If h.0 h.1 h.2) y i h.6 r in
        row (tree.If at p a c) (term.If h.0 h.1 h.2) y i h.6 tt (go sc i p h.0 s b.0 h.3, go sc i a h.1 s b.1 h.4, go sc i c h.2 s b.2 h.5)
    go sc i (tree.Case at cases) y s r h = row (tree.Case at cases) (term.Case h.0) y i h.2 tt (arms sc i cases h.0 s (inside_of (tree.Case at cases) (term.Case h.0) y i h.2 r) h.1)
    go sc i (tree.CaseOther at cases a) y s r h =
        let b : InArms R i h.0 × Everywhere R i h.1 = inside_of (tree.CaseOther at cases a) (term.CaseOther h.0 h.1) y i h.4 r in
        row (tree.CaseOther at cases a) (term.CaseOther h.0 h.1) y i h.4 tt (arms sc i cases h.0 s b.0 h.2, go sc i a h.1 s b.1 h.3)
    go sc i (tree.Let at ds a) y s r h =
        let b : ListsFine ops (term.Scoped h.0 h.2) × Everywhere R i h.2 = row_of (tree.Let at ds a) (term.Scoped h.0 h.2) y i h.5 r in
        let d : All F h.0 × Around h.1 = defines sc ds h.0 h.1 s b.0 h.3 in
        row (tree.Let at ds a) (term.Scoped h.0 h.2) y i h.5 d.0 (go h.1 i a h.2 d.1 b.1 h.4)
    go sc i (tree.BoxAction at a v) y s r h =
        let b : Everywhere R i h.0 × Everywhere R i h.1 = inside_of (tree.BoxAction at a v) (term.BoxAction h.0 h.1) y i h.4 r in
        row (tree.BoxAction at a v) (term.BoxAction h.0 h.1) y i h.4 tt (go sc i a h.0 s b.0 h.2, go sc i v h.1 s b.1 h.3)
    go sc i (tree.AngleAction at a v) y s r h =
        let b : Everywhere R i h.0 × Everywhere R i h.1 = inside_of (tree.AngleAction at a v) (term.AngleAction h.0 h.1) y i h.4 r in
        row (tree.AngleAction at a v) (term.AngleAction h.0 h.1) y i h.4 tt (go sc i a h.0 s b.0 h.2, go sc i v h.1 s b.1 h.3)
    go sc i (tree.Fairness at v a) y s r h =
        let b : Everywhere R i h.0 × Everywhere R i h.1 = inside_of (tree.Fairness at v a) (term.Fairness h.0 h.1) y i h.4 r in
        row (tree.Fairness at v a) (term.Fairness h.0 h.1) y i h.4 tt (go sc i v h.0 s b.0 h.2, go sc i a h.1 s b.1 h.3)

    each : (sc : List Local) (i : ℕ) (ts : tree.Trees) (ys : Terms) → Around sc → InTerms R i ys → MeansEach names ops sc ts ys → InTerms P i ys
    each sc i tree.NoTrees ys s r h = subst (λ (z : Terms). InTerms P i z) (sym h) tt
    each sc i (tree.MoreTrees es e) ys s r h =
        let b : InTerms R i h.0 × Everywhere R i h.1 = subst (λ (z : Terms). InTerms R i z) h.2 r in
        subst (λ (z : Terms). InTerms P i z) (sym h.2) (each sc i es h.0 s b.0 h.3, go sc i e h.1 s b.1 h.4)

    operands : (sc : List Local) (i : ℕ) (ts : tree.Operands) (ys : term.Operands) → Around sc → InOperands R i ys → MeansOperands names ops sc ts ys → InOperands P i ys
    operands sc i (tree.First e) ys s r h =
        let b : Everywhere R i h.0 = subst (λ (z : term.Operands). InOperands R i z) h.1 r in
        subst (λ (z : term.Operands). InOperands P i z) (sym h.1) (go sc i e h.0 s b h.2)
    operands sc i (tree.Next es at e) ys s r h =
        let b : InOperands R i h.0 × Everywhere R i h.1 = subst (λ (z : term.Operands). InOperands R i z) h.2 r in
        subst (λ (z : term.Operands). InOperands P i z) (sym h.2) (operands sc i es h.0 s b.0 h.3, go sc i e h.1 s b.1 h.4)

    step : (sc : List Local) (i : ℕ) (ts : tree.Step) (ys : term.Step) → Around sc → InStep R i ys → MeansStep names ops sc ts ys → InStep P i ys
    step sc i tree.Prime ys s r h = subst (λ (z : term.Step). InStep P i z) (sym h) tt
    step sc i (tree.Index es) ys s r h =
        let b : InTerms R i h.0 = subst (λ (z : term.Step). InStep R i z) h.1 r in
        subst (λ (z : term.Step). InStep P i z) (sym h.1) (each sc i es h.0 s b h.2)
    step sc i (tree.Field k) ys s r h = subst (λ (z : term.Step). InStep P i z) (sym h) tt

    steps : (sc : List Local) (i : ℕ) (ts : tree.Steps) (ys : term.Steps) → Around sc → InSteps R i ys → MeansSteps names ops sc ts ys → InSteps P i ys
    steps sc i tree.NoSteps ys s r h = subst (λ (z : term.Steps). InSteps P i z) (sym h) tt
    steps sc i (tree.MoreSteps ss at p) ys s r h =
        let b : InSteps R i h.0 × InStep R i h.1 = subst (λ (z : term.Steps). InSteps R i z) h.2 r in
        subst (λ (z : term.Steps). InSteps P i z) (sym h.2) (steps sc i ss h.0 s b.0 h.3, step sc i p h.1 s b.1 h.4)

    bounds : (sc : List Local) (i : ℕ) (ts : tree.Bounds) (ys : term.Bounds) → Around sc → InBounds R i ys → MeansBounds names ops sc ts ys → InBounds P i ys
    bounds sc i tree.NoBounds ys s r h = subst (λ (z : term.Bounds). InBounds P i z) (sym h) tt
    bounds sc i (tree.MoreBounds bs ns e) ys s r h =
        let b : InBounds R i h.0 × Everywhere R i h.1 = subst (λ (z : term.Bounds). InBounds R i z) h.2 r in
        subst (λ (z : term.Bounds). InBounds P i z) (sym h.2) (bounds sc i bs h.0 s b.0 h.3, go sc i e h.1 s b.1 h.4)

    fields : (sc : List Local) (i : ℕ) (ts : tree.Fields) (ys : term.Fields) → Around sc → InFields R i ys → MeansFields names ops sc ts ys → InFields P i ys
    fields sc i tree.NoFields ys s r h = subst (λ (z : term.Fields). InFields P i z) (sym h) tt
    fields sc i (tree.MoreFields fs n e) ys s r h =
        let b : InFields R i h.0 × Everywhere R i h.1 = subst (λ (z : term.Fields). InFields R i z) h.2 r in
        subst (λ (z : term.Fields). InFields P i z) (sym h.2) (fields sc i fs h.0 s b.0 h.3, go sc i e h.1 s b.1 h.4)

    changes : (sc : List Local) (i : ℕ) (ts : tree.Changes) (ys : term.Changes) → Around sc → InChanges R i ys → MeansChanges names ops sc ts ys → InChanges P i ys
    changes sc i tree.NoChanges ys s r h = subst (λ (z : term.Changes). InChanges P i z) (sym h) tt
    changes sc i (tree.MoreChanges cs path e) ys s r h =
        let b : InChanges R i h.0 × InSteps R i h.1 × Everywhere R (suc i) h.2 = subst (λ (z : term.Changes). InChanges R i z) h.3 r in
        subst (λ (z : term.Changes). InChanges P i z) (sym h.3) (changes sc i cs h.0 s b.0 h.4, steps sc i path h.1 s b.1 h.5, go (sc ++ Bound at_sign ∷ []) (suc i) e h.2 (around_name sc at_sign s) b.2 h.6)

    arms : (sc : List Local) (i : ℕ) (ts : tree.Arms) (ys : term.Arms) → Around sc → InArms R i ys → MeansArms names ops sc ts ys → InArms P i ys
    arms sc i tree.NoArms ys s r h = subst (λ (z : term.Arms). InArms P i z) (sym h) tt
    arms sc i (tree.MoreArms cases p e) ys s r h =
        let b : InArms R i h.0 × Everywhere R i h.1 × Everywhere R i h.2 = subst (λ (z : term.Arms). InArms R i z) h.3 r in
        subst (λ (z : term.Arms). InArms P i z) (sym h.3) (arms sc i cases h.0 s b.0 h.4, go sc i p h.1 s b.1 h.5, go sc i e h.2 s b.2 h.6)

    defines : (sc : List Local) (ds : tree.Definitions) (ks : List ℕ) (inner : List Local) → Around sc → ((k : ℕ) → Contains ks k → IsFine ops k) → Defines names ops sc ds ks inner → All F ks × Around inner
    defines sc tree.NoDefinitions ks inner s fine h = (subst (λ (l : List ℕ). All F l) (sym h.0) (All-nil F), subst (λ (l : List Local). Around l) (sym h.1) s)
    defines sc (tree.MoreDefinitions ds n at ps form e) ks inner s fine h =
        let whole : (k : ℕ) → Contains (h.0 ++ h.2.0 ∷ []) k → IsFine ops k = λ k c. fine k (subst (λ (l : List ℕ). Contains l k) (sym h.7) c) in
        let a : All F h.0 × Around h.1 = defines sc ds h.0 h.1 s (λ k c. whole k (Contains-append_left h.0 (h.2.0 ∷ []) k c)) h.4 in
        let own : Own = own_of form n ps e in
        let o : Operator = local_operator (slots h.1) (length ps) own h.3 in
        let within : List Local = with_own own h.1 n h.2 (length ps) in
        let f : F h.2.0 = faultless h.2.0 o (bind within ps) e names h.6 (whole h.2.0 (Contains-push h.0 h.2.0) o h.6) (locals_bind (λ j. j ≢ h.2.0 → F j) within ps (locals_own F own h.1 n h.2 (length ps) a.1)) are h.5 in
        (subst (λ (l : List ℕ). All F l) (sym h.7) (All-push F h.0 h.2.0 a.0 f), subst (λ (l : List Local). Around l) (sym h.8) (locals_more F h.1 (Defined n h.2 (length ps)) a.1 f))

pub mentioned_are_faultless : MentionedAreFaultless
mentioned_are_faultless known ops sc t e names program s are m h k w =
    let T : Term → Type 0 = λ x. HasNoFault ops x in
    let r : Everywhere (FineRows ops) 0 e = throughout T (FineRows ops) (no_fault_goes_on ops) (λ j at l x. lists_fine ops at l x) 0 e h in
    mentioned_are (IsFaultless known ops) e k w 0 (go known ops names are program sc 0 t e s r m)

pub definitions_are_faultless : DefinitionsAreFaultless
definitions_are_faultless known ops k o ps t names is h are m = faultless k o (bind [] ps) t names is h (λ n d p c ne. locals_bind (IsFaultless known ops) [] ps (λ m e q b. absurd (contains_nothing (Defined m e q) b)) n d p c) are m

pub bodies_are_faultless : BodiesAreFaultless
bodies_are_faultless known ops _ o j program (faultless k p sc t names is fine s are m) q w =
    same_row (λ (r : Operator). Mentions r.body j → IsFaultless known ops j) ops k p o is q (mentioned_are_faultless known ops sc t p.body names program (λ n d a c. or_itself (IsFaultless known ops) k d.0 (faultless k p sc t names is fine s are m) (s n d a c)) are m fine j) w

has_no_fault : (known : NameMeanings) (ops : List Operator) (k : ℕ) (o : Operator) → IsFaultless known ops k → slice_get ops k ≡ Some o → HasNoFault ops o.body
has_no_fault known ops _ o (faultless k p sc t names is fine s are m) q = same_row (λ (r : Operator). HasNoFault ops r.body) ops k p o is q fine

reached : (known : NameMeanings) (s : Spec) → NamesAreFaultless known s.operators → ((k : ℕ) → IsNeeded s k → IsFaultless known s.operators k) → (k : ℕ) → IsReached s k → IsFaultless known s.operators k
reached known s program roots _ (needed k n) = roots k n
reached known s program roots _ (in_body j o k r q m) = bodies_are_faultless known s.operators j o k program (reached known s program roots j r) q m

pub reached_are_faultless : ReachedAreFaultless
reached_are_faultless s known program roots k o r q = has_no_fault known s.operators k o (reached known s program roots k r) q
