-- What a tree means among some names it means among more.
use Rattle.std.proofs.Common.{◌≡◌, List, [], ◌∷◌, ◌++◌, length}
use Rattle.std.specs.Prelude.{ℕ, Option, Some, None}
use Rattle.reading_trees.specs.Trees.{Tree, Number, Str, Truth, Builtin, Name, Call, Qualified, At, Parenthesized, Junction, Prefix, Infix, Postfix, SetOf, Filter, Map, Tuple, Function, FunctionSet, Record, RecordSet, Except, Quantified, Choose, If, Case, CaseOther, Let, BoxAction, AngleAction, Fairness, Trees, NoTrees, MoreTrees, Operands, First, Next, Step, Prime, Index, Field, Steps, NoSteps, MoreSteps, Bounds, NoBounds, MoreBounds, Fields, NoFields, MoreFields, Changes, NoChanges, MoreChanges, Arms, NoArms, MoreArms, Definitions, NoDefinitions, MoreDefinitions}
use Rattle.names_terms.specs.declared.operator.Operator.{Operator}
use Rattle.names_terms.specs.Terms as term
use Rattle.names_terms.specs.Terms.{Term, Terms, Meaning}
use Rattle.names_scopes.specs.declared.scope.Local.{Local}
use Rattle.names_scopes.specs.declared.scope.Local.TheVariants.{Bound}
use Rattle.names_scopes.specs.declared.meant.Named.{Named}
use Rattle.names_scopes.specs.declared.meant.Entry.{Entry}
use Rattle.names_scopes.specs.Scopes.{later, among, bound, bind, bind_bounds, at_sign}
use Rattle.names_meanings.specs.Means.{Uses, Means, MeansEach, MeansOperands, MeansStep, MeansSteps, MeansBounds, MeansFields, MeansChanges, MeansArms, Defines, with_own}
use Rattle.names_meanings.specs.Owning.{own_of}
use Rattle.names_meaning_laws.specs.Laws.{HasMore}

later_more : (o o' b : Option Named) (w : Named) → ((x : Named) → o ≡ Some x → o' ≡ Some x) → later o b ≡ Some w → later o' b ≡ Some w
later_more o o' (Some y) w p h = h
later_more o o' None w p h = p w h

module _ (names names' : List Entry) (more : HasMore names names') (ops : List Operator) where
  uses_more : (sc : List Local) (n : List ℕ) (ts : Terms) (m : Meaning) → Uses names sc n ts m → Uses names' sc n ts m
  uses_more sc n ts m h = (h.0, later_more (among names n) (among names' n) (bound sc n) h.0 (more n) h.1, h.2)

  mutual
    pub means_more : (sc : List Local) (t : Tree) (e : Term) → Means names ops sc t e → Means names' ops sc t e
    means_more sc (Number at z) y h = h
    means_more sc (Str at s) y h = h
    means_more sc (Truth at b) y h = h
    means_more sc (Builtin at b) y h = h
    means_more sc (Name at n) y h = (h.0, uses_more sc n term.NoTerms h.0 h.1, h.2)
    means_more sc (Call at n es) y h = (h.0, h.1, each_more sc es h.0 h.2, uses_more sc n h.0 h.1 h.3, h.4)
    means_more sc (Qualified at n es) y h = (h.0, h.1, each_more sc es h.0 h.2, uses_more sc n h.0 h.1 h.3, h.4)
    means_more sc (At at) y h = (h.0, uses_more sc at_sign term.NoTerms h.0 h.1, h.2)
    means_more sc (Parenthesized at a) y h = (h.0, means_more sc a h.0 h.1, h.2)
    means_more sc (Junction at b es) y h = (h.0, each_more sc es h.0 h.1, h.2)
    means_more sc (Prefix at o a) y h = (h.0, means_more sc a h.0 h.1, h.2)
    means_more sc (Infix at o os a) y h = (h.0, h.1, operands_more sc os h.0 h.2, means_more sc a h.1 h.3, h.4)
    means_more sc (Postfix at a ss s) y h = (h.0, h.1, h.2, means_more sc a h.0 h.3, steps_more sc ss h.1 h.4, step_more sc s h.2 h.5, h.6)
    means_more sc (SetOf at es) y h = (h.0, each_more sc es h.0 h.1, h.2)
    means_more sc (Filter at n a b) y h = (h.0, h.1, means_more sc a h.0 h.2, means_more (sc ++ Bound n ∷ []) b h.1 h.3, h.4)
    means_more sc (Map at a bs) y h = (h.0, h.1, means_more (bind_bounds sc bs) a h.0 h.2, bounds_more sc bs h.1 h.3, h.4)
    means_more sc (Tuple at es) y h = (h.0, each_more sc es h.0 h.1, h.2)
    means_more sc (Function at bs a) y h = (h.0, h.1, bounds_more sc bs h.0 h.2, means_more (bind_bounds sc bs) a h.1 h.3, h.4)
    means_more sc (FunctionSet at a b) y h = (h.0, h.1, means_more sc a h.0 h.2, means_more sc b h.1 h.3, h.4)
    means_more sc (Record at fs) y h = (h.0, fields_more sc fs h.0 h.1, h.2)
    means_more sc (RecordSet at fs) y h = (h.0, fields_more sc fs h.0 h.1, h.2)
    means_more sc (Except at a cs) y h = (h.0, h.1, means_more sc a h.0 h.2, changes_more sc cs h.1 h.3, h.4)
    means_more sc (Quantified at q bs a) y h = (h.0, h.1, bounds_more sc bs h.0 h.2, means_more (bind_bounds sc bs) a h.1 h.3, h.4)
    means_more sc (Choose at n a b) y h = (h.0, h.1, means_more sc a h.0 h.2, means_more (sc ++ Bound n ∷ []) b h.1 h.3, h.4)
    means_more sc (If at c a b) y h = (h.0, h.1, h.2, means_more sc c h.0 h.3, means_more sc a h.1 h.4, means_more sc b h.2 h.5, h.6)
    means_more sc (Case at arms) y h = (h.0, arms_more sc arms h.0 h.1, h.2)
    means_more sc (CaseOther at arms a) y h = (h.0, h.1, arms_more sc arms h.0 h.2, means_more sc a h.1 h.3, h.4)
    means_more sc (Let at ds a) y h = (h.0, h.1, h.2, defines_more sc ds h.0 h.1 h.3, means_more h.1 a h.2 h.4, h.5)
    means_more sc (BoxAction at a v) y h = (h.0, h.1, means_more sc a h.0 h.2, means_more sc v h.1 h.3, h.4)
    means_more sc (AngleAction at a v) y h = (h.0, h.1, means_more sc a h.0 h.2, means_more sc v h.1 h.3, h.4)
    means_more sc (Fairness at v a) y h = (h.0, h.1, means_more sc v h.0 h.2, means_more sc a h.1 h.3, h.4)

    pub each_more : (sc : List Local) (t : Trees) (e : Terms) → MeansEach names ops sc t e → MeansEach names' ops sc t e
    each_more sc NoTrees y h = h
    each_more sc (MoreTrees es e) y h = (h.0, h.1, h.2, each_more sc es h.0 h.3, means_more sc e h.1 h.4)

    pub operands_more : (sc : List Local) (t : Operands) (e : term.Operands) → MeansOperands names ops sc t e → MeansOperands names' ops sc t e
    operands_more sc (First e) y h = (h.0, h.1, means_more sc e h.0 h.2)
    operands_more sc (Next es at e) y h = (h.0, h.1, h.2, operands_more sc es h.0 h.3, means_more sc e h.1 h.4)

    pub step_more : (sc : List Local) (t : Step) (e : term.Step) → MeansStep names ops sc t e → MeansStep names' ops sc t e
    step_more sc Prime y h = h
    step_more sc (Index es) y h = (h.0, h.1, each_more sc es h.0 h.2)
    step_more sc (Field k) y h = h

    pub steps_more : (sc : List Local) (t : Steps) (e : term.Steps) → MeansSteps names ops sc t e → MeansSteps names' ops sc t e
    steps_more sc NoSteps y h = h
    steps_more sc (MoreSteps es at e) y h = (h.0, h.1, h.2, steps_more sc es h.0 h.3, step_more sc e h.1 h.4)

    pub bounds_more : (sc : List Local) (t : Bounds) (e : term.Bounds) → MeansBounds names ops sc t e → MeansBounds names' ops sc t e
    bounds_more sc NoBounds y h = h
    bounds_more sc (MoreBounds bs ns e) y h = (h.0, h.1, h.2, bounds_more sc bs h.0 h.3, means_more sc e h.1 h.4)

    pub fields_more : (sc : List Local) (t : Fields) (e : term.Fields) → MeansFields names ops sc t e → MeansFields names' ops sc t e
    fields_more sc NoFields y h = h
    fields_more sc (MoreFields fs n e) y h = (h.0, h.1, h.2, fields_more sc fs h.0 h.3, means_more sc e h.1 h.4)

    pub changes_more : (sc : List Local) (t : Changes) (e : term.Changes) → MeansChanges names ops sc t e → MeansChanges names' ops sc t e
    changes_more sc NoChanges y h = h
    changes_more sc (MoreChanges cs path e) y h = (h.0, h.1, h.2, h.3, changes_more sc cs h.0 h.4, steps_more sc path h.1 h.5, means_more (sc ++ Bound at_sign ∷ []) e h.2 h.6)

    pub arms_more : (sc : List Local) (t : Arms) (e : term.Arms) → MeansArms names ops sc t e → MeansArms names' ops sc t e
    arms_more sc NoArms y h = h
    arms_more sc (MoreArms arms c e) y h = (h.0, h.1, h.2, h.3, arms_more sc arms h.0 h.4, means_more sc c h.1 h.5, means_more sc e h.2 h.6)

    pub defines_more : (sc : List Local) (ds : Definitions) (ks : List ℕ) (inner : List Local) → Defines names ops sc ds ks inner → Defines names' ops sc ds ks inner
    defines_more sc NoDefinitions ks inner h = h
    defines_more sc (MoreDefinitions ds n at ps form e) ks inner h = (h.0, h.1, h.2, h.3, defines_more sc ds h.0 h.1 h.4, means_more (bind (with_own (own_of form n ps e) h.1 n h.2 (length ps)) ps) e h.3 h.5, h.6, h.7, h.8)
