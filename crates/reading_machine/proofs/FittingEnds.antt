-- Every state that the reader reaches can be ended so that the operators fit their ranges. So what is read is the beginning of a text that
-- fits them, and a number can stand behind the frames of each state.
use Rattle.std.proofs.Common.{◌≡◌, ℕ, Bool, true, false, List, [], ◌∷◌, ◌++◌, append_assoc, refl, sym, ap, subst, ◌∙◌}
use Rattle.std.proofs.lemmas.List.{append-nil}
use Rattle.std.specs.Prelude.{ℤ, if◌then◌else◌}
use Rattle.base_core.specs.declared.place.Place.{Place}
use Rattle.reading_trees.specs.declared.form.DefinitionForm.{DefinitionForm}
use Rattle.reading_trees.specs.declared.laid.Bullet.{Bullet}
use Rattle.reading_trees.specs.declared.laid.Bullet.TheVariants as bullets
use Rattle.reading_trees.specs.declared.laid.Laid.{Laid}
use Rattle.reading_trees.specs.declared.laid.Laid.TheVariants.{ListItem}
use Rattle.reading_tokens.specs.declared.token.Kind.TheVariants as kinds
use Rattle.reading_tokens.specs.declared.token.Symbol.TheVariants as symbols
use Rattle.reading_trees.specs.Grammar.{◌⨟◌, token, qualified, Text, DefinitionRest}
use Rattle.reading_trees.specs.Fits.{Fits, LeftAbove, Spells}
use Rattle.reading_trees.specs.Trees as tree
use Rattle.reading_trees.specs.Trees.{Tree, NoTrees, MoreTrees, Fields, Changes, Steps, NoSteps, MoreSteps}
use Rattle.reading_machine.specs.Beginnings.{FittingBegunDefinition}
use Rattle.reading_machine.specs.LawsOfRefusals.{RanFits}
use Rattle.reading_machine.specs.Meeting.{at_place}
use Rattle.reading_machine.specs.declared.frame.RecordKind.{RecordKind}
use Rattle.reading_machine.specs.declared.frame.RecordKind.TheVariants as records
use Rattle.reading_machine.specs.declared.frame.Scope.{Scope}
use Rattle.reading_machine.specs.declared.frame.Scope.TheVariants as scopes
use Rattle.reading_machine.specs.declared.frame.Binding.{Binding}
use Rattle.reading_machine.specs.declared.frame.Form.{Form}
use Rattle.reading_machine.specs.declared.frame.Form.TheVariants as forms
use Rattle.reading_machine.specs.declared.frame.Frame.{Frame}
use Rattle.reading_machine.specs.declared.frame.Frame.TheVariants as frame
use Rattle.reading_machine.specs.declared.frame.Mode.{Mode}
use Rattle.reading_machine.specs.declared.frame.Mode.TheVariants as mode
use Rattle.reading_machine.specs.Machine.{Reads, Stops, with_step, subscripted, step, StopsAt, EndsAt, EndsDefinitionAt, after, run}
use Rattle.reading_machine.specs.OpenFits.{Top, FramesFit, in_frame, in_mode, FramesStand, ModeStands, Outermost}
use Rattle.reading_machine.specs.OpenRows.{FramesText}
use Rattle.reading_machine.proofs.Opened.{Opened, Defines, Good}
use Rattle.reading_machine.proofs.Edges.{top_all, operand_left}
use Rattle.reading_machine.proofs.Stepping.{reads_good}
use Rattle.reading_machine.proofs.NoUnits as units
use Rattle.reading_machine.proofs.NoUnits.{different}
use Rattle.reading_machine.proofs.OpenEnds.{start, one, one_tree, a_kind, a_sign, Suits, suits}
use Rattle.reading_machine.proofs.Finishing.{a_name, fresh, fresh_new}
use Rattle.reading_machine.proofs.Paths.{Path, Reach, reach, All, all_read}
use Rattle.reading_machine.proofs.RefusalsClash.{the_end, ended}
use Rattle.reading_machine.proofs.UniqueSpans.{Front}
use Rattle.reading_machine.proofs.UniqueTree.{definition_read}
use Rattle.reading_machine.proofs.FittingWalk.{Held, next_held}
use Rattle.reading_machine.proofs.FittingFronts.{frames_local, definition_local}
use Rattle.reading_machine.proofs.FittingRows.{closer, closed, IsClosed, closed_spells, closed_suits, unit_spells}

-- a whole text that fits, of a unit's definition or of an expression
abbrev pub Fitting : Bool → List Laid → Type 0
Fitting false xs = (e : Tree) × Spells e xs []
Fitting true xs = (n : List ℕ) × (p : Place) × (ns : List (List ℕ)) × (form : DefinitionForm) × (e : Tree) × Defines n p ns form e xs []

-- what is expected before the first token
abbrev pub first_mode : Bool → Mode
first_mode false = mode.Want
first_mode true = mode.DefinitionName scopes.Unit

-- what ends the frames behind an expression
abbrev pub closing : List Frame → List Laid
closing [] = []
closing (f ∷ fs) = closer f (closing fs)

expression_ends : (unit : Bool) (e : Tree) (xs : List Laid) → false ≡ unit → Spells e xs [] → Fitting unit xs
expression_ends false e xs i s = (e, s)
expression_ends true e xs i s = absurd (different (sym i))

definition_ends : (unit : Bool) (xs : List Laid) → true ≡ unit → Fitting true xs → Fitting unit xs
definition_ends false xs i d = absurd (different i)
definition_ends true xs i d = d

-- a unit's definition stands in no row
outermost : (unit : Bool) (fs : List Frame) → Outermost unit fs true → fs ≡ []
outermost unit [] o = refl
outermost unit (f ∷ fs) o = absurd (different o.0)

is_unit : (unit : Bool) (fs : List Frame) → Outermost unit fs true → true ≡ unit
is_unit unit [] o = o
is_unit unit (f ∷ fs) o = absurd (different o.0)

module _ (unit : Bool) where
  by_unit : (f : Frame) (fs : List Frame) (xs : List Laid) → (b : Bool) → in_frame f ≡ b → Outermost unit fs b → (in_frame f ≡ false → Outermost unit fs false → Fitting unit xs)
      → (in_frame f ≡ true → fs ≡ [] → Fitting true xs) → Fitting unit xs
  by_unit f fs xs false i o inner outer = inner i o
  by_unit f fs xs true i o inner outer = definition_ends unit xs (is_unit unit fs o) (outer i (outermost unit fs o))

  -- an expression and what ends the frames are a text that fits
  pub fit_close : (fs : List Frame) → Outermost unit fs false → FramesStand fs → FramesFit fs → (e : Tree) → Suits e fs → Fits e → Top fs (λ s. LeftAbove s e) → (xs ys : List Laid) → FramesText fs xs ys → Text e ys (closing fs) → Fitting unit xs
  fit_close [] o h g e u k l xs ys F t = expression_ends unit e xs o (record { text = subst (λ w. Text e w []) (sym F) t; fits = k })
  fit_close (f ∷ fs) o h g e u k l xs ys F t =
      by_unit f fs xs (in_frame f) refl o.1
      (λ i p. let c : IsClosed (closed f e) fs F.0 (closing fs) = closed_spells fs F.0 ys (closing fs) f e i g.0 k u l F.2 t in
      fit_close fs p h.1 g.1 (closed f e) (closed_suits f fs e h.0) c.1 c.2 xs F.0 F.1 c.0)
      (λ i q. unit_spells f fs e xs F.0 ys q i g.0 k (subst (λ v. FramesText v xs F.0) q F.1) F.2 (subst (λ v. Text e ys (closer f (closing v))) q t))

  -- ---- states

  abbrev pub State : List Laid → List Frame → Mode → List Laid → Type 0
  State xs fs m r = Opened xs fs m r × (ModeStands m fs × FramesStand fs) × Outermost unit fs (in_mode m)

  next_state : (xs r : List Laid) (x : Laid) (fs : List Frame) (m : Mode) (gs : List Frame) (n : Mode) → step x fs m ≡ Reads gs n → State xs fs m (x ∷ r) → State xs gs n r
  next_state xs r x fs m gs n q s = (
    subst (λ v. Good xs (x ∷ r) r v) q (reads_good xs r x fs m s.0.0.0 s.0.0.1 s.0.0.2 s.0.1 s.0.2),
    next_held x fs m gs n q s.1,
    subst (λ v. units.Good unit v) q (units.step_kept unit x fs m s.2),
  )

  pub path_state : (read r xs : List Laid) (fs : List Frame) (m : Mode) (gs : List Frame) (n : Mode) → Path read fs m gs n → State xs fs m (read ++ r) → State xs gs n r
  path_state [] r xs fs m gs n p s = subst (λ v. State xs gs v r) p.1 (subst (λ v. State xs v m r) p.0 s)
  path_state (y ∷ read) r xs fs m gs n p s = path_state read r xs p.0 p.1 gs n p.3 (next_state xs (read ++ r) y fs m p.0 p.1 p.2 s)

  -- ---- tokens that end a state

  abbrev Finish : List Frame → Mode → Type 0
  Finish fs m = (c : List Laid) × ((xs : List Laid) → State xs fs m c → Fitting unit xs)

  want_finish : (fs : List Frame) → Finish fs mode.Want
  want_finish fs = (
    one ∷ closing fs,
    λ xs s. fit_close fs s.2 s.1.1 s.0.1 one_tree (suits one_tree fs s.1.0) tt (top_all fs (λ r. LeftAbove r one_tree) (λ r. tt)) xs s.0.0.0 s.0.0.1 s.0.0.2,
  )

  have_finish : (fs : List Frame) (e : Tree) → Finish fs (mode.Have e)
  have_finish fs e = (
    closing fs,
    λ xs s. fit_close fs s.2 s.1.1 s.0.1 e (suits e fs s.1.0) s.0.2.1 (top_all fs (λ r. LeftAbove r e) (λ r. operand_left r e s.0.2.0)) xs s.0.0.0 s.0.0.1 s.0.0.2,
  )

  -- a token and then those that end what comes of it
  by_token : (x : Laid) (fs : List Frame) (m : Mode) (gs : List Frame) (n : Mode) → step x fs m ≡ Reads gs n → Finish gs n → Finish fs m
  by_token x fs m gs n q f = (x ∷ f.0, λ xs s. f.1 xs (next_state xs f.0 x fs m gs n q s))

  bound_finish : (b : Binding) (ns : List (List ℕ)) (fs : List Frame) → Finish fs (mode.BoundNamed b ns)
  bound_finish b ns fs = by_token (a_sign symbols.Member) fs (mode.BoundNamed b ns) (frame.BoundSet b ns ∷ fs) mode.Want refl (want_finish (frame.BoundSet b ns ∷ fs))

  list_finish : (b : Bullet) (at : Place) (fs : List Frame) → Finish fs (mode.ListStart b at)
  list_finish bullets.And at fs = by_token (ListItem bullets.And start) fs (mode.ListStart bullets.And at) (frame.Junction bullets.And at NoTrees ∷ fs) mode.Want refl (want_finish (frame.Junction bullets.And at NoTrees ∷ fs))
  list_finish bullets.Or at fs = by_token (ListItem bullets.Or start) fs (mode.ListStart bullets.Or at) (frame.Junction bullets.Or at NoTrees ∷ fs) mode.Want refl (want_finish (frame.Junction bullets.Or at NoTrees ∷ fs))

  choose_finish : (at : Place) (n : List ℕ) (fs : List Frame) → Finish fs (mode.ChooseNamed at n)
  choose_finish at n fs = by_token (a_sign symbols.Member) fs (mode.ChooseNamed at n) (frame.ChooseSet at n ∷ fs) mode.Want refl (want_finish (frame.ChooseSet at n ∷ fs))

  named_finish : (c : Scope) (n : List ℕ) (p : Place) (fs : List Frame) → Finish fs (mode.DefinitionNamed c n p)
  named_finish c n p fs =
      by_token (a_sign symbols.Defined) fs (mode.DefinitionNamed c n p) (frame.DefinitionBody c n p (forms.Operator []) ∷ fs) mode.Want refl (want_finish (frame.DefinitionBody c n p (forms.Operator []) ∷ fs))

  defined_finish : (c : Scope) (n : List ℕ) (p : Place) (form : Form) (fs : List Frame) → Finish fs (mode.DefinedAs c n p form)
  defined_finish c n p form fs =
      by_token (a_sign symbols.Defined) fs (mode.DefinedAs c n p form) (frame.DefinitionBody c n p form ∷ fs) mode.Want refl (want_finish (frame.DefinitionBody c n p form ∷ fs))

  parameter_finish : (c : Scope) (n : List ℕ) (p : Place) (ns : List (List ℕ)) (fs : List Frame) → Finish fs (mode.ParameterNamed c n p ns)
  parameter_finish c n p ns fs =
      by_token (a_sign symbols.CloseParenthesis) fs (mode.ParameterNamed c n p ns) fs (mode.DefinedAs c n p (forms.Operator ns)) refl (defined_finish c n p (forms.Operator ns) fs)

  -- behind a path with a step
  path_finish : (at : Place) (e : Tree) (cs : Changes) (ss : Steps) (q : Place) (fs : List Frame) → Finish fs (mode.ExceptField at e cs ss q)
  path_finish at e cs ss q fs =
      let more = MoreSteps ss q (tree.Field []) in
      by_token a_name fs (mode.ExceptField at e cs ss q) fs (mode.ExceptPath at e cs more) refl
      (by_token (a_sign symbols.Equal) fs (mode.ExceptPath at e cs more) (frame.ExceptValue at e cs more ∷ fs) mode.Want refl (want_finish (frame.ExceptValue at e cs more ∷ fs)))

  field_finish : (at : Place) (e : Tree) (cs : Changes) (ss : Steps) (fs : List Frame) → Finish fs (mode.ExceptPath at e cs ss)
  field_finish at e cs ss fs = by_token (a_sign symbols.Dot) fs (mode.ExceptPath at e cs ss) fs (mode.ExceptField at e cs ss start) refl (path_finish at e cs ss start fs)

  record_finish : (k : RecordKind) (at : Place) (hs : Fields) (n : List ℕ) (fs : List Frame) → Finish fs (mode.RecordNamed k at hs n)
  record_finish records.Record at hs n fs =
      by_token (a_sign symbols.MapsTo) fs (mode.RecordNamed records.Record at hs n) (frame.Record records.Record at hs n ∷ fs) mode.Want refl (want_finish (frame.Record records.Record at hs n ∷ fs))
  record_finish records.Set at hs n fs =
      by_token (a_sign symbols.Colon) fs (mode.RecordNamed records.Set at hs n) (frame.Record records.Set at hs n ∷ fs) mode.Want refl (want_finish (frame.Record records.Set at hs n ∷ fs))

  fair_finish : (at : Place) (v : Tree) (fs : List Frame) → Finish fs (mode.FairOpen at v)
  fair_finish at v fs = by_token (a_sign symbols.OpenParenthesis) fs (mode.FairOpen at v) (frame.FairBody at v ∷ fs) mode.Want refl (want_finish (frame.FairBody at v ∷ fs))

  finish : (fs : List Frame) (m : Mode) → Finish fs m
  finish fs mode.Want = want_finish fs
  finish fs (mode.Have e) = have_finish fs e
  finish fs (mode.BoundName b ns) = by_token a_name fs (mode.BoundName b ns) fs (mode.BoundNamed b (ns ++ [] ∷ [])) refl (bound_finish b (ns ++ [] ∷ []) fs)
  finish fs (mode.BoundNamed b ns) = bound_finish b ns fs
  finish fs (mode.BracketStart at) = by_token one fs (mode.BracketStart at) (frame.Bracket at ∷ fs) (mode.Have one_tree) refl (have_finish (frame.Bracket at ∷ fs) one_tree)
  finish fs (mode.BracketName at n p) =
      by_token (a_sign symbols.Arrow) fs (mode.BracketName at n p) (frame.FunctionRange at (tree.Name p n) ∷ fs) mode.Want refl (want_finish (frame.FunctionRange at (tree.Name p n) ∷ fs))
  finish fs (mode.BraceStart at) = by_token (a_sign symbols.CloseBrace) fs (mode.BraceStart at) fs (mode.Have (tree.SetOf at NoTrees)) refl (have_finish fs (tree.SetOf at NoTrees))
  finish fs (mode.BraceName at n p) =
      let e = tree.SetOf at (MoreTrees NoTrees (tree.Name p n)) in by_token (a_sign symbols.CloseBrace) fs (mode.BraceName at n p) fs (mode.Have e) refl (have_finish fs e)
  finish fs (mode.TupleStart at) = by_token one fs (mode.TupleStart at) (frame.Tuple at NoTrees ∷ fs) (mode.Have one_tree) refl (have_finish (frame.Tuple at NoTrees ∷ fs) one_tree)
  finish fs (mode.ListStart b at) = list_finish b at fs
  finish fs (mode.ChooseName at) = by_token a_name fs (mode.ChooseName at) fs (mode.ChooseNamed at []) refl (choose_finish at [] fs)
  finish fs (mode.ChooseNamed at n) = choose_finish at n fs
  finish fs (mode.DefinitionName c) = by_token a_name fs (mode.DefinitionName c) fs (mode.DefinitionNamed c [] start) refl (named_finish c [] start fs)
  finish fs (mode.DefinitionNamed c n p) = named_finish c n p fs
  finish fs (mode.Parameter c n p ns) = by_token a_name fs (mode.Parameter c n p ns) fs (mode.ParameterNamed c n p (ns ++ [] ∷ [])) refl (parameter_finish c n p (ns ++ [] ∷ []) fs)
  finish fs (mode.ParameterNamed c n p ns) = parameter_finish c n p ns fs
  finish fs (mode.DefinedAs c n p form) = defined_finish c n p form fs
  finish fs (mode.ExceptMark at e cs) = by_token (a_sign symbols.Exclamation) fs (mode.ExceptMark at e cs) fs (mode.ExceptPath at e cs NoSteps) refl (field_finish at e cs NoSteps fs)
  finish fs (mode.ExceptPath at e cs ss) = field_finish at e cs ss fs
  finish fs (mode.ExceptField at e cs ss q) = path_finish at e cs ss q fs
  finish fs (mode.FieldName e q) = by_token a_name fs (mode.FieldName e q) fs (mode.Have (with_step e q (tree.Field []))) refl (have_finish fs (with_step e q (tree.Field [])))
  finish fs (mode.InstanceName at i) =
      let e = tree.Qualified at (qualified i []) NoTrees in by_token a_name fs (mode.InstanceName at i) fs (mode.Have e) refl (have_finish fs e)
  finish fs (mode.RecordName k at hs) =
      by_token (a_kind (kinds.Name (fresh hs))) fs (mode.RecordName k at hs) fs (mode.RecordNamed k at hs (fresh hs))
      (ap (λ b. if b then Stops else Reads fs (mode.RecordNamed k at hs (fresh hs))) (fresh_new hs)) (record_finish k at hs (fresh hs) fs)
  finish fs (mode.RecordNamed k at hs n) = record_finish k at hs n fs
  finish fs (mode.SubscriptStart k at e) =
      let v = subscripted k at e (tree.Name start []) in by_token a_name fs (mode.SubscriptStart k at e) fs (mode.Have v) refl (have_finish fs v)
  finish fs (mode.FairStart at) = by_token a_name fs (mode.FairStart at) fs (mode.FairOpen at (tree.Name start [])) refl (fair_finish at (tree.Name start []) fs)
  finish fs (mode.FairOpen at v) = fair_finish at v fs
  finish fs (mode.CaseNext at arms) = by_token one fs (mode.CaseNext at arms) (frame.CaseTest at arms ∷ fs) (mode.Have one_tree) refl (have_finish (frame.CaseTest at arms ∷ fs) one_tree)
  finish fs (mode.OtherArrow at arms) = by_token (a_sign symbols.Arrow) fs (mode.OtherArrow at arms) (frame.CaseOther at arms ∷ fs) mode.Want refl (want_finish (frame.CaseOther at arms ∷ fs))

-- before the first token
pub first_state : (unit : Bool) (xs : List Laid) → State unit xs [] (first_mode unit) xs
first_state false xs = (((xs, refl, refl), tt, tt), (tt, tt), refl)
first_state true xs = (((xs, refl, refl), tt, (refl, tt)), (tt, tt), refl)

-- ---- what is read

ran : (unit : Bool) (read : List Laid) → run read [] (first_mode unit) ≡ StopsAt [] → (c : List Laid) × Fitting unit (read ++ c)
ran unit read q =
    let a : All read [] (first_mode unit) = all_read read [] (first_mode unit) q in
    let f : Finish unit a.frames a.expects = finish unit a.frames a.expects in
    (f.0, f.1 (read ++ f.0) (path_state unit read f.0 (read ++ f.0) [] (first_mode unit) a.frames a.expects a.path (first_state unit (read ++ f.0))))

-- what is read of an expression is the beginning of a text that fits its ranges
pub ran_fits : RanFits
ran_fits read q = let f = ran false read q in record { tree = f.1.0; rest = f.0; spelled = f.1.1 }

-- the same of a unit's definition
pub definition_ran_fits : (read : List Laid) → run read [] (mode.DefinitionName scopes.Unit) ≡ StopsAt [] → FittingBegunDefinition read
definition_ran_fits read q = let f = ran true read q in record { name = f.1.0; at = f.1.1; parameters = f.1.2; form = f.1.3; body = f.1.4; rest = f.0; whole = f.1.5.0; fits = f.1.5.1 }

-- ---- a text that fits is read

-- up to an End behind it
definition_ended : (n : List ℕ) (p : Place) (ns : List (List ℕ)) (form : DefinitionForm) (e : Tree) (xs : List Laid) → Defines n p ns form e xs [] → run (xs ++ the_end ∷ []) [] (mode.DefinitionName scopes.Unit) ≡ EndsDefinitionAt n p ns form e (the_end ∷ [])
unfolding the_end
definition_ended n p ns form e xs d =
    let f : Front (token p (kinds.Name n) ⨟ DefinitionRest ns form e) xs [] = definition_local n p ns form e xs [] d.0 in
    let k : xs ≡ f.front = f.here ∙ append-nil f.front in
    definition_read (xs ++ the_end ∷ []) [] the_end n p ns form e (subst (λ v. (token p (kinds.Name n) ⨟ DefinitionRest ns form e) (v ++ the_end ∷ []) (the_end ∷ [])) (sym k) (f.anywhere (the_end ∷ []))) d.1 tt

all_of : (xs : List Laid) (fs : List Frame) (m : Mode) (o : _) → Reach xs fs m the_end [] o → All xs fs m
all_of xs fs m o h = record { frames = h.frames; expects = h.expects; path = h.path }

all_fitting : (unit : Bool) (xs : List Laid) → Fitting unit xs → All xs [] (first_mode unit)
all_fitting false xs s = all_of xs [] mode.Want _ (reach xs the_end [] [] mode.Want (EndsAt s.0 (the_end ∷ [])) (ended s.0 xs s.1) refl)
all_fitting true xs s =
    all_of xs [] (mode.DefinitionName scopes.Unit) _
    (reach xs the_end [] [] (mode.DefinitionName scopes.Unit) (EndsDefinitionAt s.0 s.1 s.2 s.3 s.4 (the_end ∷ [])) (definition_ended s.0 s.1 s.2 s.3 s.4 xs s.5) refl)

pub path_runs : (done more : List Laid) (fs : List Frame) (m : Mode) (gs : List Frame) (n : Mode) → Path (done ++ more) fs m gs n → run done fs m ≡ StopsAt []
path_runs [] more fs m gs n p = refl
path_runs (y ∷ done) more fs m gs n p = ap (λ v. after v (y ∷ done) (run done)) p.2 ∙ path_runs done more p.0 p.1 gs n p.3

-- the tokens before a point, behind which a number can stand
pub record Hungry (unit : Bool) (xs ys : List Laid) : Type 0 where
  pub before : List Laid
  pub here : xs ≡ before ++ ys
  pub accepts : (z : ℤ) (at : Place) → run (before ++ at_place (kinds.Number z) at ∷ []) [] (first_mode unit) ≡ StopsAt []

-- a number can stand behind frames where no subscript is expected
pub hungry : (unit : Bool) (fs : List Frame) (xs ys : List Laid) → Outermost unit fs false → Held fs → FramesFit fs → FramesText fs xs ys → Hungry unit xs ys
hungry unit fs xs ys o h g F =
    let f : Front (FramesText fs) xs ys = frames_local fs xs ys F in
    let c : List Laid = closing fs in
    record {
      before = f.front;
      here = f.here;
      accepts = λ z at.
          let x : Laid = at_place (kinds.Number z) at in let e : Tree = tree.Number at z in
          let s : Fitting unit (f.front ++ x ∷ c) = fit_close unit fs o h.1 g e (suits e fs h.0) tt (top_all fs (λ r. LeftAbove r e) (λ r. tt)) (f.front ++ x ∷ c) (x ∷ c) (f.anywhere (x ∷ c)) refl in
          let a : All (f.front ++ x ∷ c) [] (first_mode unit) = all_fitting unit (f.front ++ x ∷ c) s in
          path_runs (f.front ++ x ∷ []) c [] (first_mode unit) a.frames a.expects (subst (λ v. Path v [] (first_mode unit) a.frames a.expects) (sym (append_assoc f.front (x ∷ []) c)) a.path);
    }
