-- What one token does keeps what is read right.
use Rattle.std.proofs.Common.{◌≡◌, ℕ, Bool, true, false, ◌||◌, List, [], ◌∷◌, ◌++◌, refl, sym, ap, subst, nat_eq}
use Rattle.std.specs.Cmp.Lexicographic.{pointwise, other_text}
use Rattle.base_core.specs.declared.place.Place.{Place}
use Rattle.reading_trees.specs.declared.laid.Bullet.{Bullet}
use Rattle.reading_trees.specs.declared.laid.Laid.{Laid}
use Rattle.reading_trees.specs.declared.laid.Laid.TheVariants.{Plain, ListItem}
use Rattle.reading_tokens.specs.declared.token.Kind.{Kind}
use Rattle.reading_tokens.specs.declared.token.Word.{Word}
use Rattle.reading_tokens.specs.declared.token.Symbol.{Symbol}
use Rattle.reading_trees.specs.Grammar.{sign, name, qualified, NamesBefore, NamesText, ParametersText, IsKey, IsPath, IsNew, ArmsBefore, SomeArmsBefore}
use Rattle.reading_trees.specs.Fits.{ArmsBeforeFit}
use Rattle.reading_trees.specs.Trees.{Tree, NoTrees, Step, Steps, NoSteps, MoreSteps, Fields, NoFields, MoreFields, Changes, Arms, NoArms, MoreArms}
use Rattle.reading_machine.specs.declared.frame.RecordKind.{RecordKind}
use Rattle.reading_machine.specs.declared.frame.Scope.{Scope}
use Rattle.reading_machine.specs.declared.frame.Binding.{Binding}
use Rattle.reading_machine.specs.declared.frame.Form.{Form}
use Rattle.reading_machine.specs.declared.frame.Frame.{Frame}
use Rattle.reading_machine.specs.declared.frame.Mode.{Mode}
use Rattle.reading_machine.specs.Machine.{Stops, with_step, same_bullet, has_field, begins, bound_named, bracket_named, brace_started, brace_named, tuple_started, list_started, choose_named, definition_named, parameter_named, defined_as, except_mark, path_ends, except_path, record_named, fair_opened, is_other_word, is_other, case_next, other_arrow, step}
use Rattle.reading_machine.proofs.Opened.{Good, laid_symbol}
use Rattle.reading_machine.proofs.Edges.{one_of_two}
use Rattle.reading_machine.proofs.Rows.{step_good, want_good, have_good, stepped_good, deliver_good}
use Rattle.reading_machine.proofs.Closing.{laid, follows_good, same_bullets, no_bullet}
use Rattle.reading_machine.proofs.Beginning.{begins_good, on_name_good, on_symbol_good, subscript_good}
use Rattle.reading_tokens.specs.declared.token.Kind.TheVariants as kinds
use Rattle.reading_tokens.specs.declared.token.Word.TheVariants as words
use Rattle.reading_tokens.specs.declared.token.Symbol.TheVariants as symbols
use Rattle.reading_trees.specs.Trees as tree
use Rattle.reading_machine.specs.declared.frame.RecordKind.TheVariants as records
use Rattle.reading_machine.specs.declared.frame.Form.TheVariants as forms
use Rattle.reading_machine.specs.declared.frame.Frame.TheVariants as frame
use Rattle.reading_machine.specs.declared.frame.Mode.TheVariants as mode
use Rattle.reading_machine.specs.OpenFits.{AreKeys, ScopeFits, BindingFits, FramesFit, ModeFits}
use Rattle.reading_machine.specs.OpenRows.{FrameText, FramesText, ModeText}

-- names behind those that have a comma behind them
names_end : (ns : List (List ℕ)) (n : List ℕ) (xs ys zs : List Laid) → NamesBefore ns xs ys → name n ys zs → NamesText (ns ++ n ∷ []) xs zs
names_end [] n xs ys zs a b = subst (λ w. name n w zs) (sym a) b
names_end (m ∷ []) n xs ys zs a b = (a.0, a.1, (a.2.0, a.2.1, names_end [] n a.2.0 ys zs a.2.2 b))
names_end (m ∷ k ∷ ks) n xs ys zs a b = (a.0, a.1, (a.2.0, a.2.1, names_end (k ∷ ks) n a.2.0 ys zs a.2.2 b))

names_comma : (ns : List (List ℕ)) (xs ys zs : List Laid) → NamesText ns xs ys → sign symbols.Comma ys zs → NamesBefore ns xs zs
names_comma [] xs ys zs a b = absurd a
names_comma (n ∷ []) xs ys zs a b = (ys, a, (zs, b, refl))
names_comma (n ∷ m ∷ ns) xs ys zs a b = (a.0, a.1, (a.2.0, a.2.1, names_comma (m ∷ ns) a.2.0 ys zs a.2.2 b))

parameters_good : (ns : List (List ℕ)) (xs ys zs ws : List Laid) → sign symbols.OpenParenthesis xs ys → NamesText ns ys zs → sign symbols.CloseParenthesis zs ws → ParametersText ns xs ws
parameters_good [] xs ys zs ws a b c = absurd b
parameters_good (n ∷ ns) xs ys zs ws a b c = (ys, a, (zs, b, c))

path_good : (ss : Steps) (p : Place) (s : Step) → AreKeys ss → IsKey s → IsPath (MoreSteps ss p s)
path_good NoSteps p s a b = b
path_good (MoreSteps ss q t) p s a b = (path_good ss q t a.0 a.1, b)

no_field : (b c : Bool) → (b || c) ≡ false → (b ≡ false) × (c ≡ false)
no_field false false e = (refl, refl)
no_field true c e = absurd (no_bullet (sym e))
no_field false true e = absurd (no_bullet (sym e))

is_new : (n : List ℕ) (hs : Fields) → has_field n hs ≡ false → IsNew n hs
is_new n NoFields e = tt
is_new n (MoreFields hs m d) e =
    let k = no_field (has_field n hs) (pointwise nat_eq n m) e in
    (is_new n hs k.0, other_text n m (sym k.1))

some_arms : (arms : Arms) (xs ys : List Laid) → SomeArmsBefore arms xs ys → ArmsBefore arms xs ys
some_arms NoArms xs ys a = absurd a
some_arms (MoreArms arms p e) xs ys a = a

other_word : (w : Word) → is_other_word w ≡ true → w ≡ words.Other
other_word words.Other e = refl
other_word _ e = absurd (no_bullet e)

other_kind : (c : Kind) → is_other c ≡ true → c ≡ kinds.Word words.Other
other_kind (kinds.Word w) e = ap (λ x. kinds.Word x) (other_word w e)
other_kind _ e = absurd (no_bullet e)

module _ (xs r : List Laid) (x : Laid) (fs : List Frame) (ys : List Laid) (F : FramesText fs xs ys) (h : FramesFit fs) where
  bound_named_good : (b : Binding) (ns : List (List ℕ)) (s : Symbol) (q : Place) → x ≡ laid_symbol s q → ModeText (mode.BoundNamed b ns) ys (x ∷ r) → BindingFits b fs → Good xs (x ∷ r) r (bound_named b ns fs s)
  bound_named_good b ns symbols.Comma q e a f = ((ys, F, (a.0, a.1, names_comma ns a.0 (x ∷ r) r a.2 (q, ap (λ y. y ∷ r) e))), h, f)
  bound_named_good b ns symbols.Member q e a f = want_good xs (x ∷ r) r (frame.BoundSet b ns) fs ys F (a.0, a.1, (x ∷ r, a.2, (q, ap (λ y. y ∷ r) e))) f h
  bound_named_good b ns _ q e a f = tt

  bracket_named_good : (at : Place) (n : List ℕ) (p : Place) (s : Symbol) (q : Place) → x ≡ laid_symbol s q → ModeText (mode.BracketName at n p) ys (x ∷ r) → Good xs (x ∷ r) r (bracket_named x at n p fs s q)
  bracket_named_good at n p symbols.MapsTo q e a = want_good xs (x ∷ r) r (frame.Record records.Record at NoFields n) fs ys F (a.0, a.1, (a.0, refl, (x ∷ r, (p, a.2), (q, ap (λ y. y ∷ r) e)))) (tt, tt, tt) h
  bracket_named_good at n p symbols.Colon q e a = want_good xs (x ∷ r) r (frame.Record records.Set at NoFields n) fs ys F (a.0, a.1, (a.0, refl, (x ∷ r, (p, a.2), (q, ap (λ y. y ∷ r) e)))) (tt, tt, tt) h
  bracket_named_good at n p symbols.Comma q e a = ((ys, F, (a.0, (a.0, a.1, refl), (x ∷ r, (p, a.2), (r, (q, ap (λ y. y ∷ r) e), refl)))), h, (tt, tt))
  bracket_named_good at n p symbols.Member q e a = want_good xs (x ∷ r) r (frame.MaybeFunction at n p q) fs ys F (a.0, a.1, (x ∷ r, a.2, ap (λ y. y ∷ r) e)) tt h
  bracket_named_good at n p s q e a = follows_good xs r x (frame.Bracket at ∷ fs) (tree.Name p n) a.0 (ys, F, a.1) a.2 (tt, h) tt tt

  brace_started_good : (at : Place) (s : Symbol) (q : Place) → x ≡ laid_symbol s q → ModeText (mode.BraceStart at) ys (x ∷ r) → Good xs (x ∷ r) r (brace_started x at fs s q)
  brace_started_good at symbols.CloseBrace q e a = have_good xs (x ∷ r) r fs (tree.SetOf at NoTrees) ys F (x ∷ r, a, (x ∷ r, refl, (q, ap (λ y. y ∷ r) e))) h tt tt
  brace_started_good at s q e a = begins_good xs r x (frame.Braces at NoTrees ∷ fs) (ys, F, (x ∷ r, a, refl)) (tt, h)

  brace_named_good : (at : Place) (n : List ℕ) (p : Place) (s : Symbol) (q : Place) → x ≡ laid_symbol s q → ModeText (mode.BraceName at n p) ys (x ∷ r) → Good xs (x ∷ r) r (brace_named x at n p fs s q)
  brace_named_good at n p symbols.Member q e a = want_good xs (x ∷ r) r (frame.MaybeFilter at n p q) fs ys F (a.0, a.1, (x ∷ r, a.2, ap (λ y. y ∷ r) e)) tt h
  brace_named_good at n p s q e a = follows_good xs r x (frame.Braces at NoTrees ∷ fs) (tree.Name p n) a.0 (ys, F, (a.0, a.1, refl)) a.2 (tt, h) tt tt

  tuple_started_good : (at : Place) (s : Symbol) (q : Place) → x ≡ laid_symbol s q → ModeText (mode.TupleStart at) ys (x ∷ r) → Good xs (x ∷ r) r (tuple_started x at fs s q)
  tuple_started_good at symbols.CloseTuple q e a = deliver_good xs (x ∷ r) r (tree.Tuple at NoTrees) fs ys F (x ∷ r, a, (x ∷ r, refl, (q, ap (λ y. y ∷ r) e))) h tt tt tt
  tuple_started_good at s q e a = begins_good xs r x (frame.Tuple at NoTrees ∷ fs) (ys, F, (x ∷ r, a, refl)) (tt, h)

  choose_named_good : (at : Place) (n : List ℕ) (s : Symbol) (q : Place) → x ≡ laid_symbol s q → ModeText (mode.ChooseNamed at n) ys (x ∷ r) → Good xs (x ∷ r) r (choose_named at n fs s)
  choose_named_good at n symbols.Member q e a = want_good xs (x ∷ r) r (frame.ChooseSet at n) fs ys F (a.0, a.1, (x ∷ r, a.2, (q, ap (λ y. y ∷ r) e))) tt h
  choose_named_good at n _ q e a = tt

  definition_named_good : (c : Scope) (n : List ℕ) (p : Place) (s : Symbol) (q : Place) → x ≡ laid_symbol s q → ModeText (mode.DefinitionNamed c n p) ys (x ∷ r) → ScopeFits c fs → Good xs (x ∷ r) r (definition_named c n p fs s q)
  definition_named_good c n p symbols.Defined q e a f = want_good xs (x ∷ r) r (frame.DefinitionBody c n p (forms.Operator [])) fs ys F (a.0, a.1, (x ∷ r, a.2, (x ∷ r, refl, (q, ap (λ y. y ∷ r) e)))) (f, tt) h
  definition_named_good c n p symbols.OpenParenthesis q e a f = ((ys, F, (a.0, a.1, (x ∷ r, a.2, (r, (q, ap (λ y. y ∷ r) e), refl)))), h, f)
  definition_named_good c n p symbols.OpenBracket q e a f = ((ys, F, (r, (r, (a.0, a.1, (x ∷ r, a.2, ap (λ y. y ∷ r) e)), refl), refl)), h, (f, tt))
  definition_named_good c n p _ q e a f = tt

  parameter_named_good : (c : Scope) (n : List ℕ) (p : Place) (ns : List (List ℕ)) (s : Symbol) (q : Place) → x ≡ laid_symbol s q → ModeText (mode.ParameterNamed c n p ns) ys (x ∷ r) → ScopeFits c fs → Good xs (x ∷ r) r (parameter_named c n p ns fs s)
  parameter_named_good c n p ns symbols.Comma q e a f = ((ys, F, (a.0, a.1, (a.2.0, a.2.1, (a.2.2.0, a.2.2.1, names_comma ns a.2.2.0 (x ∷ r) r a.2.2.2 (q, ap (λ y. y ∷ r) e))))), h, f)
  parameter_named_good c n p ns symbols.CloseParenthesis q e a f = ((ys, F, (a.0, a.1, (a.2.0, a.2.1, parameters_good ns a.2.0 a.2.2.0 (x ∷ r) r a.2.2.1 a.2.2.2 (q, ap (λ y. y ∷ r) e)))), h, (f, tt))
  parameter_named_good c n p ns _ q e a f = tt

  defined_as_good : (c : Scope) (n : List ℕ) (p : Place) (form : Form) (s : Symbol) (q : Place) → x ≡ laid_symbol s q → ModeText (mode.DefinedAs c n p form) ys (x ∷ r) → ModeFits (mode.DefinedAs c n p form) fs → Good xs (x ∷ r) r (defined_as c n p form fs s)
  defined_as_good c n p form symbols.Defined q e a f = want_good xs (x ∷ r) r (frame.DefinitionBody c n p form) fs ys F (a.0, a.1, (a.2.0, a.2.1, (x ∷ r, a.2.2, (q, ap (λ y. y ∷ r) e)))) f h
  defined_as_good c n p form _ q e a f = tt

  except_mark_good : (at : Place) (d : Tree) (cs : Changes) (s : Symbol) (q : Place) → x ≡ laid_symbol s q → ModeText (mode.ExceptMark at d cs) ys (x ∷ r) → ModeFits (mode.ExceptMark at d cs) fs → Good xs (x ∷ r) r (except_mark at d cs fs s)
  except_mark_good at d cs symbols.Exclamation q e a f = ((ys, F, (x ∷ r, a, (r, (q, ap (λ y. y ∷ r) e), refl))), h, (f.0, f.1, tt, tt))
  except_mark_good at d cs _ q e a f = tt

  path_ends_good : (at : Place) (d : Tree) (cs : Changes) (ss : Steps) → FrameText (frame.ExceptValue at d cs ss) ys r → ModeFits (mode.ExceptPath at d cs ss) fs → Good xs (x ∷ r) r (path_ends at d cs ss fs)
  path_ends_good at d cs NoSteps a f = tt
  path_ends_good at d cs (MoreSteps ss p s) a f = want_good xs (x ∷ r) r (frame.ExceptValue at d cs (MoreSteps ss p s)) fs ys F a (f.0, f.1, f.2, path_good ss p s f.3.0 f.3.1) h

  except_path_good : (at : Place) (d : Tree) (cs : Changes) (ss : Steps) (s : Symbol) (q : Place) → x ≡ laid_symbol s q → ModeText (mode.ExceptPath at d cs ss) ys (x ∷ r) → ModeFits (mode.ExceptPath at d cs ss) fs → Good xs (x ∷ r) r (except_path at d cs ss fs s q)
  except_path_good at d cs ss symbols.OpenBracket q e a f = want_good xs (x ∷ r) r (frame.ExceptIndex at d cs ss q NoTrees) fs ys F (x ∷ r, a, (r, ap (λ y. y ∷ r) e, refl)) (f.0, f.1, f.2, f.3, tt) h
  except_path_good at d cs ss symbols.Dot q e a f = ((ys, F, (x ∷ r, a, ap (λ y. y ∷ r) e)), h, f)
  except_path_good at d cs ss symbols.Equal q e a f = path_ends_good at d cs ss (x ∷ r, a, (q, ap (λ y. y ∷ r) e)) f
  except_path_good at d cs ss _ q e a f = tt

  record_named_good : (k : RecordKind) (at : Place) (hs : Fields) (n : List ℕ) (s : Symbol) (q : Place) → x ≡ laid_symbol s q → ModeText (mode.RecordNamed k at hs n) ys (x ∷ r) → ModeFits (mode.RecordNamed k at hs n) fs → Good xs (x ∷ r) r (record_named k at hs n fs s)
  record_named_good records.Record at hs n symbols.MapsTo q e a f = want_good xs (x ∷ r) r (frame.Record records.Record at hs n) fs ys F (a.0, a.1, (a.2.0, a.2.1, (x ∷ r, a.2.2, (q, ap (λ y. y ∷ r) e)))) f h
  record_named_good records.Set at hs n symbols.Colon q e a f = want_good xs (x ∷ r) r (frame.Record records.Set at hs n) fs ys F (a.0, a.1, (a.2.0, a.2.1, (x ∷ r, a.2.2, (q, ap (λ y. y ∷ r) e)))) f h
  record_named_good k at hs n _ q e a f = tt

  fair_opened_good : (at : Place) (v : Tree) (s : Symbol) (q : Place) → x ≡ laid_symbol s q → ModeText (mode.FairOpen at v) ys (x ∷ r) → ModeFits (mode.FairOpen at v) fs → Good xs (x ∷ r) r (fair_opened at v fs s)
  fair_opened_good at v symbols.OpenParenthesis q e a f = want_good xs (x ∷ r) r (frame.FairBody at v) fs ys F (a.0, a.1, (x ∷ r, a.2, (q, ap (λ y. y ∷ r) e))) f h
  fair_opened_good at v _ q e a f = tt

  other_arrow_good : (at : Place) (arms : Arms) (s : Symbol) (q : Place) → x ≡ laid_symbol s q → ModeText (mode.OtherArrow at arms) ys (x ∷ r) → ModeFits (mode.OtherArrow at arms) fs → Good xs (x ∷ r) r (other_arrow at arms fs s)
  other_arrow_good at arms symbols.Arrow q e a f = want_good xs (x ∷ r) r (frame.CaseOther at arms) fs ys F (a.0, a.1, (a.2.0, a.2.1, (x ∷ r, a.2.2, (q, ap (λ y. y ∷ r) e)))) f h
  other_arrow_good at arms _ q e a f = tt

module _ (xs r : List Laid) (fs : List Frame) (ys : List Laid) (F : FramesText fs xs ys) (h : FramesFit fs) where
  list_started_good : (x : Laid) (b : Bullet) (at : Place) → ModeText (mode.ListStart b at) ys (x ∷ r) → Good xs (x ∷ r) r (list_started x b at fs)
  list_started_good (ListItem c p) b at a =
      one_of_two (Good xs (ListItem c p ∷ r) r) (same_bullet b c) _ Stops
      (λ i. want_good xs (ListItem c p ∷ r) r (frame.Junction b at NoTrees) fs ys F (ListItem c p ∷ r, a, (ListItem c p ∷ r, refl, (p, ap (λ y. ListItem y p ∷ r) (same_bullets b c i)))) tt h)
      (λ i. tt)
  list_started_good _ b at a = tt

  case_test_good : (x : Laid) (at : Place) (arms : Arms) → ModeText (mode.CaseNext at arms) ys (x ∷ r) → ArmsBeforeFit arms → Good xs (x ∷ r) r (begins x (frame.CaseTest at arms ∷ fs))
  case_test_good x at arms a f = begins_good xs r x (frame.CaseTest at arms ∷ fs) (ys, F, (a.0, a.1, some_arms arms a.0 (x ∷ r) a.2)) (f, h)

  case_next_good : (x : Laid) (at : Place) (arms : Arms) → ModeText (mode.CaseNext at arms) ys (x ∷ r) → ArmsBeforeFit arms → Good xs (x ∷ r) r (case_next x at arms fs)
  case_next_good (Plain t) at arms a f =
      one_of_two (Good xs (Plain t ∷ r) r) (is_other t.kind) _ _
      (λ i. ((ys, F, (a.0, a.1, (Plain t ∷ r, a.2, (t.place, ap (λ c. laid c t.place ∷ r) (other_kind t.kind i))))), h, f))
      (λ i. case_test_good (Plain t) at arms a f)
  case_next_good x at arms a f = case_test_good x at arms a f

-- what one token does keeps what is read right
pub reads_good : (xs r : List Laid) (x : Laid) (fs : List Frame) (m : Mode) (ys : List Laid) → FramesText fs xs ys → ModeText m ys (x ∷ r) → FramesFit fs → ModeFits m fs → Good xs (x ∷ r) r (step x fs m)
reads_good xs r x fs mode.Want ys F a h f = begins_good xs r x fs (subst (λ w. FramesText fs xs w) a F) h
reads_good xs r x fs (mode.Have d) ys F a h f = follows_good xs r x fs d ys F a h f.0 f.1
reads_good xs r x fs (mode.BoundName b ns) ys F a h f =
    on_name_good (Good xs (x ∷ r) r) x _ _
    (λ n p e. ((ys, F, (a.0, a.1, names_end ns n a.0 (x ∷ r) r a.2 (p, ap (λ y. y ∷ r) e))), h, f)) tt
reads_good xs r x fs (mode.BoundNamed b ns) ys F a h f =
    on_symbol_good (Good xs (x ∷ r) r) x _ _
    (λ s q e. bound_named_good xs r x fs ys F h b ns s q e a f) tt
reads_good xs r x fs (mode.BracketStart at) ys F a h f =
    on_name_good (Good xs (x ∷ r) r) x _ _
    (λ n p e. ((ys, F, (x ∷ r, a, ap (λ y. y ∷ r) e)), h, tt)) (begins_good xs r x (frame.Bracket at ∷ fs) (ys, F, a) (tt, h))
reads_good xs r x fs (mode.BracketName at n p) ys F a h f =
    on_symbol_good (Good xs (x ∷ r) r) x _ _
    (λ s q e. bracket_named_good xs r x fs ys F h at n p s q e a) (follows_good xs r x (frame.Bracket at ∷ fs) (tree.Name p n) a.0 (ys, F, a.1) a.2 (tt, h) tt tt)
reads_good xs r x fs (mode.BraceStart at) ys F a h f =
    on_name_good (Good xs (x ∷ r) r) x _ _
    (λ n p e. ((ys, F, (x ∷ r, a, ap (λ y. y ∷ r) e)), h, tt)) (on_symbol_good (Good xs (x ∷ r) r) x _ _
    (λ s q e. brace_started_good xs r x fs ys F h at s q e a) (begins_good xs r x (frame.Braces at NoTrees ∷ fs) (ys, F, (x ∷ r, a, refl)) (tt, h)))
reads_good xs r x fs (mode.BraceName at n p) ys F a h f =
    on_symbol_good (Good xs (x ∷ r) r) x _ _
    (λ s q e. brace_named_good xs r x fs ys F h at n p s q e a) (follows_good xs r x (frame.Braces at NoTrees ∷ fs) (tree.Name p n) a.0 (ys, F, (a.0, a.1, refl)) a.2 (tt, h) tt tt)
reads_good xs r x fs (mode.TupleStart at) ys F a h f =
    on_symbol_good (Good xs (x ∷ r) r) x _ _
    (λ s q e. tuple_started_good xs r x fs ys F h at s q e a) (begins_good xs r x (frame.Tuple at NoTrees ∷ fs) (ys, F, (x ∷ r, a, refl)) (tt, h))
reads_good xs r x fs (mode.ListStart b at) ys F a h f = list_started_good xs r fs ys F h x b at a
reads_good xs r x fs (mode.ChooseName at) ys F a h f =
    on_name_good (Good xs (x ∷ r) r) x _ _
    (λ n p e. ((ys, F, (x ∷ r, a, (p, ap (λ y. y ∷ r) e))), h, tt)) tt
reads_good xs r x fs (mode.ChooseNamed at n) ys F a h f =
    on_symbol_good (Good xs (x ∷ r) r) x _ _
    (λ s q e. choose_named_good xs r x fs ys F h at n s q e a) tt
reads_good xs r x fs (mode.DefinitionName c) ys F a h f =
    on_name_good (Good xs (x ∷ r) r) x _ _
    (λ n p e. ((ys, F, (x ∷ r, a, ap (λ y. y ∷ r) e)), h, f.0)) tt
reads_good xs r x fs (mode.DefinitionNamed c n p) ys F a h f =
    on_symbol_good (Good xs (x ∷ r) r) x _ _
    (λ s q e. definition_named_good xs r x fs ys F h c n p s q e a f) tt
reads_good xs r x fs (mode.Parameter c n p ns) ys F a h f =
    on_name_good (Good xs (x ∷ r) r) x _ _
    (λ m q e. ((ys, F, (a.0, a.1, (a.2.0, a.2.1, (a.2.2.0, a.2.2.1, names_end ns m a.2.2.0 (x ∷ r) r a.2.2.2 (q, ap (λ y. y ∷ r) e))))), h, f)) tt
reads_good xs r x fs (mode.ParameterNamed c n p ns) ys F a h f =
    on_symbol_good (Good xs (x ∷ r) r) x _ _
    (λ s q e. parameter_named_good xs r x fs ys F h c n p ns s q e a f) tt
reads_good xs r x fs (mode.DefinedAs c n p form) ys F a h f =
    on_symbol_good (Good xs (x ∷ r) r) x _ _
    (λ s q e. defined_as_good xs r x fs ys F h c n p form s q e a f) tt
reads_good xs r x fs (mode.ExceptMark at d cs) ys F a h f =
    on_symbol_good (Good xs (x ∷ r) r) x _ _
    (λ s q e. except_mark_good xs r x fs ys F h at d cs s q e a f) tt
reads_good xs r x fs (mode.ExceptPath at d cs ss) ys F a h f =
    on_symbol_good (Good xs (x ∷ r) r) x _ _
    (λ s q e. except_path_good xs r x fs ys F h at d cs ss s q e a f) tt
reads_good xs r x fs (mode.ExceptField at d cs ss o) ys F a h f =
    on_name_good (Good xs (x ∷ r) r) x _ _
    (λ n p e. ((ys, F, (a.1.0, a.1.1, (a.1.2.0, a.1.2.1, (a.0, a.1.2.2, (x ∷ r, a.2, (p, ap (λ y. y ∷ r) e)))))), h, (f.0, f.1, (f.2, tt), (f.3, tt)))) tt
reads_good xs r x fs (mode.FieldName d o) ys F a h f =
    on_name_good (Good xs (x ∷ r) r) x _ _
    (λ n p e. stepped_good xs (x ∷ r) r fs (with_step d o (tree.Field n)) ys F h (step_good d o (tree.Field n) ys a.0 r f.0 f.1 tt a.1 (x ∷ r, a.2, (p, ap (λ y. y ∷ r) e)))) tt
reads_good xs r x fs (mode.InstanceName at i) ys F a h f =
    on_name_good (Good xs (x ∷ r) r) x _ _
    (λ n p e. have_good xs (x ∷ r) r fs (tree.Qualified at (qualified i n) NoTrees) ys F (r, (i, n, refl, (a.0, a.1, (x ∷ r, a.2, (p, ap (λ y. y ∷ r) e)))), refl) h tt tt) tt
reads_good xs r x fs (mode.RecordName k at hs) ys F a h f =
    on_name_good (Good xs (x ∷ r) r) x _ _
    (λ n p e. one_of_two (Good xs (x ∷ r) r) (has_field n hs) Stops _ (λ i. tt) (λ i. ((ys, F, (a.0, a.1, (x ∷ r, a.2, (p, ap (λ y. y ∷ r) e)))), h, (f.0, f.1, is_new n hs i)))) tt
reads_good xs r x fs (mode.RecordNamed k at hs n) ys F a h f =
    on_symbol_good (Good xs (x ∷ r) r) x _ _
    (λ s q e. record_named_good xs r x fs ys F h k at hs n s q e a f) tt
reads_good xs r x fs (mode.SubscriptStart k at d) ys F a h f = subscript_good xs r x (frame.Subscript k at d ∷ fs) (ys, F, a) (f, h)
reads_good xs r x fs (mode.FairStart at) ys F a h f = subscript_good xs r x (frame.FairSubscript at ∷ fs) (ys, F, a) (tt, h)
reads_good xs r x fs (mode.FairOpen at v) ys F a h f =
    on_symbol_good (Good xs (x ∷ r) r) x _ _
    (λ s q e. fair_opened_good xs r x fs ys F h at v s q e a f) tt
reads_good xs r x fs (mode.CaseNext at arms) ys F a h f = case_next_good xs r fs ys F h x at arms a f
reads_good xs r x fs (mode.OtherArrow at arms) ys F a h f =
    on_symbol_good (Good xs (x ∷ r) r) x _ _
    (λ s q e. other_arrow_good xs r x fs ys F h at arms s q e a f) tt
