-- The reader goes over the text of what is expected, up to the end of all tokens: there it expects that, or something of no more rows.
use Rattle.std.proofs.Common.{◌≡◌, ℕ, ◌≤◌, Bool, true, List, [], ◌∷◌, refl, sym, ap, subst, ◌∙◌, arith}
use Rattle.std.specs.Prelude.{if◌then◌else◌}
use Rattle.base_core.specs.declared.place.Place.{Place}
use Rattle.reading_trees.specs.declared.laid.Laid.{Laid}
use Rattle.reading_tokens.specs.declared.token.Kind.TheVariants as kinds
use Rattle.reading_tokens.specs.declared.token.Word.{Word}
use Rattle.reading_tokens.specs.declared.token.Word.TheVariants as words
use Rattle.reading_tokens.specs.declared.token.Symbol.{Symbol}
use Rattle.reading_tokens.specs.declared.token.Symbol.TheVariants as symbols
use Rattle.reading_trees.specs.Fits.{LeftAbove}
use Rattle.reading_trees.specs.Grammar.{NamesBefore, NamesText, IsNew}
use Rattle.reading_trees.specs.Trees as tree
use Rattle.reading_trees.specs.Trees.{NoTrees, MoreTrees, Bounds, NoBounds, MoreBounds, Fields, NoFields, MoreFields, NoArms, MoreArms, Definitions, NoDefinitions, MoreDefinitions}
use Rattle.reading_machine.specs.declared.frame.Action.TheVariants as actions
use Rattle.reading_machine.specs.declared.frame.Binder.{Binder}
use Rattle.reading_machine.specs.declared.frame.Binder.TheVariants as binders
use Rattle.reading_machine.specs.declared.frame.Form.{Form}
use Rattle.reading_machine.specs.declared.frame.Form.TheVariants as forms
use Rattle.reading_machine.specs.declared.frame.Scope.{Scope}
use Rattle.reading_machine.specs.declared.frame.Scope.TheVariants as scopes
use Rattle.reading_machine.specs.declared.frame.RecordKind.{RecordKind}
use Rattle.reading_machine.specs.declared.frame.Frame.{Frame}
use Rattle.reading_machine.specs.declared.frame.Frame.TheVariants as frame
use Rattle.reading_machine.specs.declared.frame.Mode.{Mode}
use Rattle.reading_machine.specs.declared.frame.Mode.TheVariants as mode
use Rattle.reading_machine.specs.Machine.{Reads, Stops}
use Rattle.reading_open_rows.specs.Unfinished.{of_mode, unfinished}
use Rattle.reading_machine.specs.OpenFits.{ModeStands, in_mode, ModeFits, Outermost}
use Rattle.reading_machine.specs.OpenRows.{ModeText}
use Rattle.reading_machine.proofs.Edges.{operand_left}
use Rattle.reading_machine.proofs.FittingEnds.{first_mode}
use Rattle.reading_expressions.proofs.ReadingBrackets.{fields_go, except_mark_goes, path_goes, box_goes, angle_goes}
use Rattle.reading_expressions.proofs.ReadingFrames.{ready_subscript, operand_fresh, instance_fresh}
use Rattle.reading_expressions.proofs.ReadingLike.{Like, ready, scope_stands, binder_stands}
use Rattle.reading_expressions.proofs.ReadingRows.{operand_goes, fair_open_goes}
use Rattle.reading_expressions.proofs.ReadingScopes.{ScopeStands, form_mode, form_read, bound_names_before, bound_names, parameters_before, parameters, bounds_state, named_goes, binder_goes}
use Rattle.reading_expressions.proofs.ReadingStarts.{Ready, top_all, Fresh, enter, enters_fresh, enters_by, enters_tuple}
use Rattle.reading_expressions.proofs.ReadingWords.{choose_named_goes, case_next_goes, other_goes}
use Rattle.reading_machine.proofs.Runner.{Runner, after, run}
use Rattle.reading_machine.proofs.RunsBounds.{binding}
use Rattle.reading_machine.proofs.RunsBrackets.{is_special, fields_state, new_field}
use Rattle.reading_machine.proofs.RunsParts.{plain}
use Rattle.reading_machine.proofs.RunsStarts.{OpenKind, Clear}

module _ (reader : Runner) where
  -- what was told is told at the end, where no more is unfinished than where this is expected in these rows
  pub record Ended (told : reader.Told) (gs : List Frame) (m : Mode) : Type 0 where
    pub rows : List Frame
    pub expects : Mode
    pub runs : told ≡ reader.ends rows expects
    pub count : unfinished rows expects ≤ unfinished gs m

  -- that itself is expected
  here : (told : reader.Told) (gs : List Frame) (m : Mode) → told ≡ reader.ends gs m → Ended told gs m
  here told gs m q = record { rows = gs; expects = m; runs = q; count = omega arith }

  -- another is expected, which counts no more
  instead : (told : reader.Told) (gs : List Frame) (m n : Mode) → told ≡ reader.ends gs n → of_mode n ≤ of_mode m → Ended told gs m
  instead told gs m n q c = record { rows = gs; expects = n; runs = q; count = omega (arith, c) }

  earlier : (told before : reader.Told) (gs : List Frame) (m : Mode) → told ≡ before → Ended before gs m → Ended told gs m
  earlier told before gs m q e = record { rows = e.rows; expects = e.expects; runs = q ∙ e.runs; count = e.count }

  -- ---- names in a binder

  name_ended : (c : Binder) (bs : Bounds) (ns : List (List ℕ)) (gs : List Frame) (xs : List Laid) → NamesBefore ns xs [] → Ended (bounds_state reader c bs gs xs) gs (mode.BoundName (binding c bs) ns)
  name_ended (binders.Function at) NoBounds [] gs xs h =
      instead _ gs (mode.BoundName (binding (binders.Function at) NoBounds) []) (mode.BracketStart at) (ap (λ v. run reader v gs (mode.BracketStart at)) h) (omega arith)
  name_ended (binders.Function at) NoBounds (n ∷ ns) gs xs h =
      here _ gs _ (ap (λ v. run reader v gs (mode.BracketStart at)) h.1.1 ∙ ap (λ v. run reader v gs (mode.BracketName at n h.1.0)) h.2.1.1
      ∙ bound_names_before reader (binders.Function at) NoBounds (n ∷ []) ns gs h.2.0 [] h.2.2)
  name_ended (binders.Function at) (MoreBounds bs us s) ns gs xs h = here _ gs _ (bound_names_before reader (binders.Function at) (MoreBounds bs us s) [] ns gs xs [] h)
  name_ended c bs ns gs xs h = here _ gs _ (bound_names_before reader c bs [] ns gs xs [] h)

  named_ended : (c : Binder) (bs : Bounds) (ns : List (List ℕ)) (gs : List Frame) (xs : List Laid) → NamesText ns xs [] → Ended (bounds_state reader c bs gs xs) gs (mode.BoundNamed (binding c bs) ns)
  named_ended (binders.Function at) NoBounds [] gs xs h = absurd h
  named_ended (binders.Function at) NoBounds (n ∷ []) gs xs h =
      instead _ gs (mode.BoundNamed (binding (binders.Function at) NoBounds) (n ∷ [])) (mode.BracketName at n h.0) (ap (λ v. run reader v gs (mode.BracketStart at)) h.1) (omega arith)
  named_ended (binders.Function at) NoBounds (n ∷ o ∷ ns) gs xs h =
      here _ gs _ (ap (λ v. run reader v gs (mode.BracketStart at)) h.1.1 ∙ ap (λ v. run reader v gs (mode.BracketName at n h.1.0)) h.2.1.1
      ∙ bound_names reader (binders.Function at) NoBounds (n ∷ []) (o ∷ ns) gs h.2.0 [] h.2.2)
  named_ended (binders.Function at) (MoreBounds bs us s) ns gs xs h = here _ gs _ (bound_names reader (binders.Function at) (MoreBounds bs us s) [] ns gs xs [] h)
  named_ended c bs ns gs xs h = here _ gs _ (bound_names reader c bs [] ns gs xs [] h)

  -- ---- records

  field_ended : (k : RecordKind) (at : Place) (hs : Fields) (gs : List Frame) → Ended (fields_state reader k at hs gs []) gs (mode.RecordName k at hs)
  field_ended k at NoFields gs = instead _ gs (mode.RecordName k at NoFields) (mode.BracketStart at) refl (omega arith)
  field_ended k at (MoreFields hs n e) gs = here _ gs (mode.RecordName k at (MoreFields hs n e)) refl

  field_named : (k : RecordKind) (at : Place) (hs : Fields) (n : List ℕ) → IsNew n hs → (gs : List Frame) (p : Place) (xs : List Laid) → xs ≡ plain (kinds.Name n) p ∷ [] → Ended (fields_state reader k at hs gs xs) gs (mode.RecordNamed k at hs n)
  field_named k at NoFields n i gs p xs h = instead _ gs (mode.RecordNamed k at NoFields n) (mode.BracketName at n p) (ap (λ v. run reader v gs (mode.BracketStart at)) h) (omega arith)
  field_named k at (MoreFields hs o e) n i gs p xs h =
      here _ gs (mode.RecordNamed k at (MoreFields hs o e) n) (ap (λ v. run reader v gs (mode.RecordName k at (MoreFields hs o e))) h
      ∙ ap (λ b. after reader (if b then Stops else Reads gs (mode.RecordNamed k at (MoreFields hs o e) n)) (plain (kinds.Name n) p ∷ []) (run reader [])) (new_field n (MoreFields hs o e) i))

  -- ---- definitions

  form_ended : (s : Scope) (n : List ℕ) (p : Place) (form : Form) (gs : List Frame) (told : reader.Told) → told ≡ reader.ends gs (form_mode s n p form) → Ended told gs (mode.DefinedAs s n p form)
  form_ended s n p (forms.Operator []) gs told q = instead told gs (mode.DefinedAs s n p (forms.Operator [])) (mode.DefinitionNamed s n p) q (omega arith)
  form_ended s n p (forms.Operator (m ∷ ns)) gs told q = here told gs (mode.DefinedAs s n p (forms.Operator (m ∷ ns))) q
  form_ended s n p (forms.Function at bs) gs told q = here told gs (mode.DefinedAs s n p (forms.Function at bs)) q

-- ---- behind the rows around

module _ (reader : Runner) (unit : Bool) where
  want_ended : (gs : List Frame) → Ready unit gs → Ended reader (enter reader unit [] gs) gs mode.Want
  want_ended [] r = here reader _ [] mode.Want (ap (λ u. reader.ends [] (first_mode u)) r)
  want_ended (frame.Bracket at ∷ gs) r = record { rows = gs; expects = mode.BracketStart at; runs = refl; count = omega arith }
  want_ended (frame.Braces at NoTrees ∷ gs) r = record { rows = gs; expects = mode.BraceStart at; runs = refl; count = omega arith }
  want_ended (frame.Braces at (MoreTrees es e) ∷ gs) r = here reader _ (frame.Braces at (MoreTrees es e) ∷ gs) mode.Want refl
  want_ended (frame.Tuple at NoTrees ∷ gs) r = record { rows = gs; expects = mode.TupleStart at; runs = refl; count = omega arith }
  want_ended (frame.Tuple at (MoreTrees es e) ∷ gs) r = here reader _ (frame.Tuple at (MoreTrees es e) ∷ gs) mode.Want refl
  want_ended (frame.CaseTest at NoArms ∷ gs) r = here reader _ (frame.CaseTest at NoArms ∷ gs) mode.Want refl
  want_ended (frame.CaseTest at (MoreArms arms p e) ∷ gs) r = record { rows = gs; expects = mode.CaseNext at (MoreArms arms p e); runs = refl; count = omega arith }
  want_ended (frame.Subscript k at e ∷ gs) r = absurd r
  want_ended (frame.FairSubscript at ∷ gs) r = absurd r
  want_ended (f ∷ gs) r = here reader _ (f ∷ gs) mode.Want refl

  module _ (fs gs : List Frame) (l : Like unit fs gs) where
    abbrev At : Mode → List Laid → Type 0
    At m xs = Ended reader (enter reader unit xs gs) gs m

    itself : (m : Mode) (xs : List Laid) → enter reader unit xs gs ≡ reader.ends gs m → At m xs
    itself m xs q = here reader _ gs m q

    by_symbol : Ready unit gs → (s : Symbol) (at : Place) (xs zs : List Laid) → xs ≡ plain (kinds.Symbol s) at ∷ zs → OpenKind (kinds.Symbol s) → enter reader unit xs gs ≡ run reader xs gs mode.Want
    by_symbol r s at xs zs h o = enters_by reader unit gs r (kinds.Symbol s) at xs zs h o tt

    by_word : Ready unit gs → (w : Word) (at : Place) (xs zs : List Laid) → xs ≡ plain (kinds.Word w) at ∷ zs → OpenKind (kinds.Word w) → enter reader unit xs gs ≡ run reader xs gs mode.Want
    by_word r w at xs zs h o = enters_by reader unit gs r (kinds.Word w) at xs zs h o tt

    definition_ended : (at : Place) (ds : Definitions) → ds ≡ NoDefinitions → Ready unit gs → (xs : List Laid) → ModeText (mode.DefinitionName (scopes.Let at ds)) xs [] → At (mode.DefinitionName (scopes.Let at ds)) xs
    definition_ended at NoDefinitions q r xs h =
        itself (mode.DefinitionName (scopes.Let at NoDefinitions)) xs (enters_by reader unit gs r (kinds.Word words.Let) at xs h.0 h.1 refl tt
        ∙ ap (λ v. run reader v gs mode.Want) h.1 ∙ ap (λ v. run reader v gs (mode.DefinitionName (scopes.Let at NoDefinitions))) h.2)
    definition_ended at (MoreDefinitions ds n p ns form e) q r xs h = absurd (let v : MoreDefinitions ds n p ns form e ≡ NoDefinitions = q in cc)

    unit_ended : gs ≡ [] → unit ≡ true → (xs : List Laid) → xs ≡ [] → At (mode.DefinitionName scopes.Unit) xs
    unit_ended q u xs h =
        record {
          rows = [];
          expects = mode.DefinitionName scopes.Unit;
          runs = ap (λ g. enter reader unit xs g) q ∙ ap (λ v. run reader v [] (first_mode unit)) h ∙ ap (λ v. reader.ends [] (first_mode v)) u;
          count = omega arith;
        }

    pub mode_ended : (m : Mode) → ModeFits m fs → ModeStands m fs → Outermost unit fs (in_mode m) → (xs : List Laid) → ModeText m xs [] → At m xs
    mode_ended mode.Want f d o xs h = earlier reader _ _ gs mode.Want (ap (λ v. enter reader unit v gs) h) (want_ended gs (ready unit fs gs l d o))
    mode_ended (mode.Have e) f d o xs h =
        let r = ready unit fs gs l d o in
        itself (mode.Have e) xs (enters_fresh reader unit gs r xs (operand_fresh e f.0 xs [] h tt) ∙ operand_goes reader e f.0 f.1 gs (top_all unit gs r (λ v. LeftAbove v e) (λ v. operand_left v e f.0)) xs [] h)
    mode_ended (mode.BoundName b ns) f d o xs h =
        earlier reader _ _ gs (mode.BoundName b ns) (binder_goes reader unit b.binder b.bounds f.1 gs (binder_stands unit b.binder fs gs l f.0 d o) xs h.0 h.1) (name_ended reader b.binder b.bounds ns gs h.0 h.2)
    mode_ended (mode.BoundNamed b ns) f d o xs h =
        earlier reader _ _ gs (mode.BoundNamed b ns) (binder_goes reader unit b.binder b.bounds f.1 gs (binder_stands unit b.binder fs gs l f.0 d o) xs h.0 h.1) (named_ended reader b.binder b.bounds ns gs h.0 h.2)
    mode_ended (mode.BracketStart at) f d o xs h = itself (mode.BracketStart at) xs (by_symbol (ready unit fs gs l d o) symbols.OpenBracket at xs [] h refl ∙ ap (λ v. run reader v gs mode.Want) h)
    mode_ended (mode.BracketName at n p) f d o xs h =
        itself (mode.BracketName at n p) xs (by_symbol (ready unit fs gs l d o) symbols.OpenBracket at xs h.0 h.1 refl ∙ ap (λ v. run reader v gs mode.Want) h.1 ∙ ap (λ v. run reader v gs (mode.BracketStart at)) h.2)
    mode_ended (mode.BraceStart at) f d o xs h = itself (mode.BraceStart at) xs (by_symbol (ready unit fs gs l d o) symbols.OpenBrace at xs [] h refl ∙ ap (λ v. run reader v gs mode.Want) h)
    mode_ended (mode.BraceName at n p) f d o xs h =
        itself (mode.BraceName at n p) xs (by_symbol (ready unit fs gs l d o) symbols.OpenBrace at xs h.0 h.1 refl ∙ ap (λ v. run reader v gs mode.Want) h.1 ∙ ap (λ v. run reader v gs (mode.BraceStart at)) h.2)
    mode_ended (mode.TupleStart at) f d o xs h = itself (mode.TupleStart at) xs (enters_tuple reader unit gs (l.inner o) at xs [] h)
    mode_ended (mode.ListStart b at) f d o xs h = itself (mode.ListStart b at) xs (enters_fresh reader unit gs (ready unit fs gs l d o) xs (subst Fresh (sym h) (tt, tt)) ∙ ap (λ v. run reader v gs mode.Want) h)
    mode_ended (mode.ChooseName at) f d o xs h = itself (mode.ChooseName at) xs (by_word (ready unit fs gs l d o) words.Choose at xs [] h refl ∙ ap (λ v. run reader v gs mode.Want) h)
    mode_ended (mode.ChooseNamed at n) f d o xs h = itself (mode.ChooseNamed at n) xs (by_word (ready unit fs gs l d o) words.Choose at xs h.0 h.1 refl ∙ choose_named_goes reader at n gs xs [] h)
    mode_ended (mode.DefinitionName (scopes.Let at ds)) f d o xs h = definition_ended at ds f.1 (ready unit fs gs l d o) xs h
    mode_ended (mode.DefinitionName scopes.Unit) f d o xs h = let s : ScopeStands unit scopes.Unit gs = scope_stands unit scopes.Unit fs gs l f.0 d o in unit_ended s.0 s.1 xs h
    mode_ended (mode.DefinitionNamed s n p) f d o xs h = itself (mode.DefinitionNamed s n p) xs (named_goes reader unit s n p gs (scope_stands unit s fs gs l f d o) xs [] h)
    mode_ended (mode.Parameter s n p ns) f d o xs h =
        itself (mode.Parameter s n p ns) xs (named_goes reader unit s n p gs (scope_stands unit s fs gs l f d o) xs h.2.0 (h.0, h.1, h.2.1)
        ∙ ap (λ v. run reader v gs (mode.DefinitionNamed s n p)) h.2.2.1.1 ∙ parameters_before reader s n p ns gs h.2.2.0 [] h.2.2.2)
    mode_ended (mode.ParameterNamed s n p ns) f d o xs h =
        itself (mode.ParameterNamed s n p ns) xs (named_goes reader unit s n p gs (scope_stands unit s fs gs l f d o) xs h.2.0 (h.0, h.1, h.2.1)
        ∙ ap (λ v. run reader v gs (mode.DefinitionNamed s n p)) h.2.2.1.1 ∙ parameters reader s n p ns gs h.2.2.0 [] h.2.2.2)
    mode_ended (mode.DefinedAs s n p form) f d o xs h =
        form_ended reader s n p form gs _ (named_goes reader unit s n p gs (scope_stands unit s fs gs l f.0 d o) xs h.2.0 (h.0, h.1, h.2.1) ∙ form_read reader s n p form f.1 gs h.2.0 [] h.2.2)
    mode_ended (mode.ExceptMark at e cs) f d o xs h =
        itself (mode.ExceptMark at e cs) xs (by_symbol (ready unit fs gs l d o) symbols.OpenBracket at xs h.0 h.1 refl ∙ except_mark_goes reader at e cs f.0 f.1 gs xs [] h)
    mode_ended (mode.ExceptPath at e cs ss) f d o xs h =
        itself (mode.ExceptPath at e cs ss) xs (by_symbol (ready unit fs gs l d o) symbols.OpenBracket at xs h.1.0 h.1.1 refl ∙ path_goes reader at e cs ss f.0 f.1 f.2 f.3 gs xs [] h)
    mode_ended (mode.ExceptField at e cs ss q) f d o xs h =
        itself (mode.ExceptField at e cs ss q) xs (by_symbol (ready unit fs gs l d o) symbols.OpenBracket at xs h.1.1.0 h.1.1.1 refl ∙ path_goes reader at e cs ss f.0 f.1 f.2 f.3 gs xs h.0 h.1 ∙ ap (λ v. run reader v gs (mode.ExceptPath at e cs ss)) h.2)
    mode_ended (mode.FieldName e q) f d o xs h =
        let r = ready unit fs gs l d o in
        itself (mode.FieldName e q) xs (enters_fresh reader unit gs r xs (operand_fresh e f.0 xs h.0 h.1 (subst (Clear is_special) (sym h.2) refl))
        ∙ operand_goes reader e f.0 f.1 gs (top_all unit gs r (λ v. LeftAbove v e) (λ v. operand_left v e f.0)) xs h.0 h.1 ∙ ap (λ v. run reader v gs (mode.Have e)) h.2)
    mode_ended (mode.InstanceName at i) f d o xs h =
        itself (mode.InstanceName at i) xs (enters_fresh reader unit gs (ready unit fs gs l d o) xs (instance_fresh i at h.2.0 xs h.0 [] h.1 h.2.1)
        ∙ ap (λ v. run reader v gs mode.Want) h.1 ∙ ap (λ v. run reader v gs (mode.Have (tree.Name at i))) h.2.1)
    mode_ended (mode.RecordName k at hs) f d o xs h =
        earlier reader _ _ gs (mode.RecordName k at hs) (by_symbol (ready unit fs gs l d o) symbols.OpenBracket at xs h.0 h.1 refl ∙ fields_go reader k at hs f.0 f.1 gs xs [] h) (field_ended reader k at hs gs)
    mode_ended (mode.RecordNamed k at hs n) f d o xs h =
        earlier reader _ _ gs (mode.RecordNamed k at hs n) (by_symbol (ready unit fs gs l d o) symbols.OpenBracket at xs h.0 h.1 refl ∙ fields_go reader k at hs f.0 f.1 gs xs h.2.0 (h.0, h.1, h.2.1))
        (field_named reader k at hs n f.2 gs h.2.2.0 h.2.0 h.2.2.1)
    mode_ended (mode.SubscriptStart actions.Box e v) f d o xs h = itself (mode.SubscriptStart actions.Box e v) xs (by_symbol (ready unit fs gs l d o) symbols.OpenBracket e xs h.0 h.1 refl ∙ box_goes reader e v f gs xs [] h)
    mode_ended (mode.SubscriptStart actions.Angle e v) f d o xs h =
        let r = ready unit fs gs l d o in
        itself (mode.SubscriptStart actions.Angle e v) xs (by_symbol r symbols.OpenTuple e xs h.0 h.1 refl ∙ angle_goes reader e v f gs (ready_subscript unit gs r) xs [] h)
    mode_ended (mode.FairStart at) f d o xs h = itself (mode.FairStart at) xs (enters_by reader unit gs (ready unit fs gs l d o) kinds.Fair at xs [] h tt tt ∙ ap (λ v. run reader v gs mode.Want) h)
    mode_ended (mode.FairOpen at v) f d o xs h = itself (mode.FairOpen at v) xs (enters_by reader unit gs (ready unit fs gs l d o) kinds.Fair at xs h.0 h.1 tt tt ∙ fair_open_goes reader at v f.0 f.1 gs xs [] h)
    mode_ended (mode.CaseNext at arms) f d o xs h = itself (mode.CaseNext at arms) xs (by_word (ready unit fs gs l d o) words.Case at xs h.0 h.1 refl ∙ case_next_goes reader at arms f gs xs [] h)
    mode_ended (mode.OtherArrow at arms) f d o xs h = itself (mode.OtherArrow at arms) xs (by_word (ready unit fs gs l d o) words.Case at xs h.0 h.1 refl ∙ other_goes reader at arms f gs xs [] h)
