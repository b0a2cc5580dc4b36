-- What was read before the reader of a unit's definition stops is the beginning of one.
use Rattle.std.proofs.Common.{◌≡◌, ◌⊎◌, ℕ, List, [], ◌∷◌, ◌++◌, append_assoc, inl, inr, refl, sym, ap, subst, ◌∙◌}
use Rattle.std.proofs.lemmas.List.{append-nil}
use Rattle.base_core.specs.declared.place.Place.{Place}
use Rattle.reading_trees.specs.declared.form.DefinitionForm.{DefinitionForm}
use Rattle.reading_trees.specs.declared.form.DefinitionForm.TheVariants as definition_forms
use Rattle.reading_trees.specs.declared.laid.Laid.{Laid}
use Rattle.reading_tokens.specs.declared.token.Kind.TheVariants as kinds
use Rattle.reading_tokens.specs.declared.token.Symbol.TheVariants as symbols
use Rattle.reading_trees.specs.Begun.{Begun}
use Rattle.reading_trees.specs.Grammar.{Text}
use Rattle.reading_trees.specs.Trees as tree
use Rattle.reading_trees.specs.Trees.{Tree, Bounds, MoreBounds}
use Rattle.reading_machine.specs.Beginnings.{DefinitionText, BegunDefinition}
use Rattle.reading_machine.specs.LawsOfDefinitions.{DefinitionStoppedBegun, DefinitionClashedBegun, DefinitionEndsBegun, DefinitionRanBegun}
use Rattle.reading_machine.specs.declared.frame.Scope.{Scope}
use Rattle.reading_machine.specs.declared.frame.Scope.TheVariants as scopes
use Rattle.reading_machine.specs.declared.frame.Binder.{Binder}
use Rattle.reading_machine.specs.declared.frame.Binder.TheVariants as binders
use Rattle.reading_machine.specs.declared.frame.Binding.{Binding}
use Rattle.reading_machine.specs.declared.frame.Form.{Form}
use Rattle.reading_machine.specs.declared.frame.Form.TheVariants as forms
use Rattle.reading_machine.specs.declared.frame.Frame.{Frame}
use Rattle.reading_machine.specs.declared.frame.Frame.TheVariants as frame
use Rattle.reading_machine.specs.declared.frame.Mode.{Mode}
use Rattle.reading_machine.specs.declared.frame.Mode.TheVariants as mode
use Rattle.reading_machine.specs.Machine.{Reads, Clashes, parameters_of, form_of, body_of, step, StopsAt, ClashesAt, EndsDefinitionAt}
use Rattle.reading_machine.specs.OpenRows.{FrameText}
use Rattle.reading_machine.proofs.Flat as flat
use Rattle.reading_machine.proofs.FlatStates.{rows, expected, Same}
use Rattle.reading_machine.proofs.FlatSteps.{Goes, steps_same}
use Rattle.reading_machine.proofs.Finishing.{State, Finish, finish}
use Rattle.reading_machine.proofs.OpenEnds.{Ending, start, one, one_tree, a_kind, a_sign}
use Rattle.reading_machine.proofs.Opened.{Opened, Good}
use Rattle.reading_machine.proofs.Paths.{Path, Reach, reach, reach_clashes, All, all_read, read_before}
use Rattle.reading_machine.proofs.Closing.{definition_rest}
use Rattle.reading_machine.proofs.RefusalsBegun.{begun, path_state, first_state}
use Rattle.reading_machine.proofs.Stepping.{reads_good}
use Rattle.reading_machine.proofs.UniqueSpans.{Front, tree_local}
use Rattle.reading_machine.proofs.DefinitionStates.{OfUnit, BindsUnit, InHead, IsBottom, Head, Inside, Reached, ClashesOver, definition_reached, clash_inside}

-- ---- runs along paths

-- ---- ends

record DefinitionEnding (xs : List Laid) : Type 0 where
  name : List ℕ
  at : Place
  parameters : List (List ℕ)
  form : DefinitionForm
  body : Tree
  text : DefinitionText name at parameters form body xs []

-- the text of the row at the bottom, and then that of an expression
body_ends : (s : Scope) (n : List ℕ) (p : Place) (form : Form) (e : Tree) (xs ys : List Laid) → OfUnit s → FrameText (frame.DefinitionBody s n p form) xs ys → Text e ys [] → DefinitionEnding xs
body_ends (scopes.Let at ds) n p form e xs ys u f t = absurd u
body_ends scopes.Unit n p form e xs ys u f t =
    record {
      name = n;
      at = p;
      parameters = parameters_of form;
      form = form_of form;
      body = body_of form e;
      text = (f.2.0, f.1 ∙ f.2.1, definition_rest form e f.2.0 f.2.2.0 ys [] f.2.2.1 f.2.2.2 t);
    }

-- what ends a function behind the last of its bounds
abbrev bounds_end : List Laid
bounds_end = a_sign symbols.CloseBracket ∷ a_sign symbols.Defined ∷ one ∷ []

bound_ends : (c : Binder) (bs : Bounds) (ns : List (List ℕ)) (e : Tree) (xs ys : List Laid) → BindsUnit c → FrameText (frame.BoundSet (record { binder = c; bounds = bs }) ns) xs ys → Text e ys bounds_end → DefinitionEnding xs
bound_ends (binders.Defined (scopes.Let at ds) n p q) bs ns e xs ys u f t = absurd u
bound_ends (binders.Defined scopes.Unit n p q) bs ns e xs ys u f t =
    let a = f.1 in
    let c = a.1 in
    record {
      name = n;
      at = p;
      parameters = [];
      form = definition_forms.Function;
      body = tree.Function q (MoreBounds bs ns e) one_tree;
      text = (
        c.2.0,
        c.1 ∙ c.2.1,
        (
          refl,
          (
            a.0,
            c.2.2,
            (
              bounds_end,
              (f.0, a.2, (f.2.0, f.2.1, (ys, f.2.2, t))),
              (a_sign symbols.Defined ∷ one ∷ [], (start, refl), (one ∷ [], (start, refl), refl)),
            ),
          ),
        ),
      );
    }
bound_ends _ bs ns e xs ys u f t = absurd u

-- a text that was begun behind the beginning of the row goes on to the end of the definition
pub row_begun : (row : Frame) (before inner : List Laid) → IsBottom row → ((r : List Laid) → FrameText row (before ++ r) r) → Begun inner → BegunDefinition (before ++ inner)
row_begun (frame.DefinitionBody s n p form) before inner i f b =
    let d : DefinitionEnding (before ++ (inner ++ b.rest)) = body_ends s n p form b.tree (before ++ (inner ++ b.rest)) (inner ++ b.rest) i (f (inner ++ b.rest)) b.whole in
    record {
      name = d.name;
      at = d.at;
      parameters = d.parameters;
      form = d.form;
      body = d.body;
      rest = b.rest;
      whole = subst (λ v. DefinitionText d.name d.at d.parameters d.form d.body v []) (sym (append_assoc before inner b.rest)) d.text;
    }
row_begun (frame.BoundSet c ns) before inner i f b =
    let t : Front (Text b.tree) (inner ++ b.rest) [] = tree_local b.tree (inner ++ b.rest) [] b.whole in
    let r : List Laid = b.rest ++ bounds_end in
    let k : t.front ++ bounds_end ≡ inner ++ r = ap (λ v. v ++ bounds_end) (sym (append-nil t.front) ∙ sym t.here) ∙ append_assoc inner b.rest bounds_end in
    let d : DefinitionEnding (before ++ (inner ++ r)) =
    bound_ends c.binder c.bounds ns b.tree (before ++ (inner ++ r)) (inner ++ r) i (f (inner ++ r)) (subst (λ v. Text b.tree v bounds_end) k (t.anywhere bounds_end)) in
    record {
      name = d.name;
      at = d.at;
      parameters = d.parameters;
      form = d.form;
      body = d.body;
      rest = r;
      whole = subst (λ v. DefinitionText d.name d.at d.parameters d.form d.body v []) (sym (append_assoc before inner r)) d.text;
    }
row_begun _ before inner i f b = absurd i

-- ---- the ends of a head

abbrev HeadFinish : List Frame → Mode → Type 0
HeadFinish fs m = (c : List Laid) × ((xs : List Laid) → Opened xs fs m c → DefinitionEnding xs)

by_token : (x : Laid) (fs : List Frame) (m : Mode) (gs : List Frame) (n : Mode) → step x fs m ≡ Reads gs n → HeadFinish gs n → HeadFinish fs m
by_token x fs m gs n q f = (x ∷ f.0, λ xs s. f.1 xs (subst (λ v. Good xs (x ∷ f.0) f.0 v) q (reads_good xs f.0 x fs m s.0.0 s.0.1 s.0.2 s.1 s.2)))

-- the last expression of a definition
body_finish : (n : List ℕ) (p : Place) (form : Form) → HeadFinish (frame.DefinitionBody scopes.Unit n p form ∷ []) mode.Want
body_finish n p form =
    (one ∷ [], λ xs s. body_ends scopes.Unit n p form one_tree xs s.0.0 tt (subst (λ v. FrameText (frame.DefinitionBody scopes.Unit n p form) v s.0.0) (sym s.0.1.1) s.0.1.2) s.0.2)

defined_finish : (n : List ℕ) (p : Place) (form : Form) → HeadFinish [] (mode.DefinedAs scopes.Unit n p form)
defined_finish n p form =
    by_token (a_sign symbols.Defined) [] (mode.DefinedAs scopes.Unit n p form) (frame.DefinitionBody scopes.Unit n p form ∷ []) mode.Want refl (body_finish n p form)

named_finish : (n : List ℕ) (p : Place) → HeadFinish [] (mode.DefinitionNamed scopes.Unit n p)
named_finish n p =
    by_token (a_sign symbols.Defined) [] (mode.DefinitionNamed scopes.Unit n p) (frame.DefinitionBody scopes.Unit n p (forms.Operator []) ∷ []) mode.Want refl (body_finish n p (forms.Operator []))

parameter_finish : (n : List ℕ) (p : Place) (ns : List (List ℕ)) → HeadFinish [] (mode.ParameterNamed scopes.Unit n p ns)
parameter_finish n p ns =
    by_token (a_sign symbols.CloseParenthesis) [] (mode.ParameterNamed scopes.Unit n p ns) [] (mode.DefinedAs scopes.Unit n p (forms.Operator ns)) refl (defined_finish n p (forms.Operator ns))

abbrev a_name : Laid
a_name = a_kind (kinds.Name [])

bound_finish : (n : List ℕ) (p q : Place) (bs : Bounds) (ns : List (List ℕ)) → HeadFinish [] (mode.BoundNamed (record { binder = binders.Defined scopes.Unit n p q; bounds = bs }) ns)
bound_finish n p q bs ns =
    let b : Binding = record { binder = binders.Defined scopes.Unit n p q; bounds = bs } in
    let form = forms.Function q (MoreBounds bs ns one_tree) in
    by_token (a_sign symbols.Member) [] (mode.BoundNamed b ns) (frame.BoundSet b ns ∷ []) mode.Want refl
    (by_token one (frame.BoundSet b ns ∷ []) mode.Want (frame.BoundSet b ns ∷ []) (mode.Have one_tree) refl
    (by_token (a_sign symbols.CloseBracket) (frame.BoundSet b ns ∷ []) (mode.Have one_tree) [] (mode.DefinedAs scopes.Unit n p form) refl (defined_finish n p form)))

binder_finish : (c : Binder) (bs : Bounds) (ns : List (List ℕ)) → BindsUnit c → HeadFinish [] (mode.BoundNamed (record { binder = c; bounds = bs }) ns)
binder_finish (binders.Defined (scopes.Let at ds) n p q) bs ns u = absurd u
binder_finish (binders.Defined scopes.Unit n p q) bs ns u = bound_finish n p q bs ns
binder_finish _ bs ns u = absurd u

head_finish : (m : Mode) → InHead m → HeadFinish [] m
head_finish (mode.DefinitionName scopes.Unit) h =
    by_token a_name [] (mode.DefinitionName scopes.Unit) [] (mode.DefinitionNamed scopes.Unit [] start) refl (named_finish [] start)
head_finish (mode.DefinitionNamed scopes.Unit n p) h = named_finish n p
head_finish (mode.Parameter scopes.Unit n p ns) h =
    by_token a_name [] (mode.Parameter scopes.Unit n p ns) [] (mode.ParameterNamed scopes.Unit n p (ns ++ [] ∷ [])) refl (parameter_finish n p (ns ++ [] ∷ []))
head_finish (mode.ParameterNamed scopes.Unit n p ns) h = parameter_finish n p ns
head_finish (mode.DefinedAs scopes.Unit n p form) h = defined_finish n p form
head_finish (mode.BoundName b ns) h =
    by_token a_name [] (mode.BoundName b ns) [] (mode.BoundNamed b (ns ++ [] ∷ [])) refl (binder_finish b.binder b.bounds (ns ++ [] ∷ []) h)
head_finish (mode.BoundNamed b ns) h = binder_finish b.binder b.bounds ns h
head_finish (mode.DefinitionName (scopes.Let at ds)) h = absurd h
head_finish (mode.DefinitionNamed (scopes.Let at ds) n p) h = absurd h
head_finish (mode.Parameter (scopes.Let at ds) n p ns) h = absurd h
head_finish (mode.ParameterNamed (scopes.Let at ds) n p ns) h = absurd h
head_finish (mode.DefinedAs (scopes.Let at ds) n p form) h = absurd h
head_finish _ h = absurd h

-- ---- what every state begins

head_begun : (read : List Laid) (fs : List Frame) (m : Mode) → ((r : List Laid) → Opened (read ++ r) fs m r) → Head fs m → BegunDefinition read
head_begun read fs m o h =
    let f : HeadFinish [] m = head_finish m h.head in
    let d : DefinitionEnding (read ++ f.0) = f.1 (read ++ f.0) (subst (λ v. Opened (read ++ f.0) v m f.0) h.empty (o f.0)) in
    record { name = d.name; at = d.at; parameters = d.parameters; form = d.form; body = d.body; rest = f.0; whole = d.text }

inner_begun : (inner : List Laid) (gs : List Frame) (n : Mode) → Path inner [] mode.Want gs n → Begun inner
inner_begun inner gs n p =
    let f : Finish gs n = finish gs n in
    begun inner f.0 (f.1 (inner ++ f.0) (path_state inner f.0 (inner ++ f.0) [] mode.Want gs n p (first_state (inner ++ f.0))))

inside_begun : (read : List Laid) (fs : List Frame) (m : Mode) → Inside read fs m → BegunDefinition read
inside_begun read fs m i = subst BegunDefinition (sym i.whole) (row_begun i.row i.before i.inner i.bottom i.text (inner_begun i.inner i.rows m i.path))

stands_begun : (read : List Laid) (fs : List Frame) (m : Mode) → ((r : List Laid) → Opened (read ++ r) fs m r) → Head fs m ⊎ Inside read fs m → BegunDefinition read
stands_begun read fs m o (inl h) = head_begun read fs m o h
stands_begun read fs m o (inr i) = inside_begun read fs m i

pub definition_ran : DefinitionRanBegun
definition_ran read q =
    let a : All read [] (mode.DefinitionName scopes.Unit) = all_read read [] (mode.DefinitionName scopes.Unit) q in
    let s : Reached read a.frames a.expects = definition_reached read a.frames a.expects a.path in
    stands_begun read a.frames a.expects s.opened s.stands

pub definition_stopped : DefinitionStoppedBegun
definition_stopped read rest x q = definition_ran read (read_before read rest x [] (mode.DefinitionName scopes.Unit) (StopsAt (x ∷ rest)) q refl)

pub definition_ends : DefinitionEndsBegun
definition_ends read rest x n p ns form e q = definition_ran read (read_before read rest x [] (mode.DefinitionName scopes.Unit) (EndsDefinitionAt n p ns form e (x ∷ rest)) q refl)

-- ---- clashes

-- through a token at which the operators of an expression clash, its text goes on
inner_clashes : (inner : List Laid) (x : Laid) (gs : List Frame) (n : Mode) (p q : Place) → Path inner [] mode.Want gs n → step x gs n ≡ Clashes p q → Begun (inner ++ x ∷ [])
inner_clashes inner x gs n p q h c =
    let state : (r : List Laid) → State (inner ++ r) gs n r = λ r. path_state inner r (inner ++ r) [] mode.Want gs n h (first_state (inner ++ r)) in
    let kept = state [] in
    let g : Goes x gs n = subst (λ v. Same (Goes x gs n) v (flat.step x (rows gs) (expected n))) c (steps_same x gs n kept.1 kept.2) in
    let s = state (x ∷ g.0) in
    begun (inner ++ x ∷ []) g.0 (subst Ending (sym (append_assoc inner (x ∷ []) g.0)) (g.1 (inner ++ x ∷ g.0) s.0 s.1 s.2))

pub definition_clashed : DefinitionClashedBegun
definition_clashed read rest x p q h =
    let r : Reach read [] (mode.DefinitionName scopes.Unit) x rest (ClashesAt p q (x ∷ rest)) = reach read x rest [] (mode.DefinitionName scopes.Unit) (ClashesAt p q (x ∷ rest)) h refl in
    let c : ClashesOver read x r.frames r.expects p q =
    clash_inside read x r.frames r.expects p q (reach_clashes read [] (mode.DefinitionName scopes.Unit) x rest (x ∷ rest) p q r) (definition_reached read r.frames r.expects r.path) in
    let i = c.state in
    subst BegunDefinition (sym (append_assoc i.before i.inner (x ∷ [])) ∙ ap (λ v. v ++ x ∷ []) (sym i.whole))
    (row_begun i.row i.before (i.inner ++ x ∷ []) i.bottom i.text (inner_clashes i.inner x i.rows r.expects p q i.path c.clashes))
