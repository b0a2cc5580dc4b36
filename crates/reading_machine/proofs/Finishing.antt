-- Every state has tokens that end it, and so what was read so far is the beginning of a text.
use Rattle.std.proofs.Common.{◌≡◌, ℕ, ◌+◌, ◌≤◌, Bool, true, false, ◌||◌, List, [], ◌∷◌, ◌++◌, length, refl, ap, subst, arith}
use Rattle.std.specs.Prelude.{nat_eq, if◌then◌else◌}
use Rattle.std.proofs.lemmas.List.{length-append}
use Rattle.std.specs.Cmp.Lexicographic.{pointwise, bytes_decides}
use Rattle.base_core.specs.declared.place.Place.{Place}
use Rattle.reading_trees.specs.declared.laid.Bullet.{Bullet}
use Rattle.reading_trees.specs.declared.laid.Bullet.TheVariants as bullets
use Rattle.reading_trees.specs.declared.laid.Laid.{Laid}
use Rattle.reading_trees.specs.declared.laid.Laid.TheVariants.{ListItem}
use Rattle.reading_tokens.specs.declared.token.Kind.TheVariants as kinds
use Rattle.reading_tokens.specs.declared.token.Symbol.TheVariants as symbols
use Rattle.reading_trees.specs.Trees as tree
use Rattle.reading_trees.specs.Grammar.{qualified}
use Rattle.reading_trees.specs.Trees.{Tree, NoTrees, MoreTrees, Fields, NoFields, MoreFields, Changes, Steps, NoSteps, MoreSteps}
use Rattle.reading_machine.specs.declared.frame.RecordKind.{RecordKind}
use Rattle.reading_machine.specs.declared.frame.RecordKind.TheVariants as records
use Rattle.reading_machine.specs.declared.frame.Scope.{Scope}
use Rattle.reading_machine.specs.declared.frame.Binding.{Binding}
use Rattle.reading_machine.specs.declared.frame.Form.{Form}
use Rattle.reading_machine.specs.declared.frame.Form.TheVariants as forms
use Rattle.reading_machine.specs.declared.frame.Frame.{Frame}
use Rattle.reading_machine.specs.declared.frame.Frame.TheVariants as frame
use Rattle.reading_machine.specs.declared.frame.Mode.{Mode}
use Rattle.reading_machine.specs.declared.frame.Mode.TheVariants as mode
use Rattle.reading_machine.specs.Machine.{Reads, Stops, has_field, with_step, subscripted, step}
use Rattle.reading_machine.proofs.Opened.{Opened, Good}
use Rattle.reading_machine.proofs.Stepping.{reads_good}
use Rattle.reading_machine.proofs.Flat as flat
use Rattle.reading_machine.proofs.FlatStates.{rows, expected, FramesKept, ModeKept, Same}
use Rattle.reading_machine.proofs.FlatSteps.{Goes, steps_same}
use Rattle.reading_machine.proofs.OpenEnds.{start, one, one_tree, a_kind, a_sign, ends, suits, sound, close, Ending}

-- what was read up to r
abbrev pub State : List Laid → List Frame → Mode → List Laid → Type 0
State xs fs m r = Opened xs fs m r × FramesKept fs × ModeKept m fs

pub next_state : (xs r : List Laid) (x : Laid) (fs : List Frame) (m : Mode) (gs : List Frame) (n : Mode) → step x fs m ≡ Reads gs n → State xs fs m (x ∷ r) → State xs gs n r
next_state xs r x fs m gs n q s =
    let g : Good xs (x ∷ r) r (Reads gs n) = subst (λ v. Good xs (x ∷ r) r v) q (reads_good xs r x fs m s.0.0.0 s.0.0.1 s.0.0.2 s.0.1 s.0.2) in
    let k : Same (Goes x fs m) (Reads gs n) (flat.step x (rows fs) (expected m)) = subst (λ v. Same (Goes x fs m) v (flat.step x (rows fs) (expected m))) q (steps_same x fs m s.1 s.2) in
    (g, k.1, k.2)

-- tokens that end a state
abbrev pub Finish : List Frame → Mode → Type 0
Finish fs m = (c : List Laid) × ((xs : List Laid) → State xs fs m c → Ending xs)

want_finish : (fs : List Frame) → Finish fs mode.Want
want_finish fs = (one ∷ ends fs, λ xs s. close fs s.1 (sound fs s.0.1) one_tree (suits one_tree fs s.2.0) xs s.0.0.0 s.0.0.1 s.0.0.2)

have_finish : (fs : List Frame) (e : Tree) → Finish fs (mode.Have e)
have_finish fs e = (ends fs, λ xs s. close fs s.1 (sound fs s.0.1) e (suits e fs s.2.0) xs s.0.0.0 s.0.0.1 s.0.0.2)

-- a token and then those that end what comes of it
by_token : (x : Laid) (fs : List Frame) (m : Mode) (gs : List Frame) (n : Mode) → step x fs m ≡ Reads gs n → Finish gs n → Finish fs m
by_token x fs m gs n q f = (x ∷ f.0, λ xs s. f.1 xs (next_state xs f.0 x fs m gs n q s))

-- a name, which need not be spelled
abbrev pub a_name : Laid
a_name = a_kind (kinds.Name [])

-- ---- a name that is none of the fields'

-- a list that is longer than each name
abbrev pub fresh : Fields → List ℕ
fresh NoFields = []
fresh (MoreFields hs m e) = 0 ∷ m ++ fresh hs

is_false : {P : Type 0} (b : Bool) → (b ≡ true → P) → ¬ P → b ≡ false
is_false true f n = absurd (n (f refl))
is_false false f n = refl

both_false : (a b : Bool) → a ≡ false → b ≡ false → (a || b) ≡ false
both_false a b p q = cc

longer_new : (hs : Fields) (n : List ℕ) → length (fresh hs) ≤ length n → has_field n hs ≡ false
longer_new NoFields n h = refl
longer_new (MoreFields hs m e) n h =
    let l : length (m ++ fresh hs) ≡ length m + length (fresh hs) = length-append m (fresh hs) in
    both_false (has_field n hs) (pointwise nat_eq n m) (longer_new hs n (omega (arith, h, l)))
    (is_false (pointwise nat_eq n m) (λ q. (bytes_decides n m).0 q) (λ q. let k : length n ≡ length m = ap length q in absurd (omega (arith, h, l, k))))

pub fresh_new : (hs : Fields) → has_field (fresh hs) hs ≡ false
fresh_new hs = longer_new hs (fresh hs) (omega arith)

-- ---- modes

bound_finish : (b : Binding) (ns : List (List ℕ)) (fs : List Frame) → Finish fs (mode.BoundNamed b ns)
bound_finish b ns fs = by_token (a_sign symbols.Member) fs (mode.BoundNamed b ns) (frame.BoundSet b ns ∷ fs) mode.Want refl (want_finish (frame.BoundSet b ns ∷ fs))

list_finish : (b : Bullet) (at : Place) (fs : List Frame) → Finish fs (mode.ListStart b at)
list_finish bullets.And at fs = by_token (ListItem bullets.And start) fs (mode.ListStart bullets.And at) (frame.Junction bullets.And at NoTrees ∷ fs) mode.Want refl (want_finish (frame.Junction bullets.And at NoTrees ∷ fs))
list_finish bullets.Or at fs = by_token (ListItem bullets.Or start) fs (mode.ListStart bullets.Or at) (frame.Junction bullets.Or at NoTrees ∷ fs) mode.Want refl (want_finish (frame.Junction bullets.Or at NoTrees ∷ fs))

choose_finish : (at : Place) (n : List ℕ) (fs : List Frame) → Finish fs (mode.ChooseNamed at n)
choose_finish at n fs = by_token (a_sign symbols.Member) fs (mode.ChooseNamed at n) (frame.ChooseSet at n ∷ fs) mode.Want refl (want_finish (frame.ChooseSet at n ∷ fs))

named_finish : (c : Scope) (n : List ℕ) (p : Place) (fs : List Frame) → Finish fs (mode.DefinitionNamed c n p)
named_finish c n p fs =
    by_token (a_sign symbols.Defined) fs (mode.DefinitionNamed c n p) (frame.DefinitionBody c n p (forms.Operator []) ∷ fs) mode.Want refl (want_finish (frame.DefinitionBody c n p (forms.Operator []) ∷ fs))

defined_finish : (c : Scope) (n : List ℕ) (p : Place) (form : Form) (fs : List Frame) → Finish fs (mode.DefinedAs c n p form)
defined_finish c n p form fs =
    by_token (a_sign symbols.Defined) fs (mode.DefinedAs c n p form) (frame.DefinitionBody c n p form ∷ fs) mode.Want refl (want_finish (frame.DefinitionBody c n p form ∷ fs))

parameter_finish : (c : Scope) (n : List ℕ) (p : Place) (ns : List (List ℕ)) (fs : List Frame) → Finish fs (mode.ParameterNamed c n p ns)
parameter_finish c n p ns fs =
    by_token (a_sign symbols.CloseParenthesis) fs (mode.ParameterNamed c n p ns) fs (mode.DefinedAs c n p (forms.Operator ns)) refl (defined_finish c n p (forms.Operator ns) fs)

-- behind a path with a step
path_finish : (at : Place) (e : Tree) (cs : Changes) (ss : Steps) (q : Place) (fs : List Frame) → Finish fs (mode.ExceptField at e cs ss q)
path_finish at e cs ss q fs =
    let more = MoreSteps ss q (tree.Field []) in
    by_token a_name fs (mode.ExceptField at e cs ss q) fs (mode.ExceptPath at e cs more) refl
    (by_token (a_sign symbols.Equal) fs (mode.ExceptPath at e cs more) (frame.ExceptValue at e cs more ∷ fs) mode.Want refl (want_finish (frame.ExceptValue at e cs more ∷ fs)))

field_finish : (at : Place) (e : Tree) (cs : Changes) (ss : Steps) (fs : List Frame) → Finish fs (mode.ExceptPath at e cs ss)
field_finish at e cs ss fs = by_token (a_sign symbols.Dot) fs (mode.ExceptPath at e cs ss) fs (mode.ExceptField at e cs ss start) refl (path_finish at e cs ss start fs)

record_finish : (k : RecordKind) (at : Place) (hs : Fields) (n : List ℕ) (fs : List Frame) → Finish fs (mode.RecordNamed k at hs n)
record_finish records.Record at hs n fs =
    by_token (a_sign symbols.MapsTo) fs (mode.RecordNamed records.Record at hs n) (frame.Record records.Record at hs n ∷ fs) mode.Want refl (want_finish (frame.Record records.Record at hs n ∷ fs))
record_finish records.Set at hs n fs =
    by_token (a_sign symbols.Colon) fs (mode.RecordNamed records.Set at hs n) (frame.Record records.Set at hs n ∷ fs) mode.Want refl (want_finish (frame.Record records.Set at hs n ∷ fs))

fair_finish : (at : Place) (v : Tree) (fs : List Frame) → Finish fs (mode.FairOpen at v)
fair_finish at v fs = by_token (a_sign symbols.OpenParenthesis) fs (mode.FairOpen at v) (frame.FairBody at v ∷ fs) mode.Want refl (want_finish (frame.FairBody at v ∷ fs))

pub finish : (fs : List Frame) (m : Mode) → Finish fs m
finish fs mode.Want = want_finish fs
finish fs (mode.Have e) = have_finish fs e
finish fs (mode.BoundName b ns) = by_token a_name fs (mode.BoundName b ns) fs (mode.BoundNamed b (ns ++ [] ∷ [])) refl (bound_finish b (ns ++ [] ∷ []) fs)
finish fs (mode.BoundNamed b ns) = bound_finish b ns fs
finish fs (mode.BracketStart at) = by_token one fs (mode.BracketStart at) (frame.Bracket at ∷ fs) (mode.Have one_tree) refl (have_finish (frame.Bracket at ∷ fs) one_tree)
finish fs (mode.BracketName at n p) =
    by_token (a_sign symbols.Arrow) fs (mode.BracketName at n p) (frame.FunctionRange at (tree.Name p n) ∷ fs) mode.Want refl (want_finish (frame.FunctionRange at (tree.Name p n) ∷ fs))
finish fs (mode.BraceStart at) = by_token (a_sign symbols.CloseBrace) fs (mode.BraceStart at) fs (mode.Have (tree.SetOf at NoTrees)) refl (have_finish fs (tree.SetOf at NoTrees))
finish fs (mode.BraceName at n p) =
    let e = tree.SetOf at (MoreTrees NoTrees (tree.Name p n)) in by_token (a_sign symbols.CloseBrace) fs (mode.BraceName at n p) fs (mode.Have e) refl (have_finish fs e)
finish fs (mode.TupleStart at) = by_token one fs (mode.TupleStart at) (frame.Tuple at NoTrees ∷ fs) (mode.Have one_tree) refl (have_finish (frame.Tuple at NoTrees ∷ fs) one_tree)
finish fs (mode.ListStart b at) = list_finish b at fs
finish fs (mode.ChooseName at) = by_token a_name fs (mode.ChooseName at) fs (mode.ChooseNamed at []) refl (choose_finish at [] fs)
finish fs (mode.ChooseNamed at n) = choose_finish at n fs
finish fs (mode.DefinitionName c) = by_token a_name fs (mode.DefinitionName c) fs (mode.DefinitionNamed c [] start) refl (named_finish c [] start fs)
finish fs (mode.DefinitionNamed c n p) = named_finish c n p fs
finish fs (mode.Parameter c n p ns) = by_token a_name fs (mode.Parameter c n p ns) fs (mode.ParameterNamed c n p (ns ++ [] ∷ [])) refl (parameter_finish c n p (ns ++ [] ∷ []) fs)
finish fs (mode.ParameterNamed c n p ns) = parameter_finish c n p ns fs
finish fs (mode.DefinedAs c n p form) = defined_finish c n p form fs
finish fs (mode.ExceptMark at e cs) = by_token (a_sign symbols.Exclamation) fs (mode.ExceptMark at e cs) fs (mode.ExceptPath at e cs NoSteps) refl (field_finish at e cs NoSteps fs)
finish fs (mode.ExceptPath at e cs ss) = field_finish at e cs ss fs
finish fs (mode.ExceptField at e cs ss q) = path_finish at e cs ss q fs
finish fs (mode.FieldName e q) = by_token a_name fs (mode.FieldName e q) fs (mode.Have (with_step e q (tree.Field []))) refl (have_finish fs (with_step e q (tree.Field [])))
finish fs (mode.InstanceName at i) =
    let e = tree.Qualified at (qualified i []) NoTrees in by_token a_name fs (mode.InstanceName at i) fs (mode.Have e) refl (have_finish fs e)
finish fs (mode.RecordName k at hs) =
    by_token (a_kind (kinds.Name (fresh hs))) fs (mode.RecordName k at hs) fs (mode.RecordNamed k at hs (fresh hs))
    (ap (λ b. if b then Stops else Reads fs (mode.RecordNamed k at hs (fresh hs))) (fresh_new hs)) (record_finish k at hs (fresh hs) fs)
finish fs (mode.RecordNamed k at hs n) = record_finish k at hs n fs
finish fs (mode.SubscriptStart k at e) =
    let v = subscripted k at e (tree.Name start []) in by_token a_name fs (mode.SubscriptStart k at e) fs (mode.Have v) refl (have_finish fs v)
finish fs (mode.FairStart at) = by_token a_name fs (mode.FairStart at) fs (mode.FairOpen at (tree.Name start [])) refl (fair_finish at (tree.Name start []) fs)
finish fs (mode.FairOpen at v) = fair_finish at v fs
finish fs (mode.CaseNext at arms) = by_token one fs (mode.CaseNext at arms) (frame.CaseTest at arms ∷ fs) (mode.Have one_tree) refl (have_finish (frame.CaseTest at arms ∷ fs) one_tree)
finish fs (mode.OtherArrow at arms) = by_token (a_sign symbols.Arrow) fs (mode.OtherArrow at arms) (frame.CaseOther at arms ∷ fs) mode.Want refl (want_finish (frame.CaseOther at arms ∷ fs))
