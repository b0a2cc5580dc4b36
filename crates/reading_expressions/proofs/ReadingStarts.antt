-- Where the reader stands behind the text of open rows, and how it goes on from there.
use Rattle.std.proofs.Common.{◌≡◌, Bool, true, false, List, [], ◌∷◌, refl, sym, ap, subst, ◌∙◌}
use Rattle.base_core.specs.declared.place.Place.{Place}
use Rattle.reading_trees.specs.declared.laid.Laid.{Laid}
use Rattle.reading_trees.specs.declared.laid.Laid.TheVariants.{Plain, ListOpen, ListItem, ListClose}
use Rattle.reading_tokens.specs.declared.token.Kind.{Kind}
use Rattle.reading_tokens.specs.declared.token.Kind.TheVariants as kinds
use Rattle.reading_tokens.specs.declared.token.Symbol.{Symbol}
use Rattle.reading_tokens.specs.declared.token.Symbol.TheVariants as symbols
use Rattle.reading_trees.specs.Precedence.{Range}
use Rattle.reading_trees.specs.Trees.{NoTrees, MoreTrees, NoArms, MoreArms}
use Rattle.reading_machine.specs.declared.frame.Frame.{Frame}
use Rattle.reading_machine.specs.declared.frame.Frame.TheVariants as frame
use Rattle.reading_machine.specs.declared.frame.Mode.TheVariants as mode
use Rattle.reading_machine.proofs.FittingEnds.{first_mode}
use Rattle.reading_machine.specs.OpenFits as opened
use Rattle.reading_machine.specs.OpenFits.{Open}
use Rattle.reading_machine.proofs.Runner.{Runner, run}
use Rattle.reading_machine.proofs.RunsBraces as braces
use Rattle.reading_machine.proofs.RunsBraces.{is_in}
use Rattle.reading_machine.proofs.RunsBrackets as brackets
use Rattle.reading_machine.proofs.RunsBrackets.{is_special}
use Rattle.reading_machine.proofs.RunsCases as cases
use Rattle.reading_machine.proofs.RunsEdges.{Top}
use Rattle.reading_machine.proofs.RunsParts.{plain}
use Rattle.reading_machine.proofs.RunsStarts.{OpenKind, Opened, SecondKind, Clear, NamedKind, Named}
use Rattle.reading_machine.proofs.RunsTuples as tuples

-- ---- what may stand in the innermost row

-- there is a row, or an expression is read and no unit's definition
abbrev pub Inner : Bool → List Frame → Type 0
Inner unit [] = unit ≡ false
Inner unit (f ∷ fs) = Unit {0}

-- any expression may stand there
abbrev pub Ready : Bool → List Frame → Type 0
Ready unit [] = unit ≡ false
Ready unit (frame.Subscript k at e ∷ fs) = ⊥
Ready unit (frame.FairSubscript at ∷ fs) = ⊥
Ready unit (f ∷ fs) = Unit {0}

pub is_ready : (unit : Bool) (fs : List Frame) → Inner unit fs → Open fs → Ready unit fs
is_ready unit [] i o = i
is_ready unit (frame.Subscript k at e ∷ fs) i o = absurd o
is_ready unit (frame.FairSubscript at ∷ fs) i o = absurd o
is_ready unit (f ∷ fs) i o = tt

-- a fact of the range of the innermost operator, where no subscript is expected
pub ready_top : (unit : Bool) (fs : List Frame) → Ready unit fs → (P : Range → Type 0) → opened.Top fs P → Top fs P
ready_top unit [] i P h = tt
ready_top unit (frame.Prefix o p ∷ fs) i P h = h
ready_top unit (frame.Infix o es p ∷ fs) i P h = h
ready_top unit (frame.Subscript k at e ∷ fs) i P h = absurd i
ready_top unit (frame.FairSubscript at ∷ fs) i P h = absurd i
ready_top unit (f ∷ fs) i P h = tt

pub top_all : (unit : Bool) (fs : List Frame) → Ready unit fs → (P : Range → Type 0) → ((r : Range) → P r) → Top fs P
top_all unit [] i P h = tt
top_all unit (frame.Prefix o p ∷ fs) i P h = h _
top_all unit (frame.Infix o es p ∷ fs) i P h = h _
top_all unit (frame.Subscript k at e ∷ fs) i P h = absurd i
top_all unit (frame.FairSubscript at ∷ fs) i P h = absurd i
top_all unit (f ∷ fs) i P h = tt

-- whether a name and a symbol behind it are read otherwise there
abbrev pub is_naming : List Frame → Bool
is_naming (frame.Bracket at ∷ fs) = true
is_naming (frame.Braces at NoTrees ∷ fs) = true
is_naming _ = false

-- ---- tokens

in_symbol : (s : Symbol) → is_special s ≡ false → is_in s ≡ false
in_symbol symbols.Member h = h
in_symbol _ h = refl

in_kind : (k : Kind) → SecondKind is_special k → SecondKind is_in k
in_kind (kinds.Symbol s) h = in_symbol s h
in_kind _ h = tt

in_clear : (xs : List Laid) → Clear is_special xs → Clear is_in xs
in_clear [] h = tt
in_clear (Plain t ∷ xs) h = in_kind t.kind h
in_clear (ListOpen b q ∷ xs) h = tt
in_clear (ListItem b q ∷ xs) h = tt
in_clear (ListClose q ∷ xs) h = tt

in_named_kind : (k : Kind) (xs : List Laid) → NamedKind is_special k xs → NamedKind is_in k xs
in_named_kind (kinds.Name n) xs h = in_clear xs h
in_named_kind _ xs h = tt

in_named : (xs : List Laid) → Named is_special xs → Named is_in xs
in_named [] h = tt
in_named (Plain t ∷ xs) h = in_named_kind t.kind xs h
in_named (ListOpen b q ∷ xs) h = tt
in_named (ListItem b q ∷ xs) h = tt
in_named (ListClose q ∷ xs) h = tt

-- an expression begins, and not with a name and a symbol that are read otherwise in braces or brackets
abbrev pub Fresh : List Laid → Type 0
Fresh xs = Opened xs × Named is_special xs

-- a token of this kind begins an expression, and it is no name
pub fresh : (k : Kind) (at : Place) (xs ys : List Laid) → xs ≡ plain k at ∷ ys → OpenKind k → NamedKind is_special k ys → Fresh xs
fresh k at xs ys h o n = subst Fresh (sym h) (o, n)

-- ---- where the reader stands

module _ (reader : Runner) (unit : Bool) where
  -- what it tells of these tokens behind the text of these rows, where it has read nothing of what follows
  abbrev pub enter : List Laid → List Frame → reader.Told
  enter xs [] = run reader xs [] (first_mode unit)
  enter xs (frame.Bracket at ∷ fs) = run reader xs fs (mode.BracketStart at)
  enter xs (frame.Braces at NoTrees ∷ fs) = run reader xs fs (mode.BraceStart at)
  enter xs (frame.Tuple at NoTrees ∷ fs) = run reader xs fs (mode.TupleStart at)
  enter xs (frame.CaseTest at (MoreArms arms p e) ∷ fs) = run reader xs fs (mode.CaseNext at (MoreArms arms p e))
  enter xs (frame.Subscript k at e ∷ fs) = run reader xs fs (mode.SubscriptStart k at e)
  enter xs (frame.FairSubscript at ∷ fs) = run reader xs fs (mode.FairStart at)
  enter xs (f ∷ fs) = run reader xs (f ∷ fs) mode.Want

  -- an expression is begun
  pub enters : (fs : List Frame) → Ready unit fs → (xs : List Laid) → Opened xs → (is_naming fs ≡ true → Named is_special xs) → enter xs fs ≡ run reader xs fs mode.Want
  enters [] r xs o n = ap (λ u. run reader xs [] (first_mode u)) r
  enters (frame.Bracket at ∷ fs) r xs o n = brackets.starts reader at fs xs (n refl)
  enters (frame.Braces at NoTrees ∷ fs) r xs o n = braces.starts reader at fs xs o (in_named xs (n refl))
  enters (frame.Braces at (MoreTrees es e) ∷ fs) r xs o n = refl
  enters (frame.Tuple at NoTrees ∷ fs) r xs o n = tuples.starts reader at fs xs o
  enters (frame.Tuple at (MoreTrees es e) ∷ fs) r xs o n = refl
  enters (frame.CaseTest at NoArms ∷ fs) r xs o n = refl
  enters (frame.CaseTest at (MoreArms arms p e) ∷ fs) r xs o n = cases.starts reader at (MoreArms arms p e) fs xs o
  enters (frame.Subscript k at e ∷ fs) r xs o n = absurd r
  enters (frame.FairSubscript at ∷ fs) r xs o n = absurd r
  enters (f ∷ fs) r xs o n = refl

  pub enters_fresh : (fs : List Frame) → Ready unit fs → (xs : List Laid) → Fresh xs → enter xs fs ≡ run reader xs fs mode.Want
  enters_fresh fs r xs h = enters fs r xs h.0 (λ q. h.1)

  -- a token of this kind is no name: an expression is begun with it
  pub enters_by : (fs : List Frame) → Ready unit fs → (k : Kind) (at : Place) (xs ys : List Laid) → xs ≡ plain k at ∷ ys → OpenKind k → NamedKind is_special k ys → enter xs fs ≡ run reader xs fs mode.Want
  enters_by fs r k at xs ys h o n = enters_fresh fs r xs (fresh k at xs ys h o n)

  -- where a subscript may be expected, parentheses or a tuple
  pub enters_parenthesis : (fs : List Frame) → Inner unit fs → (at : Place) (xs ys : List Laid) → xs ≡ plain (kinds.Symbol symbols.OpenParenthesis) at ∷ ys → enter xs fs ≡ run reader ys (frame.Parenthesis at ∷ fs) mode.Want
  enters_parenthesis (frame.Subscript k p e ∷ fs) i at xs ys h = ap (λ v. run reader v fs (mode.SubscriptStart k p e)) h
  enters_parenthesis (frame.FairSubscript p ∷ fs) i at xs ys h = ap (λ v. run reader v fs (mode.FairStart p)) h
  enters_parenthesis [] i at xs ys h = enters_by [] i (kinds.Symbol symbols.OpenParenthesis) at xs ys h refl tt ∙ ap (λ v. run reader v [] mode.Want) h
  enters_parenthesis (f ∷ fs) i at xs ys h = enters_by (f ∷ fs) tt (kinds.Symbol symbols.OpenParenthesis) at xs ys h refl tt ∙ ap (λ v. run reader v (f ∷ fs) mode.Want) h

  pub enters_tuple : (fs : List Frame) → Inner unit fs → (at : Place) (xs ys : List Laid) → xs ≡ plain (kinds.Symbol symbols.OpenTuple) at ∷ ys → enter xs fs ≡ run reader ys fs (mode.TupleStart at)
  enters_tuple (frame.Subscript k p e ∷ fs) i at xs ys h = ap (λ v. run reader v fs (mode.SubscriptStart k p e)) h
  enters_tuple (frame.FairSubscript p ∷ fs) i at xs ys h = ap (λ v. run reader v fs (mode.FairStart p)) h
  enters_tuple [] i at xs ys h = enters_by [] i (kinds.Symbol symbols.OpenTuple) at xs ys h refl tt ∙ ap (λ v. run reader v [] mode.Want) h
  enters_tuple (f ∷ fs) i at xs ys h = enters_by (f ∷ fs) tt (kinds.Symbol symbols.OpenTuple) at xs ys h refl tt ∙ ap (λ v. run reader v (f ∷ fs) mode.Want) h
