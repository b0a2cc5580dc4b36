-- Rows in brackets.
use Rattle.std.proofs.Common.{◌≡◌, ℕ, Bool, true, false, List, [], ◌∷◌, refl, sym, ap, subst, ◌∙◌}
use Rattle.std.specs.Prelude.{if◌then◌else◌}
use Rattle.base_core.specs.declared.place.Place.{Place}
use Rattle.reading_trees.specs.declared.laid.Laid.{Laid}
use Rattle.reading_trees.specs.declared.laid.Laid.TheVariants.{Plain, ListOpen, ListItem, ListClose}
use Rattle.reading_tokens.specs.declared.token.Kind.{Kind}
use Rattle.reading_tokens.specs.declared.token.Kind.TheVariants as kinds
use Rattle.reading_tokens.specs.declared.token.Word.TheVariants as words
use Rattle.reading_tokens.specs.declared.token.Symbol.{Symbol}
use Rattle.reading_tokens.specs.declared.token.Symbol.TheVariants as symbols
use Rattle.reading_trees.specs.Trees as tree
use Rattle.reading_machine.specs.declared.frame.Frame.{Frame}
use Rattle.reading_machine.specs.declared.frame.Frame.TheVariants as frame
use Rattle.reading_machine.specs.declared.frame.Mode.TheVariants as mode
use Rattle.std.specs.Prelude.{nat_eq, ◌||◌}
use Rattle.std.specs.Cmp.Lexicographic.{pointwise, bytes_decides}
use Rattle.reading_trees.specs.declared.operators.InfixOperator.{InfixOperator}
use Rattle.reading_trees.specs.declared.operators.InfixOperator.TheVariants as infixes
use Rattle.reading_trees.specs.Precedence.{infix_symbol}
use Rattle.reading_trees.specs.Fits.{Fits}
use Rattle.reading_trees.specs.Grammar.{Text, BoundsBefore, BoundsText, NamesText, FieldsBefore, FieldsText, AreOnce, IsNew, begins_member, is_member, sign, name}
use Rattle.reading_trees.specs.Trees.{Tree, Bounds, NoBounds, MoreBounds, Fields, NoFields, MoreFields, Changes, NoChanges}
use Rattle.reading_machine.specs.declared.frame.Action.TheVariants as actions
use Rattle.reading_machine.specs.declared.frame.RecordKind.{RecordKind}
use Rattle.reading_machine.specs.declared.frame.RecordKind.TheVariants as records
use Rattle.reading_machine.specs.declared.frame.Binder.TheVariants as binders
use Rattle.reading_machine.specs.Machine.{Stepped, Reads, Stops, step, follows, behind, bracket_named, on_joined, join, is_case_mark, is_always_symbol, has_field, of_records, want}
use Rattle.reading_machine.specs.OpenRows.{field_mark}
use Rattle.reading_machine.proofs.Runner.{Runner, after, run}
use Rattle.reading_machine.proofs.RunsParts.{Runs, Good, BoundsGood, FieldsGood, ChangesGood, Delivers, Closing, plain, part}
use Rattle.reading_machine.proofs.RunsSteps.{changes_run}
use Rattle.reading_machine.proofs.RunsBounds.{binding, names_run}
use Rattle.reading_machine.proofs.RunsStarts.{SecondKind, Clear, clear_here, NamedKind, Named, Special, named}
use Rattle.reading_machine.proofs.RunsJoin.{begun}
use Rattle.reading_machine.proofs.RunsTuples.{action_subscript}

abbrev pub is_special : Symbol → Bool
is_special symbols.MapsTo = true
is_special symbols.Colon = true
is_special symbols.Comma = true
is_special symbols.Member = true
is_special _ = false

special_infixes : (o : InfixOperator) → is_member o ≡ false → is_special (infix_symbol o) ≡ false
special_infixes infixes.Member h = cc
special_infixes _ h = refl

pub special : Special is_special
special = record { infixes = special_infixes; prime = refl; bracket = refl; dot = refl; parenthesis = refl; exclamation = refl }

-- ---- where a tree begins in brackets

named_symbol : (at : Place) (n : List ℕ) (p : Place) (fs : List Frame) (q : Place) (s : Symbol) → is_special s ≡ false
    → bracket_named (plain (kinds.Symbol s) q) at n p fs s q ≡ follows (plain (kinds.Symbol s) q) (frame.Bracket at ∷ fs) (tree.Name p n)
named_symbol at n p fs q symbols.MapsTo h = absurd (let e : true ≡ false = h in cc)
named_symbol at n p fs q symbols.Colon h = absurd (let e : true ≡ false = h in cc)
named_symbol at n p fs q symbols.Comma h = absurd (let e : true ≡ false = h in cc)
named_symbol at n p fs q symbols.Member h = absurd (let e : true ≡ false = h in cc)
named_symbol at n p fs q _ h = refl

named_kind : (at : Place) (n : List ℕ) (p : Place) (fs : List Frame) (q : Place) (k : Kind) → SecondKind is_special k
    → step (plain k q) fs (mode.BracketName at n p) ≡ follows (plain k q) (frame.Bracket at ∷ fs) (tree.Name p n)
named_kind at n p fs q (kinds.Symbol s) h = named_symbol at n p fs q s h
named_kind at n p fs q _ h = refl

-- ---- the expression in brackets, up to the token behind it

-- what a token behind it does
pub record Ends (x : Laid) (at : Place) (fs : List Frame) (next : Tree → Stepped) : Type 0 where
  pub clear : Clear is_special (x ∷ [])
  pub closing : Closing x
  pub no_case : is_case_mark x ≡ false
  pub plainly : (e : Tree) → behind x (frame.Bracket at ∷ fs) e ≡ next e
  pub joined : (n : List ℕ) (p q : Place) (e : Tree) → behind x (frame.MaybeFunction at n p q ∷ fs) e ≡ on_joined (join (tree.Name p n) q e) q next

-- ---- functions

-- what a token behind the first bound does
record EndsBound (c : Symbol) (q at : Place) (fs : List Frame) (next : List (List ℕ) → Tree → Stepped) : Type 0 where
  pub closing : Closing (plain (kinds.Symbol c) q)
  pub no_case : is_always_symbol c ≡ false
  pub one : (n : List ℕ) (p r : Place) (s : Tree) → behind (plain (kinds.Symbol c) q) (frame.MaybeFunction at n p r ∷ fs) s ≡ next (n ∷ []) s
  pub more : (ns : List (List ℕ)) (s : Tree) → behind (plain (kinds.Symbol c) q) (frame.BoundSet (binding (binders.Function at) NoBounds) ns ∷ fs) s ≡ next ns s

-- ---- records

is_false : {P : Type 0} (b : Bool) → (b ≡ true → P) → ¬ P → b ≡ false
is_false true f n = absurd (n (f refl))
is_false false f n = refl

or_false : (a b : Bool) → a ≡ false → b ≡ false → (a || b) ≡ false
or_false a b p q = cc

pub new_field : (n : List ℕ) (hs : Fields) → IsNew n hs → has_field n hs ≡ false
new_field n NoFields h = refl
new_field n (MoreFields hs m e) h =
    or_false (has_field n hs) (pointwise nat_eq n m) (new_field n hs h.0) (is_false (pointwise nat_eq n m) (λ q. (bytes_decides n m).0 q) h.1)

module _ (reader : Runner) where
  named_runs : (at : Place) (n : List ℕ) (p : Place) (fs : List Frame) (xs : List Laid) → Clear is_special xs → run reader xs fs (mode.BracketName at n p) ≡ run reader xs (frame.Bracket at ∷ fs) (mode.Have (tree.Name p n))
  named_runs at n p fs [] h = reader.bracket_name at n p fs
  named_runs at n p fs (Plain t ∷ xs) h = ap (λ s. after reader s (Plain t ∷ xs) (run reader xs)) (named_kind at n p fs t.place t.kind h)
  named_runs at n p fs (ListOpen b q ∷ xs) h = refl
  named_runs at n p fs (ListItem b q ∷ xs) h = refl
  named_runs at n p fs (ListClose q ∷ xs) h = refl

  start_kind : (at : Place) (fs : List Frame) (q : Place) (xs : List Laid) (k : Kind) → NamedKind is_special k xs
      → run reader (plain k q ∷ xs) fs (mode.BracketStart at) ≡ run reader (plain k q ∷ xs) (frame.Bracket at ∷ fs) mode.Want
  start_kind at fs q xs (kinds.Name n) h = named_runs at n q fs xs h
  start_kind at fs q xs _ h = refl

  pub starts : (at : Place) (fs : List Frame) (xs : List Laid) → Named is_special xs → run reader xs fs (mode.BracketStart at) ≡ run reader xs (frame.Bracket at ∷ fs) mode.Want
  starts at fs [] h = reader.bracket_start at fs
  starts at fs (Plain t ∷ xs) h = start_kind at fs t.place xs t.kind h
  starts at fs (ListOpen b q ∷ xs) h = refl
  starts at fs (ListItem b q ∷ xs) h = refl
  starts at fs (ListClose q ∷ xs) h = refl

  first_by : (e : Tree) → Good reader e → Fits e → (x : Laid) (at : Place) (fs : List Frame) (next : Tree → Stepped) → Ends x at fs next → (xs ys zs : List Laid) → Text e xs ys → ys ≡ x ∷ zs → (b : Bool) → begins_member e ≡ b
      → run reader xs fs (mode.BracketStart at) ≡ after reader (next e) (x ∷ zs) (run reader zs)
  first_by e g f x at fs next d xs ys zs h q false m =
      starts at fs xs (named is_special special e m xs ys h (λ u. subst (Clear is_special) (sym q) (clear_here is_special x [] zs d.clear)))
      ∙ part reader _ _ e (frame.Bracket at ∷ fs) g.runs tt h q d.no_case d.closing
      ∙ ap (λ s. after reader s (x ∷ zs) (run reader zs)) (d.plainly e)
  first_by e g f x at fs next d xs ys zs h q true m =
      let b = begun e f m xs ys h in
      ap (λ v. run reader v fs (mode.BracketStart at)) b.here
      ∙ part reader _ _ _ (frame.MaybeFunction at b.name b.place b.sign ∷ fs) (g.rest m) tt b.text q d.no_case d.closing
      ∙ ap (λ s. after reader s (x ∷ zs) (run reader zs)) (d.joined b.name b.place b.sign _ ∙ ap (λ j. on_joined j b.sign next) b.joins)

  pub first_in_brackets : (e : Tree) → Good reader e → Fits e → (x : Laid) (at : Place) (fs : List Frame) (next : Tree → Stepped) → Ends x at fs next → (xs ys zs : List Laid) → Text e xs ys → ys ≡ x ∷ zs
      → run reader xs fs (mode.BracketStart at) ≡ after reader (next e) (x ∷ zs) (run reader zs)
  first_in_brackets e g f x at fs next d xs ys zs h q = first_by e g f x at fs next d xs ys zs h q (begins_member e) refl

  pub function_set_runs : (at : Place) (s e : Tree) → Good reader s → Fits s → Runs reader e → Runs reader (tree.FunctionSet at s e)
  function_set_runs at s e g f r fs top xs ys h =
      ap (λ v. run reader v fs mode.Want) h.1
      ∙ first_in_brackets s g f (plain (kinds.Symbol symbols.Arrow) h.2.2.1.0) at fs (λ a. want (frame.FunctionRange at a ∷ fs))
      (record { clear = refl; closing = λ gs a. refl; no_case = refl; plainly = λ a. refl; joined = λ n p q a. refl })
      h.0 h.2.0 h.2.2.0 h.2.1 h.2.2.1.1
      ∙ part reader _ _ e (frame.FunctionRange at s ∷ fs) r tt h.2.2.2.1 h.2.2.2.2.1 refl (λ gs a. refl)

  pub except_runs : (at : Place) (e : Tree) (cs : Changes) → Good reader e → Fits e → ChangesGood reader cs → Runs reader (tree.Except at e cs)
  except_runs at e cs g f c fs top xs ys h =
      ap (λ v. run reader v fs mode.Want) h.1
      ∙ first_in_brackets e g f (plain (kinds.Word words.Except) h.2.2.1.0) at fs (λ a. Reads fs (mode.ExceptMark at a NoChanges))
      (record { clear = tt; closing = λ gs a. refl; no_case = refl; plainly = λ a. refl; joined = λ n p q a. refl })
      h.0 h.2.0 h.2.2.0 h.2.1 h.2.2.1.1
      ∙ changes_run reader at e cs c fs h.2.2.0 h.2.2.2.0 ys h.2.2.2.1 h.2.2.2.2

  pub box_runs : (at : Place) (e v : Tree) → Good reader e → Fits e → Delivers reader v → Runs reader (tree.BoxAction at e v)
  box_runs at e v g f d fs top xs ys h =
      let k = h.1 in
      ap (λ v. run reader v fs mode.Want) k.1
      ∙ first_in_brackets e g f (plain (kinds.Symbol symbols.CloseBracketSubscript) k.2.2.1.0) at fs (λ a. Reads fs (mode.SubscriptStart actions.Box at a))
      (record { clear = refl; closing = λ gs a. refl; no_case = refl; plainly = λ a. refl; joined = λ n p q a. refl })
      k.0 k.2.0 k.2.2.0 k.2.1 k.2.2.1.1
      ∙ action_subscript reader actions.Box at e fs k.2.2.0
      ∙ d h.0 (frame.Subscript actions.Box at e ∷ fs) fs (mode.Have (tree.BoxAction at e v)) refl k.2.2.0 ys k.2.2.2

  first_bound : (c : Symbol) (q at : Place) (fs : List Frame) (next : List (List ℕ) → Tree → Stepped) → EndsBound c q at fs next → (ns : List (List ℕ)) (s : Tree) → Runs reader s → (xs ys zs us vs : List Laid)
      → NamesText ns xs ys → sign symbols.Member ys zs → Text s zs us → us ≡ plain (kinds.Symbol c) q ∷ vs → run reader xs fs (mode.BracketStart at) ≡ after reader (next ns s) (plain (kinds.Symbol c) q ∷ vs) (run reader vs)
  first_bound c q at fs next d [] s r xs ys zs us vs h m t e = absurd h
  first_bound c q at fs next d (n ∷ []) s r xs ys zs us vs h m t e =
      ap (λ v. run reader v fs (mode.BracketStart at)) h.1
      ∙ ap (λ v. run reader v fs (mode.BracketName at n h.0)) m.1
      ∙ part reader _ _ s (frame.MaybeFunction at n h.0 m.0 ∷ fs) r tt t e d.no_case d.closing
      ∙ ap (λ v. after reader v (plain (kinds.Symbol c) q ∷ vs) (run reader vs)) (d.one n h.0 m.0 s)
  first_bound c q at fs next d (n ∷ o ∷ ns) s r xs ys zs us vs h m t e =
      ap (λ v. run reader v fs (mode.BracketStart at)) h.1.1
      ∙ ap (λ v. run reader v fs (mode.BracketName at n h.1.0)) h.2.1.1
      ∙ names_run reader (binding (binders.Function at) NoBounds) (n ∷ []) (o ∷ ns) fs h.2.0 ys zs h.2.2 m
      ∙ part reader _ _ s (frame.BoundSet (binding (binders.Function at) NoBounds) (n ∷ o ∷ ns) ∷ fs) r tt t e d.no_case d.closing
      ∙ ap (λ v. after reader v (plain (kinds.Symbol c) q ∷ vs) (run reader vs)) (d.more (n ∷ o ∷ ns) s)

  pub bounds_before : (at : Place) (bs : Bounds) (ns : List (List ℕ)) (s : Tree) → BoundsGood reader (MoreBounds bs ns s) → (fs : List Frame) (xs ys : List Laid) → BoundsBefore (MoreBounds bs ns s) xs ys
      → run reader xs fs (mode.BracketStart at) ≡ run reader ys fs (mode.BoundName (binding (binders.Function at) (MoreBounds bs ns s)) [])
  bounds_before at NoBounds ns s g fs xs ys h =
      ap (λ v. run reader v fs (mode.BracketStart at)) h.1
      ∙ first_bound symbols.Comma h.2.2.2.2.0 at fs (λ ms a. Reads fs (mode.BoundName (binding (binders.Function at) (MoreBounds NoBounds ms a)) []))
      (record { closing = λ gs a. refl; no_case = refl; one = λ n p r a. refl; more = λ ms a. refl })
      ns s g.1.runs h.0 h.2.0 h.2.2.0 h.2.2.2.0 ys h.2.1 h.2.2.1 h.2.2.2.1 h.2.2.2.2.1
  bounds_before at (MoreBounds bs ms t) ns s g fs xs ys h =
      let b = binding (binders.Function at) (MoreBounds bs ms t) in
      bounds_before at bs ms t g.0 fs xs h.0 h.1
      ∙ names_run reader b [] ns fs h.0 h.2.0 h.2.2.0 h.2.1 h.2.2.1
      ∙ part reader _ _ s (frame.BoundSet b ns ∷ fs) g.1.runs tt h.2.2.2.1 h.2.2.2.2.1 refl (λ gs a. refl)

  pub function_bounds : (at : Place) (bs : Bounds) → BoundsGood reader bs → (fs : List Frame) (xs ys zs : List Laid) → BoundsText bs xs ys → sign symbols.MapsTo ys zs
      → run reader xs fs (mode.BracketStart at) ≡ run reader zs (frame.FunctionBody at bs ∷ fs) mode.Want
  function_bounds at NoBounds g fs xs ys zs h m = absurd h
  function_bounds at (MoreBounds NoBounds ns s) g fs xs ys zs h m =
      ap (λ v. run reader v fs (mode.BracketStart at)) h.1
      ∙ first_bound symbols.MapsTo m.0 at fs (λ ms a. want (frame.FunctionBody at (MoreBounds NoBounds ms a) ∷ fs))
      (record { closing = λ gs a. refl; no_case = refl; one = λ n p r a. refl; more = λ ms a. refl })
      ns s g.1.runs h.0 h.2.0 h.2.2.0 ys zs h.2.1 h.2.2.1 h.2.2.2 m.1
  function_bounds at (MoreBounds (MoreBounds bs ms t) ns s) g fs xs ys zs h m =
      let b = binding (binders.Function at) (MoreBounds bs ms t) in
      bounds_before at bs ms t g.0 fs xs h.0 h.1
      ∙ names_run reader b [] ns fs h.0 h.2.0 h.2.2.0 h.2.1 h.2.2.1
      ∙ part reader _ _ s (frame.BoundSet b ns ∷ fs) g.1.runs tt h.2.2.2 m.1 refl (λ gs a. refl)

  pub function_runs : (at : Place) (bs : Bounds) (e : Tree) → BoundsGood reader bs → Runs reader e → Runs reader (tree.Function at bs e)
  function_runs at bs e g r fs top xs ys h =
      ap (λ v. run reader v fs mode.Want) h.1
      ∙ function_bounds at bs g fs h.0 h.2.0 h.2.2.0 h.2.1 h.2.2.1
      ∙ part reader _ _ e (frame.FunctionBody at bs ∷ fs) r tt h.2.2.2.1 h.2.2.2.2.1 refl (λ gs a. refl)

  -- behind fields and their commas
  abbrev pub fields_state : RecordKind → Place → Fields → List Frame → List Laid → reader.Told
  fields_state k at NoFields fs xs = run reader xs fs (mode.BracketStart at)
  fields_state k at (MoreFields hs n e) fs xs = run reader xs fs (mode.RecordName k at (MoreFields hs n e))

  field_marked : (k : RecordKind) (at : Place) (hs : Fields) (n : List ℕ) (fs : List Frame) (xs ys : List Laid) → sign (field_mark k) xs ys → run reader xs fs (mode.RecordNamed k at hs n) ≡ run reader ys (frame.Record k at hs n ∷ fs) mode.Want
  field_marked records.Record at hs n fs xs ys h = ap (λ v. run reader v fs (mode.RecordNamed records.Record at hs n)) h.1
  field_marked records.Set at hs n fs xs ys h = ap (λ v. run reader v fs (mode.RecordNamed records.Set at hs n)) h.1

  pub field_begins : (k : RecordKind) (at : Place) (hs : Fields) (n : List ℕ) → IsNew n hs → (fs : List Frame) (xs ys zs : List Laid) → name n xs ys → sign (field_mark k) ys zs
      → fields_state k at hs fs xs ≡ run reader zs (frame.Record k at hs n ∷ fs) mode.Want
  field_begins records.Record at NoFields n i fs xs ys zs h m =
      ap (λ v. run reader v fs (mode.BracketStart at)) h.1 ∙ ap (λ v. run reader v fs (mode.BracketName at n h.0)) m.1
  field_begins records.Set at NoFields n i fs xs ys zs h m =
      ap (λ v. run reader v fs (mode.BracketStart at)) h.1 ∙ ap (λ v. run reader v fs (mode.BracketName at n h.0)) m.1
  field_begins k at (MoreFields hs o e) n i fs xs ys zs h m =
      ap (λ v. run reader v fs (mode.RecordName k at (MoreFields hs o e))) h.1
      ∙ ap (λ b. after reader (if b then Stops else Reads fs (mode.RecordNamed k at (MoreFields hs o e) n)) (plain (kinds.Name n) h.0 ∷ ys) (run reader ys)) (new_field n (MoreFields hs o e) i)
      ∙ field_marked k at (MoreFields hs o e) n fs ys zs m

  pub fields_before : (k : RecordKind) (at : Place) (hs : Fields) → FieldsGood reader hs → AreOnce hs → (fs : List Frame) (xs ys : List Laid) → FieldsBefore (field_mark k) hs xs ys → run reader xs fs (mode.BracketStart at) ≡ fields_state k at hs fs ys
  fields_before k at NoFields g o fs xs ys h = ap (λ v. run reader v fs (mode.BracketStart at)) h
  fields_before k at (MoreFields hs n e) g o fs xs ys h =
      fields_before k at hs g.0 o.0 fs xs h.0 h.1
      ∙ field_begins k at hs n o.1 fs h.0 h.2.0 h.2.2.0 h.2.1 h.2.2.1
      ∙ part reader _ _ e (frame.Record k at hs n ∷ fs) g.1.runs tt h.2.2.2.1 h.2.2.2.2.1 refl (λ gs a. refl)

  fields_run : (k : RecordKind) (at : Place) (hs : Fields) → FieldsGood reader hs → AreOnce hs → (fs : List Frame) (xs ys zs : List Laid) → FieldsText (field_mark k) hs xs ys → sign symbols.CloseBracket ys zs
      → run reader xs fs (mode.BracketStart at) ≡ run reader zs fs (mode.Have (of_records k at hs))
  fields_run k at NoFields g o fs xs ys zs h s = absurd h
  fields_run k at (MoreFields hs n e) g o fs xs ys zs h s =
      fields_before k at hs g.0 o.0 fs xs h.0 h.1
      ∙ field_begins k at hs n o.1 fs h.0 h.2.0 h.2.2.0 h.2.1 h.2.2.1
      ∙ part reader _ _ e (frame.Record k at hs n ∷ fs) g.1.runs tt h.2.2.2 s.1 refl (λ gs a. refl)

  pub record_runs : (at : Place) (hs : Fields) → FieldsGood reader hs → Runs reader (tree.Record at hs)
  record_runs at hs g fs top xs ys h =
      ap (λ v. run reader v fs mode.Want) h.1.1 ∙ fields_run records.Record at hs g h.0 fs h.1.0 h.1.2.0 ys h.1.2.1 h.1.2.2

  pub record_set_runs : (at : Place) (hs : Fields) → FieldsGood reader hs → Runs reader (tree.RecordSet at hs)
  record_set_runs at hs g fs top xs ys h =
      ap (λ v. run reader v fs mode.Want) h.1.1 ∙ fields_run records.Set at hs g h.0 fs h.1.0 h.1.2.0 ys h.1.2.1 h.1.2.2
