-- Rows in brackets, flat.
use Rattle.std.proofs.Common.{◌≡◌, ℕ, Bool, true, false, ◌||◌, List, [], ◌∷◌, refl, sym, ap, subst, ◌∙◌}
use Rattle.std.specs.Prelude.{if◌then◌else◌, nat_eq}
use Rattle.std.specs.Cmp.Lexicographic.{pointwise, bytes_decides}
use Rattle.base_core.specs.declared.place.Place.{Place}
use Rattle.reading_trees.specs.declared.laid.Laid.{Laid}
use Rattle.reading_trees.specs.declared.laid.Laid.TheVariants.{Plain, ListOpen, ListItem, ListClose}
use Rattle.reading_tokens.specs.declared.token.Kind.{Kind}
use Rattle.reading_tokens.specs.declared.token.Kind.TheVariants as kinds
use Rattle.reading_tokens.specs.declared.token.Word.TheVariants as words
use Rattle.reading_tokens.specs.declared.token.Symbol.{Symbol}
use Rattle.reading_tokens.specs.declared.token.Symbol.TheVariants as symbols
use Rattle.reading_trees.specs.declared.operators.InfixOperator.{InfixOperator}
use Rattle.reading_trees.specs.declared.operators.InfixOperator.TheVariants as infixes
use Rattle.reading_trees.specs.Precedence.{infix_symbol}
use Rattle.reading_trees.specs.Grammar.{Text, BoundsBefore, BoundsText, NamesText, FieldsBefore, FieldsText, IsNew, AreOnce, begins_member, is_member, name, sign}
use Rattle.reading_trees.specs.Trees as tree
use Rattle.reading_trees.specs.Trees.{Tree, Bounds, NoBounds, MoreBounds, Fields, NoFields, MoreFields, Changes}
use Rattle.reading_machine.specs.declared.frame.RecordKind.{RecordKind}
use Rattle.reading_machine.specs.declared.frame.RecordKind.TheVariants as records
use Rattle.reading_machine.specs.Machine.{is_case_mark, is_always_symbol}
use Rattle.reading_machine.specs.OpenRows.{field_mark}
use Rattle.reading_machine.proofs.RunsParts.{plain}
use Rattle.reading_machine.proofs.RunsStarts.{SecondKind, Clear, clear_here, NamedKind, Named, Special, named}
use Rattle.reading_machine.proofs.Flat as flat
use Rattle.reading_machine.proofs.FlatStates.{names_of}
use Rattle.reading_machine.proofs.FlatGoes.{Goes, Delivers, Good, BoundsGood, FieldsGood, ChangesGood, Closing, ended, part}
use Rattle.reading_machine.proofs.FlatPlain.{here}
use Rattle.reading_machine.proofs.FlatBounds.{names_go, changes_go}
use Rattle.reading_machine.proofs.FlatBraces.{action_subscript}

abbrev is_special : Symbol → Bool
is_special symbols.MapsTo = true
is_special symbols.Colon = true
is_special symbols.Comma = true
is_special symbols.Member = true
is_special _ = false

special_infixes : (o : InfixOperator) → is_member o ≡ false → is_special (infix_symbol o) ≡ false
special_infixes infixes.Member h = cc
special_infixes _ h = refl

special : Special is_special
special = record { infixes = special_infixes; prime = refl; bracket = refl; dot = refl; parenthesis = refl; exclamation = refl }

-- ---- where a tree begins in brackets

named_symbol : (x : Laid) (n : List ℕ) (fs : List flat.Row) (s : Symbol) → is_special s ≡ false → flat.bracket_named x n fs s ≡ flat.follows x flat.Bare (flat.Bracket ∷ fs)
named_symbol x n fs symbols.MapsTo h = absurd (let e : true ≡ false = h in cc)
named_symbol x n fs symbols.Colon h = absurd (let e : true ≡ false = h in cc)
named_symbol x n fs symbols.Comma h = absurd (let e : true ≡ false = h in cc)
named_symbol x n fs symbols.Member h = absurd (let e : true ≡ false = h in cc)
named_symbol x n fs _ h = refl

named_kind : (n : List ℕ) (fs : List flat.Row) (q : Place) (k : Kind) → SecondKind is_special k → flat.step (plain k q) fs (flat.BracketName n) ≡ flat.follows (plain k q) flat.Bare (flat.Bracket ∷ fs)
named_kind n fs q (kinds.Symbol s) h = named_symbol (plain (kinds.Symbol s) q) n fs s h
named_kind n fs q _ h = refl

named_runs : (n : List ℕ) (fs : List flat.Row) (xs : List Laid) → Clear is_special xs → flat.run xs fs (flat.BracketName n) ≡ flat.run xs (flat.Bracket ∷ fs) (flat.Have flat.Bare)
named_runs n fs [] h = refl
named_runs n fs (Plain t ∷ xs) h = ap (λ s. flat.after s (Plain t ∷ xs) (flat.run xs)) (named_kind n fs t.place t.kind h)
named_runs n fs (ListOpen b q ∷ xs) h = refl
named_runs n fs (ListItem b q ∷ xs) h = refl
named_runs n fs (ListClose q ∷ xs) h = refl

start_kind : (fs : List flat.Row) (q : Place) (xs : List Laid) (k : Kind) → NamedKind is_special k xs → flat.run (plain k q ∷ xs) fs flat.BracketStart ≡ flat.run (plain k q ∷ xs) (flat.Bracket ∷ fs) flat.Want
start_kind fs q xs (kinds.Name n) h = named_runs n fs xs h
start_kind fs q xs _ h = refl

starts : (fs : List flat.Row) (xs : List Laid) → Named is_special xs → flat.run xs fs flat.BracketStart ≡ flat.run xs (flat.Bracket ∷ fs) flat.Want
starts fs [] h = refl
starts fs (Plain t ∷ xs) h = start_kind fs t.place xs t.kind h
starts fs (ListOpen b q ∷ xs) h = refl
starts fs (ListItem b q ∷ xs) h = refl
starts fs (ListClose q ∷ xs) h = refl

-- ---- the expression in brackets, up to the token behind it

-- what a token behind it does
record EndsFirst (x : Laid) (fs : List flat.Row) (next : flat.Done) : Type 0 where
  pub clear : Clear is_special (x ∷ [])
  pub closing : Closing x
  pub no_case : is_case_mark x ≡ false
  pub plainly : flat.behind x (flat.Bracket ∷ fs) ≡ next
  pub joined : flat.behind x (flat.MaybeFunction ∷ fs) ≡ next

first_by : (e : Tree) → Good e → (x : Laid) (fs : List flat.Row) (next : flat.Done) → EndsFirst x fs next → (xs ys zs : List Laid) → Text e xs ys → ys ≡ x ∷ zs → (b : Bool) → begins_member e ≡ b
    → flat.run xs fs flat.BracketStart ≡ flat.after next (x ∷ zs) (flat.run zs)
first_by e g x fs next d xs ys zs h q false m =
    starts fs xs (named is_special special e m xs ys h (λ u. subst (Clear is_special) (sym q) (clear_here is_special x [] zs d.clear)))
    ∙ part _ _ e (flat.Bracket ∷ fs) g.goes tt h q d.no_case d.closing
    ∙ ap (λ s. flat.after s (x ∷ zs) (flat.run zs)) d.plainly
first_by e g x fs next d xs ys zs h q true m =
    let b = g.member m xs ys h in
    ap (λ v. flat.run v fs flat.BracketStart) b.here
    ∙ ended ys (flat.MaybeFunction ∷ fs) (b.goes (flat.MaybeFunction ∷ fs) tt) q d.no_case d.closing
    ∙ ap (λ s. flat.after s (x ∷ zs) (flat.run zs)) d.joined

first_in_brackets : (e : Tree) → Good e → (x : Laid) (fs : List flat.Row) (next : flat.Done) → EndsFirst x fs next → (xs ys zs : List Laid) → Text e xs ys → ys ≡ x ∷ zs → flat.run xs fs flat.BracketStart ≡ flat.after next (x ∷ zs) (flat.run zs)
first_in_brackets e g x fs next d xs ys zs h q = first_by e g x fs next d xs ys zs h q (begins_member e) refl

pub function_set_goes : (at : Place) (s e : Tree) → Good s → Goes e → Goes (tree.FunctionSet at s e)
function_set_goes at s e g ge fs o xs ys h =
    here ys fs flat.Other _
    (ap (λ v. flat.run v fs flat.Want) h.1
    ∙ first_in_brackets s g (plain (kinds.Symbol symbols.Arrow) h.2.2.1.0) fs (flat.want (flat.FunctionRange ∷ fs))
    (record { clear = refl; closing = λ n gs. refl; no_case = refl; plainly = refl; joined = refl })
    h.0 h.2.0 h.2.2.0 h.2.1 h.2.2.1.1
    ∙ part _ _ e (flat.FunctionRange ∷ fs) ge tt h.2.2.2.1 h.2.2.2.2.1 refl (λ n gs. refl))

pub except_goes : (at : Place) (e : Tree) (cs : Changes) → Good e → ChangesGood cs → Goes (tree.Except at e cs)
except_goes at e cs g c fs o xs ys h =
    here ys fs flat.Other _
    (ap (λ v. flat.run v fs flat.Want) h.1
    ∙ first_in_brackets e g (plain (kinds.Word words.Except) h.2.2.1.0) fs (flat.Reads fs flat.ExceptMark)
    (record { clear = tt; closing = λ n gs. refl; no_case = refl; plainly = refl; joined = refl })
    h.0 h.2.0 h.2.2.0 h.2.1 h.2.2.1.1
    ∙ changes_go cs c fs h.2.2.0 h.2.2.2.0 ys h.2.2.2.1 h.2.2.2.2)

pub box_goes : (at : Place) (e v : Tree) → Good e → Delivers v → Goes (tree.BoxAction at e v)
box_goes at e v g d fs o xs ys h =
    let k = h.1 in
    here ys fs flat.Other _
    (ap (λ v. flat.run v fs flat.Want) k.1
    ∙ first_in_brackets e g (plain (kinds.Symbol symbols.CloseBracketSubscript) k.2.2.1.0) fs (flat.Reads fs flat.SubscriptStart)
    (record { clear = refl; closing = λ n gs. refl; no_case = refl; plainly = refl; joined = refl })
    k.0 k.2.0 k.2.2.0 k.2.1 k.2.2.1.1
    ∙ action_subscript fs k.2.2.0
    ∙ d h.0 (flat.Subscript ∷ fs) fs (flat.Have flat.Other) refl k.2.2.0 ys k.2.2.2)

-- ---- functions

-- what a token behind the first bound does
record EndsBound (c : Symbol) (q : Place) (fs : List flat.Row) (next : flat.Done) : Type 0 where
  pub closing : Closing (plain (kinds.Symbol c) q)
  pub no_case : is_always_symbol c ≡ false
  pub one : flat.behind (plain (kinds.Symbol c) q) (flat.MaybeFunction ∷ fs) ≡ next
  pub more : flat.behind (plain (kinds.Symbol c) q) (flat.BoundSet flat.ByFunction ∷ fs) ≡ next

first_bound : (c : Symbol) (q : Place) (fs : List flat.Row) (next : flat.Done) → EndsBound c q fs next → (ns : List (List ℕ)) (s : Tree) → Goes s → (xs ys zs us vs : List Laid) → NamesText ns xs ys → sign symbols.Member ys zs → Text s zs us
    → us ≡ plain (kinds.Symbol c) q ∷ vs → flat.run xs fs flat.BracketStart ≡ flat.after next (plain (kinds.Symbol c) q ∷ vs) (flat.run vs)
first_bound c q fs next d [] s g xs ys zs us vs h m t e = absurd h
first_bound c q fs next d (n ∷ []) s g xs ys zs us vs h m t e =
    ap (λ v. flat.run v fs flat.BracketStart) h.1
    ∙ ap (λ v. flat.run v fs (flat.BracketName n)) m.1
    ∙ part _ _ s (flat.MaybeFunction ∷ fs) g tt t e d.no_case d.closing
    ∙ ap (λ v. flat.after v (plain (kinds.Symbol c) q ∷ vs) (flat.run vs)) d.one
first_bound c q fs next d (n ∷ o ∷ ns) s g xs ys zs us vs h m t e =
    ap (λ v. flat.run v fs flat.BracketStart) h.1.1
    ∙ ap (λ v. flat.run v fs (flat.BracketName n)) h.2.1.1
    ∙ names_go flat.ByFunction (o ∷ ns) fs h.2.0 ys zs h.2.2 m
    ∙ part _ _ s (flat.BoundSet flat.ByFunction ∷ fs) g tt t e d.no_case d.closing
    ∙ ap (λ v. flat.after v (plain (kinds.Symbol c) q ∷ vs) (flat.run vs)) d.more

bounds_before : (bs : Bounds) (ns : List (List ℕ)) (s : Tree) → BoundsGood (MoreBounds bs ns s) → (fs : List flat.Row) (xs ys : List Laid) → BoundsBefore (MoreBounds bs ns s) xs ys → flat.run xs fs flat.BracketStart ≡ flat.run ys fs (flat.BoundName flat.ByFunction)
bounds_before NoBounds ns s g fs xs ys h =
    ap (λ v. flat.run v fs flat.BracketStart) h.1
    ∙ first_bound symbols.Comma h.2.2.2.2.0 fs (flat.Reads fs (flat.BoundName flat.ByFunction))
    (record { closing = λ n gs. refl; no_case = refl; one = refl; more = refl })
    ns s g.1.goes h.0 h.2.0 h.2.2.0 h.2.2.2.0 ys h.2.1 h.2.2.1 h.2.2.2.1 h.2.2.2.2.1
bounds_before (MoreBounds bs ms t) ns s g fs xs ys h =
    bounds_before bs ms t g.0 fs xs h.0 h.1
    ∙ names_go flat.ByFunction ns fs h.0 h.2.0 h.2.2.0 h.2.1 h.2.2.1
    ∙ part _ _ s (flat.BoundSet flat.ByFunction ∷ fs) g.1.goes tt h.2.2.2.1 h.2.2.2.2.1 refl (λ n gs. refl)

function_bounds : (bs : Bounds) → BoundsGood bs → (fs : List flat.Row) (xs ys zs : List Laid) → BoundsText bs xs ys → sign symbols.MapsTo ys zs → flat.run xs fs flat.BracketStart ≡ flat.run zs (flat.FunctionBody ∷ fs) flat.Want
function_bounds NoBounds g fs xs ys zs h m = absurd h
function_bounds (MoreBounds NoBounds ns s) g fs xs ys zs h m =
    ap (λ v. flat.run v fs flat.BracketStart) h.1
    ∙ first_bound symbols.MapsTo m.0 fs (flat.want (flat.FunctionBody ∷ fs))
    (record { closing = λ n gs. refl; no_case = refl; one = refl; more = refl })
    ns s g.1.goes h.0 h.2.0 h.2.2.0 ys zs h.2.1 h.2.2.1 h.2.2.2 m.1
function_bounds (MoreBounds (MoreBounds bs ms t) ns s) g fs xs ys zs h m =
    bounds_before bs ms t g.0 fs xs h.0 h.1
    ∙ names_go flat.ByFunction ns fs h.0 h.2.0 h.2.2.0 h.2.1 h.2.2.1
    ∙ part _ _ s (flat.BoundSet flat.ByFunction ∷ fs) g.1.goes tt h.2.2.2 m.1 refl (λ n gs. refl)

pub function_goes : (at : Place) (bs : Bounds) (e : Tree) → BoundsGood bs → Goes e → Goes (tree.Function at bs e)
function_goes at bs e g ge fs o xs ys h =
    here ys fs flat.Other _
    (ap (λ v. flat.run v fs flat.Want) h.1
    ∙ function_bounds bs g fs h.0 h.2.0 h.2.2.0 h.2.1 h.2.2.1
    ∙ part _ _ e (flat.FunctionBody ∷ fs) ge tt h.2.2.2.1 h.2.2.2.2.1 refl (λ n gs. refl))

-- ---- records

is_false : {P : Type 0} (b : Bool) → (b ≡ true → P) → ¬ P → b ≡ false
is_false true f n = absurd (n (f refl))
is_false false f n = refl

or_false : (a b : Bool) → a ≡ false → b ≡ false → (a || b) ≡ false
or_false a b p q = cc

new_field : (n : List ℕ) (hs : Fields) → IsNew n hs → flat.has_name n (names_of hs) ≡ false
new_field n NoFields h = refl
new_field n (MoreFields hs m e) h =
    or_false (flat.has_name n (names_of hs)) (pointwise nat_eq n m) (new_field n hs h.0) (is_false (pointwise nat_eq n m) (λ q. (bytes_decides n m).0 q) h.1)

-- behind fields and their commas
abbrev fields_state : RecordKind → Fields → List flat.Row → List Laid → flat.Result
fields_state k NoFields fs xs = flat.run xs fs flat.BracketStart
fields_state k (MoreFields hs n e) fs xs = flat.run xs fs (flat.RecordName k (n ∷ names_of hs))

field_marked : (k : RecordKind) (ms : List (List ℕ)) (n : List ℕ) (fs : List flat.Row) (xs ys : List Laid) → sign (field_mark k) xs ys → flat.run xs fs (flat.RecordNamed k ms n) ≡ flat.run ys (flat.Record k (n ∷ ms) ∷ fs) flat.Want
field_marked records.Record ms n fs xs ys h = ap (λ v. flat.run v fs (flat.RecordNamed records.Record ms n)) h.1
field_marked records.Set ms n fs xs ys h = ap (λ v. flat.run v fs (flat.RecordNamed records.Set ms n)) h.1

field_begins : (k : RecordKind) (hs : Fields) (n : List ℕ) → IsNew n hs → (fs : List flat.Row) (xs ys zs : List Laid) → name n xs ys → sign (field_mark k) ys zs → fields_state k hs fs xs ≡ flat.run zs (flat.Record k (n ∷ names_of hs) ∷ fs) flat.Want
field_begins records.Record NoFields n i fs xs ys zs h m = ap (λ v. flat.run v fs flat.BracketStart) h.1 ∙ ap (λ v. flat.run v fs (flat.BracketName n)) m.1
field_begins records.Set NoFields n i fs xs ys zs h m = ap (λ v. flat.run v fs flat.BracketStart) h.1 ∙ ap (λ v. flat.run v fs (flat.BracketName n)) m.1
field_begins k (MoreFields hs p e) n i fs xs ys zs h m =
    ap (λ v. flat.run v fs (flat.RecordName k (p ∷ names_of hs))) h.1
    ∙ ap (λ b. flat.after (if b then flat.Stops else flat.Reads fs (flat.RecordNamed k (p ∷ names_of hs) n)) (plain (kinds.Name n) h.0 ∷ ys) (flat.run ys)) (new_field n (MoreFields hs p e) i)
    ∙ field_marked k (p ∷ names_of hs) n fs ys zs m

fields_before : (k : RecordKind) (hs : Fields) → FieldsGood hs → AreOnce hs → (fs : List flat.Row) (xs ys : List Laid) → FieldsBefore (field_mark k) hs xs ys → flat.run xs fs flat.BracketStart ≡ fields_state k hs fs ys
fields_before k NoFields g o fs xs ys h = ap (λ v. flat.run v fs flat.BracketStart) h
fields_before k (MoreFields hs n e) g o fs xs ys h =
    fields_before k hs g.0 o.0 fs xs h.0 h.1
    ∙ field_begins k hs n o.1 fs h.0 h.2.0 h.2.2.0 h.2.1 h.2.2.1
    ∙ part _ _ e (flat.Record k (n ∷ names_of hs) ∷ fs) g.1.goes tt h.2.2.2.1 h.2.2.2.2.1 refl (λ n gs. refl)

fields_go : (k : RecordKind) (hs : Fields) → FieldsGood hs → AreOnce hs → (fs : List flat.Row) (xs ys zs : List Laid) → FieldsText (field_mark k) hs xs ys → sign symbols.CloseBracket ys zs
    → flat.run xs fs flat.BracketStart ≡ flat.run zs fs (flat.Have flat.Other)
fields_go k NoFields g o fs xs ys zs h s = absurd h
fields_go k (MoreFields hs n e) g o fs xs ys zs h s =
    fields_before k hs g.0 o.0 fs xs h.0 h.1
    ∙ field_begins k hs n o.1 fs h.0 h.2.0 h.2.2.0 h.2.1 h.2.2.1
    ∙ part _ _ e (flat.Record k (n ∷ names_of hs) ∷ fs) g.1.goes tt h.2.2.2 s.1 refl (λ n gs. refl)

pub record_goes : (at : Place) (hs : Fields) → FieldsGood hs → Goes (tree.Record at hs)
record_goes at hs g fs o xs ys h = here ys fs flat.Other _ (ap (λ v. flat.run v fs flat.Want) h.1.1 ∙ fields_go records.Record hs g h.0 fs h.1.0 h.1.2.0 ys h.1.2.1 h.1.2.2)

pub record_set_goes : (at : Place) (hs : Fields) → FieldsGood hs → Goes (tree.RecordSet at hs)
record_set_goes at hs g fs o xs ys h = here ys fs flat.Other _ (ap (λ v. flat.run v fs flat.Want) h.1.1 ∙ fields_go records.Set hs g h.0 fs h.1.0 h.1.2.0 ys h.1.2.1 h.1.2.2)
