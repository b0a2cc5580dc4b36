-- Instances in the rest of a module: how far each goes, and why one is refused.
use Rattle.std.proofs.Common.{◌≡◌, ℕ, ◌<◌, Bool, true, false, List, [], ◌∷◌, ◌++◌, append_assoc, drop, length, Some, inl, inr, refl, sym, ap, subst, ◌∙◌}
use Rattle.base_core.specs.declared.place.Place.{Place}
use Rattle.reading_trees.specs.declared.laid.Laid.{Laid}
use Rattle.reading_trees.specs.declared.module.With.{With as ModuleWith}
use Rattle.reading_tokens.specs.declared.token.Kind.TheVariants as kinds
use Rattle.reading_tokens.specs.declared.token.Symbol.TheVariants as symbols
use Rattle.reading_tokens.specs.declared.token.Foreign.TheVariants as foreign
use Rattle.reading_trees.specs.Begun.{Begun}
use Rattle.reading_trees.specs.Fits.{Spells}
use Rattle.reading_trees.specs.Trees.{Tree}
use Rattle.reading_trees.specs.Grammar.{Span, ◌⨟◌, some_token, sign, name}
use Rattle.reading_trees.specs.Modules.{IsNoneOf, LaidEndsOnce}
use Rattle.reading_machine.specs.Beginnings.{FittingBegun}
use Rattle.reading_expressions.specs.Nesting.{Shallow}
use Rattle.reading_expressions.specs.Refusals.{GoesAsFar, IsRefused}
use Rattle.reading_expressions.specs.Unended.{EndedText, IsUnended}
use Rattle.reading_expressions.specs.Refused.{IsRefusedAt}
use Rattle.reading_expressions.specs.declared.fault.ParseFault.{ParseFault}
use Rattle.reading_expressions.specs.declared.fault.ParseFault.TheVariants.{Expected, Conflict, TooNested, OutOfProfile, NoMemory}
use Rattle.reading_units.specs.Marks.{first_mark}
use Rattle.reading_units.specs.Reads.{Leads, Lacks, Misses, RefusedIn, BegunBy, DeepExpression, DeepUnit, GivenSoFar, ShallowGiven}
use Rattle.reading_units.specs.Refusals.{Begins, BeginsThen, GivingText, InstanceHead, InstanceStart, ShallowUnit, ShallowWiths, SomeGiving, SomeGivings, SomeName, TooNestedBehind}
use Rattle.reading_units.specs.Rests.{◌▹◌, Then, Marked, Expression, InstanceBegins, NamePart, NamedLeft, GivenLeft, MoreLeft, ArrowLeft, Tail, names_of}
use Rattle.reading_units.specs.declared.marks.Mark.TheVariants as marks
use Rattle.reading_units.proofs.Extents.{passed, part_refused}
use Rattle.reading_units.proofs.Givens.{NoNewName, with_leads, name_leads, name_refused, fresh, fresh_new, arrow_begun, more_ending, some_more, comma_leads, no_comma, same_name}
use Rattle.reading_units.proofs.InstanceTokens.{NoBoth, three_lead}
use Rattle.reading_units.proofs.Leading.{leads_on, refused_on}
use Rattle.reading_units.proofs.Locals.{all_alone, before_any, local_mark, local_name}
use Rattle.reading_units.proofs.MarksTold.{plain}
use Rattle.reading_units.proofs.NamesRead.{marked_begun}
use Rattle.reading_units.proofs.Official.{marked_text}
use Rattle.reading_units.proofs.OfficialBack.{of_mark}
use Rattle.reading_units.proofs.Parts.{more_names_given}
use Rattle.reading_units.proofs.RestSteps.{token_leads, token_first, token_refused, misses_refused}
use Rattle.reading_units.proofs.ShallowGivens.{GivenThen, deep_as, deep_after, given_comma, given_next, given_none, local_giving, local_start, withs_deep, withs_shallow}
use Rattle.reading_units.proofs.ShallowRead.{shallow_after}
use Rattle.reading_units.proofs.Stages.{begun_then}
use Rattle.reading_units.proofs.TailSteps.{some_tail, last_tokens, tail_name}
use Rattle.reading_units.proofs.TextKinds.{expression_kind, expression_open}
use Rattle.reading_units.proofs.UnitsRead.{Laws, last_of}

-- what stands too deep behind the names given before, and what is held of the tokens before a refused one
abbrev DeepGiving : List (List ℕ) → List Laid → Place → Type 0
DeepGiving before xs p = TooNestedBehind (SomeGiving before) xs p

abbrev InGiving : List (List ℕ) → List Laid → Type 0
InGiving before = BeginsThen (SomeGiving before) Shallow

abbrev With : Span
With = some_token (kinds.Foreign foreign.With)

abbrev InWiths : List Laid → Type 0
InWiths = BeginsThen With ShallowWiths

-- refused there
abbrev pub RefusedGiven : List (List ℕ) → List Laid → ParseFault → Type 0
RefusedGiven before xs e = RefusedIn (GivenLeft before) (TooNestedBehind (SomeGiving before) xs) (BeginsThen (SomeGiving before) Shallow) xs e

abbrev pub RefusedWiths : List Laid → ParseFault → Type 0
RefusedWiths xs e = RefusedIn NamedLeft (TooNestedBehind (some_token (kinds.Foreign foreign.With) ⨟ SomeGivings) xs) (BeginsThen (some_token (kinds.Foreign foreign.With)) ShallowWiths) xs e

-- ---- a name that is given

abbrev arrow_token : Laid
arrow_token = plain (kinds.Symbol symbols.LeftArrow)

is_arrow : (l : List Laid) → sign symbols.LeftArrow (arrow_token ∷ l) l
is_arrow l = (_, refl)

giving_begun : (before : List (List ℕ)) → Begins (SomeGiving before) []
giving_begun before = (plain (kinds.Name (fresh before)) ∷ arrow_token ∷ [], (fresh before, (fresh_new before, (arrow_token ∷ [], (_, refl), is_arrow []))))

-- no name stands there that was not given
pub old_refused : (before : List (List ℕ)) (xs : List Laid) (e : ParseFault) → NoNewName before xs → IsRefusedAt xs e → RefusedGiven before xs e
old_refused before xs e absent r = name_refused before (DeepGiving before xs) (InGiving before) xs e (inl (giving_begun before)) absent r

-- no name at all stands there
pub no_name : (before : List (List ℕ)) (xs : List Laid) → Lacks marks.Name xs → NoNewName before xs
no_name before xs l n ws new h = l (token_first marks.Name xs ws (of_mark marks.Name xs ws (n, h)))

-- one stands there that was given
pub old_name : (before : List (List ℕ)) (m : List ℕ) (xs vs : List Laid) → name m xs vs → (IsNoneOf before m → ⊥) → NoNewName before xs
old_name before m [] vs h not n ws new g = absurd (let q = g.1 in cc)
old_name before m (x ∷ xs) vs h not n ws new g = not (subst (IsNoneOf before) (same_name n m x xs ws xs vs g h) new)

pub missed_refused : (before : List (List ℕ)) (xs : List Laid) (e : ParseFault) → Misses marks.Name xs e → RefusedGiven before xs e
missed_refused before xs NoMemory m = tt
missed_refused before xs (Expected p) m = old_refused before xs (Expected p) (no_name before xs m.0) m.1
missed_refused before xs (OutOfProfile f p) m = old_refused before xs (OutOfProfile f p) (no_name before xs m.0) m.1
missed_refused before xs (Conflict p q) m = old_refused before xs (Conflict p q) (no_name before xs m.0) m.1
missed_refused before xs (TooNested p) m = old_refused before xs (TooNested p) (no_name before xs m.0) m.1

begun_giving : (before : List (List ℕ)) (n : List ℕ) (xs ws text : List Laid) → IsNoneOf before n → name n xs ws → xs ≡ text ++ ws → (l : List Laid) → l ≡ [] → InGiving before (text ++ l)
begun_giving before n xs ws text new h e l q =
    let named : name n (text ++ (l ++ arrow_token ∷ [])) (l ++ arrow_token ∷ []) = before_any (name n) (local_name n) xs ws text h e (l ++ arrow_token ∷ []) in
    let arrow : sign symbols.LeftArrow (l ++ arrow_token ∷ []) [] = subst (λ v. sign symbols.LeftArrow (v ++ arrow_token ∷ []) []) (sym q) (is_arrow []) in
    let whole : SomeGiving before (text ++ (l ++ arrow_token ∷ [])) [] = (n, (new, (l ++ arrow_token ∷ [], named, arrow))) in
    inl (arrow_token ∷ [], subst (λ v. SomeGiving before v []) (sym (append_assoc text l (arrow_token ∷ []))) whole)

pub arrow_refused : (before : List (List ℕ)) (n : List ℕ) (xs ws : List Laid) (e : ParseFault) → IsNoneOf before n → name n xs ws → Lacks marks.Arrow ws → IsRefusedAt ws e → RefusedGiven before xs e
arrow_refused before n xs ws e new h l r =
    let there : Leads (GivenLeft before) (ArrowLeft before n) xs ws = name_leads before n xs ws new h in
    let first : RefusedIn (ArrowLeft before n) (λ p. ⊥) (λ l. l ≡ []) ws e = token_refused marks.Arrow (Then Expression (MoreLeft (before ++ n ∷ []))) (λ p. ⊥) (λ l. l ≡ []) ws e refl (arrow_begun before n) l r in
    refused_on (GivenLeft before) (ArrowLeft before n) (DeepGiving before xs) (λ p. ⊥) (InGiving before) (λ l. l ≡ []) xs ws e there (λ p d. absurd d) (begun_giving before n xs ws there.text new h there.whole) first

-- ---- the expression behind it

giving_leads : (before : List (List ℕ)) (n : List ℕ) (xs ws ys : List Laid) → IsNoneOf before n → name n xs ws → Marked marks.Arrow ws ys → Leads (GivenLeft before) (Then Expression (MoreLeft (before ++ n ∷ []))) xs ys
giving_leads before n xs ws ys new h a = leads_on (GivenLeft before) (ArrowLeft before n) (Then Expression (MoreLeft (before ++ n ∷ []))) xs ws ys (name_leads before n xs ws new h) (token_leads marks.Arrow (Then Expression (MoreLeft (before ++ n ∷ []))) ws ys a)

pub giving_text : (before : List (List ℕ)) (n : List ℕ) (xs ws ys : List Laid) → IsNoneOf before n → name n xs ws → Marked marks.Arrow ws ys → GivingText before n xs ys
giving_text before n xs ws ys new h a = (new, (ws, h, marked_text marks.Arrow ws ys a))

pub given_far : Laws → (before : List (List ℕ)) (n : List ℕ) (e : Tree) (laid xs ws : List Laid) (start behind : ℕ) → IsNoneOf before n → name n xs ws → Marked marks.Arrow ws (drop start laid) → Spells e (drop start laid) (drop behind laid) → GoesAsFar Begun FittingBegun Shallow laid start behind → Leads (GivenLeft before) (MoreLeft (before ++ n ∷ [])) xs (drop behind laid)
given_far k before n e laid xs ws start behind new h a s g =
    let p = passed Expression Begun FittingBegun (expression_kind k.local k.none_follows k.no_mark) (MoreLeft (before ++ n ∷ [])) (more_ending (before ++ n ∷ [])) (drop start laid) (drop behind laid) g.1 g.0 Shallow (e, s.text, s.fits) g.2 g.3 in
    leads_on (GivenLeft before) (Then Expression (MoreLeft (before ++ n ∷ []))) (MoreLeft (before ++ n ∷ [])) xs (drop start laid) (drop behind laid) (giving_leads before n xs ws (drop start laid) new h a) p.0

expression_deep : (before : List (List ℕ)) (n : List ℕ) (xs ys text : List Laid) → GivingText before n xs ys → xs ≡ text ++ ys → (p : Place) → DeepExpression ys p → DeepGiving before xs p
expression_deep before n xs ys text h e p d = record { before = text; body = ys; whole = e; part = (n, all_alone (GivingText before n) (local_giving before n) xs ys text h e); deep = d }

expression_held : (before : List (List ℕ)) (n : List ℕ) (xs ys text : List Laid) → GivingText before n xs ys → xs ≡ text ++ ys → (l : List Laid) → Shallow l → InGiving before (text ++ l)
expression_held before n xs ys text h e l s = inr (l, (n, before_any (GivingText before n) (local_giving before n) xs ys text h e l), s)

pub by_refused : Laws → (before : List (List ℕ)) (n : List ℕ) (laid xs ws : List Laid) (start : ℕ) (e : ParseFault) → LaidEndsOnce laid → start < length laid → IsNoneOf before n → name n xs ws → Marked marks.Arrow ws (drop start laid) → IsRefused Begun FittingBegun Shallow (drop start laid) e × IsUnended EndedText (drop start laid) e → RefusedGiven before xs e
by_refused k before n laid xs ws start e ends inside new h a r =
    let there : RefusedIn (Then Expression (MoreLeft (before ++ n ∷ []))) (DeepExpression (drop start laid)) Shallow (drop start laid) e =
    part_refused Expression Begun FittingBegun (expression_kind k.local k.none_follows k.no_mark) (MoreLeft (before ++ n ∷ [])) (more_ending (before ++ n ∷ [])) last_tokens (some_more (before ++ n ∷ []) false) (some_more (before ++ n ∷ []) true) Shallow (drop start laid) e (last_of laid start ends inside) (expression_open (drop start laid) e r.1) r.0 in
    let leads : Leads (GivenLeft before) (Then Expression (MoreLeft (before ++ n ∷ []))) xs (drop start laid) = giving_leads before n xs ws (drop start laid) new h a in
    let text : GivingText before n xs (drop start laid) = giving_text before n xs ws (drop start laid) new h a in
    refused_on (GivenLeft before) (Then Expression (MoreLeft (before ++ n ∷ []))) (DeepGiving before xs) (DeepExpression (drop start laid)) (InGiving before) Shallow xs (drop start laid) e leads (expression_deep before n xs (drop start laid) leads.text text leads.whole) (expression_held before n xs (drop start laid) leads.text text leads.whole) there

-- ---- WITH, and one name behind another

pub withs_first : (n : List ℕ) (xs ys zs : List Laid) → Marked marks.With xs ys → Leads (GivenLeft []) (MoreLeft (n ∷ [])) ys zs → Leads NamedLeft (MoreLeft (n ∷ [])) xs zs
withs_first n xs ys zs w h = leads_on NamedLeft (GivenLeft []) (MoreLeft (n ∷ [])) xs ys zs (with_leads xs ys w) h

pub withs_next : (names more : List (List ℕ)) (xs ys zs ws : List Laid) → Leads NamedLeft (MoreLeft names) xs ys → Marked marks.Comma ys zs → Leads (GivenLeft names) (MoreLeft more) zs ws → Leads NamedLeft (MoreLeft more) xs ws
withs_next names more xs ys zs ws h c g = leads_on NamedLeft (MoreLeft names) (MoreLeft more) xs ys ws h (leads_on (MoreLeft names) (GivenLeft names) (MoreLeft more) ys zs ws (comma_leads names ys zs c) g)

pub withs_end : (names : List (List ℕ)) (xs ys : List Laid) → Leads NamedLeft (MoreLeft names) xs ys → Lacks marks.Comma ys → Leads NamedLeft Tail xs ys
withs_end names xs ys h l = leads_on NamedLeft (MoreLeft names) Tail xs ys ys h (no_comma names ys l)

then_refused : (names : List (List ℕ)) (xs ys : List Laid) (e : ParseFault) → GivenThen names xs ys → Leads NamedLeft (GivenLeft names) xs ys → RefusedGiven names ys e → RefusedWiths xs e
then_refused names xs ys e g h r =
    refused_on NamedLeft (GivenLeft names) (TooNestedBehind (With ⨟ SomeGivings) xs) (DeepGiving names ys) InWiths (InGiving names) xs ys e h (withs_deep names xs ys h.text g h.whole) (withs_shallow names xs ys h.text g h.whole) r

pub withs_first_refused : (xs ys : List Laid) (e : ParseFault) → Marked marks.With xs ys → RefusedGiven [] ys e → RefusedWiths xs e
withs_first_refused xs ys e w r = then_refused [] xs ys e (given_none xs ys (marked_text marks.With xs ys w)) (with_leads xs ys w) r

pub withs_next_refused : (names : List (List ℕ)) (xs ys zs : List Laid) (e : ParseFault) → GivenSoFar names xs ys → Leads NamedLeft (MoreLeft names) xs ys → Marked marks.Comma ys zs → RefusedGiven names zs e → RefusedWiths xs e
withs_next_refused names xs ys zs e g h c r =
    then_refused names xs zs e (given_comma names xs ys zs g (marked_text marks.Comma ys zs c)) (leads_on NamedLeft (MoreLeft names) (GivenLeft names) xs ys zs h (comma_leads names ys zs c)) r

-- ---- instances

abbrev InModule : List Laid → Type 0
InModule = BeginsThen (SomeName ⨟ With) ShallowWiths

abbrev DeepModule : List Laid → Place → Type 0
DeepModule xs p = TooNestedBehind (SomeName ⨟ With ⨟ SomeGivings) xs p

pub start_text : (xs ys : List Laid) → InstanceBegins xs ys → InstanceStart xs ys
start_text xs ys h = (h.0, marked_text marks.Name xs h.0 h.1, (h.2.0, marked_text marks.Defined h.0 h.2.0 h.2.1, marked_text marks.Instance h.2.0 ys h.2.2))

begins_name : (xs ys : List Laid) → InstanceBegins xs ys → first_mark xs ≡ Some marks.Name
begins_name xs ys h = token_first marks.Name xs h.0 h.1

begun_leads : NoBoth → (xs ys : List Laid) → InstanceBegins xs ys → Leads Tail (Marked marks.Name ▹ NamedLeft) xs ys
begun_leads none xs ys h = leads_on Tail (Then NamePart Tail) (Marked marks.Name ▹ NamedLeft) xs xs ys (tail_name xs (begins_name xs ys h)) (three_lead none xs ys h)

pub instance_far : NoBoth → (xs ys zs ws : List Laid) → InstanceBegins xs ys → Marked marks.Name ys zs → Leads NamedLeft Tail zs ws → Leads Tail Tail xs ws
instance_far none xs ys zs ws h m g =
    leads_on Tail (Marked marks.Name ▹ NamedLeft) Tail xs ys ws (begun_leads none xs ys h) (leads_on (Marked marks.Name ▹ NamedLeft) NamedLeft Tail ys zs ws (token_leads marks.Name NamedLeft ys zs m) g)

deep_instance : (xs ys text : List Laid) → InstanceStart xs ys → xs ≡ text ++ ys → (p : Place) → DeepModule ys p → DeepUnit xs p
deep_instance xs ys text h e p d =
    inr (inr (deep_as (InstanceStart ⨟ SomeName ⨟ With ⨟ SomeGivings) (InstanceHead ⨟ SomeGivings) (λ l g. (g.2.2.0, (g.0, g.1, (g.2.0, g.2.1, g.2.2.1)), g.2.2.2)) xs p (deep_after InstanceStart (SomeName ⨟ With ⨟ SomeGivings) local_start xs ys text h e p d)))

held_instance : (xs ys text : List Laid) → InstanceStart xs ys → xs ≡ text ++ ys → (l : List Laid) → InModule l → ShallowUnit (text ++ l)
held_instance xs ys text h e l s = inr (inr (inr (shallow_after InstanceStart (SomeName ⨟ With) ShallowWiths local_start xs ys text h e l s)))

instance_refused : NoBoth → (xs ys : List Laid) (e : ParseFault) → InstanceBegins xs ys → RefusedIn (Marked marks.Name ▹ NamedLeft) (DeepModule ys) InModule ys e → RefusedIn Tail (DeepUnit xs) ShallowUnit xs e
instance_refused none xs ys e h r =
    let there : Leads Tail (Marked marks.Name ▹ NamedLeft) xs ys = begun_leads none xs ys h in
    let text : InstanceStart xs ys = start_text xs ys h in
    refused_on Tail (Marked marks.Name ▹ NamedLeft) (DeepUnit xs) (DeepModule ys) ShallowUnit InModule xs ys e there (deep_instance xs ys there.text text there.whole) (held_instance xs ys there.text text there.whole) r

-- the name that stands first is never missed
pub own_refused : (xs ys : List Laid) (e : ParseFault) → InstanceBegins xs ys → Misses marks.Name xs e → RefusedIn Tail (DeepUnit xs) ShallowUnit xs e
own_refused xs ys NoMemory h m = tt
own_refused xs ys (Expected p) h m = absurd (m.0 (begins_name xs ys h))
own_refused xs ys (OutOfProfile f p) h m = absurd (m.0 (begins_name xs ys h))
own_refused xs ys (Conflict p q) h m = absurd (m.0 (begins_name xs ys h))
own_refused xs ys (TooNested p) h m = absurd (m.0 (begins_name xs ys h))

named_begun : (fit : Bool) → BegunBy (Marked marks.Name ▹ NamedLeft) fit []
named_begun fit = marked_begun marks.Name NamedLeft fit last_tokens (last_tokens, inl refl, some_tail fit)

-- the name of a module does not stand there
pub module_refused : NoBoth → (xs ys : List Laid) (e : ParseFault) → InstanceBegins xs ys → Misses marks.Name ys e → RefusedIn Tail (DeepUnit xs) ShallowUnit xs e
module_refused none xs ys e h m =
    let begun : InModule [] = inl (begun_then marks.Name With (plain (kinds.Foreign foreign.With) ∷ [], (_, refl))) in
    instance_refused none xs ys e h (misses_refused marks.Name NamedLeft (DeepModule ys) InModule ys e begun named_begun m)

pub given_refused : NoBoth → (xs ys zs : List Laid) (e : ParseFault) → InstanceBegins xs ys → Marked marks.Name ys zs → RefusedWiths zs e → RefusedIn Tail (DeepUnit xs) ShallowUnit xs e
given_refused none xs ys zs e h m r =
    let there : Leads (Marked marks.Name ▹ NamedLeft) NamedLeft ys zs = token_leads marks.Name NamedLeft ys zs m in
    let named : SomeName ys zs = marked_text marks.Name ys zs m in
    let deep : (p : Place) → TooNestedBehind (With ⨟ SomeGivings) zs p → DeepModule ys p = deep_after SomeName (With ⨟ SomeGivings) (local_mark marks.Name) ys zs there.text named there.whole in
    let held : (l : List Laid) → InWiths l → InModule (there.text ++ l) = shallow_after SomeName With ShallowWiths (local_mark marks.Name) ys zs there.text named there.whole in
    instance_refused none xs ys e h (refused_on (Marked marks.Name ▹ NamedLeft) NamedLeft (DeepModule ys) (TooNestedBehind (With ⨟ SomeGivings) zs) InModule InWiths ys zs e there deep held r)

-- ---- the list that is read, one behind another

-- what was given first: the list before it was empty
pub first_so_far : (bs ws : List ModuleWith) (w : ModuleWith) (xs ys zs : List Laid) → bs ≡ [] → Marked marks.With xs ys → ShallowGiven (names_of bs) w.name ys zs → ws ≡ bs ++ w ∷ [] → GivenSoFar (names_of ws) xs zs
first_so_far bs ws w xs ys zs q m g e =
    given_next [] (names_of ws) w.name xs ys zs (given_none xs ys (marked_text marks.With xs ys m)) (subst (λ v. ShallowGiven (names_of v) w.name ys zs) q g) (ap names_of (e ∙ ap (λ v. v ++ w ∷ []) q))

pub next_so_far : (ws vs : List ModuleWith) (w : ModuleWith) (xs ys zs us : List Laid) → GivenSoFar (names_of ws) xs ys → Marked marks.Comma ys zs → ShallowGiven (names_of ws) w.name zs us → vs ≡ ws ++ w ∷ [] → GivenSoFar (names_of vs) xs us
next_so_far ws vs w xs ys zs us g m s e =
    given_next (names_of ws) (names_of vs) w.name xs zs us (given_comma (names_of ws) xs ys zs g (marked_text marks.Comma ys zs m)) s (more_names_given ws vs w e)

pub first_far : (bs ws : List ModuleWith) (w : ModuleWith) (xs ys zs : List Laid) → bs ≡ [] → Marked marks.With xs ys → Leads (GivenLeft (names_of bs)) (MoreLeft (names_of bs ++ w.name ∷ [])) ys zs → ws ≡ bs ++ w ∷ [] → Leads NamedLeft (MoreLeft (names_of ws)) xs zs
first_far bs ws w xs ys zs q m h e =
    let there : Leads (GivenLeft []) (MoreLeft (w.name ∷ [])) ys zs = subst (λ v. Leads (GivenLeft (names_of v)) (MoreLeft (names_of v ++ w.name ∷ [])) ys zs) q h in
    let same : names_of ws ≡ w.name ∷ [] = ap names_of (e ∙ ap (λ v. v ++ w ∷ []) q) in
    subst (λ v. Leads NamedLeft (MoreLeft v) xs zs) (sym same) (withs_first w.name xs ys zs m there)

pub next_far : (ws vs : List ModuleWith) (w : ModuleWith) (xs ys zs us : List Laid) → Leads NamedLeft (MoreLeft (names_of ws)) xs ys → Marked marks.Comma ys zs → Leads (GivenLeft (names_of ws)) (MoreLeft (names_of ws ++ w.name ∷ [])) zs us → vs ≡ ws ++ w ∷ [] → Leads NamedLeft (MoreLeft (names_of vs)) xs us
next_far ws vs w xs ys zs us h m g e =
    withs_next (names_of ws) (names_of vs) xs ys zs us h m (subst (λ v. Leads (GivenLeft (names_of ws)) (MoreLeft v) zs us) (sym (more_names_given ws vs w e)) g)

pub first_given_refused : (bs : List ModuleWith) (xs ys : List Laid) (e : ParseFault) → bs ≡ [] → Marked marks.With xs ys → RefusedGiven (names_of bs) ys e → RefusedWiths xs e
first_given_refused bs xs ys e q m r = withs_first_refused xs ys e m (subst (λ v. RefusedGiven (names_of v) ys e) q r)
