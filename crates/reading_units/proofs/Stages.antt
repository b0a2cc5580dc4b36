-- The parts of a module one behind another, and a refusal at each.
use Rattle.std.proofs.Common.{◌≡◌, ℕ, true, false, List, [], ◌∷◌, ◌++◌, append_assoc, inl, refl, sym, ap, subst, ◌∙◌, Bool}
use Rattle.base_core.specs.declared.place.Place.{Place}
use Rattle.reading_trees.specs.declared.laid.Laid.{Laid}
use Rattle.reading_trees.specs.declared.laid.Laid.TheVariants.{Plain, ListOpen, ListItem, ListClose}
use Rattle.reading_tokens.specs.declared.token.Kind.TheVariants as kinds
use Rattle.reading_trees.specs.Grammar.{Span, ◌⨟◌, some_token}
use Rattle.reading_trees.specs.Modules.{ExtendsText}
use Rattle.reading_expressions.specs.declared.fault.ParseFault.{ParseFault}
use Rattle.reading_expressions.specs.Refused.{IsRefusedAt}
use Rattle.reading_units.specs.Marks.{begins_end}
use Rattle.reading_units.specs.Parts.{MarkText}
use Rattle.reading_units.specs.Refusals.{Begins, HeadingText, IsRefusedModule, ShallowModule, ShallowUnit, ShallowUnits, ShallowWholeUnits, SomeExtends}
use Rattle.reading_units.specs.Reads.{SameHead, Leads, Lacks, Misses, RefusedIn, NeverDeep, DeepUnits}
use Rattle.reading_units.specs.Rests.{Rest, ◌▹◌, Marked, Extended, AtEnd, Last, Tail, Whole}
use Rattle.reading_units.specs.declared.marks.Mark.{Mark}
use Rattle.reading_units.specs.declared.marks.Mark.TheVariants as marks
use Rattle.reading_units.proofs.Leading.{leads_nothing, refused_on, stay}
use Rattle.reading_units.proofs.Locals.{local_mark}
use Rattle.reading_units.proofs.MarksTold.{plain, kind_with, has_mark}
use Rattle.reading_units.proofs.NamesRead.{marked_begun}
use Rattle.reading_units.proofs.Official.{marked_text}
use Rattle.reading_units.proofs.RefusedModule.{refused_module}
use Rattle.reading_units.proofs.RestSteps.{token_leads, token_refused, misses_refused, refused_first}
use Rattle.reading_units.proofs.ShallowRead.{ShallowBehind, shallow_nothing, shallow_units, shallow_equals, shallow_behind, shallow_extended, extends_begun}
use Rattle.reading_units.proofs.TailSteps.{some_tail, some_last, last_tokens}

abbrev Body : Rest
Body = Extended ▹ Tail

abbrev Second : Rest
Second = Marked marks.Dashes ▹ Body

abbrev Called : Rest
Called = Marked marks.Name ▹ Second

abbrev Worded : Rest
Worded = Marked marks.Heading ▹ Called

-- ---- what is held at each stage

abbrev InBody : List Laid → Type 0
InBody = ShallowBehind SomeExtends

abbrev InSecond : List Laid → Type 0
InSecond = ShallowBehind (MarkText marks.Dashes ⨟ SomeExtends)

abbrev InCalled : List Laid → Type 0
InCalled = ShallowBehind (MarkText marks.Name ⨟ MarkText marks.Dashes ⨟ SomeExtends)

abbrev InWorded : List Laid → Type 0
InWorded = ShallowBehind (MarkText marks.Heading ⨟ MarkText marks.Name ⨟ MarkText marks.Dashes ⨟ SomeExtends)

-- refused in such a rest, with what is held there
abbrev RefusedWith : Rest → (List Laid → Type 0) → List Laid → ParseFault → Type 0
RefusedWith T H xs e = RefusedIn T (DeepUnits T H xs) H xs e

-- ---- one stage behind another

deep_on : (T U : Rest) (H J : List Laid → Type 0) (xs ys : List Laid) (p : Place) → (h : Leads T U xs ys) → ((l : List Laid) → J l → H (h.text ++ l)) → DeepUnits U J ys p → DeepUnits T H xs p
deep_on T U H J xs ys p h held d = record {
  before = h.text ++ d.before;
  body = d.body;
  whole = h.whole ∙ ap (λ v. h.text ++ v) d.whole ∙ sym (append_assoc h.text d.before d.body);
  units = λ zs t. subst (T true) (sym (append_assoc h.text d.before zs)) (h.goes true (d.before ++ zs) (d.units zs t));
  shallow = held d.before d.shallow;
  deep = d.deep;
}

stage : (T U : Rest) (H J : List Laid → Type 0) (xs ys : List Laid) (e : ParseFault) → (h : Leads T U xs ys) → ((l : List Laid) → J l → H (h.text ++ l)) → RefusedWith U J ys e → RefusedWith T H xs e
stage T U H J xs ys e h held r = refused_on T U (DeepUnits T H xs) (DeepUnits U J ys) H J xs ys e h (λ p d. deep_on T U H J xs ys p h held d) held r

token_stage : (m : Mark) (B : Span) (U : Rest) (xs ys : List Laid) (e : ParseFault) → Marked m xs ys → RefusedWith U (ShallowBehind B) ys e → RefusedWith (Marked m ▹ U) (ShallowBehind (MarkText m ⨟ B)) xs e
token_stage m B U xs ys e h r =
    let there : Leads (Marked m ▹ U) U xs ys = token_leads m U xs ys h in
    stage (Marked m ▹ U) U (ShallowBehind (MarkText m ⨟ B)) (ShallowBehind B) xs ys e there (shallow_behind (MarkText m) B (local_mark m) xs ys there.text (marked_text m xs ys h) there.whole) r

behind_dashes : (l a : List Laid) (e : ParseFault) → Marked marks.Dashes l a → RefusedWith Worded InWorded a e → IsRefusedModule l e
behind_dashes l a e h r = refused_module l e (token_stage marks.Dashes (MarkText marks.Heading ⨟ MarkText marks.Name ⨟ MarkText marks.Dashes ⨟ SomeExtends) Worded l a e h r)

behind_word : (l a b : List Laid) (e : ParseFault) → Marked marks.Dashes l a → Marked marks.Heading a b → RefusedWith Called InCalled b e → IsRefusedModule l e
behind_word l a b e h g r = behind_dashes l a e h (token_stage marks.Heading (MarkText marks.Name ⨟ MarkText marks.Dashes ⨟ SomeExtends) Called a b e g r)

behind_name : (l a b c : List Laid) (e : ParseFault) → Marked marks.Dashes l a → Marked marks.Heading a b → Marked marks.Name b c → RefusedWith Second InSecond c e → IsRefusedModule l e
behind_name l a b c e h g n r = behind_word l a b e h g (token_stage marks.Name (MarkText marks.Dashes ⨟ SomeExtends) Second b c e n r)

-- the first line of a module stands from the one list to the other
pub record Heads (l d : List Laid) : Type 0 where
  pub at_word : List Laid
  pub at_name : List Laid
  pub at_second : List Laid
  pub first : Marked marks.Dashes l at_word
  pub heading : Marked marks.Heading at_word at_name
  pub called : Marked marks.Name at_name at_second
  pub second : Marked marks.Dashes at_second d

pub headed : (l a b c d : List Laid) → Marked marks.Dashes l a → Marked marks.Heading a b → Marked marks.Name b c → Marked marks.Dashes c d → Heads l d
headed l a b c d h g n s = record { at_word = a; at_name = b; at_second = c; first = h; heading = g; called = n; second = s }

behind_heading : (l d : List Laid) (e : ParseFault) → Heads l d → RefusedWith Body InBody d e → IsRefusedModule l e
behind_heading l d e h r = behind_name l h.at_word h.at_name h.at_second e h.first h.heading h.called (token_stage marks.Dashes SomeExtends Body h.at_second d e h.second r)

-- the same with what it extends
pub record HeadsUnits (l f : List Laid) : Type 0 where
  pub at_extends : List Laid
  pub heads : Heads l at_extends
  pub names : List (List ℕ)
  pub extends : ExtendsText names at_extends f
  pub far : Leads (Extended ▹ Tail) Tail at_extends f

pub behind_extends : (l d f : List Laid) (names : List (List ℕ)) → Heads l d → ExtendsText names d f → Leads (Extended ▹ Tail) Tail d f → HeadsUnits l f
behind_extends l d f names h x far = record { at_extends = d; heads = h; names = names; extends = x; far = far }

pub no_units : (l f : List Laid) (e : ParseFault) → HeadsUnits l f → RefusedIn Tail (DeepUnits Tail ShallowUnits f) ShallowUnits f e → IsRefusedModule l e
no_units l f e h r = behind_heading l h.at_extends e h.heads (stage Body Tail InBody ShallowUnits h.at_extends f e h.far (shallow_extended h.at_extends f h.far.text (h.names, h.extends) h.far.whole) r)

-- the same with its units
pub record HeadsLast (l g : List Laid) : Type 0 where
  pub at_units : List Laid
  pub heads : HeadsUnits l at_units
  pub units : ShallowWholeUnits at_units g
  pub far : Leads Tail Last at_units g

pub behind_units : (l f g : List Laid) → HeadsUnits l f → ShallowWholeUnits f g → Leads Tail Last f g → HeadsLast l g
behind_units l f g h s t = record { at_units = f; heads = h; units = s; far = t }

behind_all_units : (l g : List Laid) (e : ParseFault) → HeadsLast l g → RefusedWith Last ShallowUnit g e → IsRefusedModule l e
behind_all_units l g e h r = no_units l h.at_units e h.heads (stage Tail Last ShallowUnits ShallowUnit h.at_units g e h.far (shallow_units h.at_units g h.far.text h.units h.far.whole) r)

-- ---- refusals

some_body : (fit : Bool) → Body fit last_tokens
some_body fit = (last_tokens, inl refl, some_tail fit)

some_second : (fit : Bool) → Second fit (plain (kind_with marks.Dashes) ∷ last_tokens)
some_second fit = (last_tokens, (has_mark marks.Dashes, refl), some_body fit)

some_called : (fit : Bool) → Called fit (plain (kind_with marks.Name) ∷ plain (kind_with marks.Dashes) ∷ last_tokens)
some_called fit = (plain (kind_with marks.Dashes) ∷ last_tokens, (has_mark marks.Name, refl), some_second fit)

some_worded : (fit : Bool) → Worded fit (plain (kind_with marks.Heading) ∷ plain (kind_with marks.Name) ∷ plain (kind_with marks.Dashes) ∷ last_tokens)
some_worded fit = (plain (kind_with marks.Name) ∷ plain (kind_with marks.Dashes) ∷ last_tokens, (has_mark marks.Heading, refl), some_called fit)

-- a token of a mark begins a part that begins with one
pub begun_then : (m : Mark) (B : Span) → Begins B [] → Begins (MarkText m ⨟ B) []
begun_then m B b = (plain (kind_with m) ∷ b.0, (b.0, marked_text m (plain (kind_with m) ∷ b.0) b.0 (has_mark m, refl), b.1))

begun_extends : Begins SomeExtends []
begun_extends = ([], ([], refl))

begun_second : Begins (MarkText marks.Dashes ⨟ SomeExtends) []
begun_second = begun_then marks.Dashes SomeExtends begun_extends

begun_called : Begins (MarkText marks.Name ⨟ MarkText marks.Dashes ⨟ SomeExtends) []
begun_called = begun_then marks.Name (MarkText marks.Dashes ⨟ SomeExtends) begun_second

begun_worded : Begins (MarkText marks.Heading ⨟ MarkText marks.Name ⨟ MarkText marks.Dashes ⨟ SomeExtends) []
begun_worded = begun_then marks.Heading (MarkText marks.Name ⨟ MarkText marks.Dashes ⨟ SomeExtends) begun_called

begun_whole : Begins HeadingText []
begun_whole = begun_then marks.Dashes (MarkText marks.Heading ⨟ MarkText marks.Name ⨟ MarkText marks.Dashes ⨟ SomeExtends) begun_worded

pub no_dashes : (l : List Laid) (e : ParseFault) → Lacks marks.Dashes l → IsRefusedAt l e → IsRefusedModule l e
no_dashes l e k r = refused_module l e (token_refused marks.Dashes Worded (DeepUnits Whole ShallowModule l) ShallowModule l e (inl begun_whole) (λ fit. marked_begun marks.Dashes Worded fit (plain (kind_with marks.Heading) ∷ plain (kind_with marks.Name) ∷ plain (kind_with marks.Dashes) ∷ last_tokens) (some_worded fit)) k r)

pub no_heading : (l a : List Laid) (e : ParseFault) → Marked marks.Dashes l a → Lacks marks.Heading a → IsRefusedAt a e → IsRefusedModule l e
no_heading l a e h k r = behind_dashes l a e h (token_refused marks.Heading Called (DeepUnits Worded InWorded a) InWorded a e (inl begun_worded) (λ fit. marked_begun marks.Heading Called fit (plain (kind_with marks.Name) ∷ plain (kind_with marks.Dashes) ∷ last_tokens) (some_called fit)) k r)

pub no_name : (l a b : List Laid) (e : ParseFault) → Marked marks.Dashes l a → Marked marks.Heading a b → Misses marks.Name b e → IsRefusedModule l e
no_name l a b e h g m = behind_word l a b e h g (misses_refused marks.Name Second (DeepUnits Called InCalled b) InCalled b e (inl begun_called) (λ fit. marked_begun marks.Name Second fit (plain (kind_with marks.Dashes) ∷ last_tokens) (some_second fit)) m)

pub no_second : (l a b c : List Laid) (e : ParseFault) → Marked marks.Dashes l a → Marked marks.Heading a b → Marked marks.Name b c → Lacks marks.Dashes c → IsRefusedAt c e → IsRefusedModule l e
no_second l a b c e h g n k r = behind_name l a b c e h g n (token_refused marks.Dashes Body (DeepUnits Second InSecond c) InSecond c e (inl begun_second) (λ fit. marked_begun marks.Dashes Body fit last_tokens (some_body fit)) k r)

pub no_extends : (l d : List Laid) (e : ParseFault) → Heads l d → RefusedIn (Extended ▹ Tail) NeverDeep (Begins Extended) d e → IsRefusedModule l e
no_extends l d e h r =
    let here : Leads Body Body d d = leads_nothing Body d in
    behind_heading l d e h (refused_on Body Body (DeepUnits Body InBody d) NeverDeep InBody (Begins Extended) d d e here (λ p n. absurd n) (λ x b. stay InBody d here.text here.whole x (extends_begun x b)) r)

pub no_equals : (l g : List Laid) (e : ParseFault) → HeadsLast l g → Lacks marks.Equals g → IsRefusedAt g e → IsRefusedModule l e
no_equals l g e h k r = behind_all_units l g e h (token_refused marks.Equals AtEnd (DeepUnits Last ShallowUnit g) ShallowUnit g e shallow_nothing (λ fit. (last_tokens, some_last fit)) k r)

end_begins : (zs : List Laid) → some_token kinds.End zs [] → begins_end zs ≡ true
end_begins zs h = ap begins_end h.1

first_end : (x : Laid) (xs : List Laid) → begins_end (x ∷ xs) ≡ begins_end (x ∷ [])
first_end (Plain t) xs = refl
first_end (ListOpen b at) xs = refl
first_end (ListItem b at) xs = refl
first_end (ListClose at) xs = refl

same_end : (xs zs : List Laid) → SameHead xs zs → begins_end xs ≡ begins_end zs
same_end [] zs h = absurd h
same_end (x ∷ xs) [] h = absurd h
same_end (x ∷ xs) (z ∷ zs) h = first_end x xs ∙ ap (λ v. begins_end (v ∷ [])) h ∙ sym (first_end z zs)

no_end_there : (i : List Laid) (e : ParseFault) → begins_end i ≡ false → IsRefusedAt i e → RefusedWith AtEnd (λ l. l ≡ []) i e
no_end_there i e k r = refused_first AtEnd (DeepUnits AtEnd (λ l. l ≡ []) i) (λ l. l ≡ []) i e refl (λ fit. (plain kinds.End ∷ [], (record { file = 0; line = 0; col = 0 }, refl))) (λ zs s t. let q : true ≡ false = sym (end_begins zs t) ∙ sym (same_end i zs s) ∙ k in cc) r

pub no_end : (l g i : List Laid) (e : ParseFault) → HeadsLast l g → Marked marks.Equals g i → begins_end i ≡ false → IsRefusedAt i e → IsRefusedModule l e
no_end l g i e h m k r =
    let there : Leads Last AtEnd g i = token_leads marks.Equals AtEnd g i m in
    behind_all_units l g e h (stage Last AtEnd ShallowUnit (λ l. l ≡ []) g i e there (shallow_equals g i there.text (marked_text marks.Equals g i m) there.whole) (no_end_there i e k r))
