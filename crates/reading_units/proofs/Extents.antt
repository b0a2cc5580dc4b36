-- How far a text goes in the rest of a module, and why one is refused there: of expressions and of definitions alike.
use Rattle.std.proofs.Common.{◌≡◌, Bool, true, false, List, [], ◌∷◌, ◌++◌, append_assoc, inl, inr, refl, sym, ap, subst, ◌∙◌}
use Rattle.std.proofs.lemmas.List.{append-nil, append_cancel_right}
use Rattle.base_core.specs.declared.place.Place.{Place}
use Rattle.reading_trees.specs.declared.laid.Laid.{Laid}
use Rattle.reading_trees.specs.declared.laid.Laid.TheVariants.{Plain}
use Rattle.reading_tokens.specs.declared.token.Token.{Token as LaidToken}
use Rattle.reading_tokens.specs.declared.token.Kind.TheVariants as kinds
use Rattle.reading_trees.specs.Grammar.{Span}
use Rattle.reading_machine.specs.LawsOfTrees.{EndsText}
use Rattle.reading_expressions.specs.Refusals.{UpTo, CanNotFollow, EndsTooEarly, Conflicts, IsTooNested, IsRefused}
use Rattle.reading_expressions.specs.declared.fault.ParseFault.{ParseFault}
use Rattle.reading_expressions.specs.declared.fault.ParseFault.TheVariants.{Expected, Conflict, TooNested, OutOfProfile, NoMemory}
use Rattle.reading_units.specs.Rests.{Rest, Then}
use Rattle.reading_units.specs.Reads.{SameHead, Leads, Meeting, RefusedIn, BegunBy, IsStopped}
use Rattle.reading_units.proofs.Leading.{meets_on}
use Rattle.reading_units.proofs.OneModuleTokens.{TextEnds, tail_of}

-- ---- two ways to part a list

abbrev head_or : Laid → List Laid → Laid
head_or u [] = u
head_or u (x ∷ xs) = x

pub data Parted (a xs b ys : List Laid) : Type 0 where
  Same : a ≡ b → xs ≡ ys → Parted a xs b ys
  Before : (u : Laid) (w : List Laid) → b ≡ a ++ u ∷ w → xs ≡ u ∷ (w ++ ys) → Parted a xs b ys
  Behind : (u : Laid) (w : List Laid) → a ≡ b ++ u ∷ w → ys ≡ u ∷ (w ++ xs) → Parted a xs b ys

push_front : (x y : Laid) (a xs b ys : List Laid) → x ≡ y → Parted a xs b ys → Parted (x ∷ a) xs (y ∷ b) ys
push_front x y a xs b ys q (Same e f) = Same (ap (λ v. v ∷ a) q ∙ ap (λ v. y ∷ v) e) f
push_front x y a xs b ys q (Before u w e f) = Before u w (ap (λ v. v ∷ b) (sym q) ∙ ap (λ v. x ∷ v) e) f
push_front x y a xs b ys q (Behind u w e f) = Behind u w (ap (λ v. v ∷ a) q ∙ ap (λ v. y ∷ v) e) f

pub parted : (a xs b ys : List Laid) → a ++ xs ≡ b ++ ys → Parted a xs b ys
parted [] xs [] ys e = Same refl e
parted [] xs (u ∷ w) ys e = Before u w refl e
parted (u ∷ w) xs [] ys e = Behind u w refl (sym e)
parted (x ∷ a) xs (y ∷ b) ys e = push_front x y a xs b ys (ap (head_or x) e) (parted a xs b ys (ap tail_of e))

-- ---- texts

-- the part from one point of a list to another is some laid tokens, and is such a part before any others
pub record Local (R : Span) (xs ys : List Laid) : Type 0 where
  pub text : List Laid
  pub whole : xs ≡ text ++ ys
  pub anywhere : (zs : List Laid) → R (text ++ zs) zs

-- What is known of texts of one kind: S with its ranges or without them, B and F what they begin with.
pub record TextKind (S : Bool → Span) (B F : List Laid → Type 0) : Type 0 where
  pub local : (fit : Bool) (xs ys : List Laid) → S fit xs ys → Local (S fit) xs ys
  pub loosely : (fit : Bool) (xs ys : List Laid) → S true xs ys → S fit xs ys
  pub loose : (fit : Bool) (xs ys : List Laid) → S fit xs ys → S false xs ys
  pub some : S false [] [] → ⊥
  pub none : (text : List Laid) (x : Laid) → S false text [] → EndsText x → B (text ++ x ∷ []) → ⊥
  pub begins : (l more : List Laid) → S false (l ++ more) [] → B l
  pub begun : (l : List Laid) → B l → (more : List Laid) × S false (l ++ more) []
  pub fits : (l more : List Laid) → S true (l ++ more) [] → F l
  pub fitting : (l : List Laid) → F l → (more : List Laid) × S true (l ++ more) []
  pub no_end : (before after : List Laid) (t : LaidToken) → B (before ++ Plain t ∷ after) → t.kind ≡ kinds.End → ⊥

-- what stands behind it may be anything
pub alone : (R : Span) (xs ys : List Laid) → (l : Local R xs ys) → R l.text []
alone R xs ys l = subst (λ v. R v []) (append-nil l.text) (l.anywhere [])

-- a text to the end of a list is one before any others
open_end : (S : Bool → Span) (B F : List Laid → Type 0) → TextKind S B F → (fit : Bool) (l : List Laid) → S fit l [] → (zs : List Laid) → S fit (l ++ zs) zs
open_end S B F k fit l s zs =
    let p = k.local fit l [] s in
    let same : l ≡ p.text = p.whole ∙ append-nil p.text in
    subst (λ v. S fit (v ++ zs) zs) (sym same) (p.anywhere zs)

begins_less : (S : Bool → Span) (B F : List Laid → Type 0) → TextKind S B F → (a w : List Laid) (x : Laid) → B (a ++ x ∷ w) → B (a ++ x ∷ [])
begins_less S B F k a w x b =
    let r = k.begun (a ++ x ∷ w) b in
    let there : (a ++ x ∷ w) ++ r.0 ≡ (a ++ x ∷ []) ++ (w ++ r.0) = append_assoc a (x ∷ w) r.0 ∙ sym (append_assoc a (x ∷ []) (w ++ r.0)) in
    k.begins (a ++ x ∷ []) (w ++ r.0) (subst (λ v. S false v []) there r.1)

through : (a w : List Laid) (x : Laid) → a ++ x ∷ w ≡ (a ++ x ∷ []) ++ w
through a w x = sym (append_assoc a (x ∷ []) w)

-- a text with a token behind it that ends it is no part of what begins one
pub none_within : (S : Bool → Span) (B F : List Laid → Type 0) → TextKind S B F → (l text w : List Laid) (u : Laid) → B l → l ≡ text ++ u ∷ w → S false text [] → EndsText u → ⊥
none_within S B F k l text w u b e s h = k.none text u s h (begins_less S B F k text w u (subst B e b))

pub ends_first : (u : Laid) (w us : List Laid) → us ≡ u ∷ w → TextEnds us → EndsText u
ends_first u w us e h = subst TextEnds e h

-- where a text goes as far as it can, each text from there ends with it
same_extent : (S : Bool → Span) (B F : List Laid → Type 0) → TextKind S B F → (text more other us : List Laid) (x : Laid) → B text → (B (text ++ x ∷ []) → ⊥) → S false other [] → TextEnds us → Parted text (x ∷ more) other us → (text ≡ other) × (x ∷ more ≡ us)
same_extent S B F k text more other us x b none s h (Same e f) = (e, f)
same_extent S B F k text more other us x b none s h (Before u w e f) =
    let here : x ≡ u = ap (head_or x) f in
    let long : S false ((text ++ u ∷ []) ++ w) [] = subst (λ v. S false v []) (e ∙ through text w u) s in
    absurd (none (subst (λ v. B (text ++ v ∷ [])) (sym here) (k.begins (text ++ u ∷ []) w long)))
same_extent S B F k text more other us x b none s h (Behind u w e f) = absurd (none_within S B F k text other w u b e s (ends_first u _ us f h))

-- ---- a text that was read

abbrev pub Passed : (Bool → Span) → Rest → List Laid → List Laid → Type 0
Passed S T xs ys = (h : Leads (Then S T) T xs ys) × (h.text ≡ [] → ⊥)

-- each rest begins with a token that ends a text
abbrev pub Ending : Rest → Type 0
Ending T = (fit : Bool) (zs : List Laid) → T fit zs → TextEnds zs

comes_so : (S : Bool → Span) (B F : List Laid → Type 0) → TextKind S B F → (T : Rest) → Ending T → (text rest : List Laid) (x : Laid) → B text → (B (text ++ x ∷ []) → ⊥) → (fit : Bool) (zs : List Laid) → SameHead (x ∷ rest) zs → Then S T fit (text ++ zs) → T fit zs
comes_so S B F k T ending text rest x b none fit [] s t = absurd s
comes_so S B F k T ending text rest x b none fit (z ∷ zs) s t =
    let p = k.local fit (text ++ z ∷ zs) t.0 t.1 in
    let other : S false p.text [] = k.loose fit p.text [] (alone (S fit) (text ++ z ∷ zs) t.0 p) in
    let r = same_extent S B F k text zs p.text t.0 z b (subst (λ v. B (text ++ v ∷ []) → ⊥) s none) other (ending fit t.0 t.2) (parted text (z ∷ zs) p.text t.0 p.whole) in
    subst (T fit) (sym r.1) t.2

passed_so : (S : Bool → Span) (B F : List Laid → Type 0) → TextKind S B F → (T : Rest) → Ending T → (xs rest : List Laid) (x : Laid) (H : List Laid → Type 0) → S true xs (x ∷ rest) → UpTo B F H xs rest x → Passed S T xs (x ∷ rest)
passed_so S B F k T ending xs rest x H s u =
    let p = k.local true xs (x ∷ rest) s in
    let same : u.read ≡ p.text = append_cancel_right u.read p.text (x ∷ rest) (sym u.whole ∙ p.whole) in
    let b : B p.text = subst B same u.begun in
    let none : B (p.text ++ x ∷ []) → ⊥ = subst (λ v. B (v ++ x ∷ []) → ⊥) same u.there in
    let h : Leads (Then S T) T xs (x ∷ rest) = record {
      text = p.text;
      whole = p.whole;
      goes = λ fit zs t. (zs, k.loosely fit (p.text ++ zs) zs (p.anywhere zs), t);
      comes = comes_so S B F k T ending p.text rest x b none;
    } in
    (h, λ e. k.some (k.loose true [] [] (subst (λ v. S true v []) e (alone (S true) xs (x ∷ rest) p))))

pub passed : (S : Bool → Span) (B F : List Laid → Type 0) → TextKind S B F → (T : Rest) → Ending T → (xs ys rest : List Laid) (x : Laid) (H : List Laid → Type 0) → S true xs ys → ys ≡ x ∷ rest → UpTo B F H xs rest x → Passed S T xs ys
passed S B F k T ending xs ys rest x H s e u = subst (Passed S T xs) (sym e) (passed_so S B F k T ending xs rest x H (subst (S true xs) e s) u)

-- ---- a text that is refused

-- no text ends before a token that ends texts
abbrev pub NoneEnds : (Bool → Span) → List Laid → Type 0
NoneEnds S xs = (text rest : List Laid) (x : Laid) → xs ≡ text ++ x ∷ rest → S false text [] → EndsText x → ⊥

begun_by : (S : Bool → Span) (B F : List Laid → Type 0) → TextKind S B F → (T : Rest) (fit : Bool) (ws : List Laid) → T fit ws → (l : List Laid) → (more : List Laid) × S fit (l ++ more) [] → BegunBy (Then S T) fit l
begun_by S B F k T fit ws t l b = (b.0 ++ ws, (ws, subst (λ v. S fit v ws) (append_assoc l b.0 ws) (open_end S B F k fit (l ++ b.0) b.1 ws), t))

not_there : (S : Bool → Span) (B F : List Laid → Type 0) → TextKind S B F → (T : Rest) → Ending T → (xs read rest : List Laid) (x : Laid) → xs ≡ read ++ x ∷ rest → B read → (B (read ++ x ∷ []) → ⊥) → NoneEnds S xs → (more : List Laid) → Then S T false (read ++ x ∷ more) → ⊥
not_there S B F k T ending xs read rest x whole b none never more t =
    let p = k.local false (read ++ x ∷ more) t.0 t.1 in
    let other : S false p.text [] = alone (S false) (read ++ x ∷ more) t.0 p in
    let ends : TextEnds t.0 = ending false t.0 t.2 in
    let r = same_extent S B F k read more p.text t.0 x b none other ends (parted read (x ∷ more) p.text t.0 p.whole) in
    never read rest x whole (subst (λ v. S false v []) (sym r.0) other) (ends_first x more t.0 (sym r.1) ends)

stopped : (S : Bool → Span) (B F : List Laid → Type 0) → TextKind S B F → (T : Rest) → Ending T → (ws : List Laid) → T false ws → T true ws → (H : List Laid → Type 0) (xs : List Laid) (e : ParseFault) → NoneEnds S xs → CanNotFollow B F H xs e → IsStopped (Then S T) H xs e
stopped S B F k T ending ws t s H xs e never c =
    let u : UpTo B F H xs c.1 c.0 = c.2 in (
      c.0,
      c.1,
      record {
        read = u.read;
        whole = u.whole;
        begun = begun_by S B F k T false ws t u.read (k.begun u.read u.begun);
        fits = begun_by S B F k T true ws s u.read (k.fitting u.read u.fits);
        there = not_there S B F k T ending xs u.read c.1 c.0 u.whole u.begun u.there never;
        held = u.shallow;
      },
      c.3,
    )

-- the last token is the End
pub record LastIsEnd (xs : List Laid) : Type 0 where
  pub before : List Laid
  pub last : LaidToken
  pub whole : xs ≡ before ++ Plain last ∷ []
  pub is_last : last.kind ≡ kinds.End

not_early : (S : Bool → Span) (B F : List Laid → Type 0) → TextKind S B F → (H : List Laid → Type 0) (xs : List Laid) (p : Place) → LastIsEnd xs → EndsTooEarly B F H xs p → ⊥
not_early S B F k H xs p last e = k.no_end last.before [] last.last (subst B last.whole e.begun) last.is_last

none_fits : (S : Bool → Span) (B F : List Laid → Type 0) → TextKind S B F → (read more other us : List Laid) (here : Laid) → B (read ++ here ∷ []) → (F (read ++ here ∷ []) → ⊥) → S true other [] → TextEnds us → Parted read (here ∷ more) other us → ⊥
none_fits S B F k read more other us here b none s h (Same e f) = none_within S B F k (read ++ here ∷ []) other [] here b (ap (λ v. v ++ here ∷ []) e) (k.loose true other [] s) (ends_first here more us (sym f) h)
none_fits S B F k read more other us here b none s h (Before u w e f) =
    let same : here ≡ u = ap (head_or here) f in
    let long : S true ((read ++ u ∷ []) ++ w) [] = subst (λ v. S true v []) (e ∙ through read w u) s in
    none (subst (λ v. F (read ++ v ∷ [])) (sym same) (k.fits (read ++ u ∷ []) w long))
none_fits S B F k read more other us here b none s h (Behind u w e f) =
    let there : read ++ here ∷ [] ≡ other ++ u ∷ (w ++ here ∷ []) = ap (λ v. v ++ here ∷ []) e ∙ append_assoc other (u ∷ w) (here ∷ []) in
    none_within S B F k (read ++ here ∷ []) other (w ++ here ∷ []) u b there (k.loose true other [] s) (ends_first u _ us f h)

not_fitting : (S : Bool → Span) (B F : List Laid → Type 0) → TextKind S B F → (T : Rest) → Ending T → (read : List Laid) (here : Laid) → B (read ++ here ∷ []) → (F (read ++ here ∷ []) → ⊥) → (more : List Laid) → Then S T true (read ++ here ∷ more) → ⊥
not_fitting S B F k T ending read here b none more t =
    let p = k.local true (read ++ here ∷ more) t.0 t.1 in
    none_fits S B F k read more p.text t.0 here b none (alone (S true) (read ++ here ∷ more) t.0 p) (ending true t.0 t.2) (parted read (here ∷ more) p.text t.0 p.whole)

meeting : (S : Bool → Span) (B F : List Laid → Type 0) → TextKind S B F → (T : Rest) → Ending T → (ws : List Laid) → T false ws → T true ws → (H : List Laid → Type 0) (xs : List Laid) (p q : Place) → Conflicts B F H xs p q → Meeting (Then S T) H xs p q
meeting S B F k T ending ws t s H xs p q c = record {
  read = c.read;
  rest = c.rest;
  here = c.here;
  whole = c.whole;
  begun = begun_by S B F k T false ws t (c.read ++ c.here ∷ []) (k.begun (c.read ++ c.here ∷ []) c.begun);
  fits = begun_by S B F k T true ws s c.read (k.fitting c.read c.fits);
  none = not_fitting S B F k T ending c.read c.here c.begun c.none;
  held = c.shallow;
  places = meets_on B (BegunBy (Then S T) false) [] c.read c.here p q (λ l b. begun_by S B F k T false ws t l (k.begun l b)) c.places;
}

-- no text ends there, where a token is refused because none goes on through it
abbrev pub StaysOpen : (Bool → Span) → List Laid → ParseFault → Type 0
StaysOpen S xs (Expected p) = NoneEnds S xs
StaysOpen S xs (OutOfProfile f p) = NoneEnds S xs
StaysOpen S xs _ = Unit {0}

pub part_refused : (S : Bool → Span) (B F : List Laid → Type 0) → TextKind S B F → (T : Rest) → Ending T → (ws : List Laid) → T false ws → T true ws → (H : List Laid → Type 0) (xs : List Laid) (e : ParseFault) → LastIsEnd xs → StaysOpen S xs e → IsRefused B F H xs e → RefusedIn (Then S T) (IsTooNested F H xs) H xs e
part_refused S B F k T ending ws t s H xs (Expected p) last never (inl c) = stopped S B F k T ending ws t s H xs (Expected p) never c
part_refused S B F k T ending ws t s H xs (Expected p) last never (inr c) = absurd (not_early S B F k H xs p last c)
part_refused S B F k T ending ws t s H xs (OutOfProfile f p) last never c = stopped S B F k T ending ws t s H xs (OutOfProfile f p) never c
part_refused S B F k T ending ws t s H xs (Conflict p q) last never c = meeting S B F k T ending ws t s H xs p q c
part_refused S B F k T ending ws t s H xs (TooNested p) last never c = c
part_refused S B F k T ending ws t s H xs NoMemory last never c = tt
