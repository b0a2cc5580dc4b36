-- Instances in the rest of a module: what begins with a name, and what tells an instance from a definition.
use Rattle.std.proofs.Common.{◌≡◌, ℕ, Bool, true, false, List, [], ◌∷◌, ◌++◌, Some, inl, inr, refl, sym, ap, subst, ◌∙◌}
use Rattle.std.proofs.lemmas.List.{append-nil, append_cancel_right}
use Rattle.base_core.specs.declared.place.Place.{Place}
use Rattle.reading_trees.specs.declared.form.DefinitionForm.{DefinitionForm}
use Rattle.reading_trees.specs.declared.form.DefinitionForm.TheVariants as definition_forms
use Rattle.reading_trees.specs.declared.laid.Laid.{Laid}
use Rattle.reading_trees.specs.declared.laid.Laid.TheVariants.{Plain}
use Rattle.reading_tokens.specs.declared.token.Kind.{Kind}
use Rattle.reading_tokens.specs.declared.token.Kind.TheVariants as kinds
use Rattle.reading_tokens.specs.declared.token.Symbol.{Symbol}
use Rattle.reading_tokens.specs.declared.token.Symbol.TheVariants as symbols
use Rattle.reading_tokens.specs.declared.token.Foreign.TheVariants as foreign
use Rattle.reading_trees.specs.Begun.{Begun}
use Rattle.reading_trees.specs.Grammar.{◌⨟◌, ParametersText, Text, DefinitionRest}
use Rattle.reading_trees.specs.Trees as tree
use Rattle.reading_trees.specs.Trees.{Tree}
use Rattle.reading_machine.specs.Beginnings.{DefinitionText}
use Rattle.reading_machine.specs.LawsOfExtents.{LocalText, NoneFollows}
use Rattle.reading_machine.specs.LawsOfRefusals.{StoppedThere}
use Rattle.reading_expressions.specs.declared.fault.ParseFault.{ParseFault}
use Rattle.reading_expressions.specs.declared.fault.ParseFault.TheVariants.{Expected, Conflict, TooNested, OutOfProfile, NoMemory}
use Rattle.reading_units.specs.Marks.{mark_of}
use Rattle.reading_units.specs.Reads.{Leads, Stops, IsStopped, RefusedIn, BegunBy, DeepDefinition}
use Rattle.reading_units.specs.Rests.{◌▹◌, Then, Marked, FitsIf, Definition, InstanceBegins, NoInstance, InstancePart, MaybeGiven, NamePart, NamedLeft, Tail}
use Rattle.reading_units.specs.declared.marks.Mark.TheVariants as marks
use Rattle.reading_units.proofs.Extents.{Local}
use Rattle.reading_units.proofs.Leading.{meets_on}
use Rattle.reading_units.proofs.MarksTold.{told, plain, has_mark}
use Rattle.reading_units.proofs.TailSteps.{some_tail, last_tokens}
use Rattle.reading_units.proofs.TextKinds.{named, defined, no_empty}

-- ---- no definition begins with a name, `==` and INSTANCE

abbrev instance_token : Place → Laid
instance_token p = Plain (record { kind = kinds.Foreign foreign.Instance; place = p })

instanced : (x : Laid) → mark_of x ≡ Some marks.Instance → (at : Place) × (x ≡ instance_token at)
instanced x e = let t = told marks.Instance x e in (t.0.place, t.1 ∙ ap (λ k. Plain (record { kind = k; place = t.0.place })) t.2)

abbrev head_or : Laid → List Laid → Laid
head_or u [] = u
head_or u (x ∷ xs) = x

abbrev tail_or : List Laid → List Laid
tail_or [] = []
tail_or (x ∷ xs) = xs

not_begun : StoppedThere → (p : Place) → Begun (instance_token p ∷ []) → ⊥
not_begun stops p b = stops [] [] (instance_token p) refl b

no_text_so : StoppedThere → NoneFollows → (p : Place) (zs text ys : List Laid) (e : Tree) → instance_token p ∷ zs ≡ text ++ ys → Text e text [] → ⊥
no_text_so stops none p zs [] ys e q t = no_empty none e t
no_text_so stops none p zs (x ∷ text) ys e q t =
    let first : instance_token p ≡ x = ap (head_or (instance_token p)) q in
    not_begun stops p (subst (λ v. Begun (v ∷ [])) (sym first) (record { tree = e; rest = text; whole = t }))

-- no expression begins with INSTANCE
pub no_text : LocalText → StoppedThere → NoneFollows → (p : Place) (zs ys : List Laid) (e : Tree) → Text e (instance_token p ∷ zs) ys → ⊥
no_text local stops none p zs ys e t =
    let l = local e (instance_token p ∷ zs) ys t in
    no_text_so stops none p zs l.0 ys e l.1 (subst (λ v. Text e v []) (append-nil l.0) (l.2 []))

abbrev symbol_token : Symbol → Place → Laid
symbol_token s p = Plain (record { kind = kinds.Symbol s; place = p })

abbrev is_defined_symbol : Symbol → Bool
is_defined_symbol symbols.Defined = true
is_defined_symbol _ = false

abbrev is_defined_kind : Kind → Bool
is_defined_kind (kinds.Symbol s) = is_defined_symbol s
is_defined_kind _ = false

abbrev is_defined : List Laid → Bool
is_defined (Plain t ∷ xs) = is_defined_kind t.kind
is_defined _ = false

no_parameters : (ns : List (List ℕ)) (q : Place) (zs ys : List Laid) → ParametersText ns (symbol_token symbols.Defined q ∷ zs) ys → symbol_token symbols.Defined q ∷ zs ≡ ys
no_parameters [] q zs ys h = h
no_parameters (n ∷ ns) q zs ys h = absurd (let e : true ≡ false = ap is_defined h.1.1 in cc)

no_rest : LocalText → StoppedThere → NoneFollows → (ns : List (List ℕ)) (form : DefinitionForm) (e : Tree) (q p : Place) (zs ys : List Laid) → DefinitionRest ns form e (symbol_token symbols.Defined q ∷ instance_token p ∷ zs) ys → ⊥
no_rest local stops none ns definition_forms.Operator e q p zs ys h =
    let there : symbol_token symbols.Defined q ∷ instance_token p ∷ zs ≡ h.0 = no_parameters ns q (instance_token p ∷ zs) h.0 h.1 in
    let behind : instance_token p ∷ zs ≡ h.2.0 = ap tail_or (there ∙ h.2.1.1) in
    no_text local stops none p zs ys e (subst (λ v. Text e v ys) (sym behind) h.2.2)
no_rest local stops none ns definition_forms.Function (tree.Function at bs e) q p zs ys h = absurd (let r : true ≡ false = ap is_defined h.1.1 in cc)
no_rest local stops none ns definition_forms.Function _ q p zs ys h = absurd h.1
no_rest local stops none ns definition_forms.Constant e q p zs ys h = absurd h

abbrev pub NoBoth : Type 0
NoBoth = (fit : Bool) (n d i : Laid) (zs ys : List Laid) → mark_of n ≡ Some marks.Name → mark_of d ≡ Some marks.Defined → mark_of i ≡ Some marks.Instance → Definition fit (n ∷ d ∷ i ∷ zs) ys → ⊥

pub no_both : LocalText → StoppedThere → NoneFollows → NoBoth
no_both local stops none fit n d i zs ys a b c h =
    let behind : d ∷ i ∷ zs ≡ h.5.0 = ap tail_or h.5.1 in
    let at = defined d b in
    let is = instanced i c in
    let rest : DefinitionRest h.2 h.3 h.4 (d ∷ i ∷ zs) ys = subst (λ v. DefinitionRest h.2 h.3 h.4 v ys) (sym behind) h.5.2 in
    no_rest local stops none h.2 h.3 h.4 at.0 is.0 zs ys (subst (λ v. DefinitionRest h.2 h.3 h.4 (v ∷ instance_token is.0 ∷ zs) ys) at.1 (subst (λ v. DefinitionRest h.2 h.3 h.4 (d ∷ v ∷ zs) ys) is.1 rest))

-- ---- an instance

three_come : NoBoth → (fit : Bool) (n d i : Laid) (zs vs : List Laid) → mark_of n ≡ Some marks.Name → mark_of d ≡ Some marks.Defined → mark_of i ≡ Some marks.Instance → NamePart fit (n ∷ d ∷ i ∷ zs) vs → Tail fit vs → (Marked marks.Name ▹ NamedLeft) fit zs
three_come none fit n d i zs vs a b c (inl h) t = absurd (none fit n d i zs vs a b c h)
three_come none fit n d i zs vs a b c (inr h) t =
    let k : (Marked marks.Defined ⨟ Marked marks.Instance ⨟ Marked marks.Name ⨟ MaybeGiven fit) (d ∷ i ∷ zs) vs = subst (λ v. (Marked marks.Defined ⨟ Marked marks.Instance ⨟ Marked marks.Name ⨟ MaybeGiven fit) v vs) (sym h.1.1) h.2 in
    let l : (Marked marks.Instance ⨟ Marked marks.Name ⨟ MaybeGiven fit) (i ∷ zs) vs = subst (λ v. (Marked marks.Instance ⨟ Marked marks.Name ⨟ MaybeGiven fit) v vs) (sym k.1.1) k.2 in
    let m : (Marked marks.Name ⨟ MaybeGiven fit) zs vs = subst (λ v. (Marked marks.Name ⨟ MaybeGiven fit) v vs) (sym l.1.1) l.2 in
    (m.0, m.1, (vs, m.2, t))

three_lead_so : NoBoth → (n d i : Laid) (xs : List Laid) → mark_of n ≡ Some marks.Name → mark_of d ≡ Some marks.Defined → mark_of i ≡ Some marks.Instance → Leads (Then NamePart Tail) (Marked marks.Name ▹ NamedLeft) (n ∷ d ∷ i ∷ xs) xs
three_lead_so none n d i xs a b c = record {
  text = n ∷ d ∷ i ∷ [];
  whole = refl;
  goes = λ fit zs u. (u.2.0, inr (d ∷ i ∷ zs, (a, refl), (i ∷ zs, (b, refl), (zs, (c, refl), (u.0, u.1, u.2.1)))), u.2.2);
  comes = λ fit zs s t. three_come none fit n d i zs t.0 a b c t.1 t.2;
}

three_lead_third : NoBoth → (n d : Laid) (ws xs : List Laid) → mark_of n ≡ Some marks.Name → mark_of d ≡ Some marks.Defined → Marked marks.Instance ws xs → Leads (Then NamePart Tail) (Marked marks.Name ▹ NamedLeft) (n ∷ d ∷ ws) xs
three_lead_third none n d [] xs a b h = absurd h
three_lead_third none n d (i ∷ ws) xs a b h = subst (λ v. Leads (Then NamePart Tail) (Marked marks.Name ▹ NamedLeft) (n ∷ d ∷ i ∷ ws) v) h.1 (three_lead_so none n d i ws a b h.0)

three_lead_second : NoBoth → (n : Laid) (vs xs : List Laid) → mark_of n ≡ Some marks.Name → (Marked marks.Defined ⨟ Marked marks.Instance) vs xs → Leads (Then NamePart Tail) (Marked marks.Name ▹ NamedLeft) (n ∷ vs) xs
three_lead_second none n [] xs a h = absurd h.1
three_lead_second none n (d ∷ vs) xs a h = three_lead_third none n d vs xs a h.1.0 (subst (λ v. Marked marks.Instance v xs) (sym h.1.1) h.2)

-- behind a name, `==` and INSTANCE stands the name of a module
pub three_lead : NoBoth → (xs ys : List Laid) → InstanceBegins xs ys → Leads (Then NamePart Tail) (Marked marks.Name ▹ NamedLeft) xs ys
three_lead none [] ys h = absurd h.1
three_lead none (n ∷ xs) ys h = three_lead_second none n xs ys h.1.0 (subst (λ v. (Marked marks.Defined ⨟ Marked marks.Instance) v ys) (sym h.1.1) h.2)

-- ---- a definition that was read

begins_three : (fit : Bool) (xs ys : List Laid) → InstancePart fit xs ys → (ws : List Laid) × InstanceBegins xs ws
begins_three fit xs ys h = (h.2.2.0, (h.0, h.1, (h.2.0, h.2.1, h.2.2.1)))

pub no_both_whole : NoBoth → (fit : Bool) (xs ys ws : List Laid) → Definition fit xs ys → InstanceBegins xs ws → ⊥
no_both_whole none fit [] ys ws d h = absurd h.1
no_both_whole none fit (n ∷ []) ys ws d h = absurd (subst (λ v. (Marked marks.Defined ⨟ Marked marks.Instance) v ws) (sym h.1.1) h.2).1
no_both_whole none fit (n ∷ x ∷ []) ys ws d h =
    let k : (Marked marks.Defined ⨟ Marked marks.Instance) (x ∷ []) ws = subst (λ v. (Marked marks.Defined ⨟ Marked marks.Instance) v ws) (sym h.1.1) h.2 in
    subst (λ v. Marked marks.Instance v ws) (sym k.1.1) k.2
no_both_whole none fit (n ∷ x ∷ i ∷ xs) ys ws d h =
    let k : (Marked marks.Defined ⨟ Marked marks.Instance) (x ∷ i ∷ xs) ws = subst (λ v. (Marked marks.Defined ⨟ Marked marks.Instance) v ws) (sym h.1.1) h.2 in
    let l : Marked marks.Instance (i ∷ xs) ws = subst (λ v. Marked marks.Instance v ws) (sym k.1.1) k.2 in
    none fit n x i xs ys h.1.0 k.1.0 l.0 d

definition_alone : NoBoth → (text : List Laid) → ((zs : List Laid) → Definition false (text ++ zs) zs) → (fit : Bool) (zs vs : List Laid) → NamePart fit (text ++ zs) vs → Definition fit (text ++ zs) vs
definition_alone none text anywhere fit zs vs (inl d) = d
definition_alone none text anywhere fit zs vs (inr i) = let b = begins_three fit (text ++ zs) vs i in absurd (no_both_whole none false (text ++ zs) zs b.0 (anywhere zs) b.1)

definition_leads_so : NoBoth → (xs ys : List Laid) → (h : Leads (Then Definition Tail) Tail xs ys) → ((zs : List Laid) → Definition false (h.text ++ zs) zs) → Leads (Then NamePart Tail) Tail xs ys
definition_leads_so none xs ys h anywhere = record {
  text = h.text;
  whole = h.whole;
  goes = λ fit zs u. (let r = h.goes fit zs u in (r.0, inl r.1, r.2));
  comes = λ fit zs s t. h.comes fit zs s (t.0, definition_alone none h.text anywhere fit zs t.0 t.1, t.2);
}

-- the text of a definition, wherever it stands
pub definition_leads : NoBoth → (xs ys : List Laid) → Leads (Then Definition Tail) Tail xs ys → Local (Definition false) xs ys → Leads (Then NamePart Tail) Tail xs ys
definition_leads none xs ys h l =
    let same : l.text ≡ h.text = append_cancel_right l.text h.text ys (sym l.whole ∙ h.whole) in
    definition_leads_so none xs ys h (λ zs. subst (λ v. Definition false (v ++ zs) zs) same (l.anywhere zs))

-- ---- a definition that is refused

fits_name : (fit : Bool) (at : Place) (n : List ℕ) → FitsIf fit (tree.Name at n)
fits_name true at n = tt
fits_name false at n = tt

abbrev more_tokens : List Laid
more_tokens = plain (kinds.Name []) ∷ last_tokens

-- a name and `==` begin a definition
two_begin : (fit : Bool) (n d : Laid) → mark_of n ≡ Some marks.Name → mark_of d ≡ Some marks.Defined → Then Definition Tail fit (n ∷ d ∷ more_tokens)
two_begin fit n d a b =
    let s = named n a in
    let t = defined d b in
    let some : Place = record { file = 0; line = 0; col = 0 } in
    let text : DefinitionText s.0 s.1 [] definition_forms.Operator (tree.Name some []) (n ∷ d ∷ more_tokens) last_tokens =
    (d ∷ more_tokens, ap (λ v. v ∷ d ∷ more_tokens) s.2, (d ∷ more_tokens, refl, (more_tokens, (t.0, ap (λ v. v ∷ more_tokens) t.1), refl))) in
    (last_tokens, (s.0, s.1, [], definition_forms.Operator, tree.Name some [], text, fits_name fit some []), some_tail fit)

abbrev two_tokens : List Laid
two_tokens = plain (kinds.Symbol symbols.Defined) ∷ more_tokens

one_begins : (fit : Bool) (n : Laid) → mark_of n ≡ Some marks.Name → Then Definition Tail fit (n ∷ two_tokens)
one_begins fit n a = two_begin fit n (plain (kinds.Symbol symbols.Defined)) a (has_mark marks.Defined)

second_of : (r x : Laid) (more ws : List Laid) → InstanceBegins (r ∷ x ∷ more) ws → (mark_of r ≡ Some marks.Name) × (mark_of x ≡ Some marks.Defined) × Marked marks.Instance more ws
second_of r x more ws h =
    let k : (Marked marks.Defined ⨟ Marked marks.Instance) (x ∷ more) ws = subst (λ v. (Marked marks.Defined ⨟ Marked marks.Instance) v ws) (sym h.1.1) h.2 in
    (h.1.0, k.1.0, subst (λ v. Marked marks.Instance v ws) (sym k.1.1) k.2)

three_of : (r x i : Laid) (more : List Laid) → mark_of r ≡ Some marks.Name → mark_of x ≡ Some marks.Defined → mark_of i ≡ Some marks.Instance → InstanceBegins (r ∷ x ∷ i ∷ more) more
three_of r x i more a b c = (x ∷ i ∷ more, (a, refl), (i ∷ more, (b, refl), (c, refl)))

-- the third token is that of the list
third_there : (r q : Laid) (read more rest ws : List Laid) (x : Laid) → InstanceBegins (r ∷ q ∷ (read ++ x ∷ more)) ws → (vs : List Laid) × InstanceBegins (r ∷ q ∷ (read ++ x ∷ rest)) vs
third_there r q [] more rest ws x h = let k = second_of r q (x ∷ more) ws h in (rest, three_of r q x rest k.0 k.1 k.2.0)
third_there r q (i ∷ read) more rest ws x h = let k = second_of r q (i ∷ (read ++ x ∷ more)) ws h in (read ++ x ∷ rest, three_of r q i (read ++ x ∷ rest) k.0 k.1 k.2.0)

none_there : (read rest xs : List Laid) (x : Laid) (fit : Bool) → NoInstance xs → xs ≡ read ++ x ∷ rest → ((more : List Laid) → Then Definition Tail fit (read ++ x ∷ more) → ⊥) → (more vs : List Laid) → NamePart fit (read ++ x ∷ more) vs → Tail fit vs → ⊥
none_there read rest xs x fit not whole none more vs (inl d) t = none more (vs, d, t)
none_there [] rest xs x fit not whole none more vs (inr i) t = none two_tokens (one_begins fit x i.1.0)
none_there (r ∷ []) rest xs x fit not whole none more vs (inr i) t =
    let b = begins_three fit (r ∷ x ∷ more) vs i in
    let k = second_of r x more b.0 b.1 in
    none more_tokens (two_begin fit r x k.0 k.1)
none_there (r ∷ q ∷ read) rest xs x fit not whole none more vs (inr i) t =
    let b = begins_three fit (r ∷ q ∷ (read ++ x ∷ more)) vs i in
    let k = third_there r q read more rest b.0 x b.1 in
    subst NoInstance whole not k.0 k.1

part_begun : (fit : Bool) (l : List Laid) → BegunBy (Then Definition Tail) fit l → BegunBy (Then NamePart Tail) fit l
part_begun fit l b = (b.0, (b.1.0, inl b.1.1, b.1.2))

definition_stopped : (H : List Laid → Type 0) (xs : List Laid) (e : ParseFault) → NoInstance xs → IsStopped (Then Definition Tail) H xs e → IsStopped (Then NamePart Tail) H xs e
definition_stopped H xs e not s =
    let t : Stops (Then Definition Tail) H xs s.1 s.0 = s.2 in (
      s.0,
      s.1,
      record {
        read = t.read;
        whole = t.whole;
        begun = part_begun false t.read t.begun;
        fits = part_begun true t.read t.fits;
        there = λ more u. none_there t.read s.1 xs s.0 false not t.whole t.there more u.0 u.1 u.2;
        held = t.held;
      },
      s.3,
    )

pub definition_refused : (H : List Laid → Type 0) (xs : List Laid) (e : ParseFault) → NoInstance xs → RefusedIn (Then Definition Tail) (DeepDefinition xs) H xs e → RefusedIn (Then NamePart Tail) (DeepDefinition xs) H xs e
definition_refused H xs (Expected p) not r = definition_stopped H xs (Expected p) not r
definition_refused H xs (OutOfProfile f p) not r = definition_stopped H xs (OutOfProfile f p) not r
definition_refused H xs (Conflict p q) not r = record {
  read = r.read;
  rest = r.rest;
  here = r.here;
  whole = r.whole;
  begun = part_begun false (r.read ++ r.here ∷ []) r.begun;
  fits = part_begun true r.read r.fits;
  none = λ more u. none_there r.read r.rest xs r.here true not r.whole r.none more u.0 u.1 u.2;
  held = r.held;
  places = meets_on (BegunBy (Then Definition Tail) false) (BegunBy (Then NamePart Tail) false) [] r.read r.here p q (part_begun false) r.places;
}
definition_refused H xs (TooNested p) not r = r
definition_refused H xs NoMemory not r = tt
