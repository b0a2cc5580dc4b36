-- One part read behind another, and refusals behind what was read.
use Rattle.std.proofs.Common.{◌≡◌, Bool, true, false, List, [], ◌∷◌, ◌++◌, append_assoc, inl, inr, refl, sym, ap, subst, ◌∙◌}
use Rattle.std.proofs.lemmas.List.{append_cancel_right}
use Rattle.base_core.specs.declared.place.Place.{Place}
use Rattle.reading_trees.specs.declared.laid.Laid.{Laid}
use Rattle.reading_machine.specs.Meeting.{Meets, MeetsBehind, MeetsLate}
use Rattle.reading_expressions.specs.declared.fault.ParseFault.{ParseFault}
use Rattle.reading_expressions.specs.declared.fault.ParseFault.TheVariants.{Expected, Conflict, TooNested, OutOfProfile, NoMemory}
use Rattle.reading_units.specs.Rests.{Rest}
use Rattle.reading_units.specs.Reads.{SameHead, Leads, Stops, Meeting, RefusedIn, BegunBy}

-- ---- first tokens

pub same_head_append : (text ys zs : List Laid) → SameHead ys zs → SameHead (text ++ ys) (text ++ zs)
same_head_append [] ys zs h = h
same_head_append (x ∷ text) ys zs h = refl

pub head_same : (read rest more : List Laid) (x : Laid) → SameHead (read ++ x ∷ rest) (read ++ x ∷ more)
head_same [] rest more x = refl
head_same (y ∷ read) rest more x = refl

-- ---- one part behind another

pub leads_nothing : (T : Rest) (xs : List Laid) → Leads T T xs xs
leads_nothing T xs = record { text = []; whole = refl; goes = λ fit zs u. u; comes = λ fit zs s t. t }

pub leads_on : (T U V : Rest) (xs ys zs : List Laid) → Leads T U xs ys → Leads U V ys zs → Leads T V xs zs
leads_on T U V xs ys zs h g = record {
  text = h.text ++ g.text;
  whole = h.whole ∙ ap (λ v. h.text ++ v) g.whole ∙ sym (append_assoc h.text g.text zs);
  goes = λ fit ws v. subst (T fit) (sym (append_assoc h.text g.text ws)) (h.goes fit (g.text ++ ws) (g.goes fit ws v));
  comes = λ fit ws s t. g.comes fit ws s (h.comes fit (g.text ++ ws) (subst (λ v. SameHead v (g.text ++ ws)) (sym g.whole) (same_head_append g.text zs ws s)) (subst (T fit) (append_assoc h.text g.text ws) t));
}

-- what is held of some tokens is held of them behind a part that has none
pub stay : (H : List Laid → Type 0) (xs text : List Laid) → xs ≡ text ++ xs → (l : List Laid) → H l → H (text ++ l)
stay H xs text e l h =
    let none : text ≡ [] = append_cancel_right text [] xs (sym e) in
    subst (λ v. H (v ++ l)) (sym none) h

-- ---- refusals

begun_on : (T U : Rest) (fit : Bool) (xs ys : List Laid) → (h : Leads T U xs ys) → (l : List Laid) → BegunBy U fit l → BegunBy T fit (h.text ++ l)
begun_on T U fit xs ys h l b = (b.0, subst (T fit) (sym (append_assoc h.text l b.0)) (h.goes fit (l ++ b.0) b.1))

stops_on : (T U : Rest) (H J : List Laid → Type 0) (xs ys rest : List Laid) (x : Laid) → (h : Leads T U xs ys) → ((l : List Laid) → J l → H (h.text ++ l)) → Stops U J ys rest x → Stops T H xs rest x
stops_on T U H J xs ys rest x h held s = record {
  read = h.text ++ s.read;
  whole = h.whole ∙ ap (λ v. h.text ++ v) s.whole ∙ sym (append_assoc h.text s.read (x ∷ rest));
  begun = begun_on T U false xs ys h s.read s.begun;
  fits = begun_on T U true xs ys h s.read s.fits;
  there = λ more t. s.there more (h.comes false (s.read ++ x ∷ more) (subst (λ v. SameHead v (s.read ++ x ∷ more)) (sym s.whole) (head_same s.read rest more x)) (subst (T false) (append_assoc h.text s.read (x ∷ more)) t));
  held = held s.read s.held;
}

next_on : (P Q : List Laid → Type 0) (text before : List Laid) (x : Laid) → ((l : List Laid) → P l → Q (text ++ l)) → P (before ++ x ∷ []) → Q ((text ++ before) ++ x ∷ [])
next_on P Q text before x go p = subst Q (sym (append_assoc text before (x ∷ []))) (go (before ++ x ∷ []) p)

behind_on : (P Q : List Laid → Type 0) (text read : List Laid) (here : Laid) (p q : Place) → ((l : List Laid) → P l → Q (text ++ l)) → MeetsBehind P read here p q → MeetsBehind Q (text ++ read) here p q
behind_on P Q text read here p q go m = record {
  before = text ++ m.before;
  text = m.text;
  operand = m.operand;
  operator = m.operator;
  whole = ap (λ v. text ++ v) m.whole ∙ sym (append_assoc text m.before m.text);
  next = (m.next.0, m.next.1, next_on P Q text m.before _ go m.next.2);
  spelled = m.spelled;
  is = m.is;
  meets = m.meets;
}

late_on : (P Q : List Laid → Type 0) (text read : List Laid) (here : Laid) (p q : Place) → ((l : List Laid) → P l → Q (text ++ l)) → MeetsLate P read here p q → MeetsLate Q (text ++ read) here p q
late_on P Q text read here p q go m = record {
  before = text ++ m.before;
  opening = m.opening;
  name = m.name;
  at = m.at;
  text = m.text;
  operand = m.operand;
  whole = ap (λ v. text ++ v) m.whole ∙ sym (append_assoc text m.before _);
  next = (m.next.0, m.next.1, next_on P Q text m.before _ go m.next.2);
  only = m.only;
  spelled = m.spelled;
  meets = m.meets;
}

pub meets_on : (P Q : List Laid → Type 0) (text read : List Laid) (here : Laid) (p q : Place) → ((l : List Laid) → P l → Q (text ++ l)) → Meets P read here p q → Meets Q (text ++ read) here p q
meets_on P Q text read here p q go (inl m) = inl (behind_on P Q text read here p q go m)
meets_on P Q text read here p q go (inr m) = inr (late_on P Q text read here p q go m)

meeting_on : (T U : Rest) (H J : List Laid → Type 0) (xs ys : List Laid) (p q : Place) → (h : Leads T U xs ys) → ((l : List Laid) → J l → H (h.text ++ l)) → Meeting U J ys p q → Meeting T H xs p q
meeting_on T U H J xs ys p q h held m = record {
  read = h.text ++ m.read;
  rest = m.rest;
  here = m.here;
  whole = h.whole ∙ ap (λ v. h.text ++ v) m.whole ∙ sym (append_assoc h.text m.read (m.here ∷ m.rest));
  begun = subst (BegunBy T false) (sym (append_assoc h.text m.read (m.here ∷ []))) (begun_on T U false xs ys h (m.read ++ m.here ∷ []) m.begun);
  fits = begun_on T U true xs ys h m.read m.fits;
  none = λ more t. m.none more (h.comes true (m.read ++ m.here ∷ more) (subst (λ v. SameHead v (m.read ++ m.here ∷ more)) (sym m.whole) (head_same m.read m.rest more m.here)) (subst (T true) (append_assoc h.text m.read (m.here ∷ more)) t));
  held = held m.read m.held;
  places = meets_on (BegunBy U false) (BegunBy T false) h.text m.read m.here p q (begun_on T U false xs ys h) m.places;
}

-- a refusal of what stands behind a part, with what is held of the tokens before the refused one
pub refused_on : (T U : Rest) (D E : Place → Type 0) (H J : List Laid → Type 0) (xs ys : List Laid) (e : ParseFault) → (h : Leads T U xs ys) → ((p : Place) → E p → D p) → ((l : List Laid) → J l → H (h.text ++ l)) → RefusedIn U E J ys e → RefusedIn T D H xs e
refused_on T U D E H J xs ys (Expected p) h deep held r = (r.0, r.1, stops_on T U H J xs ys r.1 r.0 h held r.2, r.3)
refused_on T U D E H J xs ys (OutOfProfile f p) h deep held r = (r.0, r.1, stops_on T U H J xs ys r.1 r.0 h held r.2, r.3)
refused_on T U D E H J xs ys (Conflict p q) h deep held r = meeting_on T U H J xs ys p q h held r
refused_on T U D E H J xs ys (TooNested p) h deep held r = deep p r
refused_on T U D E H J xs ys NoMemory h deep held r = tt
