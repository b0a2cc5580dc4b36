-- One token of the rest of a module, and names.
use Rattle.std.proofs.Common.{◌≡◌, ℕ, zero, suc, Bool, false, List, [], ◌∷◌, Option, Some, None, Result, Ok, Err, refl, sym, ap, subst, ◌∙◌, true}
use Rattle.std.specs.Option.{IfSome}
use Rattle.std.specs.Result.{IfErr}
use Rattle.base_core.specs.declared.place.Place.{Place}
use Rattle.reading_trees.specs.declared.laid.Laid.{Laid}
use Rattle.reading_tokens.specs.declared.token.Kind.{Kind}
use Rattle.reading_tokens.specs.declared.token.Kind.TheVariants as kinds
use Rattle.reading_tokens.specs.declared.token.Token.{Token}
use Rattle.reading_trees.specs.Laid.{next_of}
use Rattle.reading_trees.specs.Grammar.{Span, ◌⨟◌}
use Rattle.reading_expressions.specs.Refused.{IsRefusedAt, place_of, refusal_before, refusal_of, refusal_of_kind}
use Rattle.reading_expressions.specs.declared.fault.ParseFault.{ParseFault}
use Rattle.reading_expressions.specs.declared.fault.ParseFault.TheVariants.{Expected, Conflict, TooNested, OutOfProfile, NoMemory}
use Rattle.reading_units.specs.Marks.{mark_of, first_mark}
use Rattle.reading_units.specs.Rests.{Rest, ◌▹◌, Marked, OthersOf, SomeOthersOf, SomeOthers, Listed}
use Rattle.reading_units.specs.Reads.{SameHead, Leads, Lacks, Misses, IsStopped, RefusedIn, BegunBy}
use Rattle.reading_units.specs.declared.marks.Mark.{Mark}
use Rattle.reading_units.specs.declared.marks.Mark.TheVariants as marks
use Rattle.reading_units.proofs.Leading.{leads_on}

-- ---- a token

pub token_leads : (m : Mark) (T : Rest) (xs ys : List Laid) → Marked m xs ys → Leads (Marked m ▹ T) T xs ys
token_leads m T [] ys h = absurd h
token_leads m T (x ∷ xs) ys h = record {
  text = x ∷ [];
  whole = ap (λ v. x ∷ v) h.1;
  goes = λ fit zs u. (zs, (h.0, refl), u);
  comes = λ fit zs s t. subst (T fit) (sym t.1.1) t.2;
}

abbrev IsOfToken : ParseFault → Type 0
IsOfToken (Expected p) = Unit {0}
IsOfToken (OutOfProfile f p) = Unit {0}
IsOfToken _ = ⊥

of_kind : (k : Kind) (own at : Place) → IsOfToken (refusal_of_kind k own at)
of_kind (kinds.Foreign f) own at = tt
of_kind _ own at = tt

of_next : (o : Option Token) (at : Place) → IsOfToken (refusal_before o at)
of_next (Some t) at = of_kind t.kind t.place at
of_next None at = tt

of_token : (x : Laid) (rest : List Laid) → IsOfToken (refusal_of x rest)
of_token x rest = of_next (next_of (x ∷ rest) None) (place_of x)

pub refused_stopped : (T : Rest) (D : Place → Type 0) (H : List Laid → Type 0) (xs : List Laid) (e : ParseFault) → IsStopped T H xs e → RefusedIn T D H xs e
refused_stopped T D H xs (Expected p) s = s
refused_stopped T D H xs (OutOfProfile f p) s = s
refused_stopped T D H xs (Conflict p q) s = absurd (subst IsOfToken s.3 (of_token s.0 s.1))
refused_stopped T D H xs (TooNested p) s = absurd (subst IsOfToken s.3 (of_token s.0 s.1))
refused_stopped T D H xs NoMemory s = tt

-- the first token is refused
pub refused_first : (T : Rest) (D : Place → Type 0) (H : List Laid → Type 0) (xs : List Laid) (e : ParseFault) → H [] → ((fit : Bool) → BegunBy T fit []) → ((zs : List Laid) → SameHead xs zs → T false zs → ⊥) → IsRefusedAt xs e → RefusedIn T D H xs e
refused_first T D H [] e held b none h = absurd h
refused_first T D H (x ∷ xs) e held b none h = refused_stopped T D H (x ∷ xs) e (x, xs, record { read = []; whole = refl; begun = b false; fits = b true; there = λ more t. none (x ∷ more) refl t; held = held }, h)

pub same_first : (xs zs : List Laid) → SameHead xs zs → first_mark xs ≡ first_mark zs
same_first [] zs h = absurd h
same_first (x ∷ xs) [] h = absurd h
same_first (x ∷ xs) (z ∷ zs) h = ap mark_of h

pub token_first : (m : Mark) (xs ys : List Laid) → Marked m xs ys → first_mark xs ≡ Some m
token_first m [] ys h = absurd h
token_first m (x ∷ xs) ys h = h.0

pub no_token : (m : Mark) (xs zs ys : List Laid) → Lacks m xs → SameHead xs zs → Marked m zs ys → ⊥
no_token m xs zs ys l s t = l (same_first xs zs s ∙ token_first m zs ys t)

-- another token stands where one of a mark is expected
pub token_refused : (m : Mark) (T : Rest) (D : Place → Type 0) (H : List Laid → Type 0) (xs : List Laid) (e : ParseFault) → H [] → ((fit : Bool) → BegunBy (Marked m ▹ T) fit []) → Lacks m xs → IsRefusedAt xs e → RefusedIn (Marked m ▹ T) D H xs e
token_refused m T D H xs e held b l h = refused_first (Marked m ▹ T) D H xs e held b (λ zs s t. no_token m xs zs t.0 l s t.1) h

pub misses_refused : (m : Mark) (T : Rest) (D : Place → Type 0) (H : List Laid → Type 0) (xs : List Laid) (e : ParseFault) → H [] → ((fit : Bool) → BegunBy (Marked m ▹ T) fit []) → Misses m xs e → RefusedIn (Marked m ▹ T) D H xs e
misses_refused m T D H xs (Expected p) held b h = token_refused m T D H xs (Expected p) held b h.0 h.1
misses_refused m T D H xs (OutOfProfile f p) held b h = token_refused m T D H xs (OutOfProfile f p) held b h.0 h.1
misses_refused m T D H xs (Conflict p q) held b h = token_refused m T D H xs (Conflict p q) held b h.0 h.1
misses_refused m T D H xs (TooNested p) held b h = token_refused m T D H xs (TooNested p) held b h.0 h.1
misses_refused m T D H xs NoMemory held b h = tt

pub misses : (m : Mark) (xs : List Laid) (e : ParseFault) → Lacks m xs → IsRefusedAt xs e → Misses m xs e
misses m xs NoMemory l h = tt
misses m xs (Expected p) l h = (l, h)
misses m xs (OutOfProfile f p) l h = (l, h)
misses m xs (Conflict p q) l h = (l, h)
misses m xs (TooNested p) l h = (l, h)

pub misses_memory : (m : Mark) (xs : List Laid) (e : ParseFault) → e ≡ NoMemory → Misses m xs e
misses_memory m xs e q = subst (Misses m xs) (sym q) tt

pub refused_memory : (T : Rest) (D : Place → Type 0) (H : List Laid → Type 0) (xs : List Laid) (e : ParseFault) → e ≡ NoMemory → RefusedIn T D H xs e
refused_memory T D H xs e q = subst (RefusedIn T D H xs) (sym q) tt

-- ---- parts of parts

pub leads_part : (R S : Span) (T : Rest) (xs : List Laid) → Leads ((R ⨟ S) ▹ T) (R ▹ S ▹ T) xs xs
leads_part R S T xs = record {
  text = [];
  whole = refl;
  goes = λ fit zs u. (u.2.0, (u.0, u.1, u.2.1), u.2.2);
  comes = λ fit zs s t. (t.1.0, t.1.1, (t.0, t.1.2, t.2));
}

-- ---- lists

-- no rest of this kind begins with a token of this mark
abbrev pub Avoids : Mark → Rest → Type 0
Avoids m T = (fit : Bool) (zs : List Laid) → T fit zs → Lacks m zs

pub first_name : (T : Rest) (xs ys : List Laid) → Marked marks.Name xs ys → Leads (Listed ▹ T) (SomeOthers ▹ T) xs ys
first_name T xs ys h = leads_on (Listed ▹ T) (Marked marks.Name ▹ SomeOthers ▹ T) (SomeOthers ▹ T) xs xs ys (leads_part (Marked marks.Name) SomeOthers T xs) (token_leads marks.Name (SomeOthers ▹ T) xs ys h)

behind_comma : (R : Span) (T : Rest) (n : ℕ) (fit : Bool) (x : Laid) (zs ys : List Laid) → Avoids marks.Comma T → mark_of x ≡ Some marks.Comma → OthersOf R n (x ∷ zs) ys → T fit ys → (R ▹ SomeOthersOf R ▹ T) fit zs
behind_comma R T zero fit x zs ys avoids e o t = absurd (avoids fit ys t (subst (λ v. first_mark v ≡ Some marks.Comma) o e))
behind_comma R T (suc n) fit x zs ys avoids e o t = (o.2.0, subst (λ v. R v o.2.0) (sym o.1.1) o.2.1, (ys, (n, o.2.2), t))

pub comma_leads : (R : Span) (T : Rest) (xs ys : List Laid) → Avoids marks.Comma T → Marked marks.Comma xs ys → Leads (SomeOthersOf R ▹ T) (R ▹ SomeOthersOf R ▹ T) xs ys
comma_leads R T [] ys avoids h = absurd h
comma_leads R T (x ∷ xs) ys avoids h = record {
  text = x ∷ [];
  whole = ap (λ v. x ∷ v) h.1;
  goes = λ fit zs u. (u.2.0, (suc u.2.1.0, (zs, (h.0, refl), (u.0, u.1, u.2.1.1))), u.2.2);
  comes = λ fit zs s t. behind_comma R T t.1.0 fit x zs t.0 avoids h.0 t.1.1 t.2;
}

pub one_more_part : (R : Span) (T : Rest) (xs ys zs : List Laid) → Avoids marks.Comma T → Marked marks.Comma xs ys → Leads (R ▹ SomeOthersOf R ▹ T) (SomeOthersOf R ▹ T) ys zs → Leads (SomeOthersOf R ▹ T) (SomeOthersOf R ▹ T) xs zs
one_more_part R T xs ys zs avoids c part = leads_on (SomeOthersOf R ▹ T) (R ▹ SomeOthersOf R ▹ T) (SomeOthersOf R ▹ T) xs ys zs (comma_leads R T xs ys avoids c) part

pub one_more : (T : Rest) (xs ys zs : List Laid) → Avoids marks.Comma T → Marked marks.Comma xs ys → Marked marks.Name ys zs → Leads (SomeOthers ▹ T) (SomeOthers ▹ T) xs zs
one_more T xs ys zs avoids c n = one_more_part (Marked marks.Name) T xs ys zs avoids c (token_leads marks.Name (SomeOthers ▹ T) ys zs n)

no_others : (R : Span) (T : Rest) (n : ℕ) (fit : Bool) (xs zs ys : List Laid) → Lacks marks.Comma xs → SameHead xs zs → OthersOf R n zs ys → T fit ys → T fit zs
no_others R T zero fit xs zs ys l s o t = subst (T fit) (sym o) t
no_others R T (suc n) fit xs zs ys l s o t = absurd (no_token marks.Comma xs zs o.0 l s o.1)

pub parts_end : (R : Span) (T : Rest) (xs : List Laid) → Lacks marks.Comma xs → Leads (SomeOthersOf R ▹ T) T xs xs
parts_end R T xs l = record {
  text = [];
  whole = refl;
  goes = λ fit zs t. (zs, (zero, refl), t);
  comes = λ fit zs s t. no_others R T t.1.0 fit xs zs t.0 l s t.1.1 t.2;
}

-- what is so of the mark that there is
pub at_some : (P : Mark → Type 0) (o : Option Mark) (m : Mark) → o ≡ Some m → IfSome o P → P m
at_some P o m q h = let Q : Option Mark → Type 0 = λ v. IfSome v P in subst Q q h

-- a refusal handed on
pub err_mapped : {T : Type 0} (r : Result T ParseFault) (P Q : ParseFault → Type 0) → IfErr r P → ((e : ParseFault) → P e → Q e) → IfErr r Q
err_mapped (Ok x) P Q h f = tt
err_mapped (Err e) P Q h f = f e h
