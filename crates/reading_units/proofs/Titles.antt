-- Expressions behind a title or none.
use Rattle.std.proofs.Common.{◌≡◌, ℕ, Bool, true, false, List, [], ◌∷◌, ◌++◌, Some, inl, inr, refl, sym, ap, subst, ◌∙◌}
use Rattle.base_core.specs.declared.place.Place.{Place}
use Rattle.reading_trees.specs.declared.laid.Laid.{Laid}
use Rattle.reading_trees.specs.declared.laid.Laid.TheVariants.{Plain}
use Rattle.reading_tokens.specs.declared.token.Kind.TheVariants as kinds
use Rattle.reading_trees.specs.Trees as tree
use Rattle.reading_trees.specs.Grammar.{nothing, either}
use Rattle.reading_expressions.specs.Nesting.{Shallow}
use Rattle.reading_expressions.specs.declared.fault.ParseFault.{ParseFault}
use Rattle.reading_expressions.specs.declared.fault.ParseFault.TheVariants.{Expected, Conflict, TooNested, OutOfProfile, NoMemory}
use Rattle.reading_units.specs.Marks.{mark_of, first_mark}
use Rattle.reading_units.specs.Rests.{Rest, ◌▹◌, Then, Marked, Title, Titled, FitsIf, Expression, Tail}
use Rattle.reading_units.specs.Reads.{SameHead, Leads, Stops, IsStopped, RefusedIn, BegunBy, ReadsTitle, second_mark_is, DeepExpression, DeepTitled, ShallowTitled}
use Rattle.reading_units.specs.declared.marks.Mark.{Mark}
use Rattle.reading_units.specs.declared.marks.Mark.TheVariants as marks
use Rattle.reading_units.proofs.Extents.{Passed}
use Rattle.reading_units.proofs.Leading.{leads_on, meets_on, refused_on, same_head_append, stay}
use Rattle.reading_units.proofs.MarksTold.{told}
use Rattle.reading_units.proofs.OneModuleTokens.{TextEnds}
use Rattle.reading_units.proofs.RestSteps.{same_first, token_first}
use Rattle.reading_units.proofs.ShallowRead.{shallow_titled}
use Rattle.reading_units.proofs.TailSteps.{tail_ending, some_tail, last_tokens}

-- an expression does not begin with a name and `==`
abbrev pub NoTitle : Type 0
NoTitle = (fit : Bool) (n d : Laid) (more ys : List Laid) → mark_of n ≡ Some marks.Name → mark_of d ≡ Some marks.Defined → Expression fit (n ∷ d ∷ more) ys → TextEnds ys → ⊥

abbrev pub TitledTail : Rest
TitledTail = either nothing Title ▹ Then Expression Tail

pub titled_leads : (xs : List Laid) → Leads (Then Titled Tail) TitledTail xs xs
titled_leads xs = record {
  text = [];
  whole = refl;
  goes = λ fit zs u. (u.2.0, (u.0, u.1, u.2.1), u.2.2);
  comes = λ fit zs s t. (t.1.0, t.1.1, (t.0, t.1.2, t.2));
}

-- ---- behind a title

abbrev NotTitled : List Laid → Type 0
NotTitled xs = first_mark xs ≡ Some marks.Name → second_mark_is marks.Defined xs → ⊥

behind_title : NoTitle → (fit : Bool) (n d : Laid) (zs vs : List Laid) → mark_of n ≡ Some marks.Name → mark_of d ≡ Some marks.Defined → either nothing Title (n ∷ d ∷ zs) vs → Then Expression Tail fit vs → Then Expression Tail fit zs
behind_title none fit n d zs vs a b (inl q) t = absurd (none fit n d zs t.0 a b (subst (λ v. Expression fit v t.0) (sym q) t.1) (tail_ending fit t.0 t.2))
behind_title none fit n d zs vs a b (inr h) t =
    let there : Marked marks.Defined (d ∷ zs) vs = subst (λ v. Marked marks.Defined v vs) (sym h.1.1) h.2 in
    subst (Then Expression Tail fit) (sym there.1) t

title_leads_so : NoTitle → (n d : Laid) (xs : List Laid) → mark_of n ≡ Some marks.Name → mark_of d ≡ Some marks.Defined → Leads TitledTail (Then Expression Tail) (n ∷ d ∷ xs) xs
title_leads_so none n d xs a b = record {
  text = n ∷ d ∷ [];
  whole = refl;
  goes = λ fit zs u. (zs, inr (d ∷ zs, (a, refl), (b, refl)), u);
  comes = λ fit zs s t. behind_title none fit n d zs t.0 a b t.1 t.2;
}

title_leads_on : NoTitle → (n : Laid) (ws ys : List Laid) → mark_of n ≡ Some marks.Name → Marked marks.Defined ws ys → Leads TitledTail (Then Expression Tail) (n ∷ ws) ys
title_leads_on none n [] ys a h = absurd h
title_leads_on none n (d ∷ ws) ys a h = subst (λ v. Leads TitledTail (Then Expression Tail) (n ∷ d ∷ ws) v) h.1 (title_leads_so none n d ws a h.0)

title_leads : NoTitle → (xs ys : List Laid) → Title xs ys → Leads TitledTail (Then Expression Tail) xs ys
title_leads none [] ys h = absurd h.1
title_leads none (n ∷ xs) ys h = title_leads_on none n xs ys h.1.0 (subst (λ v. Marked marks.Defined v ys) (sym h.1.1) h.2)

-- ---- with no title

title_second : (xs ys : List Laid) → Title xs ys → second_mark_is marks.Defined xs
title_second [] ys h = absurd h.1
title_second (n ∷ xs) ys h = ap first_mark h.1.1 ∙ token_first marks.Defined h.0 ys h.2

-- behind the first of its tokens another list tells the same as the first token of what stands there
second_same : (m : Mark) (r : Laid) (read ys zs : List Laid) → SameHead ys zs → second_mark_is m ((r ∷ read) ++ zs) → second_mark_is m ((r ∷ read) ++ ys)
second_same m r read ys zs s h = same_first (read ++ ys) (read ++ zs) (same_head_append read ys zs s) ∙ h

no_title : (r : Laid) (read ys zs vs : List Laid) → NotTitled ((r ∷ read) ++ ys) → SameHead ys zs → Title ((r ∷ read) ++ zs) vs → ⊥
no_title r read ys zs vs not s h = not (token_first marks.Name ((r ∷ read) ++ zs) h.0 h.1) (second_same marks.Defined r read ys zs s (title_second ((r ∷ read) ++ zs) vs h))

untitled_comes : (text xs ys : List Laid) → xs ≡ text ++ ys → (text ≡ [] → ⊥) → NotTitled xs → (fit : Bool) (zs vs : List Laid) → SameHead ys zs → either nothing Title (text ++ zs) vs → Then Expression Tail fit vs → Then Expression Tail fit (text ++ zs)
untitled_comes text xs ys whole some not fit zs vs s (inl q) t = subst (Then Expression Tail fit) (sym q) t
untitled_comes [] xs ys whole some not fit zs vs s (inr h) t = absurd (some refl)
untitled_comes (r ∷ text) xs ys whole some not fit zs vs s (inr h) t = absurd (no_title r text ys zs vs (subst NotTitled whole not) s h)

untitled_leads : (xs ys : List Laid) → NotTitled xs → Passed Expression Tail xs ys → Leads TitledTail Tail xs ys
untitled_leads xs ys not p = record {
  text = p.0.text;
  whole = p.0.whole;
  goes = λ fit zs u. (p.0.text ++ zs, inl refl, p.0.goes fit zs u);
  comes = λ fit zs s t. p.0.comes fit zs s (untitled_comes p.0.text xs ys p.0.whole p.1 not fit zs t.0 s t.1 t.2);
}

-- a name is an expression
fits_name : (fit : Bool) (at : Place) (n : List ℕ) → FitsIf fit (tree.Name at n)
fits_name true at n = tt
fits_name false at n = tt

name_alone : (fit : Bool) (x : Laid) → mark_of x ≡ Some marks.Name → Then Expression Tail fit (x ∷ last_tokens)
name_alone fit x e =
    let t = told marks.Name x e in
    let named : x ≡ Plain (record { kind = kinds.Name t.2.0; place = t.0.place }) = t.1 ∙ ap (λ k. Plain (record { kind = k; place = t.0.place })) t.2.1 in
    (last_tokens, (tree.Name t.0.place t.2.0, ap (λ v. v ∷ last_tokens) named, fits_name fit t.0.place t.2.0), some_tail fit)

untitled_there : (read rest xs : List Laid) (x : Laid) (fit : Bool) → NotTitled xs → xs ≡ read ++ x ∷ rest → ((more : List Laid) → Then Expression Tail fit (read ++ x ∷ more) → ⊥) → (more : List Laid) (vs : List Laid) → either nothing Title (read ++ x ∷ more) vs → Then Expression Tail fit vs → ⊥
untitled_there read rest xs x fit not whole none more vs (inl q) t = none more (subst (Then Expression Tail fit) (sym q) t)
untitled_there [] rest xs x fit not whole none more vs (inr h) t = none last_tokens (name_alone fit x (token_first marks.Name (x ∷ more) h.0 h.1))
untitled_there (r ∷ read) rest xs x fit not whole none more vs (inr h) t = no_title r read (x ∷ rest) (x ∷ more) vs (subst NotTitled whole not) refl h

untitled_begun : (fit : Bool) (l : List Laid) → BegunBy (Then Expression Tail) fit l → BegunBy TitledTail fit l
untitled_begun fit l b = (b.0, (l ++ b.0, inl refl, b.1))

untitled_shallow : (l : List Laid) → Shallow l → ShallowTitled l
untitled_shallow l s = record { title = []; body = l; whole = refl; titled = inl refl; shallow = s }

untitled_stopped : (xs : List Laid) (e : ParseFault) → NotTitled xs → IsStopped (Then Expression Tail) Shallow xs e → IsStopped TitledTail ShallowTitled xs e
untitled_stopped xs e not s =
    let t : Stops (Then Expression Tail) Shallow xs s.1 s.0 = s.2 in (
      s.0,
      s.1,
      record {
        read = t.read;
        whole = t.whole;
        begun = untitled_begun false t.read t.begun;
        fits = untitled_begun true t.read t.fits;
        there = λ more u. untitled_there t.read s.1 xs s.0 false not t.whole t.there more u.0 u.1 u.2;
        held = untitled_shallow t.read t.held;
      },
      s.3,
    )

untitled_refused : (xs : List Laid) (e : ParseFault) → NotTitled xs → RefusedIn (Then Expression Tail) (DeepExpression xs) Shallow xs e → RefusedIn TitledTail (DeepTitled xs) ShallowTitled xs e
untitled_refused xs (Expected p) not r = untitled_stopped xs (Expected p) not r
untitled_refused xs (OutOfProfile f p) not r = untitled_stopped xs (OutOfProfile f p) not r
untitled_refused xs (Conflict p q) not r = record {
  read = r.read;
  rest = r.rest;
  here = r.here;
  whole = r.whole;
  begun = untitled_begun false (r.read ++ r.here ∷ []) r.begun;
  fits = untitled_begun true r.read r.fits;
  none = λ more u. untitled_there r.read r.rest xs r.here true not r.whole r.none more u.0 u.1 u.2;
  held = untitled_shallow r.read r.held;
  places = meets_on (BegunBy (Then Expression Tail) false) (BegunBy TitledTail false) [] r.read r.here p q (untitled_begun false) r.places;
}
untitled_refused xs (TooNested p) not r = record { title = []; body = xs; whole = refl; titled = inl refl; deep = r }
untitled_refused xs NoMemory not r = tt

-- ---- with a title or none

title_deep_on : (n : Laid) (ws ys : List Laid) (p : Place) → mark_of n ≡ Some marks.Name → Marked marks.Defined ws ys → DeepExpression ys p → DeepTitled (n ∷ ws) p
title_deep_on n [] ys p a h r = absurd h
title_deep_on n (d ∷ ws) ys p a h r = record { title = n ∷ d ∷ []; body = ys; whole = ap (λ v. n ∷ d ∷ v) h.1; titled = inr (d ∷ [], (a, refl), (h.0, refl)); deep = r }

title_deep : (xs ys : List Laid) (p : Place) → Title xs ys → DeepExpression ys p → DeepTitled xs p
title_deep [] ys p h r = absurd h.1
title_deep (n ∷ xs) ys p h r = title_deep_on n xs ys p h.1.0 (subst (λ v. Marked marks.Defined v ys) (sym h.1.1) h.2) r

pub titled_passed : NoTitle → (xs ys zs : List Laid) → ReadsTitle xs ys → Passed Expression Tail ys zs → Leads (Then Titled Tail) Tail xs zs
titled_passed none xs ys zs (inl h) p = leads_on (Then Titled Tail) TitledTail Tail xs xs zs (titled_leads xs) (leads_on TitledTail (Then Expression Tail) Tail xs ys zs (title_leads none xs ys h) p.0)
titled_passed none xs ys zs (inr h) p = leads_on (Then Titled Tail) TitledTail Tail xs xs zs (titled_leads xs) (untitled_leads xs zs h.1 (subst (λ v. Passed Expression Tail v zs) (sym h.0) p))

same_refused : (xs ys : List Laid) (e : ParseFault) → xs ≡ ys → RefusedIn (Then Expression Tail) (DeepExpression ys) Shallow ys e → RefusedIn (Then Expression Tail) (DeepExpression xs) Shallow xs e
same_refused xs ys e q r = subst (λ v. RefusedIn (Then Expression Tail) (DeepExpression v) Shallow v e) (sym q) r

maybe_titled_refused : NoTitle → (xs ys : List Laid) (e : ParseFault) → ReadsTitle xs ys → RefusedIn (Then Expression Tail) (DeepExpression ys) Shallow ys e → RefusedIn TitledTail (DeepTitled xs) ShallowTitled xs e
maybe_titled_refused none xs ys e (inl h) r =
    let there : Leads TitledTail (Then Expression Tail) xs ys = title_leads none xs ys h in
    refused_on TitledTail (Then Expression Tail) (DeepTitled xs) (DeepExpression ys) ShallowTitled Shallow xs ys e there (λ p d. title_deep xs ys p h d) (shallow_titled xs ys there.text h there.whole) r
maybe_titled_refused none xs ys e (inr h) r = untitled_refused xs e h.1 (same_refused xs ys e h.0 r)

pub titled_refused : NoTitle → (xs ys : List Laid) (e : ParseFault) → ReadsTitle xs ys → RefusedIn (Then Expression Tail) (DeepExpression ys) Shallow ys e → RefusedIn (Then Titled Tail) (DeepTitled xs) ShallowTitled xs e
titled_refused none xs ys e t r =
    let there : Leads (Then Titled Tail) TitledTail xs xs = titled_leads xs in
    refused_on (Then Titled Tail) TitledTail (DeepTitled xs) (DeepTitled xs) ShallowTitled ShallowTitled xs xs e there (λ p d. d) (stay ShallowTitled xs there.text there.whole) (maybe_titled_refused none xs ys e t r)
