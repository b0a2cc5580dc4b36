-- Names in the rest of a module, and what is extended.
use Rattle.std.proofs.Common.{◌≡◌, ℕ, zero, suc, Bool, List, [], ◌∷◌, ◌++◌, append_assoc, Some, inl, inr, refl, sym, ap, subst, ◌∙◌}
use Rattle.std.proofs.lemmas.List.{append-nil}
use Rattle.reading_trees.specs.declared.laid.Laid.{Laid}
use Rattle.reading_expressions.specs.declared.fault.ParseFault.{ParseFault}
use Rattle.reading_units.specs.Marks.{mark_of, first_mark}
use Rattle.reading_trees.specs.Grammar.{◌⨟◌}
use Rattle.reading_units.specs.Refusals.{Begins}
use Rattle.reading_units.specs.Rests.{Rest, ◌▹◌, Marked, Others, SomeOthers, Listed, Extended, Tail}
use Rattle.reading_units.specs.Reads.{SameHead, Leads, Lacks, Misses, RefusedIn, BegunBy, NeverDeep}
use Rattle.reading_units.specs.declared.marks.Mark.{Mark}
use Rattle.reading_units.specs.declared.marks.Mark.TheVariants as marks
use Rattle.reading_units.proofs.Leading.{leads_on, refused_on, stay}
use Rattle.reading_units.proofs.Locals.{before_any, local_then, local_marked, local_listed}
use Rattle.reading_units.proofs.MarksTold.{plain, kind_with, has_mark}
use Rattle.reading_units.proofs.RestSteps.{Avoids, misses_refused, leads_part, first_name, comma_leads, one_more, parts_end, no_token}
use Rattle.reading_units.proofs.TailSteps.{tail_avoids, last_tokens, some_tail}

-- a token of a mark begins such a rest
pub marked_begun : (m : Mark) (T : Rest) (fit : Bool) (ws : List Laid) → T fit ws → BegunBy (Marked m ▹ T) fit []
marked_begun m T fit ws t = (plain (kind_with m) ∷ ws, (ws, (has_mark m, refl), t))

pub no_comma : Avoids marks.Comma Tail
no_comma = tail_avoids marks.Comma (λ b. b)

others_begun : (fit : Bool) → BegunBy (Marked marks.Name ▹ SomeOthers ▹ Tail) fit []
others_begun fit = marked_begun marks.Name (SomeOthers ▹ Tail) fit last_tokens (last_tokens, (zero, refl), some_tail fit)

-- ---- names

pub list_first : (xs ys : List Laid) → Marked marks.Name xs ys → Leads (Listed ▹ Tail) (SomeOthers ▹ Tail) xs ys
list_first xs ys h = first_name Tail xs ys h

abbrev pub some_name : Laid
some_name = plain (kind_with marks.Name)

pub is_some_name : (ws : List Laid) → Marked marks.Name (some_name ∷ ws) ws
is_some_name ws = (has_mark marks.Name, refl)

-- a list of names begins with no token
names_begun : (l : List Laid) → l ≡ [] → Begins Listed l
names_begun l q =
    let one : Listed (some_name ∷ []) [] = ([], is_some_name [], (zero, refl)) in
    subst (Begins Listed) (sym q) (some_name ∷ [], one)

pub list_first_refused : (xs : List Laid) (e : ParseFault) → Misses marks.Name xs e → RefusedIn (Listed ▹ Tail) NeverDeep (Begins Listed) xs e
list_first_refused xs e m =
    let parted : Leads (Listed ▹ Tail) (Marked marks.Name ▹ SomeOthers ▹ Tail) xs xs = leads_part (Marked marks.Name) SomeOthers Tail xs in
    let first : RefusedIn (Marked marks.Name ▹ SomeOthers ▹ Tail) NeverDeep (λ l. l ≡ []) xs e = misses_refused marks.Name (SomeOthers ▹ Tail) NeverDeep (λ l. l ≡ []) xs e refl others_begun m in
    refused_on (Listed ▹ Tail) (Marked marks.Name ▹ SomeOthers ▹ Tail) NeverDeep NeverDeep (Begins Listed) (λ l. l ≡ []) xs xs e parted (λ p d. d) (λ l q. stay (Begins Listed) xs parted.text parted.whole l (names_begun l q)) first

pub list_more : (ws xs ys zs : List Laid) → Leads (Listed ▹ Tail) (SomeOthers ▹ Tail) ws xs → Marked marks.Comma xs ys → Marked marks.Name ys zs → Leads (Listed ▹ Tail) (SomeOthers ▹ Tail) ws zs
list_more ws xs ys zs h c n = leads_on (Listed ▹ Tail) (SomeOthers ▹ Tail) (SomeOthers ▹ Tail) ws xs zs h (one_more Tail xs ys zs no_comma c n)

others_more : (n : ℕ) (xs ys zs ws : List Laid) → Others n xs ys → Marked marks.Comma ys zs → Marked marks.Name zs ws → Others (suc n) xs ws
others_more zero xs ys zs ws o c b = (zs, subst (λ v. Marked marks.Comma v zs) (sym o) c, (ws, b, refl))
others_more (suc n) xs ys zs ws o c b = (o.0, o.1, (o.2.0, o.2.1, others_more n o.2.0 ys zs ws o.2.2 c b))

-- names and a comma begin a list of names
comma_begun : (ws xs ys text : List Laid) → Listed ws xs → Marked marks.Comma xs ys → ws ≡ text ++ ys → (l : List Laid) → l ≡ [] → Begins Listed (text ++ l)
comma_begun ws xs ys text h c e l q =
    let p = before_any (Listed ⨟ Marked marks.Comma) (local_then Listed (Marked marks.Comma) local_listed (local_marked marks.Comma)) ws ys text (xs, h, c) e (some_name ∷ []) in
    let others : Others (suc p.1.2.0) p.1.0 [] = others_more p.1.2.0 p.1.0 p.0 (some_name ∷ []) [] p.1.2.1 p.2 (is_some_name []) in
    let whole : Listed (text ++ some_name ∷ []) [] = (p.1.0, p.1.1, (suc p.1.2.0, others)) in
    let same : text ≡ text ++ l = sym (ap (λ v. text ++ v) q ∙ append-nil text) in
    (some_name ∷ [], subst (λ v. Listed (v ++ some_name ∷ []) []) same whole)

pub list_more_refused : (ws xs ys : List Laid) (e : ParseFault) → Listed ws xs → Leads (Listed ▹ Tail) (SomeOthers ▹ Tail) ws xs → Marked marks.Comma xs ys → Misses marks.Name ys e → RefusedIn (Listed ▹ Tail) NeverDeep (Begins Listed) ws e
list_more_refused ws xs ys e listed h c m =
    let there : Leads (Listed ▹ Tail) (Marked marks.Name ▹ SomeOthers ▹ Tail) ws ys = leads_on (Listed ▹ Tail) (SomeOthers ▹ Tail) (Marked marks.Name ▹ SomeOthers ▹ Tail) ws xs ys h (comma_leads (Marked marks.Name) Tail xs ys no_comma c) in
    let first : RefusedIn (Marked marks.Name ▹ SomeOthers ▹ Tail) NeverDeep (λ l. l ≡ []) ys e = misses_refused marks.Name (SomeOthers ▹ Tail) NeverDeep (λ l. l ≡ []) ys e refl others_begun m in
    refused_on (Listed ▹ Tail) (Marked marks.Name ▹ SomeOthers ▹ Tail) NeverDeep NeverDeep (Begins Listed) (λ l. l ≡ []) ws ys e there (λ p d. d) (comma_begun ws xs ys there.text listed c there.whole) first

pub list_end : (ws xs : List Laid) → Leads (Listed ▹ Tail) (SomeOthers ▹ Tail) ws xs → Lacks marks.Comma xs → Leads (Listed ▹ Tail) Tail ws xs
list_end ws xs h l = leads_on (Listed ▹ Tail) (SomeOthers ▹ Tail) Tail ws xs xs h (parts_end (Marked marks.Name) Tail xs l)

-- ---- what is extended

extends_comes : (x : Laid) (fit : Bool) (zs vs : List Laid) → mark_of x ≡ Some marks.Extends → Extended (x ∷ zs) vs → Tail fit vs → (Listed ▹ Tail) fit zs
extends_comes x fit zs vs e (inl q) t = absurd (tail_avoids marks.Extends (λ b. b) fit vs t (subst (λ v. first_mark v ≡ Some marks.Extends) q e))
extends_comes x fit zs vs e (inr h) t = (vs, subst (λ v. Listed v vs) (sym h.1.1) h.2, t)

extends_leads : (xs ys : List Laid) → Marked marks.Extends xs ys → Leads (Extended ▹ Tail) (Listed ▹ Tail) xs ys
extends_leads [] ys h = absurd h
extends_leads (x ∷ xs) ys h = record {
  text = x ∷ [];
  whole = ap (λ v. x ∷ v) h.1;
  goes = λ fit zs u. (u.0, inr (zs, (h.0, refl), u.1), u.2);
  comes = λ fit zs s t. extends_comes x fit zs t.0 h.0 t.1 t.2;
}

pub some_extended_far : (xs ys zs : List Laid) → Marked marks.Extends xs ys → Leads (Listed ▹ Tail) Tail ys zs → Leads (Extended ▹ Tail) Tail xs zs
some_extended_far xs ys zs m h = leads_on (Extended ▹ Tail) (Listed ▹ Tail) Tail xs ys zs (extends_leads xs ys m) h

extends_begun : (xs ys text : List Laid) → Marked marks.Extends xs ys → xs ≡ text ++ ys → (l : List Laid) → Begins Listed l → Begins Extended (text ++ l)
extends_begun xs ys text m e l b =
    let whole : Extended (text ++ (l ++ b.0)) [] = inr (l ++ b.0, before_any (Marked marks.Extends) (local_marked marks.Extends) xs ys text m e (l ++ b.0), b.1) in
    (b.0, subst (λ v. Extended v []) (sym (append_assoc text l b.0)) whole)

pub some_extended_refused : (xs ys : List Laid) (e : ParseFault) → Marked marks.Extends xs ys → RefusedIn (Listed ▹ Tail) NeverDeep (Begins Listed) ys e → RefusedIn (Extended ▹ Tail) NeverDeep (Begins Extended) xs e
some_extended_refused xs ys e m r =
    let there : Leads (Extended ▹ Tail) (Listed ▹ Tail) xs ys = extends_leads xs ys m in
    refused_on (Extended ▹ Tail) (Listed ▹ Tail) NeverDeep NeverDeep (Begins Extended) (Begins Listed) xs ys e there (λ p d. d) (extends_begun xs ys there.text m there.whole) r

none_comes : (xs zs vs : List Laid) (fit : Bool) → Lacks marks.Extends xs → SameHead xs zs → Extended zs vs → Tail fit vs → Tail fit zs
none_comes xs zs vs fit l s (inl q) t = subst (Tail fit) (sym q) t
none_comes xs zs vs fit l s (inr h) t = absurd (no_token marks.Extends xs zs h.0 l s h.1)

pub none_extended_far : (xs : List Laid) → Lacks marks.Extends xs → Leads (Extended ▹ Tail) Tail xs xs
none_extended_far xs l = record {
  text = [];
  whole = refl;
  goes = λ fit zs t. (zs, inl refl, t);
  comes = λ fit zs s t. none_comes xs zs t.0 fit l s t.1 t.2;
}
