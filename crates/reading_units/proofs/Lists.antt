-- Lists of parts with commas between them, before a rest that begins with no comma: how far they are read, and where they are refused.
use Rattle.std.proofs.Common.{◌≡◌, ℕ, zero, suc, List, [], ◌++◌, append_assoc, refl, sym, subst}
use Rattle.reading_trees.specs.declared.laid.Laid.{Laid}
use Rattle.reading_trees.specs.Grammar.{Span, ◌⨟◌}
use Rattle.reading_expressions.specs.declared.fault.ParseFault.{ParseFault}
use Rattle.reading_units.specs.Refusals.{Begins}
use Rattle.reading_units.specs.Rests.{Rest, ◌▹◌, Marked, OthersOf, SomeOthersOf, ListOf}
use Rattle.reading_units.specs.Reads.{Leads, Lacks, RefusedIn, NeverDeep}
use Rattle.reading_units.specs.declared.marks.Mark.TheVariants as marks
use Rattle.reading_units.proofs.Leading.{leads_on, refused_on, stay}
use Rattle.reading_units.proofs.Locals.{IsLocal, before_any, local_then, local_marked, local_list}
use Rattle.reading_units.proofs.RestSteps.{Avoids, leads_part, comma_leads, one_more_part, parts_end}

module _ (R : Span) (local : IsLocal R) (T : Rest) (avoids : Avoids marks.Comma T) where
  -- what stands behind a part of the list
  abbrev Behind : Rest
  Behind = SomeOthersOf R ▹ T

  -- ---- how far it is read

  pub first_part : (xs ys : List Laid) → Leads (R ▹ Behind) Behind xs ys → Leads (ListOf R ▹ T) Behind xs ys
  first_part xs ys part = leads_on (ListOf R ▹ T) (R ▹ Behind) Behind xs xs ys (leads_part R (SomeOthersOf R) T xs) part

  pub next_part : (ws xs ys zs : List Laid) → Leads (ListOf R ▹ T) Behind ws xs → Marked marks.Comma xs ys → Leads (R ▹ Behind) Behind ys zs → Leads (ListOf R ▹ T) Behind ws zs
  next_part ws xs ys zs h c part = leads_on (ListOf R ▹ T) Behind Behind ws xs zs h (one_more_part R T xs ys zs avoids c part)

  pub last_part : (ws xs : List Laid) → Leads (ListOf R ▹ T) Behind ws xs → Lacks marks.Comma xs → Leads (ListOf R ▹ T) T ws xs
  last_part ws xs h l = leads_on (ListOf R ▹ T) Behind T ws xs xs h (parts_end R T xs l)

  -- ---- where it is refused

  -- what begins a part begins a list
  begins_list : (l : List Laid) → Begins R l → Begins (ListOf R) l
  begins_list l b = (b.0, ([], b.1, (zero, refl)))

  pub first_refused : (xs : List Laid) (e : ParseFault) → RefusedIn (R ▹ Behind) NeverDeep (Begins R) xs e → RefusedIn (ListOf R ▹ T) NeverDeep (Begins (ListOf R)) xs e
  first_refused xs e r =
      let parted : Leads (ListOf R ▹ T) (R ▹ Behind) xs xs = leads_part R (SomeOthersOf R) T xs in
      refused_on (ListOf R ▹ T) (R ▹ Behind) NeverDeep NeverDeep (Begins (ListOf R)) (Begins R) xs xs e parted (λ p d. d)
      (λ l b. stay (Begins (ListOf R)) xs parted.text parted.whole l (begins_list l b)) r

  others_more : (n : ℕ) (xs ys zs ws : List Laid) → OthersOf R n xs ys → Marked marks.Comma ys zs → R zs ws → OthersOf R (suc n) xs ws
  others_more zero xs ys zs ws o c b = (zs, subst (λ v. Marked marks.Comma v zs) (sym o) c, (ws, b, refl))
  others_more (suc n) xs ys zs ws o c b = (o.0, o.1, (o.2.0, o.2.1, others_more n o.2.0 ys zs ws o.2.2 c b))

  -- a list and a comma, and then what begins a part, begin a list
  comma_begins : (ws xs ys text : List Laid) → ListOf R ws xs → Marked marks.Comma xs ys → ws ≡ text ++ ys → (l : List Laid) → Begins R l → Begins (ListOf R) (text ++ l)
  comma_begins ws xs ys text h c e l b =
      let p = before_any (ListOf R ⨟ Marked marks.Comma) (local_then (ListOf R) (Marked marks.Comma) (local_list R local) (local_marked marks.Comma)) ws ys text (xs, h, c) e (l ++ b.0) in
      let others : OthersOf R (suc p.1.2.0) p.1.0 [] = others_more p.1.2.0 p.1.0 p.0 (l ++ b.0) [] p.1.2.1 p.2 b.1 in
      let whole : ListOf R (text ++ (l ++ b.0)) [] = (p.1.0, p.1.1, (suc p.1.2.0, others)) in
      (b.0, subst (λ v. ListOf R v []) (sym (append_assoc text l b.0)) whole)

  pub next_refused : (ws xs ys : List Laid) (e : ParseFault) → ListOf R ws xs → Leads (ListOf R ▹ T) Behind ws xs → Marked marks.Comma xs ys → RefusedIn (R ▹ Behind) NeverDeep (Begins R) ys e
      → RefusedIn (ListOf R ▹ T) NeverDeep (Begins (ListOf R)) ws e
  next_refused ws xs ys e listed h c r =
      let there : Leads (ListOf R ▹ T) (R ▹ Behind) ws ys = leads_on (ListOf R ▹ T) Behind (R ▹ Behind) ws xs ys h (comma_leads R T xs ys avoids c) in
      refused_on (ListOf R ▹ T) (R ▹ Behind) NeverDeep NeverDeep (Begins (ListOf R)) (Begins R) ws ys e there (λ p d. d) (comma_begins ws xs ys there.text listed c there.whole) r
