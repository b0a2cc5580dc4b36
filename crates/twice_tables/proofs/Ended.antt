-- Two specifications that one program comes to are alike.
use Rattle.std.proofs.Common.{◌≡◌, ◌∙◌, sym, ap, refl, subst, ℕ, zero, suc, List, [], ◌∷◌, ◌++◌, length, ◌<◌, arith}
use Rattle.std.specs.Prelude.{◌≢◌, Option, Some, None, slice_get}
use Rattle.std.proofs.lemmas.Option.{slice_get_within}
use Rattle.values_core.specs.Data.{Val}
use Rattle.reading_trees.specs.Trees.{Tree}
use Rattle.reading_trees.specs.declared.config.Config.{Config}
use Rattle.reading_trees.specs.declared.expr.Definition.{Definition}
use Rattle.reading_trees.specs.declared.module.Program.{Program}
use Rattle.names_terms.specs.declared.ids.DefId.{DefId}
use Rattle.names_terms.specs.declared.operator.Operator.{Operator}
use Rattle.names_terms.specs.declared.spec.Spec.{Spec}
use Rattle.names_terms.specs.Lists.{terms_list}
use Rattle.names_terms.specs.Terms as term
use Rattle.names_terms.specs.Terms.{Term, Terms}
use Rattle.names_program.specs.InUnits.{assumptions_in, definitions_in}
use Rattle.names_program.specs.Names.{definition_index}
use Rattle.names_tables.specs.Tables.{IsTabled}
use Rattle.names_resolving.specs.Configured.{IsSilentOf, number_named}
use Rattle.names_resolving.specs.Resolved.{IsOneForm, IsSpecOf}
use Rattle.twice_terms.specs.Alike.{Alike, AlikeRows, AlikeTerms, no_terms_alike, more_terms_alike}
use Rattle.twice_terms.specs.Laws.{AlikeTellSame, AreOne}
use Rattle.twice_tables.specs.Outcome.{AlikeSilent, none_silent, both_silent, AreAlike}
use Rattle.twice_tables.specs.Places.{ValuesAre}
use Rattle.twice_tables.proofs.Behind.{steps_alike}
use Rattle.twice_tables.proofs.Faulty.{item_there}
use Rattle.twice_tables.proofs.ProgramNames.{there}
use Rattle.twice_tables.proofs.Sides.{Side, Ranges, index_ranges, rows_same, there_same}

-- the item of a list that ends with one

earlier : {A : Type 0} (xs : List A) (x y : A) (j : ℕ) → slice_get xs j ≡ Some y → slice_get (xs ++ x ∷ []) j ≡ Some y
earlier [] x y zero e = absurd (cc)
earlier [] x y (suc j) e = absurd (cc)
earlier (z ∷ xs) x y zero e = e
earlier (z ∷ xs) x y (suc j) e = earlier xs x y j e

last : {A : Type 0} (xs : List A) (x : A) → slice_get (xs ++ x ∷ []) (length xs) ≡ Some x
last [] x = refl
last (z ∷ xs) x = last xs x

pushed : {A : Type 0} (xs : List A) (x : A) → length (xs ++ x ∷ []) ≡ suc (length xs)
pushed [] x = refl
pushed (z ∷ xs) x = ap suc (pushed xs x)

empty : {A : Type 0} (xs : List A) (x : A) → length (xs ++ x ∷ []) ≡ 0 → ⊥
empty xs x e = let more : suc (length xs) ≡ 0 = sym (pushed xs x) ∙ e in absurd (omega (arith, more))

module _ (Same : Val → Val → Type 0) (ops all : List Operator) where
  abbrev EachAlike : List Term → List Term → Type 0
  EachAlike es fs = (j : ℕ) (e f : Term) → slice_get es j ≡ Some e → slice_get fs j ≡ Some f → Alike Same ops all e f

  pub terms_alike : (ts us : Terms) → length (terms_list ts) ≡ length (terms_list us) → EachAlike (terms_list ts) (terms_list us) → AlikeTerms Same ops all ts us
  terms_alike term.NoTerms term.NoTerms q h = no_terms_alike
  terms_alike term.NoTerms (term.MoreTerms us f) q h = absurd (empty (terms_list us) f (sym q))
  terms_alike (term.MoreTerms ts e) term.NoTerms q h = absurd (empty (terms_list ts) e q)
  terms_alike (term.MoreTerms ts e) (term.MoreTerms us f) q h =
      let more : suc (length (terms_list ts)) ≡ suc (length (terms_list us)) = sym (pushed (terms_list ts) e) ∙ q ∙ pushed (terms_list us) f in
      let same : length (terms_list ts) ≡ length (terms_list us) = omega (arith, more) in
      let end : slice_get (terms_list us ++ f ∷ []) (length (terms_list ts)) ≡ Some f = ap (slice_get (terms_list us ++ f ∷ [])) same ∙ last (terms_list us) f in
      more_terms_alike ts us e f
      (terms_alike ts us same (λ j x y a b. h j x y (earlier (terms_list ts) e x j a) (earlier (terms_list us) f y j b)))
      (h (length (terms_list ts)) e f (last (terms_list ts) e) end)

module _ (p : Program) (c : Config) where
  -- a definition with a name has one in the other table
  named_there : (a b : Side p c) → ValuesAre AreOne p c a.values b.values → (k : ℕ) (o : Operator) → slice_get a.ops k ≡ Some o → o.name ≢ [] → (j : ℕ) × AlikeRows AreOne a.ops b.ops k j
  named_there a b are k o e n =
      let x : (i : ℕ) × (d : Definition) × (slice_get (definitions_in p.units) i ≡ Some d) × (a.number i ≡ Some k) = a.is.table.named k o e n in
      let y : IsTabled p c b.values b.number b.ops x.0 x.1 = b.is.table.definitions x.0 x.1 x.2 in
      (y.row, rows_same p c AreOne (λ v. refl) a b are x.0 x.1 k y.row x.2 x.3 y.numbered)

  named_here : (a b : Side p c) → ValuesAre AreOne p c a.values b.values → (j : ℕ) (o : Operator) → slice_get b.ops j ≡ Some o → o.name ≢ [] → (k : ℕ) × AlikeRows AreOne a.ops b.ops k j
  named_here a b are j o e n =
      let x : (i : ℕ) × (d : Definition) × (slice_get (definitions_in p.units) i ≡ Some d) × (b.number i ≡ Some j) = b.is.table.named j o e n in
      let y : IsTabled p c a.values a.number a.ops x.0 x.1 = a.is.table.definitions x.0 x.1 x.2 in
      (y.row, rows_same p c AreOne (λ v. refl) a b are x.0 x.1 y.row j x.2 y.numbered x.3)

  silent_rows : (a b : Side p c) → ValuesAre AreOne p c a.values b.values → (o : Option ℕ) (k j : DefId) → Ranges p o → number_named a.number o ≡ Some k.0 → number_named b.number o ≡ Some j.0 → AlikeRows AreOne a.ops b.ops k.0 j.0
  silent_rows a b are None k j lt x y = absurd (cc)
  silent_rows a b are (Some i) k j lt x y =
      let d : (d : Definition) × (slice_get (definitions_in p.units) i ≡ Some d) = there (definitions_in p.units) i lt in
      rows_same p c AreOne (λ v. refl) a b are i d.0 k.0 j.0 d.1 x y

  silent_alike : (a b : Side p c) → ValuesAre AreOne p c a.values b.values → (silent : Option (List ℕ)) (x y : Option DefId) → IsSilentOf p a.number silent x → IsSilentOf p b.number silent y → AlikeSilent a.ops b.ops x y
  silent_alike a b are None None None h g = none_silent
  silent_alike a b are None None (Some j) h g = absurd g
  silent_alike a b are None (Some k) y h g = absurd h
  silent_alike a b are (Some n) None y h g = absurd h
  silent_alike a b are (Some n) (Some k) None h g = absurd g
  silent_alike a b are (Some n) (Some k) (Some j) h g = both_silent k j (silent_rows a b are (definition_index p n) k j (index_ranges p n) h g)

  assumes_alike : (a b : Side p c) → ValuesAre AreOne p c a.values b.values → (ts us : Terms) → terms_list ts ≡ a.assumes → terms_list us ≡ b.assumes → AlikeTerms AreOne a.ops b.ops ts us
  assumes_alike a b are ts us x y =
      let many : length (terms_list ts) ≡ length (terms_list us) = ap length x ∙ a.is.assumed.as_many ∙ sym b.is.assumed.as_many ∙ sym (ap length y) in
      terms_alike AreOne a.ops b.ops ts us many (λ j e f g h.
      (let at : slice_get a.assumes j ≡ Some e = ap (λ (l : List Term). slice_get l j) (sym x) ∙ g in
      let to : slice_get b.assumes j ≡ Some f = ap (λ (l : List Term). slice_get l j) (sym y) ∙ h in
      let lt : j < length (assumptions_in p.units) = subst (λ (n : ℕ). j < n) a.is.assumed.as_many (slice_get_within a.assumes j e at) in
      let t : (t : Tree) × (slice_get (assumptions_in p.units) j ≡ Some t) = item_there (assumptions_in p.units) j lt in
      there_same p c AreOne (λ v. refl) a b are [] t.0 e f (a.is.assumed.each j t.0 e t.1 at) (b.is.assumed.each j t.0 f t.1 to)))

  pub specs_alike : AlikeTellSame AreOne → IsOneForm c → (silent : Option (List ℕ)) (a b : Side p c) → ValuesAre AreOne p c a.values b.values → (s t : Spec) → IsSpecOf p c silent a.number a.ops a.assumes s → IsSpecOf p c silent b.number b.ops b.assumes t → AreAlike s t
  specs_alike laws form silent a b are s t h g =
      let steps = steps_alike p c AreOne (λ v. refl) laws form a b are s.init s.next t.init t.next h.steps g.steps in
      let over : (F : List Operator → List Operator → Type 0) → F a.ops b.ops → F s.operators t.operators =
      λ F x. subst (λ (l : List Operator). F s.operators l) (sym g.operators) (subst (λ (l : List Operator). F l b.ops) (sym h.operators) x) in
      record {
        files = h.files ∙ sym g.files;
        variables = h.variables ∙ sym g.variables;
        here = over (λ ops all. (k : ℕ) (o : Operator) → slice_get ops k ≡ Some o → o.name ≢ [] → (j : ℕ) × AlikeRows AreOne ops all k j) (named_there a b are);
        other = over (λ ops all. (j : ℕ) (o : Operator) → slice_get all j ≡ Some o → o.name ≢ [] → (k : ℕ) × AlikeRows AreOne ops all k j) (named_here a b are);
        init = over (λ ops all. Alike AreOne ops all s.init t.init) steps.0;
        next = over (λ ops all. Alike AreOne ops all s.next t.next) steps.1;
        silent = over (λ ops all. AlikeSilent ops all s.silent t.silent) (silent_alike a b are silent s.silent t.silent h.silent_is g.silent_is);
        assumes = over (λ ops all. AlikeTerms AreOne ops all s.assumes t.assumes) (assumes_alike a b are s.assumes t.assumes h.assumes_are g.assumes_are);
        unchecked = h.unchecked ∙ sym g.unchecked;
      }
