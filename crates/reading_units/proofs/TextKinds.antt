-- Expressions and definitions as texts of one kind each, by the laws of them.
use Rattle.std.proofs.Common.{◌≡◌, ℕ, Bool, true, false, List, [], ◌∷◌, ◌++◌, Some, refl, sym, ap, subst, ◌∙◌}
use Rattle.std.proofs.lemmas.List.{append-nil}
use Rattle.base_core.specs.declared.place.Place.{Place}
use Rattle.reading_trees.specs.declared.laid.Laid.{Laid}
use Rattle.reading_trees.specs.declared.laid.Laid.TheVariants.{Plain}
use Rattle.reading_tokens.specs.declared.token.Kind.TheVariants as kinds
use Rattle.reading_tokens.specs.declared.token.Symbol.TheVariants as symbols
use Rattle.reading_trees.specs.Begun.{Begun}
use Rattle.reading_trees.specs.Fits.{Fits}
use Rattle.reading_trees.specs.Trees as tree
use Rattle.reading_trees.specs.Trees.{Tree}
use Rattle.reading_trees.specs.Grammar.{Text}
use Rattle.reading_machine.specs.Beginnings.{FittingBegun, BegunDefinition, FittingBegunDefinition}
use Rattle.reading_machine.specs.LawsOfExtents.{LocalText, NoneFollows, NoMarkInside, LocalDefinition, NoneFollowsDefinition, NoMarkInsideDefinition, IsMarkKind}
use Rattle.reading_machine.specs.LawsOfRefusals.{EndsThere}
use Rattle.reading_machine.specs.LawsOfTrees.{EndsText}
use Rattle.reading_expressions.specs.Unended.{EndedText, EndedDefinition, IsUnended}
use Rattle.reading_expressions.specs.declared.fault.ParseFault.{ParseFault}
use Rattle.reading_expressions.specs.declared.fault.ParseFault.TheVariants.{Expected, Conflict, TooNested, OutOfProfile, NoMemory}
use Rattle.reading_units.specs.Marks.{mark_of}
use Rattle.reading_units.specs.Rests.{FitsIf, Expression, Definition}
use Rattle.reading_units.specs.declared.marks.Mark.TheVariants as marks
use Rattle.reading_units.proofs.Extents.{Local, TextKind, StaysOpen}
use Rattle.reading_units.proofs.MarksTold.{told, plain}
use Rattle.reading_units.proofs.OneModuleTokens.{TextEnds}
use Rattle.reading_units.proofs.Titles.{NoTitle}

fits_any : (fit : Bool) (e : Tree) → Fits e → FitsIf fit e
fits_any true e h = h
fits_any false e h = tt

-- ---- expressions

expression_local : LocalText → (fit : Bool) (xs ys : List Laid) → Expression fit xs ys → Local (Expression fit) xs ys
expression_local local fit xs ys s = let l = local s.0 xs ys s.1 in record { text = l.0; whole = l.1; anywhere = λ zs. (s.0, l.2 zs, s.2) }

loose_expression : (fit : Bool) (xs ys : List Laid) → Expression fit xs ys → Expression false xs ys
loose_expression fit xs ys s = (s.0, s.1, tt)

some_name : Laid
some_name = plain (kinds.Name [])

pub no_empty : NoneFollows → (e : Tree) → Text e [] [] → ⊥
no_empty none e t = none e [] (plain (kinds.Name [])) t tt (record { tree = tree.Name (record { file = 0; line = 0; col = 0 }) []; rest = []; whole = refl })

pub expression_kind : LocalText → NoneFollows → NoMarkInside → TextKind Expression Begun FittingBegun
expression_kind local none no_mark = record {
  local = expression_local local;
  loosely = λ fit xs ys s. (s.0, s.1, fits_any fit s.0 s.2);
  loose = loose_expression;
  some = λ s. no_empty none s.0 s.1;
  none = λ text x s h b. none s.0 text x s.1 h b;
  begins = λ l more s. record { tree = s.0; rest = more; whole = s.1 };
  begun = λ l b. (b.rest, (b.tree, b.whole, tt));
  fits = λ l more s. record { tree = s.0; rest = more; spelled = record { text = s.1; fits = s.2 } };
  fitting = λ l b. (b.rest, (b.tree, b.spelled.text, b.spelled.fits));
  no_end = λ before after t b k. no_mark before after (Plain t) (subst IsMarkKind (sym k) tt) b;
}

pub expression_open : (xs : List Laid) (e : ParseFault) → IsUnended EndedText xs e → StaysOpen Expression xs e
expression_open xs (Expected p) h = λ text rest x q s ends. h text rest x q ends (s.0, s.1)
expression_open xs (OutOfProfile f p) h = λ text rest x q s ends. h text rest x q ends (s.0, s.1)
expression_open xs (Conflict p q) h = tt
expression_open xs (TooNested p) h = tt
expression_open xs NoMemory h = tt

-- ---- definitions

definition_local : LocalDefinition → (fit : Bool) (xs ys : List Laid) → Definition fit xs ys → Local (Definition fit) xs ys
definition_local local fit xs ys s = let l = local s.0 s.1 s.2 s.3 s.4 xs ys s.5 in record { text = l.0; whole = l.1; anywhere = λ zs. (s.0, s.1, s.2, s.3, s.4, l.2 zs, s.6) }

abbrev IsSomething : List Laid → Type 0
IsSomething [] = ⊥
IsSomething (x ∷ xs) = Unit {0}

pub definition_kind : LocalDefinition → NoneFollowsDefinition → NoMarkInsideDefinition → TextKind Definition BegunDefinition FittingBegunDefinition
definition_kind local none no_mark = record {
  local = definition_local local;
  loosely = λ fit xs ys s. (s.0, s.1, s.2, s.3, s.4, s.5, fits_any fit s.4 s.6);
  loose = λ fit xs ys s. (s.0, s.1, s.2, s.3, s.4, s.5, tt);
  some = λ s. subst IsSomething (sym s.5.1) tt;
  none = λ text x s h b. none s.0 s.1 s.2 s.3 s.4 text x s.5 h b;
  begins = λ l more s. record { name = s.0; at = s.1; parameters = s.2; form = s.3; body = s.4; rest = more; whole = s.5 };
  begun = λ l b. (b.rest, (b.name, b.at, b.parameters, b.form, b.body, b.whole, tt));
  fits = λ l more s. record { name = s.0; at = s.1; parameters = s.2; form = s.3; body = s.4; rest = more; whole = s.5; fits = s.6 };
  fitting = λ l b. (b.rest, (b.name, b.at, b.parameters, b.form, b.body, b.whole, b.fits));
  no_end = λ before after t b k. no_mark before after (Plain t) (subst IsMarkKind (sym k) tt) b;
}

pub definition_open : (xs : List Laid) (e : ParseFault) → IsUnended EndedDefinition xs e → StaysOpen Definition xs e
definition_open xs (Expected p) h = λ text rest x q s ends. h text rest x q ends (s.0, s.1, s.2, s.3, s.4, s.5)
definition_open xs (OutOfProfile f p) h = λ text rest x q s ends. h text rest x q ends (s.0, s.1, s.2, s.3, s.4, s.5)
definition_open xs (Conflict p q) h = tt
definition_open xs (TooNested p) h = tt
definition_open xs NoMemory h = tt

-- ---- titles

pub named : (x : Laid) → mark_of x ≡ Some marks.Name → (n : List ℕ) × (at : Place) × (x ≡ Plain (record { kind = kinds.Name n; place = at }))
named x e = let t = told marks.Name x e in (t.2.0, t.0.place, t.1 ∙ ap (λ k. Plain (record { kind = k; place = t.0.place })) t.2.1)

pub defined : (x : Laid) → mark_of x ≡ Some marks.Defined → (at : Place) × (x ≡ Plain (record { kind = kinds.Symbol symbols.Defined; place = at }))
defined x e = let t = told marks.Defined x e in (t.0.place, t.1 ∙ ap (λ k. Plain (record { kind = k; place = t.0.place })) t.2)

-- none begins with a name and `==`
title_no_text : EndsThere → (n : List ℕ) (p q : Place) → Begun (Plain (record { kind = kinds.Name n; place = p }) ∷ Plain (record { kind = kinds.Symbol symbols.Defined; place = q }) ∷ []) → ⊥
title_no_text ends n p q b = ends (Plain (record { kind = kinds.Name n; place = p }) ∷ []) [] (Plain (record { kind = kinds.Symbol symbols.Defined; place = q })) (tree.Name p n) refl b

pub no_such : EndsThere → (n d : Laid) → mark_of n ≡ Some marks.Name → mark_of d ≡ Some marks.Defined → Begun (n ∷ d ∷ []) → ⊥
no_such ends n d a b h =
    let s = named n a in
    let t = defined d b in
    title_no_text ends s.0 s.1 t.0 (subst (λ v. Begun (Plain (record { kind = kinds.Name s.0; place = s.1 }) ∷ v ∷ [])) t.1 (subst (λ v. Begun (v ∷ d ∷ [])) s.2 h))

abbrev head_or : Laid → List Laid → Laid
head_or u [] = u
head_or u (x ∷ xs) = x

abbrev tail_or : List Laid → List Laid
tail_or [] = []
tail_or (x ∷ xs) = xs

-- the text of an expression from there on, by how many of the two tokens it has
pub no_title_text : EndsThere → NoneFollows → (n d : Laid) (more text ys : List Laid) (e : Tree) → mark_of n ≡ Some marks.Name → mark_of d ≡ Some marks.Defined → n ∷ d ∷ more ≡ text ++ ys → Text e text [] → TextEnds ys → ⊥
no_title_text ends none n d more [] ys e a b q t h = no_empty none e t
no_title_text ends none n d more (x ∷ []) ys e a b q t h =
    let here : d ∷ more ≡ ys = ap tail_or q in
    let at = defined d b in
    subst EndsText at.1 (subst TextEnds (sym here) h)
no_title_text ends none n d more (x ∷ y ∷ text) ys e a b q t h =
    let first : n ≡ x = ap (head_or n) q in
    let second : d ≡ y = ap (λ v. head_or d (tail_or v)) q in
    no_such ends n d a b (subst (λ v. Begun (v ∷ d ∷ [])) (sym first) (subst (λ v. Begun (x ∷ v ∷ [])) (sym second) (record { tree = e; rest = text; whole = t })))

pub none_titled : LocalText → NoneFollows → EndsThere → NoTitle
none_titled local none ends fit n d more ys a b s h =
    let l = local s.0 (n ∷ d ∷ more) ys s.1 in
    no_title_text ends none n d more l.0 ys s.0 a b l.1 (subst (λ v. Text s.0 v []) (append-nil l.0) (l.2 [])) h
