-- Declared operators in the rest of a module: their places, their parameters, and the lists of them.
use Rattle.std.proofs.Common.{◌≡◌, ℕ, zero, suc, Bool, List, [], ◌∷◌, ◌++◌, append_assoc, Some, inl, inr, refl, sym, ap, subst, ◌∙◌}
use Rattle.std.proofs.lemmas.List.{append-nil}
use Rattle.reading_trees.specs.declared.laid.Laid.{Laid}
use Rattle.reading_trees.specs.Grammar.{◌⨟◌}
use Rattle.reading_expressions.specs.declared.fault.ParseFault.{ParseFault}
use Rattle.reading_expressions.specs.Refused.{IsRefusedAt}
use Rattle.reading_units.specs.Marks.{mark_of, first_mark}
use Rattle.reading_units.specs.Refusals.{Begins}
use Rattle.reading_units.specs.Rests.{◌▹◌, Marked, OthersOf, SomeOthersOf, Places, Parameters, OneOperator, Operators, OperatorsLeft, Closing, Tail}
use Rattle.reading_units.specs.Reads.{SameHead, Leads, Lacks, Misses, RefusedIn, BegunBy, NeverDeep}
use Rattle.reading_units.specs.declared.marks.Mark.TheVariants as marks
use Rattle.reading_units.proofs.Leading.{leads_on, refused_on, stay}
use Rattle.reading_units.proofs.Lists.{first_part, next_part, last_part, first_refused, next_refused}
use Rattle.reading_units.proofs.Locals.{IsLocal, before_any, local_then, local_marked, local_list, local_one_operator}
use Rattle.reading_units.proofs.MarksTold.{plain, kind_with, has_mark}
use Rattle.reading_units.proofs.NamesRead.{marked_begun, no_comma, some_name, is_some_name}
use Rattle.reading_units.proofs.RestSteps.{Avoids, token_first, token_leads, token_refused, misses_refused, leads_part, no_token}
use Rattle.reading_units.proofs.TailSteps.{tail_avoids, last_tokens, some_tail}

-- ---- what the rests begin with

comma_no_open : (xs ys : List Laid) → Marked marks.Comma xs ys → first_mark xs ≡ Some marks.OpenParenthesis → ⊥
comma_no_open xs ys c e = let q : Some marks.Comma ≡ Some marks.OpenParenthesis = sym (token_first marks.Comma xs ys c) ∙ e in cc

others_no_open : (n : ℕ) (fit : Bool) (xs ys : List Laid) → OthersOf OneOperator n xs ys → Tail fit ys → first_mark xs ≡ Some marks.OpenParenthesis → ⊥
others_no_open zero fit xs ys o t e = tail_avoids marks.OpenParenthesis (λ b. b) fit ys t (subst (λ v. first_mark v ≡ Some marks.OpenParenthesis) o e)
others_no_open (suc n) fit xs ys o t e = comma_no_open xs o.0 o.1 e

no_open : Avoids marks.OpenParenthesis OperatorsLeft
no_open fit xs h e = others_no_open h.1.0 fit xs h.0 h.1.1 h.2 e

closing_no_comma : Avoids marks.Comma Closing
closing_no_comma fit xs h e = let q : Some marks.CloseParenthesis ≡ Some marks.Comma = sym (token_first marks.CloseParenthesis xs h.0 h.1) ∙ e in cc

-- ---- some texts of them

abbrev some_place : Laid
some_place = plain (kind_with marks.Underscore)

abbrev some_close : Laid
some_close = plain (kind_with marks.CloseParenthesis)

is_some_close : (ws : List Laid) → Marked marks.CloseParenthesis (some_close ∷ ws) ws
is_some_close ws = (has_mark marks.CloseParenthesis, refl)

some_left : (fit : Bool) → OperatorsLeft fit last_tokens
some_left fit = (last_tokens, (zero, refl), some_tail fit)

some_closing : (fit : Bool) → Closing fit (some_close ∷ last_tokens)
some_closing fit = (last_tokens, is_some_close last_tokens, some_left fit)

place_begun : (fit : Bool) → BegunBy (Marked marks.Underscore ▹ SomeOthersOf (Marked marks.Underscore) ▹ Closing) fit []
place_begun fit = marked_begun marks.Underscore (SomeOthersOf (Marked marks.Underscore) ▹ Closing) fit (some_close ∷ last_tokens) (some_close ∷ last_tokens, (zero, refl), some_closing fit)

begins_place : Begins (Marked marks.Underscore) []
begins_place = (some_place ∷ [], (has_mark marks.Underscore, refl))

close_begun : (fit : Bool) → BegunBy Closing fit []
close_begun fit = marked_begun marks.CloseParenthesis OperatorsLeft fit last_tokens (some_left fit)

name_begun : (fit : Bool) → BegunBy (Marked marks.Name ▹ Parameters ▹ OperatorsLeft) fit []
name_begun fit = marked_begun marks.Name (Parameters ▹ OperatorsLeft) fit last_tokens (last_tokens, inl refl, some_left fit)

begins_operator : Begins OneOperator []
begins_operator = (some_name ∷ [], ([], is_some_name [], inl refl))

-- ---- places

local_place : IsLocal (Marked marks.Underscore)
local_place = local_marked marks.Underscore

local_places : IsLocal Places
local_places = local_list (Marked marks.Underscore) local_place

place_refused : (xs : List Laid) (e : ParseFault) → Lacks marks.Underscore xs → IsRefusedAt xs e → RefusedIn (Marked marks.Underscore ▹ SomeOthersOf (Marked marks.Underscore) ▹ Closing) NeverDeep (Begins (Marked marks.Underscore)) xs e
place_refused xs e l r = token_refused marks.Underscore (SomeOthersOf (Marked marks.Underscore) ▹ Closing) NeverDeep (Begins (Marked marks.Underscore)) xs e begins_place place_begun l r

pub places_first : (xs ys : List Laid) → Marked marks.Underscore xs ys → Leads (Places ▹ Closing) (SomeOthersOf (Marked marks.Underscore) ▹ Closing) xs ys
places_first xs ys h = first_part (Marked marks.Underscore) local_place Closing closing_no_comma xs ys (token_leads marks.Underscore (SomeOthersOf (Marked marks.Underscore) ▹ Closing) xs ys h)

pub places_first_refused : (xs : List Laid) (e : ParseFault) → Lacks marks.Underscore xs → IsRefusedAt xs e → RefusedIn (Places ▹ Closing) NeverDeep (Begins Places) xs e
places_first_refused xs e l r = first_refused (Marked marks.Underscore) local_place Closing closing_no_comma xs e (place_refused xs e l r)

pub places_next : (ws xs ys zs : List Laid) → Leads (Places ▹ Closing) (SomeOthersOf (Marked marks.Underscore) ▹ Closing) ws xs → Marked marks.Comma xs ys → Marked marks.Underscore ys zs
    → Leads (Places ▹ Closing) (SomeOthersOf (Marked marks.Underscore) ▹ Closing) ws zs
places_next ws xs ys zs h c m = next_part (Marked marks.Underscore) local_place Closing closing_no_comma ws xs ys zs h c (token_leads marks.Underscore (SomeOthersOf (Marked marks.Underscore) ▹ Closing) ys zs m)

pub places_next_refused : (ws xs ys : List Laid) (e : ParseFault) → Places ws xs → Leads (Places ▹ Closing) (SomeOthersOf (Marked marks.Underscore) ▹ Closing) ws xs → Marked marks.Comma xs ys → Lacks marks.Underscore ys → IsRefusedAt ys e
    → RefusedIn (Places ▹ Closing) NeverDeep (Begins Places) ws e
places_next_refused ws xs ys e listed h c l r = next_refused (Marked marks.Underscore) local_place Closing closing_no_comma ws xs ys e listed h c (place_refused ys e l r)

pub places_end : (ws xs : List Laid) → Leads (Places ▹ Closing) (SomeOthersOf (Marked marks.Underscore) ▹ Closing) ws xs → Lacks marks.Comma xs → Leads (Places ▹ Closing) Closing ws xs
places_end ws xs h l = last_part (Marked marks.Underscore) local_place Closing closing_no_comma ws xs h l

-- ---- parameters

open_comes : (x : Laid) (fit : Bool) (zs vs : List Laid) → mark_of x ≡ Some marks.OpenParenthesis → Parameters (x ∷ zs) vs → OperatorsLeft fit vs → (Places ▹ Closing) fit zs
open_comes x fit zs vs e (inl q) t = absurd (no_open fit vs t (subst (λ v. first_mark v ≡ Some marks.OpenParenthesis) q e))
open_comes x fit zs vs e (inr h) t = (h.2.0, subst (λ v. Places v h.2.0) (sym h.1.1) h.2.1, (vs, h.2.2, t))

open_leads : (xs ys : List Laid) → Marked marks.OpenParenthesis xs ys → Leads (Parameters ▹ OperatorsLeft) (Places ▹ Closing) xs ys
open_leads [] ys h = absurd h
open_leads (x ∷ xs) ys h = record {
  text = x ∷ [];
  whole = ap (λ v. x ∷ v) h.1;
  goes = λ fit zs u. (u.2.0, inr (zs, (h.0, refl), (u.0, u.1, u.2.1)), u.2.2);
  comes = λ fit zs s t. open_comes x fit zs t.0 h.0 t.1 t.2;
}

pub parameters_far : (xs ws vs ys : List Laid) → Marked marks.OpenParenthesis xs ws → Leads (Places ▹ Closing) Closing ws vs → Marked marks.CloseParenthesis vs ys → Leads (Parameters ▹ OperatorsLeft) OperatorsLeft xs ys
parameters_far xs ws vs ys o h c =
    leads_on (Parameters ▹ OperatorsLeft) (Places ▹ Closing) OperatorsLeft xs ws ys (open_leads xs ws o)
    (leads_on (Places ▹ Closing) Closing OperatorsLeft ws vs ys h (token_leads marks.CloseParenthesis OperatorsLeft vs ys c))

-- a parenthesis and then what begins places
open_begins : (xs ws text : List Laid) → Marked marks.OpenParenthesis xs ws → xs ≡ text ++ ws → (l : List Laid) → Begins Places l → Begins Parameters (text ++ l)
open_begins xs ws text o e l b =
    let more : List Laid = b.0 ++ some_close ∷ [] in
    let places : Places ((l ++ b.0) ++ some_close ∷ []) (some_close ∷ []) = before_any Places local_places (l ++ b.0) [] (l ++ b.0) b.1 (sym (append-nil (l ++ b.0))) (some_close ∷ []) in
    let there : Places (l ++ more) (some_close ∷ []) = subst (λ v. Places v (some_close ∷ [])) (append_assoc l b.0 (some_close ∷ [])) places in
    let whole : Parameters (text ++ (l ++ more)) [] = inr (l ++ more, before_any (Marked marks.OpenParenthesis) (local_marked marks.OpenParenthesis) xs ws text o e (l ++ more), (some_close ∷ [], there, is_some_close [])) in
    (more, subst (λ v. Parameters v []) (sym (append_assoc text l more)) whole)

pub places_refused : (xs ws : List Laid) (e : ParseFault) → Marked marks.OpenParenthesis xs ws → RefusedIn (Places ▹ Closing) NeverDeep (Begins Places) ws e → RefusedIn (Parameters ▹ OperatorsLeft) NeverDeep (Begins Parameters) xs e
places_refused xs ws e o r =
    let there : Leads (Parameters ▹ OperatorsLeft) (Places ▹ Closing) xs ws = open_leads xs ws o in
    refused_on (Parameters ▹ OperatorsLeft) (Places ▹ Closing) NeverDeep NeverDeep (Begins Parameters) (Begins Places) xs ws e there (λ p d. d) (open_begins xs ws there.text o there.whole) r

-- a parenthesis and places, and nothing behind them yet
closes_begun : (xs vs text : List Laid) → (Marked marks.OpenParenthesis ⨟ Places) xs vs → xs ≡ text ++ vs → (l : List Laid) → l ≡ [] → Begins Parameters (text ++ l)
closes_begun xs vs text h e l q =
    let p = before_any (Marked marks.OpenParenthesis ⨟ Places) (local_then (Marked marks.OpenParenthesis) Places (local_marked marks.OpenParenthesis) local_places) xs vs text h e (some_close ∷ []) in
    let whole : Parameters (text ++ some_close ∷ []) [] = inr (p.0, p.1, (some_close ∷ [], p.2, is_some_close [])) in
    let same : text ≡ text ++ l = sym (ap (λ v. text ++ v) q ∙ append-nil text) in
    (some_close ∷ [], subst (λ v. Parameters (v ++ some_close ∷ []) []) same whole)

pub close_refused : (xs ws vs : List Laid) (e : ParseFault) → Marked marks.OpenParenthesis xs ws → Places ws vs → Leads (Places ▹ Closing) Closing ws vs → Lacks marks.CloseParenthesis vs → IsRefusedAt vs e
    → RefusedIn (Parameters ▹ OperatorsLeft) NeverDeep (Begins Parameters) xs e
close_refused xs ws vs e o listed h l r =
    let there : Leads (Parameters ▹ OperatorsLeft) Closing xs vs = leads_on (Parameters ▹ OperatorsLeft) (Places ▹ Closing) Closing xs ws vs (open_leads xs ws o) h in
    refused_on (Parameters ▹ OperatorsLeft) Closing NeverDeep NeverDeep (Begins Parameters) (λ l. l ≡ []) xs vs e there (λ p d. d) (closes_begun xs vs there.text (ws, o, listed) there.whole)
    (token_refused marks.CloseParenthesis OperatorsLeft NeverDeep (λ l. l ≡ []) vs e refl close_begun l r)

none_comes : (xs zs vs : List Laid) (fit : Bool) → Lacks marks.OpenParenthesis xs → SameHead xs zs → Parameters zs vs → OperatorsLeft fit vs → OperatorsLeft fit zs
none_comes xs zs vs fit l s (inl q) t = subst (OperatorsLeft fit) (sym q) t
none_comes xs zs vs fit l s (inr h) t = absurd (no_token marks.OpenParenthesis xs zs h.0 l s h.1)

pub no_parameters_far : (xs : List Laid) → Lacks marks.OpenParenthesis xs → Leads (Parameters ▹ OperatorsLeft) OperatorsLeft xs xs
no_parameters_far xs l = record {
  text = [];
  whole = refl;
  goes = λ fit zs t. (zs, inl refl, t);
  comes = λ fit zs s t. none_comes xs zs t.0 fit l s t.1 t.2;
}

-- ---- an operator

operator_parted : (xs : List Laid) → Leads (OneOperator ▹ OperatorsLeft) (Marked marks.Name ▹ Parameters ▹ OperatorsLeft) xs xs
operator_parted xs = leads_part (Marked marks.Name) Parameters OperatorsLeft xs

name_leads : (xs ws : List Laid) → Marked marks.Name xs ws → Leads (OneOperator ▹ OperatorsLeft) (Parameters ▹ OperatorsLeft) xs ws
name_leads xs ws m = leads_on (OneOperator ▹ OperatorsLeft) (Marked marks.Name ▹ Parameters ▹ OperatorsLeft) (Parameters ▹ OperatorsLeft) xs xs ws (operator_parted xs) (token_leads marks.Name (Parameters ▹ OperatorsLeft) xs ws m)

pub operator_far : (xs ws ys : List Laid) → Marked marks.Name xs ws → Leads (Parameters ▹ OperatorsLeft) OperatorsLeft ws ys → Leads (OneOperator ▹ OperatorsLeft) OperatorsLeft xs ys
operator_far xs ws ys m h = leads_on (OneOperator ▹ OperatorsLeft) (Parameters ▹ OperatorsLeft) OperatorsLeft xs ws ys (name_leads xs ws m) h

pub name_refused : (xs : List Laid) (e : ParseFault) → Misses marks.Name xs e → RefusedIn (OneOperator ▹ OperatorsLeft) NeverDeep (Begins OneOperator) xs e
name_refused xs e m =
    let there : Leads (OneOperator ▹ OperatorsLeft) (Marked marks.Name ▹ Parameters ▹ OperatorsLeft) xs xs = operator_parted xs in
    refused_on (OneOperator ▹ OperatorsLeft) (Marked marks.Name ▹ Parameters ▹ OperatorsLeft) NeverDeep NeverDeep (Begins OneOperator) (λ l. l ≡ []) xs xs e there (λ p d. d)
    (λ l q. stay (Begins OneOperator) xs there.text there.whole l (subst (Begins OneOperator) (sym q) begins_operator))
    (misses_refused marks.Name (Parameters ▹ OperatorsLeft) NeverDeep (λ l. l ≡ []) xs e refl name_begun m)

name_begins : (xs ws text : List Laid) → Marked marks.Name xs ws → xs ≡ text ++ ws → (l : List Laid) → Begins Parameters l → Begins OneOperator (text ++ l)
name_begins xs ws text m e l b =
    let whole : OneOperator (text ++ (l ++ b.0)) [] = (l ++ b.0, before_any (Marked marks.Name) (local_marked marks.Name) xs ws text m e (l ++ b.0), b.1) in
    (b.0, subst (λ v. OneOperator v []) (sym (append_assoc text l b.0)) whole)

pub parameters_refused : (xs ws : List Laid) (e : ParseFault) → Marked marks.Name xs ws → RefusedIn (Parameters ▹ OperatorsLeft) NeverDeep (Begins Parameters) ws e → RefusedIn (OneOperator ▹ OperatorsLeft) NeverDeep (Begins OneOperator) xs e
parameters_refused xs ws e m r =
    let there : Leads (OneOperator ▹ OperatorsLeft) (Parameters ▹ OperatorsLeft) xs ws = name_leads xs ws m in
    refused_on (OneOperator ▹ OperatorsLeft) (Parameters ▹ OperatorsLeft) NeverDeep NeverDeep (Begins OneOperator) (Begins Parameters) xs ws e there (λ p d. d) (name_begins xs ws there.text m there.whole) r

-- ---- operators

pub operators_first : (xs ys : List Laid) → Leads (OneOperator ▹ OperatorsLeft) OperatorsLeft xs ys → Leads (Operators ▹ Tail) OperatorsLeft xs ys
operators_first xs ys h = first_part OneOperator local_one_operator Tail no_comma xs ys h

pub operators_first_refused : (xs : List Laid) (e : ParseFault) → RefusedIn (OneOperator ▹ OperatorsLeft) NeverDeep (Begins OneOperator) xs e → RefusedIn (Operators ▹ Tail) NeverDeep (Begins Operators) xs e
operators_first_refused xs e r = first_refused OneOperator local_one_operator Tail no_comma xs e r

pub operators_next : (ws xs ys zs : List Laid) → Leads (Operators ▹ Tail) OperatorsLeft ws xs → Marked marks.Comma xs ys → Leads (OneOperator ▹ OperatorsLeft) OperatorsLeft ys zs → Leads (Operators ▹ Tail) OperatorsLeft ws zs
operators_next ws xs ys zs h c o = next_part OneOperator local_one_operator Tail no_comma ws xs ys zs h c o

pub operators_next_refused : (ws xs ys : List Laid) (e : ParseFault) → Operators ws xs → Leads (Operators ▹ Tail) OperatorsLeft ws xs → Marked marks.Comma xs ys → RefusedIn (OneOperator ▹ OperatorsLeft) NeverDeep (Begins OneOperator) ys e
    → RefusedIn (Operators ▹ Tail) NeverDeep (Begins Operators) ws e
operators_next_refused ws xs ys e listed h c r = next_refused OneOperator local_one_operator Tail no_comma ws xs ys e listed h c r

pub operators_end : (ws xs : List Laid) → Leads (Operators ▹ Tail) OperatorsLeft ws xs → Lacks marks.Comma xs → Leads (Operators ▹ Tail) Tail ws xs
operators_end ws xs h l = last_part OneOperator local_one_operator Tail no_comma ws xs h l
