-- The pairs of a record: no name comes twice, where the names differ.
use Rattle.std.proofs.Common.{◌≡◌, inl, inr, refl, ap, sym, ◌∙◌, subst, List, [], ◌∷◌, map, ℕ, ◌≤◌, ◌+◌, drop, Bool, true, false, cond, arith}
use Rattle.std.specs.Prelude.{Result, Ok, Err}
use Rattle.std.specs.List.{Contains}
use Rattle.states_core.specs.declared.fault.Fault.{Fault}
use Rattle.values_core.specs.Ascending.{cons_cases, head_in, tail_in, none_in}
use Rattle.values_core.specs.Data.{Val, string}
use Rattle.values_core.specs.Order.{val_eq}
use Rattle.values_core.specs.OrderLaws.{val_same}
use Rattle.values_core.specs.Functions.{HasKeyTwice}
use Rattle.values_core.specs.FunctionLaws.{key_count, count_cons, none_alike, in_keys}
use Rattle.values_core.specs.SetOperations.{AreDifferent}
use Rattle.names_terms.specs.Terms.{Term, Fields}
use Rattle.names_terms.specs.Lists.{fields_list}
use Rattle.names_terms.specs.TermViews.{field_item, fields_of}
use Rattle.names_terms.specs.declared.term.Field.{Field}
use Rattle.eval_meanings.specs.Contexts.{Context, Evaluate}
use Rattle.eval_meanings.specs.Meanings.{FieldEvaluates}
use Rattle.eval_meanings.specs.Outcomes.{Each}
use Rattle.eval_parts.proofs.Listed.{fields_listed}
use Rattle.eval_parts.proofs.Loops.{Cut}
use Rattle.eval_meanings.specs.Reads.{Reading, ReadsEach}

value_or : {A : Type 0} → A → Result A Fault → A
value_or w (Ok x) = x
value_or w (Err f) = w

text_of : List ℕ → Val → List ℕ
text_of s (string t) = t
text_of s v = s

one_key : (ev : Evaluate) (c : Context) (f : List ℕ × Term) (y : Val × Val) → FieldEvaluates ev c f (Ok y) → y.0 ≡ string f.0
unfolding value_or
one_key ev c f y (inl (v, h, e)) = ap (λ (q : Result (Val × Val) Fault). (value_or y q).0) e
one_key ev c f y (inr (g, h, e)) = cc

keys_are : (ev : Evaluate) (c : Context) (fs : List (List ℕ × Term)) (ps : List (Val × Val)) → Each (FieldEvaluates ev c) fs (Ok ps) → map (λ (p : Val × Val). p.0) ps ≡ map (λ (f : List ℕ × Term). string f.0) fs
unfolding value_or
keys_are ev c [] ps e = ap (λ (q : Result (List (Val × Val)) Fault). map (λ (p : Val × Val). p.0) (value_or ps q)) e
keys_are ev c (f ∷ fs) ps (inl (y, p, inl (zs, h, e))) =
    ap (λ (q : Result (List (Val × Val)) Fault). map (λ (p : Val × Val). p.0) (value_or ps q)) e ∙ ap (λ (k : Val). k ∷ map (λ (p : Val × Val). p.0) zs) (one_key ev c f y p) ∙ ap (λ (ks : List Val). string f.0 ∷ ks) (keys_are ev c fs zs h)
keys_are ev c (f ∷ fs) ps (inl (y, p, inr (g, h, e))) = cc
keys_are ev c (f ∷ fs) ps (inr (g, p, e)) = cc

name_among : (fs : List (List ℕ × Term)) (s : List ℕ) → Contains (map (λ (f : List ℕ × Term). string f.0) fs) (string s) → Contains (map (λ (f : List ℕ × Term). f.0) fs) s
unfolding text_of
name_among [] s h = absurd (none_in (string s) h)
name_among (f ∷ fs) s h = elim (cons_cases (string f.0) (map (λ (g : List ℕ × Term). string g.0) fs) (string s) h) [
  | inl e ↦ subst (λ (t : List ℕ). Contains (f.0 ∷ map (λ (g : List ℕ × Term). g.0) fs) t) (ap (λ (v : Val). text_of s v) e) (head_in f.0 (map (λ (g : List ℕ × Term). g.0) fs))
  | inr g ↦ tail_in f.0 (map (λ (u : List ℕ × Term). u.0) fs) s (name_among fs s g)
]

names_differ : (fs : List (List ℕ × Term)) → AreDifferent (map (λ (f : List ℕ × Term). f.0) fs) → AreDifferent (map (λ (f : List ℕ × Term). string f.0) fs)
names_differ [] d = tt
names_differ (f ∷ fs) d = ((λ h. d.0 (name_among fs f.0 h)), names_differ fs d.1)

-- no key comes twice where the keys differ
pub different_once : (ps : List (Val × Val)) → AreDifferent (map (λ (p : Val × Val). p.0) ps) → (key : Val) → key_count key ps ≤ 1
different_once [] d key = omega arith
different_once (p ∷ ps) d key = either (different_once ps d.1 key) (val_eq p.0 key) refl
  where
    most_one : (b : Bool) → cond b 1 0 ≤ 1
    most_one true = omega arith
    most_one false = omega arith

    none : (b : Bool) → b ≡ false → cond b 1 0 ≤ 0
    none true e = cc
    none false e = omega arith

    either : key_count key ps ≤ 1 → (b : Bool) → val_eq p.0 key ≡ b → key_count key (p ∷ ps) ≤ 1
    either few true e =
        let rest : key_count key ps ≡ 0 = none_alike ps key (λ q g f. d.0 (subst (λ (k : Val). Contains (map (λ (r : Val × Val). r.0) ps) k) (f ∙ sym (val_same p.0 key e)) (in_keys ps q g))) in
        omega (arith, count_cons key p ps, rest, most_one (val_eq p.0 key))
    either few false e = omega (arith, count_cons key p ps, few, none (val_eq p.0 key) e)

pub fields_once : (ev : Evaluate) (c : Context) (fs : List (List ℕ × Term)) (ps : List (Val × Val)) → AreDifferent (map (λ (f : List ℕ × Term). f.0) fs) → Each (FieldEvaluates ev c) fs (Ok ps) → ¬ HasKeyTwice ps
fields_once ev c fs ps d h t =
    let differ = subst (λ (ks : List Val). AreDifferent ks) (sym (keys_are ev c fs ps h)) (names_differ fs d) in
    omega (arith, t.twice, different_once ps differ t.key)

-- the fields of a term by its items
pub fields_are : (xs : List Field) (fs : Fields) → fields_of xs ≡ fs → map field_item xs ≡ fields_list fs
fields_are xs fs e = sym (fields_listed xs) ∙ ap fields_list e

pub fields_read : (part : Reading) (c : Context) (xs : List (List ℕ × Term)) (i : ℕ) (x : List ℕ × Term) → Cut xs i x → ReadsEach part c (map (λ (f : List ℕ × Term). f.1) (drop i xs)) → part c x.1 × ReadsEach part c (map (λ (f : List ℕ × Term). f.1) (drop (i + 1) xs))
fields_read part c xs i x k h = subst (λ (us : List (List ℕ × Term)). ReadsEach part c (map (λ (f : List ℕ × Term). f.1) us)) k h
