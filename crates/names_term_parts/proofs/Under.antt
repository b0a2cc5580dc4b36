-- The parts of a term that stands under a prime itself are those of one that does not, all under a prime.
use Rattle.std.proofs.Common.{◌≡◌, ◌∙◌, sym, ap, refl, List, [], ◌∷◌, ◌++◌, inl, inr, subst}
use Rattle.std.specs.Prelude.{Bool, true, false, Contains, ◌||◌, map}
use Rattle.std.proofs.lemmas.List.{map-append}
use Rattle.names_terms.specs.Terms as term
use Rattle.names_terms.specs.Terms.{Term, Step, Steps, Changes, Meaning}
use Rattle.names_term_parts.specs.Parts.{Part, part, parts, parts_of, listed, operand_list, set_list, value_list, arm_list, is_prime, has_prime, step_parts, steps_parts, change_parts}
use Rattle.names_term_parts.proofs.Contained.{contains_cons, contains_head, contains_tail, contains_nothing}

abbrev under : Bool → Part → Part
under b p = part (b || p.primed) p.term

or_false : (b : Bool) → (b || false) ≡ b
or_false true = refl
or_false false = refl

or_true : (b : Bool) → (b || true) ≡ true
or_true true = refl
or_true false = refl

or_assoc : (a b c : Bool) → ((a || b) || c) ≡ (a || (b || c))
or_assoc true b c = refl
or_assoc false b c = refl

of_list : (b c : Bool) (es : List Term) → parts_of (b || c) es ≡ map (under b) (parts_of c es)
of_list b c [] = refl
of_list b c (e ∷ es) = ap (λ ps. part (b || c) e ∷ ps) (of_list b c es)

of_plain : (b : Bool) (es : List Term) → parts_of b es ≡ map (under b) (parts_of false es)
of_plain b es = ap (λ c. parts_of c es) (sym (or_false b)) ∙ of_list b false es

one : (b : Bool) (e : Term) → part b e ∷ [] ≡ map (under b) (part false e ∷ [])
one b e = ap (λ c. part c e ∷ []) (sym (or_false b))

joined : (f : Part → Part) (xs ys us vs : List Part) → xs ≡ map f us → ys ≡ map f vs → xs ++ ys ≡ map f (us ++ vs)
joined f xs ys us vs p q = ap (λ zs. zs ++ ys) p ∙ ap (λ zs. map f us ++ zs) q ∙ sym (map-append f us vs)

of_step : (b c : Bool) (s : Step) → step_parts (b || c) s ≡ map (under b) (step_parts c s)
of_step b c term.Prime = refl
of_step b c (term.Index ts) = of_list b c (listed ts)
of_step b c (term.Field h) = refl

of_steps : (b c : Bool) (ss : Steps) → steps_parts (b || c) ss ≡ map (under b) (steps_parts c ss)
of_steps b c term.NoSteps = refl
of_steps b c (term.MoreSteps ss at s) =
    joined (under b) (step_parts (b || c) s) (steps_parts ((b || c) || is_prime s) ss) (step_parts c s) (steps_parts (c || is_prime s) ss) (of_step b c s) (ap (λ y. steps_parts y ss) (or_assoc b c (is_prime s)) ∙ of_steps b (c || is_prime s) ss)

plain_steps : (b : Bool) (ss : Steps) → steps_parts b ss ≡ map (under b) (steps_parts false ss)
plain_steps b ss = ap (λ y. steps_parts y ss) (sym (or_false b)) ∙ of_steps b false ss

of_changes : (b : Bool) (cs : Changes) → change_parts b cs ≡ map (under b) (change_parts false cs)
of_changes b term.NoChanges = refl
of_changes b (term.MoreChanges cs path e) =
    joined (under b) (change_parts b cs ++ steps_parts b path) (part b e ∷ []) (change_parts false cs ++ steps_parts false path) (part false e ∷ []) (joined (under b) (change_parts b cs) (steps_parts b path) (change_parts false cs) (steps_parts false path) (of_changes b cs) (plain_steps b path)) (one b e)

two : (b : Bool) (e f : Term) → part b e ∷ part b f ∷ [] ≡ map (under b) (part false e ∷ part false f ∷ [])
two b e f = ap (λ c. part c e ∷ part c f ∷ []) (sym (or_false b))

action : (b : Bool) (e v : Term) → part b e ∷ part true v ∷ [] ≡ map (under b) (part false e ∷ part true v ∷ [])
action b e v = ap (λ c. part c e ∷ part true v ∷ []) (sym (or_false b)) ∙ ap (λ c. part (b || false) e ∷ part c v ∷ []) (sym (or_true b))

all_under : (b : Bool) (m : Meaning) → parts b m ≡ map (under b) (parts false m)
all_under b (term.Known v) = refl
all_under b (term.Named s) = refl
all_under b (term.Variable x) = refl
all_under b (term.Slot i) = refl
all_under b (term.Use k ts) = of_plain b (listed ts)
all_under b (term.Standard o ts) = of_plain b (listed ts)
all_under b (term.Parenthesized e) = one b e
all_under b (term.Scoped ks e) = one b e
all_under b (term.All ts) = of_plain b (listed ts)
all_under b (term.Any ts) = of_plain b (listed ts)
all_under b (term.Prefix o e) = refl
all_under b (term.Infix o os e) = joined (under b) (parts_of b (operand_list os)) (part b e ∷ []) (parts_of false (operand_list os)) (part false e ∷ []) (of_plain b (operand_list os)) (one b e)
all_under b (term.Postfix e ss s) =
    joined (under b) (part ((b || is_prime s) || has_prime ss) e ∷ [] ++ step_parts b s) (steps_parts (b || is_prime s) ss) (part (is_prime s || has_prime ss) e ∷ [] ++ step_parts false s) (steps_parts (is_prime s) ss)
    (joined (under b) (part ((b || is_prime s) || has_prime ss) e ∷ []) (step_parts b s) (part (is_prime s || has_prime ss) e ∷ []) (step_parts false s) (ap (λ y. part y e ∷ []) (or_assoc b (is_prime s) (has_prime ss))) (ap (λ y. step_parts y s) (sym (or_false b)) ∙ of_step b false s))
    (of_steps b (is_prime s) ss)
all_under b (term.SetOf ts) = of_plain b (listed ts)
all_under b (term.Filter s e) = two b s e
all_under b (term.Map e bs) = joined (under b) (part b e ∷ []) (parts_of b (set_list bs)) (part false e ∷ []) (parts_of false (set_list bs)) (one b e) (of_plain b (set_list bs))
all_under b (term.Tuple ts) = of_plain b (listed ts)
all_under b (term.Function bs e) = joined (under b) (parts_of b (set_list bs)) (part b e ∷ []) (parts_of false (set_list bs)) (part false e ∷ []) (of_plain b (set_list bs)) (one b e)
all_under b (term.FunctionSet s e) = two b s e
all_under b (term.Record fs) = of_plain b (value_list fs)
all_under b (term.RecordSet fs) = of_plain b (value_list fs)
all_under b (term.Except e cs) = joined (under b) (part b e ∷ []) (change_parts b cs) (part false e ∷ []) (change_parts false cs) (one b e) (of_changes b cs)
all_under b (term.Quantified q bs e) = joined (under b) (parts_of b (set_list bs)) (part b e ∷ []) (parts_of false (set_list bs)) (part false e ∷ []) (of_plain b (set_list bs)) (one b e)
all_under b (term.Choose s e) = two b s e
all_under b (term.If p e f) = ap (λ c. part c p ∷ part c e ∷ part c f ∷ []) (sym (or_false b))
all_under b (term.Case arms) = of_plain b (arm_list arms)
all_under b (term.CaseOther arms e) = joined (under b) (parts_of b (arm_list arms)) (part b e ∷ []) (parts_of false (arm_list arms)) (part false e ∷ []) (of_plain b (arm_list arms)) (one b e)
all_under b (term.BoxAction e v) = action b e v
all_under b (term.AngleAction e v) = action b e v
all_under b (term.Fairness v e) = two b v e

mapped : (f : Part → Part) (ps : List Part) (p : Part) → Contains ps p → Contains (map f ps) (f p)
mapped f [] p c = absurd (contains_nothing p c)
mapped f (q ∷ ps) p c = elim (contains_cons q ps p c) [
  | inl e ↦ let P : Part → Type 0 = λ y. Contains (f q ∷ map f ps) (f y) in subst P e (contains_head (f q) (map f ps))
  | inr k ↦ contains_tail (f q) (map f ps) (f p) (mapped f ps p k)
]

unmapped : (f : Part → Part) (ps : List Part) (q : Part) → Contains (map f ps) q → (p : Part) × Contains ps p × (q ≡ f p)
unmapped f [] q c = absurd (contains_nothing q c)
unmapped f (p ∷ ps) q c = elim (contains_cons (f p) (map f ps) q c) [
  | inl e ↦ (p, contains_head p ps, sym e)
  | inr k ↦ let u : (y : Part) × Contains ps y × (q ≡ f y) = unmapped f ps q k in (u.0, contains_tail p ps u.0 u.1, u.2)
]

pub part_under : (b : Bool) (m : Meaning) (p : Part) → Contains (parts false m) p → Contains (parts b m) (part (b || p.primed) p.term)
part_under b m p c = let P : List Part → Type 0 = λ ps. Contains ps (part (b || p.primed) p.term) in subst P (sym (all_under b m)) (mapped (under b) (parts false m) p c)

pub part_over : (b : Bool) (m : Meaning) (q : Part) → Contains (parts b m) q → (p : Part) × Contains (parts false m) p × (q.term ≡ p.term) × (q.primed ≡ (b || p.primed))
part_over b m q c =
    let P : List Part → Type 0 = λ ps. Contains ps q in
    let u : (p : Part) × Contains (parts false m) p × (q ≡ under b p) = unmapped (under b) (parts false m) q (subst P (all_under b m) c) in
    (u.0, u.1, ap (λ y. y.term) u.2, ap (λ y. y.primed) u.2)
