-- The parts of a term weigh less than the term.
use Rattle.std.proofs.Common.{◌≡◌, refl, List, [], ◌∷◌, ◌++◌, arith}
use Rattle.std.specs.Prelude.{◌+◌, ◌||◌, Bool, true}
use Rattle.names_terms.specs.Terms as term
use Rattle.names_terms.specs.Terms.{Term, Terms, Operands, Step, Steps, Bounds, Fields, Changes, Arms, Meaning}
use Rattle.names_term_parts.specs.Parts.{Part, part, parts_of, listed, operand_list, set_list, value_list, arm_list, is_prime, has_prime, step_parts, steps_parts, change_parts, primes, parts}
use Rattle.names_term_parts.specs.Weights.{weight, inner, in_terms, in_operands, in_step, in_steps, in_bounds, in_fields, in_changes, in_arms, total}

pub total-append : (xs ys : List Part) → total (xs ++ ys) ≡ total xs + total ys
unfolding total
total-append [] ys = omega arith
total-append (x ∷ xs) ys = omega (arith, total-append xs ys)

pub total-nil : total [] ≡ 0
unfolding total
total-nil = refl

pub total-cons : (p : Part) (xs : List Part) → total (p ∷ xs) ≡ weight p.term + total xs
unfolding total
total-cons p xs = refl

one : (b : Bool) (e : Term) → total (part b e ∷ []) ≡ weight e
one b e = omega (arith, total-cons (part b e) [], total-nil)

of_list-append : (b : Bool) (xs ys : List Term) → total (parts_of b (xs ++ ys)) ≡ total (parts_of b xs) + total (parts_of b ys)
of_list-append b [] ys = omega (arith, total-nil)
of_list-append b (x ∷ xs) ys = omega (arith, total-cons (part b x) (parts_of b (xs ++ ys)), total-cons (part b x) (parts_of b xs), of_list-append b xs ys)

of_terms : (b : Bool) (ts : Terms) → total (parts_of b (listed ts)) ≡ in_terms ts
of_terms b term.NoTerms = total-nil
of_terms b (term.MoreTerms ts e) = omega (arith, of_list-append b (listed ts) (e ∷ []), of_terms b ts, one b e)

of_operands : (b : Bool) (os : Operands) → total (parts_of b (operand_list os)) ≡ in_operands os
of_operands b (term.First e) = one b e
of_operands b (term.Next os at e) = omega (arith, of_list-append b (operand_list os) (e ∷ []), of_operands b os, one b e)

of_step : (b : Bool) (s : Step) → total (step_parts b s) ≡ in_step s
of_step b term.Prime = total-nil
of_step b (term.Index ts) = of_terms b ts
of_step b (term.Field h) = total-nil

of_steps : (b : Bool) (ss : Steps) → total (steps_parts b ss) ≡ in_steps ss
of_steps b term.NoSteps = total-nil
of_steps b (term.MoreSteps ss at s) = omega (arith, total-append (step_parts b s) (steps_parts (b || is_prime s) ss), of_step b s, of_steps (b || is_prime s) ss)

of_bounds : (b : Bool) (bs : Bounds) → total (parts_of b (set_list bs)) ≡ in_bounds bs
of_bounds b term.NoBounds = total-nil
of_bounds b (term.MoreBounds bs n e) = omega (arith, of_list-append b (set_list bs) (e ∷ []), of_bounds b bs, one b e)

of_fields : (b : Bool) (fs : Fields) → total (parts_of b (value_list fs)) ≡ in_fields fs
of_fields b term.NoFields = total-nil
of_fields b (term.MoreFields fs h e) = omega (arith, of_list-append b (value_list fs) (e ∷ []), of_fields b fs, one b e)

two : (b c : Bool) (e f : Term) → total (part b e ∷ part c f ∷ []) ≡ weight e + weight f
two b c e f = omega (arith, total-cons (part b e) (part c f ∷ []), one c f)

of_arms : (b : Bool) (arms : Arms) → total (parts_of b (arm_list arms)) ≡ in_arms arms
of_arms b term.NoArms = total-nil
of_arms b (term.MoreArms arms p e) = omega (arith, of_list-append b (arm_list arms) (p ∷ e ∷ []), of_arms b arms, two b b p e)

of_changes : (b : Bool) (cs : Changes) → total (change_parts b cs) ≡ in_changes cs
of_changes b term.NoChanges = total-nil
of_changes b (term.MoreChanges cs path e) =
    omega (arith, total-append (change_parts b cs ++ steps_parts b path) (part b e ∷ []), total-append (change_parts b cs) (steps_parts b path), of_changes b cs, of_steps b path, one b e)

pub of_parts : (b : Bool) (m : Meaning) → total (parts b m) ≡ inner m
of_parts b (term.Known v) = total-nil
of_parts b (term.Named s) = total-nil
of_parts b (term.Variable x) = total-nil
of_parts b (term.Slot i) = total-nil
of_parts b (term.Use k ts) = of_terms b ts
of_parts b (term.Standard o ts) = of_terms b ts
of_parts b (term.Parenthesized e) = one b e
of_parts b (term.Scoped ks e) = one b e
of_parts b (term.All ts) = of_terms b ts
of_parts b (term.Any ts) = of_terms b ts
of_parts b (term.Prefix o e) = one (b || primes o) e
of_parts b (term.Infix o os e) = omega (arith, total-append (parts_of b (operand_list os)) (part b e ∷ []), of_operands b os, one b e)
of_parts b (term.Postfix e ss s) =
    let c : Bool = b || is_prime s in
    omega (arith, total-append (part (c || has_prime ss) e ∷ [] ++ step_parts b s) (steps_parts c ss), total-append (part (c || has_prime ss) e ∷ []) (step_parts b s), one (c || has_prime ss) e, of_step b s, of_steps c ss)
of_parts b (term.SetOf ts) = of_terms b ts
of_parts b (term.Filter s e) = two b b s e
of_parts b (term.Map e bs) = omega (arith, total-append (part b e ∷ []) (parts_of b (set_list bs)), one b e, of_bounds b bs)
of_parts b (term.Tuple ts) = of_terms b ts
of_parts b (term.Function bs e) = omega (arith, total-append (parts_of b (set_list bs)) (part b e ∷ []), one b e, of_bounds b bs)
of_parts b (term.FunctionSet s e) = two b b s e
of_parts b (term.Record fs) = of_fields b fs
of_parts b (term.RecordSet fs) = of_fields b fs
of_parts b (term.Except e cs) = omega (arith, total-append (part b e ∷ []) (change_parts b cs), one b e, of_changes b cs)
of_parts b (term.Quantified q bs e) = omega (arith, total-append (parts_of b (set_list bs)) (part b e ∷ []), one b e, of_bounds b bs)
of_parts b (term.Choose s e) = two b b s e
of_parts b (term.If p e f) = omega (arith, total-cons (part b p) (part b e ∷ part b f ∷ []), two b b e f)
of_parts b (term.Case arms) = of_arms b arms
of_parts b (term.CaseOther arms e) = omega (arith, total-append (parts_of b (arm_list arms)) (part b e ∷ []), of_arms b arms, one b e)
of_parts b (term.BoxAction e v) = two b true e v
of_parts b (term.AngleAction e v) = two b true e v
of_parts b (term.Fairness v e) = two b b v e
