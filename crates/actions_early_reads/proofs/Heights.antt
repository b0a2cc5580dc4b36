-- What a term reads does not depend on how many levels are allowed; and each term has some number that suffices.
use Rattle.std.proofs.Common.{◌≡◌, ◌∙◌, inl, inr, ap, refl, subst, sym, List, [], ◌∷◌, map, arith}
use Rattle.std.specs.Prelude.{◌<◌, ◌≤◌, ◌+◌, ◌*◌, ◌-◌, ℕ, zero, suc, Bool, true, false, Some, Contains, slice_get}
use Rattle.std.specs.List.{AllByRecursion as Each}
use Rattle.std.proofs.lemmas.List.Elements.{recursion_from_All}
use Rattle.base_core.specs.declared.place.Place.{Place}
use Rattle.reading_trees.specs.declared.operators.InfixOperator.TheVariants as infix_operator
use Rattle.names_terms.specs.declared.level.Level.{Level}
use Rattle.names_terms.specs.declared.level.Level.TheVariants as levels
use Rattle.names_terms.specs.declared.operator.Operator.{Operator}
use Rattle.names_terms.specs.Terms as term
use Rattle.names_terms.specs.Terms.{Term, Placed, Meaning, Terms, Steps}
use Rattle.names_term_parts.specs.Parts.{Part, part, parts}
use Rattle.names_term_parts.specs.Slots.{MentionsBelow, UsesSmaller, used, mentioned_in_part}
use Rattle.names_term_parts.specs.Weights.{weight, inner, total}
use Rattle.names_term_parts.proofs.Weights.{total-cons, of_parts}
use Rattle.names_term_parts.proofs.Contained.{contains_cons, contains_nothing}
use Rattle.eval_meanings.specs.Contexts.{Table}
use Rattle.eval_meanings.specs.Unchanged.{prime_of, unchanged_of, changed_of}
use Rattle.actions_meanings.specs.Reads.{VariableSet, Ends, united, path_terms, terms_in, parts_in, read_among, reads_meaning, reads, reads_primed}
use Rattle.actions_early_reads.specs.Levels.{StaysBelow}
use Rattle.actions_early_reads.specs.Weight.{weights}
use Rattle.actions_early_reads.proofs.Each.{each-map, each-both, each-from}
use Rattle.actions_early_reads.proofs.Rows.{terms-hold}
use Rattle.actions_early_reads.proofs.Within.{body-stays}
use Rattle.actions_early_reads.proofs.Ends.{ends-of, ends-more, ends-plus, ends-parts, stays-ends}

-- READS

pub among-same : (of to : Part → VariableSet) (ps : List Part) → Each (λ p. of p ≡ to p) ps → read_among of ps ≡ read_among to ps
among-same of to [] h = refl
among-same of to (p ∷ ps) h = ap (λ (z : VariableSet). united z (read_among of ps)) h.0 ∙ ap (united (to p)) (among-same of to ps h.1)

meaning-same : (of to : Part → VariableSet) (ops : Table) (b : Bool) (m : Meaning) → Each (λ p. of p ≡ to p) (parts_in ops b m) → reads_meaning of ops b m ≡ reads_meaning to ops b m
meaning-same of to ops b (term.Variable y) h = refl
meaning-same of to ops b m h = among-same of to (parts_in ops b m) h

abbrev ReadsSame : Table → ℕ → ℕ → Type 0
ReadsSame ops k j = (b : Bool) (e : Term) → Ends ops k e → Ends ops j e → reads ops k b e ≡ reads ops j b e

row-same : (ops : Table) (k j : ℕ) → ReadsSame ops k j → (b : Bool) (at : Place) (m : Meaning) → Each (Ends ops k) (terms_in ops at m) → Each (Ends ops j) (terms_in ops at m) → reads_meaning (λ p. reads ops k p.primed p.term) ops b m ≡ reads_meaning (λ p. reads ops j p.primed p.term) ops b m
row-same ops k j ih b at m h g =
    meaning-same (λ p. reads ops k p.primed p.term) (λ p. reads ops j p.primed p.term) ops b m
    (each-both (λ (p : Part). Ends ops k p.term) (λ (p : Part). Ends ops j p.term) (λ (p : Part). reads ops k p.primed p.term ≡ reads ops j p.primed p.term) (λ p x y. ih p.primed p.term x y) (parts_in ops b m) (ends-parts ops k b at m h) (ends-parts ops j b at m g))

pub reads-same : (ops : Table) (k j : ℕ) (b : Bool) (e : Term) → Ends ops k e → Ends ops j e → reads ops k b e ≡ reads ops j b e
reads-same ops zero j b e h g = absurd h
reads-same ops (suc k) zero b e h g = absurd g
reads-same ops (suc k) (suc j) b (Placed at levels.Constant m) h g = refl
reads-same ops (suc k) (suc j) b (Placed at levels.State m) h g = row-same ops k j (reads-same ops k j) b at m (recursion_from_All (Ends ops k) (terms_in ops at m) h) (recursion_from_All (Ends ops j) (terms_in ops at m) g)
reads-same ops (suc k) (suc j) b (Placed at levels.Action m) h g = row-same ops k j (reads-same ops k j) b at m (recursion_from_All (Ends ops k) (terms_in ops at m) h) (recursion_from_All (Ends ops j) (terms_in ops at m) g)
reads-same ops (suc k) (suc j) b (Placed at levels.Temporal m) h g = row-same ops k j (reads-same ops k j) b at m (recursion_from_All (Ends ops k) (terms_in ops at m) h) (recursion_from_All (Ends ops j) (terms_in ops at m) g)

pub primed-same : (ops : Table) (k j : ℕ) (e : Term) (ss : Steps) → Ends ops k e → Ends ops j e → Each (Ends ops k) (path_terms ss) → Each (Ends ops j) (path_terms ss) → reads_primed ops k e ss ≡ reads_primed ops j e ss
primed-same ops k j e ss h g hs gs =
    let inside : read_among (λ p. reads ops k true p.term) (map (part true) (path_terms ss)) ≡ read_among (λ p. reads ops j true p.term) (map (part true) (path_terms ss)) =
    among-same (λ p. reads ops k true p.term) (λ p. reads ops j true p.term) (map (part true) (path_terms ss)) (each-map (λ (p : Part). reads ops k true p.term ≡ reads ops j true p.term) (part true) (path_terms ss) (each-both (Ends ops k) (Ends ops j) (λ f. reads ops k true f ≡ reads ops j true f) (λ f x y. reads-same ops k j true f x y) (path_terms ss) hs gs)) in
    ap (λ (z : VariableSet). united z (read_among (λ p. reads ops k true p.term) (map (part true) (path_terms ss)))) (reads-same ops k j true e h g) ∙ ap (united (reads ops j true e)) inside

-- SOME NUMBER SUFFICES

pub weights-fall : (ops : Table) (n k : ℕ) (o : Operator) → slice_get ops k ≡ Some o → k < n → weight o.body + weights ops k ≤ weights ops n
weights-fall [] n k o q h = absurd (cc)
weights-fall (p ∷ ops) zero k o q h = absurd (omega arith)
weights-fall (p ∷ ops) (suc n) zero o q h = let e : p ≡ o = some_same q in let w : weight p.body ≡ weight o.body = ap (λ (z : Operator). weight z.body) e in omega arith
  where
    some_same : {a b : Operator} → Some a ≡ Some b → a ≡ b
    some_same e = cc
weights-fall (p ∷ ops) (suc n) (suc k) o q h = let r : weight o.body + weights ops k ≤ weights ops n = weights-fall ops n k o q (omega arith) in omega arith

pub weight-in : (ps : List Part) (p : Part) → Contains ps p → weight p.term ≤ total ps
weight-in [] p c = absurd (contains_nothing p c)
weight-in (x ∷ ps) p c = elim (contains_cons x ps p c) [
  | inl s ↦ let w : weight x.term ≡ weight p.term = ap (λ (z : Part). weight z.term) s in omega (arith, total-cons x ps)
  | inr k ↦ omega (arith, weight-in ps p k, total-cons x ps)
]

pub weight-part : (at : Place) (l : Level) (m : Meaning) (p : Part) → Contains (parts false m) p → weight p.term < weight (Placed at l m)
weight-part at l m p c = omega (arith, weight-in (parts false m) p c, of_parts false m)

pub raise : (ops : Table) (i j : ℕ) (e : Term) → i ≤ j → Ends ops i e → Ends ops j e
raise ops i j e le h = let q : (j - i) + i ≡ j = omega arith in subst (λ (z : ℕ). Ends ops z e) q (ends-plus ops (j - i) i e h)

-- what suffices
abbrev pub height : Table → ℕ → Term → ℕ
height ops n e = 4 * (weight e + weights ops n)

abbrev High : Table → ℕ → Type 0
High ops fuel = (n : ℕ) (e : Term) → StaysBelow n e → weight e + weights ops n ≤ fuel → Ends ops (height ops n e) e

module _ (ops : Table) (smaller : UsesSmaller ops) (fuel : ℕ) (ih : High ops fuel) (n : ℕ) (at : Place) (l : Level) (m : Meaning) (below : MentionsBelow n (Placed at l m)) (enough : weight (Placed at l m) + weights ops n ≤ suc fuel) where
  abbrev low : ℕ
  low = 4 * (inner m + weights ops n)

  part-ends : (p : Part) → Contains (parts false m) p → Ends ops low p.term
  part-ends p c =
      let lighter : weight p.term < weight (Placed at l m) = weight-part at l m p c in
      let own : Ends ops (height ops n p.term) p.term = ih n p.term (inr (λ k u. below k (mentioned_in_part at l m p k c u))) (omega arith) in
      raise ops (height ops n p.term) low p.term (omega arith) own

  body-ends : (k : ℕ) (ts : Terms) (o : Operator) → m ≡ term.Use k ts → slice_get ops k ≡ Some o → Ends ops (suc (suc (suc low))) o.body
  body-ends k ts o q r =
      let calls : MentionsBelow n (Placed at l (term.Use k ts)) = subst (λ (y : Meaning). MentionsBelow n (Placed at l y)) q below in
      let lt : k < n = calls k (used at l k ts) in
      let falls : weight o.body + weights ops k ≤ weights ops n = weights-fall ops n k o r lt in
      let own : Ends ops (height ops k o.body) o.body = ih k o.body (body-stays ops k o smaller r) (omega arith) in
      raise ops (height ops k o.body) (suc (suc (suc low))) o.body (omega arith) own

  plain-ends : (e : Term) → Ends ops low e → Ends ops (suc (suc (suc low))) e
  plain-ends e h = raise ops low (suc (suc (suc low))) e (omega arith) h

  stay-ends : (p : Place) (e : Term) → Ends ops low e → Ends ops (suc (suc (suc low))) (unchanged_of p e)
  stay-ends p e h = raise ops (suc low) (suc (suc (suc low))) (unchanged_of p e) (omega arith) (stays-ends ops low p e h)

  change-ends : (p : Place) (e : Term) → Ends ops low e → Ends ops (suc (suc (suc low))) (changed_of p e)
  change-ends p e h =
      let primed : Ends ops (suc low) (prime_of p e) = ends-of ops low p levels.Action (term.Postfix e term.NoSteps term.Prime) (h, tt) in
      let changed : Ends ops (suc (suc low)) (changed_of p e) = ends-of ops (suc low) p levels.Action (term.Infix infix_operator.NotEqual (term.First (prime_of p e)) e) (primed, (ends-more ops low e h, tt)) in
      ends-more ops (suc (suc low)) (changed_of p e) changed

  pub whole-ends : Ends ops (height ops n (Placed at l m)) (Placed at l m)
  whole-ends =
      let q : suc (suc (suc (suc low))) ≡ height ops n (Placed at l m) = omega arith in
      subst (λ (z : ℕ). Ends ops z (Placed at l m)) q
      (ends-of ops (suc (suc (suc low))) at l m (terms-hold (Ends ops (suc (suc (suc low)))) (Ends ops low) plain-ends stay-ends change-ends ops false at m body-ends (each-from (λ (p : Part). Ends ops low p.term) (parts false m) part-ends)))

-- of a constant term nothing is asked
constant-height : (ops : Table) (n : ℕ) (at : Place) (l : Level) (m : Meaning) → l ≡ levels.Constant → Ends ops (height ops n (Placed at l m)) (Placed at l m)
constant-height ops n at l m c =
    let q : suc (4 * (inner m + weights ops n) + 3) ≡ height ops n (Placed at l m) = omega arith in
    subst (λ (z : ℕ). Ends ops z (Placed at l m)) q (subst (λ (z : Level). Ends ops (suc (4 * (inner m + weights ops n) + 3)) (Placed at z m)) (sym c) tt)

pub high : (ops : Table) → UsesSmaller ops → (fuel : ℕ) → High ops fuel
high ops smaller zero n (Placed at l m) below enough = absurd (omega (arith, enough))
high ops smaller (suc fuel) n (Placed at l m) (inl c) enough = constant-height ops n at l m c
high ops smaller (suc fuel) n (Placed at l m) (inr below) enough = whole-ends ops smaller fuel (high ops smaller fuel) n at l m below enough

pub some-height : (ops : Table) → UsesSmaller ops → (n : ℕ) (e : Term) → MentionsBelow n e → Ends ops (height ops n e) e
some-height ops smaller n e below = high ops smaller (weight e + weights ops n) n e (inr below) (omega arith)
