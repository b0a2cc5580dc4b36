-- What holds of each term of which a term is made holds of each of its parts; and where the term has no prime of its own, all parts stand under a
-- prime as it does.
use Rattle.std.proofs.Common.{◌≡◌, ◌∙◌, sym, refl, subst, ap, List, [], ◌∷◌, ◌++◌}
use Rattle.std.specs.Prelude.{◌||◌, Bool, true, false, map, flat_map, All, slice_get}
use Rattle.std.specs.List.{AllByRecursion}
use Rattle.std.proofs.lemmas.List.Elements.{All-head, All-tail}
use Rattle.base_core.specs.declared.place.Place.{Place}
use Rattle.reading_trees.specs.declared.operators.PrefixOperator.{PrefixOperator}
use Rattle.reading_trees.specs.declared.operators.PrefixOperator.TheVariants as prefix
use Rattle.names_terms.specs.Lists.{terms_list, steps_list, changes_list}
use Rattle.names_terms.specs.Terms as term
use Rattle.names_terms.specs.Terms.{Term, Meaning, Terms, Step, Steps, Changes}
use Rattle.names_term_parts.specs.Parts.{part, parts_of, listed, operand_list, set_list, value_list, arm_list, is_prime, has_prime, step_parts, steps_parts, change_parts, primes}
use Rattle.eval_meanings.specs.Contexts.{Table}
use Rattle.eval_meanings.specs.Unchanged.{changed_of, unchanged_of}
use Rattle.actions_meanings.specs.Reads.{parts_in, body_of, terms_in, path_terms, step_terms}
use Rattle.names_specification_laws.specs.IsSpec.{HasParts, AreKeys, ArePaths}
use Rattle.steps_walk_laws.proofs.PartLists.{OfPart, PartsAre, both, or_none, not_true}

abbrev pub Each : (Term → Type 0) → List Term → Type 0
Each T es = AllByRecursion T es

pub each_all : (T : Term → Type 0) (es : List Term) → All T es → Each T es
each_all T [] h = tt
each_all T (e ∷ es) h = (All-head T e es h, each_all T es (All-tail T e es h))

pub each_left : (T : Term → Type 0) (es fs : List Term) → Each T (es ++ fs) → Each T es
each_left T [] fs h = tt
each_left T (e ∷ es) fs h = (h.0, each_left T es fs h.1)

pub each_right : (T : Term → Type 0) (es fs : List Term) → Each T (es ++ fs) → Each T fs
each_right T [] fs h = h
each_right T (e ∷ es) fs h = each_right T es fs h.1

pub each_both : (T : Term → Type 0) (es fs : List Term) → Each T es → Each T fs → Each T (es ++ fs)
each_both T [] fs h k = k
each_both T (e ∷ es) fs h k = (h.0, each_both T es fs h.1 k)

pub each_weaker : (T U : Term → Type 0) → ((e : Term) → T e → U e) → (es : List Term) → Each T es → Each U es
each_weaker T U f [] h = tt
each_weaker T U f (e ∷ es) h = (f e h.0, each_weaker T U f es h.1)

pub each_gathered : {A : Type 0} (T : Term → Type 0) (f : A → List Term) (xs : List A) (y : A) → Each T (flat_map f (xs ++ y ∷ [])) → Each T (flat_map f xs) × Each T (f y)
each_gathered T f [] y h = (tt, each_left T (f y) [] h)
each_gathered T f (x ∷ xs) y h =
    let rest : Each T (flat_map f xs) × Each T (f y) = each_gathered T f xs y (each_right T (f x) (flat_map f (xs ++ y ∷ [])) h) in
    (each_both T (f x) (flat_map f xs) (each_left T (f x) (flat_map f (xs ++ y ∷ [])) h) rest.0, rest.1)

pub listed_is : (ts : Terms) → terms_list ts ≡ listed ts
listed_is term.NoTerms = refl
listed_is (term.MoreTerms ts e) = ap (λ (es : List Term). es ++ e ∷ []) (listed_is ts)

-- a row that has no prime of its own, and means no term that no text spells
abbrev pub is_plain : Meaning → Bool
is_plain (term.Postfix e ss s) = false
is_plain (term.Prefix prefix.Unchanged e) = false
is_plain (term.BoxAction e v) = false
is_plain (term.AngleAction e v) = false
is_plain m = true

module _ (b plain : Bool) (T : Term → Type 0) where
  -- where only plain rows are asked for, a part stands under a prime where the whole does
  abbrev pub Keeps : Bool → Type 0
  Keeps p = plain ≡ true → p ≡ b

  abbrev pub Kept : OfPart
  Kept p e = T e × Keeps p

  pub list_parts : (p : Bool) → Keeps p → (es : List Term) → Each T es → PartsAre Kept (parts_of p es)
  list_parts p k [] h = tt
  list_parts p k (e ∷ es) h = ((h.0, k), list_parts p k es h.1)

  pub terms_parts : (p : Bool) → Keeps p → (ts : Terms) → Each T (terms_list ts) → PartsAre Kept (parts_of p (listed ts))
  terms_parts p k ts h = list_parts p k (listed ts) (subst (Each T) (listed_is ts) h)

  -- no step of them adds a prime that counts
  abbrev pub Grow : Steps → Type 0
  Grow term.NoSteps = Unit {0}
  Grow (term.MoreSteps ss at s) = Grow ss × ((p : Bool) → Keeps p → Keeps (p || is_prime s))

  same_flag : (p : Bool) → Keeps p → Keeps (p || false)
  same_flag p k q = sym (or_none p) ∙ k q

  pub keys_grow : (ss : Steps) → (plain ≡ true → AreKeys ss) → Grow ss
  keys_grow term.NoSteps k = tt
  keys_grow (term.MoreSteps ss at term.Prime) k = (keys_grow ss (λ q. (k q).0), λ p w q. absurd ((k q).1))
  keys_grow (term.MoreSteps ss at (term.Index ts)) k = (keys_grow ss (λ q. (k q).0), λ p w. same_flag p w)
  keys_grow (term.MoreSteps ss at (term.Field f)) k = (keys_grow ss (λ q. (k q).0), λ p w. same_flag p w)

  step_part : (p : Bool) → Keeps p → (s : Step) → Each T (step_terms s) → PartsAre Kept (step_parts p s)
  step_part p k term.Prime h = tt
  step_part p k (term.Index ts) h = terms_parts p k ts h
  step_part p k (term.Field f) h = tt

  pub path_parts : (p : Bool) → Keeps p → (ss : Steps) → Grow ss → Each T (path_terms ss) → PartsAre Kept (steps_parts p ss)
  path_parts p k term.NoSteps g h = tt
  path_parts p k (term.MoreSteps ss at s) g h =
      let r : Each T (path_terms ss) × Each T (step_terms s) = each_gathered T (λ s. step_terms s.1) (steps_list ss) (at, s) h in
      both Kept (step_parts p s) (steps_parts (p || is_prime s) ss) (step_part p k s r.1) (path_parts (p || is_prime s) (g.1 p k) ss g.0 r.0)

  changes_parts : Keeps b → (cs : Changes) → (plain ≡ true → ArePaths cs) → Each T (flat_map (λ change. path_terms change.0 ++ change.1 ∷ []) (changes_list cs)) → PartsAre Kept (change_parts b cs)
  changes_parts k term.NoChanges a h = tt
  changes_parts k (term.MoreChanges cs path e) a h =
      let r : Each T (flat_map (λ change. path_terms change.0 ++ change.1 ∷ []) (changes_list cs)) × Each T (path_terms path ++ e ∷ []) =
      each_gathered T (λ change. path_terms change.0 ++ change.1 ∷ []) (changes_list cs) (path, e) h in
      let own : Each T (e ∷ []) = each_right T (path_terms path) (e ∷ []) r.1 in
      both Kept (change_parts b cs ++ steps_parts b path) (part b e ∷ [])
      (both Kept (change_parts b cs) (steps_parts b path) (changes_parts k cs (λ q. (a q).0) r.0) (path_parts b k path (keys_grow path (λ q. (a q).3)) (each_left T (path_terms path) (e ∷ []) r.1)))
      ((own.0, k), tt)

  module _ (ops : Table) (made : plain ≡ false → (at : Place) (v : Term) → (T (unchanged_of at v) → T v) × (T (changed_of at v) → T v)) where
    itself : Keeps b
    itself q = refl

    behind_list : (es : List Term) (e : Term) → Each T (es ++ e ∷ []) → PartsAre Kept (parts_of b es ++ part b e ∷ [])
    behind_list es e h =
        let own : Each T (e ∷ []) = each_right T es (e ∷ []) h in
        both Kept (parts_of b es) (part b e ∷ []) (list_parts b itself es (each_left T es (e ∷ []) h)) ((own.0, itself), tt)

    prefix_flag : (o : PrefixOperator) (e : Term) → (plain ≡ true → is_plain (term.Prefix o e) ≡ true) → Keeps (b || primes o)
    prefix_flag prefix.Unchanged e k q = let w : false ≡ true = k q in absurd (cc)
    prefix_flag o e k q = sym (or_none b)

    not_plain : (plain ≡ true → false ≡ true) → plain ≡ false
    not_plain f = not_true plain (λ q. let w : false ≡ true = f q in absurd (cc))

    vacuous : (plain ≡ true → false ≡ true) → (p : Bool) → Keeps p
    vacuous f p q = let w : false ≡ true = f q in absurd (cc)

    all_grow : (plain ≡ true → false ≡ true) → (ss : Steps) → Grow ss
    all_grow f term.NoSteps = tt
    all_grow f (term.MoreSteps ss at s) = (all_grow f ss, λ p k. vacuous f (p || is_prime s))

    pub row_parts : (at : Place) (m : Meaning) → (plain ≡ true → is_plain m ≡ true) → (plain ≡ true → HasParts m) → Each T (terms_in ops at m) → PartsAre Kept (parts_in ops b m)
    row_parts at (term.Known v) k p h = tt
    row_parts at (term.Named s) k p h = tt
    row_parts at (term.Variable x) k p h = tt
    row_parts at (term.Slot i) k p h = tt
    row_parts at (term.Use j ts) k p h =
        both Kept (parts_of b (listed ts)) (map (part b) (body_of (slice_get ops j))) (terms_parts b itself ts (each_left T (terms_list ts) (body_of (slice_get ops j)) h))
        (list_parts b itself (body_of (slice_get ops j)) (each_right T (terms_list ts) (body_of (slice_get ops j)) h))
    row_parts at (term.Standard o ts) k p h = terms_parts b itself ts h
    row_parts at (term.Parenthesized e) k p h = ((h.0, itself), tt)
    row_parts at (term.Scoped ks e) k p h = ((h.0, itself), tt)
    row_parts at (term.All ts) k p h = terms_parts b itself ts h
    row_parts at (term.Any ts) k p h = terms_parts b itself ts h
    row_parts at (term.Prefix o e) k p h = ((h.0, prefix_flag o e k), tt)
    row_parts at (term.Infix o os e) k p h = behind_list (operand_list os) e h
    row_parts at (term.Postfix e ss s) k p h = (
      (h.0, vacuous k ((b || is_prime s) || has_prime ss)),
      both Kept (step_parts b s) (steps_parts (b || is_prime s) ss) (step_part b itself s (each_right T (path_terms ss) (step_terms s) h.1))
          (path_parts (b || is_prime s) (vacuous k (b || is_prime s)) ss (all_grow k ss) (each_left T (path_terms ss) (step_terms s) h.1)),
    )
    row_parts at (term.SetOf ts) k p h = terms_parts b itself ts h
    row_parts at (term.Filter s e) k p h = ((h.0, itself), ((h.1.0, itself), tt))
    row_parts at (term.Map e bs) k p h = ((h.0, itself), list_parts b itself (set_list bs) h.1)
    row_parts at (term.Tuple ts) k p h = terms_parts b itself ts h
    row_parts at (term.Function bs e) k p h = behind_list (set_list bs) e h
    row_parts at (term.FunctionSet s e) k p h = ((h.0, itself), ((h.1.0, itself), tt))
    row_parts at (term.Record fs) k p h = list_parts b itself (value_list fs) h
    row_parts at (term.RecordSet fs) k p h = list_parts b itself (value_list fs) h
    row_parts at (term.Except e cs) k p h = ((h.0, itself), changes_parts itself cs (λ q. (p q).1) h.1)
    row_parts at (term.Quantified q bs e) k p h = behind_list (set_list bs) e h
    row_parts at (term.Choose s e) k p h = ((h.0, itself), ((h.1.0, itself), tt))
    row_parts at (term.If q e f) k p h = ((h.0, itself), ((h.1.0, itself), ((h.1.1.0, itself), tt)))
    row_parts at (term.Case arms) k p h = list_parts b itself (arm_list arms) h
    row_parts at (term.CaseOther arms e) k p h = behind_list (arm_list arms) e h
    row_parts at (term.BoxAction e v) k p h = ((h.0, itself), (((made (not_plain k) at v).0 h.1.0, vacuous k true), tt))
    row_parts at (term.AngleAction e v) k p h = ((h.0, itself), (((made (not_plain k) at v).1 h.1.0, vacuous k true), tt))
    row_parts at (term.Fairness v e) k p h = ((h.0, itself), ((h.1.0, itself), tt))

pub each_gathered_on : {A : Type 0} (T : Term → Type 0) (f : A → List Term) (xs : List A) (y : A) → Each T (flat_map f xs) → Each T (f y) → Each T (flat_map f (xs ++ y ∷ []))
each_gathered_on T f [] y h k = each_both T (f y) [] k tt
each_gathered_on T f (x ∷ xs) y h k =
    each_both T (f x) (flat_map f (xs ++ y ∷ [])) (each_left T (f x) (flat_map f xs) h) (each_gathered_on T f xs y (each_right T (f x) (flat_map f xs) h) k)
