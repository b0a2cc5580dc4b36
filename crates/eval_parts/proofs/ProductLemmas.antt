-- Parts of a product: those at hand, those that are still to come, and the whole.
use Rattle.std.proofs.Common.{◌≡◌, inl, inr, refl, ap, sym, ◌∙◌, subst, List, [], ◌∷◌, ◌++◌, length, drop, map, ◌≤◌, ◌+◌, ℕ, append_assoc, rules}
use Rattle.std.specs.Prelude.{Result, Ok, Err}
use Rattle.base_core.specs.declared.place.Place.{Place}
use Rattle.states_core.specs.declared.fault.Fault.{Fault}
use Rattle.reading_trees.specs.declared.operators.InfixOperator.TheVariants as infix_operator
use Rattle.names_terms.specs.Terms.{Term, Operands, Next}
use Rattle.names_terms.specs.declared.term.Operand.{Operand}
use Rattle.values_sets.specs.DescribedSets.{Described, Product, Parts, NoParts, MoreParts, parts_list}
use Rattle.values_sets.specs.Soundness.{IsSound, PartsAreSound}
use Rattle.eval_meanings.specs.declared.fault.EvalFault.{EvalFault}
use Rattle.eval_meanings.specs.declared.fault.EvalFault.TheVariants.{Refused, NoMemory}
use Rattle.eval_meanings.specs.Answers.{IsReady, Tells}
use Rattle.eval_meanings.specs.Outcomes.{Outcome, Each, Gives, Then, fault}
use Rattle.eval_meanings.specs.Sets.{first_operand, other_operands, parts_of, set_at}
use Rattle.eval_parts.specs.ReadyParts.{AreReady}
use Rattle.eval_parts.specs.Scenes.{operand_item}

to_end : {X : Type 0} (xs : List X) → xs ++ [] ≡ xs
to_end xs = search rules

again : {X : Type 0} (ys : List X) (y : X) (zs : List X) → (ys ++ y ∷ []) ++ zs ≡ ys ++ y ∷ zs
again ys y zs = append_assoc ys (y ∷ []) zs

no_items : {X : Type 0} (xs : List X) → length xs ≡ 0 → xs ≡ []
no_items [] e = refl
no_items (x ∷ xs) e = absurd (cc)

-- of each what comes of it, by those that are still to come
module _ {A B : Type 0} (P : A → Outcome B) where
  abbrev pub EachBefore : List A → List A → List B → Type 0
  EachBefore xs rest ys = (r : Result (List B) Fault) → Then (Each P rest) (λ zs. Gives (ys ++ zs)) r → Each P xs r

  pub each_before_begins : (xs : List A) → EachBefore xs xs []
  each_before_begins xs r (inl (zs, h, e)) = let Q : Result (List B) Fault → Type 0 = λ q. Each P xs q in subst Q (sym e) h
  each_before_begins xs r (inr (f, h, e)) = let Q : Result (List B) Fault → Type 0 = λ q. Each P xs q in subst Q (sym e) h

  pub each_before_more : (xs rest less : List A) (x : A) (ys more : List B) (y : B) → rest ≡ x ∷ less → more ≡ ys ++ y ∷ [] → P x (Ok y) → EachBefore xs rest ys → EachBefore xs less more
  each_before_more xs rest less x ys more y c m p s r (inl (zs, h, e)) =
      let Q : List A → Type 0 = λ us. Then (Each P us) (λ (ws : List B). Gives (ys ++ ws)) r in
      s r (subst Q (sym c) (inl (y ∷ zs, inl (y, p, inl (zs, h, refl)), e ∙ ap Ok (ap (λ us. us ++ zs) m ∙ again ys y zs))))
  each_before_more xs rest less x ys more y c m p s r (inr (f, h, e)) =
      let Q : List A → Type 0 = λ us. Then (Each P us) (λ (ws : List B). Gives (ys ++ ws)) r in
      s r (subst Q (sym c) (inr (f, inl (y, p, inr (f, h, refl)), e)))

  pub each_before_stops : {C : Type 0} (K : List B → Outcome C) (xs rest less : List A) (x : A) (ys : List B) (f : EvalFault) → rest ≡ x ∷ less → Tells {A = B} (Err f) (P x) → EachBefore xs rest ys → Tells {A = C} (Err f) (Then (Each P xs) K)
  each_before_stops K xs rest less x ys (Refused kind at) c p s =
      let Q : List A → Type 0 = λ us. Then (Each P us) (λ (ws : List B). Gives (ys ++ ws)) (Err (fault kind at)) in
      inr (fault kind at, s (Err (fault kind at)) (subst Q (sym c) (inr (fault kind at, inr (fault kind at, p, refl), refl))), refl)
  each_before_stops K xs rest less x ys NoMemory c p s = tt

  pub each_before_ends : (xs rest : List A) (ys : List B) → length rest ≡ 0 → EachBefore xs rest ys → Each P xs (Ok ys)
  each_before_ends xs rest ys l s =
      let Q : List A → Type 0 = λ us. Then (Each P us) (λ (ws : List B). Gives (ys ++ ws)) (Ok ys) in
      s (Ok ys) (subst Q (sym (no_items rest l)) (inl ([], refl, ap Ok (sym (to_end ys)))))

-- parts that are read in their order
parts_back : (ps : Parts) → parts_of (parts_list ps) ≡ ps
parts_back NoParts = refl
parts_back (MoreParts d ps) = ap (MoreParts d) (parts_back ps)

sound_more : (ds : List Described) (d : Described) → PartsAreSound (parts_of ds) → IsSound d → PartsAreSound (parts_of (ds ++ d ∷ []))
sound_more [] d h s = (s, tt)
sound_more (c ∷ ds) d h s = (h.0, sound_more ds d h.1 s)

pub sound_pushed : (old new : Parts) (d : Described) → parts_list new ≡ parts_list old ++ d ∷ [] → PartsAreSound old → IsSound d → PartsAreSound new
sound_pushed old new d e h s =
    let before = subst (λ (ps : Parts). PartsAreSound ps) (sym (parts_back old)) h in
    let more = sound_more (parts_list old) d before s in
    subst (λ (ps : Parts). PartsAreSound ps) (parts_back new) (subst (λ (ds : List Described). PartsAreSound (parts_of ds)) (sym e) more)

pub ready_rest : (rest less : List (Place × Described)) (d : Place × Described) → rest ≡ d ∷ less → AreReady rest → IsReady d.1 × AreReady less
ready_rest rest less d e h = subst (λ (ds : List (Place × Described)). AreReady ds) e h

pub ready_pushed : (ds new : List (Place × Described)) (d : Place × Described) → new ≡ ds ++ d ∷ [] → AreReady ds → IsReady d.1 → AreReady new
ready_pushed ds new d e h s = subst (λ (xs : List (Place × Described)). AreReady xs) (sym e) (more ds h)
  where
    more : (ds : List (Place × Described)) → AreReady ds → AreReady (ds ++ d ∷ [])
    more [] h = (s, tt)
    more (c ∷ ds) h = (h.0, more ds h.1)

pub product_told : (xs : List (Place × Described)) (ps : Parts) → Each (λ d. set_at d.0 d.1) xs (Ok (parts_list ps)) → Then (Each (λ d. set_at d.0 d.1) xs) (λ es. Gives (Product (parts_of es))) (Ok (Product ps))
product_told xs ps h = inl (parts_list ps, h, ap (λ (qs : Parts). Ok (Product qs)) (sym (parts_back ps)))

-- the operands of a chain as terms
others_terms : (xs : List Operand) → map (λ x. x.value) xs ≡ map (λ e. e.1) (map operand_item xs)
others_terms [] = refl
others_terms (x ∷ xs) = ap (λ us. x.value ∷ us) (others_terms xs)

map_more : (es : List (Place × Term)) (at : Place) (b : Term) → map (λ e. e.1) es ++ b ∷ [] ≡ map (λ e. e.1) (es ++ (at, b) ∷ [])
map_more [] at b = refl
map_more (e ∷ es) at b = ap (λ us. e.1 ∷ us) (map_more es at b)

pub chain_terms : (f : Term) (xs : List Operand) (os : Operands) (at : Place) (b : Term) → f ≡ first_operand os → map operand_item xs ≡ other_operands os → (f ∷ map (λ x. x.value) xs) ++ b ∷ [] ≡ first_operand os ∷ map (λ e. e.1) (other_operands (Next os at b))
chain_terms f xs os at b e o =
    ap (λ us. f ∷ us ++ b ∷ []) (others_terms xs ∙ ap (map (λ e. e.1)) o) ∙ ap (λ us. f ∷ us) (map_more (other_operands os) at b) ∙ ap (λ (t : Term). t ∷ map (λ e. e.1) (other_operands (Next os at b))) e
