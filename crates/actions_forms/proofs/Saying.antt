-- What is said of arms.
use Rattle.std.proofs.Common.{◌≡◌, ◌∙◌, ap, sym, List, ◌∷◌, map, drop, length, get_or}
use Rattle.std.specs.Prelude.{◌<◌, ◌≤◌, ◌+◌, ℕ, Option, Some, None, Ok, Err}
use Rattle.std.proofs.lemmas.List.{drop_more, drop_all}
use Rattle.actions_meanings.specs.declared.fault.FormFault.{FormFault}
use Rattle.actions_meanings.specs.Reads.{VariableSet, united}
use Rattle.actions_meanings.specs.Outcomes.{fixed_by_some, lacking, least, not_fixed, or_else, outside, together, unless}
use Rattle.actions_forms.specs.declared.arms.Arm.{Arm as Ended}
use Rattle.actions_forms.specs.Arms.{arm_of}
use Rattle.actions_early_reads.specs.Sets.{shown}
use Rattle.actions_early_reads.proofs.Found.{united-assoc, united-none}

arms_on : (xs : List Ended) (i : ℕ) (x : Ended) → i < length xs → x ≡ get_or xs i x → drop i xs ≡ x ∷ drop (i + 1) xs
arms_on xs i x lt is = drop_more xs i x lt ∙ ap (λ (y : Ended). y ∷ drop (i + 1) xs) (sym is)

pub some-on : (xs : List Ended) (i : ℕ) (x : Ended) (all new : ℕ) → i < length xs → x ≡ get_or xs i x → shown new ≡ united (shown all) (shown x.set) → united (shown all) (fixed_by_some (map arm_of (drop i xs))) ≡ fixed_by_some (map arm_of xs) → united (shown new) (fixed_by_some (map arm_of (drop (i + 1) xs))) ≡ fixed_by_some (map arm_of xs)
some-on xs i x all new lt is added way =
    ap (λ (Z : VariableSet). united Z (fixed_by_some (map arm_of (drop (i + 1) xs)))) added ∙ sym (united-assoc (shown all) (shown x.set) (fixed_by_some (map arm_of (drop (i + 1) xs)))) ∙ ap (λ (ys : List Ended). united (shown all) (fixed_by_some (map arm_of ys))) (sym (arms_on xs i x lt is)) ∙ way

pub some-end : (xs : List Ended) (i all : ℕ) → length xs ≤ i → united (shown all) (fixed_by_some (map arm_of (drop i xs))) ≡ fixed_by_some (map arm_of xs) → shown all ≡ fixed_by_some (map arm_of xs)
some-end xs i all past way = sym (united-none (shown all)) ∙ ap (λ (ys : List Ended). united (shown all) (fixed_by_some (map arm_of ys))) (sym (drop_all i xs past)) ∙ way

pub lacking-here : (v all i : ℕ) (xs : List Ended) (x : Ended) (o : Option ℕ) (r : Option FormFault) → i < length xs → x ≡ get_or xs i x → o ≡ least v (outside (shown x.set) (shown all)) → r ≡ not_fixed x.at o → lacking v (shown all) (map arm_of (drop i xs)) ≡ or_else r (lacking v (shown all) (map arm_of (drop (i + 1) xs)))
lacking-here v all i xs x o r lt is least_is fault =
    ap (λ (ys : List Ended). lacking v (shown all) (map arm_of ys)) (arms_on xs i x lt is) ∙ ap (λ (z : Option FormFault). or_else z (lacking v (shown all) (map arm_of (drop (i + 1) xs)))) (sym (fault ∙ ap (not_fixed x.at) least_is))

pub lacking-end : (v all i : ℕ) (xs : List Ended) → length xs ≤ i → lacking v (shown all) (map arm_of (drop i xs)) ≡ None
lacking-end v all i xs past = ap (λ (ys : List Ended). lacking v (shown all) (map arm_of ys)) (drop_all i xs past)

-- all arms together
pub together-lacks : (v : ℕ) (B : VariableSet) (a : Ended) (xs : List Ended) (all : ℕ) (o : Option FormFault) (f : FormFault) → shown all ≡ fixed_by_some (map arm_of (a ∷ xs)) → o ≡ lacking v (shown all) (map arm_of (a ∷ xs)) → o ≡ Some f → together v B (map arm_of (a ∷ xs)) ≡ Err f
together-lacks v B a xs all o f some own q =
    ap (λ (z : Option FormFault). unless z (Ok (shown a.set))) (ap (λ (U : VariableSet). lacking v U (map arm_of (a ∷ xs))) (sym some) ∙ sym own ∙ q)

pub together-same : (v : ℕ) (B : VariableSet) (a : Ended) (xs : List Ended) (all : ℕ) (o : Option FormFault) → shown all ≡ fixed_by_some (map arm_of (a ∷ xs)) → o ≡ lacking v (shown all) (map arm_of (a ∷ xs)) → o ≡ None → together v B (map arm_of (a ∷ xs)) ≡ Ok (shown a.set)
together-same v B a xs all o some own q =
    ap (λ (z : Option FormFault). unless z (Ok (shown a.set))) (ap (λ (U : VariableSet). lacking v U (map arm_of (a ∷ xs))) (sym some) ∙ sym own ∙ q)
