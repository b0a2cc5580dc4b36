-- Arms, item by item.
use Rattle.std.proofs.Common.{◌≡◌, ◌∙◌, ap, sym, refl, List, [], ◌∷◌, ◌++◌, map, drop, length, get_or, append_assoc}
use Rattle.std.specs.Prelude.{◌<◌, ◌≤◌, ◌+◌, ℕ, zero, suc, Option, Result, Ok, Err}
use Rattle.std.proofs.lemmas.List.{append-nil, drop_all, map-append}
use Rattle.base_core.specs.declared.place.Place.{Place}
use Rattle.names_terms.specs.Lists.{terms_list}
use Rattle.names_terms.specs.TermViews.{terms_of}
use Rattle.names_terms.specs.Terms as term
use Rattle.names_terms.specs.Terms.{Term, Placed, Meaning, Terms, place_of}
use Rattle.eval_meanings.specs.Unchanged.{unchanged_of}
use Rattle.actions_meanings.specs.declared.fault.FormFault.{FormFault}
use Rattle.actions_meanings.specs.Reads.{VariableSet, reads_primed}
use Rattle.actions_meanings.specs.Outcomes.{Arm, FormOutcome, arm, arms_of, least, next, outside, together, too_early, unless}
use Rattle.actions_early_reads.specs.declared.walking.Walk.{Walk}
use Rattle.actions_early_reads.specs.Keeping.{Fits}
use Rattle.actions_early_reads.specs.Ready.{table_of, IsReady, IsWalked}
use Rattle.actions_early_reads.specs.Opened.{IsRow}
use Rattle.actions_early_reads.specs.Sets.{shown}
use Rattle.actions_early_reads.proofs.Ends.{ends-stays}
use Rattle.actions_early_reads.proofs.Opening.{fits-unstay, fits-unchange}
use Rattle.actions_early_reads.proofs.Staying.{list_of_items, item_at_index}
use Rattle.actions_forms.specs.declared.arms.Arm.{Arm as Ended}
use Rattle.actions_forms.specs.Arms.{arm_of}
use Rattle.actions_forms.specs.Says.{AreWalked, ArmsStop, Says, SaysAnywhere, SaysAt, SaysFixed, SaysStays, TellsArms, outcome_at}
use Rattle.actions_forms.proofs.Ordering.{term-items, walked-item}
use Rattle.actions_forms.proofs.Telling.{ClearPrimed, FindsPrimed, says-along, stops-along, stops-next, stops-unless}

-- behind arms that were found
abbrev pub behind_arms : List Ended → Result (List Arm) FormFault → Result (List Arm) FormFault
behind_arms arms r = next r (λ more. Ok (map arm_of arms ++ more))

pub no-arms : (r : Result (List Arm) FormFault) → r ≡ behind_arms [] r
no-arms (Ok cs) = refl
no-arms (Err f) = refl

-- one arm more
pub arm-pushed : (arms new : List Ended) (a : Ended) (r : Result (List Arm) FormFault) → new ≡ arms ++ a ∷ [] → behind_arms arms (next r (λ more. Ok (arm_of a ∷ more))) ≡ behind_arms new r
arm-pushed arms new a (Ok cs) q =
    ap (λ (xs : List Arm). Ok xs) (sym (append_assoc (map arm_of arms) (arm_of a ∷ []) cs) ∙ ap (λ (xs : List Arm). xs ++ cs) (sym (map-append arm_of arms (a ∷ [])) ∙ ap (map arm_of) (sym q)))
arm-pushed arms new a (Err f) q = refl

abbrev pub ArmsWay : Walk → ℕ → VariableSet → Terms → List Ended → List Term → Type 0
ArmsWay w bound B ts arms rest = (k : ℕ) → AreWalked w bound k (terms_list ts) → arms_of (outcome_at w k) B (terms_list ts) ≡ behind_arms arms (arms_of (outcome_at w k) B rest)

pub arms-begin : (w : Walk) (bound : ℕ) (B : VariableSet) (ts : Terms) (xs : List Term) (arms : List Ended) → arms ≡ [] → terms_of xs ≡ ts → ArmsWay w bound B ts arms xs
arms-begin w bound B ts xs arms empty q k are =
    ap (λ (es : List Term). arms_of (outcome_at w k) B es) (list_of_items xs ts q) ∙ no-arms (arms_of (outcome_at w k) B xs) ∙ ap (λ (ys : List Ended). behind_arms ys (arms_of (outcome_at w k) B xs)) (sym empty)

module _ (w : Walk) (bound : ℕ) (B : VariableSet) (ts : Terms) (xs : List Term) (arms : List Ended) (i : ℕ) (x : Term) (q : terms_of xs ≡ ts) (lt : i < length xs) (is : x ≡ get_or xs i x) (way : ArmsWay w bound B ts arms (drop i xs)) where
  abbrev from_here : ℕ → VariableSet → Result (List Arm) FormFault
  from_here k C = next (arms_of (outcome_at w k) B (drop (i + 1) xs)) (λ cs. Ok (arm x C ∷ cs))

  here : (k : ℕ) → AreWalked w bound k (terms_list ts) → arms_of (outcome_at w k) B (terms_list ts) ≡ behind_arms arms (next (outcome_at w k x B) (from_here k))
  here k are = way k are ∙ ap (λ (es : List Term). behind_arms arms (arms_of (outcome_at w k) B es)) (term-items xs i x lt is)

  item-walked : (k : ℕ) → AreWalked w bound k (terms_list ts) → IsWalked w bound k x
  item-walked k are = walked-item w bound k i (terms_list ts) x (item_at_index xs ts i x q lt is) are

  pub arms-next : (new : List Ended) (c : ℕ) → new ≡ arms ++ record { at = place_of x; set = c } ∷ [] → SaysFixed w bound B x (Ok c) → ArmsWay w bound B ts new (drop (i + 1) xs)
  arms-next new c pushed says k are =
      here k are ∙ ap (λ (r : FormOutcome). behind_arms arms (next r (from_here k))) (says k (item-walked k are)) ∙ arm-pushed arms new (record { at = place_of x; set = c }) (arms_of (outcome_at w k) B (drop (i + 1) xs)) pushed

  pub arms-stop : (f : FormFault) → SaysFixed w bound B x (Err f) → ArmsStop w bound B (terms_list ts) f
  arms-stop f says k are =
      stops-along f (behind_arms arms (next (outcome_at w k x B) (from_here k))) (arms_of (outcome_at w k) B (terms_list ts)) (here k are)
      (stops-next f (next (outcome_at w k x B) (from_here k)) (λ more. Ok (map arm_of arms ++ more)) (stops-next f (outcome_at w k x B) (from_here k) (says k (item-walked k are))))

pub arms-end : (w : Walk) (bound : ℕ) (B : VariableSet) (ts : Terms) (xs : List Term) (arms : List Ended) (i : ℕ) → length xs ≤ i → ArmsWay w bound B ts arms (drop i xs) → TellsArms w bound B (terms_list ts) arms
arms-end w bound B ts xs arms i past way k are =
    way k are ∙ ap (λ (es : List Term). behind_arms arms (arms_of (outcome_at w k) B es)) (drop_all i xs past) ∙ ap (λ (cs : List Arm). Ok cs) (append-nil (map arm_of arms))

-- ONE OF THE TERMS

pub one-row : (w : Walk) (bound : ℕ) (B : VariableSet) (ts : Terms) (arms : List Ended) (r : Result ℕ FormFault) → TellsArms w bound B (terms_list ts) arms → Says r (together w.variables B (map arm_of arms)) → SaysAnywhere w bound B (term.Any ts) r
one-row w bound B ts arms r tells says at l taken k row =
    says-along r (together w.variables B (map arm_of arms)) (next (arms_of (outcome_at w k) B (terms_list ts)) (together w.variables B))
    (ap (λ (z : Result (List Arm) FormFault). next z (together w.variables B)) (tells k record { ready = row.ready; within = row.within; fit = row.fit })) says

pub one-stop : (w : Walk) (bound : ℕ) (B : VariableSet) (ts : Terms) (f : FormFault) → ArmsStop w bound B (terms_list ts) f → SaysAnywhere w bound B (term.Any ts) (Err f)
one-stop w bound B ts f stops at l taken k row =
    stops-next f (arms_of (outcome_at w k) B (terms_list ts)) (together w.variables B) (stops k record { ready = row.ready; within = row.within; fit = row.fit })

-- [A]_v AND <<A>>_v

module _ (w : Walk) (bound : ℕ) (B : VariableSet) (at : Place) (e v : Term) where
  action-walked : (k : ℕ) → IsRow w bound k at (term.BoxAction e v) → IsWalked w bound k e
  action-walked k row = record { ready = row.ready; within = row.within; fits = row.fit.0 }

  stays_here : (k : ℕ) (r : Result ℕ FormFault) → IsReady w → bound ≤ length (table_of w) → Fits (table_of w) w.variables bound k (unchanged_of at v) → SaysStays w bound B at v r → Says r (outcome_at w k (unchanged_of at v) B)
  stays_here zero r ready within fits says = absurd fits.ends
  stays_here (suc k) r ready within fits says =
      let inner : Fits (table_of w) w.variables bound (suc k) v = fits-unstay (table_of w) w.variables bound (suc k) at v fits in
      says k record { ready = ready; within = within; fits = record { below = inner.below; orderly = inner.orderly; ends = ends-stays (table_of w) k at v fits.ends } }

  abbrev both_arms : ℕ → FormOutcome
  both_arms k = next (arms_of (outcome_at w k) B (e ∷ unchanged_of at v ∷ [])) (together w.variables B)

  pub box-row : (c d : ℕ) (r : Result ℕ FormFault) → SaysFixed w bound B e (Ok c) → SaysStays w bound B at v (Ok d) → Says r (together w.variables B (record { at = place_of e; set = shown c } ∷ record { at = at; set = shown d } ∷ [])) → SaysAt w bound B at (term.BoxAction e v) r
  box-row c d r first second says l taken k row =
      let one : outcome_at w k e B ≡ Ok (shown c) = first k (action-walked k row) in
      let two : outcome_at w k (unchanged_of at v) B ≡ Ok (shown d) = stays_here k (Ok d) row.ready row.within row.fit.1.0 second in
      let all : arms_of (outcome_at w k) B (e ∷ unchanged_of at v ∷ []) ≡ Ok (record { at = place_of e; set = shown c } ∷ record { at = at; set = shown d } ∷ []) =
      ap (λ (z : FormOutcome). next z (λ C. next (next (outcome_at w k (unchanged_of at v) B) (λ D. Ok (arm (unchanged_of at v) D ∷ []))) (λ cs. Ok (arm e C ∷ cs)))) one
      ∙ ap (λ (z : FormOutcome). next (next z (λ D. Ok (arm (unchanged_of at v) D ∷ []))) (λ cs. Ok (arm e (shown c) ∷ cs))) two in
      says-along r (together w.variables B (record { at = place_of e; set = shown c } ∷ record { at = at; set = shown d } ∷ [])) (both_arms k) (ap (λ (z : Result (List Arm) FormFault). next z (together w.variables B)) all) says

  pub box-first : (f : FormFault) → SaysFixed w bound B e (Err f) → SaysAt w bound B at (term.BoxAction e v) (Err f)
  box-first f first l taken k row =
      stops-next f (arms_of (outcome_at w k) B (e ∷ unchanged_of at v ∷ [])) (together w.variables B)
      (stops-next f (outcome_at w k e B) (λ C. next (arms_of (outcome_at w k) B (unchanged_of at v ∷ [])) (λ cs. Ok (arm e C ∷ cs))) (first k (action-walked k row)))

  pub box-second : (c : ℕ) (f : FormFault) → SaysFixed w bound B e (Ok c) → SaysStays w bound B at v (Err f) → SaysAt w bound B at (term.BoxAction e v) (Err f)
  box-second c f first second l taken k row =
      let rest : Result (List Arm) FormFault = arms_of (outcome_at w k) B (unchanged_of at v ∷ []) in
      let one : outcome_at w k e B ≡ Ok (shown c) = first k (action-walked k row) in
      stops-next f (arms_of (outcome_at w k) B (e ∷ unchanged_of at v ∷ [])) (together w.variables B)
      (stops-along f (next rest (λ cs. Ok (arm e (shown c) ∷ cs))) (arms_of (outcome_at w k) B (e ∷ unchanged_of at v ∷ [])) (ap (λ (z : FormOutcome). next z (λ C. next rest (λ cs. Ok (arm e C ∷ cs)))) one)
      (stops-next f rest (λ cs. Ok (arm e (shown c) ∷ cs))
      (stops-next f (outcome_at w k (unchanged_of at v) B) (λ D. next (Ok []) (λ cs. Ok (arm (unchanged_of at v) D ∷ cs))) (stays_here k (Err f) row.ready row.within row.fit.1.0 second))))

  abbrev unless_read : ℕ → VariableSet → FormOutcome
  unless_read k C = unless (too_early at (least w.variables (outside C (reads_primed (table_of w) k v term.NoSteps)))) (Ok C)

  angle-walked : (k : ℕ) → IsRow w bound k at (term.AngleAction e v) → IsWalked w bound k v
  angle-walked k row = record { ready = row.ready; within = row.within; fits = fits-unchange (table_of w) w.variables bound k at v row.fit.1.0 }

  pub angle-row : (c : ℕ) → SaysFixed w bound B e (Ok c) → ClearPrimed w bound (shown c) at v → SaysAt w bound B at (term.AngleAction e v) (Ok c)
  angle-row c first lets l taken k row =
      ap (λ (z : FormOutcome). next z (unless_read k)) (first k record { ready = row.ready; within = row.within; fits = row.fit.0 }) ∙ ap (λ (z : Option FormFault). unless z (Ok (shown c))) (lets k (angle-walked k row))

  pub angle-read : (c : ℕ) (f : FormFault) → SaysFixed w bound B e (Ok c) → FindsPrimed w bound (shown c) at v f → SaysAt w bound B at (term.AngleAction e v) (Err f)
  angle-read c f first lets l taken k row =
      stops-along f (unless_read k (shown c)) (next (outcome_at w k e B) (unless_read k)) (ap (λ (z : FormOutcome). next z (unless_read k)) (first k record { ready = row.ready; within = row.within; fits = row.fit.0 }))
      (stops-unless f (too_early at (least w.variables (outside (shown c) (reads_primed (table_of w) k v term.NoSteps)))) (Ok (shown c)) (lets k (angle-walked k row)))

  pub angle-stop : (f : FormFault) → SaysFixed w bound B e (Err f) → SaysAt w bound B at (term.AngleAction e v) (Err f)
  angle-stop f first l taken k row = stops-next f (outcome_at w k e B) (unless_read k) (first k record { ready = row.ready; within = row.within; fits = row.fit.0 })
