-- IF, fork by fork.
use Rattle.std.proofs.Common.{◌≡◌, ◌∙◌, ap, sym, refl, subst, List, [], ◌∷◌, ◌++◌}
use Rattle.std.specs.Prelude.{ℕ, zero, suc, true, Option, Result, Ok, Err}
use Rattle.base_core.specs.declared.place.Place.{Place}
use Rattle.names_terms.specs.declared.level.Level.{Level}
use Rattle.names_terms.specs.Terms as term
use Rattle.names_terms.specs.Terms.{Term, Placed, Meaning, place_of}
use Rattle.actions_meanings.specs.declared.fault.FormFault.{FormFault}
use Rattle.actions_meanings.specs.Forms.{is_taken}
use Rattle.actions_meanings.specs.Reads.{VariableSet, Ends}
use Rattle.actions_meanings.specs.Outcomes.{Arm, FormOutcome, arm, arms_of, form_outcome, next, together, unless}
use Rattle.actions_early_reads.specs.declared.walking.Walk.{Walk}
use Rattle.actions_early_reads.specs.Ready.{table_of, setting_of, IsWalked}
use Rattle.actions_early_reads.specs.Opened.{early_at, IsRow}
use Rattle.actions_early_reads.specs.Sets.{shown}
use Rattle.actions_early_reads.proofs.Ends.{ends-more}
use Rattle.actions_forms.specs.declared.forks.Fork.{Fork}
use Rattle.actions_forms.specs.Forks.{closed, fork_arms}
use Rattle.actions_forms.specs.Says.{AreWalked, ForkStops, IsFork, Says, SaysAnywhere, SaysClosed, SaysFixed, Stops, branch_at, outcome_at}
use Rattle.actions_forms.proofs.Outcomes.{form-of, outcome-same}
use Rattle.actions_forms.proofs.Opened.{row-in}
use Rattle.actions_forms.proofs.Telling.{ClearTerm, FindsTerm, says-along, stops-along, stops-next, stops-unless}

-- CLOSING

pub closed-pushed : (v : ℕ) (B : VariableSet) (cs : List Fork) (c : Fork) (r : FormOutcome) → closed v B (cs ++ c ∷ []) r ≡ closed v B cs (next r (λ D. together v B (fork_arms c D)))
closed-pushed v B [] c r = refl
closed-pushed v B (d ∷ cs) c r = ap (λ (z : FormOutcome). next z (λ D. together v B (fork_arms d D))) (closed-pushed v B cs c r)

pub closed-stops : (v : ℕ) (B : VariableSet) (cs : List Fork) (f : FormFault) (r : FormOutcome) → Stops f r → Stops f (closed v B cs r)
closed-stops v B [] f r h = h
closed-stops v B (d ∷ cs) f r h = stops-next f (closed v B cs r) (λ D. together v B (fork_arms d D)) (closed-stops v B cs f r h)

-- what is still to be closed
abbrev pub ClosedWay : ℕ → VariableSet → List Fork → ℕ → List Fork → ℕ → Type 0
ClosedWay v B start last left set = closed v B start (Ok (shown last)) ≡ closed v B left (Ok (shown set))

pub closed-next : (v : ℕ) (B : VariableSet) (start : List Fork) (last : ℕ) (stack left : List Fork) (c : Fork) (set new : ℕ) → stack ≡ left ++ c ∷ [] → together v B (fork_arms c (shown set)) ≡ Ok (shown new) → ClosedWay v B start last stack set → ClosedWay v B start last left new
closed-next v B start last stack left c set new popped same way = way ∙ ap (λ (cs : List Fork). closed v B cs (Ok (shown set))) popped ∙ closed-pushed v B left c (Ok (shown set)) ∙ ap (closed v B left) same

pub closed-stop : (v : ℕ) (B : VariableSet) (start : List Fork) (last : ℕ) (stack left : List Fork) (c : Fork) (set : ℕ) (f : FormFault) → stack ≡ left ++ c ∷ [] → Stops f (together v B (fork_arms c (shown set))) → ClosedWay v B start last stack set → Says (Err f) (closed v B start (Ok (shown last)))
closed-stop v B start last stack left c set f popped stops way =
    stops-along f (closed v B left (together v B (fork_arms c (shown set)))) (closed v B start (Ok (shown last))) (way ∙ ap (λ (cs : List Fork). closed v B cs (Ok (shown set))) popped ∙ closed-pushed v B left c (Ok (shown set)))
    (closed-stops v B left f (together v B (fork_arms c (shown set))) stops)

pub closed-end : (v : ℕ) (B : VariableSet) (start : List Fork) (last : ℕ) (stack : List Fork) (set : ℕ) → stack ≡ [] → ClosedWay v B start last stack set → Says (Ok set) (closed v B start (Ok (shown last)))
closed-end v B start last stack set q way = way ∙ ap (λ (cs : List Fork). closed v B cs (Ok (shown set))) q

-- ONE IF

two_arms : (v : ℕ) (B C : VariableSet) (e f : Term) (r : FormOutcome) → next (next (next r (λ D. Ok (arm f D ∷ []))) (λ cs. Ok (arm e C ∷ cs))) (together v B) ≡ next r (λ D. together v B (arm e C ∷ arm f D ∷ []))
two_arms v B C e f (Ok D) = refl
two_arms v B C e f (Err s) = refl

module _ (w : Walk) (bound : ℕ) (B : VariableSet) (p e f : Term) where
  abbrev Three : List Term
  Three = p ∷ e ∷ f ∷ []

  test-walked : (k : ℕ) → AreWalked w bound k Three → IsWalked w bound k p
  test-walked k are = record { ready = are.ready; within = are.within; fits = are.fit.0 }

  then-walked : (k : ℕ) → AreWalked w bound k Three → IsWalked w bound k e
  then-walked k are = record { ready = are.ready; within = are.within; fits = are.fit.1.0 }

  pub other-walked : (k : ℕ) → AreWalked w bound k Three → IsWalked w bound k f
  other-walked k are = record { ready = are.ready; within = are.within; fits = are.fit.1.1.0 }

  abbrev from_then : ℕ → VariableSet → Result (List Arm) FormFault
  from_then k C = next (arms_of (outcome_at w k) B (f ∷ [])) (λ cs. Ok (arm e C ∷ cs))

  abbrev from_test : ℕ → FormOutcome
  from_test k = next (next (outcome_at w k e B) (from_then k)) (together w.variables B)

  pub fork-early : (s : FormFault) → FindsTerm w bound B p s → ForkStops w bound B p e f s
  fork-early s lets k are = stops-unless s (early_at w B k p) (from_test k) (lets k (test-walked k are))

  after_test : ClearTerm w bound B p → (k : ℕ) → AreWalked w bound k Three → branch_at w k B p e f ≡ from_test k
  after_test lets k are = ap (λ (o : Option FormFault). unless o (from_test k)) (lets k (test-walked k are))

  pub fork-stop : (s : FormFault) → ClearTerm w bound B p → SaysFixed w bound B e (Err s) → ForkStops w bound B p e f s
  fork-stop s lets says k are =
      stops-along s (from_test k) (branch_at w k B p e f) (after_test lets k are)
      (stops-next s (next (outcome_at w k e B) (from_then k)) (together w.variables B) (stops-next s (outcome_at w k e B) (from_then k) (says k (then-walked k are))))

  pub fork-made : (c : Fork) → ClearTerm w bound B p → SaysFixed w bound B e (Ok c.set) → place_of e ≡ c.at → place_of f ≡ c.other → IsFork w bound B p e f c
  fork-made c lets says at other k are =
      after_test lets k are ∙ ap (λ (z : FormOutcome). next (next z (from_then k)) (together w.variables B)) (says k (then-walked k are))
      ∙ two_arms w.variables B (shown c.set) e f (outcome_at w k f B)
      ∙ ap (λ (q : Place). next (outcome_at w k f B) (λ D. together w.variables B (record { at = q; set = shown c.set } ∷ arm f D ∷ []))) at
      ∙ ap (λ (q : Place). next (outcome_at w k f B) (λ D. together w.variables B (record { at = c.at; set = shown c.set } ∷ record { at = q; set = D } ∷ []))) other

-- A CHAIN OF THEM

pub record IsBranchSo (w : Walk) (bound k : ℕ) (B : VariableSet) (whole : FormOutcome) (forks : List Fork) (last : Term) : Type 0 where
  pub same : whole ≡ closed w.variables B forks (outcome_at w k last B)
  pub walked : IsWalked w bound k last

abbrev pub BranchWay : Walk → ℕ → VariableSet → Term → Term → Term → List Fork → Term → Type 0
BranchWay w bound B p e f forks last = (k : ℕ) → AreWalked w bound k (p ∷ e ∷ f ∷ []) → IsBranchSo w bound k B (branch_at w k B p e f) forks last

pub branch-begin : (w : Walk) (bound : ℕ) (B : VariableSet) (p e f : Term) (forks : List Fork) (c : Fork) → forks ≡ c ∷ [] → IsFork w bound B p e f c → BranchWay w bound B p e f forks f
branch-begin w bound B p e f forks c q fork k are = record {
  same = fork k are ∙ ap (λ (cs : List Fork). closed w.variables B cs (outcome_at w k f B)) (sym q);
  walked = other-walked w bound B p e f k are;
}

-- an IF at one level more is that of its parts
branch_open : (w : Walk) (bound k : ℕ) (B : VariableSet) (at : Place) (l : Level) (p e f : Term) → is_taken w.which l ≡ true → outcome_at w (suc k) (Placed at l (term.If p e f)) B ≡ branch_at w k B p e f
branch_open w bound k B at l p e f taken = ap (form_outcome (setting_of w) k (outcome_at w k) (Placed at l (term.If p e f)) B) (form-of (setting_of w) zero at l (term.If p e f) taken)

parts_of_if : (w : Walk) (bound k : ℕ) (at : Place) (l : Level) (p e f : Term) → is_taken w.which l ≡ true → IsWalked w bound (suc k) (Placed at l (term.If p e f)) → AreWalked w bound k (p ∷ e ∷ f ∷ [])
parts_of_if w bound k at l p e f taken walked = let row : IsRow w bound k at (term.If p e f) = row-in w bound k at l (term.If p e f) taken walked in record { ready = row.ready; within = row.within; fit = row.fit }

module _ (w : Walk) (bound : ℕ) (B : VariableSet) (p e f : Term) (forks : List Fork) (last : Term) (way : BranchWay w bound B p e f forks last) where
  module _ (at : Place) (l : Level) (q g h : Term) (taken : is_taken w.which l ≡ true) (is : last ≡ Placed at l (term.If q g h)) where
    abbrev Inner : Term
    Inner = Placed at l (term.If q g h)

    inner-so : (k : ℕ) → AreWalked w bound k (p ∷ e ∷ f ∷ []) → IsBranchSo w bound k B (branch_at w k B p e f) forks Inner
    inner-so k are = subst (λ (z : Term). IsBranchSo w bound k B (branch_at w k B p e f) forks z) is (way k are)

    next_so : (k : ℕ) (new : List Fork) (c : Fork) (whole : FormOutcome) → new ≡ forks ++ c ∷ [] → IsFork w bound B q g h c → IsBranchSo w bound k B whole forks Inner → IsBranchSo w bound k B whole new h
    next_so zero new c whole pushed fork so = absurd so.walked.fits.ends
    next_so (suc k) new c whole pushed fork so =
        let are : AreWalked w bound k (q ∷ g ∷ h ∷ []) = parts_of_if w bound k at l q g h taken so.walked in
        let inner : IsWalked w bound k h = other-walked w bound B q g h k are in
        let ends : Ends (table_of w) (suc k) h = ends-more (table_of w) k h inner.fits.ends in
        let later : outcome_at w k h B ≡ outcome_at w (suc k) h B = outcome-same (setting_of w) k (suc k) h B inner.fits.orderly inner.fits.ends ends in
        record {
          same =
              so.same ∙ ap (closed w.variables B forks) (branch_open w bound k B at l q g h taken ∙ fork k are ∙ ap (λ (z : FormOutcome). next z (λ D. together w.variables B (fork_arms c D))) later)
              ∙ sym (closed-pushed w.variables B forks c (outcome_at w (suc k) h B)) ∙ ap (λ (cs : List Fork). closed w.variables B cs (outcome_at w (suc k) h B)) (sym pushed);
          walked = record { ready = inner.ready; within = inner.within; fits = record { below = inner.fits.below; orderly = inner.fits.orderly; ends = ends } };
        }

    pub branch-next : (new : List Fork) (c : Fork) → new ≡ forks ++ c ∷ [] → IsFork w bound B q g h c → BranchWay w bound B p e f new h
    branch-next new c pushed fork k are = next_so k new c (branch_at w k B p e f) pushed fork (inner-so k are)

    stop_so : (k : ℕ) (s : FormFault) (whole : FormOutcome) → ForkStops w bound B q g h s → IsBranchSo w bound k B whole forks Inner → Stops s whole
    stop_so zero s whole stops so = absurd so.walked.fits.ends
    stop_so (suc k) s whole stops so =
        stops-along s (closed w.variables B forks (branch_at w k B q g h)) whole (so.same ∙ ap (closed w.variables B forks) (branch_open w bound k B at l q g h taken))
        (closed-stops w.variables B forks s (branch_at w k B q g h) (stops k (parts_of_if w bound k at l q g h taken so.walked)))

    pub branch-stop : (s : FormFault) → ForkStops w bound B q g h s → SaysAnywhere w bound B (term.If p e f) (Err s)
    branch-stop s stops p_at m t k row = let are : AreWalked w bound k (p ∷ e ∷ f ∷ []) = record { ready = row.ready; within = row.within; fit = row.fit } in stop_so k s (branch_at w k B p e f) stops (inner-so k are)

  pub branch-end : (r : Result ℕ FormFault) → SaysClosed w bound B forks last r → SaysAnywhere w bound B (term.If p e f) r
  branch-end r says at l taken k row =
      let so : IsBranchSo w bound k B (branch_at w k B p e f) forks last = way k record { ready = row.ready; within = row.within; fit = row.fit } in
      says-along r (closed w.variables B forks (outcome_at w k last B)) (branch_at w k B p e f) so.same (says k so.walked)

pub last-closed : (w : Walk) (bound : ℕ) (B : VariableSet) (forks : List Fork) (last : Term) (c : ℕ) (r : Result ℕ FormFault) → SaysFixed w bound B last (Ok c) → Says r (closed w.variables B forks (Ok (shown c))) → SaysClosed w bound B forks last r
last-closed w bound B forks last c r says ends k walked =
    says-along r (closed w.variables B forks (Ok (shown c))) (closed w.variables B forks (outcome_at w k last B)) (ap (closed w.variables B forks) (says k walked)) ends

pub last-stops : (w : Walk) (bound : ℕ) (B : VariableSet) (forks : List Fork) (last : Term) (s : FormFault) → SaysFixed w bound B last (Err s) → SaysClosed w bound B forks last (Err s)
last-stops w bound B forks last s says k walked = closed-stops w.variables B forks s (outcome_at w k last B) (says k walked)

pub branch-first : (w : Walk) (bound : ℕ) (B : VariableSet) (p e f : Term) (s : FormFault) → ForkStops w bound B p e f s → SaysAnywhere w bound B (term.If p e f) (Err s)
branch-first w bound B p e f s stops at l taken k row = stops k record { ready = row.ready; within = row.within; fit = row.fit }
