-- What is told behind a report.
use Rattle.std.proofs.Common.{◌≡◌, ◌∙◌, ap, ℕ, List, ◌++◌, append_assoc, Option, Some, None, All, slice_get, length}
use Rattle.std.specs.List.Sorted.{IsPermutation, IsSorted}
use Rattle.std.specs.List.{Contains}
use Rattle.std.proofs.lemmas.List.Elements.{All-contains_itself, All-weaker}
use Rattle.std.proofs.lemmas.List.Sorted.{All-permutation, Contains-permutation, IsPermutation-sym}
use Rattle.states_core.specs.StateOrder.{state_cmp}
use Rattle.states_core.specs.States.{Values}
use Rattle.names_terms.specs.declared.spec.Spec.{Spec}
use Rattle.logs_updates.specs.declared.line.Line.{Line}
use Rattle.logs_updates.specs.declared.line.Log.{Log}
use Rattle.steps_lines_defs.specs.Logs.{Asked, system}
use Rattle.steps_lines_defs.specs.Says.{IsState}
use Rattle.states_layers.specs.Gives.{IsReached}
use Rattle.run_texts.specs.Answers.{Named}
use Rattle.run_near_lines.specs.Tells.{TellsNear}
use Rattle.run_why.specs.Ends.{EndsAt, IsReachedBySome}
use Rattle.run_why.specs.Reports.{IsAsked, IsToldBehind}
use Rattle.run_why.specs.Telling.{GoesOn}
use Rattle.run_why.specs.Tells.{AreInOrder, LeadsNowhere, Tells, TellsNears, TellsWhy}
use Rattle.run_why.specs.Within.{TellsWithin}
use Rattle.run_why.proofs.Reaching.{within_same}

-- what a line leads nowhere from is a state
pub are_states : (g : Spec) (line : Line) (entries : List Values) → All (LeadsNowhere g line) entries → All (IsState (length g.variables)) entries
are_states g line entries nowhere = All-weaker (LeadsNowhere g line) (IsState (length g.variables)) (λ s h. h.state) entries nowhere

behind_each : (front whys nears withins t0 t1 t2 t3 : List ℕ) → t0 ≡ front → t1 ≡ t0 ++ whys → t2 ≡ t1 ++ nears → t3 ≡ t2 ++ withins → t3 ≡ front ++ (whys ++ (nears ++ withins))
behind_each front whys nears withins t0 t1 t2 t3 e f h i =
    i ∙ ap (λ (t : List ℕ). t ++ withins) (h ∙ ap (λ (t : List ℕ). t ++ nears) (f ∙ ap (λ (t : List ℕ). t ++ whys) e)) ∙ append_assoc (front ++ whys) nears withins
    ∙ append_assoc front whys (nears ++ withins)

module _ (g : Spec) (log : Log) (a : Asked) (l : Named) (n : ℕ) (line : Line) (is_line : slice_get log.lines n ≡ Some line) (last entries : List Values) (ends : EndsAt g log a n last)
    (same : IsPermutation last entries) (ascend : IsSorted state_cmp entries) where
  all_in_order : AreInOrder (IsReached (system g log a) n) entries
  all_in_order = record { listed = last; all = ends.all; same = same; ascend = ascend }

  whys_of : (why : Option ℕ) (told : List ℕ) → IsAsked why (λ most. Tells g line l most entries) told → IsAsked why (TellsWhy g log a l n) told
  whys_of None told h = h
  whys_of (Some most) told h = record { line = line; is_line = is_line; entries = entries; are = all_in_order; told = h }

  nears_of : (near : Option ℕ) (told : List ℕ) → IsAsked near (λ most. TellsNear g line l most entries) told → IsAsked near (TellsNears g log a l n) told
  nears_of None told h = h
  nears_of (Some most) told h = record { line = line; is_line = is_line; entries = entries; are = all_in_order; told = h }

  withins_of : (near : Option ℕ) (told : List ℕ) → IsAsked near (λ most. TellsWithin g a (Contains entries)) told → IsAsked near (λ most. TellsWithin g a (IsReached (system g log a) n)) told
  withins_of None told h = h
  withins_of (Some most) told h =
      within_same g a (Contains entries) (IsReached (system g log a) n) told
      (λ s has. ends.all.are.members s (Contains-permutation entries last s (IsPermutation-sym last entries same) has)) (λ s reached. Contains-permutation last entries s same (ends.all.all s reached)) h

  -- all of it behind a report
  pub all_behind : (why near : Option ℕ) (front t0 t1 t2 t3 : List ℕ) → t0 ≡ front → GoesOn why (λ most. Tells g line l most entries) t0 t1
      → GoesOn near (λ most. TellsNear g line l most entries) t1 t2 → GoesOn near (λ most. TellsWithin g a (Contains entries)) t2 t3
      → IsToldBehind g log a l n why near front t3
  all_behind why near front t0 t1 t2 t3 is whys nears withins = record {
    whys = whys.0;
    nears = nears.0;
    withins = withins.0;
    why_told = whys_of why whys.0 whys.1;
    near_told = nears_of near nears.0 nears.1;
    within_told = withins_of near withins.0 withins.1;
    is = behind_each front whys.0 nears.0 withins.0 t0 t1 t2 t3 is whys.2 nears.2 withins.2;
  }

  -- each of the entries is reached
  pub all_reached : All (IsReachedBySome g log a) entries
  all_reached =
      All-permutation (IsReachedBySome g log a) last entries same
      (All-weaker (Contains last) (IsReachedBySome g log a) (λ s has. record { lines = n; reached = ends.all.are.members s has }) last (All-contains_itself last))
