-- The laws for specifications.
use Rattle.std.proofs.Common.{◌≡◌, ◌≢◌, ◌⊎◌, inl, inr, ℕ, ◌≤◌, List, length, Some, ap, sym, ◌∙◌, arith}
use Rattle.std.specs.List.{slice_get}
use Rattle.base_core.specs.declared.place.LineAt.{LineAt}
use Rattle.logs_updates.specs.declared.line.Line.{Line}
use Rattle.steps_lines_defs.specs.Logs.{place_of_line}
use Rattle.base_cuts.proofs.Growing.{nat_lt_or}
use Rattle.base_cuts.proofs.Rules.{inside, place}
use Rattle.steps_tied.specs.Languages.{language}
use Rattle.steps_tied.specs.Laws.{BehavioursAreNamed, CutsAreReached, RunsOverOrders, WrongIsUnready}
use Rattle.steps_tied.proofs.Keeping.{behaviours_named}
use Rattle.steps_tied.proofs.Ties.{cuts_reached, from_orders, to_orders}
use Rattle.logs_tied.proofs.Marked.{unready_is_wrong}

pub runs_over_orders : RunsOverOrders
runs_over_orders g logs asked tied n j e w = (
  λ r. let h = to_orders (language g logs.init asked) logs.files.items logs.order tied.made tied.sizes n j e w r in
      record { order = h.order; lines = h.lines; lined = h.lined; cut = h.cut; run = h.run },
  λ r. from_orders (language g logs.init asked) logs.files.items logs.order tied.made tied.sizes n j e w
      (record { order = r.order; lines = r.lines; lined = r.lined; cut = r.cut; run = r.run }),
)

pub cuts_are_reached : CutsAreReached
cuts_are_reached g logs asked tied n j e w r = cuts_reached (language g logs.init asked) logs.files.items logs.order tied.made tied.sizes n j e w r

pub behaviours_are_named : BehavioursAreNamed
behaviours_are_named g logs asked tied w quiet b =
    let h = behaviours_named (language g logs.init asked) logs.files.items logs.order tied.made tied.sizes w quiet b in
    record { order = h.order; lines = h.lines; lined = h.lined; keeps = h.keeps; faultless = h.faultless; behaves = h.behaves }

-- the place is not that of the line of that number, if there is one
abbrev IsOther : List Line → ℕ → LineAt → Type 0
IsOther lines n at = (line : Line) → slice_get lines n ≡ Some line → at ≢ line.at

to_other : (lines : List Line) (n : ℕ) (at : LineAt) → (length lines ≤ n) ⊎ (at ≢ place_of_line (slice_get lines n)) → IsOther lines n at
to_other lines n at (inl h) line e same = let b = inside lines n line e in omega (arith, h, b)
to_other lines n at (inr h) line e same = h (same ∙ sym (ap place_of_line e))

from_other : (lines : List Line) (n : ℕ) (at : LineAt) → IsOther lines n at → (length lines ≤ n) ⊎ (at ≢ place_of_line (slice_get lines n))
from_other lines n at h = elim (nat_lt_or n (length lines)) [
  | inl less ↦ let there = place lines n less in inr (λ same. h there.0 there.1 (same ∙ ap place_of_line there.1))
  | inr over ↦ inl over
]

pub wrong_is_unready : WrongIsUnready
wrong_is_unready g logs asked tied w order lines lined keeps n s t at named =
    let law = unready_is_wrong logs.files.items logs.order tied.made w order lines lined keeps n at named in
    (λ h. law.0 (to_other lines n at h), λ h. from_other lines n at (law.1 h))
