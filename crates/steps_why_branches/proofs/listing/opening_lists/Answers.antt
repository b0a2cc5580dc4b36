use Rattle.std.proofs.Common.{refl}
use Rattle.std.specs.Prelude.{[], Ok, Err}
use Rattle.actions_meanings.specs.Holds.{all_of, one_of}
use Rattle.steps_found_states.specs.Laws.{form_of}
use Rattle.steps_why_branches.proofs.FoundParts.{of_opening, opened_all, opened_choice, opened_none, opened_part, opened_refused}
use Rattle.steps_why_branches.proofs.FoundChanges.{changing_found}
use Rattle.steps_why_branches.proofs.listing.opening_lists.Goals as goal

pub returns-clause-openings : goal.returns-clause-openings
returns-clause-openings c = λ g sp k d b a p l w now. (
  λ es xs h m. of_opening g sp k l d b a p w now (form_of g b a) refl (Ok (all_of es)) h xs (opened_all g sp k l d b a p w now (form_of g b a) refl es h xs m),
  λ es xs i h one m. of_opening g sp k l d b a p w now (form_of g b a) refl (Ok (one_of es)) h xs (opened_choice g sp k l d b a p w now (form_of g b a) refl i es h xs one m),
  λ i h. of_opening g sp k l d b a p w now (form_of g b a) refl (Ok (one_of [])) h _ (opened_none g sp k l d b a p w now (form_of g b a) refl i h),
  λ e xs i h m. of_opening g sp k l d b a p w now (form_of g b a) refl (Ok (one_of _)) h xs (opened_part g sp k l d b a p w now (form_of g b a) refl i e h xs m),
  λ f h. of_opening g sp k l d b a p w now (form_of g b a) refl (Err f) h _ (opened_refused g sp k l d b a p w now (form_of g b a) refl f h),
)

pub returns-clause-changes : goal.returns-clause-changes
returns-clause-changes c = λ g sp k d b a p l w now e v zs ys i h m. changing_found g sp k l d b a p w now e v i zs ys h m
