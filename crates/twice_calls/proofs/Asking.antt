-- Files that a call does not ask for are not seen.
use Rattle.std.proofs.Common.{◌≡◌, ◌∙◌, ◌++◌, ℕ, List, Option, Some, None, inl, inr, refl, subst, sym}
use Rattle.std.specs.Prelude.{◌⊎◌}
use Rattle.base_core.specs.Device.{File, Rose, found}
use Rattle.base_core.specs.Failures.{Failures}
use Rattle.reading_library.specs.Texts.{library}
use Rattle.run_words.specs.Words.{OneCommand}
use Rattle.run_call.specs.declared.call.Status.{Status}
use Rattle.run_call.specs.Run.{HasFailed, HoldsDevice, HoldsPart, HoldsReport, NamesFailure, nothing, of_device, of_report}
use Rattle.twice_calls.specs.Unseen.{CallsSo, UnaskedAreUnseen}
use Rattle.run_library.specs.Behind.{files_behind, files_in}
use Rattle.run_library.specs.Calls.{LibraryAt, RunEnds, has_run, wants_memory}
use Rattle.run_library.proofs.Found.{found_behind, found_first}
use Rattle.twice_calls.specs.Library.{EndsAlso, UnaskedOwnAreUnseen}
use Rattle.twice_calls.proofs.Places.{one_folder}

-- ---- files of which the same is told

abbrev or_else : Option (List ℕ) → Option (List ℕ) → Option (List ℕ)
or_else (Some bytes) rest = Some bytes
or_else None rest = rest

found_both : (name : List ℕ) (files others : List File) (o : Option (List ℕ)) → found name files ≡ o → found name (files ++ others) ≡ or_else o (found name others)
found_both name files others (Some bytes) is = found_first name bytes files others is
found_both name files others None is = found_behind name files others is

pub same_behind : (folder : Option (List ℕ)) (name : List ℕ) (files others : List File) → found name others ≡ found name files
    → found name (files_behind folder others) ≡ found name (files_behind folder files)
same_behind None name files others same = same
same_behind (Some f) name files others same =
    found_both name others (files_in f library) (found name files) same ∙ sym (found_both name files (files_in f library) (found name files) refl)

-- ---- a call ends in the same ways

module _ (words : List (List ℕ)) (files others : List File) (so : CallsSo words files others) where
  report_so : (before now : ℕ) (end : Status) (old new : Option (List ℕ)) → HoldsReport words (Some files) before now end old new → HoldsReport words (Some others) before now end old new
  report_so before now end old new h = (h.0, so.calls before now end h.0 h.1, h.2)

  device_so : (old new : Option (List ℕ)) → HoldsDevice words (Some files) old new → HoldsDevice words (Some others) old new
  device_so old new h = (h.0, so.asks h.0 h.1, h.2)

  part_so : (before now : ℕ) (old new : Option (List ℕ)) → HoldsPart words (Some files) before now old new → HoldsPart words (Some others) before now old new
  part_so before now old new (nothing h) = nothing h
  part_so before now old new (of_report end report runs h) = of_report end report (so.calls before now end report runs) h
  part_so before now old new (of_device name wanted h) = of_device name (so.asks name wanted) h

  failed_so : (before now out_before out_now : ℕ) (old new : Option (List ℕ)) → HasFailed words (Some files) before now out_before out_now old new
      → HasFailed words (Some others) before now out_before out_now old new
  failed_so before now out_before out_now old new (inl rose) = inl rose
  failed_so before now out_before out_now old new (inr h) = inr (h.0, device_so old new h.1)

  named_so : (out_before out_now : ℕ) (first last : Failures) (old new : Option (List ℕ)) → Rose out_before out_now ⊎ NamesFailure words (Some files) first last old new
      → Rose out_before out_now ⊎ NamesFailure words (Some others) first last old new
  named_so out_before out_now first last old new (inl rose) = inl rose
  named_so out_before out_now first last old new (inr h) = inr (record { name = h.name; wanted = so.asks h.name h.wanted; failed = h.failed; line = h.line })

  ends_so : (before now out_before out_now : ℕ) (first last : Failures) (old new : Option (List ℕ)) (end : Status)
      → RunEnds words (Some files) before now out_before out_now first last old new end → RunEnds words (Some others) before now out_before out_now first last old new end
  ends_so before now out_before out_now first last old new end h = record {
    report = λ a b. report_so before now end old new (h.report a b);
    part = part_so before now old new h.part;
    device = λ a. failed_so before now out_before out_now old new (h.device a);
    named = λ a. named_so out_before out_now first last old new (h.named a);
    quiet = h.quiet;
  }

also : OneCommand → (words : List (List ℕ)) (folder : Option (List ℕ)) (files others : List File) → LibraryAt words folder
    → CallsSo words (files_behind folder files) (files_behind folder others) → EndsAlso words files others
also one words folder files others at so before now out_before out_now first last old new _ (has_run other end stands h) =
    let same : other ≡ folder = one_folder one words other folder stands at in
    let over = subst (λ (f : Option (List ℕ)). RunEnds words (Some (files_behind f files)) before now out_before out_now first last old new end) same h in
    has_run folder end at (ends_so words (files_behind folder files) (files_behind folder others) so before now out_before out_now first last old new end over)
also one words folder files others at so before now out_before out_now first last old new _ (wants_memory reads writes none same) = wants_memory reads writes none same

pub unasked_unseen : OneCommand → UnaskedAreUnseen → UnaskedOwnAreUnseen
unasked_unseen one unseen words folder files others at tells =
    let both = unseen words (files_behind folder files) (files_behind folder others) (λ name wanted. same_behind folder name files others (tells name wanted)) in
    (also one words folder files others at both.0, also one words folder others files at both.1)
