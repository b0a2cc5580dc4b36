-- From what resolving answers to a specification, or to the report of a refusal.
use Rattle.std.proofs.Common.{◌≡◌, ◌∙◌, ◌<◌, sym, subst, ap, ℕ, List, Option, Some, length}
use Rattle.std.specs.Prelude.{Bool, slice_get}
use Rattle.std.proofs.lemmas.Option.{same_Some, slice_get_within}
use Rattle.reading_trees.specs.declared.config.Config.{Config}
use Rattle.reading_trees.specs.declared.module.Program.{Program}
use Rattle.reading_modules.specs.declared.notes.Noted.{Noted}
use Rattle.names_resolving.specs.declared.fault.ResolveFault.{ResolveFault}
use Rattle.reading_wide_modules.specs.declared.unread.Unread.{Unread}
use Rattle.run_wide.specs.Answers.{IsResolutionFault}
use Rattle.run_wide.specs.declared.resolution.ResolutionFault.{ResolutionFault}
use Rattle.run_wide.specs.declared.resolution.ResolutionFault.TheVariants.{Names, Piece}
use Rattle.run_texts.specs.Modules.{piece_refusal}
use Rattle.run_texts.specs.Resolved.{names_refusal}
use Rattle.run_reading_defs.specs.Refusals.{all_files}
use Rattle.run_stages.specs.Resolving.{IsUnresolved, by_a_piece, by_names}

module _ (wide : Bool) (p : Program) (c : Config) (silent : Option (List ℕ)) (unread : List (Noted Unread)) where
  as_report : (report other : List ℕ) → report ≡ other → IsUnresolved wide p c silent unread other → IsUnresolved wide p c silent unread report
  as_report report other e h = subst (λ (r : List ℕ). IsUnresolved wide p c silent unread r) (sym e) h

  pub fault_is : (other : Option (List ℕ)) (fault given : ResolutionFault) → other ≡ silent → fault ≡ given → IsResolutionFault wide p c other unread fault
      → IsResolutionFault wide p c silent unread given
  fault_is other fault given e f h =
      subst (λ (s : Option (List ℕ)). IsResolutionFault wide p c s unread given) e (subst (λ (x : ResolutionFault). IsResolutionFault wide p c other unread x) f h)

  pub piece_stands : (index : ℕ) (root : List ℕ) → IsResolutionFault wide p c silent unread (Piece index root) → index < length unread
  piece_stands index root h = slice_get_within unread index h.1.piece h.1.stands

  pub unresolved_names : (q : Program) (d : Config) (fault : ResolveFault) (report : List ℕ) → IsResolutionFault wide p c silent unread (Names q d fault)
      → report ≡ names_refusal (all_files q d) fault → IsUnresolved wide p c silent unread report
  unresolved_names q d fault report h e = as_report report (names_refusal (all_files q d) fault) e (by_names q d fault h.0 h.1)

  pub unresolved_piece : (index : ℕ) (root : List ℕ) (piece : Noted Unread) (report : List ℕ) → IsResolutionFault wide p c silent unread (Piece index root)
      → slice_get unread index ≡ Some piece → report ≡ piece_refusal p.files piece.note.why root → IsUnresolved wide p c silent unread report
  unresolved_piece index root piece report h at e =
      let same : Some piece ≡ Some h.1.piece = sym at ∙ h.1.stands in
      as_report report (piece_refusal p.files h.1.piece.note.why root) (e ∙ ap (λ (n : Noted Unread). piece_refusal p.files n.note.why root) (same_Some piece h.1.piece same))
      (by_a_piece index root h.0 h.1)
