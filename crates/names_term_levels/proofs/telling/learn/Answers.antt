use Rattle.std.proofs.Common.{◌≡◌, ◌∙◌, ap, length, subst, sym}
use Rattle.std.specs.Prelude.{◌||◌, List, Bool}
use Rattle.names_term_parts.specs.Marks.{Absorbs}
use Rattle.names_term_levels.specs.declared.note.Note.{Note}
use Rattle.names_term_levels.proofs.Rereading.{learnt}
use Rattle.names_term_levels.proofs.telling.learn.Goals as goal
use Rattle.names_term_levels.proofs.telling.learn.Goals.{then-note, else-note}

pub returns : goal.returns
returns c =
    let old = c.args.note.now in
    let told = c.args.told.now in
    let occurs = subst (λ (v : List Bool). Absorbs (length told.occurs) old.occurs told.occurs v) (sym (ap (λ (n : Note). n.occurs) c.read_fault.ensures)) c.in_ok-join.ensures in
    let primed = subst (λ (v : List Bool). Absorbs (length told.primed) old.primed told.primed v) (sym (ap (λ (n : Note). n.primed) c.read_fault.ensures)) c.in_ok-join-2.ensures in
    let kept : c.read_fault.new.note.fair ≡ old.fair = ap (λ (n : Note). n.fair) c.read_fault.ensures in
    let fair : c.if-note.note ≡ (old.fair || told.fair) = elim c.if-note.branch [
      | then-note w ↦ w.note-is ∙ w.if-note.true ∙ ap (λ b. b || told.fair) (sym w.if-note.true ∙ kept)
      | else-note w ↦ w.note-is ∙ ap (λ b. b || told.fair) (sym w.if-note.false ∙ kept)
    ] in
    learnt old told (record { occurs = c.read_fault.new.note.occurs; primed = c.read_fault.new.note.primed; fault = c.read_fault.new.note.fault; fair = c.if-note.note })
    occurs primed (ap (λ (n : Note). n.fault) c.read_fault.ensures) fair
