use Rattle.std.proofs.Common.{◌≡◌, ◌∙◌, ◌<◌, ap, arith, get_or, length, refl, subst, sym}
use Rattle.std.specs.Prelude.{ℕ, List, Some, true, false, slice_get}
use Rattle.names_term_parts.specs.Slots.{MentionsBelow}
use Rattle.names_term_parts.proofs.Lists.{item_at}
use Rattle.names_term_parts.proofs.Ordering.{body_within}
use Rattle.names_term_levels.specs.declared.note.Note.{Note}
use Rattle.names_term_levels.specs.Telling.{IsToldBy, Learns}
use Rattle.names_term_levels.specs.Told.{IsNoted}
use Rattle.names_term_levels.proofs.Rereading.{more_less, more_sound, nothing_more_at, one_item}
use Rattle.names_term_levels.proofs.telling.read_again.Goals as goal

pub told_by-requires-clause-below : goal.told_by-requires-clause-below
told_by-requires-clause-below c =
    let o = get_or c.args.table.now c.args.number c.index-table-number.result in
    let is : slice_get c.args.table.now c.args.number ≡ Some o = item_at c.args.table.now c.args.number c.index-table-number.result c.requires.below in
    let all : length c.as_slice.result.now ≡ length c.args.table.now = ap length c.as_slice.ensures.value ∙ c.requires.all in
    subst (λ (m : ℕ). MentionsBelow m o.body) (sym all) (body_within c.args.table.now c.args.number o c.requires.smaller is)

pub returns-then-not-tells_more-clause-closed : goal.returns-then-not-tells_more-clause-closed
returns-then-not-tells_more-clause-closed c =
    let k = c.args.number in
    let ops = c.args.table.now in
    let ns = c.args.notes.now.items in
    let o = get_or ops k c.index-table-number.result in
    let n = c.index.result.now in
    let told = c.in_ok-told.told in
    let is : slice_get ops k ≡ Some o = item_at ops k c.index-table-number.result c.requires.below in
    let within : k < length ns = omega (arith, c.requires.all, c.requires.below) in
    let noted : slice_get ns k ≡ Some n = item_at ns k n within ∙ ap Some (sym c.index.ensures) in
    let here : IsNoted ops ns k o n = record { is = is; told = noted } in
    let tells : IsToldBy ops ns o.body told = subst (λ (xs : List Note). IsToldBy ops xs o.body told) c.as_slice.ensures.value c.in_ok-told.ensures in
    λ f. (refl {A = List Note}, nothing_more_at ops ns c.requires.all c.requires.sound k o n told here tells (λ h. absurd (let q : true ≡ false = sym (c.tells_more.ensures.1 h) ∙ c.if-not-tells_more.true in cc)))

pub returns-clause-sound : goal.returns-clause-sound
returns-clause-sound c =
    let k = c.args.number in
    let ops = c.args.table.now in
    let ns = c.args.notes.now.items in
    let o = get_or ops k c.index-table-number.result in
    let n = c.index_mut.result.now in
    let told = c.in_ok-told.told in
    let is : slice_get ops k ≡ Some o = item_at ops k c.index-table-number.result c.requires.below in
    let within : k < length ns = omega (arith, c.requires.all, c.requires.below) in
    let noted : slice_get ns k ≡ Some n = item_at ns k n within ∙ ap Some (sym c.index_mut.ensures.value) in
    let here : IsNoted ops ns k o n = record { is = is; told = noted } in
    let tells : IsToldBy ops ns o.body told = subst (λ (xs : List Note). IsToldBy ops xs o.body told) c.as_slice.ensures.value c.in_ok-told.ensures in
    more_sound ops ns c.requires.all c.requires.sound k o n told here tells c.learn.new.note c.in_ok-learn.ensures

pub returns-clause-less : goal.returns-clause-less
returns-clause-less c =
    let k = c.args.number in
    let ops = c.args.table.now in
    let ns = c.args.notes.now.items in
    let o = get_or ops k c.index-table-number.result in
    let n = c.index.result.now in
    let told = c.in_ok-told.told in
    let is : slice_get ops k ≡ Some o = item_at ops k c.index-table-number.result c.requires.below in
    let within : k < length ns = omega (arith, c.requires.all, c.requires.below) in
    let noted : slice_get ns k ≡ Some n = item_at ns k n within ∙ ap Some (sym c.index.ensures) in
    let noted_too : slice_get ns k ≡ Some c.index_mut.result.now = item_at ns k c.index_mut.result.now within ∙ ap Some (sym c.index_mut.ensures.value) in
    let here : IsNoted ops ns k o n = record { is = is; told = noted } in
    let tells : IsToldBy ops ns o.body told = subst (λ (xs : List Note). IsToldBy ops xs o.body told) c.as_slice.ensures.value c.in_ok-told.ensures in
    let learns : Learns n told c.learn.new.note = subst (λ (y : Note). Learns y told c.learn.new.note) (one_item (sym noted_too ∙ noted)) c.in_ok-learn.ensures in
    λ t. more_less ops ns c.requires.all c.requires.sound k o n told here tells c.learn.new.note learns (c.tells_more.ensures.0 c.if-not-tells_more.false)
