use Rattle.std.proofs.Common.{◌≡◌, ◌∙◌, ◌++◌, ◌∷◌, ◌+◌, ◌<◌, [], ℕ, ap, sym, subst, refl, arith, rules, length, false, true, get_or}
use Rattle.std.specs.Prelude.{List, Some, slice_get}
use Rattle.std.proofs.lemmas.List.{length_push}
use Rattle.std.proofs.lemmas.Option.{slice_get_read}
use Rattle.names_terms.specs.declared.operator.Operator.{Operator}
use Rattle.actions_early_reads.specs.declared.reading.Reads.{Reads}
use Rattle.actions_early_reads.specs.Keeping.{AreKept, TellsReads}
use Rattle.actions_early_reads.specs.Sets.{shown}
use Rattle.actions_early_reads.proofs.Found.{kept-more}
use Rattle.actions_early_reads.proofs.reading.all_reads.Goals as goal

pub loop-operator-preserved : goal.loop-operator-preserved
loop-operator-preserved c =
    let kept : List Reads = c.loop-operator.kept.items in
    let o : Operator = c.operator-item.result in
    let r : Reads = record { plain = c.in_ok-plain.plain; primed = c.in_ok-primed.primed } in
    let pushed : c.push.new.self.items ≡ kept ++ r ∷ [] = search rules in
    let at : slice_get c.args.operators.now (length kept) ≡ Some o = at_index c.args.operators.now c.items-operator-items.result.now kept c.loop-operator.operator-index o c.items-operator-items.ensures c.loop-operator.invariant.0 (omega (arith, c.loop-operator-test.true)) c.operator-item.is in
    let plain : TellsReads kept false o.body (shown r.plain) = subst (λ (ks : List Reads). TellsReads ks false o.body (shown r.plain)) c.deref.ensures.value c.in_ok-plain.ensures in
    let primed : TellsReads kept true o.body (shown r.primed) = subst (λ (ks : List Reads). TellsReads ks true o.body (shown r.primed)) c.deref-in-loop-operator.ensures.value c.in_ok-primed.ensures in (
      ap length pushed ∙ length_push kept r ∙ ap (λ (n : ℕ). n + 1) c.loop-operator.invariant.0,
      (λ v few. subst (λ (ks : List Reads). AreKept c.args.operators.now v ks) (sym pushed) (kept-more c.args.operators.now v kept o r c.requires.smaller few at plain primed (c.loop-operator.invariant.1 v few))),
    )
  where
    at_index : (ops items : List Operator) (kept : List Reads) (i : ℕ) (o : Operator) → items ≡ ops → length kept ≡ i → i < length items → o ≡ get_or items i o → slice_get ops (length kept) ≡ Some o
    at_index ops items kept i o same n lt is = ap (λ (k : ℕ). slice_get ops k) n ∙ ap (λ (xs : List Operator). slice_get xs i) (sym same) ∙ slice_get_read items (length items) i o refl lt is
