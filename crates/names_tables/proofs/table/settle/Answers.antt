use Rattle.std.proofs.Common.{◌∙◌, sym, ap, ℕ, List}
use Rattle.std.specs.Prelude.{Option}
use Rattle.names_program.specs.Names.{numbers_of}
use Rattle.names_tables.proofs.Filling.{never_none, same_number}
use Rattle.names_tables.proofs.table.settle.Goals as goal

pub settle_at-requires-clause-within : goal.settle_at-requires-clause-within
settle_at-requires-clause-within c = same_number _ c.args.index c.in-Some.number c.requires.numbered (sym (c.number_at.ensures ∙ ap (λ (l : List (Option ℕ)). numbers_of l c.args.index) c.deref.ensures.value) ∙ c.in-Some.is)

pub returns : goal.returns
returns c = record {
  row = c.in-Some.number;
  numbered = sym (c.number_at.ensures ∙ ap (λ (l : List (Option ℕ)). numbers_of l c.args.index) c.deref.ensures.value) ∙ c.in-Some.is;
  settled = c.in_ok-settle_at-in-Some.ensures;
}

pub unreachable-requires : goal.unreachable-requires
unreachable-requires c = never_none _ c.args.index c.requires.numbered (sym (c.number_at.ensures ∙ ap (λ (l : List (Option ℕ)). numbers_of l c.args.index) c.deref.ensures.value) ∙ c.in-None.is)
