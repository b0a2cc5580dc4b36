-- What tokens are read as is one, and not refused.
use Rattle.std.proofs.Common.{◌≡◌, List, subst}
use Rattle.reading_tokens.specs.declared.token.Token.{Token}
use Rattle.reading_trees.specs.declared.module.Module.{Module}
use Rattle.reading_trees.specs.Laid.{NeverBoth, OneLaid}
use Rattle.reading_trees.specs.Modules.{SpellsModule}
use Rattle.reading_modules.specs.declared.fault.LoadWhy.{LoadWhy}
use Rattle.reading_modules.specs.declared.fault.LoadWhy.TheVariants.{Read, Lex, Lay, Parse, Cycle, TooMany, Twice, WrongName, Nested}
use Rattle.reading_units.specs.LawsOfModules.{OneModule, ShallowNotRefused}
use Rattle.reading_units.specs.Refusals.{ShallowWholeModule}
use Rattle.reading_laws.proofs.Texts.{refused_never}
use Rattle.reading_wide_modules.specs.Alone.{ReadAs, RefusedFor}

pub read_never : OneLaid → NeverBoth → ShallowNotRefused → (tokens : List Token) (m : Module) (why : LoadWhy) → ReadAs tokens m → RefusedFor tokens why → ⊥
read_never one never deep tokens m (Lay at) h r = never tokens h.laid at h.marked r
read_never one never deep tokens m (Parse fault) h r =
    let same : h.laid ≡ r.0 = one tokens h.laid r.0 h.marked r.1 in
    refused_never deep m r.0 fault (subst (λ v. SpellsModule m v) same h.spells) (subst (λ v. ShallowWholeModule v) same h.shallow) r.2.0 r.2.1
read_never one never deep tokens m (Lex why at) h r = r
read_never one never deep tokens m (Read file fault) h r = r
read_never one never deep tokens m (Cycle names) h r = r
read_never one never deep tokens m (TooMany name) h r = r
read_never one never deep tokens m (Twice name later earlier) h r = r
read_never one never deep tokens m (WrongName name at) h r = r
read_never one never deep tokens m (Nested name at) h r = r

pub read_same : OneLaid → OneModule → (tokens : List Token) (m n : Module) → ReadAs tokens m → ReadAs tokens n → m ≡ n
read_same laid one tokens m n h g =
    let same : h.laid ≡ g.laid = laid tokens h.laid g.laid h.marked g.marked in
    one g.laid m n (subst (λ v. SpellsModule m v) same h.spells) g.spells
