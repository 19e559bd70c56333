-- `g711::sound_level` meets its contract: no sample, A-law, mu-law, any other format.
use mathlib.Core.Path.{sym}
use native.Mathlib.Omega.{arith}
use Rattle.std.proofs.lemmas.Int.{ints}
use Rattle.g711.proofs.Levels.{no_sample, in_a_law, in_mu_law, in_neither}
use Rattle.g711.proofs.sound_level.Goals as goal

pub returns-then-payload-lt2 : goal.returns-then-payload-lt2
returns-then-payload-lt2 c = sym (no_sample _ c.if-payload-lt2.true)

pub overflow_cast-result : goal.overflow_cast-result
overflow_cast-result c =
    let p = c.args.payload.now in
    grind (arith, ints, in_a_law p c.type_inv.payload, in_mu_law p c.type_inv.payload, in_neither p)

pub returns : goal.returns
returns c =
    let p = c.args.payload.now in
    grind (arith, ints, in_a_law p c.type_inv.payload, in_mu_law p c.type_inv.payload, in_neither p)
