-- `fourcc::audio_codec` meets its contract. The loop's invariant: the codec in what is left of the table is the codec in all of it.
use mathlib.Core.Path.{refl, sym, ◌∙◌}
use native.Mathlib.Omega.{arith}
use Rattle.fourcc.specs.Fourcc.{audio_codec_table, audio_codec}
use Rattle.fourcc.proofs.Laws.{codec_here, codec_later, codec_nowhere, with_numbers}
use Rattle.fourcc.proofs.audio_codec.Goals as goal

pub loop-i-init : goal.loop-i-init
unfolding audio_codec
loop-i-init c = (omega arith, refl)

pub returns-then-same_fourcc : goal.returns-then-same_fourcc
unfolding audio_codec_table
returns-then-same_fourcc c =
    let it = with_numbers _ _
    (codec_here _ c.loop-i.i c.loop-i.invariant.1 (omega arith)
    (sym c.same_fourcc.ensures ∙ c.if-same_fourcc.true)) in
    record { meaning = it.0; numbers = it.1 }

pub loop-i-preserved : goal.loop-i-preserved
unfolding audio_codec_table
loop-i-preserved c = (
  omega arith,
  codec_later _ c.loop-i.i c.loop-i.invariant.1 (omega arith)
      (sym c.same_fourcc.ensures ∙ c.if-same_fourcc.false),
)

pub returns : goal.returns
returns c =
    let it = with_numbers _ _ (codec_nowhere _ c.loop-i.i c.loop-i.invariant.1 (omega arith)) in
    record { meaning = it.0; numbers = it.1 }
