-- `fourcc::audio_codec` meets its contract. The loop's invariant: the codec in what is left of the table is the codec in all of it.
use mathlib.Core.Path.{◌≡◌}
use Prim.Native.Nat.{◌-◌, ◌≤◌}
use lib.ListN.{drop}
use Rattle.fourcc.specs.Fourcc.{audio_codec_table, audio_codec, codec_in}
use Rattle.fourcc.proofs.audio_codec.Given as goal

abbrev pub invariant-loop-i : goal.invariant-loop-i
invariant-loop-i l = (l.i ≤ 7) × (codec_in (drop l.i audio_codec_table) l.fourcc ≡ audio_codec l.fourcc)

abbrev pub decreases-loop-i : goal.decreases-loop-i
decreases-loop-i l = 7 - l.i
