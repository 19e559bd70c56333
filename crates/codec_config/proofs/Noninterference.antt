-- What the sealed bytes of a record hold changes neither its verdict nor its mask.
use mathlib.Core.Path.{◌≡◌, ap}
use mathlib.Core.List.{List}
use Prim.Native.Nat.{ℕ}
use Rattle.wire.specs.Mask.{LowEquivalent, sealed_at}
use Rattle.wire.specs.Grammar.{Noninterfering, accepted, mask_of}
use Rattle.wire.proofs.Grammars.{noninterference, grammar_alike}
use Rattle.codec_config.specs.Records.{record_grammar, record_valid, record_mask}
use Rattle.codec_config.specs.declared.ConfigCodec.{ConfigCodec}
use Rattle.codec_config.specs.declared.ConfigCodec.TheVariants.{Avc, Hevc, Opaque, Aac, Opus}
use Rattle.codec_config.proofs.Avc.{avc_holds}
use Rattle.codec_config.proofs.Hevc.{hevc_holds}

pub record_holds : (codec : ConfigCodec) → Noninterfering (record_grammar codec)
unfolding record_grammar
record_holds Avc = avc_holds
record_holds Hevc = hevc_holds
record_holds Opaque = search noninterference
record_holds Aac = search noninterference
record_holds Opus = search noninterference

-- THE TWO-RUN LAW: a record q that agrees with p outside the bytes sealed in p
module _ (codec : ConfigCodec) (p q : List ℕ) (a : LowEquivalent (sealed_at (record_mask codec p)) p q) where
  same_grammar : record_grammar codec q ≡ record_grammar codec p
  unfolding record_mask
  same_grammar = grammar_alike (record_grammar codec) (record_holds codec) p q a

  pub valid_alike : record_valid codec q ≡ record_valid codec p
  unfolding record_valid
  valid_alike = ap accepted same_grammar

  pub mask_alike : record_mask codec q ≡ record_mask codec p
  unfolding record_mask
  mask_alike = ap mask_of same_grammar
