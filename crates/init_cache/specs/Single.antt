-- For contracts of private functions and for proofs: what is seen of a frame without an accepted container.
use Rattle.std.specs.Prelude.{List, ℕ, length, Option}
use Rattle.init_cache.specs.Verdicts.{start_verdicts, count_valid}
use Rattle.init_cache.specs.declared.head.FrameHead.{FrameHead}
use Rattle.init_cache.specs.declared.verdicts.SequenceStart.{SequenceStart}
use Rattle.init_cache.specs.declared.seen.Seen.{Seen}

-- from its head, and the record that starts a sequence, if it has one
abbrev pub seen_single : FrameHead → Option SequenceStart → List ℕ → Seen
seen_single h s p =
    record { head = h; tracks = 0; packet_type = 0; records = length (start_verdicts p s); valid_records = count_valid (start_verdicts p s) }
