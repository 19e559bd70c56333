-- A container named inside a container (Enhanced RTMP v2 forbids it): what the whole pass and the track request say of such a result.
use Rattle.std.specs.Prelude.{◌≡◌, true, false, cond, ◌&&◌, List, ℕ, eqb, length}
use Rattle.std.proofs.Math.Option.{some}
use Rattle.wire.specs.Wire.{byte_at, low}
use Rattle.types.specs.Types.{is_ok, is_audio}
use Rattle.types.specs.declared.ErrorCode.TheVariants as error
use Rattle.modex.specs.Modex.{peeled}
use Rattle.modex.specs.Offsets.{chain_offset}
use Rattle.multitrack_media.specs.Container.{opens_container, own_number, Container}
use Rattle.multitrack_media.specs.Answer.{no_track}
use Rattle.init_cache.specs.Head.{tag_header}
use Rattle.init_cache.specs.Seen.{seen_with}
use Rattle.init_cache.specs.Kind.{kind_of, cache_kind}
use Rattle.init_cache.specs.declared.kind.CacheFrameKind.TheVariants.{LiveOnly}
use Rattle.delivery.specs.Hint.{hint_of, delivery_hint}
use Rattle.delivery.specs.declared.DeliveryHint.TheVariants.{ResyncPoint, Droppable}
use Rattle.frame.specs.Time.{milliseconds, nanoseconds}
use Rattle.frame.specs.Pass.{pass_error, result_report, refused_report, pass_report, track_answer}
use Rattle.frame.specs.Sealed.{sealed_in_result}
use Rattle.frame.specs.declared.Report.{Report}
use Rattle.frame.specs.declared.Verdict.TheVariants.{NoRecord}

-- byte 0 opens a container, and its tracks' packet type is that of byte 0, the container's own number
pub record NamesItself (type : ℕ) (r : List ℕ) : Type 0 where
  pub opens : opens_container type (byte_at r 0) ≡ true
  pub named : low (byte_at r 1) ≡ low (byte_at r 0)

-- its report: length, header and time as ever; no tracks and no verdict; kind 0; Droppable, or ResyncPoint in audio if the flag is 0
abbrev pub nested_report : ℕ → ℕ → ℕ → List ℕ → Report
nested_report type flag offset r =
    record {
      error = error.Ok;
      result_length = length r;
      header = tag_header type r;
      composition_time_ns = nanoseconds (milliseconds type (tag_header type r)) offset;
      tracks = 0;
      records = 0;
      valid_records = 0;
      kind = LiveOnly;
      hint = cond (is_audio type && eqb flag 0) ResyncPoint Droppable;
    }

pub record NestedTreated (type flag : ℕ) (r : List ℕ) : Type 0 where
  pub report : (offset : ℕ) → result_report type flag offset r ≡ nested_report type flag offset r
  -- -24 with count 0, whatever the number
  pub requests : (n : ℕ) → track_answer type r n ≡ record { track = no_track error.NotAContainer 0; verdict = NoRecord }
  -- nothing is sealed
  pub unsealed : (i : ℕ) → sealed_in_result type r i ≡ false
  -- kind and hint are those that a container of its packet type would have, were it accepted
  pub kinds : (c : Container) → c.packet_type ≡ own_number type → kind_of type (seen_with type r (some c)) ≡ cache_kind type r
  pub hints : (c : Container) → c.packet_type ≡ own_number type
      → hint_of type flag (seen_with type r (some c)) (kind_of type (seen_with type r (some c))) ≡ delivery_hint type flag r

-- THE CLAIM, over all frame types, route flags and results
unfoldable pub Nested : Type 0
Nested = (type flag : ℕ) (r : List ℕ) → NamesItself type r → NestedTreated type flag r

-- and of the whole pass, under every mask and with every output: it is refused as any other, or reports this of its result
unfoldable pub NestedPass : Type 0
NestedPass =
    (type mask flag : ℕ) (p : List ℕ) (room : ℕ) → NamesItself type (peeled type mask p)
    → pass_report type mask flag p room
    ≡ cond (is_ok (pass_error type mask p room)) (nested_report type flag (chain_offset type mask p) (peeled type mask p)) (refused_report (pass_error type mask p room))
