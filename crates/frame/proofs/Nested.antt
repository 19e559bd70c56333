-- A CONTAINER NAMED INSIDE A CONTAINER is refused, and nothing else of its frame changes.
use mathlib.Core.Path.{◌≡◌, refl, sym, ap, ◌∙◌}
use mathlib.Core.Bool.{Bool, true, false, cond, ◌&&◌, and-false, or-true}
use mathlib.Core.Option.{none, some}
use mathlib.Core.List.{List, [], ◌∷◌}
use Prim.Native.Nat.{ℕ, zero, suc, ◌%◌, ◌≤◌, ◌<◌}
use native.Mathlib.Omega.{arith}
use lib.Dec.{eqb}
use lib.ListN.{length}
use borrow.Author.Tests.{le-ltb, ne_eqb}
use Rattle.wire.specs.Wire.{byte_at}
use Rattle.wire.proofs.Bools.{and_no_right, true_or_false}
use Rattle.types.specs.Types.{is_ok, is_audio}
use Rattle.types.specs.declared.ErrorCode.TheVariants as error
use Rattle.types.proofs.Laws.{media_only}
use Rattle.modex.specs.Modex.{peeled}
use Rattle.modex.specs.Offsets.{chain_offset}
use Rattle.multitrack_media.specs.Container.{opens_container, own_number, Container, container_of}
use Rattle.multitrack_media.specs.Answer.{no_track, track_info}
use Rattle.multitrack_media.proofs.Answers.{opens_media, info_none}
use Rattle.multitrack_media.proofs.LegalHeads.{own_nibble, nested_none}
use Rattle.init_cache.specs.Head.{frame_head, is_enhanced_of, is_video_of}
use Rattle.init_cache.specs.Verdicts.{sequence_start, verdicts_in, verdicts, count_valid}
use Rattle.init_cache.specs.Seen.{seen_with, seen, is_container_of}
use Rattle.init_cache.specs.Kind.{kind_of, cache_kind}
use Rattle.init_cache.specs.declared.verdicts.SequenceStart.{SequenceStart}
use Rattle.std.specs.Prelude.{Some, None}
use Rattle.std.specs.Prelude as std
use Rattle.init_cache.specs.declared.kind.CacheFrameKind.TheVariants.{LiveOnly}
use Rattle.init_cache.proofs.Rules.{container_none, container_other, kind_unreadable, SameSeen, kind_same}
use Rattle.delivery.specs.Hint.{is_command_frame, names_packet_type, is_metadata, is_critical, is_resync_point, hint_of, delivery_hint}
use Rattle.delivery.proofs.Rules.{critical_metadata, hint_same}
use Rattle.delivery.specs.declared.DeliveryHint.TheVariants.{ResyncPoint, Droppable}
use Rattle.frame.specs.Pass.{pass_error, result_report, refused_report, pass_report, request_verdict, track_answer}
use Rattle.frame.specs.declared.Report.{Report}
use Rattle.frame.specs.Sealed.{seals_nothing}
use Rattle.frame.specs.Nested.{NamesItself, Nested, NestedPass}
use Rattle.frame.proofs.Fronts.{enhanced_low}
use Rattle.frame.proofs.Results.{video_opens_lem}
use Rattle.frame.proofs.Starts.{judged_single}
use Rattle.frame.proofs.Corollaries.{refused_container}

module _ (type : ℕ) (r : List ℕ) (h : NamesItself type r) where
  media : type ≤ 1
  media = opens_media type (byte_at r 0) h.opens

  own : byte_at r 0 % 16 ≡ own_number type
  own = own_nibble type (byte_at r 0) h.opens

  own_above : 4 < own_number type
  own_above = go type media
    where
      go : (type : ℕ) → type ≤ 1 → 4 < own_number type
      go zero l = omega arith
      go (suc zero) l = omega arith
      go (suc (suc n)) l = absurd (omega arith)

  read : container_of type r ≡ none
  read = nested_none type r h.named

  -- it is no sequence start
  no_start : sequence_start type (frame_head type r) ≡ None
  unfolding seals_nothing frame_head
  no_start = go (sequence_start type (frame_head type r)) refl
    where
      go : (s : std.Option SequenceStart) → sequence_start type (frame_head type r) ≡ s → sequence_start type (frame_head type r) ≡ None
      go (Some s) q = true_or_false (simp (h.opens, or-true)) (judged_single r type media s.codec s.from q)
      go None q = q

  no_verdict : verdicts type r ≡ []
  unfolding verdicts
  no_verdict = simp (read, no_start)

  -- and no accepted container
  no_tracks : (seen type r).tracks ≡ 0
  unfolding seen
  no_tracks = simp read

  no_container : (k : ℕ) → is_container_of k (seen type r) ≡ false
  no_container k = sym (container_none k (seen type r) no_tracks)

  -- with a container of its packet type no rule of kind or hint would see more
  module _ (c : Container) (e : c.packet_type ≡ own_number type) where
    no_record : verdicts_in type r (some c) ≡ verdicts type r
    no_record = simp (ne_eqb c.packet_type 0 (λ x. omega (arith, own_above, e)), no_verdict)

    same : SameSeen (seen_with type r (some c)) (seen type r)
    unfolding seen verdicts
    same =
        record {
          head = refl;
          accepted = λ k l. sym (container_other k _ (λ x. omega (arith, own_above, e))) ∙ container_none k _ no_tracks;
          records = ap length no_record;
          valid = ap count_valid no_record;
        }

  -- THE KIND
  no_command_lem : is_video_of 5 type (frame_head type r) ≡ false
  unfolding is_video_of frame_head
  no_command_lem = go type media h.opens
    where
      go : (type : ℕ) → type ≤ 1 → opens_container type (byte_at r 0) ≡ true → is_video_of 5 type (frame_head type r) ≡ false
      go zero l o = refl
      go (suc zero) l o = (video_opens_lem (byte_at r 0) o).frame
      go (suc (suc n)) l o = absurd (omega arith)

  live : kind_of type (seen type r) ≡ LiveOnly
  unfolding seen frame_head
  live =
      sym (kind_unreadable type (seen type r) (media_only type media) no_command_lem (no_container 0) (simp (no_container 1, no_container 3, and-false)) (simp h.opens))

  -- THE HINT
  not_enhanced : (k : ℕ) → k ≤ 4 → is_enhanced_of k (frame_head type r) ≡ false
  not_enhanced k l = go (is_enhanced_of k (frame_head type r)) refl
    where
      go : (b : Bool) → is_enhanced_of k (frame_head type r) ≡ b → is_enhanced_of k (frame_head type r) ≡ false
      go true q = absurd (omega (arith, enhanced_low type r k media q, own, own_above))
      go false q = q

  filled : 0 < length r
  filled = go r own
    where
      go : (r : List ℕ) → byte_at r 0 % 16 ≡ own_number type → 0 < length r
      go [] e = absurd (omega (arith, own_above))
      go (x ∷ r) e = omega arith

  not_critical : is_critical type (seen type r) LiveOnly ≡ false
  unfolding seen frame_head
  not_critical =
      sym (critical_metadata type (seen type r) LiveOnly (media_only type media) refl (and_no_right (is_audio type) _ (ne_eqb (length r) 0 (λ x. omega (arith, filled))))
      (unfold is_command_frame in simp no_command_lem))
      ∙ (unfold is_metadata names_packet_type in simp (not_enhanced 4 (omega arith), not_enhanced 3 (omega arith), no_container 4, no_container 3, and-false))

  hint : (flag : ℕ) → delivery_hint type flag r ≡ cond (is_audio type && eqb flag 0) ResyncPoint Droppable
  unfolding delivery_hint hint_of is_resync_point
  hint flag = simp (live, not_critical)

  -- THE TRACK REQUEST
  request : (n : ℕ) → track_info type r n ≡ no_track error.NotAContainer 0
  request n = sym (info_none type r (le-ltb 3 type (omega (arith, media))) n read)

pub nested : Nested
unfolding Nested result_report cache_kind
nested type flag r h =
    record {
      report = λ offset. simp (read type r h, no_verdict type r h, live type r h, hint type r h flag);
      requests = λ n. unfold track_answer request_verdict in simp (request type r h n);
      unsealed = refused_container type r (media type r h) h.opens (read type r h);
      kinds = λ c e. kind_same type _ _ (same type r h c e);
      hints = λ c e. unfold delivery_hint in hint_same type flag _ _ (same type r h c e) _ ∙ ap (hint_of type flag (seen type r)) (kind_same type _ _ (same type r h c e));
    }

pub nested_pass_lem : NestedPass
unfolding NestedPass Nested pass_report
nested_pass_lem type mask flag p room h =
    ap (λ (t : Report). cond (is_ok (pass_error type mask p room)) t (refused_report (pass_error type mask p room))) ((nested type flag (peeled type mask p) h).report (chain_offset type mask p))
