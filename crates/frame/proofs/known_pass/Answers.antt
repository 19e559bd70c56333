-- `frame::known_pass` meets its contract: the answer of peeling, and then the frame type.
use mathlib.Core.Path.{refl, sym, ap, ◌∙◌}
use native.Mathlib.Omega.{arith}
use lib.ListN.{length}
use lib.Seq.{length-take-le}
use lib.IntN.{ℤ}
use mir.Syntax.{w64}
use mir.Val.{to_z, of_z}
use Rattle.types.specs.Types.{frame_number}
use Rattle.types.proofs.Laws.{is_known}
use Rattle.modex.proofs.Outputs.{taken}
use Rattle.frame.proofs.Signs.{wide}
use Rattle.frame.proofs.Passes.{audio_reported, video_reported, report_passed, report_refused, report_script, script_type, output_peeled}
use Rattle.frame.proofs.known_pass.Goals as goal

pub slice_bounds-audio_part-end : goal.slice_bounds-audio_part-end
slice_bounds-audio_part-end c =
    let w = taken _ _ _ _ _ _ (sym c.in-Ok.is ∙ c.normalize_modex_payload_with_offset-peeled.ensures.answer) c.normalize_modex_payload_with_offset-peeled.ensures.output in
    omega (arith, w.room, c.normalize_modex_payload_with_offset-peeled.auto.output)

pub slice_bounds-audio_part-end-in-Audio : goal.slice_bounds-audio_part-end-in-Audio
slice_bounds-audio_part-end-in-Audio c =
    let w = taken _ _ _ _ _ _ (sym c.in-Ok.is ∙ c.normalize_modex_payload_with_offset-peeled.ensures.answer) c.normalize_modex_payload_with_offset-peeled.ensures.output in
    sym (length-take-le c.in-Ok.peeled.length c.normalize_modex_payload_with_offset-peeled.new.output (omega (arith, w.room, c.normalize_modex_payload_with_offset-peeled.auto.output)))

pub returns-in-Audio : goal.returns-in-Audio
returns-in-Audio c =
    let known = is_known c.args.frame_type in
    let w = taken _ _ _ _ _ _ (sym c.in-Ok.is ∙ c.normalize_modex_payload_with_offset-peeled.ensures.answer) c.normalize_modex_payload_with_offset-peeled.ensures.output in record {
      report = c.audio_report.ensures ∙ audio_reported (frame_number c.args.frame_type) c.args.route_has_video c.in-Ok.peeled.offset _ c.in-Ok.peeled.length _ (ap frame_number c.in-Audio.is) (w.long ∙ ap length (sym w.front)) c.audio_part.ensures
          ∙ report_passed (frame_number c.args.frame_type) c.args.caps_ex_mask c.args.payload.now (length c.args.output.now) c.args.route_has_video (record { known = known; room_for = omega (arith, w.long, w.room); fine = w.fine }) _ w.offset _ w.front;
      output = c.normalize_modex_payload_with_offset-peeled.ensures.output ∙ output_peeled _ _ _ _ known;
    }

pub slice_bounds-video_part-end : goal.slice_bounds-video_part-end
slice_bounds-video_part-end c =
    let w = taken _ _ _ _ _ _ (sym c.in-Ok.is ∙ c.normalize_modex_payload_with_offset-peeled.ensures.answer) c.normalize_modex_payload_with_offset-peeled.ensures.output in
    omega (arith, w.room, c.normalize_modex_payload_with_offset-peeled.auto.output)

pub slice_bounds-video_part-end-in-Video : goal.slice_bounds-video_part-end-in-Video
slice_bounds-video_part-end-in-Video c =
    let w = taken _ _ _ _ _ _ (sym c.in-Ok.is ∙ c.normalize_modex_payload_with_offset-peeled.ensures.answer) c.normalize_modex_payload_with_offset-peeled.ensures.output in
    sym (length-take-le c.in-Ok.peeled.length c.normalize_modex_payload_with_offset-peeled.new.output (omega (arith, w.room, c.normalize_modex_payload_with_offset-peeled.auto.output)))

pub returns-in-Video : goal.returns-in-Video
returns-in-Video c =
    let known = is_known c.args.frame_type in
    let w = taken _ _ _ _ _ _ (sym c.in-Ok.is ∙ c.normalize_modex_payload_with_offset-peeled.ensures.answer) c.normalize_modex_payload_with_offset-peeled.ensures.output in record {
      report = c.video_report.ensures ∙ video_reported (frame_number c.args.frame_type) c.args.route_has_video c.in-Ok.peeled.offset _ c.in-Ok.peeled.length _ (ap frame_number c.in-Video.is) (w.long ∙ ap length (sym w.front)) c.video_part.ensures
          ∙ report_passed (frame_number c.args.frame_type) c.args.caps_ex_mask c.args.payload.now (length c.args.output.now) c.args.route_has_video (record { known = known; room_for = omega (arith, w.long, w.room); fine = w.fine }) _ w.offset _ w.front;
      output = c.normalize_modex_payload_with_offset-peeled.ensures.output ∙ output_peeled _ _ _ _ known;
    }

pub returns-in-Script : goal.returns-in-Script
returns-in-Script c =
    let known = is_known c.args.frame_type in
    let w = taken _ _ _ _ _ _ (sym c.in-Ok.is ∙ c.normalize_modex_payload_with_offset-peeled.ensures.answer) c.normalize_modex_payload_with_offset-peeled.ensures.output in record {
      report = c.bare_report-in-Script.ensures
          ∙ report_script (frame_number c.args.frame_type) c.args.route_has_video c.in-Ok.peeled.offset _ _ _ w.long (ap (λ (z : ℤ). to_z w64 (of_z w64 z)) c.from.ensures ∙ wide c.in-Ok.peeled.offset (omega arith)) (script_type c.args.frame_type c.in-Script.is)
          ∙ report_passed (frame_number c.args.frame_type) c.args.caps_ex_mask c.args.payload.now (length c.args.output.now) c.args.route_has_video (record { known = known; room_for = omega (arith, w.long, w.room); fine = w.fine }) _ w.offset _ refl;
      output = c.normalize_modex_payload_with_offset-peeled.ensures.output ∙ output_peeled _ _ _ _ known;
    }

pub returns-in-Err : goal.returns-in-Err
returns-in-Err c =
    let known = is_known c.args.frame_type in record {
      report = c.bare_report.ensures ∙ report_refused _ _ _ _ _ known _ (sym c.in-Err.is ∙ c.normalize_modex_payload_with_offset-peeled.ensures.answer);
      output = c.normalize_modex_payload_with_offset-peeled.ensures.output ∙ output_peeled _ _ _ _ known;
    }
