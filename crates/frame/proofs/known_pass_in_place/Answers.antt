-- `frame::known_pass_in_place` meets its contract: the answer of peeling, and then the frame type.
use mathlib.Core.Path.{refl, sym, ap, ◌∙◌}
use native.Mathlib.Omega.{arith}
use lib.IntN.{ℤ}
use mir.Syntax.{w64}
use mir.Val.{to_z, of_z}
use Rattle.types.specs.Types.{frame_number}
use Rattle.types.proofs.Laws.{is_known}
use Rattle.modex.proofs.Places.{place_taken_lem, place_refused_lem}
use Rattle.frame.proofs.Signs.{wide}
use Rattle.frame.proofs.Passes.{report_script, script_type, audio_reported, video_reported}
use Rattle.frame.proofs.InPlace.{rest_length, placed_bad, placed_passed}
use Rattle.frame.proofs.known_pass_in_place.Goals as goal

pub returns-in-Err : goal.returns-in-Err
returns-in-Err c =
    let w = place_refused_lem _ _ _ _ _ (sym c.in-Err.is ∙ c.normalize_modex_payload_in_place-peeled.ensures.answer) c.normalize_modex_payload_in_place-peeled.ensures.payload in
    let it = placed_bad (frame_number c.args.frame_type) c.args.caps_ex_mask c.args.payload.now (is_known c.args.frame_type) c.args.route_has_video w.bad _ w.answer 0 refl _ c.bare_report.ensures in
    record { placed = it.0; payload = w.payload ∙ it.1 }

pub overflow_sub-length : goal.overflow_sub-length
overflow_sub-length c =
    let w = place_taken_lem _ _ _ _ _ (sym c.in-Ok.is ∙ c.normalize_modex_payload_in_place-peeled.ensures.answer) c.normalize_modex_payload_in_place-peeled.ensures.payload in
    w.inside

pub slice_bounds-audio_part-count : goal.slice_bounds-audio_part-count
slice_bounds-audio_part-count c =
    let w = place_taken_lem _ _ _ _ _ (sym c.in-Ok.is ∙ c.normalize_modex_payload_in_place-peeled.ensures.answer) c.normalize_modex_payload_in_place-peeled.ensures.payload in
    w.inside

pub slice_bounds-audio_part-start : goal.slice_bounds-audio_part-start
slice_bounds-audio_part-start c =
    let w = place_taken_lem _ _ _ _ _ (sym c.in-Ok.is ∙ c.normalize_modex_payload_in_place-peeled.ensures.answer) c.normalize_modex_payload_in_place-peeled.ensures.payload in
    omega (arith, w.inside)

pub returns-in-Audio : goal.returns-in-Audio
returns-in-Audio c =
    let w = place_taken_lem _ _ _ _ _ (sym c.in-Ok.is ∙ c.normalize_modex_payload_in_place-peeled.ensures.answer) c.normalize_modex_payload_in_place-peeled.ensures.payload in
    let it = placed_passed (frame_number c.args.frame_type) c.args.caps_ex_mask c.args.payload.now (is_known c.args.frame_type) c.args.route_has_video w.fine _ w.offset _ w.start _ w.payload _
    (c.audio_report-report.ensures ∙ audio_reported (frame_number c.args.frame_type) c.args.route_has_video c.in-Ok.peeled.offset _ _ _ (ap frame_number c.in-Audio.is)
    (rest_length c.normalize_modex_payload_in_place-peeled.new.payload c.in-Ok.peeled.start) c.audio_part.ensures) in
    record { placed = it.0; payload = it.1 }

pub slice_bounds-video_part-count : goal.slice_bounds-video_part-count
slice_bounds-video_part-count c =
    let w = place_taken_lem _ _ _ _ _ (sym c.in-Ok.is ∙ c.normalize_modex_payload_in_place-peeled.ensures.answer) c.normalize_modex_payload_in_place-peeled.ensures.payload in
    w.inside

pub slice_bounds-video_part-start : goal.slice_bounds-video_part-start
slice_bounds-video_part-start c =
    let w = place_taken_lem _ _ _ _ _ (sym c.in-Ok.is ∙ c.normalize_modex_payload_in_place-peeled.ensures.answer) c.normalize_modex_payload_in_place-peeled.ensures.payload in
    omega (arith, w.inside)

pub returns-in-Video : goal.returns-in-Video
returns-in-Video c =
    let w = place_taken_lem _ _ _ _ _ (sym c.in-Ok.is ∙ c.normalize_modex_payload_in_place-peeled.ensures.answer) c.normalize_modex_payload_in_place-peeled.ensures.payload in
    let it = placed_passed (frame_number c.args.frame_type) c.args.caps_ex_mask c.args.payload.now (is_known c.args.frame_type) c.args.route_has_video w.fine _ w.offset _ w.start _ w.payload _
    (c.video_report-report.ensures ∙ video_reported (frame_number c.args.frame_type) c.args.route_has_video c.in-Ok.peeled.offset _ _ _ (ap frame_number c.in-Video.is)
    (rest_length c.normalize_modex_payload_in_place-peeled.new.payload c.in-Ok.peeled.start) c.video_part.ensures) in
    record { placed = it.0; payload = it.1 }

pub returns-in-Script : goal.returns-in-Script
returns-in-Script c =
    let w = place_taken_lem _ _ _ _ _ (sym c.in-Ok.is ∙ c.normalize_modex_payload_in_place-peeled.ensures.answer) c.normalize_modex_payload_in_place-peeled.ensures.payload in
    let it = placed_passed (frame_number c.args.frame_type) c.args.caps_ex_mask c.args.payload.now (is_known c.args.frame_type) c.args.route_has_video w.fine _ w.offset _ w.start _ w.payload _
    (c.bare_report-report.ensures ∙ report_script (frame_number c.args.frame_type) c.args.route_has_video c.in-Ok.peeled.offset _ _ _
    (rest_length c.normalize_modex_payload_in_place-peeled.new.payload c.in-Ok.peeled.start)
    (ap (λ (z : ℤ). to_z w64 (of_z w64 z)) c.from.ensures ∙ wide c.in-Ok.peeled.offset (omega arith)) (script_type c.args.frame_type c.in-Script.is)) in
    record { placed = it.0; payload = it.1 }
