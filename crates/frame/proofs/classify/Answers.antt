-- `frame::classify` meets its contract: kind and hint are those of the report of the payload as it is.
use mathlib.Core.Path.{refl, ap}
use Rattle.types.specs.Types.{frame_number}
use Rattle.frame.proofs.Passes.{class_of, audio_reported, video_reported, report_script, script_type}
use Rattle.frame.proofs.classify.Goals as goal

pub returns-in-Audio : goal.returns-in-Audio
returns-in-Audio c = class_of (frame_number c.args.frame_type) c.args.route_has_video 0 c.args.payload.now _ _ _
    (audio_reported (frame_number c.args.frame_type) c.args.route_has_video 0 c.args.payload.now _ _ (ap frame_number c.in-Audio.is) refl c.audio_part-hint.ensures)
    refl refl

pub returns-in-Video : goal.returns-in-Video
returns-in-Video c = class_of (frame_number c.args.frame_type) c.args.route_has_video 0 c.args.payload.now _ _ _
    (video_reported (frame_number c.args.frame_type) c.args.route_has_video 0 c.args.payload.now _ _ (ap frame_number c.in-Video.is) refl c.video_part-hint.ensures)
    refl refl

pub returns-in-Script : goal.returns-in-Script
returns-in-Script c = class_of (frame_number c.args.frame_type) c.args.route_has_video 0 c.args.payload.now _ _ _
    (report_script (frame_number c.args.frame_type) c.args.route_has_video 0 c.args.payload.now _ _ refl refl (script_type c.args.frame_type c.in-Script.is))
    refl refl
