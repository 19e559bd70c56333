-- `frame_store::late::late_info` meets its contract.
use Rattle.frame_store.proofs.Lates.{late_answer}
use Rattle.frame_store.proofs.late.late_info.Goals as goal

pub returns : goal.returns
returns c = late_answer _ _ _ _ _ c.is_held-has_video.ensures c.is_held-has_audio.ensures c.is_held-has_keyframe.ensures _ _ c.behind-behind_video.ensures c.behind-behind_audio.ensures _ _ _ c.choose-third.ensures c.choose-second.ensures
    c.choose-first.ensures _ _ _ c.from.ensures c.from-2.ensures c.from-3.ensures
