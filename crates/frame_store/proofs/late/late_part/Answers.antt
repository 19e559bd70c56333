-- `frame_store::late::late_part` meets its contract, by the kind.
use Rattle.init_cache.specs.declared.kind.CacheFrameKind.TheVariants.{VideoSequenceHeader, AudioSequenceHeader, VideoKeyframe}
use Rattle.frame_store.proofs.Lates.{part_long, part_front, part_none}
use Rattle.frame_store.proofs.late.late_part.Goals as goal

pub slice_bounds-result-end-in-VideoSequenceHeader : goal.slice_bounds-result-end-in-VideoSequenceHeader
slice_bounds-result-end-in-VideoSequenceHeader c = part_long _ _ _ c.late_info-info.ensures VideoSequenceHeader c.in-VideoSequenceHeader.is

pub slice_bounds-result-end-in-AudioSequenceHeader : goal.slice_bounds-result-end-in-AudioSequenceHeader
slice_bounds-result-end-in-AudioSequenceHeader c = part_long _ _ _ c.late_info-info.ensures AudioSequenceHeader c.in-AudioSequenceHeader.is

pub slice_bounds-result-end-in-VideoKeyframe : goal.slice_bounds-result-end-in-VideoKeyframe
slice_bounds-result-end-in-VideoKeyframe c = part_long _ _ _ c.late_info-info.ensures VideoKeyframe c.in-VideoKeyframe.is

pub returns-in-LiveOnly : goal.returns-in-LiveOnly
returns-in-LiveOnly c = part_none _ _ _ c.late_info-info.ensures c.in-LiveOnly.is

pub returns-in-VideoSequenceHeader : goal.returns-in-VideoSequenceHeader
returns-in-VideoSequenceHeader c = part_front _ _ _ c.late_info-info.ensures VideoSequenceHeader c.in-VideoSequenceHeader.is

pub returns-in-AudioSequenceHeader : goal.returns-in-AudioSequenceHeader
returns-in-AudioSequenceHeader c = part_front _ _ _ c.late_info-info.ensures AudioSequenceHeader c.in-AudioSequenceHeader.is

pub returns-in-VideoKeyframe : goal.returns-in-VideoKeyframe
returns-in-VideoKeyframe c = part_front _ _ _ c.late_info-info.ensures VideoKeyframe c.in-VideoKeyframe.is
