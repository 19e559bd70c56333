-- `frame_store::keep` meets its contract, by the kind.
use mathlib.Core.Path.{refl, sym, ◌∙◌}
use native.Mathlib.Omega.{arith}
use Rattle.frame_store.specs.Store.{is_too_long, length_after, buffer_after, keep_in}
use Rattle.frame_store.proofs.Runs.{keep_none}
use Rattle.frame_store.proofs.Keeping.{none_told, own_slot}
use Rattle.frame_store.proofs.keep.Goals as goal

pub returns-in-LiveOnly : goal.returns-in-LiveOnly
unfolding is_too_long
returns-in-LiveOnly c = record {
  too_long = rw c.in-LiveOnly.is (refl);
  store = rw c.in-LiveOnly.is (sym (keep_none _ _));
}

pub returns-in-VideoSequenceHeader : goal.returns-in-VideoSequenceHeader
unfolding keep_in length_after buffer_after
returns-in-VideoSequenceHeader c =
    let w = own_slot _ _ 1 _ _ (omega arith) c.put_in-held.ensures.answer c.put_in-held.ensures.slot in record {
      too_long = rw c.in-VideoSequenceHeader.is (none_told _ _ c.is_none.ensures ∙ w.too_long);
      store = rw c.in-VideoSequenceHeader.is (rw (c.unwrap_or.ensures ∙ w.length_then, w.buffer_then) refl);
    }

pub returns-in-AudioSequenceHeader : goal.returns-in-AudioSequenceHeader
unfolding keep_in length_after buffer_after
returns-in-AudioSequenceHeader c =
    let w = own_slot _ _ 2 _ _ (omega arith) c.put_in-held-in-AudioSequenceHeader.ensures.answer c.put_in-held-in-AudioSequenceHeader.ensures.slot in record {
      too_long = rw c.in-AudioSequenceHeader.is (none_told _ _ c.is_none-in-AudioSequenceHeader.ensures ∙ w.too_long);
      store = rw c.in-AudioSequenceHeader.is (rw (c.unwrap_or-in-AudioSequenceHeader.ensures ∙ w.length_then, w.buffer_then) refl);
    }

pub returns-in-VideoKeyframe : goal.returns-in-VideoKeyframe
unfolding keep_in length_after buffer_after
returns-in-VideoKeyframe c =
    let w = own_slot _ _ 3 _ _ (omega arith) c.put_in-held-in-VideoKeyframe.ensures.answer c.put_in-held-in-VideoKeyframe.ensures.slot in record {
      too_long = rw c.in-VideoKeyframe.is (none_told _ _ c.is_none-in-VideoKeyframe.ensures ∙ w.too_long);
      store = rw c.in-VideoKeyframe.is (rw (c.unwrap_or-in-VideoKeyframe.ensures ∙ w.length_then, w.buffer_then) refl);
    }
