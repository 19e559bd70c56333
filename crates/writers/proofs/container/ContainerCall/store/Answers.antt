-- `writers::container::ContainerCall::store` meets its contract: the head, the shared FourCC, the tracks.
use Rattle.std.proofs.Common.{◌≡◌, refl, ◌∙◌, ◌+◌, ◌*◌, cond, arith}
use Rattle.std.proofs.lemmas.Grind.{common_steps}
use Rattle.types.specs.Types.{is_video}
use Rattle.writers.specs.ContainerWriter.{asked_container}
use Rattle.writers.proofs.Entries.{values_start, sum_start}
use Rattle.writers.proofs.PutTracks.{part_lent, track_room, tracks_next, tracks_end, head_room, tracks_room, container_put}
use Rattle.writers.proofs.container.ContainerCall.store.Goals as goal
use Rattle.writers.proofs.container.ContainerCall.store.Goals.{then-self-eq1, else-self-eq1}

pub put_shared-at-requires : goal.put_shared-at-requires
put_shared-at-requires c = omega (arith, head_room _ c.requires.fine _ c.form-form.ensures _ c.requires.room)

pub loop-i-init : goal.loop-i-init
loop-i-init c = record {
  room = rw (sum_start _ _) (omega (arith, tracks_room _ c.requires.fine _ c.form-form.ensures _ c.requires.room, c.put_shared-at.ensures.next));
  written = rw (values_start _ _);
}

pub put_track-at-requires : goal.put_track-at-requires
put_track-at-requires c =
    track_room (asked_container c.args.self.now) _ c.form-form.ensures _ _ _ c.loop-i-test.true c.loop-i.invariant.room _
    (part_lent c.args.self.now.bodies.now _ _ _ refl (c.requires.fine.inside _ c.loop-i-test.true)).1

pub loop-i-preserved : goal.loop-i-preserved
loop-i-preserved c =
    let part = part_lent c.args.self.now.bodies.now _ _ _ refl (c.requires.fine.inside _ c.loop-i-test.true) in
    let next =
    tracks_next (asked_container c.args.self.now) _ c.form-form.ensures _ c.loop-i-test.true _ _ _ _ _ part.0 part.1 c.put_track-at.ensures.next c.put_track-at.ensures.output
    c.loop-i.invariant.room in
    record { room = next.0; written = next.1 ∙ c.loop-i.invariant.written }

pub returns : goal.returns
returns c =
    let first : c.if-self-eq1.first ≡ cond (is_video c.args.self.now.frame_type) (128 + c.args.self.now.video_frame_type * 16 + 6) 0x95 =
    elim c.if-self-eq1.branch [ then-self-eq1 w ↦ grind (arith, common_steps) | else-self-eq1 w ↦ grind (arith, common_steps) ] in
    container_put _ c.requires.fine _ c.form-form.ensures _ _ _ _ _ _ _ first refl c.requires.room c.put.ensures.output c.put_shared-at.ensures.output
    c.put_shared-at.ensures.next (tracks_end (asked_container c.args.self.now) _ c.form-form.ensures _ c.loop-i-test.false _ _ _ _ c.loop-i.invariant.written)
