-- `writers::layers::ModexCall::store` meets its contract: byte 0, the layers, the payload from byte 1 on.
use Rattle.std.proofs.Common.{◌≡◌, refl, ◌∙◌, ◌+◌, ◌%◌, cond, eqb, get_or, arith}
use Rattle.std.proofs.lemmas.Grind.{common_steps}
use Rattle.wire.proofs.Parts.{rest_part}
use Rattle.writers.specs.ModexWriter.{asked_modex, layer_length}
use Rattle.writers.proofs.Entries.{sum_end}
use Rattle.writers.proofs.PutTracks.{part_lent}
use Rattle.writers.proofs.PutLayers.{layer_room, layers_next, layers_end, layers_room, modex_put}
use Rattle.writers.proofs.layers.ModexCall.store.Goals as goal
use Rattle.writers.proofs.layers.ModexCall.store.Goals.{then-i-self, else-i-self}

pub put_layer-at-requires-clause-content_in_bounds : goal.put_layer-at-requires-clause-content_in_bounds
put_layer-at-requires-clause-content_in_bounds c =
    layer_room (asked_modex c.args.self.now) 0 _ _ _ c.loop-i-test.true (omega (arith, layers_room _ c.requires.fine _ c.requires.room)) _
    (part_lent c.args.self.now.lent.now _ _ _ refl (c.requires.fine.inside _ c.loop-i-test.true)).1

pub loop-i-preserved : goal.loop-i-preserved
loop-i-preserved c =
    let part = part_lent c.args.self.now.lent.now _ _ _ refl (c.requires.fine.inside _ c.loop-i-test.true) in
    let named : c.if-i-self.next ≡ cond (eqb (c.loop-i.i + 1) c.args.self.now.count) (get_or c.args.self.now.payload.now 0 0 % 16) 7 =
    elim c.if-i-self.branch [ then-i-self w ↦ grind (arith, common_steps) | else-i-self w ↦ grind (arith, common_steps) ] in
    let next =
    layers_next (asked_modex c.args.self.now) _ _ c.loop-i-test.true _ _ _ _ _ _ part.0 part.1 named c.put_layer-at.ensures.next c.put_layer-at.ensures.output
    (omega (arith, layers_room _ c.requires.fine _ c.requires.room)) in
    record { behind = next.0 ∙ c.loop-i.invariant.behind; written = next.1 ∙ c.loop-i.invariant.written }

pub returns : goal.returns
returns c =
    modex_put _ c.requires.fine _ _ _ _ _ _ _ _ refl refl c.requires.room c.put.ensures.output
    (layers_end (asked_modex c.args.self.now) _ _ c.loop-i-test.false _ _ _ _ c.loop-i.invariant.written)
    (omega (arith, sum_end (layer_length (asked_modex c.args.self.now)) c.loop-i.i _ c.loop-i-test.false)) (rest_part c.args.self.now.payload.now 1) c.put-2.ensures.output
