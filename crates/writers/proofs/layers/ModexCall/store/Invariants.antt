-- `writers::layers::ModexCall::store`: what is left to write, written from `at` on, gives the whole.
use Rattle.std.proofs.Common.{◌≡◌, ◌+◌, ◌-◌, ◌%◌}
use Rattle.outputs.specs.Outputs.{with_at}
use Rattle.writers.specs.Columns.{values_from, sum_from}
use Rattle.writers.specs.ModexWriter.{ModexCall, asked_modex, given_layer, given_layers, layers_bytes, layer_length}
use Rattle.writers.proofs.layers.ModexCall.store.Given as goal

abbrev pub invariant-loop-i : goal.invariant-loop-i
invariant-loop-i l =
    let c : ModexCall = asked_modex l.self in
    record {
      behind : l.at + sum_from (layer_length c) l.i (c.count - l.i) ≡ 1 + sum_from (layer_length c) 0 c.count;
      written :
          with_at l.output l.at (layers_bytes (l.tag % 16) (values_from (given_layer c) l.i (c.count - l.i)))
          ≡ with_at l.initial.output 1 (layers_bytes (l.tag % 16) (given_layers c));
    }
