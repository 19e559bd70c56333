-- Questions about layers of which each reads some places of the call only.
use mathlib.Core.Path.{◌≡◌, refl}
use mathlib.Core.List.{List, []}
use Prim.Native.Nat.{ℕ}
use Rattle.writers.specs.Columns.{is_outside, some_from}
use Rattle.writers.specs.ModexWriter.{ModexCall, modex_call, layers_out, data_bad, layers_bad, modex_length}

-- what stands in the other places does not matter
module _ (type count : ℕ) (types starts lengths lent payload : List ℕ) where
  abbrev whole_call : ModexCall
  whole_call = modex_call type count types starts lengths lent payload

  pub out_alone : layers_out (modex_call 0 count types starts lengths lent []) ≡ layers_out whole_call
  unfolding layers_out
  out_alone = refl

  pub data_alone : some_from (is_outside 1 65536 lengths) 0 count ≡ data_bad whole_call
  unfolding data_bad
  data_alone = refl

  pub bad_alone : layers_bad (modex_call type count types [] [] [] payload) ≡ layers_bad whole_call
  unfolding layers_bad
  bad_alone = refl

  pub length_alone : modex_length (modex_call 0 count [] [] lengths [] payload) ≡ modex_length whole_call
  unfolding modex_length
  length_alone = refl
