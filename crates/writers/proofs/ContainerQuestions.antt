-- Questions about a container of which each reads some places of the call only.
use mathlib.Core.Path.{◌≡◌, refl}
use mathlib.Core.List.{List, []}
use Prim.Native.Nat.{ℕ}
use Rattle.writers.specs.ContainerWriter.{ContainerCall, container_call, tracks_out, bodies_long, head_bad, container_length}

-- what stands in the other places does not matter
module _ (type video form packet count : ℕ) (ids fourccs starts lengths bodies : List ℕ) where
  abbrev whole_call : ContainerCall
  whole_call = container_call type video form packet count ids fourccs starts lengths bodies

  pub out_alone : tracks_out (container_call 0 0 form 0 count ids fourccs starts lengths bodies) ≡ tracks_out whole_call
  unfolding tracks_out
  out_alone = refl

  pub long_alone : bodies_long (container_call 0 0 form 0 count [] [] [] lengths []) ≡ bodies_long whole_call
  unfolding bodies_long
  long_alone = refl

  pub bad_alone : head_bad (container_call type video form packet count [] fourccs [] [] []) ≡ head_bad whole_call
  unfolding head_bad
  bad_alone = refl

  pub length_alone : container_length (container_call 0 0 form 0 count [] [] [] lengths []) ≡ container_length whole_call
  unfolding container_length
  length_alone = refl
