-- A frame of kind 1 to 3 is not empty, so that length 0 means empty.
use mathlib.Core.Path.{◌≡◌, refl}
use mathlib.Core.Bool.{Bool, true, false}
use mathlib.Core.List.{List, [], ◌∷◌}
use Prim.Native.Nat.{ℕ, ◌<◌}
use native.Mathlib.Omega.{arith}
use lib.ListN.{length}
use Rattle.types.proofs.Laws.{only_ok}
use Rattle.init_cache.proofs.KindLaws.{empty_live}
use Rattle.frame.proofs.Accepted.{accepted_known}
use Rattle.frame_store.specs.Store.{accepts, result_of, kept_kind}
use Rattle.frame_store.specs.Claims.{KeptNonempty}

pub kept_nonempty_lem : KeptNonempty
unfolding KeptNonempty kept_kind
kept_nonempty_lem f n = go (accepts f) refl (result_of f) refl
  where
    go : (b : Bool) → accepts f ≡ b → (r : List ℕ) → result_of f ≡ r → 0 < length (result_of f)
    go false a r e = absurd (n (simp (kept_kind, a)))
    go true a [] e = absurd (n (simp (kept_kind, a, e, empty_live f.type (accepted_known _ _ _ _ (only_ok _ a)))))
    go true a (x ∷ r) e = rw e (omega arith)
