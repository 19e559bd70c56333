-- A kept frame's kind says its type.
use mathlib.Core.Path.{◌≡◌, refl, sym, ap, ◌∙◌}
use mathlib.Core.Bool.{Bool, true, false, cond}
use Prim.Native.Nat.{ℕ, suc, ◌≤◌}
use native.Mathlib.Omega.{arith}
use Rattle.types.proofs.Laws.{only_ok}
use Rattle.init_cache.specs.Kind.{kind_number, cache_kind}
use Rattle.init_cache.proofs.KindLaws.{type_of_kind, kind_typed_lem}
use Rattle.frame.proofs.Accepted.{accepted_known}
use Rattle.frame_store.specs.Store.{Frame, accepts, result_of, kept_kind}
use Rattle.frame_store.specs.Claims.{KeptTyped}

type_of_kept : (f : Frame) (j : ℕ) → kept_kind f ≡ suc j → type_of_kind (kept_kind f) ≡ f.type
unfolding kept_kind
type_of_kept f j e = go (accepts f) (λ a. accepted_known _ _ _ _ (only_ok _ a)) e
  where
    go : (b : Bool) → (b ≡ true → f.type ≤ 3) → cond b (kind_number (cache_kind f.type (result_of f))) 0 ≡ suc j
        → type_of_kind (cond b (kind_number (cache_kind f.type (result_of f))) 0) ≡ f.type
    go true known e = (kind_typed_lem f.type (known refl) (result_of f)).says j e
    go false known e = absurd (omega arith)

pub kept_typed_lem : KeptTyped
unfolding KeptTyped
kept_typed_lem f = record { video = by 0; audio = by 1; keyframe = by 2 }
  where
    by : (j : ℕ) → kept_kind f ≡ suc j → f.type ≡ type_of_kind (suc j)
    by j e = sym (type_of_kept f j e) ∙ ap type_of_kind e
