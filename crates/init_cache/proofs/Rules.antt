-- The kind by the tests that the code makes, one law for each answer; and that what is seen decides it.
use mathlib.Core.Path.{◌≡◌}
use mathlib.Core.Bool.{true, false, not, ◌&&◌, ◌||◌, and-false}
use Prim.Native.Nat.{ℕ, ◌≤◌}
use native.Mathlib.Omega.{arith}
use borrow.Author.Tests.{ne_eqb}
use Rattle.types.specs.Types.{is_script_or_metadata}
use Rattle.multitrack_media.specs.Container.{opens_container}
use Rattle.init_cache.specs.Head.{is_readable, is_video_of}
use Rattle.init_cache.specs.Seen.{is_container_of}
use Rattle.init_cache.specs.Kind.{single_kind, kind_of}
use Rattle.init_cache.specs.declared.seen.Seen.{Seen}
use Rattle.init_cache.specs.declared.kind.CacheFrameKind.TheVariants.{LiveOnly}

-- NO ACCEPTED CONTAINER, or one of another packet type
module _ (k : ℕ) (s : Seen) where
  pub container_none : s.tracks ≡ 0 → false ≡ is_container_of k s
  unfolding is_container_of
  container_none e = simp e

  pub container_other : (s.packet_type ≡ k → ⊥) → false ≡ is_container_of k s
  unfolding is_container_of
  container_other n = simp (ne_eqb _ _ n, and-false)

-- LIVE ONLY: types 2 and 3, and what is not readable
module _ (type : ℕ) (s : Seen) where
  pub kind_script : is_script_or_metadata type ≡ true → LiveOnly ≡ kind_of type s
  unfolding kind_of
  kind_script a = simp a

  pub kind_unreadable : is_script_or_metadata type ≡ false → is_video_of 5 type s.head ≡ false → is_container_of 0 s ≡ false
      → (is_video_of 1 type s.head && (is_container_of 1 s || is_container_of 3 s)) ≡ false → (opens_container type s.head.tag || not (is_readable s.head)) ≡ true
      → LiveOnly ≡ kind_of type s
  unfolding kind_of
  kind_unreadable a b c d e = simp (a, b, c, d, e)

-- two frames of which the same is seen; the number of tracks may differ, and a container of a packet type that no rule names
pub record SameSeen (s t : Seen) : Type 0 where
  pub head : s.head ≡ t.head
  pub accepted : (k : ℕ) → k ≤ 4 → is_container_of k s ≡ is_container_of k t
  pub records : s.records ≡ t.records
  pub valid : s.valid_records ≡ t.valid_records

pub kind_same : (type : ℕ) (s t : Seen) → SameSeen s t → kind_of type s ≡ kind_of type t
unfolding kind_of single_kind
kind_same type s t f = simp (f.head, f.accepted 0 (omega arith), f.accepted 1 (omega arith), f.accepted 3 (omega arith), f.records, f.valid)
