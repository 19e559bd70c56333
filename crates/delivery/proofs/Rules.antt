-- The hint by the tests that the code makes, one law for each answer; and that what is seen decides it.
use mathlib.Core.Path.{◌≡◌, refl, ap, ◌∙◌}
use mathlib.Core.Bool.{true, false, ◌&&◌}
use mathlib.Core.List.{List}
use Prim.Native.Nat.{ℕ}
use native.Mathlib.Omega.{arith}
use lib.Dec.{eqb}
use Rattle.std.specs.Prelude.{Some}
use Rattle.types.specs.Types.{is_audio, is_script_or_metadata}
use Rattle.init_cache.specs.Seen.{seen}
use Rattle.init_cache.specs.Kind.{kind_of}
use Rattle.init_cache.specs.declared.seen.Seen.{Seen}
use Rattle.init_cache.specs.declared.kind.CacheFrameKind.{CacheFrameKind}
use Rattle.init_cache.specs.Alike.{Alike}
use Rattle.init_cache.proofs.Rules.{SameSeen, kind_same}
use Rattle.init_cache.proofs.Alike.{seen_alike}
use Rattle.delivery.specs.Hint.{hint_number, hint_from, is_sequence_header, is_command_frame, names_packet_type, is_metadata, is_critical, hint_of, delivery_hint}
use Rattle.delivery.specs.declared.DeliveryHint.{DeliveryHint}
use Rattle.delivery.specs.declared.DeliveryHint.TheVariants.{Critical, ResyncPoint, Droppable}

-- A HINT is that of its number, and only that
pub hint_back : (h : DeliveryHint) → hint_from (hint_number h) ≡ Some h
unfolding hint_from
hint_back Critical = refl
hint_back ResyncPoint = refl
hint_back Droppable = refl

-- CRITICAL: types 2 and 3; and where no other test says so, metadata
module _ (type : ℕ) (s : Seen) (kind : CacheFrameKind) where
  pub critical_script : is_script_or_metadata type ≡ true → true ≡ is_critical type s kind
  unfolding is_critical
  critical_script a = simp a

  module _ (a : is_script_or_metadata type ≡ false) where
    module _ (b : is_sequence_header kind ≡ false) where
      module _ (c : (is_audio type && eqb s.head.size 0) ≡ false) where
        pub critical_metadata : is_command_frame type s.head ≡ false → is_metadata type s ≡ is_critical type s kind
        unfolding is_critical
        critical_metadata d = simp (a, b, c, d)

-- THE HINT
module _ (type flag : ℕ) (s : Seen) (kind : CacheFrameKind) where
  pub hint_critical : is_critical type s kind ≡ true → Critical ≡ hint_of type flag s kind
  unfolding hint_of
  hint_critical a = simp a

-- what is seen, and the kind, decide the hint
pub hint_same : (type flag : ℕ) (s t : Seen) → SameSeen s t → (kind : CacheFrameKind) → hint_of type flag s kind ≡ hint_of type flag t kind
unfolding hint_of is_critical is_metadata names_packet_type
hint_same type flag s t f kind = simp (f.head, f.accepted 3 (omega arith), f.accepted 4 (omega arith))

-- THE HINT DEPENDS ON NOTHING ELSE than the kind does, and the route flag
pub hint_alike : (type flag : ℕ) (p q : List ℕ) → Alike type p q → delivery_hint type flag p ≡ delivery_hint type flag q
unfolding delivery_hint
hint_alike type flag p q a =
    let f = seen_alike type p q a in
    hint_same type flag (seen type p) (seen type q) f (kind_of type (seen type p))
    ∙ ap (hint_of type flag (seen type q)) (kind_same type (seen type p) (seen type q) f)
